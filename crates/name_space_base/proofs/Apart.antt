-- Values in a tree, and the one that stands apart from them.
use Rattle.std.proofs.Common.{◌≡◌, ◌≢◌, inl, inr, ℕ, ◌<◌, ◌≤◌, true, false, cond, nat_lt, List, length, refl, ap, sym, subst, ◌∙◌, Option, Some, None, is_some, IfSome, IfNone, arith}
use Rattle.std.proofs.lemmas.Bool.{cases_lt, cases_eq}
use Rattle.std.proofs.lemmas.Bool.Decides.{nat_tests}
use Rattle.std.specs.Ordering.{nat_cmp}
use Rattle.std.specs.BTreeMap.{is_at}
use Rattle.std.specs.Map.{lookup}
use Rattle.std.specs.FinMap as map
use Rattle.name_space_base.specs.Pages.{IsNextUsed}
use Rattle.name_space_base.specs.High.{HighView, with_kept, least_name, HasApart, KeepsUsed}
use Rattle.name_space_base.proofs.Options.{same_some, some_or_none, none_or_used, is_or_not}
use Rattle.name_space_base.proofs.Tables.{same_gets, put_here, put_other, out_here, out_other}
use Rattle.name_space_base.proofs.Tree.{tree, get-tree, none_where_empty}

is_less : (a b : ℕ) → a < b → nat_lt a b ≡ true
is_less a b h = grind (arith, nat_tests)

is_no_less : (a b : ℕ) → b ≤ a → nat_lt a b ≡ false
is_no_less a b h = grind (arith, nat_tests)

module _ {V : Type 0} where
  pub kept_here : (kept : Option ℕ) (e : Option V) (m : map.FinMap nat_cmp V) (q : ℕ) → kept ≡ Some q → map.get (with_kept kept e m) q ≡ e
  kept_here None e m q is = absurd (some_or_none q None is refl)
  kept_here (Some k) None m q is = ap (λ a. map.get (map.remove m a) q) (same_some k q is) ∙ out_here m q
  kept_here (Some k) (Some x) m q is = ap (λ a. map.get (map.insert m a x) q) (same_some k q is) ∙ put_here m q x

  pub kept_other : (kept : Option ℕ) (e : Option V) (m : map.FinMap nat_cmp V) (q : ℕ) → kept ≢ Some q → map.get (with_kept kept e m) q ≡ map.get m q
  kept_other None e m q d = refl
  kept_other (Some k) None m q d = out_other m k q (λ a. d (ap (λ b. Some b) (sym a)))
  kept_other (Some k) (Some x) m q d = put_other m k x q (λ a. d (ap (λ b. Some b) (sym a)))

  module _ (kept : Option ℕ) (e : Option V) (m : map.FinMap nat_cmp V) where
    -- what stands apart changes
    pub put_kept : (k : ℕ) (x : V) → kept ≡ Some k → with_kept kept (Some x) m ≡ map.insert (with_kept kept e m) k x
    put_kept k x is = grind (arith, same_gets, cases_eq, kept_here, put_here, kept_other, same_some, put_other)

    pub out_kept : (k : ℕ) → kept ≡ Some k → with_kept kept None m ≡ map.remove (with_kept kept e m) k
    out_kept k is = grind (arith, same_gets, cases_eq, kept_here, out_here, kept_other, same_some, out_other)

    -- one of the others changes
    pub put_beside : (k : ℕ) (x : V) → kept ≢ Some k → with_kept kept e (map.insert m k x) ≡ map.insert (with_kept kept e m) k x
    put_beside k x d = grind (arith, same_gets, is_or_not, kept_here, put_other, kept_other, cases_eq, put_here)

    pub out_beside : (k : ℕ) → kept ≢ Some k → with_kept kept e (map.remove m k) ≡ map.remove (with_kept kept e m) k
    out_beside k d = grind (arith, same_gets, is_or_not, kept_here, out_other, kept_other, cases_eq, out_here)

  -- the place goes to another name: what stands under that comes out of the others
  pub kept_moved : (m : map.FinMap nat_cmp V) (k : ℕ) (e : Option V) → e ≡ map.get m k → with_kept (Some k) e (map.remove m k) ≡ m
  kept_moved m k e is = same_gets _ _ (λ q. elim (cases_eq q k) [
    | inl a ↦ kept_here (Some k) e (map.remove m k) q (ap (λ b. Some b) (sym a)) ∙ is ∙ ap (map.get m) (sym a)
    | inr d ↦ kept_other (Some k) e (map.remove m k) q (λ a. d (sym (same_some k q a))) ∙ out_other m k q d
  ])

  -- where nothing stands apart, all is in the others
  pub none_apart : (kept : Option ℕ) (m : map.FinMap nat_cmp V) → ((k : ℕ) → kept ≡ Some k → map.get m k ≡ None) → with_kept kept None m ≡ m
  none_apart None m absent = refl
  none_apart (Some k) m absent = grind (arith, same_gets, cases_eq, out_here, out_other)

  view_of : map.FinMap nat_cmp V → Option ℕ → HighView V
  view_of a k = record { names = a; kept = k }

  pub same_high : (a b : map.FinMap nat_cmp V) (k l : Option ℕ) → a ≡ b → k ≡ l → ◌≡◌ {A = HighView V} record { names = a; kept = k } record { names = b; kept = l }
  unfolding view_of
  same_high a b k l e f = ap (λ m. view_of m k) e ∙ ap (view_of b) f

  -- ---- as a whole sees them

  module _ (es : List (ℕ × V)) (kept : Option ℕ) (e : Option V) (v : HighView V) (view_is : ◌≡◌ {A = HighView V} record { names = with_kept kept e (tree es); kept = kept } v) where
    pub names_are : with_kept kept e (tree es) ≡ v.names
    names_are = ap (λ (a : HighView V). a.names) view_is

    pub kept_is : kept ≡ v.kept
    kept_is = ap (λ (a : HighView V). a.kept) view_is

    -- nothing is in the tree, and nothing stands apart
    pub none_in_either : length es ≡ 0 → e ≡ None → (q : ℕ) → map.get v.names q ≡ None
    none_in_either no_entry no_value q = sym (ap (λ (m : map.FinMap nat_cmp V). map.get m q) names_are) ∙ ap (λ (x : Option V). map.get (with_kept kept x (tree es)) q) no_value ∙ either kept (none_where_empty es no_entry q)
      where
        either : (k : Option ℕ) → map.get (tree es) q ≡ None → map.get (with_kept k None (tree es)) q ≡ None
        either None none = none
        either (Some k) none = elim (cases_eq q k) [
          | inl a ↦ ap (map.get (map.remove (tree es) k)) a ∙ out_here (tree es) k
          | inr d ↦ out_other (tree es) k q d ∙ none
        ]

    pub seen_kept : (k : ℕ) → v.kept ≡ Some k → e ≡ map.get v.names k
    seen_kept k h = sym (kept_here kept e (tree es) k (kept_is ∙ h)) ∙ ap (λ (m : map.FinMap nat_cmp V). map.get m k) names_are

    pub seen_tree : (k : ℕ) → v.kept ≢ Some k → map.get (tree es) k ≡ map.get v.names k
    seen_tree k d = sym (kept_other kept e (tree es) k (λ h. d (sym kept_is ∙ h))) ∙ ap (λ (m : map.FinMap nat_cmp V). map.get m k) names_are

    pub seen_other : (k : ℕ) → v.kept ≢ Some k → lookup (is_at (nat_cmp k)) es ≡ map.get v.names k
    seen_other k d = sym (get-tree es k) ∙ seen_tree k d

    pub view_put_kept : (k : ℕ) (x : V) → v.kept ≡ Some k → ◌≡◌ {A = HighView V} record { names = with_kept kept (Some x) (tree es); kept = kept } record { names = map.insert v.names k x; kept = v.kept }
    view_put_kept k x h = same_high _ _ kept v.kept (put_kept kept e (tree es) k x (kept_is ∙ h) ∙ ap (λ (m : map.FinMap nat_cmp V). map.insert m k x) names_are) kept_is

    pub view_put : (fs : List (ℕ × V)) (k : ℕ) (x : V) → v.kept ≢ Some k → tree fs ≡ map.insert (tree es) k x →
        ◌≡◌ {A = HighView V} record { names = with_kept kept e (tree fs); kept = kept } record { names = map.insert v.names k x; kept = v.kept }
    view_put fs k x d is = grind (arith, same_high, put_beside, kept_is, names_are)

    pub view_out_kept : (k : ℕ) → v.kept ≡ Some k → ◌≡◌ {A = HighView V} record { names = with_kept kept None (tree es); kept = kept } record { names = map.remove v.names k; kept = v.kept }
    view_out_kept k h = same_high _ _ kept v.kept (out_kept kept e (tree es) k (kept_is ∙ h) ∙ ap (λ (m : map.FinMap nat_cmp V). map.remove m k) names_are) kept_is

    pub view_out : (fs : List (ℕ × V)) (k : ℕ) → v.kept ≢ Some k → tree fs ≡ map.remove (tree es) k →
        ◌≡◌ {A = HighView V} record { names = with_kept kept e (tree fs); kept = kept } record { names = map.remove v.names k; kept = v.kept }
    view_out fs k d is = grind (arith, same_high, out_beside, kept_is, names_are)

    pub apart_put : (fs : List (ℕ × V)) (k : ℕ) (x : V) → HasApart kept (tree es) → v.kept ≢ Some k → tree fs ≡ map.insert (tree es) k x → HasApart kept (tree fs)
    apart_put fs k x apart d is = λ n h. ap (λ (m : map.FinMap nat_cmp V). map.get m n) is ∙ put_other (tree es) k x n (λ a. d (sym kept_is ∙ h ∙ ap (λ b. Some b) a)) ∙ apart n h

    pub apart_out : (fs : List (ℕ × V)) (k : ℕ) → HasApart kept (tree es) → v.kept ≢ Some k → tree fs ≡ map.remove (tree es) k → HasApart kept (tree fs)
    apart_out fs k apart d is = λ n h. ap (λ (m : map.FinMap nat_cmp V). map.get m n) is ∙ out_other (tree es) k n (λ a. d (sym kept_is ∙ h ∙ ap (λ b. Some b) a)) ∙ apart n h

    -- the place goes to another name
    pub view_moved : (fs gs : List (ℕ × V)) (k : ℕ) (x : Option V) → tree fs ≡ with_kept kept e (tree es) → tree gs ≡ map.remove (tree fs) k → x ≡ map.get (tree fs) k →
        ◌≡◌ {A = HighView V} record { names = with_kept (Some k) x (tree gs); kept = Some k } record { names = v.names; kept = Some k }
    view_moved fs gs k x back out there = grind (arith, same_high, kept_moved, names_are)

    pub keeps_used : ((k : ℕ) × (kept ≡ Some k) × (is_some e ≡ true)) → KeepsUsed v.names v.kept
    keeps_used w =
        let is : v.kept ≡ Some w.0 = sym kept_is ∙ w.1 in
        (w.0, is, ap is_some (sym (seen_kept w.0 is)) ∙ w.2)

    -- ---- the next name

    pub kept_next : (start k : ℕ) → v.kept ≡ Some k → map.contains_key v.names k ≡ true → start ≤ k → ((n : ℕ) → start ≤ n → n < k → map.get (tree es) n ≡ None) → IsNextUsed v.names start k
    kept_next start k is used from none = record {
      from = from;
      used = used;
      least = λ n a b. sym (seen_tree n (λ h. let same : n ≡ k = same_some n k (sym h ∙ is) in omega arith)) ∙ none n a b;
    }

    pub other_next : (start k : ℕ) → HasApart kept (tree es) → IsNextUsed (tree es) start k → ((n : ℕ) → start ≤ n → n < k → v.kept ≡ Some n → map.get v.names n ≡ None) → IsNextUsed v.names start k
    other_next start k apart x none = record {
      from = x.from;
      used = ap is_some (sym (seen_tree k not_kept)) ∙ x.used;
      least = λ n a b. elim (is_or_not v.kept n) [ inl is ↦ none n a b is | inr d ↦ sym (seen_tree n d) ∙ x.least n a b ];
    }
      where
        not_kept : v.kept ≢ Some k
        not_kept is = none_or_used (map.get (tree es) k) (apart k (kept_is ∙ is)) x.used

    pub others_next : (start : ℕ) (r : Option ℕ) → HasApart kept (tree es) → IfSome r (IsNextUsed (tree es) start) → ((n : ℕ) → start ≤ n → v.kept ≡ Some n → map.get v.names n ≡ None) → IfSome r (IsNextUsed v.names start)
    others_next start None apart x none = tt
    others_next start (Some k) apart x none = other_next start k apart x (λ n a b. none n a)

    pub no_next : (start : ℕ) (r : Option ℕ) → IfNone r ((n : ℕ) → start ≤ n → map.get (tree es) n ≡ None) → ((n : ℕ) → start ≤ n → v.kept ≡ Some n → map.get v.names n ≡ None) →
        IfNone r ((n : ℕ) → start ≤ n → map.get v.names n ≡ None)
    no_next start (Some k) x none = tt
    no_next start None x none = λ n a. elim (is_or_not v.kept n) [ inl is ↦ none n a is | inr d ↦ sym (seen_tree n d) ∙ x n a ]

    pub least_next : (start k : ℕ) (r : Option ℕ) → HasApart kept (tree es) → v.kept ≡ Some k → map.contains_key v.names k ≡ true → start ≤ k → IfSome r (IsNextUsed (tree es) start) →
        IfNone r ((n : ℕ) → start ≤ n → map.get (tree es) n ≡ None) → IsNextUsed v.names start (least_name k r)
    least_next start k None apart is used from found none = kept_next start k is used from (λ n a b. none n a)
    least_next start k (Some o) apart is used from found none = elim (cases_lt o k) [
      | inl h ↦ subst (λ b. IsNextUsed v.names start (cond b o k)) (sym (is_less o k h))
          (other_next start o apart found (λ n a b g. absurd (let same : n ≡ k = same_some n k (sym g ∙ is) in omega arith)))
      | inr h ↦ subst (λ b. IsNextUsed v.names start (cond b o k)) (sym (is_no_less o k h)) (kept_next start k is used from (λ n a b. found.least n a (omega arith)))
    ]
