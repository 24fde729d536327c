-- Ports that are visited one after another.
use Rattle.std.proofs.Common.{◌≡◌, ◌≢◌, ◌⊎◌, ℕ, ◌<◌, ◌≤◌, List, [], ◌∷◌, ◌++◌, Option, Some, None, Ordering, Less, Equal, Greater, zero, suc, inl, inr, refl, sym, ap, subst, ◌∙◌, arith, append_assoc}
use Rattle.std.specs.Prelude.{All, Contains, Result, Ok, Err, OnOk, is_some, false}
use Rattle.std.specs.List.{list_any}
use Rattle.std.specs.Option.{option_map}
use Rattle.std.specs.Ordering.{is_eq, nat_cmp}
use Rattle.std.specs.FinMap.{nat_cmp-IsAntisymmetric}
use Rattle.std.proofs.lemmas.Bool.Decides.{eqb_tells}
use Rattle.std.proofs.lemmas.List.Elements.{All-append, All-cons, All-nil, All-head, All-tail, All-contains}
use Rattle.mach_types.specs.declared.touched.Touched.{Touched}
use Rattle.copyin_base.specs.Worlds.{WorldView}
use Rattle.mach_fates.specs.declared.fates.Fates.{Fates}
use Rattle.mach_fates.specs.Keeping.{kept_at, or_nothing, Apart, Sees, Settles, TakesFrom, Visits, VisitsBut, Follows}

pub again : (number : ℕ) (w : WorldView) (p : ℕ) (a b c : Option (List ℕ)) → Settles number w p a b → Settles number w p b c → Settles number w p a c
again number w p a b c x y = record {
  live = y.live;
  appends = λ queued is.
      let g = x.appends queued is in
      let h = y.appends queued is in
      record {
        added = g.added ++ h.added;
        more = h.more ∙ ap (λ (ys : List ℕ). ys ++ h.added) g.more ∙ append_assoc (or_nothing a) g.added h.added;
        same = All-append (λ n. n ≡ number) g.added h.added g.same h.same;
        count = λ few. let e = g.count few in h.count (omega (arith, e));
      };
}

-- ---- which ports were visited

all_left : {A : Type 0} (P : A → Type 0) (xs ys : List A) → All P (xs ++ ys) → All P xs
all_left P [] ys h = All-nil P
all_left P (x ∷ xs) ys h = All-cons P x xs (All-head P x (xs ++ ys) h) (all_left P xs ys (All-tail P x (xs ++ ys) h))

all_right : {A : Type 0} (P : A → Type 0) (xs ys : List A) → All P (xs ++ ys) → All P ys
all_right P [] ys h = h
all_right P (x ∷ xs) ys h = all_right P xs ys (All-tail P x (xs ++ ys) h)

sees_none : (f : Fates) → Sees f f
sees_none f = record { more = λ p apart. apart; quiet = λ p apart. refl }

sees_then : (old mid new : Fates) → Sees old mid → Sees mid new → Sees old new
sees_then old mid new a b = record { more = λ p apart. a.more p (b.more p apart); quiet = λ p apart. b.quiet p apart ∙ a.quiet p (b.more p apart) }

sees_one : (number : ℕ) (w : WorldView) (q : ℕ) (old new : Fates) → Visits number w q old new → Sees old new
sees_one number w q old new v = record {
  more = λ p apart. all_left (λ y. y ≢ p) old.visited.items (q ∷ []) (subst (Apart p) v.visited apart);
  quiet = λ p apart. (let last = All-head (λ y. y ≢ p) q [] (all_right (λ y. y ≢ p) old.visited.items (q ∷ []) (subst (Apart p) v.visited apart)) in v.others p (λ e. last (sym e)));
}

-- the port from which was taken is visited too
pub sees_taken : (number : ℕ) (w : WorldView) (source : Option ℕ) (old new : Fates) → TakesFrom number w source old new → Sees old new
sees_taken number w None old new h = subst (Sees old) (sym h) (sees_none old)
sees_taken number w (Some q) old new (mid, takes, v) =
    let seen = sees_one number w q mid new v in
    record {
      more = λ p apart. subst (Apart p) takes.visited (seen.more p apart);
      quiet = λ p apart. (let last = All-head (λ y. y ≢ p) q [] (all_right (λ y. y ≢ p) mid.visited.items (q ∷ []) (subst (Apart p) v.visited apart)) in seen.quiet p apart ∙ takes.others p (λ e. last (sym e)));
    }

pub sees_source : (number : ℕ) (w : WorldView) (source : Option ℕ) (old new : Fates) → TakesFrom number w source old new → (p : ℕ) → source ≡ Some p → Apart p new.visited.items → ⊥
sees_source number w None old new h p is apart = absurd (let no : None ≡ Some p = is in cc)
sees_source number w (Some q) old new (mid, takes, v) p is apart =
    let last = All-head (λ y. y ≢ p) q [] (all_right (λ y. y ≢ p) mid.visited.items (q ∷ []) (subst (Apart p) v.visited apart)) in
    last (let same : Some q ≡ Some p = is in cc)

pub sees_followed : (number : ℕ) (w : WorldView) (source : Option ℕ) (touched : Touched) (old mid new : Fates) → TakesFrom number w source old mid → Follows number w touched mid new → Sees old new
sees_followed number w source touched old mid new takes follows = sees_then old mid new (sees_taken number w source old mid takes) follows.sees

-- ---- ports that are visited

pub none_visited : (P : ℕ → Type 0) (number : ℕ) (w : WorldView) (f : Fates) → ((p : ℕ) → P p) → VisitsBut P number w f f
none_visited P number w f all = record { taken = refl; made = refl; sees = sees_none f; each = λ p. inr (refl, all p) }

pub one_visited : (number : ℕ) (w : WorldView) (q : ℕ) (old new : Fates) → Visits number w q old new → VisitsBut (λ p. p ≢ q) number w old new
one_visited number w q old new v = record {
  taken = v.taken;
  made = v.made;
  sees = sees_one number w q old new v;
  each = λ p. elim (eqb_tells p q) [
    | inl h ↦ inl (subst (λ (x : ℕ). Settles number w x (kept_at old x) (kept_at new x)) (sym h.1) v.settles)
    | inr h ↦ inr (v.others p h.1, h.1)
  ];
}

pub visited_then : (P Q R : ℕ → Type 0) (number : ℕ) (w : WorldView) (old mid new : Fates) → VisitsBut P number w old mid → VisitsBut Q number w mid new → ((p : ℕ) → P p → Q p → R p) → VisitsBut R number w old new
visited_then P Q R number w old mid new a b both = record {
  taken = b.taken ∙ a.taken;
  made = b.made ∙ a.made;
  sees = sees_then old mid new a.sees b.sees;
  each = λ p. elim (a.each p) [
    | inl x ↦ elim (b.each p) [
      | inl y ↦ inl (again number w p (kept_at old p) (kept_at mid p) (kept_at new p) x y)
      | inr y ↦ inl (subst (λ (o : Option (List ℕ)). Settles number w p (kept_at old p) o) (sym y.0) x)
    ]
    | inr x ↦ elim (b.each p) [
      | inl y ↦ inl (subst (λ (o : Option (List ℕ)). Settles number w p o (kept_at new p)) x.0 y)
      | inr y ↦ inr (y.0 ∙ x.0, both p x.1 y.1)
    ]
  ];
}

pub weaker : (P R : ℕ → Type 0) (number : ℕ) (w : WorldView) (old new : Fates) → VisitsBut P number w old new → ((p : ℕ) → P p → R p) → VisitsBut R number w old new
weaker P R number w old new a less = record {
  taken = a.taken;
  made = a.made;
  sees = a.sees;
  each = λ p. elim (a.each p) [ inl x ↦ inl x | inr x ↦ inr (x.0, less p x.1) ];
}

pub apart_nil : {A : Type 0} (x : A) → Apart x []
apart_nil x = All-nil (λ y. y ≢ x)

pub apart_more : {A : Type 0} (x y : A) (xs : List A) → Apart x xs → y ≢ x → Apart x (xs ++ y ∷ [])
apart_more x y xs all not = All-append (λ z. z ≢ x) xs (y ∷ []) all (All-cons (λ z. z ≢ x) y [] not (All-nil (λ z. z ≢ x)))

pub apart_all : {A : Type 0} (x : A) (xs : List A) → Apart x xs → ¬ (Contains xs x)
apart_all x xs all here = All-contains (λ y. y ≢ x) xs x all here refl

not_at : (q k : ℕ) → k ≢ q → is_eq (nat_cmp q k) ≡ false
not_at q k not = go (nat_cmp q k) refl
  where
    go : (r : Ordering) → nat_cmp q k ≡ r → is_eq r ≡ false
    go Less e = refl
    go Greater e = refl
    go Equal e = absurd (not (sym (nat_cmp-IsAntisymmetric q k e)))

-- what is none of the keys is no key
pub apart_none : (xs : List ℕ) (q : ℕ) → Apart q xs → list_any (λ k. is_eq (nat_cmp q k)) xs ≡ false
apart_none [] q all = refl
apart_none (x ∷ xs) q all = rw (not_at q x (All-head (λ y. y ≢ q) x xs all), apart_none xs q (All-tail (λ y. y ≢ q) x xs all)) refl

pub none_kept : {A B : Type 0} (f : A → B) (o : Option A) → is_some o ≡ false → option_map f o ≡ None
none_kept f None e = refl
none_kept f (Some x) e = absurd (cc)

pub on_ok : {A B : Type 0} (r : Result A B) (P Q : Type 0) → OnOk r P → (P → Q) → OnOk r Q
on_ok (Ok x) P Q h f = f h
on_ok (Err x) P Q h f = h

pub below : (a b : ℕ) → (a < b) ⊎ (b ≤ a)
below a zero = inr (omega arith)
below zero (suc b) = inl (omega arith)
below (suc a) (suc b) = elim (below a b) [
  | inl h ↦ inl (omega (arith, h))
  | inr h ↦ inr (omega (arith, h))
]
