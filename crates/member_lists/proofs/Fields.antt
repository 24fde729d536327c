-- The ends of two lists, each in a field, as one map.
use Rattle.std.proofs.Common.{◌≡◌, ◌≢◌, ℕ, ◌+◌, ◌&&◌, Bool, eqb, cond, Option, Some, None, is_some, refl, sym, ◌∙◌, ap, arith}
use Rattle.std.specs.Prelude.{unwrap_or}
use Rattle.std.specs.Ordering.{nat_cmp}
use Rattle.std.specs.Cmp.{nat_cmp_total}
use Rattle.std.specs.FinMap as map
use Rattle.member_lists.specs.declared.Ends.{Ends}
use Rattle.std.specs.Option.{option_or}
use Rattle.member_lists.specs.Chains.{ends_at, blank_ends, left_by, joined_by}
use Rattle.member_lists.specs.Fields.{taken, put_if, both_ends, AreEnds}
use Rattle.member_lists.proofs.Times.{equal_or_not}
use Rattle.member_lists.proofs.Sound.{put_here, put_other, out_here, out_other, same_gets}

abbrev Ended : Type 0
Ended = map.FinMap nat_cmp Ends

abbrev none_yet : Ended
none_yet = map.empty

nothing_yet : (l : ℕ) → map.get none_yet l ≡ None
nothing_yet l = map.get-empty {X = Ends} nat_cmp l

-- ---- one list in a field

-- the ends, where there is a first item
abbrev pub some_if : Option ℕ → Ends → Option Ends
some_if None e = None
some_if (Some x) e = Some e

if_here : (o : Option ℕ) (m : Ended) (l : ℕ) (e : Ends) → map.get m l ≡ None → map.get (put_if o m l e) l ≡ some_if o e
if_here None m l e none = none
if_here (Some x) m l e none = put_here m l e

if_other : (o : Option ℕ) (m : Ended) (l : ℕ) (e : Ends) (k : ℕ) → k ≢ l → map.get (put_if o m l e) k ≡ map.get m k
if_other None m l e k d = refl
if_other (Some x) m l e k d = put_other m l e k d

if_len : (o : Option ℕ) (m : Ended) (l : ℕ) (e : Ends) → map.get m l ≡ None → map.len (put_if o m l e) ≡ map.len m + taken o
if_len None m l e none = omega arith
if_len (Some x) m l e none = map.len-insert nat_cmp_total m l e ∙ ap (λ b. cond b (map.len m) (map.len m + 1)) (ap is_some none)

or_blank : (o : Option ℕ) (e : Ends) → e.first ≡ o → (e.first ≡ None → e ≡ blank_ends) → unwrap_or (some_if o e) blank_ends ≡ e
or_blank None e is blank = sym (blank is)
or_blank (Some x) e is blank = refl

none_taken : (p q : Option ℕ) → (eqb (taken p) 0 && eqb (taken q) 0) ≡ eqb (taken p + taken q) 0
none_taken None None = refl
none_taken None (Some y) = refl
none_taken (Some x) None = refl
none_taken (Some x) (Some y) = refl

zero_one : ◌≢◌ {A = ℕ} 0 1
zero_one e = omega arith

one_zero : ◌≢◌ {A = ℕ} 1 0
one_zero e = omega arith

-- ---- both

-- the map has these ends of the lists 0 and 1, and no others
pub record AreIn (w : Ended) (of_zero of_one : Ends) : Type 0 where
  pub at_zero : map.get w 0 ≡ some_if of_zero.first of_zero
  pub at_one : map.get w 1 ≡ some_if of_one.first of_one
  pub at_other : (c : ℕ) → c ≢ 0 → c ≢ 1 → map.get w c ≡ None

same_in : (w v : Ended) (of_zero of_one : Ends) → AreIn w of_zero of_one → AreIn v of_zero of_one → w ≡ v
same_in w v of_zero of_one a b = grind (arith, same_gets, equal_or_not)

module _ (of_zero of_one : Ends) where
  abbrev both : Ended
  both = both_ends of_zero of_one

  no_one : map.get (put_if of_zero.first none_yet 0 of_zero) 1 ≡ None
  no_one = if_other of_zero.first none_yet 0 of_zero 1 one_zero ∙ nothing_yet 1

  both_in : AreIn both of_zero of_one
  both_in = grind (arith, if_other, zero_one, if_here, nothing_yet, no_one)

  both_len : map.len both ≡ taken of_zero.first + taken of_one.first
  both_len = grind (arith, map.len-empty nat_cmp Ends, if_len of_zero.first none_yet 0 of_zero (nothing_yet 0), if_len of_one.first (put_if of_zero.first none_yet 0 of_zero) 1 of_one no_one)

  pub empty_in : (a b : Bool) → a ≡ eqb (taken of_zero.first) 0 → b ≡ eqb (taken of_one.first) 0 → (w : Ended) → both ≡ w → (a && b) ≡ eqb (map.len w) 0
  empty_in a b a_is b_is w is = grind (arith, eqb, none_taken, both_len)

  module _ (k : AreEnds of_zero of_one) where
    pub zero_is : of_zero ≡ ends_at both 0
    zero_is = sym (ap (λ o. unwrap_or o blank_ends) both_in.at_zero ∙ or_blank of_zero.first of_zero refl k.blank_zero)

    pub one_is : of_one ≡ ends_at both 1
    one_is = sym (ap (λ o. unwrap_or o blank_ends) both_in.at_one ∙ or_blank of_one.first of_one refl k.blank_one)

-- ---- one of them has other ends

some_is : (o : Option ℕ) (e : Ends) (x : ℕ) → o ≡ Some x → some_if o e ≡ Some e
some_is o e x is = ap (λ p. some_if p e) is

module _ (of_zero of_one now : Ends) where
  abbrev was : Ended
  was = both_ends of_zero of_one

  in_was : AreIn was of_zero of_one
  in_was = both_in of_zero of_one

  pub zero_put : (x : ℕ) → now.first ≡ Some x → both_ends now of_one ≡ map.insert was 0 now
  zero_put x some = same_in (both_ends now of_one) (map.insert was 0 now) now of_one (both_in now of_one) (record {
    at_zero = put_here was 0 now ∙ sym (some_is now.first now x some);
    at_one = put_other was 0 now 1 one_zero ∙ in_was.at_one;
    at_other = λ c d f. put_other was 0 now c d ∙ in_was.at_other c d f;
  })

  pub zero_out : now.first ≡ None → both_ends now of_one ≡ map.remove was 0
  zero_out none = same_in (both_ends now of_one) (map.remove was 0) now of_one (both_in now of_one) (record {
    at_zero = out_here was 0 ∙ sym (ap (λ o. some_if o now) none);
    at_one = out_other was 0 1 one_zero ∙ in_was.at_one;
    at_other = λ c d f. out_other was 0 c d ∙ in_was.at_other c d f;
  })

  pub one_put : (x : ℕ) → now.first ≡ Some x → both_ends of_zero now ≡ map.insert was 1 now
  one_put x some = same_in (both_ends of_zero now) (map.insert was 1 now) of_zero now (both_in of_zero now) (record {
    at_zero = put_other was 1 now 0 zero_one ∙ in_was.at_zero;
    at_one = put_here was 1 now ∙ sym (some_is now.first now x some);
    at_other = λ c d f. put_other was 1 now c f ∙ in_was.at_other c d f;
  })

  pub one_out : now.first ≡ None → both_ends of_zero now ≡ map.remove was 1
  one_out none = same_in (both_ends of_zero now) (map.remove was 1) of_zero now (both_in of_zero now) (record {
    at_zero = out_other was 1 0 zero_one ∙ in_was.at_zero;
    at_one = out_here was 1 ∙ sym (ap (λ o. some_if o now) none);
    at_other = λ c d f. out_other was 1 c f ∙ in_was.at_other c d f;
  })

-- ---- what is said of the ends in the fields is said of the map that they are seen as, and of a list's number

pub said : (v w : Ended) (l k : ℕ) → v ≡ w → l ≡ k → (P : Ended → ℕ → Type 0) → P v k → P w l
said v w l k is same P h = rw (← is, same) h

-- ---- an item leaves or joins one of them

joined_some : (o : Option ℕ) (item : ℕ) → (x : ℕ) × (option_or o (Some item) ≡ Some x)
joined_some None item = (item, refl)
joined_some (Some x) item = (x, refl)

no_first : (o : Option ℕ) (x : ℕ) → o ≡ Some x → o ≡ None → ⊥
no_first o x some none = let e : Some x ≡ None = sym some ∙ none in cc

module _ (of_zero of_one : Ends) (k : AreEnds of_zero of_one) where
  abbrev ended : Ended
  ended = both_ends of_zero of_one

  module _ (item : ℕ) (now : Ends) where
    pub zero_joined : now ≡ joined_by item of_zero → both_ends now of_one ≡ map.insert ended 0 (joined_by item (ends_at ended 0))
    zero_joined is = grind (arith, joined_some, zero_put, zero_is)

    pub one_joined : now ≡ joined_by item of_one → both_ends of_zero now ≡ map.insert ended 1 (joined_by item (ends_at ended 1))
    one_joined is = grind (arith, joined_some, one_put, one_is)

    pub zero_joined_are : now ≡ joined_by item of_zero → AreEnds now of_one
    zero_joined_are is = grind (arith, joined_some, no_first)

    pub one_joined_are : now ≡ joined_by item of_one → AreEnds of_zero now
    one_joined_are is = grind (arith, joined_some, no_first)

  module _ (before behind : Option ℕ) (now : Ends) where
    module _ (is : now ≡ left_by before behind of_zero) where
      zero_left : now ≡ left_by before behind (ends_at ended 0)
      zero_left = is ∙ ap (left_by before behind) (zero_is of_zero of_one k)

      pub zero_left_out : (left_by before behind (ends_at ended 0)).first ≡ None → both_ends now of_one ≡ map.remove ended 0
      zero_left_out none = zero_out of_zero of_one now (ap (λ (e : Ends). e.first) zero_left ∙ none)

      pub zero_left_put : (x : ℕ) → (left_by before behind (ends_at ended 0)).first ≡ Some x → both_ends now of_one ≡ map.insert ended 0 (left_by before behind (ends_at ended 0))
      zero_left_put x some = zero_put of_zero of_one now x (ap (λ (e : Ends). e.first) zero_left ∙ some) ∙ ap (map.insert ended 0) zero_left

      pub zero_left_are : ((left_by before behind (ends_at ended 0)).first ≡ None → left_by before behind (ends_at ended 0) ≡ blank_ends) → AreEnds now of_one
      zero_left_are blank = record { blank_zero = λ none. zero_left ∙ blank (sym (ap (λ (e : Ends). e.first) zero_left) ∙ none); blank_one = k.blank_one }

    module _ (is : now ≡ left_by before behind of_one) where
      one_left : now ≡ left_by before behind (ends_at ended 1)
      one_left = is ∙ ap (left_by before behind) (one_is of_zero of_one k)

      pub one_left_out : (left_by before behind (ends_at ended 1)).first ≡ None → both_ends of_zero now ≡ map.remove ended 1
      one_left_out none = one_out of_zero of_one now (ap (λ (e : Ends). e.first) one_left ∙ none)

      pub one_left_put : (x : ℕ) → (left_by before behind (ends_at ended 1)).first ≡ Some x → both_ends of_zero now ≡ map.insert ended 1 (left_by before behind (ends_at ended 1))
      one_left_put x some = one_put of_zero of_one now x (ap (λ (e : Ends). e.first) one_left ∙ some) ∙ ap (map.insert ended 1) one_left

      pub one_left_are : ((left_by before behind (ends_at ended 1)).first ≡ None → left_by before behind (ends_at ended 1) ≡ blank_ends) → AreEnds of_zero now
      one_left_are blank = record { blank_zero = k.blank_zero; blank_one = λ none. one_left ∙ blank (sym (ap (λ (e : Ends). e.first) one_left) ∙ none) }
