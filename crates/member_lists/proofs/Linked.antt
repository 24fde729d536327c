-- Items that are linked both ways, and what a write leaves of them.
use Rattle.std.proofs.Common.{◌≡◌, ◌≢◌, inl, inr, ℕ, zero, suc, ◌+◌, ◌<◌, ◌≤◌, Bool, true, false, cond, List, [], ◌∷◌, ◌++◌, length, Option, Some, None, slice_get, refl, sym, ◌∙◌, ap, arith}
use Rattle.std.specs.List.{filter}
use Rattle.member_lists.specs.declared.Link.{Link}
use Rattle.member_lists.specs.Chains.{times, first_or, last_or, walk, pick, IsLinked, IsBehindSet, IsBeforeSet}
use Rattle.member_lists.proofs.Times.{same_some, none_some, equal_or_not, true_or_false, times_here, times_other, times_more, times-append, last_some, last_inside, last_within, first_within, last-append, first-append}

pub linked-append : (links : List Link) (p : Option ℕ) (xs ys : List ℕ) (n : Option ℕ) → IsLinked links p xs (first_or ys n) → IsLinked links (last_or p xs) ys n → IsLinked links p (xs ++ ys) n
linked-append links p [] ys n a b = b
linked-append links p (x ∷ xs) ys n a b = grind (arith, linked-append links (Some x) xs ys n a.1 b, first-append)

pub linked-front : (links : List Link) (p : Option ℕ) (xs ys : List ℕ) (n : Option ℕ) → IsLinked links p (xs ++ ys) n → IsLinked links p xs (first_or ys n)
linked-front links p [] ys n a = tt
linked-front links p (x ∷ xs) ys n a = grind (arith, linked-front links (Some x) xs ys n a.1, first-append)

pub linked-back : (links : List Link) (p : Option ℕ) (xs ys : List ℕ) (n : Option ℕ) → IsLinked links p (xs ++ ys) n → IsLinked links (last_or p xs) ys n
linked-back links p [] ys n a = a
linked-back links p (x ∷ xs) ys n a = linked-back links (Some x) xs ys n a.1

-- the same links, linked as before
pub linked-frame : (old new : List Link) (p : Option ℕ) (xs : List ℕ) (n : Option ℕ) → ((x : ℕ) → 0 < times x xs → slice_get new x ≡ slice_get old x) → IsLinked old p xs n → IsLinked new p xs n
linked-frame old new p [] n same a = tt
linked-frame old new p (x ∷ xs) n same a = (
  record { link = a.0.link; there = same x (let e = times_here x x xs refl in omega arith) ∙ a.0.there; before_is = a.0.before_is; behind_is = a.0.behind_is },
  linked-frame old new (Some x) xs n (λ y h. same y (let e = times_more y x xs in omega arith)) a.1,
)

-- each has a link
pub linked_there : (links : List Link) (p : Option ℕ) (xs : List ℕ) (n : Option ℕ) → IsLinked links p xs n → (x : ℕ) → 0 < times x xs → (link : Link) × (slice_get links x ≡ Some link)
linked_there links p [] n a x h = absurd (omega arith)
linked_there links p (y ∷ xs) n a x h = elim (equal_or_not x y) [
  | inl e ↦ (a.0.link, ap (slice_get links) e ∙ a.0.there)
  | inr d ↦ linked_there links (Some y) xs n a.1 x (let e = times_other x y xs d in omega arith)
]

-- another stands behind the last one
pub linked-end : (old new : List Link) (p : Option ℕ) (xs : List ℕ) (m n : Option ℕ)
    → ((x : ℕ) (link : Link) → 0 < times x xs → last_or p xs ≡ Some x → slice_get old x ≡ Some link → slice_get new x ≡ Some (record link { behind = n }))
    → ((x : ℕ) → 0 < times x xs → last_or p xs ≢ Some x → slice_get new x ≡ slice_get old x)
    → ((x : ℕ) → times x xs ≤ 1) → IsLinked old p xs m → IsLinked new p xs n
linked-end old new p [] m n set others once a = tt
linked-end old new p (x ∷ []) m n set others once a = grind (arith, times_here)
linked-end old new p (x ∷ y ∷ xs) m n set others once a =
    let here = times_here x x (y ∷ xs) refl in
    let first : last_or (Some x) (y ∷ xs) ≢ Some x = (λ e. let inside = last_inside (Some x) y xs x e in let one = once x in omega arith) in (
      record { link = a.0.link; there = others x (omega arith) first ∙ a.0.there; before_is = a.0.before_is; behind_is = a.0.behind_is },
      linked-end old new (Some x) (y ∷ xs) m n
          (λ z link h e g. set z link (let more = times_more z x (y ∷ xs) in omega arith) e g)
          (λ z h d. others z (let more = times_more z x (y ∷ xs) in omega arith) d)
          (λ z. let one = once z in let more = times_more z x (y ∷ xs) in omega arith) a.1,
    )

-- another stands before the first one
pub linked-start : (old new : List Link) (p q : Option ℕ) (xs : List ℕ) (n : Option ℕ)
    → ((x : ℕ) (link : Link) → 0 < times x xs → first_or xs None ≡ Some x → slice_get old x ≡ Some link → slice_get new x ≡ Some (record link { before = q }))
    → ((x : ℕ) → 0 < times x xs → first_or xs None ≢ Some x → slice_get new x ≡ slice_get old x)
    → ((x : ℕ) → times x xs ≤ 1) → IsLinked old p xs n → IsLinked new q xs n
linked-start old new p q [] n set others once a = tt
linked-start old new p q (x ∷ xs) n set others once a = grind (arith, times_here, linked-frame, times_more, same_some)

-- ---- going along

pub walk-linked : (links : List Link) (p : Option ℕ) (xs : List ℕ) (n : ℕ) → IsLinked links p xs None → length xs ≤ n → walk links n (first_or xs None) ≡ xs
walk-linked links p [] zero a few = refl
walk-linked links p [] (suc n) a few = refl
walk-linked links p (x ∷ xs) zero a few = absurd (omega arith)
walk-linked links p (x ∷ xs) (suc n) a few = grind (arith, walk-linked links (Some x) xs n a.1 (omega arith))

one_on : (x : ℕ) (xs : List ℕ) (j : ℕ) → slice_get (x ∷ xs) (suc j + 1) ≡ slice_get xs (j + 1)
one_on x xs j = ap (slice_get (x ∷ xs)) (let e : suc j + 1 ≡ suc (j + 1) = omega arith in e)

-- what stands behind an item that the test keeps
pub record IsRest (links : List Link) (q : ℕ → Bool) (item i : ℕ) (xs : List ℕ) : Type 0 where
  pub back : List ℕ
  pub link : Link
  pub there : slice_get links item ≡ Some link
  pub behind : link.behind ≡ first_or back None
  pub linked : IsLinked links (Some item) back None
  pub few : length back ≤ length xs
  pub next : slice_get (filter q xs) (i + 1) ≡ slice_get (filter q back) 0

module _ (links : List Link) (q : ℕ → Bool) (item : ℕ) (p : Option ℕ) (x : ℕ) (xs : List ℕ) (a : IsLinked links p (x ∷ xs) None) where
  here : q x ≡ true → x ≡ item → IsRest links q item 0 (x ∷ xs)
  here t same = grind (arith, slice_get)

  later : (j : ℕ) → q x ≡ true → IsRest links q item j xs → IsRest links q item (suc j) (x ∷ xs)
  later j t rest = grind (arith, slice_get, one_on)

  passed : (j : ℕ) → q x ≡ false → IsRest links q item j xs → IsRest links q item j (x ∷ xs)
  passed j f rest = grind (arith, slice_get)

  kept : (j : ℕ) → q x ≡ true → slice_get (filter q (x ∷ xs)) j ≡ Some item → slice_get (x ∷ filter q xs) j ≡ Some item
  kept j t is = ap (λ b. slice_get (cond b (x ∷ filter q xs) (filter q xs)) j) (sym t) ∙ is

  left : (j : ℕ) → q x ≡ false → slice_get (filter q (x ∷ xs)) j ≡ Some item → slice_get (filter q xs) j ≡ Some item
  left j f is = ap (λ b. slice_get (cond b (x ∷ filter q xs) (filter q xs)) j) (sym f) ∙ is

pub rest_at : (links : List Link) (q : ℕ → Bool) (item i : ℕ) (p : Option ℕ) (xs : List ℕ) → IsLinked links p xs None → slice_get (filter q xs) i ≡ Some item → IsRest links q item i xs
rest_at links q item i p [] a is = absurd (none_some item is)
rest_at links q item zero p (x ∷ xs) a is = elim (true_or_false (q x)) [
  | inl t ↦ here links q item p x xs a t (same_some x item (kept links q item p x xs a 0 t is))
  | inr f ↦ passed links q item p x xs a 0 f (rest_at links q item 0 (Some x) xs a.1 (left links q item p x xs a 0 f is))
]
rest_at links q item (suc j) p (x ∷ xs) a is = elim (true_or_false (q x)) [
  | inl t ↦ later links q item p x xs a j t (rest_at links q item j (Some x) xs a.1 (kept links q item p x xs a (suc j) t is))
  | inr f ↦ passed links q item p x xs a (suc j) f (rest_at links q item (suc j) (Some x) xs a.1 (left links q item p x xs a (suc j) f is))
]

-- ---- ends

pub pick_some : (o a b : Option ℕ) (z : ℕ) → o ≡ Some z → pick o a b ≡ b
pick_some None a b z e = absurd (none_some z e)
pick_some (Some y) a b z e = refl

pub first_without : (front : List ℕ) (item : ℕ) (back : List ℕ) → pick (last_or None front) (first_or back None) (first_or (front ++ item ∷ back) None) ≡ first_or (front ++ back) None
first_without [] item back = refl
first_without (x ∷ front) item back = let last = last_some x front in pick_some _ _ _ last.0 last.1

pub last_without : (front : List ℕ) (item : ℕ) (back : List ℕ) → pick (first_or back None) (last_or None front) (last_or None (front ++ item ∷ back)) ≡ last_or None (front ++ back)
last_without front item [] = sym (last-append None front [])
last_without front item (y ∷ back) = last-append None front (item ∷ y ∷ back) ∙ sym (last-append None front (y ∷ back))

-- ---- with an item at the end

module _ (old new : List Link) (xs : List ℕ) (item : ℕ) (link : Link) (once : (x : ℕ) → times x xs ≤ 1) (apart : times item xs ≡ 0)
    (there : slice_get new item ≡ Some link) (before : link.before ≡ last_or None xs) (behind : link.behind ≡ None)
    (set : (x : ℕ) (l : Link) → 0 < times x xs → last_or None xs ≡ Some x → slice_get old x ≡ Some l → slice_get new x ≡ Some (record l { behind = Some item }))
    (others : (x : ℕ) → 0 < times x xs → last_or None xs ≢ Some x → slice_get new x ≡ slice_get old x) where
  pub linked-pushed : IsLinked old None xs None → IsLinked new None (xs ++ item ∷ []) None
  linked-pushed a = grind (arith, linked-append, linked-end)

-- ---- without an item

module _ (old mid new : List Link) (front : List ℕ) (item : ℕ) (back : List ℕ) (once : (x : ℕ) → times x (front ++ item ∷ back) ≤ 1)
    (ahead : IsBehindSet old mid (last_or None front) (first_or back None)) (rear : IsBeforeSet mid new (first_or back None) (last_or None front)) where
  counted : (x : ℕ) → times x (front ++ item ∷ back) ≡ times x front + times x (item ∷ back)
  counted x = times-append x front (item ∷ back)

  once_front : (x : ℕ) → times x front ≤ 1
  once_front x = let a = counted x in let b = once x in omega arith

  once_back : (x : ℕ) → times x back ≤ 1
  once_back x = let a = counted x in let b = once x in let c = times_more x item back in omega arith

  not_first : (x : ℕ) → 0 < times x front → first_or back None ≢ Some x
  not_first x h e = let a = counted x in let b = once x in let c = times_more x item back in let d = first_within back x e in omega arith

  not_last : (x : ℕ) → 0 < times x back → last_or None front ≢ Some x
  not_last x h e = let a = counted x in let b = once x in let c = times_more x item back in let d = last_within front x e in omega arith

  pub linked-left : IsLinked old None (front ++ item ∷ back) None → IsLinked new None (front ++ back) None
  linked-left a =
      linked-append new None front back None
      (linked-end old new None front (Some item) (first_or back None)
      (λ x link h e g. rear.others x (not_first x h) ∙ ahead.set x link e g)
      (λ x h d. rear.others x (not_first x h) ∙ ahead.others x d)
      once_front (linked-front old None front (item ∷ back) None a))
      (linked-start old new (Some item) (last_or None front) back None
      (λ x link h e g. rear.set x link e (ahead.others x (not_last x h) ∙ g))
      (λ x h d. rear.others x d ∙ ahead.others x (not_last x h))
      once_back (linked-back old None front (item ∷ back) None a).1)
