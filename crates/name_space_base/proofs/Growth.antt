-- What making a page keeps.
use Rattle.std.proofs.Common.{◌≡◌, ◌⊎◌, inl, inr, ℕ, ◌+◌, ◌-◌, ◌*◌, ◌/◌, ◌%◌, ◌<◌, ◌≤◌, ◌==◌, ltb, true, List, length, get_or, Option, None, Result, Ok, Err, IsOk, OnOk, OnErr, ap, sym, ◌∙◌, subst, arith}
use Rattle.std.proofs.lemmas.Bool.{false≢true, cases_eq, lt-ltb, ltb-true}
use Rattle.std.specs.FinMap as map
use Rattle.std.specs.FinSet as finset
use Rattle.std.specs.Ordering.{nat_cmp}
use Rattle.name_space_base.specs.Page.{used_in, IsBlank}
use Rattle.name_space_base.specs.Sound.{page_at, look, values_of, made_of, skipped, taken, free, sum_below, IsSound, MakesOnly}
use Rattle.name_space_base.proofs.Places.{none-used}
use Rattle.name_space_base.proofs.Tables.{sum-same, sum-more, sum-le, same_sets, in_here, in_other}
use Rattle.name_space_base.proofs.Laid.{Sheets, is_made, contains-made, values-same, made-same}

pub on-ok : {A E P Q : Type 0} (r : Result A E) → (P → Q) → OnOk r P → OnOk r Q
on-ok (Ok x) f h = f h
on-ok (Err e) f h = h

pub on-err : {A E P Q : Type 0} (r : Result A E) → (P → Q) → OnErr r P → OnErr r Q
on-err (Ok x) f h = h
on-err (Err e) f h = f h

pub for-err : {A E P : Type 0} (r : Result A E) → P → OnErr r P
for-err (Ok x) p = tt
for-err (Err e) p = p

pub on-none : {A E P : Type 0} (r : Result A E) → (P → IsOk r) → OnErr r (P → ⊥)
on-none (Ok x) f = tt
on-none (Err e) f = λ p. false≢true (f p)

module _ {T : Type 0} (ps qs : Sheets T) (p : ℕ) (m : MakesOnly ps qs p) where
  pub look-made : (n : ℕ) → look qs n ≡ look ps n
  look-made n = elim (cases_eq (n / 256) p) [
    | inl e ↦ elim m.this [
      | inl h ↦ ap (λ k. get_or (page_at qs k) (n % 256) None) e ∙ ap (λ (l : List (Option T)). get_or l (n % 256) None) h ∙ ap (λ k. get_or (page_at ps k) (n % 256) None) (sym e)
      | inr h ↦
          let blank : IsBlank (page_at qs p) = h.1 in
          ap (λ k. get_or (page_at qs k) (n % 256) None) e ∙ blank.free (n % 256) ∙ ap (λ (l : List (Option T)). get_or l (n % 256) None) (sym h.0) ∙ ap (λ k. get_or (page_at ps k) (n % 256) None) (sym e)
    ]
    | inr d ↦ ap (λ (l : List (Option T)). get_or l (n % 256) None) (m.others (n / 256) d)
  ]

  pub values-made : values_of qs ≡ values_of ps
  values-made = values-same ps qs look-made

  used-made : (q : ℕ) → used_in (page_at qs q) ≡ used_in (page_at ps q)
  used-made q = elim (cases_eq q p) [
    | inl e ↦ elim m.this [
      | inl h ↦ ap (λ k. used_in (page_at qs k)) e ∙ ap used_in h ∙ ap (λ k. used_in (page_at ps k)) (sym e)
      | inr h ↦
          let blank : IsBlank (page_at qs p) = h.1 in
          ap (λ k. used_in (page_at qs k)) e ∙ none-used (page_at qs p) blank.free ∙ ap used_in (sym h.0) ∙ ap (λ k. used_in (page_at ps k)) (sym e)
    ]
    | inr d ↦ ap used_in (m.others q d)
  ]

  pub taken-made : (q : ℕ) → taken qs q ≡ taken ps q
  taken-made q = ap (λ u. u + skipped q) (used-made q)

  -- what was made stays so
  pub stays-made : (q : ℕ) → 0 < length (page_at ps q) → length (page_at qs q) ≡ length (page_at ps q)
  stays-made q some = elim (cases_eq q p) [
    | inl e ↦ elim m.this [
      | inl h ↦ ap (λ k. length (page_at qs k)) e ∙ ap length h ∙ ap (λ k. length (page_at ps k)) (sym e)
      | inr h ↦ absurd (let z : length (page_at ps q) ≡ 0 = ap (λ k. length (page_at ps k)) e ∙ ap length h.0 in omega arith)
    ]
    | inr d ↦ ap length (m.others q d)
  ]

  module _ (full : List ℕ) (len front front_free room : ℕ) (s : IsSound ps full len front front_free room) where
    shaped-made : (q : ℕ) → (length (page_at qs q) ≡ 0) ⊎ (length (page_at qs q) ≡ 256)
    shaped-made q = elim (cases_eq q p) [
      | inl e ↦ elim m.this [
        | inl h ↦ subst (λ k. (k ≡ 0) ⊎ (k ≡ 256)) (sym (ap (λ k. length (page_at qs k)) e ∙ ap length h ∙ ap (λ k. length (page_at ps k)) (sym e))) (s.shaped q)
        | inr h ↦
            let blank : IsBlank (page_at qs p) = h.1 in
            inr (ap (λ k. length (page_at qs k)) e ∙ blank.long)
      ]
      | inr d ↦ subst (λ k. (k ≡ 0) ⊎ (k ≡ 256)) (sym (ap length (m.others q d))) (s.shaped q)
    ]

    pub sound-made : IsSound qs full len front front_free room
    sound-made = record {
      few = m.few s.few;
      shaped = shaped-made;
      no_zero = look-made 0 ∙ s.no_zero;
      marked = λ q h. s.marked q h ∙ ap (λ t. t == 256) (sym (taken-made q));
      front_few = s.front_few;
      front_made = λ q h. let long : length (page_at ps q) ≡ 256 = s.front_made q h in stays-made q (omega arith) ∙ long;
      front_counted = s.front_counted ∙ sum-same (free ps) (free qs) front (λ q h. ap (λ t. 256 - t) (sym (taken-made q)));
      has_room = s.has_room;
      counted = s.counted ∙ ap (λ (n : map.FinMap nat_cmp T). map.len n) (sym values-made);
    }

  pub made-more : 0 < length (page_at qs p) → made_of qs ≡ finset.insert (made_of ps) p
  made-more some = same_sets _ _ (λ q. elim (cases_eq q p) [
    | inl e ↦ ap (finset.contains (made_of qs)) e ∙ contains-made qs p ∙ lt-ltb 0 (length (page_at qs p)) some ∙ sym (in_here (made_of ps) p) ∙ ap (finset.contains (finset.insert (made_of ps) p)) (sym e)
    | inr d ↦ contains-made qs q ∙ ap (λ (l : List (Option T)). ltb 0 (length l)) (m.others q d) ∙ sym (contains-made ps q) ∙ sym (in_other (made_of ps) p q d)
  ])

  pub made-no_more : page_at qs p ≡ page_at ps p → made_of qs ≡ made_of ps
  made-no_more same = made-same ps qs (λ q. elim (cases_eq q p) [
    | inl e ↦ ap (λ k. is_made qs k) e ∙ ap (λ (l : List (Option T)). ltb 0 (length l)) same ∙ ap (λ k. is_made ps k) (sym e)
    | inr d ↦ ap (λ (l : List (Option T)). ltb 0 (length l)) (m.others q d)
  ])

module _ {T : Type 0} (ps : Sheets T) (full : List ℕ) (len front front_free room : ℕ) (s : IsSound ps full len front front_free room) where
  -- the page after those in front is made
  pub sound-front : (more : ℕ) → front < 256 → 0 < length (page_at ps front) → more ≡ front_free + free ps front → IsSound ps full len (front + 1) more room
  sound-front more small some count = record {
    few = s.few;
    shaped = s.shaped;
    no_zero = s.no_zero;
    marked = s.marked;
    front_few = omega arith;
    front_made = λ q h. elim (cases_eq q front) [
      | inl e ↦ ap (λ k. length (page_at ps k)) e ∙ elim (s.shaped front) [
        | inl z ↦ absurd (omega arith)
        | inr z ↦ z
      ]
      | inr d ↦ s.front_made q (omega arith)
    ];
    front_counted = let c : front_free ≡ sum_below (free ps) front = s.front_counted in let d : sum_below (free ps) (front + 1) ≡ sum_below (free ps) front + free ps front = sum-more (free ps) front in omega arith;
    has_room = λ few. let h = s.has_room (omega arith) in omega arith;
    counted = s.counted;
  }

  pub sound-room : (new : ℕ) → (front < 256 → new ≤ front_free) → IsSound ps full len front front_free new
  sound-room new h = record {
    few = s.few;
    shaped = s.shaped;
    no_zero = s.no_zero;
    marked = s.marked;
    front_few = s.front_few;
    front_made = s.front_made;
    front_counted = s.front_counted;
    has_room = h;
    counted = s.counted;
  }

  pub few-free : front_free ≤ 65536
  few-free =
      let h : front_free ≡ sum_below (free ps) front = s.front_counted in
      let k : sum_below (free ps) front ≤ 256 * front = sum-le (free ps) front (λ q. omega arith) in
      let f : front ≤ 256 = s.front_few in
      omega arith

-- where pages stay made, so they do in the set of them
pub contains-stays : {T : Type 0} (ps qs : Sheets T) → ((q : ℕ) → 0 < length (page_at ps q) → 0 < length (page_at qs q)) → (q : ℕ) → finset.contains (made_of ps) q ≡ true → finset.contains (made_of qs) q ≡ true
contains-stays ps qs stay q h = contains-made qs q ∙ lt-ltb 0 (length (page_at qs q)) (stay q (ltb-true 0 (length (page_at ps q)) (sym (contains-made ps q) ∙ h)))
