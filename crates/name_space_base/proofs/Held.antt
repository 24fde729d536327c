-- Which places of the pages are free, and what a change of one place keeps.
use Rattle.std.proofs.Common.{◌≡◌, ◌≢◌, ◌⊎◌, inl, inr, ℕ, ◌+◌, ◌*◌, ◌/◌, ◌%◌, ◌<◌, ◌≤◌, ltb, Bool, true, false, cond, List, [], length, get_or, Option, Some, None, is_some, refl, ap, sym, ◌∙◌, subst, arith}
use Rattle.std.proofs.lemmas.Bool.{eq-eqb, ne_eqb, eqb-true, eqb-false, cases_eq, cases_lt, lt-ltb, le-ltb, ltb-true}
use Rattle.std.proofs.lemmas.List.{get_or_past}
use mir.Val.{bool_byte}
use Rattle.std.specs.FinMap as map
use Rattle.std.specs.FinSet as finset
use Rattle.std.specs.Ordering.{nat_cmp}
use Rattle.name_space_base.specs.Bits.{has}
use Rattle.name_space_base.specs.Page.{used_in}
use Rattle.name_space_base.specs.Pages.{IsFirstFree, HasPlace}
use Rattle.name_space_base.specs.Sound.{page_at, look, values_of, skipped, taken, free, sum_below, made_of, IsSound}
use Rattle.name_space_base.proofs.Places.{used-le, used-lt, all-used, all-used_after, some-free, some-free_after, IsFreeAt}
use Rattle.name_space_base.proofs.Tables.{sum-some, sum-none, same_gets, same_sets, out_here, out_other}
use Rattle.name_space_base.proofs.Laid.{Sheets, get-values, contains-made}

-- what the code adds for a test
pub byte-is : (b : Bool) → bool_byte b ≡ cond b 1 0
byte-is true = refl
byte-is false = refl

pub byte-few : (k : ℕ) (b : Bool) → k ≡ bool_byte b → k ≤ 1
byte-few k true e = let h : k ≡ 1 = e in omega arith
byte-few k false e = let h : k ≡ 0 = e in omega arith

pub skipped-first : (p : ℕ) → p ≡ 0 → skipped p ≡ 1
skipped-first p e = ap (λ b. cond b 1 0) (eq-eqb p 0 e)

pub skipped-later : (p : ℕ) → p ≢ 0 → skipped p ≡ 0
skipped-later p n = ap (λ b. cond b 1 0) (ne_eqb p 0 n)

pub skipped-few : (p : ℕ) → skipped p ≤ 1
skipped-few p = grind (arith, cases_eq, skipped-first, skipped-later)

-- how many free numbers the pages in front lose with one of a page
abbrev pub lost-in : ℕ → ℕ → ℕ
lost-in p front = cond (ltb p front) 1 0

pub lost-one : (p front : ℕ) → p < front → lost-in p front ≡ 1
lost-one p front h = ap (λ b. cond b 1 0) (lt-ltb p front h)

pub lost-none : (p front : ℕ) → front ≤ p → lost-in p front ≡ 0
lost-none p front h = ap (λ b. cond b 1 0) (le-ltb p front h)

-- the place of a used number isn't skipped
pub not-skipped : (q : ℕ) → 0 < q → skipped (q / 256) ≤ q % 256
not-skipped q h = grind (arith, cases_eq, skipped-first, skipped-later)

module _ {T : Type 0} where
  some_none : (o : Option T) → is_some o ≡ true → o ≡ None → ⊥
  some_none None s e = cc
  some_none (Some x) s e = cc

  pub used_made : (ps : Sheets T) (n : ℕ) → is_some (look ps n) ≡ true → n % 256 < length (page_at ps (n / 256))
  used_made ps n used = grind (arith, cases_lt, some_none, get_or_past)

  pub look-at : (ps : Sheets T) (p i : ℕ) → i < 256 → look ps (256 * p + i) ≡ get_or (page_at ps p) i None
  look-at ps p i h = grind arith

  -- a page of 256 places, or none, takes at most 256
  pub taken-few : (l : List (Option T)) (p : ℕ) → (length l ≡ 0) ⊎ (length l ≡ 256) → (p ≡ 0 → get_or l 0 None ≡ None) → used_in l + skipped p ≤ 256
  taken-few l p shape free_zero = grind (arith, used-le, cases_eq, skipped-first, used-lt, skipped-later)

  module _ (ps : Sheets T) (full : List ℕ) (len front front_free room : ℕ) (s : IsSound ps full len front front_free room) where
    pub zero_free : (p : ℕ) → p ≡ 0 → get_or (page_at ps p) 0 None ≡ None
    zero_free p e = ap (λ q. get_or (page_at ps q) 0 None) e ∙ s.no_zero

    pub taken-bound : (p : ℕ) → taken ps p ≤ 256
    taken-bound p = taken-few (page_at ps p) p (s.shaped p) (zero_free p)

    -- the page is full
    pub full-used : (p i : ℕ) → taken ps p ≡ 256 → i < 256 → skipped p ≤ i → is_some (get_or (page_at ps p) i None) ≡ true
    full-used p i all h k = grind (arith, used-le, cases_eq, skipped-first, all-used_after, zero_free, skipped-later, all-used)

    -- a page that is made and isn't full has a free place
    pub some_place : (p : ℕ) → taken ps p < 256 → length (page_at ps p) ≡ 256 → (i : ℕ) × IsFreeAt (page_at ps p) (skipped p) i
    some_place p less long = grind (arith, cases_eq, skipped-first, some-free_after, zero_free, skipped-later, some-free)

    marked_full : (p : ℕ) → p < 256 → has full p ≡ true → taken ps p ≡ 256
    marked_full p h e = eqb-true (taken ps p) 256 (sym (s.marked p h) ∙ e)

    marked_not_full : (p : ℕ) → p < 256 → has full p ≡ false → taken ps p < 256
    marked_not_full p h e = grind (arith, taken-bound, eqb-false)

    -- the first place that the search of a page finds is a place of it
    pub found-within : (p j : ℕ) → p < 256 → has full p ≡ false → j ≤ 256 → ((i : ℕ) → skipped p ≤ i → i < j → is_some (get_or (page_at ps p) i None) ≡ true) → j < 256
    found-within p j h spare few used = grind (arith, cases_lt, some_none, skipped-few, get_or_past, some_place, marked_not_full)

    -- what the search of the full pages, and then of a page, finds
    pub first-found : (p j : ℕ) → p ≤ 256 → ((i : ℕ) → i < p → has full i ≡ true) → skipped p ≤ j → j < 256 → ((i : ℕ) → skipped p ≤ i → i < j → is_some (get_or (page_at ps p) i None) ≡ true)
        → get_or (page_at ps p) j None ≡ None → IsFirstFree (values_of ps) (256 * p + j)
    first-found p j few before after within used none = grind (arith, get-values, look-at, cases_eq, skipped-first, is_some, cases_lt, full-used, marked_full, not-skipped)

    -- where there is room, the least free number lies in the pages in front
    in-front : (n : ℕ) → front < 256 → IsFirstFree (values_of ps) n → 0 < room → n % 256 < length (page_at ps (n / 256))
    in-front n few first some =
        let enough : room ≤ front_free = s.has_room few in
        let counted : front_free ≡ sum_below (free ps) front = s.front_counted in
        let spare : (q : ℕ) × ((q < front) × (0 < free ps q)) = sum-some (free ps) front (omega arith) in
        let in_front : spare.0 < front = spare.1.0 in
        let less : 0 < free ps spare.0 = spare.1.1 in
        let long : length (page_at ps spare.0) ≡ 256 = s.front_made spare.0 in_front in
        let found : (i : ℕ) × IsFreeAt (page_at ps spare.0) (skipped spare.0) i = some_place spare.0 (omega arith) long in
        let within : found.0 < 256 = let w = found.1.within in omega arith in
        let number : ℕ = 256 * spare.0 + found.0 in
        let empty : look ps (256 * spare.0 + found.0) ≡ None = look-at ps spare.0 found.0 within ∙ found.1.free in
        let positive : 0 < 256 * spare.0 + found.0 = elim (cases_eq spare.0 0) [
          | inl e ↦ let one : skipped spare.0 ≡ 1 = skipped-first spare.0 e in let after : skipped spare.0 ≤ found.0 = found.1.after in omega arith
          | inr d ↦ omega arith
        ] in
        let le : n ≤ 256 * spare.0 + found.0 = elim (cases_lt (256 * spare.0 + found.0) n) [
          | inl h ↦ absurd (some_none (map.get (values_of ps) (256 * spare.0 + found.0)) (first.least (256 * spare.0 + found.0) positive h) (get-values ps (256 * spare.0 + found.0) ∙ empty))
          | inr h ↦ h
        ] in
        let here : length (page_at ps (n / 256)) ≡ 256 = s.front_made (n / 256) (omega arith) in
        omega arith

    -- ... and where all are in front, each number does
    pub room-made : (n : ℕ) → n < 65536 → IsFirstFree (values_of ps) n → 0 < room → n % 256 < length (page_at ps (n / 256))
    room-made n small first some = grind (arith, cases_lt, in-front)

  -- a search that found nothing before, and nothing in a page up to a place
  pub free-so-far : (ps : Sheets T) (from p place found : ℕ) → ((n : ℕ) → from ≤ n → n < 256 * p + place → look ps n ≡ None) → found ≤ 256
      → ((i : ℕ) → place ≤ i → i < found → get_or (page_at ps p) i None ≡ None) → (n : ℕ) → from ≤ n → n < 256 * p + found → look ps n ≡ None
  free-so-far ps from p place found before few free n a b = grind (arith, cases_lt)

  pub values-none : (ps : Sheets T) → ps ≡ [] → values_of ps ≡ map.empty
  values-none ps e = same_gets _ _ (λ q. get-values ps q ∙ ap (λ (l : Sheets T). look l q) e ∙ sym (map.get-empty nat_cmp q))

  pub made-none : (ps : Sheets T) → ps ≡ [] → made_of ps ≡ finset.empty
  made-none ps e = same_sets _ _ (λ q. contains-made ps q ∙ ap (λ (l : Sheets T). ltb 0 (length (page_at l q))) e ∙ sym (finset.contains-empty nat_cmp q))

  pub sound-none : (ps : Sheets T) (full : List ℕ) → ps ≡ [] → ((i : ℕ) → i < 256 → has full i ≡ false) → IsSound ps full 0 0 0 0
  sound-none ps full e none = subst (λ (l : Sheets T). IsSound l full 0 0 0 0) (sym e) record {
    few = omega arith;
    shaped = λ p. inl refl;
    no_zero = refl;
    marked = λ p h. none p h ∙ sym (ne_eqb (0 + skipped p) 256 (λ k. absurd (let b : skipped p ≤ 1 = skipped-few p in omega arith)));
    front_few = omega arith;
    front_made = λ p h. absurd (omega arith);
    front_counted = sym (sum-none (free {T = T} []));
    has_room = λ _. omega arith;
    counted = sym (map.len-empty nat_cmp T) ∙ ap (λ (m : map.FinMap nat_cmp T). map.len m) (sym (values-none [] refl));
  }

  -- the page of a used number is made
  pub used-page : (ps : Sheets T) (n : ℕ) → map.contains_key (values_of ps) n ≡ true → finset.contains (made_of ps) (n / 256) ≡ true
  used-page ps n used = grind (arith, used_made, is_some, get-values, contains-made, lt-ltb)

  made-within : (ps : Sheets T) (full : List ℕ) (len front front_free room : ℕ) → IsSound ps full len front front_free room → (n : ℕ) → finset.contains (made_of ps) (n / 256) ≡ true → n % 256 < length (page_at ps (n / 256))
  made-within ps full len front front_free room s n h = grind (arith, ltb-true, contains-made)

  -- a number that has a place lies in a page that is made
  pub place-within : (ps : Sheets T) (full : List ℕ) (len front front_free room : ℕ) → IsSound ps full len front front_free room → (n : ℕ) → n < 65536 → HasPlace record { values = values_of ps; room = room; made = made_of ps } n → n % 256 < length (page_at ps (n / 256))
  place-within ps full len front front_free room s n small place = elim place [
    | inl h ↦ room-made ps full len front front_free room s n small h.0 h.1
    | inr h ↦ made-within ps full len front front_free room s n h
  ]

  -- 0 isn't used
  pub positive-used : (ps : Sheets T) (full : List ℕ) (len front front_free room : ℕ) → IsSound ps full len front front_free room → (n : ℕ) → is_some (look ps n) ≡ true → 0 < n
  positive-used ps full len front front_free room s n used = grind (arith, cases_eq, some_none)

  -- to take out what isn't there changes nothing
  pub values-absent : (m : map.FinMap nat_cmp T) (n : ℕ) → map.get m n ≡ None → m ≡ map.remove m n
  values-absent m n none = grind (arith, same_gets, cases_eq, out_here, out_other)
