-- What putting a value under a number, changing it or taking it out keeps.
use Rattle.std.proofs.Common.{◌≡◌, ◌≢◌, ◌⊎◌, inl, inr, ℕ, ◌+◌, ◌-◌, ◌*◌, ◌/◌, ◌%◌, ◌<◌, ◌≤◌, ◌==◌, Bool, true, false, if◌then◌else◌, List, length, get_or, set, Option, Some, None, is_some, ap, sym, ◌∙◌, arith}
use Rattle.std.proofs.lemmas.Bool.{eq-eqb, ne_eqb, cases_eq, cases_lt}
use Rattle.std.specs.FinMap as map
use Rattle.std.specs.Ordering.{nat_cmp}
use Rattle.name_space_base.specs.Bits.{has}
use Rattle.name_space_base.specs.Page.{used_in}
use Rattle.name_space_base.specs.Sound.{page_at, look, values_of, skipped, taken, free, sum_below, IsSound}
use Rattle.name_space_base.proofs.Places.{used-put, used-set, used-clear}
use Rattle.name_space_base.proofs.Tables.{len-put, len-kept, len-out, sum-same, sum-changed, sum-le, len-tabulated}
use Rattle.name_space_base.proofs.Laid.{Sheets, get-values, values-put, values-out, with_slot, page-written, page-kept, look-written, look-kept, length-kept, count-kept}
use Rattle.name_space_base.proofs.Held.{taken-few, taken-bound, lost-in, lost-one, lost-none}

module _ {T : Type 0} (ps : Sheets T) (full : List ℕ) (len front front_free room : ℕ) (s : IsSound ps full len front front_free room) (n : ℕ) (within : n % 256 < length (page_at ps (n / 256))) where
  module _ (slot : Option T) where
    taken-kept : (p : ℕ) → p ≢ n / 256 → taken (with_slot ps n slot) p ≡ taken ps p
    taken-kept p d = ap (λ (l : List (Option T)). used_in l + skipped p) (page-kept ps n slot within p d)

    pub taken-written : taken (with_slot ps n slot) (n / 256) ≡ used_in (set (page_at ps (n / 256)) (n % 256) slot) + skipped (n / 256)
    taken-written = ap (λ (l : List (Option T)). used_in l + skipped (n / 256)) (page-written ps n slot within)

    free-kept : (p : ℕ) → p ≢ n / 256 → free (with_slot ps n slot) p ≡ free ps p
    free-kept p d = ap (λ t. 256 - t) (taken-kept p d)

    shaped-kept : (p : ℕ) → (length (page_at (with_slot ps n slot) p) ≡ 0) ⊎ (length (page_at (with_slot ps n slot) p) ≡ 256)
    shaped-kept p = elim (s.shaped p) [
      | inl h ↦ inl (length-kept ps n slot within p ∙ h)
      | inr h ↦ inr (length-kept ps n slot within p ∙ h)
    ]

    no_zero-kept : 0 < n → look (with_slot ps n slot) 0 ≡ None
    no_zero-kept positive = look-kept ps n slot within 0 (λ e. absurd (omega arith)) ∙ s.no_zero

    marks-kept : (full' : List ℕ) (b : Bool) → ((p : ℕ) → p < 256 → has full' p ≡ (if p == n / 256 then b else has full p)) → b ≡ (taken (with_slot ps n slot) (n / 256) == 256)
        → (p : ℕ) → p < 256 → has full' p ≡ (taken (with_slot ps n slot) p == 256)
    marks-kept full' b changed is p h = elim (cases_eq p (n / 256)) [
      | inl e ↦ changed p h ∙ ap (λ t. if t then b else has full p) (eq-eqb p (n / 256) e) ∙ is ∙ ap (λ q. taken (with_slot ps n slot) q == 256) (sym e)
      | inr d ↦ changed p h ∙ ap (λ t. if t then b else has full p) (ne_eqb p (n / 256) d) ∙ s.marked p h ∙ ap (λ t. t == 256) (sym (taken-kept p d))
    ]

    pub bound-kept : 0 < n → taken (with_slot ps n slot) (n / 256) ≤ 256
    bound-kept positive = taken-few (page_at (with_slot ps n slot) (n / 256)) (n / 256) (shaped-kept (n / 256)) (λ e. ap (λ q. get_or (page_at (with_slot ps n slot) q) 0 None) e ∙ no_zero-kept positive)

  put-count : (v : T) → look ps n ≡ None → taken (with_slot ps n (Some v)) (n / 256) ≡ taken ps (n / 256) + 1
  put-count v none =
      let e = used-put (page_at ps (n / 256)) (n % 256) v within none in
      let w = taken-written (Some v) in
      omega arith

  front-put : (v : T) → 0 < n → look ps n ≡ None → front_free - lost-in (n / 256) front ≡ sum_below (free (with_slot ps n (Some v))) front
  front-put v positive none =
      let qs : Sheets T = with_slot ps n (Some v) in
      let counted : front_free ≡ sum_below (free ps) front = s.front_counted in
      let more : taken qs (n / 256) ≡ taken ps (n / 256) + 1 = put-count v none in
      let bound : taken qs (n / 256) ≤ 256 = bound-kept (Some v) positive in
      elim (cases_lt (n / 256) front) [
        | inl h ↦
            let d : lost-in (n / 256) front ≡ 1 = lost-one (n / 256) front h in
            let change : sum_below (free ps) front + free qs (n / 256) ≡ sum_below (free qs) front + free ps (n / 256) = sum-changed (free ps) (free qs) front (n / 256) h (λ q k. sym (free-kept (Some v) q k)) in
            omega arith
        | inr h ↦
            let d : lost-in (n / 256) front ≡ 0 = lost-none (n / 256) front h in
            let same : sum_below (free ps) front ≡ sum_below (free qs) front = sum-same (free ps) (free qs) front (λ q k. sym (free-kept (Some v) q (λ x. absurd (omega arith)))) in
            omega arith
      ]

  few-lost : lost-in (n / 256) front ≤ 1
  few-lost = elim (cases_lt (n / 256) front) [
    | inl h ↦ let d : lost-in (n / 256) front ≡ 1 = lost-one (n / 256) front h in omega arith
    | inr h ↦ let d : lost-in (n / 256) front ≡ 0 = lost-none (n / 256) front h in omega arith
  ]

  pub sound-put : (v : T) (full' : List ℕ) (b : Bool) → 0 < n → look ps n ≡ None → ((p : ℕ) → p < 256 → has full' p ≡ (if p == n / 256 then b else has full p)) → b ≡ (taken (with_slot ps n (Some v)) (n / 256) == 256)
      → IsSound (with_slot ps n (Some v)) full' (len + 1) front (front_free - lost-in (n / 256) front) (room - 1)
  sound-put v full' b positive none changed is = record {
    few = let k = count-kept ps n (Some v) within in let h = s.few in omega arith;
    shaped = shaped-kept (Some v);
    no_zero = no_zero-kept (Some v) positive;
    marked = marks-kept (Some v) full' b changed is;
    front_few = s.front_few;
    front_made = λ p h. length-kept ps n (Some v) within p ∙ s.front_made p h;
    front_counted = front-put v positive none;
    has_room = λ few. let h = s.has_room few in let k = few-lost in omega arith;
    counted = ap (λ k. k + 1) s.counted ∙ sym (len-put (values_of ps) n v (get-values ps n ∙ none)) ∙ ap (λ (m : map.FinMap nat_cmp T). map.len m) (sym (values-put ps (with_slot ps n (Some v)) n v (look-kept ps n (Some v) within) (look-written ps n (Some v) within)));
  }

  pub positive-front : (v : T) → 0 < n → look ps n ≡ None → lost-in (n / 256) front ≤ front_free
  positive-front v positive none =
      let qs : Sheets T = with_slot ps n (Some v) in
      let counted : front_free ≡ sum_below (free ps) front = s.front_counted in
      let more : taken qs (n / 256) ≡ taken ps (n / 256) + 1 = put-count v none in
      let bound : taken qs (n / 256) ≤ 256 = bound-kept (Some v) positive in
      elim (cases_lt (n / 256) front) [
        | inl h ↦
            let d : lost-in (n / 256) front ≡ 1 = lost-one (n / 256) front h in
            let change : sum_below (free ps) front + free qs (n / 256) ≡ sum_below (free qs) front + free ps (n / 256) = sum-changed (free ps) (free qs) front (n / 256) h (λ q k. sym (free-kept (Some v) q k)) in
            omega arith
        | inr h ↦ let d : lost-in (n / 256) front ≡ 0 = lost-none (n / 256) front h in omega arith
      ]

  -- the page of a free number isn't marked as full
  pub not-marked : (v : T) → 0 < n → look ps n ≡ None → n < 65536 → has full (n / 256) ≡ false
  not-marked v positive none small =
      let more : taken (with_slot ps n (Some v)) (n / 256) ≡ taken ps (n / 256) + 1 = put-count v none in
      let bound : taken (with_slot ps n (Some v)) (n / 256) ≤ 256 = bound-kept (Some v) positive in
      s.marked (n / 256) (omega arith) ∙ ne_eqb (taken ps (n / 256)) 256 (λ e. omega arith)

  set-count : (v : T) → is_some (look ps n) ≡ true → taken (with_slot ps n (Some v)) (n / 256) ≡ taken ps (n / 256)
  set-count v used =
      let e = used-set (page_at ps (n / 256)) (n % 256) v within used in
      let w = taken-written (Some v) in
      omega arith

  pub sound-set : (v : T) → 0 < n → is_some (look ps n) ≡ true → IsSound (with_slot ps n (Some v)) full len front front_free room
  sound-set v positive used =
      let taken-all : (p : ℕ) → taken (with_slot ps n (Some v)) p ≡ taken ps p = λ p. elim (cases_eq p (n / 256)) [
        | inl e ↦ ap (taken (with_slot ps n (Some v))) e ∙ set-count v used ∙ ap (taken ps) (sym e)
        | inr d ↦ taken-kept (Some v) p d
      ] in
      record {
        few = let k = count-kept ps n (Some v) within in let h = s.few in omega arith;
        shaped = shaped-kept (Some v);
        no_zero = no_zero-kept (Some v) positive;
        marked = λ p h. s.marked p h ∙ ap (λ t. t == 256) (sym (taken-all p));
        front_few = s.front_few;
        front_made = λ p h. length-kept ps n (Some v) within p ∙ s.front_made p h;
        front_counted = s.front_counted ∙ sum-same (free ps) (free (with_slot ps n (Some v))) front (λ q k. ap (λ t. 256 - t) (sym (taken-all q)));
        has_room = s.has_room;
        counted = s.counted ∙ sym (len-kept (values_of ps) n v (ap is_some (get-values ps n) ∙ used)) ∙ ap (λ (m : map.FinMap nat_cmp T). map.len m) (sym (values-put ps (with_slot ps n (Some v)) n v (look-kept ps n (Some v) within) (look-written ps n (Some v) within)));
      }

  out-count : is_some (look ps n) ≡ true → taken (with_slot ps n None) (n / 256) + 1 ≡ taken ps (n / 256)
  out-count used =
      let e = used-clear (page_at ps (n / 256)) (n % 256) within used in
      let w = taken-written None in
      omega arith

  front-out : is_some (look ps n) ≡ true → front_free + lost-in (n / 256) front ≡ sum_below (free (with_slot ps n None)) front
  front-out used =
      let qs : Sheets T = with_slot ps n None in
      let counted : front_free ≡ sum_below (free ps) front = s.front_counted in
      let less : taken qs (n / 256) + 1 ≡ taken ps (n / 256) = out-count used in
      let bound : taken ps (n / 256) ≤ 256 = taken-bound ps full len front front_free room s (n / 256) in
      elim (cases_lt (n / 256) front) [
        | inl h ↦
            let d : lost-in (n / 256) front ≡ 1 = lost-one (n / 256) front h in
            let change : sum_below (free ps) front + free qs (n / 256) ≡ sum_below (free qs) front + free ps (n / 256) = sum-changed (free ps) (free qs) front (n / 256) h (λ q k. sym (free-kept None q k)) in
            omega arith
        | inr h ↦
            let d : lost-in (n / 256) front ≡ 0 = lost-none (n / 256) front h in
            let same : sum_below (free ps) front ≡ sum_below (free qs) front = sum-same (free ps) (free qs) front (λ q k. sym (free-kept None q (λ x. absurd (omega arith)))) in
            omega arith
      ]

  pub sound-out : (full' : List ℕ) → 0 < n → is_some (look ps n) ≡ true → ((p : ℕ) → p < 256 → has full' p ≡ (if p == n / 256 then false else has full p))
      → IsSound (with_slot ps n None) full' (len - 1) front (front_free + lost-in (n / 256) front) room
  sound-out full' positive used changed =
      let less : taken (with_slot ps n None) (n / 256) + 1 ≡ taken ps (n / 256) = out-count used in
      let bound : taken ps (n / 256) ≤ 256 = taken-bound ps full len front front_free room s (n / 256) in
      let spare : false ≡ (taken (with_slot ps n None) (n / 256) == 256) = sym (ne_eqb (taken (with_slot ps n None) (n / 256)) 256 (λ e. absurd (omega arith))) in
      record {
        few = let k = count-kept ps n None within in let h = s.few in omega arith;
        shaped = shaped-kept None;
        no_zero = no_zero-kept None positive;
        marked = marks-kept None full' false changed spare;
        front_few = s.front_few;
        front_made = λ p h. length-kept ps n None within p ∙ s.front_made p h;
        front_counted = front-out used;
        has_room = λ few. let h = s.has_room few in omega arith;
        counted = let k : map.len (map.remove (values_of ps) n) + 1 ≡ map.len (values_of ps) = len-out (values_of ps) n (ap is_some (get-values ps n) ∙ used) in let h = s.counted in let j : len - 1 ≡ map.len (map.remove (values_of ps) n) = omega arith in
            j ∙ ap (λ (m : map.FinMap nat_cmp T). map.len m) (sym (values-out ps (with_slot ps n None) n (look-kept ps n None within) (look-written ps n None within)));
      }

  pub some-counted : is_some (look ps n) ≡ true → 1 ≤ len
  some-counted used =
      let k : map.len (map.remove (values_of ps) n) + 1 ≡ map.len (values_of ps) = len-out (values_of ps) n (ap is_some (get-values ps n) ∙ used) in
      let h = s.counted in
      omega arith

  pub few-values : len ≤ 65536
  few-values =
      let h : len ≡ map.len (values_of ps) = s.counted in
      let k : map.len (values_of ps) ≤ 256 * length ps = len-tabulated (look ps) (256 * length ps) in
      let f : length ps ≤ 256 = s.few in
      omega arith

  pub few-front : front_free ≤ 65536
  few-front =
      let h : front_free ≡ sum_below (free ps) front = s.front_counted in
      let k : sum_below (free ps) front ≤ 256 * front = sum-le (free ps) front (λ q. omega arith) in
      let f : front ≤ 256 = s.front_few in
      omega arith
