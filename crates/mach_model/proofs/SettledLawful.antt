-- A step's end leaves a lawful state: its logs, notices and rights.
use Rattle.std.proofs.Common.{◌≡◌, ℕ, zero, suc, ◌+◌, ◌<◌, ◌≤◌, List, [], ◌∷◌, ◌++◌, Option, Some, refl, sym, ap, subst, ◌∙◌, arith, true, false, Bool, ◌⊎◌, inl, inr, length, get_or, ◌^◌, None}
use Rattle.std.specs.Prelude.{if◌then◌else◌, All, ◌==◌, ◌&&◌, filter, slice_get, map as list_map, Contains, ◌≢◌, option_map}
use Rattle.std.proofs.lemmas.List.{length-append, length-map}
use Rattle.std.proofs.lemmas.List.Elements.{All-head, All-tail}
use Rattle.std.proofs.lemmas.Option.{slice_get_within}
use Rattle.std.proofs.lemmas.Bool.{eq-eqb, ne_eqb, and_from, eqb-true}
use Rattle.std.proofs.lemmas.Bool.Decides.{eqb_tells}
use Rattle.mach_types.specs.Tokens.{Kind, receive, send_once, in_message, Token, token, count, is_of, same_kind, port_destroyed, weigh, Request, no_senders, dead_name, in_request}
use Rattle.mach_types.specs.Messages.{Entry, Message}
use Rattle.mach_types.specs.Numbers.{most_rights}
use Rattle.mach_model.specs.State.{State, queue, Target, lookup, Holds}
use Rattle.mach_model.specs.Death.{same_place, IsOrphan, Dies, CarriedAt}
use Rattle.mach_model.specs.Carried.{message_count, lying}
use Rattle.mach_model.specs.Notices.{Notice, port_deleted, port_sent, no_more_senders, right_unused, name_died, notice_message, Owed, Posted, posted_tokens, all_posted_tokens, carried_by}
use Rattle.mach_model.specs.Settles.{PlaceStays, Settles, due_notices, tokens_of, settled_target, BecameDead, Ends}
use Rattle.mach_model.specs.Lawful.{tally, IsLawful, IsRight, StandsOn, HasFewSets}
use Rattle.mach_model.specs.Midway.{MidLawful}
use Rattle.mach_model.proofs.Names.{weigh-append, length-weigh, pos_or_zero, lying_le_of, slice_get_drop}
use Rattle.mach_model.proofs.SettledReceives.{eq_symm, parts, at_place, same_entry, IsDue, due_all, made_of, live_mid, kept_there, stays_if, none_posted, of_kind, and_false, none_tasked, BringsLive, owed_brings, receives, sent_posted, staying_none, none_pay, no_paying, At, settled_one_receive, unsent_saved}
use Rattle.mach_model.specs.SameEnd.{sum}
use Rattle.mach_model.proofs.SettledEnd.{settled_naming, settled_set, held_live}
use Rattle.mach_model.proofs.Memberships.{few_if}
use Rattle.mach_types.specs.declared.profiles.Profile.{Profile}

-- ---- What a step's end leaves of the logs: the notices stand behind what was there, and their rights lie with them.

-- ---- elements of two lists, one behind the other

front_or_added : {A : Type 0} (xs ys : List A) (k : ℕ) (x : A) → slice_get (xs ++ ys) k ≡ Some x → (slice_get xs k ≡ Some x) ⊎ (length xs ≤ k)
front_or_added [] ys k x e = inr (omega arith)
front_or_added (y ∷ xs) ys zero x e = inl e
front_or_added (y ∷ xs) ys (suc k) x e = grind (arith, front_or_added xs ys k x e)

-- ---- each notice has an entry of its own

-- The notice is at this entry.
abbrev pub is_entry : (p k : ℕ) → Posted → Bool
is_entry p k x = p == x.port && k == x.entry

abbrev pub hits : (p k : ℕ) → List Posted → ℕ
hits p k xs = tally (is_entry p k) xs

-- the notices at the n entries from b
abbrev spread : (p b n : ℕ) → List Posted → ℕ
spread p b zero xs = 0
spread p b (suc n) xs = hits p (b + n) xs + spread p b n xs

spread_one : (p b n : ℕ) (x : Posted) → b + n ≤ x.entry → spread p b n (x ∷ []) ≡ 0
spread_one p b zero x above = refl
spread_one p b (suc n) x above = grind (arith, spread_one p b n x (omega (arith, above)), ne_eqb)

other_port : (p b n : ℕ) (x : Posted) → (p == x.port) ≡ false → spread p b n (x ∷ []) ≡ 0
other_port p b zero x e = refl
other_port p b (suc n) x e = grind (arith, other_port p b n x e)

one_entry : (p b n : ℕ) (x : Posted) → spread p b n (x ∷ []) ≤ 1
one_entry p b zero x = omega arith
one_entry p b (suc n) x = grind (arith, one_entry p b n x, spread_one)

spread_cons : (p b n : ℕ) (x : Posted) (xs : List Posted) → spread p b n (x ∷ xs) ≡ spread p b n (x ∷ []) + spread p b n xs
spread_cons p b zero x xs = refl
spread_cons p b (suc n) x xs = omega (arith, spread_cons p b n x xs)

spread_empty : (p b n : ℕ) → spread p b n [] ≡ 0
spread_empty p b zero = refl
spread_empty p b (suc n) = omega (arith, spread_empty p b n)

spread_le : (p b n : ℕ) (xs : List Posted) → spread p b n xs ≤ tally (λ (x : Posted). p == x.port) xs
spread_le p b n [] = omega (arith, spread_empty p b n)
spread_le p b n (x ∷ xs) = grind (arith, spread_le p b n xs, spread_cons, one_entry, other_port)

-- where each entry has one, and one has more, there are more than entries
spread_ge : (p b n : ℕ) (xs : List Posted) → ((k : ℕ) → b ≤ k → k < b + n → 0 < hits p k xs) → (n ≤ spread p b n xs) × ((j : ℕ) → b ≤ j → j < b + n → hits p j xs + n ≤ spread p b n xs + 1)
spread_ge p b zero xs all = (omega arith, λ j above below. absurd (omega (arith, above, below)))
spread_ge p b (suc n) xs all = grind (arith, spread_ge p b n xs (λ k above below. all k above (omega (arith, below))), all (b + n) (omega arith) (omega arith))

tally_filter : {A : Type 0} (f g : A → Bool) → ((x : A) → g x ≡ f x) → (xs : List A) → tally g xs ≡ length (filter f xs)
tally_filter f g same [] = refl
tally_filter {A} f g same (x ∷ xs) = rw (same x) (go (f x) (tally_filter f g same xs))
  where
    go : (b : Bool) → tally g xs ≡ length (filter f xs) → (if b then 1 else 0) + tally g xs ≡ length (if b then x ∷ filter f xs else filter f xs)
    go true e = omega (arith, e)
    go false e = omega (arith, e)

tally_at : {A : Type 0} (test : A → Bool) (xs : List A) (k : ℕ) (d : A) → k < length xs → test (get_or xs k d) ≡ true → 0 < tally test xs
tally_at test [] k d below e = absurd (omega arith)
tally_at test (x ∷ xs) zero d below e = rw e (omega arith)
tally_at test (x ∷ xs) (suc k) d below e = let h = tally_at test xs k d (omega (arith, below)) e in omega (arith, h)

-- ---- the rights that lie at an entry

one_if : (a b : Bool) → (if a && b then 1 else 0) + 0 ≡ (if b then (if a then 1 else 0) + 0 else 0)
one_if true true = refl
one_if true false = refl
one_if false true = refl
one_if false false = refl

two_if : (a c b : Bool) → (if a && b then 1 else 0) + ((if c && b then 1 else 0) + 0) ≡ (if b then (if a then 1 else 0) + ((if c then 1 else 0) + 0) else 0)
two_if true true true = refl
two_if true true false = refl
two_if true false true = refl
two_if true false false = refl
two_if false true true = refl
two_if false true false = refl
two_if false false true = refl
two_if false false false = refl

-- what a notice brings lies at its entry
one_lying : (kind : Kind) (q p k port entry : ℕ) (notice : Notice) →
    count (λ y. is_of kind q y && same_place (in_message p k) y.place) (token send_once port (in_message port entry) ∷ carried_by notice (in_message port entry))
    ≡ (if p == port && k == entry then message_count kind q (notice_message port notice) else 0)
one_lying kind q p k port entry (port_deleted n) = one_if (same_kind kind send_once && port == q) (p == port && k == entry)
one_lying kind q p k port entry (port_sent r) = two_if (same_kind kind send_once && port == q) (same_kind kind receive && r == q) (p == port && k == entry)
one_lying kind q p k port entry (no_more_senders n) = one_if (same_kind kind send_once && port == q) (p == port && k == entry)
one_lying kind q p k port entry right_unused = one_if (same_kind kind send_once && port == q) (p == port && k == entry)
one_lying kind q p k port entry (name_died n) = one_if (same_kind kind send_once && port == q) (p == port && k == entry)

abbrev here : (kind : Kind) (q p k : ℕ) → List Posted → ℕ
here kind q p k xs = count (λ y. is_of kind q y && same_place (in_message p k) y.place) (all_posted_tokens xs)

-- The notices at this entry have a message with so many rights.
abbrev Alike : (kind : Kind) (q p k c : ℕ) → Posted → Type 0
Alike kind q p k c x = is_entry p k x ≡ true → message_count kind q (notice_message x.port x.notice) ≡ c

here_none : (kind : Kind) (q p k : ℕ) (xs : List Posted) → hits p k xs ≡ 0 → here kind q p k xs ≡ 0
here_none kind q p k [] none = refl
here_none kind q p k (x ∷ xs) none = grind (arith, here_none kind q p k xs (omega (arith, none)), weigh-append, one_lying)

here_one : (kind : Kind) (q p k c : ℕ) (xs : List Posted) → All (Alike kind q p k c) xs → hits p k xs ≡ 1 → here kind q p k xs ≡ c
here_one kind q p k c [] all one = absurd (omega (arith, one))
here_one kind q p k c (x ∷ xs) all one =
    let a = weigh-append (λ y. if is_of kind q y && same_place (in_message p k) y.place then 1 else 0) (posted_tokens x) (all_posted_tokens xs) in
    let b = one_lying kind q p k x.port x.entry x.notice in
    go (is_entry p k x) refl a b (λ rest. here_one kind q p k c xs (All-tail (Alike kind q p k c) x xs all) rest)
  where
    go : (t : Bool) → is_entry p k x ≡ t → here kind q p k (x ∷ xs) ≡ count (λ y. is_of kind q y && same_place (in_message p k) y.place) (posted_tokens x) + here kind q p k xs →
        count (λ y. is_of kind q y && same_place (in_message p k) y.place) (posted_tokens x) ≡ (if is_entry p k x then message_count kind q (notice_message x.port x.notice) else 0) →
        (hits p k xs ≡ 1 → here kind q p k xs ≡ c) → here kind q p k (x ∷ xs) ≡ c
    go true e a b ih =
        let f : (if is_entry p k x then suc zero else zero) ≡ suc zero = rw e refl in
        let rest = here_none kind q p k xs (omega (arith, one, f)) in
        let g : (if is_entry p k x then message_count kind q (notice_message x.port x.notice) else 0) ≡ message_count kind q (notice_message x.port x.notice) = rw e refl in
        let h = All-head (Alike kind q p k c) x xs all e in
        omega (arith, a, b, rest, g, h)
    go false e a b ih =
        let f : (if is_entry p k x then suc zero else zero) ≡ zero = rw e refl in
        let rest = ih (omega (arith, one, f)) in
        let g : (if is_entry p k x then message_count kind q (notice_message x.port x.notice) else 0) ≡ 0 = rw e refl in
        omega (arith, a, b, rest, g)

entry_of : {A : Type 0} (o : Option A) (a b : A) → o ≡ Some a → o ≡ Some b → a ≡ b
entry_of {A} o a b e f = grind arith

-- ---- the logs after the step

module _ (now : ℕ) (old mid : State) (owed : Owed) (new : State) (l : MidLawful mid owed) (s : Settles now old mid owed new) where
  pub log_length : (p : ℕ) → length (new.log p) ≡ length (mid.log p) + tally (λ (x : Posted). p == x.port) s.notices.posted
  log_length p =
      let h = s.notices.logs p in
      let a = ap length h.1 ∙ length-append (mid.log p) h.0 in
      let b = h.2 in
      let c = tally_filter (λ (x : Posted). x.port == p) (λ (x : Posted). p == x.port) (λ x. eq_symm x.port p) s.notices.posted in
      omega (arith, a, b, c)

  covered : (p k : ℕ) → length (mid.log p) ≤ k → k < length (new.log p) → 0 < hits p k s.notices.posted
  covered p k above below =
      let h = s.notices.cover p k above below in
      tally_at (is_entry p k) s.notices.posted h.0 h.1 h.2 (ap (is_entry p k) h.3 ∙ and_from _ _ (eq-eqb p h.1.port (sym h.4.0)) (eq-eqb k h.1.entry (sym h.4.1)))

  -- each entry that was appended is one notice's
  pub one_hit : (p k : ℕ) → length (mid.log p) ≤ k → k < length (new.log p) → hits p k s.notices.posted ≡ 1
  one_hit p k above below =
      let n = log_length p in
      let t = tally (λ (x : Posted). p == x.port) s.notices.posted in
      let g = spread_ge p (length (mid.log p)) t s.notices.posted (λ j up down. covered p j up (omega (arith, down, n))) in
      let a = g.1 k above (omega (arith, below, n)) in
      let b = spread_le p (length (mid.log p)) t s.notices.posted in
      let c = covered p k above below in
      omega (arith, a, b, c)

  same_taken : (p : ℕ) → new.taken p ≡ mid.taken p
  same_taken p = ap (λ (x : State). x.taken p) s.rest

  abbrev Stands : Posted → Type 0
  Stands x = (length (mid.log x.port) ≤ x.entry) × (slice_get (new.log x.port) x.entry ≡ Some record { origin = now; message = notice_message x.port x.notice })

  -- An entry that was appended is that of a notice that is due.
  pub record IsAdded (p : ℕ) (e : Entry) : Type 0 where
    pub notice : Notice
    pub message : e.message ≡ notice_message p notice
    pub due : IsDue new.live_port p notice

  pub added_is : (p k : ℕ) (e : Entry) → length (mid.log p) ≤ k → slice_get (new.log p) k ≡ Some e → IsAdded p e
  added_is p k e above is =
      let h = s.notices.cover p k above (slice_get_within (new.log p) k e is) in
      let stands = subst Stands h.3 (s.notices.stand h.0 h.1 h.2) in
      let due = subst (λ (x : Posted). IsDue new.live_port x.port x.notice) h.3 (due_all now old mid owed new s (owed_brings mid owed l.are_owed) h.0 h.1 h.2) in
      let same : slice_get (new.log p) k ≡ Some record { origin = now; message = notice_message h.1.port h.1.notice } =
      subst (λ (j : ℕ). slice_get (new.log p) j ≡ Some record { origin = now; message = notice_message h.1.port h.1.notice }) h.4.1
      (subst (λ (q : ℕ). slice_get (new.log q) h.1.entry ≡ Some record { origin = now; message = notice_message h.1.port h.1.notice }) h.4.0 stands.1) in
      record {
        notice = h.1.notice;
        message = ap (λ (x : Entry). x.message) (entry_of (slice_get (new.log p) k) e _ is same) ∙ ap (λ (q : ℕ). notice_message q h.1.notice) h.4.0;
        due = subst (λ (q : ℕ). IsDue new.live_port q h.1.notice) h.4.0 due;
      }

  -- An entry was there, or was appended.
  pub entry_was : (p k : ℕ) (e : Entry) → slice_get (new.log p) k ≡ Some e → (slice_get (mid.log p) k ≡ Some e) ⊎ (length (mid.log p) ≤ k)
  entry_was p k e is = let h = s.notices.logs p in front_or_added (mid.log p) h.0 k e (ap (λ (xs : List Entry). slice_get xs k) (sym h.1) ∙ is)

  -- ---- what lies at the entries

  abbrev lies : (kind : Kind) (q p k : ℕ) → Token → Bool
  lies kind q p k x = is_of kind q x && same_place (in_message p k) x.place

  lying_is : (kind : Kind) (q p k : ℕ) → lying new kind q (in_message p k) ≡ count (lies kind q p k) s.rights.staying + here kind q p k s.notices.posted
  lying_is kind q p k = made_of now old mid owed new s (lies kind q p k)

  staying_le : (kind : Kind) (q p k : ℕ) → count (lies kind q p k) s.rights.staying ≤ lying mid kind q (in_message p k)
  staying_le kind q p k = let a = parts now old mid owed new s (lies kind q p k) in omega (arith, a)

  -- no notice lies where none stands
  none_here : (P : Posted → Type 0) (kind : Kind) (q p k : ℕ) → ((x : Posted) → P x → x.port ≡ p → x.entry ≡ k → ⊥) → All P s.notices.posted → here kind q p k s.notices.posted ≡ 0
  none_here P kind q p k not all = none_posted P (lies kind q p k)
      (λ x holds t. clash x holds (at_place kind q (in_message p k) (token send_once x.port (in_message x.port x.entry)) t).1)
      (λ x r holds sent t. clash x holds (at_place kind q (in_message p k) (token receive r (in_message x.port x.entry)) t).1) s.notices.posted all
    where
      same_port : (a b c d : ℕ) → in_message a b ≡ in_message c d → (a ≡ c) × (b ≡ d)
      same_port a b c d e = (cc, cc)

      clash : (x : Posted) → P x → in_message x.port x.entry ≡ in_message p k → ⊥
      clash x holds e = let h = same_port x.port x.entry p k e in not x holds h.0 h.1

  none_in_front : (kind : Kind) (q p k : ℕ) → k < length (mid.log p) → here kind q p k s.notices.posted ≡ 0
  none_in_front kind q p k below = none_here Stands kind q p k (λ x stands same at.
      let a = stands.0 in let b : length (mid.log x.port) ≡ length (mid.log p) = ap (λ (r : ℕ). length (mid.log r)) same in omega (arith, a, b, at, below)) s.notices.stand

  pub carried : (p i : ℕ) (e : Entry) → new.live_port p ≡ true → slice_get (queue new p) i ≡ Some e → (kind : Kind) (q : ℕ) → new.live_port q ≡ true →
      lying new kind q (in_message p (new.taken p + i)) ≡ message_count kind q e.message
  carried p i e live is kind q live_q = elim (entry_was p (new.taken p + i) e there) [
    | inl h ↦ was h
    | inr h ↦ came h
  ]
    where
      there : slice_get (new.log p) (new.taken p + i) ≡ Some e
      there = sym (slice_get_drop (new.taken p) (new.log p) i) ∙ is

      same_place_too : mid.taken p + i ≡ new.taken p + i
      same_place_too = ap (λ (n : ℕ). n + i) (sym (same_taken p))

      was : slice_get (mid.log p) (new.taken p + i) ≡ Some e → lying new kind q (in_message p (new.taken p + i)) ≡ message_count kind q e.message
      was h =
          let before = l.carried p i e (live_mid now old mid owed new s p live)
          (slice_get_drop (mid.taken p) (mid.log p) i ∙ ap (slice_get (mid.log p)) same_place_too ∙ h) kind q (live_mid now old mid owed new s q live_q) in
          let moved = ap (λ (k : ℕ). lying mid kind q (in_message p k)) same_place_too in
          let a = lying_is kind q p (new.taken p + i) in
          let b = none_in_front kind q p (new.taken p + i) (slice_get_within (mid.log p) (new.taken p + i) e h) in
          let c = kept_there now old mid owed new s (lies kind q p (new.taken p + i)) (λ x t.
          let g = at_place kind q (in_message p (new.taken p + i)) x t in (ap new.live_port g.0 ∙ live_q, subst (PlaceStays new) (sym g.1) live)) in
          omega (arith, before, moved, a, b, c)

      came : length (mid.log p) ≤ new.taken p + i → lying new kind q (in_message p (new.taken p + i)) ≡ message_count kind q e.message
      came above =
          let a = lying_is kind q p (new.taken p + i) in
          let b = staying_le kind q p (new.taken p + i) in
          let z = l.no_entry p (new.taken p + i) above kind q in
          let c = here_one kind q p (new.taken p + i) (message_count kind q e.message) s.notices.posted (λ k d below t. alike _ (s.notices.stand k d below) t)
          (one_hit p (new.taken p + i) above (slice_get_within (new.log p) (new.taken p + i) e there)) in
          omega (arith, a, b, z, c)
        where
          alike : (x : Posted) → Stands x → is_entry p (new.taken p + i) x ≡ true → message_count kind q (notice_message x.port x.notice) ≡ message_count kind q e.message
          alike x stands t =
              let g = same_entry p (new.taken p + i) x.port x.entry t in
              let a = sym g.0 in
              let b = sym g.1 in
              let same : slice_get (new.log p) (new.taken p + i) ≡ Some record { origin = now; message = notice_message x.port x.notice } =
              (λ j. slice_get (new.log (a j)) (b j)) ∙ stands.1 in
              ap (λ (y : Entry). message_count kind q y.message) (entry_of (slice_get (new.log p) (new.taken p + i)) _ e same there)

  pub gone : (p k : ℕ) → (k < new.taken p) ⊎ (new.live_port p ≡ false) → (kind : Kind) (q : ℕ) → lying new kind q (in_message p k) ≡ 0
  gone p k (inl below) kind q = grind (arith, same_taken, lying_is, staying_le, none_in_front)
  gone p k (inr dead) kind q =
      let a = lying_is kind q p k in
      let b = stays_if now old mid owed new s (lies kind q p k) (λ x stays t.
      let live : new.live_port p ≡ true = subst (PlaceStays new) (at_place kind q (in_message p k) x t).1 stays.1 in cc) in
      let c = none_here (λ (x : Posted). IsDue new.live_port x.port x.notice) kind q p k (λ x due same at. let f = ap new.live_port same in let g = due.lives in cc)
      (due_all now old mid owed new s (owed_brings mid owed l.are_owed)) in
      omega (arith, a, b, c)

  pub no_entry : (p k : ℕ) → length (new.log p) ≤ k → (kind : Kind) (q : ℕ) → lying new kind q (in_message p k) ≡ 0
  no_entry p k above kind q =
      let n = log_length p in
      let a = lying_is kind q p k in
      let b = staying_le kind q p k in
      let z = l.no_entry p k (omega (arith, n, above)) kind q in
      let c = none_here Stands kind q p k (λ x stands same at.
      let w = slice_get_within (new.log x.port) x.entry _ stands.1 in
      let m : length (new.log x.port) ≡ length (new.log p) = ap (λ (r : ℕ). length (new.log r)) same in omega (arith, w, m, at, above)) s.notices.stand in
      omega (arith, a, b, z, c)

-- ---- What stands behind a log after a step's end is the notices that are due to its port, each as often as it is due.

-- ---- a weight of notices, added up by their entries

-- the weight of those at an entry
abbrev weight_at : (p k : ℕ) → (Posted → ℕ) → List Posted → ℕ
weight_at p k f xs = sum (λ (x : Posted). if is_entry p k x then f x else 0) xs

-- of those at the n entries from b
abbrev weight_along : (p b n : ℕ) → (Posted → ℕ) → List Posted → ℕ
weight_along p b zero f xs = 0
weight_along p b (suc n) f xs = weight_at p b f xs + weight_along p (b + 1) n f xs

-- of those of the port
abbrev weight_of : (p : ℕ) → (Posted → ℕ) → List Posted → ℕ
weight_of p f xs = sum (λ (x : Posted). if p == x.port then f x else 0) xs

along_empty : (p b n : ℕ) (f : Posted → ℕ) → weight_along p b n f [] ≡ 0
along_empty p b zero f = refl
along_empty p b (suc n) f = let rest = along_empty p (b + 1) n f in omega (arith, rest)

along_cons : (p b n : ℕ) (f : Posted → ℕ) (x : Posted) (xs : List Posted) → weight_along p b n f (x ∷ xs) ≡ weight_along p b n f (x ∷ []) + weight_along p b n f xs
along_cons p b zero f x xs = refl
along_cons p b (suc n) f x xs = let rest = along_cons p (b + 1) n f x xs in omega (arith, rest)

other_port_notices : (p b n : ℕ) (f : Posted → ℕ) (x : Posted) → (p == x.port) ≡ false → weight_along p b n f (x ∷ []) ≡ 0
other_port_notices p b zero f x e = refl
other_port_notices p b (suc n) f x e = let rest = other_port_notices p (b + 1) n f x e in rw e (omega (arith, rest))

not_here : (p k : ℕ) (f : Posted → ℕ) (x : Posted) → ¬ (k ≡ x.entry) → weight_at p k f (x ∷ []) ≡ 0
not_here p k f x not = grind (arith, ne_eqb)

above : (p b n : ℕ) (f : Posted → ℕ) (x : Posted) → x.entry < b → weight_along p b n f (x ∷ []) ≡ 0
above p b zero f x less = refl
above p b (suc n) f x less = grind (arith, above p (b + 1) n f x (omega (arith, less)), not_here)

own_port : (p b n : ℕ) (f : Posted → ℕ) (x : Posted) → (p == x.port) ≡ true → b ≤ x.entry → x.entry < b + n → weight_along p b n f (x ∷ []) ≡ f x
own_port p b zero f x e from below = absurd (omega (arith, from, below))
own_port p b (suc n) f x e from below = elim (eqb_tells b x.entry) [
  | inl h ↦
      let a : weight_at p b f (x ∷ []) ≡ f x = rw (e, h.0) (omega arith) in
      let rest = above p (b + 1) n f x (let g = h.1 in omega (arith, g)) in omega (arith, a, rest)
  | inr h ↦
      let a = not_here p b f x h.1 in
      let rest = own_port p (b + 1) n f x e (let not = h.1 in omega (arith, from, not)) (omega (arith, below)) in omega (arith, a, rest)
]

-- Each notice of the port stands at one of its entries.
abbrev Within : (p b n : ℕ) → Posted → Type 0
Within p b n x = (p == x.port) ≡ true → (b ≤ x.entry) × (x.entry < b + n)

along_port : (p b n : ℕ) (f : Posted → ℕ) (xs : List Posted) → All (Within p b n) xs → weight_along p b n f xs ≡ weight_of p f xs
along_port p b n f [] all = along_empty p b n f
along_port p b n f (x ∷ xs) all =
    let c = along_cons p b n f x xs in
    let rest = along_port p b n f xs (All-tail (Within p b n) x xs all) in
    let one = own (p == x.port) refl in omega (arith, c, rest, one)
  where
    own : (a : Bool) → (p == x.port) ≡ a → weight_along p b n f (x ∷ []) ≡ (if p == x.port then f x else 0)
    own true e = let h = All-head (Within p b n) x xs all e in rw e (own_port p b n f x e h.0 h.1)
    own false e = rw e (other_port_notices p b n f x e)

-- ---- an entry at which one notice stands has its weight

abbrev Weighs : (p k c : ℕ) → (Posted → ℕ) → Posted → Type 0
Weighs p k c f x = is_entry p k x ≡ true → f x ≡ c

none_here_notices : (p k : ℕ) (f : Posted → ℕ) (xs : List Posted) → hits p k xs ≡ 0 → weight_at p k f xs ≡ 0
none_here_notices p k f [] none = refl
none_here_notices p k f (x ∷ xs) none = go (is_entry p k x) none (none_here_notices p k f xs)
  where
    go : (b : Bool) → (if b then suc zero else zero) + hits p k xs ≡ 0 → (hits p k xs ≡ 0 → weight_at p k f xs ≡ 0) → (if b then f x else 0) + weight_at p k f xs ≡ 0
    go true e rest = absurd (omega (arith, e))
    go false e rest = let a = rest (omega (arith, e)) in omega (arith, a)

one_here : (p k c : ℕ) (f : Posted → ℕ) (xs : List Posted) → All (Weighs p k c f) xs → hits p k xs ≡ 1 → weight_at p k f xs ≡ c
one_here p k c f [] all one = absurd (omega (arith, one))
one_here p k c f (x ∷ xs) all one = go (is_entry p k x) (All-head (Weighs p k c f) x xs all) one (one_here p k c f xs (All-tail (Weighs p k c f) x xs all))
  where
    go : (b : Bool) → (b ≡ true → f x ≡ c) → (if b then suc zero else zero) + hits p k xs ≡ 1 → (hits p k xs ≡ 1 → weight_at p k f xs ≡ c) → (if b then f x else 0) + weight_at p k f xs ≡ c
    go true w e rest = let a = w refl in let z = none_here_notices p k f xs (omega (arith, e)) in omega (arith, a, z)
    go false w e rest = let a = rest (omega (arith, e)) in omega (arith, a)

-- ---- the entries of a log

along_log : (p b : ℕ) (g : Entry → ℕ) (f : Posted → ℕ) (xs : List Posted) (told : List Entry) →
    ((j : ℕ) (e : Entry) → slice_get told j ≡ Some e → weight_at p (b + j) f xs ≡ g e) → sum g told ≡ weight_along p b (length told) f xs
along_log p b g f xs [] each = refl
along_log p b g f xs (e ∷ told) each = grind (arith, each 0 e refl, along_log p (b + 1) g f xs told (λ j d is. ap (λ (k : ℕ). weight_at p k f xs) (omega arith) ∙ each (suc j) d is))

behind_at : {A : Type 0} (xs ys : List A) (i : ℕ) → slice_get (xs ++ ys) (length xs + i) ≡ slice_get ys i
behind_at [] ys i = ap (slice_get ys) (omega arith)
behind_at (x ∷ xs) ys i = grind (arith, behind_at xs ys i)

some_same : {A : Type 0} (o : Option A) (a b : A) → o ≡ Some a → o ≡ Some b → a ≡ b
some_same {A} o a b e f = grind arith

-- a weight of ports and notices
abbrev due_weight : (p : ℕ) → (ℕ × Notice → ℕ) → List (ℕ × Notice) → ℕ
due_weight p w ys = sum (λ (y : ℕ × Notice). if p == y.0 then w y else 0) ys

of_mapped : (p : ℕ) (w : ℕ × Notice → ℕ) (xs : List Posted) → weight_of p (λ x. w (x.port, x.notice)) xs ≡ due_weight p w (list_map (λ (x : Posted). (x.port, x.notice)) xs)
of_mapped p w [] = refl
of_mapped p w (x ∷ xs) = let rest = of_mapped p w xs in omega (arith, rest)

module _ (now : ℕ) (old mid : State) (owed : Owed) (new : State) (l : MidLawful mid owed) (s : Settles now old mid owed new) (p : ℕ) (g : Entry → ℕ) where
  abbrev entry_weight : ℕ × Notice → ℕ
  entry_weight y = g (record { origin = now; message = notice_message p y.1 })

  abbrev posted_weight : Posted → ℕ
  posted_weight x = entry_weight (x.port, x.notice)

  abbrev StandsBehind : Posted → Type 0
  StandsBehind x = (length (mid.log x.port) ≤ x.entry) × (slice_get (new.log x.port) x.entry ≡ Some record { origin = now; message = notice_message x.port x.notice })

  abbrev pub told : List Entry
  told = (s.notices.logs p).0

  told_log : new.log p ≡ mid.log p ++ told
  told_log = (s.notices.logs p).1

  told_length : length (new.log p) ≡ length (mid.log p) + length told
  told_length = ap length told_log ∙ length-append (mid.log p) told

  within : (x : Posted) → StandsBehind x → Within p (length (mid.log p)) (length told) x
  within x stands is = grind (arith, eqb-true, slice_get_within, told_length)

  weighs : (k : ℕ) (e : Entry) (x : Posted) → slice_get (new.log p) k ≡ Some e → StandsBehind x → Weighs p k (g e) posted_weight x
  weighs k e x is stands t = grind (arith, same_entry, some_same)

  each : (j : ℕ) (e : Entry) → slice_get told j ≡ Some e → weight_at p (length (mid.log p) + j) posted_weight s.notices.posted ≡ g e
  each j e is =
      let k = length (mid.log p) + j in
      let at : slice_get (new.log p) k ≡ Some e = ap (λ (xs : List Entry). slice_get xs k) told_log ∙ behind_at (mid.log p) told j ∙ is in
      one_here p k (g e) posted_weight s.notices.posted (λ i d below. weighs k e _ at (s.notices.stand i d below))
      (one_hit now old mid owed new l s p k (omega arith) (slice_get_within (new.log p) k e at))

  -- What was appended weighs as much as the notices that are due to the port.
  pub told_weight : sum g told ≡ due_weight p entry_weight (due_notices (s.rights.paying ++ filter (λ x. new.live_port x.0.port) owed))
  told_weight =
      along_log p (length (mid.log p)) g posted_weight s.notices.posted told each
      ∙ along_port p (length (mid.log p)) (length told) posted_weight s.notices.posted (λ i d below. within _ (s.notices.stand i d below))
      ∙ of_mapped p entry_weight s.notices.posted
      ∙ ap (due_weight p entry_weight) s.notices.due

-- ---- A step's end makes no right: each notice goes by one that paid for it, and a receive right that a notice brings is one that was
-- taken, or went with a queue.

-- ---- as many of each number, so as many

abbrev times : ℕ → List ℕ → ℕ
times p xs = tally (λ x. x == p) xs

-- the list with the first p taken away
abbrev without : ℕ → List ℕ → List ℕ
without p [] = []
without p (x ∷ xs) = if x == p then xs else x ∷ without p xs

shorter : (p : ℕ) (xs : List ℕ) → 0 < times p xs → length xs ≡ length (without p xs) + 1
shorter p [] some = absurd (omega arith)
shorter p (x ∷ xs) some = go (x == p) (λ s. shorter p xs s) some
  where
    go : (b : Bool) → (0 < times p xs → length xs ≡ length (without p xs) + 1) → 0 < (if b then suc zero else zero) + times p xs → suc (length xs) ≡ length (if b then xs else x ∷ without p xs) + 1
    go true ih some = omega arith
    go false ih some = let h = ih (omega (arith, some)) in omega (arith, h)

fewer : (p q : ℕ) (xs : List ℕ) → 0 < times p xs → times q xs ≡ times q (without p xs) + (if p == q then suc zero else zero)
fewer p q [] some = absurd (omega arith)
fewer p q (x ∷ xs) some = go (x == p) refl (λ s. fewer p q xs s) some
  where
    go : (b : Bool) → (x == p) ≡ b → (0 < times p xs → times q xs ≡ times q (without p xs) + (if p == q then suc zero else zero)) → 0 < (if b then suc zero else zero) + times p xs →
        (if x == q then suc zero else zero) + times q xs ≡ times q (if b then xs else x ∷ without p xs) + (if p == q then suc zero else zero)
    go true e ih some = let h : (if x == q then suc zero else zero) ≡ (if p == q then suc zero else zero) = ap (λ (y : ℕ). if y == q then suc zero else zero) (eqb-true x p e) in omega (arith, h)
    go false e ih some = let h = ih (omega (arith, some)) in omega (arith, h)

pub not_longer : (xs ys : List ℕ) → ((p : ℕ) → times p xs ≤ times p ys) → length xs ≤ length ys
not_longer [] ys all = omega arith
not_longer (x ∷ xs) ys all =
    let own : (if x == x then suc zero else zero) ≡ suc zero = rw (eq-eqb x x refl) refl in
    let first = all x in
    let some : 0 < times x ys = omega (arith, first, own) in
    let rest = not_longer xs (without x ys) (λ p. let a = all p in let b = fewer x p ys some in omega (arith, a, b)) in
    let s = shorter x ys some in omega (arith, rest, s)

times_contained : (p : ℕ) (xs : List ℕ) → Contains xs p → 0 < times p xs
times_contained p xs h = found xs h.0 h.1 h.2
  where
    found : (xs : List ℕ) (k : ℕ) → k < length xs → get_or xs k p ≡ p → 0 < times p xs
    found [] k below e = absurd (omega arith)
    found (x ∷ xs) zero below e = rw (eq-eqb x p e) (omega arith)
    found (x ∷ xs) (suc k) below e = let h = found xs k (omega (arith, below)) e in omega (arith, h)

times_append : (p : ℕ) (xs ys : List ℕ) → times p (xs ++ ys) ≡ times p xs + times p ys
times_append p [] ys = omega arith
times_append p (x ∷ xs) ys = omega (arith, times_append p xs ys)

-- ---- the ports of receive rights

abbrev ports_of : List Token → List ℕ
ports_of [] = []
ports_of (x ∷ xs) = if same_kind receive x.kind then x.port ∷ ports_of xs else ports_of xs

times_ports : (p : ℕ) (xs : List Token) → times p (ports_of xs) ≡ receives p xs
times_ports p [] = omega arith
times_ports p (x ∷ xs) = grind (arith, times_ports p xs, receives)

few_ports : (xs : List Token) → length (ports_of xs) ≤ length xs
few_ports [] = omega arith
few_ports (x ∷ xs) = grind (arith, few_ports xs)

-- a notice goes by one right, and may bring a receive right
posted_length : (xs : List Posted) → length (all_posted_tokens xs) ≡ length xs + length (ports_of (all_posted_tokens xs))
posted_length [] = omega arith
posted_length (x ∷ xs) = grind (arith, posted_length xs)

filter_shorter : {A : Type 0} (keep : A → Bool) (xs : List A) → length (filter keep xs) ≤ length xs
filter_shorter keep [] = omega arith
filter_shorter keep (x ∷ xs) = grind (arith, filter_shorter keep xs)

weigh_length : (xs : List Token) → weigh (λ x. 1) xs ≡ length xs
weigh_length xs = sym (length-weigh xs)

module _ (now : ℕ) (old mid : State) (owed : Owed) (new : State) (l : MidLawful mid owed) (s : Settles now old mid owed new) where
  -- as many notices as rights that pay, or are owed one
  posted_few : length s.notices.posted ≤ length s.rights.paying + length owed
  posted_few = grind (arith, length-map, length-append, filter_shorter)

  -- a receive right that a notice brings was an orphan's, or goes with a queue
  brought_few : (p : ℕ) → receives p (all_posted_tokens s.notices.posted) ≤ times p (l.orphans ++ ports_of s.rights.going)
  brought_few p = elim (pos_or_zero (receives p (all_posted_tokens s.notices.posted))) [
    | inl h ↦ omega (arith, h)
    | inr h ↦ some h (new.live_port p) refl
  ]
    where
      some : 0 < receives p (all_posted_tokens s.notices.posted) → (b : Bool) → new.live_port p ≡ b → receives p (all_posted_tokens s.notices.posted) ≤ times p (l.orphans ++ ports_of s.rights.going)
      some h true live = sent (s.ports.is_sent p) refl
        where
          sent : (b : Bool) → s.ports.is_sent p ≡ b → receives p (all_posted_tokens s.notices.posted) ≤ times p (l.orphans ++ ports_of s.rights.going)
          sent false un = let a = sent_posted now old mid owed new l s p live in let b = no_paying now old mid owed new l s p live un in omega (arith, a, b)
          sent true is =
              let a = sent_posted now old mid owed new l s p live in
              let b = parts now old mid owed new s (At now old mid owed new l s p) in
              let c = l.one_kept (port_destroyed p) in
              let d = times_append p l.orphans (ports_of s.rights.going) in
              let e = from (s.ports.sent_only p is).1 in
              omega (arith, a, b, c, d, e)
            where
              from : IsOrphan mid p ⊎ ((q : ℕ) × Dies mid q × CarriedAt mid p q) → 1 ≤ times p l.orphans + times p (ports_of s.rights.going)
              from (inl o) = let a = times_contained p l.orphans (l.each_orphan p o) in omega (arith, a)
              from (inr d) =
                  let a = staying_none now old mid owed new l s p (inr d) in
                  let b = parts now old mid owed new s (is_of receive p) in
                  let c = none_pay now old mid owed new l s p in
                  let e = lying_le_of mid receive p (in_message d.0 d.2.0) in
                  let f = d.2.1 in
                  let g = times_ports p s.rights.going in
                  omega (arith, a, b, c, e, f, g)
      some h false dead = absurd (
          let none = none_posted (λ (x : Posted). IsDue new.live_port x.port x.notice) (is_of receive p) (λ x due t. cc)
          (λ x q due sent t. let f = due.brings q sent in let g = ap new.live_port (of_kind receive p (token receive q (in_message x.port x.entry)) t).1 in cc)
          s.notices.posted (due_all now old mid owed new s (owed_brings mid owed l.are_owed)) in omega (arith, none, h))

  pub few_rights : length new.ledger ≤ most_rights
  few_rights =
      let a = s.notices.ledger (λ x. 1) in
      let b = s.rights.parts (λ x. 1) in
      let c = weigh_length new.ledger in
      let d = weigh_length s.rights.staying in
      let e = weigh_length (all_posted_tokens s.notices.posted) in
      let f = weigh_length mid.ledger in
      let g = weigh_length (tokens_of s.rights.paying) in
      let g' = length-map s.rights.paying (λ (x : Token × Notice). x.0) in
      let h = weigh_length s.rights.going in
      let i = posted_length s.notices.posted in
      let j = posted_few in
      let k = not_longer (ports_of (all_posted_tokens s.notices.posted)) (l.orphans ++ ports_of s.rights.going) (λ p. let x = times_ports p (all_posted_tokens s.notices.posted) in let y = brought_few p in omega (arith, x, y)) in
      let m = length-append l.orphans (ports_of s.rights.going) in
      let n = few_ports s.rights.going in
      let r = l.few_rights in
      omega (arith, a, b, c, d, e, f, g, g', h, i, j, k, m, n, r)

-- ---- Where a step's own part leaves a state that is lawful midway, the step's end leaves a lawful one: with all that dies, is lost and
-- is told.

-- ---- notices speak of live ports

unmarked : (a : Bool) (p q : ℕ) → (p ≡ q → ⊥) → (if a && p == q then suc zero else zero) ≡ zero
unmarked true p q not = rw (ne_eqb p q not) refl
unmarked false p q not = refl

notice_marks : (live : ℕ → Bool) (kind : Kind) (q p : ℕ) (n : Notice) → live p ≡ true → BringsLive live n → (live q ≡ true → ⊥) → message_count kind q (notice_message p n) ≡ 0
notice_marks live kind q p n is brings dead = grind (arith, unmarked, eq-eqb)

-- ---- sets

in_sets : (a b : Bool) (xs : List ℕ) (set : ℕ) → Contains (if a then [] else if b then xs else []) set → (a ≡ false) × (b ≡ true) × Contains xs set
in_sets true b xs set h = let below = h.1 in absurd (omega (arith, below))
in_sets false true xs set h = (refl, refl, h)
in_sets false false xs set h = let below = h.1 in absurd (omega (arith, below))

none_dead : (a : Bool) (xs : List ℕ) → (if a then [] else if false then xs else []) ≡ []
none_dead true xs = refl
none_dead false xs = refl

fits_if : (a : Bool) (n : ℕ) → n < 2 ^ 32 → (if a then 0 else n) < 2 ^ 32
fits_if true n h = omega arith
fits_if false n h = h

empty_list : {A : Type 0} (xs : List A) → length xs ≡ 0 → xs ≡ []
empty_list [] e = refl
empty_list (x ∷ xs) e = absurd (omega arith)

-- ---- the whole

module _ (now : ℕ) (old mid : State) (owed : Owed) (new : State) (l : MidLawful mid owed) (s : Settles now old mid owed new) where
  right_if : (b : Bool) (t : Target) (n : ℕ) → IsRight (Some t) → b ≡ true → IsRight (Some (if b then t else Target.dead n))
  right_if true t n h e = h
  right_if false t n h e = absurd (cc)

  alive : (p : ℕ) → (new.live_port p ≡ false → ⊥) → new.live_port p ≡ true
  alive p not = grind arith

  right_stays : (task name : ℕ) (o : Option Target) → IsRight o → (BecameDead mid new o → ⊥) → IsRight (option_map (settled_target mid new task name) o)
  right_stays task name None h not = h
  right_stays task name (Some (Target.port p)) h not = right_if (new.live_port p) (Target.port p) _ tt (alive p not)
  right_stays task name (Some (Target.once p)) h not = right_if (new.live_port p) (Target.once p) _ tt (alive p not)
  right_stays task name (Some (Target.dead n)) h not = h
  right_stays task name (Some (Target.set n)) h not = h

  stood : (r : Request) → new.stands r ≡ true → mid.stands r ≡ true
  stood r is = grind arith

  not_ended : (r : Request) → new.stands r ≡ true → Ends old mid new r → ⊥
  not_ended r is ends = let e = s.requests.ended r (stood r is) ends in cc

  stands_on : (r : Request) → new.stands r ≡ true → StandsOn new.live_port new.naming r
  stands_on (no_senders p) is = alive p (λ dead. not_ended (no_senders p) is (inl dead))
  stands_on (port_destroyed p) is = alive p (λ dead. not_ended (port_destroyed p) is (inl dead))
  stands_on (dead_name task name) is = grind (arith, right_stays, stood, not_ended)

  -- what requests keep
  at_request : (kind : Kind) (q : ℕ) (r : Request) → lying new kind q (in_request r) ≡ count (λ x. is_of kind q x && same_place (in_request r) x.place) s.rights.staying
  at_request kind q r = grind (arith, made_of, none_tasked, and_false)

  ended : (r : Request) → new.stands r ≡ false → (kind : Kind) (q : ℕ) → lying new kind q (in_request r) ≡ 0
  ended r not kind q =
      let a = at_request kind q r in
      let b = stays_if now old mid owed new s (λ x. is_of kind q x && same_place (in_request r) x.place) (λ x stays t.
      let e : new.stands r ≡ true = subst (PlaceStays new) (at_place kind q (in_request r) x t).1 stays.1 in cc) in
      omega (arith, a, b)

  one_kept : (r : Request) → count (λ x. same_place (in_request r) x.place) new.ledger ≤ 1
  one_kept r = grind (arith, made_of, none_tasked, parts)

  once_kept : (r : Request) (kind : Kind) (q : ℕ) → kind ≢ send_once → lying new kind q (in_request r) ≡ 0
  once_kept r kind q not = grind (arith, at_request, parts)

  -- ports and sets
  no_rights : (p : ℕ) → new.live_port p ≡ false → (kind : Kind) → count (is_of kind p) new.ledger ≡ 0
  no_rights p dead kind =
      let a = made_of now old mid owed new s (is_of kind p) in
      let b = stays_if now old mid owed new s (is_of kind p) (λ x stays t. let e = ap new.live_port (of_kind kind p x t).1 in let f = stays.0 in cc) in
      let c = none_posted (λ (x : Posted). IsDue new.live_port x.port x.notice) (is_of kind p)
      (λ x due t. let e = ap new.live_port (of_kind kind p (token send_once x.port (in_message x.port x.entry)) t).1 in let f = due.lives in cc)
      (λ x q due sent t. let e = ap new.live_port (of_kind kind p (token receive q (in_message x.port x.entry)) t).1 in let f = due.brings q sent in cc)
      s.notices.posted (due_all now old mid owed new s (owed_brings mid owed l.are_owed)) in
      omega (arith, a, b, c)

  same_owner : (set : ℕ) → new.set_owner set ≡ mid.set_owner set
  same_owner set = ap (λ (x : State). x.set_owner set) s.rest

  members : (p set : ℕ) → Contains (new.sets_of p) set → (task : ℕ) × (new.set_owner set ≡ Some task) × Holds new task receive p
  members p set c =
      let h = in_sets (s.ports.is_sent p) (new.live_port p) (mid.sets_of p) set (subst (λ (xs : List ℕ). Contains xs set) (s.ports.sets_of p) c) in
      let m = l.members p set h.2 in
      (m.0, same_owner set ∙ m.1, with_owner m.0 h.1 h.0 m.2)
    where
      with_owner : (task : ℕ) → new.live_port p ≡ true → s.ports.is_sent p ≡ false → Holds mid task receive p ⊎ IsOrphan mid p → Holds new task receive p
      with_owner task live un (inl has) = let a = held_live now old mid owed new s task receive p live in omega (arith, a, has)
      with_owner task live un (inr orphan) = absurd (unsent_saved now old mid owed new l s p live un (inl orphan))

  -- logs
  same_made : new.ports_made ≡ mid.ports_made
  same_made = ap (λ (x : State). x.ports_made) s.rest

  made_port : (p : ℕ) → new.live_port p ≡ true → p < new.ports_made
  made_port p live = let a = l.made_port p (live_mid now old mid owed new s p live) in let b = same_made in omega (arith, a, b)

  unmade_log : (p : ℕ) → new.ports_made ≤ p → new.log p ≡ []
  unmade_log p above = empty_list (new.log p) (elim (pos_or_zero (length (new.log p))) [
    | inl h ↦ h
    | inr h ↦ absurd (
        let e : length (mid.log p) ≡ 0 = ap length (l.unmade_log p (let b = same_made in omega (arith, above, b))) in
        let c = s.notices.cover p 0 (omega (arith, e)) h in
        let due : IsDue new.live_port c.1.port c.1.notice = subst (λ (x : Posted). IsDue new.live_port x.port x.notice) c.3
        (due_all now old mid owed new s (owed_brings mid owed l.are_owed) c.0 c.1 c.2) in
        let b = made_port p (subst (λ (q : ℕ). new.live_port q ≡ true) c.4.0 due.lives) in
        omega (arith, above, b))
  ])

  sent_here : (p k : ℕ) (e : Entry) → slice_get (new.log p) k ≡ Some e → (e.message.destination ≡ p) × (e.message.kind ≢ receive)
  sent_here p k e is = elim (entry_was now old mid owed new l s p k e is) [
    | inl h ↦ l.sent_here p k e h
    | inr h ↦ (let a = added_is now old mid owed new l s p k e h is in noticed a.notice a.message)
  ]
    where
      noticed : (n : Notice) → e.message ≡ notice_message p n → (e.message.destination ≡ p) × (e.message.kind ≢ receive)
      noticed n same = (ap (λ (m : Message). m.destination) same, λ bad. not_receive (sym (ap (λ (m : Message). m.kind) same) ∙ bad))
        where
          not_receive : send_once ≡ receive → ⊥
          not_receive e = cc

  made_marks : (p k : ℕ) (e : Entry) → slice_get (new.log p) k ≡ Some e → (kind : Kind) (q : ℕ) → new.ports_made ≤ q → message_count kind q e.message ≡ 0
  made_marks p k e is kind q above = elim (entry_was now old mid owed new l s p k e is) [
    | inl h ↦ l.made_marks p k e h kind q (let b = same_made in omega (arith, above, b))
    | inr h ↦ (
        let a = added_is now old mid owed new l s p k e h is in
        ap (message_count kind q) a.message ∙ notice_marks new.live_port kind q p a.notice a.due.lives a.due.brings (λ live. let b = made_port q live in omega (arith, b, above)))
  ]

  within_settled : (p : ℕ) → new.taken p ≤ length (new.log p)
  within_settled p = grind (arith, l.within p, log_length now old mid owed new l s p)

  -- A step's end leaves a lawful state.
  pub settled_lawful : IsLawful new
  settled_lawful = record {
    tasks = record {
      made_task = λ task live.
          let a = l.made_task task (sym (ap (λ (x : State). x.live_task task) s.rest) ∙ live) in
          let b : new.tasks_made ≡ mid.tasks_made = ap (λ (x : State). x.tasks_made) s.rest in omega (arith, a, b);
      no_task = λ task name not. s.names task name ∙ ap (option_map (settled_target mid new task name)) (l.no_task task name (sym (ap (λ (x : State). x.live_task task) s.rest) ∙ not));
    };
    naming = settled_naming now old mid owed new s l;
    ports = record {
      made_port = made_port;
      no_rights = no_rights;
    };
    numbers = record {
      limit_fits = λ p. let a = l.limit_fits p in let b : new.limit p ≡ mid.limit p = ap (λ (x : State). x.limit p) s.rest in omega (arith, a, b);
      make_send_fits = λ p. subst (λ (n : ℕ). n < 2 ^ 32) (sym (s.ports.make_send p)) (fits_if (s.ports.is_sent p) (mid.make_send p) (l.make_send_fits p));
      sequence_fits = λ p. subst (λ (n : ℕ). n < 2 ^ 32) (sym (s.ports.sequence p)) (fits_if (s.ports.is_sent p) (mid.sequence p) (l.sequence_fits p));
    };
    receivers = record {
      one_receive = settled_one_receive now old mid owed new l s;
      members = members;
    };
    few_rights = few_rights now old mid owed new l s;
    sets = record {
      made_set = λ set above. same_owner set ∙ l.made_set set (let b : new.sets_made ≡ mid.sets_made = ap (λ (x : State). x.sets_made) s.rest in omega (arith, above, b));
      set_owned = λ task name set is. same_owner set ∙ l.set_owned task name set (settled_set mid new task name (lookup mid task name) set (sym (s.names task name) ∙ is));
      set_named = λ set task is. let h = l.set_named set task (sym (same_owner set) ∙ is) in (h.0, s.names task h.0 ∙ ap (option_map (settled_target mid new task h.0)) h.1);
      one_set_name = λ task n m set a b. l.one_set_name task n m set (settled_set mid new task n (lookup mid task n) set (sym (s.names task n) ∙ a))
          (settled_set mid new task m (lookup mid task m) set (sym (s.names task m) ∙ b));
    };
    membership = record {
      no_sets = λ p dead. s.ports.sets_of p ∙ rw dead (none_dead (s.ports.is_sent p) (mid.sets_of p));
      few_sets = λ p. subst (λ (x : Profile). HasFewSets x (new.sets_of p)) (sym (ap (λ (x : State). x.profile) s.rest)) (subst (λ (xs : List ℕ). HasFewSets mid.profile xs) (sym (s.ports.sets_of p)) (few_if mid.profile (s.ports.is_sent p) (new.live_port p) (mid.sets_of p) (l.few_sets p)));
    };
    logs = record {
      unmade_log = unmade_log;
      within = within_settled;
      sent_here = sent_here;
      made_marks = made_marks;
    };
    messages = record {
      carried = carried now old mid owed new l s;
      gone = gone now old mid owed new l s;
      no_entry = no_entry now old mid owed new l s;
    };
    requests = record {
      one_kept = one_kept;
      once_kept = once_kept;
    };
    standing = record { ended = ended };
    ground = record { stands_on = stands_on };
  }
