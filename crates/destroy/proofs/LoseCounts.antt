-- What a chain of turns says of the rights that are left, and which of them may pay.
use Rattle.std.proofs.Common.{◌≡◌, ℕ, zero, suc, ◌+◌, ◌≤◌, List, [], ◌∷◌, ◌++◌, refl, sym, ap, subst, ◌∙◌, arith, true, false, Bool, ◌⊎◌, inl, inr, length, ◌<◌, length-append}
use Rattle.std.specs.Prelude.{slice_get, Some, if◌then◌else◌, ◌==◌, ◌&&◌, not, filter, All}
use Rattle.std.proofs.lemmas.Bool.Decides.{eqb_tells}
use Rattle.std.proofs.lemmas.List.{append-nil, append_assoc}
use Rattle.std.proofs.lemmas.List.Elements.{All-head, All-tail}
use Rattle.std.proofs.lemmas.Bool.{eq-eqb}
use Rattle.std.proofs.lemmas.Option.{slice_get_within}
use Rattle.mach_types.specs.Tokens.{Token, weigh, Kind, send_once, Request, Place, in_message, in_request, token, is_of}
use Rattle.mach_types.specs.Messages.{Entry}
use Rattle.mach_model.specs.State.{State, at, queue}
use Rattle.mach_model.specs.Lawful.{tally}
use Rattle.mach_model.specs.Notices.{Notice, notice_message, Posted, Owed, posted_tokens, all_posted_tokens}
use Rattle.mach_model.specs.Turns.{Ending, listed, lives_after, IsWaiting, Turn, IsReached, begins, turns, PaidForName, went_in}
use Rattle.mach_model.proofs.Names.{at_own, at_other, weigh-append, slice_get_drop, left_of}
use Rattle.mach_model.proofs.SettledDetermined.{map-append}
use Rattle.mach_model.proofs.SettledEnd.{front_stays}
use Rattle.mach_model.proofs.TurnsCounted.{reached_counted, listed_later, one_more, reached_sound}
use Rattle.mach_model.specs.Death.{same_place}
use Rattle.mach_model.specs.Carried.{lying_among}
use Rattle.mach_model.specs.Midway.{MidLawful}
use Rattle.mach_model.specs.Settles.{tokens_of}
use Rattle.mach_model.specs.Unused.{onces_queued}
use Rattle.mach_model.proofs.SettledOnce.{AreApart, by_its_kind, placed_apart}
use Rattle.mach_model.proofs.SettledReceives.{none_paid, at_place}
use Rattle.rights.specs.Ledger.{counts_of}
use Rattle.copyin_base.specs.Shows.{SlotsSuffice}
use Rattle.copyin_base.specs.Worlds.{WorldView}
use Rattle.notifications.specs.SoFar.{due_so_far, entries_at, posted_from, buried_alone, IsSoFar, AgreesOf}
use Rattle.copyin_base.specs.Losing.{CanPost}

-- ---- What a chain of turns says of the ports that were buried and of the rights that are left, and what a notice more comes to.

-- ---- ports that were buried were doomed

module _ (old mid : State) (owed : Owed) where
  same_lists : (e f : Ending) → f.buried ≡ e.buried → ((p : ℕ) → listed e.doomed p ≡ true → listed f.doomed p ≡ true) → ((p : ℕ) → listed e.buried p ≡ true → listed e.doomed p ≡ true) →
      (p : ℕ) → listed f.buried p ≡ true → listed f.doomed p ≡ true
  same_lists e f buried doomed was p h = doomed p (was p (ap (λ (ps : List ℕ). listed ps p) (sym buried) ∙ h))

  same_doomed : (e f : Ending) → f.doomed ≡ e.doomed → (p : ℕ) → listed e.doomed p ≡ true → listed f.doomed p ≡ true
  same_doomed e f is p h = ap (λ (ps : List ℕ). listed ps p) is ∙ h

  buried_turn : (e f : Ending) → Turn old mid e f → ((p : ℕ) → listed e.buried p ≡ true → listed e.doomed p ≡ true) → (p : ℕ) → listed f.buried p ≡ true → listed f.doomed p ≡ true
  buried_turn e f (inl t) was = grind (arith, same_lists, listed_later)
  buried_turn e f (inr (inl t)) was = same_lists e f (ap (λ (x : Ending). x.buried) t.rest) (same_doomed e f (ap (λ (x : Ending). x.doomed) t.rest)) was
  buried_turn e f (inr (inr (inl t))) was = same_lists e f (ap (λ (x : Ending). x.buried) t.rest) (same_doomed e f (ap (λ (x : Ending). x.doomed) t.rest)) was
  buried_turn e f (inr (inr (inr (inl t)))) was = same_lists e f (ap (λ (x : Ending). x.buried) t.rest) (same_doomed e f (ap (λ (x : Ending). x.doomed) t.rest)) was
  buried_turn e f (inr (inr (inr (inr (inl t))))) was = same_lists e f (ap (λ (x : Ending). x.buried) t.rest) (same_doomed e f (ap (λ (x : Ending). x.doomed) t.rest)) was
  buried_turn e f (inr (inr (inr (inr (inr (inl t)))))) was = grind (arith, same_doomed, one_more)
  buried_turn e f (inr (inr (inr (inr (inr (inr t)))))) was = same_lists e f (ap (λ (x : Ending). x.buried) t.rest) (same_doomed e f (ap (λ (x : Ending). x.doomed) t.rest)) was

  pub buried_doomed : (e : Ending) → IsReached old mid owed e → (p : ℕ) → listed e.buried p ≡ true → listed e.doomed p ≡ true
  buried_doomed e' (begins e b) p h = absurd (let z : listed e.buried p ≡ false = ap (λ (x : Ending). listed x.buried p) b.rest in cc)
  buried_doomed f' (turns e f before t) p h = buried_turn e f t (buried_doomed e before) p h

  -- a port that lives isn't buried, so it is there
  pub alone_lives : (e : Ending) → IsReached old mid owed e → (p : ℕ) → lives_after mid e p ≡ true → lives_after mid (buried_alone e) p ≡ true
  alone_lives e r p h = grind (arith, buried_doomed)

  -- no message of a port that lives was destroyed
  pub none_taken : (e : Ending) → IsReached old mid owed e → (p : ℕ) → lives_after mid e p ≡ true → tally (λ m. m.0 == p) e.destroyed ≡ 0
  none_taken e r p h = go e.destroyed (reached_counted old mid owed e r).destroyed
    where
      alive : (a b : Bool) → (a && not b) ≡ true → b ≡ true → ⊥
      alive true true x y = cc
      alive true false x y = cc
      alive false b x y = cc

      go : (ms : List (ℕ × ℕ)) → All (λ (m : ℕ × ℕ). (listed e.doomed m.0 ≡ true) × IsWaiting mid e m) ms → tally (λ m. m.0 == p) ms ≡ 0
      go [] all = refl
      go (m ∷ ms) all = elim (eqb_tells m.0 p) [
        | inl is ↦ absurd (alive (mid.live_port p) (listed e.doomed p) h (subst (λ (q : ℕ). listed e.doomed q ≡ true) is.1 (All-head (λ (m : ℕ × ℕ). (listed e.doomed m.0 ≡ true) × IsWaiting mid e m) m ms all).0))
        | inr is ↦ let ih = go ms (All-tail (λ (m : ℕ × ℕ). (listed e.doomed m.0 ≡ true) × IsWaiting mid e m) m ms all) in rw is.0 (omega (arith, ih))
      ]

  pub left_within : (e : Ending) → IsReached old mid owed e → (h : Token → ℕ) → weigh h e.left ≤ weigh h mid.ledger
  left_within e r h = let a = (reached_sound old mid owed e r).parts h in omega (arith, a)

-- ---- a notice more

pub due_more : (e : Ending) (x : Token) (n : Notice) → due_so_far (record e { paid = e.paid ++ (x, n) ∷ [] }) ≡ due_so_far e ++ (x.port, n) ∷ []
due_more e x n = grind (arith, append_assoc, map-append)

abbrev as_entry : (now q : ℕ) → ℕ × Notice → Entry
as_entry now q y = record { origin = now; message = notice_message q y.1 }

pub entries_more : (now q : ℕ) (ys : List (ℕ × Notice)) (p : ℕ) (n : Notice) →
    entries_at now q (ys ++ (p, n) ∷ []) ≡ entries_at now q ys ++ (if p == q then record { origin = now; message = notice_message q n } ∷ [] else [])
entries_more now q [] p n = grind arith
entries_more now q (y ∷ ys) p n = grind (arith, entries_more now q ys p n)

-- how long logs are after these came to their ends
abbrev pub ends_after : (ℕ → ℕ) → List (ℕ × Notice) → ℕ → ℕ
ends_after ends [] p = ends p
ends_after ends (y ∷ ys) p = ends_after (at ends y.0 (ends y.0 + 1)) ys p

pub ends_are : (now : ℕ) (ends : ℕ → ℕ) (ys : List (ℕ × Notice)) (p : ℕ) → ends_after ends ys p ≡ ends p + length (entries_at now p ys)
ends_are now ends [] p = omega arith
ends_are now ends (y ∷ ys) p = grind (arith, ends_are now (at ends y.0 (ends y.0 + 1)) ys p, at_own, at_other)

-- the rights that it brings, where its port is there
pub posted_more : (live : ℕ → Bool) (ends : ℕ → ℕ) (ys : List (ℕ × Notice)) (p : ℕ) (n : Notice) → live p ≡ true → (h : Token → ℕ) →
    weigh h (all_posted_tokens (filter (λ (x : Posted). live x.port) (posted_from ends (ys ++ (p, n) ∷ [])))) ≡
    weigh h (all_posted_tokens (filter (λ (x : Posted). live x.port) (posted_from ends ys))) + weigh h (posted_tokens (record { port = p; entry = ends_after ends ys p; notice = n }))
posted_more live ends [] p n alive h = grind (arith, append-nil)
posted_more live ends (y ∷ ys) p n alive h = grind (arith, posted_more live (at ends y.0 (ends y.0 + 1)) ys p n alive h, weigh-append)

-- ---- logs

-- An entry stands in the front, or behind it.
pub front_or_behind : {A : Type 0} (xs ys : List A) (k : ℕ) (x : A) → slice_get (xs ++ ys) k ≡ Some x → (slice_get xs k ≡ Some x) ⊎ ((j : ℕ) × (k ≡ length xs + j) × (slice_get ys j ≡ Some x))
front_or_behind [] ys k x is = inr (k, omega arith, is)
front_or_behind (y ∷ xs) ys zero x is = inl is
front_or_behind (y ∷ xs) ys (suc k) x is = grind (arith, front_or_behind xs ys k x is)

-- Entries stay where an entry comes to the end of a log.
pub log_longer : (log : ℕ → List Entry) (p : ℕ) (own : Entry) (q k : ℕ) (x : Entry) → slice_get (log q) k ≡ Some x → slice_get (at log p (log p ++ own ∷ []) q) k ≡ Some x
log_longer log p own q k x is = grind (arith, at_own, front_stays, at_other)

-- ---- A right that no queued message goes by is counted as one that may pay: so its port can get a notice.

-- ---- a notice that was posted to a port that is there has its right there

pub posted_lies : (live : ℕ → Bool) (now : ℕ) (ends : ℕ → ℕ) (ys : List (ℕ × Notice)) (p k : ℕ) → live p ≡ true → ends p ≤ k → k < ends p + length (entries_at now p ys) →
    0 < lying_among (all_posted_tokens (filter (λ (x : Posted). live x.port) (posted_from ends ys))) send_once p (in_message p k)
posted_lies live now ends [] p k alive least most = absurd (omega (arith, least, most))
posted_lies live now ends (y ∷ ys) p k alive least most = elim (eqb_tells y.0 p) [
  | inl h ↦ own h.0 h.1 (λ a b. posted_lies live now (at ends y.0 (ends y.0 + 1)) ys p k alive a b)
  | inr h ↦ other h.0 h.1 (λ a b. posted_lies live now (at ends y.0 (ends y.0 + 1)) ys p k alive a b)
]
  where
    rest : List Posted
    rest = filter (λ (x : Posted). live x.port) (posted_from (at ends y.0 (ends y.0 + 1)) ys)

    first : Posted
    first = record { port = y.0; entry = ends y.0; notice = y.1 }

    Again : Type 0
    Again = at ends y.0 (ends y.0 + 1) p ≤ k → k < at ends y.0 (ends y.0 + 1) p + length (entries_at now p ys) → 0 < lying_among (all_posted_tokens rest) send_once p (in_message p k)

    more : 0 < lying_among (all_posted_tokens rest) send_once p (in_message p k) → 0 < lying_among (all_posted_tokens (if live y.0 then first ∷ rest else rest)) send_once p (in_message p k)
    more h = go (live y.0)
      where
        go : (b : Bool) → 0 < lying_among (all_posted_tokens (if b then first ∷ rest else rest)) send_once p (in_message p k)
        go true = let a = weigh-append (λ x. if is_of send_once p x && same_place (in_message p k) x.place then 1 else 0) (posted_tokens first) (all_posted_tokens rest) in omega (arith, a, h)
        go false = h

    own : (y.0 == p) ≡ true → y.0 ≡ p → Again → 0 < lying_among (all_posted_tokens (if live y.0 then first ∷ rest else rest)) send_once p (in_message p k)
    own e same again = elim (eqb_tells (ends p) k) [
      | inl h ↦ head h.1
      | inr h ↦ more (again
          (let b = h.1 in let c = ended in omega (arith, least, b, c))
          (let d : length (entries_at now p (y ∷ ys)) ≡ suc (length (entries_at now p ys)) = rw e refl in let c = ended in omega (arith, most, d, c)))
    ]
      where
        ended : at ends y.0 (ends y.0 + 1) p ≡ ends p + 1
        ended = subst (λ (q : ℕ). at ends y.0 (ends y.0 + 1) q ≡ ends q + 1) same (at_own ends y.0 (ends y.0 + 1))

        head : ends p ≡ k → 0 < lying_among (all_posted_tokens (if live y.0 then first ∷ rest else rest)) send_once p (in_message p k)
        head is = rw (ap live same ∙ alive)
            (let a = weigh-append (λ x. if is_of send_once p x && same_place (in_message p k) x.place then 1 else 0) (posted_tokens first) (all_posted_tokens rest) in
            let one : (if is_of send_once p (token send_once y.0 (in_message y.0 (ends y.0))) && same_place (in_message p k) (in_message y.0 (ends y.0)) then suc zero else zero) ≡ suc zero =
            rw (e, eq-eqb p y.0 (sym same), eq-eqb k (ends y.0) (sym is ∙ ap ends (sym same))) refl in
            omega (arith, a, one))

    other : (y.0 == p) ≡ false → (y.0 ≡ p → ⊥) → Again → 0 < lying_among (all_posted_tokens (if live y.0 then first ∷ rest else rest)) send_once p (in_message p k)
    other e not again = more (again
        (let c = at_other ends y.0 (ends y.0 + 1) p (λ s. not (sym s)) in omega (arith, least, c))
        (let d : length (entries_at now p (y ∷ ys)) ≡ length (entries_at now p ys) = rw e refl in let c = at_other ends y.0 (ends y.0 + 1) p (λ s. not (sym s)) in omega (arith, most, d, c)))

-- ---- in the state so far

-- the rights of requests on names that went lie in no message
pub went_none : (mid : State) (kind : Kind) (p q k : ℕ) (xs : Owed) → All (PaidForName mid) xs → lying_among (tokens_of xs) kind p (in_message q k) ≡ 0
went_none mid kind p q k xs all = none_paid (λ x n. PaidForName mid (x, n)) (λ x. is_of kind p x && same_place (in_message q k) x.place)
    (λ x n h test. let a = (at_place kind p (in_message q k) x test).1 in let b = h.kept in apart (sym a ∙ b)) xs all
  where
    apart : {r : Request} → in_message q k ≡ in_request r → ⊥
    apart e = cc

module _ (now : ℕ) (old mid : State) (owed : Owed) (e : Ending) (lawful : MidLawful mid owed) (reached : IsReached old mid owed e) (s : State) (so : IsSoFar now mid e s)
    (w : WorldView) (agrees : AgreesOf (lives_after mid e) w s) (p : ℕ) (alive : lives_after mid e p ≡ true)
    (whole : (k : ℕ) → lying_among (tokens_of e.paid) send_once p (in_message p k) + lying_among e.gone send_once p (in_message p k) ≡ 0) where
  there : s.live_port p ≡ true
  there = so.live_port p ∙ alone_lives old mid owed e reached p alive

  live : mid.live_port p ≡ true
  live = left_of (mid.live_port p) _ alive

  abbrev mine : ℕ → Token → ℕ
  mine k x = if is_of send_once p x && same_place (in_message p k) x.place then 1 else 0

  kept : (k : ℕ) → lying_among mid.ledger send_once p (in_message p k) ≤ lying_among s.ledger send_once p (in_message p k)
  kept k =
      let i = reached_sound old mid owed e reached in
      let a = i.parts (mine k) in
      let b = went_none mid send_once p p k (went_in e.begun) i.went in
      let c = whole k in
      let d = so.ledger (mine k) in
      omega (arith, a, b, c, d)

  brought : (k : ℕ) → length (mid.log p) ≤ k → k < length (s.log p) → 0 < lying_among s.ledger send_once p (in_message p k)
  brought k least most =
      let a : length (s.log p) ≡ length (mid.log p ++ entries_at now p (due_so_far e)) = ap length (so.log p) in
      let b = length-append (mid.log p) (entries_at now p (due_so_far e)) in
      let c = posted_lies s.live_port now (λ q. length (mid.log q)) (due_so_far e) p k there least (omega (arith, most, a, b)) in
      let d = so.ledger (mine k) in
      omega (arith, c, d)

  taken_same : s.taken p ≡ mid.taken p
  taken_same = let a = so.taken p in let b = none_taken old mid owed e reached p alive in omega (arith, a, b)

  are_apart : AreApart p (s.taken p) (queue s p) s.ledger
  are_apart i x is once = go (front_or_behind (mid.log p) (entries_at now p (due_so_far e)) (s.taken p + i) x (ap (λ (es : List Entry). slice_get es (s.taken p + i)) (sym (so.log p)) ∙ at_log))
    where
      at_log : slice_get (s.log p) (s.taken p + i) ≡ Some x
      at_log = sym (slice_get_drop (s.taken p) (s.log p) i) ∙ is

      place_is : s.taken p + i ≡ mid.taken p + i
      place_is = ap (λ (n : ℕ). n + i) taken_same

      go : (slice_get (mid.log p) (s.taken p + i) ≡ Some x) ⊎ ((j : ℕ) × (s.taken p + i ≡ length (mid.log p) + j) × (slice_get (entries_at now p (due_so_far e)) j ≡ Some x)) →
          0 < lying_among s.ledger send_once p (in_message p (s.taken p + i))
      go (inl h) =
          let c = lawful.carried p i x live (slice_get_drop (mid.taken p) (mid.log p) i ∙ ap (λ (n : ℕ). slice_get (mid.log p) n) (sym place_is) ∙ h) send_once p live in
          let to = (lawful.sent_here p (s.taken p + i) x h).0 in
          let some = by_its_kind p x.message to once in
          let d = kept (mid.taken p + i) in
          subst (λ (n : ℕ). 0 < lying_among s.ledger send_once p (in_message p n)) (sym place_is) (omega (arith, c, some, d))
      go (inr (j, at, h)) = brought (s.taken p + i) (omega (arith, at)) (slice_get_within (s.log p) (s.taken p + i) x at_log)

  pub may_pay : (place : Place) → ((k : ℕ) → same_place place (in_message p k) ≡ false) → 0 < lying_among e.left send_once p place → 0 < (counts_of w.ledger p).send_once
  may_pay place off some =
      let c = agrees.counts p in
      let a = placed_apart p place (s.taken p) (queue s p) s.ledger (λ i. off (s.taken p + i)) are_apart in
      let b = so.ledger (λ x. if is_of send_once p x && same_place place x.place then 1 else 0) in
      let d : (counts_of w.ledger p).destination ≡ onces_queued s p = c.destinations there ∙ (rw alive refl) in
      let g = c.once_rights in
      omega (arith, some, a, b, d, g)

  pub can_pay : SlotsSuffice w → (place : Place) → ((k : ℕ) → same_place place (in_message p k) ≡ false) → 0 < lying_among e.left send_once p place → CanPost w p
  can_pay slots place off some = record { live = agrees.live_port p ∙ there; paid = may_pay place off some; slots = slots }
