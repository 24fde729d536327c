-- How many messages are queued, and which send rights a step's end leaves.
use Rattle.std.proofs.Common.{◌≡◌, ℕ, zero, suc, ◌+◌, ◌≤◌, ◌<◌, List, [], ◌∷◌, ◌++◌, refl, sym, ap, subst, ◌∙◌, arith, true, false, Bool, inl, inr, length, length-append, get_or}
use Rattle.std.specs.Prelude.{◌≢◌, if◌then◌else◌, ◌==◌, All, ◌&&◌}
use Rattle.std.proofs.lemmas.Bool.Decides.{eqb_tells}
use Rattle.std.proofs.lemmas.Bool.{eq-eqb, ne_eqb, and_from}
use Rattle.std.proofs.lemmas.List.{length-drop}
use Rattle.std.proofs.lemmas.List.Elements.{All-head, All-tail}
use Rattle.mach_types.specs.declared.calls.Event.{Event}
use Rattle.mach_types.specs.declared.calls.Reply.{Reply}
use Rattle.mach_types.specs.Guards.{NoneHolds}
use Rattle.mach_types.specs.Tokens.{send, send_once, Request, Place, in_task, in_message, in_request, Token, count, is_of}
use Rattle.mach_model.specs.State.{State, queue}
use Rattle.mach_model.specs.Notices.{Owed, Posted}
use Rattle.mach_model.specs.Settles.{Settles, PlaceStays, StaysWith, GoesFrom}
use Rattle.mach_model.specs.Send.{entry}
use Rattle.mach_model.specs.Refusals.{guards}
use Rattle.mach_model.specs.Machine.{Done, Judged}
use Rattle.mach_model.specs.Acts.{Does}
use Rattle.mach_model.specs.Lawful.{tally, LawfulLogs, IsLawful}
use Rattle.mach_model.specs.Midway.{MidLawful}
use Rattle.mach_model.proofs.Names.{at_own, at_other, left_of, right_of, count_some}
use Rattle.mach_model.proofs.SettledReceives.{IsDue, due_all, live_mid, owed_brings, of_kind, parts, made_of, stays_if, pays_if, none_posted}
use Rattle.mach_model.proofs.SettledLawful.{log_length}
use Rattle.mach_model.proofs.StepLawful.{Does-mid}
use Rattle.mach_model.specs.Death.{same_place}
use Rattle.mach_laws.specs.Counts.{is_lost_at, is_lost}
use Rattle.mach_model.proofs.Settling.{place_refl, is_at}
use Rattle.mach_laws.specs.Queued.{sum_below, waiting, queued}
use Rattle.mach_laws.specs.Counts.{accepts, takes_from, destroyed}
use Rattle.mach_laws.proofs.Untouched.{Untouched}
use Rattle.mach_laws.proofs.Steps.{IsAccepted, IsTaken, Effect, Does-effect}

-- ---- How many messages are queued: a step's own part queues one where it accepts a send, and takes one where it gives or destroys one; its end
-- queues the notices that are told, and destroys what lies at ports that die.

-- ---- sums

pub sum_same : (f g : ℕ → ℕ) (n : ℕ) → ((p : ℕ) → p < n → g p ≡ f p) → sum_below g n ≡ sum_below f n
sum_same f g zero same = refl
sum_same f g (suc n) same = grind (arith, sum_same f g n (λ p within. same p (omega (arith, within))), same n (omega arith))

-- one value is one greater
pub sum_one : (f g : ℕ → ℕ) (p n : ℕ) → p < n → g p ≡ f p + 1 → ((q : ℕ) → q ≢ p → g q ≡ f q) → sum_below g n ≡ sum_below f n + 1
sum_one f g p zero within one same = absurd (omega (arith, within))
sum_one f g p (suc n) within one same = elim (eqb_tells n p) [
  | inl h ↦
      let less = sum_same f g n (λ q below. same q (λ e. omega (arith, e, below, h.1))) in
      let last : g n ≡ f n + 1 = subst (λ (q : ℕ). g q ≡ f q + 1) (sym h.1) one in
      omega (arith, less, last)
  | inr h ↦
      let less = sum_one f g p n (omega (arith, within, h.1)) one same in
      let last = same n h.1 in
      omega (arith, less, last)
]

-- values of 0 add nothing
pub sum_more : (f : ℕ → ℕ) (m k : ℕ) → ((p : ℕ) → m ≤ p → f p ≡ 0) → sum_below f (m + k) ≡ sum_below f m
sum_more f m zero none = ap (sum_below f) (omega arith)
sum_more f m (suc k) none =
    let e : m + suc k ≡ suc (m + k) = omega arith in
    let less = sum_more f m k none in
    let last = none (m + k) (omega arith) in
    ap (sum_below f) e ∙ omega (arith, less, last)

-- two sums of the same
pub sum_both : (f g h i : ℕ → ℕ) (n : ℕ) → ((p : ℕ) → p < n → f p + g p ≡ h p + i p) → sum_below f n + sum_below g n ≡ sum_below h n + sum_below i n
sum_both f g h i zero same = refl
sum_both f g h i (suc n) same = grind (arith, sum_both f g h i n (λ p within. same p (omega (arith, within))), same n (omega arith))

-- ---- queues

if_zero : (b : Bool) (n : ℕ) → n ≡ 0 → (if b then n else 0) ≡ 0
if_zero true n e = e
if_zero false n e = refl

waiting_live : (s : State) (p : ℕ) → s.live_port p ≡ true → waiting s p ≡ length (queue s p)
waiting_live s p live = rw live refl

module _ (s : State) (l : LawfulLogs s.ports_made s.log s.taken) where
  pub queue_long : (p : ℕ) → length (queue s p) + s.taken p ≡ length (s.log p)
  queue_long p = grind (arith, length-drop)

  -- nothing lies at ports that were not made
  pub unmade_waiting : (p : ℕ) → s.ports_made ≤ p → waiting s p ≡ 0
  unmade_waiting p unmade = grind (arith, queue_long, if_zero)

  queued_more : (k : ℕ) → sum_below (waiting s) (s.ports_made + k) ≡ queued s
  queued_more k = sum_more (waiting s) s.ports_made k unmade_waiting

-- ---- a step's own part

module _ (now : ℕ) (old : State) (event : Event) (reply : Reply) (mid : State) (owed : Owed) (l : IsLawful old) (m : MidLawful mid owed) where
  -- both sums go to one bound
  abbrev bound : ℕ
  bound = old.ports_made + mid.ports_made

  queued_old : sum_below (waiting old) bound ≡ queued old
  queued_old = queued_more old l.logs mid.ports_made

  queued_mid : sum_below (waiting mid) bound ≡ queued mid
  queued_mid = ap (sum_below (waiting mid)) (omega arith) ∙ queued_more mid m.logs old.ports_made

  same_queue : (p : ℕ) → mid.log p ≡ old.log p → mid.taken p ≡ old.taken p → mid.live_port p ≡ old.live_port p → waiting mid p ≡ waiting old p
  same_queue p log taken live = grind (arith, queue_long)

  left : Untouched old mid → queued mid ≡ queued old
  left u = grind (arith, sum_same, queued_old, queued_mid, queue_long, if_zero, unmade_waiting, same_queue)

  accepted : IsAccepted old event reply mid → queued mid ≡ queued old + 1
  accepted x =
      let d = x.m.destination in
      let longer : length (mid.log d) ≡ length (old.log d) + 1 =
      ap length (x.log d ∙ at_own old.log d (old.log d ++ entry x.origin x.m ∷ [])) ∙ length-append (old.log d) (entry x.origin x.m ∷ []) in
      let place = l.made_port d x.lives in
      let a = queue_long old l.logs d in
      let b = queue_long mid m.logs d in
      let c = x.taken d in
      let e = waiting_live old d x.lives in
      let f = waiting_live mid d (ap (λ (live : ℕ → Bool). live d) x.live ∙ x.lives) in
      let one : waiting mid d ≡ waiting old d + 1 = omega (arith, longer, a, b, c, e, f) in
      let more = sum_one (waiting old) (waiting mid) d bound (omega (arith, place)) one
      (λ q not. same_queue q (x.log q ∙ at_other old.log d (old.log d ++ entry x.origin x.m ∷ []) q not) (x.taken q) (ap (λ (live : ℕ → Bool). live q) x.live)) in
      omega (arith, more, queued_old, queued_mid)

  taken : IsTaken old event reply mid → queued mid + 1 ≡ queued old
  taken x =
      let d = x.takes.port in
      let place = l.made_port d x.lives in
      let a = queue_long old l.logs d in
      let b = queue_long mid m.logs d in
      let c = x.takes.taken in
      let log = ap length (x.log d) in
      let w = m.within d in
      let e = waiting_live old d x.lives in
      let f = waiting_live mid d (ap (λ (live : ℕ → Bool). live d) x.live ∙ x.lives) in
      let one : waiting old d ≡ waiting mid d + 1 = omega (arith, a, b, c, log, w, e, f) in
      let less = sum_one (waiting mid) (waiting old) d bound (omega (arith, place)) one
      (λ q not. sym (same_queue q (x.log q) (x.takes.others q not) (ap (λ (live : ℕ → Bool). live q) x.live))) in
      omega (arith, less, queued_old, queued_mid)

  counted : Effect old event reply mid → queued mid + takes_from event reply ≡ queued old + accepts event reply
  counted (inl u) = let a = left u.0 in let b = u.1 in let c = u.2 in omega (arith, a, b, c)
  counted (inr (inl x)) = grind (arith, accepted)
  counted (inr (inr x)) = let a = taken x in let b = x.one in let c = x.none in omega (arith, a, b, c)

-- What a step's own part does to the number of queued messages.
pub Does-counted : (now : ℕ) (old : State) (event : Event) (reply : Reply) (mid : State) (owed : Owed) → IsLawful old → NoneHolds (guards old event) →
    (does : Does now old event reply mid owed) → Judged now old event reply mid owed does → queued mid + takes_from event reply ≡ queued old + accepts event reply
Does-counted now old event reply mid owed l good does judged =
    counted now old event reply mid owed l (Does-mid now old event reply mid owed good does judged l) (Does-effect now old event reply mid owed l good does)

-- ---- a step's end

abbrev at_port : ℕ → List Posted → ℕ
at_port p xs = tally (λ (x : Posted). p == x.port) xs

-- each notice stands at one port
sum_posted : (n : ℕ) (xs : List Posted) → All (λ (x : Posted). x.port < n) xs → sum_below (λ p. at_port p xs) n ≡ length xs
sum_posted n [] all = none n
  where
    none : (n : ℕ) → sum_below (λ p. at_port p []) n ≡ 0
    none zero = refl
    none (suc n) = let h = none n in omega (arith, h)
sum_posted n (x ∷ xs) all = grind (
  arith,
  sum_posted n xs (All-tail (λ (x : Posted). x.port < n) x xs all),
  sum_one (λ p. at_port p xs) (λ p. at_port p (x ∷ xs)) x.port n (All-head (λ (x : Posted). x.port < n) x xs all) (rw (eq-eqb x.port x.port refl) (omega arith)) (λ q not. rw (ne_eqb q x.port not) (omega arith)),
)

none_dead : (live : ℕ → Bool) (p : ℕ) (xs : List Posted) → live p ≡ false → All (λ (x : Posted). IsDue live x.port x.notice) xs → at_port p xs ≡ 0
none_dead live p [] dead all = refl
none_dead live p (x ∷ xs) dead all = grind (
  arith,
  none_dead live p xs dead (All-tail (λ (x : Posted). IsDue live x.port x.notice) x xs all),
  (All-head (λ (x : Posted). IsDue live x.port x.notice) x xs all).lives,
)

module _ (now : ℕ) (old mid : State) (owed : Owed) (new : State) (l : MidLawful mid owed) (s : Settles now old mid owed new) where
  dues : All (λ (x : Posted). IsDue new.live_port x.port x.notice) s.notices.posted
  dues = due_all now old mid owed new s (owed_brings mid owed l.are_owed)

  same_made : new.ports_made ≡ mid.ports_made
  same_made = ap (λ (x : State). x.ports_made) s.rest

  longer : (p : ℕ) → length (queue new p) ≡ length (queue mid p) + at_port p s.notices.posted
  longer p = grind (arith, log_length now old mid owed new l s p, length-drop (new.taken p) (new.log p), length-drop (mid.taken p) (mid.log p), l.within p)

  at_one : (p : ℕ) (b : Bool) → new.live_port p ≡ b → waiting new p + (if new.live_port p then 0 else waiting mid p) ≡ waiting mid p + at_port p s.notices.posted
  at_one p true live = grind (arith, waiting_live, live_mid, longer)
  at_one p false dead = grind (arith, none_dead new.live_port p s.notices.posted dead dues)

  -- What a step's end does to it.
  pub Settles-counted : queued new + destroyed mid new ≡ queued mid + length s.notices.posted
  Settles-counted =
      let sums = sum_both (waiting new) (λ p. if new.live_port p then 0 else waiting mid p) (waiting mid) (λ p. at_port p s.notices.posted) mid.ports_made (λ p within. at_one p (new.live_port p) refl) in
      let told = sum_posted mid.ports_made s.notices.posted (λ k d below. l.made_port _ (live_mid now old mid owed new s _ (dues k d below).lives)) in
      let here : queued new ≡ sum_below (waiting new) mid.ports_made = ap (sum_below (waiting new)) same_made in
      omega (arith, sums, told, here)

-- What a step that isn't refused does to it.
pub Done-counted : (now : ℕ) (old : State) (event : Event) (reply : Reply) (new : State) → IsLawful old → (d : Done now old event reply new) →
    queued new + takes_from event reply + destroyed d.mid new ≡ queued old + accepts event reply + length d.settles.notices.posted
Done-counted now old event reply new l d =
    let a = Does-counted now old event reply d.mid d.owed l d.unrefused d.does d.judged in
    let b = Settles-counted now old d.mid d.owed new (Does-mid now old event reply d.mid d.owed d.unrefused d.does d.judged l) d.settles in
    omega (arith, a, b)

-- ---- A step's end makes no send right of a port that lives; those that go lay in messages of ports that died.

count_both : (f t : Token → Bool) (xs : List Token) → All (λ x. f x ≡ true → t x ≡ true) xs → count (λ x. f x && t x) xs ≡ count f xs
count_both f t [] all = refl
count_both f t (x ∷ xs) all =
    let rest = count_both f t xs (All-tail (λ x. f x ≡ true → t x ≡ true) x xs all) in
    let one = go (f x) (t x) (All-head (λ x. f x ≡ true → t x ≡ true) x xs all) in
    omega (arith, rest, one)
  where
    go : (a b : Bool) → (a ≡ true → b ≡ true) → (if a && b then suc zero else zero) ≡ (if a then suc zero else zero)
    go true b e = rw (e refl) refl
    go false b e = refl

no_send_once : send_once ≡ send → ⊥
no_send_once e = cc

module _ (now : ℕ) (old mid : State) (owed : Owed) (new : State) (l : MidLawful mid owed) (s : Settles now old mid owed new) (p : ℕ) (live : new.live_port p ≡ true) where
  -- a right that stays isn't lost
  stays_there : (place : Place) (q : ℕ) → new.live_port q ≡ true → PlaceStays new place → is_lost_at new q place ≡ false
  stays_there (in_task task) q lives stays = refl
  stays_there (in_message o k) q lives stays = rw (stays, lives) refl
  stays_there (in_request r) q lives stays = refl

  -- one of the port that goes lay in a message of a dead port
  goes_there : (place : Place) → ((r : Request) → place ≡ in_request r → ⊥) → ¬ (PlaceStays new place) → is_lost_at new p place ≡ true
  goes_there (in_task task) elsewhere gone = absurd (gone tt)
  goes_there (in_message o k) elsewhere gone = grind arith
  goes_there (in_request r) elsewhere gone = absurd (elsewhere r refl)

  -- no request keeps a send right
  not_kept : (k : ℕ) (d : Token) → k < length s.rights.going → is_of send p (get_or s.rights.going k d) ≡ true → (r : Request) → (get_or s.rights.going k d).place ≡ in_request r → ⊥
  not_kept k d below is r kept =
      let at : is_at send p (in_request r) (get_or s.rights.going k d) ≡ true = and_from _ _ is (ap (same_place (in_request r)) kept ∙ place_refl (in_request r)) in
      let some = count_some (is_at send p (in_request r)) s.rights.going k d below at in
      let all = parts now old mid owed new s (is_at send p (in_request r)) in
      let none = l.requests.once_kept r send p (λ e. no_send_once (sym e)) in
      omega (arith, some, all, none)

  all_lost : All (λ x. is_of send p x ≡ true → is_lost new x ≡ true) s.rights.going
  all_lost k d below is =
      let x : Token = get_or s.rights.going k d in
      let here = (of_kind send p x is).1 in
      subst (λ (q : ℕ). is_lost_at new q x.place ≡ true) (sym here) (goes_there x.place (not_kept k d below is) (gone x here (s.rights.go k d below)))
    where
      gone : (x : Token) → x.port ≡ p → GoesFrom new x → ¬ (PlaceStays new x.place)
      gone x here (inl dead) = absurd (let e = ap new.live_port here in cc)
      gone x here (inr h) = h.1

  pub senders_kept : count (is_of send p) mid.ledger ≡ count (is_of send p) new.ledger + count (λ x. is_of send p x && is_lost new x) mid.ledger
  senders_kept =
      let all = parts now old mid owed new s (is_of send p) in
      let lost = parts now old mid owed new s (λ x. is_of send p x && is_lost new x) in
      let made = made_of now old mid owed new s (is_of send p) in
      let none_paid = pays_if now old mid owed new s (is_of send p) (λ x n pays is. paid x pays.0 is) in
      let none_lost = pays_if now old mid owed new s (λ x. is_of send p x && is_lost new x) (λ x n pays is. paid x pays.0 (left_of (is_of send p x) (is_lost new x) is)) in
      let none_stays = stays_if now old mid owed new s (λ x. is_of send p x && is_lost new x) stayed in
      let none_told = none_posted (λ x. Unit {0}) (is_of send p) (λ x u t. cc) (λ x q u h t. cc) s.notices.posted (λ k d below. tt) in
      let same = count_both (is_of send p) (is_lost new) s.rights.going all_lost in
      omega (arith, all, lost, made, none_paid, none_lost, none_stays, none_told, same)
    where
      paid : (x : Token) → x.kind ≡ send_once → is_of send p x ≡ true → ⊥
      paid x once is = no_send_once (sym once ∙ (of_kind send p x is).0)

      stayed : (x : Token) → StaysWith new x → (is_of send p x && is_lost new x) ≡ true → ⊥
      stayed x stays is = let a = right_of (is_of send p x) (is_lost new x) is in let b = stays_there x.place x.port stays.0 stays.1 in cc
