-- Which calls may need a slot more: no other makes a send-once right, or queues a message that comes by a send right.
use Rattle.std.proofs.Common.{◌≡◌, ℕ, ℤ, zero, suc, ◌+◌, ◌≤◌, List, [], ◌∷◌, refl, sym, ap, subst, ◌∙◌, arith, true, false, Bool, inl, inr, length}
use Rattle.std.specs.Prelude.{◌≢◌, ◌⊎◌, ◌==◌, ◌&&◌, Some, if◌then◌else◌, not, drop, slice_get, replicate, MatchBool, map as list_map}
use Rattle.std.proofs.lemmas.Bool.{cases_Bool, eq-eqb, ne_eqb}
use Rattle.std.proofs.lemmas.Bool.Decides.{eqb_tells}
use Rattle.mach_types.specs.declared.calls.Event.{Event}
use Rattle.mach_types.specs.declared.calls.Reply.{Reply}
use Rattle.mach_types.specs.declared.calls.Waited.{Waited}
use Rattle.mach_types.specs.declared.rights.Disposition.{Disposition}
use Rattle.mach_types.specs.declared.rights.Disposition.TheVariants.{MoveReceive, MoveSend, MoveSendOnce, CopySend, MakeSend, MakeSendOnce}
use Rattle.mach_types.specs.Numbers.{null_word}
use Rattle.mach_types.specs.Tokens.{Kind, receive, send, send_once, Place, in_task, in_request, Request, Token, token, count, Moves}
use Rattle.mach_types.specs.Messages.{Mark, to_port, null, dead, Entry}
use Rattle.mach_types.specs.Bodies.{Through}
use Rattle.mach_model.specs.State.{State, Target, at, gives}
use Rattle.mach_model.specs.CopyIn.{IsLegal, taken_by, put_by, CopyRight}
use Rattle.mach_model.specs.CopyOut.{given_to, GiveMark, GiveWord}
use Rattle.mach_model.specs.Notices.{Owed, right_unused}
use Rattle.mach_model.specs.Names.{JoinsSet, Makes, Renames}
use Rattle.mach_model.specs.References.{LosesOne, Deallocates, DestroysTarget, with_dead, RemovesRight, Modifies, unused_among as unused_of}
use Rattle.mach_model.specs.Requests.{GivesBack, Keeps}
use Rattle.mach_model.specs.Receive.{Takes, DestroysFront, Receipt}
use Rattle.mach_types.specs.Guards.{NoneHolds}
use Rattle.mach_model.specs.Refusals.{guards}
use Rattle.mach_model.specs.Machine.{Step, Judged}
use Rattle.mach_model.specs.Acts.{Does}
use Rattle.mach_model.specs.Lawful.{tally, LawfulLogs, IsLawful}
use Rattle.mach_model.specs.Midway.{MidLawful}
use Rattle.mach_model.specs.Unused.{came_by_once}
use Rattle.mach_model.specs.RequestRefusals.{noted_guards}
use Rattle.mach_model.proofs.Names.{at_own, at_other}
use Rattle.mach_model.proofs.StepLawful.{Does-mid}
use Rattle.mach_laws.specs.Queued.{sum_below, queued, unused_onces}
use Rattle.mach_laws.specs.Counts.{once_rights, by_send_at, queued_by_send, MayNeedSlots}
use Rattle.mach_laws.proofs.Steps.{Effect, Does-effect}
use Rattle.mach_laws.proofs.Counted.{sum_one, sum_more, queue_long}
use Rattle.mach_laws.proofs.Slots.{is_once_right, tally_both, sum_fewer, needed, ending_needs}

-- ---- send-once rights

-- Those that the own part of a step leaves, and those that it owes a notice, are together no more than before.
abbrev FewerOnces : State → State → Owed → Type 0
FewerOnces old mid owed = once_rights mid + length owed ≤ once_rights old

same_ledger : (old mid : State) (owed : Owed) → mid.ledger ≡ old.ledger → owed ≡ [] → FewerOnces old mid owed
same_ledger old mid owed e none = grind (arith, is_once_right)

same_state : (old mid changed : State) (owed : Owed) → mid ≡ changed → changed.ledger ≡ old.ledger → owed ≡ [] → FewerOnces old mid owed
same_state old mid changed owed e f none = same_ledger old mid owed (ap (λ (x : State). x.ledger) e ∙ f) none

one_lost : (task name : ℕ) (d : Disposition) (target : Target) (old mid : State) (owed : Owed) → LosesOne task name d target old mid → owed ≡ [] → FewerOnces old mid owed
one_lost task name d target old mid owed x none = grind (arith, is_once_right)

once_lost : (task name p : ℕ) (d : Owed) (old mid : State) (owed : Owed) → Moves old.ledger mid.ledger (token send_once p (in_task task) ∷ []) [] → owed ≡ (token send_once p (in_task task), right_unused) ∷ [] →
    FewerOnces old mid owed
once_lost task name p d old mid owed moves one = grind (arith, is_once_right)

-- each of them that goes is owed one
abbrev to_be_told : List Token → Owed
to_be_told xs = list_map (λ x. (x, right_unused)) xs

unused_many : (xs : List Token) → length (unused_of xs) ≡ count is_once_right xs
unused_many [] = refl
unused_many (x ∷ xs) = grind (arith, unused_many xs, is_once_right)

all_owed : (old new gone : List Token) (owed : Owed) → Moves old new gone [] → owed ≡ unused_of gone → count is_once_right new + length owed ≤ count is_once_right old
all_owed old new gone owed moves are = grind (arith, is_once_right, unused_many)

target_lost : (task name : ℕ) (target : Target) (old mid : State) (owed : Owed) → DestroysTarget task name target old mid owed → FewerOnces old mid owed
target_lost task name (Target.port p) old mid owed x = grind (arith, is_once_right)
target_lost task name (Target.once p) old mid owed x = once_lost task name p [] old mid owed x.0.tokens x.1
target_lost task name (Target.dead n) old mid owed x = same_state old mid _ owed x.0 refl x.1
target_lost task name (Target.set s) old mid owed x = same_state old mid _ owed x.0 refl x.1

deallocates_lost : (task name : ℕ) (old mid : State) (owed : Owed) → Deallocates task name old mid owed → FewerOnces old mid owed
deallocates_lost task name old mid owed (inl x) = one_lost task name _ _ old mid owed x.1 x.2
deallocates_lost task name old mid owed (inr (inl x)) = once_lost task name x.0 [] old mid owed x.1.tokens x.2
deallocates_lost task name old mid owed (inr (inr x)) = one_lost task name _ _ old mid owed x.1 x.2

removes_lost : (right task name : ℕ) (target : Target) (old mid : State) (owed : Owed) → RemovesRight right task name target old mid owed → FewerOnces old mid owed
removes_lost right task name (Target.port p) old mid owed x = grind (arith, is_once_right)
removes_lost right task name (Target.once p) old mid owed x = target_lost task name (Target.once p) old mid owed x.1
removes_lost right task name (Target.set s) old mid owed x = target_lost task name (Target.set s) old mid owed x.1
removes_lost right task name (Target.dead n) old mid owed x = absurd x

many_sends : (n p task : ℕ) → count is_once_right (replicate n (token send p (in_task task))) ≡ 0
many_sends zero p task = refl
many_sends (suc n) p task = let h = many_sends n p task in omega (arith, h)

with_dead_ledger : (task name n : ℕ) (s : State) → (with_dead task name n s).ledger ≡ s.ledger
with_dead_ledger task name n s = grind arith

modifies_lost : (task name right : ℕ) (delta : ℤ) (old mid : State) (owed : Owed) → Modifies task name right delta old mid owed → FewerOnces old mid owed
modifies_lost task name right delta old mid owed (inl x) = grind (arith, is_once_right, many_sends)
modifies_lost task name right delta old mid owed (inr (inl x)) = same_state old mid _ owed x.5 (with_dead_ledger task name x.1 old) x.6
modifies_lost task name right delta old mid owed (inr (inr (inl x))) = same_state old mid old owed x.2 refl x.3
modifies_lost task name right delta old mid owed (inr (inr (inr x))) = removes_lost right task name x.0 old mid owed x.3

makes_lost : (task right name : ℕ) (old mid : State) (owed : Owed) → Makes task right name old mid → owed ≡ [] → FewerOnces old mid owed
makes_lost task right name old mid owed (inl x) none = grind (arith, is_once_right)
makes_lost task right name old mid owed (inr (inl x)) none = same_state old mid _ owed x.1 refl none
makes_lost task right name old mid owed (inr (inr x)) none = same_state old mid _ owed x.1 refl none

renames_lost : (task o n : ℕ) (old mid : State) (owed : Owed) → Renames task o n old mid → owed ≡ [] → FewerOnces old mid owed
renames_lost task o n old mid owed x none = grind (arith, is_once_right)

joins_lost : (task member after : ℕ) (old mid : State) (owed : Owed) → JoinsSet task member after old mid → owed ≡ [] → FewerOnces old mid owed
joins_lost task member after old mid owed (p, found, inl x) none = same_state old mid _ owed x.1 refl none
joins_lost task member after old mid owed (p, found, inr x) none = same_state old mid _ owed x.2 refl none

-- ---- copying out

given_onces : (kind : Kind) (p task : ℕ) (place : Place) (s : State) → count is_once_right (given_to kind p task s) ≤ count is_once_right (token kind p place ∷ [])
given_onces receive p task place s = omega arith
given_onces send_once p task place s = omega arith
given_onces send p task place s = grind (arith, is_once_right)

pick : (b : Bool) (P Q R : Type 0) → (P → R) → (Q → R) → MatchBool b P Q → R
pick true P Q R f g h = f h
pick false P Q R f g h = g h

mark_onces : (task : ℕ) (place : Place) (kind : Kind) (mark : Mark) (old : State) (word : ℕ) (new : State) → GiveMark task place kind mark old word new → once_rights new ≤ once_rights old
mark_onces task place kind null old word new h = let e = ap once_rights h.1 in omega (arith, e)
mark_onces task place kind dead old word new h = let e = ap once_rights h.1 in omega (arith, e)
mark_onces task place kind (to_port p) old word new h = grind (arith, pick, is_once_right, given_onces)

words_onces : (task : ℕ) (place : Place) (ws : List (ℕ × ℕ)) (old : State) (rs : List (Kind × Mark)) (new : State) → Through (GiveWord task place) old ws rs new → once_rights new ≤ once_rights old
words_onces task place [] old [] new h = let e = ap once_rights h in omega (arith, e)
words_onces task place (w ∷ ws) old (r ∷ rs) new h = grind (arith, words_onces task place ws h.0 rs new h.2, mark_onces)
words_onces task place [] old (r ∷ rs) new h = absurd h
words_onces task place (w ∷ ws) old [] new h = absurd h

takes_onces : (port : ℕ) (e : Entry) (old mid : State) → Takes port e old mid → once_rights mid ≤ once_rights old
takes_onces port e old mid x = let m = x.tokens (λ y. if is_once_right y then 1 else 0) in omega (arith, m)

receipt_lost : (old : State) (task : ℕ) (waited : Waited) (room : ℕ) (large : Bool) (reply : Reply) (mid : State) (owed : Owed) → Receipt old task waited room large reply mid owed → FewerOnces old mid owed
receipt_lost old task waited room large (Reply.Message bytes) mid owed (p, from, x, none) = grind (arith, takes_onces, words_onces)
receipt_lost old task waited room large (Reply.Empty told) mid owed x = same_state old mid old owed x.2 refl x.3
receipt_lost old task waited room large (Reply.TooLarge n) mid owed x = grind (arith, pick, same_state, takes_onces, all_owed)
receipt_lost old task waited room large reply mid owed x = absurd x

-- ---- each call

Does-onces : (now : ℕ) (old : State) (event : Event) (reply : Reply) (mid : State) (owed : Owed) → ¬ (MayNeedSlots event) → Does now old event reply mid owed → FewerOnces old mid owed
Does-onces now old Event.TaskCreate (Reply.Task task) mid owed not d = same_state old mid _ owed d.0.rest refl d.1
Does-onces now old (Event.TaskTerminate task) (Reply.Code code) mid owed not d = all_owed old.ledger mid.ledger d.1.loses.gone owed d.1.loses.moves d.1.owed_are
Does-onces now old (Event.Allocate task right) (Reply.Name name) mid owed not d = makes_lost task right name (gives task name old) mid owed d.1 d.2
Does-onces now old (Event.AllocateName task right name) (Reply.Name told) mid owed not d = makes_lost task right name old mid owed d.1 d.2
Does-onces now old (Event.Deallocate task name) (Reply.Code code) mid owed not d = deallocates_lost task name old mid owed d.1
Does-onces now old (Event.Destroy task name) (Reply.Code code) mid owed not d = target_lost task name d.1.0 old mid owed d.1.2
Does-onces now old (Event.ModRefs task name right delta) (Reply.Code code) mid owed not d = modifies_lost task name right delta old mid owed d.1
Does-onces now old (Event.Rename task o n) (Reply.Code code) mid owed not d = renames_lost task o n old mid owed d.1 d.2
Does-onces now old (Event.SetQlimit task name n) (Reply.Code code) mid owed not d = same_state old mid _ owed d.1.3 refl d.2
Does-onces now old (Event.SetMscount task name n) (Reply.Code code) mid owed not d = same_state old mid _ owed d.2.3 refl d.3
Does-onces now old (Event.SetSeqno task name n) (Reply.Code code) mid owed not d = same_state old mid _ owed d.2.3 refl d.3
Does-onces now old (Event.Names task) (Reply.Names entries) mid owed not d = same_state old mid old owed d.0 refl d.1
Does-onces now old (Event.GetRefs task name right) (Reply.Refs n) mid owed not d = same_state old mid old owed d.0 refl d.1
Does-onces now old (Event.NameType task name) (Reply.NameType n) mid owed not d = same_state old mid old owed d.0 refl d.1
Does-onces now old (Event.ReceiveStatus task name) (Reply.Status status) mid owed not d = same_state old mid old owed d.0 refl d.1
Does-onces now old (Event.SetStatus task name) (Reply.Members members) mid owed not d = same_state old mid old owed d.0 refl d.1
Does-onces now old (Event.MoveMember task member after) (Reply.Code code) mid owed not d = joins_lost task member after old mid owed d.1 d.2
Does-onces now old (Event.InsertMember task member set) (Reply.Code code) mid owed not d = same_state old mid _ owed d.1.rest refl d.2
Does-onces now old (Event.ExtractMember task member set) (Reply.Code code) mid owed not d = same_state old mid _ owed d.1.rest refl d.2
Does-onces now old (Event.InsertRight task name from poly number) reply mid owed not d = absurd (not tt)
Does-onces now old (Event.ExtractRight task name number to) reply mid owed not d = absurd (not tt)
Does-onces now old (Event.RequestNotification task name variant sync notify number) reply mid owed not d = absurd (not tt)
Does-onces now old (Event.Send task bytes) reply mid owed not d = absurd (not tt)
Does-onces now old (Event.Receive task name room large) reply mid owed not d = receipt_lost old task d.0 room large reply mid owed d.2
Does-onces now old (Event.ReceiveAgain task waited room large) reply mid owed not d = receipt_lost old task waited room large reply mid owed d
Does-onces now old event reply mid owed not d = absurd d

-- ---- messages that came by send rights

tally_drop : {A : Type 0} (test : A → Bool) (n : ℕ) (xs : List A) → tally test (drop (suc n) xs) ≤ tally test (drop n xs)
tally_drop test zero [] = omega arith
tally_drop test zero (x ∷ xs) = omega arith
tally_drop test (suc n) [] = omega arith
tally_drop test (suc n) (x ∷ xs) = tally_drop test n xs

-- those of a log, behind what was taken
abbrev by_send_in : Bool → ℕ → List Entry → ℕ
by_send_in live n log = if live then tally (λ e. not (came_by_once e)) (drop n log) else 0

few_by_send : (b : Bool) (xs : List Entry) → (if b then tally (λ e. not (came_by_once e)) xs else 0) ≤ length xs
few_by_send true xs = let all = tally_both came_by_once xs in omega (arith, all)
few_by_send false xs = omega arith

taken_by_send : (b : Bool) (n : ℕ) (xs : List Entry) → by_send_in b (suc n) xs ≤ by_send_in b n xs
taken_by_send true n xs = tally_drop (λ e. not (came_by_once e)) n xs
taken_by_send false n xs = omega arith

module _ (s : State) (l : LawfulLogs s.ports_made s.log s.taken) where
  none_there : (p : ℕ) → length (s.log p) ≡ 0 → by_send_at s p ≡ 0
  none_there p empty = grind (arith, queue_long, few_by_send)

  by_send_more : (k : ℕ) → sum_below (by_send_at s) (s.ports_made + k) ≡ queued_by_send s
  by_send_more k = sum_more (by_send_at s) s.ports_made k (λ p above. none_there p (ap length (l.unmade_log p above)))

module _ (old : State) (event : Event) (reply : Reply) (mid : State) (owed : Owed) (l : IsLawful old) (m : MidLawful mid owed) (unsent : (task : ℕ) (bytes : List ℕ) → ¬ (event ≡ Event.Send task bytes)) where
  same_there : (p : ℕ) → mid.log p ≡ old.log p → mid.taken p ≡ old.taken p → mid.live_port p ≡ old.live_port p → by_send_at mid p ≡ by_send_at old p
  same_there p log taken live = grind arith

  at_port : Effect old event reply mid → (p : ℕ) → by_send_at mid p ≤ by_send_at old p
  at_port (inl u) p = grind (arith, none_there, same_there)
  at_port (inr (inl x)) p = absurd (unsent x.task x.bytes x.is_event)
  at_port (inr (inr x)) p = elim (eqb_tells p x.takes.port) [
    | inl h ↦
        let one : mid.taken p ≡ suc (old.taken p) = subst (λ (q : ℕ). mid.taken q ≡ suc (old.taken q)) (sym h.1) (let t = x.takes.taken in omega (arith, t)) in
        let e = ap (by_send_in (mid.live_port p) (mid.taken p)) (x.log p) ∙ ap (λ (n : ℕ). by_send_in (mid.live_port p) n (old.log p)) one
        ∙ ap (λ (live : ℕ → Bool). by_send_in (live p) (suc (old.taken p)) (old.log p)) x.live in
        let f = taken_by_send (old.live_port p) (old.taken p) (old.log p) in
        omega (arith, e, f)
    | inr h ↦ let e = same_there p (x.log p) (x.takes.others p h.1) (ap (λ (live : ℕ → Bool). live p) x.live) in omega (arith, e)
  ]

  fewer_by_send : Effect old event reply mid → queued_by_send mid ≤ queued_by_send old
  fewer_by_send x =
      let fewer = sum_fewer (by_send_at old) (by_send_at mid) (old.ports_made + mid.ports_made) (λ p within. at_port x p) in
      let a = by_send_more old l.logs mid.ports_made in
      let b : sum_below (by_send_at mid) (old.ports_made + mid.ports_made) ≡ queued_by_send mid = ap (sum_below (by_send_at mid)) (omega arith) ∙ by_send_more mid m.logs old.ports_made in
      omega (arith, fewer, a, b)

-- ---- a step

-- The own part of a step of another call needs no more slots than there were, with what it owes.
pub part_needs : (now : ℕ) (old : State) (event : Event) (reply : Reply) (mid : State) (owed : Owed) → IsLawful old → NoneHolds (guards old event) →
    (does : Does now old event reply mid owed) → Judged now old event reply mid owed does → ¬ (MayNeedSlots event) → queued mid + unused_onces mid + length owed ≤ queued old + unused_onces old
part_needs now old event reply mid owed l good does judged not =
    let m = Does-mid now old event reply mid owed good does judged l in
    let onces = Does-onces now old event reply mid owed not does in
    let sends = fewer_by_send old event reply mid owed l m (λ task bytes is. not (subst MayNeedSlots (sym is) tt)) (Does-effect now old event reply mid owed l good does) in
    let before = needed old l.ports l.logs l.messages in
    let midway = needed mid m.ports m.logs m.messages in
    omega (arith, onces, sends, before, midway)

-- ---- a request for a notice

-- a right that is copied in: one send-once right more at most
put_one : (d : Disposition) (target : Target) (place : Place) → count is_once_right (put_by d target place) ≤ 1
put_one d (Target.port p) place = grind arith
put_one d (Target.once p) place = grind arith
put_one d (Target.set q) place = omega arith
put_one d (Target.dead n) place = omega arith

copy_more : (task : ℕ) (place : Place) (number name : ℕ) (old : State) (mark : Mark) (new : State) → CopyRight task place number name old mark new → once_rights new ≤ once_rights old + 1
copy_more task place number name old mark new c = grind (arith, is_once_right, put_one)

-- none where a send-once right moves
move_same : (old : State) (task : ℕ) (d : Disposition) (target : Target) (place : Place) → Some MoveSendOnce ≡ Some d → IsLegal old task d target →
    count is_once_right (put_by d target place) ≤ count is_once_right (taken_by d target task)
move_same old task MoveSendOnce (Target.once p) place is legal = omega arith
move_same old task MoveSendOnce (Target.dead n) place is legal = omega arith
move_same old task MoveSendOnce (Target.port p) place is legal = absurd legal
move_same old task MoveSendOnce (Target.set q) place is legal = absurd legal
move_same old task MoveReceive target place is legal = absurd (cc)
move_same old task MoveSend target place is legal = absurd (cc)
move_same old task CopySend target place is legal = absurd (cc)
move_same old task MakeSend target place is legal = absurd (cc)
move_same old task MakeSendOnce target place is legal = absurd (cc)

copy_moves : (task : ℕ) (place : Place) (name : ℕ) (old : State) (mark : Mark) (new : State) → CopyRight task place 18 name old mark new → once_rights new ≤ once_rights old
copy_moves task place name old mark new c = grind (arith, is_once_right, move_same)

-- how many a request makes
abbrev pub made_by_request : (notify number : ℕ) → ℕ
made_by_request notify number = if not (notify == null_word) && number == 21 then 1 else 0

copied_onces : (task : ℕ) (place : Place) (notify number : ℕ) (old : State) (mark : Mark) (new : State) → ¬ (notify ≡ null_word) → ¬ (¬ (number ≡ 18) × ¬ (number ≡ 21)) →
    CopyRight task place number notify old mark new → once_rights new ≤ once_rights old + made_by_request notify number
copied_onces task place notify number old mark new some right c = grind (arith, copy_more, ne_eqb, eq-eqb, copy_moves)

given_back : (task : ℕ) (request : Request) (before old : State) (name : ℕ) (new : State) → GivesBack task request before old name new → once_rights new ≡ once_rights old
given_back task request before old name new (inl h) = ap (λ (x : State). once_rights x) h.2
given_back task request before old name new (inr (inl h)) = ap (λ (x : State). once_rights x) h.3
given_back task request before old name new (inr (inr h)) = let m = h.5 (λ y. if is_once_right y then 1 else 0) in omega (arith, m)

kept_or_told : (task name sync : ℕ) (request : Request) (q : ℕ) (old mid : State) (owed : Owed) → Keeps task name sync request q old mid owed → FewerOnces old mid owed
kept_or_told task name sync request q old mid owed (inl h) = grind (arith, is_once_right)
kept_or_told task name sync request q old mid owed (inr (inl h)) = grind (arith, is_once_right)
kept_or_told task name sync request q old mid owed (inr (inr h)) = same_state old mid _ owed h.2 refl h.3

-- The own part of a request needs no more slots than there were, with what it owes, but one for the right that it makes.
pub request_needs : (now : ℕ) (old : State) (task name variant sync notify number previous : ℕ) (mid : State) (owed : Owed) → IsLawful old →
    NoneHolds (guards old (Event.RequestNotification task name variant sync notify number)) →
    (does : Does now old (Event.RequestNotification task name variant sync notify number) (Reply.Previous previous) mid owed) →
    NoneHolds (noted_guards old does.copied task name variant sync notify) →
    queued mid + unused_onces mid + length owed ≤ queued old + unused_onces old + made_by_request notify number
request_needs now old task name variant sync notify number previous mid owed l good does judged =
    let m = Does-mid now old event reply mid owed good does judged l in
    let onces = fewer does.copy in
    let sends = fewer_by_send old event reply mid owed l m (λ task bytes is. unsent task bytes is) (Does-effect now old event reply mid owed l good does) in
    let before = needed old l.ports l.logs l.messages in
    let midway = needed mid m.ports m.logs m.messages in
    omega (arith, onces, sends, before, midway)
  where
    event : Event
    event = Event.RequestNotification task name variant sync notify number

    reply : Reply
    reply = Reply.Previous previous

    unsent : (t : ℕ) (bytes : List ℕ) → ¬ (event ≡ Event.Send t bytes)
    unsent t bytes is = cc

    back : once_rights does.back ≡ once_rights does.copied
    back = given_back task does.request old does.copied previous does.back does.given_back

    fewer : (notify ≡ null_word) × (does.copied ≡ old) × (mid ≡ does.back) × (owed ≡ [])
        ⊎ (notify ≢ null_word) × ((q : ℕ) × CopyRight task (in_request does.request) number notify old (to_port q) does.copied × Keeps task name sync does.request q does.back mid owed) →
        once_rights mid + length owed ≤ once_rights old + made_by_request notify number
    fewer (inl (none, same, is, nothing)) =
        let a = ap (λ (x : State). once_rights x) same in let b = ap (λ (x : State). once_rights x) is in let c : length owed ≡ 0 = ap length nothing in let e = back in omega (arith, a, b, c, e)
    fewer (inr (some, (q, copy, keeps))) =
        let a = copied_onces task (in_request does.request) notify number old (to_port q) does.copied some (λ h. good.1.0 (inr (inl (some, h.0, h.1)))) copy in
        let b = kept_or_told task name sync does.request q does.back mid owed keeps in
        let e = back in omega (arith, a, b, e)

-- ---- a message that is destroyed

front_by_send : (n : ℕ) (xs : List Entry) (e : Entry) → slice_get xs n ≡ Some e → not (came_by_once e) ≡ true →
    tally (λ x. not (came_by_once x)) (drop n xs) ≡ tally (λ x. not (came_by_once x)) (drop (suc n) xs) + 1
front_by_send zero [] e is by_send = absurd (cc)
front_by_send zero (x ∷ xs) e is by_send = grind arith
front_by_send (suc n) [] e is by_send = absurd (cc)
front_by_send (suc n) (x ∷ xs) e is by_send = front_by_send n xs e is by_send

module _ (old mid : State) (owed : Owed) (p : ℕ) (e : Entry) (l : IsLawful old) (m : MidLawful mid owed) (lives : old.live_port p ≡ true) (d : DestroysFront p e old mid owed) where
  same_log : (q : ℕ) → mid.log q ≡ old.log q
  same_log q = ap (λ (s : State). s.log q) d.rest ∙ ap (λ (s : State). s.log q) d.takes.rest

  same_live : mid.live_port ≡ old.live_port
  same_live = ap (λ (s : State). s.live_port) d.rest ∙ ap (λ (s : State). s.live_port) d.takes.rest

  same_made : mid.ports_made ≡ old.ports_made
  same_made = ap (λ (s : State). s.ports_made) d.rest ∙ ap (λ (s : State). s.ports_made) d.takes.rest

  now_taken : (q : ℕ) → mid.taken q ≡ at old.taken p (old.taken p + 1) q
  now_taken q = ap (λ (s : State). s.taken q) d.rest ∙ ap (λ (s : State). s.taken q) d.takes.rest

  by_taken : (q n : ℕ) → mid.taken q ≡ n → by_send_at mid q ≡ by_send_in (old.live_port q) n (old.log q)
  by_taken q n is = grind (arith, same_live, same_log)

  at_front : by_send_at mid p ≡ by_send_in (old.live_port p) (suc (old.taken p)) (old.log p)
  at_front = by_taken p (suc (old.taken p)) (now_taken p ∙ at_own old.taken p (old.taken p + 1) ∙ omega arith)

  elsewhere : (q : ℕ) → q ≢ p → by_send_at mid q ≡ by_send_at old q
  elsewhere q not = by_taken q (old.taken q) (now_taken q ∙ at_other old.taken p (old.taken p + 1) q not)

  no_more_by_send : queued_by_send mid ≤ queued_by_send old
  no_more_by_send = grind (arith, sum_fewer, at_front, taken_by_send, elsewhere, same_made)

  one_by_send : not (came_by_once e) ≡ true → queued_by_send old ≡ queued_by_send mid + 1
  one_by_send by_send =
      let front = front_by_send (old.taken p) (old.log p) e d.takes.front by_send in
      let was : by_send_at old p ≡ tally (λ x. not (came_by_once x)) (drop (old.taken p) (old.log p)) = ap (λ (b : Bool). by_send_in b (old.taken p) (old.log p)) lives in
      let is : by_send_at mid p ≡ tally (λ x. not (came_by_once x)) (drop (suc (old.taken p)) (old.log p)) = at_front ∙ ap (λ (b : Bool). by_send_in b (suc (old.taken p)) (old.log p)) lives in
      let less = sum_one (by_send_at mid) (by_send_at old) p old.ports_made (l.made_port p lives) (omega (arith, front, was, is)) (λ q not. sym (elsewhere q not)) in
      let made = ap (sum_below (by_send_at mid)) same_made in omega (arith, less, made)

  -- The message's slot isn't needed any more, and neither is one for what it owes.
  pub destroyed_needs : queued mid + unused_onces mid + length owed + 1 ≤ queued old + unused_onces old
  destroyed_needs = grind (arith, needed, is_once_right, all_owed, cases_Bool, no_more_by_send, one_by_send)

-- A step of another call needs no more slots than there were.
pub needs_no_more : (now : ℕ) (old : State) (event : Event) (reply : Reply) (new : State) → IsLawful old → Step now old event reply new → ¬ (MayNeedSlots event) →
    queued new + unused_onces new ≤ queued old + unused_onces old
needs_no_more now old event reply new l (inl r) not = let e = ap (λ (s : State). queued s + unused_onces s) r.same in omega (arith, e)
needs_no_more now old event reply new l (inr d) not =
    let m = Does-mid now old event reply d.mid d.owed d.unrefused d.does d.judged l in
    let ending = ending_needs now old d.mid d.owed new m d.settles in
    let part = part_needs now old event reply d.mid d.owed l d.unrefused d.does d.judged not in
    omega (arith, ending, part)
