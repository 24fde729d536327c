-- No event is refused by the code of success.
use Rattle.std.proofs.Common.{◌≡◌, ◌≢◌, ℕ, ◌<◌, [], ◌∷◌, Some, inl, inr, arith, List}
use Rattle.mach_types.specs.declared.calls.Event.{Event}
use Rattle.mach_types.specs.declared.calls.Waited.{Waited}
use Rattle.mach_types.specs.Guards.{Guards, FirstIs}
use Rattle.mach_types.specs.TextGuards.{item_guards}
use Rattle.mach_types.specs.Grammar.{Header, WireBody}
use Rattle.mach_types.specs.Numbers.{kind_sent}
use Rattle.mach_model.specs.State.{State}
use Rattle.mach_model.specs.Refusals.{guards, memory_refusal, RefusesLater, Refuses}
use Rattle.mach_model.specs.RequestRefusals.{RequestRefuses, noted_guards}
use Rattle.mach_model.specs.SendRefusals.{sent_guards, RightsRefuse, SendRefuses}
use Rattle.mach_model.specs.TransferRefusals.{inserted_guards, extracted_guards}
use Rattle.mach_model.specs.Send.{place_at}

abbrev NoneZero : Guards → Type 0
NoneZero [] = Unit {0}
NoneZero (g ∷ gs) = (0 < g.1) × NoneZero gs

first_fails : (gs : Guards) (code : ℕ) → NoneZero gs → FirstIs gs code → 0 < code
first_fails [] code some first = absurd first
first_fails (g ∷ gs) code some (inl h) = let a = some.0 in let b = h.1 in omega (arith, a, b)
first_fails (g ∷ gs) code some (inr h) = first_fails gs code some.1 h.1

-- ---- the guards of each event

none_zero : (s : State) (event : Event) → NoneZero (guards s event)
none_zero s Event.TaskCreate = (omega arith, (omega arith, tt))
none_zero s (Event.TaskTerminate task) = (omega arith, tt)
none_zero s (Event.Allocate task right) = (omega arith, (omega arith, (omega arith, tt)))
none_zero s (Event.AllocateName task right name) = (omega arith, (omega arith, (omega arith, (omega arith, tt))))
none_zero s (Event.Deallocate task name) = (omega arith, (omega arith, (omega arith, tt)))
none_zero s (Event.Destroy task name) = (omega arith, (omega arith, tt))
none_zero s (Event.ModRefs task name right delta) = (omega arith, (omega arith, (omega arith, (omega arith, (omega arith, (omega arith, (omega arith, tt)))))))
none_zero s (Event.GetRefs task name right) = (omega arith, (omega arith, (omega arith, tt)))
none_zero s (Event.NameType task name) = (omega arith, (omega arith, tt))
none_zero s (Event.Names task) = (omega arith, tt)
none_zero s (Event.Rename task o n) = (omega arith, (omega arith, (omega arith, (omega arith, tt))))
none_zero s (Event.ReceiveStatus task name) = (omega arith, (omega arith, (omega arith, tt)))
none_zero s (Event.SetQlimit task name n) = (omega arith, (omega arith, (omega arith, (omega arith, tt))))
none_zero s (Event.SetMscount task name n) = (omega arith, (omega arith, (omega arith, tt)))
none_zero s (Event.SetSeqno task name n) = (omega arith, (omega arith, (omega arith, tt)))
none_zero s (Event.SetStatus task name) = (omega arith, (omega arith, (omega arith, tt)))
none_zero s (Event.MoveMember task member after) = (omega arith, (omega arith, (omega arith, (omega arith, tt))))
none_zero s (Event.InsertMember task member set) = (omega arith, (omega arith, (omega arith, (omega arith, (omega arith, tt)))))
none_zero s (Event.ExtractMember task member set) = (omega arith, (omega arith, (omega arith, (omega arith, (omega arith, tt)))))
none_zero s (Event.InsertRight task name from poly number) = (omega arith, (omega arith, (omega arith, (omega arith, (omega arith, tt)))))
none_zero s (Event.ExtractRight task name number to) = (omega arith, (omega arith, (omega arith, (omega arith, tt))))
none_zero s (Event.RequestNotification task name variant sync notify number) = (omega arith, (omega arith, (omega arith, tt)))
none_zero s (Event.Send task bytes) = (omega arith, (omega arith, (omega arith, (omega arith, tt))))
none_zero s (Event.Receive task name room large) = (omega arith, (omega arith, (omega arith, tt)))
none_zero s (Event.ReceiveAgain task (Waited.Port p) room large) = (omega arith, (omega arith, (omega arith, tt)))
none_zero s (Event.ReceiveAgain task (Waited.Set set) room large) = (omega arith, (omega arith, (omega arith, tt)))

-- ---- what is judged later

rights_fail : (s : State) (task : ℕ) (header : Header) (written : WireBody) (code : ℕ) → RightsRefuse s task header written code → 0 < code
rights_fail s task header written code (inl h) = let e = h.1 in omega (arith, e)
rights_fail s task header written code (inr (inl h)) = let e = h.1 in omega (arith, e)
rights_fail s task header written code (inr (inr (inl h))) = let e = h.1 in omega (arith, e)
rights_fail s task header written code (inr (inr (inr h))) = first_fails (sent_guards h.m (place_at s h.m.destination) h.copied_state) code (omega arith, (omega arith, (omega arith, tt))) h.refused

send_fails : (s : State) (task : ℕ) (bytes : List ℕ) (code : ℕ) → SendRefuses s task bytes code → 0 < code
send_fails s task bytes code (inl (bit, r)) =
    first_fails (item_guards r.rest r.refused.name r.refused.size r.refused.number r.refused.before) code (omega arith, (omega arith, (omega arith, tt))) r.refused.refused
send_fails s task bytes code (inr (header, written, spells, inl e)) = omega (arith, e)
send_fails s task bytes code (inr (header, written, spells, inr r)) = rights_fail s task header written code r

request_fails : (s : State) (task name variant sync notify number code : ℕ) → RequestRefuses s task name variant sync notify number code → 0 < code
request_fails s task name variant sync notify number code (copied, how, inl first) =
    first_fails (noted_guards s copied task name variant sync notify) code (omega arith, (omega arith, (omega arith, (omega arith, (omega arith, tt))))) first
request_fails s task name variant sync notify number code (copied, how, inr h) = let e = h.1 in omega (arith, e)

some_one : (a b : ℕ) → Some a ≡ Some b → a ≡ b
some_one a b e = cc

short_fails : (event : Event) (code : ℕ) → memory_refusal event ≡ Some code → 0 < code
short_fails Event.TaskCreate code e = omega (arith, some_one _ code e)
short_fails (Event.Allocate task right) code e = omega (arith, some_one _ code e)
short_fails (Event.AllocateName task right name) code e = omega (arith, some_one _ code e)
short_fails (Event.Names task) code e = omega (arith, some_one _ code e)
short_fails (Event.Rename task o n) code e = omega (arith, some_one _ code e)
short_fails (Event.SetStatus task name) code e = omega (arith, some_one _ code e)
short_fails (Event.InsertMember task member set) code e = omega (arith, some_one _ code e)
short_fails event code e = absurd (cc)

later_fails : (s : State) (event : Event) (code : ℕ) → RefusesLater s event code → 0 < code
later_fails s (Event.InsertRight task name from poly number) code (p, copied, d, is, copy, inl first) =
    first_fails (inserted_guards copied task name p (kind_sent d)) code (omega arith, (omega arith, (omega arith, (omega arith, tt)))) first
later_fails s (Event.InsertRight task name from poly number) code (p, copied, d, is, copy, inr h) = let e = h.1 in omega (arith, e)
later_fails s (Event.ExtractRight task name number to) code (p, copied, d, is, copy, inl first) = first_fails (extracted_guards copied to p (kind_sent d)) code (omega arith, tt) first
later_fails s (Event.ExtractRight task name number to) code (p, copied, d, is, copy, inr h) = let e = h.1 in omega (arith, e)
later_fails s (Event.RequestNotification task name variant sync notify number) code r = request_fails s task name variant sync notify number code r
later_fails s (Event.Send task bytes) code r = send_fails s task bytes code r
later_fails s (Event.Receive task name room large) code (waited, waits, r) = elim r.refused [ inl h ↦ (let e = h.1 in omega (arith, e)) | inr h ↦ (let e = h.1 in omega (arith, e)) ]
later_fails s (Event.ReceiveAgain task waited room large) code r = elim r.refused [ inl h ↦ (let e = h.1 in omega (arith, e)) | inr h ↦ (let e = h.1 in omega (arith, e)) ]
later_fails s event code r = short_fails event code r

pub refusal_fails : (s : State) (event : Event) (code : ℕ) → Refuses s event code → code ≢ 0
refusal_fails s event code (inl first) none = let some = first_fails (guards s event) code (none_zero s event) first in omega (arith, some, none)
refusal_fails s event code (inr h) none = let some = later_fails s event code h.1 in omega (arith, some, none)
