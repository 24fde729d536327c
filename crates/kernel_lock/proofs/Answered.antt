-- A step is answered: no reply of the machine says that there was no record.
use Rattle.std.proofs.Common.{◌≡◌, ◌≢◌, ℕ, inl, inr, subst}
use Rattle.mach_types.specs.declared.calls.Event.{Event}
use Rattle.mach_types.specs.declared.calls.Reply.{Reply}
use Rattle.mach_model.specs.State.{State}
use Rattle.mach_model.specs.Notices.{Owed}
use Rattle.mach_model.specs.Machine.{Step}
use Rattle.mach_model.specs.Acts.{Does}

none_answered : (now : ℕ) (s : State) (event : Event) (mid : State) (owed : Owed) → ¬ (Does now s event Reply.NoRecord mid owed)
none_answered now s Event.TaskCreate mid owed d = absurd d
none_answered now s (Event.TaskTerminate a) mid owed d = absurd d
none_answered now s (Event.Allocate a b) mid owed d = absurd d
none_answered now s (Event.AllocateName a b x) mid owed d = absurd d
none_answered now s (Event.Deallocate a b) mid owed d = absurd d
none_answered now s (Event.Destroy a b) mid owed d = absurd d
none_answered now s (Event.ModRefs a b x y) mid owed d = absurd d
none_answered now s (Event.GetRefs a b x) mid owed d = absurd d
none_answered now s (Event.NameType a b) mid owed d = absurd d
none_answered now s (Event.Names a) mid owed d = absurd d
none_answered now s (Event.Rename a b x) mid owed d = absurd d
none_answered now s (Event.ReceiveStatus a b) mid owed d = absurd d
none_answered now s (Event.SetQlimit a b x) mid owed d = absurd d
none_answered now s (Event.SetMscount a b x) mid owed d = absurd d
none_answered now s (Event.SetSeqno a b x) mid owed d = absurd d
none_answered now s (Event.SetStatus a b) mid owed d = absurd d
none_answered now s (Event.MoveMember a b x) mid owed d = absurd d
none_answered now s (Event.InsertMember a b x) mid owed d = absurd d
none_answered now s (Event.ExtractMember a b x) mid owed d = absurd d
none_answered now s (Event.InsertRight a b x y z) mid owed d = absurd d
none_answered now s (Event.ExtractRight a b x y) mid owed d = absurd d
none_answered now s (Event.RequestNotification a b x y z w) mid owed d = absurd d
none_answered now s (Event.Send a b) mid owed d = absurd d
none_answered now s (Event.Receive a b x y) mid owed d = absurd d.2
none_answered now s (Event.ReceiveAgain a b x y) mid owed d = absurd d

-- a refusal answers a code
none_told : (code : ℕ) → Reply.NoRecord ≡ Reply.Code code → ⊥
none_told code e = cc

not_unrecorded : (now : ℕ) (s : State) (event : Event) (t : State) → ¬ (Step now s event Reply.NoRecord t)
not_unrecorded now s event t (inl r) = none_told r.code r.told
not_unrecorded now s event t (inr d) = none_answered now s event d.mid d.owed d.does

pub answered : (now : ℕ) (s : State) (event : Event) (reply : Reply) (t : State) → Step now s event reply t → reply ≢ Reply.NoRecord
answered now s event reply t step is = not_unrecorded now s event t (subst (λ (r : Reply). Step now s event r t) is step)
