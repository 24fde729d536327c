-- The machine: the steps of `Acts`, each with the codes and answers that are judged right; runs (this project's own).
use Rattle.std.specs.Prelude.{◌≡◌, ℕ, ◌+◌, ◌⊎◌, List, [], ◌∷◌}
use Rattle.mach_types.specs.declared.calls.Event.{Event}
use Rattle.mach_types.specs.declared.calls.Reply.{Reply}
use Rattle.mach_types.specs.Guards.{NoneHolds}
use Rattle.mach_model.specs.State.{State, opening_in}
use Rattle.mach_model.specs.Notices.{Owed}
use Rattle.mach_model.specs.Acts.{Does, Declined, Performed}
use Rattle.mach_model.specs.Send.{place_at}
use Rattle.mach_model.specs.Telling.{names_of, TellsType, TellsReferences, TellsStatus, TellsMembers}
use Rattle.mach_model.specs.TransferRefusals.{inserted_guards, extracted_guards}
use Rattle.mach_model.specs.RequestRefusals.{noted_guards}
use Rattle.mach_model.specs.SendRefusals.{sent_guards}
use Rattle.mach_types.specs.Numbers.{kind_sent}
use Rattle.mach_model.specs.Refusals.{Refuses, guards}
use Rattle.mach_types.specs.declared.profiles.Profile.{Profile}
use Rattle.mach_types.specs.declared.profiles.Profile.TheVariants.{One}

-- What an event that isn't refused tells where it asks; and that it isn't refused once it has copied a right in, in the state after that.
abbrev pub Judged : (now : ℕ) (old : State) (event : Event) (reply : Reply) (mid : State) (owed : Owed) → Does now old event reply mid owed → Type 0
Judged now old (Event.GetRefs task name right) (Reply.Refs n) mid owed does = TellsReferences old task name right n
Judged now old (Event.NameType task name) (Reply.NameType n) mid owed does = TellsType old task name n
Judged now old (Event.Names task) (Reply.Names entries) mid owed does = entries ≡ names_of old task
Judged now old (Event.ReceiveStatus task name) (Reply.Status status) mid owed does = TellsStatus old task name status
Judged now old (Event.SetStatus task name) (Reply.Members members) mid owed does = TellsMembers old task name members
Judged now old (Event.InsertRight task name from poly number) (Reply.Code code) mid owed (told, i, owes) =
    NoneHolds (inserted_guards i.copied task name i.p (kind_sent i.copy.given))
Judged now old (Event.ExtractRight task name number to) (Reply.Right new_name kind) mid owed (x, owes) =
    NoneHolds (extracted_guards x.copied to x.p (kind_sent x.copy.given))
Judged now old (Event.RequestNotification task name variant sync notify number) (Reply.Previous previous) mid owed r =
    NoneHolds (noted_guards old r.copied task name variant sync notify)
Judged now old (Event.Send task bytes) (Reply.Code code) mid owed (told, s, owes) =
    NoneHolds (sent_guards s.m (place_at old s.m.destination) s.copied_state)
Judged now old event reply mid owed does = Unit {0}

-- A refusal is by a code that refuses the event.
pub record Refused (old : State) (event : Event) (reply : Reply) (new : State) : Type 0 where
  pub declined : Declined old reply new
  pub open declined use *
  pub refuses : Refuses old event declined.code

-- What no code refuses is done.
pub record Done (now : ℕ) (old : State) (event : Event) (reply : Reply) (new : State) : Type 0 where
  pub performed : Performed now old event reply new
  pub open performed use *
  pub unrefused : NoneHolds (guards old event)
  pub judged : Judged now old event reply performed.mid performed.owed performed.does

-- Step number now: from the old state the event may be answered so, and leads to the new state.
abbrev pub Step : (now : ℕ) → State → Event → Reply → State → Type 0
Step now old event reply new = Refused old event reply new ⊎ Done now old event reply new

abbrev pub RunFrom : (now : ℕ) → State → List Event → List Reply → State → Type 0
RunFrom now old [] [] new = new ≡ old
RunFrom now old (e ∷ es) (r ∷ rs) new = (mid : State) × Step now old e r mid × RunFrom (now + 1) mid es rs new
RunFrom now old [] (r ∷ rs) new = ⊥
RunFrom now old (e ∷ es) [] new = ⊥

-- These replies to these events lead from nothing to this state.
abbrev pub RunIn : Profile → List Event → List Reply → State → Type 0
RunIn profile events replies new = RunFrom 0 (opening_in profile) events replies new

-- A kernel of the first profile begins here, and has such runs.
abbrev pub opening : State
opening = opening_in One

abbrev pub Run : List Event → List Reply → State → Type 0
Run = RunIn One
