-- Which code refuses a request for a notice (Port Manipulation Interface, `mach_port_request_notification`; the order is this
-- project's own).
use Rattle.std.specs.Prelude.{◌≡◌, ◌≢◌, ℕ, ◌<◌, ◌⊎◌, [], ◌∷◌, length, Some, None}
use Rattle.mach_types.specs.declared.codes.KernReturn.TheVariants.{NoSpace, ResourceShortage, InvalidName, InvalidRight, InvalidArgument, InvalidValue, UrefsOverflow, InvalidCapability}
use Rattle.mach_types.specs.Numbers.{null_word, most_references, most_rights}
use Rattle.mach_types.specs.Codes.{kern_number}
use Rattle.mach_types.specs.Tokens.{Request, in_task, in_request, count}
use Rattle.mach_types.specs.Messages.{to_port}
use Rattle.mach_types.specs.Guards.{Guards, FirstIs, NoneHolds}
use Rattle.mach_model.specs.State.{State, Target, lookup}
use Rattle.mach_model.specs.Death.{same_place}
use Rattle.mach_model.specs.NameGuards.{NamesReceive, IsSet, IsLegalName, IsDeadName}
use Rattle.mach_model.specs.CopyIn.{CopyRight}
use Rattle.mach_model.specs.Room.{HasNoRoom}
use Rattle.mach_model.specs.Requests.{RequestOn}

-- the request keeps a right, which comes out under a fresh name
abbrev pub GivesRight : (before copied : State) → (task name variant : ℕ) → Type 0
GivesRight before copied task name variant =
    (request : Request) × RequestOn copied task name variant request × (0 < count (λ x. same_place (in_request request) x.place) before.ledger)

-- judged when the notify right was copied in, which leads from the state before to the one that is copied
abbrev pub noted_guards : (before copied : State) → (task name variant sync notify : ℕ) → Guards
noted_guards before copied task name variant sync notify =
    (lookup copied task name ≡ None, kern_number InvalidName)
    ∷ (
      ((variant ≡ 69) ⊎ (variant ≡ 70)) × ¬ (NamesReceive copied task name)
          ⊎ (variant ≡ 72) × IsSet (lookup copied task name),
      kern_number InvalidRight,
    )
    ∷ ((variant ≡ 72) × IsDeadName copied task name × ((sync ≡ 0) ⊎ (notify ≡ null_word)), kern_number InvalidArgument)
    ∷ ((variant ≡ 72) × (lookup copied task name ≡ Some (Target.dead most_references)), kern_number UrefsOverflow)
    ∷ ((most_rights < length copied.ledger) ⊎ HasNoRoom copied task × GivesRight before copied task name variant, kern_number NoSpace)
    ∷ []

abbrev pub IsVariant : ℕ → Type 0
IsVariant variant = (variant ≡ 69) ⊎ (variant ≡ 70) ⊎ (variant ≡ 72)

-- judged in the state before, of a task that lives
abbrev pub notify_guards : State → (task name variant sync notify number : ℕ) → Guards
notify_guards s task name variant sync notify number =
    (¬ (IsVariant variant) ⊎ (notify ≢ null_word) × (number ≢ 18) × (number ≢ 21) ⊎ (variant ≡ 69) × (sync ≢ 0), kern_number InvalidValue)
    ∷ ((notify ≢ null_word) × (¬ (IsLegalName s task notify number) ⊎ IsDeadName s task notify), kern_number InvalidCapability)
    ∷ []

-- The notify right can be copied in, where there is one, and the request is refused with this code in the state after that; want of
-- memory comes last.
abbrev pub RequestRefuses : State → (task name variant sync notify number code : ℕ) → Type 0
RequestRefuses s task name variant sync notify number code =
    (copied : State) × ((notify ≡ null_word) × (copied ≡ s)
    ⊎ (notify ≢ null_word) × ((q : ℕ) × CopyRight task (in_task task) number notify s (to_port q) copied))
    × (FirstIs (noted_guards s copied task name variant sync notify) code
    ⊎ NoneHolds (noted_guards s copied task name variant sync notify) × (code ≡ kern_number ResourceShortage))
