-- Which code refuses to hand a right to another task, once it was copied in. That it is judged then, and in this order, is this
-- project's own choice.
use Rattle.std.specs.Prelude.{◌≡◌, ◌≢◌, ℕ, ◌<◌, ◌⊎◌, [], ◌∷◌, length, Some, None}
use Rattle.mach_types.specs.declared.rights.Disposition.{Disposition}
use Rattle.mach_types.specs.declared.codes.KernReturn.TheVariants.{NoSpace, ResourceShortage, NameExists, UrefsOverflow, RightExists}
use Rattle.mach_types.specs.Numbers.{disposition, kind_sent, most_references, most_rights}
use Rattle.mach_types.specs.Codes.{kern_number}
use Rattle.mach_types.specs.Tokens.{Kind, send, send_once, Place}
use Rattle.mach_types.specs.Messages.{to_port}
use Rattle.mach_types.specs.Guards.{Guards, FirstIs, NoneHolds}
use Rattle.mach_model.specs.State.{State, Target, lookup, held}
use Rattle.mach_model.specs.CopyIn.{CopyRight}
use Rattle.mach_model.specs.Room.{NeedsName, HasNoRoom}

-- judged when the right is already with the task
abbrev pub inserted_guards : State → (task name port : ℕ) → Kind → Guards
inserted_guards copied task name p kind =
    ((kind ≢ send_once) × ((n : ℕ) × (n ≢ name) × (lookup copied task n ≡ Some (Target.port p))), kern_number RightExists)
    ∷ ((lookup copied task name ≢ None) × ((kind ≡ send_once) ⊎ (lookup copied task name ≢ Some (Target.port p))), kern_number NameExists)
    ∷ (most_references < held copied task send p, kern_number UrefsOverflow)
    ∷ (HasNoRoom copied task × (lookup copied task name ≡ None) ⊎ (most_rights < length copied.ledger), kern_number NoSpace)
    ∷ []

abbrev pub extracted_guards : State → (task port : ℕ) → Kind → Guards
extracted_guards copied task p kind =
    (HasNoRoom copied task × NeedsName copied task kind p ⊎ (most_rights < length copied.ledger), kern_number NoSpace) ∷ []

-- The right can be copied in, and is refused with this code in the state after that; want of memory comes last.
abbrev pub CopyRefuses : (task : ℕ) → Place → (number name : ℕ) → State → ((port : ℕ) → Kind → State → Guards) → (code : ℕ) → Type 0
CopyRefuses task place number name s guards code =
    (p : ℕ) × (copied : State) × (d : Disposition) × (disposition number ≡ Some d)
    × CopyRight task place number name s (to_port p) copied
    × (FirstIs (guards p (kind_sent d) copied) code ⊎ NoneHolds (guards p (kind_sent d) copied) × (code ≡ kern_number ResourceShortage))
