-- What a gate is told of a call and asked between two tries.
use Rattle.std.specs.Prelude.{◌≡◌, ◌≢◌, ℕ, Bool, [], ◌∷◌, Option, None}
use Rattle.mach_types.specs.Codes.{kern_number}
use Rattle.mach_types.specs.declared.codes.KernReturn.TheVariants.{Success}
use Rattle.mach_types.specs.declared.calls.Reply.{Reply}
use Rattle.mach_types.specs.declared.calls.Waited.{Waited}
use Rattle.mach_types.specs.declared.touched.Touched.{Touched}
use Rattle.mach_types.specs.declared.touched.Touched.TheVariants.{Few}

-- ---- which calls change something

-- The call wasn't done: it was refused, found no message, or wasn't recorded.
abbrev pub IsUndone : Reply → Type 0
IsUndone (Reply.Code code) = code ≢ kern_number Success
IsUndone (Reply.Empty waited) = Unit {0}
IsUndone Reply.NoRecord = Unit {0}
IsUndone reply = ⊥

-- The call reads: references, a type, names, a status, members.
abbrev pub IsRead : Reply → Type 0
IsRead (Reply.Refs count) = Unit {0}
IsRead (Reply.NameType type) = Unit {0}
IsRead (Reply.Names names) = Unit {0}
IsRead (Reply.Status status) = Unit {0}
IsRead (Reply.Members names) = Unit {0}
IsRead reply = ⊥

-- no port and no set
abbrev pub nothing : Touched
nothing = Few (None ∷ None ∷ None ∷ None ∷ [])

-- The call was done and doesn't only read. A message that is too long was a change only if it was destroyed, which touches its port.
pub record MayChange (reply : Reply) (touched : Touched) : Type 0 where
  pub done : ¬ (IsUndone reply)
  pub writes : ¬ (IsRead reply)
  pub destroys : (size : ℕ) → reply ≡ Reply.TooLarge size → touched ≢ nothing

-- ---- what passes between a caller and its gate

pub data Exchange : Type 0 where
  Changed : (touched : Touched) → Exchange  -- the gate was told of a call that may have changed these ports and sets
  Unchanged : Exchange  -- the gate was told of a call that changed nothing
  Asked : (turn : ℕ) (on : Option Waited) (again : Bool) → Exchange  -- the gate was asked whether to try again, and said so

-- A gate that was told of a call with this reply.
pub record Told {G : Type 0} (passes : G → Exchange → G → Type 0) (reply : Reply) (touched : Touched) (old new : G) : Type 0 where
  pub changed : MayChange reply touched → passes old (Changed touched) new
  pub unchanged : ¬ (MayChange reply touched) → passes old Unchanged new
