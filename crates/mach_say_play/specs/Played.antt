-- What the statements of a storyboard make of the history.
use Rattle.std.specs.Prelude.{◌≡◌, List, [], ◌∷◌, ◌++◌, All, length}
use Rattle.mach_types.specs.declared.calls.Event.{Event}
use Rattle.kernel_lock.specs.declared.entry.Entry.{Entry}
use Rattle.mach_say_syntax.specs.declared.syntax.Said.{Said}
use Rattle.mach_say_syntax.specs.declared.syntax.SaidCall.{SaidCall}
use Rattle.mach_say_syntax.specs.declared.syntax.Statement.{Statement}
use Rattle.mach_say_words.specs.declared.expected.Expected.{Expected}
use Rattle.mach_say_words.specs.Fits.{Fits, Succeeds}
use Rattle.mach_say_play.specs.Calls.{IsCall}
use Rattle.mach_say_play.specs.Answers.{AsksFor}

-- The entry is the statement's call, and its reply is what the statement asks for.
pub record IsAsSaid (said : SaidCall) (e : Entry) : Type 0 where
  pub call : IsCall said.call e.event
  pub asked : Expected
  pub asks : AsksFor said.answer asked
  pub fits : Fits asked e.reply

-- A task was made.
pub record MakesTask (e : Entry) : Type 0 where
  pub event : e.event ≡ Event.TaskCreate
  pub caller : e.caller ≡ 0
  pub reply : Succeeds e.reply

-- The statement adds these entries to the history.
abbrev pub Adds : Statement → List Entry → Type 0
Adds (Statement.Tasks words) entries = (length entries ≡ length words.items) × All MakesTask entries
Adds (Statement.Call said) entries = (e : Entry) × (entries ≡ e ∷ []) × IsAsSaid said e
Adds said entries = entries ≡ []

-- The entries are those of the statements, in their order.
abbrev pub AreOf : List Said → List Entry → Type 0
AreOf [] entries = entries ≡ []
AreOf (said ∷ more) entries = (first : List Entry) × (rest : List Entry) × (entries ≡ first ++ rest) × Adds said.statement first × AreOf more rest
