-- Copying in: what a right word takes from the sender and puts into the message (IPC Interface, `mach_msg` with MACH_SEND_MSG).
use Rattle.std.specs.Prelude.{◌≡◌, ℕ, ◌+◌, ◌-◌, ◌%◌, ◌^◌, Bool, List, [], ◌∷◌, Some, if◌then◌else◌, ◌==◌, ◌||◌, nat_lt, MatchBool}
use Rattle.mach_types.specs.declared.rights.Disposition.{Disposition}
use Rattle.mach_types.specs.declared.rights.Disposition.TheVariants.{MoveReceive, MoveSend, MoveSendOnce, CopySend, MakeSend, MakeSendOnce}
use Rattle.mach_types.specs.Numbers.{disposition, kind_sent, null_word, dead_word}
use Rattle.mach_types.specs.Tokens.{Kind, receive, send, send_once, Place, in_task, Token, token, Moves}
use Rattle.mach_types.specs.Messages.{Mark, null, dead, ReplyRight, absent, present, Body}
use Rattle.mach_model.specs.State.{State, Target, lookup, held, Holds, at, without_name, with_name}
use Rattle.mach_types.specs.Grammar.{WireBody}
use Rattle.mach_types.specs.Bodies.{body_words, body_rights, SameBody, Through}
use Rattle.mach_model.specs.SentMeans.{IsSent, target_mark}

-- The task holds what the disposition needs. A dead name may be sent on, but no right made from it.
abbrev pub IsLegal : State → (task : ℕ) → Disposition → Target → Type 0
IsLegal s task MoveReceive (Target.port p) = Holds s task receive p
IsLegal s task MoveSend (Target.port p) = Holds s task send p
IsLegal s task CopySend (Target.port p) = Holds s task send p
IsLegal s task MakeSend (Target.port p) = Holds s task receive p
IsLegal s task MakeSendOnce (Target.port p) = Holds s task receive p
IsLegal s task MoveSendOnce (Target.once p) = Unit {0}
IsLegal s task MoveSend (Target.dead references) = Unit {0}
IsLegal s task MoveSendOnce (Target.dead references) = Unit {0}
IsLegal s task CopySend (Target.dead references) = Unit {0}
IsLegal s task d target = ⊥

-- the token that is taken from the task
abbrev pub taken_by : Disposition → Target → (task : ℕ) → List Token
taken_by MoveReceive (Target.port p) task = token receive p (in_task task) ∷ []
taken_by MoveSend (Target.port p) task = token send p (in_task task) ∷ []
taken_by MoveSendOnce (Target.once p) task = token send_once p (in_task task) ∷ []
taken_by d target task = []

-- the token that is put at the place
abbrev pub put_by : Disposition → Target → Place → List Token
put_by d (Target.port p) place = token (kind_sent d) p place ∷ []
put_by d (Target.once p) place = token (kind_sent d) p place ∷ []
put_by d target place = []

-- a name stays while a right or a reference is left under it
abbrev pub name_kept : Bool → (task name : ℕ) → State → State
name_kept kept task name s = if kept then s else without_name task name s

-- what else changes
abbrev pub changed_by : Disposition → Target → (task name : ℕ) → State → State
changed_by MoveReceive (Target.port p) task name s =
    record (name_kept (nat_lt 0 (held s task send p)) task name s) {
      sets_of = at s.sets_of p [];
      make_send = at s.make_send p 0;
      sequence = at s.sequence p 0;
    }
changed_by MoveSend (Target.port p) task name s =
    name_kept (nat_lt 1 (held s task send p) || nat_lt 0 (held s task receive p)) task name s
changed_by MakeSend (Target.port p) task name s = record s { make_send = at s.make_send p ((s.make_send p + 1) % 2 ^ 32) }
changed_by MoveSendOnce (Target.once p) task name s = without_name task name s
changed_by MoveSend (Target.dead references) task name s =
    if nat_lt 1 references then with_name task name (Target.dead (references - 1)) s else without_name task name s
changed_by MoveSendOnce (Target.dead references) task name s =
    if nat_lt 1 references then with_name task name (Target.dead (references - 1)) s else without_name task name s
changed_by d target task name s = s

-- The right under the name is copied in at the place, and stands there as this mark.
pub record CopyRight (task : ℕ) (place : Place) (number name : ℕ) (old : State) (mark : Mark) (new : State) : Type 0 where
  pub given : Disposition
  pub is_given : disposition number ≡ Some given
  pub target : Target
  pub found : lookup old task name ≡ Some target
  pub legal : IsLegal old task given target
  pub mark_is : target_mark given target ≡ Some mark
  pub rest : new ≡ record (changed_by given target task name old) { ledger = new.ledger }
  pub tokens : Moves old.ledger new.ledger (taken_by given target task) (put_by given target place)

-- So is a word of the reply or the body, of which two are no names.
abbrev pub CopyWord : (task : ℕ) → Place → (number word : ℕ) → State → Mark → State → Type 0
CopyWord task place number word old mark new =
    MatchBool (word == null_word) ((mark ≡ null) × (new ≡ old))
    (MatchBool (word == dead_word) ((mark ≡ dead) × (new ≡ old))
    (CopyRight task place number word old mark new))

abbrev pub CopyReply : (task : ℕ) → Place → (number word : ℕ) → State → ReplyRight → State → Type 0
CopyReply task place number word old absent new = (number ≡ 0) × (word ≡ null_word) × (new ≡ old)
CopyReply task place number word old (present kind mark) new = IsSent number kind × CopyWord task place number word old mark new

-- a word of the body, and the right that it becomes
abbrev pub CopyCarried : (task : ℕ) → Place → State → ℕ × ℕ → Kind × Mark → State → Type 0
CopyCarried task place old w r new = CopyWord task place w.0 w.1 old r.1 new

abbrev pub CopyBody : (task : ℕ) → Place → WireBody → State → Body → State → Type 0
CopyBody task place written old body new =
    SameBody IsSent written body × Through (CopyCarried task place) old (body_words written) (body_rights body) new
