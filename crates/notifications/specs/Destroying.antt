-- A port's front message is destroyed with all that it carries: what that asks of the tables, and what it changes.
use Rattle.std.specs.Prelude.{◌≡◌, ℕ, ◌+◌, ◌≤◌, ◌<◌, true, List, [], ◌∷◌, ◌++◌, Some, is_some, MatchBool, if◌then◌else◌, ◌==◌, ◌&&◌}
use Rattle.std.specs.Option.{option_to_list}
use Rattle.std.specs.FinMap as map
use Rattle.mach_types.specs.Numbers.{kind_sent}
use Rattle.mach_types.specs.Tokens.{Kind, receive, send, send_once, same_kind}
use Rattle.port.specs.Holding.{CanHold}
use Rattle.port.specs.Ports.{PortView}
use Rattle.rights.specs.Ledger.{IsEntered, counts_of}
use Rattle.copyin_base.specs.declared.Carried.{Carried}
use Rattle.copyin_base.specs.declared.Mark.{Mark}
use Rattle.copyin_base.specs.declared.Mark.TheVariants as mark
use Rattle.copyin_base.specs.declared.Notice.TheVariants as notice
use Rattle.copyin_base.specs.Kept.{Kept}
use Rattle.copyin_base.specs.Shows.{SlotsSuffice}
use Rattle.copyin_base.specs.Worlds.{WorldView, port_at}
use Rattle.copyout.specs.Ready.{AllEntered, Waits}
use Rattle.copyout.specs.Takes.{TakesFront, NotesFront}
use Rattle.copyin_base.specs.Losing.{CanLose, CanPost, LosesPort, LosesSends, Posts}

-- ---- what is lost

-- A right for a port that is there is lost: of a receive right the port is lost, of the last send right it is noted, of a send-once right told.
abbrev pub LosesRight : WorldView → Kind → (port : ℕ) → WorldView → Type 0
LosesRight old receive p new = LosesPort old p new
LosesRight old send p new = LosesSends old p 1 new
LosesRight old send_once p new = Posts old p notice.SendOnce new

-- Nothing is lost where there is no right, or its port is gone.
abbrev pub LosesMark : WorldView → Kind → Mark → WorldView → Type 0
LosesMark old kind (mark.Port p) new = MatchBool (is_some (map.get old.ports.ports p)) (LosesRight old kind p new) (new ≡ old)
LosesMark old kind mark.Null new = new ≡ old
LosesMark old kind mark.Dead new = new ≡ old

-- one after the other, from the front
abbrev pub LosesAll : WorldView → List Carried → WorldView → Type 0
LosesAll old [] new = new ≡ old
LosesAll old (c ∷ cs) new = (mid : WorldView) × LosesMark old (kind_sent c.given) c.mark mid × LosesAll mid cs new

-- The front message is taken from its queue, the right by which it came is gone, and its other rights are lost.
pub record DestroysMessage (old : WorldView) (port : ℕ) (new : WorldView) : Type 0 where
  pub taken : WorldView
  pub takes : TakesFront old port taken
  pub noted : WorldView
  pub notes : NotesFront taken port takes.front noted
  pub loses : LosesAll noted (option_to_list takes.front.reply ++ takes.front.rights) new

-- ---- what that asks

abbrev pub CanLoseRight : WorldView → Kind → (port : ℕ) → Type 0
CanLoseRight w receive p = CanLose w p
CanLoseRight w send p = IsEntered w.ledger p × (1 ≤ (counts_of w.ledger p).send)
CanLoseRight w send_once p = CanPost w p

abbrev pub CanLoseMark : WorldView → Kind → Mark → Type 0
CanLoseMark w kind (mark.Port p) = is_some (map.get w.ports.ports p) ≡ true → CanLoseRight w kind p
CanLoseMark w kind mark.Null = Unit {0}
CanLoseMark w kind mark.Dead = Unit {0}

-- whether it is a right of this kind for the port
abbrev pub one_for : (of : Kind) → (port : ℕ) → Kind → Mark → ℕ
one_for of p kind (mark.Port q) = if same_kind of kind && q == p then 1 else 0
one_for of p kind mark.Null = 0
one_for of p kind mark.Dead = 0

-- how many there are of this kind for the port
abbrev pub rights_for : (of : Kind) → (port : ℕ) → List Carried → ℕ
rights_for of p [] = 0
rights_for of p (c ∷ cs) = one_for of p (kind_sent c.given) c.mark + rights_for of p cs

-- The rights are counted, a slot is spare for each notice, and each port whose receive right is among them is held.
pub record CanLoseAll (w : WorldView) (carried : List Carried) : Type 0 where
  pub entered : AllEntered w
  pub slots : SlotsSuffice w
  pub receivers : (p : ℕ) → is_some (port_at w p) ≡ true → rights_for receive p carried ≤ (counts_of w.ledger p).receive
  pub one_each : (p : ℕ) → (counts_of w.ledger p).receive ≤ 1
  pub senders : (p : ℕ) → is_some (port_at w p) ≡ true → rights_for send p carried ≤ (counts_of w.ledger p).send
  pub onces : (p : ℕ) → is_some (port_at w p) ≡ true → rights_for send_once p carried ≤ (counts_of w.ledger p).send_once
  pub held : (p : ℕ) (v : PortView Kept) → port_at w p ≡ Some v → 0 < rights_for receive p carried → CanHold v.attributes.holder

-- A message waits at the port, and what it carries can be lost once it was taken.
pub record CanDestroy (w : WorldView) (port : ℕ) : Type 0 where
  pub waits : Waits w port
  pub later : (t v : WorldView) (takes : TakesFront w port t) → NotesFront t port takes.front v → CanLoseAll v (option_to_list takes.front.reply ++ takes.front.rights)
