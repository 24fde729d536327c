-- What a right that is copied in keeps: the port of its name, the ports and the sum of rights.
use Rattle.std.proofs.Common.{◌≡◌, ℕ, ◌+◌, ◌-◌, Bool, true, false, Option, Some, None, IfSome, refl, ap, subst, arith}
use Rattle.std.specs.Prelude.{if◌then◌else◌}
use Rattle.std.specs.FinMap as map
use Rattle.std.specs.Ordering.{nat_cmp}
use Rattle.mach_model.proofs.Names.{get_own, get_other}
use Rattle.mach_types.specs.declared.rights.Disposition.{Disposition}
use Rattle.mach_types.specs.declared.rights.Disposition.TheVariants.{MoveReceive, MoveSend, MoveSendOnce, CopySend, MakeSend, MakeSendOnce}
use Rattle.name_space.specs.declared.Entry.{Entry}
use Rattle.name_space.specs.declared.Entry.TheVariants as entry
use Rattle.name_space.specs.Entry.{port_named, port_of}
use Rattle.port.specs.Ports.{PortView, PortsView, IsLive}
use Rattle.rights.specs.Ledger.{LedgerView, IsEntered}
use Rattle.dispositions.specs.declared.Copied.{Copied}
use Rattle.copyin_base.specs.declared.Mark.{Mark}
use Rattle.copyin_base.specs.declared.Mark.TheVariants as mark
use Rattle.dispositions.specs.Copies.{copied_from, one_less}
use Rattle.copyin.specs.Copies.{ports_copied, port_copied, ledger_copied}
use Rattle.copyin.specs.Judging.{made_by_mark}
use Rattle.copyin_base.specs.Kept.{Kept}

-- What is left is for the port for which the entry was, if it was for one, and so is the right that goes.
pub record Keeps (e : Entry) (k : Copied) : Type 0 where
  pub named : IfSome k.left (λ left. (p : ℕ) → port_named left ≡ Some p → port_named e ≡ Some p)
  pub held : IfSome k.left (λ left. (p : ℕ) → port_of left ≡ Some p → port_of e ≡ Some p)
  pub stays : IfSome k.left (λ left. (p : ℕ) → port_of e ≡ Some p → port_of left ≡ Some p)
  pub mark : (p : ℕ) → k.mark ≡ mark.Port p → port_of e ≡ Some p

abbrev KeepsIfAny : Entry → Option Copied → Type 0
KeepsIfAny e None = Unit {0}
KeepsIfAny e (Some k) = Keeps e k

pub if_either : {X : Type 0} (b : Bool) (x : X) (o : Option X) (P : X → Type 0) → P x → IfSome o P → IfSome (if b then Some x else o) P
if_either true x o P one other = one
if_either false x o P one other = other

kept_less : (e : Entry) (with_references : ℕ → Entry) (o : Option Entry) (m : Mark) (n : ℕ)
    → ((p : ℕ) → port_named (with_references (n - 1)) ≡ Some p → port_named e ≡ Some p) → ((p : ℕ) → port_of (with_references (n - 1)) ≡ Some p → port_of e ≡ Some p)
    → ((p : ℕ) → port_of e ≡ Some p → port_of (with_references (n - 1)) ≡ Some p)
    → IfSome o (λ left. (p : ℕ) → port_named left ≡ Some p → port_named e ≡ Some p) → IfSome o (λ left. (p : ℕ) → port_of left ≡ Some p → port_of e ≡ Some p)
    → IfSome o (λ left. (p : ℕ) → port_of e ≡ Some p → port_of left ≡ Some p)
    → ((p : ℕ) → m ≡ mark.Port p → port_of e ≡ Some p) → Keeps e (record { left = one_less with_references o n; mark = m })
kept_less e with_references o m n a b c x y z f = grind (arith, if_either)

kept : (d : Disposition) (e : Entry) → KeepsIfAny e (copied_from d e)
kept MoveReceive (entry.Receive p) = record { named = tt; held = tt; stays = tt; mark = λ q h. (cc) }
kept MoveReceive (entry.Send p n) = tt
kept MoveReceive (entry.ReceiveAndSend p n) = record { named = λ q h. h; held = λ q h. h; stays = λ q h. h; mark = λ q h. (cc) }
kept MoveReceive (entry.SendOnce p) = tt
kept MoveReceive (entry.DeadName n) = tt
kept MoveReceive (entry.Set s) = tt
kept MoveSend (entry.Receive p) = tt
kept MoveSend (entry.Send p n) = kept_less (entry.Send p n) (entry.Send p) None (mark.Port p) n (λ q h. h) (λ q h. h) (λ q h. h) tt tt tt (λ q h. (cc))
kept MoveSend (entry.ReceiveAndSend p n) = grind (arith, kept_less)
kept MoveSend (entry.SendOnce p) = tt
kept MoveSend (entry.DeadName n) = kept_less (entry.DeadName n) entry.DeadName None mark.Dead n (λ q h. h) (λ q h. h) (λ q h. h) tt tt tt (λ q h. (cc))
kept MoveSend (entry.Set s) = tt
kept MoveSendOnce (entry.Receive p) = tt
kept MoveSendOnce (entry.Send p n) = tt
kept MoveSendOnce (entry.ReceiveAndSend p n) = tt
kept MoveSendOnce (entry.SendOnce p) = record { named = tt; held = tt; stays = tt; mark = λ q h. (cc) }
kept MoveSendOnce (entry.DeadName n) = kept_less (entry.DeadName n) entry.DeadName None mark.Dead n (λ q h. h) (λ q h. h) (λ q h. h) tt tt tt (λ q h. (cc))
kept MoveSendOnce (entry.Set s) = tt
kept CopySend (entry.Receive p) = tt
kept CopySend (entry.Send p n) = record { named = λ q h. h; held = λ q h. h; stays = λ q h. h; mark = λ q h. (cc) }
kept CopySend (entry.ReceiveAndSend p n) = record { named = λ q h. h; held = λ q h. h; stays = λ q h. h; mark = λ q h. (cc) }
kept CopySend (entry.SendOnce p) = tt
kept CopySend (entry.DeadName n) = record { named = λ q h. h; held = λ q h. h; stays = λ q h. h; mark = λ q h. (cc) }
kept CopySend (entry.Set s) = tt
kept MakeSend (entry.Receive p) = record { named = λ q h. h; held = λ q h. h; stays = λ q h. h; mark = λ q h. (cc) }
kept MakeSend (entry.Send p n) = tt
kept MakeSend (entry.ReceiveAndSend p n) = record { named = λ q h. h; held = λ q h. h; stays = λ q h. h; mark = λ q h. (cc) }
kept MakeSend (entry.SendOnce p) = tt
kept MakeSend (entry.DeadName n) = tt
kept MakeSend (entry.Set s) = tt
kept MakeSendOnce (entry.Receive p) = record { named = λ q h. h; held = λ q h. h; stays = λ q h. h; mark = λ q h. (cc) }
kept MakeSendOnce (entry.Send p n) = tt
kept MakeSendOnce (entry.ReceiveAndSend p n) = record { named = λ q h. h; held = λ q h. h; stays = λ q h. h; mark = λ q h. (cc) }
kept MakeSendOnce (entry.SendOnce p) = tt
kept MakeSendOnce (entry.DeadName n) = tt
kept MakeSendOnce (entry.Set s) = tt

pub keeps : (d : Disposition) (e : Entry) (k : Copied) → copied_from d e ≡ Some k → Keeps e k
keeps d e k is = subst (KeepsIfAny e) is (kept d e)

-- ---- the sum of rights

pub total_copied : (d : Disposition) (m : Mark) (l : LedgerView) → (ledger_copied d m l).total ≡ l.total + made_by_mark d m
total_copied MoveReceive (mark.Port p) l = omega arith
total_copied MoveReceive mark.Null l = omega arith
total_copied MoveReceive mark.Dead l = omega arith
total_copied MoveSend (mark.Port p) l = omega arith
total_copied MoveSend mark.Null l = omega arith
total_copied MoveSend mark.Dead l = omega arith
total_copied MoveSendOnce (mark.Port p) l = omega arith
total_copied MoveSendOnce mark.Null l = omega arith
total_copied MoveSendOnce mark.Dead l = omega arith
total_copied CopySend (mark.Port p) l = refl
total_copied CopySend mark.Null l = omega arith
total_copied CopySend mark.Dead l = omega arith
total_copied MakeSend (mark.Port p) l = refl
total_copied MakeSend mark.Null l = omega arith
total_copied MakeSend mark.Dead l = omega arith
total_copied MakeSendOnce (mark.Port p) l = refl
total_copied MakeSendOnce mark.Null l = omega arith
total_copied MakeSendOnce mark.Dead l = omega arith

-- ---- ports stay

no_true : false ≡ true → ⊥
no_true e = cc

pub still : {V : Type 0} (m : map.FinMap nat_cmp V) (q p : ℕ) (v : V) → map.contains_key m p ≡ true → map.contains_key (map.insert m q v) p ≡ true
still {V} m q p v h = grind (arith, get_own, get_other)

pub entered_copied : (d : Disposition) (m : Mark) (l : LedgerView) (p : ℕ) → IsEntered l p → IsEntered (ledger_copied d m l) p
entered_copied MoveReceive (mark.Port q) l p h = h
entered_copied MoveReceive mark.Null l p h = h
entered_copied MoveReceive mark.Dead l p h = h
entered_copied MoveSend (mark.Port q) l p h = h
entered_copied MoveSend mark.Null l p h = h
entered_copied MoveSend mark.Dead l p h = h
entered_copied MoveSendOnce (mark.Port q) l p h = h
entered_copied MoveSendOnce mark.Null l p h = h
entered_copied MoveSendOnce mark.Dead l p h = h
entered_copied CopySend (mark.Port q) l p h = still l.counts q p _ h
entered_copied CopySend mark.Null l p h = h
entered_copied CopySend mark.Dead l p h = h
entered_copied MakeSend (mark.Port q) l p h = still l.counts q p _ h
entered_copied MakeSend mark.Null l p h = h
entered_copied MakeSend mark.Dead l p h = h
entered_copied MakeSendOnce (mark.Port q) l p h = still l.counts q p _ h
entered_copied MakeSendOnce mark.Null l p h = h
entered_copied MakeSendOnce mark.Dead l p h = h

live_port_copied : (d : Disposition) (q : ℕ) (ports : PortsView Kept) (o : Option (PortView Kept)) (p : ℕ) → IsLive ports p → IsLive (port_copied d q ports o) p
live_port_copied d q ports None p h = h
live_port_copied d q ports (Some v) p h = still ports.ports q p _ h

pub live_copied : (d : Disposition) (m : Mark) (ports : PortsView Kept) (p : ℕ) → IsLive ports p → IsLive (ports_copied d m ports) p
live_copied MoveReceive (mark.Port q) ports p h = live_port_copied MoveReceive q ports (map.get ports.ports q) p h
live_copied MoveReceive mark.Null ports p h = h
live_copied MoveReceive mark.Dead ports p h = h
live_copied MoveSend (mark.Port q) ports p h = h
live_copied MoveSend mark.Null ports p h = h
live_copied MoveSend mark.Dead ports p h = h
live_copied MoveSendOnce (mark.Port q) ports p h = h
live_copied MoveSendOnce mark.Null ports p h = h
live_copied MoveSendOnce mark.Dead ports p h = h
live_copied CopySend (mark.Port q) ports p h = h
live_copied CopySend mark.Null ports p h = h
live_copied CopySend mark.Dead ports p h = h
live_copied MakeSend (mark.Port q) ports p h = live_port_copied MakeSend q ports (map.get ports.ports q) p h
live_copied MakeSend mark.Null ports p h = h
live_copied MakeSend mark.Dead ports p h = h
live_copied MakeSendOnce (mark.Port q) ports p h = h
live_copied MakeSendOnce mark.Null ports p h = h
live_copied MakeSendOnce mark.Dead ports p h = h

-- Of the ports that are there one has other attributes, and its turn; all else is as it was.
abbrev StaysElse : (old new : PortsView Kept) → Type 0
StaysElse old new = new ≡ record old { ports = new.ports; ready = new.ready }

else_port_copied : (d : Disposition) (q : ℕ) (ports : PortsView Kept) (o : Option (PortView Kept)) → StaysElse ports (port_copied d q ports o)
else_port_copied d q ports None = refl
else_port_copied d q ports (Some v) = refl

pub else_copied : (d : Disposition) (m : Mark) (ports : PortsView Kept) → StaysElse ports (ports_copied d m ports)
else_copied MoveReceive (mark.Port q) ports = else_port_copied MoveReceive q ports (map.get ports.ports q)
else_copied MoveReceive mark.Null ports = refl
else_copied MoveReceive mark.Dead ports = refl
else_copied MoveSend (mark.Port q) ports = refl
else_copied MoveSend mark.Null ports = refl
else_copied MoveSend mark.Dead ports = refl
else_copied MoveSendOnce (mark.Port q) ports = refl
else_copied MoveSendOnce mark.Null ports = refl
else_copied MoveSendOnce mark.Dead ports = refl
else_copied CopySend (mark.Port q) ports = refl
else_copied CopySend mark.Null ports = refl
else_copied CopySend mark.Dead ports = refl
else_copied MakeSend (mark.Port q) ports = else_port_copied MakeSend q ports (map.get ports.ports q)
else_copied MakeSend mark.Null ports = refl
else_copied MakeSend mark.Dead ports = refl
else_copied MakeSendOnce (mark.Port q) ports = refl
else_copied MakeSendOnce mark.Null ports = refl
else_copied MakeSendOnce mark.Dead ports = refl

pub spare_copied : (d : Disposition) (m : Mark) (ports : PortsView Kept) → (ports_copied d m ports).spare ≡ ports.spare
spare_copied d m ports = ap (λ (x : PortsView Kept). x.spare) (else_copied d m ports)
