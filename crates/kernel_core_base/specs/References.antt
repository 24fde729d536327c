-- Taking rights from under a name, and changing how many references are under it, in the tables.
use Rattle.std.specs.Prelude.{◌≡◌, ℕ, ℤ, pos, negsuc, ◌+◌, ◌-◌, ◌<◌, ◌≤◌, ◌⊎◌, ◌++◌, ◌∷◌, [], Bool, true, false, Option, Some, None, slice_set, Result, Ok, Err, if◌then◌else◌, ◌==◌, nat_lt}
use Rattle.std.specs.FinMap as map
use Rattle.mach_types.specs.declared.codes.KernReturn.{KernReturn}
use Rattle.mach_types.specs.declared.codes.KernReturn.TheVariants.{NoSpace, InvalidValue, UrefsOverflow}
use Rattle.mach_types.specs.declared.rights.Right.{Right}
use Rattle.mach_types.specs.declared.rights.Right.TheVariants as right
use Rattle.mach_types.specs.Numbers.{right_number, most_references, most_rights}
use Rattle.name_space.specs.declared.Entry.{Entry}
use Rattle.name_space.specs.declared.Entry.TheVariants as entry
use Rattle.name_space.specs.Entry.{port_named, port_of, receive_named, send_references, set_named, references_in}
use Rattle.name_space.specs.Names.{SpaceView}
use Rattle.port.specs.declared.Holder.TheVariants.{Nobody}
use Rattle.port.specs.Holding.{held}
use Rattle.port.specs.Ports.{PortView, with_port}
use Rattle.port_set.specs.Sets.{removed, IsDisbanded}
use Rattle.rights.specs.declared.RightKind.TheVariants as kind
use Rattle.rights.specs.Ledger.{LedgerView, IsEntered, counts_of, made, taken}
use Rattle.copyin_base.specs.declared.Notice.TheVariants as notice
use Rattle.copyin_base.specs.Changes.{PutsLeft, NotesSenderless}
use Rattle.copyin_base.specs.Kept.{Kept}
use Rattle.request_table.specs.Tables.{request_left}
use Rattle.copyin_base.specs.Requests.{requests_after}
use Rattle.copyin_base.specs.Shows.{SlotsSuffice}
use Rattle.copyin_base.specs.Worlds.{WorldView, entry_at, put, space_at, port_at}
use Rattle.copyin_base.specs.Losing.{Posts}
use Rattle.kernel_core_base.specs.declared.references.Change.{Change}
use Rattle.kernel_core_base.specs.declared.references.Change.TheVariants.{More, Fewer}
use Rattle.kernel_core_base.specs.declared.references.Due.{Due}
use Rattle.kernel_core_base.specs.declared.references.Due.TheVariants.{Nothing, References, Disbanding, LosingOnce, Killing}
use Rattle.kernel_core_base.specs.declared.references.Loss.{Loss}

-- ---- so many references under a name

-- what is left under the name; nothing where no right is left
abbrev pub left_with : Entry → (references : ℕ) → Option Entry
left_with (entry.Send p n) m = if nat_lt 0 m then Some (entry.Send p m) else None
left_with (entry.ReceiveAndSend p n) m = if nat_lt 0 m then Some (entry.ReceiveAndSend p m) else Some (entry.Receive p)
left_with (entry.DeadName n) m = if nat_lt 0 m then Some (entry.DeadName m) else None
left_with e m = Some e

-- the counts after n send rights of the port became m
abbrev pub recounted : LedgerView → (port n m : ℕ) → LedgerView
recounted l p n m = if nat_lt n m then made l p kind.Send (m - n) else taken l p kind.Send (n - m)

abbrev pub recounted_at : LedgerView → Option ℕ → (n m : ℕ) → LedgerView
recounted_at l (Some p) n m = recounted l p n m
recounted_at l None n m = l

-- The port is counted, with at least the references of the entry, and there is room for those that come.
abbrev pub CanCount : LedgerView → Entry → (references : ℕ) → Type 0
CanCount l e m = (p : ℕ) → port_named e ≡ Some p →
    IsEntered l p × (send_references e ≤ (counts_of l p).send) × (l.total + (m - send_references e) ≤ most_rights)

-- The entry, which stands under the name, may have so many references.
pub record CanSet (w : WorldView) (task name : ℕ) (e : Entry) (references : ℕ) : Type 0 where
  pub found : entry_at w task name ≡ Some e
  pub few : references ≤ most_references
  pub room : (p : ℕ) → port_named e ≡ Some p → w.ledger.total + (references - send_references e) ≤ most_rights

-- The references of the entry, which stood under the name, become so many, of its port's rights too; where the name goes the request on it
-- ends.
pub record CountsReferences (old : WorldView) (task name : ℕ) (e : Entry) (references : ℕ) (new : WorldView) : Type 0 where
  pub space : SpaceView
  pub there : space_at old task ≡ Some space
  pub found : map.get space.names name ≡ Some e
  pub rest : new ≡ record old {
    spaces = slice_set old.spaces task (Some (record space { names = put space.names name (left_with e references) }));
    ledger = recounted_at old.ledger (port_named e) (send_references e) references;
    requests = requests_after old.requests task name (left_with e references);
  }

-- The port, if there is one, is noted if send rights of it went and none is left.
abbrev pub NotesLost : WorldView → (port : Option ℕ) → (went : Bool) → WorldView → Type 0
NotesLost old (Some p) true new = NotesSenderless old p new
NotesLost old (Some p) false new = new ≡ old
NotesLost old None went new = new ≡ old

-- ... as that of an entry whose send references became so many
abbrev pub NotesFewer : WorldView → Entry → (references : ℕ) → WorldView → Type 0
NotesFewer old e m new = NotesLost old (port_named e) (nat_lt m (send_references e)) new

-- The references become so many, and the port is noted that lost its last send right.
pub record SetsReferences (old : WorldView) (task name : ℕ) (e : Entry) (references : ℕ) (new : WorldView) : Type 0 where
  pub counted : WorldView
  pub counts : CountsReferences old task name e references counted
  pub notes : NotesFewer counted e references new

-- The name of a set goes, and the set with it; its members are in no set, and a request on the name ends.
pub record RemovesSet (old : WorldView) (task name set : ℕ) (new : WorldView) : Type 0 where
  pub space : SpaceView
  pub there : space_at old task ≡ Some space
  pub found : map.get space.names name ≡ Some (entry.Set set)
  pub disbanded : IsDisbanded old.ports new.ports set
  pub rest : new ≡ record old {
    spaces = slice_set old.spaces task (Some (record space { names = put space.names name None }));
    ports = new.ports;
    sets = removed old.sets set;
    requests = request_left old.requests task name;
  }

-- The name of a send-once right goes, and a request on it ends; the port is told that the right, one of those that are unused, was lost.
pub record LosesOnce (old : WorldView) (task name port : ℕ) (new : WorldView) : Type 0 where
  pub found : entry_at old task name ≡ Some (entry.SendOnce port)
  pub named : WorldView
  pub puts : PutsLeft old task name None named
  pub posts : Posts named port notice.SendOnce new
  pub slots : SlotsSuffice new

-- ---- a receive right

-- what is left under a name that loses its port's receive right
abbrev pub sends_left : Loss → Option Entry
sends_left l = if nat_lt 0 l.left then Some (entry.Send l.port l.left) else None

-- The port's receive right stands under the name with so many send references, of which not more are left.
pub record CanKill (w : WorldView) (task name : ℕ) (l : Loss) : Type 0 where
  pub e : Entry
  pub found : entry_at w task name ≡ Some e
  pub receive : receive_named e ≡ Some l.port
  pub sends : send_references e ≡ l.held
  pub fewer : l.left ≤ l.held
  pub few : l.left ≤ most_references

-- Nobody holds the receive right now, and the port is one of those that were lost; so many send references are left under the name.
pub record TakesReceive (old : WorldView) (task name : ℕ) (l : Loss) (new : WorldView) : Type 0 where
  pub space : SpaceView
  pub there : space_at old task ≡ Some space
  pub v : PortView Kept
  pub port_there : port_at old l.port ≡ Some v
  pub rest : new ≡ record old {
    spaces = slice_set old.spaces task (Some (record space { names = put space.names name (sends_left l) }));
    ports = record (with_port old.ports l.port (held v Nobody)) { lost = old.ports.lost ++ l.port ∷ [] };
    ledger = taken (taken old.ledger l.port kind.Receive 1) l.port kind.Send (l.held - l.left);
    requests = requests_after old.requests task name (sends_left l);
  }

-- So it is, and the port is noted that lost its last send right.
pub record LosesReceive (old : WorldView) (task name : ℕ) (l : Loss) (new : WorldView) : Type 0 where
  pub can : CanKill old task name l
  pub killed : WorldView
  pub takes : TakesReceive old task name l killed
  pub notes : NotesLost killed (Some l.port) (nat_lt l.left l.held) new

-- ---- what is due

abbrev pub CanCarry : WorldView → (task name : ℕ) → Due → Type 0
CanCarry w task name Nothing = Unit {0}
CanCarry w task name (References e m) = CanSet w task name e m
CanCarry w task name (Disbanding set) = entry_at w task name ≡ Some (entry.Set set)
CanCarry w task name (LosingOnce p) = entry_at w task name ≡ Some (entry.SendOnce p)
CanCarry w task name (Killing l) = CanKill w task name l

abbrev pub Carries : WorldView → (task name : ℕ) → Due → WorldView → Type 0
Carries old task name Nothing new = new ≡ old
Carries old task name (References e m) new = SetsReferences old task name e m new
Carries old task name (Disbanding set) new = RemovesSet old task name set new
Carries old task name (LosingOnce p) new = LosesOnce old task name p new
Carries old task name (Killing l) new = LosesReceive old task name l new

-- ---- Deallocate and Destroy: by what stands under the name

abbrev pub deallocated : Entry → Option Due
deallocated (entry.Send p n) = Some (References (entry.Send p n) (n - 1))
deallocated (entry.ReceiveAndSend p n) = Some (References (entry.ReceiveAndSend p n) (n - 1))
deallocated (entry.DeadName n) = Some (References (entry.DeadName n) (n - 1))
deallocated (entry.SendOnce p) = Some (LosingOnce p)
deallocated e = None

-- all is lost
abbrev pub whole_loss : (port held : ℕ) → Loss
whole_loss p n = record { port = p; held = n; left = 0 }

abbrev pub destroyed : Entry → Due
destroyed (entry.Send p n) = References (entry.Send p n) 0
destroyed (entry.DeadName n) = References (entry.DeadName n) 0
destroyed (entry.Set set) = Disbanding set
destroyed (entry.SendOnce p) = LosingOnce p
destroyed (entry.Receive p) = Killing (whole_loss p 0)
destroyed (entry.ReceiveAndSend p n) = Killing (whole_loss p n)

-- ---- ModRefs: by a number

abbrev pub IsChange : Change → ℤ → Type 0
IsChange (More k) delta = delta ≡ pos k
IsChange (Fewer k) delta = (j : ℕ) × (k ≡ j + 1) × (delta ≡ negsuc j)

abbrev pub more_in : Change → ℕ
more_in (More k) = k
more_in (Fewer k) = 0

abbrev pub IsTooFew : (n : ℕ) → Change → Type 0
IsTooFew n (More k) = ⊥
IsTooFew n (Fewer k) = n < k

abbrev pub IsTooMany : (n : ℕ) → Change → Type 0
IsTooMany n (More k) = most_references < n + k
IsTooMany n (Fewer k) = ⊥

abbrev pub CanSum : (n : ℕ) → Change → (m : ℕ) → Type 0
CanSum n (More k) m = (m ≡ n + k) × (m ≤ most_references)
CanSum n (Fewer k) m = m + k ≡ n

abbrev pub CannotSum : (n : ℕ) → Change → KernReturn → Type 0
CannotSum n change code = IsTooFew n change × (code ≡ InvalidValue) ⊎ IsTooMany n change × (code ≡ UrefsOverflow)

-- A right that has no references stays, goes or is refused.
abbrev pub changed_whole : Change → Result Due KernReturn → Result Due KernReturn
changed_whole (More k) whole = if k == 0 then Ok Nothing else Err InvalidValue
changed_whole (Fewer k) whole = if k == 1 then whole else Err InvalidValue

-- the send references stay
abbrev pub receive_loss : Entry → (port : ℕ) → Loss
receive_loss e p = record { port = p; held = send_references e; left = send_references e }

-- The references of the right of the entry may change so, with so many rights in all.
abbrev pub CanChange : (total : ℕ) → Right → Entry → Change → Due → Type 0
CanChange total right.Send e change due =
    (m : ℕ) × (due ≡ References e m) × CanSum (references_in right.Send e) change m × (total + more_in change ≤ most_rights)
CanChange total right.DeadName e change due = (m : ℕ) × (due ≡ References e m) × CanSum (references_in right.DeadName e) change m
CanChange total right.PortSet e change due = (set : ℕ) × (set_named e ≡ Some set) × (changed_whole change (Ok (Disbanding set)) ≡ Ok due)
CanChange total right.SendOnce e change due = (p : ℕ) × (port_of e ≡ Some p) × (changed_whole change (Ok (LosingOnce p)) ≡ Ok due)
CanChange total right.Receive e change due = (p : ℕ) × (port_named e ≡ Some p) × (changed_whole change (Ok (Killing (receive_loss e p))) ≡ Ok due)

abbrev pub CannotChange : (total : ℕ) → Right → Entry → Change → KernReturn → Type 0
CannotChange total right.Send e change code =
    CannotSum (references_in right.Send e) change code
    ⊎ ((m : ℕ) × CanSum (references_in right.Send e) change m × (most_rights < total + more_in change) × (code ≡ NoSpace))
CannotChange total right.DeadName e change code = CannotSum (references_in right.DeadName e) change code
CannotChange total right.PortSet e change code = (set_named e ≡ None) ⊎ ((set : ℕ) × (changed_whole change (Ok (Disbanding set)) ≡ Err code))
CannotChange total right.SendOnce e change code = (port_of e ≡ None) ⊎ ((p : ℕ) × (changed_whole change (Ok (LosingOnce p)) ≡ Err code))
CannotChange total right.Receive e change code = (port_named e ≡ None) ⊎ ((p : ℕ) × (changed_whole change (Ok (Killing (receive_loss e p))) ≡ Err code))

-- What stands under the name has the right of this number.
pub record FindsRight (w : WorldView) (task name number : ℕ) (r : Right) (e : Entry) : Type 0 where
  pub number_is : right_number r ≡ number
  pub found : entry_at w task name ≡ Some e
  pub some : 0 < references_in r e
