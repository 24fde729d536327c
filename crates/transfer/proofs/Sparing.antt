-- Where the calls that hand a right on want memory, and what they keep for names and messages to come.
use Rattle.std.proofs.Common.{◌≡◌, ◌≢◌, ℕ, ◌<◌, ◌≤◌, ◌+◌, ◌⊎◌, Option, Some, None, refl, sym, ap, subst, ◌∙◌, arith, inl, inr, true, false, Bool}
use Rattle.std.specs.Prelude.{if◌then◌else◌, max, MatchBool}
use Rattle.std.specs.FinMap as map
use Rattle.mach_types.specs.declared.codes.KernReturn.TheVariants.{ResourceShortage}
use Rattle.mach_types.specs.declared.rights.Disposition.{Disposition}
use Rattle.mach_types.specs.declared.rights.Disposition.TheVariants.{MoveReceive, MoveSend, MoveSendOnce, CopySend, MakeSend, MakeSendOnce}
use Rattle.mach_types.specs.Guards.{FirstIs}
use Rattle.mach_types.specs.Codes.{kern_number}
use Rattle.mach_types.specs.Tokens.{Kind}
use Rattle.name_space.specs.declared.Entry.{Entry}
use Rattle.port.specs.Ports.{PortView, PortsView}
use Rattle.copyin_base.specs.declared.Mark.{Mark}
use Rattle.copyin_base.specs.declared.Mark.TheVariants as mark
use Rattle.copyin_base.specs.Changes.{MakesRoom, KeepsPlace, SameButRoom}
use Rattle.copyin_base.specs.Shows.{SlotsSuffice}
use Rattle.copyin_base.specs.Kept.{Kept}
use Rattle.copyin_base.specs.Stands.{Stands}
use Rattle.copyin_base.specs.Wanted.{room_of, LacksRoomFor, LacksPlace, LacksSlots, KeepsSpares}
use Rattle.copyin_base.specs.Worlds.{WorldView}
use Rattle.copyin_base.proofs.Roomier.{room_refl, room_made, place_kept}
use Rattle.copyin_base.proofs.Spares.{keeps_same, keeps_space, place_keeps}
use Rattle.rights.specs.Ledger.{LedgerView}
use Rattle.copyin.specs.Copies.{CopiesRight, port_copied, ports_copied}
use Rattle.copyin.specs.Slots.{once_made_by_mark}
use Rattle.copyin.proofs.Committing.{copied_once}
use Rattle.copyout.specs.Giving.{GivesMark}
use Rattle.copyout.specs.Putting.{PutsPort}
use Rattle.copyout.proofs.Given.{put_keeps, given_keeps}
use Rattle.copyout.proofs.Delivered.{put_unused, mark_unused}
use Rattle.transfer.specs.declared.judge.Handed.{Handed}
use Rattle.transfer.specs.declared.judge.TaskName.{TaskName}
use Rattle.transfer.specs.Transfer.{under_guards, out_guards, names_needed, MayInsert, MayExtract}
use Rattle.transfer.specs.Room.{slots_needed, IsRoomier, MakesSlots}
use Rattle.transfer.specs.Room.{slotted}
use Rattle.transfer.specs.Wanted.{WantsToInsert, WantsToExtract}

-- ---- handing a right: want of room for its name

-- what is judged once the right was copied in isn't told as want of memory
pub not_short_inserted : (at : ℕ → Option Entry) (names rights name port : ℕ) (kind : Kind) (code : ℕ) → FirstIs (under_guards at names rights name port kind) code → code ≢ kern_number ResourceShortage
not_short_inserted at names rights name port kind code (inl h) e = let f = h.1 in omega (arith, e, f)
not_short_inserted at names rights name port kind code (inr (not, inl h)) e = let f = h.1 in omega (arith, e, f)
not_short_inserted at names rights name port kind code (inr (not, inr (other, inl h))) e = let f = h.1 in omega (arith, e, f)
not_short_inserted at names rights name port kind code (inr (not, inr (other, inr (none, inl h)))) e = let f = h.1 in omega (arith, e, f)
not_short_inserted at names rights name port kind code (inr (not, inr (other, inr (none, inr h)))) e = h.1

pub not_short_extracted : (at : ℕ → Option Entry) (names rights port : ℕ) (kind : Kind) (code : ℕ) → FirstIs (out_guards at names rights port kind) code → code ≢ kern_number ResourceShortage
not_short_extracted at names rights port kind code (inl h) e = let f = h.1 in omega (arith, e, f)
not_short_extracted at names rights port kind code (inr h) e = h.1

-- there is less room than the right needs: it needs a name, and there is none
lacks : (P : Type 0) (is_new : Bool) (room : ℕ) → MatchBool is_new P (¬ P) → room < (if is_new then 1 else 0) → P × (room ≡ 0)
lacks P true room p less = (p, omega (arith, less))
lacks P false room q less = absurd (omega (arith, less))

needs : {P : Type 0} (b : Bool) → MatchBool b P (¬ P) → b ≡ true → P
needs true p e = p
needs false p e = absurd (cc)

-- there are fewer slots than it needs: it is a send-once right that is made
lacks_slot : (w : WorldView) (d : Disposition) (p : ℕ) → SlotsSuffice w → LacksSlots w (once_made_by_mark d (mark.Port p)) → (d ≡ MakeSendOnce) × LacksSlots w 1
lacks_slot w MakeSendOnce p enough few = (refl, few)
lacks_slot w MoveReceive p enough few = absurd (omega (arith, enough, few))
lacks_slot w MoveSend p enough few = absurd (omega (arith, enough, few))
lacks_slot w MoveSendOnce p enough few = absurd (omega (arith, enough, few))
lacks_slot w CopySend p enough few = absurd (omega (arith, enough, few))
lacks_slot w MakeSend p enough few = absurd (omega (arith, enough, few))

pub wants_insert : (w : WorldView) (to from : TaskName) (number : ℕ) (handed : Handed) → Stands w → MayInsert w to from number handed →
    (handed.is_new ≡ true) × LacksPlace w to.task to.name ⊎ LacksSlots w (slots_needed handed) → WantsToInsert w to from number
wants_insert w to from number handed stands may (inl h) = record { handed = handed; may = may; lacks = inl (needs handed.is_new may.is_new h.0, h.1) }
wants_insert w to from number handed stands may (inr few) = record { handed = handed; may = may; lacks = inr (lacks_slot w handed.given handed.port stands.shown.slots few) }

pub wants_extract : (w : WorldView) (from : TaskName) (number to : ℕ) (handed : Handed) → Stands w → MayExtract w from number to handed →
    LacksRoomFor w to (names_needed handed) ⊎ LacksSlots w (slots_needed handed) → WantsToExtract w from number to
wants_extract w from number to handed stands may (inl less) = record { handed = handed; may = may; lacks = inl (lacks _ handed.is_new (room_of w to) may.is_new less) }
wants_extract w from number to handed stands may (inr few) = record { handed = handed; may = may; lacks = inr (lacks_slot w handed.given handed.port stands.shown.slots few) }

-- ---- what its steps keep

port_spare : (d : Disposition) (p : ℕ) (ports : PortsView Kept) (o : Option (PortView Kept)) → (port_copied d p ports o).spare ≡ ports.spare
port_spare d p ports (Some v) = refl
port_spare d p ports None = refl

spare_copied : (d : Disposition) (one : Mark) (ports : PortsView Kept) → (ports_copied d one ports).spare ≡ ports.spare
spare_copied MakeSend (mark.Port p) ports = port_spare MakeSend p ports (map.get ports.ports p)
spare_copied MoveReceive (mark.Port p) ports = port_spare MoveReceive p ports (map.get ports.ports p)
spare_copied d one ports = refl

few_needed : (is_new : Bool) → (if is_new then 1 else 0) ≤ 1
few_needed true = omega arith
few_needed false = omega arith

module _ (old new : WorldView) (task : ℕ) where
  pub ready_keeps : (handed : Handed) → MakesRoom old task (names_needed handed) new → KeepsSpares old new
  ready_keeps handed m =
      keeps_space old new task m.space _ m.there (ap (λ (w : WorldView). w.spaces) m.rest) (let n = few_needed handed.is_new in omega (arith, n)) (ap (λ (w : WorldView). w.ports.spare) m.rest)

  pub placed_keeps : (is_new : Bool) (name : ℕ) → MatchBool is_new (KeepsPlace old task name new) (new ≡ old) → KeepsSpares old new
  placed_keeps true name k = place_keeps old new task name k
  placed_keeps false name e = keeps_same old new e

  pub placed_room : (is_new : Bool) (name : ℕ) → MatchBool is_new (KeepsPlace old task name new) (new ≡ old) → SameButRoom old new
  placed_room true name k = place_kept old new task name k
  placed_room false name e = subst (SameButRoom old) (sym e) (room_refl old)

  copied_keeps : (d : Disposition) (name : ℕ) (one : Mark) → CopiesRight old task d name one new → KeepsSpares old new
  copied_keeps d name one c =
      keeps_space old new task c.space _ c.there (ap (λ (w : WorldView). w.spaces) c.rest) (omega arith) (ap (λ (w : WorldView). w.ports.spare) c.rest ∙ spare_copied d c.copied.mark old.ports)

-- where a slot is lacking once room was made, it was before
pub still_lacks : (old new : WorldView) (more : ℕ) → SameButRoom old new → LacksSlots new more → LacksSlots old more
still_lacks old new more same few =
    let spare : new.ports.spare ≡ old.ports.spare = ap (λ (p : PortsView Kept). p.spare) same.ports in
    let unused : new.ledger.unused ≡ old.ledger.unused = ap (λ (l : LedgerView). l.unused) same.ledger in
    omega (arith, few, spare, unused)

pub none_made : (old new : WorldView) → new ≡ old → IsRoomier old new
none_made old new e = record { same = subst (SameButRoom old) (sym e) (room_refl old); keeps = keeps_same old new e }

module _ (old mid : WorldView) (task : ℕ) (handed : Handed) where
  pub placed_roomier : (name : ℕ) (new : WorldView) → MatchBool handed.is_new (KeepsPlace old task name mid) (mid ≡ old) → new ≡ mid → IsRoomier old new
  placed_roomier name new k e = subst (IsRoomier old) (sym e) (record { same = placed_room old mid task handed.is_new name k; keeps = placed_keeps old mid task handed.is_new name k })

  pub made_roomier : (new : WorldView) → MakesRoom old task (names_needed handed) mid → new ≡ mid → IsRoomier old new
  made_roomier new m e = subst (IsRoomier old) (sym e) (record { same = room_made old mid task (names_needed handed) m; keeps = ready_keeps old mid task handed m })

-- Room for a name was made, and then slots; and the right went.
module _ (w roomy ready mid new : WorldView) (from to more : ℕ) (kept : KeepsSpares w roomy) (same : SameButRoom w roomy) (slot : ready ≡ slotted roomy more) (d : Disposition) (name port : ℕ)
    (copies : CopiesRight ready from d name (mark.Port port) mid) (is : more ≡ once_made_by_mark d (mark.Port port)) where
  makes_slots : KeepsSpares mid new → new.ledger.unused ≡ mid.ledger.unused → MakesSlots w new
  makes_slots last unused =
      let went = copied_keeps ready mid from d name (mark.Port port) copies in
      let once = copied_once ready mid from d name (mark.Port port) copies in
      record {
        rooms = λ u.
            let a = kept.rooms u in
            let b : room_of ready u ≡ room_of roomy u = ap (λ (x : WorldView). room_of x u) slot in
            let c = went.rooms u in
            let e = last.rooms u in
            omega (arith, a, b, c, e);
        slots =
            let a = kept.slots in
            let b : ready.ports.spare ≡ max roomy.ports.spare (roomy.ledger.unused + more) = ap (λ (x : WorldView). x.ports.spare) slot in
            let c : ready.ledger.unused ≡ roomy.ledger.unused = ap (λ (x : WorldView). x.ledger.unused) slot in
            let e : roomy.ledger.unused ≡ w.ledger.unused = ap (λ (l : LedgerView). l.unused) same.ledger in
            let f = went.slots in
            let g = last.slots in
            omega (arith, a, b, c, e, f, g, once.unused, unused, is);
      }

  pub insert_keeps : (kind : Kind) (word : ℕ) → PutsPort mid to kind port word new → MakesSlots w new
  insert_keeps kind word puts = makes_slots (put_keeps mid new to kind port word puts) (put_unused mid new to kind port word puts)

  pub extract_keeps : (kind : Kind) (word : ℕ) → GivesMark mid to kind (mark.Port port) word new → MakesSlots w new
  extract_keeps kind word gives = makes_slots (given_keeps mid new to kind (mark.Port port) word gives) (mark_unused mid new to kind (mark.Port port) word gives)

-- where no more was made than room, no slot was
pub roomier_slots : (old new : WorldView) → KeepsSpares old new → MakesSlots old new
roomier_slots old new k = record { rooms = k.rooms; slots = let s = k.slots in omega (arith, s) }
