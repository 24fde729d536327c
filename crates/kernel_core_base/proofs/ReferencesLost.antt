-- What is due to a name is done by the verbs of the tables.
use Rattle.std.proofs.Common.{ℕ, Option, Some, None, sym, subst, Bool, true, false, ◌≡◌, refl, ap, arith, ◌∙◌, inl, inr, ◌<◌, ◌≤◌, List, []}
use Rattle.std.specs.Prelude.{nat_lt, ◌-◌, if◌then◌else◌, IfSome, is_some, ◌≢◌}
use Rattle.std.specs.Option.{option_and_then}
use Rattle.std.specs.FinMap as map
use Rattle.std.proofs.lemmas.Bool.{false≢true, ltb-true, ltb-false}
use Rattle.std.proofs.lemmas.Bool.Decides.{eqb_tells}
use Rattle.std.specs.Ordering.{nat_cmp}
use Rattle.mach_types.specs.Tokens.{send}
use Rattle.mach_types.specs.declared.calls.Event.{Event}
use Rattle.mach_types.specs.declared.calls.Reply.{Reply}
use Rattle.mach_model.proofs.Settling.{named_lives}
use Rattle.mach_model.proofs.Names.{held_le_of}
use Rattle.mach_model.specs.State.{State, Target, lookup}
use Rattle.mach_model.specs.Death.{IsOrphan}
use Rattle.mach_model.specs.Acts.{Does}
use Rattle.mach_model.specs.Machine.{Judged}
use Rattle.mach_model.specs.Refusals.{call_guards}
use Rattle.rights.specs.declared.RightKind.TheVariants as right
use Rattle.rights.specs.Ledger.{LedgerView, made, taken, IsEntered, counts_of}
use Rattle.rights.specs.declared.Counts.{Counts}
use Rattle.rights.specs.Counts.{with_fewer}
use Rattle.name_space.specs.declared.Entry.{Entry}
use Rattle.name_space.specs.Entry.{port_named, send_references, port_of, has_receive}
use Rattle.name_space.specs.declared.Entry.TheVariants as entry_of
use Rattle.name_space.specs.Names.{SpaceView, port_at as named_at}
use Rattle.port.specs.Ports.{PortsView, PortView, IsLive, with_port}
use Rattle.port.specs.declared.Holder.TheVariants.{Nobody}
use Rattle.port.specs.Holding.{held}
use Rattle.port.specs.declared.Holder.{Holder}
use Rattle.port.specs.declared.Holder.TheVariants as by
use Rattle.port_set.specs.Sets.{removed, IsDisbanded}
use Rattle.copyin_base.specs.Changes.{NotesSenderless, IsForLive, CanPutLeft, PutsLeft, NotesSenders}
use Rattle.copyin_base.specs.Worlds.{WorldView, entry_in, entry_at, space_at, with_space, port_at, put, NoneLost}
use Rattle.copyin_base.specs.Shows.{SlotsSuffice, CarriersAgree, RequestsStand, Shows, Agrees, HoldersAgree}
use Rattle.copyin_base.proofs.SendersNoted.{noted_slots, counts_own, KeepsSends, counts_other, sends_made, sends_elsewhere, keeps_senders, keeps_senders_same, senders_same, senders_kept, senders_fallen, noted_carriers, noted_requested, noted_none_lost, sends_taken, sends_fewer, noted_agrees, noted_holders}
use Rattle.copyin_base.proofs.Slots.{slots_same, slots_kept}
use Rattle.copyin_base.specs.Kept.{Kept}
use Rattle.copyin_base.specs.Stands.{Stands}
use Rattle.copyin_base.proofs.Changing.{target_named}
use Rattle.copyin_base.proofs.Gets.{seen, of_some, same_found}
use Rattle.copyin_base.proofs.Tied.{stands_tied, stands_is_tied}
use Rattle.copyin_base.proofs.Told.{found, port_entered, receive_has, port_got}
use Rattle.request_table.specs.Tables.{RequestTablesView}
use Rattle.copyin_base.specs.Requests.{requests_after}
use Rattle.copyin_base.proofs.Putting.{put_own, put_same, each_put}
use Rattle.copyin_base.proofs.Carriers.{carriers_same, carriers_disbanded, carriers_held}
use Rattle.copyin_base.proofs.Idle.{none_lost_same, none_lost_disbanded}
use Rattle.copyin_base.proofs.Requested.{requested_left, requested_removed, requested_ports}
use Rattle.copyin_base.specs.Serving.{HasTasks, IsAllowed, Completes}
use Rattle.copyin_base.specs.Posted.{IsLeft}
use Rattle.copyin_base.specs.Wanted.{UsesSpares}
use Rattle.copyin_base.proofs.Acting.{done_leaving}
use Rattle.copyin_base.proofs.Holders.{ReceivesIn, ReceivesAt, IsReceive, no_receive, put_receives, one_holder, ChangesHolder, put_holder, holders_changed, set_receives, had}
use Rattle.copyin_base.proofs.Listed.{listed_one}
use Rattle.tables_base.proofs.Reading.{named_port}
use Rattle.copyin_base.proofs.Spares.{keeps_space}
use Rattle.copyin_base.proofs.Written.{disbanded_ports}
use Rattle.copyin_base.specs.Losing.{CanLose, CanPost, DropsSet, LosesPort}
use Rattle.kernel_core_base.specs.declared.references.Due.{Due}
use Rattle.kernel_core_base.specs.declared.references.Due.TheVariants.{LosingOnce, Killing, Nothing, References, Disbanding}
use Rattle.kernel_core_base.specs.References.{NotesLost, NotesFewer, recounted_at, CountsReferences, Carries, left_with, CanCount, CanSet, RemovesSet, sends_left, CanKill, TakesReceive, recounted, LosesReceive}
use Rattle.kernel_core_base.specs.declared.names.NewRight.{NewRight}
use Rattle.kernel_core_base.specs.declared.names.NewRight.TheVariants as new_right
use Rattle.kernel_core_base.specs.Names.{Adds}
use Rattle.kernel_core_base.specs.declared.references.Loss.{Loss}
use Rattle.kernel_core_base.proofs.ReceiveTaken.{TakesSo, kill_held, orphaned, others_kept, becomes}

-- ---- What is due to a name by which no receive right and no send-once right is lost.

abbrev pub IsPlain : Due → Type 0
IsPlain (LosingOnce p) = ⊥
IsPlain (Killing loss) = ⊥
IsPlain due = Unit {0}

-- ---- The port of an entry whose references became fewer is noted where it lost its last send right: what that keeps.

pub lost_keeps : (P : WorldView → Type 0) (old new : WorldView) (o : Option ℕ) (went : Bool) → NotesLost old o went new → ((p : ℕ) → NotesSenderless old p new → P old → P new) → P old → P new
lost_keeps P old new (Some p) true n f h = f p n h
lost_keeps P old new (Some p) false n f h = subst P (sym n) h
lost_keeps P old new None went n f h = subst P (sym n) h

-- what noting keeps is kept
pub fewer_keeps : (P : WorldView → Type 0) (old new : WorldView) (e : Entry) (m : ℕ) → NotesFewer old e m new → ((p : ℕ) → NotesSenderless old p new → P old → P new) → P old → P new
fewer_keeps P old new e m n f h = lost_keeps P old new (port_named e) (nat_lt m (send_references e)) n f h

-- ---- What is made under a name, and what is due to one, uses no slot and makes no send-once right.

-- send rights are counted apart
pub unused_recounted : (l : LedgerView) (o : Option ℕ) (n m : ℕ) → (recounted_at l o n m).unused ≡ l.unused
unused_recounted l None n m = refl
unused_recounted l (Some p) n m = grind arith

counted_slots : (w v : WorldView) → SlotsSuffice w → (task name : ℕ) (e : Entry) (m : ℕ) → CountsReferences w task name e m v → SlotsSuffice v
counted_slots w v enough task name e m r = grind (arith, unused_recounted)

module _ (w v : WorldView) (enough : SlotsSuffice w) (task name : ℕ) where
  pub carried_slots : (due : Due) → IsPlain due → Carries w task name due v → SlotsSuffice v
  carried_slots Nothing plain same = slots_same w v enough same
  carried_slots (References e m) plain r = grind (arith, fewer_keeps, noted_slots, counted_slots)
  carried_slots (Disbanding set) plain r = slots_kept w v enough (ap (λ (x : WorldView). x.ledger.unused) r.rest) r.disbanded.spare
  carried_slots (LosingOnce p) plain r = absurd plain
  carried_slots (Killing loss) plain r = absurd plain

  pub made_slots : (r : NewRight) → Adds w task r name v → SlotsSuffice v
  made_slots new_right.Port adds = grind arith
  made_slots new_right.Set adds = slots_kept w v enough (ap (λ (x : WorldView). x.ledger.unused) adds.rest) (ap (λ (x : WorldView). x.ports.spare) adds.rest)
  made_slots new_right.DeadName adds = slots_kept w v enough (ap (λ (x : WorldView). x.ledger.unused) adds.rest) (ap (λ (x : WorldView). x.ports.spare) adds.rest)

-- ---- What stands under a name is changed by the verbs of the tables, as is due.

-- the space in which an entry stands
pub record At (w : WorldView) (task name : ℕ) (e : Entry) : Type 0 where
  pub space : SpaceView
  pub there : space_at w task ≡ Some space
  pub found : map.get space.names name ≡ Some e

pub at : (w : WorldView) (task name : ℕ) (e : Entry) → entry_at w task name ≡ Some e → At w task name e
at w task name e is = elim (seen (space_at w task)) [
  | inl h ↦ record { space = h.0; there = h.1; found = sym (ap (λ (o : Option SpaceView). entry_in o name) h.1) ∙ is }
  | inr h ↦ absurd (no_entry e (sym (ap (λ (o : Option SpaceView). entry_in o name) h) ∙ is))
]
  where
    no_entry : (e : Entry) → None ≡ Some e → ⊥
    no_entry e f = cc

pub can_put : (w : WorldView) (task name : ℕ) (e : Entry) (left : Option Entry) → entry_at w task name ≡ Some e →
    ((x : Entry) → left ≡ Some x → (port_named x ≡ port_named e) × IsForLive w x) → CanPutLeft w task name left
can_put w task name e left is same = let x = at w task name e is in record {
  space = x.space;
  there = x.there;
  used = ap (λ (o : Option Entry). is_some o) x.found;
  same = go left (λ y. (p : ℕ) → port_named y ≡ Some p → named_at x.space.names name ≡ Some p) (λ y left_is p named.
      ap (λ (o : Option Entry). option_and_then port_named o) x.found ∙ sym (same y left_is).0 ∙ named);
  lives = go left (IsForLive w) (λ y left_is. (same y left_is).1);
}
  where
    go : (o : Option Entry) (P : Entry → Type 0) → ((y : Entry) → o ≡ Some y → P y) → IfSome o P
    go (Some y) P f = f y refl
    go None P f = tt

-- what is left is for the port that was named
pub left_alike : (e : Entry) (m : ℕ) (x : Entry) → left_with e m ≡ Some x → (port_named x ≡ port_named e) × (port_of x ≡ port_of e)
left_alike (entry_of.Send q n) m x is = grind (arith, of_some)
left_alike (entry_of.ReceiveAndSend q n) m x is = grind (arith, of_some)
left_alike (entry_of.DeadName n) m x is = grind (arith, of_some)
left_alike (entry_of.Receive q) m x is = of_some (entry_of.Receive q) (λ y. (port_named y ≡ Some q) × (port_of y ≡ Some q)) (refl, refl) x is
left_alike (entry_of.SendOnce q) m x is = of_some (entry_of.SendOnce q) (λ y. (port_named y ≡ None) × (port_of y ≡ Some q)) (refl, refl) x is
left_alike (entry_of.Set q) m x is = of_some (entry_of.Set q) (λ y. (port_named y ≡ None) × (port_of y ≡ None)) (refl, refl) x is

-- ---- references

pub can_put_left : (w : WorldView) (task name m : ℕ) (e : Entry) (left : Option Entry) → Stands w → CanSet w task name e m → left ≡ left_with e m → CanPutLeft w task name left
can_put_left w task name m e left stands can is =
    let t = at w task name e can.found in
    can_put w task name e left can.found (λ x is_x. let h = left_alike e m x (sym is ∙ is_x) in
    (h.0, λ p for. (stands_tied w task t.space stands t.there).live name e p t.found (sym h.1 ∙ for)))

pub can_count : (w : WorldView) (task name m : ℕ) (e : Entry) → Stands w → CanSet w task name e m → CanCount w.ledger e m
can_count w task name m e stands can p named =
    let s = stands.state in
    let a = stands.shown.agrees in
    let live = named_lives s stands.shown.lawful task name p (found w s a task name e can.found ∙ ap Some (target_named e p named)) in
    let h = (a.references task name e p can.found named).1 in
    let c = (a.counts p).senders in
    let le = held_le_of task send p s.ledger in
    (port_entered w s a p live, omega (arith, h, c, le), can.room p named)

-- the ledger is as it was when the name was changed
pub still_counts : (old mid : WorldView) (task name m : ℕ) (e : Entry) (left : Option Entry) → PutsLeft old task name left mid → CanCount old.ledger e m → CanCount mid.ledger e m
still_counts old mid task name m e left puts can = subst (λ (l : LedgerView). CanCount l e m) (sym (ap (λ (y : WorldView). y.ledger) puts.rest)) can

pub references_set : (old mid new : WorldView) (task name m : ℕ) (e : Entry) (left : Option Entry) → CanSet old task name e m → PutsLeft old task name left mid → left ≡ left_with e m →
    new ≡ record mid { ledger = recounted_at mid.ledger (port_named e) (send_references e) m } → CountsReferences old task name e m new
references_set old mid new task name m e left can puts left_is counts =
    let q = subst (λ (o : Option Entry). PutsLeft old task name o mid) left_is puts in
    record {
      space = q.space;
      there = q.there;
      found = sym (ap (λ (o : Option SpaceView). entry_in o name) q.there) ∙ can.found;
      rest = counts ∙ ap (λ (y : WorldView). record y { ledger = recounted_at y.ledger (port_named e) (send_references e) m }) q.rest;
    }

-- ---- a set

pub can_put_none : (w : WorldView) (task name : ℕ) (e : Entry) → entry_at w task name ≡ Some e → CanPutLeft w task name None
can_put_none w task name e is = can_put w task name e None is (λ x f. absurd (let g : None ≡ Some x = f in cc))

pub set_removed : (old mid new : WorldView) (task name set : ℕ) → entry_at old task name ≡ Some (entry_of.Set set) → PutsLeft old task name None mid → DropsSet mid set new → RemovesSet old task name set new
set_removed old mid new task name set is q drops = record {
  space = q.space;
  there = q.there;
  found = sym (ap (λ (o : Option SpaceView). entry_in o name) q.there) ∙ is;
  disbanded = subst (λ (y : WorldView). IsDisbanded y.ports new.ports set) q.rest drops.disbanded;
  rest = drops.rest ∙ ap (λ (y : WorldView). record y { ports = new.ports; sets = removed y.sets set }) q.rest;
}

-- ---- A right is lost by the verbs of the tables, as is due.

-- ---- a send-once right

-- The right whose name went pays for its notice.
pub can_post : (w : WorldView) (task name p : ℕ) (mid : WorldView) → Stands w → entry_at w task name ≡ Some (entry_of.SendOnce p) → PutsLeft w task name None mid → CanPost mid p
can_post w task name p mid stands is puts =
    let x = at w task name (entry_of.SendOnce p) is in
    let ports : mid.ports ≡ w.ports = ap (λ (y : WorldView). y.ports) puts.rest in
    let ledger : mid.ledger ≡ w.ledger = ap (λ (y : WorldView). y.ledger) puts.rest in
    record {
      live = subst (λ (y : PortsView Kept). IsLive y p) (sym ports) ((stands_tied w task x.space stands x.there).live name (entry_of.SendOnce p) p x.found refl);
      paid = subst (λ (y : LedgerView). 0 < (counts_of y p).send_once) (sym ledger) ((stands_is_tied w task stands).unused x.space x.there name p x.found);
      slots = let enough = stands.shown.slots in let a = ap (λ (y : LedgerView). y.unused) ledger in let b = ap (λ (y : PortsView Kept). y.spare) ports in omega (arith, enough, a, b);
    }

-- ---- a receive right

module _ (w : WorldView) (stands : Stands w) (task name : ℕ) (l : Loss) (can : CanKill w task name l) where
  named : port_named can.e ≡ Some l.port
  named = (receive_has can.e l.port can.receive).0

  lives : stands.state.live_port l.port ≡ true
  lives = grind (arith, named_lives, found, target_named, named)

  view : (v : PortView Kept) × (port_at w l.port ≡ Some v)
  view = port_got (port_at w l.port) (stands.shown.agrees.live_port l.port ∙ lives)

  pub can_kill : CanLose w l.port
  can_kill = grind (arith, view, named, receive_has, port_entered, lives)

  -- so many send rights are there
  sends : l.held ≤ (counts_of w.ledger l.port).send
  sends = grind (arith, (stands.shown.agrees.references task name can.e l.port can.found named).1, can.sends, (stands.shown.agrees.counts l.port).senders, held_le_of task send l.port stands.state.ledger)

  -- where nobody holds it
  module _ (killed : WorldView) (kill : LosesPort w l.port killed) where
    still_there : IsLive killed.ports l.port
    still_there = subst (λ (x : WorldView). IsLive x.ports l.port) (sym kill.rest) (ap is_some (put_own w.ports.ports l.port (Some (held kill.v Nobody))))

    still_found : entry_at killed task name ≡ Some can.e
    still_found = ap (λ (x : WorldView). entry_at x task name) kill.rest ∙ can.found

    pub can_leave : (left : Option Entry) → left ≡ sends_left l → CanPutLeft killed task name left
    can_leave left is = can_put killed task name can.e left still_found (λ x is_x. go (nat_lt 0 l.left) x (sym is ∙ is_x))
      where
        go : (b : Bool) (x : Entry) → (if b then Some (entry_of.Send l.port l.left) else None) ≡ Some x →
            (port_named x ≡ port_named can.e) × ((port : ℕ) → port_of x ≡ Some port → IsLive killed.ports port)
        go true x e = of_some (entry_of.Send l.port l.left) (λ y. (port_named y ≡ port_named can.e) × ((port : ℕ) → port_of y ≡ Some port → IsLive killed.ports port))
            (sym named, of_some l.port (IsLive killed.ports) still_there) x e
        go false x e = absurd (cc)

    module _ (mid : WorldView) (left : Option Entry) (puts : PutsLeft killed task name left mid) where
      ledger_is : mid.ledger ≡ taken w.ledger l.port right.Receive 1
      ledger_is = ap (λ (y : WorldView). y.ledger) puts.rest ∙ ap (λ (y : WorldView). y.ledger) kill.rest

      pub still_entered : IsEntered mid.ledger l.port
      still_entered = subst (λ (y : LedgerView). IsEntered y l.port) (sym ledger_is) (ap is_some (put_own w.ledger.counts l.port (Some (with_fewer right.Receive 1 (counts_of w.ledger l.port)))))

      pub still_enough : l.held - l.left ≤ (counts_of mid.ledger l.port).send
      still_enough = grind (arith, ledger_is, counts_own, sends)

some_counts : (o : Option Counts) → is_some o ≡ true → (c : Counts) × (o ≡ Some c)
some_counts (Some c) e = (c, refl)
some_counts None e = absurd (false≢true e)

-- where no send rights go the counts stay
pub none_taken : (ledger : LedgerView) (port gone : ℕ) → IsEntered ledger port → gone ≡ 0 → ledger ≡ taken ledger port right.Send gone
none_taken ledger port gone entered none = grind (arith, some_counts, put_same)

-- it was taken so
pub receive_taken : (old killed mid new : WorldView) (task name : ℕ) (l : Loss) (left : Option Entry) → LosesPort old l.port killed → PutsLeft killed task name left mid → left ≡ sends_left l →
    new ≡ record mid { ledger = taken mid.ledger l.port right.Send (l.held - l.left) } → TakesReceive old task name l new
receive_taken old killed mid new task name l left kill puts left_is counts =
    let q = subst (λ (o : Option Entry). PutsLeft killed task name o mid) left_is puts in
    record {
      space = q.space;
      there = sym (ap (λ (y : WorldView). space_at y task) kill.rest) ∙ q.there;
      v = kill.v;
      port_there = kill.there;
      rest = counts ∙ ap (λ (y : WorldView). record y { ledger = taken y.ledger l.port right.Send (l.held - l.left) }) q.rest ∙ ap (become q.space) kill.rest;
    }
  where
    become : SpaceView → WorldView → WorldView
    become space k = record (with_space k task (record space { names = put space.names name (sends_left l) })) {
      requests = requests_after k.requests task name (sends_left l);
      ledger = taken k.ledger l.port right.Send (l.held - l.left);
    }

-- ---- What is due to a name keeps what is true of the tables alone: messages carry what they carried, each request that stands does so on a right or a
-- port that is there, no port is lost, and each port that lost its last send right is noted.

-- ---- the counts of send rights

-- where none goes
pub none_taken_kept : (l : LedgerView) (p k : ℕ) → k ≡ 0 → KeepsSends l (taken l p right.Send k)
none_taken_kept l p k zero q none = elim (eqb_tells q p) [
  | inl h ↦
      let own = ap (λ (c : Counts). c.send) (counts_own l p (with_fewer right.Send k (counts_of l p)) (taken l p right.Send k) refl) in
      let at : (counts_of (taken l p right.Send k) p).send ≡ 0 = subst (λ (x : ℕ). (counts_of (taken l p right.Send k) x).send ≡ 0) h.1 none in
      subst (λ (x : ℕ). (counts_of l x).send ≡ 0) (sym h.1) (omega (arith, own, at, zero))
  | inr h ↦ ap (λ (c : Counts). c.send) (sym (counts_other l p (with_fewer right.Send k (counts_of l p)) (taken l p right.Send k) refl q h.1)) ∙ none
]

-- not fewer than there were
more_sends : (l : LedgerView) (p n m : ℕ) → nat_lt m n ≡ false → KeepsSends l (recounted l p n m)
more_sends l p n m not = go (nat_lt n m)
  where
    go : (b : Bool) → KeepsSends l (if b then made l p right.Send (m - n) else taken l p right.Send (n - m))
    go true = sends_made l p right.Send (m - n)
    go false = none_taken_kept l p (n - m) (let h = ltb-false m n not in omega (arith, h))

-- fewer than there were, but elsewhere
fewer_elsewhere : (l : LedgerView) (p n m : ℕ) → nat_lt m n ≡ true → (q : ℕ) → (q ≡ p → ⊥) → (counts_of (recounted l p n m) q).send ≡ (counts_of l q).send
fewer_elsewhere l p n m less q not = go (nat_lt n m) refl
  where
    go : (b : Bool) → nat_lt n m ≡ b → (counts_of (if b then made l p right.Send (m - n) else taken l p right.Send (n - m)) q).send ≡ (counts_of l q).send
    go true e = absurd (let h = ltb-true m n less in let g = ltb-true n m e in omega (arith, h, g))
    go false e = sends_elsewhere l p right.Send (n - m) q not

pub same_senders : (v : RequestTablesView) (task name : ℕ) (left : Option Entry) → (requests_after v task name left).no_senders ≡ v.no_senders
same_senders v task name None = refl
same_senders v task name (Some e) = refl

-- ---- the members of a set stay ports that are there

disbanded_live : (old new : PortsView Kept) (set : ℕ) → IsDisbanded old new set → (p : ℕ) → IsLive old p → IsLive new p
disbanded_live old new set d p live = (disbanded_ports old new set d).live p ∙ live

-- ---- in the tables

module _ (w v : WorldView) (task name : ℕ) where
  -- the name alone
  abbrev named_kept : (space : SpaceView) → Option Entry → WorldView
  named_kept space left = record (with_space w task (record space { names = put space.names name left })) { requests = requests_after w.requests task name left }

  counted_requested : (e : Entry) (m : ℕ) → CountsReferences w task name e m v → RequestsStand w → RequestsStand v
  counted_requested e m r requested =
      let mid = named_kept r.space (left_with e m) in
      let puts : PutsLeft w task name (left_with e m) mid = record { space = r.space; there = r.there; rest = refl } in
      requested_ports mid v
      (requested_left w mid requested task name (left_with e m) puts (λ x y p is found for.
      let same : e ≡ y = same_found (entry_at w task name) e y (ap (λ (o : Option SpaceView). entry_in o name) r.there ∙ r.found) found in
      (left_alike e m x is).1 ∙ ap port_of same ∙ for))
      (λ p lives. subst (λ (y : PortsView Kept). IsLive y p) (sym (ap (λ (y : WorldView). y.ports) r.rest)) lives)
      (ap (λ (y : WorldView). y.requests) r.rest) (ap (λ (y : WorldView). y.spaces) r.rest)

  removed_requested : (set : ℕ) → RemovesSet w task name set v → RequestsStand w → RequestsStand v
  removed_requested set r requested =
      let mid = named_kept r.space None in
      let puts : PutsLeft w task name None mid = record { space = r.space; there = r.there; rest = refl } in
      requested_ports mid v (requested_removed w mid requested task name puts) (disbanded_live w.ports v.ports set r.disbanded)
      (ap (λ (y : WorldView). y.requests) r.rest) (ap (λ (y : WorldView). y.spaces) r.rest)

  pub carried_carriers : (due : Due) → IsPlain due → Carries w task name due v → CarriersAgree w → CarriersAgree v
  carried_carriers Nothing plain same a = subst CarriersAgree (sym same) a
  carried_carriers (References e m) plain r a = fewer_keeps CarriersAgree r.counted v e m r.notes (λ p n. noted_carriers r.counted v p n)
      (carriers_same w r.counted a (ap (λ (y : WorldView). y.ports.made) r.counts.rest) (ap (λ (y : WorldView). y.ports.ports) r.counts.rest))
  carried_carriers (Disbanding set) plain r a = carriers_disbanded w v a set r.disbanded
  carried_carriers (LosingOnce p) plain r a = absurd plain
  carried_carriers (Killing loss) plain r a = absurd plain

  pub carried_none_lost : (due : Due) → IsPlain due → Carries w task name due v → NoneLost w → NoneLost v
  carried_none_lost Nothing plain same n = subst NoneLost (sym same) n
  carried_none_lost (References e m) plain r n = grind (arith, fewer_keeps, noted_none_lost, none_lost_same)
  carried_none_lost (Disbanding set) plain r n = none_lost_disbanded w v n set r.disbanded
  carried_none_lost (LosingOnce p) plain r n = absurd plain
  carried_none_lost (Killing loss) plain r n = absurd plain

module _ (w v : WorldView) (task name : ℕ) where
  pub carried_requested : (due : Due) → IsPlain due → Carries w task name due v → RequestsStand w → RequestsStand v
  carried_requested Nothing plain same a = subst RequestsStand (sym same) a
  carried_requested (References e m) plain r a = fewer_keeps RequestsStand r.counted v e m r.notes (λ p n. noted_requested r.counted v p n) (counted_requested w r.counted task name e m r.counts a)
  carried_requested (Disbanding set) plain r a = removed_requested w v task name set r a
  carried_requested (LosingOnce p) plain r a = absurd plain
  carried_requested (Killing loss) plain r a = absurd plain

  module _ (s : State) (sh : Shows w s) where
    abbrev start : NotesSenders w w
    start = senders_same w sh.idle.noted

    -- the port has at least the send rights that the entry counts
    has_sends : (e : Entry) (m : ℕ) → CountsReferences w task name e m v → (p : ℕ) → port_named e ≡ Some p → send_references e ≤ (counts_of w.ledger p).send
    has_sends e m r p is = grind (arith, (sh.agrees.references task name e p (ap (λ (o : Option SpaceView). entry_in o name) r.there ∙ r.found) is).1, (sh.agrees.counts p).senders, held_le_of task send p s.ledger)

module _ (w : WorldView) (s : State) (sh : Shows w s) (task name : ℕ) (e : Entry) (m : ℕ) (counted v : WorldView) (r : CountsReferences w task name e m counted) where
  no_senders : counted.requests.no_senders ≡ w.requests.no_senders
  no_senders = ap (λ (y : WorldView). y.requests.no_senders) r.rest ∙ same_senders w.requests task name (left_with e m)

  noted : counted.ports.noted ≡ w.ports.noted
  noted = ap (λ (y : WorldView). y.ports.noted) r.rest

  kept : KeepsSends w.ledger counted.ledger → v ≡ counted → NotesSenders w v
  kept sends same = grind (arith, senders_kept, senders_same, keeps_senders, no_senders, noted)

  notes_lost : (o : Option ℕ) → port_named e ≡ o → (went : Bool) → nat_lt m (send_references e) ≡ went → NotesLost counted o went v → NotesSenders w v
  notes_lost None is went less same = grind (arith, kept)
  notes_lost (Some p) is false less same = grind (arith, kept, more_sends)
  notes_lost (Some p) is true less notes = senders_fallen w w v (senders_same w sh.idle.noted) p counted no_senders noted sh.requested
      (subst (λ (l : LedgerView). (q : ℕ) → (q ≡ p → ⊥) → (counts_of l q).send ≡ (counts_of w.ledger q).send) (sym ledger) (fewer_elsewhere w.ledger p (send_references e) m less))
      (λ none. let h = has_sends w counted task name s sh e m r p is in let some = ltb-true m (send_references e) less in omega (arith, h, some)) notes
    where
      ledger : counted.ledger ≡ recounted w.ledger p (send_references e) m
      ledger = ap (λ (y : WorldView). y.ledger) r.rest ∙ ap (λ (o : Option ℕ). recounted_at w.ledger o (send_references e) m) is

module _ (w v : WorldView) (s : State) (sh : Shows w s) (task name : ℕ) where
  pub carried_notes : (due : Due) → IsPlain due → Carries w task name due v → NotesSenders w v
  carried_notes Nothing plain same = subst (NotesSenders w) (sym same) (senders_same w sh.idle.noted)
  carried_notes (References e m) plain r = notes_lost w s sh task name e m r.counted v r.counts (port_named e) refl (nat_lt m (send_references e)) refl r.notes
  carried_notes (Disbanding set) plain r = grind (arith, senders_kept, senders_same, keeps_senders_same)
  carried_notes (LosingOnce p) plain r = absurd plain
  carried_notes (Killing loss) plain r = absurd plain

-- ---- A receive right is lost: nobody holds it, and its port waits for the end of the step, which is for the tables what an orphan is for the machine.

-- what is left has no receive right, and is for the port
rest_right : (l : Loss) (x : Entry) → sends_left l ≡ Some x → (has_receive x ≡ false) × (port_of x ≡ Some l.port)
rest_right l x is = grind (arith, of_some)

rest_receives : (l : Loss) (p : ℕ) → IsReceive (sends_left l) p → ⊥
rest_receives l p i = no_receive i.entry (rest_right l i.entry i.is).0 p (record { entry = i.entry; is = refl; named = i.named; receives = i.receives })

module _ (w : WorldView) (task name : ℕ) (l : Loss) (v : WorldView) (can : CanKill w task name l) (r : TakesReceive w task name l v) where
  abbrev rest : Option Entry
  rest = sends_left l

  abbrev lone : PortView Kept
  lone = held r.v by.Nobody

  ports_are : v.ports.ports ≡ map.insert w.ports.ports l.port lone
  ports_are = ap (λ (x : WorldView). x.ports.ports) r.rest

  spaces_are : v.spaces ≡ (with_space w task (record r.space { names = put r.space.names name rest })).spaces
  spaces_are = ap (λ (x : WorldView). x.spaces) r.rest

  for_port : port_named can.e ≡ Some l.port
  for_port = (receive_has can.e l.port can.receive).0

  receives : ReceivesAt w task l.port
  receives = record { name = name; entry = can.e; found = can.found; named = for_port; receives = (receive_has can.e l.port can.receive).1 }

  ledger_is_lost : v.ledger ≡ taken (taken w.ledger l.port right.Receive 1) l.port right.Send (l.held - l.left)
  ledger_is_lost = ap (λ (x : WorldView). x.ledger) r.rest

  live_still : (p : ℕ) → IsLive w.ports p → IsLive v.ports p
  live_still p lives = subst (λ (m : map.FinMap nat_cmp (PortView Kept)). is_some (map.get m p) ≡ true) (sym ports_are)
      (each_put w.ports.ports l.port (Some lone) (λ q o. is_some (map.get w.ports.ports q) ≡ true → is_some o ≡ true) (λ was. refl) (λ q not was. was) p lives)

  -- ---- the tables alone

  -- no task has the right now
  module _ (s : State) (sh : Shows w s) where
    holds : r.v.attributes.holder ≡ by.Task task
    holds = sh.holders.held task name can.e l.port can.found for_port (receive_has can.e l.port can.receive).1 r.v r.port_there

    own_name : (n : ℕ) → IsReceive (map.get (put r.space.names name rest) n) l.port → ⊥
    own_name = each_put r.space.names name rest (λ n x. IsReceive x l.port → ⊥) (λ i. rest_receives l l.port i) (λ n not i.
        let under : entry_at w task n ≡ Some i.entry = ap (λ (o : Option SpaceView). entry_in o n) r.there ∙ i.is in
        let x : lookup s task n ≡ Some (Target.port l.port) = found w s sh.agrees task n i.entry under ∙ ap Some (target_named i.entry l.port i.named) in
        let y : lookup s task name ≡ Some (Target.port l.port) = found w s sh.agrees task name can.e can.found ∙ ap Some (target_named can.e l.port for_port) in
        not ((sh.lawful.naming task).one_name n name l.port x y))

    abbrev space2 : SpaceView
    space2 = record r.space { names = put r.space.names name rest }

    nobody : (u : ℕ) → ReceivesAt v u l.port → ⊥
    nobody u x = set_receives w v sh.holders task r.space space2 r.there spaces_are (λ k q. q ≡ l.port → ⊥)
        (λ q y same. let z = subst (ReceivesIn space2.names) same y in own_name z.name (record { entry = z.entry; is = z.found; named = z.named; receives = z.receives }))
        (λ k q not y same. not (one_holder w sh.holders k task l.port r.v r.port_there (subst (ReceivesAt w k) same y) receives)) u l.port x refl

    elsewhere : (u q : ℕ) → q ≢ l.port → ReceivesAt v u q → ReceivesAt w u q
    elsewhere u q not x = set_receives w v sh.holders task r.space space2 r.there spaces_are (λ k n. n ≢ l.port → ReceivesAt w k n)
        (λ n y differs. had w v sh.holders task r.space space2 r.there spaces_are n (put_receives r.space.names name rest n (ReceivesIn r.space.names n) (λ i. absurd (rest_receives l n i)) (λ z. z) y))
        (λ k n differs y also. y) u q x not

    taken_holders : HoldersAgree v
    taken_holders = holders_changed w v sh.holders l.port by.Nobody record {
      ports = subst (λ (m : map.FinMap nat_cmp (PortView Kept)). ChangesHolder w.ports.ports m l.port by.Nobody) (sym ports_are) (put_holder w.ports.ports l.port lone);
      own = λ u x. absurd (nobody u x);
      others = elsewhere;
    }

    -- the port alone
    abbrev held_so : WorldView
    held_so = record w { ports = with_port w.ports l.port lone }

    no_task_and_queue : (t q : ℕ) → ◌≡◌ {A = Holder} (by.Task t) (by.QueueOf q) → ⊥
    no_task_and_queue t q e = cc

    taken_carriers : CarriersAgree v
    taken_carriers = carriers_same held_so v
        (carriers_held w held_so sh.carriers l.port by.Nobody (record { v = r.v; there = r.port_there; rest = refl })
        (λ q c. absurd (no_task_and_queue task q (sym holds ∙ sh.carriers.carried q c.u c.message l.port c.there c.queued c.carries r.v r.port_there))))
        (ap (λ (x : WorldView). x.ports.made) r.rest) ports_are

    -- so many send rights were there
    had_sends : l.held ≤ (counts_of w.ledger l.port).send
    had_sends = grind (arith, (kill_held w task name l can s sh).1, (sh.agrees.counts l.port).senders, held_le_of task send l.port s.ledger)

  -- the name alone
  abbrev named_lost : WorldView
  named_lost = record (with_space w task (record r.space { names = put r.space.names name rest })) { requests = requests_after w.requests task name rest }

  taken_requested : RequestsStand w → RequestsStand v
  taken_requested a =
      let puts : PutsLeft w task name rest named_lost = record { space = r.space; there = r.there; rest = refl } in
      requested_ports named_lost v
      (requested_left w named_lost a task name rest puts (λ x y p is under for.
      let same : can.e ≡ y = same_found (entry_at w task name) can.e y can.found under in
      let q : Some l.port ≡ Some p = sym (named_port can.e l.port for_port) ∙ ap port_of same ∙ for in
      (rest_right l x is).1 ∙ q))
      live_still (ap (λ (x : WorldView). x.requests) r.rest) spaces_are

  unused_same : v.ledger.unused ≡ w.ledger.unused
  unused_same = ap (λ (x : LedgerView). x.unused) ledger_is_lost ∙ omega arith

  taken_slots : SlotsSuffice w → SlotsSuffice v
  taken_slots enough = slots_kept w v enough unused_same (ap (λ (x : WorldView). x.ports.spare) r.rest)

  pub taken_spares : UsesSpares w v
  taken_spares = grind (arith, keeps_space w v task r.space (record r.space { names = put r.space.names name rest }) r.there spaces_are (omega arith) (ap (λ (x : WorldView). x.ports.spare) r.rest))

  -- ---- send rights that went

  no_senders_lost : v.requests.no_senders ≡ w.requests.no_senders
  no_senders_lost = ap (λ (x : WorldView). x.requests.no_senders) r.rest ∙ same_senders w.requests task name rest

  noted_lost : v.ports.noted ≡ w.ports.noted
  noted_lost = ap (λ (x : WorldView). x.ports.noted) r.rest

  no_send : right.Receive ≡ right.Send → ⊥
  no_send e = cc

  keeps : l.held - l.left ≡ 0 → KeepsSends w.ledger v.ledger
  keeps none = subst (KeepsSends w.ledger) (sym ledger_is_lost) (λ q zero. sends_taken w.ledger l.port right.Receive 1 no_send q
      (none_taken_kept (taken w.ledger l.port right.Receive 1) l.port (l.held - l.left) none q zero))

  other_sends : (q : ℕ) → (q ≡ l.port → ⊥) → (counts_of v.ledger q).send ≡ (counts_of w.ledger q).send
  other_sends q not = ap (λ (x : LedgerView). (counts_of x q).send) ledger_is_lost
      ∙ sends_elsewhere (taken w.ledger l.port right.Receive 1) l.port right.Send (l.held - l.left) q not ∙ sends_elsewhere w.ledger l.port right.Receive 1 q not

  taken_notes : (s : State) → Shows w s → (went : Bool) → nat_lt l.left l.held ≡ went → (new : WorldView) → NotesLost v (Some l.port) went new → NotesSenders w new
  taken_notes s sh false less new same = grind (arith, senders_kept, senders_same, keeps_senders, no_senders_lost, keeps, ltb-false, noted_lost)
  taken_notes s sh true less new notes = senders_fallen w w new (senders_same w sh.idle.noted) l.port v no_senders_lost noted_lost sh.requested other_sends
      (λ none. let h = had_sends s sh in let some = ltb-true l.left l.held less in omega (arith, h, some)) notes

  -- ---- what is left for the end of the step

  taken_left : (s : State) (sh : Shows w s) (t : State) → ((q : ℕ) → (q ≡ l.port → ⊥) → ¬ (IsOrphan t q)) → IsOrphan t l.port → (new : WorldView) →
      new.ports.lost ≡ v.ports.lost → new.ports.doomed ≡ v.ports.doomed → new.ports.destroyed ≡ v.ports.destroyed → IsLeft new t
  taken_left s sh t none orphan new lost doomed destroyed = grind (arith, listed_one)

-- ---- all together

module _ (w : WorldView) (task name : ℕ) (l : Loss) (v : WorldView) (r : LosesReceive w task name l v) where
  -- what noting the port keeps is kept
  keeps_noted : (P : WorldView → Type 0) → ((n : List ℕ) → P r.killed → P (record r.killed { ports = record r.killed.ports { noted = n } })) → P r.killed → P v
  keeps_noted P f = lost_keeps P r.killed v (Some l.port) (nat_lt l.left l.held) r.notes (λ p n h. subst P (sym n.rest) (f n.noted h))

  fewer_sends : (q : ℕ) → (counts_of v.ledger q).send ≤ (counts_of w.ledger q).send
  fewer_sends = keeps_noted (λ y. (q : ℕ) → (counts_of y.ledger q).send ≤ (counts_of w.ledger q).send) (λ n h. h) (λ q.
      let e = ap (λ (x : WorldView). (counts_of x.ledger q).send) r.takes.rest in
      let a = sends_fewer (taken w.ledger l.port right.Receive 1) l.port right.Send (l.held - l.left) q in
      let b = sends_fewer w.ledger l.port right.Receive 1 q in omega (arith, e, a, b))

  pub lost_spares : UsesSpares w v
  lost_spares = keeps_noted (UsesSpares w) (λ n h. record { rooms = h.rooms; fewer = h.fewer; slots = h.slots }) (taken_spares w task name l r.killed r.can r.takes)

  pub receive_lost : (event : Event) → HasTasks w event → IsAllowed w (λ s. call_guards s event) →
      ((now : ℕ) (s : State) → Shows w s → (t : State) → TakesSo task name l s t →
      (d : Does now s event (Reply.Code 0) t []) × Judged now s event (Reply.Code 0) t [] d) → Completes w event (Reply.Code 0) v
  receive_lost event tasks allowed means = done_leaving w event (Reply.Code 0) v tasks allowed (λ now s sh.
      let k = r.takes in
      let x = becomes w task name l r.can s sh r.killed k in record {
        mid = x.0;
        owed = [];
        does = (means now s sh x.0 x.1).0;
        judged = (means now s sh x.0 x.1).1;
        agrees = lost_keeps (λ y. Agrees y x.0) r.killed v (Some l.port) (nat_lt l.left l.held) r.notes (λ p n a. noted_agrees r.killed v p n x.0 a) x.2;
        holders = lost_keeps HoldersAgree r.killed v (Some l.port) (nat_lt l.left l.held) r.notes (λ p n. noted_holders r.killed v p n) (taken_holders w task name l r.killed r.can k s sh);
        carriers = lost_keeps CarriersAgree r.killed v (Some l.port) (nat_lt l.left l.held) r.notes (λ p n. noted_carriers r.killed v p n) (taken_carriers w task name l r.killed r.can k s sh);
        slots = lost_keeps SlotsSuffice r.killed v (Some l.port) (nat_lt l.left l.held) r.notes (λ p n. noted_slots r.killed v p n) (taken_slots w task name l r.killed r.can k sh.slots);
        requested = lost_keeps RequestsStand r.killed v (Some l.port) (nat_lt l.left l.held) r.notes (λ p n. noted_requested r.killed v p n) (taken_requested w task name l r.killed r.can k sh.requested);
        notes = taken_notes w task name l r.killed r.can k s sh (nat_lt l.left l.held) refl v r.notes;
        makes = λ p c q. fewer_sends q;
        left = taken_left w task name l r.killed r.can k s sh x.0 (others_kept w task name l r.can s sh x.0 x.3 x.4) (orphaned w task name l r.can s sh x.0 x.3 x.4) v
            (keeps_noted (λ y. y.ports.lost ≡ r.killed.ports.lost) (λ n h. h) refl) (keeps_noted (λ y. y.ports.doomed ≡ r.killed.ports.doomed) (λ n h. h) refl)
            (keeps_noted (λ y. y.ports.destroyed ≡ r.killed.ports.destroyed) (λ n h. h) refl);
      })
