-- What stands under a name is lost, with the name or without it.
use Rattle.std.proofs.Common.{◌≡◌, ℕ, ◌++◌, [], ◌∷◌, List, Option, Some, refl, sym, ap, subst, ◌∙◌, ◌<◌, Bool, true, false, None, is_some, ◌≢◌, arith, ◌≤◌, inl, inr, ◌+◌, ◌^◌}
use Rattle.std.specs.FinMap as map
use Rattle.std.specs.Prelude.{if◌then◌else◌, ◌-◌, slice_set, max, MatchBool}
use Rattle.std.specs.Option.{option_map}
use Rattle.std.proofs.Math.Path.{fun_ext}
use Rattle.std.proofs.lemmas.Bool.{cases_lt}
use Rattle.mach_types.specs.Numbers.{dead_word}
use Rattle.mach_model.specs.State.{State}
use Rattle.rights.specs.declared.RightKind.TheVariants.{Receive}
use Rattle.rights.specs.Ledger.{taken, shifted}
use Rattle.rights.specs.declared.RightKind.TheVariants as kind
use Rattle.name_space.specs.Names.{SpaceView}
use Rattle.name_space.specs.declared.Entry.TheVariants as entry
use Rattle.name_space.specs.declared.Entry.{Entry}
use Rattle.name_space.specs.Entry.{port_of}
use Rattle.port.specs.declared.Holder.TheVariants.{Nobody}
use Rattle.port.specs.Holding.{held}
use Rattle.port.specs.Ports.{with_port}
use Rattle.port_set.specs.Sets.{removed}
use Rattle.request_table.specs.Requests.{RequestsView}
use Rattle.copyin_base.specs.Reading.{live_in, reading, read_space}
use Rattle.request_table.specs.Tables.{request_left}
use Rattle.copyin_base.specs.Requests.{requests_after}
use Rattle.copyin_base.specs.Worlds.{WorldView, port_at, entry_at, with_space, put, space_in, space_at, entry_in}
use Rattle.tables_base.proofs.Reading.{reads_same, get_read}
use Rattle.copyin_base.specs.Shows.{Shows, SlotsSuffice, Agrees}
use Rattle.copyin_base.proofs.Requested.{left_entry, left_other}
use Rattle.copyin_base.specs.declared.Notice.TheVariants as notice
use Rattle.copyin_base.specs.Changes.{PutsLeft, NotesSenderless, IsSenderless}
use Rattle.copyin_base.specs.Queued.{notice_kept}
use Rattle.copyin_base.proofs.Putting.{put_own}
use Rattle.copyin_base.proofs.SendersNoted.{counts_own}
use Rattle.copyin_base.proofs.Spaces.{set-set, space-set_same}
use Rattle.copyin_base.specs.Stands.{Stands}
use Rattle.copyin_base.specs.Wanted.{room_in, room_of, KeepsSpares, UsesSpares}
use Rattle.copyin_base.proofs.Spares.{keeps_refl, keeps_names, keeps_trans, left_keeps}
use Rattle.copyin_base.proofs.Tied.{stands_tied}
use Rattle.notifications.specs.Ending.{CanLoseEntry, LosesEntry, LosesName, LosesOnce, IsNextEntry}
use Rattle.copyin_base.specs.Losing.{CanLose, CanPost, DropsSet, LosesPort, LosesSends}
use Rattle.notifications.proofs.Removing.{SendsGo, EntryGoes, NameGoes, ShowsPart, EndsFrom, IsEnding, ReceiveGoes, OnceGoes, SetGoes, HasNoNames}
use Rattle.notifications.proofs.DeadLost.{dead_lost}
use Rattle.notifications.proofs.ReceiveLost.{receive_lost, Stood, stood, can_lose_port, can_post_for, port_entered, sends_counted, ends_first}
use Rattle.copyin_base.proofs.Removed.{each-closed}
use Rattle.notifications.proofs.TaskEnded.{send_lost, both_lost, shown_is}
use Rattle.notifications.proofs.SetLost.{set_lost}
use Rattle.notifications.proofs.UnusedLost.{unused_lost}

-- ---- A receive right that is kept under a name: its port is there and loses it, or is gone, and nothing is lost.

module _ (old : WorldView) (p : ℕ) where
  pub kept_can : CanLoseEntry old (reading (live_in old.ports) (entry.Receive p)) → is_some (port_at old p) ≡ true → CanLose old p
  kept_can can live = subst (λ (l : Bool). CanLoseEntry old (if l then entry.Receive p else entry.DeadName 1)) live can

  pub kept_lost : (new : WorldView) → MatchBool (is_some (port_at old p)) (LosesPort old p new) (new ≡ old) → LosesEntry old (reading (live_in old.ports) (entry.Receive p)) new
  kept_lost new = go (is_some (port_at old p))
    where
      go : (b : Bool) → MatchBool b (LosesPort old p new) (new ≡ old) → LosesEntry old (if b then entry.Receive p else entry.DeadName 1) new
      go true lost = lost
      go false same = same

-- ---- A name went with what stood there, whatever it was: the tables show what is left of the task, and its other names stay.

-- the receive right is left
pub still_there : (w v : WorldView) (task name p n : ℕ) (e : Entry) → SendsGo w task name p n (Some e) v → entry_at v task name ≡ Some e
still_there w v task name p n e r = ap (λ (y : WorldView). entry_at y task name) r.notes.rest ∙ left_entry w r.named task name (Some e) r.puts

pub entry_lost : (now : ℕ) (start : WorldView) (task : ℕ) (s : State) → Shows start s → (w : WorldView) → ShowsPart now start task s w → (name : ℕ) (e : Entry) (v : WorldView) → entry_at w task name ≡ Some e →
    EntryGoes w task name e v → ShowsPart now start task s v
entry_lost now start task s sh w sp name (entry.Receive p) v found r = receive_lost now start task s sh w sp name p found v r
entry_lost now start task s sh w sp name (entry.Send p n) v found r = send_lost now start task s sh w sp name p n v found r
entry_lost now start task s sh w sp name (entry.ReceiveAndSend p n) v found r =
    receive_lost now start task s sh r.0 (both_lost now start task s sh w sp name p n r.0 found r.1) name p (still_there w r.0 task name p n (entry.Receive p) r.1) v r.2
entry_lost now start task s sh w sp name (entry.SendOnce p) v found r = unused_lost now start task s sh w sp name p found v r
entry_lost now start task s sh w sp name (entry.DeadName n) v found r = dead_lost now start task s sh w sp name n found v r
entry_lost now start task s sh w sp name (entry.Set set) v found r = set_lost now start task s sh w sp name set found v r

pub ends_more : (start : WorldView) (task : ℕ) (w : WorldView) (name : ℕ) (v : WorldView) → NameGoes w task name v → EndsFrom start task w → EndsFrom start task v
ends_more start task w name v r ends = record { shows = λ now s sh. entry_lost now start task s sh w (ends.shows now s sh) name r.entry v r.found r.loses }

-- ---- the other names stay

pub others_stay : (w : WorldView) (task name : ℕ) (e : Entry) (v : WorldView) → EntryGoes w task name e v → (n : ℕ) → n ≢ name → entry_at v task n ≡ entry_at w task n
others_stay w task name (entry.Receive p) v r n not =
    ap (λ (y : WorldView). entry_at y task n) r.loses.rest ∙ left_other w r.named task name None r.puts task n (λ _. not)
others_stay w task name (entry.Send p k) v r n not =
    ap (λ (y : WorldView). entry_at y task n) r.notes.rest ∙ left_other w r.named task name None r.puts task n (λ _. not)
others_stay w task name (entry.ReceiveAndSend p k) v r n not =
    ap (λ (y : WorldView). entry_at y task n) r.2.loses.rest ∙ left_other r.0 r.2.named task name None r.2.puts task n (λ _. not)
    ∙ ap (λ (y : WorldView). entry_at y task n) r.1.notes.rest ∙ left_other w r.1.named task name (Some (entry.Receive p)) r.1.puts task n (λ _. not)
others_stay w task name (entry.SendOnce p) v r n not =
    ap (λ (y : WorldView). entry_at y task n) r.posts.rest ∙ left_other w r.named task name None r.puts task n (λ _. not)
others_stay w task name (entry.DeadName k) v r n not = left_other w v task name None r task n (λ _. not)
others_stay w task name (entry.Set set) v r n not =
    ap (λ (y : WorldView). entry_at y task n) r.rest ∙ left_other w r.named task name None r.puts task n (λ _. not)

-- ---- What a name stands for is lost while the name stays: the tables are then those where the name went too, but for the names.

abbrev Spaces : Type 0
Spaces = List (Option SpaceView)

-- the tables with these names
abbrev pub with_names : WorldView → Spaces → WorldView
with_names g spaces = record g { spaces = spaces }

-- ---- what that asks, of tables with any names

lose_in : (w : WorldView) (spaces : Spaces) (p : ℕ) → CanLose w p → CanLose (with_names w spaces) p
lose_in w spaces p c = record { v = c.v; there = c.there; held = c.held; entered = c.entered; counted = c.counted }

post_in : (w : WorldView) (spaces : Spaces) (p : ℕ) → CanPost w p → CanPost (with_names w spaces) p
post_in w spaces p c = record { live = c.live; paid = c.paid; slots = c.slots }

can_lose_place : (g : WorldView) (spaces : Spaces) (task name : ℕ) → IsEnding g task → (e : Entry) → entry_at g task name ≡ Some e → CanLoseEntry (with_names g spaces) e
can_lose_place g spaces task name ending (entry.Receive p) found = lose_in g spaces p (can_lose_port g task ending name (entry.Receive p) found p refl refl)
can_lose_place g spaces task name ending (entry.Send p n) found = (port_entered g task ending name (entry.Send p n) found p refl, sends_counted g task ending name (entry.Send p n) found p refl)
can_lose_place g spaces task name ending (entry.ReceiveAndSend p n) found = (
  port_entered g task ending name (entry.ReceiveAndSend p n) found p refl,
  sends_counted g task ending name (entry.ReceiveAndSend p n) found p refl,
  lose_in g spaces p (can_lose_port g task ending name (entry.ReceiveAndSend p n) found p refl refl),
)
can_lose_place g spaces task name ending (entry.SendOnce p) found = post_in g spaces p (can_post_for g task ending name p found)
can_lose_place g spaces task name ending (entry.DeadName n) found = tt
can_lose_place g spaces task name ending (entry.Set set) found = tt

pub can_lose_in : (g w : WorldView) (spaces : Spaces) (task name : ℕ) (e : Entry) → w ≡ with_names g spaces → IsEnding g task → entry_at g task name ≡ Some e → CanLoseEntry w e
can_lose_in g w spaces task name e is ending found = subst (λ (x : WorldView). CanLoseEntry x e) (sym is) (can_lose_place g spaces task name ending e found)

-- once the request on the name ended
pub can_lose_left : (w : WorldView) (task name : ℕ) (e : Entry) → CanLoseEntry w e → CanLoseEntry (record w { requests = request_left w.requests task name }) e
can_lose_left w task name (entry.Receive p) c = record { v = c.v; there = c.there; held = c.held; entered = c.entered; counted = c.counted }
can_lose_left w task name (entry.Send p n) c = c
can_lose_left w task name (entry.ReceiveAndSend p n) c = grind arith
can_lose_left w task name (entry.SendOnce p) c = record { live = c.live; paid = c.paid; slots = c.slots }
can_lose_left w task name (entry.DeadName n) c = c
can_lose_left w task name (entry.Set set) c = c

-- once the send rights went
pub lose_then : (w v : WorldView) (p n : ℕ) → LosesSends w p n v → CanLose w p → CanLose v p
lose_then w v p n r c = grind (arith, put_own, counts_own)

-- ---- what is kept stands for what is read of it

at_port : (live : ℕ → Bool) (q p : ℕ) → Some q ≡ Some p → live p ≡ false → live q ≡ false
at_port live q p e dead = let same : q ≡ p = cc in ap live same ∙ dead

-- where its port is gone it is a dead name
reads_dead : (live : ℕ → Bool) (e : Entry) (p : ℕ) → port_of e ≡ Some p → live p ≡ false → (n : ℕ) × (reading live e ≡ entry.DeadName n)
reads_dead live (entry.Receive q) p for dead = (1, ap (λ (b : Bool). if b then entry.Receive q else entry.DeadName 1) (at_port live q p for dead))
reads_dead live (entry.Send q n) p for dead = (n, ap (λ (b : Bool). if b then entry.Send q n else entry.DeadName n) (at_port live q p for dead))
reads_dead live (entry.ReceiveAndSend q n) p for dead = (n, ap (λ (b : Bool). if b then entry.ReceiveAndSend q n else entry.DeadName n) (at_port live q p for dead))
reads_dead live (entry.SendOnce q) p for dead = (1, ap (λ (b : Bool). if b then entry.SendOnce q else entry.DeadName 1) (at_port live q p for dead))
reads_dead live (entry.DeadName n) p for dead = (n, refl)
reads_dead live (entry.Set set) p for dead = absurd (let f : None ≡ Some p = for in cc)

-- so nothing is lost
pub nothing_lost : (w : WorldView) (live : ℕ → Bool) (e : Entry) (p : ℕ) → port_of e ≡ Some p → live p ≡ false → LosesEntry w (reading live e) w
nothing_lost w live e p for dead = let d = reads_dead live e p for dead in subst (λ (x : Entry). LosesEntry w x w) (sym d.1) refl

-- where it is for no port it is itself
pub reads_none : (live : ℕ → Bool) (e : Entry) → port_of e ≡ None → reading live e ≡ e
reads_none live e none = reads_same live e (λ p is. absurd (let f : None ≡ Some p = sym none ∙ is in cc))

-- What is noted depends on neither names nor the requests on them.
module _ (w : WorldView) (spaces : Spaces) (names : RequestsView) (p : ℕ) where
  abbrev other : WorldView
  other = record w { spaces = spaces; requests = record w.requests { names = names } }

  senderless_in : IsSenderless other p → IsSenderless w p
  senderless_in s = record { live = s.live; asked = s.asked; none = s.none }

  senderless_from : IsSenderless w p → IsSenderless other p
  senderless_from s = record { live = s.live; asked = s.asked; none = s.none }

  notes_in : (v : WorldView) (r : NotesSenderless w p v) → NotesSenderless other p (record other { ports = record w.ports { noted = r.noted } })
  notes_in v r = record {
    noted = r.noted;
    rest = refl;
    notes = λ s. r.notes (senderless_in s);
    stay = r.stay;
    only = λ q c. elim (r.only q c) [
      | inl h ↦ inl h
      | inr h ↦ inr (h.0, senderless_from h.1)
    ];
  }

-- ---- the tables where the name went too

-- They have a name less, and are else the tables where it stayed.
pub record Goes (g : WorldView) (spaces : Spaces) (task name : ℕ) (e : Entry) (v : WorldView) : Type 0 where
  pub new : WorldView
  pub goes : EntryGoes g task name e new
  pub gone : entry_at new task name ≡ None
  pub closed : slice_set new.spaces task None ≡ slice_set g.spaces task None
  pub rest : v ≡ with_names new spaces

-- what went is seen in tables with the names that are left of the task's
module _ (g : WorldView) (spaces : Spaces) (task name : ℕ) (e : Entry) (st : Stood g task name e) where
  -- this is left under the name
  abbrev with_left : Option Entry → WorldView
  with_left left = record (with_space g task (record st.space { names = put st.space.names name left })) { requests = requests_after g.requests task name left }

  puts : (left : Option Entry) → PutsLeft g task name left (with_left left)
  puts left = record { space = st.space; there = st.there; rest = refl }

  abbrev named : WorldView
  named = with_left None

  -- the tables with the name, once the request on it ended
  abbrev asked : WorldView
  asked = record (with_names g spaces) { requests = request_left g.requests task name }

  own : entry_at named task name ≡ None
  own = left_entry g named task name None (puts None)

  shut : slice_set named.spaces task None ≡ slice_set g.spaces task None
  shut = set-set g.spaces task (Some (record st.space { names = put st.space.names name None })) None

  receive_goes : (p : ℕ) (v : WorldView) → LosesPort asked p v → Goes g spaces task name (entry.Receive p) v
  receive_goes p v r = record {
    new = record named { ports = record (with_port g.ports p (held r.v Nobody)) { lost = g.ports.lost ++ p ∷ [] }; ledger = taken g.ledger p kind.Receive 1 };
    goes = record { named = named; puts = puts None; loses = record { v = r.v; there = r.there; rest = refl } };
    gone = own;
    closed = shut;
    rest = r.rest;
  }

  sends_go : (p n : ℕ) (v : WorldView) → LosesSends asked p n v → Goes g spaces task name (entry.Send p n) v
  sends_go p n v r = record {
    new = record named { ports = record g.ports { noted = r.noted }; ledger = taken g.ledger p kind.Send n };
    goes = record {
      named = named;
      puts = puts None;
      notes = notes_in (record asked { ledger = taken g.ledger p kind.Send n }) named.spaces named.requests.names p v r;
    };
    gone = own;
    closed = shut;
    rest = r.rest;
  }

  once_goes : (p : ℕ) (v : WorldView) → LosesOnce asked p v → Goes g spaces task name (entry.SendOnce p) v
  once_goes p v r = record {
    new = record named { ports = record (with_port g.ports p (record r.posts.v { queue = r.posts.v.queue ++ notice_kept notice.SendOnce ∷ [] })) { spare = g.ports.spare - 1 }; ledger = shifted g.ledger p };
    goes = record {
      named = named;
      puts = puts None;
      posts = record { v = r.posts.v; there = r.posts.there; counted = r.posts.counted; spare = r.posts.spare; rest = refl };
      slots = subst (λ (x : WorldView). x.ledger.unused ≤ x.ports.spare) r.posts.rest r.slots;
    };
    gone = own;
    closed = shut;
    rest = r.posts.rest;
  }

  dead_goes : (n : ℕ) (v : WorldView) → v ≡ asked → Goes g spaces task name (entry.DeadName n) v
  dead_goes n v r = record { new = named; goes = puts None; gone = own; closed = shut; rest = r }

  set_goes : (set : ℕ) (v : WorldView) → DropsSet asked set v → Goes g spaces task name (entry.Set set) v
  set_goes set v r = record {
    new = record named { ports = v.ports; sets = removed g.sets set };
    goes = record { named = named; puts = puts None; disbanded = r.disbanded; rest = refl };
    gone = own;
    closed = shut;
    rest = r.rest;
  }

-- the send rights go first, and the receive right is left alone
both_go : (g : WorldView) (spaces : Spaces) (task name p n : ℕ) (st : Stood g task name (entry.ReceiveAndSend p n)) (v : WorldView) →
    LosesName (with_names g spaces) task name (entry.ReceiveAndSend p n) v → Goes g spaces task name (entry.ReceiveAndSend p n) v
both_go g spaces task name p n st v r = record {
  new = last.new;
  goes = (alone, record { named = kept; puts = puts g spaces task name (entry.ReceiveAndSend p n) st left; notes = notes }, last.goes);
  gone = last.gone;
  closed = last.closed ∙ set-set g.spaces task (Some between) None;
  rest = last.rest;
}
  where
    left : Option Entry
    left = Some (entry.Receive p)

    between : SpaceView
    between = record st.space { names = put st.space.names name left }

    kept : WorldView
    kept = with_space g task between

    alone : WorldView
    alone = record kept { ports = record g.ports { noted = r.1.noted }; ledger = taken g.ledger p kind.Send n }

    notes : NotesSenderless (record kept { ledger = taken g.ledger p kind.Send n }) p alone
    notes = notes_in (record (with_names g spaces) { requests = request_left g.requests task name; ledger = taken g.ledger p kind.Send n }) kept.spaces kept.requests.names p r.0 r.1

    there : Stood alone task name (entry.Receive p)
    there = record { space = between; there = space-set_same g.spaces task between st.space st.there; found = put_own st.space.names name left }

    last : Goes alone spaces task name (entry.Receive p) v
    last = receive_goes alone spaces task name (entry.Receive p) there p v (subst (λ (x : WorldView). LosesPort x p v) r.1.rest r.2)

entry_goes : (g : WorldView) (spaces : Spaces) (task name : ℕ) (e : Entry) → Stood g task name e → (v : WorldView) → LosesName (with_names g spaces) task name e v → Goes g spaces task name e v
entry_goes g spaces task name (entry.Receive p) st v r = receive_goes g spaces task name (entry.Receive p) st p v r
entry_goes g spaces task name (entry.Send p n) st v r = sends_go g spaces task name (entry.Send p n) st p n v r
entry_goes g spaces task name (entry.ReceiveAndSend p n) st v r = both_go g spaces task name p n st v r
entry_goes g spaces task name (entry.SendOnce p) st v r = once_goes g spaces task name (entry.SendOnce p) st p v r
entry_goes g spaces task name (entry.DeadName n) st v r = dead_goes g spaces task name (entry.DeadName n) st n v r
entry_goes g spaces task name (entry.Set set) st v r = set_goes g spaces task name (entry.Set set) st set v r

pub name_goes : (g w : WorldView) (spaces : Spaces) (task name : ℕ) (e : Entry) (v : WorldView) → w ≡ with_names g spaces → entry_at g task name ≡ Some e → LosesName w task name e v → Goes g spaces task name e v
name_goes g w spaces task name e v is found r = entry_goes g spaces task name e (stood g task name e found) v (subst (λ (x : WorldView). LosesName x task name e v) is r)

-- ---- A task that ends uses a spare slot for each send-once right that it loses, and no other.

uses_kept : (old new : WorldView) → KeepsSpares old new → new.ledger.unused ≡ old.ledger.unused → UsesSpares old new
uses_kept old new k unused = record { rooms = k.rooms; fewer = omega (arith, unused); slots = let spare = k.slots in omega (arith, spare, unused) }

pub uses_refl : (w : WorldView) → UsesSpares w w
uses_refl w = uses_kept w w (keeps_refl w) refl

pub uses_trans : (a b c : WorldView) → UsesSpares a b → UsesSpares b c → UsesSpares a c
uses_trans a b c x y = record {
  rooms = λ task. let g = x.rooms task in let h = y.rooms task in omega (arith, g, h);
  fewer = let g = x.fewer in let h = y.fewer in omega (arith, g, h);
  slots = let g = x.slots in let h = y.slots in omega (arith, g, h);
}

sends_use : (w v : WorldView) (task name p n : ℕ) (left : Option Entry) → SendsGo w task name p n left v → UsesSpares w v
sends_use w v task name p n left r = uses_kept w v
    (keeps_trans w r.named v (left_keeps w r.named task name left r.puts) (keeps_names r.named v (ap (λ (x : WorldView). x.spaces) r.notes.rest) (ap (λ (x : WorldView). x.ports.spare) r.notes.rest)))
    (let a : v.ledger.unused ≡ r.named.ledger.unused - 0 = ap (λ (x : WorldView). x.ledger.unused) r.notes.rest in
    let b : r.named.ledger.unused ≡ w.ledger.unused = ap (λ (x : WorldView). x.ledger.unused) r.puts.rest in omega (arith, a, b))

receive_uses : (w v : WorldView) (task name p : ℕ) → ReceiveGoes w task name p v → UsesSpares w v
receive_uses w v task name p r = uses_kept w v
    (keeps_trans w r.named v (left_keeps w r.named task name None r.puts) (keeps_names r.named v (ap (λ (x : WorldView). x.spaces) r.loses.rest) (ap (λ (x : WorldView). x.ports.spare) r.loses.rest)))
    (let a : v.ledger.unused ≡ r.named.ledger.unused - 0 = ap (λ (x : WorldView). x.ledger.unused) r.loses.rest in
    let b : r.named.ledger.unused ≡ w.ledger.unused = ap (λ (x : WorldView). x.ledger.unused) r.puts.rest in omega (arith, a, b))

once_uses : (w v : WorldView) (task name p : ℕ) → SlotsSuffice w → OnceGoes w task name p v → UsesSpares w v
once_uses w v task name p enough r =
    let k = left_keeps w r.named task name None r.puts in
    let left : v.ledger.unused ≡ r.named.ledger.unused - 1 = ap (λ (x : WorldView). x.ledger.unused) r.posts.rest in
    let now : v.ports.spare ≡ r.named.ports.spare - 1 = ap (λ (x : WorldView). x.ports.spare) r.posts.rest in
    let unused : r.named.ledger.unused ≡ w.ledger.unused = ap (λ (x : WorldView). x.ledger.unused) r.puts.rest in
    let spare = k.slots in
    let some = r.posts.counted in
    record {
      rooms = λ u. let e : room_of v u ≡ room_of r.named u = ap (λ (x : WorldView). room_in (space_in x.spaces u)) r.posts.rest in let h = k.rooms u in omega (arith, e, h);
      fewer = omega (arith, left, unused);
      slots = omega (arith, left, now, unused, spare, some, enough);
    }

set_uses : (w v : WorldView) (task name set : ℕ) → SetGoes w task name set v → UsesSpares w v
set_uses w v task name set r = uses_kept w v
    (keeps_trans w r.named v (left_keeps w r.named task name None r.puts) (keeps_names r.named v (ap (λ (x : WorldView). x.spaces) r.rest) r.disbanded.spare))
    (ap (λ (x : WorldView). x.ledger.unused) r.rest ∙ ap (λ (x : WorldView). x.ledger.unused) r.puts.rest)

entry_uses : (w v : WorldView) (task name : ℕ) (e : Entry) → SlotsSuffice w → EntryGoes w task name e v → UsesSpares w v
entry_uses w v task name (entry.Receive p) enough r = receive_uses w v task name p r
entry_uses w v task name (entry.Send p n) enough r = sends_use w v task name p n None r
entry_uses w v task name (entry.ReceiveAndSend p n) enough r = uses_trans w r.0 v (sends_use w r.0 task name p n (Some (entry.Receive p)) r.1) (receive_uses r.0 v task name p r.2)
entry_uses w v task name (entry.SendOnce p) enough r = once_uses w v task name p enough r
entry_uses w v task name (entry.DeadName n) enough r = uses_kept w v (left_keeps w v task name None r) (ap (λ (x : WorldView). x.ledger.unused) r.rest)
entry_uses w v task name (entry.Set set) enough r = set_uses w v task name set r

pub name_uses : (start w v : WorldView) (task name : ℕ) → Stands start → EndsFrom start task w → UsesSpares start w → NameGoes w task name v → UsesSpares start v
name_uses start w v task name stands ends uses r =
    uses_trans start w v uses (entry_uses w v task name r.entry (ends.shows 0 stands.state stands.shown).slots r.loses)

pub closed_uses : (start w v : WorldView) (task : ℕ) → UsesSpares start w → v ≡ record w { spaces = slice_set w.spaces task None } → UsesSpares start v
closed_uses start w v task uses is = uses_trans start w v uses record {
  rooms = λ u.
      let e : room_of v u ≡ room_in (space_in (slice_set w.spaces task None) u) = ap (λ (x : WorldView). room_of x u) is in
      let h = each-closed w.spaces task (λ k o. room_in o ≤ max (room_of w k) 1) (omega arith) (λ k not. omega arith) u in omega (arith, e, h);
  fewer = let e : v.ledger.unused ≡ w.ledger.unused = ap (λ (x : WorldView). x.ledger.unused) is in omega (arith, e);
  slots =
      let e : v.ledger.unused ≡ w.ledger.unused = ap (λ (x : WorldView). x.ledger.unused) is in
      let s : v.ports.spare ≡ w.ports.spare = ap (λ (x : WorldView). x.ports.spare) is in omega (arith, e, s);
}

-- ---- The names of a task that ends are gone over, from the least: what the tables are when all below one are.

-- What the names below this one stood for is lost; all names were taken out before.
pub record IsGoneOver (start : WorldView) (task from : ℕ) (w : WorldView) : Type 0 where
  -- the tables where these names are gone
  pub bare : WorldView
  pub ends : EndsFrom start task bare
  pub uses : UsesSpares start bare
  pub below : (n : ℕ) → n < from → entry_at bare task n ≡ None
  pub above : (n : ℕ) → from ≤ n → entry_at bare task n ≡ entry_at start task n
  pub closed : slice_set bare.spaces task None ≡ slice_set start.spaces task None
  pub rest : w ≡ with_names bare (slice_set start.spaces task None)

pub none_over : (start : WorldView) (task from : ℕ) (w : WorldView) → from ≡ 0 → w ≡ record start { spaces = slice_set start.spaces task None } → IsGoneOver start task from w
none_over start task from w zero taken = record {
  bare = start;
  ends = ends_first start task;
  uses = uses_refl start;
  below = λ n less. absurd (omega (arith, zero, less));
  above = λ n more. refl;
  closed = refl;
  rest = taken;
}

no_entry : (e : Entry) → None ≡ Some e → ⊥
no_entry e f = cc

-- what is kept under a name, read
module _ (start : WorldView) (task : ℕ) (kept : SpaceView) (is_kept : space_at start task ≡ Some (read_space (live_in start.ports) kept)) (n : ℕ) where
  pub read_at : entry_at start task n ≡ option_map (reading (live_in start.ports)) (map.get kept.names n)
  read_at = ap (λ (o : Option SpaceView). entry_in o n) is_kept ∙ get_read (live_in start.ports) kept.names n

  pub none_at : map.get kept.names n ≡ None → entry_at start task n ≡ None
  none_at none = read_at ∙ ap (option_map (reading (live_in start.ports))) none

-- no port comes or goes while the names are gone over
module _ (start : WorldView) (task : ℕ) (w : WorldView) (stands : Stands start) (ends : EndsFrom start task w) where
  abbrev s : State
  s = stands.state

  abbrev sp : ShowsPart 0 start task s w
  sp = ends.shows 0 s stands.shown

  pub same_live : live_in w.ports ≡ live_in start.ports
  same_live = fun_ext (λ (p : ℕ). (subst (Agrees w) (shown_is 0 s task sp.part) sp.agrees).live_port p ∙ sym (stands.shown.agrees.live_port p))

module _ (start : WorldView) (task from : ℕ) (w : WorldView) (o : IsGoneOver start task from w) (kept : SpaceView) (is_kept : space_at start task ≡ Some (read_space (live_in start.ports) kept)) where
  -- ---- the next name

  module _ (stands : Stands start) (name : ℕ) (it : Entry) (next : IsNextEntry kept.names from name it) where
    -- what is read of what is kept there
    abbrev e : Entry
    e = reading (live_in w.ports) it

    live : live_in w.ports ≡ live_in start.ports
    live = ap (λ (x : WorldView). live_in x.ports) o.rest ∙ same_live start task o.bare stands o.ends

    at_start : entry_at start task name ≡ Some e
    at_start = read_at start task kept is_kept name ∙ ap (option_map (reading (live_in start.ports))) next.found ∙ ap (λ (l : ℕ → Bool). Some (reading l it)) (sym live)

    found : entry_at o.bare task name ≡ Some e
    found = o.above name next.from ∙ at_start

    pub can_lose_next : CanLoseEntry w e
    can_lose_next = can_lose_in o.bare w (slice_set start.spaces task None) task name e o.rest (record { start = start; stands = stands; ends = o.ends }) found

    pub not_dead : name ≢ dead_word
    not_dead is =
        let x = stood start task name e at_start in
        let none = (stands_tied start task x.space stands x.there).not_dead in
        no_entry e (sym (subst (λ (k : ℕ). map.get x.space.names k ≡ None) (sym is) none) ∙ x.found)

    module _ (v : WorldView) (r : LosesName w task name e v) where
      went : Goes o.bare (slice_set start.spaces task None) task name e v
      went = name_goes o.bare w (slice_set start.spaces task None) task name e v o.rest found r

      goes : NameGoes o.bare task name went.new
      goes = record { entry = e; found = found; loses = went.goes }

      stay : (n : ℕ) → n ≢ name → entry_at went.new task n ≡ entry_at o.bare task n
      stay n not = others_stay o.bare task name e went.new went.goes n not

      none_before : (n : ℕ) → n < name → entry_at o.bare task n ≡ None
      none_before n less = elim (cases_lt n from) [
        | inl h ↦ o.below n h
        | inr h ↦ o.above n h ∙ none_at start task kept is_kept n (next.least n h less)
      ]

      pub one_more : (after_it : ℕ) → after_it ≡ name + 1 → IsGoneOver start task after_it v
      one_more after_it is = record {
        bare = went.new;
        ends = ends_more start task o.bare name went.new goes o.ends;
        uses = name_uses start o.bare went.new task name stands o.ends o.uses goes;
        below = λ n less. elim (cases_lt n name) [
          | inl h ↦ stay n (λ same. omega (arith, same, h)) ∙ none_before n h
          | inr h ↦ let same : n ≡ name = omega (arith, less, is, h) in subst (λ (k : ℕ). entry_at went.new task k ≡ None) (sym same) went.gone
        ];
        above = λ n more. let before = next.from in stay n (λ same. omega (arith, same, more, is)) ∙ o.above n (omega (arith, more, is, before));
        closed = went.closed ∙ o.closed;
        rest = went.rest;
      }

    pub less_to_come : (after_it : ℕ) → after_it ≡ name + 1 → after_it < 2 ^ 32 → 2 ^ 32 - after_it < 2 ^ 32 - from
    less_to_come after_it is small = let before = next.from in omega (arith, is, small, before)

  -- ---- the end

  pub all_gone : ((n : ℕ) → from ≤ n → map.get kept.names n ≡ None) → HasNoNames o.bare task
  all_gone none n = elim (cases_lt n from) [
    | inl h ↦ o.below n h
    | inr h ↦ o.above n h ∙ none_at start task kept is_kept n (none n h)
  ]

  -- without its names the tables are those where each name went
  pub closed_bare : w ≡ record o.bare { spaces = slice_set o.bare.spaces task None }
  closed_bare = o.rest ∙ sym (ap (λ (xs : List (Option SpaceView)). record o.bare { spaces = xs }) o.closed)
