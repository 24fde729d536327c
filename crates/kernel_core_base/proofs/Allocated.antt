-- What is made under a name, and a right more of it.
use Rattle.std.proofs.Common.{◌≡◌, ℕ, ◌+◌, ◌-◌, ◌<◌, ◌≤◌, List, [], Option, Some, None, refl, sym, ap, subst, ◌∙◌, arith, ◌⊎◌, inl, inr, length}
use Rattle.std.specs.Prelude.{slice_set, is_some, max}
use Rattle.std.specs.Option.{option_and_then}
use Rattle.std.specs.FinMap as map
use Rattle.mach_types.specs.declared.calls.Event.{Event}
use Rattle.mach_types.specs.declared.calls.Reply.{Reply}
use Rattle.mach_types.specs.Numbers.{most_names, most_rights, most_identities}
use Rattle.mach_model.specs.State.{State, Target, with_name, gives}
use Rattle.mach_model.specs.Names.{Makes, with_set}
use Rattle.mach_model.specs.Refusals.{IsNoMaking, call_guards}
use Rattle.mach_model.specs.Room.{IsFull}
use Rattle.mach_model.specs.Acts.{Does}
use Rattle.mach_model.specs.Machine.{Judged}
use Rattle.mach_model.specs.Lawful.{IsLawful}
use Rattle.mach_model.proofs.Midway.{LosesNone}
use Rattle.rights.specs.declared.RightKind.TheVariants as right
use Rattle.rights.specs.Ledger.{entered, made}
use Rattle.name_space.specs.declared.Entry.{Entry}
use Rattle.name_space.specs.declared.Entry.TheVariants as entry
use Rattle.name_space.specs.Entry.{port_named}
use Rattle.name_space.specs.Names.{Names, SpaceView, IsFreshFor, IsUsable, HasPlace, HasNoOther, given_after}
use Rattle.port.specs.Ports.{PortsView, IsLive}
use Rattle.copyin_base.specs.Serving.{Completes, IsAllowed}
use Rattle.copyin_base.specs.Coming.{first_port}
use Rattle.copyin_base.specs.Changes.{MakesRoom, KeepsPlace, SameButNaming, SameButRoom, IsForLive, CanInsert, CanInsertFresh, InsertsEntry, InsertsFresh}
use Rattle.copyin_base.specs.Kept.{Kept}
use Rattle.copyin_base.specs.Worlds.{WorldView, entry_in, entry_at, space_at, with_space, HasTask, space_in}
use Rattle.copyin_base.specs.Shows.{Agrees, HoldersAgree, Shows}
use Rattle.copyin_base.specs.Stands.{Stands}
use Rattle.copyin_base.proofs.Acting.{Does-so, done}
use Rattle.copyin_base.proofs.Gets.{same_found, of_some}
use Rattle.copyin_base.proofs.Holders.{ReceivesAt, KeepHolders, same_holders, holders_added, holders_made}
use Rattle.copyin_base.proofs.NamesChanged.{added_agrees}
use Rattle.copyin_base.proofs.Roomier.{CountsName, room_made, place_kept, room_refl, room_entry, room_agrees, room_shows, naming_holders, naming_carriers, naming_slots, naming_requested, counted_naming, counted_agrees}
use Rattle.copyin_base.proofs.SendersNoted.{senders_same, senders_kept, naming_senders}
use Rattle.copyin_base.proofs.Spaces.{space-set_same, set-set}
use Rattle.copyin_base.proofs.Putting.{put_own}
use Rattle.copyin_base.proofs.FreshNames.{fresh_for, fresh_unused, fresh_has_room, can_count}
use Rattle.copyin_base.proofs.Idle.{none_lost_room}
use Rattle.kernel_core_base.specs.declared.names.NewRight.{NewRight}
use Rattle.kernel_core_base.specs.declared.names.NewRight.TheVariants as new_right
use Rattle.kernel_core_base.specs.Names.{right_made, entry_made, HasRoomFor, IsFullFor, HasRoomOf, IsFullOf, CanAdd, Adds, with_made, MakesRight}
use Rattle.kernel_core_base.proofs.MadeKept.{made_carriers, made_none_lost, made_requested, made_senders, room_senders}
use Rattle.kernel_core_base.proofs.TaskCreated.{allocated, allocates, allocated_agrees, not_made, unknown, set_agrees}
use Rattle.kernel_core_base.proofs.ReferencesLost.{made_slots}

-- ---- What is made under a name, in the tables and in the machine alike, and where nothing more can be.

-- ---- what can be made, and where it is full

pub is_making : (r : NewRight) → ¬ (IsNoMaking (right_made r))
is_making new_right.Port h = h.0 refl
is_making new_right.Set h = h.1 refl
is_making new_right.DeadName h = h.2 refl

-- what is full of the tables is full of the state
full_for : (w : WorldView) (s : State) → Agrees w s → (task : ℕ) (r : NewRight) → IsFullFor w r → IsFull s task (right_made r)
full_for w s a task new_right.Port (inl many) = inr (inl (refl, inl (let t = a.total in omega (arith, t, many))))
full_for w s a task new_right.Port (inr many) = inr (inl (refl, inr (let t = a.ports_made in omega (arith, t, many))))
full_for w s a task new_right.Set many = inr (inr (refl, let t = a.sets_made in omega (arith, t, many)))
full_for w s a task new_right.DeadName f = absurd f

pub full : (w : WorldView) (s : State) → Agrees w s → (task : ℕ) (r : NewRight) → IsFullOf w task r → IsFull s task (right_made r)
full w s a task r f = grind (arith, full_for)

not_full_for : (w : WorldView) (s : State) → Agrees w s → (r : NewRight) → HasRoomFor w r →
    ¬ ((right_made r ≡ 1) × ((most_rights ≤ length s.ledger) ⊎ (most_identities ≤ s.ports_made)) ⊎ (right_made r ≡ 3) × (most_identities ≤ s.sets_made))
not_full_for w s a new_right.Port has (inl (is, inl many)) = let t = a.total in let few = has.0 in omega (arith, t, many, few)
not_full_for w s a new_right.Port has (inl (is, inr many)) = let t = a.ports_made in let ids = has.1 in omega (arith, t, many, ids)
not_full_for w s a new_right.Set has (inr (is, many)) = let t = a.sets_made in omega (arith, t, many, has)
not_full_for w s a new_right.Port has (inr (is, many)) = omega (arith, is)
not_full_for w s a new_right.Set has (inl (is, many)) = omega (arith, is)
not_full_for w s a new_right.DeadName has (inl (is, many)) = omega (arith, is)
not_full_for w s a new_right.DeadName has (inr (is, many)) = omega (arith, is)

pub not_full : (w : WorldView) (s : State) → Agrees w s → (task : ℕ) (r : NewRight) → HasRoomOf w task r → ¬ (IsFull s task (right_made r))
not_full w s a task r has (inl many) = let n = a.names_kept task has.space has.there in let room = has.room in omega (arith, n, many, room)
not_full w s a task r has (inr more) = not_full_for w s a r has.more more

-- ---- what may stand under the name

-- no name is for the next port
apart : (w : WorldView) → Stands w → (task : ℕ) (space : SpaceView) → space_at w task ≡ Some space → (r : NewRight) → HasNoOther space.names (entry_made w r)
apart w stands task space there new_right.Port p n named is = go (map.get space.names n) refl is
  where
    go : (o : Option Entry) → map.get space.names n ≡ o → option_and_then port_named o ≡ Some p → ⊥
    go None e is = cc
    go (Some x) e is = not_made w stands.state stands.shown.agrees stands.shown.lawful task n x p (ap (λ (o : Option SpaceView). entry_in o n) there ∙ e) is
        (let same : w.ports.made ≡ p = same_found (Some w.ports.made) w.ports.made p refl named in sym same ∙ stands.shown.agrees.ports_made)
apart w stands task space there new_right.Set p n named is = absurd (cc)
apart w stands task space there new_right.DeadName p n named is = absurd (cc)

can_add : (w : WorldView) → Stands w → (task : ℕ) (r : NewRight) (name : ℕ) → (has : HasRoomOf w task r) → IsUsable name → entry_at w task name ≡ None → HasPlace has.space name → CanAdd w task r name
can_add w stands task r name has usable unused place = record {
  has = has;
  usable = usable;
  place = place;
  unused = sym (ap (λ (o : Option SpaceView). entry_in o name) has.there) ∙ unused;
  unknown = unknown w stands.state stands.shown.agrees stands.shown.lawful;
  apart = apart w stands task has.space has.there r;
}

-- ---- once a place was made for the name

room_for : (w : WorldView) (spaces : List (Option SpaceView)) (r : NewRight) → HasRoomFor w r → HasRoomFor (record w { spaces = spaces }) r
room_for w spaces new_right.Port has = has
room_for w spaces new_right.Set has = has
room_for w spaces new_right.DeadName has = has

module _ (w w1 : WorldView) (task : ℕ) (r : NewRight) (has : HasRoomOf w task r) (space placed : SpaceView) (there : space_at w task ≡ Some space) (names : placed.names ≡ space.names)
    (rest : w1 ≡ record w { spaces = slice_set w.spaces task (Some placed) }) where
  has_still : HasRoomOf w1 task r
  has_still =
      let same : has.space ≡ space = same_found (space_at w task) has.space space has.there there in
      record {
        space = placed;
        there = ap (λ (x : WorldView). space_at x task) rest ∙ space-set_same w.spaces task placed space there;
        room = subst (λ (m : Names). map.len m < most_names) (ap (λ (x : SpaceView). x.names) same ∙ sym names) has.room;
        more = subst (λ (x : WorldView). HasRoomFor x r) (sym rest) (room_for w (slice_set w.spaces task (Some placed)) r has.more);
      }

stands_still : (w w1 : WorldView) → SameButRoom w w1 → Stands w → Stands w1
stands_still w w1 same stands = record { state = stands.state; shown = room_shows w w1 stands.state same stands.shown }

pub can_add_fresh : (w w1 : WorldView) → Stands w → (task : ℕ) (r : NewRight) (name : ℕ) → HasRoomOf w task r → MakesRoom w task 1 w1 → (space : SpaceView) → space_at w1 task ≡ Some space →
    IsFreshFor space name → IsUsable name → CanAdd w1 task r name
unfolding has_still
can_add_fresh w w1 stands task r name has m space there fresh usable =
    let roomy : SpaceView = record m.space { room = max m.space.room 1 } in
    let still : HasRoomOf w1 task r = has_still w w1 task r has m.space roomy m.there refl m.rest in
    let same : space ≡ roomy = same_found (space_at w1 task) space roomy there still.there in
    can_add w1 (stands_still w w1 (room_made w w1 task 1 m) stands) task r name still usable
    (ap (λ (o : Option SpaceView). entry_in o name) there ∙ fresh_unused space.given space name fresh)
    (inl (fresh_has_room roomy.given roomy name (subst (λ (x : SpaceView). IsFreshFor x name) same fresh) (omega arith)))

-- there is room for the names that a right needs
pub not_full_roomy : (w w1 : WorldView) (task : ℕ) (r : NewRight) → HasRoomOf w task r → MakesRoom w task 1 w1 → (space : SpaceView) → space_at w1 task ≡ Some space → map.len space.names < most_names
unfolding has_still
not_full_roomy w w1 task r has m space there =
    let roomy : SpaceView = record m.space { room = max m.space.room 1 } in
    let still : HasRoomOf w1 task r = has_still w w1 task r has m.space roomy m.there refl m.rest in
    subst (λ (x : SpaceView). map.len x.names < most_names) (same_found (space_at w1 task) still.space space still.there there) still.room

-- room was made for the name
pub room_roomy : (w w1 : WorldView) (task : ℕ) → MakesRoom w task 1 w1 → (space : SpaceView) → space_at w1 task ≡ Some space → 0 < space.room
room_roomy w w1 task m space there =
    let roomy : SpaceView = record m.space { room = max m.space.room 1 } in
    let at : space_at w1 task ≡ Some roomy = ap (λ (x : WorldView). space_at x task) m.rest ∙ space-set_same w.spaces task roomy m.space m.there in
    let same : space.room ≡ max m.space.room 1 = ap (λ (x : SpaceView). x.room) (same_found (space_at w1 task) space roomy there at) in
    omega arith

pub can_add_kept : (w w1 : WorldView) → Stands w → (task : ℕ) (r : NewRight) (name : ℕ) → HasRoomOf w task r → KeepsPlace w task name w1 → IsUsable name → entry_at w task name ≡ None → CanAdd w1 task r name
unfolding has_still
can_add_kept w w1 stands task r name has m usable unused =
    let same : SameButRoom w w1 = place_kept w w1 task name m in
    can_add w1 (stands_still w w1 same stands) task r name (has_still w w1 task r has m.space (record m.space { kept = Some name }) m.there refl m.rest) usable
    (room_entry w w1 same task name ∙ unused) (inr refl)

-- ---- what is made

abbrev pub with_right : NewRight → State → (task name : ℕ) → State
with_right new_right.Port s task name = allocated s task name
with_right new_right.Set s task name = with_set task name s
with_right new_right.DeadName s task name = with_name task name (Target.dead 1) s

-- to count the name changes nothing of what is made
given_right : (r : NewRight) (s : State) (task name : ℕ) → with_right r (gives task name s) task name ≡ gives task name (with_right r s task name)
given_right new_right.Port s task name = refl
given_right new_right.Set s task name = refl
given_right new_right.DeadName s task name = refl

pub makes : (r : NewRight) (s : State) (task name : ℕ) → Makes task (right_made r) name s (with_right r s task name)
makes new_right.Port s task name = inl (refl, allocates s task name)
makes new_right.Set s task name = inr (inl (refl, refl))
makes new_right.DeadName s task name = inr (inr (refl, refl))

-- the tables with a new port of this number
abbrev with_number : WorldView → (task name : ℕ) → SpaceView → (room p : ℕ) → WorldView
with_number w task name space room p = record w {
  spaces = slice_set w.spaces task (Some (record space { names = map.insert space.names name (entry.Receive p); room = room }));
  ports = record w.ports { ports = map.insert w.ports.ports p (first_port task); made = w.ports.made + 1 };
  ledger = made (entered w.ledger p) p right.Receive 1;
}

-- the tables with a new set of this number
abbrev with_set_number : WorldView → (task name : ℕ) → SpaceView → (room set : ℕ) → WorldView
with_set_number w task name space room set = record w {
  spaces = slice_set w.spaces task (Some (record space { names = map.insert space.names name (entry.Set set); room = room }));
  sets = record { sets = map.insert w.sets.sets set (record { owner = task; name = name }); made = w.sets.made + 1 };
}

-- the names with this under one more
abbrev with_entry : SpaceView → (name : ℕ) → Entry → SpaceView
with_entry space name e = record space { names = map.insert space.names name e; room = space.room - 1 }

module _ (w v : WorldView) (s : State) (a : Agrees w s) (l : IsLawful s) (task name : ℕ) (unused : entry_at w task name ≡ None) where
  free : (x : SpaceView) → space_at w task ≡ Some x → map.get x.names name ≡ None
  free x is = sym (ap (λ (o : Option SpaceView). entry_in o name) is) ∙ unused

  same_ports : v.ports ≡ w.ports → KeepHolders w.ports.ports v.ports.ports
  same_ports same = subst (λ (x : PortsView Kept). KeepHolders w.ports.ports x.ports) (sym same) (same_holders w.ports.ports)

  pub made_agrees : (r : NewRight) → Adds w task r name v → Agrees v (with_right r s task name)
  made_agrees new_right.Port adds =
      subst (λ (x : WorldView). Agrees x (allocated s task name)) (ap (with_number w task name adds.space (adds.space.room - 1)) (sym a.ports_made) ∙ sym adds.rest)
      (allocated_agrees w s a l task name adds.space (adds.space.room - 1) adds.there (free adds.space adds.there))
  made_agrees new_right.Set adds =
      subst (λ (x : WorldView). Agrees x (with_set task name s)) (ap (with_set_number w task name adds.space (adds.space.room - 1)) (sym a.sets_made) ∙ sym adds.rest)
      (set_agrees w s a task name adds.space (adds.space.room - 1) adds.there (free adds.space adds.there))
  made_agrees new_right.DeadName adds =
      subst (λ (x : WorldView). Agrees x (with_name task name (Target.dead 1) s)) (sym adds.rest)
      (added_agrees w s a task adds.space adds.there name (entry.DeadName 1) (adds.space.room - 1) (free adds.space adds.there) refl tt)

  -- no task has the receive right of a port that isn't made yet
  nobody : (u : ℕ) → ReceivesAt w u w.ports.made → ⊥
  nobody u r = not_made w s a l u r.name r.entry w.ports.made r.found r.named a.ports_made

  pub made_holders : (r : NewRight) → Adds w task r name v → HoldersAgree w → HoldersAgree v
  made_holders new_right.Port adds h = holders_made w v h task adds.space (with_entry adds.space name (entry.Receive w.ports.made)) adds.there (ap (λ (x : WorldView). x.spaces) adds.rest)
      w.ports.made name (first_port task) refl (ap (λ (x : WorldView). x.ports.ports) adds.rest) refl nobody
  made_holders new_right.Set adds h = grind (arith, holders_added, same_ports)
  made_holders new_right.DeadName adds h = grind (arith, holders_added, same_ports)

-- ---- what Allocate and AllocateName promise

module _ (w w1 v : WorldView) (same : SameButRoom w w1) (task number name : ℕ) (r : NewRight) (below : HasTask w task) (is : right_made r ≡ number) where
  makes_number : (s : State) → Makes task number name s (with_right r s task name)
  makes_number s = subst (λ (n : ℕ). Makes task n name s (with_right r s task name)) is (makes r s task name)

  -- it is made once room was, and its name may be counted then
  module _ (event : Event) (now : ℕ) (s : State) (sh : Shows w s) (unused : entry_at w1 task name ≡ None) (adds : Adds w1 task r name v) where
    abbrev here : Shows w1 s
    here = room_shows w w1 s same sh

    pub added_agrees_now : Agrees v (with_right r s task name)
    added_agrees_now = made_agrees w1 v s here.agrees here.lawful task name unused r adds

    pub makes_so : (v2 : WorldView) → SameButNaming v v2 → (mid : State) → Agrees v2 mid → (does : Does now s event (Reply.Name name) mid []) → Judged now s event (Reply.Name name) mid [] does →
        LosesNone s event (Reply.Name name) → Does-so w event (Reply.Name name) v2 now s
    makes_so v2 counted mid agrees does judged none =
        let requested = made_requested w1 v task name here.requested r adds unused in record {
          mid = mid;
          owed = [];
          does = does;
          judged = judged;
          loses_none = none;
          none_owed = refl;
          agrees = agrees;
          holders = naming_holders v v2 counted (made_holders w1 v s here.agrees here.lawful task name unused r adds here.holders);
          carriers = naming_carriers v v2 counted (made_carriers w1 v task name r adds here.carriers);
          slots = naming_slots v v2 counted (made_slots w1 v here.slots task name r adds);
          requested = naming_requested v v2 counted requested;
          notes = senders_kept w v v2 (senders_kept w w1 v (senders_kept w w w1 (senders_same w sh.idle.noted) (room_senders w w1 same sh.requested))
              (made_senders w1 v task name here.requested r adds (unknown w1 s here.agrees here.lawful))) (naming_senders v v2 counted requested);
          none_lost = none_lost_room v v2 (made_none_lost w1 v task name r adds here.idle.none_lost) counted;
        }

  pub allocate_done : IsAllowed w (λ s. call_guards s (Event.Allocate task number)) → (space : SpaceView) → space_at w1 task ≡ Some space → IsFreshFor space name → Adds w1 task r name v →
      (v2 : WorldView) → CountsName v task name v2 → Completes w (Event.Allocate task number) (Reply.Name name) v2
  allocate_done good space there f adds v2 counts = done w (Event.Allocate task number) (Reply.Name name) v2 below good
      (λ now s sh.
      let unused = ap (λ (o : Option SpaceView). entry_in o name) there ∙ fresh_unused space.given space name f in
      makes_so (Event.Allocate task number) now s sh unused adds v2 (counted_naming v v2 task name counts) (gives task name (with_right r s task name))
      (counted_agrees v v2 task name counts (with_right r s task name) (added_agrees_now (Event.Allocate task number) now s sh unused adds))
      (fresh_for w1 s (room_agrees w w1 s same sh.agrees) task space there name f, subst (Makes task number name (gives task name s)) (given_right r s task name) (makes_number (gives task name s)), refl) tt tt)

  pub allocate_name_done : IsAllowed w (λ s. call_guards s (Event.AllocateName task number name)) → entry_at w task name ≡ None → Adds w1 task r name v →
      Completes w (Event.AllocateName task number name) (Reply.Name name) v
  allocate_name_done good unused adds = done w (Event.AllocateName task number name) (Reply.Name name) v below good
      (λ now s sh. let free = room_entry w w1 same task name ∙ unused in
      makes_so (Event.AllocateName task number name) now s sh free adds v (room_refl v).naming (with_right r s task name) (added_agrees_now (Event.AllocateName task number name) now s sh free adds) (refl, makes_number s, refl) tt tt)

-- ---- One right more, named by the task: what is made, and its name put together.

-- what is made has no part in the names
same_spaces : (w : WorldView) (task : ℕ) (r : NewRight) (name : ℕ) → (with_made w task r name).spaces ≡ w.spaces
same_spaces w task new_right.Port name = refl
same_spaces w task new_right.Set name = refl
same_spaces w task new_right.DeadName name = refl

-- a port that is made is there
is_there : (w : WorldView) (task : ℕ) (r : NewRight) (name : ℕ) → IsForLive (with_made w task r name) (entry_made w r)
is_there w task new_right.Port name p for = of_some w.ports.made (IsLive (with_made w task new_right.Port name).ports) (ap is_some (put_own w.ports.ports w.ports.made (Some (first_port task)))) p for
is_there w task new_right.Set name p for = absurd (let f : None ≡ Some p = for in cc)
is_there w task new_right.DeadName name p for = absurd (let f : None ≡ Some p = for in cc)

module _ (w w2 : WorldView) (task name : ℕ) (r : NewRight) (e : Entry) (can : CanAdd w task r name) (made : MakesRight w task r name e w2) where
  there : space_at w2 task ≡ Some can.has.space
  there = ap (λ (x : WorldView). space_at x task) made.rest ∙ ap (λ (xs : List (Option SpaceView)). space_in xs task) (same_spaces w task r name) ∙ can.has.there

  pub can_insert : CanInsert w2 task name e
  can_insert = record {
    space = can.has.space;
    there = there;
    usable = can.usable;
    unused = can.unused;
    few = can.has.room;
    place = can.place;
    apart = subst (HasNoOther can.has.space.names) (sym made.made) can.apart;
    lives = subst (λ (x : WorldView). IsForLive x e) (sym made.rest) (subst (IsForLive (with_made w task r name)) (sym made.made) (is_there w task r name));
  }

  -- it can come under a fresh name, in room
  pub can_insert_fresh : (space : SpaceView) → space_at w task ≡ Some space → IsFreshFor space name → name < 16777216 → 0 < space.room → CanInsertFresh w2 task name e
  unfolding can_insert
  can_insert_fresh space found fresh small some =
      let same : space ≡ can.has.space = same_found (space_at w task) space can.has.space found can.has.there in
      let own : IsFreshFor can.has.space name = subst (λ (x : SpaceView). IsFreshFor x name) same fresh in
      let room : 0 < can.has.space.room = subst (λ (x : SpaceView). 0 < x.room) same some in
      record { can = can_insert; room = fresh_has_room can.has.space.given can.has.space name own room; counts = can_count can.has.space.given can.has.space name own small room }

  pub adds : (w3 : WorldView) → InsertsEntry w2 task name e w3 → Adds w task r name w3
  adds w3 i =
      let at : i.space ≡ can.has.space = same_found (space_at w2 task) i.space can.has.space i.there there in
      record {
        space = can.has.space;
        there = can.has.there;
        rest = i.rest ∙ (λ k. record (made.rest k) { spaces = slice_set (made.rest k).spaces task (Some (record (at k) { names = map.insert (at k).names name (made.made k); room = (at k).room - 1 })) })
            ∙ ap (λ (xs : List (Option SpaceView)). record (with_made w task r name) { spaces = slice_set xs task (Some (record can.has.space { names = map.insert can.has.space.names name (entry_made w r); room = can.has.space.room - 1 })) })
            (same_spaces w task r name);
      }

  -- what comes under a fresh name is added, and the name counted
  pub adds_fresh : (w3 : WorldView) → InsertsFresh w2 task name e w3 → (v : WorldView) × Adds w task r name v × CountsName v task name w3
  adds_fresh w3 i =
      let put : SpaceView = record i.space { names = map.insert i.space.names name e; room = i.space.room - 1 } in
      let v : WorldView = with_space w2 task put in (
        v,
        adds v record { space = i.space; there = i.there; rest = refl },
        record {
          space = put;
          there = space-set_same w2.spaces task put i.space i.there;
          rest = i.rest ∙ sym (ap (λ (xs : List (Option SpaceView)). record w2 { spaces = xs }) (set-set w2.spaces task (Some put) (Some (record put { given = given_after put.given name }))));
        },
      )
