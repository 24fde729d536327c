-- A receipt: where it takes from, and that it is refused in each state that the tables show, or done.
use Rattle.std.proofs.Common.{◌≡◌, ℕ, zero, suc, ◌<◌, ◌≤◌, List, [], ◌∷◌, ◌++◌, Some, None, refl, sym, ap, subst, ◌∙◌, ◌⊎◌, inl, inr, length, true, false, Bool, arith}
use Rattle.std.specs.Prelude.{◌≢◌, is_some, min, Contains, Option, MatchBool, MatchOption}
use Rattle.std.specs.Option.{option_map, option_and_then, option_to_list}
use Rattle.std.specs.FinMap as map
use Rattle.mach_types.specs.declared.calls.Event.{Event}
use Rattle.mach_types.specs.declared.calls.Reply.{Reply}
use Rattle.mach_types.specs.declared.calls.Waited.{Waited}
use Rattle.mach_types.specs.declared.codes.MsgReturn.TheVariants.{ReceiveInvalidName, ReceiveInSet, ReceivePortDied, ReceivePortChanged, ReceiveBodyErrorNames, ReceiveBodyErrorMemory}
use Rattle.mach_types.specs.Guards.{NoneHolds}
use Rattle.mach_types.specs.Messages.{Entry as LogEntry}
use Rattle.mach_types.specs.Numbers.{most_bytes}
use Rattle.mach_types.specs.Codes.{msg_number}
use Rattle.mach_types.specs.Tokens.{receive}
use Rattle.mach_model.specs.State.{State, Target, lookup, held, Holds}
use Rattle.mach_model.specs.NameGuards.{NamesReceive, IsSet}
use Rattle.mach_model.specs.Acts.{Does}
use Rattle.mach_model.specs.ReceivedMeans.{message_length}
use Rattle.mach_model.specs.Receive.{TakesFrom, IsEmptyFor, Receipt}
use Rattle.mach_model.specs.Lawful.{IsLawful}
use Rattle.mach_model.specs.Refusals.{again_guards, call_guards, guards}
use Rattle.mach_model.specs.Machine.{Judged}
use Rattle.mach_model.proofs.MessagesLawful.{Receives-removes}
use Rattle.mach_model.proofs.StepLawful.{TakesFrom-live, Does-mid}
use Rattle.mach_laws.specs.Counts.{takes_from as messages_taken}
use Rattle.name_space.specs.declared.Entry.{Entry}
use Rattle.name_space.specs.declared.Entry.TheVariants as entry
use Rattle.name_space.specs.Entry.{port_named, has_receive, receive_named, set_named}
use Rattle.port.specs.Ports.{PortView}
use Rattle.port.specs.declared.Attributes.{Attributes}
use Rattle.port_set.specs.declared.SetRecord.{SetRecord}
use Rattle.copyin_base.specs.Serving.{IsDone, Declines, IsRefused, IsAllowed}
use Rattle.copyin_base.specs.Changes.{MakesRoom, HasAttributes, SameButRoom}
use Rattle.copyin_base.specs.Finds.{FindsReceive}
use Rattle.copyin_base.specs.Kept.{Kept}
use Rattle.copyin_base.specs.Shows.{target_of, Shows}
use Rattle.copyin_base.specs.Stands.{Stands}
use Rattle.copyin_base.specs.Worlds.{WorldView, entry_at, port_at, HasTask}
use Rattle.copyin_base.proofs.Acting.{tasks_live, refused, refused_later, none_left, makes_none}
use Rattle.copyin_base.proofs.Told.{port_of, receive_has, unused, found, names_port, holds_receive, names_receive, not_receive, receive_lives, port_there, among_tasks}
use Rattle.copyin_base.proofs.Gets.{seen}
use Rattle.copyin_base.proofs.Roomier.{room_made, room_entry, room_shows}
use Rattle.copyin_base.proofs.SendersNoted.{senders_same}
use Rattle.copyout.specs.Ready.{HasFront, Waits, carried_by}
use Rattle.copyout.specs.Giving.{LackNames}
use Rattle.copyout.specs.Takes.{TakesMessage, NotesFront}
use Rattle.copyout.proofs.Fronts.{notes_roomier, shown_empty, shown_front, shown_is_front, refuses_names, refuses_memory, receipt_large, kept_length, waits}
use Rattle.copyout.proofs.FrontTaken.{message_received}
use Rattle.notifications.specs.Destroying.{DestroysMessage, CanDestroy}
use Rattle.notifications.proofs.MessageDestroyed.{can_destroy, message_destroyed}
use Rattle.kernel_core.proofs.Freed.{destroyed_sends, front_same}
use Rattle.kernel_core.specs.InTurn.{IsFirst, source_of, source, TakesByTurn, CompletesInTurn}
use Rattle.kernel_core.specs.Receive.{named_guards, Sources, IsMember, IsAlone, IsOf, IsFrom, HasMessage, NoneWaits, taken_by, ReceiptOf, IsReceipt, StaysFor, waited_at}
use Rattle.kernel_core.proofs.Taking.{named_takes, again_takes, message_one, destroyed_one, source_first}
use Rattle.receive_right.proofs.Holding.{held_lives, one_true}
use Rattle.transfer.proofs.Judged.{not_not}

-- ---- what isn't otherwise

not_zero : (n : ℕ) → ¬ (¬ (0 < n)) → 0 < n
not_zero zero h = absurd (h (λ x. omega (arith, x)))
not_zero (suc n) h = omega arith

not_some : (xs : List ℕ) → ¬ (xs ≢ []) → xs ≡ []
not_some [] h = refl
not_some (x ∷ xs) h = absurd (h (λ e. cc))

-- ---- entries

pub receive_of : (e : Entry) (p : ℕ) → port_named e ≡ Some p → has_receive e ≡ true → receive_named e ≡ Some p
receive_of (entry.Receive q) p is has = is
receive_of (entry.Send q n) p is has = absurd (cc)
receive_of (entry.ReceiveAndSend q n) p is has = is
receive_of (entry.SendOnce q) p is has = absurd (cc)
receive_of (entry.DeadName n) p is has = absurd (cc)
receive_of (entry.Set q) p is has = absurd (cc)

set_target : (e : Entry) (set : ℕ) → set_named e ≡ Some set → target_of e ≡ Target.set set
set_target (entry.Set q) set is = let f : q ≡ set = cc in ap Target.set f
set_target (entry.Receive q) set is = absurd (cc)
set_target (entry.Send q n) set is = absurd (cc)
set_target (entry.ReceiveAndSend q n) set is = absurd (cc)
set_target (entry.SendOnce q) set is = absurd (cc)
set_target (entry.DeadName n) set is = absurd (cc)

not_set : (e : Entry) → set_named e ≡ None → IsSet (Some (target_of e)) → ⊥
not_set (entry.Set q) is h = cc
not_set (entry.Receive q) is h = h
not_set (entry.Send q n) is h = h
not_set (entry.ReceiveAndSend q n) is h = h
not_set (entry.SendOnce q) is h = h
not_set (entry.DeadName n) is h = h

-- ---- whether a port is in a set

module _ (w : WorldView) (port : ℕ) (attributes : Attributes) (h : HasAttributes w port attributes) where
  sets_are : (s : State) → Shows w s → option_to_list attributes.set ++ h.v.more ≡ s.sets_of port
  sets_are s sh = ap (λ (a : Attributes). option_to_list a.set ++ h.v.more) (sym h.are) ∙ (sh.agrees.ports port h.v h.there).sets

  some_first : (o : Option ℕ) (more : List ℕ) → is_some o ≡ true → option_to_list o ++ more ≢ []
  some_first None more is e = absurd (cc)
  some_first (Some set) more is e = let f : set ∷ more ≡ [] = e in cc

  none_first : (o : Option ℕ) (more : List ℕ) → is_some o ≡ false → (o ≡ None → more ≡ []) → option_to_list o ++ more ≡ []
  none_first None more is none = none refl
  none_first (Some set) more is none = absurd (cc)

  pub member_or_not : (b : Bool) → b ≡ is_some attributes.set → MatchBool b (IsMember w port) (IsAlone w port)
  member_or_not true e = record { some = λ s sh none. some_first attributes.set h.v.more (sym e) (sets_are s sh ∙ none) }
  member_or_not false e = record { none = λ s sh. sym (sets_are s sh) ∙ none_first attributes.set h.v.more (sym e) h.none }

-- ---- by a name

module _ (w : WorldView) (task name : ℕ) where
  pub none_named : entry_at w task name ≡ None → IsRefused w (λ s. named_guards s task name) (msg_number ReceiveInvalidName)
  none_named e = record { refused = λ s sh. inl (no_source s sh, refl) }
    where
      no_source : (s : State) → Shows w s → NamesReceive s task name ⊎ IsSet (lookup s task name) → ⊥
      no_source s sh (inl h) = let f : None ≡ Some (Target.port h.0) = sym (unused w s sh.agrees task name e) ∙ h.1 in cc
      no_source s sh (inr h) = subst IsSet (unused w s sh.agrees task name e) h

  module _ (e : Entry) (is : entry_at w task name ≡ Some e) where
    pub no_source : set_named e ≡ None → receive_named e ≡ None → IsRefused w (λ s. named_guards s task name) (msg_number ReceiveInvalidName)
    no_source no_set no_port = record { refused = λ s sh. inl (neither s sh, refl) }
      where
        neither : (s : State) → Shows w s → NamesReceive s task name ⊎ IsSet (lookup s task name) → ⊥
        neither s sh (inl h) = not_receive w s sh.agrees task name e is no_port h
        neither s sh (inr h) = not_set e no_set (subst IsSet (found w s sh.agrees task name e is) h)

    pub set_sources : (set : ℕ) → set_named e ≡ Some set → Sources w task name (Waited.Set set)
    set_sources set named = record {
      waits = at;
      unrefused = λ s sh.
          let own : s.set_owner set ≡ Some task = sh.lawful.set_owned task name set (at s sh) in
          ((λ gone. let f : None ≡ Some task = sym gone ∙ own in cc), ((λ other. other own), tt));
    }
      where
        at : (s : State) → Shows w s → lookup s task name ≡ Some (Target.set set)
        at s sh = found w s sh.agrees task name e is ∙ ap (λ (t : Target). Some t) (set_target e set named)

    module _ (port : ℕ) (named : receive_named e ≡ Some port) where
      -- the port is there
      pub source_there : Stands w → is_some (port_at w port) ≡ true
      source_there stands = stands.shown.agrees.live_port port ∙ receive_lives w stands.state stands.shown.agrees stands.shown.lawful task name e port is named

      pub in_set_refused : IsMember w port → IsRefused w (λ s. named_guards s task name) (msg_number ReceiveInSet)
      in_set_refused member = record {
        refused = λ s sh. inr ((λ not. not (inl (names_receive w s sh.agrees task name e port is named))), inl ((port, names_port w s sh.agrees task name e port is named, member.some s sh), refl));
      }

      pub port_sources : IsAlone w port → Sources w task name (Waited.Port port)
      port_sources alone = record {
        waits = λ s sh. (names_port w s sh.agrees task name e port is named, holds_receive w s sh.agrees task name e port is named);
        unrefused = λ s sh. (
          (λ dead. let f : true ≡ false = sym (receive_lives w s sh.agrees sh.lawful task name e port is named) ∙ dead in cc),
          (changed s sh, tt),
        );
      }
        where
          changed : (s : State) → Shows w s → ¬ (Holds s task receive port) ⊎ (s.sets_of port ≢ []) → ⊥
          changed s sh (inl not) = not (holds_receive w s sh.agrees task name e port is named)
          changed s sh (inr some) = some (alone.none s sh)

  -- a name that stands for what may be received from is refused by no guard
  pub sources_good : (waited : Waited) → Sources w task name waited → IsAllowed w (λ s. named_guards s task name)
  sources_good (Waited.Port p) x = record { allowed = λ s sh. ((λ not. not (inl (p, (x.waits s sh).0, (x.waits s sh).1))), ((λ h. out s sh h), tt)) }
    where
      out : (s : State) → Shows w s → ((q : ℕ) × (lookup s task name ≡ Some (Target.port q)) × (s.sets_of q ≢ [])) → ⊥
      out s sh (q, named, some) =
          let same : p ≡ q = one_port p q (sym (x.waits s sh).0 ∙ named) in
          (x.unrefused s sh).1.0 (inr (subst (λ (n : ℕ). s.sets_of n ≢ []) (sym same) some))
        where
          one_port : (p q : ℕ) → Some (Target.port p) ≡ Some (Target.port q) → p ≡ q
          one_port p q e = let f : Target.port p ≡ Target.port q = cc in cc
  sources_good (Waited.Set set) x = record {
    allowed = λ s sh. ((λ not. not (inr (subst IsSet (sym (x.waits s sh)) tt))), ((λ h. let f : Some (Target.set set) ≡ Some (Target.port h.0) = sym (x.waits s sh) ∙ h.1 in no_port set h.0 f), tt));
  }
    where
      no_port : (set p : ℕ) → Some (Target.set set) ≡ Some (Target.port p) → ⊥
      no_port set p e = let f : Target.set set ≡ Target.port p = cc in cc

-- ---- by identity

module _ (w : WorldView) (task : ℕ) where
  pub port_gone : (port : ℕ) → is_some (port_at w port) ≡ false → IsRefused w (λ s. again_guards s task (Waited.Port port)) (msg_number ReceivePortDied)
  port_gone port e = record { refused = λ s sh. inl (sym (sh.agrees.live_port port) ∙ e, refl) }

  pub set_gone : (set : ℕ) → map.get w.sets.sets set ≡ None → IsRefused w (λ s. again_guards s task (Waited.Set set)) (msg_number ReceivePortDied)
  set_gone set e = record { refused = λ s sh. inl (sh.agrees.set_owner set ∙ ap (option_map (λ (r : SetRecord). r.owner)) e, refl) }

  module _ (set : ℕ) (r : SetRecord) (is : map.get w.sets.sets set ≡ Some r) where
    owner : (s : State) → Shows w s → s.set_owner set ≡ Some r.owner
    owner s sh = sh.agrees.set_owner set ∙ ap (option_map (λ (r : SetRecord). r.owner)) is

    not_gone : (s : State) → Shows w s → ¬ (s.set_owner set ≡ None)
    not_gone s sh none = let f : None ≡ Some r.owner = sym none ∙ owner s sh in cc

    pub set_of_another : r.owner ≢ task → IsRefused w (λ s. again_guards s task (Waited.Set set)) (msg_number ReceivePortChanged)
    set_of_another not = record { refused = λ s sh. inr (not_gone s sh, inl ((λ own. not (let f : Some r.owner ≡ Some task = sym (owner s sh) ∙ own in cc)), refl)) }

    pub set_allowed : r.owner ≡ task → IsAllowed w (λ s. again_guards s task (Waited.Set set))
    set_allowed same = record { allowed = λ s sh. (not_gone s sh, ((λ other. other (owner s sh ∙ ap Some same)), tt)) }

  module _ (port : ℕ) where
    -- what the task holds is found in the tables
    pub held_finds : (s : State) → Shows w s → Holds s task receive port → (name : ℕ) × FindsReceive w task name port
    held_finds s sh holds = let n = (sh.lawful.naming task).is_named port (omega (arith, holds)) in (n.0, go n.0 (seen (entry_at w task n.0)) n.1)
      where
        the_same : (x y : Target) → Some x ≡ Some y → x ≡ y
        the_same x y e = cc

        go : (name : ℕ) → ((x : Entry) × (entry_at w task name ≡ Some x)) ⊎ (entry_at w task name ≡ None) → lookup s task name ≡ Some (Target.port port) → FindsReceive w task name port
        go name (inr none) is = absurd (let f : None ≡ Some (Target.port port) = sym (unused w s sh.agrees task name none) ∙ is in cc)
        go name (inl (x, e)) is =
            let named = port_of x port (the_same (target_of x) (Target.port port) (sym (found w s sh.agrees task name x e) ∙ is)) in
            let r = (sh.agrees.references task name x port e named).0 in
            record { entry = x; found = e; named = receive_of x port named (one_true (has_receive x) (omega (arith, holds, r))) }

    module _ (there : is_some (port_at w port) ≡ true) where
      alive : (s : State) → Shows w s → ¬ (s.live_port port ≡ false)
      alive s sh dead = let f : true ≡ false = sym there ∙ sh.agrees.live_port port ∙ dead in cc

      pub port_of_another : ¬ ((name : ℕ) × FindsReceive w task name port) → IsRefused w (λ s. again_guards s task (Waited.Port port)) (msg_number ReceivePortChanged)
      port_of_another not = record { refused = λ s sh. inr (alive s sh, inl (inl (λ holds. not (held_finds s sh holds)), refl)) }

      pub port_in_set : IsMember w port → IsRefused w (λ s. again_guards s task (Waited.Port port)) (msg_number ReceivePortChanged)
      port_in_set member = record { refused = λ s sh. inr (alive s sh, inl (inr (member.some s sh), refl)) }

      pub port_allowed : (name : ℕ) → FindsReceive w task name port → IsAlone w port → IsAllowed w (λ s. again_guards s task (Waited.Port port))
      port_allowed name f alone = record { allowed = λ s sh. (alive s sh, (changed s sh, tt)) }
        where
          changed : (s : State) → Shows w s → ¬ (Holds s task receive port) ⊎ (s.sets_of port ≢ []) → ⊥
          changed s sh (inl not) = not (holds_receive w s sh.agrees task name f.entry port f.found f.named)
          changed s sh (inr some) = some (alone.none s sh)

-- ---- a receipt from what the task may take from

module _ (w : WorldView) (s : State) (sh : Shows w s) (task : ℕ) where
  pub takes_from : (waited : Waited) → NoneHolds (again_guards s task waited) → (port : ℕ) → IsFrom w waited port → TakesFrom s task waited port
  takes_from (Waited.Port q) good port from =
      let holds : Holds s task receive q = not_zero (held s task receive q) (λ not. good.1.0 (inl not)) in
      let none : s.sets_of q ≡ [] = not_some (s.sets_of q) (λ some. good.1.0 (inr some)) in
      (from.is_of, subst (λ (x : ℕ). Holds s task receive x) (sym from.is_of) holds, ap s.sets_of from.is_of ∙ none)
  takes_from (Waited.Set set) good port from = (
    not_not (s.set_owner set) task good.1.0,
    subst (λ (xs : List ℕ). Contains xs set) (sh.agrees.ports port from.v from.there).sets from.is_of,
  )

  pub from_held : (waited : Waited) (port : ℕ) → TakesFrom s task waited port → Holds s task receive port
  from_held (Waited.Port q) port from = from.1
  from_held (Waited.Set set) port from =
      let m = sh.lawful.members port set from.1 in
      subst (λ (t : ℕ). Holds s t receive port) (same_task m.0 task (sym m.1 ∙ from.0)) m.2
    where
      same_task : (t u : ℕ) → Some t ≡ Some u → t ≡ u
      same_task t u e = cc

  pub from_of : (waited : Waited) (port : ℕ) → TakesFrom s task waited port → (v : PortView Kept) → port_at w port ≡ Some v → IsOf waited port v
  from_of (Waited.Port q) port from v there = from.0
  from_of (Waited.Set set) port from v there = subst (λ (xs : List ℕ). Contains xs set) (sym (sh.agrees.ports port v there).sets) from.1

  nothing_in : (ms : List Kept) → length ms ≡ 0 → ms ≡ []
  nothing_in [] e = refl
  nothing_in (m ∷ ms) e = absurd (omega (arith, e))

  empty_for : (waited : Waited) → NoneWaits w waited → IsEmptyFor s task waited
  empty_for waited none port from =
      let v = port_there w s sh.agrees port (held_lives s sh.lawful task port (from_held waited port from)) in
      shown_empty w s sh.agrees port v.0 v.1 (nothing_in v.0.queue (none port v.0 v.1 (from_of waited port from v.0 v.1)))

  pub port_finds : (waited : Waited) → NoneHolds (again_guards s task waited) → (port : ℕ) → IsFrom w waited port → (name : ℕ) × FindsReceive w task name port
  port_finds waited good port from = held_finds w task port s sh (from_held waited port (takes_from waited good port from))

pub message_finds : (w : WorldView) → Stands w → (task port : ℕ) (waited : Waited) → IsAllowed w (λ s. again_guards s task waited) → HasMessage w waited port → (name : ℕ) × FindsReceive w task name port
message_finds w stands task port waited good h = port_finds w stands.state stands.shown task waited (good.allowed stands.state stands.shown) port h.from

pub message_waits : (w : WorldView) → Stands w → (port : ℕ) (waited : Waited) → HasMessage w waited port → Waits w port
message_waits w stands port waited h = go h.from.v.queue refl
  where
    go : (ms : List Kept) → h.from.v.queue ≡ ms → Waits w port
    go [] e = absurd (let some = h.some in let l : length h.from.v.queue ≡ 0 = ap (λ (x : List Kept). length x) e in omega (arith, some, l))
    go (m ∷ ms) e = waits w stands.state stands.shown port h.from.v h.from.there m ms e

pub message_destroyable : (w : WorldView) → Stands w → (port : ℕ) (waited : Waited) → HasMessage w waited port → CanDestroy w port
message_destroyable w stands port waited h = go h.from.v.queue refl
  where
    go : (ms : List Kept) → h.from.v.queue ≡ ms → CanDestroy w port
    go [] e = absurd (let some = h.some in let l : length h.from.v.queue ≡ 0 = ap (λ (x : List Kept). length x) e in omega (arith, some, l))
    go (m ∷ ms) e = can_destroy w stands.state stands.shown port h.from.v h.from.there m ms e

module _ (w : WorldView) (task : ℕ) (below : HasTask w task) (waited : Waited) (good : IsAllowed w (λ s. again_guards s task waited)) (room : ℕ) where
  pub live : (s : State) → Shows w s → s.live_task task ≡ true
  live s sh = go (s.live_task task) refl
    where
      go : (b : Bool) → s.live_task task ≡ b → s.live_task task ≡ true
      go true e = e
      go false e = absurd (among_tasks w s sh.agrees task below e)

  from : (s : State) (sh : Shows w s) (port : ℕ) → IsFrom w waited port → TakesFrom s task waited port
  from s sh port f = takes_from w s sh task waited (good.allowed s sh) port f

  -- a receipt that leaves the tables
  as_before : (now : ℕ) (large : Bool) (ready : Option ℕ) (s : State) → Shows w s → (reply : Reply) → taken_by large reply ≡ 0 → Receipt s task waited room large reply s [] →
      ReceiptOf now w s task waited room large ready reply w
  as_before now large ready s sh reply none receipt = record {
    mid = s;
    owed = [];
    receipt = receipt;
    takes = λ one. absurd (omega (arith, none, one));
    agrees = sh.agrees;
    holders = sh.holders;
    carriers = sh.carriers;
    slots = sh.slots;
    requested = sh.requested;
    notes = senders_same w sh.idle.noted;
    makes = makes_none w w sh.idle.none_lost;
    left = none_left w s sh.idle.none_lost (λ p o. let one = sh.lawful.one_receive p o.0 in let none = o.1 in omega (arith, one, none));
  }

  pub receipt_empty : (large : Bool) (ready : Option ℕ) → NoneWaits w waited → IsReceipt w task waited room large ready (Reply.Empty waited) w
  receipt_empty large ready none = record { receipt = λ now s sh. as_before now large ready s sh (Reply.Empty waited) refl (refl, empty_for w s sh task waited none, refl, refl) }

  module _ (port : ℕ) (f : IsFrom w waited port) where
    pub receipt_message : (ready : Option ℕ) → ready ≡ Some port → (name : ℕ) → FindsReceive w task name port → (bytes : List ℕ) (number : ℕ) (start taken new : WorldView) → MakesRoom w task number start →
        (t : TakesMessage start task port name bytes taken) → length t.takes.front.bytes ≤ min room most_bytes → NotesFront taken port t.takes.front new →
        (large : Bool) → IsReceipt w task waited room large ready (Reply.Message bytes) new
    receipt_message ready is_ready name finds bytes number start taken new mr t fits notes large = record {
      receipt = λ now s sh.
          let same : SameButRoom w start = room_made w start task number mr in
          let at : entry_at start task name ≡ Some finds.entry = room_entry w start same task name ∙ finds.found in
          let x = message_received start s (room_shows w start s same sh) task port name bytes taken t finds.entry at (receive_has finds.entry port finds.named).0 room fits new notes in
          record {
            mid = x.t;
            owed = [];
            receipt = (port, from s sh port f, x.receives, refl);
            takes = λ one. (port, is_ready, message_one s x.t task port room bytes sh.lawful (TakesFrom-live s sh.lawful task waited port (from s sh port f)) (live s sh) x.receives);
            agrees = x.agrees;
            holders = x.holders;
            carriers = x.carriers;
            slots = x.slots;
            requested = x.requested;
            notes = notes_roomier w start new same x.notes;
            makes = makes_none w new x.none_lost;
            left = none_left new x.t x.none_lost (λ p o.
                let lives = TakesFrom-live s sh.lawful task waited port (from s sh port f) in
                let one = (Receives-removes task port room bytes s x.t sh.lawful lives (live s sh) x.receives).keeps.one_receive p o.0 in
                let none = o.1 in omega (arith, one, none));
          };
    }

    module _ (m : Kept) (h : HasFront w port m) where
      pub receipt_too_large : (ready : Option ℕ) (n : ℕ) → n ≡ length m.bytes → min room most_bytes < length m.bytes → IsReceipt w task waited room true ready (Reply.TooLarge n) w
      receipt_too_large ready n is above = record {
        receipt = λ now s sh. as_before now true ready s sh (Reply.TooLarge n) refl
            (receipt_large w s sh task port (live s sh) h.v h.there m h.behind h.queue waited (from s sh port f) room n is (omega (arith, is, above)));
      }

      -- ... or is destroyed
      pub receipt_lost : (ready : Option ℕ) → ready ≡ Some port → (n : ℕ) → n ≡ length m.bytes → min room most_bytes < length m.bytes → (new : WorldView) → DestroysMessage w port new →
          IsReceipt w task waited room false ready (Reply.TooLarge n) new
      receipt_lost ready is_ready n is above new d = record {
        receipt = λ now s sh.
            let x = message_destroyed w s sh now port new d in
            let front = shown_front w s sh.agrees port h.v h.there m h.behind h.queue in
            let same : front.first ≡ x.e = front_same s port front.first x.e (shown_is_front w s sh.agrees port h.v h.there m h.behind h.queue) x.front in
            let long : message_length x.e.message ≡ length m.bytes = ap (λ (e : LogEntry). message_length e.message) (sym same) ∙ kept_length port m front.first.message front.keeps in
            record {
              mid = x.mid;
              owed = x.owed;
              receipt = (port, x.e, from s sh port f, x.front, is ∙ sym long, omega (arith, is, above), x.destroys);
              takes = λ one. (port, is_ready, destroyed_one s x.mid port x.e x.owed x.destroys);
              agrees = x.agrees;
              holders = x.holders;
              carriers = x.carriers;
              slots = x.slots;
              requested = x.requested;
              notes = x.notes;
              makes = λ lost c q. destroyed_sends now w s sh port new x q;
              left = x.left;
            };
      }

      pub large_ended : (ready : Option ℕ) → ready ≡ Some port → (large : Bool) (n : ℕ) → n ≡ length m.bytes → min room most_bytes < length m.bytes → (new : WorldView) →
          MatchBool large (new ≡ w) (DestroysMessage w port new) → IsReceipt w task waited room large ready (Reply.TooLarge n) new
      large_ended ready is_ready true n is above new same = subst (IsReceipt w task waited room true ready (Reply.TooLarge n)) (sym same) (receipt_too_large ready n is above)
      large_ended ready is_ready false n is above new d = receipt_lost ready is_ready n is above new d

      pub stays_for_names : length m.bytes ≤ min room most_bytes → LackNames w task (carried_by m) → StaysFor w task waited room (msg_number ReceiveBodyErrorNames)
      stays_for_names fits lack = record { refuses = λ s sh. refuses_names w s sh task port (live s sh) h.v h.there m h.behind h.queue waited (from s sh port f) room fits lack }

      pub stays_for_memory : length m.bytes ≤ min room most_bytes → ¬ (LackNames w task (carried_by m)) → StaysFor w task waited room (msg_number ReceiveBodyErrorMemory)
      stays_for_memory fits lack = record { refuses = λ s sh. refuses_memory w s sh task port (live s sh) h.v h.there m h.behind h.queue waited (from s sh port f) room fits lack }

-- ---- the calls

-- a call whose own part is this receipt, from the port that is ready
does_receipt : {task room : ℕ} {waited : Waited} {large : Bool} {ready : Option ℕ} (w : WorldView) (event : Event) (reply : Reply) (new : WorldView) (now : ℕ) (s : State) → IsLawful s → NoneHolds (guards s event) →
    (y : ReceiptOf now w s task waited room large ready reply new) → (does : Does now s event reply y.mid y.owed) → Judged now s event reply y.mid y.owed does →
    messages_taken event reply ≡ taken_by large reply → ((port : ℕ) → ready ≡ Some port → source w event ≡ Some port) → (done : IsDone now w s event reply new) × TakesByTurn w event reply s done.mid
does_receipt w event reply new now s l unrefused y does judged takes from = (
  record {
    unrefused = unrefused;
    mid = y.mid;
    owed = y.owed;
    does = does;
    judged = judged;
    shows = record {
      agrees = y.agrees;
      holders = y.holders;
      carriers = y.carriers;
      slots = y.slots;
      requested = y.requested;
      notes = y.notes;
      makes = y.makes;
      left = y.left;
      lawful = Does-mid now s event reply y.mid y.owed unrefused does judged l;
    };
  },
  λ one.
      let x = y.takes (sym takes ∙ one) in
      (x.0, from x.0 x.1, x.2),
)

module _ (w : WorldView) (task room : ℕ) (large : Bool) (below : HasTask w task) where
  module _ (name : ℕ) where
    pub named_declined : (code : ℕ) → IsRefused w (λ s. named_guards s task name) code → Declines w (Event.Receive task name room large) code w
    named_declined code r = refused w (Event.Receive task name room large) below code record { refused = λ s sh. r.refused s sh }

    module _ (waited : Waited) (x : Sources w task name waited) where
      good : IsAllowed w (λ s. call_guards s (Event.Receive task name room large))
      good = record { allowed = λ s sh. (sources_good w task name waited x).allowed s sh }

      pub named_stays : (code : ℕ) → StaysFor w task waited room code → Declines w (Event.Receive task name room large) code w
      named_stays code r = refused_later w (Event.Receive task name room large) below code good (λ s sh. (waited, x.waits s sh, r.refuses s sh))

      pub named_received : (ready : Option ℕ) (reply : Reply) (new : WorldView) → option_and_then waited_at (entry_at w task name) ≡ Some waited → IsFirst w waited ready →
          MatchOption ready (NoneWaits w waited) (HasMessage w waited) → IsReceipt w task waited room large ready reply new → CompletesInTurn w (Event.Receive task name room large) reply new
      named_received ready reply new named first has r = record {
        acts = λ now s sh.
            let event : Event = Event.Receive task name room large in
            let y = r.receipt now s sh in
            does_receipt w event reply new now s sh.lawful (tasks_live w s sh.agrees event below, good.allowed s sh) y (waited, x.waits s sh, y.receipt) tt
            (named_takes task name room large reply) (λ port is. ap (option_and_then (source_of w)) named ∙ source_first w waited ready port first has is);
      }

  module _ (waited : Waited) where
    pub again_declined : (code : ℕ) → IsRefused w (λ s. again_guards s task waited) code → Declines w (Event.ReceiveAgain task waited room large) code w
    again_declined code r = refused w (Event.ReceiveAgain task waited room large) below code record { refused = λ s sh. r.refused s sh }

    module _ (good : IsAllowed w (λ s. again_guards s task waited)) where
      pub again_stays : (code : ℕ) → StaysFor w task waited room code → Declines w (Event.ReceiveAgain task waited room large) code w
      again_stays code r = refused_later w (Event.ReceiveAgain task waited room large) below code record { allowed = λ s sh. good.allowed s sh } (λ s sh. r.refuses s sh)

      pub again_received : (ready : Option ℕ) (reply : Reply) (new : WorldView) → IsFirst w waited ready → MatchOption ready (NoneWaits w waited) (HasMessage w waited) →
          IsReceipt w task waited room large ready reply new → CompletesInTurn w (Event.ReceiveAgain task waited room large) reply new
      again_received ready reply new first has r = record {
        acts = λ now s sh.
            let event : Event = Event.ReceiveAgain task waited room large in
            let y = r.receipt now s sh in
            does_receipt w event reply new now s sh.lawful (tasks_live w s sh.agrees event below, good.allowed s sh) y y.receipt tt (again_takes task waited room large reply)
            (λ port is. source_first w waited ready port first has is);
      }
