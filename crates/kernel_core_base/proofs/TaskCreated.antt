-- A task, a port and a set that are made.
use Rattle.std.proofs.Common.{◌≡◌, ℕ, ◌+◌, ◌<◌, List, [], ◌∷◌, ◌++◌, Option, Some, None, refl, sym, ap, subst, ◌∙◌, arith, Bool, true, false, inl, inr, length}
use Rattle.std.specs.Prelude.{is_some, ◌≢◌, slice_set, ◌==◌}
use Rattle.std.specs.Option.{option_map}
use Rattle.std.specs.FinMap as map
use Rattle.std.specs.Ordering.{nat_cmp}
use Rattle.std.proofs.lemmas.List.{length-append}
use Rattle.std.proofs.lemmas.Bool.{eq-eqb, ne_eqb}
use Rattle.std.proofs.lemmas.Bool.Decides.{eqb_tells}
use Rattle.mach_types.specs.declared.calls.Event.{Event}
use Rattle.mach_types.specs.declared.calls.Reply.{Reply}
use Rattle.mach_types.specs.declared.profiles.Profile.{Profile}
use Rattle.mach_types.specs.Numbers.{most_tasks}
use Rattle.mach_types.specs.Tokens.{receive, send, Kind, send_once, in_task, in_request, Request, token, count, is_of, is_held}
use Rattle.mach_model.specs.State.{State, Target, Names, held, at}
use Rattle.mach_model.specs.Telling.{one_if}
use Rattle.mach_model.specs.Tasks.{CreatesTask}
use Rattle.mach_model.proofs.Names.{at_other, both_test, held_le_of, at_own, both_same, kept, get_own}
use Rattle.mach_model.specs.Names.{AllocatesPort, with_port as made_port, with_set}
use Rattle.mach_model.specs.Carried.{lying}
use Rattle.mach_model.specs.Lawful.{IsLawful}
use Rattle.rights.specs.declared.Counts.{Counts}
use Rattle.rights.specs.declared.RightKind.TheVariants as right_kind
use Rattle.rights.specs.Counts.{no_rights}
use Rattle.rights.specs.Ledger.{LedgerView, entered, made}
use Rattle.name_space.specs.declared.Entry.{Entry}
use Rattle.name_space.specs.Entry.{port_named, has_receive, send_references}
use Rattle.name_space.specs.Names.{SpaceView, first_given}
use Rattle.name_space.specs.declared.Entry.TheVariants as entry
use Rattle.port.specs.Ports.{PortsView}
use Rattle.port_set.specs.declared.SetRecord.{SetRecord}
use Rattle.port_set.specs.Sets.{SetsView}
use Rattle.copyin_base.specs.Serving.{Completes}
use Rattle.copyin_base.specs.Kept.{Kept}
use Rattle.copyin_base.specs.Worlds.{WorldView, has_generations, entry_in, space_at, space_in}
use Rattle.copyin_base.specs.Shows.{GivenAgrees, Agrees, HoldersAgree, target_of, HasCount, onces_queued, CountsAgree, ShowsPort, SetsAgree}
use Rattle.copyin_base.proofs.Acting.{done}
use Rattle.copyin_base.proofs.Agreeing.{sets_stay, NamesAgree, CountRights, own_names, own_rights, put_names, put_rights, spaces_agree, references_agree, ports_put}
use Rattle.copyin_base.proofs.FreshNames.{first_agrees}
use Rattle.copyin_base.proofs.Gets.{same_found, of_some}
use Rattle.copyin_base.proofs.Holders.{same_holders, holders_pushed}
use Rattle.copyin_base.proofs.Idle.{none_lost_same}
use Rattle.copyin_base.proofs.SendersNoted.{senders_same, senders_kept}
use Rattle.copyin_base.proofs.Spaces.{space-push_same, space-push_other, space-end}
use Rattle.copyin_base.specs.Requests.{notify_of}
use Rattle.copyin_base.proofs.Changing.{target_named}
use Rattle.copyin_base.proofs.Counting.{counts_agree, right_made}
use Rattle.copyin_base.proofs.Putting.{each_put}
use Rattle.copyin_base.proofs.Requesting.{requests_stay}
use Rattle.copyin_base.proofs.NamesChanged.{stands_still, with_sets}
use Rattle.kernel_core_base.proofs.MadeKept.{task_carriers, task_requested, task_senders}
use Rattle.copyin_base.specs.Coming.{first_port, no_names, with_new_task}

-- ---- A task that is made: the tables agree with the state after.

none_under : (profile : Profile) (n : ℕ) (e : Entry) → map.get (no_names profile).names n ≡ Some e → ⊥
none_under profile n e is = let none : map.get (no_names profile).names n ≡ None = map.get-empty {X = Entry} nat_cmp n in cc

module _ (w : WorldView) (s : State) (a : Agrees w s) where
  abbrev task : ℕ
  task = length w.spaces

  abbrev pub more_spaces : List (Option SpaceView)
  more_spaces = w.spaces ++ Some (no_names w.profile) ∷ []

  abbrev pub with_task : State
  with_task = record s { live_task = at s.live_task task true; tasks_made = task + 1; naming = at s.naming task map.empty }

  pub creates : CreatesTask s task with_task
  creates = record { task_is = a.tasks_made; rest = refl }

  -- what holds of the new task, and of each other, holds of all
  each : (P : ℕ → Option SpaceView → Names → Type 0) → P task (Some (no_names w.profile)) map.empty → ((u : ℕ) → P u (space_at w u) (s.naming u)) → (u : ℕ) → P u (space_in more_spaces u) (with_task.naming u)
  each P own others u = grind (arith, space-push_same, space-push_other)

  live_task : (u : ℕ) → is_some (space_in more_spaces u) ≡ with_task.live_task u
  live_task u = grind (arith, space-push_same, space-push_other)

  own_counts : GivenAgrees s.profile (no_names w.profile).given (s.given task)
  own_counts = subst (λ (p : Profile). GivenAgrees s.profile (first_given (has_generations p)) (s.given task)) (sym a.same_profile)
      (first_agrees s.profile (s.given task) (λ index. let made = a.tasks_made in a.none_given task index (omega (arith, made))))

  counts_given : (u : ℕ) (x : SpaceView) → space_in more_spaces u ≡ Some x → GivenAgrees s.profile x.given (s.given u)
  counts_given u x is = elim (eqb_tells u task) [
    | inl h ↦ subst (λ (k : ℕ). GivenAgrees s.profile x.given (s.given k)) (sym h.1)
        (subst (λ (y : SpaceView). GivenAgrees s.profile y.given (s.given task))
        (same_found (space_in more_spaces task) (no_names w.profile) x (space-push_same w.spaces (no_names w.profile)) (subst (λ (k : ℕ). space_in more_spaces k ≡ Some x) h.1 is)) own_counts)
    | inr h ↦ a.counts_given u x (sym (space-push_other w.spaces (no_names w.profile) u h.1) ∙ is)
  ]

  -- no name stood for anything
  nothing : (n : ℕ) → map.get (s.naming task) n ≡ None
  nothing n = a.naming task n ∙ ap (λ (o : Option SpaceView). option_map target_of (entry_in o n)) (space-end w.spaces)

  pub task_agrees : Agrees (record w { spaces = more_spaces }) with_task
  task_agrees = record {
    spaces = record {
      live_task = live_task;
      tasks_made = length-append w.spaces (Some (no_names w.profile) ∷ []) ∙ omega arith;
      naming = λ u n. each (λ _ o m. map.get m n ≡ option_map target_of (entry_in o n)) (map.get-empty nat_cmp n ∙ sym (ap (option_map target_of) (map.get-empty nat_cmp n))) (λ u. a.naming u n) u;
      names_kept = each (λ _ o m. (x : SpaceView) → o ≡ Some x → map.len x.names ≡ map.len m)
          (λ x is. ap (λ (y : SpaceView). map.len y.names) (same_found (Some (no_names w.profile)) x (no_names w.profile) is refl) ∙ map.len-empty nat_cmp Entry ∙ sym (map.len-empty nat_cmp Target)) a.names_kept;
      counted = each (λ _ o m. (n : ℕ) (e : Entry) → entry_in o n ≡ Some e → HasCount e) (λ n e is. absurd (none_under w.profile n e is)) a.counted;
      same_profile = a.same_profile;
      counts_given = counts_given;
      none_given = λ u index unmade. let made = a.tasks_made in a.none_given u index (omega (arith, unmade, made));
    };
    rights = record {
      references = each (λ u o m. (n : ℕ) (e : Entry) (p : ℕ) → entry_in o n ≡ Some e → port_named e ≡ Some p → (held s u receive p ≡ one_if (has_receive e)) × (held s u send p ≡ send_references e)) (λ n e p is. absurd (none_under w.profile n e is)) a.references;
    };
    live_port = a.live_port;
    ports_made = a.ports_made;
    ports = a.ports;
    counts = a.counts;
    total = a.total;
    in_sets = sets_stay w.sets s.set_owner s.sets_made s.naming with_task.naming a.in_sets task (at_other s.naming task map.empty) (λ n set is. absurd (let none = nothing n in cc));
    of_requests = a.of_requests;
  }

-- the new task has no receive right
task_holders : (w : WorldView) → HoldersAgree w → HoldersAgree (record w { spaces = w.spaces ++ Some (no_names w.profile) ∷ [] })
task_holders w h = holders_pushed w (record w { spaces = w.spaces ++ Some (no_names w.profile) ∷ [] }) h (no_names w.profile) refl (λ n. map.get-empty {X = Entry} nat_cmp n) (same_holders w.ports.ports)

pub task_created : (w : WorldView) (task : ℕ) (new : WorldView) → length w.spaces < most_tasks → task ≡ length w.spaces → new ≡ record w { spaces = w.spaces ++ Some (no_names w.profile) ∷ [] } → Completes w Event.TaskCreate (Reply.Task task) new
task_created w task new few is made = rw (is, made) (done w Event.TaskCreate (Reply.Task (length w.spaces)) (record w { spaces = w.spaces ++ Some (no_names w.profile) ∷ [] }) tt
    record { allowed = λ s sh. ((λ many. let m = sh.agrees.tasks_made in omega (arith, many, m, few)), tt) }
    (λ now s sh. record {
      mid = with_task w s sh.agrees;
      owed = [];
      does = (creates w s sh.agrees, refl);
      judged = tt;
      loses_none = tt;
      none_owed = refl;
      agrees = task_agrees w s sh.agrees;
      holders = task_holders w sh.holders;
      carriers = task_carriers w sh.carriers;
      slots = sh.slots;
      requested = task_requested w sh.requested;
      notes = senders_kept w w (with_new_task w) (senders_same w sh.idle.noted) (task_senders w sh.requested);
      none_lost = none_lost_same w (with_new_task w) sh.idle.none_lost refl;
    }))

-- ---- A port that is allocated: the tables agree with the state after.

abbrev pub allocated : State → (task name : ℕ) → State
allocated s task name = record (made_port task name s) { ledger = token receive s.ports_made (in_task task) ∷ s.ledger }

pub allocates : (s : State) (task name : ℕ) → AllocatesPort task name s (allocated s task name)
allocates s task name = record { rest = refl; tokens = λ h. omega arith }

same_some : {A : Type 0} (x y : A) → Some x ≡ Some y → x ≡ y
same_some x y e = cc

module _ (w : WorldView) (s : State) (a : Agrees w s) (l : IsLawful s) where
  not_live : (p : ℕ) (b : Bool) → s.live_port p ≡ b → s.ports_made ≡ p → s.live_port p ≡ false
  not_live p false e is = e
  not_live p true e is = absurd (let m = l.made_port p e in omega (arith, m, is))

  abbrev new : ℕ
  new = s.ports_made

  new_not_live : s.live_port new ≡ false
  new_not_live = not_live new (s.live_port new) refl refl

  none_made : (kind : Kind) → count (is_of kind new) s.ledger ≡ 0
  none_made kind = l.no_rights new new_not_live kind

  held_none : (u : ℕ) (kind : Kind) (q : ℕ) → q ≡ new → held s u kind q ≡ 0
  held_none u kind q is = let b = held_le_of u kind q s.ledger in let z : count (is_of kind q) s.ledger ≡ 0 = rw is (none_made kind) in omega (arith, b, z)

  not_entered : (o : Option Counts) → is_some o ≡ false → o ≡ None
  not_entered None e = refl
  not_entered (Some c) e = absurd (cc)

  -- the ledger doesn't know the next port, and no name is for it
  pub unknown : map.get w.ledger.counts w.ports.made ≡ None
  unknown = grind (arith, not_entered, new_not_live)

  pub not_made : (u n : ℕ) (x : Entry) (q : ℕ) → entry_in (space_at w u) n ≡ Some x → port_named x ≡ Some q → q ≢ new
  not_made u n x q e named is = grind (arith, (l.naming u).has_right n q (a.naming u n ∙ ap (option_map target_of) e ∙ ap Some (target_named x q named)), held_none u receive q is, held_none u send q is)

  module _ (task name : ℕ) (space : SpaceView) (room : ℕ) (there : space_at w task ≡ Some space) (unused : map.get space.names name ≡ None) where
    abbrev right : Entry
    right = entry.Receive new

    abbrev pub more_ports : PortsView Kept
    more_ports = record w.ports { ports = map.insert w.ports.ports new (first_port task); made = w.ports.made + 1 }

    abbrev pub more_counts : LedgerView
    more_counts = made (entered w.ledger new) new right_kind.Receive 1

    abbrev t : State
    t = allocated s task name

    not_named : map.get (s.naming task) name ≡ None
    not_named = (own_names w s a task space there).naming name ∙ ap (option_map target_of) unused

    -- ---- rights

    old_rights : CountRights space.names task t.ledger
    old_rights n x q e named =
        let r = own_rights w s a task space there n x q e named in
        let not : q ≢ new = not_made task n x q (ap (λ (o : Option SpaceView). entry_in o n) there ∙ e) named in
        let y = both_test (new == q) (task == task) (inl (ne_eqb new q (λ z. not (sym z)))) in
        (omega (arith, y, r.0), omega (arith, r.1))

    new_rights : (x : Entry) (q : ℕ) → Some right ≡ Some x → port_named x ≡ Some q → (count (is_held task receive q) t.ledger ≡ one_if (has_receive x)) × (count (is_held task send q) t.ledger ≡ send_references x)
    new_rights x q is named = grind (arith, same_some, both_same, held_none)

    -- other tasks hold what they held
    others_hold : (u : ℕ) → (u ≡ task → ⊥) → (kind : Kind) (q : ℕ) → count (is_held u kind q) t.ledger ≡ count (is_held u kind q) s.ledger
    others_hold u not kind q = grind (arith, both_test, ne_eqb)

    -- ---- ports

    first_shows : ShowsPort (first_port task) t new
    first_shows = rw (eq-eqb new new refl) record { waiting = tt; limit = refl; make_send = refl; sequence = refl; sets = refl }

    -- ---- counts

    none_queued : onces_queued t new ≡ 0
    none_queued = rw (eq-eqb new new refl) refl

    queued_other : (q : ℕ) → (q ≡ new → ⊥) → onces_queued s q ≡ onces_queued t q
    queued_other q not = rw (ne_eqb q new not) refl

    was_entered : (q : ℕ) → CountsAgree (entered w.ledger new) t.live_port s.ledger (onces_queued t) q
    was_entered = counts_agree w.ledger s.live_port s.ledger (onces_queued s) a.counts (entered w.ledger new) t.live_port s.ledger (onces_queued t) new no_rights refl (sym (at_own s.live_port new true))
        (sym (none_made receive)) (sym (none_made send)) (sym (none_made send_once)) (sym none_queued) (λ q not. (sym (at_other s.live_port new true q not), queued_other q not, λ c. refl))

    requests : (r : Request) (kind : Kind) (q : ℕ) → lying t kind q (in_request r) ≡ lying s kind q (in_request r)
    requests r kind q = let z = both_test (is_of kind q (token receive new (in_task task))) false (inr refl) in omega (arith, z)

    abbrev own : SpaceView
    own = record space { names = map.insert space.names name right; room = room }

    pub allocated_agrees : Agrees (record w { spaces = slice_set w.spaces task (Some own); ports = more_ports; ledger = more_counts }) t
    allocated_agrees = record {
      spaces = spaces_agree w.spaces task space own there s.live_task s.tasks_made s.naming t.naming s.given s.given a.spaces
          (subst (NamesAgree own.names) (sym (at_own s.naming task _)) (put_names space.names (s.naming task) (own_names w s a task space there) name (Some right) (of_some right HasCount tt)))
          (a.counts_given task space there) (at_other s.naming task _) (λ u not. refl);
      rights = references_agree w.spaces task space own there s.ledger t.ledger a.rights (put_rights space.names task t.ledger old_rights name (Some right) new_rights) others_hold;
      live_port = each_put w.ports.ports new (Some (first_port task)) (λ q o. is_some o ≡ t.live_port q) (sym (at_own s.live_port new true)) (λ q not. a.live_port q ∙ sym (at_other s.live_port new true q not));
      ports_made = ap (λ (n : ℕ). n + 1) a.ports_made;
      ports = ports_put w.ports.ports new (first_port task) t first_shows (λ q v not is. rw (ne_eqb q new not) (a.ports q v is));
      counts = right_made (entered w.ledger new) t.live_port s.ledger (onces_queued t) was_entered receive new (in_task task) (at_own s.live_port new true);
      total = let x = a.total in omega (arith, x);
      in_sets = sets_stay w.sets s.set_owner s.sets_made s.naming t.naming a.in_sets task (at_other s.naming task _)
          (λ n set is. ap (λ (m : Names). map.get m n) (at_own s.naming task _) ∙ kept (s.naming task) name (Target.port new) n (Target.set set) not_named is);
      of_requests = requests_stay (notify_of w.requests) w.requests.names.went w.ports.made (w.ports.made + 1) s.stands s.stands s.live_port t.live_port s.ledger t.ledger a.of_requests (omega arith) (λ r. refl)
          (λ q less. at_other s.live_port new true q (λ e. let m = a.ports_made in omega (arith, less, e, m))) requests;
    }

-- ---- A port set that is made: the tables agree with the state after.

module _ (w : WorldView) (s : State) (a : Agrees w s) (task name : ℕ) (space : SpaceView) (room : ℕ)
    (there : space_at w task ≡ Some space) (unused : map.get space.names name ≡ None) where
  abbrev new_made : ℕ
  new_made = s.sets_made

  abbrev first : SetRecord
  first = record { owner = task; name = name }

  abbrev pub more_sets : SetsView
  more_sets = record { sets = map.insert w.sets.sets new_made first; made = w.sets.made + 1 }

  abbrev t_made : State
  t_made = with_set task name s

  own_named : map.get (t_made.naming task) name ≡ Some (Target.set new_made)
  own_named = ap (λ (m : Names). map.get m name) (at_own s.naming task (map.insert (s.naming task) name (Target.set new_made))) ∙ get_own (s.naming task) name (Target.set new_made)

  -- the sets that were there
  old_sets : SetsAgree w.sets s.set_owner s.sets_made t_made.naming
  old_sets = sets_stay w.sets s.set_owner s.sets_made s.naming t_made.naming a.in_sets task (at_other s.naming task _)
      (λ n set is. ap (λ (m : Names). map.get m n) (at_own s.naming task _) ∙ stands_still w s a task space there name (entry.Set new_made) room unused refl tt n (Target.set set) is)

  in_sets : SetsAgree more_sets t_made.set_owner t_made.sets_made t_made.naming
  in_sets = record {
    set_owner = each_put w.sets.sets new_made (Some first) (λ set o. t_made.set_owner set ≡ option_map (λ (r : SetRecord). r.owner) o) (at_own s.set_owner new_made (Some task))
        (λ set not. at_other s.set_owner new_made (Some task) set not ∙ a.set_owner set);
    sets_made = ap (λ (n : ℕ). n + 1) a.sets_made;
    set_named = each_put w.sets.sets new_made (Some first) (λ set o. (r : SetRecord) → o ≡ Some r → map.get (t_made.naming r.owner) r.name ≡ Some (Target.set set))
        (of_some first (λ r. map.get (t_made.naming r.owner) r.name ≡ Some (Target.set new_made)) own_named) (λ set not. old_sets.set_named set);
  }

  pub set_agrees : Agrees (record w { spaces = slice_set w.spaces task (Some (record space { names = map.insert space.names name (entry.Set new_made); room = room })); sets = more_sets }) t_made
  set_agrees = with_sets w s a task space there name (entry.Set new_made) room unused refl tt more_sets t_made.set_owner t_made.sets_made in_sets
