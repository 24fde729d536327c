-- What a reason tells of the tables is true in each state that they show.
use Rattle.std.proofs.Common.{◌≡◌, ℕ, ◌≤◌, Bool, true, false, Option, Some, None, List, [], length, refl, sym, ap, subst, ◌∙◌, arith, zero}
use Rattle.std.specs.Prelude.{is_some, Contains}
use Rattle.std.specs.Option.{option_map}
use Rattle.std.specs.FinMap as map
use Rattle.mach_types.specs.declared.calls.Waited.{Waited}
use Rattle.mach_types.specs.declared.profiles.Profile.{Profile}
use Rattle.mach_types.specs.declared.profiles.Profile.TheVariants.{One, Two, Three}
use Rattle.mach_model.specs.State.{State, Target, lookup, queue}
use Rattle.mach_model.specs.NameGuards.{HasSeveral}
use Rattle.mach_model.specs.SendRefusals.{Reaches}
use Rattle.name_space.specs.declared.Entry.{Entry as Standing}
use Rattle.name_space.specs.declared.Entry.TheVariants as entry
use Rattle.name_space.specs.Entry.{port_named}
use Rattle.circularity.specs.Chains.{Leads}
use Rattle.port.specs.Ports.{PortView}
use Rattle.port_set.specs.declared.SetRecord.{SetRecord}
use Rattle.copyin_base.specs.Kept.{Kept}
use Rattle.copyin_base.specs.Worlds.{WorldView, has_several_sets, port_at}
use Rattle.copyin_base.specs.Shows.{target_of, Shows}
use Rattle.copyin_base.proofs.Listed.{listed_one}
use Rattle.copyin_base.proofs.Told.{found, unused, no_task, names_port, holds_receive, task_holds}
use Rattle.copyin.proofs.LoopFound.{lies_queued}
use Rattle.copyin.proofs.Sent.{all_kept_length}
use Rattle.mach_follow.specs.declared.follower.Place.{Place}
use Rattle.mach_causes_base.specs.declared.cause.Reason.{Reason}
use Rattle.mach_causes_base.specs.Facts as facts
use Rattle.mach_causes_base.specs.Facts.{IsTrueIn, StandsFor, Receives, IsMissing, IsGone}
use Rattle.mach_causes_base.specs.Tables.{Tells, under, LacksTask, HasNames, HasPort, IsIn, IsNotIn, IsFull, LacksWaited, IsKeptFrom, IsOthers, IsOutOfReach}
use Rattle.name_space.specs.Entry.{receive_named}

-- an entry for a port shows as the port's
named_target : (e : Standing) (p : ℕ) → port_named e ≡ Some p → target_of e ≡ Target.port p
named_target (entry.Receive q) p is = let g : q ≡ p = cc in ap (λ (x : ℕ). Target.port x) g
named_target (entry.Send q n) p is = let g : q ≡ p = cc in ap (λ (x : ℕ). Target.port x) g
named_target (entry.ReceiveAndSend q n) p is = let g : q ≡ p = cc in ap (λ (x : ℕ). Target.port x) g
named_target (entry.SendOnce q) p is = absurd (cc)
named_target (entry.DeadName m) p is = absurd (cc)
named_target (entry.Set m) p is = absurd (cc)

-- a profile in which a port can't be in several sets
one_set : (own profile : Profile) → own ≡ profile → has_several_sets own ≡ false → ¬ (HasSeveral profile)
one_set One profile same one several = subst HasSeveral (sym same) several
one_set Two profile same one several = subst HasSeveral (sym same) several
one_set Three profile same one several = let e : true ≡ false = one in cc

module _ (w : WorldView) (s : State) (sh : Shows w s) where
  -- ---- tasks

  task_missing : (task : ℕ) (ended : Option ℕ) → LacksTask w task (is_some ended) → IsMissing s task ended
  task_missing task (Some entry) t = (no_task w s sh.agrees task t.0, let made = sh.agrees.tasks_made in let before = t.1 in omega (arith, made, before))
  task_missing task None t = (no_task w s sh.agrees task t.0, let made = sh.agrees.tasks_made in let after = t.1 in omega (arith, made, after))

  number_of_names : (task names : ℕ) → HasNames w task names → map.len (s.naming task) ≡ names
  number_of_names task names t = sym (sh.agrees.names_kept task t.space t.there) ∙ t.number

  -- ---- names

  stands : (place : Place) (e : Standing) → under w place ≡ Some e → StandsFor s place e
  stands place e is = record {
    named = found w s sh.agrees place.task place.name e is;
    some = sh.agrees.counted place.task place.name e is;
    rights = λ p for_port. sh.agrees.references place.task place.name e p is for_port;
  }

  for_port : (place : Place) (port : ℕ) → HasPort port_named w place port → lookup s place.task place.name ≡ Some (Target.port port)
  for_port place port t =
      found w s sh.agrees place.task place.name t.standing t.there ∙ ap (λ (x : Target). Some x) (named_target t.standing port t.for_port)

  receives : (place : Place) (port : ℕ) → HasPort receive_named w place port → Receives s place port
  receives place port t = record {
    named = names_port w s sh.agrees place.task place.name t.standing port t.there t.for_port;
    holds = holds_receive w s sh.agrees place.task place.name t.standing port t.there t.for_port;
  }

  -- ---- ports and sets

  lives : (port : ℕ) (v : PortView Kept) → port_at w port ≡ Some v → s.live_port port ≡ true
  lives port v at = sym (sh.agrees.live_port port) ∙ ap is_some at

  in_no_set : (port : ℕ) → IsIn w port None → s.sets_of port ≡ []
  in_no_set port t = sym (sh.agrees.ports port t.view t.there).sets ∙ t.in_set

  in_set : (port set : ℕ) → IsIn w port (Some set) → Contains (s.sets_of port) set
  in_set port set t = subst (λ (sets : List ℕ). Contains sets set) (sh.agrees.ports port t.view t.there).sets t.in_set

  not_in : (port set : ℕ) → IsNotIn w port set → ¬ (Contains (s.sets_of port) set)
  not_in port set t = λ within.
      let given = sh.lawful.made_port port (lives port t.view t.there) in
      let made = sh.agrees.ports_made in
      t.not_in (record {
        given = omega (arith, given, made);
        view = t.view;
        there = t.there;
        member = subst (λ (sets : List ℕ). Contains sets set) (sym (sh.agrees.ports port t.view t.there).sets) within;
      })

  is_full : (port queued limit : ℕ) → IsFull w port queued limit → (s.live_port port ≡ true) × (length (queue s port) ≡ queued) × (s.limit port ≡ limit) × (limit ≤ queued)
  is_full port queued limit t =
      let agree = sh.agrees.ports port t.view t.there in
      (lives port t.view t.there, sym (all_kept_length port t.view.queue (queue s port) agree.waiting) ∙ t.waiting, sym agree.limit ∙ t.at_most, t.full)

  gone : (waited : Waited) (once : Bool) → LacksWaited w waited once → IsGone s waited once
  gone (Waited.Port port) true t = (sym (sh.agrees.live_port port) ∙ ap is_some t.0, let made = sh.agrees.ports_made in let before = t.1 in omega (arith, made, before))
  gone (Waited.Port port) false t = (sym (sh.agrees.live_port port) ∙ ap is_some t.0, let made = sh.agrees.ports_made in let after = t.1 in omega (arith, made, after))
  gone (Waited.Set set) true t = (sh.agrees.set_owner set ∙ ap (option_map (λ (r : SetRecord). r.owner)) t.0, let made = sh.agrees.sets_made in let before = t.1 in omega (arith, made, before))
  gone (Waited.Set set) false t = (sh.agrees.set_owner set ∙ ap (option_map (λ (r : SetRecord). r.owner)) t.0, let made = sh.agrees.sets_made in let after = t.1 in omega (arith, made, after))

  kept_from : (task port : ℕ) → IsKeptFrom w task port → facts.IsOutOfReach s task (Waited.Port port)
  kept_from task port t = (
    lives port t.view t.there,
    λ holds.
        let name = (sh.lawful.naming task).is_named port (omega (arith, holds)) in
        t.kept (task_holds w s sh.agrees sh.holders port t.view t.there task name.0 name.1 holds),
  )

  others : (task set : ℕ) → IsOthers w task set → facts.IsOutOfReach s task (Waited.Set set)
  others task set t =
      let owner : s.set_owner set ≡ Some t.set_record.owner = sh.agrees.set_owner set ∙ ap (option_map (λ (r : SetRecord). r.owner)) t.there in
      (λ none. let bad : None ≡ Some t.set_record.owner = sym none ∙ owner in cc, λ own. t.other (let same : Some t.set_record.owner ≡ Some task = sym owner ∙ own in cc))

  out_of_reach : (task : ℕ) (waited : Waited) → IsOutOfReach w task waited → facts.IsOutOfReach s task waited
  out_of_reach task (Waited.Port port) t = kept_from task port t
  out_of_reach task (Waited.Set set) t = others task set t

  reaches : (a b : ℕ) → Leads w.ports a b → Reaches s a b
  reaches a b (Leads.here p) = Reaches.here p
  reaches a b (Leads.there p q last held rest) = Reaches.there p q last (lies_queued w s sh p held.view held.there q held.holder_is) (reaches q last rest)

  -- ---- all reasons

  pub told : (reason : Reason) → Tells w reason → IsTrueIn s reason
  told (Reason.NoTask task ended) t = task_missing task ended t
  told Reason.TasksFull t = sym sh.agrees.tasks_made ∙ t
  told (Reason.NamesFull task) t = number_of_names task _ t
  told (Reason.NamesShort task names) t = number_of_names task names t
  told (Reason.RightsFull rights more) t = (sym sh.agrees.total ∙ t.0, t.1)
  told (Reason.Absent place before) t = (sym (sh.agrees.live_task place.task) ∙ t.0, unused w s sh.agrees place.task place.name t.1)
  told (Reason.Lacks place standing wanted) t = (stands place standing t.0, t.1, t.2, t.3)
  told (Reason.Dead place) t = (t.references, found w s sh.agrees place.task place.name (entry.DeadName t.references) t.there)
  told (Reason.TakenBefore place standing) t = (stands place standing t.0, t.1)
  told (Reason.Used place standing) t = stands place standing t
  told (Reason.Elsewhere place port) t = for_port place port t
  told (Reason.References place standing) t = (stands place standing t.0, t.1)
  told (Reason.Change place standing delta) t = (stands place standing t.0, t.1, t.2)
  told (Reason.DeadUnasked place) t = (t.references, found w s sh.agrees place.task place.name (entry.DeadName t.references) t.there)
  told (Reason.InNoSet place port) t = (receives place port t.0, in_no_set port t.1)
  told (Reason.InSet place port set) t = (receives place port t.0, in_set port set t.1)
  told (Reason.AlreadyIn place port set) t = (receives place port t.0, in_set port set t.1)
  told (Reason.NotIn place port set) t = (receives place port t.0, not_in port set t.1)
  told (Reason.Full port queued limit) t = is_full port queued limit t
  told (Reason.Died waited once) t = gone waited once t
  told (Reason.Member port set) t = in_set port set t
  told (Reason.Changed task waited) t = out_of_reach task waited t
  told (Reason.OwnDestination place port) t = receives place port t
  told (Reason.Loop place carried destination) t =
      (receives place carried t.0, t.1, let leads = t.2 in subst (λ (p : ℕ). Reaches s destination p) (listed_one carried leads.0 leads.1) (reaches destination leads.0 leads.2))
  told Reason.OneSet t = one_set w.profile s.profile sh.agrees.same_profile t
  told (Reason.NotMade right) t = t
  told (Reason.NoRight right) t = t
  told (Reason.NoName name) t = t
  told (Reason.Limit limit) t = t
  told (Reason.NoDisposition number) t = t
  told (Reason.NoVariant variant) t = t
  told (Reason.PaysBy number) t = t
  told (Reason.Sync number) t = t
  told (Reason.NoReferences delta) t = t
  told (Reason.Message fault) t = t
  told Reason.Memory t = t
  told Reason.NoBuffer t = t
