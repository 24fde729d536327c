-- A set's name went, and the set: the tables show what is left of the task.
use Rattle.std.proofs.Common.{◌≡◌, ℕ, ◌<◌, ◌≤◌, ◌^◌, List, [], ◌∷◌, Option, Some, None, refl, sym, ap, subst, ◌∙◌, arith, Bool, true}
use Rattle.std.specs.Prelude.{if◌then◌else◌, Contains, filter, not, ◌==◌, ◌||◌}
use Rattle.std.specs.Option.{option_map}
use Rattle.std.specs.FinMap as map
use Rattle.std.proofs.Math.Path.{fun_ext}
use Rattle.mach_types.specs.Tokens.{send_once, count, is_held}
use Rattle.mach_model.specs.State.{State, Target, Names, lookup, at}
use Rattle.mach_model.specs.References.{unused_among}
use Rattle.mach_model.proofs.Names.{at_own, at_other, other_unnamed}
use Rattle.name_space.specs.declared.Entry.{Entry}
use Rattle.name_space.specs.declared.Entry.TheVariants as entry_of
use Rattle.name_space.specs.Names.{SpaceView}
use Rattle.port.specs.Ports.{IsLive}
use Rattle.port_set.specs.declared.SetRecord.{SetRecord}
use Rattle.port_set.specs.Sets.{removed}
use Rattle.request_table.specs.Requests.{name_key}
use Rattle.rights.specs.Ledger.{LedgerView, counts_of}
use Rattle.copyin_base.specs.Posted.{with_posted}
use Rattle.request_table.specs.Tables.{request_left}
use Rattle.copyin_base.specs.Requests.{notify_of, RequestsAgree}
use Rattle.copyin_base.specs.Shows.{target_of, SetsAgree, Agrees, SlotsSuffice, Shows}
use Rattle.copyin_base.specs.Worlds.{WorldView, entry_in, entry_at}
use Rattle.copyin_base.proofs.Agreeing.{own_names, own_rights, put_names, put_rights}
use Rattle.copyin_base.proofs.Carriers.{carriers_same, carriers_disbanded}
use Rattle.copyin_base.proofs.Disbanded.{disbanded_agrees}
use Rattle.copyin_base.proofs.Gets.{same_found}
use Rattle.copyin_base.proofs.Holders.{none_receives, put_holders_left, disbanded_holders, holders_ports}
use Rattle.copyin_base.proofs.NamesChanged.{names_agree}
use Rattle.copyin_base.proofs.Putting.{each_put, get_removed}
use Rattle.copyin_base.proofs.Requested.{requested_removed, requested_ports}
use Rattle.copyin_base.proofs.Requesting.{same_key, stands_after, requests_left}
use Rattle.copyin_base.proofs.SendersNoted.{keeps_senders_same, senders_kept}
use Rattle.copyin_base.proofs.Written.{disbanded_ports}
use Rattle.notifications.proofs.Removing.{Part, with_part, ShowsPart, SetGoes}
use Rattle.notifications.proofs.MessageRights.{posted_is}
use Rattle.notifications.proofs.TaskEnded.{shown, shown_is, looked_up, stood_left, fewer_left}

no_some : {A : Type 0} (x : A) → None ≡ Some x → ⊥
no_some x e = cc

set_no_port : (n q : ℕ) → Target.set n ≡ Target.port q → ⊥
set_no_port n q e = cc

same_set : (x y : ℕ) → Target.set x ≡ Target.set y → x ≡ y
same_set x y e = cc

-- what is picked by one test and then by another is picked by both
filter_twice : (f g : ℕ → Bool) (xs : List ℕ) → filter (λ k. not (f k)) (filter (λ k. not (g k)) xs) ≡ filter (λ k. not (f k || g k)) xs
filter_twice f g [] = refl
filter_twice f g (x ∷ xs) = grind (arith, filter_twice f g xs)

module _ (now : ℕ) (start : WorldView) (task : ℕ) (s : State) (sh : Shows start s) (w : WorldView) (sp : ShowsPart now start task s w)
    (name set : ℕ) (found : entry_at w task name ≡ Some (entry_of.Set set)) (v : WorldView) (r : SetGoes w task name set v) where
  abbrev x : Part
  x = sp.part

  abbrev u : State
  u = shown now s task x

  a : Agrees w u
  a = subst (Agrees w) (shown_is now s task x) sp.agrees

  target : map.get x.names name ≡ Some (Target.set set)
  target = sym (looked_up now s task x sh.lawful sp.is_part name) ∙ a.naming task name ∙ ap (option_map target_of) found

  abbrev part : Part
  part = record x { names = map.remove x.names name; stands = stands_after {A = Entry} x.stands task name None; disbanded = λ k. k == set || x.disbanded k }

  abbrev owner : ℕ → Option ℕ
  owner k = if k == set || x.disbanded k then None else s.set_owner k

  abbrev own : Names
  own = map.remove (u.naming task) name

  -- the state as the sets' table tells of it, before the members left
  abbrev t : State
  t = record u { naming = at u.naming task own; stands = part.stands; set_owner = owner }

  abbrev space : SpaceView
  space = r.puts.space

  at_name : map.get space.names name ≡ Some (entry_of.Set set)
  at_name = sym (ap (λ (o : Option SpaceView). entry_in o name) r.puts.there) ∙ found

  named : lookup u task name ≡ Some (Target.set set)
  named = looked_up now s task x sh.lawful sp.is_part name ∙ target

  -- another set stands under another name
  still : (q : ℕ) (y : SetRecord) → (q ≡ set → ⊥) → map.get w.sets.sets q ≡ Some y → map.get (at u.naming task own y.owner) y.name ≡ Some (Target.set q)
  still q y differs is = grind (arith, a, at_own, get_removed, same_set, same_found, named, at_other)

  owner_other : (q : ℕ) → (q ≡ set → ⊥) → owner q ≡ u.set_owner q
  owner_other q differs = grind arith

  owner_own : owner set ≡ None
  owner_own = grind arith

  in_sets : SetsAgree (removed w.sets set) owner s.sets_made (at u.naming task own)
  in_sets = record {
    set_owner = each_put w.sets.sets set None (λ q o. owner q ≡ option_map (λ (y : SetRecord). y.owner) o) owner_own (λ q differs. owner_other q differs ∙ a.set_owner q);
    sets_made = a.sets_made;
    set_named = each_put w.sets.sets set None (λ q o. (y : SetRecord) → o ≡ Some y → map.get (at u.naming task own y.owner) y.name ≡ Some (Target.set q)) (λ y is. absurd (no_some y is)) (λ q differs y. still q y differs);
  }

  small : name < 2 ^ 32
  small = (sh.lawful.naming task).space.name_fits name (Target.set set) (sp.is_part.fewer name (Target.set set) target)

  of_requests : RequestsAgree (notify_of (request_left w.requests task name)) (request_left w.requests task name).names.went w.ports.made part.stands s.live_port u.ledger
  of_requests = requests_left w.requests task name small
      (λ q is. let on = sp.requested.on_names (name_key task name) q is in same_key q.task q.name task name on.small small on.own)
      w.ports.made x.stands s.live_port u.ledger a.of_requests {A = Entry} None

  abbrev without : WorldView
  without = record r.named { sets = removed r.named.sets set }

  names_go : Agrees without t
  names_go = subst (λ (y : WorldView). Agrees y t) (sym (λ i. record (r.puts.rest i) { sets = removed (r.puts.rest i).sets set }))
      (names_agree w u a task space r.puts.there (map.remove space.names name) space.room own part.stands (removed w.sets set) owner s.sets_made
      (request_left w.requests task name) of_requests
      (put_names space.names (u.naming task) (own_names w u a task space r.puts.there) name None (λ e is. absurd (no_some e is)))
      (put_rights space.names task u.ledger (own_rights w u a task space r.puts.there) name None (λ e p is. absurd (no_some e is))) in_sets)

  -- ---- the members leave

  naming_is : at u.naming task own ≡ at s.naming task part.names
  naming_is = grind (arith, fun_ext, at_own)

  sets_are : ◌≡◌ {A = ℕ → List ℕ} (λ (p : ℕ). filter (λ k. not (k == set)) (filter (λ k. not (x.disbanded k)) (s.sets_of p))) (λ (p : ℕ). filter (λ k. not (k == set || x.disbanded k)) (s.sets_of p))
  sets_are = fun_ext (λ p. filter_twice (λ k. k == set) x.disbanded (s.sets_of p))

  posted : Agrees v (with_posted now (with_part s task part) (unused_among x.gone))
  posted = subst (Agrees v) (sym (posted_is now (with_part s task part) (unused_among x.gone)))
      (subst (Agrees v) (λ i. record t { naming = naming_is i; sets_of = sets_are i })
      (subst (λ (y : WorldView). Agrees y (record t { sets_of = λ p. filter (λ k. not (k == set)) (u.sets_of p) })) (sym r.rest)
      (disbanded_agrees without t names_go set v.ports r.disbanded)))

  -- ---- the rest of the tables

  still_live : (p : ℕ) → IsLive r.named.ports p → IsLive v.ports p
  still_live p lives = (disbanded_ports r.named.ports v.ports set r.disbanded).live p ∙ lives

  ledger_is : v.ledger ≡ w.ledger
  ledger_is = ap (λ (y : WorldView). y.ledger) r.rest ∙ ap (λ (y : WorldView). y.ledger) r.puts.rest

  lost_is : v.ports.lost ≡ w.ports.lost
  lost_is = r.disbanded.lost ∙ ap (λ (y : WorldView). y.ports.lost) r.puts.rest

  slots : SlotsSuffice v
  slots = grind (arith, ledger_is)

  owned : (k : ℕ) → part.disbanded k ≡ true → s.set_owner k ≡ Some task
  owned k e = grind (arith, target)

  pub set_lost : ShowsPart now start task s v
  set_lost = record {
    part = part;
    is_part = record {
      fewer = fewer_left x.names (s.naming task) name None (λ q e. absurd (no_some q e)) sp.is_part.fewer;
      named = other_unnamed x.names (λ kind q. count (is_held task kind q) x.kept) (λ kind q. count (is_held task kind q) x.kept) sp.is_part.named (λ q. refl) (λ q. refl)
          name (Target.set set) target (set_no_port set) (λ q. omega arith);
      stood = stood_left {A = Entry} s task name x.stands None sp.is_part.stood;
      owned = owned;
      moves = sp.is_part.moves;
      own = sp.is_part.own;
    };
    agrees = posted;
    holders = holders_ports r.named v (put_holders_left w r.named sp.holders task name None r.puts (λ q i. absurd (none_receives q i)))
        (ap (λ (y : WorldView). y.spaces) r.rest) (disbanded_holders r.named.ports v.ports set r.disbanded);
    carriers = carriers_disbanded r.named v (carriers_same w r.named sp.carriers (ap (λ (y : WorldView). y.ports.made) r.puts.rest) (ap (λ (y : WorldView). y.ports.ports) r.puts.rest)) set r.disbanded;
    slots = slots;
    requested = requested_ports r.named v (requested_removed w r.named sp.requested task name r.puts) still_live (ap (λ (y : WorldView). y.requests) r.rest) (ap (λ (y : WorldView). y.spaces) r.rest);
    notes = senders_kept start w v sp.notes (keeps_senders_same w v sp.requested
        (ap (λ (y : WorldView). y.requests.no_senders) r.rest ∙ ap (λ (y : WorldView). y.requests.no_senders) r.puts.rest) ledger_is
        (r.disbanded.noted ∙ ap (λ (y : WorldView). y.ports.noted) r.puts.rest));
    left = record {
      doomed = r.disbanded.doomed ∙ ap (λ (y : WorldView). y.ports.doomed) r.puts.rest ∙ sp.left.doomed;
      destroyed = r.disbanded.destroyed ∙ ap (λ (y : WorldView). y.ports.destroyed) r.puts.rest ∙ sp.left.destroyed;
      lost = λ q c. sp.left.lost q (subst (λ (ys : List ℕ). Contains ys q) lost_is c);
      orphans = λ q o. subst (λ (ys : List ℕ). Contains ys q) (sym lost_is) (sp.left.orphans q o);
    };
    sends = λ q. subst (λ (l : LedgerView). (counts_of l q).send ≤ (counts_of start.ledger q).send) (sym ledger_is) (sp.sends q);
    onces = λ q. subst (λ (l : LedgerView). count (is_held task send_once q) x.kept ≤ (counts_of l q).send_once) (sym ledger_is) (sp.onces q);
  }
