-- A dead name went: the tables show what is left of the task.
use Rattle.std.proofs.Common.{◌≡◌, ℕ, ◌≤◌, Option, Some, None, refl, sym, ap, subst, ◌∙◌, arith}
use Rattle.std.specs.Prelude.{Contains}
use Rattle.std.specs.Option.{option_map}
use Rattle.std.specs.FinMap as map
use Rattle.mach_types.specs.Tokens.{send_once, count, is_held}
use Rattle.mach_model.specs.State.{State, Target, Names, at}
use Rattle.mach_model.specs.References.{unused_among}
use Rattle.mach_model.proofs.Names.{at_own, at_other, other_unnamed}
use Rattle.name_space.specs.declared.Entry.{Entry}
use Rattle.name_space.specs.declared.Entry.TheVariants as entry_of
use Rattle.name_space.specs.Names.{SpaceView}
use Rattle.rights.specs.Ledger.{LedgerView, counts_of}
use Rattle.copyin_base.specs.Changes.{PutsLeft}
use Rattle.copyin_base.specs.Shows.{target_of, Agrees, SlotsSuffice, Shows}
use Rattle.copyin_base.specs.Worlds.{WorldView, entry_in, entry_at, put}
use Rattle.copyin_base.proofs.Carriers.{carriers_same}
use Rattle.copyin_base.proofs.Changing.{changed_agrees}
use Rattle.copyin_base.proofs.Holders.{none_receives, put_holders_left}
use Rattle.copyin_base.proofs.Requested.{requested_removed}
use Rattle.copyin_base.proofs.Requesting.{stands_after}
use Rattle.copyin_base.proofs.SendersNoted.{keeps_senders_same, senders_kept}
use Rattle.notifications.proofs.Removing.{Part, with_part, ShowsPart}
use Rattle.notifications.proofs.MessageRights.{posted_is}
use Rattle.notifications.proofs.TaskEnded.{shown, shown_is, lawful_naming, looked_up, stood_left, fewer_left}

no_entry : (e : Entry) → None ≡ Some e → ⊥
no_entry e f = cc

no_target : (t : Target) → None ≡ Some t → ⊥
no_target t f = cc

dead_no_port : (n q : ℕ) → Target.dead n ≡ Target.port q → ⊥
dead_no_port n q e = cc

dead_no_set : (n q : ℕ) → Target.dead n ≡ Target.set q → ⊥
dead_no_set n q e = cc

module _ (now : ℕ) (start : WorldView) (task : ℕ) (s : State) (sh : Shows start s) (w : WorldView) (sp : ShowsPart now start task s w)
    (name n : ℕ) (found : entry_at w task name ≡ Some (entry_of.DeadName n)) (v : WorldView) (r : PutsLeft w task name None v) where
  abbrev x : Part
  x = sp.part

  abbrev u : State
  u = shown now s task x

  a : Agrees w u
  a = subst (Agrees w) (shown_is now s task x) sp.agrees

  target : map.get x.names name ≡ Some (Target.dead n)
  target = sym (looked_up now s task x sh.lawful sp.is_part name) ∙ a.naming task name ∙ ap (option_map target_of) found

  abbrev part : Part
  part = record x { names = map.remove x.names name; stands = stands_after {A = Entry} x.stands task name None }

  abbrev t : State
  t = record u { naming = at s.naming task part.names; stands = part.stands }

  at_name : map.get r.space.names name ≡ Some (entry_of.DeadName n)
  at_name = sym (ap (λ (o : Option SpaceView). entry_in o name) r.there) ∙ found

  own : t.naming task ≡ put (u.naming task) name (option_map target_of None)
  own = at_own s.naming task part.names ∙ ap (λ (m : Names). map.remove m name) (sym (at_own s.naming task x.names))

  agrees : Agrees v t
  agrees = subst (λ (y : WorldView). Agrees y t) (sym r.rest)
      (changed_agrees w u a task name (lawful_naming now s task x sh.lawful sp.is_part) r.space r.there (entry_of.DeadName n) at_name None r.space.room w.ports w.ledger t own sp.requested record {
        rest = refl;
        naming_others = λ q not. at_other s.naming task part.names q not ∙ sym (at_other s.naming task x.names q not);
        held_others = λ q not c m. refl;
        own_references = λ e q is_e en. absurd (no_entry e is_e);
        other_references = λ q not. (refl, refl);
        own_count = λ e is_e. absurd (no_entry e is_e);
        made = refl;
        live = λ q. refl;
        ports = λ q y is. a.ports q y is;
        counts = a.counts;
        total = a.total;
        stands = λ q. refl;
        requests = λ q c m. refl;
        no_set = dead_no_set n;
        given = refl;
      })

  ledger_is : v.ledger ≡ w.ledger
  ledger_is = ap (λ (y : WorldView). y.ledger) r.rest

  pub dead_lost : ShowsPart now start task s v
  dead_lost = record {
    part = part;
    is_part = record {
      fewer = fewer_left x.names (s.naming task) name None (λ q e. absurd (no_target q e)) sp.is_part.fewer;
      named = other_unnamed x.names (λ kind q. count (is_held task kind q) x.kept) (λ kind q. count (is_held task kind q) x.kept) sp.is_part.named (λ q. refl) (λ q. refl)
          name (Target.dead n) target (dead_no_port n) (λ q. omega arith);
      stood = stood_left {A = Entry} s task name x.stands None sp.is_part.stood;
      owned = sp.is_part.owned;
      moves = sp.is_part.moves;
      own = sp.is_part.own;
    };
    agrees = subst (Agrees v) (sym (posted_is now (with_part s task part) (unused_among x.gone))) agrees;
    holders = put_holders_left w v sp.holders task name None r (λ q i. absurd (none_receives q i));
    carriers = carriers_same w v sp.carriers (ap (λ (y : WorldView). y.ports.made) r.rest) (ap (λ (y : WorldView). y.ports.ports) r.rest);
    slots = subst SlotsSuffice (sym r.rest) sp.slots;
    requested = requested_removed w v sp.requested task name r;
    notes = senders_kept start w v sp.notes (keeps_senders_same w v sp.requested (ap (λ (y : WorldView). y.requests.no_senders) r.rest) ledger_is (ap (λ (y : WorldView). y.ports.noted) r.rest));
    left = record {
      doomed = ap (λ (y : WorldView). y.ports.doomed) r.rest ∙ sp.left.doomed;
      destroyed = ap (λ (y : WorldView). y.ports.destroyed) r.rest ∙ sp.left.destroyed;
      lost = λ q c. sp.left.lost q (subst (λ (y : WorldView). Contains y.ports.lost q) r.rest c);
      orphans = λ q o. subst (λ (y : WorldView). Contains y.ports.lost q) (sym r.rest) (sp.left.orphans q o);
    };
    sends = λ q. subst (λ (l : LedgerView). (counts_of l q).send ≤ (counts_of start.ledger q).send) (sym ledger_is) (sp.sends q);
    onces = λ q. subst (λ (l : LedgerView). count (is_held task send_once q) x.kept ≤ (counts_of l q).send_once) (sym ledger_is) (sp.onces q);
  }
