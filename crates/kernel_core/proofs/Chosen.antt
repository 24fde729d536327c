-- Tables in which other members have their turns at sets.
use Rattle.std.proofs.Common.{◌≡◌, ◌≢◌, ◌⊎◌, ℕ, inl, inr, Option, Some, None, slice_get, refl, sym, ap, subst, ◌∙◌}
use Rattle.mach_types.specs.declared.calls.Waited.{Waited}
use Rattle.mach_model.specs.State.{State}
use Rattle.port.specs.Ports.{PortsView, PassesTurn}
use Rattle.port.specs.Turns.{ReadyLists, turns_of}
use Rattle.port.proofs.Keys.{equal_or_not, same_some}
use Rattle.copyin_base.specs.Kept.{Kept}
use Rattle.copyin_base.specs.Worlds.{WorldView}
use Rattle.copyin_base.specs.Shows.{Agrees, CarriersAgree, HoldersAgree, RequestsStand, Shows}
use Rattle.copyin_base.specs.Stands.{Stands}
use Rattle.kernel_core.specs.Choices.{SameButTurns}
use Rattle.kernel_core.specs.InTurn.{PassesIn}

abbrev pub with_turns : WorldView → ReadyLists → WorldView
with_turns w turns = record w { ports = record w.ports { ready = turns } }

-- no state has turns
module _ (w : WorldView) (turns : ReadyLists) where
  pub agrees-turns : (s : State) → Agrees w s → Agrees (with_turns w turns) s
  agrees-turns s a = record {
    spaces = a.spaces;
    rights = a.rights;
    live_port = a.live_port;
    ports_made = a.ports_made;
    ports = a.ports;
    counts = a.counts;
    total = a.total;
    in_sets = a.in_sets;
    of_requests = a.of_requests;
  }

  pub holders-turns : HoldersAgree w → HoldersAgree (with_turns w turns)
  holders-turns h = record { held = h.held }

  pub carriers-turns : CarriersAgree w → CarriersAgree (with_turns w turns)
  carriers-turns c = record { given = c.given; carried = c.carried }

  pub requested-turns : RequestsStand w → RequestsStand (with_turns w turns)
  requested-turns r = record {
    on_names = λ key request is.
        let x = r.on_names key request is in
        record { own = x.own; small = x.small; entry = x.entry; found = x.found; for_port = x.for_port; live = x.live };
    no_senders = r.no_senders;
    port_destroyed = r.port_destroyed;
  }

  pub shows-turns : (s : State) → Shows w s → Shows (with_turns w turns) s
  shows-turns s shown = record {
    agrees = agrees-turns s shown.agrees;
    holders = holders-turns shown.holders;
    carriers = carriers-turns shown.carriers;
    slots = shown.slots;
    requested = requested-turns shown.requested;
    idle = record {
      none_lost = record { lost = shown.idle.none_lost.lost; doomed = shown.idle.none_lost.doomed; destroyed = shown.idle.none_lost.destroyed };
      noted = shown.idle.noted;
      went = shown.idle.went;
    };
    lawful = shown.lawful;
  }

pub turned-shows : (old new : WorldView) (s : State) → SameButTurns old new → Shows old s → Shows new s
turned-shows old new s same shown = subst (λ (w : WorldView). Shows w s) (sym same) (shows-turns old new.ports.ready s shown)

pub turned-stands : (old new : WorldView) → SameButTurns old new → Stands old → Stands new
turned-stands old new same stands = record { state = stands.state; shown = turned-shows old new stands.state same stands.shown }

pub turned-twice : (a b c : WorldView) → SameButTurns a b → SameButTurns b c → SameButTurns a c
turned-twice a b c first second = second ∙ ap (λ (w : WorldView). with_turns w c.ports.ready) first

-- ---- a turn is passed

first_or_not : (o : Option ℕ) (port : ℕ) → (o ≡ Some port) ⊎ (o ≢ Some port)
first_or_not None port = inr (λ e. cc)
first_or_not (Some q) port = elim (equal_or_not q port) [ inl e ↦ inl (ap (λ (n : ℕ). Some n) e) | inr d ↦ inr (λ e. d (same_some q port e)) ]

ports-passed : (old new : PortsView Kept) (set port : ℕ) → PassesTurn old set port new → new ≡ record old { ready = new.ready }
ports-passed old new set port p = elim (first_or_not (slice_get (turns_of old.ready set) 0) port) [
  | inl is ↦ (let e = p.its is in e ∙ ap (λ (r : ReadyLists). record old { ready = r }) (sym (ap (λ (x : PortsView Kept). x.ready) e)))
  | inr d ↦ subst (λ (x : PortsView Kept). x ≡ record old { ready = x.ready }) (sym (p.other d)) refl
]

pub passed-turns : (old new : WorldView) (set port : ℕ) → PassesTurn old.ports set port new.ports → new ≡ record old { ports = new.ports } → SameButTurns old new
passed-turns old new set port p rest = rest ∙ ap (λ (x : PortsView Kept). record old { ports = x }) (ports-passed old.ports new.ports set port p)

pub passes-in : (old new : WorldView) (waited : Waited) (port : ℕ) → PassesIn old waited port new → SameButTurns old new
passes-in old new (Waited.Port p) port e = subst (SameButTurns old) (sym e) refl
passes-in old new (Waited.Set set) port h = passed-turns old new set port h.0 h.1

-- in a loop, after what was passed before
pub passed-more : (a b c : WorldView) (set port : ℕ) → SameButTurns a b → PassesTurn b.ports set port c.ports → c ≡ record b { ports = c.ports } → SameButTurns a c
passed-more a b c set port before p rest = turned-twice a b c before (passed-turns b c set port p rest)
