use Rattle.std.proofs.Common.{refl, ap, sym, ◌∙◌, ◌&&◌}
use Rattle.std.proofs.lemmas.Bool.{and_from, and_parts}
use Rattle.slab.specs.Slab.{get}
use Rattle.port_base.specs.declared.Holder.TheVariants as Holder
use Rattle.port.specs.Ports.{PortsView}
use Rattle.port_base.specs.Records.{lost_list, doomed_list, noted_list}
use Rattle.port.proofs.Idle.{none_listed, none_waits, none_noted, none_of, no_length}
use Rattle.port.proofs.Waiting.{lost_now, doomed_now, noted_now, held_told, waits_lost, waits_doomed}
use Rattle.port.proofs.Sound.{bare_is, opened}
use Rattle.port.proofs.Ports.is_idle.Goals as goal

pub returns-clause-idle : goal.returns-clause-idle
returns-clause-idle g c = (
  λ yes.
      let both = and_parts (c.is_empty.result && c.is_empty-2.result) c.is_empty-3.result yes in
      let each = and_parts c.is_empty.result c.is_empty-2.result both.0 in
      let waits = c.is_empty.ensures.0 each.0 in
      record {
        lost = sym (lost_now (opened c.self.invariant (bare_is c.self.view_is))) ∙ none_listed (get c.self.inside.records) c.self.inside.waiting waits lost_list;
        doomed = sym (doomed_now (opened c.self.invariant (bare_is c.self.view_is))) ∙ none_listed (get c.self.inside.records) c.self.inside.waiting waits doomed_list;
        noted = sym (noted_now (opened c.self.invariant (bare_is c.self.view_is))) ∙ none_listed (get c.self.inside.records) c.self.inside.noted (c.is_empty-2.ensures.0 each.1) noted_list;
        destroyed = ap (λ (v : PortsView g.row.M.Denot). v.destroyed) (sym (bare_is c.self.view_is)) ∙ none_of c.self.inside.destroyed (sym c.is_empty-3.ensures ∙ both.1);
      },
  λ idle. and_from (c.is_empty.result && c.is_empty-2.result) c.is_empty-3.result
      (and_from c.is_empty.result c.is_empty-2.result
      (c.is_empty.ensures.1 (none_waits (get c.self.inside.records) c.self.inside.waiting c.self.invariant.awaited (lost_now (opened c.self.invariant (bare_is c.self.view_is)) ∙ idle.lost) (doomed_now (opened c.self.invariant (bare_is c.self.view_is)) ∙ idle.doomed)))
      (c.is_empty-2.ensures.1 (none_noted (get c.self.inside.records) c.self.inside.noted c.self.invariant.are_noted (noted_now (opened c.self.invariant (bare_is c.self.view_is)) ∙ idle.noted))))
      (c.is_empty-3.ensures ∙ no_length c.self.inside.destroyed (ap (λ (v : PortsView g.row.M.Denot). v.destroyed) (bare_is c.self.view_is) ∙ idle.destroyed)),
)

pub returns-clause-lost : goal.returns-clause-lost
returns-clause-lost g c = held_told (opened c.self.invariant (bare_is c.self.view_is)) Holder.Nobody lost_list refl waits_lost c.args.self.now.bare.lost (lost_now (opened c.self.invariant (bare_is c.self.view_is)))

pub returns-clause-doomed : goal.returns-clause-doomed
returns-clause-doomed g c = held_told (opened c.self.invariant (bare_is c.self.view_is)) Holder.Doomed doomed_list refl waits_doomed c.args.self.now.bare.doomed (doomed_now (opened c.self.invariant (bare_is c.self.view_is)))
