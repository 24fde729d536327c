use Rattle.std.proofs.Common.{◌≡◌, Option, Some, None, rules, refl, sym, ap, subst, ◌∙◌}
use Rattle.std.specs.Prelude.{is_some}
use Rattle.std.specs.FinMap as map
use Rattle.port.specs.Ports.{PortView}
use Rattle.copyin_base.specs.Kept.{Kept}
use Rattle.copyin_base.specs.Worlds.{port_at}
use Rattle.mach_state.specs.Said.{IsPortSaid}
use Rattle.mach_state.specs.declared.states.PortState.{PortState}
use Rattle.mach_state.proofs.Read.{read_says}
use Rattle.mach_state.proofs.states.port_state.Goals as goal

pub returns-in_err-attributes : goal.returns-in_err-attributes
returns-in_err-attributes c s shown =
    let none : port_at c.args.world.now c.args.port ≡ None = search rules in
    let said : c.from_residual.result ≡ None = search rules in
    subst (λ (o : Option PortState). IsPortSaid s c.args.port o) (sym said) (sym (shown.agrees.live_port c.args.port) ∙ ap is_some none)

pub returns : goal.returns
returns c s shown =
    let w = c.args.world.now in
    let seen : (v : PortView Kept) × (port_at w c.args.port ≡ Some v) × (v.attributes ≡ c.in_ok-attributes.attributes) = search rules in
    let counted : map.get w.ledger.counts c.args.port ≡ Some c.in_ok-counts.counts = search rules in
    read_says w s shown c.args.port seen.0 c.in_ok-attributes.attributes c.in_ok-counts.counts _ (record {
      there = seen.1;
      own = seen.2;
      counted = counted;
      waiting = search rules;
      limit = refl;
      make_send = refl;
      sequence = refl;
      set = refl;
      none = c.find_attributes.ensures.none seen.0 seen.1;
      more_sets = c.count_more_sets.ensures seen.0 seen.1;
      send_rights = search rules;
      once_rights = search rules;
      for_no_senders = search rules;
      for_its_end = search rules;
    })
