use Rattle.std.proofs.Common.{◌≡◌, Some, sym, ap, ◌∙◌, rules}
use Rattle.std.specs.Prelude.{◌≢◌}
use Rattle.port.specs.Ports.{PortView}
use Rattle.port.specs.declared.Attributes.{Attributes}
use Rattle.port.specs.declared.Holder.TheVariants.{Task}
use Rattle.copyin_base.specs.Kept.{Kept}
use Rattle.copyin_base.specs.Worlds.{port_at}
use Rattle.mach_causes_base.proofs.facts.is_kept_from.Goals as goal

pub returns-in-Some : goal.returns-in-Some
returns-in-Some c told =
    let other : c.in-Some.attributes.holder ≢ Task c.args.task = search rules in
    let seen : (view : PortView Kept) × (port_at c.args.world.now c.args.port ≡ Some view) × (view.attributes ≡ c.in-Some.attributes) = search rules in
    record {
      view = seen.0;
      there = seen.1;
      kept = λ is. other (sym (ap (λ (a : Attributes). a.holder) seen.2) ∙ is);
    }
