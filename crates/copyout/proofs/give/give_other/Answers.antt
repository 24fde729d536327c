use Rattle.std.proofs.Common.{◌∙◌, ap}
use Rattle.std.specs.Option.{option_and_then}
use Rattle.mach_types.specs.Numbers.{kind_sent}
use Rattle.name_space.specs.Entry.{port_named}
use Rattle.copyout.proofs.PortsGiven.{can_take}
use Rattle.copyout.proofs.Gives.{found_in}
use Rattle.copyout.proofs.give.give_other.Goals as goal

pub join-requires-clause-can : goal.join-requires-clause-can
join-requires-clause-can c =
    let r = c.requires in
    let e = c.in-Some.ensures in
    record {
      space = r.space;
      there = r.there;
      not_once = e.some.0;
      named = ap (option_and_then port_named) (found_in c.args.world.now c.args.task c.in-Some.named.name r.space c.in-Some.named.entry r.there e.found) ∙ e.some.1;
      live = r.live;
      entered = r.entered;
      counted = r.counted;
      none_lost = r.none_lost;
    }

pub take_name-requires : goal.take_name-requires
take_name-requires c =
    let r = c.requires in
    can_take c.args.world.now c.args.task (kind_sent c.args.given) c.args.port r (λ not_once. c.in-None.ensures.none not_once r.space r.there)
