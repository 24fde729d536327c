use Rattle.std.proofs.Common.{◌∙◌, sym, ap}
use Rattle.std.specs.Prelude.{is_some}
use Rattle.mach_types.specs.Numbers.{kind_sent}
use Rattle.copyout.proofs.Counted.{joins_puts}
use Rattle.copyout.proofs.Gives.{can_join, can_insert, puts-new}
use Rattle.copyout.proofs.put.put_right.Goals as goal

pub join-requires-clause-can : goal.join-requires-clause-can
join-requires-clause-can c = can_join c.args.world.now c.args.task (kind_sent c.args.given) c.args.port c.args.name c.requires (sym (ap is_some c.lookup.ensures.value) ∙ ap is_some c.in-Some.is)

pub put_alone-requires-clause-can : goal.put_alone-requires-clause-can
put_alone-requires-clause-can c = can_insert c.args.world.now c.args.task (kind_sent c.args.given) c.args.port c.args.name c.requires (sym (ap is_some c.lookup.ensures.value) ∙ ap is_some c.in-None.is)

pub returns-in-Some : goal.returns-in-Some
returns-in-Some c = joins_puts c.args.world.now c.args.task (kind_sent c.args.given) c.args.port c.args.name c.join.new.world c.join.ensures (sym (ap is_some c.lookup.ensures.value) ∙ ap is_some c.in-Some.is)

pub returns-in-None : goal.returns-in-None
returns-in-None c = puts-new c.args.world.now c.put_alone.new.world c.args.task (kind_sent c.args.given) c.args.port c.args.name c.requires
    (sym (ap is_some c.lookup.ensures.value) ∙ ap is_some c.in-None.is) c.put_alone.ensures
