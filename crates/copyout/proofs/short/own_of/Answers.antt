use Rattle.std.proofs.Common.{[], Option, sym, subst}
use Rattle.std.specs.Option.{option_to_list}
use Rattle.copyin_base.specs.declared.Carried.{Carried}
use Rattle.copyout.specs.Short.{own_names}
use Rattle.copyout.specs.Room.{Needs}
use Rattle.copyout.proofs.Delivered.{one_needs, own_of}
use Rattle.copyout.proofs.short.own_of.Goals as goal

pub returns-in-Some-clause-needs : goal.returns-in-Some-clause-needs
returns-in-Some-clause-needs c =
    subst (λ (o : Option Carried). Needs c.args.world.now.ports c.args.space.now.names [] (option_to_list o) (own_names c.own_port.result)) (sym c.in-Some.is)
    (one_needs c.args.world.now.ports c.args.space.now.names c.in-Some.carried c.own_port.result c.own_port.ensures)

pub returns-in-Some-clause-own : goal.returns-in-Some-clause-own
returns-in-Some-clause-own c = own_of c.args.world.now.ports c.args.space.now.names c.in-Some.carried c.args.right.now c.in-Some.is c.own_port.result c.own_port.ensures
