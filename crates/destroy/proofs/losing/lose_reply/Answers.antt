use Rattle.std.proofs.Common.{[], sym, subst, Option}
use Rattle.std.specs.Option.{option_to_list}
use Rattle.copyin_base.specs.declared.Carried.{Carried}
use Rattle.destroy.specs.Losing.{LosesTo, IsLosing}
use Rattle.destroy.proofs.LoseRights.{can_first, loses_single}
use Rattle.destroy.proofs.BurySteps.{loses_spaces}
use Rattle.destroy.proofs.losing.lose_reply.Goals as goal

pub lose_right-requires : goal.lose_right-requires
lose_right-requires c = can_first c.in-Some.carried c.args.world.now (subst (λ (o : Option Carried). IsLosing (option_to_list o) c.args.world.now) c.in-Some.is c.requires)

pub returns-in-Some-clause-loses : goal.returns-in-Some-clause-loses
returns-in-Some-clause-loses c = subst (λ (o : Option Carried). LosesTo (option_to_list o) [] c.args.world.now c.lose_right.result c.lose_right.new.world) (sym c.in-Some.is)
    (loses_single c.in-Some.carried c.args.world.now c.lose_right.result c.lose_right.new.world c.lose_right.ensures)

pub returns-in-Some-clause-spaces : goal.returns-in-Some-clause-spaces
returns-in-Some-clause-spaces c = loses_spaces c.args.world.now c.in-Some.carried c.lose_right.result c.lose_right.new.world c.lose_right.ensures
