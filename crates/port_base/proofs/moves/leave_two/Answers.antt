use Rattle.std.proofs.Common.{subst, ap, sym, ◌∙◌}
use Rattle.port_base.specs.Ready.{StandsIn, out_of}
use Rattle.port_base.proofs.Moved.{moved_out}
use Rattle.port_base.proofs.moves.leave_two.Goals as goal

pub returns-in-Some-clause-moved : goal.returns-in-Some-clause-moved
returns-in-Some-clause-moved c = moved_out c.args.lists.now c.remove.new.self c.args.key c.in-Some.list (subst (λ o. StandsIn c.args.lists.now c.args.key o) c.in-Some.is c.requires.was) c.remove.ensures

pub returns-in-Some-clause-left : goal.returns-in-Some-clause-left
returns-in-Some-clause-left c = c.remove.ensures ∙ ap (out_of c.args.lists.now c.args.key) (sym c.in-Some.is)
