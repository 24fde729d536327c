use Rattle.std.proofs.Common.{◌∷◌, sym, subst, Contains}
use Rattle.shared_lists.specs.Shared.{more_of}
use Rattle.shared_lists.proofs.Leaving.{in_tail}
use Rattle.shared_lists.proofs.Marking.{head_in, tail_in}
use Rattle.port_base.proofs.moves.is_one_of.Goals as goal

pub returns-then-first-set-clause-yes : goal.returns-then-first-set-clause-yes
returns-then-first-set-clause-yes c e = subst (λ x. Contains (c.args.first ∷ more_of c.args.sets.now c.args.key) x) c.if-first-set.true (head_in c.args.first (more_of c.args.sets.now c.args.key))

pub returns-clause-yes : goal.returns-clause-yes
returns-clause-yes c e = tail_in c.args.first c.args.set (more_of c.args.sets.now c.args.key) (c.is_further.ensures.yes e)

pub returns-clause-no : goal.returns-clause-no
returns-clause-no c e = λ inside. c.is_further.ensures.no e (in_tail c.args.first c.args.set (more_of c.args.sets.now c.args.key) inside (λ same. c.if-first-set.false (sym same)))
