use Rattle.std.proofs.Common.{sym, subst, Contains}
use Rattle.member_lists.specs.Lists.{MarkedView, list_of, IsApart}
use Rattle.shared_lists.proofs.Standing.{joined_new}
use Rattle.shared_lists.proofs.join.Goals as goal

pub mark-requires-clause-there : goal.mark-requires-clause-there
mark-requires-clause-there c = subst (λ (w : MarkedView). Contains (list_of w.all c.args.list) c.args.place) (sym c.push.ensures) (joined_new c.args.places.now.all c.args.list c.args.place)

pub mark-requires-clause-unmarked : goal.mark-requires-clause-unmarked
mark-requires-clause-unmarked c = subst (λ (w : MarkedView). IsApart w.marked c.args.place) (sym c.push.ensures) c.requires.unmarked
