use Rattle.std.proofs.Common.{ap, sym, ◌∙◌}
use Rattle.port_base.specs.Memberships.{unreadied}
use Rattle.port_base.proofs.Settled.{some_alone, some_several, home_alone, home_several}
use Rattle.port_base.proofs.moves.unready.Goals as goal

pub make_unready_alone-requires-clause-first : goal.make_unready_alone-requires-clause-first
make_unready_alone-requires-clause-first c = (home_alone c.args.membership c.args.sets.now c.args.key c.requires.home c.in-Alone.set c.in-Alone.is).0

pub make_unready_alone-requires-clause-alone : goal.make_unready_alone-requires-clause-alone
make_unready_alone-requires-clause-alone c = (home_alone c.args.membership c.args.sets.now c.args.key c.requires.home c.in-Alone.set c.in-Alone.is).1

pub make_unready_alone-requires-clause-ready : goal.make_unready_alone-requires-clause-ready
make_unready_alone-requires-clause-ready c = c.requires.ready (some_alone c.args.membership c.in-Alone.set c.in-Alone.is)

pub make_unready-requires-clause-first : goal.make_unready-requires-clause-first
make_unready-requires-clause-first c = (home_several c.args.membership c.args.sets.now c.args.key c.requires.home c.in-Several.first c.in-Several.is).0

pub make_unready-requires-clause-ready : goal.make_unready-requires-clause-ready
make_unready-requires-clause-ready c = c.requires.ready (some_several c.args.membership c.in-Several.first c.in-Several.is)

pub returns-in-Nowhere : goal.returns-in-Nowhere
returns-in-Nowhere c = ap (unreadied c.args.sets.now c.args.key) (sym c.in-Nowhere.is)

pub returns-in-Alone : goal.returns-in-Alone
returns-in-Alone c = c.make_unready_alone.ensures ∙ ap (unreadied c.args.sets.now c.args.key) (sym c.in-Alone.is)

pub returns-in-Several : goal.returns-in-Several
returns-in-Several c = c.make_unready.ensures ∙ ap (unreadied c.args.sets.now c.args.key) (sym c.in-Several.is)
