use Rattle.std.proofs.Common.{ap, sym, ◌∙◌}
use Rattle.port_base.specs.Memberships.{readied}
use Rattle.port_base.proofs.Settled.{some_alone, some_several, home_alone, home_several}
use Rattle.port_base.proofs.moves.ready.Goals as goal

pub make_ready_alone-requires-clause-first : goal.make_ready_alone-requires-clause-first
make_ready_alone-requires-clause-first c = (home_alone c.args.membership c.args.sets.now c.args.key c.requires.home c.in-Alone.set c.in-Alone.is).0

pub make_ready_alone-requires-clause-alone : goal.make_ready_alone-requires-clause-alone
make_ready_alone-requires-clause-alone c = (home_alone c.args.membership c.args.sets.now c.args.key c.requires.home c.in-Alone.set c.in-Alone.is).1

pub make_ready_alone-requires-clause-unready : goal.make_ready_alone-requires-clause-unready
make_ready_alone-requires-clause-unready c = c.requires.unready (some_alone c.args.membership c.in-Alone.set c.in-Alone.is)

pub make_ready-requires-clause-first : goal.make_ready-requires-clause-first
make_ready-requires-clause-first c = (home_several c.args.membership c.args.sets.now c.args.key c.requires.home c.in-Several.first c.in-Several.is).0

pub make_ready-requires-clause-unready : goal.make_ready-requires-clause-unready
make_ready-requires-clause-unready c = c.requires.unready (some_several c.args.membership c.in-Several.first c.in-Several.is)

pub returns-in-Nowhere : goal.returns-in-Nowhere
returns-in-Nowhere c = ap (readied c.args.sets.now c.args.key) (sym c.in-Nowhere.is)

pub returns-in-Alone : goal.returns-in-Alone
returns-in-Alone c = c.make_ready_alone.ensures ∙ ap (readied c.args.sets.now c.args.key) (sym c.in-Alone.is)

pub returns-in-Several : goal.returns-in-Several
returns-in-Several c = c.make_ready.ensures ∙ ap (readied c.args.sets.now c.args.key) (sym c.in-Several.is)
