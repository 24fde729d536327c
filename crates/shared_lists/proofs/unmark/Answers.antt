use Rattle.std.proofs.Common.{refl, sym, subst}
use Rattle.member_lists.specs.Lists.{MarkedView, IsApart, IsMarkedIn}
use Rattle.shared_lists.proofs.Standing.{parted_from}
use Rattle.shared_lists.proofs.unmark.Goals as goal

pub returns-then-is_marked-clause-unmarked : goal.returns-then-is_marked-clause-unmarked
returns-then-is_marked-clause-unmarked c = subst (λ (w : MarkedView). IsApart w.marked c.args.place) (sym c.unmark.ensures) (λ q k.
    let f = parted_from c.args.places.now.marked c.args.list c.args.place q c.args.place k in f.1 (c.requires.single q f.0) refl)

pub returns-else-is_marked-clause-unmarked : goal.returns-else-is_marked-clause-unmarked
returns-else-is_marked-clause-unmarked c = subst (IsMarkedIn c.args.places.now c.args.list c.args.place) c.if-is_marked.false c.requires.marked
