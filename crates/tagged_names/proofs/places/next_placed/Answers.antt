use Rattle.std.proofs.Common.{sym, ◌∙◌}
use Rattle.tagged_names.proofs.Nexts.{NoneHere, next_here, next_above, none_here, less_here}
use Rattle.tagged_names.proofs.places.next_placed.Goals.{in-Some+else-from-slot, in_default}
use Rattle.tagged_names.proofs.places.next_placed.Goals as goal

pub returns-then-from-slot-clause-found : goal.returns-then-from-slot-clause-found
returns-then-from-slot-clause-found g c = next_here c.args.slots.now.values c.requires c.args.from c.in-Some.slot (sym c.in-Some.ensures) c.if-from-slot.true

pub returns-clause-found : goal.returns-clause-found
returns-clause-found g c =
    let none : NoneHere c.args.slots.now.values c.requires c.args.from = elim c.match-get.branch [
      | in-Some+else-from-slot w ↦ less_here c.args.slots.now.values c.requires c.args.from w.in-Some.slot (sym w.in-Some.ensures) w.if-from-slot.false
      | in_default w ↦ none_here c.args.slots.now.values c.requires c.args.from (sym c.get.ensures ∙ w.in_default.is)
    ] in
    next_above c.args.slots.now.values c.requires c.args.from none c.in_ok-next.next c.in_ok-slot.slot c.in_ok-next.ensures.found (sym c.in_ok-slot.ensures)
