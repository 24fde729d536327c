use Rattle.notifications.proofs.TaskEnded.{closed_ends}
use Rattle.notifications.proofs.NameLost.{none_over, can_lose_next, not_dead, one_more, less_to_come, all_gone, closed_bare, closed_uses}
use Rattle.notifications.proofs.ending.end_task.Goals as goal

pub loop-named-init : goal.loop-named-init
loop-named-init c = none_over c.args.world.now c.args.task c.null-from.result c.take_space-space.new.self c.null-from.ensures c.take_space-space.ensures.taken

pub lose_name-requires : goal.lose_name-requires
lose_name-requires c = can_lose_next c.args.world.now c.args.task c.loop-named.from c.loop-named.world c.loop-named.invariant c.take_space-space.result c.take_space-space.ensures.kept c.requires.stands c.in-Some.named.name c.in-Some.named.entry c.in-Some.ensures.found

pub after-from-requires : goal.after-from-requires
after-from-requires c = not_dead c.args.world.now c.args.task c.loop-named.from c.loop-named.world c.loop-named.invariant c.take_space-space.result c.take_space-space.ensures.kept c.requires.stands c.in-Some.named.name c.in-Some.named.entry c.in-Some.ensures.found

pub loop-named-smaller : goal.loop-named-smaller
loop-named-smaller c = less_to_come c.args.world.now c.args.task c.loop-named.from c.loop-named.world c.loop-named.invariant c.take_space-space.result c.take_space-space.ensures.kept c.requires.stands c.in-Some.named.name c.in-Some.named.entry c.in-Some.ensures.found c.after-from.result c.after-from.ensures.value c.after-from.ensures.small

pub loop-named-preserved : goal.loop-named-preserved
loop-named-preserved c = one_more c.args.world.now c.args.task c.loop-named.from c.loop-named.world c.loop-named.invariant c.take_space-space.result c.take_space-space.ensures.kept c.requires.stands c.in-Some.named.name c.in-Some.named.entry c.in-Some.ensures.found c.lose_name.new.world c.lose_name.ensures c.after-from.result c.after-from.ensures.value

pub returns-clause-ends : goal.returns-clause-ends
returns-clause-ends c = closed_ends c.args.world.now c.args.task c.loop-named.invariant.bare c.loop-named.world c.loop-named.invariant.ends
    (all_gone c.args.world.now c.args.task c.loop-named.from c.loop-named.world c.loop-named.invariant c.take_space-space.result c.take_space-space.ensures.kept c.in_default.ensures.none)
    (closed_bare c.args.world.now c.args.task c.loop-named.from c.loop-named.world c.loop-named.invariant c.take_space-space.result c.take_space-space.ensures.kept)

pub returns-clause-spares : goal.returns-clause-spares
returns-clause-spares c = closed_uses c.args.world.now c.loop-named.invariant.bare c.loop-named.world c.args.task c.loop-named.invariant.uses
    (closed_bare c.args.world.now c.args.task c.loop-named.from c.loop-named.world c.loop-named.invariant c.take_space-space.result c.take_space-space.ensures.kept)
