use Rattle.kernel_change.proofs.ReceivedNames.{all_found, one_found}
use Rattle.kernel_change.proofs.received.Received.by.Goals as goal

pub loop-descriptor-preserved : goal.loop-descriptor-preserved
loop-descriptor-preserved c =
    one_found c.args.body.now c.loop-descriptor.received c.loop-descriptor.rest.now c.in-Some.descriptor c.with_item-received.result c.behind_item-rest.result.now
    c.loop-descriptor.invariant c.in-Some.ensures.some.0 c.in-Some.ensures.some.1 c.with_item-received.ensures c.behind_item-rest.ensures

pub returns : goal.returns
returns c = all_found c.args.body.now c.loop-descriptor.received c.loop-descriptor.rest.now c.loop-descriptor.invariant c.in_default.ensures.none
