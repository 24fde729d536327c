use Rattle.number_map.proofs.Rows.{head_low, led_head, led_on}
use Rattle.number_map.proofs.lead.Goals as goal

pub lead_below-requires-clause-inside : goal.lead_below-requires-clause-inside
lead_below-requires-clause-inside g c = rw c.slot_of-slot.ensures.value (head_low c.args.nodes.now c.args.heads.now c.args.key c.requires.way)

pub returns-then-head-eq0-clause-led : goal.returns-then-head-eq0-clause-led
returns-then-head-eq0-clause-led g c =
    led_head c.args.nodes.now c.args.heads.now c.args.key c.args.to c.slot_of-slot.result c.slot_of-slot.ensures.value c.slot_of-slot.ensures.few c.if-head-eq0.true c.requires.above

pub returns-else-head-eq0-clause-led : goal.returns-else-head-eq0-clause-led
returns-else-head-eq0-clause-led g c =
    led_on c.args.nodes.now c.lead_below.new.nodes c.args.heads.now c.args.key c.args.to c.slot_of-slot.result c.slot_of-slot.ensures.value c.lead_below.ensures.led
