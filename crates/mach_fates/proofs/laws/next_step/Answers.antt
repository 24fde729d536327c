use Rattle.mach_fates.proofs.Stepping.{goes_on}
use Rattle.mach_fates.proofs.laws.next_step.Goals as goal

pub returns : goal.returns
returns c =
    goes_on c.every_run_is_lawful.ensures c.runs_are_paths.ensures.run c.order.ensures c.received_messages_mean.ensures c.too_long_is_destroyed.ensures
    c.refusals_change_nothing.ensures c.rights_are_made_by_these.ensures c.one_receive_right.ensures
