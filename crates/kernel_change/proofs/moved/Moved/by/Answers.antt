use Rattle.std.proofs.Common.{ℕ, Option, ◌++◌, ap, ◌∙◌, take}
use Rattle.std.specs.Option.{option_to_list}
use Rattle.kernel_change.specs.Changing.{receives_of, moved_by}
use Rattle.kernel_change.proofs.MovedRights.{receives_more}
use Rattle.kernel_change.proofs.moved.Moved.by.Goals as goal

pub loop-carried-preserved : goal.loop-carried-preserved
loop-carried-preserved c =
    let seen = receives_of (take c.loop-carried.carried-index c.args.rights.now) in
    c.with-moved.ensures seen c.loop-carried.invariant
    ∙ ap moved_by (ap (λ (o : Option ℕ). seen ++ option_to_list o) c.receive_port.ensures ∙ receives_more c.args.rights.now c.loop-carried.carried-index c.carried-item.result c.loop-carried-test.true c.carried-item.is)
