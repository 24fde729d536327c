use Rattle.std.proofs.Common.{List, refl, sym, subst}
use Rattle.mach_model.specs.State.{opening_in}
use Rattle.kernel_lock.specs.declared.entry.Entry.{Entry}
use Rattle.kernel_lock.specs.Replays.{Replays}
use Rattle.mach_say_play.proofs.stage.Stage.new.Goals as goal

pub invariant_of-result : goal.invariant_of-result
invariant_of-result c =
    subst
    (λ (l : List Entry). Replays c.args.profile l c.with_profile.result)
    (sym c.new.ensures.items)
    (record { state = opening_in c.args.profile; leads = refl; shown = c.with_profile.ensures.shows })
