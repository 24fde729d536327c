use Rattle.std.proofs.Common.{refl}
use Rattle.mach_scene_base.proofs.Showing.{shown-first}
use Rattle.mach_scene_base.proofs.runs.Runs.after.Goals as goal

pub returns : goal.returns
returns c =
    shown-first c.new-runs.result.items c.push.new.self.items _ _ _ c.new-runs.ensures.items c.in_ok-push.ensures.items refl refl
