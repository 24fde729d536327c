use Rattle.std.proofs.Common.{refl}
use Rattle.mach_scene_base.proofs.Showing.{shown-one}
use Rattle.mach_scene_base.proofs.runs.Runs.add.Goals as goal

pub returns : goal.returns
returns c = shown-one c.args.self.now.runs.items c.put.new.self.runs.items _ c.args.thing c.in_ok-put.ensures refl refl
