-- What runs stand for.
use Rattle.std.specs.Prelude.{List, [], ◌∷◌, ◌++◌, replicate}
use Rattle.mach_scene_base.specs.declared.thing.Thing.{Thing}
use Rattle.mach_scene_base.specs.declared.runs.Run.{Run}

-- The thing of each run, as often as the run counts.
unfoldable pub shown : List Run → List Thing
shown [] = []
shown (run ∷ runs) = replicate run.count run.thing ++ shown runs
