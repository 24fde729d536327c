use Rattle.std.proofs.Common.{refl, rules}
use Rattle.mach_scene_base.proofs.Showing.{shown-longer}
use Rattle.mach_scene_base.proofs.runs.Runs.note.Goals as goal

pub returns-then-last-lt18446744073709551615 : goal.returns-then-last-lt18446744073709551615
returns-then-last-lt18446744073709551615 c =
    shown-longer c.args.self.now.runs.items c.pop.new.self.items c.put.new.self.runs.items c.in-Some.last _ c.args.thing
    (search rules) (search rules) c.in_ok-put.ensures refl refl
