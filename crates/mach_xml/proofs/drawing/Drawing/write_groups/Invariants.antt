use Rattle.mach_xml.specs.Elements.{Adds, IsContent}
use Rattle.mach_xml.proofs.drawing.Drawing.write_groups.Given as goal

-- what was appended so far is content
abbrev pub invariant-loop-group : goal.invariant-loop-group
invariant-loop-group l = Adds IsContent l.fn.out.items l.out.items
