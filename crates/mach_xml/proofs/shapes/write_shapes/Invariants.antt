use Rattle.mach_xml.specs.Elements.{Adds, IsContent}
use Rattle.mach_xml.proofs.shapes.write_shapes.Given as goal

-- what was appended so far is content
abbrev pub invariant-loop-shape : goal.invariant-loop-shape
invariant-loop-shape l = Adds IsContent l.fn.out.items l.out.items
