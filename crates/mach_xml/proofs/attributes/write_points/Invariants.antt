use Rattle.mach_xml.specs.Characters.{IsText}
use Rattle.mach_xml.specs.Elements.{Adds}
use Rattle.mach_xml.proofs.attributes.write_points.Given as goal

-- what was appended so far is text
abbrev pub invariant-loop-point : goal.invariant-loop-point
invariant-loop-point l = Adds IsText l.fn.out.items l.out.items
