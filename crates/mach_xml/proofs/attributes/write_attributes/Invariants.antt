use Rattle.std.proofs.Common.{map, take}
use Rattle.mach_xml.specs.Elements.{Adds}
use Rattle.mach_xml.specs.declared.attributes.Attribute.{Attribute}
use Rattle.mach_xml.proofs.Naming.{Among}
use Rattle.mach_xml.proofs.attributes.write_attributes.Given as goal

-- what was appended so far are attributes, with names of those that were passed
abbrev pub invariant-loop-place : goal.invariant-loop-place
invariant-loop-place l = Adds (Among (map (λ (a : Attribute). a.name.now) (take l.place l.attributes))) l.fn.out.items l.out.items
