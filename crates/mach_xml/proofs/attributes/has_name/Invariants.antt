use Rattle.std.proofs.Common.{Contains, map, take}
use Rattle.mach_xml.specs.declared.attributes.Attribute.{Attribute}
use Rattle.mach_xml.proofs.attributes.has_name.Given as goal

-- none so far has the name
abbrev pub invariant-loop-attribute : goal.invariant-loop-attribute
invariant-loop-attribute l = Contains (map (λ (a : Attribute). a.name.now) (take l.attribute-index l.attributes)) l.name → ⊥
