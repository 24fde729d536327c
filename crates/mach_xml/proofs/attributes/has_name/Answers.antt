use Rattle.std.proofs.Common.{arith}
use Rattle.mach_xml.specs.declared.attributes.Attribute.{Attribute}
use Rattle.mach_xml.proofs.Naming.{not-in-more, none-has}
use Rattle.mach_xml.proofs.attributes.has_name.Goals as goal

pub loop-attribute-preserved : goal.loop-attribute-preserved
loop-attribute-preserved c =
    not-in-more (λ (a : Attribute). a.name.now) c.args.attributes.now c.loop-attribute.attribute-index _ c.args.name.now c.eq.result
    (omega arith) c.loop-attribute.invariant c.eq.ensures c.if-eq.false

pub returns : goal.returns
returns c _ = none-has (λ (a : Attribute). a.name.now) c.args.attributes.now c.loop-attribute.attribute-index c.args.name.now (omega arith) c.loop-attribute.invariant
