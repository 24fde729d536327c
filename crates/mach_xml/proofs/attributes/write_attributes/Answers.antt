use Rattle.std.proofs.Common.{arith}
use Rattle.mach_xml.specs.declared.attributes.Attribute.{Attribute}
use Rattle.mach_xml.proofs.Naming.{among-none, among-left, among-more, has-attributes}
use Rattle.mach_xml.proofs.attributes.write_attributes.Goals as goal
use Rattle.mach_xml.proofs.attributes.write_attributes.Goals.{then-may_follow+in_ok-write_attribute, else-may_follow}

pub loop-place-init : goal.loop-place-init
loop-place-init c = among-none c.args.out.now.items

pub loop-place-preserved : goal.loop-place-preserved
loop-place-preserved c =
    elim c.if-may_follow.branch [
      | then-may_follow+in_ok-write_attribute w ↦ rw w.out-is
          (among-more (λ (a : Attribute). a.name.now) c.args.attributes.now c.loop-place.place _ c.args.out.now.items c.loop-place.out.items w.write_attribute.new.out.items
          (omega arith) (c.may_follow.ensures.named w.if-may_follow.true) (c.may_follow.ensures.new w.if-may_follow.true) c.loop-place.invariant w.in_ok-write_attribute.ensures)
      | else-may_follow w ↦ rw w.out-is
          (among-left (λ (a : Attribute). a.name.now) c.args.attributes.now c.loop-place.place c.args.out.now.items c.loop-place.out.items (omega arith) c.loop-place.invariant)
    ]

pub returns : goal.returns
returns c = has-attributes _ c.args.out.now.items c.loop-place.out.items c.loop-place.invariant
