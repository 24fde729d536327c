use Rattle.std.proofs.Common.{rules}
use Rattle.mach_xml.specs.Elements.{Adds, IsElement}
use Rattle.mach_xml.proofs.Adding.{no-content, element-content, adds-content}
use Rattle.mach_xml.proofs.shapes.write_shapes.Goals as goal

pub loop-shape-init : goal.loop-shape-init
loop-shape-init c = no-content c.args.out.now.items

pub loop-shape-preserved : goal.loop-shape-preserved
loop-shape-preserved c =
    let next : Adds IsElement c.loop-shape.out.items c.write.new.out.items = search rules in
    adds-content c.args.out.now.items c.loop-shape.out.items c.write.new.out.items c.loop-shape.invariant
    (element-content c.loop-shape.out.items c.write.new.out.items next)
