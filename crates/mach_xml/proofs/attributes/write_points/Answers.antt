use Rattle.mach_xml.specs.Characters.{IsText}
use Rattle.mach_xml.specs.Elements.{Adds}
use Rattle.std.proofs.Common.{rules}
use Rattle.mach_xml.proofs.Adding.{adds-nothing, adds-text}
use Rattle.mach_xml.proofs.attributes.write_points.Goals as goal

pub loop-point-init : goal.loop-point-init
loop-point-init c = adds-nothing c.args.out.now.items

pub loop-point-preserved : goal.loop-point-preserved
loop-point-preserved c =
    let next : Adds IsText c.loop-point.out.items c.write_point.new.out.items = search rules in
    adds-text c.args.out.now.items c.loop-point.out.items c.write_point.new.out.items c.loop-point.invariant next
