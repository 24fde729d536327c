use Rattle.std.proofs.Common.{rules}
use Rattle.mach_xml.specs.Characters.{IsText}
use Rattle.mach_xml.specs.Elements.{Adds}
use Rattle.mach_xml.proofs.Adding.{adds-text}
use Rattle.mach_xml.proofs.attributes.write_curve.Goals as goal

pub returns : goal.returns
returns c =
    let first : Adds IsText c.args.out.now.items c.write_stretch.new.out.items = search rules in
    let next : Adds IsText c.write_stretch.new.out.items c.write_stretch-2.new.out.items = search rules in
    adds-text c.args.out.now.items c.write_stretch.new.out.items c.write_stretch-2.new.out.items first next
