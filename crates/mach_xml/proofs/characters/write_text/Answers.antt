use Rattle.mach_xml.specs.Characters.{IsText}
use Rattle.mach_xml.specs.Elements.{Adds}
use Rattle.std.proofs.Common.{rules}
use Rattle.mach_xml.proofs.Adding.{adds-nothing, adds-text}
use Rattle.mach_xml.proofs.characters.write_text.Goals as goal

pub loop-byte-init : goal.loop-byte-init
loop-byte-init c = adds-nothing c.args.out.now.items

pub loop-byte-preserved : goal.loop-byte-preserved
loop-byte-preserved c =
    let next : Adds IsText c.loop-byte.out.items c.write_byte.new.out.items = search rules in
    adds-text c.args.out.now.items c.loop-byte.out.items c.write_byte.new.out.items c.loop-byte.invariant next
