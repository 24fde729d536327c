use Rattle.std.proofs.Common.{rules}
use Rattle.mach_xml.specs.Characters.{IsText}
use Rattle.mach_xml.specs.Elements.{Adds, IsContent, IsElement}
use Rattle.mach_xml.proofs.Adding.{no-content, text-content, element-content, adds-content}
use Rattle.mach_xml.proofs.drawing.Drawing.write_groups.Goals as goal

pub loop-group-init : goal.loop-group-init
loop-group-init c = no-content c.args.out.now.items

pub loop-group-preserved : goal.loop-group-preserved
loop-group-preserved c =
    let line : Adds IsText c.loop-group.out.items c.write_text.new.out.items = search rules in
    let next : Adds IsElement c.write_text.new.out.items c.write_group.new.out.items = search rules in
    let both : Adds IsContent c.loop-group.out.items c.write_group.new.out.items =
    adds-content c.loop-group.out.items c.write_text.new.out.items c.write_group.new.out.items
    (text-content c.loop-group.out.items c.write_text.new.out.items line)
    (element-content c.write_text.new.out.items c.write_group.new.out.items next) in
    adds-content c.args.out.now.items c.loop-group.out.items c.write_group.new.out.items c.loop-group.invariant both
