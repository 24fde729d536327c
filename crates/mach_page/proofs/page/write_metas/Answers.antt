use Rattle.std.proofs.Common.{rules}
use Rattle.mach_xml.specs.Elements.{Adds, IsElement}
use Rattle.mach_xml.proofs.Adding.{no-content, element-content, adds-content}
use Rattle.mach_page.proofs.page.write_metas.Goals as goal

pub loop-attributes-init : goal.loop-attributes-init
loop-attributes-init c = no-content c.args.out.now.items

pub loop-attributes-preserved : goal.loop-attributes-preserved
loop-attributes-preserved c =
    let next : Adds IsElement c.loop-attributes.out.items c.write_empty.new.out.items = search rules in
    adds-content c.args.out.now.items c.loop-attributes.out.items c.write_empty.new.out.items c.loop-attributes.invariant
    (element-content c.loop-attributes.out.items c.write_empty.new.out.items next)
