use Rattle.std.proofs.Common.{rules}
use Rattle.mach_xml.specs.Elements.{Adds, IsElement}
use Rattle.mach_xml.proofs.Adding.{no-content, element-content, adds-content}
use Rattle.mach_page.proofs.page.Page.write_texts.Goals as goal

pub loop-index-init : goal.loop-index-init
loop-index-init c = no-content c.args.out.now.items

pub loop-index-preserved : goal.loop-index-preserved
loop-index-preserved c =
    let next : Adds IsElement c.loop-index.out.items c.write_entry.new.out.items = search rules in
    adds-content c.args.out.now.items c.loop-index.out.items c.write_entry.new.out.items c.loop-index.invariant
    (element-content c.loop-index.out.items c.write_entry.new.out.items next)
