use Rattle.std.proofs.Common.{rules}
use Rattle.mach_xml.specs.Elements.{Adds, IsElement}
use Rattle.mach_xml.proofs.Adding.{no-content, element-content, adds-content}
use Rattle.mach_page.proofs.page.Page.write_rules.Goals as goal

pub loop-rules-init : goal.loop-rules-init
loop-rules-init c = no-content c.args.out.now.items

pub loop-rules-preserved : goal.loop-rules-preserved
loop-rules-preserved c =
    let next : Adds IsElement c.loop-rules.out.items c.write_texted.new.out.items = search rules in
    adds-content c.args.out.now.items c.loop-rules.out.items c.write_texted.new.out.items c.loop-rules.invariant
    (element-content c.loop-rules.out.items c.write_texted.new.out.items next)
