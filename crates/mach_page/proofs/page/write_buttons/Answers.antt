use Rattle.std.proofs.Common.{rules}
use Rattle.mach_xml.specs.Elements.{Adds, IsElement}
use Rattle.mach_xml.proofs.Adding.{no-content, element-content, adds-content}
use Rattle.mach_page.proofs.page.write_buttons.Goals as goal

pub loop-button-init : goal.loop-button-init
loop-button-init c = no-content c.args.out.now.items

pub loop-button-preserved : goal.loop-button-preserved
loop-button-preserved c =
    let next : Adds IsElement c.loop-button.out.items c.write_texted.new.out.items = search rules in
    adds-content c.args.out.now.items c.loop-button.out.items c.write_texted.new.out.items c.loop-button.invariant
    (element-content c.loop-button.out.items c.write_texted.new.out.items next)
