use Rattle.mach_xml.specs.Elements.{Adds, IsContent}
use Rattle.mach_page.proofs.page.write_buttons.Given as goal

-- what was appended so far is content
abbrev pub invariant-loop-button : goal.invariant-loop-button
invariant-loop-button l = Adds IsContent l.fn.out.items l.out.items
