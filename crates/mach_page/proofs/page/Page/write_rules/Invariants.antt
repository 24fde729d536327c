use Rattle.mach_xml.specs.Elements.{Adds, IsContent}
use Rattle.mach_page.proofs.page.Page.write_rules.Given as goal

-- what was appended so far is content
abbrev pub invariant-loop-rules : goal.invariant-loop-rules
invariant-loop-rules l = Adds IsContent l.fn.out.items l.out.items
