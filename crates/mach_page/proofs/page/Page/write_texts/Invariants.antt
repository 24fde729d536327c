use Rattle.mach_xml.specs.Elements.{Adds, IsContent}
use Rattle.mach_page.proofs.page.Page.write_texts.Given as goal

-- what was appended so far is content
abbrev pub invariant-loop-index : goal.invariant-loop-index
invariant-loop-index l = Adds IsContent l.fn.out.items l.out.items
