use Rattle.mach_xml.specs.Elements.{Adds, IsContent}
use Rattle.mach_page.proofs.page.write_metas.Given as goal

-- what was appended so far is content
abbrev pub invariant-loop-attributes : goal.invariant-loop-attributes
invariant-loop-attributes l = Adds IsContent l.fn.out.items l.out.items
