use Rattle.mach_xml.specs.Characters.{IsText}
use Rattle.mach_xml.specs.Elements.{Adds}
use Rattle.mach_xml.proofs.characters.write_text.Given as goal

-- what was appended so far is text
abbrev pub invariant-loop-byte : goal.invariant-loop-byte
invariant-loop-byte l = Adds IsText l.fn.out.items l.out.items
