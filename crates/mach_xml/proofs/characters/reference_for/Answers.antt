use Rattle.mach_xml.specs.Characters.IsReference.{quote, ampersand, less, greater, stop, arrow, ellipsis}
use Rattle.mach_xml.proofs.characters.reference_for.Goals as goal

pub returns-in-34 : goal.returns-in-34
returns-in-34 c = quote

pub returns-in-38 : goal.returns-in-38
returns-in-38 c = ampersand

pub returns-in-60 : goal.returns-in-60
returns-in-60 c = less

pub returns-in-62 : goal.returns-in-62
returns-in-62 c = greater

pub returns-in-1 : goal.returns-in-1
returns-in-1 c = arrow

pub returns-in-2 : goal.returns-in-2
returns-in-2 c = ellipsis

pub returns-in_default : goal.returns-in_default
returns-in_default c = stop
