use Rattle.std.proofs.Common.{codes, rules}
use Rattle.mach_xml.specs.Elements.{Adds, IsTag}
use Rattle.mach_xml.proofs.Adding.{adds-empty}
use Rattle.mach_xml.proofs.elements.write_empty.Goals as goal

pub returns : goal.returns
returns c =
    let tag : Adds (IsTag c.name-name.result.now (codes "/>")) c.args.out.now.items c.write_tag.new.out.items = search rules in
    adds-empty c.args.out.now.items c.write_tag.new.out.items c.name-name.result.now c.name-name.ensures tag
