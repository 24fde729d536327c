use Rattle.std.proofs.Common.{rules}
use Rattle.mach_xml.specs.Elements.{Adds, IsElement}
use Rattle.mach_picture.proofs.Alone.{alone}
use Rattle.mach_picture.proofs.svg.write_svg.Goals as goal

pub returns : goal.returns
returns c =
    let added : Adds IsElement c.new-text.result.items c.write.new.out.items = search rules in
    alone c.new-text.result.items c.write.new.out.items (search rules) added
