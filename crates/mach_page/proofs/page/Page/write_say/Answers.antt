use Rattle.std.proofs.Common.{◌≡◌, ◌++◌, codes, rules}
use Rattle.mach_xml.specs.Elements.{Adds, IsContent, IsTag, end_tag}
use Rattle.mach_xml.proofs.Adding.{adds-full}
use Rattle.mach_page.proofs.page.Page.write_say.Goals as goal

pub returns : goal.returns
returns c =
    let tag : Adds (IsTag (codes "div") (codes ">")) c.args.out.now.items c.write_tag.new.out.items = search rules in
    let part1 : Adds IsContent c.write_tag.new.out.items c.write_texts.new.out.items = search rules in
    let last : c.write_end.new.out.items ≡ c.write_texts.new.out.items ++ end_tag (codes "div") = search rules in
    adds-full c.args.out.now.items c.write_tag.new.out.items c.write_texts.new.out.items c.write_end.new.out.items (codes "div") (search rules) tag
    part1 last
