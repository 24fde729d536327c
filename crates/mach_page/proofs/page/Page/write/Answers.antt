use Rattle.std.proofs.Common.{◌≡◌, ◌++◌, codes, rules}
use Rattle.mach_xml.specs.Elements.{Adds, IsContent, IsElement, IsTag, end_tag}
use Rattle.mach_xml.proofs.Adding.{adds-full, adds-content, element-content}
use Rattle.mach_page.proofs.page.Page.write.Goals as goal

pub returns : goal.returns
returns c =
    let tag : Adds (IsTag (codes "html") (codes ">")) c.args.out.now.items c.write_tag.new.out.items = search rules in
    let is1 : Adds IsElement c.write_tag.new.out.items c.write_head.new.out.items = search rules in
    let part1 : Adds IsContent c.write_tag.new.out.items c.write_head.new.out.items = element-content c.write_tag.new.out.items c.write_head.new.out.items is1 in
    let is2 : Adds IsElement c.write_head.new.out.items c.write_body.new.out.items = search rules in
    let part2 : Adds IsContent c.write_head.new.out.items c.write_body.new.out.items = element-content c.write_head.new.out.items c.write_body.new.out.items is2 in
    let last : c.write_end.new.out.items ≡ c.write_body.new.out.items ++ end_tag (codes "html") = search rules in
    adds-full c.args.out.now.items c.write_tag.new.out.items c.write_body.new.out.items c.write_end.new.out.items (codes "html") (search rules) tag
    (adds-content c.write_tag.new.out.items c.write_head.new.out.items c.write_body.new.out.items part1 part2) last
