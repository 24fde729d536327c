use Rattle.std.proofs.Common.{◌≡◌, ◌++◌, codes, rules}
use Rattle.mach_xml.specs.Elements.{Adds, IsContent, IsElement, IsTag, end_tag}
use Rattle.mach_xml.proofs.Adding.{adds-full, adds-content, element-content}
use Rattle.mach_page.proofs.page.Page.write_right.Goals as goal

pub returns : goal.returns
returns c =
    let tag : Adds (IsTag (codes "div") (codes ">")) c.args.out.now.items c.write_tag.new.out.items = search rules in
    let is1 : Adds IsElement c.write_tag.new.out.items c.write_say.new.out.items = search rules in
    let part1 : Adds IsContent c.write_tag.new.out.items c.write_say.new.out.items = element-content c.write_tag.new.out.items c.write_say.new.out.items is1 in
    let is2 : Adds IsElement c.write_say.new.out.items c.write.new.out.items = search rules in
    let part2 : Adds IsContent c.write_say.new.out.items c.write.new.out.items = element-content c.write_say.new.out.items c.write.new.out.items is2 in
    let is3 : Adds IsElement c.write.new.out.items c.write_texted.new.out.items = search rules in
    let part3 : Adds IsContent c.write.new.out.items c.write_texted.new.out.items = element-content c.write.new.out.items c.write_texted.new.out.items is3 in
    let last : c.write_end.new.out.items ≡ c.write_texted.new.out.items ++ end_tag (codes "div") = search rules in
    adds-full c.args.out.now.items c.write_tag.new.out.items c.write_texted.new.out.items c.write_end.new.out.items (codes "div") (search rules) tag
    (adds-content c.write_tag.new.out.items c.write.new.out.items c.write_texted.new.out.items (adds-content c.write_tag.new.out.items c.write_say.new.out.items c.write.new.out.items part1 part2) part3) last
