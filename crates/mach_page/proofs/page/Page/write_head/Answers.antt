use Rattle.std.proofs.Common.{◌≡◌, ◌++◌, codes, rules}
use Rattle.mach_xml.specs.Elements.{Adds, IsContent, IsElement, IsTag, end_tag}
use Rattle.mach_xml.proofs.Adding.{adds-full, adds-content, element-content}
use Rattle.mach_page.proofs.page.Page.write_head.Goals as goal

pub returns : goal.returns
returns c =
    let tag : Adds (IsTag (codes "head") (codes ">")) c.args.out.now.items c.write_tag.new.out.items = search rules in
    let part1 : Adds IsContent c.write_tag.new.out.items c.write_metas.new.out.items = search rules in
    let is2 : Adds IsElement c.write_metas.new.out.items c.write_texted.new.out.items = search rules in
    let part2 : Adds IsContent c.write_metas.new.out.items c.write_texted.new.out.items = element-content c.write_metas.new.out.items c.write_texted.new.out.items is2 in
    let part3 : Adds IsContent c.write_texted.new.out.items c.write_rules.new.out.items = search rules in
    let last : c.write_end.new.out.items ≡ c.write_rules.new.out.items ++ end_tag (codes "head") = search rules in
    adds-full c.args.out.now.items c.write_tag.new.out.items c.write_rules.new.out.items c.write_end.new.out.items (codes "head") (search rules) tag
    (adds-content c.write_tag.new.out.items c.write_texted.new.out.items c.write_rules.new.out.items (adds-content c.write_tag.new.out.items c.write_metas.new.out.items c.write_texted.new.out.items part1 part2) part3) last
