use Rattle.std.proofs.Common.{◌≡◌, ◌++◌, codes, rules}
use Rattle.mach_xml.specs.Elements.{Adds, IsContent, IsElement, IsTag, end_tag}
use Rattle.mach_xml.proofs.Adding.{adds-full, adds-content, element-content}
use Rattle.mach_xml.proofs.drawing.Drawing.write.Goals as goal

pub returns : goal.returns
returns c =
    let tag : Adds (IsTag (codes "svg") (codes ">")) c.args.out.now.items c.write_tag.new.out.items = search rules in
    let title : Adds IsElement c.write_tag.new.out.items c.write_texted.new.out.items = search rules in
    let groups : Adds IsContent c.write_texted.new.out.items c.write_groups.new.out.items = search rules in
    let last : c.write_end.new.out.items ≡ c.write_groups.new.out.items ++ end_tag (codes "svg") = search rules in
    let first : Adds IsContent c.write_tag.new.out.items c.write_texted.new.out.items =
    element-content c.write_tag.new.out.items c.write_texted.new.out.items title in
    adds-full c.args.out.now.items c.write_tag.new.out.items c.write_groups.new.out.items c.write_end.new.out.items (codes "svg") (search rules) tag
    (adds-content c.write_tag.new.out.items c.write_texted.new.out.items c.write_groups.new.out.items first groups) last
