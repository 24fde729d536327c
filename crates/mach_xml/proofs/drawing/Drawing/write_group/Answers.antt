use Rattle.std.proofs.Common.{◌≡◌, ◌++◌, codes, rules}
use Rattle.mach_xml.specs.Elements.{Adds, IsContent, IsElement, IsTag, end_tag}
use Rattle.mach_xml.proofs.Adding.{adds-full, adds-content, element-content}
use Rattle.mach_xml.proofs.drawing.Drawing.write_group.Goals as goal

pub returns : goal.returns
returns c =
    let tag : Adds (IsTag (codes "g") (codes ">")) c.args.out.now.items c.write_tag.new.out.items = search rules in
    let title : Adds IsElement c.write_tag.new.out.items c.write_texted.new.out.items = search rules in
    let shapes : Adds IsContent c.write_texted.new.out.items c.write_shapes.new.out.items = search rules in
    let last : c.write_end.new.out.items ≡ c.write_shapes.new.out.items ++ end_tag (codes "g") = search rules in
    let first : Adds IsContent c.write_tag.new.out.items c.write_texted.new.out.items =
    element-content c.write_tag.new.out.items c.write_texted.new.out.items title in
    adds-full c.args.out.now.items c.write_tag.new.out.items c.write_shapes.new.out.items c.write_end.new.out.items (codes "g") (search rules) tag
    (adds-content c.write_tag.new.out.items c.write_texted.new.out.items c.write_shapes.new.out.items first shapes) last
