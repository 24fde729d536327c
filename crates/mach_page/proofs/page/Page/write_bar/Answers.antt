use Rattle.std.proofs.Common.{◌≡◌, ◌++◌, codes, rules}
use Rattle.mach_xml.specs.Elements.{Adds, IsContent, IsElement, IsTag, end_tag}
use Rattle.mach_xml.proofs.Adding.{adds-full, adds-content, element-content}
use Rattle.mach_page.proofs.page.Page.write_bar.Goals as goal

pub returns : goal.returns
returns c =
    let tag : Adds (IsTag (codes "div") (codes ">")) c.args.out.now.items c.write_tag.new.out.items = search rules in
    let is1 : Adds IsElement c.write_tag.new.out.items c.write_texted.new.out.items = search rules in
    let part1 : Adds IsContent c.write_tag.new.out.items c.write_texted.new.out.items = element-content c.write_tag.new.out.items c.write_texted.new.out.items is1 in
    let part2 : Adds IsContent c.write_texted.new.out.items c.write_buttons.new.out.items = search rules in
    let is3 : Adds IsElement c.write_buttons.new.out.items c.write_slider.new.out.items = search rules in
    let part3 : Adds IsContent c.write_buttons.new.out.items c.write_slider.new.out.items = element-content c.write_buttons.new.out.items c.write_slider.new.out.items is3 in
    let part4 : Adds IsContent c.write_slider.new.out.items c.write_buttons-2.new.out.items = search rules in
    let is5 : Adds IsElement c.write_buttons-2.new.out.items c.write_texted-2.new.out.items = search rules in
    let part5 : Adds IsContent c.write_buttons-2.new.out.items c.write_texted-2.new.out.items = element-content c.write_buttons-2.new.out.items c.write_texted-2.new.out.items is5 in
    let last : c.write_end.new.out.items ≡ c.write_texted-2.new.out.items ++ end_tag (codes "div") = search rules in
    adds-full c.args.out.now.items c.write_tag.new.out.items c.write_texted-2.new.out.items c.write_end.new.out.items (codes "div") (search rules) tag
    (adds-content c.write_tag.new.out.items c.write_buttons-2.new.out.items c.write_texted-2.new.out.items (adds-content c.write_tag.new.out.items c.write_slider.new.out.items c.write_buttons-2.new.out.items (adds-content c.write_tag.new.out.items c.write_buttons.new.out.items c.write_slider.new.out.items (adds-content c.write_tag.new.out.items c.write_texted.new.out.items c.write_buttons.new.out.items part1 part2) part3) part4) part5) last
