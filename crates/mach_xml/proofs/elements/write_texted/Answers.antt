use Rattle.std.proofs.Common.{◌≡◌, ◌++◌, codes, rules}
use Rattle.mach_xml.specs.Characters.{IsText}
use Rattle.mach_xml.specs.Elements.{Adds, IsTag, end_tag}
use Rattle.mach_xml.proofs.Adding.{adds-full, text-content}
use Rattle.mach_xml.proofs.elements.write_texted.Goals as goal

pub returns : goal.returns
returns c =
    let tag : Adds (IsTag c.name-name.result.now (codes ">")) c.args.out.now.items c.write_tag.new.out.items = search rules in
    let text : Adds IsText c.write_tag.new.out.items c.write_text.new.out.items = search rules in
    let last : c.write_end.new.out.items ≡ c.write_text.new.out.items ++ end_tag c.name-name.result.now = search rules in
    adds-full c.args.out.now.items c.write_tag.new.out.items c.write_text.new.out.items c.write_end.new.out.items c.name-name.result.now
    c.name-name.ensures tag (text-content c.write_tag.new.out.items c.write_text.new.out.items text) last
