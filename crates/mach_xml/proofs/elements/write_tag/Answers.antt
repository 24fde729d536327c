use Rattle.std.proofs.Common.{◌≡◌, ◌++◌, ◌∷◌, [], rules}
use Rattle.mach_xml.specs.Elements.{Adds, HasAttributes}
use Rattle.mach_xml.proofs.Adding.{adds-tag}
use Rattle.mach_xml.proofs.elements.write_tag.Goals as goal

pub returns : goal.returns
returns c =
    let first : c.push.new.self.items ≡ c.args.out.now.items ++ 60 ∷ [] = search rules in
    let next : c.extend_from_slice.new.self.items ≡ c.push.new.self.items ++ c.args.name.now = search rules in
    let has : Adds HasAttributes c.extend_from_slice.new.self.items c.write_attributes.new.out.items = search rules in
    let last : c.extend_from_slice-2.new.self.items ≡ c.write_attributes.new.out.items ++ c.args.end.now = search rules in
    adds-tag c.args.out.now.items c.push.new.self.items c.extend_from_slice.new.self.items c.write_attributes.new.out.items
    c.extend_from_slice-2.new.self.items c.args.name.now c.args.end.now first next has last
