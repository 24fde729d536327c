use Rattle.std.proofs.Common.{◌≡◌, ◌++◌, ◌∷◌, [], codes, rules}
use Rattle.mach_xml.specs.Characters.{IsText}
use Rattle.mach_xml.specs.Elements.{Adds}
use Rattle.mach_xml.proofs.Adding.{adds-attribute}
use Rattle.mach_xml.proofs.attributes.write_attribute.Goals as goal

pub returns : goal.returns
returns c =
    let first : c.push.new.self.items ≡ c.args.out.now.items ++ 32 ∷ [] = search rules in
    let next : c.extend_from_slice.new.self.items ≡ c.push.new.self.items ++ c.args.attribute.now.name.now = search rules in
    let equals : c.extend_from_slice-2.new.self.items ≡ c.extend_from_slice.new.self.items ++ codes "=\"" = search rules in
    let value : Adds IsText c.extend_from_slice-2.new.self.items c.write_value.new.out.items = search rules in
    let last : c.push-2.new.self.items ≡ c.write_value.new.out.items ++ 34 ∷ [] = search rules in
    adds-attribute c.args.out.now.items c.push.new.self.items c.extend_from_slice.new.self.items c.extend_from_slice-2.new.self.items
    c.write_value.new.out.items c.push-2.new.self.items c.args.attribute.now.name.now first next equals value last
