use Rattle.std.proofs.Common.{◌≡◌, ◌++◌, ◌∷◌, [], rules}
use Rattle.mach_xml.proofs.Adding.{adds-reference, adds-bare}
use Rattle.mach_xml.proofs.characters.write_byte.Goals as goal

pub returns-in_ok-extend_from_slice-in-Some : goal.returns-in_ok-extend_from_slice-in-Some
returns-in_ok-extend_from_slice-in-Some c =
    let added : c.extend_from_slice.new.self.items ≡ c.args.out.now.items ++ c.in-Some.name.now = search rules in
    adds-reference c.args.out.now.items c.extend_from_slice.new.self.items c.in-Some.name.now c.in-Some.ensures added

pub returns-in_ok-push-in-None : goal.returns-in_ok-push-in-None
returns-in_ok-push-in-None c =
    let added : c.push.new.self.items ≡ c.args.out.now.items ++ c.args.byte ∷ [] = search rules in
    adds-bare c.args.out.now.items c.push.new.self.items c.args.byte c.in-None.ensures added
