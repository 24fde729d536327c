use Rattle.std.proofs.Common.{◌≡◌, sym, ◌∙◌, rules}
use Rattle.std.specs.FinMap as map
use Rattle.mach_causes_base.proofs.facts.has_names.Goals as goal

pub returns-in-Some : goal.returns-in-Some
returns-in-Some c same =
    let number : map.len c.in-Some.space.names ≡ c.args.names = search rules in
    record { space = c.in-Some.space; there = sym c.find_space.ensures ∙ c.in-Some.is; number = number }
