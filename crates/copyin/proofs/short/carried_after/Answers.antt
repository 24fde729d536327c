use Rattle.std.proofs.Common.{◌≡◌, Some, None, sym, ap, ◌∙◌}
use Rattle.std.specs.FinMap as map
use Rattle.mach_types.specs.Numbers.{disposition}
use Rattle.copyin.proofs.AfterFirst.{left_there, nothing_goes}
use Rattle.copyin.proofs.short.carried_after.Goals as goal

pub returns-in_err-left : goal.returns-in_err-left
returns-in_err-left c = λ k after x.
    let given : disposition c.args.first.now.disposition ≡ Some c.unwrap-given.result = cc in
    let there = left_there c.args.space.now.names c.args.first.now k after x c.unwrap-given.result c.in_ok-entry.entry given (sym c.lookup.ensures ∙ c.in_ok-entry.was) in
    let none : map.get after c.args.word.now.name ≡ None = ap (map.get after) c.requires.same ∙ there ∙ sym c.left_by.ensures ∙ c.in_err-left.was in
    rw c.from_residual-in_err-left.ensures (nothing_goes after c.args.word.now none)

pub returns : goal.returns
returns c = λ k after x.
    let given : disposition c.args.first.now.disposition ≡ Some c.unwrap-given.result = cc in
    let there = left_there c.args.space.now.names c.args.first.now k after x c.unwrap-given.result c.in_ok-entry.entry given (sym c.lookup.ensures ∙ c.in_ok-entry.was) in
    c.carried_from.ensures after (ap (map.get after) c.requires.same ∙ there ∙ sym c.left_by.ensures ∙ c.in_ok-left.was)
