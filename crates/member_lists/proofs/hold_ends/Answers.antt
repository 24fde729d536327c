use Rattle.std.proofs.Common.{◌≡◌, ◌∙◌, sym, false}
use Rattle.std.specs.FinMap as map
use Rattle.member_lists.proofs.Held.{total_set, total_put, none_in}
use Rattle.member_lists.proofs.hold_ends.Goals as goal

pub returns-then-has_items-clause-total : goal.returns-then-has_items-clause-total
returns-then-has_items-clause-total c = total_set c.args.ends.now c.set.new.self c.args.list c.args.now (sym c.requires.held ∙ c.if-has_items.true) c.set.ensures

pub returns-else-has_items-clause-total : goal.returns-else-has_items-clause-total
returns-else-has_items-clause-total c =
    let apart : map.contains_key c.args.ends.now.map c.args.list ≡ false = sym c.requires.held ∙ c.if-has_items.false in
    total_put c.args.ends.now c.insert.new.self c.args.list c.args.now apart (c.requires.room (none_in c.args.ends.now.map c.args.list apart)) c.insert.ensures
