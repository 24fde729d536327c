use Rattle.std.proofs.Common.{◌≡◌, None, is_some, ap, sym, ◌∙◌, ℕ}
use Rattle.std.specs.FinMap as map
use Rattle.std.specs.Ordering.{nat_cmp}
use Rattle.name_space_base.specs.Pages.{PagesView}
use Rattle.name_space_base.proofs.Held.{values-absent}
use Rattle.name_space_base.proofs.Pages.remove.Goals as goal

pub returns-in_err-value-clause-after : goal.returns-in_err-value-clause-after
returns-in_err-value-clause-after g c =
    let n : ℕ = c.args.number in
    let none : map.get c.args.self.now.values n ≡ None = sym c.get.ensures ∙ c.in_err-value.was in
    ap (λ (m : map.FinMap nat_cmp g.row.T.Denot). let v : PagesView g.row.T.Denot = record { values = m; room = c.args.self.now.room; made = c.args.self.now.made } in v) (values-absent c.args.self.now.values n none)

pub clear-requires : goal.clear-requires
clear-requires g c = ap is_some (sym c.get.ensures ∙ c.in_ok-value.was)
