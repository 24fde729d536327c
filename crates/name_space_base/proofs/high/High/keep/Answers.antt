use Rattle.std.proofs.Common.{ap, sym, ◌∙◌}
use Rattle.std.specs.Ordering.{nat_cmp}
use Rattle.std.specs.FinMap as map
use Rattle.name_space_base.proofs.Options.{same_some, for_err}
use Rattle.name_space_base.proofs.Tables.{out_here}
use Rattle.name_space_base.proofs.Tree.{tree, get-tree, out-tree}
use Rattle.name_space_base.proofs.Apart.{view_moved, keeps_used}
use Rattle.name_space_base.proofs.high.High.keep.Goals as goal

pub invariant_of-self-2 : goal.invariant_of-self-2
invariant_of-self-2 g c = λ name is.
    ap (map.get (tree c.remove-self-inside.new.self.entries)) (sym (same_some c.args.name name is))
    ∙ ap (λ (m : map.FinMap nat_cmp g.row.V.Denot). map.get m c.args.name) (out-tree c.lay_back.new.others.entries c.remove-self-inside.new.self.entries c.args.name c.remove-self-inside.ensures.updates.0)
    ∙ out_here (tree c.lay_back.new.others.entries) c.args.name

pub returns-clause-ok : goal.returns-clause-ok
returns-clause-ok g c =
    view_moved c.self.inside.others.entries c.self.inside.kept c.self.inside.value c.args.self.now c.self.view_is c.lay_back.new.others.entries c.remove-self-inside.new.self.entries c.args.name c.remove-self-inside.result c.in_ok-lay_back.ensures.ok
    (out-tree c.lay_back.new.others.entries c.remove-self-inside.new.self.entries c.args.name c.remove-self-inside.ensures.updates.0)
    (c.remove-self-inside.ensures.value ∙ sym (get-tree c.lay_back.new.others.entries c.args.name))

pub returns-in_err-lay_back-clause-wanted : goal.returns-in_err-lay_back-clause-wanted
returns-in_err-lay_back-clause-wanted g c =
    for_err c.from_residual.result (keeps_used c.self.inside.others.entries c.self.inside.kept c.self.inside.value c.args.self.now c.self.view_is c.in_err-lay_back.ensures.wanted)
