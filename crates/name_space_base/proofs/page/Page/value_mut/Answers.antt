use Rattle.std.proofs.Common.{◌≡◌, ◌<◌, sym, subst, true, Option, None, is_some, List, get_or, length}
use Rattle.name_space_base.proofs.Places.{marked-set}
use Rattle.name_space_base.proofs.page.Page.value_mut.Goals as goal

pub invariant_of-self-lent : goal.invariant_of-self-lent
invariant_of-self-lent g c w =
    let l : List (Option g.row.T.Denot) = c.self.inside.values.items in
    let within : c.args.place < length l = subst (λ (p : List (Option g.row.T.Denot)). c.args.place < length p) (sym c.self.view_is) c.requires.made in
    let used : is_some (get_or l c.args.place None) ≡ true = subst (λ (p : List (Option g.row.T.Denot)). is_some (get_or p c.args.place None) ≡ true) (sym c.self.view_is) c.requires.used in
    marked-set l c.self.inside.used.words c.self.inside.len c.args.place w c.self.invariant within used
