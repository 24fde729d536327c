use Rattle.std.proofs.Common.{◌≡◌, ◌+◌, ◌-◌, ◌<◌, ◌≤◌, sym, subst, refl, true, false, Option, None, is_some, List, set, get_or, length, arith}
use Rattle.name_space_base.specs.Page.{used_in}
use Rattle.name_space_base.proofs.Places.{used-clear, marked-changed}
use Rattle.name_space_base.proofs.page.Page.clear.Goals as goal

pub overflow_sub-self : goal.overflow_sub-self
overflow_sub-self g c =
    let l : List (Option g.row.T.Denot) = c.self.inside.values.items in
    let within : c.args.place < length l = subst (λ (p : List (Option g.row.T.Denot)). c.args.place < length p) (sym c.self.view_is) c.requires.made in
    let used : is_some (get_or l c.args.place None) ≡ true = subst (λ (p : List (Option g.row.T.Denot)). is_some (get_or p c.args.place None) ≡ true) (sym c.self.view_is) c.requires.used in
    let count : c.self.inside.len ≡ used_in l = c.self.invariant.counted in
    let less : used_in (set l c.args.place None) + 1 ≡ used_in l = used-clear l c.args.place within used in
    let k : 1 ≤ c.self.inside.len = omega arith in
    k

pub invariant_of-self : goal.invariant_of-self
invariant_of-self g c =
    let l : List (Option g.row.T.Denot) = c.self.inside.values.items in
    let within : c.args.place < length l = subst (λ (p : List (Option g.row.T.Denot)). c.args.place < length p) (sym c.self.view_is) c.requires.made in
    let used : is_some (get_or l c.args.place None) ≡ true = subst (λ (p : List (Option g.row.T.Denot)). is_some (get_or p c.args.place None) ≡ true) (sym c.self.view_is) c.requires.used in
    let count : c.self.inside.len ≡ used_in l = c.self.invariant.counted in
    let less : used_in (set l c.args.place None) + 1 ≡ used_in l = used-clear l c.args.place within used in
    marked-changed l c.self.inside.used.words c.remove.new.self.words c.self.inside.len (c.self.inside.len - 1) c.args.place None false c.self.invariant within c.remove.ensures refl (omega arith)
