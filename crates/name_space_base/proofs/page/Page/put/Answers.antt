use Rattle.std.proofs.Common.{◌≡◌, ◌+◌, ◌<◌, ◌≤◌, sym, ap, ◌∙◌, subst, refl, true, Option, Some, None, List, set, get_or, length, arith}
use Rattle.name_space_base.specs.Page.{used_in}
use Rattle.name_space_base.proofs.Places.{used-le, used-put, marked-changed}
use Rattle.name_space_base.proofs.page.Page.put.Goals as goal

pub overflow_add-self : goal.overflow_add-self
overflow_add-self g c =
    let l : List (Option g.row.T.Denot) = c.self.inside.values.items in
    let few : used_in l ≤ length l = used-le l in
    let short : length l ≤ 256 = c.self.invariant.short in
    let count : c.self.inside.len ≡ used_in l = c.self.invariant.counted in
    let k : c.self.inside.len + 1 ≤ 257 = omega arith in
    omega arith

pub invariant_of-self : goal.invariant_of-self
invariant_of-self g c =
    let l : List (Option g.row.T.Denot) = c.self.inside.values.items in
    let within : c.args.place < length l = subst (λ (p : List (Option g.row.T.Denot)). c.args.place < length p) (sym c.self.view_is) c.requires.made in
    let free : get_or l c.args.place None ≡ None = subst (λ (p : List (Option g.row.T.Denot)). get_or p c.args.place None ≡ None) (sym c.self.view_is) c.requires.free in
    let count : c.self.inside.len ≡ used_in l = c.self.invariant.counted in
    let more : used_in (set l c.args.place (Some c.args.value)) ≡ used_in l + 1 = used-put l c.args.place c.args.value within free in
    marked-changed l c.self.inside.used.words c.insert.new.self.words c.self.inside.len (c.self.inside.len + 1) c.args.place (Some c.args.value) true c.self.invariant within c.insert.ensures refl (ap (λ n. n + 1) count ∙ sym more)
