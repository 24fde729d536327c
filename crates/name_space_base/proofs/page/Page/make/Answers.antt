use Rattle.std.proofs.Common.{◌≡◌, None, vec_len, refl, ◌∙◌, sym, arith}
use Rattle.name_space_base.proofs.Places.{blank}
use Rattle.name_space_base.proofs.page.Page.make.Goals as goal

pub returns-clause-ok : goal.returns-clause-ok
returns-clause-ok g c =
    let start : vec_len c.in_ok-values.values ≡ 0 = c.in_ok-values.ensures.len in
    blank c.resize.new.self.items (sym c.resize.new.self.ok.0 ∙ c.in_ok-resize.ensures.len) (λ i h. c.in_ok-resize.ensures.by_index.1 i None refl (omega arith) h)
