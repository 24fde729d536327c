use Rattle.std.proofs.Common.{◌≡◌, ◌+◌, suc, inl, inr, ◌∙◌, arith}
use Rattle.number_map.proofs.Rows.{few_cases}
use Rattle.number_map.proofs.side_to.Goals as goal

pub returns-clause-leads : goal.returns-clause-leads
returns-clause-leads g c =
    let p = c.requires.leads in
    elim (few_cases p.0 p.1) [
      | inl z ↦ absurd (let q = p.2 in let r = rw z at q in let e : suc c.args.place ≡ c.args.place + 1 = omega arith in c.if-node-place.false (r ∙ e))
      | inr z ↦ let q = p.2 in rw z at q
    ]
