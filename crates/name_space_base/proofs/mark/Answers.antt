use Rattle.std.proofs.Common.{inl, inr, if◌then◌else◌, ap, sym, ◌∙◌}
use Rattle.std.proofs.lemmas.Bool.{eq-eqb, ne_eqb, cases_eq}
use Rattle.name_space_base.specs.Bits.{has}
use Rattle.name_space_base.proofs.mark.Goals as goal

pub returns-else-is_full : goal.returns-else-is_full
returns-else-is_full c = λ p few. elim (cases_eq p c.args.page) [
  | inl e ↦ ap (has c.args.full.now.words) e ∙ c.requires.was_not ∙ sym c.if-is_full.false ∙ sym (ap (λ b. if b then c.args.is_full else has c.args.full.now.words p) (eq-eqb p c.args.page e))
  | inr d ↦ sym (ap (λ b. if b then c.args.is_full else has c.args.full.now.words p) (ne_eqb p c.args.page d))
]
