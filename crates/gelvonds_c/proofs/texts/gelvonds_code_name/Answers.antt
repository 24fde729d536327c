use Rattle.std.proofs.Common.{◌≡◌, ℕ, subst, rules, w32}
use Rattle.std.specs.Int.{cast_unsigned}
use Rattle.gelvonds_c_base.specs.Codes.{IsCalled}
use Rattle.gelvonds_c.proofs.texts.gelvonds_code_name.Goals as goal

pub returns-clause-called : goal.returns-clause-called
returns-clause-called c =
    let number : c.cast_unsigned.result ≡ cast_unsigned w32 c.args.code = search rules in
    (c.name_of.result.now, subst (λ (n : ℕ). IsCalled n c.name_of.result.now) number c.name_of.ensures.called, c.put_text.ensures)
