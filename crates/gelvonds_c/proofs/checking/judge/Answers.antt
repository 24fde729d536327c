use Rattle.std.proofs.Common.{◌≡◌, ℕ, inr, rules, subst, sym}
use Rattle.tracer.specs.Checks.{IsUnconfirmed}
use Rattle.gelvonds_c.proofs.checking.judge.Goals as goal

pub returns-in-Err-NotConfirmed : goal.returns-in-Err-NotConfirmed
returns-in-Err-NotConfirmed c =
    let told = c.verdict_of-in-Err-NotConfirmed.ensures in
    let history = c.in-Ok.history in
    let found : IsUnconfirmed history.profile history.entries c.in-Err-NotConfirmed.number = c.in-Err-NotConfirmed.ensures.not c.in-Err-NotConfirmed.number (search rules) in
    inr (inr (
      told.kind,
      record {
        profile = history.profile;
        entries = history.entries;
        history = record { fit = c.in-Ok.ensures.fits; text_is = c.in-Ok.ensures.ok };
        unconfirmed = subst (λ (n : ℕ). IsUnconfirmed history.profile history.entries n) (sym told.number) found;
      },
    ))
