-- A call that a refused look-up ends, at the exit of a `?`.
use Rattle.std.proofs.Common.{◌≡◌, sym, subst, ap, ◌∙◌, Result, Err}
use Rattle.std.specs.Result.{IsErrAnd}
use Rattle.std.proofs.lemmas.Result.{err_from_is_err_and}
use Rattle.mach_types.specs.declared.calls.Event.{Event}
use Rattle.mach_types.specs.declared.calls.Reply.{Reply}
use Rattle.mach_types.specs.declared.codes.KernReturn.{KernReturn}
use Rattle.mach_types.specs.Codes.{kern_number}
use Rattle.mach_model.specs.Refusals.{call_guards}
use Rattle.mach_types.specs.declared.codes.Code.{Code}
use Rattle.mach_types.specs.declared.codes.Code.TheVariants.{Kern}
use Rattle.copyin_base.specs.Worlds.{WorldView}
use Rattle.copyin_base.specs.Serving.{HasTasks, IsRefused, Serves}
use Rattle.copyin_base.proofs.Acting.{refused}

pub exits : (w : WorldView) (event : Event) (r : Result Reply Code) (code : KernReturn) → IsErrAnd r (λ given. given ≡ Kern code) → HasTasks w event →
    IsRefused w (λ s. call_guards s event) (kern_number code) → Serves w event r w
exits w event r code is tasks why =
    let e = err_from_is_err_and r is in
    subst (λ (x : Result Reply Code). Serves w event x w) (sym (e.1 ∙ ap Err e.2)) (refused w event tasks (kern_number code) why)
