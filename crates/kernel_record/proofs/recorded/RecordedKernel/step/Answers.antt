use Rattle.std.proofs.Common.{◌≡◌, ◌∙◌, inl, subst, sym, ap, refl}
use Rattle.kernel_record.specs.declared.recorded.LastCall.{LastCall}
use Rattle.kernel_record.specs.declared.recorded.LastCall.TheVariants.{NotKept}
use Rattle.kernel_record.specs.Recording.{RecordedView, StepsRecorded, made_after}
use Rattle.kernel_record.proofs.Stepping.{stands}
use Rattle.kernel_record.proofs.recorded.RecordedKernel.step.Goals as goal

pub invariant_of-self : goal.invariant_of-self
invariant_of-self c = stands c.self.inside.kernel.tables c.args.event.now c.step.result c.step.new.self.tables c.self.invariant c.step.ensures.answers

pub returns : goal.returns
returns c =
    let e = c.args.event.now in
    let none : c.self.inside.last ≡ NotKept = ap (λ (x : RecordedView). x.last) c.self.view_is ∙ c.requires.not_kept in
    subst (λ (old : RecordedView). StepsRecorded old e c.step.result (record { kernel = c.step.new.self; last = c.self.inside.last })) c.self.view_is (inl (record {
      answers = c.step.ensures.answers;
      last = subst (λ (l : LastCall). l ≡ made_after l e c.step.result) (sym none) refl;
    }))
