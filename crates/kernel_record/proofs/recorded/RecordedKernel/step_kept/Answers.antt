use Rattle.std.proofs.Common.{◌≢◌, ◌∙◌, inl, subst, sym, ap}
use Rattle.kernel_record.specs.declared.recorded.LastCall.TheVariants.{NotKept, Made}
use Rattle.kernel_record.specs.Recording.{RecordedView, StepsRecorded}
use Rattle.kernel_record.proofs.Stepping.{stands, is_within, is_kept}
use Rattle.kernel_record.proofs.recorded.RecordedKernel.step_kept.Goals as goal

pub copy-requires-clause-room : goal.copy-requires-clause-room
copy-requires-clause-room c =
    c.in-Ok.ensures.room c.step-reply.result (is_within c.self.inside.kernel.tables c.args.event.now c.reply_bound-most.result c.step-reply.result c.step-reply.new.self.tables
    c.self.invariant c.step-reply.ensures.answers c.reply_bound-most.ensures.within)

pub invariant_of-self-2 : goal.invariant_of-self-2
invariant_of-self-2 c = stands c.self.inside.kernel.tables c.args.event.now c.step-reply.result c.step-reply.new.self.tables c.self.invariant c.step-reply.ensures.answers

pub returns : goal.returns
returns c =
    let e = c.args.event.now in
    let keeps : c.self.inside.last ≢ NotKept = λ none. c.requires.keeps (sym (ap (λ x. x.last) c.self.view_is) ∙ none) in
    subst (λ (old : RecordedView). StepsRecorded old e c.step-reply.result (record { kernel = c.step-reply.new.self; last = Made c.in-Ok.copy c.copy.result })) c.self.view_is (inl (record {
      answers = c.step-reply.ensures.answers;
      last = (λ i. Made (c.in-Ok.ensures.copy i) (c.copy.ensures i)) ∙ is_kept c.self.inside.last e c.step-reply.result keeps;
    }))
