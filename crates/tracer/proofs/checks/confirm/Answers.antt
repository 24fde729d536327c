use Rattle.std.proofs.Common.{inl, inr, rules, Ok, ap, subst, sym, ◌∙◌, true≢false}
use Rattle.mach_types.specs.declared.calls.Reply.{Reply}
use Rattle.kernel_core.specs.Answers.{Answers}
use Rattle.tracer.proofs.CheckLemmas.{refusal-answers}
use Rattle.tracer.proofs.checks.confirm.Goals as goal

pub returns-then-branch-clause-confirmed : goal.returns-then-branch-clause-confirmed
returns-then-branch-clause-confirmed c =
    λ _. refusal-answers c.args.kernel.now c.args.entry.now.event c.args.entry.now.reply (c.in_ok-tells_want_of_memory.ensures.may (ap Ok c.if-branch.true))

pub returns-then-are_same_replies-clause-confirmed : goal.returns-then-are_same_replies-clause-confirmed
returns-then-are_same_replies-clause-confirmed c =
    λ _ now s shown.
    subst (λ (r : Reply). Answers c.follow.new.kernel.tables c.args.entry.now.event r c.step-reply.new.self.tables) (c.are_same_replies.ensures.same c.if-are_same_replies.true) c.step-reply.ensures.answers now s (c.follow.ensures s shown)

pub returns-then-not-has_room-clause-not : goal.returns-then-not-has_room-clause-not
returns-then-not-has_room-clause-not c =
    λ _. record {
      plain = c.in_ok-tells_want_of_memory.ensures.not (ap Ok c.if-branch.false);
      own = c.step-reply.result;
      next = c.step-reply.new.self;
      answers = λ now s shown. c.step-reply.ensures.answers now s (c.follow.ensures s shown);
      owned = inr (search rules);
      other = λ same. absurd (true≢false (sym (c.are_same_replies.ensures.other same) ∙ c.if-are_same_replies.false));
    }

pub returns-clause-not : goal.returns-clause-not
returns-clause-not c =
    λ _. record {
      plain = c.in_ok-tells_want_of_memory.ensures.not (ap Ok c.if-branch.false);
      own = c.step-reply.result;
      next = c.step-reply.new.self;
      answers = λ now s shown. c.step-reply.ensures.answers now s (c.follow.ensures s shown);
      owned = inl (c.in_ok-tells_want_of_memory-2.ensures.not (ap Ok c.if-branch-2.false));
      other = λ same. absurd (true≢false (sym (c.are_same_replies.ensures.other same) ∙ c.if-are_same_replies.false));
    }
