use Rattle.std.proofs.Common.{◌≡◌, Ok, ap, subst, sym, ◌∙◌}
use Rattle.mach_types.specs.declared.calls.Reply.{Reply}
use Rattle.mach_model.specs.State.{State}
use Rattle.copyin_base.specs.Shows.{Shows}
use Rattle.kernel_core.specs.Kernels.{KernelView}
use Rattle.mach_follow.specs.Replaying.{IsRefusal, IsTooLong, Replays}
use Rattle.mach_follow.proofs.Replayed.{refusal_replays, step_replays}
use Rattle.mach_follow.proofs.follower.Follower.replay.Goals as goal

pub returns-then-branch : goal.returns-then-branch
returns-then-branch c = record {
  said = λ _.
      let e = c.args.entry.now in
      let old = c.args.self.now.kernel in
      let same = c.remember.ensures in
      let r : IsRefusal c.remember.new.self.kernel.tables e.event e.reply = c.in_ok-may_lack_memory.ensures (ap Ok c.if-branch.true) in
      subst (λ (k : KernelView). Replays k.tables e.event e.reply c.remember.new.self.kernel) same (refusal_replays c.remember.new.self.kernel e.event e.reply r);
}

pub returns-then-are_same_replies : goal.returns-then-are_same_replies
returns-then-are_same_replies c = record {
  said = λ _.
      let e = c.args.entry.now in
      let old = c.args.self.now.kernel in
      let told : c.step-reply.result ≡ e.reply = c.are_same_replies.ensures.same c.if-are_same_replies.true in
      let turned : (s : State) → Shows old.tables s → Shows c.give_turn.new.self.kernel.tables s = λ s shown. c.give_turn.ensures.shows s (subst (λ (k : KernelView). Shows k.tables s) (sym c.remember.ensures) shown) in
      let same : IsTooLong c.step-reply.result → c.give_turn.new.self.kernel.tables ≡ old.tables = λ long. ap (λ (k : KernelView). k.tables) (c.give_turn.ensures.same (subst IsTooLong told long) ∙ c.remember.ensures) in
      subst (λ (r : Reply). Replays old.tables e.event r c.step-reply.new.self) told
      (step_replays old.tables c.give_turn.new.self.kernel.tables e.event c.step-reply.result c.step-reply.new.self turned same c.step-reply.ensures.touches);
}
