use Rattle.std.proofs.Common.{rules, ◌≡◌, [], ◌∷◌, ◌++◌, List, sym, subst}
use Rattle.kernel_lock.specs.declared.entry.Entry.{Entry}
use Rattle.kernel_lock.specs.History.{entry}
use Rattle.kernel_lock.specs.Replays.{Replays}
use Rattle.kernel_lock.proofs.Replaying.{replays_push}
use Rattle.mach_say_play.proofs.stage.Stage.make.Goals as goal

-- the history has one entry more, and the kernel made its step
pub invariant_of-self-2 : goal.invariant_of-self-2
invariant_of-self-2 c =
    let s = c.self.inside in
    let e : Entry = entry c.args.caller c.args.event c.step-reply.result in
    let pushed : c.push.new.self.items ≡ s.entries.items ++ e ∷ [] = search rules in
    subst
    (λ (l : List Entry). Replays s.profile l c.step-reply.new.self)
    (sym pushed)
    (replays_push s.profile s.entries.items s.kernel c.step-reply.new.self e c.self.invariant c.step-reply.ensures.answers)
