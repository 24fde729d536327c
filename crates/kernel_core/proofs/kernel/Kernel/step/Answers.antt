use Rattle.std.proofs.Common.{◌≡◌, refl, sym, ap, subst, inl, inr}
use Rattle.mach_types.specs.declared.calls.Reply.{Reply}
use Rattle.mach_types.specs.Codes.{code_number}
use Rattle.copyin_base.specs.Worlds.{WorldView}
use Rattle.copyin_base.specs.Shows.{Shows}
use Rattle.kernel_change.specs.Changing.{touched_by}
use Rattle.kernel_core.specs.InTurn.{StepsInTurn}
use Rattle.kernel_core.specs.Kernels.{KernelView, TakesTurns}
use Rattle.kernel_core.specs.Touching.{Touches}
use Rattle.kernel_core.specs.Wanted.{Wanted, Spares}
use Rattle.kernel_core.proofs.Changed.{touched_after, none_touched, still_touches}
use Rattle.kernel_core.proofs.Ending.{acted_spares, declined_spares, is_midway}
use Rattle.kernel_core.proofs.Keeping.{done_refuses_none, done_wanted}
use Rattle.kernel_core.proofs.Stepping.{acted, acted_turns, declined, declined_turns, still_stands}
use Rattle.kernel_core.proofs.Unused.{shown_unused}
use Rattle.kernel_core.proofs.kernel.Kernel.step.Goals as goal

pub end_step-turns-requires : goal.end_step-turns-requires
end_step-turns-requires c = is_midway _ _ _ _ c.self.invariant c.in-Ok.ensures.performs.serves

pub invariant_of-self : goal.invariant_of-self
invariant_of-self c = still_stands _ _ _ _ c.self.invariant (acted _ _ _ _ _ _ c.in-Ok.ensures.performs.serves c.end_step-turns.ensures.settles)

pub invariant_of-self-in-Err : goal.invariant_of-self-in-Err
invariant_of-self-in-Err c = still_stands _ _ _ _ c.self.invariant (declined _ _ _ _ c.in-Err.ensures.performs.serves)

pub check_slots-requires-in-Ok-2 : goal.check_slots-requires-in-Ok-2
check_slots-requires-in-Ok-2 c = (still_stands _ _ _ _ c.self.invariant (acted _ _ _ _ _ _ c.in-Ok.ensures.performs.serves c.end_step-turns.ensures.settles)).shown.slots

pub returns-in-Ok-clause-answers : goal.returns-in-Ok-clause-answers
returns-in-Ok-clause-answers c =
    let same : c.self.inside.world ≡ c.args.self.now.tables = ap (λ (k : KernelView). k.tables) c.self.view_is in
    λ now s sh. acted _ _ _ _ _ _ c.in-Ok.ensures.performs.serves c.end_step-turns.ensures.settles now s (subst (λ (w : WorldView). Shows w s) (sym same) sh)

pub returns-in-Err-clause-answers : goal.returns-in-Err-clause-answers
returns-in-Err-clause-answers c =
    let same : c.self.inside.world ≡ c.args.self.now.tables = ap (λ (k : KernelView). k.tables) c.self.view_is in
    λ now s sh. rw c.number.ensures (declined _ _ _ _ c.in-Err.ensures.performs.serves now s (subst (λ (w : WorldView). Shows w s) (sym same) sh))

pub returns-in-Ok-clause-turns : goal.returns-in-Ok-clause-turns
returns-in-Ok-clause-turns c =
    subst (λ (w : WorldView). TakesTurns w c.args.event.now c.in-Ok.reply c.end_step-turns.new.world c.end_step-turns.result) (ap (λ (k : KernelView). k.tables) c.self.view_is)
    (acted_turns _ _ _ _ _ _ c.in-Ok.ensures.performs.serves c.end_step-turns.ensures.settles)

pub returns-in-Err-clause-turns : goal.returns-in-Err-clause-turns
returns-in-Err-clause-turns c =
    let same : c.self.inside.world ≡ c.args.self.now.tables = ap (λ (k : KernelView). k.tables) c.self.view_is in
    λ now s sh. rw c.number.ensures (declined_turns _ _ _ _ 0 refl c.in-Err.ensures.performs.serves now s (subst (λ (w : WorldView). Shows w s) (sym same) sh))

pub returns-in-Ok-clause-wanted : goal.returns-in-Ok-clause-wanted
returns-in-Ok-clause-wanted c = subst (λ (w : WorldView). Wanted w c.args.event.now c.in-Ok.reply) (ap (λ (k : KernelView). k.tables) c.self.view_is) (done_wanted _ _ _ _ c.self.invariant c.in-Ok.ensures.performs.serves)

pub returns-in-Ok-clause-spares : goal.returns-in-Ok-clause-spares
returns-in-Ok-clause-spares c =
    subst (λ (w : WorldView). Spares w c.args.event.now c.in-Ok.reply c.end_step-turns.new.world) (ap (λ (k : KernelView). k.tables) c.self.view_is)
    (acted_spares _ _ _ _ _ _ c.self.invariant c.in-Ok.ensures.performs.serves c.end_step-turns.ensures.settles c.end_step-turns.ensures.rooms c.in-Ok.ensures.performs.spares c.check_slots.ensures c.check_slots-in-Ok.ensures c.check_slots-in-Ok-2.ensures)

pub returns-in-Err-clause-spares : goal.returns-in-Err-clause-spares
returns-in-Err-clause-spares c =
    subst (λ (w : WorldView). Spares w c.args.event.now (Reply.Code c.number.result) c.act.new.world) (ap (λ (k : KernelView). k.tables) c.self.view_is) (declined_spares _ _ _ _ _ c.in-Err.ensures.performs.serves c.in-Err.ensures.performs.spares c.check_slots-in-Err.ensures)

pub returns-in-Ok-clause-unused : goal.returns-in-Ok-clause-unused
returns-in-Ok-clause-unused c = λ s sh. shown_unused _ s sh c.check_slots-in-Ok-2.ensures

pub returns-in-Err-clause-unused : goal.returns-in-Err-clause-unused
returns-in-Err-clause-unused c = λ s sh. shown_unused _ s sh c.check_slots-in-Err.ensures

pub returns-in-Ok-clause-in_turn : goal.returns-in-Ok-clause-in_turn
returns-in-Ok-clause-in_turn c =
    subst (λ (w : WorldView). StepsInTurn w c.args.event.now c.in-Ok.reply c.end_step-turns.new.world) (ap (λ (k : KernelView). k.tables) c.self.view_is)
    (record { mid = _; turns = c.in-Ok.ensures.performs.turns; ends = inr (c.in-Ok.ensures.performs.serves, (_, c.end_step-turns.ensures.settles)) })

pub returns-in-Err-clause-in_turn : goal.returns-in-Err-clause-in_turn
returns-in-Err-clause-in_turn c =
    rw c.number.ensures (subst (λ (w : WorldView). StepsInTurn w c.args.event.now (Reply.Code (code_number c.in-Err.code)) c.act.new.world) (ap (λ (k : KernelView). k.tables) c.self.view_is)
    (record { mid = c.act.new.world; turns = c.in-Err.ensures.performs.turns; ends = inl refl }))

pub returns-in-Err-clause-touches : goal.returns-in-Err-clause-touches
returns-in-Err-clause-touches c =
    rw c.number.ensures (still_touches _ _ _ _ _ _ (ap (λ (k : KernelView). k.tables) c.self.view_is) (none_touched _ _ _ _ _ c.in-Err.ensures.performs.serves))

pub returns-in-Ok-clause-touches : goal.returns-in-Ok-clause-touches
returns-in-Ok-clause-touches c =
    let same : c.self.inside.world ≡ c.args.self.now.tables = ap (λ (k : KernelView). k.tables) c.self.view_is in
    let e = c.end_step-turns.ensures in
    subst (λ (w : WorldView). Touches w c.args.event.now c.in-Ok.reply c.end_step-turns.new.world (touched_by c.end_step-turns.new.world c.end_step-turns.new.told)) same
    (touched_after _ _ _ _ _ _ c.in-Ok.ensures.performs.takes e.settles c.act.new.told c.end_step-turns.new.told c.in-Ok.ensures.tells e.change)

pub returns-in-Ok-clause-refused : goal.returns-in-Ok-clause-refused
returns-in-Ok-clause-refused c = done_refuses_none _ _ _ _ (touched_by c.end_step-turns.new.world c.end_step-turns.new.told) c.self.invariant c.in-Ok.ensures.performs.serves
