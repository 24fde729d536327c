use Rattle.std.proofs.Common.{ℕ, Option, refl, sym, subst}
use Rattle.std.specs.Prelude.{MatchOption}
use Rattle.mach_types.specs.declared.calls.Waited.TheVariants as AnyWaited
use Rattle.kernel_core.specs.Receive.{HasMessage, NoneWaits}
use Rattle.kernel_core.proofs.Ready.{port_waits, port_empty, member_told, when_member, when_alone}
use Rattle.kernel_core.proofs.receive.port_source.Goals as goal
use Rattle.kernel_core.proofs.receive.port_source.Goals.{then-standing-gt0, else-standing-gt0}

pub returns-then-standing-clause-err : goal.returns-then-standing-clause-err
returns-then-standing-clause-err c =
    let w = c.args.world.now in
    let s = c.in-Some.standing in
    (refl, when_member s.is_member _ _ (member_told w w.ports c.args.found.port s.is_member s.queued refl c.in-Some.ensures.some c.in-Some.ensures.nowhere c.requires) c.if-standing.true)

pub returns-clause-ok : goal.returns-clause-ok
returns-clause-ok c =
    let w = c.args.world.now in
    let s = c.in-Some.standing in (
      refl,
      when_alone s.is_member _ _ (member_told w w.ports c.args.found.port s.is_member s.queued refl c.in-Some.ensures.some c.in-Some.ensures.nowhere c.requires) c.if-standing.false,
      elim c.if-standing-gt0.branch [
        | then-standing-gt0 x ↦ subst (λ (o : Option ℕ). MatchOption o (NoneWaits w (AnyWaited.Port c.args.found.port)) (HasMessage w (AnyWaited.Port c.args.found.port))) (sym x.result-is)
            (port_waits w w.ports c.args.found.port s.is_member s.queued refl c.in-Some.ensures.some c.requires x.if-standing-gt0.true)
        | else-standing-gt0 x ↦ subst (λ (o : Option ℕ). MatchOption o (NoneWaits w (AnyWaited.Port c.args.found.port)) (HasMessage w (AnyWaited.Port c.args.found.port))) (sym x.result-is)
            (port_empty w w.ports c.args.found.port s.is_member s.queued refl c.in-Some.ensures.some x.if-standing-gt0.false)
      ],
    )
