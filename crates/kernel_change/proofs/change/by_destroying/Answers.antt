use Rattle.std.proofs.Common.{sym, ◌∙◌, arith}
use Rattle.std.specs.Option.{option_to_list}
use Rattle.kernel_change.proofs.LostRights.{next_told, none_past}
use Rattle.kernel_change.proofs.change.by_destroying.Goals as goal
use Rattle.kernel_change.proofs.change.by_destroying.Goals.{in-None, in-Some}

pub loop-place-preserved : goal.loop-place-preserved
loop-place-preserved c = elim c.match-right_at.branch [
  | in-Some w ↦
      w.told-is ∙ w.with_right-told.ensures
      ∙ next_told c.args.port (option_to_list c.args.queued.now.reply) c.args.queued.now.rights c.loop-place.place w.in-Some.carried c.loop-place.told c.loop-place.invariant (sym c.right_at.ensures ∙ w.in-Some.is)
  | in-None w ↦
      absurd (none_past c.args.queued.now.rights c.loop-place.place (let a = c.loop-place-test.true in let e = c.count_rights-place-end.ensures in omega (arith, a, e)) (sym c.right_at.ensures ∙ w.in-None.is))
]
