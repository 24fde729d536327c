use Rattle.std.proofs.Common.{ℕ, sym, subst}
use Rattle.copyout.specs.Ready.{IsNumbered}
use Rattle.copyout.proofs.Rooms.{one_front, may_enough}
use Rattle.copyout.proofs.receipt.judge.Goals as goal

pub judge_names-requires-clause-few : goal.judge_names-requires-clause-few
judge_names-requires-clause-few c =
    one_front c.args.world.now c.args.found.port c.requires.waits.0 c.front-sequence.result.0.now c.requires.waits.1 c.front-sequence.ensures.front c.requires.waits.2

pub returns-in-Ok-clause-ok : goal.returns-in-Ok-clause-ok
returns-in-Ok-clause-ok c =
    let ok = c.in-Ok.ensures.ok in (
      record { front = c.front-sequence.result.0.now; waits = c.front-sequence.ensures.front; may = c.in_ok-needed.ensures.ok },
      ok.0,
      subst (λ (n : ℕ). IsNumbered c.args.world.now c.args.found.port n) (sym ok.1) c.front-sequence.ensures.numbered,
    )

pub returns-in-Err-clause-err : goal.returns-in-Err-clause-err
returns-in-Err-clause-err c = (
  c.front-sequence.result.0.now,
  c.front-sequence.ensures.front,
  may_enough c.args.world.now c.args.task c.front-sequence.result.0.now c.args.room c.in_ok-needed.needed c.in_ok-needed.ensures.ok,
)
