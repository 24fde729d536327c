use Rattle.copyout.proofs.Rooms.{told_receivable}
use Rattle.copyout.proofs.receipt.is_receivable.Goals as goal

pub returns : goal.returns
returns c = λ m f. told_receivable c.args.world.now c.args.task c.args.port m c.front.result.0.now f c.front.ensures.front c.args.room c.judge_names.result c.is_ok.result c.judge_names.ensures.ok c.judge_names.ensures.err c.is_ok.ensures.value
