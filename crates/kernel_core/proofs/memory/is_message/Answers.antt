use Rattle.kernel_core.proofs.Lacking.{message_ok, message_short, message_not}
use Rattle.kernel_core.proofs.memory.is_message.Goals as goal
use Rattle.kernel_core.proofs.memory.is_message.Goals.{in-Ok, in-Err+in-SendNoBuffer, in-Err+in_default}

pub returns : goal.returns
returns c =
    let x = rw c.as_slice.ensures at c.parse.ensures in
    elim c.match-parse.branch [
      | in-Ok w ↦ rw w.result-is (message_ok c.args.bytes.now c.parse.result x.ok _ w.in-Ok.is)
      | in-Err+in-SendNoBuffer w ↦ rw w.result-is (message_short c.args.bytes.now c.parse.result x.err _ w.in-Err.is w.in-SendNoBuffer.is)
      | in-Err+in_default w ↦ rw w.result-is (message_not c.args.bytes.now c.parse.result x.whole _ w.in-Err.is w.in_default.not-SendNoBuffer)
    ]
