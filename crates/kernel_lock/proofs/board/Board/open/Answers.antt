use Rattle.kernel_lock.proofs.Moves.{begins}
use Rattle.kernel_lock.proofs.board.Board.open.Goals as goal

pub of_words-requires : goal.of_words-requires
of_words-requires c = begins _
