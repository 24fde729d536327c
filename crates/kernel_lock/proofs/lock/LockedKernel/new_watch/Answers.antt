use Rattle.std.proofs.Common.{sym, ap, ◌∙◌, arith}
use Rattle.kernel_lock.proofs.Moves.{makes_watch}
use Rattle.kernel_lock.proofs.lock.LockedKernel.new_watch.Goals as goal

pub split_seat-seat-requires : goal.split_seat-seat-requires
split_seat-seat-requires c = (ap (λ x. x.table) c.self.view_is ∙ c.requires ∙ sym c.board.view_is, omega (arith, c.board.invariant), makes_watch _ _ _)
