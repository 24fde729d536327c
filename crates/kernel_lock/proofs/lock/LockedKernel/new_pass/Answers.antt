use Rattle.std.proofs.Common.{sym, ap, ◌∙◌, arith, length}
use Rattle.kernel_lock.proofs.Lists.{no_calls}
use Rattle.kernel_lock.proofs.Moves.{makes_pass_as}
use Rattle.kernel_lock.proofs.lock.LockedKernel.new_pass.Goals as goal

pub split_seat-seat-requires : goal.split_seat-seat-requires
split_seat-seat-requires c = let k = c.self.inside in (ap (λ x. x.table) c.self.view_is ∙ c.requires ∙ sym c.board.view_is, omega (arith, c.board.invariant), makes_pass_as _ _ _ _ k.seat.me.0.seen (length k.counts.items) (ap (λ m. m.0) c.self.invariant.2) (no_calls k.counts.items k.seat.me.0.seen c.self.invariant.1))
