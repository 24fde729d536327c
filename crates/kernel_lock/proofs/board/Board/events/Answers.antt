use Rattle.std.proofs.Common.{refl, sym, ap, ◌∙◌, arith}
use Rattle.kernel_lock.proofs.Moves.{looks_as}
use Rattle.kernel_lock.proofs.board.Board.events.Goals as goal

pub load-requires : goal.load-requires
load-requires c = (
  ap (λ x. x.table) c.watch.view_is ∙ c.requires ∙ sym c.self.view_is,
  omega (arith, c.self.invariant),
  looks_as _ _ _ _ _ c.watch.invariant refl,
)
