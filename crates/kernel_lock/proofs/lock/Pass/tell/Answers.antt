use Rattle.std.proofs.Common.{sym, ap, ◌∙◌, arith}
use Rattle.kernel_lock.specs.Views.{informed}
use Rattle.kernel_lock.proofs.Moves.{copies, informs, looks_as, knows_both}
use Rattle.kernel_lock.proofs.lock.Pass.tell.Goals as goal

pub split_seat-copy-requires : goal.split_seat-copy-requires
split_seat-copy-requires c = (ap (λ x. x.table) c.self.view_is ∙ c.requires.0 ∙ sym c.board.view_is, omega (arith, c.board.invariant), copies _ _ _)

pub join_seat-requires : goal.join_seat-requires
join_seat-requires c =
    let s = c.split_seat-copy.ensures in
    (ap (λ x. x.table) c.watch.view_is ∙ c.requires.1 ∙ sym c.board.view_is, s.3 ∙ ap (λ x. x.table) c.self.view_is ∙ c.requires.0 ∙ sym c.board.view_is, ap (λ m. m.1) s.4, omega (arith, c.board.invariant), informs _ _ _ _ _)

pub load-requires : goal.load-requires
load-requires c =
    let w = c.watch.invariant in
    let j = c.join_seat.ensures in (
      j.0 ∙ ap (λ x. x.table) c.watch.view_is ∙ c.requires.1 ∙ sym c.board.view_is,
      omega (arith, c.board.invariant),
      looks_as _ _ _ _ (informed c.watch.inside.seat.me.0 c.split_seat-copy.result.me.0) (j.2 ∙ (λ i. (informed c.watch.inside.seat.me.0 c.split_seat-copy.result.me.0, (w i).1)))
          (knows_both (ap (λ m. m.0.knows) w) (ap (λ m. m.0.knows) c.split_seat-copy.ensures.4 ∙ ap (λ m. m.0.knows) c.self.invariant.0)),
    )
