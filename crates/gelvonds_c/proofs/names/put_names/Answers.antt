use Rattle.std.proofs.Common.{◌∙◌, ap, arith, slice_set}
use Rattle.gelvonds_c.proofs.Lists.{put_next}
use Rattle.gelvonds_c.proofs.names.put_names.Goals as goal

pub loop-place-preserved : goal.loop-place-preserved
loop-place-preserved c =
    let l = c.loop-place in (
      rw c.number.ensures (ap (λ xs. slice_set xs l.place c.index-found-place.result.0) l.invariant.0 ∙ put_next (λ e. e.0) c.args.found.now c.args.names.now l.place c.index-found-place.result (omega arith) (omega arith) c.index-found-place.is),
      ap (λ xs. slice_set xs l.place c.index-found-place.result.1) l.invariant.1 ∙ put_next (λ e. e.1) c.args.found.now c.args.types.now l.place c.index-found-place.result (omega arith) (omega arith) c.index-found-place.is,
    )
