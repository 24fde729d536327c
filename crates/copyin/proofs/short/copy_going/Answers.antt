use Rattle.copyin.proofs.Going.{can_copy}
use Rattle.copyin.proofs.short.copy_going.Goals as goal

pub copy_placed-requires : goal.copy_placed-requires
copy_placed-requires c =
    let usable = c.is_usable.ensures.0 c.if-is_usable.true in
    can_copy c.args.world.now c.args.task c.args.going.word c.args.going.carried c.requires usable.0 usable.1
