use Rattle.copyin.proofs.Going.{can_copy}
use Rattle.copyin.proofs.carry_out.copy_word.Goals as goal

pub copy_kept-requires : goal.copy_kept-requires
copy_kept-requires c =
    let usable = c.is_usable.ensures.0 c.if-is_usable.true in
    can_copy c.args.world.now c.args.task c.args.word c.args.carried.now c.requires usable.0 usable.1
