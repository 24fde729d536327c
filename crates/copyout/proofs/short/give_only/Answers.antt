use Rattle.copyout.proofs.Delivered.{own_told, can_name, named_own}
use Rattle.copyout.proofs.short.give_only.Goals as goal

pub take_name-requires : goal.take_name-requires
take_name-requires c =
    let w = c.args.world.now in
    let i = c.in-Some-Some in
    can_name w c.args.task c.args.right.now i.carried i.is-0 i.port (own_told w c.args.task c.args.right.now c.args.own i.port i.is-1 c.requires.own) c.requires.can

pub returns-in-Some-Some : goal.returns-in-Some-Some
returns-in-Some-Some c =
    let w = c.args.world.now in
    let i = c.in-Some-Some in
    named_own w c.args.task c.args.right.now i.carried i.is-0 i.port (own_told w c.args.task c.args.right.now c.args.own i.port i.is-1 c.requires.own)
    c.take_name.result c.take_name.new.world c.take_name.ensures
