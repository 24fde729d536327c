use Rattle.notifications.proofs.Requested.{can_tell, tells}
use Rattle.notifications.proofs.request.tell_dead.Goals as goal

pub put_left-requires : goal.put_left-requires
put_left-requires c = can_tell c.args.world.now c.args.task c.args.name c.args.references c.add_pegged.result c.requires.dead

pub returns-clause-tells : goal.returns-clause-tells
returns-clause-tells c = tells c.args.world.now c.put_left.new.self c.post.new.self c.args.task c.args.name c.args.references c.add_pegged.result c.args.notify c.add_pegged.ensures c.requires.few c.put_left.ensures c.post.ensures.posts
