use Rattle.notifications.proofs.RequestJudged.{short_may}
use Rattle.notifications.proofs.request.check_request.Goals as goal

pub returns-in-Ok-clause-ok : goal.returns-in-Ok-clause-ok
returns-in-Ok-clause-ok c = short_may c.args.world.now c.args.task c.args.name c.args.asked.now _ _ _ c.requires.there c.in-Ok.ensures.ok
