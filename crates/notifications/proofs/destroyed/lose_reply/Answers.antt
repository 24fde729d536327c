use Rattle.std.proofs.Common.{sym, subst, refl}
use Rattle.std.specs.Option.{option_to_list}
use Rattle.notifications.specs.Destroying.{LosesAll}
use Rattle.notifications.proofs.destroyed.lose_reply.Goals as goal

pub returns-in-Some : goal.returns-in-Some
returns-in-Some c = subst (λ o. LosesAll c.args.world.now (option_to_list o) c.lose_right.new.world) (sym c.in-Some.is) (c.lose_right.new.world, c.lose_right.ensures, refl)
