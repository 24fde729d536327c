use Rattle.std.proofs.Common.{◌≡◌, true}
use Rattle.mach_model.proofs.Settling.{Dies-closed, Dies-least}
use Rattle.mach_laws.proofs.exactly_these_die.Goals as goal

pub returns-clause-closed : goal.returns-clause-closed
returns-clause-closed c = Dies-closed

pub returns-clause-least : goal.returns-clause-least
returns-clause-least c = λ mid set closed. Dies-least mid (λ q. set q ≡ true) closed

pub returns-clause-exact : goal.returns-clause-exact
returns-clause-exact c = λ now old event reply new d p live. (d.settles.deaths.only p live, d.settles.deaths.dies p)
