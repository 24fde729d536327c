use Rattle.std.proofs.Common.{◌<◌, ℕ, refl}
use Rattle.name_space_base.specs.Pages.{WantsPage}
use Rattle.name_space.proofs.Keys.{for_err}
use Rattle.name_space.proofs.Tables.{no_neighbour}
use Rattle.name_space.proofs.plain.Plain.reserve.Goals as goal

pub returns-in_err-reserve-clause-wanted : goal.returns-in_err-reserve-clause-wanted
returns-in_err-reserve-clause-wanted c =
    let wanted : (number : ℕ) × (number < 65536) × WantsPage c.self.inside.low number = c.in_err-reserve.ensures.wanted in
    for_err c.from_residual.result (wanted.0, wanted.1, no_neighbour c.self.inside.low c.self.inside.high c.self.inside.room c.self.inside.kept c.self.invariant c.args.self.now c.self.view_is wanted.0 wanted.0 refl wanted.1 wanted.2)
