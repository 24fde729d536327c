use Rattle.std.proofs.Common.{◌<◌, ◌∙◌, ℕ, ap, arith}
use Rattle.std.specs.Prelude.{max}
use Rattle.name_space.specs.Names.{SpaceView}
use Rattle.copyin_base.specs.Changes.{MakesRoom}
use Rattle.copyin_base.specs.Wanted.{room_of}
use Rattle.copyin_base.specs.Worlds.{WorldView, space_at}
use Rattle.copyin_base.proofs.Roomier.{room_made}
use Rattle.copyin_base.proofs.Spaces.{on_ok, space-set_same}
use Rattle.copyin_base.proofs.Spares.{room_there}
use Rattle.notifications.proofs.request.reserve_name.Goals as goal

has_room : (w v : WorldView) (task : ℕ) → MakesRoom w task 1 v → 0 < room_of v task
has_room w v task m =
    let roomy : SpaceView = record m.space { room = max m.space.room 1 } in
    let is = room_there v task roomy (ap (λ (x : WorldView). space_at x task) m.rest ∙ space-set_same w.spaces task roomy m.space m.there) in
    omega (arith, is)

pub returns-then-comes_out-clause-ok : goal.returns-then-comes_out-clause-ok
returns-then-comes_out-clause-ok c = on_ok c.reserve_names.result _ _
    (λ m. record { same = room_made c.args.world.now c.reserve_names.new.self c.args.task 1 m; room = λ comes. has_room c.args.world.now c.reserve_names.new.self c.args.task m })
    c.reserve_names.ensures.ok
