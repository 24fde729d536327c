use Rattle.std.proofs.Common.{◌≡◌, ◌<◌, None, ap, sym, subst, ◌∙◌, arith}
use Rattle.std.specs.FinMap as map
use Rattle.mach_types.specs.Numbers.{most_names}
use Rattle.name_space.specs.Names.{SpaceView, HasRoomIn}
use Rattle.name_space.specs.Table.{view_of}
use Rattle.name_space.proofs.Gathered.{fresh-fits}
use Rattle.name_space.proofs.table.Table.insert_fresh.Goals as goal

pub insert_low-requires-clause-small : goal.insert_low-requires-clause-small
insert_low-requires-clause-small c =
    let own : SpaceView = record { names = c.in-Plain.names.names; room = c.in-Plain.names.room; kept = c.in-Plain.names.kept; given = None } in
    let view : c.args.self.now ≡ own = sym c.self.view_is ∙ ap view_of c.in-Plain.is in
    let place : HasRoomIn None own c.args.name = subst (λ (v : SpaceView). HasRoomIn v.given v c.args.name) view c.requires.place in
    let few : map.len c.in-Plain.names.names < most_names = subst (λ (v : SpaceView). map.len v.names < most_names) view c.requires.not_full in
    let small : c.args.name < 65536 = fresh-fits c.in-Plain.names.names c.args.name place.0 few in
    let same = c.number.ensures in
    omega arith
