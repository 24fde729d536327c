use Rattle.std.proofs.Common.{refl, sym, subst}
use Rattle.mach_types.specs.declared.calls.Event.{Event}
use Rattle.copyin_base.specs.Changes.{SameButRoom}
use Rattle.copyin_base.proofs.Roomier.{room_made, room_refl}
use Rattle.kernel_core_base.specs.Names.{CanAdd}
use Rattle.kernel_core_base.proofs.Allocated.{can_add_fresh, not_full_roomy, room_roomy, can_insert_fresh, adds_fresh, allocate_done}
use Rattle.kernel_core_base.proofs.Refused.{no_memory}
use Rattle.kernel_core_base.proofs.names.allocate.Goals as goal

pub returns-in_err-reserve_names-clause-serves : goal.returns-in_err-reserve_names-clause-serves
returns-in_err-reserve_names-clause-serves c =
    no_memory c.args.world.now c.reserve_names.new.self (Event.Allocate c.args.task c.args.right) c.requires.there c.in_ok-made.ensures.ok (λ s. refl)
    c.from_residual-in_err-reserve_names.result _ c.from_residual-in_err-reserve_names.ensures
    (c.in_err-reserve_names.ensures.err.0, subst (SameButRoom c.args.world.now) (sym c.in_err-reserve_names.ensures.err.1) (room_refl c.args.world.now))

pub make_right-requires-clause-room : goal.make_right-requires-clause-room
make_right-requires-clause-room c =
    let can : CanAdd c.reserve_names.new.self c.args.task c.in_ok-made.made c.fresh-name.result = can_add_fresh c.args.world.now c.reserve_names.new.self c.requires.stands c.args.task c.in_ok-made.made c.fresh-name.result c.in_ok-made.ensures.made.room c.in_ok-reserve_names.ensures.ok
    c.space.result c.space.ensures c.fresh-name.ensures.fresh c.fresh-name.ensures.usable in
    can.has.more

pub make_right-requires-clause-unknown : goal.make_right-requires-clause-unknown
make_right-requires-clause-unknown c =
    let can : CanAdd c.reserve_names.new.self c.args.task c.in_ok-made.made c.fresh-name.result = can_add_fresh c.args.world.now c.reserve_names.new.self c.requires.stands c.args.task c.in_ok-made.made c.fresh-name.result c.in_ok-made.ensures.made.room c.in_ok-reserve_names.ensures.ok
    c.space.result c.space.ensures c.fresh-name.ensures.fresh c.fresh-name.ensures.usable in
    can.unknown

pub fresh-name-requires : goal.fresh-name-requires
fresh-name-requires c = record {
  not_full = not_full_roomy c.args.world.now c.reserve_names.new.self c.args.task c.in_ok-made.made c.in_ok-made.ensures.made.room c.in_ok-reserve_names.ensures.ok c.space.result c.space.ensures;
}

pub insert_fresh-requires : goal.insert_fresh-requires
insert_fresh-requires c =
    let can : CanAdd c.reserve_names.new.self c.args.task c.in_ok-made.made c.fresh-name.result = can_add_fresh c.args.world.now c.reserve_names.new.self c.requires.stands c.args.task c.in_ok-made.made c.fresh-name.result c.in_ok-made.ensures.made.room c.in_ok-reserve_names.ensures.ok
    c.space.result c.space.ensures c.fresh-name.ensures.fresh c.fresh-name.ensures.usable in
    can_insert_fresh c.reserve_names.new.self c.make_right.new.world c.args.task c.fresh-name.result c.in_ok-made.made c.in_ok-entry.entry can c.in_ok-entry.ensures.ok
    c.space.result c.space.ensures c.fresh-name.ensures.fresh c.fresh-name.ensures.small (room_roomy c.args.world.now c.reserve_names.new.self c.args.task c.in_ok-reserve_names.ensures.ok c.space.result c.space.ensures)

pub returns-in_err-entry-clause-serves : goal.returns-in_err-entry-clause-serves
returns-in_err-entry-clause-serves c =
    no_memory c.args.world.now c.make_right.new.world (Event.Allocate c.args.task c.args.right) c.requires.there c.in_ok-made.ensures.ok (λ s. refl)
    c.from_residual-in_err-entry.result _ c.from_residual-in_err-entry.ensures
    (c.in_err-entry.ensures.err.0, subst (SameButRoom c.args.world.now) (sym c.in_err-entry.ensures.err.1) (room_made c.args.world.now c.reserve_names.new.self c.args.task 1 c.in_ok-reserve_names.ensures.ok))

pub returns-clause-serves : goal.returns-clause-serves
returns-clause-serves c =
    let can : CanAdd c.reserve_names.new.self c.args.task c.in_ok-made.made c.fresh-name.result = can_add_fresh c.args.world.now c.reserve_names.new.self c.requires.stands c.args.task c.in_ok-made.made c.fresh-name.result c.in_ok-made.ensures.made.room c.in_ok-reserve_names.ensures.ok
    c.space.result c.space.ensures c.fresh-name.ensures.fresh c.fresh-name.ensures.usable in
    let added = adds_fresh c.reserve_names.new.self c.make_right.new.world c.args.task c.fresh-name.result c.in_ok-made.made c.in_ok-entry.entry can c.in_ok-entry.ensures.ok c.insert_fresh.new.self c.insert_fresh.ensures in
    allocate_done c.args.world.now c.reserve_names.new.self added.0 (room_made c.args.world.now c.reserve_names.new.self c.args.task 1 c.in_ok-reserve_names.ensures.ok)
    c.args.task c.args.right c.fresh-name.result c.in_ok-made.made c.requires.there c.in_ok-made.ensures.made.number_is
    c.in_ok-made.ensures.ok c.space.result c.space.ensures c.fresh-name.ensures.fresh added.1 c.insert_fresh.new.self added.2
