use Rattle.std.proofs.Common.{refl, sym, ap, subst, ◌∙◌}
use Rattle.mach_types.specs.declared.calls.Event.{Event}
use Rattle.port_set.specs.Sets.{IsThere}
use Rattle.copyin_base.specs.Changes.{SameButRoom}
use Rattle.copyin_base.specs.Worlds.{WorldView}
use Rattle.copyin_base.proofs.Roomier.{place_kept, room_refl}
use Rattle.copyin_base.proofs.Spares.{keeps_trans, place_keeps}
use Rattle.kernel_core_base.proofs.Refused.{no_memory}
use Rattle.kernel_core_base.proofs.Renamed.{may_still, is_kept, stand_still, no_request_to, set_there, named_from, rename_done}
use Rattle.kernel_core_base.proofs.ReferencesSet.{moved_keeps}
use Rattle.kernel_core_base.proofs.names.rename.Goals as goal

pub returns-in_err-reserve_name-clause-serves : goal.returns-in_err-reserve_name-clause-serves
returns-in_err-reserve_name-clause-serves c =
    no_memory c.args.world.now c.reserve_name.new.self (Event.Rename c.args.task c.args.from c.args.to) c.requires.there c.in_ok-entry.ensures.ok (λ s. refl)
    c.from_residual-in_err-reserve_name.result _ c.from_residual-in_err-reserve_name.ensures
    (c.in_err-reserve_name.ensures.err.0, subst (SameButRoom c.args.world.now) (sym c.in_err-reserve_name.ensures.err.1) (room_refl c.args.world.now))

pub move_entry-requires : goal.move_entry-requires
move_entry-requires c =
    let m = c.in_ok-reserve_name.ensures.ok in
    record {
      may = (c.in_ok-entry.entry, may_still c.args.world.now c.reserve_name.new.self c.args.task c.args.to m c.args.from c.in_ok-entry.entry c.in_ok-entry.ensures.may);
      place = is_kept c.args.world.now c.reserve_name.new.self c.args.task c.args.to m;
    }

pub move_on_name-requires : goal.move_on_name-requires
move_on_name-requires c =
    let m = c.in_ok-reserve_name.ensures.ok in
    let may = may_still c.args.world.now c.reserve_name.new.self c.args.task c.args.to m c.args.from c.in_ok-entry.entry c.in_ok-entry.ensures.may in
    no_request_to c.reserve_name.new.self c.move_entry.new.self c.args.task c.args.from c.args.to c.in_ok-entry.ensures.small c.in_ok-entry.entry may (c.move_entry.ensures c.in_ok-entry.entry may)
    (stand_still c.args.world.now c.reserve_name.new.self c.args.task c.args.to m c.requires.stands)

pub name_set-requires : goal.name_set-requires
name_set-requires c = λ set kind.
    let m = c.in_ok-reserve_name.ensures.ok in
    let may = may_still c.args.world.now c.reserve_name.new.self c.args.task c.args.to m c.args.from c.in_ok-entry.entry c.in_ok-entry.ensures.may in
    subst (λ (w : WorldView). IsThere w.sets set) (sym c.move_on_name.ensures)
    (set_there c.reserve_name.new.self c.move_entry.new.self c.args.task c.args.from c.args.to c.in_ok-entry.ensures.small c.in_ok-entry.entry may (c.move_entry.ensures c.in_ok-entry.entry may)
    (stand_still c.args.world.now c.reserve_name.new.self c.args.task c.args.to m c.requires.stands) set kind)

pub returns-clause-serves : goal.returns-clause-serves
returns-clause-serves c =
    let m = c.in_ok-reserve_name.ensures.ok in
    let may = may_still c.args.world.now c.reserve_name.new.self c.args.task c.args.to m c.args.from c.in_ok-entry.entry c.in_ok-entry.ensures.may in
    let moves = c.move_entry.ensures c.in_ok-entry.entry may in
    rename_done c.reserve_name.new.self c.move_entry.new.self c.args.task c.args.from c.args.to c.in_ok-entry.ensures.small c.in_ok-entry.entry may moves
    c.args.world.now (place_kept c.args.world.now c.reserve_name.new.self c.args.task c.args.to m) c.requires.there c.in_ok-entry.ensures.ok c.name_set.new.world
    (named_from c.reserve_name.new.self c.move_entry.new.self c.args.task c.args.from c.args.to c.in_ok-entry.ensures.small c.in_ok-entry.entry may moves
    c.move_on_name.new.self c.move_on_name.ensures c.name_set.new.world c.name_set.ensures)

pub returns-clause-spares : goal.returns-clause-spares
returns-clause-spares c =
    let m = c.in_ok-reserve_name.ensures.ok in
    let may = may_still c.args.world.now c.reserve_name.new.self c.args.task c.args.to m c.args.from c.in_ok-entry.entry c.in_ok-entry.ensures.may in
    keeps_trans c.args.world.now c.reserve_name.new.self c.name_set.new.world (place_keeps c.args.world.now c.reserve_name.new.self c.args.task c.args.to m)
    (moved_keeps c.reserve_name.new.self c.name_set.new.world c.args.task c.move_entry.new.self c.args.from c.args.to c.in_ok-entry.entry (c.move_entry.ensures c.in_ok-entry.entry may)
    (ap (λ (w : WorldView). w.spaces) c.name_set.ensures ∙ ap (λ (w : WorldView). w.spaces) c.move_on_name.ensures) (ap (λ (w : WorldView). w.ports) c.name_set.ensures ∙ ap (λ (w : WorldView). w.ports) c.move_on_name.ensures))
