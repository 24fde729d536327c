use Rattle.std.proofs.Common.{sym, ap, subst, arith}
use Rattle.std.specs.FinMap as map
use Rattle.mach_types.specs.Numbers.{kind_sent}
use Rattle.name_space.specs.declared.Entry.{Entry}
use Rattle.name_space.specs.Names.{SpaceView, IsFreshFor}
use Rattle.copyin_base.specs.Changes.{CanInsertFresh, InsertsFresh}
use Rattle.copyin_base.specs.Worlds.{space_at}
use Rattle.copyin_base.proofs.Gets.{same_found}
use Rattle.copyout.specs.Giving.{alone}
use Rattle.copyout.proofs.Gives.{can_come, gives-taken}
use Rattle.copyout.proofs.give.take_name.Goals as goal

pub fresh-name-requires : goal.fresh-name-requires
fresh-name-requires c =
    let r = c.requires in
    let same = ap (λ (x : SpaceView). map.len x.names) (same_found (space_at c.args.world.now c.args.task) c.space.result r.space c.space.ensures r.there) in
    let few = r.not_full in
    omega (arith, same, few)

pub insert_fresh-requires : goal.insert_fresh-requires
insert_fresh-requires c =
    let r = c.requires in
    let fresh : IsFreshFor r.space c.fresh-name.result =
    subst (λ (x : SpaceView). IsFreshFor x c.fresh-name.result) (same_found (space_at c.args.world.now c.args.task) c.space.result r.space c.space.ensures r.there) c.fresh-name.ensures.fresh in
    subst (CanInsertFresh c.hold.new.world c.args.task c.fresh-name.result) (sym c.alone.ensures)
    (can_come c.args.world.now c.hold.new.world c.hold.new.world c.args.task (kind_sent c.args.given) c.args.port c.fresh-name.result r.space r.there c.hold.ensures
    c.fresh-name.ensures.usable fresh c.fresh-name.ensures.small r.room r.not_full r.lone r.live)

pub returns : goal.returns
returns c =
    let r = c.requires in
    let fresh : IsFreshFor r.space c.fresh-name.result =
    subst (λ (x : SpaceView). IsFreshFor x c.fresh-name.result) (same_found (space_at c.args.world.now c.args.task) c.space.result r.space c.space.ensures r.there) c.fresh-name.ensures.fresh in
    let puts : InsertsFresh c.hold.new.world c.args.task c.fresh-name.result (alone (kind_sent c.args.given) c.args.port) c.insert_fresh.new.self =
    subst (λ (e : Entry). InsertsFresh c.hold.new.world c.args.task c.fresh-name.result e c.insert_fresh.new.self) c.alone.ensures c.insert_fresh.ensures in
    gives-taken c.args.world.now c.hold.new.world c.insert_fresh.new.self c.args.task (kind_sent c.args.given) c.args.port c.fresh-name.result r.space r.there c.hold.ensures puts fresh r.not_full r.lone
