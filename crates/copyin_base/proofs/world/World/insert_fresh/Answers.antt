use Rattle.std.proofs.Common.{◌≡◌, ◌-◌, ℕ, Some, true, sym, ap, subst, ◌∙◌, arith}
use Rattle.std.specs.FinMap as map
use Rattle.name_space.specs.Entry.{port_of}
use Rattle.name_space.specs.declared.Entry.{Entry}
use Rattle.name_space.specs.Names.{SpaceView, HasRoomIn, HasNoOther, CanCountIn, given_after}
use Rattle.port.specs.Ports.{PortsView, IsLive}
use Rattle.tables_base.specs.Kept.{Kept}
use Rattle.copyin_base.specs.Reading.{live_in, read_names}
use Rattle.copyin_base.proofs.Gets.{of_some}
use Rattle.tables_base.proofs.Reading.{unused_read, len_read, room_kept, count_kept, no_other_kept}
use Rattle.copyin_base.proofs.Reading.{put_reads}
use Rattle.copyin_base.proofs.Written.{lent_read, ports_there, given_written, space_written}
use Rattle.copyin_base.proofs.Recounted.{ledger_of}
use Rattle.copyin_base.proofs.world.World.insert_fresh.Goals as goal

pub insert_fresh-requires-clause-unused : goal.insert_fresh-requires-clause-unused
insert_fresh-requires-clause-unused c =
    let r = c.requires.can in
    let is = lent_read c.args.self.now c.args.task r.space c.self.inside.spaces.items c.self.inside.ports.bare (ledger_of c.self.inside.ports.counts c.self.inside.ledger) c.self.inside.sets c.self.inside.requests _ _ c.in-Some.space r.there c.self.view_is c.number.ensures c.index_mut.ensures.value c.in-Some.is in
    unused_read (live_in c.self.inside.ports.bare) c.in-Some.space.names c.args.name (ap (λ (x : SpaceView). map.get x.names c.args.name) (sym is) ∙ r.unused)

pub insert_fresh-requires-clause-not_full : goal.insert_fresh-requires-clause-not_full
insert_fresh-requires-clause-not_full c =
    let r = c.requires.can in
    let is = lent_read c.args.self.now c.args.task r.space c.self.inside.spaces.items c.self.inside.ports.bare (ledger_of c.self.inside.ports.counts c.self.inside.ledger) c.self.inside.sets c.self.inside.requests _ _ c.in-Some.space r.there c.self.view_is c.number.ensures c.index_mut.ensures.value c.in-Some.is in
    let same : map.len r.space.names ≡ map.len c.in-Some.space.names = ap (λ (x : SpaceView). map.len x.names) is ∙ len_read (live_in c.self.inside.ports.bare) c.in-Some.space.names in
    let few = r.few in
    omega (arith, same, few)

pub insert_fresh-requires-clause-place : goal.insert_fresh-requires-clause-place
insert_fresh-requires-clause-place c =
    let r = c.requires.can in
    let is = lent_read c.args.self.now c.args.task r.space c.self.inside.spaces.items c.self.inside.ports.bare (ledger_of c.self.inside.ports.counts c.self.inside.ledger) c.self.inside.sets c.self.inside.requests _ _ c.in-Some.space r.there c.self.view_is c.number.ensures c.index_mut.ensures.value c.in-Some.is in
    room_kept (live_in c.self.inside.ports.bare) c.in-Some.space c.in-Some.space.given c.args.name (subst (λ (x : SpaceView). HasRoomIn x.given x c.args.name) is c.requires.room)

pub insert_fresh-requires-clause-counts : goal.insert_fresh-requires-clause-counts
insert_fresh-requires-clause-counts c =
    let r = c.requires.can in
    let is = lent_read c.args.self.now c.args.task r.space c.self.inside.spaces.items c.self.inside.ports.bare (ledger_of c.self.inside.ports.counts c.self.inside.ledger) c.self.inside.sets c.self.inside.requests _ _ c.in-Some.space r.there c.self.view_is c.number.ensures c.index_mut.ensures.value c.in-Some.is in
    count_kept (live_in c.self.inside.ports.bare) c.in-Some.space c.in-Some.space.given c.args.name (subst (λ (x : SpaceView). CanCountIn x.given x c.args.name) is c.requires.counts)

pub insert_fresh-requires-clause-apart : goal.insert_fresh-requires-clause-apart
insert_fresh-requires-clause-apart c =
    let r = c.requires.can in
    let is = lent_read c.args.self.now c.args.task r.space c.self.inside.spaces.items c.self.inside.ports.bare (ledger_of c.self.inside.ports.counts c.self.inside.ledger) c.self.inside.sets c.self.inside.requests _ _ c.in-Some.space r.there c.self.view_is c.number.ensures c.index_mut.ensures.value c.in-Some.is in
    let same = ports_there c.args.self.now c.args.task r.space c.self.inside.spaces.items c.self.inside.ports.bare (ledger_of c.self.inside.ports.counts c.self.inside.ledger) c.self.inside.sets c.self.inside.requests _ _ c.in-Some.space r.there c.self.view_is c.number.ensures c.index_mut.ensures.value c.in-Some.is in
    let lives : (p : ℕ) → port_of c.args.entry ≡ Some p → live_in c.self.inside.ports.bare p ≡ true = λ p for. subst (λ (x : PortsView Kept). IsLive x p) (sym same) (r.lives p for) in
    no_other_kept (live_in c.self.inside.ports.bare) c.in-Some.space.names c.args.entry lives (subst (λ (x : SpaceView). HasNoOther x.names c.args.entry) is r.apart)

pub invariant_of-self : goal.invariant_of-self
invariant_of-self c =
    let r = c.requires.can in
    let same = ports_there c.args.self.now c.args.task r.space c.self.inside.spaces.items c.self.inside.ports.bare (ledger_of c.self.inside.ports.counts c.self.inside.ledger) c.self.inside.sets c.self.inside.requests _ _ c.in-Some.space r.there c.self.view_is c.number.ensures c.index_mut.ensures.value c.in-Some.is in (
      given_written c.args.self.now c.args.task r.space c.self.inside.spaces.items c.self.inside.ports.bare (ledger_of c.self.inside.ports.counts c.self.inside.ledger) c.self.inside.sets c.self.inside.requests _ _ c.in-Some.space r.there c.self.view_is c.number.ensures c.index_mut.ensures.value c.in-Some.is c.self.invariant.0 c.insert_fresh.new.self c.args.name (Some c.args.entry) (ap (λ (x : SpaceView). x.names) c.insert_fresh.ensures)
          (of_some c.args.entry (λ e. (p : ℕ) → port_of e ≡ Some p → IsLive c.self.inside.ports.bare p) (λ p for. subst (λ (x : PortsView Kept). IsLive x p) (sym same) (r.lives p for))),
      c.self.invariant.1,
    )

pub returns : goal.returns
returns c =
    let r = c.requires.can in
    let same = ports_there c.args.self.now c.args.task r.space c.self.inside.spaces.items c.self.inside.ports.bare (ledger_of c.self.inside.ports.counts c.self.inside.ledger) c.self.inside.sets c.self.inside.requests _ _ c.in-Some.space r.there c.self.view_is c.number.ensures c.index_mut.ensures.value c.in-Some.is in
    let become = λ (x : SpaceView). record x { names = map.insert x.names c.args.name c.args.entry; room = x.room - 1; given = given_after x.given c.args.name } in
    let lives : (e : Entry) → Some c.args.entry ≡ Some e → (p : ℕ) → port_of e ≡ Some p → live_in c.self.inside.ports.bare p ≡ true =
    of_some c.args.entry (λ e. (p : ℕ) → port_of e ≡ Some p → live_in c.self.inside.ports.bare p ≡ true) (λ p for. subst (λ (x : PortsView Kept). IsLive x p) (sym same) (r.lives p for)) in
    record {
      space = r.space;
      there = r.there;
      rest = space_written c.args.self.now c.args.task r.space c.self.inside.spaces.items c.self.inside.ports.bare (ledger_of c.self.inside.ports.counts c.self.inside.ledger) c.self.inside.sets c.self.inside.requests _ _ c.in-Some.space r.there c.self.view_is c.number.ensures c.index_mut.ensures.value c.in-Some.is become c.insert_fresh.new.self
          (ap (λ (x : SpaceView). record x { names = read_names (live_in c.self.inside.ports.bare) x.names }) c.insert_fresh.ensures
          ∙ ap (λ m. record c.in-Some.space { names = m; room = c.in-Some.space.room - 1; given = given_after c.in-Some.space.given c.args.name }) (put_reads (live_in c.self.inside.ports.bare) c.in-Some.space c.args.name (Some c.args.entry) lives));
    }
