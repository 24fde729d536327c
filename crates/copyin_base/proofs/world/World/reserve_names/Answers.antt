use Rattle.std.proofs.Common.{◌≡◌, true, false, ◌∙◌, ap, arith, inl, inr}
use Rattle.std.specs.Prelude.{max}
use Rattle.std.proofs.lemmas.Bool.{cases_lt}
use Rattle.name_space.specs.Names.{SpaceView}
use Rattle.copyin_base.specs.Reading.{live_in, read_space}
use Rattle.copyin_base.specs.Wanted.{room_of}
use Rattle.copyin_base.proofs.Spares.{room_there}
use Rattle.copyin_base.proofs.Told.{space_there}
use Rattle.copyin_base.proofs.Written.{lent_read, space_written}
use Rattle.copyin_base.proofs.Recounted.{ledger_of}
use Rattle.copyin_base.proofs.world.World.reserve_names.Goals as goal
use Rattle.copyin_base.proofs.world.World.reserve_names.Goals.{in-Ok, in-Err}

pub returns-clause-ok : goal.returns-clause-ok
returns-clause-ok c = elim c.match-reserve.branch [
  | in-Ok w ↦ rw w.result-is (
      let x = space_there c.args.self.now c.args.task c.requires in
      record {
        space = x.0;
        there = x.1;
        rest = space_written c.args.self.now c.args.task x.0 c.self.inside.spaces.items c.self.inside.ports.bare (ledger_of c.self.inside.ports.counts c.self.inside.ledger) c.self.inside.sets c.self.inside.requests _ _ c.in-Some.space x.1 c.self.view_is c.number.ensures c.index_mut.ensures.value c.in-Some.is (λ y. record y { room = max y.room c.args.number }) c.reserve.new.self (ap (read_space (live_in c.self.inside.ports.bare)) w.in-Ok.ensures.ok);
      })
  | in-Err w ↦ rw w.result-is tt
]

pub returns-clause-lacks : goal.returns-clause-lacks
returns-clause-lacks c = elim c.match-reserve.branch [
  | in-Ok w ↦ rw w.result-is tt
  | in-Err w ↦ rw w.result-is (
      let x = space_there c.args.self.now c.args.task c.requires in
      let here = lent_read c.args.self.now c.args.task x.0 c.self.inside.spaces.items c.self.inside.ports.bare (ledger_of c.self.inside.ports.counts c.self.inside.ledger) c.self.inside.sets c.self.inside.requests _ _ c.in-Some.space x.1 c.self.view_is c.number.ensures c.index_mut.ensures.value c.in-Some.is in
      let room : room_of c.args.self.now c.args.task ≡ c.in-Some.space.room = room_there c.args.self.now c.args.task x.0 x.1 ∙ ap (λ (y : SpaceView). y.room) here in
      elim (cases_lt c.in-Some.space.room c.args.number) [
        | inl h ↦ omega (arith, room, h)
        | inr h ↦ absurd (let ok : false ≡ true = w.in-Err.ensures.had_room h in cc)
      ])
]
