use Rattle.std.proofs.Common.{◌∙◌, ◌⊎◌, ap, sym, subst, Some}
use Rattle.name_space_base.specs.High.{KeepsUsed}
use Rattle.name_space.specs.Names.{SpaceView, MayWantIn}
use Rattle.copyin_base.specs.Reading.{live_in, read_space}
use Rattle.tables_base.proofs.Reading.{place_wanted}
use Rattle.copyin_base.proofs.Told.{space_there}
use Rattle.copyin_base.proofs.Written.{lent_read, space_written}
use Rattle.copyin_base.proofs.Recounted.{ledger_of}
use Rattle.copyin_base.proofs.world.World.reserve_name.Goals as goal
use Rattle.copyin_base.proofs.world.World.reserve_name.Goals.{in-Ok, in-Err}

pub returns-clause-ok : goal.returns-clause-ok
returns-clause-ok c = elim c.match-reserve_name.branch [
  | in-Ok w ↦ rw w.result-is (
      let x = space_there c.args.self.now c.args.task c.requires.there in
      record {
        space = x.0;
        there = x.1;
        rest = space_written c.args.self.now c.args.task x.0 c.self.inside.spaces.items c.self.inside.ports.bare (ledger_of c.self.inside.ports.counts c.self.inside.ledger) c.self.inside.sets c.self.inside.requests _ _ c.in-Some.space x.1 c.self.view_is c.number.ensures c.index_mut.ensures.value c.in-Some.is (λ y. record y { kept = Some c.args.name }) c.reserve_name.new.self (ap (read_space (live_in c.self.inside.ports.bare)) w.in-Ok.ensures.ok);
      })
  | in-Err w ↦ rw w.result-is tt
]

pub returns-clause-lacks : goal.returns-clause-lacks
returns-clause-lacks c = elim c.match-reserve_name.branch [
  | in-Ok w ↦ rw w.result-is tt
  | in-Err w ↦ rw w.result-is (
      let x = space_there c.args.self.now c.args.task c.requires.there in
      let here = lent_read c.args.self.now c.args.task x.0 c.self.inside.spaces.items c.self.inside.ports.bare (ledger_of c.self.inside.ports.counts c.self.inside.ledger) c.self.inside.sets c.self.inside.requests _ _ c.in-Some.space x.1 c.self.view_is c.number.ensures c.index_mut.ensures.value c.in-Some.is in
      record {
        space = x.0;
        there = x.1;
        none_kept = λ kept. w.in-Err.ensures.wanted (ap (λ (y : SpaceView). y.kept) (sym here) ∙ kept);
        wanted = subst (λ (y : SpaceView). KeepsUsed y.names y.kept ⊎ MayWantIn y.given y c.args.name) (sym here) (place_wanted (live_in c.self.inside.ports.bare) c.in-Some.space c.args.name w.in-Err.ensures.place);
      })
]
