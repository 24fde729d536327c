use Rattle.std.proofs.Common.{◌≡◌, ℕ, Some, None, ap, ◌∙◌}
use Rattle.std.specs.FinMap as map
use Rattle.name_space.specs.declared.Entry.{Entry}
use Rattle.name_space.specs.Entry.{port_of}
use Rattle.name_space.specs.Names.{SpaceView}
use Rattle.port.specs.Ports.{IsLive}
use Rattle.copyin_base.specs.Reading.{live_in, read_names}
use Rattle.request_table.specs.Tables.{RequestTablesView, request_left}
use Rattle.copyin_base.specs.Worlds.{WorldView, with_space}
use Rattle.copyin_base.proofs.Reading.{put_reads}
use Rattle.copyin_base.proofs.Written.{left_lives, given_written, space_written}
use Rattle.copyin_base.proofs.Recounted.{ledger_of}
use Rattle.copyin_base.proofs.world.World.remove_name.Goals as goal

pub invariant_of-self : goal.invariant_of-self
invariant_of-self c =
    let r = c.requires in
    let lives : (e : Entry) → None ≡ Some e → (p : ℕ) → port_of e ≡ Some p → IsLive c.self.inside.ports.bare p = left_lives c.args.self.now c.args.task r.space c.self.inside.spaces.items c.self.inside.ports.bare (ledger_of c.self.inside.ports.counts c.self.inside.ledger) c.self.inside.sets c.self.inside.requests _ _ c.in-Some.space r.there c.self.view_is c.number.ensures c.index_mut.ensures.value c.in-Some.is None r.lives in (
      given_written c.args.self.now c.args.task r.space c.self.inside.spaces.items c.self.inside.ports.bare (ledger_of c.self.inside.ports.counts c.self.inside.ledger) c.self.inside.sets c.self.inside.requests _ _ c.in-Some.space r.there c.self.view_is c.number.ensures c.index_mut.ensures.value c.in-Some.is c.self.invariant.0 c.remove.new.self c.args.name None
          (ap (λ (x : SpaceView). x.names) c.remove.ensures.after) lives,
      c.self.invariant.1,
    )

pub returns : goal.returns
returns c =
    let r = c.requires in
    let lives : (e : Entry) → None ≡ Some e → (p : ℕ) → port_of e ≡ Some p → IsLive c.self.inside.ports.bare p = left_lives c.args.self.now c.args.task r.space c.self.inside.spaces.items c.self.inside.ports.bare (ledger_of c.self.inside.ports.counts c.self.inside.ledger) c.self.inside.sets c.self.inside.requests _ _ c.in-Some.space r.there c.self.view_is c.number.ensures c.index_mut.ensures.value c.in-Some.is None r.lives in
    let become = λ (x : SpaceView). record x { names = map.remove x.names c.args.name } in
    let reads = ap (λ m. record c.in-Some.space { names = m }) (put_reads (live_in c.self.inside.ports.bare) c.in-Some.space c.args.name None lives) in
    let written = space_written c.args.self.now c.args.task r.space c.self.inside.spaces.items c.self.inside.ports.bare (ledger_of c.self.inside.ports.counts c.self.inside.ledger) c.self.inside.sets c.self.inside.requests _ _ c.in-Some.space r.there c.self.view_is c.number.ensures c.index_mut.ensures.value c.in-Some.is become c.remove.new.self
    (ap (λ (x : SpaceView). record x { names = read_names (live_in c.self.inside.ports.bare) x.names }) c.remove.ensures.after ∙ reads) in
    record {
      space = r.space;
      there = r.there;
      rest = ap (λ (w : WorldView). record w { requests = c.leave.new.self }) written
          ∙ ap (λ (v : RequestTablesView). record (with_space c.args.self.now c.args.task (become r.space)) { requests = v })
          (c.leave.ensures ∙ ap (λ (w : WorldView). request_left w.requests c.args.task c.args.name) c.self.view_is);
    }
