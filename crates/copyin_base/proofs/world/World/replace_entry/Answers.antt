use Rattle.std.proofs.Common.{◌≡◌, ℕ, Some, sym, ap, ◌∙◌}
use Rattle.std.specs.FinMap as map
use Rattle.name_space.specs.declared.Entry.{Entry}
use Rattle.name_space.specs.Entry.{port_of}
use Rattle.name_space.specs.Names.{SpaceView}
use Rattle.name_space.specs.Names.{port_at as named_at}
use Rattle.port.specs.Ports.{IsLive}
use Rattle.copyin_base.specs.Reading.{live_in, read_names}
use Rattle.tables_base.proofs.Reading.{used_read, named_kept}
use Rattle.copyin_base.proofs.Reading.{put_reads}
use Rattle.copyin_base.proofs.Written.{lent_read, left_lives, given_written, space_written}
use Rattle.copyin_base.proofs.Recounted.{ledger_of}
use Rattle.copyin_base.proofs.world.World.replace_entry.Goals as goal

pub replace-requires-clause-used : goal.replace-requires-clause-used
replace-requires-clause-used c =
    let r = c.requires in
    let is = lent_read c.args.self.now c.args.task r.space c.self.inside.spaces.items c.self.inside.ports.bare (ledger_of c.self.inside.ports.counts c.self.inside.ledger) c.self.inside.sets c.self.inside.requests _ _ c.in-Some.space r.there c.self.view_is c.number.ensures c.index_mut.ensures.value c.in-Some.is in
    sym (used_read (live_in c.self.inside.ports.bare) c.in-Some.space.names c.args.name) ∙ ap (λ (x : SpaceView). map.contains_key x.names c.args.name) (sym is) ∙ r.used

pub replace-requires-clause-same : goal.replace-requires-clause-same
replace-requires-clause-same c = λ port named.
    let r = c.requires in
    let is = lent_read c.args.self.now c.args.task r.space c.self.inside.spaces.items c.self.inside.ports.bare (ledger_of c.self.inside.ports.counts c.self.inside.ledger) c.self.inside.sets c.self.inside.requests _ _ c.in-Some.space r.there c.self.view_is c.number.ensures c.index_mut.ensures.value c.in-Some.is in
    named_kept (live_in c.self.inside.ports.bare) c.in-Some.space.names c.args.name port (ap (λ (x : SpaceView). named_at x.names c.args.name) (sym is) ∙ r.same port named)

pub invariant_of-self : goal.invariant_of-self
invariant_of-self c =
    let r = c.requires in
    let lives : (e : Entry) → Some c.args.entry ≡ Some e → (p : ℕ) → port_of e ≡ Some p → IsLive c.self.inside.ports.bare p = left_lives c.args.self.now c.args.task r.space c.self.inside.spaces.items c.self.inside.ports.bare (ledger_of c.self.inside.ports.counts c.self.inside.ledger) c.self.inside.sets c.self.inside.requests _ _ c.in-Some.space r.there c.self.view_is c.number.ensures c.index_mut.ensures.value c.in-Some.is (Some c.args.entry) r.lives in (
      given_written c.args.self.now c.args.task r.space c.self.inside.spaces.items c.self.inside.ports.bare (ledger_of c.self.inside.ports.counts c.self.inside.ledger) c.self.inside.sets c.self.inside.requests _ _ c.in-Some.space r.there c.self.view_is c.number.ensures c.index_mut.ensures.value c.in-Some.is c.self.invariant.0 c.replace.new.self c.args.name (Some c.args.entry)
          (ap (λ (x : SpaceView). x.names) c.replace.ensures) lives,
      c.self.invariant.1,
    )

pub returns : goal.returns
returns c =
    let r = c.requires in
    let lives : (e : Entry) → Some c.args.entry ≡ Some e → (p : ℕ) → port_of e ≡ Some p → IsLive c.self.inside.ports.bare p = left_lives c.args.self.now c.args.task r.space c.self.inside.spaces.items c.self.inside.ports.bare (ledger_of c.self.inside.ports.counts c.self.inside.ledger) c.self.inside.sets c.self.inside.requests _ _ c.in-Some.space r.there c.self.view_is c.number.ensures c.index_mut.ensures.value c.in-Some.is (Some c.args.entry) r.lives in
    let become = λ (x : SpaceView). record x { names = map.insert x.names c.args.name c.args.entry } in
    let reads = ap (λ m. record c.in-Some.space { names = m }) (put_reads (live_in c.self.inside.ports.bare) c.in-Some.space c.args.name (Some c.args.entry) lives) in
    record {
      space = r.space;
      there = r.there;
      rest = space_written c.args.self.now c.args.task r.space c.self.inside.spaces.items c.self.inside.ports.bare (ledger_of c.self.inside.ports.counts c.self.inside.ledger) c.self.inside.sets c.self.inside.requests _ _ c.in-Some.space r.there c.self.view_is c.number.ensures c.index_mut.ensures.value c.in-Some.is become c.replace.new.self
          (ap (λ (x : SpaceView). record x { names = read_names (live_in c.self.inside.ports.bare) x.names }) c.replace.ensures ∙ reads);
    }
