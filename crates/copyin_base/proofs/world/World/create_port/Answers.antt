use Rattle.std.proofs.Common.{◌≡◌, ℕ, ◌+◌, None, ap, ◌∙◌, subst, arith}
use Rattle.std.specs.FinMap as map
use Rattle.rights.specs.declared.RightKind.TheVariants as right
use Rattle.rights.specs.Counted.{IsCounted}
use Rattle.rights.specs.Counts.{no_rights, with_more}
use Rattle.rights.specs.Ledger.{LedgerView, entered, made}
use Rattle.rights.proofs.Found.{counted-came, first-made}
use Rattle.copyin_base.specs.Worlds.{WorldView}
use Rattle.copyin_base.proofs.Recounted.{ledger_of, ledgers_are, sums_are}
use Rattle.copyin_base.proofs.Written.{tables, made_given, made_written}
use Rattle.copyin_base.specs.Coming.{first_port}
use Rattle.copyin_base.proofs.world.World.create_port.Goals as goal

pub invariant_of-self-2 : goal.invariant_of-self-2
invariant_of-self-2 c =
    let i = c.self.inside in
    let unknown : map.get i.ports.counts i.ports.bare.made ≡ None = ap (λ (w : WorldView). map.get w.ledger.counts w.ports.made) c.self.view_is ∙ c.requires.unknown in
    let came = counted-came i.ports.counts i.ledger.total i.ledger.unused c.self.invariant.1 i.ports.bare.made (with_more right.Receive 1 no_rights) unknown in
    let none : i.ledger.unused + 0 ≡ i.ledger.unused = omega arith in (
      made_given c.args.self.now i.spaces.items i.ports.bare (ledger_of i.ports.counts i.ledger) i.sets i.requests c.self.view_is c.self.invariant.0 (first_port c.args.task) c.allocate.new.self.bare c.in_ok-port.ensures.ok,
      sums_are c.in_ok-port.ensures.counts c.count_one.ensures (subst (λ (unused : ℕ). IsCounted (map.insert i.ports.counts i.ports.bare.made (with_more right.Receive 1 no_rights)) (i.ledger.total + 1) unused) none came),
    )

pub returns-clause-ok : goal.returns-clause-ok
returns-clause-ok c =
    let i = c.self.inside in
    let old : WorldView = c.args.self.now in (
      c.in_ok-port.ensures.identity ∙ ap (λ (w : WorldView). w.ports.made) c.self.view_is,
      ap (λ (l : LedgerView). tables i.profile i.spaces.items c.allocate.new.self.bare l i.sets i.requests)
          (ledgers_are c.in_ok-port.ensures.counts c.count_one.ensures ∙ first-made (ledger_of i.ports.counts i.ledger) i.ports.bare.made ∙ ap (λ (w : WorldView). made (entered w.ledger w.ports.made) w.ports.made right.Receive 1) c.self.view_is)
          ∙ ap (λ (w : WorldView). record w { ledger = made (entered old.ledger old.ports.made) old.ports.made right.Receive 1 })
          (made_written old i.spaces.items i.ports.bare (ledger_of i.ports.counts i.ledger) i.sets i.requests c.self.view_is c.self.invariant.0 (first_port c.args.task) c.allocate.new.self.bare c.in_ok-port.ensures.ok),
    )
