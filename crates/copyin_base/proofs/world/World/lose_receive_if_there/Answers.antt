use Rattle.std.proofs.Common.{◌<◌, ap, sym, subst, ◌∙◌}
use Rattle.std.specs.FinMap as map
use Rattle.std.specs.Option.{unwrap_or}
use Rattle.std.specs.Ordering.{nat_cmp}
use Rattle.rights.specs.declared.Counts.{Counts}
use Rattle.rights.specs.declared.RightKind.TheVariants.{Receive}
use Rattle.rights.specs.Counts.{no_rights, with_fewer}
use Rattle.rights.proofs.Changing.{counted-fewer, fewer_within}
use Rattle.port.specs.Ports.{rights_for}
use Rattle.copyin_base.specs.Reading.{AreGiven}
use Rattle.copyin_base.proofs.Lost.{there_held, there_given, there_entered, there_counted, there_lost, there_gone}
use Rattle.copyin_base.proofs.Recounted.{ledger_of, bare_same, counts_put, still_counted, sums_are, ledgers_are}
use Rattle.copyin_base.proofs.world.World.lose_receive_if_there.Goals as goal

pub lose_if_there-requires : goal.lose_if_there-requires
lose_if_there-requires c =
    let i = c.self.inside in
    there_held c.args.self.now i.spaces.items i.ports.bare (ledger_of i.ports.counts i.ledger) i.sets i.requests c.self.view_is c.args.port c.requires

pub take-requires-clause-all : goal.take-requires-clause-all
take-requires-clause-all c =
    let i = c.self.inside in
    let l = c.lose_if_there in
    (fewer_within i.ports.counts i.ledger.total i.ledger.unused c.self.invariant.1 c.args.port (there_entered c.args.self.now i.spaces.items i.ports.bare (ledger_of i.ports.counts i.ledger) i.sets i.requests c.self.view_is c.args.port c.requires l.new.self.bare l.ensures.there (λ h. bare_same (l.ensures.gone h)) l.result l.ensures.told c.if-lose_if_there.true) Receive 1 (there_counted c.args.self.now i.spaces.items i.ports.bare (ledger_of i.ports.counts i.ledger) i.sets i.requests c.self.view_is c.args.port c.requires l.new.self.bare l.ensures.there (λ h. bare_same (l.ensures.gone h)) l.result l.ensures.told c.if-lose_if_there.true)).0

pub take_rights-requires-clause-there : goal.take_rights-requires-clause-there
take_rights-requires-clause-there c =
    let i = c.self.inside in
    let l = c.lose_if_there in
    ap (λ (m : map.FinMap nat_cmp Counts). map.contains_key m c.args.port) l.ensures.counts ∙ there_entered c.args.self.now i.spaces.items i.ports.bare (ledger_of i.ports.counts i.ledger) i.sets i.requests c.self.view_is c.args.port c.requires l.new.self.bare l.ensures.there (λ h. bare_same (l.ensures.gone h)) l.result l.ensures.told c.if-lose_if_there.true

pub take_rights-requires-clause-some : goal.take_rights-requires-clause-some
take_rights-requires-clause-some c =
    let i = c.self.inside in
    let l = c.lose_if_there in
    subst (λ (m : map.FinMap nat_cmp Counts). 0 < (unwrap_or (map.get m c.args.port) no_rights).receive) (sym l.ensures.counts) (there_counted c.args.self.now i.spaces.items i.ports.bare (ledger_of i.ports.counts i.ledger) i.sets i.requests c.self.view_is c.args.port c.requires l.new.self.bare l.ensures.there (λ h. bare_same (l.ensures.gone h)) l.result l.ensures.told c.if-lose_if_there.true)

pub invariant_of-self : goal.invariant_of-self
invariant_of-self c =
    let i = c.self.inside in
    let l = c.lose_if_there in
    let counts = counts_put l.new.self c.args.port (with_fewer Receive 1 (rights_for l.new.self c.args.port)) c.take_rights.ensures ∙ ap (λ (m : map.FinMap nat_cmp Counts). map.insert m c.args.port (with_fewer Receive 1 (unwrap_or (map.get m c.args.port) no_rights))) l.ensures.counts in
    let fewer = counted-fewer i.ports.counts i.ledger.total i.ledger.unused c.self.invariant.1 c.args.port (there_entered c.args.self.now i.spaces.items i.ports.bare (ledger_of i.ports.counts i.ledger) i.sets i.requests c.self.view_is c.args.port c.requires l.new.self.bare l.ensures.there (λ h. bare_same (l.ensures.gone h)) l.result l.ensures.told c.if-lose_if_there.true) Receive 1 (there_counted c.args.self.now i.spaces.items i.ports.bare (ledger_of i.ports.counts i.ledger) i.sets i.requests c.self.view_is c.args.port c.requires l.new.self.bare l.ensures.there (λ h. bare_same (l.ensures.gone h)) l.result l.ensures.told c.if-lose_if_there.true) in
    (subst (AreGiven i.spaces.items) (sym (bare_same c.take_rights.ensures)) (there_given c.args.self.now i.spaces.items i.ports.bare (ledger_of i.ports.counts i.ledger) i.sets i.requests c.self.view_is c.args.port c.requires l.new.self.bare l.ensures.there (λ h. bare_same (l.ensures.gone h)) l.result l.ensures.told c.self.invariant.0), sums_are counts c.take.ensures fewer)

pub returns-then-lose_if_there : goal.returns-then-lose_if_there
returns-then-lose_if_there c =
    let i = c.self.inside in
    let l = c.lose_if_there in
    let counts = counts_put l.new.self c.args.port (with_fewer Receive 1 (rights_for l.new.self c.args.port)) c.take_rights.ensures ∙ ap (λ (m : map.FinMap nat_cmp Counts). map.insert m c.args.port (with_fewer Receive 1 (unwrap_or (map.get m c.args.port) no_rights))) l.ensures.counts in
    rw (bare_same c.take_rights.ensures) (there_lost c.args.self.now i.spaces.items i.ports.bare (ledger_of i.ports.counts i.ledger) i.sets i.requests c.self.view_is c.args.port c.requires l.new.self.bare l.ensures.there (λ h. bare_same (l.ensures.gone h)) l.result l.ensures.told c.if-lose_if_there.true (ledger_of c.take_rights.new.self.counts c.take.new.self) (ledgers_are counts c.take.ensures))

pub invariant_of-self-else-lose_if_there : goal.invariant_of-self-else-lose_if_there
invariant_of-self-else-lose_if_there c =
    let i = c.self.inside in
    let l = c.lose_if_there in
    (there_given c.args.self.now i.spaces.items i.ports.bare (ledger_of i.ports.counts i.ledger) i.sets i.requests c.self.view_is c.args.port c.requires l.new.self.bare l.ensures.there (λ h. bare_same (l.ensures.gone h)) l.result l.ensures.told c.self.invariant.0, still_counted l.ensures.counts c.self.invariant.1)

pub returns-else-lose_if_there : goal.returns-else-lose_if_there
returns-else-lose_if_there c =
    let i = c.self.inside in
    let l = c.lose_if_there in
    rw l.ensures.counts (there_gone c.args.self.now i.spaces.items i.ports.bare (ledger_of i.ports.counts i.ledger) i.sets i.requests c.self.view_is c.args.port c.requires l.new.self.bare l.ensures.there (λ h. bare_same (l.ensures.gone h)) l.result l.ensures.told c.if-lose_if_there.false)
