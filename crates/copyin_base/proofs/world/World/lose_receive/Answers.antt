use Rattle.std.proofs.Common.{◌≡◌, ◌<◌, Some, is_some, ap, sym, subst, ◌∙◌}
use Rattle.std.specs.FinMap as map
use Rattle.rights.specs.declared.Counts.{Counts}
use Rattle.rights.specs.declared.RightKind.TheVariants.{Receive}
use Rattle.rights.specs.Counts.{with_fewer}
use Rattle.rights.proofs.Changing.{counted-fewer, fewer_within}
use Rattle.port.specs.Holding.{CanHold}
use Rattle.port.specs.Ports.{PortView, PortsView, IsLive, rights_for}
use Rattle.port.proofs.Keys.{same_some}
use Rattle.tables_base.specs.Kept.{Kept}
use Rattle.copyin_base.specs.Worlds.{WorldView}
use Rattle.copyin_base.proofs.Lost.{with_lost, lost_given, lost_written}
use Rattle.copyin_base.proofs.Recounted.{ledger_of, is_entered, own_is, bare_same, counts_put, sums_are, ledgers_are}
use Rattle.copyin_base.proofs.world.World.lose_receive.Goals as goal

pub take-requires-clause-all : goal.take-requires-clause-all
take-requires-clause-all c =
    let i = c.self.inside in
    (fewer_within i.ports.counts i.ledger.total i.ledger.unused c.self.invariant.1 c.args.port (is_entered c.args.self.now i.spaces.items i.ports i.ledger i.sets i.requests c.self.view_is c.args.port c.requires.entered) Receive 1 (subst (λ (k : Counts). 0 < k.receive) (sym (own_is c.args.self.now i.spaces.items i.ports i.ledger i.sets i.requests c.self.view_is c.args.port)) c.requires.counted)).0

pub take_rights-requires-clause-there : goal.take_rights-requires-clause-there
take_rights-requires-clause-there c = let i = c.self.inside in is_entered c.args.self.now i.spaces.items i.ports i.ledger i.sets i.requests c.self.view_is c.args.port c.requires.entered

pub take_rights-requires-clause-some : goal.take_rights-requires-clause-some
take_rights-requires-clause-some c = let i = c.self.inside in subst (λ (k : Counts). 0 < k.receive) (sym (own_is c.args.self.now i.spaces.items i.ports i.ledger i.sets i.requests c.self.view_is c.args.port)) c.requires.counted

pub lose-requires-clause-live : goal.lose-requires-clause-live
lose-requires-clause-live c =
    let i = c.self.inside in
    subst (λ (x : PortsView Kept). IsLive x c.args.port) (sym (bare_same c.take_rights.ensures)) (ap is_some (ap (λ (w : WorldView). map.get w.ports.ports c.args.port) c.self.view_is ∙ c.requires.there))

pub lose-requires-clause-held : goal.lose-requires-clause-held
lose-requires-clause-held c = λ q at.
    let i = c.self.inside in
    let now : map.get i.ports.bare.ports c.args.port ≡ Some c.requires.v = ap (λ (w : WorldView). map.get w.ports.ports c.args.port) c.self.view_is ∙ c.requires.there in
    let same : c.requires.v ≡ q = same_some c.requires.v q (sym now ∙ ap (λ (x : PortsView Kept). map.get x.ports c.args.port) (sym (bare_same c.take_rights.ensures)) ∙ at) in
    subst (λ (x : PortView Kept). CanHold x.attributes.holder) same c.requires.held

pub invariant_of-self : goal.invariant_of-self
invariant_of-self c =
    let i = c.self.inside in
    let r = c.requires in
    let is = subst (λ (x : PortsView Kept). map.get x.ports c.args.port ≡ Some r.v → c.lose.new.self.bare ≡ with_lost x c.args.port r.v) (bare_same c.take_rights.ensures) (c.lose.ensures.after r.v) in
    let fewer = counted-fewer i.ports.counts i.ledger.total i.ledger.unused c.self.invariant.1 c.args.port (is_entered c.args.self.now i.spaces.items i.ports i.ledger i.sets i.requests c.self.view_is c.args.port r.entered) Receive 1 (subst (λ (k : Counts). 0 < k.receive) (sym (own_is c.args.self.now i.spaces.items i.ports i.ledger i.sets i.requests c.self.view_is c.args.port)) r.counted) in
    (lost_given c.args.self.now i.spaces.items i.ports.bare (ledger_of i.ports.counts i.ledger) i.sets i.requests c.self.view_is c.args.port r.v c.lose.new.self.bare r.there is c.self.invariant.0, sums_are (c.lose.ensures.counts ∙ counts_put i.ports c.args.port (with_fewer Receive 1 (rights_for i.ports c.args.port)) c.take_rights.ensures) c.take.ensures fewer)

pub returns : goal.returns
returns c =
    let i = c.self.inside in
    let r = c.requires in
    let is = subst (λ (x : PortsView Kept). map.get x.ports c.args.port ≡ Some r.v → c.lose.new.self.bare ≡ with_lost x c.args.port r.v) (bare_same c.take_rights.ensures) (c.lose.ensures.after r.v) in
    record {
      v = r.v;
      there = r.there;
      rest = lost_written c.args.self.now i.spaces.items i.ports.bare (ledger_of i.ports.counts i.ledger) i.sets i.requests c.self.view_is c.args.port r.v c.lose.new.self.bare r.there is (ledger_of c.lose.new.self.counts c.take.new.self) (ledgers_are (c.lose.ensures.counts ∙ counts_put i.ports c.args.port (with_fewer Receive 1 (rights_for i.ports c.args.port)) c.take_rights.ensures) c.take.ensures);
    }
