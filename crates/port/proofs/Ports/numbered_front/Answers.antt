use Rattle.std.proofs.Common.{◌≡◌, Some, None, ap, sym, ◌∙◌, length, slice_get, List, [], ◌∷◌, refl, is_some, option_copied}
use Rattle.std.specs.FinMap as map
use Rattle.shared_lists.specs.Shared.{more_of}
use Rattle.port.specs.Ports.{PortView, NoneQueued}
use Rattle.port.proofs.Keys.{same_some, some_or_none}
use Rattle.port.proofs.Records.{port_of}
use Rattle.port.proofs.Sound.{bare_is, opened, record_at, live_port, gone_port, front_got}
use Rattle.port.proofs.Ports.numbered_front.Goals as goal

-- a queue without a first message is empty
no_first : {M : Type 0} (l : List M) → slice_get l 0 ≡ None → length l ≡ 0
no_first [] e = refl
no_first (m ∷ l) e = absurd (some_or_none m _ refl e)

pub returns-in_err-record-clause-none : goal.returns-in_err-record-clause-none
returns-in_err-record-clause-none g c =
    let gone : map.get c.args.self.now.bare.ports c.args.found.port ≡ None = gone_port (opened c.self.invariant (bare_is c.self.view_is)) c.args.found.port (c.in_err-record.ensures.none) in
    let none : NoneQueued c.args.self.now.bare c.args.found.port = λ p h. absurd (some_or_none p _ h gone) in
    rw c.from_residual.ensures none

pub returns-in_err-message-clause-none : goal.returns-in_err-message-clause-none
returns-in_err-message-clause-none g c =
    let found : map.get c.self.inside.by_id.map c.args.found.port ≡ Some c.in_ok-record.ensures.some.0 = c.in_ok-record.ensures.some.1 in
    let is : map.get c.args.self.now.bare.ports c.args.found.port ≡ Some (port_of c.in_ok-record.record.now (more_of c.self.inside.sets c.in_ok-record.ensures.some.0)) = live_port (opened c.self.invariant (bare_is c.self.view_is)) c.args.found.port c.in_ok-record.ensures.some.0 c.in_ok-record.record.now found c.in_ok-record.ensures.some.2 in
    let first : option_copied c.front.result ≡ slice_get c.in_ok-record.record.now.queue 0 = front_got c.front.result c.in_ok-record.record.now.queue c.front.ensures.variant.0 c.front.ensures.variant.1 c.front.ensures.lookup in
    let empty : slice_get c.in_ok-record.record.now.queue 0 ≡ None = sym first ∙ ap option_copied c.in_err-message.was in
    let none : NoneQueued c.args.self.now.bare c.args.found.port = λ p h. ap (λ (q : PortView g.row.M.Denot). length q.queue) (same_some p (port_of c.in_ok-record.record.now (more_of c.self.inside.sets c.in_ok-record.ensures.some.0)) (sym h ∙ is)) ∙ no_first c.in_ok-record.record.now.queue empty in
    rw c.from_residual-in_err-message.ensures none

pub returns-clause-some : goal.returns-clause-some
returns-clause-some g c =
    let found : map.get c.self.inside.by_id.map c.args.found.port ≡ Some c.in_ok-record.ensures.some.0 = c.in_ok-record.ensures.some.1 in
    let is : map.get c.args.self.now.bare.ports c.args.found.port ≡ Some (port_of c.in_ok-record.record.now (more_of c.self.inside.sets c.in_ok-record.ensures.some.0)) = live_port (opened c.self.invariant (bare_is c.self.view_is)) c.args.found.port c.in_ok-record.ensures.some.0 c.in_ok-record.record.now found c.in_ok-record.ensures.some.2 in
    let first : option_copied c.front.result ≡ slice_get c.in_ok-record.record.now.queue 0 = front_got c.front.result c.in_ok-record.record.now.queue c.front.ensures.variant.0 c.front.ensures.variant.1 c.front.ensures.lookup in
    record {
      view = port_of c.in_ok-record.record.now (more_of c.self.inside.sets c.in_ok-record.ensures.some.0);
      there = is;
      first = sym first ∙ ap option_copied c.in_ok-message.was;
      number = sym c.sequence.ensures;
    }

pub record_near-requires-clause-held : goal.record_near-requires-clause-held
record_near-requires-clause-held g c = c.self.invariant.sound.indexed.held

pub record_near-requires-clause-found : goal.record_near-requires-clause-found
record_near-requires-clause-found g c = λ id key h. ap is_some (record_at (opened c.self.invariant (bare_is c.self.view_is)) id key h).1
