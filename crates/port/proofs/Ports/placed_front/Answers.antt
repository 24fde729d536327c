use Rattle.std.proofs.Common.{◌≡◌, ℕ, Option, Some, None, ap, sym, ◌∙◌, length, slice_get, List, [], ◌∷◌, refl, is_some, option_copied}
use Rattle.std.specs.Option.{option_and_then}
use Rattle.std.specs.FinMap as map
use Rattle.shared_lists.specs.Shared.{more_of}
use Rattle.port.specs.Ports.{PortView, NoneQueued}
use Rattle.port.proofs.Keys.{same_some, some_or_none}
use Rattle.port.proofs.Records.{port_of}
use Rattle.port.proofs.Sound.{bare_is, places_are, opened, record_at, live_port, gone_port, front_got}
use Rattle.port.proofs.Ports.placed_front.Goals as goal

-- a queue without a first message is empty
no_first : {M : Type 0} (l : List M) → slice_get l 0 ≡ None → length l ≡ 0
no_first [] e = refl
no_first (m ∷ l) e = absurd (some_or_none m _ refl e)

pub returns-in_err-key-clause-none : goal.returns-in_err-key-clause-none
returns-in_err-key-clause-none g c =
    let gone : map.get c.args.self.now.bare.ports c.args.found.port ≡ None = gone_port (opened c.self.invariant (bare_is c.self.view_is)) c.args.found.port (sym c.in_err-key.ensures) in
    let none : NoneQueued c.args.self.now.bare c.args.found.port = λ p h. absurd (some_or_none p _ h gone) in
    rw c.from_residual.ensures none

pub index-requires : goal.index-requires
index-requires g c =
    let found : map.get c.self.inside.by_id.map c.args.found.port ≡ Some c.in_ok-key.key = sym (c.in_ok-key.ensures) in
    ap is_some (record_at (opened c.self.invariant (bare_is c.self.view_is)) c.args.found.port c.in_ok-key.key found).1

pub returns-in_err-message-clause-none : goal.returns-in_err-message-clause-none
returns-in_err-message-clause-none g c =
    let found : map.get c.self.inside.by_id.map c.args.found.port ≡ Some c.in_ok-key.key = sym (c.in_ok-key.ensures) in
    let is : map.get c.args.self.now.bare.ports c.args.found.port ≡ Some (port_of c.index.result.now (more_of c.self.inside.sets c.in_ok-key.key)) = live_port (opened c.self.invariant (bare_is c.self.view_is)) c.args.found.port c.in_ok-key.key c.index.result.now found c.index.ensures in
    let first : option_copied c.front.result ≡ slice_get c.index.result.now.queue 0 = front_got c.front.result c.index.result.now.queue c.front.ensures.variant.0 c.front.ensures.variant.1 c.front.ensures.lookup in
    let empty : slice_get c.index.result.now.queue 0 ≡ None = sym first ∙ ap option_copied c.in_err-message.was in
    let none : NoneQueued c.args.self.now.bare c.args.found.port = λ p h. ap (λ (q : PortView g.row.M.Denot). length q.queue) (same_some p (port_of c.index.result.now (more_of c.self.inside.sets c.in_ok-key.key)) (sym h ∙ is)) ∙ no_first c.index.result.now.queue empty in
    rw c.from_residual-in_err-message.ensures none

pub returns-clause-some : goal.returns-clause-some
returns-clause-some g c =
    let found : map.get c.self.inside.by_id.map c.args.found.port ≡ Some c.in_ok-key.key = sym (c.in_ok-key.ensures) in
    let is : map.get c.args.self.now.bare.ports c.args.found.port ≡ Some (port_of c.index.result.now (more_of c.self.inside.sets c.in_ok-key.key)) = live_port (opened c.self.invariant (bare_is c.self.view_is)) c.args.found.port c.in_ok-key.key c.index.result.now found c.index.ensures in
    let first : option_copied c.front.result ≡ slice_get c.index.result.now.queue 0 = front_got c.front.result c.index.result.now.queue c.front.ensures.variant.0 c.front.ensures.variant.1 c.front.ensures.lookup in
    let front : PortView g.row.M.Denot → Option g.row.M.Denot = λ p. slice_get p.queue 0 in
    ap (option_and_then front) is ∙ sym first ∙ ap option_copied c.in_ok-message.was

pub returns-clause-place : goal.returns-clause-place
returns-clause-place g c = ap (λ (m : map.FinMap _ ℕ). map.get m c.args.found.port) (sym (places_are c.self.view_is)) ∙ sym c.in_ok-key.ensures
