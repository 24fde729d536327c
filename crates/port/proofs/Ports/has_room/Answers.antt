use Rattle.std.proofs.Common.{◌≡◌, Some, None, is_some, ap, sym, ◌∙◌, refl, length, ℕ, ◌<◌, IsTrue, nat_lt, arith, rules}
use Rattle.std.specs.FinMap as map
use Rattle.shared_lists.specs.Shared.{more_of}
use Rattle.port.specs.Ports.{PortView}
use Rattle.port.proofs.Keys.{same_some, some_or_none}
use Rattle.port.proofs.Records.{port_of}
use Rattle.port.proofs.Sound.{bare_is, opened, record_at, live_port, gone_port}
use Rattle.port.proofs.Ports.has_room.Goals as goal

less_told : (a b : ℕ) → (IsTrue (nat_lt a b) → a < b) × (a < b → IsTrue (nat_lt a b))
less_told a b = (search rules, search rules)

room_told : (a b n m : ℕ) → a ≡ n → b ≡ m → (IsTrue (nat_lt a b) → n < m) × (n < m → IsTrue (nat_lt a b))
room_told a b n m e f = (λ t. let less : a < b = (less_told a b).0 t in omega arith, λ h. (less_told a b).1 (omega arith))

pub returns-in-Some : goal.returns-in-Some
returns-in-Some g c =
    let found : map.get c.self.inside.by_id.map c.args.found.port ≡ Some c.in-Some.ensures.some.0 = c.in-Some.ensures.some.1 in
    let is : map.get c.args.self.now.bare.ports c.args.found.port ≡ Some (port_of c.in-Some.record.now (more_of c.self.inside.sets c.in-Some.ensures.some.0)) = live_port (opened c.self.invariant (bare_is c.self.view_is)) c.args.found.port c.in-Some.ensures.some.0 c.in-Some.record.now found c.in-Some.ensures.some.2 in
    record {
      live = λ p h.
          let same : port_of c.in-Some.record.now (more_of c.self.inside.sets c.in-Some.ensures.some.0) ≡ p = same_some (port_of c.in-Some.record.now (more_of c.self.inside.sets c.in-Some.ensures.some.0)) p (sym is ∙ h) in
          room_told c.len.result c.limit.result (length p.queue) p.attributes.limit
          (c.len.ensures.value ∙ ap (λ (q : PortView g.row.M.Denot). length q.queue) same) (c.limit.ensures ∙ ap (λ (q : PortView g.row.M.Denot). q.attributes.limit) same);
      gone = λ h. absurd (some_or_none (port_of c.in-Some.record.now (more_of c.self.inside.sets c.in-Some.ensures.some.0)) _ is h);
    }

pub returns-in-None : goal.returns-in-None
returns-in-None g c =
    let gone : map.get c.args.self.now.bare.ports c.args.found.port ≡ None = gone_port (opened c.self.invariant (bare_is c.self.view_is)) c.args.found.port (c.in-None.ensures.none) in
    record {
      live = λ p h. absurd (some_or_none p _ h gone);
      gone = λ h. refl;
    }

pub record_near-requires-clause-held : goal.record_near-requires-clause-held
record_near-requires-clause-held g c = c.self.invariant.sound.indexed.held

pub record_near-requires-clause-found : goal.record_near-requires-clause-found
record_near-requires-clause-found g c = λ id key h. ap is_some (record_at (opened c.self.invariant (bare_is c.self.view_is)) id key h).1
