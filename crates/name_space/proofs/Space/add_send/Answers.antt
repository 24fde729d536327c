use Rattle.std.proofs.Common.{ap, sym, ◌∙◌}
use Rattle.std.specs.Option.{option_and_then}
use Rattle.std.specs.FinMap as map
use Rattle.name_space.specs.Entry.{port_named, with_send}
use Rattle.name_space.specs.Names.{SpaceView, port_at}
use Rattle.name_space.proofs.Keys.{for_none}
use Rattle.name_space.proofs.Spaces.{sound-joined, leads_to, leads_nowhere, port_with_send}
use Rattle.name_space.proofs.Space.add_send.Goals as goal

pub add_send-entry-requires : goal.add_send-entry-requires
add_send-entry-requires c = leads_to c.self.inside.table c.self.inside.ports c.self.inside.len c.self.invariant c.args.port c.in_ok-name.name (sym c.name_of.ensures ∙ c.in_ok-name.was)

pub invariant_of-self : goal.invariant_of-self
invariant_of-self c =
    sound-joined c.self.inside.table c.self.inside.ports c.self.inside.len c.self.invariant c.add_send-entry.new.self c.in_ok-name.name (with_send c.add_send-entry.result) c.add_send-entry.ensures.after
    (leads_to c.self.inside.table c.self.inside.ports c.self.inside.len c.self.invariant c.args.port c.in_ok-name.name (sym c.name_of.ensures ∙ c.in_ok-name.was))
    (port_with_send c.add_send-entry.result ∙ sym (ap (option_and_then port_named) c.add_send-entry.ensures.value))

pub returns-clause-found : goal.returns-clause-found
returns-clause-found c = ap (λ (v : SpaceView). map.get v.names c.in_ok-name.name) (sym c.self.view_is) ∙ c.add_send-entry.ensures.value

pub returns-clause-port : goal.returns-clause-port
returns-clause-port c = sym (ap (option_and_then port_named) c.add_send-entry.ensures.value) ∙ c.self.invariant.named c.args.port c.in_ok-name.name (sym c.name_of.ensures ∙ c.in_ok-name.was)

pub returns-clause-after : goal.returns-clause-after
returns-clause-after c =
    c.add_send-entry.ensures.after ∙ ap (λ (v : SpaceView). let w : SpaceView = record { names = map.insert v.names c.in_ok-name.name (with_send c.add_send-entry.result); room = v.room; kept = v.kept; given = v.given } in w) c.self.view_is

pub returns-in_err-name-clause-none : goal.returns-in_err-name-clause-none
returns-in_err-name-clause-none c = for_none c.from_residual.result (λ name h. leads_nowhere c.self.inside.table c.self.inside.ports c.self.inside.len c.self.invariant c.args.port (sym c.name_of.ensures ∙ c.in_err-name.was) name (ap (λ (v : SpaceView). port_at v.names name) c.self.view_is ∙ h))
