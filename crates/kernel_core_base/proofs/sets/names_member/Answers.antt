use Rattle.std.proofs.Common.{◌≡◌, ◌∙◌, sym, Some}
use Rattle.std.specs.FinMap as map
use Rattle.name_space.specs.Entry.{receive_named}
use Rattle.kernel_core_base.proofs.Gathering.{is_of_set, stands_for}
use Rattle.kernel_core_base.proofs.sets.names_member.Goals as goal

pub returns : goal.returns
returns c =
    let entry = c.in-Some.entry in
    let port = c.in-Some-receive_port.port in
    let under : map.get c.args.space.now.names c.args.name ≡ Some entry = sym c.lookup.ensures ∙ c.in-Some.is in
    let named : receive_named entry ≡ Some port = sym c.receive_port.ensures ∙ c.in-Some-receive_port.is in
    let inside = c.requires port (stands_for c.args.space.now.names c.args.name entry port under named) in
    c.is_in.ensures.1 inside ∙ sym (is_of_set c.args.world.now c.args.set (map.get c.args.space.now.names c.args.name) entry port under named inside)
