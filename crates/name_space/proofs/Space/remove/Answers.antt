use Rattle.std.proofs.Common.{ap, sym, ◌∙◌}
use Rattle.std.specs.Option.{option_and_then}
use Rattle.name_space.specs.Entry.{port_named}
use Rattle.name_space.proofs.Spaces.{port_there, some_name, sound-out, sound-out_none, nothing_out}
use Rattle.name_space.proofs.Space.remove.Goals as goal

pub invariant_of-self : goal.invariant_of-self
invariant_of-self c = nothing_out c.self.inside.table c.self.inside.ports c.self.inside.len c.self.invariant c.remove.new.self c.args.name c.remove.ensures.after (sym c.remove.ensures.value ∙ c.in_err-entry.was)

pub overflow_sub-self : goal.overflow_sub-self
overflow_sub-self c = some_name c.self.inside.table c.self.inside.ports c.self.inside.len c.self.invariant c.remove.new.self c.args.name c.in_ok-entry.entry c.remove.ensures.after (sym c.remove.ensures.value ∙ c.in_ok-entry.was)

pub remove-requires-in-Some : goal.remove-requires-in-Some
remove-requires-in-Some c =
    port_there c.self.inside.table c.self.inside.ports c.self.inside.len c.self.invariant c.args.name c.in-Some.port
    (ap (option_and_then port_named) (sym c.remove.ensures.value ∙ c.in_ok-entry.was) ∙ (sym c.port.ensures ∙ c.in-Some.is))

pub invariant_of-self-in-Some : goal.invariant_of-self-in-Some
invariant_of-self-in-Some c =
    sound-out c.self.inside.table c.self.inside.ports c.self.inside.len c.self.invariant c.remove.new.self c.args.name c.in_ok-entry.entry c.remove.ensures.after (sym c.remove.ensures.value ∙ c.in_ok-entry.was)
    c.remove-in-Some.new.self c.in-Some.port (sym c.port.ensures ∙ c.in-Some.is) c.remove-in-Some.ensures

pub invariant_of-self-in_default : goal.invariant_of-self-in_default
invariant_of-self-in_default c =
    sound-out_none c.self.inside.table c.self.inside.ports c.self.inside.len c.self.invariant c.remove.new.self c.args.name c.in_ok-entry.entry c.remove.ensures.after (sym c.remove.ensures.value ∙ c.in_ok-entry.was) (sym c.port.ensures ∙ c.in_default.is)
