use Rattle.std.proofs.Common.{rules, ◌≢◌, subst, ◌≡◌}
use Rattle.mach_types.specs.declared.calls.Reply.{Reply}
use Rattle.mach_msg_threads.specs.Gates.{MayChange, nothing}
use Rattle.mach_msg_threads.proofs.gate.is_change.Goals as goal

pub returns-in-TooLarge : goal.returns-in-TooLarge
returns-in-TooLarge c = (
  λ touches. record {
    done = λ undone. search rules;
    writes = λ read. search rules;
    destroys = λ size is. c.touches_any.ensures.0 touches;
  },
  λ may. c.touches_any.ensures.1 (may.destroys c.in-TooLarge.field-0 c.in-TooLarge.is),
)
