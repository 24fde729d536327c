use Rattle.std.proofs.Common.{ℕ, Some, rules}
use Rattle.std.specs.Prelude.{length, min}
use Rattle.mach_types.specs.declared.calls.Event.{Event}
use Rattle.gelvonds_c.specs.Calls.{Calls}
use Rattle.gelvonds_c.proofs.Called.{taken}
use Rattle.gelvonds_c.proofs.messages.gelvonds_receive.Goals as goal

pub returns : goal.returns
returns c =
    let event : Event = Event.Receive c.args.task c.args.name (min (length c.args.buffer.now) 4294967295) c.args.large in
    let e : Calls (Some c.in-Some.kernel.value) event (Some c.step_unkept.result) c.step_unkept.new.handle.kernel = search rules in
    record {
      reply = Some c.step_unkept.result;
      calls = taken _ _ event (Some c.step_unkept.result) c.step_unkept.new.handle.kernel c.in-Some.ensures.taken e;
      code_is = search rules;
      bytes_are = c.received-2.ensures.bytes;
      length_is = c.received-2.ensures.length;
      waited_is = c.received-2.ensures.waited;
    }

pub returns-then-keeps_calls : goal.returns-then-keeps_calls
returns-then-keeps_calls c =
    let event : Event = Event.Receive c.args.task c.args.name (min (length c.args.buffer.now) 4294967295) c.args.large in
    let e : Calls (Some c.in-Some.kernel.value) event (Some c.step_kept.result) c.step_kept.new.handle.kernel = search rules in
    record {
      reply = Some c.step_kept.result;
      calls = taken _ _ event (Some c.step_kept.result) c.step_kept.new.handle.kernel c.in-Some.ensures.taken e;
      code_is = search rules;
      bytes_are = c.received.ensures.bytes;
      length_is = c.received.ensures.length;
      waited_is = c.received.ensures.waited;
    }
