use Rattle.std.proofs.Common.{Some, inl, rules}
use Rattle.mach_types.specs.declared.calls.Event.{Event}
use Rattle.gelvonds_c.specs.Calls.{Calls}
use Rattle.gelvonds_c.proofs.Called.{taken}
use Rattle.gelvonds_c.proofs.messages.gelvonds_send.Goals as goal

pub returns-in-Ok : goal.returns-in-Ok
returns-in-Ok c =
    let event : Event = Event.Send c.args.task c.args.bytes.now in
    let e : Calls (Some c.in-Some.kernel.value) event (Some c.step_unkept.result) c.step_unkept.new.handle.kernel = search rules in
    inl (record {
      reply = Some c.step_unkept.result;
      calls = taken _ _ event (Some c.step_unkept.result) c.step_unkept.new.handle.kernel c.in-Some.ensures.taken e;
      code_is = search rules;
    })
