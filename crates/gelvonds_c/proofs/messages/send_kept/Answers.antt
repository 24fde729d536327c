use Rattle.std.proofs.Common.{Some, inl, rules}
use Rattle.mach_types.specs.declared.calls.Event.{Event}
use Rattle.gelvonds_c.specs.Calls.{Calls}
use Rattle.gelvonds_c.proofs.messages.send_kept.Goals as goal

pub returns-in-Ok : goal.returns-in-Ok
returns-in-Ok c =
    let e : Calls (Some c.args.kernel.value) (Event.Send c.args.task c.args.bytes.now) (Some c.step_kept.result) c.step_kept.new.handle.kernel = search rules in
    inl (record { reply = Some c.step_kept.result; calls = e; code_is = search rules })
