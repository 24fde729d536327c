use Rattle.std.proofs.Common.{Some, rules}
use Rattle.gelvonds_c.proofs.Called.{taken}
use Rattle.gelvonds_c.proofs.call.code.Goals as goal

pub returns-in-Some : goal.returns-in-Some
returns-in-Some c = record {
  reply = Some c.step.result;
  calls = taken _ _ c.args.event.now (Some c.step.result) c.step.new.handle.kernel c.in-Some.ensures.taken c.step.ensures;
  code_is = search rules;
}
