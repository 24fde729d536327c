use Rattle.std.proofs.Common.{◌≡◌, All}
use Rattle.gelvonds_tests.proofs.callers.start_all.Given as goal

abbrev pub invariant-loop-pass : goal.invariant-loop-pass
invariant-loop-pass g l = All (λ h. h.promise.0.value.table ≡ l.fn.shared.table) l.handles.items
