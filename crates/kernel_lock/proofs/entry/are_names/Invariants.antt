use Rattle.std.proofs.Common.{ℕ, ◌<◌, slice_index_or}
use Rattle.kernel_lock.specs.Fits.{IsWord}
use Rattle.kernel_lock.proofs.entry.are_names.Given as goal

abbrev pub invariant-loop-name : goal.invariant-loop-name
invariant-loop-name l = (i d : ℕ) → i < l.name-index → IsWord (slice_index_or l.names i d)
