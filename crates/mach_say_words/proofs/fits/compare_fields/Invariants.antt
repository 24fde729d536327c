use Rattle.std.proofs.Common.{◌≡◌, ℕ, ◌<◌, slice_index_or}
use Rattle.mach_say_words.specs.declared.expected.FieldValue.{FieldValue}
use Rattle.mach_say_words.specs.Fits.{field_value}
use Rattle.mach_say_words.proofs.fits.compare_fields.Given as goal

-- each field so far has its value
abbrev pub invariant-loop-place : goal.invariant-loop-place
invariant-loop-place l = (i : ℕ) (d : FieldValue) → i < l.place → field_value l.status (slice_index_or l.fields i d).field ≡ (slice_index_or l.fields i d).value
