use Rattle.std.proofs.Common.{◌≡◌, take}
use Rattle.std.specs.Prelude.{map}
use Rattle.mach_say_syntax.specs.declared.syntax.FieldIs.{FieldIs}
use Rattle.mach_say_words.specs.declared.expected.FieldValue.{FieldValue}
use Rattle.mach_say_play.proofs.board.Board.values.Given as goal

-- each field so far has its value
abbrev pub invariant-loop-field : goal.invariant-loop-field
invariant-loop-field l = map (λ (one : FieldValue). one.field) l.values.items ≡ map (λ (one : FieldIs). one.field) (take l.field-index l.fields)
