use Rattle.std.proofs.Common.{◌≡◌, ℕ, ◌<◌, Some, slice_get}
use Rattle.mach_types.specs.Grammar.{IsWireBody, WireBody}
use Rattle.message_codec.specs.ReceivedShows.{BodyShows}
use Rattle.mach_say_words.specs.declared.vocabulary.Kind.{Kind}
use Rattle.mach_say_words.specs.Numbers.{kind_number}
use Rattle.mach_say_words.specs.Bodies.{kinds_of}
use Rattle.mach_say_words.proofs.received.has_kinds.Given as goal

-- each right so far has its kind
abbrev pub invariant-loop-place : goal.invariant-loop-place
invariant-loop-place l = (written : WireBody) → IsWireBody written → BodyShows l.body written
    → (n : ℕ) (kind : Kind) → n < l.place → slice_get l.wanted n ≡ Some kind → slice_get (kinds_of written) n ≡ Some (kind_number kind)
