-- Which replies a statement's answer asks for. Words stand for names, and what they stand for is not said here.
use Rattle.std.specs.Prelude.{◌≡◌, is_some, length, map}
use Rattle.mach_say_syntax.specs.declared.syntax.Answer.{Answer}
use Rattle.mach_say_syntax.specs.declared.syntax.FieldIs.{FieldIs}
use Rattle.mach_say_syntax.specs.declared.syntax.Notice.{Notice}
use Rattle.mach_say_syntax.specs.declared.syntax.ReceivedMessage.{ReceivedMessage}
use Rattle.mach_say_syntax.specs.declared.syntax.ReceivedRight.{ReceivedRight}
use Rattle.mach_say_words.specs.declared.expected.Expected.{Expected}
use Rattle.mach_say_words.specs.declared.expected.ExpectedMessage.{ExpectedMessage}
use Rattle.mach_say_words.specs.declared.expected.ExpectedNotice.{ExpectedNotice}
use Rattle.mach_say_words.specs.declared.expected.FieldValue.{FieldValue}

-- Each part that is said is asked for.
pub record AsksForMessage (said : ReceivedMessage) (asked : ExpectedMessage) : Type 0 where
  pub at : is_some asked.at ≡ is_some said.at
  pub reply_right : asked.answer ≡ is_some said.answer
  pub rights : asked.with.items ≡ map (λ (one : ReceivedRight). one.kind) said.with.items

abbrev pub AsksForNotice : Notice → ExpectedNotice → Type 0
AsksForNotice said asked = is_some asked.at ≡ is_some said.at

-- The answer asks for this.
abbrev pub AsksFor : Answer → Expected → Type 0
AsksFor Answer.Success Expected.Success = Unit {0}
AsksFor (Answer.Code said) (Expected.Code asked) = asked ≡ said
AsksFor Answer.Empty Expected.Empty = Unit {0}
AsksFor Answer.Waits Expected.Empty = Unit {0}
AsksFor (Answer.TooLarge said) (Expected.TooLarge asked) = asked ≡ said
AsksFor (Answer.Refs said) (Expected.Refs asked) = asked ≡ said
AsksFor (Answer.Names said) (Expected.Names asked) = asked ≡ said
AsksFor (Answer.Type said) (Expected.Type asked) = asked ≡ said
AsksFor (Answer.Fields said) (Expected.Fields asked) =
    map (λ (one : FieldValue). one.field) asked.items ≡ map (λ (one : FieldIs). one.field) said.items
AsksFor (Answer.Members said) (Expected.Members asked) = length asked.items ≡ length said.items
AsksFor Answer.NoPrevious Expected.NoPrevious = Unit {0}
AsksFor (Answer.Previous said) Expected.Previous = Unit {0}
AsksFor (Answer.Reply said) (Expected.Reply asked) = Unit {0}
AsksFor (Answer.Message said) (Expected.Message asked) = AsksForMessage said asked
AsksFor (Answer.Notice said) (Expected.Notice asked) = AsksForNotice said asked
AsksFor said asked = ⊥
