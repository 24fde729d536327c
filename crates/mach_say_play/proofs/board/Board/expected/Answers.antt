use Rattle.std.proofs.Common.{rules, ◌≡◌, List, subst, sym}
use Rattle.std.specs.Prelude.{map}
use Rattle.mach_say_syntax.specs.declared.syntax.Answer.{Answer}
use Rattle.mach_say_syntax.specs.declared.syntax.FieldIs.{FieldIs}
use Rattle.mach_say_words.specs.declared.expected.Expected.{Expected}
use Rattle.mach_say_words.specs.declared.expected.FieldValue.{FieldValue}
use Rattle.mach_say_play.specs.Answers.{AsksFor}
use Rattle.mach_say_play.proofs.board.Board.expected.Goals as goal

-- the fields are those that are said
pub returns-in_ok-values-in-Fields : goal.returns-in_ok-values-in-Fields
returns-in_ok-values-in-Fields c =
    let values = c.in_ok-values-in-Fields.values in
    let fields = c.in-Fields.fields in
    let said : c.args.answer.now ≡ Answer.Fields fields = search rules in
    let slice : c.as_slice.result.now ≡ fields.items = search rules in
    let same : map (λ (one : FieldValue). one.field) values.items ≡ map (λ (one : FieldIs). one.field) c.as_slice.result.now = c.in_ok-values-in-Fields.ensures in
    subst (λ (a : Answer). AsksFor a (Expected.Fields values)) (sym said)
    (subst (λ (l : List FieldIs). map (λ (one : FieldValue). one.field) values.items ≡ map (λ (one : FieldIs). one.field) l) slice same)
