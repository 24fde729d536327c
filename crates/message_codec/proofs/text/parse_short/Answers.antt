use Rattle.std.proofs.Common.{IfNone, sym, subst}
use Rattle.message_codec.specs.Parses.{Parses}
use Rattle.message_codec.specs.Short.{IsOfKind}
use Rattle.message_codec.specs.declared.text.Parsed.{Parsed}
use Rattle.message_codec.specs.declared.text.ShortKind.{ShortKind}
use Rattle.message_codec.proofs.text.parse_short.Goals as goal

pub returns-in-Alone-clause-none : goal.returns-in-Alone-clause-none
returns-in-Alone-clause-none c =
    subst (λ (k : ShortKind). IfNone c.parse_alone.result ((parsed : Parsed) → Parses c.args.bytes.now parsed → ¬ (IsOfKind k c.args.bytes.now parsed))) (sym c.in-Alone.is) c.parse_alone.ensures.none

pub returns-in-Reply-clause-none : goal.returns-in-Reply-clause-none
returns-in-Reply-clause-none c =
    subst (λ (k : ShortKind). IfNone c.parse_with_reply.result ((parsed : Parsed) → Parses c.args.bytes.now parsed → ¬ (IsOfKind k c.args.bytes.now parsed))) (sym c.in-Reply.is) c.parse_with_reply.ensures.none

pub returns-in-Body-clause-none : goal.returns-in-Body-clause-none
returns-in-Body-clause-none c =
    subst (λ (k : ShortKind). IfNone c.parse_with_right.result ((parsed : Parsed) → Parses c.args.bytes.now parsed → ¬ (IsOfKind k c.args.bytes.now parsed))) (sym c.in-Body.is) c.parse_with_right.ensures.none
