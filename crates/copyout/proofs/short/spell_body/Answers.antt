use Rattle.std.proofs.Common.{◌≡◌, ℕ, ◌+◌, ◌*◌, ◌^◌, List, [], ◌∷◌, ap, length, refl, rules, sym, subst, ◌∙◌}
use Rattle.std.specs.Prelude.{if◌then◌else◌}
use Rattle.mach_types.specs.Rights.{disposition_number}
use Rattle.message_codec.specs.declared.header.Header.{Header}
use Rattle.message_codec.specs.declared.spans.Span.{Span}
use Rattle.message_codec.specs.Short.{one_word_span}
use Rattle.message_codec.specs.Received.{IsLaidOut}
use Rattle.copyin_base.specs.Kept.{Kept}
use Rattle.copyout.proofs.Delivered.{delivers_one}
use Rattle.copyout.proofs.short.spell_body.Goals as goal

pub spell-requires-clause-laid_out : goal.spell-requires-clause-laid_out
spell-requires-clause-laid_out c =
    let bytes : c.args.message.bytes ≡ c.message.inside.bytes.items = ap (λ (x : Kept). x.bytes) (sym c.message.view_is) in
    let span : c.of_one_word.result ≡ one_word_span (disposition_number c.args.carried.now.given) = c.of_one_word.ensures ∙ ap (λ (d : ℕ). one_word_span d) c.number.ensures in
    let laid = c.requires.laid_out in (
      laid.0,
      subst (λ (s : Span). IsLaidOut c.message.inside.bytes.items (s ∷ []) laid.0) (sym span)
          (subst (λ (ss : List Span). IsLaidOut c.message.inside.bytes.items ss laid.0) c.requires.spans (subst (λ (bs : List ℕ). IsLaidOut bs c.args.message.spans laid.0) bytes laid.1)),
    )

pub returns : goal.returns
returns c =
    let m = c.args.message in
    let inside = c.message.inside in
    let header : Header = record { bits = c.header_bits.result; size = c.len.result; remote = c.null.result; local = c.args.local; sequence = c.args.sequence; id = c.id.result } in
    let bytes : m.bytes ≡ inside.bytes.items = ap (λ (x : Kept). x.bytes) (sym c.message.view_is) in
    let span : c.of_one_word.result ≡ one_word_span (disposition_number c.args.carried.now.given) = c.of_one_word.ensures ∙ ap (λ (d : ℕ). one_word_span d) c.number.ensures in
    let size : c.len.result ≡ length inside.bytes.items = let h = c.len.ensures in let ok = inside.bytes.ok in search rules in
    let by : c.by_once.result ≡ m.by_once = c.by_once.ensures ∙ ap (λ (x : Kept). x.by_once) c.message.view_is in
    let complex : c.is_complex.result ≡ m.is_complex = c.is_complex.ensures ∙ ap (λ (x : Kept). x.is_complex) c.message.view_is in
    λ w new task gives. delivers_one w new task m c.args.carried.now c.args.local c.args.sequence c.args.name c.spell.result header c.requires.alone c.requires.spans c.requires.rights gives
    (c.header_bits.ensures ∙ (λ i. 0 + (if by i then 18 else 17) * 2 ^ 8 + (if complex i then 2 ^ 31 else 0)))
    (size ∙ ap length (sym bytes))
    c.null.ensures refl refl (c.id.ensures ∙ ap (λ (x : Kept). x.id) c.message.view_is)
    (λ written laid. c.spell.ensures written (subst (λ (s : Span). IsLaidOut inside.bytes.items (s ∷ []) written) (sym span) (subst (λ (bs : List ℕ). IsLaidOut bs (one_word_span (disposition_number c.args.carried.now.given) ∷ []) written) bytes laid)))
