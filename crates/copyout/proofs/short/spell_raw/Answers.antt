use Rattle.std.proofs.Common.{◌≡◌, ℕ, ◌+◌, ◌*◌, ◌^◌, List, [], ap, length, refl, rules, sym, subst, ◌∙◌}
use Rattle.std.specs.Prelude.{if◌then◌else◌}
use Rattle.message_codec.specs.declared.header.Header.{Header}
use Rattle.message_codec.specs.Received.{IsLaidOut}
use Rattle.copyin_base.specs.Kept.{Kept}
use Rattle.copyout.specs.Takes.{reply_number}
use Rattle.copyout.proofs.Delivered.{delivers_raw}
use Rattle.copyout.proofs.short.spell_raw.Goals as goal

pub returns : goal.returns
returns c =
    let m = c.args.message in
    let inside = c.message.inside in
    let header : Header = record { bits = c.header_bits.result; size = c.len.result; remote = c.args.remote; local = c.args.local; sequence = c.args.sequence; id = c.id.result } in
    let bytes : m.bytes ≡ inside.bytes.items = ap (λ (x : Kept). x.bytes) (sym c.message.view_is) in
    let size : c.len.result ≡ length inside.bytes.items = let h = c.len.ensures in let ok = inside.bytes.ok in search rules in
    let by : c.by_once.result ≡ m.by_once = c.by_once.ensures ∙ ap (λ (x : Kept). x.by_once) c.message.view_is in
    let complex : c.is_complex.result ≡ m.is_complex = c.is_complex.ensures ∙ ap (λ (x : Kept). x.is_complex) c.message.view_is in
    λ w new task words gives remote. delivers_raw w new task m c.args.local c.args.sequence words c.spell.result header c.requires.none.0 c.requires.none.1 gives
    (c.header_bits.ensures ∙ (λ i. reply_number (c.requires.answered i) + (if by i then 18 else 17) * 2 ^ 8 + (if complex i then 2 ^ 31 else 0)))
    (size ∙ ap length (sym bytes))
    remote refl refl (c.id.ensures ∙ ap (λ (x : Kept). x.id) c.message.view_is)
    (λ written laid. c.spell.ensures written (subst (λ (bs : List ℕ). IsLaidOut bs [] written) bytes laid))
