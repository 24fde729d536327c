use Rattle.std.proofs.Common.{◌≡◌, ℕ, ◌+◌, ◌*◌, ◌^◌, ◌++◌, List, Option, length, sym, ap, subst, ◌∙◌, refl, rules}
use Rattle.std.specs.Prelude.{if◌then◌else◌}
use Rattle.std.specs.Option.{option_to_list}
use Rattle.mach_types.specs.Grammar.{body_text}
use Rattle.message_codec.specs.declared.header.Header.{Header}
use Rattle.message_codec.specs.declared.spans.Span.{Span}
use Rattle.message_codec.specs.Received.{IsLaidOut, header_text, received_body}
use Rattle.message_codec.specs.Spans.{word_count}
use Rattle.copyin_base.specs.declared.Carried.{Carried}
use Rattle.copyin_base.specs.Carrying.{spans_held}
use Rattle.copyin_base.specs.Kept.{Kept}
use Rattle.copyout.specs.Giving.{GivesAll}
use Rattle.copyout.specs.Ready.{CanGive}
use Rattle.copyout.specs.Takes.{reply_number, reply_word}
use Rattle.copyout.proofs.Delivered.{can_reply, can_rights, gives_length, delivers}
use Rattle.copyout.proofs.receipt.deliver.Goals as goal

pub give_reply-remote-requires : goal.give_reply-remote-requires
give_reply-remote-requires c =
    let m = c.args.message in
    subst (λ (o : Option Carried). CanGive c.args.world.now c.args.task (option_to_list o)) (sym c.reply-reply.ensures)
    (can_reply c.args.world.now c.args.task m.reply m.rights c.requires.can)

pub give_rights-requires-clause-can : goal.give_rights-requires-clause-can
give_rights-requires-clause-can c =
    let m = c.args.message in
    let mid = c.give_reply-remote.new.world in
    let first = c.give_reply-remote.ensures in
    subst (λ (xs : List Carried). CanGive mid c.args.task xs) (sym (c.as_slice.ensures ∙ c.rights.ensures))
    (can_rights c.args.world.now mid c.args.task m.reply m.rights first.0 c.requires.can
    (subst (λ (o : Option Carried). GivesAll c.args.world.now c.args.task (option_to_list o) first.0 mid) c.reply-reply.ensures first.1))

pub spell_body-requires-clause-laid_out : goal.spell_body-requires-clause-laid_out
spell_body-requires-clause-laid_out c =
    let inside = c.message.inside in
    let bytes : c.args.message.bytes ≡ inside.bytes.items = ap (λ (m : Kept). m.bytes) (sym c.message.view_is) in
    let spans : c.args.message.spans ≡ spans_held inside.envelope.in_body inside.envelope.right inside.carried = ap (λ (m : Kept). m.spans) (sym c.message.view_is) in
    let laid = c.requires.laid_out in (
      laid.0,
      subst (λ (ss : List Span). IsLaidOut inside.bytes.items ss laid.0) spans (subst (λ (bs : List ℕ). IsLaidOut bs c.args.message.spans laid.0) bytes laid.1),
    )

pub spell_body-requires-clause-named : goal.spell_body-requires-clause-named
spell_body-requires-clause-named c =
    let inside = c.message.inside in
    let spans : c.args.message.spans ≡ spans_held inside.envelope.in_body inside.envelope.right inside.carried = ap (λ (m : Kept). m.spans) (sym c.message.view_is) in
    ap length c.deref.ensures
    ∙ gives_length c.give_reply-remote.new.world c.give_rights.new.world c.args.task c.as_slice.result.now c.give_rights.new.names.items c.give_rights.ensures
    ∙ ap length (c.as_slice.ensures ∙ c.rights.ensures) ∙ c.requires.a_right_each ∙ ap word_count spans

pub returns : goal.returns
returns c =
    let m = c.args.message in
    let inside = c.message.inside in
    let mid = c.give_reply-remote.new.world in
    let first = c.give_reply-remote.ensures in
    let header : Header = record { bits = c.header_bits.result; size = c.len.result; remote = c.give_reply-remote.result; local = c.args.local; sequence = c.args.sequence; id = c.id.result } in
    let bytes : m.bytes ≡ inside.bytes.items = ap (λ (x : Kept). x.bytes) (sym c.message.view_is) in
    let spans : m.spans ≡ spans_held inside.envelope.in_body inside.envelope.right inside.carried = ap (λ (x : Kept). x.spans) (sym c.message.view_is) in
    let size : c.len.result ≡ length inside.bytes.items = let h = c.len.ensures in let ok = inside.bytes.ok in search rules in
    let by : c.by_once.result ≡ m.by_once = c.by_once.ensures ∙ ap (λ (x : Kept). x.by_once) c.message.view_is in
    let complex : c.is_complex.result ≡ m.is_complex = c.is_complex.ensures ∙ ap (λ (x : Kept). x.is_complex) c.message.view_is in
    delivers c.args.world.now mid c.give_rights.new.world c.args.task m c.args.local c.args.sequence first.0 c.give_rights.new.names.items c.spell_body.result header
    (subst (λ (o : Option Carried). GivesAll c.args.world.now c.args.task (option_to_list o) first.0 mid) c.reply-reply.ensures first.1)
    (subst (λ (xs : List Carried). GivesAll mid c.args.task xs c.give_rights.new.names.items c.give_rights.new.world) (c.as_slice.ensures ∙ c.rights.ensures) c.give_rights.ensures)
    (c.header_bits.ensures ∙ (λ i. reply_number (c.reply-reply.ensures i) + (if by i then 18 else 17) * 2 ^ 8 + (if complex i then 2 ^ 31 else 0)))
    (size ∙ ap length (sym bytes))
    (first.2 ∙ ap (λ (o : Option Carried). reply_word o first.0) c.reply-reply.ensures)
    refl refl (c.id.ensures ∙ ap (λ (x : Kept). x.id) c.message.view_is)
    (λ written laid.
    c.spell_body.ensures written (subst (λ (ss : List Span). IsLaidOut inside.bytes.items ss written) spans (subst (λ (bs : List ℕ). IsLaidOut bs m.spans written) bytes laid))
    ∙ ap (λ (ws : List ℕ). header_text header ++ body_text (received_body written ws)) c.deref.ensures)
