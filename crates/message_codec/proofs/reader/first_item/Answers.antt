use Rattle.std.proofs.Common.{ℕ, drop, ap, ◌∙◌, arith}
use Rattle.message_codec.proofs.ReceivedTexts.{first-none, first-short, first-cut, first-shows}
use Rattle.message_codec.proofs.reader.first_item.Goals as goal

pub returns-in_default-clause-first : goal.returns-in_default-clause-first
returns-in_default-clause-first c = λ xs are e. first-none xs c.args.bytes.now c.in_default.field-0 are e c.in_default.ensures.reads_back

pub returns-then-rest-len-clause-first : goal.returns-then-rest-len-clause-first
returns-then-rest-len-clause-first c = λ xs are e.
    first-short xs c.args.bytes.now c.split_at.result.1.now c.in-Ok.descriptor are e c.in-Ok.ensures.reads_back
    (c.split_at.ensures.back ∙ ap (λ (n : ℕ). drop n c.args.bytes.now) c.descriptor_len.ensures) (omega (arith, c.if-rest-len.true, c.data_len-len.ensures))

pub returns-then-after-padding-clause-first : goal.returns-then-after-padding-clause-first
returns-then-after-padding-clause-first c = λ xs are e.
    first-cut xs c.args.bytes.now c.split_at.result.1.now c.split_at-2.result.0.now c.split_at-2.result.1.now c.in-Ok.descriptor c.data_len-len.result are e c.in-Ok.ensures.reads_back
    (c.split_at.ensures.back ∙ ap (λ (n : ℕ). drop n c.args.bytes.now) c.descriptor_len.ensures) c.data_len-len.ensures
    c.split_at-2.ensures.front c.split_at-2.ensures.back c.if-after-padding.true

pub returns-clause-first : goal.returns-clause-first
returns-clause-first c = λ xs are e.
    first-shows xs c.args.bytes.now c.split_at.result.1.now c.split_at-2.result.0.now c.split_at-2.result.1.now c.split_at-3.result.1 c.item_of.result c.in-Ok.descriptor c.data_len-len.result
    are e c.in-Ok.ensures.reads_back c.in-Ok.ensures.ok
    (c.split_at.ensures.back ∙ ap (λ (n : ℕ). drop n c.args.bytes.now) c.descriptor_len.ensures) c.data_len-len.ensures
    c.split_at-2.ensures.front c.split_at-2.ensures.back c.split_at-3.ensures.back c.item_of.ensures
