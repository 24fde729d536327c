use Rattle.std.proofs.Common.{rules, codes, IsOk, IsOkUnless, ◌≡◌, ◌∷◌, ◌∙◌, [], ap, refl}
use Rattle.std.specs.List.{slice_index_or}
use Rattle.tracer_base.specs.declared.fault.TextFault.TheVariants.{OutOfMemory}
use Rattle.tracer_base.specs.Words.{IsRead}
use Rattle.text_reader.proofs.BlockLemmas.{call_said, send_said, receive_said}
use Rattle.tracer_base.proofs.WordLemmas.{IsWord-plain, four_letters}
use Rattle.text_reader.proofs.blocks.read_script_line.Goals as goal

pub returns-in_ok-read_send-in-115-clause-ok : goal.returns-in_ok-read_send-in-115-clause-ok
returns-in_ok-read_send-in-115-clause-ok c =
    let is_0 : slice_index_or c.args.text.now 0 0 ≡ 115 = search rules in
    let is_1 : slice_index_or c.args.text.now 1 0 ≡ 101 = search rules in
    let is_2 : slice_index_or c.args.text.now 2 0 ≡ 110 = search rules in
    let is_3 : slice_index_or c.args.text.now 3 0 ≡ 100 = search rules in
    let is_4 : slice_index_or c.args.text.now 4 0 ≡ 32 = search rules in
    let first = four_letters 115 101 110 100 c.args.text.now (IsWord-plain (codes "send") refl) c.in-115.len_at_least is_0 is_1 is_2 is_3 is_4 in
    let split = ap (λ ws. codes "send" ∷ ws) c.of-words.ensures ∙ first in
    let named = c.in_ok-read_send-in-115.ensures.word in
    let spelled = c.in_ok-read_send-in-115.ensures.arguments in
    call_said c.line_of.result c.in_ok-read_send-in-115.field-0 (codes "send") c.of-words.result c.read_send.new.words c.args.text.now split named spelled c.line_of.ensures.ok

pub returns-in_ok-read_send-in-115-clause-each : goal.returns-in_ok-read_send-in-115-clause-each
returns-in_ok-read_send-in-115-clause-each c =
    let good : IsOk c.line_of.result → IsOkUnless c.line_of.result OutOfMemory = λ alone. search (rules, alone) in
    λ said fits same.
    let is_0 : slice_index_or c.args.text.now 0 0 ≡ 115 = search rules in
    let is_1 : slice_index_or c.args.text.now 1 0 ≡ 101 = search rules in
    let is_2 : slice_index_or c.args.text.now 2 0 ≡ 110 = search rules in
    let is_3 : slice_index_or c.args.text.now 3 0 ≡ 100 = search rules in
    let is_4 : slice_index_or c.args.text.now 4 0 ≡ 32 = search rules in
    let first = four_letters 115 101 110 100 c.args.text.now (IsWord-plain (codes "send") refl) c.in-115.len_at_least is_0 is_1 is_2 is_3 is_4 in
    let split = ap (λ ws. codes "send" ∷ ws) c.of-words.ensures ∙ first in
    let is = send_said said c.of-words.result c.args.text.now fits same split in
    let left = c.in_ok-read_send-in-115.ensures.read is.0 is.1 [] is.2 is.3 is.4 in
    good (c.line_of.ensures.each left)

pub returns-in_err-read_send-in-115-clause-each : goal.returns-in_err-read_send-in-115-clause-each
returns-in_err-read_send-in-115-clause-each c =
    let refused : IsRead c.read_send.result c.read_send.new.words [] → IsOkUnless c.from_residual.result OutOfMemory = λ read. search (rules, read) in
    λ said fits same.
    let is_0 : slice_index_or c.args.text.now 0 0 ≡ 115 = search rules in
    let is_1 : slice_index_or c.args.text.now 1 0 ≡ 101 = search rules in
    let is_2 : slice_index_or c.args.text.now 2 0 ≡ 110 = search rules in
    let is_3 : slice_index_or c.args.text.now 3 0 ≡ 100 = search rules in
    let is_4 : slice_index_or c.args.text.now 4 0 ≡ 32 = search rules in
    let first = four_letters 115 101 110 100 c.args.text.now (IsWord-plain (codes "send") refl) c.in-115.len_at_least is_0 is_1 is_2 is_3 is_4 in
    let split = ap (λ ws. codes "send" ∷ ws) c.of-words.ensures ∙ first in
    let is = send_said said c.of-words.result c.args.text.now fits same split in
    refused (c.read_send.ensures.read is.0 is.1 [] is.2 is.3 is.4)

pub returns-in_ok-read_recv-in-114-clause-ok : goal.returns-in_ok-read_recv-in-114-clause-ok
returns-in_ok-read_recv-in-114-clause-ok c =
    let is_0 : slice_index_or c.args.text.now 0 0 ≡ 114 = search rules in
    let is_1 : slice_index_or c.args.text.now 1 0 ≡ 101 = search rules in
    let is_2 : slice_index_or c.args.text.now 2 0 ≡ 99 = search rules in
    let is_3 : slice_index_or c.args.text.now 3 0 ≡ 118 = search rules in
    let is_4 : slice_index_or c.args.text.now 4 0 ≡ 32 = search rules in
    let first = four_letters 114 101 99 118 c.args.text.now (IsWord-plain (codes "recv") refl) c.in-114.len_at_least is_0 is_1 is_2 is_3 is_4 in
    let split = ap (λ ws. codes "recv" ∷ ws) c.of-words-in-114.ensures ∙ first in
    let named = c.in_ok-read_recv-in-114.ensures.word in
    let spelled = c.in_ok-read_recv-in-114.ensures.arguments in
    call_said c.line_of-in-114.result c.in_ok-read_recv-in-114.field-0 (codes "recv") c.of-words-in-114.result c.read_recv.new.words c.args.text.now split named spelled c.line_of-in-114.ensures.ok

pub returns-in_ok-read_recv-in-114-clause-each : goal.returns-in_ok-read_recv-in-114-clause-each
returns-in_ok-read_recv-in-114-clause-each c =
    let good : IsOk c.line_of-in-114.result → IsOkUnless c.line_of-in-114.result OutOfMemory = λ alone. search (rules, alone) in
    λ said fits same.
    let is_0 : slice_index_or c.args.text.now 0 0 ≡ 114 = search rules in
    let is_1 : slice_index_or c.args.text.now 1 0 ≡ 101 = search rules in
    let is_2 : slice_index_or c.args.text.now 2 0 ≡ 99 = search rules in
    let is_3 : slice_index_or c.args.text.now 3 0 ≡ 118 = search rules in
    let is_4 : slice_index_or c.args.text.now 4 0 ≡ 32 = search rules in
    let first = four_letters 114 101 99 118 c.args.text.now (IsWord-plain (codes "recv") refl) c.in-114.len_at_least is_0 is_1 is_2 is_3 is_4 in
    let split = ap (λ ws. codes "recv" ∷ ws) c.of-words-in-114.ensures ∙ first in
    let is = receive_said said c.of-words-in-114.result c.args.text.now fits same split in
    let left = c.in_ok-read_recv-in-114.ensures.read is.0 is.1 is.2 is.3 [] is.4 is.5 is.6 is.7 in
    good (c.line_of-in-114.ensures.each left)

pub returns-in_err-read_recv-in-114-clause-each : goal.returns-in_err-read_recv-in-114-clause-each
returns-in_err-read_recv-in-114-clause-each c =
    let refused : IsRead c.read_recv.result c.read_recv.new.words [] → IsOkUnless c.from_residual-in_err-read_recv-in-114.result OutOfMemory = λ read. search (rules, read) in
    λ said fits same.
    let is_0 : slice_index_or c.args.text.now 0 0 ≡ 114 = search rules in
    let is_1 : slice_index_or c.args.text.now 1 0 ≡ 101 = search rules in
    let is_2 : slice_index_or c.args.text.now 2 0 ≡ 99 = search rules in
    let is_3 : slice_index_or c.args.text.now 3 0 ≡ 118 = search rules in
    let is_4 : slice_index_or c.args.text.now 4 0 ≡ 32 = search rules in
    let first = four_letters 114 101 99 118 c.args.text.now (IsWord-plain (codes "recv") refl) c.in-114.len_at_least is_0 is_1 is_2 is_3 is_4 in
    let split = ap (λ ws. codes "recv" ∷ ws) c.of-words-in-114.ensures ∙ first in
    let is = receive_said said c.of-words-in-114.result c.args.text.now fits same split in
    refused (c.read_recv.ensures.read is.0 is.1 is.2 is.3 [] is.4 is.5 is.6 is.7)
