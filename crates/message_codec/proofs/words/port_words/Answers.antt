use Rattle.std.proofs.Common.{drop, subst, sym, ap, ◌≡◌, List, [], length, arith}
use Rattle.std.proofs.lemmas.List.{drop_all}
use Rattle.std.proofs.lemmas.Result.{err_from_is_err_and}
use Rattle.message_codec.specs.declared.spans.Span.{Span}
use Rattle.message_codec.specs.declared.words.PortWord.{PortWord}
use Rattle.message_codec.proofs.PutSpans.{laid_out-fit}
use Rattle.message_codec.proofs.ReadWords.{IsRead, read-none, read-all, laid_out-count}
use Rattle.message_codec.proofs.words.port_words.Goals as goal

pub returns-in_err-count_words-clause-err : goal.returns-in_err-count_words-clause-err
returns-in_err-count_words-clause-err c =
    let p = err_from_is_err_and c.from_residual.result c.from_residual.ensures.1 in
    let many = c.in_err-count_words.ensures.err in
    rw (p.1) (λ written laid. let count = laid_out-count c.args.bytes.now c.args.spans.now written laid in omega (arith, many, count))

pub returns-in_err-words-clause-err : goal.returns-in_err-words-clause-err
returns-in_err-words-clause-err c =
    let p = err_from_is_err_and c.from_residual-in_err-words.result c.from_residual-in_err-words.ensures.1 in
    rw (p.1) (λ written laid.
    let count = laid_out-count c.args.bytes.now c.args.spans.now written laid in
    let refused = c.in_err-words.ensures.succeeds in
    grind (arith, refused, c.in_ok-count_words.ensures.ok, count))

pub loop-span-init : goal.loop-span-init
loop-span-init c =
    let bytes = c.args.bytes.now in
    let spans = c.args.spans.now in
    let none : [] ≡ c.in_ok-words.words.items = sym c.in_ok-words.ensures.items in
    record {
      room = omega (arith, ap length c.in_ok-words.ensures.items, c.in_ok-words.ensures.capacity, c.in_ok-count_words.ensures.ok);
      read = subst (λ (ws : List PortWord). IsRead bytes spans spans ws) none (read-none bytes spans (laid_out-fit bytes spans c.requires.laid_out.0 c.requires.laid_out.1));
    }

pub returns-clause-ok : goal.returns-clause-ok
returns-clause-ok c = λ written laid.
    let bytes = c.args.bytes.now in
    let spans = c.args.spans.now in
    let none : drop c.loop-span.span-index spans ≡ [] = drop_all c.loop-span.span-index spans (omega arith) in
    read-all bytes spans c.loop-span.words.items written (subst (λ (ss : List Span). IsRead bytes spans ss c.loop-span.words.items) none c.loop-span.invariant.read) laid
