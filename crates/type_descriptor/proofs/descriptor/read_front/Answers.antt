use Rattle.std.proofs.Common.{List, ℕ, sym, subst, arith}
use Rattle.std.proofs.lemmas.Result.{err_from_is_err_and}
use Rattle.mach_types.specs.TextGuards.{BadType, word_at}
use Rattle.type_descriptor.proofs.ByteWords.{not_true}
use Rattle.type_descriptor.proofs.Texts.{Describes-from_fields, refuses_short, refuses_cut}
use Rattle.type_descriptor.proofs.descriptor.read_front.Goals as goal

pub returns-then-bytes-lt-SHORT_BYTES-clause-err :
    goal.returns-then-bytes-lt-SHORT_BYTES-clause-err
returns-then-bytes-lt-SHORT_BYTES-clause-err c = refuses_short c.args.bytes.now c.if-bytes-lt-SHORT_BYTES.true

pub returns-in_err-descriptor-clause-err : goal.returns-in_err-descriptor-clause-err
returns-in_err-descriptor-clause-err c =
    let p = err_from_is_err_and c.from_residual.result c.from_residual.ensures.1 in
    rw (p.1, p.2) (rw c.in_err-descriptor.ensures.err.1 (refuses_cut c.args.bytes.now c.if-bytes-lt-SHORT_BYTES.false c.in_err-descriptor.ensures.err.0))

pub returns-clause-ok : goal.returns-clause-ok
returns-clause-ok c =
    let bytes : List ℕ = c.args.bytes.now in
    let d = c.in_ok-descriptor.descriptor in
    let good : ¬ (BadType (word_at bytes 0) d.name d.size) =
    λ bad. not_true (c.if-is_bad_type.ensures.1 (subst (λ (n : ℕ). BadType n d.name d.size) (sym c.read_word.ensures) bad)) in
    Describes-from_fields bytes d (record { below = λ k. omega (arith, c.type_inv.bytes k) }) c.in_ok-descriptor.ensures.ok good
