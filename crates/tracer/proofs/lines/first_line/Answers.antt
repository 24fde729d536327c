use Rattle.std.proofs.Common.{rules, ◌≡◌, ◌∷◌, ◌++◌, ◌∙◌, sym}
use Rattle.tracer_base.specs.Words.{Lacks}
use Rattle.tracer.proofs.EntryLemmas.{first_text, line_parts, same_line}
use Rattle.tracer.proofs.lines.first_line.Goals as goal

pub returns-in_err-read_entry-clause-bad : goal.returns-in_err-read_entry-clause-bad
returns-in_err-read_entry-clause-bad c =
    λ told entry rest fits whole.
    let parted : c.in-Some.line.now ++ 10 ∷ c.in-Some.rest.now ≡ c.args.text.now = search rules in
    let lacks : Lacks 10 c.in-Some.line.now = search rules in
    let own = first_text entry rest c.args.text.now c.in-Some.line.now c.in-Some.rest.now fits whole lacks parted in
    let kept = c.read_entry.ensures.each entry fits own in
    absurd (search (rules, told, kept))

pub returns-clause-same : goal.returns-clause-same
returns-clause-same c =
    λ entry rest fits whole.
    let e = c.in_ok-read_entry.field-0 in
    let parted : c.in-Some.line.now ++ 10 ∷ c.in-Some.rest.now ≡ c.args.text.now = search rules in
    let own = line_parts e c.in-Some.line.now c.in-Some.rest.now c.args.text.now c.in_ok-read_entry.ensures.ok parted in
    same_line e entry c.in-Some.rest.now rest c.in_ok-read_entry.ensures.fits fits (own ∙ sym whole)
