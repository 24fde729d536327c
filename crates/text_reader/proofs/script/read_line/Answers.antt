use Rattle.std.proofs.Common.{rules, ◌≡◌, ◌++◌, ◌∷◌}
use Rattle.tracer_base.specs.Words.{Lacks}
use Rattle.tracer_base.proofs.CallLemmas.{first_line}
use Rattle.text_reader.proofs.script.read_line.Goals as goal

pub returns-in-Err-Bad-clause-bad : goal.returns-in-Err-Bad-clause-bad
returns-in-Err-Bad-clause-bad c =
    λ n same.
    let number : n ≡ c.args.number = search (rules, same) in
    let parted : c.in-Some.line.now ++ 10 ∷ c.in-Some.rest.now ≡ c.args.text.now = search rules in
    let lacks : Lacks 10 c.in-Some.line.now = search rules in (
      number,
      λ event rest fits whole.
          let own = first_line event rest c.args.text.now c.in-Some.line.now c.in-Some.rest.now fits whole lacks parted in
          let kept = c.read_call.ensures.each event fits own in
          absurd (search (rules, kept)),
    )
