use Rattle.std.proofs.Common.{rules, ◌≡◌, ◌+◌, ◌-◌, ◌<◌, [], ◌∷◌, ◌++◌, Err, refl, ◌∙◌, arith, length, subst}
use Rattle.std.proofs.lemmas.List.{length_push}
use Rattle.std.proofs.lemmas.List.Elements.{All-nil, All-push}
use Rattle.tracer_base.specs.declared.fault.TextFault.{TextFault}
use Rattle.tracer.specs.Histories.{FitsLine, StartsNoEntry}
use Rattle.mach_run_base.proofs.HistoryLemmas.{entry-read, text-read, bad-entry, told-bad}
use Rattle.mach_run_base.proofs.checking.judge_entries.Goals as goal

pub loop-number-init : goal.loop-number-init
loop-number-init g c = ([], All-nil FitsLine, refl, λ whole profile begins. begins, λ profile seen. seen)

pub returns-then-branch-eq0 : goal.returns-then-branch-eq0
returns-then-branch-eq0 g c =
    λ whole profile seen begins.
    let inv = c.loop-number.invariant in
    let count : length inv.0 ≡ c.loop-number.number - 1 = (let number = inv.2 in omega (arith, number)) in
    c.verdict.ensures _ profile inv.0 (text-read profile _ _ inv.0 inv.1 (inv.3 whole profile begins) (c.in_ok-next_line.ensures.end c.if-branch-eq0.true)) count (inv.4 profile seen)

pub returns-in-Err-Bad : goal.returns-in-Err-Bad
returns-in-Err-Bad g c =
    λ whole profile seen begins.
    let inv = c.loop-number.invariant in
    let line = c.next_line.new.line.items in
    let n = c.loop-number.number + 1 in
    let told : c.first_line.result ≡ Err TextFault.Bad = search rules in
    let bad : StartsNoEntry line = subst StartsNoEntry c.as_slice.ensures.value (c.first_line.ensures.bad told) in
    let some : 0 < length line = search rules in
    let number : length inv.0 + 2 ≡ n = (let before = inv.2 in omega (arith, before)) in
    told-bad c.bad_line.result _ n c.bad_line.ensures (bad-entry profile _ _ inv.0 line n inv.1 (inv.3 whole profile begins) c.in_ok-next_line.ensures.taken bad some number)

pub loop-number-preserved : goal.loop-number-preserved
loop-number-preserved g c =
    let inv = c.loop-number.invariant in
    let read = c.in-Ok.ensures in
    let e = c.in-Ok.entry in (
      inv.0 ++ e ∷ [],
      All-push FitsLine inv.0 e inv.1 read.fits,
      (let more = length_push inv.0 e in let before = inv.2 in omega (arith, more, before)),
      (λ whole profile begins. entry-read profile _ _ _ inv.0 e _ _ (inv.3 whole profile begins) c.in_ok-next_line.ensures.taken c.in_ok-next_line.ensures.left read.fits (read.ok ∙ c.as_slice.ensures.value)),
      (λ profile seen. c.in_ok-see-in-Ok.ensures profile inv.0 inv.2 (inv.4 profile seen)),
    )
