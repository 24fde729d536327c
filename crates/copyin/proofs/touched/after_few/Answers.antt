use Rattle.std.proofs.Common.{◌≡◌, sym, ap, ◌∙◌}
use Rattle.std.specs.FinMap as map
use Rattle.name_space.specs.Names.{Names}
use Rattle.copyin.specs.Overlays.{puts}
use Rattle.copyin_base.specs.Worlds.{put}
use Rattle.copyin.proofs.Judging.{get_put, get_put_other, puts-push}
use Rattle.copyin.proofs.touched.after_few.Goals as goal

pub returns-then-last-number : goal.returns-then-last-number
returns-then-last-number c =
    let names = c.args.space.now.names in
    let last = c.in-Some.last.now in
    let rest = c.in-Some.rest.now in
    let same : c.args.name ≡ last.name = sym (c.if-last-number.true ∙ c.number.ensures) in
    let stands : puts names c.loop-last.earlier.now ≡ put (puts names rest) last.name last.left = ap (puts names) (c.in-Some.ensures.cases.0) ∙ puts-push names rest last in
    let put_last : map.get (put (puts names rest) last.name last.left) c.args.name ≡ last.left = rw same (get_put (puts names rest) last.name last.left) in
    sym (c.loop-last.invariant ∙ ap (λ (m : Names). map.get m c.args.name) stands ∙ put_last)

pub loop-last-preserved : goal.loop-last-preserved
loop-last-preserved c =
    let names = c.args.space.now.names in
    let last = c.in-Some.last.now in
    let rest = c.in-Some.rest.now in
    let stands : puts names c.loop-last.earlier.now ≡ put (puts names rest) last.name last.left = ap (puts names) (c.in-Some.ensures.cases.0) ∙ puts-push names rest last in
    c.loop-last.invariant ∙ ap (λ (m : Names). map.get m c.args.name) stands
    ∙ get_put_other (puts names rest) last.name last.left c.args.name (λ e. c.if-last-number.false (sym e ∙ sym c.number.ensures))
