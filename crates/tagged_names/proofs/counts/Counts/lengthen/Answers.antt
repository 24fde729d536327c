use Rattle.std.proofs.Common.{◌≡◌, ℕ, ◌+◌, ◌-◌, ◌*◌, ◌/◌, ◌≤◌, length, max, refl, ap, arith}
use Rattle.tagged_names.specs.Counts.{CountsView, given_in}
use Rattle.tagged_names.proofs.Bytes.{view_grown}
use Rattle.tagged_names.proofs.counts.Counts.lengthen.Goals as goal

pub returns-in_ok-resize : goal.returns-in_ok-resize
returns-in_ok-resize c =
    let last : ℕ = (c.args.index / 256 + 2) * 256 - 1 in
    let counted = c.self.inside.bytes.ok.0 in
    let short : length c.self.inside.bytes.items ≤ last = omega arith in
    let long : length c.resize.new.self.items ≡ last + 1 = let n = c.resize.new.self.ok.0 in let m = c.in_ok-resize.ensures.len in omega arith in
    let view : ◌≡◌ {A = CountsView} record { given = given_in c.resize.new.self.items; reach = length c.resize.new.self.items - 1 } record { given = c.args.self.now.given; reach = max c.args.self.now.reach last } =
    view_grown c.self.inside.bytes.items c.args.self.now c.self.view_is c.resize.new.self.items last short long
    (λ k d a b. c.in_ok-resize.ensures.by_index.0 k d (omega arith) (omega arith))
    (λ k d a b. c.in_ok-resize.ensures.by_index.1 k d refl (omega arith) (omega arith)) in
    let reach : length c.resize.new.self.items - 1 ≡ max c.args.self.now.reach last = ap (λ (w : CountsView). w.reach) view in
    record {
      given = ap (λ (w : CountsView). w.given) view;
      kept = omega arith;
      few = omega arith;
      ok = omega arith;
      err = tt;
      had_place = λ some within. refl;
    }

pub returns-in_err-resize-clause-had_place : goal.returns-in_err-resize-clause-had_place
returns-in_err-resize-clause-had_place c = λ some within.
    let reach : length c.self.inside.bytes.items - 1 ≡ c.args.self.now.reach = ap (λ (w : CountsView). w.reach) c.self.view_is in
    absurd (let n = c.self.inside.bytes.ok.0 in omega arith)
