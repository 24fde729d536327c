use Rattle.std.proofs.Common.{◌≡◌, ◌<◌, ◌≤◌, ℕ, [], ◌∷◌, ◌++◌, Some, true, false, refl, sym, ap, subst, ◌∙◌, inl, inr, arith}
use Rattle.std.proofs.lemmas.Bool.Decides.{eqb_tells}
use Rattle.std.specs.BTreeMap.{Updates}
use Rattle.std.specs.Ordering.{nat_cmp}
use Rattle.arrayvec.specs.ArrayVec.{array_vec_len}
use Rattle.copyin.specs.declared.touched.Touched.{Touched}
use Rattle.copyin.specs.Overlays.{inline_touched}
use Rattle.copyin.proofs.Judging.{overlays-few, overlays-many}
use Rattle.copyin.proofs.touched.Touched.put.Goals as goal

pub returns-then-not-is_full-clause-ok : goal.returns-then-not-is_full-clause-ok
returns-then-not-is_full-clause-ok c = λ names now o.
    let old = c.args.self.now in
    let new : Touched = record { few = c.push.new.self; many = old.many } in
    let less : array_vec_len old.few < inline_touched = elim (eqb_tells (array_vec_len old.few) inline_touched) [
      | inl h ↦ absurd (let no : false ≡ true = sym c.if-not-is_full.true ∙ c.is_full.ensures.value ∙ h.0 in cc)
      | inr h ↦ omega (arith, h.1, c.is_full.ensures.fits)
    ] in
    let pushed : c.push.new.self.items ≡ old.few.items ++ record { name = c.args.name; left = c.args.left } ∷ [] =
    c.push.ensures.items ∙ ap (λ (n : ℕ). old.few.items ++ record { name = n; left = c.args.left } ∷ []) c.number-name.ensures in
    overlays-few old new names now (record { name = c.args.name; left = c.args.left }) less pushed refl o

pub returns-clause-ok : goal.returns-clause-ok
returns-clause-ok c = λ names now o.
    let old = c.args.self.now in
    let new : Touched = record { few = old.few; many = c.insert.new.self } in
    let full : inline_touched ≤ array_vec_len old.few = elim (eqb_tells (array_vec_len old.few) inline_touched) [
      | inl h ↦ omega (arith, h.1)
      | inr h ↦ absurd (let no : true ≡ false = sym c.if-not-is_full.false ∙ c.is_full.ensures.value ∙ h.0 in cc)
    ] in
    let u : Updates nat_cmp old.many c.insert.new.self c.number-name.result (Some c.args.left) = c.in_ok-insert.ensures.updates in
    overlays-many old new names now c.args.name c.args.left full refl (subst (λ (n : ℕ). Updates nat_cmp old.many c.insert.new.self n (Some c.args.left)) c.number-name.ensures u) o
