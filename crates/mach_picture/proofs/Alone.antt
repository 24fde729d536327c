-- An element that is added to nothing is the whole text.
use Rattle.std.proofs.Common.{◌≡◌, ℕ, List, [], sym, subst}
use Rattle.mach_xml.specs.Elements.{Adds, IsElement}

pub alone : (before text : List ℕ) → before ≡ [] → Adds IsElement before text → IsElement text
alone before text none added =
    let whole : Adds IsElement [] text = subst (λ (l : List ℕ). Adds IsElement l text) none added in
    subst IsElement (sym whole.at) whole.is
