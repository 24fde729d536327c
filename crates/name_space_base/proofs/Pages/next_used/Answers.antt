use Rattle.std.proofs.Common.{◌≡◌, ◌+◌, ◌*◌, ◌<◌, ◌≤◌, length, vec_len, get_or, Option, None, is_some, List, ap, sym, ◌∙◌, subst, inl, inr, ℕ, arith}
use Rattle.std.proofs.lemmas.Bool.{cases_lt}
use Rattle.std.specs.FinMap as map
use Rattle.name_space_base.specs.Pages.{PagesView, IsNextUsed}
use Rattle.name_space_base.specs.Sound.{page_at, look}
use Rattle.name_space_base.proofs.Laid.{Sheets, get-values, look-past, held-at}
use Rattle.name_space_base.proofs.Held.{free-so-far, look-at}
use Rattle.name_space_base.proofs.Pages.next_used.Goals as goal

pub returns-then-found-lt-PAGE-clause-found : goal.returns-then-found-lt-PAGE-clause-found
returns-then-found-lt-PAGE-clause-found g c =
    let ps : Sheets g.row.T.Denot = c.self.inside.pages.items in
    let p : ℕ = c.loop-page.page in
    let found : ℕ = c.next_used-found.result in
    let long : vec_len c.self.inside.pages ≡ length ps = c.self.inside.pages.ok.0 in
    let within : p < length ps = omega arith in
    let held : c.index.result.now ≡ page_at ps p = held-at ps p c.index.result.now within c.index.ensures in
    let small : found < 256 = c.if-found-lt-PAGE.true in
    let after : c.loop-page.place ≤ found = c.next_used-found.ensures.from in
    let start : c.args.from ≤ 256 * p + c.loop-page.place = c.loop-page.invariant.start in
    let empty : (n : ℕ) → c.args.from ≤ n → n < 256 * p + found → look ps n ≡ None =
    free-so-far ps c.args.from p c.loop-page.place found c.loop-page.invariant.free c.next_used-found.ensures.bound (λ i a b. ap (λ (l : List (Option g.row.T.Denot)). get_or l i None) (sym held) ∙ c.next_used-found.ensures.free i a b) in
    subst (λ (v : PagesView g.row.T.Denot). IsNextUsed v.values c.args.from (256 * p + found)) c.self.view_is record {
      from = omega arith;
      used = ap is_some (get-values ps (256 * p + found) ∙ look-at ps p found small) ∙ ap (λ (l : List (Option g.row.T.Denot)). is_some (get_or l found None)) (sym held) ∙ c.next_used-found.ensures.used small;
      least = λ n a b. get-values ps n ∙ empty n a b;
    }

pub returns-clause-none : goal.returns-clause-none
returns-clause-none g c = λ n a.
    let ps : Sheets g.row.T.Denot = c.self.inside.pages.items in
    let p : ℕ = c.loop-page.page in
    let long : vec_len c.self.inside.pages ≡ length ps = c.self.inside.pages.ok.0 in
    let past : length ps ≤ p = omega arith in
    let free : look ps n ≡ None = elim (cases_lt n (256 * p + c.loop-page.place)) [
      | inl h ↦ c.loop-page.invariant.free n a h
      | inr h ↦ look-past ps n (omega arith)
    ] in
    ap (λ (v : PagesView g.row.T.Denot). map.get v.values n) (sym c.self.view_is) ∙ get-values ps n ∙ free
