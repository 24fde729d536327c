use Rattle.std.proofs.Common.{◌≡◌, ◌==◌, ◌+◌, ◌*◌, ◌<◌, ◌≤◌, length, vec_len, get_or, Option, None, is_some, true, List, [], ap, sym, ◌∙◌, subst, ℕ, arith}
use Rattle.name_space_base.specs.Pages.{PagesView, IsFirstFree}
use Rattle.name_space_base.specs.Sound.{page_at, skipped}
use Rattle.name_space_base.proofs.Laid.{Sheets, page_at-past, held-at}
use Rattle.name_space_base.proofs.Held.{first-found, found-within, skipped-few, byte-is}
use Rattle.name_space_base.proofs.Pages.first_free.Goals as goal

pub returns-then-page-len-clause-first : goal.returns-then-page-len-clause-first
returns-then-page-len-clause-first g c =
    let ps : Sheets g.row.T.Denot = c.self.inside.pages.items in
    let p : ℕ = c.first_absent-page.result in
    let j : ℕ = c.from-from.result in
    let long : vec_len c.self.inside.pages ≡ length ps = c.self.inside.pages.ok.0 in
    let past : length ps ≤ p = omega arith in
    let is : j ≡ skipped p = c.from-from.ensures ∙ byte-is (p == 0) in
    let few : skipped p ≤ 1 = skipped-few p in
    let none : page_at ps p ≡ [] = page_at-past ps p past in
    subst (λ (v : PagesView g.row.T.Denot). IsFirstFree v.values (256 * p + j)) c.self.view_is
    (first-found ps c.self.inside.full.words c.self.inside.len c.self.inside.front c.self.inside.front_free c.self.inside.room c.self.invariant p j c.first_absent-page.ensures.bound c.first_absent-page.ensures.below
    (omega arith) (omega arith) (λ i a b. absurd (omega arith)) (ap (λ (l : List (Option g.row.T.Denot)). get_or l j None) none))

pub returns-clause-first : goal.returns-clause-first
returns-clause-first g c =
    let ps : Sheets g.row.T.Denot = c.self.inside.pages.items in
    let p : ℕ = c.first_absent-page.result in
    let j : ℕ = c.first_free.result in
    let long : vec_len c.self.inside.pages ≡ length ps = c.self.inside.pages.ok.0 in
    let within : p < length ps = omega arith in
    let few : length ps ≤ 256 = c.self.invariant.few in
    let small : p < 256 = omega arith in
    let is : c.from-from.result ≡ skipped p = c.from-from.ensures ∙ byte-is (p == 0) in
    let held : c.index.result.now ≡ page_at ps p = held-at ps p c.index.result.now within c.index.ensures in
    let used : (i : ℕ) → skipped p ≤ i → i < j → is_some (get_or (page_at ps p) i None) ≡ true = λ i a b. ap (λ (l : List (Option g.row.T.Denot)). is_some (get_or l i None)) (sym held) ∙ c.first_free.ensures.used i (subst (λ k. k ≤ i) (sym is) a) b in
    let none : get_or (page_at ps p) j None ≡ None = ap (λ (l : List (Option g.row.T.Denot)). get_or l j None) (sym held) ∙ c.first_free.ensures.free in
    let inside : j < 256 = found-within ps c.self.inside.full.words c.self.inside.len c.self.inside.front c.self.inside.front_free c.self.inside.room c.self.invariant p j small (c.first_absent-page.ensures.absent small) c.first_free.ensures.bound used in
    subst (λ (v : PagesView g.row.T.Denot). IsFirstFree v.values (256 * p + j)) c.self.view_is
    (first-found ps c.self.inside.full.words c.self.inside.len c.self.inside.front c.self.inside.front_free c.self.inside.room c.self.invariant p j c.first_absent-page.ensures.bound c.first_absent-page.ensures.below
    (subst (λ k. k ≤ j) is c.first_free.ensures.from) inside used none)
