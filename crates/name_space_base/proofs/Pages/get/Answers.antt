use Rattle.std.proofs.Common.{◌≡◌, ◌/◌, ◌%◌, ◌<◌, ◌≤◌, length, vec_len, get_or, Option, None, List, ap, sym, ◌∙◌, arith}
use Rattle.std.specs.FinMap as map
use Rattle.name_space_base.specs.Pages.{PagesView}
use Rattle.name_space_base.proofs.Laid.{Sheets, get-values, look-past, held-at}
use Rattle.name_space_base.proofs.Pages.get.Goals as goal

pub returns-then-page-len : goal.returns-then-page-len
returns-then-page-len g c =
    let ps : Sheets g.row.T.Denot = c.self.inside.pages.items in
    let long : vec_len c.self.inside.pages ≡ length ps = c.self.inside.pages.ok.0 in
    let past : length ps ≤ c.args.number / 256 = omega arith in
    sym (look-past ps c.args.number past) ∙ sym (get-values ps c.args.number) ∙ ap (λ (v : PagesView g.row.T.Denot). map.get v.values c.args.number) c.self.view_is

pub returns : goal.returns
returns g c =
    let ps : Sheets g.row.T.Denot = c.self.inside.pages.items in
    let long : vec_len c.self.inside.pages ≡ length ps = c.self.inside.pages.ok.0 in
    let within : c.args.number / 256 < length ps = omega arith in
    c.get.ensures ∙ ap (λ (l : List (Option g.row.T.Denot)). get_or l (c.args.number % 256) None) (held-at ps (c.args.number / 256) c.index.result.now within c.index.ensures)
    ∙ sym (get-values ps c.args.number) ∙ ap (λ (v : PagesView g.row.T.Denot). map.get v.values c.args.number) c.self.view_is
