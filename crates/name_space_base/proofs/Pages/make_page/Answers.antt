use Rattle.std.proofs.Common.{◌≡◌, ◌/◌, ◌<◌, ltb, length, true, ap, sym, ◌∙◌, refl, ℕ}
use Rattle.std.proofs.lemmas.Bool.{ltb-true}
use Rattle.std.specs.FinMap as map
use Rattle.std.specs.FinSet as set
use Rattle.name_space_base.specs.Pages.{PagesView}
use Rattle.name_space_base.specs.Sound.{page_at, values_of, made_of}
use Rattle.name_space_base.proofs.Laid.{Sheets, same-view, contains-made}
use Rattle.name_space_base.proofs.Held.{used-page}
use Rattle.name_space_base.proofs.Growth.{on-ok, on-err, on-none, sound-made, values-made, made-more, made-no_more}
use Rattle.name_space_base.proofs.Pages.make_page.Goals as goal

pub invariant_of-self : goal.invariant_of-self
invariant_of-self g c =
    sound-made c.self.inside.pages.items c.make.new.pages.items (c.args.number / 256) c.make.ensures.only c.self.inside.full.words c.self.inside.len c.self.inside.front c.self.inside.front_free c.self.inside.room c.self.invariant

pub returns-clause-ok : goal.returns-clause-ok
returns-clause-ok g c =
    let ps : Sheets g.row.T.Denot = c.self.inside.pages.items in
    let qs : Sheets g.row.T.Denot = c.make.new.pages.items in
    let p : ℕ = c.args.number / 256 in
    on-ok c.make.result (λ some.
    same-view (values_of qs) (values_of ps) c.self.inside.room c.self.inside.room (made_of qs) (set.insert (made_of ps) p) (values-made ps qs p c.make.ensures.only) refl (made-more ps qs p c.make.ensures.only some)
    ∙ ap (λ (v : PagesView g.row.T.Denot). let w : PagesView g.row.T.Denot = record { values = v.values; room = v.room; made = set.insert v.made p } in w) c.self.view_is) c.make.ensures.ok

pub returns-clause-err : goal.returns-clause-err
returns-clause-err g c =
    let ps : Sheets g.row.T.Denot = c.self.inside.pages.items in
    let qs : Sheets g.row.T.Denot = c.make.new.pages.items in
    let p : ℕ = c.args.number / 256 in
    on-err c.make.result (λ same.
    same-view (values_of qs) (values_of ps) c.self.inside.room c.self.inside.room (made_of qs) (made_of ps) (values-made ps qs p c.make.ensures.only) refl (made-no_more ps qs p c.make.ensures.only same)
    ∙ c.self.view_is) c.make.ensures.err

pub returns-clause-had_page : goal.returns-clause-had_page
returns-clause-had_page g c = λ has.
    let ps : Sheets g.row.T.Denot = c.self.inside.pages.items in
    let p : ℕ = c.args.number / 256 in
    let made : ltb 0 (length (page_at ps p)) ≡ true = sym (contains-made ps p) ∙ ap (λ (v : PagesView g.row.T.Denot). set.contains v.made p) c.self.view_is ∙ has in
    c.make.ensures.made (ltb-true 0 (length (page_at ps p)) made)

pub returns-clause-wanted : goal.returns-clause-wanted
returns-clause-wanted g c =
    let ps : Sheets g.row.T.Denot = c.self.inside.pages.items in
    let p : ℕ = c.args.number / 256 in
    let made : (set.contains (made_of ps) p ≡ true → 0 < length (page_at ps p)) = λ has. ltb-true 0 (length (page_at ps p)) (sym (contains-made ps p) ∙ has) in
    on-err c.make.result (λ none. record {
      unmade = λ has. none (made (ap (λ (v : PagesView g.row.T.Denot). set.contains v.made p) c.self.view_is ∙ has));
      alone = λ n used same. none (made (ap (set.contains (made_of ps)) (sym same) ∙ used-page ps n (ap (λ (v : PagesView g.row.T.Denot). map.contains_key v.values n) c.self.view_is ∙ used)));
    }) (on-none c.make.result c.make.ensures.made)
