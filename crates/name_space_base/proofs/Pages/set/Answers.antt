use Rattle.std.proofs.Common.{◌≡◌, ◌/◌, ◌%◌, ◌<◌, length, vec_len, get_or, set, Option, Some, None, is_some, true, List, ap, sym, ◌∙◌, subst, refl, ℕ, arith}
use Rattle.std.specs.FinMap as map
use Rattle.name_space_base.specs.Pages.{PagesView}
use Rattle.name_space_base.specs.Sound.{page_at, look, values_of, made_of, IsSound}
use Rattle.name_space_base.proofs.Laid.{Sheets, get-values, held-at, in_list, with_slot, look-kept, look-written, made-kept, values-put, same-view}
use Rattle.name_space_base.proofs.Held.{used_made, positive-used}
use Rattle.name_space_base.proofs.Changed.{sound-set}
use Rattle.name_space_base.proofs.Pages.set.Goals as goal

pub index_mut-requires : goal.index_mut-requires
index_mut-requires g c =
    let ps : Sheets g.row.T.Denot = c.self.inside.pages.items in
    let n : ℕ = c.args.number in
    let used : is_some (look ps n) ≡ true = ap is_some (sym (get-values ps n)) ∙ ap (λ (v : PagesView g.row.T.Denot). map.contains_key v.values n) c.self.view_is ∙ c.requires in
    let within : n % 256 < length (page_at ps (n / 256)) = used_made ps n used in
    let listed : n / 256 < length ps = in_list ps (n / 256) (omega arith) in
    let long : vec_len c.self.inside.pages ≡ length ps = c.self.inside.pages.ok.0 in
    omega arith

pub set-requires-clause-made : goal.set-requires-clause-made
set-requires-clause-made g c =
    let ps : Sheets g.row.T.Denot = c.self.inside.pages.items in
    let n : ℕ = c.args.number in
    let used : is_some (look ps n) ≡ true = ap is_some (sym (get-values ps n)) ∙ ap (λ (v : PagesView g.row.T.Denot). map.contains_key v.values n) c.self.view_is ∙ c.requires in
    let within : n % 256 < length (page_at ps (n / 256)) = used_made ps n used in
    let listed : n / 256 < length ps = in_list ps (n / 256) (omega arith) in
    let held : c.index_mut.result.now ≡ page_at ps (n / 256) = held-at ps (n / 256) c.index_mut.result.now listed c.index_mut.ensures.value in
    subst (λ (l : List (Option g.row.T.Denot)). n % 256 < length l) (sym held) within

pub set-requires-clause-used : goal.set-requires-clause-used
set-requires-clause-used g c =
    let ps : Sheets g.row.T.Denot = c.self.inside.pages.items in
    let n : ℕ = c.args.number in
    let used : is_some (look ps n) ≡ true = ap is_some (sym (get-values ps n)) ∙ ap (λ (v : PagesView g.row.T.Denot). map.contains_key v.values n) c.self.view_is ∙ c.requires in
    let within : n % 256 < length (page_at ps (n / 256)) = used_made ps n used in
    let listed : n / 256 < length ps = in_list ps (n / 256) (omega arith) in
    let held : c.index_mut.result.now ≡ page_at ps (n / 256) = held-at ps (n / 256) c.index_mut.result.now listed c.index_mut.ensures.value in
    ap (λ (l : List (Option g.row.T.Denot)). is_some (get_or l (n % 256) None)) held ∙ used

pub invariant_of-self : goal.invariant_of-self
invariant_of-self g c =
    let ps : Sheets g.row.T.Denot = c.self.inside.pages.items in
    let n : ℕ = c.args.number in
    let used : is_some (look ps n) ≡ true = ap is_some (sym (get-values ps n)) ∙ ap (λ (v : PagesView g.row.T.Denot). map.contains_key v.values n) c.self.view_is ∙ c.requires in
    let within : n % 256 < length (page_at ps (n / 256)) = used_made ps n used in
    let listed : n / 256 < length ps = in_list ps (n / 256) (omega arith) in
    let held : c.index_mut.result.now ≡ page_at ps (n / 256) = held-at ps (n / 256) c.index_mut.result.now listed c.index_mut.ensures.value in
    let page : c.set.new.self ≡ set (page_at ps (n / 256)) (n % 256) (Some c.args.value) = c.set.ensures ∙ ap (λ (l : List (Option g.row.T.Denot)). set l (n % 256) (Some c.args.value)) held in
    let pages : set ps (n / 256) c.set.new.self ≡ with_slot ps n (Some c.args.value) = ap (set ps (n / 256)) page in
    let positive : 0 < n = positive-used ps c.self.inside.full.words c.self.inside.len c.self.inside.front c.self.inside.front_free c.self.inside.room c.self.invariant n used in
    subst (λ (l : Sheets g.row.T.Denot). IsSound l c.self.inside.full.words c.self.inside.len c.self.inside.front c.self.inside.front_free c.self.inside.room) (sym pages)
    (sound-set ps c.self.inside.full.words c.self.inside.len c.self.inside.front c.self.inside.front_free c.self.inside.room c.self.invariant n within c.args.value positive used)

pub returns : goal.returns
returns g c =
    let ps : Sheets g.row.T.Denot = c.self.inside.pages.items in
    let n : ℕ = c.args.number in
    let used : is_some (look ps n) ≡ true = ap is_some (sym (get-values ps n)) ∙ ap (λ (v : PagesView g.row.T.Denot). map.contains_key v.values n) c.self.view_is ∙ c.requires in
    let within : n % 256 < length (page_at ps (n / 256)) = used_made ps n used in
    let listed : n / 256 < length ps = in_list ps (n / 256) (omega arith) in
    let held : c.index_mut.result.now ≡ page_at ps (n / 256) = held-at ps (n / 256) c.index_mut.result.now listed c.index_mut.ensures.value in
    let page : c.set.new.self ≡ set (page_at ps (n / 256)) (n % 256) (Some c.args.value) = c.set.ensures ∙ ap (λ (l : List (Option g.row.T.Denot)). set l (n % 256) (Some c.args.value)) held in
    let pages : set ps (n / 256) c.set.new.self ≡ with_slot ps n (Some c.args.value) = ap (set ps (n / 256)) page in
    same-view (values_of (set ps (n / 256) c.set.new.self)) (map.insert (values_of ps) n c.args.value) c.self.inside.room c.self.inside.room (made_of (set ps (n / 256) c.set.new.self)) (made_of ps)
    (ap values_of pages ∙ values-put ps (with_slot ps n (Some c.args.value)) n c.args.value (look-kept ps n (Some c.args.value) within) (look-written ps n (Some c.args.value) within))
    refl
    (ap made_of pages ∙ made-kept ps n (Some c.args.value) within)
    ∙ ap (λ (v : PagesView g.row.T.Denot). let w : PagesView g.row.T.Denot = record { values = map.insert v.values n c.args.value; room = v.room; made = v.made } in w) c.self.view_is
