use Rattle.std.proofs.Common.{◌≡◌, ◌/◌, ◌%◌, ◌<◌, length, vec_len, get_or, set, Option, Some, None, is_some, true, List, ap, sym, ◌∙◌, subst, refl, ℕ, arith}
use Rattle.std.specs.FinMap as map
use Rattle.name_space_base.specs.Pages.{PagesView}
use Rattle.name_space_base.specs.Sound.{page_at, look, values_of, made_of, IsSound}
use Rattle.name_space_base.proofs.Laid.{Sheets, get-values, held-at, in_list, with_slot, look-kept, look-written, made-kept, values-put, same-view}
use Rattle.name_space_base.proofs.Held.{used_made, positive-used}
use Rattle.name_space_base.proofs.Changed.{sound-set}
use Rattle.name_space_base.proofs.Pages.value_mut.Goals as goal

pub index_mut-requires : goal.index_mut-requires
index_mut-requires g c =
    let ps : Sheets g.row.T.Denot = c.self.inside.pages.items in
    let n : ℕ = c.args.number in
    let used : is_some (look ps n) ≡ true = ap is_some (sym (get-values ps n)) ∙ ap (λ (v : PagesView g.row.T.Denot). map.contains_key v.values n) c.self.view_is ∙ c.requires in
    let within : n % 256 < length (page_at ps (n / 256)) = used_made ps n used in
    let listed : n / 256 < length ps = in_list ps (n / 256) (omega arith) in
    let long : vec_len c.self.inside.pages ≡ length ps = c.self.inside.pages.ok.0 in
    omega arith

pub value_mut-requires-clause-made : goal.value_mut-requires-clause-made
value_mut-requires-clause-made g c =
    let ps : Sheets g.row.T.Denot = c.self.inside.pages.items in
    let n : ℕ = c.args.number in
    let used : is_some (look ps n) ≡ true = ap is_some (sym (get-values ps n)) ∙ ap (λ (v : PagesView g.row.T.Denot). map.contains_key v.values n) c.self.view_is ∙ c.requires in
    let within : n % 256 < length (page_at ps (n / 256)) = used_made ps n used in
    let listed : n / 256 < length ps = in_list ps (n / 256) (omega arith) in
    let held : c.index_mut.result.now ≡ page_at ps (n / 256) = held-at ps (n / 256) c.index_mut.result.now listed c.index_mut.ensures.value in
    subst (λ (l : List (Option g.row.T.Denot)). n % 256 < length l) (sym held) within

pub value_mut-requires-clause-used : goal.value_mut-requires-clause-used
value_mut-requires-clause-used g c =
    let ps : Sheets g.row.T.Denot = c.self.inside.pages.items in
    let n : ℕ = c.args.number in
    let used : is_some (look ps n) ≡ true = ap is_some (sym (get-values ps n)) ∙ ap (λ (v : PagesView g.row.T.Denot). map.contains_key v.values n) c.self.view_is ∙ c.requires in
    let within : n % 256 < length (page_at ps (n / 256)) = used_made ps n used in
    let listed : n / 256 < length ps = in_list ps (n / 256) (omega arith) in
    let held : c.index_mut.result.now ≡ page_at ps (n / 256) = held-at ps (n / 256) c.index_mut.result.now listed c.index_mut.ensures.value in
    ap (λ (l : List (Option g.row.T.Denot)). is_some (get_or l (n % 256) None)) held ∙ used

pub invariant_of-self-lent : goal.invariant_of-self-lent
invariant_of-self-lent g c w =
    let ps : Sheets g.row.T.Denot = c.self.inside.pages.items in
    let n : ℕ = c.args.number in
    let used : is_some (look ps n) ≡ true = ap is_some (sym (get-values ps n)) ∙ ap (λ (v : PagesView g.row.T.Denot). map.contains_key v.values n) c.self.view_is ∙ c.requires in
    let within : n % 256 < length (page_at ps (n / 256)) = used_made ps n used in
    let listed : n / 256 < length ps = in_list ps (n / 256) (omega arith) in
    let held : c.index_mut.result.now ≡ page_at ps (n / 256) = held-at ps (n / 256) c.index_mut.result.now listed c.index_mut.ensures.value in
    let pages : set ps (n / 256) (set c.index_mut.result.now (n % 256) (Some w)) ≡ with_slot ps n (Some w) = ap (λ (l : List (Option g.row.T.Denot)). set ps (n / 256) (set l (n % 256) (Some w))) held in
    let positive : 0 < n = positive-used ps c.self.inside.full.words c.self.inside.len c.self.inside.front c.self.inside.front_free c.self.inside.room c.self.invariant n used in
    subst (λ (l : Sheets g.row.T.Denot). IsSound l c.self.inside.full.words c.self.inside.len c.self.inside.front c.self.inside.front_free c.self.inside.room) (sym pages)
    (sound-set ps c.self.inside.full.words c.self.inside.len c.self.inside.front c.self.inside.front_free c.self.inside.room c.self.invariant n within w positive used)

pub returns : goal.returns
returns g c =
    let ps : Sheets g.row.T.Denot = c.self.inside.pages.items in
    let n : ℕ = c.args.number in
    let used : is_some (look ps n) ≡ true = ap is_some (sym (get-values ps n)) ∙ ap (λ (v : PagesView g.row.T.Denot). map.contains_key v.values n) c.self.view_is ∙ c.requires in
    let within : n % 256 < length (page_at ps (n / 256)) = used_made ps n used in
    let listed : n / 256 < length ps = in_list ps (n / 256) (omega arith) in
    let held : c.index_mut.result.now ≡ page_at ps (n / 256) = held-at ps (n / 256) c.index_mut.result.now listed c.index_mut.ensures.value in (
      (
        refl,
        λ w.
            let pages : set ps (n / 256) (set c.index_mut.result.now (n % 256) (Some w)) ≡ with_slot ps n (Some w) = ap (λ (l : List (Option g.row.T.Denot)). set ps (n / 256) (set l (n % 256) (Some w))) held in
            same-view (values_of (set ps (n / 256) (set c.index_mut.result.now (n % 256) (Some w)))) (map.insert (values_of ps) n w) c.self.inside.room c.self.inside.room (made_of (set ps (n / 256) (set c.index_mut.result.now (n % 256) (Some w)))) (made_of ps)
            (ap values_of pages ∙ values-put ps (with_slot ps n (Some w)) n w (look-kept ps n (Some w) within) (look-written ps n (Some w) within))
            refl
            (ap made_of pages ∙ made-kept ps n (Some w) within)
            ∙ ap (λ (v : PagesView g.row.T.Denot). let x : PagesView g.row.T.Denot = record { values = map.insert v.values n w; room = v.room; made = v.made } in x) c.self.view_is,
      ),
      record {
        writes_back = tt;
        value = ap (λ (v : PagesView g.row.T.Denot). map.get v.values n) (sym c.self.view_is) ∙ get-values ps n ∙ ap (λ (l : List (Option g.row.T.Denot)). get_or l (n % 256) None) (sym held) ∙ c.value_mut.ensures.value;
      },
    )
