use Rattle.std.proofs.Common.{◌≡◌, ◌+◌, ◌-◌, ◌/◌, ◌%◌, ◌<◌, ◌≤◌, ltb, length, vec_len, get_or, set, Option, None, is_some, true, List, ap, sym, ◌∙◌, subst, refl, ℕ, arith}
use Rattle.std.specs.FinMap as map
use Rattle.name_space_base.specs.Pages.{PagesView}
use Rattle.name_space_base.specs.Sound.{page_at, look, values_of, made_of, IsSound}
use Rattle.name_space_base.proofs.Laid.{Sheets, get-values, held-at, in_list, with_slot, look-kept, look-written, made-kept, values-out, same-view}
use Rattle.name_space_base.proofs.Held.{used_made, byte-is, lost-in, byte-few, positive-used}
use Rattle.name_space_base.proofs.Changed.{sound-out, few-front, some-counted}
use Rattle.name_space_base.proofs.Pages.clear.Goals as goal

pub index_mut-requires : goal.index_mut-requires
index_mut-requires g c =
    let ps : Sheets g.row.T.Denot = c.self.inside.pages.items in
    let n : ℕ = c.args.number in
    let used : is_some (look ps n) ≡ true = ap is_some (sym (get-values ps n)) ∙ ap (λ (v : PagesView g.row.T.Denot). map.contains_key v.values n) c.self.view_is ∙ c.requires in
    let within : n % 256 < length (page_at ps (n / 256)) = used_made ps n used in
    let listed : n / 256 < length ps = in_list ps (n / 256) (omega arith) in
    let long : vec_len c.self.inside.pages ≡ length ps = c.self.inside.pages.ok.0 in
    omega arith

pub clear-requires-clause-made : goal.clear-requires-clause-made
clear-requires-clause-made g c =
    let ps : Sheets g.row.T.Denot = c.self.inside.pages.items in
    let n : ℕ = c.args.number in
    let used : is_some (look ps n) ≡ true = ap is_some (sym (get-values ps n)) ∙ ap (λ (v : PagesView g.row.T.Denot). map.contains_key v.values n) c.self.view_is ∙ c.requires in
    let within : n % 256 < length (page_at ps (n / 256)) = used_made ps n used in
    let listed : n / 256 < length ps = in_list ps (n / 256) (omega arith) in
    let held : c.index_mut.result.now ≡ page_at ps (n / 256) = held-at ps (n / 256) c.index_mut.result.now listed c.index_mut.ensures.value in
    subst (λ (l : List (Option g.row.T.Denot)). n % 256 < length l) (sym held) within

pub clear-requires-clause-used : goal.clear-requires-clause-used
clear-requires-clause-used g c =
    let ps : Sheets g.row.T.Denot = c.self.inside.pages.items in
    let n : ℕ = c.args.number in
    let used : is_some (look ps n) ≡ true = ap is_some (sym (get-values ps n)) ∙ ap (λ (v : PagesView g.row.T.Denot). map.contains_key v.values n) c.self.view_is ∙ c.requires in
    let within : n % 256 < length (page_at ps (n / 256)) = used_made ps n used in
    let listed : n / 256 < length ps = in_list ps (n / 256) (omega arith) in
    let held : c.index_mut.result.now ≡ page_at ps (n / 256) = held-at ps (n / 256) c.index_mut.result.now listed c.index_mut.ensures.value in
    ap (λ (l : List (Option g.row.T.Denot)). is_some (get_or l (n % 256) None)) held ∙ used

pub remove-requires : goal.remove-requires
remove-requires g c =
    let ps : Sheets g.row.T.Denot = c.self.inside.pages.items in
    let n : ℕ = c.args.number in
    let used : is_some (look ps n) ≡ true = ap is_some (sym (get-values ps n)) ∙ ap (λ (v : PagesView g.row.T.Denot). map.contains_key v.values n) c.self.view_is ∙ c.requires in
    let within : n % 256 < length (page_at ps (n / 256)) = used_made ps n used in
    let listed : n / 256 < length ps = in_list ps (n / 256) (omega arith) in
    let few : length ps ≤ 256 = c.self.invariant.few in
    omega arith

pub overflow_add-self : goal.overflow_add-self
overflow_add-self g c =
    let ps : Sheets g.row.T.Denot = c.self.inside.pages.items in
    let n : ℕ = c.args.number in
    let used : is_some (look ps n) ≡ true = ap is_some (sym (get-values ps n)) ∙ ap (λ (v : PagesView g.row.T.Denot). map.contains_key v.values n) c.self.view_is ∙ c.requires in
    let within : n % 256 < length (page_at ps (n / 256)) = used_made ps n used in
    let listed : n / 256 < length ps = in_list ps (n / 256) (omega arith) in
    let few : c.self.inside.front_free ≤ 65536 = few-front ps c.self.inside.full.words c.self.inside.len c.self.inside.front c.self.inside.front_free c.self.inside.room c.self.invariant n within in
    let one : c.from.result ≤ 1 = byte-few c.from.result (ltb (n / 256) c.self.inside.front) c.from.ensures in
    omega arith

pub overflow_sub-self : goal.overflow_sub-self
overflow_sub-self g c =
    let ps : Sheets g.row.T.Denot = c.self.inside.pages.items in
    let n : ℕ = c.args.number in
    let used : is_some (look ps n) ≡ true = ap is_some (sym (get-values ps n)) ∙ ap (λ (v : PagesView g.row.T.Denot). map.contains_key v.values n) c.self.view_is ∙ c.requires in
    let within : n % 256 < length (page_at ps (n / 256)) = used_made ps n used in
    let listed : n / 256 < length ps = in_list ps (n / 256) (omega arith) in
    some-counted ps c.self.inside.full.words c.self.inside.len c.self.inside.front c.self.inside.front_free c.self.inside.room c.self.invariant n within used

pub invariant_of-self : goal.invariant_of-self
invariant_of-self g c =
    let ps : Sheets g.row.T.Denot = c.self.inside.pages.items in
    let n : ℕ = c.args.number in
    let used : is_some (look ps n) ≡ true = ap is_some (sym (get-values ps n)) ∙ ap (λ (v : PagesView g.row.T.Denot). map.contains_key v.values n) c.self.view_is ∙ c.requires in
    let within : n % 256 < length (page_at ps (n / 256)) = used_made ps n used in
    let listed : n / 256 < length ps = in_list ps (n / 256) (omega arith) in
    let held : c.index_mut.result.now ≡ page_at ps (n / 256) = held-at ps (n / 256) c.index_mut.result.now listed c.index_mut.ensures.value in
    let page : c.clear.new.self ≡ set (page_at ps (n / 256)) (n % 256) None = c.clear.ensures ∙ ap (λ (l : List (Option g.row.T.Denot)). set l (n % 256) None) held in
    let pages : set ps (n / 256) c.clear.new.self ≡ with_slot ps n None = ap (set ps (n / 256)) page in
    let positive : 0 < n = positive-used ps c.self.inside.full.words c.self.inside.len c.self.inside.front c.self.inside.front_free c.self.inside.room c.self.invariant n used in
    let lost : c.from.result ≡ lost-in (n / 256) c.self.inside.front = c.from.ensures ∙ byte-is (ltb (n / 256) c.self.inside.front) in
    subst (λ (l : Sheets g.row.T.Denot). IsSound l c.remove.new.self.words (c.self.inside.len - 1) c.self.inside.front (c.self.inside.front_free + c.from.result) c.self.inside.room) (sym pages)
    (subst (λ k. IsSound (with_slot ps n None) c.remove.new.self.words (c.self.inside.len - 1) c.self.inside.front (c.self.inside.front_free + k) c.self.inside.room) (sym lost)
    (sound-out ps c.self.inside.full.words c.self.inside.len c.self.inside.front c.self.inside.front_free c.self.inside.room c.self.invariant n within c.remove.new.self.words positive used c.remove.ensures))

pub returns : goal.returns
returns g c =
    let ps : Sheets g.row.T.Denot = c.self.inside.pages.items in
    let n : ℕ = c.args.number in
    let used : is_some (look ps n) ≡ true = ap is_some (sym (get-values ps n)) ∙ ap (λ (v : PagesView g.row.T.Denot). map.contains_key v.values n) c.self.view_is ∙ c.requires in
    let within : n % 256 < length (page_at ps (n / 256)) = used_made ps n used in
    let listed : n / 256 < length ps = in_list ps (n / 256) (omega arith) in
    let held : c.index_mut.result.now ≡ page_at ps (n / 256) = held-at ps (n / 256) c.index_mut.result.now listed c.index_mut.ensures.value in
    let page : c.clear.new.self ≡ set (page_at ps (n / 256)) (n % 256) None = c.clear.ensures ∙ ap (λ (l : List (Option g.row.T.Denot)). set l (n % 256) None) held in
    let pages : set ps (n / 256) c.clear.new.self ≡ with_slot ps n None = ap (set ps (n / 256)) page in
    same-view (values_of (set ps (n / 256) c.clear.new.self)) (map.remove (values_of ps) n) c.self.inside.room c.self.inside.room (made_of (set ps (n / 256) c.clear.new.self)) (made_of ps)
    (ap values_of pages ∙ values-out ps (with_slot ps n None) n (look-kept ps n None within) (look-written ps n None within))
    refl
    (ap made_of pages ∙ made-kept ps n None within)
    ∙ ap (λ (v : PagesView g.row.T.Denot). let w : PagesView g.row.T.Denot = record { values = map.remove v.values n; room = v.room; made = v.made } in w) c.self.view_is
