use Rattle.std.proofs.Common.{◌≡◌, ◌==◌, ◌+◌, ◌-◌, ◌/◌, ◌%◌, ◌<◌, ◌≤◌, ltb, length, vec_len, get_or, set, Option, Some, None, List, ap, sym, ◌∙◌, subst, ℕ, arith}
use Rattle.std.specs.FinMap as map
use Rattle.name_space_base.specs.Page.{used_in}
use Rattle.name_space_base.specs.Pages.{PagesView, HasPlace}
use Rattle.name_space_base.specs.Sound.{page_at, look, values_of, made_of, skipped, taken, IsSound}
use Rattle.name_space_base.proofs.Laid.{Sheets, get-values, held-at, in_list, with_slot, look-kept, look-written, made-kept, values-put, same-view}
use Rattle.name_space_base.proofs.Held.{place-within, byte-is, lost-in}
use Rattle.name_space_base.proofs.Changed.{sound-put, not-marked, taken-written, bound-kept, positive-front, few-values}
use Rattle.name_space_base.proofs.Pages.insert.Goals as goal

pub index_mut-held-requires : goal.index_mut-held-requires
index_mut-held-requires g c =
    let ps : Sheets g.row.T.Denot = c.self.inside.pages.items in
    let n : ℕ = c.args.number in
    let place : HasPlace record { values = values_of ps; room = c.self.inside.room; made = made_of ps } n = subst (λ (v : PagesView g.row.T.Denot). HasPlace v n) (sym c.self.view_is) c.requires.place in
    let within : n % 256 < length (page_at ps (n / 256)) = place-within ps c.self.inside.full.words c.self.inside.len c.self.inside.front c.self.inside.front_free c.self.inside.room c.self.invariant n c.requires.small place in
    let listed : n / 256 < length ps = in_list ps (n / 256) (omega arith) in
    let long : vec_len c.self.inside.pages ≡ length ps = c.self.inside.pages.ok.0 in
    omega arith

pub put-requires-clause-made : goal.put-requires-clause-made
put-requires-clause-made g c =
    let ps : Sheets g.row.T.Denot = c.self.inside.pages.items in
    let n : ℕ = c.args.number in
    let place : HasPlace record { values = values_of ps; room = c.self.inside.room; made = made_of ps } n = subst (λ (v : PagesView g.row.T.Denot). HasPlace v n) (sym c.self.view_is) c.requires.place in
    let within : n % 256 < length (page_at ps (n / 256)) = place-within ps c.self.inside.full.words c.self.inside.len c.self.inside.front c.self.inside.front_free c.self.inside.room c.self.invariant n c.requires.small place in
    let listed : n / 256 < length ps = in_list ps (n / 256) (omega arith) in
    let held : c.index_mut-held.result.now ≡ page_at ps (n / 256) = held-at ps (n / 256) c.index_mut-held.result.now listed c.index_mut-held.ensures.value in
    subst (λ (l : List (Option g.row.T.Denot)). n % 256 < length l) (sym held) within

pub put-requires-clause-free : goal.put-requires-clause-free
put-requires-clause-free g c =
    let ps : Sheets g.row.T.Denot = c.self.inside.pages.items in
    let n : ℕ = c.args.number in
    let place : HasPlace record { values = values_of ps; room = c.self.inside.room; made = made_of ps } n = subst (λ (v : PagesView g.row.T.Denot). HasPlace v n) (sym c.self.view_is) c.requires.place in
    let within : n % 256 < length (page_at ps (n / 256)) = place-within ps c.self.inside.full.words c.self.inside.len c.self.inside.front c.self.inside.front_free c.self.inside.room c.self.invariant n c.requires.small place in
    let listed : n / 256 < length ps = in_list ps (n / 256) (omega arith) in
    let free : look ps n ≡ None = sym (get-values ps n) ∙ ap (λ (v : PagesView g.row.T.Denot). map.get v.values n) c.self.view_is ∙ c.requires.free in
    let held : c.index_mut-held.result.now ≡ page_at ps (n / 256) = held-at ps (n / 256) c.index_mut-held.result.now listed c.index_mut-held.ensures.value in
    ap (λ (l : List (Option g.row.T.Denot)). get_or l (n % 256) None) held ∙ free

pub mark-requires-clause-small : goal.mark-requires-clause-small
mark-requires-clause-small g c = let small : c.args.number < 65536 = c.requires.small in omega arith

pub mark-requires-clause-was_not : goal.mark-requires-clause-was_not
mark-requires-clause-was_not g c =
    let ps : Sheets g.row.T.Denot = c.self.inside.pages.items in
    let n : ℕ = c.args.number in
    let place : HasPlace record { values = values_of ps; room = c.self.inside.room; made = made_of ps } n = subst (λ (v : PagesView g.row.T.Denot). HasPlace v n) (sym c.self.view_is) c.requires.place in
    let within : n % 256 < length (page_at ps (n / 256)) = place-within ps c.self.inside.full.words c.self.inside.len c.self.inside.front c.self.inside.front_free c.self.inside.room c.self.invariant n c.requires.small place in
    let free : look ps n ≡ None = sym (get-values ps n) ∙ ap (λ (v : PagesView g.row.T.Denot). map.get v.values n) c.self.view_is ∙ c.requires.free in
    not-marked ps c.self.inside.full.words c.self.inside.len c.self.inside.front c.self.inside.front_free c.self.inside.room c.self.invariant n within c.args.value c.requires.positive free c.requires.small

pub overflow_sub-self : goal.overflow_sub-self
overflow_sub-self g c =
    let ps : Sheets g.row.T.Denot = c.self.inside.pages.items in
    let n : ℕ = c.args.number in
    let place : HasPlace record { values = values_of ps; room = c.self.inside.room; made = made_of ps } n = subst (λ (v : PagesView g.row.T.Denot). HasPlace v n) (sym c.self.view_is) c.requires.place in
    let within : n % 256 < length (page_at ps (n / 256)) = place-within ps c.self.inside.full.words c.self.inside.len c.self.inside.front c.self.inside.front_free c.self.inside.room c.self.invariant n c.requires.small place in
    let listed : n / 256 < length ps = in_list ps (n / 256) (omega arith) in
    let free : look ps n ≡ None = sym (get-values ps n) ∙ ap (λ (v : PagesView g.row.T.Denot). map.get v.values n) c.self.view_is ∙ c.requires.free in
    let lost : c.from-2.result ≡ lost-in (n / 256) c.self.inside.front = c.from-2.ensures ∙ byte-is (ltb (n / 256) c.self.inside.front) in
    let enough : lost-in (n / 256) c.self.inside.front ≤ c.self.inside.front_free = positive-front ps c.self.inside.full.words c.self.inside.len c.self.inside.front c.self.inside.front_free c.self.inside.room c.self.invariant n within c.args.value c.requires.positive free in
    let k : c.from-2.result ≤ c.self.inside.front_free = omega arith in
    k

pub overflow_add-self : goal.overflow_add-self
overflow_add-self g c =
    let ps : Sheets g.row.T.Denot = c.self.inside.pages.items in
    let n : ℕ = c.args.number in
    let place : HasPlace record { values = values_of ps; room = c.self.inside.room; made = made_of ps } n = subst (λ (v : PagesView g.row.T.Denot). HasPlace v n) (sym c.self.view_is) c.requires.place in
    let within : n % 256 < length (page_at ps (n / 256)) = place-within ps c.self.inside.full.words c.self.inside.len c.self.inside.front c.self.inside.front_free c.self.inside.room c.self.invariant n c.requires.small place in
    let listed : n / 256 < length ps = in_list ps (n / 256) (omega arith) in
    let few : c.self.inside.len ≤ 65536 = few-values ps c.self.inside.full.words c.self.inside.len c.self.inside.front c.self.inside.front_free c.self.inside.room c.self.invariant n within in
    omega arith

pub overflow_add-is_full : goal.overflow_add-is_full
overflow_add-is_full g c =
    let ps : Sheets g.row.T.Denot = c.self.inside.pages.items in
    let n : ℕ = c.args.number in
    let place : HasPlace record { values = values_of ps; room = c.self.inside.room; made = made_of ps } n = subst (λ (v : PagesView g.row.T.Denot). HasPlace v n) (sym c.self.view_is) c.requires.place in
    let within : n % 256 < length (page_at ps (n / 256)) = place-within ps c.self.inside.full.words c.self.inside.len c.self.inside.front c.self.inside.front_free c.self.inside.room c.self.invariant n c.requires.small place in
    let listed : n / 256 < length ps = in_list ps (n / 256) (omega arith) in
    let free : look ps n ≡ None = sym (get-values ps n) ∙ ap (λ (v : PagesView g.row.T.Denot). map.get v.values n) c.self.view_is ∙ c.requires.free in
    let held : c.index_mut-held.result.now ≡ page_at ps (n / 256) = held-at ps (n / 256) c.index_mut-held.result.now listed c.index_mut-held.ensures.value in
    let page : c.put.new.self ≡ set (page_at ps (n / 256)) (n % 256) (Some c.args.value) = c.put.ensures ∙ ap (λ (l : List (Option g.row.T.Denot)). set l (n % 256) (Some c.args.value)) held in
    let pages : set ps (n / 256) c.put.new.self ≡ with_slot ps n (Some c.args.value) = ap (set ps (n / 256)) page in
    let used : c.len.result ≡ used_in (set (page_at ps (n / 256)) (n % 256) (Some c.args.value)) = c.len.ensures ∙ ap used_in page in
    let skip : c.from.result ≡ skipped (n / 256) = c.from.ensures ∙ byte-is (n / 256 == 0) in
    let written : taken (with_slot ps n (Some c.args.value)) (n / 256) ≡ used_in (set (page_at ps (n / 256)) (n % 256) (Some c.args.value)) + skipped (n / 256) = taken-written ps c.self.inside.full.words c.self.inside.len c.self.inside.front c.self.inside.front_free c.self.inside.room c.self.invariant n within (Some c.args.value) in
    let bound : taken (with_slot ps n (Some c.args.value)) (n / 256) ≤ 256 = bound-kept ps c.self.inside.full.words c.self.inside.len c.self.inside.front c.self.inside.front_free c.self.inside.room c.self.invariant n within (Some c.args.value) c.requires.positive in
    let count : c.len.result + c.from.result ≤ 256 = omega arith in
    omega arith

pub invariant_of-self : goal.invariant_of-self
invariant_of-self g c =
    let ps : Sheets g.row.T.Denot = c.self.inside.pages.items in
    let n : ℕ = c.args.number in
    let place : HasPlace record { values = values_of ps; room = c.self.inside.room; made = made_of ps } n = subst (λ (v : PagesView g.row.T.Denot). HasPlace v n) (sym c.self.view_is) c.requires.place in
    let within : n % 256 < length (page_at ps (n / 256)) = place-within ps c.self.inside.full.words c.self.inside.len c.self.inside.front c.self.inside.front_free c.self.inside.room c.self.invariant n c.requires.small place in
    let listed : n / 256 < length ps = in_list ps (n / 256) (omega arith) in
    let free : look ps n ≡ None = sym (get-values ps n) ∙ ap (λ (v : PagesView g.row.T.Denot). map.get v.values n) c.self.view_is ∙ c.requires.free in
    let held : c.index_mut-held.result.now ≡ page_at ps (n / 256) = held-at ps (n / 256) c.index_mut-held.result.now listed c.index_mut-held.ensures.value in
    let page : c.put.new.self ≡ set (page_at ps (n / 256)) (n % 256) (Some c.args.value) = c.put.ensures ∙ ap (λ (l : List (Option g.row.T.Denot)). set l (n % 256) (Some c.args.value)) held in
    let pages : set ps (n / 256) c.put.new.self ≡ with_slot ps n (Some c.args.value) = ap (set ps (n / 256)) page in
    let lost : c.from-2.result ≡ lost-in (n / 256) c.self.inside.front = c.from-2.ensures ∙ byte-is (ltb (n / 256) c.self.inside.front) in
    let used : c.len.result ≡ used_in (set (page_at ps (n / 256)) (n % 256) (Some c.args.value)) = c.len.ensures ∙ ap used_in page in
    let skip : c.from.result ≡ skipped (n / 256) = c.from.ensures ∙ byte-is (n / 256 == 0) in
    let written : taken (with_slot ps n (Some c.args.value)) (n / 256) ≡ used_in (set (page_at ps (n / 256)) (n % 256) (Some c.args.value)) + skipped (n / 256) = taken-written ps c.self.inside.full.words c.self.inside.len c.self.inside.front c.self.inside.front_free c.self.inside.room c.self.invariant n within (Some c.args.value) in
    let count : c.len.result + c.from.result ≡ taken (with_slot ps n (Some c.args.value)) (n / 256) = omega arith in
    let sound : IsSound (with_slot ps n (Some c.args.value)) c.mark.new.full.words (c.self.inside.len + 1) c.self.inside.front (c.self.inside.front_free - lost-in (n / 256) c.self.inside.front) (c.self.inside.room - 1) =
    sound-put ps c.self.inside.full.words c.self.inside.len c.self.inside.front c.self.inside.front_free c.self.inside.room c.self.invariant n within c.args.value c.mark.new.full.words (c.len.result + c.from.result == 256) c.requires.positive free c.mark.ensures (ap (λ t. t == 256) count) in
    subst (λ (l : Sheets g.row.T.Denot). IsSound l c.mark.new.full.words (c.self.inside.len + 1) c.self.inside.front (c.self.inside.front_free - c.from-2.result) c.saturating_sub-self-inside.result) (sym pages)
    (subst (λ k. IsSound (with_slot ps n (Some c.args.value)) c.mark.new.full.words (c.self.inside.len + 1) c.self.inside.front (c.self.inside.front_free - k) c.saturating_sub-self-inside.result) (sym lost)
    (subst (λ k. IsSound (with_slot ps n (Some c.args.value)) c.mark.new.full.words (c.self.inside.len + 1) c.self.inside.front (c.self.inside.front_free - lost-in (n / 256) c.self.inside.front) k) (sym c.saturating_sub-self-inside.ensures) sound))

pub returns : goal.returns
returns g c =
    let ps : Sheets g.row.T.Denot = c.self.inside.pages.items in
    let n : ℕ = c.args.number in
    let place : HasPlace record { values = values_of ps; room = c.self.inside.room; made = made_of ps } n = subst (λ (v : PagesView g.row.T.Denot). HasPlace v n) (sym c.self.view_is) c.requires.place in
    let within : n % 256 < length (page_at ps (n / 256)) = place-within ps c.self.inside.full.words c.self.inside.len c.self.inside.front c.self.inside.front_free c.self.inside.room c.self.invariant n c.requires.small place in
    let listed : n / 256 < length ps = in_list ps (n / 256) (omega arith) in
    let free : look ps n ≡ None = sym (get-values ps n) ∙ ap (λ (v : PagesView g.row.T.Denot). map.get v.values n) c.self.view_is ∙ c.requires.free in
    let held : c.index_mut-held.result.now ≡ page_at ps (n / 256) = held-at ps (n / 256) c.index_mut-held.result.now listed c.index_mut-held.ensures.value in
    let page : c.put.new.self ≡ set (page_at ps (n / 256)) (n % 256) (Some c.args.value) = c.put.ensures ∙ ap (λ (l : List (Option g.row.T.Denot)). set l (n % 256) (Some c.args.value)) held in
    let pages : set ps (n / 256) c.put.new.self ≡ with_slot ps n (Some c.args.value) = ap (set ps (n / 256)) page in
    same-view (values_of (set ps (n / 256) c.put.new.self)) (map.insert (values_of ps) n c.args.value) c.saturating_sub-self-inside.result (c.self.inside.room - 1) (made_of (set ps (n / 256) c.put.new.self)) (made_of ps)
    (ap values_of pages ∙ values-put ps (with_slot ps n (Some c.args.value)) n c.args.value (look-kept ps n (Some c.args.value) within) (look-written ps n (Some c.args.value) within))
    c.saturating_sub-self-inside.ensures
    (ap made_of pages ∙ made-kept ps n (Some c.args.value) within)
    ∙ ap (λ (v : PagesView g.row.T.Denot). let w : PagesView g.row.T.Denot = record { values = map.insert v.values n c.args.value; room = v.room - 1; made = v.made } in w) c.self.view_is
