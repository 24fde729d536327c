use Rattle.std.proofs.Common.{◌≡◌, ◌==◌, ◌+◌, ◌-◌, ◌<◌, ◌≤◌, ◌*◌, ◌/◌, true, length, ap, sym, ◌∙◌, ℕ, arith}
use Rattle.std.proofs.lemmas.Bool.{false≢true, ltb-true}
use Rattle.std.specs.FinMap as map
use Rattle.std.specs.FinSet as set
use Rattle.name_space_base.specs.Page.{used_in}
use Rattle.name_space_base.specs.Pages.{PagesView}
use Rattle.name_space_base.specs.Sound.{page_at, made_of, skipped, taken, free, IsSound}
use Rattle.name_space_base.proofs.Laid.{Sheets, held-at, in_list, contains-made}
use Rattle.name_space_base.proofs.Held.{taken-bound, byte-is, used-page}
use Rattle.name_space_base.proofs.Growth.{for-err, sound-made, values-made, stays-made, sound-front, few-free, contains-stays}
use Rattle.name_space_base.proofs.Pages.reserve.Goals as goal

pub invariant_of-self : goal.invariant_of-self
invariant_of-self g c =
    let ps : Sheets g.row.T.Denot = c.loop-self.self-inside.pages.items in
    let qs : Sheets g.row.T.Denot = c.make.new.pages.items in
    let front : ℕ = c.loop-self.self-inside.front in
    let sound : IsSound qs c.loop-self.self-inside.full.words c.loop-self.self-inside.len c.loop-self.self-inside.front c.loop-self.self-inside.front_free c.loop-self.self-inside.room =
    sound-made ps qs front c.make.ensures.only c.loop-self.self-inside.full.words c.loop-self.self-inside.len c.loop-self.self-inside.front c.loop-self.self-inside.front_free c.loop-self.self-inside.room c.loop-self.invariant.sound in
    sound

pub returns-in_err-make-clause-values : goal.returns-in_err-make-clause-values
returns-in_err-make-clause-values g c =
    let ps : Sheets g.row.T.Denot = c.loop-self.self-inside.pages.items in
    let qs : Sheets g.row.T.Denot = c.make.new.pages.items in
    let front : ℕ = c.loop-self.self-inside.front in
    values-made ps qs front c.make.ensures.only ∙ c.loop-self.invariant.values ∙ ap (λ (v : PagesView g.row.T.Denot). v.values) c.self.view_is

pub returns-in_err-make-clause-made : goal.returns-in_err-make-clause-made
returns-in_err-make-clause-made g c = λ page h.
    let ps : Sheets g.row.T.Denot = c.loop-self.self-inside.pages.items in
    let qs : Sheets g.row.T.Denot = c.make.new.pages.items in
    let front : ℕ = c.loop-self.self-inside.front in
    contains-stays c.self.inside.pages.items qs (λ q h. let k : 0 < length (page_at ps q) = c.loop-self.invariant.made q h in let e : length (page_at qs q) ≡ length (page_at ps q) = stays-made ps qs front c.make.ensures.only q k in omega arith) page (ap (λ (v : PagesView g.row.T.Denot). set.contains v.made page) c.self.view_is ∙ h)

pub returns-in_err-make-clause-wanted : goal.returns-in_err-make-clause-wanted
returns-in_err-make-clause-wanted g c =
    let before : Sheets g.row.T.Denot = c.self.inside.pages.items in
    let front : ℕ = c.loop-self.self-inside.front in
    let less : front < 256 = c.if-self-lt-MOST_PAGES.true in
    let here : 256 * front / 256 ≡ front = omega arith in
    let unmade : (set.contains (made_of before) front ≡ true → ⊥) = λ has. false≢true (c.in_err-make.ensures.made (c.loop-self.invariant.made front (ltb-true 0 (length (page_at before front)) (sym (contains-made before front) ∙ has)))) in
    for-err c.from_residual.result (
      256 * front,
      omega arith,
      record {
        unmade = λ has. unmade (ap (set.contains (made_of before)) (sym here) ∙ ap (λ (v : PagesView g.row.T.Denot). set.contains v.made (256 * front / 256)) c.self.view_is ∙ has);
        alone = λ n used same. unmade (ap (set.contains (made_of before)) (sym (same ∙ here)) ∙ used-page before n (ap (λ (v : PagesView g.row.T.Denot). map.contains_key v.values n) c.self.view_is ∙ used));
      },
    )

pub overflow_sub-self : goal.overflow_sub-self
overflow_sub-self g c =
    let ps : Sheets g.row.T.Denot = c.loop-self.self-inside.pages.items in
    let qs : Sheets g.row.T.Denot = c.make.new.pages.items in
    let front : ℕ = c.loop-self.self-inside.front in
    let sound : IsSound qs c.loop-self.self-inside.full.words c.loop-self.self-inside.len c.loop-self.self-inside.front c.loop-self.self-inside.front_free c.loop-self.self-inside.room =
    sound-made ps qs front c.make.ensures.only c.loop-self.self-inside.full.words c.loop-self.self-inside.len c.loop-self.self-inside.front c.loop-self.self-inside.front_free c.loop-self.self-inside.room c.loop-self.invariant.sound in
    let some : 0 < length (page_at qs front) = c.in_ok-make.ensures.ok in
    let held : c.index.result.now ≡ page_at qs front = held-at qs front c.index.result.now (in_list qs front some) c.index.ensures in
    let used : c.len.result ≡ used_in (page_at qs front) = c.len.ensures ∙ ap used_in held in
    let bound : taken qs front ≤ 256 = taken-bound qs c.loop-self.self-inside.full.words c.loop-self.self-inside.len c.loop-self.self-inside.front c.loop-self.self-inside.front_free c.loop-self.self-inside.room sound front in
    let k : c.len.result ≤ 256 = omega arith in
    k

pub overflow_sub-self-in-loop-self : goal.overflow_sub-self-in-loop-self
overflow_sub-self-in-loop-self g c =
    let ps : Sheets g.row.T.Denot = c.loop-self.self-inside.pages.items in
    let qs : Sheets g.row.T.Denot = c.make.new.pages.items in
    let front : ℕ = c.loop-self.self-inside.front in
    let sound : IsSound qs c.loop-self.self-inside.full.words c.loop-self.self-inside.len c.loop-self.self-inside.front c.loop-self.self-inside.front_free c.loop-self.self-inside.room =
    sound-made ps qs front c.make.ensures.only c.loop-self.self-inside.full.words c.loop-self.self-inside.len c.loop-self.self-inside.front c.loop-self.self-inside.front_free c.loop-self.self-inside.room c.loop-self.invariant.sound in
    let some : 0 < length (page_at qs front) = c.in_ok-make.ensures.ok in
    let held : c.index.result.now ≡ page_at qs front = held-at qs front c.index.result.now (in_list qs front some) c.index.ensures in
    let used : c.len.result ≡ used_in (page_at qs front) = c.len.ensures ∙ ap used_in held in
    let bound : taken qs front ≤ 256 = taken-bound qs c.loop-self.self-inside.full.words c.loop-self.self-inside.len c.loop-self.self-inside.front c.loop-self.self-inside.front_free c.loop-self.self-inside.room sound front in
    let skip : c.from.result ≡ skipped front = c.from.ensures ∙ byte-is (front == 0) in
    let k : c.from.result ≤ 256 - c.len.result = omega arith in
    k

pub overflow_add-self : goal.overflow_add-self
overflow_add-self g c =
    let ps : Sheets g.row.T.Denot = c.loop-self.self-inside.pages.items in
    let qs : Sheets g.row.T.Denot = c.make.new.pages.items in
    let front : ℕ = c.loop-self.self-inside.front in
    let sound : IsSound qs c.loop-self.self-inside.full.words c.loop-self.self-inside.len c.loop-self.self-inside.front c.loop-self.self-inside.front_free c.loop-self.self-inside.room =
    sound-made ps qs front c.make.ensures.only c.loop-self.self-inside.full.words c.loop-self.self-inside.len c.loop-self.self-inside.front c.loop-self.self-inside.front_free c.loop-self.self-inside.room c.loop-self.invariant.sound in
    let few : c.loop-self.self-inside.front_free ≤ 65536 = few-free qs c.loop-self.self-inside.full.words c.loop-self.self-inside.len c.loop-self.self-inside.front c.loop-self.self-inside.front_free c.loop-self.self-inside.room sound in
    let k : c.loop-self.self-inside.front_free + (256 - c.len.result - c.from.result) ≤ 65792 = omega arith in
    omega arith

pub loop-self-preserved : goal.loop-self-preserved
loop-self-preserved g c =
    let ps : Sheets g.row.T.Denot = c.loop-self.self-inside.pages.items in
    let qs : Sheets g.row.T.Denot = c.make.new.pages.items in
    let front : ℕ = c.loop-self.self-inside.front in
    let sound : IsSound qs c.loop-self.self-inside.full.words c.loop-self.self-inside.len c.loop-self.self-inside.front c.loop-self.self-inside.front_free c.loop-self.self-inside.room =
    sound-made ps qs front c.make.ensures.only c.loop-self.self-inside.full.words c.loop-self.self-inside.len c.loop-self.self-inside.front c.loop-self.self-inside.front_free c.loop-self.self-inside.room c.loop-self.invariant.sound in
    let some : 0 < length (page_at qs front) = c.in_ok-make.ensures.ok in
    let held : c.index.result.now ≡ page_at qs front = held-at qs front c.index.result.now (in_list qs front some) c.index.ensures in
    let used : c.len.result ≡ used_in (page_at qs front) = c.len.ensures ∙ ap used_in held in
    let bound : taken qs front ≤ 256 = taken-bound qs c.loop-self.self-inside.full.words c.loop-self.self-inside.len c.loop-self.self-inside.front c.loop-self.self-inside.front_free c.loop-self.self-inside.room sound front in
    let skip : c.from.result ≡ skipped front = c.from.ensures ∙ byte-is (front == 0) in
    let few : front ≤ 256 = sound.front_few in
    let below : front < 256 = c.if-self-lt-MOST_PAGES.true in
    let count : 256 - c.len.result - c.from.result ≡ free qs front = omega arith in
    record {
      sound = sound-front qs c.loop-self.self-inside.full.words c.loop-self.self-inside.len c.loop-self.self-inside.front c.loop-self.self-inside.front_free c.loop-self.self-inside.room sound (c.loop-self.self-inside.front_free + (256 - c.len.result - c.from.result)) (omega arith) some (ap (λ k. c.loop-self.self-inside.front_free + k) count);
      values = values-made ps qs front c.make.ensures.only ∙ c.loop-self.invariant.values;
      made = λ q h. let k : 0 < length (page_at ps q) = c.loop-self.invariant.made q h in let e : length (page_at qs q) ≡ length (page_at ps q) = stays-made ps qs front c.make.ensures.only q k in omega arith;
      room = c.loop-self.invariant.room;
    }

pub returns-clause-made : goal.returns-clause-made
returns-clause-made g c = λ page h.
    contains-stays c.self.inside.pages.items c.loop-self.self-inside.pages.items c.loop-self.invariant.made page (ap (λ (v : PagesView g.row.T.Denot). set.contains v.made page) c.self.view_is ∙ h)
