use Rattle.std.proofs.Common.{◌≡◌, Some, None, is_some, ap, sym, subst, ◌∙◌, refl, [], ◌∷◌, ◌++◌, arith, Contains}
use Rattle.std.specs.FinMap as map
use Rattle.slab.specs.Slab.{with_value}
use Rattle.member_lists.specs.Lists.{list_of}
use Rattle.shared_lists.specs.Shared.{SharedView, entered, with_further}
use Rattle.port_base.specs.declared.Membership.TheVariants.{Alone, Several}
use Rattle.port_base.specs.declared.Record.{Record}
use Rattle.port_base.specs.Memberships.{first_of}
use Rattle.port_base.specs.Turns.{has_some}
use Rattle.port.specs.Ports.{sets_in}
use Rattle.port.proofs.Grown.{widened}
use Rattle.port.proofs.Membered.{apart_there, first_there}
use Rattle.port.proofs.Placed.{placed_as, kept-placed, view-placed, entered-moves, entered-sets, further-moves, further-sets, apart_from, stands_in, some_sets}
use Rattle.port.proofs.Readied.{on_err}
use Rattle.port.proofs.Sound.{all_are, places_are, bare_is, opened, record_at, live_at, counts_is, rights-set}
use Rattle.port.proofs.Ports.enter.Goals as goal

pub key_at-key-requires : goal.key_at-key-requires
key_at-key-requires g c = ap is_some (live_at (opened c.self.invariant (bare_is c.self.view_is)) c.args.port c.requires.live).1

pub enter-requires-clause-apart : goal.enter-requires-clause-apart
enter-requires-clause-apart g c =
    let o = opened c.self.invariant (bare_is c.self.view_is) in
    let found : map.get c.self.inside.by_id.map c.args.port ≡ Some c.key_at-key.result = c.key_at-key.ensures in
    let there = record_at o c.args.port c.key_at-key.result found in
    let r : Record g.row.M.Denot = there.0 in
    let none : first_of r.kept.membership ≡ None = ap first_of (sym (c.member_at.ensures r there.1)) ∙ sym c.first.ensures ∙ c.in-None.is in
    apart_there c.self.inside.sets c.key_at-key.result r.kept.membership (c.self.invariant.membered.home c.key_at-key.result r there.1) none

pub invariant_of-self : goal.invariant_of-self
invariant_of-self g c =
    let o = opened c.self.invariant (bare_is c.self.view_is) in
    let found : map.get c.self.inside.by_id.map c.args.port ≡ Some c.key_at-key.result = c.key_at-key.ensures in
    let there = record_at o c.args.port c.key_at-key.result found in
    let r : Record g.row.M.Denot = there.0 in
    let ready_is : c.has_messages-is_ready.result ≡ has_some r.queue = c.has_messages-is_ready.ensures r there.1 in
    let none : first_of r.kept.membership ≡ None = ap first_of (sym (c.member_at.ensures r there.1)) ∙ sym c.first.ensures ∙ c.in-None.is in
    let is : c.enter.new.self ≡ entered c.self.inside.sets c.args.set c.key_at-key.result (has_some r.queue) = c.enter.ensures ∙ ap (λ n. entered c.self.inside.sets n c.key_at-key.result c.has_messages-is_ready.result) c.number.ensures ∙ ap (entered c.self.inside.sets c.args.set c.key_at-key.result) ready_is in
    let set_is : c.place_at.new.records ≡ with_value c.self.inside.records c.key_at-key.result (placed_as r (Alone c.args.set)) = c.place_at.ensures r there.1 ∙ ap (λ n. with_value c.self.inside.records c.key_at-key.result (placed_as r (Alone n))) c.number-in-None.ensures in
    kept-placed o c.args.port c.key_at-key.result r found there.1 c.enter.new.self (Alone c.args.set) c.place_at.new.records set_is (entered-moves o c.args.port c.key_at-key.result r found there.1 c.enter.new.self c.args.set none is)

pub returns-in-None-clause-ok : goal.returns-in-None-clause-ok
returns-in-None-clause-ok g c p h =
    let o = opened c.self.invariant (bare_is c.self.view_is) in
    let found : map.get c.self.inside.by_id.map c.args.port ≡ Some c.key_at-key.result = c.key_at-key.ensures in
    let there = record_at o c.args.port c.key_at-key.result found in
    let r : Record g.row.M.Denot = there.0 in
    let ready_is : c.has_messages-is_ready.result ≡ has_some r.queue = c.has_messages-is_ready.ensures r there.1 in
    let none : first_of r.kept.membership ≡ None = ap first_of (sym (c.member_at.ensures r there.1)) ∙ sym c.first.ensures ∙ c.in-None.is in
    let is : c.enter.new.self ≡ entered c.self.inside.sets c.args.set c.key_at-key.result (has_some r.queue) = c.enter.ensures ∙ ap (λ n. entered c.self.inside.sets n c.key_at-key.result c.has_messages-is_ready.result) c.number.ensures ∙ ap (entered c.self.inside.sets c.args.set c.key_at-key.result) ready_is in
    let set_is : c.place_at.new.records ≡ with_value c.self.inside.records c.key_at-key.result (placed_as r (Alone c.args.set)) = c.place_at.ensures r there.1 ∙ ap (λ n. with_value c.self.inside.records c.key_at-key.result (placed_as r (Alone n))) c.number-in-None.ensures in
    view-placed o c.args.port c.key_at-key.result r found there.1 c.enter.new.self (Alone c.args.set) c.place_at.new.records set_is (entered-moves o c.args.port c.key_at-key.result r found there.1 c.enter.new.self c.args.set none is) p h (sets_in p ++ c.args.set ∷ []) (entered-sets o c.args.port c.key_at-key.result r found there.1 c.enter.new.self c.args.set none is p h)

pub enter_further-requires-clause-several : goal.enter_further-requires-clause-several
enter_further-requires-clause-several g c =
    ap (λ (u : SharedView). u.several) c.reserve_further.ensures.rest_kept ∙ c.in_ok-reserve_further-in-Some.ensures.several

pub enter_further-requires-clause-elsewhere : goal.enter_further-requires-clause-elsewhere
enter_further-requires-clause-elsewhere g c =
    let o = opened c.self.invariant (bare_is c.self.view_is) in
    let found : map.get c.self.inside.by_id.map c.args.port ≡ Some c.key_at-key.result = c.key_at-key.ensures in
    let there = record_at o c.args.port c.key_at-key.result found in
    let r : Record g.row.M.Denot = there.0 in
    let some : first_of r.kept.membership ≡ Some c.in-Some.first = ap first_of (sym (c.member_at.ensures r there.1)) ∙ sym c.first.ensures ∙ c.in-Some.is in
    let o2 = widened {t = c.self.inside.records} o refl refl c.reserve_further.new.self.all.items c.reserve_further.new.self.all.items c.reserve_further.new.self.room c.reserve_further.ensures.rest_kept c.reserve_further.ensures.items c.self.inside.waiting.items refl (omega arith) c.self.inside.noted.items refl (omega arith) in
    (c.in-Some.first, first_there c.reserve_further.new.self c.key_at-key.result r.kept.membership c.in-Some.first some (o2.kept.membered.home c.key_at-key.result r there.1))

pub enter_further-requires-clause-apart : goal.enter_further-requires-clause-apart
enter_further-requires-clause-apart g c =
    let o = opened c.self.invariant (bare_is c.self.view_is) in
    let found : map.get c.self.inside.by_id.map c.args.port ≡ Some c.key_at-key.result = c.key_at-key.ensures in
    let there = record_at o c.args.port c.key_at-key.result found in
    let r : Record g.row.M.Denot = there.0 in
    let o2 = widened {t = c.self.inside.records} o refl refl c.reserve_further.new.self.all.items c.reserve_further.new.self.all.items c.reserve_further.new.self.room c.reserve_further.ensures.rest_kept c.reserve_further.ensures.items c.self.inside.waiting.items refl (omega arith) c.self.inside.noted.items refl (omega arith) in
    λ inside. c.requires.apart (stands_in o2 c.args.port c.key_at-key.result r found there.1 c.args.set (subst (λ n. Contains (list_of c.reserve_further.new.self.all n) c.key_at-key.result) c.number-in-Some.ensures inside))

pub invariant_of-self-in_err-reserve_further-in-Some : goal.invariant_of-self-in_err-reserve_further-in-Some
invariant_of-self-in_err-reserve_further-in-Some g c =
    let o = opened c.self.invariant (bare_is c.self.view_is) in
    let found : map.get c.self.inside.by_id.map c.args.port ≡ Some c.key_at-key.result = c.key_at-key.ensures in
    let there = record_at o c.args.port c.key_at-key.result found in
    let r : Record g.row.M.Denot = there.0 in
    let o2 = widened {t = c.self.inside.records} o refl refl c.reserve_further.new.self.all.items c.reserve_further.new.self.all.items c.reserve_further.new.self.room c.reserve_further.ensures.rest_kept c.reserve_further.ensures.items c.self.inside.waiting.items refl (omega arith) c.self.inside.noted.items refl (omega arith) in
    o2.kept

pub returns-in_err-reserve_further-in-Some-clause-further : goal.returns-in_err-reserve_further-in-Some-clause-further
returns-in_err-reserve_further-in-Some-clause-further g c p h =
    let o = opened c.self.invariant (bare_is c.self.view_is) in
    let found : map.get c.self.inside.by_id.map c.args.port ≡ Some c.key_at-key.result = c.key_at-key.ensures in
    let there = record_at o c.args.port c.key_at-key.result found in
    let r : Record g.row.M.Denot = there.0 in
    let some : first_of r.kept.membership ≡ Some c.in-Some.first = ap first_of (sym (c.member_at.ensures r there.1)) ∙ sym c.first.ensures ∙ c.in-Some.is in
    on_err _ _ (some_sets o c.args.port c.key_at-key.result r found there.1 c.in-Some.first some p h)

pub invariant_of-self-in-Some : goal.invariant_of-self-in-Some
invariant_of-self-in-Some g c =
    let o = opened c.self.invariant (bare_is c.self.view_is) in
    let found : map.get c.self.inside.by_id.map c.args.port ≡ Some c.key_at-key.result = c.key_at-key.ensures in
    let there = record_at o c.args.port c.key_at-key.result found in
    let r : Record g.row.M.Denot = there.0 in
    let ready_is : c.has_messages-is_ready.result ≡ has_some r.queue = c.has_messages-is_ready.ensures r there.1 in
    let some : first_of r.kept.membership ≡ Some c.in-Some.first = ap first_of (sym (c.member_at.ensures r there.1)) ∙ sym c.first.ensures ∙ c.in-Some.is in
    let o2 = widened {t = c.self.inside.records} o refl refl c.reserve_further.new.self.all.items c.reserve_further.new.self.all.items c.reserve_further.new.self.room c.reserve_further.ensures.rest_kept c.reserve_further.ensures.items c.self.inside.waiting.items refl (omega arith) c.self.inside.noted.items refl (omega arith) in
    let is : c.enter_further.new.self ≡ with_further (entered c.reserve_further.new.self c.args.set c.key_at-key.result (has_some r.queue)) c.args.set c.key_at-key.result =
    c.enter_further.ensures ∙ ap (λ n. with_further (entered c.reserve_further.new.self n c.key_at-key.result c.has_messages-is_ready.result) n c.key_at-key.result) c.number-in-Some.ensures ∙ ap (λ b. with_further (entered c.reserve_further.new.self c.args.set c.key_at-key.result b) c.args.set c.key_at-key.result) ready_is in
    let apart = apart_from o2 c.args.port c.key_at-key.result r found there.1 c.args.set c.requires.apart in
    kept-placed o2 c.args.port c.key_at-key.result r found there.1 c.enter_further.new.self (Several c.in-Some.first) c.place_at-in-Some.new.records (c.place_at-in-Some.ensures r there.1) (further-moves o2 c.args.port c.key_at-key.result r found there.1 c.enter_further.new.self c.in-Some.first c.args.set some apart is)

pub returns-in_ok-reserve_further-in-Some-clause-ok : goal.returns-in_ok-reserve_further-in-Some-clause-ok
returns-in_ok-reserve_further-in-Some-clause-ok g c p h =
    let o = opened c.self.invariant (bare_is c.self.view_is) in
    let found : map.get c.self.inside.by_id.map c.args.port ≡ Some c.key_at-key.result = c.key_at-key.ensures in
    let there = record_at o c.args.port c.key_at-key.result found in
    let r : Record g.row.M.Denot = there.0 in
    let ready_is : c.has_messages-is_ready.result ≡ has_some r.queue = c.has_messages-is_ready.ensures r there.1 in
    let some : first_of r.kept.membership ≡ Some c.in-Some.first = ap first_of (sym (c.member_at.ensures r there.1)) ∙ sym c.first.ensures ∙ c.in-Some.is in
    let o2 = widened {t = c.self.inside.records} o refl refl c.reserve_further.new.self.all.items c.reserve_further.new.self.all.items c.reserve_further.new.self.room c.reserve_further.ensures.rest_kept c.reserve_further.ensures.items c.self.inside.waiting.items refl (omega arith) c.self.inside.noted.items refl (omega arith) in
    let is : c.enter_further.new.self ≡ with_further (entered c.reserve_further.new.self c.args.set c.key_at-key.result (has_some r.queue)) c.args.set c.key_at-key.result =
    c.enter_further.ensures ∙ ap (λ n. with_further (entered c.reserve_further.new.self n c.key_at-key.result c.has_messages-is_ready.result) n c.key_at-key.result) c.number-in-Some.ensures ∙ ap (λ b. with_further (entered c.reserve_further.new.self c.args.set c.key_at-key.result b) c.args.set c.key_at-key.result) ready_is in
    let apart = apart_from o2 c.args.port c.key_at-key.result r found there.1 c.args.set c.requires.apart in
    view-placed o2 c.args.port c.key_at-key.result r found there.1 c.enter_further.new.self (Several c.in-Some.first) c.place_at-in-Some.new.records (c.place_at-in-Some.ensures r there.1) (further-moves o2 c.args.port c.key_at-key.result r found there.1 c.enter_further.new.self c.in-Some.first c.args.set some apart is) p h (sets_in p ++ c.args.set ∷ []) (further-sets o2 c.args.port c.key_at-key.result r found there.1 c.enter_further.new.self c.in-Some.first c.args.set some is p h)

pub returns-in-None-clause-counts : goal.returns-in-None-clause-counts
returns-in-None-clause-counts g c =
    let o = opened c.self.invariant (bare_is c.self.view_is) in
    let found : map.get c.self.inside.by_id.map c.args.port ≡ Some c.key_at-key.result = c.key_at-key.ensures in
    let there = record_at o c.args.port c.key_at-key.result found in
    let r : Record g.row.M.Denot = there.0 in
    rights-set c.self.inside.records c.key_at-key.result r _ there.1 (c.place_at.ensures r there.1) refl c.self.inside.by_id.map ∙ counts_is c.self.view_is

pub returns-in_ok-reserve_further-in-Some-clause-counts : goal.returns-in_ok-reserve_further-in-Some-clause-counts
returns-in_ok-reserve_further-in-Some-clause-counts g c =
    let o = opened c.self.invariant (bare_is c.self.view_is) in
    let found : map.get c.self.inside.by_id.map c.args.port ≡ Some c.key_at-key.result = c.key_at-key.ensures in
    let there = record_at o c.args.port c.key_at-key.result found in
    let r : Record g.row.M.Denot = there.0 in
    rights-set c.self.inside.records c.key_at-key.result r _ there.1 (c.place_at-in-Some.ensures r there.1) refl c.self.inside.by_id.map ∙ counts_is c.self.view_is

pub returns-in_err-reserve_further-in-Some-clause-err : goal.returns-in_err-reserve_further-in-Some-clause-err
returns-in_err-reserve_further-in-Some-clause-err g c =
    let o = opened c.self.invariant (bare_is c.self.view_is) in
    let found : map.get c.self.inside.by_id.map c.args.port ≡ Some c.key_at-key.result = c.key_at-key.ensures in
    let there = record_at o c.args.port c.key_at-key.result found in
    let r : Record g.row.M.Denot = there.0 in
    let o2 = widened {t = c.self.inside.records} o refl refl c.reserve_further.new.self.all.items c.reserve_further.new.self.all.items c.reserve_further.new.self.room c.reserve_further.ensures.rest_kept c.reserve_further.ensures.items c.self.inside.waiting.items refl (omega arith) c.self.inside.noted.items refl (omega arith) in
    on_err _ _ (all_are o2.view_is (counts_is c.self.view_is) (places_are c.self.view_is))
