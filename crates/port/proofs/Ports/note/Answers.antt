use Rattle.std.proofs.Common.{◌≡◌, true, ℕ, List, Some, None, is_some, ap, sym, subst, ◌∙◌, refl, ◌∷◌, ◌++◌, [], Contains}
use Rattle.std.specs.FinMap as map
use Rattle.port_base.specs.declared.Record.{Record}
use Rattle.shared_lists.specs.Shared.{more_of}
use Rattle.slab.specs.Slab.{get}
use Rattle.port_base.specs.Ready.{StandsIn}
use Rattle.port_base.specs.Records.{noted_list, noting_list}
use Rattle.port.specs.Records.{ids_in, made_of}
use Rattle.port.proofs.Changed.{change, still, kept-noted, view-noted}
use Rattle.port.proofs.Keys.{some_or_none}
use Rattle.port.proofs.Records.{port_of}
use Rattle.port.proofs.Sound.{bare_is, no_true, opened, record_at, live_port, gone_port, counts_is, rights-set}
use Rattle.port.proofs.Turned.{its_id}
use Rattle.port.proofs.Waiting.{noted_now, ids-joined, in-listed, listed-in, none_told_by, some_told_by}
use Rattle.port.proofs.Ports.note.Goals as goal

pub returns-in_default-clause-fresh : goal.returns-in_default-clause-fresh
returns-in_default-clause-fresh g c live not =
    absurd (no_true (sym (ap is_some (gone_port (opened c.self.invariant (bare_is c.self.view_is)) c.args.port (sym c.in_default.ensures))) ∙ live))

pub join_two-requires-clause-apart : goal.join_two-requires-clause-apart
join_two-requires-clause-apart g c =
    let o = opened c.self.invariant (bare_is c.self.view_is) in
    let found : map.get c.self.inside.by_id.map c.args.port ≡ Some c.in-Some.key = sym c.in-Some.ensures in
    let there = record_at o c.args.port c.in-Some.key found in
    let r : Record g.row.M.Denot = there.0 in
    let none : noting_list r ≡ None = sym (c.noted_at-was.ensures r there.1) ∙ none_told_by c.noted_at-was.result c.if-is_none.ensures in
    subst (λ o. StandsIn c.self.inside.noted c.in-Some.key o) none (c.self.invariant.are_noted.stands c.in-Some.key r there.1)

pub invariant_of-self : goal.invariant_of-self
invariant_of-self g c =
    let o = opened c.self.invariant (bare_is c.self.view_is) in
    let found : map.get c.self.inside.by_id.map c.args.port ≡ Some c.in-Some.key = sym c.in-Some.ensures in
    let there = record_at o c.args.port c.in-Some.key found in
    let r : Record g.row.M.Denot = there.0 in
    let ch = change o c.args.port c.in-Some.key r (record r { kept = record r.kept { is_noted = true } }) found there.1 refl (c.note_at.ensures r there.1) in
    kept-noted ch (c.self.invariant.membered.first c.in-Some.key r there.1) (still ch refl refl refl) refl refl c.join_two.new.lists c.join_two.ensures.moved

pub returns-then-is_none-clause-fresh : goal.returns-then-is_none-clause-fresh
returns-then-is_none-clause-fresh g c live not =
    let o = opened c.self.invariant (bare_is c.self.view_is) in
    let found : map.get c.self.inside.by_id.map c.args.port ≡ Some c.in-Some.key = sym c.in-Some.ensures in
    let there = record_at o c.args.port c.in-Some.key found in
    let r : Record g.row.M.Denot = there.0 in
    let ch = change o c.args.port c.in-Some.key r (record r { kept = record r.kept { is_noted = true } }) found there.1 refl (c.note_at.ensures r there.1) in
    view-noted ch (c.self.invariant.membered.first c.in-Some.key r there.1) (still ch refl refl refl) refl refl c.join_two.new.lists c.join_two.ensures.moved refl (c.args.self.now.bare.noted ++ c.args.port ∷ [])
    (ap (λ w. ids_in (get c.self.inside.records) w noted_list) c.join_two.ensures.joined
    ∙ ids-joined (get c.self.inside.records) c.self.inside.noted c.in-Some.key c.args.port (its_id o c.args.port c.in-Some.key found) noted_list ∙ ap (λ (l : List ℕ). l ++ c.args.port ∷ []) (noted_now o))

pub returns-then-is_none-clause-again : goal.returns-then-is_none-clause-again
returns-then-is_none-clause-again g c inside =
    let o = opened c.self.invariant (bare_is c.self.view_is) in
    let found : map.get c.self.inside.by_id.map c.args.port ≡ Some c.in-Some.key = sym c.in-Some.ensures in
    let there = record_at o c.args.port c.in-Some.key found in
    let r : Record g.row.M.Denot = there.0 in
    let none : noting_list r ≡ None = sym (c.noted_at-was.ensures r there.1) ∙ none_told_by c.noted_at-was.result c.if-is_none.ensures in
    absurd (some_or_none noted_list _ (in-listed (get c.self.inside.records) noting_list c.self.inside.noted c.self.invariant.are_noted c.self.inside.by_id.map (made_of c.self.inside.next) c.self.invariant.sound.indexed c.args.port c.in-Some.key r found there.1 noted_list (subst (λ l. Contains l c.args.port) (sym (noted_now o)) inside)) none)

pub returns-then-is_none-clause-gone : goal.returns-then-is_none-clause-gone
returns-then-is_none-clause-gone g c gone =
    let o = opened c.self.invariant (bare_is c.self.view_is) in
    let found : map.get c.self.inside.by_id.map c.args.port ≡ Some c.in-Some.key = sym c.in-Some.ensures in
    let there = record_at o c.args.port c.in-Some.key found in
    let r : Record g.row.M.Denot = there.0 in
    absurd (some_or_none (port_of r (more_of c.self.inside.sets c.in-Some.key)) _ (live_port o c.args.port c.in-Some.key r found there.1) gone)

pub returns-else-is_none-clause-fresh : goal.returns-else-is_none-clause-fresh
returns-else-is_none-clause-fresh g c live not =
    let o = opened c.self.invariant (bare_is c.self.view_is) in
    let found : map.get c.self.inside.by_id.map c.args.port ≡ Some c.in-Some.key = sym c.in-Some.ensures in
    let there = record_at o c.args.port c.in-Some.key found in
    let r : Record g.row.M.Denot = there.0 in
    let is : noting_list r ≡ Some noted_list = some_told_by r.kept.is_noted (ap is_some (sym (c.noted_at-was.ensures r there.1)) ∙ c.if-is_none.ensures) in
    absurd (not (subst (λ l. Contains l c.args.port) (noted_now o) (listed-in (get c.self.inside.records) noting_list c.self.inside.noted c.self.invariant.are_noted c.self.inside.by_id.map (made_of c.self.inside.next) c.self.invariant.sound.indexed c.args.port c.in-Some.key r found there.1 noted_list is)))

pub returns-then-is_none-clause-counts : goal.returns-then-is_none-clause-counts
returns-then-is_none-clause-counts g c =
    let o = opened c.self.invariant (bare_is c.self.view_is) in
    let found : map.get c.self.inside.by_id.map c.args.port ≡ Some c.in-Some.key = sym c.in-Some.ensures in
    let there = record_at o c.args.port c.in-Some.key found in
    let r : Record g.row.M.Denot = there.0 in
    rights-set c.self.inside.records c.in-Some.key r _ there.1 (c.note_at.ensures r there.1) refl c.self.inside.by_id.map ∙ counts_is c.self.view_is
