use Rattle.std.proofs.Common.{◌≡◌, ℕ, ◌∷◌, IsTrue, nat_eq, Some, sym, subst, ◌∙◌, rules, Contains}
use Rattle.std.specs.FinMap as map
use Rattle.shared_lists.specs.Shared.{more_of}
use Rattle.port_base.specs.declared.Membership.TheVariants.{Nowhere, Alone, Several}
use Rattle.port_base.specs.declared.Record.{Record}
use Rattle.port.proofs.Each.{nothing_in, head_in}
use Rattle.port.proofs.Keys.{some_or_none}
use Rattle.port.proofs.Placed.{told_in, alone_told, several_told}
use Rattle.port.proofs.Sound.{bare_is, no_true, opened, record_at, gone_port}
use Rattle.port.proofs.Ports.is_in.Goals as goal

same_told : (a b : ℕ) → (IsTrue (nat_eq a b) → a ≡ b) × (a ≡ b → IsTrue (nat_eq a b))
same_told a b = (search rules, search rules)

pub returns-in_default : goal.returns-in_default
returns-in_default g c = (λ t. absurd (no_true t), λ i. absurd (some_or_none i.view _ i.there (gone_port (opened c.self.invariant (bare_is c.self.view_is)) c.args.port (sym c.in_default.ensures))))

pub returns-in-Nowhere : goal.returns-in-Nowhere
returns-in-Nowhere g c =
    let o = opened c.self.invariant (bare_is c.self.view_is) in
    let found : map.get c.self.inside.by_id.map c.args.port ≡ Some c.in-Some.key = sym c.in-Some.ensures in
    let there = record_at o c.args.port c.in-Some.key found in
    let r : Record g.row.M.Denot = there.0 in
    let m_is : r.kept.membership ≡ Nowhere = sym (c.member_at.ensures r there.1) ∙ c.in-Nowhere.is in
    (λ t. absurd (no_true t), λ i. absurd (nothing_in c.args.set ((told_in o c.args.port c.in-Some.key r found there.1 Nowhere m_is c.args.set).0 i)))

pub returns-in-Alone : goal.returns-in-Alone
returns-in-Alone g c =
    let o = opened c.self.invariant (bare_is c.self.view_is) in
    let found : map.get c.self.inside.by_id.map c.args.port ≡ Some c.in-Some.key = sym c.in-Some.ensures in
    let there = record_at o c.args.port c.in-Some.key found in
    let r : Record g.row.M.Denot = there.0 in
    let m_is : r.kept.membership ≡ Alone c.in-Alone.only = sym (c.member_at.ensures r there.1) ∙ c.in-Alone.is in
    alone_told o c.args.port c.in-Some.key r found there.1 c.in-Alone.only m_is c.args.set c.number-list.result c.number-list.ensures _ (same_told c.in-Alone.only c.number-list.result).0 (same_told c.in-Alone.only c.number-list.result).1

pub returns-then-first-list : goal.returns-then-first-list
returns-then-first-list g c =
    let o = opened c.self.invariant (bare_is c.self.view_is) in
    let found : map.get c.self.inside.by_id.map c.args.port ≡ Some c.in-Some.key = sym c.in-Some.ensures in
    let there = record_at o c.args.port c.in-Some.key found in
    let r : Record g.row.M.Denot = there.0 in
    let m_is : r.kept.membership ≡ Several c.in-Several.first = sym (c.member_at.ensures r there.1) ∙ c.in-Several.is in
    (λ t. (told_in o c.args.port c.in-Some.key r found there.1 (Several c.in-Several.first) m_is c.args.set).1 (subst (λ k. Contains (c.in-Several.first ∷ more_of c.self.inside.sets c.in-Some.key) k) (c.if-first-list.true ∙ c.number-list.ensures) (head_in c.in-Several.first (more_of c.self.inside.sets c.in-Some.key))), λ i. (same_told c.in-Several.first c.number-list.result).1 c.if-first-list.true)

pub returns-else-first-list : goal.returns-else-first-list
returns-else-first-list g c =
    let o = opened c.self.invariant (bare_is c.self.view_is) in
    let found : map.get c.self.inside.by_id.map c.args.port ≡ Some c.in-Some.key = sym c.in-Some.ensures in
    let there = record_at o c.args.port c.in-Some.key found in
    let r : Record g.row.M.Denot = there.0 in
    let m_is : r.kept.membership ≡ Several c.in-Several.first = sym (c.member_at.ensures r there.1) ∙ c.in-Several.is in
    several_told o c.args.port c.in-Some.key r found there.1 c.in-Several.first m_is c.args.set c.number-list.result c.number-list.ensures c.if-first-list.false c.is_further.result c.is_further.ensures.yes c.is_further.ensures.no
