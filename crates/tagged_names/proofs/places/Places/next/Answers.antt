use Rattle.std.proofs.Common.{◌≡◌, ◌≤◌, ℕ, None, IfSome, IfNone, sym, subst}
use Rattle.std.specs.FinMap as map
use Rattle.std.specs.Ordering.{nat_cmp}
use Rattle.name_space_base.specs.Pages.{IsNextUsed}
use Rattle.tagged_names.specs.Places.{least_of}
use Rattle.tagged_names.proofs.Nexts.{next_found, next_none}
use Rattle.tagged_names.proofs.Views.{names_are}
use Rattle.tagged_names.proofs.places.Places.next.Goals as goal

pub returns-clause-found : goal.returns-clause-found
returns-clause-found g c =
    subst (λ r. IfSome r (IsNextUsed c.args.self.now.names c.args.from)) (sym c.least.ensures)
    (subst (λ (m : map.FinMap nat_cmp g.row.V.Denot). IfSome (least_of c.next_placed.result c.next.result) (IsNextUsed m c.args.from)) (names_are c.self.inside.slots c.self.inside.others c.self.invariant c.args.self.now c.self.view_is)
    (next_found c.self.inside.slots.values c.self.inside.others.names c.self.invariant.laid c.args.from c.next_placed.result c.next.result c.next_placed.ensures.found c.next_placed.ensures.none c.next.ensures.found c.next.ensures.none))

pub returns-clause-none : goal.returns-clause-none
returns-clause-none g c =
    subst (λ r. IfNone r ((n : ℕ) → c.args.from ≤ n → map.get c.args.self.now.names n ≡ None)) (sym c.least.ensures)
    (subst (λ (m : map.FinMap nat_cmp g.row.V.Denot). IfNone (least_of c.next_placed.result c.next.result) ((n : ℕ) → c.args.from ≤ n → map.get m n ≡ None)) (names_are c.self.inside.slots c.self.inside.others c.self.invariant c.args.self.now c.self.view_is)
    (next_none c.self.inside.slots.values c.self.inside.others.names c.self.invariant.laid c.args.from c.next_placed.result c.next.result c.next_placed.ensures.none c.next.ensures.none))
