-- A right that comes to a task: the tables before its fresh name is counted, and what the count leaves.
use Rattle.std.proofs.Common.{◌≡◌, ℕ, Some, None, true, false, refl, sym, ap, subst, ◌∙◌, inl, inr}
use Rattle.std.specs.Prelude.{is_some}
use Rattle.mach_types.specs.Tokens.{Kind}
use Rattle.name_space.specs.Names.{Names, SpaceView, given_after}
use Rattle.copyin_base.specs.Changes.{SameButNaming}
use Rattle.copyin_base.specs.Worlds.{WorldView, entry_in, entry_at, space_at, with_space}
use Rattle.copyin_base.proofs.Roomier.{CountsName, same_but_naming}
use Rattle.copyin_base.proofs.Spaces.{space-set_same, set-set}
use Rattle.copyout.specs.Giving.{ports_given, TakesName, GivesPort}
use Rattle.copyout.specs.Putting.{NewName, PutsPort}

abbrev pub new_of : (space : SpaceView) (kind : Kind) (p word : ℕ) (after : Names) → TakesName space kind p word after → NewName space.names kind p word after
new_of space kind p word after x = record { unused = x.unused; lone = x.lone; rest = x.rest }

module _ (w : WorldView) (task : ℕ) (kind : Kind) (p word : ℕ) (w' : WorldView) (g : GivesPort w task kind p word w') where
  abbrev pub put_space : SpaceView
  put_space = record g.space { names = g.after; room = g.room }

  -- the tables with the right, and no count
  abbrev pub put_world : WorldView
  put_world = record (with_space w task put_space) { ports = ports_given kind task p w.ports; ledger = g.ledger }

  abbrev pub gives_puts : PutsPort w task kind p word put_world
  gives_puts = record {
    space = g.space;
    there = g.there;
    after = g.after;
    room = g.room;
    ledger = g.ledger;
    given = elim g.given [
      | inl h ↦ inl (h.0, h.1, h.2)
      | inr h ↦ inr (new_of g.space kind p word g.after h.0, h.1, h.2)
    ];
    rest = refl;
  }

  put_there : space_at put_world task ≡ Some put_space
  put_there = space-set_same w.spaces task put_space g.space g.there

  then_counted : w' ≡ with_space put_world task (record put_space { given = g.counts })
  then_counted = g.rest ∙ ap (λ xs. record put_world { spaces = xs }) (sym (set-set w.spaces task (Some put_space) (Some (record put_space { given = g.counts }))))

  pub count_naming : SameButNaming put_world w'
  count_naming = subst (SameButNaming put_world) (sym then_counted) (same_but_naming put_world task put_space (record put_space { given = g.counts }) put_there refl)

  -- under a name that was there nothing is counted
  pub joins_only : g.counts ≡ g.space.given → w' ≡ put_world
  joins_only same = g.rest ∙ ap (λ c. record (with_space w task (record put_space { given = c })) { ports = ports_given kind task p w.ports; ledger = g.ledger }) same

  -- a fresh name is
  pub takes_counted : g.counts ≡ given_after g.space.given word → CountsName put_world task word w'
  takes_counted is = record {
    space = put_space;
    there = put_there;
    rest = then_counted ∙ ap (λ c. with_space put_world task (record put_space { given = c })) is;
  }

  -- what comes under a name in use is not counted
  pub joins_puts : is_some (entry_at w task word) ≡ true → PutsPort w task kind p word w'
  joins_puts used = elim g.given [
    | inl h ↦ subst (PutsPort w task kind p word) (sym (joins_only h.3)) gives_puts
    | inr h ↦ absurd (let none : entry_at w task word ≡ None = ap (λ o. entry_in o word) g.there ∙ h.0.unused in let e : false ≡ true = ap is_some (sym none) ∙ used in cc)
  ]
