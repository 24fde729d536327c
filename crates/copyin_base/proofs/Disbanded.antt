-- A set was disbanded, in the tables and in the machine alike: its members are in their other sets alone.
use Rattle.std.proofs.Common.{◌≡◌, ℕ, List, [], ◌∷◌, Some, None, refl, sym, ap, subst, ◌∙◌, inl, inr, arith}
use Rattle.std.specs.Prelude.{◌==◌, Contains, not, filter, is_some}
use Rattle.std.specs.FinMap as map
use Rattle.std.proofs.lemmas.Bool.Decides.{eqb_tells}
use Rattle.mach_model.specs.State.{State}
use Rattle.member_lists.specs.Lists.{without}
use Rattle.port.specs.Ports.{PortView, PortsView, sets_in, with_sets}
use Rattle.port_set.specs.Sets.{IsDisbanded}
use Rattle.tables_base.specs.Kept.{Kept}
use Rattle.copyin_base.specs.Requests.{notify_of, RequestsAgree}
use Rattle.copyin_base.specs.Worlds.{WorldView, port_at}
use Rattle.copyin_base.specs.Shows.{ShowsPort, Agrees}
use Rattle.copyin_base.proofs.Gets.{seen, same_found}
use Rattle.copyin_base.proofs.Listed.{is_listed, listed_later}
use Rattle.copyin_base.proofs.SetsChanged.{in_these}

no_some : {A : Type 0} (x : A) → None ≡ Some x → ⊥
no_some x e = cc

-- a port that isn't in the set stays in all its sets
others_stay : (set : ℕ) (sets : List ℕ) → (Contains sets set → ⊥) → without set sets ≡ sets
others_stay set [] apart = refl
others_stay set (k ∷ ks) apart = elim (eqb_tells k set) [
  | inl h ↦ absurd (apart (0, omega arith, h.1))
  | inr h ↦ rw h.0 (ap (λ (xs : List ℕ). k ∷ xs) (others_stay set ks (λ c. apart (listed_later k ks set c))))
]

-- ---- the members go

module _ (w : WorldView) (s : State) (a : Agrees w s) (set : ℕ) (ports2 : PortsView Kept) (d : IsDisbanded w.ports ports2 set) where
  abbrev t : State
  t = record s { sets_of = λ p. filter (λ k. not (k == set)) (s.sets_of p) }

  -- what a port became
  record Left (p : ℕ) (x : PortView Kept) : Type 0 where
    pub now : PortView Kept
    pub there : map.get ports2.ports p ≡ Some now
    pub shows : ShowsPort now t p

  left : (p : ℕ) (x : PortView Kept) → port_at w p ≡ Some x → Left p x
  left p x is = let shown = a.ports p x is in elim (is_listed (sets_in x) set) [
    | inl member ↦ record {
      now = with_sets x (without set (sets_in x));
      there = d.members p x is member;
      shows = record {
        waiting = shown.waiting;
        limit = shown.limit;
        make_send = shown.make_send;
        sequence = shown.sequence;
        sets = in_these x (without set (sets_in x)) ∙ ap (without set) shown.sets;
      };
    }
    | inr differs ↦ record {
      now = x;
      there = d.others p x is differs;
      shows = record {
        waiting = shown.waiting;
        limit = shown.limit;
        make_send = shown.make_send;
        sequence = shown.sequence;
        sets = sym (others_stay set (sets_in x) differs) ∙ ap (without set) shown.sets;
      };
    }
  ]

  live : (p : ℕ) → is_some (map.get ports2.ports p) ≡ is_some (port_at w p)
  live p = elim (seen (port_at w p)) [
    | inl h ↦ ap is_some (left p h.0 h.1).there ∙ sym (ap is_some h.1)
    | inr h ↦ ap is_some (d.gone p h) ∙ sym (ap is_some h)
  ]

  shows : (p : ℕ) (x : PortView Kept) → map.get ports2.ports p ≡ Some x → ShowsPort x t p
  shows p x is = elim (seen (port_at w p)) [
    | inl h ↦ let l = left p h.0 h.1 in subst (λ (y : PortView Kept). ShowsPort y t p) (same_found (map.get ports2.ports p) l.now x l.there is) l.shows
    | inr h ↦ absurd (no_some x (sym (d.gone p h) ∙ is))
  ]

  pub disbanded_agrees : Agrees (record w { ports = ports2 }) t
  disbanded_agrees = record {
    spaces = a.spaces;
    rights = a.rights;
    live_port = λ p. live p ∙ a.live_port p;
    ports_made = d.made ∙ a.ports_made;
    ports = shows;
    counts = a.counts;
    total = a.total;
    in_sets = a.in_sets;
    of_requests = subst (λ (k : ℕ). RequestsAgree (notify_of w.requests) w.requests.names.went k s.stands s.live_port s.ledger) (sym d.made) a.of_requests;
  }
