-- The way from a port, followed for as many steps as there are ports.
use Rattle.std.proofs.Common.{◌≡◌, ◌⊎◌, inl, inr, ℕ, ◌+◌, ◌-◌, ◌<◌, ◌≤◌, List, Bool, true, false, cond, eqb, refl, ap, sym, subst, ◌∙◌, Option, Some, None, is_some, arith}
use Rattle.std.specs.Bool.{Decides}
use Rattle.std.specs.List.{Contains, IsAnyAnswer}
use Rattle.std.proofs.lemmas.Bool.Decides.{Decides-eqb, not_from_Decides}
use Rattle.std.proofs.lemmas.List.Elements.{Decides-contains, contains_decides}
use Rattle.std.specs.FinMap as map
use Rattle.std.specs.Ordering.{nat_cmp}
use Rattle.std.specs.Cmp.{nat_cmp_total}
use Rattle.port.specs.declared.Holder.TheVariants.{QueueOf}
use Rattle.port.specs.Holding.{IsHeldBy}
use Rattle.port.specs.Ports.{PortView, PortsView}
use Rattle.port.proofs.Keys.{same_some, some_or_none, equal_or_not, out_here, out_other}
use Rattle.circularity.specs.Chains.{Leads, here, there, LeadsToAny}

-- these ports alone
abbrev only : {M : Type 0} → PortsView M → map.FinMap nat_cmp (PortView M) → PortsView M
only v ports = record v { ports = ports }

-- So many steps were gone from the first port. What is left of the ways from there to a carried port goes by ports that weren't passed.
pub record IsFollowed {M : Type 0} (v : PortsView M) (carried : List ℕ) (first port steps : ℕ) : Type 0 where
  pub reached : Leads v first port
  pub rest : map.FinMap nat_cmp (PortView M)
  pub few : map.len rest + steps ≤ map.len v.ports
  pub part : (q : ℕ) (p : PortView M) → map.get rest q ≡ Some p → map.get v.ports q ≡ Some p
  pub ways : (p : ℕ) → Contains carried p → Leads v first p → Leads (only v rest) port p

-- what a slice tells of a port
pub among : (xs : List ℕ) (x : ℕ) (found : Bool) → IsAnyAnswer (λ y t. eqb y x ≡ t) xs found → Decides found (Contains xs x)
among xs x found answer = Decides-contains xs x found (contains_decides eqb Decides-eqb xs x found answer)

pub not_among : (xs : List ℕ) (x : ℕ) (found : Bool) → IsAnyAnswer (λ y t. eqb y x ≡ t) xs found → found ≡ false → ¬ (Contains xs x)
not_among xs x found answer is = not_from_Decides found (among xs x found answer) is

same_queue : (a b : ℕ) → QueueOf a ≡ QueueOf b → a ≡ b
same_queue a b e = cc

module _ {M : Type 0} where
  one_queue : (v : PortsView M) (port a b : ℕ) → IsHeldBy v port (QueueOf a) → IsHeldBy v port (QueueOf b) → a ≡ b
  one_queue v port a b h k =
      let same : h.view ≡ k.view = same_some h.view k.view (sym h.there ∙ k.there) in
      same_queue a b (sym h.holder_is ∙ ap (λ (p : PortView M). p.attributes.holder) same ∙ k.holder_is)

  pub one_more : (v : PortsView M) (first port queue : ℕ) → Leads v first port → IsHeldBy v port (QueueOf queue) → Leads v first queue
  one_more v first port queue (here p) held = there p queue queue held (here queue)
  one_more v first port queue (there p q last by rest) held = there p q queue by (one_more v q last queue rest held)

  -- The way goes by no port x, or on from there by none.
  past : (v : PortsView M) (x a b : ℕ) → Leads v a b →
      Leads (only v (map.remove v.ports x)) a b ⊎ ((q : ℕ) × IsHeldBy v x (QueueOf q) × Leads (only v (map.remove v.ports x)) q b)
  past v x a b (here p) = inl (here p)
  past v x a b (there p q last held rest) = elim (past v x q last rest) [
    | inl w ↦ elim (equal_or_not p x) [
      | inl e ↦ inr (q, subst (λ y. IsHeldBy v y (QueueOf q)) e held, w)
      | inr d ↦ inl (there p q last (record { view = held.view; there = out_other v.ports x p d ∙ held.there; holder_is = held.holder_is }) w)
    ]
    | inr r ↦ inr r
  ]

  -- A port without a way on leads to itself alone.
  stays : (v : PortsView M) (a b : ℕ) → Leads v a b → ((q : ℕ) → IsHeldBy v a (QueueOf q) → ⊥) → a ≡ b
  stays v a b (here p) none = refl
  stays v a b (there p q last held rest) none = absurd (none q held)

module _ {M : Type 0} (v : PortsView M) (carried : List ℕ) (first : ℕ) where
  pub none_passed : IsFollowed v carried first first 0
  none_passed = record { reached = here first; rest = v.ports; few = omega arith; part = λ q p h. h; ways = λ p c w. w }

  module _ (port steps : ℕ) (so : IsFollowed v carried first port steps) where
    -- what is held by a port of the rest is held
    held_of : (x q : ℕ) → IsHeldBy (only v so.rest) x (QueueOf q) → IsHeldBy v x (QueueOf q)
    held_of x q h = record { view = h.view; there = so.part x h.view h.there; holder_is = h.holder_is }

    pub closes : Contains carried port → LeadsToAny v first carried
    closes c = (port, c, so.reached)

    -- where there is no way on, it ends here
    ends_by : ((q : ℕ) → IsHeldBy (only v so.rest) port (QueueOf q) → ⊥) → LeadsToAny v first carried → Contains carried port
    ends_by none (p, c, w) = subst (Contains carried) (sym (stays (only v so.rest) port p (so.ways p c w) none)) c

    pub ends : ((q : ℕ) → ¬ (IsHeldBy v port (QueueOf q))) → LeadsToAny v first carried → Contains carried port
    ends none = ends_by (λ q h. none q (held_of port q h))

    -- after as many steps as there are ports none is left
    pub ends_after : map.len v.ports ≤ steps → LeadsToAny v first carried → Contains carried port
    ends_after all =
        let few = so.few in
        let none : map.len so.rest ≡ 0 = omega arith in
        let empty : so.rest ≡ map.empty = map.empty_of_len so.rest none in
        ends_by (λ q h. some_or_none h.view (map.get so.rest port) h.there (ap (λ m. map.get m port) empty ∙ map.get-empty nat_cmp port))

    module _ (queue : ℕ) (held : IsHeldBy v port (QueueOf queue)) (below : steps < map.len v.ports) (apart : ¬ (Contains carried port)) where
      -- the port was passed before: no way is left
      again : map.get so.rest port ≡ None → IsFollowed v carried first queue (steps + 1)
      again gone = record {
        reached = one_more v first port queue so.reached held;
        rest = map.empty;
        few = let none = map.len-empty nat_cmp (PortView M) in omega arith;
        part = λ q p h. absurd (some_or_none p (map.get map.empty q) h (map.get-empty nat_cmp q));
        ways = λ p c w. absurd (apart (ends_by (λ q h. some_or_none h.view (map.get so.rest port) h.there gone) (p, c, w)));
      }

      abbrev out : map.FinMap nat_cmp (PortView M)
      out = map.remove so.rest port

      fewer : (view : PortView M) → map.get so.rest port ≡ Some view → map.len out + (steps + 1) ≤ map.len v.ports
      fewer view is =
          let few = so.few in
          let there : map.contains_key so.rest port ≡ true = ap is_some is in
          let less : map.len out ≡ map.len so.rest - 1 = map.len-remove nat_cmp_total so.rest port ∙ ap (λ b. cond b (map.len so.rest - 1) (map.len so.rest)) there in
          omega arith

      part_of : (q : ℕ) (p : PortView M) → map.get out q ≡ Some p → map.get v.ports q ≡ Some p
      part_of q p h = elim (equal_or_not q port) [
        | inl e ↦ absurd (some_or_none p (map.get out q) h (ap (map.get out) e ∙ out_here so.rest port))
        | inr d ↦ so.part q p (sym (out_other so.rest port q d) ∙ h)
      ]

      ways_of : (p : ℕ) → Contains carried p → Leads (only v so.rest) port p → Leads (only v out) queue p
      ways_of p c w = elim (past (only v so.rest) port port p w) [
        | inl on ↦ absurd (apart (subst (Contains carried) (sym (stays (only v out) port p on (λ q h. some_or_none h.view (map.get out port) h.there (out_here so.rest port)))) c))
        | inr on ↦ subst (λ q. Leads (only v out) q p) (one_queue v port on.0 queue (held_of port on.0 on.1) held) on.2
      ]

      onward : (view : PortView M) → map.get so.rest port ≡ Some view → IsFollowed v carried first queue (steps + 1)
      onward view is = record {
        reached = one_more v first port queue so.reached held;
        rest = out;
        few = fewer view is;
        part = part_of;
        ways = λ p c w. ways_of p c (so.ways p c w);
      }

      pub goes_on : IsFollowed v carried first queue (steps + 1)
      goes_on = by (map.get so.rest port) refl
        where
          by : (o : Option (PortView M)) → map.get so.rest port ≡ o → IsFollowed v carried first queue (steps + 1)
          by None is = again is
          by (Some view) is = onward view is
