-- Names by ports, and the port that stands in the place for one name's.
use Rattle.std.proofs.Common.{arith, ◌≡◌, ◌≢◌, inl, inr, ℕ, refl, ap, sym, subst, ◌∙◌, Option, Some, None}
use Rattle.std.specs.FinMap as map
use Rattle.name_space.specs.Ports.{PortNames, PortsView, with_port, without, IsApart, HasNoneKept}
use Rattle.name_space.proofs.Keys.{same_some, some_or_none, equal_or_not, is_or_not, put_here, put_other, out_here, out_other, same_gets}

pub port_here : (port name : Option ℕ) (m : PortNames) (p n : ℕ) → port ≡ Some p → name ≡ Some n → map.get (with_port port name m) p ≡ Some n
port_here None name m p n is named = absurd (some_or_none p None is refl)
port_here (Some k) None m p n is named = absurd (some_or_none n None named refl)
port_here (Some k) (Some l) m p n is named = ap (λ a. map.get (map.insert m a l) p) (same_some k p is) ∙ put_here m p l ∙ named

pub port_other : (port name : Option ℕ) (m : PortNames) (p : ℕ) → port ≢ Some p → map.get (with_port port name m) p ≡ map.get m p
port_other None name m p d = refl
port_other (Some k) None m p d = refl
port_other (Some k) (Some l) m p d = put_other m k l p (λ a. d (ap (λ b. Some b) (sym a)))

module _ (port name : Option ℕ) (m : PortNames) (x : IsApart port name m) where
  pub name_here : (p : ℕ) → port ≡ Some p → name ≡ map.get (with_port port name m) p
  name_here p is = let named = x.named p is in named.1 ∙ sym (port_here port name m p named.0 is named.1)

  -- a port that isn't there isn't in the place
  pub absent_apart : (p : ℕ) → map.get (with_port port name m) p ≡ None → port ≢ Some p
  absent_apart p none is = let named = x.named p is in some_or_none named.0 _ (port_here port name m p named.0 is named.1) none

  pub absent_there : (p : ℕ) → map.get (with_port port name m) p ≡ None → map.get m p ≡ None
  absent_there p none = sym (port_other port name m p (absent_apart p none)) ∙ none

  -- a port comes to the place
  pub put_in_place : (p n : ℕ) → name ≡ Some n → ((q : ℕ) → map.get (with_port port name m) q ≢ Some n) → with_port (Some p) name m ≡ map.insert (with_port port name m) p n
  put_in_place p n is free = from port name refl refl
    where
      from : (o l : Option ℕ) → port ≡ o → name ≡ l → with_port (Some p) name m ≡ map.insert (with_port port name m) p n
      from (Some k) l e f = absurd (free k (port_here port name m k n e is))
      from None None e f = absurd (some_or_none n None (sym f ∙ is) refl)
      from None (Some a) e f = ap (λ o. with_port (Some p) o m) is ∙ sym (ap (λ o. map.insert (with_port o name m) p n) e)

  pub apart_in_place : (p n : ℕ) → name ≡ Some n → map.get (with_port port name m) p ≡ None → IsApart (Some p) name m
  apart_in_place p n is none = grind (arith, same_some, absent_there)

  -- a port comes to the others
  pub put_beside : (p n : ℕ) → map.get (with_port port name m) p ≡ None → with_port port name (map.insert m p n) ≡ map.insert (with_port port name m) p n
  put_beside p n none = grind (arith, same_gets, is_or_not, absent_apart, port_here, put_other, port_other, equal_or_not, put_here)

  pub apart_beside : (p n : ℕ) → map.get (with_port port name m) p ≡ None → IsApart port name (map.insert m p n)
  apart_beside p n none = grind (arith, put_other, absent_apart)

  -- the port in the place goes
  pub out_of_place : (p : ℕ) → port ≡ Some p → with_port None name m ≡ map.remove (with_port port name m) p
  out_of_place p is = grind (arith, same_gets, equal_or_not, out_here, port_other, same_some, out_other)

  -- one of the others goes
  pub out_beside : (p : ℕ) → port ≢ Some p → with_port port name (map.remove m p) ≡ map.remove (with_port port name m) p
  out_beside p other = same_gets _ _ (λ q. elim (equal_or_not q p) [
    | inl a ↦ ap (map.get (with_port port name (map.remove m p))) a ∙ port_other port name (map.remove m p) p other ∙ out_here m p
        ∙ sym (ap (map.get (map.remove (with_port port name m) p)) a ∙ out_here (with_port port name m) p)
    | inr d ↦ elim (is_or_not port q) [
      | inl is ↦
          (let named = x.named q is in
          port_here port name (map.remove m p) q named.0 is named.1 ∙ sym (port_here port name m q named.0 is named.1) ∙ sym (out_other (with_port port name m) p q d))
      | inr o ↦ port_other port name (map.remove m p) q o ∙ out_other m p q d ∙ sym (port_other port name m q o) ∙ sym (out_other (with_port port name m) p q d)
    ]
  ])

  pub apart_without : (p : ℕ) → port ≢ Some p → IsApart port name (map.remove m p)
  apart_without p other = grind (arith, out_other)

pub apart_none : (name : Option ℕ) (m : PortNames) → IsApart None name m
apart_none name m = record { absent = λ p is. absurd (some_or_none p None is refl); named = λ p is. absurd (some_or_none p None is refl) }

-- the place goes to another name, whose port comes out of the others
pub moved_in : (m : PortNames) (p n : ℕ) → map.get m p ≡ Some n → with_port (Some p) (Some n) (map.remove m p) ≡ m
moved_in m p n there = grind (arith, same_gets, equal_or_not, put_here, put_other, out_other)

pub apart_moved : (m : PortNames) (p n : ℕ) → IsApart (Some p) (Some n) (map.remove m p)
apart_moved m p n = record { absent = λ q is. ap (map.get (map.remove m p)) (sym (same_some p q is)) ∙ out_here m p; named = λ q is. (n, refl) }

pub apart_kept : (port : Option ℕ) (m : PortNames) (n : ℕ) → IsApart port (Some n) (without port m)
apart_kept None m n = apart_none (Some n) m
apart_kept (Some p) m n = apart_moved m p n

pub all_kept : (port : Option ℕ) (m : PortNames) (n : ℕ) → ((p : ℕ) → port ≡ Some p → map.get m p ≡ Some n) → with_port port (Some n) (without port m) ≡ m
all_kept None m n there = refl
all_kept (Some p) m n there = moved_in m p n (there p refl)

-- ---- as a whole sees them

view_of : PortNames → ℕ → Option ℕ → PortsView
view_of a r k = record { names = a; room = r; kept = k }

same_view : (a b : PortNames) (r s : ℕ) (k l : Option ℕ) → a ≡ b → r ≡ s → k ≡ l → ◌≡◌ {A = PortsView} record { names = a; room = r; kept = k } record { names = b; room = s; kept = l }
unfolding view_of
same_view a b r s k l e f g = ap (λ m. view_of m r k) e ∙ ap (λ n. view_of b n k) f ∙ ap (view_of b s) g

module _ (port name : Option ℕ) (m : PortNames) (room : ℕ) (x : IsApart port name m) (v : PortsView) (view_is : ◌≡◌ {A = PortsView} record { names = with_port port name m; room = room; kept = name } v) where
  pub ports_are : with_port port name m ≡ v.names
  ports_are = ap (λ (a : PortsView). a.names) view_is

  kept_is : name ≡ v.kept
  kept_is = ap (λ (a : PortsView). a.kept) view_is

  pub room_is : room ≡ v.room
  room_is = ap (λ (a : PortsView). a.room) view_is

  seen : (p : ℕ) → map.get (with_port port name m) p ≡ map.get v.names p
  seen p = ap (λ (a : PortNames). map.get a p) ports_are

  pub seen_here : (p : ℕ) → port ≡ Some p → name ≡ map.get v.names p
  seen_here p is = name_here port name m x p is ∙ seen p

  pub seen_other : (p : ℕ) → port ≢ Some p → map.get m p ≡ map.get v.names p
  seen_other p d = sym (port_other port name m p d) ∙ seen p

  pub none_in_place : HasNoneKept v → (p : ℕ) → port ≢ Some p
  none_in_place none p is = let named = x.named p is in none p named.0 (sym kept_is ∙ named.1) (sym (seen_here p is) ∙ named.1)

  pub gone : (p : ℕ) → map.get v.names p ≡ None → map.get m p ≡ None
  gone p none = absent_there port name m x p (seen p ∙ none)

  pub place_put : (p n : ℕ) → v.kept ≡ Some n → map.get v.names p ≡ None → IsApart (Some p) name m
  place_put p n is none = apart_in_place port name m x p n (kept_is ∙ is) (seen p ∙ none)

  pub names_put : (p n : ℕ) → v.kept ≡ Some n → ((q : ℕ) → map.get v.names q ≢ Some n) → with_port (Some p) name m ≡ map.insert v.names p n
  names_put p n is free = put_in_place port name m x p n (kept_is ∙ is) (λ q h. free q (sym (seen q) ∙ h)) ∙ ap (λ (a : PortNames). map.insert a p n) ports_are

  pub place_beside : (new : PortNames) (p n : ℕ) → map.get v.names p ≡ None → new ≡ map.insert m p n → IsApart port name new
  place_beside new p n none is = subst (IsApart port name) (sym is) (apart_beside port name m x p n (seen p ∙ none))

  pub names_beside : (new : PortNames) (p n : ℕ) → map.get v.names p ≡ None → new ≡ map.insert m p n → with_port port name new ≡ map.insert v.names p n
  names_beside new p n none is = ap (with_port port name) is ∙ put_beside port name m x p n (seen p ∙ none) ∙ ap (λ (a : PortNames). map.insert a p n) ports_are

  pub view_out_of_place : (p : ℕ) → port ≡ Some p → ◌≡◌ {A = PortsView} record { names = with_port None name m; room = room; kept = name } record { names = map.remove v.names p; room = v.room; kept = v.kept }
  view_out_of_place p is = same_view _ _ room v.room name v.kept (out_of_place port name m x p is ∙ ap (λ (a : PortNames). map.remove a p) ports_are) room_is kept_is

  pub place_without : (new : PortNames) (p : ℕ) → port ≢ Some p → new ≡ map.remove m p → IsApart port name new
  place_without new p d is = subst (IsApart port name) (sym is) (apart_without port name m x p d)

  pub view_without : (new : PortNames) (left p : ℕ) → port ≢ Some p → new ≡ map.remove m p → left ≡ room →
      ◌≡◌ {A = PortsView} record { names = with_port port name new; room = left; kept = name } record { names = map.remove v.names p; room = v.room; kept = v.kept }
  view_without new left p d is same = grind (arith, same_view, out_beside, ports_are, room_is, kept_is)
