-- The sets of a port, by what the tables tell of it.
use Rattle.std.proofs.Common.{◌≡◌, ℕ, List, [], ◌∷◌, Option, Some, None, refl, sym, ap, ◌∙◌, arith}
use Rattle.std.specs.List.{Contains}
use Rattle.std.specs.Option.{option_map_or}
use Rattle.port_base.specs.declared.Membership.{Membership}
use Rattle.port_base.specs.declared.Membership.TheVariants.{Nowhere}
use Rattle.port_base.specs.Memberships.{membership_in}
use Rattle.port.specs.Ports.{PortView, sets_in}
use Rattle.tables_base.specs.Kept.{Kept}
use Rattle.copyin_base.specs.Worlds.{WorldView, port_at, sets_at}

-- in how many sets it is, with the first of them
pub membership_at : (w : WorldView) (p : ℕ) (m : Membership) → ((v : PortView Kept) → port_at w p ≡ Some v → m ≡ membership_in (sets_in v)) → (port_at w p ≡ None → m ≡ Nowhere) → m ≡ membership_in (sets_at w p)
membership_at w p m live gone = go (port_at w p) live gone
  where
    go : (o : Option (PortView Kept)) → ((v : PortView Kept) → o ≡ Some v → m ≡ membership_in (sets_in v)) → (o ≡ None → m ≡ Nowhere) → m ≡ membership_in (option_map_or sets_in o [])
    go None live gone = gone refl
    go (Some v) live gone = live v refl

pub in_none : (sets : List ℕ) (m : Membership) → m ≡ membership_in sets → m ≡ Nowhere → sets ≡ []
in_none [] m is nowhere = refl
in_none (a ∷ []) m is nowhere = absurd (let e = sym is ∙ nowhere in cc)
in_none (a ∷ b ∷ sets) m is nowhere = absurd (let e = sym is ∙ nowhere in cc)

-- A port that is in a set is there.
pub record AtIn (w : WorldView) (p set : ℕ) : Type 0 where
  pub view : PortView Kept
  pub there : port_at w p ≡ Some view
  pub member : Contains (sets_in view) set

pub in_set : (w : WorldView) (p set : ℕ) → Contains (sets_at w p) set → AtIn w p set
in_set w p set has = go (port_at w p) refl has
  where
    go : (o : Option (PortView Kept)) → port_at w p ≡ o → Contains (option_map_or sets_in o []) set → AtIn w p set
    go None e has = absurd (let few = has.1 in omega (arith, few))
    go (Some v) e has = record { view = v; there = e; member = has }

pub sets_are : (w : WorldView) (p : ℕ) (v : PortView Kept) → port_at w p ≡ Some v → sets_at w p ≡ sets_in v
sets_are w p v there = ap (λ (o : Option (PortView Kept)). option_map_or sets_in o []) there

pub set_has : (w : WorldView) (p set : ℕ) (v : PortView Kept) → port_at w p ≡ Some v → Contains (sets_in v) set → Contains (sets_at w p) set
set_has w p set v there has = rw (sets_are w p v there) has
