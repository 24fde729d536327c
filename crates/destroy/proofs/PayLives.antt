-- Which ports live as a step's end starts, and the rights for them.
use Rattle.std.proofs.Common.{◌≡◌, ℕ, Option, Some, None, refl, sym, ap, ◌∙◌, ◌≤◌, List, arith, inl, inr}
use Rattle.std.specs.Prelude.{◌≢◌, ◌↔◌, Bool, true, false, not, IsTrue, if◌then◌else◌, ◌==◌, ◌&&◌, filter}
use Rattle.std.specs.Option.{option_map}
use Rattle.std.proofs.lemmas.Bool.Decides.{eqb_tells}
use Rattle.mach_types.specs.Tokens.{Kind, Place, Token, weigh, count, is_of, same_kind}
use Rattle.mach_model.specs.Death.{same_place}
use Rattle.mach_model.specs.Carried.{lying_among}
use Rattle.mach_model.proofs.Names.{weigh-le, count_le, left_of}
use Rattle.mach_model.proofs.SettledReceives.{and_false}
use Rattle.mach_model.proofs.SettledDetermined.{weigh-same}
use Rattle.port.specs.declared.Attributes.{Attributes}
use Rattle.port.specs.declared.Holder.TheVariants as holder
use Rattle.port.specs.Ports.{PortView}
use Rattle.copyin_base.specs.Kept.{Kept}
use Rattle.copyin_base.specs.Worlds.{WorldView, port_at}
use Rattle.notifications.proofs.NoticePosted.{filter_weigh}
use Rattle.destroy.specs.Paying.{LivesIn}

-- ---- Which ports live, by their holders.

-- the port whose attributes were found
found : (w : WorldView) (p : ℕ) (o : Option (PortView Kept)) → port_at w p ≡ o → (a : Attributes) → option_map (λ (v : PortView Kept). v.attributes) o ≡ Some a →
    (v : PortView Kept) × (port_at w p ≡ Some v) × (v.attributes ≡ a)
found w p (Some v) is a e = (v, is, ap (λ o. go o) e)
  where
    go : Option Attributes → Attributes
    go (Some b) = b
    go None = v.attributes
found w p None is a e = absurd (cc)

pub is_doomed : (w : WorldView) (p : ℕ) (a : Attributes) → option_map (λ (v : PortView Kept). v.attributes) (port_at w p) ≡ Some a → a.holder ≡ holder.Doomed → ¬ (LivesIn w p)
is_doomed w p a e doomed l = l.undoomed (ap (λ (a : Attributes). a.holder) (same (option_map (λ (v : PortView Kept). v.attributes) (port_at w p)) (ap (option_map (λ (v : PortView Kept). v.attributes)) l.there) e) ∙ doomed)
  where
    same : (o : Option Attributes) → o ≡ Some l.v.attributes → o ≡ Some a → l.v.attributes ≡ a
    same None f g = absurd (cc)
    same (Some b) f g = cc

pub is_undoomed : (w : WorldView) (p : ℕ) (a : Attributes) → option_map (λ (v : PortView Kept). v.attributes) (port_at w p) ≡ Some a → a.holder ≢ holder.Doomed → LivesIn w p
is_undoomed w p a e none = let f = found w p (port_at w p) refl a e in record { v = f.0; there = f.1; undoomed = λ is. none (ap (λ (a : Attributes). a.holder) (sym f.2) ∙ is) }

pub is_gone : (w : WorldView) (p : ℕ) → option_map (λ (v : PortView Kept). v.attributes) (port_at w p) ≡ None → ¬ (LivesIn w p)
is_gone w p e l = let f = ap (option_map (λ (v : PortView Kept). v.attributes)) l.there in cc

-- What a test and its opposite say.
pub says_no : {P : Type 0} → (b : Bool) → b ≡ true → ¬ P → IsTrue (not b) ↔ P
says_no true is none = ((λ t. cc), λ h. absurd (none h))
says_no false is none = absurd (cc)

pub says_yes : {P : Type 0} → (b : Bool) → b ≡ false → P → IsTrue (not b) ↔ P
says_yes true is h = absurd (cc)
says_yes false is h = ((λ t. h), λ h. refl)

-- ---- Rights for ports that live are all that lie anywhere, where no right is for another port.

module _ (lives : ℕ → Bool) (kind : Kind) (q : ℕ) (place : Place) where
  abbrev lies : Token → ℕ
  lies x = if is_of kind q x && same_place place x.place then 1 else 0

  abbrev lies_live : Token → ℕ
  lies_live x = if lives x.port then lies x else 0

  none : (x : Token) → (x.port == q) ≡ false → lies x ≡ 0
  none x e = rw (e, and_false (same_kind kind x.kind)) refl

  same : lives q ≡ true → (x : Token) → lies_live x ≡ lies x
  same live x = elim (eqb_tells x.port q) [
    | inl h ↦ rw (ap lives h.1 ∙ live) refl
    | inr h ↦ go (lives x.port) (none x h.0)
  ]
    where
      go : (b : Bool) → lies x ≡ 0 → (if b then lies x else 0) ≡ lies x
      go true z = refl
      go false z = sym z

  pub kept_live : (tokens : List Token) → (lives q ≡ false → count (is_of kind q) tokens ≡ 0) → lying_among (filter (λ x. lives x.port) tokens) kind q place ≡ lying_among tokens kind q place
  kept_live tokens few = filter_weigh lies (λ x. lives x.port) tokens ∙ go (lives q) refl
    where
      less : (x : Token) (b : Bool) → (if b then lies x else 0) ≤ lies x
      less x true = omega arith
      less x false = omega arith

      go : (b : Bool) → lives q ≡ b → weigh lies_live tokens ≡ weigh lies tokens
      go true live = weigh-same lies_live lies (same live) tokens
      go false dead =
          let a = weigh-le lies_live lies (λ x. less x (lives x.port)) tokens in
          let b = count_le (λ x. is_of kind q x && same_place place x.place) (is_of kind q) (λ x e. left_of (is_of kind q x) (same_place place x.place) e) tokens in
          let c = few dead in
          omega (arith, a, b, c)
