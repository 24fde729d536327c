-- Text and content behind text and content.
use Rattle.std.proofs.Common.{◌≡◌, ℕ, List, [], ◌∷◌, ◌++◌, ap, ◌∙◌, sym, subst, append_assoc, append-nil, codes, refl}
use Rattle.mach_xml.specs.Characters.{IsBare, IsReference, IsText}
use Rattle.mach_xml.specs.Characters.IsText.{none, bare, reference}
use Rattle.mach_xml.specs.Names.{IsName}
use Rattle.mach_xml.specs.Elements.{Adds, HasAttributes, IsAttribute, IsTag, IsElement, IsContent, attribute, start_tag, end_tag}
use Rattle.mach_xml.specs.Elements.IsElement.{empty, full}
use Rattle.mach_xml.specs.Elements.IsContent.{none as nothing, text as then_text, element as then_element}

pub adds-reference : (a b name : List ℕ) → IsReference name → b ≡ a ++ name → Adds IsText a b
adds-reference a b name h e = record { shown = name; is = reference [] name none h; at = e }

pub adds-bare : (a b : List ℕ) (byte : ℕ) → IsBare byte → b ≡ a ++ byte ∷ [] → Adds IsText a b
adds-bare a b byte h e = record { shown = byte ∷ []; is = bare [] byte none h; at = e }

pub text-append : (xs ys : List ℕ) → IsText xs → IsText ys → IsText (xs ++ ys)
text-append xs _ p none = subst IsText (sym (append-nil xs)) p
text-append xs _ p (bare before byte q h) =
    subst IsText (append_assoc xs before (byte ∷ [])) (bare (xs ++ before) byte (text-append xs before p q) h)
text-append xs _ p (reference before name q h) =
    subst IsText (append_assoc xs before name) (reference (xs ++ before) name (text-append xs before p q) h)

pub adds-nothing : (a : List ℕ) → Adds IsText a a
adds-nothing a = record { shown = []; is = none; at = sym (append-nil a) }

pub adds-text : (a b c : List ℕ) → Adds IsText a b → Adds IsText b c → Adds IsText a c
adds-text a b c first next = record {
  shown = first.shown ++ next.shown;
  is = text-append first.shown next.shown first.is next.is;
  at = next.at ∙ ap (λ (l : List ℕ). l ++ next.shown) first.at ∙ append_assoc a first.shown next.shown;
}

-- ---- attributes and tags

pub adds-attribute : (a b c d e f name : List ℕ) → b ≡ a ++ 32 ∷ [] → c ≡ b ++ name → d ≡ c ++ codes "=\"" → Adds IsText d e → f ≡ e ++ 34 ∷ []
    → Adds (IsAttribute name) a f
adds-attribute a b c d e f name first next equals value last = record {
  shown = attribute name value.shown;
  is = record { value = value.shown; is = value.is; at = refl };
  at = simp (last, value.at, equals, next, first, append_assoc);
}

pub adds-tag : (a b c d e name end : List ℕ) → b ≡ a ++ 60 ∷ [] → c ≡ b ++ name → Adds HasAttributes c d → e ≡ d ++ end → Adds (IsTag name end) a e
adds-tag a b c d e name end first next has last = record {
  shown = 60 ∷ (name ++ has.shown ++ end);
  is = record { attributes = has.shown; has = has.is; at = refl };
  at = simp (last, has.at, next, first, append_assoc);
}

-- ---- elements and content

pub adds-empty : (a b name : List ℕ) → IsName name → Adds (IsTag name (codes "/>")) a b → Adds IsElement a b
adds-empty a b name named tag = record {
  shown = tag.shown;
  is = subst IsElement (sym tag.is.at) (empty tag.is.has.names name tag.is.attributes named tag.is.has.is);
  at = tag.at;
}

pub adds-full : (a b c d name : List ℕ) → IsName name → Adds (IsTag name (codes ">")) a b → Adds IsContent b c → d ≡ c ++ end_tag name → Adds IsElement a d
adds-full a b c d name named tag inner last = record {
  shown = start_tag name tag.is.attributes ++ inner.shown ++ end_tag name;
  is = full tag.is.has.names name tag.is.attributes inner.shown named tag.is.has.is inner.is;
  at = simp (last, inner.at, tag.at, tag.is.at, append_assoc);
}

content-append : (xs ys : List ℕ) → IsContent xs → IsContent ys → IsContent (xs ++ ys)
content-append xs _ p nothing = subst IsContent (sym (append-nil xs)) p
content-append xs _ p (then_text before shown q h) =
    subst IsContent (append_assoc xs before shown) (then_text (xs ++ before) shown (content-append xs before p q) h)
content-append xs _ p (then_element before shown q h) =
    subst IsContent (append_assoc xs before shown) (then_element (xs ++ before) shown (content-append xs before p q) h)

pub no-content : (a : List ℕ) → Adds IsContent a a
no-content a = record { shown = []; is = nothing; at = sym (append-nil a) }

pub text-content : (a b : List ℕ) → Adds IsText a b → Adds IsContent a b
text-content a b w = record { shown = w.shown; is = then_text [] w.shown nothing w.is; at = w.at }

pub element-content : (a b : List ℕ) → Adds IsElement a b → Adds IsContent a b
element-content a b w = record { shown = w.shown; is = then_element [] w.shown nothing w.is; at = w.at }

pub adds-content : (a b c : List ℕ) → Adds IsContent a b → Adds IsContent b c → Adds IsContent a c
adds-content a b c first next = record {
  shown = first.shown ++ next.shown;
  is = content-append first.shown next.shown first.is next.is;
  at = next.at ∙ ap (λ (l : List ℕ). l ++ next.shown) first.at ∙ append_assoc a first.shown next.shown;
}
