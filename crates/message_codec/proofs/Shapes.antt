-- Items one after another: where each ends is told by its descriptor.
use Rattle.std.proofs.Common.{◌≡◌, ℕ, zero, suc, ◌+◌, ◌*◌, ◌/◌, ◌%◌, ◌<◌, ◌≤◌, List, [], ◌∷◌, ◌++◌, length, drop, refl, sym, ap, subst, ◌∙◌, arith, length-append, append_assoc, All}
use Rattle.std.proofs.lemmas.List.{drop_at}
use Rattle.mach_types.specs.Grammar.{words_text, Wire, data_item, port_item, wire_text, wires_text, IsWire, descriptor_text, FitsForm, NamesPorts}
use Rattle.mach_types.specs.Messages.{Form, short, long}
use Rattle.mach_types.specs.TextGuards.{ItemRefuses, ItemsRefuse, data_length}
use Rattle.type_descriptor.specs.Describes.{form_length}
use Rattle.message_codec.proofs.Fronts.{IsFront, front_of, length-descriptor_text}

-- ---- all of a list

pub All-head : (P : Wire → Type 0) (x : Wire) (xs : List Wire) → All P (x ∷ xs) → P x
All-head P x xs all = all 0 x (omega arith)

pub All-tail : (P : Wire → Type 0) (x : Wire) (xs : List Wire) → All P (x ∷ xs) → All P xs
All-tail P x xs all = λ k d h. all (suc k) d (omega arith)

pub All-cons : {X : Type 0} (P : X → Type 0) (x : X) (xs : List X) → P x → All P xs → All P (x ∷ xs)
All-cons P x xs first rest zero d h = first
All-cons P x xs first rest (suc k) d h = rest k d (omega arith)

-- ---- an item's text

pub length-words_text : (ws : List ℕ) → length (words_text ws) ≡ 4 * length ws
length-words_text [] = refl
length-words_text (w ∷ ws) = let e = length-words_text ws in omega arith

-- An item's text is a descriptor and data of that length, padded to a multiple of 4.
pub record HasShape (x : Wire) : Type 0 where
  pub form : Form
  pub name : ℕ
  pub size : ℕ
  pub number : ℕ
  pub data_bytes : List ℕ
  pub text : wire_text x ≡ descriptor_text form name size number ++ data_bytes
  pub fits : FitsForm form name size number
  pub right : NamesPorts name → size ≡ 32
  pub low : data_length size number ≤ length data_bytes
  pub high : length data_bytes < data_length size number + 4
  pub whole : length data_bytes % 4 ≡ 0

pub shape_of : (x : Wire) → IsWire x → HasShape x
shape_of (data_item form name size number bytes padding) is =
    let len : length (bytes ++ padding) ≡ length bytes + length padding = length-append bytes padding in
    let dl : length bytes ≡ (number * size + 7) / 8 = is.2 in
    let pad : length padding < 4 = is.3 in
    let even : (length bytes + length padding) % 4 ≡ 0 = is.4 in
    record {
      form = form;
      name = name;
      size = size;
      number = number;
      data_bytes = bytes ++ padding;
      text = append_assoc (descriptor_text form name size number) bytes padding;
      fits = is.0;
      right = λ h. absurd (is.1 h);
      low = rw (len, ← dl) (omega arith);
      high = rw (len, ← dl) (omega arith);
      whole = rw len even;
    }
shape_of (port_item form disposition words) is =
    let len : length (words_text words) ≡ 4 * length words = length-words_text words in
    record {
      form = form;
      name = disposition;
      size = 32;
      number = length words;
      data_bytes = words_text words;
      text = refl;
      fits = is.0;
      right = λ h. refl;
      low = omega arith;
      high = omega arith;
      whole = omega arith;
    }

-- the front of an item's text, whatever follows
pub front_of_wire : (x : Wire) (s : HasShape x) (rest : List ℕ) → IsFront (wire_text x ++ rest) s.form s.name s.size s.number
front_of_wire x s rest = grind (arith, append_assoc, front_of)

pub length-wire_text : (x : Wire) (s : HasShape x) → length (wire_text x) ≡ form_length s.form + length s.data_bytes
length-wire_text x s = grind (arith, length-append, length-descriptor_text)

pub form_length-ge : (form : Form) → 4 ≤ form_length form
form_length-ge short = omega arith
form_length-ge long = omega arith

pub form_length-mod : (form : Form) → form_length form % 4 ≡ 0
form_length-mod short = refl
form_length-mod long = refl

-- an item is not refused
pub not_refused : (x : Wire) → IsWire x → (rest : List ℕ) (code : ℕ) → ItemRefuses (wire_text x ++ rest) code → ⊥
not_refused x is rest code r = grind (arith, shape_of, front_of_wire, length-append, length-wire_text)

-- what is left after items of one text is the same
pub rest_same : (x y : Wire) → IsWire x → IsWire y → (a b : List ℕ) → wire_text x ++ a ≡ wire_text y ++ b → a ≡ b
rest_same x y is_x is_y a b e =
    let s : HasShape x = shape_of x is_x in
    let t : HasShape y = shape_of y is_y in
    let front = front_of_wire x s a in
    let other : IsFront (wire_text x ++ a) t.form t.name t.size t.number =
    subst (λ (u : List ℕ). IsFront u t.form t.name t.size t.number) (sym e) (front_of_wire y t b) in
    let same = front.only t.name t.size t.number other.has in
    let form : form_length t.form ≡ form_length s.form = front.before_only (form_length t.form) other.before_is in
    let low : data_length s.size s.number ≤ length t.data_bytes = rw (← same.1, ← same.2) t.low in
    let high : length t.data_bytes < data_length s.size s.number + 4 = rw (← same.1, ← same.2) t.high in
    let len : length (wire_text x) ≡ length (wire_text y) =
    omega (arith, length-wire_text x s, length-wire_text y t, s.low, s.high, s.whole, t.whole) in
    sym (drop_at (wire_text x) a (length (wire_text y)) len) ∙ ap (drop (length (wire_text y))) e ∙ drop_at (wire_text y) b (length (wire_text y)) refl

-- items are not refused, item by item
pub items_not_refused : (xs front : List Wire) (rest : List ℕ) (code : ℕ) → All IsWire xs → All IsWire front
    → wires_text xs ≡ wires_text front ++ rest → 0 < length rest → ItemRefuses rest code → ⊥
items_not_refused [] [] rest code are fronts e more refused = let none : length rest ≡ 0 = sym (ap length e) in omega arith
items_not_refused (x ∷ xs) [] rest code are fronts e more refused =
    not_refused x (All-head IsWire x xs are) (wires_text xs) code (subst (λ (t : List ℕ). ItemRefuses t code) (sym e) refused)
items_not_refused [] (f ∷ fs) rest code are fronts e more refused = grind (arith, shape_of, length-append, length-wire_text, form_length-ge)
items_not_refused (x ∷ xs) (f ∷ fs) rest code are fronts e more refused =
    let tail : wires_text xs ≡ wires_text fs ++ rest =
    rest_same x f (All-head IsWire x xs are) (All-head IsWire f fs fronts) (wires_text xs) (wires_text fs ++ rest) (e ∙ append_assoc (wire_text f) (wires_text fs) rest) in
    items_not_refused xs fs rest code (All-tail IsWire x xs are) (All-tail IsWire f fs fronts) tail more refused

pub text_not_refused : (bytes : List ℕ) (xs : List Wire) (code : ℕ) → All IsWire xs → bytes ≡ wires_text xs → ItemsRefuse bytes code → ⊥
text_not_refused bytes xs code are e r =
    items_not_refused xs r.front r.rest code are r.front_fits (sym e ∙ r.parts) r.more r.refused
