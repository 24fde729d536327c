-- The walk over the items of a body.
use Rattle.std.proofs.Common.{◌≡◌, ℕ, ◌+◌, ◌-◌, ◌%◌, ◌<◌, ◌≤◌, Bool, true, false, Option, Some, None, IsSome, Result, Ok, Err, List, [], ◌∷◌, ◌++◌, length, drop, refl, sym, ap, ◌∙◌, arith, length-append, append_assoc, All}
use Rattle.std.proofs.lemmas.List.{append-nil, length-drop, drop_all}
use Rattle.std.proofs.lemmas.List.Elements.{All-push}
use Rattle.std.specs.Option.{option_to_list}
use Rattle.std.specs.Result.{OnErr, OnOk, is_err}
use Rattle.mach_types.specs.Grammar.{Wire, wire_text, wires_text, IsWire}
use Rattle.mach_types.specs.TextGuards.{ItemRefuses, ItemsRefuse}
use Rattle.type_descriptor.specs.Describes.{form_length}
use Rattle.message_codec.specs.declared.spans.Span.{Span}
use Rattle.message_codec.specs.Reading.{ReadsItem, ReadsItems, HasMany}
use Rattle.message_codec.specs.Spans.{wire_spans, spans_at}
use Rattle.message_codec.proofs.Shapes.{HasShape, shape_of, length-wire_text, form_length-ge, form_length-mod}

-- ---- items at the end of a list

pub wires_text-append : (xs ys : List Wire) → wires_text (xs ++ ys) ≡ wires_text xs ++ wires_text ys
wires_text-append [] ys = refl
wires_text-append (x ∷ xs) ys = grind (arith, wires_text-append xs ys, append_assoc)

wires_text-push : (xs : List Wire) (x : Wire) → wires_text (xs ++ x ∷ []) ≡ wires_text xs ++ wire_text x
wires_text-push xs x = wires_text-append xs (x ∷ []) ∙ ap (λ (t : List ℕ). wires_text xs ++ t) (append-nil (wire_text x))

spans_at-push : (at : ℕ) (xs : List Wire) (x : Wire) → spans_at at (xs ++ x ∷ []) ≡ spans_at at xs ++ wire_spans (at + length (wires_text xs)) x
spans_at-push at [] x = grind (arith, append-nil)
spans_at-push at (y ∷ ys) x = grind (arith, spans_at-push (at + length (wire_text y)) ys x, length-append, append_assoc)

-- ---- the walk

-- These items were read up to the offset, and these spans kept, or memory was refused for one.
pub record IsWalk (bytes : List ℕ) (at : ℕ) (spans : List Span) (capacity : ℕ) (lacks : Bool) : Type 0 where
  pub xs : List Wire
  pub parts : drop 24 bytes ≡ wires_text xs ++ drop at bytes
  pub fits : All IsWire xs
  pub at_is : at ≡ 24 + length (wires_text xs)
  pub within : at ≤ length bytes
  pub whole : (length bytes - at) % 4 ≡ 0
  pub kept : lacks ≡ false → spans ≡ spans_at 24 xs
  pub many : lacks ≡ true → 8 < length (spans_at 24 xs)
  pub room : 8 ≤ capacity

-- one item more
pub record IsGrown (bytes : List ℕ) (at end : ℕ) (span : Option Span) (xs : List Wire) : Type 0 where
  pub all : List Wire
  pub parts : drop 24 bytes ≡ wires_text all ++ drop end bytes
  pub fits : All IsWire all
  pub end_is : end ≡ 24 + length (wires_text all)
  pub whole : (length bytes - end) % 4 ≡ 0
  pub spans : spans_at 24 all ≡ spans_at 24 xs ++ option_to_list span

grown : (bytes : List ℕ) (at end : ℕ) (span : Option Span) (spans : List Span) (capacity : ℕ) (lacks : Bool)
    → (w : IsWalk bytes at spans capacity lacks) → ReadsItem bytes at span end → IsGrown bytes at end span w.xs
grown bytes at end span spans capacity lacks w item =
    let text = wires_text-push w.xs item.wire in
    let s : HasShape item.wire = shape_of item.wire item.fits in
    let len : length (wire_text item.wire) ≡ form_length s.form + length s.data_bytes = length-wire_text item.wire s in
    let even : form_length s.form % 4 ≡ 0 = form_length-mod s.form in
    let after : end ≡ at + length (wire_text item.wire) = item.end_is in
    let before : (length bytes - at) % 4 ≡ 0 = w.whole in
    let stays : end ≤ length bytes = item.within in
    let data_even : length s.data_bytes % 4 ≡ 0 = s.whole in
    record {
      all = w.xs ++ item.wire ∷ [];
      parts =
          w.parts
          ∙ ap (λ (t : List ℕ). wires_text w.xs ++ t) item.parts
          ∙ sym (append_assoc (wires_text w.xs) (wire_text item.wire) (drop end bytes))
          ∙ ap (λ (t : List ℕ). t ++ drop end bytes) (sym text);
      fits = All-push IsWire w.xs item.wire w.fits item.fits;
      end_is = omega (arith, w.at_is, ap length text, length-append (wires_text w.xs) (wire_text item.wire));
      whole = omega arith;
      spans =
          spans_at-push 24 w.xs item.wire
          ∙ ap (λ (n : ℕ). spans_at 24 w.xs ++ wire_spans n item.wire) (sym w.at_is)
          ∙ ap (λ (t : List Span). spans_at 24 w.xs ++ t) (sym item.span_is);
    }

-- the item's span was kept
pub walk-kept : (bytes : List ℕ) (at end : ℕ) (span : Option Span) (spans new : List Span) (capacity more : ℕ) (lacks : Bool)
    → IsWalk bytes at spans capacity lacks → ReadsItem bytes at span end → new ≡ spans ++ option_to_list span → capacity ≤ more
    → IsWalk bytes end new more lacks
walk-kept bytes at end span spans new capacity more lacks w item new_is grows =
    let g : IsGrown bytes at end span w.xs = grown bytes at end span spans capacity lacks w item in
    record {
      xs = g.all;
      parts = g.parts;
      fits = g.fits;
      at_is = g.end_is;
      within = item.within;
      whole = g.whole;
      kept = λ e. new_is ∙ ap (λ (t : List Span). t ++ option_to_list span) (w.kept e) ∙ sym g.spans;
      many = λ e. omega (arith, w.many e, ap length g.spans, length-append (spans_at 24 w.xs) (option_to_list span));
      room = omega (arith, w.room);
    }

length-some : (span : Option Span) → IsSome span → length (option_to_list span) ≡ 1
length-some None some = absurd (cc)
length-some (Some s) some = refl

-- there are more than 8 once memory was refused
crowded : (lacks : Bool) (spans : List Span) (was added : List Span) (capacity : ℕ) → (lacks ≡ false → spans ≡ was) → (lacks ≡ true → 8 < length was)
    → 8 ≤ capacity → capacity ≤ length spans → length added ≡ 1 → 8 < length (was ++ added)
crowded true spans was added capacity kept many room full one = omega (arith, many refl, length-append was added)
crowded false spans was added capacity kept many room full one = omega (arith, ap length (kept refl), length-append was added)

pub walk-lacks : (bytes : List ℕ) (at end : ℕ) (span : Option Span) (spans new : List Span) (capacity more : ℕ) (lacks : Bool)
    → IsWalk bytes at spans capacity lacks → ReadsItem bytes at span end → capacity ≤ length spans → IsSome span → capacity ≤ more
    → IsWalk bytes end new more true
walk-lacks bytes at end span spans new capacity more lacks w item full some grows =
    let g : IsGrown bytes at end span w.xs = grown bytes at end span spans capacity lacks w item in
    let long : 8 < length (spans_at 24 w.xs ++ option_to_list span) =
    crowded lacks spans (spans_at 24 w.xs) (option_to_list span) capacity w.kept w.many w.room full (length-some span some) in
    record {
      xs = g.all;
      parts = g.parts;
      fits = g.fits;
      at_is = g.end_is;
      within = item.within;
      whole = g.whole;
      kept = λ e. absurd (cc);
      many = λ e. omega (arith, long, ap length g.spans);
      room = omega (arith, w.room);
    }

-- ---- the end of the walk

all_read : (bytes : List ℕ) (at : ℕ) (spans : List Span) (capacity : ℕ) (lacks : Bool) → (w : IsWalk bytes at spans capacity lacks) → length bytes ≤ at
    → drop 24 bytes ≡ wires_text w.xs
all_read bytes at spans capacity lacks w done = grind (arith, drop_all, append-nil)

pub walk-reads : (bytes : List ℕ) (at : ℕ) (spans : List Span) (capacity : ℕ) (lacks : Bool) → IsWalk bytes at spans capacity lacks → length bytes ≤ at
    → lacks ≡ false → ReadsItems bytes spans
walk-reads bytes at spans capacity lacks w done none = record {
  xs = w.xs;
  text = all_read bytes at spans capacity lacks w done;
  fits = w.fits;
  spans_are = w.kept none;
}

pub walk-many : (bytes : List ℕ) (at : ℕ) (spans : List Span) (capacity : ℕ) (lacks : Bool) → IsWalk bytes at spans capacity lacks → length bytes ≤ at
    → lacks ≡ true → HasMany bytes
walk-many bytes at spans capacity lacks w done some = record {
  xs = w.xs;
  text = all_read bytes at spans capacity lacks w done;
  fits = w.fits;
  many = w.many some;
}

-- ---- what a test of a result tells

pub fact_at_err : {T E : Type 0} (r : Result T E) (P : Type 0) → true ≡ is_err r → OnErr r P → P
fact_at_err (Ok x) P is on = absurd (cc)
fact_at_err (Err e) P is on = on

pub fact_at_ok : {T E : Type 0} (r : Result T E) (P : Type 0) → false ≡ is_err r → OnOk r P → P
fact_at_ok (Ok x) P is on = on
fact_at_ok (Err e) P is on = absurd (cc)
