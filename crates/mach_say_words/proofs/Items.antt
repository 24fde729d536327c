-- Going through the items of a message: what is left of its data, and of the kinds of its rights.
use Rattle.std.proofs.Common.{◌≡◌, ℕ, zero, suc, ◌+◌, ◌-◌, ◌<◌, ◌≤◌, List, [], ◌∷◌, ◌++◌, Some, None, Option, length, refl, sym, ap, ◌∙◌, arith}
use Rattle.std.specs.Prelude.{All, slice_get, map}
use Rattle.std.proofs.lemmas.List.Elements.{All-head, All-tail}
use Rattle.mach_types.specs.Grammar.{IsWire, Wire, wires_text}
use Rattle.message_codec.specs.declared.reader.ReceivedItem.{ReceivedItem}
use Rattle.message_codec.specs.ReceivedShows.{GivesFirst, ItemShows}
use Rattle.mach_say_words.specs.Bodies.{item_data, item_kinds, items_data, items_kinds}

-- Of each list of items with the text `start` those are left whose text is `left`. If their data is `rest`, that of all is `whole`.
abbrev pub LeavesData : (start whole left rest : List ℕ) → Type 0
LeavesData start whole left rest = (xs : List Wire) → All IsWire xs → start ≡ wires_text xs
    → (ys : List Wire) × All IsWire ys × (left ≡ wires_text ys) × (items_data ys ≡ rest → items_data xs ≡ whole)

-- Of these items the first is given, and others are left.
abbrev pub Gives : (left : List ℕ) → Option ReceivedItem → (new : List ℕ) → Type 0
Gives left given new = (xs : List Wire) → All IsWire xs → left ≡ wires_text xs → GivesFirst xs given new

-- The same list, for the kinds of its rights from a number on.
abbrev pub LeavesKinds : (start : List ℕ) → (number : ℕ) → (left : List ℕ) → (at : ℕ) → Type 0
LeavesKinds start number left at = (xs : List Wire) → All IsWire xs → start ≡ wires_text xs
    → (ys : List Wire) × All IsWire ys × (left ≡ wires_text ys) × (slice_get (items_kinds xs) number ≡ slice_get (items_kinds ys) at)

pub start-data : (start whole : List ℕ) → LeavesData start whole start whole
start-data start whole xs are text = (xs, are, text, λ e. e)

pub start-kinds : (start : List ℕ) (number : ℕ) → LeavesKinds start number start number
start-kinds start number xs are text = (xs, are, text, refl)

-- The first item's data is cut off.
next-data-of : (whole rest rest' : List ℕ) (xs ys : List Wire) (item : ReceivedItem) (new : List ℕ) → All IsWire ys → (items_data ys ≡ rest → items_data xs ≡ whole)
    → GivesFirst ys (Some item) new → ((x : Wire) → ItemShows item x → item_data x ++ rest' ≡ rest)
    → (zs : List Wire) × All IsWire zs × (new ≡ wires_text zs) × (items_data zs ≡ rest' → items_data xs ≡ whole)
next-data-of whole rest rest' xs [] item new are leads given cuts = absurd given
next-data-of whole rest rest' xs (y ∷ zs) item new are leads given cuts =
    (zs, All-tail IsWire y zs are, given.1, λ e. leads (ap (λ (l : List ℕ). item_data y ++ l) e ∙ cuts y given.0))

pub next-data : (start whole left rest : List ℕ) (item : ReceivedItem) (new rest' : List ℕ) → LeavesData start whole left rest → Gives left (Some item) new
    → ((x : Wire) → ItemShows item x → item_data x ++ rest' ≡ rest) → LeavesData start whole new rest'
next-data start whole left rest item new rest' leaves gives cuts xs are text =
    let l = leaves xs are text in
    next-data-of whole rest rest' xs l.0 item new l.1 l.3 (gives l.0 l.1 l.2) cuts

-- The first item's rights are passed by.
next-kinds-of : (of : Option ℕ) (at at' : ℕ) (ys : List Wire) (item : ReceivedItem) (new : List ℕ) → All IsWire ys → of ≡ slice_get (items_kinds ys) at
    → GivesFirst ys (Some item) new → ((x : Wire) → IsWire x → ItemShows item x → (ks : List ℕ) → slice_get (item_kinds x ++ ks) at ≡ slice_get ks at')
    → (zs : List Wire) × All IsWire zs × (new ≡ wires_text zs) × (of ≡ slice_get (items_kinds zs) at')
next-kinds-of of at at' [] item new are is given skips = absurd given
next-kinds-of of at at' (y ∷ zs) item new are is given skips =
    (zs, All-tail IsWire y zs are, given.1, is ∙ skips y (All-head IsWire y zs are) given.0 (items_kinds zs))

pub next-kinds : (start : List ℕ) (number : ℕ) (left : List ℕ) (at : ℕ) (item : ReceivedItem) (new : List ℕ) (at' : ℕ) → LeavesKinds start number left at
    → Gives left (Some item) new → ((x : Wire) → IsWire x → ItemShows item x → (ks : List ℕ) → slice_get (item_kinds x ++ ks) at ≡ slice_get ks at')
    → LeavesKinds start number new at'
next-kinds start number left at item new at' leaves gives skips xs are text =
    let l = leaves xs are text in
    next-kinds-of (slice_get (items_kinds xs) number) at at' l.0 item new l.1 l.3 (gives l.0 l.1 l.2) skips

-- The right is one of the first item.
here-kinds-of : (at kind : ℕ) (ys : List Wire) (item : ReceivedItem) (new : List ℕ) → All IsWire ys
    → GivesFirst ys (Some item) new → ((x : Wire) → IsWire x → ItemShows item x → (ks : List ℕ) → slice_get (item_kinds x ++ ks) at ≡ Some kind)
    → slice_get (items_kinds ys) at ≡ Some kind
here-kinds-of at kind [] item new are given found = absurd given
here-kinds-of at kind (y ∷ zs) item new are given found = found y (All-head IsWire y zs are) given.0 (items_kinds zs)

pub here-kinds : (start : List ℕ) (number : ℕ) (left : List ℕ) (at : ℕ) (item : ReceivedItem) (new : List ℕ) (kind : ℕ) → LeavesKinds start number left at
    → Gives left (Some item) new → ((x : Wire) → IsWire x → ItemShows item x → (ks : List ℕ) → slice_get (item_kinds x ++ ks) at ≡ Some kind)
    → (xs : List Wire) → All IsWire xs → start ≡ wires_text xs → slice_get (items_kinds xs) number ≡ Some kind
here-kinds start number left at item new kind leaves gives found xs are text =
    let l = leaves xs are text in
    l.3 ∙ here-kinds-of at kind l.0 item new l.1 (gives l.0 l.1 l.2) found

-- Each of so many words has the kind of their item; behind them are those of the next.
pub word-found : (kind : ℕ) (words : List ℕ) (n w : ℕ) (ks : List ℕ) → slice_get words n ≡ Some w → slice_get (map (λ word. kind) words ++ ks) n ≡ Some kind
word-found kind [] n w ks e = absurd (let e' : None ≡ Some w = e in cc)
word-found kind (x ∷ words) zero w ks e = refl
word-found kind (x ∷ words) (suc n) w ks e = word-found kind words n w ks e

pub word-past : (kind : ℕ) (words : List ℕ) (n m : ℕ) (ks : List ℕ) → n ≡ length words + m → slice_get (map (λ word. kind) words ++ ks) n ≡ slice_get ks m
word-past kind [] n m ks e = ap (λ (i : ℕ). slice_get ks i) (let e' : n ≡ 0 + m = e in omega (arith, e'))
word-past kind (x ∷ words) zero m ks e = absurd (let e' : zero ≡ suc (length words) + m = e in omega (arith, e'))
word-past kind (x ∷ words) (suc n) m ks e = word-past kind words n m ks (let e' : suc n ≡ suc (length words) + m = e in omega (arith, e'))

pub past-words : (words : List ℕ) (n : ℕ) → slice_get words n ≡ None → length words ≤ n
past-words [] n e = omega arith
past-words (x ∷ words) zero e = absurd (let e' : Some x ≡ None = e in cc)
past-words (x ∷ words) (suc n) e = let i = past-words words n e in omega (arith, i)
