-- What is read of texts, and which bytes are none.
use Rattle.std.proofs.Common.{◌≡◌, ℕ, ◌+◌, ◌-◌, ◌*◌, ◌/◌, ◌%◌, ◌^◌, ◌<◌, ◌≤◌, Some, None, Result, Ok, Err, List, [], ◌∷◌, ◌++◌, length, take, drop, get_or, slice_get, refl, sym, ap, subst, ◌∙◌, arith, length-append, append_assoc, All, ◌⊎◌, inl, inr}
use Rattle.std.specs.Borrow.{Bor}
use Rattle.std.proofs.lemmas.List.{append-nil, drop_at, take_at}
use Rattle.std.proofs.lemmas.Option.{slice_get-get_or}
use Rattle.mach_types.specs.declared.codes.MsgReturn.{MsgReturn}
use Rattle.mach_types.specs.Grammar.{Header, Wire, data_item, port_item, wire_text, wires_text, words_text, descriptor_text, IsWire, FitsForm, NamesPorts, WireBody, raw, items, text, body_text, Spells, complex_bit, bits, IsHeader}
use Rattle.mach_types.specs.Messages.{Form, short, long}
use Rattle.mach_types.specs.TextGuards.{data_length, is_bit, word_at}
use Rattle.type_descriptor.specs.declared.descriptor.Descriptor.{Descriptor}
use Rattle.type_descriptor.specs.Describes.{Describes, IsDescriptor, form_of, form_length, text_of}
use Rattle.message_codec.specs.declared.reader.ReceivedItem.{ReceivedItem}
use Rattle.message_codec.specs.declared.reader.ReceivedItem.TheVariants.{Data, Ports}
use Rattle.message_codec.specs.ReceivedShows.{NotBody, FirstOf, ItemOf, ItemShows, HasBody, HeaderShows, BodyShows}
use Rattle.message_codec.specs.Parses.{header_at}
use Rattle.message_codec.specs.declared.reader.ReceivedHeader.{ReceivedHeader}
use Rattle.message_codec.specs.declared.reader.ReceivedBody.{ReceivedBody}
use Rattle.message_codec.specs.declared.reader.ReceivedBody.TheVariants.{Raw, Items}
use Rattle.type_descriptor.proofs.ByteWords.{word_at-word}
use Rattle.message_codec.specs.Spans.{is_long}
use Rattle.message_codec.proofs.Fronts.{length-descriptor_text}
use Rattle.message_codec.proofs.Messages.{raw_bits}
use Rattle.message_codec.proofs.ReadWords.{word_in}
use Rattle.message_codec.proofs.Shapes.{HasShape, shape_of, length-wire_text, form_length-mod, form_length-ge, text_not_refused, length-words_text, All-head, All-tail}

-- ---- messages

wires-whole : (xs : List Wire) → All IsWire xs → length (wires_text xs) % 4 ≡ 0
wires-whole [] are = refl
wires-whole (x ∷ xs) are =
    let s : HasShape x = shape_of x (All-head IsWire x xs are) in
    omega (arith, length-append (wire_text x) (wires_text xs), length-wire_text x s, form_length-mod s.form, s.whole, wires-whole xs (All-tail IsWire x xs are))

length-of : (h : Header) (w : WireBody) → length (text h w) ≡ 24 + length (body_text w)
length-of h w = omega arith

body_in : (h : Header) (w : WireBody) → drop 24 (text h w) ≡ body_text w
body_in h w = refl

-- a text is long enough, and whole words
pub spelled-length : (bytes : List ℕ) (h : Header) (w : WireBody) → Spells bytes h w → (24 ≤ length bytes) × (length bytes % 4 ≡ 0)
spelled-length bytes h (raw body) s = grind (arith, length-of)
spelled-length bytes h (items xs) s =
    let len : length bytes ≡ 24 + length (wires_text xs) = ap length s.is_text ∙ length-of h (items xs) in
    let whole : length (wires_text xs) % 4 ≡ 0 = wires-whole xs s.body_fits in
    (omega arith, omega arith)

pub not_body : (bytes : List ℕ) (h : Header) (w : WireBody) → Spells bytes h w → NotBody bytes → ⊥
not_body bytes h (raw body) s bad = raw_bits h body s.header_fits (subst (λ (t : List ℕ). is_bit (word_at t 0) 31) s.is_text bad.0)
not_body bytes h (items xs) s bad = text_not_refused (drop 24 bytes) xs bad.1.0 s.body_fits (ap (drop 24) s.is_text ∙ body_in h (items xs)) bad.1.1

-- ---- items

abbrev elements_of : Wire → List ℕ
elements_of (data_item form name size number bytes padding) = bytes
elements_of (port_item form disposition words) = words_text words

abbrev padding_of : Wire → List ℕ
padding_of (data_item form name size number bytes padding) = padding
padding_of (port_item form disposition words) = []

-- The item stands in front, with this descriptor.
record IsFirst (bytes : List ℕ) (d : Descriptor) (x : Wire) (ys : List Wire) : Type 0 where
  pub rest : drop (form_length (form_of d.long)) bytes ≡ elements_of x ++ (padding_of x ++ wires_text ys)
  pub count : length (elements_of x) ≡ data_length d.size d.number
  pub pad : length (padding_of x) ≡ (4 - length (elements_of x) % 4) % 4
  pub shows : (item : ReceivedItem) → ItemOf d (elements_of x) item → ItemShows item x

form_of-is_long : (f : Form) → form_of (is_long f) ≡ f
form_of-is_long short = refl
form_of-is_long long = refl

same_ok : (r : Result Descriptor MsgReturn) (a b : Descriptor) → r ≡ Ok a → r ≡ Ok b → a ≡ b
same_ok r a b is e = cc

data-shows : (f : Form) (n s c : ℕ) (b p : List ℕ) (d : Descriptor) (item : ReceivedItem) → ¬ (NamesPorts n) → d.name ≡ n → d.size ≡ s → d.number ≡ c → ItemOf d b item
    → ItemShows item (data_item f n s c b p)
data-shows f n s c b p d (Data x) plain name size number of = (of.1 ∙ name, of.2 ∙ size, of.3 ∙ number, of.4)
data-shows f n s c b p d (Ports x) plain name size number of = absurd (plain (subst NamesPorts name of.0))

port-shows : (f : Form) (n : ℕ) (ws : List ℕ) (d : Descriptor) (item : ReceivedItem) → NamesPorts n → d.name ≡ n → ItemOf d (words_text ws) item → ItemShows item (port_item f n ws)
port-shows f n ws d (Data x) ports name of = absurd (of.0 (subst NamesPorts (sym name) ports))
port-shows f n ws d (Ports x) ports name of = (of.1 ∙ name, of.2)

-- Each descriptor whose text stands in front is the one that was read.
abbrev pub OnlyReads : List ℕ → Result Descriptor MsgReturn → Type 0
OnlyReads bytes r = (e : Descriptor) (rest : List ℕ) → IsDescriptor e → drop 0 bytes ≡ text_of e ++ rest → r ≡ Ok e

abbrev descriptor_for : Form → (name size number : ℕ) → Descriptor
descriptor_for f n s c = record { name = n; size = s; number = c; long = is_long f }

text_of-for : (f : Form) (n s c : ℕ) → text_of (descriptor_for f n s c) ≡ descriptor_text f n s c
text_of-for f n s c = ap (λ (g : Form). descriptor_text g n s c) (form_of-is_long f)

-- the descriptor of a text's first item
chosen : (f : Form) (n s c : ℕ) (bytes rest : List ℕ) (r : Result Descriptor MsgReturn) → OnlyReads bytes r → FitsForm f n s c → (NamesPorts n → s ≡ 32)
    → bytes ≡ descriptor_text f n s c ++ rest → r ≡ Ok (descriptor_for f n s c)
chosen f n s c bytes rest r reads fits right is =
    reads (descriptor_for f n s c) rest (record { fits = rw (form_of-is_long f) fits; right_size = right }) (is ∙ ap (λ (t : List ℕ). t ++ rest) (sym (text_of-for f n s c)))

after_text : (f : Form) (n s c : ℕ) (bytes rest : List ℕ) → bytes ≡ descriptor_text f n s c ++ rest → drop (form_length (form_of (is_long f))) bytes ≡ rest
after_text f n s c bytes rest is = grind (arith, form_of-is_long, drop_at, length-descriptor_text)

data_text : (f : Form) (n s c : ℕ) (b p tail : List ℕ) → wire_text (data_item f n s c b p) ++ tail ≡ descriptor_text f n s c ++ (b ++ (p ++ tail))
data_text f n s c b p tail = grind (arith, append_assoc)

port_text : (f : Form) (n : ℕ) (ws tail : List ℕ) → wire_text (port_item f n ws) ++ tail ≡ descriptor_text f n 32 (length ws) ++ (words_text ws ++ tail)
port_text f n ws tail = append_assoc (descriptor_text f n 32 (length ws)) (words_text ws) tail

pad_is : (count pad : ℕ) → pad < 4 → (count + pad) % 4 ≡ 0 → pad ≡ (4 - count % 4) % 4
pad_is count pad few whole = omega arith

no_pad : (n count : ℕ) → count ≡ 4 * n → 0 ≡ (4 - count % 4) % 4
no_pad n count is = omega arith

four : (n count : ℕ) → count ≡ 4 * n → count ≡ (n * 32 + 7) / 8
four n count is = omega arith

is_first : (x : Wire) (ys : List Wire) (bytes : List ℕ) (d : Descriptor) → IsWire x → bytes ≡ wire_text x ++ wires_text ys → OnlyReads bytes (Ok d) → IsFirst bytes d x ys
is_first (data_item f n s c b p) ys bytes d is e reads =
    let x = data_item f n s c b p in
    let parts : bytes ≡ descriptor_text f n s c ++ (b ++ (p ++ wires_text ys)) = e ∙ data_text f n s c b p (wires_text ys) in
    let same : d ≡ descriptor_for f n s c = same_ok (Ok d) d (descriptor_for f n s c) refl (chosen f n s c bytes (b ++ (p ++ wires_text ys)) (Ok d) reads is.0 (λ h. absurd (is.1 h)) parts) in
    let facts : IsFirst bytes (descriptor_for f n s c) x ys = record {
      rest = after_text f n s c bytes (b ++ (p ++ wires_text ys)) parts;
      count = is.2;
      pad = pad_is (length b) (length p) is.3 is.4;
      shows = λ item of. data-shows f n s c b p (descriptor_for f n s c) item is.1 refl refl refl of;
    } in
    subst (λ (k : Descriptor). IsFirst bytes k x ys) (sym same) facts
is_first (port_item f n ws) ys bytes d is e reads =
    let x = port_item f n ws in
    let c = length ws in
    let parts : bytes ≡ descriptor_text f n 32 c ++ (words_text ws ++ wires_text ys) = e ∙ port_text f n ws (wires_text ys) in
    let same : d ≡ descriptor_for f n 32 c = same_ok (Ok d) d (descriptor_for f n 32 c) refl (chosen f n 32 c bytes (words_text ws ++ wires_text ys) (Ok d) reads is.0 (λ h. refl) parts) in
    let facts : IsFirst bytes (descriptor_for f n 32 c) x ys = record {
      rest = after_text f n 32 c bytes (words_text ws ++ wires_text ys) parts;
      count = four c (length (words_text ws)) (length-words_text ws);
      pad = no_pad c (length (words_text ws)) (length-words_text ws);
      shows = λ item of. port-shows f n ws (descriptor_for f n 32 c) item is.1 refl of;
    } in
    subst (λ (k : Descriptor). IsFirst bytes k x ys) (sym same) facts

not_ok : (r : Result Descriptor MsgReturn) (code : MsgReturn) (d : Descriptor) → r ≡ Err code → r ≡ Ok d → ⊥
not_ok r code d is e = cc

-- no descriptor was read
pub first-none : (xs : List Wire) (bytes : List ℕ) (code : MsgReturn) → All IsWire xs → bytes ≡ wires_text xs → OnlyReads bytes (Err code) → FirstOf xs None
first-none [] bytes code are e reads = tt
first-none (x ∷ ys) bytes code are e reads =
    let s : HasShape x = shape_of x (All-head IsWire x ys are) in
    let parts : bytes ≡ descriptor_text s.form s.name s.size s.number ++ (s.data_bytes ++ wires_text ys) =
    e ∙ ap (λ (t : List ℕ). t ++ wires_text ys) s.text ∙ append_assoc (descriptor_text s.form s.name s.size s.number) s.data_bytes (wires_text ys) in
    absurd (not_ok (Err code) code (descriptor_for s.form s.name s.size s.number) refl (chosen s.form s.name s.size s.number bytes (s.data_bytes ++ wires_text ys) (Err code) reads s.fits s.right parts))

-- the data is not all there
pub first-short : (xs : List Wire) (bytes rest : List ℕ) (d : Descriptor) → All IsWire xs → bytes ≡ wires_text xs → OnlyReads bytes (Ok d)
    → rest ≡ drop (form_length (form_of d.long)) bytes → length rest < data_length d.size d.number → FirstOf xs None
first-short [] bytes rest d are e reads rest_is few = tt
first-short (x ∷ ys) bytes rest d are e reads rest_is few =
    let f = is_first x ys bytes d (All-head IsWire x ys are) e reads in
    let len : length rest ≡ length (elements_of x) + length (padding_of x ++ wires_text ys) = ap length (rest_is ∙ f.rest) ∙ length-append (elements_of x) (padding_of x ++ wires_text ys) in
    absurd (omega (arith, f.count))

-- what stands behind the descriptor
split_first : (x : Wire) (ys : List Wire) (bytes rest : List ℕ) (d : Descriptor) (len : ℕ) → IsFirst bytes d x ys → rest ≡ drop (form_length (form_of d.long)) bytes
    → len ≡ data_length d.size d.number → (take len rest ≡ elements_of x) × (drop len rest ≡ padding_of x ++ wires_text ys)
split_first x ys bytes rest d len f rest_is len_is = grind (arith, take_at, drop_at)

pub first-cut : (xs : List Wire) (bytes rest elements after : List ℕ) (d : Descriptor) (len : ℕ) → All IsWire xs → bytes ≡ wires_text xs → OnlyReads bytes (Ok d)
    → rest ≡ drop (form_length (form_of d.long)) bytes → len ≡ data_length d.size d.number → elements ≡ take len rest → after ≡ drop len rest
    → length after < (4 - length elements % 4) % 4 → FirstOf xs None
first-cut [] bytes rest elements after d len are e reads rest_is len_is elements_is after_is few = tt
first-cut (x ∷ ys) bytes rest elements after d len are e reads rest_is len_is elements_is after_is few =
    let f = is_first x ys bytes d (All-head IsWire x ys are) e reads in
    let p = split_first x ys bytes rest d len f rest_is len_is in
    let one : length elements ≡ length (elements_of x) = ap length (elements_is ∙ p.0) in
    let two : length after ≡ length (padding_of x) + length (wires_text ys) = ap length (after_is ∙ p.1) ∙ length-append (padding_of x) (wires_text ys) in
    let same : (4 - length elements % 4) % 4 ≡ length (padding_of x) = ap (λ (n : ℕ). (4 - n % 4) % 4) one ∙ sym f.pad in
    absurd (omega arith)

pub first-shows : (xs : List Wire) (bytes rest elements after : List ℕ) (left : Bor (List ℕ)) (item : ReceivedItem) (d : Descriptor) (len : ℕ) → All IsWire xs → bytes ≡ wires_text xs
    → OnlyReads bytes (Ok d) → Describes (drop 0 bytes) d → rest ≡ drop (form_length (form_of d.long)) bytes → len ≡ data_length d.size d.number → elements ≡ take len rest
    → after ≡ drop len rest → left.now ≡ drop ((4 - length elements % 4) % 4) after → ItemOf d elements item → FirstOf xs (Some (item, left))
first-shows [] bytes rest elements after left item d len are e reads has rest_is len_is elements_is after_is left_is of = grind (arith, length-append, length-descriptor_text, form_length-ge)
first-shows (x ∷ ys) bytes rest elements after left item d len are e reads has rest_is len_is elements_is after_is left_is of =
    let f = is_first x ys bytes d (All-head IsWire x ys are) e reads in
    let p = split_first x ys bytes rest d len f rest_is len_is in
    let mine : elements ≡ elements_of x = elements_is ∙ p.0 in
    let behind : after ≡ padding_of x ++ wires_text ys = after_is ∙ p.1 in
    let same : length (padding_of x) ≡ (4 - length elements % 4) % 4 = f.pad ∙ ap (λ (n : ℕ). (4 - n % 4) % 4) (ap length (sym mine)) in (
      f.shows item (subst (λ (t : List ℕ). ItemOf d t item) mine of),
      left_is ∙ ap (drop ((4 - length elements % 4) % 4)) behind ∙ drop_at (padding_of x) (wires_text ys) ((4 - length elements % 4) % 4) same,
    )

-- a name that is read
pub name-read : (bytes names : List ℕ) (index value : ℕ) → All (λ (w : ℕ). w < 2 ^ 32) names → bytes ≡ words_text names → index < length names
    → value ≡ word_at bytes (4 * index) → Some value ≡ slice_get names index
name-read bytes names index value fit is within read =
    let whole : bytes ≡ words_text names ++ [] = is ∙ sym (append-nil (words_text names)) in
    let word : value ≡ get_or names index 0 = read ∙ ap (λ (t : List ℕ). word_at t (4 * index)) whole ∙ word_in names [] index fit within in
    ap (λ (v : ℕ). Some v) word ∙ sym (slice_get-get_or names index 0 within)

-- ---- a text says one thing

flag-first : (r l flag w : ℕ) → r < 2 ^ 8 → l < 2 ^ 8 → w ≡ r + l * 2 ^ 8 + flag → (flag ≡ 0) ⊎ (flag ≡ 2 ^ 31)
    → (w % 2 ^ 8 ≡ r) × (w / 2 ^ 8 % 2 ^ 8 ≡ l) × (flag ≡ w / 2 ^ 31 * 2 ^ 31) × (w < 2 ^ 32)
flag-first r l flag w small few is either = grind arith

flag-either : (w : WireBody) → (complex_bit w ≡ 0) ⊎ (complex_bit w ≡ 2 ^ 31)
flag-either (raw bytes) = inl refl
flag-either (items xs) = inr refl

first-word : (h : Header) (w : WireBody) → IsHeader h → word_at (text h w) 0 ≡ bits h w
first-word h w fits = grind (arith, word_at-word, flag-first, flag-either)

-- the words that stand in a text are the header's
pub header-exact : (bytes : List ℕ) (h : Header) (w : WireBody) (read : ReceivedHeader) → Spells bytes h w → HeaderShows read (header_at bytes) → HeaderShows read h
header-exact bytes h w read s shows = grind (arith, first-word, flag-first, flag-either, word_at-word)

same-body : (read : ReceivedBody) (written other : WireBody) → complex_bit written ≡ complex_bit other → body_text written ≡ body_text other → BodyShows read written → BodyShows read other
same-body (Raw b) (raw x) (raw y) flag is shows = shows ∙ is
same-body (Items b) (items xs) (items ys) flag is shows = shows ∙ is
same-body read (raw x) (items ys) flag is shows = absurd (omega arith)
same-body read (items xs) (raw y) flag is shows = absurd (omega arith)
same-body (Raw b) (items xs) (items ys) flag is shows = absurd shows
same-body (Items b) (raw x) (raw y) flag is shows = absurd shows

pub body-exact : (bytes : List ℕ) (h : Header) (w : WireBody) (read : ReceivedBody) → Spells bytes h w → HasBody bytes read → BodyShows read w
body-exact bytes h w read s has = grind (arith, first-word, flag-first, flag-either, same-body, body_in)
