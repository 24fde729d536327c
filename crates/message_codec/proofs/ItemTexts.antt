-- The item that stands behind a descriptor which was read.
use Rattle.std.proofs.Common.{◌≡◌, ℕ, zero, suc, ◌+◌, ◌-◌, ◌*◌, ◌/◌, ◌%◌, ◌^◌, ◌<◌, ◌≤◌, inl, inr, Bool, true, false, Option, Some, None, List, [], ◌∷◌, ◌++◌, length, take, drop, refl, sym, ap, subst, ◌∙◌, arith, length-append, append_assoc, All}
use Rattle.std.proofs.lemmas.Bool.{cases_eq}
use Rattle.std.proofs.lemmas.List.{drop_at, drop-drop, take-append-drop, length-drop, length-take-le, get_or-drop}
use Rattle.mach_types.specs.declared.codes.MsgReturn.TheVariants.{SendMsgTooSmall}
use Rattle.mach_types.specs.Codes.{msg_number}
use Rattle.mach_types.specs.Grammar.{word, words_text, data_item, port_item, descriptor_text, NamesPorts}
use Rattle.mach_types.specs.TextGuards.{IsDescriptorLength, ItemRefuses, word_at, data_length}
use Rattle.type_descriptor.specs.declared.descriptor.Descriptor.{Descriptor}
use Rattle.type_descriptor.specs.Describes.{Describes, DescriptorRefuses, form_of, form_length, text_of}
use Rattle.type_descriptor.proofs.ByteWords.{AreBytes, word-word_at, word_at-lt}
use Rattle.message_codec.specs.declared.spans.Span.{Span}
use Rattle.message_codec.specs.Reading.{DescriptorSpan, ReadsItem}
use Rattle.message_codec.specs.Spans.{is_long}
use Rattle.message_codec.proofs.Fronts.{IsFront, front_of, length-descriptor_text}
use Rattle.message_codec.proofs.Shapes.{All-cons, form_length-mod, length-words_text}

-- ---- words

AreBytes-drop : (n : ℕ) (bytes : List ℕ) → AreBytes bytes → AreBytes (drop n bytes)
AreBytes-drop n bytes are = record { below = λ k. rw (get_or-drop n bytes k 0) (are.below (n + k)) }

-- so many words from the front
words_of : ℕ → List ℕ → List ℕ
words_of zero bytes = []
words_of (suc n) bytes = word_at bytes 0 ∷ words_of n (drop 4 bytes)

length-words_of : (n : ℕ) (bytes : List ℕ) → length (words_of n bytes) ≡ n
unfolding words_of
length-words_of zero bytes = refl
length-words_of (suc n) bytes = ap suc (length-words_of n (drop 4 bytes))

words_of-fit : (n : ℕ) (bytes : List ℕ) → AreBytes bytes → All (λ (w : ℕ). w < 2 ^ 32) (words_of n bytes)
unfolding words_of
words_of-fit zero bytes are = λ k d h. absurd (omega arith)
words_of-fit (suc n) bytes are =
    All-cons (λ (w : ℕ). w < 2 ^ 32) (word_at bytes 0) (words_of n (drop 4 bytes)) (word_at-lt bytes 0 are) (words_of-fit n (drop 4 bytes) (AreBytes-drop 4 bytes are))

words_text-words_of : (n : ℕ) (bytes : List ℕ) → AreBytes bytes → 4 * n ≤ length bytes → bytes ≡ words_text (words_of n bytes) ++ drop (4 * n) bytes
unfolding words_of
words_text-words_of zero bytes are room = refl
words_text-words_of (suc n) bytes are room =
    let first : bytes ≡ word (word_at bytes 0) ++ drop 4 bytes = word-word_at bytes 0 are (omega arith) in
    let rest = words_text-words_of n (drop 4 bytes) (AreBytes-drop 4 bytes are) (omega (arith, length-drop 4 bytes)) in
    let same : drop (4 * n) (drop 4 bytes) ≡ drop (4 * suc n) bytes =
    drop-drop (4 * n) 4 bytes ∙ (let e : 4 + 4 * n ≡ 4 * suc n = omega arith in ap (λ (m : ℕ). drop m bytes) e) in
    first ∙ ap (λ (r : List ℕ). word (word_at bytes 0) ++ r) (rest ∙ ap (λ (r : List ℕ). words_text (words_of n (drop 4 bytes)) ++ r) same)

-- ---- the item

-- What follows a descriptor that was read.
after_descriptor : (bytes : List ℕ) (at : ℕ) (d : Descriptor) (r : Describes (drop at bytes) d)
    → drop at bytes ≡ text_of d ++ drop (at + form_length (form_of d.long)) bytes
after_descriptor bytes at d r =
    let len : length (text_of d) ≡ form_length (form_of d.long) = length-descriptor_text (form_of d.long) d.name d.size d.number in
    let rest : drop (at + form_length (form_of d.long)) bytes ≡ r.rest =
    sym (drop-drop (form_length (form_of d.long)) at bytes) ∙ ap (drop (form_length (form_of d.long))) r.is_text ∙ drop_at (text_of d) r.rest (form_length (form_of d.long)) len in
    r.is_text ∙ ap (λ (t : List ℕ). text_of d ++ t) (sym rest)

-- A descriptor that was read lies within the bytes.
pub descriptor_within : (bytes : List ℕ) (at : ℕ) (d : Descriptor) → at ≤ length bytes → Describes (drop at bytes) d
    → at + form_length (form_of d.long) ≤ length bytes
descriptor_within bytes at d room r =
    let len : length (text_of d) ≡ form_length (form_of d.long) = length-descriptor_text (form_of d.long) d.name d.size d.number in
    let whole : length (drop at bytes) ≡ length (text_of d) + length r.rest = ap length r.is_text ∙ length-append (text_of d) r.rest in
    omega (arith, length-drop at bytes)

is_long-form_of : (l : Bool) → is_long (form_of l) ≡ l
is_long-form_of true = refl
is_long-form_of false = refl

same_span : (s t : Span) → s.at ≡ t.at → s.long ≡ t.long → s.disposition ≡ t.disposition → s.number ≡ t.number → s ≡ t
same_span s t at l disposition number = grind arith

-- data, and its padding
data_item-reads : (bytes : List ℕ) (at : ℕ) (d : Descriptor) (start count end : ℕ) → at < length bytes → (length bytes - at) % 4 ≡ 0
    → Describes (drop at bytes) d → start ≡ at + form_length (form_of d.long) → count ≡ data_length d.size d.number → count ≤ length bytes - start
    → end ≡ start + (count + 3) / 4 * 4 → ¬ (NamesPorts d.name) → ReadsItem bytes at None end
data_item-reads bytes at d start count end more whole r start_is data_is room end_is plain =
    let rest = drop start bytes in
    let pad = (count + 3) / 4 * 4 - count in
    let head : at + form_length (form_of d.long) ≤ length bytes = descriptor_within bytes at d (omega arith) r in
    let front_mod : form_length (form_of d.long) % 4 ≡ 0 = form_length-mod (form_of d.long) in
    let len_rest : length rest ≡ length bytes - start = length-drop start bytes in
    let fits_end : end ≤ length bytes = omega arith in
    let len_data : length (take count rest) ≡ count = length-take-le count rest (omega arith) in
    let len_after : length (drop count rest) ≡ length rest - count = length-drop count rest in
    let len_pad : length (take pad (drop count rest)) ≡ pad = length-take-le pad (drop count rest) (omega arith) in
    let len_text : length (text_of d) ≡ form_length (form_of d.long) = length-descriptor_text (form_of d.long) d.name d.size d.number in
    let tail : drop pad (drop count rest) ≡ drop end bytes =
    drop-drop pad count rest ∙ drop-drop (count + pad) start bytes ∙ (let e : start + (count + pad) ≡ end = omega arith in ap (λ (n : ℕ). drop n bytes) e) in
    let split : rest ≡ take count rest ++ (take pad (drop count rest) ++ drop end bytes) =
    sym (take-append-drop count rest) ∙ ap (λ (t : List ℕ). take count rest ++ t) (sym (take-append-drop pad (drop count rest)) ∙ ap (λ (t : List ℕ). take pad (drop count rest) ++ t) tail) in
    let wire = data_item (form_of d.long) d.name d.size d.number (take count rest) (take pad (drop count rest)) in
    record {
      wire = wire;
      fits = (r.lawful.fits, plain, len_data ∙ data_is, omega arith, rw (len_data, len_pad) (omega arith));
      parts =
          after_descriptor bytes at d r
          ∙ ap (λ (n : ℕ). text_of d ++ drop n bytes) (sym start_is)
          ∙ ap (λ (t : List ℕ). text_of d ++ t) split
          ∙ sym (append_assoc (text_of d) (take count rest) (take pad (drop count rest) ++ drop end bytes))
          ∙ sym (append_assoc (text_of d ++ take count rest) (take pad (drop count rest)) (drop end bytes));
      end_is = omega (arith, length-append (text_of d ++ take count rest) (take pad (drop count rest)), length-append (text_of d) (take count rest));
      within = fits_end;
      span_is = refl;
    }

-- port words
port_item-reads : (bytes : List ℕ) (at : ℕ) (d : Descriptor) (s : Span) (start count end : ℕ) → AreBytes bytes → at < length bytes
    → Describes (drop at bytes) d → start ≡ at + form_length (form_of d.long) → count ≡ data_length d.size d.number → count ≤ length bytes - start
    → end ≡ start + (count + 3) / 4 * 4 → DescriptorSpan d at (Some s) → ReadsItem bytes at (Some s) end
port_item-reads bytes at d s start count end are more r start_is data_is room end_is span =
    let rest = drop start bytes in
    let size : d.size ≡ 32 = r.lawful.right_size span.0 in
    let words = words_of d.number rest in
    let len_words : length words ≡ d.number = length-words_of d.number rest in
    let head : at + form_length (form_of d.long) ≤ length bytes = descriptor_within bytes at d (omega arith) r in
    let len_rest : length rest ≡ length bytes - start = length-drop start bytes in
    let data_four : count ≡ 4 * d.number = data_is ∙ (let e : data_length d.size d.number ≡ 4 * d.number = rw size (omega arith) in e) in
    let fits_end : end ≤ length bytes = omega arith in
    let len_text : length (text_of d) ≡ form_length (form_of d.long) = length-descriptor_text (form_of d.long) d.name d.size d.number in
    let tail : drop (4 * d.number) rest ≡ drop end bytes =
    drop-drop (4 * d.number) start bytes ∙ (let e : start + 4 * d.number ≡ end = omega arith in ap (λ (n : ℕ). drop n bytes) e) in
    let split : rest ≡ words_text words ++ drop end bytes =
    words_text-words_of d.number rest (AreBytes-drop start bytes are) (omega arith) ∙ ap (λ (t : List ℕ). words_text words ++ t) tail in
    let same_text : text_of d ≡ descriptor_text (form_of d.long) d.name 32 (length words) =
    ap (λ (n : ℕ). descriptor_text (form_of d.long) d.name n d.number) size ∙ ap (λ (n : ℕ). descriptor_text (form_of d.long) d.name 32 n) (sym len_words) in
    record {
      wire = port_item (form_of d.long) d.name words;
      fits = (rw (← size, len_words) r.lawful.fits, span.0, words_of-fit d.number rest (AreBytes-drop start bytes are));
      parts =
          after_descriptor bytes at d r
          ∙ ap (λ (n : ℕ). text_of d ++ drop n bytes) (sym start_is)
          ∙ ap (λ (t : List ℕ). text_of d ++ t) split
          ∙ sym (append_assoc (text_of d) (words_text words) (drop end bytes))
          ∙ ap (λ (t : List ℕ). (t ++ words_text words) ++ drop end bytes) same_text;
      end_is = omega (arith, length-append (descriptor_text (form_of d.long) d.name 32 (length words)) (words_text words), ap length same_text, length-words_text words);
      within = fits_end;
      span_is = ap (λ (t : Span). t ∷ []) (same_span s (record { at = at; long = is_long (form_of d.long); disposition = d.name; number = length words })
          span.1 (span.2 ∙ sym (is_long-form_of d.long)) span.3 (span.4 ∙ sym len_words));
    }

pub item-reads : (bytes : List ℕ) (at : ℕ) (d : Descriptor) (span : Option Span) (start count end : ℕ) → AreBytes bytes → at < length bytes → (length bytes - at) % 4 ≡ 0
    → Describes (drop at bytes) d → start ≡ at + form_length (form_of d.long) → count ≡ data_length d.size d.number → count ≤ length bytes - start
    → end ≡ start + (count + 3) / 4 * 4 → DescriptorSpan d at span → ReadsItem bytes at span end
item-reads bytes at d None start count end are more whole r start_is data_is room end_is plain =
    data_item-reads bytes at d start count end more whole r start_is data_is room end_is plain
item-reads bytes at d (Some s) start count end are more whole r start_is data_is room end_is span =
    port_item-reads bytes at d s start count end are more r start_is data_is room end_is span

-- ---- refusals

-- no bytes for the data
pub item-past_end : (bytes : List ℕ) (at : ℕ) (d : Descriptor) (start : ℕ) → at < length bytes → Describes (drop at bytes) d
    → start ≡ at + form_length (form_of d.long) → length bytes - start < data_length d.size d.number
    → ItemRefuses (drop at bytes) (msg_number SendMsgTooSmall)
item-past_end bytes at d start more r start_is past =
    let e : text_of d ++ r.rest ≡ drop at bytes = sym r.is_text in
    let front : IsFront (drop at bytes) (form_of d.long) d.name d.size d.number =
    subst (λ (t : List ℕ). IsFront t (form_of d.long) d.name d.size d.number) e (front_of (form_of d.long) d.name d.size d.number r.rest r.lawful.fits r.lawful.right_size) in
    let len : length (drop at bytes) ≡ length bytes - at = length-drop at bytes in
    let head : at + form_length (form_of d.long) ≤ length bytes = descriptor_within bytes at d (omega arith) r in
    record {
      name = d.name;
      size = d.size;
      number = d.number;
      fields = front.has;
      before = form_length (form_of d.long);
      before_is = front.before_is;
      refused = inr (front.not_cut, inr (front.good, inl (omega arith, refl)));
    }

-- how long the descriptor is
some_length : (bytes : List ℕ) → (k : ℕ) × IsDescriptorLength bytes k
some_length bytes = elim (cases_eq (word_at bytes 0 / 2 ^ 29 % 2) 1) [
  | inl is_long ↦ (12, ((λ h. refl), (λ h. absurd (h is_long))))
  | inr is_short ↦ (4, ((λ h. absurd (is_short h)), (λ h. refl)))
]

-- a descriptor that is refused
pub item-refused : (bytes : List ℕ) (code : ℕ) → 4 ≤ length bytes → DescriptorRefuses bytes code → ItemRefuses bytes code
item-refused bytes code room r = grind (arith, some_length bytes)
