-- Texts made from fields: their lengths, their guards, and how they are written piece by piece.
use Rattle.std.proofs.Common.{◌≡◌, ◌≢◌, ℕ, ◌+◌, ◌-◌, ◌*◌, ◌%◌, ◌^◌, ◌<◌, ◌≤◌, ◌⊎◌, inl, inr, Option, Some, None, List, [], ◌∷◌, ◌++◌, length, take, drop, map, replicate, get_or, refl, sym, ap, subst, ◌∙◌, arith, length-append, append_assoc, All}
use Rattle.std.proofs.lemmas.Bool.{cases_eq}
use Rattle.std.proofs.lemmas.List.Elements.{All-push}
use Rattle.std.proofs.lemmas.List.{drop_at, take_at, drop_more, take_more, take_all, drop-drop, drop_all, append-nil, length-take-le, length-replicate, take-append-drop}
use Rattle.mach_types.specs.declared.codes.MsgReturn.TheVariants.{SendInvalidHeader}
use Rattle.mach_types.specs.declared.rights.Disposition.{Disposition}
use Rattle.mach_types.specs.declared.rights.Disposition.TheVariants.{MoveReceive, MoveSend, MoveSendOnce, CopySend, MakeSend, MakeSendOnce}
use Rattle.mach_types.specs.Grammar.{wire_text, WireBody, items, IsWire, IsWireBody, Spells, words_text, descriptor_text, bits, complex_bit, body_text, text}
use Rattle.mach_types.specs.Guards.{FirstIs, NoneHolds}
use Rattle.mach_types.specs.Numbers.{most_bytes}
use Rattle.mach_types.specs.Rights.{disposition_number}
use Rattle.mach_types.specs.Codes.{msg_number}
use Rattle.mach_types.specs.TextGuards.{BadHeader, header_guards, word_at}
use Rattle.mach_types.specs.Messages.{Form}
use Rattle.type_descriptor.specs.declared.descriptor.Descriptor.{Descriptor}
use Rattle.type_descriptor.specs.Describes.{form_of, form_length, text_of}
use Rattle.type_descriptor.proofs.ByteWords.{word_at-word}
use Rattle.message_codec.specs.declared.writer.SendHeader.{SendHeader}
use Rattle.message_codec.specs.declared.writer.SendItem.{SendItem}
use Rattle.message_codec.specs.declared.writer.SendItem.TheVariants.{Data, Ports}
use Rattle.message_codec.specs.declared.writer.SendBody.{SendBody}
use Rattle.message_codec.specs.declared.writer.SendBody.TheVariants.{Raw, Items}
use Rattle.message_codec.specs.declared.writer.PortRight.{PortRight}
use Rattle.message_codec.specs.declared.header.Header.{Header as Words}
use Rattle.message_codec.specs.Received.{header_text}
use Rattle.message_codec.specs.Putting.{WordsFit}
use Rattle.message_codec.specs.Writing.{IsItem, IsLength, HasWords, field_guards, form_for, item_wire, items_text, port_wire, IsWritten, padding_length, reply_number, reply_name, with_text, written_body, written_header, written_length, written_text}
use Rattle.message_codec.proofs.Fronts.{length-descriptor_text}
use Rattle.message_codec.proofs.Messages.{message_not_refused}
use Rattle.message_codec.proofs.Shapes.{form_length-mod, length-words_text}

-- ---- pieces

-- a piece written where the last one ended
pub with_text-next : (at : ℕ) (s t bytes : List ℕ) → at + length s + length t ≤ length bytes
    → with_text (at + length s) t (with_text at s bytes) ≡ with_text at (s ++ t) bytes
with_text-next at s t bytes room =
    let front = take at bytes ++ s in
    let rest = drop (at + length s) bytes in
    let len : length front ≡ at + length s = omega (arith, length-append (take at bytes) s, length-take-le at bytes (omega arith)) in
    let kept : take (at + length s) (front ++ rest) ≡ front = take_at front rest (at + length s) len in
    let after : drop (at + length s + length t) (front ++ rest) ≡ drop (at + length s + length t) bytes =
    sym (drop-drop (length t) (at + length s) (front ++ rest)) ∙ ap (drop (length t)) (drop_at front rest (at + length s) len) ∙ drop-drop (length t) (at + length s) bytes in
    let end : at + length s + length t ≡ at + length (s ++ t) = omega (arith, length-append s t) in
    rw (kept, after) (ap (λ (n : ℕ). (front ++ t) ++ drop n bytes) end ∙ ap (λ (r : List ℕ). r ++ drop (at + length (s ++ t)) bytes) (append_assoc (take at bytes) s t))

-- ---- items

pub items_text-drop : (xs : List SendItem) (i : ℕ) (x : SendItem) → i < length xs → x ≡ get_or xs i x
    → items_text (drop i xs) ≡ wire_text (item_wire x) ++ items_text (drop (i + 1) xs)
items_text-drop xs i x within value = grind (arith, drop_more)

pub length-items_text-drop : (xs : List SendItem) (i : ℕ) (x : SendItem) → i < length xs → x ≡ get_or xs i x
    → length (items_text (drop i xs)) ≡ length (wire_text (item_wire x)) + length (items_text (drop (i + 1) xs))
length-items_text-drop xs i x within value =
    ap length (items_text-drop xs i x within value) ∙ length-append (wire_text (item_wire x)) (items_text (drop (i + 1) xs))

-- ---- lengths

pub data-whole : (count : ℕ) → (count + padding_length count) % 4 ≡ 0
data-whole count = omega arith

item-whole : (x : SendItem) → length (wire_text (item_wire x)) % 4 ≡ 0
item-whole (Data name size bytes) = grind (arith, replicate, length-append, length-descriptor_text, form_length-mod, length-replicate, data-whole)
item-whole (Ports disposition names) = grind (arith, length-append, length-descriptor_text, form_length-mod, length-words_text)

pub items-whole : (xs : List SendItem) → length (items_text xs) % 4 ≡ 0
items-whole [] = refl
items-whole (x ∷ xs) = omega (arith, length-append (wire_text (item_wire x)) (items_text xs), item-whole x, items-whole xs)

some_order : (a b : ℕ) → (a ≤ b) ⊎ (b < a)
some_order a b = elim (cases_eq (a - b) 0) [ inl h ↦ inl (omega arith) | inr h ↦ inr (omega arith) ]

-- a length that is told, and that a message may have, is meant
pub short_length : (told meant : ℕ) → IsLength told meant → told ≤ most_bytes → meant ≤ most_bytes
short_length told meant is short = elim (some_order meant most_bytes) [ inl h ↦ h | inr h ↦ let e : most_bytes < told = is.1 h in omega arith ]

-- ---- guards

pub length-written : (h : SendHeader) (b : SendBody) → length (written_text h b) ≡ written_length b
length-written h b = omega arith

disposition-small : (d : Disposition) → disposition_number d < 2 ^ 8
disposition-small MoveReceive = omega arith
disposition-small MoveSend = omega arith
disposition-small MoveSendOnce = omega arith
disposition-small CopySend = omega arith
disposition-small MakeSend = omega arith
disposition-small MakeSendOnce = omega arith

reply-small : (r : Option PortRight) → reply_number r < 2 ^ 8
reply-small None = omega arith
reply-small (Some r) = let e = disposition-small r.disposition in omega arith

complex-small : (b : SendBody) (n : ℕ) → n < 2 ^ 16 → n + complex_bit (written_body b) < 2 ^ 32
complex-small (Raw bytes) n small = omega arith
complex-small (Items xs) n small = omega arith

written-bits : (h : SendHeader) (b : SendBody) → word_at (written_text h b) 0 ≡ bits (written_header h 0) (written_body b)
written-bits h b = grind (arith, disposition-small, reply-small, word_at-word, complex-small)

written-local : (h : SendHeader) (b : SendBody) → reply_name h.reply < 2 ^ 32 → word_at (written_text h b) 12 ≡ reply_name h.reply
written-local h b small = word_at-word (reply_name h.reply) (drop 16 (written_text h b)) small

pub bad-written : (w : Words) (h : SendHeader) (b : SendBody) → HasWords w h b → w.local < 2 ^ 32
    → BadHeader (word_at (written_text h b) 0) (word_at (written_text h b) 12) ≡ BadHeader w.bits w.local
bad-written w h b has small =
    let local : word_at (written_text h b) 12 ≡ w.local = written-local h b (rw (← has.local) small) ∙ sym has.local in
    let first : word_at (written_text h b) 0 ≡ w.bits = written-bits h b ∙ sym has.bits in
    rw (local, first) refl

not_small : (h : SendHeader) (b : SendBody) → written_length b % 4 ≡ 0 → ¬ ((length (written_text h b) < 24) ⊎ (length (written_text h b) % 4 ≢ 0))
not_small h b whole small = grind (arith, length-written)

pub header-refused : (w : Words) (h : SendHeader) (b : SendBody) → HasWords w h b → w.local < 2 ^ 32 → written_length b % 4 ≡ 0 → written_length b ≤ most_bytes
    → BadHeader w.bits w.local → FirstIs (field_guards h b) (msg_number SendInvalidHeader)
header-refused w h b has small whole short bad = grind (arith, length-written, bad-written, not_small)

pub fields-short : (h : SendHeader) (b : SendBody) → NoneHolds (field_guards h b) → written_length b ≤ most_bytes
fields-short h b none = let long : most_bytes < length (written_text h b) → ⊥ = none.1.0 in let len = length-written h b in omega arith

-- The bytes that were written are the text.
pub written-is : (h : SendHeader) (b : SendBody) (w : Words) (bytes : List ℕ) → HasWords w h b → WordsFit w → w.size ≡ written_length b → written_length b ≤ most_bytes
    → NoneHolds (field_guards h b) → IsWireBody (written_body b) → bytes ≡ header_text w ++ body_text (written_body b) → IsWritten bytes h b
written-is h b w bytes has fit size short none fits is =
    let words : header_text w ++ body_text (written_body b) ≡ written_text h b =
    rw (has.bits, size, has.remote, has.local, has.sequence, has.id) refl in
    let same : bytes ≡ written_text h b = is ∙ words in
    let len : length bytes ≡ written_length b = ap length same ∙ length-written h b in
    let lawful : NoneHolds (header_guards bytes) = subst (λ (t : List ℕ). NoneHolds (header_guards t)) (sym same) (none.0, (none.1.0, (none.1.1.0, tt))) in
    let d = disposition-small h.destination.disposition in
    let spells : Spells bytes (written_header h (length bytes)) (written_body b) = record {
      is_text = same ∙ ap (λ (n : ℕ). text (written_header h n) (written_body b)) (sym len);
      header_fits = record {
        remote_kind = disposition-small h.destination.disposition;
        local_kind = reply-small h.reply;
        size = omega arith;
        remote = rw (← has.remote) fit.remote;
        local = rw (← has.local) fit.local;
        sequence = omega arith;
        id = rw (← has.id) fit.id;
      };
      body_fits = fits;
    } in
    record {
      spells = spells;
      lawful = lawful;
      unrefused = λ code. message_not_refused bytes (written_header h (length bytes)) (written_body b) code spells lawful;
    }

-- what was written into the items of a `Vec`
pub in_vec : (len : ℕ) (new old : List ℕ) → length new ≡ len → take len (new ++ drop (length new) old) ≡ new
in_vec len new old is = take_at new (drop (length new) old) len is

-- ---- items, one by one

pub all-step : (xs : List SendItem) (i : ℕ) (x : SendItem) → i < length xs → x ≡ get_or xs i x → IsItem x → All IsItem (take i xs) → All IsItem (take (i + 1) xs)
all-step xs i x within value is all =
    let more : take (i + 1) xs ≡ take i xs ++ x ∷ [] = take_more xs i x within ∙ ap (λ (y : SendItem). take i xs ++ y ∷ []) (sym value) in
    subst (λ (ys : List SendItem). All IsItem ys) (sym more) (All-push IsItem (take i xs) x all is)

pub all-whole : (xs : List SendItem) (i : ℕ) → length xs ≤ i → All IsItem (take i xs) → All IsItem xs
all-whole xs i done all = subst (λ (ys : List SendItem). All IsItem ys) (take_all i xs done) all

pub body-whole : (b : SendBody) (xs : List SendItem) → written_body b ≡ items (map item_wire xs) → written_length b % 4 ≡ 0
body-whole b xs is = let e : written_length b ≡ 24 + length (items_text xs) = ap (λ (w : WireBody). 24 + length (body_text w)) is in omega (arith, items-whole xs)

pub length-port_wire : (d : ℕ) (names : List ℕ) → length (wire_text (port_wire d names)) ≡ form_length (form_for 32 (length names)) + 4 * length names
length-port_wire d names = grind (arith, length-append, length-descriptor_text, length-words_text)

-- two pieces, and three
pub two_pieces : (at start : ℕ) (d e bytes one two : List ℕ) → start ≡ at + length d → one ≡ with_text at d bytes → two ≡ with_text start e one
    → at + length d + length e ≤ length bytes → two ≡ with_text at (d ++ e) bytes
two_pieces at start d e bytes one two start_is one_is two_is room = grind (arith, with_text-next)

pub three_pieces : (at start place : ℕ) (d e z bytes one two three : List ℕ) → start ≡ at + length d → place ≡ start + length e → one ≡ with_text at d bytes
    → two ≡ with_text start e one → three ≡ with_text place z two → at + length d + length e + length z ≤ length bytes → three ≡ with_text at (d ++ e ++ z) bytes
three_pieces at start place d e z bytes one two three start_is place_is one_is two_is three_is room = grind (arith, two_pieces, length-append)

-- the text of a descriptor that was chosen
pub chosen_text : (d : Descriptor) (form : Form) (name size number : ℕ) → form_of d.long ≡ form → d.name ≡ name → d.size ≡ size → d.number ≡ number
    → text_of d ≡ descriptor_text form name size number
chosen_text d form name size number f n s c = rw (f, n, s, c) refl

pub descriptor-written : (d : Descriptor) (at : ℕ) (text bytes new : List ℕ) → text_of d ≡ text → new ≡ take at bytes ++ text_of d ++ drop (at + form_length (form_of d.long)) bytes
    → new ≡ with_text at text bytes
descriptor-written d at text bytes new is wrote = grind (arith, length-descriptor_text)

pub names-written : (at : ℕ) (names bytes new : List ℕ) → new ≡ take at bytes ++ words_text names ++ drop (at + 4 * length names) bytes → new ≡ with_text at (words_text names) bytes
names-written at names bytes new wrote = wrote ∙ ap (λ (n : ℕ). take at bytes ++ words_text names ++ drop (at + n) bytes) (sym (length-words_text names))
