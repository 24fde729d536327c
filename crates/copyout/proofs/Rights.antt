-- The rights that are kept beside a message's bytes are the message's, and the receiver's words stand for them.
use Rattle.std.proofs.Common.{◌≡◌, ℕ, ◌≤◌, List, [], ◌∷◌, ◌++◌, Option, Some, None, refl, sym, ap, subst, ◌∙◌, arith, inl, inr, zero, suc, length, take, drop, All}
use Rattle.std.specs.Prelude.{map}
use Rattle.std.specs.Option.{option_to_list}
use Rattle.std.proofs.lemmas.Bool.Decides.{eqb_tells}
use Rattle.std.proofs.lemmas.List.{length-take-le, length-drop}
use Rattle.mach_types.specs.declared.rights.Disposition.{Disposition}
use Rattle.mach_types.specs.declared.rights.Disposition.TheVariants.{MoveReceive, MoveSend, MoveSendOnce, CopySend, MakeSend, MakeSendOnce}
use Rattle.mach_types.specs.Numbers.{kind_number}
use Rattle.mach_types.specs.Rights.{disposition_number}
use Rattle.mach_types.specs.Grammar.{Wire, data_item, port_item, WireBody, NamesPorts, IsWire, IsWireBody}
use Rattle.mach_types.specs.Bodies.{body_words, reply_words, SameBody, SameReply}
use Rattle.mach_model.specs.ReceivedMeans.{IsReceived}
use Rattle.mach_model.proofs.Walks.{one_reply}
use Rattle.message_codec.specs.Received.{received_kind, received_body}
use Rattle.message_codec.proofs.Shapes.{All-head, All-tail}
use Rattle.copyin_base.specs.declared.Carried.{Carried}
use Rattle.copyin_base.specs.Kept.{kind_of, body_of, reply_of, items_given, body_given}
use Rattle.copyin_base.proofs.KeptEntries.{numbers, none_kept, item_kept}
use Rattle.copyout.specs.Takes.{reply_number, reply_word, body_names}

abbrev pub seconds : List (ℕ × ℕ) → List ℕ
seconds ws = map (λ w. w.1) ws

-- ---- dispositions and kinds

given_number : (n : ℕ) → NamesPorts n → (d : Disposition) × (n ≡ disposition_number d)
given_number n ports = elim (eqb_tells n 16) [
  | inl h ↦ (MoveReceive, h.1)
  | inr a ↦ elim (eqb_tells n 17) [
    | inl h ↦ (MoveSend, h.1)
    | inr b ↦ elim (eqb_tells n 18) [
      | inl h ↦ (MoveSendOnce, h.1)
      | inr c ↦ elim (eqb_tells n 19) [
        | inl h ↦ (CopySend, h.1)
        | inr d ↦ elim (eqb_tells n 20) [
          | inl h ↦ (MakeSend, h.1)
          | inr e ↦ (MakeSendOnce, last n ports.0 ports.1 a.1 b.1 c.1 d.1 e.1)
        ]
      ]
    ]
  ]
]
  where
    last : (n : ℕ) → 16 ≤ n → n ≤ 21 → (n ≡ 16 → ⊥) → (n ≡ 17 → ⊥) → (n ≡ 18 → ⊥) → (n ≡ 19 → ⊥) → (n ≡ 20 → ⊥) → n ≡ 21
    last n lo hi a b c d e = omega (arith, lo, hi, a, b, c, d, e)

received_is : (d : Disposition) → received_kind (disposition_number d) ≡ kind_number (kind_of (disposition_number d))
received_is MoveReceive = refl
received_is MoveSend = refl
received_is MoveSendOnce = refl
received_is CopySend = refl
received_is MakeSend = refl
received_is MakeSendOnce = refl

kind_received : (n : ℕ) → NamesPorts n → received_kind n ≡ kind_number (kind_of n)
kind_received n ports = let d = given_number n ports in subst (λ (x : ℕ). received_kind x ≡ kind_number (kind_of x)) (sym d.1) (received_is d.0)

-- ---- the words of the receiver

seconds_append : (d : ℕ) (ws : List ℕ) (more : List (ℕ × ℕ)) → seconds (map (λ (w : ℕ). (d, w)) ws ++ more) ≡ ws ++ seconds more
seconds_append d [] more = refl
seconds_append d (w ∷ ws) more = ap (λ (xs : List ℕ). w ∷ xs) (seconds_append d ws more)

take_drop : (n : ℕ) (xs : List ℕ) → take n xs ++ drop n xs ≡ xs
take_drop zero xs = refl
take_drop (suc n) [] = refl
take_drop (suc n) (x ∷ xs) = ap (λ (ys : List ℕ). x ∷ ys) (take_drop n xs)

no_words : (words : List ℕ) → length words ≡ 0 → words ≡ []
no_words [] e = refl
no_words (w ∷ ws) e = absurd (omega (arith, e))

-- The received body is as the message's, and its words are these.
pub record BodyReceived (written : WireBody) (cs : List Carried) (words : List ℕ) : Type 0 where
  pub same : SameBody IsReceived (received_body written words) (body_of written cs)
  pub are : seconds (body_words (received_body written words)) ≡ words

items_received : (xs : List Wire) → All IsWire xs → (cs : List Carried) (words : List ℕ) → numbers cs ≡ items_given xs → length words ≡ length cs → BodyReceived (WireBody.items xs) cs words
items_received [] fits cs words e long = record { same = tt; are = sym (no_words words (long ∙ ap length (none_kept cs e))) }
items_received (data_item form name size number bytes padding ∷ xs) fits cs words e long = grind (
  arith,
  items_received xs (All-tail IsWire (data_item form name size number bytes padding) xs fits) cs words e long,
)
items_received (port_item form number sent ∷ xs) fits cs words e long =
    let n : ℕ = length sent in
    let x = item_kept number (length sent) cs (items_given xs) e in
    let is : IsWire (port_item form number sent) = All-head IsWire (port_item form number sent) xs fits in
    let more = x.long in
    let left = length-drop (length sent) words in
    let rest = items_received xs (All-tail IsWire (port_item form number sent) xs fits) (drop (length sent) cs) (drop (length sent) words) x.left (omega (arith, long, more, left)) in
    record {
      same = ((refl, kind_received number is.1, x.many ∙ sym (length-take-le (length sent) words (omega (arith, long, more)))), rest.same);
      are = seconds_append (received_kind number) (take (length sent) words) (body_words (received_body (WireBody.items xs) (drop (length sent) words)))
          ∙ ap (λ (ys : List ℕ). take (length sent) words ++ ys) rest.are ∙ take_drop (length sent) words;
    }

pub body_received : (written : WireBody) → IsWireBody written → (cs : List Carried) (words : List ℕ) → numbers cs ≡ body_given written → length words ≡ length cs → BodyReceived written cs words
body_received (WireBody.raw bytes) fits cs words e long = record { same = refl; are = sym (no_words words (long ∙ ap length (none_kept cs e))) }
body_received (WireBody.items xs) fits cs words e long = items_received xs fits cs words e long

pub reply_received : (reply : Option Carried) (words : List ℕ) → length (option_to_list reply) ≤ length words → SameReply IsReceived (reply_number reply) (reply_word reply words) (reply_of reply)
reply_received None words long = (refl, refl)
reply_received (Some c) words long = refl

-- The words of a received text are those that were given, the reply's first.
pub words_received : (reply : Option Carried) (words : List ℕ) (body : List (ℕ × ℕ)) → length (option_to_list reply) ≤ length words → seconds body ≡ body_names reply words →
    seconds (reply_words (reply_number reply) (reply_word reply words) ++ body) ≡ words
words_received None words body long e = e
words_received (Some c) [] body long e = absurd (omega (arith, long))
words_received (Some c) (w ∷ ws) body long e = grind (arith, one_reply)
