-- A short message: it carries one right at most beside that of its destination, its reply right or the only one of its body.
use Rattle.std.specs.Prelude.{◌≡◌, ◌≢◌, ℕ, Bool, true, false, List, [], ◌∷◌, Option, None, Some, length}
use Rattle.message_codec.specs.declared.spans.Span.{Span}
use Rattle.message_codec.specs.declared.text.Parsed.{Parsed}
use Rattle.message_codec.specs.declared.text.Short.{Short}
use Rattle.message_codec.specs.declared.text.ShortKind.{ShortKind}
use Rattle.message_codec.specs.declared.text.ShortKind.TheVariants as kind_of
use Rattle.message_codec.specs.declared.text.ShortRight.{ShortRight}
use Rattle.message_codec.specs.declared.text.ShortRight.TheVariants.{Reply, Body}
use Rattle.message_codec.specs.declared.words.PortWord.{PortWord}
use Rattle.message_codec.specs.Parses.{Parses}
use Rattle.message_codec.specs.Words.{body_words}

-- where a body of one port word in the short form has it
abbrev pub one_word_span : (disposition : ℕ) → Span
one_word_span d = record { at = 24; long = false; disposition = d; number = 1 }

-- the port words of the body
abbrev pub words_in : Option ShortRight → List PortWord
words_in None = []
words_in (Some (Reply word)) = []
words_in (Some (Body word)) = word ∷ []

abbrev pub reply_kind : Option ShortRight → ℕ
reply_kind None = 0
reply_kind (Some (Reply word)) = word.disposition
reply_kind (Some (Body word)) = 0

abbrev pub reply_name : Option ShortRight → ℕ
reply_name None = 0
reply_name (Some (Reply word)) = word.name
reply_name (Some (Body word)) = 0

abbrev pub is_list : Option ShortRight → Bool
is_list None = false
is_list (Some (Reply word)) = false
is_list (Some (Body word)) = true

abbrev pub spans_of : Option ShortRight → List Span
spans_of None = []
spans_of (Some (Reply word)) = []
spans_of (Some (Body word)) = one_word_span word.disposition ∷ []

-- what `parse` reads of such a message
abbrev pub parsed_short : Short → Parsed
parsed_short short = record {
  remote_kind = short.destination.disposition;
  local_kind = reply_kind short.right;
  is_complex = is_list short.right;
  remote = short.destination.name;
  local = reply_name short.right;
  id = short.id;
  spans = spans_of short.right;
}

-- The bytes are this short message.
pub record ReadsShort (bytes : List ℕ) (short : Short) : Type 0 where
  pub parses : Parses bytes (parsed_short short)
  pub words : (p : Parses bytes (parsed_short short)) → body_words p.written ≡ words_in short.right
  pub answered : (word : PortWord) → short.right ≡ Some (Reply word) → word.disposition ≢ 0

-- It has no reply right, and its body is one item of one port word in the short form, and nothing else.
pub record HasOneRight (bytes : List ℕ) (parsed : Parsed) : Type 0 where
  pub alone : parsed.local_kind ≡ 0
  pub is_list : parsed.is_complex ≡ true
  pub one : (d : ℕ) × (parsed.spans ≡ one_word_span d ∷ [])
  pub short : length bytes ≡ 32

-- The text is a short message that carries this beside the right of its destination.
abbrev pub IsOfKind : ShortKind → (bytes : List ℕ) → Parsed → Type 0
IsOfKind kind_of.Alone bytes parsed = (parsed.local_kind ≡ 0) × (parsed.is_complex ≡ false)
IsOfKind kind_of.Reply bytes parsed = (parsed.local_kind ≢ 0) × (parsed.is_complex ≡ false)
IsOfKind kind_of.Body bytes parsed = HasOneRight bytes parsed
