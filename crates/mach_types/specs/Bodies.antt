-- The rights of a message one by one, the words that stand for them in its text, and the walks over both (this project's own).
use Rattle.std.specs.Prelude.{◌≡◌, ℕ, ◌⊎◌, List, [], ◌∷◌, ◌++◌, length, map, flat_map, if◌then◌else◌, ◌==◌}
use Rattle.mach_types.specs.Numbers.{null_word}
use Rattle.mach_types.specs.Tokens.{Kind}
use Rattle.mach_types.specs.Messages.{Mark, ReplyRight, absent, present, Item, plain, rights, Body, Message}
use Rattle.mach_types.specs.Grammar.{Wire, data_item, port_item, WireBody}

-- the words of an item, each with its disposition's number
abbrev pub wire_words : Wire → List (ℕ × ℕ)
wire_words (data_item form name size number bytes padding) = []
wire_words (port_item form disposition words) = map (λ w. (disposition, w)) words

abbrev pub body_words : WireBody → List (ℕ × ℕ)
body_words (WireBody.raw bytes) = []
body_words (WireBody.items xs) = flat_map wire_words xs

-- the reply's word, which is none where its number is 0
abbrev pub reply_words : (number word : ℕ) → List (ℕ × ℕ)
reply_words number word = if number == 0 then [] else (number, word) ∷ []

-- the rights of an item, each with its kind
abbrev pub item_rights : Item → List (Kind × Mark)
item_rights (plain form name size number bytes padding) = []
item_rights (rights form kind marks) = map (λ m. (kind, m)) marks

abbrev pub body_rights : Body → List (Kind × Mark)
body_rights (Body.raw bytes) = []
body_rights (Body.items xs) = flat_map item_rights xs

abbrev pub reply_rights : ReplyRight → List (Kind × Mark)
reply_rights absent = []
reply_rights (present kind mark) = (kind, mark) ∷ []

-- the rights of the reply and the body
abbrev pub message_rights : Message → List (Kind × Mark)
message_rights m = reply_rights m.reply ++ body_rights m.body

-- Each stands so to its opposite, and there are as many of both.
abbrev pub AllZip : {A B : Type 0} → (A → B → Type 0) → List A → List B → Type 0
AllZip R [] [] = Unit {0}
AllZip R (x ∷ xs) (y ∷ ys) = R x y × AllZip R xs ys
AllZip R xs ys = ⊥

-- An item is as it is written, but for its rights; these are as many as its words, of a kind that R allows its disposition's number.
abbrev pub SameItem : (R : ℕ → Kind → Type 0) → Wire → Item → Type 0
SameItem R (data_item f n s c bytes padding) item = item ≡ plain f n s c bytes padding
SameItem R (port_item f number words) (rights g kind marks) = (g ≡ f) × R number kind × (length marks ≡ length words)
SameItem R wire item = ⊥

abbrev pub SameBody : (R : ℕ → Kind → Type 0) → WireBody → Body → Type 0
SameBody R (WireBody.raw bytes) (Body.raw others) = others ≡ bytes
SameBody R (WireBody.items ws) (Body.items xs) = AllZip (SameItem R) ws xs
SameBody R written body = ⊥

abbrev pub SameReply : (R : ℕ → Kind → Type 0) → (number word : ℕ) → ReplyRight → Type 0
SameReply R number word absent = (number ≡ 0) × (word ≡ null_word)
SameReply R number word (present kind mark) = R number kind

-- Each goes with its opposite, in the state that the one before it left.
abbrev pub Through : {S A B : Type 0} → (S → A → B → S → Type 0) → S → List A → List B → S → Type 0
Through R old [] [] new = new ≡ old
Through {S} R old (x ∷ xs) (y ∷ ys) new = (mid : S) × R old x y mid × Through R mid xs ys new
Through R old xs ys new = ⊥

-- One of them fails, in the state that those before it left.
abbrev pub OneFails : {S A : Type 0} → (Fails : S → A → Type 0) → (Goes : S → A → S → Type 0) → S → List A → Type 0
OneFails Fails Goes old [] = ⊥
OneFails {S} Fails Goes old (x ∷ xs) = Fails old x ⊎ ((mid : S) × Goes old x mid × OneFails Fails Goes mid xs)
