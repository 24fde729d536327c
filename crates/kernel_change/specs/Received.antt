-- The names of the receive rights that come with a received message, by the items of its body.
use Rattle.std.specs.Prelude.{ℕ, zero, suc, ◌+◌, ◌*◌, ◌/◌, ◌%◌, ◌^◌, true, false, List, [], ◌∷◌, ◌++◌, length, drop, if◌then◌else◌, ◌==◌, nat_lt}
use Rattle.mach_types.specs.TextGuards.{word_at, data_length}
use Rattle.type_descriptor.specs.declared.descriptor.Descriptor.{Descriptor}
use Rattle.type_descriptor.specs.Describes.{form_of, form_length}
use Rattle.kernel_change.specs.declared.received.Received.{Received}
use Rattle.kernel_change.specs.declared.received.Received.TheVariants.{Nothing, One, Two, Three, Several}

-- the descriptor in front of these bytes, in its short form or its long form
abbrev pub front_of : List ℕ → Descriptor
front_of bytes =
    if word_at bytes 0 / 2 ^ 29 % 2 == 1
    then record { name = word_at bytes 4 % 2 ^ 16; size = word_at bytes 4 / 2 ^ 16; number = word_at bytes 8; long = true }
    else record { name = word_at bytes 0 % 2 ^ 8; size = word_at bytes 0 / 2 ^ 8 % 2 ^ 8; number = word_at bytes 0 / 2 ^ 16 % 2 ^ 12; long = false }

-- how many bytes the descriptor has, and how many its item, which is filled up to whole words
abbrev pub head_length : Descriptor → ℕ
head_length d = form_length (form_of d.long)

abbrev pub item_length : Descriptor → ℕ
item_length d = head_length d + (data_length d.size d.number + 3) / 4 * 4

-- the first words of these bytes: so many, or as many as there are
abbrev pub first_words : (number : ℕ) → List ℕ → List ℕ
first_words zero bytes = []
first_words (suc n) bytes = if nat_lt (length bytes) 4 then [] else word_at bytes 0 ∷ first_words n (drop 4 bytes)

-- the names of the receive rights of an item with this descriptor
abbrev pub item_names : Descriptor → List ℕ → List ℕ
item_names d bytes = if d.name == 16 then first_words d.number (drop (head_length d) bytes) else []

-- those of at most n items, in order; a descriptor with less than a word behind it has none
abbrev pub items_names : (n : ℕ) → List ℕ → List ℕ
items_names zero bytes = []
items_names (suc n) bytes =
    if nat_lt (length bytes) (head_length (front_of bytes) + 4) then [] else item_names (front_of bytes) bytes ++ items_names n (drop (item_length (front_of bytes)) bytes)

-- those of a body of items
abbrev pub body_names : List ℕ → List ℕ
body_names body = items_names (length body) body

abbrev pub received_by : List ℕ → Received
received_by [] = Nothing
received_by (a ∷ []) = One a
received_by (a ∷ b ∷ []) = Two a b
received_by (a ∷ b ∷ c ∷ []) = Three a b c
received_by (a ∷ b ∷ c ∷ d ∷ names) = Several
