-- Names of elements and of attributes.
use Rattle.std.specs.Prelude.{ℕ, Bool, false, ◌&&◌, ◌||◌, ◌==◌, nat_le, List, [], ◌∷◌, IsTrue}
use Rattle.std.specs.List.{list_all}

-- The byte is an ASCII letter.
abbrev pub is_letter : ℕ → Bool
is_letter byte = (nat_le 65 byte && nat_le byte 90) || (nat_le 97 byte && nat_le byte 122)

-- The byte may stand in a name: a letter, a digit or `-`.
abbrev pub is_name_byte : ℕ → Bool
is_name_byte byte = is_letter byte || ((nat_le 48 byte && nat_le byte 57) || byte == 45)

-- A name begins with a letter.
abbrev pub is_name : List ℕ → Bool
is_name [] = false
is_name (byte ∷ bytes) = is_letter byte && list_all is_name_byte bytes

abbrev pub IsName : List ℕ → Type 0
IsName name = IsTrue (is_name name)
