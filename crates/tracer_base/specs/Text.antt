-- The text of numbers, bytes and choices.
use Rattle.std.specs.Prelude.{ℕ, ◌+◌, ◌/◌, ◌%◌, ◌<◌, ◌^◌, List, [], ◌∷◌, codes, if◌then◌else◌, nat_lt, Bool, true, false, decimal}
use Rattle.std.specs.Int.{w32, to_be_bytes}
use Rattle.mach_types.specs.declared.calls.Waited.{Waited}
use Rattle.mach_types.specs.declared.calls.Waited.TheVariants.{Port, Set}

-- the digit of a value below 16
abbrev pub hex_digit : ℕ → ℕ
hex_digit value = if nat_lt value 10 then 48 + value else (87 + value)

-- two digits a byte
abbrev pub hex_digits : List ℕ → List ℕ
hex_digits [] = []
hex_digits (byte ∷ bytes) = hex_digit (byte / 16) ∷ hex_digit (byte % 16) ∷ hex_digits bytes

-- two digits a byte, or a dash for none
abbrev pub bytes_text : List ℕ → List ℕ
bytes_text [] = codes "-"
bytes_text (byte ∷ bytes) = hex_digits (byte ∷ bytes)

-- a code or a type: the eight digits of its 32 bits, the highest first
abbrev pub code_text : ℕ → List ℕ
code_text code = hex_digits (to_be_bytes w32 code)

abbrev pub flag_text : Bool → List ℕ
flag_text true = codes "1"
flag_text false = codes "0"

-- what a receive waited for: a port or a set, and its number
abbrev pub waited_words : Waited → List (List ℕ)
waited_words (Port port) = codes "p" ∷ decimal port ∷ []
waited_words (Set set) = codes "s" ∷ decimal set ∷ []

-- its number fits 64 bits
abbrev pub FitsWaited : Waited → Type 0
FitsWaited (Port port) = port < 2 ^ 64
FitsWaited (Set set) = set < 2 ^ 64
