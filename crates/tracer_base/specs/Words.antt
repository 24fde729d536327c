-- Lines as words, parted by single spaces.
use Rattle.std.specs.Prelude.{◌≡◌, ◌≢◌, ℕ, ◌<◌, ◌==◌, List, [], Option, Some, None, All, Result, MatchResult}
use Rattle.std.specs.List.{slice_split, join_with_byte}
use Rattle.tracer_base.specs.declared.fault.TextFault.{TextFault}
use Rattle.tracer_base.specs.declared.fault.TextFault.TheVariants.{OutOfMemory}

-- the line of these words
abbrev pub line : List (List ℕ) → List ℕ
line = join_with_byte 32

-- the words of a line
abbrev pub words : List ℕ → List (List ℕ)
words text = slice_split (λ byte. byte == 32) text

-- the words of what is left of a line, none behind its last word
abbrev pub words_left : Option (List ℕ) → List (List ℕ)
words_left None = []
words_left (Some text) = words text

-- no byte in it is this one
abbrev pub Lacks : ℕ → List ℕ → Type 0
Lacks byte text = All (λ other. other ≢ byte) text

-- each byte in it is above a space
abbrev pub IsWord : List ℕ → Type 0
IsWord = All (λ byte. 32 < byte)

-- what is read ends before the words behind it, unless memory is refused
abbrev pub IsRead : {T : Type 0} → Result T TextFault → List (List ℕ) → List (List ℕ) → Type 0
IsRead result left behind = MatchResult result (λ _. left ≡ behind) (λ fault. fault ≡ OutOfMemory)
