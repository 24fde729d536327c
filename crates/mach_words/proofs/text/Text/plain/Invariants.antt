use Rattle.std.proofs.Common.{◌≡◌, ◌++◌, ℕ, List}
use Rattle.mach_words.specs.Plain.{IsPlainText}
use Rattle.mach_words.proofs.text.Text.plain.Given as goal

-- what was appended so far is plain
abbrev pub invariant-loop-byte : goal.invariant-loop-byte
invariant-loop-byte l =
    (shown : List ℕ) × IsPlainText shown × (l.self.bytes.items ≡ l.fn.self.bytes.items ++ shown)
