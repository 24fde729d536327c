use Rattle.std.proofs.Common.{◌≡◌, ◌++◌, take}
use Rattle.tracer_base.specs.Text.{hex_digits}
use Rattle.tracer_base.proofs.hexadecimal.push_digits.Given as goal

-- the digits of the bytes before this one stand behind what was there
abbrev pub invariant-loop-byte : goal.invariant-loop-byte
invariant-loop-byte l = l.line.items ≡ l.fn.line.items ++ hex_digits (take l.byte-index l.fn.bytes)
