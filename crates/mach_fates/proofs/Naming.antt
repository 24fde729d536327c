-- The local name in a message's header.
use Rattle.std.proofs.Common.{◌≡◌, ℕ, ◌+◌, ◌*◌, ◌/◌, ◌%◌, ◌^◌, ◌<◌, ◌≤◌, List, length, ap, ◌∙◌, arith}
use Rattle.mach_types.specs.Grammar.{Header, WireBody, Spells}
use Rattle.mach_types.specs.TextGuards.{word_at}

word_is : (n : ℕ) → n < 2 ^ 32 → n % 2 ^ 8 + n / 2 ^ 8 % 2 ^ 8 * 2 ^ 8 + n / 2 ^ 16 % 2 ^ 8 * 2 ^ 16 + n / 2 ^ 24 % 2 ^ 8 * 2 ^ 24 ≡ n
word_is n small = omega (arith, small)

pub local_is : (bytes : List ℕ) (header : Header) (written : WireBody) → Spells bytes header written → word_at bytes 12 ≡ header.local
local_is bytes header written s = ap (λ (bs : List ℕ). word_at bs 12) s.is_text ∙ word_is header.local s.header_fits.local

pub has_header : (bytes : List ℕ) (header : Header) (written : WireBody) → Spells bytes header written → 16 ≤ length bytes
has_header bytes header written s = let e = ap length s.is_text in omega (arith, e)
