-- How a text is given to C.
use Rattle.std.specs.Prelude.{◌≡◌, ℕ, ◌+◌, List, ◌∷◌, ◌++◌, length, drop, if◌then◌else◌, nat_lt}

-- The text stands at the front of the caller's room, with a zero byte behind it, where there is room for both. Else nothing was written.
pub record Puts (text before : List ℕ) (told : ℕ) (after : List ℕ) : Type 0 where
  pub told_is : told ≡ length text
  pub after_is : after ≡ (if nat_lt (length text) (length before) then text ++ 0 ∷ drop (1 + length text) before else before)
