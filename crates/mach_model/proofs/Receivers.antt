-- A token of a list that passes a test.
use Rattle.std.proofs.Common.{◌≡◌, suc, zero, ◌<◌, List, [], ◌∷◌, refl, arith, true, false, Bool}
use Rattle.std.specs.Prelude.{if◌then◌else◌}
use Rattle.mach_types.specs.Tokens.{Token, count}

-- a token of the list that passes the test, and is counted by each other test that it passes
pub record SomeToken (test : Token → Bool) (xs : List Token) : Type 0 where
  pub x : Token
  pub passes : test x ≡ true
  pub counted : (other : Token → Bool) → other x ≡ true → 0 < count other xs

pub some_token : (test : Token → Bool) (xs : List Token) → 0 < count test xs → SomeToken test xs
some_token test [] some = absurd (omega (arith, some))
some_token test (x ∷ xs) some = go (test x) refl (some_token test xs)
  where
    go : (b : Bool) → test x ≡ b → (0 < count test xs → SomeToken test xs) → SomeToken test (x ∷ xs)
    go true e rest = record { x = x; passes = e; counted = λ other f. (let g : (if other x then suc zero else zero) ≡ suc zero = rw f refl in omega (arith, g)) }
    go false e rest =
        let z : (if test x then suc zero else zero) ≡ zero = rw e refl in
        let t = rest (omega (arith, some, z)) in
        record { x = t.x; passes = t.passes; counted = λ other f. (let h = t.counted other f in omega (arith, h)) }
