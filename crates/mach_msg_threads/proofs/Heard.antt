-- A loop that changes each item of a list in place.
use Rattle.std.proofs.Common.{◌≡◌, ℕ, ◌<◌, ◌+◌, ◌-◌, List, [], ◌∷◌, ◌++◌, length, get_or, take, drop, set, sym, ap, ◌∙◌, subst, arith}
use Rattle.std.specs.List.{AllZip}
use Rattle.std.proofs.lemmas.List.{take_more, take_more_set, drop_more, drop-set-lt, length-drop}
use Rattle.std.proofs.lemmas.List.Elements.{AllZip-push}
use Rattle.std.proofs.lemmas.Grind.{drop_more_same}

within : {X : Type 0} (xs now : List X) (i : ℕ) → i < length now → drop i now ≡ drop i xs → i < length xs
within xs now i lt same = let left : length now - i ≡ length xs - i = sym (length-drop i now) ∙ ap length same ∙ length-drop i xs in omega arith

here : {X : Type 0} (xs now : List X) (i : ℕ) (y : X) → i < length now → drop i now ≡ drop i xs → get_or now i y ≡ get_or xs i y
here xs now i y lt same = ap (λ l. get_or l 0 y) (sym (drop_more now i y lt) ∙ same ∙ drop_more xs i y (within xs now i lt same))

pub zip_step : {X : Type 0} (R : X → X → Type 0) (xs now : List X) (i : ℕ) (d y : X) → i < length now → AllZip R (take i xs) (take i now) → drop i now ≡ drop i xs → R (get_or now i d) y
    → AllZip R (take (i + 1) xs) (take (i + 1) (set now i y)) × (drop (i + 1) (set now i y) ≡ drop (i + 1) xs)
zip_step R xs now i d y lt zip same one = (
  subst (λ l. AllZip R (take (i + 1) xs) l) (sym (take_more_set now i y lt))
      (subst (λ l. AllZip R l (take i now ++ y ∷ [])) (sym (take_more xs i d (within xs now i lt same)))
      (AllZip-push R (take i xs) (take i now) (get_or xs i d) y zip (subst (λ x. R x y) (here xs now i d lt same) one))),
  drop-set-lt (i + 1) now i y (omega arith) ∙ drop_more_same now xs i same,
)
