-- The receive rights among those of a body, one after another.
use Rattle.std.proofs.Common.{◌≡◌, ℕ, ◌+◌, ◌<◌, List, [], ◌∷◌, ◌++◌, Option, Some, None, refl, sym, ap, ◌∙◌, get_or, length, take}
use Rattle.std.specs.Option.{option_to_list}
use Rattle.std.proofs.lemmas.List.{take_more}
use Rattle.std.proofs.lemmas.List.Elements.{filter_map-append}
use Rattle.copyin_base.specs.declared.Carried.{Carried}
use Rattle.copyin_base.specs.Kept.{receive_of}
use Rattle.kernel_change.specs.Changing.{receives_of}

of_one : (c : Carried) (o : Option ℕ) → receive_of c ≡ o → receives_of (c ∷ []) ≡ option_to_list (receive_of c)
of_one c None is = rw is refl
of_one c (Some p) is = rw is refl

pub receives_more : (rights : List Carried) (i : ℕ) (c : Carried) → i < length rights → c ≡ get_or rights i c → receives_of (take i rights) ++ option_to_list (receive_of c) ≡ receives_of (take (i + 1) rights)
receives_more rights i c below is =
    ap (λ (ps : List ℕ). receives_of (take i rights) ++ ps) (sym (of_one c (receive_of c) refl)) ∙ sym (filter_map-append receive_of (take i rights) (c ∷ []))
    ∙ ap receives_of (sym (take_more rights i c below ∙ ap (λ (x : Carried). take i rights ++ x ∷ []) (sym is)))
