use Rattle.std.proofs.Common.{rules, ◌≡◌, ◌<◌, [], ◌∷◌, All, length}
use Rattle.std.proofs.lemmas.List.Elements.{All-nil, All-cons}
use Rattle.tracer_base.proofs.HexLemmas.{code_text-bytes}
use Rattle.tracer_base.proofs.hexadecimal.parse_code.Goals as goal

pub returns-then-is_empty-clause-spelled : goal.returns-then-is_empty-clause-spelled
returns-then-is_empty-clause-spelled c =
    let small : All (λ byte. byte < 256) (c.in_ok-first.first ∷ c.in_ok-second.second ∷ c.in_ok-third.third ∷ c.in_ok-fourth.fourth ∷ []) = search (rules, All-nil, All-cons) in
    let none : length c.in_ok-fourth.rest.now ≡ 0 = search rules in
    code_text-bytes _ _ _ _ _ _ _ _ _ _ small c.from_be_bytes.ensures c.in_ok-first.ensures.some c.in_ok-second.ensures.some c.in_ok-third.ensures.some c.in_ok-fourth.ensures.some none
