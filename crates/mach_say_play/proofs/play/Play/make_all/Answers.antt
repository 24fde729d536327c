use Rattle.std.proofs.Common.{rules, ◌≡◌, ◌+◌, ◌<◌, [], ◌∷◌, ◌++◌, length, get_or, take, ap, sym, subst, ◌∙◌}
use Rattle.std.proofs.lemmas.List.{take_more}
use Rattle.mach_say_syntax.specs.declared.syntax.Said.{Said}
use Rattle.mach_say_play.proofs.Playing.{Plays, plays_more}
use Rattle.mach_say_play.proofs.play.Play.make_all.Goals as goal

-- one statement more has made its entries
pub loop-place-preserved : goal.loop-place-preserved
loop-place-preserved c =
    let xs = c.args.statements.now in
    let i = c.loop-place.place in
    let said = c.index-statements-place.result in
    let low : i < length xs = search rules in
    let here : get_or xs i said ≡ said = search rules in
    let more : take (i + 1) xs ≡ take i xs ++ said ∷ [] = take_more xs i said low ∙ ap (λ (s : Said). take i xs ++ s ∷ []) here in
    subst (Plays c.args.self.now.stage c.make.new.self.stage) (sym more)
    (plays_more c.args.self.now.stage c.loop-place.self.stage c.make.new.self.stage (take i xs) said c.loop-place.invariant
    c.in_default.ensures.profile c.in_default.ensures.added)
