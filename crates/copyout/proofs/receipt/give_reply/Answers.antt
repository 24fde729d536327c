use Rattle.std.proofs.Common.{◌≡◌, ℕ, [], ◌∷◌, Option, List, sym, refl, subst}
use Rattle.copyin_base.specs.declared.Carried.{Carried}
use Rattle.std.specs.Option.{option_to_list}
use Rattle.copyout.specs.Giving.{GivesAll}
use Rattle.copyout.specs.Takes.{reply_word}
use Rattle.copyout.proofs.receipt.give_reply.Goals as goal

pub returns-in-Some : goal.returns-in-Some
returns-in-Some c =
    subst (λ (o : Option Carried). (x : List ℕ) × GivesAll c.args.world.now c.args.task (option_to_list o) x c.give_right.new.world × (c.give_right.result ≡ reply_word o x)) (sym c.in-Some.is)
    (c.give_right.result ∷ [], (c.give_right.new.world, c.give_right.ensures, refl), refl)
