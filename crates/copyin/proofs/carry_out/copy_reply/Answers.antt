use Rattle.std.proofs.Common.{Option, Some, sym, subst, refl, ◌≡◌}
use Rattle.std.specs.Option.{option_to_list}
use Rattle.message_codec.specs.declared.words.PortWord.{PortWord}
use Rattle.copyin_base.specs.declared.Carried.{Carried}
use Rattle.copyin.specs.Plans.{ChangesWords}
use Rattle.copyin.proofs.carry_out.copy_reply.Goals as goal

pub returns-in-Some-Some : goal.returns-in-Some-Some
returns-in-Some-Some c =
    let old = c.args.world.now in
    let new = c.copy_word.new.world in
    let word_is : c.args.word ≡ Some c.in-Some-Some.word = c.in-Some-Some.is-0 in
    let reply_is : c.args.reply ≡ Some c.in-Some-Some.carried = c.in-Some-Some.is-1 in
    subst (λ (w : Option PortWord). ChangesWords old c.args.task (option_to_list w) (option_to_list c.args.reply) new) (sym word_is)
    (subst (λ (r : Option Carried). ChangesWords old c.args.task (option_to_list (Some c.in-Some-Some.word)) (option_to_list r) new) (sym reply_is)
    (new, c.copy_word.ensures, refl))
