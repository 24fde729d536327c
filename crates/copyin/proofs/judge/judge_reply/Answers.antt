use Rattle.std.proofs.Common.{Some, None, Option, sym, refl, subst}
use Rattle.std.specs.Option.{option_to_list}
use Rattle.message_codec.specs.declared.words.PortWord.{PortWord}
use Rattle.copyin.specs.Judging.{CopiesReply}
use Rattle.copyin.proofs.judge.judge_reply.Goals as goal

pub returns-in-None-clause-ok : goal.returns-in-None-clause-ok
returns-in-None-clause-ok c = λ now o. (now, subst (λ (w : Option PortWord). CopiesReply now (option_to_list w) None now) (sym c.in-None.is) refl, o)

pub returns-in_ok-carried-in-Some-clause-ok : goal.returns-in_ok-carried-in-Some-clause-ok
returns-in_ok-carried-in-Some-clause-ok c = λ now o.
    let a = c.in_ok-carried-in-Some.ensures.ok now o in
    let carried = c.in_ok-carried-in-Some.carried in
    (a.0, subst (λ (w : Option PortWord). CopiesReply now (option_to_list w) (Some carried) a.0) (sym c.in-Some.is) a.1, a.2)
