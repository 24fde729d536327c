use Rattle.std.proofs.Common.{refl, ap, ◌∙◌, inl, inr}
use Rattle.std.proofs.lemmas.Result.{err_from_is_err_and}
use Rattle.mach_types.specs.Codes.{msg_number}
use Rattle.copyin_base.specs.Carrying.{spans_in, rights_in}
use Rattle.copyin.specs.Plans.{Plans}
use Rattle.copyin.specs.PortWords.{listed}
use Rattle.copyin.proofs.Committing.{queues}
use Rattle.copyin.proofs.Planning.{words_given, cannot_judge, cannot_admit, admitted, port_lives, destination_sends, remote_sendable}
use Rattle.copyin.proofs.judge.check.Goals as goal

pub judge_all-requires-clause-given : goal.judge_all-requires-clause-given
judge_all-requires-clause-given c = words_given c.args.bytes.now c.args.parsed.now c.requires.parses (listed c.in_ok-words.words) (c.in_ok-words.ensures.ok c.requires.parses)

pub returns-in_err-rights-clause-err : goal.returns-in_err-rights-clause-err
returns-in_err-rights-clause-err c =
    let e = err_from_is_err_and c.from_residual-in_err-rights.result c.from_residual-in_err-rights.ensures.1 in
    rw (e.1, e.2) (λ p. cannot_judge c.args.world.now c.args.task c.args.parsed.now p.written c.space.result (listed c.in_ok-words.words) c.space.ensures (c.in_ok-words.ensures.ok p) c.in_err-rights.field-0.0 c.in_err-rights.ensures.err)

pub admit-requires-clause-live : goal.admit-requires-clause-live
admit-requires-clause-live c =
    let p = c.requires.parses in
    port_lives c.args.world.now c.args.task c.args.parsed.now p.written c.space.result (listed c.in_ok-words.words) c.space.ensures (c.in_ok-words.ensures.ok p) c.in_ok-rights.rights c.judge_all.new.body.items c.in_ok-rights.ensures.ok (c.requires.tied.tied c.space.result c.space.ensures)

pub admit-requires-clause-sends : goal.admit-requires-clause-sends
admit-requires-clause-sends c =
    let p = c.requires.parses in
    destination_sends c.args.world.now c.args.task c.args.parsed.now p.written c.space.result (listed c.in_ok-words.words) c.space.ensures (c.in_ok-words.ensures.ok p) c.in_ok-rights.rights c.judge_all.new.body.items c.in_ok-rights.ensures.ok (remote_sendable c.args.bytes.now c.args.parsed.now p)

pub returns-in_err-admit-clause-err : goal.returns-in_err-admit-clause-err
returns-in_err-admit-clause-err c =
    let e = err_from_is_err_and c.from_residual-in_err-admit.result c.from_residual-in_err-admit.ensures.1 in
    rw (e.1, e.2) (λ p. cannot_admit c.args.world.now c.args.task c.args.parsed.now p.written c.space.result (listed c.in_ok-words.words) c.space.ensures (c.in_ok-words.ensures.ok p) c.in_ok-rights.rights c.judge_all.new.body.items c.in_ok-rights.ensures.ok c.as_slice.result.now c.as_slice.ensures c.in_err-admit.field-0.0 c.in_err-admit.ensures.err)

pub returns-in_default-clause-err : goal.returns-in_default-clause-err
returns-in_default-clause-err c = λ p.
    let plans : Plans c.args.world.now c.args.task c.args.parsed.now p.written = admitted c.args.world.now c.args.task c.args.parsed.now p.written c.space.result (listed c.in_ok-words.words) c.space.ensures (c.in_ok-words.ensures.ok p) c.in_ok-rights.rights c.judge_all.new.body.items c.in_ok-rights.ensures.ok c.as_slice.result.now c.as_slice.ensures c.in_ok-admit.ensures.ok in
    inr (inr (inr (inr (inl plans, refl))))

pub returns-in_err-message-clause-err : goal.returns-in_err-message-clause-err
returns-in_err-message-clause-err c =
    let e = err_from_is_err_and c.from_residual-in_err-message.result c.from_residual-in_err-message.ensures.1 in
    rw (e.1, e.2) (λ p.
    let plans : Plans c.args.world.now c.args.task c.args.parsed.now p.written = admitted c.args.world.now c.args.task c.args.parsed.now p.written c.space.result (listed c.in_ok-words.words) c.space.ensures (c.in_ok-words.ensures.ok p) c.in_ok-rights.rights c.judge_all.new.body.items c.in_ok-rights.ensures.ok c.as_slice.result.now c.as_slice.ensures c.in_ok-admit.ensures.ok in
    inr (inr (inr (inr (inl plans, ap msg_number c.in_err-message.ensures.err)))))

pub returns-clause-ok : goal.returns-clause-ok
returns-clause-ok c = λ p. rw c.plan_of.ensures (record {
  plans = admitted c.args.world.now c.args.task c.args.parsed.now p.written c.space.result (listed c.in_ok-words.words) c.space.ensures (c.in_ok-words.ensures.ok p) c.in_ok-rights.rights c.judge_all.new.body.items c.in_ok-rights.ensures.ok c.as_slice.result.now c.as_slice.ensures c.in_ok-admit.ensures.ok;
  task_is = refl;
  words = c.in_ok-words.ensures.ok p;
  destination = refl;
  port = refl;
  message = c.in_ok-message.ensures.ok ∙ queues c.args.parsed.now c.head_of-head.result c.head_of-head.ensures c.args.bytes.now c.in_ok-rights.rights
      (spans_in c.in-Ok.carried) c.judge_all.new.body.items (rights_in c.in-Ok.carried)
      (c.in-Ok.ensures.spans ∙ c.as_slice-spans.ensures) (c.in-Ok.ensures.rights ∙ c.as_slice-2.ensures);
})
