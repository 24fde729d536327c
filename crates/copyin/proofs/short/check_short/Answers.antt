use Rattle.std.specs.Option.{option_to_list}
use Rattle.std.proofs.Common.{refl, ap, ◌∙◌, inl, inr}
use Rattle.std.proofs.lemmas.Result.{err_from_is_err_and}
use Rattle.message_codec.specs.Short.{parsed_short}
use Rattle.copyin.specs.Plans.{Plans}
use Rattle.copyin.specs.Short.{body_right, rights_with, short_words}
use Rattle.copyin.proofs.AfterFirst.{short_are, short_message}
use Rattle.copyin.proofs.Planning.{words_given, cannot_judge, cannot_admit, admitted, port_lives, destination_sends, remote_sendable}
use Rattle.copyin.proofs.short.check_short.Goals as goal

pub judge_first-requires : goal.judge_first-requires
judge_first-requires c =
    let short = c.args.short.now in
    (words_given c.args.bytes.now (parsed_short short) c.requires.reads.parses (short_words short) (short_are c.args.bytes.now short c.requires.reads c.requires.reads.parses)).destination

pub returns-in_err-destination-clause-err : goal.returns-in_err-destination-clause-err
returns-in_err-destination-clause-err c =
    let short = c.args.short.now in
    let e = err_from_is_err_and c.from_residual.result c.from_residual.ensures.1 in
    rw (e.1, e.2) (λ p. cannot_judge c.args.world.now c.args.task (parsed_short short) p.written c.space-space.result (short_words short) c.space-space.ensures
    (short_are c.args.bytes.now short c.requires.reads p) c.in_err-destination.field-0.0 (inr (inl c.in_err-destination.ensures.err)))

pub judge_right-requires-clause-given : goal.judge_right-requires-clause-given
judge_right-requires-clause-given c =
    let short = c.args.short.now in
    words_given c.args.bytes.now (parsed_short short) c.requires.reads.parses (short_words short) (short_are c.args.bytes.now short c.requires.reads c.requires.reads.parses)

pub returns-in_err-beside-clause-err : goal.returns-in_err-beside-clause-err
returns-in_err-beside-clause-err c =
    let short = c.args.short.now in
    let e = err_from_is_err_and c.from_residual-in_err-beside.result c.from_residual-in_err-beside.ensures.1 in
    rw (e.1, e.2) (λ p. cannot_judge c.args.world.now c.args.task (parsed_short short) p.written c.space-space.result (short_words short) c.space-space.ensures
    (short_are c.args.bytes.now short c.requires.reads p) c.in_err-beside.field-0.0 (inr (c.in_err-beside.ensures.err c.in_ok-destination.destination c.in_ok-destination.port c.in_ok-destination.ensures.ok)))

pub admit-requires-clause-live : goal.admit-requires-clause-live
admit-requires-clause-live c =
    let short = c.args.short.now in
    let p = c.requires.reads.parses in
    let d = c.in_ok-destination.destination in
    let b = c.in_ok-beside.beside in
    let all = c.in_ok-beside.ensures.ok d c.in_ok-destination.port c.in_ok-destination.ensures.ok in
    port_lives c.args.world.now c.args.task (parsed_short short) p.written c.space-space.result (short_words short) c.space-space.ensures (short_are c.args.bytes.now short c.requires.reads p)
    (rights_with d c.in_ok-destination.port b) (body_right b) all.0 (c.requires.tied.tied c.space-space.result c.space-space.ensures)

pub admit-requires-clause-sends : goal.admit-requires-clause-sends
admit-requires-clause-sends c =
    let short = c.args.short.now in
    let p = c.requires.reads.parses in
    let d = c.in_ok-destination.destination in
    let b = c.in_ok-beside.beside in
    let all = c.in_ok-beside.ensures.ok d c.in_ok-destination.port c.in_ok-destination.ensures.ok in
    destination_sends c.args.world.now c.args.task (parsed_short short) p.written c.space-space.result (short_words short) c.space-space.ensures (short_are c.args.bytes.now short c.requires.reads p)
    (rights_with d c.in_ok-destination.port b) (body_right b) all.0 (remote_sendable c.args.bytes.now (parsed_short short) p)

pub returns-in_err-admit-clause-err : goal.returns-in_err-admit-clause-err
returns-in_err-admit-clause-err c =
    let short = c.args.short.now in
    let d = c.in_ok-destination.destination in
    let b = c.in_ok-beside.beside in
    let all = c.in_ok-beside.ensures.ok d c.in_ok-destination.port c.in_ok-destination.ensures.ok in
    let e = err_from_is_err_and c.from_residual-in_err-admit.result c.from_residual-in_err-admit.ensures.1 in
    rw (e.1, e.2) (λ p. cannot_admit c.args.world.now c.args.task (parsed_short short) p.written c.space-space.result (short_words short) c.space-space.ensures
    (short_are c.args.bytes.now short c.requires.reads p) (rights_with d c.in_ok-destination.port b) (body_right b) all.0 (body_right b) refl c.in_err-admit.field-0.0 c.in_err-admit.ensures.err)

pub returns-in_default-clause-err : goal.returns-in_default-clause-err
returns-in_default-clause-err c = λ p.
    let short = c.args.short.now in
    let d = c.in_ok-destination.destination in
    let b = c.in_ok-beside.beside in
    let all = c.in_ok-beside.ensures.ok d c.in_ok-destination.port c.in_ok-destination.ensures.ok in
    let plans : Plans c.args.world.now c.args.task (parsed_short short) p.written = admitted c.args.world.now c.args.task (parsed_short short) p.written c.space-space.result (short_words short) c.space-space.ensures
    (short_are c.args.bytes.now short c.requires.reads p) (rights_with d c.in_ok-destination.port b) (body_right b) all.0 (body_right b) refl c.in_ok-admit.ensures.ok in
    inr (inr (inr (inr (inl plans, refl))))

pub returns-clause-ok : goal.returns-clause-ok
returns-clause-ok c = λ p.
    let short = c.args.short.now in
    let d = c.in_ok-destination.destination in
    let b = c.in_ok-beside.beside in
    let go = c.in_ok-destination.ensures.ok in
    let all = c.in_ok-beside.ensures.ok d c.in_ok-destination.port go in
    let are = short_are c.args.bytes.now short c.requires.reads p in
    rw c.message_of-message.ensures (record {
      is_plan = record {
        plans = admitted c.args.world.now c.args.task (parsed_short short) p.written c.space-space.result (short_words short) c.space-space.ensures are
            (rights_with d c.in_ok-destination.port b) (body_right b) all.0 (body_right b) refl c.in_ok-admit.ensures.ok;
        task_is = refl;
        words = record { destination = go.by; reply = ap option_to_list all.1.reply ∙ are.reply; body = all.1.body ∙ are.body };
        destination = refl;
        port = refl;
        message = short_message short b d.carried.given c.args.bytes.now c.in-Ok.bytes.items c.is_send_once-by_once.result all.0.others.second all.0.others.last all.1 all.0.others.body c.in-Ok.ensures.items c.is_send_once-by_once.ensures.value;
      };
      reply = refl;
      rights = refl;
    })
