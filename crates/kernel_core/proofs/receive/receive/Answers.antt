use Rattle.std.proofs.Common.{ℕ, Option, Some, refl, sym, ap, ◌∙◌}
use Rattle.std.specs.Option.{option_and_then}
use Rattle.std.proofs.lemmas.Result.{err_from_is_err_and}
use Rattle.copyin_base.proofs.Spares.{keeps_same}
use Rattle.kernel_core.proofs.Keeping.{refused_spares}
use Rattle.kernel_core.proofs.InTurn.{named_turns}
use Rattle.kernel_core.proofs.Named.{known_named}
use Rattle.kernel_core.proofs.Receiving.{named_declined, named_stays, named_received}
use Rattle.kernel_core.proofs.Sparing.{not_short_named, named_spares}
use Rattle.kernel_change.specs.Changing.{by_receipt}
use Rattle.kernel_core.specs.InTurn.{source_of}
use Rattle.kernel_core.proofs.Taking.{completes, told_of_source}
use Rattle.mach_types.specs.declared.calls.Waited.{Waited}
use Rattle.mach_types.specs.declared.codes.MsgReturn.TheVariants.{ReceiveBodyErrorMemory}
use Rattle.mach_types.specs.Codes.{msg_number}
use Rattle.kernel_core.proofs.Sourced.{named_took, named_serves, named_wants, named_leaves, named_keeps, named_tells}
use Rattle.kernel_core.proofs.receive.receive.Goals as goal

pub take-requires-clause-known : goal.take-requires-clause-known
take-requires-clause-known c =
    let x = rw c.in-Port.is at c.in_ok-waited.ensures in
    known_named c.args.world.now c.args.task c.args.name (Waited.Port c.in-Port.port) (Some c.args.name) x.found (refl, (c.in-Port.port, refl))

pub take-requires-clause-ready : goal.take-requires-clause-ready
take-requires-clause-ready c = let x = rw c.in-Port.is at c.in_ok-waited.ensures in x.ready

pub returns-clause-takes : goal.returns-clause-takes
returns-clause-takes c =
    let x = rw c.in-Port.is at c.in_ok-waited.ensures in
    named_received c.args.world.now c.args.task c.args.buffer.room c.args.buffer.large c.requires.there c.args.name (Waited.Port c.in-Port.port) x.ok c.in_ok-waited.field-0.ready c.in_ok-reply.reply c.take.new.world
    x.found x.first x.ready c.in_ok-reply.ensures.ok

pub returns-clause-serves : goal.returns-clause-serves
returns-clause-serves c =
    completes _ _ _ _ (returns-clause-takes c)

pub returns-clause-spares : goal.returns-clause-spares
returns-clause-spares c =
    let x = rw c.in-Port.is at c.in_ok-waited.ensures in
    named_spares c.args.world.now c.args.task c.args.name c.args.buffer.room c.args.buffer.large c.in_ok-reply.reply c.take.new.world (Waited.Port c.in-Port.port) x.found c.in_ok-reply.ensures.spares

pub returns-in_err-waited-clause-serves : goal.returns-in_err-waited-clause-serves
returns-in_err-waited-clause-serves c =
    let p = err_from_is_err_and c.from_residual.result c.from_residual.ensures.1 in
    rw (p.1, p.2) (named_declined c.args.world.now c.args.task c.args.buffer.room c.args.buffer.large c.requires.there c.args.name _ c.in_err-waited.ensures.err)

pub returns-in_err-waited-clause-wanted : goal.returns-in_err-waited-clause-wanted
returns-in_err-waited-clause-wanted c =
    let p = err_from_is_err_and c.from_residual.result c.from_residual.ensures.1 in
    rw (p.1, p.2) (λ e. absurd (not_short_named c.args.world.now c.args.task c.args.name _ c.requires.stands c.in_err-waited.ensures.err e))

pub returns-in_err-waited-clause-spares : goal.returns-in_err-waited-clause-spares
returns-in_err-waited-clause-spares c =
    let p = err_from_is_err_and c.from_residual.result c.from_residual.ensures.1 in
    rw (p.1, p.2) (refused_spares _ _ _ _ (keeps_same c.args.world.now c.args.world.now refl))

pub returns-in_err-reply-clause-serves : goal.returns-in_err-reply-clause-serves
returns-in_err-reply-clause-serves c =
    let x = rw c.in-Port.is at c.in_ok-waited.ensures in
    let p = err_from_is_err_and c.from_residual-in_err-reply.result c.from_residual-in_err-reply.ensures.1 in
    let stays = c.in_err-reply.ensures.err in
    rw (p.1, p.2, stays.0) (named_stays c.args.world.now c.args.task c.args.buffer.room c.args.buffer.large c.requires.there c.args.name (Waited.Port c.in-Port.port) x.ok _ stays.1)

pub returns-in_err-reply-clause-wanted : goal.returns-in_err-reply-clause-wanted
returns-in_err-reply-clause-wanted c =
    let x = rw c.in-Port.is at c.in_ok-waited.ensures in
    let p = err_from_is_err_and c.from_residual-in_err-reply.result c.from_residual-in_err-reply.ensures.1 in
    rw (p.1, p.2) (λ e. ((Waited.Port c.in-Port.port), x.found, c.in_err-reply.ensures.wanted e))

pub returns-in_err-reply-clause-spares : goal.returns-in_err-reply-clause-spares
returns-in_err-reply-clause-spares c =
    let p = err_from_is_err_and c.from_residual-in_err-reply.result c.from_residual-in_err-reply.ensures.1 in
    rw (p.1, p.2) (refused_spares _ _ _ _ (keeps_same c.args.world.now c.take.new.world c.in_err-reply.ensures.err.0))

pub returns-clause-turns : goal.returns-clause-turns
returns-clause-turns c =
    let x = rw c.in-Port.is at c.in_ok-waited.ensures in
    named_turns c.args.world.now c.args.task c.args.name c.args.buffer.room c.args.buffer.large (Waited.Port c.in-Port.port) c.in_ok-reply.reply c.take.new.world x.found c.in_ok-reply.ensures.turns

pub returns-in_err-waited-clause-turns : goal.returns-in_err-waited-clause-turns
returns-in_err-waited-clause-turns c =
    let p = err_from_is_err_and c.from_residual.result c.from_residual.ensures.1 in
    rw p.1 refl

pub returns-in_err-reply-clause-turns : goal.returns-in_err-reply-clause-turns
returns-in_err-reply-clause-turns c =
    let p = err_from_is_err_and c.from_residual-in_err-reply.result c.from_residual-in_err-reply.ensures.1 in
    rw p.1 c.in_err-reply.ensures.err.0

pub returns-clause-tells : goal.returns-clause-tells
returns-clause-tells c =
    let x = rw c.in-Port.is at c.in_ok-waited.ensures in
    c.tell_message.ensures
    ∙ told_of_source c.args.world.now c.requires.stands c.args.task (Waited.Port c.in-Port.port) c.args.buffer.room c.args.buffer.large c.in_ok-waited.field-0.ready c.in_ok-reply.reply c.take.new.world
    x.first x.ready c.in_ok-reply.ensures.ok c.args.told.now c.take.new.told c.requires.nothing c.in_ok-reply.ensures.tells
    ∙ ap (λ (o : Option ℕ). by_receipt c.args.world.now c.args.task c.args.buffer.large o c.in_ok-reply.reply) (sym (ap (option_and_then (source_of c.args.world.now)) x.found))

pub returns-in_default-clause-takes : goal.returns-in_default-clause-takes
returns-in_default-clause-takes c =
    named_took c.args.world.now c.receive_from.new.world c.args.task c.args.buffer.room c.args.buffer.large c.requires.there c.in_ok-waited.field-0.waited c.in_ok-waited.field-0.ready c.in_ok-waited.ensures.first c.in_ok-waited.ensures.ready c.args.name c.in_ok-waited.ensures.found
    c.in_ok-waited.ensures.ok c.receive_from.result c.receive_from.ensures.ok

pub returns-in_default-clause-serves : goal.returns-in_default-clause-serves
returns-in_default-clause-serves c =
    named_serves c.args.world.now c.receive_from.new.world c.args.task c.args.buffer.room c.args.buffer.large c.requires.there c.in_ok-waited.field-0.waited c.in_ok-waited.field-0.ready c.in_ok-waited.ensures.first c.in_ok-waited.ensures.ready c.args.name c.in_ok-waited.ensures.found
    c.in_ok-waited.ensures.ok c.receive_from.result c.receive_from.ensures.ok c.receive_from.ensures.err

pub returns-in_default-clause-wanted : goal.returns-in_default-clause-wanted
returns-in_default-clause-wanted c =
    named_wants c.args.world.now c.receive_from.new.world c.args.task c.args.buffer.room c.args.buffer.large c.requires.there c.in_ok-waited.field-0.waited c.in_ok-waited.field-0.ready c.in_ok-waited.ensures.first c.in_ok-waited.ensures.ready c.args.name c.in_ok-waited.ensures.found
    (msg_number ReceiveBodyErrorMemory) c.receive_from.result c.receive_from.ensures.wanted

pub returns-in_default-clause-spares : goal.returns-in_default-clause-spares
returns-in_default-clause-spares c =
    named_leaves c.args.world.now c.receive_from.new.world c.args.task c.args.buffer.room c.args.buffer.large c.requires.there c.in_ok-waited.field-0.waited c.in_ok-waited.field-0.ready c.in_ok-waited.ensures.first c.in_ok-waited.ensures.ready c.args.name c.in_ok-waited.ensures.found
    c.receive_from.result c.receive_from.ensures.err c.receive_from.ensures.spares

pub returns-in_default-clause-turns : goal.returns-in_default-clause-turns
returns-in_default-clause-turns c =
    named_keeps c.args.world.now c.receive_from.new.world c.args.task c.args.buffer.room c.args.buffer.large c.requires.there c.in_ok-waited.field-0.waited c.in_ok-waited.field-0.ready c.in_ok-waited.ensures.first c.in_ok-waited.ensures.ready c.args.name c.in_ok-waited.ensures.found
    c.receive_from.result c.receive_from.ensures.err c.receive_from.ensures.turns

pub returns-in_default-clause-tells : goal.returns-in_default-clause-tells
returns-in_default-clause-tells c =
    named_tells c.args.world.now c.receive_from.new.world c.args.task c.args.buffer.room c.args.buffer.large c.requires.there c.in_ok-waited.field-0.waited c.in_ok-waited.field-0.ready c.in_ok-waited.ensures.first c.in_ok-waited.ensures.ready c.args.name c.in_ok-waited.ensures.found
    c.requires.stands c.args.told.now c.receive_from.new.told c.receive_from.result c.receive_from.ensures.ok c.requires.nothing c.receive_from.ensures.tells
