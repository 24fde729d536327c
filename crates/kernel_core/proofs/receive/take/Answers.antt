use Rattle.std.proofs.Common.{◌≡◌, ℕ, Option, Some, sym, ap, subst, ◌∙◌}
use Rattle.std.specs.Prelude.{MatchBool, if◌then◌else◌}
use Rattle.copyin_base.specs.Worlds.{WorldView}
use Rattle.kernel_change.specs.Changing.{by_too_long}
use Rattle.notifications.specs.Destroying.{DestroysMessage, CanDestroy}
use Rattle.kernel_core.proofs.Receiving.{message_finds, message_waits, receipt_empty, receipt_message, message_destroyable, stays_for_names, stays_for_memory}
use Rattle.kernel_core.proofs.Freed.{message_unused}
use Rattle.kernel_core.proofs.InTurn.{empty_in_turn, message_in_turn, large_in_turn}
use Rattle.kernel_core.proofs.Named.{known_here}
use Rattle.kernel_core.proofs.Ready.{ready_one, ready_none}
use Rattle.kernel_core.proofs.Sparing.{one_freed}
use Rattle.kernel_core.specs.InTurn.{PassesIn}
use Rattle.kernel_core.proofs.Chosen.{passes-in}
use Rattle.kernel_core.proofs.Passing.{receipt_after, freed_after, large_passed, passed_freed}
use Rattle.kernel_core.proofs.receive.take.Goals as goal

pub returns-in_default-clause-ok : goal.returns-in_default-clause-ok
returns-in_default-clause-ok c = receipt_empty c.args.world.now c.args.task c.requires.there c.args.origin.waited c.requires.may c.args.buffer.room c.args.buffer.large c.args.origin.ready (ready_none c.args.world.now c.args.origin.waited c.args.origin.ready c.in_default.is c.requires.ready)

pub name_of-name-requires-clause-has : goal.name_of-name-requires-clause-has
name_of-name-requires-clause-has c = message_finds c.args.world.now c.requires.stands c.args.task c.in-Some.port c.args.origin.waited c.requires.may (ready_one c.args.world.now c.args.origin.waited c.args.origin.ready c.in-Some.port c.in-Some.is c.requires.ready)

pub name_of-name-requires-clause-known : goal.name_of-name-requires-clause-known
name_of-name-requires-clause-known c = known_here c.args.world.now c.args.task c.args.origin.waited c.args.origin.name c.in-Some.port (ready_one c.args.world.now c.args.origin.waited c.args.origin.ready c.in-Some.port c.in-Some.is c.requires.ready).from c.requires.known

pub receive-requires-clause-waits : goal.receive-requires-clause-waits
receive-requires-clause-waits c = message_waits c.args.world.now c.requires.stands c.in-Some.port c.args.origin.waited (ready_one c.args.world.now c.args.origin.waited c.args.origin.ready c.in-Some.port c.in-Some.is c.requires.ready)

pub returns-in-Ok-clause-ok : goal.returns-in-Ok-clause-ok
returns-in-Ok-clause-ok c =
    let x = c.in-Ok.ensures.ok in
    receipt_after c.args.world.now c.args.task c.args.buffer.room c.args.origin.waited c.args.buffer.large c.args.origin.ready _ c.receive.new.world c.pass_turn.new.world (passes-in c.receive.new.world c.pass_turn.new.world c.args.origin.waited c.in-Some.port c.pass_turn.ensures)
    (receipt_message c.args.world.now c.args.task c.requires.there c.args.origin.waited c.requires.may c.args.buffer.room c.in-Some.port (ready_one c.args.world.now c.args.origin.waited c.args.origin.ready c.in-Some.port c.in-Some.is c.requires.ready).from c.args.origin.ready c.in-Some.is c.name_of-name.result c.name_of-name.ensures
    c.in-Ok.bytes x.0 x.1 x.2 c.receive.new.world x.3 x.4 x.5 x.6 c.args.buffer.large)

pub returns-in-Err-Names-clause-err : goal.returns-in-Err-Names-clause-err
returns-in-Err-Names-clause-err c =
    let x = rw c.in-Err-Names.field-0-is at c.in-Err-Names.ensures.err in
    (x.0, stays_for_names c.args.world.now c.args.task c.requires.there c.args.origin.waited c.requires.may c.args.buffer.room c.in-Some.port (ready_one c.args.world.now c.args.origin.waited c.args.origin.ready c.in-Some.port c.in-Some.is c.requires.ready).from x.1 x.2 x.3.0 x.3.1)

pub returns-in-Err-Memory-clause-err : goal.returns-in-Err-Memory-clause-err
returns-in-Err-Memory-clause-err c =
    let x = rw c.in-Err-Memory.field-0-is at c.in-Err-Memory.ensures.err in
    (x.0, stays_for_memory c.args.world.now c.args.task c.requires.there c.args.origin.waited c.requires.may c.args.buffer.room c.in-Some.port (ready_one c.args.world.now c.args.origin.waited c.args.origin.ready c.in-Some.port c.in-Some.is c.requires.ready).from x.1 x.2 x.3.0 x.3.1)

pub returns-in-Ok-clause-spares : goal.returns-in-Ok-clause-spares
returns-in-Ok-clause-spares c =
    let x = c.in-Ok.ensures.ok in
    freed_after c.args.world.now c.receive.new.world c.pass_turn.new.world c.args.task c.args.origin.waited c.args.buffer.large _ (passes-in c.receive.new.world c.pass_turn.new.world c.args.origin.waited c.in-Some.port c.pass_turn.ensures)
    (one_freed c.args.world.now c.receive.new.world c.args.task c.args.origin.waited c.in-Some.port c.args.buffer.large c.in-Ok.bytes
    (ready_one c.args.world.now c.args.origin.waited c.args.origin.ready c.in-Some.port c.in-Some.is c.requires.ready).from c.in-Ok.ensures.kept
    (message_unused c.args.world.now x.1 x.2 c.receive.new.world c.args.task c.in-Some.port x.0 c.name_of-name.result c.in-Ok.bytes x.3 x.4 x.6))

pub returns-in-Err-Memory-clause-wanted : goal.returns-in-Err-Memory-clause-wanted
returns-in-Err-Memory-clause-wanted c = λ e. record { port = c.in-Some.port; has = (ready_one c.args.world.now c.args.origin.waited c.args.origin.ready c.in-Some.port c.in-Some.is c.requires.ready); wants = c.in-Err-Memory.ensures.wanted c.in-Err-Memory.field-0-is }

pub lose_or_keep-requires : goal.lose_or_keep-requires
lose_or_keep-requires c =
    let x = rw c.in-Err-TooLarge.field-0-is at c.in-Err-TooLarge.ensures.err in
    subst (λ (v : WorldView). CanDestroy v c.in-Some.port) (sym x.0) (message_destroyable c.args.world.now c.requires.stands c.in-Some.port c.args.origin.waited (ready_one c.args.world.now c.args.origin.waited c.args.origin.ready c.in-Some.port c.in-Some.is c.requires.ready))

pub returns-in-Err-TooLarge-clause-ok : goal.returns-in-Err-TooLarge-clause-ok
returns-in-Err-TooLarge-clause-ok c =
    let x = rw c.in-Err-TooLarge.field-0-is at c.in-Err-TooLarge.ensures.err in
    let new = c.lose_or_keep.new.world in
    large_passed c.args.world.now c.args.task c.requires.there c.args.origin.waited c.requires.may c.args.buffer.room c.in-Some.port (ready_one c.args.world.now c.args.origin.waited c.args.origin.ready c.in-Some.port c.in-Some.is c.requires.ready).from x.1 x.2 c.args.origin.ready c.in-Some.is c.args.buffer.large c.in-Err-TooLarge.length x.3.0 x.3.1 new
    (subst (λ (v : WorldView). MatchBool c.args.buffer.large (new ≡ v) ((mid : WorldView) × PassesIn v c.args.origin.waited c.in-Some.port mid × DestroysMessage mid c.in-Some.port new)) x.0 c.lose_or_keep.ensures.ends)

pub returns-in-Err-TooLarge-clause-spares : goal.returns-in-Err-TooLarge-clause-spares
returns-in-Err-TooLarge-clause-spares c =
    let x = rw c.in-Err-TooLarge.field-0-is at c.in-Err-TooLarge.ensures.err in
    let new = c.lose_or_keep.new.world in
    passed_freed c.args.world.now new c.args.task c.args.origin.waited c.args.buffer.large c.in-Some.port c.in-Err-TooLarge.length c.requires.stands.shown.slots
    (subst (λ (v : WorldView). MatchBool c.args.buffer.large (new ≡ v) ((mid : WorldView) × PassesIn v c.args.origin.waited c.in-Some.port mid × DestroysMessage mid c.in-Some.port new)) x.0 c.lose_or_keep.ensures.ends)

pub returns-in_default-clause-turns : goal.returns-in_default-clause-turns
returns-in_default-clause-turns c = empty_in_turn c.args.world.now c.args.origin.waited c.args.origin.ready c.requires.first c.args.buffer.large c.args.origin.waited c.in_default.is

pub returns-in-Ok-clause-turns : goal.returns-in-Ok-clause-turns
returns-in-Ok-clause-turns c =
    let x = c.in-Ok.ensures.ok in
    message_in_turn c.args.world.now c.args.origin.waited c.args.origin.ready c.requires.first c.in-Some.port c.in-Some.is (ready_one c.args.world.now c.args.origin.waited c.args.origin.ready c.in-Some.port c.in-Some.is c.requires.ready)
    x.1 x.2 c.receive.new.world c.pass_turn.new.world c.args.task x.0 c.name_of-name.result c.in-Ok.bytes c.args.buffer.large x.3 x.4 x.6 c.pass_turn.ensures

pub returns-in-Err-TooLarge-clause-turns : goal.returns-in-Err-TooLarge-clause-turns
returns-in-Err-TooLarge-clause-turns c =
    let x = rw c.in-Err-TooLarge.field-0-is at c.in-Err-TooLarge.ensures.err in
    let new = c.lose_or_keep.new.world in
    large_in_turn c.args.world.now c.args.origin.waited c.args.origin.ready c.requires.first c.in-Some.port c.in-Some.is (ready_one c.args.world.now c.args.origin.waited c.args.origin.ready c.in-Some.port c.in-Some.is c.requires.ready)
    c.args.buffer.large c.in-Err-TooLarge.length new
    (subst (λ (v : WorldView). MatchBool c.args.buffer.large (new ≡ v) ((mid : WorldView) × PassesIn v c.args.origin.waited c.in-Some.port mid × DestroysMessage mid c.in-Some.port new)) x.0 c.lose_or_keep.ensures.ends)

pub returns-in-Err-TooLarge-clause-tells : goal.returns-in-Err-TooLarge-clause-tells
returns-in-Err-TooLarge-clause-tells c =
    let x = rw c.in-Err-TooLarge.field-0-is at c.in-Err-TooLarge.ensures.err in
    let large = c.args.buffer.large in
    c.lose_or_keep.ensures.tells ∙ ap (λ (v : WorldView). if large then c.args.told.now else by_too_long v (Some c.in-Some.port)) x.0 ∙ ap (λ (o : Option ℕ). if large then c.args.told.now else by_too_long c.args.world.now o) (sym c.in-Some.is)
