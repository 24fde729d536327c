use Rattle.std.proofs.Common.{◌++◌, ◌∷◌, [], List, ℕ}
use Rattle.mach_types.specs.declared.calls.Event.{Event}
use Rattle.copyin_base.specs.Worlds.{sets_at}
use Rattle.copyin_base.proofs.Finding.{receive_port_there}
use Rattle.copyin_base.proofs.SetsChanged.{puts_in, sets_keep}
use Rattle.kernel_core_base.proofs.Paired.{entered, enters_apart, pair_refused, pair_wants, wants_to_enter}
use Rattle.kernel_core_base.proofs.sets.insert_member.Goals as goal

pub returns-in_err-pair-clause-serves : goal.returns-in_err-pair-clause-serves
returns-in_err-pair-clause-serves c =
    pair_refused c.args.world.now (Event.InsertMember c.args.task c.args.member c.args.set) c.from_residual.result c.in_err-pair.field-0.0 c.from_residual.ensures.1 c.requires.there c.in_err-pair.ensures.err

pub returns-in_err-pair-clause-wanted : goal.returns-in_err-pair-clause-wanted
returns-in_err-pair-clause-wanted c =
    pair_wants c.args.world.now (Event.InsertMember c.args.task c.args.member c.args.set) c.args.task c.args.member c.from_residual.result c.in_err-pair.field-0.0 c.from_residual.ensures.1 c.requires.stands c.in_err-pair.ensures.err

pub enter_set-requires-clause-live : goal.enter_set-requires-clause-live
enter_set-requires-clause-live c = receive_port_there c.args.world.now c.args.task c.args.member c.in_ok-pair.pair.port c.in_ok-pair.ensures.ok.0.finds c.requires.stands

pub enter_set-requires-clause-apart : goal.enter_set-requires-clause-apart
enter_set-requires-clause-apart c = enters_apart c.args.world.now c.args.task c.args.member c.args.set c.in_ok-pair.pair c.in_ok-pair.ensures.ok.0 c.requires.stands c.in_ok-pair.ensures.ok.1

pub returns-in-Ok-clause-serves : goal.returns-in-Ok-clause-serves
returns-in-Ok-clause-serves c =
    let pair = c.in_ok-pair.pair in
    let there = receive_port_there c.args.world.now c.args.task c.args.member pair.port c.in_ok-pair.ensures.ok.0.finds c.requires.stands in
    entered c.args.world.now c.args.task c.args.member c.args.set pair c.in_ok-pair.ensures.ok.0 c.requires.there c.in_ok-pair.ensures.ok.1 c.enter_set.new.self
    (puts_in c.args.world.now c.enter_set.new.self pair.port (λ (sets : List ℕ). sets ++ pair.set ∷ []) there c.in-Ok.ensures.ok)

pub returns-in-Ok-clause-spares : goal.returns-in-Ok-clause-spares
returns-in-Ok-clause-spares c =
    let pair = c.in_ok-pair.pair in
    let there = receive_port_there c.args.world.now c.args.task c.args.member pair.port c.in_ok-pair.ensures.ok.0.finds c.requires.stands in
    sets_keep c.args.world.now c.enter_set.new.self pair.port (sets_at c.args.world.now pair.port ++ pair.set ∷ [])
    (puts_in c.args.world.now c.enter_set.new.self pair.port (λ (sets : List ℕ). sets ++ pair.set ∷ []) there c.in-Ok.ensures.ok)

pub returns-in-Ok-clause-tells : goal.returns-in-Ok-clause-tells
returns-in-Ok-clause-tells c = record { finds = c.in_ok-pair.ensures.ok.0.finds; stands = c.in_ok-pair.ensures.ok.0.stands }

pub returns-in-Err-clause-wanted : goal.returns-in-Err-clause-wanted
returns-in-Err-clause-wanted c =
    let pair = c.in_ok-pair.pair in
    let there = receive_port_there c.args.world.now c.args.task c.args.member pair.port c.in_ok-pair.ensures.ok.0.finds c.requires.stands in
    λ short. wants_to_enter c.args.world.now c.args.task c.args.member c.args.set pair c.in_ok-pair.ensures.ok.0 there c.in-Err.ensures.further
