use Rattle.std.proofs.Common.{◌≡◌}
use Rattle.mach_types.specs.declared.calls.Event.{Event}
use Rattle.mach_types.specs.declared.codes.KernReturn.{KernReturn}
use Rattle.mach_types.specs.Codes.{kern_number}
use Rattle.mach_model.specs.Refusals.{insert_guards}
use Rattle.mach_model.specs.NameGuards.{IsNoName}
use Rattle.copyin_base.specs.Serving.{IsRefused}
use Rattle.copyin_base.proofs.Acting.{refused}
use Rattle.transfer.specs.declared.judge.Going.{Going}
use Rattle.transfer.specs.Transfer.{CanGo}
use Rattle.transfer.proofs.Results.{if_ok, if_err, of_ok, of_err}
use Rattle.transfer.proofs.Transferring.{may_insert, insert_declined}
use Rattle.transfer.proofs.judge.judge_insert.Goals as goal

pub returns-in-Ok-clause-ok : goal.returns-in-Ok-clause-ok
returns-in-Ok-clause-ok c =
    let w = c.args.world.now in
    let to = c.args.to.now in
    let from = c.args.from.now in
    let g = c.in-Ok.going in
    let may = of_ok c.may_insert.result (λ (x : Going). (x.from ≡ from.task) × (x.name ≡ from.name) × CanGo w c.args.number x × ¬ (IsNoName to.name) × ¬ (IsNoName from.name)) g c.in-Ok.is c.may_insert.ensures.ok in
    if_ok c.check_insert.result _ _ c.check_insert.ensures.ok (λ handed h. may_insert w from c.args.number g may.0 may.1 may.2 to may.3 may.4 handed h.0 h.1 h.2 h.3)

pub returns-in-Ok-clause-err : goal.returns-in-Ok-clause-err
returns-in-Ok-clause-err c =
    let w = c.args.world.now in
    let to = c.args.to.now in
    let from = c.args.from.now in
    let g = c.in-Ok.going in
    let may = of_ok c.may_insert.result (λ (x : Going). (x.from ≡ from.task) × (x.name ≡ from.name) × CanGo w c.args.number x × ¬ (IsNoName to.name) × ¬ (IsNoName from.name)) g c.in-Ok.is c.may_insert.ensures.ok in
    if_err c.check_insert.result _ _ c.check_insert.ensures.err (λ code first. insert_declined w from c.args.number g may.0 may.1 may.2 to may.3 may.4 c.requires.there _ first)

pub returns-in-Err-clause-err : goal.returns-in-Err-clause-err
returns-in-Err-clause-err c =
    let w = c.args.world.now in
    let to = c.args.to.now in
    let from = c.args.from.now in
    refused w (Event.InsertRight to.task to.name from.task from.name c.args.number) c.requires.there (kern_number c.in-Err.code)
    record { refused = (of_err c.may_insert.result (λ (code : KernReturn). IsRefused w (λ s. insert_guards s to.task to.name from.task from.name c.args.number) (kern_number code)) c.in-Err.code c.in-Err.is c.may_insert.ensures.err).refused }
