use Rattle.std.proofs.Common.{◌≡◌}
use Rattle.mach_types.specs.declared.calls.Event.{Event}
use Rattle.mach_types.specs.declared.codes.KernReturn.{KernReturn}
use Rattle.mach_types.specs.Codes.{kern_number}
use Rattle.mach_model.specs.Refusals.{extract_guards}
use Rattle.copyin_base.specs.Serving.{IsRefused}
use Rattle.copyin_base.proofs.Acting.{refused}
use Rattle.transfer.specs.declared.judge.Going.{Going}
use Rattle.transfer.specs.Transfer.{CanGo}
use Rattle.transfer.proofs.Results.{if_ok, if_err, of_ok, of_err}
use Rattle.transfer.proofs.Transferring.{may_extract, extract_declined}
use Rattle.transfer.proofs.judge.judge_extract.Goals as goal

pub returns-in-Ok-clause-ok : goal.returns-in-Ok-clause-ok
returns-in-Ok-clause-ok c =
    let w = c.args.world.now in
    let from = c.args.from.now in
    let g = c.in-Ok.going in
    let may = of_ok c.may_extract.result (λ (x : Going). (x.from ≡ from.task) × (x.name ≡ from.name) × CanGo w c.args.number x) g c.in-Ok.is c.may_extract.ensures.ok in
    if_ok c.check_extract.result _ _ c.check_extract.ensures.ok (λ handed h. may_extract w from c.args.number g may.0 may.1 may.2 c.args.to handed h.0 h.1 h.2 h.3)

pub returns-in-Ok-clause-err : goal.returns-in-Ok-clause-err
returns-in-Ok-clause-err c =
    let w = c.args.world.now in
    let from = c.args.from.now in
    let g = c.in-Ok.going in
    let may = of_ok c.may_extract.result (λ (x : Going). (x.from ≡ from.task) × (x.name ≡ from.name) × CanGo w c.args.number x) g c.in-Ok.is c.may_extract.ensures.ok in
    if_err c.check_extract.result _ _ c.check_extract.ensures.err (λ code first. extract_declined w from c.args.number g may.0 may.1 may.2 c.args.to c.requires.there _ first)

pub returns-in-Err-clause-err : goal.returns-in-Err-clause-err
returns-in-Err-clause-err c =
    let w = c.args.world.now in
    let from = c.args.from.now in
    refused w (Event.ExtractRight from.task from.name c.args.number c.args.to) c.requires.there (kern_number c.in-Err.code)
    record { refused = (of_err c.may_extract.result (λ (code : KernReturn). IsRefused w (λ s. extract_guards s from.task from.name c.args.number c.args.to) (kern_number code)) c.in-Err.code c.in-Err.is c.may_extract.ensures.err).refused }
