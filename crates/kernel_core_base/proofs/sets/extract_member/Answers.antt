use Rattle.std.proofs.Common.{List, ℕ, arith}
use Rattle.mach_types.specs.declared.calls.Event.{Event}
use Rattle.mach_types.specs.declared.codes.KernReturn.TheVariants.{NotInSet}
use Rattle.mach_types.specs.Codes.{kern_number}
use Rattle.member_lists.specs.Lists.{without}
use Rattle.copyin_base.proofs.Acting.{refused}
use Rattle.copyin_base.proofs.Finding.{receive_port_there}
use Rattle.copyin_base.proofs.SetsChanged.{puts_in}
use Rattle.kernel_core_base.proofs.Paired.{left, not_in, pair_refused}
use Rattle.kernel_core_base.proofs.sets.extract_member.Goals as goal

pub returns-in_err-pair-clause-serves : goal.returns-in_err-pair-clause-serves
returns-in_err-pair-clause-serves c =
    pair_refused c.args.world.now (Event.ExtractMember c.args.task c.args.member c.args.set) c.from_residual.result c.in_err-pair.field-0.0 c.from_residual.ensures.1 c.requires.there c.in_err-pair.ensures.err.1

pub returns-then-not-is_in-clause-serves : goal.returns-then-not-is_in-clause-serves
returns-then-not-is_in-clause-serves c =
    refused c.args.world.now (Event.ExtractMember c.args.task c.args.member c.args.set) c.requires.there (kern_number NotInSet)
    (not_in c.args.world.now c.args.task c.args.member c.args.set c.in_ok-pair.pair c.in_ok-pair.ensures.ok (λ i. grind (arith, c.is_in.ensures.1 i, c.if-not-is_in.true)))

pub returns-clause-serves : goal.returns-clause-serves
returns-clause-serves c =
    let pair = c.in_ok-pair.pair in
    let there = receive_port_there c.args.world.now c.args.task c.args.member pair.port c.in_ok-pair.ensures.ok.finds c.requires.stands in
    left c.args.world.now c.args.task c.args.member c.args.set pair c.in_ok-pair.ensures.ok c.requires.there (c.is_in.ensures.0 (grind (arith, c.if-not-is_in.false))) c.leave_set.new.self
    (puts_in c.args.world.now c.leave_set.new.self pair.port (λ (sets : List ℕ). without pair.set sets) there c.leave_set.ensures)
