use Rattle.std.proofs.Common.{◌≡◌, ◌+◌, ◌≤◌, refl, sym, ap, subst, ◌∙◌}
use Rattle.mach_types.specs.Numbers.{most_rights}
use Rattle.rights.specs.Ledger.{LedgerView, IsEntered}
use Rattle.copyin_base.specs.declared.Mark.{Mark}
use Rattle.copyin_base.specs.Worlds.{WorldView}
use Rattle.copyin.specs.Copies.{ports_copied, ledger_copied, CopiesRight}
use Rattle.copyin.specs.Judging.{made_by_mark}
use Rattle.copyin.proofs.Going.{copies_right}
use Rattle.copyin.proofs.carry_out.copy_either.Goals as goal

pub count_copied-requires-clause-entered : goal.count_copied-requires-clause-entered
count_copied-requires-clause-entered c port to =
    let can = c.requires in
    let same : c.args.world.now.ledger ≡ c.leave_name-mark.new.world.ledger = sym (ap (λ (w : WorldView). w.ledger) (c.leave_name-mark.ensures.left can).rest) in
    subst (λ (l : LedgerView). IsEntered l port) same (can.entered port (sym c.leave_name-mark.ensures.mark ∙ to))

pub count_copied-requires-clause-room : goal.count_copied-requires-clause-room
count_copied-requires-clause-room c =
    let can = c.requires in
    let same : c.args.world.now.ledger ≡ c.leave_name-mark.new.world.ledger = sym (ap (λ (w : WorldView). w.ledger) (c.leave_name-mark.ensures.left can).rest) in
    subst (λ (m : Mark). c.leave_name-mark.new.world.ledger.total + made_by_mark c.args.carried.given m ≤ most_rights) (sym c.leave_name-mark.ensures.mark)
    (subst (λ (l : LedgerView). l.total + made_by_mark c.args.carried.given c.args.carried.mark ≤ most_rights) same can.few)

pub returns : goal.returns
returns c =
    let can = c.requires in
    let carried = c.args.carried in
    let mid = c.leave_name-mark.new.world in
    let same : c.leave_name-mark.result ≡ can.copied.mark = c.leave_name-mark.ensures.mark ∙ can.mark_is in
    subst (λ (w : WorldView). CopiesRight c.args.world.now c.args.task carried.given c.args.name carried.mark w) (sym c.count_copied.ensures)
    (copies_right c.args.world.now mid c.args.task c.args.name carried can can.copied refl (c.leave_name-mark.ensures.left can)
    mid.profile mid.spaces mid.ports mid.ledger mid.sets mid.requests refl _ _
    (ap (λ (m : Mark). ports_copied carried.given m mid.ports) same)
    (ap (λ (m : Mark). ledger_copied carried.given m mid.ledger) same))
