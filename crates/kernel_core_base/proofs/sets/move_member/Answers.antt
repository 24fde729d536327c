use Rattle.std.proofs.Common.{List, ℕ, sym, subst, ap, ◌∙◌, Result, Err}
use Rattle.std.specs.Option.{option_to_list}
use Rattle.std.proofs.lemmas.Result.{err_from_is_err_and}
use Rattle.mach_types.specs.declared.calls.Event.{Event}
use Rattle.mach_types.specs.Codes.{kern_number}
use Rattle.mach_types.specs.declared.codes.Code.{Code}
use Rattle.copyin_base.specs.Serving.{Serves}
use Rattle.copyin_base.proofs.Acting.{refused}
use Rattle.copyin_base.proofs.Finding.{receive_port_there}
use Rattle.copyin_base.proofs.InSets.{membership_at}
use Rattle.copyin_base.proofs.SetsChanged.{puts_in, sets_keep}
use Rattle.kernel_core_base.specs.declared.sets.Moved.{Moved}
use Rattle.kernel_core_base.specs.Sets.{moved_reply}
use Rattle.kernel_core_base.proofs.Members.{moved}
use Rattle.kernel_core_base.proofs.sets.move_member.Goals as goal

pub returns-in_err-moving-clause-serves : goal.returns-in_err-moving-clause-serves
returns-in_err-moving-clause-serves c =
    let e = err_from_is_err_and c.from_residual.result c.from_residual.ensures.1 in
    subst (λ (x : Result Moved Code). Serves c.args.world.now (Event.MoveMember c.args.task c.args.member c.args.after) (moved_reply x) c.args.world.now) (sym (e.1 ∙ ap Err e.2))
    (refused c.args.world.now (Event.MoveMember c.args.task c.args.member c.args.after) c.requires.there (kern_number c.in_err-moving.field-0.0) c.in_err-moving.ensures.err)

pub move_to_set-requires : goal.move_to_set-requires
move_to_set-requires c = receive_port_there c.args.world.now c.args.task c.args.member c.in_ok-moving.moving.port c.in_ok-moving.ensures.ok.finds c.requires.stands

pub returns-clause-serves : goal.returns-clause-serves
returns-clause-serves c =
    let port = c.in_ok-moving.moving.port in
    let set = c.in_ok-moving.moving.set in
    let there = receive_port_there c.args.world.now c.args.task c.args.member port c.in_ok-moving.ensures.ok.finds c.requires.stands in
    moved c.args.world.now c.args.task c.args.member c.args.after port set c.requires.there c.in_ok-moving.ensures.ok c.move_to_set.new.self
    (puts_in c.args.world.now c.move_to_set.new.self port (λ (sets : List ℕ). option_to_list set) there c.move_to_set.ensures)

pub returns-clause-spares : goal.returns-clause-spares
returns-clause-spares c =
    let port = c.in_ok-moving.moving.port in
    let set = c.in_ok-moving.moving.set in
    let there = receive_port_there c.args.world.now c.args.task c.args.member port c.in_ok-moving.ensures.ok.finds c.requires.stands in
    sets_keep c.args.world.now c.move_to_set.new.self port (option_to_list set) (puts_in c.args.world.now c.move_to_set.new.self port (λ (sets : List ℕ). option_to_list set) there c.move_to_set.ensures)

pub returns-clause-tells : goal.returns-clause-tells
returns-clause-tells c = record {
  finds = c.in_ok-moving.ensures.ok.finds;
  left = sym (membership_at c.args.world.now c.in_ok-moving.moving.port c.membership-left.result c.membership-left.ensures.live c.membership-left.ensures.gone);
}
