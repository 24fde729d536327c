use Rattle.std.proofs.Common.{◌≡◌, Some, None, ap, sym, ◌∙◌}
use Rattle.std.specs.FinMap as map
use Rattle.std.specs.Vec.{vec_capacity}
use Rattle.request_table.specs.Requests.{name_key}
use Rattle.request_table.proofs.Found.{found-request, none-request, task_is, name_is}
use Rattle.request_table.proofs.Requests.get.Goals as goal

pub returns-in_err-entry-clause-kept : goal.returns-in_err-entry-clause-kept
returns-in_err-entry-clause-kept c =
    let none : map.get c.self.inside.by_name.map (name_key c.args.task c.args.name) ≡ None = sym (c.in_err-entry.ensures ∙ ap (map.get c.self.inside.by_name.map) c.key_of.ensures.key) in
    c.from_residual.ensures ∙ sym (none-request c.self.inside.by_name c.self.inside.by_port c.self.inside.keys.items c.self.inside.free.items (vec_capacity c.self.inside.free) c.self.inside.fresh c.self.invariant.standing c.self.inside.went.items c.args.self.now c.self.view_is (name_key c.args.task c.args.name) none)

pub returns-clause-kept : goal.returns-clause-kept
returns-clause-kept c =
    let at : map.get c.self.inside.by_name.map (name_key c.args.task c.args.name) ≡ Some c.in_ok-entry.entry = sym (c.in_ok-entry.ensures ∙ ap (map.get c.self.inside.by_name.map) c.key_of.ensures.key) in
    sym (found-request c.self.inside.by_name c.self.inside.by_port c.self.inside.keys.items c.self.inside.free.items (vec_capacity c.self.inside.free) c.self.inside.fresh c.self.invariant.standing c.self.inside.went.items c.args.self.now c.self.view_is (name_key c.args.task c.args.name) c.in_ok-entry.entry at)

pub returns-clause-own : goal.returns-clause-own
returns-clause-own c =
    let at : map.get c.self.inside.by_name.map (name_key c.args.task c.args.name) ≡ Some c.in_ok-entry.entry = sym (c.in_ok-entry.ensures ∙ ap (map.get c.self.inside.by_name.map) c.key_of.ensures.key) in (
      task_is c.self.inside.by_name c.self.inside.by_port c.self.inside.keys.items c.self.inside.free.items (vec_capacity c.self.inside.free) c.self.inside.fresh c.self.invariant.standing c.self.inside.went.items c.args.self.now c.self.view_is c.args.task c.args.name c.key_of.ensures.small c.in_ok-entry.entry at,
      name_is c.self.inside.by_name c.self.inside.by_port c.self.inside.keys.items c.self.inside.free.items (vec_capacity c.self.inside.free) c.self.inside.fresh c.self.invariant.standing c.self.inside.went.items c.args.self.now c.self.view_is c.args.task c.args.name c.key_of.ensures.small c.in_ok-entry.entry at,
    )
