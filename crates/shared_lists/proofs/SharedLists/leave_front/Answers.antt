use Rattle.std.proofs.Common.{◌∷◌, sym, ap, ◌∙◌}
use Rattle.member_lists.specs.Lists.{without}
use Rattle.shared_lists.specs.Shared.{SharedView, more_of, left}
use Rattle.shared_lists.proofs.Leaving.{without_first, first_rest, first_others, further_lists, further_rest, further_others, further_first}
use Rattle.shared_lists.proofs.SharedLists.leave_front.Goals as goal

pub leave_front_of-requires-clause-further : goal.leave_front_of-requires-clause-further
leave_front_of-requires-clause-further c = (c.args.own, c.requires.first, c.if-list-own.false)

pub returns-then-list-own-clause-lists : goal.returns-then-list-own-clause-lists
returns-then-list-own-clause-lists c =
    c.leave_first.ensures.lists ∙ sym (without_first c.args.own (more_of c.args.self.now c.args.item) c.requires.first.not_further)
    ∙ ap (λ l. without l (c.args.own ∷ more_of c.args.self.now c.args.item)) (sym c.if-list-own.true)

pub returns-then-list-own-clause-after : goal.returns-then-list-own-clause-after
returns-then-list-own-clause-after c =
    first_rest c.args.self.now c.leave_first.new.self c.args.own c.args.item c.args.is_ready c.leave_first.result c.leave_first.ensures.none c.leave_first.ensures.some
    ∙ ap (λ l. let u : SharedView = record (left c.args.self.now l c.args.item c.args.is_ready) { more = c.leave_first.new.self.more; room = c.leave_first.new.self.room } in u) (sym c.if-list-own.true)

pub returns-then-list-own-clause-others : goal.returns-then-list-own-clause-others
returns-then-list-own-clause-others c = first_others c.args.self.now c.leave_first.new.self c.args.own c.args.item c.args.is_ready c.leave_first.result c.leave_first.ensures.none c.leave_first.ensures.some

pub returns-clause-lists : goal.returns-clause-lists
returns-clause-lists c = further_lists c.args.self.now c.leave_front_of.new.self c.args.list c.args.item c.args.is_ready c.args.own (λ e. c.if-list-own.false (sym e)) c.leave_front_of.ensures.after

pub returns-clause-after : goal.returns-clause-after
returns-clause-after c = further_rest c.args.self.now c.leave_front_of.new.self c.args.list c.args.item c.args.is_ready c.leave_front_of.ensures.after

pub returns-clause-others : goal.returns-clause-others
returns-clause-others c = further_others c.args.self.now c.leave_front_of.new.self c.args.list c.args.item c.args.is_ready c.leave_front_of.ensures.after

pub returns-clause-first : goal.returns-clause-first
returns-clause-first c = further_first c.args.self.now c.leave_front_of.new.self c.args.list c.args.item c.args.is_ready c.args.own (λ e. c.if-list-own.false (sym e)) c.requires.first c.leave_front_of.ensures.after
