use Rattle.std.proofs.Common.{length}
use Rattle.shared_lists.proofs.Alone.{some_places, shared_passed, seen_none, seen_passed}
use Rattle.shared_lists.proofs.SharedLists.pass_turn.Goals as goal

pub pass_mark-requires : goal.pass_mark-requires
pass_mark-requires c = some_places c.self.inside.several c.self.inside.places c.self.inside.further c.self.inside.keys (length c.self.inside.lists.items) c.self.invariant.0 c.args.self.now c.self.view_is c.args.list c.requires.some

pub invariant_of-self : goal.invariant_of-self
invariant_of-self c = (shared_passed c.self.inside.several c.self.inside.places c.self.inside.further c.self.inside.keys (length c.self.inside.lists.items) c.self.invariant.0 c.args.self.now c.self.view_is c.args.list c.pass_mark.new.self c.pass_mark.ensures.none c.pass_mark.ensures.some, c.self.invariant.1)

pub returns-clause-none : goal.returns-clause-none
returns-clause-none c = seen_none c.self.inside.several c.self.inside.places c.self.inside.further c.self.inside.keys (length c.self.inside.lists.items) c.self.invariant.0 c.args.self.now c.self.view_is c.args.list c.pass_mark.new.self c.pass_mark.ensures.none c.pass_mark.ensures.some

pub returns-clause-some : goal.returns-clause-some
returns-clause-some c = seen_passed c.self.inside.several c.self.inside.places c.self.inside.further c.self.inside.keys (length c.self.inside.lists.items) c.self.invariant.0 c.args.self.now c.self.view_is c.args.list c.pass_mark.new.self c.pass_mark.ensures.none c.pass_mark.ensures.some
