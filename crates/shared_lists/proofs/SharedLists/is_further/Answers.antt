use Rattle.std.proofs.Common.{sym, ◌∙◌, length}
use Rattle.shared_lists.proofs.Parted.{key_there}
use Rattle.shared_lists.proofs.Leaving.{told_yes, told_no}
use Rattle.shared_lists.proofs.SharedLists.is_further.Goals as goal

pub find-requires-clause-there : goal.find-requires-clause-there
find-requires-clause-there c = key_there c.self.inside.several c.self.inside.places c.self.inside.further c.self.inside.keys (length c.self.inside.lists.items) c.self.invariant.0 c.args.self.now c.self.view_is c.args.item

pub returns-clause-yes : goal.returns-clause-yes
returns-clause-yes c e = told_yes c.self.inside.several c.self.inside.places c.self.inside.further c.self.inside.keys (length c.self.inside.lists.items) c.self.invariant.0 c.args.self.now c.self.view_is c.args.item c.args.list c.find.result c.find.ensures.some (sym c.is_some.ensures ∙ e)

pub returns-clause-no : goal.returns-clause-no
returns-clause-no c e = told_no c.self.inside.several c.self.inside.places c.self.inside.further c.self.inside.keys (length c.self.inside.lists.items) c.self.invariant.0 c.args.self.now c.self.view_is c.args.item c.args.list c.find.result c.find.ensures.none (sym c.is_some.ensures ∙ e)
