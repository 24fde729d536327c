use Rattle.std.proofs.Common.{sym, ap, ◌∙◌, length}
use Rattle.member_lists.specs.Lists.{list_of}
use Rattle.shared_lists.specs.Places.{lists_from}
use Rattle.shared_lists.proofs.Entered.{more_is}
use Rattle.shared_lists.proofs.Parted.{key_there}
use Rattle.shared_lists.proofs.Telling.{all_from, first_walk}
use Rattle.shared_lists.proofs.SharedLists.further_lists.Goals as goal

pub invariant_of-result : goal.invariant_of-result
invariant_of-result c = first_walk c.self.inside.further c.self.inside.keys c.args.item (key_there c.self.inside.several c.self.inside.places c.self.inside.further c.self.inside.keys (length c.self.inside.lists.items) c.self.invariant.0 c.args.self.now c.self.view_is c.args.item) (c.self.invariant.0.keyed.single c.args.item) c.first.result c.first.ensures

pub returns : goal.returns
returns c =
    ap (lists_from c.self.inside.further (list_of c.self.inside.keys c.args.item)) c.first.ensures
    ∙ all_from c.self.inside.further (list_of c.self.inside.keys c.args.item)
    ∙ sym (more_is c.self.inside.several c.self.inside.places c.self.inside.further c.self.inside.keys (length c.self.inside.lists.items) c.self.invariant.0 c.args.self.now c.self.view_is c.args.item)
