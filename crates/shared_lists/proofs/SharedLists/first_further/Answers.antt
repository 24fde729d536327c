use Rattle.std.proofs.Common.{sym, ap, ◌∙◌, None, Some, length}
use Rattle.member_lists.specs.Lists.{list_of}
use Rattle.shared_lists.specs.Places.{list_in}
use Rattle.shared_lists.proofs.Parted.{key_there}
use Rattle.shared_lists.proofs.Promoted.{first_inside, key_item}
use Rattle.shared_lists.proofs.Leaving.{more_got, first_once}
use Rattle.shared_lists.proofs.SharedLists.first_further.Goals as goal

pub returns-in_err-key-clause-is : goal.returns-in_err-key-clause-is
returns-in_err-key-clause-is c = c.from_residual.ensures ∙ more_got c.self.inside.several c.self.inside.places c.self.inside.further c.self.inside.keys (length c.self.inside.lists.items) c.self.invariant.0 c.args.self.now c.self.view_is c.args.item 0 0 None (sym c.in_err-key.was ∙ c.first.ensures)

pub index-requires : goal.index-requires
index-requires c = key_there c.self.inside.several c.self.inside.places c.self.inside.further c.self.inside.keys (length c.self.inside.lists.items) c.self.invariant.0 c.args.self.now c.self.view_is c.args.item c.in_ok-key.key (first_inside (list_of c.self.inside.keys c.args.item) c.in_ok-key.key (sym c.first.ensures ∙ c.in_ok-key.was))

pub returns-clause-is : goal.returns-clause-is
returns-clause-is c = ap (λ o. Some (list_in o)) (sym c.index.ensures) ∙ more_got c.self.inside.several c.self.inside.places c.self.inside.further c.self.inside.keys (length c.self.inside.lists.items) c.self.invariant.0 c.args.self.now c.self.view_is c.args.item 0 0 (Some c.in_ok-key.key) (sym c.in_ok-key.was ∙ c.first.ensures)

pub returns-clause-once : goal.returns-clause-once
returns-clause-once c = first_once c.self.inside.several c.self.inside.places c.self.inside.further c.self.inside.keys (length c.self.inside.lists.items) c.self.invariant.0 c.args.self.now c.self.view_is c.args.item c.in_ok-key.key c.index.result.now c.index.ensures (key_item c.self.inside.several c.self.inside.places c.self.inside.further c.self.inside.keys (length c.self.inside.lists.items) c.self.invariant.0 c.args.self.now c.self.view_is c.args.item c.in_ok-key.key c.index.result.now c.index.ensures (first_inside (list_of c.self.inside.keys c.args.item) c.in_ok-key.key (sym c.first.ensures ∙ c.in_ok-key.was))) (sym c.first.ensures ∙ c.in_ok-key.was)
