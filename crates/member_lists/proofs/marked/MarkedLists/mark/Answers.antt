use Rattle.std.proofs.Common.{◌++◌, ◌∷◌, [], Contains}
use Rattle.member_lists.specs.Lists.{list_of}
use Rattle.member_lists.proofs.Marks.{marked_within, mark_in_range, mark_apart_in, all_held, was_pushed, changed_kept, changed_shown}
use Rattle.member_lists.proofs.marked.MarkedLists.mark.Goals as goal

pub link_mark-requires-clause-there : goal.link_mark-requires-clause-there
link_mark-requires-clause-there c = all_held c.self.inside.links.items c.self.inside.marks.items c.self.inside.ends c.self.invariant c.args.self.now c.self.view_is c.args.list c.args.item c.requires.there

pub link_mark-requires-clause-kept : goal.link_mark-requires-clause-kept
link_mark-requires-clause-kept c = c.self.invariant.marked

pub link_mark-requires-clause-room : goal.link_mark-requires-clause-room
link_mark-requires-clause-room c = mark_in_range c.self.inside.links.items c.self.inside.marks.items c.self.inside.ends c.self.invariant c.args.self.now c.self.view_is c.args.list c.args.item c.requires.there

pub link_mark-requires-clause-apart : goal.link_mark-requires-clause-apart
link_mark-requires-clause-apart c = mark_apart_in c.self.inside.links.items c.self.inside.marks.items c.self.inside.ends c.self.invariant c.args.self.now c.self.view_is c.args.item c.requires.unmarked

pub invariant_of-self : goal.invariant_of-self
invariant_of-self c = changed_kept c.self.inside.links.items c.self.inside.marks.items c.self.inside.ends c.self.invariant c.args.self.now c.self.view_is c.link_mark.new.marks.items c.link_mark.new.self c.link_mark.ensures.kept c.link_mark.ensures.rest c.args.list (λ xs. xs ++ c.args.item ∷ []) c.link_mark.ensures.marks (λ list x. was_pushed c.args.self.now.marked c.args.list c.args.item list x (λ p y. Contains (list_of c.args.self.now.all p) y) (marked_within c.self.inside.links.items c.self.inside.marks.items c.self.inside.ends c.self.invariant c.args.self.now c.self.view_is) c.requires.there)

pub returns : goal.returns
returns c = changed_shown c.self.inside.links.items c.self.inside.marks.items c.self.inside.ends c.self.invariant c.args.self.now c.self.view_is c.link_mark.new.marks.items c.link_mark.new.self c.link_mark.ensures.kept c.link_mark.ensures.rest c.args.list (λ xs. xs ++ c.args.item ∷ []) c.link_mark.ensures.marks (λ list x. was_pushed c.args.self.now.marked c.args.list c.args.item list x (λ p y. Contains (list_of c.args.self.now.all p) y) (marked_within c.self.inside.links.items c.self.inside.marks.items c.self.inside.ends c.self.invariant c.args.self.now c.self.view_is) c.requires.there)
