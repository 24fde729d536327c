use Rattle.std.proofs.Common.{refl, ap}
use Rattle.member_lists.specs.declared.Ends.{Ends}
use Rattle.member_lists.specs.Chains.{blank_link}
use Rattle.member_lists.proofs.Times.{none_some}
use Rattle.member_lists.proofs.marked.unlink_one.Goals as goal

pub returns-then-is : goal.returns-then-is
returns-then-is c = record {
  link = blank_link;
  there = c.requires.alone (c.is.ensures.yes c.if-is.true);
  between = c.args.links.now.items;
  ahead = record { set = λ x link is there. absurd (none_some x is); others = λ x other. refl; len = refl };
  rear = record { set = λ x link is there. absurd (none_some x is); others = λ x other. refl; len = refl };
  first = ap (λ (e : Ends). e.first) c.blank.ensures;
  last = ap (λ (e : Ends). e.last) c.blank.ensures;
}
