use Rattle.std.proofs.Common.{arith}
use Rattle.member_lists.proofs.Kept.{leaves_in_range, leaves_ends_held, leaves_before_fits, leaves_behind_fits, len_out, kept_left, lists_left}
use Rattle.member_lists.proofs.Lists.remove.Goals as goal

pub unlink-now-requires-clause-room : goal.unlink-now-requires-clause-room
unlink-now-requires-clause-room c = leaves_in_range c.self.inside.links.items c.self.inside.ends.map c.self.invariant.kept c.args.self.now c.self.view_is c.args.list c.args.item c.requires

pub unlink-now-requires-clause-before : goal.unlink-now-requires-clause-before
unlink-now-requires-clause-before c = leaves_before_fits c.self.inside.links.items c.self.inside.ends.map c.self.invariant.kept c.args.self.now c.self.view_is c.args.list c.args.item c.requires

pub unlink-now-requires-clause-behind : goal.unlink-now-requires-clause-behind
unlink-now-requires-clause-behind c = leaves_behind_fits c.self.inside.links.items c.self.inside.ends.map c.self.invariant.kept c.args.self.now c.self.view_is c.args.list c.args.item c.requires

pub leave_ends-requires : goal.leave_ends-requires
leave_ends-requires c = leaves_ends_held c.self.inside.links.items c.self.inside.ends.map c.self.invariant.kept c.args.self.now c.self.view_is c.args.list c.args.item c.requires

pub invariant_of-self : goal.invariant_of-self
invariant_of-self c = record {
  kept = kept_left c.self.inside.links.items c.self.inside.ends.map c.self.invariant.kept c.args.self.now c.self.view_is c.args.list c.args.item c.requires c.ends_of-ends.result c.ends_of-ends.ensures c.unlink-now.new.links.items c.unlink-now.result c.unlink-now.ensures c.leave_ends.new.ends.map c.leave_ends.ensures.none c.leave_ends.ensures.some;
  enough =
      let len = len_out c.self.inside.links.items c.self.inside.ends.map c.self.invariant.kept c.args.self.now c.self.view_is c.args.list c.args.item c.requires c.ends_of-ends.result c.ends_of-ends.ensures c.unlink-now.new.links.items c.unlink-now.result c.unlink-now.ensures in
      let total = c.leave_ends.ensures.total in
      let enough = c.self.invariant.enough in omega arith;
}

pub returns : goal.returns
returns c = lists_left c.self.inside.links.items c.self.inside.ends.map c.self.invariant.kept c.args.self.now c.self.view_is c.args.list c.args.item c.requires c.ends_of-ends.result c.ends_of-ends.ensures c.unlink-now.new.links.items c.unlink-now.result c.unlink-now.ensures c.leave_ends.new.ends.map c.leave_ends.ensures.none c.leave_ends.ensures.some
