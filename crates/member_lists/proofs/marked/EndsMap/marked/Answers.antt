use Rattle.std.proofs.Common.{ap, ◌∙◌}
use Rattle.std.specs.Prelude.{unwrap_or}
use Rattle.member_lists.specs.declared.marked.BothEnds.{BothEnds}
use Rattle.member_lists.specs.Chains.{ends_at}
use Rattle.member_lists.specs.Ended.{EndsMapView}
use Rattle.member_lists.proofs.Both.{marked_at}
use Rattle.member_lists.proofs.marked.EndsMap.marked.Goals as goal

pub returns : goal.returns
returns c =
    ap (λ (b : BothEnds). b.marked) c.unwrap_or.ensures
    ∙ ap (λ o. (unwrap_or o c.blank.result).marked) c.get.ensures
    ∙ marked_at c.self.inside.map.map c.self.invariant c.args.list c.blank.result c.blank.ensures.1
    ∙ ap (λ (v : EndsMapView). ends_at v.marked c.args.list) c.self.view_is
