use Rattle.std.proofs.Common.{ap, ◌∙◌}
use Rattle.std.specs.Prelude.{unwrap_or}
use Rattle.member_lists.specs.declared.marked.BothEnds.{BothEnds}
use Rattle.member_lists.specs.Chains.{ends_at}
use Rattle.member_lists.specs.Ended.{EndsMapView}
use Rattle.member_lists.proofs.Both.{all_at}
use Rattle.member_lists.proofs.marked.EndsMap.all.Goals as goal

pub returns : goal.returns
returns c =
    ap (λ (b : BothEnds). b.all) c.unwrap_or.ensures
    ∙ ap (λ o. (unwrap_or o c.blank.result).all) c.get.ensures
    ∙ all_at c.self.inside.map.map c.args.list c.blank.result c.blank.ensures.0
    ∙ ap (λ (v : EndsMapView). ends_at v.all c.args.list) c.self.view_is
