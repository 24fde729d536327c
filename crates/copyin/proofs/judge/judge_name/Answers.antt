use Rattle.std.proofs.Common.{◌≡◌, Some, sym, ◌∙◌, refl}
use Rattle.std.specs.FinMap as map
use Rattle.copyin_base.specs.Worlds.{put}
use Rattle.copyin.proofs.Judging.{marked}
use Rattle.copyin.proofs.judge.judge_name.Goals as goal

pub returns-clause-ok : goal.returns-clause-ok
returns-clause-ok c = λ now o.
    let found : map.get now c.args.word.name ≡ Some c.in-Some.entry = sym (c.standing.ensures now o) ∙ c.in-Some.is in
    let k = marked c.unwrap-given.result c.in-Some.entry c.in-Some-mark_sent.mark c.in-Some-mark_sent.ensures in (
      put now c.args.word.name k.0.left,
      record {
        is_given = cc;
        entry = c.in-Some.entry;
        found = found;
        copied = k.0;
        is = k.1;
        mark = k.2;
        left = refl;
      },
      c.in-Ok.ensures.ok _ now k.0 o found k.1,
    )
