use Rattle.std.proofs.Common.{refl}
use Rattle.copyin_base.specs.Worlds.{put}
use Rattle.copyin.proofs.Judging.{marked}
use Rattle.copyin.proofs.short.carried_from.Goals as goal

pub returns : goal.returns
returns c = λ names found.
    let k = marked c.unwrap-given.result c.args.entry c.in_ok-mark.mark c.in_ok-mark.ensures in (
      put names c.args.word.now.name k.0.left,
      record {
        is_given = cc;
        entry = c.args.entry;
        found = found;
        copied = k.0;
        is = k.1;
        mark = k.2;
        left = refl;
      },
    )
