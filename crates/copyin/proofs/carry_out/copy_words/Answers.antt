use Rattle.std.proofs.Common.{◌≡◌, ◌∷◌}
use Rattle.copyin.proofs.Going.{going_at, first_of}
use Rattle.copyin.proofs.carry_out.copy_words.Goals as goal

pub copy_word-requires : goal.copy_word-requires
copy_word-requires c =
    let parts : c.loop-word.left.now ≡ c.unwrap.result.0.now ∷ c.unwrap.result.1.now = first_of c.split_first.result c.loop-word.left.now c.unwrap.result c.split_first.ensures.cases c.unwrap.ensures in
    let g = going_at c.args.world.now c.loop-word.world c.loop-word.world c.args.task c.args.words.now c.args.rights.now c.loop-word.word-index c.word-item.result
    c.loop-word.left.now c.unwrap.result.0.now c.unwrap.result.1.now c.loop-word-test.true c.word-item.is parts c.loop-word.invariant in
    g.0

pub loop-word-preserved : goal.loop-word-preserved
loop-word-preserved c =
    let parts : c.loop-word.left.now ≡ c.unwrap.result.0.now ∷ c.unwrap.result.1.now = first_of c.split_first.result c.loop-word.left.now c.unwrap.result c.split_first.ensures.cases c.unwrap.ensures in
    let g = going_at c.args.world.now c.loop-word.world c.copy_word.new.world c.args.task c.args.words.now c.args.rights.now c.loop-word.word-index c.word-item.result
    c.loop-word.left.now c.unwrap.result.0.now c.unwrap.result.1.now c.loop-word-test.true c.word-item.is parts c.loop-word.invariant in
    g.1 c.copy_word.ensures
