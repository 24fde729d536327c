use Rattle.std.proofs.Common.{drop}
use Rattle.copyin.proofs.Going.{IsGoing}
use Rattle.copyin.proofs.carry_out.copy_words.Given as goal

abbrev pub invariant-loop-word : goal.invariant-loop-word
invariant-loop-word l = IsGoing l.initial.world l.world l.task l.words l.rights (drop l.word-index l.words) l.left
