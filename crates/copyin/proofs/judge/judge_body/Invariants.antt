use Rattle.std.proofs.Common.{◌≡◌, ◌+◌, ◌≤◌, length, take}
use Rattle.arrayvec.specs.ArrayVec.{array_vec_len}
use Rattle.smallvec.specs.SmallVec.{small_vec_len}
use Rattle.copyin.proofs.Judging.{IsJudged}
use Rattle.copyin.proofs.judge.judge_body.Given as goal

abbrev pub invariant-loop-word : goal.invariant-loop-word
invariant-loop-word l = record {
  judged : IsJudged l.initial.touched l.touched l.space.names (take l.word-index l.words) l.rights.items;
  few : array_vec_len l.touched.few ≤ 2 + l.word-index;
  so_far : small_vec_len l.rights ≡ l.word-index;
  room : length l.words ≤ l.rights.capacity;
}
