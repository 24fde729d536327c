use Rattle.std.proofs.Common.{refl}
use Rattle.destroy.proofs.judging.lose_queued.Goals as goal

pub returns-then-is_queued : goal.returns-then-is_queued
returns-then-is_queued c = record {
  loses = λ v q there is. c.lose_carried.ensures v there;
  stays = λ none. absurd (none (c.is_queued.ensures.0 c.if-is_queued.true));
}

pub returns-else-is_queued : goal.returns-else-is_queued
returns-else-is_queued c = record {
  loses = λ v q there is. absurd (let h = c.is_queued.ensures.1 (q, record { view = v; there = there; holder_is = is }) in let f = c.if-is_queued.false in cc);
  stays = λ none. refl;
}
