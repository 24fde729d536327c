use Rattle.std.proofs.Common.{rules}
use Rattle.tracer_base.proofs.WordLemmas.{words-some}
use Rattle.tracer_base.proofs.words.Words.is_empty.Goals as goal

pub returns : goal.returns
returns c = search (rules, words-some)
