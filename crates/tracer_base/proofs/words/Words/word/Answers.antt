use Rattle.std.proofs.Common.{rules}
use Rattle.tracer_base.proofs.WordLemmas.{words-one, words-more}
use Rattle.tracer_base.proofs.words.Words.word.Goals as goal

pub returns-in_default-split_once-clause-ok : goal.returns-in_default-split_once-clause-ok
returns-in_default-split_once-clause-ok c = search (rules, words-one)

pub returns-clause-ok : goal.returns-clause-ok
returns-clause-ok c =
    let found = c.in-Some-split_once.ensures in
    search (rules, words-more)
