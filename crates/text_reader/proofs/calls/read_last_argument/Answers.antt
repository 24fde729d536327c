use Rattle.std.proofs.Common.{rules, subst, sym}
use Rattle.text_reader.specs.Keywords.{IsNoOwnWord, IsNoPairWord}
use Rattle.text_reader.proofs.CallLemmas.{last_of}
use Rattle.text_reader.proofs.calls.read_last_argument.Goals as goal

pub returns-in_err-last-clause-each : goal.returns-in_err-last-clause-each
returns-in_err-last-clause-each c =
    λ event behind fits word same.
    let last = last_of event behind _ _ _ (subst IsNoOwnWord (sym word) c.requires.own) (subst IsNoPairWord (sym word) c.requires.pair) fits same in
    let read = c.number.ensures.read last.last behind last.small last.stands in
    search (rules, read)
