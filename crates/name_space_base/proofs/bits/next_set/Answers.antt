use Rattle.name_space_base.proofs.Words.{next_bit, no_bit}
use Rattle.name_space_base.proofs.bits.next_set.Goals as goal

pub returns-then-rest-eq0-clause-between : goal.returns-then-rest-eq0-clause-between
returns-then-rest-eq0-clause-between c = no_bit c.args.word c.args.from c.if-rest-eq0.true

pub returns-clause-from : goal.returns-clause-from
returns-clause-from c = (next_bit c.args.word c.args.from c.requires c.ranges.word.fits c.if-rest-eq0.false).from

pub returns-clause-between : goal.returns-clause-between
returns-clause-between c = (next_bit c.args.word c.args.from c.requires c.ranges.word.fits c.if-rest-eq0.false).between

pub returns-clause-present : goal.returns-clause-present
returns-clause-present c = λ _. (next_bit c.args.word c.args.from c.requires c.ranges.word.fits c.if-rest-eq0.false).present
