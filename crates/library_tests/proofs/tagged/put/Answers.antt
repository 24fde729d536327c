use Rattle.std.proofs.Common.{◌/◌, ◌<◌, arith}
use Rattle.tagged_names.proofs.Counting.{count_before}
use Rattle.library_tests.proofs.tagged.put.Goals as goal

pub insert_fresh-requires-clause-counts : goal.insert_fresh-requires-clause-counts
insert_fresh-requires-clause-counts c = count_before c.reserve.new.self c.fresh-name.result c.fresh-name.ensures.fresh.index c.fresh-name.ensures.small (omega arith)
