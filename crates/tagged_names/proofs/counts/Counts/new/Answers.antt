use Rattle.tagged_names.proofs.Bytes.{no_counts}
use Rattle.tagged_names.proofs.counts.Counts.new.Goals as goal

pub returns : goal.returns
returns c = no_counts c.new.result.items c.new.ensures.items
