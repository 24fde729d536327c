use Rattle.tagged_names.proofs.Bytes.{view_counted}
use Rattle.tagged_names.proofs.counts.Counts.count.Goals as goal

pub returns : goal.returns
returns c = view_counted c.self.inside.bytes.items c.args.self.now c.self.view_is c.args.index c.index-count.result.now c.requires.positive c.requires.place c.index-count.ensures
