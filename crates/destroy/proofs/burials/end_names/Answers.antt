use Rattle.destroy.specs.Burying.{IsNone}
use Rattle.destroy.proofs.BuryNames.{still_next, one_longer, names_gone}
use Rattle.destroy.proofs.burials.end_names.Goals as goal

pub end_name-requires : goal.end_name-requires
end_name-requires c = record {
  next = still_next c.args.port IsNone c.args.world.now c.loop-request.turns c.loop-request.world c.requires c.loop-request.invariant;
  is_on = c.in-Some.ensures.some;
}

pub loop-request-preserved : goal.loop-request-preserved
loop-request-preserved c = one_longer c.args.port c.args.world.now c.loop-request.turns c.loop-request.world c.end_name.result c.end_name.new.world c.loop-request.invariant c.end_name.ensures.ends _ c.saturating_add-turns.ensures

pub returns : goal.returns
returns c = names_gone c.args.port c.args.world.now c.loop-request.turns c.loop-request.world c.loop-request.invariant c.in_default.ensures.none
