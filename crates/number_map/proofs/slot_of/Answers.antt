use Rattle.std.proofs.Common.{◌-◌, ℕ, ap, bit_and}
use Rattle.number_map.specs.Kept.{slot}
use Rattle.number_map.proofs.slot_of.Goals as goal

pub returns-clause-value : goal.returns-clause-value
unfolding slot
returns-clause-value c = ap (λ (h : ℕ). bit_and h (c.args.slots - 1)) c.rotate_right.ensures
