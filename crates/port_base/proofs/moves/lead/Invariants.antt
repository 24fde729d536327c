use Rattle.std.proofs.Common.{◌∷◌, ℕ, List, length, Contains}
use Rattle.shared_lists.specs.Shared.{more_of}
use Rattle.port_base.specs.Memberships.{IsPartlyOut}
use Rattle.port_base.proofs.moves.lead.Given as goal

abbrev pub invariant-loop-own : goal.invariant-loop-own
invariant-loop-own l = record {
  gone : List ℕ;
  out : IsPartlyOut l.fn.sets l.key l.first l.is_ready gone l.own l.sets;
  apart : ¬ (Contains gone l.set);
  inside : Contains (l.own ∷ more_of l.sets l.key) l.set;
}

abbrev pub decreases-loop-own : goal.decreases-loop-own
decreases-loop-own l = length (more_of l.sets l.key)
