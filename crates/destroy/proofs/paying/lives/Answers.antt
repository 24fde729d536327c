use Rattle.std.proofs.Common.{◌≡◌, Some, sym, ◌∙◌}
use Rattle.std.specs.Option.{option_map}
use Rattle.port.specs.Ports.{PortView}
use Rattle.copyin_base.specs.Kept.{Kept}
use Rattle.copyin_base.specs.Worlds.{port_at}
use Rattle.destroy.proofs.PayLives.{is_doomed, is_undoomed, says_no, says_yes}
use Rattle.destroy.proofs.paying.lives.Goals.{in-Doomed, in_default}
use Rattle.destroy.proofs.paying.lives.Goals as goal

found : (c : goal.Joined-matches) → option_map (λ (v : PortView Kept). v.attributes) (port_at c.args.world.now c.args.port) ≡ Some c.in-Some.attributes
found c = sym c.find_attributes.ensures.is ∙ c.in-Some.is

pub returns-after-matches : goal.returns-after-matches
returns-after-matches c = elim c.match-matches.branch [
  | in-Doomed w ↦ says_no c.match-matches.matches w.matches-is (is_doomed c.args.world.now c.args.port c.in-Some.attributes (found c) w.in-Doomed.is)
  | in_default w ↦ says_yes c.match-matches.matches w.matches-is (is_undoomed c.args.world.now c.args.port c.in-Some.attributes (found c) w.in_default.not-Doomed)
]
