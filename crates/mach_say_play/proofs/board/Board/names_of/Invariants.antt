use Rattle.std.proofs.Common.{◌≡◌, length}
use Rattle.mach_say_play.proofs.board.Board.names_of.Given as goal

-- as many names as were looked at
abbrev pub invariant-loop-name : goal.invariant-loop-name
invariant-loop-name l = length l.names.items ≡ l.name-index
