use Rattle.std.proofs.Common.{◌≡◌, drop}
use Rattle.copyout.specs.Room.{named_by}
use Rattle.copyout.proofs.room.is_named_by.Given as goal

abbrev pub invariant-loop-one : goal.invariant-loop-one
invariant-loop-one l = named_by (drop l.one-index l.carried) l.port ≡ named_by l.carried l.port
