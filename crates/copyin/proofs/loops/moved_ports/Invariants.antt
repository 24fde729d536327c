use Rattle.std.proofs.Common.{◌≡◌, take}
use Rattle.std.specs.List.{filter_map}
use Rattle.copyin_base.specs.Kept.{receive_of}
use Rattle.copyin.proofs.loops.moved_ports.Given as goal

abbrev pub invariant-loop-carried : goal.invariant-loop-carried
invariant-loop-carried l = l.moved.items ≡ filter_map receive_of (take l.carried-index l.rights)
