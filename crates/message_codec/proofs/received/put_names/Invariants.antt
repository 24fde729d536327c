use Rattle.std.proofs.Common.{◌≡◌, ◌+◌, ◌*◌, ◌^◌, ◌<◌, ◌++◌, take, drop, All}
use Rattle.mach_types.specs.Grammar.{words_text}
use Rattle.message_codec.proofs.received.put_names.Given as goal

abbrev pub invariant-loop-name : goal.invariant-loop-name
invariant-loop-name l = record {
  next : l.next ≡ l.at + 4 * l.name-index;
  bytes : l.bytes ≡ (take l.at l.initial.bytes ++ words_text (take l.name-index l.names)) ++ drop (l.at + 4 * l.name-index) l.initial.bytes;
  words : All (λ w. w < 2 ^ 32) (take l.name-index l.names);
}
