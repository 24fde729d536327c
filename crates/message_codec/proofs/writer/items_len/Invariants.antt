use Rattle.std.proofs.Common.{◌≡◌, ◌+◌, ◌<◌, ◌≤◌, ◌^◌, length, drop}
use Rattle.mach_types.specs.Numbers.{most_bytes}
use Rattle.message_codec.specs.Writing.{items_text}
use Rattle.message_codec.proofs.writer.items_len.Given as goal

abbrev pub invariant-loop-item : goal.invariant-loop-item
invariant-loop-item l = record {
  told : (24 + length (items_text l.items) ≤ most_bytes → l.len + length (items_text (drop l.item-index l.items)) ≡ 24 + length (items_text l.items))
      × (most_bytes < 24 + length (items_text l.items) → most_bytes < l.len + length (items_text (drop l.item-index l.items)));
  bound : l.len < 2 ^ 21;
}
