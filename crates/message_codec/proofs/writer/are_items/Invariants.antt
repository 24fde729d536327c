use Rattle.std.proofs.Common.{◌≤◌, length, take, drop, All}
use Rattle.mach_types.specs.Numbers.{most_bytes}
use Rattle.message_codec.specs.Writing.{IsItem, items_text}
use Rattle.message_codec.proofs.writer.are_items.Given as goal

abbrev pub invariant-loop-item : goal.invariant-loop-item
invariant-loop-item l = record {
  so_far : All IsItem (take l.item-index l.items);
  small : length (items_text (drop l.item-index l.items)) ≤ most_bytes;
}
