use Rattle.std.proofs.Common.{◌≡◌, ◌+◌, ◌++◌, length, take, drop, map, All}
use Rattle.mach_types.specs.Grammar.{IsWire}
use Rattle.message_codec.specs.Writing.{item_wire, items_text, with_text}
use Rattle.message_codec.proofs.writer.put_items.Given as goal

abbrev pub invariant-loop-item : goal.invariant-loop-item
invariant-loop-item l = record {
  kept : length l.bytes ≡ length l.initial.bytes;
  room : l.at + length (items_text (drop l.item-index l.items)) ≡ length l.bytes;
  all : with_text l.at (items_text (drop l.item-index l.items)) l.bytes ≡ take 24 l.initial.bytes ++ items_text l.items;
  fits : All IsWire (map item_wire (drop l.item-index l.items)) → All IsWire (map item_wire l.items);
}
