-- What lies in a queue: a message that was sent, or a notice, kept as the message that is made of it.
use Rattle.std.specs.Prelude.{ℕ, Bool, true, false, List, [], ◌++◌, replicate, Option, Some, None}
use Rattle.mach_types.specs.declared.rights.Disposition.TheVariants.{MoveReceive}
use Rattle.mach_types.specs.Grammar.{word}
use Rattle.mach_model.specs.Notices.{port_deleted, port_sent, no_more_senders, right_unused, name_died, notice_id}
use Rattle.mach_model.specs.Notices.{Notice as MachineNotice}
use Rattle.tables_base.specs.declared.message.Carried.{Carried}
use Rattle.tables_base.specs.declared.message.Mark.TheVariants as mark
use Rattle.tables_base.specs.declared.notice.Notice.{Notice}
use Rattle.tables_base.specs.declared.notice.Notice.TheVariants.{PortDeleted, PortDestroyed, NoSenders, SendOnce, DeadName}
use Rattle.tables_base.specs.declared.queued.Slot.{Slot}
use Rattle.tables_base.specs.declared.queued.Slot.TheVariants.{Sent, Told}
use Rattle.tables_base.specs.Carrying.{spans_for, rights_for}
use Rattle.tables_base.specs.Kept.{Kept}

-- the machine's notice
abbrev pub notice_of : Notice → MachineNotice
notice_of (PortDeleted name) = port_deleted name
notice_of (PortDestroyed port) = port_sent port
notice_of (NoSenders number) = no_more_senders number
notice_of SendOnce = right_unused
notice_of (DeadName name) = name_died name

-- the descriptor and the word of its item: a name, a number, or the place of a right
abbrev pub item_words : Notice → Option (ℕ × ℕ)
item_words (PortDeleted name) = Some (0x1001200f, name)
item_words (PortDestroyed port) = Some (0x10012010, 0)
item_words (NoSenders number) = Some (0x10012002, number)
item_words SendOnce = None
item_words (DeadName name) = Some (0x1001200f, name)

abbrev pub item_text : Option (ℕ × ℕ) → List ℕ
item_text (Some x) = word x.0 ++ word x.1
item_text None = []

-- the receive right that it carries
abbrev pub carried_with : Notice → Option Carried
carried_with (PortDestroyed port) = Some (record { given = MoveReceive; mark = mark.Port port })
carried_with notice = None

abbrev pub is_carrying : Option Carried → Bool
is_carrying (Some c) = true
is_carrying None = false

-- The message that it is: a header that is written when it is received, and its item.
abbrev pub notice_kept : Notice → Kept
notice_kept notice = record {
  bytes = replicate 24 0 ++ item_text (item_words notice);
  id = notice_id (notice_of notice);
  is_complex = is_carrying (carried_with notice);
  spans = spans_for (carried_with notice);
  by_once = true;
  reply = None;
  rights = rights_for (carried_with notice);
  told = true;
}

abbrev pub kept_in : Slot → Kept
kept_in (Sent message) = message
kept_in (Told notice) = notice_kept notice
