-- What a right takes from the name that it goes from by a disposition, and what it leaves there.
use Rattle.std.specs.Prelude.{ℕ, ◌-◌, Option, Some, None, if◌then◌else◌, nat_lt}
use Rattle.mach_types.specs.declared.rights.Disposition.{Disposition}
use Rattle.mach_types.specs.declared.rights.Disposition.TheVariants.{MoveReceive, MoveSend, MoveSendOnce, CopySend, MakeSend, MakeSendOnce}
use Rattle.name_space.specs.declared.Entry.{Entry}
use Rattle.name_space.specs.declared.Entry.TheVariants as entry
use Rattle.copyin_base.specs.declared.Mark.TheVariants as mark
use Rattle.dispositions.specs.declared.Copied.{Copied}

abbrev pub leaving : Option Entry → (port : ℕ) → Option Copied
leaving after p = Some (record { left = after; mark = mark.Port p })

abbrev pub leaving_dead : Option Entry → Option Copied
leaving_dead after = Some (record { left = after; mark = mark.Dead })

-- one reference less, and none of the last
abbrev pub one_less : (ℕ → Entry) → Option Entry → ℕ → Option Entry
one_less with_references otherwise n = if nat_lt 1 n then Some (with_references (n - 1)) else otherwise

-- The entry from which a right goes by the disposition, and what is left under the name; None where it may not.
abbrev pub copied_from : Disposition → Entry → Option Copied
copied_from MoveReceive (entry.Receive p) = leaving None p
copied_from MoveReceive (entry.ReceiveAndSend p n) = leaving (Some (entry.Send p n)) p
copied_from MoveSend (entry.Send p n) = leaving (one_less (entry.Send p) None n) p
copied_from MoveSend (entry.ReceiveAndSend p n) = leaving (one_less (entry.ReceiveAndSend p) (Some (entry.Receive p)) n) p
copied_from MoveSend (entry.DeadName n) = leaving_dead (one_less entry.DeadName None n)
copied_from MoveSendOnce (entry.SendOnce p) = leaving None p
copied_from MoveSendOnce (entry.DeadName n) = leaving_dead (one_less entry.DeadName None n)
copied_from CopySend (entry.Send p n) = leaving (Some (entry.Send p n)) p
copied_from CopySend (entry.ReceiveAndSend p n) = leaving (Some (entry.ReceiveAndSend p n)) p
copied_from CopySend (entry.DeadName n) = leaving_dead (Some (entry.DeadName n))
copied_from MakeSend (entry.Receive p) = leaving (Some (entry.Receive p)) p
copied_from MakeSend (entry.ReceiveAndSend p n) = leaving (Some (entry.ReceiveAndSend p n)) p
copied_from MakeSendOnce (entry.Receive p) = leaving (Some (entry.Receive p)) p
copied_from MakeSendOnce (entry.ReceiveAndSend p n) = leaving (Some (entry.ReceiveAndSend p n)) p
copied_from d x = None
