-- How much the entries of a history matter.
use Rattle.std.specs.Prelude.{◌==◌, if◌then◌else◌}
use Rattle.log.specs.declared.level.Level.{Level}
use Rattle.log.specs.declared.level.Level.TheVariants.{Warn, Info}
use Rattle.mach_types.specs.declared.calls.Reply.{Reply}
use Rattle.mach_types.specs.declared.calls.Reply.TheVariants.{Code, Empty, TooLarge}

-- a warning where the call was refused, found no message or found too long a one
abbrev pub level_of : Reply → Level
level_of (Code code) = if code == 0 then Info else Warn
level_of (Empty waited) = Warn
level_of (TooLarge length_of) = Warn
level_of reply = Info
