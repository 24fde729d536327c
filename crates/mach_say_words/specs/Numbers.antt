-- The numbers that words of the notation stand for.
use Rattle.std.specs.Prelude.{ℕ}
use Rattle.mach_say_words.specs.declared.vocabulary.Kind.{Kind}
use Rattle.mach_say_words.specs.declared.vocabulary.Variant.{Variant}

-- the number of the kind in a received message
abbrev pub kind_number : Kind → ℕ
kind_number Kind.Receive = 16
kind_number Kind.Send = 17
kind_number Kind.SendOnce = 18

-- the number of the notice in a request
abbrev pub variant_number : Variant → ℕ
variant_number Variant.PortDestroyed = 69
variant_number Variant.NoSenders = 70
variant_number Variant.DeadName = 72
