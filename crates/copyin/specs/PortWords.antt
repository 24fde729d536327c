-- The port words of a message.
use Rattle.std.specs.Prelude.{List, Option}
use Rattle.message_codec.specs.declared.words.PortWord.{PortWord}
use Rattle.copyin.specs.declared.judge.Words.{Words}

-- the destination's, that of the reply right, and those of the body, from the front
pub record PortWords : Type 0 where
  pub destination : PortWord
  pub reply : Option PortWord
  pub body : List PortWord

-- those of a list
abbrev pub listed : Words → PortWords
listed words = record { destination = words.destination; reply = words.reply; body = words.body.items }
