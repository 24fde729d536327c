-- When memory is wanted to send a message.
use Rattle.std.specs.Prelude.{◌≡◌, ℕ, ◌≤◌, List, length}
use Rattle.mach_types.specs.declared.codes.MsgReturn.TheVariants.{SendNoBuffer}
use Rattle.mach_types.specs.Codes.{msg_number}
use Rattle.mach_types.specs.Grammar.{Header, WireBody, Spells}
use Rattle.mach_model.specs.State.{State}
use Rattle.mach_model.specs.SendRefusals.{RightsRefuse}
use Rattle.message_codec.specs.Spans.{body_spans, inline_spans}
use Rattle.message_codec.specs.Words.{body_words, inline_words}
use Rattle.copyin_base.specs.Worlds.{WorldView}
use Rattle.copyin_base.specs.Shows.{Shows}

-- Memory may be wanted to send the bytes: where they are a text of few words and few items, no rule on its rights refuses it but the limit of
-- rights, whose code is the same.
pub record WantsToSend (old : WorldView) (task : ℕ) (bytes : List ℕ) : Type 0 where
  pub unrefused : (s : State) → Shows old s → (header : Header) (written : WireBody) → Spells bytes header written
      → length (body_words written) ≤ inline_words → length (body_spans written) ≤ inline_spans
      → (code : ℕ) → RightsRefuse s task header written code → code ≡ msg_number SendNoBuffer
