-- What a short message's plan holds.
use Rattle.std.specs.Prelude.{◌≡◌, ℕ, Bool, true, false, List, [], ◌∷◌, ◌++◌, Option, None, Some}
use Rattle.std.specs.Option.{option_to_list}
use Rattle.mach_types.specs.Grammar.{WireBody}
use Rattle.message_codec.specs.declared.spans.Span.{Span}
use Rattle.message_codec.specs.declared.text.Parsed.{Parsed}
use Rattle.message_codec.specs.declared.text.Short.{Short}
use Rattle.message_codec.specs.declared.text.ShortRight.{ShortRight}
use Rattle.message_codec.specs.declared.text.ShortRight.TheVariants as right
use Rattle.message_codec.specs.declared.words.PortWord.{PortWord}
use Rattle.message_codec.specs.Short.{words_in}
use Rattle.name_space.specs.Names.{Names}
use Rattle.copyin.specs.declared.judge.Rights.{Rights}
use Rattle.copyin.specs.declared.short.Beside.{Beside}
use Rattle.copyin.specs.declared.short.Beside.TheVariants as beside
use Rattle.copyin.specs.declared.short.GoingRight.{GoingRight}
use Rattle.copyin.specs.declared.short.ShortPlan.{ShortPlan}
use Rattle.copyin.specs.Judging.{CopiesName, CopiesWord}
use Rattle.copyin.specs.Loops.{HoldsRights}
use Rattle.copyin.specs.Planned.{IsPlan, PlanView}
use Rattle.copyin.specs.Plans.{ChangesWords}
use Rattle.copyin.specs.PortWords.{PortWords}
use Rattle.copyin_base.specs.declared.Carried.{Carried}
use Rattle.copyin_base.specs.declared.Mark.TheVariants as mark
use Rattle.copyin_base.specs.Carrying.{spans_for}
use Rattle.copyin_base.specs.Kept.{Kept}
use Rattle.copyin_base.specs.Worlds.{WorldView}

abbrev pub reply_of : Option ShortRight → Option PortWord
reply_of None = None
reply_of (Some (right.Reply word)) = Some word
reply_of (Some (right.Body word)) = None

abbrev pub short_words : Short → PortWords
short_words short = record { destination = short.destination; reply = reply_of short.right; body = words_in short.right }

-- ---- the right beside the destination's

abbrev pub reply_word : Beside → Option PortWord
reply_word beside.Nothing = None
reply_word (beside.Reply going) = Some going.word
reply_word (beside.Body going) = None

abbrev pub body_word : Beside → List PortWord
body_word beside.Nothing = []
body_word (beside.Reply going) = []
body_word (beside.Body going) = going.word ∷ []

abbrev pub reply_right : Beside → Option Carried
reply_right beside.Nothing = None
reply_right (beside.Reply going) = Some going.carried
reply_right (beside.Body going) = None

abbrev pub body_right : Beside → List Carried
body_right beside.Nothing = []
body_right (beside.Reply going) = []
body_right (beside.Body going) = going.carried ∷ []

-- the word and the right beside the destination's, if there are any
abbrev pub words_beside : Beside → List PortWord
words_beside b = option_to_list (reply_word b) ++ body_word b

abbrev pub rights_beside : Beside → List Carried
rights_beside b = option_to_list (reply_right b) ++ body_right b

-- It goes by the words of the message.
pub record IsOf (short : Short) (b : Beside) : Type 0 where
  pub reply : reply_word b ≡ reply_of short.right
  pub body : body_word b ≡ words_in short.right

-- all rights of a short message
abbrev pub rights_with : GoingRight → (port : ℕ) → Beside → Rights
rights_with destination port b = record { destination = destination.carried; port = port; place = destination.place; reply = reply_right b }

-- The right goes by the word, to the port.
pub record GoesTo (names : Names) (word : PortWord) (going : GoingRight) (port : ℕ) : Type 0 where
  pub by : going.word ≡ word
  pub to_port : going.carried.mark ≡ mark.Port port
  pub after : Names
  pub copies : CopiesName names word going.carried after

-- It goes by the word.
pub record Goes (names : Names) (word : PortWord) (going : GoingRight) : Type 0 where
  pub by : going.word ≡ word
  pub after : Names
  pub copies : CopiesWord names word going.carried after

abbrev pub is_body : Beside → Bool
is_body beside.Nothing = false
is_body (beside.Reply going) = false
is_body (beside.Body going) = true

abbrev pub spans_held : Beside → List Span
spans_held beside.Nothing = []
spans_held (beside.Reply going) = []
spans_held (beside.Body going) = spans_for (Some going.carried)

-- the message with this right
abbrev pub message_holding : (bytes : List ℕ) → (id : ℕ) → (by_once : Bool) → Beside → Kept
message_holding bytes id by_once b = record {
  bytes = bytes;
  id = id;
  is_complex = is_body b;
  spans = spans_held b;
  by_once = by_once;
  reply = reply_right b;
  rights = body_right b;
  told = false;
}

-- The right goes, and the queue holds it if it is the receive right of a body.
pub record CopiesBeside (old : WorldView) (task queue : ℕ) (b : Beside) (new : WorldView) : Type 0 where
  pub two : WorldView
  pub reply : ChangesWords old task (option_to_list (reply_word b)) (option_to_list (reply_right b)) two
  pub mid : WorldView
  pub body : ChangesWords two task (body_word b) (body_right b) mid
  pub holds : HoldsRights mid queue (body_right b) new

-- ---- the plan

abbrev pub short_view : ShortPlan → PlanView
short_view plan = record {
  task = plan.task;
  words = record { destination = plan.destination.word; reply = reply_word plan.beside; body = body_word plan.beside };
  destination = plan.destination.carried;
  port = plan.port;
  message = plan.message;
}

-- The plan sends this text, as the tables allow; its message carries its right beside the destination's.
pub record IsShortPlan (w : WorldView) (task : ℕ) (parsed : Parsed) (written : WireBody) (bytes : List ℕ) (plan : ShortPlan) : Type 0 where
  pub is_plan : IsPlan w task parsed written bytes (short_view plan)
  pub reply : plan.message.reply ≡ reply_right plan.beside
  pub rights : plan.message.rights ≡ body_right plan.beside
