-- The text of histories.
use Rattle.std.specs.Prelude.{◌≡◌, ◌≢◌, ℕ, ◌+◌, ◌<◌, ◌^◌, List, [], ◌∷◌, ◌++◌, codes, decimal, length, flat_map, All}
use Rattle.mach_types.specs.declared.profiles.Profile.{Profile}
use Rattle.mach_types.specs.declared.profiles.Profile.TheVariants.{One, Two, Three}
use Rattle.mach_types.specs.declared.calls.Reply.{Reply}
use Rattle.kernel_lock.specs.declared.entry.Entry.{Entry}
use Rattle.tracer_base.specs.Calls.{Fits, call_words}
use Rattle.tracer_base.specs.Replies.{FitsReply, reply_words}
use Rattle.tracer_base.specs.Words.{line}

-- what a history of this profile begins with
abbrev pub heading_text : Profile → List ℕ
heading_text One = codes "mach-history 1"
heading_text Two = codes "mach-history 2"
heading_text Three = codes "mach-history 3"

-- the same, with its line feed
abbrev pub heading : Profile → List ℕ
heading profile = heading_text profile ++ 10 ∷ []

-- a history: by which profile, and its entries
pub record HistoryView : Type 0 where
  pub profile : Profile
  pub entries : List Entry

-- who called, what, and what was answered
abbrev pub entry_words : Entry → List (List ℕ)
entry_words e = decimal e.caller ∷ (call_words e.event ++ codes "->" ∷ reply_words e.reply)

abbrev pub entry_text : Entry → List ℕ
entry_text e = line (entry_words e)

-- an entry's line, with its line feed
abbrev pub entry_line : Entry → List ℕ
entry_line e = entry_text e ++ 10 ∷ []

abbrev pub history_text : Profile → List Entry → List ℕ
history_text profile entries = heading profile ++ flat_map entry_line entries

-- its numbers fit their types, and the call was recorded
pub record FitsLine (e : Entry) : Type 0 where
  pub caller : e.caller < 2 ^ 64
  pub call : Fits e.event
  pub reply : FitsReply e.reply
  pub recorded : e.reply ≢ Reply.NoRecord

-- no history of any profile stands at its beginning, not even one without entries
abbrev pub HasNoHeading : List ℕ → Type 0
HasNoHeading text = (profile : Profile) (rest : List ℕ) → heading profile ++ rest ≢ text

-- no entry's line stands at its beginning
abbrev pub StartsNoEntry : List ℕ → Type 0
StartsNoEntry text = (e : Entry) (rest : List ℕ) → FitsLine e → entry_line e ++ rest ≢ text

-- a history stands before line n, from 1, and there is more behind it, but no entry's line
pub record HasBadEntry (text : List ℕ) (n : ℕ) : Type 0 where
  pub profile : Profile
  pub entries : List Entry
  pub fit : All FitsLine entries
  pub number : length entries + 2 ≡ n
  pub rest : List ℕ
  pub parts : history_text profile entries ++ rest ≡ text
  pub some : 0 < length rest
  pub bad : StartsNoEntry rest

-- line n, from 1, is the first that no history's text has there
pub data IsFirstBadLine (text : List ℕ) (n : ℕ) : Type 0 where
  no_heading : n ≡ 1 → HasNoHeading text → IsFirstBadLine text n
  no_entry : HasBadEntry text n → IsFirstBadLine text n
