-- What C is told of a history's text.
use Rattle.std.specs.Prelude.{◌≡◌, ◌⊎◌, ℕ, ℤ, List, All, length}
use Rattle.mach_types.specs.declared.profiles.Profile.{Profile}
use Rattle.mach_types.specs.declared.codes.KernReturn.TheVariants.{ResourceShortage}
use Rattle.mach_types.specs.Codes.{kern_number}
use Rattle.kernel_lock.specs.declared.entry.Entry.{Entry}
use Rattle.kernel_lock.specs.History.{Legal}
use Rattle.tracer.specs.Histories.{history_text, FitsLine, IsFirstBadLine}
use Rattle.tracer.specs.Checks.{IsUnconfirmed}
use Rattle.gelvonds_c.specs.declared.checking.Verdict.{Verdict}
use Rattle.gelvonds_c_base.specs.Codes.{signed}

-- The text is the history of these entries by the profile.
pub record IsHistory (text : List ℕ) (profile : Profile) (entries : List Entry) : Type 0 where
  pub fit : All FitsLine entries
  pub text_is : history_text profile entries ≡ text

-- It is a history that the machine admits, and has so many entries.
pub record IsLegal (text : List ℕ) (count : ℕ) : Type 0 where
  pub profile : Profile
  pub entries : List Entry
  pub history : IsHistory text profile entries
  pub legal : Legal profile entries
  pub counted : count ≡ length entries

-- It is a history whose entry of this number, from 1, isn't confirmed.
pub record IsNotConfirmed (text : List ℕ) (number : ℕ) : Type 0 where
  pub profile : Profile
  pub entries : List Entry
  pub history : IsHistory text profile entries
  pub unconfirmed : IsUnconfirmed profile entries number

-- The verdict on the text: legal, a first bad line, or an entry that isn't confirmed.
abbrev pub IsVerdict : (text : List ℕ) → Verdict → Type 0
IsVerdict text verdict =
    (verdict.kind ≡ 1) × IsLegal text verdict.number
    ⊎ (verdict.kind ≡ 2) × IsFirstBadLine text verdict.number
    ⊎ (verdict.kind ≡ 3) × IsNotConfirmed text verdict.number

-- It is written, unless memory is refused: that is no verdict.
abbrev pub Judges : (text : List ℕ) → (code : ℤ) → (before after : Verdict) → Type 0
Judges text code before after = (code ≡ signed 0) × IsVerdict text after ⊎ (code ≡ signed (kern_number ResourceShortage)) × (after ≡ before)
