-- What is told of a history, and of which text.
use Rattle.std.specs.Prelude.{◌≡◌, ℕ, List, [], ◌∷◌, ◌++◌, All, Option, IfSome, IfNone, codes, decimal, length}
use Rattle.mach_types.specs.declared.profiles.Profile.{Profile}
use Rattle.kernel_lock.specs.declared.entry.Entry.{Entry}
use Rattle.kernel_lock.specs.History.{Legal}
use Rattle.kernel_lock.specs.Replays.{Replays}
use Rattle.tracer.specs.Checks.{IsUnconfirmed}
use Rattle.tracer.specs.Histories.{history_text, FitsLine, IsFirstBadLine}
use Rattle.mach_run_base.specs.declared.checking.Judge.{Judge}
use Rattle.mach_run_base.specs.declared.checking.Verdict.{Verdict}

-- The bytes, where they are known, are the text of the history of these entries by this profile.
pub record IsTextOf (bytes : Option (List ℕ)) (profile : Profile) (entries : List Entry) : Type 0 where
  pub fit : All FitsLine entries
  pub spelled : IfSome bytes (λ text. history_text profile entries ≡ text)

-- The history that the bytes spell is legal by its profile, and has so many entries.
pub record IsLegalText (bytes : Option (List ℕ)) (count : ℕ) : Type 0 where
  pub profile : Profile
  pub entries : List Entry
  pub text : IsTextOf bytes profile entries
  pub legal : Legal profile entries
  pub number : length entries ≡ count

-- In the history that the bytes spell this entry isn't confirmed.
pub record IsUnconfirmedText (bytes : Option (List ℕ)) (n : ℕ) : Type 0 where
  pub profile : Profile
  pub entries : List Entry
  pub text : IsTextOf bytes profile entries
  pub found : IsUnconfirmed profile entries n

-- The verdict is right for the bytes. It is what `read_history` and then `check` promise of the whole text: a bad line is told before an entry
-- that isn't confirmed, wherever the two stand.
abbrev pub IsVerdict : Option (List ℕ) → Verdict → Type 0
IsVerdict bytes (Verdict.Legal count) = IsLegalText bytes count
IsVerdict bytes (Verdict.NotConfirmed n) = IsUnconfirmedText bytes n
IsVerdict bytes (Verdict.BadLine n) = IfSome bytes (λ text. IsFirstBadLine text n)

-- its line
abbrev pub verdict_line : Verdict → List ℕ
verdict_line (Verdict.Legal count) = codes "legal " ++ decimal count ++ 10 ∷ []
verdict_line (Verdict.NotConfirmed n) = codes "not confirmed at " ++ decimal n ++ 10 ∷ []
verdict_line (Verdict.BadLine n) = codes "bad line " ++ decimal n ++ 10 ∷ []

abbrev pub verdict_status : Verdict → ℕ
verdict_status (Verdict.Legal count) = 0
verdict_status (Verdict.NotConfirmed n) = 1
verdict_status (Verdict.BadLine n) = 1

-- These entries of a history of this profile were seen: all are confirmed, and the kernel shows what they lead to; or the one that isn't is known.
pub record HasSeen (profile : Profile) (judge : Judge) (entries : List Entry) : Type 0 where
  pub legal : IfNone judge.unconfirmed (Replays profile entries judge.kernel)
  pub not : IfSome judge.unconfirmed (IsUnconfirmed profile entries)
