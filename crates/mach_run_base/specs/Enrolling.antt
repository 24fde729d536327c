-- How far a script's callers have come while it is run: within this crate alone.
use Rattle.std.specs.Prelude.{◌≡◌, ℕ, ◌+◌, ◌≤◌, List, [], ◌∷◌, All, length}
use Rattle.mach_types.specs.declared.profiles.Profile.{Profile}
use Rattle.kernel_lock.specs.declared.entry.Entry.{Entry}
use Rattle.kernel_lock.specs.History.{Known, calls_by}
use Rattle.mach_msg_threads.specs.declared.block.Call.{Call}
use Rattle.mach_run_base.specs.declared.running.Enrolled.{Enrolled}
use Rattle.mach_run_base.specs.declared.script.ThreadCalls.{ThreadCalls}
use Rattle.mach_run_base.specs.Callers.{SeesAll}

abbrev pub pass_of : {X : Type 0} → Known × X → Known
pass_of one = one.0

-- Each block has a new pass, which is the next caller.
abbrev pub AreEnrolled : (caller : ℕ) → List ThreadCalls → List Enrolled → Type 0
AreEnrolled c [] [] = Unit {0}
AreEnrolled c (block ∷ blocks) (one ∷ more) =
    ((one.number ≡ block.number) × (one.calls ≡ block.calls) × (one.pass.caller ≡ c) × (one.pass.seen ≡ [])) × AreEnrolled (c + 1) blocks more
AreEnrolled c blocks ones = ⊥

-- The block stands ready with its pass, which has seen this history of this profile, and its calls.
abbrev pub IsReady : Profile → (start : List Entry) → Enrolled → Known → List Call → Type 0
IsReady profile start one pass calls = (calls ≡ one.calls.items) × (pass.caller ≡ one.pass.caller) × (pass.seen ≡ start) × SeesAll one.pass start × (pass.profile ≡ profile)

-- The history is all of what these passes have seen, of the main thread and of the blocks, and nobody else has a call in it.
pub record AreWhole (log : List Entry) (main : Known) (blocks : List Known) : Type 0 where
  pub first : SeesAll main log
  pub all : All (λ w. SeesAll w log) blocks
  pub others : (c : ℕ) → length blocks + 1 ≤ c → calls_by c log ≡ []
