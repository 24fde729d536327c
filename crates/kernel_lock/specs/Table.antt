-- The rule of the board, and what each step tells.
use Rattle.std.specs.Prelude.{◌≡◌, ℕ, ◌<◌, ◌≤◌, Bool, true, false, List, [], ◌∷◌, length}
use mathlib.Core.Option.{Option, none, some}
use lib.ListN.{get_elem?}
use Rattle.atomic_table.specs.Table.{State, Me, Step}
use Rattle.mach_types.specs.declared.profiles.Profile.{Profile}
use Rattle.kernel_lock.specs.declared.entry.Entry.{Entry}
use Rattle.kernel_lock.specs.declared.board.View.{View}
use Rattle.kernel_lock.specs.History.{Legal, calls_by, StartsWith}
use Rattle.kernel_lock.specs.Views.{watch_view, published}

-- the lock's seat knows the whole history, and no pass has a number that was not given out
abbrev pub FitsDesk : (ℕ → Option ℕ) → ℕ → List Entry → ℕ → View → Type 0
FitsDesk seat desk log id v = v.desk ≡ true → (id ≡ desk) × (v.seen ≡ log) × ((c : ℕ) → v.made ≤ c → seat c ≡ none)

-- one seat calls for each caller, and it knows all its calls
abbrev pub FitsPass : (ℕ → Option ℕ) → List Entry → ℕ → View → Type 0
FitsPass seat log id v = v.calls ≡ true → (seat v.caller ≡ some id) × (calls_by v.caller log ≡ v.mine)

-- what a seat knows of the profile, and was told of it, is the board's
abbrev pub FitsProfile : Profile → View → Type 0
FitsProfile profile v = v.knows ≡ true → (v.profile ≡ profile) × (v.told_profile ≡ profile)

abbrev pub Fits : Profile → (ℕ → Option ℕ) → ℕ → List Entry → ℕ → View → Type 0
Fits profile seat desk log id v = StartsWith log v.seen × StartsWith log v.told × FitsDesk seat desk log id v × FitsPass seat log id v × FitsProfile profile v

-- there is one legal history by the board's profile. Its length is the word, the lock's seat knows it, and all others know beginnings of it
pub record Kept (profile : Profile) (s : State Entry View) : Type 0 where
  pub log : List Entry
  pub desk : ℕ
  pub seat : ℕ → Option ℕ
  pub words : s.words ≡ length log ∷ []
  pub legal : Legal profile log
  pub fits : (id : ℕ) (v : View) → get_elem? s.views id ≡ some v → Fits profile seat desk log id v

-- a look: the history so far was seen
abbrev pub Looks : Step Entry → Me Entry View → ℕ → Me Entry View → Type 0
Looks s v found w =
    (log : List Entry) × (w ≡ (watch_view v.0.profile log, v.1)) × (length log ≡ found) × Legal v.0.profile log × StartsWith log v.0.seen × StartsWith log v.0.told
    × (v.0.told_profile ≡ v.0.profile)

-- an entry was put behind the history
abbrev pub PublishesThis : Me Entry View → Me Entry View → Entry → Type 0
PublishesThis v w e =
    (w ≡ (published v.0 e, v.1)) × StartsWith v.0.seen v.0.told × (calls_by v.0.caller v.0.seen ≡ v.0.mine) × (v.0.caller < v.0.made)
    × (v.0.told_profile ≡ v.0.profile)

abbrev pub IfSaid : Option Entry → (Entry → Type 0) → Type 0
IfSaid none f = Unit {0}
IfSaid (some e) f = f e

abbrev pub Publishes : Step Entry → Me Entry View → ℕ → Me Entry View → Type 0
Publishes s v found w = IfSaid s.said (PublishesThis v w)

-- a look with a pass in hand: it knows its own calls, and a beginning of the history
abbrev pub Confirms : Step Entry → Me Entry View → ℕ → Me Entry View → Type 0
Confirms s v found w = (w ≡ v) × StartsWith v.0.seen v.0.told × (calls_by v.0.caller v.0.seen ≡ v.0.mine) × (v.0.told_profile ≡ v.0.profile)

-- the function, changed at one place
abbrev pub pick : Bool → Option ℕ → Option ℕ → Option ℕ
pick true a b = a
pick false a b = b
