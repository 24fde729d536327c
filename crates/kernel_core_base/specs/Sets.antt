-- Port sets in the tables: which names are those of a set's members, and which port may go to which set.
use Rattle.std.specs.Prelude.{◌≡◌, ℕ, Bool, true, false, List, Option, Some, None, filter, Result, Ok, Err}
use Rattle.std.specs.Option.{option_and_then}
use Rattle.std.specs.FinMap as map
use Rattle.mach_types.specs.declared.calls.Event.{Event}
use Rattle.mach_types.specs.declared.calls.Reply.{Reply}
use Rattle.mach_model.specs.Refusals.{call_guards, move_guards}
use Rattle.name_space.specs.declared.Entry.{Entry}
use Rattle.name_space.specs.declared.Entry.TheVariants as entry
use Rattle.name_space.specs.Entry.{receive_named}
use Rattle.name_space.specs.Names.{Names}
use Rattle.mach_types.specs.declared.codes.Code.{Code}
use Rattle.copyin_base.specs.Serving.{IsAllowed, IsRefused}
use Rattle.copyin_base.specs.Finds.{FindsReceive}
use Rattle.copyin_base.specs.Worlds.{WorldView, entry_at, has_several_sets, sets_at}
pub use Rattle.kernel_core_base.specs.Wanted.{WantsToEnter}
use Rattle.kernel_core_base.specs.declared.sets.Moved.{Moved}
use Rattle.kernel_core_base.specs.declared.sets.Member.{Member}
use Rattle.port_base.specs.Turns.{contains_number}
use Rattle.port_base.specs.Memberships.{membership_in}

-- ---- members

abbrev pub is_in : WorldView → (set : ℕ) → Option ℕ → Bool
is_in w set None = false
is_in w set (Some p) = contains_number (sets_at w p) set

-- whether what stands under a name is the receive right of a port in the set
abbrev pub is_member : WorldView → (set : ℕ) → Option Entry → Bool
is_member w set o = is_in w set (option_and_then receive_named o)

-- the members' names among these, rising
abbrev pub members_in : WorldView → (set : ℕ) → Names → List ℕ
members_in w set names = filter (λ n. is_member w set (map.get names n)) (map.keys names)

-- ---- a port that changes its set

-- Where a port goes by this name: into the set under it, or into none where it is 0.
abbrev pub GoesTo : WorldView → (task after : ℕ) → Option ℕ → Type 0
GoesTo w task after (Some set) = entry_at w task after ≡ Some (entry.Set set)
GoesTo w task after None = after ≡ 0

pub record MayMove (w : WorldView) (task member after port : ℕ) (set : Option ℕ) : Type 0 where
  pub finds : FindsReceive w task member port
  pub goes : GoesTo w task after set
  pub allowed : IsAllowed w (λ s. move_guards s task member after)

-- the reply to a move
abbrev pub moved_reply : Result Moved Code → Result Reply Code
moved_reply (Ok moved) = Ok (Reply.Code 0)
moved_reply (Err code) = Err code

-- What is told of the port that moved: which it is, and the sets that it was in.
pub record TellsMoved (w : WorldView) (task member : ℕ) (moved : Moved) : Type 0 where
  pub finds : FindsReceive w task member moved.port
  pub left : membership_in (sets_at w moved.port) ≡ moved.left

-- ---- a port that enters a set beside others, or leaves one of several

-- The first name has the port's receive right, and the other is the set's.
pub record MayPair (w : WorldView) (task member set : ℕ) (pair : Member) : Type 0 where
  pub several : has_several_sets w.profile ≡ true
  pub finds : FindsReceive w task member pair.port
  pub stands : entry_at w task set ≡ Some (entry.Set pair.set)

-- Each of the two calls is refused so, whether or not the port is in the set.
abbrev pub IsUnpaired : WorldView → (task member set code : ℕ) → Type 0
IsUnpaired w task member set code =
    IsRefused w (λ s. call_guards s (Event.InsertMember task member set)) code × IsRefused w (λ s. call_guards s (Event.ExtractMember task member set)) code

-- the reply to the call
abbrev pub pair_reply : Result Member Code → Result Reply Code
pair_reply (Ok pair) = Ok (Reply.Code 0)
pair_reply (Err code) = Err code

-- What is told of it: which port and which set.
pub record TellsPair (w : WorldView) (task member set : ℕ) (pair : Member) : Type 0 where
  pub finds : FindsReceive w task member pair.port
  pub stands : entry_at w task set ≡ Some (entry.Set pair.set)
