-- In how many port sets a port is, and how that is kept.
use Rattle.std.specs.Prelude.{◌≡◌, ◌≢◌, ℕ, ◌++◌, List, [], ◌∷◌, Option, Some, None, Bool}
use Rattle.std.specs.List.{Contains}
use Rattle.member_lists.specs.Lists.{IsApart, without}
use Rattle.shared_lists.specs.Shared.{SharedView, more_of, IsFirst, IsReady, joined_each, parted_each, left, left_each, entered, OthersKeep}
use Rattle.port_base.specs.declared.Membership.{Membership}
use Rattle.port_base.specs.declared.Membership.TheVariants.{Nowhere, Alone, Several}
use Rattle.port_base.specs.declared.SetCount.{SetCount}
use Rattle.port_base.specs.declared.SetCount.TheVariants as count

-- the first of the port's sets
abbrev pub first_of : Membership → Option ℕ
first_of Nowhere = None
first_of (Alone set) = Some set
first_of (Several set) = Some set

abbrev pub membership_of : SetCount → (set : ℕ) → Membership
membership_of count.Nothing set = Nowhere
membership_of count.One set = Alone set
membership_of count.Several set = Several set

-- in this set alone, or in none
abbrev pub alone_in : Option ℕ → Membership
alone_in None = Nowhere
alone_in (Some set) = Alone set

-- in the first of these sets, and in the others
abbrev pub membership_in : List ℕ → Membership
membership_in [] = Nowhere
membership_in (set ∷ []) = Alone set
membership_in (set ∷ other ∷ sets) = Several set

-- ---- the lists of a port's sets, by its key

-- all sets of the port
abbrev pub sets_of : SharedView → (key : ℕ) → Membership → List ℕ
sets_of v key Nowhere = []
sets_of v key (Alone set) = set ∷ []
sets_of v key (Several first) = first ∷ more_of v key

-- the port is in the sets that are told of it, and in no other
abbrev pub IsHome : SharedView → (key : ℕ) → Membership → Type 0
IsHome v key Nowhere = IsApart v.all key × (more_of v key ≡ [])
IsHome v key (Alone set) = IsFirst v set key × (more_of v key ≡ [])
IsHome v key (Several first) = IsFirst v first key × (more_of v key ≢ [])

-- the port gets ready in each of its sets, last of the ready ones
abbrev pub readied : SharedView → (key : ℕ) → Membership → SharedView
readied v key membership = record v { ready = joined_each v.ready (sets_of v key membership) key }

-- the port isn't ready any more in any of its sets
abbrev pub unreadied : SharedView → (key : ℕ) → Membership → SharedView
unreadied v key membership = record v { ready = parted_each v.ready (sets_of v key membership) key }

-- the same where these messages are left of a port that had one more
abbrev pub emptied : {M : Type 0} → SharedView → (key : ℕ) → Membership → List M → SharedView
emptied v key membership [] = unreadied v key membership
emptied v key membership (m ∷ ms) = v

-- the port is in none of its sets any more; each other keeps its lists and turns
pub record IsOut (old : SharedView) (key : ℕ) (membership : Membership) (is_ready : Bool) (new : SharedView) : Type 0 where
  pub lists : new ≡ record (left_each old (sets_of old key membership) key is_ready) { more = new.more; room = new.room }
  pub none : more_of new key ≡ []
  pub apart : IsApart new.all key
  pub others : OthersKeep old new key

-- the port is in these of its sets no more; in the others it is still, of which this is the first now
pub record IsPartlyOut (old : SharedView) (key start : ℕ) (is_ready : Bool) (gone : List ℕ) (own : ℕ) (new : SharedView) : Type 0 where
  pub lists : new ≡ record (left_each old gone key is_ready) { more = new.more; room = new.room }
  pub sets : gone ++ own ∷ more_of new key ≡ start ∷ more_of old key
  pub first : IsFirst new own key
  pub ready : IsReady new key is_ready
  pub others : OthersKeep old new key

-- the port is in this set alone: where it was there before, in its turn, and else as the last
pub record IsSettled (old : SharedView) (key : ℕ) (membership : Membership) (set : ℕ) (is_ready : Bool) (new : SharedView) : Type 0 where
  pub first : IsFirst new set key
  pub none : more_of new key ≡ []
  pub stays : Contains (sets_of old key membership) set → new ≡ record (left_each old (without set (sets_of old key membership)) key is_ready) { more = new.more; room = new.room }
  pub comes : (Contains (sets_of old key membership) set → ⊥) → new ≡ record (entered (left_each old (sets_of old key membership) key is_ready) set key is_ready) { more = new.more; room = new.room }
  pub others : OthersKeep old new key

-- The port is out of this set, and in the sets that are told now; in those it keeps its turns. Each other keeps its lists and turns.
pub record IsParted (old : SharedView) (key : ℕ) (membership : Membership) (set : ℕ) (is_ready : Bool) (now : Membership) (new : SharedView) : Type 0 where
  pub home : IsHome new key now
  pub sets : sets_of new key now ≡ without set (sets_of old key membership)
  pub lists : new ≡ record (left old set key is_ready) { more = new.more; room = new.room }
  pub others : OthersKeep old new key
