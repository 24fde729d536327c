-- What is true of every state that the machine reaches (this project's own). Every step keeps it. It stands in groups, each over the
-- parts of the state that it speaks of alone, so that a step keeps each group whose parts it leaves.
use Rattle.std.specs.Prelude.{◌≡◌, ◌≢◌, ℕ, ◌+◌, ◌^◌, ◌<◌, ◌≤◌, ◌⊎◌, Bool, true, false, List, [], ◌∷◌, length, slice_get, drop, Option, Some, None, if◌then◌else◌, ◌==◌, Contains}
use Rattle.std.specs.FinMap as map
use Rattle.mach_types.specs.Numbers.{null_word, dead_word, most_names, most_references, most_rights, greatest_limit}
use Rattle.mach_types.specs.Tokens.{Kind, receive, send, send_once, Request, no_senders, port_destroyed, dead_name, in_message, in_request, Token, count, is_of, is_held}
use Rattle.mach_types.specs.Messages.{Entry}
use Rattle.mach_model.specs.State.{State, Target, Names, held}
use Rattle.mach_model.specs.Death.{same_place}
use Rattle.mach_model.specs.Carried.{message_count, lying_among}
use Rattle.mach_types.specs.declared.profiles.Profile.{Profile}
use Rattle.mach_types.specs.declared.profiles.Profile.TheVariants.{One, Two, Three}

-- ---- tasks and their names

abbrev pub is_once : ℕ → Target → Bool
is_once p (Target.once q) = q == p
is_once p target = false

-- how many pass the test
abbrev pub tally : {A : Type 0} → (A → Bool) → List A → ℕ
tally test [] = 0
tally test (x ∷ xs) = (if test x then 1 else 0) + tally test xs

-- how many names stand for send-once rights for the port
abbrev pub onces : Names → ℕ → ℕ
onces names p = tally (is_once p) (map.values names)

-- References stand in their range.
abbrev pub HasReferences : Target → Type 0
HasReferences (Target.dead n) = (0 < n) × (n ≤ most_references)
HasReferences target = Unit {0}

-- Each task that lives was made, and no other has names.
pub record LawfulTasks (live : ℕ → Bool) (made : ℕ) (naming : ℕ → Names) : Type 0 where
  pub made_task : (task : ℕ) → live task ≡ true → task < made
  pub no_task : (task name : ℕ) → live task ≡ false → map.get (naming task) name ≡ None

-- A name space: two words are never names, there are not too many names, and references stand in their range.
pub record LawfulSpace (names : Names) : Type 0 where
  pub not_null : map.get names null_word ≡ None
  pub not_dead : map.get names dead_word ≡ None
  pub name_fits : (name : ℕ) (target : Target) → map.get names name ≡ Some target → name < 2 ^ 32
  pub few_names : map.len names ≤ most_names
  pub references : (name : ℕ) (target : Target) → map.get names name ≡ Some target → HasReferences target

-- The names of a task that has so many rights of each kind for each port. A port has one name where its task has a receive or send
-- right for it, and none where it has not; each send-once right has a name of its own.
pub record LawfulNames (names : Names) (rights : Kind → ℕ → ℕ) : Type 0 where
  pub space : LawfulSpace names
  pub open space use *
  pub has_right : (name p : ℕ) → map.get names name ≡ Some (Target.port p) → 0 < rights receive p + rights send p
  pub is_named : (p : ℕ) → 0 < rights receive p + rights send p → (name : ℕ) × (map.get names name ≡ Some (Target.port p))
  pub one_name : (n m p : ℕ) → map.get names n ≡ Some (Target.port p) → map.get names m ≡ Some (Target.port p) → n ≡ m
  pub once_names : (p : ℕ) → rights send_once p ≡ onces names p
  pub few_references : (p : ℕ) → rights send p ≤ most_references

-- ---- ports

-- Each port that lives was made, and no right is for another.
pub record LawfulPorts (live : ℕ → Bool) (made : ℕ) (ledger : List Token) : Type 0 where
  pub made_port : (p : ℕ) → live p ≡ true → p < made
  pub no_rights : (p : ℕ) → live p ≡ false → (kind : Kind) → count (is_of kind p) ledger ≡ 0

-- The numbers of each port stand in their ranges.
pub record LawfulNumbers (limit make_send sequence : ℕ → ℕ) : Type 0 where
  pub limit_fits : (p : ℕ) → limit p ≤ greatest_limit
  pub make_send_fits : (p : ℕ) → make_send p < 2 ^ 32
  pub sequence_fits : (p : ℕ) → sequence p < 2 ^ 32

-- Each port that lives has one receive right, anywhere; that of a member is with the task that has the set.
pub record LawfulReceivers (live : ℕ → Bool) (set_owner : ℕ → Option ℕ) (sets_of : ℕ → List ℕ) (ledger : List Token) : Type 0 where
  pub one_receive : (p : ℕ) → live p ≡ true → count (is_of receive p) ledger ≡ 1
  pub members : (p set : ℕ) → Contains (sets_of p) set → (task : ℕ) × (set_owner set ≡ Some task) × (0 < count (is_held task receive p) ledger)

-- ---- sets

-- A set that was not made yet has no task; a task's set has one name with its task, and a name for a set is its task's.
pub record LawfulSets (naming : ℕ → Names) (owner : ℕ → Option ℕ) (made : ℕ) : Type 0 where
  pub made_set : (set : ℕ) → made ≤ set → owner set ≡ None
  pub set_owned : (task name set : ℕ) → map.get (naming task) name ≡ Some (Target.set set) → owner set ≡ Some task
  pub set_named : (set task : ℕ) → owner set ≡ Some task → (name : ℕ) × (map.get (naming task) name ≡ Some (Target.set set))
  pub one_set_name : (task n m set : ℕ) → map.get (naming task) n ≡ Some (Target.set set) → map.get (naming task) m ≡ Some (Target.set set) → n ≡ m

-- each stands once
abbrev pub AreApart : List ℕ → Type 0
AreApart [] = Unit {0}
AreApart (x ∷ xs) = ¬ (Contains xs x) × AreApart xs

-- which sets a port may be in
abbrev pub HasFewSets : Profile → List ℕ → Type 0
HasFewSets One sets = length sets ≤ 1
HasFewSets Two sets = length sets ≤ 1
HasFewSets Three sets = AreApart sets

-- A port is in each of its sets once, and in one at most but where the profile has it in several; a dead one is in none.
pub record LawfulMembership (profile : Profile) (live : ℕ → Bool) (sets_of : ℕ → List ℕ) : Type 0 where
  pub no_sets : (p : ℕ) → live p ≡ false → sets_of p ≡ []
  pub few_sets : (p : ℕ) → HasFewSets profile (sets_of p)

-- ---- logs

-- An entry of a log is its port's, and goes by a send or send-once right; it speaks of ports that were made.
pub record LawfulLogs (made : ℕ) (log : ℕ → List Entry) (taken : ℕ → ℕ) : Type 0 where
  pub unmade_log : (p : ℕ) → made ≤ p → log p ≡ []
  pub within : (p : ℕ) → taken p ≤ length (log p)
  pub sent_here : (p k : ℕ) (e : Entry) → slice_get (log p) k ≡ Some e → (e.message.destination ≡ p) × (e.message.kind ≢ receive)
  pub made_marks : (p k : ℕ) (e : Entry) → slice_get (log p) k ≡ Some e → (kind : Kind) (q : ℕ) → made ≤ q → message_count kind q e.message ≡ 0

-- A queued message of a live port has its rights for live ports, and no other place of a log has any.
pub record LawfulMessages (live : ℕ → Bool) (log : ℕ → List Entry) (taken : ℕ → ℕ) (ledger : List Token) : Type 0 where
  pub carried : (p i : ℕ) (e : Entry) → live p ≡ true → slice_get (drop (taken p) (log p)) i ≡ Some e → (kind : Kind) (q : ℕ) → live q ≡ true →
      lying_among ledger kind q (in_message p (taken p + i)) ≡ message_count kind q e.message
  pub gone : (p k : ℕ) → (k < taken p) ⊎ (live p ≡ false) → (kind : Kind) (q : ℕ) → lying_among ledger kind q (in_message p k) ≡ 0
  pub no_entry : (p k : ℕ) → length (log p) ≤ k → (kind : Kind) (q : ℕ) → lying_among ledger kind q (in_message p k) ≡ 0

-- ---- requests

-- Each request keeps at most one right, a send-once right.
pub record LawfulRequests (ledger : List Token) : Type 0 where
  pub one_kept : (r : Request) → count (λ x. same_place (in_request r) x.place) ledger ≤ 1
  pub once_kept : (r : Request) (kind : Kind) (q : ℕ) → kind ≢ send_once → lying_among ledger kind q (in_request r) ≡ 0

-- A request keeps a right only while it stands.
pub record LawfulStanding (stands : Request → Bool) (ledger : List Token) : Type 0 where
  pub ended : (r : Request) → stands r ≡ false → (kind : Kind) (q : ℕ) → lying_among ledger kind q (in_request r) ≡ 0

abbrev pub IsRight : Option Target → Type 0
IsRight (Some (Target.port p)) = Unit {0}
IsRight (Some (Target.once p)) = Unit {0}
IsRight target = ⊥

-- what a request that stands needs
abbrev pub StandsOn : (live : ℕ → Bool) (naming : ℕ → Names) → Request → Type 0
StandsOn live naming (no_senders p) = live p ≡ true
StandsOn live naming (port_destroyed p) = live p ≡ true
StandsOn live naming (dead_name task name) = IsRight (map.get (naming task) name)

-- A request stands on a port that lives, or on a name of a right.
pub record LawfulGround (live : ℕ → Bool) (naming : ℕ → Names) (stands : Request → Bool) : Type 0 where
  pub stands_on : (r : Request) → stands r ≡ true → StandsOn live naming r

-- ---- the whole state

pub record IsLawful (s : State) : Type 0 where
  pub tasks : LawfulTasks s.live_task s.tasks_made s.naming
  pub open tasks use *
  pub naming : (task : ℕ) → LawfulNames (s.naming task) (held s task)
  pub ports : LawfulPorts s.live_port s.ports_made s.ledger
  pub open ports use *
  pub numbers : LawfulNumbers s.limit s.make_send s.sequence
  pub open numbers use *
  pub receivers : LawfulReceivers s.live_port s.set_owner s.sets_of s.ledger
  pub open receivers use *
  pub few_rights : length s.ledger ≤ most_rights
  pub sets : LawfulSets s.naming s.set_owner s.sets_made
  pub open sets use *
  pub membership : LawfulMembership s.profile s.live_port s.sets_of
  pub open membership use *
  pub logs : LawfulLogs s.ports_made s.log s.taken
  pub open logs use *
  pub messages : LawfulMessages s.live_port s.log s.taken s.ledger
  pub open messages use *
  pub requests : LawfulRequests s.ledger
  pub open requests use *
  pub standing : LawfulStanding s.stands s.ledger
  pub open standing use *
  pub ground : LawfulGround s.live_port s.naming s.stands
  pub open ground use *
