-- Nothing of a call that is read is left, and the last argument of a call with three.
use Rattle.std.proofs.Common.{◌≡◌, ℕ, ◌<◌, ◌^◌, List, ◌∷◌, ◌++◌, Result, Ok, Err, IfOk, IsOkUnless, decimal, refl}
use Rattle.mach_types.specs.declared.calls.Event.{Event}
use Rattle.mach_types.specs.declared.calls.Event.TheVariants.{TaskCreate, TaskTerminate, Allocate, AllocateName, Deallocate, Destroy, ModRefs, GetRefs, NameType, Names, Rename, ReceiveStatus, SetQlimit, SetMscount, SetSeqno, InsertRight, ExtractRight, RequestNotification, MoveMember, InsertMember, ExtractMember, SetStatus, Send, Receive, ReceiveAgain}
use Rattle.text_reader.specs.Keywords.{IsNoOwnWord, IsNoPairWord}
use Rattle.tracer_base.specs.declared.fault.TextFault.{TextFault}
use Rattle.tracer_base.specs.declared.fault.TextFault.TheVariants.{OutOfMemory}
use Rattle.tracer_base.specs.Calls.{Fits, call_word, call_arguments, call_words}
use Rattle.tracer_base.specs.Words.{IsRead}
use Rattle.tracer_base.proofs.SameCalls.{same_call}
use Rattle.tracer_base.proofs.WordLemmas.{first_word}

pub is_read : (result : Result Event TextFault) (event : Event) (keyword : List ℕ) (whole left behind : List (List ℕ))
    → IfOk result (λ read. call_word read ≡ keyword) → IfOk result (λ read. call_arguments read ++ left ≡ whole) → IfOk result Fits → IsOkUnless result OutOfMemory
    → Fits event → call_word event ≡ keyword → call_arguments event ++ behind ≡ whole → IsRead result left behind
is_read (Ok read) event keyword whole left behind word arguments fits each fits_too word_too arguments_too =
    let same : call_words read ++ left ≡ call_words event ++ behind = cc in
    (same_call read event left behind fits fits_too same).1
is_read (Err fault) event keyword whole left behind word arguments fits each fits_too word_too arguments_too = each

behind_two : (a b c d : List ℕ) (others rest : List (List ℕ)) → a ∷ b ∷ others ≡ c ∷ d ∷ rest → others ≡ rest
behind_two a b c d others rest same = (first_word b d others rest (first_word a c (b ∷ others) (d ∷ rest) same).1).1

-- the last argument of a call with three that differ by the keyword alone
pub record Last (behind left : List (List ℕ)) : Type 0 where
  pub last : ℕ
  pub small : last < 2 ^ 32
  pub stands : decimal last ∷ behind ≡ left

pub last_of : (event : Event) (behind : List (List ℕ)) (a b : List ℕ) (left : List (List ℕ)) → IsNoOwnWord (call_word event) → IsNoPairWord (call_word event) → Fits event → call_arguments event ++ behind ≡ a ∷ b ∷ left → Last behind left
last_of TaskCreate behind a b left own pair fits same = absurd (own.task refl)
last_of (TaskTerminate task) behind a b left own pair fits same = absurd (own.ending refl)
last_of (Allocate task right) behind a b left own pair fits same = absurd (pair.alloc refl)
last_of (AllocateName task right name) behind a b left own pair fits same = record { last = name; small = fits.2; stands = behind_two _ _ _ _ _ _ same }
last_of (Deallocate task name) behind a b left own pair fits same = absurd (pair.dealloc refl)
last_of (Destroy task name) behind a b left own pair fits same = absurd (pair.destroy refl)
last_of (ModRefs task name right delta) behind a b left own pair fits same = absurd (own.modrefs refl)
last_of (GetRefs task name right) behind a b left own pair fits same = record { last = right; small = fits.2; stands = behind_two _ _ _ _ _ _ same }
last_of (NameType task name) behind a b left own pair fits same = absurd (pair.type_of refl)
last_of (Names task) behind a b left own pair fits same = absurd (own.names refl)
last_of (Rename task old new) behind a b left own pair fits same = record { last = new; small = fits.2; stands = behind_two _ _ _ _ _ _ same }
last_of (ReceiveStatus task name) behind a b left own pair fits same = absurd (pair.status refl)
last_of (SetQlimit task name limit) behind a b left own pair fits same = record { last = limit; small = fits.2; stands = behind_two _ _ _ _ _ _ same }
last_of (SetMscount task name count) behind a b left own pair fits same = record { last = count; small = fits.2; stands = behind_two _ _ _ _ _ _ same }
last_of (SetSeqno task name sequence) behind a b left own pair fits same = record { last = sequence; small = fits.2; stands = behind_two _ _ _ _ _ _ same }
last_of (InsertRight task name from poly disposition) behind a b left own pair fits same = absurd (own.insert refl)
last_of (ExtractRight task name disposition to) behind a b left own pair fits same = absurd (own.extract refl)
last_of (RequestNotification task name variant sync notify disposition) behind a b left own pair fits same = absurd (own.notify refl)
last_of (MoveMember task member set) behind a b left own pair fits same = record { last = set; small = fits.2; stands = behind_two _ _ _ _ _ _ same }
last_of (InsertMember task member set) behind a b left own pair fits same = record { last = set; small = fits.2; stands = behind_two _ _ _ _ _ _ same }
last_of (ExtractMember task member set) behind a b left own pair fits same = record { last = set; small = fits.2; stands = behind_two _ _ _ _ _ _ same }
last_of (SetStatus task name) behind a b left own pair fits same = absurd (pair.members refl)
last_of (Send task bytes) behind a b left own pair fits same = absurd (own.send refl)
last_of (Receive task name room large) behind a b left own pair fits same = absurd (own.recv refl)
last_of (ReceiveAgain task waited room large) behind a b left own pair fits same = absurd (own.again refl)

-- the first two arguments of a call that has two or three
pub record FirstTwo (whole : List (List ℕ)) : Type 0 where
  pub task : ℕ
  pub number : ℕ
  pub others : List (List ℕ)
  pub small : task < 2 ^ 32
  pub small_number : number < 2 ^ 32
  pub stands : decimal task ∷ decimal number ∷ others ≡ whole

pub first_two_of : (event : Event) (behind whole : List (List ℕ)) → IsNoOwnWord (call_word event) → Fits event → call_arguments event ++ behind ≡ whole → FirstTwo whole
first_two_of TaskCreate behind whole own fits same = absurd (own.task refl)
first_two_of (TaskTerminate task) behind whole own fits same = absurd (own.ending refl)
first_two_of (Allocate task right) behind whole own fits same = record { task = task; number = right; others = behind; small = fits.0; small_number = fits.1; stands = same }
first_two_of (AllocateName task right name) behind whole own fits same = record { task = task; number = right; others = decimal name ∷ behind; small = fits.0; small_number = fits.1; stands = same }
first_two_of (Deallocate task name) behind whole own fits same = record { task = task; number = name; others = behind; small = fits.0; small_number = fits.1; stands = same }
first_two_of (Destroy task name) behind whole own fits same = record { task = task; number = name; others = behind; small = fits.0; small_number = fits.1; stands = same }
first_two_of (ModRefs task name right delta) behind whole own fits same = absurd (own.modrefs refl)
first_two_of (GetRefs task name right) behind whole own fits same = record { task = task; number = name; others = decimal right ∷ behind; small = fits.0; small_number = fits.1; stands = same }
first_two_of (NameType task name) behind whole own fits same = record { task = task; number = name; others = behind; small = fits.0; small_number = fits.1; stands = same }
first_two_of (Names task) behind whole own fits same = absurd (own.names refl)
first_two_of (Rename task old new) behind whole own fits same = record { task = task; number = old; others = decimal new ∷ behind; small = fits.0; small_number = fits.1; stands = same }
first_two_of (ReceiveStatus task name) behind whole own fits same = record { task = task; number = name; others = behind; small = fits.0; small_number = fits.1; stands = same }
first_two_of (SetQlimit task name limit) behind whole own fits same = record { task = task; number = name; others = decimal limit ∷ behind; small = fits.0; small_number = fits.1; stands = same }
first_two_of (SetMscount task name count) behind whole own fits same = record { task = task; number = name; others = decimal count ∷ behind; small = fits.0; small_number = fits.1; stands = same }
first_two_of (SetSeqno task name sequence) behind whole own fits same = record { task = task; number = name; others = decimal sequence ∷ behind; small = fits.0; small_number = fits.1; stands = same }
first_two_of (InsertRight task name from poly disposition) behind whole own fits same = absurd (own.insert refl)
first_two_of (ExtractRight task name disposition to) behind whole own fits same = absurd (own.extract refl)
first_two_of (RequestNotification task name variant sync notify disposition) behind whole own fits same = absurd (own.notify refl)
first_two_of (MoveMember task member set) behind whole own fits same = record { task = task; number = member; others = decimal set ∷ behind; small = fits.0; small_number = fits.1; stands = same }
first_two_of (InsertMember task member set) behind whole own fits same = record { task = task; number = member; others = decimal set ∷ behind; small = fits.0; small_number = fits.1; stands = same }
first_two_of (ExtractMember task member set) behind whole own fits same = record { task = task; number = member; others = decimal set ∷ behind; small = fits.0; small_number = fits.1; stands = same }
first_two_of (SetStatus task name) behind whole own fits same = record { task = task; number = name; others = behind; small = fits.0; small_number = fits.1; stands = same }
first_two_of (Send task bytes) behind whole own fits same = absurd (own.send refl)
first_two_of (Receive task name room large) behind whole own fits same = absurd (own.recv refl)
first_two_of (ReceiveAgain task waited room large) behind whole own fits same = absurd (own.again refl)
