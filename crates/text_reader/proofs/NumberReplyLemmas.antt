-- Nothing is left of a reply of one number that is read.
use Rattle.std.proofs.Common.{◌≡◌, ℕ, ◌<◌, ◌^◌, List, [], ◌∷◌, ◌++◌, Result, Ok, Err, IfOk, IsOkUnless, decimal, refl, sym, subst, ◌∙◌, append-nil}
use Rattle.mach_types.specs.declared.calls.Reply.{Reply}
use Rattle.mach_types.specs.declared.calls.Reply.TheVariants.{Code, Task, Name, Refs, NameType, Names, Status, Members, Right, Previous, Message, Empty, TooLarge, NoRecord}
use Rattle.text_reader.specs.Keywords.{IsNoOtherWord}
use Rattle.tracer_base.specs.declared.fault.TextFault.{TextFault}
use Rattle.tracer_base.specs.declared.fault.TextFault.TheVariants.{OutOfMemory}
use Rattle.tracer_base.specs.Replies.{FitsReply, reply_word, reply_arguments}
use Rattle.tracer_base.specs.Words.{IsRead}
use Rattle.tracer_base.proofs.WordLemmas.{first_word}

-- the number that a reply answers, where it answers nothing else
pub record Number (left whole : List (List ℕ)) : Type 0 where
  pub number : ℕ
  pub small : number < 2 ^ 32
  pub stands : decimal number ∷ left ≡ whole

pub number_of : (reply : Reply) (left whole : List (List ℕ)) → IsNoOtherWord (reply_word reply) → FitsReply reply → reply_arguments reply ++ left ≡ whole → Number left whole
number_of (Code code) left whole apart fits same = absurd (apart.code refl)
number_of (Task task) left whole apart fits same = record { number = task; small = fits; stands = same }
number_of (Name name) left whole apart fits same = record { number = name; small = fits; stands = same }
number_of (Refs count) left whole apart fits same = record { number = count; small = fits; stands = same }
number_of (NameType bits) left whole apart fits same = absurd (apart.type_of refl)
number_of (Names names) left whole apart fits same = absurd (apart.names refl)
number_of (Status status) left whole apart fits same = absurd (apart.status refl)
number_of (Members members) left whole apart fits same = absurd (apart.members refl)
number_of (Right name kind) left whole apart fits same = absurd (apart.right refl)
number_of (Previous name) left whole apart fits same = record { number = name; small = fits; stands = same }
number_of (Message bytes) left whole apart fits same = absurd (apart.message refl)
number_of (Empty waited) left whole apart fits same = absurd (apart.empty refl)
number_of (TooLarge length_of) left whole apart fits same = record { number = length_of; small = fits; stands = same }
number_of NoRecord left whole apart fits same = absurd (apart.norecord refl)

pub is_read : (result : Result Reply TextFault) (reply : Reply) (keyword : List ℕ) (whole left : List (List ℕ))
    → IsNoOtherWord keyword → IfOk result (λ read. reply_word read ≡ keyword) → IfOk result (λ read. reply_arguments read ++ left ≡ whole) → IfOk result FitsReply → IsOkUnless result OutOfMemory
    → FitsReply reply → reply_word reply ≡ keyword → reply_arguments reply ≡ whole → IsRead result left []
is_read (Ok read) reply keyword whole left apart word arguments fits each fits_too word_too arguments_too =
    let first = number_of read left whole (subst IsNoOtherWord (sym word) apart) fits arguments in
    let other = number_of reply [] whole (subst IsNoOtherWord (sym word_too) apart) fits_too (append-nil (reply_arguments reply) ∙ arguments_too) in
    (first_word (decimal first.number) (decimal other.number) left [] (first.stands ∙ sym other.stands)).1
is_read (Err fault) reply keyword whole left apart word arguments fits each fits_too word_too arguments_too = each
