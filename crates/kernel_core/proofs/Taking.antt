-- A step that takes a message takes the one in front of its source.
use Rattle.std.proofs.Common.{◌≡◌, ℕ, ◌+◌, List, Bool, true, Option, Some, Result, Ok, Err, IfOk, refl, sym, ap, subst, ◌∙◌, arith, true, false, inl, inr}
use Rattle.std.specs.Prelude.{MatchOption}
use Rattle.std.proofs.lemmas.Bool.Decides.{eqb_tells}
use Rattle.mach_types.specs.declared.calls.Event.{Event}
use Rattle.mach_types.specs.declared.calls.Reply.{Reply}
use Rattle.mach_types.specs.declared.calls.Waited.{Waited}
use Rattle.mach_types.specs.Messages.{Entry}
use Rattle.mach_model.specs.State.{State, at}
use Rattle.mach_model.specs.Lawful.{IsLawful}
use Rattle.mach_model.specs.Notices.{Owed}
use Rattle.mach_model.specs.Receive.{Receipt, Receives, DestroysFront}
use Rattle.mach_model.specs.Settles.{Settles}
use Rattle.mach_model.proofs.MessagesLawful.{Receives-removes}
use Rattle.mach_model.proofs.Names.{at_own, at_other}
use Rattle.mach_laws.specs.Counts.{takes_from}
use Rattle.mach_types.specs.declared.codes.Code.{Code}
use Rattle.copyin_base.specs.Serving.{Completes, Serves}
use Rattle.copyin_base.specs.Stands.{Stands}
use Rattle.copyin_base.specs.Worlds.{WorldView}
use Rattle.kernel_change.specs.declared.change.Change.{Change}
use Rattle.kernel_change.specs.declared.change.Change.TheVariants.{Nothing}
use Rattle.kernel_change.specs.Changing.{by_too_long, by_receipt}
use Rattle.kernel_core.specs.InTurn.{IsFirst, source_of, TakesByTurn, KeepsTurns, CompletesInTurn}
use Rattle.kernel_core.specs.Telling.{by_length, with_message}
use Rattle.kernel_core.specs.Receive.{HasMessage, NoneWaits, IsReceipt, TakesOne, taken_by}

-- ---- a receipt

pub named_takes : (task name room : ℕ) (large : Bool) (reply : Reply) → takes_from (Event.Receive task name room large) reply ≡ taken_by large reply
named_takes task name room large (Reply.Message bytes) = refl
named_takes task name room large (Reply.TooLarge n) = refl
named_takes task name room large reply = refl

pub again_takes : (task : ℕ) (waited : Waited) (room : ℕ) (large : Bool) (reply : Reply) → takes_from (Event.ReceiveAgain task waited room large) reply ≡ taken_by large reply
again_takes task waited room large (Reply.Message bytes) = refl
again_takes task waited room large (Reply.TooLarge n) = refl
again_takes task waited room large reply = refl

takes_one : (s t : State) (port : ℕ) → ((p : ℕ) → t.taken p ≡ at s.taken port (s.taken port + 1) p) → TakesOne s t port
takes_one s t port taken = record {
  next = taken port ∙ at_own s.taken port (s.taken port + 1);
  others = λ p other. taken p ∙ at_other s.taken port (s.taken port + 1) p other;
}

pub message_one : (s t : State) (task port room : ℕ) (bytes : List ℕ) → IsLawful s → s.live_port port ≡ true → s.live_task task ≡ true → Receives task port room bytes s t → TakesOne s t port
message_one s t task port room bytes l live is_task r =
    takes_one s t port (λ p. ap (λ (x : State). x.taken p) (Receives-removes task port room bytes s t l live is_task r).rest ∙ ap (λ (x : State). x.taken p) r.takes.rest)

pub destroyed_one : (s t : State) (port : ℕ) (e : Entry) (owed : Owed) → DestroysFront port e s t owed → TakesOne s t port
destroyed_one s t port e owed d = takes_one s t port (λ p. ap (λ (x : State). x.taken p) d.rest ∙ ap (λ (x : State). x.taken p) d.takes.rest)

pub source_first : (w : WorldView) (waited : Waited) (ready : Option ℕ) (port : ℕ) → IsFirst w waited ready → MatchOption ready (NoneWaits w waited) (HasMessage w waited) → ready ≡ Some port →
    source_of w waited ≡ Some port
source_first w (Waited.Port p) ready port first has is =
    let here : HasMessage w (Waited.Port p) port = subst (λ (o : Option ℕ). MatchOption o (NoneWaits w (Waited.Port p)) (HasMessage w (Waited.Port p))) is has in
    ap Some (sym here.from.is_of)
source_first w (Waited.Set set) ready port first has is = sym first ∙ is

-- where one message is taken, of this port, each port of which one is taken is this
pub one_taken : (s t : State) (p q : ℕ) → TakesOne s t p → t.taken q ≡ s.taken q + 1 → p ≡ q
one_taken s t p q one next = elim (eqb_tells p q) [
  | inl h ↦ h.1
  | inr h ↦ absurd (let same = one.others q (λ e. h.1 (sym e)) in omega (arith, same, next))
]

-- it is told of as of its source
pub told_of_source : (w : WorldView) (stands : Stands w) (task : ℕ) (waited : Waited) (room : ℕ) (large : Bool) (ready : Option ℕ) (reply : Reply) (new : WorldView) → IsFirst w waited ready →
    MatchOption ready (NoneWaits w waited) (HasMessage w waited) → IsReceipt w task waited room large ready reply new → (told taken : Change) → told ≡ Nothing → taken ≡ by_length w large ready reply told →
    with_message task reply taken ≡ by_receipt w task large (source_of w waited) reply
told_of_source w stands task waited room large ready reply new first has r told taken none is =
    let x = r.receipt 0 stands.state stands.shown in
    ap (with_message task reply) (is ∙ ap (by_length w large ready reply) none) ∙ go x.mid x.owed large reply (λ one. let t = x.takes one in t.1 ∙ sym (source_first w waited ready t.0 first has t.1)) x.receipt
  where
    go : (mid : State) (owed : Owed) (b : Bool) (x : Reply) → (taken_by b x ≡ 1 → ready ≡ source_of w waited) → Receipt stands.state task waited room b x mid owed →
        with_message task x (by_length w b ready x Nothing) ≡ by_receipt w task b (source_of w waited) x
    go mid owed b (Reply.Message bytes) same receipt = refl
    go mid owed b (Reply.Empty told) same receipt = refl
    go mid owed true (Reply.TooLarge n) same receipt = refl
    go mid owed false (Reply.TooLarge n) same receipt = ap (by_too_long w) (same refl)
    go mid owed b x same receipt = absurd receipt

-- ---- other calls

-- The call doesn't receive.
abbrev pub IsNoReceipt : Event → Type 0
IsNoReceipt (Event.Receive task name room large) = ⊥
IsNoReceipt (Event.ReceiveAgain task waited room large) = ⊥
IsNoReceipt event = Unit {0}

takes_nothing : (event : Event) (reply : Reply) → IsNoReceipt event → takes_from event reply ≡ 0
takes_nothing (Event.Receive task name room large) reply not = absurd not
takes_nothing (Event.ReceiveAgain task waited room large) reply not = absurd not
takes_nothing event reply not = refl

pub other_turns : (old : WorldView) (event : Event) (reply : Reply) (new : WorldView) → IsNoReceipt event → KeepsTurns old event reply new
other_turns old (Event.Receive task name room large) reply new not = absurd not
other_turns old (Event.ReceiveAgain task waited room large) reply new not = absurd not
other_turns old event reply new not = tt

pub other_takes : (old : WorldView) (event : Event) (result : Result Reply Code) (new : WorldView) → IsNoReceipt event → Serves old event result new → IfOk result (λ reply. CompletesInTurn old event reply new)
other_takes old event (Ok reply) new not serves = record { acts = λ now s sh. (serves.acts now s sh, λ one. absurd (let none = takes_nothing event reply not in omega (arith, none, one))) }
other_takes old event (Err code) new not serves = tt

-- ---- a step

pub completes : (old : WorldView) (event : Event) (reply : Reply) (new : WorldView) → CompletesInTurn old event reply new → Completes old event reply new
completes old event reply new c = record { acts = λ now s sh. (c.acts now s sh).0 }

refusal_takes : (event : Event) (code : ℕ) → takes_from event (Reply.Code code) ≡ 0
refusal_takes (Event.Receive task name room large) code = refl
refusal_takes (Event.ReceiveAgain task waited room large) code = refl
refusal_takes event code = refl

pub refused_in_turn : (old : WorldView) (event : Event) (code : ℕ) (s t : State) → TakesByTurn old event (Reply.Code code) s t
refused_in_turn old event code s t = λ one. absurd (let none = refusal_takes event code in omega (arith, none, one))

-- the end of a step takes none
pub settled_in_turn : (old : WorldView) (event : Event) (reply : Reply) (now : ℕ) (s mid t : State) (owed : Owed) → Settles now s mid owed t → TakesByTurn old event reply s mid → TakesByTurn old event reply s t
settled_in_turn old event reply now s mid t owed settles takes = λ one.
    let x = takes one in
    let same : (p : ℕ) → t.taken p ≡ mid.taken p = λ p. ap (λ (y : State). y.taken p) settles.rest in
    (x.0, x.1, record { next = same x.0 ∙ x.2.next; others = λ p other. same p ∙ x.2.others p other })
