-- A receipt from what was found, however it is answered: as the calls that receive say it.
use Rattle.std.proofs.Common.{◌≡◌, ℕ, Bool, Option, Some, Result, Ok, Err, IfOk, refl, sym, ap, subst, ◌∙◌}
use Rattle.std.specs.Prelude.{MatchOption, IfErr}
use Rattle.std.specs.Option.{option_and_then}
use Rattle.mach_types.specs.declared.calls.Event.{Event}
use Rattle.mach_types.specs.declared.calls.Reply.{Reply}
use Rattle.mach_types.specs.declared.calls.Waited.{Waited}
use Rattle.mach_model.specs.Refusals.{again_guards}
use Rattle.mach_types.specs.declared.codes.Code.{Code}
use Rattle.mach_types.specs.Codes.{code_number}
use Rattle.copyin_base.specs.Serving.{Declines, IsAllowed, Serves}
use Rattle.copyin_base.specs.Stands.{Stands}
use Rattle.copyin_base.specs.Worlds.{WorldView, entry_at, HasTask}
use Rattle.copyin_base.proofs.Spares.{keeps_same}
use Rattle.kernel_change.specs.declared.change.Change.{Change}
use Rattle.kernel_change.specs.declared.change.Change.TheVariants.{Nothing}
use Rattle.kernel_change.specs.Changing.{by_receipt}
use Rattle.kernel_core.specs.InTurn.{IsFirst, source, source_of, TakesInTurn, KeepsTurns, CompletesInTurn, told_by}
use Rattle.kernel_core.specs.Receive.{Sources, HasMessage, NoneWaits, IsReceipt, StaysFor, FreesSlot, waited_at}
use Rattle.kernel_core.specs.Telling.{by_length, with_message}
use Rattle.kernel_core.specs.Wanted.{LeavesSpares, WantsMemory, WantsToTake}
use Rattle.kernel_core.proofs.InTurn.{named_turns, again_turns}
use Rattle.kernel_core.proofs.Keeping.{refused_spares}
use Rattle.kernel_core.proofs.Receiving.{named_stays, named_received, again_stays, again_received}
use Rattle.kernel_core.proofs.Sparing.{named_spares, again_spares}
use Rattle.kernel_core.proofs.Taking.{completes, told_of_source}

module _ (w new : WorldView) (task room : ℕ) (large : Bool) (below : HasTask w task) (waited : Waited) (ready : Option ℕ) (first : IsFirst w waited ready) (has : MatchOption ready (NoneWaits w waited) (HasMessage w waited)) where
  -- what was received, or why not
  abbrev pub Received : Result Reply Code → Type 0
  Received result = IfOk result (λ reply. IsReceipt w task waited room large ready reply new)

  abbrev pub Stays : Result Reply Code → Type 0
  Stays result = IfErr result (λ code. (new ≡ w) × StaysFor w task waited room (code_number code))

  told_so : (stands : Stands w) (reply : Reply) (old told : Change) → IsReceipt w task waited room large ready reply new → old ≡ Nothing → told ≡ with_message task reply (by_length w large ready reply old) → told ≡ by_receipt w task large (source_of w waited) reply
  told_so stands reply old told r none is = is ∙ told_of_source w stands task waited room large ready reply new first has r old (by_length w large ready reply old) none refl

  module _ (good : IsAllowed w (λ s. again_guards s task waited)) where
    abbrev again : Event
    again = Event.ReceiveAgain task waited room large

    pub again_took : (result : Result Reply Code) → Received result → IfOk result (λ reply. CompletesInTurn w again reply new)
    again_took (Ok reply) r = again_received w task room large below waited good ready reply new first has r
    again_took (Err code) r = tt

    pub again_serves : (result : Result Reply Code) → Received result → Stays result → Serves w again result new
    again_serves (Ok reply) r e = completes w again reply new (again_took (Ok reply) r)
    again_serves (Err code) r e = subst (Declines w again (code_number code)) (sym e.0) (again_stays w task room large below waited good (code_number code) e.1)

    pub again_leaves : (result : Result Reply Code) → Stays result → IfOk result (λ reply. FreesSlot w task waited large reply new) → LeavesSpares w again result new
    again_leaves (Ok reply) e f = again_spares w task waited room large reply new f
    again_leaves (Err code) e f = refused_spares _ _ _ _ (keeps_same w new e.0)

    pub again_keeps : (result : Result Reply Code) → Stays result → IfOk result (λ reply. TakesInTurn w waited large reply new) → KeepsTurns w again (told_by result) new
    again_keeps (Ok reply) e t = again_turns w task waited room large reply new t
    again_keeps (Err code) e t = e.0

    pub again_tells : (stands : Stands w) (old told : Change) (result : Result Reply Code) → Received result → old ≡ Nothing → IfOk result (λ reply. told ≡ with_message task reply (by_length w large ready reply old)) → IfOk result (λ reply. told ≡ by_receipt w task large (source w again) reply)
    again_tells stands old told (Ok reply) r none is = told_so stands reply old told r none is
    again_tells stands old told (Err code) r none is = tt

  module _ (name : ℕ) (found : option_and_then waited_at (entry_at w task name) ≡ Some waited) where
    abbrev named : Event
    named = Event.Receive task name room large

    pub named_took : Sources w task name waited → (result : Result Reply Code) → Received result → IfOk result (λ reply. CompletesInTurn w named reply new)
    named_took x (Ok reply) r = named_received w task room large below name waited x ready reply new found first has r
    named_took x (Err code) r = tt

    pub named_serves : Sources w task name waited → (result : Result Reply Code) → Received result → Stays result → Serves w named result new
    named_serves x (Ok reply) r e = completes w named reply new (named_took x (Ok reply) r)
    named_serves x (Err code) r e = subst (Declines w named (code_number code)) (sym e.0) (named_stays w task room large below name waited x (code_number code) e.1)

    pub named_wants : (code : ℕ) (result : Result Reply Code) → IfErr result (λ c. code_number c ≡ code → WantsToTake w task waited) → IfErr result (λ c. code_number c ≡ code → WantsMemory w named)
    named_wants code (Ok reply) h = tt
    named_wants code (Err c) h = λ e. (waited, found, h e)

    pub named_leaves : (result : Result Reply Code) → Stays result → IfOk result (λ reply. FreesSlot w task waited large reply new) → LeavesSpares w named result new
    named_leaves (Ok reply) e f = named_spares w task name room large reply new waited found f
    named_leaves (Err code) e f = refused_spares _ _ _ _ (keeps_same w new e.0)

    pub named_keeps : (result : Result Reply Code) → Stays result → IfOk result (λ reply. TakesInTurn w waited large reply new) → KeepsTurns w named (told_by result) new
    named_keeps (Ok reply) e t = named_turns w task name room large waited reply new found t
    named_keeps (Err code) e t = e.0

    pub named_tells : (stands : Stands w) (old told : Change) (result : Result Reply Code) → Received result → old ≡ Nothing → IfOk result (λ reply. told ≡ with_message task reply (by_length w large ready reply old)) → IfOk result (λ reply. told ≡ by_receipt w task large (source w named) reply)
    named_tells stands old told (Ok reply) r none is = told_so stands reply old told r none is ∙ ap (λ (o : Option ℕ). by_receipt w task large o reply) (sym (ap (option_and_then (source_of w)) found))
    named_tells stands old told (Err code) r none is = tt
