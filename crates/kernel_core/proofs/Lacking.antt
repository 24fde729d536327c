-- Where want of memory may refuse a call, and where it never may: kernel calls and sends.
use Rattle.std.proofs.Common.{◌≡◌, ◌≢◌, ℕ, List, [], ◌∷◌, Result, Ok, Err, Bool, true, false, refl, sym, subst, ◌⊎◌, inl, inr, IfOk, IfErr, arith}
use Rattle.std.specs.Prelude.{OnOk, is_ok, MatchBool}
use Rattle.mach_types.specs.declared.calls.Event.{Event}
use Rattle.mach_types.specs.declared.calls.Waited.{Waited}
use Rattle.mach_types.specs.declared.codes.KernReturn.{KernReturn}
use Rattle.mach_types.specs.declared.codes.KernReturn.TheVariants.{ResourceShortage}
use Rattle.mach_types.specs.declared.codes.MsgReturn.{MsgReturn}
use Rattle.mach_types.specs.declared.codes.MsgReturn.TheVariants.{SendNoBuffer}
use Rattle.mach_types.specs.Guards.{Guards, FirstIs, NoneHolds}
use Rattle.mach_types.specs.Grammar.{Header, WireBody, Spells}
use Rattle.mach_types.specs.Codes.{kern_number, msg_number}
use Rattle.mach_types.specs.TextGuards.{header_guards, item_guards, TextRefuses, ItemsRefuse}
use Rattle.mach_types.specs.Tokens.{in_task}
use Rattle.mach_model.specs.State.{State}
use Rattle.mach_model.specs.SendRefusals.{SendRefuses}
use Rattle.mach_model.specs.TransferRefusals.{extracted_guards, inserted_guards}
use Rattle.mach_model.specs.Refusals.{RefusesLater, IsOneDead, guards, call_guards, tasks_of}
use Rattle.mach_laws.proofs.Refusals.{itself, none_is_first, inserted_same, extracted_same, hand_short}
use Rattle.mach_laws.proofs.Deciding.{request_short}
use Rattle.message_codec.specs.declared.text.Parsed.{Parsed}
use Rattle.message_codec.specs.Parses.{Parses, IsCrowded}
use Rattle.copyin.proofs.Planning.{good_header, none_first}
use Rattle.copyin_base.specs.Serving.{Declines, AreTasks, HasTasks, IsRefused, IsAllowed}
use Rattle.copyin_base.specs.Shows.{Agrees, Shows}
use Rattle.copyin_base.specs.Worlds.{WorldView}
use Rattle.copyin_base.proofs.Acting.{tasks_live}
use Rattle.copyin_base.proofs.Told.{past_tasks}
use Rattle.kernel_core.specs.MemoryCodes.{MayRefuse, NeverRefuses, TellsWant, IsMessage}
use Rattle.copyin_base.specs.Worlds.{HasTask}
use Rattle.transfer.specs.Transfer.{MayInsert, MayExtract, going_from}
use Rattle.kernel_core.specs.Wanted.{memory_code}
use Rattle.transfer.specs.declared.judge.Handed.{Handed}
use Rattle.transfer.specs.declared.judge.TaskName.{TaskName}
use Rattle.transfer.proofs.Results.{of_ok, of_err}
use Rattle.transfer.proofs.Transferring.{insert_short, extract_short}

-- ---- no guard that is judged in the state before has the code for want of memory

abbrev NoneHas : (code : ℕ) → Guards → Type 0
NoneHas code [] = Unit {0}
NoneHas code (g ∷ gs) = (g.1 ≢ code) × NoneHas code gs

not_first : (gs : Guards) (code : ℕ) → NoneHas code gs → FirstIs gs code → ⊥
not_first [] code none first = first
not_first (g ∷ gs) code none (inl h) = none.0 (sym h.1)
not_first (g ∷ gs) code none (inr h) = not_first gs code none.1 h.1

none_has : (s : State) (event : Event) → NoneHas (memory_code event) (guards s event)
none_has s Event.TaskCreate = ((λ e. omega (arith, e)), ((λ e. omega (arith, e)), tt))
none_has s (Event.TaskTerminate task) = ((λ e. omega (arith, e)), tt)
none_has s (Event.Allocate task right) = ((λ e. omega (arith, e)), ((λ e. omega (arith, e)), ((λ e. omega (arith, e)), tt)))
none_has s (Event.AllocateName task right name) = ((λ e. omega (arith, e)), ((λ e. omega (arith, e)), ((λ e. omega (arith, e)), ((λ e. omega (arith, e)), tt))))
none_has s (Event.Deallocate task name) = ((λ e. omega (arith, e)), ((λ e. omega (arith, e)), ((λ e. omega (arith, e)), tt)))
none_has s (Event.Destroy task name) = ((λ e. omega (arith, e)), ((λ e. omega (arith, e)), tt))
none_has s (Event.ModRefs task name right delta) =
    ((λ e. omega (arith, e)), ((λ e. omega (arith, e)), ((λ e. omega (arith, e)), ((λ e. omega (arith, e)), ((λ e. omega (arith, e)), ((λ e. omega (arith, e)), ((λ e. omega (arith, e)), tt)))))))
none_has s (Event.GetRefs task name right) = ((λ e. omega (arith, e)), ((λ e. omega (arith, e)), ((λ e. omega (arith, e)), tt)))
none_has s (Event.NameType task name) = ((λ e. omega (arith, e)), ((λ e. omega (arith, e)), tt))
none_has s (Event.Names task) = ((λ e. omega (arith, e)), tt)
none_has s (Event.Rename task o n) = ((λ e. omega (arith, e)), ((λ e. omega (arith, e)), ((λ e. omega (arith, e)), ((λ e. omega (arith, e)), tt))))
none_has s (Event.ReceiveStatus task name) = ((λ e. omega (arith, e)), ((λ e. omega (arith, e)), ((λ e. omega (arith, e)), tt)))
none_has s (Event.SetQlimit task name n) = ((λ e. omega (arith, e)), ((λ e. omega (arith, e)), ((λ e. omega (arith, e)), ((λ e. omega (arith, e)), tt))))
none_has s (Event.SetMscount task name n) = ((λ e. omega (arith, e)), ((λ e. omega (arith, e)), ((λ e. omega (arith, e)), tt)))
none_has s (Event.SetSeqno task name n) = ((λ e. omega (arith, e)), ((λ e. omega (arith, e)), ((λ e. omega (arith, e)), tt)))
none_has s (Event.SetStatus task name) = ((λ e. omega (arith, e)), ((λ e. omega (arith, e)), ((λ e. omega (arith, e)), tt)))
none_has s (Event.MoveMember task member after) = ((λ e. omega (arith, e)), ((λ e. omega (arith, e)), ((λ e. omega (arith, e)), ((λ e. omega (arith, e)), tt))))
none_has s (Event.InsertMember task member set) =
    ((λ e. omega (arith, e)), ((λ e. omega (arith, e)), ((λ e. omega (arith, e)), ((λ e. omega (arith, e)), ((λ e. omega (arith, e)), tt)))))
none_has s (Event.ExtractMember task member set) =
    ((λ e. omega (arith, e)), ((λ e. omega (arith, e)), ((λ e. omega (arith, e)), ((λ e. omega (arith, e)), ((λ e. omega (arith, e)), tt)))))
none_has s (Event.InsertRight task name from poly number) =
    ((λ e. omega (arith, e)), ((λ e. omega (arith, e)), ((λ e. omega (arith, e)), ((λ e. omega (arith, e)), ((λ e. omega (arith, e)), tt)))))
none_has s (Event.ExtractRight task name number to) = ((λ e. omega (arith, e)), ((λ e. omega (arith, e)), ((λ e. omega (arith, e)), ((λ e. omega (arith, e)), tt))))
none_has s (Event.RequestNotification task name variant sync notify number) = ((λ e. omega (arith, e)), ((λ e. omega (arith, e)), ((λ e. omega (arith, e)), tt)))
none_has s (Event.Send task bytes) = ((λ e. omega (arith, e)), ((λ e. omega (arith, e)), ((λ e. omega (arith, e)), ((λ e. omega (arith, e)), tt))))
none_has s (Event.Receive task name room large) = ((λ e. omega (arith, e)), ((λ e. omega (arith, e)), ((λ e. omega (arith, e)), tt)))
none_has s (Event.ReceiveAgain task (Waited.Port p) room large) = ((λ e. omega (arith, e)), ((λ e. omega (arith, e)), ((λ e. omega (arith, e)), tt)))
none_has s (Event.ReceiveAgain task (Waited.Set set) room large) = ((λ e. omega (arith, e)), ((λ e. omega (arith, e)), ((λ e. omega (arith, e)), tt)))

pub no_guard : (s : State) (event : Event) → FirstIs (guards s event) (memory_code event) → ⊥
no_guard s event first = not_first (guards s event) (memory_code event) (none_has s event) first

-- ---- the tasks that an event names

all_there : (w : WorldView) (s : State) → Agrees w s → (tasks : List ℕ) → ¬ (AreTasks w tasks) → ¬ ¬ (IsOneDead s tasks)
all_there w s a [] none live = none tt
all_there w s a (task ∷ []) none live = live (past_tasks w s a task none)
all_there w s a (task ∷ other ∷ tasks) none live =
    all_there w s a (other ∷ tasks) (λ more. live (inl (past_tasks w s a task (λ one. none (one, more))))) (λ dead. live (inr dead))

-- ---- an event that is judged

module _ (w : WorldView) (event : Event) where
  -- one of its tasks doesn't live
  pub never_dead : ¬ (HasTasks w event) → NeverRefuses w event (memory_code event)
  never_dead none = record {
    never = λ s sh r. elim r [
      | inl first ↦ no_guard s event first
      | inr h ↦ all_there w s sh.agrees (tasks_of event) none h.0.0
    ];
  }

  -- a guard refuses it
  pub never_guarded : (code : ℕ) → IsRefused w (λ s. call_guards s event) code → NeverRefuses w event (memory_code event)
  never_guarded code refused = record {
    never = λ s sh r. elim r [
      | inl first ↦ no_guard s event first
      | inr h ↦ none_is_first (call_guards s event) (call_guards s event) code (itself (call_guards s event)) (refused.refused s sh) h.0.1
    ];
  }

  -- it is refused so by nothing that is judged later
  pub never_later : ((s : State) → Shows w s → NoneHolds (guards s event) → RefusesLater s event (memory_code event) → ⊥) → NeverRefuses w event (memory_code event)
  never_later not = record {
    never = λ s sh r. elim r [
      | inl first ↦ no_guard s event first
      | inr h ↦ not s sh h.0 h.1
    ];
  }

  -- it is refused otherwise, by a guard or by what is judged later
  pub never_declined : (code : ℕ) → Declines w event code w → ((s : State) → NoneHolds (guards s event) → RefusesLater s event code → RefusesLater s event (memory_code event) → ⊥) →
      NeverRefuses w event (memory_code event)
  never_declined code declines not = never_later (λ s sh good later. elim (declines.refuses s sh) [
    | inl first ↦ none_is_first (guards s event) (guards s event) code (itself (guards s event)) first good
    | inr h ↦ not s good h.1 later
  ])

  -- no guard refuses it, and want of memory may
  pub may_lack : HasTasks w event → IsAllowed w (λ s. call_guards s event) → ((s : State) → RefusesLater s event (memory_code event)) → MayRefuse w event (memory_code event)
  may_lack tasks good later = record { refuses = λ s sh. inr ((tasks_live w s sh.agrees event tasks, good.allowed s sh), later s) }

  pub may_declined : Declines w event (memory_code event) w → MayRefuse w event (memory_code event)
  may_declined declines = record { refuses = declines.refuses }

-- what is told of a call that is refused by guards alone, but for want of memory
pub told_guarded : (w : WorldView) (event : Event) (judged : Result (Unit {0}) KernReturn) (b : Bool) → HasTasks w event → ((s : State) → RefusesLater s event (memory_code event)) →
    OnOk judged (IsAllowed w (λ s. call_guards s event)) → IfErr judged (λ code. IsRefused w (λ s. call_guards s event) (kern_number code)) → b ≡ is_ok judged → TellsWant w event b
told_guarded w event (Ok x) true tasks later ok err is = may_lack w event tasks ok later
told_guarded w event (Err code) false tasks later ok err is = never_guarded w event (kern_number code) err
told_guarded w event (Ok x) false tasks later ok err is = absurd (cc)
told_guarded w event (Err code) true tasks later ok err is = absurd (cc)

-- ---- rights that are handed on, and requests

module _ (w : WorldView) where
  pub never_inserted : (task name from poly number code : ℕ) → Declines w (Event.InsertRight task name from poly number) code w → code ≢ kern_number ResourceShortage →
      NeverRefuses w (Event.InsertRight task name from poly number) (kern_number ResourceShortage)
  never_inserted task name from poly number code declines other = never_declined w (Event.InsertRight task name from poly number) code declines (λ s good later short.
      hand_short from (in_task task) number poly s (λ p kind copied. inserted_guards copied task name p kind) (λ x y r p kind. inserted_same x y r task name p kind) code later other short)

  pub never_extracted : (task name number to code : ℕ) → Declines w (Event.ExtractRight task name number to) code w → code ≢ kern_number ResourceShortage →
      NeverRefuses w (Event.ExtractRight task name number to) (kern_number ResourceShortage)
  never_extracted task name number to code declines other = never_declined w (Event.ExtractRight task name number to) code declines (λ s good later short.
      hand_short task (in_task to) number name s (λ p kind copied. extracted_guards copied to p kind) (λ x y r p kind. extracted_same x y r to p kind) code later other short)

  pub never_requested : (task name variant sync notify number code : ℕ) → Declines w (Event.RequestNotification task name variant sync notify number) code w → code ≢ kern_number ResourceShortage →
      NeverRefuses w (Event.RequestNotification task name variant sync notify number) (kern_number ResourceShortage)
  never_requested task name variant sync notify number code declines other = never_declined w (Event.RequestNotification task name variant sync notify number) code declines (λ s good later short.
      request_short s task name variant sync notify number good.1 code later other short)

  -- what is told of them, by a judgement
  pub told_insert : (to from : TaskName) (number : ℕ) (judged : Result Handed KernReturn) (b : Bool) → (HasTask w to.task) × (HasTask w from.task) → IfOk judged (λ handed. MayInsert w to from number handed) →
      IfErr judged (λ code. Declines w (Event.InsertRight to.task to.name from.task from.name number) (kern_number code) w) → IfErr judged (λ code. kern_number code ≢ kern_number ResourceShortage) → b ≡ is_ok judged →
      TellsWant w (Event.InsertRight to.task to.name from.task from.name number) b
  told_insert to from number (Ok handed) true tasks may err early is =
      may_declined w (Event.InsertRight to.task to.name from.task from.name number) (insert_short w to.task number (going_from from handed may.left) may.goes tasks.0 to.name may.to_named may.from_named tasks may.unrefused)
  told_insert to from number (Err code) false tasks ok err early is = never_inserted to.task to.name from.task from.name number (kern_number code) err early
  told_insert to from number (Ok handed) false tasks may err early is = absurd (cc)
  told_insert to from number (Err code) true tasks ok err early is = absurd (cc)

  pub told_extract : (from : TaskName) (number to : ℕ) (judged : Result Handed KernReturn) (b : Bool) → (HasTask w from.task) × (HasTask w to) → IfOk judged (λ handed. MayExtract w from number to handed) →
      IfErr judged (λ code. Declines w (Event.ExtractRight from.task from.name number to) (kern_number code) w) → IfErr judged (λ code. kern_number code ≢ kern_number ResourceShortage) → b ≡ is_ok judged →
      TellsWant w (Event.ExtractRight from.task from.name number to) b
  told_extract from number to (Ok handed) true tasks may err early is =
      may_declined w (Event.ExtractRight from.task from.name number to) (extract_short w to number (going_from from handed may.left) may.goes tasks.1 tasks may.unrefused)
  told_extract from number to (Err code) false tasks ok err early is = never_extracted from.task from.name number to (kern_number code) err early
  told_extract from number to (Ok handed) false tasks may err early is = absurd (cc)
  told_extract from number to (Err code) true tasks ok err early is = absurd (cc)

  pub told_request : (task name variant sync notify number : ℕ) (judged : Result (Unit {0}) KernReturn) (b : Bool) → OnOk judged (Declines w (Event.RequestNotification task name variant sync notify number) (kern_number ResourceShortage) w) →
      IfErr judged (λ code. Declines w (Event.RequestNotification task name variant sync notify number) (kern_number code) w) → IfErr judged (λ code. kern_number code ≢ kern_number ResourceShortage) → b ≡ is_ok judged →
      TellsWant w (Event.RequestNotification task name variant sync notify number) b
  told_request task name variant sync notify number (Ok x) true ok err early is = may_declined w (Event.RequestNotification task name variant sync notify number) ok
  told_request task name variant sync notify number (Err code) false ok err early is = never_requested task name variant sync notify number (kern_number code) err early
  told_request task name variant sync notify number (Ok x) false ok err early is = absurd (cc)
  told_request task name variant sync notify number (Err code) true ok err early is = absurd (cc)

-- ---- sends

-- a message has no fault that the code for want of memory tells
no_items : (bytes : List ℕ) → ItemsRefuse bytes (msg_number SendNoBuffer) → ⊥
no_items bytes h =
    let i = h.refused in
    not_first (item_guards h.rest i.name i.size i.number i.before) (msg_number SendNoBuffer) ((λ e. omega (arith, e)), ((λ e. omega (arith, e)), ((λ e. omega (arith, e)), tt))) i.refused

no_text : (bytes : List ℕ) → TextRefuses bytes (msg_number SendNoBuffer) → ⊥
no_text bytes (inl first) = not_first (header_guards bytes) (msg_number SendNoBuffer) ((λ e. omega (arith, e)), ((λ e. omega (arith, e)), ((λ e. omega (arith, e)), tt))) first
no_text bytes (inr h) = no_items _ h.2

pub parsed_message : (bytes : List ℕ) (parsed : Parsed) → Parses bytes parsed → IsMessage bytes
parsed_message bytes parsed text = record { good = good_header bytes parsed text; header = text.header; written = text.written; spells = text.message.spells }

-- that memory was refused to read it says that it is one
pub crowded_message : (bytes : List ℕ) (code : MsgReturn) → (TextRefuses bytes (msg_number code) ⊎ (code ≡ SendNoBuffer) × IsCrowded bytes) → code ≡ SendNoBuffer → IsMessage bytes
crowded_message bytes code (inl h) is = absurd (no_text bytes (subst (λ (c : MsgReturn). TextRefuses bytes (msg_number c)) is h))
crowded_message bytes code (inr (e, text)) is =
    record { good = none_first (header_guards bytes) (λ c first. text.message.unrefused c (inl first)); header = text.header; written = text.written; spells = text.message.spells }

-- what is told of the bytes, by what was read of them
module _ (bytes : List ℕ) (read : Result Parsed MsgReturn) where
  pub message_ok : IfOk read (λ parsed. Parses bytes parsed) → (parsed : Parsed) → read ≡ Ok parsed → IsMessage bytes
  message_ok ok parsed is = parsed_message bytes parsed (of_ok read (λ (p : Parsed). Parses bytes p) parsed is ok)

  pub message_short : IfErr read (λ code. TextRefuses bytes (msg_number code) ⊎ (code ≡ SendNoBuffer) × IsCrowded bytes) → (code : MsgReturn) → read ≡ Err code → code ≡ SendNoBuffer → IsMessage bytes
  message_short err code is short = crowded_message bytes code (of_err read (λ (c : MsgReturn). TextRefuses bytes (msg_number c) ⊎ (c ≡ SendNoBuffer) × IsCrowded bytes) code is err) short

  pub message_not : ((header : Header) (written : WireBody) → Spells bytes header written → NoneHolds (header_guards bytes) → IfErr read (λ code. (code ≡ SendNoBuffer) × IsCrowded bytes)) →
      (code : MsgReturn) → read ≡ Err code → code ≢ SendNoBuffer → ¬ (IsMessage bytes)
  message_not whole code is other m = other (of_err read (λ (c : MsgReturn). (c ≡ SendNoBuffer) × IsCrowded bytes) code is (whole m.header m.written m.spells m.good)).0

module _ (w : WorldView) (task : ℕ) (bytes : List ℕ) where
  pub may_send : HasTasks w (Event.Send task bytes) → IsMessage bytes → MayRefuse w (Event.Send task bytes) (msg_number SendNoBuffer)
  may_send tasks m = record { refuses = λ s sh. inr ((tasks_live w s sh.agrees (Event.Send task bytes) tasks, m.good), inr (m.header, m.written, m.spells, inl refl)) }

  pub never_sent : ¬ (IsMessage bytes) → NeverRefuses w (Event.Send task bytes) (msg_number SendNoBuffer)
  never_sent not = never_later w (Event.Send task bytes) (λ s sh good later. go s good.1 later)
    where
      go : (s : State) → NoneHolds (header_guards bytes) → SendRefuses s task bytes (msg_number SendNoBuffer) → ⊥
      go s good (inl h) = no_items _ h.1
      go s good (inr (header, written, spells, h)) = not record { good = good; header = header; written = written; spells = spells }

  pub told_sent : (b : Bool) → HasTasks w (Event.Send task bytes) → MatchBool b (IsMessage bytes) (¬ (IsMessage bytes)) → TellsWant w (Event.Send task bytes) b
  told_sent true tasks m = may_send tasks m
  told_sent false tasks not = never_sent not
