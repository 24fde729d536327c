-- Entries that are confirmed one after another.
use Rattle.std.proofs.Common.{◌≡◌, ℕ, ◌+◌, ◌<◌, List, [], ◌∷◌, ◌++◌, All, Option, Some, None, flat_map, inl, refl, sym, ap, ◌∙◌, subst, arith, append_assoc, length, take, drop, get_or}
use Rattle.std.proofs.lemmas.List.{take_more, take-append-drop, length-take-le}
use Rattle.mach_types.specs.declared.profiles.Profile.{Profile}
use Rattle.mach_types.specs.declared.calls.Event.{Event}
use Rattle.mach_types.specs.declared.calls.Reply.{Reply}
use Rattle.mach_model.specs.State.{State, opening_in}
use Rattle.mach_model.proofs.Failing.{refusal_fails}
use Rattle.copyin_base.specs.Shows.{Shows}
use Rattle.kernel_core.specs.Answers.{Answers}
use Rattle.kernel_core.specs.Kernels.{KernelView}
use Rattle.kernel_core.specs.Limits.{PassesLimit}
use Rattle.kernel_core.specs.MemoryCodes.{TellsMemoryCode}
use Rattle.kernel_core.specs.Wanted.{memory_code}
use Rattle.kernel_lock.specs.declared.entry.Entry.{Entry}
use Rattle.kernel_lock.specs.Replays.{Replays}
use Rattle.kernel_lock.proofs.Replaying.{legal_of, replays_push}
use Rattle.tracer.specs.Checks.{AnswersOtherwise, IsNoWant, IsRefusal, IsUnconfirmed, MayLackMemory}
use Rattle.tracer.specs.Histories.{heading, entry_line, history_text, FitsLine, IsFirstBadLine, HasBadEntry}
use Rattle.tracer.proofs.EntryLemmas.{next_line, behind}

-- a refusal is answered, and the state stays
pub refusal-answers : (kernel : KernelView) (event : Event) (reply : Reply) → IsRefusal kernel event reply → Answers kernel.tables event reply kernel.tables
refusal-answers kernel event reply r = λ now s shown. (s, inl (record { declined = record { code = r.code; failed = refusal_fails s event r.code (r.refuses s shown); told = r.told; same = refl }; refuses = r.refuses s shown }), shown)

-- no code tells of want of memory that is 0
some_code : (event : Event) → memory_code event ≡ 0 → ⊥
some_code Event.TaskCreate is = absurd (omega (arith, is))
some_code (Event.TaskTerminate a) is = absurd (omega (arith, is))
some_code (Event.Allocate a b) is = absurd (omega (arith, is))
some_code (Event.AllocateName a b d) is = absurd (omega (arith, is))
some_code (Event.Deallocate a b) is = absurd (omega (arith, is))
some_code (Event.Destroy a b) is = absurd (omega (arith, is))
some_code (Event.ModRefs a b d e) is = absurd (omega (arith, is))
some_code (Event.GetRefs a b d) is = absurd (omega (arith, is))
some_code (Event.NameType a b) is = absurd (omega (arith, is))
some_code (Event.Names a) is = absurd (omega (arith, is))
some_code (Event.Rename a b d) is = absurd (omega (arith, is))
some_code (Event.ReceiveStatus a b) is = absurd (omega (arith, is))
some_code (Event.SetQlimit a b d) is = absurd (omega (arith, is))
some_code (Event.SetMscount a b d) is = absurd (omega (arith, is))
some_code (Event.SetSeqno a b d) is = absurd (omega (arith, is))
some_code (Event.SetStatus a b) is = absurd (omega (arith, is))
some_code (Event.MoveMember a b d) is = absurd (omega (arith, is))
some_code (Event.InsertMember a b d) is = absurd (omega (arith, is))
some_code (Event.ExtractMember a b d) is = absurd (omega (arith, is))
some_code (Event.InsertRight a b d e f) is = absurd (omega (arith, is))
some_code (Event.ExtractRight a b d e) is = absurd (omega (arith, is))
some_code (Event.RequestNotification a b d e f g) is = absurd (omega (arith, is))
some_code (Event.Send a b) is = absurd (omega (arith, is))
some_code (Event.Receive a b d e) is = absurd (omega (arith, is))
some_code (Event.ReceiveAgain a b d e) is = absurd (omega (arith, is))

-- a reply that is no code is no refusal
pub no_want_else : (kernel : KernelView) (event : Event) (reply : Reply) → ((code : ℕ) → reply ≡ Reply.Code code → ⊥) → IsNoWant kernel event reply
no_want_else kernel event reply else = record { never = λ s shown told refuses. else (memory_code event) told }

code_zero : (n : ℕ) → Reply.Code 0 ≡ Reply.Code n → n ≡ 0
code_zero n same = cc

-- nor is code 0
pub no_want_zero : (kernel : KernelView) (event : Event) (reply : Reply) → reply ≡ Reply.Code 0 → IsNoWant kernel event reply
no_want_zero kernel event reply is = record { never = λ s shown told refuses. some_code event (code_zero (memory_code event) (sym is ∙ told)) }

same_code : (m n : ℕ) → Reply.Code m ≡ Reply.Code n → m ≡ n
same_code m n same = cc

-- nor one that isn't the code that is told for the event
pub no_want_told : (kernel : KernelView) (event : Event) (reply : Reply) (code : ℕ) (found : Option ℕ) → reply ≡ Reply.Code code → TellsMemoryCode kernel.tables event found → (found ≡ Some code → ⊥)
    → IsNoWant kernel event reply
no_want_told kernel event reply code (Some other) is told apart =
    record { never = λ s shown same refuses. apart (ap Some (told.0 ∙ sym (same_code code (memory_code event) (sym is ∙ same)))) }
no_want_told kernel event reply code None is told apart = record { never = λ s shown same refuses. told.never s shown refuses }

-- a new kernel of the profile shows what no entry leads to
pub replays-none : (profile : Profile) (kernel : KernelView) → Shows kernel.tables (opening_in profile) → Replays profile [] kernel
replays-none profile kernel shown = record { state = opening_in profile; leads = refl; shown = shown }

-- one more entry was confirmed, of those up to a place
pub replays-at : (profile : Profile) (entries : List Entry) (i : ℕ) (e : Entry) (old new : KernelView) → i < length entries → get_or entries i e ≡ e → Replays profile (take i entries) old
    → Answers old.tables e.event e.reply new.tables → Replays profile (take (i + 1) entries) new
replays-at profile entries i e old new low here so_far step =
    let more : take (i + 1) entries ≡ take i entries ++ e ∷ [] = take_more entries i e low ∙ ap (λ (x : Entry). take i entries ++ x ∷ []) here in
    subst (λ (log : List Entry). Replays profile log new) (sym more) (replays_push profile (take i entries) old new e so_far step)

-- the entry at a place isn't confirmed
pub unconfirmed-at : (profile : Profile) (entries : List Entry) (i n : ℕ) (e : Entry) (kernel : KernelView) → i < length entries → get_or entries i e ≡ e → i + 1 ≡ n
    → Replays profile (take i entries) kernel → AnswersOtherwise kernel e.event e.reply → IsUnconfirmed profile entries n
unconfirmed-at profile entries i n e kernel low here number so_far otherwise =
    let more : take (i + 1) entries ≡ take i entries ++ e ∷ [] = take_more entries i e low ∙ ap (λ (x : Entry). take i entries ++ x ∷ []) here in
    let long : length (take i entries) ≡ i = length-take-le i entries (omega (arith, low)) in
    record {
      before = take i entries;
      entry = e;
      behind = drop (i + 1) entries;
      parts = sym (append_assoc (take i entries) (e ∷ []) (drop (i + 1) entries)) ∙ ap (λ (l : List Entry). l ++ drop (i + 1) entries) (sym more) ∙ take-append-drop (i + 1) entries;
      number = omega (arith, long, number);
      legal = legal_of profile (take i entries) kernel so_far;
      kernel = kernel;
      replays = so_far;
      otherwise = otherwise;
    }

-- the entry at a place may lack memory
pub lacking-at : (profile : Profile) (entries : List Entry) (i : ℕ) (e : Entry) (kernel : KernelView) → i < length entries → get_or entries i e ≡ e → Replays profile (take i entries) kernel
    → ((s : State) → Shows kernel.tables s → ¬ (PassesLimit s e.event)) → MayLackMemory profile entries
lacking-at profile entries i e kernel low here so_far room =
    let more : take (i + 1) entries ≡ take i entries ++ e ∷ [] = take_more entries i e low ∙ ap (λ (x : Entry). take i entries ++ x ∷ []) here in
    record {
      before = take i entries;
      entry = e;
      behind = drop (i + 1) entries;
      parts = sym (append_assoc (take i entries) (e ∷ []) (drop (i + 1) entries)) ∙ ap (λ (l : List Entry). l ++ drop (i + 1) entries) (sym more) ∙ take-append-drop (i + 1) entries;
      state = so_far.state;
      leads = so_far.leads;
      room = room so_far.state so_far.shown;
    }

-- the last entry isn't confirmed
pub unconfirmed-last : (profile : Profile) (before : List Entry) (e : Entry) (n : ℕ) (kernel : KernelView) → length before + 1 ≡ n → Replays profile before kernel
    → AnswersOtherwise kernel e.event e.reply → IsUnconfirmed profile (before ++ e ∷ []) n
unconfirmed-last profile before e n kernel number so_far otherwise = record {
  before = before;
  entry = e;
  behind = [];
  parts = refl;
  number = number;
  legal = legal_of profile before kernel so_far;
  kernel = kernel;
  replays = so_far;
  otherwise = otherwise;
}

-- there is one entry more behind one that isn't confirmed
pub unconfirmed-more : (profile : Profile) (entries : List Entry) (e : Entry) (n : ℕ) → IsUnconfirmed profile entries n → IsUnconfirmed profile (entries ++ e ∷ []) n
unconfirmed-more profile entries e n u = record {
  before = u.before;
  entry = u.entry;
  behind = u.behind ++ e ∷ [];
  parts = sym (append_assoc u.before (u.entry ∷ u.behind) (e ∷ [])) ∙ ap (λ (l : List Entry). l ++ e ∷ []) u.parts;
  number = u.number;
  legal = u.legal;
  kernel = u.kernel;
  replays = u.replays;
  otherwise = u.otherwise;
}

some_left : (rest : List ℕ) → rest ≡ [] → 0 < length rest → ⊥
some_left rest none some = let long = ap length none in absurd (omega (arith, long, some))

-- the text of a history has no bad line
no-bad-entry : (profile : Profile) (entries : List Entry) (text : List ℕ) (n : ℕ) → All FitsLine entries → history_text profile entries ≡ text → HasBadEntry text n → ⊥
no-bad-entry profile entries text n fit same bad =
    next_line bad.entries entries bad.rest bad.fit fit (behind bad.profile profile _ _ (sym (append_assoc (heading bad.profile) (flat_map entry_line bad.entries) bad.rest) ∙ bad.parts ∙ sym same)).1 (λ none. some_left bad.rest none bad.some) bad.bad

pub no-bad-line : (profile : Profile) (entries : List Entry) (text : List ℕ) (n : ℕ) → All FitsLine entries → history_text profile entries ≡ text → IsFirstBadLine text n → ⊥
no-bad-line profile entries text n fit same (IsFirstBadLine.no_heading first none) = none profile (flat_map entry_line entries) same
no-bad-line profile entries text n fit same (IsFirstBadLine.no_entry bad) = no-bad-entry profile entries text n fit same bad
