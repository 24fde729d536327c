-- A history whose callers are a script's, and which all of their passes have seen, is that of the script's calls.
use Rattle.std.proofs.Common.{◌≡◌, ℕ, ◌+◌, ◌≤◌, List, [], ◌∷◌, ◌++◌, length, map, All, refl, sym, ap, ◌∙◌, subst, arith, append_assoc, eq-eqb}
use Rattle.std.proofs.lemmas.List.Elements.{All-head, All-tail, All-map, All-append}
use Rattle.mach_types.specs.declared.profiles.Profile.{Profile}
use Rattle.kernel_lock.specs.declared.entry.Entry.{Entry}
use Rattle.kernel_lock.specs.History.{Known, keep_if, calls_by}
use Rattle.mach_msg_threads.specs.declared.block.Answer.{Answer}
use Rattle.mach_msg_threads.specs.declared.block.Call.{Call}
use Rattle.mach_msg_threads.proofs.Rows.{ran_append}
use Rattle.mach_run_base.specs.declared.script.Script.{Script}
use Rattle.mach_run_base.specs.declared.script.ThreadCalls.{ThreadCalls}
use Rattle.mach_run_base.specs.Callers.{IsRecorded, SeesAll, AreMadeBy, block_calls, IsOfScript}
use Rattle.mach_run_base.specs.Enrolling.{AreWhole}
use Rattle.mach_run_base.specs.Output.{AreBlocks, IsAnswered}

-- a history in which no caller has a call is empty
pub no_calls : (log : List Entry) → ((c : ℕ) → calls_by c log ≡ []) → log ≡ []
no_calls [] none = refl
no_calls (e ∷ es) none = absurd (there (sym (ap (λ b. keep_if b e (calls_by e.caller es)) (eq-eqb e.caller e.caller refl)) ∙ none e.caller))
  where
    there : e ∷ calls_by e.caller es ≡ [] → ⊥
    there same = cc

-- what one pass has seen of a history, and another, of the same caller, of what that one has seen
pub sees_through : (v w : Known) (log : List Entry) → w.caller ≡ v.caller → SeesAll v w.seen → SeesAll w log → SeesAll v log
sees_through v w log same first next = record {
  begins = (first.begins.0 ++ next.begins.0, next.begins.1 ∙ ap (λ l. l ++ next.begins.0) first.begins.1 ∙ append_assoc v.seen first.begins.0 next.begins.0);
  own = subst (λ (c : ℕ). calls_by c log ≡ calls_by c w.seen) same next.own ∙ first.own;
}

made_by : (profile : Profile) (log start : List Entry) (c : ℕ) (blocks : List ThreadCalls) (text : List ℕ) (ws : List Known) → AreBlocks profile start c blocks text ws → All (λ w. SeesAll w log) ws
    → ((d : ℕ) → length ws + c ≤ d → calls_by d log ≡ []) → AreMadeBy log start c (map block_calls blocks)
made_by profile log start c [] text [] are all others = λ d above. others d (omega (arith, above))
made_by profile log start c [] text (w ∷ ws) are all others = absurd are
made_by profile log start c (b ∷ bs) text [] are all others = absurd are
made_by profile log start c (b ∷ bs) text (w ∷ ws) (first, rest, parts, is, more) all others = (
  (
    w,
    record {
      first = is.pass;
      number = is.number;
      begins = is.begins;
      none = is.none;
      answers = is.answers.answers;
      ran = is.answers.ran;
      recorded = is.answers.recorded;
      all = All-head (λ w. SeesAll w log) w ws all;
    },
  ),
  made_by profile log start (c + 1) bs rest ws more (All-tail (λ w. SeesAll w log) w ws all) (λ d above. others d (omega (arith, above))),
)

pub of_script : (profile : Profile) (log : List Entry) (script : Script) (text : List ℕ) (main : Known) (blocks : List Known) → IsAnswered profile script text main blocks → AreWhole log main blocks
    → IsOfScript log script
of_script profile log script text main blocks a whole = record {
  main = a.ended;
  first = record {
    first = a.pass;
    number = a.number;
    begins = a.begins;
    none = refl;
    answers = map Answer.Reply a.first.replies ++ a.next.answers;
    ran = ran_append a.pass a.opened a.ended (map Call.Event script.opening.items) script.main.items (map Answer.Reply a.first.replies) a.next.answers a.first.ran a.next.ran;
    recorded = All-append IsRecorded (map Answer.Reply a.first.replies) a.next.answers (All-map IsRecorded Answer.Reply a.first.replies a.first.recorded) a.next.recorded;
    all = sees_through a.ended main log a.same a.whole whole.first;
  };
  start = main.seen;
  behind = a.whole.begins;
  blocks = made_by profile log main.seen 1 script.blocks.items a.behind blocks a.last whole.all whole.others;
}
