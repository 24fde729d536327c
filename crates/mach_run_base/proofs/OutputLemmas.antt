-- What is written of calls, one more at a time.
use Rattle.std.proofs.Common.{◌≡◌, ◌≢◌, ℕ, ◌+◌, List, [], ◌∷◌, ◌++◌, length, map, Result, Ok, Err, OnOk, refl, sym, ap, ◌∙◌, subst, arith}
use mathlib.Core.List.{map-append}
use Rattle.std.proofs.lemmas.List.{length_push}
use Rattle.std.proofs.lemmas.List.Elements.{All-push}
use Rattle.mach_types.specs.declared.profiles.Profile.{Profile}
use Rattle.mach_types.specs.declared.calls.Event.{Event}
use Rattle.mach_types.specs.declared.calls.Reply.{Reply}
use Rattle.mach_model.specs.State.{opening_in}
use Rattle.kernel_lock.specs.declared.entry.Entry.{Entry}
use Rattle.kernel_lock.specs.History.{Known, Legal, Recorded, Stepped, entry}
use Rattle.kernel_lock.proofs.Lists.{called_of}
use Rattle.mach_msg_threads.specs.declared.block.Answer.{Answer}
use Rattle.mach_msg_threads.specs.declared.block.Call.{Call}
use Rattle.mach_msg_threads.specs.Blocks.{Answered, Ran}
use Rattle.mach_msg_threads.proofs.Callers.{ran_profile}
use Rattle.mach_msg_threads.proofs.Rows.{ran_more}
use Rattle.tracer_base.specs.Replies.{reply_line}
use Rattle.tracer_base.proofs.WordLemmas.{texts_push}
use Rattle.mach_run_base.specs.Callers.{IsRecorded}
use Rattle.mach_run_base.specs.Output.{entries_made, answer_line, AreReplies, AreAnswers}

-- ---- calls with the kernel in hand

recorded_of : (before after : List Entry) (v w : Known) (event : Event) (reply : Reply) → Stepped before after v w event reply → reply ≢ Reply.NoRecord → Recorded before after v w (entry v.caller event reply)
recorded_of before after v w event (Reply.Code a) step is = step
recorded_of before after v w event (Reply.Task a) step is = step
recorded_of before after v w event (Reply.Name a) step is = step
recorded_of before after v w event (Reply.Refs a) step is = step
recorded_of before after v w event (Reply.NameType a) step is = step
recorded_of before after v w event (Reply.Names a) step is = step
recorded_of before after v w event (Reply.Status a) step is = step
recorded_of before after v w event (Reply.Members a) step is = step
recorded_of before after v w event (Reply.Right a b) step is = step
recorded_of before after v w event (Reply.Previous a) step is = step
recorded_of before after v w event (Reply.Message a) step is = step
recorded_of before after v w event (Reply.Empty a) step is = step
recorded_of before after v w event (Reply.TooLarge a) step is = step
recorded_of before after v w event Reply.NoRecord step is = absurd (is refl)

entries_push : (caller : ℕ) (events : List Event) (replies : List Reply) (event : Event) (reply : Reply) → length replies ≡ length events
    → entries_made caller (events ++ event ∷ []) (replies ++ reply ∷ []) ≡ entries_made caller events replies ++ entry caller event reply ∷ []
entries_push caller [] [] event reply count = refl
entries_push caller [] (r ∷ replies) event reply count = absurd (omega (arith, count))
entries_push caller (e ∷ events) [] event reply count = absurd (omega (arith, count))
entries_push caller (e ∷ events) (r ∷ replies) event reply count = ap (λ t. entry caller e r ∷ t) (entries_push caller events replies event reply (omega (arith, count)))

none_legal : (profile : Profile) → Legal profile []
none_legal profile = record { state = opening_in profile; leads = refl }

-- no call was made
pub replies-none : (v : Known) → v.seen ≡ [] → AreReplies v [] [] v
replies-none v none = record {
  replies = [];
  count = refl;
  ran = refl;
  recorded = λ k d below. absurd (omega (arith, below));
  history = none;
  legal = subst (Legal v.profile) (sym none) (none_legal v.profile);
  lines = refl;
}

-- one more call was made
pub replies-more : (first : Known) (calls : List Event) (text : List ℕ) (before after : List Entry) (v w : Known) (event : Event) (reply : Reply) → AreReplies first calls text v → v.seen ≡ before
    → Stepped before after v w event reply → reply ≢ Reply.NoRecord → AreReplies first (calls ++ event ∷ []) (text ++ reply_line reply) w × (w.seen ≡ after)
replies-more first calls text before after v w event reply so_far seen step is =
    let made = recorded_of before after v w event reply step is in
    let count = so_far.count in
    let history : w.seen ≡ entries_made w.caller (calls ++ event ∷ []) (so_far.replies ++ reply ∷ []) =
    made.whole ∙ made.appended ∙ ap (λ t. t ++ entry v.caller event reply ∷ []) (sym seen ∙ so_far.history) ∙ sym (entries_push v.caller calls so_far.replies event reply count)
    ∙ ap (λ c. entries_made c (calls ++ event ∷ []) (so_far.replies ++ reply ∷ [])) (sym made.extends.caller) in
    let ran : Ran first (map Call.Event calls ++ Call.Event event ∷ []) (map Answer.Reply so_far.replies ++ Answer.Reply reply ∷ []) w =
    ran_more first v w (map Call.Event calls) (map Answer.Reply so_far.replies) (Call.Event event) (Answer.Reply reply) so_far.ran (called_of before after v w event reply step) in (
      record {
        replies = so_far.replies ++ reply ∷ [];
        count = length_push so_far.replies reply ∙ ap (λ n. n + 1) count ∙ sym (length_push calls event);
        ran = subst (λ (x : List Call × List Answer). Ran first x.0 x.1 w) (λ j. (sym (map-append Call.Event calls (event ∷ [])) j, sym (map-append Answer.Reply so_far.replies (reply ∷ [])) j)) ran;
        recorded = All-push (λ x. x ≢ Reply.NoRecord) so_far.replies reply so_far.recorded is;
        history = history;
        legal = subst (λ (profile : Profile). Legal profile w.seen) (ran_profile first _ _ v so_far.ran) made.extends.legal;
        lines = texts_push reply_line so_far.replies reply ∙ ap (λ t. t ++ reply_line reply) so_far.lines;
      },
      made.whole,
    )

-- ---- calls of a pass

pub answers-none : (v : Known) → AreAnswers v [] [] v
answers-none v = record { answers = []; ran = refl; recorded = λ k d below. absurd (omega (arith, below)); lines = refl }

pub answers-more : (v m w : Known) (calls : List Call) (text : List ℕ) (call : Call) (answer : Answer) → AreAnswers v calls text m → Answered call m answer w → IsRecorded answer
    → AreAnswers v (calls ++ call ∷ []) (text ++ answer_line answer) w
answers-more v m w calls text call answer so_far one is = record {
  answers = so_far.answers ++ answer ∷ [];
  ran = ran_more v m w calls so_far.answers call answer so_far.ran one;
  recorded = All-push IsRecorded so_far.answers answer so_far.recorded is;
  lines = texts_push answer_line so_far.answers answer ∙ ap (λ t. t ++ answer_line answer) so_far.lines;
}

-- what follows where all was done
pub on-ok : {A E P Q : Type 0} (r : Result A E) → (P → Q) → OnOk r P → OnOk r Q
on-ok (Ok a) f p = f p
on-ok (Err e) f p = tt
