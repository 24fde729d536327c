-- Histories read line by line, and judged.
use Rattle.std.proofs.Common.{◌≡◌, ◌≢◌, ℕ, ◌<◌, ◌≤◌, ◌+◌, Bool, true, false, cond, eqb, List, [], ◌∷◌, ◌++◌, All, Option, Some, None, IfSome, IfNone, Result, Ok, Err, IfOk, OnOk, IsErr, zero, suc, codes, length, refl, sym, ap, ◌∙◌, arith, append_assoc, append-nil, subst}
use Rattle.std.proofs.BufReadLemmas.{take_through-append, take_through_nonempty}
use Rattle.std.proofs.KnownBytes.{Consumes-trans, Consumes-whole}
use Rattle.std.specs.Io.BufRead.{take_through}
use Rattle.std.specs.Io.KnownBytes.{Appends, Consumes, IsAtEnd}
use Rattle.std.proofs.lemmas.List.Elements.{All-nil}
use Rattle.tracer_base.specs.Words.{Lacks, IsWord, line as line_of}
use Rattle.tracer_base.proofs.CallLemmas.{before}
use Rattle.tracer_base.proofs.WordLemmas.{IsWord-plain, Lacks-line}
use Rattle.mach_types.specs.declared.profiles.Profile.{Profile}
use Rattle.mach_types.specs.declared.profiles.Profile.TheVariants.{One, Two, Three}
use Rattle.mach_model.specs.State.{opening_in}
use Rattle.copyin_base.specs.Shows.{Shows}
use Rattle.kernel_lock.specs.Replays.{Replays}
use Rattle.kernel_lock.proofs.Replaying.{legal_of, replays_push}
use Rattle.kernel_lock.specs.declared.entry.Entry.{Entry}
use Rattle.tracer.specs.Histories.{heading_text, heading, entry_text, entry_line, history_text, FitsLine, HasNoHeading, StartsNoEntry, IsFirstBadLine}
use Rattle.tracer.proofs.EntryLemmas.{Lacks-entry_text, history_push}
use Rattle.tracer.proofs.CheckLemmas.{no-bad-line, replays-none, unconfirmed-last, unconfirmed-more}
use Rattle.tracer.specs.Checks.{AnswersOtherwise, IsUnconfirmed}
use Rattle.kernel_core.specs.Answers.{Answers}
use Rattle.mach_run_base.specs.declared.checking.Judge.{Judge}
use Rattle.mach_run_base.specs.declared.checking.Verdict.{Verdict}
use Rattle.mach_run_base.specs.Jobs.{IsChecked}
use Rattle.mach_run_base.specs.Verdicts.{IsTextOf, IsLegalText, IsVerdict, HasSeen, verdict_line, verdict_status}

-- the first line of a text, taken again, is itself
again : (byte : ℕ) (text : List ℕ) → take_through byte (take_through byte text) ≡ take_through byte text
again byte [] = refl
again byte (x ∷ xs) = at (eqb x byte) refl (again byte xs)
  where
    at : (b : Bool) → eqb x byte ≡ b → take_through byte (take_through byte xs) ≡ take_through byte xs → take_through byte (cond b (x ∷ []) (x ∷ take_through byte xs)) ≡ cond b (x ∷ []) (x ∷ take_through byte xs)
    at true is rest = ap (λ b. cond b (x ∷ []) (x ∷ take_through byte [])) is
    at false is rest = ap (λ b. cond b (x ∷ []) (x ∷ take_through byte (take_through byte xs))) is ∙ ap (λ l. x ∷ l) rest

-- a text without line feeds, and one behind it, are the first line of what they begin
first : (text rest : List ℕ) → Lacks 10 text → take_through 10 ((text ++ 10 ∷ []) ++ rest) ≡ text ++ 10 ∷ []
first text rest lacks = ap (take_through 10) (append_assoc text (10 ∷ []) rest) ∙ take_through-append 10 text (10 ∷ rest) lacks

-- what begins a first line, and ends in a line feed, is all of it
whole-line : (text rest left : List ℕ) → Lacks 10 text → (text ++ 10 ∷ []) ++ rest ≡ take_through 10 left → text ++ 10 ∷ [] ≡ take_through 10 left
whole-line text rest left lacks same = sym (first text rest lacks) ∙ ap (take_through 10) same ∙ again 10 left

two_words : (number : List ℕ) → IsWord number → Lacks 10 (line_of (codes "mach-history" ∷ number ∷ []))
two_words number plain =
    Lacks-line 10 (codes "mach-history" ∷ number ∷ []) (omega arith)
    (before (codes "mach-history") (number ∷ []) (IsWord-plain (codes "mach-history") refl) (before number [] plain (All-nil IsWord)))

heading_lacks : (profile : Profile) → Lacks 10 (heading_text profile)
heading_lacks One = two_words (codes "1") (IsWord-plain (codes "1") refl)
heading_lacks Two = two_words (codes "2") (IsWord-plain (codes "2") refl)
heading_lacks Three = two_words (codes "3") (IsWord-plain (codes "3") refl)

-- the line that a history of the profile begins with is read
pub heading-read : (profile : Profile) (a b : Option (List ℕ)) (line rest : List ℕ) → IfSome a (λ left. line ≡ take_through 10 left) → Consumes a b line → heading profile ++ rest ≡ line
    → Consumes a b (history_text profile [])
heading-read profile None b line rest is taken begins = tt
heading-read profile (Some left) b line rest is taken begins =
    let whole : heading profile ≡ take_through 10 left = whole-line (heading_text profile) rest left (heading_lacks profile) (begins ∙ is) in
    subst (Consumes (Some left) b) (is ∙ sym whole ∙ sym (append-nil (heading profile))) taken

-- it isn't there
pub no-heading : (a : Option (List ℕ)) (line : List ℕ) → IfSome a (λ left. line ≡ take_through 10 left) → HasNoHeading line → IfSome a (λ text. IsFirstBadLine text 1)
no-heading None line is none = tt
no-heading (Some left) line is none =
    IsFirstBadLine.no_heading refl
    (λ profile rest same. none profile [] (append-nil (heading profile) ∙ sym (first (heading_text profile) rest (heading_lacks profile)) ∙ ap (take_through 10) same ∙ sym is))

-- one more entry is read
pub entry-read : (profile : Profile) (a b c : Option (List ℕ)) (done : List Entry) (e : Entry) (line rest : List ℕ) → Consumes a b (history_text profile done) → IfSome b (λ left. line ≡ take_through 10 left)
    → Consumes b c line → FitsLine e → entry_line e ++ rest ≡ line → Consumes a c (history_text profile (done ++ e ∷ []))
entry-read profile None b c done e line rest so_far is taken fits begins = tt
entry-read profile (Some text) None c done e line rest so_far is taken fits begins = absurd so_far
entry-read profile (Some text) (Some left) c done e line rest so_far is taken fits begins =
    let whole : entry_line e ≡ take_through 10 left = whole-line (entry_text e) rest left (Lacks-entry_text e fits) (begins ∙ is) in
    subst (Consumes (Some text) c) (sym (history_push profile done e))
    (Consumes-trans (Some text) (Some left) c (history_text profile done) (entry_line e) so_far (subst (Consumes (Some left) c) (is ∙ sym whole) taken))

-- all is read
pub text-read : (profile : Profile) (a b : Option (List ℕ)) (done : List Entry) → All FitsLine done → Consumes a b (history_text profile done) → IsAtEnd b → IsTextOf a profile done
text-read profile a b done fit so_far end = record {
  fit = fit;
  spelled = Consumes-whole a b (history_text profile done) (λ text. history_text profile done ≡ text) so_far end refl;
}

-- what is left begins with no entry's line
pub bad-entry : (profile : Profile) (a b : Option (List ℕ)) (done : List Entry) (line : List ℕ) (n : ℕ) → All FitsLine done → Consumes a b (history_text profile done)
    → IfSome b (λ left. line ≡ take_through 10 left) → StartsNoEntry line → 0 < length line → length done + 2 ≡ n → IfSome a (λ text. IsFirstBadLine text n)
bad-entry profile None b done line n fit so_far is bad some number = tt
bad-entry profile (Some text) None done line n fit so_far is bad some number = absurd so_far
bad-entry profile (Some text) (Some left) done line n fit so_far is bad some number =
    IsFirstBadLine.no_entry (record {
      profile = profile;
      entries = done;
      fit = fit;
      number = number;
      rest = left;
      parts = sym so_far;
      some = take_through_nonempty 10 left (subst (λ (l : List ℕ). 0 < length l) is some);
      bad = λ e behind fits same. bad e [] fits (append-nil (entry_line e) ∙ sym (first (entry_text e) behind (Lacks-entry_text e fits)) ∙ ap (take_through 10) same ∙ sym is);
    })

-- a text that is a history has no bad line
pub text-good : (bytes : Option (List ℕ)) (text : List ℕ) (profile : Profile) (entries : List Entry) (n : ℕ) → bytes ≡ Some text → IsTextOf bytes profile entries → IsFirstBadLine text n → ⊥
text-good bytes text profile entries n known is bad =
    let same : history_text profile entries ≡ text = subst (λ (o : Option (List ℕ)). IfSome o (λ whole. history_text profile entries ≡ whole)) known is.spelled in
    no-bad-line profile entries text n is.fit same bad

-- no entry was seen
pub seen-none : (profile : Profile) (judge : Judge) → judge.unconfirmed ≡ None → Shows judge.kernel.tables (opening_in profile) → HasSeen profile judge []
seen-none profile judge none shown = record {
  legal = subst (λ (o : Option ℕ). IfNone o (Replays profile [] judge.kernel)) (sym none) (replays-none profile judge.kernel shown);
  not = subst (λ (o : Option ℕ). IfSome o (IsUnconfirmed profile [])) (sym none) tt;
}

-- one more entry is seen behind one that isn't confirmed
pub seen-behind : (profile : Profile) (judge : Judge) (entries : List Entry) (e : Entry) (n : ℕ) → judge.unconfirmed ≡ Some n → HasSeen profile judge entries → HasSeen profile judge (entries ++ e ∷ [])
seen-behind profile judge entries e n is seen =
    let found : IsUnconfirmed profile entries n = subst (λ (o : Option ℕ). IfSome o (IsUnconfirmed profile entries)) is seen.not in
    record {
      legal = subst (λ (o : Option ℕ). IfNone o (Replays profile (entries ++ e ∷ []) judge.kernel)) (sym is) tt;
      not = subst (λ (o : Option ℕ). IfSome o (IsUnconfirmed profile (entries ++ e ∷ []))) (sym is) (unconfirmed-more profile entries e n found);
    }

replays-of : (profile : Profile) (judge : Judge) (entries : List Entry) → judge.unconfirmed ≡ None → HasSeen profile judge entries → Replays profile entries judge.kernel
replays-of profile judge entries none seen = subst (λ (o : Option ℕ). IfNone o (Replays profile entries judge.kernel)) none seen.legal

-- one more entry is confirmed
pub seen-next : (profile : Profile) (old new : Judge) (entries : List Entry) (e : Entry) → old.unconfirmed ≡ None → new.unconfirmed ≡ old.unconfirmed → Answers old.kernel.tables e.event e.reply new.kernel.tables
    → HasSeen profile old entries → HasSeen profile new (entries ++ e ∷ [])
seen-next profile old new entries e none kept step seen = record {
  legal = subst (λ (o : Option ℕ). IfNone o (Replays profile (entries ++ e ∷ []) new.kernel)) (sym (kept ∙ none)) (replays_push profile entries old.kernel new.kernel e (replays-of profile old entries none seen) step);
  not = subst (λ (o : Option ℕ). IfSome o (IsUnconfirmed profile (entries ++ e ∷ []))) (sym (kept ∙ none)) tt;
}

-- one more entry is the first that isn't
pub seen-last : (profile : Profile) (old new : Judge) (entries : List Entry) (e : Entry) (n : ℕ) → old.unconfirmed ≡ None → new.unconfirmed ≡ Some n → length entries + 1 ≡ n → AnswersOtherwise old.kernel e.event e.reply → HasSeen profile old entries
    → HasSeen profile new (entries ++ e ∷ [])
seen-last profile old new entries e n none is number otherwise seen =
    record {
      legal = subst (λ (o : Option ℕ). IfNone o (Replays profile (entries ++ e ∷ []) new.kernel)) (sym is) tt;
      not = subst (λ (o : Option ℕ). IfSome o (IsUnconfirmed profile (entries ++ e ∷ []))) (sym is) (unconfirmed-last profile entries e n old.kernel number (replays-of profile old entries none seen) otherwise);
    }

-- all are confirmed
pub legal-text : (profile : Profile) (bytes : Option (List ℕ)) (judge : Judge) (entries : List Entry) (count : ℕ) → judge.unconfirmed ≡ None → IsTextOf bytes profile entries → length entries ≡ count → HasSeen profile judge entries
    → IsLegalText bytes count
legal-text profile bytes judge entries count none text number seen = record {
  profile = profile;
  entries = entries;
  text = text;
  legal = legal_of profile entries judge.kernel (replays-of profile judge entries none seen);
  number = number;
}

-- the verdict that a line is bad
pub told-bad : {E : Type 0} (r : Result Verdict E) (bytes : Option (List ℕ)) (n : ℕ) → IfOk r (λ verdict. verdict ≡ Verdict.BadLine n) → IfSome bytes (λ text. IsFirstBadLine text n) → IfOk r (IsVerdict bytes)
told-bad (Ok verdict) bytes n told bad = subst (IsVerdict bytes) (sym told) bad
told-bad (Err e) bytes n told bad = tt

-- ---- the job that checks

-- what is told with this status
abbrev Tells : (bytes old new : Option (List ℕ)) → ℕ → Type 0
Tells bytes old new status = (verdict : Verdict) × IsVerdict bytes verdict × (verdict_status verdict ≡ status) × Appends old new (verdict_line verdict)

few : (verdict : Verdict) (status : ℕ) → verdict_status verdict ≡ status → status ≤ 1
few (Verdict.Legal count) status is = omega (arith, is)
few (Verdict.NotConfirmed n) status is = omega (arith, is)
few (Verdict.BadLine n) status is = omega (arith, is)

pub checked-status : {E : Type 0} (r : Result ℕ E) (bytes old new : Option (List ℕ)) → IfOk r (Tells bytes old new) → IfOk r (λ status. status ≤ 1)
checked-status (Ok status) bytes old new told = few told.0 status told.2
checked-status (Err e) bytes old new told = tt

done-by : (bytes old new : Option (List ℕ)) (verdict : Verdict) → IsVerdict bytes verdict → verdict_status verdict ≡ 0 → Appends old new (verdict_line verdict)
    → (text : List ℕ) × IsChecked bytes text × Appends old new text
done-by bytes old new (Verdict.Legal count) legal status written = (verdict_line (Verdict.Legal count), record { count = count; legal = legal; line = refl }, written)
done-by bytes old new (Verdict.NotConfirmed n) is status written = absurd (omega (arith, status))
done-by bytes old new (Verdict.BadLine n) is status written = absurd (omega (arith, status))

-- with status 0 the history is legal
pub checked-done : {E : Type 0} (r : Result ℕ E) (bytes old new : Option (List ℕ)) → IfOk r (Tells bytes old new) → r ≡ Ok 0 → (text : List ℕ) × IsChecked bytes text × Appends old new text
checked-done r bytes old new told is =
    let it = subst (λ (r : Result ℕ _). IfOk r (Tells bytes old new)) is told in
    done-by bytes old new it.0 it.1 it.2 it.3

-- a bad line has another
pub checked-bad : {E : Type 0} (r : Result ℕ E) (known old new : Option (List ℕ)) (bytes : List ℕ) (n : ℕ) → IfOk r (Tells known old new) → known ≡ Some bytes → IsFirstBadLine bytes n → r ≡ Ok 0 → ⊥
checked-bad r known old new bytes n told is bad done =
    let legal = (checked-done r known old new told done).1.legal in
    text-good known bytes legal.profile legal.entries n is legal.text bad

-- ---- statuses

pub made-status : {E : Type 0} (r : Result ℕ E) → IfOk r (λ status. status ≡ 0) → IfOk r (λ status. status ≤ 1)
made-status (Ok status) none = omega (arith, none)
made-status (Err e) none = tt

pub made-done : {E P : Type 0} (r : Result ℕ E) → OnOk r P → r ≡ Ok 0 → P
made-done {E} {P} r done is = subst (λ (x : Result ℕ E). OnOk x P) is done

pub refused-not-done : {E : Type 0} (r : Result ℕ E) → IsErr r → r ≡ Ok 0 → ⊥
refused-not-done {E} (Ok status) refused is = absurd (cc)
refused-not-done {E} (Err e) refused is = absurd (cc)

pub one-left : (status : ℕ) → status ≤ 1 → (status ≡ 0 → ⊥) → status ≡ 1
one-left zero most some = absurd (some refl)
one-left (suc n) most some = omega (arith, most)
