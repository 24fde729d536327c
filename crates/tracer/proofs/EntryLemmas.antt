-- The lines of entries.
use Rattle.std.proofs.Common.{codes, ◌≡◌, ◌≢◌, ℕ, ◌<◌, List, [], ◌∷◌, ◌++◌, All, refl, sym, ◌∙◌, arith, decimal, append_assoc, append-nil, ap, flat_map, length, take, get_or, ◌+◌}
use Rattle.std.proofs.lemmas.Fmt.{decimal_injective}
use Rattle.std.proofs.lemmas.List.{take_more, nil_from_length}
use Rattle.std.proofs.lemmas.List.Elements.{All-append, All-head, All-tail}
use Rattle.mach_types.specs.declared.profiles.Profile.{Profile}
use Rattle.mach_types.specs.declared.profiles.Profile.TheVariants.{One, Two, Three}
use Rattle.mach_types.specs.declared.calls.Event.{Event}
use Rattle.mach_types.specs.declared.calls.Reply.{Reply}
use Rattle.kernel_lock.specs.declared.entry.Entry.{Entry}
use Rattle.tracer_base.specs.Calls.{call_words}
use Rattle.tracer_base.specs.Replies.{reply_words}
use Rattle.tracer_base.specs.Words.{line, words, Lacks, IsWord}
use Rattle.tracer_base.proofs.NumberLemmas.{IsWord-decimal}
use Rattle.tracer_base.proofs.WordLemmas.{IsWord-plain, first_word, words-line, Lacks-line, same_parts, texts_push}
use Rattle.tracer_base.proofs.CallLemmas.{before, plain-call}
use Rattle.tracer_base.proofs.ReplyLemmas.{plain-reply}
use Rattle.tracer_base.proofs.SameCalls.{same_call}
use Rattle.tracer_base.proofs.SameReplies.{same_reply}
use Rattle.tracer.specs.declared.histories.HistoryFault.{HistoryFault}
use Rattle.tracer.specs.declared.histories.HistoryFault.TheVariants.{BadLine, Memory}
use Rattle.tracer.specs.Histories.{heading, entry_words, entry_text, entry_line, history_text, FitsLine, StartsNoEntry}

plain-entry : (e : Entry) → FitsLine e → All IsWord (entry_words e)
plain-entry e fits =
    before (decimal e.caller) (call_words e.event ++ codes "->" ∷ reply_words e.reply) (IsWord-decimal e.caller fits.caller)
    (All-append IsWord (call_words e.event) (codes "->" ∷ reply_words e.reply) (plain-call e.event fits.call)
    (before (codes "->") (reply_words e.reply) (IsWord-plain (codes "->") refl) (plain-reply e.reply fits.reply)))

-- the words of an entry's text are the entry's
pub words-entry : (e : Entry) → FitsLine e → words (entry_text e) ≡ entry_words e
words-entry e fits = words-line (decimal e.caller) (call_words e.event ++ codes "->" ∷ reply_words e.reply) (plain-entry e fits)

-- no line feed stands in it
pub Lacks-entry_text : (e : Entry) → FitsLine e → Lacks 10 (entry_text e)
Lacks-entry_text e fits = Lacks-line 10 (entry_words e) (omega arith) (plain-entry e fits)

-- where an entry's line begins a text, the text's first line is the entry's text
pub first_text : (e : Entry) (rest text line others : List ℕ) → FitsLine e → entry_line e ++ rest ≡ text → Lacks 10 line → line ++ 10 ∷ others ≡ text → entry_text e ≡ line
first_text e rest text line others fits same lacks whole =
    let parts = same_parts 10 (entry_text e) line rest others (Lacks-entry_text e fits) lacks (sym (append_assoc (entry_text e) (10 ∷ []) rest) ∙ same ∙ sym whole) in
    parts.0

-- an entry's text and a line feed at the front of a text are the entry's line there
pub line_parts : (e : Entry) (line rest text : List ℕ) → entry_text e ≡ line → line ++ 10 ∷ rest ≡ text → entry_line e ++ rest ≡ text
line_parts e line rest text same whole = append_assoc (entry_text e) (10 ∷ []) rest ∙ ap (λ t. t ++ 10 ∷ rest) same ∙ whole

abbrev entry : ℕ → Event → Reply → Entry
entry caller event reply = record { caller = caller; event = event; reply = reply }

-- an entry is told by its words
same_entry : (e other : Entry) → FitsLine e → FitsLine other → entry_words e ≡ entry_words other → e ≡ other
same_entry e other fits fits_too same =
    let parts = first_word (decimal e.caller) (decimal other.caller) (call_words e.event ++ codes "->" ∷ reply_words e.reply) (call_words other.event ++ codes "->" ∷ reply_words other.reply) same in
    let caller : e.caller ≡ other.caller = decimal_injective e.caller other.caller fits.caller fits_too.caller parts.0 in
    let calls = same_call e.event other.event (codes "->" ∷ reply_words e.reply) (codes "->" ∷ reply_words other.reply) fits.call fits_too.call parts.1 in
    let replies = first_word (codes "->") (codes "->") (reply_words e.reply) (reply_words other.reply) calls.1 in
    let reply = same_reply e.reply other.reply fits.reply fits_too.reply replies.1 in
    ap (λ c. entry c e.event e.reply) caller ∙ ap (λ v. entry other.caller v e.reply) calls.0 ∙ ap (λ r. entry other.caller other.event r) reply

-- the line of an entry at the front of a text tells the entry, and what is behind it
pub same_line : (e other : Entry) (rest behind : List ℕ) → FitsLine e → FitsLine other → entry_line e ++ rest ≡ entry_line other ++ behind → (e ≡ other) × (rest ≡ behind)
same_line e other rest behind fits fits_too same =
    let parts = same_parts 10 (entry_text e) (entry_text other) rest behind (Lacks-entry_text e fits) (Lacks-entry_text other fits_too)
    (sym (append_assoc (entry_text e) (10 ∷ []) rest) ∙ same ∙ append_assoc (entry_text other) (10 ∷ []) behind) in
    (same_entry e other fits fits_too (sym (words-entry e fits) ∙ ap words parts.0 ∙ words-entry other fits_too), parts.1)

-- a text with a line feed in it is not empty
some_line : (text rest : List ℕ) → text ++ 10 ∷ rest ≡ [] → ⊥
some_line [] rest none = absurd cc
some_line (byte ∷ text) rest none = absurd cc

-- what is left of the lines of entries, when some are read, begins with the line of an entry
pub next_line : (done all : List Entry) (rest : List ℕ) → All FitsLine done → All FitsLine all → flat_map entry_line done ++ rest ≡ flat_map entry_line all → rest ≢ [] → StartsNoEntry rest → ⊥
next_line [] [] rest fit fit_all same some bad = some same
next_line [] (e ∷ all) rest fit fit_all same some bad = bad e (flat_map entry_line all) (All-head FitsLine e all fit_all) (sym same)
next_line (e ∷ done) [] rest fit fit_all same some bad =
    let rest_of = flat_map entry_line done ++ rest in
    some_line (entry_text e) rest_of (sym (append_assoc (entry_text e) (10 ∷ []) rest_of) ∙ sym (append_assoc (entry_line e) (flat_map entry_line done) rest) ∙ same)
next_line (e ∷ done) (other ∷ all) rest fit fit_all same some bad =
    let left = same_line e other (flat_map entry_line done ++ rest) (flat_map entry_line all) (All-head FitsLine e done fit) (All-head FitsLine other all fit_all)
    (sym (append_assoc (entry_line e) (flat_map entry_line done) rest) ∙ same) in
    next_line done all rest (All-tail FitsLine e done fit) (All-tail FitsLine other all fit_all) left.1 some bad

-- the number in a heading
number_at : (profile other : Profile) (rest left : List ℕ) → heading profile ++ rest ≡ heading other ++ left → get_or (heading profile ++ rest) 13 0 ≡ get_or (heading other ++ left) 13 0
number_at profile other rest left same = ap (λ (text : List ℕ). get_or text 13 0) same

-- two headings are apart, and neither begins the other: the whole text tells its profile, and what stands behind its heading
pub behind : (profile other : Profile) (rest left : List ℕ) → heading profile ++ rest ≡ heading other ++ left → (profile ≡ other) × (rest ≡ left)
behind One One rest left same = (refl, cc)
behind One Two rest left same = let number = number_at One Two rest left same in absurd (omega (arith, number))
behind One Three rest left same = let number = number_at One Three rest left same in absurd (omega (arith, number))
behind Two One rest left same = let number = number_at Two One rest left same in absurd (omega (arith, number))
behind Two Two rest left same = (refl, cc)
behind Two Three rest left same = let number = number_at Two Three rest left same in absurd (omega (arith, number))
behind Three One rest left same = let number = number_at Three One rest left same in absurd (omega (arith, number))
behind Three Two rest left same = let number = number_at Three Two rest left same in absurd (omega (arith, number))
behind Three Three rest left same = (refl, cc)

-- a fault that names no line is want of memory
pub memory : (fault : HistoryFault) → ((n : ℕ) → fault ≢ BadLine n) → fault ≡ Memory
memory (BadLine n) bad = absurd (bad n refl)
memory Memory bad = refl

-- entries are told by their lines
same_lines : (es others : List Entry) → All FitsLine es → All FitsLine others → flat_map entry_line es ≡ flat_map entry_line others → es ≡ others
same_lines [] [] fit fit_too same = refl
same_lines [] (other ∷ others) fit fit_too same =
    absurd (some_line (entry_text other) (flat_map entry_line others) (sym (append_assoc (entry_text other) (10 ∷ []) (flat_map entry_line others)) ∙ sym same))
same_lines (e ∷ es) [] fit fit_too same =
    absurd (some_line (entry_text e) (flat_map entry_line es) (sym (append_assoc (entry_text e) (10 ∷ []) (flat_map entry_line es)) ∙ same))
same_lines (e ∷ es) (other ∷ others) fit fit_too same =
    let parts = same_line e other (flat_map entry_line es) (flat_map entry_line others) (All-head FitsLine e es fit) (All-head FitsLine other others fit_too) same in
    let rest = same_lines es others (All-tail FitsLine e es fit) (All-tail FitsLine other others fit_too) parts.1 in
    ap (λ x. x ∷ es) parts.0 ∙ ap (λ xs. other ∷ xs) rest

-- a history is told by its text, its profile too
pub same_history : (profile other : Profile) (es others : List Entry) → All FitsLine es → All FitsLine others → history_text profile es ≡ history_text other others → (profile ≡ other) × (es ≡ others)
same_history profile other es others fit fit_too same =
    let parts = behind profile other (flat_map entry_line es) (flat_map entry_line others) same in
    (parts.0, same_lines es others fit fit_too parts.1)

-- one more entry's line behind those of the entries before it
pub history_push : (profile : Profile) (entries : List Entry) (e : Entry) → history_text profile (entries ++ e ∷ []) ≡ history_text profile entries ++ entry_line e
history_push profile entries e = ap (λ lines. heading profile ++ lines) (texts_push entry_line entries e) ∙ sym (append_assoc (heading profile) (flat_map entry_line entries) (entry_line e))

-- the same, of the entries up to a place
pub history_more : (profile : Profile) (entries : List Entry) (i : ℕ) (e : Entry) → i < length entries → get_or entries i e ≡ e
    → history_text profile (take (i + 1) entries) ≡ history_text profile (take i entries) ++ entry_line e
history_more profile entries i e low here =
    ap (history_text profile) (take_more entries i e low) ∙ ap (λ (x : Entry). history_text profile (take i entries ++ x ∷ [])) here ∙ history_push profile (take i entries) e

-- one more entry is read
pub reads_more : (profile : Profile) (entries : List Entry) (e : Entry) (rest others text : List ℕ) → history_text profile entries ++ rest ≡ text → entry_line e ++ others ≡ rest
    → history_text profile (entries ++ e ∷ []) ++ others ≡ text
reads_more profile entries e rest others text so_far next =
    ap (λ t. t ++ others) (history_push profile entries e) ∙ append_assoc (history_text profile entries) (entry_line e) others ∙ ap (λ t. history_text profile entries ++ t) next ∙ so_far

-- with nothing left, all is read
pub read_all : (profile : Profile) (entries : List Entry) (rest text : List ℕ) → history_text profile entries ++ rest ≡ text → length rest ≡ 0 → history_text profile entries ≡ text
read_all profile entries rest text so_far none =
    sym (append-nil (history_text profile entries)) ∙ ap (λ t. history_text profile entries ++ t) (sym (nil_from_length rest none)) ∙ so_far
