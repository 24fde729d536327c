-- Scripts that get one more line.
use Rattle.std.proofs.Common.{◌≡◌, ℕ, ◌==◌, List, [], ◌∷◌, ◌++◌, All, true, false, refl, sym, ap, ◌∙◌, subst, map, flat_map, append_assoc, append-nil, inl, inr, codes, decimal, length, arith, Option, Some, IfSome, Result, Ok, Err, OnOk}
use Rattle.std.specs.List.{IsDistinct, AllByRecursion, list_any}
use Rattle.std.proofs.lemmas.Bool.{or_parts, ne_eqb, eqb-false}
use Rattle.std.proofs.lemmas.Bool.Decides.{eqb_tells}
use Rattle.std.proofs.lemmas.Cmp.{nat_eq_equiv}
use Rattle.std.proofs.lemmas.List.Elements.{All-push, All-head, All-tail}
use Rattle.std.proofs.lemmas.Map.Keys.{IsDistinct-push}
use Rattle.std.proofs.lemmas.Grind.{flat_map-append}
use Rattle.mach_types.specs.declared.calls.Event.{Event}
use Rattle.mach_msg_threads.specs.declared.block.Call.{Call}
use Rattle.tracer_base.specs.declared.blocks.ScriptLine.{ScriptLine}
use Rattle.mach_run_base.specs.declared.script.ThreadCalls.{ThreadCalls}
use Rattle.tracer_base.specs.Blocks.{FitsSaid, said_text, said_line}
use Rattle.tracer_base.specs.Words.{Lacks, line}
use Rattle.text_reader.proofs.BlockLemmas.{said_word, said_arguments, said_parts, said_split, plain-said, is_thread, same_number}
use Rattle.tracer_base.proofs.WordLemmas.{Lacks-line, same_parts}
use Rattle.mach_run_base.specs.Scripts.{begun, has_number, said_call, said_block, IsScript, IsFirstBadLine}

abbrev pub lines_of : List Event → List Call → List ThreadCalls → List ScriptLine
lines_of opening main blocks = map ScriptLine.Call opening ++ map said_call main ++ flat_map said_block blocks

-- the numbers of a script's blocks are those that its lines begin
none_begun : (opening : List Event) → flat_map begun (map ScriptLine.Call opening) ≡ []
none_begun [] = refl
none_begun (event ∷ opening) = none_begun opening

none_begun_by : (calls : List Call) → flat_map begun (map said_call calls) ≡ []
none_begun_by [] = refl
none_begun_by (Call.Event event ∷ calls) = none_begun_by calls
none_begun_by (Call.Msg task options name room send ∷ calls) = none_begun_by calls

blocks_begun : (blocks : List ThreadCalls) → flat_map begun (flat_map said_block blocks) ≡ map (λ (block : ThreadCalls). block.number) blocks
blocks_begun [] = refl
blocks_begun (block ∷ blocks) =
    flat_map-append begun (said_block block) (flat_map said_block blocks) ∙ ap (λ t. block.number ∷ t ++ flat_map begun (flat_map said_block blocks)) (none_begun_by block.calls.items)
    ∙ ap (λ t. block.number ∷ t) (blocks_begun blocks)

pub script_begun : (opening : List Event) (main : List Call) (blocks : List ThreadCalls) → flat_map begun (lines_of opening main blocks) ≡ map (λ (block : ThreadCalls). block.number) blocks
script_begun opening main blocks =
    let first = map ScriptLine.Call opening in
    let second = map said_call main in
    let third = flat_map said_block blocks in
    flat_map-append begun (first ++ second) third ∙ ap (λ t. t ++ flat_map begun third) (flat_map-append begun first second ∙ ap (λ t. t ++ flat_map begun second) (none_begun opening) ∙ none_begun_by main)
    ∙ blocks_begun blocks

-- ---- lines that may follow

fits-push : (lines : List ScriptLine) (said : ScriptLine) → All FitsSaid lines → FitsSaid said → All FitsSaid (lines ++ said ∷ [])
fits-push lines said fit one = All-push FitsSaid lines said fit one

begun-push : (lines : List ScriptLine) (said : ScriptLine) → flat_map begun (lines ++ said ∷ []) ≡ flat_map begun lines ++ begun said
begun-push lines said = flat_map-append begun lines (said ∷ []) ∙ ap (λ t. flat_map begun lines ++ t) (append-nil (begun said))

-- a call may follow
pub good-call : (lines : List ScriptLine) (said : ScriptLine) → begun said ≡ [] → IsScript lines → FitsSaid said → IsScript (lines ++ said ∷ [])
good-call lines said none good fits = record {
  fit = fits-push lines said good.fit fits;
  apart = subst (IsDistinct ◌==◌) (sym (begun-push lines said ∙ ap (λ t. flat_map begun lines ++ t) none ∙ append-nil (flat_map begun lines))) good.apart;
}

abbrev pub numbers : List ThreadCalls → List ℕ
numbers blocks = map (λ (block : ThreadCalls). block.number) blocks

absent : (blocks : List ThreadCalls) (n : ℕ) → has_number blocks n ≡ false → list_any (λ m. n == m) (numbers blocks) ≡ false
absent [] n lacks = refl
absent (block ∷ blocks) n lacks =
    let parts = or_parts (block.number == n) (has_number blocks n) lacks in
    rw (ne_eqb n block.number (λ same. eqb-false block.number n parts.0 (sym same))) (absent blocks n parts.1)

last-by : {X : Type 0} (P : X → Type 0) (xs : List X) (x : X) → AllByRecursion P (xs ++ x ∷ []) → P x
last-by P [] x all = all.0
last-by P (y ∷ xs) x all = last-by P xs x all.1

twice : (blocks : List ThreadCalls) (n : ℕ) → has_number blocks n ≡ true → IsDistinct ◌==◌ (numbers blocks ++ n ∷ []) → ⊥
unfolding IsDistinct
twice [] n there apart = absurd cc
twice (block ∷ blocks) n there apart = elim (eqb_tells block.number n) [
  | inl same ↦ eqb-false block.number n (last-by (λ m. (block.number == m) ≡ false) (numbers blocks) n apart.0) same.1
  | inr other ↦ twice blocks n (rw other.0 at there) apart.1
]

-- a block may follow where none has its number
good-thread : (lines : List ScriptLine) (blocks : List ThreadCalls) (n : ℕ) → flat_map begun lines ≡ numbers blocks → IsScript lines → FitsSaid (ScriptLine.Thread n) → has_number blocks n ≡ false
    → IsScript (lines ++ ScriptLine.Thread n ∷ [])
good-thread lines blocks n are good fits lacks = record {
  fit = fits-push lines (ScriptLine.Thread n) good.fit fits;
  apart = subst (IsDistinct ◌==◌) (sym (begun-push lines (ScriptLine.Thread n) ∙ ap (λ t. t ++ n ∷ []) are))
      (IsDistinct-push nat_eq_equiv (numbers blocks) n (subst (IsDistinct ◌==◌) are good.apart) (absent blocks n lacks));
}

-- a line was added, and what was added before it and it are a script's
pub call-added : {A E : Type 0} (r : Result A E) (lines now : List ScriptLine) (said : ScriptLine) → begun said ≡ [] → IsScript lines → FitsSaid said → OnOk r (now ≡ lines ++ said ∷ []) → OnOk r (IsScript now)
call-added (Ok a) lines now said none good fits is = subst IsScript (sym is) (good-call lines said none good fits)
call-added (Err e) lines now said none good fits is = tt

pub block-added : {A E : Type 0} (r : Result A E) (lines now : List ScriptLine) (blocks : List ThreadCalls) (n : ℕ) → flat_map begun lines ≡ numbers blocks → IsScript lines → FitsSaid (ScriptLine.Thread n)
    → OnOk r (has_number blocks n ≡ false) → OnOk r (now ≡ lines ++ ScriptLine.Thread n ∷ []) → OnOk r (IsScript now)
block-added (Ok a) lines now blocks n are good fits lacks is = subst IsScript (sym is) (good-thread lines blocks n are good fits lacks)
block-added (Err e) lines now blocks n are good fits lacks is = tt

pub last-fits : (lines : List ScriptLine) (said : ScriptLine) → All FitsSaid (lines ++ said ∷ []) → FitsSaid said
last-fits [] said fit = All-head FitsSaid said [] fit
last-fits (first ∷ lines) said fit = last-fits lines said (All-tail FitsSaid first (lines ++ said ∷ []) fit)

-- ---- one text spells one script, as far as its blocks go

whole-text : (said : ScriptLine) → FitsSaid said → Lacks 10 (said_text said)
whole-text said fits = subst (λ ws. Lacks 10 (line ws)) (sym (said_parts said)) (Lacks-line 10 (said_word said ∷ said_arguments said) (omega arith) (plain-said said fits))

-- two lines at the front of one text are the same
one-line : (said other : ScriptLine) (rest behind : List ℕ) → FitsSaid said → FitsSaid other → said_line said ++ rest ≡ said_line other ++ behind → (said_text said ≡ said_text other) × (rest ≡ behind)
one-line said other rest behind fits fits_too same =
    same_parts 10 (said_text said) (said_text other) rest behind (whole-text said fits) (whole-text other fits_too)
    (sym (append_assoc (said_text said) (10 ∷ []) rest) ∙ same ∙ append_assoc (said_text other) (10 ∷ []) behind)

no-line : (text rest : List ℕ) → (text ++ 10 ∷ []) ++ rest ≡ [] → ⊥
no-line [] rest none = absurd cc
no-line (byte ∷ text) rest none = absurd cc

begins-one : (m : ℕ) (other : ScriptLine) → FitsSaid (ScriptLine.Thread m) → FitsSaid other → said_word other ∷ said_arguments other ≡ codes "thread" ∷ decimal m ∷ [] → begun other ≡ m ∷ []
begins-one m other fits fits_too same =
    let word : said_word other ≡ codes "thread" = cc in
    let named = is_thread other word in
    let spelled : said_arguments other ≡ decimal m ∷ [] = cc in
    let number : decimal named.0 ∷ [] ≡ decimal m ∷ [] = ap said_arguments (sym named.1) ∙ spelled in
    let fits_number : FitsSaid (ScriptLine.Thread named.0) = subst FitsSaid named.1 fits_too in
    ap begun named.1 ∙ ap (λ k. k ∷ []) (same_number named.0 m [] (decimal m ∷ []) (omega (arith, fits_number.0, fits_number.1)) (omega (arith, fits.0, fits.1)) number (refl {a = decimal m ∷ []}))

-- lines of one text begin one block
pub same-begun : (said other : ScriptLine) → FitsSaid said → FitsSaid other → said_text said ≡ said_text other → begun said ≡ begun other
same-begun (ScriptLine.Thread m) other fits fits_too same =
    sym (begins-one m other fits fits_too (said_split other (said_text (ScriptLine.Thread m)) fits_too (sym same) ∙ sym (said_split (ScriptLine.Thread m) (said_text (ScriptLine.Thread m)) fits refl)))
same-begun said (ScriptLine.Thread n) fits fits_too same =
    begins-one n said fits_too fits (said_split said (said_text (ScriptLine.Thread n)) fits same ∙ sym (said_split (ScriptLine.Thread n) (said_text (ScriptLine.Thread n)) fits_too refl))
same-begun (ScriptLine.Call a) (ScriptLine.Call b) fits fits_too same = refl
same-begun (ScriptLine.Call a) (ScriptLine.Message b) fits fits_too same = refl
same-begun (ScriptLine.Message a) (ScriptLine.Call b) fits fits_too same = refl
same-begun (ScriptLine.Message a) (ScriptLine.Message b) fits fits_too same = refl

-- a block can't follow where one has its number
pub block-refused : (lines : List ScriptLine) (blocks : List ThreadCalls) (n : ℕ) (said : ScriptLine) (text : List ℕ) → flat_map begun lines ≡ numbers blocks → has_number blocks n ≡ true → FitsSaid (ScriptLine.Thread n)
    → said_text (ScriptLine.Thread n) ≡ text → IsScript (lines ++ said ∷ []) → said_text said ≡ text → ⊥
block-refused lines blocks n said text are there fits spelled good same =
    let one = same-begun (ScriptLine.Thread n) said fits (last-fits lines said good.fit) (spelled ∙ sym same) in
    twice blocks n there (subst (IsDistinct ◌==◌) (begun-push lines said ∙ ap (λ t. t ++ begun said) are ∙ ap (λ t. numbers blocks ++ t) (sym one)) good.apart)

-- a line that goes on from lines, and what is behind it
record GoesOn (done all : List ScriptLine) (rest : List ℕ) : Type 0 where
  next : ScriptLine
  behind : List ScriptLine
  fits : FitsSaid next
  spelled : said_line next ++ flat_map said_line behind ≡ rest
  begins : flat_map begun done ++ (begun next ++ flat_map begun behind) ≡ flat_map begun all

goes-on : (done all : List ScriptLine) (rest : List ℕ) → All FitsSaid done → All FitsSaid all → flat_map said_line done ++ rest ≡ flat_map said_line all → (rest ≡ [] → ⊥) → GoesOn done all rest
goes-on [] [] rest fit fit_all same some = absurd (some same)
goes-on [] (next ∷ behind) rest fit fit_all same some = record {
  next = next;
  behind = behind;
  fits = All-head FitsSaid next behind fit_all;
  spelled = sym same;
  begins = refl;
}
goes-on (said ∷ done) [] rest fit fit_all same some =
    absurd (no-line (said_text said) (flat_map said_line done ++ rest) (sym (append_assoc (said_line said) (flat_map said_line done) rest) ∙ same))
goes-on (said ∷ done) (other ∷ all) rest fit fit_all same some =
    let first = All-head FitsSaid said done fit in
    let first_too = All-head FitsSaid other all fit_all in
    let parts = one-line said other (flat_map said_line done ++ rest) (flat_map said_line all) first first_too (sym (append_assoc (said_line said) (flat_map said_line done) rest) ∙ same) in
    let later = goes-on done all rest (All-tail FitsSaid said done fit) (All-tail FitsSaid other all fit_all) parts.1 some in
    record {
      next = later.next;
      behind = later.behind;
      fits = later.fits;
      spelled = later.spelled;
      begins = append_assoc (begun said) (flat_map begun done) (begun later.next ++ flat_map begun later.behind) ∙ ap (λ t. begun said ++ t) later.begins
          ∙ ap (λ t. t ++ flat_map begun all) (same-begun said other first first_too parts.0);
    }

front-by : {X : Type 0} (P : X → Type 0) (xs ys : List X) → AllByRecursion P (xs ++ ys) → AllByRecursion P xs
front-by P [] ys all = tt
front-by P (x ∷ xs) ys all = (all.0, front-by P xs ys all.1)

front-apart : (xs ys : List ℕ) → IsDistinct ◌==◌ (xs ++ ys) → IsDistinct ◌==◌ xs
unfolding IsDistinct
front-apart [] ys apart = tt
front-apart (x ∷ xs) ys apart = (front-by (λ y. (x == y) ≡ false) xs ys apart.0, front-apart xs ys apart.1)

-- no text of a script has a bad line
pub no-bad-line : (lines : List ScriptLine) (text : List ℕ) (n : ℕ) → IsScript lines → flat_map said_line lines ≡ text → IsFirstBadLine text n → ⊥
no-bad-line lines text n good same bad =
    let some : bad.rest ≡ [] → ⊥ = λ none. let empty : length bad.rest ≡ 0 = ap length none in omega (arith, bad.some, empty) in
    let later = goes-on bad.lines lines bad.rest bad.good.fit good.fit (bad.parts ∙ sym same) some in
    let apart : IsDistinct ◌==◌ (flat_map begun bad.lines ++ begun later.next ++ flat_map begun later.behind) = subst (IsDistinct ◌==◌) (sym later.begins ∙ sym (append_assoc (flat_map begun bad.lines) (begun later.next) (flat_map begun later.behind))) good.apart in
    bad.bad later.next (flat_map said_line later.behind) (record {
      fit = fits-push bad.lines later.next bad.good.fit later.fits;
      apart = subst (IsDistinct ◌==◌) (sym (begun-push bad.lines later.next)) (front-apart (flat_map begun bad.lines ++ begun later.next) (flat_map begun later.behind) apart);
    }) later.spelled

-- a file that was read as a script has no bad line
pub read-whole : (bytes : List ℕ) (n : ℕ) (known : Option (List ℕ)) (lines : List ScriptLine) → known ≡ Some bytes
    → IsScript lines × IfSome known (λ whole. flat_map said_line lines ≡ whole) → IsFirstBadLine bytes n → ⊥
read-whole bytes n known lines is read bad =
    let all : flat_map said_line lines ≡ bytes = subst (λ (o : Option (List ℕ)). IfSome o (λ whole. flat_map said_line lines ≡ whole)) is read.1 in
    no-bad-line lines bytes n read.0 all bad
