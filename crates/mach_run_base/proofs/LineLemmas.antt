-- Scripts read line by line.
use Rattle.std.proofs.Common.{◌≡◌, ℕ, ◌<◌, ◌≤◌, ◌+◌, length-append, ◌==◌, if◌then◌else◌, List, [], ◌∷◌, ◌++◌, Option, Some, None, IfSome, length, flat_map, sym, ap, ◌∙◌, arith, append_assoc, append-nil, subst, take}
use Rattle.std.proofs.BufReadLemmas.{take_through-append, take_through_nonempty, Consumes_shown}
use Rattle.std.proofs.Math.Seq.{take-append-add}
use Rattle.std.proofs.KnownBytes.{Consumes-trans, prepend_known-nil}
use Rattle.std.specs.Io.BufRead.{take_through, DropsConsumable}
use Rattle.std.specs.Io.KnownBytes.{Consumes, IsAtEnd, Keeps, prepend_known}
use Rattle.std.specs.Io.Buffered.{reader_remaining, reader_inner, reader_buffer, reader_capacity}
use Rattle.std.specs.declared.io.buffered.BufReader.{BufReader}
use Rattle.std.specs.List.{IsDistinct}
use Rattle.std.proofs.lemmas.List.Elements.{All-nil}
use Rattle.tracer_base.specs.declared.blocks.ScriptLine.{ScriptLine}
use Rattle.tracer_base.specs.Blocks.{FitsSaid, said_text, said_line}
use Rattle.tracer_base.specs.Words.{Lacks, line}
use Rattle.text_reader.proofs.BlockLemmas.{said_word, said_arguments, said_parts, plain-said}
use Rattle.tracer_base.proofs.WordLemmas.{Lacks-line, texts_push}
use Rattle.mach_run_base.specs.Scripts.{IsScript, IsFirstBadLine}
use Rattle.mach_run_base.proofs.ScriptLemmas.{last-fits}

-- the first line of a text that begins with a line that fits is that line
line-taken : (said : ScriptLine) (rest : List ℕ) → FitsSaid said → take_through 10 (said_line said ++ rest) ≡ said_line said
line-taken said rest fits =
    let bare : Lacks 10 (line (said_word said ∷ said_arguments said)) = Lacks-line 10 (said_word said ∷ said_arguments said) (omega arith) (plain-said said fits) in
    let lacks : Lacks 10 (said_text said) = subst (λ ws. Lacks 10 (line ws)) (sym (said_parts said)) bare in
    ap (take_through 10) (append_assoc (said_text said) (10 ∷ []) rest) ∙ take_through-append 10 (said_text said) (10 ∷ rest) lacks

lines_push : (done : List ScriptLine) (said : ScriptLine) → flat_map said_line (done ++ said ∷ []) ≡ flat_map said_line done ++ said_line said
lines_push done said = texts_push said_line done said

-- one more line is read
pub reads-line : (a b c : Option (List ℕ)) (done : List ScriptLine) (said : ScriptLine) (line : List ℕ) → Consumes a b (flat_map said_line done) → Consumes b c line → said_line said ≡ line
    → Consumes a c (flat_map said_line (done ++ said ∷ []))
reads-line a b c done said line so_far next is =
    subst (Consumes a c) (sym (lines_push done said)) (Consumes-trans a b c (flat_map said_line done) (said_line said) so_far (subst (Consumes b c) (sym is) next))

-- all lines are read
pub reads-all : (a b : Option (List ℕ)) (text : List ℕ) → Consumes a b text → IsAtEnd b → IfSome a (λ script. text ≡ script)
reads-all None b text so_far end = tt
reads-all (Some script) None text so_far end = absurd so_far
reads-all (Some script) (Some left) text so_far end = sym (so_far ∙ ap (λ l. text ++ l) end ∙ append-nil text)

-- a bad line is the first such
pub first-bad : (a b : Option (List ℕ)) (done : List ScriptLine) (line : List ℕ) (n : ℕ) → IsScript done → Consumes a b (flat_map said_line done) → IfSome b (λ left. line ≡ take_through 10 left)
    → ((said : ScriptLine) → IsScript (done ++ said ∷ []) → said_line said ≡ line → ⊥) → 0 < length line → length done + 1 ≡ n → IfSome a (λ script. IsFirstBadLine script n)
first-bad None b done line n good so_far first refused some number = tt
first-bad (Some script) None done line n good so_far first refused some number = absurd so_far
first-bad (Some script) (Some left) done line n good so_far first refused some number =
    record {
      lines = done;
      good = good;
      number = number;
      rest = left;
      parts = sym so_far;
      some = take_through_nonempty 10 left (subst (λ (l : List ℕ). 0 < length l) first some);
      bad = λ said behind more same. refused said more (sym (line-taken said behind (last-fits done said more.fit)) ∙ ap (take_through 10) same ∙ sym first);
    }

behind_nothing : (capacity : ℕ) (buffer : List ℕ) (left : Option (List ℕ)) → capacity ≡ 131072 → buffer ≡ [] → (if capacity == 0 then None else prepend_known buffer left) ≡ left
behind_nothing capacity buffer left room empty = rw (room, empty) (prepend_known-nil left)

-- a new buffer leaves what the reader behind it leaves
pub new-buffer : {T A : Type 0} (left : T → Option (List ℕ)) (reader : BufReader T A) (inner : T) → reader_inner reader ≡ inner → reader_capacity reader ≡ 131072 → reader_buffer reader ≡ []
    → reader_remaining left reader ≡ left inner
new-buffer left reader inner is room empty = behind_nothing (reader_capacity reader) (reader_buffer reader) (left (reader_inner reader)) room empty ∙ ap left is

-- what is consumed up to the first line feed is the first line
pub line-consumed : (a b : Option (List ℕ)) (text : List ℕ) → Lacks 10 text → Consumes a b (text ++ 10 ∷ []) → IfSome a (λ left. text ++ 10 ∷ [] ≡ take_through 10 left)
line-consumed None b text lacks taken = tt
line-consumed (Some left) None text lacks taken = absurd taken
line-consumed (Some left) (Some rest) text lacks taken =
    sym (ap (take_through 10) taken ∙ ap (take_through 10) (append_assoc text (10 ∷ []) rest) ∙ take_through-append 10 text (10 ∷ rest) lacks)

-- a line that the reader showed is consumed whole
pub line-shown : (a b c : Option (List ℕ)) (buffered : Option ℕ) (shown text rest : List ℕ) (n : ℕ) → text ++ 10 ∷ rest ≡ shown → n ≡ length text + 1
    → IfSome a (λ xs. take (length shown) xs ≡ shown) → IfSome a (λ xs. length shown ≡ 0 → xs ≡ []) → Keeps a b
    → IfSome a (λ _. IfSome buffered (λ k. length shown ≤ k)) → DropsConsumable b c buffered n → Consumes a c (text ++ 10 ∷ [])
line-shown a b c buffered shown text rest n parts count front end kept fits drops =
    let long : length shown ≡ length text + length (10 ∷ rest) = ap length (sym parts) ∙ length-append text (10 ∷ rest) in
    let within : n ≤ length shown = omega (arith, long, count) in
    let line : take n shown ≡ text ++ 10 ∷ [] = ap (λ k. take k shown) count ∙ ap (take (length text + 1)) (sym parts) ∙ take-append-add text (10 ∷ rest) 1 in
    subst (Consumes a c) line (Consumes_shown a b c buffered shown n within front end kept fits drops).0

-- no line is a script
pub no_lines : IsScript []
unfolding IsDistinct
no_lines = record { fit = All-nil FitsSaid; apart = tt }
