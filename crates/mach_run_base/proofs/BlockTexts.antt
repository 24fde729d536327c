-- What blocks print, from their numbers and the answers to their calls.
use Rattle.std.proofs.Common.{◌≡◌, ℕ, zero, suc, ◌+◌, ◌<◌, List, [], ◌∷◌, ◌++◌, All, length, flat_map, map, take, get_or, refl, sym, ap, ◌∙◌, subst, arith, append_assoc, append-nil}
use Rattle.std.specs.List.{AllZip}
use Rattle.std.proofs.lemmas.List.{take_more, length-take-le}
use Rattle.std.proofs.lemmas.List.Elements.{All-head, All-tail, All-push}
use Rattle.mach_types.specs.declared.profiles.Profile.{Profile}
use Rattle.kernel_lock.specs.declared.entry.Entry.{Entry}
use Rattle.kernel_lock.specs.History.{Known, calls_by}
use Rattle.mach_msg_threads.specs.declared.block.Answer.{Answer}
use Rattle.mach_msg_threads.specs.declared.block.Call.{Call}
use Rattle.mach_msg_threads.specs.Blocks.{Ran}
use Rattle.tracer_base.specs.Blocks.{thread_line}
use Rattle.tracer_base.proofs.WordLemmas.{texts_push as push_text}
use Rattle.mach_run_base.specs.declared.script.ThreadCalls.{ThreadCalls}
use Rattle.mach_run_base.specs.declared.running.Enrolled.{Enrolled}
use Rattle.mach_run_base.specs.Callers.{IsRecorded}
use Rattle.mach_run_base.specs.Enrolling.{AreEnrolled, IsReady}
use Rattle.mach_run_base.specs.Output.{AreBlocks, answer_line, block_texts}

pub zip_map : {A C : Type 0} (f : A → C → Type 0) (g : A → C → Type 0) → ((a : A) (b : C) → f a b → g a b) → (xs : List A) (ys : List C) → AllZip f xs ys → AllZip g xs ys
zip_map f g gives [] [] z = tt
zip_map f g gives [] (y ∷ ys) z = absurd z
zip_map f g gives (x ∷ xs) [] z = absurd z
zip_map f g gives (x ∷ xs) (y ∷ ys) z = (gives x y z.0, zip_map f g gives xs ys z.1)

pub zip_length : {A C : Type 0} (f : A → C → Type 0) (xs : List A) (ys : List C) → AllZip f xs ys → length xs ≡ length ys
zip_length f [] [] z = refl
zip_length f [] (y ∷ ys) z = absurd z
zip_length f (x ∷ xs) [] z = absurd z
zip_length f (x ∷ xs) (y ∷ ys) z = let rest = zip_length f xs ys z.1 in omega (arith, rest)

abbrev one_text : ℕ → List Answer → List ℕ
one_text number answers = thread_line number ++ flat_map answer_line answers

texts_push : {X : Type 0} (answers : X → List Answer) (ns : List ℕ) (xs : List X) (n : ℕ) (x : X) → length ns ≡ length xs
    → block_texts answers (ns ++ n ∷ []) (xs ++ x ∷ []) ≡ block_texts answers ns xs ++ one_text n (answers x)
texts_push answers [] [] n x same = append-nil (one_text n (answers x))
texts_push answers [] (y ∷ ys) n x same = absurd (omega (arith, same))
texts_push answers (m ∷ ns) [] n x same = absurd (omega (arith, same))
texts_push answers (m ∷ ns) (y ∷ ys) n x same =
    ap (λ t. one_text m (answers y) ++ t) (texts_push answers ns ys n x (omega (arith, same))) ∙ sym (append_assoc (one_text m (answers y)) (block_texts answers ns ys) (one_text n (answers x)))

-- the text of one block more, at a place
pub texts_more : {X : Type 0} (answers : X → List Answer) (ns : List ℕ) (xs : List X) (i n : ℕ) (x : X) → length ns ≡ length xs → i < length xs → get_or ns i n ≡ n → get_or xs i x ≡ x
    → block_texts answers (take (i + 1) ns) (take (i + 1) xs) ≡ block_texts answers (take i ns) (take i xs) ++ one_text n (answers x)
texts_more answers ns xs i n x same low is at =
    let numbers : take (i + 1) ns ≡ take i ns ++ n ∷ [] = take_more ns i n (omega (arith, same, low)) ∙ ap (λ (k : ℕ). take i ns ++ k ∷ []) is in
    let ones : take (i + 1) xs ≡ take i xs ++ x ∷ [] = take_more xs i x low ∙ ap (λ k. take i xs ++ k ∷ []) at in
    let left = length-take-le i ns (omega (arith, same, low)) in
    let right = length-take-le i xs (omega (arith, low)) in
    (λ j. block_texts answers (numbers j) (ones j)) ∙ texts_push answers (take i ns) (take i xs) n x (left ∙ sym right)

-- one more of a list, at a place
pub all_more : {X : Type 0} (P : X → Type 0) (xs : List X) (i : ℕ) (x : X) → i < length xs → get_or xs i x ≡ x → All P (take i xs) → P x → All P (take (i + 1) xs)
all_more P xs i x low at all one = subst (All P) (sym (take_more xs i x low ∙ ap (λ k. take i xs ++ k ∷ []) at)) (All-push P (take i xs) x all one)

pub flat_more : {X : Type 0} (f : X → List ℕ) (xs : List X) (i : ℕ) (x : X) → i < length xs → get_or xs i x ≡ x → flat_map f (take (i + 1) xs) ≡ flat_map f (take i xs) ++ f x
flat_more f xs i x low at = ap (flat_map f) (take_more xs i x low ∙ ap (λ k. take i xs ++ k ∷ []) at) ∙ push_text f (take i xs) x

-- one more block that has a pass
pub enrolled_push : (c : ℕ) (blocks : List ThreadCalls) (ones : List Enrolled) (block : ThreadCalls) (one : Enrolled) → AreEnrolled c blocks ones
    → (one.number ≡ block.number) × (one.calls ≡ block.calls) × (one.pass.caller ≡ c + length blocks) × (one.pass.seen ≡ []) → AreEnrolled c (blocks ++ block ∷ []) (ones ++ one ∷ [])
enrolled_push c [] [] block one so_far is = ((is.0, is.1, is.2 ∙ omega arith, is.3), tt)
enrolled_push c [] (o ∷ os) block one so_far is = absurd so_far
enrolled_push c (b ∷ bs) [] block one so_far is = absurd so_far
enrolled_push c (b ∷ bs) (o ∷ os) block one so_far is = (so_far.0, enrolled_push (c + 1) bs os block one so_far.1 (is.0, is.1, is.2 ∙ omega arith, is.3))

abbrev pub number_of : Enrolled → ℕ
number_of one = one.number

-- each block's calls were made by the pass that stood ready for it
pub blocks_of : {X Y : Type 0} (pass : X → Known) (calls : X → List Call) (w : Y → Known) (answers : Y → List Answer) (profile : Profile) (start : List Entry) (c : ℕ)
    (blocks : List ThreadCalls) (ones : List Enrolled) (xs : List X) (ys : List Y) → AreEnrolled c blocks ones
    → AllZip (λ one x. IsReady profile start one (pass x) (calls x)) ones xs → AllZip (λ x y. Ran (pass x) (calls x) (answers y) (w y)) xs ys → All (λ y. All IsRecorded (answers y)) ys
    → AreBlocks profile start c blocks (block_texts answers (map number_of ones) ys) (map w ys)
blocks_of pass calls w answers profile start c [] [] [] [] enrolled ready ran all = refl
blocks_of pass calls w answers profile start c [] [] [] (y ∷ ys) enrolled ready ran all = absurd ran
blocks_of pass calls w answers profile start c [] [] (x ∷ xs) ys enrolled ready ran all = absurd ready
blocks_of pass calls w answers profile start c [] (o ∷ os) xs ys enrolled ready ran all = absurd enrolled
blocks_of pass calls w answers profile start c (b ∷ bs) [] xs ys enrolled ready ran all = absurd enrolled
blocks_of pass calls w answers profile start c (b ∷ bs) (o ∷ os) [] ys enrolled ready ran all = absurd ready
blocks_of pass calls w answers profile start c (b ∷ bs) (o ∷ os) (x ∷ xs) [] enrolled ready ran all = absurd ran
blocks_of pass calls w answers profile start c (b ∷ bs) (o ∷ os) (x ∷ xs) (y ∷ ys) enrolled ready ran all = (
  one_text o.number (answers y),
  block_texts answers (map number_of os) ys,
  refl,
  record {
    pass = pass x;
    of = ready.0.4;
    number = ready.0.1 ∙ enrolled.0.2;
    begins = ready.0.2;
    none = subst (λ (k : ℕ). calls_by k start ≡ calls_by k o.pass.seen) enrolled.0.2 ready.0.3.own ∙ ap (calls_by c) enrolled.0.3;
    lines = flat_map answer_line (answers y);
    answers = record {
      answers = answers y;
      ran = subst (λ (cs : List Call). Ran (pass x) cs (answers y) (w y)) (ready.0.0 ∙ ap (λ v. v.items) enrolled.0.1) ran.0;
      recorded = All-head (λ y. All IsRecorded (answers y)) y ys all;
      lines = refl;
    };
    parts = ap (λ (n : ℕ). one_text n (answers y)) (sym enrolled.0.0);
  },
  blocks_of pass calls w answers profile start (c + 1) bs os xs ys enrolled.1 ready.1 ran.1 (All-tail (λ y. All IsRecorded (answers y)) y ys all),
)

-- nothing stands for a place that is there
pub any_default : (xs : List ℕ) (i a b : ℕ) → i < length xs → get_or xs i a ≡ get_or xs i b
any_default [] i a b low = absurd (omega (arith, low))
any_default (x ∷ xs) zero a b low = refl
any_default (x ∷ xs) (suc i) a b low = any_default xs i a b (omega (arith, low))

pub no_items : {X : Type 0} (xs : List X) → length xs ≡ 0 → xs ≡ []
no_items [] none = refl
no_items (x ∷ xs) none = absurd (omega (arith, none))
