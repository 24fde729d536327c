-- What runs show after one is added.
use Rattle.std.proofs.Common.{◌≡◌, ℕ, List, [], ◌∷◌, ◌++◌, ◌+◌, ap, ◌∙◌, sym, append_assoc, append-nil, replicate, refl, suc, zero, arith}
use Rattle.mach_scene_base.specs.declared.thing.Thing.{Thing}
use Rattle.mach_scene_base.specs.declared.runs.Run.{Run}
use Rattle.mach_scene_base.specs.Runs.{shown}

shown-append : (xs : List Run) (run : Run) → shown (xs ++ run ∷ []) ≡ shown xs ++ replicate run.count run.thing
unfolding shown
shown-append [] run = append-nil (replicate run.count run.thing)
shown-append (x ∷ xs) run =
    ap (λ (l : List Thing). replicate x.count x.thing ++ l) (shown-append xs run)
    ∙ sym (append_assoc (replicate x.count x.thing) (shown xs) (replicate run.count run.thing))

replicate-more : (n : ℕ) (t : Thing) → replicate (suc n) t ≡ replicate n t ++ t ∷ []
replicate-more zero t = refl
replicate-more (suc n) t = ap (λ (l : List Thing). t ∷ l) (replicate-more n t)

pub shown-one : (before after : List Run) (run : Run) (thing : Thing) → after ≡ before ++ run ∷ [] → run.count ≡ 1 → run.thing ≡ thing
    → shown after ≡ shown before ++ thing ∷ []
shown-one before after run thing added one is =
    ap shown added ∙ shown-append before run
    ∙ ap (λ (n : ℕ). shown before ++ replicate n run.thing) one
    ∙ ap (λ (t : Thing). shown before ++ t ∷ []) is

pub shown-longer : (old rest after : List Run) (last run : Run) (thing : Thing) → old ≡ rest ++ last ∷ [] → last.thing ≡ thing
    → after ≡ rest ++ run ∷ [] → run.thing ≡ thing → run.count ≡ last.count + 1 → shown after ≡ shown old ++ thing ∷ []
shown-longer old rest after last run thing was same added is longer =
    let next : run.count ≡ suc last.count = omega (longer, arith) in
    let now : shown after ≡ shown rest ++ replicate (suc last.count) thing =
    ap shown added ∙ shown-append rest run
    ∙ ap (λ (n : ℕ). shown rest ++ replicate n run.thing) next
    ∙ ap (λ (t : Thing). shown rest ++ replicate (suc last.count) t) is in
    let before : shown old ≡ shown rest ++ replicate last.count thing =
    ap shown was ∙ shown-append rest last ∙ ap (λ (t : Thing). shown rest ++ replicate last.count t) same in
    now ∙ ap (λ (l : List Thing). shown rest ++ l) (replicate-more last.count thing)
    ∙ sym (append_assoc (shown rest) (replicate last.count thing) (thing ∷ []))
    ∙ ap (λ (l : List Thing). l ++ thing ∷ []) (sym before)

pub shown-first : (before after : List Run) (run : Run) (n : ℕ) (thing : Thing) → before ≡ [] → after ≡ before ++ run ∷ []
    → run.count ≡ n → run.thing ≡ thing → shown after ≡ replicate n thing
unfolding shown
shown-first before after run n thing none added count is =
    ap shown added ∙ ap (λ (l : List Run). shown (l ++ run ∷ [])) none ∙ append-nil (replicate run.count run.thing)
    ∙ ap (λ (k : ℕ). replicate k run.thing) count
    ∙ ap (λ (t : Thing). replicate n t) is
