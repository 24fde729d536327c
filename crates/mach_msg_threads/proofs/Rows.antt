-- Lists that grow at their end, place by place beside one another.
use Rattle.std.proofs.Common.{◌≡◌, List, [], ◌∷◌, ◌++◌, refl, sym, ◌∙◌, subst, IfOk, Ok, Err, All}
use Rattle.std.specs.List.{AllZip}
use Rattle.std.proofs.lemmas.List.Elements.{All-nil, All-cons, All-head, All-tail}
use Rattle.std.specs.declared.result.Result.{Result}
use Rattle.mach_model.proofs.Walks.{AllZip-append}
use Rattle.kernel_lock.specs.History.{Known}
use Rattle.mach_msg_threads.specs.declared.block.Call.{Call}
use Rattle.mach_msg_threads.specs.declared.block.Answer.{Answer}
use Rattle.mach_msg_threads.specs.Blocks.{Answered, Ran}

-- one call more
pub ran_more : (v m w : Known) (cs : List Call) (rs : List Answer) (c : Call) (r : Answer) → Ran v cs rs m → Answered c m r w → Ran v (cs ++ c ∷ []) (rs ++ r ∷ []) w
ran_more v m w [] [] c r ran call = (w, subst (λ (k : Known). Answered c k r w) ran call, refl)
ran_more v m w [] (y ∷ ys) c r ran call = absurd ran
ran_more v m w (x ∷ xs) [] c r ran call = absurd ran
ran_more v m w (x ∷ xs) (y ∷ ys) c r ran call = (ran.0, ran.1, ran_more ran.0 m w xs ys c r ran.2 call)

-- calls behind others
pub ran_append : (v m w : Known) (cs more : List Call) (rs answers : List Answer) → Ran v cs rs m → Ran m more answers w → Ran v (cs ++ more) (rs ++ answers) w
ran_append v m w [] more [] answers ran next = subst (λ (k : Known). Ran k more answers w) ran next
ran_append v m w [] more (y ∷ ys) answers ran next = absurd ran
ran_append v m w (x ∷ xs) more [] answers ran next = absurd ran
ran_append v m w (x ∷ xs) more (y ∷ ys) answers ran next = (ran.0, ran.1, ran_append ran.0 m w xs more ys answers ran.2 next)

pub zip_push : {A C : Type 0} (f : A → C → Type 0) (xs : List A) (ys now : List C) (x : A) (y : C) → now ≡ ys ++ y ∷ [] → AllZip f xs ys → f x y → AllZip f (xs ++ x ∷ []) now
zip_push f xs ys now x y is z one = subst (AllZip f (xs ++ x ∷ [])) (sym is) (AllZip-append f xs (x ∷ []) ys (y ∷ []) z (one, tt))

pub zip_through : {A C D : Type 0} (f : A → C → Type 0) (g : C → D → Type 0) (h : A → D → Type 0) → ((a : A) (b : C) (d : D) → f a b → g b d → h a d) → (xs : List A) (ys : List C) (zs : List D) → AllZip f xs ys → AllZip g ys zs → AllZip h xs zs
zip_through f g h both [] [] [] p q = tt
zip_through f g h both [] [] (z ∷ zs) p q = absurd q
zip_through f g h both [] (y ∷ ys) zs p q = absurd p
zip_through f g h both (x ∷ xs) [] zs p q = absurd p
zip_through f g h both (x ∷ xs) (y ∷ ys) [] p q = absurd q
zip_through f g h both (x ∷ xs) (y ∷ ys) (z ∷ zs) p q = (both x y z p.0 q.0, zip_through f g h both xs ys zs p.1 q.1)

-- what belongs to the same as one beside it that belongs to t
pub zip_tied : {A C T : Type 0} (f : A → C → Type 0) (x : A → T) (y : C → T) (t : T) → ((a : A) (b : C) → f a b → y b ≡ x a) → (xs : List A) (ys : List C) → AllZip f xs ys → All (λ a. x a ≡ t) xs → All (λ b. y b ≡ t) ys
zip_tied f x y t same [] [] z p = All-nil (λ b. y b ≡ t)
zip_tied f x y t same [] (b ∷ ys) z p = absurd z
zip_tied f x y t same (a ∷ xs) [] z p = absurd z
zip_tied f x y t same (a ∷ xs) (b ∷ ys) z p =
    All-cons (λ b. y b ≡ t) b ys (same a b z.0 ∙ All-head (λ a. x a ≡ t) a xs p) (zip_tied f x y t same xs ys z.1 (All-tail (λ a. x a ≡ t) a xs p))

pub if_ok_map : {A E : Type 0} (P Q : A → Type 0) (r : Result A E) → ((v : A) → P v → Q v) → IfOk r P → IfOk r Q
if_ok_map P Q (Ok v) f p = f v p
if_ok_map P Q (Err e) f p = p
