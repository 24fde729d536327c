-- Walks over the words and rights of a message: put one after the other, and what the same bodies say of them.
use Rattle.std.proofs.Common.{◌≡◌, ℕ, List, [], ◌∷◌, ◌++◌, refl, sym, subst, arith, inl, inr, length}
use Rattle.std.specs.Prelude.{map}
use Rattle.mach_types.specs.Tokens.{Kind}
use Rattle.mach_types.specs.Messages.{Mark, Item, plain, rights, Body}
use Rattle.mach_types.specs.Grammar.{Wire, data_item, port_item, WireBody}
use Rattle.mach_types.specs.Bodies.{reply_words, wire_words, item_rights, body_words, body_rights, SameItem, SameBody, Through, OneFails, AllZip}
use Rattle.mach_model.specs.ReceivedMeans.{IsReceived}

-- ---- one after the other

pub AllZip-append : {A B : Type 0} (R : A → B → Type 0) (xs vs : List A) (ys ws : List B) → AllZip R xs ys → AllZip R vs ws → AllZip R (xs ++ vs) (ys ++ ws)
AllZip-append R [] vs [] ws a b = b
AllZip-append R [] vs (y ∷ ys) ws a b = absurd a
AllZip-append R (x ∷ xs) vs [] ws a b = absurd a
AllZip-append R (x ∷ xs) vs (y ∷ ys) ws a b = (a.0, AllZip-append R xs vs ys ws a.1 b)

pub Through-append : {S A B : Type 0} (R : S → A → B → S → Type 0) (s t u : S) (xs vs : List A) (ys ws : List B) → Through R s xs ys t → Through R t vs ws u → Through R s (xs ++ vs) (ys ++ ws) u
Through-append {S} R s t u [] vs [] ws a b = subst (λ (x : S). Through R x vs ws u) a b
Through-append R s t u [] vs (y ∷ ys) ws a b = absurd a
Through-append R s t u (x ∷ xs) vs [] ws a b = absurd a
Through-append R s t u (x ∷ xs) vs (y ∷ ys) ws a b = (a.0, a.1, Through-append R a.0 t u xs vs ys ws a.2 b)

-- what fails after the first that go
pub OneFails-after : {S A B : Type 0} (Fails : S → A → Type 0) (Goes : S → A → S → Type 0) (R : S → A → B → S → Type 0) → ((s : S) (x : A) (y : B) (t : S) → R s x y t → Goes s x t) →
    (s t : S) (xs vs : List A) (ys : List B) → Through R s xs ys t → OneFails Fails Goes t vs → OneFails Fails Goes s (xs ++ vs)
OneFails-after {S} Fails Goes R goes s t [] vs [] a b = subst (λ (x : S). OneFails Fails Goes x vs) a b
OneFails-after Fails Goes R goes s t [] vs (y ∷ ys) a b = absurd a
OneFails-after Fails Goes R goes s t (x ∷ xs) vs [] a b = absurd a
OneFails-after Fails Goes R goes s t (x ∷ xs) vs (y ∷ ys) a b = inr (a.0, goes s x y a.0 a.1, OneFails-after Fails Goes R goes a.0 t xs vs ys a.2 b)

pub OneFails-first : {S A : Type 0} (Fails : S → A → Type 0) (Goes : S → A → S → Type 0) (s : S) (xs vs : List A) → OneFails Fails Goes s xs → OneFails Fails Goes s (xs ++ vs)
OneFails-first Fails Goes s [] vs a = absurd a
OneFails-first Fails Goes s (x ∷ xs) vs (inl a) = inl a
OneFails-first Fails Goes s (x ∷ xs) vs (inr a) = inr (a.0, a.1, OneFails-first Fails Goes a.0 xs vs a.2)

-- ---- what the same bodies say

-- each word with its right, of an item whose number has this kind
pub each_word : (R : ℕ → Kind → Type 0) (number : ℕ) (kind : Kind) → R number kind → (words : List ℕ) (marks : List Mark) → length marks ≡ length words →
    AllZip (λ (w : ℕ × ℕ) (r : Kind × Mark). R w.0 r.0) (map (λ (w : ℕ). (number, w)) words) (map (λ (m : Mark). (kind, m)) marks)
each_word R number kind is [] [] e = tt
each_word R number kind is [] (m ∷ ms) e = absurd (omega (arith, e))
each_word R number kind is (w ∷ ws) [] e = absurd (omega (arith, e))
each_word R number kind is (w ∷ ws) (m ∷ ms) e = (is, each_word R number kind is ws ms (omega (arith, e)))

pub SameItem-each : (R : ℕ → Kind → Type 0) (w : Wire) (x : Item) → SameItem R w x → AllZip (λ (w : ℕ × ℕ) (r : Kind × Mark). R w.0 r.0) (wire_words w) (item_rights x)
SameItem-each R (data_item f n s c bytes padding) x e = subst (λ (y : Item). AllZip (λ (w : ℕ × ℕ) (r : Kind × Mark). R w.0 r.0) [] (item_rights y)) (sym e) tt
SameItem-each R (port_item f number words) (rights g kind marks) e = each_word R number kind e.1 words marks e.2
SameItem-each R (port_item f number words) (plain g n s c bytes padding) e = absurd e

SameItems-each : (R : ℕ → Kind → Type 0) (ws : List Wire) (xs : List Item) → AllZip (SameItem R) ws xs → AllZip (λ (w : ℕ × ℕ) (r : Kind × Mark). R w.0 r.0) (body_words (WireBody.items ws)) (body_rights (Body.items xs))
SameItems-each R [] [] e = tt
SameItems-each R [] (x ∷ xs) e = absurd e
SameItems-each R (w ∷ ws) [] e = absurd e
SameItems-each R (w ∷ ws) (x ∷ xs) e =
    AllZip-append (λ (w : ℕ × ℕ) (r : Kind × Mark). R w.0 r.0) (wire_words w) (body_words (WireBody.items ws)) (item_rights x) (body_rights (Body.items xs)) (SameItem-each R w x e.0) (SameItems-each R ws xs e.1)

-- Each word of a body has a right of a kind that its number allows.
pub SameBody-each : (R : ℕ → Kind → Type 0) (written : WireBody) (body : Body) → SameBody R written body → AllZip (λ (w : ℕ × ℕ) (r : Kind × Mark). R w.0 r.0) (body_words written) (body_rights body)
SameBody-each R (WireBody.raw bytes) (Body.raw others) e = tt
SameBody-each R (WireBody.items ws) (Body.items xs) e = SameItems-each R ws xs e
SameBody-each R (WireBody.raw bytes) (Body.items xs) e = absurd e
SameBody-each R (WireBody.items ws) (Body.raw others) e = absurd e

-- the words of a reply: none, or the one of a right
pub no_reply : (number word : ℕ) → number ≡ 0 → reply_words number word ≡ []
no_reply number word e = rw e refl

pub one_reply : (number word : ℕ) (kind : Kind) → IsReceived number kind → reply_words number word ≡ (number, word) ∷ []
one_reply number word kind e = grind arith
