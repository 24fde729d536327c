-- What is noted of ports, one after another.
use Rattle.std.proofs.Common.{◌≡◌, ℕ, ◌+◌, ◌≤◌, List, [], ◌∷◌, ◌++◌, All, length, Option, Some, None, inl, inr, refl, sym, ap, subst, ◌∙◌, arith, append_assoc}
use Rattle.std.specs.Prelude.{map}
use Rattle.std.proofs.lemmas.Bool.Decides.{eqb_tells}
use Rattle.std.proofs.lemmas.List.{append-nil}
use Rattle.std.proofs.lemmas.List.Elements.{All-append, All-cons, All-nil}
use Rattle.mach_fates.specs.declared.ends.End.{End}
use Rattle.mach_fates.specs.declared.ends.Ends.{Ends}
use Rattle.mach_fates.specs.declared.fates.Fates.{Fates}
use Rattle.mach_fates.specs.Endings.{Known, noted_at}
use Rattle.mach_fates.specs.Keeping.{queued_at}
use Rattle.mach_fates.specs.Noting.{died, Grows, Settled, SettledAt, SettlesAll}
use Rattle.mach_fates.proofs.Counting.{append_one}
use Rattle.mach_fates.proofs.Visiting.{apart_nil, apart_more}

-- Queued messages came behind, up to this place.
pub record Grown (place : ℕ) (old new : List End) : Type 0 where
  pub added : List End
  pub more : new ≡ old ++ added
  pub same : All (λ x. x ≡ End.Queued) added
  pub long : length new ≡ place

pub grown_none : (place : ℕ) (old : List End) → length old ≡ place → Grown place old old
grown_none place old long = record { added = []; more = sym (append-nil old); same = All-nil (λ x. x ≡ End.Queued); long = long }

pub grown_more : (place : ℕ) (old new next : List End) → Grown place old new → next ≡ new ++ End.Queued ∷ [] → Grown (place + 1) old next
grown_more place old new next g more = record {
  added = g.added ++ End.Queued ∷ [];
  more = more ∙ ap (λ (xs : List End). xs ++ End.Queued ∷ []) g.more ∙ append_assoc old g.added (End.Queued ∷ []);
  same = All-append (λ x. x ≡ End.Queued) g.added (End.Queued ∷ []) g.same (All-cons (λ x. x ≡ End.Queued) End.Queued [] refl (All-nil (λ x. x ≡ End.Queued)));
  long = ap length more ∙ append_one new End.Queued ∙ ap (λ (n : ℕ). n + 1) g.long;
}

pub grown_all : (place total : ℕ) (old new : List End) → Grown place old new → (length old ≤ total → place ≡ total) → Grows total old new
grown_all place total old new g end = record { added = g.added; more = g.more; same = g.same; count = λ few. g.long ∙ end few }

-- ---- a port that is settled twice

grows_then : (total : ℕ) (a b c : List End) → Grows total a b → Grows total b c → Grows total a c
grows_then total a b c x y = record {
  added = x.added ++ y.added;
  more = y.more ∙ ap (λ (xs : List End). xs ++ y.added) x.more ∙ append_assoc a x.added y.added;
  same = All-append (λ z. z ≡ End.Queued) x.added y.added x.same y.same;
  count = λ few. (let e = x.count few in y.count (omega (arith, e)));
}

died_twice : (number : ℕ) (x : End) → died number (died number x) ≡ died number x
died_twice number End.Queued = refl
died_twice number (End.Received n who) = refl
died_twice number (End.TooLong n) = refl
died_twice number (End.Died n) = refl

map_twice : (number : ℕ) (xs : List End) → map (died number) (map (died number) xs) ≡ map (died number) xs
map_twice number [] = refl
map_twice number (x ∷ xs) = ap (λ (y : End). y ∷ map (died number) (map (died number) xs)) (died_twice number x) ∙ ap (λ (ys : List End). died number x ∷ ys) (map_twice number xs)

settled_twice : (number : ℕ) (o : Option ℕ) (a b c : Known) → Settled number o a b → Settled number o b c → Settled number o a c
settled_twice number (Some n) a b c x y = record {
  taken = y.taken ∙ x.taken;
  ends = grows_then (a.taken + n) a.ends b.ends c.ends x.ends (subst (λ (m : ℕ). Grows (m + n) b.ends c.ends) x.taken y.ends);
}
settled_twice number None a b c x y = record {
  taken = y.taken ∙ x.taken;
  ends = y.ends ∙ ap (map (died number)) x.ends ∙ map_twice number a.ends;
}

-- ---- ports one after another

pub settles_none : (number : ℕ) (f : Fates) (e : Ends) → SettlesAll number f [] e e
settles_none number f e = λ p. inr (refl, apart_nil p)

pub settles_more : (number : ℕ) (f : Fates) (q : ℕ) (xs : List ℕ) (old mid new : Ends) → SettlesAll number f xs old mid → SettledAt number q (queued_at f q) mid new → SettlesAll number f (xs ++ q ∷ []) old new
settles_more number f q xs old mid new a b = λ p. elim (eqb_tells p q) [
  | inl h ↦ (let at : Settled number (queued_at f p) (noted_at mid p) (noted_at new p) = subst (λ (x : ℕ). Settled number (queued_at f x) (noted_at mid x) (noted_at new x)) (sym h.1) b.settled in
      elim (a p) [
        | inl x ↦ inl (settled_twice number (queued_at f p) (noted_at old p) (noted_at mid p) (noted_at new p) x at)
        | inr x ↦ inl (subst (λ (k : Known). Settled number (queued_at f p) k (noted_at new p)) x.0 at)
      ])
  | inr h ↦ (let same : noted_at new p ≡ noted_at mid p = b.others p h.1 in
      elim (a p) [
        | inl x ↦ inl (subst (λ (k : Known). Settled number (queued_at f p) (noted_at old p) k) (sym same) x)
        | inr x ↦ inr (same ∙ x.0, apart_more p q xs x.1 (λ e. h.1 (sym e)))
      ])
]
