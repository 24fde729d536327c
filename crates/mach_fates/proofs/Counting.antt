-- How origins are appended.
use Rattle.std.proofs.Common.{◌≡◌, ℕ, suc, ◌+◌, ◌≤◌, List, [], ◌∷◌, ◌++◌, All, length, Option, Some, None, refl, sym, ap, ◌∙◌, arith, append_assoc}
use Rattle.std.specs.Option.{option_map}
use Rattle.std.proofs.lemmas.List.{append-nil}
use Rattle.std.proofs.lemmas.List.Elements.{All-append, All-cons, All-nil}
use Rattle.port.specs.Ports.{PortView}
use Rattle.copyin_base.specs.Kept.{Kept}
use Rattle.copyin_base.specs.Worlds.{WorldView, port_at}
use Rattle.mach_fates.specs.declared.origin.Origin.{Origin}
use Rattle.mach_fates.specs.Keeping.{entries_of, Appends}

entries_append : (xs ys : List Origin) → entries_of (xs ++ ys) ≡ entries_of xs ++ entries_of ys
entries_append [] ys = refl
entries_append (x ∷ xs) ys = ap (λ (zs : List ℕ). x.entry ∷ zs) (entries_append xs ys)

pub entries_length : (xs : List Origin) → length (entries_of xs) ≡ length xs
entries_length [] = refl
entries_length (x ∷ xs) = ap suc (entries_length xs)

-- The number came behind, up to this length.
pub record Appended (number place : ℕ) (old new : List Origin) : Type 0 where
  pub added : List ℕ
  pub more : entries_of new ≡ entries_of old ++ added
  pub same : All (λ n. n ≡ number) added
  pub long : length new ≡ place

pub appended_none : (number place : ℕ) (old : List Origin) → length old ≡ place → Appended number place old old
appended_none number place old long = record { added = []; more = sym (append-nil (entries_of old)); same = All-nil (λ n. n ≡ number); long = long }

pub append_one : {A : Type 0} (xs : List A) (y : A) → length (xs ++ y ∷ []) ≡ length xs + 1
append_one [] y = refl
append_one (x ∷ xs) y = let rest = append_one xs y in omega (arith, rest)

pub appended_more : (number place : ℕ) (old new next : List Origin) (o : Origin) → Appended number place old new → o.entry ≡ number → next ≡ new ++ o ∷ [] → Appended number (place + 1) old next
appended_more number place old new next o a is more = record {
  added = a.added ++ o.entry ∷ [];
  more = ap entries_of more ∙ entries_append new (o ∷ []) ∙ ap (λ (xs : List ℕ). xs ++ o.entry ∷ []) a.more ∙ append_assoc (entries_of old) a.added (o.entry ∷ []);
  same = All-append (λ n. n ≡ number) a.added (o.entry ∷ []) a.same (All-cons (λ n. n ≡ number) o.entry [] is (All-nil (λ n. n ≡ number)));
  long = ap length more ∙ append_one new o ∙ ap (λ (n : ℕ). n + 1) a.long;
}

some_same : (m n : ℕ) → Some m ≡ Some n → m ≡ n
some_same m n e = cc

none_some : (n : ℕ) → None ≡ Some n → ⊥
none_some n e = cc

queued_is : (w : WorldView) (p queued n : ℕ) → option_map (λ (v : PortView Kept). length v.queue) (port_at w p) ≡ Some queued → ((v : PortView Kept) → port_at w p ≡ Some v → n ≡ length v.queue) → n ≡ queued
queued_is w p queued n is counts = go (port_at w p) refl is
  where
    go : (o : Option (PortView Kept)) → port_at w p ≡ o → option_map (λ (v : PortView Kept). length v.queue) o ≡ Some queued → n ≡ queued
    go None e h = absurd (none_some queued h)
    go (Some v) e h = counts v e ∙ some_same (length v.queue) queued h

-- all of them
pub appended_all : (number place : ℕ) (w : WorldView) (p n : ℕ) (old new : List Origin) → Appended number place old new → (length old ≤ n → place ≡ n) →
    ((v : PortView Kept) → port_at w p ≡ Some v → n ≡ length v.queue) → Appends number w p (entries_of old) (entries_of new)
appended_all number place w p n old new a end counts = λ queued is.
    let same : n ≡ queued = queued_is w p queued n is counts in
    record {
      added = a.added;
      more = a.more;
      same = a.same;
      count = λ few.
          let shorter : length old ≤ n = omega (arith, few, same, entries_length old) in
          let full = end shorter in
          omega (arith, full, same, a.long, entries_length new);
    }
