-- Beginnings of a history, and the calls of one caller.
use Rattle.std.proofs.Common.{◌≡◌, ◌≢◌, ◌⊎◌, ℕ, zero, suc, ◌+◌, ◌≤◌, ◌==◌, Bool, true, false, List, [], ◌∷◌, ◌++◌, length, inl, inr, refl, sym, ap, ◌∙◌, subst, ⊎_elim, arith, append_assoc, length-append}
use Rattle.std.proofs.lemmas.List.{append-nil}
use mathlib.Core.Option.{some, some-ne-none, some-injective}
use lib.ListN.{get_elem?}
use Rattle.atomic_table.specs.Seated.{TableId}
use Rattle.std.proofs.Common.{eq-eqb, ne_eqb}
use Rattle.kernel_lock.specs.declared.entry.Entry.{Entry}
use Rattle.mach_types.specs.declared.profiles.Profile.{Profile}
use Rattle.mach_types.specs.declared.calls.Event.{Event}
use Rattle.mach_types.specs.declared.calls.Reply.{Reply}
use Rattle.mach_types.specs.declared.touched.Touched.{Touched}
use Rattle.kernel_lock.specs.History.{Legal, StartsWith, keep_if, calls_by, CountsFit, Known, Extends, Recorded, Stepped, Called, entry}
use Rattle.std.proofs.Common.{◌<◌, get_or, set, get_or-set_same, get_or-set_other}
use mathlib.Core.Logic.{dite}
use native.Mathlib.Decide.{ℕ_discrete}

pub starts_self : (log : List Entry) → StartsWith log log
starts_self log = ([], sym (append-nil log))

pub starts_empty : (log : List Entry) → StartsWith log []
starts_empty log = (log, refl)

pub starts_more : (log seen more : List Entry) → StartsWith log seen → StartsWith (log ++ more) seen
starts_more log seen more s = (s.0 ++ more, ap (λ l. l ++ more) s.1 ∙ append_assoc seen s.0 more)

pub at_end : {A : Type 0} (l : List A) (a b : A) (j : ℕ) → get_elem? (l ++ a ∷ []) j ≡ some b → (get_elem? l j ≡ some b) ⊎ ((j ≡ length l) × (a ≡ b))
at_end [] a b zero e = inr (refl, some-injective a b e)
at_end [] a b (suc j) e = absurd (some-ne-none b (sym e))
at_end (x ∷ xs) a b zero e = inl e
at_end (x ∷ xs) a b (suc j) e = ⊎_elim (λ t. inl t) (λ t. inr (ap suc t.0, t.1)) (at_end xs a b j e)

keep_append : (b : Bool) (e : Entry) (xs ys : List Entry) → keep_if b e (xs ++ ys) ≡ keep_if b e xs ++ ys
keep_append true e xs ys = refl
keep_append false e xs ys = refl

pub calls_append : (c : ℕ) (xs ys : List Entry) → calls_by c (xs ++ ys) ≡ calls_by c xs ++ calls_by c ys
calls_append c [] ys = refl
calls_append c (x ∷ xs) ys = ap (keep_if (x.caller == c) x) (calls_append c xs ys) ∙ keep_append (x.caller == c) x (calls_by c xs) (calls_by c ys)

pub calls_own : (c : ℕ) (log : List Entry) (e : Entry) → e.caller ≡ c → calls_by c (log ++ e ∷ []) ≡ calls_by c log ++ e ∷ []
calls_own c log e own = calls_append c log (e ∷ []) ∙ ap (λ b. calls_by c log ++ keep_if b e []) (eq-eqb e.caller c own)

pub calls_other : (c : ℕ) (log : List Entry) (e : Entry) → e.caller ≢ c → calls_by c (log ++ e ∷ []) ≡ calls_by c log
calls_other c log e other = calls_append c log (e ∷ []) ∙ ap (λ b. calls_by c log ++ keep_if b e []) (ne_eqb e.caller c other) ∙ append-nil (calls_by c log)

pub calls_few : (c : ℕ) (log : List Entry) → length (calls_by c log) ≤ length log
calls_few c [] = omega arith
calls_few c (x ∷ xs) = few (x.caller == c) (calls_few c xs)
  where
    few : (b : Bool) → length (calls_by c xs) ≤ length xs → length (keep_if b x (calls_by c xs)) ≤ suc (length xs)
    few true le = omega arith
    few false le = omega arith

past_end : (xs : List ℕ) → get_or xs (length xs) 0 ≡ 0
past_end [] = refl
past_end (x ∷ xs) = past_end xs

empty_list : (xs : List Entry) → length xs ≡ 0 → xs ≡ []
empty_list [] e = refl
empty_list (x ∷ xs) e = absurd (omega arith)

-- a caller with no count has no call
pub no_calls : (counts : List ℕ) (log : List Entry) → CountsFit counts log → calls_by (length counts) log ≡ []
no_calls counts log fit = empty_list (calls_by (length counts) log) (sym (fit (length counts)) ∙ past_end counts)

past_any : (xs : List ℕ) (c : ℕ) → length xs ≤ c → get_or xs c 0 ≡ 0
past_any [] zero le = refl
past_any [] (suc c) le = refl
past_any (x ∷ xs) zero le = absurd (omega (arith, le))
past_any (x ∷ xs) (suc c) le = past_any xs c (omega (arith, le))

-- nobody has called whose count isn't there
pub no_calls_past : (counts : List ℕ) (log : List Entry) → CountsFit counts log → (c : ℕ) → length counts ≤ c → calls_by c log ≡ []
no_calls_past counts log fit c le = empty_list (calls_by c log) (sym (fit c) ∙ past_any counts c le)

push_zero : (xs : List ℕ) (c : ℕ) → get_or (xs ++ 0 ∷ []) c 0 ≡ get_or xs c 0
push_zero [] zero = refl
push_zero [] (suc c) = refl
push_zero (x ∷ xs) zero = refl
push_zero (x ∷ xs) (suc c) = push_zero xs c

pub one_more_count : (counts : List ℕ) (log : List Entry) → CountsFit counts log → CountsFit (counts ++ 0 ∷ []) log
one_more_count counts log fit c = push_zero counts c ∙ fit c

pub one_more_call : (counts : List ℕ) (log : List Entry) (e : Entry) (n : ℕ) → e.caller < length counts → n ≡ get_or counts e.caller 0 + 1 → CountsFit counts log → CountsFit (set counts e.caller n) (log ++ e ∷ [])
one_more_call counts log e n inside is fit c = dite (ℕ_discrete c e.caller)
    (λ same. subst (λ (k : ℕ). get_or (set counts e.caller n) k 0 ≡ length (calls_by k (log ++ e ∷ []))) (sym same)
    (get_or-set_same counts e.caller n 0 inside ∙ omega (arith, is, fit e.caller, ap length (calls_own e.caller log e refl), length-append (calls_by e.caller log) (e ∷ []))))
    (λ other. get_or-set_other counts e.caller c n 0 other ∙ fit c ∙ ap length (sym (calls_other c log e (λ x. other (sym x)))))

-- a call that was answered was recorded
pub stepped_of : (before after : List Entry) (v w : Known) (event : Event) (reply : Reply) → reply ≢ Reply.NoRecord → Recorded before after v w (entry v.caller event reply) → Stepped before after v w event reply
stepped_of before after v w event (Reply.Code a) not_none made = made
stepped_of before after v w event (Reply.Task a) not_none made = made
stepped_of before after v w event (Reply.Name a) not_none made = made
stepped_of before after v w event (Reply.Refs a) not_none made = made
stepped_of before after v w event (Reply.NameType a) not_none made = made
stepped_of before after v w event (Reply.Names a) not_none made = made
stepped_of before after v w event (Reply.Status a) not_none made = made
stepped_of before after v w event (Reply.Members a) not_none made = made
stepped_of before after v w event (Reply.Right a b) not_none made = made
stepped_of before after v w event (Reply.Previous a) not_none made = made
stepped_of before after v w event (Reply.Message a) not_none made = made
stepped_of before after v w event (Reply.Empty a) not_none made = made
stepped_of before after v w event (Reply.TooLarge a) not_none made = made
stepped_of before after v w event Reply.NoRecord not_none made = absurd (not_none refl)

pub called_of : (before after : List Entry) (v w : Known) (event : Event) (reply : Reply) → Stepped before after v w event reply → Called v w event reply
called_of before after v w event (Reply.Code a) made = made.extends
called_of before after v w event (Reply.Task a) made = made.extends
called_of before after v w event (Reply.Name a) made = made.extends
called_of before after v w event (Reply.Refs a) made = made.extends
called_of before after v w event (Reply.NameType a) made = made.extends
called_of before after v w event (Reply.Names a) made = made.extends
called_of before after v w event (Reply.Status a) made = made.extends
called_of before after v w event (Reply.Members a) made = made.extends
called_of before after v w event (Reply.Right a b) made = made.extends
called_of before after v w event (Reply.Previous a) made = made.extends
called_of before after v w event (Reply.Message a) made = made.extends
called_of before after v w event (Reply.Empty a) made = made.extends
called_of before after v w event (Reply.TooLarge a) made = made.extends
called_of before after v w event Reply.NoRecord made = made.pass

-- what a pass has seen goes on to the whole history, and then its call
pub extends : (table : TableId) (log seen now : List Entry) (profile : Profile) (caller : ℕ) (before after : Touched) (e : Entry) → e.caller ≡ caller → StartsWith log seen → calls_by caller log ≡ calls_by caller seen → now ≡ log ++ e ∷ [] → Legal profile now
    → Extends (record { table = table; profile = profile; caller = caller; seen = seen; touched = before }) e (record { table = table; profile = profile; caller = caller; seen = now; touched = after })
extends table log seen now profile caller before after e own begun mine is legal = record {
  table = refl;
  profile = refl;
  caller = refl;
  between = begun.0;
  seen = is ∙ ap (λ l. l ++ e ∷ []) begun.1;
  legal = legal;
  own = ap (calls_by caller) is ∙ calls_own caller log e own ∙ ap (λ l. l ++ e ∷ []) mine;
}
