-- How many rights of a kind for a port a step's own part makes, at most, with those that it owes a notice.
use Rattle.std.proofs.Common.{◌≡◌, ℕ, zero, suc, ◌+◌, ◌-◌, ◌≤◌, List, [], ◌∷◌, refl, sym, ap, ◌∙◌, arith, true, false, Bool, inl, inr, Option, Some, None}
use Rattle.std.specs.Prelude.{◌==◌, ◌&&◌, ◌||◌, if◌then◌else◌, nat_lt, MatchBool}
use Rattle.std.specs.FinMap as map
use Rattle.std.proofs.lemmas.Bool.{eq-eqb}
use Rattle.std.proofs.lemmas.Bool.Decides.{eqb_tells}
use Rattle.mach_types.specs.declared.rights.Disposition.{Disposition}
use Rattle.mach_types.specs.declared.rights.Disposition.TheVariants.{MoveReceive, MoveSend, MoveSendOnce, CopySend, MakeSend, MakeSendOnce}
use Rattle.mach_types.specs.Numbers.{null_word, dead_word, disposition}
use Rattle.mach_types.specs.Rights.{disposition_number}
use Rattle.mach_types.specs.Tokens.{Kind, receive, send, send_once, Place, Token, token, count, is_of}
use Rattle.mach_types.specs.Messages.{Mark, ReplyRight, absent, present}
use Rattle.mach_types.specs.Bodies.{Through}
use Rattle.mach_model.specs.State.{State, Target, Names, lookup, held}
use Rattle.mach_model.specs.CopyIn.{IsLegal, taken_by, put_by, name_kept, changed_by, CopyRight, CopyWord, CopyReply, CopyCarried}
use Rattle.mach_laws.specs.Making.{is_made, is_port, made_by_word, made_by_words}
use Rattle.mach_laws.proofs.Shrinking.{SameRightsNamed, kept_named, without_named, fewer_named}

-- ---- one right that is copied in

number_of : (n : ℕ) (d : Disposition) → disposition n ≡ Some d → disposition_number d ≡ n
number_of n d e = grind (arith, eqb_tells)

module _ (kind : Kind) (p : ℕ) where
  abbrev of : Token → Bool
  of = is_of kind p

  one : (q : ℕ) (k : Kind) (place : Place) → ℕ
  one q k place = count of (token k q place ∷ [])

  -- what comes is what goes, and what is made
  made : (s : State) (task : ℕ) (d : Disposition) (target : Target) (place : Place) → IsLegal s task d target →
      count of (put_by d target place) ≡ count of (taken_by d target task) + (if is_made kind (disposition_number d) && is_port p (Some target) then 1 else 0)
  made s task d target place legal = by kind d target legal
    where
      by : (kind : Kind) (d : Disposition) (target : Target) → IsLegal s task d target →
          count (is_of kind p) (put_by d target place) ≡ count (is_of kind p) (taken_by d target task) + (if is_made kind (disposition_number d) && is_port p (Some target) then 1 else 0)
      by receive MoveReceive (Target.port q) legal = omega arith
      by send MoveReceive (Target.port q) legal = omega arith
      by send_once MoveReceive (Target.port q) legal = omega arith
      by receive MoveSend (Target.port q) legal = omega arith
      by send MoveSend (Target.port q) legal = omega arith
      by send_once MoveSend (Target.port q) legal = omega arith
      by receive CopySend (Target.port q) legal = omega arith
      by send CopySend (Target.port q) legal = omega arith
      by send_once CopySend (Target.port q) legal = omega arith
      by receive MakeSend (Target.port q) legal = omega arith
      by send MakeSend (Target.port q) legal = omega arith
      by send_once MakeSend (Target.port q) legal = omega arith
      by receive MakeSendOnce (Target.port q) legal = omega arith
      by send MakeSendOnce (Target.port q) legal = omega arith
      by send_once MakeSendOnce (Target.port q) legal = omega arith
      by receive MoveSendOnce (Target.once q) legal = omega arith
      by send MoveSendOnce (Target.once q) legal = omega arith
      by send_once MoveSendOnce (Target.once q) legal = omega arith
      by receive MoveSend (Target.dead n) legal = omega arith
      by send MoveSend (Target.dead n) legal = omega arith
      by send_once MoveSend (Target.dead n) legal = omega arith
      by receive MoveSendOnce (Target.dead n) legal = omega arith
      by send MoveSendOnce (Target.dead n) legal = omega arith
      by send_once MoveSendOnce (Target.dead n) legal = omega arith
      by receive CopySend (Target.dead n) legal = omega arith
      by send CopySend (Target.dead n) legal = omega arith
      by send_once CopySend (Target.dead n) legal = omega arith
      by k MoveReceive (Target.once q) legal = absurd legal
      by k MoveReceive (Target.dead n) legal = absurd legal
      by k MoveReceive (Target.set n) legal = absurd legal
      by k MoveSend (Target.once q) legal = absurd legal
      by k MoveSend (Target.set n) legal = absurd legal
      by k MoveSendOnce (Target.port q) legal = absurd legal
      by k MoveSendOnce (Target.set n) legal = absurd legal
      by k CopySend (Target.once q) legal = absurd legal
      by k CopySend (Target.set n) legal = absurd legal
      by k MakeSend (Target.once q) legal = absurd legal
      by k MakeSend (Target.dead n) legal = absurd legal
      by k MakeSend (Target.set n) legal = absurd legal
      by k MakeSendOnce (Target.once q) legal = absurd legal
      by k MakeSendOnce (Target.dead n) legal = absurd legal
      by k MakeSendOnce (Target.set n) legal = absurd legal

  -- as many as the word makes, read through the task's names
  pub copied : (task : ℕ) (place : Place) (number name : ℕ) (old : State) (mark : Mark) (new : State) → CopyRight task place number name old mark new →
      count of new.ledger ≡ count of old.ledger + made_by_word (old.naming task) kind p (number, name)
  copied task place number name old mark new c =
      let m = c.tokens (λ x. if of x then 1 else 0) in
      let e = made old task c.given c.target place c.legal in
      let f : (if is_made kind (disposition_number c.given) && is_port p (Some c.target) then 1 else 0) ≡ made_by_word (old.naming task) kind p (number, name) =
      ap (λ (k : ℕ). if is_made kind k && is_port p (Some c.target) then 1 else 0) (number_of number c.given c.is_given) ∙ ap (λ (o : Option Target). if is_made kind number && is_port p o then 1 else 0) (sym c.found) in
      omega (arith, m, e, f)

  -- ---- names that are fewer make no more

  port_is : (o : Option Target) → is_port p o ≡ true → o ≡ Some (Target.port p)
  port_is (Some (Target.port q)) e = elim (eqb_tells q p) [
    | inl h ↦ ap (λ (x : ℕ). Some (Target.port x)) h.1
    | inr h ↦ absurd (let f = h.0 in cc)
  ]
  port_is (Some (Target.once q)) e = absurd (cc)
  port_is (Some (Target.dead n)) e = absurd (cc)
  port_is (Some (Target.set n)) e = absurd (cc)
  port_is None e = absurd (cc)

  no_more : (k : Bool) (o u : Option Target) → (is_port p o ≡ true → is_port p u ≡ true) → (if k && is_port p o then 1 else 0) ≤ (if k && is_port p u then 1 else 0)
  no_more k o u f = go k (is_port p o) (is_port p u) f
    where
      go : (k a b : Bool) → (a ≡ true → b ≡ true) → (if k && a then suc zero else zero) ≤ (if k && b then suc zero else zero)
      go false a b f = omega arith
      go true false b f = omega arith
      go true true true f = omega arith
      go true true false f = absurd (let e = f refl in cc)

  word_less : (task : ℕ) (old new : State) (w : ℕ × ℕ) → SameRightsNamed old new → made_by_word (new.naming task) kind p w ≤ made_by_word (old.naming task) kind p w
  word_less task old new w named = no_more (is_made kind w.0) (lookup new task w.1) (lookup old task w.1)
      (λ is. rw (named task w.1 (Target.port p) tt (port_is (lookup new task w.1) is)) (eq-eqb p p refl))

  words_less : (task : ℕ) (old new : State) (ws : List (ℕ × ℕ)) → SameRightsNamed old new → made_by_words (new.naming task) kind p ws ≤ made_by_words (old.naming task) kind p ws
  words_less task old new [] named = omega arith
  words_less task old new (w ∷ ws) named = let a = word_less task old new w named in let b = words_less task old new ws named in omega (arith, a, b)

-- ---- copying in takes names away

same_named : (old new : State) → new.naming ≡ old.naming → SameRightsNamed old new
same_named old new e task name x right is = ap (λ (f : ℕ → Names). map.get (f task) name) (sym e) ∙ is

named_trans : (a b c : State) → SameRightsNamed a b → SameRightsNamed b c → SameRightsNamed a c
named_trans a b c f g task name x right is = f task name x right (g task name x right is)

changed_named : (d : Disposition) (target : Target) (task name : ℕ) (old : State) → SameRightsNamed old (changed_by d target task name old)
changed_named MoveReceive (Target.port p) task name old = named_trans old (name_kept (nat_lt 0 (held old task send p)) task name old) (changed_by MoveReceive (Target.port p) task name old)
    (kept_named (nat_lt 0 (held old task send p)) task name old) (same_named (name_kept (nat_lt 0 (held old task send p)) task name old) (changed_by MoveReceive (Target.port p) task name old) refl)
changed_named MoveSend (Target.port p) task name old = kept_named (nat_lt 1 (held old task send p) || nat_lt 0 (held old task receive p)) task name old
changed_named MakeSend (Target.port p) task name old = same_named old (changed_by MakeSend (Target.port p) task name old) refl
changed_named MoveSendOnce (Target.once p) task name old = without_named task name old
changed_named MoveSend (Target.dead n) task name old = fewer_named (nat_lt 1 n) task name (n - 1) old
changed_named MoveSendOnce (Target.dead n) task name old = fewer_named (nat_lt 1 n) task name (n - 1) old
changed_named d target task name old = same_named old old refl

copied_named : (task : ℕ) (place : Place) (number name : ℕ) (old : State) (mark : Mark) (new : State) → CopyRight task place number name old mark new → SameRightsNamed old new
copied_named task place number name old mark new c = named_trans old (changed_by c.given c.target task name old) new (changed_named c.given c.target task name old)
    (same_named (changed_by c.given c.target task name old) new (ap (λ (s : State). s.naming) c.rest))

pick : (b : Bool) (P Q R : Type 0) → (P → R) → (Q → R) → MatchBool b P Q → R
pick true P Q R f g h = f h
pick false P Q R f g h = g h

-- What the words of a text make.
pub record Adds (kind : Kind) (p task : ℕ) (old : State) (ws : List (ℕ × ℕ)) (new : State) : Type 0 where
  pub most : count (is_of kind p) new.ledger ≤ count (is_of kind p) old.ledger + made_by_words (old.naming task) kind p ws
  pub least : count (is_of kind p) old.ledger ≤ count (is_of kind p) new.ledger
  pub named : SameRightsNamed old new

module _ (kind : Kind) (p task : ℕ) (place : Place) where
  as_it_was : (old new : State) (ws : List (ℕ × ℕ)) → new ≡ old → Adds kind p task old ws new
  as_it_was old new ws e = let f = ap (λ (s : State). count (is_of kind p) s.ledger) e in
      record { most = omega (arith, f); least = omega (arith, f); named = same_named old new (ap (λ (s : State). s.naming) e) }

  pub right_adds : (number word : ℕ) (old : State) (mark : Mark) (new : State) → CopyRight task place number word old mark new → Adds kind p task old ((number, word) ∷ []) new
  right_adds number word old mark new c =
      let e = copied kind p task place number word old mark new c in record { most = omega (arith, e); least = omega (arith, e); named = copied_named task place number word old mark new c }

  word_adds : (number word : ℕ) (old : State) (mark : Mark) (new : State) → CopyWord task place number word old mark new → Adds kind p task old ((number, word) ∷ []) new
  word_adds number word old mark new h = pick (word == null_word) _ _ _ (λ a. as_it_was old new ((number, word) ∷ []) a.1)
      (λ b. pick (word == dead_word) _ _ _ (λ a. as_it_was old new ((number, word) ∷ []) a.1) (λ c. right_adds number word old mark new c) b) h

  pub then_adds : (w : ℕ × ℕ) (ws : List (ℕ × ℕ)) (old mid new : State) → Adds kind p task old (w ∷ []) mid → Adds kind p task mid ws new → Adds kind p task old (w ∷ ws) new
  then_adds w ws old mid new a b =
      let x = a.most in let y = b.most in let l = words_less kind p task old mid ws a.named in let u = a.least in let v = b.least in
      record { most = omega (arith, x, y, l); least = omega (arith, u, v); named = named_trans old mid new a.named b.named }

  pub reply_adds : (number word : ℕ) (old : State) (reply : ReplyRight) (new : State) → CopyReply task place number word old reply new → Adds kind p task old ((number, word) ∷ []) new
  reply_adds number word old absent new h = as_it_was old new ((number, word) ∷ []) h.2
  reply_adds number word old (present k m) new h = word_adds number word old m new h.1

  pub body_adds : (ws : List (ℕ × ℕ)) (old : State) (rs : List (Kind × Mark)) (new : State) → Through (CopyCarried task place) old ws rs new → Adds kind p task old ws new
  body_adds [] old [] new h = as_it_was old new [] h
  body_adds (w ∷ ws) old (r ∷ rs) new h = then_adds w ws old h.0 new (word_adds w.0 w.1 old r.1 h.0 h.1) (body_adds ws h.0 rs new h.2)
  body_adds [] old (r ∷ rs) new h = absurd h
  body_adds (w ∷ ws) old [] new h = absurd h
