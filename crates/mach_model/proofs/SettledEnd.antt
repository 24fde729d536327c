-- A step can always end; what its end leaves of the names.
use Rattle.std.proofs.Common.{◌≡◌, ℕ, zero, suc, ◌+◌, ◌<◌, ◌≤◌, List, [], ◌∷◌, Option, Some, None, refl, sym, ap, subst, ◌∙◌, arith, true, false, Bool, inl, inr, length, ◌++◌, get_or, cond}
use Rattle.std.specs.Prelude.{if◌then◌else◌, ◌==◌, option_map, All, Any, map as list_map, filter, slice_get, ◌&&◌, ◌||◌, not}
use Rattle.std.specs.FinMap as map
use Rattle.std.specs.FinMap.{get-empty, empty_of_len, get-insert, nat_cmp-IsAntisymmetric}
use Rattle.std.specs.FinMap.Entries.{find}
use Rattle.std.specs.Ordering.{nat_cmp, is_eq}
use Rattle.std.specs.Cmp.{nat_cmp_total, eq_by_cmp_equiv}
use Rattle.std.proofs.lemmas.Bool.Decides.{eqb_tells}
use Rattle.std.proofs.lemmas.List.{append-nil, append_assoc, length-append}
use Rattle.std.proofs.lemmas.List.Elements.{All-cons, All-head, All-tail, All-map}
use Rattle.std.specs.declared.cmp.Ordering.{Ordering}
use Rattle.std.specs.declared.cmp.Ordering.TheVariants.{Less, Equal, Greater}
use Rattle.std.proofs.lemmas.Bool.{eq-eqb, ne_eqb, eqb-true, and_from}
use Rattle.mach_types.specs.Numbers.{null_word, dead_word, most_references}
use Rattle.mach_types.specs.Tokens.{Kind, receive, send, send_once, dead_name, in_task, in_message, count, is_of, is_held, is_in_task, Request, no_senders, port_destroyed, Place, in_request, Token, weigh, same_kind}
use Rattle.mach_types.specs.Messages.{Entry}
use Rattle.mach_model.specs.State.{State, Target, Names, lookup, held, at, senders}
use Rattle.mach_model.specs.Lawful.{is_once, onces, tally, HasReferences, LawfulNames}
use Rattle.mach_model.specs.Notices.{Owed, Notice, notice_message, Posted, right_unused, all_posted_tokens}
use Rattle.mach_model.specs.Settles.{PlaceStays, dead_references, settled_target, Settles, StaysWith, TellsAt, PaysFor, GoesFrom, told_by, Ends, due_notices, tokens_of}
use Rattle.mach_model.specs.Midway.{MidLawful}
use Rattle.mach_model.specs.Death.{same_place, Dies}
use Rattle.mach_model.proofs.Names.{pos_or_zero, held_le_of, weigh-append, count_some, left_of, right_of, alike, removed_own, no_values, get_removed, remove_tally, removed_length, at_same, at_other, at_own}
use Rattle.mach_model.proofs.SettledReceives.{and_false, with_task, place_is, in_task_is, two_le, dead_cases, kept_there, stays_if, none_tasked, made_of, less, or_cases, or_right, or_left, of_kind, kind_is, none_posted, Told, told}
use Rattle.mach_model.proofs.Settling.{own_test, is_at}

-- ---- What a step's end leaves of the names: those of ports that died stand for dead names.

-- ---- finite maps of which each value was changed

-- a map that isn't empty has a name
some_name : (m : Names) (n : ℕ) → map.len m ≡ suc n → (name : ℕ) × (v : Target) × (map.get m name ≡ Some v)
some_name m n e = go (map.entries m) refl
  where
    first : (k : ℕ) (v : Target) (es : List (ℕ × Target)) → find nat_cmp k ((k, v) ∷ es) ≡ Some v
    first k v es = rw ((eq_by_cmp_equiv nat_cmp_total).refl k)

    go : (es : List (ℕ × Target)) → map.entries m ≡ es → (name : ℕ) × (v : Target) × (map.get m name ≡ Some v)
    go [] is = absurd (let a = map.len-entries m in let b : length (map.entries m) ≡ 0 = ap length is in omega (arith, a, b, e))
    go (x ∷ es) is = (x.0, x.1, map.get-entries m x.0 ∙ ap (find nat_cmp x.0) is ∙ first x.0 x.1 es)

pub record IsMapped (f : ℕ → Target → Target) (m m' : Names) : Type 0 where
  pub get : (name : ℕ) → map.get m' name ≡ option_map (f name) (map.get m name)

removed_too : (f : ℕ → Target → Target) (m m' : Names) (name : ℕ) → IsMapped f m m' → IsMapped f (map.remove m name) (map.remove m' name)
removed_too f m m' name is = grind (arith, removed_own, get_removed)

none_mapped : (f : Target → Target) (o : Option Target) → o ≡ None → option_map f o ≡ None
none_mapped f o e = ap (option_map f) e

-- as many names, and as many that pass a test
pub mapped_length : (k : ℕ) (f : ℕ → Target → Target) (m m' : Names) → map.len m ≡ k → IsMapped f m m' → map.len m' ≡ k
mapped_length zero f m m' e is = ap map.len (alike m' m (λ n. let none : map.get m n ≡ None = ap (λ (x : Names). map.get x n) (empty_of_len m e) ∙ get-empty nat_cmp n in
    is.get n ∙ none_mapped (f n) (map.get m n) none ∙ sym none)) ∙ e
mapped_length (suc k) f m m' e is =
    let h = some_name m k e in
    let a = removed_length m h.0 h.1 h.2 in
    let b = removed_length m' h.0 (f h.0 h.1) (is.get h.0 ∙ ap (option_map (f h.0)) h.2) in
    let c = mapped_length k f (map.remove m h.0) (map.remove m' h.0) (omega (arith, a, e)) (removed_too f m m' h.0 is) in
    omega (arith, b, c)

pub mapped_tally : (k : ℕ) (f : ℕ → Target → Target) (test test' : Target → Bool) (m m' : Names) → map.len m ≡ k → IsMapped f m m' → ((n : ℕ) (v : Target) → test' (f n v) ≡ test v) →
    tally test' (map.values m') ≡ tally test (map.values m)
mapped_tally zero f test test' m m' e is same =
    let a = empty_of_len m e in
    let b = empty_of_len m' (mapped_length zero f m m' e is) in
    ap (λ (x : Names). tally test' (map.values x)) b ∙ none_there ∙ sym (ap (λ (x : Names). tally test (map.values x)) a)
  where
    none_there : tally test' (map.values (map.empty {X = Target} {R = nat_cmp})) ≡ tally test (map.values (map.empty {X = Target} {R = nat_cmp}))
    none_there = no_values test' ∙ sym (no_values test)
mapped_tally (suc k) f test test' m m' e is same =
    let h = some_name m k e in
    let a = remove_tally test m h.0 h.1 h.2 in
    let b = remove_tally test' m' h.0 (f h.0 h.1) (is.get h.0 ∙ ap (option_map (f h.0)) h.2) in
    let l = removed_length m h.0 h.1 h.2 in
    let c = mapped_tally k f test test' (map.remove m h.0) (map.remove m' h.0) (omega (arith, l, e)) (removed_too f m m' h.0 is) same in
    let d : (if test' (f h.0 h.1) then suc zero else zero) ≡ (if test h.1 then suc zero else zero) = ap (λ (t : Bool). if t then suc zero else zero) (same h.0 h.1) in
    omega (arith, a, b, c, d)

tally_none : {A : Type 0} (xs : List A) → tally (λ (x : A). false) xs ≡ 0
tally_none [] = refl
tally_none (x ∷ xs) = omega (arith, tally_none xs)

-- ---- what a settled target is

module _ (mid new : State) (task name : ℕ) where
  some_is : (a b : Target) → Some a ≡ Some b → a ≡ b
  some_is a b e = cc

  port_is : (b : Bool) (p q n : ℕ) → new.live_port p ≡ b → (if b then Target.port p else Target.dead n) ≡ Target.port q → (p ≡ q) × (new.live_port p ≡ true)
  port_is true p q n e h = (cc, e)
  port_is false p q n e h = absurd (cc)

  once_port : (b : Bool) (p q n : ℕ) → (if b then Target.once p else Target.dead n) ≡ Target.port q → ⊥
  once_port true p q n h = cc
  once_port false p q n h = cc

  port_set : (b : Bool) (p q n : ℕ) → (if b then Target.port p else Target.dead n) ≡ Target.set q → ⊥
  port_set true p q n h = cc
  port_set false p q n h = cc

  once_set : (b : Bool) (p q n : ℕ) → (if b then Target.once p else Target.dead n) ≡ Target.set q → ⊥
  once_set true p q n h = cc
  once_set false p q n h = cc

  -- a name that stands for a port stood for it, and the port lives
  pub settled_port : (o : Option Target) (q : ℕ) → option_map (settled_target mid new task name) o ≡ Some (Target.port q) → (o ≡ Some (Target.port q)) × (new.live_port q ≡ true)
  settled_port None q e = absurd (cc)
  settled_port (Some (Target.port p)) q e = grind (arith, port_is, some_is)
  settled_port (Some (Target.once p)) q e = absurd (once_port (new.live_port p) p q _ (some_is _ _ e))
  settled_port (Some (Target.dead n)) q e = absurd (let f = some_is _ _ e in cc)
  settled_port (Some (Target.set n)) q e = absurd (let f = some_is _ _ e in cc)

  pub settled_set : (o : Option Target) (q : ℕ) → option_map (settled_target mid new task name) o ≡ Some (Target.set q) → o ≡ Some (Target.set q)
  settled_set None q e = absurd (cc)
  settled_set (Some (Target.port p)) q e = absurd (port_set (new.live_port p) p q _ (some_is _ _ e))
  settled_set (Some (Target.once p)) q e = absurd (once_set (new.live_port p) p q _ (some_is _ _ e))
  settled_set (Some (Target.dead n)) q e = absurd (let f = some_is _ _ e in cc)
  settled_set (Some (Target.set n)) q e = e

  -- what stands there stood for something
  pub settled_some : (o : Option Target) (t : Target) → option_map (settled_target mid new task name) o ≡ Some t → (u : Target) × (o ≡ Some u) × (settled_target mid new task name u ≡ t)
  settled_some None t e = absurd (cc)
  settled_some (Some u) t e = (u, refl, some_is _ _ e)

  once_live : (b : Bool) (p q n : ℕ) → new.live_port q ≡ b → new.live_port p ≡ true → is_once p (if b then Target.once q else Target.dead n) ≡ (q == p)
  once_live true p q n e live = refl
  once_live false p q n e live = grind arith

  not_once : (b : Bool) (p q n : ℕ) → is_once p (if b then Target.port q else Target.dead n) ≡ false
  not_once true p q n = refl
  not_once false p q n = refl

  -- a live port's send-once names stay
  pub same_once : (p : ℕ) → new.live_port p ≡ true → (u : Target) → is_once p (settled_target mid new task name u) ≡ is_once p u
  same_once p live (Target.port q) = not_once (new.live_port q) p q _
  same_once p live (Target.once q) = once_live (new.live_port q) p q _ refl live
  same_once p live (Target.dead n) = refl
  same_once p live (Target.set n) = refl

  once_dead : (b : Bool) (p q n : ℕ) → new.live_port q ≡ b → new.live_port p ≡ false → is_once p (if b then Target.once q else Target.dead n) ≡ false
  once_dead true p q n e dead = grind arith
  once_dead false p q n e dead = refl

  -- and no name is a dead port's
  pub no_once : (p : ℕ) → new.live_port p ≡ false → (u : Target) → is_once p (settled_target mid new task name u) ≡ false
  no_once p dead (Target.port q) = not_once (new.live_port q) p q _
  no_once p dead (Target.once q) = once_dead (new.live_port q) p q _ refl dead
  no_once p dead (Target.dead n) = refl
  no_once p dead (Target.set n) = refl

  few_dead : (b : Bool) (n : ℕ) → 0 < n → n ≤ most_references → (0 < dead_references b n) × (dead_references b n ≤ most_references)
  few_dead true n some few = (omega (arith, some), omega arith)
  few_dead false n some few = (some, few)

  became : (b : Bool) (r : Bool) (n : ℕ) (t : Target) → HasReferences t → (b ≡ false → (0 < n) × (n ≤ most_references)) → HasReferences (if b then t else Target.dead (dead_references r n))
  became true r n t has fits = has
  became false r n t has fits = let h = fits refl in few_dead r n h.0 h.1

  pub has_references : (u : Target) → HasReferences u → ((p : ℕ) → u ≡ Target.port p → new.live_port p ≡ false → 0 < held mid task send p) → ((p : ℕ) → held mid task send p ≤ most_references) →
      HasReferences (settled_target mid new task name u)
  has_references (Target.port p) has some few = grind (arith, became)
  has_references (Target.once p) has some few = grind (arith, became)
  has_references (Target.dead n) has some few = has
  has_references (Target.set n) has some few = has

-- ---- the names of one task

module _ (now : ℕ) (old mid : State) (owed : Owed) (new : State) (s : Settles now old mid owed new) where
  -- a live port's rights stay with their tasks
  pub held_live : (task : ℕ) (kind : Kind) (p : ℕ) → new.live_port p ≡ true → held new task kind p ≡ held mid task kind p
  held_live task kind p live =
      let a : held mid task kind p ≡ count (is_held task kind p) s.rights.staying = kept_there now old mid owed new s (is_held task kind p) (λ x t.
      let h = with_task task kind p x t in (ap new.live_port h.0 ∙ live, subst (PlaceStays new) (sym h.1) tt)) in
      let b = made_of now old mid owed new s (is_held task kind p) in
      let c = none_tasked (is_held task kind p) (λ k q r e. and_false _) s.notices.posted in
      omega (arith, a, b, c)

  -- a dead one has none
  pub held_dead : (task : ℕ) (kind : Kind) (p : ℕ) → new.live_port p ≡ false → held new task kind p ≡ 0
  held_dead task kind p dead =
      let a = stays_if now old mid owed new s (is_held task kind p) (λ x stays t.
      let h = (with_task task kind p x t).0 in let f = ap new.live_port h in let g = stays.0 in cc) in
      let b = made_of now old mid owed new s (is_held task kind p) in
      let c = none_tasked (is_held task kind p) (λ k q r e. and_false _) s.notices.posted in
      omega (arith, a, b, c)

  pub mapped : (task : ℕ) → IsMapped (settled_target mid new task) (mid.naming task) (new.naming task)
  mapped task = record { get = s.names task }

  -- what is asked of the names between
  module _ (l : MidLawful mid owed) where
    live_before : (kind : Kind) (p : ℕ) → 0 < count (is_of kind p) mid.ledger → mid.live_port p ≡ true
    live_before kind p some = grind arith

    -- no task has the receive right of a port that dies
    pub dying_unheld : (p : ℕ) → Dies mid p → (task : ℕ) → held mid task receive p ≡ 0
    dying_unheld p d task = elim (dead_cases mid p d) [
      | inl o ↦ (let a = held_le_of task receive p mid.ledger in let b = o.1 in omega (arith, a, b))
      | inr c ↦ (
          let a = two_le (is_of receive p) (λ x. is_in_task task x.place) (λ x. same_place (in_message c.0 c.1.0) x.place)
          (λ x t u. let e = in_task_is task x.place t in let f = place_is (in_message c.0 c.1.0) x.place u in
          let g : in_task task ≡ in_message c.0 c.1.0 = sym e ∙ f in cc) mid.ledger in
          let b = l.most_receive p in let d = c.1.1 in omega (arith, a, b, d))
    ]

    pub named_sends : (task name p : ℕ) → lookup mid task name ≡ Some (Target.port p) → new.live_port p ≡ false → 0 < held mid task send p
    named_sends task name p is dead = grind (arith, pos_or_zero, held_le_of, live_before, dying_unheld)

    pub settled_naming : (task : ℕ) → LawfulNames (new.naming task) (held new task)
    settled_naming task = record {
      space = record {
        not_null = s.names task null_word ∙ none_mapped _ _ ((l.naming task).not_null);
        not_dead = s.names task dead_word ∙ none_mapped _ _ ((l.naming task).not_dead);
        name_fits = λ name target is. let h = settled_some mid new task name (lookup mid task name) target (sym (s.names task name) ∙ is) in (l.naming task).name_fits name h.0 h.1;
        few_names = (let a = mapped_length (map.len (mid.naming task)) (settled_target mid new task) (mid.naming task) (new.naming task) refl (mapped task) in
            let b = (l.naming task).few_names in omega (arith, a, b));
        references = λ name target is.
            let h = settled_some mid new task name (lookup mid task name) target (sym (s.names task name) ∙ is) in
            subst HasReferences h.2 (has_references mid new task name h.0 ((l.naming task).references name h.0 h.1)
            (λ p e. named_sends task name p (h.1 ∙ ap (λ (t : Target). Some t) e)) (λ p. (l.naming task).few_references p));
      };
      has_right = λ name p is.
          let h = settled_port mid new task name (lookup mid task name) p (sym (s.names task name) ∙ is) in
          let a = (l.naming task).has_right name p h.0 in let b = held_live task receive p h.1 in let c = held_live task send p h.1 in omega (arith, a, b, c);
      is_named = λ p some. named p some (new.live_port p) refl;
      one_name = λ a b p is_a is_b.
          let h = settled_port mid new task a (lookup mid task a) p (sym (s.names task a) ∙ is_a) in
          let g = settled_port mid new task b (lookup mid task b) p (sym (s.names task b) ∙ is_b) in
          (l.naming task).one_name a b p h.0 g.0;
      once_names = λ p. once p (new.live_port p) refl;
      few_references = λ p. few p (new.live_port p) refl;
    }
      where
        named : (p : ℕ) → 0 < held new task receive p + held new task send p → (b : Bool) → new.live_port p ≡ b → (name : ℕ) × (lookup new task name ≡ Some (Target.port p))
        named p some true e =
            let a = held_live task receive p e in let b = held_live task send p e in
            let h = (l.naming task).is_named p (omega (arith, a, b, some)) in
            (h.0, s.names task h.0 ∙ ap (option_map (settled_target mid new task h.0)) h.1 ∙ rw e refl)
        named p some false e = absurd (let a = held_dead task receive p e in let b = held_dead task send p e in omega (arith, a, b, some))

        once : (p : ℕ) → (b : Bool) → new.live_port p ≡ b → held new task send_once p ≡ onces (new.naming task) p
        once p true e = held_live task send_once p e ∙ (l.naming task).once_names p ∙ sym (mapped_tally (map.len (mid.naming task)) (settled_target mid new task) (is_once p) (is_once p)
            (mid.naming task) (new.naming task) refl (mapped task) (λ n v. same_once mid new task n p e v))
        once p false e = held_dead task send_once p e ∙ sym (mapped_tally (map.len (mid.naming task)) (settled_target mid new task) (λ (t : Target). false) (is_once p)
            (mid.naming task) (new.naming task) refl (mapped task) (λ n v. no_once mid new task n p e v) ∙ tally_none (map.values (mid.naming task)))

        few : (p : ℕ) → (b : Bool) → new.live_port p ≡ b → held new task send p ≤ most_references
        few p true e = let a = held_live task send p e in let b = (l.naming task).few_references p in omega (arith, a, b)
        few p false e = let a = held_dead task send p e in omega (arith, a)

-- ---- Notices can be appended: each to its port's log, one behind the other.

-- the logs with one notice more, and with many
abbrev notice_entry : (now : ℕ) → ℕ × Notice → Entry
notice_entry now y = record { origin = now; message = notice_message y.0 y.1 }

abbrev with_notice : (now : ℕ) → (ℕ → List Entry) → ℕ × Notice → ℕ → List Entry
with_notice now front y = at front y.0 (front y.0 ++ notice_entry now y ∷ [])

abbrev pub logs_after : (now : ℕ) → (ℕ → List Entry) → List (ℕ × Notice) → ℕ → List Entry
logs_after now front [] = front
logs_after now front (y ∷ ys) = logs_after now (with_notice now front y) ys

abbrev pub post_all : (now : ℕ) → (ℕ → List Entry) → List (ℕ × Notice) → List Posted
post_all now front [] = []
post_all now front (y ∷ ys) = record { port = y.0; entry = length (front y.0); notice = y.1 } ∷ post_all now (with_notice now front y) ys

pub posts_due : (now : ℕ) (front : ℕ → List Entry) (ys : List (ℕ × Notice)) → list_map (λ (x : Posted). (x.port, x.notice)) (post_all now front ys) ≡ ys
posts_due now front [] = refl
posts_due now front (y ∷ ys) = ap (λ (zs : List (ℕ × Notice)). y ∷ zs) (posts_due now (with_notice now front y) ys)

-- what is appended to one log
pub record Appended (front after : List Entry) (n : ℕ) : Type 0 where
  pub added : List Entry
  pub is : after ≡ front ++ added
  pub many : length added ≡ n

pub posts_append : (now : ℕ) (front : ℕ → List Entry) (ys : List (ℕ × Notice)) (p : ℕ) →
    Appended (front p) (logs_after now front ys p) (length (filter (λ (x : Posted). x.port == p) (post_all now front ys)))
posts_append now front [] p = record { added = []; is = sym (append-nil (front p)); many = refl }
posts_append now front (y ∷ ys) p = grind (arith, posts_append now (with_notice now front y) ys p, at_same, append_assoc, at_other)

-- what stood stands
pub front_stays : {A : Type 0} (xs ys : List A) (k : ℕ) (x : A) → slice_get xs k ≡ Some x → slice_get (xs ++ ys) k ≡ Some x
front_stays [] ys k x e = absurd (cc)
front_stays (y ∷ xs) ys zero x e = e
front_stays (y ∷ xs) ys (suc k) x e = front_stays xs ys k x e

last_is : {A : Type 0} (xs : List A) (x : A) → slice_get (xs ++ x ∷ []) (length xs) ≡ Some x
last_is [] x = refl
last_is (y ∷ xs) x = last_is xs x

stays_after : (now : ℕ) (front : ℕ → List Entry) (ys : List (ℕ × Notice)) (p k : ℕ) (e : Entry) → slice_get (front p) k ≡ Some e → slice_get (logs_after now front ys p) k ≡ Some e
stays_after now front ys p k e is = let a = posts_append now front ys p in ap (λ (xs : List Entry). slice_get xs k) a.is ∙ front_stays (front p) a.added k e is

abbrev pub StandsBehind : (now : ℕ) → (first : ℕ → List Entry) → (after : ℕ → List Entry) → Posted → Type 0
StandsBehind now first after x = (length (first x.port) ≤ x.entry) × (slice_get (after x.port) x.entry ≡ Some record { origin = now; message = notice_message x.port x.notice })

grown : (now : ℕ) (front : ℕ → List Entry) (y : ℕ × Notice) (p : ℕ) → length (front p) ≤ length (with_notice now front y p)
grown now front y p = grind (arith, at_same, length-append, at_other)

pub posts_stand : (now : ℕ) (first front : ℕ → List Entry) (ys : List (ℕ × Notice)) → ((p : ℕ) → length (first p) ≤ length (front p)) → All (StandsBehind now first (logs_after now front ys)) (post_all now front ys)
posts_stand now first front [] more = λ k d below. absurd (omega arith)
posts_stand now first front (y ∷ ys) more =
    All-cons (StandsBehind now first (logs_after now front (y ∷ ys))) (record { port = y.0; entry = length (front y.0); notice = y.1 }) (post_all now (with_notice now front y) ys) (
      more y.0,
      stays_after now (with_notice now front y) ys y.0 (length (front y.0)) (notice_entry now y)
          (ap (λ (xs : List Entry). slice_get xs (length (front y.0))) (at_own front y.0 (front y.0 ++ notice_entry now y ∷ [])) ∙ last_is (front y.0) (notice_entry now y)),
    )
    (posts_stand now first (with_notice now front y) ys (λ p. let a = more p in let b = grown now front y p in omega (arith, a, b)))

any_later : {A : Type 0} (P : A → Type 0) (x : A) (xs : List A) → Any P xs → Any P (x ∷ xs)
any_later P x xs (k, y, below, is, holds) = (suc k, y, omega (arith, below), is, holds)

pub posts_cover : (now : ℕ) (front : ℕ → List Entry) (ys : List (ℕ × Notice)) (p k : ℕ) → length (front p) ≤ k → k < length (logs_after now front ys p) →
    Any (λ (x : Posted). (x.port ≡ p) × (x.entry ≡ k)) (post_all now front ys)
posts_cover now front [] p k above below = absurd (omega (arith, above, below))
posts_cover now front (y ∷ ys) p k above below = elim (eqb_tells p y.0) [
  | inl h ↦ elim (eqb_tells k (length (front p))) [
    | inl g ↦ (zero, record { port = y.0; entry = length (front y.0); notice = y.1 }, omega arith, refl, (sym h.1, ap (λ (q : ℕ). length (front q)) (sym h.1) ∙ sym g.1))
    | inr g ↦ any_later _ _ (post_all now (with_notice now front y) ys) (posts_cover now (with_notice now front y) ys p k (next h.1 g.1) below)
  ]
  | inr h ↦ any_later _ _ (post_all now (with_notice now front y) ys) (posts_cover now (with_notice now front y) ys p k
      (let a = ap length (at_other front y.0 (front y.0 ++ notice_entry now y ∷ []) p h.1) in omega (arith, a, above)) below)
]
  where
    next : p ≡ y.0 → (k ≡ length (front p) → ⊥) → length (with_notice now front y p) ≤ k
    next same not =
        let a = ap length (at_same front y.0 (front y.0 ++ notice_entry now y ∷ []) p same) in
        let b = length-append (front y.0) (notice_entry now y ∷ []) in
        let c : length (front p) ≡ length (front y.0) = ap (λ (q : ℕ). length (front q)) same in
        let d = less (length (front p)) k above (λ e. not (sym e)) in
        omega (arith, a, b, c, d)

-- ---- A step can always end: from each state that is lawful midway there is one that the end of the step leaves.

-- ---- names of which each stands for another thing

abbrev rebuild : (ℕ → Target → Target) → List (ℕ × Target) → Names
rebuild f [] = map.empty
rebuild f (e ∷ es) = map.insert (rebuild f es) e.0 (f e.0 e.1)

rebuilt : (f : ℕ → Target → Target) (es : List (ℕ × Target)) (n : ℕ) → map.get (rebuild f es) n ≡ option_map (f n) (find nat_cmp n es)
rebuilt f [] n = get-empty nat_cmp n
rebuilt f (e ∷ es) n = get-insert nat_cmp_total (rebuild f es) e.0 (f e.0 e.1) n ∙ go (nat_cmp n e.0) refl (rebuilt f es n)
  where
    go : (r : Ordering) → nat_cmp n e.0 ≡ r → map.get (rebuild f es) n ≡ option_map (f n) (find nat_cmp n es) →
        cond (is_eq r) (Some (f e.0 e.1)) (map.get (rebuild f es) n) ≡ option_map (f n) (cond (is_eq r) (Some e.1) (find nat_cmp n es))
    go Less is ih = ih
    go Greater is ih = ih
    go Equal is ih = ap (λ (k : ℕ). Some (f k e.1)) (sym (nat_cmp-IsAntisymmetric n e.0 is))

abbrev changed_names : (ℕ → Target → Target) → Names → Names
changed_names f m = rebuild f (map.entries m)

changed_get : (f : ℕ → Target → Target) (m : Names) (n : ℕ) → map.get (changed_names f m) n ≡ option_map (f n) (map.get m n)
changed_get f m n = rebuilt f (map.entries m) n ∙ ap (option_map (f n)) (sym (map.get-entries m n))

-- ---- lists in parts

all_filtered : {A : Type 0} (P : A → Type 0) (test : A → Bool) → ((x : A) → test x ≡ true → P x) → (xs : List A) → All P (filter test xs)
all_filtered P test so [] = λ k d below. absurd (omega arith)
all_filtered {A} P test so (x ∷ xs) = go (test x) refl (all_filtered P test so xs)
  where
    go : (b : Bool) → test x ≡ b → All P (filter test xs) → All P (if b then x ∷ filter test xs else filter test xs)
    go true e rest = All-cons P x (filter test xs) (so x e) rest
    go false e rest = rest

count_filter : (test keep : Token → Bool) (xs : List Token) → count test (filter keep xs) ≡ count (λ x. test x && keep x) xs
count_filter test keep [] = refl
count_filter test keep (x ∷ xs) = grind (arith, count_filter test keep xs)

same_count : (P : Token → Type 0) (f g : Token → Bool) → ((x : Token) → P x → f x ≡ g x) → (xs : List Token) → All P xs → count f xs ≡ count g xs
same_count P f g same [] all = refl
same_count P f g same (x ∷ xs) all =
    let rest = same_count P f g same xs (All-tail P x xs all) in
    let e : (if f x then suc zero else zero) ≡ (if g x then suc zero else zero) = ap (λ (b : Bool). if b then suc zero else zero) (same x (All-head P x xs all)) in
    omega (arith, rest, e)

-- those that pass the one test, those that pass the other, and the rest
in_parts : (a b : Token → Bool) (n : Token → Notice) → ((x : Token) → a x ≡ true → b x ≡ true → ⊥) → (h : Token → ℕ) (xs : List Token) →
    weigh h xs ≡ weigh h (filter a xs) + weigh h (tokens_of (list_map (λ x. (x, n x)) (filter b xs))) + weigh h (filter (λ x. not (a x) && not (b x)) xs)
in_parts a b n apart h [] = refl
in_parts a b n apart h (x ∷ xs) = grind (arith, in_parts a b n apart h xs)

not_both_ways : (b : Bool) → b ≡ true → not b ≡ true → ⊥
not_both_ways true e f = cc
not_both_ways false e f = cc

is_false : (b : Bool) → not b ≡ true → b ≡ false
is_false true e = absurd (cc)
is_false false e = refl

of_false : (b : Bool) → b ≡ false → not b ≡ true
of_false b e = rw e refl

-- ---- the state that is left

module _ (now : ℕ) (old mid : State) (owed : Owed) (t : Told mid) where
  abbrev live : ℕ → Bool
  live p = mid.live_port p && not (t.dead p)

  abbrev queue_lives : Place → Bool
  queue_lives (in_task task) = true
  queue_lives (in_message q k) = live q
  queue_lives (in_request r) = true

  abbrev sends_left : ℕ → ℕ
  sends_left p = count (λ x. is_of send p x && queue_lives x.place) mid.ledger

  abbrev became_end : Option Target → Bool
  became_end (Some (Target.port p)) = not (live p)
  became_end (Some (Target.once p)) = not (live p)
  became_end target = false

  abbrev ends : Request → Bool
  ends (no_senders p) = not (live p) || not (senders old p == 0) && sends_left p == 0
  ends (port_destroyed p) = not (live p) || t.away p
  ends (dead_name task name) = became_end (lookup mid task name)

  abbrev standing : Request → Bool
  standing r = mid.stands r && not (ends r)

  abbrev place_stays : Place → Bool
  place_stays (in_task task) = true
  place_stays (in_message q k) = live q
  place_stays (in_request r) = standing r

  abbrev stays : Token → Bool
  stays x = live x.port && place_stays x.place

  abbrev pays : Token → Bool
  pays x = same_kind send_once x.kind && live x.port && not (place_stays x.place)

  -- all but names, logs and rights
  abbrev shell : State
  shell = record mid {
    live_port = live;
    stands = standing;
    sets_of = λ p. if t.away p then [] else if live p then mid.sets_of p else [];
    make_send = λ p. if t.away p then 0 else mid.make_send p;
    sequence = λ p. if t.away p then 0 else mid.sequence p;
  }

  abbrev notice_at : Place → Notice
  notice_at (in_task task) = right_unused
  notice_at (in_message q k) = right_unused
  notice_at (in_request r) = told_by mid shell r

  abbrev left_paying : List (Token × Notice)
  left_paying = list_map (λ x. (x, notice_at x.place)) (filter pays mid.ledger)

  abbrev left_due : List (ℕ × Notice)
  left_due = due_notices (left_paying ++ filter (λ x. live x.0.port) owed)

  abbrev left_posted : List Posted
  left_posted = post_all now mid.log left_due

  abbrev end_state : State
  end_state = record shell {
    naming = λ task. changed_names (settled_target mid shell task) (mid.naming task);
    log = logs_after now mid.log left_due;
    ledger = filter stays mid.ledger ++ all_posted_tokens left_posted;
  }

  -- ---- what becomes of each right

  place_yes : (place : Place) → place_stays place ≡ true → PlaceStays end_state place
  place_yes (in_task task) e = tt
  place_yes (in_message q k) e = e
  place_yes (in_request r) e = e

  place_none : (place : Place) → not (place_stays place) ≡ true → ¬ (PlaceStays end_state place)
  place_none (in_task task) e = λ h. cc
  place_none (in_message q k) e = λ h. not_both_ways (live q) h e
  place_none (in_request r) e = λ h. not_both_ways (standing r) h e

  tells_so : (place : Place) → not (place_stays place) ≡ true → TellsAt mid end_state place (notice_at place)
  tells_so (in_task task) e = absurd (cc)
  tells_so (in_message q k) e = refl
  tells_so (in_request (no_senders p)) e = refl
  tells_so (in_request (port_destroyed p)) e = refl
  tells_so (in_request (dead_name task name)) e = refl

  stays_so : (x : Token) → stays x ≡ true → StaysWith end_state x
  stays_so x e = (left_of (live x.port) (place_stays x.place) e, place_yes x.place (right_of (live x.port) (place_stays x.place) e))

  pays_so : (x : Token) → pays x ≡ true → PaysFor mid end_state x (notice_at x.place)
  pays_so x e = grind (arith, left_of, right_of, kind_is, place_none, tells_so)

  goes_so : (x : Token) → (not (stays x) && not (pays x)) ≡ true → GoesFrom end_state x
  goes_so x e = grind (arith, place_none, of_false)

  apart : (x : Token) → stays x ≡ true → pays x ≡ true → ⊥
  apart x e f = grind (arith, not_both_ways, right_of)

  -- ---- which requests end

  module _ (l : MidLawful mid owed) where
    abbrev NotKept : Token → Type 0
    NotKept x = x.kind ≡ send → (r : Request) → x.place ≡ in_request r → ⊥

    none_kept : All NotKept mid.ledger
    none_kept k d below is r at =
        let x = get_or mid.ledger k d in
        let z = l.once_kept r send x.port (λ e. cc) in
        let some = count_some (is_at x.kind x.port x.place) mid.ledger k d below (own_test x) in
        let same : count (is_at x.kind x.port x.place) mid.ledger ≡ count (is_at send x.port (in_request r)) mid.ledger = λ i. count (is_at (is i) x.port (at i)) mid.ledger in
        omega (arith, z, some, same)

    same_left : (p : ℕ) → live p ≡ true → (x : Token) → NotKept x → (is_of send p x && stays x) ≡ (is_of send p x && queue_lives x.place)
    same_left p alive x kept = grind (arith, of_kind)

    senders_left : (p : ℕ) → live p ≡ true → senders end_state p ≡ sends_left p
    senders_left p alive = grind (
      arith,
      weigh-append (λ x. if is_of send p x then 1 else 0) (filter stays mid.ledger) (all_posted_tokens left_posted),
      none_posted (λ x. Unit {0}) (is_of send p) (λ x u e. cc) (λ x q u sent e. cc) left_posted (λ k d below. tt),
      count_filter (is_of send p) stays mid.ledger,
      same_count NotKept (λ x. is_of send p x && stays x) (λ x. is_of send p x && queue_lives x.place) (same_left p alive) mid.ledger none_kept,
    )

    ends_is : (r : Request) → Ends old mid end_state r → ends r ≡ true
    ends_is (no_senders p) (inl dead) = or_left (not (live p)) (not (senders old p == 0) && sends_left p == 0) (of_false (live p) dead)
    ends_is (no_senders p) (inr last) = grind (arith, and_from, eq-eqb, senders_left, ne_eqb)
    ends_is (port_destroyed p) (inl dead) = or_left (not (live p)) (t.away p) (of_false (live p) dead)
    ends_is (port_destroyed p) (inr sent) = or_right (not (live p)) (t.away p) ((t.sent p).is sent)
    ends_is (dead_name task name) h = grind (arith, of_false)

    is_ends : (r : Request) → ends r ≡ true → Ends old mid end_state r
    is_ends (no_senders p) e = grind (arith, pos_or_zero, not_both_ways, eq-eqb, left_of, senders_left, eqb-true, right_of)
    is_ends (port_destroyed p) e = grind (arith, or_cases, is_false)
    is_ends (dead_name task name) e = grind (arith, is_false)

    both_false : (a b : Bool) → b ≡ true → (a && not b) ≡ false
    both_false a true e = and_false a
    both_false a false e = absurd (cc)

    -- The step ends with that state.
    pub end_settles : Settles now old mid owed end_state
    end_settles = record {
      deaths = record {
        dies = λ p d. both_false (mid.live_port p) (t.dead p) ((t.dies p).is d);
        only = λ p was gone. (t.dies p).yes (died (mid.live_port p) (t.dead p) was gone);
        gone_before = λ p e. rw e refl;
      };
      rights = record {
        staying = filter stays mid.ledger;
        paying = left_paying;
        going = filter (λ x. not (stays x) && not (pays x)) mid.ledger;
        parts = λ h. in_parts stays pays (λ x. notice_at x.place) apart h mid.ledger;
        stay = all_filtered (StaysWith end_state) stays stays_so mid.ledger;
        pay = All-map (λ (x : Token × Notice). PaysFor mid end_state x.0 x.1) (λ x. (x, notice_at x.place)) (filter pays mid.ledger)
            (all_filtered (λ x. PaysFor mid end_state x (notice_at x.place)) pays pays_so mid.ledger);
        go = all_filtered (GoesFrom end_state) (λ x. not (stays x) && not (pays x)) goes_so mid.ledger;
      };
      notices = record {
        posted = left_posted;
        due = posts_due now mid.log left_due;
        ledger = λ h. weigh-append h (filter stays mid.ledger) (all_posted_tokens left_posted);
        logs = λ p. let a = posts_append now mid.log left_due p in (a.added, a.is, a.many);
        stand = posts_stand now mid.log mid.log left_due (λ p. omega arith);
        cover = posts_cover now mid.log left_due;
      };
      names = λ task name. changed_get (settled_target mid shell task) (mid.naming task) name ∙ same_targets task name (lookup mid task name);
      requests = record {
        ended = λ r stands ends_now. both_false (mid.stands r) (ends r) (ends_is r ends_now);
        only = λ r stands not_now. is_ends r (died (mid.stands r) (ends r) stands not_now);
        unmade = λ r e. rw e refl;
      };
      ports = record {
        is_sent = t.away;
        sent = λ p is. (t.sent p).is is;
        sent_only = λ p e. (t.sent p).yes e;
        sets_of = λ p. refl;
        make_send = λ p. refl;
        sequence = λ p. refl;
      };
      rest = refl;
    }
      where
        died : (a b : Bool) → a ≡ true → (a && not b) ≡ false → b ≡ true
        died true true e f = refl
        died true false e f = absurd (cc)
        died false b e f = absurd (cc)

        same_targets : (task name : ℕ) (o : Option Target) → option_map (settled_target mid shell task name) o ≡ option_map (settled_target mid end_state task name) o
        same_targets task name None = refl
        same_targets task name (Some (Target.port p)) = refl
        same_targets task name (Some (Target.once p)) = refl
        same_targets task name (Some (Target.dead n)) = refl
        same_targets task name (Some (Target.set n)) = refl

-- A step can always end.
pub can_end : (now : ℕ) (old mid : State) (owed : Owed) → MidLawful mid owed → (new : State) × Settles now old mid owed new
can_end now old mid owed l = (end_state now old mid owed (told mid owed l), end_settles now old mid owed (told mid owed l) l)
