-- What is sent and received means what its bytes mean through names; what a step's end adds to the logs.
use Rattle.std.proofs.Common.{◌≡◌, ℕ, ◌+◌, ◌<◌, ◌≤◌, List, [], ◌∷◌, Option, Some, None, refl, sym, ap, subst, ◌∙◌, arith, true, false, Bool, inl, inr, cond, zero, suc, ◌++◌, ◌⊎◌, length}
use Rattle.std.specs.Prelude.{if◌then◌else◌, MatchBool, map as list_map, ◌==◌, ◌≢◌, All, AllPairs, slice_get, Contains, filter, not}
use Rattle.std.specs.FinMap as map
use Rattle.std.proofs.lemmas.Bool.{eq-eqb, ltb-false}
use Rattle.std.specs.FinMap.{get-remove, get-insert, get_tied}
use Rattle.std.specs.Ordering.{nat_cmp, eq_by_cmp, is_eq}
use Rattle.std.specs.Cmp.{nat_cmp_total}
use Rattle.std.specs.declared.cmp.Ordering.{Ordering}
use Rattle.std.specs.declared.cmp.Ordering.TheVariants.{Less, Equal, Greater}
use Rattle.std.proofs.lemmas.Option.{slice_get_within}
use Rattle.std.proofs.Math.Path.{fun_ext}
use Rattle.std.proofs.lemmas.List.{append-nil}
use Rattle.mach_types.specs.Numbers.{disposition, null_word, dead_word}
use Rattle.mach_types.specs.Tokens.{Kind, receive, send, send_once, Place, in_task, in_message, token, weigh, is_of, is_held, is_in_task, count}
use Rattle.mach_types.specs.Messages.{Mark, to_port, null, dead, mark_asof, asof, ReplyRight, absent, present, Message, Entry}
use Rattle.mach_types.specs.Bodies.{message_rights, AllZip, Through, body_words, body_rights}
use Rattle.mach_types.specs.declared.rights.Disposition.{Disposition}
use Rattle.mach_types.specs.declared.rights.Disposition.TheVariants.{MoveReceive, MoveSend, MoveSendOnce, CopySend, MakeSend, MakeSendOnce}
use Rattle.mach_types.specs.declared.calls.Event.{Event}
use Rattle.mach_types.specs.declared.calls.Reply.{Reply}
use Rattle.mach_model.specs.State.{State, Target, Names, lookup, held, Holds, without_name, with_name}
use Rattle.mach_model.specs.ReceivedMeans.{ReceivedWord, received_words, once_words, ReceivedMeans, message_length}
use Rattle.mach_model.specs.CopyOut.{given_to, Named, NamedOnce, NamedFor, GiveRight, GiveMark, GiveWord}
use Rattle.mach_model.specs.Receive.{Receives, DestroysFront}
use Rattle.mach_model.proofs.Names.{at_same, both_test, kept, get_own, held_le_of, some_tally, at_other, at_own}
use Rattle.mach_model.specs.SentMeans.{IsSent, target_mark, name_mark, word_mark, WordMeans, ReplyMeans, SentMeans}
use Rattle.mach_model.specs.CopyIn.{name_kept, changed_by, CopyRight, CopyWord, CopyReply, CopyCarried}
use Rattle.mach_model.specs.Send.{Sends, place_at}
use Rattle.mach_model.proofs.Walks.{SameBody-each}
use Rattle.mach_model.specs.Death.{Dies, IsOrphan, IsSentAway}
use Rattle.mach_model.specs.Notices.{Notice, notice_message, Owed, Posted}
use Rattle.mach_model.specs.Settles.{PlaceStays, settled_target, due_notices, Settles}
use Rattle.mach_model.specs.Machine.{Done, Step}
use Rattle.mach_model.specs.Acts.{Does}
use Rattle.mach_model.specs.Lawful.{is_once, IsLawful}
use Rattle.mach_model.specs.Midway.{MidLawful}
use Rattle.mach_model.proofs.Settling.{Dies-least, IsReordered, looks_reorder}
use Rattle.mach_model.proofs.SettledReceives.{with_task, made_of, kept_there}
use Rattle.mach_model.proofs.NamesLawful.{fresh_unused}
use Rattle.mach_laws.proofs.Bodies.{right_asof, rights_asof, reply_same, body_same}
use Rattle.mach_laws.specs.Notices.{IsToldBy, Tells}
use Rattle.mach_laws.specs.Received.{AsksFrom}
use Rattle.mach_laws.specs.Delivered.{DestroysTooLong}
use Rattle.mach_laws.specs.Looks.{IsLook, IsUnchanged}

-- ---- A message that is received means, through the receiver's names after the step, what was queued, read with the ports that are dead.

-- Each name of the earlier names stands for the same in the later.
abbrev pub Grows : Names → Names → Type 0
Grows old new = (n : ℕ) (x : Target) → map.get old n ≡ Some x → map.get new n ≡ Some x

Grows-trans : (a b c : Names) → Grows a b → Grows b c → Grows a c
Grows-trans a b c f g n x e = g n x (f n x e)

Grows-same : (task : ℕ) (s t : State) → t ≡ s → Grows (s.naming task) (t.naming task)
Grows-same task s t e = subst (λ (x : State). Grows (s.naming task) (x.naming task)) (sym e) (λ n x f. f)

-- the live ports and the numbers that ports are at stay the same too, and the task loses no right
pub record Gives (task : ℕ) (old new : State) : Type 0 where
  pub grows : Grows (old.naming task) (new.naming task)
  pub live : new.live_port ≡ old.live_port
  pub sequence : new.sequence ≡ old.sequence
  pub holds : (k : Kind) (q : ℕ) → held old task k q ≤ held new task k q

pub Gives-trans : (task : ℕ) (a b c : State) → Gives task a b → Gives task b c → Gives task a c
Gives-trans task a b c f g = record {
  grows = Grows-trans (a.naming task) (b.naming task) (c.naming task) f.grows g.grows;
  live = g.live ∙ f.live;
  sequence = g.sequence ∙ f.sequence;
  holds = λ k q. omega (arith, f.holds k q, g.holds k q);
}

pub Gives-refl : (task : ℕ) (s : State) → Gives task s s
Gives-refl task s = record { grows = λ n x f. f; live = refl; sequence = refl; holds = λ k q. omega arith }

pub Gives-same : (task : ℕ) (s t : State) → t ≡ s → Gives task s t
Gives-same task s t e = subst (λ (x : State). Gives task s x) (sym e) (Gives-refl task s)

Named-gives : (task name : ℕ) (target : Target) (old new : State) → Named task name target old new → Gives task old new
Named-gives task name target old new n = record {
  grows = λ m x e.
      subst (λ (names : Names). map.get names m ≡ Some x) (sym (ap (λ (s : State). s.naming task) n.rest ∙ at_same old.naming task (map.insert (old.naming task) name target) task refl))
      (kept (old.naming task) name target m x (fresh_unused old task name n.fresh) e);
  live = ap (λ (s : State). s.live_port) n.rest;
  sequence = ap (λ (s : State). s.sequence) n.rest;
  holds = λ k q. subst (λ (s : State). held old task k q ≤ held s task k q) (sym n.rest) (omega arith);
}

pub Named-has : (task name : ℕ) (target : Target) (old new : State) → Named task name target old new → lookup new task name ≡ Some target
Named-has task name target old new n =
    ap (λ (s : State). lookup s task name) n.rest
    ∙ ap (λ (names : Names). map.get names name) (at_same old.naming task (map.insert (old.naming task) name target) task refl)
    ∙ get_own (old.naming task) name target

-- What a right becomes: a word that the names after give a meaning.
NamedOnce-gives : (task name p : ℕ) (old new : State) → NamedOnce task name p old new → Gives task old new × (lookup new task name ≡ Some (Target.port p))
NamedOnce-gives task name p old new (inl h) = (Gives-same task old new h.1, ap (λ (s : State). lookup s task name) h.1 ∙ h.0)
NamedOnce-gives task name p old new (inr h) = (Named-gives task name _ old new h.1, Named-has task name _ old new h.1)

pub either : (b : Bool) (P Q R : Type 0) → (b ≡ true → P → R) → (b ≡ false → Q → R) → MatchBool b P Q → R
either true P Q R f g h = f refl h
either false P Q R f g h = g refl h

pub unused_before : (before now : Names) (w : ℕ) → Grows before now → map.get now w ≡ None → map.get before w ≡ None
unused_before before now w grows none = grind arith

-- the name of a right for a live port, just after it was found
NamedWord : (task : ℕ) → (before mid : State) → Kind → (p w : ℕ) → Type 0
NamedWord task before mid receive p w = lookup mid task w ≡ Some (Target.port p)
NamedWord task before mid send p w = lookup mid task w ≡ Some (Target.port p)
NamedWord task before mid send_once p w = (lookup mid task w ≡ Some (Target.once p)) × (lookup before task w ≡ None)

NamedFor-word : (task : ℕ) (kind : Kind) (w p : ℕ) (before old new : State) → Grows (before.naming task) (old.naming task) → NamedFor kind task w p old new →
    Gives task old new × NamedWord task before new kind p w
unfolding NamedWord
NamedFor-word task receive w p before old new g h = NamedOnce-gives task w p old new h
NamedFor-word task send w p before old new g h = NamedOnce-gives task w p old new h
NamedFor-word task send_once w p before old new g h =
    (Named-gives task w _ old new h, (Named-has task w _ old new h, unused_before (before.naming task) (old.naming task) w g (fresh_unused old task w h.fresh)))

own_token : (k : Kind) (p task : ℕ) → ◌≡◌ {A = ℕ} (if is_held task k p (token k p (in_task task)) then 1 else 0) 1
own_token receive p task = rw (eq-eqb p p refl, eq-eqb task task refl) refl
own_token send p task = rw (eq-eqb p p refl, eq-eqb task task refl) refl
own_token send_once p task = rw (eq-eqb p p refl, eq-eqb task task refl) refl

-- a task that is given a right holds such a one, also where it had as many references as there may be
given_holds : (kind : Kind) (p task : ℕ) (s : State) → 0 < held s task kind p + weigh (λ x. if is_held task kind p x then 1 else 0) (given_to kind p task s)
given_holds receive p task s = omega (arith, own_token receive p task)
given_holds send_once p task s = omega (arith, own_token send_once p task)
given_holds send p task s = grind (arith, own_token, ltb-false)

received : (task : ℕ) (kind : Kind) (p w : ℕ) (before mid new : State) → Grows (mid.naming task) (new.naming task) → NamedWord task before mid kind p w → Holds new task kind p →
    ReceivedWord task before new kind (to_port p) w
unfolding NamedWord
received task receive p w before mid new g n h = (g w _ n, h)
received task send p w before mid new g n h = (g w _ n, h)
received task send_once p w before mid new g n h = (g w _ n.0, n.1)

GiveRight-word : (task : ℕ) (place : Place) (kind : Kind) (p : ℕ) (before old : State) (w : ℕ) (new : State) → is_in_task task place ≡ false →
    Grows (before.naming task) (old.naming task) → GiveRight task place kind p old w new →
    Gives task old new × ReceivedWord task before new kind (to_port p) w
GiveRight-word task place kind p before old w new away g r =
    let m = NamedFor-word task kind w p before old r.named_state g r.named in
    let more : Grows (r.named_state.naming task) (new.naming task) = λ n x e. ap (λ (s : State). lookup s task n) r.rest ∙ e in (
      record {
        grows = Grows-trans (old.naming task) (r.named_state.naming task) (new.naming task) m.0.grows more;
        live = ap (λ (s : State). s.live_port) r.rest ∙ m.0.live;
        sequence = ap (λ (s : State). s.sequence) r.rest ∙ m.0.sequence;
        holds = λ k q.
            let t = r.tokens (λ x. if is_held task k q x then 1 else 0) in
            let z = both_test (is_of k q (token kind p place)) (is_in_task task place) (inr away) in omega (arith, t, z);
      },
      received task kind p w before r.named_state new more m.1
          (let t = r.tokens (λ x. if is_held task kind p x then 1 else 0) in
          let z = both_test (is_of kind p (token kind p place)) (is_in_task task place) (inr away) in
          omega (arith, t, z, given_holds kind p task old)),
    )

-- The task holds the rights that the words name.
abbrev pub MeanReceived : (task : ℕ) → (before after : State) → List (ℕ × ℕ) → List (Kind × Mark) → Type 0
MeanReceived task before after ws rs = AllZip (λ (w : ℕ × ℕ) (r : Kind × Mark). ReceivedWord task before after r.0 r.1 w.1) ws rs

-- a word that has its meaning keeps it when more is given
keeps_word : (task : ℕ) (before mid after : State) (kind : Kind) (mark : Mark) (w : ℕ) → Gives task mid after → ReceivedWord task before mid kind mark w → ReceivedWord task before after kind mark w
keeps_word task before mid after kind null w g h = h
keeps_word task before mid after kind dead w g h = h
keeps_word task before mid after receive (to_port p) w g h = (g.grows w _ h.0, omega (arith, g.holds receive p, h.1))
keeps_word task before mid after send (to_port p) w g h = (g.grows w _ h.0, omega (arith, g.holds send p, h.1))
keeps_word task before mid after send_once (to_port p) w g h = (g.grows w _ h.0, h.1)

pub same_mark : (b : Bool) (p : ℕ) → b ≡ true → to_port p ≡ (if b then to_port p else dead)
same_mark true p e = refl
same_mark false p e = absurd (cc)

pub dead_mark : (b : Bool) (p : ℕ) → b ≡ false → dead ≡ (if b then to_port p else dead)
dead_mark false p e = refl
dead_mark true p e = absurd (cc)

pub GiveMark-means : (task : ℕ) (place : Place) (kind : Kind) (mark : Mark) (before old : State) (w : ℕ) (new : State) → is_in_task task place ≡ false →
    Grows (before.naming task) (old.naming task) → GiveMark task place kind mark old w new →
    Gives task old new × ReceivedWord task before new kind (mark_asof old.live_port mark) w
GiveMark-means task place kind null before old w new away g h = (Gives-same task old new h.1, h.0)
GiveMark-means task place kind dead before old w new away g h = (Gives-same task old new h.1, h.0)
GiveMark-means task place kind (to_port p) before old w new away g h =
    either (old.live_port p) _ _ _
    (λ live r.
    let m = GiveRight-word task place kind p before old w new away g r in
    (m.0, subst (λ (x : Mark). ReceivedWord task before new kind x w) (same_mark (old.live_port p) p live) m.1))
    (λ gone r. (
      Gives-same task old new r.1,
      subst (λ (x : Mark). ReceivedWord task before new kind x w) (dead_mark (old.live_port p) p gone) r.0,
    ))
    h

-- words that have their meanings keep them
pub keeps_words : (task : ℕ) (before mid after : State) (ws : List (ℕ × ℕ)) (rs : List (Kind × Mark)) → Gives task mid after → MeanReceived task before mid ws rs → MeanReceived task before after ws rs
keeps_words task before mid after [] [] g h = tt
keeps_words task before mid after (w ∷ ws) (r ∷ rs) g h = (keeps_word task before mid after r.0 r.1 w.1 g h.0, keeps_words task before mid after ws rs g h.1)
keeps_words task before mid after [] (r ∷ rs) g h = absurd h
keeps_words task before mid after (w ∷ ws) [] g h = absurd h

-- The words that a message's rights become mean these rights, where those for dead ports are dead.
pub words_mean : (task : ℕ) (place : Place) (ws : List (ℕ × ℕ)) (before old : State) (rs : List (Kind × Mark)) (new : State) → is_in_task task place ≡ false →
    Grows (before.naming task) (old.naming task) → Through (GiveWord task place) old ws rs new →
    Gives task old new × MeanReceived task before new ws (list_map (right_asof old.live_port) rs)
words_mean task place [] before old [] new away g h = (Gives-same task old new h, tt)
words_mean task place (w ∷ ws) before old (r ∷ rs) new away g h =
    let a = GiveMark-means task place r.0 r.1 before old w.1 h.0 away g h.1 in
    let b = words_mean task place ws before h.0 rs new away (Grows-trans (before.naming task) (old.naming task) (h.0.naming task) g a.0.grows) h.2 in (
      Gives-trans task old h.0 new a.0 b.0,
      (
        keeps_word task before h.0 new r.0 (mark_asof old.live_port r.1) w.1 b.0 a.1,
        subst (λ (f : ℕ → Bool). MeanReceived task before new ws (list_map (right_asof f) rs)) a.0.live b.1,
      ),
    )
words_mean task place [] before old (r ∷ rs) new away g h = absurd h
words_mean task place (w ∷ ws) before old [] new away g h = absurd h

-- What was received: the rights mean what was queued, with rights for dead ports dead.
pub Receives-means : (task port room : ℕ) (bytes : List ℕ) (old new : State) (r : Receives task port room bytes old new) →
    Gives task r.taken new × MeanReceived task old new (received_words r.header r.written) (message_rights (asof old.live_port r.e.message))
Receives-means task port room bytes old new r =
    let grows : Grows (old.naming task) (r.taken.naming task) = λ n x e. ap (λ (s : State). lookup s task n) r.takes.rest ∙ e in
    let live : r.taken.live_port ≡ old.live_port = ap (λ (s : State). s.live_port) r.takes.rest in
    let m = words_mean task (in_message port (old.taken port)) (received_words r.header r.written) old r.taken (message_rights r.e.message) new refl grows r.rights in (
      m.0,
      subst (MeanReceived task old new (received_words r.header r.written)) (sym (rights_asof old.live_port r.e.message))
          (subst (λ (f : ℕ → Bool). MeanReceived task old new (received_words r.header r.written) (list_map (right_asof f) (message_rights r.e.message))) live m.1),
    )

-- ---- A message that is sent means what its bytes mean through the sender's names before the step.

-- What a name means in the later names it means in the earlier ones.
abbrev pub Reads : Names → Names → Type 0
Reads old new = (d : Disposition) (n : ℕ) (mark : Mark) → name_mark d (map.get new n) ≡ Some mark → name_mark d (map.get old n) ≡ Some mark

removed : (names : Names) (name : ℕ) → Reads names (map.remove names name)
removed names name d n mark e =
    go (eq_by_cmp nat_cmp n name) (sym (ap (name_mark d) (get-remove nat_cmp_total names name n)) ∙ e)
  where
    go : (b : Bool) → name_mark d (cond b None (map.get names n)) ≡ Some mark → name_mark d (map.get names n) ≡ Some mark
    go true f = absurd (cc)
    go false f = f

dead_alike : (d : Disposition) (k n : ℕ) → target_mark d (Target.dead k) ≡ target_mark d (Target.dead n)
dead_alike MoveReceive k n = refl
dead_alike MoveSend k n = refl
dead_alike MoveSendOnce k n = refl
dead_alike CopySend k n = refl
dead_alike MakeSend k n = refl
dead_alike MakeSendOnce k n = refl

fewer : (names : Names) (name k c : ℕ) → map.get names name ≡ Some (Target.dead c) → Reads names (map.insert names name (Target.dead k))
fewer names name k c was d n mark e =
    go (nat_cmp n name) refl (sym (ap (name_mark d) (get-insert nat_cmp_total names name (Target.dead k) n)) ∙ e)
  where
    go : (r : Ordering) → nat_cmp n name ≡ r → name_mark d (cond (is_eq r) (Some (Target.dead k)) (map.get names n)) ≡ Some mark → name_mark d (map.get names n) ≡ Some mark
    go Less is f = f
    go Greater is f = f
    go Equal is f = rw (sym (get_tied nat_cmp_total names n name is) ∙ was) (dead_alike d c k ∙ f)

reads_kept : (b : Bool) (task name : ℕ) (s : State) → Reads (s.naming task) ((name_kept b task name s).naming task)
reads_kept true task name s = λ d n mark e. e
reads_kept false task name s = rw (at_same s.naming task (map.remove (s.naming task) name) task refl) (removed (s.naming task) name)

reads_dead : (b : Bool) (task name k c : ℕ) (s : State) → lookup s task name ≡ Some (Target.dead c) →
    Reads (s.naming task) ((if b then with_name task name (Target.dead k) s else without_name task name s).naming task)
reads_dead true task name k c s was = rw (at_same s.naming task (map.insert (s.naming task) name (Target.dead k)) task refl) (fewer (s.naming task) name k c was)
reads_dead false task name k c s was = reads_kept false task name s

reads_changed : (d : Disposition) (target : Target) (task name : ℕ) (s : State) → lookup s task name ≡ Some target →
    Reads (s.naming task) ((changed_by d target task name s).naming task)
reads_changed MoveReceive (Target.port p) task name s was = reads_kept _ task name s
reads_changed MoveSend (Target.port p) task name s was = reads_kept _ task name s
reads_changed MakeSend (Target.port p) task name s was = λ d n mark e. e
reads_changed MoveSendOnce (Target.once p) task name s was = reads_kept false task name s
reads_changed MoveSend (Target.dead c) task name s was = reads_dead _ task name _ c s was
reads_changed MoveSendOnce (Target.dead c) task name s was = reads_dead _ task name _ c s was
reads_changed d target task name s was = λ d n mark e. e

Reads-trans : (a b c : Names) → Reads a b → Reads b c → Reads a c
Reads-trans a b c f g d n mark e = f d n mark (g d n mark e)

Reads-same : (task : ℕ) (s t : State) → t ≡ s → Reads (s.naming task) (t.naming task)
Reads-same task s t e = subst (λ (x : State). Reads (s.naming task) (x.naming task)) (sym e) (λ d n mark f. f)

CopyRight-reads : (task : ℕ) (place : Place) (number name : ℕ) (old : State) (mark : Mark) (new : State) →
    CopyRight task place number name old mark new → Reads (old.naming task) (new.naming task)
CopyRight-reads task place number name old mark new r =
    subst (λ (names : Names). Reads (old.naming task) names) (sym (ap (λ (s : State). s.naming task) r.rest)) (reads_changed r.given r.target task name old r.found)

CopyWord-reads : (task : ℕ) (place : Place) (number word : ℕ) (old : State) (mark : Mark) (new : State) →
    CopyWord task place number word old mark new → Reads (old.naming task) (new.naming task)
CopyWord-reads task place number word old mark new =
    either (word == null_word) _ _ _ (λ is h. Reads-same task old new h.1)
    (λ is. either (word == dead_word) _ _ _ (λ b h. Reads-same task old new h.1) (λ b. CopyRight-reads task place number word old mark new))

-- the mark that a copied word stands as is what the word means
CopyRight-mark : (task : ℕ) (place : Place) (number name : ℕ) (old : State) (mark : Mark) (new : State) (r : CopyRight task place number name old mark new) →
    name_mark r.given (lookup old task name) ≡ Some mark
CopyRight-mark task place number name old mark new r = ap (name_mark r.given) r.found ∙ r.mark_is

-- two readings of a word: as none, dead or a name
word_cases : (a b : Bool) (d : Disposition) (names : Names) (w : ℕ) (mark : Mark) (P Q : Type 0) → (P → mark ≡ null) → (Q → mark ≡ dead) → (R : Type 0) → (R → name_mark d (map.get names w) ≡ Some mark) →
    MatchBool a P (MatchBool b Q R) → (if a then Some null else if b then Some dead else name_mark d (map.get names w)) ≡ Some mark
word_cases true b d names w mark P Q f g R k h = ap Some (sym (f h))
word_cases false true d names w mark P Q f g R k h = ap Some (sym (g h))
word_cases false false d names w mark P Q f g R k h = k h

same_given : (number : ℕ) (a b : Disposition) → disposition number ≡ Some a → disposition number ≡ Some b → a ≡ b
same_given number a b e f = cc

-- a copied word, read through earlier names
CopyWord-means : (task : ℕ) (place : Place) (number word : ℕ) (given : Disposition) (names : Names) (old : State) (mark : Mark) (new : State) →
    disposition number ≡ Some given → Reads names (old.naming task) → CopyWord task place number word old mark new →
    word_mark names given word ≡ Some mark
CopyWord-means task place number word given names old mark new is reads h =
    word_cases (word == null_word) (word == dead_word) given names word mark _ _ (λ x. x.0) (λ x. x.0) _
    (λ r. reads given word mark (subst (λ (d : Disposition). name_mark d (lookup old task word) ≡ Some mark) (same_given number r.given given r.is_given is) (CopyRight-mark task place number word old mark new r))) h

CopyReply-means : (task : ℕ) (place : Place) (number word : ℕ) (names : Names) (old : State) (reply : ReplyRight) (new : State) →
    Reads names (old.naming task) → CopyReply task place number word old reply new → ReplyMeans names number word reply
CopyReply-means task place number word names old absent new reads h = (h.0, h.1)
CopyReply-means task place number word names old (present kind mark) new reads h =
    record { given = h.0.0; is_given = h.0.1; kind_is = h.0.2; mark_is = CopyWord-means task place number word h.0.0 names old mark new h.0.1 reads h.1 }

CopyReply-reads : (task : ℕ) (place : Place) (number word : ℕ) (old : State) (reply : ReplyRight) (new : State) →
    CopyReply task place number word old reply new → Reads (old.naming task) (new.naming task)
CopyReply-reads task place number word old absent new h = Reads-same task old new h.2
CopyReply-reads task place number word old (present kind mark) new h = CopyWord-reads task place number word old mark new h.1

-- the words of a body, read through earlier names
Carried-means : (task : ℕ) (place : Place) (names : Names) (ws : List (ℕ × ℕ)) (old : State) (rs : List (Kind × Mark)) (new : State) → Reads names (old.naming task) →
    AllZip (λ (w : ℕ × ℕ) (r : Kind × Mark). IsSent w.0 r.0) ws rs → Through (CopyCarried task place) old ws rs new →
    AllZip (λ (w : ℕ × ℕ) (r : Kind × Mark). WordMeans names w.0 w.1 r.0 r.1) ws rs
Carried-means task place names [] old [] new reads are h = tt
Carried-means task place names (w ∷ ws) old (r ∷ rs) new reads are h = (
  record { given = are.0.0; is_given = are.0.1; kind_is = are.0.2; mark_is = CopyWord-means task place w.0 w.1 are.0.0 names old r.1 h.0 are.0.1 reads h.1 },
  Carried-means task place names ws h.0 rs new (Reads-trans names _ _ reads (CopyWord-reads task place w.0 w.1 old r.1 h.0 h.1)) are.1 h.2,
)
Carried-means task place names [] old (r ∷ rs) new reads are h = absurd h
Carried-means task place names (w ∷ ws) old [] new reads are h = absurd h

-- Words that are no names stand in no name space.
pub record NoBadNames (names : Names) : Type 0 where
  pub no_null : map.get names null_word ≡ None
  pub no_dead : map.get names dead_word ≡ None

is_name : (names : Names) (w : ℕ) (o : Option Target) (d : Disposition) (mark : Mark) → map.get names w ≡ None → map.get names w ≡ o → name_mark d o ≡ Some mark → ⊥
is_name names w (Some x) d mark none e f = cc
is_name names w None d mark none e f = cc

named_word : (names : Names) (d : Disposition) (w : ℕ) (mark : Mark) → NoBadNames names → name_mark d (map.get names w) ≡ Some mark → word_mark names d w ≡ Some mark
named_word names d w mark good e = grind (arith, is_name)

-- The message that a send appends is what its bytes mean through the sender's names before.
pub Sends-means : (now task : ℕ) (bytes : List ℕ) (old new : State) → NoBadNames (old.naming task) → (s : Sends now task bytes old new) → SentMeans (old.naming task) bytes s.m
Sends-means now task bytes old new good s =
    let c = s.copied in
    let reads = CopyRight-reads _ _ _ _ _ _ _ c.destination in
    let mark = CopyRight-mark _ _ _ _ _ _ _ c.destination in
    record {
      header = s.header;
      written = s.written;
      spells = s.spells;
      destination = record { given = c.destination.given; is_given = c.destination.is_given; kind_is = c.kind; mark_is = named_word (old.naming task) _ _ _ good mark };
      reply = CopyReply-means _ _ _ _ (old.naming task) c.first s.m.reply c.second reads c.reply;
      id = c.id;
      body = c.body.0;
      rights = Carried-means task (place_at old s.m.destination) (old.naming task) (body_words s.written) c.second (body_rights s.m.body) s.copied_state
          (Reads-trans (old.naming task) _ _ reads (CopyReply-reads _ _ _ _ _ s.m.reply _ c.reply)) (SameBody-each IsSent s.written s.m.body c.body.0) c.body.1;
    }

-- ---- The send-once rights of one receipt come out under names of their own; so the bytes received mean the message.

-- these names are in no use, and differ
abbrev Unused : (task : ℕ) → State → List ℕ → Type 0
Unused task s xs = All (λ w. lookup s task w ≡ None) xs × AllPairs (λ (a b : ℕ). a ≢ b) xs

back : (task : ℕ) (old mid : State) (xs : List ℕ) → Gives task old mid → Unused task mid xs → Unused task old xs
back task old mid xs g u = ((λ k d below. unused_before (old.naming task) (mid.naming task) _ g.grows (u.0 k d below)), u.1)

-- a name that was given, and those that weren't used after that
more : (task w : ℕ) (x : Target) (old mid : State) (xs : List ℕ) → lookup old task w ≡ None → lookup mid task w ≡ Some x → Gives task old mid → Unused task mid xs → Unused task old (w ∷ xs)
more task w x old mid xs free taken g u = grind (arith, back)

same : (task : ℕ) (s : State) → (n : ℕ) (x : Target) → lookup s task n ≡ Some x → lookup s task n ≡ Some x
same task s n x e = e

none : (task : ℕ) (s : State) → Unused task s []
none task s = ((λ k d below. absurd (omega arith)), (λ i j d less below. absurd (omega arith)))

-- one right more in front
word_unused : (task : ℕ) (place : Place) (kind : Kind) (mark : Mark) (old : State) (w : ℕ × ℕ) (new : State) (ws : List (ℕ × ℕ)) (rs : List (Kind × Mark)) → is_in_task task place ≡ false →
    GiveMark task place kind mark old w.1 new → Unused task new (once_words ws rs) → Unused task old (once_words (w ∷ ws) ((kind, mark_asof old.live_port mark) ∷ rs))
word_unused task place receive mark old w new ws rs away h u = back task old new _ (GiveMark-means task place receive mark old old w.1 new away (same task old) h).0 u
word_unused task place send mark old w new ws rs away h u = back task old new _ (GiveMark-means task place send mark old old w.1 new away (same task old) h).0 u
word_unused task place send_once null old w new ws rs away h u = back task old new _ (Gives-same task old new h.1) u
word_unused task place send_once dead old w new ws rs away h u = back task old new _ (Gives-same task old new h.1) u
word_unused task place send_once (to_port p) old w new ws rs away h u =
    either (old.live_port p) _ _ _
    (λ live r. subst (λ (x : Mark). Unused task old (once_words (w ∷ ws) ((send_once, x) ∷ rs))) (same_mark (old.live_port p) p live)
    (more task w.1 (Target.once p) old new _ (fresh_unused old task w.1 r.named.fresh) (ap (λ (s : State). lookup s task w.1) r.rest ∙ Named-has task w.1 (Target.once p) old r.named_state r.named)
    (GiveMark-means task place send_once (to_port p) old old w.1 new away (same task old) h).0 u))
    (λ gone r. subst (λ (x : Mark). Unused task old (once_words (w ∷ ws) ((send_once, x) ∷ rs))) (dead_mark (old.live_port p) p gone)
    (back task old new _ (Gives-same task old new r.1) u))
    h

words_unused : (task : ℕ) (place : Place) (ws : List (ℕ × ℕ)) (old : State) (rs : List (Kind × Mark)) (new : State) → is_in_task task place ≡ false →
    Through (GiveWord task place) old ws rs new → Unused task old (once_words ws (list_map (right_asof old.live_port) rs))
words_unused task place [] old [] new away h = none task old
words_unused task place (w ∷ ws) old (r ∷ rs) new away h =
    let g = (GiveMark-means task place r.0 r.1 old old w.1 h.0 away (same task old) h.1).0 in
    let rest = words_unused task place ws h.0 rs new away h.2 in
    word_unused task place r.0 r.1 old w h.0 ws (list_map (right_asof old.live_port) rs) away h.1
    (subst (λ (f : ℕ → Bool). Unused task h.0 (once_words ws (list_map (right_asof f) rs))) g.live rest)
words_unused task place [] old (r ∷ rs) new away h = absurd h
words_unused task place (w ∷ ws) old [] new away h = absurd h

-- What a receipt gives means the entry's message, read with the ports that are dead. (That the task holds the port's receive
-- right is a law of the states: a set's members lie with its task.)
pub Receives-received : (task port room : ℕ) (bytes : List ℕ) (old new : State) (r : Receives task port room bytes old new) →
    r.e.message.destination ≡ port → Holds new task receive port →
    ReceivedMeans task old new bytes (asof old.live_port r.e.message)
Receives-received task port room bytes old new r is holds =
    let live : r.taken.live_port ≡ old.live_port = ap (λ (s : State). s.live_port) r.takes.rest in
    let apart = (words_unused task (in_message port (old.taken port)) (received_words r.header r.written) r.taken (message_rights r.e.message) new refl r.rights).1 in
    record {
      header = r.header;
      written = r.written;
      spells = r.spells;
      size = r.size;
      kind = r.kind;
      local = r.local ∙ ap (λ (p : ℕ). Some (Target.port p)) (sym is);
      holds = rw is holds;
      sequence = r.sequence ∙ ap old.sequence (sym is);
      id = r.id;
      reply = reply_same old.live_port r.header.remote_kind r.header.remote r.e.message.reply r.reply;
      body = body_same old.live_port r.written r.e.message.body r.body;
      rights = (Receives-means task port room bytes old new r).1;
      apart = subst (λ (rs : List (Kind × Mark)). AllPairs (λ (a b : ℕ). a ≢ b) (once_words (received_words r.header r.written) rs)) (sym (rights_asof old.live_port r.e.message))
          (subst (λ (f : ℕ → Bool). AllPairs (λ (a b : ℕ). a ≢ b) (once_words (received_words r.header r.written) (list_map (right_asof f) (message_rights r.e.message)))) live apart);
    }

-- bytes that mean a message still do when the task is given more
pub ReceivedMeans-later : (task : ℕ) (before mid after : State) (bytes : List ℕ) (m : Message) → Gives task mid after →
    ReceivedMeans task before mid bytes m → ReceivedMeans task before after bytes m
ReceivedMeans-later task before mid after bytes m g r = record {
  header = r.header;
  written = r.written;
  spells = r.spells;
  size = r.size;
  kind = r.kind;
  local = g.grows r.header.local (Target.port m.destination) r.local;
  holds = omega (arith, g.holds receive m.destination, r.holds);
  sequence = r.sequence;
  id = r.id;
  reply = r.reply;
  body = r.body;
  rights = keeps_words task before mid after (received_words r.header r.written) (message_rights m) g r.rights;
  apart = r.apart;
}

-- ---- The end of a step: behind what was in a log come its notices; and where the step's own part took no receive right, no port dies.

-- ---- elements of lists

-- an element of two lists, one behind the other
pub front_or_behind : {A : Type 0} (xs ys : List A) (k : ℕ) (x : A) → slice_get (xs ++ ys) k ≡ Some x →
    (slice_get xs k ≡ Some x) ⊎ ((i : ℕ) × (k ≡ length xs + i) × (slice_get ys i ≡ Some x))
front_or_behind [] ys k x e = inr (k, omega arith, e)
front_or_behind (y ∷ xs) ys zero x e = inl e
front_or_behind (y ∷ xs) ys (suc k) x e = grind (arith, front_or_behind xs ys k x e)

behind_at : {A : Type 0} (xs ys : List A) (i : ℕ) → slice_get (xs ++ ys) (length xs + i) ≡ slice_get ys i
behind_at [] ys i = ap (slice_get ys) (omega arith)
behind_at (x ∷ xs) ys i = grind (arith, behind_at xs ys i)

contains_mapped : {A B : Type 0} (f : A → B) (xs : List A) (x : A) → Contains xs x → Contains (list_map f xs) (f x)
contains_mapped f [] x (k, below, e) = absurd (omega (arith, below))
contains_mapped f (y ∷ xs) x (zero, below, e) = (zero, omega arith, ap f e)
contains_mapped f (y ∷ xs) x (suc k, below, e) = let h = contains_mapped f xs x (k, omega (arith, below), e) in (suc h.0, (let b = h.1 in omega (arith, b)), h.2)

-- ---- the logs

module _ (now : ℕ) (old : State) (event : Event) (reply : Reply) (new : State) (d : Done now old event reply new) where
  abbrev Stands : Posted → Type 0
  Stands x = (length (d.mid.log x.port) ≤ x.entry) × (slice_get (new.log x.port) x.entry ≡ Some record { origin = now; message = notice_message x.port x.notice })

  same_entry : (o : Option Entry) (a b : Entry) → o ≡ Some a → o ≡ Some b → a ≡ b
  same_entry o a b e f = grind arith

  told_at : (p k : ℕ) (e : Entry) → length (d.mid.log p) ≤ k → slice_get (new.log p) k ≡ Some e → IsToldBy now old event reply new p k e
  told_at p k e above is =
      let s = d.settles in
      let h = s.notices.cover p k above (slice_get_within (new.log p) k e is) in
      let stands = subst Stands h.3 (s.notices.stand h.0 h.1 h.2) in
      let one : Contains s.notices.posted h.1 = (h.0, h.2, h.3) in
      let same : h.1 ≡ record { port = p; entry = k; notice = h.1.notice } = λ i. record { port = h.4.0 i; entry = h.4.1 i; notice = h.1.notice } in
      let here : slice_get (new.log p) k ≡ Some record { origin = now; message = notice_message p h.1.notice } =
      subst (λ (x : Posted). slice_get (new.log x.port) x.entry ≡ Some record { origin = now; message = notice_message x.port x.notice }) same stands.1 in
      record {
        done = d.performed;
        notice = h.1.notice;
        due = subst (λ (x : Posted). Contains {X = ℕ × Notice} (due_notices (s.rights.paying ++ filter (λ x. new.live_port x.0.port) d.owed)) (x.port, x.notice)) same
            (subst (λ (ys : List (ℕ × Notice)). Contains {X = ℕ × Notice} ys (h.1.port, h.1.notice)) s.notices.due (contains_mapped (λ (x : Posted). (x.port, x.notice)) s.notices.posted h.1 one));
        posted = subst (λ (x : Posted). Contains s.notices.posted x) same one;
        is_notice = same_entry (slice_get (new.log p) k) e _ is here;
      }

  -- Behind a log as the step's own part left it come notices.
  pub done_tells : (p : ℕ) → Tells now old event reply new p (d.mid.log p)
  done_tells p =
      let h = d.settles.notices.logs p in
      record {
        told = h.0;
        log = h.1;
        are_told = λ i e is. told_at p (length (d.mid.log p) + i) e (omega arith)
            (ap (λ (xs : List Entry). slice_get xs (length (d.mid.log p) + i)) h.1 ∙ behind_at (d.mid.log p) h.0 i ∙ is);
      }

pub tells_nothing : (now : ℕ) (old : State) (event : Event) (reply : Reply) (new : State) (p : ℕ) → new.log p ≡ old.log p → Tells now old event reply new p (old.log p)
tells_nothing now old event reply new p same = grind (arith, append-nil)

-- ---- where no receive right was taken

module _ (now : ℕ) (old mid : State) (owed : Owed) (new : State) (l : MidLawful mid owed) (none : (p : ℕ) → ¬ (IsOrphan mid p)) (s : Settles now old mid owed new) where
  nobody_dies : (p : ℕ) → ¬ (Dies mid p)
  nobody_dies p d = Dies-least mid (λ q. ⊥) (record { orphans = λ q is not. none q is; carried = λ q r bad at not. bad }) p d

  nobody_goes : (p : ℕ) → ¬ (IsSentAway mid p)
  nobody_goes p (saved, inl is) = none p is
  nobody_goes p (saved, inr d) = nobody_dies d.0 d.1

  live : (p : ℕ) → new.live_port p ≡ mid.live_port p
  live p = grind (arith, nobody_dies)

  alive : (kind : Kind) (p : ℕ) → 0 < count (is_of kind p) mid.ledger → new.live_port p ≡ true
  alive kind p some = grind (arith, live)

  port_lives : (task name p : ℕ) → lookup mid task name ≡ Some (Target.port p) → new.live_port p ≡ true
  port_lives task name p is = grind (arith, held_le_of, alive)

  once_lives : (task name p : ℕ) → lookup mid task name ≡ Some (Target.once p) → new.live_port p ≡ true
  once_lives task name p is =
      let some = some_tally (is_once p) (mid.naming task) name (Target.once p) is (own p) in
      let a = held_le_of task send_once p mid.ledger in
      alive send_once p (omega (arith, some, (l.naming task).once_names p, a))
    where
      own : (q : ℕ) → is_once q (Target.once q) ≡ true
      own q = eq-eqb q q refl

  stays : (task name : ℕ) (x : Target) → lookup mid task name ≡ Some x → settled_target mid new task name x ≡ x
  stays task name (Target.port p) is = rw (port_lives task name p is)
  stays task name (Target.once p) is = rw (once_lives task name p is)
  stays task name (Target.dead n) is = refl
  stays task name (Target.set n) is = refl

  unsent : (p : ℕ) → s.ports.is_sent p ≡ false
  unsent p = grind (arith, nobody_goes)

  holds : (task : ℕ) (k : Kind) (q : ℕ) → held mid task k q ≤ held new task k q
  holds task k q = go (held mid task k q) refl
    where
      go : (n : ℕ) → held mid task k q ≡ n → held mid task k q ≤ held new task k q
      go zero e = omega (arith, e)
      go (suc n) e =
          let le = held_le_of task k q mid.ledger in
          let lives = alive k q (omega (arith, e, le)) in
          let a = kept_there now old mid owed new s (is_held task k q) (λ x t. let w = with_task task k q x t in (ap new.live_port w.0 ∙ lives, subst (PlaceStays new) (sym w.1) tt)) in
          let b = made_of now old mid owed new s (is_held task k q) in
          omega (arith, a, b)

  -- Where the step's own part took no receive right, no port dies at its end, and each task keeps its names and rights.
  pub ends_kindly : (task : ℕ) → Gives task mid new
  ends_kindly task = grind (arith, stays, live, fun_ext, unsent, holds)

-- ---- Steps that only tell leave the state, and no more ports die than there were.

-- ---- answers that only tell

the_first : (b : Bool) (P Q : Type 0) → b ≡ true → MatchBool b P Q → P
the_first true P Q e h = h
the_first false P Q e h = absurd (cc)

-- the step's own part leaves the state, and owes nothing
leaves_all : (now : ℕ) (old : State) (event : Event) (reply : Reply) (mid : State) (owed : Owed) → Does now old event reply mid owed → IsLook event reply → (mid ≡ old) × (owed ≡ [])
leaves_all now old (Event.GetRefs task name right) (Reply.Refs n) mid owed d look = (d.0, d.1)
leaves_all now old (Event.NameType task name) (Reply.NameType n) mid owed d look = (d.0, d.1)
leaves_all now old (Event.Names task) (Reply.Names names) mid owed d look = (d.0, d.1)
leaves_all now old (Event.ReceiveStatus task name) (Reply.Status status) mid owed d look = (d.0, d.1)
leaves_all now old (Event.SetStatus task name) (Reply.Members members) mid owed d look = (d.0, d.1)
leaves_all now old (Event.Receive task name room large) (Reply.Empty told) mid owed d look = (d.2.2, d.2.3)
leaves_all now old (Event.Receive task name room large) (Reply.TooLarge n) mid owed d look = grind (arith, the_first)
leaves_all now old (Event.Receive task name room large) (Reply.Refs n) mid owed d look = absurd d.2
leaves_all now old (Event.Receive task name room large) (Reply.NameType n) mid owed d look = absurd d.2
leaves_all now old (Event.Receive task name room large) (Reply.Names names) mid owed d look = absurd d.2
leaves_all now old (Event.Receive task name room large) (Reply.Status status) mid owed d look = absurd d.2
leaves_all now old (Event.Receive task name room large) (Reply.Members members) mid owed d look = absurd d.2
leaves_all now old (Event.ReceiveAgain task waited room large) (Reply.Empty told) mid owed d look = (d.2, d.3)
leaves_all now old (Event.ReceiveAgain task waited room large) (Reply.TooLarge n) mid owed d look = grind (arith, the_first)
leaves_all now old event (Reply.Code code) mid owed d look = absurd look
leaves_all now old event (Reply.Task task) mid owed d look = absurd look
leaves_all now old event (Reply.Name name) mid owed d look = absurd look
leaves_all now old event (Reply.Right name kind) mid owed d look = absurd look
leaves_all now old event (Reply.Previous name) mid owed d look = absurd look
leaves_all now old event (Reply.Message bytes) mid owed d look = absurd look
leaves_all now old event Reply.NoRecord mid owed d look = absurd look
leaves_all now old event reply mid owed d look = absurd d

unchanged : (old new : State) → IsReordered old new → IsUnchanged old new
unchanged old new r = record { rest = r.rest; tokens = r.tokens }

pub Step-looks : (now : ℕ) (old : State) (event : Event) (reply : Reply) (new : State) → IsLawful old → Step now old event reply new → IsLook event reply → IsUnchanged old new
Step-looks now old event reply new l (inl r) look = subst (IsUnchanged old) (sym r.same) (record { rest = refl; tokens = λ h. refl })
Step-looks now old event reply new l (inr d) look =
    let same = leaves_all now old event reply d.mid d.owed d.does look in
    unchanged old new (looks_reorder now old d.mid d.owed new l same.0 same.1 d.settles)

-- ---- a message that is too long

destroyed : (now n : ℕ) (event : Event) (task p : ℕ) (e : Entry) (large : Bool) (old mid : State) (owed : Owed) (new : State) → AsksFrom old event task p → n ≡ message_length e.message → ¬ (large ≡ true) →
    MatchBool large ((mid ≡ old) × (owed ≡ [])) (DestroysFront p e old mid owed) → Settles now old mid owed new → DestroysTooLong event n old new
destroyed now n event task p e true old mid owed new asks long not what s = absurd (not refl)
destroyed now n event task p e false old mid owed new asks long not what s = grind (arith, at_own, at_other)

no_length : (n code : ℕ) → Reply.TooLarge n ≡ Reply.Code code → ⊥
no_length n code e = cc

pub Step-destroys : (now : ℕ) (old : State) (event : Event) (n : ℕ) (new : State) → Step now old event (Reply.TooLarge n) new → ¬ (IsLook event (Reply.TooLarge n)) → DestroysTooLong event n old new
Step-destroys now old event n new (inl r) not = absurd (no_length n r.code r.told)
Step-destroys now old (Event.Receive task name room large) n new (inr d) not =
    let x = d.does in
    destroyed now n (Event.Receive task name room large) task x.2.0 x.2.1 large old d.mid d.owed new (refl, x.0, x.1, x.2.2) x.2.4 not x.2.6 d.settles
Step-destroys now old (Event.ReceiveAgain task waited room large) n new (inr d) not =
    let x = d.does in
    destroyed now n (Event.ReceiveAgain task waited room large) task x.0 x.1 large old d.mid d.owed new (refl, x.2) x.4 not x.6 d.settles
Step-destroys now old event n new (inr d) not = absurd d.does
