-- A message that is sent or received, and a right that is handed on, leave a lawful state.
use Rattle.std.proofs.Common.{◌≡◌, ℕ, ◌+◌, List, [], ◌∷◌, ◌++◌, Some, refl, sym, ap, subst, ◌∙◌, arith, true, false, Bool, zero, suc, ◌≤◌, inl, inr, ◌/◌, ◌%◌, ◌^◌, ◌<◌, None, ◌⊎◌, Option}
use Rattle.std.specs.Prelude.{◌==◌, MatchBool, length, if◌then◌else◌, nat_lt, ◌≢◌, ◌&&◌, slice_get, drop}
use Rattle.std.proofs.lemmas.Bool.{ne_eqb, ltb-true, ltb-false, cases_Bool, lt-ltb}
use Rattle.std.proofs.lemmas.Bool.Decides.{eqb_tells}
use Rattle.std.proofs.lemmas.List.{drop-append-le, length-append, length-drop}
use Rattle.std.proofs.lemmas.Option.{slice_get_within}
use Rattle.mach_types.specs.declared.rights.Disposition.{Disposition}
use Rattle.mach_types.specs.Numbers.{disposition, kind_sent, null_word, dead_word, most_references, most_rights}
use Rattle.mach_types.specs.Tokens.{Kind, in_message, receive, send, send_once, in_task, Token, token, is_held, same_kind, Moves, Place, in_request, count, is_of, weigh, is_in_task}
use Rattle.mach_types.specs.Messages.{Mark, to_port, ReplyRight, absent, present, Body, Message, null, dead, Entry}
use Rattle.mach_types.specs.Grammar.{WireBody, Header, Spells, text}
use Rattle.mach_types.specs.Bodies.{body_words, body_rights, reply_rights, message_rights, Through, AllZip}
use Rattle.mach_types.specs.declared.rights.Disposition.TheVariants.{MoveReceive, MoveSend, MoveSendOnce, CopySend, MakeSend, MakeSendOnce}
use Rattle.mach_types.specs.Guards.{NoneHolds}
use Rattle.mach_types.specs.TextGuards.{header_guards, word_at}
use Rattle.mach_model.specs.State.{State, Target, held, with_name, at, queue, lookup, gives}
use Rattle.mach_model.specs.SentMeans.{IsSent, target_mark}
use Rattle.mach_model.specs.CopyIn.{CopyRight, CopyWord, CopyReply, CopyCarried, CopyBody, IsLegal, taken_by, put_by}
use Rattle.mach_model.specs.Send.{Copied, Sends, entry, place_at}
use Rattle.mach_model.specs.Carried.{mark_count, rights_count, message_count, lying}
use Rattle.mach_model.proofs.Walks.{SameBody-each}
use Rattle.mach_model.proofs.Moving.{IsMoving, shape, shape-same, shape-trans, Apart, apart-same, apart-trans, moving, one_at_most, no_orphans, none_owed, same_receivers, arrived}
use Rattle.mach_model.proofs.Copying.{CopyRight-copies, at_entry, Copies, once_held, own_right, not_held, Removes, come_held, come_same, come_port, come_once, gone_removes}
use Rattle.mach_model.specs.CopyOut.{given_to, Named, NamedOnce, NamedFor, GiveMark, GiveWord}
use Rattle.mach_model.proofs.Names.{both_test, lying_le_of, length-weigh, left_of, right_of, IsNew, same_naming, at_same, at_other, at_own, at_all, snoc_cases, elsewhere, slice_get_drop}
use Rattle.mach_model.specs.Lawful.{IsLawful}
use Rattle.mach_model.specs.Midway.{MidLawful}
use Rattle.mach_model.proofs.Settling.{kind_refl}
use Rattle.mach_model.proofs.NamesLawful.{fresh_new}
use Rattle.mach_model.specs.Death.{same_place}
use Rattle.mach_model.specs.ReceivedMeans.{received_words}
use Rattle.mach_model.specs.Receive.{IsFront, with_taken, Receives}
use Rattle.mach_model.specs.Transfer.{target_for, Inserts, pegged, Extracts}
use Rattle.mach_model.specs.TransferRefusals.{inserted_guards, extracted_guards}
use Rattle.mach_model.specs.NameGuards.{IsNoName}
use Rattle.mach_model.specs.SendRefusals.{sent_guards}

-- ---- Copying in a whole message: the reply, each word of the body, and the destination before them. What is then on its way is what
-- the message carries.

pub rights_count-append : (c : Kind) (q : ℕ) (xs ys : List (Kind × Mark)) → rights_count c q (xs ++ ys) ≡ rights_count c q xs + rights_count c q ys
rights_count-append c q [] ys = omega arith
rights_count-append c q (x ∷ xs) ys = let e = rights_count-append c q xs ys in omega (arith, e)

-- So many rights more of each kind and port are on their way.
pub record Adds (s new : State) (o k : ℕ) (more : Kind → ℕ → ℕ) : Type 0 where
  pub keeps : IsMoving new o k
  pub rest : new ≡ shape s new
  pub apart : Apart s new o k
  pub lies : (c : Kind) (q : ℕ) → lying new c q (in_message o k) ≡ lying s c q (in_message o k) + more c q

adds_none : (s new : State) (o k : ℕ) (more : Kind → ℕ → ℕ) → IsMoving s o k → new ≡ s → ((c : Kind) (q : ℕ) → more c q ≡ 0) → Adds s new o k more
adds_none s new o k more l e none = grind (arith, shape-same, apart-same)

adds_both : (a b c : State) (o k : ℕ) (f g h : Kind → ℕ → ℕ) → Adds a b o k f → Adds b c o k g → ((kind : Kind) (q : ℕ) → h kind q ≡ f kind q + g kind q) → Adds a c o k h
adds_both a b c o k f g h x y sum = grind (arith, shape-trans, apart-trans)

given_once : (number : ℕ) (a b : Disposition) → disposition number ≡ Some a → disposition number ≡ Some b → a ≡ b
given_once number a b e f = cc

pub either : (b : Bool) (P Q R : Type 0) → (P → R) → (b ≡ false → Q → R) → MatchBool b P Q → R
either true P Q R f g h = f h
either false P Q R f g h = g refl h

CopyRight-adds : (task o k number name : ℕ) (kind : Kind) (old : State) (mark : Mark) (new : State) → IsMoving old o k → IsSent number kind →
    CopyRight task (in_message o k) number name old mark new → Adds old new o k (λ c q. mark_count c q kind mark)
CopyRight-adds task o k number name kind old mark new l is r =
    let c = CopyRight-copies task o k number name old mark new l r in
    let same : kind_sent r.given ≡ kind = ap kind_sent (given_once number r.given is.0 r.is_given is.1) ∙ sym is.2 in
    subst (λ (x : Kind). Adds old new o k (λ c q. mark_count c q x mark)) same (record { keeps = c.keeps; rest = c.rest; apart = c.apart; lies = c.lies })

CopyWord-adds : (task o k number word : ℕ) (kind : Kind) (old : State) (mark : Mark) (new : State) → IsMoving old o k → IsSent number kind →
    CopyWord task (in_message o k) number word old mark new → Adds old new o k (λ c q. mark_count c q kind mark)
CopyWord-adds task o k number word kind old mark new l is =
    either (word == null_word) _ _ _ (λ h. adds_none old new o k _ l h.1 (λ c q. ap (mark_count c q kind) h.0))
    (λ other. either (word == dead_word) _ _ _ (λ h. adds_none old new o k _ l h.1 (λ c q. ap (mark_count c q kind) h.0))
    (λ alive. CopyRight-adds task o k number word kind old mark new l is))

CopyReply-adds : (task o k number word : ℕ) (old : State) (reply : ReplyRight) (new : State) → IsMoving old o k →
    CopyReply task (in_message o k) number word old reply new → Adds old new o k (λ c q. rights_count c q (reply_rights reply))
CopyReply-adds task o k number word old absent new l h = adds_none old new o k _ l h.2 (λ c q. refl)
CopyReply-adds task o k number word old (present kind mark) new l h =
    let a = CopyWord-adds task o k number word kind old mark new l h.0 h.1 in
    record { keeps = a.keeps; rest = a.rest; apart = a.apart; lies = λ c q. let m = a.lies c q in omega (arith, m) }

words_add : (task o k : ℕ) (ws : List (ℕ × ℕ)) (old : State) (rs : List (Kind × Mark)) (new : State) → IsMoving old o k → AllZip (λ (w : ℕ × ℕ) (r : Kind × Mark). IsSent w.0 r.0) ws rs →
    Through (CopyCarried task (in_message o k)) old ws rs new → Adds old new o k (λ c q. rights_count c q rs)
words_add task o k [] old [] new l are h = adds_none old new o k _ l h (λ c q. refl)
words_add task o k (w ∷ ws) old (r ∷ rs) new l are h =
    let a = CopyWord-adds task o k w.0 w.1 r.0 old r.1 h.0 l are.0 h.1 in
    let b = words_add task o k ws h.0 rs new a.keeps are.1 h.2 in
    adds_both old h.0 new o k _ _ _ a b (λ c q. refl)
words_add task o k [] old (r ∷ rs) new l are h = absurd h
words_add task o k (w ∷ ws) old [] new l are h = absurd h

CopyBody-adds : (task o k : ℕ) (written : WireBody) (old : State) (body : Body) (new : State) → IsMoving old o k →
    CopyBody task (in_message o k) written old body new → Adds old new o k (λ c q. rights_count c q (body_rights body))
CopyBody-adds task o k written old body new l h = words_add task o k (body_words written) old (body_rights body) new l (SameBody-each IsSent written body h.0) h.1

-- Once the rights of a text are copied in, what is on its way is what the message carries.
pub Copied-adds : (task : ℕ) (header : Header) (written : WireBody) (old : State) (m : Message) (new : State) → IsMoving old m.destination (length (old.log m.destination)) →
    Copied task header written old m new → Adds old new m.destination (length (old.log m.destination)) (λ c q. message_count c q m)
Copied-adds task header written old m new l h =
    let o = m.destination in
    let k = length (old.log o) in
    let c = CopyRight-copies task o k header.remote_kind header.remote old (to_port o) h.first l h.destination in
    let c' : Adds old h.first o k (λ c q. mark_count c q m.kind (to_port o)) =
    subst (λ (x : Kind). Adds old h.first o k (λ c q. mark_count c q x (to_port o))) (sym h.kind) (record { keeps = c.keeps; rest = c.rest; apart = c.apart; lies = c.lies }) in
    let r = CopyReply-adds task o k header.local_kind header.local h.first m.reply h.second c.keeps h.reply in
    let b = CopyBody-adds task o k written h.second m.body new r.keeps h.body in
    let two : Adds h.first new o k (λ c q. rights_count c q (message_rights m)) =
    adds_both h.first h.second new o k _ _ _ r b (λ c q. rights_count-append c q (reply_rights m.reply) (body_rights m.body)) in
    adds_both old h.first new o k _ _ _ c' two (λ c q. refl)

-- ---- Copying out the rights of a message, one by one. What they carry is then no longer on its way.

removes_none : (s new : State) (o k : ℕ) (less : Kind → ℕ → ℕ) → IsMoving s o k → new ≡ s → ((c : Kind) (q : ℕ) → s.live_port q ≡ true → less c q ≡ 0) → Removes s new o k less
removes_none s new o k less l e none = grind (arith, shape-same, apart-same)

removes_both : (a b c : State) (o k : ℕ) (f g h : Kind → ℕ → ℕ) → Removes a b o k f → Removes b c o k g → ((kind : Kind) (q : ℕ) → h kind q ≡ f kind q + g kind q) → Removes a c o k h
removes_both a b c o k f g h x y sum = grind (arith, shape-trans, apart-trans)

-- ---- one right

pub named_new : (task name : ℕ) (x : Target) (old new : State) → Named task name x old new → IsNew (old.naming task) name
named_new task name x old new n = fresh_new old task name n.fresh (n.room)

onward : (old s new : State) (ledger : List Token) → new ≡ record s { ledger = ledger } → s ≡ old → new ≡ record old { ledger = ledger }
onward old s new ledger e f = e ∙ ap (λ (x : State). record x { ledger = ledger }) f

pub GiveRight-removes : (task o k : ℕ) (kind : Kind) (p : ℕ) (old : State) (name : ℕ) (new named : State) → IsMoving old o k → old.live_task task ≡ true → NamedFor kind task name p old named →
    new ≡ record named { ledger = new.ledger } → Moves old.ledger new.ledger (token kind p (in_message o k) ∷ []) (given_to kind p task old) → Removes old new o k (λ c q. mark_count c q kind (to_port p))
GiveRight-removes task o k receive p old name new named l is_task n rest tokens = go n
  where
    few : held new task send p ≤ most_references
    few = let a = come_held task o k old new receive p l is_task tokens send p in let b = (l.naming task).few_references p in omega (arith, a, b)

    go : NamedOnce task name p old named → Removes old new o k (λ c q. mark_count c q receive (to_port p))
    go (inl h) = come_same task o k old new receive p l is_task tokens name (λ e. cc) h.0 few (onward old named new new.ledger rest h.1)
    go (inr h) = come_port task o k old new receive p l is_task tokens (gives task name old).given name (λ e. cc) (named_new task name (Target.port p) old named h.1) h.0 few
        (onward (with_name task name (Target.port p) (gives task name old)) named new new.ledger rest h.1.rest)
GiveRight-removes task o k send p old name new named l is_task n rest tokens = by (nat_lt (held old task send p) most_references) refl tokens
  where
    by : (b : Bool) → nat_lt (held old task send p) most_references ≡ b → Moves old.ledger new.ledger (token send p (in_message o k) ∷ []) (if b then token send p (in_task task) ∷ [] else []) →
        Removes old new o k (λ c q. mark_count c q send (to_port p))
    by true e tokens = go n
      where
        few : held new task send p ≤ most_references
        few =
            let a = come_held task o k old new send p l is_task tokens send p in
            let b = ltb-true (held old task send p) most_references e in
            let c = at_most_one (is_held task send p (token send p (in_task task))) in omega (arith, a, b, c)
          where
            at_most_one : (b : Bool) → (if b then suc zero else zero) ≤ suc zero
            at_most_one true = omega arith
            at_most_one false = omega arith

        go : NamedOnce task name p old named → Removes old new o k (λ c q. mark_count c q send (to_port p))
        go (inl h) = come_same task o k old new send p l is_task tokens name (λ e. cc) h.0 few (onward old named new new.ledger rest h.1)
        go (inr h) = come_port task o k old new send p l is_task tokens (gives task name old).given name (λ e. cc) (named_new task name (Target.port p) old named h.1) h.0 few
            (onward (with_name task name (Target.port p) (gives task name old)) named new new.ledger rest h.1.rest)
    by false e tokens = go n
      where
        go : NamedOnce task name p old named → Removes old new o k (λ c q. mark_count c q send (to_port p))
        go (inl h) = gone_removes task o k old new send p refl l is_task tokens (onward old named new new.ledger rest h.1)
        go (inr h) = absurd (let a = ltb-false (held old task send p) most_references e in let m = (l.naming task).is_named p (omega (arith, a)) in h.0 m.0 m.1)
GiveRight-removes task o k send_once p old name new named l is_task n rest tokens =
    come_once task o k old new send_once p l is_task tokens (gives task name old).given name refl (named_new task name (Target.once p) old named n)
    (onward (with_name task name (Target.once p) (gives task name old)) named new new.ledger rest n.rest)

GiveMark-removes : (task o k : ℕ) (kind : Kind) (mark : Mark) (old : State) (word : ℕ) (new : State) → IsMoving old o k → old.live_task task ≡ true →
    GiveMark task (in_message o k) kind mark old word new → Removes old new o k (λ c q. mark_count c q kind mark)
GiveMark-removes task o k kind null old word new l is_task h = removes_none old new o k _ l h.1 (λ c q live. refl)
GiveMark-removes task o k kind dead old word new l is_task h = removes_none old new o k _ l h.1 (λ c q live. refl)
GiveMark-removes task o k kind (to_port p) old word new l is_task h =
    either (old.live_port p) _ _ _
    (λ r. GiveRight-removes task o k kind p old word new r.named_state l is_task r.named r.rest r.tokens)
    (λ gone g. removes_none old new o k _ l g.1 (λ c q live.
    both_test (same_kind c kind) (p == q) (inr (ne_eqb p q (λ e. let a : old.live_port q ≡ false = subst (λ (x : ℕ). old.live_port x ≡ false) e gone in cc)))))
    h

-- ---- all of them

still_task : (task o k : ℕ) (s new : State) (less : Kind → ℕ → ℕ) → Removes s new o k less → s.live_task task ≡ true → new.live_task task ≡ true
still_task task o k s new less r is = ap (λ (x : State). x.live_task task) r.rest ∙ is

pub words_remove : (task o k : ℕ) (ws : List (ℕ × ℕ)) (old : State) (rs : List (Kind × Mark)) (new : State) → IsMoving old o k → old.live_task task ≡ true →
    Through (GiveWord task (in_message o k)) old ws rs new → Removes old new o k (λ c q. rights_count c q rs)
words_remove task o k [] old [] new l is_task h = removes_none old new o k _ l h (λ c q live. refl)
words_remove task o k (w ∷ ws) old (r ∷ rs) new l is_task h =
    let a = GiveMark-removes task o k r.0 r.1 old w.1 h.0 l is_task h.1 in
    let b = words_remove task o k ws h.0 rs new a.keeps (still_task task o k old h.0 _ a is_task) h.2 in
    removes_both old h.0 new o k _ _ _ a b (λ c q. refl)
words_remove task o k [] old (r ∷ rs) new l is_task h = absurd h
words_remove task o k (w ∷ ws) old [] new l is_task h = absurd h

-- ---- No message goes by a receive right.

receive_number : (n : ℕ) → disposition n ≡ Some MoveReceive → n ≡ 16
receive_number n is = grind arith

-- the first word of a text begins with the destination's disposition
pub first_byte : (h : Header) (w : WireBody) → h.remote_kind < 2 ^ 8 → h.local_kind < 2 ^ 8 → word_at (text h w) 0 % 2 ^ 8 ≡ h.remote_kind
first_byte h (WireBody.raw bytes) a b = omega arith
first_byte h (WireBody.items ws) a b = omega arith

second_byte : (h : Header) (w : WireBody) → h.remote_kind < 2 ^ 8 → h.local_kind < 2 ^ 8 → word_at (text h w) 0 / 2 ^ 8 % 2 ^ 8 ≡ h.local_kind
second_byte h (WireBody.raw bytes) a b = omega arith
second_byte h (WireBody.items ws) a b = omega arith

-- neither the destination nor the reply of a text that is a message is moved as a receive right
pub record NoneMoved (header : Header) : Type 0 where
  pub remote : header.remote_kind ≢ 16
  pub local : header.local_kind ≢ 16

pub none_moved : (bytes : List ℕ) (header : Header) (written : WireBody) → NoneHolds (header_guards bytes) → Spells bytes header written → NoneMoved header
none_moved bytes header written good spells = grind (arith, first_byte, second_byte)

not_receive : (n : ℕ) (given : Disposition) → n ≢ 16 → disposition n ≡ Some given → kind_sent given ≢ receive
not_receive n MoveReceive other is e = other (receive_number n is)
not_receive n MoveSend other is e = cc
not_receive n MoveSendOnce other is e = cc
not_receive n CopySend other is e = cc
not_receive n MakeSend other is e = cc
not_receive n MakeSendOnce other is e = cc

pub by_a_send : (now task : ℕ) (bytes : List ℕ) (old mid : State) → NoneHolds (header_guards bytes) → (s : Sends now task bytes old mid) → s.m.kind ≢ receive
by_a_send now task bytes old mid good s e = grind (arith, none_moved bytes s.header s.written good s.spells)

-- ---- A message that is sent leaves a lawful state, whatever rights it carries.

-- ---- the message is appended

module _ (s : State) (now : ℕ) (m : Message) (l : IsMoving s m.destination (length (s.log m.destination))) (not_receive : m.kind ≢ receive) (few : length s.ledger ≤ most_rights)
    (lies : (kind : Kind) (q : ℕ) → lying s kind q (in_message m.destination (length (s.log m.destination))) ≡ message_count kind q m) where
  abbrev p : ℕ
  p = m.destination

  abbrev end : ℕ
  end = length (s.log p)

  abbrev new : State
  new = record s { log = at s.log p (s.log p ++ entry now m ∷ []) }

  live : s.live_port p ≡ true
  live = grind (arith, lies m.kind p, lying_le_of s m.kind p (in_message p end))

  below_made : p < s.ports_made
  below_made = l.made_port p live

  log_other : (q : ℕ) → (q ≡ p → ⊥) → new.log q ≡ s.log q
  log_other q not = at_other s.log p (s.log p ++ entry now m ∷ []) q not

  queue_is : queue new p ≡ queue s p ++ entry now m ∷ []
  queue_is = ap (drop (s.taken p)) (at_own s.log p (s.log p ++ entry now m ∷ [])) ∙ drop-append-le (s.taken p) (s.log p) (entry now m ∷ []) (l.within p)

  -- what is true of each entry before, and of the new one
  entries : (P : ℕ → Entry → Type 0) → P p (entry now m) → ((q k : ℕ) (e : Entry) → slice_get (s.log q) k ≡ Some e → P q e) →
      (q k : ℕ) (e : Entry) → slice_get (new.log q) k ≡ Some e → P q e
  entries P own all q k e = grind (arith, at_all, snoc_cases)

  made_marks : (kind : Kind) (r : ℕ) → s.ports_made ≤ r → message_count kind r m ≡ 0
  made_marks kind r above = grind (arith, cases_Bool, lying_le_of)

  carried : (q i : ℕ) (e : Entry) → s.live_port q ≡ true → slice_get (queue new q) i ≡ Some e → (kind : Kind) (r : ℕ) → s.live_port r ≡ true →
      lying s kind r (in_message q (s.taken q + i)) ≡ message_count kind r e.message
  carried q i e live_q is kind r live_r = elim (eqb_tells q p) [
    | inr h ↦ l.carried q i e (λ x y. h.1 x) live_q (subst (λ (xs : List Entry). slice_get (drop (s.taken q) xs) i ≡ Some e) (log_other q h.1) is) kind r live_r
    | inl h ↦
        let is' : slice_get (queue s p ++ entry now m ∷ []) i ≡ Some e =
        subst (λ (xs : List Entry). slice_get xs i ≡ Some e) queue_is (subst (λ (x : ℕ). slice_get (queue new x) i ≡ Some e) h.1 is) in
        let long = length-drop (s.taken p) (s.log p) in
        subst (λ (x : ℕ). lying s kind r (in_message x (s.taken x + i)) ≡ message_count kind r e.message) (sym h.1)
        (elim (snoc_cases (queue s p) (entry now m) i e is') [
          | inl g ↦ l.carried p i e (λ x y. omega (arith, y, g.0, long)) live g.1 kind r live_r
          | inr g ↦
              let within = l.within p in
              let at_end : s.taken p + i ≡ end = omega (arith, g.0, long, within) in
              rw at_end (lies kind r ∙ ap (λ (x : Entry). message_count kind r x.message) (sym g.1))
        ])
  ]

  not_end : (q k : ℕ) → (k < s.taken q) ⊎ (s.live_port q ≡ false) → q ≡ p → k ≡ end → ⊥
  not_end q k (inl below) x y = grind arith
  not_end q k (inr is_dead) x y = let a = live in let b : s.live_port p ≡ false = subst (λ (o : ℕ). s.live_port o ≡ false) x is_dead in cc

  no_entry : (q k : ℕ) → length (new.log q) ≤ k → (kind : Kind) (r : ℕ) → lying s kind r (in_message q k) ≡ 0
  no_entry q k above kind r = grind (arith, at_same, length-append, log_other)

  sent_lawful : MidLawful new []
  sent_lawful = record {
    tasks = l.tasks;
    naming = l.naming;
    ports = l.ports;
    numbers = l.numbers;
    receivers = record { most_receive = one_at_most s.live_port s.ledger l.one_receive l.no_rights; members = λ q set in_it. let h = l.members q set in_it in (h.0, h.1, inl h.2) };
    room = no_orphans new [] l.one_receive (none_owed s.live_port) (omega (arith, few));
    sets = l.sets;
    membership = l.membership;
    logs = record {
      unmade_log = λ q above. let b = below_made in log_other q (λ x. omega (arith, b, above, x)) ∙ l.unmade_log q above;
      within = λ q. at_all (λ q log. s.taken q ≤ length log) s.log p (s.log p ++ entry now m ∷ [])
          (let w = l.within p in let more = length-append (s.log p) (entry now m ∷ []) in omega (arith, w, more)) (λ q not. l.within q) q;
      sent_here = entries (λ q e. (e.message.destination ≡ q) × (e.message.kind ≢ receive)) (refl, not_receive) l.sent_here;
      made_marks = entries (λ q e. (kind : Kind) (r : ℕ) → s.ports_made ≤ r → message_count kind r e.message ≡ 0) made_marks l.made_marks;
    };
    messages = record {
      carried = carried;
      gone = λ q k is kind r. l.gone q k (not_end q k is) is kind r;
      no_entry = no_entry;
    };
    requests = l.requests;
    standing = l.standing;
    ground = l.ground;
  }

-- ---- a send

not_above : (a b : ℕ) → (b < a → ⊥) → a ≤ b
not_above a b not = omega (arith, not)

pub Sends-adds : (now task : ℕ) (bytes : List ℕ) (old mid : State) → IsLawful old → (s : Sends now task bytes old mid) →
    Adds old s.copied_state s.m.destination (length (old.log s.m.destination)) (λ c q. message_count c q s.m)
Sends-adds now task bytes old mid l s = Copied-adds task s.header s.written old s.m s.copied_state (moving old s.m.destination (length (old.log s.m.destination)) l) s.copied

pub Sends-mid : (now task : ℕ) (bytes : List ℕ) (old mid : State) → NoneHolds (header_guards bytes) → IsLawful old → (s : Sends now task bytes old mid) →
    NoneHolds (sent_guards s.m (place_at old s.m.destination) s.copied_state) → MidLawful mid []
Sends-mid now task bytes old mid good l s unrefused =
    let o = s.m.destination in
    let a = Sends-adds now task bytes old mid l s in
    let log : s.copied_state.log ≡ old.log = ap (λ (x : State). x.log) a.rest in
    let long : length (old.log o) ≡ length (s.copied_state.log o) = ap (λ (f : ℕ → List Entry). length (f o)) (sym log) in
    let keeps = subst (IsMoving s.copied_state o) long a.keeps in
    let lies : (kind : Kind) (q : ℕ) → lying s.copied_state kind q (in_message o (length (old.log o))) ≡ message_count kind q s.m =
    λ kind q. let e = a.lies kind q in let z = l.no_entry o (length (old.log o)) (omega arith) kind q in omega (arith, e, z) in
    let lies' = subst (λ (k : ℕ). (kind : Kind) (q : ℕ) → lying s.copied_state kind q (in_message o k) ≡ message_count kind q s.m) long lies in
    subst (λ (x : State). MidLawful x []) (sym s.rest)
    (sent_lawful s.copied_state now s.m keeps (by_a_send now task bytes old mid good s) (not_above (length s.copied_state.ledger) most_rights unrefused.1.1.0) lies')

-- ---- A message that is received, whatever it carries, leaves a lawful state.

-- ---- the front entry is taken: its rights are on their way, but for its destination's

module _ (s : State) (p : ℕ) (e : Entry) (ledger : List Token) (l : IsLawful s) (live : s.live_port p ≡ true) (front : IsFront s p e)
    (moves : Moves s.ledger ledger (token e.message.kind p (in_message p (s.taken p)) ∷ []) []) where
  abbrev pub new_received : State
  new_received = record (with_taken p s) { ledger = ledger }

  abbrev pub k : ℕ
  k = s.taken p

  here : (e.message.destination ≡ p) × (e.message.kind ≢ receive)
  here = l.sent_here p k e front

  tokens_for : (test : Token → Bool) → count test ledger + (if test (token e.message.kind p (in_message p k)) then 1 else 0) ≡ count test s.ledger
  tokens_for test = let m = moves (λ x. if test x then 1 else 0) in omega (arith, m)

  held_same : (t : ℕ) (kind : Kind) (q : ℕ) → held new_received t kind q ≡ held s t kind q
  held_same t kind q = grind (arith, tokens_for, both_test)

  no_receive : (c : Kind) → c ≢ receive → same_kind receive c ≡ false
  no_receive receive not = absurd (not refl)
  no_receive send not = refl
  no_receive send_once not = refl

  of_receive : (q : ℕ) → count (is_of receive q) ledger ≡ count (is_of receive q) s.ledger
  of_receive q = grind (arith, tokens_for, both_test, no_receive, here)

  lying_elsewhere : (kind : Kind) (q o j : ℕ) → (o ≡ p → j ≡ k → ⊥) → lying new_received kind q (in_message o j) ≡ lying s kind q (in_message o j)
  lying_elsewhere kind q o j not = grind (arith, tokens_for, both_test, elsewhere)

  lying_less : (kind : Kind) (q : ℕ) (place : Place) → lying new_received kind q place ≤ lying s kind q place
  lying_less kind q place = let m = tokens_for (λ x. is_of kind q x && same_place place x.place) in omega (arith, m)

  -- what is on its way is what the reply and the body carry
  pub lies : (kind : Kind) (q : ℕ) → s.live_port q ≡ true → lying new_received kind q (in_message p k) ≡ rights_count kind q (message_rights e.message)
  lies kind q live_q =
      let m = tokens_for (λ x. is_of kind q x && same_place (in_message p k) x.place) in
      let own = at_entry kind q p k e.message.kind p in
      let queued : slice_get (queue s p) 0 ≡ Some e = slice_get_drop k (s.log p) 0 ∙ ap (slice_get (s.log p)) (omega arith) ∙ front in
      let carried_received : lying s kind q (in_message p k) ≡ message_count kind q e.message =
      subst (λ (n : ℕ). lying s kind q (in_message p n) ≡ message_count kind q e.message) (omega arith) (l.carried p 0 e live queued kind q live_q) in
      let dest : mark_count kind q e.message.kind (to_port e.message.destination) ≡ mark_count kind q e.message.kind (to_port p) =
      ap (λ (x : ℕ). mark_count kind q e.message.kind (to_port x)) here.0 in
      omega (arith, m, own, carried_received, dest)

  taken_is : (q : ℕ) → q ≡ p → new_received.taken q ≡ s.taken p + 1
  taken_is q is = at_same s.taken p (s.taken p + 1) q is

  taken_other : (q : ℕ) → (q ≡ p → ⊥) → new_received.taken q ≡ s.taken q
  taken_other q not = at_other s.taken p (s.taken p + 1) q not

  carried_received : (q i : ℕ) (f : Entry) → new_received.live_port q ≡ true → slice_get (queue new_received q) i ≡ Some f → (kind : Kind) (r : ℕ) → new_received.live_port r ≡ true →
      lying new_received kind r (in_message q (new_received.taken q + i)) ≡ message_count kind r f.message
  carried_received q i f live_q is kind r live_r = elim (eqb_tells q p) [
    | inl h ↦
        let t : new_received.taken q ≡ s.taken q + 1 = taken_is q h.1 ∙ ap (λ (x : ℕ). s.taken x + 1) (sym h.1) in
        let t' : new_received.taken q + i ≡ s.taken q + suc i = omega (arith, t) in
        let queued : slice_get (queue s q) (suc i) ≡ Some f = slice_get_drop (s.taken q) (s.log q) (suc i) ∙ ap (slice_get (s.log q)) (sym t') ∙ sym (slice_get_drop (new_received.taken q) (s.log q) i) ∙ is in
        let same : s.taken q ≡ s.taken p = ap s.taken h.1 in
        rw t' (lying_elsewhere kind r q (s.taken q + suc i) (λ x y. omega (arith, y, same)) ∙ l.carried q (suc i) f live_q queued kind r live_r)
    | inr h ↦
        let t : new_received.taken q ≡ s.taken q = taken_other q h.1 in
        let queued : slice_get (queue s q) i ≡ Some f = subst (λ (n : ℕ). slice_get (drop n (s.log q)) i ≡ Some f) t is in
        rw t (lying_elsewhere kind r q (s.taken q + i) (λ x y. h.1 x) ∙ l.carried q i f live_q queued kind r live_r)
  ]

  gone : (q j : ℕ) → (q ≡ p → j ≡ k → ⊥) → (j < new_received.taken q) ⊎ (new_received.live_port q ≡ false) → (kind : Kind) (r : ℕ) → lying new_received kind r (in_message q j) ≡ 0
  gone q j not (inr is_dead) kind r = lying_elsewhere kind r q j not ∙ l.gone q j (inr is_dead) kind r
  gone q j not (inl below) kind r = grind (arith, taken_is, lying_elsewhere, taken_other)

  pub taken_moving : IsMoving new_received p k
  taken_moving = record {
    tasks = l.tasks;
    naming = λ t. same_naming (s.naming t) (held s t) (held new_received t) (l.naming t) (held_same t);
    ports = record { made_port = l.made_port; no_rights = λ q is_dead kind. let m = tokens_for (is_of kind q) in let z = l.no_rights q is_dead kind in omega (arith, m, z) };
    numbers = record {
      limit_fits = l.limit_fits;
      make_send_fits = l.make_send_fits;
      sequence_fits = at_all (λ q n. n < 2 ^ 32) s.sequence p ((s.sequence p + 1) % 2 ^ 32) (omega arith) (λ q not. l.sequence_fits q);
    };
    receivers = same_receivers s.live_port s.set_owner s.sets_of s.ledger ledger l.receivers of_receive (λ t q. let e = held_same t receive q in omega (arith, e));
    sets = l.sets;
    membership = l.membership;
    logs = record {
      unmade_log = l.unmade_log;
      within = at_all (λ q n. n ≤ length (s.log q)) s.taken p (s.taken p + 1) (let h = slice_get_within (s.log p) (s.taken p) e front in omega (arith, h)) (λ q not. l.within q);
      sent_here = l.sent_here;
      made_marks = l.made_marks;
    };
    messages = record {
      carried = λ q i f not. carried_received q i f;
      gone = gone;
      no_entry = λ q j not above kind r. let a = lying_less kind r (in_message q j) in let b = l.no_entry q j above kind r in omega (arith, a, b);
    };
    requests = record {
      one_kept = λ r. let m = tokens_for (λ x. same_place (in_request r) x.place) in let h = l.one_kept r in omega (arith, m, h);
      once_kept = λ r kind q not. let a = lying_less kind q (in_request r) in let b = l.once_kept r kind q not in omega (arith, a, b);
    };
    standing = record { ended = λ r not on kind q. let a = lying_less kind q (in_request r) in let b = l.ended r not kind q in omega (arith, a, b) };
    ground = l.ground;
  }

-- ---- a receipt

-- what a receipt does from the state in which the entry was taken
pub Receives-removes : (task port room : ℕ) (bytes : List ℕ) (old mid : State) → IsLawful old → old.live_port port ≡ true → old.live_task task ≡ true → (r : Receives task port room bytes old mid) →
    Removes r.taken mid port (old.taken port) (λ c q. rights_count c q (message_rights r.e.message))
Receives-removes task port room bytes old mid l live is_task r =
    let k = old.taken port in
    let moving = subst (λ (x : State). IsMoving x port k) (sym r.takes.rest) (taken_moving old port r.e r.taken.ledger l live r.takes.front r.takes.tokens) in
    let task_lives = ap (λ (x : State). x.live_task task) r.takes.rest ∙ is_task in
    words_remove task port k (received_words r.header r.written) r.taken (message_rights r.e.message) mid moving task_lives r.rights

pub Receives-mid : (task port room : ℕ) (bytes : List ℕ) (old mid : State) → IsLawful old → old.live_port port ≡ true → old.live_task task ≡ true → Receives task port room bytes old mid → MidLawful mid []
Receives-mid task port room bytes old mid l live is_task r =
    let x = Receives-removes task port room bytes old mid l live is_task r in
    arrived mid port (old.taken port) x.keeps (inl below) none few
  where
    rest : mid ≡ shape r.taken mid
    rest = (Receives-removes task port room bytes old mid l live is_task r).rest

    below : old.taken port < mid.taken port
    below = grind (arith, rest, at_own)

    few : length mid.ledger ≤ most_rights
    few =
        let a = (Receives-removes task port room bytes old mid l live is_task r).few in
        let m = r.takes.tokens (λ x. 1) in
        let h = l.few_rights in omega (arith, a, m, h, length-weigh old.ledger, length-weigh r.taken.ledger)

    none : (kind : Kind) (q : ℕ) → lying mid kind q (in_message port (old.taken port)) ≡ 0
    none kind q =
        let x = Receives-removes task port room bytes old mid l live is_task r in
        elim (cases_Bool (mid.live_port q)) [
          | inl live_q ↦
              let a : r.taken.live_port q ≡ true = sym (ap (λ (s : State). s.live_port q) rest) ∙ live_q in
              let b : old.live_port q ≡ true = sym (ap (λ (s : State). s.live_port q) r.takes.rest) ∙ a in
              let c = lies old port r.e r.taken.ledger l live r.takes.front r.takes.tokens kind q b in
              let d = x.lies kind q a in omega (arith, c, d)
          | inr is_dead ↦ let a = lying_le_of mid kind q (in_message port (old.taken port)) in let b = x.keeps.no_rights q is_dead kind in omega (arith, a, b)
        ]

-- ---- A right that is handed from a task to another, or to the same, leaves a lawful state. On its way it is seen as lying at an entry
-- that no log has.

-- ---- one token is taken from a list

pub same_kinds : (a b : Kind) → same_kind a b ≡ true → b ≡ a
same_kinds receive receive e = refl
same_kinds send send e = refl
same_kinds send_once send_once e = refl
same_kinds receive send e = absurd (cc)
same_kinds receive send_once e = absurd (cc)
same_kinds send receive e = absurd (cc)
same_kinds send send_once e = absurd (cc)
same_kinds send_once receive e = absurd (cc)
same_kinds send_once send e = absurd (cc)

pub same_numbers : (a b : ℕ) → (a == b) ≡ true → a ≡ b
same_numbers a b e = grind arith

pub same_task : (task : ℕ) (place : Place) → is_in_task task place ≡ true → place ≡ in_task task
same_task task (in_task other) e = ap in_task (same_numbers other task e)
same_task task (in_message p k) e = absurd (cc)
same_task task (in_request r) e = absurd (cc)

-- a token that passes is the one
pub is_it : (task : ℕ) (kind : Kind) (p : ℕ) (x : Token) → is_held task kind p x ≡ true → x ≡ token kind p (in_task task)
is_it task kind p x e = grind (arith, left_of, same_kinds, same_numbers, right_of, same_task)

one_taken : (task : ℕ) (kind : Kind) (p : ℕ) (xs : List Token) → 0 < count (is_held task kind p) xs → (ys : List Token) × Moves xs ys (token kind p (in_task task) ∷ []) []
one_taken task kind p [] some = absurd (omega (arith, some))
one_taken task kind p (x ∷ xs) some = go (is_held task kind p x) refl (one_taken task kind p xs)
  where
    go : (b : Bool) → is_held task kind p x ≡ b → (0 < count (is_held task kind p) xs → (ys : List Token) × Moves xs ys (token kind p (in_task task) ∷ []) []) →
        (ys : List Token) × Moves (x ∷ xs) ys (token kind p (in_task task) ∷ []) []
    go true e rest = (xs, λ h. (let f : h x ≡ h (token kind p (in_task task)) = ap h (is_it task kind p x e) in omega (arith, f)))
    go false e rest =
        let z : (if is_held task kind p x then suc zero else zero) ≡ zero = rw e refl in
        let m = rest (omega (arith, some, z)) in
        let n = m.1 in (x ∷ m.0, λ h. (let f = n h in omega (arith, f)))

-- ---- the right as it lies at an entry

same_mark : (a b : ℕ) → Some (to_port a) ≡ Some (to_port b) → a ≡ b
same_mark a b e = cc

-- what the right of a port is, where it stands
pub put_is : (s : State) (from : ℕ) (given : Disposition) (target : Target) (p : ℕ) → IsLegal s from given target → target_mark given target ≡ Some (to_port p) → (place : Place) →
    put_by given target place ≡ token (kind_sent given) p place ∷ []
put_is s from MoveSend (Target.dead n) p legal e place = absurd (cc)
put_is s from MoveSendOnce (Target.dead n) p legal e place = absurd (cc)
put_is s from CopySend (Target.dead n) p legal e place = absurd (cc)
put_is s from given (Target.port q) p legal e place = ap (λ (x : ℕ). token (kind_sent given) x place ∷ []) (same_mark q p e)
put_is s from given (Target.once q) p legal e place = ap (λ (x : ℕ). token (kind_sent given) x place ∷ []) (same_mark q p e)
put_is s from given target p legal e place = absurd legal

-- what is taken was there
module _ (s : State) (o k : ℕ) (l : IsMoving s o k) (from to name : ℕ) where
  was_held : (c kind : Kind) (p q : ℕ) → 0 < held s from kind q → weigh (λ x. if is_held to c p x then 1 else 0) (token kind q (in_task from) ∷ []) ≤ held s to c p
  was_held c kind p q some = grind (arith, left_of, same_kinds, same_numbers, right_of)

  taken_less : (c : Kind) (p : ℕ) (given : Disposition) (target : Target) → lookup s from name ≡ Some target → IsLegal s from given target →
      weigh (λ x. if is_held to c p x then 1 else 0) (taken_by given target from) ≤ held s to c p
  taken_less c p MoveReceive (Target.port q) is legal = was_held c receive p q legal
  taken_less c p MoveSend (Target.port q) is legal = was_held c send p q legal
  taken_less c p MoveSendOnce (Target.once q) is legal = was_held c send_once p q (once_held s o k l from name q is)
  taken_less c p CopySend (Target.port q) is legal = omega arith
  taken_less c p MakeSend (Target.port q) is legal = omega arith
  taken_less c p MakeSendOnce (Target.port q) is legal = omega arith
  taken_less c p MoveSend (Target.dead n) is legal = omega arith
  taken_less c p MoveSendOnce (Target.dead n) is legal = omega arith
  taken_less c p CopySend (Target.dead n) is legal = omega arith
  taken_less c p given target is legal = absurd legal

-- A right that was copied in with a task, as if it still lay at the entry.
pub record Halfway (s copied : State) (o k to : ℕ) (kind : Kind) (p : ℕ) : Type 0 where
  pub ledger : List Token
  pub copies : Copies s (record copied { ledger = ledger }) o k kind (to_port p)
  pub moves : Moves ledger copied.ledger (token kind p (in_message o k) ∷ []) (token kind p (in_task to) ∷ [])

module _ (from to number name p o k : ℕ) (s copied : State) (l : IsMoving s o k) (r : CopyRight from (in_task to) number name s (to_port p) copied) where
  abbrev sent_kind : Kind
  sent_kind = kind_sent r.given

  some : 0 < count (is_held to sent_kind p) copied.ledger
  some = grind (
    arith,
    r.tokens (λ x. if is_held to sent_kind p x then 1 else 0),
    taken_less s o k l from to name sent_kind p r.given r.target r.found r.legal,
    ap (weigh (λ x. if is_held to sent_kind p x then 1 else 0)) (put_is s from r.given r.target p r.legal r.mark_is (in_task to)),
    own_right to sent_kind p (kind_refl sent_kind),
  )

  taken : (ys : List Token) × Moves copied.ledger ys (token sent_kind p (in_task to) ∷ []) []
  taken = one_taken to sent_kind p copied.ledger some

  abbrev ledger : List Token
  ledger = token sent_kind p (in_message o k) ∷ taken.0

  pub halfway : Halfway s copied o k to sent_kind p
  halfway = record {
    ledger = ledger;
    copies = CopyRight-copies from o k number name s (to_port p) (record copied { ledger = ledger }) l (record {
      given = r.given;
      is_given = r.is_given;
      target = r.target;
      found = r.found;
      legal = r.legal;
      mark_is = r.mark_is;
      rest = ap (λ (x : State). record x { ledger = ledger }) r.rest;
      tokens = λ h.
          let a = r.tokens h in
          let b = taken.1 h in
          let c = ap (weigh h) (put_is s from r.given r.target p r.legal r.mark_is (in_task to)) in
          let d = ap (weigh h) (put_is s from r.given r.target p r.legal r.mark_is (in_message o k)) in omega (arith, a, b, c, d);
    });
    moves = λ h. let b = taken.1 h in omega (arith, b);
  }

-- ---- it arrives

-- what was on its way and is with a task now has left the state lawful
arrives : (o k : ℕ) (old v mid : State) (kind : Kind) (p : ℕ) → IsLawful old → length (old.log o) ≤ k → Copies old v o k kind (to_port p) → Removes v mid o k (λ c q. mark_count c q kind (to_port p)) →
    length mid.ledger ≤ most_rights → MidLawful mid []
arrives o k old v mid kind p l above c r few = grind (arith, arrived, cases_Bool, lying_le_of)

-- ---- into a task, under a name that the caller gives

must_be : (o : Option Target) (p : ℕ) → ¬ (o ≢ Some (Target.port p)) → o ≡ Some (Target.port p)
must_be None p not = absurd (not (λ e. cc))
must_be (Some (Target.port q)) p not = grind arith
must_be (Some (Target.once q)) p not = absurd (not (λ e. cc))
must_be (Some (Target.dead n)) p not = absurd (not (λ e. cc))
must_be (Some (Target.set s)) p not = absurd (not (λ e. cc))

above_not : (a b : ℕ) → (b < a → ⊥) → a ≤ b
above_not a b not = omega (arith, not)

is_below : (a b : ℕ) → (b ≤ a → ⊥) → a < b
is_below a b not = omega (arith, not)

module _ (task name p o k : ℕ) (copied : State) (ledger : List Token) (kind : Kind) (l : IsMoving (record copied { ledger = ledger }) o k) (is_task : copied.live_task task ≡ true)
    (tokens : Moves ledger copied.ledger (token kind p (in_message o k) ∷ []) (token kind p (in_task task) ∷ []))
    (good : NoneHolds (inserted_guards copied task name p kind)) (fits : ¬ (IsNoName name)) where
  abbrev v : State
  v = record copied { ledger = ledger }

  few_here : held copied task send p ≤ most_references
  few_here = above_not (held copied task send p) most_references good.1.1.0

  abbrev Done : State → Type 0
  Done mid = Removes v mid o k (λ c q. mark_count c q kind (to_port p))

  is_new : lookup copied task name ≡ None → IsNew (v.naming task) name
  is_new none = grind (arith, some, is_below)

  named_there : lookup copied task name ≢ None → Done copied
  named_there some = come_same task o k v copied kind p l is_task tokens name (λ e. good.1.0 (some, inl e))
      (must_be (lookup copied task name) p (λ not. good.1.0 (some, inr not))) few_here refl

  named_port : kind ≢ send_once → lookup copied task name ≡ None → Done (with_name task name (Target.port p) copied)
  named_port not none = come_port task o k v (with_name task name (Target.port p) copied) kind p l is_task tokens copied.given name not (is_new none)
      (λ n e. elim (eqb_tells n name) [
        | inl h ↦ (let f : lookup copied task name ≡ Some (Target.port p) = subst (λ (x : ℕ). lookup copied task x ≡ Some (Target.port p)) h.1 e in cc)
        | inr h ↦ good.0 (not, (n, h.1, e))
      ]) few_here refl

  named_newly : (c : Kind) → c ≡ kind → lookup copied task name ≡ None → Done (with_name task name (target_for c p) copied)
  named_newly receive is none = named_port (λ e. (let f = is in cc)) none
  named_newly send is none = named_port (λ e. (let f = is in cc)) none
  named_newly send_once is none = come_once task o k v (with_name task name (Target.once p) copied) kind p l is_task tokens copied.given name (sym is) (is_new none) refl

  inserted : (mid : State) → (lookup copied task name ≢ None) × (mid ≡ copied) ⊎ (lookup copied task name ≡ None) × (mid ≡ with_name task name (target_for kind p) copied) → Done mid
  inserted mid (inl h) = subst Done (sym h.1) (named_there h.0)
  inserted mid (inr h) = subst Done (sym h.1) (named_newly kind refl h.0)

same_ledger : (task name : ℕ) (x : Target) (copied mid : State) → (lookup copied task name ≢ None) × (mid ≡ copied) ⊎ (lookup copied task name ≡ None) × (mid ≡ with_name task name x copied) →
    mid.ledger ≡ copied.ledger
same_ledger task name x copied mid (inl h) = ap (λ (s : State). s.ledger) h.1
same_ledger task name x copied mid (inr h) = ap (λ (s : State). s.ledger) h.1

-- What handing a right on does, by way of an entry that no log has.
pub record Hands (old mid : State) (o k : ℕ) (kind : Kind) (p : ℕ) : Type 0 where
  pub on_its_way : State
  pub copies : Copies old on_its_way o k kind (to_port p)
  pub removes : Removes on_its_way mid o k (λ c q. mark_count c q kind (to_port p))

-- names, sets, counts and rights change, and nothing else
pub hands_shape : (old mid : State) (o k : ℕ) (kind : Kind) (p : ℕ) → Hands old mid o k kind p → mid ≡ shape old mid
hands_shape old mid o k kind p h = shape-trans old h.on_its_way mid h.copies.rest h.removes.rest

pub Inserts-hands : (task name from poly number : ℕ) (old mid : State) → IsLawful old → old.live_task task ≡ true → ¬ (IsNoName name) → (i : Inserts task name from poly number old mid) →
    NoneHolds (inserted_guards i.copied task name i.p (kind_sent i.copy.given)) → Hands old mid 0 (length (old.log 0)) (kind_sent i.copy.given) i.p
Inserts-hands task name from poly number old mid l is_task fits i unrefused =
    let k = length (old.log 0) in
    let h = halfway from task number poly i.p 0 k old i.copied (moving old 0 k l) i.copy in
    let live : i.copied.live_task task ≡ true = ap (λ (x : State). x.live_task task) h.copies.rest ∙ is_task in
    record {
      on_its_way = record i.copied { ledger = h.ledger };
      copies = h.copies;
      removes = inserted task name i.p 0 k i.copied h.ledger (kind_sent i.copy.given) h.copies.keeps live h.moves unrefused fits mid i.named;
    }

pub Inserts-mid : (task name from poly number : ℕ) (old mid : State) → IsLawful old → old.live_task task ≡ true → ¬ (IsNoName name) → (i : Inserts task name from poly number old mid) →
    NoneHolds (inserted_guards i.copied task name i.p (kind_sent i.copy.given)) → MidLawful mid []
Inserts-mid task name from poly number old mid l is_task fits i unrefused =
    let h = Inserts-hands task name from poly number old mid l is_task fits i unrefused in
    arrives 0 (length (old.log 0)) old h.on_its_way mid (kind_sent i.copy.given) i.p l (omega arith) h.copies h.removes
    (let e = ap length (same_ledger task name (target_for (kind_sent i.copy.given) i.p) i.copied mid i.named) in
    let f = above_not (length i.copied.ledger) most_rights (λ many. unrefused.1.1.1.0 (inr many)) in omega (arith, e, f))

-- ---- to a task, under the name that a received right would get

module _ (task name p o k : ℕ) (copied named mid : State) (ledger : List Token) (kind : Kind) (l : IsMoving (record copied { ledger = ledger }) o k) (is_task : copied.live_task task ≡ true)
    (tokens : Moves ledger copied.ledger (token kind p (in_message o k) ∷ []) (token kind p (in_task task) ∷ []))
    (rest : mid ≡ record named { ledger = mid.ledger }) (pegs : Moves copied.ledger mid.ledger (pegged task p copied) []) where
  abbrev w : State
  w = record copied { ledger = ledger }

  named_once : NamedOnce task name p copied named → NamedOnce task name p w (record named { ledger = ledger })
  named_once (inl h) = inl (h.0, ap (λ (x : State). record x { ledger = ledger }) h.1)
  named_once (inr h) = inr (h.0, record { room = h.1.room; fresh = h.1.fresh; rest = ap (λ (x : State). record x { ledger = ledger }) h.1.rest })

  named_for : (c : Kind) → NamedFor c task name p copied named → NamedFor c task name p w (record named { ledger = ledger })
  named_for receive h = named_once h
  named_for send h = named_once h
  named_for send_once h = record { room = h.room; fresh = h.fresh; rest = ap (λ (x : State). record x { ledger = ledger }) h.rest }

  -- none goes where there are not too many
  unpegged : held copied task send p ≤ most_references → Moves copied.ledger mid.ledger [] []
  unpegged few = grind (arith, ltb-true)

  given : (c : Kind) → Moves ledger copied.ledger (token c p (in_message o k) ∷ []) (token c p (in_task task) ∷ []) → Moves ledger mid.ledger (token c p (in_message o k) ∷ []) (given_to c p task w)
  given receive tokens = grind (arith, tokens (λ x. if is_held task send p x then 1 else 0), (l.naming task).few_references p)
  given send_once tokens = grind (arith, tokens (λ x. if is_held task send p x then 1 else 0), (l.naming task).few_references p)
  given send tokens = grind (arith, own_right, not_held, ledger, ltb-true, unpegged, ltb-false, lt-ltb)

  extracted : NamedFor kind task name p copied named → Removes w mid o k (λ c q. mark_count c q kind (to_port p))
  extracted n = GiveRight-removes task o k kind p w name mid (record named { ledger = ledger }) l is_task (named_for kind n) rest (given kind tokens)

pub Extracts-hands : (task name number to new_name shown : ℕ) (old mid : State) → IsLawful old → old.live_task to ≡ true → (x : Extracts task name number to new_name shown old mid) →
    Hands old mid 0 (length (old.log 0)) (kind_sent x.copy.given) x.p
Extracts-hands task name number to new_name shown old mid l is_task x =
    let k = length (old.log 0) in
    let h = halfway task to number name x.p 0 k old x.copied (moving old 0 k l) x.copy in
    let live : x.copied.live_task to ≡ true = ap (λ (s : State). s.live_task to) h.copies.rest ∙ is_task in
    record {
      on_its_way = record x.copied { ledger = h.ledger };
      copies = h.copies;
      removes = extracted to new_name x.p 0 k x.copied x.named_state mid h.ledger (kind_sent x.copy.given) h.copies.keeps live h.moves x.rest x.tokens x.named;
    }

pub Extracts-mid : (task name number to new_name shown : ℕ) (old mid : State) → IsLawful old → old.live_task to ≡ true → (x : Extracts task name number to new_name shown old mid) →
    NoneHolds (extracted_guards x.copied to x.p (kind_sent x.copy.given)) → MidLawful mid []
Extracts-mid task name number to new_name shown old mid l is_task x unrefused =
    let h = Extracts-hands task name number to new_name shown old mid l is_task x in
    arrives 0 (length (old.log 0)) old h.on_its_way mid (kind_sent x.copy.given) x.p l (omega arith) h.copies h.removes
    (let e = x.tokens (λ y. 1) in
    let f = above_not (length x.copied.ledger) most_rights (λ many. unrefused.0 (inr many)) in omega (arith, e, f, length-weigh x.copied.ledger, length-weigh mid.ledger))
