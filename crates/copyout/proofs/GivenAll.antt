-- Rights that the tables give one after the other.
use Rattle.std.proofs.Common.{◌≡◌, ℕ, zero, suc, ◌+◌, ◌<◌, ◌≤◌, List, [], ◌∷◌, Option, Some, refl, sym, ap, ◌∙◌, arith, true, inl, inr, length, subst, false, Bool, ◌^◌, take, drop, All, length-append}
use Rattle.std.specs.Prelude.{is_some, if◌then◌else◌, slice_get, ◌&&◌, Contains, MatchBool, map, replicate}
use Rattle.std.specs.Option.{option_to_list}
use Rattle.std.proofs.lemmas.Bool.{eq-eqb}
use Rattle.std.proofs.lemmas.List.{length-drop, length-take-le}
use Rattle.std.proofs.lemmas.List.Elements.{Contains-append_right}
use Rattle.std.proofs.lemmas.Option.{slice_get_within}
use Rattle.std.specs.FinMap as names
use Rattle.mach_types.specs.declared.rights.Disposition.TheVariants.{MoveReceive}
use Rattle.mach_types.specs.Numbers.{kind_sent, dead_word}
use Rattle.mach_types.specs.Rights.{disposition_number}
use Rattle.mach_types.specs.Tokens.{Kind, receive, send, send_once, in_message, token, is_of, same_kind, Place}
use Rattle.mach_types.specs.Messages.{Entry, to_port, Mark as MachineMark, null, dead}
use Rattle.mach_types.specs.Bodies.{Through}
use Rattle.mach_types.specs.Grammar.{Wire, data_item, port_item, WireBody, wire_text, wires_text, words_text, descriptor_text, body_text}
use Rattle.mach_model.specs.State.{State, queue, Target, Names, lookup}
use Rattle.mach_model.specs.Death.{same_place}
use Rattle.mach_model.specs.Carried.{mark_count, rights_count, lying}
use Rattle.mach_model.proofs.Names.{elsewhere, both_test, lying_le_of, at_own, get_own, kept}
use Rattle.mach_model.proofs.Moving.{IsMoving, IsOutside}
use Rattle.mach_model.specs.CopyOut.{GiveRight, GiveMark, GiveWord, Named, NamedFor}
use Rattle.mach_model.proofs.Copying.{Removes}
use Rattle.mach_model.proofs.MessagesLawful.{words_remove}
use Rattle.message_codec.specs.Received.{received_kind, received_wires, received_body}
use Rattle.message_codec.specs.Spans.{spans_at, body_spans, word_count}
use Rattle.message_codec.proofs.Fronts.{length-descriptor_text}
use Rattle.message_codec.proofs.Shapes.{All-cons, length-words_text}
use Rattle.port.specs.Ports.{PortView}
use Rattle.port.specs.declared.Holder.TheVariants as Holder
use Rattle.copyin_base.specs.declared.Carried.{Carried}
use Rattle.copyin_base.specs.declared.Mark.TheVariants as mark
use Rattle.copyin_base.specs.Changes.{SetsHolder, SameButNaming}
use Rattle.copyin_base.specs.Kept.{Kept, mark_of, items_given, body_given}
use Rattle.copyin_base.specs.Shows.{CarriersAgree, Agrees, HoldersAgree, RequestsStand}
use Rattle.copyin_base.specs.Worlds.{WorldView, port_at, NoneLost}
use Rattle.copyin_base.proofs.Carriers.{IsCarried, carriers_same, carriers_held}
use Rattle.copyin_base.proofs.Counting.{one_of}
use Rattle.copyin_base.proofs.KeptEntries.{kept_of, rights_of, message_counted, right_of}
use Rattle.copyin_base.proofs.Taking.{Without, take_lying}
use Rattle.copyin_base.proofs.Told.{port_there}
use Rattle.copyin_base.proofs.SendersNoted.{KeepsSenders, keeps_senders_refl, keeps_senders_trans, naming_senders}
use Rattle.copyin_base.proofs.Roomier.{naming_holders, naming_carriers, naming_requested}
use Rattle.copyin_base.proofs.Idle.{none_lost_room}
use Rattle.copyin_base.specs.declared.Mark.{Mark}
use Rattle.copyout.specs.Giving.{port_held, ports_given, GivesPort, GivesMark, GivesAll}
use Rattle.copyout.specs.Putting.{PutsPort}
use Rattle.copyout.specs.Ready.{carried_by}
use Rattle.copyout.proofs.Counted.{put_world, gives_puts, count_naming}
use Rattle.copyout.proofs.Given.{lives, port_given, port_put_holders, port_put_senders}
use Rattle.copyout.proofs.Gives.{port_put_requested, put_none_lost}
use Rattle.copyout.proofs.Rights.{seconds}

-- ---- A right that comes to a task: each port still knows which queue holds its receive right. A receive right that comes lies in no queue.

-- ---- a receive right that a queued message carries

carries_one : (cs : List Carried) (p : ℕ) → Contains cs (record { given = MoveReceive; mark = mark.Port p }) → 1 ≤ rights_count receive p (rights_of cs)
carries_one [] p (i, below, is) = absurd (omega (arith, below))
carries_one (c ∷ cs) p (zero, below, is) = grind (arith, eq-eqb)
carries_one (c ∷ cs) p (suc i, below, is) = let rest = carries_one cs p (i, omega (arith, below), is) in omega (arith, rest)

-- ---- none is carried of a port whose receive right is on its way

module _ (w : WorldView) (s : State) (a : Agrees w s) (o k : ℕ) (l : IsMoving s o k) (outside : IsOutside s o k) (p : ℕ) (live : s.live_port p ≡ true) (some : 0 < lying s receive p (in_message o k)) where
  left : Without (token receive p (in_message o k)) s.ledger
  left = take_lying o k receive p s.ledger some

  -- there is no other
  none_else : (q j : ℕ) → (q ≡ o → j ≡ k → ⊥) → lying s receive p (in_message q j) ≡ 0
  none_else q j not =
      let all = left.parts (λ y. if is_of receive p y then 1 else 0) in
      let there = left.parts (λ y. if is_of receive p y && same_place (in_message q j) y.place then 1 else 0) in
      let one = one_of receive p (in_message o k) refl in
      let other = both_test (is_of receive p (token receive p (in_message o k))) (same_place (in_message q j) (in_message o k)) (inr (elsewhere q o j k not)) in
      let le = lying_le_of (record s { ledger = left.others }) receive p (in_message q j) in
      let total = l.one_receive p live in
      omega (arith, all, there, one, other, le, total)

  -- an entry that is queued isn't the one from which it comes
  apart : (q i : ℕ) (e : Entry) → slice_get (queue s q) i ≡ Some e → q ≡ o → s.taken q + i ≡ k → ⊥
  apart q i e is same at = grind (arith, slice_get_within, length-drop)

  pub none_carries : (q : ℕ) → IsCarried w q p → ⊥
  none_carries q x =
      let live_q : s.live_port q ≡ true = sym (a.live_port q) ∙ ap is_some x.there in
      let e = kept_of q x.u.queue (queue s q) (a.ports q x.u x.there).waiting x.message x.queued in
      let not = apart q e.index e.entry e.at in
      let lies = l.carried q e.index e.entry not live_q e.at receive p live in
      let counted = message_counted q x.message e.entry.message e.keeps receive p in
      let one = carries_one (carried_by x.message) p (Contains-append_right (option_to_list x.message.reply) x.message.rights _ x.carries) in
      let none = none_else q (s.taken q + e.index) not in
      omega (arith, lies, counted, one, none)

-- ---- in the tables

held_sets : (w : WorldView) (task p : ℕ) (v : PortView Kept) → port_at w p ≡ Some v → SetsHolder w p (Holder.Task task) (record w { ports = ports_given receive task p w.ports })
held_sets w task p v there = record { v = v; there = there; rest = ap (λ (x : Option (PortView Kept)). record w { ports = port_held task p w.ports x }) there }

module _ (w : WorldView) (s : State) (a : Agrees w s) (c : CarriersAgree w) (o k : ℕ) (l : IsMoving s o k) (outside : IsOutside s o k) (task : ℕ) (kind : Kind) (p word : ℕ) (w' : WorldView)
    (some : 0 < lying s kind p (in_message o k)) where
  abbrev held : Kind → WorldView
  held x = record w { ports = ports_given x task p w.ports }

  come : (x : Kind) → 0 < lying s x p (in_message o k) → s.live_port p ≡ true → CarriersAgree (held x)
  come send lies live = carriers_same w (held send) c refl refl
  come send_once lies live = carriers_same w (held send_once) c refl refl
  come receive lies live =
      let v = port_there w s a p live in
      carriers_held w (held receive) c p (Holder.Task task) (held_sets w task p v.0 v.1) (λ q x. absurd (none_carries w s a o k l outside p live lies q x))

  -- It comes under the name.
  pub port_put_carriers : PutsPort w task kind p word w' → CarriersAgree w'
  port_put_carriers g = carriers_same (held kind) w' (come kind some (lives w s a o k l task kind p word w' some)) (ap (λ (x : WorldView). x.ports.made) g.rest) (ap (λ (x : WorldView). x.ports.ports) g.rest)

-- ---- A right that comes to a task: what is true of the tables alone still is.

-- Each port knows who holds its receive right, each request stands on a name or a port that is there, and no port was lost.
pub record AreSound (w : WorldView) : Type 0 where
  pub holders : HoldersAgree w
  pub carriers : CarriersAgree w
  pub requested : RequestsStand w
  pub none_lost : NoneLost w

-- It still is so, and no port lost its last send right.
pub record StaySound (w w' : WorldView) : Type 0 where
  pub sound : AreSound w'
  pub senders : KeepsSenders w w'

pub stay_same : (w w' : WorldView) → AreSound w → w' ≡ w → StaySound w w'
stay_same w w' a same = subst (StaySound w) (sym same) (record { sound = a; senders = keeps_senders_refl w })

pub stay_trans : (a b c : WorldView) → StaySound a b → StaySound b c → StaySound a c
stay_trans a b c x y = record { sound = y.sound; senders = keeps_senders_trans a b c x.senders y.senders }

module _ (w : WorldView) (s : State) (a : Agrees w s) (h : AreSound w) (o k : ℕ) (l : IsMoving s o k) (outside : IsOutside s o k) (task : ℕ) (kind : Kind) (p word : ℕ)
    (some : 0 < lying s kind p (in_message o k)) where
  -- It comes under the name.
  pub port_put_sound : (w' : WorldView) → PutsPort w task kind p word w' → StaySound w w'
  port_put_sound w' g = record {
    sound = record {
      holders = port_put_holders w s a h.holders o k l task kind p word w' some g;
      carriers = port_put_carriers w s a h.carriers o k l outside task kind p word w' some g;
      requested = port_put_requested w w' task kind p word g h.requested;
      none_lost = put_none_lost w w' task kind p word g h.none_lost;
    };
    senders = port_put_senders w s a h.requested w' task kind p word g;
  }

  then_counted : (mid w' : WorldView) → PutsPort w task kind p word mid → SameButNaming mid w' → StaySound w w'
  then_counted mid w' g same =
      let put = port_put_sound mid g in
      record {
        sound = record {
          holders = naming_holders mid w' same put.sound.holders;
          carriers = naming_carriers mid w' same put.sound.carriers;
          requested = naming_requested mid w' same put.sound.requested;
          none_lost = none_lost_room mid w' put.sound.none_lost same;
        };
        senders = keeps_senders_trans w mid w' put.senders (naming_senders mid w' same put.sound.requested);
      }

  -- It comes.
  pub port_given_sound : (w' : WorldView) → GivesPort w task kind p word w' → StaySound w w'
  port_given_sound w' g = then_counted (put_world w task kind p word w' g) w' (gives_puts w task kind p word w' g) (count_naming w task kind p word w' g)

-- ---- Rights that the tables give one after the other are given so by the machine.

-- As many rights for live ports lie at the entry, or more.
abbrev pub AreLying : State → (o k : ℕ) → List Carried → Type 0
AreLying s o k cs = (kind : Kind) (q : ℕ) → s.live_port q ≡ true → rights_count kind q (rights_of cs) ≤ lying s kind q (in_message o k)

-- ---- one

-- The state once a mark was given.
pub record MarkGiven (task o k : ℕ) (kind : Kind) (m : MachineMark) (s : State) (word : ℕ) (w' : WorldView) : Type 0 where
  pub t : State
  pub gives : GiveMark task (in_message o k) kind m s word t
  pub agrees : Agrees w' t

kind_refl : (kind : Kind) → same_kind kind kind ≡ true
kind_refl receive = refl
kind_refl send = refl
kind_refl send_once = refl

pub own_mark : (kind : Kind) (p : ℕ) → mark_count kind p kind (to_port p) ≡ 1
own_mark kind p = rw (kind_refl kind, eq-eqb p p refl) refl

by_port : (b c : Bool) (P Q P' Q' R : Type 0) → b ≡ c → (c ≡ true → P → P' → R) → (Q → Q' → R) → MatchBool b P Q → (P → P') → (Q → Q') → R
by_port true true P Q P' Q' R e f g m x y = f refl m (x m)
by_port false false P Q P' Q' R e f g m x y = g m (y m)
by_port true false P Q P' Q' R e f g m x y = absurd (cc)
by_port false true P Q P' Q' R e f g m x y = absurd (cc)

module _ (w : WorldView) (s : State) (a : Agrees w s) (o k : ℕ) (l : IsMoving s o k) (task : ℕ) (kind : Kind) (word : ℕ) (w' : WorldView) where
  nothing_given : (m : MachineMark) → w' ≡ w → GiveMark task (in_message o k) kind m s word s → MarkGiven task o k kind m s word w'
  nothing_given m same gives = record { t = s; gives = gives; agrees = subst (λ (x : WorldView). Agrees x s) (sym same) a }

  live_given : (p : ℕ) → s.live_port p ≡ true → 0 < lying s kind p (in_message o k) → GivesPort w task kind p word w' → MarkGiven task o k kind (to_port p) s word w'
  live_given p live some g =
      let x = port_given w s a o k l task kind p word w' some g in
      record { t = x.t; gives = subst (λ (b : Bool). MatchBool b (GiveRight task (in_message o k) kind p s word x.t) ((word ≡ dead_word) × (x.t ≡ s))) (sym live) x.gives; agrees = x.agrees }

  dead_given : (p : ℕ) → s.live_port p ≡ false → word ≡ dead_word → w' ≡ w → MarkGiven task o k kind (to_port p) s word w'
  dead_given p gone is same = nothing_given (to_port p) same
      (subst (λ (b : Bool). MatchBool b (GiveRight task (in_message o k) kind p s word s) ((word ≡ dead_word) × (s ≡ s))) (sym gone) (is, refl))

  port_mark : (p : ℕ) (b : Bool) → is_some (port_at w p) ≡ b → (s.live_port p ≡ true → 0 < lying s kind p (in_message o k)) →
      MatchBool b (GivesPort w task kind p word w') ((word ≡ dead_word) × (w' ≡ w)) → MarkGiven task o k kind (to_port p) s word w'
  port_mark p true e some g = let live : s.live_port p ≡ true = sym (a.live_port p) ∙ e in live_given p live (some live) g
  port_mark p false e some g = dead_given p (sym (a.live_port p) ∙ e) g.0 g.1

  pub mark_given : (m : Mark) → ((q : ℕ) → s.live_port q ≡ true → mark_count kind q kind (mark_of m) ≤ lying s kind q (in_message o k)) →
      GivesMark w task kind m word w' → MarkGiven task o k kind (mark_of m) s word w'
  mark_given (mark.Port p) some g =
      port_mark p (is_some (port_at w p)) refl (λ live. let n = some p live in let own = own_mark kind p in omega (arith, n, own)) g
  mark_given mark.Null some g = nothing_given _ g.1 (g.0, refl)
  mark_given mark.Dead some g = nothing_given _ g.1 (g.0, refl)

  -- What is true of the tables alone still is.
  module _ (h : AreSound w) (outside : IsOutside s o k) where
    port_sound : (p : ℕ) (b : Bool) → is_some (port_at w p) ≡ b → (s.live_port p ≡ true → 0 < lying s kind p (in_message o k)) →
        MatchBool b (GivesPort w task kind p word w') ((word ≡ dead_word) × (w' ≡ w)) → StaySound w w'
    port_sound p true e some g = port_given_sound w s a h o k l outside task kind p word (some (sym (a.live_port p) ∙ e)) w' g
    port_sound p false e some g = stay_same w w' h g.1

    pub mark_sound : (m : Mark) → ((q : ℕ) → s.live_port q ≡ true → mark_count kind q kind (mark_of m) ≤ lying s kind q (in_message o k)) →
        GivesMark w task kind m word w' → StaySound w w'
    mark_sound (mark.Port p) some g =
        port_sound p (is_some (port_at w p)) refl (λ live. let n = some p live in let own = own_mark kind p in omega (arith, n, own)) g
    mark_sound mark.Null some g = stay_same w w' h g.1
    mark_sound mark.Dead some g = stay_same w w' h g.1

-- ---- each

-- one right lies there no more
one_removes : (task o k : ℕ) (c : Carried) (s : State) (word : ℕ) (mid : State) → IsMoving s o k → s.live_task task ≡ true →
    GiveMark task (in_message o k) (kind_sent c.given) (mark_of c.mark) s word mid → Removes s mid o k (λ kind q. rights_count kind q (right_of c ∷ []))
one_removes task o k c s word mid l is_task g = words_remove task o k ((0, word) ∷ []) s (right_of c ∷ []) mid l is_task (mid, g, refl)

-- what is so once one was given
pub later : (task o k : ℕ) (c : Carried) (cs : List Carried) (s : State) (word : ℕ) (mid : State) → IsMoving s o k → s.live_task task ≡ true → AreLying s o k (c ∷ cs) →
    GiveMark task (in_message o k) (kind_sent c.given) (mark_of c.mark) s word mid → IsMoving mid o k × (mid.live_task task ≡ true) × AreLying mid o k cs
later task o k c cs s word mid l is_task lie g = grind (arith, one_removes)

-- What is so while rights are given: they are on their way from an entry that isn't queued, and as many lie there.
pub record IsGiving (s : State) (task o k : ℕ) (cs : List Carried) : Type 0 where
  pub moving : IsMoving s o k
  pub outside : IsOutside s o k
  pub is_task : s.live_task task ≡ true
  pub lie : AreLying s o k cs

gives_on : (task o k : ℕ) (c : Carried) (cs : List Carried) (s : State) (word : ℕ) (mid : State) → IsGiving s task o k (c ∷ cs) →
    GiveMark task (in_message o k) (kind_sent c.given) (mark_of c.mark) s word mid → IsGiving mid task o k cs
gives_on task o k c cs s word mid i g = grind (arith, later, one_removes)

-- The state once all were given, the words being these but for their numbers.
pub record AllGiven (task o k : ℕ) (cs : List Carried) (w : WorldView) (s : State) (ws : List (ℕ × ℕ)) (w' : WorldView) : Type 0 where
  pub t : State
  pub gives : Through (GiveWord task (in_message o k)) s ws (rights_of cs) t
  pub agrees : Agrees w' t
  pub stay : StaySound w w'

pub all_given : (cs : List Carried) (ws : List (ℕ × ℕ)) (w : WorldView) (s : State) → Agrees w s → AreSound w → (o k task : ℕ) → IsGiving s task o k cs →
    (w' : WorldView) → GivesAll w task cs (seconds ws) w' → AllGiven task o k cs w s ws w'
all_given [] [] w s a h o k task i w' g = record { t = s; gives = refl; agrees = subst (λ (x : WorldView). Agrees x s) (sym g) a; stay = stay_same w w' h g }
all_given (c ∷ cs) (n ∷ ns) w s a h o k task i w' g =
    let some : (q : ℕ) → s.live_port q ≡ true → mark_count (kind_sent c.given) q (kind_sent c.given) (mark_of c.mark) ≤ lying s (kind_sent c.given) q (in_message o k) =
    λ q live. let m = i.lie (kind_sent c.given) q live in omega (arith, m) in
    let one = mark_given w s a o k i.moving task (kind_sent c.given) n.1 g.0 c.mark some g.1 in
    let first = mark_sound w s a o k i.moving task (kind_sent c.given) n.1 g.0 h i.outside c.mark some g.1 in
    let next = gives_on task o k c cs s n.1 one.t i one.gives in
    let rest = all_given cs ns g.0 one.t one.agrees first.sound o k task next w' g.2 in
    record { t = rest.t; gives = (one.t, one.gives, rest.gives); agrees = rest.agrees; stay = stay_trans w g.0 w' first rest.stay }
all_given [] (n ∷ ns) w s a h o k task i w' g = absurd g
all_given (c ∷ cs) [] w s a h o k task i w' g = absurd g

-- ---- The words that stand for given rights, and the length of a received text.

-- ---- a name that was given

-- the names of the task after one was given
given_naming : (task name : ℕ) (x : Target) (old new : State) → Named task name x old new → new.naming task ≡ names.insert (old.naming task) name x
given_naming task name x old new n = ap (λ (s : State). s.naming task) n.rest ∙ at_own old.naming task (names.insert (old.naming task) name x)

given_found : (task name : ℕ) (x : Target) (old new : State) → Named task name x old new → lookup new task name ≡ Some x
given_found task name x old new n = ap (λ (m : Names). names.get m name) (given_naming task name x old new n) ∙ get_own (old.naming task) name x

given_keeps : (task name : ℕ) (x : Target) (old new : State) → Named task name x old new → (other : ℕ) (y : Target) → lookup old task other ≡ Some y → lookup new task other ≡ Some y
given_keeps task name x old new n other y is = grind (arith, given_naming, kept)

named_found : (kind : Kind) (task name p : ℕ) (old new : State) → NamedFor kind task name p old new → (x : Target) × (lookup new task name ≡ Some x)
named_found receive task name p old new (inl h) = (Target.port p, ap (λ (s : State). lookup s task name) h.1 ∙ h.0)
named_found receive task name p old new (inr h) = (Target.port p, given_found task name (Target.port p) old new h.1)
named_found send task name p old new (inl h) = (Target.port p, ap (λ (s : State). lookup s task name) h.1 ∙ h.0)
named_found send task name p old new (inr h) = (Target.port p, given_found task name (Target.port p) old new h.1)
named_found send_once task name p old new n = (Target.once p, given_found task name (Target.once p) old new n)

named_keeps : (kind : Kind) (task name p : ℕ) (old new : State) → NamedFor kind task name p old new → (other : ℕ) (y : Target) → lookup old task other ≡ Some y → lookup new task other ≡ Some y
named_keeps receive task name p old new (inl h) other y is = ap (λ (s : State). lookup s task other) h.1 ∙ is
named_keeps receive task name p old new (inr h) other y is = given_keeps task name (Target.port p) old new h.1 other y is
named_keeps send task name p old new (inl h) other y is = ap (λ (s : State). lookup s task other) h.1 ∙ is
named_keeps send task name p old new (inr h) other y is = given_keeps task name (Target.port p) old new h.1 other y is
named_keeps send_once task name p old new n other y is = given_keeps task name (Target.once p) old new n other y is

right_found : (task : ℕ) (place : Place) (kind : Kind) (p : ℕ) (old : State) (name : ℕ) (new : State) → GiveRight task place kind p old name new → (x : Target) × (lookup new task name ≡ Some x)
right_found task place kind p old name new g = grind (arith, named_found)

right_keeps : (task : ℕ) (place : Place) (kind : Kind) (p : ℕ) (old : State) (name : ℕ) (new : State) → GiveRight task place kind p old name new →
    (other : ℕ) (y : Target) → lookup old task other ≡ Some y → lookup new task other ≡ Some y
right_keeps task place kind p old name new g other y is = grind (arith, named_keeps)

-- ---- the words

either : (b : Bool) (P Q R : Type 0) → (P → R) → (Q → R) → MatchBool b P Q → R
either true P Q R f g h = f h
either false P Q R f g h = g h

mark_fits : (task o k : ℕ) (kind : Kind) (m : MachineMark) (old : State) (word : ℕ) (new : State) → IsMoving new o k → GiveMark task (in_message o k) kind m old word new → word < 2 ^ 32
mark_fits task o k kind null old word new l g = let e = g.0 in omega (arith, e)
mark_fits task o k kind dead old word new l g = let e = g.0 in omega (arith, e)
mark_fits task o k kind (to_port p) old word new l g = grind (arith, either, right_found)

mark_keeps : (task : ℕ) (place : Place) (kind : Kind) (m : MachineMark) (old : State) (word : ℕ) (new : State) → GiveMark task place kind m old word new →
    (other : ℕ) (y : Target) → lookup old task other ≡ Some y → lookup new task other ≡ Some y
mark_keeps task place kind null old word new g other y is = ap (λ (s : State). lookup s task other) g.1 ∙ is
mark_keeps task place kind dead old word new g other y is = ap (λ (s : State). lookup s task other) g.1 ∙ is
mark_keeps task place kind (to_port p) old word new g other y is = grind (arith, either, right_keeps)

-- The task keeps its names.
pub each_keeps : (task : ℕ) (place : Place) (old : State) (ws : List (ℕ × ℕ)) (rs : List (Kind × MachineMark)) (new : State) → Through (GiveWord task place) old ws rs new →
    (other : ℕ) (y : Target) → lookup old task other ≡ Some y → lookup new task other ≡ Some y
each_keeps task place old [] [] new g other y is = ap (λ (s : State). lookup s task other) g ∙ is
each_keeps task place old (w ∷ ws) (r ∷ rs) new g other y is = each_keeps task place g.0 ws rs new g.2 other y (mark_keeps task place r.0 r.1 old w.1 g.0 g.1 other y is)
each_keeps task place old (w ∷ ws) [] new g other y is = absurd g
each_keeps task place old [] (r ∷ rs) new g other y is = absurd g

abbrev pub IsWord : ℕ → Type 0
IsWord w = w < 2 ^ 32

-- The words fit.
pub each_fits : (task o k : ℕ) (old : State) (ws : List (ℕ × ℕ)) (rs : List (Kind × MachineMark)) (new : State) → IsMoving old o k → old.live_task task ≡ true →
    Through (GiveWord task (in_message o k)) old ws rs new → All IsWord (seconds ws)
each_fits task o k old [] [] new l is_task g = λ i d below. absurd (omega arith)
each_fits task o k old (w ∷ ws) (r ∷ rs) new l is_task g =
    let less = words_remove task o k (w ∷ []) old (r ∷ []) g.0 l is_task (g.0, g.1, refl) in
    All-cons IsWord w.1 (seconds ws) (mark_fits task o k r.0 r.1 old w.1 g.0 less.keeps g.1)
    (each_fits task o k g.0 ws rs new less.keeps (ap (λ (x : State). x.live_task task) less.rest ∙ is_task) g.2)
each_fits task o k old (w ∷ ws) [] new l is_task g = absurd g
each_fits task o k old [] (r ∷ rs) new l is_task g = absurd g

-- ---- lengths

length-replicate : {A : Type 0} (n : ℕ) (x : A) → length (replicate n x) ≡ n
length-replicate zero x = refl
length-replicate (suc n) x = let e = length-replicate n x in omega (arith, e)

items_words_count : (at : ℕ) (xs : List Wire) → length (items_given xs) ≡ word_count (spans_at at xs)
items_words_count at [] = refl
items_words_count at (data_item form name size number bytes padding ∷ xs) = items_words_count (at + length (wire_text (data_item form name size number bytes padding))) xs
items_words_count at (port_item form number sent ∷ xs) = grind (arith, items_words_count (at + length (wire_text (port_item form number sent))) xs, length-append, length-replicate)

-- there is a disposition for each word
pub body_words_count : (written : WireBody) → length (body_given written) ≡ word_count (body_spans written)
body_words_count (WireBody.raw bytes) = refl
body_words_count (WireBody.items xs) = items_words_count 24 xs

length-map : {A B : Type 0} (f : A → B) (xs : List A) → length (map f xs) ≡ length xs
length-map f [] = refl
length-map f (x ∷ xs) = let e = length-map f xs in omega (arith, e)

pub rights_length : (cs : List Carried) (ns : List ℕ) → map (λ (c : Carried). disposition_number c.given) cs ≡ ns → length cs ≡ length ns
rights_length cs ns e = sym (length-map (λ (c : Carried). disposition_number c.given) cs) ∙ ap (λ (xs : List ℕ). length xs) e

length-wires : (at : ℕ) (xs : List Wire) (words : List ℕ) → length words ≡ word_count (spans_at at xs) → length (wires_text (received_wires xs words)) ≡ length (wires_text xs)
length-wires at [] words e = refl
length-wires at (data_item form name size number bytes padding ∷ xs) words e =
    let x = data_item form name size number bytes padding in
    let more = length-wires (at + length (wire_text x)) xs words e in
    let a = length-append (wire_text x) (wires_text xs) in
    let b = length-append (wire_text x) (wires_text (received_wires xs words)) in
    omega (arith, more, a, b)
length-wires at (port_item form number sent ∷ xs) words e =
    let x = port_item form number sent in
    let y = port_item form (received_kind number) (take (length sent) words) in
    let count : length words ≡ length sent + word_count (spans_at (at + length (wire_text x)) xs) = e in
    let left : length (drop (length sent) words) ≡ word_count (spans_at (at + length (wire_text x)) xs) = omega (arith, count, length-drop (length sent) words) in
    let more = length-wires (at + length (wire_text x)) xs (drop (length sent) words) left in
    let a = length-append (wire_text x) (wires_text xs) in
    let b = length-append (wire_text y) (wires_text (received_wires xs (drop (length sent) words))) in
    let taken : length (take (length sent) words) ≡ length sent = length-take-le (length sent) words (omega (arith, count)) in
    let c = length-append (descriptor_text form number 32 (length sent)) (words_text sent) in
    let d = length-append (descriptor_text form (received_kind number) 32 (length (take (length sent) words))) (words_text (take (length sent) words)) in
    let f = length-descriptor_text form number 32 (length sent) in
    let g = length-descriptor_text form (received_kind number) 32 (length (take (length sent) words)) in
    let h = length-words_text sent in
    let i = length-words_text (take (length sent) words) in
    omega (arith, more, a, b, taken, c, d, f, g, h, i)

-- A received body is as long as the one that was sent.
pub length-body : (written : WireBody) (words : List ℕ) → length words ≡ word_count (body_spans written) → length (body_text (received_body written words)) ≡ length (body_text written)
length-body (WireBody.raw bytes) words e = refl
length-body (WireBody.items xs) words e = length-wires 24 xs words e
