-- A destroyed message is taken out, with all its rights to be lost; and when they are, its place has none for a port that lives.
use Rattle.std.proofs.Common.{◌≡◌, ℕ, zero, suc, ◌+◌, ◌-◌, ◌<◌, List, [], ◌∷◌, ◌++◌, Option, Some, None, refl, sym, ap, subst, ◌∙◌, arith, true, false, Bool, ◌⊎◌, inl, inr, length, get_or, drop}
use Rattle.std.specs.Prelude.{◌≢◌, ◌^◌, if◌then◌else◌, ◌==◌, ◌&&◌, not, reverse, slice_get, filter, map as list_map, All, Contains, IfSome, IfNone, min}
use Rattle.std.proofs.lemmas.Bool.{ne_eqb, false_from_ne_true}
use Rattle.std.proofs.lemmas.List.{append-nil, append_assoc}
use Rattle.std.proofs.lemmas.List.Elements.{All-cons}
use Rattle.mach_types.specs.Tokens.{Kind, receive, send, send_once, Place, in_task, in_message, Token, is_of, same_kind}
use Rattle.mach_types.specs.Messages.{to_port, Entry, Message}
use Rattle.mach_types.specs.Bodies.{message_rights}
use Rattle.mach_model.specs.State.{State}
use Rattle.mach_model.specs.Death.{same_place}
use Rattle.mach_model.specs.Carried.{lying_among, mark_count, rights_count}
use Rattle.mach_model.specs.Lawful.{tally}
use Rattle.mach_model.specs.Notices.{Notice, port_deleted, port_sent, no_more_senders, right_unused, name_died, Owed, notice_message}
use Rattle.mach_model.specs.Turns.{Ending, listed, lives_after, is_judged, went_in, IsWaiting}
use Rattle.mach_model.proofs.Names.{both_same, slice_get_drop, both_test, count_some, lying_le_of, left_of}
use Rattle.mach_model.proofs.Settling.{own_test, lives as port_lives}
use Rattle.mach_model.proofs.SettledReceives.{two_le, dead_cases, place_is, tally-append}
use Rattle.mach_model.proofs.TurnsCounted.{reached_counted, reached_sound}
use Rattle.port.specs.declared.Holder.{Holder}
use Rattle.port.specs.declared.Holder.TheVariants as holder
use Rattle.copyin_base.specs.declared.Carried.{Carried}
use Rattle.copyin_base.specs.Kept.{Kept, Keeps}
use Rattle.copyin_base.specs.Worlds.{WorldView}
use Rattle.copyin_base.proofs.KeptEntries.{message_kept}
use Rattle.copyin_base.proofs.Listed.{listed_later}
use Rattle.notifications.specs.SoFar.{due_so_far, entries_at, AreEntries, IsHolder}
use Rattle.destroy.specs.Between.{Between}
use Rattle.destroy.specs.Losing.{Loose, Amid, IsLosing, LosesTo, rights_of, carried_in, without_first}
use Rattle.destroy.specs.Paying.{LivesIn}
use Rattle.destroy.specs.Stages.{IsJudged, AreLost, IsAt, Continues, IsCount, SameSlots}
use Rattle.destroy.proofs.Counting.{count_none, count_joined}
use Rattle.destroy.proofs.LoseRights.{own_doomed, last_reversed, reversed, loose_of, loose_noted, between_of, live_mid, undoomed, lives_there}
use Rattle.destroy.proofs.LoseCounts.{left_within, front_or_behind, went_none}

-- ---- it ends

module _ (now : ℕ) (tables : WorldView) (old mid : State) (owed : Owed) (e : Ending) (m : ℕ × ℕ) (w : WorldView) (a : Amid now tables old mid owed e m [] w) where
  abbrev l : Loose now tables old mid owed e w
  l = a.loose

  abbrev s : State
  s = l.state

  abbrev place : Place
  place = in_message m.0 m.1

  destroyed : Contains e.destroyed m
  destroyed = subst (λ (ms : List (ℕ × ℕ)). Contains ms m) (sym a.parts) (last_reversed m a.waiting a.emptied)

  -- a port that lives has no receive right there
  no_receive : (p : ℕ) → lives_after mid e p ≡ true → 0 < lying_among e.left receive p place → ⊥
  no_receive p alive some = go lives.v.attributes.holder refl (l.holders p lives.v lives.there)
    where
      lives : LivesIn w p
      lives = lives_there now tables old mid owed e w l p alive

      here : 0 < lying_among s.ledger receive p place
      here = let b = l.so_far.ledger (λ x. if is_of receive p x && same_place place x.place then 1 else 0) in omega (arith, some, b)

      two : (other : Place) → ((x : Token) → same_place place x.place ≡ true → same_place other x.place ≡ true → ⊥) → 0 < lying_among s.ledger receive p other → ⊥
      two other apart more =
          let b = two_le (is_of receive p) (λ x. same_place place x.place) (λ x. same_place other x.place) apart s.ledger in
          let d = (l.agrees.counts p).receivers in
          let g = l.receivers p in
          let h = here in
          omega (arith, b, d, g, h, more)

      found : is_judged e p ≡ true
      found = a.stage.judged p (inr (
        m.0,
        own_doomed now tables old mid owed e m [] w a,
        (
          m.1,
          (let d = left_within old mid owed e l.reached (λ x. if is_of receive p x && same_place place x.place then 1 else 0) in omega (arith, some, d)),
        ),
      ))

      no : true ≡ false → ⊥
      no z = cc

      go : (h : Holder) → lives.v.attributes.holder ≡ h → IsHolder s e.destroyed p lives.v.attributes.holder → ⊥
      go (holder.Task task) is h = two (in_task task) (λ x one other. let b = place_is place x.place one in let d = place_is (in_task task) x.place other in apart (sym b ∙ d)) (subst (IsHolder s e.destroyed p) is h)
        where
          apart : in_message m.0 m.1 ≡ in_task task → ⊥
          apart z = cc
      go (holder.QueueOf q) is h =
          let at = subst (IsHolder s e.destroyed p) is h in
          two (in_message q at.0) (λ x one other. let b = place_is place x.place one in let d = place_is (in_message q at.0) x.place other in
          at.2 (subst (λ (n : ℕ × ℕ). Contains e.destroyed n) (same q at.0 (sym b ∙ d)) destroyed)) at.1
        where
          same : (q k : ℕ) → in_message m.0 m.1 ≡ in_message q k → m ≡ (q, k)
          same q k z = let f : m.0 ≡ q = cc in let g : m.1 ≡ k = cc in λ i. (f i, g i)
      go holder.Nobody is h = no (sym found ∙ l.framed.unjudged p (record { view = lives.v; there = lives.there; holder_is = is }))
      go holder.Doomed is h = lives.undoomed is

  own_lost : All (λ (x : Token). x.place ≡ place → listed e.doomed x.port ≡ true) e.left
  own_lost k d below at =
      let x = get_or e.left k d in
      let test : (is_of x.kind x.port x && same_place place x.place) ≡ true = subst (λ (y : Place). (is_of x.kind x.port x && same_place y x.place) ≡ true) at (own_test x) in
      let some = count_some (λ y. is_of x.kind x.port y && same_place place y.place) e.left k d below test in
      let each = count_some (is_of x.kind x.port) e.left k d below (left_of (is_of x.kind x.port x) (same_place place x.place) test) in
      let within = left_within old mid owed e l.reached (λ y. if is_of x.kind x.port y then 1 else 0) in
      let live = port_lives l.lawful.ports x.kind x.port (omega (arith, each, within)) in
      doomed_of (mid.live_port x.port) (listed e.doomed x.port) live (false_from_ne_true (lives_after mid e x.port) (λ alive. none x.kind x.port alive some))
    where
      none : (kind : Kind) (p : ℕ) → lives_after mid e p ≡ true → 0 < lying_among e.left kind p place → ⊥
      none receive p alive some = no_receive p alive some
      none send p alive some = let b = a.there send p (λ h. cc) alive in omega (arith, some, b)
      none send_once p alive some = let b = a.there send_once p (λ h. cc) alive in omega (arith, some, b)

      doomed_of : (a b : Bool) → a ≡ true → (a && not b) ≡ false → b ≡ true
      doomed_of true true e f = refl
      doomed_of true false e f = absurd (cc)
      doomed_of false b e f = absurd (cc)

  pub ends : Between now tables old mid owed e w
  ends = between_of now tables old mid owed e w l (record {
    waiting = a.waiting;
    emptied = m ∷ a.emptied;
    parts = a.parts ∙ ap (λ (ms : List (ℕ × ℕ)). ms ++ a.emptied) (reversed m a.waiting) ∙ append_assoc (reverse a.waiting) (m ∷ []) a.emptied;
    are = a.are;
    lost = All-cons (λ (n : ℕ × ℕ). All (λ (x : Token). x.place ≡ in_message n.0 n.1 → listed e.doomed x.port ≡ true) e.left) m a.emptied own_lost a.lost;
  }) a.noted a.had a.unlost

-- ---- it begins

-- The first of these messages is this entry.
pub record First (s : State) (ms : List Kept) (xs : List (ℕ × ℕ)) (msg : Kept) : Type 0 where
  pub m : ℕ × ℕ
  pub later : List (ℕ × ℕ)
  pub is : xs ≡ m ∷ later
  pub entry : Entry
  pub at : slice_get (s.log m.0) m.1 ≡ Some entry
  pub keeps : Keeps m.0 msg entry.message
  pub are : AreEntries s (drop 1 ms) later

first_of : (s : State) (ms : List Kept) (xs : List (ℕ × ℕ)) (msg : Kept) → AreEntries s ms xs → slice_get ms 0 ≡ Some msg → First s ms xs msg
first_of s [] xs msg h e = absurd (cc)
first_of s (k ∷ ms) [] msg h e = absurd h
first_of s (k ∷ ms) (x ∷ xs) msg h e = grind arith

-- rights of a notice are receive rights
notice_none : (kind : Kind) (p q : ℕ) (n : Notice) → kind ≢ receive → rights_count kind p (message_rights (notice_message q n)) ≡ 0
notice_none kind p q (port_deleted name) other = refl
notice_none receive p q (port_sent port) other = absurd (other refl)
notice_none send p q (port_sent port) other = refl
notice_none send_once p q (port_sent port) other = refl
notice_none kind p q (no_more_senders n) other = refl
notice_none kind p q right_unused other = refl
notice_none kind p q (name_died name) other = refl

told_entry : (now q : ℕ) (ys : List (ℕ × Notice)) (j : ℕ) (x : Entry) → slice_get (entries_at now q ys) j ≡ Some x → (n : Notice) × (x.message ≡ notice_message q n)
told_entry now q [] j x is = absurd (cc)
told_entry now q (y ∷ ys) j x is = go (y.0 == q) is (λ i h. told_entry now q ys i x h)
  where
    as_entry : ℕ × Notice → Entry
    as_entry y = record { origin = now; message = notice_message q y.1 }

    go : (b : Bool) → slice_get (list_map (λ (y : ℕ × Notice). record { origin = now; message = notice_message q y.1 }) (if b then y ∷ filter (λ y. y.0 == q) ys else filter (λ y. y.0 == q) ys)) j ≡ Some x →
        ((i : ℕ) → slice_get (entries_at now q ys) i ≡ Some x → (n : Notice) × (x.message ≡ notice_message q n)) → (n : Notice) × (x.message ≡ notice_message q n)
    go true h ih = here j h
      where
        here : (j : ℕ) → slice_get (as_entry y ∷ entries_at now q ys) j ≡ Some x → (n : Notice) × (x.message ≡ notice_message q n)
        here zero e = (y.1, (let f : Some (as_entry y) ≡ Some x = e in let g : as_entry y ≡ x = cc in ap (λ (z : Entry). z.message) (sym g)))
        here (suc i) e = ih i e
    go false h ih = ih j h

contains_tally : (m : ℕ × ℕ) (xs : List (ℕ × ℕ)) → Contains xs m → 0 < tally (λ n. m.0 == n.0 && m.1 == n.1) xs
contains_tally m [] (i, below, is) = absurd (omega (arith, below))
contains_tally m (x ∷ xs) (zero, below, is) = grind (arith, both_same)
contains_tally m (x ∷ xs) (suc i, below, is) = let h = contains_tally m xs (i, omega (arith, below), is) in omega (arith, h)

module _ (now : ℕ) (tables : WorldView) (old mid : State) (owed : Owed) (e : Ending) (w : WorldView) (b : Between now tables old mid owed e w) (stage : IsJudged mid e w)
    (msg : Kept) (first : slice_get w.ports.destroyed 0 ≡ Some msg) where
  pub found : First b.tied.state w.ports.destroyed b.tied.waiting.waiting msg
  found = first_of b.tied.state w.ports.destroyed b.tied.waiting.waiting msg b.tied.waiting.are first

  abbrev emptied : List (ℕ × ℕ)
  emptied = b.tied.waiting.emptied

  parts : e.destroyed ≡ reverse (found.m ∷ found.later) ++ emptied
  parts = subst (λ (xs : List (ℕ × ℕ)). e.destroyed ≡ reverse xs ++ emptied) found.is b.tied.waiting.parts

  own_there : Contains e.destroyed found.m
  own_there = subst (λ (ms : List (ℕ × ℕ)). Contains ms found.m) (sym parts) (last_reversed found.m found.later emptied)

  own_counted : (listed e.doomed found.m.0 ≡ true) × IsWaiting mid e found.m
  own_counted = grind (arith, own_there, found, reached_counted)

  -- it is destroyed once
  not_emptied_yet : ¬ (Contains emptied found.m)
  not_emptied_yet c =
      let m = found.m in
      let once = (reached_counted old mid owed e b.reached).message_once m in
      let all : tally (λ n. m.0 == n.0 && m.1 == n.1) e.destroyed ≡ tally (λ n. m.0 == n.0 && m.1 == n.1) ((reverse found.later ++ m ∷ []) ++ emptied) =
      ap (λ (ms : List (ℕ × ℕ)). tally (λ n. m.0 == n.0 && m.1 == n.1) ms) (parts ∙ ap (λ (ms : List (ℕ × ℕ)). ms ++ emptied) (reversed m found.later)) in
      let d = tally-append (λ n. m.0 == n.0 && m.1 == n.1) (reverse found.later ++ m ∷ []) emptied in
      let g = tally-append (λ n. m.0 == n.0 && m.1 == n.1) (reverse found.later) (m ∷ []) in
      let own = contains_tally m (m ∷ []) (0, omega arith, refl) in
      let h = contains_tally m emptied c in
      omega (arith, once, all, d, g, own, h)

  own_live : mid.live_port found.m.0 ≡ true
  own_live = grind (arith, dead_cases, found, reached_sound, own_counted, port_lives, lying_le_of)

  -- the rights that it carried midway
  lay : (kind : Kind) (p : ℕ) → kind ≢ receive → lives_after mid e p ≡ true → lying_among mid.ledger kind p (in_message found.m.0 found.m.1) ≡ rights_count kind p (message_rights found.entry.message)
  lay kind p other alive = go (front_or_behind (mid.log found.m.0) (entries_at now found.m.0 (due_so_far e)) found.m.1 found.entry (ap (λ (es : List Entry). slice_get es found.m.1) (sym (b.tied.so_far.log found.m.0)) ∙ found.at))
    where
      apart : found.m.0 ≡ p → ⊥
      apart same = no (sym own_counted.0 ∙ ap (λ (q : ℕ). listed e.doomed q) same ∙ undoomed mid e p alive)
        where
          no : true ≡ false → ⊥
          no z = cc

      place_same : mid.taken found.m.0 + (found.m.1 - mid.taken found.m.0) ≡ found.m.1
      place_same = let h = own_counted.1.0 in omega (arith, h)

      go : (slice_get (mid.log found.m.0) found.m.1 ≡ Some found.entry) ⊎ ((j : ℕ) × (found.m.1 ≡ length (mid.log found.m.0) + j) × (slice_get (entries_at now found.m.0 (due_so_far e)) j ≡ Some found.entry)) →
          lying_among mid.ledger kind p (in_message found.m.0 found.m.1) ≡ rights_count kind p (message_rights found.entry.message)
      go (inl h) =
          let c = b.lawful.carried found.m.0 (found.m.1 - mid.taken found.m.0) found.entry own_live
          (slice_get_drop (mid.taken found.m.0) (mid.log found.m.0) (found.m.1 - mid.taken found.m.0) ∙ ap (λ (n : ℕ). slice_get (mid.log found.m.0) n) place_same ∙ h) kind p (live_mid mid e p alive) in
          let to = (b.lawful.sent_here found.m.0 found.m.1 found.entry h).0 in
          let none : mark_count kind p found.entry.message.kind (to_port found.entry.message.destination) ≡ 0 =
          both_test (same_kind kind found.entry.message.kind) (found.entry.message.destination == p) (inr (ne_eqb found.entry.message.destination p (λ same. apart (sym to ∙ same)))) in
          let d : lying_among mid.ledger kind p (in_message found.m.0 (mid.taken found.m.0 + (found.m.1 - mid.taken found.m.0))) ≡ lying_among mid.ledger kind p (in_message found.m.0 found.m.1) =
          ap (λ (n : ℕ). lying_among mid.ledger kind p (in_message found.m.0 n)) place_same in
          omega (arith, c, none, d)
      go (inr (j, at, h)) =
          let t = told_entry now found.m.0 (due_so_far e) j found.entry h in
          let c = b.lawful.no_entry found.m.0 found.m.1 (omega (arith, at)) kind p in
          let d : rights_count kind p (message_rights found.entry.message) ≡ rights_count kind p (message_rights (notice_message found.m.0 t.0)) = ap (λ (x : Message). rights_count kind p (message_rights x)) t.1 in
          let n = notice_none kind p found.m.0 t.0 other in
          omega (arith, c, d, n)

  there : (kind : Kind) (p : ℕ) → kind ≢ receive → lives_after mid e p ≡ true → lying_among e.left kind p (in_message found.m.0 found.m.1) ≡ rights_count kind p (rights_of (carried_in msg ++ []))
  there kind p other alive =
      let i = reached_sound old mid owed e b.reached in
      let c = i.parts (λ x. if is_of kind p x && same_place (in_message found.m.0 found.m.1) x.place then 1 else 0) in
      let d = went_none mid kind p found.m.0 found.m.1 (went_in e.begun) i.went in
      let g = b.unlost kind p found.m.0 found.m.1 other (undoomed mid e p alive) not_emptied_yet in
      let h = lay kind p other alive in
      let k : rights_count kind p (message_rights found.entry.message) ≡ rights_count kind p (rights_of (carried_in msg)) = ap (rights_count kind p) (message_kept found.m.0 msg found.entry.message found.keeps) in
      let n : rights_count kind p (rights_of (carried_in msg ++ [])) ≡ rights_count kind p (rights_of (carried_in msg)) = ap (λ (cs : List Carried). rights_count kind p (rights_of cs)) (append-nil (carried_in msg)) in
      omega (arith, c, d, g, h, k, n)

  pub begins : Amid now tables old mid owed e found.m (carried_in msg ++ []) (without_first w)
  begins = record {
    loose = loose_noted now tables old mid owed e w (loose_of now tables old mid owed e w b) w.ports.noted (w.ports.spare + 1) (drop 1 w.ports.destroyed) (let h = b.tied.slots in omega (arith, h));
    stage = record { emptied = stage.emptied; judged = stage.judged; none_lost = stage.none_lost };
    noted = λ q living some s. b.noted q living some (record { live = s.live; asked = s.asked; none = s.none });
    had = b.had;
    waiting = found.later;
    emptied = emptied;
    parts = parts;
    are = found.are;
    lost = b.tied.waiting.lost;
    unlost = λ kind p q k other undoomed none. b.unlost kind p q k other undoomed (λ c. none (listed_later found.m emptied (q, k) c));
    there = there;
  }

-- ---- the loop

module _ (old : WorldView) (turns : ℕ) (w0 : WorldView) (so_far : Continues IsJudged IsJudged old turns w0) (msg : Kept) (first : slice_get w0.ports.destroyed 0 ≡ Some msg) where
  pub loses_next : IsAt IsJudged old → IsLosing (carried_in msg) (without_first w0)
  loses_next at =
      let r = so_far at.now at.tables at.old at.mid at.owed at.ending at.between at.stage_is in
      record {
        now = at.now;
        tables = at.tables;
        old = at.old;
        mid = at.mid;
        owed = at.owed;
        ending = r.0;
        message = (found at.now at.tables at.old at.mid at.owed r.0 w0 r.1 r.4 msg first).m;
        rest = [];
        amid = begins at.now at.tables at.old at.mid at.owed r.0 w0 r.1 r.4 msg first;
      }

  pub lost_next : (number : ℕ) (new : WorldView) → LosesTo (carried_in msg) [] (without_first w0) number new → (sum : ℕ) → sum ≡ min (turns + number) (2 ^ 64 - 1) → Continues IsJudged IsJudged old sum new
  lost_next number new loses sum sum_is now tables s mid owed e b stage =
      let r = so_far now tables s mid owed e b stage in
      let g = loses now tables s mid owed r.0 (found now tables s mid owed r.0 w0 r.1 r.4 msg first).m [] (begins now tables s mid owed r.0 w0 r.1 r.4 msg first) in
      let long = one_less w0.ports.destroyed first in (
        g.0,
        ends now tables s mid owed g.0 (found now tables s mid owed r.0 w0 r.1 r.4 msg first).m new g.1,
        count_joined e.turns r.0.turns g.0.turns turns number sum r.2 g.2 sum_is,
        (let x = r.3 in let y = g.3 in omega (arith, x, y, long)),
        g.1.stage,
      )
    where
      one_less : (ms : List Kept) → slice_get ms 0 ≡ Some msg → length ms ≡ length (drop 1 ms) + 1
      one_less [] h = absurd (cc)
      one_less (x ∷ ms) h = omega arith

pub none_lost : (w : WorldView) → Continues IsJudged IsJudged w 0 w
none_lost w now tables old mid owed e b stage = (e, b, count_none e.turns, refl, stage)

none_first : (ms : List Kept) → slice_get ms 0 ≡ None → ms ≡ []
none_first [] e = refl
none_first (x ∷ ms) e = absurd (let f : Some x ≡ None = e in cc)

pub all_lost : (old : WorldView) (turns : ℕ) (w0 new : WorldView) (taken : Option Kept) → Continues IsJudged IsJudged old turns w0 → taken ≡ slice_get w0.ports.destroyed 0 → taken ≡ None → IfNone taken (new ≡ w0) →
    Continues IsJudged AreLost old turns new
all_lost old turns w0 new taken so_far first none same now tables s mid owed e b stage =
    let is : new ≡ w0 = subst (λ (o : Option Kept). IfNone o (new ≡ w0)) none same in
    let r = so_far now tables s mid owed e b stage in
    subst (λ (u : WorldView). (f : Ending) × Between now tables s mid owed f u × IsCount e.turns f.turns turns × SameSlots e old f u × AreLost mid f u) (sym is)
    (r.0, r.1, r.2, r.3, record { judged = r.4; none_destroyed = none_first w0.ports.destroyed (sym first ∙ none) })

-- ---- as the loop has it

module _ (w0 out : WorldView) (taken : Option Kept) (msg : Kept) (first : taken ≡ slice_get w0.ports.destroyed 0) (some : taken ≡ Some msg) (is : IfSome taken (λ m. out ≡ without_first w0))
    (old : WorldView) (turns : ℕ) (so_far : Continues IsJudged IsJudged old turns w0) where
  is_out : out ≡ without_first w0
  is_out = subst (λ (o : Option Kept). IfSome o (λ m. out ≡ without_first w0)) some is

  is_first : slice_get w0.ports.destroyed 0 ≡ Some msg
  is_first = sym first ∙ some

  pub loop_losing : IsAt IsJudged old → IsLosing (carried_in msg) out
  loop_losing at = subst (λ (u : WorldView). IsLosing (carried_in msg) u) (sym is_out) (loses_next old turns w0 so_far msg is_first at)

  pub loop_next : (number : ℕ) (new : WorldView) → LosesTo (carried_in msg) [] out number new → (sum : ℕ) → sum ≡ min (turns + number) (2 ^ 64 - 1) → Continues IsJudged IsJudged old sum new
  loop_next number new loses = lost_next old turns w0 so_far msg is_first number new (subst (λ (u : WorldView). LosesTo (carried_in msg) [] u number new) is_out loses)

  pub loop_fewer : IsAt IsJudged old → (number : ℕ) (new : WorldView) → LosesTo (carried_in msg) [] out number new → length new.ports.destroyed < length w0.ports.destroyed
  loop_fewer at number new loses =
      let i = loop_losing at in
      let r = loses i.now i.tables i.old i.mid i.owed i.ending i.message i.rest i.amid in
      let same : new.ports.destroyed ≡ drop 1 w0.ports.destroyed = r.4 ∙ ap (λ (u : WorldView). u.ports.destroyed) is_out in
      let long = ap length same in
      let less = shorter w0.ports.destroyed is_first in
      omega (arith, long, less)
    where
      shorter : (ms : List Kept) → slice_get ms 0 ≡ Some msg → length (drop 1 ms) < length ms
      shorter [] h = absurd (cc)
      shorter (x ∷ ms) h = omega arith
