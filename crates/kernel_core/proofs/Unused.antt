-- The ledger's number of send-once rights that no queued message goes by is the state's.
use Rattle.std.proofs.Common.{◌≡◌, ℕ, zero, suc, ◌+◌, ◌<◌, ◌≤◌, Bool, true, false, List, [], ◌∷◌, ◌++◌, length, length-append, Option, Some, None, refl, sym, ap, subst, ◌∙◌, arith, inl, inr}
use Rattle.std.specs.Prelude.{is_some, if◌then◌else◌, ◌==◌, drop, All}
use Rattle.std.specs.Option.{unwrap_or}
use Rattle.std.specs.FinMap as map
use Rattle.std.proofs.lemmas.Bool.Decides.{eqb_tells}
use Rattle.std.proofs.lemmas.Bool.{eq-eqb, ne_eqb}
use Rattle.std.proofs.lemmas.List.{drop-append-le}
use Rattle.std.proofs.lemmas.List.Elements.{All-head, All-tail}
use Rattle.mach_types.specs.Messages.{Entry}
use Rattle.mach_types.specs.Tokens.{send_once, Place, in_message, Token, count, is_of}
use Rattle.mach_model.specs.State.{State, queue}
use Rattle.mach_model.specs.Notices.{Notice, port_deleted, port_sent, no_more_senders, right_unused, name_died, Owed, notice_message, posted_tokens, carried_by}
use Rattle.mach_model.specs.Lawful.{tally}
use Rattle.mach_model.specs.Midway.{IsOwed}
use Rattle.mach_model.specs.Unused.{came_by_once, onces_queued, unused_at}
use Rattle.mach_model.proofs.Names.{at_own, at_other, weigh-append, all_unused}
use Rattle.mach_laws.specs.Queued.{sum_below, unused_onces}
use Rattle.mach_laws.proofs.Counted.{sum_same}
use Rattle.mach_laws.proofs.Slots.{tally_append}
use Rattle.rights.specs.declared.Counts.{Counts}
use Rattle.rights.specs.Counts.{no_rights}
use Rattle.rights.specs.Unused.{IsUnusedOfAll}
use Rattle.rights.proofs.Sums.{Counted, sum_over, sum-empty, sum-remove}
use Rattle.copyin_base.specs.Worlds.{WorldView}
use Rattle.copyin_base.specs.Serving.{ShowsMid}
use Rattle.copyin_base.specs.Posted.{with_notice, with_posted}
use Rattle.copyin_base.specs.Shows.{Agrees, Shows}
use Rattle.copyin_base.proofs.Putting.{put_own, put_other}

-- ---- a sum over a map whose keys are below a number

abbrev once_of : Counts → ℕ
once_of c = c.send_once

abbrev once_in : Option Counts → ℕ
once_in o = (unwrap_or o no_rights).send_once

abbrev AreBelow : Counted → ℕ → Type 0
AreBelow m n = (p : ℕ) → n ≤ p → map.get m p ≡ None

-- the map without the greatest key, if that is there
without_below : (m : Counted) (n : ℕ) → AreBelow m (suc n) → AreBelow (map.remove m n) n
without_below m n below p above = elim (eqb_tells p n) [
  | inl h ↦ ap (λ (q : ℕ). map.get (map.remove m n) q) h.1 ∙ put_own m n None
  | inr h ↦ put_other m n None p h.1 ∙ below p (omega (arith, above, h.1))
]

-- the greatest key counted last
step : (m : Counted) (n : ℕ) (g : ℕ → ℕ) → AreBelow m (suc n) → ((p : ℕ) → p < suc n → g p ≡ once_in (map.get m p)) →
    ((k : Counted) → AreBelow k n → ((p : ℕ) → p < n → g p ≡ once_in (map.get k p)) → sum_over once_of k ≡ sum_below g n) →
    (o : Option Counts) → map.get m n ≡ o → sum_over once_of m ≡ sum_below g n + g n
step m n g below same others None is =
    let rest = others m (λ p above. elim (eqb_tells p n) [
      | inl h ↦ ap (λ (q : ℕ). map.get m q) h.1 ∙ is
      | inr h ↦ below p (omega (arith, above, h.1))
    ]) (λ p less. same p (omega (arith, less))) in
    let last : g n ≡ 0 = same n (omega arith) ∙ ap once_in is in
    omega (arith, rest, last)
step m n g below same others (Some c) is =
    let rest = others (map.remove m n) (without_below m n below)
    (λ p less. same p (omega (arith, less)) ∙ ap once_in (sym (put_other m n None p (λ e. omega (arith, e, less))))) in
    let last : g n ≡ c.send_once = same n (omega arith) ∙ ap once_in is in
    let parts = sum-remove m n once_of c is in
    omega (arith, rest, last, parts)

sum_is : (n : ℕ) (m : Counted) (g : ℕ → ℕ) → AreBelow m n → ((p : ℕ) → p < n → g p ≡ once_in (map.get m p)) → sum_over once_of m ≡ sum_below g n
sum_is zero m g below same = ap (λ (x : Counted). sum_over once_of x) (all_unused m (λ p. below p (omega arith))) ∙ sum-empty once_of
sum_is (suc n) m g below same = step m n g below same (λ k b e. sum_is n k g b e) (map.get m n) refl

-- ---- in tables that show a state

no_key : (o : Option Counts) → is_some o ≡ false → o ≡ None
no_key None e = refl
no_key (Some c) e = absurd (let no : true ≡ false = e in cc)

-- a port that lives was made, and no right is for another
record AreMade (s : State) : Type 0 where
  made : (p : ℕ) → s.live_port p ≡ true → p < s.ports_made
  dead : (p : ℕ) → s.live_port p ≡ false → count (is_of send_once p) s.ledger ≡ 0

module _ (w : WorldView) (s : State) (a : Agrees w s) (l : AreMade s) where
  not_made : (p : ℕ) (b : Bool) → s.live_port p ≡ b → s.ports_made ≤ p → s.live_port p ≡ false
  not_made p true e above = absurd (let made = l.made p e in omega (arith, made, above))
  not_made p false e above = e

  all_below : AreBelow w.ledger.counts s.ports_made
  all_below p above = no_key (map.get w.ledger.counts p) ((a.counts p).entered ∙ not_made p (s.live_port p) refl above)

  of_port : (p : ℕ) (b : Bool) → s.live_port p ≡ b → unused_at s p ≡ once_in (map.get w.ledger.counts p)
  of_port p true live = let c = a.counts p in let d = c.destinations live in omega (arith, c.once_rights, d)
  of_port p false is =
      let none = l.dead p is in
      let e = ap once_in (no_key (map.get w.ledger.counts p) ((a.counts p).entered ∙ is)) in
      omega (arith, none, e)

  unused_is : IsUnusedOfAll w.ledger → w.ledger.unused ≡ unused_onces s
  unused_is all = sym all ∙ sum_is s.ports_made w.ledger.counts (unused_at s) all_below (λ p less. of_port p (s.live_port p) refl)

pub shown_unused : (w : WorldView) (s : State) → Shows w s → IsUnusedOfAll w.ledger → w.ledger.unused ≡ unused_onces s
shown_unused w s sh all = unused_is w s sh.agrees (record { made = sh.lawful.made_port; dead = λ p e. sh.lawful.no_rights p e send_once }) all

-- ---- midway, where what is owed was posted

-- A notice that is posted is one more right, and one more message that goes by it.
record IsPosted (s t : State) : Type 0 where
  live : t.live_port ≡ s.live_port
  made : t.ports_made ≡ s.ports_made
  unused : (p : ℕ) → unused_at t p ≡ unused_at s p
  dead : (p : ℕ) → s.live_port p ≡ false → count (is_of send_once p) t.ledger ≡ count (is_of send_once p) s.ledger

brings_none : (p : ℕ) (n : Notice) (place : Place) → count (is_of send_once p) (carried_by n place) ≡ 0
brings_none p (port_deleted name) place = refl
brings_none p (port_sent q) place = refl
brings_none p (no_more_senders n) place = refl
brings_none p right_unused place = refl
brings_none p (name_died name) place = refl

module _ (now : ℕ) (s : State) (x : Token × Notice) where
  abbrev after : State
  after = with_notice now s x

  one_more : (p : ℕ) → count (is_of send_once p) after.ledger ≡ (if x.0.port == p then 1 else 0) + count (is_of send_once p) s.ledger
  one_more p =
      let place : Place = in_message x.0.port (length (s.log x.0.port)) in
      let a = weigh-append (λ y. if is_of send_once p y then 1 else 0) (posted_tokens (record { port = x.0.port; entry = length (s.log x.0.port); notice = x.1 })) s.ledger in
      let b = brings_none p x.1 place in
      omega (arith, a, b)

  longer : (p : ℕ) → length (s.log p) ≤ length (after.log p)
  longer p = elim (eqb_tells p x.0.port) [
    | inl h ↦ (let e = ap length (at_own s.log x.0.port (s.log x.0.port ++ notice_entry ∷ [])) in
        let f = length-append (s.log x.0.port) (notice_entry ∷ []) in
        subst (λ (q : ℕ). length (s.log q) ≤ length (after.log q)) (sym h.1) (omega (arith, e, f)))
    | inr h ↦ (let e = ap length (at_other s.log x.0.port (s.log x.0.port ++ notice_entry ∷ []) p h.1) in omega (arith, e))
  ]
    where
      notice_entry : Entry
      notice_entry = record { origin = now; message = notice_message x.0.port x.1 }

  one_posted : ((p : ℕ) → s.taken p ≤ length (s.log p)) → s.live_port x.0.port ≡ true → IsPosted s after
  one_posted within lives = record {
    live = refl;
    made = refl;
    unused = λ p. elim (eqb_tells x.0.port p) [
      | inl h ↦ subst (λ (q : ℕ). unused_at after q ≡ unused_at s q) h.1 own
      | inr h ↦ other p h.1
    ];
    dead = λ p is.
        let a = one_more p in
        let z : (if x.0.port == p then suc zero else zero) ≡ zero = rw (ne_eqb x.0.port p (λ e. apart p e is)) refl in
        omega (arith, a, z);
  }
    where
      notice_entry : Entry
      notice_entry = record { origin = now; message = notice_message x.0.port x.1 }

      apart : (p : ℕ) → x.0.port ≡ p → s.live_port p ≡ false → ⊥
      apart p e is = let f : true ≡ false = sym lives ∙ ap s.live_port e ∙ is in cc

      own : unused_at after x.0.port ≡ unused_at s x.0.port
      own =
          let a = one_more x.0.port in
          let o : (if x.0.port == x.0.port then suc zero else zero) ≡ suc zero = rw (eq-eqb x.0.port x.0.port refl) refl in
          let q : queue after x.0.port ≡ queue s x.0.port ++ notice_entry ∷ [] =
          ap (drop (s.taken x.0.port)) (at_own s.log x.0.port (s.log x.0.port ++ notice_entry ∷ [])) ∙ drop-append-le (s.taken x.0.port) (s.log x.0.port) (notice_entry ∷ []) (within x.0.port) in
          let t = ap (tally came_by_once) q ∙ tally_append came_by_once (queue s x.0.port) (notice_entry ∷ []) in
          omega (arith, a, o, t)

      other : (p : ℕ) → (x.0.port ≡ p → ⊥) → unused_at after p ≡ unused_at s p
      other p not =
          let a = one_more p in
          let z : (if x.0.port == p then suc zero else zero) ≡ zero = rw (ne_eqb x.0.port p not) refl in
          let t : onces_queued after p ≡ onces_queued s p = ap (λ (es : List Entry). tally came_by_once (drop (s.taken p) es)) (at_other s.log x.0.port (s.log x.0.port ++ notice_entry ∷ []) p (λ e. not (sym e))) in
          omega (arith, a, z, t)

all_posted : (now : ℕ) (s : State) (owed : Owed) → ((p : ℕ) → s.taken p ≤ length (s.log p)) → All (IsOwed s.live_port) owed → IsPosted s (with_posted now s owed)
all_posted now s [] within all = record { live = refl; made = refl; unused = λ p. refl; dead = λ p is. refl }
all_posted now s (x ∷ owed) within all =
    let one = one_posted now s x within (All-head (IsOwed s.live_port) x owed all).live in
    let rest = all_posted now (with_notice now s x) owed (λ p. let a = within p in let b = longer now s x p in omega (arith, a, b)) (All-tail (IsOwed s.live_port) x owed all) in
    record {
      live = rest.live;
      made = rest.made;
      unused = λ p. rest.unused p ∙ one.unused p;
      dead = λ p is. rest.dead p is ∙ one.dead p is;
    }

pub midway_unused : (now : ℕ) (old w : WorldView) (mid : State) (owed : Owed) → ShowsMid now old w mid owed → IsUnusedOfAll w.ledger → w.ledger.unused ≡ unused_onces mid
midway_unused now old w mid owed m all =
    let l = m.lawful in
    let p = all_posted now mid owed l.within l.are_owed in
    let posted = with_posted now mid owed in
    unused_is w posted m.agrees (record {
      made = λ q lives. let a = l.made_port q (ap (λ (live : ℕ → Bool). live q) (sym p.live) ∙ lives) in let b = p.made in omega (arith, a, b);
      dead = λ q is. let was = ap (λ (live : ℕ → Bool). live q) (sym p.live) ∙ is in p.dead q was ∙ l.no_rights q was send_once;
    }) all
    ∙ ap (sum_below (unused_at posted)) p.made ∙ sum_same (unused_at mid) (unused_at posted) mid.ports_made (λ q within. p.unused q)
