-- What stays for those that wait where a message is received that gives receive rights under some names.
use Rattle.std.proofs.Common.{◌≡◌, ℕ, List, [], ◌∷◌, Some, None, refl, sym, ap, subst, ◌∙◌, arith, true, false, Bool, All}
use Rattle.std.specs.Prelude.{◌==◌, ◌&&◌, if◌then◌else◌, MatchBool, Contains, map as list_map}
use Rattle.std.proofs.lemmas.Bool.{ne_eqb}
use Rattle.std.proofs.lemmas.List.Elements.{All-head, All-tail, All-cons, All-nil}
use Rattle.mach_types.specs.declared.calls.Waited.TheVariants.{Port, Set}
use Rattle.mach_types.specs.declared.touched.Touched.{Touched}
use Rattle.mach_types.specs.Touching.{Covers}
use Rattle.mach_types.specs.Numbers.{dead_word}
use Rattle.mach_types.specs.Tokens.{Kind, receive, send, send_once, in_task, in_message, Place, Token, token, count, is_of, is_held, is_in_task}
use Rattle.mach_types.specs.Messages.{Mark, to_port, null, dead}
use Rattle.mach_types.specs.Bodies.{message_rights, AllZip, Through}
use Rattle.mach_model.specs.State.{State, Target, lookup, queue}
use Rattle.mach_model.specs.Death.{same_place}
use Rattle.mach_model.specs.Lawful.{IsLawful}
use Rattle.mach_model.specs.CopyOut.{GiveRight, GiveMark, GiveWord}
use Rattle.mach_model.specs.Receive.{Receives}
use Rattle.mach_model.specs.ReceivedMeans.{IsReceived, ReceivedWord, received_words}
use Rattle.mach_laws.specs.Touching.{TouchesOnly}
use Rattle.mach_laws.proofs.Bodies.{received_each, right_asof}
use Rattle.mach_laws.proofs.Meanings.{MeanReceived, words_mean}
use Rattle.mach_laws.proofs.Touching.{Keeps, keeps_same, for_keeps, mark_keeps, IsOfReceives, held_is, lying_is, none_and, touches, touches_both, taken_changes}

-- All is kept but where the receive rights of these ports lie.
pub record KeepsBut (among : ℕ → Type 0) (s t : State) : Type 0 where
  pub live : (p : ℕ) → t.live_port p ≡ s.live_port p
  pub log : (p : ℕ) → t.log p ≡ s.log p
  pub taken : (p : ℕ) → t.taken p ≡ s.taken p
  pub limit : (p : ℕ) → t.limit p ≡ s.limit p
  pub sets : (p : ℕ) → t.sets_of p ≡ s.sets_of p
  pub owner : (set : ℕ) → t.set_owner set ≡ s.set_owner set
  pub receives : (test : Token → Bool) → IsOfReceives test → ((p : ℕ) → among p → (place : Place) → test (token receive p place) ≡ false) → count test t.ledger ≡ count test s.ledger

but_kept : (among : ℕ → Type 0) (s t : State) → Keeps s t → KeepsBut among s t
but_kept among s t k = record { live = k.live; log = k.log; taken = k.taken; limit = k.limit; sets = k.sets; owner = k.owner; receives = λ test is none. k.receives test is }

but_trans : (among : ℕ → Type 0) (s mid t : State) → KeepsBut among s mid → KeepsBut among mid t → KeepsBut among s t
but_trans among s mid t a k = record {
  live = λ p. k.live p ∙ a.live p;
  log = λ p. k.log p ∙ a.log p;
  taken = λ p. k.taken p ∙ a.taken p;
  limit = λ p. k.limit p ∙ a.limit p;
  sets = λ p. k.sets p ∙ a.sets p;
  owner = λ set. k.owner set ∙ a.owner set;
  receives = λ test is none. k.receives test is none ∙ a.receives test is none;
}

-- What covers these ports covers all that changes.
but_touches : (among : ℕ → Type 0) (s t : State) → KeepsBut among s t → (touched : Touched) → ((p : ℕ) → among p → Covers touched (Port p)) → TouchesOnly s t touched
but_touches among s t k touched covers = record {
  ports = λ q not.
      let differs : (p : ℕ) → among p → (p == q) ≡ false = λ p in_it. ne_eqb p q (λ e. not (subst (λ (x : ℕ). Covers touched (Port x)) e (covers p in_it))) in
      record {
        live = k.live q;
        waiting = same_queue q;
        limit = k.limit q;
        sets = k.sets q;
        with_task = λ task. k.receives (is_held task receive q) (held_is task q) (λ p in_it place. none_and (p == q) (is_in_task task place) (differs p in_it));
        in_queue = λ o j. k.receives (λ x. is_of receive q x && same_place (in_message o j) x.place) (lying_is q o j) (λ p in_it place. none_and (p == q) (same_place (in_message o j) place) (differs p in_it));
      };
  sets = λ set there not. record {
    owner = k.owner set;
    members = λ q. (subst (λ (xs : List ℕ). Contains xs set) (k.sets q), subst (λ (xs : List ℕ). Contains xs set) (sym (k.sets q)));
    waiting = λ q in_it. same_queue q;
  };
}
  where
    same_queue : (q : ℕ) → queue t q ≡ queue s q
    same_queue q = let a = k.log q in let b = k.taken q in rw (a, b) refl

-- ---- rights that are given

-- Where it is a receive right for a port that lives, it is for one of these.
abbrev pub GivesOf : (among : ℕ → Type 0) → (live : ℕ → Bool) → Kind × Mark → Type 0
GivesOf among live r = r.0 ≡ receive → (q : ℕ) → r.1 ≡ to_port q → live q ≡ true → among q

receive_given : (among : ℕ → Type 0) (task : ℕ) (place : Place) (p : ℕ) (old : State) (name : ℕ) (new : State) → among p → GiveRight task place receive p old name new → KeepsBut among old new
receive_given among task place p old name new in_it g =
    let k = for_keeps receive task name p old g.named_state g.named in
    record {
      live = λ q. ap (λ (x : State). x.live_port q) g.rest ∙ k.live q;
      log = λ q. ap (λ (x : State). x.log q) g.rest ∙ k.log q;
      taken = λ q. ap (λ (x : State). x.taken q) g.rest ∙ k.taken q;
      limit = λ q. ap (λ (x : State). x.limit q) g.rest ∙ k.limit q;
      sets = λ q. ap (λ (x : State). x.sets_of q) g.rest ∙ k.sets q;
      owner = λ set. ap (λ (x : State). x.set_owner set) g.rest ∙ k.owner set;
      receives = λ test is none.
          let m = g.tokens (λ x. if test x then 1 else 0) in
          let a : ◌≡◌ {A = ℕ} (if test (token receive p place) then 1 else 0) 0 = rw (none p in_it place) refl in
          let b : ◌≡◌ {A = ℕ} (if test (token receive p (in_task task)) then 1 else 0) 0 = rw (none p in_it (in_task task)) refl in
          omega (arith, m, a, b);
    }

module _ (among : ℕ → Type 0) (live : ℕ → Bool) (task : ℕ) (place : Place) where
  mark_given : (kind : Kind) (mark : Mark) (old : State) (word : ℕ) (new : State) → ((p : ℕ) → old.live_port p ≡ live p) → GivesOf among live (kind, mark) → GiveMark task place kind mark old word new → KeepsBut among old new
  mark_given receive null old word new same of g = but_kept among old new (keeps_same old new g.1)
  mark_given receive dead old word new same of g = but_kept among old new (keeps_same old new g.1)
  mark_given receive (to_port p) old word new same of g = go (old.live_port p) refl g
    where
      go : (b : Bool) → old.live_port p ≡ b → MatchBool b (GiveRight task place receive p old word new) ((word ≡ dead_word) × (new ≡ old)) → KeepsBut among old new
      go true is x = receive_given among task place p old word new (of refl p refl (sym (same p) ∙ is)) x
      go false is x = but_kept among old new (keeps_same old new x.1)
  mark_given send mark old word new same of g = but_kept among old new (mark_keeps task place send mark old word new refl g)
  mark_given send_once mark old word new same of g = but_kept among old new (mark_keeps task place send_once mark old word new refl g)

  rights_given : (old : State) (ws : List (ℕ × ℕ)) (rs : List (Kind × Mark)) (new : State) → ((p : ℕ) → old.live_port p ≡ live p) → All (GivesOf among live) rs → Through (GiveWord task place) old ws rs new → KeepsBut among old new
  rights_given old [] [] new same of t = but_kept among old new (keeps_same old new t)
  rights_given old (w ∷ ws) (r ∷ rs) new same of (mid, x, rest) =
      let one = mark_given r.0 r.1 old w.1 mid same (All-head (GivesOf among live) r rs of) x in
      but_trans among old mid new one (rights_given mid ws rs new (λ p. one.live p ∙ same p) (All-tail (GivesOf among live) r rs of) rest)
  rights_given old [] (r ∷ rs) new same of t = absurd t
  rights_given old (w ∷ ws) [] new same of t = absurd t

-- ---- and the names that they come under

-- Where a receive right comes under the word, it is among these names.
abbrev pub ComesUnder : (names : List ℕ) → ℕ × ℕ → Type 0
ComesUnder names w = w.0 ≡ 16 → Contains names w.1

-- The task has the port under one of these names.
abbrev pub IsNamed : (names : List ℕ) → (task : ℕ) → State → ℕ → Type 0
IsNamed names task s q = (n : ℕ) × Contains names n × (lookup s task n ≡ Some (Target.port q))

module _ (names : List ℕ) (task : ℕ) (before after : State) (live : ℕ → Bool) where
  one_named : (w : ℕ × ℕ) (kind : Kind) (mark : Mark) → IsReceived w.0 kind → ReceivedWord task before after kind (right_asof live (kind, mark)).1 w.1 → ComesUnder names w → GivesOf (IsNamed names task after) live (kind, mark)
  one_named w receive (to_port p) number word under = λ is q e lives. go q (same p q e) lives word
    where
      same : (a b : ℕ) → to_port a ≡ to_port b → a ≡ b
      same a b e = cc

      go : (q : ℕ) → p ≡ q → live q ≡ true → ReceivedWord task before after receive (if live p then to_port p else dead) w.1 → IsNamed names task after q
      go q e lives word =
          let here : live p ≡ true = ap live e ∙ lives in
          let means : ReceivedWord task before after receive (to_port p) w.1 = subst (λ (b : Bool). ReceivedWord task before after receive (if b then to_port p else dead) w.1) here word in
          subst (IsNamed names task after) e (w.1, under number, means.0)
  one_named w receive null number word under = λ is q e lives. absurd (cc)
  one_named w receive dead number word under = λ is q e lives. absurd (cc)
  one_named w send mark number word under = λ is q e lives. absurd (cc)
  one_named w send_once mark number word under = λ is q e lives. absurd (cc)

  all_named : (ws : List (ℕ × ℕ)) (rs : List (Kind × Mark)) → AllZip (λ (w : ℕ × ℕ) (r : Kind × Mark). IsReceived w.0 r.0) ws rs → MeanReceived task before after ws (list_map (right_asof live) rs) → All (ComesUnder names) ws →
      All (GivesOf (IsNamed names task after) live) rs
  all_named [] [] number means under = All-nil (GivesOf (IsNamed names task after) live)
  all_named (w ∷ ws) (r ∷ rs) number means under =
      All-cons (GivesOf (IsNamed names task after) live) r rs (one_named w r.0 r.1 number.0 means.0 (All-head (ComesUnder names) w ws under)) (all_named ws rs number.1 means.1 (All-tail (ComesUnder names) w ws under))
  all_named [] (r ∷ rs) number means under = absurd number
  all_named (w ∷ ws) [] number means under = absurd number

-- ---- a receipt

none_limited : (q : ℕ) → None ≡ Some q → ⊥
none_limited q e = cc

own_port : (p q : ℕ) → Some p ≡ Some q → p ≡ q
own_port p q e = cc

module _ (task port room : ℕ) (bytes : List ℕ) (old mid : State) (r : Receives task port room bytes old mid) (names : List ℕ) (under : All (ComesUnder names) (received_words r.header r.written)) where
  given : KeepsBut (IsNamed names task mid) r.taken mid
  given =
      let words = received_words r.header r.written in
      let rights = message_rights r.e.message in
      let means = words_mean task (in_message port (old.taken port)) words r.taken r.taken rights mid refl (λ n x e. e) r.rights in
      rights_given (IsNamed names task mid) r.taken.live_port task (in_message port (old.taken port)) r.taken words rights mid (λ p. refl)
      (all_named names task r.taken mid r.taken.live_port words rights (received_each r.header r.written r.e.message r.reply r.body) means.1 under) r.rights

  pub received_sets : (p : ℕ) → mid.sets_of p ≡ old.sets_of p
  received_sets p = given.sets p ∙ ap (λ (x : State). x.sets_of p) r.takes.rest

  -- What covers the port with its sets, and the ports under these names, covers all that changes.
  pub receives_touch : IsLawful old → (t : State) → Keeps mid t → (touched : Touched) → Covers touched (Port port) → ((set : ℕ) → Contains (old.sets_of port) set → Covers touched (Set set)) →
      ((n q : ℕ) → Contains names n → lookup mid task n ≡ Some (Target.port q) → Covers touched (Port q)) → TouchesOnly old t touched
  receives_touch l t k touched from in_set out =
      touches_both old r.taken t touched
      (touches old r.taken (Some port) None touched (taken_changes port r.e old r.taken l r.takes)
      (λ q e. subst (λ (x : ℕ). Covers touched (Port x)) (own_port port q e) from)
      (λ q e. absurd (none_limited q e))
      (λ q set e in_it. in_set set (subst (λ (x : ℕ). Contains (old.sets_of x) set) (sym (own_port port q e)) in_it)))
      (but_touches (IsNamed names task mid) r.taken t (but_trans (IsNamed names task mid) r.taken mid t given (but_kept (IsNamed names task mid) mid t k)) touched (λ q found. out found.0 q found.1 found.2))
