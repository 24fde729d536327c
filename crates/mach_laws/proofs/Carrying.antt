-- What stays for those that wait where a message is sent that takes receive rights along.
use Rattle.std.proofs.Common.{◌≡◌, ℕ, List, [], ◌∷◌, ◌++◌, Some, None, refl, sym, ap, subst, ◌∙◌, arith, true, false, Bool, inl, inr}
use Rattle.std.specs.Prelude.{◌≢◌, ◌==◌, ◌&&◌, ◌⊎◌, MatchBool, Contains}
use Rattle.std.proofs.lemmas.Bool.{ne_eqb}
use Rattle.std.proofs.lemmas.Bool.Decides.{eqb_tells}
use Rattle.mach_types.specs.declared.calls.Waited.TheVariants.{Port, Set}
use Rattle.mach_types.specs.declared.touched.Touched.{Touched}
use Rattle.mach_types.specs.Touching.{Covers}
use Rattle.mach_types.specs.Numbers.{null_word, dead_word}
use Rattle.mach_types.specs.Tokens.{Kind, receive, in_message, Place, Token, token, count, is_of, is_held, is_in_task}
use Rattle.mach_types.specs.Messages.{Mark, to_port, Message}
use Rattle.mach_types.specs.Grammar.{WireBody, Header}
use Rattle.mach_types.specs.Bodies.{body_words, body_rights, AllZip, Through}
use Rattle.mach_model.specs.State.{State, queue}
use Rattle.mach_model.specs.Death.{same_place}
use Rattle.mach_model.specs.CopyIn.{CopyRight, CopyCarried}
use Rattle.mach_model.specs.Send.{place_at, Copied, Sends, entry}
use Rattle.mach_model.proofs.Names.{at_other}
use Rattle.mach_laws.specs.Touching.{TouchesOnly}
use Rattle.mach_laws.proofs.Moving.{receive_moves}
use Rattle.mach_laws.proofs.Refusals.{one_text, copied_alike}
use Rattle.mach_laws.proofs.Touching.{Keeps, keeps_same, keeps_trans, Changes, changes_end, touches, touches_both, IsOther, copy_keeps, reply_keeps, IsOfReceives, held_is, lying_is, none_and}

-- All is kept but of these ports whether they live, their sets, and where their receive rights lie; and none enters a set.
pub record MovesOut (among : ℕ → Type 0) (s t : State) : Type 0 where
  pub live : (q : ℕ) → (among q → ⊥) → t.live_port q ≡ s.live_port q
  pub log : (q : ℕ) → t.log q ≡ s.log q
  pub taken : (q : ℕ) → t.taken q ≡ s.taken q
  pub limit : (q : ℕ) → t.limit q ≡ s.limit q
  pub sets : (q : ℕ) → (among q → ⊥) → t.sets_of q ≡ s.sets_of q
  pub fewer : (q set : ℕ) → Contains (t.sets_of q) set → Contains (s.sets_of q) set
  pub stays : (q set : ℕ) → Contains (s.sets_of q) set → Contains (t.sets_of q) set ⊎ among q
  pub owner : (set : ℕ) → t.set_owner set ≡ s.set_owner set
  pub receives : (test : Token → Bool) → IsOfReceives test → ((p : ℕ) → among p → (place : Place) → test (token receive p place) ≡ false) → count test t.ledger ≡ count test s.ledger

abbrev InSet : (set : ℕ) → List ℕ → Type 0
InSet set xs = Contains xs set

module _ (among : ℕ → Type 0) where
  out_kept : (s t : State) → Keeps s t → MovesOut among s t
  out_kept s t k = record {
    live = λ q not. k.live q;
    log = k.log;
    taken = k.taken;
    limit = k.limit;
    sets = λ q not. k.sets q;
    fewer = λ q set. subst (InSet set) (k.sets q);
    stays = λ q set in_it. inl (subst (InSet set) (sym (k.sets q)) in_it);
    owner = k.owner;
    receives = λ test is none. k.receives test is;
  }

  out_trans : (s mid t : State) → MovesOut among s mid → MovesOut among mid t → MovesOut among s t
  out_trans s mid t a b = record {
    live = λ q not. b.live q not ∙ a.live q not;
    log = λ q. b.log q ∙ a.log q;
    taken = λ q. b.taken q ∙ a.taken q;
    limit = λ q. b.limit q ∙ a.limit q;
    sets = λ q not. b.sets q not ∙ a.sets q not;
    fewer = λ q set in_it. a.fewer q set (b.fewer q set in_it);
    stays = λ q set in_it. elim (a.stays q set in_it) [
      | inl left ↦ b.stays q set left
      | inr moved ↦ inr moved
    ];
    owner = λ set. b.owner set ∙ a.owner set;
    receives = λ test is none. b.receives test is none ∙ a.receives test is none;
  }

  -- Where a receive right goes by the word, it is one of theirs.
  abbrev pub TakesAlong : ℕ × ℕ → Kind × Mark → Type 0
  TakesAlong w r = w.0 ≡ 16 → (q : ℕ) → r.1 ≡ to_port q → among q

  none_in : (set : ℕ) → Contains [] set → ⊥
  none_in set (i, below, is) = omega (arith, below)

  right_out : (task : ℕ) (place : Place) (name : ℕ) (old : State) (mark : Mark) (new : State) → ((q : ℕ) → mark ≡ to_port q → among q) → CopyRight task place 16 name old mark new → MovesOut among old new
  right_out task place name old mark new along c =
      let m = receive_moves task place name old mark new c in
      let in_it : among m.port = along m.port m.mark_is in
      let other : (q : ℕ) → (among q → ⊥) → q ≢ m.port = λ q not e. not (subst among (sym e) in_it) in
      record {
        live = λ q not. m.others.live q (other q not);
        log = m.others.log;
        taken = m.others.taken;
        limit = m.others.limit;
        sets = λ q not. m.others.sets q (other q not);
        fewer = λ q set x. elim (eqb_tells q m.port) [
          | inl e ↦ absurd (none_in set (subst (InSet set) (ap new.sets_of e.1 ∙ m.bare) x))
          | inr e ↦ subst (InSet set) (m.others.sets q e.1) x
        ];
        stays = λ q set x. elim (eqb_tells q m.port) [
          | inl e ↦ inr (subst among (sym e.1) in_it)
          | inr e ↦ inl (subst (InSet set) (sym (m.others.sets q e.1)) x)
        ];
        owner = m.others.owner;
        receives = λ test is none. m.others.receives test is (none m.port in_it);
      }

  word_out : (task : ℕ) (place : Place) (old : State) (w : ℕ × ℕ) (r : Kind × Mark) (new : State) → TakesAlong w r → CopyCarried task place old w r new → MovesOut among old new
  word_out task place old w r new along c = go (w.1 == null_word) (w.1 == dead_word) c
    where
      go : (a b : Bool) → MatchBool a ((r.1 ≡ Mark.null) × (new ≡ old)) (MatchBool b ((r.1 ≡ Mark.dead) × (new ≡ old)) (CopyRight task place w.0 w.1 old r.1 new)) → MovesOut among old new
      go true b x = out_kept old new (keeps_same old new x.1)
      go false true x = out_kept old new (keeps_same old new x.1)
      go false false x = elim (eqb_tells w.0 16) [
        | inl e ↦ right_out task place w.1 old r.1 new (along e.1) (subst (λ (n : ℕ). CopyRight task place n w.1 old r.1 new) e.1 x)
        | inr e ↦ out_kept old new (copy_keeps task place w.0 w.1 old r.1 new e.1 x)
      ]

  words_out : (task : ℕ) (place : Place) (old : State) (ws : List (ℕ × ℕ)) (rs : List (Kind × Mark)) (new : State) → AllZip TakesAlong ws rs → Through (CopyCarried task place) old ws rs new → MovesOut among old new
  words_out task place old [] [] new along t = out_kept old new (keeps_same old new t)
  words_out task place old (w ∷ ws) (r ∷ rs) new along (mid, x, rest) = out_trans old mid new (word_out task place old w r mid along.0 x) (words_out task place mid ws rs new along.1 rest)
  words_out task place old [] (r ∷ rs) new along t = absurd t
  words_out task place old (w ∷ ws) [] new along t = absurd t

  -- The text sends no receive right but in its body, and there theirs alone.
  pub record SendsAlong (header : Header) (written : WireBody) (m : Message) : Type 0 where
    pub destination : IsOther header.remote_kind
    pub reply : IsOther header.local_kind
    pub body : AllZip TakesAlong (body_words written) (body_rights m.body)

-- What covers these ports, with the sets that they were in, covers all that changes.
out_touches : (among : ℕ → Type 0) (s t : State) → MovesOut among s t → (touched : Touched) → ((q : ℕ) → among q → Covers touched (Port q)) → ((q set : ℕ) → among q → Contains (s.sets_of q) set → Covers touched (Set set)) → TouchesOnly s t touched
out_touches among s t k touched covers left = record {
  ports = λ q not.
      let other : among q → ⊥ = λ in_it. not (covers q in_it) in
      let differs : (p : ℕ) → among p → (p == q) ≡ false = λ p in_it. ne_eqb p q (λ e. other (subst among e in_it)) in
      record {
        live = k.live q other;
        waiting = same_queue q;
        limit = k.limit q;
        sets = k.sets q other;
        with_task = λ task. k.receives (is_held task receive q) (held_is task q) (λ p in_it place. none_and (p == q) (is_in_task task place) (differs p in_it));
        in_queue = λ o j. k.receives (λ x. is_of receive q x && same_place (in_message o j) x.place) (lying_is q o j) (λ p in_it place. none_and (p == q) (same_place (in_message o j) place) (differs p in_it));
      };
  sets = λ set there not. record {
    owner = k.owner set;
    members = λ q. (
      k.fewer q set,
      (λ x. elim (k.stays q set x) [
        | inl y ↦ y
        | inr in_it ↦ absurd (not (left q set in_it x))
      ]),
    );
    waiting = λ q in_it. same_queue q;
  };
}
  where
    same_queue : (q : ℕ) → queue t q ≡ queue s q
    same_queue q = let a = k.log q in let b = k.taken q in rw (a, b) refl

module _ (among : ℕ → Type 0) (now task : ℕ) (bytes : List ℕ) (old mid : State) (s : Sends now task bytes old mid) (along : SendsAlong among s.header s.written s.m) where
  copied_out : MovesOut among old s.copied_state
  copied_out =
      let c = s.copied in
      let place = place_at old s.m.destination in
      out_trans among old c.second s.copied_state
      (out_kept among old c.second (keeps_trans old c.first c.second (copy_keeps task place s.header.remote_kind s.header.remote old (to_port s.m.destination) c.first along.destination c.destination) (reply_keeps task place s.header.local_kind s.header.local c.first s.m.reply c.second along.reply c.reply)))
      (words_out among task place c.second (body_words s.written) (body_rights s.m.body) s.copied_state along.body c.body.1)

  queued : Changes s.copied_state mid (Some s.m.destination) None
  queued = record {
    live = λ q. ap (λ (x : State). x.live_port q) s.rest;
    waiting = λ q not.
        let a = ap (λ (x : State). x.taken q) s.rest in
        let b = ap (λ (x : State). x.log q) s.rest ∙ at_other s.copied_state.log s.m.destination (s.copied_state.log s.m.destination ++ entry now s.m ∷ []) q (λ e. not (ap Some (sym e))) in
        rw (a, b) refl;
    limit = λ q not. ap (λ (x : State). x.limit q) s.rest;
    sets = λ q. ap (λ (x : State). x.sets_of q) s.rest;
    owner = λ set there. ap (λ (x : State). x.set_owner set) s.rest;
    receives = λ test is. ap (λ (x : State). count test x.ledger) s.rest;
  }

  none_limited : (q : ℕ) → None ≡ Some q → ⊥
  none_limited q e = cc

  own_port : (q : ℕ) → Some s.m.destination ≡ Some q → s.m.destination ≡ q
  own_port q e = cc

  -- What covers the destination with its sets, and the ports whose rights go along with those that they were in, covers all that changes.
  pub along_touches : (t : State) → Keeps mid t → (touched : Touched) → Covers touched (Port s.m.destination) → ((set : ℕ) → Contains (mid.sets_of s.m.destination) set → Covers touched (Set set)) → ((q : ℕ) → among q → Covers touched (Port q)) →
      ((q set : ℕ) → among q → Contains (old.sets_of q) set → Covers touched (Set set)) → TouchesOnly old t touched
  along_touches t k touched to to_set covers left =
      touches_both old s.copied_state t touched
      (out_touches among old s.copied_state copied_out touched covers left)
      (touches s.copied_state t (Some s.m.destination) None touched (changes_end s.copied_state mid t (Some s.m.destination) None queued k)
      (λ q e. subst (λ (x : ℕ). Covers touched (Port x)) (own_port q e) to)
      (λ q e. absurd (none_limited q e))
      (λ q set e in_it. to_set set (subst (λ (xs : List ℕ). Contains xs set) (sym (queued.sets s.m.destination)) (subst (λ (x : ℕ). Contains (s.copied_state.sets_of x) set) (sym (own_port q e)) in_it))))

-- what the bytes send is one message
pub sends_one : (now task : ℕ) (bytes : List ℕ) (old mid other : State) → (a : Sends now task bytes old mid) → (b : Sends now task bytes old other) → b.m ≡ a.m
sends_one now task bytes old mid other a b =
    let same = one_text bytes a.header b.header a.written b.written a.spells b.spells in
    let c : Copied task a.header a.written old b.m b.copied_state =
    subst (λ (h : Header). Copied task h a.written old b.m b.copied_state) (sym same.0) (subst (λ (v : WireBody). Copied task b.header v old b.m b.copied_state) (sym same.1) b.copied) in
    (copied_alike task a.header a.written old a.m b.m a.copied_state b.copied_state a.copied c).0
