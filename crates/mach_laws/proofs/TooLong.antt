-- What changes for those that wait where a message is destroyed that carries no receive right: the queue of its port. Its send-once right tells its port.
use Rattle.std.proofs.Common.{◌≡◌, ℕ, suc, zero, ◌+◌, ◌≤◌, List, [], ◌∷◌, Some, None, inl, inr, refl, sym, ap, subst, ◌∙◌, arith, true, false, Bool, All, drop}
use Rattle.std.specs.Prelude.{◌≢◌, ◌==◌, ◌&&◌, if◌then◌else◌, slice_get, filter, map as list_map}
use Rattle.std.proofs.lemmas.Bool.Decides.{eqb_tells}
use Rattle.std.proofs.lemmas.List.Elements.{All-nil, All-head, All-tail}
use Rattle.mach_types.specs.Tokens.{Kind, receive, send_once, Place, in_message, Token, token, count, same_kind, is_of}
use Rattle.mach_types.specs.Messages.{Entry, to_port}
use Rattle.mach_types.specs.Bodies.{message_rights}
use Rattle.mach_model.specs.State.{State}
use Rattle.mach_model.specs.Carried.{lying, message_count, rights_count, mark_count}
use Rattle.mach_model.specs.Death.{same_place}
use Rattle.mach_model.specs.Lawful.{IsLawful}
use Rattle.mach_model.specs.Notices.{Owed, right_unused}
use Rattle.mach_model.specs.Receive.{DestroysFront}
use Rattle.mach_model.specs.References.{unused_among}
use Rattle.mach_model.proofs.MessagesLawful.{same_kinds}
use Rattle.mach_model.proofs.Names.{lying_le_of}
use Rattle.mach_laws.proofs.Touching.{Changes, changes_end, keeps_by, moves_keep, taken_changes, IsNoReceive}
use Rattle.mach_laws.proofs.EndingTask.{IsOther, none_among, none_unused, own_passes}
use Rattle.mach_laws.proofs.Requesting.{OwesNone}

token_is : (x : Token) (kind : Kind) (p : ℕ) → x.kind ≡ kind → x.port ≡ p → x ≡ token kind p x.place
token_is x kind p same for = rw (sym same, sym for) refl

-- those at one place that are send-once rights for one port alone, of which there is one at most
one_unused : (place : Place) (q : ℕ) (xs : List Token) → All (λ x. same_place place x.place ≡ true) xs → ((p : ℕ) → p ≢ q → count (λ x. is_of send_once p x && same_place place x.place) xs ≡ 0) →
    count (λ x. is_of send_once q x && same_place place x.place) xs ≤ 1 → OwesNone q (unused_among xs)
one_unused place q [] there others most = inl refl
one_unused place q (x ∷ xs) there others most =
    go (same_kind send_once x.kind) refl (one_unused place q xs (All-tail (λ (y : Token). same_place place y.place ≡ true) x xs there) (λ p other. let n = others p other in omega (arith, n)) (omega (arith, most)))
  where
    test : ℕ → Token → Bool
    test p y = is_of send_once p y && same_place place y.place

    here : same_place place x.place ≡ true
    here = All-head (λ (y : Token). same_place place y.place ≡ true) x xs there

    behind : All (λ y. same_place place y.place ≡ true) xs
    behind = All-tail (λ (y : Token). same_place place y.place ≡ true) x xs there

    counted : same_kind send_once x.kind ≡ true → ◌≡◌ {A = ℕ} (if test x.port x then 1 else 0) 1
    counted is = let e = own_passes (same_kind send_once x.kind) (same_place place x.place) x.port is here in rw e refl

    for_it : same_kind send_once x.kind ≡ true → x.port ≡ q
    for_it is = elim (eqb_tells x.port q) [
      | inl h ↦ h.1
      | inr h ↦ absurd (let none = others x.port h.1 in let one = counted is in omega (arith, none, one))
    ]

    go : (b : Bool) → same_kind send_once x.kind ≡ b → OwesNone q (unused_among xs) → OwesNone q (unused_among (x ∷ xs))
    go false is rest =
        subst (λ (b : Bool). OwesNone q (list_map (λ (y : Token). (y, right_unused)) (if b then x ∷ filter (λ (y : Token). same_kind send_once y.kind) xs else filter (λ (y : Token). same_kind send_once y.kind) xs))) (sym is) rest
    go true is rest =
        let one = counted is in
        let for = for_it is in
        let own : count (test q) (x ∷ xs) ≡ 1 + count (test q) xs = subst (λ (n : ℕ). count (test n) (x ∷ xs) ≡ 1 + count (test n) xs) for (omega (arith, one)) in
        let none = none_unused xs (none_among send_once (λ y. same_place place y.place) test (λ y same at. own_passes (same_kind send_once y.kind) (same_place place y.place) y.port same at) xs behind (λ p. elim (eqb_tells p q) [
          | inl h ↦ (let e = h.1 in rw e (omega (arith, own, most)))
          | inr h ↦ (let n = others p h.1 in omega (arith, n))
        ])) in
        inr (record {
          place = x.place;
          notice = right_unused;
          bare = λ at. refl;
          is = (let same = token_is x send_once q (same_kinds send_once x.kind is) for in rw (is, none) (ap (λ (y : Token). (y, right_unused) ∷ []) same));
        })

-- The message carries no right of this kind beside that by which it came.
abbrev pub CarriesNone : Kind → Entry → Type 0
CarriesNone kind e = (q : ℕ) → rights_count kind q (message_rights e.message) ≡ 0

pub first_left : {A : Type 0} (xs : List A) (n : ℕ) (x : A) → slice_get xs n ≡ Some x → slice_get (drop n xs) 0 ≡ Some x
first_left [] n x is = absurd (let e = is in cc)
first_left (y ∷ ys) zero x is = is
first_left (y ∷ ys) (suc n) x is = first_left ys n x is

module _ (port : ℕ) (e : Entry) (old mid : State) (owed : Owed) (l : IsLawful old) (lives : old.live_port port ≡ true) (d : DestroysFront port e old mid owed) where
  abbrev front : Place
  front = in_message port (old.taken port)

  abbrev is_there : Token → Bool
  is_there x = same_place front x.place

  abbrev test : Kind → ℕ → Token → Bool
  test kind q x = is_of kind q x && same_place front x.place

  own_place : same_place front front ≡ true
  own_place = grind arith

  carried : (kind : Kind) (q : ℕ) → old.live_port q ≡ true → lying old kind q front ≡ message_count kind q e.message
  carried kind q there =
      let a = l.carried port 0 e lives (first_left (old.log port) (old.taken port) e d.takes.front) kind q there in
      let same : old.taken port + 0 ≡ old.taken port = omega arith in
      subst (λ (n : ℕ). lying old kind q (in_message port n) ≡ message_count kind q e.message) same a

  -- the right by which it came is no more there
  left : (kind : Kind) (q : ℕ) → count (test kind q) d.taken.ledger ≤ rights_count kind q (message_rights e.message)
  left kind q = go (old.live_port q) refl
    where
      moved : count (test kind q) old.ledger ≡ count (test kind q) d.taken.ledger + (if test kind q (token e.message.kind port front) then 1 else 0)
      moved = let m = d.takes.tokens (λ x. if test kind q x then 1 else 0) in omega (arith, m)

      came : mark_count kind q e.message.kind (to_port e.message.destination) ≡ (if test kind q (token e.message.kind port front) then 1 else 0)
      came =
          let here = (l.sent_here port (old.taken port) e d.takes.front).0 in
          let own = own_place in
          by (same_kind kind e.message.kind) (e.message.destination) port here (same_place front front) own
        where
          by : (a : Bool) (x y : ℕ) → x ≡ y → (b : Bool) → b ≡ true → ◌≡◌ {A = ℕ} (if a && x == q then 1 else 0) (if (a && y == q) && b then 1 else 0)
          by a x y same b is = rw (same, is) (grind arith)

      go : (b : Bool) → old.live_port q ≡ b → count (test kind q) d.taken.ledger ≤ rights_count kind q (message_rights e.message)
      go true there = let a = carried kind q there in omega (arith, a, moved, came)
      go false gone = let a = l.no_rights q gone kind in let b = lying_le_of old kind q front in omega (arith, a, b, moved)

  none_gone : (kind : Kind) → CarriesNone kind e → All (IsOther kind) d.loses.gone
  none_gone kind none =
      none_among kind is_there (test kind) (λ x same own. own_passes (same_kind kind x.kind) (same_place front x.place) x.port same own) d.loses.gone d.loses.passed
      (λ q.
      let m = d.loses.moves (λ x. if test kind q x then 1 else 0) in
      let n = none q in
      let f = left kind q in
      omega (arith, m, n, f))

  pub destroyed_changes : CarriesNone receive e → Changes old mid (Some port) None
  destroyed_changes none =
      changes_end old d.taken mid (Some port) None (taken_changes port e old d.taken l d.takes)
      (keeps_by d.taken mid _ d.rest (λ p. refl) (λ p. refl) (λ p. refl) (λ p. refl) (λ p. refl) (λ set. refl)
      (moves_keep d.taken.ledger mid.ledger d.loses.gone [] d.loses.moves (none_gone receive none) (All-nil IsNoReceive)))

  pub destroyed_owing_none : CarriesNone send_once e → owed ≡ []
  destroyed_owing_none none = d.owed_are ∙ none_unused d.loses.gone (none_gone send_once none)

  -- the send-once rights that it carries are one at most, for this port
  pub destroyed_owing_one : (q : ℕ) → ((p : ℕ) → p ≢ q → rights_count send_once p (message_rights e.message) ≡ 0) → rights_count send_once q (message_rights e.message) ≤ 1 → OwesNone q owed
  destroyed_owing_one q none most =
      subst (OwesNone q) (sym d.owed_are)
      (one_unused front q d.loses.gone d.loses.passed
      (λ p other.
      let m = d.loses.moves (λ x. if test send_once p x then 1 else 0) in
      let n = none p other in
      let f = left send_once p in
      omega (arith, m, n, f))
      (let m = d.loses.moves (λ x. if test send_once q x then 1 else 0) in
      let f = left send_once q in
      omega (arith, m, most, f)))
