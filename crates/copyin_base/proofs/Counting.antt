-- The counts of rights after some were made or went.
use Rattle.std.proofs.Common.{◌≡◌, ℕ, zero, suc, ◌+◌, ◌<◌, List, ◌∷◌, Option, Some, refl, sym, ap, ◌∙◌, arith, Bool, true, inr}
use Rattle.std.specs.Prelude.{is_some, if◌then◌else◌, ◌==◌}
use Rattle.std.specs.Option.{unwrap_or}
use Rattle.std.specs.FinMap as map
use Rattle.std.proofs.lemmas.Bool.{eq-eqb, ne_eqb}
use Rattle.mach_types.specs.Tokens.{Kind, receive, send, send_once, Place, Token, token, weigh, count, is_of, same_kind}
use Rattle.mach_model.proofs.Names.{both_test}
use Rattle.rights.specs.declared.Counts.{Counts}
use Rattle.rights.specs.declared.RightKind.{RightKind}
use Rattle.rights.specs.declared.RightKind.TheVariants as right
use Rattle.rights.specs.Counts.{no_rights, with_more, with_fewer, one_shifted}
use Rattle.rights.specs.Ledger.{LedgerView, counts_of, made, taken, shifted}
use Rattle.copyin_base.specs.Shows.{CountsAgree}
use Rattle.copyin_base.proofs.Putting.{each_put}

-- ---- tests of one token

pub one_of : (kind : Kind) (p : ℕ) (place : Place) → same_kind kind kind ≡ true → (if is_of kind p (token kind p place) then suc zero else zero) ≡ suc zero
one_of kind p place e = rw (e, eq-eqb p p refl) refl

pub none_of_port : (kind c : Kind) (p q : ℕ) (place : Place) → (q ≡ p → ⊥) → (if is_of c q (token kind p place) then suc zero else zero) ≡ zero
none_of_port kind c p q place not = both_test (same_kind c kind) (p == q) (inr (ne_eqb p q (λ e. not (sym e))))

-- the counts of a right of this kind
abbrev pub right_of : Kind → RightKind
right_of receive = right.Receive
right_of send = right.Send
right_of send_once = right.SendOnce

-- ---- one port's counts

module _ (l : LedgerView) (live : ℕ → Bool) (tokens : List Token) (queued : ℕ → ℕ) (a : (q : ℕ) → CountsAgree l live tokens queued q) where
  -- They are these now.
  pub counts_agree : (l2 : LedgerView) (live2 : ℕ → Bool) (tokens2 : List Token) (queued2 : ℕ → ℕ) (p : ℕ) (v : Counts) → l2.counts ≡ map.insert l.counts p v → true ≡ live2 p →
      v.receive ≡ count (is_of receive p) tokens2 → v.send ≡ count (is_of send p) tokens2 → v.send_once + v.destination ≡ count (is_of send_once p) tokens2 → v.destination ≡ queued2 p →
      ((q : ℕ) → (q ≡ p → ⊥) → (live q ≡ live2 q) × (queued q ≡ queued2 q) × ((c : Kind) → count (is_of c q) tokens ≡ count (is_of c q) tokens2)) →
      (q : ℕ) → CountsAgree l2 live2 tokens2 queued2 q
  counts_agree l2 live2 tokens2 queued2 p v is lives receives sends onces destinations others q =
      let each = each_put l.counts p (Some v) (λ q o. (is_some o ≡ live2 q) × ((unwrap_or o no_rights).receive ≡ count (is_of receive q) tokens2)
      × ((unwrap_or o no_rights).send ≡ count (is_of send q) tokens2) × ((unwrap_or o no_rights).send_once + (unwrap_or o no_rights).destination ≡ count (is_of send_once q) tokens2)
      × (live2 q ≡ true → (unwrap_or o no_rights).destination ≡ queued2 q))
      (lives, receives, sends, onces, λ _. destinations)
      (λ q not. let x = a q in let o = others q not in (x.entered ∙ o.0, x.receivers ∙ o.2 receive, x.senders ∙ o.2 send, x.once_rights ∙ o.2 send_once, λ e. x.destinations (o.0 ∙ e) ∙ o.1)) q in
      let at = ap (λ m. map.get m q) is in
      record {
        entered = ap is_some at ∙ each.0;
        receivers = ap (λ (o : Option Counts). (unwrap_or o no_rights).receive) at ∙ each.1;
        senders = ap (λ (o : Option Counts). (unwrap_or o no_rights).send) at ∙ each.2;
        once_rights = ap (λ (o : Option Counts). (unwrap_or o no_rights).send_once + (unwrap_or o no_rights).destination) at ∙ each.3;
        destinations = λ e. ap (λ (o : Option Counts). (unwrap_or o no_rights).destination) at ∙ each.4 e;
      }

  -- A right of one kind was made, or one went.
  module _ (kind : Kind) (p : ℕ) (place : Place) (lives : live p ≡ true) where
    pub right_made : (q : ℕ) → CountsAgree (made l p (right_of kind) 1) live (token kind p place ∷ tokens) queued q
    right_made = counts_agree (made l p (right_of kind) 1) live (token kind p place ∷ tokens) queued p (with_more (right_of kind) 1 (counts_of l p)) refl (sym lives)
        (receives kind) (sends kind) (onces kind) (destinations kind) (λ q not. (refl, refl, λ c. let z = none_of_port kind c p q place not in omega (arith, z)))
      where
        receives : (k : Kind) → (with_more (right_of k) 1 (counts_of l p)).receive ≡ count (is_of receive p) (token k p place ∷ tokens)
        receives receive = let x = (a p).receivers in let o = one_of receive p place refl in omega (arith, x, o)
        receives send = let x = (a p).receivers in omega (arith, x)
        receives send_once = let x = (a p).receivers in omega (arith, x)

        sends : (k : Kind) → (with_more (right_of k) 1 (counts_of l p)).send ≡ count (is_of send p) (token k p place ∷ tokens)
        sends receive = let x = (a p).senders in omega (arith, x)
        sends send = let x = (a p).senders in let o = one_of send p place refl in omega (arith, x, o)
        sends send_once = let x = (a p).senders in omega (arith, x)

        onces : (k : Kind) → (with_more (right_of k) 1 (counts_of l p)).send_once + (with_more (right_of k) 1 (counts_of l p)).destination ≡ count (is_of send_once p) (token k p place ∷ tokens)
        onces receive = let x = (a p).once_rights in omega (arith, x)
        onces send = let x = (a p).once_rights in omega (arith, x)
        onces send_once = let x = (a p).once_rights in let o = one_of send_once p place refl in omega (arith, x, o)

        destinations : (k : Kind) → (with_more (right_of k) 1 (counts_of l p)).destination ≡ queued p
        destinations receive = (a p).destinations lives
        destinations send = (a p).destinations lives
        destinations send_once = (a p).destinations lives

    pub right_taken : (kind ≡ send_once → ⊥) → (others : List Token) → ((h : Token → ℕ) → weigh h others + h (token kind p place) ≡ weigh h tokens) →
        (q : ℕ) → CountsAgree (taken l p (right_of kind) 1) live others queued q
    right_taken not_once others parts = counts_agree (taken l p (right_of kind) 1) live others queued p (with_fewer (right_of kind) 1 (counts_of l p)) refl (sym lives)
        (receives kind (parts (λ x. if is_of receive p x then 1 else 0))) (sends kind (parts (λ x. if is_of send p x then 1 else 0)))
        (onces kind not_once (parts (λ x. if is_of send_once p x then 1 else 0))) (destinations kind)
        (λ q not. (refl, refl, λ c. let m = parts (λ x. if is_of c q x then 1 else 0) in let z = none_of_port kind c p q place not in omega (arith, m, z)))
      where
        receives : (k : Kind) → count (is_of receive p) others + (if is_of receive p (token k p place) then suc zero else zero) ≡ count (is_of receive p) tokens →
            (with_fewer (right_of k) 1 (counts_of l p)).receive ≡ count (is_of receive p) others
        receives receive m = let x = (a p).receivers in let o = one_of receive p place refl in omega (arith, x, m, o)
        receives send m = let x = (a p).receivers in omega (arith, x, m)
        receives send_once m = let x = (a p).receivers in omega (arith, x, m)

        sends : (k : Kind) → count (is_of send p) others + (if is_of send p (token k p place) then suc zero else zero) ≡ count (is_of send p) tokens →
            (with_fewer (right_of k) 1 (counts_of l p)).send ≡ count (is_of send p) others
        sends receive m = let x = (a p).senders in omega (arith, x, m)
        sends send m = let x = (a p).senders in let o = one_of send p place refl in omega (arith, x, m, o)
        sends send_once m = let x = (a p).senders in omega (arith, x, m)

        onces : (k : Kind) → (k ≡ send_once → ⊥) → count (is_of send_once p) others + (if is_of send_once p (token k p place) then suc zero else zero) ≡ count (is_of send_once p) tokens →
            (with_fewer (right_of k) 1 (counts_of l p)).send_once + (with_fewer (right_of k) 1 (counts_of l p)).destination ≡ count (is_of send_once p) others
        onces receive not m = let x = (a p).once_rights in omega (arith, x, m)
        onces send not m = let x = (a p).once_rights in omega (arith, x, m)
        onces send_once not m = absurd (not refl)

        destinations : (k : Kind) → (with_fewer (right_of k) 1 (counts_of l p)).destination ≡ queued p
        destinations receive = (a p).destinations lives
        destinations send = (a p).destinations lives
        destinations send_once = (a p).destinations lives

  -- A message that goes by a send-once right was queued, or the front one was taken.
  module _ (queued2 : ℕ → ℕ) (p : ℕ) (lives : live p ≡ true) (elsewhere : (q : ℕ) → (q ≡ p → ⊥) → queued q ≡ queued2 q) where
    pub once_queued : 0 < (counts_of l p).send_once → queued2 p ≡ queued p + 1 → (q : ℕ) → CountsAgree (shifted l p) live tokens queued2 q
    once_queued some more = counts_agree (shifted l p) live tokens queued2 p (one_shifted (counts_of l p)) refl (sym lives) (a p).receivers (a p).senders
        (let x = (a p).once_rights in omega (arith, x, some)) (let x = (a p).destinations lives in omega (arith, x, more)) (λ q not. (refl, elsewhere q not, λ c. refl))

    pub once_taken : (place : Place) (others : List Token) → ((h : Token → ℕ) → weigh h others + h (token send_once p place) ≡ weigh h tokens) → queued2 p + 1 ≡ queued p →
        (q : ℕ) → CountsAgree (taken l p right.Destination 1) live others queued2 q
    once_taken place others parts fewer = counts_agree (taken l p right.Destination 1) live others queued2 p (with_fewer right.Destination 1 (counts_of l p)) refl (sym lives)
        (let x = (a p).receivers in let m = parts (λ x. if is_of receive p x then 1 else 0) in omega (arith, x, m))
        (let x = (a p).senders in let m = parts (λ x. if is_of send p x then 1 else 0) in omega (arith, x, m))
        (let x = (a p).once_rights in let d = (a p).destinations lives in let m = parts (λ x. if is_of send_once p x then 1 else 0) in let o = one_of send_once p place refl in omega (arith, x, d, m, o, fewer))
        (let d = (a p).destinations lives in omega (arith, d, fewer))
        (λ q not. (refl, elsewhere q not, λ c. let m = parts (λ x. if is_of c q x then 1 else 0) in let z = none_of_port send_once c p q place not in omega (arith, m, z)))

  -- There are as many rights as before.
  pub counts_same : (tokens2 : List Token) → ((c : Kind) (q : ℕ) → count (is_of c q) tokens2 ≡ count (is_of c q) tokens) → (q : ℕ) → CountsAgree l live tokens2 queued q
  counts_same tokens2 same q = let x = a q in record {
    entered = x.entered;
    receivers = x.receivers ∙ sym (same receive q);
    senders = x.senders ∙ sym (same send q);
    once_rights = x.once_rights ∙ sym (same send_once q);
    destinations = x.destinations;
  }

  -- As many queued messages go by send-once rights as before.
  pub queues_same : (queued2 : ℕ → ℕ) → ((q : ℕ) → queued q ≡ queued2 q) → (q : ℕ) → CountsAgree l live tokens queued2 q
  queues_same queued2 same q = let x = a q in record { entered = x.entered; receivers = x.receivers; senders = x.senders; once_rights = x.once_rights; destinations = λ e. x.destinations e ∙ same q }
