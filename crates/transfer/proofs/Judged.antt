-- What is judged in what is left is what the machine judges when the right is with the task.
use Rattle.std.proofs.Common.{◌≡◌, ◌≢◌, ℕ, zero, suc, ◌+◌, ◌<◌, ◌≤◌, List, [], ◌∷◌, Option, Some, None, refl, sym, ap, subst, ◌∙◌, arith, true, false, Bool, ◌⊎◌, inl, inr, length}
use Rattle.std.specs.Prelude.{if◌then◌else◌, ◌==◌, ◌&&◌, is_some, not}
use Rattle.std.specs.Option.{option_map}
use Rattle.std.specs.FinMap as map
use Rattle.std.proofs.lemmas.Bool.Decides.{eqb_tells}
use Rattle.std.proofs.lemmas.Bool.{eq-eqb}
use Rattle.mach_types.specs.declared.rights.Disposition.{Disposition}
use Rattle.mach_types.specs.declared.rights.Disposition.TheVariants.{MoveReceive, MoveSend, MoveSendOnce, CopySend, MakeSend, MakeSendOnce}
use Rattle.mach_types.specs.declared.codes.KernReturn.TheVariants.{NoSpace}
use Rattle.mach_types.specs.Numbers.{kind_sent, most_names, most_references, most_rights}
use Rattle.mach_types.specs.Codes.{kern_number}
use Rattle.mach_types.specs.Tokens.{Kind, receive, send, send_once, Place, in_task, in_message, Token, token, weigh, is_held, same_kind}
use Rattle.mach_types.specs.Messages.{to_port}
use Rattle.mach_types.specs.Guards.{FirstIs, NoneHolds}
use Rattle.mach_model.specs.State.{State, Target, lookup, held}
use Rattle.mach_model.specs.SentMeans.{target_mark}
use Rattle.mach_model.specs.CopyIn.{put_by, CopyRight}
use Rattle.mach_model.specs.Room.{NeedsName, HasNoRoom}
use Rattle.mach_model.specs.TransferRefusals.{extracted_guards, inserted_guards}
use Rattle.mach_model.specs.Carried.{lying, mark_count}
use Rattle.mach_model.proofs.Names.{length-weigh, lying_le_of}
use Rattle.mach_model.proofs.Settling.{kind_refl}
use Rattle.mach_model.proofs.Copying.{not_held}
use Rattle.name_space.specs.declared.Entry.{Entry}
use Rattle.name_space.specs.Entry.{port_named, send_references}
use Rattle.copyin_base.specs.Worlds.{WorldView}
use Rattle.copyin_base.specs.Shows.{target_of}
use Rattle.copyin_base.proofs.Changing.{target_named}
use Rattle.copyin_base.proofs.Told.{port_of}
use Rattle.transfer.specs.declared.judge.Going.{Going}
use Rattle.transfer.specs.Transfer.{left_at, names_left, rights_then, port_under, references_under, IsElsewhere, IsTaken, Overflows, LacksSpace, under_guards, insert_later, extract_later}
use Rattle.transfer.proofs.Left.{Left}

-- ---- the right that is put

put_is : (given : Disposition) (target : Target) (p : ℕ) → target_mark given target ≡ Some (to_port p) → (place : Place) → put_by given target place ≡ token (kind_sent given) p place ∷ []
put_is given (Target.port q) p e place = ap (λ (x : ℕ). token (kind_sent given) x place ∷ []) (same_port q p e)
  where
    same_port : (a b : ℕ) → Some (to_port a) ≡ Some (to_port b) → a ≡ b
    same_port a b e = cc
put_is given (Target.once q) p e place = ap (λ (x : ℕ). token (kind_sent given) x place ∷ []) (same_port q p e)
  where
    same_port : (a b : ℕ) → Some (to_port a) ≡ Some (to_port b) → a ≡ b
    same_port a b e = cc
put_is MoveReceive (Target.dead n) p e place = absurd (cc)
put_is MoveSend (Target.dead n) p e place = absurd (cc)
put_is MoveSendOnce (Target.dead n) p e place = absurd (cc)
put_is CopySend (Target.dead n) p e place = absurd (cc)
put_is MakeSend (Target.dead n) p e place = absurd (cc)
put_is MakeSendOnce (Target.dead n) p e place = absurd (cc)
put_is MoveReceive (Target.set s) p e place = absurd (cc)
put_is MoveSend (Target.set s) p e place = absurd (cc)
put_is MoveSendOnce (Target.set s) p e place = absurd (cc)
put_is CopySend (Target.set s) p e place = absurd (cc)
put_is MakeSend (Target.set s) p e place = absurd (cc)
put_is MakeSendOnce (Target.set s) p e place = absurd (cc)

-- ---- what stands under a name

under_to : (o : Option Entry) (p : ℕ) → port_under o ≡ Some p → option_map target_of o ≡ Some (Target.port p)
under_to None p e = absurd (let f : None ≡ Some p = e in cc)
under_to (Some x) p e = ap (λ (t : Target). Some t) (target_named x p e)

under_from : (o : Option Entry) (p : ℕ) → option_map target_of o ≡ Some (Target.port p) → port_under o ≡ Some p
under_from None p e = absurd (cc)
under_from (Some x) p e = port_of x p (the_target (target_of x) e)
  where
    the_target : (t : Target) → Some t ≡ Some (Target.port p) → t ≡ Target.port p
    the_target t f = cc

none_to : (o : Option Entry) → o ≡ None → option_map target_of o ≡ None
none_to o e = ap (option_map target_of) e

none_from : (o : Option Entry) → option_map target_of o ≡ None → o ≡ None
none_from None e = refl
none_from (Some x) e = absurd (let f : Some (target_of x) ≡ None = e in cc)

pub not_not : (o : Option ℕ) (p : ℕ) → ¬ (o ≢ Some p) → o ≡ Some p
not_not None p not = absurd (not (λ e. let f : None ≡ Some p = e in cc))
not_not (Some q) p not = elim (eqb_tells q p) [
  | inl h ↦ ap (λ (x : ℕ). Some x) h.1
  | inr h ↦ absurd (not (λ e. h.1 (let f : Some q ≡ Some p = e in cc)))
]

there : (o : Option Entry) (p : ℕ) → port_under o ≡ Some p → (e : Entry) × (o ≡ Some e) × (port_named e ≡ Some p) × (references_under o ≡ send_references e)
there None p is = absurd (let f : None ≡ Some p = is in cc)
there (Some e) p is = (e, refl, is, refl)

module _ (w : WorldView) (s : State) (task number : ℕ) (g : Going) (mid : WorldView) (l : Left w s task number g mid) where
  abbrev k : ℕ
  k = length (s.log 0)

  abbrev p : ℕ
  p = g.port

  abbrev kind : Kind
  kind = kind_sent g.given

  abbrev at : ℕ → Option Entry
  at n = left_at w task g n

  pub looks : (n : ℕ) → lookup l.t task n ≡ option_map target_of (at n)
  looks n = l.agrees.naming task n ∙ ap (option_map target_of) (l.left n)

  pub names_are : map.len (l.t.naming task) ≡ names_left w task g
  names_are = sym (l.agrees.names_kept task l.space l.there) ∙ l.names

  -- the right lies at the entry
  pub lies : 0 < lying l.t kind p (in_message 0 k)
  lies =
      let a = l.copies.lies kind p in
      let b : mark_count kind p kind (to_port p) ≡ suc zero = rw (kind_refl kind, eq-eqb p p refl) refl in omega (arith, a, b)

  -- ... and its port lives
  pub lives : l.t.live_port p ≡ true
  lives = go (l.t.live_port p) refl
    where
      go : (b : Bool) → l.t.live_port p ≡ b → l.t.live_port p ≡ true
      go true e = e
      go false e = absurd (let n = l.copies.keeps.no_rights p e kind in let le = lying_le_of l.t kind p (in_message 0 k) in let h = lies in omega (arith, n, le, h))

  module _ (others : List Token) (parts : (h : Token → ℕ) → weigh h others + h (token kind p (in_message 0 k)) ≡ weigh h l.t.ledger) where
    -- the machine has it with the task
    abbrev copied : State
    copied = record l.t { ledger = token kind p (in_task task) ∷ others }

    pub copied_in : CopyRight g.from (in_task task) number g.name s (to_port p) copied
    copied_in = record {
      given = l.copy.given;
      is_given = l.copy.is_given;
      target = l.copy.target;
      found = l.copy.found;
      legal = l.copy.legal;
      mark_is = l.copy.mark_is;
      rest = ap (λ (x : State). record x { ledger = copied.ledger }) l.copy.rest;
      tokens = λ h.
          let a = l.copy.tokens h in
          let b = parts h in
          let c = ap (weigh h) (put_is l.copy.given l.copy.target p l.copy.mark_is (in_message 0 k)) in
          let d = ap (weigh h) (put_is l.copy.given l.copy.target p l.copy.mark_is (in_task task)) in
          let e : h (token (kind_sent l.copy.given) p (in_message 0 k)) ≡ h (token kind p (in_message 0 k)) = ap (λ (x : Disposition). h (token (kind_sent x) p (in_message 0 k))) l.given_is in
          let f : h (token (kind_sent l.copy.given) p (in_task task)) ≡ h (token kind p (in_task task)) = ap (λ (x : Disposition). h (token (kind_sent x) p (in_task task))) l.given_is in
          omega (arith, a, b, c, d, e, f);
    }

    pub rights_are : length copied.ledger ≡ rights_then w g
    rights_are =
        let a = parts (λ x. 1) in
        let b : mid.ledger.total ≡ length l.t.ledger = l.agrees.total in
        let c = l.rights in omega (arith, a, b, c, length-weigh others, length-weigh l.t.ledger)

    -- how many send references the task has then
    pub sends_are : (c : Kind) → c ≡ kind → held copied task send p ≡ held l.t task send p + (if same_kind send c then suc zero else zero)
    sends_are c is =
        let a = parts (λ x. if is_held task send p x then 1 else 0) in
        let b = not_held send p 0 k kind p task in
        let d : (if is_held task send p (token kind p (in_task task)) then suc zero else zero) ≡ (if same_kind send c then suc zero else zero) =
        subst (λ (x : Kind). (if is_held task send p (token x p (in_task task)) then suc zero else zero) ≡ (if same_kind send c then suc zero else zero)) is (own (same_kind send c)) in
        omega (arith, a, b, d)
      where
        own : (b : Bool) → (if (b && p == p) && task == task then suc zero else zero) ≡ (if b then suc zero else zero)
        own true = rw (eq-eqb p p refl, eq-eqb task task refl) refl
        own false = refl

    pub few : held l.t task send p ≤ most_references
    few = (l.copies.keeps.naming task).few_references p

    -- ---- a right under a name

    module _ (name : ℕ) where
      abbrev First : Type 0
      First = (kind ≢ send_once) × ((n : ℕ) × (n ≢ name) × (lookup copied task n ≡ Some (Target.port p)))

      abbrev Second : Type 0
      Second = (lookup copied task name ≢ None) × ((kind ≡ send_once) ⊎ (lookup copied task name ≢ Some (Target.port p)))

      abbrev Third : Type 0
      Third = most_references < held copied task send p

      abbrev Fourth : Type 0
      Fourth = HasNoRoom copied task × (lookup copied task name ≡ None) ⊎ (most_rights < length copied.ledger)

      first_to : IsElsewhere at name p kind → First
      first_to h = (h.0, (h.1.0, h.1.1, looks h.1.0 ∙ under_to (at h.1.0) p h.1.2))

      first_from : First → IsElsewhere at name p kind
      first_from h = (h.0, (h.1.0, h.1.1, under_from (at h.1.0) p (sym (looks h.1.0) ∙ h.1.2)))

      second_to : IsTaken (at name) p kind → Second
      second_to h = (
        (λ e. h.0 (none_from (at name) (sym (looks name) ∙ e))),
        elim h.1 [
          | inl x ↦ inl x
          | inr x ↦ inr (λ e. x (under_from (at name) p (sym (looks name) ∙ e)))
        ],
      )

      second_from : Second → IsTaken (at name) p kind
      second_from h = (
        (λ e. h.0 (looks name ∙ none_to (at name) e)),
        elim h.1 [
          | inl x ↦ inl x
          | inr x ↦ inr (λ e. x (looks name ∙ under_to (at name) p e))
        ],
      )

      -- as many references as stand under the name
      held_is : port_under (at name) ≡ Some p → held l.t task send p ≡ references_under (at name)
      held_is is =
          let x = there (at name) p is in
          let r = l.agrees.references task name x.0 p (l.left name ∙ x.1) x.2 in r.1 ∙ sym (x.3)

      none_under : (o : Option Entry) → most_references ≤ references_under o → o ≢ None
      none_under o many e = let z : references_under o ≡ 0 = ap references_under e in omega (arith, many, z)

      third_to : ¬ (IsTaken (at name) p kind) → Overflows (at name) kind → Third
      third_to free h =
          let named : port_under (at name) ≡ Some p = not_not (port_under (at name)) p (λ not. free (none_under (at name) h.1, inr not)) in
          let a = held_is named in
          let b = sends_are send (sym h.0) in
          let c = h.1 in omega (arith, a, b, c)

      third_from : (c : Kind) → c ≡ kind → ¬ (IsElsewhere at name p kind) → Third → Overflows (at name) kind
      third_from receive is alone h = absurd (let b = sends_are receive is in let f = few in omega (arith, b, f, h))
      third_from send_once is alone h = absurd (let b = sends_are send_once is in let f = few in omega (arith, b, f, h))
      third_from send is alone h =
          let b = sends_are send is in
          let f = few in
          let full : most_references ≤ held l.t task send p = omega (arith, b, h) in
          let n = (l.copies.keeps.naming task).is_named p (omega (arith, full)) in
          let under : port_under (at n.0) ≡ Some p = under_from (at n.0) p (sym (looks n.0) ∙ n.1) in (
            sym is,
            elim (eqb_tells n.0 name) [
              | inl x ↦ (let a = held_is (subst (λ (m : ℕ). port_under (at m) ≡ Some p) x.1 under) in omega (arith, a, full))
              | inr x ↦ absurd (alone ((λ e. let q : send ≡ send_once = is ∙ e in cc), (n.0, x.1, under)))
            ],
          )

      fourth_to : (most_names ≤ names_left w task g) × (at name ≡ None) ⊎ (most_rights < rights_then w g) → Fourth
      fourth_to (inl h) = inl ((let a = names_are in let b = h.0 in omega (arith, a, b)), looks name ∙ none_to (at name) h.1)
      fourth_to (inr h) = inr (let a = rights_are in omega (arith, a, h))

      fourth_from : Fourth → (most_names ≤ names_left w task g) × (at name ≡ None) ⊎ (most_rights < rights_then w g)
      fourth_from (inl h) = inl ((let a = names_are in let b = h.0 in omega (arith, a, b)), none_from (at name) (sym (looks name) ∙ h.1))
      fourth_from (inr h) = inr (let a = rights_are in omega (arith, a, h))

      pub none_inserted : NoneHolds (insert_later w task name g) → NoneHolds (inserted_guards copied task name p kind)
      none_inserted h = (
        λ x. h.0 (first_from x),
        (λ x. h.1.0 (second_from x), (λ x. h.1.1.0 (third_from kind refl h.0 x), (λ x. h.1.1.1.0 (fourth_from x), tt))),
      )

      pub first_inserted : (code : ℕ) → FirstIs (insert_later w task name g) code → FirstIs (inserted_guards copied task name p kind) code
      first_inserted code (inl h) = inl (first_to h.0, h.1)
      first_inserted code (inr h) = inr (
        (λ x. h.0 (first_from x)),
        elim h.1 [
          | inl i ↦ inl (second_to i.0, i.1)
          | inr i ↦ inr (
            (λ x. i.0 (second_from x)),
            elim i.1 [
              | inl j ↦ inl (third_to i.0 j.0, j.1)
              | inr j ↦ inr (
                (λ x. j.0 (third_from kind refl h.0 x)),
                elim j.1 [
                  | inl m ↦ inl (fourth_to m.0, m.1)
                  | inr m ↦ absurd m.1
                ],
              )
            ],
          )
        ],
      )

    -- ---- a right under a name that the kernel chooses

    needs_to : (c : Kind) → c ≡ kind → (kind ≡ send_once) ⊎ ((n : ℕ) → port_under (at n) ≢ Some p) → NeedsName copied task c p
    needs_to send_once is h = tt
    needs_to receive is (inl h) = absurd (let q : receive ≡ send_once = is ∙ h in cc)
    needs_to send is (inl h) = absurd (let q : send ≡ send_once = is ∙ h in cc)
    needs_to receive is (inr h) = λ n e. h n (under_from (at n) p (sym (looks n) ∙ e))
    needs_to send is (inr h) = λ n e. h n (under_from (at n) p (sym (looks n) ∙ e))

    needs_from : (c : Kind) → c ≡ kind → NeedsName copied task c p → (kind ≡ send_once) ⊎ ((n : ℕ) → port_under (at n) ≢ Some p)
    needs_from send_once is h = inl (sym is)
    needs_from receive is h = inr (λ n e. h n (looks n ∙ under_to (at n) p e))
    needs_from send is h = inr (λ n e. h n (looks n ∙ under_to (at n) p e))

    abbrev Only : Type 0
    Only = HasNoRoom copied task × NeedsName copied task kind p ⊎ (most_rights < length copied.ledger)

    only_to : (most_names ≤ names_left w task g) × ((kind ≡ send_once) ⊎ ((n : ℕ) → port_under (at n) ≢ Some p)) ⊎ (most_rights < rights_then w g) → Only
    only_to (inl h) = inl ((let a = names_are in let b = h.0 in omega (arith, a, b)), needs_to kind refl h.1)
    only_to (inr h) = inr (let a = rights_are in omega (arith, a, h))

    only_from : Only → (most_names ≤ names_left w task g) × ((kind ≡ send_once) ⊎ ((n : ℕ) → port_under (at n) ≢ Some p)) ⊎ (most_rights < rights_then w g)
    only_from (inl h) = inl ((let a = names_are in let b = h.0 in omega (arith, a, b)), needs_from kind refl h.1)
    only_from (inr h) = inr (let a = rights_are in omega (arith, a, h))

    pub none_extracted : NoneHolds (extract_later w task g) → NoneHolds (extracted_guards copied task p kind)
    none_extracted h = ((λ x. h.0 (only_from x)), tt)

    pub first_extracted : (code : ℕ) → FirstIs (extract_later w task g) code → FirstIs (extracted_guards copied task p kind) code
    first_extracted code (inl h) = inl (only_to h.0, h.1)
    first_extracted code (inr h) = absurd h.1

-- ---- judged in the tables in this order

-- where the entry under the name and whether it is new were asked before
pub no_room : (stand : ℕ → Option Entry) (names rights name port : ℕ) (sort : Kind) (e : Option Entry) (is_new : Bool) → e ≡ stand name → is_some e ≡ not is_new →
    ¬ (IsElsewhere stand name port sort) → ¬ (IsTaken e port sort) → ¬ (Overflows e sort) → LacksSpace names rights (is_new ≡ true) → FirstIs (under_guards stand names rights name port sort) (kern_number NoSpace)
no_room stand names rights name port sort e is_new is new here free fits lacks =
    inr (here, inr (subst (λ (x : Option Entry). ¬ (IsTaken x port sort)) is free, inr (subst (λ (x : Option Entry). ¬ (Overflows x sort)) is fits, inl (wants lacks, refl))))
  where
    nothing : (o : Option Entry) → is_some o ≡ false → o ≡ None
    nothing None e = refl
    nothing (Some x) e = absurd (cc)

    wants : LacksSpace names rights (is_new ≡ true) → LacksSpace names rights (stand name ≡ None)
    wants (inl h) = inl (h.0, sym is ∙ nothing e (new ∙ ap not h.1))
    wants (inr h) = inr h
