-- A right that is judged can be copied in, and then put or given.
use Rattle.std.proofs.Common.{◌≡◌, ◌≢◌, ℕ, ◌+◌, ◌-◌, ◌<◌, ◌≤◌, [], ◌∷◌, Option, Some, None, refl, sym, ap, subst, ◌∙◌, arith, true, ◌⊎◌, inl, inr, length}
use Rattle.std.specs.Prelude.{is_some}
use Rattle.std.specs.Option.{option_and_then}
use Rattle.std.specs.FinMap as map
use Rattle.std.proofs.lemmas.Bool.Decides.{eqb_tells}
use Rattle.mach_types.specs.Numbers.{kind_sent, most_names, most_rights}
use Rattle.mach_types.specs.Tokens.{Kind, receive, send, send_once, in_message}
use Rattle.mach_types.specs.Guards.{NoneHolds}
use Rattle.mach_model.specs.State.{State}
use Rattle.mach_model.specs.Carried.{lying}
use Rattle.mach_model.proofs.Names.{lying_le_of}
use Rattle.name_space.specs.declared.Entry.{Entry}
use Rattle.name_space.specs.Entry.{port_named}
use Rattle.name_space.specs.Names.{SpaceView, IsUsable}
use Rattle.name_space.specs.Names.{port_at as port_named_at}
use Rattle.rights.specs.Ledger.{counts_of}
use Rattle.copyin_base.specs.declared.Carried.{Carried}
use Rattle.copyin_base.specs.declared.Mark.TheVariants as mark
use Rattle.copyin_base.specs.Worlds.{WorldView, entry_in, port_at, space_at}
use Rattle.copyin_base.proofs.Gets.{seen, same_found}
use Rattle.copyout.specs.Giving.{NeedsOwn, NoneLeft, free_names, free_room}
use Rattle.copyout.specs.Ready.{AllEntered, send_for, CanGive}
use Rattle.copyout.specs.Putting.{CanPut}
use Rattle.transfer.specs.declared.judge.Going.{Going}
use Rattle.transfer.specs.Transfer.{left_at, names_left, rights_then, port_under, insert_later, extract_later}
use Rattle.transfer.proofs.Left.{Left}
use Rattle.transfer.proofs.Judged.{lies, lives, not_not}

pub few_then : (w : WorldView) (g : Going) → ¬ (most_rights < rights_then w g) → rights_then w g ≤ most_rights
few_then w g not = omega (arith, not)

module _ (w : WorldView) (s : State) (task number : ℕ) (g : Going) (mid : WorldView) (l : Left w s task number g mid) (x : SpaceView) (was : space_at w task ≡ Some x) where
  abbrev kind : Kind
  kind = kind_sent g.given

  abbrev at : ℕ → Option Entry
  at n = left_at w task g n

  wide_then : 0 < x.room → 0 < l.space.room
  wide_then wide = let r = l.room x was in omega (arith, r, wide)

  is_there : is_some (port_at mid g.port) ≡ true
  is_there = l.agrees.live_port g.port ∙ lives w s task number g mid l

  entered : AllEntered mid
  entered p live = (l.agrees.counts p).entered ∙ sym (l.agrees.live_port p) ∙ live

  counted : (c : Kind) → c ≡ kind → c ≡ send → 1 ≤ (counts_of mid.ledger g.port).send
  counted c is e =
      let h : 0 < lying l.t send g.port (in_message 0 (length (s.log 0))) = subst (λ (x : Kind). 0 < lying l.t x g.port (in_message 0 (length (s.log 0)))) (sym is ∙ e) (lies w s task number g mid l) in
      let le = lying_le_of l.t send g.port (in_message 0 (length (s.log 0))) in
      let a = (l.agrees.counts g.port).senders in omega (arith, h, le, a)

  stands : (n : ℕ) → map.get l.space.names n ≡ at n
  stands n = sym (ap (λ (o : Option SpaceView). entry_in o n) l.there) ∙ l.left n

  port_is : (n : ℕ) → port_named_at l.space.names n ≡ port_under (at n)
  port_is n = ap (λ (o : Option Entry). option_and_then port_named o) (stands n)

  some_not : (e : Entry) → Some e ≢ None
  some_not e f = cc

  pub can_put : (name : ℕ) → IsUsable name → (at name ≡ None → x.kept ≡ Some name) → NoneHolds (insert_later w task name g) → CanPut mid task kind g.port name
  can_put name usable is_kept none = record {
    space = l.space;
    there = l.there;
    place = λ unused. inr (l.kept x was ∙ is_kept (sym (stands name) ∙ unused));
    usable = usable;
    may = elim (seen (at name)) [
      | inl h ↦
          let used : at name ≢ None = λ e. some_not h.0 (sym h.1 ∙ e) in
          inl ((λ o. none.1.0 (used, inl o)), port_is name ∙ not_not (port_under (at name)) g.port (λ not. none.1.0 (used, inr not)))
      | inr h ↦ inr (
        stands name ∙ h,
        below (map.len l.space.names) (λ many. none.1.1.1.0 (inl ((let e = l.names in omega (arith, many, e)), h))),
        λ not n is. elim (eqb_tells n name) [
          | inl e ↦ is_none (port_named_at l.space.names n) (ap (λ (x : ℕ). port_named_at l.space.names x) e.1 ∙ port_is name ∙ ap port_under h) is
          | inr e ↦ none.0 (not, (n, e.1, sym (port_is n) ∙ is))
        ],
      )
    ];
    live = is_there;
    entered = entered g.port is_there;
    counted = counted kind refl;
    none_lost = l.sound.none_lost;
  }
    where
      below : (n : ℕ) → ¬ (most_names ≤ n) → n < most_names
      below n not = omega (arith, not)

      is_none : (o : Option ℕ) → o ≡ None → o ≡ Some g.port → ⊥
      is_none o e f = let x : None ≡ Some g.port = sym e ∙ f in cc

  abbrev carried : Carried
  carried = record { given = g.given; mark = mark.Port g.port }

  one_send : (c : Kind) → c ≡ kind → (p : ℕ) → send_for c (mark.Port g.port) p + 0 ≤ (counts_of mid.ledger p).send
  one_send receive is p = omega arith
  one_send send_once is p = omega arith
  one_send send is p = elim (eqb_tells g.port p) [
    | inl h ↦ rw h.0 (subst (λ (x : ℕ). 1 ≤ (counts_of mid.ledger x).send) h.1 (counted send is refl))
    | inr h ↦ rw h.0 (omega arith)
  ]

  pub can_give : ((kind ≡ send_once) ⊎ ((n : ℕ) → port_under (at n) ≢ Some g.port) → 0 < x.room) → NoneHolds (extract_later w task g) → CanGive mid task (carried ∷ [])
  can_give wide none = record {
    space = l.space;
    there = l.there;
    enough = λ lacks. elim lacks [
      | inl h ↦ none.0 (inl (many h.1, needs h.2))
      | inr h ↦ h.2
    ];
    room = λ lacks. elim lacks [
      | inl h ↦ some_left h.1 (wide_then (wide (needs h.2)))
      | inr h ↦ h.2
    ];
    entered = entered;
    counted = λ p live. one_send kind refl p;
    none_lost = l.sound.none_lost;
  }
    where
      many : NoneLeft free_names mid task → most_names ≤ names_left w task g
      many h =
          let same : h.0 ≡ l.space = same_found (space_at mid task) h.0 l.space h.1 l.there in
          let full : most_names - map.len l.space.names ≡ 0 = ap (λ (x : SpaceView). most_names - map.len x.names) (sym same) ∙ h.2 in
          let e = l.names in omega (arith, full, e)

      some_left : NoneLeft free_room mid task → 0 < l.space.room → ⊥
      some_left h some =
          let same : h.0 ≡ l.space = same_found (space_at mid task) h.0 l.space h.1 l.there in
          let full : l.space.room ≡ 0 = ap (λ (x : SpaceView). x.room) (sym same) ∙ h.2 in omega (arith, full, some)

      needs : NeedsOwn mid task kind g.port → (kind ≡ send_once) ⊎ ((n : ℕ) → port_under (at n) ≢ Some g.port)
      needs (inl h) = inl h
      needs (inr h) =
          let same : h.0 ≡ l.space = same_found (space_at mid task) h.0 l.space h.1 l.there in
          inr (λ n e. h.2 n (ap (λ (x : SpaceView). port_named_at x.names n) same ∙ port_is n ∙ e))
