-- What refuses ModRefs, and what it does.
use Rattle.std.proofs.Common.{◌≡◌, ◌≢◌, ℕ, ℤ, ◌+◌, ◌<◌, ◌≤◌, [], ◌∷◌, Some, None, Ok, Err, Result, refl, sym, ap, subst, ◌∙◌, arith, ◌⊎◌, inl, inr, length, ◌-◌}
use Rattle.std.specs.Prelude.{pos, negsuc, nat_lt, replicate}
use Rattle.mach_types.specs.declared.calls.Event.{Event}
use Rattle.mach_types.specs.declared.codes.KernReturn.{KernReturn}
use Rattle.mach_types.specs.declared.codes.KernReturn.TheVariants.{NoSpace, InvalidRight, InvalidValue, UrefsOverflow}
use Rattle.mach_types.specs.declared.rights.Right.{Right}
use Rattle.mach_types.specs.declared.rights.Right.TheVariants as right
use Rattle.mach_types.specs.Numbers.{right_number, most_rights, most_references}
use Rattle.mach_types.specs.Codes.{kern_number}
use Rattle.mach_types.specs.Guards.{Guards, FirstIs, NoneHolds}
use Rattle.mach_types.specs.declared.calls.Reply.{Reply}
use Rattle.mach_types.specs.Tokens.{send, in_task, token, weigh}
use Rattle.mach_model.specs.State.{State, Target, held}
use Rattle.mach_model.specs.References.{CountsNoReferences, Modifies, AddsTo, SetsSends, LosesReceive}
use Rattle.mach_model.specs.Refusals.{added_rights, IsAbove, IsBelowZero, references_at, CountsReferences, call_guards, modify_guards}
use Rattle.mach_model.specs.CopyIn.{name_kept}
use Rattle.mach_model.proofs.Midway.{Removes}
use Rattle.name_space.specs.declared.Entry.{Entry}
use Rattle.name_space.specs.declared.Entry.TheVariants as entry_of
use Rattle.name_space.specs.Entry.{references_in, port_named, port_of, set_named, receive_named, send_references}
use Rattle.copyin_base.specs.Serving.{IsRefused, IsAllowed, Completes}
use Rattle.copyin_base.specs.Worlds.{WorldView, entry_at, HasTask}
use Rattle.copyin_base.specs.Shows.{Agrees, Shows}
use Rattle.copyin_base.proofs.Told.{used}
use Rattle.copyin_base.specs.Stands.{Stands}
use Rattle.copyin_base.proofs.Changing.{target_named}
use Rattle.kernel_core_base.specs.declared.references.Change.{Change}
use Rattle.kernel_core_base.specs.declared.references.Change.TheVariants.{More, Fewer}
use Rattle.kernel_core_base.specs.declared.references.Due.{Due}
use Rattle.kernel_core_base.specs.declared.references.Due.TheVariants.{Nothing, Disbanding, LosingOnce, Killing, References}
use Rattle.kernel_core_base.specs.References.{IsChange, more_in, IsTooFew, IsTooMany, CanSum, CannotSum, changed_whole, receive_loss, CanChange, CannotChange, FindsRight, CanKill, CanCarry, Carries, deallocated, destroyed}
use Rattle.kernel_core_base.proofs.ReferencesTold.{few_numbers, no_right, references_are}
use Rattle.kernel_core_base.proofs.ReferencesSet.{once_lost, Becomes, IsCountedDue, named, of_port, carried}
use Rattle.kernel_core_base.proofs.ReceiveTaken.{TakesSo}
use Rattle.kernel_core_base.proofs.ReferencesLost.{receive_lost}

-- ---- What refuses ModRefs.

-- ---- sums

not_below : (n m : ℕ) (change : Change) (delta : ℤ) → IsChange change delta → CanSum n change m → ¬ (IsBelowZero n delta)
not_below n m (More k) delta is can h = subst (λ (d : ℤ). IsBelowZero n d) is h
not_below n m (Fewer k) delta is can h = let e = is.1 in let b : n < is.0 + 1 = subst (λ (d : ℤ). IsBelowZero n d) is.2 h in omega (arith, e, can, b)

not_above : (n m : ℕ) (change : Change) (delta : ℤ) → IsChange change delta → CanSum n change m → ¬ (IsAbove n delta)
not_above n m (More k) delta is can h = let b : 65535 < n + k = subst (λ (d : ℤ). IsAbove n d) is h in let e = can.0 in let f = can.1 in omega (arith, b, e, f)
not_above n m (Fewer k) delta is can h = subst (λ (d : ℤ). IsAbove n d) is.2 h

too_few : (n : ℕ) (change : Change) (delta : ℤ) → IsChange change delta → IsTooFew n change → IsBelowZero n delta
too_few n (More k) delta is h = absurd h
too_few n (Fewer k) delta is h = let e = is.1 in let b : n < is.0 + 1 = omega (arith, e, h) in subst (λ (d : ℤ). IsBelowZero n d) (sym is.2) b

too_many : (n : ℕ) (change : Change) (delta : ℤ) → IsChange change delta → IsTooMany n change → IsAbove n delta
too_many n (More k) delta is h = subst (λ (d : ℤ). IsAbove n d) (sym is) h
too_many n (Fewer k) delta is h = absurd h

many_not_few : (n : ℕ) (change : Change) (delta : ℤ) → IsChange change delta → IsTooMany n change → ¬ (IsBelowZero n delta)
many_not_few n (More k) delta is h b = subst (λ (d : ℤ). IsBelowZero n d) is b
many_not_few n (Fewer k) delta is h b = h

same_added : (change : Change) (delta : ℤ) → IsChange change delta → added_rights delta ≡ more_in change
same_added (More k) delta is = ap added_rights is
same_added (Fewer k) delta is = ap added_rights is.2

-- ---- rights without references

pos_same : (j k : ℕ) → pos j ≡ pos k → j ≡ k
pos_same j k e = cc

negsuc_same : (j k : ℕ) → negsuc j ≡ negsuc k → j ≡ k
negsuc_same j k e = cc

not_both : (j k : ℕ) → pos j ≡ negsuc k → ⊥
not_both j k e = cc

-- nothing changes, all goes, or the number is one that such a right can't have
pub whole_cases : (change : Change) (whole r : Result Due KernReturn) (delta : ℤ) → IsChange change delta → changed_whole change whole ≡ r →
    ((delta ≡ pos 0) × (r ≡ Ok Nothing)) ⊎ ((delta ≡ negsuc 0) × (r ≡ whole)) ⊎ ((delta ≢ pos 0) × (delta ≢ negsuc 0) × (r ≡ Err InvalidValue))
whole_cases (More k) whole r delta is e = grind (arith, pos_same, not_both)
whole_cases (Fewer k) whole r delta is e = grind (arith, not_both, negsuc_same)

the_code : (x y : KernReturn) → ◌≡◌ {A = Result Due KernReturn} (Err x) (Err y) → x ≡ y
the_code x y e = cc

pub not_ok : (due : Due) (code : KernReturn) → ◌≡◌ {A = Result Due KernReturn} (Ok due) (Err code) → ⊥
not_ok due code e = cc

-- what is done is nothing or the whole
pub whole_due : (change : Change) (whole : Result Due KernReturn) (due : Due) (delta : ℤ) → IsChange change delta → changed_whole change whole ≡ Ok due →
    ((delta ≡ pos 0) × (◌≡◌ {A = Result Due KernReturn} (Ok due) (Ok Nothing))) ⊎ ((delta ≡ negsuc 0) × (Ok due ≡ whole))
whole_due change whole due delta is e = grind (arith, whole_cases, not_ok)

-- ---- the guards

-- those by the references under a name that is in use
abbrev later_guards : State → (task name number : ℕ) → ℤ → Guards
later_guards s task name number delta =
    (references_at s task name number ≡ 0, kern_number InvalidRight)
    ∷ (CountsReferences number × IsBelowZero (references_at s task name number) delta ⊎ CountsNoReferences number × (delta ≢ pos 0) × (delta ≢ negsuc 0), kern_number InvalidValue)
    ∷ (CountsReferences number × IsAbove (references_at s task name number) delta, kern_number UrefsOverflow)
    ∷ ((number ≡ 0) × (most_rights < length s.ledger + added_rights delta), kern_number NoSpace)
    ∷ []

-- what is to be known of a right's number for none to hold
record IsFine (s : State) (number n : ℕ) (delta : ℤ) : Type 0 where
  pub few : ¬ (4 < number)
  pub not_below : CountsReferences number → ¬ (IsBelowZero n delta)
  pub whole : CountsNoReferences number → (delta ≡ pos 0) ⊎ (delta ≡ negsuc 0)
  pub not_above : CountsReferences number → ¬ (IsAbove n delta)
  pub room : number ≡ 0 → length s.ledger + added_rights delta ≤ most_rights

uncounted_0 : ¬ (CountsNoReferences 0)
uncounted_0 (inl e) = omega (arith, e)
uncounted_0 (inr (inl e)) = omega (arith, e)
uncounted_0 (inr (inr e)) = omega (arith, e)

uncounted_4 : ¬ (CountsNoReferences 4)
uncounted_4 (inl e) = omega (arith, e)
uncounted_4 (inr (inl e)) = omega (arith, e)
uncounted_4 (inr (inr e)) = omega (arith, e)

not_counted : (number : ℕ) → CountsNoReferences number → ¬ (CountsReferences number)
not_counted number (inl e) (inl f) = omega (arith, e, f)
not_counted number (inl e) (inr f) = omega (arith, e, f)
not_counted number (inr (inl e)) (inl f) = omega (arith, e, f)
not_counted number (inr (inl e)) (inr f) = omega (arith, e, f)
not_counted number (inr (inr e)) (inl f) = omega (arith, e, f)
not_counted number (inr (inr e)) (inr f) = omega (arith, e, f)

not_send : (number : ℕ) → CountsNoReferences number → number ≡ 0 → ⊥
not_send number u e = not_counted number u (inl e)

module _ (w : WorldView) (s : State) (a : Agrees w s) (task name : ℕ) (delta : ℤ) where
  fine_sends : (n m : ℕ) (change : Change) → IsChange change delta → CanSum n change m → w.ledger.total + more_in change ≤ most_rights → IsFine s 0 n delta
  fine_sends n m change is can few = grind (arith, not_below, uncounted_0, not_above, same_added)

  fine_dead : (n m : ℕ) (change : Change) → IsChange change delta → CanSum n change m → IsFine s 4 n delta
  fine_dead n m change is can = grind (arith, not_below, uncounted_4, not_above)

  fine_whole : (number n : ℕ) → ¬ (4 < number) → CountsNoReferences number → (delta ≡ pos 0) ⊎ (delta ≡ negsuc 0) → IsFine s number n delta
  fine_whole number n few u which = grind (arith, not_below, not_counted, not_above, not_send)

  fine : (r : Right) (e : Entry) (change : Change) (due : Due) → IsChange change delta → CanChange w.ledger.total r e change due → IsFine s (right_number r) (references_in r e) delta
  fine right.Send e change due is can = fine_sends (references_in right.Send e) can.0 change is can.2 can.3
  fine right.DeadName e change due is can = fine_dead (references_in right.DeadName e) can.0 change is can.2
  fine right.PortSet e change due is can = grind (arith, fine_whole, few_numbers, whole_due)
  fine right.Receive e change due is can = grind (arith, fine_whole, few_numbers, whole_due)
  fine right.SendOnce e change due is can = grind (arith, fine_whole, few_numbers, whole_due)

  none_holds : (number n : ℕ) (e : Entry) → entry_at w task name ≡ Some e → references_at s task name number ≡ n → 0 < n → IsFine s number n delta → NoneHolds (modify_guards s task name number delta)
  none_holds number n e is refs some f = grind (arith, used)

  -- ---- refused

  sum_fails : (number n : ℕ) (change : Change) (code : KernReturn) → references_at s task name number ≡ n → 0 < n → CountsReferences number → IsChange change delta → CannotSum n change code →
      FirstIs (later_guards s task name number delta) (kern_number code)
  sum_fails number n change code refs some c is (inl h) = grind (arith, too_few)
  sum_fails number n change code refs some c is (inr h) = grind (arith, too_many, many_not_few, not_counted)

  room_fails : (n m : ℕ) (change : Change) (code : KernReturn) → references_at s task name 0 ≡ n → 0 < n → IsChange change delta → CanSum n change m → most_rights < w.ledger.total + more_in change → code ≡ NoSpace →
      FirstIs (later_guards s task name 0 delta) (kern_number code)
  room_fails n m change code refs some is can many code_is = grind (arith, not_above, same_added, not_below, uncounted_0)

  -- by a number that such a right can't have
  wrong_fails : (number n : ℕ) (code : KernReturn) → references_at s task name number ≡ n → 0 < n → CountsNoReferences number → delta ≢ pos 0 → delta ≢ negsuc 0 → code ≡ InvalidValue →
      FirstIs (later_guards s task name number delta) (kern_number code)
  wrong_fails number n code refs some u not_0 not_1 code_is = inr ((λ z. omega (arith, refs, some, z)), inl (inr (u, not_0, not_1), ap kern_number code_is))

  whole_fails : (number n : ℕ) (change : Change) (whole : Result Due KernReturn) (code : KernReturn) → references_at s task name number ≡ n → 0 < n → CountsNoReferences number → IsChange change delta →
      changed_whole change whole ≡ Err code → (delta ≡ negsuc 0 → Err code ≡ whole → FirstIs (later_guards s task name number delta) (kern_number code)) → FirstIs (later_guards s task name number delta) (kern_number code)
  whole_fails number n change whole code refs some u is e going = elim (whole_cases change whole (Err code) delta is e) [
    | inl h ↦ absurd (not_ok Nothing code (sym h.1))
    | inr h ↦ elim h [
      | inl g ↦ going g.0 g.1
      | inr g ↦ wrong_fails number n code refs some u g.0 g.1 (the_code code InvalidValue g.2)
    ]
  ]

  no_set : (e : Entry) → set_named e ≡ None → 0 < references_in right.PortSet e → ⊥
  no_set (entry_of.Set set) none some = absurd (cc)
  no_set (entry_of.Receive p) none some = omega (arith, some)
  no_set (entry_of.Send p n) none some = omega (arith, some)
  no_set (entry_of.ReceiveAndSend p n) none some = omega (arith, some)
  no_set (entry_of.SendOnce p) none some = omega (arith, some)
  no_set (entry_of.DeadName n) none some = omega (arith, some)

  no_receive : (e : Entry) → port_named e ≡ None → 0 < references_in right.Receive e → ⊥
  no_receive (entry_of.Receive p) none some = absurd (cc)
  no_receive (entry_of.ReceiveAndSend p n) none some = absurd (cc)
  no_receive (entry_of.Set set) none some = omega (arith, some)
  no_receive (entry_of.Send p n) none some = omega (arith, some)
  no_receive (entry_of.SendOnce p) none some = omega (arith, some)
  no_receive (entry_of.DeadName n) none some = omega (arith, some)

  no_once : (e : Entry) → port_of e ≡ None → 0 < references_in right.SendOnce e → ⊥
  no_once (entry_of.SendOnce p) none some = absurd (cc)
  no_once (entry_of.Receive p) none some = omega (arith, some)
  no_once (entry_of.ReceiveAndSend p n) none some = omega (arith, some)
  no_once (entry_of.Set set) none some = omega (arith, some)
  no_once (entry_of.Send p n) none some = omega (arith, some)
  no_once (entry_of.DeadName n) none some = omega (arith, some)

  later_fails : (r : Right) (e : Entry) (change : Change) (code : KernReturn) → references_at s task name (right_number r) ≡ references_in r e → 0 < references_in r e → IsChange change delta →
      CannotChange w.ledger.total r e change code → FirstIs (later_guards s task name (right_number r) delta) (kern_number code)
  later_fails right.Send e change code refs some is (inl h) = sum_fails 0 (references_in right.Send e) change code refs some (inl refl) is h
  later_fails right.Send e change code refs some is (inr h) = room_fails (references_in right.Send e) h.0 change code refs some is h.1 h.2 h.3
  later_fails right.DeadName e change code refs some is h = sum_fails 4 (references_in right.DeadName e) change code refs some (inr refl) is h
  later_fails right.PortSet e change code refs some is (inl h) = absurd (no_set e h some)
  later_fails right.PortSet e change code refs some is (inr h) = grind (arith, whole_fails, not_ok)
  later_fails right.Receive e change code refs some is (inl h) = absurd (no_receive e h some)
  later_fails right.Receive e change code refs some is (inr h) = grind (arith, whole_fails, not_ok)
  later_fails right.SendOnce e change code refs some is (inl h) = absurd (no_once e h some)
  later_fails right.SendOnce e change code refs some is (inr h) = grind (arith, whole_fails, not_ok)

module _ (w : WorldView) (task name number : ℕ) (delta : ℤ) where
  pub not_a_right : ((r : Right) → right_number r ≢ number) → IsRefused w (λ s. call_guards s (Event.ModRefs task name number delta)) (kern_number InvalidValue)
  not_a_right none = record { refused = λ s sh. inl (no_right number none, refl) }

  module _ (r : Right) (e : Entry) (f : FindsRight w task name number r e) (change : Change) (is : IsChange change delta) where
    pub modify_allowed : (due : Due) → CanChange w.ledger.total r e change due → IsAllowed w (λ s. call_guards s (Event.ModRefs task name number delta))
    modify_allowed due can = grind (arith, none_holds, references_are, fine)

    pub modify_refused : (code : KernReturn) → CannotChange w.ledger.total r e change code → IsRefused w (λ s. call_guards s (Event.ModRefs task name number delta)) (kern_number code)
    modify_refused code cannot = record {
      refused = λ s sh. subst (λ (k : ℕ). FirstIs (modify_guards s task name k delta) (kern_number code)) f.number_is
          (inr (few_numbers r, inr (used w s sh.agrees task name e f.found, later_fails w s sh.agrees task name delta r e change code (references_are w s sh.agrees task name r e f.found) f.some is cannot)));
    }

-- ---- What Deallocate, Destroy and ModRefs have to do can be done; and what ModRefs does.

the_due : (a b : Due) → Some a ≡ Some b → a ≡ b
the_due a b e = cc

no_due : (b : Due) → None ≡ Some b → ⊥
no_due b e = cc

ok_due : (a b : Due) → ◌≡◌ {A = Result Due KernReturn} (Ok a) (Ok b) → b ≡ a
ok_due a b e = cc

no_port : (p : ℕ) → None ≡ Some p → ⊥
no_port p e = cc

the_set : (e : Entry) (set : ℕ) → set_named e ≡ Some set → e ≡ entry_of.Set set
the_set (entry_of.Set t) set is = let g : t ≡ set = cc in ap (λ (x : ℕ). entry_of.Set x) g
the_set (entry_of.Receive p) set is = absurd (cc)
the_set (entry_of.Send p n) set is = absurd (cc)
the_set (entry_of.ReceiveAndSend p n) set is = absurd (cc)
the_set (entry_of.SendOnce p) set is = absurd (cc)
the_set (entry_of.DeadName n) set is = absurd (cc)

-- what has a receive right, or a send-once right
the_receive : (e : Entry) (p : ℕ) → 0 < references_in right.Receive e → port_named e ≡ Some p → receive_named e ≡ Some p
the_receive (entry_of.Receive q) p some is = is
the_receive (entry_of.ReceiveAndSend q n) p some is = is
the_receive (entry_of.Send q n) p some is = absurd (omega (arith, some))
the_receive (entry_of.SendOnce q) p some is = absurd (omega (arith, some))
the_receive (entry_of.DeadName n) p some is = absurd (omega (arith, some))
the_receive (entry_of.Set set) p some is = absurd (omega (arith, some))

the_once : (e : Entry) (p : ℕ) → 0 < references_in right.SendOnce e → port_of e ≡ Some p → e ≡ entry_of.SendOnce p
the_once (entry_of.SendOnce q) p some is = let g : q ≡ p = cc in ap (λ (x : ℕ). entry_of.SendOnce x) g
the_once (entry_of.Receive q) p some is = absurd (omega (arith, some))
the_once (entry_of.ReceiveAndSend q n) p some is = absurd (omega (arith, some))
the_once (entry_of.Send q n) p some is = absurd (omega (arith, some))
the_once (entry_of.DeadName n) p some is = absurd (omega (arith, some))
the_once (entry_of.Set set) p some is = absurd (omega (arith, some))

adds : (n m : ℕ) (change : Change) (delta : ℤ) → IsChange change delta → CanSum n change m → AddsTo n delta m
adds n m (More k) delta is can = subst (λ (d : ℤ). AddsTo n d m) (sym is) can.0
adds n m (Fewer k) delta is can = let e = is.1 in subst (λ (d : ℤ). AddsTo n d m) (sym is.2) (omega (arith, e, can))

few_sum : (n m : ℕ) (change : Change) → CanSum n change m → n ≤ most_references → m ≤ most_references
few_sum n m (More k) can few = can.1
few_sum n m (Fewer k) can few = omega (arith, can, few)

more_sum : (n m : ℕ) (change : Change) → CanSum n change m → m - n ≤ more_in change
more_sum n m (More k) can = let e = can.0 in omega (arith, e)
more_sum n m (Fewer k) can = omega (arith, can)

module _ (w : WorldView) (stands : Stands w) (task name : ℕ) where
  few_sends : (e : Entry) → entry_at w task name ≡ Some e → (p : ℕ) → port_named e ≡ Some p → send_references e ≤ most_references
  few_sends e is p of = grind (arith, (of_port w stands.state stands.shown.agrees task name e is p of).1, (stands.shown.lawful.naming task).few_references p)

  few_dead : (n : ℕ) → entry_at w task name ≡ Some (entry_of.DeadName n) → n ≤ most_references
  few_dead n is = ((stands.shown.lawful.naming task).references name (Target.dead n) (named w stands.state stands.shown.agrees task name (entry_of.DeadName n) is)).1

  few_total : w.ledger.total ≤ most_rights
  few_total = let t = stands.shown.agrees.total in let f = stands.shown.lawful.few_rights in omega (arith, t, f)

  pub can_deallocate : (e : Entry) (due : Due) → entry_at w task name ≡ Some e → deallocated e ≡ Some due → CanCarry w task name due
  can_deallocate (entry_of.Send p n) due is d = subst (CanCarry w task name) (the_due (References (entry_of.Send p n) (n - 1)) due d)
      record { found = is; few = (let f : n ≤ most_references = few_sends (entry_of.Send p n) is p refl in omega (arith, f)); room = λ q of. let t = few_total in omega (arith, t) }
  can_deallocate (entry_of.ReceiveAndSend p n) due is d = subst (CanCarry w task name) (the_due (References (entry_of.ReceiveAndSend p n) (n - 1)) due d)
      record { found = is; few = (let f : n ≤ most_references = few_sends (entry_of.ReceiveAndSend p n) is p refl in omega (arith, f)); room = λ q of. let t = few_total in omega (arith, t) }
  can_deallocate (entry_of.DeadName n) due is d = grind (arith, the_due, few_dead, no_port)
  can_deallocate (entry_of.Receive p) due is d = absurd (no_due due d)
  can_deallocate (entry_of.SendOnce p) due is d = subst (CanCarry w task name) (the_due (LosingOnce p) due d) is
  can_deallocate (entry_of.Set set) due is d = absurd (no_due due d)

  can_lose : (e : Entry) (p n : ℕ) → entry_at w task name ≡ Some e → receive_named e ≡ Some p → send_references e ≡ n → (m : ℕ) → m ≤ n → m ≤ most_references → CanKill w task name (record { port = p; held = n; left = m })
  can_lose e p n is receive sends m fewer few = record { e = e; found = is; receive = receive; sends = sends; fewer = fewer; few = few }

  pub can_destroy : (e : Entry) → entry_at w task name ≡ Some e → CanCarry w task name (destroyed e)
  can_destroy (entry_of.Send p n) is = record { found = is; few = omega arith; room = λ q of. let t = few_total in omega (arith, t) }
  can_destroy (entry_of.DeadName n) is = record { found = is; few = omega arith; room = λ q of. absurd (no_port q of) }
  can_destroy (entry_of.Set set) is = is
  can_destroy (entry_of.SendOnce p) is = is
  can_destroy (entry_of.Receive p) is = can_lose (entry_of.Receive p) p 0 is refl refl 0 (omega arith) (omega arith)
  can_destroy (entry_of.ReceiveAndSend p n) is = can_lose (entry_of.ReceiveAndSend p n) p n is refl refl 0 (omega arith) (omega arith)

  module _ (number : ℕ) (delta : ℤ) where
    -- what is due can be done, and is what is asked
    record Asks (due : Due) : Type 0 where
      pub can : CanCarry w task name due
      pub does : (v : WorldView) → HasTask w task → IsAllowed w (λ s. call_guards s (Event.ModRefs task name number delta)) → Carries w task name due v →
          Completes w (Event.ModRefs task name number delta) (Reply.Code 0) v

    -- ... where no receive right and no send-once right goes
    plain : (due : Due) → CanCarry w task name due → IsCountedDue due → ((s : State) → Shows w s → (t : State) → Becomes s task name due t → Modifies task name number delta s t []) →
        ¬ (Removes number delta) → Asks due
    plain due can counted means none = record {
      can = can;
      does = λ v below good c. carried w (Event.ModRefs task name number delta) task name due v below good counted (λ now s sh t b. ((refl, means s sh t b), tt)) (λ s sh. none) c;
    }

    other_number : (n : ℕ) → n ≡ number → (n ≡ 1 → ⊥) → (n ≡ 2 → ⊥) → ¬ (Removes number delta)
    other_number n is not_1 not_2 h = elim h.0 [ inl e ↦ not_1 (is ∙ e) | inr e ↦ not_2 (is ∙ e) ]

    sends : (e : Entry) (p m : ℕ) (change : Change) → port_named e ≡ Some p → 0 ≡ number → entry_at w task name ≡ Some e → IsChange change delta → CanSum (send_references e) change m →
        w.ledger.total + more_in change ≤ most_rights → IsCountedDue (References e m) → ((s t : State) → Becomes s task name (References e m) t → SetsSends task name p m s t) → Asks (References e m)
    sends e p m change of number_is is by can room counted sets = plain (References e m)
        record { found = is; few = few_sum (send_references e) m change can (few_sends e is p of); room = λ q other. let d = more_sum (send_references e) m change can in omega (arith, d, room) }
        counted
        (λ s sh t b. inl (
          p,
          m,
          sym number_is,
          named w s sh.agrees task name e is ∙ ap Some (target_named e p of),
          subst (λ (n : ℕ). AddsTo n delta m) (sym (of_port w s sh.agrees task name e is p of).1) (adds (send_references e) m change delta by can),
          sets s t b,
          refl,
        ))
        (other_number 0 number_is (λ e. omega (arith, e)) (λ e. omega (arith, e)))

    nothing : (number ≡ 1) ⊎ (number ≡ 2) ⊎ (number ≡ 3) → delta ≡ pos 0 → Asks Nothing
    nothing which is = plain Nothing tt tt (λ s sh t b. inr (inr (inl (which, is, b, refl)))) (λ h. not_both 0 0 (sym is ∙ h.1))

    set_goes : (set : ℕ) → 3 ≡ number → delta ≡ negsuc 0 → entry_at w task name ≡ Some (entry_of.Set set) → Asks (Disbanding set)
    set_goes set number_is gone is = plain (Disbanding set) is tt
        (λ s sh t b. inr (inr (inr (Target.set set, gone, named w s sh.agrees task name (entry_of.Set set) is, (sym number_is, (b, refl))))))
        (other_number 3 number_is (λ e. omega (arith, e)) (λ e. omega (arith, e)))

    once_goes : (p : ℕ) → 2 ≡ number → delta ≡ negsuc 0 → entry_at w task name ≡ Some (entry_of.SendOnce p) → Asks (LosingOnce p)
    once_goes p number_is gone is = record {
      can = is;
      does = λ v below good c. once_lost w task name p v c (Event.ModRefs task name number delta) below good
          (λ now s t sh loses. ((refl, inr (inr (inr (Target.once p, gone, named w s sh.agrees task name (entry_of.SendOnce p) is, (sym number_is, (loses, refl)))))), tt));
    }

    -- the send rights stay
    receive_goes : (e : Entry) (p : ℕ) → 1 ≡ number → delta ≡ negsuc 0 → entry_at w task name ≡ Some e → port_named e ≡ Some p → receive_named e ≡ Some p → Asks (Killing (receive_loss e p))
    receive_goes e p number_is gone is of receive = record {
      can = can_lose e p (send_references e) is receive refl (send_references e) (omega arith) (few_sends e is p of);
      does = λ v below good c. receive_lost w task name (receive_loss e p) v c (Event.ModRefs task name number delta) below good
          (λ now s sh t b. (
            (
              refl,
              inr (inr (inr (
                Target.port p,
                gone,
                named w s sh.agrees task name e is ∙ ap Some (target_named e p of),
                (sym number_is, (only_receive s t (of_port w s sh.agrees task name e is p of).1 b), refl),
              ))),
            ),
            tt,
          ));
    }
      where
        only_receive : (s t : State) → held s task send p ≡ send_references e → TakesSo task name (receive_loss e p) s t → LosesReceive task name p s t
        only_receive s t has b = (
          (λ h.
              let none : send_references e - send_references e ≡ 0 = omega arith in
              let z : weigh h (replicate (send_references e - send_references e) (token send p (in_task task))) ≡ 0 = ap (λ (k : ℕ). weigh h (replicate k (token send p (in_task task)))) none in
              let m = b.tokens h in omega (arith, m, z)),
          b.rest ∙ ap (λ (k : ℕ). record (name_kept (nat_lt 0 k) task name s) { ledger = t.ledger }) (sym has),
        )

    nowhere : (n : ℕ) → 0 ≡ n → 0 < n → ⊥
    nowhere n e some = omega (arith, e, some)

    asks : (r : Right) (e : Entry) (change : Change) (due : Due) → FindsRight w task name number r e → IsChange change delta → CanChange w.ledger.total r e change due → Asks due
    asks right.Send (entry_of.Send p n) change due f by can = subst Asks (sym can.1) (sends (entry_of.Send p n) p can.0 change refl f.number_is f.found by can.2 can.3 tt (λ s t b. b))
    asks right.Send (entry_of.ReceiveAndSend p n) change due f by can = subst Asks (sym can.1) (sends (entry_of.ReceiveAndSend p n) p can.0 change refl f.number_is f.found by can.2 can.3 tt (λ s t b. b))
    asks right.Send (entry_of.Receive p) change due f by can = absurd (nowhere 0 refl f.some)
    asks right.Send (entry_of.SendOnce p) change due f by can = absurd (nowhere 0 refl f.some)
    asks right.Send (entry_of.DeadName n) change due f by can = absurd (nowhere 0 refl f.some)
    asks right.Send (entry_of.Set set) change due f by can = absurd (nowhere 0 refl f.some)
    asks right.DeadName (entry_of.DeadName n) change due f by can = subst Asks (sym can.1) (plain (References (entry_of.DeadName n) can.0)
        record { found = f.found; few = few_sum n can.0 change can.2 (few_dead n f.found); room = λ q of. absurd (no_port q of) }
        tt (λ s sh t b. inr (inl (n, can.0, sym f.number_is, named w s sh.agrees task name (entry_of.DeadName n) f.found, adds n can.0 change delta by can.2, b, refl)))
        (other_number 4 f.number_is (λ e. omega (arith, e)) (λ e. omega (arith, e))))
    asks right.DeadName (entry_of.Receive p) change due f by can = absurd (nowhere 0 refl f.some)
    asks right.DeadName (entry_of.Send p n) change due f by can = absurd (nowhere 0 refl f.some)
    asks right.DeadName (entry_of.ReceiveAndSend p n) change due f by can = absurd (nowhere 0 refl f.some)
    asks right.DeadName (entry_of.SendOnce p) change due f by can = absurd (nowhere 0 refl f.some)
    asks right.DeadName (entry_of.Set set) change due f by can = absurd (nowhere 0 refl f.some)
    asks right.PortSet e change due f by can = elim (whole_due change (Ok (Disbanding can.0)) due delta by can.2) [
      | inl h ↦ subst Asks (ok_due due Nothing h.1) (nothing (inr (inr (sym f.number_is))) h.0)
      | inr h ↦ subst Asks (ok_due due (Disbanding can.0) h.1) (set_goes can.0 f.number_is h.0 (f.found ∙ ap Some (the_set e can.0 can.1)))
    ]
    asks right.Receive e change due f by can = elim (whole_due change (Ok (Killing (receive_loss e can.0))) due delta by can.2) [
      | inl h ↦ subst Asks (ok_due due Nothing h.1) (nothing (inl (sym f.number_is)) h.0)
      | inr h ↦ subst Asks (ok_due due (Killing (receive_loss e can.0)) h.1) (receive_goes e can.0 f.number_is h.0 f.found can.1 (the_receive e can.0 f.some can.1))
    ]
    asks right.SendOnce e change due f by can = elim (whole_due change (Ok (LosingOnce can.0)) due delta by can.2) [
      | inl h ↦ subst Asks (ok_due due Nothing h.1) (nothing (inr (inl (sym f.number_is))) h.0)
      | inr h ↦ subst Asks (ok_due due (LosingOnce can.0) h.1) (once_goes can.0 f.number_is h.0 (f.found ∙ ap Some (the_once e can.0 f.some can.1)))
    ]

    pub can_modify : (r : Right) (e : Entry) (change : Change) (due : Due) → FindsRight w task name number r e → IsChange change delta → CanChange w.ledger.total r e change due → CanCarry w task name due
    can_modify r e change due f by can = (asks r e change due f by can).can

    pub modifies : (r : Right) (e : Entry) (change : Change) (due : Due) (v : WorldView) → HasTask w task → FindsRight w task name number r e → IsChange change delta →
        CanChange w.ledger.total r e change due → Carries w task name due v → Completes w (Event.ModRefs task name number delta) (Reply.Code 0) v
    modifies r e change due v below f by can c = (asks r e change due f by can).does v below (modify_allowed w task name number delta r e f change by due can) c
