-- Which right may go from a name, in the tables and in each state that they show.
use Rattle.std.proofs.Common.{◌≡◌, ◌≢◌, ℕ, ◌≤◌, [], ◌∷◌, Option, Some, None, refl, sym, ap, subst, ◌∙◌, arith, ◌⊎◌, inl, inr, length}
use Rattle.std.specs.FinMap as map
use Rattle.mach_types.specs.declared.rights.Disposition.{Disposition}
use Rattle.mach_types.specs.declared.rights.Disposition.TheVariants.{MoveReceive, MoveSend, MoveSendOnce, CopySend, MakeSend, MakeSendOnce}
use Rattle.mach_types.specs.declared.codes.KernReturn.{KernReturn}
use Rattle.mach_types.specs.declared.codes.KernReturn.TheVariants.{InvalidName, InvalidRight, InvalidValue, InvalidCapability}
use Rattle.mach_types.specs.Guards.{FirstIs, NoneHolds}
use Rattle.mach_types.specs.Messages.{to_port, dead}
use Rattle.mach_types.specs.Numbers.{disposition}
use Rattle.mach_types.specs.Rights.{disposition_number}
use Rattle.mach_types.specs.Codes.{kern_number}
use Rattle.mach_model.specs.State.{State, Target}
use Rattle.mach_model.specs.SentMeans.{target_mark}
use Rattle.mach_model.specs.CopyIn.{CopyRight}
use Rattle.mach_model.specs.NameGuards.{IsDeadName, IsLegalName, IsNoName, IsUnused}
use Rattle.mach_model.specs.Refusals.{IsDisposition, used_guards, insert_guards, extract_guards}
use Rattle.mach_model.proofs.Moving.{moving}
use Rattle.name_space.specs.declared.Entry.{Entry}
use Rattle.name_space.specs.declared.Entry.TheVariants as entry
use Rattle.name_space.specs.Names.{SpaceView, IsUsable}
use Rattle.copyin_base.specs.Serving.{IsRefused}
use Rattle.copyin_base.specs.Shows.{target_of, Shows}
use Rattle.copyin_base.specs.Worlds.{WorldView, entry_in, entry_at, space_at}
use Rattle.copyin_base.specs.declared.Mark.TheVariants as mark
use Rattle.copyin_base.proofs.Gets.{same_found}
use Rattle.copyin_base.proofs.Told.{found}
use Rattle.dispositions.specs.Copies.{copied_from}
use Rattle.dispositions.specs.declared.Copied.{Copied}
use Rattle.copyin.proofs.Judging.{number_of, given_ports}
use Rattle.copyin.proofs.Refused.{legal_copies}
use Rattle.transfer.specs.Transfer.{going_guards}

-- ---- numbers of dispositions

is_in_range : (d : Disposition) → IsDisposition (disposition_number d)
is_in_range MoveReceive = (omega arith, omega arith)
is_in_range MoveSend = (omega arith, omega arith)
is_in_range MoveSendOnce = (omega arith, omega arith)
is_in_range CopySend = (omega arith, omega arith)
is_in_range MakeSend = (omega arith, omega arith)
is_in_range MakeSendOnce = (omega arith, omega arith)

pub some_disposition : (number : ℕ) (d : Disposition) → disposition number ≡ Some d → IsDisposition number
some_disposition number d is = subst IsDisposition (number_of number d is) (is_in_range d)

no_disposition : (number : ℕ) → disposition number ≡ None → ¬ (IsDisposition number)
no_disposition number none h = let d = given_ports number h in let e : None ≡ Some d.0 = sym none ∙ d.1 in cc

pub usable_name : (name : ℕ) → ¬ (IsNoName name) → IsUsable name
usable_name name named = record { not_null = λ e. named (inl e); not_dead = λ e. named (inr (omega (arith, e))) }

-- ---- what goes from what stands under a name

-- from a dead name a right goes by these dispositions
dead_goes : (d : Disposition) (n : ℕ) → 17 ≤ disposition_number d → disposition_number d ≤ 19 → copied_from d (entry.DeadName n) ≡ None → ⊥
dead_goes MoveReceive n x y f = omega (arith, x)
dead_goes MoveSend n x y f = (let z : None ≡ Some _ = sym f ∙ refl in cc)
dead_goes MoveSendOnce n x y f = (let z : None ≡ Some _ = sym f ∙ refl in cc)
dead_goes CopySend n x y f = (let z : None ≡ Some _ = sym f ∙ refl in cc)
dead_goes MakeSend n x y f = omega (arith, y)
dead_goes MakeSendOnce n x y f = omega (arith, y)

is_dead : (x : Entry) (n : ℕ) → target_of x ≡ Target.dead n → x ≡ entry.DeadName n
is_dead (entry.DeadName m) n f = let g : m ≡ n = cc in ap entry.DeadName g
is_dead (entry.Receive p) n f = absurd (cc)
is_dead (entry.Send p m) n f = absurd (cc)
is_dead (entry.ReceiveAndSend p m) n f = absurd (cc)
is_dead (entry.SendOnce p) n f = absurd (cc)
is_dead (entry.Set m) n f = absurd (cc)

-- what goes from an entry, and isn't for a port, goes from a dead name by one of three dispositions
only_dead : (d : Disposition) (e : Entry) (c : Copied) → copied_from d e ≡ Some c → ((p : ℕ) → c.mark ≢ mark.Port p) →
    ((n : ℕ) × (e ≡ entry.DeadName n)) × (17 ≤ disposition_number d) × (disposition_number d ≤ 19)
only_dead MoveReceive (entry.Receive p) c is not = absurd (not p (let f = is in cc))
only_dead MoveReceive (entry.ReceiveAndSend p n) c is not = absurd (not p (let f = is in cc))
only_dead MoveSend (entry.Send p n) c is not = absurd (not p (let f = is in cc))
only_dead MoveSend (entry.ReceiveAndSend p n) c is not = absurd (not p (let f = is in cc))
only_dead MoveSend (entry.DeadName n) c is not = ((n, refl), omega arith, omega arith)
only_dead MoveSendOnce (entry.SendOnce p) c is not = absurd (not p (let f = is in cc))
only_dead MoveSendOnce (entry.DeadName n) c is not = ((n, refl), omega arith, omega arith)
only_dead CopySend (entry.Send p n) c is not = absurd (not p (let f = is in cc))
only_dead CopySend (entry.ReceiveAndSend p n) c is not = absurd (not p (let f = is in cc))
only_dead CopySend (entry.DeadName n) c is not = ((n, refl), omega arith, omega arith)
only_dead MakeSend (entry.Receive p) c is not = absurd (not p (let f = is in cc))
only_dead MakeSend (entry.ReceiveAndSend p n) c is not = absurd (not p (let f = is in cc))
only_dead MakeSendOnce (entry.Receive p) c is not = absurd (not p (let f = is in cc))
only_dead MakeSendOnce (entry.ReceiveAndSend p n) c is not = absurd (not p (let f = is in cc))
only_dead d e c is not = absurd (let f : None ≡ Some c = is in cc)

the_same : {A : Type 0} (x y : A) → Some x ≡ Some y → x ≡ y
the_same x y e = cc

module _ (w : WorldView) (from name number : ℕ) (d : Disposition) (given : disposition number ≡ Some d) (dead : KernReturn) where
  in_order : (a : Disposition) → disposition number ≡ Some a → 17 ≤ number → number ≤ 19 → (17 ≤ disposition_number a) × (disposition_number a ≤ 19)
  in_order a is x y = let z = number_of number a is in (omega (arith, x, z), omega (arith, y, z))

  -- nothing stands under the name
  pub unused_goes : (code : ℕ) → IsRefused w (λ s. used_guards s from name) code → IsRefused w (λ s. going_guards s from name number dead) code
  unused_goes code r = record { refused = λ s sh. go s (r.refused s sh) }
    where
      go : (s : State) → FirstIs (used_guards s from name) code → FirstIs (going_guards s from name number dead) code
      go s (inl h) = inr ((λ x. let f : None ≡ Some (Target.dead x.0.0) = sym h.0 ∙ x.0.1 in cc), inl h)
      go s (inr h) = absurd h.1

  module _ (e : Entry) (is : entry_at w from name ≡ Some e) where
    used : (s : State) → Shows w s → ¬ (IsUnused s from name)
    used s sh none = let f : None ≡ Some (target_of e) = sym none ∙ found w s sh.agrees from name e is in cc

    illegal : (s : State) → Shows w s → copied_from d e ≡ None → ¬ (IsLegalName s from name number)
    illegal s sh none legal =
        let space = space_of (space_at w from) is in
        let l = legal_copies w s 0 (length (s.log 0)) from space.0.names
        (record { agrees = sh.agrees; moving = moving s 0 (length (s.log 0)) sh.lawful; space = space.0; there = space.1; names_are = refl; requested = sh.requested }) name number legal in
        let c = l.2 in
        let same_entry : c.entry ≡ e = same_found (map.get space.0.names name) c.entry e c.found space.2 in
        let same_given : l.0.given ≡ d = the_same l.0.given d (sym c.is_given ∙ given) in
        no_copied c.copied (sym none ∙ sym (ap (λ (x : Entry). copied_from d x) same_entry) ∙ sym (ap (λ (x : Disposition). copied_from x c.entry) same_given) ∙ c.is)
      where
        space_of : (o : Option SpaceView) → entry_in o name ≡ Some e → (space : SpaceView) × (o ≡ Some space) × (map.get space.names name ≡ Some e)
        space_of (Some space) is = (space, refl, is)
        space_of None is = absurd (let e' : None ≡ Some e = is in cc)

        no_copied : (x : Copied) → None ≡ Some x → ⊥
        no_copied x f = cc

    pub illegal_goes : copied_from d e ≡ None → IsRefused w (λ s. going_guards s from name number dead) (kern_number InvalidRight)
    illegal_goes none = record { refused = λ s sh. inr (not_dead s sh, inr (used s sh, inl (illegal s sh none, refl))) }
      where
        not_dead : (s : State) → Shows w s → IsDeadName s from name × (17 ≤ number) × (number ≤ 19) → ⊥
        not_dead s sh h =
            let t : target_of e ≡ Target.dead h.0.0 = the_same (target_of e) (Target.dead h.0.0) (sym (found w s sh.agrees from name e is) ∙ h.0.1) in
            let r = in_order d given h.1 h.2 in
            dead_goes d h.0.0 r.0 r.1 (ap (copied_from d) (sym (is_dead e h.0.0 t)) ∙ none)

    pub dead_refused : (c : Copied) → copied_from d e ≡ Some c → ((p : ℕ) → c.mark ≢ mark.Port p) → IsRefused w (λ s. going_guards s from name number dead) (kern_number dead)
    dead_refused c goes not = record {
      refused = λ s sh.
          let x = only_dead d e c goes not in
          let n = number_of number d given in
          inl (((x.0.0, found w s sh.agrees from name e is ∙ ap (λ (y : Entry). Some (target_of y)) x.0.1), subst (λ (m : ℕ). 17 ≤ m) n x.1, subst (λ (m : ℕ). m ≤ 19) n x.2), refl);
    }

-- ---- where a right that goes was copied in, no guard holds

-- a right that goes isn't dead
not_dead : (d : Disposition) (n p : ℕ) → target_mark d (Target.dead n) ≡ Some (to_port p) → ⊥
not_dead MoveReceive n p e = let f : None ≡ Some (to_port p) = e in cc
not_dead MoveSend n p e = let f : Some dead ≡ Some (to_port p) = e in cc
not_dead MoveSendOnce n p e = let f : Some dead ≡ Some (to_port p) = e in cc
not_dead CopySend n p e = let f : Some dead ≡ Some (to_port p) = e in cc
not_dead MakeSend n p e = let f : None ≡ Some (to_port p) = e in cc
not_dead MakeSendOnce n p e = let f : None ≡ Some (to_port p) = e in cc

module _ (s : State) (from name number p : ℕ) (place : _) (t : State) (r : CopyRight from place number name s (to_port p) t) where
  is_legal : IsLegalName s from name number
  is_legal = (r.given, r.target, r.is_given, r.found, r.legal)

  is_used : ¬ (IsUnused s from name)
  is_used none = let f : None ≡ Some r.target = sym none ∙ r.found in cc

  is_alive : ¬ (IsDeadName s from name)
  is_alive h = not_dead r.given h.0 p (ap (target_mark r.given) (sym (the_same r.target (Target.dead h.0) (sym r.found ∙ h.1))) ∙ r.mark_is)

  pub insert_good : (task to_name : ℕ) → ¬ (IsNoName to_name) → ¬ (IsNoName name) → NoneHolds (insert_guards s task to_name from name number)
  insert_good task to_name to_named named = (value_good, (capability_good, (is_used, ((λ h. h is_legal), tt))))
    where
      value_good : ¬ (IsNoName to_name ⊎ ¬ (IsDisposition number))
      value_good (inl n) = to_named n
      value_good (inr n) = n (some_disposition number r.given r.is_given)

      capability_good : ¬ (IsNoName name ⊎ IsDeadName s from name × (17 ≤ number) × (number ≤ 19))
      capability_good (inl n) = named n
      capability_good (inr n) = is_alive n.0

  pub extract_good : (to : ℕ) → NoneHolds (extract_guards s from name number to)
  extract_good to = ((λ n. n (some_disposition number r.given r.is_given)), (is_used, (right_good, tt)))
    where
      right_good : ¬ (¬ (IsLegalName s from name number) ⊎ IsDeadName s from name)
      right_good (inl n) = n is_legal
      right_good (inr n) = is_alive n

-- ---- refusals to insert and to extract, before a right was copied in

module _ (w : WorldView) (task name from poly number : ℕ) where
  pub no_name_inserted : IsNoName name → IsRefused w (λ s. insert_guards s task name from poly number) (kern_number InvalidValue)
  no_name_inserted h = record { refused = λ s sh. inl (inl h, refl) }

  pub no_disposition_inserted : disposition number ≡ None → IsRefused w (λ s. insert_guards s task name from poly number) (kern_number InvalidValue)
  no_disposition_inserted none = record { refused = λ s sh. inl (inr (no_disposition number none), refl) }

  module _ (named : ¬ (IsNoName name)) (d : Disposition) (given : disposition number ≡ Some d) where
    value_good : ¬ (IsNoName name ⊎ ¬ (IsDisposition number))
    value_good (inl n) = named n
    value_good (inr n) = n (some_disposition number d given)

    pub no_source_inserted : IsNoName poly → IsRefused w (λ s. insert_guards s task name from poly number) (kern_number InvalidCapability)
    no_source_inserted h = record { refused = λ s sh. inr (value_good, inl (inl h, refl)) }

    pub none_goes_inserted : ¬ (IsNoName poly) → (code : ℕ) → IsRefused w (λ s. going_guards s from poly number InvalidCapability) code →
        IsRefused w (λ s. insert_guards s task name from poly number) code
    none_goes_inserted poly_named code r = record { refused = λ s sh. inr (value_good, go s (r.refused s sh)) }
      where
        go : (s : State) → FirstIs (going_guards s from poly number InvalidCapability) code → FirstIs ((IsNoName poly ⊎ IsDeadName s from poly × (17 ≤ number) × (number ≤ 19), kern_number InvalidCapability)
            ∷ (IsUnused s from poly, kern_number InvalidName) ∷ (¬ (IsLegalName s from poly number), kern_number InvalidRight) ∷ []) code
        go s (inl h) = inl (inr h.0, h.1)
        go s (inr h) = inr (
          (λ x. elim x [
            | inl n ↦ poly_named n
            | inr n ↦ h.0 n
          ]),
          h.1,
        )

module _ (w : WorldView) (from name number to : ℕ) where
  pub no_disposition_extracted : disposition number ≡ None → IsRefused w (λ s. extract_guards s from name number to) (kern_number InvalidValue)
  no_disposition_extracted none = record { refused = λ s sh. inl (no_disposition number none, refl) }

  pub none_goes_extracted : (d : Disposition) → disposition number ≡ Some d → (code : ℕ) → IsRefused w (λ s. going_guards s from name number InvalidRight) code →
      IsRefused w (λ s. extract_guards s from name number to) code
  none_goes_extracted d given code r = record { refused = λ s sh. inr ((λ n. n (some_disposition number d given)), go s (r.refused s sh)) }
    where
      go : (s : State) → FirstIs (going_guards s from name number InvalidRight) code →
          FirstIs ((IsUnused s from name, kern_number InvalidName) ∷ (¬ (IsLegalName s from name number) ⊎ IsDeadName s from name, kern_number InvalidRight) ∷ []) code
      go s (inl h) = inr ((λ none. let f : None ≡ Some (Target.dead h.0.0.0) = sym none ∙ h.0.0.1 in cc), inl (inr h.0.0, h.1))
      go s (inr (not, inl h)) = inl h
      go s (inr (not, inr (used, inl h))) = inr (used, inl (inl h.0, h.1))
      go s (inr (not, inr (used, inr h))) = absurd h.1
