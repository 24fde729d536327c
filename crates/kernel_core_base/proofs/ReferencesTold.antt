-- How many references of a right a name has, as the tables and the machine count them.
use Rattle.std.proofs.Common.{◌≡◌, ℕ, ◌<◌, Some, refl, sym, ap, subst, ◌∙◌, arith, inl, inr, Option}
use Rattle.std.specs.Prelude.{◌≢◌}
use Rattle.mach_types.specs.declared.calls.Event.{Event}
use Rattle.mach_types.specs.declared.calls.Reply.{Reply}
use Rattle.mach_types.specs.declared.codes.KernReturn.TheVariants.{InvalidValue}
use Rattle.mach_types.specs.declared.rights.Right.{Right}
use Rattle.mach_types.specs.declared.rights.Right.TheVariants as right
use Rattle.mach_types.specs.Numbers.{right_number}
use Rattle.mach_types.specs.Codes.{kern_number}
use Rattle.mach_types.specs.Tokens.{receive}
use Rattle.mach_model.specs.State.{State, Target, held}
use Rattle.mach_model.specs.Refusals.{references_at, references_under, used_guards, call_guards}
use Rattle.mach_model.specs.Telling.{references}
use Rattle.name_space.specs.declared.Entry.{Entry}
use Rattle.name_space.specs.declared.Entry.TheVariants as entry
use Rattle.name_space.specs.Entry.{references_in}
use Rattle.copyin_base.specs.Serving.{IsRefused, Completes, Declines}
use Rattle.copyin_base.specs.Shows.{Agrees, target_of}
use Rattle.copyin_base.specs.Worlds.{WorldView, entry_at, HasTask}
use Rattle.copyin_base.proofs.Acting.{done, looked, refused}
use Rattle.copyin_base.proofs.Told.{used, found}

pub few_numbers : (r : Right) → ¬ (4 < right_number r)
few_numbers right.Send m = omega (arith, m)
few_numbers right.Receive m = omega (arith, m)
few_numbers right.SendOnce m = omega (arith, m)
few_numbers right.PortSet m = omega (arith, m)
few_numbers right.DeadName m = omega (arith, m)

pub no_right : (number : ℕ) → ((r : Right) → right_number r ≢ number) → 4 < number
no_right number none =
    let a : 0 ≢ number = none right.Send in
    let b : 1 ≢ number = none right.Receive in
    let c : 2 ≢ number = none right.SendOnce in
    let d : 3 ≢ number = none right.PortSet in
    let e : 4 ≢ number = none right.DeadName in
    omega (arith, a, b, c, d, e)

-- the tables count the references that the machine counts
module _ (w : WorldView) (s : State) (a : Agrees w s) (task name : ℕ) where
  pub counted : (r : Right) (e : Entry) → entry_at w task name ≡ Some e → references_in r e ≡ references s task (target_of e) (right_number r)
  counted right.Send (entry.Receive p) is = sym ((a.references task name (entry.Receive p) p is refl).1)
  counted right.Send (entry.Send p n) is = sym ((a.references task name (entry.Send p n) p is refl).1)
  counted right.Send (entry.ReceiveAndSend p n) is = sym ((a.references task name (entry.ReceiveAndSend p n) p is refl).1)
  counted right.Receive (entry.Receive p) is = let h : held s task receive p ≡ 1 = (a.references task name (entry.Receive p) p is refl).0 in rw h refl
  counted right.Receive (entry.Send p n) is = let h : held s task receive p ≡ 0 = (a.references task name (entry.Send p n) p is refl).0 in rw h refl
  counted right.Receive (entry.ReceiveAndSend p n) is = let h : held s task receive p ≡ 1 = (a.references task name (entry.ReceiveAndSend p n) p is refl).0 in rw h refl
  counted right.SendOnce (entry.Receive p) is = refl
  counted right.SendOnce (entry.Send p n) is = refl
  counted right.SendOnce (entry.ReceiveAndSend p n) is = refl
  counted right.PortSet (entry.Receive p) is = refl
  counted right.PortSet (entry.Send p n) is = refl
  counted right.PortSet (entry.ReceiveAndSend p n) is = refl
  counted right.DeadName (entry.Receive p) is = refl
  counted right.DeadName (entry.Send p n) is = refl
  counted right.DeadName (entry.ReceiveAndSend p n) is = refl
  counted right.Send (entry.SendOnce p) is = refl
  counted right.Receive (entry.SendOnce p) is = refl
  counted right.SendOnce (entry.SendOnce p) is = refl
  counted right.PortSet (entry.SendOnce p) is = refl
  counted right.DeadName (entry.SendOnce p) is = refl
  counted right.Send (entry.DeadName n) is = refl
  counted right.Receive (entry.DeadName n) is = refl
  counted right.SendOnce (entry.DeadName n) is = refl
  counted right.PortSet (entry.DeadName n) is = refl
  counted right.DeadName (entry.DeadName n) is = refl
  counted right.Send (entry.Set set) is = refl
  counted right.Receive (entry.Set set) is = refl
  counted right.SendOnce (entry.Set set) is = refl
  counted right.PortSet (entry.Set set) is = refl
  counted right.DeadName (entry.Set set) is = refl

  pub references_are : (r : Right) (e : Entry) → entry_at w task name ≡ Some e → references_at s task name (right_number r) ≡ references_in r e
  references_are r e is = ap (λ (o : Option Target). references_under s task o (right_number r)) (found w s a task name e is) ∙ sym (counted r e is)

-- ---- GetRefs

module _ (w : WorldView) (task name number : ℕ) (below : HasTask w task) where
  pub refs_no_right : ((r : Right) → right_number r ≢ number) → Declines w (Event.GetRefs task name number) (kern_number InvalidValue) w
  refs_no_right none = refused w (Event.GetRefs task name number) below (kern_number InvalidValue) (record { refused = λ s sh. inl (no_right number none, refl) })

  pub refs_no_name : (r : Right) → right_number r ≡ number → (code : ℕ) → IsRefused w (λ s. used_guards s task name) code → IsRefused w (λ s. call_guards s (Event.GetRefs task name number)) code
  refs_no_name r is code why = record { refused = λ s sh. inr (subst (λ (k : ℕ). ¬ (4 < k)) is (few_numbers r), why.refused s sh) }

  pub refs_told : (r : Right) (e : Entry) → right_number r ≡ number → entry_at w task name ≡ Some e → Completes w (Event.GetRefs task name number) (Reply.Refs (references_in r e)) w
  refs_told r e is there = done w (Event.GetRefs task name number) (Reply.Refs (references_in r e)) w below
      (record { allowed = λ s sh. (subst (λ (k : ℕ). ¬ (4 < k)) is (few_numbers r), (used w s sh.agrees task name e there, tt)) })
      (λ now s sh. looked w (Event.GetRefs task name number) (Reply.Refs (references_in r e)) now s sh tt (refl, refl) (
        target_of e,
        found w s sh.agrees task name e there,
        subst (λ (k : ℕ). references_in r e ≡ references s task (target_of e) k) is (counted w s sh.agrees task name r e there),
      ))
