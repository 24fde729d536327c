-- The name by which a receive goes is the task's for the port that it takes from.
use Rattle.std.proofs.Common.{◌≡◌, ℕ, Option, Some, None, IfSome, refl, sym, ap, subst, ◌∙◌}
use Rattle.std.specs.Option.{option_and_then}
use Rattle.mach_types.specs.declared.calls.Waited.{Waited}
use Rattle.name_space.specs.declared.Entry.{Entry}
use Rattle.name_space.specs.declared.Entry.TheVariants as entry
use Rattle.name_space.specs.Entry.{receive_named}
use Rattle.copyin_base.specs.Finds.{FindsReceive}
use Rattle.copyin_base.specs.Worlds.{WorldView, entry_at}
use Rattle.kernel_core.specs.Receive.{IsFrom, waited_at}

abbrev waited_port : Waited → Option ℕ
waited_port (Waited.Port p) = Some p
waited_port (Waited.Set set) = None

abbrev port_waited : (o : Option Waited) → Option ℕ
port_waited None = None
port_waited (Some waited) = waited_port waited

named_at : (e : Entry) → port_waited (waited_at e) ≡ receive_named e
named_at (entry.Receive p) = refl
named_at (entry.ReceiveAndSend p n) = refl
named_at (entry.Send p n) = refl
named_at (entry.SendOnce p) = refl
named_at (entry.DeadName n) = refl
named_at (entry.Set set) = refl

module _ (w : WorldView) (task : ℕ) where
  finds : (name port : ℕ) (o : Option Entry) → entry_at w task name ≡ o → option_and_then waited_at o ≡ Some (Waited.Port port) → FindsReceive w task name port
  finds name port None e h = absurd (let n : None ≡ Some port = ap port_waited h in cc)
  finds name port (Some x) e h = record { entry = x; found = e; named = sym (named_at x) ∙ ap port_waited h }

  pub known_named : (name : ℕ) (waited : Waited) (known : Option ℕ) → option_and_then waited_at (entry_at w task name) ≡ Some waited
      → IfSome known (λ k. (k ≡ name) × ((port : ℕ) × (waited ≡ Waited.Port port))) → IfSome known (λ k. (port : ℕ) → IsFrom w waited port → FindsReceive w task k port)
  known_named name waited None found is = tt
  known_named name waited (Some k) found is = λ port from.
      let to : IsFrom w (Waited.Port is.1.0) port = subst (λ (x : Waited). IsFrom w x port) is.1.1 from in
      subst (λ (n : ℕ). FindsReceive w task n port) (sym is.0)
      (subst (λ (p : ℕ). FindsReceive w task name p) (sym to.is_of) (finds name is.1.0 (entry_at w task name) refl (found ∙ ap (λ (x : Waited). Some x) is.1.1)))

  pub known_here : (waited : Waited) (known : Option ℕ) (port : ℕ) → IsFrom w waited port → IfSome known (λ k. (p : ℕ) → IsFrom w waited p → FindsReceive w task k p)
      → IfSome known (λ k. FindsReceive w task k port)
  known_here waited None port from is = tt
  known_here waited (Some k) port from is = is port from
