-- A port that a receipt takes from and that has a message.
use Rattle.std.proofs.Common.{◌≡◌, ℕ, ◌<◌, ◌≤◌, [], Some, None, Option, Bool, true, false, refl, sym, ap, subst, ◌∙◌, length, arith}
use Rattle.std.specs.Prelude.{MatchBool, MatchOption, IfSome, IfNone, is_some}
use Rattle.std.specs.Option.{option_and_then, option_map}
use Rattle.std.specs.FinMap as map
use Rattle.mach_types.specs.declared.calls.Waited.{Waited}
use Rattle.name_space.specs.declared.Entry.{Entry}
use Rattle.name_space.specs.declared.Entry.TheVariants as entry
use Rattle.name_space.specs.Entry.{receive_named}
use Rattle.port.specs.Ports.{PortView, PortsView}
use Rattle.port_set.specs.Sets.{IsReady, NoneReady}
use Rattle.copyin_base.specs.Kept.{Kept}
use Rattle.copyin_base.specs.Worlds.{WorldView, entry_at, port_at}
use Rattle.kernel_core.specs.Receive.{HasMessage, IsMember, IsAlone, NoneWaits, Sources, waited_at}
use Rattle.kernel_core.proofs.Receiving.{member_or_not}

waits_by_port : (w : WorldView) (port : ℕ) (v : PortView Kept) → port_at w port ≡ Some v → 0 < length v.queue → HasMessage w (Waited.Port port) port
waits_by_port w port v there some = record { from = record { v = v; there = there; is_of = refl }; some = some }

pub port_ready : (w : WorldView) (ports : PortsView Kept) (waited : Waited) (port n : ℕ) → ports ≡ w.ports → waited ≡ Waited.Port port →
    ((v : PortView Kept) → map.get ports.ports port ≡ Some v → n ≡ length v.queue) → (map.get ports.ports port ≡ None → n ≡ 0) → 0 < n → HasMessage w waited port
port_ready w ports waited port n same is live gone some = subst (λ (x : Waited). HasMessage w x port) (sym is) (go (port_at w port) refl)
  where
    same_port : map.get ports.ports port ≡ port_at w port
    same_port = ap (λ (x : PortsView Kept). map.get x.ports port) same

    go : (o : Option (PortView Kept)) → port_at w port ≡ o → HasMessage w (Waited.Port port) port
    go (Some v) e = let many = live v (same_port ∙ e) in waits_by_port w port v e (omega (arith, many, some))
    go None e = absurd (let none = gone (same_port ∙ e) in omega (arith, none, some))

pub member_ready : (w : WorldView) (ports : PortsView Kept) (waited : Waited) (set : ℕ) (o : Option ℕ) → ports ≡ w.ports → waited ≡ Waited.Set set →
    IfSome o (λ port. IsReady ports set port) → IfNone o (NoneReady ports set) → MatchOption o (NoneWaits w waited) (HasMessage w waited)
member_ready w ports waited set o same is some none = subst (λ (x : Waited). MatchOption o (NoneWaits w x) (HasMessage w x)) (sym is) (go o some none)
  where
    go : (o : Option ℕ) → IfSome o (λ port. IsReady ports set port) → IfNone o (NoneReady ports set) → MatchOption o (NoneWaits w (Waited.Set set)) (HasMessage w (Waited.Set set))
    go None some none = λ p v there member. none.empty p v (ap (λ (x : PortsView Kept). map.get x.ports p) same ∙ there) member
    go (Some port) some none = record {
      from = record { v = some.view; there = ap (λ (x : PortsView Kept). map.get x.ports port) (sym same) ∙ some.there; is_of = some.member };
      some = some.some;
    }

-- ---- what was found ready, as it was told

pub ready_one : (w : WorldView) (waited : Waited) (o : Option ℕ) (port : ℕ) → o ≡ Some port → MatchOption o (NoneWaits w waited) (HasMessage w waited) → HasMessage w waited port
ready_one w waited o port is = subst (λ (x : Option ℕ). MatchOption x (NoneWaits w waited) (HasMessage w waited)) is

pub ready_none : (w : WorldView) (waited : Waited) (o : Option ℕ) → o ≡ None → MatchOption o (NoneWaits w waited) (HasMessage w waited) → NoneWaits w waited
ready_none w waited o is = subst (λ (x : Option ℕ). MatchOption x (NoneWaits w waited) (HasMessage w waited)) is

-- a port by what one look-up told of it
module _ (w : WorldView) (ports : PortsView Kept) (port : ℕ) (is_member : Bool) (n : ℕ) (same : ports ≡ w.ports)
    (told : (v : PortView Kept) → map.get ports.ports port ≡ Some v → (is_member ≡ is_some v.attributes.set) × (n ≡ length v.queue)) where
  told_of : (v : PortView Kept) → port_at w port ≡ Some v → (is_member ≡ is_some v.attributes.set) × (n ≡ length v.queue)
  told_of v there = told v (ap (λ (x : PortsView Kept). map.get x.ports port) same ∙ there)

  pub port_waits : is_some (port_at w port) ≡ true → 0 < n → HasMessage w (Waited.Port port) port
  port_waits live some = go (port_at w port) refl
    where
      go : (o : Option (PortView Kept)) → port_at w port ≡ o → HasMessage w (Waited.Port port) port
      go (Some v) e = let many = (told_of v e).1 in waits_by_port w port v e (omega (arith, many, some))
      go None e = absurd (let none : true ≡ false = sym live ∙ ap is_some e in cc)

  pub port_empty : n ≤ 0 → NoneWaits w (Waited.Port port)
  port_empty none = λ p v there is. let many = (told_of v (ap (port_at w) (sym is) ∙ there)).1 in omega (arith, many, none)

  pub member_told : ((v : PortView Kept) → map.get ports.ports port ≡ Some v → v.attributes.set ≡ None → v.more ≡ []) → is_some (port_at w port) ≡ true → MatchBool is_member (IsMember w port) (IsAlone w port)
  member_told nowhere live = go (port_at w port) refl
    where
      go : (o : Option (PortView Kept)) → port_at w port ≡ o → MatchBool is_member (IsMember w port) (IsAlone w port)
      go (Some v) e = member_or_not w port v.attributes (record { v = v; there = e; are = refl; none = nowhere v (ap (λ (x : PortsView Kept). map.get x.ports port) same ∙ e) }) is_member (told_of v e).0
      go None e = absurd (let none : true ≡ false = sym live ∙ ap is_some e in cc)

-- ---- the port as a source

pub source_is : (w : WorldView) (task name port : ℕ) (waited : Waited) → waited ≡ Waited.Port port → Sources w task name (Waited.Port port) → Sources w task name waited
source_is w task name port waited is = subst (Sources w task name) (sym is)

pub source_ready : (w : WorldView) (port : ℕ) (o : Option ℕ) (waited : Waited) → waited ≡ Waited.Port port → MatchOption o (NoneWaits w (Waited.Port port)) (HasMessage w (Waited.Port port))
    → MatchOption o (NoneWaits w waited) (HasMessage w waited)
source_ready w port o waited is = subst (λ (x : Waited). MatchOption o (NoneWaits w x) (HasMessage w x)) (sym is)

received_at : (e : Entry) (port : ℕ) → receive_named e ≡ Some port → waited_at e ≡ Some (Waited.Port port)
received_at (entry.Receive p) port is = ap (option_map Waited.Port) is
received_at (entry.ReceiveAndSend p n) port is = ap (option_map Waited.Port) is
received_at (entry.Send p n) port is = absurd (cc)
received_at (entry.SendOnce p) port is = absurd (cc)
received_at (entry.DeadName n) port is = absurd (cc)
received_at (entry.Set set) port is = absurd (cc)

pub source_found : (w : WorldView) (task name : ℕ) (e : Entry) → entry_at w task name ≡ Some e → (port : ℕ) → receive_named e ≡ Some port → (waited : Waited) → waited ≡ Waited.Port port
    → option_and_then waited_at (entry_at w task name) ≡ Some waited
source_found w task name e there port named waited is = ap (option_and_then waited_at) there ∙ received_at e port named ∙ ap (λ (x : Waited). Some x) (sym is)

pub when_member : (b : Bool) (P Q : Type 0) → MatchBool b P Q → b ≡ true → P
when_member b P Q h is = subst (λ (x : Bool). MatchBool x P Q) is h

pub when_alone : (b : Bool) (P Q : Type 0) → MatchBool b P Q → b ≡ false → Q
when_alone b P Q h is = subst (λ (x : Bool). MatchBool x P Q) is h
