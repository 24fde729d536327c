-- What the tables tell of a state that they agree with.
use Rattle.std.proofs.Common.{◌≡◌, ℕ, ◌<◌, ◌≤◌, ◌⊎◌, Option, Some, None, refl, sym, ap, ◌∙◌, arith, true, false, inl, inr}
use Rattle.std.specs.Prelude.{is_some, ◌≢◌}
use Rattle.std.specs.Option.{option_map}
use Rattle.std.specs.FinMap as map
use Rattle.std.proofs.lemmas.Bool.{false_from_ne_true}
use Rattle.std.proofs.lemmas.Bool.Decides.{eqb_tells}
use Rattle.mach_types.specs.Numbers.{null_word, dead_word}
use Rattle.mach_types.specs.Tokens.{receive}
use Rattle.mach_model.specs.State.{State, Target, lookup, held, Holds}
use Rattle.mach_model.specs.NameGuards.{IsNoTask, IsNoName, NamesReceive}
use Rattle.mach_model.specs.Telling.{one_if}
use Rattle.mach_model.specs.Lawful.{IsLawful}
use Rattle.mach_model.proofs.Settling.{named_lives}
use Rattle.name_space.specs.declared.Entry.{Entry}
use Rattle.name_space.specs.declared.Entry.TheVariants as entry
use Rattle.name_space.specs.Entry.{port_named, has_receive, receive_named}
use Rattle.name_space.specs.Names.{SpaceView}
use Rattle.port.specs.declared.Holder.TheVariants as holder
use Rattle.port.specs.Ports.{PortView}
use Rattle.tables_base.specs.Kept.{Kept}
use Rattle.copyin_base.specs.Worlds.{WorldView, HasTask, space_at, entry_at, port_at}
use Rattle.copyin_base.specs.Shows.{target_of, Agrees, HoldersAgree}
use Rattle.copyin_base.proofs.Gets.{seen, same_found}

-- only a receive or send right's name shows as a port's
pub port_of : (e : Entry) (p : ℕ) → target_of e ≡ Target.port p → port_named e ≡ Some p
port_of (entry.Receive q) p e = let g : q ≡ p = cc in ap (λ (x : ℕ). Some x) g
port_of (entry.Send q n) p e = let g : q ≡ p = cc in ap (λ (x : ℕ). Some x) g
port_of (entry.ReceiveAndSend q n) p e = let g : q ≡ p = cc in ap (λ (x : ℕ). Some x) g
port_of (entry.SendOnce q) p e = absurd (cc)
port_of (entry.DeadName m) p e = absurd (cc)
port_of (entry.Set m) p e = absurd (cc)

-- what has a receive right is named for its port, and the other way round
pub receive_has : (e : Entry) (p : ℕ) → receive_named e ≡ Some p → (port_named e ≡ Some p) × (has_receive e ≡ true) × (target_of e ≡ Target.port p)
receive_has (entry.Receive q) p e = let g : q ≡ p = cc in (e, refl, ap (λ (x : ℕ). Target.port x) g)
receive_has (entry.Send q n) p e = absurd (cc)
receive_has (entry.ReceiveAndSend q n) p e = let g : q ≡ p = cc in (e, refl, ap (λ (x : ℕ). Target.port x) g)
receive_has (entry.SendOnce q) p e = absurd (cc)
receive_has (entry.DeadName m) p e = absurd (cc)
receive_has (entry.Set m) p e = absurd (cc)

has_none : (e : Entry) → receive_named e ≡ None → has_receive e ≡ false
has_none (entry.Receive q) e = absurd (cc)
has_none (entry.Send q n) e = refl
has_none (entry.ReceiveAndSend q n) e = absurd (cc)
has_none (entry.SendOnce q) e = refl
has_none (entry.DeadName m) e = refl
has_none (entry.Set m) e = refl

pub is_there : {A : Type 0} (o : Option A) → is_some o ≡ true → (x : A) × (o ≡ Some x)
is_there (Some x) e = (x, refl)
is_there None e = absurd (cc)

pub not_there : {A : Type 0} (o : Option A) → is_some o ≡ false → o ≡ None
not_there (Some x) e = absurd (cc)
not_there None e = refl

pub space_there : (w : WorldView) (task : ℕ) → HasTask w task → (space : SpaceView) × (space_at w task ≡ Some space)
space_there w task lives = is_there (space_at w task) lives

pub port_got : (o : Option (PortView Kept)) → is_some o ≡ true → (v : PortView Kept) × (o ≡ Some v)
port_got (Some v) e = (v, refl)
port_got None e = absurd (cc)

module _ (w : WorldView) (s : State) (a : Agrees w s) where
  pub no_task : (task : ℕ) → space_at w task ≡ None → IsNoTask s task
  no_task task e = sym (a.live_task task) ∙ ap is_some e

  pub is_task : (task : ℕ) (space : SpaceView) → space_at w task ≡ Some space → ¬ (IsNoTask s task)
  is_task task space e not = let l : true ≡ s.live_task task = sym (ap is_some e) ∙ a.live_task task in cc

  pub past_tasks : (task : ℕ) → ¬ (HasTask w task) → IsNoTask s task
  past_tasks task none = no_task task (not_there (space_at w task) (false_from_ne_true (is_some (space_at w task)) none))

  pub among_tasks : (task : ℕ) → HasTask w task → ¬ (IsNoTask s task)
  among_tasks task lives = let x = space_there w task lives in is_task task x.0 x.1

  pub unused : (task name : ℕ) → entry_at w task name ≡ None → lookup s task name ≡ None
  unused task name e = a.naming task name ∙ ap (option_map target_of) e

  pub found : (task name : ℕ) (x : Entry) → entry_at w task name ≡ Some x → lookup s task name ≡ Some (target_of x)
  found task name x e = a.naming task name ∙ ap (option_map target_of) e

  pub used : (task name : ℕ) (x : Entry) → entry_at w task name ≡ Some x → ¬ (lookup s task name ≡ None)
  used task name x e none = let f = found task name x e in cc

  pub holds_receive : (task name : ℕ) (x : Entry) (p : ℕ) → entry_at w task name ≡ Some x → receive_named x ≡ Some p → Holds s task receive p
  holds_receive task name x p e is =
      let r = receive_has x p is in
      let h = (a.references task name x p e r.0).0 in
      let one : one_if (has_receive x) ≡ 1 = ap one_if r.1 in omega (arith, h, one)

  pub names_port : (task name : ℕ) (x : Entry) (p : ℕ) → entry_at w task name ≡ Some x → receive_named x ≡ Some p → lookup s task name ≡ Some (Target.port p)
  names_port task name x p e is = found task name x e ∙ ap (λ (t : Target). Some t) (receive_has x p is).2

  pub names_receive : (task name : ℕ) (x : Entry) (p : ℕ) → entry_at w task name ≡ Some x → receive_named x ≡ Some p → NamesReceive s task name
  names_receive task name x p e is = (p, names_port task name x p e is, holds_receive task name x p e is)

  pub not_receive : (task name : ℕ) (x : Entry) → entry_at w task name ≡ Some x → receive_named x ≡ None → ¬ (NamesReceive s task name)
  not_receive task name x e none h =
      let same : target_of x ≡ Target.port h.0 = the_same (target_of x) (Target.port h.0) (sym (found task name x e) ∙ h.1) in
      let r = (a.references task name x h.0 e (port_of x h.0 same)).0 in
      let zero : one_if (has_receive x) ≡ 0 = ap one_if (has_none x none) in
      let some = h.2 in omega (arith, r, zero, some)
    where
      the_same : (x y : Target) → Some x ≡ Some y → x ≡ y
      the_same x y e = cc

  -- a task that has a port's receive right is its holder
  pub task_holds : HoldersAgree w → (p : ℕ) (v : PortView Kept) → port_at w p ≡ Some v → (task name : ℕ) → lookup s task name ≡ Some (Target.port p) → 0 < held s task receive p → v.attributes.holder ≡ holder.Task task
  task_holds h p v there task name at some = go (seen (entry_at w task name))
    where
      go : ((e : Entry) × (entry_at w task name ≡ Some e)) ⊎ (entry_at w task name ≡ None) → v.attributes.holder ≡ holder.Task task
      go (inr none) = absurd (let b : None ≡ Some (Target.port p) = sym (unused task name none) ∙ at in cc)
      go (inl (e, is)) =
          let named = port_of e p (same_found (lookup s task name) (target_of e) (Target.port p) (found task name e is) at) in
          let has = (a.references task name e p is named).0 in
          let receives : has_receive e ≡ true = grind (arith, has, some) in
          h.held task name e p is named receives v there

  -- a live port is in the tables
  pub port_there : (p : ℕ) → s.live_port p ≡ true → (v : PortView Kept) × (port_at w p ≡ Some v)
  port_there p live = port_got (port_at w p) (a.live_port p ∙ live)

  pub port_entered : (p : ℕ) → s.live_port p ≡ true → map.contains_key w.ledger.counts p ≡ true
  port_entered p live = (a.counts p).entered ∙ live

pub receive_lives : (w : WorldView) (s : State) → Agrees w s → IsLawful s → (task name : ℕ) (x : Entry) (p : ℕ) → entry_at w task name ≡ Some x → receive_named x ≡ Some p → s.live_port p ≡ true
receive_lives w s a l task name x p e is = named_lives s l task name p (names_port w s a task name x p e is)

-- ---- numbers that are no names

pub is_no_name : (name : ℕ) → name ≤ dead_word → ¬ ((name ≢ null_word) × (name ≢ dead_word)) → IsNoName name
is_no_name name fits not = elim (eqb_tells name null_word) [
  | inl h ↦ inl h.1
  | inr h ↦ elim (eqb_tells name dead_word) [
    | inl g ↦ inr (let e = g.1 in omega (arith, e))
    | inr g ↦ absurd (not (h.1, g.1))
  ]
]

pub is_name : (name : ℕ) → name ≤ dead_word → (name ≢ null_word) × (name ≢ dead_word) → ¬ (IsNoName name)
is_name name fits usable (inl e) = usable.0 e
is_name name fits usable (inr e) = usable.1 (omega (arith, fits, e))
