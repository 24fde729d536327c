-- Slots suffice, as before, after a change of the tables.
use Rattle.std.proofs.Common.{◌≡◌, ℕ, ◌+◌, ◌<◌, ◌≤◌, Option, ap, subst, sym, arith}
use Rattle.std.specs.Prelude.{max}
use Rattle.mach_types.specs.declared.profiles.Profile.{Profile}
use Rattle.name_space.specs.declared.Entry.{Entry}
use Rattle.port.specs.declared.Attributes.{Attributes}
use Rattle.port.specs.declared.Holder.{Holder}
use Rattle.rights.specs.Ledger.{counts_of}
use Rattle.rights.specs.Unused.{IsUnusedOfAll}
use Rattle.rights.proofs.Unused.{once_among}
use Rattle.copyin_base.specs.Worlds.{WorldView, no_world}
use Rattle.copyin_base.specs.Shows.{SlotsSuffice}
use Rattle.copyin_base.specs.Changes.{PutsLeft, InsertsEntry, SetsAttributes, SetsHolder, with_slots}

-- at the start
pub slots_none : (profile : Profile) → SlotsSuffice (no_world profile)
slots_none profile = omega arith

module _ (old new : WorldView) (enough : SlotsSuffice old) where
  -- where nothing changed
  pub slots_same : new ≡ old → SlotsSuffice new
  slots_same same = subst SlotsSuffice (sym same) enough

  -- as many slots are spare, and as many send-once rights unused
  pub slots_kept : new.ledger.unused ≡ old.ledger.unused → new.ports.spare ≡ old.ports.spare → SlotsSuffice new
  slots_kept unused spare = omega (arith, enough, unused, spare)

  -- no ports and no rights changed
  pub slots_stay : new.ledger ≡ old.ledger → new.ports ≡ old.ports → SlotsSuffice new
  slots_stay ledger ports = slots_kept (ap (λ l. l.unused) ledger) (ap (λ p. p.spare) ports)

  -- the verbs
  pub slots_left : (task name : ℕ) (left : Option Entry) → PutsLeft old task name left new → SlotsSuffice new
  slots_left task name left puts = slots_kept (ap (λ (w : WorldView). w.ledger.unused) puts.rest) (ap (λ (w : WorldView). w.ports.spare) puts.rest)

  pub slots_inserted : (task name : ℕ) (entry : Entry) → InsertsEntry old task name entry new → SlotsSuffice new
  slots_inserted task name entry puts = slots_kept (ap (λ (w : WorldView). w.ledger.unused) puts.rest) (ap (λ (w : WorldView). w.ports.spare) puts.rest)

  pub slots_set : (port : ℕ) (attributes : Attributes) → SetsAttributes old port attributes new → SlotsSuffice new
  slots_set port attributes sets = slots_kept (ap (λ (w : WorldView). w.ledger.unused) sets.rest) (ap (λ (w : WorldView). w.ports.spare) sets.rest)

  pub slots_held : (port : ℕ) (holder : Holder) → SetsHolder old port holder new → SlotsSuffice new
  slots_held port holder sets = slots_kept (ap (λ (w : WorldView). w.ledger.unused) sets.rest) (ap (λ (w : WorldView). w.ports.spare) sets.rest)

-- Slots were made for so many more.
module _ (old new : WorldView) (more : ℕ) (made : new ≡ with_slots old (max old.ports.spare (old.ledger.unused + more))) where
  pub slots_made : new.ledger.unused + more ≤ new.ports.spare
  slots_made = subst (λ (w : WorldView). w.ledger.unused + more ≤ w.ports.spare) (sym made) (omega arith)

-- A send-once right that no queued message goes by has a slot.
pub slot_for_once : (w : WorldView) → IsUnusedOfAll w.ledger → SlotsSuffice w → (port : ℕ) → 0 < (counts_of w.ledger port).send_once → 0 < w.ports.spare
slot_for_once w all enough port some = let few = once_among w.ledger all port in omega (arith, enough, some, few)
