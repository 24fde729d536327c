-- A send reference comes under a task's name, and an entry goes from one name to another: what is kept, and the tables then.
use Rattle.std.proofs.Common.{◌≡◌, ◌≢◌, ℕ, ◌-◌, ◌<◌, Bool, List, Option, Some, None, refl, sym, ap, ◌∙◌, arith, get_or, true}
use Rattle.std.specs.Prelude.{is_some, IfSome, IfNone, slice_set}
use Rattle.std.specs.Option.{option_map}
use Rattle.std.specs.FinMap as map
use Rattle.mach_types.specs.declared.profiles.Profile.{Profile}
use Rattle.name_space.specs.declared.Entry.{Entry}
use Rattle.name_space.specs.declared.Entry.TheVariants as entry_of
use Rattle.name_space.specs.declared.PortName.{PortName}
use Rattle.name_space.specs.Entry.{port_named, port_of, with_send}
use Rattle.name_space.specs.Names.{Names, SpaceView, port_at}
use Rattle.port.specs.Ports.{IsLive, PortsView}
use Rattle.port_set.specs.Sets.{SetsView}
use Rattle.rights.specs.Ledger.{LedgerView}
use Rattle.tables_base.specs.Kept.{Kept}
use Rattle.copyin_base.specs.Changes.{AddsSend, MovesEntry}
use Rattle.copyin_base.specs.Reading.{reading, read_names, read_space, live_in, AreGiven}
use Rattle.request_table.specs.Tables.{RequestTablesView}
use Rattle.copyin_base.specs.Worlds.{WorldView, entry_in, put, space_at}
use Rattle.copyin_base.proofs.Gets.{same_found, of_some}
use Rattle.copyin_base.proofs.Putting.{each_put}
use Rattle.tables_base.proofs.Reading.{named_port, get_read, named_kept, reads_as, used_read, unused_read}
use Rattle.copyin_base.proofs.Reading.{put_reads, read_put}
use Rattle.copyin_base.proofs.Written.{tables, lent_there, lent_read, ports_there, space_written, given_after, given_written, given_same}

-- ---- A send reference came to what a task keeps under its name for a port that is there: the tables then.

-- an entry with a send reference more is for the port that it was for
with_send_for : (e : Entry) → port_of (with_send e) ≡ port_of e
with_send_for (entry_of.Receive p) = refl
with_send_for (entry_of.Send p n) = refl
with_send_for (entry_of.ReceiveAndSend p n) = refl
with_send_for (entry_of.SendOnce p) = refl
with_send_for (entry_of.DeadName n) = refl
with_send_for (entry_of.Set n) = refl

pub for_one : (p q : ℕ) → Some p ≡ Some q → p ≡ q
for_one p q is = cc

for_named : (e : Entry) (port p : ℕ) → port_named e ≡ Some port → port_of (with_send e) ≡ Some p → port ≡ p
for_named e port p named for = for_one port p (sym (named_port e port named) ∙ sym (with_send_for e) ∙ for)

module _ (old : WorldView) (task port : ℕ) (space : SpaceView) {profile : Profile} (spaces : List (Option SpaceView)) (ports : PortsView Kept) (ledger : LedgerView) (sets : SetsView) (requests : RequestTablesView)
    (i : ℕ) (read : Option SpaceView) (lent after : SpaceView)
    (there : space_at old task ≡ Some space) (view : tables profile spaces ports ledger sets requests ≡ old) (index : i ≡ task) (is : read ≡ get_or spaces i read) (some : read ≡ Some lent) where
  names_read : space ≡ read_space (live_in ports) lent
  names_read = lent_read old task space spaces ports ledger sets requests i read lent there view index is some

  -- What the task keeps of it was for the port and still is; all is as it was where there was none.
  module _ (live : IsLive old.ports port) where
    live_here : IsLive ports port
    live_here = grind (arith, ports_there)

    added_lives : (x : Entry) → port_named x ≡ Some port → (e : Entry) → Some (with_send x) ≡ Some e → (p : ℕ) → port_of e ≡ Some p → IsLive ports p
    added_lives x named = grind (arith, of_some, for_named, live_here)

    pub added_given : AreGiven spaces ports → (o : Option PortName) → IfSome o (λ n. port_named n.entry ≡ Some port) →
        IfSome o (λ n. after ≡ record lent { names = map.insert lent.names n.name (with_send n.entry) }) → IfNone o (after ≡ lent) → AreGiven (slice_set spaces i (Some after)) ports
    added_given g (Some n) named new same = given_written old task space spaces ports ledger sets requests i read lent there view index is some g after n.name (Some (with_send n.entry))
        (ap (λ (x : SpaceView). x.names) new) (added_lives n.entry named)
    added_given g None named new same = given_same old task space spaces ports ledger sets requests i read lent there view index is some g after (ap (λ (x : SpaceView). x.names) same)

    pub added : (o : Option PortName) → IfSome o (λ n. map.get lent.names n.name ≡ Some n.entry) → IfSome o (λ n. port_named n.entry ≡ Some port) →
        IfSome o (λ n. after ≡ record lent { names = map.insert lent.names n.name (with_send n.entry) }) →
        IfSome o (λ n. AddsSend old task port n.name n.entry (tables profile (slice_set spaces i (Some after)) ports ledger sets requests))
    added None found named new = tt
    added (Some n) found named new = record {
      space = space;
      there = there;
      found = ap (λ (x : SpaceView). map.get x.names n.name) names_read ∙ get_read (live_in ports) lent.names n.name ∙ ap (option_map (reading (live_in ports))) found
          ∙ ap Some (reads_as (live_in ports) n.entry port (named_port n.entry port named) live_here);
      named = named;
      rest = space_written old task space spaces ports ledger sets requests i read lent there view index is some
          (λ (y : SpaceView). record y { names = map.insert y.names n.name (with_send n.entry) }) after
          (ap (λ (x : SpaceView). record x { names = read_names (live_in ports) x.names }) new
          ∙ ap (λ m. record lent { names = m }) (put_reads (live_in ports) lent n.name (Some (with_send n.entry)) (added_lives n.entry named)));
    }

  -- The task has no name for the port where it keeps none.
  pub none_added : (o : Option PortName) → IfNone o ((name : ℕ) → port_at lent.names name ≢ Some port) →
      IfNone o ((x : SpaceView) → space_at old task ≡ Some x → (name : ℕ) → port_at x.names name ≢ Some port)
  none_added (Some n) none = tt
  none_added None none = grind (arith, named_kept, names_read, same_found)

-- ---- What a task keeps under one name goes under another, as it is kept; what is read there is what was read.

-- the task of a name that is in use has names
pub space_of : (o : Option SpaceView) (name : ℕ) (e : Entry) → entry_in o name ≡ Some e → (space : SpaceView) × (o ≡ Some space) × (map.get space.names name ≡ Some e)
space_of (Some space) name e is = (space, refl, is)
space_of None name e is = absurd (cc)

-- what is kept where this is read
kept_entry : (live_moved : ℕ → Bool) (m : Names) (n : ℕ) (e : Entry) → map.get (read_names live_moved m) n ≡ Some e → (k : Entry) × (map.get m n ≡ Some k) × (reading live_moved k ≡ e)
kept_entry live_moved m n e is = grind (arith, get_read, same_found)

module _ (old : WorldView) (task : ℕ) (space : SpaceView) {profile : Profile} (spaces : List (Option SpaceView)) (ports : PortsView Kept) (ledger : LedgerView) (sets : SetsView) (requests : RequestTablesView)
    (i : ℕ) (read : Option SpaceView) (lent : SpaceView)
    (there : space_at old task ≡ Some space) (view : tables profile spaces ports ledger sets requests ≡ old) (index : i ≡ task) (is : read ≡ get_or spaces i read) (some : read ≡ Some lent) where
  abbrev live_moved : ℕ → Bool
  live_moved = live_in ports

  here : space ≡ read_space live_moved lent
  here = lent_read old task space spaces ports ledger sets requests i read lent there view index is some

  pub kept_used : (name : ℕ) (e : Entry) → map.get space.names name ≡ Some e → map.contains_key lent.names name ≡ true
  kept_used name e found = sym (used_read live_moved lent.names name) ∙ ap (λ (x : SpaceView). map.contains_key x.names name) (sym here) ∙ ap is_some found

  pub kept_unused : (name : ℕ) → map.get space.names name ≡ None → map.get lent.names name ≡ None
  kept_unused name none = unused_read live_moved lent.names name (ap (λ (x : SpaceView). map.get x.names name) (sym here) ∙ none)

  pub kept_place : lent.kept ≡ space.kept
  kept_place = ap (λ (x : SpaceView). x.kept) (sym here)

  module _ (from to : ℕ) (e : Entry) (found : map.get space.names from ≡ Some e) where
    was : (k : Entry) × (map.get lent.names from ≡ Some k) × (reading live_moved k ≡ e)
    was = kept_entry live_moved lent.names from e (ap (λ (x : SpaceView). map.get x.names from) (sym here) ∙ found)

    abbrev moved : SpaceView
    moved = record lent { names = map.insert (map.remove lent.names from) to was.0; room = lent.room - 1 }

    -- this is what becomes of what is kept
    abbrev Becomes : SpaceView → Type 0
    Becomes after = (entry : Entry) → map.get lent.names from ≡ Some entry → after ≡ record lent { names = map.insert (map.remove lent.names from) to entry; room = lent.room - 1 }

    no_some : (entry : Entry) → None ≡ Some entry → ⊥
    no_some entry f = cc

    pub moved_given : AreGiven spaces ports → (after : SpaceView) → Becomes after → AreGiven (slice_set spaces i (Some after)) ports
    moved_given g after b = given_after old task space spaces ports ledger sets requests i read lent there view index is some g after
        (λ name entry p at for. each_put (map.remove lent.names from) to (Some was.0) (λ n x. x ≡ Some entry → p < ports.made)
        (λ f. g.kept i from lent entry p inside (was.1 ∙ f) for)
        (λ n not. each_put lent.names from None (λ k x. x ≡ Some entry → p < ports.made) (λ f. absurd (no_some entry f)) (λ k differs f. g.kept i k lent entry p inside f for) n) name
        (ap (λ (x : SpaceView). map.get x.names name) (sym (b was.0 was.1)) ∙ at))
      where
        inside : get_or spaces i None ≡ Some lent
        inside = lent_there old task space spaces ports ledger sets requests i read lent there view index is some

    moved_reads : read_names live_moved moved.names ≡ map.insert (map.remove (read_names live_moved lent.names) from) to e
    moved_reads =
        read_put live_moved (map.remove lent.names from) to (Some was.0)
        ∙ ap (λ (m : Names). put m to (Some (reading live_moved was.0))) (read_put live_moved lent.names from None)
        ∙ ap (λ (x : Entry). put (put (read_names live_moved lent.names) from None) to (Some x)) was.2

    pub moved_entry : (after : SpaceView) → Becomes after → MovesEntry old task from to e (tables profile (slice_set spaces i (Some after)) ports ledger sets requests)
    moved_entry after b = record {
      space = space;
      there = there;
      rest = space_written old task space spaces ports ledger sets requests i read lent there view index is some (λ x. record x { names = map.insert (map.remove x.names from) to e; room = x.room - 1 }) after
          (ap (read_space live_moved) (b was.0 was.1) ∙ ap (λ (m : Names). record lent { names = m; room = lent.room - 1 }) moved_reads);
    }
