-- A message was queued, taken or destroyed, or other ones hold a port: what that writes of the tables.
use Rattle.std.proofs.Common.{◌≡◌, ℕ, ◌+◌, ◌%◌, ◌^◌, ◌++◌, [], ◌∷◌, List, Option, Some, None, Ok, Err, OnOk, refl, sym, ap, subst, ◌∙◌, Bool, true, false, inl, inr}
use Rattle.std.specs.FinMap as map
use Rattle.std.specs.Option.{option_and_then}
use Rattle.std.specs.Prelude.{MatchBool, OnErr, Result, drop, slice_get}
use Rattle.member_lists.specs.Lists.{without}
use Rattle.mach_types.specs.declared.profiles.Profile.{Profile}
use Rattle.name_space.specs.Names.{SpaceView}
use Rattle.port.specs.declared.Holder.{Holder}
use Rattle.port.specs.declared.Holder.TheVariants.{Doomed}
use Rattle.port.specs.Holding.{held}
use Rattle.port.specs.Ports.{PortView, PortsView, with_port, DestroysFirst, NoneQueued, PassesTurn}
use Rattle.port.specs.Turns.{turns_of}
use Rattle.port_set.specs.Sets.{SetsView}
use Rattle.rights.specs.Ledger.{LedgerView}
use Rattle.tables_base.specs.Kept.{Kept}
use Rattle.copyin_base.specs.Losing.{DestroysNext}
use Rattle.copyin_base.specs.Reading.{AreGiven}
use Rattle.request_table.specs.Tables.{RequestTablesView}
use Rattle.copyin_base.specs.Worlds.{WorldView}
use Rattle.copyin_base.proofs.Changing.{same_port}
use Rattle.copyin_base.proofs.Reading.{SamePorts, same_given, same_put}
use Rattle.copyin_base.proofs.Written.{tables, changed_written, port_given, port_written, ports_written}

-- the front message was taken
abbrev pub with_taken : PortsView Kept → (p : ℕ) → PortView Kept → PortsView Kept
with_taken ports p v = record (with_port ports p (record v { queue = drop 1 v.queue; attributes = record v.attributes { sequence = (v.attributes.sequence + 1) % 2 ^ 32 } })) { spare = ports.spare + 1 }

-- another holds the port's receive right, so it isn't among those that were lost
abbrev pub with_holder : Holder → PortsView Kept → (p : ℕ) → PortView Kept → PortsView Kept
with_holder h ports p v = record (with_port ports p (held v h)) { lost = without p ports.lost }

-- nobody can hold it again
abbrev pub with_doomed : PortsView Kept → (p : ℕ) → PortView Kept → PortsView Kept
with_doomed ports p v = record (with_port ports p (held v Doomed)) { lost = without p ports.lost; doomed = ports.doomed ++ p ∷ [] }

taken_keeps : (p : ℕ) (v : PortView Kept) (x : PortsView Kept) → map.get x.ports p ≡ Some v → SamePorts x (with_taken x p v)
taken_keeps p v x at = record { live = same_put x p v (record v { queue = drop 1 v.queue; attributes = record v.attributes { sequence = (v.attributes.sequence + 1) % 2 ^ 32 } }) at; made = refl }

pub holder_keeps : (h : Holder) (p : ℕ) (v : PortView Kept) (x : PortsView Kept) → map.get x.ports p ≡ Some v → SamePorts x (with_holder h x p v)
holder_keeps h p v x at = record { live = same_put x p v (held v h) at; made = refl }

pub doomed_keeps : (p : ℕ) (v : PortView Kept) (x : PortsView Kept) → map.get x.ports p ≡ Some v → SamePorts x (with_doomed x p v)
doomed_keeps p v x at = record { live = same_put x p v (held v Doomed) at; made = refl }

-- a turn in a set was passed, or was another port's
pub turn_passed : (old : PortsView Kept) (set p : ℕ) (new : PortsView Kept) → PassesTurn old set p new → SamePorts old new
turn_passed old set p new passes = elim (same_port (slice_get (turns_of old.ready set) 0) p) [
  | inl h ↦ subst (SamePorts old) (sym (passes.its h)) record { live = λ q. refl; made = refl }
  | inr h ↦ subst (SamePorts old) (sym (passes.other h)) record { live = λ q. refl; made = refl }
]

module _ (old : WorldView) {profile : Profile} (spaces : List (Option SpaceView)) (ports : PortsView Kept) (ledger : LedgerView) (sets : SetsView) (requests : RequestTablesView)
    (view : tables profile spaces ports ledger sets requests ≡ old) (p : ℕ) (new : PortsView Kept) where
  now : ports ≡ old.ports
  now = ap (λ (w : WorldView). w.ports) view

  pub stays_written : new ≡ ports → tables profile spaces new ledger sets requests ≡ old
  stays_written is = ap (λ (x : PortsView Kept). tables profile spaces x ledger sets requests) is ∙ view

  -- ---- the front message was taken

  pub front_given : (m : Kept) → Some m ≡ option_and_then (λ (v : PortView Kept). slice_get v.queue 0) (map.get ports.ports p) →
      ((v : PortView Kept) → map.get ports.ports p ≡ Some v → new ≡ with_taken ports p v) → AreGiven spaces ports → AreGiven spaces new
  front_given m front taken g = go (map.get ports.ports p) refl
    where
      go : (q : Option (PortView Kept)) → map.get ports.ports p ≡ q → AreGiven spaces new
      go None at = absurd (let f = front ∙ ap (option_and_then (λ (v : PortView Kept). slice_get v.queue 0)) at in cc)
      go (Some v) at = same_given spaces ports new (subst (SamePorts ports) (sym (taken v at)) (taken_keeps p v ports at)) g

  pub front_taken : (v : PortView Kept) → map.get old.ports.ports p ≡ Some v → (map.get ports.ports p ≡ Some v → new ≡ with_taken ports p v) →
      tables profile spaces new ledger sets requests ≡ record old { ports = with_taken old.ports p v }
  front_taken v there taken = changed_written old spaces ports ledger sets requests view p v (λ x. with_taken x p v) (taken_keeps p v) new there taken

  -- ---- a port was put again, if it is there

  module _ (put : PortView Kept → PortView Kept) (live : (v : PortView Kept) → map.get ports.ports p ≡ Some v → new ≡ with_port ports p (put v)) (gone : map.get ports.ports p ≡ None → new ≡ ports) where
    pub put_given : AreGiven spaces ports → AreGiven spaces new
    put_given g = go (map.get ports.ports p) refl
      where
        go : (o : Option (PortView Kept)) → map.get ports.ports p ≡ o → AreGiven spaces new
        go None at = subst (AreGiven spaces) (sym (gone at)) g
        go (Some v) at = port_given old spaces ports ledger sets requests view p v (put v) new (sym (ap (λ (w : WorldView). map.get w.ports.ports p) view) ∙ at) (live v) g

    pub none_put : map.get old.ports.ports p ≡ None → tables profile spaces new ledger sets requests ≡ old
    none_put none = stays_written (gone (ap (λ (w : WorldView). map.get w.ports.ports p) view ∙ none))

  -- ---- a port that is there was put again, if there was memory

  pub given_if_ok : {T E : Type 0} (r : Result T E) (v v2 : PortView Kept) → map.get old.ports.ports p ≡ Some v → (map.get ports.ports p ≡ Some v → OnOk r (new ≡ with_port ports p v2)) → OnErr r (new ≡ ports) →
      AreGiven spaces ports → AreGiven spaces new
  given_if_ok (Ok x) v v2 there ok err g = port_given old spaces ports ledger sets requests view p v v2 new there ok g
  given_if_ok (Err e) v v2 there ok err g = subst (AreGiven spaces) (sym err) g

  pub put_if_ok : {T E : Type 0} (r : Result T E) (v v2 : PortView Kept) → map.get old.ports.ports p ≡ Some v → (map.get ports.ports p ≡ Some v → OnOk r (new ≡ with_port ports p v2)) →
      OnOk r (tables profile spaces new ledger sets requests ≡ record old { ports = with_port old.ports p v2 })
  put_if_ok (Ok x) v v2 there ok = port_written old spaces ports ledger sets requests view p v v2 new there ok
  put_if_ok (Err e) v v2 there ok = tt

  pub stays_if_err : {T E : Type 0} (r : Result T E) → OnErr r (new ≡ ports) → OnErr r (tables profile spaces new ledger sets requests ≡ old)
  stays_if_err (Ok x) err = tt
  stays_if_err (Err e) err = stays_written err

  -- ---- the front message was destroyed

  first_same : DestroysFirst ports p new → SamePorts ports new
  first_same d = subst (SamePorts ports) (sym d.rest) record { live = same_put ports p d.view (record d.view { queue = d.behind }) d.there; made = refl }

  pub next_given : (b : Bool) → MatchBool b (DestroysFirst ports p new) (NoneQueued ports p × (new ≡ ports)) → AreGiven spaces ports → AreGiven spaces new
  next_given true d g = same_given spaces ports new (first_same d) g
  next_given false d g = subst (AreGiven spaces) (sym d.1) g

  pub next_destroyed : (b : Bool) → MatchBool b (DestroysFirst ports p new) (NoneQueued ports p × (new ≡ ports)) →
      MatchBool b (DestroysNext old p (tables profile spaces new ledger sets requests)) (NoneQueued old.ports p × (tables profile spaces new ledger sets requests ≡ old))
  next_destroyed true d = record { first = subst (λ (x : PortsView Kept). DestroysFirst x p new) now d; rest = ports_written old spaces ports ledger sets requests view new (first_same d) }
  next_destroyed false d = (subst (λ (x : PortsView Kept). NoneQueued x p) now d.0, stays_written d.1)
