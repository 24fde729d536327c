-- The names that one task keeps were read and replaced in the tables.
use Rattle.std.proofs.Common.{◌≡◌, ℕ, ◌+◌, ◌<◌, List, [], ◌∷◌, ◌++◌, Option, Some, None, refl, sym, ap, subst, ◌∙◌, true, get_or, ◌⊎◌, inl, inr}
use Rattle.std.specs.Prelude.{Contains, slice_set, is_some, IfSome}
use Rattle.std.specs.Option.{option_map}
use Rattle.std.specs.FinMap as map
use Rattle.std.specs.Ordering.{nat_cmp}
use Rattle.mach_types.specs.declared.profiles.Profile.{Profile}
use Rattle.member_lists.specs.Lists.{without}
use Rattle.name_space.specs.declared.Entry.{Entry}
use Rattle.name_space.specs.Entry.{port_of}
use Rattle.name_space.specs.Names.{SpaceView}
use Rattle.port.specs.Ports.{PortView, PortsView, IsLive, sets_in, with_port}
use Rattle.port_set.specs.Sets.{SetsView, IsDisbanded}
use Rattle.rights.specs.Ledger.{LedgerView}
use Rattle.tables_base.specs.declared.task_names.Placed.{Placed}
use Rattle.tables_base.specs.Kept.{Kept}
use Rattle.copyin_base.specs.Changes.{IsForLive}
use Rattle.request_table.specs.Tables.{RequestTablesView}
use Rattle.copyin_base.specs.Reading.{reading, read_names, read_space, read_spaces, live_in, AreGiven}
use Rattle.copyin_base.specs.Worlds.{WorldView, space_in, space_at, with_space, put}
use Rattle.copyin_base.proofs.Gets.{same_found}
use Rattle.copyin_base.proofs.Listed.{is_listed}
use Rattle.copyin_base.proofs.Putting.{each_put}
use Rattle.tables_base.proofs.Reading.{get_read, read_lives}
use Rattle.copyin_base.proofs.Reading.{kept_there, read_set, given_put, SamePorts, same_read, same_given, same_put, read_more, given_more, read_pushed, given_pushed, none_read}
use Rattle.copyin_base.proofs.Spaces.{read_there, same_world}

-- the tables whose names are kept so
abbrev pub tables : Profile → List (Option SpaceView) → PortsView Kept → LedgerView → SetsView → RequestTablesView → WorldView
tables profile spaces ports ledger sets requests = record { spaces = read_spaces (live_in ports) spaces; ports = ports; ledger = ledger; sets = sets; requests = requests; profile = profile }

module _ (old : WorldView) (task : ℕ) (space : SpaceView) {profile : Profile} (spaces : List (Option SpaceView)) (ports : PortsView Kept) (ledger : LedgerView) (sets : SetsView) (requests : RequestTablesView)
    (i : ℕ) (read : Option SpaceView) (lent : SpaceView)
    (there : space_at old task ≡ Some space) (view : tables profile spaces ports ledger sets requests ≡ old) (index : i ≡ task) (is : read ≡ get_or spaces i read) (some : read ≡ Some lent) where
  kept : (x : SpaceView) × (space_in spaces task ≡ Some x) × (space ≡ read_space (live_in ports) x)
  kept = kept_there (live_in ports) spaces task space (ap (λ (w : WorldView). space_at w task) view ∙ there)

  same : lent ≡ kept.0
  same = same_found read lent kept.0 some (read_there spaces i kept.0 read (ap (λ (j : ℕ). space_in spaces j) index ∙ kept.1) is)

  -- what is lent is what the task keeps
  pub lent_there : space_in spaces i ≡ Some lent
  lent_there = ap (λ (j : ℕ). space_in spaces j) index ∙ kept.1 ∙ ap Some (sym same)

  -- ... and read it is the task's names
  pub lent_read : space ≡ read_space (live_in ports) lent
  lent_read = kept.2 ∙ ap (read_space (live_in ports)) (sym same)

  -- the ports are those of the tables
  pub ports_there : ports ≡ old.ports
  ports_there = ap (λ (w : WorldView). w.ports) view

  -- The tables are those of before, but for the names of the task: what was kept of them became this, which is read as that.
  pub space_written : (become : SpaceView → SpaceView) (after : SpaceView) → read_space (live_in ports) after ≡ become (read_space (live_in ports) lent) →
      tables profile (slice_set spaces i (Some after)) ports ledger sets requests ≡ with_space old task (become space)
  space_written become after new =
      let spaces_are : read_spaces (live_in ports) spaces ≡ old.spaces = ap (λ (w : WorldView). w.spaces) view in
      same_world _ _ _ _ _ _ _ _ _ _ _ _
      (read_set (live_in ports) spaces i (Some after)
      ∙ ap (λ (x : SpaceView). slice_set (read_spaces (live_in ports) spaces) i (Some x)) (new ∙ ap become (sym lent_read))
      ∙ ap (λ (j : ℕ). slice_set (read_spaces (live_in ports) spaces) j (Some (become space))) index
      ∙ ap (λ (xs : List (Option SpaceView)). slice_set xs task (Some (become space))) spaces_are)
      ports_there (ap (λ (w : WorldView). w.ledger) view) (ap (λ (w : WorldView). w.sets) view) (ap (λ (w : WorldView). w.requests) view) (ap (λ (w : WorldView). w.profile) view)

  -- What is kept is for ports that were made, as before, where a change put at most an entry for a port that is there.
  pub given_after : AreGiven spaces ports → (after : SpaceView) →
      ((name : ℕ) (entry : Entry) (p : ℕ) → map.get after.names name ≡ Some entry → port_of entry ≡ Some p → p < ports.made) → AreGiven (slice_set spaces i (Some after)) ports
  given_after g after own = given_put spaces ports g i lent after lent_there own

  pub given_same : AreGiven spaces ports → (after : SpaceView) → after.names ≡ lent.names → AreGiven (slice_set spaces i (Some after)) ports
  given_same g after names = given_after g after (λ name entry p found for. g.kept i name lent entry p lent_there (ap (λ m. map.get m name) (sym names) ∙ found) for)

  pub given_written : AreGiven spaces ports → (after : SpaceView) (name : ℕ) (o : Option Entry) → after.names ≡ put lent.names name o →
      ((e : Entry) → o ≡ Some e → (p : ℕ) → port_of e ≡ Some p → IsLive ports p) → AreGiven (slice_set spaces i (Some after)) ports
  given_written g after name o names lives = given_after g after (λ n entry p found for.
      each_put lent.names name o (λ k x. x ≡ Some entry → p < ports.made) (λ e. g.there p (lives entry e p for)) (λ k not e. g.kept i k lent entry p lent_there e for) n
      (ap (λ m. map.get m n) (sym names) ∙ found))

  -- what is left under a name is for a port that is there
  pub left_lives : (left : Option Entry) → IfSome left (λ e. IsForLive old e) → (e : Entry) → left ≡ Some e → (p : ℕ) → port_of e ≡ Some p → IsLive ports p
  left_lives left lives e is p for =
      let own : IsForLive old e = subst (λ (o : Option Entry). IfSome o (λ x. IsForLive old x)) is lives in
      subst (λ (x : PortsView Kept). IsLive x p) (sym ports_there) (own p for)

module _ (old : WorldView) {profile : Profile} (spaces : List (Option SpaceView)) (ports : PortsView Kept) (ledger : LedgerView) (sets : SetsView) (requests : RequestTablesView)
    (view : tables profile spaces ports ledger sets requests ≡ old) where
  abbrev Lives : Entry → Type 0
  Lives e = (p : ℕ) → port_of e ≡ Some p → IsLive ports p

  -- What is read of what a name keeps is for a port that is there, if it is for any.
  pub read_is_live : (lent read : SpaceView) (name : ℕ) (o : Option Entry) → read ≡ read_space (live_in ports) lent → o ≡ map.get read.names name → IfSome o (λ e. IsForLive old e)
  read_is_live lent read name o same is =
      let from : o ≡ option_map (reading (live_in ports)) (map.get lent.names name) = is ∙ ap (λ (x : SpaceView). map.get x.names name) same ∙ get_read (live_in ports) lent.names name in
      subst (λ (w : WorldView). IfSome o (λ e. IsForLive w e)) view (subst (λ (x : Option Entry). IfSome x Lives) (sym from) (lives (map.get lent.names name)))
    where
      lives : (x : Option Entry) → IfSome (option_map (reading (live_in ports)) x) Lives
      lives (Some e) = λ p for. (read_lives (live_in ports) e p for).1
      lives None = tt

  -- The same of what is found with its port's place.
  pub placed_is_live : (lent read : SpaceView) (name : ℕ) (o : Option Placed) → read ≡ read_space (live_in ports) lent → IfSome o (λ p. map.get read.names name ≡ Some p.entry) → IfSome o (λ p. IsForLive old p.entry)
  placed_is_live lent read name (Some p) same is = read_is_live lent read name (Some p.entry) same (sym is)
  placed_is_live lent read name None same is = tt

-- ---- ports

-- a port that is there was put again
pub port_put : (ports : PortsView Kept) (p : ℕ) (v v2 : PortView Kept) → map.get ports.ports p ≡ Some v → SamePorts ports (with_port ports p v2)
port_put ports p v v2 there = record { live = same_put ports p v v2 there; made = refl }

-- where no port was lost, none leaves those that were
pub held_put : (ports : PortsView Kept) (p : ℕ) (v2 : PortView Kept) (new : PortsView Kept) → ports.lost ≡ [] → new ≡ record (with_port ports p v2) { lost = without p ports.lost } → new ≡ with_port ports p v2
held_put ports p v2 new none is =
    let same : without p ports.lost ≡ ports.lost = subst (λ (xs : List ℕ). without p xs ≡ xs) (sym none) refl in
    is ∙ ap (λ (xs : List ℕ). record (with_port ports p v2) { lost = xs }) same

-- ports were noted
pub noted_ports : (ports : PortsView Kept) (noted : List ℕ) → SamePorts ports (record ports { noted = noted })
noted_ports ports noted = record { live = λ p. refl; made = refl }

-- the members of a set have left it
pub disbanded_ports : (old new : PortsView Kept) (set : ℕ) → IsDisbanded old new set → SamePorts old new
disbanded_ports old new set d = record { live = λ p. go p (map.get old.ports p) refl; made = d.made }
  where
    member : (p : ℕ) (x : PortView Kept) → map.get old.ports p ≡ Some x → Contains (sets_in x) set ⊎ (Contains (sets_in x) set → ⊥) → is_some (map.get new.ports p) ≡ true
    member p x at (inl e) = ap is_some (d.members p x at e)
    member p x at (inr not) = ap is_some (d.others p x at not)

    go : (p : ℕ) (o : Option (PortView Kept)) → map.get old.ports p ≡ o → is_some (map.get new.ports p) ≡ is_some (map.get old.ports p)
    go p None at = ap is_some (d.gone p at ∙ sym at)
    go p (Some x) at = member p x at (is_listed (sets_in x) set) ∙ sym (ap is_some at)

module _ (old : WorldView) {profile : Profile} (spaces : List (Option SpaceView)) (ports : PortsView Kept) (ledger : LedgerView) (sets : SetsView) (requests : RequestTablesView) (view : tables profile spaces ports ledger sets requests ≡ old) where
  -- The tables are those of before, but for the ports: as many were made, and the same are there.
  pub ports_written : (new : PortsView Kept) → SamePorts ports new → tables profile spaces new ledger sets requests ≡ record old { ports = new }
  ports_written new s = same_world _ _ _ _ _ _ _ _ _ _ _ _ (same_read spaces ports new s ∙ ap (λ (w : WorldView). w.spaces) view) refl (ap (λ (w : WorldView). w.ledger) view) (ap (λ (w : WorldView). w.sets) view) (ap (λ (w : WorldView). w.requests) view) (ap (λ (w : WorldView). w.profile) view)

  -- One port was put again, and beside it no port came or went.
  module _ (p : ℕ) (v : PortView Kept) (become : PortsView Kept → PortsView Kept) (keeps : (x : PortsView Kept) → map.get x.ports p ≡ Some v → SamePorts x (become x)) (new : PortsView Kept)
      (there : map.get old.ports.ports p ≡ Some v) (is : map.get ports.ports p ≡ Some v → new ≡ become ports) where
    here : map.get ports.ports p ≡ Some v
    here = ap (λ (w : WorldView). map.get w.ports.ports p) view ∙ there

    port_same : SamePorts ports new
    port_same = subst (SamePorts ports) (sym (is here)) (keeps ports here)

    pub changed_given : AreGiven spaces ports → AreGiven spaces new
    changed_given = same_given spaces ports new port_same

    pub changed_written : tables profile spaces new ledger sets requests ≡ record old { ports = become old.ports }
    changed_written = ports_written new port_same ∙ ap (λ (x : PortsView Kept). record old { ports = x }) (is here ∙ ap (λ (w : WorldView). become w.ports) view)

  module _ (p : ℕ) (v v2 : PortView Kept) (new : PortsView Kept) (there : map.get old.ports.ports p ≡ Some v) (is : map.get ports.ports p ≡ Some v → new ≡ with_port ports p v2) where
    pub port_given : AreGiven spaces ports → AreGiven spaces new
    port_given = changed_given p v (λ x. with_port x p v2) (λ x at. port_put x p v v2 at) new there is

    pub port_written : tables profile spaces new ledger sets requests ≡ record old { ports = with_port old.ports p v2 }
    port_written = changed_written p v (λ x. with_port x p v2) (λ x at. port_put x p v v2 at) new there is

-- A port was made: it has a new identity, so no name that is kept is read otherwise.
module _ (old : WorldView) {profile : Profile} (spaces : List (Option SpaceView)) (ports : PortsView Kept) (ledger : LedgerView) (sets : SetsView) (requests : RequestTablesView) (view : tables profile spaces ports ledger sets requests ≡ old)
    (given : AreGiven spaces ports) (v : PortView Kept) (new : PortsView Kept) (made : new ≡ record ports { ports = map.insert ports.ports ports.made v; made = ports.made + 1 }) where
  pub made_given : AreGiven spaces new
  made_given = subst (AreGiven spaces) (sym made) (given_more ports v spaces given)

  pub made_written : tables profile spaces new ledger sets requests ≡ record old { ports = record old.ports { ports = map.insert old.ports.ports old.ports.made v; made = old.ports.made + 1 } }
  made_written = same_world _ _ _ _ _ _ _ _ _ _ _ _
      (ap (λ (x : PortsView Kept). read_spaces (live_in x) spaces) made ∙ read_more ports v spaces given ∙ ap (λ (w : WorldView). w.spaces) view)
      (made ∙ ap (λ (w : WorldView). record w.ports { ports = map.insert w.ports.ports w.ports.made v; made = w.ports.made + 1 }) view)
      (ap (λ (w : WorldView). w.ledger) view) (ap (λ (w : WorldView). w.sets) view) (ap (λ (w : WorldView). w.requests) view) (ap (λ (w : WorldView). w.profile) view)

-- A task was made, with no names.
module _ (old : WorldView) {profile : Profile} (spaces : List (Option SpaceView)) (ports : PortsView Kept) (ledger : LedgerView) (sets : SetsView) (requests : RequestTablesView) (view : tables profile spaces ports ledger sets requests ≡ old)
    (new : SpaceView) (none : new.names ≡ map.empty) where
  pub pushed_given : AreGiven spaces ports → AreGiven (spaces ++ Some new ∷ []) ports
  pushed_given g = given_pushed spaces ports g new (λ name entry p found. absurd (let e : None ≡ Some entry = sym (map.get-empty nat_cmp name) ∙ ap (λ m. map.get m name) (sym none) ∙ found in cc))

  pub pushed_written : tables profile (spaces ++ Some new ∷ []) ports ledger sets requests ≡ record old { spaces = old.spaces ++ Some new ∷ [] }
  pushed_written = same_world _ _ _ _ _ _ _ _ _ _ _ _
      (read_pushed (live_in ports) spaces (Some new)
      ∙ ap (λ (x : SpaceView). read_spaces (live_in ports) spaces ++ Some x ∷ []) (ap (λ m. record new { names = m }) (ap (read_names (live_in ports)) none ∙ none_read (live_in ports) ∙ sym none))
      ∙ ap (λ (w : WorldView). w.spaces ++ Some new ∷ []) view)
      (ap (λ (w : WorldView). w.ports) view) (ap (λ (w : WorldView). w.ledger) view) (ap (λ (w : WorldView). w.sets) view) (ap (λ (w : WorldView). w.requests) view) (ap (λ (w : WorldView). w.profile) view)
