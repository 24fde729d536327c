-- A port or a task was removed: what that writes of the tables.
use Rattle.std.proofs.Common.{◌≡◌, ℕ, List, [], ◌∷◌, Option, Some, None, refl, sym, ap, subst, ◌∙◌, inl, inr, ◌<◌, ◌≢◌, zero, suc, arith, true, Bool}
use Rattle.std.specs.FinMap as map
use Rattle.std.specs.Prelude.{slice_set}
use Rattle.std.specs.Option.{option_map}
use Rattle.std.proofs.lemmas.Bool.Decides.{eqb_tells}
use Rattle.mach_types.specs.declared.profiles.Profile.{Profile}
use Rattle.mach_model.proofs.Names.{alike, removed_own}
use Rattle.name_space.specs.declared.Entry.{Entry}
use Rattle.name_space.specs.declared.Entry.TheVariants.{Receive, Send, ReceiveAndSend, SendOnce, DeadName, Set}
use Rattle.name_space.specs.Names.{SpaceView}
use Rattle.port.specs.Ports.{PortsView}
use Rattle.port_set.specs.Sets.{SetsView}
use Rattle.rights.specs.Ledger.{LedgerView, left}
use Rattle.tables_base.specs.Kept.{Kept}
use Rattle.copyin_base.specs.Leaving.{port_removed, without_port}
use Rattle.copyin_base.specs.Reading.{reading, read_names, read_space, read_spaces, live_in, AreGiven}
use Rattle.request_table.specs.Tables.{RequestTablesView}
use Rattle.copyin_base.specs.Worlds.{WorldView, space_in}
use Rattle.copyin_base.proofs.Putting.{get_removed}
use Rattle.tables_base.proofs.Reading.{get_read}
use Rattle.copyin_base.proofs.Reading.{read_set}
use Rattle.copyin_base.proofs.Written.{tables}

-- ---- the tables of a port that left

-- what is read with fewer ports is what is read of what was read before
read_twice : (live live2 : ℕ → Bool) (x : Entry) → ((p : ℕ) → live2 p ≡ true → live p ≡ true) → reading live2 (reading live x) ≡ reading live2 x
read_twice live live2 (Receive p) fewer = grind arith
read_twice live live2 (Send p n) fewer = grind arith
read_twice live live2 (ReceiveAndSend p n) fewer = grind arith
read_twice live live2 (SendOnce p) fewer = grind arith
read_twice live live2 (DeadName n) fewer = refl
read_twice live live2 (Set x) fewer = refl

spaces_twice : (live live2 : ℕ → Bool) → ((p : ℕ) → live2 p ≡ true → live p ≡ true) → (xs : List (Option SpaceView)) → read_spaces live2 (read_spaces live xs) ≡ read_spaces live2 xs
spaces_twice live live2 fewer [] = refl
spaces_twice live live2 fewer (x ∷ xs) = let h = one x in let t = spaces_twice live live2 fewer xs in λ i. h i ∷ t i
  where
    each : (o : Option Entry) → option_map (reading live2) (option_map (reading live) o) ≡ option_map (reading live2) o
    each None = refl
    each (Some y) = ap Some (read_twice live live2 y fewer)

    one : (o : Option SpaceView) → option_map (read_space live2) (option_map (read_space live) o) ≡ option_map (read_space live2) o
    one None = refl
    one (Some y) = ap (λ m. Some (record y { names = m })) (alike _ _ (λ n. get_read live2 (read_names live y.names) n ∙ ap (option_map (reading live2)) (get_read live y.names n) ∙ each (map.get y.names n) ∙ sym (get_read live2 y.names n)))

module _ (old : WorldView) {profile : Profile} (spaces : List (Option SpaceView)) (ports : PortsView Kept) (ledger : LedgerView) (sets : SetsView) (requests : RequestTablesView) (view : tables profile spaces ports ledger sets requests ≡ old)
    (port : ℕ) (new : PortsView Kept) (is : new ≡ without_port ports port) where
  fewer : (p : ℕ) → live_in new p ≡ true → live_in ports p ≡ true
  fewer p h = grind (arith, removed_own, get_removed)

  pub left_given : AreGiven spaces ports → AreGiven spaces new
  left_given g = record {
    kept = λ task name space entry p there found for. let h = g.kept task name space entry p there found for in let m : new.made ≡ ports.made = ap (λ (x : PortsView Kept). x.made) is in omega (arith, h, m);
    there = λ p lives. let h = g.there p (fewer p lives) in let m : new.made ≡ ports.made = ap (λ (x : PortsView Kept). x.made) is in omega (arith, h, m);
  }

  pub port_left : (counts : LedgerView) → counts ≡ left ledger port → tables profile spaces new counts sets requests ≡ port_removed old port
  port_left counts e =
      (λ i. record { spaces = sym (spaces_twice (live_in ports) (live_in new) fewer spaces) i; ports = new; ledger = e i; sets = sets; requests = requests; profile = profile })
      ∙ (λ i. record { spaces = read_spaces (live_in (is i)) (read_spaces (live_in ports) spaces); ports = is i; ledger = left ledger port; sets = sets; requests = requests; profile = profile })
      ∙ ap (λ (w : WorldView). port_removed w port) view

-- ---- A task's space is taken out of the tables.

pub closed_same : (spaces : List (Option SpaceView)) (task : ℕ) → space_in (slice_set spaces task None) task ≡ None
closed_same [] task = refl
closed_same (x ∷ xs) zero = refl
closed_same (x ∷ xs) (suc task) = closed_same xs task

pub closed_other : (spaces : List (Option SpaceView)) (task other : ℕ) → other ≢ task → space_in (slice_set spaces task None) other ≡ space_in spaces other
closed_other [] task other not = refl
closed_other (x ∷ xs) zero zero not = absurd (not refl)
closed_other (x ∷ xs) zero (suc other) not = refl
closed_other (x ∷ xs) (suc task) zero not = refl
closed_other (x ∷ xs) (suc task) (suc other) not = closed_other xs task other (λ e. not (ap suc e))

-- what is true of no space, and of each other task's, is true of all
pub each-closed : (spaces : List (Option SpaceView)) (task : ℕ) (P : ℕ → Option SpaceView → Type 0) → P task None → ((u : ℕ) → u ≢ task → P u (space_in spaces u)) →
    (u : ℕ) → P u (space_in (slice_set spaces task None) u)
each-closed spaces task P own others u = elim (eqb_tells u task) [
  | inl h ↦ subst (λ (k : ℕ). P k (space_in (slice_set spaces task None) k)) (sym h.1) (subst (P task) (sym (closed_same spaces task)) own)
  | inr h ↦ subst (P u) (sym (closed_other spaces task u h.1)) (others u h.1)
]

pub given_closed : (spaces : List (Option SpaceView)) (ports : PortsView Kept) → AreGiven spaces ports → (task : ℕ) → AreGiven (slice_set spaces task None) ports
given_closed spaces ports g task = record {
  kept = λ u name space entry port at found for. each-closed spaces task (λ k o. o ≡ Some space → port < ports.made) (λ e. absurd (no_space space e))
      (λ k not e. g.kept k name space entry port e found for) u at;
  there = g.there;
}
  where
    no_space : (space : SpaceView) → None ≡ Some space → ⊥
    no_space space e = cc

pub closed_written : (old : WorldView) (task : ℕ) {profile : Profile} (spaces : List (Option SpaceView)) (ports : PortsView Kept) (ledger : LedgerView) (sets : SetsView) (requests : RequestTablesView) (i : ℕ) →
    tables profile spaces ports ledger sets requests ≡ old → i ≡ task → tables profile (slice_set spaces i None) ports ledger sets requests ≡ record old { spaces = slice_set old.spaces task None }
closed_written old task {profile} spaces ports ledger sets requests i view index =
    ap (λ (xs : List (Option SpaceView)). record (tables profile spaces ports ledger sets requests) { spaces = xs })
    (read_set (live_in ports) spaces i None ∙ ap (λ (j : ℕ). slice_set (read_spaces (live_in ports) spaces) j None) index)
    ∙ ap (λ (w : WorldView). record w { spaces = slice_set w.spaces task None }) view
