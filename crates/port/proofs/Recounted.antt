-- Ports once the counts of one of them changed.
use Rattle.std.proofs.Common.{◌≡◌, Option, if◌then◌else◌, Bool, false, ℕ, true, Some, List, refl, ap, sym, ◌∙◌}
use Rattle.std.specs.Option.{unwrap_or}
use Rattle.std.specs.Ordering.{nat_cmp}
use Rattle.std.specs.FinMap as map
use Rattle.slab.specs.Slab.{Slab, get, with_value}
use Rattle.member_lists.specs.Lists.{ListsView}
use Rattle.shared_lists.specs.Shared.{SharedView, more_of}
use Rattle.rights.specs.declared.Counts.{Counts}
use Rattle.rights.specs.Counts.{no_rights, one_shifted}
use Rattle.port_base.specs.declared.Record.{Record}
use Rattle.port_base.specs.Records.{lost_list, doomed_list, noted_list}
use Rattle.port.specs.Ports.{PortsView, CountedPorts, HasRights, rights_for, with_rights}
use Rattle.port.specs.Records.{ports_of, turns_at, ids_in, made_of, rights_of, IsKept}
use Rattle.port.proofs.Changed.{Change, change, still, kept-changed, same_view}
use Rattle.port.proofs.Records.{Keyed, port_of, port_at, ports-changed, rights_at, rights-changed, live_rights}
use Rattle.port.proofs.Sound.{IsOpen, rights-set, view_of, turns-put, all_are, places_are, counts_is, bare_is, opened}
use Rattle.port.proofs.Turned.{turns-same, ids-set}
use Rattle.port.proofs.Waiting.{ids-stay, insert-same, lost_now, doomed_now, noted_now}

-- the ports as they are seen, with how many rights there are
abbrev pub whole_of : {M : Type 0} → Slab (Record M) → Keyed → Option ℕ → (spare destroyed : List M) → SharedView → (waiting noting : ListsView) → CountedPorts M
whole_of s keys next spare destroyed sets waiting noting = record { bare = view_of s keys next spare destroyed sets waiting noting; counts = rights_of (get s) keys; places = keys }

module _ {M : Type 0} {s : Slab (Record M)} {keys : Keyed} {next : Option ℕ} {spare destroyed : List M} {slots : ℕ} {sets : SharedView} {waiting noting : ListsView} {w : CountedPorts M} (kept : IsKept s keys next spare destroyed slots sets waiting noting) (is : whole_of s keys next spare destroyed sets waiting noting ≡ w) (id : ℕ) where
  abbrev open_is : IsOpen s keys next spare destroyed slots sets waiting noting w.bare
  open_is = opened kept (bare_is is)

  pub key_of_rights : HasRights w id → (key : ℕ) × (map.get keys id ≡ Some key)
  key_of_rights there = live_rights (get s) keys id (ap (λ (m : map.FinMap nat_cmp Counts). map.contains_key m id) (counts_is is) ∙ there)

  module _ (key : ℕ) (r : Record M) (found : map.get keys id ≡ Some key) (here : get s key ≡ Some r) where
    pub rights_is : rights_for w id ≡ r.counts
    rights_is = ap (λ (m : map.FinMap nat_cmp Counts). unwrap_or (map.get m id) no_rights) (sym (counts_is is)) ∙ ap (λ o. unwrap_or o no_rights) (rights_at (get s) keys id key r found here)

    pub rights-put : (a : Record M) {t : Slab (Record M)} → a.id ≡ r.id → t ≡ with_value s key a → (f : Counts → Counts) → a.counts ≡ f r.counts → rights_of (get t) keys ≡ map.insert w.counts id (f (rights_for w id))
    rights-put a {t} same set_is f is_f =
        rights-changed (get s) (get t) sets sets keys (made_of next) kept.sound.indexed id key (λ k d. refl) r a found here (turns-put s key r a here set_is) same
        ∙ ap (map.insert (rights_of (get s) keys) id) (is_f ∙ ap f (sym rights_is)) ∙ ap (λ (m : map.FinMap nat_cmp Counts). map.insert m id (f (rights_for w id))) (counts_is is)

    -- ... as one of them is shifted, or none
    pub rights-shifted : (a : Record M) {t : Slab (Record M)} → a.id ≡ r.id → t ≡ with_value s key a → (b : Bool) → a.counts ≡ (if b then one_shifted r.counts else r.counts) →
        rights_of (get t) keys ≡ (if b then map.insert w.counts id (one_shifted (rights_for w id)) else w.counts)
    rights-shifted a {t} same set_is true is_f = rights-put a same set_is one_shifted is_f
    rights-shifted a {t} same set_is false is_f = rights-set s key r a here set_is is_f keys ∙ counts_is is

    -- ---- nothing else of it changes

    module _ (k : Counts) {t : Slab (Record M)} (set_is : t ≡ with_value s key (record r { counts = k })) where
      abbrev recounted : Record M
      recounted = record r { counts = k }

      recount : Change s keys next spare destroyed slots sets waiting noting w.bare id key r recounted t
      recount = change open_is id key r recounted found here refl set_is

      pub kept-recounted : IsKept t keys next spare destroyed slots sets waiting noting
      kept-recounted = kept-changed recount sets (still recount refl refl refl) (kept.membered.first key r here) spare destroyed refl refl refl

      bare-recounted : view_of t keys next spare destroyed sets waiting noting ≡ w.bare
      bare-recounted =
          let stay : (lists : ListsView) (l : ℕ) → ids_in (get t) lists l ≡ ids_in (get s) lists l = λ lists l. ap (λ (u : Slab (Record M)). ids_in (get u) lists l) set_is ∙ ids-stay open_is key r recounted here refl lists l in
          same_view (view_of t keys next spare destroyed sets waiting noting) w.bare
          (ports-changed (get s) (get t) sets sets keys (made_of next) kept.sound.indexed id key (λ k d. refl) r recounted found here (turns-put s key r recounted here set_is) refl
          ∙ insert-same (ports_of (get s) sets keys) id (port_of r (more_of sets key)) (port_at (get s) sets keys id key r found here) ∙ ap (λ (b : PortsView M). b.ports) open_is.view_is)
          (ap (λ (u : Slab (Record M)). turns_at (get u) sets.ready.lists) set_is ∙ turns-same (get s) (get (with_value s key recounted)) sets.ready (λ k l c. ids-set s key r recounted here refl k) ∙ ap (λ (b : PortsView M). b.ready) open_is.view_is)
          (ap (λ (b : PortsView M). b.made) open_is.view_is) (ap (λ (b : PortsView M). b.spare) open_is.view_is) (ap (λ (b : PortsView M). b.destroyed) open_is.view_is)
          (stay waiting lost_list ∙ lost_now open_is) (stay waiting doomed_list ∙ doomed_now open_is) (stay noting noted_list ∙ noted_now open_is) (ap (λ (b : PortsView M). b.several) open_is.view_is)

      pub view-recounted : (f : Counts → Counts) → k ≡ f r.counts → whole_of t keys next spare destroyed sets waiting noting ≡ with_rights w id (f (rights_for w id))
      view-recounted f is_f = all_are bare-recounted (rights-put recounted refl set_is f is_f) (places_are is)
