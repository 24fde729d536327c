-- Requests stand on names and ports that are there, after one was taken away or kept; what else is true of the tables alone still is.
use Rattle.std.proofs.Common.{◌≡◌, ℕ, ◌<◌, ◌^◌, Option, Some, None, refl, sym, ap, subst, ◌∙◌, true, inl, inr}
use Rattle.std.specs.Prelude.{is_some}
use Rattle.std.specs.FinMap as map
use Rattle.std.specs.Ordering.{nat_cmp}
use Rattle.std.proofs.lemmas.Bool.Decides.{eqb_tells}
use Rattle.mach_model.proofs.Names.{removed_own}
use Rattle.name_space.specs.declared.Entry.{Entry}
use Rattle.name_space.specs.Entry.{port_of}
use Rattle.number_map.specs.Maps.{MapView}
use Rattle.port.specs.Ports.{IsLive}
use Rattle.request_table.specs.declared.Request.{Request}
use Rattle.request_table.specs.Requests.{RequestsView, name_key, key_of}
use Rattle.request_table.specs.Tables.{RequestTablesView}
use Rattle.copyin_base.specs.Asking.{taken_at}
use Rattle.copyin_base.specs.Shows.{IsOnName, RequestsStand}
use Rattle.copyin_base.specs.Worlds.{WorldView, entry_at}
use Rattle.copyin_base.proofs.Gets.{same_found}
use Rattle.copyin_base.proofs.Putting.{get_removed, put_own, put_other}
use Rattle.copyout.proofs.GivenAll.{AreSound}
use Rattle.notifications.specs.declared.request.Subject.{Subject}
use Rattle.notifications.specs.declared.request.Subject.TheVariants.{Receive, Senders, Live, Dead}
use Rattle.notifications.specs.Putting.{name_taken, taken_away, with_kept}

was_there : {V : Type 0} (m : map.FinMap nat_cmp V) (k key : ℕ) (o : Option V) → map.get (map.remove m k) key ≡ o → (x : V) → o ≡ Some x → map.get m key ≡ Some x
was_there m k key o is x some = elim (eqb_tells key k) [
  | inl h ↦ absurd (let e : map.get (map.remove m k) key ≡ None = subst (λ (n : ℕ). map.get (map.remove m k) n ≡ None) (sym h.1) (removed_own m k) in let f : None ≡ Some x = sym e ∙ is ∙ some in cc)
  | inr h ↦ sym (get_removed m k key h.1) ∙ is ∙ some
]

port_was : (m : MapView ℕ) (p : ℕ) (o : Option ℕ) (q : ℕ) → map.contains_key (taken_at m p o).map q ≡ true → map.contains_key m.map q ≡ true
port_was m p None q is = is
port_was m p (Some n) q is = go (map.get (map.remove m.map p) q) refl is
  where
    go : (o : Option ℕ) → map.get (map.remove m.map p) q ≡ o → is_some o ≡ true → is_some (map.get m.map q) ≡ true
    go None e some = absurd (cc)
    go (Some x) e some = ap is_some (was_there m.map p q (Some x) e x refl)

name_was : (v : RequestsView) (o : Option Request) (key : ℕ) (r : Request) → map.get (name_taken v o).requests key ≡ Some r → map.get v.requests key ≡ Some r
name_was v None key r is = is
name_was v (Some g) key r is = was_there v.requests (key_of g) key (Some r) is r refl

module _ (w : WorldView) (requests : RequestTablesView) where
  abbrev with_requests : WorldView
  with_requests = record w { requests = requests }

  on_name : (key : ℕ) (r : Request) → IsOnName w key r → IsOnName with_requests key r
  on_name key r o = record { own = o.own; small = o.small; entry = o.entry; found = o.found; for_port = o.for_port; live = o.live }

  -- what is true of the tables alone
  pub still_sound : AreSound w → RequestsStand with_requests → AreSound with_requests
  still_sound a stand = record {
    holders = record { held = a.holders.held };
    carriers = record { given = a.carriers.given; carried = a.carriers.carried };
    requested = stand;
    none_lost = record { lost = a.none_lost.lost; doomed = a.none_lost.doomed; destroyed = a.none_lost.destroyed };
  }

abbrev new_on : (task name port notify : ℕ) → Request
new_on task name p notify = record { task = task; name = name; port = p; notify = notify }

module _ (w : WorldView) (a : RequestsStand w) (task name : ℕ) where
  pub away_stand : (subject : Subject) → RequestsStand (record w { requests = taken_away w.requests task name subject })
  away_stand (Receive p) = record {
    on_names = λ key r is. on_name w (taken_away w.requests task name (Receive p)) key r (a.on_names key r is);
    no_senders = a.no_senders;
    port_destroyed = λ q is. a.port_destroyed q (port_was w.requests.port_destroyed p (map.get w.requests.port_destroyed.map p) q is);
  }
  away_stand (Senders p) = record {
    on_names = λ key r is. on_name w (taken_away w.requests task name (Senders p)) key r (a.on_names key r is);
    no_senders = λ q is. a.no_senders q (port_was w.requests.no_senders p (map.get w.requests.no_senders.map p) q is);
    port_destroyed = a.port_destroyed;
  }
  away_stand (Live p) = record {
    on_names = λ key r is. on_name w (taken_away w.requests task name (Live p)) key r (a.on_names key r (name_was w.requests.names (map.get w.requests.names.requests (name_key task name)) key r is));
    no_senders = a.no_senders;
    port_destroyed = a.port_destroyed;
  }
  away_stand (Dead n) = record {
    on_names = λ key r is. on_name w (taken_away w.requests task name (Dead n)) key r (a.on_names key r (name_was w.requests.names (map.get w.requests.names.requests (name_key task name)) key r is));
    no_senders = a.no_senders;
    port_destroyed = a.port_destroyed;
  }

  port_comes : (m : MapView ℕ) (p notify q : ℕ) → ((q : ℕ) → map.contains_key m.map q ≡ true → IsLive w.ports q) → IsLive w.ports p → map.contains_key (map.insert m.map p notify) q ≡ true → IsLive w.ports q
  port_comes m p notify q were live is = elim (eqb_tells q p) [
    | inl h ↦ subst (λ (x : ℕ). IsLive w.ports x) (sym h.1) live
    | inr h ↦ were q (sym (ap is_some (put_other m.map p (Some notify) q h.1)) ∙ is)
  ]

  -- One is kept on a port that is there, or on a name under which a right for one stands.
  pub kept_stand : (subject : Subject) (notify : ℕ) → name < 2 ^ 32 → ((p : ℕ) → subject ≡ Receive p → IsLive w.ports p) → ((p : ℕ) → subject ≡ Senders p → IsLive w.ports p) →
      ((p : ℕ) → subject ≡ Live p → (e : Entry) × (entry_at w task name ≡ Some e) × (port_of e ≡ Some p) × IsLive w.ports p) →
      RequestsStand (record w { requests = with_kept w.requests task name subject notify })
  kept_stand (Receive p) notify small received sent live = record {
    on_names = λ key r is. on_name w (with_kept w.requests task name (Receive p) notify) key r (a.on_names key r is);
    no_senders = a.no_senders;
    port_destroyed = λ q is. port_comes w.requests.port_destroyed p notify q a.port_destroyed (received p refl) is;
  }
  kept_stand (Senders p) notify small received sent live = record {
    on_names = λ key r is. on_name w (with_kept w.requests task name (Senders p) notify) key r (a.on_names key r is);
    no_senders = λ q is. port_comes w.requests.no_senders p notify q a.no_senders (sent p refl) is;
    port_destroyed = a.port_destroyed;
  }
  kept_stand (Live p) notify small received sent live = record {
    on_names = λ key r is. on_name w (with_kept w.requests task name (Live p) notify) key r (of key r is);
    no_senders = a.no_senders;
    port_destroyed = a.port_destroyed;
  }
    where
      of : (key : ℕ) (r : Request) → map.get (map.insert w.requests.names.requests (name_key task name) (new_on task name p notify)) key ≡ Some r → IsOnName w key r
      of key r is = elim (eqb_tells key (name_key task name)) [
        | inl h ↦
            let own : map.get (map.insert w.requests.names.requests (name_key task name) (new_on task name p notify)) key ≡ Some (new_on task name p notify) =
            subst (λ (n : ℕ). map.get (map.insert w.requests.names.requests (name_key task name) (new_on task name p notify)) n ≡ Some (new_on task name p notify)) (sym h.1) (put_own w.requests.names.requests (name_key task name) (Some (new_on task name p notify))) in
            let same : new_on task name p notify ≡ r = same_found (map.get (map.insert w.requests.names.requests (name_key task name) (new_on task name p notify)) key) (new_on task name p notify) r own is in
            let x = live p refl in
            subst (IsOnName w key) same (record { own = sym h.1; small = small; entry = x.0; found = x.1; for_port = x.2; live = x.3 })
        | inr h ↦ a.on_names key r (sym (put_other w.requests.names.requests (name_key task name) (Some (new_on task name p notify)) key h.1) ∙ is)
      ]
  kept_stand (Dead n) notify small received sent live = record {
    on_names = λ key r is. on_name w (with_kept w.requests task name (Dead n) notify) key r (a.on_names key r is);
    no_senders = a.no_senders;
    port_destroyed = a.port_destroyed;
  }
