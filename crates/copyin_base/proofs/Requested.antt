-- Requests stand on names and ports that are there, after names, ports and requests have changed.
use Rattle.std.proofs.Common.{◌≡◌, ℕ, ◌-◌, List, Option, Some, None, refl, sym, ap, subst, ◌∙◌, inl, inr, true, false}
use Rattle.std.specs.Prelude.{is_some, slice_set}
use Rattle.std.specs.FinMap as map
use Rattle.std.specs.Ordering.{nat_cmp}
use Rattle.std.proofs.lemmas.Bool.Decides.{eqb_tells}
use Rattle.mach_types.specs.declared.profiles.Profile.{Profile}
use Rattle.mach_model.proofs.Names.{removed_own}
use Rattle.name_space.specs.declared.Entry.{Entry}
use Rattle.name_space.specs.Entry.{port_of}
use Rattle.name_space.specs.Names.{SpaceView}
use Rattle.name_space.specs.Names.{Names as TableNames}
use Rattle.port.specs.declared.Attributes.{Attributes}
use Rattle.port.specs.declared.Holder.{Holder}
use Rattle.port.specs.Ports.{PortView, PortsView, IsLive}
use Rattle.number_map.specs.Maps.{MapView}
use Rattle.request_table.specs.declared.Request.{Request}
use Rattle.request_table.specs.Requests.{name_key, key_of}
use Rattle.tables_base.specs.Kept.{Kept}
use Rattle.copyin_base.specs.Changes.{PutsLeft, InsertsEntry, SetsAttributes, SetsHolder, SameButNaming}
use Rattle.request_table.specs.Tables.{RequestTablesView, left_by}
use Rattle.copyin_base.specs.Worlds.{WorldView, no_world, space_in, space_at, entry_in, entry_at, put}
use Rattle.copyin_base.specs.Shows.{IsOnName, RequestsStand}
use Rattle.copyin_base.proofs.Putting.{each_put, get_removed, put_own, put_other}
use Rattle.copyin_base.proofs.Spaces.{each-space-set}

-- at the start
pub requested_none : (profile : Profile) → RequestsStand (no_world profile)
requested_none profile = record {
  on_names = λ key r is. absurd (let e : None ≡ Some r = sym (map.get-empty nat_cmp key) ∙ is in cc);
  no_senders = λ p is. absurd (let e : false ≡ true = ap is_some (sym (map.get-empty nat_cmp p)) ∙ is in cc);
  port_destroyed = λ p is. absurd (let e : false ≡ true = ap is_some (sym (map.get-empty nat_cmp p)) ∙ is in cc);
}

-- ---- what stands under names once one was put

-- another name, or a name of another task
pub entry_other : (w w2 : WorldView) (task name : ℕ) (space : SpaceView) (space2 : SpaceView) (o : Option Entry) → space_at w task ≡ Some space → w2.spaces ≡ slice_set w.spaces task (Some space2) →
    space2.names ≡ put space.names name o → (u n : ℕ) → (u ≡ task → n ≡ name → ⊥) → entry_at w2 u n ≡ entry_at w u n
entry_other w w2 task name space space2 o there spaces names u n not =
    ap (λ (xs : List (Option SpaceView)). entry_in (space_in xs u) n) spaces
    ∙ each-space-set w.spaces task space2 space there (λ k x. (k ≡ task → n ≡ name → ⊥) → entry_in x n ≡ entry_in (space_at w k) n)
    (λ differs. ap (λ (m : TableNames). map.get m n) names ∙ put_other space.names name o n (differs refl) ∙ ap (λ (x : Option SpaceView). entry_in x n) (sym there))
    (λ k other differs. refl) u not

-- the name itself
pub entry_own : (w w2 : WorldView) (task name : ℕ) (space : SpaceView) (space2 : SpaceView) (o : Option Entry) → space_at w task ≡ Some space → w2.spaces ≡ slice_set w.spaces task (Some space2) →
    space2.names ≡ put space.names name o → entry_at w2 task name ≡ o
entry_own w w2 task name space space2 o there spaces names =
    ap (λ (xs : List (Option SpaceView)). entry_in (space_in xs task) name) spaces
    ∙ each-space-set w.spaces task space2 space there (λ k x. k ≡ task → entry_in x name ≡ o)
    (λ same. ap (λ (m : TableNames). map.get m name) names ∙ put_own space.names name o)
    (λ k not same. absurd (not same)) task refl

module _ (w w2 : WorldView) (task name : ℕ) where
  pub left_entry : (left : Option Entry) → PutsLeft w task name left w2 → entry_at w2 task name ≡ left
  left_entry left puts = entry_own w w2 task name puts.space (record puts.space { names = put puts.space.names name left }) left puts.there (ap (λ (x : WorldView). x.spaces) puts.rest) refl

  pub left_other : (left : Option Entry) → PutsLeft w task name left w2 → (u n : ℕ) → (u ≡ task → n ≡ name → ⊥) → entry_at w2 u n ≡ entry_at w u n
  left_other left puts = entry_other w w2 task name puts.space (record puts.space { names = put puts.space.names name left }) left puts.there (ap (λ (x : WorldView). x.spaces) puts.rest) refl

  pub inserted_entry : (e : Entry) → InsertsEntry w task name e w2 → entry_at w2 task name ≡ Some e
  inserted_entry e puts = entry_own w w2 task name puts.space (record puts.space { names = map.insert puts.space.names name e; room = puts.space.room - 1 }) (Some e) puts.there (ap (λ (x : WorldView). x.spaces) puts.rest) refl

  pub inserted_other : (e : Entry) → InsertsEntry w task name e w2 → (u n : ℕ) → (u ≡ task → n ≡ name → ⊥) → entry_at w2 u n ≡ entry_at w u n
  inserted_other e puts = entry_other w w2 task name puts.space (record puts.space { names = map.insert puts.space.names name e; room = puts.space.room - 1 }) (Some e) puts.there (ap (λ (x : WorldView). x.spaces) puts.rest) refl

-- ---- requests

-- A right for the same port stands under the name, if one did.
pub record KeepsRight (old new : Option Entry) : Type 0 where
  pub keeps : (e : Entry) (p : ℕ) → old ≡ Some e → port_of e ≡ Some p → (f : Entry) × (new ≡ Some f) × (port_of f ≡ Some p)

pub keeps_same : (old new : Option Entry) → new ≡ old → KeepsRight old new
keeps_same old new same = record { keeps = λ e p is for. (e, same ∙ is, for) }

module _ (w w2 : WorldView) (a : RequestsStand w) where
  on_name : (key : ℕ) (r : Request) → IsOnName w key r → KeepsRight (entry_at w r.task r.name) (entry_at w2 r.task r.name) → ((p : ℕ) → IsLive w.ports p → IsLive w2.ports p) → IsOnName w2 key r
  on_name key r o right live =
      let k = right.keeps o.entry r.port o.found o.for_port in
      record { own = o.own; small = o.small; entry = k.0; found = k.1; for_port = k.2; live = live r.port o.live }

  -- The requests that stand did, the ports that were there are, and a right stands under each name that had one with a request that stands.
  pub requested_stay : ((p : ℕ) → IsLive w.ports p → IsLive w2.ports p) →
      ((p : ℕ) → map.contains_key w2.requests.no_senders.map p ≡ true → map.contains_key w.requests.no_senders.map p ≡ true) → w2.requests.port_destroyed ≡ w.requests.port_destroyed →
      ((key : ℕ) (r : Request) → map.get w2.requests.names.requests key ≡ Some r → map.get w.requests.names.requests key ≡ Some r) →
      ((key : ℕ) (r : Request) → map.get w2.requests.names.requests key ≡ Some r → key_of r ≡ key → KeepsRight (entry_at w r.task r.name) (entry_at w2 r.task r.name)) → RequestsStand w2
  requested_stay live senders destroyed fewer rights = record {
    on_names = λ key r is. let o = a.on_names key r (fewer key r is) in on_name key r o (rights key r is o.own) live;
    no_senders = λ p is. live p (a.no_senders p (senders p is));
    port_destroyed = λ p is. live p (a.port_destroyed p (subst (λ (x : MapView ℕ). map.contains_key x.map p ≡ true) destroyed is));
  }

  -- The requests are as they were, and a right stands under each name that had one.
  pub requested_kept : ((p : ℕ) → IsLive w.ports p → IsLive w2.ports p) → w2.requests ≡ w.requests → ((u n : ℕ) → KeepsRight (entry_at w u n) (entry_at w2 u n)) → RequestsStand w2
  requested_kept live requests rights = requested_stay live (λ p is. subst (λ (x : RequestTablesView). map.contains_key x.no_senders.map p ≡ true) requests is) (ap (λ (x : RequestTablesView). x.port_destroyed) requests)
      (λ key r is. ap (λ (x : RequestTablesView). map.get x.names.requests key) (sym requests) ∙ is) (λ key r is own. rights r.task r.name)

  -- ... as where only ports or rights changed
  pub requested_ports : ((p : ℕ) → IsLive w.ports p → IsLive w2.ports p) → w2.requests ≡ w.requests → w2.spaces ≡ w.spaces → RequestsStand w2
  requested_ports live requests spaces = requested_kept live requests
      (λ u n. keeps_same (entry_at w u n) (entry_at w2 u n) (ap (λ (xs : List (Option SpaceView)). entry_in (space_in xs u) n) spaces))

  -- the ports are
  same_live : w2.ports ≡ w.ports → (p : ℕ) → IsLive w.ports p → IsLive w2.ports p
  same_live ports p lives = subst (λ (x : PortsView Kept). IsLive x p) (sym ports) lives

  pub requested_room : SameButNaming w w2 → ((u n : ℕ) → entry_at w2 u n ≡ entry_at w u n) → RequestsStand w2
  requested_room same entries = requested_kept (same_live same.ports) same.requests (λ u n. keeps_same (entry_at w u n) (entry_at w2 u n) (entries u n))

  module _ (task name : ℕ) where
    -- one name's entry changed
    at_each : ((u n : ℕ) → (u ≡ task → n ≡ name → ⊥) → entry_at w2 u n ≡ entry_at w u n) → KeepsRight (entry_at w task name) (entry_at w2 task name) → (u n : ℕ) → KeepsRight (entry_at w u n) (entry_at w2 u n)
    at_each others own u n = elim (eqb_tells u task) [
      | inl h ↦ elim (eqb_tells n name) [
        | inl k ↦ subst (λ (x : ℕ). KeepsRight (entry_at w x n) (entry_at w2 x n)) (sym h.1) (subst (λ (x : ℕ). KeepsRight (entry_at w task x) (entry_at w2 task x)) (sym k.1) own)
        | inr k ↦ keeps_same (entry_at w u n) (entry_at w2 u n) (others u n (λ e f. k.1 f))
      ]
      | inr h ↦ keeps_same (entry_at w u n) (entry_at w2 u n) (others u n (λ e f. h.1 e))
    ]

    -- An entry came under a name that wasn't in use.
    pub requested_inserted : (e : Entry) → InsertsEntry w task name e w2 → entry_at w task name ≡ None → RequestsStand w2
    requested_inserted e puts unused = requested_kept (same_live (ap (λ (x : WorldView). x.ports) puts.rest)) (ap (λ (x : WorldView). x.requests) puts.rest)
        (at_each (inserted_other w w2 task name e puts) (record { keeps = λ x p is. absurd (let f : None ≡ Some x = sym unused ∙ is in cc) }))

    -- A right for the same port was left.
    pub requested_replaced : (e : Entry) → PutsLeft w task name (Some e) w2 → ((x : Entry) (p : ℕ) → entry_at w task name ≡ Some x → port_of x ≡ Some p → port_of e ≡ Some p) → RequestsStand w2
    requested_replaced e puts same = requested_kept (same_live (ap (λ (x : WorldView). x.ports) puts.rest)) (ap (λ (x : WorldView). x.requests) puts.rest)
        (at_each (left_other w w2 task name (Some e) puts) (record { keeps = λ x p is for. (e, left_entry w w2 task name (Some e) puts, same x p is for) }))

    -- The name went, and the request on it.
    pub requested_removed : PutsLeft w task name None w2 → RequestsStand w2
    requested_removed puts = requested_stay (same_live (ap (λ (x : WorldView). x.ports) puts.rest)) (λ p is. subst (λ (x : WorldView). map.contains_key x.requests.no_senders.map p ≡ true) puts.rest is) (ap (λ (x : WorldView). x.requests.port_destroyed) puts.rest)
        (λ key r is. (was key r is).0)
        (λ key r is own. keeps_same (entry_at w r.task r.name) (entry_at w2 r.task r.name) (left_other w w2 task name None puts r.task r.name (λ e f. (was key r is).1 (sym own ∙ (λ i. name_key (e i) (f i))))))
      where
        gone : (o : Option Request) → map.get w.requests.names.requests (name_key task name) ≡ o → (key : ℕ) (r : Request) → map.get (left_by w.requests.names o).requests key ≡ Some r →
            (map.get w.requests.names.requests key ≡ Some r) × (key ≡ name_key task name → ⊥)
        gone None none key r is = (is, λ e. let f : None ≡ Some r = sym none ∙ ap (map.get w.requests.names.requests) (sym e) ∙ is in cc)
        gone (Some g) found key r is =
            let own : key_of g ≡ name_key task name = (a.on_names (name_key task name) g found).own in
            let differs : key ≡ key_of g → ⊥ = λ e. let f : None ≡ Some r = sym (removed_own w.requests.names.requests (key_of g)) ∙ ap (map.get (map.remove w.requests.names.requests (key_of g))) (sym e) ∙ is in cc in
            (sym (get_removed w.requests.names.requests (key_of g) key differs) ∙ is, λ e. differs (e ∙ sym own))

        was : (key : ℕ) (r : Request) → map.get w2.requests.names.requests key ≡ Some r → (map.get w.requests.names.requests key ≡ Some r) × (key ≡ name_key task name → ⊥)
        was key r is = gone (map.get w.requests.names.requests (name_key task name)) refl key r (ap (λ (x : WorldView). map.get x.requests.names.requests key) (sym puts.rest) ∙ is)

    -- This was left.
    pub requested_left : (left : Option Entry) → PutsLeft w task name left w2 →
        ((e x : Entry) (p : ℕ) → left ≡ Some e → entry_at w task name ≡ Some x → port_of x ≡ Some p → port_of e ≡ Some p) → RequestsStand w2
    requested_left None puts same = requested_removed puts
    requested_left (Some e) puts same = requested_replaced e puts (λ x p. same e x p refl)

  -- a port that is there was put again
  put_live : (p : ℕ) (v2 : PortView Kept) → w2.ports.ports ≡ map.insert w.ports.ports p v2 → (q : ℕ) → IsLive w.ports q → IsLive w2.ports q
  put_live p v2 ports q lives = subst (λ (x : map.FinMap nat_cmp (PortView Kept)). is_some (map.get x q) ≡ true) (sym ports)
      (each_put w.ports.ports p (Some v2) (λ k o. is_some (map.get w.ports.ports k) ≡ true → is_some o ≡ true) (λ was. refl) (λ k not was. was) q lives)

  pub requested_put : (p : ℕ) (v2 : PortView Kept) → w2.ports.ports ≡ map.insert w.ports.ports p v2 → w2.requests ≡ w.requests → w2.spaces ≡ w.spaces → RequestsStand w2
  requested_put p v2 ports requests spaces = requested_ports (put_live p v2 ports) requests spaces

  pub requested_set : (p : ℕ) (x : Attributes) → SetsAttributes w p x w2 → RequestsStand w2
  requested_set p x set = requested_put p (record set.v { attributes = x }) (ap (λ (z : WorldView). z.ports.ports) set.rest) (ap (λ (z : WorldView). z.requests) set.rest) (ap (λ (z : WorldView). z.spaces) set.rest)

  pub requested_held : (p : ℕ) (holder : Holder) → SetsHolder w p holder w2 → RequestsStand w2
  requested_held p holder set = requested_put p (record set.v { attributes = record set.v.attributes { holder = holder } }) (ap (λ (z : WorldView). z.ports.ports) set.rest) (ap (λ (z : WorldView). z.requests) set.rest) (ap (λ (z : WorldView). z.spaces) set.rest)
