-- What the view says of requests that are kept.
use Rattle.std.proofs.Common.{◌≡◌, ◌↔◌, Bool, false, IsTrue, eqb, ℕ, ◌-◌, ◌^◌, ◌<◌, length, Option, Some, None, List, [], ◌∷◌, slice_get, refl, ap, sym, subst, ◌∙◌, arith, Contains}
use Rattle.std.specs.Prelude.{unwrap_or}
use Rattle.std.specs.Option.{option_map, option_and_then}
use Rattle.std.specs.FinMap as map
use Rattle.std.specs.Ordering.{nat_cmp}
use Rattle.std.proofs.lemmas.List.{nil_from_length}
use Rattle.std.proofs.lemmas.Option.{slice_get_within, get_or_from_slice_get}
use Rattle.number_map.specs.Maps.{MapView}
use Rattle.member_lists.specs.Lists.{ListsView, list_of}
use Rattle.member_lists.proofs.Times.{same_some, none_some, eqb_is, eqb_same}
use Rattle.request_table.specs.declared.Request.{Request}
use Rattle.request_table.specs.declared.Entry.{Entry}
use Rattle.request_table.specs.Requests.{RequestsView, name_key, names_of, IsOn, NoneOn}
use Rattle.request_table.specs.Kept.{requests_of, key_at, names_at, IsHeld, IsKept}
use Rattle.request_table.proofs.Moved.{no_true}
use Rattle.request_table.proofs.View.{len-with_values}
use Rattle.request_table.proofs.Names.{keys_at, keys-first, names-list}
use Rattle.request_table.proofs.Came.{its_request, shown, get-requests}

nothing_held : (x : ℕ) (l : List ℕ) → slice_get l 0 ≡ None → Contains l x → ⊥
nothing_held x [] e c = let less : c.0 < 0 = c.1 in omega arith
nothing_held x (y ∷ l) e c = cc

no_items : (l : List ℕ) → slice_get l 0 ≡ None → l ≡ []
no_items [] e = refl
no_items (y ∷ l) e = cc

of_request : (o : Option Entry) → option_map its_request o ≡ None → o ≡ None
of_request None e = refl
of_request (Some x) e = absurd (none_some (its_request x) (sym e))

entry_of : (o : Option Entry) (r : Request) → option_map its_request o ≡ Some r → (e : Entry) × (o ≡ Some e) × (e.request ≡ r)
entry_of None r e = absurd (none_some r e)
entry_of (Some x) r e = (x, refl, same_some (its_request x) r e)

-- a name is less than 2^32, so that its number tells both the task and the name
pub same_task : (task name task' name' : ℕ) → name < 2 ^ 32 → name' < 2 ^ 32 → name_key task name ≡ name_key task' name' → task ≡ task'
same_task task name task' name' small small' e = omega arith

pub same_name : (task name task' name' : ℕ) → name < 2 ^ 32 → name' < 2 ^ 32 → name_key task name ≡ name_key task' name' → name ≡ name'
same_name task name task' name' small small' e = omega arith

module _ (entries : MapView Entry) (lists : ListsView) (keys free : List ℕ) (capacity fresh : ℕ) (so : IsKept entries lists keys free capacity fresh)
    (went : List Request) (v : RequestsView) (view_is : shown (requests_of entries.map) (names_at keys lists.lists) (entries.room - length went) went ≡ v) where
  pub got : (q : ℕ) → map.get v.requests q ≡ option_map its_request (map.get entries.map q)
  got q = ap (λ (w : RequestsView). map.get w.requests q) (sym view_is) ∙ get-requests entries.map q

  pub found-request : (q : ℕ) (e : Entry) → map.get entries.map q ≡ Some e → map.get v.requests q ≡ Some e.request
  found-request q e at = got q ∙ ap (option_map its_request) at

  pub none-request : (q : ℕ) → map.get entries.map q ≡ None → map.get v.requests q ≡ None
  none-request q none = got q ∙ ap (option_map its_request) none

  pub none-entry : (q : ℕ) → map.get v.requests q ≡ None → map.get entries.map q ≡ None
  none-entry q none = of_request (map.get entries.map q) (sym (got q) ∙ none)

  pub room_is : entries.room - length went ≡ v.room
  room_is = ap (λ (w : RequestsView). w.room) view_is

  -- ---- whether there are any

  len_is : map.len v.requests ≡ map.len entries.map
  len_is = ap (λ (w : RequestsView). map.len w.requests) (sym view_is) ∙ len-with_values its_request entries.map

  went_is : v.went ≡ went
  went_is = ap (λ (w : RequestsView). w.went) (sym view_is)

  module _ (len : ℕ) (counted : len ≡ map.len entries.map) where
    no_len : v.requests ≡ map.empty → len ≡ 0
    no_len e = counted ∙ sym len_is ∙ ap (λ (m : map.FinMap nat_cmp Request). map.len m) e ∙ map.len-empty nat_cmp Request

    pub empty-tells : (waiting : ℕ) → waiting ≡ length went → (told : Bool) → told ≡ eqb waiting 0 → len ≡ 0 → IsTrue told ↔ ((v.requests ≡ map.empty) × (v.went ≡ []))
    empty-tells waiting long told is none = (
      λ yes. (map.empty_of_len v.requests (len_is ∙ sym counted ∙ none), went_is ∙ nil_from_length went (sym long ∙ eqb_is waiting 0 (sym is ∙ yes))),
      λ p. is ∙ eqb_same waiting 0 (long ∙ ap (λ (l : List Request). length l) (sym went_is ∙ p.1)),
    )

    pub some-tells : eqb len 0 ≡ false → IsTrue (eqb len 0) ↔ ((v.requests ≡ map.empty) × (v.went ≡ []))
    some-tells some = (
      λ yes. absurd (no_true (sym some ∙ yes)),
      λ p. eqb_same len 0 (no_len p.0),
    )

  pub task_is : (task name : ℕ) → name < 2 ^ 32 → (e : Entry) → map.get entries.map (name_key task name) ≡ Some e → e.request.task ≡ task
  task_is task name small e at = let f = so.found (name_key task name) e at in same_task e.request.task e.request.name task name f.small small f.own

  pub name_is : (task name : ℕ) → name < 2 ^ 32 → (e : Entry) → map.get entries.map (name_key task name) ≡ Some e → e.request.name ≡ name
  name_is task name small e at = let f = so.found (name_key task name) e at in same_name e.request.task e.request.name task name f.small small f.own

  -- ---- the first of a port

  module _ (port : ℕ) where
    names_are : names_of v port ≡ keys_at keys (list_of lists port)
    names_are = ap (λ (w : RequestsView). names_of w port) (sym view_is) ∙ names-list keys lists port

    first_name : slice_get (names_of v port) 0 ≡ option_map (key_at keys) (slice_get (list_of lists port) 0)
    first_name = ap (λ l. slice_get l 0) names_are ∙ keys-first keys (list_of lists port)

    pub first-held : (item : ℕ) → slice_get (list_of lists port) 0 ≡ Some item → IsHeld entries.map port item
    first-held item e = so.held port item (0, slice_get_within (list_of lists port) 0 item e, get_or_from_slice_get (list_of lists port) 0 item item e)

    -- the key of the first item
    pub first-key : (item : ℕ) (e : slice_get (list_of lists port) 0 ≡ Some item) → slice_get keys item ≡ Some (first-held item e).key
    first-key item e =
        let h = first-held item e in
        subst (λ x. slice_get keys x ≡ Some h.key) h.item_is (so.found h.key h.entry h.there).named

    pub first-some : (item : ℕ) → slice_get (list_of lists port) 0 ≡ Some item → (key : ℕ) → slice_get keys item ≡ Some key → (e : Entry) → map.get entries.map key ≡ Some e →
        Some e.request ≡ option_and_then (λ k. map.get v.requests k) (slice_get (names_of v port) 0)
    first-some item first key named e at =
        sym (ap (option_and_then (λ k. map.get v.requests k)) (first_name ∙ ap (option_map (key_at keys)) first ∙ ap (λ o. Some (unwrap_or o 0)) named) ∙ found-request key e at)

    pub first-none : slice_get (list_of lists port) 0 ≡ None → option_and_then (λ k. map.get v.requests k) (slice_get (names_of v port) 0) ≡ None
    first-none first = ap (option_and_then (λ k. map.get v.requests k)) (first_name ∙ ap (option_map (key_at keys)) first)

    pub first-on : (item : ℕ) → slice_get (list_of lists port) 0 ≡ Some item → (key : ℕ) → slice_get keys item ≡ Some key → (e : Entry) → map.get entries.map key ≡ Some e → IsOn v port e.request
    first-on item first key named e at =
        let h = first-held item first in
        let same : key ≡ h.key = same_some key h.key (sym named ∙ first-key item first) in
        let entry : e ≡ h.entry = same_some e h.entry (sym at ∙ ap (map.get entries.map) same ∙ h.there) in
        record {
          there = ap (map.get v.requests) (so.found key e at).own ∙ found-request key e at;
          is = ap (λ (x : Entry). x.request.port) entry ∙ h.port_is;
        }

    pub none-on : slice_get (list_of lists port) 0 ≡ None → NoneOn v port
    none-on first = record {
      names = names_are ∙ ap (keys_at keys) (no_items (list_of lists port) first);
      apart = λ key r at on. (
          let o = entry_of (map.get entries.map key) r (sym (got key) ∙ at) in
          let f = so.found key o.0 o.1 in
          nothing_held o.0.item (list_of lists port) first (subst (λ n. Contains (list_of lists n) o.0.item) (ap (λ (x : Request). x.port) o.2 ∙ on) f.stands));
    }
