-- How requests are kept. No public clause cites this module.
use Rattle.std.specs.Prelude.{◌≡◌, ℕ, ◌+◌, ◌<◌, ◌≤◌, ◌^◌, ◌⊎◌, List, Some, length, slice_get, unwrap_or}
use Rattle.std.specs.Prelude as std
use Rattle.std.specs.List.{Contains}
use Rattle.std.specs.FinMap as map
use Rattle.std.specs.Ordering.{nat_cmp}
use Rattle.number_map.specs.Maps.{MapView}
use Rattle.member_lists.specs.Lists.{ListsView, list_of}
use Rattle.member_lists.specs.Chains.{times}
use Rattle.request_table.specs.declared.Request.{Request}
use Rattle.request_table.specs.declared.Entry.{Entry}
use Rattle.request_table.specs.Requests.{key_of}

-- the map with each value v replaced by f v
abbrev pub with_values : {Y X : Type 0} → (Y → X) → map.FinMap nat_cmp Y → map.FinMap nat_cmp X
with_values f m = map.from_sorted (std.map (λ e. (e.0, f e.1)) (map.entries m))

abbrev pub requests_of : map.FinMap nat_cmp Entry → map.FinMap nat_cmp Request
requests_of entries = with_values (λ (e : Entry). e.request) entries

-- the name of an item
abbrev pub key_at : List ℕ → ℕ → ℕ
key_at keys item = unwrap_or (slice_get keys item) 0

abbrev pub names_at : List ℕ → map.FinMap nat_cmp (List ℕ) → map.FinMap nat_cmp (List ℕ)
names_at keys lists = with_values (std.map (key_at keys)) lists

-- an entry under its key: its item has the key, and stands in the list of its port
pub record IsPlaced (lists : ListsView) (keys free : List ℕ) (fresh key : ℕ) (e : Entry) : Type 0 where
  pub own : key_of e.request ≡ key
  pub small : e.request.name < 2 ^ 32
  pub named : slice_get keys e.item ≡ Some key
  pub below : e.item < fresh
  pub stands : Contains (list_of lists e.request.port) e.item
  pub used : times e.item free ≡ 0

-- what stands in a list is an entry's item
pub record IsHeld (entries : map.FinMap nat_cmp Entry) (port item : ℕ) : Type 0 where
  pub key : ℕ
  pub entry : Entry
  pub there : map.get entries key ≡ Some entry
  pub item_is : entry.item ≡ item
  pub port_is : entry.request.port ≡ port

-- Items below `fresh` are free or stand for a request, and no others do.
pub record IsKept (entries : MapView Entry) (lists : ListsView) (keys free : List ℕ) (capacity fresh : ℕ) : Type 0 where
  pub found : (key : ℕ) (e : Entry) → map.get entries.map key ≡ Some e → IsPlaced lists keys free fresh key e
  pub held : (port item : ℕ) → Contains (list_of lists port) item → IsHeld entries.map port item
  pub once : (item : ℕ) → times item free ≤ 1
  pub below : (item : ℕ) → 0 < times item free → item < fresh
  pub counted : map.len entries.map + length free ≡ fresh
  pub fits : fresh ≤ map.len entries.map + entries.room
  pub in_lists : map.len entries.map + entries.room ≤ lists.items
  pub in_keys : map.len entries.map + entries.room ≤ length keys
  pub in_free : map.len entries.map + entries.room ≤ capacity

-- The requests that are kept, and those whose names went: each of these has a place among the room, and there is a place for each that may go.
pub record IsWhole (entries : MapView Entry) (lists : ListsView) (keys free : List ℕ) (capacity fresh : ℕ) (went : List Request) (places : ℕ) : Type 0 where
  pub standing : IsKept entries lists keys free capacity fresh
  pub waiting : length went ≤ entries.room
  pub in_went : map.len entries.map + entries.room ≤ places

-- An item was taken that was free, or is the first that never was.
pub record IsTaken (old new : List ℕ) (fresh fresh' item : ℕ) : Type 0 where
  pub was : (0 < times item old) ⊎ (fresh ≤ item)
  pub below : item < fresh'
  pub gone : times item new ≡ 0
  pub fewer : (x : ℕ) → times x new ≤ times x old
  pub counted : length new + 1 + fresh ≡ length old + fresh'
  pub grown : (fresh' ≡ fresh) ⊎ ((length old ≡ 0) × (fresh' ≡ fresh + 1))
