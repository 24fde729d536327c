-- How a map from numbers is kept: its keys in a row, each in the tree of its hash. No public clause cites this module.
use Rattle.std.specs.Prelude.{◌≡◌, ◌≢◌, ℕ, zero, suc, ◌+◌, ◌-◌, ◌*◌, ◌%◌, ◌^◌, ◌<◌, ◌≤◌, List, map, length, Option, Some, slice_get, slice_index_or, bit_and, cond, eqb, max}
use Rattle.std.specs.Option.{option_map_or}
use Rattle.std.specs.Int.{w64, rotate_right, bit_at}
use Rattle.number_map.specs.declared.Node.{Node}

-- the tree of a key, where there are so many
unfoldable pub slot : ℕ → ℕ → ℕ
slot key slots = bit_and (rotate_right w64 (key * 2049577361 % 2 ^ 64) 31) (slots - 1)

-- ---- trees, by functions: node 0 is the root above all of them, and place x is node x + 1; 0 is also a link that leads nowhere

-- the link that leads towards a key from a node at this depth: from the root by the hash, and then by one bit of the key after the other
abbrev pub turn : (slots depth key : ℕ) → ℕ
turn slots zero key = slot key slots
turn slots (suc d) key = bit_at key d

-- keys that turn the same way at each depth below this one
abbrev pub AreAlike : (slots depth key key' : ℕ) → Type 0
AreAlike slots depth key key' = (e : ℕ) → e < depth → turn slots e key ≡ turn slots e key'

-- A link leads to a node of the row, one deeper, whose key turns as the node does that has the link, and then into the link.
pub record IsBelow (slots : ℕ) (key deep : ℕ → ℕ) (places hole u i v : ℕ) : Type 0 where
  pub inside : v ≤ places
  pub present : v ≢ hole
  pub deeper : deep v ≡ suc (deep u)
  pub turned : turn slots (deep u) (key v) ≡ i
  pub alike : AreAlike slots (deep u) (key u) (key v)

-- Nodes up to `places` lie in trees, but for the hole, if that is not 0. `out u i` is link i of node u.
pub record IsTree (slots : ℕ) (key : ℕ → ℕ) (out : ℕ → ℕ → ℕ) (deep : ℕ → ℕ) (places hole : ℕ) : Type 0 where
  pub root : (u : ℕ) → deep u ≡ 0 → u ≡ 0
  pub top : deep 0 ≡ 0
  pub shallow : (u : ℕ) → u ≤ places → deep u ≤ 65
  pub down : (u i v : ℕ) → u ≤ places → out u i ≡ v → v ≢ 0 → IsBelow slots key deep places hole u i v
  pub up : (v : ℕ) → v ≢ 0 → v ≤ places → v ≢ hole → (u : ℕ) × (u ≤ places) × (out u (turn slots (deep u) (key v)) ≡ v)
  pub empty : (i : ℕ) → hole ≢ 0 → out hole i ≡ 0

-- link i of a node, and none where there is no node
abbrev pub follow : (link : ℕ → ℕ → ℕ) (u i : ℕ) → ℕ
follow link zero i = 0
follow link (suc x) i = link x i

-- the node at this depth below the first on the way to a key, or 0
abbrev pub walk : (link : ℕ → ℕ → ℕ) (first key depth : ℕ) → ℕ
walk link first key zero = first
walk link first key (suc d) = follow link (walk link first key d) (bit_at key d)

-- the node at this depth on the way to a key, from the root
abbrev pub IsOn : (link : ℕ → ℕ → ℕ) (first key depth u : ℕ) → Type 0
IsOn link first key zero u = u ≡ 0
IsOn link first key (suc d) u = (walk link first key d ≡ u) × (u ≢ 0)

-- One link leads elsewhere.
pub record IsTurned (out out' : ℕ → ℕ → ℕ) (u i from to : ℕ) : Type 0 where
  pub was : out u i ≡ from
  pub is : out' u i ≡ to
  pub others : (w j : ℕ) → (w ≡ u → j ≡ i → ⊥) → out' w j ≡ out w j

-- The link on the way to a key that leads nowhere leads to a node from now on, which knows it.
pub record IsLed (slots : ℕ) (out out' : ℕ → ℕ → ℕ) (above above' : ℕ → ℕ) (key to : ℕ) : Type 0 where
  pub depth : ℕ
  pub u : ℕ
  pub on : IsOn (λ x i. out (suc x) i) (out 0 (turn slots 0 key)) key depth u
  pub turned : IsTurned out out' u (turn slots depth key) 0 to
  pub here : above' to ≡ u
  pub others : (v : ℕ) → v ≢ to → above' v ≡ above v

-- Each node knows the one whose link leads there.
abbrev pub KnowAbove : (out : ℕ → ℕ → ℕ) (above : ℕ → ℕ) (places : ℕ) → Type 0
KnowAbove out above places = (u i v : ℕ) → u ≤ places → out u i ≡ v → v ≢ 0 → above v ≡ u

-- ---- in a row of nodes

-- the second link of a node, where it leads somewhere, and else the first
abbrev pub below : List ℕ → ℕ
below links = cond (eqb (slice_index_or links 1 0) 0) (slice_index_or links 0 0) (slice_index_or links 1 0)

-- the head of a key's tree
abbrev pub head_at : List ℕ → ℕ → ℕ
head_at heads key = slice_index_or heads (slot key (length heads)) 0

module _ {V : Type 0} where
  abbrev pub key_in : Option (Node V) → ℕ
  key_in o = option_map_or (λ (n : Node V). n.key) o 0

  abbrev pub link_in : ℕ → Option (Node V) → ℕ
  link_in i o = option_map_or (λ (n : Node V). slice_index_or n.links i 0) o 0

  abbrev pub above_in : Option (Node V) → ℕ
  above_in o = option_map_or (λ (n : Node V). n.above) o 0

  abbrev pub link_at : List (Node V) → ℕ → ℕ → ℕ
  link_at nodes x i = link_in i (slice_get nodes x)

  -- the key of a node
  abbrev pub key_at : List (Node V) → ℕ → ℕ
  key_at nodes zero = 0
  key_at nodes (suc x) = key_in (slice_get nodes x)

  -- the node above, and the root above the first of a tree
  abbrev pub above_at : List (Node V) → ℕ → ℕ
  above_at nodes zero = 0
  above_at nodes (suc x) = above_in (slice_get nodes x)

  -- a node's link; the root's are the heads
  abbrev pub out_at : List (Node V) → List ℕ → ℕ → ℕ → ℕ
  out_at nodes heads zero i = slice_index_or heads i 0
  out_at nodes heads (suc x) i = link_at nodes x i

  abbrev pub entry_of : Node V → ℕ × V
  entry_of n = (n.key, n.value)

  abbrev pub entries_of : List (Node V) → List (ℕ × V)
  entries_of nodes = map entry_of nodes

  -- so many nodes of the row are in the trees of their hashes, but for the hole
  pub record IsPlanted (nodes : List (Node V)) (heads : List ℕ) (places hole : ℕ) : Type 0 where
    pub deep : ℕ → ℕ
    pub tree : IsTree (length heads) (key_at nodes) (out_at nodes heads) deep places hole
    pub above : KnowAbove (out_at nodes heads) (above_at nodes) places
    pub wide : 0 < length nodes → 0 < length heads
    -- keys have 64 bits
    pub short : (v : ℕ) → key_at nodes v < 2 ^ 64

  abbrev pub IsIndexed : List (Node V) → List ℕ → Type 0
  IsIndexed nodes heads = IsPlanted nodes heads (length nodes) 0

  -- this place has the key
  abbrev pub HasKey : List (Node V) → ℕ → ℕ → Type 0
  HasKey nodes key x = (n : Node V) × (slice_get nodes x ≡ Some n) × (n.key ≡ key)

  -- no key twice
  abbrev pub IsUnique : List (ℕ × V) → Type 0
  IsUnique es = (x y : ℕ) (a b : ℕ × V) → slice_get es x ≡ Some a → slice_get es y ≡ Some b → a.0 ≡ b.0 → x ≡ y

  -- The same nodes but for their links.
  abbrev pub SameEntries : List (Node V) → List (Node V) → Type 0
  SameEntries old new = entries_of new ≡ entries_of old

  -- Each node hangs where it hung.
  abbrev pub SameAbove : List (Node V) → List (Node V) → Type 0
  SameAbove old new = (v : ℕ) → above_at new v ≡ above_at old v

  -- The way to a key from the first node of its tree stays in the row, and ends.
  pub record IsWay (nodes : List (Node V)) (first key : ℕ) : Type 0 where
    pub inside : (d x : ℕ) → walk (link_at nodes) first key d ≡ suc x → x < length nodes
    pub ends : walk (link_at nodes) first key 65 ≡ 0

  -- The link on the way that leads nowhere, below the first node, leads to a node from now on, which knows it.
  pub record IsLedBelow (old new : List (Node V)) (first key to : ℕ) : Type 0 where
    pub depth : ℕ
    pub x : ℕ
    pub on : walk (link_at old) first key depth ≡ suc x
    pub was : link_at old x (bit_at key depth) ≡ 0
    pub is : link_at new x (bit_at key depth) ≡ to
    pub links : (w j : ℕ) → (w ≡ x → j ≡ bit_at key depth → ⊥) → link_at new w j ≡ link_at old w j
    pub here : above_at new to ≡ suc x
    pub others : (v : ℕ) → v ≢ to → above_at new v ≡ above_at old v

  -- One link of the node at a place leads elsewhere.
  pub record IsTurnedBelow (old new : List (Node V)) (x from to : ℕ) : Type 0 where
    pub side : ℕ
    pub was : link_at old x side ≡ from
    pub is : link_at new x side ≡ to
    pub others : (w j : ℕ) → (w ≡ x → j ≡ side → ⊥) → link_at new w j ≡ link_at old w j
    pub entries : SameEntries old new
    pub above : SameAbove old new

  -- The link that leads to a node leads elsewhere.
  pub record IsCut (old new : List (Node V)) (heads heads' : List ℕ) (place to : ℕ) : Type 0 where
    pub side : ℕ
    pub inside : above_at old (suc place) ≤ length old
    pub turned : IsTurned (out_at old heads) (out_at new heads') (above_at old (suc place)) side (suc place) to
    pub entries : SameEntries old new
    pub above : SameAbove old new
    pub len : length heads' ≡ length heads

  -- What a link leads to hangs on a node.
  pub record IsHung (old new : List (Node V)) (link above : ℕ) : Type 0 where
    pub here : link ≢ 0 → above_at new link ≡ above
    pub others : (v : ℕ) → v ≢ link → above_at new v ≡ above_at old v
    pub links : (x i : ℕ) → link_at new x i ≡ link_at old x i
    pub entries : SameEntries old new

  -- The nodes below a node hang on another.
  pub record AreHung (old new : List (Node V)) (place above : ℕ) : Type 0 where
    pub here : (v i : ℕ) → v ≢ 0 → i < 2 → link_at old place i ≡ v → above_at new v ≡ above
    pub others : (v : ℕ) → ((i : ℕ) → i < 2 → link_at old place i ≢ v) → above_at new v ≡ above_at old v
    pub links : (x i : ℕ) → link_at new x i ≡ link_at old x i
    pub entries : SameEntries old new

  -- A leaf at or below a place, whose key turns as the key there down to the place.
  pub record IsLeafBelow (nodes : List (Node V)) (place leaf : ℕ) : Type 0 where
    pub low : leaf < length nodes
    pub bare : (i : ℕ) → link_at nodes leaf i ≡ 0
    pub alike : (heads : List ℕ) (r : IsIndexed nodes heads) → AreAlike (length heads) (r.deep (suc place)) (key_at nodes (suc place)) (key_at nodes (suc leaf))

  -- The entry of a leaf came to a place.
  pub record IsRaised (old new : List (Node V)) (place leaf : ℕ) : Type 0 where
    pub len : length new ≡ length old
    pub inside : leaf < length old
    pub came : slice_get (entries_of new) place ≡ slice_get (entries_of old) leaf
    pub others : (x : ℕ) → x ≢ place → slice_get (entries_of new) x ≡ slice_get (entries_of old) x

  -- The last node came to a place.
  pub record IsMoved (old new : List (Node V)) (place : ℕ) : Type 0 where
    pub len : length new + 1 ≡ length old
    pub came : place < length new → slice_get (entries_of new) place ≡ slice_get (entries_of old) (length new)
    pub others : (x : ℕ) → x < length new → x ≢ place → slice_get (entries_of new) x ≡ slice_get (entries_of old) x

  -- An entry is taken out; others may stand at other places.
  pub record IsTakenOut (old new : List (Node V)) (place : ℕ) : Type 0 where
    pub len : length new + 1 ≡ length old
    -- where each entry was
    pub was : ℕ → ℕ
    pub came : (x : ℕ) → x < length new → slice_get (entries_of new) x ≡ slice_get (entries_of old) (was x)
    pub others : (x : ℕ) → x < length new → was x ≢ place
    pub once : (x y : ℕ) → x < length new → y < length new → was x ≡ was y → x ≡ y
    pub all : (z : ℕ) → z < length old → z ≢ place → (x : ℕ) × (x < length new) × (was x ≡ z)

  -- Each key is there once and found in its tree, and there are so few nodes that links of 32 bits lead to all.
  pub record IsWhole (nodes : List (Node V)) (heads : List ℕ) : Type 0 where
    pub unique : IsUnique (entries_of nodes)
    pub indexed : IsIndexed nodes heads
    pub few : length nodes < 2 ^ 32

  -- The entries stay, each found in its tree. There are trees still, at most so many or as many as before.
  pub record IsReplanted (old new : List (Node V)) (heads heads' : List ℕ) (most : ℕ) : Type 0 where
    pub whole : IsWhole new heads'
    pub entries : SameEntries old new
    pub some : 0 < length heads → 0 < length heads'
    pub few : length heads' ≤ max (length heads) most

  pub record IsKept (nodes : List (Node V)) (heads : List ℕ) (capacity room : ℕ) : Type 0 where
    pub unique : IsUnique (entries_of nodes)
    pub indexed : IsIndexed nodes heads
    pub fits : length nodes + room ≤ capacity
    -- links have 32 bits
    pub few : length nodes + room < 2 ^ 32
    pub ready : 0 < room → 0 < length heads
