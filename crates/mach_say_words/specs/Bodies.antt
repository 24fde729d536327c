-- What a statement can say of a message's body: its data, and the kinds of its rights.
use Rattle.std.specs.Prelude.{ℕ, List, [], ◌∷◌, ◌++◌, map}
use Rattle.mach_types.specs.Grammar.{Wire, data_item, port_item, WireBody, raw, items}

-- the bytes of an item of data
abbrev pub item_data : Wire → List ℕ
item_data (data_item form name size number bytes padding) = bytes
item_data (port_item form disposition words) = []

-- those of all items, one behind another
abbrev pub items_data : List Wire → List ℕ
items_data [] = []
items_data (x ∷ xs) = item_data x ++ items_data xs

abbrev pub data_of : WireBody → List ℕ
data_of (raw bytes) = bytes
data_of (items xs) = items_data xs

-- the kinds of an item's rights
abbrev pub item_kinds : Wire → List ℕ
item_kinds (data_item form name size number bytes padding) = []
item_kinds (port_item form disposition words) = map (λ word. disposition) words

-- those of all items, in order
abbrev pub items_kinds : List Wire → List ℕ
items_kinds [] = []
items_kinds (x ∷ xs) = item_kinds x ++ items_kinds xs

abbrev pub kinds_of : WireBody → List ℕ
kinds_of (raw bytes) = []
kinds_of (items xs) = items_kinds xs
