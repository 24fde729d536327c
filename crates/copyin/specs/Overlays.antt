-- A task's names while a message is judged: what was touched stands over what stood there. No public clause cites this module.
use Rattle.std.specs.Prelude.{◌≡◌, ℕ, ◌+◌, ◌<◌, ◌≤◌, List, [], ◌∷◌, Option, Some, None}
use Rattle.std.specs.BTreeMap.{get, IsEmpty}
use Rattle.std.specs.FinMap as map
use Rattle.std.specs.Ordering.{nat_cmp}
use Rattle.arrayvec.specs.ArrayVec.{array_vec_len}
use Rattle.message_codec.specs.Words.{inline_words}
use Rattle.name_space.specs.declared.Entry.{Entry}
use Rattle.name_space.specs.Names.{Names}
use Rattle.copyin.specs.declared.touched.Touch.{Touch}
use Rattle.copyin.specs.declared.touched.Touched.{Touched}
use Rattle.copyin_base.specs.Worlds.{put}

-- how many touched names are kept without an allocation
abbrev pub inline_touched : ℕ
inline_touched = inline_words + 2

abbrev pub IsFull : Touched → Type 0
IsFull touched = inline_touched ≤ array_vec_len touched.few

-- the names after these were touched
abbrev pub puts : Names → List Touch → Names
puts names [] = names
puts names (t ∷ ts) = puts (put names t.name t.left) ts

-- what was put over a name, or what stood there
abbrev pub over : Option (Option Entry) → Option Entry → Option Entry
over None standing = standing
over (Some touched) standing = touched

-- These are the names, with what was touched over what stood there; there are many only after the first few.
pub record Overlays (touched : Touched) (names now : Names) : Type 0 where
  pub each : (name : ℕ) → map.get now name ≡ over (get nat_cmp touched.many name) (map.get (puts names touched.few.items) name)
  pub in_turn : array_vec_len touched.few < inline_touched → IsEmpty touched.many
