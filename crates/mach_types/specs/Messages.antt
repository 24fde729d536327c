-- Messages as they lie in a queue: rights stand for ports, and no task's name stands in them (this project's own).
use Rattle.std.specs.Prelude.{ℕ, Bool, List, map, if◌then◌else◌}
use Rattle.mach_types.specs.Tokens.{Kind}

-- What stands in a right's place.
pub data Mark : Type 0 where
  to_port : (port : ℕ) → Mark
  null dead : Mark

-- The right to answer with.
pub data ReplyRight : Type 0 where
  absent : ReplyRight
  present : Kind → Mark → ReplyRight

pub data Form : Type 0 where
  short long : Form

pub data Item : Type 0 where
  plain : Form → (name size number : ℕ) → (bytes padding : List ℕ) → Item
  rights : Form → Kind → List Mark → Item

pub data Body : Type 0 where
  raw : (bytes : List ℕ) → Body
  items : List Item → Body

pub record Message : Type 0 where
  pub destination : ℕ
  pub kind : Kind
  pub reply : ReplyRight
  pub id : ℕ
  pub body : Body

-- An accepted message, and the number of the step that sent it or made it as a notice.
pub record Entry : Type 0 where
  pub origin : ℕ
  pub message : Message

-- A message read once some ports are dead: a right for such a port is dead, and nothing else changes.
abbrev pub mark_asof : (ℕ → Bool) → Mark → Mark
mark_asof live (to_port p) = if live p then to_port p else dead
mark_asof live null = null
mark_asof live dead = dead

abbrev pub reply_asof : (ℕ → Bool) → ReplyRight → ReplyRight
reply_asof live absent = absent
reply_asof live (present kind mark) = present kind (mark_asof live mark)

abbrev pub item_asof : (ℕ → Bool) → Item → Item
item_asof live (plain form name size number bytes padding) = plain form name size number bytes padding
item_asof live (rights form kind marks) = rights form kind (map (mark_asof live) marks)

abbrev pub body_asof : (ℕ → Bool) → Body → Body
body_asof live (raw bytes) = raw bytes
body_asof live (items xs) = items (map (item_asof live) xs)

abbrev pub asof : (ℕ → Bool) → Message → Message
asof live m = record m { reply = reply_asof live m.reply; body = body_asof live m.body }
