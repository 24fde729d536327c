-- Room for a copy of a reply.
use Rattle.std.specs.Prelude.{◌≡◌, ◌≤◌, ℕ, []}
use Rattle.std.specs.Vec.{vec_capacity}
use Rattle.mach_types.specs.declared.calls.Reply.{Reply}
use Rattle.kernel_core.specs.Bounds.{reply_bytes, reply_names, reply_members}
use Rattle.kernel_record.specs.declared.room.Room.{Room}

-- There is room for it.
pub record HasRoom (room : Room) (reply : Reply) : Type 0 where
  pub bytes : reply_bytes reply ≤ vec_capacity room.bytes
  pub names : reply_names reply ≤ vec_capacity room.names
  pub members : reply_members reply ≤ vec_capacity room.members

-- There is room for no more than so many bytes, names and members each.
pub record HasNoMore (room : Room) (most : ℕ) : Type 0 where
  pub bytes : vec_capacity room.bytes ≤ most
  pub names : vec_capacity room.names ≤ most
  pub members : vec_capacity room.members ≤ most

-- Nothing was put into it.
pub record IsUnused (room : Room) : Type 0 where
  pub bytes : room.bytes.items ≡ []
  pub names : room.names.items ≡ []
  pub members : room.members.items ≡ []
