-- A kernel with the history of its calls.
use Rattle.std.specs.Prelude.{List}
use Rattle.mach_types.specs.declared.profiles.Profile.{Profile}
use Rattle.kernel_lock.specs.declared.entry.Entry.{Entry}

-- By which profile the kernel is, and the calls with their replies, in order.
pub record StageView : Type 0 where
  pub profile : Profile
  pub entries : List Entry
