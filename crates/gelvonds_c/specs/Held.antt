-- What a handle owns: at a pointer what a box of the kernel with its last call does, and at null nothing.
use base.Fml.{Fml, ftrue, ffalse}
use denote.RawPtr.{Ptr, block_ptr, null_ptr}
use Rattle.std.specs.Box.Ownership.{box_owns}
use Rattle.std.specs.Coded.{Coded, coded_option}
use Rattle.std.specs.Global.{Global}
use Rattle.std.specs.declared.option.Option.{Option}
use Rattle.std.specs.declared.option.Option.TheVariants.{None, Some}
use Rattle.std_heap.specs.contracts.GlobalAllocator.TheImpl.{ghosts}
use Rattle.kernel_record.specs.contracts.recorded.RecordedKernel.{the_row}

-- the kernel that a handle holds, if any, with what is kept of its last call
abbrev pub Kept : Type 0
Kept = Option the_row.Denot

abbrev pub kept_coded : Coded Kept
kept_coded = coded_option the_row.coded

abbrev pub boxed : Global → Ptr → the_row.Denot → Fml
boxed alloc = box_owns (ghosts.dealloc_token alloc) the_row

abbrev pub held : Global → Ptr → Kept → Fml
held alloc null_ptr None = ftrue
held alloc null_ptr (Some kernel) = ffalse
held alloc (block_ptr b o) None = ffalse
held alloc (block_ptr b o) (Some kernel) = boxed alloc (block_ptr b o) kernel
