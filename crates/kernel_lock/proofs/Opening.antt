-- A kernel that was just made, with the empty history.
use Rattle.std.proofs.Common.{◌≡◌, ℕ, zero, suc, Bool, true, false, List, [], length, refl, sym, ◌∙◌, subst}
use Rattle.atomic_table.specs.Table.{Me}
use Rattle.mach_types.specs.declared.profiles.Profile.{Profile}
use Rattle.mach_model.specs.State.{opening_in}
use Rattle.copyin_base.specs.Shows.{Shows}
use Rattle.kernel_core.specs.Kernels.{KernelView}
use Rattle.kernel_lock.specs.declared.board.View.{View}
use Rattle.kernel_lock.specs.declared.entry.Entry.{Entry}
use Rattle.kernel_lock.specs.History.{CountsFit}
use Rattle.kernel_lock.specs.Replays.{Replays, kept_of}
use Rattle.kernel_lock.specs.Views.{desk_view}

none_counted : CountsFit [] []
none_counted zero = refl
none_counted (suc c) = refl

none_kept : (keeps : Bool) → kept_of keeps [] ≡ []
none_kept true = refl
none_kept false = refl

pub opens : (profile : Profile) (counts : List ℕ) (kernel : KernelView) (me : Me Entry View) (keeps : Bool) (entries : List Entry)
    → counts ≡ [] → Shows kernel.tables (opening_in profile) → me ≡ (desk_view profile [] 0, []) → entries ≡ []
    → Replays me.0.profile me.0.seen kernel × CountsFit counts me.0.seen × (me ≡ (desk_view me.0.profile me.0.seen (length counts), [])) × (0 ≡ length me.0.seen) × (entries ≡ kept_of keeps me.0.seen)
opens profile counts kernel me keeps entries no_counts shows is none =
    subst
    (λ (x : Me Entry View × List ℕ). Replays x.0.0.profile x.0.0.seen kernel × CountsFit x.1 x.0.0.seen × (x.0 ≡ (desk_view x.0.0.profile x.0.0.seen (length x.1), [])) × (0 ≡ length x.0.0.seen) × (entries ≡ kept_of keeps x.0.0.seen))
    (λ i. (sym is i, sym no_counts i))
    (record { state = opening_in profile; leads = refl; shown = shows }, none_counted, refl, refl, none ∙ sym (none_kept keeps))
