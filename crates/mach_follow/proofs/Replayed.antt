-- An entry that is replayed.
use Rattle.std.proofs.Common.{◌≡◌, ℕ, inl, refl, subst}
use Rattle.mach_types.specs.declared.calls.Event.{Event}
use Rattle.mach_types.specs.declared.calls.Reply.{Reply}
use Rattle.mach_model.specs.State.{State}
use Rattle.mach_model.proofs.Failing.{refusal_fails}
use Rattle.copyin_base.specs.Shows.{Shows}
use Rattle.copyin_base.specs.Worlds.{WorldView}
use Rattle.kernel_core.specs.InTurn.{TakesByTurn}
use Rattle.kernel_core.specs.Kernels.{KernelView}
use Rattle.kernel_core.specs.Touching.{Touches}
use Rattle.mach_follow.specs.Replaying.{IsRefusal, IsTooLong, Replays}

same_code : (m n : ℕ) → Reply.Code m ≡ Reply.Code n → m ≡ n
same_code m n e = cc

-- a refusal for want of memory leaves the state
pub refusal_replays : (k : KernelView) (event : Event) (reply : Reply) → IsRefusal k.tables event reply → Replays k.tables event reply k
refusal_replays k event reply r = λ now s shown.
    let fails = refusal_fails s event r.code (r.refuses s shown) in (
      s,
      inl (record { declined = record { code = r.code; failed = fails; told = r.told; same = refl }; refuses = r.refuses s shown }),
      shown,
      (λ no. absurd (fails (no r.code r.told))),
      λ long. absurd (subst IsTooLong r.told long),
    )

-- a step of the kernel, which changes no turn before it destroys a message
pub step_replays : (old mid : WorldView) (event : Event) (reply : Reply) (new : KernelView) → ((s : State) → Shows old s → Shows mid s) → (IsTooLong reply → mid ≡ old) → Touches mid event reply new.tables new.touched →
    Replays old event reply new
step_replays old mid event reply new turned same touches = λ now s shown.
    let t = touches now s (turned s shown) in
    (t.0, t.1, t.2, (λ no. t.3), λ long. subst (λ (w : WorldView). TakesByTurn w event reply s t.0) (same long) t.4)
