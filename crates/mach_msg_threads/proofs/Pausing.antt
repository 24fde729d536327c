-- One more pause of a gate, and a send that is wanted.
use Rattle.std.proofs.Common.{◌≡◌, ℕ, Bool, true, false, List, Option, sym, subst}
use Rattle.mach_types.specs.declared.calls.Event.{Event}
use Rattle.mach_types.specs.declared.calls.Reply.{Reply}
use Rattle.mach_types.specs.declared.calls.Waited.{Waited}
use Rattle.kernel_lock.specs.History.{Known}
use Rattle.mach_msg_threads.specs.Gates.{Exchange, Asked}
use Rattle.mach_msg_threads.specs.ByGate.{Pauses, more, ToldTry, SendsBy, SendPartBy, next}

pub paused : {G : Type 0} (passes : G → Exchange → G → Type 0) (event : Event) (Waits : Reply → Type 0) (on : Option Waited) (once : Bool) (from turn count : ℕ) (v m w : Known) (old asked told new : G) (reply : Reply)
    → count ≡ next turn → Pauses passes event Waits on once from turn v old m asked → ToldTry passes event m asked reply w told → Waits reply → once ≡ false → passes told (Asked count on true) new
    → Pauses passes event Waits on once from count v old w new
paused passes event Waits on once from turn count v m w old asked told new reply is before tried waits many again =
    subst (λ (n : ℕ). Pauses passes event Waits on once from n v old w new) (sym is)
    (more turn v m w old asked told new reply before tried waits many (subst (λ (n : ℕ). passes told (Asked n on true) new) is again))

pub wanting : {G : Type 0} (passes : G → Exchange → G → Type 0) (task : ℕ) (wanted once : Bool) (bytes : List ℕ) (v : Known) (old : G) (code : ℕ) (w : Known) (new : G)
    → wanted ≡ true → SendsBy passes task bytes once v old code w new → SendPartBy passes task wanted once bytes v old code w new
wanting passes task true once bytes v old code w new e s = s
wanting passes task false once bytes v old code w new e s = absurd (cc)
