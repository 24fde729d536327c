-- What a receipt does, and what a refusal of one leaves.
use Rattle.std.specs.Prelude.{◌≡◌, ℕ, ◌≤◌, List, length, min}
use Rattle.mach_types.specs.Numbers.{most_bytes}
use Rattle.copyin_base.specs.Changes.{MakesRoom}
use Rattle.copyin_base.specs.Kept.{Kept}
use Rattle.copyin_base.specs.Worlds.{WorldView}
use Rattle.copyout.specs.Ready.{HasFront, IsRefusedBy}
use Rattle.copyout.specs.Takes.{NotesFront, TakesMessage}
use Rattle.copyout.specs.declared.receipt.Refusal.{Refusal}

-- Room for names is made, and the port's front message, which fits, is taken and gives these bytes.
abbrev pub Receives : WorldView → (task port local room : ℕ) → (bytes : List ℕ) → WorldView → Type 0
Receives old task port local room bytes new =
    (made : ℕ) × (start : WorldView) × (taken : WorldView) × MakesRoom old task made start × (t : TakesMessage start task port local bytes taken)
    × (length t.takes.front.bytes ≤ min room most_bytes) × NotesFront taken port t.takes.front new

-- The port's front message isn't received, for this reason, and all is as before.
abbrev pub Refuses : WorldView → (task port room : ℕ) → Refusal → WorldView → Type 0
Refuses old task port room refusal new = (new ≡ old) × (m : Kept) × HasFront old port m × IsRefusedBy old task m room refusal
