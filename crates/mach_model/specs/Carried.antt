-- The rights that a message carries, counted (this project's own).
use Rattle.std.specs.Prelude.{ℕ, ◌+◌, List, [], ◌∷◌, if◌then◌else◌, ◌==◌, ◌&&◌}
use Rattle.mach_types.specs.Tokens.{Kind, Place, Token, count, is_of, same_kind}
use Rattle.mach_types.specs.Messages.{Mark, to_port, null, dead, Message}
use Rattle.mach_types.specs.Bodies.{message_rights}
use Rattle.mach_model.specs.State.{State}
use Rattle.mach_model.specs.Death.{same_place}

abbrev pub mark_count : Kind → ℕ → Kind → Mark → ℕ
mark_count k q kind (to_port p) = if same_kind k kind && p == q then 1 else 0
mark_count k q kind null = 0
mark_count k q kind dead = 0

abbrev pub rights_count : Kind → ℕ → List (Kind × Mark) → ℕ
rights_count k q [] = 0
rights_count k q (r ∷ rs) = mark_count k q r.0 r.1 + rights_count k q rs

-- how many rights of this kind for a port q the message carries, its destination right with them
abbrev pub message_count : Kind → ℕ → Message → ℕ
message_count k q m = mark_count k q m.kind (to_port m.destination) + rights_count k q (message_rights m)

-- how many of these tokens are rights of this kind for the port that lie at the place
abbrev pub lying_among : List Token → Kind → (port : ℕ) → Place → ℕ
lying_among ledger k q place = count (λ x. is_of k q x && same_place place x.place) ledger

-- how many rights of this kind for the port lie at the place
abbrev pub lying : State → Kind → (port : ℕ) → Place → ℕ
lying s = lying_among s.ledger
