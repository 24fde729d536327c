-- Two ends of one step that differ in the order of notices alone, and in the places in messages that hang on it.
use Rattle.std.specs.Prelude.{◌≡◌, ℕ, ◌+◌, List, [], ◌∷◌, map}
use Rattle.mach_types.specs.Tokens.{Kind, Request, in_message, Token, token, weigh}
use Rattle.mach_model.specs.State.{State, lookup}
use Rattle.mach_model.specs.Notices.{Notice, Posted}

-- a weight of tokens that aren't in messages
abbrev pub Outside : (Token → ℕ) → Type 0
Outside h = (kind : Kind) (p q k : ℕ) → h (token kind p (in_message q k)) ≡ 0

abbrev pub sum : {A : Type 0} → (A → ℕ) → List A → ℕ
sum g [] = 0
sum g (x ∷ xs) = g x + sum g xs

pub record IsSameEnd (a b : State) (posted_a posted_b : List Posted) : Type 0 where
  pub live : (p : ℕ) → a.live_port p ≡ b.live_port p
  pub stands : (r : Request) → a.stands r ≡ b.stands r
  pub naming : (task name : ℕ) → lookup a task name ≡ lookup b task name
  pub sets_of : (p : ℕ) → a.sets_of p ≡ b.sets_of p
  pub make_send : (p : ℕ) → a.make_send p ≡ b.make_send p
  pub sequence : (p : ℕ) → a.sequence p ≡ b.sequence p
  pub tokens : (h : Token → ℕ) → Outside h → weigh h a.ledger ≡ weigh h b.ledger
  pub notices : (g : ℕ × Notice → ℕ) → sum g (map (λ x. (x.port, x.notice)) posted_a) ≡ sum g (map (λ x. (x.port, x.notice)) posted_b)
