-- A port that was noted is told of, where it lives, has no senders, and that was asked for.
use Rattle.std.specs.Prelude.{◌≡◌, ◌⊎◌, ℕ, Some, filter, not, eqb}
use Rattle.std.specs.FinMap as map
use Rattle.port.specs.Ports.{PortView}
use Rattle.rights.specs.Ledger.{counts_of}
use Rattle.copyin_base.specs.declared.Notice.TheVariants.{NoSenders}
use Rattle.copyin_base.specs.Changes.{IsSenderless}
use Rattle.copyin_base.specs.Kept.{Kept}
use Rattle.copyin_base.specs.Leaving.{without_no_senders}
use Rattle.copyin_base.specs.Worlds.{WorldView, port_at}
use Rattle.copyin_base.specs.Losing.{CanPost}
use Rattle.destroy.specs.Paying.{LivesIn, Pays, PaysMany}

-- The port is no longer among those noted.
abbrev pub taken_out : WorldView → (port : ℕ) → WorldView
taken_out w port = record w { ports = record w.ports { noted = filter (λ p. not (eqb p port)) w.ports.noted } }

-- Where a request stands to be told that the port has no senders, its right may pay.
abbrev pub CanTell : WorldView → (port : ℕ) → Type 0
CanTell w port = LivesIn w port → (notify : ℕ) → map.get w.requests.no_senders.map port ≡ Some notify → LivesIn w notify → CanPost w notify

pub record TellsNoSenders (old : WorldView) (port turns : ℕ) (new : WorldView) : Type 0 where
  pub v : PortView Kept
  pub there : port_at old port ≡ Some v
  pub lives : LivesIn old port
  pub none : (counts_of old.ledger port).send ≡ 0
  pub notify : ℕ
  pub asked : map.get old.requests.no_senders.map port ≡ Some notify
  pub pays : Pays (without_no_senders old port) notify (NoSenders v.attributes.make_send) new
  pub many : PaysMany (without_no_senders old port) notify turns

-- The port is told of, in a turn where the right of its request pays; or there is nothing to tell, and all stays.
abbrev pub TellsOf : (old : WorldView) (port turns : ℕ) (new : WorldView) → Type 0
TellsOf old port turns new = TellsNoSenders old port turns new ⊎ (turns ≡ 0) × (new ≡ old) × ¬ (LivesIn old port × IsSenderless old port)
