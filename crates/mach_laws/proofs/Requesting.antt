-- What a request for a notice changes for those that wait: nothing but the queue of its right's port, where it tells at once.
use Rattle.std.proofs.Common.{◌≡◌, ℕ, ◌⊎◌, [], ◌∷◌, refl, ap, inl, inr}
use Rattle.std.specs.Prelude.{◌≢◌}
use Rattle.std.proofs.lemmas.List.Elements.{All-nil}
use Rattle.mach_types.specs.Numbers.{null_word}
use Rattle.mach_types.specs.Tokens.{send_once, Request, Place, in_task, in_request, token, count}
use Rattle.mach_types.specs.Messages.{to_port}
use Rattle.mach_model.specs.State.{State}
use Rattle.mach_model.specs.CopyIn.{CopyRight}
use Rattle.mach_model.specs.Notices.{Notice, carried_by, no_more_senders, name_died, Owed}
use Rattle.mach_model.specs.Requests.{GivesBack, Keeps as KeepsRight, Requests}
use Rattle.mach_laws.proofs.Touching.{Keeps, keeps_same, keeps_by, keeps_trans, for_keeps, copy_keeps, moves_keep, one_token, IsNoReceive}

given_keeps : (task : ℕ) (request : Request) (before copied : State) (name : ℕ) (new : State) → GivesBack task request before copied name new → Keeps copied new
given_keeps task request before copied name new (inl (stood, null, same)) = keeps_same copied new same
given_keeps task request before copied name new (inr (inl (stood, none, dead, e))) =
    keeps_by copied new _ e (λ p. refl) (λ p. refl) (λ p. refl) (λ p. refl) (λ p. refl) (λ set. refl) (λ test is. ap (λ (x : State). count test x.ledger) e)
given_keeps task request before copied name new (inr (inr (q, given, stood, lies, named, moves, e))) =
    let k = for_keeps send_once task name q copied given named in
    keeps_by copied new _ e k.live k.log k.taken k.limit k.sets k.owner
    (moves_keep copied.ledger new.ledger (token send_once q (in_request request) ∷ []) (token send_once q (in_task task) ∷ []) moves (one_token send_once q (in_request request) refl) (one_token send_once q (in_task task) refl))

-- One notice is owed to the port, which brings no right.
pub record OwesOne (q : ℕ) (owed : Owed) : Type 0 where
  pub place : Place
  pub notice : Notice
  pub bare : (at : Place) → carried_by notice at ≡ []
  pub is : owed ≡ (token send_once q place, notice) ∷ []

-- nothing is owed, or that
abbrev pub OwesNone : (q : ℕ) → Owed → Type 0
OwesNone q owed = (owed ≡ []) ⊎ OwesOne q owed

used_keeps : (task name sync : ℕ) (request : Request) (q : ℕ) (back mid : State) (owed : Owed) → KeepsRight task name sync request q back mid owed → Keeps back mid × OwesNone q owed
used_keeps task name sync request q back mid owed (inl (p, is, none, spends, e, owes)) = (
  keeps_by back mid _ e (λ p. refl) (λ p. refl) (λ p. refl) (λ p. refl) (λ p. refl) (λ set. refl)
      (moves_keep back.ledger mid.ledger (token send_once q (in_request request) ∷ []) [] spends (one_token send_once q (in_request request) refl) (All-nil IsNoReceive)),
  inr (record { place = in_request request; notice = no_more_senders (back.make_send p); bare = λ at. refl; is = owes }),
)
used_keeps task name sync request q back mid owed (inr (inl (n, is, dead, spends, e, owes))) = (
  keeps_by back mid _ e (λ p. refl) (λ p. refl) (λ p. refl) (λ p. refl) (λ p. refl) (λ set. refl)
      (moves_keep back.ledger mid.ledger (token send_once q (in_request request) ∷ []) [] spends (one_token send_once q (in_request request) refl) (All-nil IsNoReceive)),
  inr (record { place = in_request request; notice = name_died name; bare = λ at. refl; is = owes }),
)
used_keeps task name sync request q back mid owed (inr (inr (told, alive, e, none))) =
    (keeps_by back mid _ e (λ p. refl) (λ p. refl) (λ p. refl) (λ p. refl) (λ p. refl) (λ set. refl) (λ test is. ap (λ (x : State). count test x.ledger) e), inl none)

-- The right that pays is copied in, where there is one: the notice is owed to its port.
pub record PaysTo (task notify number : ℕ) (old : State) (owed : Owed) : Type 0 where
  pub port : ℕ
  pub copied : State
  pub place : Place
  pub copy : CopyRight task place number notify old (to_port port) copied
  pub owes : OwesNone port owed

-- a request is taken away
pub taken_away_keeps : (task name variant sync notify number previous : ℕ) (old mid : State) (owed : Owed) → notify ≡ null_word → Requests task name variant sync notify number previous old mid owed → Keeps old mid × (owed ≡ [])
taken_away_keeps task name variant sync notify number previous old mid owed null r = go r.copy
  where
    go : (notify ≡ null_word) × (r.copied ≡ old) × (mid ≡ r.back) × (owed ≡ [])
        ⊎ (notify ≢ null_word) × ((q : ℕ) × CopyRight task (in_request r.request) number notify old (to_port q) r.copied × KeepsRight task name sync r.request q r.back mid owed) → Keeps old mid × (owed ≡ [])
    go (inl (is, same, e, none)) = (keeps_trans old r.back mid (keeps_trans old r.copied r.back (keeps_same old r.copied same) (given_keeps task r.request old r.copied previous r.back r.given_back)) (keeps_same r.back mid e), none)
    go (inr (some, rest)) = absurd (some null)

pub request_keeps : (task name variant sync notify number previous : ℕ) (old mid : State) (owed : Owed) → number ≢ 16 → Requests task name variant sync notify number previous old mid owed →
    Keeps old mid × ((owed ≡ []) × (notify ≡ null_word) ⊎ PaysTo task notify number old owed)
request_keeps task name variant sync notify number previous old mid owed other r = go r.copy
  where
    back : Keeps r.copied r.back
    back = given_keeps task r.request old r.copied previous r.back r.given_back

    go : (notify ≡ null_word) × (r.copied ≡ old) × (mid ≡ r.back) × (owed ≡ [])
        ⊎ (notify ≢ null_word) × ((q : ℕ) × CopyRight task (in_request r.request) number notify old (to_port q) r.copied × KeepsRight task name sync r.request q r.back mid owed) →
        Keeps old mid × ((owed ≡ []) × (notify ≡ null_word) ⊎ PaysTo task notify number old owed)
    go (inl (null, same, e, none)) = (keeps_trans old r.back mid (keeps_trans old r.copied r.back (keeps_same old r.copied same) back) (keeps_same r.back mid e), inl (none, null))
    go (inr (some, (q, copy, keeps))) =
        let used = used_keeps task name sync r.request q r.back mid owed keeps in
        let copied = copy_keeps task (in_request r.request) number notify old (to_port q) r.copied other copy in
        (keeps_trans old r.back mid (keeps_trans old r.copied r.back copied back) used.0, inr (record { port = q; copied = r.copied; place = in_request r.request; copy = copy; owes = used.1 }))
