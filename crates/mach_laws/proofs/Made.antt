-- No event makes more rights than the table says: with those that its own part owes a notice, a kind of right for a port grows by no more.
use Rattle.std.proofs.Common.{◌≡◌, ℕ, ℤ, zero, suc, ◌+◌, ◌-◌, ◌≤◌, ◌<◌, List, [], ◌∷◌, refl, ap, ◌∙◌, arith, true, false, Bool, inl, inr, Some, None}
use Rattle.std.specs.Prelude.{◌≢◌, ◌⊎◌, ◌==◌, ◌&&◌, if◌then◌else◌, replicate, filter, MatchBool, pos, negsuc, map as list_map}
use Rattle.mach_types.specs.declared.calls.Event.{Event}
use Rattle.mach_types.specs.declared.calls.Reply.{Reply}
use Rattle.mach_types.specs.declared.calls.Waited.{Waited}
use Rattle.mach_types.specs.declared.rights.Disposition.TheVariants.{MoveSend}
use Rattle.mach_types.specs.Numbers.{null_word, kind_sent}
use Rattle.mach_types.specs.Tokens.{Kind, receive, send, send_once, same_kind, Place, in_task, in_message, in_request, Request, Token, token, count, is_of, is_in_task, Moves}
use Rattle.mach_types.specs.Messages.{Mark, to_port, null, dead, Entry}
use Rattle.mach_types.specs.Bodies.{Through, body_words, body_rights, message_rights}
use Rattle.mach_model.specs.State.{State, Target, lookup, held, with_name, gives}
use Rattle.mach_model.specs.CopyIn.{taken_by, CopyRight}
use Rattle.mach_model.specs.CopyOut.{given_to, GiveMark, GiveWord}
use Rattle.mach_model.specs.Notices.{Owed, right_unused}
use Rattle.mach_model.specs.Settles.{tokens_of}
use Rattle.mach_model.specs.References.{LosesAll, unused_once, unused_among, Deallocates, DestroysTarget, with_dead, AddsTo, RemovesRight, Modifies}
use Rattle.mach_model.specs.Refusals.{added_rights}
use Rattle.mach_model.specs.Names.{Makes, Renames, JoinsSet}
use Rattle.mach_model.specs.Send.{place_at, Sends}
use Rattle.mach_model.specs.Transfer.{target_for, pegged, Inserts, Extracts}
use Rattle.mach_model.specs.Requests.{GivesBack, Keeps, Requests}
use Rattle.mach_model.specs.Receive.{Receives, DestroysFront, Receipt}
use Rattle.mach_model.specs.ReceivedMeans.{received_words}
use Rattle.mach_model.specs.Machine.{Done}
use Rattle.mach_model.specs.Acts.{Does}
use Rattle.mach_model.specs.Lawful.{IsLawful}
use Rattle.mach_model.specs.Midway.{MidLawful}
use Rattle.mach_model.specs.Death.{IsOrphan}
use Rattle.mach_model.proofs.StepLawful.{Does-mid, Step-lawful}
use Rattle.mach_model.proofs.SettledOnce.{once_kept}
use Rattle.mach_model.proofs.SettledReceives.{eq_symm, live_mid}
use Rattle.mach_laws.specs.Making.{is_port, made_by_word, made_by_words, made_with_port, MakesRights}
use Rattle.mach_laws.proofs.Counted.{senders_kept}
use Rattle.mach_laws.proofs.Shrinking.{Shrinks, shrinks_or_none}
use Rattle.mach_laws.proofs.Making.{copied, Adds, right_adds, then_adds, reply_adds, body_adds}

module _ (kind : Kind) (p : ℕ) where
  abbrev rights : State → ℕ
  rights s = count (is_of kind p) s.ledger

  abbrev owing : Owed → ℕ
  owing owed = count (is_of kind p) (tokens_of owed)

  -- no more than so many are made
  abbrev pub Most : State → State → Owed → ℕ → Type 0
  Most old mid owed n = rights mid + owing owed ≤ rights old + n

  none_owing : (owed : Owed) → owed ≡ [] → owing owed ≡ 0
  none_owing owed e = ap owing e

  by_state : (old mid changed : State) (owed : Owed) (n : ℕ) → mid ≡ changed → changed.ledger ≡ old.ledger → owed ≡ [] → Most old mid owed n
  by_state old mid changed owed n e same none = let a = ap rights e ∙ ap (count (is_of kind p)) same in let b = none_owing owed none in omega (arith, a, b)

  by_count : (old mid : State) (owed : Owed) (n : ℕ) → rights mid ≤ rights old + n → owed ≡ [] → Most old mid owed n
  by_count old mid owed n le none = let b = none_owing owed none in omega (arith, le, b)

  pub gone_less : (old mid : State) (gone : List Token) → Moves old.ledger mid.ledger gone [] → rights mid + count (is_of kind p) gone ≡ rights old
  gone_less old mid gone moves = let m = moves (λ x. if is_of kind p x then 1 else 0) in omega (arith, m)

  few_unused : (xs : List Token) → owing (unused_among xs) ≤ count (is_of kind p) xs
  few_unused [] = omega arith
  few_unused (x ∷ xs) = by (same_kind send_once x.kind) (few_unused xs)
    where
      by : (b : Bool) → owing (unused_among xs) ≤ count (is_of kind p) xs →
          owing (list_map (λ x. (x, right_unused)) (if b then x ∷ filter (λ x. same_kind send_once x.kind) xs else filter (λ x. same_kind send_once x.kind) xs)) ≤ count (is_of kind p) (x ∷ xs)
      by true h = omega (arith, h)
      by false h = omega (arith, h)

  loses : (old mid : State) (test : Token → Bool) (owed : Owed) → (x : LosesAll test old.ledger mid.ledger) → owed ≡ unused_among x.gone → Most old mid owed 0
  loses old mid test owed x is = let a = gone_less old mid x.gone x.moves in let b = few_unused x.gone in let c = ap owing is in omega (arith, a, b, c)

  once_lost : (old mid : State) (task q : ℕ) (owed : Owed) → Moves old.ledger mid.ledger (token send_once q (in_task task) ∷ []) [] → owed ≡ unused_once q task → Most old mid owed 0
  once_lost old mid task q owed moves is = let a = gone_less old mid (token send_once q (in_task task) ∷ []) moves in let c = ap owing is in omega (arith, a, c)

  -- ---- names

  deallocates : (task name : ℕ) (old mid : State) (owed : Owed) → Deallocates task name old mid owed → Most old mid owed 0
  deallocates task name old mid owed (inl x) = let a = gone_less old mid (taken_by MoveSend (Target.port x.0) task) x.1.tokens in by_count old mid owed 0 (omega (arith, a)) x.2
  deallocates task name old mid owed (inr (inl x)) = once_lost old mid task x.0 owed x.1.tokens x.2
  deallocates task name old mid owed (inr (inr x)) = let a = gone_less old mid [] x.1.tokens in by_count old mid owed 0 (omega (arith, a)) x.2

  destroys : (task name : ℕ) (target : Target) (old mid : State) (owed : Owed) → DestroysTarget task name target old mid owed → Most old mid owed 0
  destroys task name (Target.port q) old mid owed x = let a = gone_less old mid x.0.gone x.0.moves in by_count old mid owed 0 (omega (arith, a)) x.2
  destroys task name (Target.once q) old mid owed x = once_lost old mid task q owed x.0.tokens x.1
  destroys task name (Target.dead n) old mid owed x = by_state old mid _ owed 0 x.0 refl x.1
  destroys task name (Target.set s) old mid owed x = by_state old mid _ owed 0 x.0 refl x.1

  removes : (right task name : ℕ) (target : Target) (old mid : State) (owed : Owed) → RemovesRight right task name target old mid owed → Most old mid owed 0
  removes right task name (Target.port q) old mid owed x = let a = gone_less old mid (token receive q (in_task task) ∷ []) x.1.0 in by_count old mid owed 0 (omega (arith, a)) x.2
  removes right task name (Target.once q) old mid owed x = destroys task name (Target.once q) old mid owed x.1
  removes right task name (Target.set s) old mid owed x = destroys task name (Target.set s) old mid owed x.1
  removes right task name (Target.dead n) old mid owed x = absurd x

  pub many : (n q : ℕ) (place : Place) → count (is_of kind p) (replicate n (token send q place)) ≡ (if same_kind kind send && q == p then n else 0)
  many zero q place = grind arith
  many (suc n) q place = let h = many n q place in by (same_kind kind send && q == p) h
    where
      by : (b : Bool) → count (is_of kind p) (replicate n (token send q place)) ≡ (if b then n else 0) →
          (if b then 1 else 0) + count (is_of kind p) (replicate n (token send q place)) ≡ (if b then suc n else 0)
      by true h = omega (arith, h)
      by false h = omega (arith, h)

  added : (n : ℕ) (delta : ℤ) (k : ℕ) → AddsTo n delta k → k - n ≡ added_rights delta
  added n (pos d) k e = omega (arith, e)
  added n (negsuc d) k e = omega (arith, e)

  abbrev by_references : (old : State) (task name right : ℕ) (delta : ℤ) → ℕ
  by_references old task name right delta = if right == 0 && same_kind kind send && is_port p (lookup old task name) then added_rights delta else 0

  more_of : (old : State) (task name right : ℕ) (delta : ℤ) (q k : ℕ) → right ≡ 0 → lookup old task name ≡ Some (Target.port q) → AddsTo (held old task send q) delta k →
      count (is_of kind p) (replicate (k - held old task send q) (token send q (in_task task))) ≡ by_references old task name right delta
  more_of old task name right delta q k is found adds = many (k - held old task send q) q (in_task task) ∙ rw (added (held old task send q) delta k adds, is, found) refl

  modifies : (task name right : ℕ) (delta : ℤ) (old mid : State) (owed : Owed) → Modifies task name right delta old mid owed → Most old mid owed (by_references old task name right delta)
  modifies task name right delta old mid owed (inl (q, k, is, found, adds, x, none)) =
      let m = x.tokens (λ x. if is_of kind p x then 1 else 0) in
      let e = more_of old task name right delta q k is found adds in
      by_count old mid owed (by_references old task name right delta) (omega (arith, m, e)) none
  modifies task name right delta old mid owed (inr (inl x)) = by_state old mid (with_dead task name x.1 old) owed (by_references old task name right delta) x.5 (dead_ledger x.1) x.6
    where
      dead_ledger : (n : ℕ) → (with_dead task name n old).ledger ≡ old.ledger
      dead_ledger n = grind arith
  modifies task name right delta old mid owed (inr (inr (inl x))) = by_state old mid old owed (by_references old task name right delta) x.2 refl x.3
  modifies task name right delta old mid owed (inr (inr (inr x))) = let a = removes right task name x.0 old mid owed x.3 in omega (arith, a)

  makes : (task right name : ℕ) (old mid : State) (owed : Owed) → Makes task right name old mid → owed ≡ [] → Most old mid owed (made_with_port old right kind p)
  makes task right name old mid owed (inl x) none =
      let m = x.1.tokens (λ x. if is_of kind p x then 1 else 0) in
      let e : (if same_kind kind receive && old.ports_made == p then 1 else 0) ≡ made_with_port old right kind p = rw (x.0, eq_symm p old.ports_made) refl in
      by_count old mid owed (made_with_port old right kind p) (omega (arith, m, e)) none
  makes task right name old mid owed (inr (inl x)) none = by_state old mid _ owed (made_with_port old right kind p) x.1 refl none
  makes task right name old mid owed (inr (inr x)) none = by_state old mid _ owed (made_with_port old right kind p) x.1 refl none

  joins : (task member after : ℕ) (old mid : State) (owed : Owed) → JoinsSet task member after old mid → owed ≡ [] → Most old mid owed 0
  joins task member after old mid owed (q, found, inl x) none = by_state old mid _ owed 0 x.1 refl none
  joins task member after old mid owed (q, found, inr x) none = by_state old mid _ owed 0 x.2 refl none

  -- ---- copying in

  pub sends : (now task : ℕ) (bytes : List ℕ) (old mid : State) → (x : Sends now task bytes old mid) →
      Adds kind p task old ((x.header.remote_kind, x.header.remote) ∷ (x.header.local_kind, x.header.local) ∷ body_words x.written) x.copied_state
  sends now task bytes old mid x =
      let c = x.copied in
      let place = place_at old x.m.destination in
      let h = x.header in
      then_adds kind p task place (h.remote_kind, h.remote) ((h.local_kind, h.local) ∷ body_words x.written) old c.first x.copied_state
      (right_adds kind p task place h.remote_kind h.remote old (to_port x.m.destination) c.first c.destination)
      (then_adds kind p task place (h.local_kind, h.local) (body_words x.written) c.first c.second x.copied_state
      (reply_adds kind p task place h.local_kind h.local c.first x.m.reply c.second c.reply)
      (body_adds kind p task place (body_words x.written) c.second (body_rights x.m.body) x.copied_state c.body.1))

  pub inserts : (task name from poly number : ℕ) (old mid : State) → Inserts task name from poly number old mid → rights mid ≡ rights old + made_by_word (old.naming from) kind p (number, poly)
  inserts task name from poly number old mid x = by x.named
    where
      c : rights x.copied ≡ rights old + made_by_word (old.naming from) kind p (number, poly)
      c = copied kind p from (in_task task) number poly old (to_port x.p) x.copied x.copy

      by : (lookup x.copied task name ≢ None) × (mid ≡ x.copied) ⊎ (lookup x.copied task name ≡ None) × (mid ≡ with_name task name (target_for (kind_sent x.copy.given) x.p) x.copied) →
          rights mid ≡ rights old + made_by_word (old.naming from) kind p (number, poly)
      by (inl h) = ap rights h.1 ∙ c
      by (inr h) = ap rights h.1 ∙ c

  extracts : (task name number to new_name k : ℕ) (old mid : State) → Extracts task name number to new_name k old mid → rights mid ≤ rights old + made_by_word (old.naming task) kind p (number, name)
  extracts task name number to new_name k old mid x =
      let c = copied kind p task (in_task to) number name old (to_port x.p) x.copied x.copy in
      let g = gone_less x.copied mid (pegged to x.p x.copied) x.tokens in
      omega (arith, c, g)

  pub back_same : (task : ℕ) (request : Request) (before old : State) (name : ℕ) (new : State) → GivesBack task request before old name new → rights new ≡ rights old
  back_same task request before old name new (inl h) = ap rights h.2
  back_same task request before old name new (inr (inl h)) = ap rights h.3
  back_same task request before old name new (inr (inr h)) = let m = h.5 (λ y. if is_of kind p y then 1 else 0) in omega (arith, m)

  pub kept_same : (task name sync : ℕ) (request : Request) (q : ℕ) (old mid : State) (owed : Owed) → Keeps task name sync request q old mid owed → rights mid + owing owed ≡ rights old
  kept_same task name sync request q old mid owed (inl (o, e, none, m, rest, owes)) = let a = gone_less old mid (token send_once q (in_request request) ∷ []) m in let b = ap owing owes in omega (arith, a, b)
  kept_same task name sync request q old mid owed (inr (inl (n, e, is, m, rest, owes))) = let a = gone_less old mid (token send_once q (in_request request) ∷ []) m in let b = ap owing owes in omega (arith, a, b)
  kept_same task name sync request q old mid owed (inr (inr (not, other, rest, none))) = let a = ap rights rest in let b = none_owing owed none in omega (arith, a, b)

  pub asks : (task name variant sync notify number previous : ℕ) (old mid : State) (owed : Owed) → Requests task name variant sync notify number previous old mid owed →
      Most old mid owed (made_by_word (old.naming task) kind p (number, notify)) × (rights old ≤ rights mid + owing owed)
  asks task name variant sync notify number previous old mid owed r = by r.copy
    where
      b : rights r.back ≡ rights r.copied
      b = back_same task r.request old r.copied previous r.back r.given_back

      by : (notify ≡ null_word) × (r.copied ≡ old) × (mid ≡ r.back) × (owed ≡ [])
          ⊎ (notify ≢ null_word) × ((q : ℕ) × CopyRight task (in_request r.request) number notify old (to_port q) r.copied × Keeps task name sync r.request q r.back mid owed) →
          Most old mid owed (made_by_word (old.naming task) kind p (number, notify)) × (rights old ≤ rights mid + owing owed)
      by (inl h) = let e = ap rights h.1 in let f = ap rights h.2 in let g = none_owing owed h.3 in (omega (arith, b, e, f, g), omega (arith, b, e, f, g))
      by (inr (some, (q, c, k))) =
          let e = copied kind p task (in_request r.request) number notify old (to_port q) r.copied c in
          let f = kept_same task name sync r.request q r.back mid owed k in
          (omega (arith, b, e, f), omega (arith, b, e, f))

  -- ---- copying out

  given_less : (k : Kind) (q task : ℕ) (place : Place) (s : State) → count (is_of kind p) (given_to k q task s) ≤ count (is_of kind p) (token k q place ∷ [])
  given_less receive q task place s = omega arith
  given_less send_once q task place s = omega arith
  given_less send q task place s = grind arith

  pick : (b : Bool) (P Q R : Type 0) → (P → R) → (Q → R) → MatchBool b P Q → R
  pick true P Q R f g h = f h
  pick false P Q R f g h = g h

  mark_less : (task : ℕ) (place : Place) (k : Kind) (mark : Mark) (old : State) (word : ℕ) (new : State) → GiveMark task place k mark old word new → rights new ≤ rights old
  mark_less task place k null old word new h = let e = ap rights h.1 in omega (arith, e)
  mark_less task place k dead old word new h = let e = ap rights h.1 in omega (arith, e)
  mark_less task place k (to_port q) old word new h = pick (old.live_port q) _ _ _
      (λ g. (let m = g.tokens (λ x. if is_of kind p x then 1 else 0) in let l = given_less k q task place old in omega (arith, m, l))) (λ g. (let e = ap rights g.1 in omega (arith, e))) h

  words_less : (task : ℕ) (place : Place) (ws : List (ℕ × ℕ)) (old : State) (rs : List (Kind × Mark)) (new : State) → Through (GiveWord task place) old ws rs new → rights new ≤ rights old
  words_less task place [] old [] new h = let e = ap rights h in omega (arith, e)
  words_less task place (w ∷ ws) old (r ∷ rs) new h = let a = mark_less task place r.0 r.1 old w.1 h.0 h.1 in let b = words_less task place ws h.0 rs new h.2 in omega (arith, a, b)
  words_less task place [] old (r ∷ rs) new h = absurd h
  words_less task place (w ∷ ws) old [] new h = absurd h

  receives : (task port room : ℕ) (bytes : List ℕ) (old mid : State) → Receives task port room bytes old mid → rights mid ≤ rights old
  receives task port room bytes old mid r =
      let t = r.takes.tokens (λ x. if is_of kind p x then 1 else 0) in
      let g = words_less task (in_message port (old.taken port)) (received_words r.header r.written) r.taken (message_rights r.e.message) mid r.rights in
      omega (arith, t, g)

  front : (port : ℕ) (e : Entry) (old mid : State) (owed : Owed) → DestroysFront port e old mid owed → Most old mid owed 0
  front port e old mid owed d =
      let t = d.takes.tokens (λ x. if is_of kind p x then 1 else 0) in
      let a = gone_less d.taken mid d.loses.gone d.loses.moves in let b = few_unused d.loses.gone in let c = ap owing d.owed_are in omega (arith, t, a, b, c)

  large_cases : (large : Bool) (P Q : Type 0) → MatchBool large P Q → P ⊎ Q
  large_cases true P Q h = inl h
  large_cases false P Q h = inr h

  receipts : (old : State) (task : ℕ) (waited : Waited) (room : ℕ) (large : Bool) (reply : Reply) (mid : State) (owed : Owed) → Receipt old task waited room large reply mid owed → Most old mid owed 0
  receipts old task waited room large (Reply.Message bytes) mid owed (q, from, x, none) = let a = receives task q room bytes old mid x in by_count old mid owed 0 (omega (arith, a)) none
  receipts old task waited room large (Reply.Empty told) mid owed x = by_state old mid old owed 0 x.2 refl x.3
  receipts old task waited room large (Reply.TooLarge n) mid owed (q, e, from, is_front, is, over, what) = by (large_cases large _ _ what)
    where
      by : (mid ≡ old) × (owed ≡ []) ⊎ DestroysFront q e old mid owed → Most old mid owed 0
      by (inl h) = by_state old mid old owed 0 h.0 refl h.1
      by (inr h) = front q e old mid owed h
  receipts old task waited room large reply mid owed x = absurd x

  -- ---- each event

  pub renames : (task o n : ℕ) (old mid : State) → Renames task o n old mid → rights mid ≡ rights old
  renames task o n old mid x = let a = x.tokens (λ y. if is_of kind p y then 1 else 0) in omega (arith, a)

  -- An event that is done makes no more than the table says.
  pub does_make : (now : ℕ) (old : State) (event : Event) (reply : Reply) (mid : State) (owed : Owed) → Does now old event reply mid owed → (n : ℕ) × MakesRights old event kind p n × Most old mid owed n
  does_make now old Event.TaskCreate (Reply.Task task) mid owed d = (0, refl, by_state old mid _ owed 0 d.0.rest refl d.1)
  does_make now old (Event.TaskTerminate task) (Reply.Code code) mid owed d = (0, refl, loses old mid (λ x. is_in_task task x.place) owed d.1.loses d.1.owed_are)
  does_make now old (Event.Allocate task right) (Reply.Name name) mid owed d = (made_with_port old right kind p, refl, makes task right name (gives task name old) mid owed d.1 d.2)
  does_make now old (Event.AllocateName task right name) (Reply.Name told) mid owed d = (made_with_port old right kind p, refl, makes task right name old mid owed d.1 d.2)
  does_make now old (Event.Deallocate task name) (Reply.Code code) mid owed d = (0, refl, deallocates task name old mid owed d.1)
  does_make now old (Event.Destroy task name) (Reply.Code code) mid owed d = (0, refl, destroys task name d.1.0 old mid owed d.1.2)
  does_make now old (Event.ModRefs task name right delta) (Reply.Code code) mid owed d = (by_references old task name right delta, refl, modifies task name right delta old mid owed d.1)
  does_make now old (Event.GetRefs task name right) (Reply.Refs n) mid owed d = (0, refl, by_state old mid old owed 0 d.0 refl d.1)
  does_make now old (Event.NameType task name) (Reply.NameType n) mid owed d = (0, refl, by_state old mid old owed 0 d.0 refl d.1)
  does_make now old (Event.Names task) (Reply.Names entries) mid owed d = (0, refl, by_state old mid old owed 0 d.0 refl d.1)
  does_make now old (Event.Rename task o n) (Reply.Code code) mid owed d = (0, refl, (let a = renames task o n old mid d.1 in by_count old mid owed 0 (omega (arith, a)) d.2))
  does_make now old (Event.ReceiveStatus task name) (Reply.Status status) mid owed d = (0, refl, by_state old mid old owed 0 d.0 refl d.1)
  does_make now old (Event.SetQlimit task name n) (Reply.Code code) mid owed d = (0, refl, by_state old mid _ owed 0 d.1.3 refl d.2)
  does_make now old (Event.SetMscount task name n) (Reply.Code code) mid owed d = (0, refl, by_state old mid _ owed 0 d.2.3 refl d.3)
  does_make now old (Event.SetSeqno task name n) (Reply.Code code) mid owed d = (0, refl, by_state old mid _ owed 0 d.2.3 refl d.3)
  does_make now old (Event.SetStatus task name) (Reply.Members members) mid owed d = (0, refl, by_state old mid old owed 0 d.0 refl d.1)
  does_make now old (Event.MoveMember task member after) (Reply.Code code) mid owed d = (0, refl, joins task member after old mid owed d.1 d.2)
  does_make now old (Event.InsertMember task member set) (Reply.Code code) mid owed d = (0, refl, by_state old mid _ owed 0 d.1.rest refl d.2)
  does_make now old (Event.ExtractMember task member set) (Reply.Code code) mid owed d = (0, refl, by_state old mid _ owed 0 d.1.rest refl d.2)
  does_make now old (Event.InsertRight task name from poly number) (Reply.Code code) mid owed d =
      (made_by_word (old.naming from) kind p (number, poly), refl, (let a = inserts task name from poly number old mid d.1 in by_count old mid owed (made_by_word (old.naming from) kind p (number, poly)) (omega (arith, a)) d.2))
  does_make now old (Event.ExtractRight task name number to) (Reply.Right new_name k) mid owed d =
      (made_by_word (old.naming task) kind p (number, name), refl, by_count old mid owed (made_by_word (old.naming task) kind p (number, name)) (extracts task name number to new_name k old mid d.0) d.1)
  does_make now old (Event.RequestNotification task name variant sync notify number) (Reply.Previous previous) mid owed d =
      (made_by_word (old.naming task) kind p (number, notify), refl, (asks task name variant sync notify number previous old mid owed d).0)
  does_make now old (Event.Send task bytes) (Reply.Code code) mid owed d =
      let x = d.1 in
      let words : List (ℕ × ℕ) = (x.header.remote_kind, x.header.remote) ∷ (x.header.local_kind, x.header.local) ∷ body_words x.written in
      let n : ℕ = made_by_words (old.naming task) kind p words in
      let a = (sends now task bytes old mid x).most in
      let e = ap rights x.rest in
      (n, (x.header, x.written, x.spells, refl), by_count old mid owed n (omega (arith, a, e)) d.2)
  does_make now old (Event.Receive task name room large) reply mid owed d = (0, refl, receipts old task d.0 room large reply mid owed d.2)
  does_make now old (Event.ReceiveAgain task waited room large) reply mid owed d = (0, refl, receipts old task waited room large reply mid owed d)
  does_make now old event reply mid owed d = absurd d

-- ---- the whole step

module _ (now : ℕ) (old : State) (event : Event) (reply : Reply) (new : State) (l : IsLawful old) (d : Done now old event reply new) (p : ℕ) where
  m : MidLawful d.mid d.owed
  m = Does-mid now old event reply d.mid d.owed d.unrefused d.does d.judged l

  lawful : IsLawful new
  lawful = Step-lawful now old event reply new (inr d) l

  -- a port that lives after the step had its receive right before, or gets it
  received : (n : ℕ) → Most receive p old d.mid d.owed n → new.live_port p ≡ true → count (is_of receive p) new.ledger ≤ count (is_of receive p) old.ledger + n
  received n most live = by (old.live_port p) refl (shrinks_or_none now old d.mid d.owed l event reply d.unrefused d.does)
    where
      one : count (is_of receive p) new.ledger ≡ 1
      one = lawful.one_receive p live

      mid_lives : d.mid.live_port p ≡ true
      mid_lives = live_mid now old d.mid d.owed new d.settles p live

      some : (k : ℕ) → (k ≡ 0 → ⊥) → 0 < k
      some zero not = absurd (not refl)
      some (suc k) not = omega arith

      by : (b : Bool) → old.live_port p ≡ b → Shrinks old d.mid ⊎ ((q : ℕ) → ¬ (IsOrphan d.mid q)) → count (is_of receive p) new.ledger ≤ count (is_of receive p) old.ledger + n
      by true lived h = let a = l.one_receive p lived in omega (arith, a, one)
      by false gone (inl s) = absurd (let e = ap (λ (f : ℕ → Bool). f p) s.live in let f = mid_lives in cc)
      by false gone (inr none) = let a = some (count (is_of receive p) d.mid.ledger) (λ z. none p (mid_lives, z)) in omega (arith, a, most, one)

  grown : (kind : Kind) (n : ℕ) → Most kind p old d.mid d.owed n → (b : Bool) → new.live_port p ≡ b → count (is_of kind p) new.ledger ≤ count (is_of kind p) old.ledger + n
  grown kind n most false gone = let z = lawful.no_rights p gone kind in omega (arith, z)
  grown receive n most true live = received n most live
  grown send n most true live = let e = senders_kept now old d.mid d.owed new m d.settles p live in omega (arith, e, most)
  grown send_once n most true live = let e = once_kept now old d.mid d.owed new m d.settles p live in omega (arith, e, most)

  -- What a step makes.
  pub done_makes : (kind : Kind) → (n : ℕ) × MakesRights old event kind p n × (count (is_of kind p) new.ledger ≤ count (is_of kind p) old.ledger + n)
  done_makes kind = let h = does_make kind p now old event reply d.mid d.owed d.does in (h.0, h.1, grown kind h.0 h.2 (new.live_port p) refl)
