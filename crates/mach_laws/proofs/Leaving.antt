-- Which events let rights of ports that live go: send-once rights leave with messages that are taken alone, and send rights by few events.
use Rattle.std.proofs.Common.{◌≡◌, ℕ, ℤ, zero, suc, ◌+◌, ◌-◌, ◌≤◌, ◌<◌, List, [], ◌∷◌, refl, sym, ap, ◌∙◌, arith, true, false, Bool, inl, inr, get_or, Some}
use Rattle.std.specs.Prelude.{◌≢◌, ◌⊎◌, ◌==◌, ◌&&◌, if◌then◌else◌, not, nat_lt, filter, MatchBool, All, pos, negsuc, map as list_map}
use Rattle.std.proofs.lemmas.Bool.{or_cases, and_from, eq-eqb}
use Rattle.std.proofs.lemmas.Bool.Decides.{eqb_tells}
use Rattle.mach_types.specs.declared.calls.Event.{Event}
use Rattle.mach_types.specs.declared.calls.Reply.{Reply}
use Rattle.mach_types.specs.declared.calls.Waited.{Waited}
use Rattle.mach_types.specs.declared.rights.Disposition.TheVariants.{MoveReceive, MoveSend, MoveSendOnce, CopySend, MakeSend, MakeSendOnce}
use Rattle.mach_types.specs.Tokens.{Kind, receive, send, send_once, same_kind, Place, in_task, in_message, Token, token, count, is_of, is_held, is_in_task, Moves}
use Rattle.mach_types.specs.Messages.{Mark, to_port, null, dead, Entry}
use Rattle.mach_types.specs.Bodies.{Through, message_rights}
use Rattle.mach_types.specs.Guards.{NoneHolds}
use Rattle.mach_model.specs.State.{State, Target, lookup, held, gives}
use Rattle.mach_model.specs.Tasks.{EndsTask}
use Rattle.mach_model.specs.Carried.{lying}
use Rattle.mach_types.specs.declared.rights.Disposition.{Disposition}
use Rattle.mach_types.specs.Numbers.{most_references, kind_sent}
use Rattle.mach_model.specs.SentMeans.{target_mark}
use Rattle.mach_model.specs.CopyIn.{IsLegal, taken_by, put_by, CopyRight}
use Rattle.mach_model.specs.CopyOut.{NamedOnce, NamedFor, given_to, GiveMark, GiveWord}
use Rattle.mach_model.specs.Death.{IsOrphan, same_place}
use Rattle.mach_model.specs.Notices.{Owed, right_unused}
use Rattle.mach_model.specs.Settles.{tokens_of}
use Rattle.mach_model.specs.References.{LosesAll, is_either, unused_once, unused_among, Deallocates, DestroysTarget, with_dead, AddsTo, RemovesRight, Modifies}
use Rattle.mach_model.specs.Names.{Makes, JoinsSet}
use Rattle.mach_model.specs.Transfer.{pegged, Extracts}
use Rattle.mach_model.specs.Receive.{TakesFrom, Takes, Receives, DestroysFront, Receipt}
use Rattle.mach_model.specs.ReceivedMeans.{received_words}
use Rattle.mach_model.specs.Refusals.{guards}
use Rattle.mach_model.specs.Machine.{Done}
use Rattle.mach_model.specs.Acts.{Does}
use Rattle.mach_model.specs.Lawful.{IsLawful}
use Rattle.mach_model.specs.Midway.{IsOwed, MidLawful}
use Rattle.mach_model.proofs.SettledReceives.{none_pass, none_paid, of_kind}
use Rattle.mach_model.proofs.Names.{at_own, at_same, at_other, left_of, right_of, count_le, count_none}
use Rattle.mach_model.proofs.Settling.{place_refl}
use Rattle.mach_model.proofs.SettledOnce.{once_kept}
use Rattle.mach_model.proofs.StepLawful.{Does-mid}
use Rattle.mach_laws.specs.Counts.{takes_from, is_lost}
use Rattle.mach_laws.specs.Received.{AsksFrom}
use Rattle.mach_laws.specs.Making.{is_port, removed_rights, LayInFront, DropsSends}
use Rattle.mach_laws.proofs.Counted.{senders_kept}
use Rattle.mach_laws.proofs.Steps.{Effect, Does-effect}
use Rattle.mach_laws.proofs.Shrinking.{Shrinks, shrinks_or_none}
use Rattle.mach_laws.proofs.Making.{copied}
use Rattle.mach_laws.proofs.Made.{gone_less, many, sends, inserts, renames, asks}
use Rattle.mach_laws.proofs.NoticeMeans.{same_senders}

-- ---- copying out takes no message

choose : (b : Bool) (P Q R : Type 0) → (P → R) → (Q → R) → MatchBool b P Q → R
choose true P Q R f g h = f h
choose false P Q R f g h = g h

module _ (p : ℕ) where
  named_once_taken : (task v q : ℕ) (old new : State) → NamedOnce task v q old new → new.taken p ≡ old.taken p
  named_once_taken task v q old new (inl h) = ap (λ (s : State). s.taken p) h.1
  named_once_taken task v q old new (inr h) = ap (λ (s : State). s.taken p) h.1.rest

  named_taken : (k : Kind) (task v q : ℕ) (old new : State) → NamedFor k task v q old new → new.taken p ≡ old.taken p
  named_taken receive task v q old new h = named_once_taken task v q old new h
  named_taken send task v q old new h = named_once_taken task v q old new h
  named_taken send_once task v q old new h = ap (λ (s : State). s.taken p) h.rest

  mark_taken : (task : ℕ) (place : Place) (k : Kind) (mark : Mark) (old : State) (word : ℕ) (new : State) → GiveMark task place k mark old word new → new.taken p ≡ old.taken p
  mark_taken task place k null old word new h = ap (λ (s : State). s.taken p) h.1
  mark_taken task place k dead old word new h = ap (λ (s : State). s.taken p) h.1
  mark_taken task place k (to_port q) old word new h = choose (old.live_port q) _ _ _
      (λ g. ap (λ (s : State). s.taken p) g.rest ∙ named_taken k task word q old g.named_state g.named) (λ g. ap (λ (s : State). s.taken p) g.1) h

  words_taken : (task : ℕ) (place : Place) (ws : List (ℕ × ℕ)) (old : State) (rs : List (Kind × Mark)) (new : State) → Through (GiveWord task place) old ws rs new → new.taken p ≡ old.taken p
  words_taken task place [] old [] new h = ap (λ (s : State). s.taken p) h
  words_taken task place (w ∷ ws) old (r ∷ rs) new h = words_taken task place ws h.0 rs new h.2 ∙ mark_taken task place r.0 r.1 old w.1 h.0 h.1
  words_taken task place [] old (r ∷ rs) new h = absurd h
  words_taken task place (w ∷ ws) old [] new h = absurd h

-- the port of a message that is taken
received_taken : (task port room : ℕ) (bytes : List ℕ) (old mid : State) → Receives task port room bytes old mid → mid.taken port ≡ old.taken port + 1
received_taken task port room bytes old mid r =
    words_taken port task (in_message port (old.taken port)) (received_words r.header r.written) r.taken (message_rights r.e.message) mid r.rights
    ∙ ap (λ (s : State). s.taken port) r.takes.rest ∙ at_own old.taken port (old.taken port + 1)

front_taken : (port : ℕ) (e : Entry) (old mid : State) (owed : Owed) → DestroysFront port e old mid owed → mid.taken port ≡ old.taken port + 1
front_taken port e old mid owed d = ap (λ (s : State). s.taken port) d.rest ∙ ap (λ (s : State). s.taken port) d.takes.rest ∙ at_own old.taken port (old.taken port + 1)

-- ---- events that drop no send right

abbrev MayDropSends : Event → Type 0
MayDropSends (Event.TaskTerminate task) = Unit {0}
MayDropSends (Event.Deallocate task name) = Unit {0}
MayDropSends (Event.Destroy task name) = Unit {0}
MayDropSends (Event.ModRefs task name right delta) = Unit {0}
MayDropSends (Event.ExtractRight task name number to) = Unit {0}
MayDropSends (Event.Receive task name room large) = Unit {0}
MayDropSends (Event.ReceiveAgain task waited room large) = Unit {0}
MayDropSends event = ⊥

module _ (kind : Kind) (p : ℕ) where
  abbrev rights : State → ℕ
  rights s = count (is_of kind p) s.ledger

  -- none leaves that isn't owed a notice
  abbrev Least : State → State → Owed → Type 0
  Least old mid owed = rights old ≤ rights mid + count (is_of kind p) (tokens_of owed)

  by_state : (old mid changed : State) (owed : Owed) → mid ≡ changed → changed.ledger ≡ old.ledger → Least old mid owed
  by_state old mid changed owed e same = let a = ap rights e ∙ ap (count (is_of kind p)) same in omega (arith, a)

  makes : (task right name : ℕ) (old mid : State) (owed : Owed) → Makes task right name old mid → Least old mid owed
  makes task right name old mid owed (inl x) = let m = x.1.tokens (λ x. if is_of kind p x then 1 else 0) in omega (arith, m)
  makes task right name old mid owed (inr (inl x)) = by_state old mid _ owed x.1 refl
  makes task right name old mid owed (inr (inr x)) = by_state old mid _ owed x.1 refl

  joins : (task member after : ℕ) (old mid : State) (owed : Owed) → JoinsSet task member after old mid → Least old mid owed
  joins task member after old mid owed (q, found, inl x) = by_state old mid _ owed x.1 refl
  joins task member after old mid owed (q, found, inr x) = by_state old mid _ owed x.2 refl

  does_keep : (now : ℕ) (old : State) (event : Event) (reply : Reply) (mid : State) (owed : Owed) → ¬ (MayDropSends event) → Does now old event reply mid owed → Least old mid owed
  does_keep now old Event.TaskCreate (Reply.Task task) mid owed not d = by_state old mid _ owed d.0.rest refl
  does_keep now old (Event.TaskTerminate task) reply mid owed not d = absurd (not tt)
  does_keep now old (Event.Allocate task right) (Reply.Name name) mid owed not d = makes task right name (gives task name old) mid owed d.1
  does_keep now old (Event.AllocateName task right name) (Reply.Name told) mid owed not d = makes task right name old mid owed d.1
  does_keep now old (Event.Deallocate task name) reply mid owed not d = absurd (not tt)
  does_keep now old (Event.Destroy task name) reply mid owed not d = absurd (not tt)
  does_keep now old (Event.ModRefs task name right delta) reply mid owed not d = absurd (not tt)
  does_keep now old (Event.GetRefs task name right) (Reply.Refs n) mid owed not d = by_state old mid old owed d.0 refl
  does_keep now old (Event.NameType task name) (Reply.NameType n) mid owed not d = by_state old mid old owed d.0 refl
  does_keep now old (Event.Names task) (Reply.Names entries) mid owed not d = by_state old mid old owed d.0 refl
  does_keep now old (Event.Rename task o n) (Reply.Code code) mid owed not d = let a = renames kind p task o n old mid d.1 in omega (arith, a)
  does_keep now old (Event.ReceiveStatus task name) (Reply.Status status) mid owed not d = by_state old mid old owed d.0 refl
  does_keep now old (Event.SetQlimit task name n) (Reply.Code code) mid owed not d = by_state old mid _ owed d.1.3 refl
  does_keep now old (Event.SetMscount task name n) (Reply.Code code) mid owed not d = by_state old mid _ owed d.2.3 refl
  does_keep now old (Event.SetSeqno task name n) (Reply.Code code) mid owed not d = by_state old mid _ owed d.2.3 refl
  does_keep now old (Event.SetStatus task name) (Reply.Members members) mid owed not d = by_state old mid old owed d.0 refl
  does_keep now old (Event.MoveMember task member after) (Reply.Code code) mid owed not d = joins task member after old mid owed d.1
  does_keep now old (Event.InsertMember task member set) (Reply.Code code) mid owed not d = by_state old mid _ owed d.1.rest refl
  does_keep now old (Event.ExtractMember task member set) (Reply.Code code) mid owed not d = by_state old mid _ owed d.1.rest refl
  does_keep now old (Event.InsertRight task name from poly number) (Reply.Code code) mid owed not d = let a = inserts kind p task name from poly number old mid d.1 in omega (arith, a)
  does_keep now old (Event.ExtractRight task name number to) reply mid owed not d = absurd (not tt)
  does_keep now old (Event.RequestNotification task name variant sync notify number) (Reply.Previous previous) mid owed not d = (asks kind p task name variant sync notify number previous old mid owed d).1
  does_keep now old (Event.Send task bytes) (Reply.Code code) mid owed not d = let a = (sends kind p now task bytes old mid d.1).least in let e = ap rights d.1.rest in omega (arith, a, e)
  does_keep now old (Event.Receive task name room large) reply mid owed not d = absurd (not tt)
  does_keep now old (Event.ReceiveAgain task waited room large) reply mid owed not d = absurd (not tt)
  does_keep now old event reply mid owed not d = absurd d

-- ---- events that drop send rights

module _ (p : ℕ) where
  abbrev sends_of : State → ℕ
  sends_of s = count (is_of send p) s.ledger

  -- what passes, of what is elsewhere and what is there
  two : (f g : Token → Bool) (xs : List Token) → count f xs ≡ count (λ x. f x && not (g x)) xs + count (λ x. f x && g x) xs
  two f g [] = refl
  two f g (x ∷ xs) = let r = two f g xs in let e = go (f x) (g x) in omega (arith, r, e)
    where
      go : (a b : Bool) → (if a then suc zero else zero) ≡ (if a && not b then suc zero else zero) + (if a && b then suc zero else zero)
      go true true = refl
      go true false = refl
      go false b = refl

  not_both : (a b : Bool) → b ≡ true → (a && not b) ≡ true → ⊥
  not_both a true e h = let f : (a && false) ≡ true = h in go a f
    where
      go : (a : Bool) → (a && false) ≡ true → ⊥
      go true h = cc
      go false h = cc
  not_both a false e h = cc

  -- Tokens of which each passes the test go, and others come: the send rights are fewer by those that passed, at most.
  goes_by : (test : Token → Bool) (old new gone come : List Token) → Moves old new gone come → All (λ x. test x ≡ true) gone →
      count (is_of send p) old ≤ count (is_of send p) new + count (λ x. is_of send p x && test x) old
  goes_by test old new gone come moves passed =
      let a = two (is_of send p) test old in
      let b = two (is_of send p) test new in
      let m = moves (λ x. if is_of send p x && not (test x) then 1 else 0) in
      let z = none_pass (λ x. test x ≡ true) (λ x. is_of send p x && not (test x)) (λ x is h. not_both (is_of send p x) (test x) is h) gone passed in
      omega (arith, a, b, m, z)

  less_by : (old mid : State) (gone : List Token) (n : ℕ) → Moves old.ledger mid.ledger gone [] → count (is_of send p) gone ≤ n → sends_of old ≤ sends_of mid + n
  less_by old mid gone n moves few = let a = gone_less send p old mid gone moves in omega (arith, a, few)

  same_by : (old mid changed : State) (n : ℕ) → mid ≡ changed → changed.ledger ≡ old.ledger → sends_of old ≤ sends_of mid + n
  same_by old mid changed n e same = let a = ap sends_of e ∙ ap (count (is_of send p)) same in omega (arith, a)

  abbrev if_named : State → (task name : ℕ) → ℕ → ℕ
  if_named s task name n = if is_port p (lookup s task name) then n else 0

  drops_task : (task : ℕ) (old mid : State) (owed : Owed) → EndsTask task old mid owed → sends_of old ≤ sends_of mid + held old task send p
  drops_task task old mid owed d = goes_by (λ x. is_in_task task x.place) old.ledger mid.ledger d.loses.gone [] d.loses.moves d.loses.passed

  drops_reference : (task name : ℕ) (old mid : State) (owed : Owed) → Deallocates task name old mid owed → sends_of old ≤ sends_of mid + if_named old task name 1
  drops_reference task name old mid owed (inl (q, x, none)) =
      let e : (if q == p then 1 else 0) ≡ if_named old task name 1 = rw x.found refl in
      less_by old mid (taken_by MoveSend (Target.port q) task) (if_named old task name 1) x.tokens (omega (arith, e))
  drops_reference task name old mid owed (inr (inl (q, x, owes))) = less_by old mid (token send_once q (in_task task) ∷ []) (if_named old task name 1) x.tokens (omega arith)
  drops_reference task name old mid owed (inr (inr (n, x, none))) = less_by old mid [] (if_named old task name 1) x.tokens (omega arith)

  no_receive : receive ≡ send → ⊥
  no_receive e = cc

  -- of both rights under the name of a port those for this one are its send rights with the task
  either_held : (task q : ℕ) (xs : List Token) → count (λ x. is_of send p x && is_either task q x) xs ≤ (if q == p then count (is_held task send p) xs else 0)
  either_held task q xs = elim (eqb_tells q p) [
    | inl h ↦ (let le = count_le (λ x. is_of send p x && is_either task q x) (is_held task send p) (λ x is. held_one x is) xs in rw h.0 le)
    | inr h ↦ (let z = count_none (λ x. is_of send p x && is_either task q x) xs (λ k t below is. h.1 (same_port (get_or xs k t) is)) in omega (arith, z))
  ]
    where
      under : (x : Token) → (is_of send p x && is_either task q x) ≡ true → is_held task send q x ≡ true
      under x is = by (or_cases (is_held task receive q x) (is_held task send q x) (right_of (is_of send p x) (is_either task q x) is))
        where
          by : (is_held task receive q x ≡ true) ⊎ (is_held task send q x ≡ true) → is_held task send q x ≡ true
          by (inr h) = h
          by (inl h) = absurd (no_receive (sym (of_kind receive q x (left_of (is_of receive q x) (is_in_task task x.place) h)).0
              ∙ (of_kind send p x (left_of (is_of send p x) (is_either task q x) is)).0))

      held_one : (x : Token) → (is_of send p x && is_either task q x) ≡ true → is_held task send p x ≡ true
      held_one x is = and_from (is_of send p x) (is_in_task task x.place) (left_of (is_of send p x) (is_either task q x) is)
          (right_of (is_of send q x) (is_in_task task x.place) (under x is))

      same_port : (x : Token) → (is_of send p x && is_either task q x) ≡ true → q ≡ p
      same_port x is = sym (of_kind send q x (left_of (is_of send q x) (is_in_task task x.place) (under x is))).1
          ∙ (of_kind send p x (left_of (is_of send p x) (is_either task q x) is)).1

  drops_name : (task name : ℕ) (target : Target) (old mid : State) (owed : Owed) → lookup old task name ≡ Some target → DestroysTarget task name target old mid owed →
      sends_of old ≤ sends_of mid + if_named old task name (held old task send p)
  drops_name task name (Target.port q) old mid owed found x =
      let a = goes_by (is_either task q) old.ledger mid.ledger x.0.gone [] x.0.moves x.0.passed in
      let b = either_held task q old.ledger in
      let e : (if q == p then held old task send p else 0) ≡ if_named old task name (held old task send p) = rw found refl in
      omega (arith, a, b, e)
  drops_name task name (Target.once q) old mid owed found x = less_by old mid (token send_once q (in_task task) ∷ []) (if_named old task name (held old task send p)) x.0.tokens (omega arith)
  drops_name task name (Target.dead n) old mid owed found x = same_by old mid _ (if_named old task name (held old task send p)) x.0 refl
  drops_name task name (Target.set k) old mid owed found x = same_by old mid _ (if_named old task name (held old task send p)) x.0 refl

  abbrev if_fewer : State → (task name right : ℕ) → ℤ → ℕ
  if_fewer s task name right delta = if right == 0 && is_port p (lookup s task name) then removed_rights delta else 0

  drops_right : (right task name : ℕ) (target : Target) (n : ℕ) (old mid : State) (owed : Owed) → RemovesRight right task name target old mid owed → sends_of old ≤ sends_of mid + n
  drops_right right task name (Target.port q) n old mid owed x = less_by old mid (token receive q (in_task task) ∷ []) n x.1.0 (omega arith)
  drops_right right task name (Target.once q) n old mid owed x = less_by old mid (token send_once q (in_task task) ∷ []) n x.1.0.tokens (omega arith)
  drops_right right task name (Target.set k) n old mid owed x = same_by old mid _ n x.1.0 refl
  drops_right right task name (Target.dead k) n old mid owed x = absurd x

  removed : (n : ℕ) (delta : ℤ) (k : ℕ) → AddsTo n delta k → n - k ≡ removed_rights delta
  removed n (pos d) k e = omega (arith, e)
  removed n (negsuc d) k e = omega (arith, e)

  drops_some : (task name right : ℕ) (delta : ℤ) (old mid : State) (owed : Owed) → Modifies task name right delta old mid owed → sends_of old ≤ sends_of mid + if_fewer old task name right delta
  drops_some task name right delta old mid owed (inl (q, k, is, found, adds, x, none)) =
      let m = x.tokens (λ x. if is_of send p x then 1 else 0) in
      let a = many send p (held old task send q - k) q (in_task task) in
      let e : (if q == p then held old task send q - k else 0) ≡ if_fewer old task name right delta = rw (removed (held old task send q) delta k adds, is, found) refl in
      omega (arith, m, a, e)
  drops_some task name right delta old mid owed (inr (inl x)) = same_by old mid (with_dead task name x.1 old) (if_fewer old task name right delta) x.5 (dead_ledger x.1)
    where
      dead_ledger : (n : ℕ) → (with_dead task name n old).ledger ≡ old.ledger
      dead_ledger n = grind arith
  drops_some task name right delta old mid owed (inr (inr (inl x))) = same_by old mid old (if_fewer old task name right delta) x.2 refl
  drops_some task name right delta old mid owed (inr (inr (inr x))) = drops_right right task name x.0 (if_fewer old task name right delta) old mid owed x.3

  -- ---- a message that is taken

  module _ (place : Place) where
    abbrev elsewhere : State → ℕ
    elsewhere s = count (λ x. is_of send p x && not (same_place place x.place)) s.ledger

    -- tokens of the place go
    goes_there : (old new : State) (gone come : List Token) → Moves old.ledger new.ledger gone come → All (λ x. same_place place x.place ≡ true) gone → elsewhere old ≤ elsewhere new
    goes_there old new gone come moves passed =
        let m = moves (λ x. if is_of send p x && not (same_place place x.place) then 1 else 0) in
        let z = none_pass (λ x. same_place place x.place ≡ true) (λ x. is_of send p x && not (same_place place x.place)) (λ x is h. not_both (is_of send p x) (same_place place x.place) is h) gone passed in
        omega (arith, m, z)

    one_there : (kind : Kind) (q : ℕ) → All (λ x. same_place place x.place ≡ true) (token kind q place ∷ [])
    one_there kind q zero t below = place_refl place
    one_there kind q (suc k) t below = absurd (omega (arith, below))

    mark_goes : (task : ℕ) (k : Kind) (mark : Mark) (old : State) (word : ℕ) (new : State) → GiveMark task place k mark old word new → elsewhere old ≤ elsewhere new
    mark_goes task k null old word new h = let e = ap elsewhere h.1 in omega (arith, e)
    mark_goes task k dead old word new h = let e = ap elsewhere h.1 in omega (arith, e)
    mark_goes task k (to_port q) old word new h = choose (old.live_port q) _ _ _
        (λ g. goes_there old new (token k q place ∷ []) (given_to k q task old) g.tokens (one_there k q)) (λ g. (let e = ap elsewhere g.1 in omega (arith, e))) h

    words_go : (task : ℕ) (ws : List (ℕ × ℕ)) (old : State) (rs : List (Kind × Mark)) (new : State) → Through (GiveWord task place) old ws rs new → elsewhere old ≤ elsewhere new
    words_go task [] old [] new h = let e = ap elsewhere h in omega (arith, e)
    words_go task (w ∷ ws) old (r ∷ rs) new h = let a = mark_goes task r.0 r.1 old w.1 h.0 h.1 in let b = words_go task ws h.0 rs new h.2 in omega (arith, a, b)
    words_go task [] old (r ∷ rs) new h = absurd h
    words_go task (w ∷ ws) old [] new h = absurd h

    only_there : (old mid : State) → elsewhere old ≤ elsewhere mid → sends_of old ≤ sends_of mid + lying old send p place
    only_there old mid le =
        let a = two (is_of send p) (λ x. same_place place x.place) old.ledger in
        let b = two (is_of send p) (λ x. same_place place x.place) mid.ledger in
        omega (arith, a, b, le)

  drops_received : (task port room : ℕ) (bytes : List ℕ) (old mid : State) → Receives task port room bytes old mid → sends_of old ≤ sends_of mid + lying old send p (in_message port (old.taken port))
  drops_received task port room bytes old mid r =
      let place : Place = in_message port (old.taken port) in
      let a = goes_there place old r.taken (token r.e.message.kind port place ∷ []) [] r.takes.tokens (one_there place r.e.message.kind port) in
      let b = words_go place task (received_words r.header r.written) r.taken (message_rights r.e.message) mid r.rights in
      only_there place old mid (omega (arith, a, b))

  drops_front : (port : ℕ) (e : Entry) (old mid : State) (owed : Owed) → DestroysFront port e old mid owed → sends_of old ≤ sends_of mid + lying old send p (in_message port (old.taken port))
  drops_front port e old mid owed d =
      let place : Place = in_message port (old.taken port) in
      let a = goes_there place old d.taken (token e.message.kind port place ∷ []) [] d.takes.tokens (one_there place e.message.kind port) in
      let b = goes_there place d.taken mid d.loses.gone [] d.loses.moves d.loses.passed in
      only_there place old mid (omega (arith, a, b))

  abbrev DropsBy : (event : Event) → State → State → Type 0
  DropsBy event old mid = (n : ℕ) × LayInFront old event mid p n × (sends_of old ≤ sends_of mid + n)

  drops_receipt : (event : Event) (old : State) (task : ℕ) (waited : Waited) (room : ℕ) (large : Bool) (reply : Reply) (mid : State) (owed : Owed) →
      ((q : ℕ) → TakesFrom old task waited q → AsksFrom old event task q) → Receipt old task waited room large reply mid owed → DropsBy event old mid
  drops_receipt event old task waited room large (Reply.Message bytes) mid owed asks (q, from, x, none) =
      (lying old send p (in_message q (old.taken q)), inr (task, q, asks q from, received_taken task q room bytes old mid x, refl), drops_received task q room bytes old mid x)
  drops_receipt event old task waited room large (Reply.Empty told) mid owed asks x = (0, inl refl, same_by old mid old 0 x.2 refl)
  drops_receipt event old task waited room true (Reply.TooLarge n) mid owed asks (q, e, from, is_front, is, over, what) = (0, inl refl, same_by old mid old 0 what.0 refl)
  drops_receipt event old task waited room false (Reply.TooLarge n) mid owed asks (q, e, from, is_front, is, over, what) =
      (lying old send p (in_message q (old.taken q)), inr (task, q, asks q from, front_taken q e old mid owed what, refl), drops_front q e old mid owed what)
  drops_receipt event old task waited room large reply mid owed asks x = absurd x

  -- ---- a right that comes out beyond the most references

  above : (a b : ℕ) → nat_lt a b ≡ true → a < b
  above a b e = grind arith

  if_above : (b : Bool) (to q n : ℕ) → (b ≡ true → q ≡ p → 1 ≤ n) → count (is_of send p) (if b then token send q (in_task to) ∷ [] else []) ≤ n
  if_above false to q n h = omega arith
  if_above true to q n h = elim (eqb_tells q p) [
    | inl e ↦ (let a = h refl e.1 in let z : (if q == p then suc zero else zero) ≡ suc zero = rw e.0 refl in omega (arith, a, z))
    | inr e ↦ (let z : (if q == p then suc zero else zero) ≡ zero = rw e.0 refl in omega (arith, z))
  ]

  module _ (task name number to : ℕ) (old copied_state : State) (q : ℕ) (l : IsLawful old) (c : CopyRight task (in_task to) number name old (to_port q) copied_state) where
    most_before : held old to send q ≤ most_references
    most_before = (l.naming to).few_references q

    -- only a right for a port's name adds to the references
    added_by : (d : Disposition) (target : Target) → IsLegal old task d target → target_mark d target ≡ Some (to_port q) → (count (is_held to send q) (put_by d target (in_task to)) ≡ 0) ⊎ (target ≡ Target.port q)
    added_by d (Target.port r) legal mark = inr (ap Target.port (same_mark r q mark))
      where
        same_mark : (r q : ℕ) → Some (to_port r) ≡ Some (to_port q) → r ≡ q
        same_mark r q e = cc
    added_by MoveSendOnce (Target.once r) legal mark = inl refl
    added_by MoveReceive (Target.once r) legal mark = absurd legal
    added_by MoveSend (Target.once r) legal mark = absurd legal
    added_by CopySend (Target.once r) legal mark = absurd legal
    added_by MakeSend (Target.once r) legal mark = absurd legal
    added_by MakeSendOnce (Target.once r) legal mark = absurd legal
    added_by d (Target.dead n) legal mark = inl refl
    added_by d (Target.set n) legal mark = inl refl

    put_few : (d : Disposition) (target : Target) → count (is_held to send q) (put_by d target (in_task to)) ≤ 1
    put_few d (Target.port r) = few (is_held to send q (token (kind_sent d) r (in_task to)))
      where
        few : (b : Bool) → (if b then 1 else 0) + 0 ≤ 1
        few true = omega arith
        few false = omega arith
    put_few d (Target.once r) = few (is_held to send q (token (kind_sent d) r (in_task to)))
      where
        few : (b : Bool) → (if b then 1 else 0) + 0 ≤ 1
        few true = omega arith
        few false = omega arith
    put_few d (Target.dead n) = omega arith
    put_few d (Target.set n) = omega arith

    beyond : nat_lt most_references (held copied_state to send q) ≡ true → q ≡ p → 1 ≤ (if is_port p (lookup old task name) && most_references == held old to send p then 1 else 0)
    beyond e same = by (added_by c.given c.target c.legal c.mark_is)
      where
        over : most_references < held copied_state to send q
        over = above most_references (held copied_state to send q) e

        moves : held copied_state to send q + count (is_held to send q) (taken_by c.given c.target task) ≡ held old to send q + count (is_held to send q) (put_by c.given c.target (in_task to))
        moves = c.tokens (λ x. if is_held to send q x then 1 else 0)

        by : (count (is_held to send q) (put_by c.given c.target (in_task to)) ≡ 0) ⊎ (c.target ≡ Target.port q) → 1 ≤ (if is_port p (lookup old task name) && most_references == held old to send p then 1 else 0)
        by (inl z) = absurd (omega (arith, z, over, moves, most_before))
        by (inr is) =
            let few = put_few c.given c.target in
            let full : most_references ≡ held old to send q = omega (arith, few, over, moves, most_before) in
            let e1 : is_port p (lookup old task name) ≡ true = ap (is_port p) (c.found ∙ ap Some is) ∙ eq-eqb q p same in
            let e2 : (most_references == held old to send p) ≡ true = eq-eqb most_references (held old to send p) (full ∙ ap (held old to send) same) in
            rw (e1, e2) (omega arith)

  abbrev if_beyond : State → (task name to : ℕ) → ℕ
  if_beyond s task name to = if is_port p (lookup s task name) && most_references == held s to send p then 1 else 0

  drops_beyond : (task name number to new_name k : ℕ) (old mid : State) → IsLawful old → Extracts task name number to new_name k old mid → sends_of old ≤ sends_of mid + if_beyond old task name to
  drops_beyond task name number to new_name k old mid l x =
      let c = copied send p task (in_task to) number name old (to_port x.p) x.copied x.copy in
      let g = gone_less send p x.copied mid (pegged to x.p x.copied) x.tokens in
      let z = if_above (nat_lt most_references (held x.copied to send x.p)) to x.p (if_beyond old task name to) (beyond task name number to old x.copied x.p l x.copy) in
      omega (arith, c, g, z)

  -- ---- each event

  abbrev Drops : (event : Event) → State → State → Owed → Type 0
  Drops event old mid owed = (n : ℕ) × DropsSends old event mid p n × (sends_of old ≤ sends_of mid + count (is_of send p) (tokens_of owed) + n)

  drops : (event : Event) (old mid : State) (owed : Owed) (n : ℕ) → DropsSends old event mid p n → sends_of old ≤ sends_of mid + n → Drops event old mid owed
  drops event old mid owed n is le = (n, is, omega (arith, le))

  -- what a step's end leaves
  drops_still : (event : Event) (old mid new : State) (n : ℕ) → new.taken ≡ mid.taken → DropsSends old event mid p n → DropsSends old event new p n
  drops_still (Event.Receive task name room large) old mid new n same (inl e) = inl e
  drops_still (Event.Receive task name room large) old mid new n same (inr (t, q, asks, k, e)) = inr (t, q, asks, ap (λ (f : ℕ → ℕ). f q) same ∙ k, e)
  drops_still (Event.ReceiveAgain task waited room large) old mid new n same (inl e) = inl e
  drops_still (Event.ReceiveAgain task waited room large) old mid new n same (inr (t, q, asks, k, e)) = inr (t, q, asks, ap (λ (f : ℕ → ℕ). f q) same ∙ k, e)
  drops_still event old mid new n same is = is

  does_drop : (now : ℕ) (old : State) (event : Event) (reply : Reply) (mid : State) (owed : Owed) → IsLawful old → Does now old event reply mid owed → Drops event old mid owed
  does_drop now old (Event.TaskTerminate task) (Reply.Code code) mid owed l d = drops (Event.TaskTerminate task) old mid owed (held old task send p) refl (drops_task task old mid owed d.1)
  does_drop now old (Event.Deallocate task name) (Reply.Code code) mid owed l d = drops (Event.Deallocate task name) old mid owed (if_named old task name 1) refl (drops_reference task name old mid owed d.1)
  does_drop now old (Event.Destroy task name) (Reply.Code code) mid owed l d =
      drops (Event.Destroy task name) old mid owed (if_named old task name (held old task send p)) refl (drops_name task name d.1.0 old mid owed d.1.1 d.1.2)
  does_drop now old (Event.ModRefs task name right delta) (Reply.Code code) mid owed l d =
      drops (Event.ModRefs task name right delta) old mid owed (if_fewer old task name right delta) refl (drops_some task name right delta old mid owed d.1)
  does_drop now old (Event.ExtractRight task name number to) (Reply.Right new_name k) mid owed l d =
      drops (Event.ExtractRight task name number to) old mid owed (if_beyond old task name to) refl (drops_beyond task name number to new_name k old mid l d.0)
  does_drop now old (Event.Receive task name room large) reply mid owed l (waited, waits, d) =
      let h = drops_receipt (Event.Receive task name room large) old task waited room large reply mid owed (λ q from. (refl, waited, waits, from)) d in
      drops (Event.Receive task name room large) old mid owed h.0 h.1 h.2
  does_drop now old (Event.ReceiveAgain task waited room large) reply mid owed l d =
      let h = drops_receipt (Event.ReceiveAgain task waited room large) old task waited room large reply mid owed (λ q from. (refl, from)) d in
      drops (Event.ReceiveAgain task waited room large) old mid owed h.0 h.1 h.2
  does_drop now old (Event.TaskTerminate task) reply mid owed l d = absurd d
  does_drop now old (Event.Deallocate task name) reply mid owed l d = absurd d
  does_drop now old (Event.Destroy task name) reply mid owed l d = absurd d
  does_drop now old (Event.ModRefs task name right delta) reply mid owed l d = absurd d
  does_drop now old (Event.ExtractRight task name number to) reply mid owed l d = absurd d
  does_drop now old event reply mid owed l d = (0, refl, (let a = does_keep send p now old event reply mid owed (λ h. h) d in omega (arith, a)))

module _ (now : ℕ) (old : State) (event : Event) (reply : Reply) (new : State) (l : IsLawful old) (d : Done now old event reply new) (p : ℕ) (live : new.live_port p ≡ true) where
  m : MidLawful d.mid d.owed
  m = Does-mid now old event reply d.mid d.owed d.unrefused d.does d.judged l

  no_once : send_once ≡ send → ⊥
  no_once e = cc

  none_owed : count (is_of send p) (tokens_of d.owed) ≡ 0
  none_owed = none_paid (λ x n. IsOwed d.mid.live_port (x, n)) (is_of send p) (λ x n is t. no_once (sym is.once ∙ (of_kind send p x t).0)) d.owed m.are_owed

  abbrev lost : State → ℕ
  lost s = count (λ x. is_of send p x && is_lost new x) s.ledger

  -- Send rights of ports that live leave as the table says, or with messages of ports that died.
  pub senders_leave : (n : ℕ) × DropsSends old event new p n × (count (is_of send p) old.ledger ≤ count (is_of send p) new.ledger + n + lost old)
  senders_leave = by (does_drop p now old event reply d.mid d.owed l d.does) (shrinks_or_none now old d.mid d.owed l event reply d.unrefused d.does)
    where
      same : new.taken ≡ d.mid.taken
      same = ap (λ (s : State). s.taken) d.settles.rest

      by : Drops p event old d.mid d.owed → Shrinks old d.mid ⊎ ((q : ℕ) → ¬ (IsOrphan d.mid q)) → (n : ℕ) × DropsSends old event new p n × (count (is_of send p) old.ledger ≤ count (is_of send p) new.ledger + n + lost old)
      by (n, is, le) (inl s) = (n, drops_still p event old d.mid new n same is, (let e = senders_kept now old d.mid d.owed new m d.settles p live in let f = s.fewer (λ x. is_of send p x && is_lost new x) in let z = none_owed in omega (arith, le, e, f, z)))
      by (n, is, le) (inr none) = (n, drops_still p event old d.mid new n same is, (let e = same_senders now old event reply new l d 0 none p live in let z = none_owed in omega (arith, le, e, z)))

-- ---- send-once rights

module _ (p : ℕ) where
  abbrev onces : State → ℕ
  onces s = count (is_of send_once p) s.ledger

  abbrev owing : Owed → ℕ
  owing owed = count (is_of send_once p) (tokens_of owed)

  -- none leaves but so many, and those that are owed a notice
  abbrev Stay : State → State → Owed → ℕ → Type 0
  Stay old mid owed t = onces old ≤ onces mid + owing owed + t

  all_unused : (xs : List Token) → owing (unused_among xs) ≡ count (is_of send_once p) xs
  all_unused [] = refl
  all_unused (x ∷ xs) = by (same_kind send_once x.kind) refl (all_unused xs)
    where
      by : (b : Bool) → same_kind send_once x.kind ≡ b → owing (unused_among xs) ≡ count (is_of send_once p) xs →
          owing (list_map (λ x. (x, right_unused)) (if b then x ∷ filter (λ x. same_kind send_once x.kind) xs else filter (λ x. same_kind send_once x.kind) xs)) ≡ count (is_of send_once p) (x ∷ xs)
      by true e h = omega (arith, h)
      by false e h = let z : (if same_kind send_once x.kind && x.port == p then suc zero else zero) ≡ zero = rw e refl in omega (arith, h, z)

  loses : (old mid : State) (test : Token → Bool) (owed : Owed) → (x : LosesAll test old.ledger mid.ledger) → owed ≡ unused_among x.gone → Stay old mid owed 0
  loses old mid test owed x is = let a = gone_less send_once p old mid x.gone x.moves in let b = all_unused x.gone in let c = ap owing is in omega (arith, a, b, c)

  by_gone : (old mid : State) (owed : Owed) (gone : List Token) → Moves old.ledger mid.ledger gone [] → count (is_of send_once p) gone ≡ 0 → Stay old mid owed 0
  by_gone old mid owed gone moves none = let a = gone_less send_once p old mid gone moves in omega (arith, a, none)

  as_it_was : (old mid changed : State) (owed : Owed) → mid ≡ changed → changed.ledger ≡ old.ledger → Stay old mid owed 0
  as_it_was old mid changed owed e same = let a = ap onces e ∙ ap (count (is_of send_once p)) same in omega (arith, a)

  once_lost : (old mid : State) (task q : ℕ) (owed : Owed) → Moves old.ledger mid.ledger (token send_once q (in_task task) ∷ []) [] → owed ≡ unused_once q task → Stay old mid owed 0
  once_lost old mid task q owed moves is = let a = gone_less send_once p old mid (token send_once q (in_task task) ∷ []) moves in let c = ap owing is in omega (arith, a, c)

  deallocates : (task name : ℕ) (old mid : State) (owed : Owed) → Deallocates task name old mid owed → Stay old mid owed 0
  deallocates task name old mid owed (inl x) = by_gone old mid owed (taken_by MoveSend (Target.port x.0) task) x.1.tokens refl
  deallocates task name old mid owed (inr (inl x)) = once_lost old mid task x.0 owed x.1.tokens x.2
  deallocates task name old mid owed (inr (inr x)) = by_gone old mid owed [] x.1.tokens refl

  -- receive and send rights are no send-once rights
  no_either : (task q : ℕ) (x : Token) → is_either task q x ≡ true → is_of send_once p x ≡ true → ⊥
  no_either task q x is once = by (or_cases (is_held task receive q x) (is_held task send q x) is)
    where
      by : (is_held task receive q x ≡ true) ⊎ (is_held task send q x ≡ true) → ⊥
      by (inl h) = let a = (of_kind receive q x (left_of (is_of receive q x) (is_in_task task x.place) h)).0 in let b = (of_kind send_once p x once).0 in let e = sym a ∙ b in cc
      by (inr h) = let a = (of_kind send q x (left_of (is_of send q x) (is_in_task task x.place) h)).0 in let b = (of_kind send_once p x once).0 in let e = sym a ∙ b in cc

  destroys : (task name : ℕ) (target : Target) (old mid : State) (owed : Owed) → DestroysTarget task name target old mid owed → Stay old mid owed 0
  destroys task name (Target.port q) old mid owed x =
      by_gone old mid owed x.0.gone x.0.moves (none_pass (λ y. is_either task q y ≡ true) (is_of send_once p) (λ y is once. no_either task q y is once) x.0.gone x.0.passed)
  destroys task name (Target.once q) old mid owed x = once_lost old mid task q owed x.0.tokens x.1
  destroys task name (Target.dead n) old mid owed x = as_it_was old mid _ owed x.0 refl
  destroys task name (Target.set s) old mid owed x = as_it_was old mid _ owed x.0 refl

  removes : (right task name : ℕ) (target : Target) (old mid : State) (owed : Owed) → RemovesRight right task name target old mid owed → Stay old mid owed 0
  removes right task name (Target.port q) old mid owed x = by_gone old mid owed (token receive q (in_task task) ∷ []) x.1.0 refl
  removes right task name (Target.once q) old mid owed x = destroys task name (Target.once q) old mid owed x.1
  removes right task name (Target.set s) old mid owed x = destroys task name (Target.set s) old mid owed x.1
  removes right task name (Target.dead n) old mid owed x = absurd x

  modifies : (task name right : ℕ) (delta : ℤ) (old mid : State) (owed : Owed) → Modifies task name right delta old mid owed → Stay old mid owed 0
  modifies task name right delta old mid owed (inl (q, k, is, found, adds, x, none)) =
      let m = x.tokens (λ x. if is_of send_once p x then 1 else 0) in
      let a = many send_once p (held old task send q - k) q (in_task task) in
      let b = many send_once p (k - held old task send q) q (in_task task) in
      omega (arith, m, a, b)
  modifies task name right delta old mid owed (inr (inl x)) = as_it_was old mid (with_dead task name x.1 old) owed x.5 (dead_ledger x.1)
    where
      dead_ledger : (n : ℕ) → (with_dead task name n old).ledger ≡ old.ledger
      dead_ledger n = grind arith
  modifies task name right delta old mid owed (inr (inr (inl x))) = as_it_was old mid old owed x.2 refl
  modifies task name right delta old mid owed (inr (inr (inr x))) = removes right task name x.0 old mid owed x.3

  no_pegged : (task q : ℕ) (s : State) → count (is_of send_once p) (pegged task q s) ≡ 0
  no_pegged task q s = grind arith

  extracts : (task name number to new_name k : ℕ) (old mid : State) (owed : Owed) → Extracts task name number to new_name k old mid → Stay old mid owed 0
  extracts task name number to new_name k old mid owed x =
      let c = copied send_once p task (in_task to) number name old (to_port x.p) x.copied x.copy in
      let g = gone_less send_once p x.copied mid (pegged to x.p x.copied) x.tokens in
      let z = no_pegged to x.p x.copied in
      omega (arith, c, g, z)

  -- ---- a message that is taken

  given_more : (k : Kind) (q task : ℕ) (place : Place) (s : State) → count (is_of send_once p) (token k q place ∷ []) ≤ count (is_of send_once p) (given_to k q task s)
  given_more receive q task place s = omega arith
  given_more send_once q task place s = omega arith
  given_more send q task place s = omega arith

  mark_more : (task : ℕ) (place : Place) (k : Kind) (mark : Mark) (old : State) (word : ℕ) (new : State) → GiveMark task place k mark old word new → onces old ≤ onces new
  mark_more task place k null old word new h = let e = ap onces h.1 in omega (arith, e)
  mark_more task place k dead old word new h = let e = ap onces h.1 in omega (arith, e)
  mark_more task place k (to_port q) old word new h = choose (old.live_port q) _ _ _
      (λ g. (let m = g.tokens (λ x. if is_of send_once p x then 1 else 0) in let l = given_more k q task place old in omega (arith, m, l))) (λ g. (let e = ap onces g.1 in omega (arith, e))) h

  words_more : (task : ℕ) (place : Place) (ws : List (ℕ × ℕ)) (old : State) (rs : List (Kind × Mark)) (new : State) → Through (GiveWord task place) old ws rs new → onces old ≤ onces new
  words_more task place [] old [] new h = let e = ap onces h in omega (arith, e)
  words_more task place (w ∷ ws) old (r ∷ rs) new h = let a = mark_more task place r.0 r.1 old w.1 h.0 h.1 in let b = words_more task place ws h.0 rs new h.2 in omega (arith, a, b)
  words_more task place [] old (r ∷ rs) new h = absurd h
  words_more task place (w ∷ ws) old [] new h = absurd h

  at_most_one : (x : Token) → count (is_of send_once p) (x ∷ []) ≤ 1
  at_most_one x = go (is_of send_once p x)
    where
      go : (b : Bool) → (if b then 1 else 0) + 0 ≤ 1
      go true = omega arith
      go false = omega arith

  receives : (task port room : ℕ) (bytes : List ℕ) (old mid : State) (owed : Owed) → Receives task port room bytes old mid → Stay old mid owed 1
  receives task port room bytes old mid owed r =
      let t = r.takes.tokens (λ x. if is_of send_once p x then 1 else 0) in
      let o = at_most_one (token r.e.message.kind port (in_message port (old.taken port))) in
      let g = words_more task (in_message port (old.taken port)) (received_words r.header r.written) r.taken (message_rights r.e.message) mid r.rights in
      omega (arith, t, o, g)

  front : (port : ℕ) (e : Entry) (old mid : State) (owed : Owed) → DestroysFront port e old mid owed → Stay old mid owed 1
  front port e old mid owed d =
      let t = d.takes.tokens (λ x. if is_of send_once p x then 1 else 0) in
      let o = at_most_one (token e.message.kind port (in_message port (old.taken port))) in
      let a = gone_less send_once p d.taken mid d.loses.gone d.loses.moves in
      let b = all_unused d.loses.gone in
      let c = ap owing d.owed_are in
      omega (arith, t, o, a, b, c)

  too_large : (old : State) (task : ℕ) (waited : Waited) (room n : ℕ) (large : Bool) (mid : State) (owed : Owed) → Receipt old task waited room large (Reply.TooLarge n) mid owed → Stay old mid owed (if large then 0 else 1)
  too_large old task waited room n true mid owed (q, e, from, is_front, is, over, what) = as_it_was old mid old owed what.0 refl
  too_large old task waited room n false mid owed (q, e, from, is_front, is, over, what) = front q e old mid owed what

  -- Each event.
  does_stay : (now : ℕ) (old : State) (event : Event) (reply : Reply) (mid : State) (owed : Owed) → Does now old event reply mid owed → Stay old mid owed (takes_from event reply)
  does_stay now old (Event.TaskTerminate task) (Reply.Code code) mid owed d = loses old mid (λ x. is_in_task task x.place) owed d.1.loses d.1.owed_are
  does_stay now old (Event.Deallocate task name) (Reply.Code code) mid owed d = deallocates task name old mid owed d.1
  does_stay now old (Event.Destroy task name) (Reply.Code code) mid owed d = destroys task name d.1.0 old mid owed d.1.2
  does_stay now old (Event.ModRefs task name right delta) (Reply.Code code) mid owed d = modifies task name right delta old mid owed d.1
  does_stay now old (Event.ExtractRight task name number to) (Reply.Right new_name k) mid owed d = extracts task name number to new_name k old mid owed d.0
  does_stay now old (Event.Receive task name room large) (Reply.Message bytes) mid owed d = receives task d.2.0 room bytes old mid owed d.2.2
  does_stay now old (Event.Receive task name room large) (Reply.Empty told) mid owed d = as_it_was old mid old owed d.2.2 refl
  does_stay now old (Event.Receive task name room large) (Reply.TooLarge n) mid owed d = too_large old task d.0 room n large mid owed d.2
  does_stay now old (Event.Receive task name room large) reply mid owed d = absurd d.2
  does_stay now old (Event.ReceiveAgain task waited room large) (Reply.Message bytes) mid owed d = receives task d.0 room bytes old mid owed d.2
  does_stay now old (Event.ReceiveAgain task waited room large) (Reply.Empty told) mid owed d = as_it_was old mid old owed d.2 refl
  does_stay now old (Event.ReceiveAgain task waited room large) (Reply.TooLarge n) mid owed d = too_large old task waited room n large mid owed d
  does_stay now old (Event.ReceiveAgain task waited room large) reply mid owed d = absurd d
  does_stay now old (Event.TaskTerminate task) reply mid owed d = absurd d
  does_stay now old (Event.Deallocate task name) reply mid owed d = absurd d
  does_stay now old (Event.Destroy task name) reply mid owed d = absurd d
  does_stay now old (Event.ModRefs task name right delta) reply mid owed d = absurd d
  does_stay now old (Event.ExtractRight task name number to) reply mid owed d = absurd d
  does_stay now old event reply mid owed d = let a = does_keep send_once p now old event reply mid owed (λ h. h) d in omega (arith, a)

-- ---- a send-once right leaves with a message of its port

module _ (p : ℕ) where
  abbrev Leave : State → State → Owed → Type 0
  Leave old mid owed = onces p old + old.taken p ≤ onces p mid + owing p owed + mid.taken p

  took : (port : ℕ) (e : Entry) (old new : State) → Takes port e old new → onces p old + old.taken p ≤ onces p new + new.taken p
  took port e old new t = by (eqb_tells p port)
    where
      m : onces p new + count (is_of send_once p) (token e.message.kind port (in_message port (old.taken port)) ∷ []) ≡ onces p old
      m = gone_less send_once p old new (token e.message.kind port (in_message port (old.taken port)) ∷ []) t.tokens

      same_port : (x : Token) → is_of send_once p x ≡ true → x.port ≡ p
      same_port x is = (of_kind send_once p x is).1

      by : ((p == port) ≡ true) × (p ≡ port) ⊎ ((p == port) ≡ false) × (p ≢ port) → onces p old + old.taken p ≤ onces p new + new.taken p
      by (inl h) =
          let k : new.taken p ≡ old.taken p + 1 = ap (λ (s : State). s.taken p) t.rest ∙ at_same old.taken port (old.taken port + 1) p h.1 ∙ ap (λ (q : ℕ). old.taken q + 1) (sym h.1) in
          let o = at_most_one p (token e.message.kind port (in_message port (old.taken port))) in
          omega (arith, m, k, o)
      by (inr h) =
          let k : new.taken p ≡ old.taken p = ap (λ (s : State). s.taken p) t.rest ∙ at_other old.taken port (old.taken port + 1) p h.1 in
          let o = count_none (is_of send_once p) (token e.message.kind port (in_message port (old.taken port)) ∷ []) (λ j x below is. none j x below is) in
          omega (arith, m, k, o)
        where
          none : (j : ℕ) (x : Token) → j < 1 → is_of send_once p (get_or (token e.message.kind port (in_message port (old.taken port)) ∷ []) j x) ≡ true → ⊥
          none zero x below is = h.1 (sym (same_port (token e.message.kind port (in_message port (old.taken port))) is))
          none (suc j) x below is = absurd (omega (arith, below))

  received : (task port room : ℕ) (bytes : List ℕ) (old mid : State) (owed : Owed) → Receives task port room bytes old mid → Leave old mid owed
  received task port room bytes old mid owed r =
      let a = took port r.e old r.taken r.takes in
      let place : Place = in_message port (old.taken port) in
      let b = words_more p task place (received_words r.header r.written) r.taken (message_rights r.e.message) mid r.rights in
      let c = words_taken p task place (received_words r.header r.written) r.taken (message_rights r.e.message) mid r.rights in
      omega (arith, a, b, c)

  destroyed : (port : ℕ) (e : Entry) (old mid : State) (owed : Owed) → DestroysFront port e old mid owed → Leave old mid owed
  destroyed port e old mid owed d =
      let t = took port e old d.taken d.takes in
      let a = gone_less send_once p d.taken mid d.loses.gone d.loses.moves in
      let b = all_unused p d.loses.gone in
      let c = ap (owing p) d.owed_are in
      let k = ap (λ (s : State). s.taken p) d.rest in
      omega (arith, t, a, b, c, k)

  -- no message is taken
  untaken : (old : State) (event : Event) (reply : Reply) (mid : State) → takes_from event reply ≡ 0 → Effect old event reply mid → mid.taken p ≡ old.taken p
  untaken old event reply mid none (inl u) = u.0.taken p
  untaken old event reply mid none (inr (inl x)) = x.taken p
  untaken old event reply mid none (inr (inr x)) = absurd (let one = x.one in omega (arith, none, one))

  still : (now : ℕ) (old : State) (event : Event) (reply : Reply) (mid : State) (owed : Owed) → IsLawful old → NoneHolds (guards old event) → takes_from event reply ≡ 0 → Does now old event reply mid owed → Leave old mid owed
  still now old event reply mid owed l g none d =
      let a = does_stay p now old event reply mid owed d in
      let b = untaken old event reply mid none (Does-effect now old event reply mid owed l g d) in
      omega (arith, a, b, none)

  -- Each event.
  does_leave : (now : ℕ) (old : State) (event : Event) (reply : Reply) (mid : State) (owed : Owed) → IsLawful old → NoneHolds (guards old event) → Does now old event reply mid owed → Leave old mid owed
  does_leave now old (Event.Receive task name room large) (Reply.Message bytes) mid owed l g d = received task d.2.0 room bytes old mid owed d.2.2
  does_leave now old (Event.Receive task name room large) (Reply.Empty told) mid owed l g d = still now old (Event.Receive task name room large) (Reply.Empty told) mid owed l g refl d
  does_leave now old (Event.Receive task name room true) (Reply.TooLarge n) mid owed l g d = still now old (Event.Receive task name room true) (Reply.TooLarge n) mid owed l g refl d
  does_leave now old (Event.Receive task name room false) (Reply.TooLarge n) mid owed l g (waited, waits, (q, e, from, is_front, is, over, what)) = destroyed q e old mid owed what
  does_leave now old (Event.Receive task name room large) reply mid owed l g d = absurd d.2
  does_leave now old (Event.ReceiveAgain task waited room large) (Reply.Message bytes) mid owed l g d = received task d.0 room bytes old mid owed d.2
  does_leave now old (Event.ReceiveAgain task waited room large) (Reply.Empty told) mid owed l g d = still now old (Event.ReceiveAgain task waited room large) (Reply.Empty told) mid owed l g refl d
  does_leave now old (Event.ReceiveAgain task waited room true) (Reply.TooLarge n) mid owed l g d = still now old (Event.ReceiveAgain task waited room true) (Reply.TooLarge n) mid owed l g refl d
  does_leave now old (Event.ReceiveAgain task waited room false) (Reply.TooLarge n) mid owed l g (q, e, from, is_front, is, over, what) = destroyed q e old mid owed what
  does_leave now old (Event.ReceiveAgain task waited room large) reply mid owed l g d = absurd d
  does_leave now old event reply mid owed l g d = still now old event reply mid owed l g refl d

-- Send-once rights of ports that live stay, but for one that a message of the port came by, which is taken.
pub onces_leave : (now : ℕ) (old : State) (event : Event) (reply : Reply) (new : State) → IsLawful old → Done now old event reply new → (p : ℕ) → new.live_port p ≡ true →
    count (is_of send_once p) old.ledger + old.taken p ≤ count (is_of send_once p) new.ledger + new.taken p
onces_leave now old event reply new l d p live =
    let a = does_leave p now old event reply d.mid d.owed l d.unrefused d.does in
    let e = once_kept now old d.mid d.owed new (Does-mid now old event reply d.mid d.owed d.unrefused d.does d.judged l) d.settles p live in
    let k = ap (λ (s : State). s.taken p) d.settles.rest in
    omega (arith, a, e, k)
