-- What a request keeps after a step's own part it kept before it, or the step's own part made the request or renamed it.
use Rattle.std.proofs.Common.{◌≡◌, ℕ, ℤ, zero, suc, ◌-◌, ◌≤◌, List, [], ◌∷◌, refl, ap, ◌∙◌, arith, true, false, Bool, inl, inr, length}
use Rattle.std.specs.Prelude.{◌≢◌, ◌⊎◌, None, if◌then◌else◌, replicate, MatchBool}
use Rattle.mach_types.specs.declared.calls.Event.{Event}
use Rattle.mach_types.specs.declared.calls.Reply.{Reply}
use Rattle.mach_types.specs.declared.calls.Waited.{Waited}
use Rattle.mach_types.specs.declared.rights.Disposition.{Disposition}
use Rattle.mach_types.specs.Numbers.{null_word, kind_sent}
use Rattle.mach_types.specs.Tokens.{Kind, receive, send, send_once, Request, Place, in_task, in_message, in_request, Token, token, count, Moves}
use Rattle.mach_types.specs.Messages.{Mark, to_port, null, dead, ReplyRight, absent, present}
use Rattle.mach_types.specs.Bodies.{Through, body_words, body_rights, message_rights}
use Rattle.mach_model.specs.State.{State, Target, lookup, held, with_name, gives}
use Rattle.mach_model.specs.Names.{Makes, JoinsSet}
use Rattle.mach_model.specs.CopyIn.{taken_by, put_by, CopyRight, CopyWord, CopyReply, CopyCarried}
use Rattle.mach_model.specs.CopyOut.{given_to, GiveMark, GiveWord}
use Rattle.mach_model.specs.Notices.{Owed}
use Rattle.mach_model.specs.References.{Modifies, with_dead}
use Rattle.mach_model.specs.Send.{place_at, Sends}
use Rattle.mach_model.specs.Transfer.{target_for, pegged, Inserts, Extracts}
use Rattle.mach_model.specs.Requests.{GivesBack, Keeps, Requests}
use Rattle.mach_model.specs.Receive.{Receives, DestroysFront, Receipt}
use Rattle.mach_model.specs.ReceivedMeans.{received_words}
use Rattle.mach_model.specs.Acts.{Does}
use Rattle.mach_laws.proofs.Shrinking.{deallocates, destroys, removes, ends, front}

-- ---- A test that passes tokens with requests alone: an event but the one that makes a request adds none.

pick : (b : Bool) (P Q R : Type 0) → (P → R) → (Q → R) → MatchBool b P Q → R
pick true P Q R f g h = f h
pick false P Q R f g h = g h

module _ (test : Token → Bool) where
  -- nothing at the place passes
  abbrev pub Off : Place → Type 0
  Off place = (kind : Kind) (p : ℕ) → test (token kind p place) ≡ false

  abbrev pub Fewer : State → State → Type 0
  Fewer old mid = count test mid.ledger ≤ count test old.ledger

  by_moves : (old mid : State) (gone come : List Token) → Moves old.ledger mid.ledger gone come → count test come ≡ 0 → Fewer old mid
  by_moves old mid gone come moves none = let m = moves (λ x. if test x then 1 else 0) in omega (arith, m, none)

  by_state : (old mid changed : State) → mid ≡ changed → changed.ledger ≡ old.ledger → Fewer old mid
  by_state old mid changed e same = let f = ap (λ (s : State). count test s.ledger) e ∙ ap (count test) same in omega (arith, f)

  one_off : (kind : Kind) (p : ℕ) (place : Place) → Off place → count test (token kind p place ∷ []) ≡ 0
  one_off kind p place off = let e : (if test (token kind p place) then suc zero else zero) ≡ zero = rw (off kind p) refl in omega (arith, e)

  many_off : (n : ℕ) (kind : Kind) (p : ℕ) (place : Place) → Off place → count test (replicate n (token kind p place)) ≡ 0
  many_off zero kind p place off = refl
  many_off (suc n) kind p place off = let a = one_off kind p place off in let h = many_off n kind p place off in omega (arith, a, h)

  -- ---- copying in

  put_off : (d : Disposition) (target : Target) (place : Place) → Off place → count test (put_by d target place) ≡ 0
  put_off d (Target.port p) place off = one_off (kind_sent d) p place off
  put_off d (Target.once p) place off = one_off (kind_sent d) p place off
  put_off d (Target.set q) place off = refl
  put_off d (Target.dead n) place off = refl

  copied : (task : ℕ) (place : Place) (number name : ℕ) (old : State) (mark : Mark) (new : State) → Off place → CopyRight task place number name old mark new → Fewer old new
  copied task place number name old mark new off c = by_moves old new (taken_by c.given c.target task) (put_by c.given c.target place) c.tokens (put_off c.given c.target place off)

  word_copied : (task : ℕ) (place : Place) (number word : ℕ) (old : State) (mark : Mark) (new : State) → Off place → CopyWord task place number word old mark new → Fewer old new
  word_copied task place number word old mark new off h = grind (arith, pick, by_state, copied)

  reply_copied : (task : ℕ) (place : Place) (number word : ℕ) (old : State) (reply : ReplyRight) (new : State) → Off place → CopyReply task place number word old reply new → Fewer old new
  reply_copied task place number word old absent new off h = by_state old new old h.2 refl
  reply_copied task place number word old (present k m) new off h = word_copied task place number word old m new off h.1

  body_copied : (task : ℕ) (place : Place) (ws : List (ℕ × ℕ)) (old : State) (rs : List (Kind × Mark)) (new : State) → Off place → Through (CopyCarried task place) old ws rs new → Fewer old new
  body_copied task place [] old [] new off h = by_state old new old h refl
  body_copied task place (w ∷ ws) old (r ∷ rs) new off h =
      let a = word_copied task place w.0 w.1 old r.1 h.0 off h.1 in let b = body_copied task place ws h.0 rs new off h.2 in omega (arith, a, b)
  body_copied task place [] old (r ∷ rs) new off h = absurd h
  body_copied task place (w ∷ ws) old [] new off h = absurd h

  module _ (task_off : (task : ℕ) → Off (in_task task)) (message_off : (q k : ℕ) → Off (in_message q k)) where
    sends : (now task : ℕ) (bytes : List ℕ) (old mid : State) → Sends now task bytes old mid → Fewer old mid
    sends now task bytes old mid s =
        let off = message_off s.m.destination (length (old.log s.m.destination)) in
        let place = place_at old s.m.destination in
        let c = s.copied in
        let a = copied task place s.header.remote_kind s.header.remote old (to_port s.m.destination) c.first off c.destination in
        let b = reply_copied task place s.header.local_kind s.header.local c.first s.m.reply c.second off c.reply in
        let d = body_copied task place (body_words s.written) c.second (body_rights s.m.body) s.copied_state off c.body.1 in
        let e = ap (λ (x : State). count test x.ledger) s.rest in
        omega (arith, a, b, d, e)

    inserts : (task name from poly number : ℕ) (old mid : State) → Inserts task name from poly number old mid → Fewer old mid
    inserts task name from poly number old mid x = by x.named
      where
        c : Fewer old x.copied
        c = copied from (in_task task) number poly old (to_port x.p) x.copied (task_off task) x.copy

        by : (lookup x.copied task name ≢ None) × (mid ≡ x.copied) ⊎ (lookup x.copied task name ≡ None) × (mid ≡ with_name task name (target_for (kind_sent x.copy.given) x.p) x.copied) → Fewer old mid
        by (inl h) = let e = ap (λ (s : State). count test s.ledger) h.1 in omega (arith, e, c)
        by (inr h) = let e = ap (λ (s : State). count test s.ledger) h.1 in omega (arith, e, c)

    extracts : (task name number to new_name kind : ℕ) (old mid : State) → Extracts task name number to new_name kind old mid → Fewer old mid
    extracts task name number to new_name kind old mid x =
        let c = copied task (in_task to) number name old (to_port x.p) x.copied (task_off to) x.copy in
        let m = by_moves x.copied mid (pegged to x.p x.copied) [] x.tokens refl in
        omega (arith, c, m)

    -- ---- copying out

    given_off : (kind : Kind) (p task : ℕ) (s : State) → count test (given_to kind p task s) ≡ 0
    given_off receive p task s = one_off receive p (in_task task) (task_off task)
    given_off send_once p task s = one_off send_once p (in_task task) (task_off task)
    given_off send p task s = grind (arith, one_off send p (in_task task) (task_off task))

    mark_given : (task : ℕ) (place : Place) (kind : Kind) (mark : Mark) (old : State) (word : ℕ) (new : State) → GiveMark task place kind mark old word new → Fewer old new
    mark_given task place kind null old word new h = by_state old new old h.1 refl
    mark_given task place kind dead old word new h = by_state old new old h.1 refl
    mark_given task place kind (to_port p) old word new h = pick (old.live_port p) _ _ _
        (λ g. by_moves old new (token kind p place ∷ []) (given_to kind p task old) g.tokens (given_off kind p task old)) (λ g. by_state old new old g.1 refl) h

    words_given : (task : ℕ) (place : Place) (ws : List (ℕ × ℕ)) (old : State) (rs : List (Kind × Mark)) (new : State) → Through (GiveWord task place) old ws rs new → Fewer old new
    words_given task place [] old [] new h = by_state old new old h refl
    words_given task place (w ∷ ws) old (r ∷ rs) new h =
        let a = mark_given task place r.0 r.1 old w.1 h.0 h.1 in let b = words_given task place ws h.0 rs new h.2 in omega (arith, a, b)
    words_given task place [] old (r ∷ rs) new h = absurd h
    words_given task place (w ∷ ws) old [] new h = absurd h

    receives : (task port room : ℕ) (bytes : List ℕ) (old mid : State) → Receives task port room bytes old mid → Fewer old mid
    receives task port room bytes old mid r =
        let t = r.takes.tokens (λ x. if test x then 1 else 0) in
        let g = words_given task (in_message port (old.taken port)) (received_words r.header r.written) r.taken (message_rights r.e.message) mid r.rights in
        omega (arith, t, g)

    large_cases : (large : Bool) (P Q : Type 0) → MatchBool large P Q → P ⊎ Q
    large_cases true P Q h = inl h
    large_cases false P Q h = inr h

    receipts : (old : State) (task : ℕ) (waited : Waited) (room : ℕ) (large : Bool) (reply : Reply) (mid : State) (owed : Owed) → Receipt old task waited room large reply mid owed → Fewer old mid
    receipts old task waited room large (Reply.Message bytes) mid owed (p, from, x, none) = receives task p room bytes old mid x
    receipts old task waited room large (Reply.Empty told) mid owed x = by_state old mid old x.2 refl
    receipts old task waited room large (Reply.TooLarge n) mid owed (p, e, from, is_front, is, over, what) = by (large_cases large _ _ what)
      where
        by : (mid ≡ old) × (owed ≡ []) ⊎ DestroysFront p e old mid owed → Fewer old mid
        by (inl h) = by_state old mid old h.0 refl
        by (inr h) = (front p e old mid owed h).fewer test
    receipts old task waited room large reply mid owed x = absurd x

    -- ---- names

    makes : (task right name : ℕ) (old mid : State) → Makes task right name old mid → Fewer old mid
    makes task right name old mid (inl x) = by_moves old mid [] (token receive old.ports_made (in_task task) ∷ []) x.1.tokens (one_off receive old.ports_made (in_task task) (task_off task))
    makes task right name old mid (inr (inl x)) = by_state old mid _ x.1 refl
    makes task right name old mid (inr (inr x)) = by_state old mid _ x.1 refl

    dead_ledger : (task name n : ℕ) (s : State) → (with_dead task name n s).ledger ≡ s.ledger
    dead_ledger task name n s = grind arith

    modifies : (task name right : ℕ) (delta : ℤ) (old mid : State) (owed : Owed) → Modifies task name right delta old mid owed → Fewer old mid
    modifies task name right delta old mid owed (inl (p, m, is, found, adds, x, none)) =
        by_moves old mid (replicate (held old task send p - m) (token send p (in_task task))) (replicate (m - held old task send p) (token send p (in_task task))) x.tokens
        (many_off (m - held old task send p) send p (in_task task) (task_off task))
    modifies task name right delta old mid owed (inr (inl x)) = by_state old mid (with_dead task name x.1 old) x.5 (dead_ledger task name x.1 old)
    modifies task name right delta old mid owed (inr (inr (inl x))) = by_state old mid old x.2 refl
    modifies task name right delta old mid owed (inr (inr (inr x))) = (removes right task name x.0 old mid owed x.3).fewer test

    joins : (task member after : ℕ) (old mid : State) → JoinsSet task member after old mid → Fewer old mid
    joins task member after old mid (p, found, inl x) = by_state old mid _ x.1 refl
    joins task member after old mid (p, found, inr x) = by_state old mid _ x.2 refl

    same : (old mid : State) → mid ≡ old → Fewer old mid
    same old mid e = by_state old mid old e refl

    -- Each event but two.
    pub does_fewer : (now : ℕ) (old : State) (event : Event) (reply : Reply) (mid : State) (owed : Owed) →
        ((task name variant sync notify number : ℕ) → ¬ (event ≡ Event.RequestNotification task name variant sync notify number)) → ((task o n : ℕ) → ¬ (event ≡ Event.Rename task o n)) →
        Does now old event reply mid owed → Fewer old mid
    does_fewer now old Event.TaskCreate (Reply.Task task) mid owed a b d = by_state old mid _ d.0.rest refl
    does_fewer now old (Event.TaskTerminate task) (Reply.Code code) mid owed a b d = (ends task old mid owed d.1).fewer test
    does_fewer now old (Event.Allocate task right) (Reply.Name name) mid owed a b d = makes task right name (gives task name old) mid d.1
    does_fewer now old (Event.AllocateName task right name) (Reply.Name told) mid owed a b d = makes task right name old mid d.1
    does_fewer now old (Event.Deallocate task name) (Reply.Code code) mid owed a b d = (deallocates task name old mid owed d.1).fewer test
    does_fewer now old (Event.Destroy task name) (Reply.Code code) mid owed a b d = (destroys task name d.1.0 old mid owed d.1.2).fewer test
    does_fewer now old (Event.ModRefs task name right delta) (Reply.Code code) mid owed a b d = modifies task name right delta old mid owed d.1
    does_fewer now old (Event.GetRefs task name right) (Reply.Refs n) mid owed a b d = same old mid d.0
    does_fewer now old (Event.NameType task name) (Reply.NameType n) mid owed a b d = same old mid d.0
    does_fewer now old (Event.Names task) (Reply.Names entries) mid owed a b d = same old mid d.0
    does_fewer now old (Event.Rename task o n) reply mid owed a b d = absurd (b task o n refl)
    does_fewer now old (Event.ReceiveStatus task name) (Reply.Status status) mid owed a b d = same old mid d.0
    does_fewer now old (Event.SetQlimit task name n) (Reply.Code code) mid owed a b d = by_state old mid _ d.1.3 refl
    does_fewer now old (Event.SetMscount task name n) (Reply.Code code) mid owed a b d = by_state old mid _ d.2.3 refl
    does_fewer now old (Event.SetSeqno task name n) (Reply.Code code) mid owed a b d = by_state old mid _ d.2.3 refl
    does_fewer now old (Event.SetStatus task name) (Reply.Members members) mid owed a b d = same old mid d.0
    does_fewer now old (Event.MoveMember task member after) (Reply.Code code) mid owed a b d = joins task member after old mid d.1
    does_fewer now old (Event.InsertMember task member set) (Reply.Code code) mid owed a b d = by_state old mid _ d.1.rest refl
    does_fewer now old (Event.ExtractMember task member set) (Reply.Code code) mid owed a b d = by_state old mid _ d.1.rest refl
    does_fewer now old (Event.InsertRight task name from poly number) (Reply.Code code) mid owed a b d = inserts task name from poly number old mid d.1
    does_fewer now old (Event.ExtractRight task name number to) (Reply.Right new_name kind) mid owed a b d = extracts task name number to new_name kind old mid d.0
    does_fewer now old (Event.RequestNotification task name variant sync notify number) reply mid owed a b d = absurd (a task name variant sync notify number refl)
    does_fewer now old (Event.Send task bytes) (Reply.Code code) mid owed a b d = sends now task bytes old mid d.1
    does_fewer now old (Event.Receive task name room large) reply mid owed a b d = receipts old task d.0 room large reply mid owed d.2
    does_fewer now old (Event.ReceiveAgain task waited room large) reply mid owed a b d = receipts old task waited room large reply mid owed d
    does_fewer now old event reply mid owed a b d = absurd d

  -- ---- a request that is made

  back_given : (task : ℕ) (request : Request) (before old : State) (name : ℕ) (new : State) → Off (in_task task) → GivesBack task request before old name new → Fewer old new
  back_given task request before old name new off (inl h) = by_state old new old h.2 refl
  back_given task request before old name new off (inr (inl h)) = by_state old new _ h.3 refl
  back_given task request before old name new off (inr (inr (q, named, stood, lies, n, m, rest))) =
      by_moves old new (token send_once q (in_request request) ∷ []) (token send_once q (in_task task) ∷ []) m (one_off send_once q (in_task task) off)

  kept_or_told : (task name sync : ℕ) (request : Request) (q : ℕ) (old mid : State) (owed : Owed) → Keeps task name sync request q old mid owed → Fewer old mid
  kept_or_told task name sync request q old mid owed (inl (p, e, none_left, m, rest, owes)) = by_moves old mid (token send_once q (in_request request) ∷ []) [] m refl
  kept_or_told task name sync request q old mid owed (inr (inl (n, e, is, m, rest, owes))) = by_moves old mid (token send_once q (in_request request) ∷ []) [] m refl
  kept_or_told task name sync request q old mid owed (inr (inr (not, other, rest, none))) = by_state old mid _ rest refl

  -- what other requests keep
  pub asks_fewer : (task name variant sync notify number previous : ℕ) (old mid : State) (owed : Owed) (r : Requests task name variant sync notify number previous old mid owed) →
      Off (in_task task) → Off (in_request r.request) → Fewer old mid
  asks_fewer task name variant sync notify number previous old mid owed r task_off request_off = by r.copy
    where
      g : Fewer r.copied r.back
      g = back_given task r.request old r.copied previous r.back task_off r.given_back

      by : (notify ≡ null_word) × (r.copied ≡ old) × (mid ≡ r.back) × (owed ≡ [])
          ⊎ (notify ≢ null_word) × ((q : ℕ) × CopyRight task (in_request r.request) number notify old (to_port q) r.copied × Keeps task name sync r.request q r.back mid owed) → Fewer old mid
      by (inl (none, e, f, owes)) = let a = by_state old r.copied old e refl in let b = by_state r.back mid r.back f refl in omega (arith, a, b, g)
      by (inr (some, (q, c, k))) =
          let a = copied task (in_request r.request) number notify old (to_port q) r.copied request_off c in let b = kept_or_told task name sync r.request q r.back mid owed k in omega (arith, a, b, g)
