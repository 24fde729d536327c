-- The end of a step takes no more turns than there was to do before the step, and no fewer than ports died in it.
use Rattle.std.proofs.Common.{◌≡◌, ℕ, ℤ, zero, suc, ◌+◌, ◌≤◌, ◌<◌, ◌-◌, List, [], ◌∷◌, refl, sym, ap, subst, ◌∙◌, arith, true, false, Bool, inl, inr, length}
use Rattle.std.specs.Prelude.{◌≢◌, ◌⊎◌, ◌==◌, ◌&&◌, Some, if◌then◌else◌, not, replicate, MatchBool, nat_lt}
use Rattle.std.proofs.lemmas.Bool.{false_from_ne_true}
use Rattle.mach_types.specs.declared.calls.Event.{Event}
use Rattle.mach_types.specs.declared.calls.Reply.{Reply}
use Rattle.mach_types.specs.declared.calls.Waited.{Waited}
use Rattle.mach_types.specs.declared.rights.Disposition.{Disposition}
use Rattle.mach_types.specs.declared.rights.Disposition.TheVariants.{MoveSendOnce, MakeSendOnce}
use Rattle.mach_types.specs.Guards.{NoneHolds}
use Rattle.mach_types.specs.Numbers.{disposition, null_word}
use Rattle.mach_types.specs.Tokens.{Kind, receive, send, send_once, Place, in_task, in_message, in_request, Request, port_destroyed, Token, token, weigh, count, is_of, is_in_task, is_held, Moves}
use Rattle.mach_types.specs.Messages.{Mark, to_port, null, dead, ReplyRight, absent, present, Entry}
use Rattle.mach_types.specs.Bodies.{Through}
use Rattle.mach_model.specs.State.{State, Target, queue, with_name, without_name, gives}
use Rattle.mach_model.specs.Death.{Dies, IsOrphan, IsSentAway}
use Rattle.mach_model.specs.Notices.{Owed}
use Rattle.mach_model.specs.Settles.{Settles}
use Rattle.mach_model.specs.CopyIn.{IsLegal, name_kept, changed_by, taken_by, put_by, CopyRight, CopyWord, CopyReply, CopyCarried}
use Rattle.mach_model.specs.CopyOut.{given_to, NamedFor, GiveRight, GiveMark, GiveWord}
use Rattle.mach_model.specs.Send.{Sends}
use Rattle.mach_model.specs.Receive.{Takes, DestroysFront, Receipt}
use Rattle.mach_model.specs.Names.{JoinsSet, Makes, Renames}
use Rattle.mach_model.specs.References.{LosesOne, Deallocates, DestroysTarget, RemovesRight, Modifies, unused_among as unused_of}
use Rattle.mach_model.specs.Transfer.{Inserts, Extracts}
use Rattle.mach_model.specs.Requests.{GivesBack, Keeps, Requests}
use Rattle.mach_model.specs.Refusals.{guards}
use Rattle.mach_model.specs.Machine.{Done}
use Rattle.mach_model.specs.Acts.{Does}
use Rattle.mach_model.specs.Lawful.{tally, IsLawful}
use Rattle.mach_model.specs.Midway.{MidLawful}
use Rattle.mach_model.specs.Work.{number, total, work_in, has_died, deaths, destroyed_with, is_spent_at, is_spent, IsBounded}
use Rattle.mach_model.proofs.Names.{left_of, right_of, count_le, length-weigh}
use Rattle.mach_model.proofs.StepReceives.{Does-receives}
use Rattle.mach_model.proofs.StepLawful.{Does-mid}
use Rattle.mach_model.proofs.TurnsSettle.{dies_unsaved}
use Rattle.mach_laws.specs.Counts.{accepts}
use Rattle.mach_laws.proofs.Steps.{Effect, Does-effect}
use Rattle.mach_model.proofs.TurnsBounded.{total_fewer, total_zero, total_both, number_same, one_at, owed_at}
use Rattle.mach_model.proofs.NamesLawful.{gives-lawful}
use Rattle.mach_laws.proofs.Counted.{queue_long}
use Rattle.mach_laws.proofs.Slots.{none_dies}

-- ---- sums over ports

total_none : (f : ℕ → ℕ) (n : ℕ) → ((p : ℕ) → f p ≡ 0) → total f n ≡ 0
total_none f zero none = refl
total_none f (suc n) none = let a = total_none f n none in let b = none n in omega (arith, a, b)

number_fewer : (f : ℕ → Bool) (g : ℕ → ℕ) (n : ℕ) → ((p : ℕ) → p < n → (if f p then 1 else 0) ≤ g p) → number f n ≤ total g n
number_fewer f g zero fewer = omega arith
number_fewer f g (suc n) fewer = let a = number_fewer f g n (λ p within. fewer p (omega (arith, within))) in let b = fewer n (omega arith) in omega (arith, a, b)

-- of more numbers no fewer pass
number_more : (f : ℕ → Bool) (n k : ℕ) → number f n ≤ number f (n + k)
number_more f n zero = let e : n + zero ≡ n = omega arith in rw e (omega arith)
number_more f n (suc k) = let e : n + suc k ≡ suc (n + k) = omega arith in let a = number_more f n k in rw e (omega (arith, a))

three_totals : (f g : ℕ → Bool) (h i j : ℕ → ℕ) (n : ℕ) → ((p : ℕ) → (if f p then 1 else 0) + (if g p then 1 else 0) + h p ≤ i p + j p) → number f n + number g n + total h n ≤ total i n + total j n
three_totals f g h i j zero each = omega arith
three_totals f g h i j (suc n) each = let a = three_totals f g h i j n each in let b = each n in omega (arith, a, b)

-- each right is for one port
rights_at : (test : Kind) (xs : List Token) (n : ℕ) → total (λ p. count (is_of test p) xs) n ≤ length xs
rights_at test [] n = let a = total_zero n in omega (arith, a)
rights_at test (x ∷ xs) n =
    let a = total_both (λ p. if is_of test p x then 1 else 0) (λ p. count (is_of test p) xs) n in
    let b = total_fewer (λ p. if is_of test p x then 1 else 0) (λ p. if x.port == p then 1 else 0) n (λ p within. grind arith) in
    let c = one_at x.port n in let d = rights_at test xs n in omega (arith, a, b, c, d)

-- ---- what a step's own part leaves

-- Two ways: no port is made, and rights, with those that are owed a notice, are no more than before; or each port has its receive right, and
-- the rights that requests keep are no more than all before.

abbrev rights : State → ℕ
rights s = weigh (λ x. 1) s.ledger

abbrev is_kept_at : Place → Bool
is_kept_at (in_task task) = false
is_kept_at (in_message q k) = false
is_kept_at (in_request request) = true

abbrev is_kept : Token → Bool
is_kept x = is_kept_at x.place

abbrev kept : State → ℕ
kept s = count is_kept s.ledger

kept_all : (xs : List Token) → count is_kept xs ≤ weigh (λ x. 1) xs
kept_all [] = omega arith
kept_all (x ∷ xs) = let a = kept_all xs in let b : (if is_kept x then suc zero else zero) ≤ 1 = grind arith in omega (arith, a, b)

record Lost (old mid : State) (owed : Owed) : Type 0 where
  made : mid.ports_made ≡ old.ports_made
  fewer : rights mid + length owed ≤ rights old

record Kept (old mid : State) : Type 0 where
  received : (p : ℕ) → ¬ (IsOrphan mid p)
  few : kept mid ≤ rights old

-- ---- rights are lost

same_ledger : (old mid changed : State) (owed : Owed) → mid ≡ changed → changed.ledger ≡ old.ledger → changed.ports_made ≡ old.ports_made → owed ≡ [] → Lost old mid owed
same_ledger old mid changed owed e ledger made none = grind arith

made_kept : (b : Bool) (task name : ℕ) (old : State) → (name_kept b task name old).ports_made ≡ old.ports_made
made_kept true task name old = refl
made_kept false task name old = refl

changed_made : (d : Disposition) (target : Target) (task name : ℕ) (old : State) → (changed_by d target task name old).ports_made ≡ old.ports_made
changed_made d target task name old = grind (arith, made_kept)

changed_live : (d : Disposition) (target : Target) (task name : ℕ) (old : State) → (changed_by d target task name old).live_port ≡ old.live_port
changed_live d target task name old = grind arith

one_lost : (task name : ℕ) (d : Disposition) (target : Target) (old mid : State) (owed : Owed) → LosesOne task name d target old mid → length owed ≤ length (taken_by d target task) → Lost old mid owed
one_lost task name d target old mid owed x few = grind (arith, changed_made, length-weigh)

unused_few : (xs : List Token) → length (unused_of xs) ≤ length xs
unused_few [] = omega arith
unused_few (x ∷ xs) = grind (arith, unused_few xs)

all_lost : (old mid : State) (gone : List Token) (owed : Owed) → mid.ports_made ≡ old.ports_made → Moves old.ledger mid.ledger gone [] → length owed ≤ length gone → Lost old mid owed
all_lost old mid gone owed made moves few = record { made = made; fewer = let m = moves (λ y. 1) in let a = length-weigh gone in omega (arith, m, a, few) }

target_lost : (task name : ℕ) (target : Target) (old mid : State) (owed : Owed) → DestroysTarget task name target old mid owed → Lost old mid owed
target_lost task name (Target.port p) old mid owed x = grind (arith, all_lost)
target_lost task name (Target.once p) old mid owed x = one_lost task name _ _ old mid owed x.0 (let a : length owed ≡ 1 = ap length x.1 in omega (arith, a))
target_lost task name (Target.dead n) old mid owed x = same_ledger old mid _ owed x.0 refl refl x.1
target_lost task name (Target.set s) old mid owed x = same_ledger old mid _ owed x.0 refl refl x.1

deallocates_lost : (task name : ℕ) (old mid : State) (owed : Owed) → Deallocates task name old mid owed → Lost old mid owed
deallocates_lost task name old mid owed (inl x) = one_lost task name _ _ old mid owed x.1 (let a : length owed ≡ 0 = ap length x.2 in omega (arith, a))
deallocates_lost task name old mid owed (inr (inl x)) = one_lost task name _ _ old mid owed x.1 (let a : length owed ≡ 1 = ap length x.2 in omega (arith, a))
deallocates_lost task name old mid owed (inr (inr x)) = one_lost task name _ _ old mid owed x.1 (let a : length owed ≡ 0 = ap length x.2 in omega (arith, a))

removes_lost : (right task name : ℕ) (target : Target) (old mid : State) (owed : Owed) → RemovesRight right task name target old mid owed → Lost old mid owed
removes_lost right task name (Target.port p) old mid owed x = grind (arith, all_lost, made_kept)
removes_lost right task name (Target.once p) old mid owed x = target_lost task name (Target.once p) old mid owed x.1
removes_lost right task name (Target.set s) old mid owed x = target_lost task name (Target.set s) old mid owed x.1
removes_lost right task name (Target.dead n) old mid owed x = absurd x

joins_lost : (task member after : ℕ) (old mid : State) (owed : Owed) → JoinsSet task member after old mid → owed ≡ [] → Lost old mid owed
joins_lost task member after old mid owed (p, found, inl x) none = same_ledger old mid _ owed x.1 refl refl none
joins_lost task member after old mid owed (p, found, inr x) none = same_ledger old mid _ owed x.2 refl refl none

renames_lost : (task o n : ℕ) (old mid : State) (owed : Owed) → Renames task o n old mid → owed ≡ [] → Lost old mid owed
renames_lost task o n old mid owed x none = grind arith

-- ---- receipts

given_few : (kind : Kind) (p task : ℕ) (s : State) → length (given_to kind p task s) ≤ 1
given_few receive p task s = omega arith
given_few send_once p task s = omega arith
given_few send p task s = grind arith

pick : (b : Bool) (P Q R : Type 0) → (P → R) → (Q → R) → MatchBool b P Q → R
pick true P Q R f g h = f h
pick false P Q R f g h = g h

-- rights are no more, and ports as many
record Gives (old new : State) : Type 0 where
  made : new.ports_made ≡ old.ports_made
  fewer : rights new ≤ rights old

gives_same : (old new : State) → new ≡ old → Gives old new
gives_same old new e = record { made = ap (λ (s : State). s.ports_made) e; fewer = let a = ap rights e in omega (arith, a) }

named_made : (kind : Kind) (task name p : ℕ) (old new : State) → NamedFor kind task name p old new → new.ports_made ≡ old.ports_made
named_made receive task name p old new (inl x) = ap (λ (s : State). s.ports_made) x.1
named_made receive task name p old new (inr x) = ap (λ (s : State). s.ports_made) x.1.rest
named_made send task name p old new (inl x) = ap (λ (s : State). s.ports_made) x.1
named_made send task name p old new (inr x) = ap (λ (s : State). s.ports_made) x.1.rest
named_made send_once task name p old new x = ap (λ (s : State). s.ports_made) x.rest

right_gives : (task : ℕ) (place : Place) (kind : Kind) (p : ℕ) (old : State) (name : ℕ) (new : State) → GiveRight task place kind p old name new → Gives old new
right_gives task place kind p old name new x = grind (arith, named_made, given_few, length-weigh)

mark_gives : (task : ℕ) (place : Place) (kind : Kind) (mark : Mark) (old : State) (word : ℕ) (new : State) → GiveMark task place kind mark old word new → Gives old new
mark_gives task place kind null old word new h = gives_same old new h.1
mark_gives task place kind dead old word new h = gives_same old new h.1
mark_gives task place kind (to_port p) old word new h = grind (arith, pick, right_gives, gives_same)

words_give : (task : ℕ) (place : Place) (ws : List (ℕ × ℕ)) (old : State) (rs : List (Kind × Mark)) (new : State) → Through (GiveWord task place) old ws rs new → Gives old new
words_give task place [] old [] new h = gives_same old new h
words_give task place (w ∷ ws) old (r ∷ rs) new h = grind (arith, words_give task place ws h.0 rs new h.2, mark_gives)
words_give task place [] old (r ∷ rs) new h = absurd h
words_give task place (w ∷ ws) old [] new h = absurd h

takes_gives : (port : ℕ) (e : Entry) (old mid : State) → Takes port e old mid → Gives old mid
takes_gives port e old mid x = record { made = ap (λ (s : State). s.ports_made) x.rest; fewer = let m = x.tokens (λ y. 1) in omega (arith, m) }

front_lost : (port : ℕ) (e : Entry) (old mid : State) (owed : Owed) → DestroysFront port e old mid owed → Lost old mid owed
front_lost port e old mid owed x = grind (arith, takes_gives, all_lost, unused_few)

receipt_lost : (old : State) (task : ℕ) (waited : Waited) (room : ℕ) (large : Bool) (reply : Reply) (mid : State) (owed : Owed) → Receipt old task waited room large reply mid owed → Lost old mid owed
receipt_lost old task waited room large (Reply.Message bytes) mid owed (p, from, x, none) = grind (arith, takes_gives, words_give)
receipt_lost old task waited room large (Reply.Empty told) mid owed x = same_ledger old mid old owed x.2 refl refl x.3
receipt_lost old task waited room large (Reply.TooLarge n) mid owed (p, e, from, front, is, over, what) = grind (arith, pick, same_ledger, front_lost)
receipt_lost old task waited room large reply mid owed x = absurd x

-- ---- rights that requests keep: no more of them

put_kept : (d : Disposition) (target : Target) (place : Place) → is_kept_at place ≡ false → count is_kept (put_by d target place) ≡ 0
put_kept d (Target.port p) place none = rw none refl
put_kept d (Target.once p) place none = rw none refl
put_kept d (Target.dead n) place none = refl
put_kept d (Target.set s) place none = refl

copy_kept : (task : ℕ) (place : Place) (number name : ℕ) (old : State) (mark : Mark) (new : State) → is_kept_at place ≡ false → CopyRight task place number name old mark new → kept new ≤ kept old
copy_kept task place number name old mark new none x = grind (arith, put_kept)

same_kept : (old new : State) → new ≡ old → kept new ≤ kept old
same_kept old new e = let a = ap kept e in omega (arith, a)

word_kept : (task : ℕ) (place : Place) (number word : ℕ) (old : State) (mark : Mark) (new : State) → is_kept_at place ≡ false → CopyWord task place number word old mark new → kept new ≤ kept old
word_kept task place number word old mark new none = grind (arith, pick, same_kept, copy_kept)

reply_kept : (task : ℕ) (place : Place) (number word : ℕ) (old : State) (reply : ReplyRight) (new : State) → is_kept_at place ≡ false → CopyReply task place number word old reply new → kept new ≤ kept old
reply_kept task place number word old absent new none h = same_kept old new h.2
reply_kept task place number word old (present kind mark) new none h = word_kept task place number word old mark new none h.1

words_kept : (task : ℕ) (place : Place) (ws : List (ℕ × ℕ)) (old : State) (rs : List (Kind × Mark)) (new : State) → is_kept_at place ≡ false → Through (CopyCarried task place) old ws rs new → kept new ≤ kept old
words_kept task place [] old [] new none h = same_kept old new h
words_kept task place (w ∷ ws) old (r ∷ rs) new none h = grind (arith, words_kept task place ws h.0 rs new none h.2, word_kept)
words_kept task place [] old (r ∷ rs) new none h = absurd h
words_kept task place (w ∷ ws) old [] new none h = absurd h

sends_kept : (now task : ℕ) (bytes : List ℕ) (old mid : State) → Sends now task bytes old mid → kept mid ≤ kept old
sends_kept now task bytes old mid x = grind (arith, copy_kept, reply_kept, words_kept)

inserts_kept : (task name from poly number : ℕ) (old mid : State) → Inserts task name from poly number old mid → kept mid ≤ kept old
inserts_kept task name from poly number old mid x = grind (arith, copy_kept from (in_task task) number poly old (to_port x.p) x.copied refl x.copy)

extracts_kept : (task name number to new_name kind : ℕ) (old mid : State) → Extracts task name number to new_name kind old mid → kept mid ≤ kept old
extracts_kept task name number to new_name kind old mid x = grind (arith, copy_kept)

many_sends : (n p task : ℕ) → count is_kept (replicate n (token send p (in_task task))) ≡ 0
many_sends zero p task = refl
many_sends (suc n) p task = let h = many_sends n p task in omega (arith, h)

-- ---- a request for a notice

-- receive rights and the ports that live are the same
record Same (old new : State) : Type 0 where
  live : new.live_port ≡ old.live_port
  receives : (p : ℕ) → count (is_of receive p) new.ledger ≡ count (is_of receive p) old.ledger

same_trans : (a b c : State) → Same a b → Same b c → Same a c
same_trans a b c x y = record { live = y.live ∙ x.live; receives = λ p. y.receives p ∙ x.receives p }

same_as : (old new : State) → new ≡ old → Same old new
same_as old new e = record { live = ap (λ (s : State). s.live_port) e; receives = λ p. ap (λ (s : State). count (is_of receive p) s.ledger) e }

-- the right was a task's, or the task has the receive right
kept_and_held : (task p : ℕ) (xs : List Token) → count is_kept xs + count (is_held task receive p) xs ≤ weigh (λ x. 1) xs
kept_and_held task p [] = omega arith
kept_and_held task p (x ∷ xs) =
    let rest = kept_and_held task p xs in let one = go (is_of receive p x) x.place in omega (arith, rest, one)
  where
    go : (b : Bool) (place : Place) → (if is_kept_at place then suc zero else zero) + (if b && is_in_task task place then suc zero else zero) ≤ 1
    go b (in_task t) = grind arith
    go b (in_message q k) = grind arith
    go b (in_request r) = grind arith

-- The right that is copied in is a send-once right.
is_once : (number : ℕ) (d : Disposition) → ¬ (¬ (number ≡ 18) × ¬ (number ≡ 21)) → disposition number ≡ Some d → (d ≡ MoveSendOnce) ⊎ (d ≡ MakeSendOnce)
is_once number d right is = grind arith

abbrev Noted : State → State → Type 0
Noted old new = (kept new ≤ rights old) × ((p : ℕ) → count (is_of receive p) new.ledger ≡ count (is_of receive p) old.ledger)

moved_few : (target : Target) (task : ℕ) (place : Place) (old new : State) → IsLegal old task MoveSendOnce target →
    Moves old.ledger new.ledger (taken_by MoveSendOnce target task) (put_by MoveSendOnce target place) → Noted old new
moved_few (Target.once p) task place old new legal moves = grind (arith, kept_all)
moved_few (Target.dead n) task place old new legal moves = grind (arith, kept_all)
moved_few (Target.port p) task place old new legal moves = absurd legal
moved_few (Target.set s) task place old new legal moves = absurd legal

made_few : (target : Target) (task : ℕ) (place : Place) (old new : State) → IsLegal old task MakeSendOnce target →
    Moves old.ledger new.ledger (taken_by MakeSendOnce target task) (put_by MakeSendOnce target place) → Noted old new
made_few (Target.port p) task place old new legal moves = (
  let m = moves (λ x. if is_kept x then 1 else 0) in let a = kept_and_held task p old.ledger in let b : (if is_kept_at place then suc zero else zero) ≤ 1 = grind arith in omega (arith, m, a, b, legal),
  λ q. (let m = moves (λ x. if is_of receive q x then 1 else 0) in omega (arith, m)),
)
made_few (Target.once p) task place old new legal moves = absurd legal
made_few (Target.dead n) task place old new legal moves = absurd legal
made_few (Target.set s) task place old new legal moves = absurd legal

once_few : (d : Disposition) (target : Target) (task : ℕ) (place : Place) (old new : State) → (d ≡ MoveSendOnce) ⊎ (d ≡ MakeSendOnce) → IsLegal old task d target →
    Moves old.ledger new.ledger (taken_by d target task) (put_by d target place) → Noted old new
once_few d target task place old new (inl e) legal moves = moved_few target task place old new (subst (λ (c : Disposition). IsLegal old task c target) e legal)
    (subst (λ (c : Disposition). Moves old.ledger new.ledger (taken_by c target task) (put_by c target place)) e moves)
once_few d target task place old new (inr e) legal moves = made_few target task place old new (subst (λ (c : Disposition). IsLegal old task c target) e legal)
    (subst (λ (c : Disposition). Moves old.ledger new.ledger (taken_by c target task) (put_by c target place)) e moves)

back_same : (task : ℕ) (request : Request) (before old : State) (name : ℕ) (new : State) → GivesBack task request before old name new → Same old new × (kept new ≤ kept old)
back_same task request before old name new (inl h) = (same_as old new h.2, same_kept old new h.2)
back_same task request before old name new (inr (inl h)) = grind arith
back_same task request before old name new (inr (inr h)) = grind arith

keeps_same : (task name sync : ℕ) (request : Request) (q : ℕ) (old mid : State) (owed : Owed) → Keeps task name sync request q old mid owed → Same old mid × (kept mid ≤ kept old)
keeps_same task name sync request q old mid owed (inl h) = grind arith
keeps_same task name sync request q old mid owed (inr (inl h)) = grind arith
keeps_same task name sync request q old mid owed (inr (inr h)) = grind arith

still_received : (old mid : State) → IsLawful old → Same old mid → (p : ℕ) → ¬ (IsOrphan mid p)
still_received old mid l x p o = let a = l.one_receive p (sym (ap (λ (f : ℕ → Bool). f p) x.live) ∙ o.0) in let b = x.receives p in let c = o.1 in omega (arith, a, b, c)

requests_kept : (task name variant sync notify number previous : ℕ) (old mid : State) (owed : Owed) → IsLawful old → ¬ ((notify ≢ null_word) × ¬ (number ≡ 18) × ¬ (number ≡ 21)) →
    Requests task name variant sync notify number previous old mid owed → Kept old mid
requests_kept task name variant sync notify number previous old mid owed l right x = go x.copy
  where
    back : Same x.copied x.back × (kept x.back ≤ kept x.copied)
    back = back_same task x.request old x.copied previous x.back x.given_back

    go : (notify ≡ null_word) × (x.copied ≡ old) × (mid ≡ x.back) × (owed ≡ [])
        ⊎ (notify ≢ null_word) × ((q : ℕ) × CopyRight task (in_request x.request) number notify old (to_port q) x.copied × Keeps task name sync x.request q x.back mid owed) → Kept old mid
    go (inl (none, same, is, nothing)) = record {
      received = still_received old mid l (same_trans old x.copied mid (same_as old x.copied same) (same_trans x.copied x.back mid back.0 (same_as x.back mid is)));
      few = let a = back.1 in let b = same_kept old x.copied same in let c = same_kept x.back mid is in let d = kept_all old.ledger in omega (arith, a, b, c, d);
    }
    go (inr (some, (q, copy, keeps))) =
        let once = is_once number copy.given (λ h. right (some, h.0, h.1)) copy.is_given in
        let noted = once_few copy.given copy.target task (in_request x.request) old x.copied once copy.legal copy.tokens in
        let live : x.copied.live_port ≡ old.live_port = ap (λ (s : State). s.live_port) copy.rest ∙ changed_live copy.given copy.target task notify old in
        let last = keeps_same task name sync x.request q x.back mid owed keeps in
        record {
          received = still_received old mid l (same_trans old x.copied mid (record { live = live; receives = noted.1 }) (same_trans x.copied x.back mid back.0 last.0));
          few = let a = back.1 in let b = noted.0 in let c = last.1 in omega (arith, a, b, c);
        }

-- ---- each call

abbrev Leaves : (old : State) (event : Event) (reply : Reply) (mid : State) (owed : Owed) → Type 0
Leaves old event reply mid owed = (accepts event reply ≡ 0) × Lost old mid owed ⊎ Kept old mid

module _ (now : ℕ) (old : State) (mid : State) (owed : Owed) (l : IsLawful old) where
  makes_leave : (event : Event) (reply : Reply) → accepts event reply ≡ 0 → ((p : ℕ) → ¬ (IsOrphan mid p)) → (task right name : ℕ) → Makes task right name old mid → owed ≡ [] → Leaves old event reply mid owed
  makes_leave event reply unsent received task right name (inl x) none = grind (arith, kept_all)
  makes_leave event reply unsent received task right name (inr (inl x)) none = inl (unsent, same_ledger old mid _ owed x.1 refl refl none)
  makes_leave event reply unsent received task right name (inr (inr x)) none = inl (unsent, same_ledger old mid _ owed x.1 refl refl none)

  held_kept : ((p : ℕ) → ¬ (IsOrphan mid p)) → kept mid ≤ kept old → Kept old mid
  held_kept received few = record { received = received; few = let a = kept_all old.ledger in omega (arith, few, a) }

with_dead_lost : (b : Bool) (task name n : ℕ) (old mid : State) (owed : Owed) → mid ≡ (if b then with_name task name (Target.dead n) old else without_name task name old) → owed ≡ [] → Lost old mid owed
with_dead_lost true task name n old mid owed e none = same_ledger old mid _ owed e refl refl none
with_dead_lost false task name n old mid owed e none = same_ledger old mid _ owed e refl refl none

modifies_leave : (now : ℕ) (old : State) (task name right : ℕ) (delta : ℤ) (code : ℕ) (mid : State) (owed : Owed) → IsLawful old → NoneHolds (guards old (Event.ModRefs task name right delta)) → code ≡ 0 →
    Modifies task name right delta old mid owed → Leaves old (Event.ModRefs task name right delta) (Reply.Code code) mid owed
modifies_leave now old task name right delta code mid owed l g is (inl x) = grind (arith, many_sends, kept_all)
modifies_leave now old task name right delta code mid owed l g is (inr (inl x)) = inl (refl, with_dead_lost (nat_lt 0 x.1) task name x.1 old mid owed x.5 x.6)
modifies_leave now old task name right delta code mid owed l g is (inr (inr (inl x))) = inl (refl, same_ledger old mid old owed x.2 refl refl x.3)
modifies_leave now old task name right delta code mid owed l g is (inr (inr (inr x))) = inl (refl, removes_lost right task name x.0 old mid owed x.3)

fresh_leave : (now : ℕ) (old mid : State) (owed : Owed) → IsLawful old → (event : Event) (reply : Reply) → accepts event reply ≡ 0 → ((p : ℕ) → ¬ (IsOrphan mid p)) → (task right name : ℕ) →
    Makes task right name (gives task name old) mid → owed ≡ [] → Leaves old event reply mid owed
fresh_leave now old mid owed l event reply unsent received task right name m none =
    elim (makes_leave now (gives task name old) mid owed (gives-lawful task name old l) event reply unsent received task right name m none) [
      | inl x ↦ inl (x.0, record { made = x.1.made; fewer = x.1.fewer })
      | inr x ↦ inr (record { received = x.received; few = x.few })
    ]

Does-leaves : (now : ℕ) (old : State) (event : Event) (reply : Reply) (mid : State) (owed : Owed) → IsLawful old → NoneHolds (guards old event) → Does now old event reply mid owed →
    Leaves old event reply mid owed
Does-leaves now old Event.TaskCreate (Reply.Task task) mid owed l g d = inl (refl, same_ledger old mid _ owed d.0.rest refl refl d.1)
Does-leaves now old (Event.TaskTerminate task) (Reply.Code code) mid owed l g d =
    inl (refl, all_lost old mid d.1.loses.gone owed (ap (λ (s : State). s.ports_made) d.1.rest) d.1.loses.moves (let a = ap length d.1.owed_are in let b = unused_few d.1.loses.gone in omega (arith, a, b)))
Does-leaves now old (Event.Allocate task right) (Reply.Name name) mid owed l g d =
    fresh_leave now old mid owed l (Event.Allocate task right) (Reply.Name name) refl (Does-receives now old (Event.Allocate task right) (Reply.Name name) mid owed tt g d l) task right name d.1 d.2
Does-leaves now old (Event.AllocateName task right name) (Reply.Name told) mid owed l g d =
    makes_leave now old mid owed l (Event.AllocateName task right name) (Reply.Name told) refl (Does-receives now old (Event.AllocateName task right name) (Reply.Name told) mid owed tt g d l) task right name d.1 d.2
Does-leaves now old (Event.Deallocate task name) (Reply.Code code) mid owed l g d = inl (refl, deallocates_lost task name old mid owed d.1)
Does-leaves now old (Event.Destroy task name) (Reply.Code code) mid owed l g d = inl (refl, target_lost task name d.1.0 old mid owed d.1.2)
Does-leaves now old (Event.ModRefs task name right delta) (Reply.Code code) mid owed l g d = modifies_leave now old task name right delta code mid owed l g d.0 d.1
Does-leaves now old (Event.GetRefs task name right) (Reply.Refs n) mid owed l g d = inl (refl, same_ledger old mid old owed d.0 refl refl d.1)
Does-leaves now old (Event.NameType task name) (Reply.NameType n) mid owed l g d = inl (refl, same_ledger old mid old owed d.0 refl refl d.1)
Does-leaves now old (Event.Names task) (Reply.Names entries) mid owed l g d = inl (refl, same_ledger old mid old owed d.0 refl refl d.1)
Does-leaves now old (Event.Rename task o n) (Reply.Code code) mid owed l g d = inl (refl, renames_lost task o n old mid owed d.1 d.2)
Does-leaves now old (Event.ReceiveStatus task name) (Reply.Status status) mid owed l g d = inl (refl, same_ledger old mid old owed d.0 refl refl d.1)
Does-leaves now old (Event.SetQlimit task name n) (Reply.Code code) mid owed l g d = inl (refl, same_ledger old mid _ owed d.1.3 refl refl d.2)
Does-leaves now old (Event.SetMscount task name n) (Reply.Code code) mid owed l g d = inl (refl, same_ledger old mid _ owed d.2.3 refl refl d.3)
Does-leaves now old (Event.SetSeqno task name n) (Reply.Code code) mid owed l g d = inl (refl, same_ledger old mid _ owed d.2.3 refl refl d.3)
Does-leaves now old (Event.SetStatus task name) (Reply.Members members) mid owed l g d = inl (refl, same_ledger old mid old owed d.0 refl refl d.1)
Does-leaves now old (Event.MoveMember task member after) (Reply.Code code) mid owed l g d = inl (refl, joins_lost task member after old mid owed d.1 d.2)
Does-leaves now old (Event.InsertMember task member set) (Reply.Code code) mid owed l g d = inl (refl, same_ledger old mid _ owed d.1.rest refl refl d.2)
Does-leaves now old (Event.ExtractMember task member set) (Reply.Code code) mid owed l g d = inl (refl, same_ledger old mid _ owed d.1.rest refl refl d.2)
Does-leaves now old (Event.InsertRight task name from poly number) (Reply.Code code) mid owed l g d =
    inr (held_kept now old mid owed l (Does-receives now old (Event.InsertRight task name from poly number) (Reply.Code code) mid owed tt g d l) (inserts_kept task name from poly number old mid d.1))
Does-leaves now old (Event.ExtractRight task name number to) (Reply.Right new_name kind) mid owed l g d =
    inr (held_kept now old mid owed l (Does-receives now old (Event.ExtractRight task name number to) (Reply.Right new_name kind) mid owed tt g d l) (extracts_kept task name number to new_name kind old mid d.0))
Does-leaves now old (Event.RequestNotification task name variant sync notify number) (Reply.Previous previous) mid owed l g d =
    inr (requests_kept task name variant sync notify number previous old mid owed l (λ h. g.1.0 (inr (inl h))) d)
Does-leaves now old (Event.Send task bytes) (Reply.Code code) mid owed l g d =
    inr (held_kept now old mid owed l (Does-receives now old (Event.Send task bytes) (Reply.Code code) mid owed tt g d l) (sends_kept now task bytes old mid d.1))
Does-leaves now old (Event.Receive task name room large) (Reply.Message bytes) mid owed l g d = inl (refl, receipt_lost old task d.0 room large (Reply.Message bytes) mid owed d.2)
Does-leaves now old (Event.Receive task name room large) (Reply.Empty told) mid owed l g d = inl (refl, receipt_lost old task d.0 room large (Reply.Empty told) mid owed d.2)
Does-leaves now old (Event.Receive task name room large) (Reply.TooLarge n) mid owed l g d = inl (refl, receipt_lost old task d.0 room large (Reply.TooLarge n) mid owed d.2)
Does-leaves now old (Event.Receive task name room large) reply mid owed l g d = absurd d.2
Does-leaves now old (Event.ReceiveAgain task waited room large) (Reply.Message bytes) mid owed l g d = inl (refl, receipt_lost old task waited room large (Reply.Message bytes) mid owed d)
Does-leaves now old (Event.ReceiveAgain task waited room large) (Reply.Empty told) mid owed l g d = inl (refl, receipt_lost old task waited room large (Reply.Empty told) mid owed d)
Does-leaves now old (Event.ReceiveAgain task waited room large) (Reply.TooLarge n) mid owed l g d = inl (refl, receipt_lost old task waited room large (Reply.TooLarge n) mid owed d)
Does-leaves now old (Event.ReceiveAgain task waited room large) reply mid owed l g d = absurd d
Does-leaves now old event reply mid owed l g d = absurd d

-- ---- ports of a step: what lives and waits, before and after its own part

-- a port that lives, and the messages that wait at it
abbrev work_at : State → ℕ → ℕ
work_at s p = if s.live_port p then 1 + length (queue s p) else 0

module _ (now : ℕ) (old : State) (event : Event) (reply : Reply) (mid : State) (owed : Owed) (l : IsLawful old) (m : MidLawful mid owed) where
  fewer_at : (p : ℕ) → mid.log p ≡ old.log p → old.taken p ≤ mid.taken p → mid.live_port p ≡ old.live_port p → work_at mid p ≤ work_at old p
  fewer_at p log taken live = grind (arith, queue_long)

  fewer_work : Effect old event reply mid → accepts event reply ≡ 0 → (p : ℕ) → p < old.ports_made → work_at mid p ≤ work_at old p
  fewer_work (inl u) none p within = fewer_at p (u.0.log p) (let a = u.0.taken p in omega (arith, a)) (u.0.live p within)
  fewer_work (inr (inl x)) none p within = grind arith
  fewer_work (inr (inr x)) none p within = grind (arith, fewer_at)

  -- the own part ends no port, and may make one
  lived : Effect old event reply mid → (old.ports_made ≤ mid.ports_made) × ((p : ℕ) → p < old.ports_made → mid.live_port p ≡ old.live_port p)
  lived (inl u) = (u.0.made, u.0.live)
  lived (inr (inl x)) = (let a = x.made in omega (arith, a), λ p within. ap (λ (live : ℕ → Bool). live p) x.live)
  lived (inr (inr x)) = (let a = x.made in omega (arith, a), λ p within. ap (λ (live : ℕ → Bool). live p) x.live)

-- ---- the end of a step

module _ (now : ℕ) (old mid : State) (owed : Owed) (new : State) (l : MidLawful mid owed) (s : Settles now old mid owed new) where
  died_dies : (p : ℕ) → has_died mid new p ≡ true → Dies mid p
  died_dies p h = grind (arith, left_of, right_of)

  sent_lived : (p : ℕ) → IsSentAway mid p → mid.live_port p ≡ true
  sent_lived p away = l.stands_on (port_destroyed p) away.0.stands

  module _ (is_sent : ℕ → Bool) (sent : (p : ℕ) → is_sent p ≡ true → IsSentAway mid p) where
    -- A port dies with what waits at it, or is sent away, or neither.
    port_work : (p : ℕ) → (if has_died mid new p then 1 else 0) + (if is_sent p then 1 else 0) + (if has_died mid new p then length (queue mid p) + tally (λ y. y.0.port == p) owed else 0)
        ≤ work_at mid p + tally (λ y. y.0.port == p) owed
    port_work p = grind (arith, dies_unsaved, sent_lived)

    all_work : deaths mid new + number is_sent mid.ports_made + destroyed_with mid owed new ≤ total (work_at mid) mid.ports_made + length owed
    all_work = grind (arith, three_totals (has_died mid new) is_sent (λ p. if has_died mid new p then length (queue mid p) + tally (λ y. y.0.port == p) owed else 0) (work_at mid) (λ p. tally (λ y. y.0.port == p) owed) mid.ports_made port_work, owed_at owed mid.ports_made)

    -- where each port has its receive right
    module _ (received : (p : ℕ) → ¬ (IsOrphan mid p)) where
      none_died : (p : ℕ) → has_died mid new p ≡ false
      none_died p = false_from_ne_true (has_died mid new p) (λ h. none_dies now old mid owed new l s received p (died_dies p h))

      none_sent : (p : ℕ) → is_sent p ≡ false
      none_sent p = false_from_ne_true (is_sent p) (λ h. go (sent p h))
        where
          go : IsSentAway mid p → ⊥
          go (saved, inl o) = received p o
          go (saved, inr (q, d, at)) = none_dies now old mid owed new l s received q d

      spent_kept : (port : ℕ) (place : Place) → is_spent_at mid new port place ≡ true → is_kept_at place ≡ true
      spent_kept port (in_task task) h = absurd (cc)
      spent_kept port (in_message q k) h = absurd (let a = left_of (has_died mid new q) (not (has_died mid new port)) h in let b = none_died q in cc)
      spent_kept port (in_request request) h = refl

      few_kept : deaths mid new + number is_sent mid.ports_made + destroyed_with mid owed new + count (is_spent mid new) mid.ledger ≤ kept mid
      few_kept = grind (arith, three_totals, none_died, none_sent, total_none, count_le, spent_kept)

all_counted : (test : Token → Bool) (xs : List Token) → count test xs ≤ weigh (λ x. 1) xs
all_counted test [] = omega arith
all_counted test (x ∷ xs) = let a = all_counted test xs in let b : (if test x then suc zero else zero) ≤ 1 = grind arith in omega (arith, a, b)

module _ (now : ℕ) (old : State) (event : Event) (reply : Reply) (new : State) (l : IsLawful old) (d : Done now old event reply new) where
  midway : MidLawful d.mid d.owed
  midway = Does-mid now old event reply d.mid d.owed d.unrefused d.does d.judged l

  effect : Effect old event reply d.mid
  effect = Does-effect now old event reply d.mid d.owed l d.unrefused d.does

  -- Whoever dies in the step, dies at its end.
  pub same_deaths : deaths old new ≤ deaths d.mid new
  same_deaths =
      let w = lived now old event reply d.mid d.owed l midway effect in
      let a = number_same (has_died old new) (has_died d.mid new) old.ports_made (λ p within. let e = w.1 p within in rw e refl) in
      let c = number_more (has_died d.mid new) old.ports_made (d.mid.ports_made - old.ports_made) in
      let made = w.0 in
      let e : old.ports_made + (d.mid.ports_made - old.ports_made) ≡ d.mid.ports_made = omega (arith, made) in
      let f = ap (number (has_died d.mid new)) e in
      omega (arith, a, c, f)

  module _ (turns : ℕ) (b : IsBounded d.mid d.owed new turns) where
    by : Leaves old event reply d.mid d.owed → turns ≤ work_in old
    by (inl (unsent, x)) = grind (arith, all_work now old d.mid d.owed new midway d.settles b.is_sent b.sent, all_counted (is_spent d.mid new) d.mid.ledger, total_fewer (work_at d.mid) (work_at old) old.ports_made (fewer_work now old event reply d.mid d.owed l midway effect unsent), b.most, x.fewer, length-weigh old.ledger)
    by (inr x) = grind (arith, few_kept now old d.mid d.owed new midway d.settles b.is_sent b.sent x.received, b.most, x.few, length-weigh old.ledger)

    -- The end of a step takes no more turns than there were rights, ports that live and messages queued at them before the step.
    pub few_turns : turns ≤ work_in old
    few_turns = by (Does-leaves now old event reply d.mid d.owed l d.unrefused d.does)

-- No more ports die than there were rights: each that lives has a receive right.
pub few_deaths : (old new : State) → IsLawful old → deaths old new ≤ length old.ledger
few_deaths old new l =
    let a = number_fewer (has_died old new) (λ p. count (is_of receive p) old.ledger) old.ports_made (λ p within. one p (old.live_port p) (new.live_port p) refl refl) in
    let b = rights_at receive old.ledger old.ports_made in omega (arith, a, b)
  where
    one : (p : ℕ) (b c : Bool) → old.live_port p ≡ b → new.live_port p ≡ c → (if has_died old new p then 1 else 0) ≤ count (is_of receive p) old.ledger
    one p true c live e = let a = l.one_receive p live in let b : (if has_died old new p then 1 else 0) ≤ 1 = grind arith in omega (arith, a, b)
    one p false c live e = rw live (omega arith)
