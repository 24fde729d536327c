-- Calls that leave every log as it was; the bytes of a send mean messages for one port only.
use Rattle.std.proofs.Common.{◌≡◌, ℕ, ◌<◌, ◌≤◌, [], refl, ◌∙◌, arith, true, false, Bool, ◌⊎◌, inl, inr, List, Option, Some}
use Rattle.std.specs.Prelude.{ℤ, ◌≢◌, if◌then◌else◌, nat_lt}
use Rattle.mach_types.specs.declared.rights.Disposition.{Disposition}
use Rattle.mach_types.specs.declared.rights.Disposition.TheVariants.{MoveReceive, MoveSend, MoveSendOnce, MakeSend}
use Rattle.mach_types.specs.Numbers.{null_word, disposition}
use Rattle.mach_types.specs.Tokens.{send, Request, Place, in_request}
use Rattle.mach_types.specs.Messages.{Mark, to_port, Message}
use Rattle.mach_types.specs.declared.calls.Event.{Event}
use Rattle.mach_model.specs.State.{State, Target, held, at, without_name, with_name, Names}
use Rattle.mach_model.specs.CopyIn.{name_kept, changed_by, CopyRight}
use Rattle.mach_model.specs.Names.{Makes, Renames}
use Rattle.mach_model.specs.References.{Deallocates, DestroysTarget, Destroys, RemovesRight, Modifies}
use Rattle.mach_model.specs.Tasks.{EndsTask}
use Rattle.mach_model.specs.Requests.{GivesBack, Keeps, Requests}
use Rattle.mach_model.specs.Notices.{Owed}
use Rattle.mach_model.specs.Lawful.{IsLawful}
use Rattle.mach_model.proofs.Names.{at_same, at_other}
use Rattle.mach_model.specs.SentMeans.{SentMeans}
use Rattle.mach_laws.proofs.Refusals.{one_text as one_message}

-- ---- The calls on names, and those that set a port's numbers, leave every log as it was, what was taken from it, and which ports live of
-- those that were made.

pub record Untouched (old mid : State) : Type 0 where
  pub log : (p : ℕ) → mid.log p ≡ old.log p
  pub taken : (p : ℕ) → mid.taken p ≡ old.taken p
  -- a port that was made lives as before
  pub live : (p : ℕ) → p < old.ports_made → mid.live_port p ≡ old.live_port p
  pub made : old.ports_made ≤ mid.ports_made

-- a state is the other but for what touches none of these
by_rest : (old mid new : State) → mid ≡ new → ((p : ℕ) → new.log p ≡ old.log p) → ((p : ℕ) → new.taken p ≡ old.taken p) →
    ((p : ℕ) → p < old.ports_made → new.live_port p ≡ old.live_port p) → old.ports_made ≤ new.ports_made → Untouched old mid
by_rest old mid new e log taken live made = grind arith

-- no port was made
pub by_same : (old mid new : State) → mid ≡ new → ((p : ℕ) → new.log p ≡ old.log p) → ((p : ℕ) → new.taken p ≡ old.taken p) → ((p : ℕ) → new.live_port p ≡ old.live_port p) →
    new.ports_made ≡ old.ports_made → Untouched old mid
by_same old mid new e log taken live made = by_rest old mid new e log taken (λ p within. live p) (omega (arith, made))

-- ---- making: a new port's log was empty

made_log : (old : State) → IsLawful old → (p : ℕ) → at old.log old.ports_made [] p ≡ old.log p
made_log old l p = grind (arith, at_same, at_other)

made_taken : (old : State) → IsLawful old → (p : ℕ) → at old.taken old.ports_made 0 p ≡ old.taken p
made_taken old l p = grind (arith, at_same, at_other)

pub makes_untouched : (task right name : ℕ) (old mid : State) → IsLawful old → Makes task right name old mid → Untouched old mid
makes_untouched task right name old mid l (inl (is, m)) = grind (arith, by_rest, made_log, made_taken, at_other)
makes_untouched task right name old mid l (inr (inl (is, m))) = by_same old mid _ m (λ p. refl) (λ p. refl) (λ p. refl) refl
makes_untouched task right name old mid l (inr (inr (is, m))) = by_same old mid _ m (λ p. refl) (λ p. refl) (λ p. refl) refl

-- ---- losing

kept_untouched : (b : Bool) (task name : ℕ) (old mid : State) → mid ≡ record (name_kept b task name old) { ledger = mid.ledger } → Untouched old mid
kept_untouched true task name old mid e = by_same old mid _ e (λ p. refl) (λ p. refl) (λ p. refl) refl
kept_untouched false task name old mid e = by_same old mid _ e (λ p. refl) (λ p. refl) (λ p. refl) refl

fewer_untouched : (b : Bool) (task name n : ℕ) (old mid : State) → mid ≡ record (if b then with_name task name (Target.dead n) old else without_name task name old) { ledger = mid.ledger } → Untouched old mid
fewer_untouched true task name n old mid e = by_same old mid _ e (λ p. refl) (λ p. refl) (λ p. refl) refl
fewer_untouched false task name n old mid e = by_same old mid _ e (λ p. refl) (λ p. refl) (λ p. refl) refl

dead_untouched : (b : Bool) (task name n : ℕ) (old mid : State) → mid ≡ (if b then with_name task name (Target.dead n) old else without_name task name old) → Untouched old mid
dead_untouched true task name n old mid e = by_same old mid _ e (λ p. refl) (λ p. refl) (λ p. refl) refl
dead_untouched false task name n old mid e = by_same old mid _ e (λ p. refl) (λ p. refl) (λ p. refl) refl

pub deallocates_untouched : (task name : ℕ) (old mid : State) (owed : Owed) → Deallocates task name old mid owed → Untouched old mid
deallocates_untouched task name old mid owed (inl (p, d, owes)) = grind (arith, kept_untouched)
deallocates_untouched task name old mid owed (inr (inl (p, d, owes))) = kept_untouched false task name old mid d.rest
deallocates_untouched task name old mid owed (inr (inr (n, d, owes))) = fewer_untouched (nat_lt 1 n) task name _ old mid d.rest

target_untouched : (task name : ℕ) (target : Target) (old mid : State) (owed : Owed) → DestroysTarget task name target old mid owed → Untouched old mid
target_untouched task name (Target.port p) old mid owed d = kept_untouched false task name old mid d.1
target_untouched task name (Target.once p) old mid owed d = kept_untouched false task name old mid d.0.rest
target_untouched task name (Target.dead n) old mid owed d = by_same old mid _ d.0 (λ p. refl) (λ p. refl) (λ p. refl) refl
target_untouched task name (Target.set set) old mid owed d = by_same old mid _ d.0 (λ p. refl) (λ p. refl) (λ p. refl) refl

pub destroys_untouched : (task name : ℕ) (old mid : State) (owed : Owed) → Destroys task name old mid owed → Untouched old mid
destroys_untouched task name old mid owed (target, is, d) = target_untouched task name target old mid owed d

removes_untouched : (task name right : ℕ) (target : Target) (old mid : State) (owed : Owed) → RemovesRight right task name target old mid owed → Untouched old mid
removes_untouched task name right (Target.port p) old mid owed d = kept_untouched (nat_lt 0 (held old task send p)) task name old mid d.1.1
removes_untouched task name right (Target.once p) old mid owed d = target_untouched task name (Target.once p) old mid owed d.1
removes_untouched task name right (Target.set set) old mid owed d = target_untouched task name (Target.set set) old mid owed d.1
removes_untouched task name right (Target.dead n) old mid owed d = absurd d

pub modifies_untouched : (task name right : ℕ) (delta : ℤ) (old mid : State) (owed : Owed) → Modifies task name right delta old mid owed → Untouched old mid
modifies_untouched task name right delta old mid owed (inl (p, m, is_send, is, adds, d, owes)) = grind (arith, kept_untouched)
modifies_untouched task name right delta old mid owed (inr (inl (n, m, is_dead, is, adds, rest, owes))) = dead_untouched (nat_lt 0 m) task name m old mid rest
modifies_untouched task name right delta old mid owed (inr (inr (inl (uncounted, none, rest, owes)))) = by_same old mid old rest (λ p. refl) (λ p. refl) (λ p. refl) refl
modifies_untouched task name right delta old mid owed (inr (inr (inr (target, one, is, d)))) = removes_untouched task name right target old mid owed d

-- ---- renaming

pub renames_untouched : (task o n : ℕ) (old mid : State) → Renames task o n old mid → Untouched old mid
renames_untouched task o n old mid r = by_same old mid _ r.rest (λ p. refl) (λ p. refl) (λ p. refl) refl

-- ---- the end of a task

pub ends_untouched : (task : ℕ) (old mid : State) (owed : Owed) → EndsTask task old mid owed → Untouched old mid
ends_untouched task old mid owed e = by_same old mid _ e.rest (λ p. refl) (λ p. refl) (λ p. refl) refl

-- ---- requests

Untouched-trans : (a b c : State) → Untouched a b → Untouched b c → Untouched a c
Untouched-trans a b c f g = record {
  log = λ p. g.log p ∙ f.log p;
  taken = λ p. g.taken p ∙ f.taken p;
  live = λ p within. g.live p (let h = f.made in omega (arith, h, within)) ∙ f.live p within;
  made = let h = f.made in let i = g.made in omega (arith, h, i);
}

same_untouched : (old mid : State) → mid ≡ old → Untouched old mid
same_untouched old mid e = by_same old mid old e (λ p. refl) (λ p. refl) (λ p. refl) refl

received_untouched : (b : Bool) (task name p : ℕ) (old mid : State) →
    mid ≡ record (name_kept b task name old) { sets_of = at old.sets_of p []; make_send = at old.make_send p 0; sequence = at old.sequence p 0; ledger = mid.ledger } → Untouched old mid
received_untouched true task name p old mid e = by_same old mid _ e (λ p. refl) (λ p. refl) (λ p. refl) refl
received_untouched false task name p old mid e = by_same old mid _ e (λ p. refl) (λ p. refl) (λ p. refl) refl

changed_untouched : (d : Disposition) (target : Target) (task name : ℕ) (old mid : State) → mid ≡ record (changed_by d target task name old) { ledger = mid.ledger } → Untouched old mid
changed_untouched MoveReceive (Target.port p) task name old mid e = received_untouched (nat_lt 0 (held old task send p)) task name p old mid e
changed_untouched MoveSend (Target.port p) task name old mid e = grind (arith, kept_untouched)
changed_untouched MakeSend (Target.port p) task name old mid e = by_same old mid _ e (λ p. refl) (λ p. refl) (λ p. refl) refl
changed_untouched MoveSendOnce (Target.once p) task name old mid e = kept_untouched false task name old mid e
changed_untouched MoveSend (Target.dead n) task name old mid e = fewer_untouched (nat_lt 1 n) task name _ old mid e
changed_untouched MoveSendOnce (Target.dead n) task name old mid e = fewer_untouched (nat_lt 1 n) task name _ old mid e
changed_untouched d target task name old mid e = kept_untouched true task name old mid e

copies_untouched : (task : ℕ) (place : Place) (number name : ℕ) (old : State) (mark : Mark) (new : State) → CopyRight task place number name old mark new → Untouched old new
copies_untouched task place number name old mark new r = changed_untouched r.given r.target task name old new r.rest

gives_untouched : (task : ℕ) (r : Request) (before old : State) (name : ℕ) (new : State) → GivesBack task r before old name new → Untouched old new
gives_untouched task r before old name new (inl (stands, null, same)) = same_untouched old new same
gives_untouched task r before old name new (inr (inl (stands, none, dead, rest))) = by_same old new _ rest (λ p. refl) (λ p. refl) (λ p. refl) refl
gives_untouched task r before old name new (inr (inr (q, named, stands, lies, n, moves, rest))) = grind (arith, by_same)

keeps_untouched : (task name sync : ℕ) (r : Request) (q : ℕ) (old mid : State) (owed : Owed) → Keeps task name sync r q old mid owed → Untouched old mid
keeps_untouched task name sync r q old mid owed (inl (p, is, has, spends, rest, owes)) = by_same old mid _ rest (λ p. refl) (λ p. refl) (λ p. refl) refl
keeps_untouched task name sync r q old mid owed (inr (inl (n, is, found, spends, rest, owes))) = by_same old mid _ rest (λ p. refl) (λ p. refl) (λ p. refl) refl
keeps_untouched task name sync r q old mid owed (inr (inr (senders, live, rest, owes))) = by_same old mid _ rest (λ p. refl) (λ p. refl) (λ p. refl) refl

pub requests_untouched : (task name variant sync notify number previous : ℕ) (old mid : State) (owed : Owed) → Requests task name variant sync notify number previous old mid owed → Untouched old mid
requests_untouched task name variant sync notify number previous old mid owed x = by x.copy
  where
    back : Untouched x.copied x.back
    back = gives_untouched task x.request old x.copied previous x.back x.given_back

    by : (notify ≡ null_word) × (x.copied ≡ old) × (mid ≡ x.back) × (owed ≡ [])
        ⊎ (notify ≢ null_word) × ((q : ℕ) × CopyRight task (in_request x.request) number notify old (to_port q) x.copied × Keeps task name sync x.request q x.back mid owed) → Untouched old mid
    by (inl (null, same, rest, none)) = Untouched-trans old x.copied mid (same_untouched old x.copied same) (Untouched-trans x.copied x.back mid back (same_untouched x.back mid rest))
    by (inr (some, (q, copy, keeps))) =
        Untouched-trans old x.copied mid (copies_untouched task (in_request x.request) number notify old (to_port q) x.copied copy)
        (Untouched-trans x.copied x.back mid back (keeps_untouched task name sync x.request q x.back mid owed keeps))

-- ---- The bytes of a send mean messages for one port only.

same_given : (number : ℕ) (a b : Disposition) → disposition number ≡ Some a → disposition number ≡ Some b → a ≡ b
same_given number a b e f = grind arith

same_port : (o : Option Mark) (p q : ℕ) → o ≡ Some (to_port p) → o ≡ Some (to_port q) → p ≡ q
same_port o p q e f = grind arith

pub one_destination : (names : Names) (bytes : List ℕ) (m n : Message) → SentMeans names bytes m → SentMeans names bytes n → m.destination ≡ n.destination
one_destination names bytes m n a b = grind (arith, one_message, same_given, same_port)

pub same_send : (task other : ℕ) (bytes others : List ℕ) → Event.Send task bytes ≡ Event.Send other others → (task ≡ other) × (bytes ≡ others)
same_send task other bytes others e = (cc, cc)
