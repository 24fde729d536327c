-- Steps by which ports die or are sent away while requests stand, in the example runs.
use Rattle.std.proofs.Common.{◌≡◌, ℕ, ◌<◌, ◌≤◌, List, [], ◌∷◌, ◌++◌, Some, refl, sym, ap, subst, ◌∙◌, arith, true, false, Bool, inl, inr, length, None, rules, ◌⊎◌, ◌+◌}
use Rattle.std.specs.Prelude.{if◌then◌else◌, ◌==◌, ◌&&◌, filter, slice_get, Any, not, option_map, map as list_map, max, All}
use Rattle.std.proofs.lemmas.List.{append-nil, length-append, map-append, length-map}
use Rattle.std.proofs.lemmas.List.Elements.{All-cons, All-pop, All-head, All-tail}
use Rattle.std.proofs.lemmas.Bool.Decides.{eqb_tells}
use Rattle.std.proofs.lemmas.Bool.{eq-eqb, ne_eqb}
use Rattle.std.specs.FinMap.{gets}
use Rattle.std.specs.FinMap as map
use Rattle.mach_types.specs.declared.calls.Event.{Event}
use Rattle.mach_types.specs.declared.calls.Reply.{Reply}
use Rattle.mach_types.specs.Guards.{NoneHolds}
use Rattle.mach_types.specs.Tokens.{Kind, receive, send, send_once, no_senders, dead_name, Place, in_task, in_message, in_request, Token, token, weigh, Moves, is_of, Request, count, port_destroyed, is_in_task}
use Rattle.mach_types.specs.Messages.{Entry, short, to_port}
use Rattle.mach_types.specs.declared.calls.Waited.{Waited}
use Rattle.mach_types.specs.declared.rights.Disposition.{Disposition}
use Rattle.mach_types.specs.Numbers.{disposition, most_names, most_rights}
use Rattle.mach_types.specs.declared.rights.Disposition.TheVariants.{MoveSendOnce}
use Rattle.mach_types.specs.Grammar.{WireBody, port_item}
use Rattle.mach_model.specs.State.{State, at, lookup, Target, IsFresh, senders, same_request, request_at, Holds, queue, without_name, opening_in}
use Rattle.mach_model.specs.Death.{same_place, IsOrphan, IsSaved}
use Rattle.mach_model.specs.Notices.{Notice, notice_message, carried_by, Owed, Posted, port_sent}
use Rattle.mach_model.specs.Settles.{Settles, NamesSettle, settled_target}
use Rattle.mach_model.specs.Refusals.{guards}
use Rattle.mach_model.specs.Machine.{Step, Run, Judged, RunIn}
use Rattle.mach_model.specs.Acts.{Does}
use Rattle.mach_model.specs.Lawful.{IsLawful, IsRight}
use Rattle.mach_model.specs.Midway.{MidLawful}
use Rattle.mach_model.proofs.Names.{at_other, at_own}
use Rattle.mach_model.proofs.Settling.{KeepsSenders, no_death, never_sent, named_lives, once_lives, mid_settles, same_target, place_refl, kept_set, nothing_ends, stays_with, is_at, calm_settles}
use Rattle.mach_model.proofs.SettledLawful.{settled_lawful}
use Rattle.mach_model.proofs.Midway.{NoRequests, calm_lawful, NoneCarried}
use Rattle.mach_model.proofs.StepLawful.{Does-mid, IsCalm, Quietly, still, same_rights}
use Rattle.mach_model.specs.Carried.{lying}
use Rattle.mach_model.specs.CopyIn.{IsLegal, CopyRight}
use Rattle.mach_model.specs.Requests.{Requests}
use Rattle.mach_model.specs.RequestRefusals.{IsVariant, noted_guards}
use Rattle.mach_model.specs.Turns.{Ending, has_ended, outcome, listed, is_among, lives_after, is_judged, IsFound, AreJudged, IsAtDoomed, IsRequestOf, IsReached, turns, IsDone, begins}
use Rattle.mach_model.proofs.SettledReceives.{place_is, and_false, or_left}
use Rattle.mach_model.specs.Tasks.{ends_with, is_owner, EndsTask}
use Rattle.mach_model.specs.References.{LosesAll}
use Rattle.mach_model.proofs.TurnsSettle.{end_of}
use Rattle.mach_model.proofs.TurnsMade.{doom, doom_is, save, save_is, lose, lose_is, end_request, end_is, bury, bury_is, tell, tell_is, start, start_is}
use Rattle.mach_model.proofs.TurnsCounted.{one_all}
use Rattle.mach_model.proofs.TurnsBounded.{turns_end}
use Rattle.mach_model.specs.CopyOut.{GiveWord}
use Rattle.mach_model.specs.Receive.{Receives}
use Rattle.mach_laws.proofs.Playing.{Plays, with_inserted, fresh_one, fresh_next, send_inserted, used, with_receive, with_extracted, without_front, spelled, one_word, port_allocated, once_extracted, receives, type_told, one_port, s1, first, there}
use Rattle.mach_laws.proofs.Gathering.{b4, fourth, b2, b3, second, third}
use Rattle.mach_laws.specs.SendingAway.{port_sent_text, sending_away_events, sending_away_replies}
use Rattle.mach_laws.specs.Paths.{Stage, PathBy}
use Rattle.mach_laws.specs.Headline.{Headline}
use Rattle.mach_laws.specs.Queued.{queued, unused_onces, MakesAsNeeded, MakesSlots, SlotsWithin}
use Rattle.mach_laws.specs.JudgedPaths.{JudgedPath}
use Rattle.mach_laws.proofs.Steps.{path_runs, path_push}
use Rattle.mach_laws.proofs.Promised.{path_headline}
use Rattle.mach_types.specs.declared.profiles.Profile.{Profile}

-- ---- Steps that tell at once: the step's own part loses one right, which is owed a notice, and leaves all else lawful.

-- the notice's entry
abbrev pub notice_entry : (now port : ℕ) → Notice → Entry
notice_entry now p notice = record { origin = now; message = notice_message p notice }

-- the notice at the end of its port's log, with the right that it goes by
abbrev pub with_notice : (now port : ℕ) → Notice → State → State
with_notice now p notice s = record s {
  log = at s.log p (s.log p ++ notice_entry now p notice ∷ []);
  ledger = token send_once p (in_message p (length (s.log p))) ∷ s.ledger;
}

last_at : {A : Type 0} (xs : List A) (y : A) → slice_get (xs ++ y ∷ []) (length xs) ≡ Some y
last_at [] y = refl
last_at (x ∷ xs) y = last_at xs y

module _ (now : ℕ) (old mid : State) (kind : Kind) (p : ℕ) (place : Place) (notice : Notice) (l : IsLawful mid) (keeps : KeepsSenders old mid) (live : mid.live_port p ≡ true)
    (brings : (place : Place) → carried_by notice place ≡ []) where
  abbrev owes : Owed
  owes = (token kind p place, notice) ∷ []

  abbrev new : State
  new = with_notice now p notice mid

  abbrev stood : Posted
  stood = record { port = p; entry = length (mid.log p); notice = notice }

  log_other : (q : ℕ) → ¬ (q ≡ p) → new.log q ≡ mid.log q
  log_other q not = at_other mid.log p (mid.log p ++ notice_entry now p notice ∷ []) q not

  log_own : new.log p ≡ mid.log p ++ notice_entry now p notice ∷ []
  log_own = at_own mid.log p (mid.log p ++ notice_entry now p notice ∷ [])

  logs : (q : ℕ) → (added : List Entry) × (new.log q ≡ mid.log q ++ added) × (length added ≡ length (filter (λ (x : Posted). x.port == q) (stood ∷ [])))
  logs q = elim (eqb_tells q p) [
    | inl h ↦ (notice_entry now p notice ∷ [], subst (λ (r : ℕ). new.log r ≡ mid.log r ++ notice_entry now p notice ∷ []) (sym h.1) log_own, rw (eq-eqb p q (sym h.1)) refl)
    | inr h ↦ ([], log_other q h.1 ∙ sym (append-nil (mid.log q)), rw (ne_eqb p q (λ e. h.1 (sym e))) refl)
  ]

  cover : (q k : ℕ) → length (mid.log q) ≤ k → k < length (new.log q) → Any (λ (x : Posted). (x.port ≡ q) × (x.entry ≡ k)) (stood ∷ [])
  cover q k above below = grind (arith, log_own, length-append, log_other)

  abbrev Stands : Posted → Type 0
  Stands x = (length (mid.log x.port) ≤ x.entry) × (slice_get (new.log x.port) x.entry ≡ Some record { origin = now; message = notice_message x.port x.notice })

  pub owed_settles : Settles now old mid owes new
  owed_settles = record {
    deaths = record { dies = λ q d. absurd (no_death mid l q d); only = λ q a b. absurd (cc); gone_before = λ q h. h };
    rights = record {
      staying = mid.ledger;
      paying = [];
      going = [];
      parts = λ h. omega arith;
      stay = stays_with mid l;
      pay = λ k d below. absurd (omega arith);
      go = λ k d below. absurd (omega arith);
    };
    notices = record {
      posted = stood ∷ [];
      due = rw live refl;
      ledger = λ h. (let e = ap (λ (xs : List Token). weigh h (xs ++ [])) (brings (in_message p (length (mid.log p)))) in omega (arith, e));
      logs = logs;
      stand = All-cons Stands stood [] (omega arith, ap (λ (xs : List Entry). slice_get xs (length (mid.log p))) log_own ∙ last_at (mid.log p) (notice_entry now p notice)) (λ k d below. absurd (omega arith));
      cover = cover;
    };
    names = λ task name. same_target mid new task name (lookup mid task name) (named_lives mid l task name) (once_lives mid l task name);
    requests = record {
      ended = λ r stands ends. absurd (nothing_ends old mid new l keeps (λ q. refl) (λ q. omega arith) r stands ends);
      only = λ r stands gone. absurd (cc);
      unmade = λ r h. h;
    };
    ports = record {
      is_sent = λ q. false;
      sent = λ q is. absurd (never_sent mid l q is);
      sent_only = λ q e. absurd (cc);
      sets_of = λ q. kept_set (mid.live_port q) (mid.sets_of q) (l.no_sets q);
      make_send = λ q. refl;
      sequence = λ q. refl;
    };
    rest = refl;
  }

-- ---- such a step

-- what is owed may be left out of what is true midway
unowed : (s : State) (owed : Owed) → MidLawful s owed → MidLawful s []
unowed s owed m = grind arith

-- a send-once right of a task goes
pub loses_once : {old mid : State} → IsCalm old → (p task : ℕ) → Moves old.ledger mid.ledger (token send_once p (in_task task) ∷ []) [] → mid.live_port ≡ old.live_port → NoRequests mid.stands → Quietly old mid
loses_once {old} {mid} l p task moves live stands = record {
  live = λ q e. sym (ap (λ (f : ℕ → Bool). f q) live) ∙ e;
  receives = λ q. let m = moves (λ x. if is_of receive q x then 1 else 0) in omega (arith, m);
  carried = λ o k q. let m = moves (λ x. if is_of receive q x && same_place (in_message o k) x.place then 1 else 0) in let z = l.quiet.none_carried o k q in omega (arith, m, z);
  kept = λ kind q r. let m = moves (λ x. if is_of kind q x && same_place (in_request r) x.place then 1 else 0) in omega (arith, m);
  none_stands = stands;
}

pub keeps_rights : {old mid : State} → IsCalm old → Moves old.ledger mid.ledger [] [] → mid.live_port ≡ old.live_port → NoRequests mid.stands → Quietly old mid
keeps_rights {old} {mid} l moves live stands = same_rights old l.lawful l.quiet mid moves live stands

-- An event that no guard refuses does its part, and the one right that is owed a notice tells it.
pub tells : {now : ℕ} {old mid : State} {event : Event} {reply : Reply} (kind : Kind) (p : ℕ) (place : Place) (notice : Notice) → IsCalm old → NoneHolds (guards old event) →
    (does : Does now old event reply mid ((token kind p place, notice) ∷ [])) → Judged now old event reply mid ((token kind p place, notice) ∷ []) does → Quietly old mid → mid.live_port p ≡ true → ((place : Place) → carried_by notice place ≡ []) →
    Plays now old event reply (with_notice now p notice mid)
tells {now} {old} {mid} {event} {reply} kind p place notice l good does judged q live brings =
    let owed : Owed = (token kind p place, notice) ∷ [] in
    let m = Does-mid now old event reply mid owed good does judged l.lawful in
    let lawful = calm_lawful mid (unowed mid owed m) (λ r lives. q.receives r ∙ l.one_receive r (q.live r lives))
    (λ t n ended k r. let a = q.kept k r (dead_name t n) in let b = l.ended (dead_name t n) (l.quiet.none_stands (dead_name t n)) k r in omega (arith, a, b)) in
    let settles = owed_settles now old mid kind p place notice lawful (λ r stands some. absurd (let e = q.none_stands (no_senders r) in cc)) live brings in (
      inr (record { performed = record { mid = mid; owed = owed; does = does; settles = settles }; unrefused = good; judged = judged }),
      record {
        lawful = settled_lawful now old mid owed (with_notice now p notice mid) m settles;
        quiet = record { none_carried = λ o k r. let z = q.carried o k r in omega (arith, z); none_stands = q.none_stands };
      },
    )

-- ---- a step by which only a send right goes, and nothing is owed

pub loses_send : {old mid : State} → IsCalm old → (p : ℕ) (place : Place) → Moves old.ledger mid.ledger (token send p place ∷ []) [] → mid.live_port ≡ old.live_port → NoRequests mid.stands → Quietly old mid
loses_send {old} {mid} l p place moves live stands = record {
  live = λ q e. sym (ap (λ (f : ℕ → Bool). f q) live) ∙ e;
  receives = λ q. let m = moves (λ x. if is_of receive q x then 1 else 0) in omega (arith, m);
  carried = λ o k q. let m = moves (λ x. if is_of receive q x && same_place (in_message o k) x.place then 1 else 0) in let z = l.quiet.none_carried o k q in omega (arith, m, z);
  kept = λ kind q r. let m = moves (λ x. if is_of kind q x && same_place (in_request r) x.place then 1 else 0) in omega (arith, m);
  none_stands = stands;
}

pub passes : {now : ℕ} {old new : State} {event : Event} {reply : Reply} → IsCalm old → NoneHolds (guards old event) →
    (does : Does now old event reply new []) → Judged now old event reply new [] does → Quietly old new → Plays now old event reply new
passes {now} {old} {new} {event} {reply} l good does judged q =
    let m = still old new [] l.lawful l.quiet refl (Does-mid now old event reply new [] good does judged l.lawful) q in
    (inr (record { performed = record { mid = new; owed = []; does = does; settles = mid_settles now old new [] m }; unrefused = good; judged = judged }), record { lawful = m.lawful; quiet = m.quiet })

-- ---- Two tasks with a port each, of which the first has a send right for the second's port.

abbrev pub x5 : State
x5 = with_inserted 0 2 1 1 1 b4

other_found : lookup b4 1 1 ≡ Some (Target.port 1)
other_found = grind (gets, rules)

two_unused : lookup b4 0 2 ≡ None
two_unused = grind (gets, rules)

pub fifth : Plays 4 b4 (Event.InsertRight 0 2 1 1 20) (Reply.Code 0) x5
fifth = send_inserted fourth.1 refl 1 refl other_found (omega arith) two_unused (omega arith) (omega arith) refl (grind (gets, rules)) (omega arith) (omega arith)

-- each task's own port, and the other's
pub own_named : lookup x5 0 1 ≡ Some (Target.port 0)
own_named = grind (gets, rules)

pub sender_named : lookup x5 0 2 ≡ Some (Target.port 1)
sender_named = grind (gets, rules)

pub other_named : lookup x5 1 1 ≡ Some (Target.port 1)
other_named = grind (gets, rules)

pub three_fresh : IsFresh (x5.naming 0) 3
three_fresh = fresh_next (Target.port 1) (fresh_next (Target.port 0) fresh_one two_unused) (grind (gets, rules))

-- ---- States in which one request stands: the step that makes it, looks meanwhile, and what is left once it has ended.

-- ---- the request is made

-- The notify right can be copied in, and the variant is one that there is.
pub asks_well : (s : State) (task name variant sync notify number : ℕ) (d : Disposition) (target : Target) → s.live_task task ≡ true → IsVariant variant → (variant ≡ 69 → sync ≡ 0) →
    (number ≡ 18) ⊎ (number ≡ 21) → disposition number ≡ Some d → lookup s task notify ≡ Some target → IsLegal s task d target → IsRight (Some target) →
    NoneHolds (guards s (Event.RequestNotification task name variant sync notify number))
asks_well s task name variant sync notify number d target lives is_variant no_sync given is_given found legal right = grind arith

-- what is judged when the notify right is copied in: of a name of a port, to be told of its death
pub name_noted : (before copied : State) (task name sync notify p : ℕ) → lookup copied task name ≡ Some (Target.port p) → length copied.ledger ≤ most_rights → map.len (copied.naming task) < most_names →
    NoneHolds (noted_guards before copied task name 72 sync notify)
name_noted before copied task name sync notify p found few room = grind (arith, used)

-- and of a port whose receive right the task has, to be told of it
pub port_noted : (before copied : State) (task name variant sync notify p : ℕ) → (variant ≡ 69) ⊎ (variant ≡ 70) → lookup copied task name ≡ Some (Target.port p) → Holds copied task receive p →
    length copied.ledger ≤ most_rights → map.len (copied.naming task) < most_names → NoneHolds (noted_guards before copied task name variant sync notify)
port_noted before copied task name variant sync notify p is_port found holds few room = grind (arith, used)

-- Where no request stood, an event that no guard refuses and that owes nothing does its part, which ends the step: no receive right is
-- lost, no request that doesn't stand gets a right, and senders stay where a request would tell of them.
pub leads_on : {now : ℕ} {old mid : State} {event : Event} {reply : Reply} (gone come : List Token) → IsLawful old → NoRequests old.stands → NoneHolds (guards old event) →
    (does : Does now old event reply mid []) → Judged now old event reply mid [] does → Moves old.ledger mid.ledger gone come → mid.live_port ≡ old.live_port → ((p : ℕ) → count (is_of receive p) come ≡ count (is_of receive p) gone) →
    ((r : Request) → mid.stands r ≡ false → (kind : Kind) (p : ℕ) → count (is_at kind p (in_request r)) come ≡ 0) → KeepsSenders old mid → Step now old event reply mid × IsLawful mid
leads_on {now} {old} {mid} {event} {reply} gone come l none good does judged moves live receives unkept keeps =
    let lawful = calm_lawful mid (Does-mid now old event reply mid [] good does judged l) one ended in
    (inr (record { performed = record { mid = mid; owed = []; does = does; settles = calm_settles now old mid lawful keeps }; unrefused = good; judged = judged }), lawful)
  where
    one : (p : ℕ) → mid.live_port p ≡ true → count (is_of receive p) mid.ledger ≡ 1
    one p lives = grind (arith, l.one_receive p (sym (ap (λ (f : ℕ → Bool). f p) live) ∙ lives), moves (λ x. if is_of receive p x then 1 else 0), receives p)

    ended : (task name : ℕ) → mid.stands (dead_name task name) ≡ false → (kind : Kind) (p : ℕ) → lying mid kind p (in_request (dead_name task name)) ≡ 0
    ended task name not_there kind p = grind (
      arith,
      l.ended (dead_name task name) (none (dead_name task name)) kind p,
      moves (λ x. if is_at kind p (in_request (dead_name task name)) x then 1 else 0),
      unkept (dead_name task name) not_there kind p,
    )

-- A request comes to stand that keeps a send-once right.
pub requested : {now : ℕ} {old mid : State} {event : Event} {reply : Reply} (request : Request) (q : ℕ) (gone : List Token) → IsCalm old → NoneHolds (guards old event) →
    (does : Does now old event reply mid []) → Judged now old event reply mid [] does → Moves old.ledger mid.ledger gone (token send_once q (in_request request) ∷ []) → mid.live_port ≡ old.live_port → ((p : ℕ) → count (is_of receive p) gone ≡ 0) →
    ((p : ℕ) → senders mid p ≡ senders old p) → ((r : Request) → mid.stands r ≡ false → same_request r request ≡ false) → Step now old event reply mid × IsLawful mid
requested request q gone l good does judged moves live no_receive same stands =
    leads_on gone (token send_once q (in_request request) ∷ []) l.lawful l.quiet.none_stands good does judged moves live (λ p. sym (no_receive p)) (λ r is kind p. off r kind p (stands r is))
    (λ p is some. let e = same p in omega (arith, e, some))
  where
    off : (r : Request) (kind : Kind) (p : ℕ) → same_request r request ≡ false → count (is_at kind p (in_request r)) (token send_once q (in_request request) ∷ []) ≡ 0
    off r kind p e = rw (e, and_false (is_of kind p (token send_once q (in_request request)))) refl

-- An answer that only tells leaves the state as it is.
pub looked : {now : ℕ} {s : State} {event : Event} {reply : Reply} → IsLawful s → NoneHolds (guards s event) → (does : Does now s event reply s []) → Judged now s event reply s [] does → Step now s event reply s
looked {now} {s} l good does judged =
    inr (record { performed = record { mid = s; owed = []; does = does; settles = calm_settles now s s l (λ p stands some. some) }; unrefused = good; judged = judged })

-- No message is queued at the port under the name.
pub none_there : {now task name room : ℕ} {s : State} (p : ℕ) → IsLawful s → s.live_task task ≡ true → lookup s task name ≡ Some (Target.port p) → Holds s task receive p → s.sets_of p ≡ [] → queue s p ≡ [] →
    Step now s (Event.Receive task name room false) (Reply.Empty (Waited.Port p)) s
none_there {task = task} {name = name} {s = s} p l lives found holds alone none =
    looked l (there s task lives, ((λ h. h (inl (p, found, holds))), ((λ h. h.2 (ap s.sets_of (one_port (lookup s task name) h.0 p h.1 found) ∙ alone)), tt)))
    (Waited.Port p, (found, holds), (refl, (λ q from. ap (queue s) from.0 ∙ none), refl, refl)) tt

-- ---- it alone stands

same_is : (r s : Request) → same_request r s ≡ true → r ≡ s
same_is r s e = grind (arith, place_is)

pub made_alone : (stands : Request → Bool) (request : Request) → NoRequests stands → (r : Request) → request_at stands request true r ≡ true → r ≡ request
made_alone stands request none r = grind (arith, same_is)

-- what stands no more where one was taken away
pub not_made : (stands : Request → Bool) (request r : Request) → request_at stands request true r ≡ false → same_request r request ≡ false
not_made stands request r = grind arith

pub stood_before : (stands : Request → Bool) (request r : Request) → request_at stands request false r ≡ true → stands r ≡ true
stood_before stands request r = grind arith

-- ---- it has ended

pub not_either : (b c : Bool) → c ≡ false → (if b then false else c) ≡ false
not_either true c e = refl
not_either false c e = e

pub none_stand_after : (mid : State) (e : Ending) (request : Request) → ((r : Request) → mid.stands r ≡ true → r ≡ request) → has_ended mid e request ≡ true → NoRequests (outcome mid e).stands
none_stand_after mid e request alone ended r = grind arith

-- ---- Steps by which ports die: what a step's own part leaves is judged, lost and buried turn by turn, and when nothing is left to do the
-- step has come to its end.

-- The event may be answered so. Its own part led to the state midway; the new state is lawful, and requests may stand in it.
pub record Leads (now : ℕ) (old mid : State) (event : Event) (reply : Reply) (new : State) : Type 0 where
  pub step : Step now old event reply new
  pub lawful : IsLawful new
  pub names : NamesSettle mid new

-- An event that no guard refuses does its part, and a chain of turns that is done ends the step.
pub ends : {now : ℕ} {old mid : State} {event : Event} {reply : Reply} {owed : Owed} → IsLawful old → NoneHolds (guards old event) → (does : Does now old event reply mid owed) → Judged now old event reply mid owed does →
    (e : Ending) → IsReached old mid owed e → IsDone old mid e → Leads now old mid event reply (end_of now mid e)
ends {now} {old} {mid} {event} {reply} {owed} l good does judged e reached done =
    let s = turns_end now old mid owed e (Does-mid now old event reply mid owed good does judged l) reached done in
    record { step = inr (record { performed = record { mid = mid; owed = owed; does = does; settles = s.0 }; unrefused = good; judged = judged }); lawful = s.1; names = s.0.names }

-- ---- a task ends

-- the task gone with its names and sets, and these rights left
abbrev pub without_task : (task : ℕ) → List Token → State → State
without_task task ledger s = record s {
  live_task = at s.live_task task false;
  naming = at s.naming task map.empty;
  set_owner = λ set. if is_owner task (s.set_owner set) then None else s.set_owner set;
  sets_of = λ p. filter (λ set. not (is_owner task (s.set_owner set))) (s.sets_of p);
  stands = λ r. if ends_with task r then false else s.stands r;
  ledger = ledger;
}

-- one right goes that passes the test
abbrev pub loses_one : (test : Token → Bool) (x : Token) {old new : List Token} → test x ≡ true → count test new ≡ 0 → Moves old new (x ∷ []) [] → LosesAll test old new
loses_one test x passes none moves = record { gone = x ∷ []; moves = moves; passed = one_all (λ y. test y ≡ true) x passes; none_left = none }

-- ---- chains of turns

if_le : (b : Bool) → (if b then 1 else 0) + 0 ≤ 1
if_le true = omega arith
if_le false = omega arith

module _ {old mid : State} {owed : Owed} (l : MidLawful mid owed) {e : Ending} (reached : IsReached old mid owed e) where
  pub then_doomed : (p : ℕ) → IsFound mid e p → is_judged e p ≡ false → ¬ (IsSaved mid p) → IsReached old mid owed (doom p e)
  then_doomed p found unjudged unsaved = turns e (doom p e) reached (inl (doom_is mid e p found unjudged unsaved))

  pub then_saved : (p : ℕ) → IsFound mid e p → is_judged e p ≡ false → (saved : IsSaved mid p) → 0 < count (is_at send_once saved.notify (in_request (port_destroyed p))) e.left →
      IsReached old mid owed (save saved.notify p e)
  then_saved p found unjudged saved there = turns e (save saved.notify p e) reached (inr (inl (save_is mid e p found unjudged saved there)))

  pub then_lost : (x : Token) → AreJudged mid e → listed e.doomed x.port ≡ false → IsAtDoomed e x.place → 0 < count (is_at x.kind x.port x.place) e.left → IsReached old mid owed (lose x e)
  then_lost x judged lives at there = turns e (lose x e) reached (inr (inr (inr (inl (lose_is mid e x judged lives at there)))))

  -- a port on which, and on a name of which, no request stands
  pub then_buried : (p : ℕ) → AreJudged mid e → listed e.doomed p ≡ true → listed e.buried p ≡ false → ((r : Request) → mid.stands r ≡ true → ¬ (IsRequestOf mid p r)) → IsReached old mid owed (bury p e)
  then_buried p judged doomed unburied none = turns e (bury p e) reached (inr (inr (inr (inr (inr (inl (bury_is mid e p judged doomed unburied (λ r stands of. absurd (none r stands of)))))))))

  -- one on which, or on a name of which, this request stands, and no other does
  pub then_buried_one : (p : ℕ) (request : Request) → AreJudged mid e → listed e.doomed p ≡ true → listed e.buried p ≡ false → is_among e.ended request ≡ false → mid.stands request ≡ true → IsRequestOf mid p request →
      ((r : Request) → mid.stands r ≡ true → r ≡ request) → IsReached old mid owed (bury p (end_request request e))
  then_buried_one p request judged doomed unburied unended stands of alone =
      turns (end_request request e) (bury p (end_request request e))
      (turns e (end_request request e) reached (inr (inr (inr (inr (inl (end_is old mid owed e p request l reached judged doomed unburied stands of unended)))))))
      (inr (inr (inr (inr (inr (inl (bury_is mid (end_request request e) p judged doomed unburied
      (λ r is at. or_left (same_request r request) (is_among e.ended r) (subst (λ (q : Request). same_request r q ≡ true) (alone r is) (place_refl (in_request r)))))))))))

  pub then_told : (p : ℕ) → AreJudged mid e → lives_after mid e p ≡ true → mid.stands (no_senders p) ≡ true → 0 < senders old p → count (is_of send p) e.left ≡ 0 → listed e.told p ≡ false →
      IsReached old mid owed (tell ((outcome mid e).make_send p) p e)
  then_told p judged lives stands had none untold =
      turns e (tell ((outcome mid e).make_send p) p e) reached (inr (inr (inr (inr (inr (inr (tell_is old mid owed e p l reached judged lives stands had none untold)))))))

-- ---- who is found

-- the one receive right that goes is this port's
pub one_gone : (p q : ℕ) (place : Place) → count (is_of receive p) (token receive q place ∷ []) ≡ 1 → q ≡ p
one_gone p q place one = grind arith

-- From a state in which no message carries a receive right these rights go.
module _ (old mid : State) (l : IsLawful old) (none : NoneCarried old.ledger) (live : mid.live_port ≡ old.live_port) (gone : List Token) (moves : Moves old.ledger mid.ledger gone []) where
  pub still_none_carried : NoneCarried mid.ledger
  still_none_carried p k q = let m = moves (λ x. if is_of receive q x && same_place (in_message p k) x.place then 1 else 0) in let z = none p k q in omega (arith, m, z)

  orphan_gone : (p : ℕ) → IsOrphan mid p → count (is_of receive p) gone ≡ 1
  orphan_gone p is = grind arith

  -- All are judged once those are whose receive right went.
  pub all_judged : (e : Ending) → ((p : ℕ) → count (is_of receive p) gone ≡ 1 → is_judged e p ≡ true) → AreJudged mid e
  all_judged e judged p (inl is) = judged p (orphan_gone p is)
  all_judged e judged p (inr (q, doomed, at)) = absurd (let z = still_none_carried q at.0 p in let some = at.1 in omega (arith, z, some))

-- The one receive right that goes is a doomed port's: all are judged.
pub one_judged : (old mid : State) (port task : ℕ) → IsLawful old → NoneCarried old.ledger → mid.live_port ≡ old.live_port → Moves old.ledger mid.ledger (token receive port (in_task task) ∷ []) [] →
    (e : Ending) → listed e.doomed port ≡ true → AreJudged mid e
one_judged old mid port task l none live moves e doomed =
    all_judged old mid l none live (token receive port (in_task task) ∷ []) moves e
    (λ p one. subst (λ (q : ℕ). is_judged e q ≡ true) (one_gone p port (in_task task) one) (or_left (listed e.doomed port) (listed e.saved port) doomed))

-- ---- what is left

-- a receive right with a task lies in no message
pub not_carried : (p k q r task : ℕ) → count (λ x. is_of receive q x && same_place (in_message p k) x.place) (token receive r (in_task task) ∷ []) ≡ 0
not_carried p k q r task = rw (and_false (is_of receive q (token receive r (in_task task)))) refl

-- ---- A port that is sent away, while another dies, is a run.

-- ---- the second task has another port, and a right to be told by

abbrev y6 : State
y6 = with_receive 1 2 x5

two_fresh : IsFresh (x5.naming 1) 2
two_fresh = fresh_next (Target.port 1) fresh_one (grind (gets, rules))

sixth : Plays 5 x5 (Event.Allocate 1 1) (Reply.Name 2) y6
sixth = port_allocated fifth.1 refl two_fresh (grind (gets, rules)) (omega arith)

abbrev y7 : State
y7 = with_inserted 0 3 1 2 2 y6

two_found : lookup y6 1 2 ≡ Some (Target.port 2)
two_found = grind (gets, rules)

three_unused : lookup y6 0 3 ≡ None
three_unused = grind (gets, rules)

seventh : Plays 6 y6 (Event.InsertRight 0 3 1 2 20) (Reply.Code 0) y7
seventh = send_inserted sixth.1 refl 2 refl two_found (omega arith) three_unused (omega arith) (omega arith) refl (grind (gets, rules)) (omega arith) (omega arith)

abbrev y8 : State
y8 = with_extracted 0 1 1 3 0 y7

own_there : lookup y7 0 1 ≡ Some (Target.port 0)
own_there = grind (gets, rules)

eighth : Plays 7 y7 (Event.ExtractRight 0 1 21 1) (Reply.Right 3 18) y8
eighth = once_extracted seventh.1 refl 0 refl own_there (omega arith) (fresh_next (Target.port 2) two_fresh (grind (gets, rules))) (grind (gets, rules)) (omega arith) refl

-- ---- it asks for the first port to be sent away

once_named : lookup y8 1 3 ≡ Some (Target.once 0)
once_named = grind (gets, rules)

abbrev asked : Request
asked = port_destroyed 1

abbrev y9_copied : State
y9_copied = record (without_name 1 3 y8) { ledger = token send_once 0 (in_request asked) ∷ y7.ledger }

abbrev y9 : State
y9 = record y9_copied { stands = request_at y9_copied.stands asked true }

copies : CopyRight 1 (in_request asked) 18 3 y8 (to_port 0) y9_copied
copies = record { given = MoveSendOnce; is_given = refl; target = Target.once 0; found = once_named; legal = tt; mark_is = refl; rest = refl; tokens = λ h. omega arith }

name_found : lookup y9_copied 1 1 ≡ Some (Target.port 1)
name_found = grind (gets, rules)

ninth_guards : NoneHolds (guards y8 (Event.RequestNotification 1 1 69 0 3 18))
ninth_guards = asks_well y8 1 1 69 0 3 18 MoveSendOnce (Target.once 0) refl (inl refl) (λ h. refl) (inl refl) refl once_named tt tt

ninth_requests : Requests 1 1 69 0 3 18 0 y8 y9 []
ninth_requests = record {
  request = asked;
  copied = y9_copied;
  back = y9_copied;
  copy = inr ((λ e. cc), (0, copies, inr (inr ((λ h. h), (λ n is at. cc), refl, refl))));
  on = inl (refl, (1, name_found, refl));
  given_back = inl (eighth.1.quiet.none_stands asked, refl, refl);
}

ninth : Step 8 y8 (Event.RequestNotification 1 1 69 0 3 18) (Reply.Previous 0) y9 × IsLawful y9
unfolding ninth_requests
ninth = requested asked 0 (token send_once 0 (in_task 1) ∷ []) eighth.1 ninth_guards ninth_requests (port_noted y8 y9_copied 1 1 69 0 3 1 (inl refl) name_found (omega arith) (omega arith) (grind (gets, rules))) (λ h. omega arith) refl (λ p. omega arith) (λ p. omega arith) (not_made y9_copied.stands asked)

-- ---- the task ends

abbrev lost : List Token
lost = token receive 2 (in_task 1) ∷ token receive 1 (in_task 1) ∷ []

abbrev z_mid : State
z_mid = without_task 1 (token send_once 0 (in_request asked) ∷ token send 2 (in_task 0) ∷ token send 1 (in_task 0) ∷ token receive 0 (in_task 0) ∷ []) y9

ends_task : EndsTask 1 y9 z_mid []
ends_task = record {
  loses = record { gone = lost; moves = λ h. omega arith; passed = All-cons (λ x. is_in_task 1 x.place ≡ true) (token receive 2 (in_task 1)) (token receive 1 (in_task 1) ∷ []) refl (one_all (λ x. is_in_task 1 x.place ≡ true) (token receive 1 (in_task 1)) refl); none_left = refl };
  rest = refl;
  owed_are = refl;
}

good : NoneHolds (guards y9 (Event.TaskTerminate 1))
good = ((λ h. cc), tt)

mid : MidLawful z_mid []
mid = Does-mid 9 y9 (Event.TaskTerminate 1) (Reply.Code 0) z_mid [] good (refl, ends_task) tt ninth.1

abbrev saved : IsSaved z_mid 1
saved = record { stands = refl; notify = 0; kept = omega arith; task = 0; with_task = omega arith }

abbrev begun : Ending
begun = start [] z_mid.ledger

abbrev doomed : Ending
doomed = doom 2 begun

abbrev sent : Ending
sent = save 0 1 doomed

abbrev buried : Ending
buried = bury 2 sent

alone : (r : Request) → z_mid.stands r ≡ true → r ≡ asked
alone r is = grind (arith, made_alone, not_either)

none_carried : NoneCarried y9.ledger
none_carried p k q = let z = seventh.1.quiet.none_carried p k q in omega (arith, z)

either_gone : (p : ℕ) → count (is_of receive p) lost ≡ 1 → (2 ≡ p) ⊎ (1 ≡ p)
either_gone p one = grind (arith, one_gone)

judged : (e : Ending) → e.doomed ≡ 2 ∷ [] → e.saved ≡ 1 ∷ [] → AreJudged z_mid e
judged e dead kept = grind (arith, all_judged, ninth, none_carried, either_gone)

reached : IsReached y9 z_mid [] buried
reached =
    let a : IsReached y9 z_mid [] begun = begins begun (start_is z_mid [] [] refl (λ k d below. absurd (omega (arith, below))) (λ h. omega arith)) in
    let b : IsReached y9 z_mid [] doomed = then_doomed mid a 2 (inl (refl, refl)) refl (λ s. let f = s.stands in cc) in
    let c : IsReached y9 z_mid [] sent = then_saved mid b 1 (inl (refl, refl)) refl saved (omega arith) in
    then_buried mid c 2 (judged sent refl refl) refl refl (λ r stands of. let e = subst (IsRequestOf z_mid 2) (alone r stands) of in omega (arith, e))

done : IsDone y9 z_mid buried
done = grind (arith, judged, one_all, alone)

abbrev z : State
z = end_of 9 z_mid buried

dies : Leads 9 y9 z_mid (Event.TaskTerminate 1) (Reply.Code 0) z
dies = ends ninth.1 good (refl, ends_task) tt buried reached done

none_stands : NoRequests z.stands
none_stands = none_stand_after z_mid buried asked alone refl

-- ---- the notice brings the receive right

own_mid : lookup z_mid 0 1 ≡ Some (Target.port 0)
own_mid = grind (gets, rules)

sender_mid : lookup z_mid 0 2 ≡ Some (Target.port 1)
sender_mid = grind (gets, rules)

dying_mid : lookup z_mid 0 3 ≡ Some (Target.port 2)
dying_mid = grind (gets, rules)

own_still : lookup z 0 1 ≡ Some (Target.port 0)
own_still = dies.names 0 1 ∙ ap (option_map (settled_target z_mid z 0 1)) own_mid

sender_still : lookup z 0 2 ≡ Some (Target.port 1)
sender_still = dies.names 0 2 ∙ ap (option_map (settled_target z_mid z 0 2)) sender_mid

dying_dead : lookup z 0 3 ≡ Some (Target.dead 1)
dying_dead = dies.names 0 3 ∙ ap (option_map (settled_target z_mid z 0 3)) dying_mid

abbrev taken : State
taken = without_front 0 (token receive 1 (in_message 0 0) ∷ token send 1 (in_task 0) ∷ token receive 0 (in_task 0) ∷ []) z

abbrev z11 : State
z11 = record taken { ledger = token receive 1 (in_task 0) ∷ token send 1 (in_task 0) ∷ token receive 0 (in_task 0) ∷ [] }

gives : GiveWord 0 (in_message 0 0) taken (16, 2) (receive, to_port 1) z11
gives = record { named_state = taken; named = inl (sender_still, refl); rest = refl; tokens = λ h. omega arith }

takes_notice : Receives 0 0 32 port_sent_text z z11
takes_notice =
    receives 0 0 1 (notice_entry 9 0 (port_sent 1)) (WireBody.items (port_item short 16 (2 ∷ []) ∷ [])) taken.ledger refl (λ h. omega arith) (refl, refl) ((refl, refl, refl), tt) (z11, gives, refl) own_still
    (spelled refl (omega arith) (omega arith) (one_word 16 2 (omega arith, omega arith) (omega arith))) (omega arith)

eleventh_guards : NoneHolds (guards z (Event.Receive 0 1 32 false))
eleventh_guards = ((λ h. cc), ((λ h. h (inl (0, own_still, omega arith))), ((λ h. h.2 (ap z.sets_of (one_port (lookup z 0 1) h.0 0 h.1 own_still))), tt)))

off_requests : (r : Request) (kind : Kind) (p : ℕ) → count (is_at kind p (in_request r)) (token receive 1 (in_task 0) ∷ []) ≡ 0
off_requests r kind p = rw (and_false (is_of kind p (token receive 1 (in_task 0)))) refl

eleventh : Step 10 z (Event.Receive 0 1 32 false) (Reply.Message port_sent_text) z11 × IsLawful z11
eleventh =
    leads_on (token send_once 0 (in_message 0 0) ∷ token receive 1 (in_message 0 0) ∷ []) (token receive 1 (in_task 0) ∷ []) dies.lawful none_stands eleventh_guards
    (Waited.Port 0, (own_still, omega arith), (0, (refl, omega arith, refl), takes_notice, refl)) tt
    (λ h. omega arith) refl (λ p. omega arith) (λ r is. off_requests r) (λ p is. absurd (let f = none_stands (no_senders p) in cc))

calm : IsCalm z11
calm = grind (arith, eleventh, none_carried, not_carried, none_stands)

twelfth : Plays 11 z11 (Event.NameType 0 2) (Reply.NameType 0x00030000) z11
twelfth = type_told calm refl (Target.port 1) sender_still

thirteenth : Plays 12 z11 (Event.NameType 0 3) (Reply.NameType 0x00100000) z11
thirteenth = type_told calm refl (Target.dead 1) dying_dead

pub sending_away_run : (s : State) × Run sending_away_events sending_away_replies s
sending_away_run =
    (z11, (s1, first.0, (b2, second.0, (b3, third.0, (b4, fourth.0, (x5, fifth.0, (y6, sixth.0, (y7, seventh.0, (y8, eighth.0, (y9, ninth.0, (z, dies.step, (z11, eleventh.0, (z11, twelfth.0, (z11, thirteenth.0, refl))))))))))))))

-- ---- A run that is followed step by step, with a bound on the slots of the kernel that makes it.

-- ---- the bound on slots

-- The arithmetic of a step, with the slots that are spare, taken and needed before it and after it.
pub slots_kept : (most spare more waiting left free : ℕ) → more + left ≤ max (spare + waiting) (left + free) → left + free ≤ most → spare + waiting ≤ most → more + left ≤ most
slots_kept most spare more waiting left free step bound before = omega (arith, step, bound, before)

-- The same in numbers of messages: those that were accepted, taken, told and destroyed in the step.
pub made_as_needed : (spare more waiting left free accepted taken told gone : ℕ) → more + accepted + told ≤ max (spare + taken + gone) (free + accepted + told) →
    left + taken + gone ≡ waiting + accepted + told → more + left ≤ max (spare + waiting) (left + free)
made_as_needed spare more waiting left free accepted taken told gone step counted = omega (arith, step, counted)

pub slots_start : (profile : Profile) → SlotsWithin 0 [] (opening_in profile)
slots_start profile most bound last = omega arith

abbrev NeedsWithin : ℕ → Stage → Type 0
NeedsWithin most x = queued x.before + unused_onces x.before ≤ most

pub slots_push : (spare more : ℕ) (path : List Stage) (s : State) (event : Event) (reply : Reply) (t : State) → MakesAsNeeded spare more s t → SlotsWithin spare path s →
    SlotsWithin more (path ++ record { before = s; event = event; reply = reply; after = t } ∷ []) t
slots_push spare more path s event reply t fits within most bound last =
    let stage : Stage = record { before = s; event = event; reply = reply; after = t } in
    let parts = All-pop (NeedsWithin most) (path ++ stage ∷ []) path (Some stage) refl bound in
    slots_kept most spare more (queued s) (queued t) (unused_onces t) fits last (within most parts.0 parts.1)

-- what is needed where the stages begin
begins_within : (most now : ℕ) (old : State) (path : List Stage) (s : State) → PathBy Step now old path s → All (NeedsWithin most) path → queued s + unused_onces s ≤ most → queued old + unused_onces old ≤ most
begins_within most now old [] s is bound last = subst (λ (x : State). queued x + unused_onces x ≤ most) is last
begins_within most now old (x ∷ xs) s is bound last = subst (λ (y : State). queued y + unused_onces y ≤ most) is.0 (All-head (NeedsWithin most) x xs bound)

slots_from : (most now spare : ℕ) (old : State) (path : List Stage) (s : State) (spares : List ℕ) (left : ℕ) → PathBy Step now old path s → MakesSlots spare path spares left →
    All (NeedsWithin most) path → queued s + unused_onces s ≤ most → spare + queued old ≤ most → left + queued s ≤ most
slots_from most now spare old [] s [] left is slots bound last before = subst (λ (x : State). left + queued x ≤ most) (sym is) (omega (arith, slots, before))
slots_from most now spare old (x ∷ xs) s (n ∷ ns) left is slots bound last before =
    let rest = All-tail (NeedsWithin most) x xs bound in
    let needs = begins_within most (now + 1) x.after xs s is.2 rest last in
    let was = subst (λ (y : State). spare + queued y ≤ most) (sym is.0) before in
    slots_from most (now + 1) n x.after xs s ns left is.2 slots.1 rest last (slots_kept most spare n (queued x.before) (queued x.after) (unused_onces x.after) slots.0 needs was)
slots_from most now spare old [] s (n ∷ ns) left is slots bound last before = absurd slots
slots_from most now spare old (x ∷ xs) s [] left is slots bound last before = absurd slots

pub slots_bounded : (profile : Profile) (path : List Stage) (s : State) → JudgedPath profile path s → (spares : List ℕ) (last : ℕ) → MakesSlots 0 path spares last → SlotsWithin last path s
slots_bounded profile path s is spares last slots most bound end = slots_from most 0 0 (opening_in profile) path s spares last is slots bound end (omega arith)

-- ---- a run so far

-- These events and replies lead from nothing to the state, and the slots are within their bound.
pub record Followed (profile : Profile) (events : List Event) (replies : List Reply) (s : State) (spare : ℕ) : Type 0 where
  pub stages : List Stage
  pub path : JudgedPath profile stages s
  pub events_are : list_map (λ (x : Stage). x.event) stages ≡ events
  pub replies_are : list_map (λ (x : Stage). x.reply) stages ≡ replies
  pub slots : SlotsWithin spare stages s

pub followed_start : (profile : Profile) → Followed profile [] [] (opening_in profile) 0
followed_start profile = record { stages = []; path = refl; events_are = refl; replies_are = refl; slots = slots_start profile }

pub followed_push : (profile : Profile) (events : List Event) (replies : List Reply) (s : State) (spare : ℕ) (event : Event) (reply : Reply) (t : State) (more : ℕ) → Followed profile events replies s spare →
    Step (length events) s event reply t → MakesAsNeeded spare more s t → Followed profile (events ++ event ∷ []) (replies ++ reply ∷ []) t more
followed_push profile events replies s spare event reply t more f step fits =
    let stage : Stage = record { before = s; event = event; reply = reply; after = t } in
    let long : length events ≡ length f.stages = sym (ap length f.events_are) ∙ length-map f.stages (λ (x : Stage). x.event) in
    record {
      stages = f.stages ++ stage ∷ [];
      path = path_push 0 (opening_in profile) f.stages s event reply t f.path (subst (λ (n : ℕ). Step n s event reply t) (omega (arith, long)) step);
      events_are = map-append (λ (x : Stage). x.event) f.stages (stage ∷ []) ∙ ap (λ (es : List Event). es ++ event ∷ []) f.events_are;
      replies_are = map-append (λ (x : Stage). x.reply) f.stages (stage ∷ []) ∙ ap (λ (rs : List Reply). rs ++ reply ∷ []) f.replies_are;
      slots = slots_push spare more f.stages s event reply t fits f.slots;
    }

pub followed_run : (profile : Profile) (events : List Event) (replies : List Reply) (s : State) (spare : ℕ) → Followed profile events replies s spare →
    RunIn profile events replies s
followed_run profile events replies s spare f = grind (arith, path_runs)

-- the headline over the same stages
pub followed_headline : (profile : Profile) (events : List Event) (replies : List Reply) (s : State) (spare : ℕ) → Followed profile events replies s spare →
    (h : Headline profile events replies s) × JudgedPath profile h.stages s × SlotsWithin spare h.stages s
followed_headline profile events replies s spare f =
    let h = path_headline profile events replies s f.stages f.path f.events_are f.replies_are in
    (h.0, subst (λ (xs : List Stage). JudgedPath profile xs s) (sym h.1) f.path, subst (λ (xs : List Stage). SlotsWithin spare xs s) (sym h.1) f.slots)
