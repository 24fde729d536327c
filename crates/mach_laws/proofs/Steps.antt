-- What steps do to the logs, and so what holds along a run.
use Rattle.std.proofs.Common.{◌≡◌, ℕ, zero, suc, ◌+◌, ◌%◌, ◌^◌, List, [], ◌∷◌, ◌++◌, Some, refl, sym, ap, subst, ◌∙◌, arith, true, false, Bool, ◌⊎◌, inl, inr, length, ◌<◌, ◌≤◌, take, append_assoc}
use Rattle.std.proofs.lemmas.List.{length-append, append-nil, take-append-le, take-append-drop}
use Rattle.std.proofs.lemmas.Bool.{eq-eqb, ne_eqb}
use Rattle.std.specs.Prelude.{if◌then◌else◌, ◌≢◌, ◌==◌, ◌&&◌, MatchBool, slice_get, map as list_map, option_to_list, drop}
use Rattle.std.proofs.lemmas.Bool.Decides.{eqb_tells}
use Rattle.std.proofs.lemmas.Option.{slice_get_within}
use Rattle.mach_types.specs.declared.calls.Event.{Event}
use Rattle.mach_types.specs.declared.calls.Reply.{Reply}
use Rattle.mach_types.specs.declared.calls.Waited.{Waited}
use Rattle.mach_types.specs.Guards.{NoneHolds}
use Rattle.mach_types.specs.Tokens.{receive, in_message, token, is_of, is_held, same_kind}
use Rattle.mach_types.specs.Messages.{Message, Entry, asof}
use Rattle.mach_model.specs.State.{State, Holds, at, queue, gives, opening_in}
use Rattle.mach_model.specs.Names.{JoinsSet}
use Rattle.mach_model.specs.Transfer.{Inserts, Extracts}
use Rattle.mach_model.specs.Send.{Sends, entry}
use Rattle.mach_model.specs.Receive.{TakesFrom, Receives, IsFront, DestroysFront}
use Rattle.mach_model.specs.Notices.{Owed}
use Rattle.mach_model.specs.Settles.{Settles}
use Rattle.mach_model.specs.ReceivedMeans.{ReceivedMeans}
use Rattle.mach_model.specs.Refusals.{guards}
use Rattle.mach_model.specs.Machine.{Refused, Done, Step, RunFrom}
use Rattle.mach_model.specs.Acts.{Does}
use Rattle.mach_model.specs.Lawful.{IsLawful}
use Rattle.mach_model.specs.Midway.{MidLawful}
use Rattle.mach_model.proofs.Names.{at_other, at_own, both_test, lying_le_of, snoc_cases}
use Rattle.mach_model.proofs.Settling.{kind_refl, lives}
use Rattle.mach_model.proofs.Moving.{shape}
use Rattle.mach_model.proofs.MessagesLawful.{Sends-adds, Receives-removes, hands_shape}
use Rattle.mach_model.proofs.StepLawful.{Does-mid, TakesFrom-holds, TakesFrom-live, not_false, opening-lawful, Step-lawful, Run-lawful}
use Rattle.mach_model.proofs.NamesLawful.{gives-lawful}
use Rattle.mach_model.specs.SentMeans.{SentMeans}
use Rattle.mach_laws.specs.Paths.{Stage, PathBy}
use Rattle.mach_laws.specs.Notices.{Tells, IsToldBy}
use Rattle.mach_laws.specs.Sent.{Accepts}
use Rattle.mach_laws.specs.Received.{AsksFrom, GivesWhatCame, CameBy, Delivers, IsSentBy}
use Rattle.mach_laws.specs.Order.{unless_large, if_taken, new_entries, Comes, came, front_entry, went, InOrder}
use Rattle.mach_laws.specs.Counts.{accepts, takes_from}
use Rattle.mach_laws.specs.JudgedPaths.{JudgedPath}
use Rattle.mach_laws.proofs.Untouched.{Untouched, by_same, makes_untouched, deallocates_untouched, destroys_untouched, modifies_untouched, renames_untouched, ends_untouched, requests_untouched, one_destination, same_send}
use Rattle.mach_laws.proofs.Meanings.{done_tells, tells_nothing, ends_kindly, front_or_behind, Sends-means, Gives, Receives-means, Receives-received, ReceivedMeans-later}
use Rattle.mach_laws.proofs.Refusals.{same_code, send_code}
use Rattle.mach_types.specs.declared.profiles.Profile.{Profile}

-- ---- What one step from a lawful state does to the logs, and takes from them.

-- ---- what an event leaves as it is

-- copying in and out leave the logs, and what was taken from them
sent_log : (now task : ℕ) (bytes : List ℕ) (old mid : State) → IsLawful old → (s : Sends now task bytes old mid) → (q : ℕ) →
    mid.log q ≡ at old.log s.m.destination (old.log s.m.destination ++ entry now s.m ∷ []) q
sent_log now task bytes old mid l s q =
    let copied : s.copied_state.log ≡ old.log = ap (λ (x : State). x.log) (Sends-adds now task bytes old mid l s).rest in
    ap (λ (x : State). x.log q) s.rest ∙ ap (λ (f : ℕ → List Entry). at f s.m.destination (f s.m.destination ++ entry now s.m ∷ []) q) copied

sent_taken : (now task : ℕ) (bytes : List ℕ) (old mid : State) → IsLawful old → (s : Sends now task bytes old mid) → (q : ℕ) → mid.taken q ≡ old.taken q
sent_taken now task bytes old mid l s q = ap (λ (x : State). x.taken q) s.rest ∙ ap (λ (x : State). x.taken q) (Sends-adds now task bytes old mid l s).rest

sent_live : (now task : ℕ) (bytes : List ℕ) (old mid : State) → IsLawful old → (s : Sends now task bytes old mid) → mid.live_port ≡ old.live_port
sent_live now task bytes old mid l s = ap (λ (x : State). x.live_port) s.rest ∙ ap (λ (x : State). x.live_port) (Sends-adds now task bytes old mid l s).rest

sent_made : (now task : ℕ) (bytes : List ℕ) (old mid : State) → IsLawful old → (s : Sends now task bytes old mid) → mid.ports_made ≡ old.ports_made
sent_made now task bytes old mid l s = ap (λ (x : State). x.ports_made) s.rest ∙ ap (λ (x : State). x.ports_made) (Sends-adds now task bytes old mid l s).rest

-- the destination lives: the right that the message goes by lies with it
sent_lives : (now task : ℕ) (bytes : List ℕ) (old mid : State) → IsLawful old → (s : Sends now task bytes old mid) → old.live_port s.m.destination ≡ true
sent_lives now task bytes old mid l s =
    let p = s.m.destination in
    let a = Sends-adds now task bytes old mid l s in
    let own : (if same_kind s.m.kind s.m.kind && p == p then suc zero else zero) ≡ suc zero = rw (kind_refl s.m.kind, eq-eqb p p refl) refl in
    let e = a.lies s.m.kind p in
    let le = lying_le_of s.copied_state s.m.kind p (in_message p (length (old.log p))) in
    sym (ap (λ (x : State). x.live_port p) a.rest) ∙ lives a.keeps.ports s.m.kind p (omega (arith, own, e, le))

-- what a receipt leaves
record Received (port : ℕ) (old mid : State) : Type 0 where
  log : (q : ℕ) → mid.log q ≡ old.log q
  taken : (q : ℕ) → mid.taken q ≡ at old.taken port (old.taken port + 1) q
  live : mid.live_port ≡ old.live_port
  made : mid.ports_made ≡ old.ports_made

received_state : (task port room : ℕ) (bytes : List ℕ) (old mid : State) → IsLawful old → old.live_port port ≡ true → old.live_task task ≡ true → Receives task port room bytes old mid → Received port old mid
received_state task port room bytes old mid l live is_task r = grind (arith, (Receives-removes task port room bytes old mid l live is_task r).rest)

-- ---- what an event leaves of the logs, and takes from them

inserted_shape : (task name from poly number : ℕ) (old mid : State) → IsLawful old → NoneHolds (guards old (Event.InsertRight task name from poly number)) → Inserts task name from poly number old mid →
    mid ≡ shape old mid
inserted_shape task name from poly number old mid l g i = grind (arith, hands_shape, not_false)

extracted_shape : (task name number to new_name kind : ℕ) (old mid : State) → IsLawful old → NoneHolds (guards old (Event.ExtractRight task name number to)) → Extracts task name number to new_name kind old mid →
    mid ≡ shape old mid
extracted_shape task name number to new_name kind old mid l g x = grind (arith, hands_shape, not_false)

joined_rest : (task member after : ℕ) (old mid : State) → JoinsSet task member after old mid → mid ≡ record old { sets_of = mid.sets_of }
joined_rest task member after old mid j = grind arith

-- a send that is answered with 0
pub record IsAccepted (old : State) (event : Event) (reply : Reply) (mid : State) : Type 0 where
  pub task : ℕ
  pub bytes : List ℕ
  pub is_event : event ≡ Event.Send task bytes
  pub is_reply : reply ≡ Reply.Code 0
  pub origin : ℕ
  pub m : Message
  pub lives : old.live_port m.destination ≡ true
  pub log : (p : ℕ) → mid.log p ≡ at old.log m.destination (old.log m.destination ++ entry origin m ∷ []) p
  pub taken : (p : ℕ) → mid.taken p ≡ old.taken p
  pub live : mid.live_port ≡ old.live_port
  pub made : mid.ports_made ≡ old.ports_made

-- an event that takes the front entry of a port
pub record TakesBy (old : State) (event : Event) (reply : Reply) (new : State) : Type 0 where
  pub task : ℕ
  pub port : ℕ
  pub asks : AsksFrom old event task port
  pub e : Entry
  pub front : IsFront old port e
  pub counts : (entries : List Entry) → if_taken event reply entries ≡ entries
  pub taken : new.taken port ≡ old.taken port + 1
  pub others : (p : ℕ) → p ≢ port → new.taken p ≡ old.taken p

pub record IsTaken (old : State) (event : Event) (reply : Reply) (mid : State) : Type 0 where
  pub log : (p : ℕ) → mid.log p ≡ old.log p
  pub takes : TakesBy old event reply mid
  pub lives : old.live_port takes.port ≡ true
  pub one : takes_from event reply ≡ 1
  pub none : accepts event reply ≡ 0
  pub live : mid.live_port ≡ old.live_port
  pub made : mid.ports_made ≡ old.ports_made

abbrev pub Effect : (old : State) (event : Event) (reply : Reply) (mid : State) → Type 0
Effect old event reply mid = Untouched old mid × (takes_from event reply ≡ 0) × (accepts event reply ≡ 0) ⊎ IsAccepted old event reply mid ⊎ IsTaken old event reply mid

taken_by : (old : State) (event : Event) (reply : Reply) (mid : State) (task p : ℕ) (e : Entry) → AsksFrom old event task p → old.live_port p ≡ true → IsFront old p e →
    ((entries : List Entry) → if_taken event reply entries ≡ entries) → takes_from event reply ≡ 1 → accepts event reply ≡ 0 →
    ((q : ℕ) → mid.log q ≡ old.log q) → ((q : ℕ) → mid.taken q ≡ at old.taken p (old.taken p + 1) q) → mid.live_port ≡ old.live_port → mid.ports_made ≡ old.ports_made → Effect old event reply mid
taken_by old event reply mid task p e asks lives front counts one none log taken live made = inr (inr (record {
  lives = lives;
  one = one;
  none = none;
  log = log;
  live = live;
  made = made;
  takes = record {
    task = task;
    port = p;
    asks = asks;
    e = e;
    front = front;
    counts = counts;
    taken = taken p ∙ at_own old.taken p (old.taken p + 1);
    others = λ q not. taken q ∙ at_other old.taken p (old.taken p + 1) q not;
  };
}))

-- a message that was too long
too_long : (old : State) (event : Event) (n : ℕ) (mid : State) (owed : Owed) (task p : ℕ) (e : Entry) (large : Bool) → AsksFrom old event task p → old.live_port p ≡ true →
    ((entries : List Entry) → if_taken event (Reply.TooLarge n) entries ≡ unless_large large entries) → takes_from event (Reply.TooLarge n) ≡ (if large then 0 else 1) → accepts event (Reply.TooLarge n) ≡ 0 →
    MatchBool large ((mid ≡ old) × (owed ≡ [])) (DestroysFront p e old mid owed) → Effect old event (Reply.TooLarge n) mid
too_long old event n mid owed task p e true asks lives counts one none d = inl (by_same old mid old d.0 (λ p. refl) (λ p. refl) (λ p. refl) refl, one, none)
too_long old event n mid owed task p e false asks lives counts one none d = grind (arith, taken_by, lives)

pub Does-effect : (now : ℕ) (old : State) (event : Event) (reply : Reply) (mid : State) (owed : Owed) → IsLawful old → NoneHolds (guards old event) →
    Does now old event reply mid owed → Effect old event reply mid
Does-effect now old Event.TaskCreate (Reply.Task task) mid owed l g d = inl (by_same old mid _ d.0.rest (λ p. refl) (λ p. refl) (λ p. refl) refl, refl, refl)
Does-effect now old (Event.TaskTerminate task) (Reply.Code code) mid owed l g d = inl (ends_untouched task old mid owed d.1, refl, refl)
Does-effect now old (Event.Allocate task right) (Reply.Name name) mid owed l g d =
    let u = makes_untouched task right name (gives task name old) mid (gives-lawful task name old l) d.1 in inl (record { log = u.log; taken = u.taken; live = u.live; made = u.made }, refl, refl)
Does-effect now old (Event.AllocateName task right name) (Reply.Name told) mid owed l g d = inl (makes_untouched task right name old mid l d.1, refl, refl)
Does-effect now old (Event.Deallocate task name) (Reply.Code code) mid owed l g d = inl (deallocates_untouched task name old mid owed d.1, refl, refl)
Does-effect now old (Event.Destroy task name) (Reply.Code code) mid owed l g d = inl (destroys_untouched task name old mid owed d.1, refl, refl)
Does-effect now old (Event.ModRefs task name right delta) (Reply.Code code) mid owed l g d = inl (modifies_untouched task name right delta old mid owed d.1, refl, refl)
Does-effect now old (Event.Rename task o n) (Reply.Code code) mid owed l g d = inl (renames_untouched task o n old mid d.1, refl, refl)
Does-effect now old (Event.SetQlimit task name n) (Reply.Code code) mid owed l g d = inl (by_same old mid _ d.1.3 (λ p. refl) (λ p. refl) (λ p. refl) refl, refl, refl)
Does-effect now old (Event.SetMscount task name n) (Reply.Code code) mid owed l g d = inl (by_same old mid _ d.2.3 (λ p. refl) (λ p. refl) (λ p. refl) refl, refl, refl)
Does-effect now old (Event.SetSeqno task name n) (Reply.Code code) mid owed l g d = inl (by_same old mid _ d.2.3 (λ p. refl) (λ p. refl) (λ p. refl) refl, refl, refl)
Does-effect now old (Event.Names task) (Reply.Names entries) mid owed l g d = inl (by_same old mid old d.0 (λ p. refl) (λ p. refl) (λ p. refl) refl, refl, refl)
Does-effect now old (Event.GetRefs task name right) (Reply.Refs n) mid owed l g d = inl (by_same old mid old d.0 (λ p. refl) (λ p. refl) (λ p. refl) refl, refl, refl)
Does-effect now old (Event.NameType task name) (Reply.NameType n) mid owed l g d = inl (by_same old mid old d.0 (λ p. refl) (λ p. refl) (λ p. refl) refl, refl, refl)
Does-effect now old (Event.ReceiveStatus task name) (Reply.Status status) mid owed l g d = inl (by_same old mid old d.0 (λ p. refl) (λ p. refl) (λ p. refl) refl, refl, refl)
Does-effect now old (Event.SetStatus task name) (Reply.Members members) mid owed l g d = inl (by_same old mid old d.0 (λ p. refl) (λ p. refl) (λ p. refl) refl, refl, refl)
Does-effect now old (Event.MoveMember task member after) (Reply.Code code) mid owed l g d =
    inl (by_same old mid _ (joined_rest task member after old mid d.1) (λ p. refl) (λ p. refl) (λ p. refl) refl, refl, refl)
Does-effect now old (Event.InsertMember task member set) (Reply.Code code) mid owed l g d = inl (by_same old mid _ d.1.rest (λ p. refl) (λ p. refl) (λ p. refl) refl, refl, refl)
Does-effect now old (Event.ExtractMember task member set) (Reply.Code code) mid owed l g d = inl (by_same old mid _ d.1.rest (λ p. refl) (λ p. refl) (λ p. refl) refl, refl, refl)
Does-effect now old (Event.InsertRight task name from poly number) (Reply.Code code) mid owed l g d =
    inl (by_same old mid _ (inserted_shape task name from poly number old mid l g d.1) (λ p. refl) (λ p. refl) (λ p. refl) refl, refl, refl)
Does-effect now old (Event.ExtractRight task name number to) (Reply.Right new_name kind) mid owed l g d =
    inl (by_same old mid _ (extracted_shape task name number to new_name kind old mid l g d.0) (λ p. refl) (λ p. refl) (λ p. refl) refl, refl, refl)
Does-effect now old (Event.RequestNotification task name variant sync notify number) (Reply.Previous previous) mid owed l g d =
    inl (requests_untouched task name variant sync notify number previous old mid owed d, refl, refl)
Does-effect now old (Event.Send task bytes) (Reply.Code code) mid owed l g d =
    inr (inl (record {
      task = task;
      bytes = bytes;
      is_event = refl;
      is_reply = ap Reply.Code d.0;
      origin = now;
      m = d.1.m;
      lives = sent_lives now task bytes old mid l d.1;
      log = sent_log now task bytes old mid l d.1;
      taken = sent_taken now task bytes old mid l d.1;
      live = sent_live now task bytes old mid l d.1;
      made = sent_made now task bytes old mid l d.1;
    }))
Does-effect now old (Event.Receive task name room large) (Reply.Message bytes) mid owed l g d =
    let x = received_state task d.2.0 room bytes old mid l (TakesFrom-live old l task d.0 d.2.0 d.2.1) (not_false (old.live_task task) g.0) d.2.2 in
    taken_by old (Event.Receive task name room large) (Reply.Message bytes) mid task d.2.0 d.2.2.e (refl, d.0, d.1, d.2.1) (TakesFrom-live old l task d.0 d.2.0 d.2.1) d.2.2.takes.front (λ xs. refl) refl refl x.log x.taken x.live x.made
Does-effect now old (Event.Receive task name room large) (Reply.Empty told) mid owed l g d = inl (by_same old mid old d.2.2 (λ p. refl) (λ p. refl) (λ p. refl) refl, refl, refl)
Does-effect now old (Event.Receive task name room large) (Reply.TooLarge n) mid owed l g (waited, waits, (p, e, from, front, is, over, what)) =
    too_long old (Event.Receive task name room large) n mid owed task p e large (refl, waited, waits, from) (TakesFrom-live old l task waited p from) (λ xs. refl) refl refl what
Does-effect now old (Event.Receive task name room large) reply mid owed l g d = absurd d.2
Does-effect now old (Event.ReceiveAgain task waited room large) (Reply.Message bytes) mid owed l g d =
    let x = received_state task d.0 room bytes old mid l (TakesFrom-live old l task waited d.0 d.1) (not_false (old.live_task task) g.0) d.2 in
    taken_by old (Event.ReceiveAgain task waited room large) (Reply.Message bytes) mid task d.0 d.2.e (refl, d.1) (TakesFrom-live old l task waited d.0 d.1) d.2.takes.front (λ xs. refl) refl refl x.log x.taken x.live x.made
Does-effect now old (Event.ReceiveAgain task waited room large) (Reply.Empty told) mid owed l g d = inl (by_same old mid old d.2 (λ p. refl) (λ p. refl) (λ p. refl) refl, refl, refl)
Does-effect now old (Event.ReceiveAgain task waited room large) (Reply.TooLarge n) mid owed l g (p, e, from, front, is, over, what) =
    too_long old (Event.ReceiveAgain task waited room large) n mid owed task p e large (refl, from) (TakesFrom-live old l task waited p from) (λ xs. refl) refl refl what
Does-effect now old event reply mid owed l g d = absurd d

-- ---- sends

pub Done-accepts : (now : ℕ) (old : State) (task : ℕ) (bytes : List ℕ) (new : State) → IsLawful old → Done now old (Event.Send task bytes) (Reply.Code 0) new → Accepts now task bytes old new
Done-accepts now old task bytes new l d =
    let s = d.does.1 in
    let p = s.m.destination in
    let log = sent_log now task bytes old d.mid l s in
    let tells = done_tells now old (Event.Send task bytes) (Reply.Code 0) new d in
    record {
      m = s.m;
      means = Sends-means now task bytes old d.mid (record { no_null = (l.naming task).not_null; no_dead = (l.naming task).not_dead }) s;
      appended = subst (Tells now old (Event.Send task bytes) (Reply.Code 0) new p) (log p ∙ at_own old.log p (old.log p ++ entry now s.m ∷ [])) (tells p);
      others = λ q not. subst (Tells now old (Event.Send task bytes) (Reply.Code 0) new q) (log q ∙ at_other old.log p (old.log p ++ entry now s.m ∷ []) q not) (tells q);
    }

-- the next step after a run, where it accepts a send
pub Step-accepts : (now : ℕ) (old : State) (task : ℕ) (bytes : List ℕ) (new : State) → IsLawful old → Step now old (Event.Send task bytes) (Reply.Code 0) new → Accepts now task bytes old new
Step-accepts now old task bytes new l (inl r) =
    absurd (let some = (send_code old task bytes r.code r.refuses).some in let none : 0 ≡ r.code = same_code 0 r.code r.told in omega (arith, some, none))
Step-accepts now old task bytes new l (inr d) = Done-accepts now old task bytes new l d

-- A step brings notices to the logs and nothing else, or it accepts a send.
pub record AcceptsBy (now : ℕ) (old : State) (event : Event) (reply : Reply) (new : State) : Type 0 where
  pub task : ℕ
  pub bytes : List ℕ
  pub is_event : event ≡ Event.Send task bytes
  pub is_reply : reply ≡ Reply.Code 0
  pub accepts : Accepts now task bytes old new

abbrev pub IsNoSend : Event → Reply → Type 0
IsNoSend event reply = (task : ℕ) (bytes : List ℕ) → event ≡ Event.Send task bytes → reply ≡ Reply.Code 0 → ⊥

longer : {A : Type 0} (xs : List A) (y : A) → xs ≡ xs ++ y ∷ [] → ⊥
longer {A} xs y e = let a = ap length e in let b = length-append xs (y ∷ []) in omega (arith, a, b)

-- an event that leaves the logs is no send
leaves_logs : (now : ℕ) (old : State) (event : Event) (reply : Reply) (mid : State) (owed : Owed) → IsLawful old → Does now old event reply mid owed → ((p : ℕ) → mid.log p ≡ old.log p) → IsNoSend event reply
leaves_logs now old event reply mid owed l does same task bytes is_send is_done =
    let d : Does now old (Event.Send task bytes) (Reply.Code 0) mid owed =
    subst (λ (r : Reply). Does now old (Event.Send task bytes) r mid owed) is_done (subst (λ (e : Event). Does now old e reply mid owed) is_send does) in
    let s = d.1 in
    let p = s.m.destination in
    longer (old.log p) (entry now s.m) (sym (same p) ∙ sent_log now task bytes old mid l s p ∙ at_own old.log p (old.log p ++ entry now s.m ∷ []))

refused_is_none : (old : State) (event : Event) (reply : Reply) (new : State) → Refused old event reply new → IsNoSend event reply
refused_is_none old event reply new r task bytes is_send is_done = grind (arith, send_code, same_code)

pub Step-logs : (now : ℕ) (old : State) (event : Event) (reply : Reply) (new : State) → IsLawful old → Step now old event reply new →
    ((p : ℕ) → Tells now old event reply new p (old.log p)) × IsNoSend event reply ⊎ AcceptsBy now old event reply new
Step-logs now old event reply new l (inl r) = inl ((λ p. tells_nothing now old event reply new p (ap (λ (x : State). x.log p) r.same)), refused_is_none old event reply new r)
Step-logs now old event reply new l (inr d) = by (Does-effect now old event reply d.mid d.owed l d.unrefused d.does)
  where
    from_mid : ((p : ℕ) → d.mid.log p ≡ old.log p) → (p : ℕ) → Tells now old event reply new p (old.log p)
    from_mid same p = subst (Tells now old event reply new p) (same p) (done_tells now old event reply new d p)

    by : Effect old event reply d.mid → ((p : ℕ) → Tells now old event reply new p (old.log p)) × IsNoSend event reply ⊎ AcceptsBy now old event reply new
    by (inl u) = inl (from_mid u.0.log, leaves_logs now old event reply d.mid d.owed l d.does u.0.log)
    by (inr (inl a)) = inr (record {
      task = a.task;
      bytes = a.bytes;
      is_event = a.is_event;
      is_reply = a.is_reply;
      accepts = Done-accepts now old a.task a.bytes new l (subst (λ (r : Reply). Done now old (Event.Send a.task a.bytes) r new) a.is_reply (subst (λ (e : Event). Done now old e reply new) a.is_event d));
    })
    by (inr (inr t)) = inl (from_mid t.log, leaves_logs now old event reply d.mid d.owed l d.does t.log)

-- what such a stage leaves of a log
pub stage_tells : (now : ℕ) (x : Stage) (a : AcceptsBy now x.before x.event x.reply x.after) (p : ℕ) (entries : List Entry) →
    Tells now x.before (Event.Send a.task a.bytes) (Reply.Code 0) x.after p entries → Tells now x.before x.event x.reply x.after p entries
stage_tells now x a p entries t = grind arith

-- ---- receipts

-- what a receiver has once the message was taken, it keeps
given : (task port room : ℕ) (bytes : List ℕ) (old mid : State) (r : Receives task port room bytes old mid) → Gives task r.taken mid
given task port room bytes old mid r = (Receives-means task port room bytes old mid r).0

-- a receipt uses the number that its port is at
numbered : (task port room : ℕ) (bytes : List ℕ) (old mid : State) → Receives task port room bytes old mid → mid.sequence port ≡ (old.sequence port + 1) % 2 ^ 32
numbered task port room bytes old mid r =
    ap (λ (f : ℕ → ℕ). f port) ((given task port room bytes old mid r).sequence ∙ ap (λ (s : State). s.sequence) r.takes.rest) ∙ at_own old.sequence port ((old.sequence port + 1) % 2 ^ 32)

-- a receiver loses no receive right
still_holds : (task port room : ℕ) (bytes : List ℕ) (old mid : State) (r : Receives task port room bytes old mid) (q : ℕ) → Holds old task receive q → Holds mid task receive q
still_holds task port room bytes old mid r q holds = grind (
  arith,
  (given task port room bytes old mid r).holds receive q,
  r.takes.tokens (λ x. if is_held task receive q x then 1 else 0),
  both_test (is_of receive q (token r.e.message.kind port (in_message port (old.taken port)))) false (inr refl),
)

module _ (now task room : ℕ) (bytes : List ℕ) (old mid : State) (owed : Owed) (new : State) (waited : Waited) (p : ℕ) (l : IsLawful old) (is_task : old.live_task task ≡ true)
    (t : TakesFrom old task waited p) (r : Receives task p room bytes old mid) (lawful : MidLawful mid owed) (s : Settles now old mid owed new) where
  Receives-delivers : (event : Event) → AsksFrom old event task p → Delivers event bytes old new
  Receives-delivers event asks =
      let lives = TakesFrom-live old l task waited p t in
      let x = received_state task p room bytes old mid l lives is_task r in
      let keeps = (Receives-removes task p room bytes old mid l lives is_task r).keeps in
      let kind = ends_kindly now old mid owed new lawful (λ q o. let a = keeps.one_receive q o.0 in let b = o.1 in omega (arith, a, b)) s task in
      let here = (l.sent_here p (old.taken p) r.e r.takes.front).0 in
      let holds = still_holds task p room bytes old mid r p (TakesFrom-holds old l task waited p t) in
      let means = Receives-received task p room bytes old mid r here holds in
      let live : new.live_port ≡ old.live_port = kind.live ∙ x.live in
      let taken : (q : ℕ) → new.taken q ≡ at old.taken p (old.taken p + 1) q = λ q. ap (λ (y : State). y.taken q) s.rest ∙ x.taken q in
      record {
        task = task;
        port = p;
        asks = asks;
        e = r.e;
        front = r.takes.front;
        means = subst (λ (f : ℕ → Bool). ReceivedMeans task old new bytes (asof f r.e.message)) (sym live)
            (ReceivedMeans-later task old mid new bytes (asof old.live_port r.e.message) kind means);
        taken = taken p ∙ at_own old.taken p (old.taken p + 1);
        next = ap (λ (f : ℕ → ℕ). f p) kind.sequence ∙ numbered task p room bytes old mid r;
        others = λ q not. taken q ∙ at_other old.taken p (old.taken p + 1) q not;
      }

-- what an event does that is answered with a message
Does-delivers : (now : ℕ) (old : State) (event : Event) (bytes : List ℕ) (mid : State) (owed : Owed) (new : State) → IsLawful old → NoneHolds (guards old event) →
    Does now old event (Reply.Message bytes) mid owed → MidLawful mid owed → Settles now old mid owed new → Delivers event bytes old new
Does-delivers now old (Event.Receive task name room large) bytes mid owed new l g d lawful s =
    Receives-delivers now task room bytes old mid owed new d.0 d.2.0 l (not_false (old.live_task task) g.0) d.2.1 d.2.2 lawful s (Event.Receive task name room large) (refl, d.0, d.1, d.2.1)
Does-delivers now old (Event.ReceiveAgain task waited room large) bytes mid owed new l g d lawful s =
    Receives-delivers now task room bytes old mid owed new waited d.0 l (not_false (old.live_task task) g.0) d.1 d.2 lawful s (Event.ReceiveAgain task waited room large) (refl, d.1)
Does-delivers now old event bytes mid owed new l g d lawful s = absurd d

-- the next step after a run, where it gives a message
pub Step-delivers : (now : ℕ) (old : State) (event : Event) (bytes : List ℕ) (new : State) → IsLawful old → Step now old event (Reply.Message bytes) new → Delivers event bytes old new
Step-delivers now old event bytes new l (inl r) = absurd (no_code bytes r.code r.told)
  where
    no_code : (bytes : List ℕ) (code : ℕ) → Reply.Message bytes ≡ Reply.Code code → ⊥
    no_code bytes code e = cc
Step-delivers now old event bytes new l (inr d) =
    Does-delivers now old event bytes d.mid d.owed new l d.unrefused d.does (Does-mid now old event (Reply.Message bytes) d.mid d.owed d.unrefused d.does d.judged l) d.settles

-- ---- what a step takes

-- A step takes nothing from any port, or the front entry of one.
pub Step-taken : (now : ℕ) (old : State) (event : Event) (reply : Reply) (new : State) → IsLawful old → Step now old event reply new →
    ((p : ℕ) → new.taken p ≡ old.taken p) ⊎ TakesBy old event reply new
Step-taken now old event reply new l (inl r) = inl (λ p. ap (λ (x : State). x.taken p) r.same)
Step-taken now old event reply new l (inr d) = by (Does-effect now old event reply d.mid d.owed l d.unrefused d.does)
  where
    same : (p : ℕ) → new.taken p ≡ d.mid.taken p
    same p = ap (λ (x : State). x.taken p) d.settles.rest

    by : Effect old event reply d.mid → ((p : ℕ) → new.taken p ≡ old.taken p) ⊎ TakesBy old event reply new
    by (inl u) = inl (λ p. same p ∙ u.0.taken p)
    by (inr (inl a)) = inl (λ p. same p ∙ a.taken p)
    by (inr (inr t)) =
        let x = t.takes in
        inr (record {
          task = x.task;
          port = x.port;
          asks = x.asks;
          e = x.e;
          front = x.front;
          counts = x.counts;
          taken = same x.port ∙ x.taken;
          others = λ q not. same q ∙ x.others q not;
        })

-- ---- Runs stage by stage: what holds of each state that a run passes.

-- ---- runs and paths

-- the stages of a run
pub record Staged (now : ℕ) (old : State) (events : List Event) (replies : List Reply) (new : State) : Type 0 where
  pub path : List Stage
  pub is_path : PathBy Step now old path new
  pub events_are : list_map (λ (x : Stage). x.event) path ≡ events
  pub replies_are : list_map (λ (x : Stage). x.reply) path ≡ replies

pub run_stages : (now : ℕ) (old : State) (events : List Event) (replies : List Reply) (new : State) → RunFrom now old events replies new → Staged now old events replies new
run_stages now old [] [] new r = record { path = []; is_path = r; events_are = refl; replies_are = refl }
run_stages now old (e ∷ es) (x ∷ xs) new r =
    let rest = run_stages (now + 1) r.0 es xs new r.2 in
    let stage : Stage = record { before = old; event = e; reply = x; after = r.0 } in
    record {
      path = stage ∷ rest.path;
      is_path = (refl, r.1, rest.is_path);
      events_are = ap (λ (ys : List Event). e ∷ ys) rest.events_are;
      replies_are = ap (λ (ys : List Reply). x ∷ ys) rest.replies_are;
    }
run_stages now old [] (x ∷ xs) new r = absurd r
run_stages now old (e ∷ es) [] new r = absurd r

pub path_runs : (now : ℕ) (old : State) (path : List Stage) (new : State) → PathBy Step now old path new →
    RunFrom now old (list_map (λ (x : Stage). x.event) path) (list_map (λ (x : Stage). x.reply) path) new
path_runs now old [] new h = h
path_runs now old (x ∷ xs) new h =
    (x.after, subst (λ (s : State). Step now s x.event x.reply x.after) h.0 h.1, path_runs (now + 1) x.after xs new h.2)

-- a path goes on by one stage
pub path_push : (now : ℕ) (old : State) (path : List Stage) (s : State) (event : Event) (reply : Reply) (t : State) →
    PathBy Step now old path s → Step (now + length path) s event reply t → PathBy Step now old (path ++ record { before = s; event = event; reply = reply; after = t } ∷ []) t
path_push now old [] s event reply t path step = (path, subst (λ (n : ℕ). Step n s event reply t) (omega arith) step, refl)
path_push now old (x ∷ xs) s event reply t path step =
    (path.0, path.1, path_push (now + 1) x.after xs s event reply t path.2 (subst (λ (n : ℕ). Step n s event reply t) (omega arith) step))

pub path_lawful : (profile : Profile) (path : List Stage) (s : State) → JudgedPath profile path s → IsLawful s
path_lawful profile path s is = Run-lawful profile (list_map (λ (x : Stage). x.event) path) (list_map (λ (x : Stage). x.reply) path) s (path_runs 0 (opening_in profile) path s is)

-- ---- what holds of each state

-- What every step keeps holds before each stage of the path, and at its end.
module _ (full : List Stage) (P : ℕ → State → Type 0)
    (keeps : (now : ℕ) (x : Stage) → slice_get full now ≡ Some x → Step now x.before x.event x.reply x.after → P now x.before → P (now + 1) x.after) where
  walk : (now : ℕ) (old : State) (rest : List Stage) (new : State) → ((j : ℕ) → slice_get rest j ≡ slice_get full (now + j)) → PathBy Step now old rest new → P now old →
      ((j : ℕ) (x : Stage) → slice_get rest j ≡ Some x → P (now + j) x.before × Step (now + j) x.before x.event x.reply x.after) × P (now + length rest) new
  walk now old [] new same path holds = grind arith
  walk now old (y ∷ ys) new same path holds =
      let before : P now y.before = subst (P now) (sym path.0) holds in
      let is_y : slice_get full now ≡ Some y = ap (slice_get full) (omega arith) ∙ sym (same 0) in
      let after = keeps now y is_y path.1 before in
      let shift : (j : ℕ) → now + 1 + j ≡ now + suc j = λ j. omega arith in
      let rest = walk (now + 1) y.after ys new (λ j. same (suc j) ∙ ap (slice_get full) (sym (shift j))) path.2 after in
      (at before rest.0, subst (λ (n : ℕ). P n new) (omega arith) rest.1)
    where
      at : P now y.before → ((j : ℕ) (x : Stage) → slice_get ys j ≡ Some x → P (now + 1 + j) x.before × Step (now + 1 + j) x.before x.event x.reply x.after) →
          (j : ℕ) (x : Stage) → slice_get (y ∷ ys) j ≡ Some x → P (now + j) x.before × Step (now + j) x.before x.event x.reply x.after
      at before rest zero x is =
          let same : y ≡ x = first y x is in
          let here : now ≡ now + zero = omega arith in
          subst (λ (z : Stage). P (now + zero) z.before × Step (now + zero) z.before z.event z.reply z.after) same
          (subst (λ (n : ℕ). P n y.before × Step n y.before y.event y.reply y.after) here (before, path.1))
        where
          first : (a b : Stage) → Some a ≡ Some b → a ≡ b
          first a b e = cc
      at before rest (suc j) x is =
          subst (λ (n : ℕ). P n x.before × Step n x.before x.event x.reply x.after) (omega arith) (rest j x is)

  pub at_stages : (profile : Profile) (s : State) → JudgedPath profile full s → P 0 (opening_in profile) → (k : ℕ) (x : Stage) → slice_get full k ≡ Some x → P k x.before × Step k x.before x.event x.reply x.after
  at_stages profile s path holds k x is =
      subst (λ (n : ℕ). P n x.before × Step n x.before x.event x.reply x.after) (omega arith)
      ((walk 0 (opening_in profile) full s (λ j. ap (slice_get full) (omega arith)) path holds).0 k x is)

  pub at_end : (profile : Profile) (s : State) → JudgedPath profile full s → P 0 (opening_in profile) → P (length full) s
  at_end profile s path holds = subst (λ (n : ℕ). P n s) (omega arith) (walk 0 (opening_in profile) full s (λ j. ap (slice_get full) (omega arith)) path holds).1

-- each state that a run passes is lawful
pub stage_lawful : (profile : Profile) (path : List Stage) (s : State) → JudgedPath profile path s → (k : ℕ) (x : Stage) → slice_get path k ≡ Some x → IsLawful x.before × Step k x.before x.event x.reply x.after
stage_lawful profile path s is = at_stages path (λ n t. IsLawful t) (λ now x at step l. Step-lawful now x.before x.event x.reply x.after step l) profile s is (opening-lawful profile)

-- ---- Each message that is received was sent by an earlier stage of the run, or is a notice that one made.

-- where an entry of a port's log, at this place, came from: a stage before
abbrev IsFrom : (full : List Stage) (now p k : ℕ) (e : Entry) → Type 0
IsFrom full now p k e = (e.origin < now) × CameBy full p k e

record Known (full : List Stage) (now : ℕ) (s : State) : Type 0 where
  lawful : IsLawful s
  from : (p k : ℕ) (e : Entry) → slice_get (s.log p) k ≡ Some e → IsFrom full now p k e

later : (full : List Stage) (now p k : ℕ) (e : Entry) → IsFrom full now p k e → IsFrom full (now + 1) p k e
later full now p k e w = (let h = w.0 in omega (arith, h), w.1)

-- the entry that a stage accepts
just_accepted : (full : List Stage) (now : ℕ) (x : Stage) → slice_get full now ≡ Some x → (a : AcceptsBy now x.before x.event x.reply x.after) →
    IsFrom full (now + 1) a.accepts.m.destination (length (x.before.log a.accepts.m.destination)) (entry now a.accepts.m)
just_accepted full now x is a =
    (omega arith, (x, is, inl (record { sender = a.task; sent = a.bytes; event = a.is_event; reply = a.is_reply; meant = a.accepts.means; here = refl }, refl)))

-- the notices that a stage makes
just_told : (full : List Stage) (now : ℕ) (x : Stage) (p k : ℕ) (e : Entry) → slice_get full now ≡ Some x → IsToldBy now x.before x.event x.reply x.after p k e → IsFrom full (now + 1) p k e
just_told full now x p k e is told =
    let same : e.origin ≡ now = ap (λ (y : Entry). y.origin) told.is_notice in
    (omega (arith, same), (x, ap (slice_get full) same ∙ is, inr (subst (λ (n : ℕ). IsToldBy n x.before x.event x.reply x.after p k e) (sym same) told)))

-- what stands behind these entries in a log after a stage
from_log : (full : List Stage) (now : ℕ) (x : Stage) (p : ℕ) (before : List Entry) → slice_get full now ≡ Some x → Tells now x.before x.event x.reply x.after p before →
    ((k : ℕ) (e : Entry) → slice_get before k ≡ Some e → IsFrom full (now + 1) p k e) → (k : ℕ) (e : Entry) → slice_get (x.after.log p) k ≡ Some e → IsFrom full (now + 1) p k e
from_log full now x p before is t there k e at = elim (front_or_behind before t.told k e (ap (λ (xs : List Entry). slice_get xs k) (sym t.log) ∙ at)) [
  | inl h ↦ there k e h
  | inr h ↦ just_told full now x p k e is (subst (λ (n : ℕ). IsToldBy now x.before x.event x.reply x.after p n e) (sym h.1) (t.are_told h.0 e h.2))
]

stays_known : (full : List Stage) (now : ℕ) (x : Stage) → slice_get full now ≡ Some x → Step now x.before x.event x.reply x.after → Known full now x.before → Known full (now + 1) x.after
stays_known full now x is step known = record {
  lawful = Step-lawful now x.before x.event x.reply x.after step known.lawful;
  from = λ p. by_logs p (Step-logs now x.before x.event x.reply x.after known.lawful step);
}
  where
    old : (p k : ℕ) (e : Entry) → slice_get (x.before.log p) k ≡ Some e → IsFrom full (now + 1) p k e
    old p k e at = later full now p k e (known.from p k e at)

    -- the port that a send was accepted for
    sent_there : (a : AcceptsBy now x.before x.event x.reply x.after) (k : ℕ) (e : Entry) →
        slice_get (x.before.log a.accepts.m.destination ++ entry now a.accepts.m ∷ []) k ≡ Some e → IsFrom full (now + 1) a.accepts.m.destination k e
    sent_there a k e at = elim (snoc_cases (x.before.log a.accepts.m.destination) (entry now a.accepts.m) k e at) [
      | inl g ↦ old a.accepts.m.destination k e g.1
      | inr g ↦ subst (λ (f : Entry). IsFrom full (now + 1) a.accepts.m.destination k f) (sym g.1)
          (subst (λ (n : ℕ). IsFrom full (now + 1) a.accepts.m.destination n (entry now a.accepts.m)) (sym g.0) (just_accepted full now x is a))
    ]

    by_logs : (p : ℕ) → ((p : ℕ) → Tells now x.before x.event x.reply x.after p (x.before.log p)) × IsNoSend x.event x.reply ⊎ AcceptsBy now x.before x.event x.reply x.after →
        (k : ℕ) (e : Entry) → slice_get (x.after.log p) k ≡ Some e → IsFrom full (now + 1) p k e
    by_logs p (inl t) = from_log full now x p (x.before.log p) is (t.0 p) (old p)
    by_logs p (inr a) = elim (eqb_tells p a.accepts.m.destination) [
      | inl h ↦ subst (λ (q : ℕ). (k : ℕ) (e : Entry) → slice_get (x.after.log q) k ≡ Some e → IsFrom full (now + 1) q k e) (sym h.1)
          (from_log full now x a.accepts.m.destination (x.before.log a.accepts.m.destination ++ entry now a.accepts.m ∷ []) is (stage_tells now x a a.accepts.m.destination _ a.accepts.appended) (sent_there a))
      | inr h ↦ from_log full now x p (x.before.log p) is (stage_tells now x a p _ (a.accepts.others p h.1)) (old p)
    ]

nothing_known : (profile : Profile) (full : List Stage) → Known full 0 (opening_in profile)
nothing_known profile full = record { lawful = opening-lawful profile; from = λ p k e at. absurd (no_entry k e at) }
  where
    no_entry : (k : ℕ) (e : Entry) → slice_get [] k ≡ Some e → ⊥
    no_entry k e at = cc

-- what a stage delivers was accepted before, or told
delivered : (full : List Stage) (k : ℕ) (bytes : List ℕ) (x : Stage) → Known full k x.before → (d : Delivers x.event bytes x.before x.after) → GivesWhatCame full k bytes x
delivered full k bytes x known d = let w = known.from d.port (x.before.taken d.port) d.e d.front in record { delivers = d; earlier = w.0; came = w.1 }

pub path_told : (profile : Profile) (path : List Stage) (s : State) → JudgedPath profile path s → (k : ℕ) (bytes : List ℕ) (x : Stage) → slice_get path k ≡ Some x → x.reply ≡ Reply.Message bytes → GivesWhatCame path k bytes x
path_told profile path s is k bytes x at reply =
    let h = at_stages path (Known path) (stays_known path) profile s is (nothing_known profile path) k x at in
    let step = subst (λ (r : Reply). Step k x.before x.event r x.after) reply h.1 in
    delivered path k bytes x h.0 (Step-delivers k x.before x.event bytes x.after h.0.lawful step)

-- ---- A port's messages are taken in the order in which they came, each once.

either_way : (b : Bool) → unless_large b [] ≡ []
either_way true = refl
either_way false = refl

none_taken : (event : Event) (reply : Reply) → if_taken event reply [] ≡ []
none_taken (Event.Receive task name room large) (Reply.Message bytes) = refl
none_taken (Event.Receive task name room large) (Reply.TooLarge n) = either_way large
none_taken (Event.ReceiveAgain task waited room large) (Reply.Message bytes) = refl
none_taken (Event.ReceiveAgain task waited room large) (Reply.TooLarge n) = either_way large
none_taken event reply = refl

take_one : {A : Type 0} (n : ℕ) (xs : List A) (y : A) → slice_get xs n ≡ Some y → take (n + 1) xs ≡ take n xs ++ y ∷ []
take_one n [] y is = absurd (cc)
take_one zero (x ∷ xs) y is = let same : x ≡ y = cc in ap (λ z. z ∷ []) same
take_one (suc n) (x ∷ xs) y is = grind (arith, take_one n xs y is)

-- ---- what one stage brings

drop_front : {A : Type 0} (xs ys : List A) → drop (length xs) (xs ++ ys) ≡ ys
drop_front [] ys = refl
drop_front (x ∷ xs) ys = drop_front xs ys

brings : (now p : ℕ) (x : Stage) (sent : List Entry) → ((m : Message) → ¬ (IsSentBy x p m)) × (sent ≡ []) ⊎ ((m : Message) × IsSentBy x p m × (sent ≡ entry now m ∷ [])) →
    Tells now x.before x.event x.reply x.after p (x.before.log p ++ sent) → Comes now p x
brings now p x sent is t = record {
  sent = sent;
  is_sent = is;
  tells = t;
  are_new = ap (drop (length (x.before.log p))) (t.log ∙ append_assoc (x.before.log p) sent t.told) ∙ drop_front (x.before.log p) (sent ++ t.told);
}

only_told : (now p : ℕ) (x : Stage) → ((m : Message) → ¬ (IsSentBy x p m)) → Tells now x.before x.event x.reply x.after p (x.before.log p) → Comes now p x
only_told now p x not t = brings now p x [] (inl (not, refl)) (subst (Tells now x.before x.event x.reply x.after p) (sym (append-nil (x.before.log p))) t)

pub stage_comes : (now : ℕ) (x : Stage) (p : ℕ) → IsLawful x.before → Step now x.before x.event x.reply x.after → Comes now p x
stage_comes now x p l step = go (Step-logs now x.before x.event x.reply x.after l step)
  where
    sent_here : (a : AcceptsBy now x.before x.event x.reply x.after) → Comes now a.accepts.m.destination x
    sent_here a = brings now a.accepts.m.destination x (entry now a.accepts.m ∷ [])
        (inr (a.accepts.m, record { sender = a.task; sent = a.bytes; event = a.is_event; reply = a.is_reply; meant = a.accepts.means; here = refl }, refl))
        (stage_tells now x a a.accepts.m.destination _ a.accepts.appended)

    -- to another port nothing was sent
    elsewhere : (a : AcceptsBy now x.before x.event x.reply x.after) → (p ≡ a.accepts.m.destination → ⊥) → (m : Message) → ¬ (IsSentBy x p m)
    elsewhere a not m s =
        let same = same_send s.sender a.task s.sent a.bytes (sym s.event ∙ a.is_event) in
        let meant = subst (λ (bytes : List ℕ). SentMeans (x.before.naming a.task) bytes m) same.1 (subst (λ (t : ℕ). SentMeans (x.before.naming t) s.sent m) same.0 s.meant) in
        not (sym s.here ∙ one_destination (x.before.naming a.task) a.bytes m a.accepts.m meant a.accepts.means)

    go : ((p : ℕ) → Tells now x.before x.event x.reply x.after p (x.before.log p)) × IsNoSend x.event x.reply ⊎ AcceptsBy now x.before x.event x.reply x.after → Comes now p x
    go (inl t) = only_told now p x (λ m s. t.1 s.sender s.sent s.event s.reply) (t.0 p)
    go (inr a) = elim (eqb_tells p a.accepts.m.destination) [
      | inl h ↦ subst (λ (q : ℕ). Comes now q x) (sym h.1) (sent_here a)
      | inr h ↦ only_told now p x (elsewhere a h.1) (stage_tells now x a p _ (a.accepts.others p h.1))
    ]

-- logs only grow
stage_grows : (now : ℕ) (x : Stage) (p : ℕ) → Comes now p x → x.after.log p ≡ x.before.log p ++ new_entries p x
stage_grows now x p c = c.tells.log ∙ append_assoc (x.before.log p) c.sent c.tells.told ∙ ap (λ (xs : List Entry). x.before.log p ++ xs) (sym c.are_new)

-- ---- what one stage takes

same_taken : (x : Stage) (p : ℕ) → x.after.taken p ≡ x.before.taken p → if_taken x.event x.reply (front_entry p x) ≡ []
same_taken x p same = grind (arith, eq-eqb, none_taken)

-- The stage takes what was there before it, and in order.
record Taking (x : Stage) (p : ℕ) : Type 0 where
  within : x.after.taken p ≤ length (x.before.log p)
  takes : take (x.after.taken p) (x.before.log p) ≡ take (x.before.taken p) (x.before.log p) ++ if_taken x.event x.reply (front_entry p x)

stage_takes : (now : ℕ) (x : Stage) (p : ℕ) → IsLawful x.before → Step now x.before x.event x.reply x.after → Taking x p
stage_takes now x p l step = go (Step-taken now x.before x.event x.reply x.after l step)
  where
    none : x.after.taken p ≡ x.before.taken p → Taking x p
    none same = record {
      within = let w = l.within p in omega (arith, w, same);
      takes = ap (λ (n : ℕ). take n (x.before.log p)) same ∙ sym (append-nil (take (x.before.taken p) (x.before.log p)))
          ∙ ap (λ (xs : List Entry). take (x.before.taken p) (x.before.log p) ++ xs) (sym (same_taken x p same));
    }

    front : (d : TakesBy x.before x.event x.reply x.after) → Taking x d.port
    front d =
        let taken = d.taken in
        let below = slice_get_within (x.before.log d.port) (x.before.taken d.port) d.e d.front in
        let one : front_entry d.port x ≡ d.e ∷ [] = rw (ne_eqb (x.after.taken d.port) (x.before.taken d.port) (λ e. omega (arith, e, taken))) (ap option_to_list d.front) in
        record {
          within = omega (arith, taken, below);
          takes = ap (λ (n : ℕ). take n (x.before.log d.port)) taken ∙ take_one (x.before.taken d.port) (x.before.log d.port) d.e d.front
              ∙ ap (λ (xs : List Entry). take (x.before.taken d.port) (x.before.log d.port) ++ xs) (sym (d.counts (front_entry d.port x) ∙ one));
        }

    go : ((p : ℕ) → x.after.taken p ≡ x.before.taken p) ⊎ TakesBy x.before x.event x.reply x.after → Taking x p
    go (inl same) = none (same p)
    go (inr d) = elim (eqb_tells p d.port) [
      | inl h ↦ subst (Taking x) (sym h.1) (front d)
      | inr h ↦ none (d.others p h.1)
    ]

-- ---- over all stages

path_comes : (now : ℕ) (old : State) (path : List Stage) (new : State) (p : ℕ) → IsLawful old → PathBy Step now old path new → new.log p ≡ old.log p ++ came p path
path_comes now old [] new p l path = ap (λ (s : State). s.log p) path ∙ sym (append-nil (old.log p))
path_comes now old (x ∷ xs) new p l path =
    let before : IsLawful x.before = subst IsLawful (sym path.0) l in
    let one = stage_grows now x p (stage_comes now x p before path.1) in
    let more = path_comes (now + 1) x.after xs new p (Step-lawful now x.before x.event x.reply x.after path.1 before) path.2 in
    let all : new.log p ≡ x.before.log p ++ (new_entries p x ++ came p xs) =
    more ∙ ap (λ (ys : List Entry). ys ++ came p xs) one ∙ append_assoc (x.before.log p) (new_entries p x) (came p xs) in
    subst (λ (s : State). new.log p ≡ s.log p ++ (new_entries p x ++ came p xs)) path.0 all

path_takes : (now : ℕ) (old : State) (path : List Stage) (new : State) (p : ℕ) → IsLawful old → PathBy Step now old path new →
    take (new.taken p) (new.log p) ≡ take (old.taken p) (old.log p) ++ went p path
path_takes now old [] new p l path = ap (λ (s : State). take (s.taken p) (s.log p)) path ∙ sym (append-nil (take (old.taken p) (old.log p)))
path_takes now old (x ∷ xs) new p l path =
    let before : IsLawful x.before = subst IsLawful (sym path.0) l in
    let after = Step-lawful now x.before x.event x.reply x.after path.1 before in
    let one = stage_takes now x p before path.1 in
    let more = path_takes (now + 1) x.after xs new p after path.2 in
    -- a stage takes no entry that it brings itself
    let kept : take (x.after.taken p) (x.after.log p) ≡ take (x.after.taken p) (x.before.log p) =
    ap (take (x.after.taken p)) (stage_grows now x p (stage_comes now x p before path.1)) ∙ take-append-le (x.after.taken p) (x.before.log p) (new_entries p x) one.within in
    let all : take (new.taken p) (new.log p) ≡ take (x.before.taken p) (x.before.log p) ++ (if_taken x.event x.reply (front_entry p x) ++ went p xs) =
    more ∙ ap (λ (ys : List Entry). ys ++ went p xs) (kept ∙ one.takes) ∙ append_assoc (take (x.before.taken p) (x.before.log p)) (if_taken x.event x.reply (front_entry p x)) (went p xs) in
    subst (λ (s : State). take (new.taken p) (new.log p) ≡ take (s.taken p) (s.log p) ++ (if_taken x.event x.reply (front_entry p x) ++ went p xs)) path.0 all

pub path_ordered : (profile : Profile) (path : List Stage) (s : State) → JudgedPath profile path s → (p : ℕ) → InOrder p path s
path_ordered profile path s is p =
    let log : came p path ≡ s.log p = sym (path_comes 0 (opening_in profile) path s p (opening-lawful profile) is) in
    let taken : went p path ≡ take (s.taken p) (s.log p) = sym (path_takes 0 (opening_in profile) path s p (opening-lawful profile) is) in
    record {
      log = log;
      each = λ k x at. (let h = stage_lawful profile path s is k x at in stage_comes k x p h.0 h.1);
      taken = taken;
      whole = ap (λ (xs : List Entry). xs ++ queue s p) taken ∙ take-append-drop (s.taken p) (s.log p) ∙ sym log;
    }
