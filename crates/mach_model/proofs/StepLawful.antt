-- Every step keeps a lawful state lawful, and a quiet one quiet where no right is lost.
use Rattle.std.proofs.Common.{ℕ, ◌+◌, List, [], ◌∷◌, ◌++◌, refl, subst, arith, length, ◌≡◌, Some, None, sym, ◌<◌, ◌≤◌, Option, true, inl, inr, Bool, false, suc, ◌-◌, ap, ◌∙◌, get_or}
use Rattle.std.specs.Prelude.{slice_get, ℤ, ◌≢◌, MatchBool, if◌then◌else◌, ◌==◌, ◌&&◌, ◌||◌, nat_lt, All}
use Rattle.std.specs.FinMap.{get-empty, len-empty}
use Rattle.std.specs.Ordering.{nat_cmp}
use Rattle.std.proofs.lemmas.Bool.{true_from_ne_false, and_right, or_cases, eq-eqb, ne_eqb, false_from_ne_true, cases_Bool}
use Rattle.std.specs.FinMap as map
use Rattle.std.proofs.lemmas.Bool.Decides.{eqb_tells}
use Rattle.mach_types.specs.declared.calls.Event.{Event}
use Rattle.mach_types.specs.declared.calls.Reply.{Reply}
use Rattle.mach_types.specs.declared.calls.Waited.{Waited}
use Rattle.mach_types.specs.Numbers.{dead_word, most_names}
use Rattle.mach_types.specs.Guards.{NoneHolds}
use Rattle.mach_types.specs.Tokens.{receive, Kind, send, Request, dead_name, Place, in_task, in_message, in_request, Token, token, weigh, count, is_of, is_held, Moves}
use Rattle.mach_model.specs.State.{State, Target, lookup, held, request_at, same_request, without_name, with_name, IsFreshFor, gives, opening_in}
use Rattle.mach_model.specs.Machine.{Step, RunFrom, RunIn, Judged}
use Rattle.mach_model.specs.Acts.{Does}
use Rattle.mach_model.specs.Lawful.{IsLawful}
use Rattle.mach_model.proofs.Midway.{IsQuiet, NoRequests, IsStill, NamesOnce, LosesWhole, Removes, LosesNone, mid_lawful, unowed, calm_lawful}
use Rattle.mach_model.proofs.Names.{no_values, held_le_of, both_test, count_none, count_some, pos_or_zero, lying_le_of, at_other, elsewhere}
use Rattle.mach_model.specs.Names.{Makes, AllocatesPort, renamed_place, renamed_token, renamed_requests, Renames, JoinsSet}
use Rattle.mach_model.specs.Room.{IsFull}
use Rattle.mach_model.specs.Refusals.{guards, modify_guards}
use Rattle.mach_model.specs.NameGuards.{IsNoName, NamesReceive}
use Rattle.mach_model.specs.Receive.{TakesFrom, DestroysFront, Receipt, Receives}
use Rattle.mach_model.specs.Notices.{Owed}
use Rattle.mach_model.specs.Midway.{MidLawful}
use Rattle.mach_model.proofs.Settling.{lives, is_at, own_test, mid_settles}
use Rattle.mach_model.proofs.SettledLawful.{settled_lawful}
use Rattle.mach_model.proofs.SettledEnd.{can_end}
use Rattle.mach_model.proofs.EndingLawful.{EndsTask-mid, DestroysFront-mid, CreatesTask-lawful}
use Rattle.mach_model.proofs.LosingLawful.{Requests-mid, Deallocates-mid, Destroys-mid, Unrefused, Modifies-mid, AreSends, no_sends, same_sends}
use Rattle.mach_model.proofs.NamesLawful.{fresh_new, Makes-mid, JoinsSet-lawful, limit-lawful, make_send-lawful, sequence-lawful, Renames-mid, EntersSet-lawful, gives-lawful, LeavesSet-lawful}
use Rattle.mach_model.proofs.MessagesLawful.{Sends-mid, Sends-adds, Receives-mid, Receives-removes, Inserts-mid, Extracts-mid, is_it, Hands, hands_shape, Inserts-hands, Extracts-hands}
use Rattle.mach_model.specs.Carried.{lying}
use Rattle.mach_model.specs.CopyIn.{name_kept}
use Rattle.mach_model.specs.References.{is_either, LosesAll, Deallocates, Destroys, RemovesRight, Modifies}
use Rattle.mach_model.specs.Send.{Sends}
use Rattle.mach_model.proofs.Moving.{Apart, apart-trans}
use Rattle.mach_model.proofs.Memberships.{few_none}
use Rattle.mach_types.specs.declared.profiles.Profile.{Profile}

-- ---- A run goes on by one step.

pub RunFrom-push : (now : ℕ) (old : State) (es : List Event) (rs : List Reply) (mid : State) (e : Event) (r : Reply) (new : State) →
    RunFrom now old es rs mid → Step (now + length es) mid e r new → RunFrom now old (es ++ e ∷ []) (rs ++ r ∷ []) new
RunFrom-push now old [] [] mid e r new run step =
    (new, subst (λ (x : State). Step now x e r new) run (subst (λ (n : ℕ). Step n mid e r new) (omega arith) step), refl)
RunFrom-push now old (x ∷ es) (y ∷ rs) mid e r new run step =
    (run.0, run.1, RunFrom-push (now + 1) run.0 es rs mid e r new run.2 (subst (λ (n : ℕ). Step n mid e r new) (omega arith) step))
RunFrom-push now old [] (y ∷ rs) mid e r new run step = absurd run
RunFrom-push now old (x ∷ es) [] mid e r new run step = absurd run

-- ---- The state in which nothing was made is lawful.

unused : (profile : Profile) (task name : ℕ) → lookup (opening_in profile) task name ≡ None
unused profile task name = get-empty nat_cmp name

no_name : (profile : Profile) (task name : ℕ) (target : Target) → lookup (opening_in profile) task name ≡ Some target → ⊥
no_name profile task name target is = let e = unused profile task name in cc

no_element : {A : Type 0} (k : ℕ) (e : A) → slice_get [] k ≡ Some e → ⊥
no_element k e is = cc

pub opening-lawful : (profile : Profile) → IsLawful (opening_in profile)
opening-lawful profile = record {
  tasks = record { made_task = λ task is. absurd (cc); no_task = λ task name is. unused profile task name };
  naming = λ task. record {
    space = record {
      not_null = unused profile task _;
      not_dead = unused profile task _;
      name_fits = λ name target is. absurd (no_name profile task name target is);
      few_names = let e = len-empty nat_cmp Target in omega (arith, e);
      references = λ name target is. absurd (no_name profile task name target is);
    };
    has_right = λ name p is. absurd (no_name profile task name (Target.port p) is);
    is_named = λ p some. absurd (omega (arith, some));
    one_name = λ n m p is. absurd (no_name profile task n (Target.port p) is);
    once_names = λ p. sym (no_values _);
    few_references = λ p. omega arith;
  };
  ports = record { made_port = λ p is. absurd (cc); no_rights = λ p is kind. refl };
  numbers = record { limit_fits = λ p. omega arith; make_send_fits = λ p. omega arith; sequence_fits = λ p. omega arith };
  receivers = record { one_receive = λ p is. absurd (cc); members = λ p set is. absurd (omega (arith, is.1)) };
  few_rights = omega arith;
  sets = record {
    made_set = λ set above. refl;
    set_owned = λ task name set is. absurd (no_name profile task name (Target.set set) is);
    set_named = λ set task is. absurd (cc);
    one_set_name = λ task n m set is. absurd (no_name profile task n (Target.set set) is);
  };
  membership = record { no_sets = λ p is. refl; few_sets = λ p. few_none profile };
  logs = record {
    unmade_log = λ p is. refl;
    within = λ p. omega arith;
    sent_here = λ p k e is. absurd (no_element k e is);
    made_marks = λ p k e is. absurd (no_element k e is);
  };
  messages = record { carried = λ p i e is. absurd (cc); gone = λ p k is kind q. refl; no_entry = λ p k is kind q. refl };
  requests = record { one_kept = λ r. omega arith; once_kept = λ r kind q not. refl };
  standing = record { ended = λ r is kind q. refl };
  ground = record { stands_on = λ r is. absurd (cc) };
}

pub opening-quiet : (profile : Profile) → IsQuiet (opening_in profile)
opening-quiet profile = record { none_carried = λ p k q. refl; none_stands = λ r. refl }

-- ---- Every step keeps a lawful state lawful, so each state that a run reaches is lawful.

-- ---- a step's own part

pub not_false : (b : Bool) → ¬ (b ≡ false) → b ≡ true
not_false = true_from_ne_false

one_owner : (o : Option ℕ) (a b : ℕ) → o ≡ Some a → o ≡ Some b → a ≡ b
one_owner o a b e f = cc

pub is_none : (o : Option Target) → ¬ (o ≢ None) → o ≡ None
is_none None not = refl
is_none (Some x) not = absurd (not (λ e. cc))

pub no_name_some : (name : ℕ) → ¬ (IsNoName name) → 0 < name
no_name_some name not = let h : ¬ (name ≡ 0) = λ e. not (inl e) in omega (arith, h)

pub no_name_fits : (name : ℕ) → ¬ (IsNoName name) → name < dead_word
no_name_fits name not = let h : ¬ (dead_word ≤ name) = λ e. not (inr e) in omega (arith, h)

pub Allocates-mid : (task right name : ℕ) (old mid : State) → IsLawful old → old.live_task task ≡ true → ¬ (IsFull old task right) → IsFreshFor old task name →
    Makes task right name (gives task name old) mid → MidLawful mid []
Allocates-mid task right name old mid l is_task not_full fresh makes =
    let h : ¬ (most_names ≤ map.len (old.naming task)) = λ full. not_full (inl full) in
    let new = fresh_new old task name fresh (omega (arith, h)) in
    Makes-mid task right name (gives task name old) mid (gives-lawful task name old l) is_task new.unused new.some new.fits not_full makes

unrefused : (s : State) (task name right : ℕ) (delta : ℤ) → NoneHolds (modify_guards s task name right delta) → Unrefused s task name right delta
unrefused s task name right delta g = record { not_above = g.1.1.1.1.0; room = g.1.1.1.1.1.0 }

-- a port that a receipt takes from lives, and its receive right is with the task
pub TakesFrom-holds : (s : State) → IsLawful s → (task : ℕ) (waited : Waited) (p : ℕ) → TakesFrom s task waited p → 0 < held s task receive p
TakesFrom-holds s l task (Waited.Port q) p t = t.1
TakesFrom-holds s l task (Waited.Set set) p t =
    let h = l.members p set t.1 in subst (λ (x : ℕ). 0 < held s x receive p) (one_owner (s.set_owner set) h.0 task h.1 t.0) h.2

pub TakesFrom-live : (s : State) → IsLawful s → (task : ℕ) (waited : Waited) (p : ℕ) → TakesFrom s task waited p → s.live_port p ≡ true
TakesFrom-live s l task waited p t =
    let some = TakesFrom-holds s l task waited p t in
    let le = held_le_of task receive p s.ledger in lives l.ports receive p (omega (arith, some, le))

-- a step that only tells
told : (old mid : State) (owed : Owed) → IsLawful old → mid ≡ old → owed ≡ [] → MidLawful mid owed
told old mid owed l same none = unowed mid owed none (subst (λ (x : State). MidLawful x []) (sym same) (mid_lawful old l))

-- a message that was too long
too_large : (task room n : ℕ) (waited : Waited) (large : Bool) (old mid : State) (owed : Owed) → IsLawful old → Receipt old task waited room large (Reply.TooLarge n) mid owed → MidLawful mid owed
too_large task room n waited large old mid owed l (p, e, from, front, is, over, what) = go large what
  where
    go : (b : Bool) → MatchBool b ((mid ≡ old) × (owed ≡ [])) (DestroysFront p e old mid owed) → MidLawful mid owed
    go true h = told old mid owed l h.0 h.1
    go false h = DestroysFront-mid p e old mid owed l (TakesFrom-live old l task waited p from) h

-- An event that isn't refused leaves in the middle of its step what is true there.
pub Does-mid : (now : ℕ) (old : State) (event : Event) (reply : Reply) (mid : State) (owed : Owed) →
    NoneHolds (guards old event) → (does : Does now old event reply mid owed) → Judged now old event reply mid owed does → IsLawful old → MidLawful mid owed
Does-mid now old Event.TaskCreate (Reply.Task task) mid owed g d j l = unowed mid owed d.1 (mid_lawful mid (CreatesTask-lawful old l task mid d.0))
Does-mid now old (Event.TaskTerminate task) (Reply.Code code) mid owed g d j l = EndsTask-mid task old mid owed l d.1
Does-mid now old (Event.Allocate task right) (Reply.Name name) mid owed g d j l = unowed mid owed d.2 (Allocates-mid task right name old mid l (not_false (old.live_task task) g.0) g.1.1.0 d.0 d.1)
Does-mid now old (Event.AllocateName task right name) (Reply.Name told) mid owed g d j l = unowed mid owed d.2
    (Makes-mid task right name old mid l (not_false (old.live_task task) g.0) (is_none (lookup old task name) g.1.1.0) (no_name_some name (λ e. g.1.0 (inr e))) (no_name_fits name (λ e. g.1.0 (inr e)))
    g.1.1.1.0 d.1)
Does-mid now old (Event.Deallocate task name) (Reply.Code code) mid owed g d j l = Deallocates-mid task name old mid owed l d.1
Does-mid now old (Event.Destroy task name) (Reply.Code code) mid owed g d j l = Destroys-mid task name old mid owed l d.1
Does-mid now old (Event.ModRefs task name right delta) (Reply.Code code) mid owed g d j l = Modifies-mid task name right delta old mid owed l (unrefused old task name right delta g.1) d.1
Does-mid now old (Event.Names task) (Reply.Names entries) mid owed g d j l = told old mid owed l d.0 d.1
Does-mid now old (Event.Rename task o n) (Reply.Code code) mid owed g d j l = unowed mid owed d.2
    (Renames-mid task o n old mid l (is_none (lookup old task n) g.1.1.1.0) (no_name_some n g.1.0) (no_name_fits n g.1.0) d.1)
Does-mid now old (Event.SetQlimit task name n) (Reply.Code code) mid owed g d j l = unowed mid owed d.2 (mid_lawful mid (limit-lawful task name n old mid l (let h = g.1.0 in omega (arith, h)) d.1))
Does-mid now old (Event.SetMscount task name n) (Reply.Code code) mid owed g d j l = unowed mid owed d.3 (mid_lawful mid (make_send-lawful task name n old mid l d.1 d.2))
Does-mid now old (Event.SetSeqno task name n) (Reply.Code code) mid owed g d j l = unowed mid owed d.3 (mid_lawful mid (sequence-lawful task name n old mid l d.1 d.2))
Does-mid now old (Event.GetRefs task name right) (Reply.Refs n) mid owed g d j l = told old mid owed l d.0 d.1
Does-mid now old (Event.NameType task name) (Reply.NameType n) mid owed g d j l = told old mid owed l d.0 d.1
Does-mid now old (Event.ReceiveStatus task name) (Reply.Status status) mid owed g d j l = told old mid owed l d.0 d.1
Does-mid now old (Event.SetStatus task name) (Reply.Members members) mid owed g d j l = told old mid owed l d.0 d.1
Does-mid now old (Event.MoveMember task member after) (Reply.Code code) mid owed g d j l = unowed mid owed d.2 (mid_lawful mid (JoinsSet-lawful task member after old mid l (λ e. g.1.1.0 (inl e)) d.1))
Does-mid now old (Event.InsertMember task member set) (Reply.Code code) mid owed g d j l =
    unowed mid owed d.2 (mid_lawful mid (EntersSet-lawful task member set old mid l g.1.0 (λ e. g.1.1.1.0 (inl e)) g.1.1.1.1.0 d.1))
Does-mid now old (Event.ExtractMember task member set) (Reply.Code code) mid owed g d j l =
    unowed mid owed d.2 (mid_lawful mid (LeavesSet-lawful task member set old mid l (λ e. g.1.1.1.0 (inl e)) d.1))
Does-mid now old (Event.InsertRight task name from poly number) (Reply.Code code) mid owed g d j l = unowed mid owed d.2
    (Inserts-mid task name from poly number old mid l (not_false (old.live_task task) (λ e. g.0 (inl e))) (λ e. g.1.0 (inl e)) d.1 j)
Does-mid now old (Event.ExtractRight task name number to) (Reply.Right new_name kind) mid owed g d j l = unowed mid owed d.1
    (Extracts-mid task name number to new_name kind old mid l (not_false (old.live_task to) (λ e. g.0 (inr e))) d.0 j)
Does-mid now old (Event.RequestNotification task name variant sync notify number) (Reply.Previous previous) mid owed g d j l =
    Requests-mid task name variant sync notify number previous old mid owed l (not_false (old.live_task task) g.0) g.1 d j
Does-mid now old (Event.Send task bytes) (Reply.Code code) mid owed g d j l = unowed mid owed d.2 (Sends-mid now task bytes old mid g.1 l d.1 j)
Does-mid now old (Event.Receive task name room large) (Reply.Message bytes) mid owed g d j l = unowed mid owed d.2.3
    (Receives-mid task d.2.0 room bytes old mid l (TakesFrom-live old l task d.0 d.2.0 d.2.1) (not_false (old.live_task task) g.0) d.2.2)
Does-mid now old (Event.Receive task name room large) (Reply.Empty e) mid owed g d j l = told old mid owed l d.2.2 d.2.3
Does-mid now old (Event.Receive task name room large) (Reply.TooLarge n) mid owed g d j l = too_large task room n d.0 large old mid owed l d.2
Does-mid now old (Event.Receive task name room large) reply mid owed g d j l = absurd d.2
Does-mid now old (Event.ReceiveAgain task waited room large) (Reply.Message bytes) mid owed g d j l = unowed mid owed d.3
    (Receives-mid task d.0 room bytes old mid l (TakesFrom-live old l task waited d.0 d.1) (not_false (old.live_task task) g.0) d.2)
Does-mid now old (Event.ReceiveAgain task waited room large) (Reply.Empty e) mid owed g d j l = told old mid owed l d.2 d.3
Does-mid now old (Event.ReceiveAgain task waited room large) (Reply.TooLarge n) mid owed g d j l = too_large task room n waited large old mid owed l d
Does-mid now old event reply mid owed g d j l = absurd d

-- ---- steps and runs

pub Step-lawful : (now : ℕ) (old : State) (event : Event) (reply : Reply) (new : State) → Step now old event reply new → IsLawful old → IsLawful new
Step-lawful now old event reply new (inl r) l = subst IsLawful (sym r.same) l
Step-lawful now old event reply new (inr d) l = settled_lawful now old d.mid d.owed new (Does-mid now old event reply d.mid d.owed d.unrefused d.does d.judged l) d.settles

-- What an event may do in a lawful state can be made a step, which leaves a lawful state.
pub can_step : (now : ℕ) (old : State) (event : Event) (reply : Reply) (mid : State) (owed : Owed) → IsLawful old → NoneHolds (guards old event) → (does : Does now old event reply mid owed) → Judged now old event reply mid owed does →
    (new : State) × Step now old event reply new × IsLawful new
can_step now old event reply mid owed l good does judged =
    let m = Does-mid now old event reply mid owed good does judged l in
    let end = can_end now old mid owed m in
    (end.0, inr (record { performed = record { mid = mid; owed = owed; does = does; settles = end.1 }; unrefused = good; judged = judged }), settled_lawful now old mid owed end.0 m end.1)

pub RunFrom-lawful : (now : ℕ) (old : State) (events : List Event) (replies : List Reply) (new : State) → RunFrom now old events replies new → IsLawful old → IsLawful new
RunFrom-lawful now old [] [] new r l = subst IsLawful (sym r) l
RunFrom-lawful now old (e ∷ es) (x ∷ xs) new r l = RunFrom-lawful (now + 1) r.0 es xs new r.2 (Step-lawful now old e x r.0 r.1 l)
RunFrom-lawful now old [] (x ∷ xs) new r l = absurd r
RunFrom-lawful now old (e ∷ es) [] new r l = absurd r

pub Run-lawful : (profile : Profile) (events : List Event) (replies : List Reply) (s : State) → RunIn profile events replies s → IsLawful s
Run-lawful profile events replies s r = RunFrom-lawful 0 (opening_in profile) events replies s r (opening-lawful profile)

-- ---- By an answer by which no right is lost a step's own part leaves a quiet state quiet, and so does the step.

-- ---- what keeps a state quiet

-- Receive rights stay, none comes to a message, and no request is made or gets a right.
pub record Quietly (old mid : State) : Type 0 where
  pub live : (p : ℕ) → mid.live_port p ≡ true → old.live_port p ≡ true
  pub receives : (p : ℕ) → count (is_of receive p) mid.ledger ≡ count (is_of receive p) old.ledger
  pub carried : (p k q : ℕ) → lying mid receive q (in_message p k) ≡ 0
  pub kept : (kind : Kind) (q : ℕ) (r : Request) → lying mid kind q (in_request r) ≤ lying old kind q (in_request r)
  pub none_stands : NoRequests mid.stands

-- No message that a task sends brings a receive right to the end of a log.
abbrev pub BringsNone : (old : State) → Event → (mid : State) → Type 0
BringsNone old (Event.Send task bytes) mid = (p q : ℕ) → lying mid receive q (in_message p (length (old.log p))) ≡ 0
BringsNone old event mid = Unit {0}

pub still : (old mid : State) (owed : Owed) → IsLawful old → IsQuiet old → owed ≡ [] → MidLawful mid owed → Quietly old mid → IsStill mid owed
still old mid owed l quiet none m q = grind (arith, calm_lawful)

if_false : (b c : Bool) → c ≡ false → (if b then false else c) ≡ false
if_false true c e = refl
if_false false c e = e

-- a request on a name that goes
pub without_stands : (task name : ℕ) (stands : Request → Bool) → NoRequests stands → NoRequests (request_at stands (dead_name task name) false)
without_stands task name stands none r = if_false (same_request r (dead_name task name)) (stands r) (none r)

module _ (old : State) (l : IsLawful old) (quiet : IsQuiet old) where
  -- the same rights
  pub same_rights : (mid : State) → Moves old.ledger mid.ledger [] [] → mid.live_port ≡ old.live_port → NoRequests mid.stands → Quietly old mid
  same_rights mid moves live stands = record {
    live = λ p e. sym (ap (λ (f : ℕ → Bool). f p) live) ∙ e;
    receives = λ p. same (is_of receive p);
    carried = λ p k q. same (is_at receive q (in_message p k)) ∙ quiet.none_carried p k q;
    kept = λ kind q r. let e = same (is_at kind q (in_request r)) in omega (arith, e);
    none_stands = stands;
  }
    where
      same : (test : Token → Bool) → count test mid.ledger ≡ count test old.ledger
      same test = let m = moves (λ x. if test x then 1 else 0) in omega (arith, m)

  -- a state that differs in neither rights, ports nor requests
  as_it_was : (mid c : State) → mid ≡ c → c.ledger ≡ old.ledger → c.live_port ≡ old.live_port → NoRequests c.stands → Quietly old mid
  as_it_was mid c rest ledger live stands = grind (arith, same_rights)

  -- send rights of one task come and go
  sends_change : (task p : ℕ) (mid : State) (gone come : List Token) → Moves old.ledger mid.ledger gone come → AreSends task p gone → AreSends task p come →
      mid.live_port ≡ old.live_port → NoRequests mid.stands → Quietly old mid
  sends_change task p mid gone come moves are_gone are_come live stands = record {
    live = λ p e. sym (ap (λ (f : ℕ → Bool). f p) live) ∙ e;
    receives = λ q. same (is_of receive q) refl;
    carried = λ o k q. same (is_at receive q (in_message o k)) refl ∙ quiet.none_carried o k q;
    kept = λ kind q r. let e = same (is_at kind q (in_request r)) (and_right (is_of kind q (token send p (in_task task))) false refl) in omega (arith, e);
    none_stands = stands;
  }
    where
      same : (test : Token → Bool) → test (token send p (in_task task)) ≡ false → count test mid.ledger ≡ count test old.ledger
      same test e = let m = moves (λ x. if test x then 1 else 0) in let a = are_gone test e in let b = are_come test e in omega (arith, m, a, b)

  -- rights go by way of one entry
  by_entry : (mid : State) (o k : ℕ) → Apart old mid o k → mid.live_port ≡ old.live_port → ((p : ℕ) → mid.live_port p ≡ true → count (is_of receive p) mid.ledger ≡ 1) →
      ((p : ℕ) → mid.live_port p ≡ false → count (is_of receive p) mid.ledger ≡ 0) → ((q : ℕ) → lying mid receive q (in_message o k) ≡ 0) → Quietly old mid
  by_entry mid o k a live one gone none = record {
    live = λ p e. sym (same p) ∙ e;
    receives = λ p. elim (cases_Bool (mid.live_port p)) [
      | inl e ↦ one p e ∙ sym (l.one_receive p (sym (same p) ∙ e))
      | inr e ↦ gone p e ∙ sym (l.no_rights p (sym (same p) ∙ e) receive)
    ];
    carried = λ p j q. elim (eqb_tells p o) [
      | inl h ↦ elim (eqb_tells j k) [
        | inl g ↦ subst (λ (x : ℕ). lying mid receive q (in_message x j) ≡ 0) (sym h.1) (subst (λ (x : ℕ). lying mid receive q (in_message o x) ≡ 0) (sym g.1) (none q))
        | inr g ↦ a.elsewhere receive q p j (λ x y. g.1 y) ∙ quiet.none_carried p j q
      ]
      | inr h ↦ a.elsewhere receive q p j (λ x y. h.1 x) ∙ quiet.none_carried p j q
    ];
    kept = λ kind q r. let e = a.kept kind q r in omega (arith, e);
    none_stands = λ r. false_from_ne_true (mid.stands r) (λ e. (let f = a.stood r e in let g = quiet.none_stands r in cc));
  }
    where
      same : (p : ℕ) → mid.live_port p ≡ old.live_port p
      same p = ap (λ (f : ℕ → Bool). f p) live

  -- ---- a port is made

  module _ (task name : ℕ) (mid : State) (made : AllocatesPort task name old mid) (m : MidLawful mid []) where
    at_task : (kind : Kind) (q : ℕ) (test : Place → Bool) → test (in_task task) ≡ false → count (λ x. is_of kind q x && test x.place) mid.ledger ≡ count (λ x. is_of kind q x && test x.place) old.ledger
    at_task kind q test e = grind (arith, both_test)

    one : (p : ℕ) → mid.live_port p ≡ true → count (is_of receive p) mid.ledger ≡ 1
    one p live = grind (arith, false_from_ne_true, eq-eqb, at_other, ne_eqb)

    port_made : IsStill mid []
    port_made = grind (arith, calm_lawful, one, at_task)

  -- ---- rights under a name

  kept_live : (b : Bool) (task name : ℕ) → (name_kept b task name old).live_port ≡ old.live_port
  kept_live true task name = refl
  kept_live false task name = refl

  kept_stands : (b : Bool) (task name : ℕ) → NoRequests (name_kept b task name old).stands
  kept_stands true task name = quiet.none_stands
  kept_stands false task name = without_stands task name old.stands quiet.none_stands

  -- a name that may go, with send rights
  name_changes : (task name p : ℕ) (b : Bool) (mid : State) (gone come : List Token) → Moves old.ledger mid.ledger gone come → AreSends task p gone → AreSends task p come →
      mid ≡ record (name_kept b task name old) { ledger = mid.ledger } → Quietly old mid
  name_changes task name p b mid gone come moves are_gone are_come rest = sends_change task p mid gone come moves are_gone are_come
      (ap (λ (x : State). x.live_port) rest ∙ kept_live b task name) (λ r. ap (λ (x : State). x.stands r) rest ∙ kept_stands b task name r)

  -- a dead name that may go
  dead_changes : (task name n : ℕ) (b : Bool) (mid : State) → Moves old.ledger mid.ledger [] [] →
      mid ≡ record (if b then with_name task name (Target.dead n) old else without_name task name old) { ledger = mid.ledger } → Quietly old mid
  dead_changes task name n true mid moves rest = grind (arith, same_rights)
  dead_changes task name n false mid moves rest = grind (arith, same_rights, without_stands)

  deallocates : (task name : ℕ) (mid : State) (owed : Owed) → ¬ (NamesOnce old task name) → Deallocates task name old mid owed → (owed ≡ []) × Quietly old mid
  deallocates task name mid owed not_once (inl (p, d, none)) =
      (none, name_changes task name p (nat_lt 1 (held old task send p) || nat_lt 0 (held old task receive p)) mid (token send p (in_task task) ∷ []) [] d.tokens (same_sends task p 1) (no_sends task p) d.rest)
  deallocates task name mid owed not_once (inr (inl (p, d, owes))) = absurd (not_once (p, d.found))
  deallocates task name mid owed not_once (inr (inr (n, d, none))) = (none, dead_changes task name (n - 1) (nat_lt 1 n) mid d.tokens d.rest)

  -- tokens of which each is a receive or send right that the task has for the port, and none is a receive right, are its send rights
  sends_of_either : (task p : ℕ) (xs : List Token) → All (λ x. is_either task p x ≡ true) xs → count (is_held task receive p) xs ≡ 0 → AreSends task p xs
  sends_of_either task p xs all none test e = grind (arith, count_none, or_cases, count_some, is_it)

  port_destroyed : (task name p : ℕ) (mid : State) → lookup old task name ≡ Some (Target.port p) → ¬ (NamesReceive old task name) →
      LosesAll (is_either task p) old.ledger mid.ledger → mid ≡ record (without_name task name old) { ledger = mid.ledger } → Quietly old mid
  port_destroyed task name p mid is not all rest =
      let receives = all.moves (λ x. if is_held task receive p x then 1 else 0) in
      name_changes task name p false mid all.gone [] all.moves (sends_of_either task p all.gone all.passed (omega (arith, receives, none_held))) (no_sends task p) rest
    where
      none_held : held old task receive p ≡ 0
      none_held = elim (pos_or_zero (held old task receive p)) [
        | inl h ↦ h
        | inr h ↦ absurd (not (p, is, h))
      ]

  unnamed : (task name : ℕ) (mid c : State) → mid ≡ c → c.ledger ≡ old.ledger → c.live_port ≡ old.live_port → c.stands ≡ request_at old.stands (dead_name task name) false → Quietly old mid
  unnamed task name mid c rest ledger live stands = as_it_was mid c rest ledger live (λ r. ap (λ (f : Request → Bool). f r) stands ∙ without_stands task name old.stands quiet.none_stands r)

  destroys : (task name : ℕ) (mid : State) (owed : Owed) → ¬ (LosesWhole old task name) → Destroys task name old mid owed → (owed ≡ []) × Quietly old mid
  destroys task name mid owed not (Target.port p, is, d) = (d.2, port_destroyed task name p mid is (λ e. not (inl e)) d.0 d.1)
  destroys task name mid owed not (Target.once p, is, d) = absurd (not (inr (p, is)))
  destroys task name mid owed not (Target.dead n, is, d) = (d.1, unnamed task name mid _ d.0 refl refl refl)
  destroys task name mid owed not (Target.set set, is, d) = (d.1, unnamed task name mid _ d.0 refl refl refl)

  modifies : (task name right : ℕ) (delta : ℤ) (mid : State) (owed : Owed) → ¬ (Removes right delta) → Modifies task name right delta old mid owed → (owed ≡ []) × Quietly old mid
  modifies task name right delta mid owed not (inl (p, m, is_send, is, adds, d, none)) =
      (none, name_changes task name p (nat_lt 0 m || nat_lt 0 (held old task receive p)) mid _ _ d.tokens (same_sends task p (held old task send p - m)) (same_sends task p (m - held old task send p)) d.rest)
  modifies task name right delta mid owed not (inr (inl (n, m, is_dead, is, adds, rest, none))) = (none, go (nat_lt 0 m) rest)
    where
      go : (b : Bool) → mid ≡ (if b then with_name task name (Target.dead m) old else without_name task name old) → Quietly old mid
      go true e = as_it_was mid _ e refl refl quiet.none_stands
      go false e = unnamed task name mid _ e refl refl refl
  modifies task name right delta mid owed not (inr (inr (inl (uncounted, none, rest, owes)))) = (owes, as_it_was mid old rest refl refl quiet.none_stands)
  modifies task name right delta mid owed not (inr (inr (inr (target, one, is, d)))) = go target d
    where
      go : (target : Target) → RemovesRight right task name target old mid owed → (owed ≡ []) × Quietly old mid
      go (Target.port p) d = absurd (not (inl d.0, one))
      go (Target.once p) d = absurd (not (inr d.0, one))
      go (Target.set set) d = (d.1.1, unnamed task name mid _ d.1.0 refl refl refl)
      go (Target.dead n) d = absurd d

  -- ---- names

  weigh_same : (f g : Token → ℕ) (xs : List Token) → ((k : ℕ) (d : Token) → k < length xs → f (get_or xs k d) ≡ g (get_or xs k d)) → weigh f xs ≡ weigh g xs
  weigh_same f g [] same = refl
  weigh_same f g (x ∷ xs) same = grind (arith, same 0 x (omega arith), weigh_same f g xs (λ k d below. same (suc k) d (omega (arith, below))))

  -- a token that lies at no request keeps its place
  place_kept : (task o n : ℕ) (place : Place) → ((r : Request) → place ≡ in_request r → ⊥) → renamed_place task o n place ≡ place
  place_kept task o n (in_task t) not = refl
  place_kept task o n (in_message p k) not = refl
  place_kept task o n (in_request r) not = absurd (not r refl)

  not_kept : (k : ℕ) (d : Token) → k < length old.ledger → (r : Request) → (get_or old.ledger k d).place ≡ in_request r → ⊥
  not_kept k d below r at_request =
      let x = get_or old.ledger k d in
      let some : 0 < lying old x.kind x.port x.place = count_some (is_at x.kind x.port x.place) old.ledger k d below (own_test x) in
      let none = l.ended r (quiet.none_stands r) x.kind x.port in
      let e : lying old x.kind x.port x.place ≡ lying old x.kind x.port (in_request r) = ap (lying old x.kind x.port) at_request in omega (arith, some, none, e)

  token_kept : (task o n k : ℕ) (d : Token) → k < length old.ledger → renamed_token task o n (get_or old.ledger k d) ≡ get_or old.ledger k d
  token_kept task o n k d below = grind (arith, place_kept, not_kept)

  none_renamed : (task o n : ℕ) → NoRequests (renamed_requests task o n old.stands)
  none_renamed task o n r = grind arith

  renames : (task o n : ℕ) (mid : State) → Renames task o n old mid → Quietly old mid
  renames task o n mid r = same_rights mid
      (λ h. (let a = r.tokens h in let b = weigh_same (λ x. h (renamed_token task o n x)) h old.ledger (λ k d below. ap h (token_kept task o n k d below)) in omega (arith, a, b)))
      (ap (λ (x : State). x.live_port) r.rest) (λ x. ap (λ (y : State). y.stands x) r.rest ∙ none_renamed task o n x)

  -- ---- rights on their way

  hands : (mid : State) (kind : Kind) (p : ℕ) → Hands old mid 0 (length (old.log 0)) kind p → MidLawful mid [] → Quietly old mid
  hands mid kind p h m = by_entry mid 0 (length (old.log 0)) (apart-trans old h.on_its_way mid 0 (length (old.log 0)) h.copies.apart h.removes.apart)
      (ap (λ (x : State). x.live_port) (hands_shape old mid 0 (length (old.log 0)) kind p h)) h.removes.keeps.one_receive (λ q e. m.no_rights q e receive)
      (λ q. m.no_entry 0 (length (old.log 0)) (let e = ap (λ (x : State). length (x.log 0)) (hands_shape old mid 0 (length (old.log 0)) kind p h) in omega (arith, e)) receive q)

  sends : (now task : ℕ) (bytes : List ℕ) (mid : State) → BringsNone old (Event.Send task bytes) mid → Sends now task bytes old mid → MidLawful mid [] → Quietly old mid
  sends now task bytes mid none s m =
      let o = s.m.destination in
      let k = length (old.log o) in
      let a = Sends-adds now task bytes old mid l s in
      let live : mid.live_port ≡ old.live_port = ap (λ (x : State). x.live_port) s.rest ∙ ap (λ (x : State). x.live_port) a.rest in
      by_entry mid o k (record {
        elsewhere = λ kind q p j not. ap (λ (x : State). lying x kind q (in_message p j)) s.rest ∙ a.apart.elsewhere kind q p j not;
        kept = λ kind q r. ap (λ (x : State). lying x kind q (in_request r)) s.rest ∙ a.apart.kept kind q r;
        stood = λ r is. a.apart.stood r (sym (ap (λ (x : State). x.stands r) s.rest) ∙ is);
      }) live
      (λ p e. ap (λ (x : State). count (is_of receive p) x.ledger) s.rest ∙ a.keeps.one_receive p (sym (ap (λ (x : State). x.live_port p) s.rest) ∙ e)) (λ p e. m.no_rights p e receive)
      (λ q. none o q)

  receives : (task port room : ℕ) (bytes : List ℕ) (mid : State) → old.live_port port ≡ true → old.live_task task ≡ true → Receives task port room bytes old mid → MidLawful mid [] → Quietly old mid
  receives task port room bytes mid live is_task r m =
      let x = Receives-removes task port room bytes old mid l live is_task r in
      by_entry mid port (old.taken port) (apart-trans old r.taken mid port (old.taken port) taken_apart x.apart)
      (ap (λ (s : State). s.live_port) x.rest ∙ ap (λ (s : State). s.live_port) r.takes.rest) x.keeps.one_receive (λ p e. m.no_rights p e receive)
      (λ q. elim (cases_Bool (mid.live_port q)) [
        | inl e ↦
            let a = x.lies receive q (sym (ap (λ (s : State). s.live_port q) x.rest) ∙ e) in
            let b = r.takes.tokens (λ y. if is_at receive q (in_message port (old.taken port)) y then 1 else 0) in
            let c = quiet.none_carried port (old.taken port) q in omega (arith, a, b, c)
        | inr e ↦ let a = lying_le_of mid receive q (in_message port (old.taken port)) in let b = m.no_rights q e receive in omega (arith, a, b)
      ])
    where
      taken_apart : Apart old r.taken port (old.taken port)
      taken_apart = record {
        elsewhere = λ kind q p j not.
            let b = r.takes.tokens (λ y. if is_at kind q (in_message p j) y then 1 else 0) in
            let z = both_test (is_of kind q (token r.e.message.kind port (in_message port (old.taken port)))) (p == port && j == old.taken port) (inr (elsewhere p port j (old.taken port) not)) in
            omega (arith, b, z);
        kept = λ kind q x.
            let b = r.takes.tokens (λ y. if is_at kind q (in_request x) y then 1 else 0) in
            let z = both_test (is_of kind q (token r.e.message.kind port (in_message port (old.taken port)))) false (inr refl) in omega (arith, b, z);
        stood = λ x is. sym (ap (λ (s : State). s.stands x) r.takes.rest) ∙ is;
      }

-- A receipt leaves a quiet state.
pub Receives-still : (task port room : ℕ) (bytes : List ℕ) (old mid : State) → IsLawful old → IsQuiet old → old.live_port port ≡ true → old.live_task task ≡ true →
    Receives task port room bytes old mid → IsStill mid []
Receives-still task port room bytes old mid l quiet live is_task r =
    let m = Receives-mid task port room bytes old mid l live is_task r in
    still old mid [] l quiet refl m (receives old l quiet task port room bytes mid live is_task r m)

-- ---- a step's own part

-- What an event that isn't refused leaves of a quiet state is as lawful as it was, and nothing is owed.
pub Does-still : (now : ℕ) (old : State) (event : Event) (reply : Reply) (mid : State) (owed : Owed) → BringsNone old event mid → LosesNone old event reply → NoneHolds (guards old event) → (does : Does now old event reply mid owed) → Judged now old event reply mid owed does →
    IsLawful old → IsQuiet old → IsStill mid owed
Does-still now old event reply mid owed brings none g d j l quiet = go event reply brings none g d j (Does-mid now old event reply mid owed g d j l)
  where
    quietly : owed ≡ [] → Quietly old mid → MidLawful mid owed → IsStill mid owed
    quietly none q m = still old mid owed l quiet none m q

    both : (owed ≡ []) × Quietly old mid → MidLawful mid owed → IsStill mid owed
    both h = quietly h.0 h.1

    same : mid ≡ old → owed ≡ [] → MidLawful mid owed → IsStill mid owed
    same e none = quietly none (as_it_was old l quiet mid old e refl refl quiet.none_stands)

    unowed_mid : owed ≡ [] → MidLawful mid owed → MidLawful mid []
    unowed_mid none m = subst (MidLawful mid) none m

    makes : (task right name : ℕ) → owed ≡ [] → Makes task right name old mid → MidLawful mid owed → IsStill mid owed
    makes task right name none (inl (is, a)) m = subst (IsStill mid) (sym none) (port_made old l quiet task name mid a (unowed_mid none m))
    makes task right name none (inr (inl (is, e))) m = quietly none (as_it_was old l quiet mid _ e refl refl quiet.none_stands) m
    makes task right name none (inr (inr (is, e))) m = quietly none (as_it_was old l quiet mid _ e refl refl quiet.none_stands) m

    makes_fresh : (task right name : ℕ) → owed ≡ [] → Makes task right name (gives task name old) mid → MidLawful mid owed → IsStill mid owed
    makes_fresh task right name none (inl (is, a)) m = subst (IsStill mid) (sym none) (port_made (gives task name old) (gives-lawful task name old l) (record { none_carried = quiet.none_carried; none_stands = quiet.none_stands }) task name mid a (unowed_mid none m))
    makes_fresh task right name none (inr (inl (is, e))) m = quietly none (as_it_was old l quiet mid _ e refl refl quiet.none_stands) m
    makes_fresh task right name none (inr (inr (is, e))) m = quietly none (as_it_was old l quiet mid _ e refl refl quiet.none_stands) m

    joins : (task member after : ℕ) → JoinsSet task member after old mid → owed ≡ [] → MidLawful mid owed → IsStill mid owed
    joins task member after (p, is, inl h) none = quietly none (as_it_was old l quiet mid _ h.1 refl refl quiet.none_stands)
    joins task member after (p, is, inr h) none = quietly none (as_it_was old l quiet mid _ h.2 refl refl quiet.none_stands)

    kept_large : (Q : Type 0) (large : Bool) → large ≡ true → MatchBool large ((mid ≡ old) × (owed ≡ [])) Q → (mid ≡ old) × (owed ≡ [])
    kept_large Q true e h = h
    kept_large Q false e h = absurd (cc)

    go : (event : Event) (reply : Reply) → BringsNone old event mid → LosesNone old event reply → NoneHolds (guards old event) → (does : Does now old event reply mid owed) → Judged now old event reply mid owed does → MidLawful mid owed → IsStill mid owed
    go Event.TaskCreate (Reply.Task task) b n g d j m = quietly d.1 (as_it_was old l quiet mid _ d.0.rest refl refl quiet.none_stands) m
    go (Event.TaskTerminate task) reply b n g d j m = absurd n
    go (Event.Allocate task right) (Reply.Name name) b n g d j m = makes_fresh task right name d.2 d.1 m
    go (Event.AllocateName task right name) (Reply.Name told) b n g d j m = makes task right name d.2 d.1 m
    go (Event.Deallocate task name) (Reply.Code code) b n g d j m = both (deallocates old l quiet task name mid owed n d.1) m
    go (Event.Destroy task name) (Reply.Code code) b n g d j m = both (destroys old l quiet task name mid owed n d.1) m
    go (Event.ModRefs task name right delta) (Reply.Code code) b n g d j m = both (modifies old l quiet task name right delta mid owed n d.1) m
    go (Event.GetRefs task name right) (Reply.Refs k) b n g d j m = same d.0 d.1 m
    go (Event.NameType task name) (Reply.NameType k) b n g d j m = same d.0 d.1 m
    go (Event.Names task) (Reply.Names entries) b n g d j m = same d.0 d.1 m
    go (Event.Rename task o k) (Reply.Code code) b n g d j m = quietly d.2 (renames old l quiet task o k mid d.1) m
    go (Event.ReceiveStatus task name) (Reply.Status status) b n g d j m = same d.0 d.1 m
    go (Event.SetQlimit task name k) (Reply.Code code) b n g d j m = quietly d.2 (as_it_was old l quiet mid _ d.1.3 refl refl quiet.none_stands) m
    go (Event.SetMscount task name k) (Reply.Code code) b n g d j m = quietly d.3 (as_it_was old l quiet mid _ d.2.3 refl refl quiet.none_stands) m
    go (Event.SetSeqno task name k) (Reply.Code code) b n g d j m = quietly d.3 (as_it_was old l quiet mid _ d.2.3 refl refl quiet.none_stands) m
    go (Event.SetStatus task name) (Reply.Members members) b n g d j m = same d.0 d.1 m
    go (Event.MoveMember task member after) (Reply.Code code) b n g d j m = joins task member after d.1 d.2 m
    go (Event.InsertMember task member set) (Reply.Code code) b n g d j m = quietly d.2 (as_it_was old l quiet mid _ d.1.rest refl refl quiet.none_stands) m
    go (Event.ExtractMember task member set) (Reply.Code code) b n g d j m = quietly d.2 (as_it_was old l quiet mid _ d.1.rest refl refl quiet.none_stands) m
    go (Event.InsertRight task name from poly number) (Reply.Code code) b n g d j m = quietly d.2
        (hands old l quiet mid _ _ (Inserts-hands task name from poly number old mid l (not_false (old.live_task task) (λ e. g.0 (inl e))) (λ e. g.1.0 (inl e)) d.1 j) (unowed_mid d.2 m)) m
    go (Event.ExtractRight task name number to) (Reply.Right new_name kind) b n g d j m = quietly d.1
        (hands old l quiet mid _ _ (Extracts-hands task name number to new_name kind old mid l (not_false (old.live_task to) (λ e. g.0 (inr e))) d.0) (unowed_mid d.1 m)) m
    go (Event.RequestNotification task name variant sync notify number) reply b n g d j m = absurd n
    go (Event.Send task bytes) (Reply.Code code) b n g d j m = quietly d.2 (sends old l quiet now task bytes mid b d.1 (unowed_mid d.2 m)) m
    go (Event.Receive task name room large) (Reply.Message bytes) b n g d j m = quietly d.2.3
        (receives old l quiet task d.2.0 room bytes mid (TakesFrom-live old l task d.0 d.2.0 d.2.1) (not_false (old.live_task task) g.0) d.2.2 (unowed_mid d.2.3 m)) m
    go (Event.Receive task name room large) (Reply.Empty told) b n g d j m = same d.2.2 d.2.3 m
    go (Event.Receive task name room large) (Reply.TooLarge k) b n g d j m = let h = kept_large (DestroysFront d.2.0 d.2.1 old mid owed) large n d.2.6 in same h.0 h.1 m
    go (Event.Receive task name room large) reply b n g d j m = absurd d.2
    go (Event.ReceiveAgain task waited room large) (Reply.Message bytes) b n g d j m = quietly d.3
        (receives old l quiet task d.0 room bytes mid (TakesFrom-live old l task waited d.0 d.1) (not_false (old.live_task task) g.0) d.2 (unowed_mid d.3 m)) m
    go (Event.ReceiveAgain task waited room large) (Reply.Empty told) b n g d j m = same d.2 d.3 m
    go (Event.ReceiveAgain task waited room large) (Reply.TooLarge k) b n g d j m = let h = kept_large (DestroysFront d.0 d.1 old mid owed) large n d.6 in same h.0 h.1 m
    go event reply b n g d j m = absurd d

-- ---- steps and runs

-- What an event may do in a quiet state, by an answer by which no right is lost, makes a step, with no more to settle.
pub quiet_step : (now : ℕ) (old : State) (event : Event) (reply : Reply) (mid : State) → IsLawful old → IsQuiet old → BringsNone old event mid → LosesNone old event reply → NoneHolds (guards old event) → (does : Does now old event reply mid []) → Judged now old event reply mid [] does →
    Step now old event reply mid × IsLawful mid × IsQuiet mid
quiet_step now old event reply mid l quiet brings none good does judged =
    let m = Does-still now old event reply mid [] brings none good does judged l quiet in
    (inr (record { performed = record { mid = mid; owed = []; does = does; settles = mid_settles now old mid [] m }; unrefused = good; judged = judged }), m.lawful, m.quiet)

-- ---- both

pub record IsCalm (s : State) : Type 0 where
  pub lawful : IsLawful s
  pub open lawful use *
  pub quiet : IsQuiet s

pub opening-calm : (profile : Profile) → IsCalm (opening_in profile)
opening-calm profile = record { lawful = opening-lawful profile; quiet = opening-quiet profile }
