-- What a step's own part changes for those that wait.
use Rattle.std.proofs.Common.{◌≡◌, ℕ, ◌+◌, List, [], ◌∷◌, ◌++◌, Option, Some, None, refl, sym, ap, subst, ◌∙◌, arith, true, false, Bool, inl, inr, All}
use Rattle.std.specs.Prelude.{◌≢◌, ◌==◌, ◌&&◌, if◌then◌else◌, MatchBool, Contains, nat_lt}
use Rattle.std.proofs.lemmas.Bool.{false_from_ne_true, ne_eqb}
use Rattle.std.proofs.lemmas.Bool.Decides.{eqb_tells}
use Rattle.std.proofs.lemmas.List.Elements.{All-head, All-tail, All-cons, All-nil}
use Rattle.mach_types.specs.declared.calls.Waited.TheVariants.{Port, Set}
use Rattle.mach_types.specs.declared.rights.Disposition.{Disposition}
use Rattle.mach_types.specs.declared.rights.Disposition.TheVariants.{MoveReceive, MoveSend, MoveSendOnce, CopySend, MakeSend, MakeSendOnce}
use Rattle.mach_types.specs.declared.touched.Touched.{Touched}
use Rattle.mach_types.specs.Touching.{Covers}
use Rattle.mach_types.specs.Numbers.{disposition, kind_sent, null_word, dead_word, most_references, first_limit}
use Rattle.mach_types.specs.Tokens.{Kind, receive, send, send_once, Request, dead_name, Place, in_task, in_message, in_request, Token, token, weigh, count, same_kind, is_in_task, is_of, is_held, Moves}
use Rattle.mach_types.specs.Messages.{Mark, to_port, null, dead, ReplyRight, absent, present, Message, Entry}
use Rattle.mach_types.specs.Grammar.{WireBody, Header}
use Rattle.mach_types.specs.Bodies.{body_words, body_rights, Through}
use Rattle.mach_model.specs.State.{State, Target, held, at, queue, same_request, without_name, with_name, gives}
use Rattle.mach_model.specs.Death.{same_place}
use Rattle.mach_model.specs.Lawful.{IsLawful}
use Rattle.mach_model.specs.CopyIn.{taken_by, put_by, name_kept, changed_by, CopyRight, CopyWord, CopyReply, CopyCarried}
use Rattle.mach_model.specs.CopyOut.{Named, NamedOnce, NamedFor, given_to, GiveRight, GiveMark}
use Rattle.mach_model.specs.Names.{renamed_token, Renames, AllocatesPort, with_set}
use Rattle.mach_model.specs.Receive.{Takes}
use Rattle.mach_model.specs.Send.{place_at, Copied, Sends, entry}
use Rattle.mach_model.specs.Tasks.{CreatesTask}
use Rattle.mach_model.proofs.Names.{at_own, at_other}
use Rattle.mach_laws.specs.Touching.{TouchesOnly}
use Rattle.mach_laws.proofs.Meanings.{NoBadNames, Sends-means}
use Rattle.mach_laws.proofs.Refusals.{one_text}
use Rattle.mach_laws.proofs.Untouched.{one_destination}

-- ---- what stays where all but queues and limits does

-- A test that only receive rights pass, of tasks and messages.
pub record IsOfReceives (test : Token → Bool) : Type 0 where
  pub kind : (x : Token) → same_kind receive x.kind ≡ false → test x ≡ false
  pub place : (kind : Kind) (p : ℕ) (r : Request) → test (token kind p (in_request r)) ≡ false

-- All that those see who wait, at every port and set.
pub record Keeps (s t : State) : Type 0 where
  pub live : (p : ℕ) → t.live_port p ≡ s.live_port p
  pub log : (p : ℕ) → t.log p ≡ s.log p
  pub taken : (p : ℕ) → t.taken p ≡ s.taken p
  pub limit : (p : ℕ) → t.limit p ≡ s.limit p
  pub sets : (p : ℕ) → t.sets_of p ≡ s.sets_of p
  pub owner : (set : ℕ) → t.set_owner set ≡ s.set_owner set
  pub receives : (test : Token → Bool) → IsOfReceives test → count test t.ledger ≡ count test s.ledger

pub keeps_same : (s t : State) → t ≡ s → Keeps s t
keeps_same s t e = subst (Keeps s) (sym e) (record { live = λ p. refl; log = λ p. refl; taken = λ p. refl; limit = λ p. refl; sets = λ p. refl; owner = λ set. refl; receives = λ test is. refl })

pub keeps_trans : (a b c : State) → Keeps a b → Keeps b c → Keeps a c
keeps_trans a b c f g = record {
  live = λ p. g.live p ∙ f.live p;
  log = λ p. g.log p ∙ f.log p;
  taken = λ p. g.taken p ∙ f.taken p;
  limit = λ p. g.limit p ∙ f.limit p;
  sets = λ p. g.sets p ∙ f.sets p;
  owner = λ set. g.owner set ∙ f.owner set;
  receives = λ test is. g.receives test is ∙ f.receives test is;
}

-- ---- tests of where a receive right lies

and_none : (b : Bool) → (b && false) ≡ false
and_none true = refl
and_none false = refl

pub none_and : (a b : Bool) → a ≡ false → (a && b) ≡ false
none_and a b e = ap (λ (x : Bool). x && b) e

pub held_is : (task p : ℕ) → IsOfReceives (is_held task receive p)
held_is task p = record {
  kind = λ x other. none_and (same_kind receive x.kind && x.port == p) (is_in_task task x.place) (none_and (same_kind receive x.kind) (x.port == p) other);
  place = λ kind q r. and_none (same_kind receive kind && q == p);
}

pub lying_is : (p q k : ℕ) → IsOfReceives (λ x. is_of receive p x && same_place (in_message q k) x.place)
lying_is p q k = record {
  kind = λ x other. none_and (same_kind receive x.kind && x.port == p) (same_place (in_message q k) x.place) (none_and (same_kind receive x.kind) (x.port == p) other);
  place = λ kind o r. and_none (same_kind receive kind && o == p);
}

-- ---- tokens that aren't receive rights come and go

abbrev pub IsNoReceive : Token → Type 0
IsNoReceive x = same_kind receive x.kind ≡ false

none_counted : (test : Token → Bool) → IsOfReceives test → (xs : List Token) → All IsNoReceive xs → count test xs ≡ 0
none_counted test is [] none = refl
none_counted test is (x ∷ xs) none =
    let e = is.kind x (All-head IsNoReceive x xs none) in
    let rest = none_counted test is xs (All-tail IsNoReceive x xs none) in
    rw e (omega (arith, rest))

pub moves_keep : (old new gone come : List Token) → Moves old new gone come → All IsNoReceive gone → All IsNoReceive come → (test : Token → Bool) → IsOfReceives test → count test new ≡ count test old
moves_keep old new gone come moves a b test is =
    let m = moves (λ x. if test x then 1 else 0) in
    let e = none_counted test is gone a in
    let f = none_counted test is come b in
    omega (arith, m, e, f)

pub one_token : (kind : Kind) (p : ℕ) (place : Place) → same_kind receive kind ≡ false → All IsNoReceive (token kind p place ∷ [])
one_token kind p place not = All-cons IsNoReceive (token kind p place) [] not (All-nil IsNoReceive)

-- ---- what a state with other names and counts keeps

abbrev pub SameReceives : State → State → Type 0
SameReceives s t = (test : Token → Bool) → IsOfReceives test → count test t.ledger ≡ count test s.ledger

pub keeps_by : (s t x : State) → t ≡ x → ((p : ℕ) → x.live_port p ≡ s.live_port p) → ((p : ℕ) → x.log p ≡ s.log p) → ((p : ℕ) → x.taken p ≡ s.taken p) → ((p : ℕ) → x.limit p ≡ s.limit p) →
    ((p : ℕ) → x.sets_of p ≡ s.sets_of p) → ((set : ℕ) → x.set_owner set ≡ s.set_owner set) → SameReceives s t → Keeps s t
keeps_by s t x e live log taken limit sets owner receives = record {
  live = λ p. ap (λ (y : State). y.live_port p) e ∙ live p;
  log = λ p. ap (λ (y : State). y.log p) e ∙ log p;
  taken = λ p. ap (λ (y : State). y.taken p) e ∙ taken p;
  limit = λ p. ap (λ (y : State). y.limit p) e ∙ limit p;
  sets = λ p. ap (λ (y : State). y.sets_of p) e ∙ sets p;
  owner = λ set. ap (λ (y : State). y.set_owner set) e ∙ owner set;
  receives = receives;
}

-- ---- copying in what is no receive right

pub kept_keeps : (b : Bool) (task name : ℕ) (old new : State) → new ≡ record (name_kept b task name old) { ledger = new.ledger } → SameReceives old new → Keeps old new
kept_keeps true task name old new e = keeps_by old new _ e (λ p. refl) (λ p. refl) (λ p. refl) (λ p. refl) (λ p. refl) (λ set. refl)
kept_keeps false task name old new e = keeps_by old new _ e (λ p. refl) (λ p. refl) (λ p. refl) (λ p. refl) (λ p. refl) (λ set. refl)

fewer_keeps : (b : Bool) (task name n : ℕ) (old new : State) → new ≡ record (if b then with_name task name (Target.dead n) old else without_name task name old) { ledger = new.ledger } → SameReceives old new → Keeps old new
fewer_keeps true task name n old new e = keeps_by old new _ e (λ p. refl) (λ p. refl) (λ p. refl) (λ p. refl) (λ p. refl) (λ set. refl)
fewer_keeps false task name n old new e = keeps_by old new _ e (λ p. refl) (λ p. refl) (λ p. refl) (λ p. refl) (λ p. refl) (λ set. refl)

pub changed_keeps : (d : Disposition) (target : Target) (task name : ℕ) (old new : State) → same_kind receive (kind_sent d) ≡ false → new ≡ record (changed_by d target task name old) { ledger = new.ledger } → SameReceives old new → Keeps old new
changed_keeps MoveReceive target task name old new not e r = absurd (let f : true ≡ false = not in cc)
changed_keeps MoveSend (Target.port p) task name old new not e r = grind (arith, kept_keeps)
changed_keeps MoveSend (Target.dead n) task name old new not e r = fewer_keeps (nat_lt 1 n) task name _ old new e r
changed_keeps MoveSendOnce (Target.dead n) task name old new not e r = fewer_keeps (nat_lt 1 n) task name _ old new e r
changed_keeps MoveSendOnce (Target.once p) task name old new not e r = kept_keeps false task name old new e r
changed_keeps MakeSend (Target.port p) task name old new not e r = keeps_by old new _ e (λ q. refl) (λ q. refl) (λ q. refl) (λ q. refl) (λ q. refl) (λ set. refl) r
changed_keeps d target task name old new not e r = kept_keeps true task name old new e r

pub taken_none : (d : Disposition) (target : Target) (task : ℕ) → same_kind receive (kind_sent d) ≡ false → All IsNoReceive (taken_by d target task)
taken_none MoveReceive target task not = absurd (let f : true ≡ false = not in cc)
taken_none MoveSend (Target.port p) task not = one_token send p (in_task task) refl
taken_none MoveSendOnce (Target.once p) task not = one_token send_once p (in_task task) refl
taken_none d target task not = All-nil IsNoReceive

put_none : (d : Disposition) (target : Target) (place : Place) → same_kind receive (kind_sent d) ≡ false → All IsNoReceive (put_by d target place)
put_none d (Target.port p) place not = one_token (kind_sent d) p place not
put_none d (Target.once p) place not = one_token (kind_sent d) p place not
put_none d (Target.dead n) place not = All-nil IsNoReceive
put_none d (Target.set set) place not = All-nil IsNoReceive

-- what goes under no number but that of a receive right
abbrev pub IsOther : ℕ → Type 0
IsOther number = number ≢ 16

other_kind : (number : ℕ) (d : Disposition) → disposition number ≡ Some d → IsOther number → same_kind receive (kind_sent d) ≡ false
other_kind number MoveReceive is not = absurd (let e = is in grind arith)
other_kind number MoveSend is not = refl
other_kind number MoveSendOnce is not = refl
other_kind number CopySend is not = refl
other_kind number MakeSend is not = refl
other_kind number MakeSendOnce is not = refl

pub copy_keeps : (task : ℕ) (place : Place) (number name : ℕ) (old : State) (mark : Mark) (new : State) → IsOther number → CopyRight task place number name old mark new → Keeps old new
copy_keeps task place number name old mark new other r =
    let not = other_kind number r.given r.is_given other in
    changed_keeps r.given r.target task name old new not r.rest
    (moves_keep old.ledger new.ledger (taken_by r.given r.target task) (put_by r.given r.target place) r.tokens (taken_none r.given r.target task not) (put_none r.given r.target place not))

word_keeps : (task : ℕ) (place : Place) (number word : ℕ) (old : State) (mark : Mark) (new : State) → IsOther number → CopyWord task place number word old mark new → Keeps old new
word_keeps task place number word old mark new other w = go (word == null_word) (word == dead_word) w
  where
    go : (a b : Bool) → MatchBool a ((mark ≡ null) × (new ≡ old)) (MatchBool b ((mark ≡ dead) × (new ≡ old)) (CopyRight task place number word old mark new)) → Keeps old new
    go true b x = keeps_same old new x.1
    go false true x = keeps_same old new x.1
    go false false x = copy_keeps task place number word old mark new other x

pub reply_keeps : (task : ℕ) (place : Place) (number word : ℕ) (old : State) (reply : ReplyRight) (new : State) → IsOther number → CopyReply task place number word old reply new → Keeps old new
reply_keeps task place number word old absent new other r = keeps_same old new r.2
reply_keeps task place number word old (present kind mark) new other r = word_keeps task place number word old mark new other r.1

abbrev pub IsOtherWord : ℕ × ℕ → Type 0
IsOtherWord w = IsOther w.0

words_keep : (task : ℕ) (place : Place) (old : State) (ws : List (ℕ × ℕ)) (rs : List (Kind × Mark)) (new : State) → All IsOtherWord ws → Through (CopyCarried task place) old ws rs new → Keeps old new
words_keep task place old [] [] new other t = keeps_same old new t
words_keep task place old (w ∷ ws) (r ∷ rs) new other (mid, x, rest) =
    keeps_trans old mid new (word_keeps task place w.0 w.1 old r.1 mid (All-head IsOtherWord w ws other) x) (words_keep task place mid ws rs new (All-tail IsOtherWord w ws other) rest)
words_keep task place old [] (r ∷ rs) new other t = absurd t
words_keep task place old (w ∷ ws) [] new other t = absurd t

-- The text sends no receive right.
pub record SendsOthers (header : Header) (written : WireBody) : Type 0 where
  pub destination : IsOther header.remote_kind
  pub reply : IsOther header.local_kind
  pub body : All IsOtherWord (body_words written)

copied_keeps : (task : ℕ) (header : Header) (written : WireBody) (old : State) (m : Message) (new : State) → SendsOthers header written → Copied task header written old m new → Keeps old new
copied_keeps task header written old m new others c =
    keeps_trans old c.first new (copy_keeps task (place_at old m.destination) header.remote_kind header.remote old (to_port m.destination) c.first others.destination c.destination)
    (keeps_trans c.first c.second new (reply_keeps task (place_at old m.destination) header.local_kind header.local c.first m.reply c.second others.reply c.reply)
    (words_keep task (place_at old m.destination) c.second (body_words written) (body_rights m.body) new others.body c.body.1))

-- ---- what changes beside

-- All is kept but one port's queue, and one's limit.
pub record Changes (s t : State) (queues limits : Option ℕ) : Type 0 where
  pub live : (p : ℕ) → t.live_port p ≡ s.live_port p
  pub waiting : (p : ℕ) → queues ≢ Some p → queue t p ≡ queue s p
  pub limit : (p : ℕ) → limits ≢ Some p → t.limit p ≡ s.limit p
  pub sets : (p : ℕ) → t.sets_of p ≡ s.sets_of p
  -- of a set that was there
  pub owner : (set : ℕ) → s.set_owner set ≢ None → t.set_owner set ≡ s.set_owner set
  pub receives : SameReceives s t

same_queue : (s t : State) → Keeps s t → (p : ℕ) → queue t p ≡ queue s p
same_queue s t k p = let a = k.log p in let b = k.taken p in rw (a, b) refl

pub changes_none : (s t : State) (queues limits : Option ℕ) → Keeps s t → Changes s t queues limits
changes_none s t queues limits k = record { live = k.live; waiting = λ p not. same_queue s t k p; limit = λ p not. k.limit p; sets = k.sets; owner = λ set there. k.owner set; receives = k.receives }

pub changes_end : (s mid t : State) (queues limits : Option ℕ) → Changes s mid queues limits → Keeps mid t → Changes s t queues limits
changes_end s mid t queues limits c k = record {
  live = λ p. k.live p ∙ c.live p;
  waiting = λ p not. same_queue mid t k p ∙ c.waiting p not;
  limit = λ p not. k.limit p ∙ c.limit p not;
  sets = λ p. k.sets p ∙ c.sets p;
  owner = λ set there. k.owner set ∙ c.owner set there;
  receives = λ test is. k.receives test is ∙ c.receives test is;
}

-- What covers the port whose queue changes, its sets, and the port whose limit does, covers all that changes.
pub touches : (s t : State) (queues limits : Option ℕ) (touched : Touched) → Changes s t queues limits →
    ((p : ℕ) → queues ≡ Some p → Covers touched (Port p)) → ((p : ℕ) → limits ≡ Some p → Covers touched (Port p)) →
    ((p set : ℕ) → queues ≡ Some p → Contains (s.sets_of p) set → Covers touched (Set set)) → TouchesOnly s t touched
touches s t queues limits touched c queued limited members = record {
  ports = λ p not. record {
    live = c.live p;
    waiting = c.waiting p (λ e. not (queued p e));
    limit = c.limit p (λ e. not (limited p e));
    sets = c.sets p;
    with_task = λ task. c.receives (is_held task receive p) (held_is task p);
    in_queue = λ q k. c.receives (λ x. is_of receive p x && same_place (in_message q k) x.place) (lying_is p q k);
  };
  sets = λ set there not. record {
    owner = c.owner set there;
    members = λ p. (subst (λ (xs : List ℕ). Contains xs set) (c.sets p), subst (λ (xs : List ℕ). Contains xs set) (sym (c.sets p)));
    waiting = λ p in_it. c.waiting p (λ e. not (members p set e in_it));
  };
}

-- ---- a send

pub sends_change : (now task : ℕ) (bytes : List ℕ) (old mid : State) → (s : Sends now task bytes old mid) → SendsOthers s.header s.written → Changes old mid (Some s.m.destination) None
sends_change now task bytes old mid s others =
    let k = copied_keeps task s.header s.written old s.m s.copied_state others s.copied in
    let log : (p : ℕ) → mid.log p ≡ at s.copied_state.log s.m.destination (s.copied_state.log s.m.destination ++ entry now s.m ∷ []) p = λ p. ap (λ (x : State). x.log p) s.rest in
    record {
      live = λ p. ap (λ (x : State). x.live_port p) s.rest ∙ k.live p;
      waiting = λ p not.
          let a = ap (λ (x : State). x.taken p) s.rest ∙ k.taken p in
          let b = log p ∙ at_other s.copied_state.log s.m.destination (s.copied_state.log s.m.destination ++ entry now s.m ∷ []) p (λ e. not (ap Some (sym e))) ∙ k.log p in
          rw (a, b) refl;
      limit = λ p not. ap (λ (x : State). x.limit p) s.rest ∙ k.limit p;
      sets = λ p. ap (λ (x : State). x.sets_of p) s.rest ∙ k.sets p;
      owner = λ set there. ap (λ (x : State). x.set_owner set) s.rest ∙ k.owner set;
      receives = λ test is. ap (λ (x : State). count test x.ledger) s.rest ∙ k.receives test is;
    }

-- what the bytes send goes to one port, and is written in one way
pub sends_alike : (now task : ℕ) (bytes : List ℕ) (old mid other : State) → IsLawful old → (a : Sends now task bytes old mid) → (b : Sends now task bytes old other) →
    (a.m.destination ≡ b.m.destination) × (a.header ≡ b.header) × (a.written ≡ b.written)
sends_alike now task bytes old mid other l a b =
    let good : NoBadNames (old.naming task) = record { no_null = (l.naming task).not_null; no_dead = (l.naming task).not_dead } in
    let same = one_text bytes a.header b.header a.written b.written a.spells b.spells in
    (one_destination (old.naming task) bytes a.m b.m (Sends-means now task bytes old mid good a) (Sends-means now task bytes old other good b), same.0, same.1)

-- ---- a receipt

named_keeps : (task name : ℕ) (target : Target) (old new : State) → Named task name target old new → Keeps old new
named_keeps task name target old new n =
    keeps_by old new _ n.rest (λ p. refl) (λ p. refl) (λ p. refl) (λ p. refl) (λ p. refl) (λ set. refl) (λ test is. ap (λ (x : State). count test x.ledger) n.rest)

once_keeps : (task name port : ℕ) (old new : State) → NamedOnce task name port old new → Keeps old new
once_keeps task name port old new (inl (found, same)) = keeps_same old new same
once_keeps task name port old new (inr (none, named)) = named_keeps task name (Target.port port) old new named

pub for_keeps : (kind : Kind) (task name port : ℕ) (old new : State) → NamedFor kind task name port old new → Keeps old new
for_keeps receive task name port old new n = once_keeps task name port old new n
for_keeps send task name port old new n = once_keeps task name port old new n
for_keeps send_once task name port old new n = named_keeps task name (Target.once port) old new n

given_none : (kind : Kind) (port task : ℕ) (s : State) → same_kind receive kind ≡ false → All IsNoReceive (given_to kind port task s)
given_none receive port task s not = one_token receive port (in_task task) not
given_none send port task s not = go (nat_lt (held s task send port) most_references)
  where
    go : (b : Bool) → All IsNoReceive (if b then token send port (in_task task) ∷ [] else [])
    go true = one_token send port (in_task task) not
    go false = All-nil IsNoReceive
given_none send_once port task s not = one_token send_once port (in_task task) not

right_keeps : (task : ℕ) (place : Place) (kind : Kind) (port : ℕ) (old : State) (name : ℕ) (new : State) → same_kind receive kind ≡ false → GiveRight task place kind port old name new → Keeps old new
right_keeps task place kind port old name new not g =
    let k = for_keeps kind task name port old g.named_state g.named in
    keeps_by old new _ g.rest k.live k.log k.taken k.limit k.sets k.owner
    (moves_keep old.ledger new.ledger (token kind port place ∷ []) (given_to kind port task old) g.tokens (one_token kind port place not) (given_none kind port task old not))

pub mark_keeps : (task : ℕ) (place : Place) (kind : Kind) (mark : Mark) (old : State) (word : ℕ) (new : State) → same_kind receive kind ≡ false → GiveMark task place kind mark old word new → Keeps old new
mark_keeps task place kind null old word new not g = keeps_same old new g.1
mark_keeps task place kind dead old word new not g = keeps_same old new g.1
mark_keeps task place kind (to_port p) old word new not g = go (old.live_port p) g
  where
    go : (b : Bool) → MatchBool b (GiveRight task place kind p old word new) ((word ≡ dead_word) × (new ≡ old)) → Keeps old new
    go true x = right_keeps task place kind p old word new not x
    go false x = keeps_same old new x.1

-- the destination's right is no receive right
not_receive : (kind : Kind) → kind ≢ receive → same_kind receive kind ≡ false
not_receive receive not = absurd (not refl)
not_receive send not = refl
not_receive send_once not = refl

pub taken_changes : (port : ℕ) (e : Entry) (old new : State) → IsLawful old → Takes port e old new → Changes old new (Some port) None
taken_changes port e old new l t =
    let not = not_receive e.message.kind (l.sent_here port (old.taken port) e t.front).1 in
    record {
      live = λ p. ap (λ (x : State). x.live_port p) t.rest;
      waiting = λ p not.
          let a = ap (λ (x : State). x.taken p) t.rest ∙ at_other old.taken port (old.taken port + 1) p (λ e. not (ap Some (sym e))) in
          let b = ap (λ (x : State). x.log p) t.rest in
          rw (a, b) refl;
      limit = λ p not. ap (λ (x : State). x.limit p) t.rest;
      sets = λ p. ap (λ (x : State). x.sets_of p) t.rest;
      owner = λ set there. ap (λ (x : State). x.set_owner set) t.rest;
      receives = moves_keep old.ledger new.ledger (token e.message.kind port (in_message port (old.taken port)) ∷ []) [] t.tokens (one_token e.message.kind port (in_message port (old.taken port)) not) (All-nil IsNoReceive);
    }

-- ---- calls that change names and counts

pub creates_keep : (old : State) (task : ℕ) (mid : State) → CreatesTask old task mid → Keeps old mid
creates_keep old task mid c = keeps_by old mid _ c.rest (λ p. refl) (λ p. refl) (λ p. refl) (λ p. refl) (λ p. refl) (λ set. refl) (λ test is. ap (λ (x : State). count test x.ledger) c.rest)

-- a token keeps its test, where only a request's is renamed
same_test : (task o n : ℕ) (test : Token → Bool) → IsOfReceives test → (kind : Kind) (p : ℕ) (place : Place) → test (renamed_token task o n (token kind p place)) ≡ test (token kind p place)
same_test task o n test is kind p (in_task t) = refl
same_test task o n test is kind p (in_message q k) = refl
same_test task o n test is kind p (in_request r) = go (same_request r (dead_name task o))
  where
    go : (b : Bool) → test (token kind p (if b then in_request (dead_name task n) else in_request r)) ≡ test (token kind p (in_request r))
    go true = is.place kind p (dead_name task n) ∙ sym (is.place kind p r)
    go false = refl

renamed_count : (task o n : ℕ) (test : Token → Bool) → IsOfReceives test → (xs : List Token) → weigh (λ x. if test (renamed_token task o n x) then 1 else 0) xs ≡ count test xs
renamed_count task o n test is [] = refl
renamed_count task o n test is (x ∷ xs) =
    let a = same_test task o n test is x.kind x.port x.place in
    let b = renamed_count task o n test is xs in
    rw (a, b) refl

pub renames_keep : (task o n : ℕ) (old mid : State) → Renames task o n old mid → Keeps old mid
renames_keep task o n old mid r =
    keeps_by old mid _ r.rest (λ p. refl) (λ p. refl) (λ p. refl) (λ p. refl) (λ p. refl) (λ set. refl)
    (λ test is. r.tokens (λ x. if test x then 1 else 0) ∙ renamed_count task o n test is old.ledger)

-- a port's number is set
pub numbered_keeps : (old mid x : State) → mid ≡ x → Keeps old x → Keeps old mid
numbered_keeps old mid x e k = subst (Keeps old) (sym e) k

pub limit_changes : (old mid : State) (p n : ℕ) → mid ≡ record old { limit = at old.limit p n } → Changes old mid None (Some p)
limit_changes old mid p n e = record {
  live = λ q. ap (λ (x : State). x.live_port q) e;
  waiting = λ q not. ap (λ (x : State). queue x q) e;
  limit = λ q not. ap (λ (x : State). x.limit q) e ∙ at_other old.limit p n q (λ e. not (ap Some (sym e)));
  sets = λ q. ap (λ (x : State). x.sets_of q) e;
  owner = λ set there. ap (λ (x : State). x.set_owner set) e;
  receives = λ test is. ap (λ (x : State). count test x.ledger) e;
}

-- ---- something is made under a name

-- what covers two changes covers both
pub touches_both : (s x t : State) (touched : Touched) → TouchesOnly s x touched → TouchesOnly x t touched → TouchesOnly s t touched
touches_both s x t touched k y = record {
  ports = λ p not. let a = k.ports p not in let z = y.ports p not in record {
    live = z.live ∙ a.live;
    waiting = z.waiting ∙ a.waiting;
    limit = z.limit ∙ a.limit;
    sets = z.sets ∙ a.sets;
    with_task = λ task. z.with_task task ∙ a.with_task task;
    in_queue = λ q j. z.in_queue q j ∙ a.in_queue q j;
  };
  sets = λ set there not. let a = k.sets set there not in let z = y.sets set (λ none. there (sym a.owner ∙ none)) not in record {
    owner = z.owner ∙ a.owner;
    members = λ p. ((λ in_it. (a.members p).0 ((z.members p).0 in_it)), (λ in_it. (z.members p).1 ((a.members p).1 in_it)));
    waiting = λ p in_it. z.waiting p ((a.members p).1 in_it) ∙ a.waiting p in_it;
  };
}

-- from a state that differs in nothing that those see who wait
pub touches_before : (s x t : State) (touched : Touched) → Keeps s x → TouchesOnly x t touched → TouchesOnly s t touched
touches_before s x t touched k y = record {
  ports = λ p not. let z = y.ports p not in record {
    live = z.live ∙ k.live p;
    waiting = z.waiting ∙ same_queue s x k p;
    limit = z.limit ∙ k.limit p;
    sets = z.sets ∙ k.sets p;
    with_task = λ task. z.with_task task ∙ k.receives (is_held task receive p) (held_is task p);
    in_queue = λ q j. z.in_queue q j ∙ k.receives (λ x. is_of receive p x && same_place (in_message q j) x.place) (lying_is p q j);
  };
  sets = λ set there not. let z = y.sets set (λ none. there (sym (k.owner set) ∙ none)) not in record {
    owner = z.owner ∙ k.owner set;
    members = λ p. (
      (λ in_it. subst (λ (xs : List ℕ). Contains xs set) (k.sets p) ((z.members p).0 in_it)),
      (λ in_it. (z.members p).1 (subst (λ (xs : List ℕ). Contains xs set) (sym (k.sets p)) in_it)),
    );
    waiting = λ p in_it. z.waiting p (subst (λ (xs : List ℕ). Contains xs set) (sym (k.sets p)) in_it) ∙ same_queue s x k p;
  };
}

pub gives_keeps : (task name : ℕ) (s : State) → Keeps s (gives task name s)
gives_keeps task name s = keeps_by s (gives task name s) (gives task name s) refl (λ p. refl) (λ p. refl) (λ p. refl) (λ p. refl) (λ p. refl) (λ set. refl) (λ test is. refl)

module _ (task name : ℕ) (x mid t : State) (touched : Touched) (l : IsLawful x) (a : AllocatesPort task name x mid) (k : Keeps mid t) (covers : Covers touched (Port x.ports_made)) where
  -- it didn't live, and was in no set
  unmade : x.live_port x.ports_made ≡ false
  unmade = false_from_ne_true (x.live_port x.ports_made) (λ is. let b = l.made_port x.ports_made is in omega (arith, b))

  same_sets : (p : ℕ) → t.sets_of p ≡ x.sets_of p
  same_sets p = k.sets p ∙ ap (λ (y : State). y.sets_of p) a.rest ∙ elim (eqb_tells p x.ports_made) [
    | inl e ↦ subst (λ (q : ℕ). at x.sets_of x.ports_made [] q ≡ x.sets_of q) (sym e.1) (at_own x.sets_of x.ports_made [] ∙ sym (l.no_sets x.ports_made unmade))
    | inr e ↦ at_other x.sets_of x.ports_made [] p e.1
  ]

  same_tokens : (test : Token → Bool) → IsOfReceives test → test (token receive x.ports_made (in_task task)) ≡ false → count test t.ledger ≡ count test x.ledger
  same_tokens test is none =
      let m = a.tokens (λ y. if test y then 1 else 0) in
      let b : ◌≡◌ {A = ℕ} (if test (token receive x.ports_made (in_task task)) then 1 else 0) 0 = rw none refl in
      let c = k.receives test is in
      omega (arith, m, b, c)

  other_queue : (p : ℕ) → (p ≡ x.ports_made → ⊥) → queue t p ≡ queue x p
  other_queue p other =
      let b = k.log p ∙ ap (λ (y : State). y.log p) a.rest ∙ at_other x.log x.ports_made [] p other in
      let c = k.taken p ∙ ap (λ (y : State). y.taken p) a.rest ∙ at_other x.taken x.ports_made 0 p other in
      rw (b, c) refl

  pub made_touches : TouchesOnly x t touched
  made_touches = record {
    ports = λ p not.
        let other : p ≡ x.ports_made → ⊥ = λ e. not (subst (λ (q : ℕ). Covers touched (Port q)) (sym e) covers) in
        let differs : (x.ports_made == p) ≡ false = ne_eqb x.ports_made p (λ e. other (sym e)) in
        record {
          live = k.live p ∙ ap (λ (y : State). y.live_port p) a.rest ∙ at_other x.live_port x.ports_made true p other;
          waiting = other_queue p other;
          limit = k.limit p ∙ ap (λ (y : State). y.limit p) a.rest ∙ at_other x.limit x.ports_made first_limit p other;
          sets = same_sets p;
          with_task = λ u. same_tokens (is_held u receive p) (held_is u p) (none_and (x.ports_made == p) (is_in_task u (in_task task)) differs);
          in_queue = λ q j. same_tokens (λ y. is_of receive p y && same_place (in_message q j) y.place) (lying_is p q j) (none_and (x.ports_made == p) (same_place (in_message q j) (in_task task)) differs);
        };
    sets = λ set there not. record {
      owner = k.owner set ∙ ap (λ (y : State). y.set_owner set) a.rest;
      members = λ p. (subst (λ (xs : List ℕ). Contains xs set) (same_sets p), subst (λ (xs : List ℕ). Contains xs set) (sym (same_sets p)));
      waiting = λ p in_it. other_queue p (λ e.
          let gone : x.sets_of p ≡ [] = l.no_sets p (subst (λ (q : ℕ). x.live_port q ≡ false) (sym e) unmade) in
          none_in set (subst (λ (xs : List ℕ). Contains xs set) gone in_it));
    };
  }
    where
      none_in : (set : ℕ) → Contains [] set → ⊥
      none_in set (i, below, is) = omega (arith, below)

pub set_changes : (task name : ℕ) (old mid : State) → IsLawful old → mid ≡ with_set task name old → Changes old mid None None
set_changes task name old mid l e = record {
  live = λ p. ap (λ (x : State). x.live_port p) e;
  waiting = λ p not. ap (λ (x : State). queue x p) e;
  limit = λ p not. ap (λ (x : State). x.limit p) e;
  sets = λ p. ap (λ (x : State). x.sets_of p) e;
  owner = λ set there. ap (λ (x : State). x.set_owner set) e ∙ at_other old.set_owner old.sets_made (Some task) set (λ same. there (l.made_set set (omega (arith, same))));
  receives = λ test is. ap (λ (x : State). count test x.ledger) e;
}

pub dead_keeps : (task name n : ℕ) (old mid : State) → mid ≡ with_name task name (Target.dead n) old → Keeps old mid
dead_keeps task name n old mid e = keeps_by old mid _ e (λ p. refl) (λ p. refl) (λ p. refl) (λ p. refl) (λ p. refl) (λ set. refl) (λ test is. ap (λ (x : State). count test x.ledger) e)
