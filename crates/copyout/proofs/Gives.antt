-- One right given: the tables after its steps.
use Rattle.std.proofs.Common.{◌≡◌, ◌≢◌, ℕ, ◌-◌, ◌<◌, Option, Some, None, refl, sym, ap, subst, ◌∙◌, arith, inl, inr, true, false}
use Rattle.std.specs.Prelude.{is_some, IfSome}
use Rattle.std.specs.Option.{option_and_then}
use Rattle.std.specs.FinMap as map
use Rattle.std.proofs.lemmas.Bool.Decides.{eqb_tells}
use Rattle.mach_types.specs.Numbers.{most_names}
use Rattle.mach_types.specs.Tokens.{Kind, receive, send, send_once}
use Rattle.name_space.specs.declared.Entry.{Entry}
use Rattle.name_space.specs.declared.Entry.TheVariants as entry_of
use Rattle.name_space.specs.Entry.{port_named, port_of, with_send}
use Rattle.name_space.specs.Names.{Names, SpaceView, IsFreshFor, IsUsable, given_after, HasNoOther, port_at}
use Rattle.port.specs.Ports.{IsLive, PortsView}
use Rattle.copyin_base.specs.Worlds.{WorldView, entry_in, entry_at, space_at, with_space, NoneLost}
use Rattle.copyin_base.specs.Shows.{target_of, HasCount, RequestsStand}
use Rattle.copyin_base.specs.Changes.{AddsSend, IsForLive, CanPutLeft, PutsLeft, InsertsEntry, CanInsert, CanInsertFresh, InsertsFresh}
use Rattle.copyin_base.proofs.FreshNames.{fresh_unused, fresh_has_room, can_count}
use Rattle.copyin_base.proofs.Entering.{for_one}
use Rattle.copyin_base.proofs.Gets.{same_found}
use Rattle.tables_base.proofs.Reading.{named_port}
use Rattle.copyin_base.specs.Kept.{Kept}
use Rattle.copyin_base.proofs.Requested.{KeepsRight, keeps_same, requested_kept, entry_own, entry_other}
use Rattle.copyout.specs.Giving.{joined, alone, ledger_joined, ports_given, GivesPort}
use Rattle.copyout.specs.Putting.{PutsPort, CanPut}
use Rattle.copyout.proofs.PortsGiven.{SameLists, lists_none_lost, given_live, given_lists}
use Rattle.copyout.specs.Ready.{CanJoin}

-- ---- One right given: the tables after its steps.

pub found_in : (w : WorldView) (task name : ℕ) (space : SpaceView) (entry : Entry) → space_at w task ≡ Some space → entry_at w task name ≡ Some entry →
    map.get space.names name ≡ Some entry
found_in w task name space entry there e = sym (ap (λ (o : Option SpaceView). entry_in o name) there) ∙ e

pub named_in : (names : Names) (name port : ℕ) (entry : Entry) → map.get names name ≡ Some entry → port_at names name ≡ Some port → port_named entry ≡ Some port
named_in names name port entry found named = sym (ap (option_and_then port_named) found) ∙ named

-- the entry of a name stays that of its port, and counts
pub joined_keeps : (kind : Kind) (x : Entry) → (port_named (joined kind x) ≡ port_named x) × (target_of (joined kind x) ≡ target_of x) × (HasCount x → HasCount (joined kind x))
joined_keeps send (entry_of.Receive p) = (refl, refl, λ c. omega arith)
joined_keeps send (entry_of.Send p n) = (refl, refl, λ c. omega arith)
joined_keeps send (entry_of.ReceiveAndSend p n) = (refl, refl, λ c. omega arith)
joined_keeps send (entry_of.SendOnce p) = (refl, refl, λ c. c)
joined_keeps send (entry_of.DeadName n) = (refl, refl, λ c. c)
joined_keeps send (entry_of.Set n) = (refl, refl, λ c. c)
joined_keeps receive (entry_of.Receive p) = (refl, refl, λ c. c)
joined_keeps receive (entry_of.Send p n) = (refl, refl, λ c. c)
joined_keeps receive (entry_of.ReceiveAndSend p n) = (refl, refl, λ c. c)
joined_keeps receive (entry_of.SendOnce p) = (refl, refl, λ c. c)
joined_keeps receive (entry_of.DeadName n) = (refl, refl, λ c. c)
joined_keeps receive (entry_of.Set n) = (refl, refl, λ c. c)
joined_keeps send_once x = (refl, refl, λ c. c)

pub joined_port : (kind : Kind) (entry : Entry) → port_named (joined kind entry) ≡ port_named entry
joined_port kind entry = (joined_keeps kind entry).0

pub alone_port : (kind : Kind) (port p : ℕ) → port_named (alone kind port) ≡ Some p → (kind ≢ send_once) × (port ≡ p)
alone_port send port p e = (λ h. cc, cc)
alone_port receive port p e = (λ h. cc, cc)
alone_port send_once port p e = absurd (let e' : None ≡ Some p = e in cc)

-- it stays for the port that it was for
pub joined_for : (kind : Kind) (x : Entry) → port_of (joined kind x) ≡ port_of x
joined_for send (entry_of.Receive p) = refl
joined_for send (entry_of.Send p n) = refl
joined_for send (entry_of.ReceiveAndSend p n) = refl
joined_for send (entry_of.SendOnce p) = refl
joined_for send (entry_of.DeadName n) = refl
joined_for send (entry_of.Set n) = refl
joined_for receive (entry_of.Receive p) = refl
joined_for receive (entry_of.Send p n) = refl
joined_for receive (entry_of.ReceiveAndSend p n) = refl
joined_for receive (entry_of.SendOnce p) = refl
joined_for receive (entry_of.DeadName n) = refl
joined_for receive (entry_of.Set n) = refl
joined_for send_once x = refl

alone_for : (kind : Kind) (port : ℕ) → port_of (alone kind port) ≡ Some port
alone_for send port = refl
alone_for receive port = refl
alone_for send_once port = refl

-- a right's name of its own is for its port, which is there
pub alone_lives : (w : WorldView) (kind : Kind) (port : ℕ) → IsLive w.ports port → IsForLive w (alone kind port)
alone_lives w kind port live p for = subst (λ (q : ℕ). IsLive w.ports q) (for_one port p (sym (alone_for kind port) ∙ for)) live

-- the entry may come in place of what stands under the name
pub can_replace : (w : WorldView) (task : ℕ) (kind : Kind) (port name : ℕ) (entry put : Entry) (space : SpaceView) → space_at w task ≡ Some space → put ≡ joined kind entry →
    map.get space.names name ≡ Some entry → port_named entry ≡ Some port → IsLive w.ports port → CanPutLeft w task name (Some put)
can_replace w task kind port name entry put space there is found own live = record {
  space = space;
  there = there;
  used = ap is_some found;
  same = λ p named. ap (option_and_then port_named) found ∙ sym (joined_port kind entry) ∙ sym (ap port_named is) ∙ named;
  lives = λ p for. subst (λ (q : ℕ). IsLive w.ports q)
      (for_one port p (sym (named_port entry port own) ∙ sym (joined_for kind entry) ∙ sym (ap port_of is) ∙ for)) live;
}

-- it is for no port, or the task has no other name for it
pub no_other : (names : Names) (kind : Kind) (port : ℕ) (x : Entry) → x ≡ alone kind port → (kind ≢ send_once → (name : ℕ) → port_at names name ≢ Some port) → HasNoOther names x
no_other names kind port x is lone p name named here = grind (arith, alone_port)

-- under the task's name for the port
module _ (w w1 w2 : WorldView) (task : ℕ) (kind : Kind) (port name : ℕ) (entry left : Entry) (space : SpaceView)
    (there : space_at w task ≡ Some space) (is : left ≡ joined kind entry)
    (dropped : w1 ≡ record w { ports = ports_given kind task port w.ports; ledger = ledger_joined kind port entry w.ledger })
    (puts : PutsLeft w1 task name (Some left) w2) where
  replaced : w2 ≡ with_space w1 task (record space { names = map.insert space.names name left })
  replaced = grind (arith, same_found)

  pub rest-joined : w2 ≡ record (with_space w task (record space { names = map.insert space.names name (joined kind entry) })) { ports = ports_given kind task port w.ports; ledger = ledger_joined kind port entry w.ledger }
  rest-joined = grind (arith, replaced)

  pub gives-joined : kind ≢ send_once → map.get space.names name ≡ Some entry → port_named entry ≡ Some port → GivesPort w task kind port name w2
  gives-joined not_once found named = record {
    space = space;
    there = there;
    after = map.insert space.names name (joined kind entry);
    room = space.room;
    counts = space.given;
    ledger = ledger_joined kind port entry w.ledger;
    given = inl (record { not_once = not_once; entry = entry; found = found; named = named; rest = refl }, refl, refl, refl);
    rest = rest-joined;
  }

-- what follows of what was found, of which three facts are told
pub of_found : {T : Type 0} (o : Option T) (P Q R S : T → Type 0) → ((x : T) → P x → Q x → R x → S x) → IfSome o P → IfSome o Q → IfSome o R → IfSome o S
of_found None P Q R S f p q r = tt
of_found (Some x) P Q R S f p q r = f x p q r

pub joined_send : (x : Entry) → with_send x ≡ joined send x
joined_send (entry_of.Receive p) = refl
joined_send (entry_of.Send p n) = refl
joined_send (entry_of.ReceiveAndSend p n) = refl
joined_send (entry_of.SendOnce p) = refl
joined_send (entry_of.DeadName n) = refl
joined_send (entry_of.Set n) = refl

-- under the task's name for the port, which has a send reference more
pub gives-added : (w w1 w2 : WorldView) (task : ℕ) (kind : Kind) (port name : ℕ) (entry : Entry) → kind ≡ send → AddsSend w task port name entry w1 →
    w2 ≡ record w1 { ledger = ledger_joined kind port entry w1.ledger } → GivesPort w task kind port name w2
gives-added w w1 w2 task kind port name entry sent adds dropped = record {
  space = adds.space;
  there = adds.there;
  after = map.insert adds.space.names name (with_send entry);
  room = adds.space.room;
  counts = adds.space.given;
  ledger = ledger_joined kind port entry w.ledger;
  given = inl (
    record {
      not_once = λ once. let e : send ≡ send_once = sym sent ∙ once in cc;
      entry = entry;
      found = adds.found;
      named = adds.named;
      rest = ap (λ (x : Entry). map.insert adds.space.names name x) (joined_send entry ∙ ap (λ (k : Kind). joined k entry) (sym sent));
    },
    refl,
    refl,
    refl,
  );
  rest = dropped ∙ ap (λ (x : WorldView). record x { ledger = ledger_joined kind port entry x.ledger }) adds.rest
      ∙ ap (λ (k : Kind). record (with_space w task (record adds.space { names = map.insert adds.space.names name (with_send entry) })) { ports = ports_given k task port w.ports; ledger = ledger_joined kind port entry w.ledger }) (sym sent);
}

-- under a name that isn't in use
rest-alone : (w w1 : WorldView) (task : ℕ) (kind : Kind) (port name : ℕ) (space : SpaceView) → space_at w task ≡ Some space →
    InsertsEntry (record w { ports = ports_given kind task port w.ports }) task name (alone kind port) w1 →
    w1 ≡ record (with_space w task (record space { names = map.insert space.names name (alone kind port); room = space.room - 1 })) { ports = ports_given kind task port w.ports; ledger = w.ledger }
rest-alone w w1 task kind port name space there puts = grind (arith, same_found)

-- under a fresh name, once the port knows who holds it
module _ (w held w2 : WorldView) (task : ℕ) (kind : Kind) (port name : ℕ) (space : SpaceView) (there : space_at w task ≡ Some space) (holds : held ≡ record w { ports = ports_given kind task port w.ports }) where
  held_there : space_at held task ≡ Some space
  held_there = ap (λ (x : WorldView). space_at x task) holds ∙ there

  -- it can come there
  pub can_come : IsUsable name → IsFreshFor space name → name < 16777216 → 0 < space.room → map.len space.names < most_names → (kind ≢ send_once → (n : ℕ) → port_at space.names n ≢ Some port) →
      IsLive w.ports port → CanInsertFresh held task name (alone kind port)
  can_come usable fresh small room few lone live = record {
    can = record {
      space = space;
      there = held_there;
      usable = usable;
      unused = fresh_unused space.given space name fresh;
      few = few;
      place = inl (fresh_has_room space.given space name fresh room);
      apart = no_other space.names kind port (alone kind port) refl lone;
      lives = alone_lives held kind port (subst (λ (x : WorldView). IsLive x.ports port) (sym holds) (given_live task port w.ports kind port ∙ live));
    };
    room = fresh_has_room space.given space name fresh room;
    counts = can_count space.given space name fresh small room;
  }

  pub gives-taken : InsertsFresh held task name (alone kind port) w2 → IsFreshFor space name → map.len space.names < most_names → (kind ≢ send_once → (n : ℕ) → port_at space.names n ≢ Some port) → GivesPort w task kind port name w2
  gives-taken puts fresh room lone = record {
    space = space;
    there = there;
    after = map.insert space.names name (alone kind port);
    room = space.room - 1;
    counts = given_after space.given name;
    ledger = w.ledger;
    given = inr (record { fresh = fresh; unused = fresh_unused space.given space name fresh; room = room; lone = lone; rest = refl }, refl, refl, refl);
    rest = puts.rest ∙ ap (λ (s : SpaceView). with_space held task (record s { names = map.insert s.names name (alone kind port); room = s.room - 1; given = given_after s.given name })) (same_found (space_at held task) puts.space space puts.there held_there)
        ∙ ap (λ (x : WorldView). with_space x task (record space { names = map.insert space.names name (alone kind port); room = space.room - 1; given = given_after space.given name })) holds;
  }

-- ---- A right that comes to a task: each request still stands on a name or a port that is there, and no port is lost.

module _ (w w' : WorldView) (task : ℕ) (kind : Kind) (p word : ℕ) (g : PutsPort w task kind p word w') where
  -- the same ports are lost and noted
  pub put_lists : SameLists w.ports w'.ports
  put_lists = subst (SameLists w.ports) (sym (ap (λ (x : WorldView). x.ports) g.rest)) (given_lists task p w.ports kind)

  pub put_none_lost : NoneLost w → NoneLost w'
  put_none_lost = lists_none_lost w w' put_lists

  live : (q : ℕ) → IsLive w.ports q → IsLive w'.ports q
  live q lives = subst (λ (x : PortsView Kept). IsLive x q) (sym (ap (λ (x : WorldView). x.ports) g.rest)) (given_live task p w.ports kind q ∙ lives)

  abbrev space2 : SpaceView
  space2 = record g.space { names = g.after; room = g.room }

  -- this stands under the name, and under each other what stood there
  rights : (e : Entry) → g.after ≡ map.insert g.space.names word e → ((x : Entry) (q : ℕ) → map.get g.space.names word ≡ Some x → port_of x ≡ Some q → port_of e ≡ Some q) →
      (u n : ℕ) → KeepsRight (entry_at w u n) (entry_at w' u n)
  rights e names same u n = elim (eqb_tells u task) [
    | inl h ↦ elim (eqb_tells n word) [
      | inl k ↦ subst (λ (x : ℕ). KeepsRight (entry_at w x n) (entry_at w' x n)) (sym h.1) (subst (λ (x : ℕ). KeepsRight (entry_at w task x) (entry_at w' task x)) (sym k.1) own)
      | inr k ↦ others u n (λ a b. k.1 b)
    ]
    | inr h ↦ others u n (λ a b. h.1 a)
  ]
    where
      own : KeepsRight (entry_at w task word) (entry_at w' task word)
      own = record {
        keeps = λ x q is for. (
          e,
          entry_own w w' task word g.space space2 (Some e) g.there (ap (λ (y : WorldView). y.spaces) g.rest) names,
          same x q (sym (ap (λ (o : Option SpaceView). entry_in o word) g.there) ∙ is) for,
        );
      }

      others : (v m : ℕ) → (v ≡ task → m ≡ word → ⊥) → KeepsRight (entry_at w v m) (entry_at w' v m)
      others v m not = keeps_same (entry_at w v m) (entry_at w' v m)
          (entry_other w w' task word g.space space2 (Some e) g.there (ap (λ (y : WorldView). y.spaces) g.rest) names v m not)

  kept : (u n : ℕ) → KeepsRight (entry_at w u n) (entry_at w' u n)
  kept = elim g.given [
    | inl h ↦ rights (joined kind h.0.entry) h.0.rest
        (λ x q is for. joined_for kind h.0.entry ∙ ap port_of (same_found (map.get g.space.names word) h.0.entry x h.0.found is) ∙ for)
    | inr h ↦ rights (alone kind p) h.0.rest (λ x q is for. absurd (let e : None ≡ Some x = sym h.0.unused ∙ is in cc))
  ]

  -- It comes under the name.
  pub port_put_requested : RequestsStand w → RequestsStand w'
  port_put_requested r = requested_kept w w' r live (ap (λ (x : WorldView). x.requests) g.rest) kept

-- ---- A right put under a name that the caller chose: the tables after its steps.

entry_is : (w : WorldView) (task word : ℕ) (space : SpaceView) → space_at w task ≡ Some space → entry_at w task word ≡ map.get space.names word
entry_is w task word space there = ap (λ (o : Option SpaceView). entry_in o word) there

pub can_join : (w : WorldView) (task : ℕ) (kind : Kind) (port word : ℕ) → CanPut w task kind port word → is_some (entry_at w task word) ≡ true → CanJoin w task kind port word
can_join w task kind port word r used = elim r.may [
  | inl h ↦ record { space = r.space; there = r.there; not_once = h.0; named = h.1; live = r.live; entered = r.entered; counted = r.counted; none_lost = r.none_lost }
  | inr h ↦ absurd (let e : false ≡ true = sym (ap is_some (entry_is w task word r.space r.there ∙ h.0)) ∙ used in cc)
]

-- What is so of a name that isn't in use.
pub record IsFree (names : Names) (kind : Kind) (port word : ℕ) : Type 0 where
  pub unused : map.get names word ≡ None
  pub room : map.len names < most_names
  pub lone : kind ≢ send_once → (name : ℕ) → port_at names name ≢ Some port

pub is_free : (w : WorldView) (task : ℕ) (kind : Kind) (port word : ℕ) → (r : CanPut w task kind port word) → is_some (entry_at w task word) ≡ false → IsFree r.space.names kind port word
is_free w task kind port word r unused = grind (arith, entry_is)

pub can_insert : (w : WorldView) (task : ℕ) (kind : Kind) (port word : ℕ) → (r : CanPut w task kind port word) → is_some (entry_at w task word) ≡ false → CanInsert w task word (alone kind port)
can_insert w task kind port word r unused =
    let free = is_free w task kind port word r unused in
    record { space = r.space; there = r.there; usable = r.usable; unused = free.unused; few = free.room; place = r.place free.unused; apart = no_other r.space.names kind port (alone kind port) refl free.lone; lives = alone_lives w kind port r.live }

pub puts-new : (w w1 : WorldView) (task : ℕ) (kind : Kind) (port word : ℕ) → (r : CanPut w task kind port word) → is_some (entry_at w task word) ≡ false →
    InsertsEntry (record w { ports = ports_given kind task port w.ports }) task word (alone kind port) w1 → PutsPort w task kind port word w1
puts-new w w1 task kind port word r unused puts =
    let free = is_free w task kind port word r unused in
    record {
      space = r.space;
      there = r.there;
      after = map.insert r.space.names word (alone kind port);
      room = r.space.room - 1;
      ledger = w.ledger;
      given = inr (record { unused = free.unused; lone = free.lone; rest = refl }, refl, refl);
      rest = rest-alone w w1 task kind port word r.space r.there puts;
    }
