-- A receipt by a set takes from the member whose turn it is.
use Rattle.std.proofs.Common.{◌≡◌, ◌≢◌, inl, inr, ℕ, ◌+◌, Bool, true, false, cond, not, Option, Some, None, List, [], ◌∷◌, ◌++◌, All, slice_get, refl, sym, ap, subst, ◌∙◌, arith, append-nil, append_assoc, ◌%◌, ◌^◌, Contains}
use Rattle.std.specs.Prelude.{is_some, unwrap_or, MatchBool}
use Rattle.std.specs.Option.{option_map, option_to_list, option_and_then}
use Rattle.std.specs.FinMap as map
use Rattle.std.proofs.lemmas.List.Elements.{All-nil, All-cons, All-append, All-weaker}
use Rattle.mach_types.specs.declared.calls.Event.{Event}
use Rattle.mach_types.specs.declared.calls.Reply.{Reply}
use Rattle.mach_types.specs.declared.calls.Waited.{Waited}
use Rattle.mach_types.specs.Numbers.{kind_sent, dead_word}
use Rattle.mach_types.specs.Tokens.{Kind, receive, send, send_once}
use Rattle.member_lists.specs.Lists.{without}
use Rattle.rights.specs.declared.RightKind.TheVariants as right
use Rattle.rights.specs.Ledger.{taken}
use Rattle.port.specs.declared.Holder.{Holder}
use Rattle.port.specs.Holding.{held}
use Rattle.port.specs.Ports.{PortView, PortsView, PassesTurn, sets_in, ready_in, turned, with_port}
use Rattle.port.specs.Turns.{ReadyLists, turns_of, with_turns, left, joined, passed, ready_if, sets_without}
use Rattle.member_lists.proofs.Times.{eqb_same, eqb_other}
use Rattle.port.proofs.Each.{without_from, nothing_in, in_cases, sets_but_same, sets_but_none}
use Rattle.port.proofs.InTurn.{turns_here, turns_other}
use Rattle.port.proofs.Keys.{same_some, equal_or_not, put_here, put_other, out_here, out_other, same_gets}
use Rattle.copyin_base.specs.declared.Carried.{Carried}
use Rattle.copyin_base.specs.declared.Mark.{Mark}
use Rattle.copyin_base.specs.declared.Mark.TheVariants as mark
use Rattle.copyin_base.specs.Changes.{MakesRoom, NotesSenderless}
use Rattle.copyin_base.specs.declared.Notice.TheVariants as notice
use Rattle.copyin_base.specs.Kept.{Kept}
use Rattle.copyin_base.specs.Queued.{notice_kept}
use Rattle.copyin_base.specs.Worlds.{WorldView, entry_at, port_at}
use Rattle.copyin_base.proofs.InSets.{sets_are}
use Rattle.copyout.specs.Giving.{GivesMark, GivesAll, GivesPort, port_held, ports_given}
use Rattle.copyout.specs.Takes.{TakesFront, TakesMessage, NotesFront}
use Rattle.copyout.proofs.Fronts.{by_note}
use Rattle.notifications.specs.Destroying.{LosesRight, LosesMark, LosesAll, DestroysMessage}
use Rattle.kernel_core.specs.InTurn.{in_turn, IsFirst, PassesIn, queue_at, turns_behind, TakesFirst, JoinsTurns, TakesInTurn, KeepsTurns}
use Rattle.kernel_core.specs.Receive.{HasMessage, waited_at}
use Rattle.kernel_core.proofs.Chosen.{passes-in}

-- ---- a port from which a message is taken

module _ (ready : ReadyLists) (set : ℕ) where
  get_here : (xs : List ℕ) (other : ReadyLists) → map.get (with_turns ready set xs) set ≡ map.get (with_turns other set xs) set
  get_here [] other = out_here ready set ∙ sym (out_here other set)
  get_here (x ∷ xs) other = put_here ready set (x ∷ xs) ∙ sym (put_here other set (x ∷ xs))

  get_other : (xs : List ℕ) (q : ℕ) → q ≢ set → map.get (with_turns ready set xs) q ≡ map.get ready q
  get_other [] q d = out_other ready set q d
  get_other (x ∷ xs) q d = put_other ready set (x ∷ xs) q d

both_get : (a b : ReadyLists) (s : ℕ) (xs ys : List ℕ) → xs ≡ ys → (q : ℕ) → (q ≢ s → map.get a q ≡ map.get b q) → map.get (with_turns a s xs) q ≡ map.get (with_turns b s ys) q
both_get a b s xs ys same q others = elim (equal_or_not q s) [
  | inl e ↦ ap (map.get (with_turns a s xs)) e ∙ get_here a s xs b ∙ ap (λ (zs : List ℕ). map.get (with_turns b s zs) s) same ∙ sym (ap (map.get (with_turns b s ys)) e)
  | inr d ↦ get_other a s xs q d ∙ others d ∙ sym (get_other b s ys q d)
]

-- the turns once a message is taken of a port in these sets, and these are left: it has none, or those that it had
abbrev kept_behind : ReadyLists → (port : ℕ) → (sets : List ℕ) → List Kept → ReadyLists
kept_behind ready port sets [] = left ready port sets
kept_behind ready port sets (m ∷ ms) = ready

-- the same once it was received by one of the sets
abbrev behind_in : ReadyLists → (set port : ℕ) → (sets : List ℕ) → List Kept → ReadyLists
behind_in ready set port sets [] = left ready port sets
behind_in ready set port sets (m ∷ ms) = passed ready port set

turned_kept : (ready : ReadyLists) (port : ℕ) (was now : PortView Kept) → ready_in now ≡ ready_in was → turned ready port (Some was) now ≡ ready
turned_kept ready port was now same =
    ap (λ (xs : List ℕ). joined (left ready port (sets_without (ready_in was) xs)) port (sets_without xs (ready_in was))) same
    ∙ ap (λ (xs : List ℕ). joined (left ready port xs) port xs) (sets_but_same (ready_in was))

taken_turns : (ready : ReadyLists) (port : ℕ) (v now : PortView Kept) (front : Kept) → v.queue ≡ front ∷ now.queue → sets_in now ≡ sets_in v → turned ready port (Some v) now ≡ kept_behind ready port (sets_in v) now.queue
taken_turns ready port v now front queued same = go now.queue refl
  where
    was : ready_in v ≡ sets_in v
    was = ap (λ (ms : List Kept). ready_if ms (sets_in v)) queued

    go : (ms : List Kept) → now.queue ≡ ms → turned ready port (Some v) now ≡ kept_behind ready port (sets_in v) ms
    go [] e =
        let here : ready_in now ≡ [] = ap (λ (ms : List Kept). ready_if ms (sets_in now)) e in
        ap (λ (xs : List ℕ). joined (left ready port (sets_without (ready_in v) xs)) port (sets_without xs (ready_in v))) here
        ∙ ap (left ready port) (sets_but_none (ready_in v) ∙ was)
    go (m ∷ ms) e =
        let here : ready_in now ≡ sets_in now = ap (λ (ms : List Kept). ready_if ms (sets_in now)) e in
        turned_kept ready port v now (here ∙ same ∙ sym was)

-- ---- a port that left the turns of its sets

module _ (port set : ℕ) where
  stay_out : (sets : List ℕ) (ready : ReadyLists) → (Contains (turns_of ready set) port → ⊥) → Contains (turns_of (left ready port sets) set) port → ⊥
  stay_out [] ready out c = out c
  stay_out (s ∷ sets) ready out c = stay_out sets (with_turns ready s (without port (turns_of ready s))) (λ d. elim (equal_or_not set s) [
    | inl e ↦ (without_from port port (turns_of ready s) (subst (λ (xs : List ℕ). Contains xs port) (ap (turns_of (with_turns ready s (without port (turns_of ready s)))) e ∙ turns_here ready s (without port (turns_of ready s))) d)).1 refl
    | inr o ↦ out (subst (λ (xs : List ℕ). Contains xs port) (turns_other ready s (without port (turns_of ready s)) set o) d)
  ]) c

  left_out : (sets : List ℕ) (ready : ReadyLists) → Contains sets set → Contains (turns_of (left ready port sets) set) port → ⊥
  left_out [] ready has c = nothing_in set has
  left_out (s ∷ sets) ready has c = elim (in_cases s set sets has) [
    | inl e ↦ stay_out sets (with_turns ready s (without port (turns_of ready s))) (λ d.
        (without_from port port (turns_of ready s) (subst (λ (xs : List ℕ). Contains xs port) (ap (turns_of (with_turns ready s (without port (turns_of ready s)))) (sym e) ∙ turns_here ready s (without port (turns_of ready s))) d)).1 refl) c
    | inr a ↦ left_out sets (with_turns ready s (without port (turns_of ready s))) a c
  ]

  -- lists that differ in this port's turn in one of the sets don't once it left them
  left_alike : (sets : List ℕ) (a b : ReadyLists) → ((q : ℕ) → q ≢ set → map.get a q ≡ map.get b q) → without port (turns_of a set) ≡ without port (turns_of b set) → Contains sets set → left a port sets ≡ left b port sets
  left_alike [] a b others same has = absurd (nothing_in set has)
  left_alike (s ∷ sets) a b others same has = elim (equal_or_not s set) [
    | inl e ↦ ap (λ (r : ReadyLists). left r port sets) (same_gets _ _ (λ q. both_get a b s (without port (turns_of a s)) (without port (turns_of b s)) (here e) q (λ d. others q (λ f. d (f ∙ sym e)))))
    | inr d ↦ left_alike sets (with_turns a s (without port (turns_of a s))) (with_turns b s (without port (turns_of b s)))
        (λ q n. both_get a b s (without port (turns_of a s)) (without port (turns_of b s)) (there d) q (λ o. others q n))
        (ap (without port) (turns_other a s (without port (turns_of a s)) set (λ f. d (sym f))) ∙ same ∙ sym (ap (without port) (turns_other b s (without port (turns_of b s)) set (λ f. d (sym f))))) (rest d)
  ]
    where
      here : s ≡ set → without port (turns_of a s) ≡ without port (turns_of b s)
      here e = ap (λ (n : ℕ). without port (turns_of a n)) e ∙ same ∙ sym (ap (λ (n : ℕ). without port (turns_of b n)) e)

      there : s ≢ set → without port (turns_of a s) ≡ without port (turns_of b s)
      there d = ap (λ (o : Option (List ℕ)). without port (unwrap_or o [])) (others s d)

      rest : s ≢ set → Contains sets set
      rest d = elim (in_cases s set sets has) [ inl e ↦ absurd (d e) | inr a ↦ a ]

  pushed_out : (xs : List ℕ) → without port (without port xs ++ port ∷ []) ≡ without port xs
  pushed_out [] = ap (λ (b : Bool). cond (not b) (port ∷ []) []) (eqb_same port port refl)
  pushed_out (x ∷ xs) = elim (equal_or_not x port) [
    | inl e ↦ (let same = eqb_same x port e in
        ap (λ (b : Bool). without port (cond (not b) (x ∷ without port xs) (without port xs) ++ port ∷ [])) same ∙ pushed_out xs ∙ sym (ap (λ (b : Bool). cond (not b) (x ∷ without port xs) (without port xs)) same))
    | inr d ↦ (let apart = eqb_other x port d in
        ap (λ (b : Bool). without port (cond (not b) (x ∷ without port xs) (without port xs) ++ port ∷ [])) apart
        ∙ ap (λ (b : Bool). cond (not b) (x ∷ without port (without port xs ++ port ∷ [])) (without port (without port xs ++ port ∷ []))) apart
        ∙ ap (λ (ys : List ℕ). x ∷ ys) (pushed_out xs) ∙ sym (ap (λ (b : Bool). cond (not b) (x ∷ without port xs) (without port xs)) apart))
  ]

  left_passed : (sets : List ℕ) (ready : ReadyLists) → Contains sets set → left (passed ready port set) port sets ≡ left ready port sets
  left_passed sets ready has =
      let out : ReadyLists = with_turns ready set (without port (turns_of ready set)) in
      left_alike sets (passed ready port set) ready (λ q d. get_other out set (turns_of out set ++ port ∷ []) q d ∙ get_other ready set (without port (turns_of ready set)) q d)
      (ap (without port) (turns_here out set (turns_of out set ++ port ∷ []) ∙ ap (λ (xs : List ℕ). xs ++ port ∷ []) (turns_here ready set (without port (turns_of ready set)))) ∙ pushed_out (turns_of ready set)) has

  passed_behind : (sets : List ℕ) (ready : ReadyLists) (behind : List Kept) → Contains sets set → kept_behind (passed ready port set) port sets behind ≡ behind_in ready set port sets behind
  passed_behind sets ready [] has = left_passed sets ready has
  passed_behind sets ready (m ∷ ms) has = refl

  first_in : (xs : List ℕ) → slice_get xs 0 ≡ Some port → Contains xs port
  first_in [] e = absurd (cc)
  first_in (x ∷ xs) e = (0, omega arith, same_some x port e)

  -- the turn passes once the message is taken
  behind_passed : (sets : List ℕ) (ready : ReadyLists) (behind : List Kept) → Contains sets set → slice_get (turns_of ready set) 0 ≡ Some port → (a b : PortsView Kept) → a.ready ≡ kept_behind ready port sets behind → PassesTurn a set port b →
      b.ready ≡ behind_in ready set port sets behind
  behind_passed sets ready [] has first a b is p =
      ap (λ (x : PortsView Kept). x.ready) (p.other (λ e. left_out sets ready has (first_in (turns_of (left ready port sets) set) (ap (λ (r : ReadyLists). slice_get (turns_of r set) 0) (sym is) ∙ e)))) ∙ is
  behind_passed sets ready (m ∷ ms) has first a b is p =
      ap (λ (x : PortsView Kept). x.ready) (p.its (ap (λ (r : ReadyLists). slice_get (turns_of r set) 0) is ∙ first)) ∙ ap (λ (r : ReadyLists). passed r port set) is

in_tables : (w : WorldView) (set port : ℕ) (v : PortView Kept) (behind : List Kept) → port_at w port ≡ Some v → behind_in w.ports.ready set port (sets_in v) behind ≡ turns_behind w set port behind
in_tables w set port v [] there = ap (left w.ports.ready port) (sym (sets_are w port v there))
in_tables w set port v (m ∷ ms) there = refl

-- ---- what keeps all queues and turns

record SameTurns (old new : WorldView) : Type 0 where
  queues : (port : ℕ) → queue_at new port ≡ queue_at old port
  ready : new.ports.ready ≡ old.ports.ready

same_refl : (w : WorldView) → SameTurns w w
same_refl w = record { queues = λ port. refl; ready = refl }

abbrev queue_in : PortsView Kept → (port : ℕ) → Option (List Kept)
queue_in ports port = option_map (λ (v : PortView Kept). v.queue) (map.get ports.ports port)

same_by : (old new : WorldView) → new.ports ≡ old.ports → SameTurns old new
same_by old new e = record { queues = λ port. ap (λ (x : PortsView Kept). queue_in x port) e; ready = ap (λ (x : PortsView Kept). x.ready) e }

same_then : (a b c : WorldView) → SameTurns a b → SameTurns b c → SameTurns a c
same_then a b c x y = record { queues = λ port. y.queues port ∙ x.queues port; ready = y.ready ∙ x.ready }

-- a port with another queue: its own queue is so, and each other as it was
module _ (ports : PortsView Kept) (p : ℕ) (now : PortView Kept) where
  queue_here : queue_in (with_port ports p now) p ≡ Some now.queue
  queue_here = ap (option_map (λ (v : PortView Kept). v.queue)) (put_here ports.ports p now)

  queue_other : (q : ℕ) → q ≢ p → queue_in (with_port ports p now) q ≡ queue_in ports q
  queue_other q d = ap (option_map (λ (v : PortView Kept). v.queue)) (put_other ports.ports p now q d)

-- a port with another holder
module _ (ports : PortsView Kept) (p : ℕ) (v : PortView Kept) (there : map.get ports.ports p ≡ Some v) (h : Holder) where
  held_queues : (q : ℕ) → queue_in (with_port ports p (held v h)) q ≡ queue_in ports q
  held_queues q = elim (equal_or_not q p) [
    | inl e ↦
        ap (queue_in (with_port ports p (held v h))) e ∙ queue_here ports p (held v h)
        ∙ sym (ap (queue_in ports) e ∙ ap (option_map (λ (x : PortView Kept). x.queue)) there)
    | inr d ↦ queue_other ports p (held v h) q d
  ]

  held_ready : (with_port ports p (held v h)).ready ≡ ports.ready
  held_ready = ap (λ (o : Option (PortView Kept)). turned ports.ready p o (held v h)) there ∙ turned_kept ports.ready p v (held v h) refl

-- a port that is noted
noted_same : (old new : WorldView) (port : ℕ) → NotesSenderless old port new → SameTurns old new
noted_same old new port n = record { queues = λ q. ap (λ (x : WorldView). queue_at x q) n.rest; ready = ap (λ (x : WorldView). x.ports.ready) n.rest }

-- ---- rights are given

given_ports : (w : WorldView) (task p : ℕ) (kind : Kind) (new : WorldView) → new.ports ≡ ports_given kind task p w.ports → SameTurns w new
given_ports w task p send new e = same_by w new e
given_ports w task p send_once new e = same_by w new e
given_ports w task p receive new e = go (map.get w.ports.ports p) refl e
  where
    go : (o : Option (PortView Kept)) → map.get w.ports.ports p ≡ o → new.ports ≡ port_held task p w.ports o → SameTurns w new
    go None there is = same_by w new is
    go (Some v) there is = record {
      queues = λ q. ap (λ (x : PortsView Kept). queue_in x q) is ∙ held_queues w.ports p v there (Holder.Task task) q;
      ready = ap (λ (x : PortsView Kept). x.ready) is ∙ held_ready w.ports p v there (Holder.Task task);
    }

mark_same : (w new : WorldView) (task : ℕ) (kind : Kind) (one : Mark) (word : ℕ) → GivesMark w task kind one word new → SameTurns w new
mark_same w new task kind mark.Null word h = same_by w new (ap (λ (x : WorldView). x.ports) h.1)
mark_same w new task kind mark.Dead word h = same_by w new (ap (λ (x : WorldView). x.ports) h.1)
mark_same w new task kind (mark.Port p) word h = go (is_some (map.get w.ports.ports p)) h
  where
    go : (b : Bool) → MatchBool b (GivesPort w task kind p word new) ((word ≡ dead_word) × (new ≡ w)) → SameTurns w new
    go true g = given_ports w task p kind new (ap (λ (x : WorldView). x.ports) g.rest)
    go false g = same_by w new (ap (λ (x : WorldView). x.ports) g.1)

all_same : (cs : List Carried) (words : List ℕ) (w new : WorldView) (task : ℕ) → GivesAll w task cs words new → SameTurns w new
all_same [] [] w new task g = same_by w new (ap (λ (x : WorldView). x.ports) g)
all_same (c ∷ cs) (word ∷ words) w new task g = same_then w g.0 new (mark_same w g.0 task (kind_sent c.given) c.mark word g.1) (all_same cs words g.0 new task g.2)
all_same [] (word ∷ words) w new task g = absurd g
all_same (c ∷ cs) [] w new task g = absurd g

note_same : (old new : WorldView) (port : ℕ) (front : Kept) → NotesFront old port front new → SameTurns old new
note_same old new port front n = by_note (SameTurns old) front.by_once old new port (noted_same old new port) (same_refl old) n

-- ---- the front message is taken

abbrev served : (v : PortView Kept) → List Kept → PortView Kept
served v behind = record v { queue = behind; attributes = record v.attributes { sequence = (v.attributes.sequence + 1) % 2 ^ 32 } }

module _ (old new : WorldView) (port : ℕ) (f : TakesFront old port new) where
  front_taken : queue_at new port ≡ Some f.behind
  front_taken = ap (λ (x : WorldView). queue_at x port) f.rest ∙ queue_here old.ports port (served f.v f.behind)

  front_turns : new.ports.ready ≡ kept_behind old.ports.ready port (sets_in f.v) f.behind
  front_turns =
      ap (λ (x : WorldView). x.ports.ready) f.rest
      ∙ ap (λ (o : Option (PortView Kept)). turned old.ports.ready port o (served f.v f.behind)) f.there
      ∙ taken_turns old.ports.ready port f.v (served f.v f.behind) f.front f.queue refl

-- what is told of a port at one place is told of it at another
member_at : (w : WorldView) (port set : ℕ) (has : HasMessage w (Waited.Set set) port) (v : PortView Kept) → port_at w port ≡ Some v → Contains (sets_in v) set
member_at w port set has v there = subst (λ (x : PortView Kept). Contains (sets_in x) set) (same_some has.from.v v (sym has.from.there ∙ there)) has.from.is_of

queued_at : (w : WorldView) (port : ℕ) (v : PortView Kept) (front : Kept) (behind : List Kept) → port_at w port ≡ Some v → v.queue ≡ front ∷ behind → queue_at w port ≡ Some (front ∷ behind)
queued_at w port v front behind there queue = ap (option_map (λ (x : PortView Kept). x.queue)) there ∙ ap (λ (ms : List Kept). Some ms) queue

-- it is received by the set, and then the turn passes
message_first : (w start taken noted new : WorldView) (task port number local set : ℕ) (bytes : List ℕ) → MakesRoom w task number start → (t : TakesMessage start task port local bytes taken) →
    NotesFront taken port t.takes.front noted → PassesIn noted (Waited.Set set) port new → HasMessage w (Waited.Set set) port → slice_get (in_turn w set) 0 ≡ Some port → TakesFirst w set new
message_first w start taken noted new task port number local set bytes made t notes passes has first =
    let ports : start.ports ≡ w.ports = ap (λ (x : WorldView). x.ports) made.rest in
    let there : port_at w port ≡ Some t.takes.v = ap (λ (x : PortsView Kept). map.get x.ports port) (sym ports) ∙ t.takes.there in
    let gave : SameTurns t.mid noted = same_then t.mid taken noted (all_same (option_to_list t.takes.front.reply ++ t.takes.front.rights) t.words t.mid taken task t.gives) (note_same taken noted port t.takes.front notes) in
    let turned_so : noted.ports.ready ≡ kept_behind w.ports.ready port (sets_in t.takes.v) t.takes.behind =
    gave.ready ∙ front_turns start t.mid port t.takes ∙ ap (λ (x : PortsView Kept). kept_behind x.ready port (sets_in t.takes.v) t.takes.behind) ports in
    record {
      member = port;
      first = first;
      front = t.takes.front;
      behind = t.takes.behind;
      queue = queued_at w port t.takes.v t.takes.front t.takes.behind there t.takes.queue;
      taken = ap (λ (x : WorldView). queue_at x port) (passes-in noted new (Waited.Set set) port passes) ∙ gave.queues port ∙ front_taken start t.mid port t.takes;
      turns =
          behind_passed port set (sets_in t.takes.v) w.ports.ready t.takes.behind (member_at w port set has t.takes.v there) first noted.ports new.ports turned_so passes.0
          ∙ in_tables w set port t.takes.v t.takes.behind there;
    }

-- ---- messages come to queues

none_more : (o : Option (List Kept)) → o ≡ option_map (λ (ms : List Kept). ms ++ []) o
none_more None = refl
none_more (Some ms) = ap (λ (xs : List Kept). Some xs) (sym (append-nil ms))

joins_same : (old new : WorldView) (set : ℕ) → SameTurns old new → JoinsTurns old set new
joins_same old new set same = record {
  queues = λ port. ([], same.queues port ∙ none_more (queue_at old port));
  joined = [];
  empty = All-nil (λ (port : ℕ). queue_at old port ≡ Some []);
  turns = ap (λ (r : ReadyLists). turns_of r set) same.ready ∙ sym (append-nil (in_turn old set));
}

more_then : (o : Option (List Kept)) (xs ys : List Kept) → option_map (λ (ms : List Kept). ms ++ ys) (option_map (λ (ms : List Kept). ms ++ xs) o) ≡ option_map (λ (ms : List Kept). ms ++ (xs ++ ys)) o
more_then None xs ys = refl
more_then (Some ms) xs ys = ap (λ (zs : List Kept). Some zs) (append_assoc ms xs ys)

was_empty : (o : Option (List Kept)) (more : List Kept) → option_map (λ (ms : List Kept). ms ++ more) o ≡ Some [] → o ≡ Some []
was_empty None more e = absurd (cc)
was_empty (Some []) more e = refl
was_empty (Some (m ∷ ms)) more e = absurd (let none : m ∷ (ms ++ more) ≡ [] = same_some (m ∷ (ms ++ more)) [] e in cc)

joins_then : (a b c : WorldView) (set : ℕ) → JoinsTurns a set b → JoinsTurns b set c → JoinsTurns a set c
joins_then a b c set x y = record {
  queues = λ port. ((x.queues port).0 ++ (y.queues port).0, (y.queues port).1 ∙ ap (option_map (λ (ms : List Kept). ms ++ (y.queues port).0)) (x.queues port).1 ∙ more_then (queue_at a port) (x.queues port).0 (y.queues port).0);
  joined = x.joined ++ y.joined;
  empty = All-append (λ (port : ℕ). queue_at a port ≡ Some []) x.joined y.joined x.empty (All-weaker (λ (port : ℕ). queue_at b port ≡ Some []) (λ (port : ℕ). queue_at a port ≡ Some [])
      (λ port e. was_empty (queue_at a port) (x.queues port).0 (sym (x.queues port).1 ∙ e)) y.joined y.empty);
  turns = y.turns ∙ ap (λ (ps : List ℕ). ps ++ y.joined) x.turns ∙ append_assoc (in_turn a set) x.joined y.joined;
}

-- a message more is queued at a port
module _ (old : WorldView) (p : ℕ) (v : PortView Kept) (there : port_at old p ≡ Some v) (m : Kept) (set : ℕ) where
  abbrev more : PortView Kept
  more = record v { queue = v.queue ++ m ∷ [] }

  more_queues : (q : ℕ) → (ms : List Kept) × (queue_in (with_port old.ports p more) q ≡ option_map (λ (xs : List Kept). xs ++ ms) (queue_in old.ports q))
  more_queues q = elim (equal_or_not q p) [
    | inl e ↦ (
      m ∷ [],
      ap (queue_in (with_port old.ports p more)) e ∙ queue_here old.ports p more
          ∙ sym (ap (λ (x : ℕ). option_map (λ (xs : List Kept). xs ++ m ∷ []) (queue_in old.ports x)) e ∙ ap (λ (o : Option (PortView Kept)). option_map (λ (xs : List Kept). xs ++ m ∷ []) (option_map (λ (x : PortView Kept). x.queue) o)) there),
    )
    | inr d ↦ ([], queue_other old.ports p more q d ∙ none_more (queue_in old.ports q))
  ]

  -- the port, where it had no message
  abbrev IsEmptyPort : List Kept → (q : ℕ) → Type 0
  IsEmptyPort queue q = (q ≡ p) × (queue ≡ [])

  -- Behind the turns come these.
  record Joins (queue : List Kept) (ready : ReadyLists) : Type 0 where
    joined : List ℕ
    empty : All (IsEmptyPort queue) joined
    turns : turns_of ready set ≡ in_turn old set ++ joined

  stays : (queue : List Kept) (ready : ReadyLists) → ready ≡ old.ports.ready → Joins queue ready
  stays queue ready same = record { joined = []; empty = All-nil (IsEmptyPort queue); turns = ap (λ (r : ReadyLists). turns_of r set) same ∙ sym (append-nil (in_turn old set)) }

  joins_sets : (sets : List ℕ) (ready : ReadyLists) → (js : List ℕ) × All (IsEmptyPort []) js × (turns_of (joined ready p sets) set ≡ turns_of ready set ++ js)
  joins_sets [] ready = ([], All-nil (IsEmptyPort []), sym (append-nil (turns_of ready set)))
  joins_sets (s ∷ sets) ready =
      let then : ReadyLists = with_turns ready s (turns_of ready s ++ p ∷ []) in
      let more = joins_sets sets then in
      elim (equal_or_not set s) [
        | inl e ↦ (
          p ∷ more.0,
          All-cons (IsEmptyPort []) p more.0 (refl, refl) more.1,
          more.2 ∙ ap (λ (xs : List ℕ). xs ++ more.0) (ap (turns_of then) e ∙ turns_here ready s (turns_of ready s ++ p ∷ []) ∙ ap (λ (x : ℕ). turns_of ready x ++ p ∷ []) (sym e)) ∙ append_assoc (turns_of ready set) (p ∷ []) more.0,
        )
        | inr d ↦ (more.0, more.1, more.2 ∙ ap (λ (xs : List ℕ). xs ++ more.0) (turns_other ready s (turns_of ready s ++ p ∷ []) set d))
      ]

  joins_by : (queue : List Kept) → v.queue ≡ queue → Joins queue (turned old.ports.ready p (Some v) more)
  joins_by [] e =
      let was : ready_in v ≡ [] = ap (λ (ms : List Kept). ready_if ms (sets_in v)) e in
      let now : ready_in more ≡ sets_in v = ap (λ (ms : List Kept). ready_if (ms ++ m ∷ []) (sets_in v)) e in
      let is : turned old.ports.ready p (Some v) more ≡ joined old.ports.ready p (sets_in v) =
      ap (λ (xs : List ℕ). joined (left old.ports.ready p (sets_without xs (ready_in more))) p (sets_without (ready_in more) xs)) was
      ∙ ap (λ (xs : List ℕ). joined old.ports.ready p (sets_without xs [])) now ∙ ap (joined old.ports.ready p) (sets_but_none (sets_in v)) in
      let x = joins_sets (sets_in v) old.ports.ready in
      record { joined = x.0; empty = x.1; turns = ap (λ (r : ReadyLists). turns_of r set) is ∙ x.2 }
  joins_by (x ∷ xs) e =
      let was : ready_in v ≡ sets_in v = ap (λ (ms : List Kept). ready_if ms (sets_in v)) e in
      let now : ready_in more ≡ sets_in v = ap (λ (ms : List Kept). ready_if (ms ++ m ∷ []) (sets_in v)) e in
      stays (x ∷ xs) (turned old.ports.ready p (Some v) more) (turned_kept old.ports.ready p v more (now ∙ sym was))

  more_joins : Joins v.queue (with_port old.ports p more).ready
  more_joins = subst (λ (r : ReadyLists). Joins v.queue r) (sym (ap (λ (o : Option (PortView Kept)). turned old.ports.ready p o more) there)) (joins_by v.queue refl)

  posted_joins : (new : WorldView) → ((q : ℕ) → queue_at new q ≡ queue_in (with_port old.ports p more) q) → new.ports.ready ≡ (with_port old.ports p more).ready → JoinsTurns old set new
  posted_joins new queues ready = record {
    queues = λ q. ((more_queues q).0, queues q ∙ (more_queues q).1);
    joined = more_joins.joined;
    empty = All-weaker (IsEmptyPort v.queue) (λ (q : ℕ). queue_at old q ≡ Some [])
        (λ q h. ap (queue_at old) h.0 ∙ ap (option_map (λ (x : PortView Kept). x.queue)) there ∙ ap (λ (ms : List Kept). Some ms) h.1) more_joins.joined more_joins.empty;
    turns = ap (λ (r : ReadyLists). turns_of r set) ready ∙ more_joins.turns;
  }

-- ---- a message is destroyed

right_joins : (old new : WorldView) (kind : Kind) (port set : ℕ) → LosesRight old kind port new → JoinsTurns old set new
right_joins old new receive port set l = joins_same old new set (record {
  queues = λ q. ap (λ (x : WorldView). queue_at x q) l.rest ∙ held_queues old.ports port l.v l.there Holder.Nobody q;
  ready = ap (λ (x : WorldView). x.ports.ready) l.rest ∙ held_ready old.ports port l.v l.there Holder.Nobody;
})
right_joins old new send port set l =
    let fewer : WorldView = record old { ledger = taken old.ledger port right.Send 1 } in
    joins_same old new set (same_then old fewer new (same_by old fewer refl) (noted_same fewer new port l))
right_joins old new send_once port set l = posted_joins old port l.v l.there (notice_kept notice.SendOnce) set new (λ q. ap (λ (x : WorldView). queue_at x q) l.rest) (ap (λ (x : WorldView). x.ports.ready) l.rest)

mark_joins : (old new : WorldView) (kind : Kind) (one : Mark) (set : ℕ) → LosesMark old kind one new → JoinsTurns old set new
mark_joins old new kind mark.Null set l = joins_same old new set (same_by old new (ap (λ (x : WorldView). x.ports) l))
mark_joins old new kind mark.Dead set l = joins_same old new set (same_by old new (ap (λ (x : WorldView). x.ports) l))
mark_joins old new kind (mark.Port p) set l = go (is_some (map.get old.ports.ports p)) l
  where
    go : (b : Bool) → MatchBool b (LosesRight old kind p new) (new ≡ old) → JoinsTurns old set new
    go true h = right_joins old new kind p set h
    go false h = joins_same old new set (same_by old new (ap (λ (x : WorldView). x.ports) h))

all_join : (cs : List Carried) (old new : WorldView) (set : ℕ) → LosesAll old cs new → JoinsTurns old set new
all_join [] old new set l = joins_same old new set (same_by old new (ap (λ (x : WorldView). x.ports) l))
all_join (c ∷ cs) old new set l = joins_then old l.0 new set (mark_joins old l.0 (kind_sent c.given) c.mark set l.1) (all_join cs l.0 new set l.2)

destroyed_first : (w passed new : WorldView) (port set : ℕ) → HasMessage w (Waited.Set set) port → slice_get (in_turn w set) 0 ≡ Some port → PassesIn w (Waited.Set set) port passed → DestroysMessage passed port new →
    (mid : WorldView) × TakesFirst w set mid × ((each : ℕ) → JoinsTurns mid each new)
destroyed_first w passed new port set has first passes d =
    let same = passes-in w passed (Waited.Set set) port passes in
    let there : port_at w port ≡ Some d.takes.v = sym (ap (λ (x : WorldView). port_at x port) same) ∙ d.takes.there in (
      d.taken,
      record {
        member = port;
        first = first;
        front = d.takes.front;
        behind = d.takes.behind;
        queue = queued_at w port d.takes.v d.takes.front d.takes.behind there d.takes.queue;
        taken = front_taken passed d.taken port d.takes;
        turns =
            front_turns passed d.taken port d.takes
            ∙ ap (λ (x : PortsView Kept). kept_behind x.ready port (sets_in d.takes.v) d.takes.behind) (passes.0.its first)
            ∙ passed_behind port set (sets_in d.takes.v) w.ports.ready d.takes.behind (member_at w port set has d.takes.v there)
            ∙ in_tables w set port d.takes.v d.takes.behind there;
      },
      λ each. joins_then d.taken d.noted new each (joins_same d.taken d.noted each (note_same d.taken d.noted port d.takes.front d.notes)) (all_join (option_to_list d.takes.front.reply ++ d.takes.front.rights) d.noted new each d.loses),
    )

-- ---- a receipt

module _ (w : WorldView) (waited : Waited) (o : Option ℕ) (is_first : IsFirst w waited o) where
  pub empty_in_turn : (large : Bool) (told : Waited) → o ≡ None → TakesInTurn w waited large (Reply.Empty told) w
  empty_in_turn large told none = go waited is_first
    where
      no_first : (xs : List ℕ) → None ≡ slice_get xs 0 → xs ≡ []
      no_first [] e = refl
      no_first (x ∷ xs) e = absurd (cc)

      go : (x : Waited) → IsFirst w x o → TakesInTurn w x large (Reply.Empty told) w
      go (Waited.Port p) f = tt
      go (Waited.Set set) f = (no_first (in_turn w set) (sym none ∙ f), refl)

  module _ (port : ℕ) (some : o ≡ Some port) (has : HasMessage w waited port) where
    pub message_in_turn : (start taken noted new : WorldView) (task number local : ℕ) (bytes : List ℕ) (large : Bool) → MakesRoom w task number start → (t : TakesMessage start task port local bytes taken) →
        NotesFront taken port t.takes.front noted → PassesIn noted waited port new → TakesInTurn w waited large (Reply.Message bytes) new
    message_in_turn start taken noted new task number local bytes large made t notes passes = go waited is_first has passes
      where
        go : (x : Waited) → IsFirst w x o → HasMessage w x port → PassesIn noted x port new → TakesInTurn w x large (Reply.Message bytes) new
        go (Waited.Port p) f h e = tt
        go (Waited.Set set) f h e = message_first w start taken noted new task port number local set bytes made t notes e h (sym f ∙ some)

    pub large_in_turn : (large : Bool) (n : ℕ) (new : WorldView) → MatchBool large (new ≡ w) ((mid : WorldView) × PassesIn w waited port mid × DestroysMessage mid port new) → TakesInTurn w waited large (Reply.TooLarge n) new
    large_in_turn large n new ends = go waited large is_first has ends
      where
        go : (x : Waited) (b : Bool) → IsFirst w x o → HasMessage w x port → MatchBool b (new ≡ w) ((mid : WorldView) × PassesIn w x port mid × DestroysMessage mid port new) → TakesInTurn w x b (Reply.TooLarge n) new
        go (Waited.Port p) b f h e = tt
        go (Waited.Set set) true f h e = e
        go (Waited.Set set) false f h e = destroyed_first w e.0 new port set h (sym f ∙ some) e.1 e.2

-- a port that is no set's member has no turn
pub port_first : (w : WorldView) (port : ℕ) (o : Option ℕ) (waited : Waited) → waited ≡ Waited.Port port → IsFirst w waited o
port_first w port o waited is = subst (λ (x : Waited). IsFirst w x o) (sym is) tt

pub set_first : (w : WorldView) (ports : PortsView Kept) (set : ℕ) (o : Option ℕ) (waited : Waited) → ports ≡ w.ports → waited ≡ Waited.Set set → o ≡ slice_get (turns_of ports.ready set) 0 → IsFirst w waited o
set_first w ports set o waited same is first = subst (λ (x : Waited). IsFirst w x o) (sym is) (first ∙ ap (λ (x : PortsView Kept). slice_get (turns_of x.ready set) 0) same)

-- ---- the calls

code_turns : (old : WorldView) (waited : Waited) (large : Bool) (code : ℕ) (new : WorldView) → TakesInTurn old waited large (Reply.Code code) new → new ≡ old
code_turns old (Waited.Port p) large code new t = t
code_turns old (Waited.Set set) true code new t = t
code_turns old (Waited.Set set) false code new t = t

pub named_turns : (old : WorldView) (task name room : ℕ) (large : Bool) (waited : Waited) (reply : Reply) (new : WorldView) → option_and_then waited_at (entry_at old task name) ≡ Some waited →
    TakesInTurn old waited large reply new → KeepsTurns old (Event.Receive task name room large) reply new
named_turns old task name room large waited reply new found t = go reply t
  where
    here : (r : Reply) → TakesInTurn old waited large r new → (x : Waited) → option_and_then waited_at (entry_at old task name) ≡ Some x → TakesInTurn old x large r new
    here r h x is = subst (λ (y : Waited). TakesInTurn old y large r new) (same_some waited x (sym found ∙ is)) h

    go : (r : Reply) → TakesInTurn old waited large r new → KeepsTurns old (Event.Receive task name room large) r new
    go (Reply.Code code) h = code_turns old waited large code new h
    go r h = here r h

pub again_turns : (old : WorldView) (task : ℕ) (waited : Waited) (room : ℕ) (large : Bool) (reply : Reply) (new : WorldView) → TakesInTurn old waited large reply new →
    KeepsTurns old (Event.ReceiveAgain task waited room large) reply new
again_turns old task waited room large reply new t = go reply t
  where
    go : (r : Reply) → TakesInTurn old waited large r new → KeepsTurns old (Event.ReceiveAgain task waited room large) r new
    go (Reply.Code code) h = code_turns old waited large code new h
    go r h = h
