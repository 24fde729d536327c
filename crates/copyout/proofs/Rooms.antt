-- Room is made for names, or lacks.
use Rattle.std.proofs.Common.{◌≡◌, ◌-◌, ℕ, ◌<◌, ◌≤◌, List, [], ◌∷◌, Option, Some, None, refl, sym, ap, subst, ◌∙◌, arith, true, false, Bool, inl, inr, ◌+◌, ◌++◌, cond, zero, suc, length, Result, Ok, Err, IfOk, IfErr}
use Rattle.std.specs.Prelude.{◌≢◌, is_some, MatchBool, if◌then◌else◌, slice_set, is_ok, max, ◌==◌, OnErr}
use Rattle.std.specs.Option.{option_map, option_and_then}
use Rattle.std.specs.Cmp.{nat_cmp_total}
use Rattle.std.specs.FinMap as map
use Rattle.port.specs.Ports.{PortsView}
use Rattle.mach_types.specs.Numbers.{kind_sent, dead_word, most_bytes, most_names}
use Rattle.mach_types.specs.Tokens.{Kind, receive, send, send_once, Place, in_message, Token, count, is_of}
use Rattle.mach_types.specs.Bodies.{OneFails}
use Rattle.mach_model.specs.State.{State, Target, lookup}
use Rattle.mach_model.specs.State as machine
use Rattle.mach_model.specs.Carried.{mark_count, lying}
use Rattle.mach_model.specs.CopyOut.{Named, NamedOnce, NamedFor, GiveRight, GiveMark}
use Rattle.mach_model.specs.Room.{MarkLacks as MachineLacks, NeedsName, HasNoRoom}
use Rattle.mach_model.proofs.Names.{length-weigh}
use Rattle.mach_model.proofs.Moving.{IsMoving}
use Rattle.mach_model.proofs.Settling.{IsReordered}
use Rattle.rights.specs.declared.RightKind.TheVariants as right
use Rattle.rights.specs.Counts.{with_fewer}
use Rattle.rights.specs.Ledger.{LedgerView, IsEntered, counts_of, taken}
use Rattle.name_space.specs.declared.Entry.{Entry}
use Rattle.name_space.specs.Entry.{port_named}
use Rattle.name_space.specs.Names.{SpaceView, IsFreshFor, given_after, port_at as port_under, Names}
use Rattle.name_space.proofs.Keys.{put_here, put_other, equal_or_not}
use Rattle.copyin_base.specs.declared.Carried.{Carried}
use Rattle.copyin_base.specs.declared.Mark.{Mark}
use Rattle.copyin_base.specs.declared.Mark.TheVariants as mark
use Rattle.copyin_base.specs.Kept.{mark_of, Kept}
use Rattle.copyin_base.specs.Worlds.{WorldView, entry_in, space_at, with_space, HasTask, NoneLost, port_at, space_in}
use Rattle.copyin_base.specs.Requests.{notify_of}
use Rattle.copyin_base.specs.Shows.{target_of, onces_queued, Agrees}
use Rattle.copyin_base.proofs.Changing.{target_named}
use Rattle.copyin_base.proofs.Requesting.{requests_stay}
use Rattle.copyin_base.proofs.Counting.{counts_same}
use Rattle.copyin_base.proofs.KeptEntries.{rights_of}
use Rattle.copyin_base.specs.Changes.{MakesRoom}
use Rattle.copyin_base.specs.Wanted.{room_of, room_in}
use Rattle.copyin_base.proofs.Agreeing.{live_put}
use Rattle.copyin_base.proofs.Gets.{same_found, same_head}
use Rattle.copyin_base.proofs.Idle.{none_lost_by}
use Rattle.copyin_base.proofs.Spaces.{space-set_same, space-set_other}
use Rattle.copyin_base.proofs.Told.{space_there}
use Rattle.copyin_base.proofs.FreshNames.{is_fresh, fresh_unused}
use Rattle.copyout.specs.Giving.{joined, alone, ledger_joined, ports_given, GivesPort, GivesMark, free_names, NoneLeft, NeedsOwn, MarkLacks, Lack, LackNames, LackRoom, free_room, GivesAll}
use Rattle.copyout.proofs.Given.{port_given, option_named}
use Rattle.copyout.proofs.GivenAll.{AreLying, mark_given, own_mark, later}
use Rattle.copyout.specs.Room.{Needs, Owns, Shares, Suffice, named_by}
use Rattle.copyout.specs.Takes.{TakesFront, TakesMessage, destination_right}
use Rattle.copyout.specs.Ready.{CanGive, Waits, HasFront, HasNamesFor, MayHave, MayHaveJust, MayReceive, ReadyFor, IsRefusedBy, carried_by, sends_for}
use Rattle.copyout.specs.declared.receipt.Refusal.{Refusal}
use Rattle.copyout.specs.declared.receipt.Refusal.TheVariants as refused
use Rattle.copyout.specs.Wanted.{ReturnsSlot}
use Rattle.copyout.proofs.PortsGiven.{entered-put, sends-taken, given_spare}
use Rattle.copyout.proofs.Counting.{IsLeft, same_port, too_few, enough, starts, names_are_free, room_is_free}

-- ---- A right that the machine may give is given in the tables; so they lack names for the same messages.

-- ---- the order of tokens

-- The tables don't see the order of the tokens.
pub reordered_agrees : (w : WorldView) (s t : State) → Agrees w s → IsReordered s t → Agrees w t
reordered_agrees w s t a r = subst (Agrees w) (sym r.rest) record {
  spaces = a.spaces;
  rights = record { references = λ task name x q is named. let h = a.references task name x q is named in (same _ ∙ h.0, same _ ∙ h.1) };
  live_port = a.live_port;
  ports_made = a.ports_made;
  ports = a.ports;
  counts = counts_same w.ledger s.live_port s.ledger (onces_queued s) a.counts t.ledger (λ c q. same (is_of c q));
  total = let m = r.tokens (λ x. 1) in omega (arith, m, a.total, length-weigh s.ledger, length-weigh t.ledger);
  in_sets = a.in_sets;
  of_requests = requests_stay (notify_of w.requests) w.requests.names.went w.ports.made w.ports.made s.stands s.stands s.live_port s.live_port s.ledger t.ledger a.of_requests (omega arith) (λ r. refl) (λ q less. refl) (λ r kind q. same _);
}
  where
    same : (test : Token → Bool) → count test t.ledger ≡ count test s.ledger
    same test = let m = r.tokens (λ x. if test x then 1 else 0) in omega (arith, m)

-- ---- the machine gives a right in one way

named_once_alike : (task name p : ℕ) (s a b : State) → NamedOnce task name p s a → NamedOnce task name p s b → a ≡ b
named_once_alike task name p s a b (inl x) (inl y) = x.1 ∙ sym y.1
named_once_alike task name p s a b (inl x) (inr y) = absurd (y.0 name x.0)
named_once_alike task name p s a b (inr x) (inl y) = absurd (x.0 name y.0)
named_once_alike task name p s a b (inr x) (inr y) = x.1.rest ∙ sym y.1.rest

named_alike : (kind : Kind) (task name p : ℕ) (s a b : State) → NamedFor kind task name p s a → NamedFor kind task name p s b → a ≡ b
named_alike receive task name p s a b x y = named_once_alike task name p s a b x y
named_alike send task name p s a b x y = named_once_alike task name p s a b x y
named_alike send_once task name p s a b x y = x.rest ∙ sym y.rest

-- but for the order of the tokens
right_alike : (task : ℕ) (place : Place) (kind : Kind) (p : ℕ) (s : State) (name : ℕ) (a b : State) → GiveRight task place kind p s name a → GiveRight task place kind p s name b → IsReordered a b
right_alike task place kind p s name a b x y = grind (arith, named_alike)

-- ---- from the machine's right to the tables'

named_option : (o : Option Entry) (p : ℕ) → option_and_then port_named o ≡ Some p → option_map target_of o ≡ Some (Target.port p)
named_option None p e = absurd (cc)
named_option (Some x) p e = ap Some (target_named x p e)

none_mapped : (o : Option Entry) → option_map target_of o ≡ None → o ≡ None
none_mapped None e = refl
none_mapped (Some x) e = absurd (let e' : Some (target_of x) ≡ None = e in cc)

-- What stands under a port's name.
record PortEntry (o : Option Entry) (p : ℕ) : Type 0 where
  entry : Entry
  found : o ≡ Some entry
  named : port_named entry ≡ Some p

port_entry : (o : Option Entry) (p : ℕ) → option_and_then port_named o ≡ Some p → PortEntry o p
port_entry None p e = absurd (cc)
port_entry (Some x) p e = record { entry = x; found = refl; named = e }

module _ (w : WorldView) (s : State) (a : Agrees w s) (task : ℕ) (space : SpaceView) (there : space_at w task ≡ Some space) where
  lookup_is : (name : ℕ) → lookup s task name ≡ option_map target_of (map.get space.names name)
  lookup_is name = a.naming task name ∙ ap (λ (o : Option SpaceView). option_map target_of (entry_in o name)) there

  no_name : (p : ℕ) → ((n : ℕ) → port_under space.names n ≢ Some p) → (n : ℕ) → lookup s task n ≢ Some (Target.port p)
  no_name p none n is = none n (option_named (map.get space.names n) p (sym (lookup_is n) ∙ is))

  no_name_too : (p : ℕ) → ((n : ℕ) → lookup s task n ≢ Some (Target.port p)) → (n : ℕ) → port_under space.names n ≢ Some p
  no_name_too p none n is = none n (lookup_is n ∙ named_option (map.get space.names n) p is)

  fresh_too : (word : ℕ) → machine.IsFreshFor s task word → IsFreshFor space word
  fresh_too word = is_fresh w s a task space there word

  len_is : map.len space.names ≡ map.len (s.naming task)
  len_is = a.names_kept task space there

  -- The tables give a right for this port under this name.
  abbrev Gives : Kind → (port word : ℕ) → Type 0
  Gives kind p word = (w' : WorldView) × GivesPort w task kind p word w'

  gives_joined : (kind : Kind) (p word : ℕ) → kind ≢ send_once → lookup s task word ≡ Some (Target.port p) → Gives kind p word
  gives_joined kind p word not is =
      let x = port_entry (map.get space.names word) p (option_named (map.get space.names word) p (sym (lookup_is word) ∙ is)) in (
        record (with_space w task (record space { names = map.insert space.names word (joined kind x.entry); room = space.room })) {
          ports = ports_given kind task p w.ports;
          ledger = ledger_joined kind p x.entry w.ledger;
        },
        record {
          space = space;
          there = there;
          after = map.insert space.names word (joined kind x.entry);
          room = space.room;
          counts = space.given;
          ledger = ledger_joined kind p x.entry w.ledger;
          given = inl (record { not_once = not; entry = x.entry; found = x.found; named = x.named; rest = refl }, refl, refl, refl);
          rest = refl;
        },
      )

  gives_alone : (kind : Kind) (p word : ℕ) (x : Target) (named : State) → (kind ≢ send_once → (n : ℕ) → lookup s task n ≢ Some (Target.port p)) → Named task word x s named → Gives kind p word
  gives_alone kind p word x named none n = (
    record (with_space w task (record space { names = map.insert space.names word (alone kind p); room = space.room - 1; given = given_after space.given word })) { ports = ports_given kind task p w.ports },
    record {
      space = space;
      there = there;
      after = map.insert space.names word (alone kind p);
      room = space.room - 1;
      counts = given_after space.given word;
      ledger = w.ledger;
      given = inr (
        record {
          fresh = fresh_too word n.fresh;
          unused = fresh_unused space.given space word (fresh_too word n.fresh);
          room = let b = n.room in let e = len_is in omega (arith, b, e);
          lone = λ not. no_name_too p (none not);
          rest = refl;
        },
        refl,
        refl,
        refl,
      );
      rest = refl;
    },
  )

  gives_port : (kind : Kind) (p word : ℕ) (named : State) → NamedFor kind task word p s named → Gives kind p word
  gives_port receive p word named (inl h) = gives_joined receive p word (λ e. cc) h.0
  gives_port receive p word named (inr h) = gives_alone receive p word (Target.port p) named (λ not. h.0) h.1
  gives_port send p word named (inl h) = gives_joined send p word (λ e. cc) h.0
  gives_port send p word named (inr h) = gives_alone send p word (Target.port p) named (λ not. h.0) h.1
  gives_port send_once p word named n = gives_alone send_once p word (Target.once p) named (λ not. absurd (not refl)) n

  -- ---- want of names

  needs_own : (kind : Kind) (p : ℕ) → NeedsName s task kind p → NeedsOwn w task kind p
  needs_own receive p none = inr (space, there, no_name_too p none)
  needs_own send p none = inr (space, there, no_name_too p none)
  needs_own send_once p none = inl refl

  lacks_too : (kind : Kind) (m : Mark) → MachineLacks task kind (mark_of m) s → MarkLacks free_names w task kind m
  lacks_too kind (mark.Port p) h = (a.live_port p ∙ h.0, (space, there, (let full = h.1 in let e = len_is in omega (arith, full, e))), needs_own kind p h.2)
  lacks_too kind mark.Null h = h
  lacks_too kind mark.Dead h = h

module _ (w : WorldView) (s : State) (a : Agrees w s) (task : ℕ) where
  has_no_room : NoneLeft free_names w task → HasNoRoom s task
  has_no_room h = let full = h.2 in let e = len_is w s a task h.0 h.1 in omega (arith, full, e)

  needs_name : (kind : Kind) (p : ℕ) → NeedsOwn w task kind p → NeedsName s task kind p
  needs_name receive p (inl h) = absurd (cc)
  needs_name receive p (inr h) = no_name w s a task h.0 h.1 p h.2
  needs_name send p (inl h) = absurd (cc)
  needs_name send p (inr h) = no_name w s a task h.0 h.1 p h.2
  needs_name send_once p h = tt

  mark_lacks : (kind : Kind) (m : Mark) → MarkLacks free_names w task kind m → MachineLacks task kind (mark_of m) s
  mark_lacks kind (mark.Port p) h = (sym (a.live_port p) ∙ h.0, has_no_room h.1, needs_name kind p h.2)
  mark_lacks kind mark.Null h = h
  mark_lacks kind mark.Dead h = h

  some_space : (o : Option SpaceView) → is_some o ≡ true → (space : SpaceView) × (o ≡ Some space)
  some_space (Some x) e = (x, refl)
  some_space None e = absurd (cc)

  -- The tables give what the machine gives.
  record TableGiven (kind : Kind) (m : Mark) (word : ℕ) (mid : State) : Type 0 where
    w2 : WorldView
    gives : GivesMark w task kind m word w2
    agrees : Agrees w2 mid

  module _ (o k : ℕ) (l : IsMoving s o k) (is_task : s.live_task task ≡ true) (kind : Kind) (word : ℕ) (mid : State) where
    right_too : (p : ℕ) → 0 < lying s kind p (in_message o k) → GiveRight task (in_message o k) kind p s word mid → (w2 : WorldView) × GivesPort w task kind p word w2 × Agrees w2 mid
    right_too p some r =
        let space = some_space (space_at w task) (a.live_task task ∙ is_task) in
        let g = gives_port w s a task space.0 space.1 kind p word r.named_state r.named in
        let x = port_given w s a o k l task kind p word g.0 some g.1 in
        (g.0, g.1, reordered_agrees g.0 x.t mid x.agrees (right_alike task (in_message o k) kind p s word x.t mid x.gives r))

    same_too : (m : Mark) → GivesMark w task kind m word w → mid ≡ s → TableGiven kind m word mid
    same_too m g same = record { w2 = w; gives = g; agrees = subst (Agrees w) (sym same) a }

    port_too : (p : ℕ) (b : Bool) → s.live_port p ≡ b → (s.live_port p ≡ true → 0 < lying s kind p (in_message o k)) →
        MatchBool b (GiveRight task (in_message o k) kind p s word mid) ((word ≡ dead_word) × (mid ≡ s)) → TableGiven kind (mark.Port p) word mid
    port_too p true e some g =
        let x = right_too p (some e) g in
        record { w2 = x.0; gives = subst (λ (b : Bool). MatchBool b (GivesPort w task kind p word x.0) ((word ≡ dead_word) × (x.0 ≡ w))) (sym (a.live_port p ∙ e)) x.1; agrees = x.2 }
    port_too p false e some g =
        same_too (mark.Port p) (subst (λ (b : Bool). MatchBool b (GivesPort w task kind p word w) ((word ≡ dead_word) × (w ≡ w))) (sym (a.live_port p ∙ e)) (g.0, refl)) g.1

    mark_too : (m : Mark) → ((q : ℕ) → s.live_port q ≡ true → mark_count kind q kind (mark_of m) ≤ lying s kind q (in_message o k)) →
        GiveMark task (in_message o k) kind (mark_of m) s word mid → TableGiven kind m word mid
    mark_too (mark.Port p) some g = port_too p (s.live_port p) refl (λ live. let n = some p live in let own = own_mark kind p in omega (arith, n, own)) g
    mark_too mark.Null some g = same_too mark.Null (g.0, refl) g.1
    mark_too mark.Dead some g = same_too mark.Dead (g.0, refl) g.1

-- ---- all of them

-- There is no name for one of these rights, once those before it were given.
abbrev pub EachLacks : (task : ℕ) → Place → List Carried → State → Type 0
EachLacks task place cs s = OneFails (λ old r. MachineLacks task r.0 r.1 old) (λ old r new. (word : ℕ) × GiveMark task place r.0 r.1 old word new) s (rights_of cs)

-- Where the tables lack a name, the machine lacks one.
pub all_lack : (task o k : ℕ) (cs : List Carried) (w : WorldView) (s : State) → Agrees w s → IsMoving s o k → s.live_task task ≡ true → AreLying s o k cs →
    LackNames w task cs → EachLacks task (in_message o k) cs s
all_lack task o k [] w s a l is_task lie h = h
all_lack task o k (c ∷ cs) w s a l is_task lie (inl h) = inl (mark_lacks w s a task (kind_sent c.given) c.mark h)
all_lack task o k (c ∷ cs) w s a l is_task lie (inr h) =
    let one = mark_given w s a o k l task (kind_sent c.given) h.1.0 h.0 c.mark (λ q live. let m = lie (kind_sent c.given) q live in omega (arith, m)) h.1.1 in
    let next = later task o k c cs s h.1.0 one.t l is_task lie one.gives in
    inr (one.t, (h.1.0, one.gives), all_lack task o k cs h.0 one.t one.agrees next.0 next.1 next.2 h.2)

-- Where the machine lacks a name, the tables lack one.
pub all_lack_too : (task o k : ℕ) (cs : List Carried) (w : WorldView) (s : State) → Agrees w s → IsMoving s o k → s.live_task task ≡ true → AreLying s o k cs →
    EachLacks task (in_message o k) cs s → LackNames w task cs
all_lack_too task o k [] w s a l is_task lie h = h
all_lack_too task o k (c ∷ cs) w s a l is_task lie (inl h) =
    let space = some_space w s a task (space_at w task) (a.live_task task ∙ is_task) in
    inl (lacks_too w s a task space.0 space.1 (kind_sent c.given) c.mark h)
all_lack_too task o k (c ∷ cs) w s a l is_task lie (inr h) =
    let one = mark_too w s a task o k l is_task (kind_sent c.given) h.1.0 h.0 c.mark (λ q live. let m = lie (kind_sent c.given) q live in omega (arith, m)) h.1.1 in
    let next = later task o k c cs s h.1.0 h.0 l is_task lie h.1.1 in
    inr (one.w2, (h.1.0, one.gives), all_lack_too task o k cs one.w2 h.0 one.agrees next.0 next.1 next.2 h.2)

-- ---- So many names as there are rights are enough.

-- Giving one right takes one name at most, and brings none.
record TakesOne (left : SpaceView → ℕ) (task : ℕ) (space : SpaceView) (mid : WorldView) : Type 0 where
  after : SpaceView
  at : space_at mid task ≡ Some after
  few : left after ≤ left space
  most : left space ≤ left after + 1

module _ (left : SpaceView → ℕ) (is_left : IsLeft left) (w mid : WorldView) (task : ℕ) (space : SpaceView) (there : space_at w task ≡ Some space) where
  takes_none : mid ≡ w → TakesOne left task space mid
  takes_none same = record { after = space; at = ap (λ (x : WorldView). space_at x task) same ∙ there; few = omega arith; most = omega arith }

  takes_port : (kind : Kind) (port word : ℕ) → GivesPort w task kind port word mid → TakesOne left task space mid
  takes_port kind port word g =
      let after : SpaceView = record g.space { names = g.after; room = g.room; given = g.counts } in
      let left_is : left g.space ≡ left space = ap left (same_found (space_at w task) g.space space g.there there) in
      let at : space_at mid task ≡ Some after = ap (λ (x : WorldView). space_at x task) g.rest ∙ space-set_same w.spaces task after g.space g.there in
      elim g.given [
        | inl j ↦
            let len : map.len g.after ≡ map.len g.space.names = ap map.len j.0.rest ∙ map.len-insert nat_cmp_total g.space.names word (joined kind j.0.entry)
            ∙ ap (λ b. cond b (map.len g.space.names) (map.len g.space.names + 1)) (ap is_some j.0.found) in
            let same = is_left.same g.space after len j.2 in
            record { after = after; at = at; few = omega (arith, same, left_is); most = omega (arith, same, left_is) }
        | inr t ↦
            let len : map.len g.after ≡ map.len g.space.names + 1 = ap map.len t.0.rest ∙ map.len-insert nat_cmp_total g.space.names word (alone kind port)
            ∙ ap (λ b. cond b (map.len g.space.names) (map.len g.space.names + 1)) (ap is_some t.0.unused) in
            let lower = is_left.lower g.space after len t.2 in
            record { after = after; at = at; few = omega (arith, lower, left_is); most = omega (arith, lower, left_is) }
      ]

  takes_mark : (kind : Kind) (one : Mark) (word : ℕ) → GivesMark w task kind one word mid → TakesOne left task space mid
  takes_mark kind (mark.Port p) word h = go (is_some (map.get w.ports.ports p)) _ h
    where
      go : (b : Bool) (dead : ℕ) → MatchBool b (GivesPort w task kind p word mid) ((word ≡ dead) × (mid ≡ w)) → TakesOne left task space mid
      go true dead g = takes_port kind p word g
      go false dead g = takes_none g.1
  takes_mark kind mark.Null word h = takes_none h.1
  takes_mark kind mark.Dead word h = takes_none h.1

module _ (left : SpaceView → ℕ) (is_left : IsLeft left) (task : ℕ) where
  one_lacks : (w : WorldView) (space : SpaceView) → space_at w task ≡ Some space → (kind : Kind) (one : Mark) → 0 < left space → MarkLacks left w task kind one → ⊥
  one_lacks w space there kind (mark.Port p) some h = let none = h.1 in let same = ap left (same_found (space_at w task) none.0 space none.1 there) in let zero = none.2 in omega (arith, same, zero, some)
  one_lacks w space there kind mark.Null some h = h
  one_lacks w space there kind mark.Dead some h = h

  one_each : (carried : List Carried) (w : WorldView) (space : SpaceView) → space_at w task ≡ Some space → length carried ≤ left space → Lack left w task carried → ⊥
  one_each [] w space there few h = h
  one_each (c ∷ cs) w space there few (inl lack) = one_lacks w space there (kind_sent c.given) c.mark (omega arith) lack
  one_each (c ∷ cs) w space there few (inr r) =
      let one = takes_mark left is_left w r.0 task space there (kind_sent c.given) c.mark r.1.0 r.1.1 in
      let most = one.most in
      one_each cs r.0 one.after one.at (omega arith) r.2

  -- No more is left than there was.
  left_after : (carried : List Carried) (words : List ℕ) (w new : WorldView) (space : SpaceView) → space_at w task ≡ Some space → GivesAll w task carried words new →
      (after : SpaceView) × (space_at new task ≡ Some after) × (left after ≤ left space)
  left_after [] [] w new space there same = (space, ap (λ (x : WorldView). space_at x task) same ∙ there, omega arith)
  left_after [] (word ∷ words) w new space there h = absurd h
  left_after (c ∷ cs) [] w new space there h = absurd h
  left_after (c ∷ cs) (word ∷ words) w new space there h =
      let one = takes_mark left is_left w h.0 task space there (kind_sent c.given) c.mark word h.1 in
      let few = one.few in
      let x = left_after cs words h.0 new one.after one.at h.2 in
      let less = x.2 in (x.0, x.1, omega (arith, few, less))

  pub suffices : (ports : PortsView Kept) (w : WorldView) (space : SpaceView) → space_at w task ≡ Some space → ((p : ℕ) → is_some (map.get w.ports.ports p) ≡ is_some (map.get ports.ports p)) →
      (carried : List Carried) (number : ℕ) → Suffice ports space.names carried number → number ≤ left space → Lack left w task carried → ⊥
  suffices ports w space there live carried number (inl needs) few = enough left is_left ports space.names task [] carried w _ _ number (starts left ports w task space there live) needs few
  suffices ports w space there live carried number (inr each) few = one_each carried w space there (omega (arith, each, few))

needs_few : (ports : PortsView Kept) (names : Names) (earlier carried : List Carried) (number : ℕ) → Needs ports names earlier carried number → number ≤ length carried
needs_few ports names earlier [] number none = omega (arith, none)
needs_few ports names earlier (c ∷ cs) number (inl o) = let few = needs_few ports names (earlier ++ c ∷ []) cs o.1.0 o.1.2 in let more = o.1.1 in omega (arith, few, more)
needs_few ports names earlier (c ∷ cs) number (inr s) = let few = needs_few ports names (earlier ++ c ∷ []) cs number s.1 in omega (arith, few)

-- a right that needs a name of its own shares none
own_apart : (ports : PortsView Kept) (names : Names) (earlier : List Carried) (c : Carried) → Owns ports names earlier c → Shares ports names earlier c → ⊥
own_apart ports names earlier c o (inl gone) = let there = o.there in let none = gone o.port o.for_port in let e : false ≡ true = sym none ∙ there in cc
own_apart ports names earlier c o (inr s) =
    let port : o.port ≡ s.0 = same_port o.port s.0 (sym o.for_port ∙ s.1) in
    elim o.own [
      | inl once ↦ s.3 once
      | inr own ↦ elim s.4 [
        | inl named ↦ own.0 named.0 (named.1 ∙ ap (λ (q : ℕ). Some q) (sym port))
        | inr by ↦ let e : false ≡ true = sym own.1 ∙ ap (named_by earlier) port ∙ by in cc
      ]
    ]

-- what rights need is one number
needs_alike : (ports : PortsView Kept) (names : Names) (earlier carried : List Carried) (n k : ℕ) → Needs ports names earlier carried n → Needs ports names earlier carried k → n ≡ k
needs_alike ports names earlier [] n k a b = a ∙ sym b
needs_alike ports names earlier (c ∷ cs) n k (inl o) (inl p) =
    let e = needs_alike ports names (earlier ++ c ∷ []) cs o.1.0 p.1.0 o.1.2 p.1.2 in let a = o.1.1 in let b = p.1.1 in omega (arith, e, a, b)
needs_alike ports names earlier (c ∷ cs) n k (inl o) (inr s) = absurd (own_apart ports names earlier c o.0 s.0)
needs_alike ports names earlier (c ∷ cs) n k (inr s) (inl o) = absurd (own_apart ports names earlier c o.0 s.0)
needs_alike ports names earlier (c ∷ cs) n k (inr s) (inr t) = needs_alike ports names (earlier ++ c ∷ []) cs n k s.1 t.1

suffice_few : (ports : PortsView Kept) (names : Names) (carried : List Carried) (number : ℕ) → Suffice ports names carried number → number ≤ length carried
suffice_few ports names carried number (inl needs) = needs_few ports names [] carried number needs
suffice_few ports names carried number (inr each) = omega (arith, each)

-- ---- Room made for names, the front message once it was, and the room that is left.

abbrev pub waits_kept : (w : WorldView) (xs : List (Option SpaceView)) (port : ℕ) → Waits w port → Waits (record w { spaces = xs }) port
waits_kept w xs port x = record {
  v = x.v;
  there = x.there;
  front = x.front;
  behind = x.behind;
  queue = x.queue;
  written = x.written;
  laid_out = x.laid_out;
  a_right_each = x.a_right_each;
  few = x.few;
  entered = x.entered;
  destination = x.destination;
  counted = x.counted;
  none_lost = record { lost = x.none_lost.lost; doomed = x.none_lost.doomed; destroyed = x.none_lost.destroyed };
}

pub same_front : (w : WorldView) (port : ℕ) (x : Waits w port) (m : Kept) → HasFront w port m → x.front ≡ m
same_front w port x m f = grind (arith, same_found, same_head)

pub ready_after : (w w2 : WorldView) (task port room capacity needed : ℕ) (x : Waits w port) (m : MayReceive w task port room needed) → (r : MakesRoom w task needed w2) →
    length m.front.rights ≤ capacity → ReadyFor w2 task port capacity
ready_after w w2 task port room capacity needed x m r fit =
    let space2 : SpaceView = record r.space { room = max r.space.room needed } in
    let front : x.front ≡ m.front = same_front w port x m.front m.waits in
    let names : m.space.names ≡ r.space.names = ap (λ (y : SpaceView). y.names) (same_found (space_at w task) m.space r.space m.there r.there) in
    subst (λ (y : WorldView). ReadyFor y task port capacity) (sym r.rest) (record {
      waits = waits_kept w (slice_set w.spaces task (Some space2)) port x;
      space = space2;
      there = space-set_same w.spaces task space2 r.space r.there;
      number = needed;
      suffice = subst (λ (k : Kept). Suffice w.ports r.space.names (carried_by k) needed) (sym front) (subst (λ (y : Names). Suffice w.ports y (carried_by m.front) needed) names m.suffice);
      names = subst (λ (y : Names). needed ≤ most_names - map.len y) names m.names;
      room = omega arith;
      words_fit = subst (λ (k : Kept). length k.rights ≤ capacity) (sym front) fit;
    })

-- ---- what can be given once the front message was taken

-- the ports that are there, and what the task has, are the same
pub front_live : (w mid : WorldView) (port : ℕ) (t : TakesFront w port mid) (p : ℕ) → is_some (port_at mid p) ≡ is_some (port_at w p)
front_live w mid port t p = ap (λ (x : WorldView). is_some (port_at x p)) t.rest ∙ live_put w.ports.ports port _ (λ q. is_some (port_at w q)) (ap is_some t.there) (λ q. refl) p

pub front_there : (w mid : WorldView) (task port : ℕ) (t : TakesFront w port mid) (space : SpaceView) → space_at w task ≡ Some space → space_at mid task ≡ Some space
front_there w mid task port t space there = ap (λ (x : WorldView). space_at x task) t.rest ∙ there

-- no port is lost
pub front_none_lost : (w mid : WorldView) (port : ℕ) → TakesFront w port mid → NoneLost w → NoneLost mid
front_none_lost w mid port t none = grind (arith, none_lost_by)

sends_dest : (once : Bool) (m : LedgerView) (p q : ℕ) →
    (counts_of m q).send ≤ (counts_of (taken m p (if once then right.Destination else right.Send) 1) q).send + (if once then 0 else if p == q then 1 else 0)
sends_dest false m p q = sends-taken m p q
sends_dest true m p q = grind (arith, equal_or_not, put_here, put_other)

pub can_deliver : (w mid : WorldView) (task port capacity : ℕ) (r : ReadyFor w task port capacity) (t : TakesFront w port mid) → CanGive mid task (carried_by t.front)
can_deliver w mid task port capacity r t =
    let same : r.waits.front ≡ t.front = same_front w port r.waits t.front (record { v = t.v; there = t.there; behind = t.behind; queue = t.queue }) in
    let ledger : mid.ledger ≡ taken w.ledger port (destination_right t.front) 1 = ap (λ (x : WorldView). x.ledger) t.rest in
    let live = front_live w mid port t in
    let there = front_there w mid task port t r.space r.there in
    let suffice : Suffice w.ports r.space.names (carried_by t.front) r.number = subst (λ (m : Kept). Suffice w.ports r.space.names (carried_by m) r.number) same r.suffice in
    record {
      space = r.space;
      there = there;
      enough = suffices free_names names_are_free task w.ports mid r.space there live (carried_by t.front) r.number suffice r.names;
      room = suffices free_room room_is_free task w.ports mid r.space there live (carried_by t.front) r.number suffice r.room;
      entered = λ p is. subst (λ (l : LedgerView). IsEntered l p) (sym ledger) (entered-put w.ledger port p (with_fewer (destination_right t.front) 1 (counts_of w.ledger port)) (r.waits.entered p (sym (live p) ∙ is)));
      counted = λ p is.
          let h : sends_for (carried_by t.front) p + (if t.front.by_once then 0 else if port == p then 1 else 0) ≤ (counts_of w.ledger p).send =
          subst (λ (m : Kept). sends_for (carried_by m) p + (if m.by_once then 0 else if port == p then 1 else 0) ≤ (counts_of w.ledger p).send) same (r.waits.counted p (sym (live p) ∙ is)) in
          let k = sends_dest t.front.by_once w.ledger port p in
          subst (λ (l : LedgerView). sends_for (carried_by t.front) p ≤ (counts_of l p).send) (sym ledger) (omega arith);
      none_lost = front_none_lost w mid port t r.waits.none_lost;
    }

-- just what its rights need is enough
pub may_have : (w : WorldView) (task room needed : ℕ) (m : Kept) → MayHaveJust w task m room needed → MayHave w task m room needed
may_have w task room needed m j = record { fits = j.fits; has = record { space = j.space; there = j.there; suffice = inl j.needs; names = j.names } }

-- the front message is the one that was judged
pub front_after : (w w2 : WorldView) (task port number : ℕ) (m now : Kept) → HasFront w port m → MakesRoom w task number w2 → HasFront w2 port now → m ≡ now
front_after w w2 task port number m now f r t = grind (arith, same_found, same_head)

-- and so is the message that was taken
pub judged_front : (w w2 : WorldView) (task port number : ℕ) (m : Kept) → HasFront w port m → MakesRoom w task number w2 → (mid : WorldView) (t : TakesFront w2 port mid) → m ≡ t.front
judged_front w w2 task port number m f r mid t = front_after w w2 task port number m t.front f r (record { v = t.v; there = t.there; behind = t.behind; queue = t.queue })

-- ---- what is left of room

-- What other tasks have, and how many slots are spare, stays.
record Beside (task : ℕ) (w new : WorldView) : Type 0 where
  others : (n : ℕ) → n ≢ task → space_at new n ≡ space_at w n
  spare : new.ports.spare ≡ w.ports.spare

beside_same : (task : ℕ) (w new : WorldView) → new ≡ w → Beside task w new
beside_same task w new e = record { others = λ n not. ap (λ (x : WorldView). space_at x n) e; spare = ap (λ (x : WorldView). x.ports.spare) e }

beside_port : (b : Bool) (task : ℕ) (w new : WorldView) (kind : Kind) (port word dead : ℕ) → MatchBool b (GivesPort w task kind port word new) ((word ≡ dead) × (new ≡ w)) → Beside task w new
beside_port true task w new kind port word dead g = grind (arith, space-set_other, given_spare)
beside_port false task w new kind port word dead h = beside_same task w new h.1

beside_mark : (task : ℕ) (w new : WorldView) (kind : Kind) (one : Mark) (word : ℕ) → GivesMark w task kind one word new → Beside task w new
beside_mark task w new kind (mark.Port p) word h = beside_port (is_some (map.get w.ports.ports p)) task w new kind p word _ h
beside_mark task w new kind mark.Null word h = beside_same task w new h.1
beside_mark task w new kind mark.Dead word h = beside_same task w new h.1

beside_all : (task : ℕ) (w new : WorldView) (carried : List Carried) (words : List ℕ) → GivesAll w task carried words new → Beside task w new
beside_all task w new [] [] h = beside_same task w new h
beside_all task w new [] (word ∷ words) h = absurd h
beside_all task w new (c ∷ cs) [] h = absurd h
beside_all task w new (c ∷ cs) (word ∷ words) h = grind (arith, beside_all task h.0 new cs words h.2, beside_mark)

-- No more room is left than there was, or than the message has rights; and its slot is spare.
pub returns_slot : (w w2 new : WorldView) (task port room number local : ℕ) (bytes : List ℕ) (m : MayReceive w task port room number) (r : MakesRoom w task number w2) →
    TakesMessage w2 task port local bytes new → ReturnsSlot w task port new
returns_slot w w2 new task port room number local bytes m r t =
    let mid : WorldView = t.mid in
    let space2 : SpaceView = record r.space { room = max r.space.room number } in
    let there : space_at mid task ≡ Some space2 =
    front_there w2 mid task port t.takes space2 (ap (λ (y : WorldView). space_at y task) r.rest ∙ space-set_same w.spaces task space2 r.space r.there) in
    let few = suffice_few w.ports m.space.names (carried_by m.front) number m.suffice in
    let left = left_after free_room room_is_free task (carried_by t.takes.front) t.words mid new space2 there t.gives in
    let beside = beside_all task mid new (carried_by t.takes.front) t.words t.gives in
    let old_room : room_of w task ≡ r.space.room = ap room_in r.there in
    let new_room : room_of new task ≡ left.0.room = ap room_in left.1 in
    record {
      front = m.front;
      waits = m.waits;
      room = let x = left.2 in omega (arith, x, few, old_room, new_room);
      others = λ other not.
          let same : room_of new other ≡ room_of w other = ap room_in (beside.others other not ∙ ap (λ (x : WorldView). space_at x other) t.takes.rest
          ∙ ap (λ (x : WorldView). space_at x other) r.rest ∙ space-set_other w.spaces task space2 other not) in omega (arith, same);
      slots = beside.spare ∙ ap (λ (x : WorldView). x.ports.spare) t.takes.rest ∙ ap (λ (x : WorldView). x.ports.spare + 1) r.rest;
    }

-- ---- whether the names suffice

module _ (w : WorldView) (task : ℕ) (m : Kept) (space : SpaceView) (needed : ℕ) (there : space_at w task ≡ Some space) (needs : Needs w.ports space.names [] (carried_by m) needed) where
  pub names_enough : needed ≤ free_names space → ¬ (LackNames w task (carried_by m))
  names_enough few = enough free_names names_are_free w.ports space.names task [] (carried_by m) w _ _ needed (starts free_names w.ports w task space there (λ p. refl)) needs few

  pub names_lack : map.len space.names ≤ most_names → free_names space < needed → LackNames w task (carried_by m)
  names_lack most many = too_few free_names names_are_free w.ports space.names task [] (carried_by m) w _ _ needed (starts free_names w.ports w task space there (λ p. refl)) needs (omega (arith, most)) many

  pub room_lacks : needed ≤ free_names space → room_of w task < needed → LackRoom w task (carried_by m)
  room_lacks names less =
      let own : room_of w task ≡ space.room = ap room_in there in
      let few : space.room + map.len space.names ≤ most_names = omega (arith, names, own, less) in
      too_few free_room room_is_free w.ports space.names task [] (carried_by m) w _ _ needed (starts free_room w.ports w task space there (λ p. refl)) needs (omega (arith, few)) (omega (arith, own, less))

-- the task has names enough
pub has_enough : (w : WorldView) (task : ℕ) (m : Kept) (number : ℕ) → HasNamesFor w task m number → ¬ (LackNames w task (carried_by m))
has_enough w task m number has = suffices free_names names_are_free task w.ports w has.space has.there (λ p. refl) (carried_by m) number has.suffice has.names

-- a message that may have so many names is refused for want of memory alone
pub may_enough : (w : WorldView) (task : ℕ) (m : Kept) (room number : ℕ) → MayHave w task m room number → IsRefusedBy w task m room refused.Memory
may_enough w task m room number may = (may.fits, has_enough w task m number may.has)

-- the message in front is one
pub same_front_as : (w : WorldView) (port : ℕ) (m now : Kept) → HasFront w port m → HasFront w port now → m ≡ now
same_front_as w port m now f g = grind (arith, same_found, same_head)

pub one_front : (w : WorldView) (port : ℕ) (m now : Kept) → HasFront w port m → HasFront w port now → length m.bytes ≤ most_bytes → length now.bytes ≤ most_bytes
one_front w port m now f g few = subst (λ (k : Kept). length k.bytes ≤ most_bytes) (same_front_as w port m now f g) few

-- What its rights need, counted where no room could be made for as many names as were enough.
module _ (w w2 : WorldView) (same : w2 ≡ w) (task port number needed : ℕ) (m : Kept) (f : HasFront w port m) (has : HasNamesFor w task m number)
    (front : Kept) (g : HasFront w2 port front) (space : SpaceView) (there2 : space_at w2 task ≡ Some space) (needs2 : Needs w2.ports space.names [] (carried_by front) needed) where
  there : space_at w task ≡ Some space
  there = subst (λ (x : WorldView). space_at x task ≡ Some space) same there2

  needs : Needs w.ports space.names [] (carried_by m) needed
  needs =
      subst (λ (k : Kept). Needs w.ports space.names [] (carried_by k) needed) (same_front_as w port front m (subst (λ (x : WorldView). HasFront x port front) same g) f)
      (subst (λ (x : WorldView). Needs x.ports space.names [] (carried_by front) needed) same needs2)

  few : needed ≤ free_names space
  few =
      let names = has.names in
      let left : free_names has.space ≡ free_names space = ap free_names (same_found (space_at w task) has.space space has.there there) in
      elim has.suffice [
        | inl just ↦ let e = needs_alike w.ports space.names [] (carried_by m) needed number needs (subst (λ (y : SpaceView). Needs w.ports y.names [] (carried_by m) number) (same_found (space_at w task) has.space space has.there there) just) in omega (arith, names, left, e)
        | inr each ↦ let less = needs_few w.ports space.names [] (carried_by m) needed needs in omega (arith, names, left, each, less)
      ]

  pub needed_has : (now : Kept) → HasFront w port now → HasNamesFor w task now needed
  needed_has now h = subst (λ (k : Kept). HasNamesFor w task k needed) (same_front_as w port m now f h) (record { space = space; there = there; suffice = inl needs; names = few })

  pub needed_lacks : room_of w2 task < needed → (now : Kept) → HasFront w port now → LackRoom w task (carried_by now)
  needed_lacks less now h =
      subst (λ (k : Kept). LackRoom w task (carried_by k)) (same_front_as w port m now f h)
      (room_lacks w task m space needed there needs few (subst (λ (x : WorldView). room_of x task < needed) same less))

-- a fact that holds where all went wrong
pub where_err : {T E : Type 0} (r : Result T E) (P : Type 0) → is_ok r ≡ false → OnErr r P → P
where_err (Ok x) P e h = absurd (cc)
where_err (Err x) P e h = h

-- what is told of the front message, by what was judged
pub told_receivable : (w : WorldView) (task port : ℕ) (m now : Kept) → HasFront w port m → HasFront w port now → (room : ℕ) (judged : Result ℕ Refusal) (b : Bool) →
    IfOk judged (λ needed. MayHave w task now room needed) → IfErr judged (λ refusal. IsRefusedBy w task now room refusal × (refusal ≢ refused.Memory)) → b ≡ is_ok judged →
    MatchBool b (IsRefusedBy w task m room refused.Memory) (¬ (IsRefusedBy w task m room refused.Memory))
told_receivable w task port m now f g room (Ok number) b ok err is =
    subst (λ (x : Bool). MatchBool x (IsRefusedBy w task m room refused.Memory) (¬ (IsRefusedBy w task m room refused.Memory))) (sym is)
    (subst (λ (k : Kept). IsRefusedBy w task k room refused.Memory) (sym (same_front_as w port m now f g)) (may_enough w task now room number ok))
told_receivable w task port m now f g room (Err refusal) b ok err is = grind (arith, same_front_as)

-- ---- room for none

space_kept : (spaces : List (Option SpaceView)) (task : ℕ) (space : SpaceView) → space_in spaces task ≡ Some space → slice_set spaces task (Some space) ≡ spaces
space_kept [] task space is = absurd (let none : None ≡ Some space = is in cc)
space_kept (x ∷ xs) zero space is = ap (λ (o : Option SpaceView). o ∷ xs) (sym is)
space_kept (x ∷ xs) (suc task) space is = ap (λ (ys : List (Option SpaceView)). x ∷ ys) (space_kept xs task space is)

pub room_for_none : (w : WorldView) (task number : ℕ) → HasTask w task → number ≡ 0 → MakesRoom w task number w
room_for_none w task number has none =
    let x = space_there w task has in
    let room : max x.0.room number ≡ x.0.room = omega (arith, none) in
    record {
      space = x.0;
      there = x.1;
      rest = sym (ap (λ (n : ℕ). with_space w task (record x.0 { room = n })) room ∙ ap (λ (xs : List (Option SpaceView)). record w { spaces = xs }) (space_kept w.spaces task x.0 x.1));
    }
