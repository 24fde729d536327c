-- A request on a name of a doomed port ends; burials come one after the other.
use Rattle.std.proofs.Common.{◌≡◌, ℕ, List, Option, Some, None, refl, sym, ap, subst, ◌∙◌, inl, inr, ◌+◌, ◌-◌, ◌<◌, [], ◌∷◌, arith, true, false, Bool, ◌⊎◌, zero, ◌^◌, length}
use Rattle.std.specs.FinMap as map
use Rattle.std.specs.Ordering.{nat_cmp}
use Rattle.std.proofs.lemmas.Bool.Decides.{eqb_tells}
use Rattle.std.specs.Prelude.{◌==◌, ◌&&◌, ◌||◌, not, is_some, min, slice_set, IfSome, Contains, ◌↔◌, nat_lt, if◌then◌else◌}
use Rattle.std.specs.Option.{option_map}
use Rattle.std.proofs.lemmas.Bool.{eq-eqb, lt-ltb, ltb-true}
use Rattle.std.specs.FinMap.{len-insert}
use Rattle.std.specs.Cmp.{nat_cmp_total}
use Rattle.mach_types.specs.Numbers.{most_references}
use Rattle.mach_types.specs.Tokens.{send, Request, Token, no_senders, port_destroyed, dead_name}
use Rattle.mach_model.proofs.Names.{removed_own, alike, at_own, at_other, get_own, get_other}
use Rattle.mach_model.specs.State.{State, Target, Names, lookup, held, at, same_request, request_at}
use Rattle.mach_model.specs.Notices.{Owed}
use Rattle.mach_model.specs.Settles.{settled_target, dead_references}
use Rattle.mach_model.specs.Turns.{Ending, is_among, lives_after, IsRequestOf, IsNameOf}
use Rattle.mach_model.proofs.SettledEnd.{settled_port}
use Rattle.mach_model.proofs.SettledReceives.{and_false, or_left}
use Rattle.mach_model.proofs.TurnsMade.{bury}
use Rattle.rights.specs.Ledger.{IsEntered, left}
use Rattle.name_space.specs.Names.{SpaceView}
use Rattle.name_space.specs.declared.Entry.{Entry}
use Rattle.name_space.specs.declared.Entry.TheVariants as named
use Rattle.name_space.specs.Entry.{port_of, port_named, has_receive, send_references}
use Rattle.name_space.specs.declared.Entry.TheVariants.{Receive, Send, ReceiveAndSend, SendOnce, DeadName, Set}
use Rattle.member_lists.specs.Lists.{without}
use Rattle.port.specs.Ports.{PortView}
use Rattle.port.specs.declared.Holder.TheVariants as holder
use Rattle.port.specs.Holding.{IsHeldBy, NoneHeldBy}
use Rattle.request_table.specs.Requests.{name_key, key_of, without_request as taken_out, NoneOn}
use Rattle.request_table.specs.declared.Request.{Request as NameRequest}
use Rattle.copyin_base.specs.Kept.{Kept}
use Rattle.copyin_base.specs.Worlds.{WorldView, space_at, entry_in, entry_at, port_at, put}
use Rattle.copyin_base.proofs.Putting.{get_removed, put_own, put_other}
use Rattle.copyin_base.proofs.Written.{tables}
use Rattle.copyin_base.specs.declared.Notice.TheVariants as notice
use Rattle.copyin_base.specs.Queued.{notice_kept}
use Rattle.request_table.specs.Tables.{RequestTablesView}
use Rattle.copyin_base.specs.Requests.{notify_of}
use Rattle.copyin_base.specs.Shows.{target_of, CarriesReceive, IsOnName}
use Rattle.tables_base.proofs.Reading.{named_port}
use Rattle.copyin_base.proofs.Requesting.{same_key}
use Rattle.copyin_base.proofs.Spaces.{space-set_same, space-set_other}
use Rattle.copyin_base.specs.Changes.{CanPutLeft, PutsLeft}
use Rattle.copyin_base.specs.Reading.{read_spaces, live_in}
use Rattle.copyin_base.specs.Leaving.{port_removed, without_no_senders, without_on_name, without_port_destroyed}
use Rattle.copyin_base.specs.Losing.{CanPost}
use Rattle.destroy.specs.Burying.{dead_count, IsDueOn, EndsRequests, IsNone, IsNextToBury, IsAny, IsOnName as IsRequestOnName, without_port, buried}
use Rattle.destroy.specs.Paying.{LivesIn, Pays, PaysMany}
use Rattle.destroy.proofs.BuryEnd.{of_settled, buried_between, buried_told, gone_ended, listed_now, there_now, unburied}
use Rattle.destroy.proofs.BuryRequest.{named_once, GoesOn, request_ended, request_refl, name_died_agrees, unrequested, without_request}
use Rattle.destroy.proofs.RequestEnds.{lives_or_not, stood as stood_mid}
use Rattle.mach_model.proofs.TurnsMade.{same_request_is}
use Rattle.destroy.proofs.BurySoFar.{held_same}
use Rattle.destroy.proofs.Counting.{count_none, count_joined}
use Rattle.destroy.proofs.BurySteps.{can_pay, ends_so, pays_ports, pays_doomed, none_ended}
use Rattle.destroy.proofs.LoseFrames.{NamesSoFar}
use Rattle.destroy.specs.Losing.{Framed}
use Rattle.copyin_base.proofs.Gets.{same_found}
use Rattle.notifications.specs.SoFar.{AgreesOf, seen_for}
use Rattle.destroy.proofs.Rooms.{renamed_rooms, pays_spaces, buried_rooms}
use Rattle.destroy.specs.Between.{Between}
use Rattle.destroy.specs.Stages.{IsCount, SameSlots, IsAt, Continues, AreTold, AreBuried, KeepsRooms}

-- ---- A request was taken out of the tables.

-- nothing is taken where nothing is
pub absent_stays : (m : map.FinMap nat_cmp ℕ) (k : ℕ) → map.get m k ≡ None → map.remove m k ≡ m
absent_stays m k none = alike (map.remove m k) m (λ n. elim (eqb_tells n k) [
  | inl h ↦ subst (λ (j : ℕ). map.get (map.remove m k) j ≡ map.get m j) (sym h.1) (removed_own m k ∙ sym none)
  | inr h ↦ get_removed m k n h.1
])

pub is_none : {A : Type 0} (o : Option A) → ((x : A) → o ≡ Some x → ⊥) → o ≡ None
is_none None none = refl
is_none (Some x) none = absurd (none x refl)

pub senders_absent : (w : WorldView) (p : ℕ) → map.get w.requests.no_senders.map p ≡ None → without_no_senders w p ≡ w
senders_absent w p none = ap (λ m. record w { requests = record w.requests { no_senders = record w.requests.no_senders { map = m } } }) (absent_stays w.requests.no_senders.map p none)

pub saving_absent : (w : WorldView) (p : ℕ) → map.get w.requests.port_destroyed.map p ≡ None → without_port_destroyed w p ≡ w
saving_absent w p none = ap (λ m. record w { requests = record w.requests { port_destroyed = record w.requests.port_destroyed { map = m } } }) (absent_stays w.requests.port_destroyed.map p none)

-- ---- A request on a name of a doomed port ends: the name is dead at once.

counts_dead : (n : ℕ) → 0 < n → dead_count n ≡ min (n + 1) most_references
counts_dead n some = omega (arith, some)

bare : (name q : ℕ) → ¬ (CarriesReceive (notice_kept (notice.DeadName name)) q)
bare name q (i, below, is) = absurd (omega (arith, below))

module _ (now : ℕ) (tables : WorldView) (old mid : State) (owed : Owed) (e : Ending) (w : WorldView) (b : Between now tables old mid owed e w) (told : AreTold mid e w) (port : ℕ) (held_by : IsHeldBy w.ports port holder.Doomed)
    (q : NameRequest) (is_kept : map.get w.requests.names.requests (key_of q) ≡ Some q) (is_port : q.port ≡ port) where
  abbrev s : State
  s = b.tied.state

  abbrev r : Request
  r = dead_name q.task q.name

  abbrev rq : RequestTablesView
  rq = record w.requests { names = taken_out w.requests.names q }

  pub on : IsOnName w (key_of q) q
  on = b.requested.on_names (key_of q) q is_kept

  was : notify_of w.requests r ≡ Some q.notify
  was = grind (arith, lt-ltb, on)

  gone : notify_of rq r ≡ None
  gone = grind (arith, removed_own)

  others : (x : Request) → same_request x r ≡ false → notify_of rq x ≡ notify_of w.requests x
  others (no_senders p) other = refl
  others (port_destroyed p) other = refl
  others (dead_name t n) other = grind (arith, same_key, on, eq-eqb, get_removed, ltb-true)

  -- ---- the name

  found_there : lookup s q.task q.name ≡ Some (target_of on.entry)
  found_there = b.tied.agrees.spaces.naming q.task q.name ∙ ap (option_map target_of) on.found

  abbrev partly : State
  partly = seen_for mid e.ended s.live_port q.task q.name

  of_port : target_of on.entry ≡ Target.port q.port → lookup mid q.task q.name ≡ Some (Target.port q.port)
  of_port is = (settled_port mid partly q.task q.name (lookup mid q.task q.name) q.port (sym (b.tied.so_far.names q.task q.name) ∙ found_there ∙ ap Some is)).0

  of_once : target_of on.entry ≡ Target.once q.port → lookup mid q.task q.name ≡ Some (Target.once q.port)
  of_once is = of_settled mid partly q.task q.name (lookup mid q.task q.name) q.port (sym (b.tied.so_far.names q.task q.name) ∙ found_there ∙ ap Some is)

  pub is_of_port : IsRequestOf mid port r
  is_of_port = elim (named_once on.entry q.port on.for_port) [
    | inl h ↦ subst (IsNameOf port) (sym (of_port h)) is_port
    | inr h ↦ subst (IsNameOf port) (sym (of_once h)) is_port
  ]

  stood : mid.stands r ≡ true
  stood = stood_mid now old mid owed e b.lawful b.reached s b.tied.so_far w b.tied.agrees b.went r q.notify was

  -- no task has the port's receive right
  no_receive : (x : Entry) → entry_at w q.task q.name ≡ Some x → port_named x ≡ Some q.port → has_receive x ≡ true → ⊥
  no_receive x at is has =
      let there : port_at w q.port ≡ Some held_by.view = ap (port_at w) is_port ∙ held_by.there in
      let a : held_by.view.attributes.holder ≡ holder.Task q.task = b.held.held q.task q.name x q.port at is has held_by.view there in
      let c : holder.Task q.task ≡ holder.Doomed = sym a ∙ held_by.holder_is in cc

  same_held : held s q.task send q.port ≡ held mid q.task send q.port
  same_held = subst (λ (p : ℕ). held s q.task send p ≡ held mid q.task send p) (sym is_port) (held_same now old mid owed e port s b.lawful b.reached (listed_now now tables old mid owed e w b port held_by) (unburied now tables old mid owed e w b port held_by) b.tied.so_far q.task send)

  -- the references of a name of send rights are counted
  counted : (x : Entry) → entry_at w q.task q.name ≡ Some x → port_of x ≡ Some q.port → target_of x ≡ Target.port q.port → dead_count (send_references x) ≡ min (held mid q.task send q.port + 1) most_references
  counted (named.Receive p) at for t = absurd (no_receive (named.Receive p) at for refl)
  counted (named.Send p n) at for t = counts_dead n (b.tied.agrees.spaces.counted q.task q.name (named.Send p n) at) ∙ ap (λ (k : ℕ). min (k + 1) most_references) (sym (b.tied.agrees.rights.references q.task q.name (named.Send p n) q.port at for).1 ∙ same_held)
  counted (named.ReceiveAndSend p n) at for t = absurd (no_receive (named.ReceiveAndSend p n) at for refl)
  counted (named.SendOnce p) at for t = absurd (cc)
  counted (named.DeadName n) at for t = absurd (cc)
  counted (named.Set n) at for t = absurd (cc)

  once_counted : (x : Entry) → target_of x ≡ Target.once q.port → dead_count (send_references x) ≡ min (1 + 1) most_references
  once_counted (named.Receive p) t = absurd (cc)
  once_counted (named.Send p n) t = absurd (cc)
  once_counted (named.ReceiveAndSend p n) t = absurd (cc)
  once_counted (named.SendOnce p) t = refl
  once_counted (named.DeadName n) t = absurd (cc)
  once_counted (named.Set n) t = absurd (cc)

  module _ (space : SpaceView) (there : space_at w q.task ≡ Some space) where
    abbrev k : ℕ
    k = dead_count (send_references on.entry)

    abbrev dead_space : SpaceView
    dead_space = record space { names = put space.names q.name (Some (named.DeadName k)) }

    abbrev spaces : List (Option SpaceView)
    spaces = slice_set w.spaces q.task (Some dead_space)

    abbrev naming : ℕ → Names
    naming = at s.naming q.task (map.insert (s.naming q.task) q.name (Target.dead k))

    found : map.get space.names q.name ≡ Some on.entry
    found = sym (ap (λ (o : Option SpaceView). entry_in o q.name) there) ∙ on.found

    -- ---- names in the state

    abbrev more : List Request
    more = r ∷ e.ended

    abbrev result : (task name : ℕ) → Bool → Option Target
    result task name c = option_map (settled_target mid (record mid { live_port = λ p. if c then false else s.live_port p }) task name) (lookup mid task name)

    own_among : is_among more r ≡ true
    own_among = or_left (same_request r r) (is_among e.ended r) (request_refl r)

    own_result : Some (Target.dead k) ≡ result q.task q.name true
    own_result = elim (named_once on.entry q.port on.for_port) [
      | inl h ↦ ap (λ (n : ℕ). Some (Target.dead n)) (counted on.entry on.found on.for_port h ∙ sym (ap (λ (c : Bool). dead_references c (held mid q.task send q.port)) stood)) ∙ sym (ap (option_map (settled_target mid gone_all q.task q.name)) (of_port h))
      | inr h ↦ ap (λ (n : ℕ). Some (Target.dead n)) (once_counted on.entry h ∙ sym (ap (λ (c : Bool). dead_references c 1) stood)) ∙ sym (ap (option_map (settled_target mid gone_all q.task q.name)) (of_once h))
    ]
      where
        gone_all : State
        gone_all = record mid { live_port = λ p. false }

    own_named : map.get (naming q.task) q.name ≡ result q.task q.name (is_among more r)
    own_named = grind (arith, at_own, get_own, own_result, own_among)

    other_named : (task name : ℕ) → same_request (dead_name task name) r ≡ false → map.get (naming task) name ≡ map.get (s.naming task) name → map.get (naming task) name ≡ result task name (is_among more (dead_name task name))
    other_named task name off same = same ∙ b.tied.so_far.names task name ∙ ap (λ (c : Bool). result task name (c || is_among e.ended (dead_name task name))) (sym off)

    named_so : NamesSoFar mid more s.live_port naming
    named_so task name = elim (eqb_tells task q.task) [
      | inl h ↦ elim (eqb_tells name q.name) [
        | inl g ↦ subst (λ (t : ℕ). map.get (naming t) name ≡ result t name (is_among more (dead_name t name))) (sym h.1)
            (subst (λ (n : ℕ). map.get (naming q.task) n ≡ result q.task n (is_among more (dead_name q.task n))) (sym g.1) own_named)
        | inr g ↦ other_named task name (ap (λ (c : Bool). task == q.task && c) g.0 ∙ and_false (task == q.task))
            (subst (λ (t : ℕ). map.get (naming t) name ≡ map.get (s.naming t) name) (sym h.1)
            (ap (λ (m : Names). map.get m name) (at_own s.naming q.task (map.insert (s.naming q.task) q.name (Target.dead k))) ∙ get_other (s.naming q.task) q.name (Target.dead k) name g.1))
      ]
      | inr h ↦ other_named task name (ap (λ (c : Bool). c && name == q.name) h.0) (ap (λ (m : Names). map.get m name) (at_other s.naming q.task (map.insert (s.naming q.task) q.name (Target.dead k)) task h.1))
    ]

    -- ---- names in the tables

    abbrev ended : WorldView
    ended = record w { spaces = spaces; requests = rq }

    entry_own : entry_at ended q.task q.name ≡ Some (named.DeadName k)
    entry_own = ap (λ (o : Option SpaceView). entry_in o q.name) (space-set_same w.spaces q.task dead_space space there) ∙ put_own space.names q.name (Some (named.DeadName k))

    entry_other : (t n : ℕ) → ((t ≡ q.task) × (n ≡ q.name) → ⊥) → entry_at ended t n ≡ entry_at w t n
    entry_other t n not = elim (eqb_tells t q.task) [
      | inl h ↦ subst (λ (u : ℕ). entry_at ended u n ≡ entry_at w u n) (sym h.1)
          (ap (λ (o : Option SpaceView). entry_in o n) (space-set_same w.spaces q.task dead_space space there) ∙ put_other space.names q.name (Some (named.DeadName k)) n (λ is. not (h.1, is))
          ∙ sym (ap (λ (o : Option SpaceView). entry_in o n) there))
      | inr h ↦ ap (λ (o : Option SpaceView). entry_in o n) (space-set_other w.spaces q.task dead_space t h.1)
    ]

    entry_from : (t n : ℕ) (x : Entry) (p : ℕ) → entry_at ended t n ≡ Some x → port_of x ≡ Some p → entry_at w t n ≡ Some x
    entry_from t n x p is for = grind (arith, entry_own, entry_other)

    framed : Framed mid e ended
    framed = record {
      held = record { held = λ t n x p at is has v here. b.held.held t n x p (entry_from t n x p at (named_port x p is)) is has v here };
      carriers = record { given = b.carriers.given; carried = b.carriers.carried };
      requested = record {
        on_names = λ key x is. on_name key x is;
        no_senders = b.requested.no_senders;
        port_destroyed = b.requested.port_destroyed;
      };
      went = b.went;
      unjudged = b.unjudged;
      doomed = b.doomed;
      lost = b.lost;
    }
      where
        on_name : (key : ℕ) (x : NameRequest) → map.get (map.remove w.requests.names.requests (key_of q)) key ≡ Some x → IsOnName ended key x
        on_name key x is =
            let o = b.requested.on_names key x (sym (get_removed w.requests.names.requests (key_of q) key other) ∙ is) in
            record {
              own = o.own;
              small = o.small;
              entry = o.entry;
              found = entry_other x.task x.name (λ c. other (sym o.own ∙ (λ i. name_key (c.0 i) (c.1 i)))) ∙ o.found;
              for_port = o.for_port;
              live = o.live;
            }
          where
            other : key ≡ key_of q → ⊥
            other same = let a : None ≡ Some x = sym (removed_own w.requests.names.requests (key_of q)) ∙ ap (map.get (map.remove w.requests.names.requests (key_of q))) (sym same) ∙ is in cc

    -- ---- the step

    agrees : (xs : List Token) → GoesOn (lives_after mid e) q.notify r s.ledger xs → AgreesOf (lives_after mid e) ended (record s { naming = naming; stands = request_at s.stands r false; ledger = xs })
    agrees xs g = name_died_agrees (lives_after mid e) (unrequested w rq) (without_request s r xs)
        (request_ended (lives_after mid e) w s b.tied.agrees rq r q.notify xs gone was others b.went b.went g (λ x h. same_request_is x r h)) q.task q.name space there on.entry found q.port on.for_port k

    pub name_post : LivesIn ended q.notify → CanPost ended q.notify
    name_post there =
        let c = can_pay now tables old mid owed e w b told port held_by r q.notify was is_of_port (record { v = there.v; there = there.there; undoomed = there.undoomed }) in
        record { live = c.live; paid = c.paid; slots = c.slots }

    pub name_ends : (number : ℕ) (new : WorldView) → Pays ended q.notify (notice.DeadName q.name) new → PaysMany ended q.notify number →
        (f : Ending) × Between now tables old mid owed f new × IsCount e.turns f.turns number × SameSlots e w f new × AreTold mid f new
        × ((x : Request) → is_among e.ended x ≡ true → is_among f.ended x ≡ true) × (is_among f.ended r ≡ true)
    name_ends = ends_so now tables old mid owed e w b told port held_by r q.notify was is_of_port spaces rq naming named_so agrees framed (λ p h. h) (notice.DeadName q.name) refl (λ at. refl) (bare q.name)

-- ---- What ending a request on a name of a doomed port asks of the tables, and what it promises.

-- the request was taken out of the tables
pub name_taken : (old : WorldView) (q : NameRequest) (o : Option NameRequest) (new : WorldView) → o ≡ map.get old.requests.names.requests (key_of q) → map.get old.requests.names.requests (key_of q) ≡ Some q →
    IfSome o (λ r. new ≡ without_on_name old r) → new ≡ without_on_name old q
name_taken old q o new kept there some = subst (λ (x : Option NameRequest). IfSome x (λ r. new ≡ without_on_name old r)) (kept ∙ there) some

-- a map that has a key has more
some_fewer : (m : map.FinMap nat_cmp NameRequest) (k : ℕ) (v : NameRequest) → map.get m k ≡ Some v → map.len (map.remove m k) < map.len m
some_fewer m k v is =
    let a : map.len (map.insert (map.remove m k) k v) ≡ map.len (map.remove m k) + 1 = len-insert nat_cmp_total (map.remove m k) k v ∙ rw (removed_own m k) refl in
    let b : map.insert (map.remove m k) k v ≡ m = alike _ _ (same m k v is) in
    let c : map.len (map.insert (map.remove m k) k v) ≡ map.len m = ap map.len b in
    omega (arith, a, c)
  where
    same : (m : map.FinMap nat_cmp NameRequest) (k : ℕ) (v : NameRequest) → map.get m k ≡ Some v → (n : ℕ) → map.get (map.insert (map.remove m k) k v) n ≡ map.get m n
    same m k v is n = elim (eqb_tells n k) [
      | inl h ↦ subst (λ (j : ℕ). map.get (map.insert (map.remove m k) k v) j ≡ map.get m j) (sym h.1) (get_own (map.remove m k) k v ∙ sym is)
      | inr h ↦ get_other (map.remove m k) k v n h.1 ∙ get_removed m k n h.1
    ]

space_of : (o : Option SpaceView) (name : ℕ) (x : Entry) → entry_in o name ≡ Some x → (space : SpaceView) × (o ≡ Some space) × (map.get space.names name ≡ Some x)
space_of (Some space) name x is = (space, refl, is)
space_of None name x is = absurd (let a : None ≡ Some x = is in cc)

one_entry : (a b : Entry) → Some a ≡ Some b → a ≡ b
one_entry a b e = cc

-- something stands under the name
pub entry_there : (port : ℕ) (q : NameRequest) (w : WorldView) → IsDueOn port q w → (u : WorldView) → u ≡ without_on_name w q → (x : Entry) × (entry_at u q.task q.name ≡ Some x)
entry_there port q w due u is_u =
    let a = due.next.at in
    let o = a.between.requested.on_names (key_of q) q due.is_on.there in
    (o.entry, ap (λ (y : WorldView). entry_at y q.task q.name) is_u ∙ o.found)

module _ (port : ℕ) (q : NameRequest) (w : WorldView) (due : IsDueOn port q w) (u : WorldView) (is_u : u ≡ without_on_name w q) (x : Entry) (at : entry_at u q.task q.name ≡ Some x)
    (d : Entry) (is_d : d ≡ named.DeadName (dead_count (send_references x))) where
  pub can_put : CanPutLeft u q.task q.name (Some d)
  can_put =
      let f = space_of (space_at u q.task) q.name x at in
      record {
        space = f.0;
        there = f.1;
        used = ap is_some f.2;
        same = λ p named. absurd (let a : None ≡ Some p = ap port_named (sym is_d) ∙ named in cc);
        lives = λ p for. absurd (let a : None ≡ Some p = ap port_of (sym is_d) ∙ for in cc);
      }

  here : entry_at w q.task q.name ≡ Some x
  here = ap (λ (y : WorldView). entry_at y q.task q.name) (sym is_u) ∙ at

  module _ (z : WorldView) (p : PutsLeft u q.task q.name (Some d) z) where
    there : space_at w q.task ≡ Some p.space
    there = ap (λ (y : WorldView). space_at y q.task) (sym is_u) ∙ p.there

    abbrev dead_as : ℕ → WorldView
    dead_as k = record w { spaces = slice_set w.spaces q.task (Some (record p.space { names = put p.space.names q.name (Some (named.DeadName k)) })); requests = record w.requests { names = taken_out w.requests.names q } }

    z_is : z ≡ dead_as (dead_count (send_references x))
    z_is = p.rest
        ∙ ap (λ (y : WorldView). record y { spaces = slice_set y.spaces q.task (Some (record p.space { names = put p.space.names q.name (Some d) })) }) is_u
        ∙ ap (λ (y : Entry). record w { spaces = slice_set w.spaces q.task (Some (record p.space { names = put p.space.names q.name (Some y) })); requests = record w.requests { names = taken_out w.requests.names q } }) is_d

    module _ (now : ℕ) (tables : WorldView) (old mid : State) (owed : Owed) (e : Ending) (b : Between now tables old mid owed e w) (told : AreTold mid e w) where
      same_entry : x ≡ (on now tables old mid owed e w b told port due.next.doomed q due.is_on.there due.is_on.is).entry
      same_entry = one_entry x _ (sym here ∙ (on now tables old mid owed e w b told port due.next.doomed q due.is_on.there due.is_on.is).found)

      z_as : z ≡ dead_as (dead_count (send_references (on now tables old mid owed e w b told port due.next.doomed q due.is_on.there due.is_on.is).entry))
      z_as = z_is ∙ ap (λ (y : Entry). dead_as (dead_count (send_references y))) same_entry

      post : LivesIn z q.notify → CanPost z q.notify
      post = subst (λ (y : WorldView). LivesIn y q.notify → CanPost y q.notify) (sym z_as) (name_post now tables old mid owed e w b told port due.next.doomed q due.is_on.there due.is_on.is p.space there)

      ends : (many : ℕ) (v : WorldView) → Pays z q.notify (notice.DeadName q.name) v → PaysMany z q.notify many →
          (f : Ending) × Between now tables old mid owed f v × IsCount e.turns f.turns many × SameSlots e w f v × AreTold mid f v
          × ((x : Request) → is_among e.ended x ≡ true → is_among f.ended x ≡ true) × (is_among f.ended (dead_name q.task q.name) ≡ true)
      ends many v pays counts = name_ends now tables old mid owed e w b told port due.next.doomed q due.is_on.there due.is_on.is p.space there many v
          (subst (λ (y : WorldView). Pays y q.notify (notice.DeadName q.name) v) z_as pays) (subst (λ (y : WorldView). PaysMany y q.notify many) z_as counts)

    pub named_post : LivesIn z q.notify → CanPost z q.notify
    named_post = let a = due.next.at in post a.now a.tables a.old a.mid a.owed a.ending a.between a.stage_is

    module _ (v : WorldView) (pays : Pays z q.notify (notice.DeadName q.name) v) where
      pub named_ends : (many : ℕ) → PaysMany z q.notify many → EndsRequests port IsNone w many v
      named_ends many pays_many = record {
        goes_on = λ now tables old mid owed e b told. let g = ends now tables old mid owed e b told many v pays pays_many in (g.0, g.1, g.2, g.3, g.4, g.5, (λ r none. absurd none));
        doomed = pays_doomed z q.notify (notice.DeadName q.name) v pays (lives_or_not z q.notify) port (subst (λ (y : WorldView). IsHeldBy y.ports port holder.Doomed) (sym z_is) (record { view = due.next.doomed.view; there = due.next.doomed.there; holder_is = due.next.doomed.holder_is }));
        ports = pays_ports z q.notify (notice.DeadName q.name) v pays (lives_or_not z q.notify) ∙ ap (λ (y : WorldView). map.len y.ports.ports) z_is;
        rooms = renamed_rooms w v q.task p.space _ there (pays_spaces z q.notify (notice.DeadName q.name) v pays (lives_or_not z q.notify) ∙ ap (λ (y : WorldView). y.spaces) z_is);
      }

      same_requests : LivesIn z q.notify ⊎ ¬ (LivesIn z q.notify) → v.requests ≡ z.requests
      same_requests (inl l) = let a = pays.posts l in ap (λ (y : WorldView). y.requests) a.rest
      same_requests (inr l) = ap (λ (y : WorldView). y.requests) (pays.stays l)

      pub named_fewer : map.len v.requests.names.requests < map.len w.requests.names.requests
      named_fewer =
          let a : map.len v.requests.names.requests ≡ map.len z.requests.names.requests = ap (λ r. map.len r.names.requests) (same_requests (lives_or_not z q.notify)) in
          let b : map.len z.requests.names.requests ≡ map.len (map.remove w.requests.names.requests (key_of q)) = ap (λ (y : WorldView). map.len y.requests.names.requests) z_is in
          let c = some_fewer w.requests.names.requests (key_of q) q due.is_on.there in
          omega (arith, a, b, c)

-- ---- Parts of a burial come one after the other, and so do burials.

-- ---- parts of a burial

pub still_next : (port : ℕ) (these : Request → Type 0) (w : WorldView) (t : ℕ) (v : WorldView) → IsNextToBury port w → EndsRequests port these w t v → IsNextToBury port v
still_next port these w t v n e =
    let a = n.at in
    let g = e.goes_on a.now a.tables a.old a.mid a.owed a.ending a.between a.stage_is in
    record { at = record { now = a.now; tables = a.tables; old = a.old; mid = a.mid; owed = a.owed; ending = g.0; between = g.1; stage_is = g.4 }; doomed = e.doomed }

pub joined : (port : ℕ) (these those : Request → Type 0) (w : WorldView) (t : ℕ) (u : WorldView) (n : ℕ) (v : WorldView) → EndsRequests port these w t u → EndsRequests port those u n v →
    (m : ℕ) → m ≡ min (t + n) (2 ^ 64 - 1) → EndsRequests port (λ r. these r ⊎ those r) w m v
joined port these those w t u n v e f m sum = record {
  goes_on = λ now tables old mid owed x b told.
      let g = e.goes_on now tables old mid owed x b told in
      let h = f.goes_on now tables old mid owed g.0 g.1 g.4 in
      let y = g.3 in
      let z = h.3 in (
        h.0,
        h.1,
        count_joined x.turns g.0.turns h.0.turns t n m g.2 h.2 sum,
        omega (arith, y, z),
        h.4,
        (λ r c. h.5 r (g.5 r c)),
        (λ r is stood of. elim is [
          | inl a ↦ h.5 r (g.6 r a stood of)
          | inr a ↦ h.6 r a stood of
        ]),
      );
  doomed = f.doomed;
  ports = f.ports ∙ e.ports;
  rooms = λ task. f.rooms task ∙ e.rooms task;
}

pub weaker_ends : (port : ℕ) (these those : Request → Type 0) (w : WorldView) (t : ℕ) (v : WorldView) → EndsRequests port these w t v →
    ((mid : State) (r : Request) → those r → IsRequestOf mid port r → these r) → EndsRequests port those w t v
weaker_ends port these those w t v e so = record {
  goes_on = λ now tables old mid owed x b told. let g = e.goes_on now tables old mid owed x b told in (g.0, g.1, g.2, g.3, g.4, g.5, (λ r is stood of. g.6 r (so mid r is of) stood of));
  doomed = e.doomed;
  ports = e.ports;
  rooms = e.rooms;
}

pub none_yet : (port : ℕ) (w : WorldView) → IsNextToBury port w → EndsRequests port IsNone w 0 w
none_yet port w next = none_ended port IsNone w w next refl (λ r none. absurd none)

pub one_longer : (port : ℕ) (w : WorldView) (t : ℕ) (u : WorldView) (n : ℕ) (v : WorldView) → EndsRequests port IsNone w t u → EndsRequests port IsNone u n v → (m : ℕ) → m ≡ min (t + n) (2 ^ 64 - 1) → EndsRequests port IsNone w m v
one_longer port w t u n v e f m sum = weaker_ends port (λ r. IsNone r ⊎ IsNone r) IsNone w m v (joined port IsNone IsNone w t u n v e f m sum) (λ mid r none of. absurd none)

-- all three kinds
pub all_kinds : (port : ℕ) (w : WorldView) (t : ℕ) (v : WorldView) → EndsRequests port (λ r. ((r ≡ no_senders port) ⊎ (r ≡ port_destroyed port)) ⊎ IsRequestOnName r) w t v → EndsRequests port IsAny w t v
all_kinds port w t v e = weaker_ends port (λ r. ((r ≡ no_senders port) ⊎ (r ≡ port_destroyed port)) ⊎ IsRequestOnName r) IsAny w t v e kinds
  where
    kinds : (mid : State) (r : Request) → IsAny r → IsRequestOf mid port r → ((r ≡ no_senders port) ⊎ (r ≡ port_destroyed port)) ⊎ IsRequestOnName r
    kinds mid (no_senders p) any of = inl (inl (ap no_senders of))
    kinds mid (port_destroyed p) any of = inl (inr (ap port_destroyed of))
    kinds mid (dead_name t n) any of = inr tt

-- no request on a name of the port is kept any more
name_gone : (now : ℕ) (tables : WorldView) (old mid : State) (owed : Owed) (e : Ending) (port : ℕ) (w : WorldView) → Between now tables old mid owed e w → NoneOn w.requests.names port →
    (t n : ℕ) → IsNameOf port (lookup mid t n) → notify_of w.requests (dead_name t n) ≡ None
name_gone now tables old mid owed e port w b none t n of = go (nat_lt n (2 ^ 32)) refl
  where
    kept : n < 2 ^ 32 → (o : Option NameRequest) → map.get w.requests.names.requests (name_key t n) ≡ o → o ≡ None
    kept few None is = refl
    kept few (Some q) is = absurd (none.apart (name_key t n) q is (elim (named_once on.entry q.port on.for_port) [
      | inl h ↦ subst (IsNameOf port) (settled_port mid new t n (lookup mid t n) q.port (sym (b.tied.so_far.names t n) ∙ found ∙ ap Some h)).0 of
      | inr h ↦ subst (IsNameOf port) (of_settled mid new t n (lookup mid t n) q.port (sym (b.tied.so_far.names t n) ∙ found ∙ ap Some h)) of
    ]))
      where
        on : IsOnName w (name_key t n) q
        on = b.requested.on_names (name_key t n) q is

        key : (q.task ≡ t) × (q.name ≡ n)
        key = same_key q.task q.name t n on.small few on.own

        new : State
        new = seen_for mid e.ended b.tied.state.live_port t n

        found : lookup b.tied.state t n ≡ Some (target_of on.entry)
        found = b.tied.agrees.spaces.naming t n ∙ ap (option_map target_of) (sym (λ i. entry_at w (key.0 i) (key.1 i)) ∙ on.found)

    go : (c : Bool) → nat_lt n (2 ^ 32) ≡ c → (if c then option_map (λ (r : NameRequest). r.notify) (map.get w.requests.names.requests (name_key t n)) else None) ≡ None
    go true is = ap (option_map (λ (r : NameRequest). r.notify)) (kept (ltb-true n (2 ^ 32) is) (map.get w.requests.names.requests (name_key t n)) refl)
    go false is = refl

pub names_gone : (port : ℕ) (w : WorldView) (t : ℕ) (v : WorldView) → EndsRequests port IsNone w t v → NoneOn v.requests.names port → EndsRequests port IsRequestOnName w t v
names_gone port w t v e none = record {
  goes_on = λ now tables old mid owed x b told.
      let g = e.goes_on now tables old mid owed x b told in
      (g.0, g.1, g.2, g.3, g.4, g.5, (λ r is stood of. gone_ended now tables old mid owed g.0 v g.1 port e.doomed r of stood (gone now tables old mid owed g.0 g.1 r is of)));
  doomed = e.doomed;
  ports = e.ports;
  rooms = e.rooms;
}
  where
    gone : (now : ℕ) (tables : WorldView) (old mid : State) (owed : Owed) (x : Ending) → Between now tables old mid owed x v → (r : Request) → IsRequestOnName r → IsRequestOf mid port r → notify_of v.requests r ≡ None
    gone now tables old mid owed x b (no_senders p) is of = absurd is
    gone now tables old mid owed x b (port_destroyed p) is of = absurd is
    gone now tables old mid owed x b (dead_name t n) is of = name_gone now tables old mid owed x port v b none t n of

-- ---- the port leaves

-- the port is there yet, and has no message
pub none_queued : (port : ℕ) (w : WorldView) → IsNextToBury port w → (p : PortView Kept) → port_at w port ≡ Some p → length p.queue ≡ 0
none_queued port w i p is = ap (λ ms. length ms) (i.at.stage_is.lost.judged.emptied port p is (ap (λ (y : PortView Kept). y.attributes.holder) (same_found (port_at w port) p i.doomed.view is i.doomed.there) ∙ i.doomed.holder_is))

pub is_entered : (port : ℕ) (w : WorldView) → IsNextToBury port w → IsEntered w.ledger port
is_entered port w n = grind (arith, n.at.between.tied.agrees.counts port, there_now n.at.now n.at.tables n.at.old n.at.mid n.at.owed n.at.ending w n.at.between port n.doomed)

some_fewer_loop : (m : map.FinMap nat_cmp (PortView Kept)) (k : ℕ) (v : PortView Kept) → map.get m k ≡ Some v → map.len (map.remove m k) < map.len m
some_fewer_loop m k v is =
    let a : map.len (map.insert (map.remove m k) k v) ≡ map.len (map.remove m k) + 1 = len-insert nat_cmp_total (map.remove m k) k v ∙ rw (removed_own m k) refl in
    let b : map.insert (map.remove m k) k v ≡ m = alike _ _ (same m k v is) in
    let c : map.len (map.insert (map.remove m k) k v) ≡ map.len m = ap map.len b in
    omega (arith, a, c)
  where
    same : (m : map.FinMap nat_cmp (PortView Kept)) (k : ℕ) (v : PortView Kept) → map.get m k ≡ Some v → (n : ℕ) → map.get (map.insert (map.remove m k) k v) n ≡ map.get m n
    same m k v is n = elim (eqb_tells n k) [
      | inl h ↦ subst (λ (j : ℕ). map.get (map.insert (map.remove m k) k v) j ≡ map.get m j) (sym h.1) (get_own (map.remove m k) k v ∙ sym is)
      | inr h ↦ get_other (map.remove m k) k v n h.1 ∙ get_removed m k n h.1
    ]

module _ (port : ℕ) (w : WorldView) (u : WorldView) (t : ℕ) (e : EndsRequests port IsAny w t u) (v : WorldView) (doomed : List ℕ) (is : v ≡ buried u port doomed) where
  pub bury_continues : Continues AreTold AreTold w t v
  bury_continues now tables old mid owed x b told =
      let g = e.goes_on now tables old mid owed x b told in
      let every : (r : Request) → mid.stands r ≡ true → IsRequestOf mid port r → is_among g.0.ended r ≡ true = λ r stood of. g.6 r tt stood of in
      let y = g.3 in (
        bury port g.0,
        subst (Between now tables old mid owed (bury port g.0)) (sym is) (buried_between now tables old mid owed g.0 u g.1 g.4 port e.doomed every doomed),
        g.2,
        (let a = ap (λ (y : WorldView). y.ports.spare + length y.ports.destroyed) is in omega (arith, a, y)),
        subst (AreTold mid (bury port g.0)) (sym is) (buried_told now tables old mid owed g.0 u g.1 g.4 port e.doomed every doomed),
      )

  pub bury_rooms : KeepsRooms w v
  bury_rooms task = buried_rooms u v port doomed is task ∙ e.rooms task

  pub bury_fewer : map.len v.ports.ports < map.len w.ports.ports
  bury_fewer =
      let a = some_fewer_loop u.ports.ports port e.doomed.view e.doomed.there in
      let c : map.len v.ports.ports ≡ map.len (map.remove u.ports.ports port) = ap (λ (y : WorldView). map.len y.ports.ports) is in
      let d = e.ports in
      omega (arith, a, c, d)

-- ---- burials

pub rooms_kept : (w : WorldView) → KeepsRooms w w
rooms_kept w task = refl

pub rooms_more : (w u v : WorldView) → KeepsRooms w u → KeepsRooms u v → KeepsRooms w v
rooms_more w u v a b task = b task ∙ a task

pub continues_first : (w : WorldView) → Continues AreTold AreTold w 0 w
continues_first w now tables old mid owed e b told = (e, b, count_none e.turns, refl, told)

pub continues_more : (w : WorldView) (t : ℕ) (u : WorldView) (n : ℕ) (v : WorldView) → Continues AreTold AreTold w t u → Continues AreTold AreTold u n v → (m : ℕ) → m ≡ min (t + n) (2 ^ 64 - 1) → Continues AreTold AreTold w m v
continues_more w t u n v a c m sum now tables old mid owed e b told =
    let f = a now tables old mid owed e b told in
    let g = c now tables old mid owed f.0 f.1 f.4 in
    let x = f.3 in
    let y = g.3 in
    (g.0, g.1, count_joined e.turns f.0.turns g.0.turns t n m f.2 g.2 sum, omega (arith, x, y), g.4)

pub still_at : (w : WorldView) (t : ℕ) (v : WorldView) → IsAt AreTold w → Continues AreTold AreTold w t v → IsAt AreTold v
still_at w t v a c =
    let f = c a.now a.tables a.old a.mid a.owed a.ending a.between a.stage_is in
    record { now = a.now; tables = a.tables; old = a.old; mid = a.mid; owed = a.owed; ending = f.0; between = f.1; stage_is = f.4 }

none_listed : (xs : List ℕ) → ((x : ℕ) → Contains xs x → ⊥) → xs ≡ []
none_listed [] none = refl
none_listed (x ∷ xs) none = absurd (none x (zero, omega arith, refl))

pub all_buried : (w : WorldView) (t : ℕ) (v : WorldView) → Continues AreTold AreTold w t v → NoneHeldBy v.ports holder.Doomed → ((p : ℕ) → Contains v.ports.doomed p ↔ IsHeldBy v.ports p holder.Doomed) →
    Continues AreTold AreBuried w t v
all_buried w t v c none all now tables old mid owed e b told =
    let f = c now tables old mid owed e b told in
    (f.0, f.1, f.2, f.3, record { told = f.4; none_doomed = none_listed v.ports.doomed (λ p is. let a = all p in let h = a.0 is in none p h.view h.there h.holder_is) })

-- ---- the tables of a port that left

-- none was lost or noted
pub removed_buried : (w : WorldView) (port : ℕ) → IsNextToBury port w → port_removed w port ≡ buried w port (without port w.ports.doomed)
removed_buried w port i =
    let lost : without port w.ports.lost ≡ [] = ap (without port) i.at.stage_is.lost.judged.none_lost in
    let noted : without port w.ports.noted ≡ [] = ap (without port) i.at.stage_is.none_noted in
    λ k. record w {
      spaces = read_spaces (live_in (record (without_port w.ports port (without port w.ports.doomed)) { lost = lost k; noted = noted k })) w.spaces;
      ports = record (without_port w.ports port (without port w.ports.doomed)) { lost = lost k; noted = noted k };
      ledger = left w.ledger port;
    }
