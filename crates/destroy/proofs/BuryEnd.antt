-- A burial from its beginning to the tables after it.
use Rattle.std.proofs.Common.{length-append, ◌≡◌, ℕ, ◌+◌, List, [], ◌∷◌, Option, Some, None, refl, sym, ap, subst, ◌∙◌, arith, true, false, Bool, inl, inr, length, zero, suc, ◌<◌, ◌≤◌, ◌++◌, ◌⊎◌, drop}
use Rattle.std.specs.Prelude.{if◌then◌else◌, ◌==◌, ◌&&◌, not, filter, is_some, Contains, map as list_map, ◌||◌}
use Rattle.std.specs.Option.{unwrap_or, option_map}
use Rattle.std.proofs.lemmas.Bool.{eq-eqb, ne_eqb, lt-ltb, false_from_ne_true, true_from_ne_false}
use Rattle.std.proofs.lemmas.Bool.Decides.{eqb_tells}
use Rattle.std.specs.FinMap as map
use Rattle.mach_types.specs.Tokens.{Kind, receive, send, send_once, Request, Place, in_task, in_message, in_request, Token, weigh, count, is_of, is_held, is_in_task, no_senders, port_destroyed, dead_name}
use Rattle.mach_types.specs.Messages.{Entry}
use Rattle.mach_model.specs.State.{State, held, Target, lookup, queue}
use Rattle.mach_model.specs.Death.{same_place, LiesAt}
use Rattle.mach_model.specs.Carried.{lying_among}
use Rattle.mach_model.specs.Turns.{Ending, listed, is_among, lives_after, Begun, turns, IsWaiting, is_judged, IsNameOf, IsRequestOf, Buries, Turn, became_dead, has_ended}
use Rattle.mach_model.specs.Unused.{onces_queued}
use Rattle.mach_model.proofs.Names.{removed_own, length-weigh, weigh-append}
use Rattle.mach_model.proofs.SettledEnd.{settled_port}
use Rattle.mach_model.proofs.SettledReceives.{and_false}
use Rattle.mach_model.proofs.TurnsMade.{parted, bury, bury_is}
use Rattle.mach_model.specs.Notices.{Owed}
use Rattle.mach_model.specs.Settles.{due_notices, settled_target}
use Rattle.mach_model.specs.Lawful.{tally}
use Rattle.mach_model.proofs.TurnsSettle.{dies_unsaved}
use Rattle.mach_model.proofs.TurnsCounted.{reached_sound, takes_less, listed_cases}
use Rattle.rights.specs.declared.Counts.{Counts}
use Rattle.rights.specs.Counts.{no_rights}
use Rattle.rights.specs.Ledger.{counts_of}
use Rattle.name_space.specs.declared.Entry.{Entry as Named}
use Rattle.name_space.specs.Entry.{port_named, has_receive}
use Rattle.port.specs.declared.Holder.{Holder}
use Rattle.port.specs.declared.Holder.TheVariants as holder
use Rattle.port.specs.Ports.{PortView, IsLive}
use Rattle.port.specs.Holding.{IsHeldBy}
use Rattle.request_table.specs.declared.Request.{Request as NameRequest}
use Rattle.copyin_base.specs.Kept.{Kept}
use Rattle.copyin_base.specs.Reading.{live_in, reading}
use Rattle.copyin_base.specs.Requests.{notify_of}
use Rattle.copyin_base.specs.Shows.{CountsAgree, ShowsPort, HoldersAgree, target_of, AllKept, CarriersAgree, RequestsStand, IsOnName}
use Rattle.copyin_base.specs.Worlds.{WorldView, port_at, entry_at}
use Rattle.copyin_base.proofs.Changing.{target_named}
use Rattle.copyin_base.proofs.Putting.{get_removed}
use Rattle.copyin_base.proofs.Requesting.{requests_stay}
use Rattle.copyin_base.specs.Changes.{IsSenderless}
use Rattle.tables_base.proofs.Reading.{named_port, reads_as}
use Rattle.notifications.proofs.NoticePosted.{filter_weigh}
use Rattle.notifications.specs.SoFar.{AgreesOf, IsWithNobody, IsHolder, HoldersTell, due_so_far, entries_at, Tied, buried_alone, seen_for, IsSoFar}
use Rattle.destroy.specs.Burying.{without_port, buried}
use Rattle.destroy.proofs.BuryRequest.{named_once}
use Rattle.destroy.proofs.LoseFrames.{stood_if}
use Rattle.destroy.proofs.LoseRights.{awaits_on}
use Rattle.destroy.proofs.BurySoFar.{left_target, left_as_read, spaces_left, rights_left, sets_left, read_port, read_at, after_burial, next_so_far}
use Rattle.mach_model.proofs.SettledDetermined.{weigh-same}
use Rattle.destroy.proofs.BuryState.{is_off, count_else, none_here, none_stands}
use Rattle.destroy.specs.Between.{Between, IsUnlost}
use Rattle.destroy.specs.Stages.{AreTold}

-- ---- The tables after a burial agree with the state after it.

-- ---- tests of rights

pub of_other : (kind : Kind) (p port : ℕ) → (p ≡ port → ⊥) → (x : Token) → x.port ≡ port → is_of kind p x ≡ false
of_other kind p port not x is = rw (ne_eqb x.port p (λ h. not (sym h ∙ is))) (and_false _)

of_none : (kind : Kind) (port : ℕ) (x : Token) → (x.port ≡ port → ⊥) → is_of kind port x ≡ false
of_none kind port x not = rw (ne_eqb x.port port not) (and_false _)

-- the rights for a port are those of the three kinds
by_kinds : (port : ℕ) (xs : List Token) → weigh (λ x. if x.port == port then 1 else 0) xs ≡ count (is_of receive port) xs + count (is_of send port) xs + count (is_of send_once port) xs
by_kinds port [] = refl
by_kinds port (x ∷ xs) = grind (arith, by_kinds port xs)

module _ (now : ℕ) (mid : State) (e : Ending) (port : ℕ) (s : State) (f : IsSoFar now mid e s) (w : WorldView) (doomed : List ℕ)
    (a : AgreesOf (lives_after mid e) w s) (is_doomed : listed e.doomed port ≡ true) (held_by : HoldersAgree w)
    (holder_is : (v : PortView Kept) → port_at w port ≡ Some v → v.attributes.holder ≡ holder.Doomed) where
  abbrev pub live : ℕ → Bool
  live = live_in (without_port w.ports port doomed)

  abbrev next : State
  next = after_burial live port s

  abbrev after : WorldView
  after = buried w port doomed

  -- ---- which ports are there

  pub live_is : (q : ℕ) → live q ≡ (s.live_port q && not (q == port))
  live_is q = grind (arith, removed_own, and_false, get_removed)

  pub live_other : (q : ℕ) → live q ≡ true → q ≡ port → ⊥
  live_other q is same = grind (arith, eq-eqb, and_false, live_is)

  pub there_other : (q : ℕ) (v : PortView Kept) → port_at after q ≡ Some v → (q ≡ port → ⊥) × (port_at w q ≡ Some v)
  there_other q v there =
      let not : q ≡ port → ⊥ = live_other q (ap is_some there) in
      (not, sym (get_removed w.ports.ports port q not) ∙ there)

  -- a port of a name is there
  named_there : (task n : ℕ) (x : Named) (p : ℕ) → entry_at w task n ≡ Some x → port_named x ≡ Some p → s.live_port p ≡ true
  named_there task n x p at named = grind (arith, target_named, settled_port, stood_if)

  dead_is : (p : ℕ) → s.live_port p ≡ true → live p ≡ false → p ≡ port
  dead_is p lives dead = grind (arith, live_is)

  -- no name has its receive right
  as_read : (task n : ℕ) (x : Named) → entry_at w task n ≡ Some x → left_target live (λ q. held s task send q) (target_of x) ≡ target_of (reading live x)
  as_read task n x at = left_as_read live (λ q. held s task send q) x (λ p named dead. (no_receive p named dead, (a.rights.references task n x p at named).1))
    where
      no_receive : (p : ℕ) → port_named x ≡ Some p → live p ≡ false → has_receive x ≡ false
      no_receive p named dead = go (has_receive x) refl
        where
          lives : s.live_port p ≡ true
          lives = named_there task n x p at named

          is_port : p ≡ port
          is_port = dead_is p lives dead

          held_here : has_receive x ≡ true → (o : Option (PortView Kept)) → port_at w p ≡ o → is_some o ≡ true → ⊥
          held_here has None there some = cc
          held_here has (Some v) there some =
              let b : v.attributes.holder ≡ holder.Task task = held_by.held task n x p at named has v there in
              let c : v.attributes.holder ≡ holder.Doomed = holder_is v (subst (λ (k : ℕ). port_at w k ≡ Some v) is_port there) in
              let d : holder.Task task ≡ holder.Doomed = sym b ∙ c in cc

          go : (b : Bool) → has_receive x ≡ b → b ≡ false
          go false is = refl
          go true is = absurd (held_here is (port_at w p) refl (a.live_port p ∙ lives))

  -- ---- counts

  abbrev queued : ℕ → ℕ
  queued q = if lives_after mid e q then onces_queued s q else (counts_of w.ledger q).destination

  abbrev queued_after : ℕ → ℕ
  queued_after q = if lives_after mid e q then onces_queued next q else (counts_of after.ledger q).destination

  counts_other : (q : ℕ) → (q ≡ port → ⊥) → counts_of after.ledger q ≡ counts_of w.ledger q
  counts_other q not = ap (λ (o : Option Counts). unwrap_or o no_rights) (get_removed w.ledger.counts port q not)

  counts_own : counts_of after.ledger port ≡ no_rights
  counts_own = ap (λ (o : Option Counts). unwrap_or o no_rights) (removed_own w.ledger.counts port)

  own_counts : CountsAgree after.ledger next.live_port next.ledger queued_after port
  own_counts = grind (arith, eq-eqb, and_false, removed_own, counts_own, none_here, of_none)

  other_counts : (q : ℕ) → (q ≡ port → ⊥) → CountsAgree after.ledger next.live_port next.ledger queued_after q
  other_counts q other = grind (arith, counts_other, ne_eqb, get_removed, count_else, of_other)

  counts : (q : ℕ) → CountsAgree after.ledger next.live_port next.ledger queued_after q
  counts q = elim (eqb_tells q port) [
    | inl h ↦ subst (CountsAgree after.ledger next.live_port next.ledger queued_after) (sym h.1) own_counts
    | inr h ↦ other_counts q h.1
  ]

  total : after.ledger.total ≡ length next.ledger
  total = grind (
    arith,
    a.counts port,
    by_kinds port s.ledger,
    parted (λ x. 1) (λ x. x.port == port) s.ledger,
    filter_weigh (λ x. 1) (λ x. x.port == port) s.ledger,
    length-weigh s.ledger,
    length-weigh next.ledger,
    a.total,
  )

  -- ---- requests

  lying_same : (r : Request) (kind : Kind) (q : ℕ) → lying_among (filter (λ x. lives_after mid e x.port) next.ledger) kind q (in_request r) ≡ lying_among (filter (λ x. lives_after mid e x.port) s.ledger) kind q (in_request r)
  lying_same r kind q =
      filter_weigh g (λ x. lives_after mid e x.port) next.ledger
      ∙ filter_weigh (λ x. if lives_after mid e x.port then g x else 0) (is_off port) s.ledger
      ∙ weigh-same (λ x. if is_off port x then (if lives_after mid e x.port then g x else 0) else 0) (λ x. if lives_after mid e x.port then g x else 0) same s.ledger
      ∙ sym (filter_weigh g (λ x. lives_after mid e x.port) s.ledger)
    where
      g : Token → ℕ
      g x = if is_of kind q x && same_place (in_request r) x.place then 1 else 0

      dead : (p : ℕ) → p ≡ port → lives_after mid e p ≡ false
      dead p is = ap (λ (b : Bool). mid.live_port p && not b) (subst (λ (k : ℕ). listed e.doomed k ≡ true) (sym is) is_doomed) ∙ and_false (mid.live_port p)

      same : (x : Token) → (if is_off port x then (if lives_after mid e x.port then g x else 0) else 0) ≡ (if lives_after mid e x.port then g x else 0)
      same x = elim (eqb_tells x.port port) [
        | inl h ↦ ap (λ (b : Bool). if not b then (if lives_after mid e x.port then g x else 0) else 0) h.0 ∙ sym (ap (λ (b : Bool). if b then g x else 0) (dead x.port h.1))
        | inr h ↦ ap (λ (b : Bool). if not b then (if lives_after mid e x.port then g x else 0) else 0) h.0
      ]

  -- ---- all together

  shows : (q : ℕ) (v : PortView Kept) → port_at after q ≡ Some v → ShowsPort v next q
  shows q v there =
      let o = there_other q v there in
      let b = a.ports q v o.1 in
      record { waiting = b.waiting; limit = b.limit; make_send = b.make_send; sequence = b.sequence; sets = b.sets ∙ sym (ap (λ (c : Bool). if c then [] else s.sets_of q) (ne_eqb q port o.0)) }

  pub buried_agrees : AgreesOf (lives_after mid e) after next
  buried_agrees = record {
    spaces = spaces_left live w.spaces s.live_task s.tasks_made s.naming w.profile s.profile s.given (λ task q. held s task send q) a.spaces as_read;
    rights = rights_left live w.spaces s.ledger next.ledger a.rights (λ task kind p lives. count_else port (is_held task kind p)
        (λ x is. ap (λ (b : Bool). b && is_in_task task x.place) (of_other kind p port (live_other p lives) x is)) s.ledger);
    live_port = live_is;
    ports_made = a.ports_made;
    ports = shows;
    counts = counts;
    total = total;
    in_sets = sets_left w.sets s.set_owner s.sets_made s.naming live (λ task q. held s task send q) a.in_sets;
    of_requests = requests_stay (notify_of w.requests) w.requests.names.went w.ports.made w.ports.made s.stands s.stands (lives_after mid e) (lives_after mid e)
        (filter (λ x. lives_after mid e x.port) s.ledger) (filter (λ x. lives_after mid e x.port) next.ledger) a.of_requests (omega arith) (λ r. refl) (λ q less. refl) lying_same;
  }

  -- ---- who holds receive rights

  lies_same : (p : ℕ) → (p ≡ port → ⊥) → (place : Place) → count (λ x. is_of receive p x && same_place place x.place) next.ledger ≡ count (λ x. is_of receive p x && same_place place x.place) s.ledger
  lies_same p not place = grind (arith, count_else, of_other)

  still_lies : (p : ℕ) → (p ≡ port → ⊥) → (place : Place) → LiesAt s receive p place → LiesAt next receive p place
  still_lies p not place lies = let same = lies_same p not place in omega (arith, same, lies)

  nobody : (destroyed : List (ℕ × ℕ)) (p : ℕ) → (p ≡ port → ⊥) → IsWithNobody s destroyed p → IsWithNobody next destroyed p
  nobody destroyed p not (inl none) = inl (count_else port (is_of receive p) (of_other receive p port not) s.ledger ∙ none)
  nobody destroyed p not (inr (q, k, lies, gone)) = inr (q, k, still_lies p not (in_message q k) lies, gone)

  pub holders_tell : (destroyed : List (ℕ × ℕ)) → HoldersTell w s destroyed → HoldersTell after next destroyed
  holders_tell destroyed h p v there = let o = there_other p v there in go o.0 v.attributes.holder (h p v o.1)
    where
      go : (p ≡ port → ⊥) → (x : Holder) → IsHolder s destroyed p x → IsHolder next destroyed p x
      go not (holder.Task task) lies = still_lies p not (in_task task) lies
      go not (holder.QueueOf q) (k, lies, kept) = (k, still_lies p not (in_message q k) lies, kept)
      go not holder.Nobody n = nobody destroyed p not n
      go not holder.Doomed n = nobody destroyed p not n

-- ---- Once all requests of a doomed port have ended, and it has left, a turn is done.

-- ---- lists

none_dropped : {A : Type 0} (n : ℕ) (xs : List A) → drop n xs ≡ [] → length xs ≤ n
none_dropped n [] is = omega arith
none_dropped zero (x ∷ xs) is = absurd (cc)
none_dropped (suc n) (x ∷ xs) is = let a = none_dropped n xs is in omega (arith, a)

no_entries : (p : ℕ) (es : List Entry) → AllKept p [] es → es ≡ []
no_entries p [] h = refl
no_entries p (x ∷ es) h = absurd h

-- what the step's own part posted at the port stands in its log
begun_posted : (now p : ℕ) (ys : Begun) (xs : Owed) → tally (λ y. y.1.0.port == p) ys ≤ length (entries_at now p (due_notices (list_map (λ y. y.1) ys ++ xs)))
begun_posted now p [] xs = omega arith
begun_posted now p (y ∷ ys) xs = grind (arith, begun_posted now p ys xs)

module _ (mid new : State) (task name : ℕ) where
  -- a name of a port was one of it before
  pub of_settled : (o : Option Target) (p : ℕ) → option_map (settled_target mid new task name) o ≡ Some (Target.once p) → o ≡ Some (Target.once p)
  of_settled None p e = absurd (cc)
  of_settled (Some (Target.port q)) p e = grind arith
  of_settled (Some (Target.once q)) p e = grind arith
  of_settled (Some (Target.dead n)) p e = absurd (cc)
  of_settled (Some (Target.set n)) p e = absurd (cc)

module _ (now : ℕ) (tables : WorldView) (old mid : State) (owed : Owed) (e : Ending) (w : WorldView) (b : Between now tables old mid owed e w) (port : ℕ) (held : IsHeldBy w.ports port holder.Doomed) where
  pub listed_now : listed e.doomed port ≡ true
  listed_now = let d = b.doomed port held.view held.there in d.0 held.holder_is

  pub there_now : b.tied.state.live_port port ≡ true
  there_now = sym (b.tied.agrees.live_port port) ∙ ap is_some held.there

  pub unburied : listed e.buried port ≡ false
  unburied = go (listed e.buried port) refl
    where
      go : (c : Bool) → listed e.buried port ≡ c → c ≡ false
      go false is = refl
      go true is = absurd (
          let f : lives_after mid (buried_alone e) port ≡ false = ap (λ (c : Bool). mid.live_port port && not c) is ∙ and_false (mid.live_port port) in
          let g : true ≡ false = sym there_now ∙ b.tied.so_far.live_port port ∙ f in cc)

  untold : listed e.told port ≡ false
  untold = false_from_ne_true (listed e.told port) (λ is. let s = reached_sound old mid owed e b.reached in (s.told port is).survives (s.doomed port listed_now))

  unsaved : listed e.saved port ≡ false
  unsaved = false_from_ne_true (listed e.saved port) (λ is. let s = reached_sound old mid owed e b.reached in dies_unsaved mid port (s.doomed port listed_now) (s.saved port is).0)

  alive : (p : ℕ) → p ≡ port → lives_after mid (buried_alone e) p ≡ true
  alive p is = subst (λ (k : ℕ). lives_after mid (buried_alone e) k ≡ true) (sym is) (sym (b.tied.so_far.live_port port) ∙ there_now)

  name_alive : (o : Option Target) → IsNameOf port o → became_dead mid (buried_alone e) o ≡ false
  name_alive None h = absurd h
  name_alive (Some (Target.port q)) h = ap not (alive q h)
  name_alive (Some (Target.once q)) h = ap not (alive q h)
  name_alive (Some (Target.dead n)) h = absurd h
  name_alive (Some (Target.set n)) h = absurd h

  unended : (r : Request) → IsRequestOf mid port r → has_ended mid (buried_alone e) r ≡ false
  unended (no_senders p) is = (λ i. not (alive p is i) || listed e.told (is i)) ∙ untold
  unended (port_destroyed p) is = (λ i. not (alive p is i) || listed e.saved (is i)) ∙ unsaved
  unended (dead_name t n) is = name_alive (lookup mid t n) is

  -- a request of the port that stood, and isn't kept any more, has ended
  pub gone_ended : (r : Request) → IsRequestOf mid port r → mid.stands r ≡ true → notify_of w.requests r ≡ None → is_among e.ended r ≡ true
  gone_ended r of stood gone = true_from_ne_false (is_among e.ended r) (λ is.
      let a : b.tied.state.stands r ≡ false = b.tied.agrees.of_requests.standing r ∙ ap is_some gone in
      let d : (if is_among e.ended r then false else (mid.stands r && not (has_ended mid (buried_alone e) r))) ≡ true = (λ i. if is i then false else (stood i && not (unended r of i))) in
      let f : true ≡ false = sym (b.tied.so_far.stands r ∙ d) ∙ a in cc)

module _ (now : ℕ) (tables : WorldView) (old mid : State) (owed : Owed) (e : Ending) (w : WorldView) (b : Between now tables old mid owed e w) (told : AreTold mid e w) (port : ℕ) (held : IsHeldBy w.ports port holder.Doomed)
    (every : (r : Request) → mid.stands r ≡ true → IsRequestOf mid port r → is_among e.ended r ≡ true) (doomed : List ℕ) where
  abbrev s : State
  s = b.tied.state

  abbrev done : Ending
  done = bury port e

  abbrev after_end : WorldView
  after_end = buried w port doomed

  abbrev lv : ℕ → Bool
  lv = live_in (without_port w.ports port doomed)

  is_listed : listed e.doomed port ≡ true
  is_listed = listed_now now tables old mid owed e w b port held

  unburied_yet : listed e.buried port ≡ false
  unburied_yet = unburied now tables old mid owed e w b port held

  is_doomed : (v : PortView Kept) → port_at w port ≡ Some v → v.attributes.holder ≡ holder.Doomed
  is_doomed v there = let d = b.doomed port v there in d.1 is_listed

  lives : (q : ℕ) → lv q ≡ (s.live_port q && not (q == port))
  lives = live_is now mid e port s b.tied.so_far w doomed b.tied.agrees is_listed b.held is_doomed

  other : (q : ℕ) → lv q ≡ true → q ≡ port → ⊥
  other = live_other now mid e port s b.tied.so_far w doomed b.tied.agrees is_listed b.held is_doomed

  there : (q : ℕ) (v : PortView Kept) → port_at after_end q ≡ Some v → (q ≡ port → ⊥) × (port_at w q ≡ Some v)
  there = there_other now mid e port s b.tied.so_far w doomed b.tied.agrees is_listed b.held is_doomed

  turn_is : Buries mid e done
  turn_is = bury_is mid e port told.lost.judged.judged is_listed unburied_yet every

  pub buried_turn : Turn old mid e done
  buried_turn = inr (inr (inr (inr (inr (inl turn_is)))))

  -- ---- requests

  ended : (r : Request) → IsRequestOf mid port r → s.stands r ≡ false
  ended = none_stands now mid e port s b.tied.so_far every

  unkept : (r : Request) → IsRequestOf mid port r → is_some (notify_of w.requests r) ≡ false
  unkept r of = sym (b.tied.agrees.of_requests.standing r) ∙ ended r of

  kept_name : (key : ℕ) (r : NameRequest) → map.get w.requests.names.requests key ≡ Some r → IsOnName w key r → is_some (notify_of w.requests (dead_name r.task r.name)) ≡ true
  kept_name key r at on = grind (arith, lt-ltb)

  -- a request on a name isn't on one of the port
  on_other : (key : ℕ) (r : NameRequest) → map.get w.requests.names.requests key ≡ Some r → (on : IsOnName w key r) → r.port ≡ port → ⊥
  on_other key r at on is = let g : true ≡ false = sym (kept_name key r at on) ∙ unkept (dead_name r.task r.name) of in cc
    where
      found : lookup s r.task r.name ≡ Some (target_of on.entry)
      found = b.tied.agrees.spaces.naming r.task r.name ∙ ap (option_map target_of) on.found

      new : State
      new = seen_for mid e.ended s.live_port r.task r.name

      of : IsNameOf port (lookup mid r.task r.name)
      of = elim (named_once on.entry r.port on.for_port) [
        | inl h ↦ (let t = settled_port mid new r.task r.name (lookup mid r.task r.name) r.port (sym (b.tied.so_far.names r.task r.name) ∙ found ∙ ap Some h) in subst (IsNameOf port) (sym t.0) is)
        | inr h ↦ (let t = of_settled mid new r.task r.name (lookup mid r.task r.name) r.port (sym (b.tied.so_far.names r.task r.name) ∙ found ∙ ap Some h) in subst (IsNameOf port) (sym t) is)
      ]

  still_live : (q : ℕ) → (q ≡ port → ⊥) → IsLive w.ports q → IsLive after_end.ports q
  still_live q not is = ap is_some (get_removed w.ports.ports port q not) ∙ is

  asked_other : (o : Option ℕ) (q : ℕ) → is_some o ≡ true → (q ≡ port → is_some o ≡ false) → q ≡ port → ⊥
  asked_other o q some none is = let g : true ≡ false = sym some ∙ none is in cc

  requested : RequestsStand after_end
  requested = record {
    on_names = λ key r at.
        let on = b.requested.on_names key r at in
        let not = on_other key r at on in
        let live = still_live r.port not on.live in
        record {
          own = on.own;
          small = on.small;
          entry = on.entry;
          found = read_at lv w.spaces r.task r.name ∙ ap (option_map (reading lv)) on.found ∙ ap Some (reads_as lv on.entry r.port on.for_port live);
          for_port = on.for_port;
          live = live;
        };
    no_senders = λ p has. still_live p (asked_other (notify_of w.requests (no_senders p)) p has (λ is. unkept (no_senders p) is)) (b.requested.no_senders p has);
    port_destroyed = λ p has. still_live p (asked_other (notify_of w.requests (port_destroyed p)) p has (λ is. unkept (port_destroyed p) is)) (b.requested.port_destroyed p has);
  }

  -- ---- holders

  held_end : HoldersAgree after_end
  held_end = record {
    held = λ task name x p at is has v is_there.
        let r = read_port lv w.spaces task name x p at (named_port x p is) in
        b.held.held task name x p r.0 is has v (there p v is_there).1;
  }

  carriers : CarriersAgree after_end
  carriers = record {
    given = λ q u m p at c carries. b.carriers.given q u m p (there q u at).1 c carries;
    carried = λ q u m p at c carries v is. b.carriers.carried q u m p (there q u at).1 c carries v (there p v is).1;
  }

  held_before : (p : ℕ) → IsHeldBy after_end.ports p holder.Nobody → IsHeldBy w.ports p holder.Nobody
  held_before p h = record { view = h.view; there = (there p h.view h.there).1; holder_is = h.holder_is }

  -- ---- the port had no message left

  port_emptied : (k : ℕ) → IsWaiting mid e (port, k) → Contains e.destroyed (port, k)
  port_emptied k waits = (let d = b.tied.so_far.destroyed port k in d.1 (
    waits.0,
    (
        let a = none_dropped (s.taken port) (s.log port) none_queued in
        let c = ap (λ (es : List Entry). length es) (b.tied.so_far.log port) in
        let d = length-append (mid.log port) (entries_at now port (due_so_far e)) in
        let f = begun_posted now port e.begun e.paid in
        let g = waits.1 in omega (arith, a, c, d, f, g)),
  ))
    where
      none_queued : queue s port ≡ []
      none_queued = no_entries port (queue s port) (subst (λ (ms : List Kept). AllKept port ms (queue s port)) (told.lost.judged.emptied port held.view held.there held.holder_is) (b.tied.agrees.ports port held.view held.there).waiting)

  emptied : (p k : ℕ) → listed done.buried p ≡ true → IsWaiting mid e (p, k) → Contains e.destroyed (p, k)
  emptied p k h waits = grind (arith, listed_cases, port_emptied)

  -- ---- all together

  fewer : (h : Token → ℕ) → weigh h done.left ≤ weigh h e.left
  fewer = takes_less e done [] turn_is.going turn_is.takes

  tied : Tied now mid done after_end
  tied = record {
    state = after_burial lv port s;
    so_far = next_so_far now old mid owed e port s b.lawful b.reached is_listed unburied_yet b.tied.so_far every lv lives;
    agrees = buried_agrees now mid e port s b.tied.so_far w doomed b.tied.agrees is_listed b.held is_doomed;
    holders = holders_tell now mid e port s b.tied.so_far w doomed b.tied.agrees is_listed b.held is_doomed e.destroyed b.tied.holders;
    slots = (let a = b.tied.slots in omega (arith, a));
    waiting = awaits_on w.ports.destroyed e done s (after_burial lv port s) refl refl fewer (λ q k x is. is) b.tied.waiting;
  }

  counts_other_end : (q : ℕ) → (q ≡ port → ⊥) → counts_of after_end.ledger q ≡ counts_of w.ledger q
  counts_other_end q not = ap (λ (o : Option Counts). unwrap_or o no_rights) (get_removed w.ledger.counts port q not)

  none_in : (p : ℕ) → Contains {X = ℕ} [] p → ⊥
  none_in p (i, below, is) = omega (arith, below)

  unnoted : (p : ℕ) → lives_after mid e p ≡ true → 0 < (counts_of tables.ledger p).send → IsSenderless after_end p → ⊥
  unnoted p alive some is =
      let not = other p is.live in
      none_in p (subst (λ (ps : List ℕ). Contains ps p) told.none_noted (b.noted p alive some (record {
        live = sym (ap is_some (get_removed w.ports.ports port p not)) ∙ is.live;
        asked = is.asked;
        none = (let a = ap (λ (c : Counts). c.send) (counts_other_end p not) in let c = is.none in sym a ∙ c);
      })))

  receivers : (p : ℕ) → (counts_of after_end.ledger p).receive ≤ 1
  receivers p = grind (arith, removed_own, counts_other_end)

  unlost : IsUnlost done b.tied.waiting.emptied
  unlost kind p q k not undoomed undestroyed =
      let test : Token → Bool = λ x. is_of kind p x && same_place (in_message q k) x.place in
      let a = b.unlost kind p q k not undoomed undestroyed in
      let g = weigh-append (λ x. if test x then 1 else 0) e.gone (filter (λ x. x.port == port) e.left) in
      let m = parted (λ x. if test x then 1 else 0) (λ x. x.port == port) e.left in
      let n = count_else port test off_port e.left in
      omega (arith, a, g, m, n)
    where
      off_port : (x : Token) → x.port ≡ port → (is_of kind p x && same_place (in_message q k) x.place) ≡ false
      off_port x is = ap (λ (c : Bool). c && same_place (in_message q k) x.place) (of_other kind p port (λ same. let g : true ≡ false = sym is_listed ∙ subst (λ (r : ℕ). listed e.doomed r ≡ false) same undoomed in cc) x is)

  pub buried_between : Between now tables old mid owed done after_end
  unfolding tied
  buried_between = record {
    lawful = b.lawful;
    reached = turns e done b.reached buried_turn;
    tied = tied;
    held = held_end;
    carriers = carriers;
    requested = requested;
    went = b.went;
    unjudged = λ p h. b.unjudged p (held_before p h);
    doomed = λ p v is. b.doomed p v (there p v is).1;
    lost = λ p h. elim (b.lost p h) [
      | inl h ↦ inl h
      | inr h ↦ lost_held p h
    ];
    emptied = emptied;
    senders = b.senders;
    noted = λ p alive some is. absurd (unnoted p alive some is);
    had = λ p c. absurd (none_in p c);
    receivers = receivers;
    unlost = unlost;
    had_senders = b.had_senders;
  }
    where
      lost_held : (p : ℕ) → IsHeldBy w.ports p holder.Nobody → (is_judged e p ≡ true) ⊎ IsHeldBy after_end.ports p holder.Nobody
      lost_held p h = elim (eqb_tells p port) [
        | inl k ↦ absurd (let a = is_doomed h.view (subst (λ (q : ℕ). port_at w q ≡ Some h.view) k.1 h.there) in let c : holder.Nobody ≡ holder.Doomed = sym h.holder_is ∙ a in cc)
        | inr k ↦ inr (record { view = h.view; there = get_removed w.ports.ports port p k.1 ∙ h.there; holder_is = h.holder_is })
      ]

  pub buried_told : AreTold mid done after_end
  buried_told = grind (arith, emptied, there)
