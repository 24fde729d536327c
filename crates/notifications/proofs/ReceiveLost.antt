-- A name lost its receive right as its task ends.
use Rattle.std.proofs.Common.{◌≡◌, ℕ, ◌<◌, ◌≤◌, Option, Some, None, refl, sym, ap, subst, ◌∙◌, arith, true, inl, inr, ◌+◌, List, [], ◌∷◌, ◌++◌, Bool, false}
use Rattle.std.specs.Prelude.{is_some, if◌then◌else◌, Contains, filter, not}
use Rattle.std.specs.Option.{option_map}
use Rattle.std.specs.FinMap as map
use Rattle.std.proofs.lemmas.Bool.{eq-eqb}
use Rattle.std.specs.Ordering.{nat_cmp}
use Rattle.std.proofs.lemmas.Bool.Decides.{eqb_tells}
use Rattle.std.proofs.lemmas.List.Elements.{Contains-append_left, Contains-append_right, Contains-append_cases, All-nil}
use Rattle.std.proofs.Math.Path.{fun_ext}
use Rattle.mach_types.specs.Tokens.{receive, send, Kind, send_once, Token, in_task, weigh, count, is_of, is_held, is_in_task}
use Rattle.mach_model.specs.State.{State, Target, at}
use Rattle.mach_model.specs.Lawful.{is_once, LawfulNames}
use Rattle.mach_model.specs.Telling.{one_if}
use Rattle.mach_model.proofs.Names.{some_tally, held_le_of, port_unnamed}
use Rattle.mach_model.specs.References.{unused_among}
use Rattle.mach_model.proofs.Copying.{other_port}
use Rattle.rights.specs.Ledger.{IsEntered, counts_of, LedgerView, taken}
use Rattle.rights.specs.declared.RightKind.TheVariants as right
use Rattle.name_space.specs.declared.Entry.{Entry}
use Rattle.name_space.specs.declared.Entry.TheVariants as entry_of
use Rattle.name_space.specs.Entry.{port_named, has_receive, send_references}
use Rattle.name_space.specs.Names.{SpaceView}
use Rattle.port.specs.Holding.{CanHold, held as port_held}
use Rattle.port.specs.Ports.{PortsView, IsLive, PortView, with_port}
use Rattle.port.specs.declared.Holder.TheVariants as by
use Rattle.copyin_base.specs.Kept.{Kept}
use Rattle.copyin_base.specs.Shows.{target_of, Agrees, Shows, HasCount, ShowsPort, HoldersAgree, CarriersAgree, RequestsStand, SlotsSuffice}
use Rattle.copyin_base.specs.Worlds.{WorldView, space_at, entry_in, entry_at, port_at, space_in}
use Rattle.copyin_base.proofs.Changing.{target_named}
use Rattle.copyin_base.proofs.Gets.{seen}
use Rattle.copyin_base.proofs.Told.{port_got}
use Rattle.copyin_base.specs.Changes.{SetsHolder}
use Rattle.copyin_base.specs.Posted.{with_posted}
use Rattle.copyin_base.proofs.Agreeing.{ports_put}
use Rattle.copyin_base.proofs.Carriers.{carriers_same, carriers_held}
use Rattle.copyin_base.proofs.Counting.{one_of, none_of_port}
use Rattle.copyin_base.proofs.Holders.{ReceivesAt, same_receives, none_receives, unheld, KeepHolders, same_holders, put_holders_left, holder_set, holders_ports}
use Rattle.copyin_base.proofs.Listed.{listed_one, none_listed}
use Rattle.copyin_base.proofs.Reading.{same_put}
use Rattle.copyin_base.proofs.Requested.{requested_removed, requested_put}
use Rattle.copyin_base.proofs.SendersNoted.{keeps_senders, sends_taken, senders_kept, senders_same}
use Rattle.copyin_base.proofs.Unused.{held_and_queued}
use Rattle.copyin_base.specs.Losing.{CanLose, CanPost}
use Rattle.notifications.proofs.Removing.{ShowsPart, IsEnding, Part, with_part, ReceiveGoes, EndsFrom}
use Rattle.notifications.proofs.TaskEnded.{shown, shown_is, looked_up, part_lives, part_once_lives, held_shown, kept_then, kept_unlike, kept_alike, none_held, part_then, is_part_then, tables_then, posted_then, taken_counts}

-- ---- What the tables must be so that a name of a task that is ending can go: they are so, since they show what is left of it.

pub entry_under : (w : WorldView) (task : ℕ) (space : SpaceView) → space_at w task ≡ Some space → (name : ℕ) → entry_at w task name ≡ map.get space.names name
entry_under w task space there name = ap (λ (o : Option SpaceView). entry_in o name) there

-- a name that is used has an entry
pub named_there : (w : WorldView) (task : ℕ) (space : SpaceView) → space_at w task ≡ Some space → (name : ℕ) → map.contains_key space.names name ≡ true → is_some (entry_at w task name) ≡ true
named_there w task space there name used = ap (λ (o : Option SpaceView). is_some (entry_in o name)) there ∙ used

-- the space in which an entry stands
pub record Stood (w : WorldView) (task name : ℕ) (e : Entry) : Type 0 where
  pub space : SpaceView
  pub there : space_at w task ≡ Some space
  pub found : map.get space.names name ≡ Some e

pub stood : (w : WorldView) (task name : ℕ) (e : Entry) → entry_at w task name ≡ Some e → Stood w task name e
stood w task name e is = elim (seen (space_at w task)) [
  | inl h ↦ record { space = h.0; there = h.1; found = sym (ap (λ (o : Option SpaceView). entry_in o name) h.1) ∙ is }
  | inr h ↦ absurd (no_entry e (sym (ap (λ (o : Option SpaceView). entry_in o name) h) ∙ is))
]
  where
    no_entry : (e : Entry) → None ≡ Some e → ⊥
    no_entry e f = cc

-- ---- what the tables show of a name

module _ (w : WorldView) (task : ℕ) (ending : IsEnding w task) where
  abbrev s : State
  s = ending.stands.state

  abbrev sh : Shows ending.start s
  sh = ending.stands.shown

  abbrev shows : ShowsPart 0 ending.start task s w
  shows = ending.ends.shows 0 s sh

  abbrev u : State
  u = shown 0 s task shows.part

  a : Agrees w u
  a = subst (Agrees w) (shown_is 0 s task shows.part) shows.agrees

  module _ (name : ℕ) (e : Entry) (found : entry_at w task name ≡ Some e) where
    target_is : map.get shows.part.names name ≡ Some (target_of e)
    target_is = sym (looked_up 0 s task shows.part sh.lawful shows.is_part name) ∙ a.naming task name ∙ ap (option_map target_of) found

    module _ (p : ℕ) (named : port_named e ≡ Some p) where
      lives : s.live_port p ≡ true
      lives = part_lives 0 s task shows.part sh.lawful shows.is_part name p (target_is ∙ ap Some (target_named e p named))

      pub port_lives : IsLive w.ports p
      port_lives = a.live_port p ∙ lives

      pub port_entered : IsEntered w.ledger p
      port_entered = (a.counts p).entered ∙ lives

      pub sends_counted : send_references e ≤ (counts_of w.ledger p).send
      sends_counted =
          let h = (a.references task name e p found named).1 in
          let c = (a.counts p).senders in
          let le = held_le_of task send p u.ledger in omega (arith, h, c, le)

      pub receives_counted : has_receive e ≡ true → 0 < (counts_of w.ledger p).receive
      receives_counted has =
          let h = (a.references task name e p found named).0 in
          let one : one_if (has_receive e) ≡ 1 = ap one_if has in
          let c = (a.counts p).receivers in
          let le = held_le_of task receive p u.ledger in omega (arith, h, one, c, le)

      pub can_lose_port : has_receive e ≡ true → CanLose w p
      can_lose_port has =
          let v = port_got (port_at w p) port_lives in record {
            v = v.0;
            there = v.1;
            held = subst CanHold (sym (shows.holders.held task name e p found named has v.0 v.1)) tt;
            entered = port_entered;
            counted = receives_counted has;
          }

  pub can_post_for : (name p : ℕ) → entry_at w task name ≡ Some (entry_of.SendOnce p) → CanPost w p
  can_post_for name p found =
      let is = target_is name (entry_of.SendOnce p) found in
      let some = some_tally (is_once p) shows.part.names name (Target.once p) is (eq-eqb p p refl) in
      let names = shows.is_part.named.once_names p in
      let paid = shows.onces p in
      record {
        live = a.live_port p ∙ part_once_lives 0 s task shows.part sh.lawful shows.is_part name p is;
        paid = omega (arith, some, names, paid);
        slots = shows.slots;
      }

-- ---- A name lost its receive right and went: the tables show what is left of the task, and the port is one more of those that are orphans.

pub receive_not_once : receive ≡ send_once → ⊥
receive_not_once e = cc

right_not_once : right.Receive ≡ right.SendOnce → ⊥
right_not_once e = cc

right_not_destination : right.Receive ≡ right.Destination → ⊥
right_not_destination e = cc

right_not_send : right.Receive ≡ right.Send → ⊥
right_not_send e = cc

no_entry : (e : Entry) → None ≡ Some e → ⊥
no_entry e f = cc

no_target : (t : Target) → None ≡ Some t → ⊥
no_target t f = cc

not_task : (task q : ℕ) → by.Task task ≡ by.QueueOf q → ⊥
not_task task q e = cc

module _ (now : ℕ) (start : WorldView) (task : ℕ) (s : State) (sh : Shows start s) (w : WorldView) (sp : ShowsPart now start task s w)
    (name p : ℕ) (found : entry_at w task name ≡ Some (entry_of.Receive p)) (v : WorldView) (r : ReceiveGoes w task name p v) where
  abbrev x : Part
  x = sp.part

  a_lost : Agrees w (shown now s task x)
  a_lost = subst (Agrees w) (shown_is now s task x) sp.agrees

  held_before : (count (is_held task receive p) x.kept ≡ 1) × (count (is_held task send p) x.kept ≡ 0)
  held_before =
      let h = a_lost.references task name (entry_of.Receive p) p found refl in
      (sym (held_shown now s task x task receive p) ∙ h.0, sym (held_shown now s task x task send p) ∙ h.1)

  target : map.get x.names name ≡ Some (Target.port p)
  target = sym (looked_up now s task x sh.lawful sp.is_part name) ∙ a_lost.naming task name ∙ ap (option_map target_of) found

  live : s.live_port p ≡ true
  live = part_lives now s task x sh.lawful sp.is_part name p target

  abbrev kept : List Token
  kept = kept_then now s task x sh.lawful sp.is_part receive receive_not_once p

  unlike : (h : Token → ℕ) → h (record { kind = receive; port = p; place = in_task task }) ≡ 0 → weigh h kept ≡ weigh h x.kept
  unlike = kept_unlike now s task x sh.lawful sp.is_part receive receive_not_once p

  far : (kind : Kind) (q : ℕ) → (q ≡ p → ⊥) → count (is_held task kind q) kept ≡ count (is_held task kind q) x.kept
  far kind q not = unlike (λ y. if is_held task kind q y then 1 else 0) (other_port task task kind receive q p not)

  -- each other port's receive right stays, and the port has none
  receives_other : (q : ℕ) → (q ≡ p → ⊥) → count (is_of receive q) kept ≡ count (is_of receive q) x.kept
  receives_other q not = unlike (λ y. if is_of receive q y then 1 else 0) (none_of_port receive receive p q (in_task task) not)

  receives_fewer : count (is_of receive p) kept + 1 ≡ count (is_of receive p) x.kept
  receives_fewer = grind (arith, kept_alike, receive_not_once, one_of, held_before)

  no_receive : count (is_of receive p) kept ≡ 0
  no_receive = grind (arith, live, receives_fewer)

  -- ---- the tables

  abbrev space : SpaceView
  space = r.puts.space

  at_name : map.get space.names name ≡ Some (entry_of.Receive p)
  at_name = sym (ap (λ (o : Option SpaceView). entry_in o name) r.puts.there) ∙ found

  abbrev vp : PortView Kept
  vp = r.loses.v

  there : port_at w p ≡ Some vp
  there = sym (ap (λ (y : WorldView). port_at y p) r.puts.rest) ∙ r.loses.there

  abbrev lost_ports : PortsView Kept
  lost_ports = record (with_port w.ports p (port_held vp by.Nobody)) { lost = w.ports.lost ++ p ∷ [] }

  ports_show : (q : ℕ) (y : PortView Kept) → map.get lost_ports.ports q ≡ Some y → ShowsPort y (shown now s task x) q
  ports_show = ports_put w.ports.ports p (port_held vp by.Nobody) (shown now s task x)
      (let b = a_lost.ports p vp there in record { waiting = b.waiting; limit = b.limit; make_send = b.make_send; sequence = b.sequence; sets = b.sets })
      (λ q y not is. a_lost.ports q y is)

  own_left : (e : Entry) → None ≡ Some e → HasCount e × (port_named e ≡ Some p) × (count (is_held task receive p) kept ≡ one_if (has_receive e)) × (count (is_held task send p) kept ≡ send_references e)
  own_left e is_e = absurd (no_entry e is_e)

  abbrev tables : WorldView
  tables = tables_then now s task x sh.lawful sp.is_part receive receive_not_once p name None w a_lost sp.requested space r.puts.there (entry_of.Receive p) at_name refl lost_ports refl
      (same_put w.ports p vp (port_held vp by.Nobody) there) ports_show own_left

  tables_are : v ≡ tables
  tables_are = grind (arith, held_before)

  abbrev part : Part
  part = part_then now s task x sh.lawful sp.is_part receive receive_not_once p name None

  posted : Agrees v (with_posted now (with_part s task part) (unused_among part.gone))
  posted = subst (λ (y : WorldView). Agrees y (with_posted now (with_part s task part) (unused_among part.gone))) (sym tables_are)
      (posted_then now s task x sh.lawful sp.is_part receive receive_not_once p name None w a_lost sp.requested space r.puts.there (entry_of.Receive p) at_name refl lost_ports refl
      (same_put w.ports p vp (port_held vp by.Nobody) there) ports_show own_left)

  lawful : LawfulNames (map.remove x.names name) (λ kind q. count (is_held task kind q) kept)
  lawful = port_unnamed x.names (λ kind q. count (is_held task kind q) x.kept) (λ kind q. count (is_held task kind q) kept) sp.is_part.named p far
      (unlike (λ y. if is_held task send_once p y then 1 else 0) refl) name target
      (let b = held_before.1 in
      let u = unlike (λ y. if is_held task send p y then 1 else 0) refl in
      let z = none_held now s task x sh.lawful sp.is_part receive receive_not_once p in omega (arith, b, u, z))

  -- ---- who holds it, and what is queued

  -- no task has it now
  none_has : (u : ℕ) → ReceivesAt v u p → ⊥
  none_has u = unheld v (shown now s task part) (subst (Agrees v) (shown_is now s task part) posted) u p
      (let h = held_shown now s task part u receive p in let le = held_le_of u receive p kept in let z = no_receive in omega (arith, h, le, z))

  -- the tables where the name is gone, and nobody holds it
  abbrev unheld_tables : WorldView
  unheld_tables = record r.named { ports = with_port r.named.ports p (port_held vp by.Nobody) }

  sets_holder : SetsHolder r.named p by.Nobody unheld_tables
  sets_holder = record { v = vp; there = r.loses.there; rest = refl }

  spaces_same : v.spaces ≡ r.named.spaces
  spaces_same = ap (λ (y : WorldView). y.spaces) r.loses.rest

  ports_same : v.ports.ports ≡ unheld_tables.ports.ports
  ports_same = ap (λ (y : WorldView). y.ports.ports) r.loses.rest

  holders_named : HoldersAgree r.named
  holders_named = put_holders_left w r.named sp.holders task name None r.puts (λ q i. absurd (none_receives q i))

  holders : HoldersAgree v
  holders = holders_ports unheld_tables v
      (holder_set r.named unheld_tables holders_named p by.Nobody sets_holder
      (λ u h. absurd (none_has u (same_receives (λ n. entry_at v u n) (λ n. entry_at r.named u n) (λ n. ap (λ ys. entry_in (space_in ys u) n) (sym spaces_same)) p h))))
      spaces_same (subst (λ (m : map.FinMap nat_cmp (PortView Kept)). KeepHolders unheld_tables.ports.ports m) (sym ports_same) (same_holders unheld_tables.ports.ports))

  carriers_named : CarriersAgree r.named
  carriers_named = carriers_same w r.named sp.carriers (ap (λ (y : WorldView). y.ports.made) r.puts.rest) (ap (λ (y : WorldView). y.ports.ports) r.puts.rest)

  held_by_task : vp.attributes.holder ≡ by.Task task
  held_by_task = sp.holders.held task name (entry_of.Receive p) p found refl refl vp there

  carriers : CarriersAgree v
  carriers = carriers_same unheld_tables v
      (carriers_held r.named unheld_tables carriers_named p by.Nobody sets_holder
      (λ q c. absurd (not_task task q (sym held_by_task ∙ carriers_named.carried q c.u c.message p c.there c.queued c.carries vp r.loses.there))))
      (ap (λ (y : WorldView). y.ports.made) r.loses.rest) ports_same

  requested : RequestsStand v
  requested = requested_put r.named v (requested_removed w r.named sp.requested task name r.puts) p (port_held vp by.Nobody) ports_same
      (ap (λ (y : WorldView). y.requests) r.loses.rest) spaces_same

  ledger_is : v.ledger ≡ taken w.ledger p right.Receive 1
  ledger_is = ap (λ (y : WorldView). y.ledger) r.loses.rest ∙ ap (λ (y : WorldView). taken y.ledger p right.Receive 1) r.puts.rest

  lost_is : v.ports.lost ≡ w.ports.lost ++ p ∷ []
  lost_is = ap (λ (y : WorldView). y.ports.lost) tables_are

  pub receive_lost : ShowsPart now start task s v
  receive_lost = record {
    part = part;
    is_part = is_part_then now s task x sh.lawful sp.is_part receive receive_not_once p name None lawful (λ t e. absurd (no_target t e));
    agrees = posted;
    holders = holders;
    carriers = carriers;
    slots = subst SlotsSuffice (sym tables_are) (let q = sp.slots in omega (arith, q));
    requested = requested;
    notes = senders_kept start w v sp.notes (keeps_senders w v sp.requested
        (ap (λ (y : WorldView). y.requests.no_senders) tables_are)
        (subst (λ (l : LedgerView). (q : ℕ) → (counts_of l q).send ≡ 0 → (counts_of w.ledger q).send ≡ 0) (sym ledger_is) (sends_taken w.ledger p right.Receive 1 right_not_send))
        (ap (λ (y : WorldView). y.ports.noted) tables_are));
    left = record {
      doomed = ap (λ (y : WorldView). y.ports.doomed) tables_are ∙ sp.left.doomed;
      destroyed = ap (λ (y : WorldView). y.ports.destroyed) tables_are ∙ sp.left.destroyed;
      lost = λ q c. elim (Contains-append_cases w.ports.lost (p ∷ []) q (subst (λ (ys : List ℕ). Contains ys q) lost_is c)) [
        | inl h ↦ was_lost q h
        | inr h ↦ let same = listed_one p q h in (ap s.live_port same ∙ live, ap (λ (k : ℕ). count (is_of receive k) kept) same ∙ no_receive)
      ];
      orphans = λ q o. subst (λ (ys : List ℕ). Contains ys q) (sym lost_is) (elim (eqb_tells q p) [
        | inl h ↦ Contains-append_right w.ports.lost (p ∷ []) q (0, omega arith, sym h.1)
        | inr h ↦ Contains-append_left w.ports.lost (p ∷ []) q (sp.left.orphans q (o.0, sym (receives_other q h.1) ∙ o.1))
      ]);
    };
    sends = λ q.
        let c = (taken_counts w.ledger p right.Receive 1 q right_not_once right_not_destination).0 in
        let b = sp.sends q in
        let same : (counts_of v.ledger q).send ≡ (counts_of (taken w.ledger p right.Receive 1) q).send = ap (λ (l : LedgerView). (counts_of l q).send) ledger_is in omega (arith, c, b, same);
    onces = λ q.
        let c = (taken_counts w.ledger p right.Receive 1 q right_not_once right_not_destination).1 in
        let b = sp.onces q in
        let k = unlike (λ y. if is_held task send_once q y then 1 else 0) refl in
        let same : (counts_of v.ledger q).send_once ≡ (counts_of (taken w.ledger p right.Receive 1) q).send_once = ap (λ (l : LedgerView). (counts_of l q).send_once) ledger_is in omega (arith, c, b, k, same);
  }
    where
      was_lost : (q : ℕ) → Contains w.ports.lost q → (s.live_port q ≡ true) × (count (is_of receive q) kept ≡ 0)
      was_lost q c = let o = sp.left.lost q c in elim (eqb_tells q p) [
        | inl h ↦ (o.0, ap (λ (k : ℕ). count (is_of receive k) kept) h.1 ∙ no_receive)
        | inr h ↦ (o.0, receives_other q h.1 ∙ o.1)
      ]

-- ---- Before a task ends all of it is left.

all_stay : (xs : List ℕ) → filter (λ k. not false) xs ≡ xs
all_stay [] = refl
all_stay (x ∷ xs) = ap (λ (ys : List ℕ). x ∷ ys) (all_stay xs)

module _ (task : ℕ) (s : State) where
  abbrev whole : Part
  whole = record { names = s.naming task; stands = s.stands; disbanded = λ set. false; gone = []; kept = s.ledger }

  naming_is : at s.naming task (s.naming task) ≡ s.naming
  naming_is = fun_ext (λ q. elim (eqb_tells q task) [
    | inl h ↦ rw h.0 (ap s.naming (sym h.1))
    | inr h ↦ rw h.0 refl
  ])

  sets_are : ◌≡◌ {A = ℕ → List ℕ} (λ (p : ℕ). filter (λ k. not false) (s.sets_of p)) s.sets_of
  sets_are = fun_ext (λ p. all_stay (s.sets_of p))

  whole_is : with_part s task whole ≡ s
  whole_is = λ i. record s { naming = naming_is i; sets_of = sets_are i }

module _ (now : ℕ) (start : WorldView) (task : ℕ) (s : State) (sh : Shows start s) where
  onces : (p : ℕ) (b : Bool) → s.live_port p ≡ b → count (is_held task send_once p) s.ledger ≤ (counts_of start.ledger p).send_once
  onces p true live =
      let h = held_and_queued s sh.lawful p live task in
      let c = sh.agrees.counts p in
      let r = c.once_rights in
      let d = c.destinations live in omega (arith, h, r, d)
  onces p false dead = let z = sh.lawful.no_rights p dead send_once in let le = held_le_of task send_once p s.ledger in omega (arith, z, le)

  not_orphan : (p : ℕ) → (s.live_port p ≡ true) × (count (is_of receive p) s.ledger ≡ 0) → ⊥
  not_orphan p o = let one = sh.lawful.one_receive p o.0 in let none = o.1 in omega (arith, one, none)

  pub starts : ShowsPart now start task s start
  starts = record {
    part = whole task s;
    is_part = record {
      fewer = λ n t e. e;
      named = sh.lawful.naming task;
      stood = λ r. inl refl;
      owned = λ set e. absurd (let f : false ≡ true = e in cc);
      moves = λ h. omega arith;
      own = All-nil (λ y. is_in_task task y.place ≡ true);
    };
    agrees = subst (Agrees start) (sym (whole_is task s)) sh.agrees;
    holders = sh.holders;
    carriers = sh.carriers;
    slots = sh.slots;
    requested = sh.requested;
    notes = senders_same start sh.idle.noted;
    left = record {
      doomed = sh.idle.none_lost.doomed;
      destroyed = sh.idle.none_lost.destroyed;
      lost = λ p c. absurd (none_listed start.ports.lost sh.idle.none_lost.lost p c);
      orphans = λ p o. absurd (not_orphan p o);
    };
    sends = λ p. omega arith;
    onces = λ p. onces p (s.live_port p) refl;
  }

pub ends_first : (start : WorldView) (task : ℕ) → EndsFrom start task start
ends_first start task = record { shows = λ now s sh. starts now start task s sh }
