-- A request is carried out.
use Rattle.std.proofs.Common.{◌≡◌, ℕ, ◌+◌, ◌<◌, ◌≤◌, Option, Some, None, refl, sym, ap, subst, ◌∙◌, arith, true, zero, suc, ◌^◌, List, Bool, false, ◌≢◌, [], inr, length, ◌∷◌, inl}
use Rattle.std.specs.Prelude.{is_some, max, min, if◌then◌else◌, ◌&&◌, ◌==◌}
use Rattle.std.specs.FinMap as map
use Rattle.std.proofs.lemmas.Bool.{eqb-true, eq-eqb}
use Rattle.std.specs.Option.{option_map}
use Rattle.mach_types.specs.Numbers.{most_references}
use Rattle.mach_types.specs.Codes.{kern_number}
use Rattle.mach_types.specs.Tokens.{Kind, receive, send, send_once, is_held, Request, in_message, in_request, Token, token, weigh, is_of, dead_name, no_senders, port_destroyed}
use Rattle.mach_types.specs.declared.calls.Reply.{Reply}
use Rattle.mach_types.specs.declared.codes.KernReturn.TheVariants.{NoSpace}
use Rattle.mach_types.specs.Guards.{FirstIs}
use Rattle.mach_model.specs.State.{State, same_request, request_at, Target, lookup, with_name}
use Rattle.mach_model.specs.Death.{same_place}
use Rattle.mach_model.specs.Carried.{lying_among, lying}
use Rattle.mach_model.proofs.Settling.{request_refl}
use Rattle.mach_model.proofs.Names.{length-weigh, at_own, at_other, some_tally, held_le_of}
use Rattle.mach_model.specs.Requests.{HasNoSenders}
use Rattle.mach_model.proofs.Moving.{IsMoving}
use Rattle.mach_model.specs.Notices.{Owed, name_died}
use Rattle.mach_model.specs.Lawful.{is_once}
use Rattle.rights.specs.Ledger.{counts_of}
use Rattle.name_space.specs.declared.Entry.TheVariants as entry
use Rattle.name_space.specs.Names.{SpaceView}
use Rattle.name_space.specs.declared.Entry.{Entry}
use Rattle.name_space.specs.Entry.{port_named, port_of, receive_named}
use Rattle.port.specs.Ports.{PortsView, IsLive}
use Rattle.request_table.specs.declared.Request.{Request as NameRequest}
use Rattle.request_table.specs.Requests.{name_key, key_of}
use Rattle.copyin_base.specs.Kept.{Kept}
use Rattle.copyin_base.specs.Changes.{SameButRoom, with_slots, CanPutLeft, PutsLeft}
use Rattle.request_table.specs.Tables.{RequestTablesView}
use Rattle.copyin_base.specs.Requests.{notify_of, rights_kept, rights_went, RequestsAgree}
use Rattle.copyin_base.specs.Wanted.{room_of}
use Rattle.copyin_base.specs.Worlds.{WorldView, entry_in, entry_at, space_at, HasTask}
use Rattle.copyin_base.specs.declared.Notice.TheVariants as notice
use Rattle.copyin_base.specs.Shows.{Agrees, SlotsSuffice, RequestsStand, Shows, HasCount, target_of}
use Rattle.copyin_base.proofs.Acting.{Leaves-so, done_leaving}
use Rattle.copyin_base.proofs.Changing.{changed_agrees}
use Rattle.copyin_base.specs.Posted.{with_notice}
use Rattle.copyin_base.proofs.SendersNoted.{sends_shifted}
use Rattle.copyin_base.proofs.Taking.{Without, take_lying}
use Rattle.copyin_base.proofs.Told.{found, port_there}
use Rattle.copyin_base.proofs.Gets.{same_found}
use Rattle.copyin_base.proofs.Carriers.{carriers_same}
use Rattle.copyin_base.proofs.Holders.{no_receive, put_holders_left}
use Rattle.copyin_base.proofs.Idle.{none_lost_left}
use Rattle.copyin_base.proofs.Requested.{requested_replaced}
use Rattle.copyin_base.specs.Serving.{Completes, Declines}
use Rattle.copyin_base.specs.Stands.{Stands}
use Rattle.copyout.proofs.GivenAll.{AreSound}
use Rattle.notifications.specs.declared.request.Paying.{Paying}
use Rattle.notifications.specs.declared.request.Subject.{Subject}
use Rattle.notifications.specs.declared.request.Subject.TheVariants.{Receive, Senders, Live, Dead}
use Rattle.notifications.specs.Room.{made_by, place_for, HasPlace, with_rooms, SameButRooms, HasNameRoom, Readies}
use Rattle.copyin_base.specs.Losing.{Posts}
use Rattle.notifications.specs.Putting.{TellsDead, with_kept, KeepsNew, Ends, Goes, without, IsTold, Puts, CanEnd, CanRenew, Renews, CanCarryOut, CarriesOut}
use Rattle.notifications.specs.Requesting.{request_of, MayRequest, entry_left, variant_number, IsMisasked, Pays, IsSubject, subject_guards, previous_in, LacksSpace}
use Rattle.notifications.proofs.Away.{AreOthers, IsKept, agree_at, ended_others, kept_own, kept_other, kept_went, away_own, away_went}
use Rattle.notifications.proofs.RequestBegun.{requests_changed, Begun}
use Rattle.notifications.specs.declared.request.Asked.{Asked}
use Rattle.notifications.proofs.RightBack.{Back}
use Rattle.notifications.proofs.RequestJudged.{leaves, small, e_ready as e, begun_ready as begun, bk, alive, can_post, can_put, event_of, allowed, unfit, full}
use Rattle.notifications.proofs.RequestRenewed.{requests, told_so}
use Rattle.notifications.proofs.Standing.{still_sound, kept_stand}
use Rattle.notifications.proofs.NoticePosted.{told_agrees}
use Rattle.notifications.proofs.Told.{told_sound}
use Rattle.notifications.proofs.RequestJudged as judged
use Rattle.notifications.specs.declared.request.Variant.{Variant}

-- ---- Room that was made, one kind after the other: the tables are as before but for it, and there is enough.

rooms_made : (w v : WorldView) → SameButRoom w v → SameButRooms w v
rooms_made w v same = record { spare = w.ports.spare; names = w.requests.names.room; senders = w.requests.no_senders.room; destroyed = w.requests.port_destroyed.room; more = omega arith; same = same }

-- ---- room for a request

placed_rooms : (r : RequestTablesView) (subject : Subject) (paying : Option Paying) →
    place_for r subject paying ≡ with_rooms r (place_for r subject paying).names.room (place_for r subject paying).no_senders.room (place_for r subject paying).port_destroyed.room
placed_rooms r subject None = refl
placed_rooms r (Receive p) (Some g) = refl
placed_rooms r (Senders p) (Some g) = refl
placed_rooms r (Live p) (Some g) = refl
placed_rooms r (Dead n) (Some g) = refl

has_placed : (r : RequestTablesView) (subject : Subject) (paying : Option Paying) → is_some paying ≡ true → HasPlace (place_for r subject paying) subject
has_placed r subject None some = absurd (cc)
has_placed r (Receive p) (Some g) some = omega arith
has_placed r (Senders p) (Some g) some = omega arith
has_placed r (Live p) (Some g) some = omega arith
has_placed r (Dead n) (Some g) some = tt

module _ (w v : WorldView) (s : SameButRooms w v) where
  -- room for a request was made
  with_placed : (subject : Subject) (paying : Option Paying) → SameButRooms w (record v { requests = place_for v.requests subject paying })
  with_placed subject paying =
      let r = place_for v.requests subject paying in
      record {
        spare = s.spare;
        names = r.names.room;
        senders = r.no_senders.room;
        destroyed = r.port_destroyed.room;
        more = s.more;
        same = record {
          naming = record {
            tasks = s.same.tasks;
            names = s.same.names;
            ports = s.same.ports;
            ledger = s.same.ledger;
            sets = s.same.sets;
            requests = placed_rooms v.requests subject paying ∙ ap (λ (x : RequestTablesView). with_rooms x r.names.room r.no_senders.room r.port_destroyed.room) s.same.requests;
            profile = s.same.profile;
          };
          given = s.same.given;
        };
      }

  -- slots were made
  with_more : (n : ℕ) → v.ports.spare ≤ n → SameButRooms w (with_slots v n)
  with_more n more = record {
    spare = n;
    names = s.names;
    senders = s.senders;
    destroyed = s.destroyed;
    more = (let a = s.more in let b : v.ports.spare ≡ s.spare = ap (λ (p : PortsView Kept). p.spare) s.same.ports in omega (arith, a, b, more));
    same = record {
      naming = record {
        tasks = s.same.tasks;
        names = s.same.names;
        ports = ap (λ (p : PortsView Kept). record p { spare = n }) s.same.ports;
        ledger = s.same.ledger;
        sets = s.same.sets;
        requests = s.same.requests;
        profile = s.same.profile;
      };
      given = s.same.given;
    };
  }

module _ (old mid placed new : WorldView) (task : ℕ) (subject : Subject) (paying : Option Paying) (previous : Option ℕ) (name : HasNameRoom old task previous mid)
    (place : placed ≡ record mid { requests = place_for mid.requests subject paying }) where
  rooms_then : SameButRooms old placed
  rooms_then = subst (SameButRooms old) (sym place) (with_placed old mid (rooms_made old mid name.same) subject paying)

  -- no slot was made
  pub reserved_some : new ≡ placed → SameButRooms old new
  reserved_some same = subst (SameButRooms old) (sym same) rooms_then

  pub reserved : new ≡ with_slots placed (max placed.ports.spare (placed.ledger.unused + made_by paying)) → Readies old task subject paying previous new
  reserved slots = record {
    same = subst (SameButRooms old) (sym slots) (with_more old placed rooms_then (max placed.ports.spare (placed.ledger.unused + made_by paying)) (omega arith));
    room = λ out. subst (λ (x : WorldView). 0 < room_of x task) (sym slots) (subst (λ (x : WorldView). 0 < room_of x task) (sym place) (name.room out));
    place = λ some. subst (λ (x : WorldView). HasPlace x.requests subject) (sym slots) (subst (λ (x : WorldView). HasPlace x.requests subject) (sym place) (has_placed mid.requests subject paying some));
    slots = subst (λ (x : WorldView). x.ledger.unused + made_by paying ≤ x.ports.spare) (sym slots) (omega arith);
  }

-- ---- A dead name has a reference more, and that it died is told.

pub can_tell : (w : WorldView) (task name n m : ℕ) → entry_at w task name ≡ Some (entry.DeadName n) → CanPutLeft w task name (Some (entry.DeadName m))
can_tell w task name n m is =
    let x = there (space_at w task) is in
    record {
      space = x.0;
      there = x.1;
      used = ap is_some x.2;
      same = λ port e. (let f : None ≡ Some port = e in cc);
      lives = λ port e. (let f : None ≡ Some port = e in cc);
    }
  where
    there : (o : Option SpaceView) → entry_in o name ≡ Some (entry.DeadName n) → (space : SpaceView) × (o ≡ Some space) × (map.get space.names name ≡ Some (entry.DeadName n))
    there (Some space) is = (space, refl, is)
    there None is = absurd (let f : None ≡ Some (entry.DeadName n) = is in cc)

pub tells : (old mid new : WorldView) (task name n more notify : ℕ) → more ≡ min (n + 1) most_references → n < most_references → PutsLeft old task name (Some (entry.DeadName more)) mid →
    Posts mid notify (notice.DeadName name) new → TellsDead old task name n notify new
tells old mid new task name n more notify is few puts posts =
    let one : more ≡ n + 1 = omega (arith, is, few) in
    record { mid = mid; more = subst (λ (x : ℕ). PutsLeft old task name (Some (entry.DeadName x)) mid) one puts; posts = posts }

-- ---- A request is renewed: the right that pays is kept, or used at once.

module _ (out : WorldView) (t : State) (a : Agrees out t) (task name : ℕ) (small : name < 2 ^ 32) (subject : Subject) (p : ℕ) (k : ℕ) (live : t.live_port p ≡ true)
    (none : (kind : Kind) (n : ℕ) → lying_among t.ledger kind n (in_request (request_of task name subject)) ≡ 0)
    (unwent : (kind : Kind) (n : ℕ) → rights_went t.live_port out.requests.names.went (request_of task name subject) kind n ≡ 0)
    (tokens : List Token) (moves : (h : Token → ℕ) → weigh h tokens + h (token send_once p (in_message 0 k)) ≡ weigh h t.ledger + h (token send_once p (in_request (request_of task name subject)))) where
  abbrev r : Request
  r = request_of task name subject

  -- The request is kept, with the right that pays.
  pub kept_agrees : IsKept out.requests task name small subject → p < out.ports.made → AreOthers r out.requests.names.went → Agrees (record out { requests = with_kept out.requests task name subject p }) (record t { stands = request_at t.stands r true; ledger = tokens })
  kept_agrees kept made apart_from = requests_changed out t (with_kept out.requests task name subject p) tokens (request_at t.stands r true) a
      (record {
        counts = λ kind q. (let m = moves (λ x. if is_of kind q x then 1 else 0) in omega (arith, m));
        held = λ u kind q _. (let m = moves (λ x. if is_held u kind q x then 1 else 0) in omega (arith, m));
        total = (let m = moves (λ x. 1) in let b = length-weigh t.ledger in let c = length-weigh tokens in omega (arith, m, b, c));
      })
      (subst (λ xs. RequestsAgree (notify_of (with_kept out.requests task name subject p)) xs out.ports.made (request_at t.stands r true) t.live_port tokens) (sym (kept_went out.requests task name small subject p))
      (agree_at (notify_of out.requests) (notify_of (with_kept out.requests task name subject p)) r (Some p) true out.requests.names.went out.ports.made t.stands t.live_port t.ledger tokens a.of_requests
      (kept_own out.requests task name small subject p kept) (kept_other out.requests task name small subject p) refl own others (λ q e. of_made q e) (ended_others t.stands r true out.requests.names.went apart_from a.of_requests.ended_went)))
    where
      of_made : (q : ℕ) → Some p ≡ Some q → q < out.ports.made
      of_made q e = let f : p ≡ q = cc in subst (λ (x : ℕ). x < out.ports.made) f made

      one : (kind : Kind) (n : ℕ) → (if is_of kind n (token send_once p (in_request r)) && same_request r r then suc zero else zero) ≡ rights_kept t.live_port (Some p) kind n
      one receive n = refl
      one send n = refl
      one send_once n = rw (request_refl r) (by (p == n) refl)
        where
          by : (b : Bool) → (p == n) ≡ b → (if b && true then suc zero else zero) ≡ (if b && t.live_port n then 1 else 0)
          by true e = (let same = eqb-true p n e in let l : t.live_port n ≡ true = subst (λ (x : ℕ). t.live_port x ≡ true) same live in rw l refl)
          by false e = refl

      own : (kind : Kind) (n : ℕ) → lying_among tokens kind n (in_request r) ≡ rights_kept t.live_port (Some p) kind n + rights_went t.live_port out.requests.names.went r kind n
      own kind n =
          let m = moves (λ x. if is_of kind n x && same_place (in_request r) x.place then 1 else 0) in
          let x = apart (is_of kind n (token send_once p (in_message 0 k))) in
          let y = one kind n in
          let z = none kind n in
          let u = unwent kind n in omega (arith, m, x, y, z, u)
        where
          apart : (b : Bool) → (if b && false then suc zero else zero) ≡ zero
          apart true = refl
          apart false = refl

      others : (x : Request) → same_request x r ≡ false → (kind : Kind) (n : ℕ) → lying_among tokens kind n (in_request x) ≡ lying_among t.ledger kind n (in_request x)
      others x e kind n =
          let m = moves (λ y. if is_of kind n y && same_place (in_request x) y.place then 1 else 0) in
          let y = apart (is_of kind n (token send_once p (in_message 0 k))) false refl in
          let z = apart (is_of kind n (token send_once p (in_request r))) (same_request x r) e in omega (arith, m, y, z)
        where
          apart : (b c : Bool) → c ≡ false → (if b && c then suc zero else zero) ≡ zero
          apart true false e = refl
          apart false c e = refl
          apart true true e = absurd (cc)

-- ---- A request that is kept: the tables agree with the state midway.

module _ (w : WorldView) (task name : ℕ) (asked : Asked) (g : Paying) (subject : Subject) (previous : Option ℕ) (below : HasTask w task) (may : MayRequest w task name asked (Some g) subject previous)
    (ready : WorldView) (rdy : Readies w task subject (Some g) previous ready) (s : State) (sh : Shows w s) (mid : WorldView) (c : Goes ready task g mid) (word : ℕ) (out : WorldView)
    (ends : Ends mid task name subject previous word out) where
  abbrev r_keeping : Request
  r_keeping = request_of task name subject

  abbrev b : Begun w s task name subject previous (Some g) mid
  b = begun w task name asked g subject previous below may ready rdy s sh mid c

  abbrev it : Back s b.t b.C b.X b.Y (length (s.log 0)) task r_keeping (without mid task name subject) word out
  it = bk w task name asked g subject previous below may ready rdy s sh mid c word out ends

  abbrev t3 : State
  t3 = it.t3

  pub few : name < 2 ^ 32
  few = let x = e w task name asked g subject previous below may ready rdy in small w s sh task name subject previous may.stood below (Some g) mid b x.0 x.1 may.space

  own_key : (x : NameRequest) → map.get mid.requests.names.requests (name_key task name) ≡ Some x → key_of x ≡ name_key task name
  own_key x is = (b.sound.requested.on_names (name_key task name) x is).own

  unwent : (kind : Kind) (n : ℕ) → rights_went t3.live_port out.requests.names.went r_keeping kind n ≡ 0
  unwent kind n =
      (λ i. rights_went (it.live i) ((ap (λ (v : RequestTablesView). v.names.went) it.requests ∙ away_went mid.requests task name few own_key subject) i) r_keeping kind n) ∙ b.unwent kind n

  apart : AreOthers r_keeping out.requests.names.went
  apart = subst (λ (xs : List NameRequest). AreOthers r_keeping xs) (sym (ap (λ (v : RequestTablesView). v.names.went) it.requests ∙ away_went mid.requests task name few own_key subject)) b.others

  none : (kind : Kind) (n : ℕ) → lying_among t3.ledger kind n (in_request r_keeping) ≡ 0
  none kind n =
      let a = it.agrees.kept r_keeping kind n in
      let z = unwent kind n in
      let d : notify_of out.requests r_keeping ≡ None = ap (λ (v : RequestTablesView). notify_of v r_keeping) it.requests ∙ away_own mid.requests task name few own_key subject in
      let f : rights_kept t3.live_port (notify_of out.requests r_keeping) kind n ≡ 0 = ap (λ (o : Option ℕ). rights_kept t3.live_port o kind n) d in
      omega (arith, a, z, f)

  pub port_lives : t3.live_port g.port ≡ true
  port_lives = ap (λ (f : ℕ → Bool). f g.port) it.live ∙ sym (b.agrees.live_port g.port) ∙ alive w task name asked g subject previous below may ready rdy s sh mid c word out ends

  module _ (kept : IsKept out.requests task name few subject) (made : g.port < out.ports.made) (stand : RequestsStand (record out { requests = with_kept out.requests task name subject g.port }))
      (unsent : ¬ (HasNoSenders it.back r_keeping asked.sync)) (alone : (n : ℕ) → r_keeping ≡ dead_name task name → lookup it.back task name ≢ Some (Target.dead n))
      (new : WorldView) (keeps : KeepsNew out task name subject g.port new) (slots : SlotsSuffice new) where
    abbrev after : State
    after = record it.back { stands = request_at it.back.stands r_keeping true }

    pub kept_so : (now : ℕ) → Leaves-so w (event_of task name asked) (Reply.Previous word) new now s
    kept_so now =
        let a : Agrees (record out { requests = with_kept out.requests task name subject g.port }) (record t3 { stands = request_at t3.stands r_keeping true; ledger = it.back.ledger }) =
        kept_agrees out t3 it.agrees task name few subject g.port (length (s.log 0)) port_lives none unwent it.back.ledger (λ h. it.rights h) kept made apart in
        let same : after ≡ record t3 { stands = request_at t3.stands r_keeping true; ledger = it.back.ledger } = ap (λ (z : State). record z { stands = request_at z.stands r_keeping true }) it.rest in
        leaves w s task name subject previous (Some g) mid b word out it (event_of task name asked) (Reply.Previous word) now new after []
        (requests w task name asked g subject previous below may ready rdy s sh mid c word out ends after [] (inr (inr (unsent, alone, refl, refl))))
        (subst (λ (z : State). Agrees new z) (sym same) (subst (λ (v : WorldView). Agrees v (record t3 { stands = request_at t3.stands r_keeping true; ledger = it.back.ledger })) (sym keeps) a))
        (subst (λ (v : WorldView). AreSound v) (sym keeps) (still_sound out (with_kept out.requests task name subject g.port) it.sound stand))
        slots (λ q zero_sends. ap (λ (z : WorldView). (counts_of z.ledger q).send) (sym keeps) ∙ zero_sends) (ap (λ (z : WorldView). z.ports.noted) keeps)
        (λ q. ap (λ (z : State). z.live_port q) it.rest)
        (λ q. let m = it.rights (λ v. if is_of receive q v then 1 else 0) in omega (arith, m))

-- ---- A dead name with a reference more: the tables agree with the machine.

module _ (w : WorldView) (t : State) (a : Agrees w t) (k : ℕ) (l : IsMoving t 0 k) (stand : RequestsStand w) (task name n : ℕ) (is : entry_at w task name ≡ Some (entry.DeadName n)) (w2 : WorldView)
    (puts : PutsLeft w task name (Some (entry.DeadName (n + 1))) w2) where
  abbrev pub died : State
  died = with_name task name (Target.dead (n + 1)) t

  the_entry : (x y : Entry) → Some x ≡ Some y → x ≡ y
  the_entry x y e = cc

  count : (x : Entry) → Some (entry.DeadName (n + 1)) ≡ Some x → HasCount x
  count x e = subst HasCount (the_entry (entry.DeadName (n + 1)) x e) tt

  pub died_agrees : Agrees w2 died
  died_agrees = subst (λ (v : WorldView). Agrees v died) (sym puts.rest)
      (changed_agrees w t a task name (l.naming task) puts.space puts.there (entry.DeadName n) (sym (ap (λ o. entry_in o name) puts.there) ∙ is)
      (Some (entry.DeadName (n + 1))) puts.space.room w.ports w.ledger died (at_own t.naming task (map.insert (t.naming task) name (Target.dead (n + 1)))) stand
      (record {
        rest = refl;
        naming_others = λ u not. at_other t.naming task (map.insert (t.naming task) name (Target.dead (n + 1))) u not;
        held_others = λ u not kind q. refl;
        own_references = λ x q e named. (let f : None ≡ Some q = ap port_named (the_entry (entry.DeadName (n + 1)) x e) ∙ named in cc);
        other_references = λ q not. (refl, refl);
        own_count = count;
        made = refl;
        live = λ p. refl;
        ports = a.ports;
        counts = a.counts;
        total = a.total;
        stands = λ r. refl;
        requests = λ r kind q. refl;
        no_set = λ set e. (let f : Target.dead n ≡ Target.set set = e in cc);
        given = refl;
      }))

-- ---- A dead name that is told of at once: the tables agree with the state midway.

module _ (w : WorldView) (task name : ℕ) (asked : Asked) (g : Paying) (n : ℕ) (previous : Option ℕ) (below : HasTask w task) (may : MayRequest w task name asked (Some g) (Dead n) previous)
    (ready : WorldView) (rdy : Readies w task (Dead n) (Some g) previous ready) (s : State) (sh : Shows w s) (mid : WorldView) (c : Goes ready task g mid) (word : ℕ) (out : WorldView)
    (ends : Ends mid task name (Dead n) previous word out) where
  abbrev b_dying : Begun w s task name (Dead n) previous (Some g) mid
  b_dying = begun w task name asked g (Dead n) previous below may ready rdy s sh mid c

  abbrev k : ℕ
  k = length (s.log 0)

  abbrev it_dying : Back s b_dying.t b_dying.C b_dying.X b_dying.Y k task (dead_name task name) (without mid task name (Dead n)) word out
  it_dying = bk w task name asked g (Dead n) previous below may ready rdy s sh mid c word out ends

  abbrev t3_dying : State
  t3_dying = it_dying.t3

  abbrev x : Token
  x = token send_once g.port (in_message 0 k)

  abbrev y : Token
  y = token send_once g.port (in_request (dead_name task name))

  rights : (h : Token → ℕ) → weigh h it_dying.back.ledger + h x ≡ weigh h t3_dying.ledger + h y
  rights h = it_dying.rights h

  lie : 0 < lying t3_dying send_once g.port (in_message 0 k)
  lie =
      let m = rights (λ z. if is_of send_once g.port z && same_place (in_message 0 k) z.place then 1 else 0) in
      let own : (if is_of send_once g.port x && same_place (in_message 0 k) x.place then suc zero else zero) ≡ suc zero = rw (eq-eqb g.port g.port refl, eq-eqb k k refl) refl in
      let far : (if is_of send_once g.port y && false then suc zero else zero) ≡ zero = rw (eq-eqb g.port g.port refl) refl in
      omega (arith, m, own, far)

  spent : Without x t3_dying.ledger
  spent = take_lying 0 k send_once g.port t3_dying.ledger lie

  module _ (new : WorldView) (tells : TellsDead out task name n g.port new) (slots : SlotsSuffice new) where
    abbrev owed : Owed
    owed = (y, name_died name) ∷ []

    abbrev died_state : State → State
    died_state z = with_name task name (Target.dead (n + 1)) z

    abbrev after_dying : State
    after_dying = record (died_state it_dying.back) { ledger = spent.others }

    stands : entry_at out task name ≡ Some (entry.DeadName n)
    stands = ((can_put w task name asked g (Dead n) previous below may ready rdy s sh mid c word out ends).dead n refl).0

    dead_in : lookup it_dying.back task name ≡ Some (Target.dead n)
    dead_in = ap (λ (z : State). lookup z task name) it_dying.rest ∙ found out t3_dying it_dying.agrees task name (entry.DeadName n) stands

    died_sound : AreSound tells.mid
    died_sound = record {
      holders = put_holders_left out tells.mid it_dying.sound.holders task name (Some (entry.DeadName (n + 1))) tells.more (λ q i. absurd (no_receive (entry.DeadName (n + 1)) refl q i));
      carriers = carriers_same out tells.mid it_dying.sound.carriers (ap (λ (z : WorldView). z.ports.made) tells.more.rest) (ap (λ (z : WorldView). z.ports.ports) tells.more.rest);
      requested = requested_replaced out tells.mid it_dying.sound.requested task name (entry.DeadName (n + 1)) tells.more (λ z q is for. absurd (not_for z q (same_found (entry_at out task name) z (entry.DeadName n) is stands) for));
      none_lost = none_lost_left out tells.mid it_dying.sound.none_lost task name (Some (entry.DeadName (n + 1))) tells.more;
    }
      where
        not_for : (z : Entry) (q : ℕ) → z ≡ entry.DeadName n → port_of z ≡ Some q → ⊥
        not_for z q is for = let f : None ≡ Some q = sym (ap port_of is) ∙ for in cc

    spends : (h : Token → ℕ) → weigh h spent.others + (h y + 0) ≡ weigh h it_dying.back.ledger + 0
    spends h = let a = spent.parts h in let m = rights h in omega (arith, a, m)

    pub died_so : (now : ℕ) → Leaves-so w (event_of task name asked) (Reply.Previous word) new now s
    died_so now =
        let agreed = died_agrees out t3_dying it_dying.agrees k it_dying.keeps it_dying.sound.requested task name n stands tells.mid tells.more in
        let paid : 0 < (counts_of tells.mid.ledger g.port).send_once =
        subst (λ (z : WorldView). 0 < (counts_of z.ledger g.port).send_once) (sym tells.more.rest) (can_post w task name asked g (Dead n) previous below may ready rdy s sh mid c word out ends).paid in
        let j = length (t3_dying.log g.port) in
        let a : Agrees new (with_notice now (record (died_state t3_dying) { ledger = spent.others }) (y, name_died name)) =
        told_agrees tells.mid (died_state t3_dying) agreed g.port (notice.DeadName name) new tells.posts now (it_dying.keeps.within g.port) paid (in_message 0 k) (λ r. refl) j (token send_once g.port (in_message g.port j) ∷ spent.others) (λ h. let z = spent.parts h in omega (arith, z)) in
        leaves w s task name (Dead n) previous (Some g) mid b_dying word out it_dying (event_of task name asked) (Reply.Previous word) now new after_dying owed
        (requests w task name asked g (Dead n) previous below may ready rdy s sh mid c word out ends after_dying owed (inr (inl (n, refl, dead_in, spends, refl, refl))))
        (subst (λ (z : State). Agrees new (with_notice now (record (died_state z) { ledger = spent.others }) (y, name_died name))) (sym it_dying.rest) a)
        (told_sound tells.mid g.port (notice.DeadName name) new tells.posts refl died_sound)
        slots
        (λ q zero_sends.
        let u = sends_shifted tells.mid.ledger g.port q (ap (λ (z : WorldView). (counts_of z.ledger q).send) (sym tells.posts.rest) ∙ zero_sends) in
        ap (λ (z : WorldView). (counts_of z.ledger q).send) (sym tells.more.rest) ∙ u)
        (ap (λ (z : WorldView). z.ports.noted) tells.posts.rest ∙ ap (λ (z : WorldView). z.ports.noted) tells.more.rest)
        (λ q. ap (λ (z : State). z.live_port q) it_dying.rest)
        (λ q. let z = spent.parts (λ v. if is_of receive q v then 1 else 0) in omega (arith, z))

-- ---- A request is carried out: what the machine does then, in each state that the tables show.

-- ---- a right's name is for a port that is there

once_lives : (s : State) (o k : ℕ) → IsMoving s o k → (task name p : ℕ) → lookup s task name ≡ Some (Target.once p) → s.live_port p ≡ true
once_lives s o k l task name p is = grind (arith, some_tally (is_once p) (s.naming task) name (Target.once p) is (eq-eqb p p refl), held_le_of task send_once p s.ledger, (l.naming task).once_names p)

right_lives : (s : State) (o k : ℕ) → IsMoving s o k → (task name : ℕ) (e : Entry) (p : ℕ) → lookup s task name ≡ Some (target_of e) → port_of e ≡ Some p → s.live_port p ≡ true
right_lives s o k l task name (entry.Receive q) p at held = judged.named_lives s o k l task name p (at ∙ ap (option_map Target.port) held)
right_lives s o k l task name (entry.Send q n) p at held = judged.named_lives s o k l task name p (at ∙ ap (option_map Target.port) held)
right_lives s o k l task name (entry.ReceiveAndSend q n) p at held = judged.named_lives s o k l task name p (at ∙ ap (option_map Target.port) held)
right_lives s o k l task name (entry.SendOnce q) p at held = once_lives s o k l task name p (at ∙ ap (option_map Target.once) held)
right_lives s o k l task name (entry.DeadName n) p at held = absurd (let e : None ≡ Some p = held in cc)
right_lives s o k l task name (entry.Set q) p at held = absurd (let e : None ≡ Some p = held in cc)

receive_is : (e : Entry) (p : ℕ) → receive_named e ≡ Some p → port_of e ≡ Some p
receive_is (entry.Receive q) p held = held
receive_is (entry.ReceiveAndSend q n) p held = held
receive_is (entry.Send q n) p held = absurd (let e : None ≡ Some p = held in cc)
receive_is (entry.SendOnce q) p held = absurd (let e : None ≡ Some p = held in cc)
receive_is (entry.DeadName n) p held = absurd (let e : None ≡ Some p = held in cc)
receive_is (entry.Set q) p held = absurd (let e : None ≡ Some p = held in cc)

not_dead : (e : Entry) (p n : ℕ) → port_of e ≡ Some p → Some (target_of e) ≡ Some (Target.dead n) → ⊥
not_dead (entry.Receive q) p n held is = let e : Target.port q ≡ Target.dead n = cc in cc
not_dead (entry.Send q m) p n held is = let e : Target.port q ≡ Target.dead n = cc in cc
not_dead (entry.ReceiveAndSend q m) p n held is = let e : Target.port q ≡ Target.dead n = cc in cc
not_dead (entry.SendOnce q) p n held is = let e : Target.once q ≡ Target.dead n = cc in cc
not_dead (entry.DeadName m) p n held is = let e : None ≡ Some p = held in cc
not_dead (entry.Set q) p n held is = let e : None ≡ Some p = held in cc

-- ---- subjects

same_receive : (p q : ℕ) → Receive p ≡ Receive q → p ≡ q
same_receive p q e = cc

same_senders : (p q : ℕ) → Senders p ≡ Senders q → p ≡ q
same_senders p q e = cc

same_live : (p q : ℕ) → Live p ≡ Live q → p ≡ q
same_live p q e = cc

module _ (w : WorldView) (task name : ℕ) (asked : Asked) (g : Paying) (subject : Subject) (previous : Option ℕ) (below : HasTask w task) (may : MayRequest w task name asked (Some g) subject previous)
    (ready : WorldView) (rdy : Readies w task subject (Some g) previous ready) (s : State) (sh : Shows w s) (mid : WorldView) (c : Goes ready task g mid) (word : ℕ) (out : WorldView)
    (ends : Ends mid task name subject previous word out) where
  abbrev b_requested : Begun w s task name subject previous (Some g) mid
  b_requested = judged.begun_ready w task name asked g subject previous below may ready rdy s sh mid c

  abbrev it_requested : Back s b_requested.t b_requested.C b_requested.X b_requested.Y (length (s.log 0)) task (request_of task name subject) (without mid task name subject) word out
  it_requested = judged.bk w task name asked g subject previous below may ready rdy s sh mid c word out ends

  stands_requested : (e : Entry) → entry_left w task (Some g) name ≡ Some e → entry_at out task name ≡ Some e
  stands_requested e is = it_requested.entries name e (b_requested.left name ∙ is)

  named : (e : Entry) → entry_left w task (Some g) name ≡ Some e → lookup it_requested.t3 task name ≡ Some (target_of e)
  named e is = found out it_requested.t3 it_requested.agrees task name e (stands_requested e is)

  right_there : (e : Entry) (p : ℕ) → entry_left w task (Some g) name ≡ Some e → port_of e ≡ Some p → it_requested.t3.live_port p ≡ true
  right_there e p is held = right_lives it_requested.t3 0 (length (s.log 0)) it_requested.keeps task name e p (named e is) held

  live_out : (p : ℕ) → it_requested.t3.live_port p ≡ true → IsLive out.ports p
  live_out p live = it_requested.agrees.live_port p ∙ live

  made : g.port < out.ports.made
  made = grind (arith, it_requested.keeps.made_port g.port (port_lives w task name asked g subject previous below may ready rdy s sh mid c word out ends), it_requested.agrees.ports_made)

  small_requested : name < 2 ^ 32
  small_requested = few w task name asked g subject previous below may ready rdy s sh mid c word out ends

-- ---- the request that the receive right would be lost is kept

module _ (w : WorldView) (task name : ℕ) (asked : Asked) (g : Paying) (p : ℕ) (previous : Option ℕ) (below : HasTask w task) (may : MayRequest w task name asked (Some g) (Receive p) previous)
    (ready : WorldView) (rdy : Readies w task (Receive p) (Some g) previous ready) (s : State) (sh : Shows w s) (mid : WorldView) (c : Goes ready task g mid) (word : ℕ) (out : WorldView)
    (ends : Ends mid task name (Receive p) previous word out) where
  received_live : IsLive out.ports p
  received_live =
      let x = may.is_on in
      live_out w task name asked g (Receive p) previous below may ready rdy s sh mid c word out ends p
      (right_there w task name asked g (Receive p) previous below may ready rdy s sh mid c word out ends x.1.0 p x.1.1 (receive_is x.1.0 p x.1.2))

  received_stand : RequestsStand (record out { requests = with_kept out.requests task name (Receive p) g.port })
  received_stand = kept_stand out (it_requested w task name asked g (Receive p) previous below may ready rdy s sh mid c word out ends).sound.requested task name (Receive p) g.port
      (small_requested w task name asked g (Receive p) previous below may ready rdy s sh mid c word out ends)
      (λ q e. subst (λ (n : ℕ). IsLive out.ports n) (same_receive p q e) received_live)
      (λ q e. absurd (let f : Receive p ≡ Senders q = e in cc))
      (λ q e. absurd (let f : Receive p ≡ Live q = e in cc))

  received_so : (new : WorldView) → KeepsNew out task name (Receive p) g.port new → SlotsSuffice new → (now : ℕ) → Leaves-so w (event_of task name asked) (Reply.Previous word) new now s
  received_so new keeps slots now = kept_so w task name asked g (Receive p) previous below may ready rdy s sh mid c word out ends tt
      (made w task name asked g (Receive p) previous below may ready rdy s sh mid c word out ends) received_stand (λ h. h)
      (λ n e. absurd (let f : port_destroyed p ≡ dead_name task name = e in cc)) new keeps slots now

-- ---- the request that there are no senders is kept

module _ (w : WorldView) (task name : ℕ) (asked : Asked) (g : Paying) (p : ℕ) (previous : Option ℕ) (below : HasTask w task) (may : MayRequest w task name asked (Some g) (Senders p) previous)
    (ready : WorldView) (rdy : Readies w task (Senders p) (Some g) previous ready) (s : State) (sh : Shows w s) (mid : WorldView) (c : Goes ready task g mid) (word : ℕ) (out : WorldView)
    (ends : Ends mid task name (Senders p) previous word out) where
  abbrev at : Back s (b_requested w task name asked g (Senders p) previous below may ready rdy s sh mid c word out ends).t (b_requested w task name asked g (Senders p) previous below may ready rdy s sh mid c word out ends).C
      (b_requested w task name asked g (Senders p) previous below may ready rdy s sh mid c word out ends).X (b_requested w task name asked g (Senders p) previous below may ready rdy s sh mid c word out ends).Y
      (length (s.log 0)) task (no_senders p) (without mid task name (Senders p)) word out
  at = it_requested w task name asked g (Senders p) previous below may ready rdy s sh mid c word out ends

  moved : (h : Token → ℕ) → weigh h at.back.ledger + h (token send_once g.port (in_message 0 (length (s.log 0)))) ≡ weigh h at.t3.ledger + h (token send_once g.port (in_request (no_senders p)))
  moved h = at.rights h

  sends_live : at.t3.live_port p ≡ true
  sends_live =
      let x = may.is_on in
      right_there w task name asked g (Senders p) previous below may ready rdy s sh mid c word out ends x.1.0 p x.1.1 (receive_is x.1.0 p x.1.2)

  sends_stand : RequestsStand (record out { requests = with_kept out.requests task name (Senders p) g.port })
  sends_stand = kept_stand out at.sound.requested task name (Senders p) g.port
      (small_requested w task name asked g (Senders p) previous below may ready rdy s sh mid c word out ends)
      (λ q e. absurd (let f : Senders p ≡ Receive q = e in cc))
      (λ q e. subst (λ (n : ℕ). IsLive out.ports n) (same_senders p q e) (live_out w task name asked g (Senders p) previous below may ready rdy s sh mid c word out ends p sends_live))
      (λ q e. absurd (let f : Senders p ≡ Live q = e in cc))

  unsent : ((number : ℕ) → ¬ (IsTold out p asked.sync number)) → ¬ (HasNoSenders at.back (no_senders p) asked.sync)
  unsent not h =
      let x = port_there out at.t3 at.agrees p sends_live in
      let same : at.back.make_send p ≡ at.t3.make_send p = ap (λ (z : State). z.make_send p) at.rest in
      let number = (at.agrees.ports p x.0 x.1).make_send in
      let most = h.1 in
      not x.0.attributes.make_send (record {
        none = (let m = moved (λ z. if is_of send p z then 1 else 0) in let a = (at.agrees.counts p).senders in let none = h.0 in omega (arith, m, a, none));
        enough = omega (arith, same, number, most);
        v = x.0;
        there = x.1;
        made = refl;
      })

  sends_so : ((number : ℕ) → ¬ (IsTold out p asked.sync number)) → (new : WorldView) → KeepsNew out task name (Senders p) g.port new → SlotsSuffice new → (now : ℕ) →
      Leaves-so w (event_of task name asked) (Reply.Previous word) new now s
  sends_so not new keeps slots now = kept_so w task name asked g (Senders p) previous below may ready rdy s sh mid c word out ends tt
      (made w task name asked g (Senders p) previous below may ready rdy s sh mid c word out ends) sends_stand (unsent not)
      (λ n e. absurd (let f : no_senders p ≡ dead_name task name = e in cc)) new keeps slots now

-- ---- the request that a name died is kept

module _ (w : WorldView) (task name : ℕ) (asked : Asked) (g : Paying) (p : ℕ) (previous : Option ℕ) (below : HasTask w task) (may : MayRequest w task name asked (Some g) (Live p) previous)
    (ready : WorldView) (rdy : Readies w task (Live p) (Some g) previous ready) (s : State) (sh : Shows w s) (mid : WorldView) (c : Goes ready task g mid) (word : ℕ) (out : WorldView)
    (ends : Ends mid task name (Live p) previous word out) where
  abbrev there : Back s (b_requested w task name asked g (Live p) previous below may ready rdy s sh mid c word out ends).t (b_requested w task name asked g (Live p) previous below may ready rdy s sh mid c word out ends).C
      (b_requested w task name asked g (Live p) previous below may ready rdy s sh mid c word out ends).X (b_requested w task name asked g (Live p) previous below may ready rdy s sh mid c word out ends).Y
      (length (s.log 0)) task (dead_name task name) (without mid task name (Live p)) word out
  there = it_requested w task name asked g (Live p) previous below may ready rdy s sh mid c word out ends

  name_live : IsLive out.ports p
  name_live =
      let x = may.is_on in
      live_out w task name asked g (Live p) previous below may ready rdy s sh mid c word out ends p
      (right_there w task name asked g (Live p) previous below may ready rdy s sh mid c word out ends x.1.0 p x.1.1 x.1.2)

  name_stand : RequestsStand (record out { requests = with_kept out.requests task name (Live p) g.port })
  name_stand =
      let x = may.is_on in
      let found_out : entry_at out task name ≡ Some x.1.0 = stands_requested w task name asked g (Live p) previous below may ready rdy s sh mid c word out ends x.1.0 x.1.1 in
      kept_stand out there.sound.requested task name (Live p) g.port (small_requested w task name asked g (Live p) previous below may ready rdy s sh mid c word out ends)
      (λ q e. absurd (let f : Live p ≡ Receive q = e in cc))
      (λ q e. absurd (let f : Live p ≡ Senders q = e in cc))
      (λ q e. (x.1.0, found_out, x.1.2 ∙ ap (λ (n : ℕ). Some n) (same_live p q e), subst (λ (n : ℕ). IsLive out.ports n) (same_live p q e) name_live))

  alive_yet : (n : ℕ) → dead_name task name ≡ dead_name task name → lookup there.back task name ≢ Some (Target.dead n)
  alive_yet n e dead =
      let x = may.is_on in
      let at : lookup there.back task name ≡ lookup there.t3 task name = ap (λ (z : State). lookup z task name) there.rest in
      let is : lookup there.t3 task name ≡ Some (target_of x.1.0) = named w task name asked g (Live p) previous below may ready rdy s sh mid c word out ends x.1.0 x.1.1 in
      not_dead x.1.0 p n x.1.2 (sym is ∙ sym at ∙ dead)

  name_so : (new : WorldView) → KeepsNew out task name (Live p) g.port new → SlotsSuffice new → (now : ℕ) → Leaves-so w (event_of task name asked) (Reply.Previous word) new now s
  name_so new keeps slots now = kept_so w task name asked g (Live p) previous below may ready rdy s sh mid c word out ends tt
      (made w task name asked g (Live p) previous below may ready rdy s sh mid c word out ends) name_stand (λ h. h) alive_yet new keeps slots now

-- ---- the whole

module _ (w : WorldView) (task name : ℕ) (asked : Asked) (g : Paying) (previous : Option ℕ) (below : HasTask w task) (ready mid : WorldView) (c : Goes ready task g mid) (word : ℕ) (out new : WorldView)
    (slots : SlotsSuffice new) (now : ℕ) (s : State) (sh : Shows w s) where
  put_so : (subject : Subject) (may : MayRequest w task name asked (Some g) subject previous) (rdy : Readies w task subject (Some g) previous ready) (ends : Ends mid task name subject previous word out) →
      Puts out task name asked.sync subject g.port new → Leaves-so w (event_of task name asked) (Reply.Previous word) new now s
  put_so (Receive p) may rdy ends keeps = received_so w task name asked g p previous below may ready rdy s sh mid c word out ends new keeps slots now
  put_so (Senders p) may rdy ends (inl told) = told_so w task name asked g p previous below may ready rdy s sh mid c word out ends told.0 told.1 new told.2 slots now
  put_so (Senders p) may rdy ends (inr kept) = sends_so w task name asked g p previous below may ready rdy s sh mid c word out ends kept.0 new kept.1 slots now
  put_so (Live p) may rdy ends keeps = name_so w task name asked g p previous below may ready rdy s sh mid c word out ends new keeps slots now
  put_so (Dead n) may rdy ends tells = died_so w task name asked g n previous below may ready rdy s sh mid c word out ends new tells slots now

pub renewed : (w : WorldView) (task name : ℕ) (asked : Asked) (g : Paying) (subject : Subject) (previous : Option ℕ) → HasTask w task → Stands w → MayRequest w task name asked (Some g) subject previous →
    (ready : WorldView) → Readies w task subject (Some g) previous ready → (word : ℕ) (new : WorldView) → Renews ready task name asked.sync g subject previous word new →
    Completes w (event_of task name asked) (Reply.Previous word) new
renewed w task name asked g subject previous below stands_requested may ready rdy word new renews =
    done_leaving w (event_of task name asked) (Reply.Previous word) new below (record { allowed = λ s sh. (allowed w task name asked below may.good (Some g) may.pays).allowed s sh })
    (λ now s sh. put_so w task name asked g previous below ready renews.mid renews.copies word renews.out new renews.slots now s sh subject may rdy renews.ends renews.puts)

pub can_renew : (w : WorldView) (task name : ℕ) (asked : Asked) (g : Paying) (subject : Subject) (previous : Option ℕ) → HasTask w task → Stands w → MayRequest w task name asked (Some g) subject previous →
    (ready : WorldView) → Readies w task subject (Some g) previous ready → CanRenew ready task name g subject previous
can_renew w task name asked g subject previous below stands_requested may ready rdy = judged.can_renew w task name asked g subject previous below may ready rdy stands_requested

pub removed : (w : WorldView) (task name : ℕ) (asked : Asked) (subject : Subject) (previous : Option ℕ) → HasTask w task → Stands w → MayRequest w task name asked None subject previous →
    (ready : WorldView) → Readies w task subject None previous ready → (word : ℕ) (new : WorldView) → Ends ready task name subject previous word new →
    Completes w (event_of task name asked) (Reply.Previous word) new
removed w task name asked subject previous below stands_requested may ready rdy word new ends = judged.end_done w task name asked subject previous below may ready rdy word new ends

pub can_end : (w : WorldView) (task name : ℕ) (asked : Asked) (subject : Subject) (previous : Option ℕ) → HasTask w task → Stands w → MayRequest w task name asked None subject previous →
    (ready : WorldView) → Readies w task subject None previous ready → CanEnd ready task name subject previous
can_end w task name asked subject previous below stands_requested may ready rdy = judged.can_end w task name asked subject previous below may ready rdy stands_requested

-- ---- A request that is judged part by part may be carried out, and is, with a right that pays or without.

-- ---- judged

module _ (w : WorldView) (task name : ℕ) (asked : Asked) (below : HasTask w task) (variant : Variant) (numbered : (variant_number variant ≡ asked.variant) × ¬ (IsMisasked asked))
    (paying : Option Paying) (pays : Pays w task asked paying) (entry : Option Entry) (stands : entry ≡ entry_left w task paying name) where
  pub unfit_at : (code : ℕ) → FirstIs (subject_guards entry variant asked.sync asked.notify) code → Declines w (event_of task name asked) code w
  unfit_at code first =
      unfit w task name asked below numbered.1 paying pays variant numbered.0 code (subst (λ (o : Option Entry). FirstIs (subject_guards o variant asked.sync asked.notify) code) stands first)

  module _ (subject : Subject) (is : IsSubject entry variant asked.sync asked.notify subject) (previous : Option ℕ) (stood : previous ≡ previous_in w.requests task name subject) where
    is_left : IsSubject (entry_left w task paying name) variant asked.sync asked.notify subject
    is_left = subst (λ (o : Option Entry). IsSubject o variant asked.sync asked.notify subject) stands is

    pub full_at : LacksSpace w task paying previous → Declines w (event_of task name asked) (kern_number NoSpace) w
    full_at lacks = full w task name asked below numbered.1 paying pays variant numbered.0 subject is_left previous stood lacks

    pub may_at : ¬ (LacksSpace w task paying previous) → MayRequest w task name asked paying subject previous
    may_at space = record { good = numbered.1; variant = variant; number = numbered.0; pays = pays; is_on = is_left; stood = stood; space = space }

-- ---- carried out

module _ (w : WorldView) (task name : ℕ) (asked : Asked) (subject : Subject) (previous : Option ℕ) (below : HasTask w task) (stands : Stands w) (ready : WorldView) where
  pub can_carry : (paying : Option Paying) → MayRequest w task name asked paying subject previous → Readies w task subject paying previous ready → CanCarryOut ready task name paying subject previous
  can_carry None may rdy = can_end w task name asked subject previous below stands may ready rdy
  can_carry (Some g) may rdy = can_renew w task name asked g subject previous below stands may ready rdy

  pub carried : (paying : Option Paying) → MayRequest w task name asked paying subject previous → Readies w task subject paying previous ready →
      (word : ℕ) (new : WorldView) → CarriesOut ready task name asked.sync paying subject previous word new → Completes w (event_of task name asked) (Reply.Previous word) new
  carried None may rdy word new c = removed w task name asked subject previous below stands may ready rdy word new c
  carried (Some g) may rdy word new c = renewed w task name asked g subject previous below stands may ready rdy word new c
