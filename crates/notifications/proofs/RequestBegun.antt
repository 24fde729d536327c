-- A request is begun: the one before is taken away, and the right that pays is copied in.
use Rattle.std.proofs.Common.{◌≡◌, ℕ, zero, suc, ◌+◌, ◌≤◌, List, Option, Some, None, refl, sym, ap, subst, ◌∙◌, arith, true, false, Bool, inl, inr, length, ◌<◌, ◌^◌, [], ◌∷◌, ◌++◌}
use Rattle.std.specs.Prelude.{slice_set, if◌then◌else◌, ◌==◌, is_some, ◌&&◌, get_or}
use Rattle.std.specs.FinMap as map
use Rattle.std.proofs.lemmas.Bool.Decides.{eqb_tells}
use Rattle.std.proofs.lemmas.Bool.{eq-eqb, and_from}
use Rattle.std.specs.Option.{option_map}
use Rattle.mach_types.specs.declared.rights.Disposition.{Disposition}
use Rattle.mach_types.specs.declared.rights.Disposition.TheVariants.{MoveReceive, MoveSend, MoveSendOnce, CopySend, MakeSend, MakeSendOnce}
use Rattle.mach_types.specs.Numbers.{disposition, kind_sent, most_rights}
use Rattle.mach_types.specs.Rights.{makes_right}
use Rattle.mach_types.specs.Tokens.{in_message, Kind, receive, send, send_once, same_kind, Request, in_request, Token, count, is_of, is_held, token, Moves, dead_name, Place, weigh}
use Rattle.mach_types.specs.Messages.{to_port, dead}
use Rattle.mach_model.specs.State.{State, same_request, request_at, Target, held}
use Rattle.mach_model.specs.CopyIn.{CopyRight, put_by}
use Rattle.mach_model.specs.Carried.{mark_count, lying_among, lying}
use Rattle.mach_model.proofs.Names.{lying_le_of, length-weigh, count_none, count_some, count_le, right_of}
use Rattle.mach_model.proofs.Settling.{kind_refl, is_at, request_refl}
use Rattle.mach_model.proofs.Moving.{moving, IsMoving, shape}
use Rattle.mach_model.proofs.Copying.{Copies, CopyRight-copies}
use Rattle.mach_model.specs.Death.{same_place}
use Rattle.mach_model.proofs.Lost.{Rekeeps, kept_taken, rekept}
use Rattle.mach_model.specs.Unused.{onces_queued}
use Rattle.mach_model.specs.NameGuards.{IsDeadName, IsLegalName}
use Rattle.mach_model.specs.SentMeans.{target_mark}
use Rattle.mach_model.proofs.MessagesLawful.{put_is}
use Rattle.rights.specs.declared.RightKind.TheVariants as right
use Rattle.rights.specs.Ledger.{LedgerView, counts_of}
use Rattle.name_space.specs.declared.Entry.{Entry}
use Rattle.name_space.specs.Names.{Names, SpaceView}
use Rattle.request_table.specs.declared.Request.{Request as NameRequest}
use Rattle.request_table.specs.Requests.{name_key, key_of}
use Rattle.copyin_base.specs.declared.Carried.{Carried}
use Rattle.copyin_base.specs.declared.Mark.TheVariants as mark
use Rattle.copyin_base.specs.Shows.{Agrees, Shows, ReferencesAgree, RequestsStand, target_of, SlotsSuffice}
use Rattle.copyin_base.specs.Worlds.{WorldView, entry_in, entry_at, put, space_at, space_in, HasTask}
use Rattle.copyin_base.proofs.Gets.{same_found}
use Rattle.copyin_base.proofs.Putting.{put_own, put_other, len_put, len_removed, get_removed}
use Rattle.copyin_base.proofs.Spaces.{space-set_same}
use Rattle.request_table.specs.Tables.{RequestTablesView, left_by}
use Rattle.copyin_base.specs.Requests.{notify_of, rights_kept, rights_went, RequestsAgree, AreEnded, requests_after}
use Rattle.copyin_base.proofs.Counting.{counts_same}
use Rattle.copyin_base.proofs.Taking.{Without, take_lying}
use Rattle.copyin_base.specs.declared.Mark.{Mark}
use Rattle.copyin_base.specs.Changes.{with_slots}
use Rattle.copyin_base.proofs.Requesting.{same_key}
use Rattle.copyin_base.proofs.Roomier.{room_entry, room_has_task}
use Rattle.copyin_base.specs.Wanted.{room_in}
use Rattle.copyin_base.proofs.SendersNoted.{KeepsSends, sends_made}
use Rattle.copyin_base.proofs.Told.{found, space_there}
use Rattle.dispositions.specs.declared.Copied.{Copied}
use Rattle.copyin.specs.Copies.{CopiesRight, ledger_copied}
use Rattle.copyin.specs.Judging.{made_by_mark}
use Rattle.copyin.specs.Planned.{CanCopy}
use Rattle.copyin.proofs.HoldersKept.{copied_carriers, copied_holders}
use Rattle.copyin.proofs.CopiedIn.{after}
use Rattle.copyin.proofs.Copying.{copied_requested, copied_none_lost, copied_senders, Went, went}
use Rattle.copyin.specs.Slots.{once_made_by_mark}
use Rattle.copyin.proofs.Committing.{copied_once}
use Rattle.copyout.proofs.GivenAll.{AreSound}
use Rattle.notifications.specs.declared.request.Paying.{Paying}
use Rattle.notifications.specs.Requesting.{CanPay, entry_left, names_in, fewer, names_left, rights_then, request_of, previous_in, ComesOut}
use Rattle.notifications.proofs.Away.{agree_at, ended_away, away_own, away_other, away_went, AreOthers, names_other}
use Rattle.notifications.specs.declared.request.Subject.{Subject}
use Rattle.notifications.specs.Putting.{taken_away}
use Rattle.notifications.specs.declared.request.Subject.TheVariants.{Receive, Senders, Live, Dead}
use Rattle.notifications.specs.Room.{HasPlace, made_by, with_rooms, SameButRooms, Readies}
use Rattle.notifications.proofs.Rooms.{rooms_show, same_notify}

-- ---- What is left when the right that pays was copied in: the tables and the machine's state agree, with the right at an entry that no log has.

the_same : {A : Type 0} (x y : A) → Some x ≡ Some y → x ≡ y
the_same x y e = cc

-- what copying in does is determined
right_once : (w : WorldView) (task : ℕ) (d : Disposition) (name : ℕ) (m : _) (a b : WorldView) → CopiesRight w task d name m a → CopiesRight w task d name m b → a ≡ b
right_once w task d name m a b x y = grind (arith, the_same, after)

space_of : (o : Option SpaceView) (name : ℕ) (e : Entry) → entry_in o name ≡ Some e → (space : SpaceView) × (o ≡ Some space) × (map.get space.names name ≡ Some e)
space_of (Some space) name e is = (space, refl, is)
space_of None name e is = absurd (let e' : None ≡ Some e = is in cc)

one_made : (d : Disposition) (p : ℕ) → made_by_mark d (mark.Port p) ≡ (if makes_right d then 1 else 0)
one_made MoveReceive p = refl
one_made MoveSend p = refl
one_made MoveSendOnce p = refl
one_made CopySend p = refl
one_made MakeSend p = refl
one_made MakeSendOnce p = refl

-- The tables after copying in, and a state of the machine with which they agree; what is true of the tables alone still is; the task's names
-- then.
pub record Paid (w : WorldView) (s : State) (task number : ℕ) (g : Paying) (mid : WorldView) : Type 0 where
  pub t : State
  pub agrees : Agrees mid t
  pub sound : AreSound mid
  pub copies : Copies s t 0 (length (s.log 0)) (kind_sent g.given) (to_port g.port)
  pub copy : CopyRight task (in_message 0 (length (s.log 0))) number g.name s (to_port g.port) t
  pub given_is : copy.given ≡ g.given
  pub left : (n : ℕ) → entry_at mid task n ≡ entry_left w task (Some g) n
  pub space : SpaceView
  pub there : space_at mid task ≡ Some space
  pub room : (x : SpaceView) → space_at w task ≡ Some x → space.room ≡ x.room
  pub names : map.len space.names ≡ names_left w task (Some g)
  pub rights : mid.ledger.total ≡ rights_then w (Some g)

module _ (w : WorldView) (s : State) (sh : Shows w s) (task number : ℕ) (g : Paying) (given : disposition number ≡ Some g.given) (pays : CanPay w task g) where
  abbrev name : ℕ
  name = g.name

  abbrev k : ℕ
  k = length (s.log 0)

  pub source : (space : SpaceView) × (space_at w task ≡ Some space) × (map.get space.names name ≡ Some pays.entry)
  source = space_of (space_at w task) name pays.entry pays.found

  abbrev copied : Copied
  copied = record { left = g.left; mark = mark.Port g.port }

  abbrev carried : Carried
  carried = record { given = g.given; mark = mark.Port g.port }

  abbrev after_names : Names
  after_names = put source.0.names name g.left

  pub it_went : Went w s 0 k task (record { disposition = number; name = name }) carried after_names
  it_went = went w s 0 k task source.0.names (record { disposition = number; name = name }) carried after_names
      (record { agrees = sh.agrees; moving = moving s 0 k sh.lawful; space = source.0; there = source.1; names_are = refl; requested = sh.requested })
      (record { is_given = given; entry = pays.entry; found = source.2; copied = copied; is = pays.is; mark = refl; left = refl })

  module _ (mid : WorldView) (c : CopiesRight w task g.given name (mark.Port g.port) mid) where
    same_mid : it_went.w2 ≡ mid
    same_mid = right_once w task g.given name (mark.Port g.port) it_went.w2 mid it_went.changes c

    same_space : c.space ≡ source.0
    same_space = same_found (space_at w task) c.space source.0 c.there source.1

    pub same_copied : c.copied ≡ copied
    same_copied = grind (arith, the_same, same_space, source)

    abbrev after_space : SpaceView
    after_space = record source.0 { names = after_names }

    spaces_are : mid.spaces ≡ slice_set w.spaces task (Some after_space)
    spaces_are = grind (arith, source, same_space, same_copied)

    mid_own : space_at mid task ≡ Some after_space
    mid_own = ap (λ (xs : List (Option SpaceView)). space_in xs task) spaces_are ∙ space-set_same w.spaces task after_space source.0 source.1

    put_at : (n : ℕ) → map.get after_names n ≡ (if name == n then g.left else entry_at w task n)
    put_at n = elim (eqb_tells name n) [
      | inl h ↦ rw h.0 (subst (λ (x : ℕ). map.get after_names x ≡ g.left) h.1 (put_own source.0.names name g.left))
      | inr h ↦ rw h.0 (put_other source.0.names name g.left n (λ e. h.1 (sym e)) ∙ sym (ap (λ (o : Option SpaceView). entry_in o n) source.1))
    ]

    len_after : (o : Option Entry) → map.len (put source.0.names name o) ≡ fewer o (map.len source.0.names)
    len_after (Some e) = len_put source.0.names name pays.entry e source.2
    len_after None = len_removed source.0.names name pays.entry source.2

    pub is_paid : Paid w s task number g mid
    is_paid =
        let copies = CopyRight-copies task 0 k number name s (to_port g.port) it_went.t (moving s 0 k sh.lawful) it_went.copy in
        let given_is : it_went.copy.given ≡ g.given = the_same it_went.copy.given g.given (sym it_went.copy.is_given ∙ given) in
        record {
          t = it_went.t;
          agrees = subst (λ (x : WorldView). Agrees x it_went.t) same_mid it_went.along.agrees;
          sound = record {
            holders = copied_holders w mid task g.given name (mark.Port g.port) c sh.holders;
            carriers = copied_carriers w mid task g.given name (mark.Port g.port) c sh.carriers;
            requested = copied_requested w mid task g.given name (mark.Port g.port) c sh.requested;
            none_lost = copied_none_lost w mid task g.given name (mark.Port g.port) c sh.idle.none_lost;
          };
          copies = subst (λ (x : Disposition). Copies s it_went.t 0 k (kind_sent x) (to_port g.port)) given_is copies;
          copy = it_went.copy;
          given_is = given_is;
          left = λ n. ap (λ (o : Option SpaceView). entry_in o n) mid_own ∙ put_at n;
          space = after_space;
          there = mid_own;
          room = λ y e. ap (λ (z : SpaceView). z.room) (same_found (space_at w task) source.0 y source.1 e);
          names = len_after g.left ∙ ap (fewer g.left) (sym (ap names_in source.1));
          rights = ap (λ (x : WorldView). x.ledger.total) (sym same_mid) ∙ it_went.total ∙ ap (λ (n : ℕ). w.ledger.total + n) (one_made g.given g.port);
        }

  -- ---- the right can be copied in

  abbrev pub paid_world : WorldView
  paid_world = it_went.w2

  pub paid_then : Paid w s task number g paid_world
  paid_then = is_paid it_went.w2 it_went.changes

  pub lives : s.live_port g.port ≡ true
  lives = go (s.live_port g.port) refl
    where
      go : (b : Bool) → s.live_port g.port ≡ b → s.live_port g.port ≡ true
      go true e = e
      go false e = absurd (
          let copies = CopyRight-copies task 0 k number name s (to_port g.port) it_went.t (moving s 0 k sh.lawful) it_went.copy in
          let kind = kind_sent it_went.copy.given in
          let same : it_went.t.live_port g.port ≡ s.live_port g.port = ap (λ (x : State). x.live_port g.port) copies.rest in
          let none = copies.keeps.no_rights g.port (same ∙ e) kind in
          let le = lying_le_of it_went.t kind g.port (in_message 0 k) in
          let more = copies.lies kind g.port in
          let one : mark_count kind g.port kind (to_port g.port) ≡ suc zero = rw (kind_refl kind, eq-eqb g.port g.port refl) refl in
          omega (arith, none, le, more, one))

  pub can_copy : rights_then w (Some g) ≤ most_rights → CanCopy w task name carried
  can_copy few = record {
    space = source.0;
    there = source.1;
    entry = pays.entry;
    found = source.2;
    copied = copied;
    is = pays.is;
    mark_is = refl;
    entered = λ q e. (sh.agrees.counts q).entered ∙ ap s.live_port (sym (same_mark g.port q e)) ∙ lives;
    few = (let e = one_made g.given g.port in omega (arith, e, few));
  }
    where
      same_mark : (a b : ℕ) → mark.Port a ≡ mark.Port b → a ≡ b
      same_mark a b e = cc

-- ---- Tables that agree with a state still do where only requests, and the places of rights with them, changed.

-- As many rights of each kind are for each port, and as many receive and send rights with each task.
pub record SameCounts (s : State) (tokens : List Token) : Type 0 where
  pub counts : (kind : Kind) (q : ℕ) → count (is_of kind q) tokens ≡ count (is_of kind q) s.ledger
  pub held : (task : ℕ) (kind : Kind) (q : ℕ) → same_kind kind send_once ≡ false → count (is_held task kind q) tokens ≡ count (is_held task kind q) s.ledger
  pub total : length s.ledger ≡ length tokens

pub requests_changed : (w : WorldView) (s : State) (requests : RequestTablesView) (tokens : List Token) (stands : Request → Bool) → Agrees w s → SameCounts s tokens →
    RequestsAgree (notify_of requests) requests.names.went w.ports.made stands s.live_port tokens → Agrees (record w { requests = requests }) (record s { stands = stands; ledger = tokens })
requests_changed w s requests tokens stands a same of_requests =
    let rights : ReferencesAgree w.spaces tokens = record { references = λ task name e q is named. let r = a.rights.references task name e q is named in (same.held task receive q refl ∙ r.0, same.held task send q refl ∙ r.1) } in
    let counts = counts_same w.ledger s.live_port s.ledger (onces_queued s) a.counts tokens same.counts in
    let total = a.total ∙ same.total in
    assumption (a, rights, counts, total, of_requests)

and_false : (a b : Bool) → b ≡ false → (a && b) ≡ false
and_false true b e = e
and_false false b e = refl

-- What one request keeps changed.
module _ (w : WorldView) (s : State) (a : Agrees w s) (o k : ℕ) (r : Request) (now : Bool) (tokens : List Token) (v : Rekeeps s tokens o k r now) (total : length s.ledger ≡ length tokens) where
  pub rekept_counts : SameCounts s tokens
  rekept_counts = record {
    counts = v.of;
    held = λ task kind q _. v.far (is_held task kind q) (λ p. and_false _ _ refl) (λ p. and_false _ _ refl);
    total = total;
  }

  pub rekept_agrees : (requests : RequestTablesView) (notify : Option ℕ) → notify_of requests r ≡ notify → ((x : Request) → same_request x r ≡ false → notify_of requests x ≡ notify_of w.requests x) →
      requests.names.went ≡ w.requests.names.went → now ≡ is_some notify →
      ((kind : Kind) (n : ℕ) → lying_among tokens kind n (in_request r) ≡ rights_kept s.live_port notify kind n + rights_went s.live_port w.requests.names.went r kind n) →
      ((q : ℕ) → notify ≡ Some q → q < w.ports.made) → AreEnded (request_at s.stands r now) w.requests.names.went → Agrees (record w { requests = requests }) (record s { stands = request_at s.stands r now; ledger = tokens })
  rekept_agrees requests notify own others went is kept given ended =
      requests_changed w s requests tokens (request_at s.stands r now) a rekept_counts
      (subst (λ (xs : List NameRequest). RequestsAgree (notify_of requests) xs w.ports.made (request_at s.stands r now) s.live_port tokens) (sym went)
      (agree_at (notify_of w.requests) (notify_of requests) r notify now w.requests.names.went w.ports.made s.stands s.live_port s.ledger tokens a.of_requests own others is kept
      (λ x e kind n. v.far (λ y. is_of kind n y && same_place (in_request x) y.place) (λ p. and_false _ _ e) (λ p. and_false _ _ refl)) given ended))

-- ---- The request that stands on a subject is taken away: the right that it kept is on its way, if its port is there.

-- nothing lies at the request
pub none_kept : (xs : List Token) (r : Request) → ((kind : Kind) (q : ℕ) → lying_among xs kind q (in_request r) ≡ 0) → count (λ x. same_place (in_request r) x.place) xs ≡ 0
none_kept xs r none = count_none (λ x. same_place (in_request r) x.place) xs (λ k d below e.
    let x = get_or xs k d in
    let some = count_some (λ y. is_of x.kind x.port y && same_place (in_request r) y.place) xs k d below
    (and_from (is_of x.kind x.port x) (same_place (in_request r) x.place) (and_from _ _ (kind_refl x.kind) (eq-eqb x.port x.port refl)) e) in
    let z = none x.kind x.port in omega (arith, some, z))

-- where its port is gone it keeps none
pub dead_keeps : (live : ℕ → Bool) (q : ℕ) → live q ≡ false → (kind : Kind) (n : ℕ) → rights_kept live (Some q) kind n ≡ 0
dead_keeps live q is_dead receive n = refl
dead_keeps live q is_dead send n = refl
dead_keeps live q is_dead send_once n = elim (eqb_tells q n) [
  | inl h ↦ (let e : live n ≡ false = subst (λ (x : ℕ). live x ≡ false) h.1 is_dead in rw (h.0, e) refl)
  | inr h ↦ rw h.0 refl
]

module _ (w : WorldView) (t : State) (a : Agrees w t) (k : ℕ) (l : IsMoving t 0 k) (stand : RequestsStand w) (task name : ℕ) (small : name < 2 ^ 32) (subject : Subject)
    (unwent : (kind : Kind) (n : ℕ) → rights_went t.live_port w.requests.names.went (request_of task name subject) kind n ≡ 0) where
  abbrev r : Request
  r = request_of task name subject

  abbrev pub without : WorldView
  without = record w { requests = taken_away w.requests task name subject }

  -- The state after it.
  pub record IsTaken (tokens : List Token) : Type 0 where
    pub agrees : Agrees without (record t { stands = request_at t.stands r false; ledger = tokens })
    pub keeps : IsMoving (record t { stands = request_at t.stands r false; ledger = tokens }) 0 k

  lies : (kind : Kind) (n : ℕ) → lying_among t.ledger kind n (in_request r) ≡ rights_kept t.live_port (notify_of w.requests r) kind n
  lies kind n = let b = a.kept r kind n in let c = unwent kind n in omega (arith, b, c)

  own_key : (x : NameRequest) → map.get w.requests.names.requests (name_key task name) ≡ Some x → key_of x ≡ name_key task name
  own_key x is = (stand.on_names (name_key task name) x is).own

  module _ (tokens : List Token) (v : Rekeeps t tokens 0 k r false) (total : length t.ledger ≡ length tokens) where
    gone : (kind : Kind) (n : ℕ) → lying_among tokens kind n (in_request r) ≡ 0
    gone kind n =
        let le = count_le (λ y. is_of kind n y && same_place (in_request r) y.place) (λ y. same_place (in_request r) y.place) (λ y f. right_of (is_of kind n y) (same_place (in_request r) y.place) f) tokens in
        let z = v.none refl in omega (arith, le, z)

    is_taken : IsTaken tokens
    is_taken =
        record {
          agrees = rekept_agrees w t a 0 k r false tokens v total (taken_away w.requests task name subject) None (away_own w.requests task name small own_key subject) (away_other w.requests task name small own_key subject)
              (away_went w.requests task name small own_key subject) refl (λ kind n. let b = gone kind n in let c = unwent kind n in omega (arith, b, c)) (λ q e. absurd (let f : None ≡ Some q = e in cc)) (ended_away t.stands r w.requests.names.went a.of_requests.ended_went);
          keeps = rekept t tokens 0 k r false l v;
        }

  -- It keeps no right.
  nothing : ((kind : Kind) (n : ℕ) → rights_kept t.live_port (notify_of w.requests r) kind n ≡ 0) → (count (λ x. same_place (in_request r) x.place) t.ledger ≡ 0) × IsTaken t.ledger
  nothing none =
      let zero_kept = none_kept t.ledger r (λ kind n. lies kind n ∙ none kind n) in (
        zero_kept,
        is_taken t.ledger (record {
          far = λ test x y. refl;
          of = λ kind q. refl;
          one = omega (arith, zero_kept);
          none = λ e. zero_kept;
          on = λ e. absurd (cc);
        }) refl,
      )

  pub none_taken : notify_of w.requests r ≡ None → IsTaken t.ledger
  none_taken is = (nothing (λ kind n. ap (λ (o : Option ℕ). rights_kept t.live_port o kind n) is)).1

  pub dead_taken : (q : ℕ) → notify_of w.requests r ≡ Some q → t.live_port q ≡ false → (count (λ x. same_place (in_request r) x.place) t.ledger ≡ 0) × IsTaken t.ledger
  dead_taken q is is_dead = nothing (λ kind n. ap (λ (o : Option ℕ). rights_kept t.live_port o kind n) is ∙ dead_keeps t.live_port q is_dead kind n)

  -- It keeps a right for a port that is there.
  module _ (q : ℕ) (is : notify_of w.requests r ≡ Some q) (live : t.live_port q ≡ true) where
    pub some_kept : 0 < count (is_at send_once q (in_request r)) t.ledger
    some_kept =
        let b = lies send_once q in
        let c : rights_kept t.live_port (notify_of w.requests r) send_once q ≡ (if q == q && t.live_port q then 1 else 0) = ap (λ (o : Option ℕ). rights_kept t.live_port o send_once q) is in
        let d : (if q == q && t.live_port q then suc zero else zero) ≡ suc zero = rw (eq-eqb q q refl, live) refl in
        omega (arith, b, c, d)

    pub taken_out : (ys : List Token) × Moves t.ledger ys (token send_once q (in_request r) ∷ []) []
    taken_out = kept_taken send_once q r t.ledger some_kept

    abbrev pub on_way : List Token
    on_way = token send_once q (in_message 0 k) ∷ taken_out.0

    none_left : count (λ x. same_place (in_request r) x.place) taken_out.0 ≡ 0
    none_left =
        let m = taken_out.1 (λ x. if same_place (in_request r) x.place then 1 else 0) in
        let one = l.one_kept r in
        let own : (if same_place (in_request r) (in_request r) then suc zero else zero) ≡ suc zero = rw (request_refl r) refl in omega (arith, m, one, own)

    pub live_taken : IsTaken on_way
    live_taken = is_taken on_way (record {
      far = λ test x y.
          let m = taken_out.1 (λ x. if test x then 1 else 0) in
          let b : (if test (token send_once q (in_request r)) then suc zero else zero) ≡ zero = rw (x q) refl in
          let c : (if test (token send_once q (in_message 0 k)) then suc zero else zero) ≡ zero = rw (y q) refl in omega (arith, m, b, c);
      of = λ kind p. let m = taken_out.1 (λ x. if is_of kind p x then 1 else 0) in omega (arith, m);
      one = let n = none_left in omega (arith, n);
      none = λ e. (let n = none_left in omega (arith, n));
      on = λ e. absurd (cc);
    }) (let m = taken_out.1 (λ x. 1) in let b = length-weigh t.ledger in let c = length-weigh taken_out.0 in omega (arith, m, b, c))

-- ---- The request on a subject is as it was once the right that pays went from another name.

module _ (v : RequestTablesView) (task pay name : ℕ) (small : pay < 2 ^ 32) (own : (r_left : NameRequest) → map.get v.names.requests (name_key task pay) ≡ Some r_left → (r_left.task ≡ task) × (r_left.name ≡ pay))
    (differs : pay ≡ name → ⊥) (subject : Subject) where
  abbrev r_left : Request
  r_left = request_of task name subject

  other : (subject : Subject) → same_request (request_of task name subject) (dead_name task pay) ≡ false
  other (Receive p) = refl
  other (Senders p) = refl
  other (Live p) = apart
    where
      apart : (task == task && name == pay) ≡ false
      apart = elim (eqb_tells name pay) [
        | inl h ↦ absurd (differs (sym h.1))
        | inr h ↦ both (task == task) (name == pay) h.0
      ]
        where
          both : (a b : Bool) → b ≡ false → (a && b) ≡ false
          both true b e = e
          both false b e = refl
  other (Dead n) = apart
    where
      apart : (task == task && name == pay) ≡ false
      apart = elim (eqb_tells name pay) [
        | inl h ↦ absurd (differs (sym h.1))
        | inr h ↦ both (task == task) (name == pay) h.0
      ]
        where
          both : (a b : Bool) → b ≡ false → (a && b) ≡ false
          both true b e = e
          both false b e = refl

  -- ... so that what the name's request kept is another's
  not_on : (g : NameRequest) → g.name ≡ pay → (subject : Subject) (live : ℕ → Bool) (kind : Kind) (n : ℕ) → rights_went live (g ∷ []) (request_of task name subject) kind n ≡ 0
  not_on g is (Receive p) live kind n = refl
  not_on g is (Senders p) live kind n = refl
  not_on g is (Live p) live kind n = gone
    where
      gone : rights_went live (g ∷ []) (dead_name task name) kind n ≡ 0
      gone = elim (eqb_tells name g.name) [
        | inl h ↦ absurd (differs (sym (h.1 ∙ is)))
        | inr h ↦ both (task == g.task) (name == g.name) h.0
      ]
        where
          both : (a b : Bool) → b ≡ false → (if a && b then rights_kept live (Some g.notify) kind n else 0) + 0 ≡ 0
          both true b e = rw e refl
          both false b e = refl
  not_on g is (Dead m) live kind n = gone
    where
      gone : rights_went live (g ∷ []) (dead_name task name) kind n ≡ 0
      gone = elim (eqb_tells name g.name) [
        | inl h ↦ absurd (differs (sym (h.1 ∙ is)))
        | inr h ↦ both (task == g.task) (name == g.name) h.0
      ]
        where
          both : (a b : Bool) → b ≡ false → (if a && b then rights_kept live (Some g.notify) kind n else 0) + 0 ≡ 0
          both true b e = rw e refl
          both false b e = refl

  by_other : (o : Option NameRequest) → map.get v.names.requests (name_key task pay) ≡ o → (key : ℕ) → (key ≡ name_key task pay → ⊥) → map.get (left_by v.names o).requests key ≡ map.get v.names.requests key
  by_other None is key not = refl
  by_other (Some g) is key not = let at = own g is in let same : key_of g ≡ name_key task pay = λ i. name_key (at.0 i) (at.1 i) in get_removed v.names.requests (key_of g) key (λ e. not (e ∙ same))

  abbrev then_by : Option NameRequest → RequestTablesView
  then_by o = record v { names = left_by v.names o }

  pub gone_notify : notify_of (requests_after {A = Entry} v task pay None) r_left ≡ notify_of v r_left
  gone_notify = names_other v task pay small (left_by v.names (map.get v.names.requests (name_key task pay))) (by_other (map.get v.names.requests (name_key task pay)) refl) r_left (other subject)

  pub gone_unwent : v.names.went ≡ [] → (live : ℕ → Bool) (kind : Kind) (n : ℕ) → rights_went live (requests_after {A = Entry} v task pay None).names.went r_left kind n ≡ 0
  gone_unwent none live kind n = go (map.get v.names.requests (name_key task pay)) refl
    where
      go : (o : Option NameRequest) → map.get v.names.requests (name_key task pay) ≡ o → rights_went live (left_by v.names o).went r_left kind n ≡ 0
      go None is = ap (λ (xs : List NameRequest). rights_went live xs r_left kind n) none
      go (Some g) is = ap (λ (xs : List NameRequest). rights_went live (xs ++ g ∷ []) r_left kind n) none ∙ not_on g (own g is).1 subject live kind n

  pub gone_others : v.names.went ≡ [] → AreOthers r_left (requests_after {A = Entry} v task pay None).names.went
  gone_others none = go (map.get v.names.requests (name_key task pay)) refl
    where
      apart : (x : Subject) (g : NameRequest) → (g.task ≡ task) × (g.name ≡ pay) → same_request (dead_name g.task g.name) (request_of task name x) ≡ false
      apart (Receive p) g at = refl
      apart (Senders p) g at = refl
      apart (Live p) g at = elim (eqb_tells g.name name) [
        | inl h ↦ absurd (differs (sym at.1 ∙ h.1))
        | inr h ↦ both (g.task == task) (g.name == name) h.0
      ]
        where
          both : (a b : Bool) → b ≡ false → (a && b) ≡ false
          both true b e = e
          both false b e = refl
      apart (Dead n) g at = elim (eqb_tells g.name name) [
        | inl h ↦ absurd (differs (sym at.1 ∙ h.1))
        | inr h ↦ both (g.task == task) (g.name == name) h.0
      ]
        where
          both : (a b : Bool) → b ≡ false → (a && b) ≡ false
          both true b e = e
          both false b e = refl

      go : (o : Option NameRequest) → map.get v.names.requests (name_key task pay) ≡ o → AreOthers r_left (left_by v.names o).went
      go None is = subst (λ (xs : List NameRequest). AreOthers r_left xs) (sym none) tt
      go (Some g) is = subst (λ (xs : List NameRequest). AreOthers r_left (xs ++ g ∷ [])) (sym none) (apart subject g (own g is), tt)

  pub gone_place : HasPlace v subject → HasPlace (requests_after {A = Entry} v task pay None) subject
  gone_place h = go subject h (map.get v.names.requests (name_key task pay))
    where
      go : (x : Subject) → HasPlace v x → (o : Option NameRequest) → HasPlace (then_by o) x
      go (Receive p) h o = h
      go (Senders p) h o = h
      go (Live p) h None = h
      go (Live p) h (Some g) = h
      go (Dead n) h o = tt

-- ---- The machine's state once the right that pays was copied in: it has it with the task, or at the request.

module _ (w : WorldView) (s : State) (task number : ℕ) (g : Paying) (once : kind_sent g.given ≡ send_once) (mid : WorldView) (paid : Paid w s task number g mid) where
  abbrev k_copied : ℕ
  k_copied = length (s.log 0)

  abbrev t : State
  t = paid.t

  pub copies_of : Copies s t 0 k_copied send_once (to_port g.port)
  copies_of = subst (λ (c : Kind). Copies s t 0 k_copied c (to_port g.port)) once paid.copies

  lie : 0 < lying t send_once g.port (in_message 0 k_copied)
  lie =
      let a = copies_of.lies send_once g.port in
      let b : mark_count send_once g.port send_once (to_port g.port) ≡ suc zero = rw (eq-eqb g.port g.port refl) refl in omega (arith, a, b)

  pub others_of : Without (token send_once g.port (in_message 0 k_copied)) t.ledger
  others_of = take_lying 0 k_copied send_once g.port t.ledger lie

  abbrev pub tokens_at : Place → List Token
  tokens_at place = token send_once g.port place ∷ others_of.others

  pub copied_at : (place : Place) → CopyRight task place number g.name s (to_port g.port) (record t { ledger = tokens_at place })
  copied_at place =
      let d = paid.copy in
      let at : (place : Place) → put_by d.given d.target place ≡ token send_once g.port place ∷ [] =
      λ place. put_is s task d.given d.target g.port d.legal d.mark_is place ∙ ap (λ (kind : Kind). token kind g.port place ∷ []) (ap kind_sent paid.given_is ∙ once) in
      record {
        given = d.given;
        is_given = d.is_given;
        target = d.target;
        found = d.found;
        legal = d.legal;
        mark_is = d.mark_is;
        rest = ap (λ (z : State). record z { ledger = tokens_at place }) d.rest;
        tokens = λ h.
            let a = d.tokens h in
            let b = others_of.parts h in
            let e = ap (weigh h) (at (in_message 0 k_copied)) in
            let f = ap (weigh h) (at place) in omega (arith, a, b, e, f);
      }

  pub total_at : (place : Place) → length (tokens_at place) ≡ rights_then w (Some g)
  total_at place =
      let a = others_of.parts (λ z. 1) in
      let b : mid.ledger.total ≡ length t.ledger = paid.agrees.total in
      let d = paid.rights in
      omega (arith, a, b, d, length-weigh others_of.others, length-weigh t.ledger)

  pub held_at : (place : Place) (p : ℕ) → count (is_held task receive p) (tokens_at place) ≡ held t task receive p
  held_at place p = let a = others_of.parts (λ z. if is_held task receive p z then 1 else 0) in omega (arith, a)

  -- ---- the name may pay

  not_dead : (d : Disposition) (n p : ℕ) → target_mark d (Target.dead n) ≡ Some (to_port p) → ⊥
  not_dead MoveReceive n p e = absurd (cc)
  not_dead MoveSend n p e = let f : Some dead ≡ Some (to_port p) = e in cc
  not_dead MoveSendOnce n p e = let f : Some dead ≡ Some (to_port p) = e in cc
  not_dead CopySend n p e = let f : Some dead ≡ Some (to_port p) = e in cc
  not_dead MakeSend n p e = absurd (cc)
  not_dead MakeSendOnce n p e = absurd (cc)

  pub is_legal : IsLegalName s task g.name number
  is_legal = let d = paid.copy in (d.given, d.target, d.is_given, d.found, d.legal)

  pub is_alive : ¬ (IsDeadName s task g.name)
  is_alive h =
      let d = paid.copy in
      not_dead d.given h.0 g.port (ap (target_mark d.given) (sym (the_same d.target (Target.dead h.0) (sym d.found ∙ h.1))) ∙ d.mark_is)
    where
      the_same : (a b : Target) → Some a ≡ Some b → a ≡ b
      the_same a b e = cc

-- ---- A request is begun: the right that pays went from its name, where one is given, and the tables agree with the machine's state.

-- The tables then, and the state with which they agree; in the machine's own, C are the tokens, by these that go and come.
pub record Begun (w : WorldView) (s : State) (task name : ℕ) (subject : Subject) (previous : Option ℕ) (paying : Option Paying) (mid : WorldView) : Type 0 where
  pub t : State
  pub agrees : Agrees mid t
  pub keeps : IsMoving t 0 (length (s.log 0))
  pub shaped : t ≡ shape s t
  pub sound : AreSound mid
  pub C : List Token
  pub X : (Token → ℕ) → ℕ
  pub Y : (Token → ℕ) → ℕ
  pub rights : (h : Token → ℕ) → weigh h C + X h ≡ weigh h t.ledger + Y h
  pub more : (q : ℕ) → count (is_at send_once q (in_request (request_of task name subject))) t.ledger ≤ count (is_at send_once q (in_request (request_of task name subject))) C
  pub held_same : (p : ℕ) → count (is_held task receive p) C ≡ held t task receive p
  pub total : length C ≡ rights_then w paying
  pub left : (n : ℕ) → entry_at mid task n ≡ entry_left w task paying n
  pub unwent : (kind : Kind) (n : ℕ) → rights_went t.live_port mid.requests.names.went (request_of task name subject) kind n ≡ 0
  pub others : AreOthers (request_of task name subject) mid.requests.names.went
  pub notify : notify_of mid.requests (request_of task name subject) ≡ previous
  pub space : SpaceView
  pub there : space_at mid task ≡ Some space
  pub room : ComesOut w previous → 0 < space.room
  pub names : map.len space.names ≡ names_left w task paying
  pub slots : SlotsSuffice mid
  pub sends : KeepsSends w.ledger mid.ledger
  pub noted : mid.ports.noted ≡ []
  pub place : is_some paying ≡ true → HasPlace mid.requests subject

as_many : (o q : Option SpaceView) → option_map (λ (x : SpaceView). x.names) o ≡ option_map (λ (x : SpaceView). x.names) q → names_in o ≡ names_in q
as_many None None e = refl
as_many (Some x) (Some y) e = let same : x.names ≡ y.names = cc in ap (λ (m : Names). map.len m) same
as_many None (Some y) e = absurd (cc)
as_many (Some x) None e = absurd (cc)

pub sends_copied : (d : Disposition) (p : ℕ) (l : LedgerView) → KeepsSends l (ledger_copied d (mark.Port p) l)
sends_copied CopySend p l = sends_made l p right.Send 1
sends_copied MakeSend p l = sends_made l p right.Send 1
sends_copied MakeSendOnce p l = sends_made l p right.SendOnce 1
sends_copied MoveReceive p l = λ q e. e
sends_copied MoveSend p l = λ q e. e
sends_copied MoveSendOnce p l = λ q e. e

pub once_is : (d : Disposition) (p : ℕ) → kind_sent d ≡ send_once → once_made_by_mark d (mark.Port p) ≡ (if makes_right d then 1 else 0)
once_is MoveSendOnce p e = refl
once_is MakeSendOnce p e = refl
once_is MoveReceive p e = absurd (cc)
once_is MoveSend p e = absurd (cc)
once_is CopySend p e = absurd (cc)
once_is MakeSend p e = absurd (cc)

pub some_room : (o : Option SpaceView) (x : SpaceView) → o ≡ Some x → 0 < room_in o → 0 < x.room
some_room o x is h = subst (λ (y : Option SpaceView). 0 < room_in y) is h

pub no_right_pays : (paying : Option Paying) → paying ≡ None → is_some paying ≡ true → ⊥
no_right_pays None none some = cc
no_right_pays (Some g) none some = cc

module _ (w : WorldView) (s : State) (sh : Shows w s) (task name : ℕ) (subject : Subject) (previous : Option ℕ) (previous_is : previous ≡ previous_in w.requests task name subject) (ready : WorldView) (below : HasTask w task) where
  abbrev r_begun : Request
  r_begun = request_of task name subject

  abbrev k_begun : ℕ
  k_begun = length (s.log 0)

  module _ (same : SameButRooms w ready) where
    abbrev base : WorldView
    base = record (with_slots w same.spare) { requests = with_rooms w.requests same.names same.senders same.destroyed }

    pub ready_shows : Shows ready s
    ready_shows = rooms_show w ready s same sh

    pub ready_entry : (n : ℕ) → entry_at ready task n ≡ entry_at w task n
    ready_entry n = room_entry base ready same.same task n

    pub ready_names : names_in (space_at ready task) ≡ names_in (space_at w task)
    ready_names = as_many (space_at ready task) (space_at w task) (same.same.names task)

    pub ready_ledger : ready.ledger ≡ w.ledger
    ready_ledger = same.same.ledger

    pub ready_notify : notify_of ready.requests r_begun ≡ previous
    ready_notify = grind (arith, same_notify)

    pub ready_space : (x : SpaceView) × (space_at ready task ≡ Some x)
    ready_space = space_there ready task (room_has_task base ready same.same task below)

  -- ---- none pays

  abbrev pub begun_none : Readies w task subject None previous ready → Begun w s task name subject previous None ready
  begun_none rdy =
      let shr = ready_shows rdy.same in
      let x = ready_space rdy.same in
      record {
        t = s;
        agrees = shr.agrees;
        keeps = moving s 0 k_begun sh.lawful;
        shaped = refl;
        sound = record { holders = shr.holders; carriers = shr.carriers; requested = shr.requested; none_lost = shr.idle.none_lost };
        C = s.ledger;
        X = λ h. 0;
        Y = λ h. 0;
        rights = λ h. refl;
        more = λ q. omega arith;
        held_same = λ p. refl;
        total = (let a = sh.agrees.total in omega (arith, a));
        left = ready_entry rdy.same;
        unwent = λ kind n. ap (λ (xs : List NameRequest). rights_went s.live_port xs r_begun kind n) shr.idle.went;
        others = subst (λ (xs : List NameRequest). AreOthers r_begun xs) (sym shr.idle.went) tt;
        notify = ready_notify rdy.same;
        space = x.0;
        there = x.1;
        room = λ out. some_room (space_at ready task) x.0 x.1 (rdy.room out);
        names = sym (ap names_in x.1) ∙ ready_names rdy.same;
        slots = shr.slots;
        sends = λ q none. ap (λ (l : LedgerView). (counts_of l q).send) (sym (ready_ledger rdy.same)) ∙ none;
        noted = shr.idle.noted;
        place = λ some. absurd (no_right_pays None refl some);
      }

  -- ---- a right pays

  module _ (g : Paying) (number : ℕ) (given : disposition number ≡ Some g.given) (once : kind_sent g.given ≡ send_once) (pays : CanPay w task g) (rdy : Readies w task subject (Some g) previous ready)
      (e : Entry) (stands : entry_left w task (Some g) name ≡ Some e) where
    abbrev shr : Shows ready s
    shr = ready_shows rdy.same

    pub pays_ready : CanPay ready task g
    pays_ready = record { entry = pays.entry; found = ready_entry rdy.same g.name ∙ pays.found; is = pays.is }

    pub left_same : (n : ℕ) → entry_left ready task (Some g) n ≡ entry_left w task (Some g) n
    left_same n = ap (λ (x : Option Entry). if g.name == n then g.left else x) (ready_entry rdy.same n)

    -- the right goes from another name where nothing is left there
    pub differs : g.left ≡ None → g.name ≡ name → ⊥
    differs none same = grind (arith, eq-eqb)

    pub small : g.name < 2 ^ 32
    small = (sh.lawful.naming task).space.name_fits g.name (target_of pays.entry) (found w s sh.agrees task g.name pays.entry pays.found)

    pub own : (x : NameRequest) → map.get ready.requests.names.requests (name_key task g.name) ≡ Some x → (x.task ≡ task) × (x.name ≡ g.name)
    own x is = let on = shr.requested.on_names (name_key task g.name) x is in same_key x.task x.name task g.name on.small small on.own

    module _ (mid : WorldView) (c : CopiesRight ready task g.given g.name (mark.Port g.port) mid) where
      abbrev paid : Paid ready s task number g mid
      paid = is_paid ready s shr task number g given pays_ready mid c

      abbrev t_begun : State
      t_begun = paid.t

      abbrev x : Token
      x = token send_once g.port (in_message 0 k_begun)

      abbrev y : Token
      y = token send_once g.port (in_request r_begun)

      abbrev others : Without x t_begun.ledger
      others = others_of ready s task number g once mid paid

      pub after_left : c.copied.left ≡ g.left
      after_left = ap (λ z. z.left) (same_copied ready s shr task number g given pays_ready mid c)

      pub requests_are : mid.requests ≡ requests_after ready.requests task g.name g.left
      requests_are = ap (λ (v : WorldView). v.requests) c.rest ∙ ap (λ (o : Option Entry). requests_after ready.requests task g.name o) after_left

      pub notify_then : (o : Option Entry) → g.left ≡ o → notify_of (requests_after ready.requests task g.name o) r_begun ≡ notify_of ready.requests r_begun
      notify_then None is = gone_notify ready.requests task g.name name small own (differs is) subject
      notify_then (Some z) is = refl

      pub unwent_then : (o : Option Entry) → g.left ≡ o → (kind : Kind) (n : ℕ) → rights_went t_begun.live_port (requests_after ready.requests task g.name o).names.went r_begun kind n ≡ 0
      unwent_then None is kind n = gone_unwent ready.requests task g.name name small own (differs is) subject shr.idle.went t_begun.live_port kind n
      unwent_then (Some z) is kind n = ap (λ (xs : List NameRequest). rights_went t_begun.live_port xs r_begun kind n) shr.idle.went

      pub others_then : (o : Option Entry) → g.left ≡ o → AreOthers r_begun (requests_after ready.requests task g.name o).names.went
      others_then None is = gone_others ready.requests task g.name name small own (differs is) subject shr.idle.went
      others_then (Some z) is = subst (λ (xs : List NameRequest). AreOthers r_begun xs) (sym shr.idle.went) tt

      pub place_then : (o : Option Entry) → g.left ≡ o → HasPlace ready.requests subject → HasPlace (requests_after ready.requests task g.name o) subject
      place_then None is h = gone_place ready.requests task g.name name small own (differs is) subject h
      place_then (Some z) is h = h

      pub apart : (b : Bool) → (if b && false then suc zero else zero) ≡ zero
      apart true = refl
      apart false = refl

      abbrev pub begun_some : Begun w s task name subject previous (Some g) mid
      begun_some = record {
        t = t_begun;
        agrees = paid.agrees;
        keeps = (copies_of ready s task number g once mid paid).keeps;
        shaped = (copies_of ready s task number g once mid paid).rest;
        sound = paid.sound;
        C = y ∷ others.others;
        X = λ h. h x;
        Y = λ h. h y;
        rights = λ h. let a = others.parts h in omega (arith, a);
        more = λ q.
            let a = others.parts (λ z. if is_at send_once q (in_request r_begun) z then 1 else 0) in
            let b = apart (is_of send_once q x) in
            omega (arith, a, b);
        held_same = held_at ready s task number g once mid paid (in_request r_begun);
        total = total_at ready s task number g once mid paid (in_request r_begun) ∙ ap (λ (l : LedgerView). l.total + made_by (Some g)) (ready_ledger rdy.same);
        left = λ n. paid.left n ∙ left_same n;
        unwent = λ kind n. ap (λ (v : RequestTablesView). rights_went t_begun.live_port v.names.went r_begun kind n) requests_are ∙ unwent_then g.left refl kind n;
        others = subst (λ (v : RequestTablesView). AreOthers r_begun v.names.went) (sym requests_are) (others_then g.left refl);
        notify = ap (λ (v : RequestTablesView). notify_of v r_begun) requests_are ∙ notify_then g.left refl ∙ ready_notify rdy.same;
        space = paid.space;
        there = paid.there;
        room = λ out.
            let z = ready_space rdy.same in
            let a = some_room (space_at ready task) z.0 z.1 (rdy.room out) in
            let b = paid.room z.0 z.1 in omega (arith, a, b);
        names = paid.names ∙ ap (fewer g.left) (ready_names rdy.same);
        slots =
            let a = copied_once ready mid task g.given g.name (mark.Port g.port) c in
            let b = once_is g.given g.port once in
            let d = rdy.slots in
            omega (arith, a.unused, a.spare, b, d);
        sends = λ q none.
            let a = ap (λ (v : WorldView). (counts_of v.ledger q).send) c.rest in
            let m : (counts_of (ledger_copied g.given c.copied.mark ready.ledger) q).send ≡ 0 = sym a ∙ none in
            let n : (counts_of (ledger_copied g.given (mark.Port g.port) ready.ledger) q).send ≡ 0 = ap (λ (z : Mark). (counts_of (ledger_copied g.given z ready.ledger) q).send) c.mark_is ∙ m in
            ap (λ (l : LedgerView). (counts_of l q).send) (sym (ready_ledger rdy.same)) ∙ sends_copied g.given g.port ready.ledger q n;
        noted = (copied_senders ready mid task g.given g.name (mark.Port g.port) c shr.requested).noted ∙ shr.idle.noted;
        place = λ some. subst (λ (v : RequestTablesView). HasPlace v subject) (sym requests_are) (place_then g.left refl (rdy.place some));
      }
