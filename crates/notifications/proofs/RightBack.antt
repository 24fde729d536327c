-- The right that the request kept before is given back.
use Rattle.std.proofs.Common.{◌≡◌, ℕ, ◌+◌, ◌<◌, ◌≤◌, ◌^◌, Bool, true, false, List, [], ◌∷◌, Option, Some, None, refl, sym, ap, subst, ◌∙◌, arith, inl, inr, ◌≢◌, ◌⊎◌, length}
use Rattle.std.specs.Prelude.{is_some, if◌then◌else◌, MatchBool}
use Rattle.std.proofs.lemmas.Bool.{eq-eqb}
use Rattle.std.specs.Option.{option_map, option_and_then}
use Rattle.mach_types.specs.Numbers.{dead_word, null_word, most_references, most_rights}
use Rattle.mach_types.specs.Codes.{kern_number}
use Rattle.mach_types.specs.Tokens.{Kind, send_once, Request, in_task, in_message, in_request, Token, token, weigh, count, Moves, receive, is_held}
use Rattle.mach_types.specs.declared.codes.KernReturn.TheVariants.{NoSpace}
use Rattle.mach_types.specs.Guards.{FirstIs, NoneHolds}
use Rattle.mach_model.specs.State.{State, Target, same_request, request_at, with_name, lookup, held, gives}
use Rattle.mach_model.specs.Carried.{lying_among, lying}
use Rattle.mach_model.specs.CopyOut.{Named}
use Rattle.mach_model.specs.Room.{HasNoRoom}
use Rattle.mach_model.specs.Requests.{GivesBack}
use Rattle.mach_model.specs.RequestRefusals.{noted_guards, GivesRight}
use Rattle.mach_model.proofs.Copying.{come_once}
use Rattle.mach_model.proofs.MessagesLawful.{named_new}
use Rattle.mach_model.proofs.Moving.{IsMoving, IsOutside}
use Rattle.mach_model.proofs.Lost.{kept_taken, same_request_is}
use Rattle.mach_model.proofs.Settling.{is_at, request_refl}
use Rattle.mach_model.specs.NameGuards.{NamesReceive, IsSet, IsDeadName}
use Rattle.name_space.specs.declared.Entry.{Entry}
use Rattle.name_space.specs.Names.{SpaceView}
use Rattle.name_space.specs.declared.Entry.TheVariants as entry
use Rattle.name_space.specs.Entry.{receive_named, port_of}
use Rattle.copyin_base.specs.Requests.{notify_of, rights_kept, rights_went}
use Rattle.copyin_base.specs.Worlds.{WorldView, entry_in, entry_at, port_at}
use Rattle.copyin_base.specs.Shows.{Agrees, target_of}
use Rattle.copyin_base.proofs.Requested.{entry_other}
use Rattle.copyin_base.proofs.Told.{names_receive, not_receive}
use Rattle.copyout.specs.Giving.{alone, TakesName, GivesPort, GivesMark}
use Rattle.copyout.proofs.Given.{Given, port_given}
use Rattle.copyout.proofs.GivenAll.{AreSound, port_given_sound}
use Rattle.notifications.specs.declared.request.Subject.{Subject}
use Rattle.notifications.specs.Requesting.{request_of, variant_number, IsSetEntry, IsDeadEntry, IsSubject, subject_guards}
use Rattle.notifications.specs.Putting.{taken_away, mark_for}
use Rattle.notifications.proofs.Standing.{still_sound, away_stand}
use Rattle.notifications.proofs.RequestBegun.{IsTaken, none_taken, dead_taken, some_kept, taken_out, on_way, live_taken, none_kept, dead_keeps}
use Rattle.notifications.specs.declared.request.Subject.TheVariants.{Receive, Senders, Live, Dead}
use Rattle.notifications.specs.declared.request.Variant.{Variant}
use Rattle.notifications.specs.declared.request.Variant.TheVariants.{PortDestroyed, NoSenders, DeadName}

-- ---- The right that the request kept before comes out: the tables agree with the state in which it was given back.

-- The state with which the tables agree once the right came out, and the machine's, in which the right that pays lies elsewhere: so many tokens
-- go and come by that.
pub record Back (before t : State) (C : List Token) (X Y : (Token → ℕ) → ℕ) (k task : ℕ) (r : Request) (w : WorldView) (word : ℕ) (out : WorldView) : Type 0 where
  pub t3 : State
  pub agrees : Agrees out t3
  pub keeps : IsMoving t3 0 k
  pub sound : AreSound out
  pub back : State
  pub gives : GivesBack task r before (record t { ledger = C }) word back
  pub rest : back ≡ record t3 { ledger = back.ledger }
  pub rights : (h : Token → ℕ) → weigh h back.ledger + X h ≡ weigh h t3.ledger + Y h
  pub ended : t3.stands r ≡ false
  pub log : (p : ℕ) → t3.log p ≡ t.log p
  pub live : t3.live_port ≡ t.live_port
  pub taken : (p : ℕ) → t3.taken p ≡ t.taken p
  -- what stood under a name still does, and the ports and the counts are as they were
  pub entries : (n : ℕ) (e : Entry) → entry_at w task n ≡ Some e → entry_at out task n ≡ Some e
  pub ports : out.ports ≡ w.ports
  pub ledger : out.ledger ≡ w.ledger
  pub requests : out.requests ≡ w.requests

module _ (before : State) (w : WorldView) (t : State) (a : Agrees w t) (k : ℕ) (l : IsMoving t 0 k) (sound : AreSound w) (outside : IsOutside t 0 k) (task name : ℕ) (small : name < 2 ^ 32) (subject : Subject)
    (unwent : (kind : Kind) (n : ℕ) → rights_went t.live_port w.requests.names.went (request_of task name subject) kind n ≡ 0) (is_task : t.live_task task ≡ true)
    (previous : Option ℕ) (is : notify_of w.requests (request_of task name subject) ≡ previous)
    (stood : before.stands (request_of task name subject) ≡ is_some previous)
    (lay : (kind : Kind) (n : ℕ) → lying_among before.ledger kind n (in_request (request_of task name subject)) ≡ rights_kept t.live_port previous kind n)
    (C : List Token) (X Y : (Token → ℕ) → ℕ) (rights : (h : Token → ℕ) → weigh h C + X h ≡ weigh h t.ledger + Y h)
    (more : (q : ℕ) → count (is_at send_once q (in_request (request_of task name subject))) t.ledger ≤ count (is_at send_once q (in_request (request_of task name subject))) C) where
  abbrev r : Request
  r = request_of task name subject

  abbrev pub away : WorldView
  away = record w { requests = taken_away w.requests task name subject }

  abbrev copied : State
  copied = record t { ledger = C }

  away_sound : AreSound away
  away_sound = still_sound w (taken_away w.requests task name subject) sound (away_stand w sound.requested task name subject)

  own_ended : (b : Bool) → b ≡ true → (if b then false else t.stands r) ≡ false
  own_ended true e = refl
  own_ended false e = absurd (cc)

  ended_now : request_at t.stands r false r ≡ false
  ended_now = own_ended (same_request r r) (request_refl r)

  unlive : (q : ℕ) → is_some (port_at away q) ≡ t.live_port q
  unlive q = a.live_port q

  abbrev Comes : (word : ℕ) → WorldView → Type 0
  Comes word out = Back before t C X Y k task r away word out

  -- ---- none stands there

  module _ (none : previous ≡ None) where
    stands_none : t.stands r ≡ false
    stands_none = a.standing r ∙ ap is_some (is ∙ none)

    same_stands : request_at t.stands r false ≡ t.stands
    same_stands = grind (arith, same_request_is, stands_none)

    pub none_comes : (word : ℕ) (out : WorldView) → word ≡ null_word → out ≡ away → Comes word out
    none_comes word out null same =
        let taken = none_taken w t a k l sound.requested task name small subject unwent (is ∙ none) in
        record {
          t3 = record t { stands = request_at t.stands r false };
          agrees = subst (λ (x : WorldView). Agrees x (record t { stands = request_at t.stands r false })) (sym same) taken.agrees;
          keeps = taken.keeps;
          sound = subst AreSound (sym same) away_sound;
          back = copied;
          gives = inl (stood ∙ ap is_some none, null, refl);
          rest = λ i. record t { stands = sym same_stands i; ledger = C };
          rights = rights;
          ended = ended_now;
          log = λ p. refl;
          live = refl;
          taken = λ p. refl;
          entries = λ n e found. ap (λ (x : WorldView). entry_at x task n) same ∙ found;
          ports = ap (λ (x : WorldView). x.ports) same;
          ledger = ap (λ (x : WorldView). x.ledger) same;
          requests = ap (λ (x : WorldView). x.requests) same;
        }

  -- ---- its port is gone

  pub dead_comes : (q : ℕ) → previous ≡ Some q → t.live_port q ≡ false → (word : ℕ) (out : WorldView) → word ≡ dead_word → out ≡ away → Comes word out
  dead_comes q some dead word out null same =
      let taken = dead_taken w t a k l sound.requested task name small subject unwent q (is ∙ some) dead in
      let zero_kept = none_kept before.ledger r (λ kind n. lay kind n ∙ ap (λ (o : Option ℕ). rights_kept t.live_port o kind n) some ∙ dead_keeps t.live_port q dead kind n) in
      record {
        t3 = record t { stands = request_at t.stands r false };
        agrees = subst (λ (x : WorldView). Agrees x (record t { stands = request_at t.stands r false })) (sym same) taken.1.agrees;
        keeps = taken.1.keeps;
        sound = subst AreSound (sym same) away_sound;
        back = record t { stands = request_at t.stands r false; ledger = C };
        gives = inr (inl (stood ∙ ap is_some some, zero_kept, null, refl));
        rest = refl;
        rights = rights;
        ended = ended_now;
        log = λ p. refl;
        live = refl;
        taken = λ p. refl;
        entries = λ n e found. ap (λ (x : WorldView). entry_at x task n) same ∙ found;
        ports = ap (λ (x : WorldView). x.ports) same;
        ledger = ap (λ (x : WorldView). x.ledger) same;
        requests = ap (λ (x : WorldView). x.requests) same;
      }

  -- ---- its port is there

  module _ (q : ℕ) (some : previous ≡ Some q) (live : t.live_port q ≡ true) (word : ℕ) (out : WorldView) (g : GivesPort away task send_once q word out) where
    taken : IsTaken w t a k l sound.requested task name small subject unwent (on_way w t a k l sound.requested task name small subject unwent q (is ∙ some) live)
    taken = live_taken w t a k l sound.requested task name small subject unwent q (is ∙ some) live

    abbrev ys : (ys : List Token) × Moves t.ledger ys (token send_once q (in_request r) ∷ []) []
    ys = taken_out w t a k l sound.requested task name small subject unwent q (is ∙ some) live

    abbrev t2 : State
    t2 = record t { stands = request_at t.stands r false; ledger = token send_once q (in_message 0 k) ∷ ys.0 }

    at_entry : 0 < lying t2 send_once q (in_message 0 k)
    at_entry = grind (arith, eq-eqb)

    given : Given t2 0 k task send_once q word out
    given = port_given away t2 taken.agrees 0 k taken.keeps task send_once q word out at_entry g

    named_then : Named task word (Target.once q) t2 given.gives.named_state
    named_then = given.gives.named

    t3_is : given.t ≡ record (with_name task word (Target.once q) (gives task word t2)) { ledger = given.t.ledger }
    t3_is = given.gives.rest ∙ ap (λ (x : State). record x { ledger = given.t.ledger }) named_then.rest

    cut : (zs : List Token) × Moves C zs (token send_once q (in_request r) ∷ []) []
    cut = kept_taken send_once q r C (let b = more q in let c = some_kept w t a k l sound.requested task name small subject unwent q (is ∙ some) live in omega (arith, b, c))

    abbrev B : List Token
    B = token send_once q (in_task task) ∷ cut.0

    one_lies : 0 < lying_among before.ledger send_once q (in_request r)
    one_lies = grind (arith, lay send_once q)

    abbrev space2 : SpaceView
    space2 = record g.space { names = g.after; room = g.room; given = g.counts }

    own_name : TakesName g.space send_once q word g.after × (g.ledger ≡ away.ledger)
    own_name = grind arith

    entries_stay : (n : ℕ) (e : Entry) → entry_at away task n ≡ Some e → entry_at out task n ≡ Some e
    entries_stay n e found = entry_other away out task word g.space space2 (Some (alone send_once q)) g.there (ap (λ (x : WorldView). x.spaces) g.rest) own_name.0.rest task n (λ u is.
        let f : entry_at away task word ≡ None = ap (λ (o : Option SpaceView). entry_in o word) g.there ∙ own_name.0.unused in
        let h : None ≡ Some e = sym f ∙ ap (λ (x : ℕ). entry_at away task x) (sym is) ∙ found in cc) ∙ found

    pub live_comes : Comes word out
    live_comes = record {
      t3 = given.t;
      agrees = given.agrees;
      keeps = (come_once task 0 k t2 given.t send_once q taken.keeps is_task given.gives.tokens (gives task word t2).given word refl (named_new task word (Target.once q) t2 given.gives.named_state named_then) t3_is).keeps;
      sound = (port_given_sound away t2 taken.agrees away_sound 0 k taken.keeps outside task send_once q word at_entry out g).sound;
      back = record (with_name task word (Target.once q) (gives task word copied)) { stands = request_at t.stands r false; ledger = B };
      gives = inr (inr (
        q,
        with_name task word (Target.once q) (gives task word copied),
        stood ∙ ap is_some some,
        one_lies,
        record { room = named_then.room; fresh = named_then.fresh; rest = refl },
        (λ h. let m = cut.1 h in omega (arith, m)),
        refl,
      ));
      rest = sym (ap (λ (x : State). record x { ledger = B }) t3_is);
      rights = λ h. let m = cut.1 h in let n = ys.1 h in let o = given.gives.tokens h in let b = rights h in omega (arith, m, n, o, b);
      ended = ap (λ (x : State). x.stands r) t3_is ∙ ended_now;
      log = λ p. ap (λ (x : State). x.log p) t3_is;
      live = ap (λ (x : State). x.live_port) t3_is;
      taken = λ p. ap (λ (x : State). x.taken p) t3_is;
      entries = entries_stay;
      ports = ap (λ (x : WorldView). x.ports) g.rest;
      ledger = ap (λ (x : WorldView). x.ledger) g.rest ∙ own_name.1;
      requests = ap (λ (x : WorldView). x.requests) g.rest;
    }

  -- ---- it comes out, or there is none

  pub comes : (word : ℕ) (out : WorldView) → GivesMark away task send_once (mark_for previous) word out → Comes word out
  comes word out g = by previous refl g
    where
      by_life : (q : ℕ) → previous ≡ Some q → (b : Bool) → t.live_port q ≡ b → MatchBool b (GivesPort away task send_once q word out) ((word ≡ dead_word) × (out ≡ away)) → Comes word out
      by_life q some true live g = live_comes q some live word out g
      by_life q some false dead g = dead_comes q some dead word out g.0 g.1

      by : (o : Option ℕ) → previous ≡ o → GivesMark away task send_once (mark_for o) word out → Comes word out
      by None none g = none_comes none word out g.0 g.1
      by (Some q) some g = by_life q some (t.live_port q) refl (subst (λ (b : Bool). MatchBool b (GivesPort away task send_once q word out) ((word ≡ dead_word) × (out ≡ away))) (unlive q) g)

-- ---- What is judged of a request in the tables is what the machine judges once the right that pays was copied in.

-- ---- what stands under a name

dead_entry : (x : Entry) (n : ℕ) → target_of x ≡ Target.dead n → x ≡ entry.DeadName n
dead_entry (entry.DeadName m) n f = let g : m ≡ n = cc in ap entry.DeadName g
dead_entry (entry.Receive p) n f = absurd (cc)
dead_entry (entry.Send p m) n f = absurd (cc)
dead_entry (entry.ReceiveAndSend p m) n f = absurd (cc)
dead_entry (entry.SendOnce p) n f = absurd (cc)
dead_entry (entry.Set m) n f = absurd (cc)

the_target : (a b : Target) → Some a ≡ Some b → a ≡ b
the_target a b e = cc

none_from : (o : Option Entry) → option_map target_of o ≡ None → o ≡ None
none_from None e = refl
none_from (Some x) e = absurd (let f : Some (target_of x) ≡ None = e in cc)

dead_from : (o : Option Entry) (n : ℕ) → option_map target_of o ≡ Some (Target.dead n) → o ≡ Some (entry.DeadName n)
dead_from None n e = absurd (let f : None ≡ Some (Target.dead n) = e in cc)
dead_from (Some x) n e = ap Some (dead_entry x n (the_target (target_of x) (Target.dead n) e))

set_from : (o : Option Entry) → IsSet (option_map target_of o) → IsSetEntry o
set_from (Some (entry.Set n)) e = (n, refl)
set_from (Some (entry.Receive p)) e = absurd e
set_from (Some (entry.Send p n)) e = absurd e
set_from (Some (entry.ReceiveAndSend p n)) e = absurd e
set_from (Some (entry.SendOnce p)) e = absurd e
set_from (Some (entry.DeadName n)) e = absurd e
set_from None e = absurd e

is_dead_name : (v : Variant) → variant_number v ≡ 72 → v ≡ DeadName
is_dead_name PortDestroyed e = absurd (omega (arith, e))
is_dead_name NoSenders e = absurd (omega (arith, e))
is_dead_name DeadName e = refl

pub is_subject_live : (o : Option Entry) (v : Variant) (sync notify : ℕ) (subject : Subject) → IsSubject o v sync notify subject → (e : Entry) × (o ≡ Some e)
is_subject_live o v sync notify (Receive p) h = (h.1.0, h.1.1)
is_subject_live o v sync notify (Senders p) h = (h.1.0, h.1.1)
is_subject_live o v sync notify (Live p) h = (h.1.0, h.1.1)
is_subject_live o v sync notify (Dead n) h = (entry.DeadName n, h.1)

the_entry : (a b : Entry) → Some a ≡ Some b → a ≡ b
the_entry a b e = cc

module _ (s : State) (mid : WorldView) (t : State) (a : Agrees mid t) (tokens : List Token) (task name : ℕ) (held_same : (p : ℕ) → count (is_held task receive p) tokens ≡ held t task receive p)
    (o : Option Entry) (stands : entry_at mid task name ≡ o) (v : Variant) (sync notify : ℕ) where
  abbrev copied_judged : State
  copied_judged = record t { ledger = tokens }

  look : lookup copied_judged task name ≡ option_map target_of o
  look = a.naming task name ∙ ap (option_map target_of) stands

  receives_to : NamesReceive copied_judged task name → NamesReceive t task name
  receives_to h = (h.0, h.1, (let b = held_same h.0 in let c = h.2 in omega (arith, b, c)))

  receives_from : NamesReceive t task name → NamesReceive copied_judged task name
  receives_from h = (h.0, h.1, (let b = held_same h.0 in let c = h.2 in omega (arith, b, c)))

  none_to : (x : Option Entry) → o ≡ x → option_and_then receive_named x ≡ None → ¬ (NamesReceive copied_judged task name)
  none_to None is none h = let f : None ≡ Some (Target.port h.0) = sym (look ∙ ap (option_map target_of) is) ∙ h.1 in cc
  none_to (Some x) is none h = not_receive mid t a task name x (stands ∙ is) none (receives_to h)

  none_of : (x : Option Entry) → o ≡ x → ¬ (NamesReceive copied_judged task name) → option_and_then receive_named x ≡ None
  none_of None is not = refl
  none_of (Some x) is not = go (receive_named x) refl
    where
      go : (p : Option ℕ) → receive_named x ≡ p → receive_named x ≡ None
      go None e = e
      go (Some p) e = absurd (not (receives_from (names_receive mid t a task name x p (stands ∙ is) e)))

  abbrev First : Type 0
  First = lookup copied_judged task name ≡ None

  abbrev Second : Type 0
  Second = ((variant_number v ≡ 69) ⊎ (variant_number v ≡ 70)) × ¬ (NamesReceive copied_judged task name) ⊎ (variant_number v ≡ 72) × IsSet (lookup copied_judged task name)

  abbrev OfKind : Variant → Type 0
  OfKind u = (u ≢ DeadName) × (option_and_then receive_named o ≡ None) ⊎ (u ≡ DeadName) × IsSetEntry o

  abbrev Third : Type 0
  Third = (variant_number v ≡ 72) × IsDeadName copied_judged task name × ((sync ≡ 0) ⊎ (notify ≡ null_word))

  abbrev Fourth : Type 0
  Fourth = (variant_number v ≡ 72) × (lookup copied_judged task name ≡ Some (Target.dead most_references))

  first_from : First → o ≡ None
  first_from h = none_from o (sym look ∙ h)

  kind_to : (u : Variant) → OfKind u → ((variant_number u ≡ 69) ⊎ (variant_number u ≡ 70)) × ¬ (NamesReceive copied_judged task name) ⊎ (variant_number u ≡ 72) × IsSet (lookup copied_judged task name)
  kind_to PortDestroyed (inl h) = inl (inl refl, none_to o refl h.1)
  kind_to NoSenders (inl h) = inl (inr refl, none_to o refl h.1)
  kind_to DeadName (inl h) = absurd (h.0 refl)
  kind_to PortDestroyed (inr h) = absurd (let e : PortDestroyed ≡ DeadName = h.0 in cc)
  kind_to NoSenders (inr h) = absurd (let e : NoSenders ≡ DeadName = h.0 in cc)
  kind_to DeadName (inr h) = inr (refl, subst IsSet (sym (look ∙ ap (option_map target_of) h.1.1)) tt)

  kind_from : (u : Variant) → ((variant_number u ≡ 69) ⊎ (variant_number u ≡ 70)) × ¬ (NamesReceive copied_judged task name) ⊎ (variant_number u ≡ 72) × IsSet (lookup copied_judged task name) → OfKind u
  kind_from PortDestroyed (inl h) = inl ((λ e. let f : PortDestroyed ≡ DeadName = e in cc), none_of o refl h.1)
  kind_from NoSenders (inl h) = inl ((λ e. let f : NoSenders ≡ DeadName = e in cc), none_of o refl h.1)
  kind_from DeadName (inl (inl e, not)) = absurd (omega (arith, e))
  kind_from DeadName (inl (inr e, not)) = absurd (omega (arith, e))
  kind_from PortDestroyed (inr h) = absurd (let e = h.0 in omega (arith, e))
  kind_from NoSenders (inr h) = absurd (let e = h.0 in omega (arith, e))
  kind_from DeadName (inr h) = inr (refl, set_from o (subst IsSet look h.1))

  third_to : (v ≡ DeadName) × IsDeadEntry o × ((sync ≡ 0) ⊎ (notify ≡ null_word)) → Third
  third_to h = (ap variant_number h.0, (h.1.0, look ∙ ap (option_map target_of) h.1.1), h.2)

  third_from : Third → (v ≡ DeadName) × IsDeadEntry o × ((sync ≡ 0) ⊎ (notify ≡ null_word))
  third_from h = (is_dead_name v h.0, (h.1.0, dead_from o h.1.0 (sym look ∙ h.1.1)), h.2)

  fourth_to : (v ≡ DeadName) × (o ≡ Some (entry.DeadName most_references)) → Fourth
  fourth_to h = (ap variant_number h.0, look ∙ ap (option_map target_of) h.1)

  fourth_from : Fourth → (v ≡ DeadName) × (o ≡ Some (entry.DeadName most_references))
  fourth_from h = (is_dead_name v h.0, dead_from o most_references (sym look ∙ h.1))

  -- refused in the tables, and so by the machine
  pub first_noted : (code : ℕ) → FirstIs (subject_guards o v sync notify) code → FirstIs (noted_guards s copied_judged task name (variant_number v) sync notify) code
  first_noted code (inl h) = inl (look ∙ ap (option_map target_of) h.0, h.1)
  first_noted code (inr h) = grind (arith, first_from, kind_to, kind_from, third_to, third_from, fourth_to)

  -- ---- what is asked for is there

  module _ (subject : Subject) (is : IsSubject o v sync notify subject) where
    there : (e : Entry) × (o ≡ Some e)
    there = is_subject_live o v sync notify subject is

    not_kind : (subject : Subject) → IsSubject o v sync notify subject → OfKind v → ⊥
    not_kind (Receive p) h (inl x) = let f : Some p ≡ None = sym h.1.2 ∙ sym (ap (option_and_then receive_named) h.1.1) ∙ x.1 in cc
    not_kind (Receive p) h (inr x) = let f : PortDestroyed ≡ DeadName = sym h.0 ∙ x.0 in cc
    not_kind (Senders p) h (inl x) = let f : Some p ≡ None = sym h.1.2 ∙ sym (ap (option_and_then receive_named) h.1.1) ∙ x.1 in cc
    not_kind (Senders p) h (inr x) = let f : NoSenders ≡ DeadName = sym h.0 ∙ x.0 in cc
    not_kind (Live p) h (inl x) = x.0 h.0
    not_kind (Live p) h (inr x) = let same = the_entry h.1.0 (entry.Set x.1.0) (sym h.1.1 ∙ x.1.1) in let f : None ≡ Some p = sym (ap port_of same) ∙ h.1.2 in cc
    not_kind (Dead n) h (inl x) = x.0 h.0
    not_kind (Dead n) h (inr x) = let same : entry.DeadName n ≡ entry.Set x.1.0 = the_entry (entry.DeadName n) (entry.Set x.1.0) (sym h.1 ∙ x.1.1) in cc

    not_third : (subject : Subject) → IsSubject o v sync notify subject → (v ≡ DeadName) × IsDeadEntry o × ((sync ≡ 0) ⊎ (notify ≡ null_word)) → ⊥
    not_third (Receive p) h x = let f : PortDestroyed ≡ DeadName = sym h.0 ∙ x.0 in cc
    not_third (Senders p) h x = let f : NoSenders ≡ DeadName = sym h.0 ∙ x.0 in cc
    not_third (Live p) h x = let same = the_entry h.1.0 (entry.DeadName x.1.0) (sym h.1.1 ∙ x.1.1) in let f : None ≡ Some p = sym (ap port_of same) ∙ h.1.2 in cc
    not_third (Dead n) h (a, b, inl c) = h.2 c
    not_third (Dead n) h (a, b, inr c) = h.3 c

    not_fourth : (subject : Subject) → IsSubject o v sync notify subject → (v ≡ DeadName) × (o ≡ Some (entry.DeadName most_references)) → ⊥
    not_fourth (Receive p) h x = let f : PortDestroyed ≡ DeadName = sym h.0 ∙ x.0 in cc
    not_fourth (Senders p) h x = let f : NoSenders ≡ DeadName = sym h.0 ∙ x.0 in cc
    not_fourth (Live p) h x = let same = the_entry h.1.0 (entry.DeadName most_references) (sym h.1.1 ∙ x.1) in let f : None ≡ Some p = sym (ap port_of same) ∙ h.1.2 in cc
    not_fourth (Dead n) h x = grind (arith, the_entry)

    abbrev pub Space : Type 0
    Space = (most_rights < length tokens) ⊎ HasNoRoom copied_judged task × GivesRight s copied_judged task name (variant_number v)

    pub none_noted : ¬ Space → NoneHolds (noted_guards s copied_judged task name (variant_number v) sync notify)
    none_noted space = grind (arith, there, first_from, not_kind, kind_from, not_third, third_from, not_fourth, fourth_from)

    pub full_noted : Space → FirstIs (noted_guards s copied_judged task name (variant_number v) sync notify) (kern_number NoSpace)
    full_noted space = grind (arith, there, first_from, not_kind, kind_from, not_third, third_from, not_fourth, fourth_from)
