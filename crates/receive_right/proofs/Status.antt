-- What a task asks of a receive right, and sets.
use Rattle.std.proofs.Common.{◌≡◌, ℕ, ◌+◌, ◌<◌, ◌≤◌, List, [], ◌∷◌, Some, refl, sym, ap, ◌∙◌, arith, true, false, Bool, zero, suc, inl, inr, length, ◌^◌, Option, None, subst}
use Rattle.std.specs.Prelude.{slice_get, if◌then◌else◌, ◌==◌, ◌&&◌, min, nat_lt, Contains}
use Rattle.std.proofs.lemmas.Bool.{cases_lt, eq-eqb}
use Rattle.std.proofs.lemmas.Bool.Decides.{nat_tests}
use Rattle.std.proofs.lemmas.Option.{slice_get_cases}
use Rattle.std.specs.Option.{option_map, unwrap_or}
use Rattle.std.specs.FinMap as map
use Rattle.mach_types.specs.Tokens.{Place, in_task, in_message, in_request, Token, weigh, count, is_of, same_kind, receive, send_once, no_senders, port_destroyed}
use Rattle.mach_types.specs.Numbers.{most_rights, greatest_limit}
use Rattle.mach_types.specs.Codes.{kern_number}
use Rattle.mach_types.specs.Messages.{Entry}
use Rattle.mach_types.specs.declared.calls.Event.{Event}
use Rattle.mach_types.specs.declared.calls.Reply.{Reply}
use Rattle.mach_types.specs.declared.calls.Status.{Status}
use Rattle.mach_types.specs.declared.codes.KernReturn.TheVariants.{InvalidValue}
use Rattle.mach_types.specs.declared.profiles.Profile.{Profile}
use Rattle.mach_types.specs.declared.profiles.Profile.TheVariants.{One, Two, Three}
use Rattle.mach_model.specs.State.{State, queue, Target, lookup, Holds, at}
use Rattle.mach_model.specs.Death.{same_place}
use Rattle.mach_model.specs.Lawful.{HasFewSets, IsLawful}
use Rattle.mach_model.proofs.Names.{slice_get_drop, elsewhere, length-weigh, weigh-le, count_le, right_of}
use Rattle.mach_model.proofs.Settling.{kind_refl}
use Rattle.mach_model.specs.Acts.{Does}
use Rattle.mach_model.specs.Machine.{Judged}
use Rattle.mach_model.proofs.Midway.{LosesNone}
use Rattle.mach_model.specs.Telling.{TellsStatus, NamesSetOf, one_if}
use Rattle.mach_model.specs.Refusals.{receive_guards, call_guards}
use Rattle.rights.specs.Ledger.{counts_of}
use Rattle.port.specs.declared.Attributes.{Attributes}
use Rattle.port.specs.Holding.{KeepsHolder}
use Rattle.port.specs.Ports.{PortView, sets_in}
use Rattle.port.proofs.Each.{head_in, in_cases, tail_in}
use Rattle.port_set.specs.declared.SetRecord.{SetRecord}
use Rattle.port_set.specs.Sets.{SetsView}
use Rattle.copyin_base.specs.Kept.{Kept}
use Rattle.copyin_base.specs.Shows.{AllKept, Agrees, Shows}
use Rattle.copyin_base.specs.Changes.{HasAttributes, SetsAttributes}
use Rattle.copyin_base.specs.Worlds.{WorldView, has_several_sets, port_at, HasTask}
use Rattle.copyin_base.proofs.Acting.{Does-so, done, looked, refused}
use Rattle.copyin_base.proofs.Carriers.{carriers_kept}
use Rattle.copyin_base.proofs.Gets.{same_found}
use Rattle.copyin_base.proofs.Holders.{holders_kept}
use Rattle.copyin_base.proofs.Idle.{none_lost_set}
use Rattle.copyin_base.proofs.Requested.{requested_set}
use Rattle.copyin_base.proofs.SendersNoted.{senders_same, senders_kept, keeps_senders_same}
use Rattle.copyin_base.proofs.Slots.{slots_set}
use Rattle.copyin_base.specs.Serving.{IsRefused, Completes, Declines}
use Rattle.copyin_base.specs.Finds.{FindsReceive}
use Rattle.copyin_base.specs.Stands.{Stands}
use Rattle.copyin_base.proofs.AttributesSet.{limit_agrees, make_send_agrees, sequence_agrees}
use Rattle.copyin_base.proofs.Finding.{finds_port, finds_held, receive_allowed, receive_port_lives}
use Rattle.copyin_base.proofs.Told.{port_there, port_entered}
use Rattle.receive_right.specs.Status.{least_name, set_name, status_of, HasPort, TellsPort}
use Rattle.copyin_base.proofs.Listed.{listed_one}
use Rattle.receive_right.proofs.Holding.{one_holder}

-- ---- A queue has no more messages than there are rights: each message goes by a right that lies in it.

-- how often the place is among the n entries of the port's log from this one on
abbrev among : (p from n : ℕ) → Place → ℕ
among p from zero place = 0
among p from (suc n) place = (if same_place (in_message p (from + n)) place then 1 else 0) + among p from n place

at_most_one : (b : Bool) → (if b then 1 else 0) ≤ 1
at_most_one true = omega arith
at_most_one false = omega arith

not_behind : (p from n q k : ℕ) → from + n ≤ k → among p from n (in_message q k) ≡ 0
not_behind p from zero q k behind = refl
not_behind p from (suc n) q k behind = grind (arith, not_behind p from n q k (omega (arith, behind)), elsewhere)

among_once : (p from n : ℕ) (place : Place) → among p from n place ≤ 1
among_once p from zero place = omega arith
among_once p from (suc n) (in_task task) = let h = among_once p from n (in_task task) in omega (arith, h)
among_once p from (suc n) (in_request r) = let h = among_once p from n (in_request r) in omega (arith, h)
among_once p from (suc n) (in_message q k) = grind (arith, among_once p from n (in_message q k), not_behind, at_most_one, elsewhere)

weigh_sum : (f g : Token → ℕ) (xs : List Token) → weigh (λ x. f x + g x) xs ≡ weigh f xs + weigh g xs
weigh_sum f g [] = omega arith
weigh_sum f g (x ∷ xs) = let h = weigh_sum f g xs in omega (arith, h)

each_one : (p from n : ℕ) (xs : List Token) → ((i : ℕ) → i < n → 0 < count (λ x. same_place (in_message p (from + i)) x.place) xs) → n ≤ weigh (λ x. among p from n x.place) xs
each_one p from zero xs each = omega arith
each_one p from (suc n) xs each = grind (arith, each_one p from n xs (λ i below. each i (omega (arith, below))), each n (omega arith), weigh_sum (λ (x : Token). if same_place (in_message p (from + n)) x.place then 1 else 0) (λ (x : Token). among p from n x.place) xs)

module _ (s : State) (l : IsLawful s) (p : ℕ) (live : s.live_port p ≡ true) where
  lies : (i : ℕ) (e : Entry) → slice_get (queue s p) i ≡ Some e → 0 < count (λ x. same_place (in_message p (s.taken p + i)) x.place) s.ledger
  lies i e is =
      let here = (l.sent_here p (s.taken p + i) e (sym (slice_get_drop (s.taken p) (s.log p) i) ∙ is)).0 in
      let lying_one = l.carried p i e live is e.message.kind p live in
      let one : (if same_kind e.message.kind e.message.kind && e.message.destination == p then suc zero else zero) ≡ suc zero =
      rw (kind_refl e.message.kind, eq-eqb e.message.destination p here) refl in
      let le = count_le (λ (x : Token). is_of e.message.kind p x && same_place (in_message p (s.taken p + i)) x.place) (λ (x : Token). same_place (in_message p (s.taken p + i)) x.place)
      (λ x t. right_of (is_of e.message.kind p x) (same_place (in_message p (s.taken p + i)) x.place) t) s.ledger in
      omega (arith, lying_one, one, le)

  is_there : {A : Type 0} (xs : List A) (i : ℕ) → i < length xs → (x : A) × (slice_get xs i ≡ Some x)
  is_there xs i below = elim (slice_get_cases xs i).1 [
    | inl h ↦ (h.0, h.2)
    | inr h ↦ absurd (omega (arith, h.0, below))
  ]

  pub few_queued : length (queue s p) ≤ most_rights
  few_queued =
      let some = each_one p (s.taken p) (length (queue s p)) s.ledger (λ i below. let e = is_there (queue s p) i below in lies i e.0 e.1) in
      let le = weigh-le (λ (x : Token). among p (s.taken p) (length (queue s p)) x.place) (λ (x : Token). 1) (λ x. among_once p (s.taken p) (length (queue s p)) x.place) s.ledger in
      let few = l.few_rights in
      let all = length-weigh s.ledger in
      omega (arith, some, le, few, all)

-- as many messages are kept as there are
pub as_many : (p : ℕ) (ms : List Kept) (es : List Entry) → AllKept p ms es → length ms ≡ length es
as_many p [] [] a = refl
as_many p (m ∷ ms) (e ∷ es) a = ap suc (as_many p ms es a.1)
as_many p [] (e ∷ es) a = absurd a
as_many p (m ∷ ms) [] a = absurd a

-- ---- Attributes of a port are set, but for who holds its receive right: a call does this.

module _ (w : WorldView) (p : ℕ) (x : Attributes) (has : HasAttributes w p x) (y : Attributes) (same : y.holder ≡ x.holder) where
  pub keeps_holder : KeepsHolder w.ports p y
  keeps_holder v there = grind (arith, same_found)

  pub sets_so : (new : WorldView) → SetsAttributes w p y new → (event : Event) (now : ℕ) (s mid : State) → Shows w s →
      (does : Does now s event (Reply.Code 0) mid []) → Judged now s event (Reply.Code 0) mid [] does → LosesNone s event (Reply.Code 0) → Agrees new mid →
      Does-so w event (Reply.Code 0) new now s
  sets_so new set event now s mid sh does judged none agrees = record {
    mid = mid;
    owed = [];
    does = does;
    judged = judged;
    loses_none = none;
    none_owed = refl;
    agrees = agrees;
    holders = holders_kept w new sh.holders p x y has set same;
    carriers = carriers_kept w new sh.carriers p x y has set same;
    slots = slots_set w new sh.slots p y set;
    requested = requested_set w new sh.requested p y set;
    notes = senders_kept w w new (senders_same w sh.idle.noted)
        (keeps_senders_same w new sh.requested (ap (λ (z : WorldView). z.requests.no_senders) set.rest) (ap (λ (z : WorldView). z.ledger) set.rest) (ap (λ (z : WorldView). z.ports.noted) set.rest));
    none_lost = none_lost_set w new sh.idle.none_lost p y set;
  }

-- ---- What a task asks of a receive right, and sets.

-- ---- ReceiveStatus

has_one : (n : ℕ) → min n 1 ≡ one_if (nat_lt 0 n)
has_one n = grind (arith, nat_tests)

-- the least of this name and those of the sets
abbrev pub with_least : SetsView → (name : ℕ) → List ℕ → ℕ
with_least sets name [] = name
with_least sets name (set ∷ others) = min name (least_name sets (set ∷ others))

pub least_begun : (sets : SetsView) (set : ℕ) (others : List ℕ) → with_least sets (set_name sets set) others ≡ least_name sets (set ∷ others)
least_begun sets set [] = refl
least_begun sets set (other ∷ others) = refl

pub least_next : (sets : SetsView) (name set : ℕ) (others : List ℕ) → with_least sets (min name (set_name sets set)) others ≡ with_least sets name (set ∷ others)
least_next sets name set [] = refl
least_next sets name set (other ∷ others) = omega arith

-- the sets of a port that is there
pub sets_had : (o : Option (PortView Kept)) (sets : List ℕ) → Some sets ≡ option_map sets_in o → (v : PortView Kept) → o ≡ Some v → sets ≡ sets_in v
sets_had o sets is v there = let e : Some sets ≡ Some (sets_in v) = is ∙ ap (option_map sets_in) there in cc

-- The sets that a port is in are of the task that has its receive right.
module _ (w : WorldView) (s : State) (sh : Shows w s) (task p : ℕ) (holds : Holds s task receive p) where
  same_task : (t u : ℕ) → Some t ≡ Some u → t ≡ u
  same_task t u e = cc

  named : (set : ℕ) → Contains (s.sets_of p) set → lookup s task (set_name w.sets set) ≡ Some (Target.set set)
  named set within = go (map.get w.sets.sets set) refl
    where
      go : (o : Option SetRecord) → map.get w.sets.sets set ≡ o → lookup s task (unwrap_or (option_map (λ (r : SetRecord). r.name) o) 0) ≡ Some (Target.set set)
      go None e =
          let m = sh.lawful.members p set within in
          absurd (let f : None ≡ Some m.0 = sym (sh.agrees.set_owner set ∙ ap (option_map (λ (r : SetRecord). r.owner)) e) ∙ m.1 in cc)
      go (Some r) e =
          let m = sh.lawful.members p set within in
          let owner : r.owner ≡ m.0 = same_task r.owner m.0 (sym (sh.agrees.set_owner set ∙ ap (option_map (λ (r : SetRecord). r.owner)) e) ∙ m.1) in
          let same : r.owner ≡ task = owner ∙ one_holder s sh.lawful m.0 task p m.2 holds in
          subst (λ (t : ℕ). lookup s t r.name ≡ Some (Target.set set)) same (sh.agrees.set_named set r e)

  -- The name is that of one of these sets, and none of them has a lesser.
  record IsLeast (sets : List ℕ) (name : ℕ) : Type 0 where
    pub set : ℕ
    pub within : Contains sets set
    pub found : lookup s task name ≡ Some (Target.set set)
    pub least : (other n : ℕ) → Contains sets other → lookup s task n ≡ Some (Target.set other) → name ≤ n

  own : (set n : ℕ) → Contains (s.sets_of p) set → lookup s task n ≡ Some (Target.set set) → set_name w.sets set ≡ n
  own set n within is = sh.lawful.one_set_name task (set_name w.sets set) n set (named set within) is

  least : (first : ℕ) (sets : List ℕ) → ((set : ℕ) → Contains (first ∷ sets) set → Contains (s.sets_of p) set) → IsLeast (first ∷ sets) (least_name w.sets (first ∷ sets))
  least first [] all = record {
    set = first;
    within = head_in first [];
    found = named first (all first (head_in first []));
    least = λ other n c is.
        let same : other ≡ first = listed_one first other c in
        let one = own first n (all first (head_in first [])) (subst (λ (x : ℕ). lookup s task n ≡ Some (Target.set x)) same is) in omega (arith, one);
  }
  least first (second ∷ others) all =
      let rest = least second others (λ set c. all set (tail_in first set (second ∷ others) c)) in
      let here = all first (head_in first (second ∷ others)) in
      let lesser : (other n : ℕ) → Contains (first ∷ second ∷ others) other → lookup s task n ≡ Some (Target.set other) → least_name w.sets (first ∷ second ∷ others) ≤ n =
      λ other n c is. elim (in_cases first other (second ∷ others) c) [
        | inl same ↦ let one = own first n here (subst (λ (x : ℕ). lookup s task n ≡ Some (Target.set x)) (sym same) is) in omega (arith, one)
        | inr c ↦ let below = rest.least other n c is in omega (arith, below)
      ] in
      elim (cases_lt (least_name w.sets (second ∷ others)) (set_name w.sets first)) [
        | inl less ↦
            let is : least_name w.sets (first ∷ second ∷ others) ≡ least_name w.sets (second ∷ others) = omega (arith, less) in
            record {
              set = rest.set;
              within = tail_in first rest.set (second ∷ others) rest.within;
              found = subst (λ (n : ℕ). lookup s task n ≡ Some (Target.set rest.set)) (sym is) rest.found;
              least = lesser;
            }
        | inr more ↦
            let is : least_name w.sets (first ∷ second ∷ others) ≡ set_name w.sets first = omega (arith, more) in
            record {
              set = first;
              within = head_in first (second ∷ others);
              found = subst (λ (n : ℕ). lookup s task n ≡ Some (Target.set first)) (sym is) (named first here);
              least = lesser;
            }
      ]

  -- so the least of their names is the task's
  set_told : (sets : List ℕ) → sets ≡ s.sets_of p → NamesSetOf s task p (least_name w.sets sets)
  set_told [] is = inl (sym is, refl)
  set_told (first ∷ sets) is =
      let l = least first sets (λ set c. subst (λ (xs : List ℕ). Contains xs set) is c) in
      inr (l.set, subst (λ (xs : List ℕ). Contains xs l.set) is l.within, l.found, (λ other n c found. l.least other n (subst (λ (xs : List ℕ). Contains xs other) (sym is) c) found))

tells : (w : WorldView) (s : State) → Shows w s → (task name p : ℕ) → FindsReceive w task name p → (v : PortView Kept) → port_at w p ≡ Some v →
    TellsStatus s task name (status_of w.sets w.requests p v (counts_of w.ledger p))
tells w s sh task name p f v there =
    let a = sh.agrees in
    let x = a.ports p v there in
    let c = a.counts p in record {
      p = p;
      found = finds_port w task name p f s a;
      set = set_told w s sh task p (finds_held w task name p f s a) (sets_in v) x.sets;
      sequence = x.sequence;
      make_send = x.make_send;
      limit = x.limit;
      queued = as_many p v.queue (queue s p) x.waiting;
      send_once = c.once_rights;
      has_send = has_one (counts_of w.ledger p).send ∙ ap (λ (n : ℕ). one_if (nat_lt 0 n)) c.senders;
      port_destroyed = ap one_if (sym (a.standing (port_destroyed p)));
      no_senders = ap one_if (sym (a.standing (no_senders p)));
    }

few_by : (own profile : Profile) → own ≡ profile → has_several_sets own ≡ false → (sets : List ℕ) → HasFewSets profile sets → length sets ≤ 1
few_by One profile same one sets few = subst (λ (x : Profile). HasFewSets x sets) (sym same) few
few_by Two profile same one sets few = subst (λ (x : Profile). HasFewSets x sets) (sym same) few
few_by Three profile same one sets few = absurd (let e : true ≡ false = one in cc)

-- where a port can't be in several sets
few_sets : (w : WorldView) (s : State) → Shows w s → (p : ℕ) → has_several_sets w.profile ≡ false → length (s.sets_of p) ≤ 1
few_sets w s sh p one = few_by w.profile s.profile sh.agrees.same_profile one (s.sets_of p) (sh.lawful.few_sets p)

-- what the tables have of a port whose receive right is named
pub has_port : (w : WorldView) (task name p : ℕ) → Stands w → FindsReceive w task name p → HasPort w p
has_port w task name p stands f =
    let s = stands.state in
    let a = stands.shown.agrees in
    let live = receive_port_lives w task name p f s stands.shown in
    let x = port_there w s a p live in
    let few = few_queued s stands.shown.lawful p live in
    let many = as_many p (x.0).queue (queue s p) (a.ports p x.0 x.1).waiting in
    let le = count_le (is_of send_once p) (λ x. true) (λ x h. refl) s.ledger in
    let all = length-weigh s.ledger in
    let rights = stands.shown.lawful.few_rights in
    let onces = (a.counts p).once_rights in
    record { v = x.0; there = x.1; entered = port_entered w s a p live; few = omega (arith, few, many); few_sets = λ not_several. subst (λ (xs : List ℕ). length xs ≤ 1) (sym (a.ports p x.0 x.1).sets) (few_sets w s stands.shown p not_several); few_once = omega (arith, le, all, rights, onces) }

pub status_told : (w : WorldView) (task name p : ℕ) (status : Status) → HasTask w task → FindsReceive w task name p → TellsPort w p status →
    Completes w (Event.ReceiveStatus task name) (Reply.Status status) w
status_told w task name p status below f t = done w (Event.ReceiveStatus task name) (Reply.Status status) w below (receive_allowed w task name p f)
    (λ now s sh. looked w (Event.ReceiveStatus task name) (Reply.Status status) now s sh tt (refl, refl) (subst (TellsStatus s task name) (sym t.is) (tells w s sh task name p f t.v t.there)))

-- ---- numbers that are set

module _ (w : WorldView) (task name limit : ℕ) (below : HasTask w task) where
  pub limit_too_great : greatest_limit < limit → Declines w (Event.SetQlimit task name limit) (kern_number InvalidValue) w
  limit_too_great many = refused w (Event.SetQlimit task name limit) below (kern_number InvalidValue) (record { refused = λ s sh. inl (many, refl) })

  pub limit_refused : limit ≤ greatest_limit → (code : ℕ) → IsRefused w (λ s. receive_guards s task name) code → IsRefused w (λ s. call_guards s (Event.SetQlimit task name limit)) code
  limit_refused few code r = record { refused = λ s sh. inr ((λ many. omega (arith, few, many)), r.refused s sh) }

module _ (w : WorldView) (task name p : ℕ) (below : HasTask w task) (f : FindsReceive w task name p) (b : Attributes) (h : HasAttributes w p b) (new : WorldView) (n : ℕ) where
  pub limit_set : n ≤ greatest_limit → SetsAttributes w p (record b { limit = n }) new → Completes w (Event.SetQlimit task name n) (Reply.Code 0) new
  limit_set few r = done w (Event.SetQlimit task name n) (Reply.Code 0) new below
      (record { allowed = λ s sh. ((λ many. omega (arith, few, many)), (receive_allowed w task name p f).allowed s sh) })
      (λ now s sh. let a = sh.agrees in sets_so w p b h (record b { limit = n }) refl new r (Event.SetQlimit task name n) now s (record s { limit = at s.limit p n }) sh
      (refl, (p, finds_port w task name p f s a, finds_held w task name p f s a, refl), refl) tt tt (limit_agrees w s a p b h n new r))

  pub make_send_set : n < 2 ^ 32 → SetsAttributes w p (record b { make_send = n }) new → Completes w (Event.SetMscount task name n) (Reply.Code 0) new
  make_send_set fits r = done w (Event.SetMscount task name n) (Reply.Code 0) new below (receive_allowed w task name p f)
      (λ now s sh. let a = sh.agrees in sets_so w p b h (record b { make_send = n }) refl new r (Event.SetMscount task name n) now s (record s { make_send = at s.make_send p n }) sh
      (refl, fits, (p, finds_port w task name p f s a, finds_held w task name p f s a, refl), refl) tt tt (make_send_agrees w s a p b h n new r))

  pub sequence_set : n < 2 ^ 32 → SetsAttributes w p (record b { sequence = n }) new → Completes w (Event.SetSeqno task name n) (Reply.Code 0) new
  sequence_set fits r = done w (Event.SetSeqno task name n) (Reply.Code 0) new below (receive_allowed w task name p f)
      (λ now s sh. let a = sh.agrees in sets_so w p b h (record b { sequence = n }) refl new r (Event.SetSeqno task name n) now s (record s { sequence = at s.sequence p n }) sh
      (refl, fits, (p, finds_port w task name p f s a, finds_held w task name p f s a, refl), refl) tt tt (sequence_agrees w s a p b h n new r))
