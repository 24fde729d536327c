-- What is left of a task as it ends, until it is gone.
use Rattle.std.proofs.Common.{◌≡◌, ℕ, zero, suc, ◌+◌, ◌≤◌, List, Some, refl, sym, ap, subst, arith, Bool, true, false, inr, Option, None, ◌∙◌, inl, ◌++◌, ◌⊎◌, length, ◌^◌, get_or}
use Rattle.std.specs.Prelude.{if◌then◌else◌, ◌&&◌, replicate, slice_set, ◌≢◌, ◌<◌, is_some, ◌==◌, Contains, filter, not, nat_lt}
use Rattle.std.specs.FinMap as map
use Rattle.std.proofs.lemmas.Bool.Decides.{eqb_tells}
use Rattle.std.specs.Option.{option_map}
use Rattle.std.proofs.lemmas.Bool.{eq-eqb, ne_eqb, ltb-true}
use Rattle.std.proofs.lemmas.List.{append-nil}
use Rattle.std.proofs.lemmas.List.Elements.{All-append, All-replicate}
use Rattle.std.specs.FinMap.{get-empty}
use Rattle.std.specs.Ordering.{nat_cmp}
use Rattle.std.proofs.Math.Path.{fun_ext}
use Rattle.mach_types.specs.Tokens.{Kind, receive, send, send_once, Request, in_task, in_message, in_request, Place, Token, token, weigh, count, is_of, is_held, same_kind, no_senders, port_destroyed, dead_name, is_in_task}
use Rattle.mach_model.specs.State.{State, Target, Names, lookup, held, at}
use Rattle.mach_model.specs.Death.{same_place}
use Rattle.mach_model.specs.Lawful.{IsLawful, LawfulNames, is_once, onces}
use Rattle.mach_model.specs.References.{unused_among}
use Rattle.mach_model.proofs.Names.{at_own, same_naming, both_test, at_other, weigh-append, length-weigh, held_le_of, port_kept, port_unnamed, all_unused, no_values, count_none, count_some, pos_or_zero}
use Rattle.mach_model.proofs.Copying.{own_right, other_port}
use Rattle.mach_model.proofs.Moving.{TaskNaming}
use Rattle.mach_model.proofs.Settling.{named_lives, once_lives, kind_refl}
use Rattle.mach_model.specs.Telling.{one_if}
use Rattle.mach_model.specs.Tasks.{ends_with, is_owner}
use Rattle.mach_model.specs.Unused.{onces_queued}
use Rattle.rights.specs.Counts.{with_fewer}
use Rattle.rights.specs.Ledger.{LedgerView, counts_of, taken}
use Rattle.rights.specs.declared.Counts.{Counts}
use Rattle.rights.specs.declared.RightKind.{RightKind}
use Rattle.rights.specs.declared.RightKind.TheVariants as right
use Rattle.name_space.specs.Names.{SpaceView}
use Rattle.name_space.specs.declared.Entry.{Entry}
use Rattle.name_space.specs.Entry.{port_named, has_receive, send_references, port_of}
use Rattle.name_space.specs.declared.Entry.TheVariants as entry_of
use Rattle.port.specs.Ports.{PortsView, PortView}
use Rattle.port.specs.declared.Holder.TheVariants as by
use Rattle.port_set.specs.declared.SetRecord.{SetRecord}
use Rattle.request_table.specs.declared.Request.{Request as NameRequest}
use Rattle.request_table.specs.Requests.{name_key}
use Rattle.copyin_base.proofs.Removed.{each-closed}
use Rattle.copyin_base.specs.Posted.{with_posted}
use Rattle.copyin_base.specs.Shows.{GivenAgrees, CountsAgree, target_of, HasCount, ShowsPort, Agrees, RequestsStand, SlotsSuffice, Shows, HoldersAgree}
use Rattle.copyin_base.proofs.Counting.{one_of, none_of_port, right_of, counts_agree}
use Rattle.copyin_base.proofs.Taking.{take_held}
use Rattle.copyin_base.specs.Kept.{Kept}
use Rattle.request_table.specs.Tables.{RequestTablesView}
use Rattle.copyin_base.specs.Requests.{requests_after, notify_of}
use Rattle.copyin_base.specs.Worlds.{WorldView, space_in, space_at, with_space, put, entry_in, entry_at, port_at}
use Rattle.tables_base.proofs.Reading.{named_port}
use Rattle.copyin_base.proofs.Changing.{named_no_set, target_named, changed_agrees}
use Rattle.copyin_base.proofs.Gets.{same_found, of_some, length-set}
use Rattle.copyin_base.proofs.Putting.{each_put, put_same}
use Rattle.copyin_base.proofs.Requesting.{stands_after, same_key}
use Rattle.copyin_base.proofs.Carriers.{carriers_same}
use Rattle.copyin_base.proofs.Holders.{IsReceive, none_receives, put_holders_left}
use Rattle.copyin_base.proofs.Requested.{requested_left, requested_ports, KeepsRight, keeps_same, requested_kept}
use Rattle.copyin_base.proofs.SendersNoted.{noted_agrees, noted_holders, noted_carriers, noted_slots, noted_requested, counts_own, counts_other, senders_fallen, sends_elsewhere, keeps_senders_same, senders_kept}
use Rattle.notifications.proofs.Removing.{Part, with_part, IsPart, ShowsPart, SendsGo, EndsFrom, HasNoNames}
use Rattle.notifications.proofs.MessageRights.{logs_with, rights_with, posted_is, Spares, spared, rights_weigh, unused_append, unused_none}
use Rattle.notifications.specs.Ending.{HasEnded, Ends}

-- ---- What is left of a task as it ends, before the tables come in: how its rights are counted, and how many of them go.

-- ---- so many equal rights

pub weigh_alike : (h : Token → ℕ) (n : ℕ) (x : Token) → h x ≡ 1 → weigh h (replicate n x) ≡ n
weigh_alike h zero x e = refl
weigh_alike h (suc n) x e = let r = weigh_alike h n x e in omega (arith, r, e)

pub weigh_unlike : (h : Token → ℕ) (n : ℕ) (x : Token) → h x ≡ 0 → weigh h (replicate n x) ≡ 0
weigh_unlike h zero x e = refl
weigh_unlike h (suc n) x e = let r = weigh_unlike h n x e in omega (arith, r, e)

pub record Takes (x : Token) (k : ℕ) (xs : List Token) : Type 0 where
  pub others : List Token
  pub parts : (h : Token → ℕ) → weigh h others + weigh h (replicate k x) ≡ weigh h xs

pub take_many : (task : ℕ) (kind : Kind) (p k : ℕ) (xs : List Token) → same_kind kind kind ≡ true → k ≤ count (is_held task kind p) xs → Takes (token kind p (in_task task)) k xs
take_many task kind p zero xs e enough = record { others = xs; parts = λ h. omega arith }
take_many task kind p (suc k) xs e enough =
    let one = take_held task kind p xs (omega (arith, enough)) in
    let left = one.parts (λ x. if is_held task kind p x then 1 else 0) in
    let own = own_right task kind p e in
    let rest = take_many task kind p k one.others e (omega (arith, enough, left, own)) in
    record { others = rest.others; parts = λ h. let a = rest.parts h in let b = one.parts h in omega (arith, a, b) }

-- ---- the counts of a port after so many of its receive or send rights went

module _ (l : LedgerView) (live : ℕ → Bool) (tokens : List Token) (queued : ℕ → ℕ) (a : (q : ℕ) → CountsAgree l live tokens queued q) (kind : Kind) (p : ℕ) (place : Place) (lives : live p ≡ true)
    (not_once : kind ≡ send_once → ⊥) (n : ℕ) (others : List Token) (parts : (h : Token → ℕ) → weigh h others + weigh h (replicate n (token kind p place)) ≡ weigh h tokens) where
  pub many_taken : (q : ℕ) → CountsAgree (taken l p (right_of kind) n) live others queued q
  many_taken = counts_agree l live tokens queued a (taken l p (right_of kind) n) live others queued p (with_fewer (right_of kind) n (counts_of l p)) refl (sym lives)
      (receives kind (parts (λ x. if is_of receive p x then 1 else 0)))
      (sends kind (parts (λ x. if is_of send p x then 1 else 0)))
      (onces kind not_once (parts (λ x. if is_of send_once p x then 1 else 0))) (destinations kind)
      (λ q not. (refl, refl, λ c. let m = parts (λ x. if is_of c q x then 1 else 0) in let z = weigh_unlike (λ x. if is_of c q x then 1 else 0) n (token kind p place) (none_of_port kind c p q place not) in omega (arith, m, z)))
    where
      receives : (k : Kind) → count (is_of receive p) others + weigh (λ x. if is_of receive p x then 1 else 0) (replicate n (token k p place)) ≡ count (is_of receive p) tokens →
          (with_fewer (right_of k) n (counts_of l p)).receive ≡ count (is_of receive p) others
      receives receive m = let x = (a p).receivers in let o = weigh_alike (λ x. if is_of receive p x then 1 else 0) n (token receive p place) (one_of receive p place refl) in omega (arith, x, m, o)
      receives send m = let x = (a p).receivers in let o = weigh_unlike (λ x. if is_of receive p x then 1 else 0) n (token send p place) refl in omega (arith, x, m, o)
      receives send_once m = let x = (a p).receivers in let o = weigh_unlike (λ x. if is_of receive p x then 1 else 0) n (token send_once p place) refl in omega (arith, x, m, o)

      sends : (k : Kind) → count (is_of send p) others + weigh (λ x. if is_of send p x then 1 else 0) (replicate n (token k p place)) ≡ count (is_of send p) tokens →
          (with_fewer (right_of k) n (counts_of l p)).send ≡ count (is_of send p) others
      sends receive m = let x = (a p).senders in let o = weigh_unlike (λ x. if is_of send p x then 1 else 0) n (token receive p place) refl in omega (arith, x, m, o)
      sends send m = let x = (a p).senders in let o = weigh_alike (λ x. if is_of send p x then 1 else 0) n (token send p place) (one_of send p place refl) in omega (arith, x, m, o)
      sends send_once m = let x = (a p).senders in let o = weigh_unlike (λ x. if is_of send p x then 1 else 0) n (token send_once p place) refl in omega (arith, x, m, o)

      onces : (k : Kind) → (k ≡ send_once → ⊥) → count (is_of send_once p) others + weigh (λ x. if is_of send_once p x then 1 else 0) (replicate n (token k p place)) ≡ count (is_of send_once p) tokens →
          (with_fewer (right_of k) n (counts_of l p)).send_once + (with_fewer (right_of k) n (counts_of l p)).destination ≡ count (is_of send_once p) others
      onces receive not m = let x = (a p).once_rights in let o = weigh_unlike (λ x. if is_of send_once p x then 1 else 0) n (token receive p place) refl in omega (arith, x, m, o)
      onces send not m = let x = (a p).once_rights in let o = weigh_unlike (λ x. if is_of send_once p x then 1 else 0) n (token send p place) refl in omega (arith, x, m, o)
      onces send_once not m = absurd (not refl)

      destinations : (k : Kind) → (with_fewer (right_of k) n (counts_of l p)).destination ≡ queued p
      destinations receive = (a p).destinations lives
      destinations send = (a p).destinations lives
      destinations send_once = (a p).destinations lives

-- ---- the state that the tables show

-- tests that no send-once right in a message passes
pub spares_held : (t : ℕ) (kind : Kind) (q : ℕ) → Spares (λ x. if is_held t kind q x then 1 else 0)
spares_held t kind q p o k = both_test (is_of kind q (token send_once p (in_message o k))) false (inr refl)

pub spares_kept : (r : Request) (kind : Kind) (q : ℕ) → Spares (λ x. if is_of kind q x && same_place (in_request r) x.place then 1 else 0)
spares_kept r kind q p o k = both_test (is_of kind q (token send_once p (in_message o k))) false (inr refl)

module _ (now : ℕ) (s : State) (task : ℕ) (x : Part) where
  abbrev pub shown : State
  shown = record (with_part s task x) { log = logs_with now s.log (unused_among x.gone); ledger = rights_with now s.log (unused_among x.gone) x.kept }

  pub shown_is : with_posted now (with_part s task x) (unused_among x.gone) ≡ shown
  shown_is = posted_is now (with_part s task x) (unused_among x.gone)

  pub held_shown : (t : ℕ) (kind : Kind) (q : ℕ) → held shown t kind q ≡ count (is_held t kind q) x.kept
  held_shown t kind q = spared (λ y. if is_held t kind q y then 1 else 0) (spares_held t kind q) now s.log x.gone x.kept

  module _ (l : IsLawful s) (is : IsPart s task x) where
    pub lawful_naming : TaskNaming shown task
    lawful_naming = grind (arith, at_own, same_naming, held_shown)

    pub looked_up : (name : ℕ) → lookup shown task name ≡ map.get x.names name
    looked_up name = ap (λ (m : Names). map.get m name) (at_own s.naming task x.names)

    pub part_lives : (name p : ℕ) → map.get x.names name ≡ Some (Target.port p) → s.live_port p ≡ true
    part_lives name p e = named_lives s l task name p (is.fewer name (Target.port p) e)

    pub part_once_lives : (name p : ℕ) → map.get x.names name ≡ Some (Target.once p) → s.live_port p ≡ true
    part_once_lives name p e = once_lives s l task name p (is.fewer name (Target.once p) e)

-- ---- A name's receive right, or its send rights, are gone, in the tables and in the machine alike.

-- the request that ended with its name is of the task
pub stood_left : {A : Type 0} (s : State) (task name : ℕ) (stands : Request → Bool) (left : Option A) → ((r : Request) → (stands r ≡ s.stands r) ⊎ (stands r ≡ false) × (ends_with task r ≡ true)) →
    (r : Request) → (stands_after stands task name left r ≡ s.stands r) ⊎ (stands_after stands task name left r ≡ false) × (ends_with task r ≡ true)
stood_left s task name stands (Some e) was r = was r
stood_left s task name stands None was (no_senders p) = was (no_senders p)
stood_left s task name stands None was (port_destroyed p) = was (port_destroyed p)
stood_left s task name stands None was (dead_name t n) = grind arith

-- what is left under the name stood there
pub fewer_left : (names own : Names) (name : ℕ) (o : Option Target) → ((target : Target) → o ≡ Some target → map.get own name ≡ Some target) →
    ((n : ℕ) (target : Target) → map.get names n ≡ Some target → map.get own n ≡ Some target) → (n : ℕ) (target : Target) → map.get (put names name o) n ≡ Some target → map.get own n ≡ Some target
fewer_left names own name o here was n target e = each_put names name o (λ k y. (x : Target) → y ≡ Some x → map.get own k ≡ Some x) here (λ k not x is. was k x is) n target e

module _ (now : ℕ) (s : State) (task : ℕ) (x : Part) (l : IsLawful s) (is : IsPart s task x) (k : Kind) (not_once : k ≡ send_once → ⊥) (p : ℕ) where
  abbrev tok : Token
  tok = token k p (in_task task)

  abbrev pub number : ℕ
  number = count (is_held task k p) x.kept

  pub takes : Takes tok number x.kept
  takes = take_many task k p number x.kept (kind_refl k) (omega arith)

  abbrev pub kept_then : List Token
  kept_then = takes.others

  pub kept_unlike : (h : Token → ℕ) → h tok ≡ 0 → weigh h kept_then ≡ weigh h x.kept
  kept_unlike h z = let a = takes.parts h in let b = weigh_unlike h number tok z in omega (arith, a, b)

  pub kept_alike : (h : Token → ℕ) → h tok ≡ 1 → weigh h kept_then + number ≡ weigh h x.kept
  kept_alike h o = let a = takes.parts h in let b = weigh_alike h number tok o in omega (arith, a, b)

  pub none_held : count (is_held task k p) kept_then ≡ 0
  none_held = let a = kept_alike (λ y. if is_held task k p y then 1 else 0) (own_right task k p (kind_refl k)) in omega (arith, a)

  abbrev pub ledger_then : List Token
  ledger_then = rights_with now s.log (unused_among x.gone) kept_then

  pub parts_then : (h : Token → ℕ) → weigh h ledger_then + weigh h (replicate number tok) ≡ weigh h (shown now s task x).ledger
  parts_then h = grind (arith, takes, rights_weigh)

  pub ledger_unlike : (h : Token → ℕ) → h tok ≡ 0 → weigh h ledger_then ≡ weigh h (shown now s task x).ledger
  ledger_unlike h z = let a = parts_then h in let b = weigh_unlike h number tok z in omega (arith, a, b)

  -- the same notices are owed
  not_owed : unused_among (x.gone ++ replicate number tok) ≡ unused_among x.gone
  not_owed = grind (arith, unused_append, unused_none, append-nil)

  in_own : is_in_task task (in_task task) ≡ true
  in_own = eq-eqb task task refl

  module _ (name : ℕ) (left : Option Entry) where
    abbrev pub names_then : Names
    names_then = put x.names name (option_map target_of left)

    abbrev pub part_then : Part
    part_then = record { names = names_then; stands = stands_after x.stands task name left; disbanded = x.disbanded; gone = x.gone ++ replicate number tok; kept = kept_then }

    abbrev t : State
    t = record (shown now s task x) { naming = at s.naming task names_then; stands = stands_after x.stands task name left; ledger = ledger_then }

    pub then_is : with_posted now (with_part s task part_then) (unused_among part_then.gone) ≡ t
    then_is = grind (arith, posted_is, with_part, logs_with, rights_with, not_owed)

    pub is_part_then : LawfulNames names_then (λ kind q. count (is_held task kind q) kept_then) → ((target : Target) → option_map target_of left ≡ Some target → map.get (s.naming task) name ≡ Some target) →
        IsPart s task part_then
    is_part_then lawful here = record {
      fewer = fewer_left x.names (s.naming task) name (option_map target_of left) here is.fewer;
      named = lawful;
      stood = stood_left s task name x.stands left is.stood;
      owned = is.owned;
      moves = λ h. let a = is.moves h in let b = takes.parts h in let c = weigh-append h x.gone (replicate number tok) in omega (arith, a, b, c);
      own = All-append (λ y. is_in_task task y.place ≡ true) x.gone (replicate number tok) is.own (All-replicate (λ (y : Token). is_in_task task y.place ≡ true) number tok in_own);
    }

    module _ (w : WorldView) (a : Agrees w (shown now s task x)) (requested : RequestsStand w) (space : SpaceView) (there : space_at w task ≡ Some space)
        (entry : Entry) (found : map.get space.names name ≡ Some entry) (named : port_named entry ≡ Some p) where
      target_is : map.get x.names name ≡ Some (Target.port p)
      target_is = sym (looked_up now s task x l is name) ∙ a.naming task name ∙ ap (option_map target_of) (at_name ∙ found) ∙ ap Some (target_named entry p named)
        where
          at_name : entry_at w task name ≡ map.get space.names name
          at_name = ap (λ (o : Option SpaceView). entry_in o name) there

      lives : s.live_port p ≡ true
      lives = part_lives now s task x l is name p target_is

      total : (taken w.ledger p (right_of k) number).total ≡ length ledger_then
      total = grind (arith, parts_then, weigh_alike, length-weigh, shown)

      -- What is left under the name is right, and so are the ports.
      module _ (ports : PortsView Kept) (made : ports.made ≡ w.ports.made) (same_live : (q : ℕ) → is_some (map.get ports.ports q) ≡ is_some (map.get w.ports.ports q))
          (shows : (q : ℕ) (v : PortView Kept) → map.get ports.ports q ≡ Some v → ShowsPort v (shown now s task x) q)
          (own_left : (e : Entry) → left ≡ Some e → HasCount e × (port_named e ≡ Some p) × (count (is_held task receive p) kept_then ≡ one_if (has_receive e)) × (count (is_held task send p) kept_then ≡ send_references e)) where
        abbrev pub tables_then : WorldView
        tables_then = record (with_space w task (record space { names = put space.names name left })) {
          ports = ports;
          ledger = taken w.ledger p (right_of k) number;
          requests = requests_after w.requests task name left;
        }

        held_then : (kind : Kind) (q : ℕ) → held t task kind q ≡ count (is_held task kind q) kept_then
        held_then kind q = spared (λ y. if is_held task kind q y then 1 else 0) (spares_held task kind q) now s.log x.gone kept_then

        agrees_then : Agrees tables_then t
        agrees_then = changed_agrees w (shown now s task x) a task name (lawful_naming now s task x l is) space there entry found left space.room ports
            (taken w.ledger p (right_of k) number) t own requested record {
              rest = refl;
              naming_others = λ q not. at_other s.naming task names_then q not ∙ sym (at_other s.naming task x.names q not);
              held_others = λ q not c r. ledger_unlike (λ y. if is_held q c r y then 1 else 0) (both_test (is_of c r tok) (task == q) (inr (ne_eqb task q (λ e. not (sym e)))));
              own_references = λ e q is_e en.
                  let o = own_left e is_e in
                  subst (λ (r : ℕ). (held t task receive r ≡ one_if (has_receive e)) × (held t task send r ≡ send_references e)) (same_found (port_named e) p q o.1 en)
                  (held_then receive p ∙ o.2, held_then send p ∙ o.3);
              other_references = λ q not.
                  let far : q ≡ p → ⊥ = (λ e. not (named ∙ ap Some (sym e))) in (
                    ledger_unlike (λ y. if is_held task receive q y then 1 else 0) (other_port task task receive k q p far),
                    ledger_unlike (λ y. if is_held task send q y then 1 else 0) (other_port task task send k q p far),
                  );
              own_count = λ e is_e. (own_left e is_e).0;
              made = made;
              live = same_live;
              ports = shows;
              counts = many_taken w.ledger s.live_port (shown now s task x).ledger (onces_queued (shown now s task x)) a.counts k p (in_task task) lives not_once number ledger_then parts_then;
              total = total;
              stands = λ r. refl;
              requests = λ r c q. ledger_unlike (λ y. if is_of c q y && same_place (in_request r) y.place then 1 else 0) (both_test (is_of c q tok) false (inr refl));
              no_set = named_no_set entry p named;
              given = refl;
            }
          where
            own : t.naming task ≡ put ((shown now s task x).naming task) name (option_map target_of left)
            own = at_own s.naming task names_then ∙ ap (λ (m : Names). put m name (option_map target_of left)) (sym (at_own s.naming task x.names))

        pub posted_then : Agrees tables_then (with_posted now (with_part s task part_then) (unused_among part_then.gone))
        posted_then = subst (Agrees tables_then) (sym then_is) agrees_then

-- ---- A name lost its send references: the tables show what is left of the task.

-- ---- the counts after receive or send rights went

-- none comes, and no send-once right goes
pub taken_counts : (l : LedgerView) (p : ℕ) (kind : RightKind) (n q : ℕ) → (kind ≡ right.SendOnce → ⊥) → (kind ≡ right.Destination → ⊥) →
    ((counts_of (taken l p kind n) q).send ≤ (counts_of l q).send) × ((counts_of (taken l p kind n) q).send_once ≡ (counts_of l q).send_once)
taken_counts l p kind n q not_once not_destination = elim (eqb_tells q p) [
  | inl h ↦ subst (λ (x : ℕ). ((counts_of (taken l p kind n) x).send ≤ (counts_of l x).send) × ((counts_of (taken l p kind n) x).send_once ≡ (counts_of l x).send_once)) (sym h.1)
      (subst (λ (c : Counts). (c.send ≤ (counts_of l p).send) × (c.send_once ≡ (counts_of l p).send_once)) (sym (counts_own l p (with_fewer kind n (counts_of l p)) (taken l p kind n) refl)) (go kind not_once not_destination))
  | inr h ↦ let other = counts_other l p (with_fewer kind n (counts_of l p)) (taken l p kind n) refl q h.1 in
      subst (λ (c : Counts). (c.send ≤ (counts_of l q).send) × (c.send_once ≡ (counts_of l q).send_once)) (sym other) (omega arith, refl)
]
  where
    go : (k : RightKind) → (k ≡ right.SendOnce → ⊥) → (k ≡ right.Destination → ⊥) →
        ((with_fewer k n (counts_of l p)).send ≤ (counts_of l p).send) × ((with_fewer k n (counts_of l p)).send_once ≡ (counts_of l p).send_once)
    go right.Receive x y = (omega arith, refl)
    go right.Send x y = (omega arith, refl)
    go right.SendOnce x y = absurd (x refl)
    go right.Destination x y = absurd (y refl)

pub send_not_once : send ≡ send_once → ⊥
send_not_once e = cc

right_not_once : right.Send ≡ right.SendOnce → ⊥
right_not_once e = cc

right_not_destination : right.Send ≡ right.Destination → ⊥
right_not_destination e = cc

same_senders : (v : RequestTablesView) (task name : ℕ) (left : Option Entry) → (requests_after v task name left).no_senders ≡ v.no_senders
same_senders v task name None = refl
same_senders v task name (Some e) = refl

-- ---- in the tables

module _ (now : ℕ) (start : WorldView) (task : ℕ) (s : State) (sh : Shows start s) (w : WorldView) (sp : ShowsPart now start task s w)
    (name p n : ℕ) (entry : Entry) (found : entry_at w task name ≡ Some entry) (named : port_named entry ≡ Some p) (counted : send_references entry ≡ n) (some : 0 < n) (left : Option Entry) where
  abbrev x : Part
  x = sp.part

  pub agrees_shown : Agrees w (shown now s task x)
  agrees_shown = subst (Agrees w) (shown_is now s task x) sp.agrees

  pub held_before : (count (is_held task receive p) x.kept ≡ one_if (has_receive entry)) × (count (is_held task send p) x.kept ≡ n)
  held_before =
      let r = agrees_shown.references task name entry p found named in
      (sym (held_shown now s task x task receive p) ∙ r.0, sym (held_shown now s task x task send p) ∙ r.1 ∙ counted)

  pub target_before : map.get x.names name ≡ Some (Target.port p)
  target_before = grind (arith, looked_up, agrees_shown, target_named)

  abbrev kept : List Token
  kept = kept_then now s task x sh.lawful sp.is_part send send_not_once p

  pub receives_stay : (q : ℕ) → count (is_of receive q) kept ≡ count (is_of receive q) x.kept
  receives_stay q = kept_unlike now s task x sh.lawful sp.is_part send send_not_once p (λ y. if is_of receive q y then 1 else 0) refl

  pub receives_held : count (is_held task receive p) kept ≡ one_if (has_receive entry)
  receives_held = kept_unlike now s task x sh.lawful sp.is_part send send_not_once p (λ y. if is_held task receive p y then 1 else 0) refl ∙ held_before.0

  pub sends_held : count (is_held task send p) kept ≡ 0
  sends_held = none_held now s task x sh.lawful sp.is_part send send_not_once p

  pub onces_held : (q : ℕ) → count (is_held task send_once q) kept ≡ count (is_held task send_once q) x.kept
  onces_held q = kept_unlike now s task x sh.lawful sp.is_part send send_not_once p (λ y. if is_held task send_once q y then 1 else 0) refl

  -- What is left is right.
  module _ (lawful : LawfulNames (names_then now s task x sh.lawful sp.is_part send send_not_once p name left) (λ kind q. count (is_held task kind q) kept))
      (here : (target : Target) → option_map target_of left ≡ Some target → map.get (s.naming task) name ≡ Some target)
      (own_left : (e : Entry) → left ≡ Some e → HasCount e × (port_named e ≡ Some p) × (count (is_held task receive p) kept ≡ one_if (has_receive e)) × (count (is_held task send p) kept ≡ send_references e))
      (fewer : (q : ℕ) → IsReceive left q → IsReceive (entry_at w task name) q) (v : WorldView) (r : SendsGo w task name p n left v) where
    abbrev fallen : WorldView
    fallen = record r.named { ledger = taken r.named.ledger p right.Send n }

    at_name : map.get r.puts.space.names name ≡ Some entry
    at_name = sym (ap (λ (o : Option SpaceView). entry_in o name) r.puts.there) ∙ found

    abbrev tables_lost : WorldView
    tables_lost = tables_then now s task x sh.lawful sp.is_part send send_not_once p name left w agrees_shown sp.requested r.puts.space r.puts.there entry at_name named w.ports refl (λ q. refl) (λ q y is. agrees_shown.ports q y is) own_left

    fallen_is : fallen ≡ tables_lost
    fallen_is = λ i. record (r.puts.rest i) { ledger = taken (r.puts.rest i).ledger p right.Send (sym held_before.1 i) }

    ports_is : fallen.ports ≡ w.ports
    ports_is = ap (λ (y : WorldView). y.ports) fallen_is

    after_is : v.ports.lost ≡ w.ports.lost
    after_is = ap (λ (y : WorldView). y.ports.lost) r.notes.rest ∙ ap (λ (y : PortsView Kept). y.lost) ports_is

    ledger_is : v.ledger ≡ taken w.ledger p right.Send n
    ledger_is = ap (λ (y : WorldView). y.ledger) r.notes.rest ∙ ap (λ (y : WorldView). taken y.ledger p right.Send n) r.puts.rest

    abbrev part : Part
    part = part_then now s task x sh.lawful sp.is_part send send_not_once p name left

    requested_fallen : RequestsStand fallen
    requested_fallen = requested_ports r.named fallen
        (requested_left w r.named sp.requested task name left r.puts (λ e y q is_e at for.
        let same : entry ≡ y = same_found (entry_at w task name) entry y found at in
        let e_port : port_of e ≡ Some p = named_port e p (own_left e is_e).1 in
        let y_port : port_of y ≡ Some p = ap port_of (sym same) ∙ named_port entry p named in
        e_port ∙ sym y_port ∙ for))
        (λ q lives. lives) refl refl

    had : n ≤ (counts_of w.ledger p).send
    had = grind (arith, held_before.1, held_shown now s task x task send p, (agrees_shown.counts p).senders, held_le_of task send p (shown now s task x).ledger)

    pub sends_lost : ShowsPart now start task s v
    sends_lost = record {
      part = part;
      is_part = is_part_then now s task x sh.lawful sp.is_part send send_not_once p name left lawful here;
      agrees = noted_agrees fallen v p r.notes (with_posted now (with_part s task part) (unused_among part.gone)) (subst (λ (y : WorldView). Agrees y (with_posted now (with_part s task part) (unused_among part.gone))) (sym fallen_is)
          (posted_then now s task x sh.lawful sp.is_part send send_not_once p name left w agrees_shown sp.requested r.puts.space r.puts.there entry at_name named w.ports refl (λ q. refl) (λ q y is. agrees_shown.ports q y is) own_left));
      holders = noted_holders fallen v p r.notes (let h = put_holders_left w r.named sp.holders task name left r.puts fewer in record { held = h.held });
      carriers = noted_carriers fallen v p r.notes (carriers_same w fallen sp.carriers (ap (λ (y : PortsView Kept). y.made) ports_is) (ap (λ (y : PortsView Kept). y.ports) ports_is));
      slots = noted_slots fallen v p r.notes (subst SlotsSuffice (sym fallen_is) (let q = sp.slots in omega (arith, q)));
      requested = noted_requested fallen v p r.notes requested_fallen;
      notes = senders_fallen start w v sp.notes p fallen
          (ap (λ (y : WorldView). y.requests.no_senders) r.puts.rest ∙ same_senders w.requests task name left)
          (ap (λ (y : PortsView Kept). y.noted) ports_is) sp.requested
          (λ q not. subst (λ (y : WorldView). (counts_of (taken y.ledger p right.Send n) q).send ≡ (counts_of w.ledger q).send) (sym r.puts.rest) (sends_elsewhere w.ledger p right.Send n q not))
          (λ none. let h = had in let b = sp.sends p in omega (arith, h, b, some))
          r.notes;
      left = record {
        doomed = ap (λ (y : WorldView). y.ports.doomed) r.notes.rest ∙ ap (λ (y : PortsView Kept). y.doomed) ports_is ∙ sp.left.doomed;
        destroyed = ap (λ (y : WorldView). y.ports.destroyed) r.notes.rest ∙ ap (λ (y : PortsView Kept). y.destroyed) ports_is ∙ sp.left.destroyed;
        lost = λ q c. let o = sp.left.lost q (subst (λ (ys : List ℕ). Contains ys q) after_is c) in (o.0, receives_stay q ∙ o.1);
        orphans = λ q o. subst (λ (ys : List ℕ). Contains ys q) (sym after_is) (sp.left.orphans q (o.0, sym (receives_stay q) ∙ o.1));
      };
      sends = λ q.
          let c = (taken_counts w.ledger p right.Send n q right_not_once right_not_destination).0 in
          let b = sp.sends q in
          let same : (counts_of v.ledger q).send ≡ (counts_of (taken w.ledger p right.Send n) q).send = ap (λ (l : LedgerView). (counts_of l q).send) ledger_is in omega (arith, c, b, same);
      onces = λ q.
          let c = (taken_counts w.ledger p right.Send n q right_not_once right_not_destination).1 in
          let b = sp.onces q in
          let k = onces_held q in
          let same : (counts_of v.ledger q).send_once ≡ (counts_of (taken w.ledger p right.Send n) q).send_once = ap (λ (l : LedgerView). (counts_of l q).send_once) ledger_is in omega (arith, c, b, k, same);
    }

-- ---- of a name that has only them, and of one that has a receive right too

no_entry : (e : Entry) → None ≡ Some e → ⊥
no_entry e f = cc

no_target : (t : Target) → None ≡ Some t → ⊥
no_target t f = cc

module _ (now : ℕ) (start : WorldView) (task : ℕ) (s : State) (sh : Shows start s) (w : WorldView) (sp : ShowsPart now start task s w) (name p n : ℕ) where
  a : Agrees w (shown now s task sp.part)
  a = subst (Agrees w) (shown_is now s task sp.part) sp.agrees

  abbrev rights : List Token → Kind → ℕ → ℕ
  rights tokens kind q = count (is_held task kind q) tokens

  abbrev kept_now : List Token
  kept_now = kept_then now s task sp.part sh.lawful sp.is_part send send_not_once p

  far : (kind : Kind) (q : ℕ) → (q ≡ p → ⊥) → rights kept_now kind q ≡ rights sp.part.kept kind q
  far kind q not = grind (arith, kept_unlike, send_not_once, other_port)

  same_once : rights kept_now send_once p ≡ rights sp.part.kept send_once p
  same_once = kept_unlike now s task sp.part sh.lawful sp.is_part send send_not_once p (λ y. if is_held task send_once p y then 1 else 0) refl

  pub send_lost : (v : WorldView) → entry_at w task name ≡ Some (entry_of.Send p n) → SendsGo w task name p n None v → ShowsPart now start task s v
  send_lost v found r = sends_lost now start task s sh w sp name p n (entry_of.Send p n) found refl refl some None lawful
      (λ t e. absurd (no_target t e)) (λ e is_e. absurd (no_entry e is_e)) (λ q i. absurd (none_receives q i)) v r
    where
      some : 0 < n
      some = a.counted task name (entry_of.Send p n) found

      lawful : LawfulNames (map.remove sp.part.names name) (rights kept_now)
      lawful = port_unnamed sp.part.names (rights sp.part.kept) (rights kept_now) sp.is_part.named p far same_once name
          (target_before now start task s sh w sp name p n (entry_of.Send p n) found refl refl some None)
          (let y = receives_held now start task s sh w sp name p n (entry_of.Send p n) found refl refl some None in
          let z = sends_held now start task s sh w sp name p n (entry_of.Send p n) found refl refl some None in omega (arith, y, z))

  pub both_lost : (v : WorldView) → entry_at w task name ≡ Some (entry_of.ReceiveAndSend p n) → SendsGo w task name p n (Some (entry_of.Receive p)) v → ShowsPart now start task s v
  both_lost v found r = sends_lost now start task s sh w sp name p n (entry_of.ReceiveAndSend p n) found refl refl some (Some (entry_of.Receive p)) lawful
      (λ t e. sp.is_part.fewer name t (target ∙ e))
      (of_some (entry_of.Receive p) (λ e. HasCount e × (port_named e ≡ Some p) × (count (is_held task receive p) kept_now ≡ one_if (has_receive e)) × (count (is_held task send p) kept_now ≡ send_references e)) (tt, refl, receives, sends))
      (λ q i. record { entry = entry_of.ReceiveAndSend p n; is = found; named = the_port q i; receives = refl }) v r
    where
      some : 0 < n
      some = a.counted task name (entry_of.ReceiveAndSend p n) found

      target : map.get sp.part.names name ≡ Some (Target.port p)
      target = target_before now start task s sh w sp name p n (entry_of.ReceiveAndSend p n) found refl refl some (Some (entry_of.Receive p))

      receives : count (is_held task receive p) kept_now ≡ 1
      receives = receives_held now start task s sh w sp name p n (entry_of.ReceiveAndSend p n) found refl refl some (Some (entry_of.Receive p))

      sends : count (is_held task send p) kept_now ≡ 0
      sends = sends_held now start task s sh w sp name p n (entry_of.ReceiveAndSend p n) found refl refl some (Some (entry_of.Receive p))

      the_port : (q : ℕ) → IsReceive (Some (entry_of.Receive p)) q → Some p ≡ Some q
      the_port q i = let same : i.entry ≡ entry_of.Receive p = same_found (Some (entry_of.Receive p)) i.entry (entry_of.Receive p) i.is refl in sym (ap port_named same) ∙ i.named

      lawful : LawfulNames (map.insert sp.part.names name (Target.port p)) (rights kept_now)
      lawful = subst (λ m. LawfulNames m (rights kept_now)) (sym (put_same sp.part.names name (Target.port p) target))
          (port_kept sp.part.names (rights sp.part.kept) (rights kept_now) sp.is_part.named p far same_once name target (omega (arith, receives)) (omega (arith, sends)))

-- ---- No name of the task is left: with its space the task is gone, as the machine ends it.

no_some : {A : Type 0} (x_ended : A) → None ≡ Some x_ended → ⊥
no_some x_ended e = cc

-- a task that has no right of any kind has none
none_in_task : (task : ℕ) (xs : List Token) → ((kind : Kind) (q : ℕ) → count (is_held task kind q) xs ≡ 0) → count (λ x_ended. is_in_task task x_ended.place) xs ≡ 0
none_in_task task xs none = count_none (λ x_ended. is_in_task task x_ended.place) xs (λ k d below passes.
    let x_ended = get_or xs k d in
    let held : is_held task x_ended.kind x_ended.port x_ended ≡ true = rw (kind_refl x_ended.kind, eq-eqb x_ended.port x_ended.port refl, passes) refl in
    let some = count_some (is_held task x_ended.kind x_ended.port) xs k d below held in
    let zero = none x_ended.kind x_ended.port in omega (arith, some, zero))

module _ (now : ℕ) (start : WorldView) (task : ℕ) (s : State) (sh : Shows start s) (w : WorldView) (sp : ShowsPart now start task s w) (none : HasNoNames w task) where
  abbrev x_ended : Part
  x_ended = sp.part

  abbrev u : State
  u = shown now s task x_ended

  a_ended : Agrees w u
  a_ended = subst (Agrees w) (shown_is now s task x_ended) sp.agrees

  unnamed : (n : ℕ) → map.get x_ended.names n ≡ None
  unnamed n = sym (looked_up now s task x_ended sh.lawful sp.is_part n) ∙ a_ended.naming task n ∙ ap (option_map target_of) (none n)

  names_are : x_ended.names ≡ map.empty
  names_are = all_unused x_ended.names unnamed

  -- ---- its rights

  no_port : (q : ℕ) → count (is_held task receive q) x_ended.kept + count (is_held task send q) x_ended.kept ≡ 0
  no_port q = grind (arith, pos_or_zero, no_some, unnamed)

  no_right : (kind : Kind) (q : ℕ) → count (is_held task kind q) x_ended.kept ≡ 0
  no_right receive q = let z = no_port q in omega (arith, z)
  no_right send q = let z = no_port q in omega (arith, z)
  no_right send_once q = sp.is_part.named.once_names q ∙ ap (λ (m : Names). onces m q) names_are ∙ no_values (is_once q)

  -- ---- its sets

  of_task : (set : ℕ) → u.set_owner set ≡ Some task → ⊥
  of_task set owned = go (map.get w.sets.sets set) refl (sym (a_ended.set_owner set) ∙ owned)
    where
      same_owner : (y : SetRecord) → Some y.owner ≡ Some task → y.owner ≡ task
      same_owner y e = cc

      go : (o : Option SetRecord) → map.get w.sets.sets set ≡ o → option_map (λ (r : SetRecord). r.owner) o ≡ Some task → ⊥
      go None is e = no_some task e
      go (Some y) is e =
          let here : map.get (u.naming task) y.name ≡ Some (Target.set set) = subst (λ (k : ℕ). map.get (u.naming k) y.name ≡ Some (Target.set set)) (same_owner y e) (a_ended.set_named set y is) in
          no_some (Target.set set) (sym (unnamed y.name) ∙ sym (looked_up now s task x_ended sh.lawful sp.is_part y.name) ∙ here)

  owner_is : (set : ℕ) → x_ended.disbanded set ≡ is_owner task (s.set_owner set)
  owner_is set = go (x_ended.disbanded set) refl (s.set_owner set) refl
    where
      go : (b : Bool) → x_ended.disbanded set ≡ b → (o : Option ℕ) → s.set_owner set ≡ o → b ≡ is_owner task o
      go true e o is = sym (ap (is_owner task) (sym is ∙ sp.is_part.owned set e) ∙ eq-eqb task task refl)
      go false e None is = refl
      go false e (Some t) is = elim (eqb_tells t task) [
        | inl h ↦ absurd (of_task set (ap (λ (b : Bool). if b then None else s.set_owner set) e ∙ is ∙ ap Some h.1))
        | inr h ↦ sym h.0
      ]

  -- ---- the requests on its names

  no_request : (n : ℕ) → x_ended.stands (dead_name task n) ≡ true → ⊥
  no_request n stands = go (nat_lt n (2 ^ 32)) refl (sym (ap is_some (by_number)) ∙ sym (a_ended.standing (dead_name task n)) ∙ stands)
    where
      by_number : notify_of w.requests (dead_name task n) ≡ (if nat_lt n (2 ^ 32) then option_map (λ (r : NameRequest). r.notify) (map.get w.requests.names.requests (name_key task n)) else None)
      by_number = refl

      at_key : n < 2 ^ 32 → (o : Option NameRequest) → map.get w.requests.names.requests (name_key task n) ≡ o → is_some (option_map (λ (r : NameRequest). r.notify) o) ≡ true → ⊥
      at_key few None is e = absurd (cc)
      at_key few (Some r) is e =
          let on = sp.requested.on_names (name_key task n) r is in
          let same = same_key r.task r.name task n on.small few on.own in
          let found : entry_at w task n ≡ Some on.entry = subst (λ (k : ℕ). entry_at w k n ≡ Some on.entry) same.0 (subst (λ (k : ℕ). entry_at w r.task k ≡ Some on.entry) same.1 on.found) in
          no_some on.entry (sym (none n) ∙ found)

      go : (b : Bool) → nat_lt n (2 ^ 32) ≡ b → is_some (if b then option_map (λ (r : NameRequest). r.notify) (map.get w.requests.names.requests (name_key task n)) else None) ≡ true → ⊥
      go true less e = at_key (ltb-true n (2 ^ 32) less) (map.get w.requests.names.requests (name_key task n)) refl e
      go false less e = absurd (cc)

  stands_are : (r : Request) → x_ended.stands r ≡ (if ends_with task r then false else s.stands r)
  stands_are (no_senders p) = grind arith
  stands_are (port_destroyed p) = grind arith
  stands_are (dead_name t n) = grind (arith, no_request)

  -- ---- the state

  abbrev bare : State
  bare = record s {
    naming = at s.naming task map.empty;
    set_owner = λ set. if is_owner task (s.set_owner set) then None else s.set_owner set;
    sets_of = λ p. filter (λ set. not (is_owner task (s.set_owner set))) (s.sets_of p);
    stands = λ r. if ends_with task r then false else s.stands r;
    ledger = x_ended.kept;
  }

  abbrev ended : State
  ended = record bare { live_task = at s.live_task task false }

  disbanded_is : ◌≡◌ {A = ℕ → Bool} x_ended.disbanded (λ set. is_owner task (s.set_owner set))
  disbanded_is = fun_ext owner_is

  stood_is : ◌≡◌ {A = Request → Bool} x_ended.stands (λ r. if ends_with task r then false else s.stands r)
  stood_is = fun_ext stands_are

  bare_is : with_part s task x_ended ≡ bare
  bare_is = λ i. record s {
    naming = at s.naming task (names_are i);
    set_owner = λ set. if disbanded_is i set then None else s.set_owner set;
    sets_of = λ p. filter (λ set. not (disbanded_is i set)) (s.sets_of p);
    stands = stood_is i;
    ledger = x_ended.kept;
  }

  abbrev told : State → State
  told y = record y { log = logs_with now s.log (unused_among x_ended.gone); ledger = rights_with now s.log (unused_among x_ended.gone) x_ended.kept }

  b : Agrees w (told bare)
  b = subst (λ (y : State). Agrees w (told y)) bare_is a_ended

  -- ---- the tables without its space

  abbrev closed : WorldView
  closed = record w { spaces = slice_set w.spaces task None }

  each : (P : ℕ → Option SpaceView → Type 0) → P task None → ((k : ℕ) → k ≢ task → P k (space_in w.spaces k)) → (k : ℕ) → P k (space_in closed.spaces k)
  each P own others k = each-closed w.spaces task P own others k

  agrees : Agrees closed (told ended)
  agrees = record {
    spaces = record {
      live_task = each (λ k o. is_some o ≡ at s.live_task task false k) (sym (at_own s.live_task task false)) (λ k not. b.live_task k ∙ sym (at_other s.live_task task false k not));
      tasks_made = length-set w.spaces task None ∙ b.tasks_made;
      naming = each (λ k o. (n : ℕ) → map.get (at s.naming task map.empty k) n ≡ option_map target_of (entry_in o n))
          (λ n. ap (λ (m : Names). map.get m n) (at_own s.naming task map.empty) ∙ get-empty nat_cmp n) (λ k not n. b.naming k n);
      names_kept = each (λ k o. (y : SpaceView) → o ≡ Some y → map.len y.names ≡ map.len (at s.naming task map.empty k)) (λ y e. absurd (no_some y e)) (λ k not y e. b.names_kept k y e);
      counted = each (λ k o. (n : ℕ) (e : Entry) → entry_in o n ≡ Some e → HasCount e) (λ n e is. absurd (no_some e is)) (λ k not n e is. b.counted k n e is);
      same_profile = b.same_profile;
      counts_given = each (λ k o. (y : SpaceView) → o ≡ Some y → GivenAgrees s.profile y.given (s.given k)) (λ y e. absurd (no_some y e)) (λ k not y e. b.counts_given k y e);
      none_given = b.none_given;
    };
    rights = record {
      references = each (λ k o. (n : ℕ) (e : Entry) (p : ℕ) → entry_in o n ≡ Some e → port_named e ≡ Some p →
          (count (is_held k receive p) (told ended).ledger ≡ one_if (has_receive e)) × (count (is_held k send p) (told ended).ledger ≡ send_references e))
          (λ n e p is. absurd (no_some e is)) (λ k not n e p is named. b.references k n e p is named);
    };
    live_port = b.live_port;
    ports_made = b.ports_made;
    ports = b.ports;
    counts = b.counts;
    total = b.total;
    in_sets = b.in_sets;
    of_requests = b.of_requests;
  }

  rights_keep : (k n : ℕ) → KeepsRight (entry_at w k n) (entry_at closed k n)
  rights_keep k n = each (λ j o. KeepsRight (entry_at w j n) (entry_in o n))
      (record { keeps = λ e p is for. absurd (no_some e (sym (none n) ∙ is)) }) (λ j not. keeps_same (entry_at w j n) (entry_at w j n) refl) k

  holders : HoldersAgree closed
  holders = record {
    held = λ k n e p is. each (λ j o. entry_in o n ≡ Some e → port_named e ≡ Some p → has_receive e ≡ true → (y : PortView Kept) → port_at w p ≡ Some y → y.attributes.holder ≡ by.Task j)
        (λ f. absurd (no_some e f)) (λ j not. sp.holders.held j n e p) k is;
  }

  pub has_ended : HasEnded now start task s closed
  has_ended = record {
    mid = ended;
    owed = unused_among x_ended.gone;
    ends = record {
      loses = record { gone = x_ended.gone; moves = sp.is_part.moves; passed = sp.is_part.own; none_left = none_in_task task x_ended.kept no_right };
      rest = refl;
      owed_are = refl;
    };
    agrees = subst (Agrees closed) (sym (posted_is now ended (unused_among x_ended.gone))) agrees;
    holders = holders;
    carriers = carriers_same w closed sp.carriers refl refl;
    slots = sp.slots;
    requested = requested_kept w closed sp.requested (λ p lives. lives) refl rights_keep;
    notes = senders_kept start w closed sp.notes (keeps_senders_same w closed sp.requested refl refl refl);
    left = record { doomed = sp.left.doomed; destroyed = sp.left.destroyed; lost = sp.left.lost; orphans = sp.left.orphans };
  }

pub closed_ends : (start : WorldView) (task : ℕ) (w v : WorldView) → EndsFrom start task w → HasNoNames w task → v ≡ record w { spaces = slice_set w.spaces task None } → Ends start task v
closed_ends start task w v ends none is = subst (Ends start task) (sym is) (record { ends = λ now s sh. has_ended now start task s sh w (ends.shows now s sh) none })
