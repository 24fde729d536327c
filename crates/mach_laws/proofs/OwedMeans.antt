-- Each notice that a step's own part owes means what the event did.
use Rattle.std.proofs.Common.{◌≡◌, ℕ, ℤ, zero, suc, ◌+◌, ◌≤◌, List, [], ◌∷◌, refl, sym, ap, subst, ◌∙◌, arith, true, false, Bool, inl, inr, get_or, Some}
use Rattle.std.specs.Prelude.{◌≢◌, ◌⊎◌, if◌then◌else◌, filter, All, MatchBool, map as list_map}
use Rattle.std.specs.FinMap as map
use Rattle.std.proofs.lemmas.List.Elements.{All-head, All-tail, All-cons}
use Rattle.std.proofs.lemmas.Bool.Decides.{eqb_tells}
use Rattle.mach_types.specs.declared.calls.Event.{Event}
use Rattle.mach_types.specs.declared.calls.Reply.{Reply}
use Rattle.mach_types.specs.declared.calls.Waited.{Waited}
use Rattle.mach_types.specs.declared.rights.Disposition.{Disposition}
use Rattle.mach_types.specs.declared.rights.Disposition.TheVariants.{MoveReceive, MoveSend, MoveSendOnce, CopySend, MakeSend, MakeSendOnce}
use Rattle.mach_types.specs.Numbers.{null_word}
use Rattle.mach_types.specs.Tokens.{Kind, send, send_once, Request, no_senders, dead_name, Place, in_task, in_message, in_request, Token, token, count, is_of, is_in_task, same_kind, Moves}
use Rattle.mach_types.specs.Messages.{to_port, Entry}
use Rattle.mach_types.specs.Guards.{NoneHolds}
use Rattle.mach_model.specs.State.{State, Target, Names, lookup, senders, without_name}
use Rattle.mach_model.specs.SentMeans.{target_mark}
use Rattle.mach_model.specs.Tasks.{EndsTask}
use Rattle.mach_model.specs.CopyIn.{changed_by, CopyRight}
use Rattle.mach_model.specs.Death.{LiesAt, same_place}
use Rattle.mach_model.specs.Notices.{Notice, no_more_senders, right_unused, name_died, Owed}
use Rattle.mach_model.specs.References.{LosesAll, unused_once, unused_among, Deallocates, DestroysTarget, RemovesRight, Modifies}
use Rattle.mach_model.specs.Receive.{DestroysFront, Receipt}
use Rattle.mach_model.specs.Requests.{RequestOn, GivesBack, HasNoSenders, Keeps, Requests}
use Rattle.mach_model.specs.Refusals.{guards}
use Rattle.mach_model.specs.Turns.{IsNameOf}
use Rattle.mach_model.specs.Acts.{Does}
use Rattle.mach_model.proofs.Names.{at_own, at_same, at_other, left, inserted, count_some}
use Rattle.mach_model.proofs.Settling.{is_at, own_test}
use Rattle.mach_model.proofs.SettledReceives.{kind_is, place_is, in_task_is}
use Rattle.mach_laws.specs.Meaning.{MayDrop, WasLost, WentUnused, HasNoSendersYet, IsDeadAlready}
use Rattle.mach_laws.proofs.Shrinking.{SameRights, NoOnce, IsNotify, not_moved, then_same, copied, back_given, one_of}

-- What a notice that is owed means: a right is lost unused, or a request is told of at once.
abbrev pub OwedMeans : (old : State) → Event → (new : State) → (notify : ℕ) → Notice → Type 0
OwedMeans old event new notify notice =
    (notice ≡ right_unused) × WentUnused old event new notify
    ⊎ ((n : ℕ) × (notice ≡ no_more_senders n) × HasNoSendersYet old event notify n)
    ⊎ ((name : ℕ) × (notice ≡ name_died name) × IsDeadAlready old event notify name)

abbrev pub AllMean : (old : State) → Event → (new : State) → Owed → Type 0
AllMean old event new owed = All (λ y. OwedMeans old event new y.0.port y.1) owed

module _ (old : State) (event : Event) (new : State) where
  no_owed : (owed : Owed) → owed ≡ [] → AllMean old event new owed
  no_owed owed none = subst (AllMean old event new) (sym none) (λ k t below. absurd (omega (arith, below)))

  one_owed : (owed : Owed) (x : Token) (notice : Notice) → owed ≡ (x, notice) ∷ [] → OwedMeans old event new x.port notice → AllMean old event new owed
  one_owed owed x notice is means = subst (AllMean old event new) (sym is)
      (All-cons (λ (y : Token × Notice). OwedMeans old event new y.0.port y.1) (x, notice) [] means (λ k t below. absurd (omega (arith, below))))

  -- each right of these, if it is a send-once right
  unused_owed : (xs : List Token) → All (λ (x : Token). x.kind ≡ send_once → WentUnused old event new x.port) xs → AllMean old event new (unused_among xs)
  unused_owed [] all = λ k t below. absurd (omega (arith, below))
  unused_owed (x ∷ xs) all = by (same_kind send_once x.kind) refl (unused_owed xs (All-tail (λ (x : Token). x.kind ≡ send_once → WentUnused old event new x.port) x xs all))
    where
      by : (b : Bool) → same_kind send_once x.kind ≡ b → AllMean old event new (unused_among xs) →
          AllMean old event new (list_map (λ x. (x, right_unused)) (if b then x ∷ filter (λ x. same_kind send_once x.kind) xs else filter (λ x. same_kind send_once x.kind) xs))
      by true is rest = All-cons (λ (y : Token × Notice). OwedMeans old event new y.0.port y.1) (x, right_unused) (unused_among xs)
          (inl (refl, All-head (λ (x : Token). x.kind ≡ send_once → WentUnused old event new x.port) x xs all (kind_is send_once x.kind is))) rest
      by false is rest = rest

  -- rights that leave places of which each is lost
  all_unused : (test : Token → Bool) (before after : List Token) (owed : Owed) → (x : LosesAll test before after) → ((f : Token → Bool) → count f before ≤ count f old.ledger) →
      ((t : Token) → test t ≡ true → WasLost old event new t.place) → owed ≡ unused_among x.gone → AllMean old event new owed
  all_unused test before after owed x le lost is = subst (AllMean old event new) (sym is) (unused_owed x.gone each)
    where
      each : All (λ (x : Token). x.kind ≡ send_once → WentUnused old event new x.port) x.gone
      each k t below once =
          let y : Token = get_or x.gone k t in
          let some = count_some (is_at y.kind y.port y.place) x.gone k t below (own_test y) in
          let m = x.moves (λ z. if is_at y.kind y.port y.place z then 1 else 0) in
          let less = le (is_at y.kind y.port y.place) in
          let lies : LiesAt old y.kind y.port y.place = omega (arith, some, m, less) in
          record { place = y.place; lay = subst (λ (kind : Kind). LiesAt old kind y.port y.place) once lies; lost = lost y (x.passed k t below) }

  once_unused : (task p : ℕ) (mid : State) (owed : Owed) → Moves old.ledger mid.ledger (token send_once p (in_task task) ∷ []) [] → MayDrop event task → owed ≡ unused_once p task → AllMean old event new owed
  once_unused task p mid owed moves may is = one_owed owed (token send_once p (in_task task)) right_unused is (inl (refl, record { place = in_task task; lay = lies; lost = may }))
    where
      lies : LiesAt old send_once p (in_task task)
      lies =
          let a = moves (λ z. if is_at send_once p (in_task task) z then 1 else 0) in
          let b : (if is_at send_once p (in_task task) (token send_once p (in_task task)) then suc zero else zero) ≡ suc zero = rw (own_test (token send_once p (in_task task))) refl in
          omega (arith, a, b)

  destroys : (task name : ℕ) (target : Target) (mid : State) (owed : Owed) → MayDrop event task → DestroysTarget task name target old mid owed → AllMean old event new owed
  destroys task name (Target.port p) mid owed may d = no_owed owed d.2
  destroys task name (Target.once p) mid owed may d = once_unused task p mid owed d.0.tokens may d.1
  destroys task name (Target.dead n) mid owed may d = no_owed owed d.1
  destroys task name (Target.set s) mid owed may d = no_owed owed d.1

  deallocates : (task name : ℕ) (mid : State) (owed : Owed) → MayDrop event task → Deallocates task name old mid owed → AllMean old event new owed
  deallocates task name mid owed may (inl x) = no_owed owed x.2
  deallocates task name mid owed may (inr (inl x)) = once_unused task x.0 mid owed x.1.tokens may x.2
  deallocates task name mid owed may (inr (inr x)) = no_owed owed x.2

  removes : (right task name : ℕ) (target : Target) (mid : State) (owed : Owed) → MayDrop event task → RemovesRight right task name target old mid owed → AllMean old event new owed
  removes right task name (Target.port p) mid owed may x = no_owed owed x.2
  removes right task name (Target.once p) mid owed may x = destroys task name (Target.once p) mid owed may x.1
  removes right task name (Target.set s) mid owed may x = destroys task name (Target.set s) mid owed may x.1
  removes right task name (Target.dead n) mid owed may x = absurd x

  modifies : (task name right : ℕ) (delta : ℤ) (mid : State) (owed : Owed) → MayDrop event task → Modifies task name right delta old mid owed → AllMean old event new owed
  modifies task name right delta mid owed may (inl x) = no_owed owed x.6
  modifies task name right delta mid owed may (inr (inl x)) = no_owed owed x.6
  modifies task name right delta mid owed may (inr (inr (inl x))) = no_owed owed x.3
  modifies task name right delta mid owed may (inr (inr (inr x))) = removes right task name x.0 mid owed may x.3

  ends : (task : ℕ) (mid : State) (owed : Owed) → MayDrop event task → EndsTask task old mid owed → AllMean old event new owed
  ends task mid owed may d = all_unused (λ x. is_in_task task x.place) old.ledger mid.ledger owed d.loses (λ f. omega arith)
      (λ t is. subst (WasLost old event new) (sym (in_task_is task t.place is)) may) d.owed_are

  front : (port : ℕ) (e : Entry) (mid : State) (owed : Owed) → new.taken ≡ mid.taken → DestroysFront port e old mid owed → AllMean old event new owed
  front port e mid owed kept d = all_unused (λ x. same_place (in_message port (old.taken port)) x.place) d.taken.ledger mid.ledger owed d.loses
      (λ f. (let a = d.takes.tokens (λ x. if f x then 1 else 0) in omega (arith, a)))
      (λ t is. subst (WasLost old event new) (sym (place_is (in_message port (old.taken port)) t.place is)) (inr (refl, now_taken))) d.owed_are
    where
      now_taken : new.taken port ≡ old.taken port + 1
      now_taken = ap (λ (f : ℕ → ℕ). f port) kept ∙ ap (λ (s : State). s.taken port) d.rest ∙ ap (λ (s : State). s.taken port) d.takes.rest ∙ at_own old.taken port (old.taken port + 1)

  large_cases : (large : Bool) (P Q : Type 0) → MatchBool large P Q → P ⊎ Q
  large_cases true P Q h = inl h
  large_cases false P Q h = inr h

  receipts : (task : ℕ) (waited : Waited) (room : ℕ) (large : Bool) (reply : Reply) (mid : State) (owed : Owed) → new.taken ≡ mid.taken → Receipt old task waited room large reply mid owed →
      AllMean old event new owed
  receipts task waited room large (Reply.Message bytes) mid owed kept x = no_owed owed x.3
  receipts task waited room large (Reply.Empty told) mid owed kept x = no_owed owed x.3
  receipts task waited room large (Reply.TooLarge n) mid owed kept (p, e, from, is_front, is, over, what) = by (large_cases large _ _ what)
    where
      by : (mid ≡ old) × (owed ≡ []) ⊎ DestroysFront p e old mid owed → AllMean old event new owed
      by (inl h) = no_owed owed h.1
      by (inr h) = front p e mid owed kept h
  receipts task waited room large reply mid owed kept x = absurd x

-- ---- a request that is told of at once

-- a dead name's right is for no port
dead_no_port : (d : Disposition) (n q : ℕ) → target_mark d (Target.dead n) ≡ Some (to_port q) → ⊥
dead_no_port MoveReceive n p e = cc
dead_no_port MoveSend n p e = cc
dead_no_port MoveSendOnce n p e = cc
dead_no_port CopySend n p e = cc
dead_no_port MakeSend n p e = cc
dead_no_port MakeSendOnce n p e = cc

-- a name whose right is for a port is one of that port
is_name : (d : Disposition) (target : Target) (q : ℕ) → target_mark d target ≡ Some (to_port q) → IsNameOf q (Some target)
is_name d (Target.port p) q e = cc
is_name d (Target.once p) q e = cc
is_name d (Target.dead n) q e = absurd (dead_no_port d n q e)
is_name d (Target.set s) q e = cc

-- a name that is there after a notify right was copied in was there before
without_kept : (t n : ℕ) (old : State) (task name : ℕ) (x : Target) → lookup (without_name t n old) task name ≡ Some x → lookup old task name ≡ Some x
without_kept t n old task name x is = elim (eqb_tells task t) [
  | inl h ↦
      subst (λ (u : ℕ). lookup old u name ≡ Some x) (sym h.1)
      (left (old.naming t) n name x (ap (λ (k : Names). map.get k name) (sym (at_same old.naming t (map.remove (old.naming t) n) task h.1)) ∙ is)).1
  | inr h ↦ ap (λ (k : Names). map.get k name) (sym (at_other old.naming t (map.remove (old.naming t) n) task h.1)) ∙ is
]

copied_names : (task number notify q : ℕ) (place : Place) (old new : State) → IsNotify number → CopyRight task place number notify old (to_port q) new →
    (t name : ℕ) (x : Target) → lookup new t name ≡ Some x → lookup old t name ≡ Some x
copied_names task number notify q place old new is c t name x there = by c.target c.mark_is (not_moved number c.given is c.is_given) (ap (λ (s : State). lookup s t name) (sym c.rest) ∙ there)
  where
    by : (target : Target) → target_mark c.given target ≡ Some (to_port q) → (c.given ≡ MoveSendOnce) ⊎ (c.given ≡ MakeSendOnce) → lookup (changed_by c.given target task notify old) t name ≡ Some x →
        lookup old t name ≡ Some x
    by (Target.port p) mark (inl e) h = subst (λ (d : Disposition). lookup (changed_by d (Target.port p) task notify old) t name ≡ Some x) e h
    by (Target.port p) mark (inr e) h = subst (λ (d : Disposition). lookup (changed_by d (Target.port p) task notify old) t name ≡ Some x) e h
    by (Target.once p) mark (inl e) h = without_kept task notify old t name x (subst (λ (d : Disposition). lookup (changed_by d (Target.once p) task notify old) t name ≡ Some x) e h)
    by (Target.once p) mark (inr e) h = subst (λ (d : Disposition). lookup (changed_by d (Target.once p) task notify old) t name ≡ Some x) e h
    by (Target.dead n) mark e h = absurd (dead_no_port c.given n q mark)
    by (Target.set s) mark (inl e) h = subst (λ (d : Disposition). lookup (changed_by d (Target.set s) task notify old) t name ≡ Some x) e h
    by (Target.set s) mark (inr e) h = subst (λ (d : Disposition). lookup (changed_by d (Target.set s) task notify old) t name ≡ Some x) e h

-- a dead name that is there after the right that was kept is given back was there before
back_names : (task : ℕ) (request : Request) (before old : State) (given : ℕ) (new : State) → GivesBack task request before old given new →
    (name n : ℕ) → lookup new task name ≡ Some (Target.dead n) → lookup old task name ≡ Some (Target.dead n)
back_names task request before old given new (inl h) name n is = ap (λ (s : State). lookup s task name) (sym h.2) ∙ is
back_names task request before old given new (inr (inl h)) name n is = ap (λ (s : State). lookup s task name) (sym h.3) ∙ is
back_names task request before old given new (inr (inr (q, named, stood, lies, w, m, rest))) name n is =
    by (inserted (old.naming task) given (Target.once q) name (Target.dead n)
    (ap (λ (k : Names). map.get k name) (sym (at_same old.naming task (map.insert (old.naming task) given (Target.once q)) task refl)) ∙ ap (λ (s : State). lookup s task name) (sym w.rest)
    ∙ ap (λ (s : State). lookup s task name) (sym rest) ∙ is))
  where
    by : (name ≡ given) × (Target.once q ≡ Target.dead n) ⊎ (lookup old task name ≡ Some (Target.dead n)) → lookup old task name ≡ Some (Target.dead n)
    by (inl h) = absurd (let e = h.1 in cc)
    by (inr h) = h

no_send_once : (p : ℕ) → NoOnce (is_of send p)
no_send_once p q place = refl

module _ (task name variant sync notify number previous : ℕ) (old mid : State) (owed : Owed) (new : State) (is : (notify ≢ null_word) → IsNotify number)
    (r : Requests task name variant sync notify number previous old mid owed) where
  abbrev asking : Event
  asking = Event.RequestNotification task name variant sync notify number

  module _ (q : ℕ) (some : notify ≢ null_word) (c : CopyRight task (in_request r.request) number notify old (to_port q) r.copied) where
    names_port : IsNameOf q (lookup old task notify)
    names_port = subst (IsNameOf q) (sym c.found) (is_name c.given c.target q c.mark_is)

    same : (p : ℕ) → SameRights (is_of send p) old r.back
    same p = then_same (is_of send p) (no_send_once p) old r.copied r.back (copied (is_of send p) (no_send_once p) task number notify (in_request r.request) (to_port q) old r.copied (is some) c)
        (back_given (is_of send p) (no_send_once p) task r.request old r.copied previous r.back r.given_back)

    senders_told : (p : ℕ) → r.request ≡ no_senders p → HasNoSenders r.back r.request sync → RequestOn r.copied task name variant r.request → HasNoSendersYet old asking q (r.back.make_send p)
    senders_told p e none (inl (v, (o, named, f))) = absurd (let g = sym e ∙ f in cc)
    senders_told p e none (inr (inl (v, (o, named, f)))) =
        let one : o ≡ p = same_port o p (sym f ∙ e) in
        let has : (senders r.back p ≡ 0) × (sync ≤ r.back.make_send p) = subst (λ (x : Request). HasNoSenders r.back x sync) e none in
        let s = (same p).same in
        let k : r.back.make_send p ≡ old.make_send p = ap (λ (g : ℕ → ℕ). g p) (same p).make_send in
        let none_left = has.0 in
        let enough = has.1 in
        record {
          task = task;
          name = name;
          sync = sync;
          asks = (notify, number, ap (λ (v : ℕ). Event.RequestNotification task name v sync notify number) v, names_port);
          port = p;
          named = copied_names task number notify q (in_request r.request) old r.copied (is some) c task name (Target.port p) (named ∙ ap (λ (x : ℕ). Some (Target.port x)) one);
          has_none = omega (arith, s, none_left);
          enough = omega (arith, k, enough);
          counted = k;
        }
      where
        same_port : (a b : ℕ) → no_senders a ≡ no_senders b → a ≡ b
        same_port a b e = cc
    senders_told p e none (inr (inr (v, f))) = absurd (let g = sym e ∙ f in cc)

    name_told : (n : ℕ) → r.request ≡ dead_name task name → lookup r.back task name ≡ Some (Target.dead n) → RequestOn r.copied task name variant r.request → IsDeadAlready old asking q name
    name_told n e was_dead (inl (v, (o, named, f))) = absurd (let g = sym e ∙ f in cc)
    name_told n e was_dead (inr (inl (v, (o, named, f)))) = absurd (let g = sym e ∙ f in cc)
    name_told n e was_dead (inr (inr (v, f))) = record {
      task = task;
      sync = sync;
      asks = (notify, number, ap (λ (v : ℕ). Event.RequestNotification task name v sync notify number) v, names_port);
      references = n;
      was_dead = copied_names task number notify q (in_request r.request) old r.copied (is some) c task name (Target.dead n)
          (back_names task r.request old r.copied previous r.back r.given_back name n was_dead);
    }

    keeps : Keeps task name sync r.request q r.back mid owed → AllMean old asking new owed
    keeps (inl (p, e, none, m, rest, owes)) =
        one_owed old asking new owed (token send_once q (in_request r.request)) (no_more_senders (r.back.make_send p)) owes (inr (inl (r.back.make_send p, refl, senders_told p e none r.on)))
    keeps (inr (inl (n, e, was_dead, m, rest, owes))) =
        one_owed old asking new owed (token send_once q (in_request r.request)) (name_died name) owes (inr (inr (name, refl, name_told n e was_dead r.on)))
    keeps (inr (inr (not, other, rest, none))) = no_owed old asking new owed none

  asks : AllMean old asking new owed
  asks = by r.copy
    where
      by : (notify ≡ null_word) × (r.copied ≡ old) × (mid ≡ r.back) × (owed ≡ [])
          ⊎ (notify ≢ null_word) × ((q : ℕ) × CopyRight task (in_request r.request) number notify old (to_port q) r.copied × Keeps task name sync r.request q r.back mid owed) → AllMean old asking new owed
      by (inl h) = no_owed old asking new owed h.3
      by (inr (some, (q, c, k))) = keeps q some c k

-- ---- each event

pub owed_mean : (now : ℕ) (old : State) (event : Event) (reply : Reply) (mid : State) (owed : Owed) (new : State) → new.taken ≡ mid.taken → NoneHolds (guards old event) → Does now old event reply mid owed →
    AllMean old event new owed
owed_mean now old Event.TaskCreate (Reply.Task task) mid owed new kept g d = no_owed old Event.TaskCreate new owed d.1
owed_mean now old (Event.TaskTerminate task) (Reply.Code code) mid owed new kept g d = ends old (Event.TaskTerminate task) new task mid owed refl d.1
owed_mean now old (Event.Allocate task right) (Reply.Name name) mid owed new kept g d = no_owed old (Event.Allocate task right) new owed d.2
owed_mean now old (Event.AllocateName task right name) (Reply.Name told) mid owed new kept g d = no_owed old (Event.AllocateName task right name) new owed d.2
owed_mean now old (Event.Deallocate task name) (Reply.Code code) mid owed new kept g d = deallocates old (Event.Deallocate task name) new task name mid owed refl d.1
owed_mean now old (Event.Destroy task name) (Reply.Code code) mid owed new kept g d = destroys old (Event.Destroy task name) new task name d.1.0 mid owed refl d.1.2
owed_mean now old (Event.ModRefs task name right delta) (Reply.Code code) mid owed new kept g d = modifies old (Event.ModRefs task name right delta) new task name right delta mid owed refl d.1
owed_mean now old (Event.GetRefs task name right) (Reply.Refs n) mid owed new kept g d = no_owed old (Event.GetRefs task name right) new owed d.1
owed_mean now old (Event.NameType task name) (Reply.NameType n) mid owed new kept g d = no_owed old (Event.NameType task name) new owed d.1
owed_mean now old (Event.Names task) (Reply.Names entries) mid owed new kept g d = no_owed old (Event.Names task) new owed d.1
owed_mean now old (Event.Rename task o n) (Reply.Code code) mid owed new kept g d = no_owed old (Event.Rename task o n) new owed d.2
owed_mean now old (Event.ReceiveStatus task name) (Reply.Status status) mid owed new kept g d = no_owed old (Event.ReceiveStatus task name) new owed d.1
owed_mean now old (Event.SetQlimit task name n) (Reply.Code code) mid owed new kept g d = no_owed old (Event.SetQlimit task name n) new owed d.2
owed_mean now old (Event.SetMscount task name n) (Reply.Code code) mid owed new kept g d = no_owed old (Event.SetMscount task name n) new owed d.3
owed_mean now old (Event.SetSeqno task name n) (Reply.Code code) mid owed new kept g d = no_owed old (Event.SetSeqno task name n) new owed d.3
owed_mean now old (Event.SetStatus task name) (Reply.Members members) mid owed new kept g d = no_owed old (Event.SetStatus task name) new owed d.1
owed_mean now old (Event.MoveMember task member after) (Reply.Code code) mid owed new kept g d = no_owed old (Event.MoveMember task member after) new owed d.2
owed_mean now old (Event.InsertMember task member set) (Reply.Code code) mid owed new kept g d = no_owed old (Event.InsertMember task member set) new owed d.2
owed_mean now old (Event.ExtractMember task member set) (Reply.Code code) mid owed new kept g d = no_owed old (Event.ExtractMember task member set) new owed d.2
owed_mean now old (Event.InsertRight task name from poly number) (Reply.Code code) mid owed new kept g d = no_owed old (Event.InsertRight task name from poly number) new owed d.2
owed_mean now old (Event.ExtractRight task name number to) (Reply.Right new_name kind) mid owed new kept g d = no_owed old (Event.ExtractRight task name number to) new owed d.1
owed_mean now old (Event.RequestNotification task name variant sync notify number) (Reply.Previous previous) mid owed new kept g d =
    asks task name variant sync notify number previous old mid owed new (λ some. one_of number (λ h. g.1.0 (inr (inl (some, h.0, h.1))))) d
owed_mean now old (Event.Send task bytes) (Reply.Code code) mid owed new kept g d = no_owed old (Event.Send task bytes) new owed d.2
owed_mean now old (Event.Receive task name room large) reply mid owed new kept g d = receipts old (Event.Receive task name room large) new task d.0 room large reply mid owed kept d.2
owed_mean now old (Event.ReceiveAgain task waited room large) reply mid owed new kept g d = receipts old (Event.ReceiveAgain task waited room large) new task waited room large reply mid owed kept d
owed_mean now old event reply mid owed new kept g d = absurd d
