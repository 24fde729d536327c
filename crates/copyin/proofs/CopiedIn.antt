-- A right that is copied in: what the tables do is what the machine does.
use Rattle.std.proofs.Common.{◌≡◌, ℕ, Option, Some, refl, sym, ap, ◌∙◌, zero, suc, ◌+◌, ◌%◌, ◌^◌, ◌<◌, ◌∷◌, None, subst, arith, true, false, ◌⊎◌, inl, inr, List, [], Bool, ◌-◌}
use Rattle.std.specs.Prelude.{is_some, if◌then◌else◌, ◌==◌, ◌&&◌, slice_set, ◌||◌, nat_lt}
use Rattle.std.specs.Option.{option_map}
use Rattle.std.specs.FinMap as map
use Rattle.std.proofs.lemmas.Bool.{ne_eqb, ltb-true, ltb-false}
use Rattle.std.proofs.Math.Bool.{or-false as or_false, or-true as or_true}
use Rattle.mach_types.specs.declared.rights.Disposition.{Disposition}
use Rattle.mach_types.specs.declared.rights.Disposition.TheVariants.{MakeSend, MoveReceive, CopySend, MakeSendOnce, MoveSend, MoveSendOnce}
use Rattle.mach_types.specs.Numbers.{disposition}
use Rattle.mach_types.specs.Tokens.{Kind, receive, send, send_once, Request, in_task, in_message, in_request, token, is_of, is_held, Token, count, Moves}
use Rattle.mach_model.specs.State.{State, queue, Target, lookup, held, at, without_name, with_name}
use Rattle.mach_model.proofs.Moving.{shape, IsMoving}
use Rattle.mach_model.specs.Death.{same_place}
use Rattle.mach_model.specs.Telling.{one_if}
use Rattle.mach_model.specs.CopyIn.{CopyRight, name_kept}
use Rattle.mach_model.proofs.Names.{both_test, pos_or_zero, at_own, at_other, length-weigh}
use Rattle.mach_model.proofs.Copying.{alive_held, not_held, other_port, own_right, once_held}
use Rattle.rights.specs.Ledger.{made, LedgerView}
use Rattle.rights.specs.declared.RightKind.TheVariants as right
use Rattle.name_space.specs.declared.Entry.{Entry}
use Rattle.name_space.specs.Entry.{port_named, has_receive, send_references}
use Rattle.name_space.specs.Names.{SpaceView}
use Rattle.name_space.specs.declared.Entry.TheVariants as entry_of
use Rattle.name_space.specs.declared.Entry.TheVariants.{Receive, Send, ReceiveAndSend, SendOnce, DeadName}
use Rattle.port.specs.Ports.{PortView, PortsView, sets_in}
use Rattle.copyin_base.specs.Kept.{Kept, mark_of}
use Rattle.copyin_base.specs.Worlds.{WorldView, port_at, put, space_at}
use Rattle.copyin_base.specs.Shows.{ShowsPort, Agrees, onces_queued, target_of, HasCount, ShowsCounts, RequestsStand, CountsAgree}
use Rattle.copyin_base.proofs.Agreeing.{live_put}
use Rattle.copyin_base.proofs.AttributesSet.{IsAt, view_put, is_at, is_same}
use Rattle.copyin_base.specs.declared.Mark.TheVariants as mark
use Rattle.copyin_base.specs.Requests.{requests_after}
use Rattle.copyin_base.proofs.Counting.{right_made, counts_same}
use Rattle.copyin_base.proofs.Putting.{put_same}
use Rattle.copyin_base.proofs.Changing.{named_no_set, Rest, target_found, held_by, has_count, changed_agrees}
use Rattle.copyin_base.proofs.Requesting.{stands_after}
use Rattle.copyin_base.proofs.Taking.{Without, take_held}
use Rattle.dispositions.specs.Copies.{copied_from, one_less}
use Rattle.copyin.specs.Copies.{view_copied, port_copied, ports_copied, ledger_copied}
use Rattle.dispositions.specs.declared.Copied.{Copied}

-- ---- The ports after a right was copied in.

-- One port changed as a right went by the disposition.
module _ (w : WorldView) (s : State) (a : Agrees w s) (d : Disposition) (p : ℕ) (v : PortView Kept) (there : port_at w p ≡ Some v) where
  abbrev pub ports2 : PortsView Kept
  ports2 = port_copied d p w.ports (map.get w.ports.ports p)

  abbrev v2 : PortView Kept
  v2 = view_copied d v

  ports_are : ports2.ports ≡ map.insert w.ports.ports p v2
  ports_are = ap (λ (o : Option (PortView Kept)). (port_copied d p w.ports o).ports) there

  pub ports_made : ports2.made ≡ w.ports.made
  ports_made = ap (λ (o : Option (PortView Kept)). (port_copied d p w.ports o).made) there

  pub ports_live : (q : ℕ) → is_some (map.get ports2.ports q) ≡ is_some (port_at w q)
  ports_live q = ap (λ m. is_some (map.get m q)) ports_are ∙ live_put w.ports.ports p v2 (λ x. is_some (port_at w x)) (ap is_some there) (λ x. refl) q

  limit_same : (x : Disposition) → (view_copied x v).attributes.limit ≡ v.attributes.limit
  limit_same MakeSend = refl
  limit_same MoveReceive = refl
  limit_same x = refl

  queue_same : (x : Disposition) → (view_copied x v).queue ≡ v.queue
  queue_same MakeSend = refl
  queue_same MoveReceive = refl
  queue_same x = refl

  pub port_changed : (t : State) → t ≡ shape s t → IsAt s.make_send t.make_send p v2.attributes.make_send → IsAt s.sequence t.sequence p v2.attributes.sequence →
      IsAt s.sets_of t.sets_of p (sets_in v2) → (q : ℕ) (x : PortView Kept) → map.get ports2.ports q ≡ Some x → ShowsPort x t q
  port_changed t rest make_send sequence sets q x is =
      let limit : (r : ℕ) → t.limit r ≡ s.limit r = λ r. ap (λ (y : State). y.limit r) rest in
      view_put w s t a p v v2 there (queue_same d) (λ r. ap (λ (y : State). queue y r) rest)
      (record { own = limit_same d ∙ (a.ports p v there).limit ∙ sym (limit p); other = λ r not. limit r }) make_send sequence sets q x
      (ap (λ m. map.get m q) (sym ports_are) ∙ is)

-- ---- A right that is copied in: what the tables do is what the machine does.

-- the tables after a right went by the disposition from a name of the space
abbrev pub after : WorldView → (task name : ℕ) → SpaceView → Disposition → Copied → WorldView
after w task name space d c = record w {
  spaces = slice_set w.spaces task (Some (record space { names = put space.names name c.left }));
  ports = ports_copied d c.mark w.ports;
  ledger = ledger_copied d c.mark w.ledger;
  requests = requests_after w.requests task name c.left;
}

-- The machine does so too.
pub record Goes (w : WorldView) (s : State) (o k task name : ℕ) (space : SpaceView) (d : Disposition) (c : Copied) : Type 0 where
  pub t : State
  pub copy : (number : ℕ) → disposition number ≡ Some d → CopyRight task (in_message o k) number name s (mark_of c.mark) t
  pub agrees : Agrees (after w task name space d c) t

pub the_same : (a b : Entry) → Some a ≡ Some b → b ≡ a
the_same a b e = cc

pub no_entry : (e : Entry) → None ≡ Some e → ⊥
no_entry e is = cc

-- a task's right isn't another's, and no request's; nor is one in a message
pub far : (u task : ℕ) (c kind : Kind) (q p : ℕ) → (u ≡ task → ⊥) → (if is_held u c q (token kind p (in_task task)) then suc zero else zero) ≡ zero
far u task c kind q p not = both_test (is_of c q (token kind p (in_task task))) (task == u) (inr (ne_eqb task u (λ e. not (sym e))))

pub kept_task : (r : Request) (task : ℕ) (c kind : Kind) (q p : ℕ) → (if is_of c q (token kind p (in_task task)) && same_place (in_request r) (in_task task) then suc zero else zero) ≡ zero
kept_task r task c kind q p = both_test (is_of c q (token kind p (in_task task))) false (inr refl)

pub kept_entry : (r : Request) (o k : ℕ) (c kind : Kind) (q p : ℕ) → (if is_of c q (token kind p (in_message o k)) && same_place (in_request r) (in_message o k) then suc zero else zero) ≡ zero
kept_entry r o k c kind q p = both_test (is_of c q (token kind p (in_message o k))) false (inr refl)

module _ (w : WorldView) (s : State) (a : Agrees w s) (o k : ℕ) (l : IsMoving s o k) (task name : ℕ) (space : SpaceView) (there : space_at w task ≡ Some space)
    (entry : Entry) (found : map.get space.names name ≡ Some entry) where
  pub stands_for : lookup s task name ≡ Some (target_of entry)
  stands_for = target_found w s a task name (l.naming task) space there entry found

  pub own_held : (p : ℕ) → port_named entry ≡ Some p → (held s task receive p ≡ one_if (has_receive entry)) × (held s task send p ≡ send_references entry)
  own_held = held_by w s a task name (l.naming task) space there entry found

  pub counted : HasCount entry
  counted = has_count w s a task name (l.naming task) space there entry found

  pub unchanged : s.naming task ≡ put (s.naming task) name (Some (target_of entry))
  unchanged = sym (put_same (s.naming task) name (target_of entry) stands_for)

  pub live_of : (p : ℕ) → port_named entry ≡ Some p → 0 < one_if (has_receive entry) + send_references entry → s.live_port p ≡ true
  live_of p named some =
      let h = own_held p named in
      elim (either (held s task receive p) (held s task send p) (omega (arith, some, h.0, h.1))) [
        | inl x ↦ alive_held s o k l task receive p x
        | inr x ↦ alive_held s o k l task send p x
      ]
    where
      either : (m n : ℕ) → 0 < m + n → (0 < m) ⊎ (0 < n)
      either m n h = elim (pos_or_zero m) [
        | inl e ↦ inr (omega (arith, h, e))
        | inr e ↦ inl e
      ]

  -- ---- a right is made, and the name stays as it is

  module _ (kind : Kind) (p : ℕ) (named : port_named entry ≡ Some p) (f : ℕ → ℕ) where
    abbrev made_state : State
    made_state = record s { make_send = f; ledger = token kind p (in_message o k) ∷ s.ledger }

    made_held : (u : ℕ) (c : Kind) (q : ℕ) → held made_state u c q ≡ held s u c q
    made_held u c q = let z = not_held c q o k kind p u in omega (arith, z)

    made_rest : (w2 : WorldView) → w2.ports.made ≡ w.ports.made → ((q : ℕ) → is_some (port_at w2 q) ≡ is_some (port_at w q)) →
        ((q : ℕ) (v : PortView Kept) → port_at w2 q ≡ Some v → ShowsPort v made_state q) →
        ((q : ℕ) → ShowsCounts w2 made_state q) → w2.ledger.total ≡ w.ledger.total + 1 → Rest w w2 s made_state task name entry (Some entry)
    made_rest w2 made live ports counts total = record {
      rest = refl;
      naming_others = λ u not. refl;
      held_others = λ u not c q. made_held u c q;
      own_references = λ e q is en.
          let same = the_same entry e is in
          let h = own_held q (ap port_named (sym same) ∙ en) in
          subst (λ (x : Entry). (held made_state task receive q ≡ one_if (has_receive x)) × (held made_state task send q ≡ send_references x)) (sym same)
          (made_held task receive q ∙ h.0, made_held task send q ∙ h.1);
      other_references = λ q not. (made_held task receive q, made_held task send q);
      own_count = λ e is. subst HasCount (sym (the_same entry e is)) counted;
      made = made;
      live = live;
      ports = ports;
      counts = counts;
      total = omega (arith, total, a.total);
      stands = λ r. refl;
      requests = λ r c q. let z = kept_entry r o k c kind q p in omega (arith, z);
      no_set = named_no_set entry p named;
      given = refl;
    }

  module _ (p : ℕ) (named : port_named entry ≡ Some p) (is_target : target_of entry ≡ Target.port p) where
    pub is_port : lookup s task name ≡ Some (Target.port p)
    is_port = stands_for ∙ ap Some is_target

    pub copies_send : RequestsStand w → (holds : 0 < send_references entry) → Goes w s o k task name space CopySend (record { left = Some entry; mark = mark.Port p })
    copies_send requested holds =
        let live = live_of p named (omega (arith, holds)) in
        let t = made_state send p named s.make_send in
        let c : Copied = record { left = Some entry; mark = mark.Port p } in
        let w2 = after w task name space CopySend c in
        record {
          t = t;
          copy = λ number e. record {
            given = CopySend;
            is_given = e;
            target = Target.port p;
            found = is_port;
            legal = let h = own_held p named in omega (arith, h.1, holds);
            mark_is = refl;
            rest = refl;
            tokens = λ h. omega arith;
          };
          agrees = changed_agrees w s a task name (l.naming task) space there entry found (Some entry) space.room w.ports (made w.ledger p right.Send 1) t unchanged requested
              (made_rest send p named s.make_send w2 refl (λ q. refl) a.ports (right_made w.ledger s.live_port s.ledger (onces_queued s) a.counts send p (in_message o k) live) refl);
        }

    pub makes_once : RequestsStand w → (holds : has_receive entry ≡ true) → Goes w s o k task name space MakeSendOnce (record { left = Some entry; mark = mark.Port p })
    makes_once requested holds =
        let one : one_if (has_receive entry) ≡ 1 = ap one_if holds in
        let live = live_of p named (omega (arith, one)) in
        let t = made_state send_once p named s.make_send in
        let c : Copied = record { left = Some entry; mark = mark.Port p } in
        let w2 = after w task name space MakeSendOnce c in
        record {
          t = t;
          copy = λ number e. record {
            given = MakeSendOnce;
            is_given = e;
            target = Target.port p;
            found = is_port;
            legal = let h = own_held p named in omega (arith, h.0, one);
            mark_is = refl;
            rest = refl;
            tokens = λ h. omega arith;
          };
          agrees = changed_agrees w s a task name (l.naming task) space there entry found (Some entry) space.room w.ports (made w.ledger p right.SendOnce 1) t unchanged requested
              (made_rest send_once p named s.make_send w2 refl (λ q. refl) a.ports (right_made w.ledger s.live_port s.ledger (onces_queued s) a.counts send_once p (in_message o k) live) refl);
        }

    pub there_port : s.live_port p ≡ true → (v : PortView Kept) × (port_at w p ≡ Some v)
    there_port live = grind arith

    pub makes_send : RequestsStand w → (holds : has_receive entry ≡ true) → Goes w s o k task name space MakeSend (record { left = Some entry; mark = mark.Port p })
    makes_send requested holds =
        let one : one_if (has_receive entry) ≡ 1 = ap one_if holds in
        let live = live_of p named (omega (arith, one)) in
        let f : ℕ → ℕ = at s.make_send p ((s.make_send p + 1) % 2 ^ 32) in
        let t = made_state send p named f in
        let c : Copied = record { left = Some entry; mark = mark.Port p } in
        let w2 = after w task name space MakeSend c in
        let v = there_port live in
        let b = a.ports p v.0 v.1 in
        record {
          t = t;
          copy = λ number e. record {
            given = MakeSend;
            is_given = e;
            target = Target.port p;
            found = is_port;
            legal = let h = own_held p named in omega (arith, h.0, one);
            mark_is = refl;
            rest = refl;
            tokens = λ h. omega arith;
          };
          agrees = changed_agrees w s a task name (l.naming task) space there entry found (Some entry) space.room (port_copied MakeSend p w.ports (map.get w.ports.ports p))
              (made w.ledger p right.Send 1) t unchanged requested
              (made_rest send p named f w2 (ports_made w s a MakeSend p v.0 v.1) (ports_live w s a MakeSend p v.0 v.1)
              (port_changed w s a MakeSend p v.0 v.1 t refl
              (subst (IsAt s.make_send f p) (sym (ap (λ (n : ℕ). (n + 1) % 2 ^ 32) b.make_send)) (is_at s.make_send p ((s.make_send p + 1) % 2 ^ 32)))
              (is_same s.sequence p _ b.sequence) (is_same s.sets_of p _ b.sets))
              (right_made w.ledger s.live_port s.ledger (onces_queued s) a.counts send p (in_message o k) live) refl);
        }

-- ---- A right that moves into a message: what the tables do is what the machine does.

-- what is left where the name stays, or goes
abbrev pub LeftIs : Entry → Bool → Option Entry → Type 0
LeftIs entry true left = (e : Entry) × (left ≡ Some e) × (target_of e ≡ target_of entry)
LeftIs entry false left = left ≡ None

once_no_set : (p set : ℕ) → Target.once p ≡ Target.set set → ⊥
once_no_set p set e = cc

module _ (w : WorldView) (s : State) (a : Agrees w s) (o k : ℕ) (l : IsMoving s o k) (task name : ℕ) (space : SpaceView) (there : space_at w task ≡ Some space)
    (entry : Entry) (found : map.get space.names name ≡ Some entry) (requested : RequestsStand w) where
  is_named : lookup s task name ≡ Some (target_of entry)
  is_named = stands_for w s a o k l task name space there entry found

  module _ (kind : Kind) (p : ℕ) (some : 0 < held s task kind p) (b : Bool) (left : Option Entry) (is_left : LeftIs entry b left) (f1 : ℕ → List ℕ) (f2 f3 : ℕ → ℕ) where
    without : Without (token kind p (in_task task)) s.ledger
    without = take_held task kind p s.ledger some

    pub ledger : List Token
    ledger = token kind p (in_message o k) ∷ without.others

    abbrev pub kept : Bool → State
    kept x = record (name_kept x task name s) { sets_of = f1; make_send = f2; sequence = f3; ledger = ledger }

    abbrev pub moved_state : State
    moved_state = kept b

    pub moves : Moves s.ledger ledger (token kind p (in_task task) ∷ []) (token kind p (in_message o k) ∷ [])
    unfolding ledger
    moves h = omega (arith, without.parts h)

    pub moved_held : (u : ℕ) (c : Kind) (q : ℕ) → count (is_held u c q) ledger + (if is_held u c q (token kind p (in_task task)) then suc zero else zero) ≡ held s u c q
    moved_held u c q = let m = moves (λ x. if is_held u c q x then 1 else 0) in let z = not_held c q o k kind p u in omega (arith, m, z)

    moved_of : (c : Kind) (q : ℕ) → count (is_of c q) ledger ≡ count (is_of c q) s.ledger
    moved_of c q = let m = moves (λ x. if is_of c q x then 1 else 0) in omega (arith, m)

    naming_own : (x : Bool) → LeftIs entry x left → (kept x).naming task ≡ put (s.naming task) name (option_map target_of left)
    naming_own true h = grind (arith, unchanged)
    naming_own false h = at_own s.naming task (map.remove (s.naming task) name) ∙ ap (λ (y : Option Entry). put (s.naming task) name (option_map target_of y)) (sym h)

    shape_is : (x : Bool) → kept x ≡ shape s (kept x)
    shape_is true = refl
    shape_is false = refl

    others_named : (x : Bool) (u : ℕ) → (u ≡ task → ⊥) → (kept x).naming u ≡ s.naming u
    others_named true u not = refl
    others_named false u not = at_other s.naming task (map.remove (s.naming task) name) u not

    -- where the name goes the request on it ends
    stands_are : (x : Bool) → LeftIs entry x left → (r : Request) → (kept x).stands r ≡ stands_after s.stands task name left r
    stands_are true h r = ap (λ (y : Option Entry). stands_after s.stands task name y r) (sym h.1)
    stands_are false h r = ap (λ (y : Option Entry). stands_after s.stands task name y r) (sym h)

    tokens_of : (x : Bool) → (kept x).ledger ≡ ledger
    tokens_of x = refl

    moved_rest : (w2 : WorldView) → ((e : Entry) (q : ℕ) → left ≡ Some e → port_named e ≡ Some q → (held moved_state task receive q ≡ one_if (has_receive e)) × (held moved_state task send q ≡ send_references e)) →
        ((q : ℕ) → (port_named entry ≡ Some q → ⊥) → (held moved_state task receive q ≡ held s task receive q) × (held moved_state task send q ≡ held s task send q)) →
        ((e : Entry) → left ≡ Some e → HasCount e) → ((set : ℕ) → target_of entry ≡ Target.set set → ⊥) → w2.ledger ≡ w.ledger →
        w2.ports.made ≡ w.ports.made → ((q : ℕ) → is_some (port_at w2 q) ≡ is_some (port_at w q)) →
        ((q : ℕ) (v : PortView Kept) → port_at w2 q ≡ Some v → ShowsPort v moved_state q) →
        Rest w w2 s moved_state task name entry left
    moved_rest w2 own other count_is no_set same_ledger made live ports = grind (
      arith,
      shape_is,
      others_named,
      moved_held,
      far,
      ledger,
      moves,
      length-weigh,
      stands_are,
      kept_task,
      kept_entry,
      counts_same,
      moved_of,
    )

    pub moved_named : moved_state.naming task ≡ put (s.naming task) name (option_map target_of left)
    moved_named = naming_own b is_left

  -- ---- a send reference moves

  module _ (p n : ℕ) (named : port_named entry ≡ Some p) (is_target : target_of entry ≡ Target.port p) (references : send_references entry ≡ n) (some : 0 < n)
      (b : Bool) (b_is : (nat_lt 1 (held s task send p) || nat_lt 0 (held s task receive p)) ≡ b) (left : Option Entry) (is_left : LeftIs entry b left)
      (left_is : (e : Entry) → left ≡ Some e → HasCount e × (port_named e ≡ Some p) × (has_receive e ≡ has_receive entry) × (send_references e + 1 ≡ n)) where
    holds : 0 < held s task send p
    holds = let h = own_held w s a o k l task name space there entry found p named in omega (arith, h.1, references, some)

    abbrev t : State
    t = moved_state send p holds b left is_left s.sets_of s.make_send s.sequence

    at_port : (q : ℕ) → q ≡ p → (held t task receive q ≡ held s task receive p) × (held t task send q + 1 ≡ held s task send p)
    at_port q is = grind (arith, moved_held, holds, own_right)

    elsewhere : (q : ℕ) → (q ≡ p → ⊥) → (held t task receive q ≡ held s task receive q) × (held t task send q ≡ held s task send q)
    elsewhere q not = grind (arith, moved_held, holds, other_port)

    same_port : (q r : ℕ) → Some q ≡ Some r → r ≡ q
    same_port q r e = cc

    own : (e : Entry) (q : ℕ) → left ≡ Some e → port_named e ≡ Some q → (held t task receive q ≡ one_if (has_receive e)) × (held t task send q ≡ send_references e)
    own e q is en =
        let x = left_is e is in
        let q_is : q ≡ p = same_port p q (sym x.1 ∙ en) in
        let h = own_held w s a o k l task name space there entry found p named in
        let m = at_port q q_is in
        (m.0 ∙ h.0 ∙ ap one_if (sym x.2), let c = x.3 in omega (arith, m.1, h.1, references, c))

    pub sends_moved : Goes w s o k task name space MoveSend (record { left = left; mark = mark.Port p })
    sends_moved =
        let c : Copied = record { left = left; mark = mark.Port p } in
        record {
          t = t;
          copy = λ number e. record {
            given = MoveSend;
            is_given = e;
            target = Target.port p;
            found = is_named ∙ ap Some is_target;
            legal = holds;
            mark_is = refl;
            rest = rest_is b b_is;
            tokens = moves send p holds b left is_left s.sets_of s.make_send s.sequence;
          };
          agrees = changed_agrees w s a task name (l.naming task) space there entry found left space.room w.ports w.ledger t
              (moved_named send p holds b left is_left s.sets_of s.make_send s.sequence) requested
              (moved_rest send p holds b left is_left s.sets_of s.make_send s.sequence (after w task name space MoveSend c) own
              (λ q not. elsewhere q (λ e. not (named ∙ ap Some (sym e)))) (λ e is. (left_is e is).0) (named_no_set entry p named) refl refl (λ q. refl) (kept_ports b));
        }
      where
        rest_is : (x : Bool) → (nat_lt 1 (held s task send p) || nat_lt 0 (held s task receive p)) ≡ x →
            record (name_kept x task name s) { sets_of = s.sets_of; make_send = s.make_send; sequence = s.sequence; ledger = t.ledger }
            ≡ record (name_kept (nat_lt 1 (held s task send p) || nat_lt 0 (held s task receive p)) task name s) { ledger = t.ledger }
        rest_is true e = ap (λ (y : Bool). record (name_kept y task name s) { ledger = t.ledger }) (sym e)
        rest_is false e = ap (λ (y : Bool). record (name_kept y task name s) { ledger = t.ledger }) (sym e)

        kept_ports : (x : Bool) → (q : ℕ) (v : PortView Kept) → port_at w q ≡ Some v →
            ShowsPort v (record (name_kept x task name s) { sets_of = s.sets_of; make_send = s.make_send; sequence = s.sequence; ledger = t.ledger }) q
        kept_ports true = a.ports
        kept_ports false = a.ports

  -- ---- a send-once right moves

  module _ (p : ℕ) (is_once : entry ≡ entry_of.SendOnce p) where
    once_target : lookup s task name ≡ Some (Target.once p)
    once_target = is_named ∙ ap (λ (e : Entry). Some (target_of e)) is_once

    once_some : 0 < held s task send_once p
    once_some = once_held s o k l task name p once_target

    abbrev once_state : State
    once_state = moved_state send_once p once_some false None refl s.sets_of s.make_send s.sequence

    others_held : (c : Kind) (q : ℕ) → (if is_held task c q (token send_once p (in_task task)) then suc zero else zero) ≡ zero → held once_state task c q ≡ held s task c q
    others_held c q z = let m = moved_held send_once p once_some false None refl s.sets_of s.make_send s.sequence task c q in omega (arith, m, z)

    pub once_moves : Goes w s o k task name space MoveSendOnce (record { left = None; mark = mark.Port p })
    once_moves =
        let c : Copied = record { left = None; mark = mark.Port p } in
        record {
          t = once_state;
          copy = λ number e. record {
            given = MoveSendOnce;
            is_given = e;
            target = Target.once p;
            found = once_target;
            legal = tt;
            mark_is = refl;
            rest = refl;
            tokens = moves send_once p once_some false None refl s.sets_of s.make_send s.sequence;
          };
          agrees = changed_agrees w s a task name (l.naming task) space there entry found None space.room w.ports w.ledger once_state
              (moved_named send_once p once_some false None refl s.sets_of s.make_send s.sequence) requested
              (moved_rest send_once p once_some false None refl s.sets_of s.make_send s.sequence (after w task name space MoveSendOnce c)
              (λ e q is. absurd (no_entry e is)) (λ q not. (others_held receive q refl, others_held send q refl)) (λ e is. absurd (no_entry e is))
              (λ set e. once_no_set p set (ap target_of (sym is_once) ∙ e)) refl refl (λ q. refl) a.ports);
        }

  -- ---- the receive right moves

  module _ (p : ℕ) (named : port_named entry ≡ Some p) (is_target : target_of entry ≡ Target.port p) (has : has_receive entry ≡ true)
      (b : Bool) (b_is : nat_lt 0 (held s task send p) ≡ b) (left : Option Entry) (is_left : LeftIs entry b left)
      (left_is : (e : Entry) → left ≡ Some e → HasCount e × (port_named e ≡ Some p) × (has_receive e ≡ false) × (send_references e ≡ send_references entry)) where
    receive_held : 0 < held s task receive p
    receive_held = grind (arith, own_held)

    abbrev f1 : ℕ → List ℕ
    f1 = at s.sets_of p []

    abbrev f2 : ℕ → ℕ
    f2 = at s.make_send p 0

    abbrev f3 : ℕ → ℕ
    f3 = at s.sequence p 0

    abbrev receive_state : State
    receive_state = moved_state receive p receive_held b left is_left f1 f2 f3

    none_left : (q : ℕ) → q ≡ p → (held receive_state task receive q ≡ 0) × (held receive_state task send q ≡ held s task send p)
    none_left q is = grind (arith, moved_held, receive_held, own_right, own_held)

    not_here : (q : ℕ) → (q ≡ p → ⊥) → (held receive_state task receive q ≡ held s task receive q) × (held receive_state task send q ≡ held s task send q)
    not_here q not = grind (arith, moved_held, receive_held, other_port)

    its_port : (q r : ℕ) → Some q ≡ Some r → r ≡ q
    its_port q r e = cc

    left_held : (e : Entry) (q : ℕ) → left ≡ Some e → port_named e ≡ Some q → (held receive_state task receive q ≡ one_if (has_receive e)) × (held receive_state task send q ≡ send_references e)
    left_held e q is en =
        let x = left_is e is in
        let q_is : q ≡ p = its_port p q (sym x.1 ∙ en) in
        let h = own_held w s a o k l task name space there entry found p named in
        let m = none_left q q_is in
        (m.0 ∙ sym (ap one_if x.2), m.1 ∙ h.1 ∙ sym x.3)

    pub receive_moves : Goes w s o k task name space MoveReceive (record { left = left; mark = mark.Port p })
    receive_moves =
        let c : Copied = record { left = left; mark = mark.Port p } in
        let v = there_port w s a o k l task name space there entry found p named is_target
        (alive_held s o k l task receive p receive_held) in
        record {
          t = receive_state;
          copy = λ number e. record {
            given = MoveReceive;
            is_given = e;
            target = Target.port p;
            found = is_named ∙ ap Some is_target;
            legal = receive_held;
            mark_is = refl;
            rest = ap (λ (y : Bool). record (name_kept y task name s) { sets_of = f1; make_send = f2; sequence = f3; ledger = receive_state.ledger }) (sym b_is);
            tokens = moves receive p receive_held b left is_left f1 f2 f3;
          };
          agrees = changed_agrees w s a task name (l.naming task) space there entry found left space.room (port_copied MoveReceive p w.ports (map.get w.ports.ports p)) w.ledger receive_state
              (moved_named receive p receive_held b left is_left f1 f2 f3) requested
              (moved_rest receive p receive_held b left is_left f1 f2 f3 (after w task name space MoveReceive c) left_held
              (λ q not. not_here q (λ e. not (named ∙ ap Some (sym e)))) (λ e is. (left_is e is).0) (named_no_set entry p named) refl
              (ports_made w s a MoveReceive p v.0 v.1) (ports_live w s a MoveReceive p v.0 v.1)
              (port_changed w s a MoveReceive p v.0 v.1 receive_state (shape_is receive p receive_held b left is_left f1 f2 f3 b) (is_at s.make_send p 0) (is_at s.sequence p 0) (is_at s.sets_of p [])));
        }

-- ---- Each right that is copied in: what the tables do is what the machine does.

-- ---- a dead name

dead_no_set : (n set : ℕ) → Target.dead n ≡ Target.set set → ⊥
dead_no_set n set e = cc

module _ (w : WorldView) (s : State) (a : Agrees w s) (o k : ℕ) (l : IsMoving s o k) (task name : ℕ) (space : SpaceView) (there : space_at w task ≡ Some space)
    (n : ℕ) (found : map.get space.names name ≡ Some (DeadName n)) (requested : RequestsStand w) where
  dead_named : lookup s task name ≡ Some (Target.dead n)
  dead_named = stands_for w s a o k l task name space there (DeadName n) found

  abbrev fewer : Bool → State
  fewer b = record (if b then with_name task name (Target.dead (n - 1)) s else without_name task name s) { ledger = s.ledger }

  abbrev left_by : Bool → Option Entry
  left_by b = if b then Some (DeadName (n - 1)) else None

  fewer_named : (b : Bool) → (fewer b).naming task ≡ put (s.naming task) name (option_map target_of (left_by b))
  fewer_named true = at_own s.naming task (map.insert (s.naming task) name (Target.dead (n - 1)))
  fewer_named false = at_own s.naming task (map.remove (s.naming task) name)

  no_port : (b : Bool) (e : Entry) (q : ℕ) → left_by b ≡ Some e → port_named e ≡ Some q → ⊥
  no_port true e q is en = let x : e ≡ DeadName (n - 1) = the_same (DeadName (n - 1)) e is in let y : None ≡ Some q = ap port_named (sym x) ∙ en in cc
  no_port false e q is en = no_entry e is

  dead_count : (b : Bool) (e : Entry) → left_by b ≡ Some e → HasCount e
  dead_count true e is = subst HasCount (sym (the_same (DeadName (n - 1)) e is)) tt
  dead_count false e is = absurd (no_entry e is)

  stands_are_in : (b : Bool) (r : Request) → (fewer b).stands r ≡ stands_after s.stands task name (left_by b) r
  stands_are_in true r = refl
  stands_are_in false r = refl

  fewer_rest : (b : Bool) (w2 : WorldView) → w2.ports ≡ w.ports → w2.ledger ≡ w.ledger → Rest w w2 s (fewer b) task name (DeadName n) (left_by b)
  fewer_rest b w2 ports ledger = record {
    rest = shape_is b;
    naming_others = others b;
    held_others = λ u not c q. refl;
    own_references = λ e q is en. absurd (no_port b e q is en);
    other_references = λ q not. (refl, refl);
    own_count = dead_count b;
    made = ap (λ x. x.made) ports;
    live = λ p. ap (λ x. is_some (map.get x.ports p)) ports;
    ports = λ p v2 is. same_ports b p v2 (ap (λ x. map.get x.ports p) (sym ports) ∙ is);
    counts = λ q. subst (λ (x : LedgerView). CountsAgree x (fewer b).live_port s.ledger (onces_queued (fewer b)) q) (sym ledger) (counts_are b q);
    total = ap (λ x. x.total) ledger ∙ a.total;
    stands = stands_are_in b;
    requests = λ r c q. refl;
    no_set = dead_no_set n;
    given = same_given b;
  }
    where
      same_given : (x : Bool) → (fewer x).given ≡ s.given
      same_given true = refl
      same_given false = refl

      shape_is : (x : Bool) → fewer x ≡ shape s (fewer x)
      shape_is true = refl
      shape_is false = refl

      counts_are : (x : Bool) (q : ℕ) → CountsAgree w.ledger (fewer x).live_port s.ledger (onces_queued (fewer x)) q
      counts_are true = a.counts
      counts_are false = a.counts

      others : (x : Bool) (u : ℕ) → (u ≡ task → ⊥) → (fewer x).naming u ≡ s.naming u
      others true u not = at_other s.naming task (map.insert (s.naming task) name (Target.dead (n - 1))) u not
      others false u not = at_other s.naming task (map.remove (s.naming task) name) u not

      same_ports : (x : Bool) (p : ℕ) (v : PortView Kept) → port_at w p ≡ Some v → ShowsPort v (fewer x) p
      same_ports true = a.ports
      same_ports false = a.ports

  abbrev fewer_left : Option Entry
  fewer_left = one_less DeadName None n

  pub dead_moves : (d : Disposition) → (d ≡ MoveSend) ⊎ (d ≡ MoveSendOnce) → Goes w s o k task name space d (record { left = fewer_left; mark = mark.Dead })
  dead_moves MoveSend which = record {
    t = fewer (nat_lt 1 n);
    copy = λ number e. record { given = MoveSend; is_given = e; target = Target.dead n; found = dead_named; legal = tt; mark_is = refl; rest = refl; tokens = λ h. omega arith };
    agrees = changed_agrees w s a task name (l.naming task) space there (DeadName n) found fewer_left space.room w.ports w.ledger (fewer (nat_lt 1 n)) (fewer_named (nat_lt 1 n)) requested
        (fewer_rest (nat_lt 1 n) (after w task name space MoveSend (record { left = fewer_left; mark = mark.Dead })) refl refl);
  }
  dead_moves MoveSendOnce which = record {
    t = fewer (nat_lt 1 n);
    copy = λ number e. record { given = MoveSendOnce; is_given = e; target = Target.dead n; found = dead_named; legal = tt; mark_is = refl; rest = refl; tokens = λ h. omega arith };
    agrees = changed_agrees w s a task name (l.naming task) space there (DeadName n) found fewer_left space.room w.ports w.ledger (fewer (nat_lt 1 n)) (fewer_named (nat_lt 1 n)) requested
        (fewer_rest (nat_lt 1 n) (after w task name space MoveSendOnce (record { left = fewer_left; mark = mark.Dead })) refl refl);
  }
  dead_moves d (inl e) = absurd (cc)
  dead_moves d (inr e) = absurd (cc)

  pub dead_copies : Goes w s o k task name space CopySend (record { left = Some (DeadName n); mark = mark.Dead })
  dead_copies = record {
    t = s;
    copy = λ number e. record { given = CopySend; is_given = e; target = Target.dead n; found = dead_named; legal = tt; mark_is = refl; rest = refl; tokens = λ h. omega arith };
    agrees = changed_agrees w s a task name (l.naming task) space there (DeadName n) found (Some (DeadName n)) space.room w.ports w.ledger s
        (unchanged w s a o k l task name space there (DeadName n) found) requested record {
          rest = refl;
          naming_others = λ u not. refl;
          held_others = λ u not c q. refl;
          own_references = λ e q is en. absurd (let x : e ≡ DeadName n = the_same (DeadName n) e is in let y : None ≡ Some q = ap port_named (sym x) ∙ en in cc);
          other_references = λ q not. (refl, refl);
          own_count = λ e is. subst HasCount (sym (the_same (DeadName n) e is)) tt;
          made = refl;
          live = λ p. refl;
          ports = a.ports;
          counts = a.counts;
          total = a.total;
          stands = λ r. refl;
          requests = λ r c q. refl;
          no_set = dead_no_set n;
          given = refl;
        };
  }

-- ---- all of them

is_above : (m n : ℕ) → m < n → (b : Bool) → nat_lt m n ≡ b → nat_lt m n ≡ true
is_above m n lt true e = e
is_above m n lt false e = absurd (let x = ltb-false m n e in omega (arith, x, lt))

is_none : (n : ℕ) → n ≡ 0 → nat_lt 0 n ≡ false
is_none n e = ap (nat_lt 0) e

module _ (w : WorldView) (s : State) (a : Agrees w s) (o k : ℕ) (l : IsMoving s o k) (task name : ℕ) (space : SpaceView) (there : space_at w task ≡ Some space)
    (requested : RequestsStand w) where
  goes_send : (p n : ℕ) → map.get space.names name ≡ Some (Send p n) → Goes w s o k task name space MoveSend (record { left = one_less (Send p) None n; mark = mark.Port p })
  goes_send p n found =
      let h = own_held w s a o k l task name space there (Send p n) found p refl in
      let some : 0 < n = counted w s a o k l task name space there (Send p n) found in
      sends_moved w s a o k l task name space there (Send p n) found requested p n refl refl refl some (nat_lt 1 n)
      (ap (λ (x : ℕ). nat_lt 1 x || nat_lt 0 (held s task receive p)) h.1 ∙ ap (λ (x : ℕ). nat_lt 1 n || nat_lt 0 x) h.0 ∙ or_false (nat_lt 1 n))
      (one_less (Send p) None n) (left_of (nat_lt 1 n)) (λ e is. left_is (nat_lt 1 n) refl e is)
    where
      left_of : (b : Bool) → LeftIs (Send p n) b (if b then Some (Send p (n - 1)) else None)
      left_of true = (Send p (n - 1), refl, refl)
      left_of false = refl

      left_is : (b : Bool) → nat_lt 1 n ≡ b → (e : Entry) → (if b then Some (Send p (n - 1)) else None) ≡ Some e →
          HasCount e × (port_named e ≡ Some p) × (has_receive e ≡ false) × (send_references e + 1 ≡ n)
      left_is true lt e is =
          let more = ltb-true 1 n lt in
          subst (λ (x : Entry). HasCount x × (port_named x ≡ Some p) × (has_receive x ≡ false) × (send_references x + 1 ≡ n)) (sym (the_same (Send p (n - 1)) e is))
          (omega (arith, more), refl, refl, omega (arith, more))
      left_is false lt e is = absurd (no_entry e is)

  goes_both : (p n : ℕ) → map.get space.names name ≡ Some (ReceiveAndSend p n) →
      Goes w s o k task name space MoveSend (record { left = one_less (ReceiveAndSend p) (Some (Receive p)) n; mark = mark.Port p })
  goes_both p n found =
      let h = own_held w s a o k l task name space there (ReceiveAndSend p n) found p refl in
      let some : 0 < n = counted w s a o k l task name space there (ReceiveAndSend p n) found in
      sends_moved w s a o k l task name space there (ReceiveAndSend p n) found requested p n refl refl refl some true
      (ap (λ (x : ℕ). nat_lt 1 (held s task send p) || nat_lt 0 x) h.0 ∙ or_true (nat_lt 1 (held s task send p)))
      (one_less (ReceiveAndSend p) (Some (Receive p)) n) (left_of (nat_lt 1 n)) (λ e is. left_is some (nat_lt 1 n) refl e is)
    where
      left_of : (b : Bool) → LeftIs (ReceiveAndSend p n) true (if b then Some (ReceiveAndSend p (n - 1)) else Some (Receive p))
      left_of true = (ReceiveAndSend p (n - 1), refl, refl)
      left_of false = (Receive p, refl, refl)

      left_is : 0 < n → (b : Bool) → nat_lt 1 n ≡ b → (e : Entry) → (if b then Some (ReceiveAndSend p (n - 1)) else Some (Receive p)) ≡ Some e →
          HasCount e × (port_named e ≡ Some p) × (has_receive e ≡ true) × (send_references e + 1 ≡ n)
      left_is some true lt e is =
          let more = ltb-true 1 n lt in
          subst (λ (x : Entry). HasCount x × (port_named x ≡ Some p) × (has_receive x ≡ true) × (send_references x + 1 ≡ n)) (sym (the_same (ReceiveAndSend p (n - 1)) e is))
          (omega (arith, more), refl, refl, omega (arith, more))
      left_is some false lt e is =
          let few = ltb-false 1 n lt in
          subst (λ (x : Entry). HasCount x × (port_named x ≡ Some p) × (has_receive x ≡ true) × (send_references x + 1 ≡ n)) (sym (the_same (Receive p) e is))
          (tt, refl, refl, omega (arith, few, some))

  goes_receive : (p : ℕ) → map.get space.names name ≡ Some (Receive p) → Goes w s o k task name space MoveReceive (record { left = None; mark = mark.Port p })
  goes_receive p found =
      let h = own_held w s a o k l task name space there (Receive p) found p refl in
      receive_moves w s a o k l task name space there (Receive p) found requested p refl refl refl false (is_none (held s task send p) h.1) None refl (λ e is. absurd (no_entry e is))

  goes_all : (p n : ℕ) → map.get space.names name ≡ Some (ReceiveAndSend p n) → Goes w s o k task name space MoveReceive (record { left = Some (Send p n); mark = mark.Port p })
  goes_all p n found =
      let h = own_held w s a o k l task name space there (ReceiveAndSend p n) found p refl in
      let some : 0 < n = counted w s a o k l task name space there (ReceiveAndSend p n) found in
      receive_moves w s a o k l task name space there (ReceiveAndSend p n) found requested p refl refl refl true
      (ap (nat_lt 0) h.1 ∙ is_above 0 n some (nat_lt 0 n) refl) (Some (Send p n)) (Send p n, refl, refl)
      (λ e is. subst (λ (x : Entry). HasCount x × (port_named x ≡ Some p) × (has_receive x ≡ false) × (send_references x ≡ n)) (sym (the_same (Send p n) e is)) (some, refl, refl, refl))

  its : (d : Disposition) (x c : Copied) → Some x ≡ Some c → Goes w s o k task name space d x → Goes w s o k task name space d c
  its d x c e g = grind arith

  -- A right goes by each disposition that it can go by.
  pub goes : (d : Disposition) (entry : Entry) (c : Copied) → map.get space.names name ≡ Some entry → copied_from d entry ≡ Some c → Goes w s o k task name space d c
  goes MoveReceive (Receive p) c found e = its MoveReceive _ c e (goes_receive p found)
  goes MoveReceive (ReceiveAndSend p n) c found e = its MoveReceive _ c e (goes_all p n found)
  goes MoveSend (Send p n) c found e = its MoveSend _ c e (goes_send p n found)
  goes MoveSend (ReceiveAndSend p n) c found e = its MoveSend _ c e (goes_both p n found)
  goes MoveSend (DeadName n) c found e = its MoveSend _ c e (dead_moves w s a o k l task name space there n found requested MoveSend (inl refl))
  goes MoveSendOnce (SendOnce p) c found e = its MoveSendOnce _ c e (once_moves w s a o k l task name space there (SendOnce p) found requested p refl)
  goes MoveSendOnce (DeadName n) c found e = its MoveSendOnce _ c e (dead_moves w s a o k l task name space there n found requested MoveSendOnce (inr refl))
  goes CopySend (Send p n) c found e =
      its CopySend _ c e (copies_send w s a o k l task name space there (Send p n) found p refl refl requested (counted w s a o k l task name space there (Send p n) found))
  goes CopySend (ReceiveAndSend p n) c found e =
      its CopySend _ c e (copies_send w s a o k l task name space there (ReceiveAndSend p n) found p refl refl requested (counted w s a o k l task name space there (ReceiveAndSend p n) found))
  goes CopySend (DeadName n) c found e = its CopySend _ c e (dead_copies w s a o k l task name space there n found requested)
  goes MakeSend (Receive p) c found e = its MakeSend _ c e (makes_send w s a o k l task name space there (Receive p) found p refl refl requested refl)
  goes MakeSend (ReceiveAndSend p n) c found e = its MakeSend _ c e (makes_send w s a o k l task name space there (ReceiveAndSend p n) found p refl refl requested refl)
  goes MakeSendOnce (Receive p) c found e = its MakeSendOnce _ c e (makes_once w s a o k l task name space there (Receive p) found p refl refl requested refl)
  goes MakeSendOnce (ReceiveAndSend p n) c found e = grind (arith, its, makes_once)
  goes d entry c found e = absurd (let f : None ≡ Some c = e in cc)
