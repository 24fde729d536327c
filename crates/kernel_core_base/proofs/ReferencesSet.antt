-- References became so many, or a right is lost with its name.
use Rattle.std.proofs.Common.{◌≡◌, ℕ, ap, ◌∙◌, arith, ◌+◌, ◌-◌, List, Option, Some, None, refl, sym, subst, Bool, true, false, inr, length, ◌<◌, [], ◌∷◌, ◌++◌, ◌≤◌, inl}
use Rattle.std.specs.Prelude.{is_some, if◌then◌else◌, ◌==◌, ◌&&◌, ◌||◌, nat_lt, slice_set, replicate}
use Rattle.std.specs.Option.{option_map}
use Rattle.std.specs.FinMap as map
use Rattle.std.proofs.lemmas.Bool.{ltb-true, ltb-false, ne_eqb, eq-eqb}
use Rattle.std.specs.Ordering.{nat_cmp}
use Rattle.std.proofs.lemmas.List.Elements.{All-cons, All-replicate}
use Rattle.mach_types.specs.Tokens.{Kind, receive, send, send_once, Request, dead_name, in_task, in_request, Token, token, weigh, count, is_of, is_held, in_message}
use Rattle.mach_types.specs.declared.calls.Event.{Event}
use Rattle.mach_types.specs.declared.calls.Reply.{Reply}
use Rattle.mach_types.specs.declared.rights.Disposition.TheVariants.{MoveSendOnce, MoveSend}
use Rattle.mach_model.specs.State.{State, Target, Names, lookup, held, at, request_at, without_name, with_name}
use Rattle.mach_model.specs.Death.{same_place, IsOrphan}
use Rattle.mach_model.specs.Telling.{one_if}
use Rattle.mach_model.specs.CopyIn.{name_kept}
use Rattle.mach_model.specs.References.{SetsSends, with_dead, LosesOne, unused_once, LosesAll, is_either, without_set}
use Rattle.mach_model.specs.NameGuards.{HasReference}
use Rattle.mach_model.proofs.Names.{at_own, at_other, length-weigh, held_le_of, both_test, some_tally}
use Rattle.mach_model.proofs.Settling.{named_lives}
use Rattle.mach_model.proofs.Copying.{other_port, own_right}
use Rattle.mach_model.specs.Acts.{Does}
use Rattle.mach_model.specs.Machine.{Judged}
use Rattle.mach_model.specs.Refusals.{call_guards}
use Rattle.mach_model.proofs.Midway.{NamesOnce, LosesWhole, LosesNone}
use Rattle.rights.specs.Counts.{with_more, with_fewer}
use Rattle.rights.specs.Ledger.{LedgerView, made, taken, counts_of, shifted}
use Rattle.rights.specs.declared.RightKind.TheVariants as right
use Rattle.name_space.specs.declared.Entry.{Entry}
use Rattle.name_space.specs.declared.Entry.TheVariants as entry_of
use Rattle.name_space.specs.Entry.{port_named, has_receive, send_references, receive_named}
use Rattle.name_space.specs.Names.{SpaceView}
use Rattle.name_space.specs.declared.Entry.TheVariants.{SendOnce}
use Rattle.port.specs.Ports.{PortView}
use Rattle.copyin_base.specs.Wanted.{KeepsSpares, UsesSpares}
use Rattle.copyin_base.specs.Worlds.{WorldView, put, space_at, NoneLost, entry_in, entry_at, HasTask}
use Rattle.copyin_base.proofs.SendersNoted.{noted_keeps, noted_holders, sends_shifted, keeps_senders, senders_same, senders_kept, noted_agrees}
use Rattle.copyin_base.proofs.Spares.{keeps_same, keeps_space, keeps_trans, keeps_names, left_keeps}
use Rattle.copyin_base.specs.Requests.{requests_after}
use Rattle.copyin_base.specs.Shows.{target_of, HasCount, onces_queued, CountsAgree, Agrees, Shows, HoldersAgree, SetsAgree, CarriersAgree, SlotsSuffice, RequestsStand}
use Rattle.copyin_base.proofs.Agreeing.{own_names, own_rights, put_names, put_rights, sets_stay}
use Rattle.copyin_base.proofs.Changing.{named_no_set, target_named, target_found, held_by, changed_agrees}
use Rattle.copyin_base.proofs.Counting.{one_of, none_of_port, counts_agree}
use Rattle.copyin_base.proofs.Gets.{of_some, same_found}
use Rattle.copyin_base.proofs.NamesChanged.{names_agree, left_requests}
use Rattle.copyin_base.proofs.Putting.{put_other, put_same, get_removed}
use Rattle.copyin_base.proofs.Requesting.{stands_after}
use Rattle.copyin_base.proofs.Holders.{IsReceive, receives_at, none_receives, left_receives, removed_receives, KeepHolders, same_holders, disbanded_holders, holders_left, put_holders, holders_ports, put_holders_left}
use Rattle.copyin_base.specs.declared.Notice.TheVariants as notice
use Rattle.copyin_base.specs.Serving.{HasTasks, IsAllowed, Completes}
use Rattle.copyin_base.specs.Changes.{MovesEntry, NotesSenders}
use Rattle.copyin_base.specs.Kept.{Kept}
use Rattle.copyin_base.specs.Posted.{with_posted, IsLeft}
use Rattle.copyin_base.specs.Queued.{notice_kept}
use Rattle.copyin_base.proofs.Acting.{done_leaving, makes_none, none_left, done}
use Rattle.copyin_base.proofs.Carriers.{carriers_same, carriers_queued}
use Rattle.copyin_base.proofs.Idle.{none_lost_by}
use Rattle.copyin_base.proofs.Listed.{none_listed}
use Rattle.copyin_base.proofs.Requested.{requested_removed, requested_put}
use Rattle.copyin_base.proofs.Taking.{Without, take_held}
use Rattle.copyin_base.proofs.Told.{found, receive_has, used, not_receive}
use Rattle.copyin_base.proofs.Unused.{once_unused}
use Rattle.notifications.proofs.TaskEnded.{weigh_alike, weigh_unlike}
use Rattle.notifications.proofs.NoticePosted.{told_agrees}
use Rattle.kernel_core_base.specs.declared.references.Due.{Due}
use Rattle.kernel_core_base.specs.declared.references.Due.TheVariants.{Nothing, References, Disbanding, LosingOnce, Killing}
use Rattle.kernel_core_base.specs.References.{Carries, left_with, recounted, CountsReferences, RemovesSet, LosesOnce, SetsReferences, deallocated, whole_loss, destroyed}
use Rattle.kernel_core_base.proofs.ReferencesLost.{fewer_keeps, IsPlain, lost_spares, receive_lost, unused_recounted, carried_slots, carried_carriers, carried_requested, carried_notes, carried_none_lost}
use Rattle.kernel_core_base.proofs.ReceiveTaken.{Recounts, recount, TakesSo, kill_held, removed_agrees}

-- ---- Renaming, and what is due to a name, leave what is kept for names and messages to come as it was.

module _ (old new : WorldView) (task : ℕ) where
  pub moved_keeps : (mid : WorldView) (from to : ℕ) (e : Entry) → MovesEntry old task from to e mid → new.spaces ≡ mid.spaces → new.ports ≡ mid.ports → KeepsSpares old new
  moved_keeps mid from to e m spaces ports = keeps_space old new task m.space _ m.there (spaces ∙ ap (λ (w : WorldView). w.spaces) m.rest) (omega arith)
      (ap (λ p. p.spare) ports ∙ ap (λ (w : WorldView). w.ports.spare) m.rest)

  pub carried_keeps : (name : ℕ) (due : Due) → IsPlain due → Carries old task name due new → KeepsSpares old new
  carried_keeps name Nothing plain is = keeps_same old new is
  carried_keeps name (References e m) plain r =
      let c = r.counts in
      fewer_keeps (KeepsSpares old) r.counted new e m r.notes (λ p n keeps. keeps_trans old r.counted new keeps (noted_keeps r.counted new p n))
      (keeps_space old r.counted task c.space _ c.there (ap (λ (w : WorldView). w.spaces) c.rest) (omega arith) (ap (λ (w : WorldView). w.ports.spare) c.rest))
  carried_keeps name (Disbanding set) plain r = keeps_space old new task r.space _ r.there (ap (λ (w : WorldView). w.spaces) r.rest) (omega arith) r.disbanded.spare
  carried_keeps name (LosingOnce p) plain r = absurd plain
  carried_keeps name (Killing loss) plain r = absurd plain

-- ---- The references under a name became so many, in the tables and in the machine alike.

-- The machine comes to a state that the tables agree with.
pub record Comes (P : State → Type 0) (v : WorldView) : Type 0 where
  pub t : State
  pub does : P t
  pub agrees : Agrees v t

module _ (w : WorldView) (s : State) (sh : Shows w s) (task name : ℕ) (space : SpaceView) (there : space_at w task ≡ Some space)
    (entry : Entry) (found : map.get space.names name ≡ Some entry) where
  -- the tables with this under the name and these counts
  abbrev tables : Option Entry → LedgerView → WorldView
  tables left ledger = record w {
    spaces = slice_set w.spaces task (Some (record space { names = put space.names name left }));
    ledger = ledger;
    requests = requests_after w.requests task name left;
  }

  is_target : lookup s task name ≡ Some (target_of entry)
  is_target = target_found w s sh.agrees task name (sh.lawful.naming task) space there entry found

  -- ---- send references of a port

  module _ (p m : ℕ) (named : port_named entry ≡ Some p) where
    holds : (held s task receive p ≡ one_if (has_receive entry)) × (held s task send p ≡ send_references entry)
    holds = held_by w s sh.agrees task name (sh.lawful.naming task) space there entry found p named

    live : s.live_port p ≡ true
    live = named_lives s sh.lawful task name p (is_target ∙ ap Some (target_named entry p named))

    recounts : Recounts task p (held s task send p) m s.ledger
    recounts = recount task p m s.ledger

    abbrev ledger : List Token
    ledger = recounts.ys

    same_weight : (h : Token → ℕ) → h (token send p (in_task task)) ≡ 0 → weigh h ledger ≡ weigh h s.ledger
    same_weight h z = grind (arith, weigh_unlike, recounts)

    more_weight : (h : Token → ℕ) → h (token send p (in_task task)) ≡ 1 → weigh h ledger + (held s task send p - m) ≡ weigh h s.ledger + (m - held s task send p)
    more_weight h o = grind (arith, weigh_alike, recounts)

    -- the counts become those of the ledger
    counted : (q : ℕ) → CountsAgree (recounted w.ledger p (held s task send p) m) s.live_port ledger (onces_queued s) q
    counted = go (nat_lt (held s task send p) m) refl
      where
        others : (q : ℕ) → (q ≡ p → ⊥) → (s.live_port q ≡ s.live_port q) × (onces_queued s q ≡ onces_queued s q) × ((c : Kind) → count (is_of c q) s.ledger ≡ count (is_of c q) ledger)
        others q not = (refl, refl, λ c. sym (same_weight (λ x. if is_of c q x then 1 else 0) (none_of_port send c p q (in_task task) not)))

        receives : (counts_of w.ledger p).receive ≡ count (is_of receive p) ledger
        receives = (sh.agrees.counts p).receivers ∙ sym (same_weight (λ x. if is_of receive p x then 1 else 0) refl)

        onces : (counts_of w.ledger p).send_once + (counts_of w.ledger p).destination ≡ count (is_of send_once p) ledger
        onces = (sh.agrees.counts p).once_rights ∙ sym (same_weight (λ x. if is_of send_once p x then 1 else 0) refl)

        sends : count (is_of send p) ledger + (held s task send p - m) ≡ (counts_of w.ledger p).send + (m - held s task send p)
        sends =
            let e = more_weight (λ x. if is_of send p x then 1 else 0) (one_of send p (in_task task) refl) in
            let c = (sh.agrees.counts p).senders in omega (arith, e, c)

        go : (b : Bool) → nat_lt (held s task send p) m ≡ b → (q : ℕ) →
            CountsAgree (if b then made w.ledger p right.Send (m - held s task send p) else taken w.ledger p right.Send (held s task send p - m)) s.live_port ledger (onces_queued s) q
        go true e = counts_agree w.ledger s.live_port s.ledger (onces_queued s) sh.agrees.counts (made w.ledger p right.Send (m - held s task send p)) s.live_port ledger (onces_queued s) p
            (with_more right.Send (m - held s task send p) (counts_of w.ledger p)) refl (sym live) receives (let below = ltb-true (held s task send p) m e in let k = sends in omega (arith, below, k)) onces ((sh.agrees.counts p).destinations live) others
        go false e = counts_agree w.ledger s.live_port s.ledger (onces_queued s) sh.agrees.counts (taken w.ledger p right.Send (held s task send p - m)) s.live_port ledger (onces_queued s) p
            (with_fewer right.Send (held s task send p - m) (counts_of w.ledger p)) refl (sym live) receives
            (let above = ltb-false (held s task send p) m e in let k = sends in let le = held_le_of task send p s.ledger in let c = (sh.agrees.counts p).senders in omega (arith, above, k, le, c)) onces ((sh.agrees.counts p).destinations live) others

    total : (recounted w.ledger p (held s task send p) m).total ≡ length ledger
    total = grind (arith, more_weight, length-weigh, ltb-true, ltb-false)

    -- this is left under the name
    abbrev IsLeft_set : Entry → Type 0
    IsLeft_set e = HasCount e × (port_named e ≡ Some p) × (has_receive e ≡ has_receive entry) × (send_references e ≡ m)

    agree : (left : Option Entry) (names : ℕ → Names) (stands : Request → Bool) → ((r : Request) → stands r ≡ stands_after s.stands task name left r) → names task ≡ put (s.naming task) name (option_map target_of left) → ((u : ℕ) → (u ≡ task → ⊥) → names u ≡ s.naming u) →
        ((e : Entry) → left ≡ Some e → IsLeft_set e) → Agrees (tables left (recounted w.ledger p (held s task send p) m)) (record s { naming = names; stands = stands; ledger = ledger })
    agree left names stands same own others is = changed_agrees w s sh.agrees task name (sh.lawful.naming task) space there entry found left space.room w.ports
        (recounted w.ledger p (held s task send p) m) (record s { naming = names; stands = stands; ledger = ledger }) own sh.requested record {
          rest = refl;
          naming_others = others;
          held_others = λ u not c q. same_weight (λ x. if is_held u c q x then 1 else 0) (both_test (is_of c q (token send p (in_task task))) (task == u) (inr (ne_eqb task u (λ e. not (sym e)))));
          own_references = λ e q is_e en.
              let x = is e is_e in
              let q_is : p ≡ q = same_found (port_named e) p q x.1 en in
              subst (λ (y : ℕ). (count (is_held task receive y) ledger ≡ one_if (has_receive e)) × (count (is_held task send y) ledger ≡ send_references e)) q_is (
                same_weight (λ k. if is_held task receive p k then 1 else 0) refl ∙ holds.0 ∙ ap one_if (sym x.2),
                (let k = more_weight (λ k. if is_held task send p k then 1 else 0) (own_right task send p refl) in let y = x.3 in omega (arith, k, y)),
              );
          other_references = λ q not.
              let far : q ≡ p → ⊥ = (λ e. not (named ∙ ap Some (sym e))) in
              (same_weight (λ x. if is_held task receive q x then 1 else 0) (other_port task task receive send q p far), same_weight (λ x. if is_held task send q x then 1 else 0) (other_port task task send send q p far));
          own_count = λ e is_e. (is e is_e).0;
          made = refl;
          live = λ q. refl;
          ports = sh.agrees.ports;
          counts = counted;
          total = total;
          stands = same;
          requests = λ r c q. same_weight (λ x. if is_of c q x && same_place (in_request r) x.place then 1 else 0) (both_test (is_of c q (token send p (in_task task))) false (inr refl));
          no_set = named_no_set entry p named;
          given = refl;
        }

    abbrev Sets : Option Entry → Type 0
    Sets left = Comes (λ t. SetsSends task name p m s t) (tables left (recounted w.ledger p (held s task send p) m))

    abbrev stays : Bool
    stays = nat_lt 0 m || nat_lt 0 (held s task receive p)

    kept : (e : Entry) → target_of e ≡ target_of entry → IsLeft_set e → stays ≡ true → Sets (Some e)
    kept e same is b = record {
      t = record s { ledger = ledger };
      does = record { tokens = recounts.moves; rest = ap (λ (y : Bool). record (name_kept y task name s) { ledger = ledger }) (sym b) };
      agrees = agree (Some e) s.naming s.stands (λ r. refl) (sym (put_same (s.naming task) name (target_of e) (is_target ∙ ap Some (sym same)))) (λ u not. refl) (of_some e IsLeft_set is);
    }

    gone : stays ≡ false → Sets None
    gone b = record {
      t = record (without_name task name s) { ledger = ledger };
      does = record { tokens = recounts.moves; rest = ap (λ (y : Bool). record (name_kept y task name s) { ledger = ledger }) (sym b) };
      agrees = agree None (at s.naming task (map.remove (s.naming task) name)) (request_at s.stands (dead_name task name) false) (λ r. refl) (at_own s.naming task (map.remove (s.naming task) name))
          (at_other s.naming task (map.remove (s.naming task) name)) (λ e is. let f : None ≡ Some e = is in absurd (cc));
    }

  -- ---- a dead name

  module _ (portless : port_named entry ≡ None) (setless : (set : ℕ) → target_of entry ≡ Target.set set → ⊥) where
    plain : (left : Option Entry) → ((e : Entry) → left ≡ Some e → HasCount e × (port_named e ≡ None)) →
        Agrees (tables left w.ledger) (record s { naming = at s.naming task (put (s.naming task) name (option_map target_of left)); stands = stands_after s.stands task name left })
    plain left is = names_agree w s sh.agrees task space there (put space.names name left) space.room own (stands_after s.stands task name left) w.sets s.set_owner s.sets_made
        (requests_after w.requests task name left) (left_requests w s sh.agrees task space there sh.lawful sh.requested name (ap is_some found) left)
        (put_names space.names (s.naming task) (own_names w s sh.agrees task space there) name left (λ e is_e. (is e is_e).0))
        (put_rights space.names task s.ledger (own_rights w s sh.agrees task space there) name left (λ e p is_e named. absurd (nowhere p (sym (is e is_e).1 ∙ named))))
        (sets_stay w.sets s.set_owner s.sets_made s.naming (at s.naming task own) sh.agrees.in_sets task (at_other s.naming task own)
        (λ n set named. ap (map_at n) (at_own s.naming task own) ∙ put_other (s.naming task) name (option_map target_of left) n (λ same.
        setless set (same_found (map.get (s.naming task) name) (target_of entry) (Target.set set) is_target (ap (map.get (s.naming task)) (sym same) ∙ named))) ∙ named))
      where
        own : Names
        own = put (s.naming task) name (option_map target_of left)

        map_at : ℕ → Names → Option Target
        map_at n x = map.get x n

        nowhere : (p : ℕ) → None ≡ Some p → ⊥
        nowhere p e = cc

-- ---- by what stood under the name

no_less : (m : ℕ) → nat_lt 0 m ≡ false → m ≡ 0
no_less m e = let f = ltb-false 0 m e in omega (arith, f)

either : (y : Bool) → (y || true) ≡ true
either true = refl
either false = refl

module _ (w : WorldView) (s : State) (sh : Shows w s) (task name m : ℕ) (v : WorldView) where
  pub send_set : (p n : ℕ) → CountsReferences w task name (entry_of.Send p n) m v → Comes (λ t. SetsSends task name p m s t) v
  send_set p n r = subst (Comes (λ t. SetsSends task name p m s t)) (sym (r.rest ∙ ap (λ (k : ℕ). record w {
    spaces = slice_set w.spaces task (Some (record r.space { names = put r.space.names name (left_with (entry_of.Send p n) m) }));
    ledger = recounted w.ledger p k m;
    requests = requests_after w.requests task name (left_with (entry_of.Send p n) m);
  }) (sym h.1))) (go (nat_lt 0 m) refl)
    where
      e : Entry
      e = entry_of.Send p n

      h : (held s task receive p ≡ 0) × (held s task send p ≡ n)
      h = holds w s sh task name r.space r.there (entry_of.Send p n) r.found p m refl

      go : (b : Bool) → nat_lt 0 m ≡ b → Sets w s sh task name r.space r.there (entry_of.Send p n) r.found p m refl (if b then Some (entry_of.Send p m) else None)
      go true b = kept w s sh task name r.space r.there (entry_of.Send p n) r.found p m refl (entry_of.Send p m) refl (ltb-true 0 m b, refl, refl, refl) (ap (λ (y : Bool). y || nat_lt 0 (held s task receive p)) b)
      go false b = gone w s sh task name r.space r.there (entry_of.Send p n) r.found p m refl (ap (λ (y : Bool). y || nat_lt 0 (held s task receive p)) b ∙ ap (nat_lt 0) h.0)

  pub both_set : (p n : ℕ) → CountsReferences w task name (entry_of.ReceiveAndSend p n) m v → Comes (λ t. SetsSends task name p m s t) v
  both_set p n r = subst (Comes (λ t. SetsSends task name p m s t)) (sym (r.rest ∙ ap (λ (k : ℕ). record w {
    spaces = slice_set w.spaces task (Some (record r.space { names = put r.space.names name (left_with (entry_of.ReceiveAndSend p n) m) }));
    ledger = recounted w.ledger p k m;
    requests = requests_after w.requests task name (left_with (entry_of.ReceiveAndSend p n) m);
  }) (sym h.1))) (go (nat_lt 0 m) refl)
    where
      h : (held s task receive p ≡ 1) × (held s task send p ≡ n)
      h = holds w s sh task name r.space r.there (entry_of.ReceiveAndSend p n) r.found p m refl

      is_kept : (nat_lt 0 m || nat_lt 0 (held s task receive p)) ≡ true
      is_kept = ap (λ (k : ℕ). nat_lt 0 m || nat_lt 0 k) h.0 ∙ either (nat_lt 0 m)

      go : (b : Bool) → nat_lt 0 m ≡ b → Sets w s sh task name r.space r.there (entry_of.ReceiveAndSend p n) r.found p m refl (if b then Some (entry_of.ReceiveAndSend p m) else Some (entry_of.Receive p))
      go true b = kept w s sh task name r.space r.there (entry_of.ReceiveAndSend p n) r.found p m refl (entry_of.ReceiveAndSend p m) refl (ltb-true 0 m b, refl, refl, refl) is_kept
      go false b = kept w s sh task name r.space r.there (entry_of.ReceiveAndSend p n) r.found p m refl (entry_of.Receive p) refl (tt, refl, refl, sym (no_less m b)) is_kept

  pub dead_set : (n : ℕ) → CountsReferences w task name (entry_of.DeadName n) m v → Agrees v (with_dead task name m s)
  dead_set n r = subst (λ (x : WorldView). Agrees x (with_dead task name m s)) (sym r.rest) (go (nat_lt 0 m))
    where
      setless : (set : ℕ) → Target.dead n ≡ Target.set set → ⊥
      setless set e = cc

      go : (b : Bool) → Agrees (tables w s sh task name r.space r.there (entry_of.DeadName n) r.found (if b then Some (entry_of.DeadName m) else None) w.ledger)
          (if b then with_name task name (Target.dead m) s else without_name task name s)
      go true = plain w s sh task name r.space r.there (entry_of.DeadName n) r.found refl setless (Some (entry_of.DeadName m)) (of_some (entry_of.DeadName m) (λ x. HasCount x × (port_named x ≡ None)) (tt, refl))
      go false = plain w s sh task name r.space r.there (entry_of.DeadName n) r.found refl setless None (λ e is. let f : None ≡ Some e = is in absurd (cc))

-- ---- What is due to a name leaves each port's holder as it was, and no name gets a receive right by it.

-- ---- what is left has the receive right only if the entry had it

same_right : (e x : Entry) → port_named x ≡ port_named e → has_receive x ≡ has_receive e → (p : ℕ) → IsReceive (Some x) p → IsReceive (Some e) p
same_right e x port receives p i = grind (arith, same_found)

left_receive : (e : Entry) (m p : ℕ) → IsReceive (left_with e m) p → IsReceive (Some e) p
left_receive (entry_of.Send q n) m p = grind (arith, same_right, none_receives)
left_receive (entry_of.ReceiveAndSend q n) m p = grind (arith, same_right)
left_receive (entry_of.DeadName n) m p = grind (arith, same_right, none_receives)
left_receive (entry_of.Receive q) m p = λ i. i
left_receive (entry_of.SendOnce q) m p = λ i. i
left_receive (entry_of.Set set) m p = λ i. i

-- ---- in the tables

module _ (w v : WorldView) (h : HoldersAgree w) (task name : ℕ) where
  counted_holders : (e : Entry) (m : ℕ) → CountsReferences w task name e m v → HoldersAgree v
  counted_holders e m r = holders_left w v h task r.space (record r.space { names = put r.space.names name (left_with e m) }) r.there (ap (λ (x : WorldView). x.spaces) r.rest)
      (left_receives r.space.names name (left_with e m) (λ p i. receives_at (λ n. map.get r.space.names n) name p
      (subst (λ (o : Option Entry). IsReceive o p) (sym r.found) (left_receive e m p i))))
      (subst (λ (x : WorldView). KeepHolders w.ports.ports x.ports.ports) (sym r.rest) (same_holders w.ports.ports))

  set_holders : (set : ℕ) → RemovesSet w task name set v → HoldersAgree v
  set_holders set r = grind (arith, holders_left, removed_receives, disbanded_holders)

module _ (w v : WorldView) (h : HoldersAgree w) (task name : ℕ) where
  pub carried_holders : (due : Due) → IsPlain due → Carries w task name due v → HoldersAgree v
  carried_holders Nothing plain same = subst HoldersAgree (sym same) h
  carried_holders (References e m) plain r = fewer_keeps HoldersAgree r.counted v e m r.notes (λ p n. noted_holders r.counted v p n) (counted_holders w r.counted h task name e m r.counts)
  carried_holders (Disbanding set) plain r = set_holders w v h task name set r
  carried_holders (LosingOnce p) plain r = absurd plain
  carried_holders (Killing loss) plain r = absurd plain

-- ---- A send-once right is lost with its name: the tables have its notice in the queue of its port, as the machine owes it one.

no_set : (p set : ℕ) → Target.once p ≡ Target.set set → ⊥
no_set p set e = cc

no_entry : (e : Entry) → None ≡ Some e → ⊥
no_entry e is = cc

module _ (w : WorldView) (task name p : ℕ) (v : WorldView) (r : LosesOnce w task name p v) where
  -- the port with the notice
  abbrev told : PortView Kept
  told = record r.posts.v { queue = r.posts.v.queue ++ notice_kept notice.SendOnce ∷ [] }

  ports_are : v.ports.ports ≡ map.insert r.named.ports.ports p told
  ports_are = ap (λ (x : WorldView). x.ports.ports) r.posts.rest

  -- ---- the tables alone

  once_holders : HoldersAgree w → HoldersAgree v
  once_holders h = holders_ports r.named v (put_holders_left w r.named h task name None r.puts (λ q i. absurd (none_receives q i))) (ap (λ (x : WorldView). x.spaces) r.posts.rest)
      (subst (λ (m : map.FinMap nat_cmp (PortView Kept)). KeepHolders r.named.ports.ports m) (sym ports_are) (put_holders r.named.ports.ports p r.posts.v told r.posts.there refl))

  once_carriers : CarriersAgree w → CarriersAgree v
  once_carriers c = grind (arith, carriers_queued, carriers_same, ports_are, none_listed)

  once_requested : RequestsStand w → RequestsStand v
  once_requested a = requested_put r.named v (requested_removed w r.named a task name r.puts) p told ports_are
      (ap (λ (x : WorldView). x.requests) r.posts.rest) (ap (λ (x : WorldView). x.spaces) r.posts.rest)

  once_none_lost : NoneLost w → NoneLost v
  once_none_lost n = grind (arith, none_lost_by)

  ledger_is : v.ledger ≡ shifted w.ledger p
  ledger_is = ap (λ (x : WorldView). x.ledger) r.posts.rest ∙ ap (λ (x : WorldView). shifted x.ledger p) r.puts.rest

  once_notes : (s : State) → Shows w s → NotesSenders w v
  once_notes s sh = grind (arith, senders_kept, senders_same, keeps_senders, ledger_is, sends_shifted)

  pub once_spares : SlotsSuffice w → UsesSpares w v
  once_spares enough =
      let k = keeps_trans w r.named (record v { ports = record v.ports { spare = r.named.ports.spare } }) (left_keeps w r.named task name None r.puts)
      (keeps_names r.named (record v { ports = record v.ports { spare = r.named.ports.spare } }) (ap (λ (x : WorldView). x.spaces) r.posts.rest) refl) in
      record {
        rooms = k.rooms;
        fewer =
            let left : v.ledger.unused ≡ r.named.ledger.unused - 1 = ap (λ (x : WorldView). x.ledger.unused) r.posts.rest in
            let unused : r.named.ledger.unused ≡ w.ledger.unused = ap (λ (x : WorldView). x.ledger.unused) r.puts.rest in
            omega (arith, left, unused);
        slots =
            let now : v.ports.spare ≡ r.named.ports.spare - 1 = ap (λ (x : WorldView). x.ports.spare) r.posts.rest in
            let left : v.ledger.unused ≡ r.named.ledger.unused - 1 = ap (λ (x : WorldView). x.ledger.unused) r.posts.rest in
            let spare : r.named.ports.spare ≡ w.ports.spare = ap (λ (x : WorldView). x.ports.spare) r.puts.rest in
            let unused : r.named.ledger.unused ≡ w.ledger.unused = ap (λ (x : WorldView). x.ledger.unused) r.puts.rest in
            let some = r.posts.counted in
            omega (arith, now, left, spare, unused, some, enough);
      }

  -- ---- in a state

  module _ (s : State) (sh : Shows w s) where
    is_once_named : lookup s task name ≡ Some (Target.once p)
    is_once_named = found w s sh.agrees task name (SendOnce p) r.found

    some : 0 < held s task send_once p
    some = grind (arith, some_tally, is_once_named, eq-eqb)

    taken_lost : Without (token send_once p (in_task task)) s.ledger
    taken_lost = take_held task send_once p s.ledger some

    abbrev mid : State
    mid = record (without_name task name s) { ledger = taken_lost.others }

    loses : LosesOne task name MoveSendOnce (Target.once p) s mid
    loses = record { found = is_once_named; rest = refl; tokens = λ h. let a = taken_lost.parts h in omega (arith, a) }

    abbrev own : Names
    own = map.remove (s.naming task) name

    in_space : map.get r.puts.space.names name ≡ Some (SendOnce p)
    in_space = sym (ap (λ (o : Option SpaceView). entry_in o name) r.puts.there) ∙ r.found

    in_sets : SetsAgree w.sets s.set_owner s.sets_made (at s.naming task own)
    in_sets = grind (arith, sets_stay, at_other, at_own, get_removed, no_set, same_found, is_once_named)

    -- the name alone went
    name_gone : Agrees r.named (without_name task name s)
    name_gone =
        let a = sh.agrees in
        let space = r.puts.space in
        let there = r.puts.there in
        subst (λ (x : WorldView). Agrees x (without_name task name s)) (sym r.puts.rest)
        (names_agree w s a task space there (map.remove space.names name) space.room own (request_at s.stands (dead_name task name) false) w.sets s.set_owner s.sets_made
        _ (left_requests w s a task space there sh.lawful sh.requested name (ap is_some in_space) {A = Entry} None)
        (put_names space.names (s.naming task) (own_names w s a task space there) name None (λ e is. absurd (no_entry e is)))
        (put_rights space.names task s.ledger (own_rights w s a task space there) name None (λ e q is. absurd (no_entry e is))) in_sets)

    paid : 0 < (counts_of r.named.ledger p).send_once
    paid = grind (arith, once_unused, is_once_named)

    once_agrees : (now : ℕ) → Agrees v (with_posted now mid (unused_once p task))
    once_agrees now = told_agrees r.named (without_name task name s) name_gone p notice.SendOnce v r.posts now (sh.lawful.within p) paid
        (in_task task) (λ q. refl) (length (s.log p)) (token send_once p (in_message p (length (s.log p))) ∷ taken_lost.others) (λ h. let a = taken_lost.parts h in omega (arith, a))

    unlost : (q : ℕ) → ¬ (IsOrphan mid q)
    unlost q o = grind (arith, taken_lost)

    once_left : IsLeft v mid
    once_left = none_left v mid (once_none_lost sh.idle.none_lost) unlost

  -- An event that is allowed does this.
  pub once_lost : (event : Event) → HasTasks w event → IsAllowed w (λ s. call_guards s event) →
      ((now : ℕ) (s t : State) → Shows w s → LosesOne task name MoveSendOnce (Target.once p) s t →
      (d : Does now s event (Reply.Code 0) t (unused_once p task)) × Judged now s event (Reply.Code 0) t (unused_once p task) d) → Completes w event (Reply.Code 0) v
  once_lost event tasks allowed means = done_leaving w event (Reply.Code 0) v tasks allowed (λ now s sh. record {
    mid = mid s sh;
    owed = unused_once p task;
    does = (means now s (mid s sh) sh (loses s sh)).0;
    judged = (means now s (mid s sh) sh (loses s sh)).1;
    agrees = once_agrees s sh now;
    holders = once_holders sh.holders;
    carriers = once_carriers sh.carriers;
    slots = r.slots;
    requested = once_requested sh.requested;
    notes = once_notes s sh;
    makes = makes_none w v (once_none_lost sh.idle.none_lost);
    left = once_left s sh;
  })

-- ---- What is due to a name uses a spare slot for each send-once right that is lost, and no other.

uses_kept : (old new : WorldView) → KeepsSpares old new → new.ledger.unused ≡ old.ledger.unused → UsesSpares old new
uses_kept old new k unused = record { rooms = k.rooms; fewer = omega (arith, unused); slots = let spare = k.slots in omega (arith, spare, unused) }

pub carried_uses : (old new : WorldView) (task name : ℕ) (due : Due) → SlotsSuffice old → Carries old task name due new → UsesSpares old new
carried_uses old new task name Nothing enough c = uses_kept old new (carried_keeps old new task name Nothing tt c) (ap (λ (w : WorldView). w.ledger.unused) c)
carried_uses old new task name (References e m) enough c = uses_kept old new (carried_keeps old new task name (References e m) tt c)
    (fewer_keeps (λ v. v.ledger.unused ≡ old.ledger.unused) c.counted new e m c.notes (λ p n was. ap (λ (w : WorldView). w.ledger.unused) n.rest ∙ was)
    (ap (λ (w : WorldView). w.ledger.unused) c.counts.rest ∙ unused_recounted old.ledger (port_named e) (send_references e) m))
carried_uses old new task name (Disbanding set) enough c = uses_kept old new (carried_keeps old new task name (Disbanding set) tt c) (ap (λ (w : WorldView). w.ledger.unused) c.rest)
carried_uses old new task name (LosingOnce p) enough c = once_spares old task name p new c enough
carried_uses old new task name (Killing loss) enough c = lost_spares old task name loss new c

-- ---- Deallocate and Destroy: what they do, and what is due is done.

test_same : (a b c d : ℕ) → (a < b → c < d) → (c < d → a < b) → nat_lt a b ≡ nat_lt c d
test_same a b c d f g = grind (arith, ltb-true, ltb-false)

one_send : (s : State) (task name m p : ℕ) (t : State) → lookup s task name ≡ Some (Target.port p) → held s task send p ≡ m + 1 → SetsSends task name p m s t → LosesOne task name MoveSend (Target.port p) s t
one_send s task name m p t found n sets = grind (arith, found, test_same)

one_dead : (s : State) (task name n : ℕ) → 0 < n → lookup s task name ≡ Some (Target.dead n) → LosesOne task name MoveSend (Target.dead n) s (with_dead task name (n - 1) s)
one_dead s task name n some found = grind (arith, found, test_same)

count_either : (f g : Token → Bool) (xs : List Token) → count (λ x. f x || g x) xs ≤ count f xs + count g xs
count_either f g [] = omega arith
count_either f g (x ∷ xs) = grind (arith, count_either f g xs)

either_passes : (task p : ℕ) → is_either task p (token send p (in_task task)) ≡ true
either_passes task p = rw (eq-eqb p p refl, eq-eqb task task refl) refl

right_passes : (task p : ℕ) → is_either task p (token receive p (in_task task)) ≡ true
right_passes task p = rw (eq-eqb p p refl, eq-eqb task task refl) refl

all_sends : (s : State) (task name p : ℕ) (t : State) → held s task receive p ≡ 0 → SetsSends task name p 0 s t → LosesAll (is_either task p) s.ledger t.ledger
all_sends s task name p t none sets = record {
  gone = replicate (held s task send p - 0) (token send p (in_task task));
  moves = λ h. let e = sets.tokens h in let z = come h in omega (arith, e, z);
  passed = All-replicate (λ (x : Token). is_either task p x ≡ true) (held s task send p - 0) (token send p (in_task task)) (either_passes task p);
  none_left =
      let a = count_either (is_held task receive p) (is_held task send p) t.ledger in
      let r = sets.tokens (λ x. if is_held task receive p x then 1 else 0) in
      let r0 = weigh_unlike (λ x. if is_held task receive p x then 1 else 0) (held s task send p - 0) (token send p (in_task task)) refl in
      let r1 = come (λ x. if is_held task receive p x then 1 else 0) in
      let k = sets.tokens (λ x. if is_held task send p x then 1 else 0) in
      let k0 = weigh_alike (λ x. if is_held task send p x then 1 else 0) (held s task send p - 0) (token send p (in_task task)) (own_right task send p refl) in
      let k1 = come (λ x. if is_held task send p x then 1 else 0) in
      omega (arith, a, r, r0, r1, k, k0, k1, none);
}
  where
    come : (h : Token → ℕ) → weigh h (replicate (0 - held s task send p) (token send p (in_task task))) ≡ 0
    come h = let z : 0 - held s task send p ≡ 0 = omega arith in ap (λ (k : ℕ). weigh h (replicate k (token send p (in_task task)))) z

all_gone : (s : State) (task name p : ℕ) (t : State) → held s task receive p ≡ 0 → SetsSends task name p 0 s t → t ≡ record (without_name task name s) { ledger = t.ledger }
all_gone s task name p t none sets = sets.rest ∙ ap (λ (k : ℕ). record (name_kept (nat_lt 0 k) task name s) { ledger = t.ledger }) none

-- ... and the receive right
all_rights : (s : State) (task name p n : ℕ) (t : State) → (held s task receive p ≡ 1) × (held s task send p ≡ n) → TakesSo task name (whole_loss p n) s t → LosesAll (is_either task p) s.ledger t.ledger
all_rights s task name p n t had takes = record {
  gone = token receive p (in_task task) ∷ replicate (n - 0) (token send p (in_task task));
  moves = takes.tokens;
  passed = All-cons (λ (x : Token). is_either task p x ≡ true) (token receive p (in_task task)) (replicate (n - 0) (token send p (in_task task))) (right_passes task p)
      (All-replicate (λ (x : Token). is_either task p x ≡ true) (n - 0) (token send p (in_task task)) (either_passes task p));
  none_left =
      let a = count_either (is_held task receive p) (is_held task send p) t.ledger in
      let r = takes.tokens (λ x. if is_held task receive p x then 1 else 0) in
      let r0 = weigh_unlike (λ x. if is_held task receive p x then 1 else 0) (n - 0) (token send p (in_task task)) refl in
      let r1 = own_right task receive p refl in
      let k = takes.tokens (λ x. if is_held task send p x then 1 else 0) in
      let k0 = weigh_alike (λ x. if is_held task send p x then 1 else 0) (n - 0) (token send p (in_task task)) (own_right task send p refl) in
      let h = had.0 in
      let g = had.1 in
      omega (arith, a, r, r0, r1, k, k0, h, g);
}

-- ---- what refuses Deallocate and Destroy

module _ (w : WorldView) (s : State) (a : Agrees w s) (task name : ℕ) (e : Entry) (is : entry_at w task name ≡ Some e) where
  pub named : lookup s task name ≡ Some (target_of e)
  named = found w s a task name e is

  pub of_port : (p : ℕ) → port_named e ≡ Some p → (held s task receive p ≡ one_if (has_receive e)) × (held s task send p ≡ send_references e)
  of_port p of = a.references task name e p is of

  referred : HasReference s task (Some (target_of e)) → ¬ ¬ (HasReference s task (lookup s task name))
  referred h not = not (subst (λ (o : Option Target). HasReference s task o) (sym named) h)

  not_once : ((p : ℕ) → target_of e ≡ Target.once p → ⊥) → ¬ (NamesOnce s task name)
  not_once not once = not once.0 (same_found (lookup s task name) (target_of e) (Target.once once.0) named once.1)

  not_whole : receive_named e ≡ None → ((p : ℕ) → target_of e ≡ Target.once p → ⊥) → ¬ (LosesWhole s task name)
  not_whole none not (inl r) = not_receive w s a task name e is none r
  not_whole none not (inr o) = not_once not o

-- a name that may be deallocated, and one that may be destroyed
may_deallocate : (w : WorldView) (task name : ℕ) (e : Entry) → entry_at w task name ≡ Some e → ((s : State) → Shows w s → HasReference s task (Some (target_of e))) →
    IsAllowed w (λ s. call_guards s (Event.Deallocate task name))
may_deallocate w task name e is has = grind (arith, used)

may_destroy : (w : WorldView) (task name : ℕ) (e : Entry) → entry_at w task name ≡ Some e → IsAllowed w (λ s. call_guards s (Event.Destroy task name))
may_destroy w task name e is = record { allowed = λ s sh. (used w s sh.agrees task name e is, tt) }

port_not_once : (p q : ℕ) → Target.port p ≡ Target.once q → ⊥
port_not_once p q e = cc

dead_not_once : (n q : ℕ) → Target.dead n ≡ Target.once q → ⊥
dead_not_once n q e = cc

set_not_once : (n q : ℕ) → Target.set n ≡ Target.once q → ⊥
set_not_once n q e = cc

the_due : (a b : Due) → Some a ≡ Some b → b ≡ a
the_due a b e = cc

no_due : (b : Due) → None ≡ Some b → ⊥
no_due b e = cc

-- ---- what is due is done

-- What is due does this to a state.
abbrev pub Becomes : State → (task name : ℕ) → Due → State → Type 0
Becomes s task name Nothing t = t ≡ s
Becomes s task name (References (entry_of.Send p n) m) t = SetsSends task name p m s t
Becomes s task name (References (entry_of.ReceiveAndSend p n) m) t = SetsSends task name p m s t
Becomes s task name (References (entry_of.DeadName n) m) t = t ≡ with_dead task name m s
Becomes s task name (References e m) t = ⊥
Becomes s task name (LosingOnce p) t = ⊥
Becomes s task name (Killing loss) t = ⊥
Becomes s task name (Disbanding set) t = t ≡ without_set set (without_name task name s)

-- Nothing but counted references, or a set, goes.
abbrev pub IsCountedDue : Due → Type 0
IsCountedDue (References (entry_of.Receive p) m) = ⊥
IsCountedDue (References (entry_of.SendOnce p) m) = ⊥
IsCountedDue (References (entry_of.Set set) m) = ⊥
IsCountedDue (LosingOnce p) = ⊥
IsCountedDue (Killing loss) = ⊥
IsCountedDue due = Unit {0}

counted_plain : (due : Due) → IsCountedDue due → IsPlain due
counted_plain Nothing counted = tt
counted_plain (References e m) counted = tt
counted_plain (Disbanding set) counted = tt
counted_plain (LosingOnce p) counted = counted
counted_plain (Killing loss) counted = counted

-- noting a port leaves what the tables agree with
comes_noted : (w : WorldView) (s : State) (task name : ℕ) (e : Entry) (m : ℕ) (v : WorldView) (P : State → Type 0) → (r : SetsReferences w task name e m v) → Comes P r.counted → Comes P v
comes_noted w s task name e m v P r x = fewer_keeps (Comes P) r.counted v e m r.notes (λ p n y. record { t = y.t; does = y.does; agrees = noted_agrees r.counted v p n y.t y.agrees }) x

comes : (w : WorldView) (s : State) (sh : Shows w s) (task name : ℕ) (due : Due) (v : WorldView) → IsCountedDue due → Carries w task name due v → Comes (λ t. Becomes s task name due t) v
comes w s sh task name Nothing v counted c = record { t = s; does = refl; agrees = subst (λ (x : WorldView). Agrees x s) (sym c) sh.agrees }
comes w s sh task name (References (entry_of.Send p n) m) v counted c = comes_noted w s task name (entry_of.Send p n) m v (λ t. SetsSends task name p m s t) c (send_set w s sh task name m c.counted p n c.counts)
comes w s sh task name (References (entry_of.ReceiveAndSend p n) m) v counted c = comes_noted w s task name (entry_of.ReceiveAndSend p n) m v (λ t. SetsSends task name p m s t) c (both_set w s sh task name m c.counted p n c.counts)
comes w s sh task name (References (entry_of.DeadName n) m) v counted c = comes_noted w s task name (entry_of.DeadName n) m v (λ t. t ≡ with_dead task name m s) c
    (record { t = with_dead task name m s; does = refl; agrees = dead_set w s sh task name m c.counted n c.counts })
comes w s sh task name (References (entry_of.Receive p) m) v counted c = absurd counted
comes w s sh task name (References (entry_of.SendOnce p) m) v counted c = absurd counted
comes w s sh task name (References (entry_of.Set set) m) v counted c = absurd counted
comes w s sh task name (LosingOnce p) v counted c = absurd counted
comes w s sh task name (Killing loss) v counted c = absurd counted
comes w s sh task name (Disbanding set) v counted c = record { t = without_set set (without_name task name s); does = refl; agrees = removed_agrees w s sh.agrees sh.lawful sh.requested task name set v c }

-- An event that is allowed does this, which is due and is done.
pub carried : (w : WorldView) (event : Event) (task name : ℕ) (due : Due) (v : WorldView) → HasTasks w event → IsAllowed w (λ s. call_guards s event) → IsCountedDue due →
    ((now : ℕ) (s : State) → Shows w s → (t : State) → Becomes s task name due t → (d : Does now s event (Reply.Code 0) t []) × Judged now s event (Reply.Code 0) t [] d) →
    ((s : State) → Shows w s → LosesNone s event (Reply.Code 0)) → Carries w task name due v → Completes w event (Reply.Code 0) v
carried w event task name due v tasks allowed counted means none c = done w event (Reply.Code 0) v tasks allowed
    (λ now s sh. let x = comes w s sh task name due v counted c in let plain = counted_plain due counted in record {
      mid = x.t;
      owed = [];
      does = (means now s sh x.t x.does).0;
      judged = (means now s sh x.t x.does).1;
      loses_none = none s sh;
      none_owed = refl;
      agrees = x.agrees;
      holders = carried_holders w v sh.holders task name due plain c;
      carriers = carried_carriers w v task name due plain c sh.carriers;
      slots = carried_slots w v sh.slots task name due plain c;
      requested = carried_requested w v task name due plain c sh.requested;
      notes = carried_notes w v s sh task name due plain c;
      none_lost = carried_none_lost w v task name due plain c sh.idle.none_lost;
    })

module _ (w : WorldView) (task name : ℕ) (below : HasTask w task) (v : WorldView) where
  lose_one : (e : Entry) (p n : ℕ) → entry_at w task name ≡ Some e → port_named e ≡ Some p → send_references e ≡ n → ((s : State) → Shows w s → 0 < n) →
      ((s t : State) → Becomes s task name (References e (n - 1)) t → SetsSends task name p (n - 1) s t) → IsCountedDue (References e (n - 1)) →
      Carries w task name (References e (n - 1)) v → Completes w (Event.Deallocate task name) (Reply.Code 0) v
  lose_one e p n is of refs some sets counted c = carried w (Event.Deallocate task name) task name (References e (n - 1)) v below
      (may_deallocate w task name e is (λ s sh. subst (λ (o : Option Target). HasReference s task o) (ap Some (sym (target_named e p of)))
      (let h = (of_port w s sh.agrees task name e is p of).1 in let m = some s sh in omega (arith, h, refs, m)))) counted
      (λ now s sh t b. (
        (
          refl,
          inl (
            p,
            one_send s task name (n - 1) p t (named w s sh.agrees task name e is ∙ ap Some (target_named e p of))
                (let h = (of_port w s sh.agrees task name e is p of).1 in let m = some s sh in omega (arith, h, refs, m)) (sets s t b),
            refl,
          ),
        ),
        tt,
      ))
      (λ s sh. not_once w s sh.agrees task name e is (λ q once. port_not_once p q (sym (target_named e p of) ∙ once))) c

  pub deallocates : (e : Entry) (due : Due) → entry_at w task name ≡ Some e → deallocated e ≡ Some due → Carries w task name due v → Completes w (Event.Deallocate task name) (Reply.Code 0) v
  deallocates (entry_of.Send p n) due is d c = lose_one (entry_of.Send p n) p n is refl refl (λ s sh. sh.agrees.counted task name (entry_of.Send p n) is) (λ s t b. b) tt
      (subst (λ (x : Due). Carries w task name x v) (the_due (References (entry_of.Send p n) (n - 1)) due d) c)
  deallocates (entry_of.ReceiveAndSend p n) due is d c = lose_one (entry_of.ReceiveAndSend p n) p n is refl refl (λ s sh. sh.agrees.counted task name (entry_of.ReceiveAndSend p n) is) (λ s t b. b) tt
      (subst (λ (x : Due). Carries w task name x v) (the_due (References (entry_of.ReceiveAndSend p n) (n - 1)) due d) c)
  deallocates (entry_of.DeadName n) due is d c = grind (arith, carried, may_deallocate, named, one_dead, not_once, dead_not_once, the_due)
  deallocates (entry_of.Receive p) due is d c = absurd (no_due due d)
  deallocates (entry_of.SendOnce p) due is d c = grind (arith, once_lost, the_due, may_deallocate)
  deallocates (entry_of.Set set) due is d c = absurd (no_due due d)

  -- the receive right goes with all send references
  receive_destroyed : (p n : ℕ) → Carries w task name (Killing (whole_loss p n)) v → IsAllowed w (λ s. call_guards s (Event.Destroy task name)) → Completes w (Event.Destroy task name) (Reply.Code 0) v
  receive_destroyed p n c allowed = receive_lost w task name (whole_loss p n) v c (Event.Destroy task name) below allowed
      (λ now s sh t b. (
        (
          refl,
          (
            Target.port p,
            named w s sh.agrees task name c.can.e c.can.found ∙ ap Some (target_named c.can.e p (receive_has c.can.e p c.can.receive).0),
            (all_rights s task name p n t (kill_held w task name (whole_loss p n) c.can s sh) b, b.rest, refl),
          ),
        ),
        tt,
      ))

  pub destroys : (e : Entry) → entry_at w task name ≡ Some e → Carries w task name (destroyed e) v → Completes w (Event.Destroy task name) (Reply.Code 0) v
  destroys (entry_of.Send p n) is c = carried w (Event.Destroy task name) task name (References (entry_of.Send p n) 0) v below (may_destroy w task name (entry_of.Send p n) is) tt
      (λ now s sh t b. let none = (of_port w s sh.agrees task name (entry_of.Send p n) is p refl).0 in
      ((refl, (Target.port p, named w s sh.agrees task name (entry_of.Send p n) is, (all_sends s task name p t none b, all_gone s task name p t none b, refl))), tt))
      (λ s sh. not_whole w s sh.agrees task name (entry_of.Send p n) is refl (λ q once. port_not_once p q once)) c
  destroys (entry_of.DeadName n) is c = carried w (Event.Destroy task name) task name (References (entry_of.DeadName n) 0) v below (may_destroy w task name (entry_of.DeadName n) is) tt
      (λ now s sh t b. ((refl, (Target.dead n, named w s sh.agrees task name (entry_of.DeadName n) is, (b, refl))), tt))
      (λ s sh. not_whole w s sh.agrees task name (entry_of.DeadName n) is refl (λ q once. dead_not_once n q once)) c
  destroys (entry_of.Set set) is c = carried w (Event.Destroy task name) task name (Disbanding set) v below (may_destroy w task name (entry_of.Set set) is) tt
      (λ now s sh t b. ((refl, (Target.set set, named w s sh.agrees task name (entry_of.Set set) is, (b, refl))), tt))
      (λ s sh. not_whole w s sh.agrees task name (entry_of.Set set) is refl (λ q once. set_not_once set q once)) c
  destroys (entry_of.SendOnce p) is c = once_lost w task name p v c (Event.Destroy task name) below (may_destroy w task name (entry_of.SendOnce p) is)
      (λ now s t sh loses. ((refl, (Target.once p, named w s sh.agrees task name (entry_of.SendOnce p) is, (loses, refl))), tt))
  destroys (entry_of.Receive p) is c = receive_destroyed p 0 c (may_destroy w task name (entry_of.Receive p) is)
  destroys (entry_of.ReceiveAndSend p n) is c = receive_destroyed p n c (may_destroy w task name (entry_of.ReceiveAndSend p n) is)
