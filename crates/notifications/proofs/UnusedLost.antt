-- A send-once right's name went, and its port was told: the tables show what is left of the task.
use Rattle.std.proofs.Common.{◌≡◌, ℕ, suc, zero, ◌+◌, ◌-◌, ◌<◌, ◌≤◌, List, [], ◌∷◌, ◌++◌, Option, Some, None, refl, sym, ap, subst, ◌∙◌, arith, true, inl, inr, length}
use Rattle.std.specs.Prelude.{if◌then◌else◌, ◌==◌, Contains}
use Rattle.std.specs.Option.{option_map}
use Rattle.std.specs.FinMap as map
use Rattle.std.specs.Ordering.{nat_cmp}
use Rattle.std.proofs.lemmas.Bool.{eq-eqb}
use Rattle.std.proofs.lemmas.Bool.Decides.{eqb_tells}
use Rattle.std.proofs.lemmas.List.Elements.{All-append, All-replicate}
use Rattle.mach_types.specs.Tokens.{receive, send, send_once, Token, token, in_task, in_message, weigh, count, is_of, is_held, is_in_task}
use Rattle.mach_model.specs.State.{State, Target, Names, at}
use Rattle.mach_model.specs.Lawful.{LawfulNames, is_once}
use Rattle.mach_model.specs.Notices.{Notice, right_unused, Owed}
use Rattle.mach_model.specs.References.{unused_among}
use Rattle.mach_model.proofs.Names.{at_own, at_other, some_tally, other_unnamed, weigh-append}
use Rattle.mach_model.proofs.Copying.{own_task}
use Rattle.mach_types.specs.Messages.{Entry as LogEntry}
use Rattle.name_space.specs.declared.Entry.{Entry}
use Rattle.name_space.specs.declared.Entry.TheVariants as entry_of
use Rattle.name_space.specs.Names.{SpaceView}
use Rattle.port.specs.Ports.{PortView}
use Rattle.rights.specs.declared.Counts.{Counts}
use Rattle.rights.specs.Counts.{one_shifted}
use Rattle.rights.specs.Ledger.{LedgerView, counts_of, shifted}
use Rattle.copyin_base.specs.declared.Notice.TheVariants as notice
use Rattle.copyin_base.specs.Kept.{Kept}
use Rattle.copyin_base.specs.Posted.{with_posted}
use Rattle.copyin_base.specs.Queued.{notice_kept}
use Rattle.copyin_base.specs.Shows.{target_of, Agrees, HoldersAgree, CarriersAgree, RequestsStand, Shows}
use Rattle.copyin_base.specs.Worlds.{WorldView, entry_in, entry_at, put}
use Rattle.copyin_base.proofs.Carriers.{carriers_same, carriers_queued}
use Rattle.copyin_base.proofs.Changing.{changed_agrees}
use Rattle.copyin_base.proofs.Holders.{none_receives, KeepHolders, put_holders, put_holders_left, holders_ports}
use Rattle.copyin_base.proofs.Listed.{none_listed}
use Rattle.copyin_base.proofs.Requested.{requested_removed, requested_put}
use Rattle.copyin_base.proofs.Requesting.{stands_after}
use Rattle.copyin_base.proofs.SendersNoted.{keeps_senders, sends_shifted, senders_kept, counts_own, counts_other}
use Rattle.copyin_base.proofs.Taking.{Without, take_held}
use Rattle.notifications.proofs.Removing.{Part, with_part, IsPart, ShowsPart, OnceGoes}
use Rattle.notifications.proofs.MessageRights.{brought, logs_longer, log_with, logs_with, logs_more, rights_with, rights_more, rights_weigh, posted_is, unused_append}
use Rattle.notifications.proofs.NoticePosted.{told_agrees}
use Rattle.notifications.proofs.TaskEnded.{shown, shown_is, lawful_naming, looked_up, stood_left, fewer_left}

no_entry : (e : Entry) → None ≡ Some e → ⊥
no_entry e f = cc

no_target : (t : Target) → None ≡ Some t → ⊥
no_target t f = cc

once_no_port : (p q : ℕ) → Target.once p ≡ Target.port q → ⊥
once_no_port p q e = cc

once_no_set : (p q : ℕ) → Target.once p ≡ Target.set q → ⊥
once_no_set p q e = cc

module _ (now : ℕ) (start : WorldView) (task : ℕ) (s : State) (sh : Shows start s) (w : WorldView) (sp : ShowsPart now start task s w)
    (name p : ℕ) (found : entry_at w task name ≡ Some (entry_of.SendOnce p)) (v : WorldView) (r : OnceGoes w task name p v) where
  abbrev x : Part
  x = sp.part

  abbrev u : State
  u = shown now s task x

  a : Agrees w u
  a = subst (Agrees w) (shown_is now s task x) sp.agrees

  target : map.get x.names name ≡ Some (Target.once p)
  target = sym (looked_up now s task x sh.lawful sp.is_part name) ∙ a.naming task name ∙ ap (option_map target_of) found

  some : 0 < count (is_held task send_once p) x.kept
  some = let t = some_tally (is_once p) x.names name (Target.once p) target (eq-eqb p p refl) in let o = sp.is_part.named.once_names p in omega (arith, t, o)

  abbrev tok : Token
  tok = token send_once p (in_task task)

  taken : Without tok x.kept
  taken = take_held task send_once p x.kept some

  abbrev kept : List Token
  kept = taken.others

  unlike : (h : Token → ℕ) → h tok ≡ 0 → weigh h kept ≡ weigh h x.kept
  unlike h z = let m = taken.parts h in omega (arith, m, z)

  abbrev part : Part
  part = record { names = map.remove x.names name; stands = stands_after {A = Entry} x.stands task name None; disbanded = x.disbanded; gone = x.gone ++ tok ∷ []; kept = kept }

  abbrev log : ℕ → List LogEntry
  log = logs_with now s.log (unused_among x.gone)

  abbrev due : Token × Notice
  due = (tok, right_unused)

  abbrev ledger : List Token
  ledger = brought log due ++ rights_with now s.log (unused_among x.gone) kept

  -- the name is gone, and the right still with the task
  abbrev moved : State
  moved = record u { naming = at s.naming task part.names; stands = part.stands }

  then_is : with_posted now (with_part s task part) (unused_among part.gone) ≡ record moved { log = log_with now log due; ledger = ledger }
  then_is = posted_is now (with_part s task part) (unused_among part.gone)
      ∙ ap (λ (o : Owed). record (with_part s task part) { log = logs_with now s.log o; ledger = rights_with now s.log o kept }) (unused_append x.gone (tok ∷ []))
      ∙ (λ i. record (with_part s task part) { log = logs_more now s.log (unused_among x.gone) due i; ledger = rights_more now s.log (unused_among x.gone) due kept i })

  abbrev there_tok : Token
  there_tok = token send_once p (in_message p (length (log p)))

  weighs : (h : Token → ℕ) → weigh h ledger + h tok ≡ h there_tok + weigh h u.ledger
  weighs h = grind (arith, taken, rights_weigh)

  abbrev space : SpaceView
  space = r.puts.space

  at_name : map.get space.names name ≡ Some (entry_of.SendOnce p)
  at_name = sym (ap (λ (o : Option SpaceView). entry_in o name) r.puts.there) ∙ found

  own : moved.naming task ≡ put (u.naming task) name (option_map target_of None)
  own = at_own s.naming task part.names ∙ ap (λ (m : Names). map.remove m name) (sym (at_own s.naming task x.names))

  moved_agrees : Agrees r.named moved
  moved_agrees = subst (λ (y : WorldView). Agrees y moved) (sym r.puts.rest)
      (changed_agrees w u a task name (lawful_naming now s task x sh.lawful sp.is_part) space r.puts.there (entry_of.SendOnce p) at_name None space.room w.ports w.ledger moved own sp.requested record {
        rest = refl;
        naming_others = λ q not. at_other s.naming task part.names q not ∙ sym (at_other s.naming task x.names q not);
        held_others = λ q not c n. refl;
        own_references = λ e q is_e en. absurd (no_entry e is_e);
        other_references = λ q not. (refl, refl);
        own_count = λ e is_e. absurd (no_entry e is_e);
        made = refl;
        live = λ q. refl;
        ports = λ q y is. a.ports q y is;
        counts = a.counts;
        total = a.total;
        stands = λ q. refl;
        requests = λ q c n. refl;
        no_set = once_no_set p;
        given = refl;
      })

  within : s.taken p ≤ length (log p)
  within = let b = sh.lawful.within p in let c = logs_longer now s.log (unused_among x.gone) p in omega (arith, b, c)

  ledger_same : r.named.ledger ≡ w.ledger
  ledger_same = ap (λ (y : WorldView). y.ledger) r.puts.rest

  paid : 0 < (counts_of r.named.ledger p).send_once
  paid = subst (λ (l : LedgerView). 0 < (counts_of l p).send_once) (sym ledger_same) (let o = sp.onces p in let n = some in omega (arith, o, n))

  posted : Agrees v (with_posted now (with_part s task part) (unused_among part.gone))
  posted = subst (Agrees v) (sym then_is)
      (told_agrees r.named moved moved_agrees p notice.SendOnce v r.posts now within paid (in_task task) (λ q. refl) (length (log p)) ledger (λ h. let m = weighs h in omega (arith, m)))

  once_gone : (q : ℕ) → count (is_held task send_once q) kept + (if p == q then suc zero else zero) ≡ count (is_held task send_once q) x.kept
  once_gone q = let m = taken.parts (λ y. if is_held task send_once q y then 1 else 0) in let z = own_task task (p == q) in omega (arith, m, z)

  lawful : LawfulNames (map.remove x.names name) (λ kind q. count (is_held task kind q) kept)
  lawful = other_unnamed x.names (λ kind q. count (is_held task kind q) x.kept) (λ kind q. count (is_held task kind q) kept) sp.is_part.named
      (λ q. unlike (λ y. if is_held task receive q y then 1 else 0) refl) (λ q. unlike (λ y. if is_held task send q y then 1 else 0) refl)
      name (Target.once p) target (once_no_port p) once_gone

  is_part : IsPart s task part
  is_part = record {
    fewer = fewer_left x.names (s.naming task) name None (λ t e. absurd (no_target t e)) sp.is_part.fewer;
    named = lawful;
    stood = stood_left {A = Entry} s task name x.stands None sp.is_part.stood;
    owned = sp.is_part.owned;
    moves = λ h. let b = sp.is_part.moves h in let c = taken.parts h in let d = weigh-append h x.gone (tok ∷ []) in omega (arith, b, c, d);
    own = All-append (λ y. is_in_task task y.place ≡ true) x.gone (tok ∷ []) sp.is_part.own (All-replicate (λ (y : Token). is_in_task task y.place ≡ true) 1 tok (eq-eqb task task refl));
  }

  -- ---- the tables

  abbrev longer : PortView Kept
  longer = record r.posts.v { queue = r.posts.v.queue ++ notice_kept notice.SendOnce ∷ [] }

  ports_are : v.ports.ports ≡ map.insert r.named.ports.ports p longer
  ports_are = ap (λ (y : WorldView). y.ports.ports) r.posts.rest

  holders : HoldersAgree v
  holders = holders_ports r.named v (put_holders_left w r.named sp.holders task name None r.puts (λ q i. absurd (none_receives q i)))
      (ap (λ (y : WorldView). y.spaces) r.posts.rest)
      (subst (λ (m : map.FinMap nat_cmp (PortView Kept)). KeepHolders r.named.ports.ports m) (sym ports_are) (put_holders r.named.ports.ports p r.posts.v longer r.posts.there refl))

  carriers : CarriersAgree v
  carriers = grind (arith, carriers_queued, carriers_same, ports_are, none_listed)

  requested : RequestsStand v
  requested = requested_put r.named v (requested_removed w r.named sp.requested task name r.puts) p longer ports_are
      (ap (λ (y : WorldView). y.requests) r.posts.rest) (ap (λ (y : WorldView). y.spaces) r.posts.rest)

  ledger_is : v.ledger ≡ shifted w.ledger p
  ledger_is = ap (λ (y : WorldView). y.ledger) r.posts.rest ∙ ap (λ (l : LedgerView). shifted l p) ledger_same

  lost_is : v.ports.lost ≡ w.ports.lost
  lost_is = ap (λ (y : WorldView). y.ports.lost) r.posts.rest ∙ ap (λ (y : WorldView). y.ports.lost) r.puts.rest

  counts_are : (q : ℕ) → ((counts_of (shifted w.ledger p) q).send ≡ (counts_of w.ledger q).send)
      × ((counts_of (shifted w.ledger p) q).send_once ≡ (counts_of w.ledger q).send_once - (if p == q then suc zero else zero))
  counts_are q = elim (eqb_tells p q) [
    | inl h ↦ subst (λ (k : ℕ). ((counts_of (shifted w.ledger p) k).send ≡ (counts_of w.ledger k).send)
        × ((counts_of (shifted w.ledger p) k).send_once ≡ (counts_of w.ledger k).send_once - (if p == k then suc zero else zero))) h.1 own_counts
    | inr h ↦ let other = counts_other w.ledger p (one_shifted (counts_of w.ledger p)) (shifted w.ledger p) refl q (λ e. h.1 (sym e)) in
        (ap (λ (c : Counts). c.send) other, (let o = ap (λ (c : Counts). c.send_once) other in let z : (if p == q then suc zero else zero) ≡ zero = rw h.0 refl in omega (arith, o, z)))
  ]
    where
      own_counts : ((counts_of (shifted w.ledger p) p).send ≡ (counts_of w.ledger p).send) × ((counts_of (shifted w.ledger p) p).send_once ≡ (counts_of w.ledger p).send_once - (if p == p then suc zero else zero))
      own_counts =
          let o = counts_own w.ledger p (one_shifted (counts_of w.ledger p)) (shifted w.ledger p) refl in
          let z : (if p == p then suc zero else zero) ≡ suc zero = rw (eq-eqb p p refl) refl in
          (ap (λ (c : Counts). c.send) o, (let b = ap (λ (c : Counts). c.send_once) o in omega (arith, b, z)))

  pub unused_lost : ShowsPart now start task s v
  unused_lost = record {
    part = part;
    is_part = is_part;
    agrees = posted;
    holders = holders;
    carriers = carriers;
    slots = r.slots;
    requested = requested;
    notes = senders_kept start w v sp.notes (keeps_senders w v sp.requested
        (ap (λ (y : WorldView). y.requests.no_senders) r.posts.rest ∙ ap (λ (y : WorldView). y.requests.no_senders) r.puts.rest)
        (subst (λ (l : LedgerView). (q : ℕ) → (counts_of l q).send ≡ 0 → (counts_of w.ledger q).send ≡ 0) (sym ledger_is) (sends_shifted w.ledger p))
        (ap (λ (y : WorldView). y.ports.noted) r.posts.rest ∙ ap (λ (y : WorldView). y.ports.noted) r.puts.rest));
    left = record {
      doomed = ap (λ (y : WorldView). y.ports.doomed) r.posts.rest ∙ ap (λ (y : WorldView). y.ports.doomed) r.puts.rest ∙ sp.left.doomed;
      destroyed = ap (λ (y : WorldView). y.ports.destroyed) r.posts.rest ∙ ap (λ (y : WorldView). y.ports.destroyed) r.puts.rest ∙ sp.left.destroyed;
      lost = λ q c. let o = sp.left.lost q (subst (λ (ys : List ℕ). Contains ys q) lost_is c) in (o.0, unlike (λ y. if is_of receive q y then 1 else 0) refl ∙ o.1);
      orphans = λ q o. subst (λ (ys : List ℕ). Contains ys q) (sym lost_is) (sp.left.orphans q (o.0, sym (unlike (λ y. if is_of receive q y then 1 else 0) refl) ∙ o.1));
    };
    sends = λ q.
        let c = (counts_are q).0 in
        let b = sp.sends q in
        let same : (counts_of v.ledger q).send ≡ (counts_of (shifted w.ledger p) q).send = ap (λ (l : LedgerView). (counts_of l q).send) ledger_is in omega (arith, c, b, same);
    onces = λ q.
        let c = (counts_are q).1 in
        let b = sp.onces q in
        let k = once_gone q in
        let same : (counts_of v.ledger q).send_once ≡ (counts_of (shifted w.ledger p) q).send_once = ap (λ (l : LedgerView). (counts_of l q).send_once) ledger_is in omega (arith, c, b, k, same);
  }
