-- A receive right is taken from its name.
use Rattle.std.proofs.Common.{ℕ, ◌-◌, List, ◌++◌, refl, arith, ◌≡◌, Some, None, sym, ap, subst, ◌∙◌, inr, false, [], ◌∷◌, Option, Bool, true, length}
use Rattle.std.specs.Prelude.{replicate, not, is_some, slice_set, if◌then◌else◌, ◌&&◌, nat_lt}
use Rattle.std.specs.Option.{option_map}
use Rattle.std.specs.FinMap as map
use Rattle.std.proofs.lemmas.Bool.{ltb-true, ne_eqb}
use Rattle.mach_types.specs.Tokens.{send, in_task, Token, token, count, is_held, Moves, dead_name, Kind, receive, send_once, Request, in_request, weigh, is_of}
use Rattle.mach_model.proofs.Names.{weigh-append, at_own, at_other, length-weigh, both_test}
use Rattle.mach_model.specs.State.{State, Target, Names, lookup, at, request_at, without_name, held}
use Rattle.mach_model.specs.Lawful.{IsLawful}
use Rattle.mach_model.specs.References.{without_set}
use Rattle.mach_model.specs.Death.{same_place, IsOrphan}
use Rattle.mach_model.specs.Telling.{one_if}
use Rattle.mach_model.specs.CopyIn.{name_kept}
use Rattle.mach_model.proofs.Copying.{other_port, own_right}
use Rattle.mach_model.proofs.Settling.{named_lives}
use Rattle.rights.specs.Counts.{with_fewer}
use Rattle.rights.specs.Ledger.{LedgerView, taken, counts_of}
use Rattle.rights.specs.declared.RightKind.TheVariants as right
use Rattle.name_space.specs.declared.Entry.{Entry}
use Rattle.name_space.specs.declared.Entry.TheVariants as entry_of
use Rattle.name_space.specs.Entry.{port_named, has_receive, send_references}
use Rattle.name_space.specs.Names.{SpaceView}
use Rattle.port.specs.declared.Holder.TheVariants.{Nobody}
use Rattle.port.specs.Holding.{held as held_port}
use Rattle.port.specs.Ports.{PortView, PortsView, with_port}
use Rattle.port_set.specs.declared.SetRecord.{SetRecord}
use Rattle.port_set.specs.Sets.{removed}
use Rattle.request_table.specs.Tables.{request_left}
use Rattle.copyin_base.specs.Requests.{requests_after}
use Rattle.copyin_base.specs.Worlds.{WorldView, put, space_at, entry_in, port_at}
use Rattle.copyin_base.specs.Shows.{target_of, SetsAgree, Agrees, RequestsStand, HasCount, onces_queued, CountsAgree, Shows}
use Rattle.copyin_base.proofs.Agreeing.{own_names, own_rights, put_names, put_rights, ports_put}
use Rattle.copyin_base.proofs.Disbanded.{disbanded_agrees}
use Rattle.copyin_base.proofs.Gets.{same_found, of_some}
use Rattle.copyin_base.proofs.NamesChanged.{names_agree, left_requests}
use Rattle.copyin_base.proofs.Putting.{each_put, get_removed, put_same}
use Rattle.copyin_base.specs.Kept.{Kept}
use Rattle.copyin_base.proofs.Changing.{named_no_set, target_named, changed_agrees}
use Rattle.copyin_base.proofs.Counting.{one_of, none_of_port, counts_agree, right_taken}
use Rattle.copyin_base.proofs.Requesting.{stands_after}
use Rattle.copyin_base.proofs.Taking.{Without, take_held}
use Rattle.copyin_base.proofs.Told.{receive_has, found}
use Rattle.notifications.proofs.TaskEnded.{take_many, weigh_alike, weigh_unlike, Takes}
use Rattle.kernel_core_base.specs.References.{RemovesSet, CanKill, TakesReceive}
use Rattle.kernel_core_base.specs.declared.references.Loss.{Loss}

-- ---- So many equal tokens, taken from the ledger or added to it.

-- The task's send rights for a port become so many.
pub record Recounts (task p n m : ℕ) (xs : List Token) : Type 0 where
  pub ys : List Token
  pub moves : Moves xs ys (replicate (n - m) (token send p (in_task task))) (replicate (m - n) (token send p (in_task task)))

pub recount : (task p m : ℕ) (xs : List Token) → Recounts task p (count (is_held task send p) xs) m xs
recount task p m xs =
    let n = count (is_held task send p) xs in
    let some = take_many task send p (n - m) xs refl (omega arith) in
    record {
      ys = replicate (m - n) (token send p (in_task task)) ++ some.others;
      moves = λ h. let a = some.parts h in let b = weigh-append h (replicate (m - n) (token send p (in_task task))) some.others in omega (arith, a, b);
    }

-- ---- The name of a set went, and the set, in the tables and in the machine alike: its members are in none.

no_some : {A : Type 0} (x : A) → None ≡ Some x → ⊥
no_some x e = cc

same_set : (x y : ℕ) → Target.set x ≡ Target.set y → x ≡ y
same_set x y e = cc

-- ---- the name and the set go

module _ (w : WorldView) (s : State) (a : Agrees w s) (lawful : IsLawful s) (requested : RequestsStand w) (task name set : ℕ) (v : WorldView) (r : RemovesSet w task name set v) where
  abbrev own : Names
  own = map.remove (s.naming task) name

  named : lookup s task name ≡ Some (Target.set set)
  named = (own_names w s a task r.space r.there).naming name ∙ ap (option_map target_of) r.found

  -- another set stands under another name
  still : (q : ℕ) (x : SetRecord) → (q ≡ set → ⊥) → map.get w.sets.sets q ≡ Some x → map.get (at s.naming task own x.owner) x.name ≡ Some (Target.set q)
  still q x not is = grind (arith, at_own, get_removed, same_set, same_found, named, at_other)

  in_sets : SetsAgree (removed w.sets set) (at s.set_owner set None) s.sets_made (at s.naming task own)
  in_sets = record {
    set_owner = each_put w.sets.sets set None (λ q o. at s.set_owner set None q ≡ option_map (λ (x : SetRecord). x.owner) o) (at_own s.set_owner set None)
        (λ q not. at_other s.set_owner set None q not ∙ a.set_owner q);
    sets_made = a.sets_made;
    set_named = each_put w.sets.sets set None (λ q o. (x : SetRecord) → o ≡ Some x → map.get (at s.naming task own x.owner) x.name ≡ Some (Target.set q)) (λ x is. absurd (no_some x is)) (λ q not x. still q x not);
  }

  nothing : (e : Entry) → None ≡ Some e → ⊥
  nothing e is = no_some e is

  abbrev without : WorldView
  without = record w {
    spaces = slice_set w.spaces task (Some (record r.space { names = map.remove r.space.names name }));
    sets = removed w.sets set;
    requests = request_left w.requests task name;
  }

  names_go : Agrees without
      (record s { naming = at s.naming task own; stands = request_at s.stands (dead_name task name) false; set_owner = at s.set_owner set None })
  names_go = names_agree w s a task r.space r.there (map.remove r.space.names name) r.space.room own (request_at s.stands (dead_name task name) false) (removed w.sets set) (at s.set_owner set None) s.sets_made
      (request_left w.requests task name) (left_requests w s a task r.space r.there lawful requested name (ap is_some r.found) {A = Entry} None)
      (put_names r.space.names (s.naming task) (own_names w s a task r.space r.there) name None (λ e is. absurd (nothing e is)))
      (put_rights r.space.names task s.ledger (own_rights w s a task r.space r.there) name None (λ e p is. absurd (nothing e is))) in_sets

  pub removed_agrees : Agrees v (without_set set (without_name task name s))
  removed_agrees = subst (λ (x : WorldView). Agrees x (without_set set (without_name task name s))) (sym r.rest)
      (disbanded_agrees without
      (record s { naming = at s.naming task own; stands = request_at s.stands (dead_name task name) false; set_owner = at s.set_owner set None }) names_go set v.ports r.disbanded)

-- ---- A receive right is taken from its name, with some of its send references or all: the tables and the machine alike.

-- What the machine does: the receive right goes with so many send rights, and the name with the last.
pub record TakesSo (task name : ℕ) (l : Loss) (s t : State) : Type 0 where
  pub tokens : Moves s.ledger t.ledger (token receive l.port (in_task task) ∷ replicate (l.held - l.left) (token send l.port (in_task task))) []
  pub rest : t ≡ record (name_kept (nat_lt 0 l.left) task name s) { ledger = t.ledger }

module _ (w : WorldView) (task name : ℕ) (l : Loss) (can : CanKill w task name l) (s : State) (sh : Shows w s) where
  named_taken : port_named can.e ≡ Some l.port
  named_taken = (receive_has can.e l.port can.receive).0

  target : lookup s task name ≡ Some (Target.port l.port)
  target = found w s sh.agrees task name can.e can.found ∙ ap Some (target_named can.e l.port named_taken)

  pub kill_held : (held s task receive l.port ≡ 1) × (held s task send l.port ≡ l.held)
  kill_held = grind (arith, named_taken, receive_has)

  pub kill_lives : s.live_port l.port ≡ true
  kill_lives = named_lives s sh.lawful task name l.port target

  -- ---- the rights

  abbrev right_gone : Token
  right_gone = token receive l.port (in_task task)

  abbrev send_gone : Token
  send_gone = token send l.port (in_task task)

  pub first : Without right_gone s.ledger
  first = take_held task receive l.port s.ledger (let h = kill_held.0 in omega (arith, h))

  pub others : Takes send_gone (l.held - l.left) first.others
  others = take_many task send l.port (l.held - l.left) first.others refl
      (let m = first.parts (λ x. if is_held task send l.port x then 1 else 0) in let h = kill_held.1 in omega (arith, m, h))

  abbrev pub rights_left : List Token
  rights_left = others.others

  pub rights_moved : Moves s.ledger rights_left (right_gone ∷ replicate (l.held - l.left) send_gone) []
  rights_moved h = let a = first.parts h in let b = others.parts h in omega (arith, a, b)

  same_weight : (h : Token → ℕ) → h right_gone ≡ 0 → h send_gone ≡ 0 → weigh h rights_left ≡ weigh h s.ledger
  same_weight h z y = let g = weigh_unlike h (l.held - l.left) send_gone y in let e = rights_moved h in omega (arith, g, e, z)

  -- of another port, or with another task
  port_weight : (c : Kind) (q : ℕ) → (q ≡ l.port → ⊥) → count (is_of c q) rights_left ≡ count (is_of c q) s.ledger
  port_weight c q not = grind (arith, same_weight, none_of_port)

  task_weight : (u : ℕ) → (u ≡ task → ⊥) → (c : Kind) (q : ℕ) → count (is_held u c q) rights_left ≡ count (is_held u c q) s.ledger
  task_weight u not c q = grind (arith, same_weight, both_test, ne_eqb)

  pub sends_weight : count (is_held task send l.port) rights_left ≡ l.left
  sends_weight = grind (arith, rights_moved, weigh_alike, own_right, kill_held)

  pub receives_weight : count (is_held task receive l.port) rights_left ≡ 0
  receives_weight = grind (arith, rights_moved, weigh_unlike, own_right, kill_held)

  -- ---- the port is an orphan, and no other is

  pub orphaned : (t : State) → t.live_port ≡ s.live_port → t.ledger ≡ rights_left → IsOrphan t l.port
  orphaned t live ledger = grind (arith, kill_lives, rights_moved, weigh_unlike, one_of)

  pub others_kept : (t : State) → t.live_port ≡ s.live_port → t.ledger ≡ rights_left → (q : ℕ) → (q ≡ l.port → ⊥) → ¬ (IsOrphan t q)
  others_kept t live ledger q not o = grind (arith, port_weight)

  -- ---- the counts

  abbrev without_receive : LedgerView
  without_receive = taken w.ledger l.port right.Receive 1

  abbrev pub counts_left : LedgerView
  counts_left = taken without_receive l.port right.Send (l.held - l.left)

  first_counted : (q : ℕ) → CountsAgree without_receive s.live_port first.others (onces_queued s) q
  first_counted = right_taken w.ledger s.live_port s.ledger (onces_queued s) sh.agrees.counts receive l.port (in_task task) kill_lives (λ e. let f : receive ≡ send_once = e in cc) first.others first.parts

  counted : (q : ℕ) → CountsAgree counts_left s.live_port rights_left (onces_queued s) q
  counted = counts_agree without_receive s.live_port first.others (onces_queued s) first_counted counts_left s.live_port rights_left (onces_queued s) l.port
      (with_fewer right.Send (l.held - l.left) (counts_of without_receive l.port)) refl (sym kill_lives)
      ((first_counted l.port).receivers ∙ sym (unlike (λ x. if is_of receive l.port x then 1 else 0) refl))
      (let c = (first_counted l.port).senders in
      let g = weigh_alike (λ x. if is_of send l.port x then 1 else 0) (l.held - l.left) send_gone (one_of send l.port (in_task task) refl) in
      let e = others.parts (λ x. if is_of send l.port x then 1 else 0) in omega (arith, c, g, e))
      ((first_counted l.port).once_rights ∙ sym (unlike (λ x. if is_of send_once l.port x then 1 else 0) refl))
      ((first_counted l.port).destinations kill_lives)
      (λ q not. (refl, refl, λ c. sym (unlike (λ x. if is_of c q x then 1 else 0) (none_of_port send c l.port q (in_task task) not))))
    where
      unlike : (h : Token → ℕ) → h send_gone ≡ 0 → weigh h rights_left ≡ weigh h first.others
      unlike h z = let g = weigh_unlike h (l.held - l.left) send_gone z in let e = others.parts h in omega (arith, g, e)

  total : counts_left.total ≡ length rights_left
  total = grind (arith, rights_moved, weigh_alike, length-weigh)

  -- ---- all together

  module _ (space : SpaceView) (there : space_at w task ≡ Some space) (v : PortView Kept) (port_there : port_at w l.port ≡ Some v) where
    abbrev ports_left : PortsView Kept
    ports_left = record (with_port w.ports l.port (held_port v Nobody)) { lost = w.ports.lost ++ l.port ∷ [] }

    abbrev tables : Option Entry → WorldView
    tables left = record w {
      spaces = slice_set w.spaces task (Some (record space { names = put space.names name left }));
      ports = ports_left;
      ledger = counts_left;
      requests = requests_after w.requests task name left;
    }

    in_space : map.get space.names name ≡ Some can.e
    in_space = sym (ap (λ (o : Option SpaceView). entry_in o name) there) ∙ can.found

    -- this is left
    abbrev IsRest : Entry → Type 0
    IsRest e = HasCount e × (port_named e ≡ Some l.port) × (has_receive e ≡ false) × (send_references e ≡ l.left)

    agree : (left : Option Entry) (names : ℕ → Names) (stands : Request → Bool) → ((r : Request) → stands r ≡ stands_after s.stands task name left r) → names task ≡ put (s.naming task) name (option_map target_of left) →
        ((u : ℕ) → (u ≡ task → ⊥) → names u ≡ s.naming u) → ((e : Entry) → left ≡ Some e → IsRest e) → Agrees (tables left) (record s { naming = names; stands = stands; ledger = rights_left })
    agree left names stands same own elsewhere is = changed_agrees w s sh.agrees task name (sh.lawful.naming task) space there can.e in_space left space.room ports_left counts_left
        (record s { naming = names; stands = stands; ledger = rights_left }) own sh.requested record {
          rest = refl;
          naming_others = elsewhere;
          held_others = task_weight;
          own_references = λ e q is_e en.
              let x = is e is_e in
              let q_is : l.port ≡ q = same_found (port_named e) l.port q x.1 en in
              subst (λ (y : ℕ). (count (is_held task receive y) rights_left ≡ one_if (has_receive e)) × (count (is_held task send y) rights_left ≡ send_references e)) q_is
              (receives_weight ∙ sym (ap one_if x.2), sends_weight ∙ sym x.3);
          other_references = λ q not.
              let far : q ≡ l.port → ⊥ = (λ e. not (named_taken ∙ ap Some (sym e))) in (
                same_weight (λ x. if is_held task receive q x then 1 else 0) (other_port task task receive receive q l.port far) (other_port task task receive send q l.port far),
                same_weight (λ x. if is_held task send q x then 1 else 0) (other_port task task send receive q l.port far) (other_port task task send send q l.port far),
              );
          own_count = λ e is_e. (is e is_e).0;
          made = refl;
          live = each_put w.ports.ports l.port (Some (held_port v Nobody)) (λ q o. is_some o ≡ is_some (port_at w q)) (sym (ap is_some port_there)) (λ q not. refl);
          ports = ports_put w.ports.ports l.port (held_port v Nobody) (record s { naming = names; stands = stands; ledger = rights_left })
              (let b = sh.agrees.ports l.port v port_there in record { waiting = b.waiting; limit = b.limit; make_send = b.make_send; sequence = b.sequence; sets = b.sets })
              (λ q x not at. sh.agrees.ports q x at);
          counts = counted;
          total = total;
          stands = same;
          requests = λ r c q. same_weight (λ x. if is_of c q x && same_place (in_request r) x.place then 1 else 0)
              (both_test (is_of c q right_gone) false (inr refl)) (both_test (is_of c q send_gone) false (inr refl));
          no_set = named_no_set can.e l.port named_taken;
          given = refl;
        }

    abbrev pub Becomes : WorldView → Type 0
    Becomes x = (t : State) × TakesSo task name l s t × Agrees x t × (t.live_port ≡ s.live_port) × (t.ledger ≡ rights_left)

    kept : nat_lt 0 l.left ≡ true → Becomes (tables (Some (entry_of.Send l.port l.left)))
    kept b = (
      record s { ledger = rights_left },
      record { tokens = rights_moved; rest = ap (λ (y : Bool). record (name_kept y task name s) { ledger = rights_left }) (sym b) },
      agree (Some (entry_of.Send l.port l.left)) s.naming s.stands (λ r. refl) (sym (put_same (s.naming task) name (Target.port l.port) target)) (λ u not. refl)
          (of_some (entry_of.Send l.port l.left) IsRest (ltb-true 0 l.left b, refl, refl, refl)),
      refl,
      refl,
    )

    gone : nat_lt 0 l.left ≡ false → Becomes (tables None)
    gone b = (
      record (without_name task name s) { ledger = rights_left },
      record { tokens = rights_moved; rest = ap (λ (y : Bool). record (name_kept y task name s) { ledger = rights_left }) (sym b) },
      agree None (at s.naming task (map.remove (s.naming task) name)) (request_at s.stands (dead_name task name) false) (λ r. refl) (at_own s.naming task (map.remove (s.naming task) name))
          (at_other s.naming task (map.remove (s.naming task) name)) (λ e is. let f : None ≡ Some e = is in absurd (cc)),
      refl,
      refl,
    )

  pub becomes : (v : WorldView) (r : TakesReceive w task name l v) → Becomes r.space r.there r.v r.port_there v
  becomes v r = subst (λ (x : WorldView). Becomes r.space r.there r.v r.port_there x) (sym r.rest) (go (nat_lt 0 l.left) refl)
    where
      go : (b : Bool) → nat_lt 0 l.left ≡ b → Becomes r.space r.there r.v r.port_there (tables r.space r.there r.v r.port_there (if b then Some (entry_of.Send l.port l.left) else None))
      go true b = kept r.space r.there r.v r.port_there b
      go false b = gone r.space r.there r.v r.port_there b
