-- A right that the tables give a task is given by the machine.
use Rattle.std.proofs.Common.{List, [], ◌∷◌, ◌++◌, arith, ◌≡◌, ℕ, ◌+◌, ◌-◌, ◌<◌, ◌≤◌, Option, Some, None, refl, sym, ap, subst, ◌∙◌, true, false, Bool, ◌⊎◌, inl, inr, length}
use Rattle.std.specs.Prelude.{◌≢◌, if◌then◌else◌, ◌&&◌, is_some, min, nat_lt, max, MatchBool}
use Rattle.std.specs.Option.{option_map, option_and_then}
use Rattle.std.specs.FinMap as map
use Rattle.std.proofs.lemmas.Bool.Decides.{eqb_tells}
use Rattle.std.proofs.lemmas.Bool.{eq-eqb, ne_eqb, ltb-true, ltb-false, lt-ltb, le-ltb}
use Rattle.mach_types.specs.Tokens.{Token, Moves, Kind, receive, send, send_once, Request, in_task, in_message, in_request, token, weigh, count, is_of, is_held}
use Rattle.mach_types.specs.Numbers.{most_names, most_references}
use Rattle.mach_model.proofs.Names.{weigh-append, pos_or_zero, both_test, length-weigh, held_le_of, lying_le_of, at_own, at_other, kept}
use Rattle.mach_model.specs.State.{State, Target, Names as Targets, lookup, held, with_name, gives}
use Rattle.mach_model.specs.Telling.{one_if}
use Rattle.mach_model.specs.Carried.{lying}
use Rattle.mach_model.specs.CopyOut.{given_to, Named, NamedFor, GiveRight}
use Rattle.mach_model.proofs.Moving.{IsMoving}
use Rattle.mach_model.proofs.Copying.{not_held, own_right}
use Rattle.rights.specs.declared.RightKind.TheVariants as right
use Rattle.rights.specs.Ledger.{LedgerView, taken, counts_of}
use Rattle.rights.specs.Counts.{with_fewer}
use Rattle.rights.specs.declared.Counts.{Counts}
use Rattle.name_space.specs.declared.Entry.{Entry}
use Rattle.name_space.specs.declared.Entry.TheVariants as entry
use Rattle.name_space.specs.Entry.{port_named, has_receive, send_references}
use Rattle.name_space.specs.Names.{Names, SpaceView, IsFreshFor}
use Rattle.port.specs.Ports.{PortView, PortsView}
use Rattle.port.specs.declared.Holder.TheVariants as Holder
use Rattle.copyin_base.proofs.Taking.{Without, take_lying}
use Rattle.copyin_base.specs.Kept.{Kept}
use Rattle.copyin_base.specs.Worlds.{WorldView, entry_in, entry_at, port_at}
use Rattle.copyin_base.specs.Shows.{target_of, HasCount, onces_queued, ShowsPort, CountsAgree, Agrees, HoldersAgree, RequestsStand}
use Rattle.copyin_base.proofs.Agreeing.{NamesAgree, CountRights, own_names, put_names, Near, near_agrees}
use Rattle.copyin_base.proofs.Counting.{right_of, right_taken, counts_same}
use Rattle.copyin_base.proofs.Gets.{of_some, same_found}
use Rattle.copyin_base.proofs.Putting.{each_put, put_same}
use Rattle.copyin_base.proofs.Told.{port_of}
use Rattle.copyin_base.proofs.FreshNames.{fresh_for}
use Rattle.copyin_base.proofs.Roomier.{CountsName, counted_agrees}
use Rattle.copyout.proofs.Counted.{new_of, put_world, gives_puts, joins_only, takes_counted}
use Rattle.copyin_base.proofs.Changing.{target_named}
use Rattle.copyin_base.proofs.Holders.{IsReceive, ReceivesIn, ReceivesAt, receives_at, put_receives, left_receives, added_receives, KeepHolders, ChangesHolder, same_holders, unheld, unheld_lying, holders_left, holders_given}
use Rattle.copyin_base.proofs.SendersNoted.{KeepsSends, KeepsSenders, keeps_senders, counts_own, sends_elsewhere}
use Rattle.copyin_base.specs.declared.Mark.{Mark}
use Rattle.copyin_base.specs.declared.Mark.TheVariants as mark
use Rattle.copyin_base.specs.Wanted.{KeepsSpares}
use Rattle.copyin_base.proofs.Spares.{keeps_same, keeps_space}
use Rattle.copyout.specs.Giving.{joined, alone, JoinsName, ledger_joined, ports_given, GivesPort, GivesMark}
use Rattle.copyout.specs.Putting.{NewName, PutsPort}
use Rattle.copyout.proofs.Gives.{joined_keeps, alone_port, put_lists}
use Rattle.copyout.proofs.PortsGiven.{given_made, given_live, given_shows, given_changes, given_spare}

-- ---- One token goes and others come.

-- it goes, and others come
pub goes_comes : (x : Token) (xs : List Token) (r : Without x xs) (come : List Token) → Moves xs (come ++ r.others) (x ∷ []) come
goes_comes x xs r come h = let a = r.parts h in let b = weigh-append h come r.others in omega (arith, a, b)

-- ---- A right that the tables give a task is given by the machine.

-- ---- entries

alone_count : (kind : Kind) (p : ℕ) → HasCount (alone kind p)
alone_count receive p = tt
alone_count send p = omega arith
alone_count send_once p = tt

-- how many rights of each kind come to a task that has so many send rights
abbrev more_receive : Kind → ℕ
more_receive receive = 1
more_receive send = 0
more_receive send_once = 0

abbrev more_send : Kind → ℕ → ℕ
more_send receive n = 0
more_send send n = if nat_lt n most_references then 1 else 0
more_send send_once n = 0

counted_up : (n : ℕ) (b : Bool) → nat_lt n most_references ≡ b → n ≤ most_references → n + (if b then 1 else 0) ≡ min (n + 1) most_references
counted_up n true e few = let a = ltb-true n most_references e in omega (arith, a)
counted_up n false e few = let a = ltb-false n most_references e in omega (arith, a, few)

-- the entry with one right more, where the receive right doesn't come twice
joined_rights : (kind : Kind) (x : Entry) (p r n : ℕ) → kind ≢ send_once → port_named x ≡ Some p → r ≡ one_if (has_receive x) → n ≡ send_references x → n ≤ most_references →
    (kind ≡ receive → r ≡ 0) → (r + more_receive kind ≡ one_if (has_receive (joined kind x))) × (n + more_send kind n ≡ send_references (joined kind x))
joined_rights send_once x p r n not named a b few one = absurd (not refl)
joined_rights kind (entry.SendOnce q) p r n not named a b few one = absurd (cc)
joined_rights kind (entry.DeadName m) p r n not named a b few one = absurd (cc)
joined_rights kind (entry.Set m) p r n not named a b few one = absurd (cc)
joined_rights receive (entry.Receive q) p r n not named a b few one = absurd (let z = one refl in omega (arith, z, a))
joined_rights receive (entry.Send q m) p r n not named a b few one = (omega (arith, a), omega (arith, b))
joined_rights receive (entry.ReceiveAndSend q m) p r n not named a b few one = absurd (let z = one refl in omega (arith, z, a))
joined_rights send (entry.Receive q) p r n not named a b few one = (omega (arith, a), rw b refl)
joined_rights send (entry.Send q m) p r n not named a b few one = grind (arith, counted_up)
joined_rights send (entry.ReceiveAndSend q m) p r n not named a b few one = grind (arith, counted_up)

-- ---- tokens that come

and_false : (a b : Bool) → b ≡ false → (a && b) ≡ false
and_false true b e = e
and_false false b e = refl

given_none : (test : Token → Bool) (kind : Kind) (p task : ℕ) (s : State) → (test (token kind p (in_task task)) ≡ false) → count test (given_to kind p task s) ≡ 0
given_none test receive p task s e = rw e refl
given_none test send_once p task s e = rw e refl
given_none test send p task s e = grind arith

given_receive : (kind : Kind) (p task : ℕ) (s : State) → count (is_held task receive p) (given_to kind p task s) ≡ more_receive kind
given_receive receive p task s = let a = own_right task receive p refl in omega (arith, a)
given_receive send p task s = given_none (is_held task receive p) send p task s refl
given_receive send_once p task s = refl

given_send : (kind : Kind) (p task : ℕ) (s : State) → count (is_held task send p) (given_to kind p task s) ≡ more_send kind (held s task send p)
given_send receive p task s = refl
given_send send p task s = grind (arith, own_right)
given_send send_once p task s = refl

-- Rights of a task change as one comes from an entry.
module _ (s t : State) (o k task : ℕ) (kind : Kind) (p : ℕ) (moves : Moves s.ledger t.ledger (token kind p (in_message o k) ∷ []) (given_to kind p task s)) where
  held_more : (x : ℕ) (c : Kind) (q : ℕ) → held t x c q ≡ held s x c q + count (is_held x c q) (given_to kind p task s)
  held_more x c q = let m = moves (λ x'. if is_held x c q x' then 1 else 0) in let z = not_held c q o k kind p x in omega (arith, m, z)

  held_other_task : (x : ℕ) → x ≢ task → (c : Kind) (q : ℕ) → held t x c q ≡ held s x c q
  held_other_task x not c q = grind (arith, held_more, given_none, and_false, ne_eqb)

  held_other_port : (c : Kind) (q : ℕ) → q ≢ p → held t task c q ≡ held s task c q
  held_other_port c q not = grind (arith, held_more, given_none, and_false, ne_eqb)

  held_receive : held t task receive p ≡ held s task receive p + more_receive kind
  held_receive = let m = held_more task receive p in let g = given_receive kind p task s in omega (arith, m, g)

  held_send : held t task send p ≡ held s task send p + more_send kind (held s task send p)
  held_send = let m = held_more task send p in let g = given_send kind p task s in omega (arith, m, g)

  lying_kept : (r : Request) (c : Kind) (q : ℕ) → lying t c q (in_request r) ≡ lying s c q (in_request r)
  lying_kept r c q = grind (arith, both_test, given_none, and_false)

-- ---- the ledger's counts

-- The right comes to the task, or it goes for good.
abbrev Settled : (s : State) → (task : ℕ) → Kind → ℕ → LedgerView → LedgerView → Type 0
Settled s task kind p old new =
    (given_to kind p task s ≡ token kind p (in_task task) ∷ []) × (new ≡ old)
    ⊎ (kind ≡ send) × (given_to kind p task s ≡ []) × (new ≡ taken old p right.Send 1)

module _ (w : WorldView) (s : State) (a : Agrees w s) (tokens : List Token) (o k task : ℕ) (kind : Kind) (p : ℕ)
    (moves : Moves s.ledger tokens (token kind p (in_message o k) ∷ []) (given_to kind p task s)) (is_live : s.live_port p ≡ true) where
  -- where it goes, these are the tokens without it
  without : given_to kind p task s ≡ [] → (h : Token → ℕ) → weigh h tokens + h (token kind p (in_message o k)) ≡ weigh h s.ledger
  without goes h = let m = moves h in let e : weigh h (given_to kind p task s) ≡ 0 = ap (weigh h) goes in omega (arith, m, e)

  settled_counts : (l : LedgerView) → Settled s task kind p w.ledger l → (q : ℕ) → CountsAgree l s.live_port tokens (onces_queued s) q
  settled_counts l (inl h) q = grind (arith, counts_same)
  settled_counts l (inr h) q = subst (λ (x : LedgerView). CountsAgree x s.live_port tokens (onces_queued s) q) (sym h.2)
      (subst (λ (c : Kind). CountsAgree (taken w.ledger p (right_of c) 1) s.live_port tokens (onces_queued s) q) h.0 (right_taken w.ledger s.live_port s.ledger (onces_queued s) a.counts kind p (in_message o k) is_live (λ e. let f : send ≡ send_once = sym h.0 ∙ e in cc) tokens (without h.1) q))

  settled_total : (l : LedgerView) → Settled s task kind p w.ledger l → l.total ≡ length tokens
  settled_total l (inl h) = grind (arith, length-weigh)
  settled_total l (inr h) = grind (arith, without, length-weigh)

-- ---- the right is given

pub option_named : (o : Option Entry) (p : ℕ) → option_map target_of o ≡ Some (Target.port p) → option_and_then port_named o ≡ Some p
option_named None p e = absurd (cc)
option_named (Some x) p e = port_of x p (same_found (option_map target_of (Some x)) (target_of x) (Target.port p) refl e)

pub same_there : (o : Option Entry) → is_some (option_map target_of o) ≡ is_some o
same_there (Some x) = refl
same_there None = refl

abody_rights : (kind : Kind) (p : ℕ) → kind ≢ send_once → (more_receive kind ≡ one_if (has_receive (alone kind p))) × (more_send kind 0 ≡ send_references (alone kind p))
abody_rights receive p not = (refl, refl)
abody_rights send p not = (refl, refl)
abody_rights send_once p not = absurd (not refl)

-- What the machine gives, and that the tables agree with it.
pub record Given (s : State) (o k task : ℕ) (kind : Kind) (p word : ℕ) (w' : WorldView) : Type 0 where
  pub t : State
  pub gives : GiveRight task (in_message o k) kind p s word t
  pub agrees : Agrees w' t

-- The right of this kind was put under the name, and the tables agree with the state after that.
pub record Put (s : State) (o k task : ℕ) (kind : Kind) (p word : ℕ) (w' : WorldView) : Type 0 where
  pub others : List Token
  pub parts : (h : Token → ℕ) → weigh h others + h (token kind p (in_message o k)) ≡ weigh h s.ledger
  pub named : State
  pub under : (kind ≢ send_once) × (lookup s task word ≡ Some (Target.port p)) × (named ≡ s)
      ⊎ (lookup s task word ≡ None) × (kind ≢ send_once → (n : ℕ) → lookup s task n ≢ Some (Target.port p)) × (named ≡ with_name task word (target_of (alone kind p)) s)
  pub agrees : Agrees w' (record named { ledger = given_to kind p task s ++ others })

module _ (w : WorldView) (s : State) (a : Agrees w s) (o k : ℕ) (l : IsMoving s o k) (task : ℕ) (kind : Kind) (p word : ℕ) (w' : WorldView) (some : 0 < lying s kind p (in_message o k)) where
  pub lives : s.live_port p ≡ true
  lives = grind (arith, lying_le_of)

  left : Without (token kind p (in_message o k)) s.ledger
  left = take_lying o k kind p s.ledger some

  abbrev tokens : List Token
  tokens = given_to kind p task s ++ left.others

  moves : Moves s.ledger tokens (token kind p (in_message o k) ∷ []) (given_to kind p task s)
  moves = goes_comes (token kind p (in_message o k)) s.ledger left (given_to kind p task s)

  -- the task can't have the receive right that comes
  not_twice : kind ≡ receive → held s task receive p ≡ 0
  not_twice is = grind (arith, left, eq-eqb, not_held, held_le_of, lives)

  module _ (g : PutsPort w task kind p word w') where
    entry_is : (name : ℕ) → entry_at w task name ≡ map.get g.space.names name
    entry_is name = ap (λ (x : Option SpaceView). entry_in x name) g.there

    lookup_is : (name : ℕ) → lookup s task name ≡ option_map target_of (map.get g.space.names name)
    lookup_is name = a.naming task name ∙ ap (option_map target_of) (entry_is name)

    ports_are : w'.ports ≡ ports_given kind task p w.ports
    ports_are = ap (λ (x : WorldView). x.ports) g.rest

    live_kept : (q : ℕ) → is_some (port_at w' q) ≡ is_some (port_at w q)
    live_kept q = ap (λ (x : PortsView Kept). is_some (map.get x.ports q)) ports_are ∙ given_live task p w.ports kind q

    made_kept : w'.ports.made ≡ w.ports.made
    made_kept = ap (λ (x : PortsView Kept). x.made) ports_are ∙ given_made task p w.ports kind

    port_kept : (q : ℕ) (v : PortView Kept) → port_at w' q ≡ Some v → ShowsPort v s q
    port_kept q v is = given_shows w s a task p kind q v (sym (ap (λ (y : PortsView Kept). map.get y.ports q) ports_are) ∙ is)

    was_few : held s task send p ≤ most_references
    was_few = (l.naming task).few_references p

    -- the name under which the task has the port
    module _ (j : JoinsName g.space.names kind p word g.after) (e : g.ledger ≡ ledger_joined kind p j.entry w.ledger) where
      abbrev same_name : State
      same_name = record s { ledger = tokens }

      word_is : lookup s task word ≡ Some (Target.port p)
      word_is = lookup_is word ∙ ap (option_map target_of) j.found ∙ ap Some (target_named j.entry p j.named)

      rights : (held s task receive p ≡ one_if (has_receive j.entry)) × (held s task send p ≡ send_references j.entry)
      rights = a.references task word j.entry p (entry_is word ∙ j.found) j.named

      joined_now : (held same_name task receive p ≡ one_if (has_receive (joined kind j.entry))) × (held same_name task send p ≡ send_references (joined kind j.entry))
      joined_now = grind (arith, joined_rights, rights, was_few, not_twice, held_receive, moves, held_send)

      join_references : CountRights g.after task tokens
      join_references = subst (λ (m : Names). CountRights m task tokens) (sym j.rest) (each_put g.space.names word (Some (joined kind j.entry))
          (λ n o. (x : Entry) (q : ℕ) → o ≡ Some x → port_named x ≡ Some q → (held same_name task receive q ≡ one_if (has_receive x)) × (held same_name task send q ≡ send_references x))
          (λ x q is named. own x q (same_found (Some x) (joined kind j.entry) x (sym is) refl) named)
          (λ n not x q is named.
          let r = a.references task n x q (entry_is n ∙ is) named in
          let other : q ≢ p = λ same. not ((l.naming task).one_name n word p
          (lookup_is n ∙ ap (option_map target_of) is ∙ ap Some (target_named x q named) ∙ ap (λ (y : ℕ). Some (Target.port y)) same) word_is) in
          (held_other_port s same_name o k task kind p moves receive q other ∙ r.0, held_other_port s same_name o k task kind p moves send q other ∙ r.1)))
        where
          one_port : (x y : ℕ) → Target.port x ≡ Target.port y → x ≡ y
          one_port x y is = cc

          own : (x : Entry) (q : ℕ) → joined kind j.entry ≡ x → port_named x ≡ Some q → (held same_name task receive q ≡ one_if (has_receive x)) × (held same_name task send q ≡ send_references x)
          own x q f named =
              let f' : target_of x ≡ Target.port p = sym (ap target_of f) ∙ (joined_keeps kind j.entry).1 ∙ target_named j.entry p j.named in
              let same : p ≡ q = one_port p q (sym f' ∙ target_named x q named) in
              subst (λ (y : ℕ). (held same_name task receive y ≡ one_if (has_receive x)) × (held same_name task send y ≡ send_references x)) same
              (subst (λ (y : Entry). (held same_name task receive p ≡ one_if (has_receive y)) × (held same_name task send p ≡ send_references y)) f joined_now)

      join_names : NamesAgree g.after (s.naming task)
      join_names =
          let is : lookup s task word ≡ Some (target_of (joined kind j.entry)) = lookup_is word ∙ ap (option_map target_of) j.found ∙ ap Some (sym ((joined_keeps kind j.entry).1)) in
          let old = own_names w s a task g.space g.there in
          subst (NamesAgree g.after) (put_same (s.naming task) word (target_of (joined kind j.entry)) is) (subst (λ (m : Names). NamesAgree m (map.insert (s.naming task) word (target_of (joined kind j.entry)))) (sym j.rest)
          (put_names g.space.names (s.naming task) old word (Some (joined kind j.entry)) (of_some (joined kind j.entry) HasCount ((joined_keeps kind j.entry).2 (old.counted word j.entry j.found)))))

      join_settled : (c : Kind) → c ≡ kind → Settled s task kind p w.ledger g.ledger
      join_settled receive is = grind arith
      join_settled send is = grind (arith, le-ltb, rights, was_few, lt-ltb)
      join_settled send_once is = absurd (j.not_once (sym is))

      join_changes : Near w w' s same_name task (record g.space { names = g.after; room = g.room })
      join_changes =
          let settled : Settled s task kind p w.ledger w'.ledger = subst (λ (x : LedgerView). Settled s task kind p w.ledger x) (sym (ap (λ (x : WorldView). x.ledger) g.rest)) (join_settled kind refl) in
          record {
            spaces = ap (λ (x : WorldView). x.spaces) g.rest;
            rest = refl;
            naming_others = λ x not. refl;
            profile = ap (λ (x : WorldView). x.profile) g.rest;
            names = join_names;
            given = a.counts_given task g.space g.there;
            given_others = λ x not. refl;
            held_others = held_other_task s same_name o k task kind p moves;
            references = join_references;
            live = live_kept;
            made = made_kept;
            ports = port_kept;
            counts = settled_counts w s a tokens o k task kind p moves lives w'.ledger settled;
            total = settled_total w s a tokens o k task kind p moves lives w'.ledger settled;
            kept_requests = ap (λ (x : WorldView). x.requests) g.rest;
            stands = λ r. refl;
            requests = lying_kept s same_name o k task kind p moves;
            sets = ap (λ (x : WorldView). x.sets) g.rest;
            set_names = λ n set named. named;
          }

      same_for : (c : Kind) → c ≡ kind → NamedFor kind task word p s s
      same_for receive is = subst (λ (x : Kind). NamedFor x task word p s s) is (inl (word_is, refl))
      same_for send is = subst (λ (x : Kind). NamedFor x task word p s s) is (inl (word_is, refl))
      same_for send_once is = absurd (j.not_once (sym is))

      join_agrees : Agrees w' same_name
      join_agrees = near_agrees w w' s same_name a task g.space (record g.space { names = g.after; room = g.room }) g.there join_changes

      join_put : Put s o k task kind p word w'
      join_put = record {
        others = left.others;
        parts = left.parts;
        named = s;
        under = inl (j.not_once, word_is, refl);
        agrees = join_agrees;
      }

      join_given : Given s o k task kind p word w'
      join_given = record {
        t = same_name;
        gives = record { named_state = s; named = same_for kind refl; rest = refl; tokens = moves };
        agrees = join_agrees;
      }

    -- a name of its own
    module _ (x : NewName g.space.names kind p word g.after) (e : g.ledger ≡ w.ledger) where
      abbrev target : Target
      target = target_of (alone kind p)

      abbrev new_name : State
      new_name = record (with_name task word target s) { ledger = tokens }

      no_name : kind ≢ send_once → (n : ℕ) → lookup s task n ≢ Some (Target.port p)
      no_name not n is = x.lone not n (option_named (map.get g.space.names n) p (sym (lookup_is n) ∙ is))

      none_held : kind ≢ send_once → held s task receive p + held s task send p ≡ 0
      none_held not = elim (pos_or_zero (held s task receive p + held s task send p)) [
        | inl h ↦ h
        | inr h ↦ absurd (let m = (l.naming task).is_named p h in no_name not m.0 m.1)
      ]

      unused : lookup s task word ≡ None
      unused = lookup_is word ∙ ap (option_map target_of) x.unused

      len_is : map.len g.space.names ≡ map.len (s.naming task)
      len_is = a.names_kept task g.space g.there

      names_own : new_name.naming task ≡ map.insert (s.naming task) word target
      names_own = at_own s.naming task (map.insert (s.naming task) word target)

      -- what stood under another name still does, and nothing stood under this one
      stays : (n : ℕ) (y : Target) → lookup s task n ≡ Some y → lookup new_name task n ≡ Some y
      stays n y is = ap (λ (m : Targets). map.get m n) names_own ∙ kept (s.naming task) word target n y unused is

      -- a right under a name of its own is the only one of its port that is under a port's name
      own_rights : kind ≢ send_once → (held new_name task receive p ≡ one_if (has_receive (alone kind p))) × (held new_name task send p ≡ send_references (alone kind p))
      own_rights not = grind (arith, none_held, abody_rights, held_receive, moves, held_send)

      is_once : (c : Kind) → ((c ≡ send_once) ⊎ (c ≢ send_once))
      is_once receive = inr (λ f. cc)
      is_once send = inr (λ f. cc)
      is_once send_once = inl refl

      other_rights : (q : ℕ) → (kind ≢ send_once → q ≢ p) → (held new_name task receive q ≡ held s task receive q) × (held new_name task send q ≡ held s task send q)
      other_rights q not = grind (arith, is_once, held_more, moves, given_none, held_other_port)

      new_references : CountRights g.after task tokens
      new_references = subst (λ (m : Names). CountRights m task tokens) (sym x.rest) (each_put g.space.names word (Some (alone kind p))
          (λ n o. (y : Entry) (q : ℕ) → o ≡ Some y → port_named y ≡ Some q → (held new_name task receive q ≡ one_if (has_receive y)) × (held new_name task send q ≡ send_references y))
          (λ y q is named. of_some (alone kind p) (λ y. (q : ℕ) → port_named y ≡ Some q → (held new_name task receive q ≡ one_if (has_receive y)) × (held new_name task send q ≡ send_references y)) own y is q named)
          (λ n not y q is named.
          let r = a.references task n y q (entry_is n ∙ is) named in
          let u = other_rights q (λ lone same. no_name lone n
          (lookup_is n ∙ ap (option_map target_of) is ∙ ap Some (target_named y q named) ∙ ap (λ (i : ℕ). Some (Target.port i)) same)) in
          (u.0 ∙ r.0, u.1 ∙ r.1)))
        where
          own : (q : ℕ) → port_named (alone kind p) ≡ Some q → (held new_name task receive q ≡ one_if (has_receive (alone kind p))) × (held new_name task send q ≡ send_references (alone kind p))
          own q named = let n = alone_port kind p q named in
              subst (λ (i : ℕ). (held new_name task receive i ≡ one_if (has_receive (alone kind p))) × (held new_name task send i ≡ send_references (alone kind p))) n.1 (own_rights n.0)

      new_names : NamesAgree g.after (new_name.naming task)
      new_names = subst (NamesAgree g.after) (sym names_own) (subst (λ (m : Names). NamesAgree m (map.insert (s.naming task) word target)) (sym x.rest)
          (put_names g.space.names (s.naming task) (own_names w s a task g.space g.there) word (Some (alone kind p)) (of_some (alone kind p) HasCount (alone_count kind p))))

      new_settled : (c : Kind) → c ≡ kind → given_to kind p task s ≡ token kind p (in_task task) ∷ []
      new_settled receive is = subst (λ (y : Kind). given_to y p task s ≡ token y p (in_task task) ∷ []) is refl
      new_settled send is = grind (arith, none_held, lt-ltb)
      new_settled send_once is = subst (λ (y : Kind). given_to y p task s ≡ token y p (in_task task) ∷ []) is refl

      new_changes : Near w w' s new_name task (record g.space { names = g.after; room = g.room })
      new_changes =
          let settled : Settled s task kind p w.ledger w'.ledger = inl (new_settled kind refl, ap (λ (y : WorldView). y.ledger) g.rest ∙ e) in
          record {
            spaces = ap (λ (y : WorldView). y.spaces) g.rest;
            rest = refl;
            naming_others = λ y not. at_other s.naming task (map.insert (s.naming task) word target) y not;
            profile = ap (λ (y : WorldView). y.profile) g.rest;
            names = new_names;
            given = a.counts_given task g.space g.there;
            given_others = λ y not. refl;
            held_others = held_other_task s new_name o k task kind p moves;
            references = new_references;
            live = live_kept;
            made = made_kept;
            ports = port_kept;
            counts = settled_counts w s a tokens o k task kind p moves lives w'.ledger settled;
            total = settled_total w s a tokens o k task kind p moves lives w'.ledger settled;
            kept_requests = ap (λ (y : WorldView). y.requests) g.rest;
            stands = λ r. refl;
            requests = lying_kept s new_name o k task kind p moves;
            sets = ap (λ (y : WorldView). y.sets) g.rest;
            set_names = λ n set named. stays n (Target.set set) named;
          }

      new_agrees : Agrees w' new_name
      new_agrees = near_agrees w w' s new_name a task g.space (record g.space { names = g.after; room = g.room }) g.there new_changes

      new_put : Put s o k task kind p word w'
      new_put = record {
        others = left.others;
        parts = left.parts;
        named = with_name task word target s;
        under = inr (unused, no_name, refl);
        agrees = new_agrees;
      }

    -- The right comes under the name, and the tables agree with the machine.
    pub port_put : Put s o k task kind p word w'
    port_put = elim g.given [
      | inl h ↦ join_put h.0 h.1
      | inr h ↦ new_put h.0 h.1
    ]

  -- where it is given
  module _ (g : PutsPort w task kind p word w') (x : NewName g.space.names kind p word g.after) (e : g.ledger ≡ w.ledger) (w2 : WorldView) (counts : CountsName w' task word w2)
      (fresh_name : IsFreshFor g.space word) (room : map.len g.space.names < most_names) where
    abbrev named_state : State
    named_state = with_name task word (target_of (alone kind p)) (gives task word s)

    named_new : Named task word (target_of (alone kind p)) s named_state
    named_new = record { room = (let same = a.names_kept task g.space g.there in omega (arith, room, same)); fresh = fresh_for w s a task g.space g.there word fresh_name; rest = refl }

    new_for : (c : Kind) → c ≡ kind → NamedFor c task word p s (with_name task word (target_of (alone c p)) (gives task word s))
    new_for receive is = inr (no_name g x e (λ once. let f : receive ≡ send_once = is ∙ once in cc), subst (λ (y : Kind). Named task word (target_of (alone y p)) s (with_name task word (target_of (alone y p)) (gives task word s))) (sym is) named_new)
    new_for send is = inr (no_name g x e (λ once. let f : send ≡ send_once = is ∙ once in cc), subst (λ (y : Kind). Named task word (target_of (alone y p)) s (with_name task word (target_of (alone y p)) (gives task word s))) (sym is) named_new)
    new_for send_once is = subst (λ (y : Kind). Named task word (target_of (alone y p)) s (with_name task word (target_of (alone y p)) (gives task word s))) (sym is) named_new

    new_given : Given s o k task kind p word w2
    new_given = record {
      t = gives task word (new_name g x e);
      gives = record { named_state = named_state; named = new_for kind refl; rest = refl; tokens = moves };
      agrees = counted_agrees w' w2 task word counts (new_name g x e) (new_agrees g x e);
    }

module _ (w : WorldView) (s : State) (a : Agrees w s) (o k : ℕ) (l : IsMoving s o k) (task : ℕ) (kind : Kind) (p word : ℕ) (w' : WorldView) (some : 0 < lying s kind p (in_message o k))
    (g : GivesPort w task kind p word w') where
  abbrev mid : WorldView
  mid = put_world w task kind p word w' g

  abbrev puts : PutsPort w task kind p word mid
  puts = gives_puts w task kind p word w' g

  -- The right comes, and the tables agree with the machine.
  pub port_given : Given s o k task kind p word w'
  port_given = elim g.given [
    | inl h ↦ subst (Given s o k task kind p word) (sym (joins_only w task kind p word w' g h.3)) (join_given w s a o k l task kind p word mid some puts h.0 h.1)
    | inr h ↦ new_given w s a o k l task kind p word mid some puts (new_of g.space kind p word g.after h.0) h.1 w' (takes_counted w task kind p word w' g h.3) h.0.fresh h.0.room
  ]

-- ---- A right that comes to a task: each port still knows who holds its receive right.

-- ---- what comes under a name

one_port : (x : Entry) (p q : ℕ) → port_named x ≡ Some p → IsReceive (Some x) q → q ≡ p
one_port x p q named i = grind (arith, same_found)

-- of a port other than this no receive right comes
put_others : (names : Names) (name : ℕ) (x : Entry) (p : ℕ) → port_named x ≡ Some p → (q : ℕ) → q ≢ p → ReceivesIn (map.insert names name x) q → ReceivesIn names q
put_others names name x p named q not = put_receives names name (Some x) q (ReceivesIn names q) (λ i. absurd (not (one_port x p q named i))) (λ r. r)

-- the entry with one right more, which is no receive right
joined_had : (names : Names) (name : ℕ) (kind : Kind) (x : Entry) → map.get names name ≡ Some x → (has_receive (joined kind x) ≡ true → has_receive x ≡ true) →
    (q : ℕ) → IsReceive (Some (joined kind x)) q → ReceivesIn names q
joined_had names name kind x found fewer q i = grind (arith, same_found, receives_at, joined_keeps)

send_fewer : (x : Entry) → has_receive (joined send x) ≡ true → has_receive x ≡ true
send_fewer (entry.Receive p) h = refl
send_fewer (entry.Send p n) h = h
send_fewer (entry.ReceiveAndSend p n) h = refl
send_fewer (entry.SendOnce p) h = h
send_fewer (entry.DeadName n) h = h
send_fewer (entry.Set n) h = h

-- ---- in the tables

module _ (w w' : WorldView) (h : HoldersAgree w) (task p word : ℕ) where
  -- a receive right, which no other task has
  receive_comes : PutsPort w task receive p word w' → ((u : ℕ) → u ≢ task → ReceivesAt w u p → ⊥) → HoldersAgree w'
  receive_comes g only = holders_given w w' h task g.space (record g.space { names = g.after; room = g.room }) g.there (ap (λ (x : WorldView). x.spaces) g.rest) p others only
      (subst (λ (x : PortsView Kept). ChangesHolder w.ports.ports x.ports p (Holder.Task task)) (sym (ap (λ (x : WorldView). x.ports) g.rest)) (given_changes task p w.ports))
    where
      others : (q : ℕ) → q ≢ p → ReceivesIn g.after q → ReceivesIn g.space.names q
      others q not r = elim g.given [
        | inl j ↦ put_others g.space.names word (joined receive j.0.entry) p ((joined_keeps receive j.0.entry).0 ∙ j.0.named) q not (subst (λ (m : Names). ReceivesIn m q) j.0.rest r)
        | inr n ↦ put_others g.space.names word (alone receive p) p refl q not (subst (λ (m : Names). ReceivesIn m q) n.0.rest r)
      ]

  -- a right of another kind
  other_comes : (kind : Kind) → ((x : Entry) → has_receive (joined kind x) ≡ true → has_receive x ≡ true) → has_receive (alone kind p) ≡ false → ports_given kind task p w.ports ≡ w.ports →
      PutsPort w task kind p word w' → HoldersAgree w'
  other_comes kind fewer none same g = holders_left w w' h task g.space (record g.space { names = g.after; room = g.room }) g.there (ap (λ (x : WorldView). x.spaces) g.rest) had
      (subst (λ (x : PortsView Kept). KeepHolders w.ports.ports x.ports) (sym (ap (λ (x : WorldView). x.ports) g.rest ∙ same)) (same_holders w.ports.ports))
    where
      had : (q : ℕ) → ReceivesIn g.after q → ReceivesIn g.space.names q
      had q r = elim g.given [
        | inl j ↦ left_receives g.space.names word (Some (joined kind j.0.entry)) (joined_had g.space.names word kind j.0.entry j.0.found (fewer j.0.entry)) q (subst (λ (m : Names). ReceivesIn m q) j.0.rest r)
        | inr n ↦ added_receives g.space.names word (alone kind p) none q (subst (λ (m : Names). ReceivesIn m q) n.0.rest r)
      ]

  right_comes : (kind : Kind) → PutsPort w task kind p word w' → (kind ≡ receive → (u : ℕ) → ReceivesAt w u p → ⊥) → HoldersAgree w'
  right_comes receive g none = receive_comes g (λ u not. none refl u)
  right_comes send g none = other_comes send send_fewer refl refl g
  right_comes send_once g none = other_comes send_once (λ x has. has) refl refl g

-- ---- where the right lay in a message

module _ (w : WorldView) (s : State) (a : Agrees w s) (h : HoldersAgree w) (o k : ℕ) (l : IsMoving s o k) (task : ℕ) (kind : Kind) (p word : ℕ) (w' : WorldView) (some : 0 < lying s kind p (in_message o k)) where
  none_has : kind ≡ receive → (u : ℕ) → ReceivesAt w u p → ⊥
  none_has is u =
      let one = l.one_receive p (lives w s a o k l task kind p word w' some) in
      let few : count (is_of receive p) s.ledger ≤ 1 = omega (arith, one) in
      unheld w s a u p (unheld_lying s u p o k few (subst (λ (c : Kind). 0 < lying s c p (in_message o k)) is some))

  -- It comes under the name.
  pub port_put_holders : PutsPort w task kind p word w' → HoldersAgree w'
  port_put_holders g = right_comes w w' h task p word kind g none_has

-- ---- A right that comes to a task takes no port's last send right: one that goes is of a port of which the task has as many as there may be.

-- ---- one that goes where there are others

last_stays : (l : LedgerView) (p : ℕ) → 2 ≤ (counts_of l p).send → KeepsSends l (taken l p right.Send 1)
last_stays l p some q none = elim (eqb_tells q p) [
  | inl h ↦
      let own : (counts_of (taken l p right.Send 1) p).send ≡ (counts_of l p).send - 1 =
      ap (λ (c : Counts). c.send) (counts_own l p (with_fewer right.Send 1 (counts_of l p)) (taken l p right.Send 1) refl) in
      let at : (counts_of (taken l p right.Send 1) p).send ≡ 0 = subst (λ (x : ℕ). (counts_of (taken l p right.Send 1) x).send ≡ 0) h.1 none in
      absurd (omega (arith, some, own, at))
  | inr h ↦ sym (sends_elsewhere l p right.Send 1 q h.1) ∙ none
]

keeps_joined : (kind : Kind) (p : ℕ) (x : Entry) (l : LedgerView) → (send_references x ≡ most_references → 2 ≤ (counts_of l p).send) → KeepsSends l (ledger_joined kind p x l)
keeps_joined receive p x l many = λ q none. none
keeps_joined send_once p x l many = λ q none. none
keeps_joined send p x l many = grind (arith, last_stays)

-- ---- in the tables

module _ (w : WorldView) (s : State) (a : Agrees w s) (r : RequestsStand w) (w' : WorldView) (task : ℕ) (kind : Kind) (p word : ℕ) (g : PutsPort w task kind p word w') where
  -- all of the name's references are counted
  many : (x : Entry) → map.get g.space.names word ≡ Some x → port_named x ≡ Some p → send_references x ≡ most_references → 2 ≤ (counts_of w.ledger p).send
  many x found named full =
      let at : entry_at w task word ≡ Some x = ap (λ o. entry_in o word) g.there ∙ found in
      let held = (a.references task word x p at named).1 in
      let le = held_le_of task send p s.ledger in
      let all = (a.counts p).senders in
      omega (arith, held, le, all, full)

  sends : KeepsSends w.ledger g.ledger
  sends = grind (arith, keeps_joined, many)

  -- It comes under the name.
  pub port_put_senders : KeepsSenders w w'
  port_put_senders = grind (arith, keeps_senders, sends, put_lists)

-- ---- What giving one right keeps of the room for names, and of the spare slots.

few_rooms : (room was : ℕ) → (room ≡ was) ⊎ (room ≡ was - 1) → room ≤ max was 1
few_rooms room was (inl e) = omega (arith, e)
few_rooms room was (inr e) = omega (arith, e)

pub put_keeps : (w new : WorldView) (task : ℕ) (kind : Kind) (port word : ℕ) → PutsPort w task kind port word new → KeepsSpares w new
put_keeps w new task kind port word g = keeps_space w new task g.space (record g.space { names = g.after; room = g.room }) g.there (ap (λ (x : WorldView). x.spaces) g.rest)
    (few_rooms g.room g.space.room (elim g.given [ inl h ↦ inl h.2 | inr h ↦ inr h.2 ])) (ap (λ (x : WorldView). x.ports.spare) g.rest ∙ given_spare task port w.ports kind)

pub given_keeps : (w new : WorldView) (task : ℕ) (kind : Kind) (one : Mark) (word : ℕ) → GivesMark w task kind one word new → KeepsSpares w new
given_keeps w new task kind (mark.Port p) word h = go (is_some (map.get w.ports.ports p)) _ h
  where
    go : (b : Bool) (dead : ℕ) → MatchBool b (GivesPort w task kind p word new) ((word ≡ dead) × (new ≡ w)) → KeepsSpares w new
    go true dead g = keeps_space w new task g.space (record g.space { names = g.after; room = g.room; given = g.counts }) g.there (ap (λ (x : WorldView). x.spaces) g.rest)
        (few_rooms g.room g.space.room (elim g.given [ inl h ↦ inl h.2 | inr h ↦ inr h.2 ])) (ap (λ (x : WorldView). x.ports.spare) g.rest ∙ given_spare task p w.ports kind)
    go false dead g = keeps_same w new g.1
given_keeps w new task kind mark.Null word h = keeps_same w new h.1
given_keeps w new task kind mark.Dead word h = keeps_same w new h.1
