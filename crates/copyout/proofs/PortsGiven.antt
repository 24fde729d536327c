-- The ports once a right came to a task, and what is ready for the next.
use Rattle.std.proofs.Common.{◌≡◌, ℕ, Option, Some, None, refl, sym, ap, subst, ◌∙◌, ◌≢◌, ◌+◌, ◌<◌, ◌≤◌, List, [], ◌∷◌, arith, true, false, Bool, inl, inr, ◌⊎◌, length, drop, get_or}
use Rattle.std.specs.Prelude.{is_some, MatchBool, if◌then◌else◌, ◌==◌}
use Rattle.std.specs.FinMap as map
use Rattle.std.proofs.lemmas.Bool.{cases_lt}
use Rattle.std.proofs.lemmas.List.{at_drop_more, at_drop_all}
use Rattle.mach_types.specs.Tokens.{Kind, receive, send, send_once}
use Rattle.mach_types.specs.Numbers.{kind_sent, most_references}
use Rattle.mach_model.specs.State.{State}
use Rattle.rights.specs.declared.RightKind.TheVariants as right
use Rattle.rights.specs.declared.Counts.{Counts}
use Rattle.rights.specs.Counts.{with_fewer}
use Rattle.rights.specs.Ledger.{LedgerView, IsEntered, counts_of, taken}
use Rattle.name_space.specs.declared.Entry.{Entry}
use Rattle.name_space.specs.Entry.{port_of, send_references}
use Rattle.name_space.specs.Names.{HasNoOther, SpaceView, port_at as port_named_at}
use Rattle.name_space.proofs.Keys.{put_here, put_other}
use Rattle.port.specs.declared.Holder.TheVariants as Holder
use Rattle.port.specs.Ports.{PortView, PortsView}
use Rattle.copyin_base.specs.Changes.{CanInsert}
use Rattle.copyin_base.specs.Kept.{Kept}
use Rattle.copyin_base.specs.Worlds.{WorldView, NoneLost, port_at, space_at}
use Rattle.copyin_base.specs.Shows.{ShowsPort, Agrees}
use Rattle.copyin_base.proofs.Agreeing.{live_put, ports_put}
use Rattle.copyin_base.proofs.Holders.{ChangesHolder, put_holder}
use Rattle.copyin_base.proofs.Idle.{none_lost_by}
use Rattle.copyin_base.specs.declared.Carried.{Carried}
use Rattle.copyin_base.specs.declared.Mark.{Mark}
use Rattle.copyin_base.specs.declared.Mark.TheVariants as mark
use Rattle.copyin_base.proofs.Putting.{each_put}
use Rattle.copyin_base.proofs.Spaces.{space-set_same}
use Rattle.copyout.specs.Giving.{port_held, ports_given, ledger_joined, GivesPort, GivesMark, NeedsOwn, free_names, free_room, MarkLacks, Lack}
use Rattle.copyout.specs.Ready.{send_for, CanGive, CanGivePort, CanTakeName}

-- ---- The ports once a right came to a task: of a receive right the port knows who holds it, and all else of them stays.

-- an entry may still come under the name
pub can_insert_held : (w w1 : WorldView) (task name : ℕ) (ports : PortsView Kept) (x y : Entry) → w1 ≡ record w { ports = ports } → y ≡ x →
    ((q : ℕ) → is_some (map.get ports.ports q) ≡ is_some (map.get w.ports.ports q)) → CanInsert w task name x → CanInsert w1 task name y
can_insert_held w w1 task name ports x y same is live r = subst (λ (v : WorldView). CanInsert v task name y) (sym same) (record {
  space = r.space;
  there = r.there;
  usable = r.usable;
  unused = r.unused;
  few = r.few;
  place = r.place;
  apart = subst (HasNoOther r.space.names) (sym is) r.apart;
  lives = λ p for. live p ∙ r.lives p (sym (ap port_of is) ∙ for);
})

-- ---- what stays

-- The same ports are lost, doomed and noted, and the same messages destroyed.
pub record SameLists (ports new : PortsView Kept) : Type 0 where
  pub lost : new.lost ≡ ports.lost
  pub doomed : new.doomed ≡ ports.doomed
  pub destroyed : new.destroyed ≡ ports.destroyed
  pub noted : new.noted ≡ ports.noted

pub lists_refl : (ports : PortsView Kept) → SameLists ports ports
lists_refl ports = record { lost = refl; doomed = refl; destroyed = refl; noted = refl }

pub lists_none_lost : (w w2 : WorldView) → SameLists w.ports w2.ports → NoneLost w → NoneLost w2
lists_none_lost w w2 same n = none_lost_by w w2 n same.lost same.doomed same.destroyed

module _ (task p : ℕ) (ports : PortsView Kept) where
  held_lists : (o : Option (PortView Kept)) → SameLists ports (port_held task p ports o)
  held_lists (Some v) = record { lost = refl; doomed = refl; destroyed = refl; noted = refl }
  held_lists None = lists_refl ports

  pub given_lists : (kind : Kind) → SameLists ports (ports_given kind task p ports)
  given_lists receive = held_lists (map.get ports.ports p)
  given_lists send = lists_refl ports
  given_lists send_once = lists_refl ports

  held_made : (o : Option (PortView Kept)) → (port_held task p ports o).made ≡ ports.made
  held_made (Some v) = refl
  held_made None = refl

  held_spare : (o : Option (PortView Kept)) → (port_held task p ports o).spare ≡ ports.spare
  held_spare (Some v) = refl
  held_spare None = refl

  held_live : (o : Option (PortView Kept)) → map.get ports.ports p ≡ o → (q : ℕ) → is_some (map.get (port_held task p ports o).ports q) ≡ is_some (map.get ports.ports q)
  held_live (Some v) is q = live_put ports.ports p _ (λ x. is_some (map.get ports.ports x)) (ap is_some is) (λ x. refl) q
  held_live None is q = refl

  pub given_made : (kind : Kind) → (ports_given kind task p ports).made ≡ ports.made
  given_made receive = held_made (map.get ports.ports p)
  given_made send = refl
  given_made send_once = refl

  pub given_spare : (kind : Kind) → (ports_given kind task p ports).spare ≡ ports.spare
  given_spare receive = held_spare (map.get ports.ports p)
  given_spare send = refl
  given_spare send_once = refl

  pub given_live : (kind : Kind) (q : ℕ) → is_some (map.get (ports_given kind task p ports).ports q) ≡ is_some (map.get ports.ports q)
  given_live receive q = held_live (map.get ports.ports p) refl q
  given_live send q = refl
  given_live send_once q = refl

-- The machine knows nothing of holders.
module _ (w : WorldView) (s : State) (a : Agrees w s) (task p : ℕ) where
  held_shows : (o : Option (PortView Kept)) → port_at w p ≡ o → (q : ℕ) (v : PortView Kept) → map.get (port_held task p w.ports o).ports q ≡ Some v → ShowsPort v s q
  held_shows (Some x) is =
      let b = a.ports p x is in
      ports_put w.ports.ports p (record x { attributes = record x.attributes { holder = Holder.Task task } }) s
      (record { waiting = b.waiting; limit = b.limit; make_send = b.make_send; sequence = b.sequence; sets = b.sets })
      (λ q v not. a.ports q v)
  held_shows None is = a.ports

  pub given_shows : (kind : Kind) (q : ℕ) (v : PortView Kept) → map.get (ports_given kind task p w.ports).ports q ≡ Some v → ShowsPort v s q
  given_shows receive = held_shows (port_at w p) refl
  given_shows send = a.ports
  given_shows send_once = a.ports

-- ---- the holders

-- The port knows the task that has its receive right now, and no other port's holder changed.
pub given_changes : (task p : ℕ) (ports : PortsView Kept) → ChangesHolder ports.ports (ports_given receive task p ports).ports p (Holder.Task task)
given_changes task p ports = go (map.get ports.ports p) refl
  where
    go : (o : Option (PortView Kept)) → map.get ports.ports p ≡ o → ChangesHolder ports.ports (port_held task p ports o).ports p (Holder.Task task)
    go (Some v) is = put_holder ports.ports p (record v { attributes = record v.attributes { holder = Holder.Task task } })
    go None is = record {
      own = λ v at. absurd (let none : None ≡ Some v = sym is ∙ at in cc);
      others = λ q v not at. record { v = v; there = at; is = refl };
    }

-- ---- What stays when a right was given, and what is ready for the next.

pub kind_cases : (kind : Kind) → (kind ≡ send_once) ⊎ (kind ≢ send_once)
kind_cases send = inr (λ h. cc)
kind_cases receive = inr (λ h. cc)
kind_cases send_once = inl refl

-- ---- ledgers

pub entered-put : (m : LedgerView) (p q : ℕ) (c : Counts) → IsEntered m q → map.contains_key (map.insert m.counts p c) q ≡ true
entered-put m p q c h = each_put m.counts p (Some c) (λ k o. IsEntered m k → is_some o ≡ true) (λ x. refl) (λ k not x. x) q h

pub entered-taken : (m : LedgerView) (p q : ℕ) → IsEntered m q → IsEntered (taken m p right.Send 1) q
entered-taken m p q h = entered-put m p q (with_fewer right.Send 1 (counts_of m p)) h

pub sends-taken : (m : LedgerView) (p q : ℕ) → (counts_of m q).send ≤ (counts_of (taken m p right.Send 1) q).send + (if p == q then 1 else 0)
sends-taken m p q = grind (arith, put_here, put_other)

entered-if : (b : Bool) (m : LedgerView) (p q : ℕ) → IsEntered m q → IsEntered (if b then taken m p right.Send 1 else m) q
entered-if true m p q h = entered-taken m p q h
entered-if false m p q h = h

sends-if : (b : Bool) (m : LedgerView) (p q : ℕ) → (counts_of m q).send ≤ (counts_of (if b then taken m p right.Send 1 else m) q).send + (if p == q then 1 else 0)
sends-if true m p q = sends-taken m p q
sends-if false m p q = omega arith

entered-joined : (kind : Kind) (p : ℕ) (x : Entry) (m : LedgerView) (q : ℕ) → IsEntered m q → IsEntered (ledger_joined kind p x m) q
entered-joined send p x m q h = entered-if (send_references x == most_references) m p q h
entered-joined receive p x m q h = h
entered-joined send_once p x m q h = h

sends-joined : (kind : Kind) (p : ℕ) (x : Entry) (m : LedgerView) (q : ℕ) → (counts_of m q).send ≤ (counts_of (ledger_joined kind p x m) q).send + send_for kind (mark.Port p) q
sends-joined send p x m q = sends-if (send_references x == most_references) m p q
sends-joined receive p x m q = omega arith
sends-joined send_once p x m q = omega arith

-- ---- what stays

pub record After (w mid : WorldView) (task : ℕ) (kind : Kind) (one : Mark) : Type 0 where
  pub space : SpaceView
  pub there : space_at mid task ≡ Some space
  pub live : (p : ℕ) → is_some (port_at mid p) ≡ is_some (port_at w p)
  pub entered : (p : ℕ) → IsEntered w.ledger p → IsEntered mid.ledger p
  pub sends : (p : ℕ) → (counts_of w.ledger p).send ≤ (counts_of mid.ledger p).send + send_for kind one p
  pub lists : SameLists w.ports mid.ports

after_same : (w mid : WorldView) (task : ℕ) (kind : Kind) (one : Mark) (space : SpaceView) → space_at w task ≡ Some space → mid ≡ w → After w mid task kind one
after_same w mid task kind one space there e = subst (λ (x : WorldView). After w x task kind one) (sym e)
    (record { space = space; there = there; live = λ p. refl; entered = λ p h. h; sends = λ p. omega arith; lists = lists_refl w.ports })

after_port : (w mid : WorldView) (task : ℕ) (kind : Kind) (port word : ℕ) → GivesPort w task kind port word mid → After w mid task kind (mark.Port port)
after_port w mid task kind port word g = subst (λ (x : WorldView). After w x task kind (mark.Port port)) (sym g.rest) (record {
  space = record g.space { names = g.after; room = g.room; given = g.counts };
  there = space-set_same w.spaces task (record g.space { names = g.after; room = g.room; given = g.counts }) g.space g.there;
  live = given_live task port w.ports kind;
  entered = λ p h. elim g.given [
    | inl j ↦ subst (λ (m : LedgerView). IsEntered m p) (sym j.1) (entered-joined kind port j.0.entry w.ledger p h)
    | inr t ↦ subst (λ (m : LedgerView). IsEntered m p) (sym t.1) h
  ];
  sends = λ p. elim g.given [
    | inl j ↦ subst (λ (m : LedgerView). (counts_of w.ledger p).send ≤ (counts_of m p).send + send_for kind (mark.Port port) p) (sym j.1) (sends-joined kind port j.0.entry w.ledger p)
    | inr t ↦ subst (λ (m : LedgerView). (counts_of w.ledger p).send ≤ (counts_of m p).send + send_for kind (mark.Port port) p) (sym t.1) (omega arith)
  ];
  lists = given_lists task port w.ports kind;
})

after_if : (b : Bool) (w mid : WorldView) (task : ℕ) (kind : Kind) (port word dead : ℕ) (space : SpaceView) → space_at w task ≡ Some space →
    MatchBool b (GivesPort w task kind port word mid) ((word ≡ dead) × (mid ≡ w)) → After w mid task kind (mark.Port port)
after_if true w mid task kind port word dead space there h = after_port w mid task kind port word h
after_if false w mid task kind port word dead space there h = after_same w mid task kind (mark.Port port) space there h.1

pub after_mark : (w mid : WorldView) (task : ℕ) (kind : Kind) (one : Mark) (word : ℕ) (space : SpaceView) → space_at w task ≡ Some space →
    GivesMark w task kind one word mid → After w mid task kind one
after_mark w mid task kind (mark.Port p) word space there h = after_if (is_some (map.get w.ports.ports p)) w mid task kind p word _ space there h
after_mark w mid task kind mark.Null word space there h = after_same w mid task kind mark.Null space there h.1
after_mark w mid task kind mark.Dead word space there h = after_same w mid task kind mark.Dead space there h.1

-- ---- what is ready

pub can_give_one : (w : WorldView) (task : ℕ) (c : Carried) (cs : List Carried) → CanGive w task (c ∷ cs) → CanGive w task (c ∷ [])
can_give_one w task c cs g = record {
  space = g.space;
  there = g.there;
  enough = λ h. elim h [ inl a ↦ g.enough (inl a) | inr b ↦ absurd b.2 ];
  room = λ h. elim h [ inl a ↦ g.room (inl a) | inr b ↦ absurd b.2 ];
  entered = g.entered;
  counted = λ p live. let h = g.counted p live in omega arith;
  none_lost = g.none_lost;
}

pub can_give_rest : (w mid : WorldView) (task : ℕ) (c : Carried) (cs : List Carried) (word : ℕ) → CanGive w task (c ∷ cs) →
    GivesMark w task (kind_sent c.given) c.mark word mid → CanGive mid task cs
can_give_rest w mid task c cs word g gives =
    let a = after_mark w mid task (kind_sent c.given) c.mark word g.space g.there gives in
    record {
      space = a.space;
      there = a.there;
      enough = λ h. g.enough (inr (mid, (word, gives), h));
      room = λ h. g.room (inr (mid, (word, gives), h));
      entered = λ p live. a.entered p (g.entered p (sym (a.live p) ∙ live));
      counted = λ p live. let h = g.counted p (sym (a.live p) ∙ live) in let k = a.sends p in omega arith;
      none_lost = lists_none_lost w mid a.lists g.none_lost;
    }

send_own : (kind : Kind) (one : Mark) (p : ℕ) → kind ≡ send → one ≡ mark.Port p → send_for kind one p ≡ 1
send_own kind one p e f = grind arith

-- something is left where the right needs a name of its own
some_left : (left : SpaceView → ℕ) (w : WorldView) (task : ℕ) (c : Carried) (p : ℕ) → c.mark ≡ mark.Port p → is_some (map.get w.ports.ports p) ≡ true →
    ¬ (Lack left w task (c ∷ [])) → (space : SpaceView) → space_at w task ≡ Some space → NeedsOwn w task (kind_sent c.given) p → 0 < left space
some_left left w task c p is live suffices space there own = elim (cases_lt 0 (left space)) [
  | inl h ↦ h
  | inr h ↦ absurd (suffices (inl (subst (λ (m : Mark). MarkLacks left w task (kind_sent c.given) m) (sym is) (live, (space, there, omega arith), own))))
]

pub can_give_port : (w : WorldView) (task : ℕ) (c : Carried) (p : ℕ) → c.mark ≡ mark.Port p → is_some (map.get w.ports.ports p) ≡ true → CanGive w task (c ∷ []) →
    CanGivePort w task (kind_sent c.given) p
can_give_port w task c p is live g = record {
  space = g.space;
  there = g.there;
  own = λ own. ((let h = some_left free_names w task c p is live g.enough g.space g.there own in omega arith), some_left free_room w task c p is live g.room g.space g.there own);
  live = live;
  entered = g.entered p live;
  counted = λ e. let h = g.counted p live in let k = send_own (kind_sent c.given) c.mark p e is in omega arith;
  none_lost = g.none_lost;
}

pub can_take : (w : WorldView) (task : ℕ) (kind : Kind) (port : ℕ) (g : CanGivePort w task kind port) →
    (kind ≢ send_once → (name : ℕ) → port_named_at g.space.names name ≢ Some port) → CanTakeName w task kind port
can_take w task kind port g lone =
    let own = g.own (elim (kind_cases kind) [ inl e ↦ inl e | inr n ↦ inr (g.space, g.there, lone n) ]) in
    record { space = g.space; there = g.there; room = own.1; not_full = own.0; lone = lone; live = g.live; none_lost = g.none_lost }

-- ---- one element after another

pub next_item : {X : Type 0} (xs : List X) (i : ℕ) (x : X) → i < length xs → x ≡ get_or xs i x → drop i xs ≡ x ∷ drop (i + 1) xs
next_item {X} xs i x h is = at_drop_more (λ (ys : List X). ys) xs i x h ∙ ap (λ (y : X). y ∷ drop (i + 1) xs) (sym is)

pub no_item : {X : Type 0} (xs : List X) (i : ℕ) → length xs ≤ i → drop i xs ≡ []
no_item {X} xs i h = at_drop_all (λ (ys : List X). ys) xs i h
