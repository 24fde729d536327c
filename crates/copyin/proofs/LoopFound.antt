-- Whether a message would close a loop, in the tables and in the machine.
use Rattle.std.proofs.Common.{◌≡◌, ℕ, zero, ◌+◌, ◌<◌, Bool, true, false, Option, Some, None, List, [], ◌∷◌, ◌++◌, length, take, get_or, refl, sym, ap, subst, ◌∙◌, inl, inr, arith, ◌-◌, ◌≤◌}
use Rattle.std.specs.Prelude.{◌↔◌, IsTrue, Contains, MatchBool, slice_get, is_some}
use Rattle.std.proofs.lemmas.List.{take_more}
use Rattle.std.proofs.lemmas.List.Elements.{Contains-append_cases, filter_map-append}
use Rattle.std.specs.FinMap as map
use Rattle.std.specs.List.{filter_map, cons_option}
use Rattle.std.specs.Ordering.{nat_cmp}
use Rattle.std.proofs.lemmas.Bool.{true_from_ne_false}
use Rattle.mach_types.specs.Tokens.{receive, in_task, in_message}
use Rattle.mach_types.specs.Messages.{Entry}
use Rattle.mach_model.specs.State.{State, queue, held}
use Rattle.mach_model.specs.Death.{LiesAt, CarriedAt}
use Rattle.mach_model.specs.SendRefusals.{Reaches, ClosesLoop}
use Rattle.mach_model.specs.Carried.{lying}
use Rattle.mach_model.specs.Send.{place_at}
use Rattle.mach_model.proofs.Names.{slice_get_drop}
use Rattle.mach_model.proofs.Grounded.{Where, with_task, nowhere, queued, where_is, unmade}
use Rattle.mach_model.proofs.Midway.{mid_lawful}
use Rattle.mach_model.proofs.Moving.{Apart}
use Rattle.mach_model.proofs.SettledDetermined.{weigh-same}
use Rattle.mach_model.proofs.SettledReceives.{eq_symm}
use Rattle.port.specs.Ports.{PortView, PortsView}
use Rattle.port.specs.declared.Holder.TheVariants as holder
use Rattle.port.specs.Holding.{IsHeldBy}
use Rattle.circularity.specs.Chains.{Leads, here, there, LeadsToAny}
use Rattle.copyin_base.specs.declared.Carried.{Carried}
use Rattle.copyin_base.specs.Kept.{Kept, receive_of}
use Rattle.copyin_base.proofs.Listed.{none_listed, listed_one, listed_later}
use Rattle.copyin_base.proofs.KeptEntries.{receive_right, kept_at, some_at}
use Rattle.copyin_base.specs.Shows.{Shows}
use Rattle.copyin_base.specs.Worlds.{WorldView, port_at}
use Rattle.copyin_base.proofs.Told.{port_got, task_holds}
use Rattle.copyin.specs.Loops.{MakesLoop}
use Rattle.copyin.proofs.Holding.{receive_is}
use Rattle.copyin.proofs.Committing.{kept_carries}

-- ---- The ports whose receive rights are among those of a message, and whether one of these closes a loop.

-- ---- the ports whose receive rights are among some rights

module _ (c : Carried) (cs : List Carried) (p : ℕ) where
  more_moved : (o : Option ℕ) → receive_of c ≡ o → (Contains (filter_map receive_of cs) p → Contains cs (receive_right p)) → Contains (cons_option o (filter_map receive_of cs)) p →
      Contains (c ∷ cs) (receive_right p)
  more_moved None is rest among = listed_later c cs (receive_right p) (rest among)
  more_moved (Some q) is rest among = elim (Contains-append_cases (q ∷ []) (filter_map receive_of cs) p among) [
    | inl own ↦ (zero, omega arith, receive_is c q is ∙ ap receive_right (sym (listed_one q p own)))
    | inr later ↦ listed_later c cs (receive_right p) (rest later)
  ]

  later_port : (o : Option ℕ) → Contains (filter_map receive_of cs) p → Contains (cons_option o (filter_map receive_of cs)) p
  later_port None among = among
  later_port (Some q) among = listed_later q (filter_map receive_of cs) p among

  own_moved : c ≡ receive_right p → Contains (filter_map receive_of (c ∷ cs)) p
  own_moved is = subst (λ (o : Option ℕ). Contains (cons_option o (filter_map receive_of cs)) p) (sym (ap receive_of is)) (zero, omega arith, refl)

port_moved : (rights : List Carried) (p : ℕ) → Contains (filter_map receive_of rights) p → Contains rights (receive_right p)
port_moved [] p among = absurd (none_listed [] refl p among)
port_moved (c ∷ cs) p among = more_moved c cs p (receive_of c) refl (port_moved cs p) among

moved_port : (rights : List Carried) (p : ℕ) → Contains rights (receive_right p) → Contains (filter_map receive_of rights) p
moved_port [] p among = absurd (none_listed [] refl (receive_right p) among)
moved_port (c ∷ cs) p among = elim (Contains-append_cases (c ∷ []) cs (receive_right p) among) [
  | inl own ↦ own_moved c cs p (sym (listed_one c (receive_right p) own))
  | inr later ↦ later_port c cs p (receive_of c) (moved_port cs p later)
]

pub none_moves : (ports : PortsView Kept) (queue : ℕ) (rights : List Carried) → filter_map receive_of rights ≡ [] → ¬ (MakesLoop ports queue rights)
none_moves ports queue rights none l = none_listed (filter_map receive_of rights) none l.port (moved_port rights l.port l.moved)

pub any_moves : (ports : PortsView Kept) (queue : ℕ) (rights : List Carried) (b : Bool) → (IsTrue b ↔ LeadsToAny ports queue (filter_map receive_of rights)) →
    MatchBool b (MakesLoop ports queue rights) (¬ (MakesLoop ports queue rights))
any_moves ports queue rights true both = let c = both.0 refl in record { port = c.0; moved = port_moved rights c.0 c.1; leads = c.2 }
any_moves ports queue rights false both = λ l. let e : false ≡ true = both.1 (l.port, moved_port rights l.port l.moved, l.leads) in cc

pub moved_more : (rights : List Carried) (i : ℕ) (c : Carried) (before after : List ℕ) → i < length rights → c ≡ get_or rights i c → before ≡ filter_map receive_of (take i rights) →
    after ≡ before ++ filter_map receive_of (c ∷ []) → after ≡ filter_map receive_of (take (i + 1) rights)
moved_more rights i c before after below is so more =
    more ∙ ap (λ (ps : List ℕ). ps ++ filter_map receive_of (c ∷ [])) so ∙ sym (filter_map-append receive_of (take i rights) (c ∷ []))
    ∙ ap (filter_map receive_of) (sym (take_more rights i c below ∙ ap (λ (x : Carried). take i rights ++ x ∷ []) (sym is)))

-- ---- all but the ports themselves is of no account

leads_on : (v v2 : PortsView Kept) → v2.ports ≡ v.ports → (a b : ℕ) → Leads v a b → Leads v2 a b
leads_on v v2 same a b (here p) = here p
leads_on v v2 same a b (there p q last held rest) =
    there p q last (record { view = held.view; there = ap (λ (m : map.FinMap nat_cmp (PortView Kept)). map.get m p) same ∙ held.there; holder_is = held.holder_is }) (leads_on v v2 same q last rest)

pub loop_on : (v v2 : PortsView Kept) → v2.ports ≡ v.ports → (destination : ℕ) (rights : List Carried) → MakesLoop v destination rights → MakesLoop v2 destination rights
loop_on v v2 same destination rights l = record { port = l.port; moved = l.moved; leads = leads_on v v2 same destination l.port l.leads }

-- ---- A message that would close a loop, in the tables and in the machine: the way from its destination is the same before and after its rights
-- are copied in, until it comes to a port whose receive right it carries.

-- ---- the holder of a port is where its receive right lies

module _ (w : WorldView) (s : State) (sh : Shows w s) (p : ℕ) (v : PortView Kept) (there_is : port_at w p ≡ Some v) where
  lives : s.live_port p ≡ true
  lives = sym (sh.agrees.live_port p) ∙ ap is_some there_is

  task_has : (t : ℕ) → LiesAt s receive p (in_task t) → 0 < held s t receive p
  task_has t lies = grind (arith, weigh-same, eq_symm)

  by_task : (t : ℕ) → LiesAt s receive p (in_task t) → v.attributes.holder ≡ holder.Task t
  by_task t lies =
      let some = task_has t lies in
      let named = (sh.lawful.naming t).is_named p (omega (arith, some)) in
      task_holds w s sh.agrees sh.holders p v there_is t named.0 named.1 some

  by_queue : (q k : ℕ) → LiesAt s receive p (in_message q k) → v.attributes.holder ≡ holder.QueueOf q
  by_queue q k lies = go (port_got (port_at w q) (sh.agrees.live_port q ∙ live)) (some_at (s.log q) k within)
    where
      live : s.live_port q ≡ true
      live = true_from_ne_false (s.live_port q) (λ dead. let z = sh.lawful.gone q k (inr dead) receive p in omega (arith, z, lies))

      waits : s.taken q ≤ k
      waits = at_least (λ less. let z = sh.lawful.gone q k (inl less) receive p in omega (arith, z, lies))
        where
          at_least : ¬ (k < s.taken q) → s.taken q ≤ k
          at_least not = omega (arith, not)

      within : k < length (s.log q)
      within = below (λ more. let z = sh.lawful.no_entry q k more receive p in omega (arith, z, lies))
        where
          below : ¬ (length (s.log q) ≤ k) → k < length (s.log q)
          below not = omega (arith, not)

      place_is : s.taken q + (k - s.taken q) ≡ k
      place_is = let a = waits in omega (arith, a)

      go : (u : PortView Kept) × (port_at w q ≡ Some u) → (e : Entry) × (slice_get (s.log q) k ≡ Some e) → v.attributes.holder ≡ holder.QueueOf q
      go (u, at) (e, is) =
          let in_queue : slice_get (queue s q) (k - s.taken q) ≡ Some e = slice_get_drop (s.taken q) (s.log q) (k - s.taken q) ∙ ap (slice_get (s.log q)) place_is ∙ is in
          let counted = sh.lawful.carried q (k - s.taken q) e live in_queue receive p lives in
          let lying_there : 0 < lying s receive p (in_message q (s.taken q + (k - s.taken q))) = subst (λ (n : ℕ). 0 < lying s receive p (in_message q n)) (sym place_is) lies in
          let m = kept_at q u.queue (queue s q) (k - s.taken q) e (sh.agrees.ports q u at).waiting in_queue in
          sh.carriers.carried q u m.0 p at m.1 (kept_carries q m.0 e.message m.2 p (omega (arith, counted, lying_there))) v there_is

  -- a port that a queue holds lies there
  pub lies_queued : (q : ℕ) → v.attributes.holder ≡ holder.QueueOf q → (k : ℕ) × LiesAt s receive p (in_message q k)
  lies_queued q is = go (where_is s [] p (mid_lawful s sh.lawful) lives)
    where
      go : Where s p → (k : ℕ) × LiesAt s receive p (in_message q k)
      go (with_task t lies) = absurd (let e : holder.Task t ≡ holder.QueueOf q = sym (by_task t lies) ∙ is in cc)
      go (nowhere orphan) = absurd (let one = sh.lawful.one_receive p lives in let none = orphan.1 in omega (arith, one, none))
      go (queued r k lies) =
          let e : holder.QueueOf r ≡ holder.QueueOf q = sym (by_queue r k lies) ∙ is in
          let same : r ≡ q = cc in
          (k, subst (λ (x : ℕ). LiesAt s receive p (in_message x k)) same lies)

-- ---- one step more

leads_more : (v : PortsView Kept) (a b c : ℕ) → Leads v a b → IsHeldBy v b (holder.QueueOf c) → Leads v a c
leads_more v a b c (Leads.here p) held = Leads.there p c c held (Leads.here c)
leads_more v a b c (Leads.there p q last by rest) held = Leads.there p q c by (leads_more v q last c rest held)

reaches_more : (s : State) (a b c : ℕ) → Reaches s a b → CarriedAt s b c → Reaches s a c
reaches_more s a b c (Reaches.here p) d = Reaches.there p c c d (Reaches.here c)
reaches_more s a b c (Reaches.there p q last e rest) d = Reaches.there p q c e (reaches_more s q last c rest d)

-- ---- the two ways

-- t is the state in which the rights of a message to o were copied in, among them just these receive rights, which lie at its place.
module _ (w : WorldView) (s : State) (sh : Shows w s) (t : State) (o : ℕ) (rights : List Carried) (apart : Apart s t o (length (s.log o)))
    (own : (p : ℕ) → LiesAt t receive p (place_at s o) ↔ Contains rights (receive_right p)) where
  queue_holds : (p q k : ℕ) → LiesAt s receive p (in_message q k) → IsHeldBy w.ports p (holder.QueueOf q)
  queue_holds p q k lies = grind (arith, true_from_ne_false, unmade, port_got, by_queue)

  -- A port that the way of the machine comes to has its receive right in the message, or in the queue that the tables tell.
  next : (p q k : ℕ) → LiesAt t receive p (in_message q k) → Leads w.ports o p → (IsHeldBy w.ports p (holder.QueueOf q) → MakesLoop w.ports o rights) → MakesLoop w.ports o rights
  next p q k at lead go_on = grind (arith, queue_holds)

  follow : (a b : ℕ) → Reaches t a b → Leads w.ports o a → LiesAt t receive b (place_at s o) → MakesLoop w.ports o rights
  follow a b (Reaches.here p) lead lies = record { port = p; moved = (own p).0 lies; leads = lead }
  follow a b (Reaches.there p q last (k, at) rest) lead lies = next p q k at lead (λ held. follow q last rest (leads_more w.ports o p q lead held) lies)

  -- The way of the tables is one of the machine.
  still_lies : (p q : ℕ) → IsHeldBy w.ports p (holder.QueueOf q) → CarriedAt t p q
  still_lies p q held = grind (arith, lies_queued w s sh p held.view held.there q held.holder_is)

  go_along : (a b : ℕ) → Leads w.ports a b → Reaches t o a → Contains rights (receive_right b) → ClosesLoop t o (place_at s o)
  go_along a b (Leads.here p) reach moved = (p, (own p).1 moved, reach)
  go_along a b (Leads.there p q last held rest) reach moved = go_along q last rest (reaches_more t o p q reach (still_lies p q held)) moved

  pub closed : ClosesLoop t o (place_at s o) → MakesLoop w.ports o rights
  closed c = follow o c.0 c.2 (Leads.here o) c.1

  pub closes : MakesLoop w.ports o rights → ClosesLoop t o (place_at s o)
  closes l = go_along o l.port l.leads (Reaches.here o) l.moved
