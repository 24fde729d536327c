-- Which queue holds the receive rights that messages carry, after queues and ports have changed.
use Rattle.std.proofs.Common.{◌≡◌, ℕ, ◌+◌, ◌<◌, ◌≤◌, List, [], ◌∷◌, ◌++◌, Option, Some, None, refl, sym, ap, subst, ◌∙◌, arith, ◌⊎◌, inl, inr}
use Rattle.std.specs.Prelude.{Contains}
use Rattle.std.specs.FinMap as map
use Rattle.std.specs.Ordering.{nat_cmp}
use Rattle.std.proofs.lemmas.List.Elements.{Contains-append_cases}
use Rattle.mach_types.specs.declared.profiles.Profile.{Profile}
use Rattle.member_lists.specs.Lists.{without}
use Rattle.port.specs.declared.Attributes.{Attributes}
use Rattle.port.specs.declared.Holder.{Holder}
use Rattle.port.specs.declared.Holder.TheVariants as by
use Rattle.port.specs.Ports.{PortView, PortsView, sets_in, with_sets}
use Rattle.port_set.specs.Sets.{IsDisbanded}
use Rattle.tables_base.specs.Kept.{Kept}
use Rattle.copyin_base.specs.Changes.{HasAttributes, SetsAttributes, SetsHolder}
use Rattle.copyin_base.specs.Worlds.{WorldView, no_world, port_at}
use Rattle.copyin_base.specs.Shows.{CarriesReceive, CarriersAgree}
use Rattle.copyin_base.proofs.Gets.{of_some, same_found}
use Rattle.copyin_base.proofs.Holders.{KeepHolders, put_holders, disbanded_holders}
use Rattle.copyin_base.proofs.Listed.{is_listed, none_listed, listed_one, listed_later}
use Rattle.copyin_base.proofs.Putting.{each_put, put_other}

abbrev Ports : Type 0
Ports = map.FinMap nat_cmp (PortView Kept)

-- The port is there, and the message is queued at it.
pub record IsQueuedAt (ports : map.FinMap nat_cmp (PortView Kept)) (q : ℕ) (m : Kept) : Type 0 where
  pub v : PortView Kept
  pub there : map.get ports q ≡ Some v
  pub queued : Contains v.queue m

-- Each message that is queued was, at the same port.
abbrev pub KeepQueues : (old new : map.FinMap nat_cmp (PortView Kept)) → Type 0
KeepQueues old new = (q : ℕ) (v : PortView Kept) (m : Kept) → map.get new q ≡ Some v → Contains v.queue m → IsQueuedAt old q m

module _ (ports : map.FinMap nat_cmp (PortView Kept)) where
  pub same_queues : KeepQueues ports ports
  same_queues q v m there queued = record { v = v; there = there; queued = queued }

  -- one port was put, with the messages that it had, or fewer
  pub put_queue : (p : ℕ) (v v2 : PortView Kept) → map.get ports p ≡ Some v → ((m : Kept) → Contains v2.queue m → Contains v.queue m) → KeepQueues ports (map.insert ports p v2)
  put_queue p v v2 there fewer q x m at queued = each_put ports p (Some v2) (λ q o. (x : PortView Kept) → o ≡ Some x → Contains x.queue m → IsQueuedAt ports q m)
      (of_some v2 (λ x. Contains x.queue m → IsQueuedAt ports p m) (λ c. record { v = v; there = there; queued = fewer m c }))
      (λ q not x is c. record { v = x; there = is; queued = c }) q x at queued

-- the members of a set have left it
pub disbanded_queues : (old new : PortsView Kept) (set : ℕ) → IsDisbanded old new set → KeepQueues old.ports new.ports
disbanded_queues old new set d q v m is queued = go (map.get old.ports q) refl
  where
    was : (x : PortView Kept) → map.get old.ports q ≡ Some x → (now : PortView Kept) → map.get new.ports q ≡ Some now → now.queue ≡ x.queue → IsQueuedAt old.ports q m
    was x at now there same = record {
      v = x;
      there = at;
      queued = subst (λ (ms : List Kept). Contains ms m) (ap (λ (y : PortView Kept). y.queue) (same_found (map.get new.ports q) v now is there) ∙ same) queued;
    }

    member : (x : PortView Kept) → map.get old.ports q ≡ Some x → Contains (sets_in x) set ⊎ (Contains (sets_in x) set → ⊥) → IsQueuedAt old.ports q m
    member x at (inl e) = was x at (with_sets x (without set (sets_in x))) (d.members q x at e) refl
    member x at (inr not) = was x at x (d.others q x at not) refl

    go : (o : Option (PortView Kept)) → map.get old.ports q ≡ o → IsQueuedAt old.ports q m
    go None at = absurd (let e : None ≡ Some v = sym (d.gone q at) ∙ is in cc)
    go (Some x) at = member x at (is_listed (sets_in x) set)

-- ---- in the tables

pub carriers_none : (profile : Profile) → CarriersAgree (no_world profile)
carriers_none profile = record {
  given = λ q u m p is. absurd (let none : None ≡ Some u = sym (map.get-empty nat_cmp q) ∙ is in cc);
  carried = λ q u m p is. absurd (let none : None ≡ Some u = sym (map.get-empty nat_cmp q) ∙ is in cc);
}

-- Some port's queue carries the port's receive right.
pub record IsCarried (w : WorldView) (q p : ℕ) : Type 0 where
  pub u : PortView Kept
  pub there : port_at w q ≡ Some u
  pub message : Kept
  pub queued : Contains u.queue message
  pub carries : CarriesReceive message p

module _ (w w2 : WorldView) (a : CarriersAgree w) where
  -- No message was queued, and no port's holder changed.
  pub carriers_stay : w.ports.made ≤ w2.ports.made → KeepQueues w.ports.ports w2.ports.ports → KeepHolders w.ports.ports w2.ports.ports → CarriersAgree w2
  carriers_stay made queues holders = record {
    given = λ q u m p is queued carries. let i = queues q u m is queued in let less = a.given q i.v m p i.there i.queued carries in omega (arith, less, made);
    carried = λ q u m p is queued carries v there.
        let i = queues q u m is queued in
        let h = holders p v there in
        sym h.is ∙ a.carried q i.v m p i.there i.queued carries h.v h.there;
  }

  -- No port changed.
  pub carriers_same : w2.ports.made ≡ w.ports.made → w2.ports.ports ≡ w.ports.ports → CarriersAgree w2
  carriers_same made ports = grind (arith, carriers_stay, same_queues)

  -- One port was put, with the messages that it had, or fewer, and with its holder.
  pub carriers_fewer : (p : ℕ) (v v2 : PortView Kept) → port_at w p ≡ Some v → w2.ports.made ≡ w.ports.made → w2.ports.ports ≡ map.insert w.ports.ports p v2 →
      ((m : Kept) → Contains v2.queue m → Contains v.queue m) → v2.attributes.holder ≡ v.attributes.holder → CarriersAgree w2
  carriers_fewer p v v2 there made ports fewer holder = carriers_stay (omega (arith, made))
      (subst (λ (x : map.FinMap nat_cmp (PortView Kept)). KeepQueues w.ports.ports x) (sym ports) (put_queue w.ports.ports p v v2 there fewer))
      (subst (λ (x : map.FinMap nat_cmp (PortView Kept)). KeepHolders w.ports.ports x) (sym ports) (put_holders w.ports.ports p v v2 there holder))

  -- ... as where the front message was taken
  pub carriers_taken : (p : ℕ) (v v2 : PortView Kept) (front : Kept) → port_at w p ≡ Some v → w2.ports.made ≡ w.ports.made → w2.ports.ports ≡ map.insert w.ports.ports p v2 →
      v.queue ≡ front ∷ v2.queue → v2.attributes.holder ≡ v.attributes.holder → CarriersAgree w2
  carriers_taken p v v2 front there made ports queue holder = carriers_fewer p v v2 there made ports
      (λ m c. subst (λ (xs : List Kept). Contains xs m) (sym queue) (listed_later front v2.queue m c)) holder

  -- A message more is queued; each port whose receive right it carries was made, and knows that the queue holds it.
  pub carriers_queued : (p : ℕ) (v v2 : PortView Kept) (m : Kept) → port_at w p ≡ Some v → w2.ports.made ≡ w.ports.made → w2.ports.ports ≡ map.insert w.ports.ports p v2 →
      v2.queue ≡ v.queue ++ m ∷ [] → v2.attributes.holder ≡ v.attributes.holder →
      ((q : ℕ) → CarriesReceive m q → (q < w.ports.made) × ((x : PortView Kept) → port_at w q ≡ Some x → x.attributes.holder ≡ by.QueueOf p)) → CarriersAgree w2
  carriers_queued p v v2 m there made ports queue holder knows = record {
    given = λ q u n x is queued carries. subst (λ (k : ℕ). x < k) (sym made) (tells q u n is queued x carries).0;
    carried = λ q u n x is queued carries y at. let h = holders x y at in sym h.is ∙ (tells q u n is queued x carries).1 h.v h.there;
  }
    where
      holders : KeepHolders w.ports.ports w2.ports.ports
      holders = subst (λ (x : map.FinMap nat_cmp (PortView Kept)). KeepHolders w.ports.ports x) (sym ports) (put_holders w.ports.ports p v v2 there holder)

      Tells : ℕ → Kept → Type 0
      Tells q n = (x : ℕ) → CarriesReceive n x → (x < w.ports.made) × ((y : PortView Kept) → port_at w x ≡ Some y → y.attributes.holder ≡ by.QueueOf q)

      before : (q : ℕ) (u : PortView Kept) (n : Kept) → port_at w q ≡ Some u → Contains u.queue n → Tells q n
      before q u n is queued x carries = (a.given q u n x is queued carries, a.carried q u n x is queued carries)

      own : (n : Kept) → Contains v2.queue n → Tells p n
      own n queued = elim (Contains-append_cases v.queue (m ∷ []) n (subst (λ (xs : List Kept). Contains xs n) queue queued)) [
        | inl c ↦ before p v n there c
        | inr c ↦ λ x carries. knows x (subst (λ (y : Kept). CarriesReceive y x) (listed_one m n c) carries)
      ]

      tells : (q : ℕ) (u : PortView Kept) (n : Kept) → port_at w2 q ≡ Some u → Contains u.queue n → Tells q n
      tells q u n is queued = each_put w.ports.ports p (Some v2) (λ k o. (y : PortView Kept) → o ≡ Some y → Contains y.queue n → Tells k n)
          (of_some v2 (λ y. Contains y.queue n → Tells p n) (own n)) (λ k not y at c. before k y n at c) q u (subst (λ (x : map.FinMap nat_cmp (PortView Kept)). map.get x q ≡ Some u) ports is) queued

  -- A port was made: no message carries a right for it.
  pub carriers_made : (v : PortView Kept) → w2.ports.made ≡ w.ports.made + 1 → w2.ports.ports ≡ map.insert w.ports.ports w.ports.made v → v.queue ≡ [] → CarriersAgree w2
  carriers_made v made ports empty = record {
    given = λ q u m p is queued carries. let i = queues q u m is queued in let less = a.given q i.v m p i.there i.queued carries in omega (arith, less, made);
    carried = λ q u m p is queued carries x there.
        let i = queues q u m is queued in
        let less = a.given q i.v m p i.there i.queued carries in
        a.carried q i.v m p i.there i.queued carries x
        (sym (put_other w.ports.ports w.ports.made (Some v) p (λ e. omega (arith, less, e))) ∙ subst (λ (k : map.FinMap nat_cmp (PortView Kept)). map.get k p ≡ Some x) ports there);
  }
    where
      queues : KeepQueues w.ports.ports w2.ports.ports
      queues q u m is queued = each_put w.ports.ports w.ports.made (Some v) (λ k o. (y : PortView Kept) → o ≡ Some y → Contains y.queue m → IsQueuedAt w.ports.ports k m)
          (of_some v (λ y. Contains y.queue m → IsQueuedAt w.ports.ports w.ports.made m) (λ c. absurd (none_listed v.queue empty m c)))
          (λ k not y at c. record { v = y; there = at; queued = c }) q u (subst (λ (x : map.FinMap nat_cmp (PortView Kept)). map.get x q ≡ Some u) ports is) queued

  -- One port's holder was set, where no queue carries its receive right but that which holds it.
  pub carriers_held : (p : ℕ) (holder : Holder) → SetsHolder w p holder w2 → ((q : ℕ) → IsCarried w q p → holder ≡ by.QueueOf q) → CarriersAgree w2
  carriers_held p holder set only = subst CarriersAgree (sym set.rest) record {
    given = λ q u m x is queued carries. let i = queues q u m is queued in a.given q i.v m x i.there i.queued carries;
    carried = λ q u m x is queued carries y there.
        let i = queues q u m is queued in
        each_put w.ports.ports p (Some v2) (λ k o. CarriesReceive m k → (z : PortView Kept) → o ≡ Some z → z.attributes.holder ≡ by.QueueOf q)
        (λ c. of_some v2 (λ z. z.attributes.holder ≡ by.QueueOf q) (only q (record { u = i.v; there = i.there; message = m; queued = i.queued; carries = c })))
        (λ k not c z at. a.carried q i.v m k i.there i.queued c z at) x carries y there;
  }
    where
      v2 : PortView Kept
      v2 = record set.v { attributes = record set.v.attributes { holder = holder } }

      queues : KeepQueues w.ports.ports (map.insert w.ports.ports p v2)
      queues = put_queue w.ports.ports p set.v v2 set.there (λ m c. c)

  -- Attributes were set, but for the holder.
  pub carriers_kept : (p : ℕ) (x y : Attributes) → HasAttributes w p x → SetsAttributes w p y w2 → y.holder ≡ x.holder → CarriersAgree w2
  carriers_kept p x y has set same = carriers_fewer p set.v (record set.v { attributes = y }) set.there (ap (λ (z : WorldView). z.ports.made) set.rest) (ap (λ (z : WorldView). z.ports.ports) set.rest) (λ m c. c)
      (same ∙ sym (ap (λ (z : Attributes). z.holder) has.are) ∙ ap (λ (v : PortView Kept). v.attributes.holder) (same_found (port_at w p) has.v set.v has.there set.there))

  -- The members of a set are in none now.
  pub carriers_disbanded : (set : ℕ) → IsDisbanded w.ports w2.ports set → CarriersAgree w2
  carriers_disbanded set d = carriers_stay (let made = d.made in omega (arith, made)) (disbanded_queues w.ports w2.ports set d) (disbanded_holders w.ports w2.ports set d)
