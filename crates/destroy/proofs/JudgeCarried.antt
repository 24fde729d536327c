-- Receive rights that a message carries: they are lost, or one is sent away.
use Rattle.std.proofs.Common.{◌≡◌, ℕ, ◌<◌, List, [], ◌∷◌, ◌++◌, Option, Some, None, refl, sym, ap, ◌∙◌, arith, inl, inr, zero, suc, length, ◌+◌, subst, ◌⊎◌, length-append}
use Rattle.std.specs.Prelude.{slice_get, IfSome, IfNone}
use Rattle.std.specs.Option.{option_to_list, option_and_then}
use Rattle.std.specs.FinMap as map
use Rattle.std.specs.Ordering.{nat_cmp}
use Rattle.std.proofs.lemmas.Bool.Decides.{eqb_tells}
use Rattle.mach_types.specs.Numbers.{kind_sent}
use Rattle.mach_types.specs.Tokens.{receive}
use Rattle.mach_types.specs.Messages.{Message}
use Rattle.mach_model.proofs.Names.{pos_or_zero}
use Rattle.mach_model.specs.Carried.{mark_count, rights_count, message_count}
use Rattle.mach_model.proofs.SettledReceives.{less}
use Rattle.mach_model.specs.State.{State}
use Rattle.mach_model.specs.Notices.{Owed, port_sent}
use Rattle.mach_model.specs.Turns.{Ending}
use Rattle.mach_model.proofs.TurnsMade.{kept_right}
use Rattle.port.specs.declared.Holder.{Holder}
use Rattle.port.specs.declared.Holder.TheVariants as holder
use Rattle.port.specs.Holding.{held}
use Rattle.port.specs.Ports.{PortView, with_port}
use Rattle.copyin_base.specs.declared.Carried.{Carried}
use Rattle.copyin_base.specs.Kept.{Kept, Keeps, mark_of, receive_of}
use Rattle.copyin_base.proofs.KeptEntries.{rights_of, message_counted, one_counted, own_counted, moved_is}
use Rattle.copyin_base.specs.Worlds.{WorldView, port_at}
use Rattle.copyin_base.proofs.Gets.{of_some, same_found}
use Rattle.copyin_base.proofs.Putting.{each_put}
use Rattle.copyin_base.specs.declared.Notice.TheVariants.{PortDestroyed}
use Rattle.copyin_base.specs.Leaving.{without_port_destroyed}
use Rattle.copyin_base.specs.Losing.{CanPost, Posts}
use Rattle.destroy.specs.Judging.{receive_right, CarriesAmong, IsQueued, LosesPort, LosesAt, LosesAmong, last_destroyed, CanSend, ResetsPort, HoldsPort, brought}
use Rattle.destroy.specs.Between.{Between}
use Rattle.destroy.specs.Stages.{IsStarted, IsEmptied, Continues}
use Rattle.destroy.proofs.Counting.{count_one}
use Rattle.destroy.proofs.JudgeSent.{can_post, own_after, told_after, others_after, after_is, sent_agrees, sent_slots, sent_between, own, told, after, each}
use Rattle.destroy.proofs.JudgeSaved.{f}

-- ---- Which receive rights a kept message carries, told by the counts of the message that it is.

some_counted : (cs : List Carried) (q : ℕ) → 0 < rights_count receive q (rights_of cs) → (k : ℕ) × (k < length cs) × (slice_get cs k ≡ Some (receive_right q))
some_counted [] q some = absurd (omega (arith, some))
some_counted (c ∷ cs) q some = elim (pos_or_zero (mark_count receive q (kind_sent c.given) (mark_of c.mark))) [
  | inr h ↦ (zero, omega arith, ap Some (one_counted c.given c.mark q h))
  | inl h ↦ let r = some_counted cs q (omega (arith, some, h)) in let below = r.1 in (suc r.0, omega (arith, below), r.2)
]

counted_some : (cs : List Carried) (q k : ℕ) → slice_get cs k ≡ Some (receive_right q) → 0 < rights_count receive q (rights_of cs)
counted_some [] q k is = absurd (let e : None ≡ Some (receive_right q) = is in cc)
counted_some (c ∷ cs) q zero is = let a = own_counted c q (let e : Some c ≡ Some (receive_right q) = is in cc) in omega (arith, a)
counted_some (c ∷ cs) q (suc k) is = let a = counted_some cs q k is in omega (arith, a)

module _ (port : ℕ) (m : Kept) (message : Message) (keeps : Keeps port m message) (q : ℕ) where
  -- the right that it goes by is none
  counted : message_count receive q message ≡ rights_count receive q (rights_of (option_to_list m.reply ++ m.rights))
  counted = grind (arith, message_counted port m message keeps receive q)

  pub counted_carries : 0 < message_count receive q message → CarriesAmong m (length m.rights) q
  counted_carries some = go m.reply refl (let c = counted in omega (arith, c, some))
    where
      go : (o : Option Carried) → m.reply ≡ o → 0 < rights_count receive q (rights_of (option_to_list o ++ m.rights)) → CarriesAmong m (length m.rights) q
      go None is some = inr (some_counted m.rights q some)
      go (Some c) is some = elim (pos_or_zero (mark_count receive q (kind_sent c.given) (mark_of c.mark))) [
        | inr h ↦ inl (is ∙ ap Some (one_counted c.given c.mark q h))
        | inl h ↦ inr (some_counted m.rights q (omega (arith, some, h)))
      ]

  pub carries_counted : CarriesAmong m (length m.rights) q → 0 < message_count receive q message
  carries_counted h = let c = counted in let a = go m.reply refl h in omega (arith, c, a)
    where
      go : (o : Option Carried) → m.reply ≡ o → CarriesAmong m (length m.rights) q → 0 < rights_count receive q (rights_of (option_to_list o ++ m.rights))
      go None is (inl e) = absurd (let f : None ≡ Some (receive_right q) = sym is ∙ e in cc)
      go (Some c) is (inl e) = let a = own_counted c q (let f : Some c ≡ Some (receive_right q) = sym is ∙ e in cc) in omega (arith, a)
      go None is (inr (k, below, e)) = counted_some m.rights q k e
      go (Some c) is (inr (k, below, e)) = let a = counted_some m.rights q k e in omega (arith, a)

-- ---- The receive rights that a message carries are lost one after the other.

-- ---- which right it is

pub receive_is : (o : Option Carried) (p : ℕ) → option_and_then (λ c. receive_of c) o ≡ Some p → o ≡ Some (receive_right p)
receive_is None p e = absurd (cc)
receive_is (Some c) p e = ap Some (moved_is c.given c.mark p e)

is_receive : (o : Option Carried) (p : ℕ) → o ≡ Some (receive_right p) → option_and_then (λ c. receive_of c) o ≡ Some p
is_receive o p e = ap (option_and_then (λ c. receive_of c)) e

-- ---- one more is lost

queued_or : (w : WorldView) (p : ℕ) → IsQueued w p ⊎ ¬ (IsQueued w p)
queued_or w p = go (port_at w p) refl
  where
    by : (v : PortView Kept) → port_at w p ≡ Some v → (h : Holder) → v.attributes.holder ≡ h → IsQueued w p ⊎ ¬ (IsQueued w p)
    by v there (holder.QueueOf q) is = inl (q, record { view = v; there = there; holder_is = is })
    by v there (holder.Task t) is = inr (λ q. let e = ap (λ (x : PortView Kept). x.attributes.holder) (same_found (port_at w p) v q.1.view there q.1.there) in let f : holder.Task t ≡ holder.QueueOf q.0 = sym is ∙ e ∙ q.1.holder_is in cc)
    by v there holder.Nobody is = inr (λ q. let e = ap (λ (x : PortView Kept). x.attributes.holder) (same_found (port_at w p) v q.1.view there q.1.there) in let f : holder.Nobody ≡ holder.QueueOf q.0 = sym is ∙ e ∙ q.1.holder_is in cc)
    by v there holder.Doomed is = inr (λ q. let e = ap (λ (x : PortView Kept). x.attributes.holder) (same_found (port_at w p) v q.1.view there q.1.there) in let f : holder.Doomed ≡ holder.QueueOf q.0 = sym is ∙ e ∙ q.1.holder_is in cc)

    go : (o : Option (PortView Kept)) → port_at w p ≡ o → IsQueued w p ⊎ ¬ (IsQueued w p)
    go (Some v) there = by v there v.attributes.holder refl
    go None none = inr (λ q. let e : None ≡ Some q.1.view = sym none ∙ q.1.there in cc)

pub loses_none : (P : ℕ → Type 0) → ((p : ℕ) → P p → ⊥) → (w : WorldView) → LosesAmong P w w
loses_none P none w = record { rest = refl; each = λ p. inl refl; lost = λ p h. absurd (none p h) }

-- more ports are spoken of in the same way
pub loses_as : (P Q : ℕ → Type 0) (old new : WorldView) → LosesAmong P old new → ((p : ℕ) → P p → Q p) → ((p : ℕ) → Q p → P p) → LosesAmong Q old new
loses_as P Q old new l to from = record { rest = l.rest; each = λ p. each p (l.each p); lost = λ p h. l.lost p (from p h) }
  where
    each : (p : ℕ) → LosesAt P p (port_at old p) (port_at new p) → LosesAt Q p (port_at old p) (port_at new p)
    each p (inl same) = inl same
    each p (inr (v, q, there, is, now, h)) = inr (v, q, there, is, now, to p h)

module _ (P : ℕ → Type 0) (old now : WorldView) (l : LosesAmong P old now) (port : ℕ) (new : WorldView) where
  abbrev More : ℕ → Type 0
  More p = P p ⊎ (p ≡ port)

  more_at : (p : ℕ) → LosesAt P p (port_at old p) (port_at now p) → LosesAt More p (port_at old p) (port_at now p)
  more_at p (inl same) = inl same
  more_at p (inr (v, q, there, is, at, h)) = inr (v, q, there, is, at, inl h)

  -- nothing was lost, since no queue has it
  unchanged : ¬ (IsQueued now port) → new ≡ now → LosesAmong More old new
  unchanged none is = subst (LosesAmong More old) (sym is) record {
    rest = l.rest;
    each = λ p. more_at p (l.each p);
    lost = λ p h. lost p h;
  }
    where
      lost : (p : ℕ) → More p → ¬ (IsQueued now p)
      lost p (inl h) = l.lost p h
      lost p (inr e) = subst (λ (x : ℕ). ¬ (IsQueued now x)) (sym e) none

  changed : (v : PortView Kept) (q : ℕ) → port_at now port ≡ Some v → v.attributes.holder ≡ holder.QueueOf q →
      new ≡ record now { ports = record (with_port now.ports port (held v holder.Nobody)) { lost = new.ports.lost } } → LosesAmong More old new
  changed v q there is rest = record {
    rest = rest ∙ (λ i. record (l.rest i) { ports = record (l.rest i).ports { ports = (sym (ap (λ (w : WorldView). w.ports.ports) rest)) i; ready = (sym (ap (λ (w : WorldView). w.ports.ready) rest)) i; lost = new.ports.lost } });
    each = λ p. subst (λ (x : map.FinMap nat_cmp (PortView Kept)). LosesAt More p (port_at old p) (map.get x p)) (sym ports) (each p);
    lost = λ p h queued. lost queued.0 p h queued.1.view (subst (λ (x : map.FinMap nat_cmp (PortView Kept)). map.get x p ≡ Some queued.1.view) ports queued.1.there) queued.1.holder_is;
  }
    where
      ports : new.ports.ports ≡ map.insert now.ports.ports port (held v holder.Nobody)
      ports = ap (λ (w : WorldView). w.ports.ports) rest

      own : LosesAt P port (port_at old port) (port_at now port) → LosesAt More port (port_at old port) (Some (held v holder.Nobody))
      own (inl same) = inr (v, q, sym same ∙ there, is, refl, inr refl)
      own (inr (u, x, was, at, now_is, h)) = absurd (let e = same_found (port_at now port) (held u holder.Nobody) v now_is there in let f = ap (λ (y : PortView Kept). y.attributes.holder) e in
          let g : holder.Nobody ≡ holder.QueueOf q = f ∙ is in cc)

      each : (p : ℕ) → LosesAt More p (port_at old p) (map.get (map.insert now.ports.ports port (held v holder.Nobody)) p)
      each = each_put now.ports.ports port (Some (held v holder.Nobody)) (λ p o. LosesAt More p (port_at old p) o) (own (l.each port)) (λ p not. more_at p (l.each p))

      lost : (x p : ℕ) → More p → (u : PortView Kept) → map.get (map.insert now.ports.ports port (held v holder.Nobody)) p ≡ Some u → u.attributes.holder ≡ holder.QueueOf x → ⊥
      lost x = each_put now.ports.ports port (Some (held v holder.Nobody)) (λ p o. More p → (u : PortView Kept) → o ≡ Some u → u.attributes.holder ≡ holder.QueueOf x → ⊥)
          (λ h. of_some (held v holder.Nobody) (λ u. u.attributes.holder ≡ holder.QueueOf x → ⊥) (λ e. absurd (let f : holder.Nobody ≡ holder.QueueOf x = e in cc)))
          (λ p not h u at e. other p not h (x, record { view = u; there = at; holder_is = e }))
        where
          other : (p : ℕ) → (p ≡ port → ⊥) → More p → ¬ (IsQueued now p)
          other p not (inl h) = l.lost p h
          other p not (inr e) = absurd (not e)

  pub loses_more : LosesPort now port new → LosesAmong More old new
  loses_more s = elim (queued_or now port) [
    | inl q ↦ changed q.1.view q.0 q.1.there q.1.holder_is (let e = s.loses q.1.view q.0 q.1.there q.1.holder_is in
        e ∙ ap (λ (xs : List ℕ). record now { ports = record (with_port now.ports port (held q.1.view holder.Nobody)) { lost = xs } }) (sym (ap (λ (w : WorldView). w.ports.lost) e)))
    | inr none ↦ unchanged none (s.stays none)
  ]

-- What stands there, if anything does, loses it.
pub loses_any : (P : ℕ → Type 0) (old now new : WorldView) (o : Option ℕ) → LosesAmong P old now → IfSome o (λ p. LosesPort now p new) → IfNone o (new ≡ now) → LosesAmong (λ p. P p ⊎ (o ≡ Some p)) old new
loses_any P old now new None l some none = loses_as P (λ p. P p ⊎ (None ≡ Some p)) old new (subst (LosesAmong P old) (sym none) l) (λ p h. inl h) (λ p. from p)
  where
    from : (p : ℕ) → P p ⊎ (None ≡ Some p) → P p
    from p (inl h) = h
    from p (inr e) = absurd (cc)
loses_any P old now new (Some port) l some none = loses_as (λ p. P p ⊎ (p ≡ port)) (λ p. P p ⊎ (Some port ≡ Some p)) old new (loses_more P old now l port new some) (λ p. to p) (λ p. from p)
  where
    to : (p : ℕ) → P p ⊎ (p ≡ port) → P p ⊎ (Some port ≡ Some p)
    to p (inl h) = inl h
    to p (inr e) = inr (ap Some (sym e))

    from : (p : ℕ) → P p ⊎ (Some port ≡ Some p) → P p ⊎ (p ≡ port)
    from p (inl h) = inl h
    from p (inr e) = inr (same_found (Some port) p port e refl)

-- ---- the message's rights

module _ (m : Kept) (old : WorldView) (last : last_destroyed old ≡ Some m) where
  -- the message is the same all along
  pub still_last : (P : ℕ → Type 0) (now : WorldView) → LosesAmong P old now → last_destroyed now ≡ Some m
  still_last P now l = ap last_destroyed l.rest ∙ last

  pub loses_reply : (new : WorldView) (o : Option ℕ) → o ≡ option_and_then (λ c. receive_of c) m.reply → IfSome o (λ p. LosesPort old p new) → IfNone o (new ≡ old) → LosesAmong (CarriesAmong m 0) old new
  loses_reply new o is some none = loses_as (λ p. ⊥ ⊎ (o ≡ Some p)) (CarriesAmong m 0) old new (loses_any (λ p. ⊥) old old new o (loses_none (λ p. ⊥) (λ p h. h) old) some none) (λ p. to p) (λ p. from p)
    where
      to : (p : ℕ) → ⊥ ⊎ (o ≡ Some p) → CarriesAmong m 0 p
      to p (inl h) = absurd h
      to p (inr e) = inl (receive_is m.reply p (sym is ∙ e))

      from : (p : ℕ) → CarriesAmong m 0 p → ⊥ ⊎ (o ≡ Some p)
      from p (inl e) = inr (is ∙ is_receive m.reply p e)
      from p (inr (k, less, e)) = absurd (omega (arith, less))

  pub loses_next : (k : ℕ) (now new : WorldView) (o : Option ℕ) → o ≡ option_and_then (λ c. receive_of c) (slice_get m.rights k) → LosesAmong (CarriesAmong m k) old now →
      IfSome o (λ p. LosesPort now p new) → IfNone o (new ≡ now) → LosesAmong (CarriesAmong m (k + 1)) old new
  loses_next k now new o is l some none = loses_as (λ p. CarriesAmong m k p ⊎ (o ≡ Some p)) (CarriesAmong m (k + 1)) old new (loses_any (CarriesAmong m k) old now new o l some none) (λ p. to p) (λ p. from p)
    where
      to : (p : ℕ) → CarriesAmong m k p ⊎ (o ≡ Some p) → CarriesAmong m (k + 1) p
      to p (inl (inl e)) = inl e
      to p (inl (inr (j, less, e))) = inr (j, omega (arith, less), e)
      to p (inr e) = inr (k, omega arith, receive_is (slice_get m.rights k) p (sym is ∙ e))

      from : (p : ℕ) → CarriesAmong m (k + 1) p → CarriesAmong m k p ⊎ (o ≡ Some p)
      from p (inl e) = inl (inl e)
      from p (inr (j, under, e)) = elim (eqb_tells j k) [
        | inl h ↦ inr (is ∙ is_receive (slice_get m.rights k) p (subst (λ (x : ℕ). slice_get m.rights x ≡ Some (receive_right p)) h.1 e))
        | inr h ↦ inl (inr (j, (let not = h.1 in less j k (omega (arith, under)) not), e))
      ]

-- ---- A port was sent away: that is a turn, and the tables are again as between two.

module _ (w : WorldView) (p n : ℕ) (c : CanSend w p n) (w1 : WorldView) (posts : Posts w n (PortDestroyed p) w1) (w2 : WorldView) (ends : w2 ≡ without_port_destroyed w1 p)
    (w3 : WorldView) (resets : ResetsPort w2 p w3) (w4 : WorldView) (holds : HoldsPort w3 p n w4) (w5 : WorldView) (is : w5 ≡ record w4 { ledger = brought w4.ledger p }) where
  able : CanPost w n
  able = can_post w p n c

  module _ (now : ℕ) (tables : WorldView) (old mid : State) (owed : Owed) (e : Ending) (b : Between now tables old mid owed e w) (started : IsStarted mid e w) where
    abbrev v : WorldView
    v = after now tables old mid owed e w b p n c.lost c.goes w5.ports.ports w5.ports.ready w5.ports.lost w5.ports.doomed
        (own_after w p n c w1 posts w2 ends w3 resets w4 holds w5 is) (told_after w p n c w1 posts w2 ends w3 resets w4 holds w5 is) (others_after w p n c w1 posts w2 ends w3 resets w4 holds w5 is)

    -- neither of the two ports is doomed
    emptied : IsEmptied v
    emptied = each now tables old mid owed e w b p n c.lost c.goes w5.ports.ports w5.ports.ready w5.ports.lost w5.ports.doomed
        (own_after w p n c w1 posts w2 ends w3 resets w4 holds w5 is) (told_after w p n c w1 posts w2 ends w3 resets w4 holds w5 is) (others_after w p n c w1 posts w2 ends w3 resets w4 holds w5 is)
        (λ q o. (y : PortView Kept) → o ≡ Some y → y.attributes.holder ≡ holder.Doomed → y.queue ≡ [])
        (of_some (own now tables old mid owed e w b p n c.lost c.goes) (λ y. y.attributes.holder ≡ holder.Doomed → y.queue ≡ []) (λ h. absurd (let g : holder.QueueOf n ≡ holder.Doomed = h in cc)))
        (of_some (told now tables old mid owed e w b p n c.lost c.goes) (λ y. y.attributes.holder ≡ holder.Doomed → y.queue ≡ [])
        (λ h. absurd (let g : holder.Task c.goes.with_task.0 ≡ holder.Doomed = sym c.goes.with_task.1.holder_is ∙ h in cc)))
        (λ q not_p not_n y at doomed. started q y at doomed)

    between : Between now tables old mid owed (f now tables old mid owed e w b p n c.lost c.goes) v
    between = sent_between now tables old mid owed e w b p n c.lost c.goes w5.ports.ports w5.ports.ready w5.ports.lost w5.ports.doomed
        (own_after w p n c w1 posts w2 ends w3 resets w4 holds w5 is) (told_after w p n c w1 posts w2 ends w3 resets w4 holds w5 is) (others_after w p n c w1 posts w2 ends w3 resets w4 holds w5 is)
        (sent_agrees now tables old mid owed e w b p n c.lost c.goes able.paid w5.ports.ports w5.ports.ready w5.ports.lost w5.ports.doomed
        (own_after w p n c w1 posts w2 ends w3 resets w4 holds w5 is) (told_after w p n c w1 posts w2 ends w3 resets w4 holds w5 is) (others_after w p n c w1 posts w2 ends w3 resets w4 holds w5 is))
        (sent_slots now tables old mid owed e w b p n c.lost c.goes able.paid w5.ports.ports w5.ports.ready w5.ports.lost w5.ports.doomed
        (own_after w p n c w1 posts w2 ends w3 resets w4 holds w5 is) (told_after w p n c w1 posts w2 ends w3 resets w4 holds w5 is) (others_after w p n c w1 posts w2 ends w3 resets w4 holds w5 is))

  pub sends_continues : Continues IsStarted IsStarted w 1 w5
  sends_continues = subst (λ (x : WorldView). Continues IsStarted IsStarted w 1 x) (sym (after_is w p n c w1 posts w2 ends w3 resets w4 holds w5 is))
      (λ now tables old mid owed e b started. (
        f now tables old mid owed e w b p n c.lost c.goes,
        between now tables old mid owed e b started,
        count_one e.turns _ refl,
        (let a = length-append e.paid ((kept_right n p, port_sent p) ∷ []) in let d = posts.spare in omega (arith, a, d)),
        emptied now tables old mid owed e b started,
      ))
