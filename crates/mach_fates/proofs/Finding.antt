-- The port from which a step took a message.
use Rattle.std.proofs.Common.{◌≡◌, ◌≢◌, ℕ, ◌+◌, ◌<◌, true, false, List, length, Option, Some, None, inl, inr, arith, refl, sym, ap, subst, ◌∙◌}
use Rattle.std.specs.Option.{option_map, option_and_then, option_or}
use Rattle.std.proofs.lemmas.Option.{slice_get_within}
use Rattle.std.proofs.lemmas.Bool.Decides.{eqb_tells}
use Rattle.mach_types.specs.declared.calls.Event.{Event}
use Rattle.mach_types.specs.declared.calls.Reply.{Reply}
use Rattle.mach_types.specs.declared.calls.Waited.{Waited}
use Rattle.mach_types.specs.Messages.{Entry}
use Rattle.mach_model.specs.State.{State, Target, lookup}
use Rattle.mach_model.specs.Lawful.{IsLawful}
use Rattle.mach_model.specs.Receive.{IsFront}
use Rattle.mach_model.proofs.StepLawful.{TakesFrom-live}
use Rattle.mach_laws.specs.Received.{AsksFrom, Delivers}
use Rattle.mach_laws.specs.Delivered.{DestroysTooLong}
use Rattle.name_space.specs.declared.Entry.{Entry as Named}
use Rattle.name_space.specs.declared.Entry.TheVariants as named
use Rattle.name_space.specs.Entry.{port_named}
use Rattle.copyin_base.specs.Shows.{Shows, target_of}
use Rattle.copyin_base.specs.Worlds.{WorldView, entry_at}
use Rattle.kernel_core.specs.InTurn.{source_of, TakesByTurn}
use Rattle.kernel_core.specs.Receive.{waited_at, TakesOne}
use Rattle.mach_follow.specs.Replaying.{IsTooLong}
use Rattle.mach_fates.specs.Sources.{source_named, source_waited, source_too_long, source_before, IsNamedIn, IsNamedBy, IsSourceAfter}
use Rattle.mach_fates.specs.Stepping.{TakesNone, TakesBy}

-- This is the port from which the step took its front message; there is none where it took none.
pub record IsSource (s t : State) (source : Option ℕ) : Type 0 where
  pub taken : (p : ℕ) → source ≡ Some p → (s.taken p < length (s.log p)) × (t.taken p ≡ s.taken p + 1) × (s.live_port p ≡ true)
  pub others : (p : ℕ) → (source ≡ Some p → ⊥) → t.taken p ≡ s.taken p

same_some : (p q : ℕ) → Some p ≡ Some q → p ≡ q
same_some p q e = cc

no_port : (p : ℕ) → None ≡ Some p → ⊥
no_port p e = cc

pub source_none : (s t : State) → TakesNone s t → IsSource s t None
source_none s t none = record { taken = λ p e. absurd (no_port p e); others = λ p e. none p }

source_one : (s t : State) (p : ℕ) (e : Entry) → IsFront s p e → t.taken p ≡ s.taken p + 1 → s.live_port p ≡ true → ((q : ℕ) → q ≢ p → t.taken q ≡ s.taken q) → IsSource s t (Some p)
source_one s t p e front goes live others = record {
  taken = λ q is. subst (λ (x : ℕ). (s.taken x < length (s.log x)) × (t.taken x ≡ s.taken x + 1) × (s.live_port x ≡ true)) (same_some p q is) (slice_get_within (s.log p) (s.taken p) e front, goes, live);
  others = λ q apart. others q (λ e. apart (ap Some (sym e)));
}

-- ---- what stands under a name

port_target : (o : Option Named) (p : ℕ) → option_map target_of o ≡ Some (Target.port p) → option_and_then port_named o ≡ Some p
port_target None p e = absurd (cc)
port_target (Some (named.Receive q)) p e = cc
port_target (Some (named.Send q n)) p e = cc
port_target (Some (named.ReceiveAndSend q n)) p e = cc
port_target (Some (named.SendOnce q)) p e = absurd (cc)
port_target (Some (named.DeadName n)) p e = absurd (cc)
port_target (Some (named.Set set)) p e = absurd (cc)

named_source : (w : WorldView) (o : Option Named) (p : ℕ) → option_and_then (source_of w) (option_and_then waited_at o) ≡ Some p → source_named w o ≡ Some p
named_source w None p e = absurd (cc)
named_source w (Some (named.Receive q)) p e = e
named_source w (Some (named.ReceiveAndSend q n)) p e = e
named_source w (Some (named.Set set)) p e = e
named_source w (Some (named.Send q n)) p e = absurd (cc)
named_source w (Some (named.SendOnce q)) p e = absurd (cc)
named_source w (Some (named.DeadName n)) p e = absurd (cc)

waited_source : (w : WorldView) (waited : Waited) → source_waited w waited ≡ source_of w waited
waited_source w (Waited.Port p) = refl
waited_source w (Waited.Set set) = refl

-- ---- a message that is received

received_here : (w : WorldView) (s t : State) (event : Event) (bytes : List ℕ) (task : ℕ) → IsLawful s → Shows w t → (d : Delivers event bytes s t) → d.task ≡ task → s.live_port d.port ≡ true →
    (b : Option ℕ) → IsNamedIn w task bytes b → IsSource s t b
received_here w s t event bytes task l shown d same live b is =
    let named : lookup t d.task d.means.header.local ≡ Some (Target.port d.e.message.destination) = d.means.local in
    let here : d.e.message.destination ≡ d.port = (l.sent_here d.port (s.taken d.port) d.e d.front).0 in
    let target : option_map target_of (entry_at w task d.means.header.local) ≡ Some (Target.port d.port) =
    sym (shown.agrees.naming task d.means.header.local) ∙ subst (λ (x : ℕ). lookup t x d.means.header.local ≡ Some (Target.port d.e.message.destination)) same named ∙ ap (λ (x : ℕ). Some (Target.port x)) here in
    let found : b ≡ Some d.port = is d.means.header d.means.written d.means.spells ∙ port_target (entry_at w task d.means.header.local) d.port target in
    subst (IsSource s t) (sym found) (source_one s t d.port d.e d.front d.taken live d.others)

received_source : (w : WorldView) (s t : State) (event : Event) (bytes : List ℕ) → IsLawful s → Shows w t → (d : Delivers event bytes s t) → AsksFrom s event d.task d.port →
    (b : Option ℕ) → IsNamedBy w event bytes b → IsSource s t b
received_source w s t (Event.Receive task name room large) bytes l shown d (same, waited, waits, takes) b is =
    received_here w s t (Event.Receive task name room large) bytes task l shown d (sym same) (TakesFrom-live s l d.task waited d.port takes) b is
received_source w s t (Event.ReceiveAgain task waited room large) bytes l shown d (same, takes) b is =
    received_here w s t (Event.ReceiveAgain task waited room large) bytes task l shown d (sym same) (TakesFrom-live s l d.task waited d.port takes) b is
received_source w s t event bytes l shown d asks b is = absurd asks

-- ---- a message that is destroyed as too long

-- where one message is taken, of this port, and this is a port of which one is taken, they are the same
one_taken : (s t : State) (p q : ℕ) → TakesOne s t p → t.taken q ≡ s.taken q + 1 → p ≡ q
one_taken s t p q one next = elim (eqb_tells p q) [
  | inl h ↦ h.1
  | inr h ↦ absurd (let same = one.others q (λ e. h.1 (sym e)) in omega (arith, same, next))
]

destroyed_here : (event : Event) (n : ℕ) (s t : State) (d : DestroysTooLong event n s t) → s.live_port d.port ≡ true → (p : ℕ) → TakesOne s t p → (a : Option ℕ) → a ≡ Some p → IsSource s t a
destroyed_here event n s t d live p one a is =
    let here : p ≡ d.port = one_taken s t p d.port one d.taken in
    subst (IsSource s t) (sym (is ∙ ap Some here)) (source_one s t d.port d.e d.front d.taken live d.others)

not_true : false ≡ true → ⊥
not_true e = cc

too_long_source : (w : WorldView) (s t : State) (event : Event) (n : ℕ) → IsLawful s → TakesByTurn w event (Reply.TooLarge n) s t → TakesBy s event (Reply.TooLarge n) t → IsSource s t (source_too_long w event)
too_long_source w s t (Event.Receive caller name room false) n l turn takes =
    let d = takes.0 not_true in
    let x = turn refl in
    destroyed_here (Event.Receive caller name room false) n s t d (TakesFrom-live s l d.task d.asks.1 d.port d.asks.3) x.0 x.2 (source_named w (entry_at w caller name)) (named_source w (entry_at w caller name) x.0 x.1)
too_long_source w s t (Event.ReceiveAgain caller waited room false) n l turn takes =
    let d = takes.0 not_true in
    let x = turn refl in
    destroyed_here (Event.ReceiveAgain caller waited room false) n s t d (TakesFrom-live s l d.task waited d.port d.asks.1) x.0 x.2 (source_waited w waited) (waited_source w waited ∙ x.1)
too_long_source w s t (Event.Receive caller name room true) n l turn takes = source_none s t (takes.1 refl)
too_long_source w s t (Event.ReceiveAgain caller waited room true) n l turn takes = source_none s t (takes.1 refl)
too_long_source w s t event n l turn takes = absurd (let d = takes.0 (λ look. look) in d.asks)

-- ---- any step

both_none : (s t : State) (a b : Option ℕ) → TakesNone s t → a ≡ None → b ≡ None → IsSource s t (option_or a b)
both_none s t a b none no_a no_b = subst (λ (o : Option ℕ). IsSource s t (option_or o b)) (sym no_a) (subst (IsSource s t) (sym no_b) (source_none s t none))

first_alone : (a b : Option ℕ) → b ≡ None → option_or a b ≡ a
first_alone (Some p) b e = refl
first_alone None b e = e

pub find_source : (old new : WorldView) (s t : State) (event : Event) (reply : Reply) → IsLawful s → Shows old s → Shows new t → (IsTooLong reply → TakesByTurn old event reply s t) → TakesBy s event reply t →
    (a b : Option ℕ) → a ≡ source_before old event reply → IsSourceAfter new event reply b → IsSource s t (option_or a b)
find_source old new s t event (Reply.Message bytes) l shown then_shown turn takes a b before after =
    subst (λ (o : Option ℕ). IsSource s t (option_or o b)) (sym before) (received_source new s t event bytes l then_shown takes takes.asks b after)
find_source old new s t event (Reply.TooLarge n) l shown then_shown turn takes a b before after =
    subst (IsSource s t) (sym (first_alone a b after ∙ before)) (too_long_source old s t event n l (turn tt) takes)
find_source old new s t event (Reply.Code code) l shown then_shown turn takes a b before after = both_none s t a b takes.1 before after
find_source old new s t event reply l shown then_shown turn takes a b before after = both_none s t a b takes before after
