-- A port that dies alone by the tables does so in each state that they show midway.
use Rattle.std.proofs.Common.{◌≡◌, ℕ, ◌<◌, ◌^◌, List, [], ◌∷◌, Option, Some, None, refl, sym, ap, subst, ◌∙◌, arith, true, false, Bool, length, is_some}
use Rattle.std.specs.Prelude.{if◌then◌else◌, nat_lt}
use Rattle.std.specs.FinMap as map
use Rattle.std.specs.Option.{option_map}
use Rattle.std.proofs.lemmas.Bool.{ltb-true}
use Rattle.mach_types.specs.Tokens.{Kind, Request, no_senders, port_destroyed, dead_name, in_request}
use Rattle.mach_model.specs.State.{State, lookup, queue}
use Rattle.mach_model.specs.Carried.{lying}
use Rattle.mach_model.specs.Lawful.{IsLawful}
use Rattle.mach_model.specs.Turns.{IsNameOf, IsRequestOf}
use Rattle.mach_laws.proofs.LoneDeath.{LosesRight, IsLone, one_orphan, same_sent}
use Rattle.name_space.specs.declared.Entry.{Entry as Named}
use Rattle.name_space.specs.declared.Entry.TheVariants as named
use Rattle.name_space.specs.Entry.{port_of}
use Rattle.port.specs.Ports.{PortView}
use Rattle.request_table.specs.declared.Request.{Request as NameRequest}
use Rattle.request_table.specs.Requests.{name_key}
use Rattle.copyin_base.specs.Kept.{Kept}
use Rattle.copyin_base.specs.Requests.{notify_of, rights_kept, rights_went}
use Rattle.copyin_base.specs.Shows.{Agrees, RequestsStand, target_of}
use Rattle.copyin_base.specs.Worlds.{WorldView, entry_at, port_at}
use Rattle.copyin_base.proofs.Requesting.{same_key}
use Rattle.copyin.proofs.Sent.{all_kept_length}
use Rattle.kernel_change.specs.Changing.{DiesAlone}

-- ---- no right lies with a request that doesn't stand

none_by : (live : ℕ → Bool) (o : Option ℕ) (kind : Kind) (q : ℕ) → is_some o ≡ false → rights_kept live o kind q ≡ 0
none_by live None kind q e = refl
none_by live (Some n) kind q e = absurd (cc)

pub none_kept : (w : WorldView) (mid : State) → Agrees w mid → w.requests.names.went ≡ [] → (r : Request) → mid.stands r ≡ false → (kind : Kind) (q : ℕ) → lying mid kind q (in_request r) ≡ 0
none_kept w mid a no_went r gone kind q =
    let kept = a.kept r kind q in
    let none = none_by mid.live_port (notify_of w.requests r) kind q (sym (a.standing r) ∙ gone) in
    let went : rights_went mid.live_port w.requests.names.went r kind q ≡ 0 = rw no_went refl in
    omega (arith, kept, none, went)

-- ---- the port

none_long : {A : Type 0} (xs : List A) → length xs ≡ 0 → xs ≡ []
none_long [] e = refl
none_long (x ∷ xs) e = absurd (omega arith)

some_not : {A : Type 0} (o : Option A) → o ≡ None → is_some o ≡ true → ⊥
some_not None e f = absurd (cc)
some_not (Some x) e f = absurd (cc)

-- a name stands for the port of its entry
named_for : (e : Named) (p q : ℕ) → IsNameOf p (Some (target_of e)) → port_of e ≡ Some q → q ≡ p
named_for (named.Receive x) p q is f = grind arith
named_for (named.Send x n) p q is f = grind arith
named_for (named.ReceiveAndSend x n) p q is f = grind arith
named_for (named.SendOnce x) p q is f = grind arith
named_for (named.DeadName n) p q is f = absurd is
named_for (named.Set set) p q is f = absurd is

module _ (w : WorldView) (mid : State) (p : ℕ) (a : Agrees w mid) (requested : RequestsStand w) (alone : DiesAlone w p) where
  unqueued : mid.live_port p ≡ true → queue mid p ≡ []
  unqueued lives = go (port_at w p) refl
    where
      go : (o : Option (PortView Kept)) → port_at w p ≡ o → queue mid p ≡ []
      go None is = absurd (some_not (port_at w p) is (a.live_port p ∙ lives))
      go (Some v) is =
          let k = all_kept_length p v.queue (queue mid p) (a.ports p v is).waiting in
          let n = alone.unqueued v is in
          none_long (queue mid p) (omega (arith, k, n))

  on_name : (task name : ℕ) → IsNameOf p (lookup mid task name) → (r : NameRequest) → name < 2 ^ 32 → map.get w.requests.names.requests (name_key task name) ≡ Some r → ⊥
  on_name task name own r small is =
      let on = requested.on_names (name_key task name) r is in
      let same = same_key r.task r.name task name on.small small on.own in
      let t = same.0 in
      let n = same.1 in
      let found : entry_at w task name ≡ Some on.entry = subst (λ (x : ℕ). entry_at w x name ≡ Some on.entry) t (subst (λ (x : ℕ). entry_at w r.task x ≡ Some on.entry) n on.found) in
      let target : lookup mid task name ≡ Some (target_of on.entry) = a.naming task name ∙ ap (option_map target_of) found in
      alone.unasked.on_names.apart (name_key task name) r is (named_for on.entry p r.port (subst (IsNameOf p) target own) on.for_port)

  unasked : (r : Request) → mid.stands r ≡ true → IsRequestOf mid p r → ⊥
  unasked (no_senders q) stands own = some_not (map.get w.requests.no_senders.map q) (ap (λ (x : ℕ). map.get w.requests.no_senders.map x) own ∙ alone.unasked.no_senders) (sym (a.standing (no_senders q)) ∙ stands)
  unasked (port_destroyed q) stands own =
      some_not (map.get w.requests.port_destroyed.map q) (ap (λ (x : ℕ). map.get w.requests.port_destroyed.map x) own ∙ alone.unasked.port_destroyed) (sym (a.standing (port_destroyed q)) ∙ stands)
  unasked (dead_name task name) stands own = go (nat_lt name (2 ^ 32)) (map.get w.requests.names.requests (name_key task name)) refl refl (sym (a.standing (dead_name task name)) ∙ stands)
    where
      go : (b : Bool) (o : Option NameRequest) → nat_lt name (2 ^ 32) ≡ b → map.get w.requests.names.requests (name_key task name) ≡ o → is_some (if b then option_map (λ (r : NameRequest). r.notify) o else None) ≡ true → ⊥
      go true (Some r) small is some = on_name task name own r (ltb-true name (2 ^ 32) small) is
      go true None small is some = absurd (cc)
      go false o small is some = absurd (cc)

  pub is_lone : (s : State) → IsLawful s → LosesRight p s mid → IsLone p s mid
  is_lone s l loses = record {
    orphans = one_orphan p s mid loses.rights l;
    unqueued = unqueued;
    unasked = unasked;
    kept = none_kept w mid a alone.went;
    sent = same_sent p s mid loses.rights;
  }
