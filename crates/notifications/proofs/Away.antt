-- One request goes, or comes: the requests that the tables keep, and those of the machine, still agree.
use Rattle.std.proofs.Common.{arith, ◌≡◌, ℕ, ◌+◌, ◌<◌, ◌^◌, Bool, true, false, List, [], ◌∷◌, Option, Some, None, refl, sym, ap, subst, ◌∙◌}
use Rattle.std.specs.Prelude.{is_some, if◌then◌else◌, ◌==◌, nat_lt}
use Rattle.std.specs.Option.{option_map}
use Rattle.std.specs.FinMap as map
use Rattle.std.proofs.lemmas.Bool.{eq-eqb, lt-ltb, ltb-true}
use Rattle.mach_types.specs.Tokens.{Kind, Request, no_senders, port_destroyed, dead_name, in_request, Token}
use Rattle.mach_model.specs.State.{same_request, request_at}
use Rattle.mach_model.specs.Carried.{lying_among}
use Rattle.mach_model.proofs.Names.{removed_own}
use Rattle.mach_model.proofs.Lost.{same_request_is}
use Rattle.number_map.specs.Maps.{MapView}
use Rattle.request_table.specs.declared.Request.{Request as NameRequest}
use Rattle.request_table.specs.Requests.{RequestsView, name_key, key_of}
use Rattle.request_table.specs.Tables.{RequestTablesView}
use Rattle.copyin_base.specs.Requests.{notify_of, rights_kept, rights_went, AreEnded, RequestsAgree}
use Rattle.copyin_base.specs.Asking.{taken_at}
use Rattle.copyin_base.proofs.Putting.{get_removed, put_own, put_other}
use Rattle.copyin_base.proofs.Requesting.{same_key}
use Rattle.notifications.specs.declared.request.Subject.{Subject}
use Rattle.notifications.specs.declared.request.Subject.TheVariants.{Receive, Senders, Live, Dead}
use Rattle.notifications.specs.Requesting.{request_of}
use Rattle.notifications.specs.Putting.{name_taken, taken_away, with_kept}

-- ---- requests whose names went

-- None of these is the request.
abbrev pub AreOthers : Request → List NameRequest → Type 0
AreOthers r [] = Unit {0}
AreOthers r (q ∷ went) = (same_request (dead_name q.task q.name) r ≡ false) × AreOthers r went

pub ended_others : (stands : Request → Bool) (r : Request) (now : Bool) (went : List NameRequest) → AreOthers r went → AreEnded stands went → AreEnded (request_at stands r now) went
ended_others stands r now [] others ended = tt
ended_others stands r now (q ∷ went) others ended = grind (arith, ended_others stands r now went others.1 ended.1)

pub ended_away : (stands : Request → Bool) (r : Request) (went : List NameRequest) → AreEnded stands went → AreEnded (request_at stands r false) went
ended_away stands r [] ended = tt
ended_away stands r (q ∷ went) ended = grind (arith, ended_away stands r went ended.1)

-- ---- the tables and the machine

-- One request has this notify port now, and keeps what it is to keep; the others are as they were.
pub agree_at : (notify notify2 : Request → Option ℕ) (r : Request) (o : Option ℕ) (now : Bool) (went : List NameRequest) (made : ℕ) (stands : Request → Bool) (live : ℕ → Bool) (tokens tokens2 : List Token) →
    RequestsAgree notify went made stands live tokens → notify2 r ≡ o → ((x : Request) → same_request x r ≡ false → notify2 x ≡ notify x) → now ≡ is_some o →
    ((kind : Kind) (n : ℕ) → lying_among tokens2 kind n (in_request r) ≡ rights_kept live o kind n + rights_went live went r kind n) →
    ((x : Request) → same_request x r ≡ false → (kind : Kind) (n : ℕ) → lying_among tokens2 kind n (in_request x) ≡ lying_among tokens kind n (in_request x)) →
    ((q : ℕ) → o ≡ Some q → q < made) → AreEnded (request_at stands r now) went → RequestsAgree notify2 went made (request_at stands r now) live tokens2
agree_at notify notify2 r o now went made stands live tokens tokens2 a own others is own_kept other_kept given ended = record {
  standing = λ x. standing x (same_request x r) refl;
  kept = λ x kind n. kept x kind n (same_request x r) refl;
  given = λ x q. of_given x q (same_request x r) refl;
  given_went = a.given_went;
  ended_went = ended;
}
  where
    standing : (x : Request) (b : Bool) → same_request x r ≡ b → (if b then now else stands x) ≡ is_some (notify2 x)
    standing x true e = is ∙ sym (ap is_some own) ∙ ap (λ (y : Request). is_some (notify2 y)) (same_request_is x r e)
    standing x false e = a.standing x ∙ sym (ap is_some (others x e))

    kept : (x : Request) (kind : Kind) (n : ℕ) (b : Bool) → same_request x r ≡ b → lying_among tokens2 kind n (in_request x) ≡ rights_kept live (notify2 x) kind n + rights_went live went x kind n
    kept x kind n true e = subst (λ (y : Request). lying_among tokens2 kind n (in_request y) ≡ rights_kept live (notify2 y) kind n + rights_went live went y kind n) (same_request_is x r e)
        (own_kept kind n ∙ ap (λ (z : Option ℕ). rights_kept live z kind n + rights_went live went r kind n) (sym own))
    kept x kind n false e = other_kept x e kind n ∙ a.kept x kind n ∙ ap (λ (z : Option ℕ). rights_kept live z kind n + rights_went live went x kind n) (sym (others x e))

    of_given : (x : Request) (q : ℕ) (b : Bool) → same_request x r ≡ b → notify2 x ≡ Some q → q < made
    of_given x q true e to = given q (sym own ∙ ap notify2 (same_request_is x r e) ∙ to)
    of_given x q false e to = a.given x q (sym (others x e) ∙ to)

-- ---- requests on a port

own_taken : (m : MapView ℕ) (p : ℕ) (o : Option ℕ) → map.get m.map p ≡ o → map.get (taken_at m p o).map p ≡ None
own_taken m p None is = is
own_taken m p (Some n) is = removed_own m.map p

other_taken : (m : MapView ℕ) (p : ℕ) (o : Option ℕ) (q : ℕ) → (q ≡ p → ⊥) → map.get (taken_at m p o).map q ≡ map.get m.map q
other_taken m p None q not = refl
other_taken m p (Some n) q not = get_removed m.map p q not

not_same : (q p : ℕ) → (q == p) ≡ false → q ≡ p → ⊥
not_same q p e same = let f : (q == p) ≡ true = eq-eqb q p same in let g : false ≡ true = sym e ∙ f in cc

-- ---- requests on a name

module _ (v : RequestTablesView) (task name : ℕ) (small : name < 2 ^ 32) where
  abbrev on : Request
  on = dead_name task name

  -- where the requests on names differ at this name alone
  pub names_other : (names2 : RequestsView) → ((key : ℕ) → (key ≡ name_key task name → ⊥) → map.get names2.requests key ≡ map.get v.names.requests key) →
      (x : Request) → same_request x on ≡ false → notify_of (record v { names = names2 }) x ≡ notify_of v x
  names_other names2 same (no_senders p) e = refl
  names_other names2 same (port_destroyed p) e = refl
  names_other names2 same (dead_name t n) e = grind (arith, same_key, eq-eqb, ltb-true)

  pub names_own : (names2 : RequestsView) → notify_of (record v { names = names2 }) on ≡ option_map (λ (r : NameRequest). r.notify) (map.get names2.requests (name_key task name))
  names_own names2 = let e : nat_lt name (2 ^ 32) ≡ true = lt-ltb name (2 ^ 32) small in rw e refl

  none_under : notify_of v on ≡ None → map.get v.names.requests (name_key task name) ≡ None
  none_under none = go (map.get v.names.requests (name_key task name)) (sym (names_own v.names) ∙ none)
    where
      go : (o : Option NameRequest) → option_map (λ (r : NameRequest). r.notify) o ≡ None → o ≡ None
      go None e = refl
      go (Some r) e = absurd (let f : Some r.notify ≡ None = e in cc)

  module _ (own : (r : NameRequest) → map.get v.names.requests (name_key task name) ≡ Some r → key_of r ≡ name_key task name) where
    taken_own : (o : Option NameRequest) → map.get v.names.requests (name_key task name) ≡ o → map.get (name_taken v.names o).requests (name_key task name) ≡ None
    taken_own None is = is
    taken_own (Some r) is = grind (arith, removed_own)

    taken_other : (o : Option NameRequest) → map.get v.names.requests (name_key task name) ≡ o → (key : ℕ) → (key ≡ name_key task name → ⊥) → map.get (name_taken v.names o).requests key ≡ map.get v.names.requests key
    taken_other None is key not = refl
    taken_other (Some r) is key not = get_removed v.names.requests (key_of r) key (λ e. not (e ∙ own r is))

    -- ---- the request on the subject goes

    pub away_own : (subject : Subject) → notify_of (taken_away v task name subject) (request_of task name subject) ≡ None
    away_own (Receive p) = own_taken v.port_destroyed p (map.get v.port_destroyed.map p) refl
    away_own (Senders p) = own_taken v.no_senders p (map.get v.no_senders.map p) refl
    away_own (Live p) = grind (arith, names_own, taken_own)
    away_own (Dead n) = grind (arith, names_own, taken_own)

    pub away_other : (subject : Subject) (x : Request) → same_request x (request_of task name subject) ≡ false → notify_of (taken_away v task name subject) x ≡ notify_of v x
    away_other (Receive p) (port_destroyed q) e = other_taken v.port_destroyed p (map.get v.port_destroyed.map p) q (not_same q p e)
    away_other (Receive p) (no_senders q) e = refl
    away_other (Receive p) (dead_name t n) e = refl
    away_other (Senders p) (no_senders q) e = other_taken v.no_senders p (map.get v.no_senders.map p) q (not_same q p e)
    away_other (Senders p) (port_destroyed q) e = refl
    away_other (Senders p) (dead_name t n) e = refl
    away_other (Live p) x e = grind (arith, names_other, taken_other)
    away_other (Dead n) x e = grind (arith, names_other, taken_other)

    -- those whose names went are as they were
    pub away_went : (subject : Subject) → (taken_away v task name subject).names.went ≡ v.names.went
    away_went (Receive p) = refl
    away_went (Senders p) = refl
    away_went (Live p) = grind arith
    away_went (Dead n) = grind arith

  -- where none stands on the subject nothing goes
  pub nothing_away : (subject : Subject) → notify_of v (request_of task name subject) ≡ None → taken_away v task name subject ≡ v
  nothing_away (Receive p) none = ap (λ (o : Option ℕ). record v { port_destroyed = taken_at v.port_destroyed p o }) none
  nothing_away (Senders p) none = ap (λ (o : Option ℕ). record v { no_senders = taken_at v.no_senders p o }) none
  nothing_away (Live p) none = ap (λ (o : Option NameRequest). record v { names = name_taken v.names o }) (none_under none)
  nothing_away (Dead n) none = ap (λ (o : Option NameRequest). record v { names = name_taken v.names o }) (none_under none)

  -- ---- a request comes

  -- on a name that isn't dead
  abbrev pub IsKept : Subject → Type 0
  IsKept (Receive p) = Unit {0}
  IsKept (Senders p) = Unit {0}
  IsKept (Live p) = Unit {0}
  IsKept (Dead n) = ⊥

  pub kept_own : (subject : Subject) (notify : ℕ) → IsKept subject → notify_of (with_kept v task name subject notify) (request_of task name subject) ≡ Some notify
  kept_own (Receive p) notify k = put_own v.port_destroyed.map p (Some notify)
  kept_own (Senders p) notify k = put_own v.no_senders.map p (Some notify)
  kept_own (Live p) notify k =
      let it : NameRequest = record { task = task; name = name; port = p; notify = notify } in
      let e : nat_lt name (2 ^ 32) ≡ true = lt-ltb name (2 ^ 32) small in
      rw e (ap (option_map (λ (r : NameRequest). r.notify)) (put_own v.names.requests (name_key task name) (Some it)))
  kept_own (Dead n) notify k = absurd k

  pub kept_other : (subject : Subject) (notify : ℕ) (x : Request) → same_request x (request_of task name subject) ≡ false → notify_of (with_kept v task name subject notify) x ≡ notify_of v x
  kept_other (Receive p) notify (port_destroyed q) e = put_other v.port_destroyed.map p (Some notify) q (not_same q p e)
  kept_other (Receive p) notify (no_senders q) e = refl
  kept_other (Receive p) notify (dead_name t n) e = refl
  kept_other (Senders p) notify (no_senders q) e = put_other v.no_senders.map p (Some notify) q (not_same q p e)
  kept_other (Senders p) notify (port_destroyed q) e = refl
  kept_other (Senders p) notify (dead_name t n) e = refl
  kept_other (Live p) notify x e = names_other (with_kept v task name (Live p) notify).names (λ key not. put_other v.names.requests (name_key task name) (Some (record { task = task; name = name; port = p; notify = notify })) key not) x e
  kept_other (Dead n) notify x e = refl

  pub kept_went : (subject : Subject) (notify : ℕ) → (with_kept v task name subject notify).names.went ≡ v.names.went
  kept_went (Receive p) notify = refl
  kept_went (Senders p) notify = refl
  kept_went (Live p) notify = refl
  kept_went (Dead n) notify = refl
