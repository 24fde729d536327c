-- What is kept by counts is true of the run that goes on by a stage.
use Rattle.std.proofs.Common.{◌≡◌, ◌≢◌, ◌⊎◌, ℕ, zero, suc, ◌+◌, ◌<◌, ◌≤◌, List, [], ◌∷◌, ◌++◌, All, drop, length, Option, Some, None, Bool, true, false, is_some, inl, inr, refl, sym, ap, subst, ◌∙◌, arith}
use Rattle.std.specs.Prelude.{slice_get}
use Rattle.std.specs.Option.{option_map}
use Rattle.std.specs.BTreeMap.{BTreeMap, get}
use Rattle.std.specs.Ordering.{nat_cmp}
use Rattle.std.proofs.lemmas.Bool.Decides.{eqb_tells}
use Rattle.std.proofs.lemmas.List.{length-append}
use Rattle.std.proofs.lemmas.List.Elements.{All-head, All-tail}
use Rattle.mach_types.specs.declared.calls.Event.{Event}
use Rattle.mach_types.specs.declared.calls.Reply.{Reply}
use Rattle.mach_types.specs.declared.profiles.Profile.{Profile}
use Rattle.mach_types.specs.declared.touched.Touched.{Touched}
use Rattle.mach_types.specs.Messages.{Entry}
use Rattle.mach_model.specs.State.{State, queue, opening_in}
use Rattle.mach_model.specs.Machine.{Step}
use Rattle.mach_laws.specs.Paths.{Stage}
use Rattle.mach_laws.specs.Touching.{TouchesOnly}
use Rattle.port.specs.Ports.{PortView}
use Rattle.copyin_base.specs.Kept.{Kept}
use Rattle.copyin_base.specs.Shows.{AllKept, Shows}
use Rattle.copyin_base.specs.Worlds.{WorldView, port_at}
use Rattle.mach_fates.specs.declared.effects.Lost.{Lost}
use Rattle.mach_fates.specs.declared.fates.Fates.{Fates}
use Rattle.mach_fates.specs.declared.origin.Waiting.{Waiting}
use Rattle.mach_fates.specs.Keeping.{entries_in, kept_at, or_nothing, Grows, Settles, IsFirst, TakesFrom, IsPassed, Follows}
use Rattle.mach_fates.specs.Places.{IsPut, ArePut, KeepsPort, Keeps, IsTaken, TellsTaken, Joins}
use Rattle.mach_fates.specs.Stepping.{with_stage, TakesBy, GoesOn}
use Rattle.mach_fates.proofs.Finding.{IsSource}
use Rattle.mach_fates.proofs.Visiting.{again, below}

-- ---- lists

pub get_left : {A : Type 0} (xs ys : List A) (k : ℕ) (x : A) → slice_get xs k ≡ Some x → slice_get (xs ++ ys) k ≡ Some x
get_left [] ys k x e = absurd (cc)
get_left (a ∷ xs) ys zero x e = e
get_left (a ∷ xs) ys (suc k) x e = get_left xs ys k x e

pub get_last : {A : Type 0} (xs : List A) (x : A) → slice_get (xs ++ x ∷ []) (length xs) ≡ Some x
get_last [] x = refl
get_last (a ∷ xs) x = get_last xs x

drop_length : {A : Type 0} (n : ℕ) (xs : List A) → n ≤ length xs → n + length (drop n xs) ≡ length xs
drop_length zero xs h = omega arith
drop_length (suc n) [] h = absurd (omega (arith, h))
drop_length (suc n) (x ∷ xs) h = let rest = drop_length n xs (omega (arith, h)) in omega (arith, rest)

kept_length : (p : ℕ) (ms : List Kept) (es : List Entry) → AllKept p ms es → length ms ≡ length es
kept_length p [] [] h = refl
kept_length p (m ∷ ms) (e ∷ es) h = ap suc (kept_length p ms es h.1)
kept_length p [] (e ∷ es) h = absurd h
kept_length p (m ∷ ms) [] h = absurd h

none_there : (xs : List ℕ) → None ≡ Some xs → ⊥
none_there xs e = cc

same_list : (xs ys : List ℕ) → Some xs ≡ Some ys → xs ≡ ys
same_list xs ys e = cc

same_port : (p q : ℕ) → Some p ≡ Some q → p ≡ q
same_port p q e = cc

pub not_both : (b : Bool) → b ≡ true → b ≡ false → ⊥
not_both b one other = let e : true ≡ false = sym one ∙ other in cc

pub true_or_false : (b : Bool) → (b ≡ true) ⊎ (b ≡ false)
true_or_false true = inl refl
true_or_false false = inr refl

is_source : (source : Option ℕ) (p : ℕ) → (source ≡ Some p) ⊎ (source ≡ Some p → ⊥)
is_source None p = inr (λ (e : None ≡ Some p). cc)
is_source (Some q) p = elim (eqb_tells q p) [
  | inl h ↦ inl (ap Some h.1)
  | inr h ↦ inr (λ e. h.1 (same_port q p e))
]

-- ---- a longer path

put_longer : (path : List Stage) (x : Stage) (p k n : ℕ) → IsPut path p k n → IsPut (path ++ x ∷ []) p k n
put_longer path x p k n h = record { stage = h.stage; number = h.number; x = h.x; at = get_left path (x ∷ []) h.stage h.x h.at; behind = h.behind; within = h.within }

are_longer : (path : List Stage) (x : Stage) (p k : ℕ) (ns : List ℕ) → ArePut path p k ns → ArePut (path ++ x ∷ []) p k ns
are_longer path x p k [] h = tt
are_longer path x p k (n ∷ ns) h = (put_longer path x p k n h.0, are_longer path x p (k + 1) ns h.1)

are_both : (path : List Stage) (p k : ℕ) (xs ys : List ℕ) → ArePut path p k xs → ArePut path p (k + length xs) ys → ArePut path p k (xs ++ ys)
are_both path p k [] ys a b = subst (λ (m : ℕ). ArePut path p m ys) (omega arith) b
are_both path p k (x ∷ xs) ys a b = (a.0, are_both path p (k + 1) xs ys a.1 (subst (λ (m : ℕ). ArePut path p m ys) (omega arith) b))

-- what the last stage put there
are_new : (path : List Stage) (x : Stage) (p k number : ℕ) (ns : List ℕ) → number ≡ length path + 1 → All (λ n. n ≡ number) ns → length (x.before.log p) ≤ k → k + length ns ≤ length (x.after.log p) →
    ArePut (path ++ x ∷ []) p k ns
are_new path x p k number [] is all behind within = tt
are_new path x p k number (n ∷ ns) is all behind within = (
  record { stage = length path; number = All-head (λ m. m ≡ number) n ns all ∙ is; x = x; at = get_last path x; behind = behind; within = omega (arith, within) },
  are_new path x p (k + 1) number ns is (All-tail (λ m. m ≡ number) n ns all) (omega (arith, behind)) (omega (arith, within)),
)

-- ---- a stage

module _ (number : ℕ) (w : WorldView) (profile : Profile) (path : List Stage) (s : State) (event : Event) (reply : Reply) (t : State) (f0 f1 f2 : Fates) (source : Option ℕ) (touched : Touched)
    (is : number ≡ length path + 1) (goes : GoesOn profile path s event reply t) (shown : Shows w t) (only : TouchesOnly s t touched) (keeps : Keeps f0 path s) (nothing : f0.taken ≡ None)
    (from : IsSource s t source) (takes : TakesFrom number w source f0 f1) (follows : Follows number w touched f1 f2) where
  abbrev stage : Stage
  stage = record { before = s; event = event; reply = reply; after = t }

  abbrev longer : List Stage
  longer = with_stage path s event reply t

  -- what is kept before, without what was taken
  record Base (p : ℕ) (base : List ℕ) : Type 0 where
    put : ArePut path p (t.taken p) base
    all : t.taken p + length base ≡ length (s.log p)

  base_kept : (p : ℕ) → t.taken p ≡ s.taken p → t.live_port p ≡ true → Base p (or_nothing (kept_at f0 p))
  base_kept p stays lives = go (kept_at f0 p) refl
    where
      go : (o : Option (List ℕ)) → kept_at f0 p ≡ o → Base p (or_nothing o)
      go (Some xs) e = let k = keeps.origins p xs e in let all = k.all in record { put = subst (λ (m : ℕ). ArePut path p m xs) (sym stays) k.put; all = omega (arith, all, stays) }
      go None e =
          let dead : s.live_port p ≡ false = sym (keeps.live p) ∙ ap is_some e in
          elim (below p s.ports_made) [
            | inl h ↦ absurd (not_both (t.live_port p) lives (goes.dead p h dead))
            | inr h ↦ (let empty = ap length (goes.lawful.unmade_log p h) in let within = goes.lawful.within p in record { put = tt; all = omega (arith, empty, within, stays) })
          ]

  base_taken : (p : ℕ) → s.taken p < length (s.log p) → t.taken p ≡ s.taken p + 1 → s.live_port p ≡ true → Base p (or_nothing (option_map (drop 1) (kept_at f0 p)))
  base_taken p some next lives = go (kept_at f0 p) refl
    where
      go : (o : Option (List ℕ)) → kept_at f0 p ≡ o → Base p (or_nothing (option_map (drop 1) o))
      go None e = absurd (not_both (s.live_port p) lives (sym (keeps.live p) ∙ ap is_some e))
      go (Some []) e = absurd (let all = (keeps.origins p [] e).all in omega (arith, all, some))
      go (Some (x ∷ xs)) e = let k = keeps.origins p (x ∷ xs) e in let all = k.all in record { put = subst (λ (m : ℕ). ArePut path p m xs) (sym next) k.put.1; all = omega (arith, all, next) }

  settled_port : (p : ℕ) (base : Option (List ℕ)) → Base p (or_nothing base) → t.live_port p ≡ true → Settles number w p base (kept_at f2 p) → (xs : List ℕ) → kept_at f2 p ≡ Some xs → KeepsPort longer t p xs
  settled_port p base b lives settles xs kept = go (port_at w p) refl
    where
      go : (o : Option (PortView Kept)) → port_at w p ≡ o → KeepsPort longer t p xs
      go None e = absurd (not_both (t.live_port p) lives (sym (shown.agrees.live_port p) ∙ ap is_some e))
      go (Some v) e =
          let many : length v.queue ≡ length (queue t p) = kept_length p v.queue (queue t p) (shown.agrees.ports p v e).waiting in
          let whole : t.taken p + length (queue t p) ≡ length (t.log p) = drop_length (t.taken p) (t.log p) (goes.lawful_then.within p) in
          let g = subst (λ (o : Option (List ℕ)). Grows number (length v.queue) (or_nothing base) (or_nothing o)) kept (settles.appends (length v.queue) (ap (option_map (λ (x : PortView Kept). length x.queue)) e)) in
          let before = b.all in
          let grown = goes.logs p in
          let full : length xs ≡ length v.queue = g.count (omega (arith, before, grown, many, whole)) in
          let parts : length xs ≡ length (or_nothing base) + length g.added = ap length g.more ∙ length-append (or_nothing base) g.added in
          record {
            put = subst (ArePut longer p (t.taken p)) (sym g.more)
                (are_both longer p (t.taken p) (or_nothing base) g.added (are_longer path stage p (t.taken p) (or_nothing base) b.put)
                (are_new path stage p (t.taken p + length (or_nothing base)) number g.added is g.same (omega (arith, before)) (omega (arith, full, parts, many, whole))));
            all = omega (arith, full, many, whole);
          }

  -- ---- what becomes of a port

  abbrev IsLeft : ℕ → Type 0
  IsLeft p =
      Settles number w p (kept_at f0 p) (kept_at f2 p) × (t.taken p ≡ s.taken p)
      ⊎ Settles number w p (option_map (drop 1) (kept_at f0 p)) (kept_at f2 p) × (s.taken p < length (s.log p)) × (t.taken p ≡ s.taken p + 1) × (s.live_port p ≡ true)
      ⊎ (kept_at f2 p ≡ kept_at f0 p) × (t.taken p ≡ s.taken p) × IsPassed touched w.ports.made f0 p

  others_kept : (source : Option ℕ) → TakesFrom number w source f0 f1 → (p : ℕ) → (source ≡ Some p → ⊥) → kept_at f1 p ≡ kept_at f0 p
  others_kept None h p apart = ap (λ (f : Fates). kept_at f p) h
  others_kept (Some q) h p apart = h.2.others p (λ e. apart (ap Some (sym e))) ∙ h.1.others p (λ e. apart (ap Some (sym e)))

  made_kept : (source : Option ℕ) → TakesFrom number w source f0 f1 → f1.made ≡ f0.made
  made_kept None h = ap (λ (f : Fates). f.made) h
  made_kept (Some q) h = h.2.made ∙ h.1.made

  source_settled : (source : Option ℕ) → TakesFrom number w source f0 f1 → (p : ℕ) → source ≡ Some p → Settles number w p (option_map (drop 1) (kept_at f0 p)) (kept_at f1 p)
  source_settled None h p e = absurd (let no : None ≡ Some p = e in cc)
  source_settled (Some q) h p e =
      subst (λ (x : ℕ). Settles number w x (option_map (drop 1) (kept_at f0 x)) (kept_at f1 x)) (same_port q p e)
      (subst (λ (o : Option (List ℕ)). Settles number w q o (kept_at f1 q)) h.1.rest h.2.settles)

  passed : (p : ℕ) → kept_at f1 p ≡ kept_at f0 p → IsPassed touched w.ports.made f1 p → IsPassed touched w.ports.made f0 p
  passed p same (inl free) = inl free
  passed p same (inr (none, where_is)) = inr (sym same ∙ none, subst (λ (m : ℕ). (p < m) ⊎ (w.ports.made ≤ p)) (made_kept source takes) where_is)

  left : (p : ℕ) → IsLeft p
  left p = elim (is_source source p) [
    | inl at ↦ (let first = source_settled source takes p at in
        let took = from.taken p at in
        elim (follows.each p) [
          | inl more ↦ inr (inl (again number w p (option_map (drop 1) (kept_at f0 p)) (kept_at f1 p) (kept_at f2 p) first more, took.0, took.1, took.2))
          | inr same ↦ inr (inl (subst (λ (o : Option (List ℕ)). Settles number w p (option_map (drop 1) (kept_at f0 p)) o) (sym same.0) first, took.0, took.1, took.2))
        ])
    | inr apart ↦ (let kept = others_kept source takes p apart in
        elim (follows.each p) [
          | inl visited ↦ inl (subst (λ (o : Option (List ℕ)). Settles number w p o (kept_at f2 p)) kept visited, from.others p apart)
          | inr same ↦ inr (inr (same.0 ∙ kept, from.others p apart, passed p kept same.1))
        ])
  ]

  -- nothing lives that wasn't there
  nothing_lives : (p : ℕ) → kept_at f0 p ≡ None → (p < f0.made) ⊎ (w.ports.made ≤ p) → t.live_port p ≡ false
  nothing_lives p none where_is =
      let dead : s.live_port p ≡ false = sym (keeps.live p) ∙ ap is_some none in
      elim where_is [
        | inl h ↦ goes.dead p (subst (λ (n : ℕ). p < n) keeps.made h) dead
        | inr h ↦ elim (true_or_false (t.live_port p)) [
          | inl lives ↦ absurd (let made = goes.lawful_then.made_port p lives in let after = shown.agrees.ports_made in omega (arith, made, after, h))
          | inr gone ↦ gone
        ]
      ]

  lives_as : (p : ℕ) → is_some (kept_at f2 p) ≡ t.live_port p
  lives_as p = elim (left p) [
    | inl x ↦ x.0.live ∙ shown.agrees.live_port p
    | inr (inl x) ↦ x.0.live ∙ shown.agrees.live_port p
    | inr (inr x) ↦ elim x.2 [
      | inl free ↦ ap is_some x.0 ∙ keeps.live p ∙ sym (only.ports p free).live
      | inr none ↦ ap is_some (x.0 ∙ none.0) ∙ sym (nothing_lives p none.0 none.1)
    ]
  ]

  -- a port that the step didn't touch
  rests : (p : ℕ) (xs : List ℕ) → kept_at f0 p ≡ Some xs → t.taken p ≡ s.taken p → queue t p ≡ queue s p → KeepsPort longer t p xs
  rests p xs kept stays waits =
      let k = keeps.origins p xs kept in
      let all = k.all in
      let before : s.taken p + length (queue s p) ≡ length (s.log p) = drop_length (s.taken p) (s.log p) (goes.lawful.within p) in
      let after : t.taken p + length (queue t p) ≡ length (t.log p) = drop_length (t.taken p) (t.log p) (goes.lawful_then.within p) in
      let many = ap length waits in
      record {
        put = subst (λ (m : ℕ). ArePut longer p m xs) (sym stays) (are_longer path stage p (s.taken p) xs k.put);
        all = omega (arith, all, before, after, many, stays);
      }

  origins_are : (p : ℕ) (xs : List ℕ) → kept_at f2 p ≡ Some xs → KeepsPort longer t p xs
  origins_are p xs kept =
      let lives : t.live_port p ≡ true = sym (lives_as p) ∙ ap is_some kept in
      elim (left p) [
        | inl x ↦ settled_port p (kept_at f0 p) (base_kept p x.1 lives) lives x.0 xs kept
        | inr (inl x) ↦ settled_port p (option_map (drop 1) (kept_at f0 p)) (base_taken p x.1 x.2 x.3) lives x.0 xs kept
        | inr (inr x) ↦ elim x.2 [
          | inl free ↦ rests p xs (sym x.0 ∙ kept) x.1 (only.ports p free).waiting
          | inr none ↦ absurd (none_there xs (sym none.0 ∙ sym x.0 ∙ kept))
        ]
      ]

  pub keeps_on : Keeps f2 longer t
  keeps_on = record { live = lives_as; origins = origins_are; made = follows.made ∙ shown.agrees.ports_made }

  -- ---- what was taken

  told : (p : ℕ) (n : ℕ) (x : Lost) → x.port ≡ p → x.origin.entry ≡ n → source ≡ Some p → IsPut path p (s.taken p) n → IsTaken path s t x
  told p n x port entry at put =
      let took = from.taken p at in
      record {
        lives = subst (λ (q : ℕ). s.live_port q ≡ true) (sym port) took.2;
        there = subst (λ (q : ℕ). s.taken q < length (s.log q)) (sym port) took.0;
        goes = subst (λ (q : ℕ). t.taken q ≡ s.taken q + 1) (sym port) took.1;
        put = subst (λ (q : ℕ). IsPut path q (s.taken q) x.origin.entry) (sym port) (subst (IsPut path p (s.taken p)) (sym entry) put);
        others = λ q apart. from.others q (λ e. apart (same_port q p (sym e ∙ at) ∙ sym port));
      }

  first_told : (p : ℕ) (xs : List ℕ) (o : Option Lost) → source ≡ Some p → KeepsPort path s p xs → s.taken p < length (s.log p) → IsFirst p o xs → TellsTaken path s t o
  first_told p [] o at k some first = absurd (let all = k.all in omega (arith, all, some))
  first_told p (n ∷ ns) o at k some (x, here, port, entry) = subst (TellsTaken path s t) (sym here) (told p n x port entry at k.put.0)

  at_source : (o : Option ℕ) → source ≡ o → TakesFrom number w o f0 f1 → TellsTaken path s t f2.taken
  at_source None at h = subst (TellsTaken path s t) (sym (follows.taken ∙ ap (λ (f : Fates). f.taken) h ∙ nothing)) (λ p. from.others p (λ e. none_port p (sym at ∙ e)))
    where
      none_port : (p : ℕ) → None ≡ Some p → ⊥
      none_port p e = cc
  at_source (Some p) at h =
      let took = from.taken p at in
      subst (TellsTaken path s t) (sym (follows.taken ∙ h.2.taken)) (go (kept_at f0 p) refl)
    where
      go : (o : Option (List ℕ)) → kept_at f0 p ≡ o → TellsTaken path s t h.0.taken
      go None e = absurd (not_both (s.live_port p) (from.taken p at).2 (sym (keeps.live p) ∙ ap is_some e))
      go (Some xs) e = first_told p xs h.0.taken at (keeps.origins p xs e) (from.taken p at).0 (subst (λ (o : Option (List ℕ)). IsFirst p h.0.taken (or_nothing o)) e h.1.first)

  pub taken_told : TellsTaken path s t f2.taken
  taken_told = at_source source refl takes

-- ---- an entry

pub kept_same : (f g : Fates) → g.ports ≡ f.ports → (p : ℕ) → kept_at g p ≡ kept_at f p
kept_same f g ports p = ap (λ (m : BTreeMap ℕ Waiting). option_map entries_in (get nat_cmp m p)) ports

-- what the step before did is of no account
pub keeps_same : (path : List Stage) (s : State) (f g : Fates) → g.ports ≡ f.ports → g.made ≡ f.made → Keeps f path s → Keeps g path s
keeps_same path s f g ports made k = record {
  live = λ p. ap is_some (kept_same f g ports p) ∙ k.live p;
  origins = λ p xs e. k.origins p xs (sym (kept_same f g ports p) ∙ e);
  made = made ∙ k.made;
}

-- nothing is kept at the beginning
pub opens : (profile : Profile) (f : Fates) → f.ports.entries ≡ [] → f.made ≡ 0 → Keeps f [] (opening_in profile)
opens profile f empty none = record { live = λ p. ap is_some (nothing p); origins = λ p xs e. absurd (none_there xs (sym (nothing p) ∙ e)); made = none }
  where
    nothing : (p : ℕ) → kept_at f p ≡ None
    nothing p = rw empty refl

-- a refusal changes nothing
pub refusal_joins : (profile : Profile) (path : List Stage) (s : State) (event : Event) (reply : Reply) (t : State) (w : WorldView) (before f : Fates) → Step (length path) s event reply t → GoesOn profile path s event reply t → Shows w t → Keeps f path s → f.taken ≡ None →
    f.ports ≡ before.ports → ((code : ℕ) × (reply ≡ Reply.Code code) × (code ≢ 0)) → Joins profile path s event reply w before f
refusal_joins profile path s event reply t w before f step g shown keeps nothing ports (code, is, some) =
    let takes = subst (λ (r : Reply). TakesBy s event r t) is g.takes in
    let same : t ≡ s = takes.0 some in
    let stage : Stage = record { before = s; event = event; reply = reply; after = t } in
    record {
      t = t;
      step = step;
      goes_on = g.path_then;
      shown = shown;
      keeps = subst (λ (x : State). Keeps f (with_stage path s event reply t) x) (sym same) (record {
        live = keeps.live;
        origins = λ p xs kept. (let k = keeps.origins p xs kept in record { put = are_longer path stage p (s.taken p) xs k.put; all = k.all });
        made = keeps.made;
      });
      taken = subst (TellsTaken path s t) (sym nothing) takes.1;
      quiet = λ p apart. (kept_same before f ports p, takes.1 p);
    }
