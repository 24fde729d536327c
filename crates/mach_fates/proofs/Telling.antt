-- What is noted stays true of the run that goes on by a stage.
use Rattle.std.proofs.Common.{◌≡◌, ◌≢◌, ◌⊎◌, ℕ, zero, suc, ◌+◌, ◌<◌, ◌≤◌, List, [], ◌∷◌, ◌++◌, All, length, Option, Some, None, true, false, is_some, inl, inr, refl, sym, ap, subst, ◌∙◌, arith}
use Rattle.std.specs.Prelude.{slice_get, map, set}
use Rattle.std.specs.Option.{option_map}
use Rattle.std.specs.BTreeMap.{get}
use Rattle.std.specs.Ordering.{nat_cmp}
use Rattle.std.proofs.lemmas.Bool.Decides.{eqb_tells}
use Rattle.std.proofs.lemmas.List.{length-map, length-set}
use Rattle.std.proofs.lemmas.List.Elements.{All-head, All-tail}
use Rattle.std.proofs.lemmas.Option.{slice_get_within}
use Rattle.mach_types.specs.declared.calls.Event.{Event}
use Rattle.mach_types.specs.declared.calls.Reply.{Reply}
use Rattle.mach_types.specs.declared.profiles.Profile.{Profile}
use Rattle.mach_model.specs.State.{State, opening_in}
use Rattle.mach_laws.specs.Paths.{Stage}
use Rattle.mach_fates.specs.declared.effects.Lost.{Lost}
use Rattle.mach_fates.specs.declared.ends.End.{End}
use Rattle.mach_fates.specs.declared.ends.Ends.{Ends}
use Rattle.mach_fates.specs.declared.fates.Fates.{Fates}
use Rattle.mach_fates.specs.declared.origin.Waiting.{Waiting}
use Rattle.mach_fates.specs.Keeping.{kept_at, queued_at, entries_in, Apart}
use Rattle.mach_fates.specs.Places.{Keeps, TellsTaken}
use Rattle.mach_fates.specs.Stepping.{with_stage, TakesBy, GoesOn}
use Rattle.mach_fates.specs.Endings.{IsStage, Removes, IsQueued, DiesWith, IsEnd, AreSame, HaveOneEnd, Known, noted_at, end_at, Tells}
use Rattle.mach_fates.specs.Noting.{died, EndsBy, Settled, Counts, CountsTaken, EndsAs, Notes}
use Rattle.mach_fates.proofs.Joining.{get_left, get_last, true_or_false, not_both}
use Rattle.mach_fates.proofs.Counting.{entries_length}
use Rattle.mach_fates.proofs.Visiting.{below}

-- ---- lists

no_end : (x : End) → None ≡ Some x → ⊥
no_end x e = cc

one_end : (x y : End) → Some x ≡ Some y → x ≡ y
one_end x y e = cc

no_many : (n : ℕ) → None ≡ Some n → ⊥
no_many n e = cc

one_many : (m n : ℕ) → Some m ≡ Some n → m ≡ n
one_many m n e = cc

no_list : (xs : List ℕ) → None ≡ Some xs → ⊥
no_list xs e = cc

-- an element of a list in which one was set
get_set : (xs : List End) (i k : ℕ) (y x : End) → slice_get (set xs i y) k ≡ Some x → (k ≡ i) × (x ≡ y) ⊎ (k ≢ i) × (slice_get xs k ≡ Some x)
get_set [] i k y x e = absurd (no_end x e)
get_set (a ∷ xs) zero zero y x e = inl (refl, one_end x y (sym e))
get_set (a ∷ xs) zero (suc k) y x e = inr ((λ (h : suc k ≡ zero). cc), e)
get_set (a ∷ xs) (suc i) zero y x e = inr ((λ (h : zero ≡ suc i). cc), e)
get_set (a ∷ xs) (suc i) (suc k) y x e = elim (get_set xs i k y x e) [
  | inl h ↦ inl (ap suc h.0, h.1)
  | inr h ↦ inr ((λ is. h.0 (omega (arith, is))), h.1)
]

-- an element of a list that grew
get_grown : (xs ys : List End) (k : ℕ) (x : End) → All (λ z. z ≡ End.Queued) ys → slice_get (xs ++ ys) k ≡ Some x → (slice_get xs k ≡ Some x) ⊎ (length xs ≤ k) × (x ≡ End.Queued)
get_grown [] [] k x all e = inl e
get_grown [] (y ∷ ys) zero x all e = inr (omega arith, one_end x y (sym e) ∙ All-head (λ z. z ≡ End.Queued) y ys all)
get_grown [] (y ∷ ys) (suc k) x all e = elim (get_grown [] ys k x (All-tail (λ z. z ≡ End.Queued) y ys all) e) [
  | inl h ↦ absurd (no_end x h)
  | inr h ↦ inr (omega arith, h.1)
]
get_grown (a ∷ xs) ys zero x all e = inl e
get_grown (a ∷ xs) ys (suc k) x all e = elim (get_grown xs ys k x all e) [
  | inl h ↦ inl h
  | inr h ↦ inr (let few = h.0 in omega (arith, few), h.1)
]

get_mapped : (f : End → End) (xs : List End) (k : ℕ) (x : End) → slice_get (map f xs) k ≡ Some x → (y : End) × (slice_get xs k ≡ Some y) × (x ≡ f y)
get_mapped f [] k x e = absurd (no_end x e)
get_mapped f (a ∷ xs) zero x e = (a, refl, one_end x (f a) (sym e))
get_mapped f (a ∷ xs) (suc k) x e = get_mapped f xs k x e

get_some : (xs : List End) (k : ℕ) → k < length xs → (x : End) × (slice_get xs k ≡ Some x)
get_some [] k h = absurd (omega (arith, h))
get_some (a ∷ xs) zero h = (a, refl)
get_some (a ∷ xs) (suc k) h = get_some xs k (omega (arith, h))

-- ---- stages

old_or_new : (path : List Stage) (x y : Stage) (k : ℕ) → slice_get (path ++ x ∷ []) k ≡ Some y → (slice_get path k ≡ Some y) ⊎ (k ≡ length path) × (y ≡ x)
old_or_new [] x y zero e = inr (refl, (let h : Some x ≡ Some y = e in cc))
old_or_new [] x y (suc k) e = absurd (let h : None ≡ Some y = e in cc)
old_or_new (a ∷ path) x y zero e = inl e
old_or_new (a ∷ path) x y (suc k) e = elim (old_or_new path x y k e) [
  | inl h ↦ inl h
  | inr h ↦ inr (ap suc h.0, h.1)
]

stage_longer : (path : List Stage) (x y : Stage) (n : ℕ) → IsStage path n y → IsStage (path ++ x ∷ []) n y
stage_longer path x y n h = (h.0, h.1, get_left path (x ∷ []) h.0 y h.2)

stage_last : (path : List Stage) (x : Stage) (n : ℕ) → n ≡ length path + 1 → IsStage (path ++ x ∷ []) n x
stage_last path x n is = (length path, is, get_last path x)

-- ---- a stage

module _ (number : ℕ) (profile : Profile) (path : List Stage) (s : State) (event : Event) (reply : Reply) (t : State) (before f : Fates) (e e1 : Ends)
    (is : number ≡ length path + 1) (goes : GoesOn profile path s event reply t) (keeps : Keeps before path s) (then_keeps : Keeps f (with_stage path s event reply t) t)
    (told : TellsTaken path s t f.taken) (quiet : (p : ℕ) → Apart p f.visited.items → (kept_at f p ≡ kept_at before p) × (t.taken p ≡ s.taken p)) (notes : Notes reply number f e e1) (tells : Tells e path s) where
  abbrev now : Stage
  now = record { before = s; event = event; reply = reply; after = t }

  abbrev longer : List Stage
  longer = with_stage path s event reply t

  -- which stage it is
  which : (n : ℕ) (y : Stage) → IsStage longer n y → IsStage path n y ⊎ (n ≡ number) × (y ≡ now)
  which n y (k, at, here) = elim (old_or_new path now y k here) [
    | inl h ↦ inl (k, at, h)
    | inr h ↦ inr (let place = h.0 in omega (arith, at, place, is), h.1)
  ]

  here : IsStage longer number now
  here = stage_last path now number is

  -- ---- how many are queued

  queued_length : (g : Fates) (p : ℕ) → queued_at g p ≡ option_map (λ (xs : List ℕ). length xs) (kept_at g p)
  queued_length g p = go (get nat_cmp g.ports p)
    where
      go : (o : Option Waiting) → option_map (λ (w : Waiting). length w.origins) o ≡ option_map (λ (xs : List ℕ). length xs) (option_map entries_in o)
      go None = refl
      go (Some w) = ap Some (sym (entries_length w.origins))

  -- a port that lives: what is taken and queued is its log
  alive_queue : (p : ℕ) → t.live_port p ≡ true → (n : ℕ) × (queued_at f p ≡ Some n) × (t.taken p + n ≡ length (t.log p))
  alive_queue p lives = go (kept_at f p) refl
    where
      go : (o : Option (List ℕ)) → kept_at f p ≡ o → (n : ℕ) × (queued_at f p ≡ Some n) × (t.taken p + n ≡ length (t.log p))
      go None h = absurd (not_both (t.live_port p) lives (sym (then_keeps.live p) ∙ ap is_some h))
      go (Some xs) h = (length xs, queued_length f p ∙ ap (option_map (λ (ys : List ℕ). length ys)) h, (then_keeps.origins p xs h).all)

  dead_queue : (p : ℕ) → t.live_port p ≡ false → queued_at f p ≡ None
  dead_queue p dead = go (kept_at f p) refl
    where
      go : (o : Option (List ℕ)) → kept_at f p ≡ o → queued_at f p ≡ None
      go None h = queued_length f p ∙ ap (option_map (λ (ys : List ℕ). length ys)) h
      go (Some xs) h = absurd (not_both (t.live_port p) (sym (then_keeps.live p) ∙ ap is_some h) dead)

  -- a port that wasn't visited lives as before, with as many messages
  still_alive : (p : ℕ) → Apart p f.visited.items → t.live_port p ≡ s.live_port p
  still_alive p apart = sym (then_keeps.live p) ∙ ap is_some (quiet p apart).0 ∙ keeps.live p

  same_log : (p : ℕ) → Apart p f.visited.items → t.live_port p ≡ true → length (s.log p) ≡ length (t.log p)
  same_log p apart lives = go (kept_at f p) refl
    where
      go : (o : Option (List ℕ)) → kept_at f p ≡ o → length (s.log p) ≡ length (t.log p)
      go None h = absurd (not_both (t.live_port p) lives (sym (then_keeps.live p) ∙ ap is_some h))
      go (Some xs) h =
          let a = (then_keeps.origins p xs h).all in
          let b = (keeps.origins p xs (sym (quiet p apart).0 ∙ h)).all in
          let c = (quiet p apart).1 in
          omega (arith, a, b, c)

  -- a port of which nothing was noted yet
  nothing_yet : (p : ℕ) → s.live_port p ≡ false → t.live_port p ≡ true → length (s.log p) ≡ 0
  nothing_yet p dead lives = elim (below p s.ports_made) [
    | inl h ↦ absurd (not_both (t.live_port p) lives (goes.dead p h dead))
    | inr h ↦ ap length (goes.lawful.unmade_log p h)
  ]

  -- ---- what was taken

  -- What is noted of the port once what was taken is: this message of it, if one was, ends so.
  record Took (p : ℕ) (old mid : Known) : Type 0 where
    removes : Removes now p (s.taken p)
    lives : s.live_port p ≡ true
    there : s.taken p < length (s.log p)
    counts : Counts notes.end old mid

  took_or_not : (p : ℕ) → Took p (noted_at e p) (noted_at notes.mid p) ⊎ (noted_at notes.mid p ≡ noted_at e p) × (t.taken p ≡ s.taken p)
  took_or_not p = go f.taken told notes.counts
    where
      go : (o : Option Lost) → TellsTaken path s t o → CountsTaken o notes.end e notes.mid → Took p (noted_at e p) (noted_at notes.mid p) ⊎ (noted_at notes.mid p ≡ noted_at e p) × (t.taken p ≡ s.taken p)
      go None none same = inr (ap (λ (x : Ends). noted_at x p) same, none p)
      go (Some x) taken counts = elim (eqb_tells p x.port) [
        | inl h ↦ inl (subst (λ (q : ℕ). Took q (noted_at e q) (noted_at notes.mid q)) (sym h.1) (record { removes = (refl, taken.goes); lives = taken.lives; there = taken.there; counts = counts.counts }))
        | inr h ↦ inr (counts.others p h.1, taken.others p h.1)
      ]

  -- how it ended
  is_no_take : (r : Reply) → TakesBy s event r t → EndsAs r number notes.end → (p : ℕ) → t.taken p ≡ s.taken p + 1 → reply ≡ r → Removes now p (s.taken p) → IsEnd longer t p (s.taken p) notes.end
  is_no_take (Reply.Message bytes) takes (who, is_end) p next same removes = subst (IsEnd longer t p (s.taken p)) (sym is_end) (now, here, removes, (bytes, same))
  is_no_take (Reply.TooLarge n) takes is_end p next same removes = subst (IsEnd longer t p (s.taken p)) (sym is_end) (now, here, removes, (n, same))
  is_no_take (Reply.Code code) takes is_end p next same removes = absurd (let stays = takes.1 p in omega (arith, next, stays))
  is_no_take r takes is_end p next same removes = absurd (let stays = takes p in omega (arith, next, stays))

  ended_so : (p : ℕ) → Removes now p (s.taken p) → IsEnd longer t p (s.taken p) notes.end
  ended_so p removes = is_no_take reply goes.takes notes.ends_as p removes.1 refl removes

  -- what became of a message before
  was_so : (p k : ℕ) (end : End) → IsEnd path s p k end → (end ≢ End.Queued) → IsEnd longer t p k end
  was_so p k End.Queued h not = absurd (not refl)
  was_so p k (End.Received n who) (x, at, removes, r) not = (x, stage_longer path now x n at, removes, r)
  was_so p k (End.TooLong n) (x, at, removes, r) not = (x, stage_longer path now x n at, removes, r)
  was_so p k (End.Died n) (x, at, dies) not = (x, stage_longer path now x n at, dies)

  is_queued : (end : End) → (end ≡ End.Queued) ⊎ (end ≢ End.Queued)
  is_queued End.Queued = inl refl
  is_queued (End.Received n who) = inr (λ (h : End.Received n who ≡ End.Queued). cc)
  is_queued (End.TooLong n) = inr (λ (h : End.TooLong n ≡ End.Queued). cc)
  is_queued (End.Died n) = inr (λ (h : End.Died n ≡ End.Queued). cc)

  -- ---- what is noted once what was taken is

  mid_taken : (p : ℕ) → (noted_at notes.mid p).taken ≡ t.taken p
  mid_taken p = elim (took_or_not p) [
    | inl h ↦ (let a = h.counts.taken in let b = h.removes.1 in let c = tells.taken p in omega (arith, a, b, c))
    | inr h ↦ ap (λ (x : Known). x.taken) h.0 ∙ tells.taken p ∙ sym h.1
  ]

  mid_length : (p : ℕ) → length (noted_at notes.mid p).ends ≡ length (noted_at e p).ends
  mid_length p = elim (took_or_not p) [
    | inl h ↦ ap length h.counts.ends ∙ length-set (noted_at e p).ends (noted_at e p).taken notes.end
    | inr h ↦ ap (λ (x : Known). length x.ends) h.0
  ]

  few_taken : (p : ℕ) → (s.taken p ≤ t.taken p) × (t.taken p ≤ length (s.log p))
  few_taken p = elim (took_or_not p) [
    | inl h ↦ (let a = h.removes.1 in let b = h.there in (omega (arith, a), omega (arith, a, b)))
    | inr h ↦ (let a = h.1 in let b = goes.lawful.within p in (omega (arith, a), omega (arith, a, b)))
  ]

  -- It is so now; or it was queued, and is taken no more than before.
  abbrev IsLater : (p k : ℕ) → End → Type 0
  IsLater p k end = IsEnd longer t p k end ⊎ (end ≡ End.Queued) × IsQueued s p k × (t.taken p ≤ k)

  later : (p k : ℕ) (end : End) → IsEnd path s p k end → (IsQueued s p k → t.taken p ≤ k) → IsLater p k end
  later p k end h rest = elim (is_queued end) [
    | inl q ↦ (let waits : IsQueued s p k = subst (IsEnd path s p k) q h in inr (q, waits, rest waits))
    | inr not ↦ inl (was_so p k end h not)
  ]

  mid_said : (p k : ℕ) (end : End) → slice_get (noted_at notes.mid p).ends k ≡ Some end → IsLater p k end
  mid_said p k end h = elim (took_or_not p) [
    | inl took ↦ elim (get_set (noted_at e p).ends (noted_at e p).taken k notes.end end (subst (λ (xs : List End). slice_get xs k ≡ Some end) took.counts.ends h)) [
      | inl new ↦ inl (subst (λ (n : ℕ). IsEnd longer t p n end) (sym (new.0 ∙ tells.taken p)) (subst (IsEnd longer t p (s.taken p)) (sym new.1) (ended_so p took.removes)))
      | inr old ↦ later p k end (tells.is_so p k end old.1) (λ waits. (let a = waits.1 in let b = old.0 in let c = tells.taken p in let d = took.removes.1 in omega (arith, a, b, c, d)))
    ]
    | inr none ↦ later p k end (tells.is_so p k end (subst (λ (x : Known). slice_get x.ends k ≡ Some end) none.0 h)) (λ waits. (let a = waits.1 in let b = none.1 in omega (arith, a, b)))
  ]

  -- ---- what is noted in the end

  -- a port that lives
  new_alive : (p : ℕ) → t.live_port p ≡ true → length (noted_at e1 p).ends ≡ length (t.log p)
  new_alive p lives = elim (notes.settles p) [
    | inl h ↦ visited h (alive_queue p lives)
    | inr h ↦ same h
  ]
    where
      visited : Settled number (queued_at f p) (noted_at notes.mid p) (noted_at e1 p) → ((n : ℕ) × (queued_at f p ≡ Some n) × (t.taken p + n ≡ length (t.log p))) → length (noted_at e1 p).ends ≡ length (t.log p)
      visited h (n, at, all) =
          let g = subst (λ (o : Option ℕ). EndsBy number o (noted_at notes.mid p).taken (noted_at notes.mid p).ends (noted_at e1 p).ends) at h.ends in
          let a = mid_taken p in
          let b = mid_length p in
          let c = tells.few p in
          let d = goes.logs p in
          let full = g.count (omega (arith, a, b, c, d, all)) in
          omega (arith, full, a, all)

      same : (noted_at e1 p ≡ noted_at notes.mid p) × Apart p f.visited.items → length (noted_at e1 p).ends ≡ length (t.log p)
      same (is, apart) =
          let lived : s.live_port p ≡ true = sym (still_alive p apart) ∙ lives in
          let whole = tells.whole p lived in
          let a = ap (λ (x : Known). length x.ends) is in
          let b = mid_length p in
          let c = same_log p apart lives in
          omega (arith, whole, a, b, c)

  new_short : (p : ℕ) → (length (noted_at e p).ends ≤ length (noted_at e1 p).ends) × (length (noted_at e1 p).ends ≤ length (t.log p))
  new_short p = elim (true_or_false (t.live_port p)) [
    | inl lives ↦ (let a = new_alive p lives in let b = tells.few p in let c = goes.logs p in (omega (arith, a, b, c), omega (arith, a)))
    | inr gone ↦ (let a = dead_length p gone in let b = tells.few p in let c = goes.logs p in (omega (arith, a), omega (arith, a, b, c)))
  ]
    where
      dead_length : (p : ℕ) → t.live_port p ≡ false → length (noted_at e1 p).ends ≡ length (noted_at e p).ends
      dead_length p gone = elim (notes.settles p) [
        | inl h ↦ (let m = subst (λ (o : Option ℕ). EndsBy number o (noted_at notes.mid p).taken (noted_at notes.mid p).ends (noted_at e1 p).ends) (dead_queue p gone) h.ends in ap length m ∙ length-map (noted_at notes.mid p).ends (died number) ∙ mid_length p)
        | inr h ↦ ap (λ (x : Known). length x.ends) h.0 ∙ mid_length p
      ]

  -- queued before, and now
  waits_on : (p k : ℕ) → t.live_port p ≡ true → IsQueued s p k → t.taken p ≤ k → IsQueued t p k
  waits_on p k lives waits rest = (lives, rest, (let a = waits.2 in let b = goes.logs p in omega (arith, a, b)))

  later_alive : (p k : ℕ) (end : End) → t.live_port p ≡ true → IsLater p k end → IsEnd longer t p k end
  later_alive p k end lives (inl h) = h
  later_alive p k end lives (inr (q, waits, rest)) = subst (IsEnd longer t p k) (sym q) (waits_on p k lives waits rest)

  died_same : (end : End) → end ≢ End.Queued → died number end ≡ end
  died_same End.Queued not = absurd (not refl)
  died_same (End.Received n who) not = refl
  died_same (End.TooLong n) not = refl
  died_same (End.Died n) not = refl

  dies_now : (p k : ℕ) (end : End) → t.live_port p ≡ false → IsLater p k end → IsEnd longer t p k (died number end)
  dies_now p k end gone h = elim (is_queued end) [
    | inl q ↦ subst (λ (x : End). IsEnd longer t p k (died number x)) (sym q) (at_death (subst (IsLater p k) q h))
    | inr not ↦ subst (IsEnd longer t p k) (sym (died_same end not)) (elim h [ inl so ↦ so | inr waits ↦ absurd (not waits.0) ])
  ]
    where
      at_death : IsLater p k End.Queued → IsEnd longer t p k (End.Died number)
      at_death (inl waits) = absurd (not_both (t.live_port p) waits.0 gone)
      at_death (inr (q, waits, rest)) = (now, here, (waits.0, gone, rest, (let a = waits.2 in let b = goes.logs p in omega (arith, a, b))))

  new_said : (p k : ℕ) (end : End) → end_at e1 p k ≡ Some end → IsEnd longer t p k end
  new_said p k end h = elim (true_or_false (t.live_port p)) [
    | inl lives ↦ elim (notes.settles p) [
      | inl settled ↦ grown lives settled (alive_queue p lives)
      | inr same ↦ later_alive p k end lives (mid_said p k end (subst (λ (x : Known). slice_get x.ends k ≡ Some end) same.0 h))
    ]
    | inr gone ↦ elim (notes.settles p) [
      | inl settled ↦ (
          let m = subst (λ (o : Option ℕ). EndsBy number o (noted_at notes.mid p).taken (noted_at notes.mid p).ends (noted_at e1 p).ends) (dead_queue p gone) settled.ends in
          let g = get_mapped (died number) (noted_at notes.mid p).ends k end (subst (λ (xs : List End). slice_get xs k ≡ Some end) m h) in
          subst (IsEnd longer t p k) (sym g.2) (dies_now p k g.0 gone (mid_said p k g.0 g.1)))
      | inr same ↦ elim (mid_said p k end (subst (λ (x : Known). slice_get x.ends k ≡ Some end) same.0 h)) [
        | inl so ↦ so
        | inr waits ↦ absurd (not_both (s.live_port p) waits.1.0 (sym (still_alive p same.1) ∙ gone))
      ]
    ]
  ]
    where
      grown : t.live_port p ≡ true → Settled number (queued_at f p) (noted_at notes.mid p) (noted_at e1 p) → ((n : ℕ) × (queued_at f p ≡ Some n) × (t.taken p + n ≡ length (t.log p))) → IsEnd longer t p k end
      grown lives settled (n, at, all) =
          let g = subst (λ (o : Option ℕ). EndsBy number o (noted_at notes.mid p).taken (noted_at notes.mid p).ends (noted_at e1 p).ends) at settled.ends in
          elim (get_grown (noted_at notes.mid p).ends g.added k end g.same (subst (λ (xs : List End). slice_get xs k ≡ Some end) g.more h)) [
            | inl old ↦ later_alive p k end lives (mid_said p k end old)
            | inr new ↦ subst (IsEnd longer t p k) (sym new.1) (
              lives,
              (let a = new.0 in let b = mid_length p in behind a b (true_or_false (s.live_port p))),
              (let a = slice_get_within (noted_at e1 p).ends k end h in let b = new_alive p lives in omega (arith, a, b)),
            )
          ]
        where
          behind : length (noted_at notes.mid p).ends ≤ k → length (noted_at notes.mid p).ends ≡ length (noted_at e p).ends → (s.live_port p ≡ true) ⊎ (s.live_port p ≡ false) → t.taken p ≤ k
          behind a b (inl lived) = let c = tells.whole p lived in let d = (few_taken p).1 in omega (arith, a, b, c, d)
          behind a b (inr dead) = let c = nothing_yet p dead lives in let d = (few_taken p).1 in omega (arith, c, d)

  -- ---- no message has two fates

  -- what the stage did to a message, or that it waits
  abbrev IsNow : (p k : ℕ) → End → Type 0
  IsNow p k End.Queued = IsQueued t p k
  IsNow p k (End.Received n who) = (n ≡ number) × Removes now p k × ((bytes : List ℕ) × (reply ≡ Reply.Message bytes))
  IsNow p k (End.TooLong n) = (n ≡ number) × Removes now p k × ((many : ℕ) × (reply ≡ Reply.TooLarge many))
  IsNow p k (End.Died n) = (n ≡ number) × DiesWith now p k

  abbrev WasBefore : (p k : ℕ) → End → Type 0
  WasBefore p k end = IsEnd path s p k end × (end ≢ End.Queued)

  old_or_now : (p k : ℕ) (end : End) → IsEnd longer t p k end → WasBefore p k end ⊎ IsNow p k end
  old_or_now p k End.Queued h = inr h
  old_or_now p k (End.Received n who) (x, at, removes, r) = elim (which n x at) [
    | inl old ↦ inl ((x, old, removes, r), λ (h : End.Received n who ≡ End.Queued). cc)
    | inr new ↦ inr (new.0, subst (λ (y : Stage). Removes y p k) new.1 removes, subst (λ (y : Stage). (bytes : List ℕ) × (y.reply ≡ Reply.Message bytes)) new.1 r)
  ]
  old_or_now p k (End.TooLong n) (x, at, removes, r) = elim (which n x at) [
    | inl old ↦ inl ((x, old, removes, r), λ (h : End.TooLong n ≡ End.Queued). cc)
    | inr new ↦ inr (new.0, subst (λ (y : Stage). Removes y p k) new.1 removes, subst (λ (y : Stage). (many : ℕ) × (y.reply ≡ Reply.TooLarge many)) new.1 r)
  ]
  old_or_now p k (End.Died n) (x, at, dies) = elim (which n x at) [
    | inl old ↦ inl ((x, old, dies), λ (h : End.Died n ≡ End.Queued). cc)
    | inr new ↦ inr (new.0, subst (λ (y : Stage). DiesWith y p k) new.1 dies)
  ]

  -- a port of which messages are known, and that is dead, stays dead
  stays_dead : (p k : ℕ) → s.live_port p ≡ false → k < length (s.log p) → t.live_port p ≡ false
  stays_dead p k dead some = elim (below p s.ports_made) [
    | inl h ↦ goes.dead p h dead
    | inr h ↦ absurd (let a = ap length (goes.lawful.unmade_log p h) in omega (arith, a, some))
  ]

  gone_waits : (p k : ℕ) → t.taken p ≤ k → Removes now p k → ⊥
  gone_waits p k rest removes = let a = removes.1 in omega (arith, a, rest)

  removed_alive : (p k : ℕ) → Removes now p k → s.live_port p ≡ true
  removed_alive p k removes = elim (took_or_not p) [
    | inl h ↦ h.lives
    | inr h ↦ absurd (let a = removes.0 in let b = removes.1 in let c = h.1 in omega (arith, a, b, c))
  ]

  abbrev IsFresh : (p k : ℕ) → Type 0
  IsFresh p k = (s.taken p ≤ k) × (s.live_port p ≡ false → k < length (s.log p) → ⊥)

  fresh_removed : (p k : ℕ) → Removes now p k → IsFresh p k
  fresh_removed p k removes = ((let a = removes.0 in omega (arith, a)), λ dead some. not_both (s.live_port p) (removed_alive p k removes) dead)

  fresh : (p k : ℕ) (end : End) → IsNow p k end → IsFresh p k
  fresh p k End.Queued h = ((let a = (few_taken p).0 in let b = h.1 in omega (arith, a, b)), λ dead some. not_both (t.live_port p) h.0 (stays_dead p k dead some))
  fresh p k (End.Received n who) h = fresh_removed p k h.1
  fresh p k (End.TooLong n) h = fresh_removed p k h.1
  fresh p k (End.Died n) h = ((let a = (few_taken p).0 in let b = h.1.2 in omega (arith, a, b)), λ dead some. not_both (s.live_port p) h.1.0 dead)

  ended : (p k : ℕ) (end : End) → WasBefore p k end → (k < s.taken p) ⊎ (s.live_port p ≡ false) × (k < length (s.log p))
  ended p k End.Queued (h, not) = absurd (not refl)
  ended p k (End.Received n who) ((x, at, removes, r), not) = inl (tells.ends.removed n x at p k removes)
  ended p k (End.TooLong n) ((x, at, removes, r), not) = inl (tells.ends.removed n x at p k removes)
  ended p k (End.Died n) ((x, at, dies), not) = inr (tells.ends.dead n x at p k dies)

  not_again : (p k : ℕ) (a b : End) → WasBefore p k a → IsNow p k b → ⊥
  not_again p k a b was is_now = let rest = fresh p k b is_now in elim (ended p k a was) [
    | inl h ↦ (let few = rest.0 in omega (arith, h, few))
    | inr h ↦ rest.1 h.0 h.1
  ]

  two_replies : (bytes : List ℕ) (many : ℕ) → reply ≡ Reply.Message bytes → reply ≡ Reply.TooLarge many → ⊥
  two_replies bytes many a b = let e : Reply.Message bytes ≡ Reply.TooLarge many = sym a ∙ b in cc

  both_now : (p k : ℕ) (a b : End) → IsNow p k a → IsNow p k b → AreSame a b
  both_now p k End.Queued End.Queued a b = tt
  both_now p k End.Queued (End.Received n who) a b = absurd (gone_waits p k a.1 b.1)
  both_now p k End.Queued (End.TooLong n) a b = absurd (gone_waits p k a.1 b.1)
  both_now p k End.Queued (End.Died n) a b = absurd (not_both (t.live_port p) a.0 b.1.1)
  both_now p k (End.Received m one) End.Queued a b = absurd (gone_waits p k b.1 a.1)
  both_now p k (End.Received m one) (End.Received n who) a b = a.0 ∙ sym b.0
  both_now p k (End.Received m one) (End.TooLong n) a b = absurd (two_replies a.2.0 b.2.0 a.2.1 b.2.1)
  both_now p k (End.Received m one) (End.Died n) a b = absurd (gone_waits p k b.1.2 a.1)
  both_now p k (End.TooLong m) End.Queued a b = absurd (gone_waits p k b.1 a.1)
  both_now p k (End.TooLong m) (End.Received n who) a b = absurd (two_replies b.2.0 a.2.0 b.2.1 a.2.1)
  both_now p k (End.TooLong m) (End.TooLong n) a b = a.0 ∙ sym b.0
  both_now p k (End.TooLong m) (End.Died n) a b = absurd (gone_waits p k b.1.2 a.1)
  both_now p k (End.Died m) End.Queued a b = absurd (not_both (t.live_port p) b.0 a.1.1)
  both_now p k (End.Died m) (End.Received n who) a b = absurd (gone_waits p k a.1.2 b.1)
  both_now p k (End.Died m) (End.TooLong n) a b = absurd (gone_waits p k a.1.2 b.1)
  both_now p k (End.Died m) (End.Died n) a b = a.0 ∙ sym b.0

  one_fate : HaveOneEnd longer t
  one_fate = record {
    one = λ p k a b x y. elim (old_or_now p k a x) [
      | inl old ↦ elim (old_or_now p k b y) [
        | inl other ↦ tells.ends.one p k a b old.0 other.0
        | inr new ↦ absurd (not_again p k a b old new)
      ]
      | inr new ↦ elim (old_or_now p k b y) [
        | inl other ↦ absurd (not_again p k b a other new)
        | inr also ↦ both_now p k a b new also
      ]
    ];
    removed = λ n x at p k removes. elim (which n x at) [
      | inl old ↦ (let a = tells.ends.removed n x old p k removes in let b = (few_taken p).0 in omega (arith, a, b))
      | inr new ↦ (let a = (subst (λ (y : Stage). Removes y p k) new.1 removes).1 in omega (arith, a))
    ];
    dead = λ n x at p k dies. elim (which n x at) [
      | inl old ↦ (let h = tells.ends.dead n x old p k dies in (stays_dead p k h.0 h.1, (let a = h.1 in let b = goes.logs p in omega (arith, a, b))))
      | inr new ↦ (let h = subst (λ (y : Stage). DiesWith y p k) new.1 dies in (h.1, h.3))
    ];
  }

  pub tells_on : Tells e1 longer t
  tells_on = record {
    is_so = new_said;
    ends = one_fate;
    all = λ n x at p k queued. elim (which n x at) [
      | inl old ↦ (let h = tells.all n x old p k queued in
          let a = slice_get_within (noted_at e p).ends k h.0 h.1 in
          let b = (new_short p).0 in
          get_some (noted_at e1 p).ends k (omega (arith, a, b)))
      | inr new ↦ (let h = subst (λ (y : Stage). IsQueued y.after p k) new.1 queued in
          let a = h.2 in
          let b = new_alive p h.0 in
          get_some (noted_at e1 p).ends k (omega (arith, a, b)))
    ];
    taken = λ p. elim (notes.settles p) [
      | inl h ↦ h.taken ∙ mid_taken p
      | inr h ↦ ap (λ (x : Known). x.taken) h.0 ∙ mid_taken p
    ];
    few = λ p. (new_short p).1;
    whole = new_alive;
  }

-- nothing is noted at the beginning
pub tells_nothing : (profile : Profile) (e : Ends) → e.ports.entries ≡ [] → Tells e [] (opening_in profile)
tells_nothing profile e empty = record {
  is_so = λ p k end h. absurd (no_end end (sym (ap (λ (x : Known). slice_get x.ends k) (nothing p)) ∙ h));
  ends = record {
    one = λ p k a b x y. absurd (no_fate p k a x);
    removed = λ n x at. absurd (no_stage n x at);
    dead = λ n x at. absurd (no_stage n x at);
  };
  all = λ n x at. absurd (no_stage n x at);
  taken = λ p. ap (λ (x : Known). x.taken) (nothing p);
  few = λ p. (let a = ap (λ (x : Known). length x.ends) (nothing p) in omega (arith, a));
  whole = λ p lives. (let no : false ≡ true = lives in absurd (cc));
}
  where
    nothing : (p : ℕ) → noted_at e p ≡ record { taken = 0; ends = [] }
    nothing p = rw empty refl

    no_stage : (n : ℕ) (x : Stage) → IsStage [] n x → ⊥
    no_stage n x (k, is, at) = let no : None ≡ Some x = at in cc

    no_fate : (p k : ℕ) (end : End) → IsEnd [] (opening_in profile) p k end → ⊥
    no_fate p k End.Queued h = let no : false ≡ true = h.0 in cc
    no_fate p k (End.Received n who) (x, at, removes, r) = no_stage n x at
    no_fate p k (End.TooLong n) (x, at, removes, r) = no_stage n x at
    no_fate p k (End.Died n) (x, at, dies) = no_stage n x at
