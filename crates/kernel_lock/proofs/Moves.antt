-- Each step of a seat keeps the rule of the board.
use Rattle.std.proofs.Common.{◌≡◌, ◌≢◌, ℕ, zero, suc, ◌+◌, ◌<◌, ◌≤◌, ◌==◌, ◌&&◌, Bool, true, false, true≢false, List, [], ◌∷◌, ◌++◌, length, set, refl, sym, ap, ◌∙◌, subst, ⊎_elim, arith, length-append, eqb, eq-eqb, ne_eqb, lt_of_not-le}
use Rattle.std.specs.Prelude.{slice_index}
use mathlib.Core.Logic.{dite}
use native.Mathlib.Decide.{dec_le, ℕ_discrete}
use mathlib.Core.Option.{Option, none, some, some-ne-none, some-injective}
use lib.ListN.{get_elem?}
use prog.Atomic.{either}
use Rattle.atomic_table.specs.Table.{State, Me, step, keeps, opening, Allows, Splits, Joins}
use Rattle.atomic_table.proofs.Lists.{at_set}
use Rattle.mach_types.specs.declared.profiles.Profile.{Profile}
use Rattle.mach_model.specs.State.{opening_in}
use Rattle.kernel_lock.specs.declared.entry.Entry.{Entry}
use Rattle.kernel_lock.specs.declared.board.View.{View}
use Rattle.kernel_lock.specs.History.{Legal, calls_by, StartsWith}
use Rattle.kernel_lock.specs.Views.{desk_view, pass_view, watch_view, nobody, taken_in, published, desk_of, pass_of, desk_with_one_more, new_pass, new_watch, copy_of, informed}
use Rattle.kernel_lock.specs.Table.{Fits, FitsProfile, Kept, Looks, Confirms, Publishes, pick}
use Rattle.kernel_lock.proofs.Lists.{starts_self, starts_empty, starts_more, at_end, calls_own, calls_other}

abbrev Seats : Type 0
Seats = ℕ → Option ℕ

abbrev Board : Type 0
Board = State Entry View

-- the caller c sits at x
abbrev move_to : Seats → ℕ → Option ℕ → Seats
move_to seat c x k = pick (eqb k c) x (seat k)

off : {A : Type 0} → false ≡ true → A
off e = absurd (true≢false (sym e))

moved_here : (seat : Seats) (c : ℕ) (x : Option ℕ) → move_to seat c x c ≡ x
moved_here seat c x = ap (λ b. pick b x (seat c)) (eq-eqb c c refl)

moved_else : (seat : Seats) (c k : ℕ) (x : Option ℕ) → k ≢ c → move_to seat c x k ≡ seat k
moved_else seat c k x other = ap (λ b. pick b x (seat k)) (ne_eqb k c other)

both_true : (a b : Bool) → (a && b) ≡ true → (a ≡ true) × (b ≡ true)
both_true true b e = (refl, e)
both_true false b e = off e

pub knows_both : {a b : Bool} → a ≡ true → b ≡ true → (a && b) ≡ true
knows_both {a} {b} p q = ap (λ x. x && b) p ∙ q

-- a pass's view, by its own fields
pub own_view : (me : Me Entry View) (q : Profile) (caller : ℕ) (mine seen : List Entry) → me ≡ (pass_view q caller mine seen, []) → me ≡ (pass_view me.0.profile me.0.caller me.0.mine me.0.seen, [])
own_view me q caller mine seen is = is ∙ (λ i. (pass_view (sym is i).0.profile (sym is i).0.caller (sym is i).0.mine (sym is i).0.seen, []))

module _ (profile : Profile) where
  -- what no one calls for fits as it did, where the history stays
  quiet : (seat : Seats) (desk : ℕ) (log : List Entry) (id : ℕ) (v : View) → v.desk ≡ false → v.calls ≡ false → StartsWith log v.seen → StartsWith log v.told → FitsProfile profile v → Fits profile seat desk log id v
  quiet seat desk log id v not_desk not_calling a b of = (a, b, (λ e. off (sym not_desk ∙ e)), (λ e. off (sym not_calling ∙ e)), of)

  empty_fits : (seat : Seats) (desk : ℕ) (log : List Entry) (id : ℕ) → Fits profile seat desk log id nobody
  empty_fits seat desk log id = quiet seat desk log id nobody refl refl (starts_empty log) (starts_empty log) (λ e. off e)

  pub begins : Kept profile (opening (0 ∷ []) [] (desk_view profile [] 0))
  begins = record {
    log = [];
    desk = 0;
    seat = λ c. none;
    words = refl;
    legal = record { state = opening_in profile; leads = refl };
    fits = one;
  }
    where
      one : (id : ℕ) (v : View) → get_elem? (desk_view profile [] 0 ∷ []) id ≡ some v → Fits profile (λ c. none) 0 [] id v
      one zero v e = subst (Fits profile (λ c. none) 0 [] 0) (some-injective _ _ e) (starts_empty [], starts_empty [], (λ _. (refl, refl, λ c le. refl)), (λ e. off e), (λ _. (refl, refl)))
      one (suc id) v e = absurd (some-ne-none v (sym e))

  -- all views fit where one was changed
  fits_set : (seat : Seats) (desk : ℕ) (log : List Entry) (views : List View) (id : ℕ) (w : View)
      → ((j : ℕ) (u : View) → j ≢ id → get_elem? views j ≡ some u → Fits profile seat desk log j u) → Fits profile seat desk log id w
      → (j : ℕ) (u : View) → get_elem? (set views id w) j ≡ some u → Fits profile seat desk log j u
  fits_set seat desk log views id w others mine j u e =
      ⊎_elim
      (λ (x : (j ≡ id) × (w ≡ u)). subst (λ (y : ℕ × View). Fits profile seat desk log y.0 y.1) (λ i. (sym x.0 i, x.1 i)) mine)
      (λ (x : (j ≢ id) × (get_elem? views j ≡ some u)). others j u x.0 x.1)
      (at_set views id j w u e)

  length_set : (views : List View) (id : ℕ) (w : View) → length (set views id w) ≡ length views
  length_set [] id w = refl
  length_set (x ∷ xs) zero w = refl
  length_set (x ∷ xs) (suc id) w = ap suc (length_set xs id w)

  -- a view is cut in two
  cut : (s : Board) (k : Kept profile s) (id : ℕ) (left right : View) (seat : Seats)
      → ((j : ℕ) (u : View) → j ≢ id → get_elem? s.views j ≡ some u → Fits profile seat k.desk k.log j u)
      → Fits profile seat k.desk k.log id left → Fits profile seat k.desk k.log (length s.views) right
      → Kept profile record { words = s.words; homes = s.homes; views = set s.views id left ++ right ∷ [] }
  cut s k id left right seat others mine new = record {
    log = k.log;
    desk = k.desk;
    seat = seat;
    words = k.words;
    legal = k.legal;
    fits = λ j u e.
        ⊎_elim
        (λ was. fits_set seat k.desk k.log s.views id left others mine j u was)
        (λ (x : (j ≡ length (set s.views id left)) × (right ≡ u)). subst (λ (y : ℕ × View). Fits profile seat k.desk k.log y.0 y.1) (λ i. (sym (x.0 ∙ length_set s.views id left) i, x.1 i)) new)
        (at_end (set s.views id left) right u j e);
  }

  -- a view stays, and a quiet one is added, which knows the profile where that one does
  add_quiet : (s : Board) (k : Kept profile s) (id : ℕ) (v : View) (seen : List Entry) → get_elem? s.views id ≡ some v → StartsWith k.log seen
      → Kept profile record { words = s.words; homes = s.homes; views = set s.views id v ++ (record (watch_view v.profile seen) { knows = v.knows }) ∷ [] }
  add_quiet s k id v seen at begun =
      let f = k.fits id v at in
      let one : View = record (watch_view v.profile seen) { knows = v.knows } in
      cut s k id v one k.seat (λ j u apart e. k.fits j u e) f (quiet k.seat k.desk k.log (length s.views) one refl refl begun (starts_empty k.log) (λ knows. ((f.4 knows).0, (f.4 knows).0)))

  pub makes_watch : (id : ℕ) (v : View) → Splits {S = Entry} (Kept profile) id v v (new_watch v)
  makes_watch id v s k at = add_quiet s k id v [] at (starts_empty k.log)

  pub copies : (id : ℕ) (v : View) → Splits {S = Entry} (Kept profile) id v v (copy_of v)
  copies id v s k at = add_quiet s k id v v.seen at ((k.fits id v at).0)

  -- where a caller moves from the seat id, the others fit as they did
  others_fit : (seat : Seats) (desk : ℕ) (log : List Entry) (c id : ℕ) (x : Option ℕ) → seat c ≡ some id → (j : ℕ) (u : View) → j ≢ id → Fits profile seat desk log j u → Fits profile (move_to seat c x) desk log j u
  others_fit seat desk log c id x here j u apart f = (
    f.0,
    f.1,
    (λ d. let g = f.2 d in (g.0, g.1, λ n le. dite (ℕ_discrete n c) (λ e. absurd (some-ne-none id (sym here ∙ ap seat (sym e) ∙ g.2 n le))) (λ ne. moved_else seat c n x ne ∙ g.2 n le))),
    (λ d. let g = f.3 d in (dite (ℕ_discrete u.caller c) (λ e. absurd (apart (some-injective j id (sym g.0 ∙ ap seat e ∙ here)))) (λ ne. moved_else seat c u.caller x ne ∙ g.0), g.1)),
    f.4,
  )

  -- a pass goes to a new seat
  pub leaves : (id : ℕ) (q : Profile) (caller : ℕ) (mine seen : List Entry) → Splits {S = Entry} (Kept profile) id (pass_view q caller mine seen) nobody (pass_view q caller mine seen)
  leaves id q caller mine seen s k at =
      let f = k.fits id (pass_view q caller mine seen) at in
      let g = f.3 refl in
      let x = some (length s.views) in
      cut s k id nobody (pass_view q caller mine seen) (move_to k.seat caller x) (λ j u apart e. others_fit k.seat k.desk k.log caller id x g.0 j u apart (k.fits j u e)) (empty_fits _ k.desk k.log id) (f.0, f.1, (λ e. off e), (λ _. (moved_here k.seat caller x, g.1)), f.4)

  -- the lock's seat makes a pass
  pub makes_pass : (id : ℕ) (q : Profile) (log : List Entry) (made : ℕ) → calls_by made log ≡ [] → Splits {S = Entry} (Kept profile) id (desk_view q log made) (desk_view q log (made + 1)) (pass_view q made [] [])
  makes_pass id q log made none_yet s k at =
      let v = desk_view q log made in
      let f = k.fits id v at in
      let g = f.2 refl in
      let x = some (length s.views) in
      let free : k.seat made ≡ none = g.2 made (omega arith) in
      let others : (j : ℕ) (u : View) → j ≢ id → get_elem? s.views j ≡ some u → Fits profile (move_to k.seat made x) k.desk k.log j u = λ j u apart e.
      let h = k.fits j u e in (
        h.0,
        h.1,
        (λ d. absurd (apart ((h.2 d).0 ∙ sym g.0))),
        (λ d. let p = h.3 d in ((moved_else k.seat made u.caller x (λ e'. some-ne-none j (sym p.0 ∙ ap k.seat e' ∙ free))) ∙ p.0, p.1)),
        h.4,
      ) in
      cut s k id (desk_view q log (made + 1)) (pass_view q made [] []) (move_to k.seat made x) others
      (f.0, f.1, (λ _. (g.0, g.1, (λ n le. moved_else k.seat made n x (λ e. omega arith) ∙ g.2 n (omega arith)))), (λ e. off e), f.4)
      (starts_empty k.log, starts_empty k.log, (λ e. off e), (λ _. (moved_here k.seat made x, ap (calls_by made) (sym g.1) ∙ none_yet)), f.4)

  -- the lock's seat gives a pass back
  pub gives_back : (id : ℕ) (v : View) → v.desk ≡ true → v.calls ≡ true → Splits {S = Entry} (Kept profile) id v (desk_of v) (pass_of v)
  gives_back id v is_desk is_calling s k at =
      let f = k.fits id v at in
      let g = f.2 is_desk in
      let p = f.3 is_calling in
      let x = some (length s.views) in
      cut s k id (desk_of v) (pass_of v) (move_to k.seat v.caller x) (λ j u apart e. others_fit k.seat k.desk k.log v.caller id x p.0 j u apart (k.fits j u e))
      (f.0, starts_empty k.log, (λ _. (g.0, g.1, (λ n le. dite (ℕ_discrete n v.caller) (λ e. absurd (some-ne-none id (sym p.0 ∙ ap k.seat (sym e) ∙ g.2 n le))) (λ ne. moved_else k.seat v.caller n x ne ∙ g.2 n le)))), (λ e. off e), (λ knows. ((f.4 knows).0, (f.4 knows).0)))
      (f.0, starts_empty k.log, (λ e. off e), (λ _. (moved_here k.seat v.caller x, p.1)), (λ knows. ((f.4 knows).1, (f.4 knows).1)))

  -- a seat takes in another's view
  joined : (s : Board) (k : Kept profile s) (id : ℕ) (w : View) (other : ℕ) (u both : View) (seat : Seats) → ¬ (other ≡ id) → get_elem? (set s.views id both) other ≡ some u
      → ((j : ℕ) (u : View) → j ≢ id → j ≢ other → get_elem? s.views j ≡ some u → Fits profile seat k.desk k.log j u)
      → Fits profile seat k.desk k.log id both
      → Kept profile record { words = s.words; homes = s.homes; views = set (set s.views id both) other nobody }
  joined s k id w other u both seat apart there others mine = record {
    log = k.log;
    desk = k.desk;
    seat = seat;
    words = k.words;
    legal = k.legal;
    fits = fits_set seat k.desk k.log (set s.views id both) other nobody
        (λ j t far e. ⊎_elim
        (λ (x : (j ≡ id) × (both ≡ t)). subst (λ (y : ℕ × View). Fits profile seat k.desk k.log y.0 y.1) (λ i. (sym x.0 i, x.1 i)) mine)
        (λ (x : (j ≢ id) × (get_elem? s.views j ≡ some t)). others j t x.0 far x.1)
        (at_set s.views id j both t e))
        (empty_fits seat k.desk k.log other);
  }

  there_before : (views : List View) (id other : ℕ) (both u : View) → ¬ (other ≡ id) → get_elem? (set views id both) other ≡ some u → get_elem? views other ≡ some u
  there_before views id other both u apart there = ⊎_elim (λ (t : (other ≡ id) × (both ≡ u)). absurd (apart t.0)) (λ (t : (other ≢ id) × (get_elem? views other ≡ some u)). t.1) (at_set views id other both u there)

  pub takes_in : (id : ℕ) (q : Profile) (log : List Entry) (made other : ℕ) (r : Profile) (caller : ℕ) (mine seen : List Entry)
      → Joins {S = Entry} (Kept profile) id (desk_view q log made) other (pass_view r caller mine seen) (taken_in (desk_view q log made) (pass_view r caller mine seen)) nobody
  takes_in id q log made other r caller mine seen s k at apart there =
      let v = desk_view q log made in
      let u = pass_view r caller mine seen in
      let both = taken_in v u in
      let f = k.fits id v at in
      let g = f.2 refl in
      let h = k.fits other u (there_before s.views id other both u apart there) in
      let p = h.3 refl in
      let x = some id in
      let seat = move_to k.seat caller x in
      joined s k id v other u both seat apart there (λ j t _ far e. others_fit k.seat k.desk k.log caller other x p.0 j t far (k.fits j t e))
      (f.0, h.0, (λ _. (g.0, g.1, (λ n le. dite (ℕ_discrete n caller) (λ e. absurd (some-ne-none other (sym p.0 ∙ ap k.seat (sym e) ∙ g.2 n le))) (λ ne. moved_else k.seat caller n x ne ∙ g.2 n le)))), (λ _. (moved_here k.seat caller x, p.1)), (λ _. ((f.4 refl).0, (h.4 refl).0)))

  pub informs : (id : ℕ) (v : View) (other : ℕ) (u : View) → Joins {S = Entry} (Kept profile) id v other u (informed v u) nobody
  informs id v other u s k at apart there =
      let both = informed v u in
      let f = k.fits id v at in
      let h = k.fits other u (there_before s.views id other both u apart there) in
      let of : FitsProfile profile both = λ knows. let know = both_true v.knows u.knows knows in ((f.4 know.0).0, (h.4 know.1).0) in
      joined s k id v other u both k.seat apart there (λ j t _ _ e. k.fits j t e) (quiet k.seat k.desk k.log id both refl refl f.0 h.0 of)

  -- a watch looks
  pub looks : (slots id : ℕ) (v : View) → v.knows ≡ true → Allows (Kept profile) slots id (v, []) 0 (λ n. n) (Looks (step slots 0 0 0 none) (v, []))
  looks slots id v knows s k homes at small =
      let f = k.fits id v at in
      let of = f.4 knows in
      let now : View = watch_view v.profile k.log in (
        now,
        keeps,
        tt,
        record {
          log = k.log;
          desk = k.desk;
          seat = k.seat;
          words = subst (λ (ws : List ℕ). set ws 0 (slice_index ws 0) ≡ length k.log ∷ []) (sym k.words) refl;
          legal = k.legal;
          fits = fits_set k.seat k.desk k.log s.views id now (λ j u apart e. k.fits j u e) (quiet k.seat k.desk k.log id now refl refl (starts_self k.log) (starts_empty k.log) (λ _. (of.0, of.0)));
        },
        (k.log, refl, ap (λ (ws : List ℕ). slice_index ws 0) (sym k.words), subst (λ q. Legal q k.log) (sym of.0) k.legal, f.0, f.1, of.1 ∙ sym of.0),
      )

  -- the lock's seat looks with a pass in hand
  pub confirms : (slots id : ℕ) (v : View) → v.desk ≡ true → v.calls ≡ true → v.knows ≡ true → Allows (Kept profile) slots id (v, []) 0 (λ n. n) (Confirms (step slots 0 0 0 none) (v, []))
  confirms slots id v is_desk is_calling knows s k homes at small =
      let f = k.fits id v at in
      let g = f.2 is_desk in
      let p = f.3 is_calling in (
        v,
        keeps,
        tt,
        record {
          log = k.log;
          desk = k.desk;
          seat = k.seat;
          words = subst (λ (ws : List ℕ). set ws 0 (slice_index ws 0) ≡ length k.log ∷ []) (sym k.words) refl;
          legal = k.legal;
          fits = fits_set k.seat k.desk k.log s.views id v (λ j u apart e. k.fits j u e) f;
        },
        (refl, subst (λ l. StartsWith l v.told) (sym g.1) f.1, ap (calls_by v.caller) g.1 ∙ p.1, (f.4 knows).1 ∙ sym (f.4 knows).0),
      )

  -- the lock's seat publishes a call of the pass that it has in hand
  pub publishes : (slots id : ℕ) (v : View) (length_now : ℕ) (e : Entry) → v.desk ≡ true → v.calls ≡ true → v.knows ≡ true → length v.seen ≡ length_now → e.caller ≡ v.caller → Legal v.profile (v.seen ++ e ∷ [])
      → Allows (Kept profile) slots id (v, []) 0 (λ n. either (n == length_now) (length_now + 1) n) (Publishes (step slots 0 length_now (length_now + 1) (some e)) (v, []))
  publishes slots id v n e is_desk is_calling knows len own legal s k homes at small =
      let f = k.fits id v at in
      let g = f.2 is_desk in
      let p = f.3 is_calling in
      let log = k.log ++ e ∷ [] in
      let seen_is : v.seen ++ e ∷ [] ≡ log = ap (λ l. l ++ e ∷ []) g.1 in
      let found : slice_index s.words 0 ≡ n = ap (λ (ws : List ℕ). slice_index ws 0) k.words ∙ ap length (sym g.1) ∙ len in
      let wrote : either (slice_index s.words 0 == n) (n + 1) (slice_index s.words 0) ≡ length log = ap (λ b. either b (n + 1) (slice_index s.words 0)) (eq-eqb (slice_index s.words 0) n found) ∙ omega (arith, length-append k.log (e ∷ []), len, ap length g.1) in
      let others : (j : ℕ) (u : View) → j ≢ id → get_elem? s.views j ≡ some u → Fits profile k.seat k.desk log j u = λ j u apart there.
      let h = k.fits j u there in (
        starts_more k.log u.seen (e ∷ []) h.0,
        starts_more k.log u.told (e ∷ []) h.1,
        (λ d. absurd (apart ((h.2 d).0 ∙ sym g.0))),
        (λ d. let q = h.3 d in (q.0, calls_other u.caller k.log e (λ same. apart (some-injective j id (sym q.0 ∙ ap k.seat (sym same ∙ own) ∙ p.0))) ∙ q.1)),
        h.4,
      ) in (
        published v e,
        keeps,
        tt,
        record {
          log = log;
          desk = k.desk;
          seat = k.seat;
          words = subst (λ (ws : List ℕ). set ws 0 (either (slice_index s.words 0 == n) (n + 1) (slice_index s.words 0)) ≡ length log ∷ []) (sym k.words) (ap (λ (z : ℕ). z ∷ []) wrote);
          legal = subst (λ (x : Profile × List Entry). Legal x.0 x.1) (λ i. ((f.4 knows).0 i, seen_is i)) legal;
          fits = fits_set k.seat k.desk log s.views id (published v e) others
              (subst (StartsWith log) (sym seen_is) (starts_self log), starts_more k.log v.told (e ∷ []) f.1, (λ _. (g.0, seen_is, g.2)), (λ _. (p.0, calls_own v.caller k.log e own ∙ ap (λ l. l ++ e ∷ []) p.1)), f.4);
        },
        (refl, subst (λ l. StartsWith l v.told) (sym g.1) f.1, ap (calls_by v.caller) g.1 ∙ p.1, given_out p.0 g.2, (f.4 knows).1 ∙ sym (f.4 knows).0),
      )
    where
      given_out : k.seat v.caller ≡ some id → ((c : ℕ) → v.made ≤ c → k.seat c ≡ none) → v.caller < v.made
      given_out here free = dite (dec_le v.made v.caller) (λ le. absurd (some-ne-none id (sym here ∙ free v.caller le))) (λ gt. lt_of_not-le gt)

  -- the same moves, at a view that is known
  pub looks_as : (slots id : ℕ) (me : Me Entry View) (v : View) → me ≡ (v, []) → v.knows ≡ true → Allows (Kept profile) slots id me 0 (λ n. n) (Looks (step slots 0 0 0 none) me)
  looks_as slots id me v is knows = subst (λ (m : Me Entry View). Allows (Kept profile) slots id m 0 (λ n. n) (Looks (step slots 0 0 0 none) m)) (sym is) (looks slots id v knows)

  pub confirms_as : (slots id : ℕ) (me : Me Entry View) (v : View) → me ≡ (v, []) → v.desk ≡ true → v.calls ≡ true → v.knows ≡ true → Allows (Kept profile) slots id me 0 (λ n. n) (Confirms (step slots 0 0 0 none) me)
  confirms_as slots id me v is is_desk is_calling knows =
      subst (λ (m : Me Entry View). Allows (Kept profile) slots id m 0 (λ n. n) (Confirms (step slots 0 0 0 none) m)) (sym is) (confirms slots id v is_desk is_calling knows)

  pub leaves_as : (id : ℕ) (q : Profile) (caller : ℕ) (v : View) (mine seen : List Entry) → v ≡ pass_view q caller mine seen → Splits {S = Entry} (Kept profile) id v nobody v
  leaves_as id q caller v mine seen is = subst (λ (u : View). Splits {S = Entry} (Kept profile) id u nobody u) (sym is) (leaves id q caller mine seen)

  pub makes_pass_as : (id : ℕ) (v : View) (q : Profile) (log : List Entry) (made : ℕ) → v ≡ desk_view q log made → calls_by made log ≡ [] → Splits {S = Entry} (Kept profile) id v (desk_with_one_more v) (new_pass v)
  makes_pass_as id v q log made is none_yet = subst (λ (u : View). Splits {S = Entry} (Kept profile) id u (desk_with_one_more u) (new_pass u)) (sym is) (makes_pass id q log made none_yet)

  pub takes_in_as : (id : ℕ) (v : View) (q : Profile) (log : List Entry) (made other : ℕ) (u : View) (r : Profile) (caller : ℕ) (mine seen : List Entry) → v ≡ desk_view q log made → u ≡ pass_view r caller mine seen
      → Joins {S = Entry} (Kept profile) id v other u (taken_in v u) nobody
  takes_in_as id v q log made other u r caller mine seen is is' =
      subst (λ (p : View × View). Joins {S = Entry} (Kept profile) id p.0 other p.1 (taken_in p.0 p.1) nobody) (λ i. (sym is i, sym is' i)) (takes_in id q log made other r caller mine seen)

  pub publishes_as : (slots id : ℕ) (me : Me Entry View) (v : View) (n : ℕ) (e : Entry) → me ≡ (v, []) → v.desk ≡ true → v.calls ≡ true → v.knows ≡ true → length v.seen ≡ n → e.caller ≡ v.caller → Legal v.profile (v.seen ++ e ∷ [])
      → Allows (Kept profile) slots id me 0 (λ k. either (k == n) (n + 1) k) (Publishes (step slots 0 n (n + 1) (some e)) me)
  publishes_as slots id me v n e is is_desk is_calling knows len own legal =
      subst (λ (m : Me Entry View). Allows (Kept profile) slots id m 0 (λ k. either (k == n) (n + 1) k) (Publishes (step slots 0 n (n + 1) (some e)) m)) (sym is) (publishes slots id v n e is_desk is_calling knows len own legal)
