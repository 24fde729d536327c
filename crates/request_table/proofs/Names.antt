-- The names of each port, from the lists of their items.
use Rattle.std.proofs.Common.{◌≡◌, inl, inr, ℕ, ◌<◌, Bool, true, false, cond, not, eqb, Option, Some, None, List, [], ◌∷◌, ◌++◌, slice_get, refl, ap, sym, subst, ◌∙◌, arith, Contains}
use Rattle.std.specs.Prelude as std
use Rattle.std.specs.Prelude.{unwrap_or}
use Rattle.std.specs.Option.{option_map}
use Rattle.std.specs.FinMap as map
use Rattle.std.specs.Ordering.{nat_cmp}
use Rattle.member_lists.specs.Lists.{ListsView, list_of, with_list, without}
use Rattle.member_lists.specs.Chains.{times}
use Rattle.member_lists.proofs.Times.{equal_or_not, times_here, times_more, Contains_from_times}
use Rattle.member_lists.proofs.Sound.{put_here, put_other, out_here, out_other, same_gets}
use Rattle.request_table.specs.Requests.{with_names}
use Rattle.request_table.specs.Kept.{key_at, names_at}
use Rattle.request_table.proofs.View.{get-with_values, len-with_values}

abbrev Named : Type 0
Named = map.FinMap nat_cmp (List ℕ)

abbrev pub keys_at : List ℕ → List ℕ → List ℕ
keys_at keys items = std.map (key_at keys) items

module _ (keys : List ℕ) where
  -- ---- a list of items

  through : (b : Bool) (x : ℕ) (xs : List ℕ) → keys_at keys (cond b (x ∷ xs) xs) ≡ cond b (key_at keys x ∷ keys_at keys xs) (keys_at keys xs)
  through true x xs = refl
  through false x xs = refl

  pub keys-without : (item key : ℕ) (xs : List ℕ) → ((x : ℕ) → 0 < times x xs → eqb (key_at keys x) key ≡ eqb x item) → keys_at keys (without item xs) ≡ without key (keys_at keys xs)
  keys-without item key [] own = refl
  keys-without item key (x ∷ xs) own =
      let here : eqb (key_at keys x) key ≡ eqb x item = own x (let e = times_here x x xs refl in omega arith) in
      let rest : keys_at keys (without item xs) ≡ without key (keys_at keys xs) = keys-without item key xs (λ k more. own k (let e = times_more k x xs in omega arith)) in
      through (not (eqb x item)) x (without item xs)
      ∙ ap (λ l. cond (not (eqb x item)) (key_at keys x ∷ l) l) rest
      ∙ ap (λ b. cond (not b) (key_at keys x ∷ without key (keys_at keys xs)) (without key (keys_at keys xs))) (sym here)

  pub keys-pushed : (xs : List ℕ) (item : ℕ) → keys_at keys (xs ++ item ∷ []) ≡ keys_at keys xs ++ key_at keys item ∷ []
  keys-pushed [] item = refl
  keys-pushed (x ∷ xs) item = ap (λ ys. key_at keys x ∷ ys) (keys-pushed xs item)

  pub keys-first : (xs : List ℕ) → slice_get (keys_at keys xs) 0 ≡ option_map (key_at keys) (slice_get xs 0)
  keys-first [] = refl
  keys-first (x ∷ xs) = refl

  keys-same : (new : List ℕ) (xs : List ℕ) → ((x : ℕ) → 0 < times x xs → key_at new x ≡ key_at keys x) → keys_at new xs ≡ keys_at keys xs
  keys-same new [] same = refl
  keys-same new (x ∷ xs) same =
      ap (λ n. n ∷ keys_at new xs) (same x (let e = times_here x x xs refl in omega arith))
      ∙ ap (λ l. key_at keys x ∷ l) (keys-same new xs (λ k more. same k (let e = times_more k x xs in omega arith)))

  -- ---- all lists

  get-names : (lists : Named) (q : ℕ) → map.get (names_at keys lists) q ≡ option_map (keys_at keys) (map.get lists q)
  get-names lists q = get-with_values (keys_at keys) lists q

  of_mapped : (o : Option (List ℕ)) → unwrap_or (option_map (keys_at keys) o) [] ≡ keys_at keys (unwrap_or o [])
  of_mapped None = refl
  of_mapped (Some xs) = refl

  pub names-list : (v : ListsView) (q : ℕ) → unwrap_or (map.get (names_at keys v.lists) q) [] ≡ keys_at keys (list_of v q)
  names-list v q = ap (λ o. unwrap_or o []) (get-names v.lists q) ∙ of_mapped (map.get v.lists q)

  pub names-with_list : (v : ListsView) (l : ℕ) (ys : List ℕ) → names_at keys (with_list v l ys).lists ≡ with_names (names_at keys v.lists) l (keys_at keys ys)
  names-with_list v l [] = same_gets _ _ (λ q. elim (equal_or_not q l) [
    | inl e ↦ get-names (map.remove v.lists l) q ∙ ap (λ n. option_map (keys_at keys) (map.get (map.remove v.lists l) n)) e ∙ ap (option_map (keys_at keys)) (out_here v.lists l)
        ∙ sym (ap (map.get (map.remove (names_at keys v.lists) l)) e ∙ out_here (names_at keys v.lists) l)
    | inr d ↦ get-names (map.remove v.lists l) q ∙ ap (option_map (keys_at keys)) (out_other v.lists l q d) ∙ sym (get-names v.lists q) ∙ sym (out_other (names_at keys v.lists) l q d)
  ])
  names-with_list v l (y ∷ ys) = same_gets _ _ (λ q. elim (equal_or_not q l) [
    | inl e ↦ get-names (map.insert v.lists l (y ∷ ys)) q ∙ ap (λ n. option_map (keys_at keys) (map.get (map.insert v.lists l (y ∷ ys)) n)) e ∙ ap (option_map (keys_at keys)) (put_here v.lists l (y ∷ ys))
        ∙ sym (ap (map.get (map.insert (names_at keys v.lists) l (keys_at keys (y ∷ ys)))) e ∙ put_here (names_at keys v.lists) l (keys_at keys (y ∷ ys)))
    | inr d ↦ get-names (map.insert v.lists l (y ∷ ys)) q ∙ ap (option_map (keys_at keys)) (put_other v.lists l (y ∷ ys) q d) ∙ sym (get-names v.lists q)
        ∙ sym (put_other (names_at keys v.lists) l (keys_at keys (y ∷ ys)) q d)
  ])

  -- the same names for the items that stand in lists
  pub names-same : (new : List ℕ) (v : ListsView) → ((x l : ℕ) → Contains (list_of v l) x → key_at new x ≡ key_at keys x) → names_at new v.lists ≡ names_at keys v.lists
  names-same new v same = same_gets _ _ (λ q. get-with_values (keys_at new) v.lists q ∙ same_at q (map.get v.lists q) refl ∙ sym (get-names v.lists q))
    where
      same_at : (q : ℕ) (o : Option (List ℕ)) → map.get v.lists q ≡ o → option_map (keys_at new) o ≡ option_map (keys_at keys) o
      same_at q None h = refl
      same_at q (Some xs) h = ap (λ l. Some l) (keys-same new xs (λ x more. same x q (subst (λ l. Contains l x) (sym (ap (λ o. unwrap_or o []) h)) (Contains_from_times x xs more))))

  pub names-none : (lists : Named) → lists ≡ map.empty → names_at keys lists ≡ map.empty
  names-none lists e = map.empty_of_len _ (len-with_values (keys_at keys) lists ∙ ap (λ (m : Named). map.len m) e ∙ map.len-empty nat_cmp (List ℕ))
