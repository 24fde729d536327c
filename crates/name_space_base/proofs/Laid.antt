-- What stands under each number, by its page and its place there.
use Rattle.std.proofs.Common.{◌≡◌, ◌≢◌, inl, inr, ℕ, ◌+◌, ◌*◌, ◌/◌, ◌%◌, ◌<◌, ◌≤◌, ltb, Bool, List, [], ◌∷◌, ◌++◌, length, get_or, set, Option, Some, None, ap, sym, ◌∙◌, arith}
use Rattle.std.proofs.lemmas.Bool.{cases_eq, cases_lt, cases_order, le-ltb}
use Rattle.std.proofs.lemmas.List.{get_or-set_same, get_or-set_other, get_or_past, get_or_append_left, get_or_push, get_or_default, length-set, length_push}
use Rattle.std.specs.Ordering.{nat_cmp}
use Rattle.std.specs.FinMap as map
use Rattle.std.specs.FinSet as finset
use Rattle.name_space_base.specs.Pages.{PagesView}
use Rattle.name_space_base.specs.Sound.{page_at, look, values_of, made_of}
use Rattle.name_space_base.proofs.Tables.{tabulated-below, tabulated-above, chosen-below, chosen-above, same_gets, same_sets, put_here, put_other, out_here, out_other}

-- the values of each page
abbrev pub Sheets : Type 0 → Type 0
Sheets T = List (List (Option T))

same_number : (q n : ℕ) → q / 256 ≡ n / 256 → q % 256 ≡ n % 256 → q ≡ n
same_number q n d m = omega arith

module _ {T : Type 0} where
  abbrev pub view-of : map.FinMap nat_cmp T → ℕ → finset.FinSet nat_cmp → PagesView T
  view-of values room made = record { values = values; room = room; made = made }

  pub page_at-past : (ps : Sheets T) (p : ℕ) → length ps ≤ p → page_at ps p ≡ []
  page_at-past ps p h = get_or_past ps p [] h

  -- a page that isn't made is put at the end
  pub page_at-push : (ps : Sheets T) (p : ℕ) → page_at (ps ++ [] ∷ []) p ≡ page_at ps p
  page_at-push ps p = elim (cases_order p (length ps)) [
    | inl e ↦ get_or_push ps [] [] p (sym e) ∙ sym (page_at-past ps p (omega arith))
    | inr o ↦ elim o [
      | inl h ↦ get_or_append_left ps ([] ∷ []) [] p h
      | inr h ↦ page_at-past (ps ++ [] ∷ []) p (let e : length (ps ++ [] ∷ []) ≡ length ps + 1 = length_push ps [] in omega arith) ∙ sym (page_at-past ps p (omega arith))
    ]
  ]

  pub page_at-same : (ps : Sheets T) (p : ℕ) (x : List (Option T)) → p < length ps → page_at (set ps p x) p ≡ x
  page_at-same ps p x h = get_or-set_same ps p x [] h

  pub page_at-other : (ps : Sheets T) (p q : ℕ) (x : List (Option T)) → q ≢ p → page_at (set ps p x) q ≡ page_at ps q
  page_at-other ps p q x n = get_or-set_other ps p q x [] n

  -- a page that is made is in the list
  pub in_list : (ps : Sheets T) (p : ℕ) → 0 < length (page_at ps p) → p < length ps
  in_list ps p h = elim (cases_lt p (length ps)) [
    | inl k ↦ k
    | inr k ↦ absurd (let e : length (page_at ps p) ≡ 0 = ap length (page_at-past ps p k) in omega arith)
  ]

  pub look-past : (ps : Sheets T) (n : ℕ) → length ps ≤ n / 256 → look ps n ≡ None
  look-past ps n h = ap (λ (l : List (Option T)). get_or l (n % 256) None) (page_at-past ps (n / 256) h)

  pub get-values : (ps : Sheets T) (n : ℕ) → map.get (values_of ps) n ≡ look ps n
  get-values ps n = elim (cases_lt n (256 * length ps)) [
    | inl h ↦ tabulated-below (look ps) (256 * length ps) n h
    | inr h ↦ tabulated-above (look ps) (256 * length ps) n h ∙ sym (look-past ps n (omega arith))
  ]

  abbrev pub is_made : Sheets T → ℕ → Bool
  is_made ps p = ltb 0 (length (page_at ps p))

  pub contains-made : (ps : Sheets T) (p : ℕ) → finset.contains (made_of ps) p ≡ is_made ps p
  contains-made ps p = elim (cases_lt p (length ps)) [
    | inl h ↦ chosen-below (is_made ps) (length ps) p h
    | inr h ↦ chosen-above (is_made ps) (length ps) p h ∙ sym (le-ltb 0 (length (page_at ps p)) (let e : length (page_at ps p) ≡ 0 = ap length (page_at-past ps p h) in omega arith))
  ]

  pub values-same : (ps qs : Sheets T) → ((n : ℕ) → look qs n ≡ look ps n) → values_of qs ≡ values_of ps
  values-same ps qs same = same_gets _ _ (λ n. get-values qs n ∙ same n ∙ sym (get-values ps n))

  pub made-same : (ps qs : Sheets T) → ((p : ℕ) → is_made qs p ≡ is_made ps p) → made_of qs ≡ made_of ps
  made-same ps qs same = same_sets _ _ (λ p. contains-made qs p ∙ same p ∙ sym (contains-made ps p))

  -- another value under one number
  pub values-put : (ps qs : Sheets T) (n : ℕ) (v : T) → ((q : ℕ) → q ≢ n → look qs q ≡ look ps q) → look qs n ≡ Some v → values_of qs ≡ map.insert (values_of ps) n v
  values-put ps qs n v same here = same_gets _ _ (λ q. elim (cases_eq q n) [
    | inl e ↦ ap (map.get (values_of qs)) e ∙ get-values qs n ∙ here ∙ sym (put_here (values_of ps) n v) ∙ ap (map.get (map.insert (values_of ps) n v)) (sym e)
    | inr d ↦ get-values qs q ∙ same q d ∙ sym (get-values ps q) ∙ sym (put_other (values_of ps) n v q d)
  ])

  pub values-out : (ps qs : Sheets T) (n : ℕ) → ((q : ℕ) → q ≢ n → look qs q ≡ look ps q) → look qs n ≡ None → values_of qs ≡ map.remove (values_of ps) n
  values-out ps qs n same here = same_gets _ _ (λ q. elim (cases_eq q n) [
    | inl e ↦ ap (map.get (values_of qs)) e ∙ get-values qs n ∙ here ∙ sym (out_here (values_of ps) n) ∙ ap (map.get (map.remove (values_of ps) n)) (sym e)
    | inr d ↦ get-values qs q ∙ same q d ∙ sym (get-values ps q) ∙ sym (out_other (values_of ps) n q d)
  ])

  -- one slot of one page is written
  abbrev pub with_slot : Sheets T → ℕ → Option T → Sheets T
  with_slot ps n slot = set ps (n / 256) (set (page_at ps (n / 256)) (n % 256) slot)

  module _ (ps : Sheets T) (n : ℕ) (slot : Option T) (within : n % 256 < length (page_at ps (n / 256))) where
    pub listed : n / 256 < length ps
    listed = in_list ps (n / 256) (omega arith)

    pub page-written : page_at (with_slot ps n slot) (n / 256) ≡ set (page_at ps (n / 256)) (n % 256) slot
    page-written = page_at-same ps (n / 256) _ listed

    pub page-kept : (p : ℕ) → p ≢ n / 256 → page_at (with_slot ps n slot) p ≡ page_at ps p
    page-kept p d = page_at-other ps (n / 256) p _ d

    pub look-written : look (with_slot ps n slot) n ≡ slot
    look-written = ap (λ (l : List (Option T)). get_or l (n % 256) None) page-written ∙ get_or-set_same (page_at ps (n / 256)) (n % 256) slot None within

    pub look-kept : (q : ℕ) → q ≢ n → look (with_slot ps n slot) q ≡ look ps q
    look-kept q d = elim (cases_eq (q / 256) (n / 256)) [
      | inl e ↦
          let m : q % 256 ≢ n % 256 = λ m. d (same_number q n e m) in
          ap (λ p. get_or (page_at (with_slot ps n slot) p) (q % 256) None) e ∙ ap (λ (l : List (Option T)). get_or l (q % 256) None) page-written
          ∙ get_or-set_other (page_at ps (n / 256)) (n % 256) (q % 256) slot None m ∙ ap (λ p. get_or (page_at ps p) (q % 256) None) (sym e)
      | inr e ↦ ap (λ (l : List (Option T)). get_or l (q % 256) None) (page-kept (q / 256) e)
    ]

    pub length-kept : (p : ℕ) → length (page_at (with_slot ps n slot) p) ≡ length (page_at ps p)
    length-kept p = elim (cases_eq p (n / 256)) [
      | inl e ↦ ap (λ q. length (page_at (with_slot ps n slot) q)) e ∙ ap length page-written ∙ length-set (page_at ps (n / 256)) (n % 256) slot ∙ ap (λ q. length (page_at ps q)) (sym e)
      | inr d ↦ ap length (page-kept p d)
    ]

    pub made-kept : made_of (with_slot ps n slot) ≡ made_of ps
    made-kept = made-same ps (with_slot ps n slot) (λ p. ap (ltb 0) (length-kept p))

    pub count-kept : length (with_slot ps n slot) ≡ length ps
    count-kept = length-set ps (n / 256) _

  -- what the code reads at a page of the list
  pub held-at : (ps : Sheets T) (p : ℕ) (x : List (Option T)) → p < length ps → x ≡ get_or ps p x → x ≡ page_at ps p
  held-at ps p x h e = e ∙ get_or_default ps p x [] h

  pub same-view : (values values' : map.FinMap nat_cmp T) (room room' : ℕ) (made made' : finset.FinSet nat_cmp) → values ≡ values' → room ≡ room' → made ≡ made'
      → view-of values room made ≡ view-of values' room' made'
  same-view values values' room room' made made' a b d = ap (λ v. view-of v room made) a ∙ ap (λ r. view-of values' r made) b ∙ ap (view-of values' room') d
