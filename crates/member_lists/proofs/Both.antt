-- The ends of lists, and those of their marked items, that stand in one map.
use Rattle.std.proofs.Common.{◌≡◌, ◌≢◌, ℕ, ◌+◌, ◌-◌, ◌<◌, Bool, true, false, cond, Option, Some, None, is_some, Equal, refl, sym, ◌∙◌, ap, arith}
use Rattle.std.specs.Prelude.{unwrap_or}
use Rattle.std.specs.Option.{option_map}
use Rattle.std.specs.Ordering.{nat_cmp, is_eq}
use Rattle.std.specs.Cmp.{unsigned_tied}
use Rattle.std.specs.FinMap as map
use Rattle.number_map.specs.Maps.{MapView}
use Rattle.member_lists.specs.declared.Ends.{Ends}
use Rattle.member_lists.specs.declared.marked.BothEnds.{BothEnds}
use Rattle.member_lists.specs.Chains.{ends_at, blank_ends}
use Rattle.member_lists.specs.Both.{all_ends, mark_ends, marked_ends, AreBlank}
use Rattle.member_lists.specs.Ended.{EndsMapView}
use Rattle.member_lists.proofs.Times.{equal_or_not, same_some, none_some, eqb_is}
use Rattle.member_lists.proofs.Values.{get-with_values, len-with_values}
use Rattle.member_lists.proofs.Sound.{put_here, put_other, out_here, out_other, same_gets}
use Rattle.member_lists.proofs.Fields.{some_if}
use Rattle.member_lists.proofs.Held.{none_in, total_set, total_put, total_out}

abbrev Kept : Type 0
Kept = map.FinMap nat_cmp BothEnds

-- ---- at a list

-- what is seen of a list's marked items
abbrev pub seen : Option BothEnds → Option Ends
seen None = None
seen (Some b) = some_if b.marked.first b.marked

tied_same : (q x : ℕ) → nat_cmp q x ≡ Equal → q ≡ x
tied_same q x e = eqb_is q x (sym (unsigned_tied q x) ∙ ap is_eq e)

seen_if : (o : Option ℕ) (e : Ends) → cond (is_some o) (Some e) None ≡ some_if o e
seen_if None e = refl
seen_if (Some x) e = refl

no_ends_first : (is_some blank_ends.first) ≡ false
no_ends_first = refl

module _ (m : Kept) where
  pub all_get : (q : ℕ) → map.get (all_ends m) q ≡ option_map (λ b. b.all) (map.get m q)
  all_get q = get-with_values (λ (b : BothEnds). b.all) m q

  mark_get : (q : ℕ) → map.get (mark_ends m) q ≡ option_map (λ b. b.marked) (map.get m q)
  mark_get q = get-with_values (λ (b : BothEnds). b.marked) m q

  has_first : ℕ → Bool
  has_first q = is_some (ends_at (mark_ends m) q).first

  told : (q : ℕ) (o : Option BothEnds) → map.get m q ≡ o → map.get (marked_ends m) q ≡ seen o
  unfolding has_first
  told q o at = map.get-retain_keys (mark_ends m) has_first q (λ x e. ap has_first (sym (tied_same q x e))) ∙ by o at
    where
      by : (o : Option BothEnds) → map.get m q ≡ o → cond (has_first q) (map.get (mark_ends m) q) None ≡ seen o
      by None at = let none : map.get (mark_ends m) q ≡ None = mark_get q ∙ ap (option_map (λ b. b.marked)) at in
          ap (λ g. cond (is_some (unwrap_or g blank_ends).first) g None) none
      by (Some b) at = let some : map.get (mark_ends m) q ≡ Some b.marked = mark_get q ∙ ap (option_map (λ b. b.marked)) at in
          ap (λ g. cond (is_some (unwrap_or g blank_ends).first) g None) some ∙ seen_if b.marked.first b.marked

  pub marked_get : (q : ℕ) → map.get (marked_ends m) q ≡ seen (map.get m q)
  marked_get q = told q (map.get m q) refl

  pub all_len : map.len (all_ends m) ≡ map.len m
  all_len = len-with_values (λ (b : BothEnds). b.all) m

  pub all_held : (l : ℕ) → map.contains_key (all_ends m) l ≡ map.contains_key m l
  all_held l = grind (arith, is_some, all_get)

  pub all_at : (l : ℕ) (none : BothEnds) → none.all ≡ blank_ends → (unwrap_or (map.get m l) none).all ≡ ends_at (all_ends m) l
  all_at l none blank = grind (arith, all_get)

  or_blank : (o : Option ℕ) (e : Ends) → e.first ≡ o → (e.first ≡ None → e ≡ blank_ends) → unwrap_or (some_if o e) blank_ends ≡ e
  or_blank None e is blank = sym (blank is)
  or_blank (Some x) e is blank = refl

  pub marked_at : AreBlank m → (l : ℕ) (none : BothEnds) → none.marked ≡ blank_ends → (unwrap_or (map.get m l) none).marked ≡ ends_at (marked_ends m) l
  marked_at are l none blank = grind (arith, told, or_blank)

-- ---- a list has other ends

module _ (m : Kept) (l : ℕ) where
  pub all_put : (b : BothEnds) → all_ends (map.insert m l b) ≡ map.insert (all_ends m) l b.all
  all_put b = grind (arith, same_gets, equal_or_not, all_get, put_here, put_other)

  pub all_out : all_ends (map.remove m l) ≡ map.remove (all_ends m) l
  all_out = grind (arith, same_gets, equal_or_not, all_get, out_here, out_other)

  -- another map where only this list may have others
  module _ (n : Kept) (same : (q : ℕ) → q ≢ l → map.get n q ≡ map.get m q) where
    pub marked_same : seen (map.get n l) ≡ seen (map.get m l) → marked_ends n ≡ marked_ends m
    marked_same here = grind (arith, same_gets, equal_or_not, marked_get)

    pub marked_put : (f : Ends) → seen (map.get n l) ≡ Some f → marked_ends n ≡ map.insert (marked_ends m) l f
    marked_put f here = grind (arith, same_gets, equal_or_not, marked_get, put_here, put_other)

    pub marked_out : seen (map.get n l) ≡ None → marked_ends n ≡ map.remove (marked_ends m) l
    marked_out here = grind (arith, same_gets, equal_or_not, marked_get, out_here, out_other)

-- ---- where no list has a last marked item without a first

module _ (m : Kept) (are : AreBlank m) (l : ℕ) where
  pub blank_put : (b : BothEnds) → (b.marked.first ≡ None → b.marked ≡ blank_ends) → AreBlank (map.insert m l b)
  blank_put b blank q c at none = grind (arith, equal_or_not, same_some, put_here, put_other)

  pub blank_out : AreBlank (map.remove m l)
  blank_out q c at none = grind (arith, equal_or_not, none_some, out_here, out_other)

-- ---- as the map of ends is seen

module _ (v : MapView BothEnds) (are : AreBlank v.map) (w : EndsMapView) (is : record { all = all_ends v.map; marked = marked_ends v.map; room = v.room } ≡ w) (l : ℕ) where
  pub held_in : map.contains_key v.map l ≡ map.contains_key w.all l
  held_in = sym (all_held v.map l) ∙ ap (λ (u : EndsMapView). map.contains_key u.all l) is

  pub gone_in : map.contains_key w.all l ≡ false → map.get v.map l ≡ None
  gone_in none = none_in v.map l (held_in ∙ none)

  pub len_in : map.len v.map + v.room ≡ map.len w.all + w.room
  len_in = grind (arith, all_len)

  -- the ends of a list's marked items are those of its entry
  pub mark_there : (b : BothEnds) → map.get v.map l ≡ Some b → b.marked ≡ ends_at w.marked l
  mark_there b at =
      let none : BothEnds = record { all = blank_ends; marked = blank_ends } in
      ap (λ o. (unwrap_or o none).marked) (sym at) ∙ marked_at v.map are l none refl ∙ ap (λ (u : EndsMapView). ends_at u.marked l) is

  -- an entry is changed
  module _ (b c : BothEnds) (at : map.get v.map l ≡ Some b) where
    abbrev now : Kept
    now = map.insert v.map l c

    other : (q : ℕ) → q ≢ l → map.get now q ≡ map.get v.map q
    other q d = put_other v.map l c q d

    pub all_set : all_ends now ≡ map.insert w.all l c.all
    all_set = all_put v.map l c ∙ ap (λ (u : EndsMapView). map.insert u.all l c.all) is

    pub len_set : map.len (all_ends now) + v.room ≡ map.len w.all + w.room
    len_set = grind (arith, all_len now, total_set v (record { map = now; room = v.room }) l c (ap is_some at) refl, len_in)

    pub all_stays : c.all ≡ b.all → all_ends now ≡ w.all
    all_stays same = grind (arith, same_gets, equal_or_not, all_get, put_here, other)

    -- all but the marked ones are as they were
    pub rest_stays : c.all ≡ b.all → ◌≡◌ {A = EndsMapView} (record { all = all_ends now; marked = marked_ends now; room = v.room }) (record w { marked = marked_ends now })
    rest_stays same =
        ap (λ (m : map.FinMap nat_cmp Ends). let u : EndsMapView = record { all = m; marked = marked_ends now; room = v.room } in u) (all_stays same)
        ∙ ap (λ n. let u : EndsMapView = record { all = w.all; marked = marked_ends now; room = n } in u) (ap (λ (u : EndsMapView). u.room) is)

    pub marks_stay : c.marked ≡ b.marked → marked_ends now ≡ w.marked
    marks_stay same = marked_same v.map l now other (ap seen (put_here v.map l c) ∙ ap (λ (f : Ends). some_if f.first f) same ∙ sym (ap seen at)) ∙ ap (λ (u : EndsMapView). u.marked) is

    pub marks_put : (x : ℕ) → c.marked.first ≡ Some x → marked_ends now ≡ map.insert w.marked l c.marked
    marks_put x some = grind (arith, marked_put, other, put_here, some_if)

    pub marks_out : c.marked.first ≡ None → marked_ends now ≡ map.remove w.marked l
    marks_out none = marked_out v.map l now other (ap seen (put_here v.map l c) ∙ ap (λ o. some_if o c.marked) none) ∙ ap (λ (u : EndsMapView). map.remove u.marked l) is

  -- an entry is put in
  module _ (c : BothEnds) (none : map.contains_key w.all l ≡ false) (some : 0 < w.room) (blank : c.marked ≡ blank_ends) (n : MapView BothEnds) (put : n ≡ record { map = map.insert v.map l c; room = v.room - 1 }) where
    map_is : n.map ≡ map.insert v.map l c
    map_is = ap (λ (u : MapView BothEnds). u.map) put

    pub all_new : all_ends n.map ≡ map.insert w.all l c.all
    all_new = ap all_ends map_is ∙ all_put v.map l c ∙ ap (λ (u : EndsMapView). map.insert u.all l c.all) is

    pub marks_new : marked_ends n.map ≡ w.marked
    marks_new = ap marked_ends map_is ∙ marked_same v.map l (map.insert v.map l c) (λ q d. put_other v.map l c q d)
        (ap seen (put_here v.map l c) ∙ ap (λ (f : Ends). some_if f.first f) blank ∙ sym (ap seen (gone_in none))) ∙ ap (λ (u : EndsMapView). u.marked) is

    pub len_new : map.len (all_ends n.map) + n.room ≡ map.len w.all + w.room
    len_new = grind (arith, all_len, total_put, held_in, len_in)

    pub blank_new : AreBlank n.map
    blank_new q d at = blank_put v.map are l c (λ e. blank) q d (sym (ap (λ (m : Kept). map.get m q) map_is) ∙ at)

  -- an entry goes
  module _ (held : map.contains_key w.all l ≡ true) (n : MapView BothEnds) (out : n ≡ record { map = map.remove v.map l; room = v.room + 1 }) where
    gone_is : n.map ≡ map.remove v.map l
    gone_is = ap (λ (u : MapView BothEnds). u.map) out

    pub all_gone : all_ends n.map ≡ map.remove w.all l
    all_gone = ap all_ends gone_is ∙ all_out v.map l ∙ ap (λ (u : EndsMapView). map.remove u.all l) is

    pub marks_gone : map.get w.marked l ≡ None → marked_ends n.map ≡ w.marked
    marks_gone none = grind (arith, gone_is, marked_same, out_other, out_here, marked_get)

    pub len_gone : (f : BothEnds) → map.len (all_ends n.map) + n.room ≡ map.len w.all + w.room
    len_gone f = grind (arith, all_len, total_out, held_in, len_in)

    pub blank_gone : AreBlank n.map
    blank_gone q d at = blank_out v.map are l q d (sym (ap (λ (m : Kept). map.get m q) gone_is) ∙ at)

-- ---- no lists yet

module _ (v : MapView BothEnds) (none : v ≡ record { map = map.empty; room = 0 }) where
  nothing : (q : ℕ) → map.get v.map q ≡ None
  nothing q = ap (λ (u : MapView BothEnds). map.get u.map q) none ∙ map.get-empty {X = BothEnds} nat_cmp q

  pub blank_none : AreBlank v.map
  blank_none q b at = absurd (none_some b (sym (nothing q) ∙ at))

  all_none : all_ends v.map ≡ map.empty
  all_none = same_gets _ _ (λ q. all_get v.map q ∙ ap (option_map (λ (b : BothEnds). b.all)) (nothing q) ∙ sym (map.get-empty {X = Ends} nat_cmp q))

  marks_none : marked_ends v.map ≡ map.empty
  marks_none = same_gets _ _ (λ q. marked_get v.map q ∙ ap seen (nothing q) ∙ sym (map.get-empty {X = Ends} nat_cmp q))

  pub ends_none : ◌≡◌ {A = EndsMapView} (record { all = all_ends v.map; marked = marked_ends v.map; room = v.room }) (record { all = map.empty; marked = map.empty; room = 0 })
  ends_none = grind (arith, all_none, marks_none)
