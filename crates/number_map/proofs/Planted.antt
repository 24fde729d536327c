-- Rows of nodes in trees, and what each step leaves of them.
use Rattle.std.proofs.Common.{◌≡◌, ◌≢◌, inl, inr, ℕ, zero, suc, ◌+◌, ◌-◌, ◌/◌, ◌^◌, ◌<◌, ◌≤◌, List, [], ◌∷◌, ◌++◌, cond, eqb, length, Option, Some, None, slice_get, slice_set, slice_index_or, refl, sym, ◌∙◌, ap, arith}
use Rattle.std.specs.Option.{option_map, option_map_or}
use Rattle.std.specs.Int.{bit_at}
use Rattle.std.proofs.lemmas.Bool.Decides.{eqb_tells}
use Rattle.std.proofs.lemmas.List.{length-set}
use Rattle.std.proofs.lemmas.Option.{slice_get_within, slice_get-map}
use Rattle.number_map.specs.declared.Node.{Node}
use Rattle.number_map.specs.Kept.{turn, head_at, key_in, link_in, key_at, link_at, above_in, above_at, out_at, below, KnowAbove, entry_of, entries_of, follow, walk, AreAlike, IsTree, IsTurned, IsLed, IsPlanted, IsIndexed, IsWay, IsUnique, SameEntries, IsCut, AreHung, IsLeafBelow, IsRaised, IsMoved, IsTakenOut, IsKept}
use Rattle.number_map.proofs.Trees.{equal_or_not, lower, next_bits, left, left_less}
use Rattle.number_map.proofs.Changes.{both, same_tree, know_same, keys_changed, deeps, joined, joined_above, cut_off, cut_above, last_gone, last_above, deeps_moved, moved, moved_above}
use Rattle.number_map.proofs.Rows.{none_some, there, way_out, got_set, got_other, got_before, got_last, length_pushed, key_of_some, link_of_some, entry_here, keys_same, same_len, turned_other, turned_entries, above_here, above_other, above_same, links_same}

abbrev pub no_links : List ℕ
no_links = 0 ∷ 0 ∷ []

pub bare_pair : (i : ℕ) → slice_index_or no_links i zero ≡ zero
bare_pair zero = refl
bare_pair (suc zero) = refl
bare_pair (suc (suc i)) = refl

zero_bits : (d : ℕ) → 0 ≡ 0 / 2 ^ d
zero_bits zero = refl
zero_bits (suc d) = next_bits 0 d 0 (zero_bits d)

module _ {V : Type 0} where
  pub indexed_of : (nodes : List (Node V)) (heads : List ℕ) (places : ℕ) → places ≡ length nodes → IsPlanted nodes heads places 0 → IsIndexed nodes heads
  indexed_of nodes heads places e r = rw e at r

  -- keys of a row with no key twice
  pub apart : (nodes : List (Node V)) → IsUnique (entries_of nodes) → (x y : ℕ) → x < length nodes → y < length nodes → key_at nodes (suc x) ≡ key_at nodes (suc y) → x ≡ y
  apart nodes u x y hx hy e =
      let m = there nodes x hx in
      let n = there nodes y hy in
      u x y (entry_of m.0) (entry_of n.0) (entry_here nodes x m.0 m.1) (entry_here nodes y n.0 n.1) (sym (key_of_some nodes x m.0 m.1) ∙ e ∙ key_of_some nodes y n.0 n.1)

  -- ---- no node yet

  no_link : (nodes : List (Node V)) (heads : List ℕ) → ((c : ℕ) → slice_index_or heads c 0 ≡ 0) → (u i v : ℕ) → u ≤ 0 → out_at nodes heads u i ≡ v → v ≡ 0
  no_link nodes heads none zero i v h e = sym e ∙ none i
  no_link nodes heads none (suc x) i v h e = absurd (omega arith)

  pub planted_none : (nodes : List (Node V)) (heads : List ℕ) → ((c : ℕ) → slice_index_or heads c 0 ≡ 0) → (0 < length nodes → 0 < length heads) → ((v : ℕ) → key_at nodes v < 2 ^ 64) → IsPlanted nodes heads 0 0
  planted_none nodes heads none wide short = record {
    deep = λ u. u;
    tree = record {
      root = λ u e. e;
      top = refl;
      shallow = λ u h. omega arith;
      down = λ u i v h e some. absurd (some (no_link nodes heads none u i v h e));
      up = λ v some within present. absurd (some (omega arith));
      empty = λ i h. absurd (h refl);
    };
    above = λ u i v h e some. absurd (some (no_link nodes heads none u i v h e));
    wide = wide;
    short = short;
  }

  -- ---- a node joins

  set_out : (nodes : List (Node V)) (heads : List ℕ) (x : ℕ) (n m : Node V) → slice_get nodes x ≡ Some n → (u i : ℕ) → u ≤ x → out_at (slice_set nodes x m) heads u i ≡ out_at nodes heads u i
  set_out nodes heads x n m at zero i h = refl
  set_out nodes heads x n m at (suc y) i h = turned_other nodes x n m at y i (λ e. omega arith)

  pub planted_blank : (nodes : List (Node V)) (heads : List ℕ) (x : ℕ) (n m : Node V) → slice_get nodes x ≡ Some n → m.key ≡ n.key → m.value ≡ n.value → IsPlanted nodes heads x 0 → IsPlanted (slice_set nodes x m) heads x 0
  planted_blank nodes heads x n m at k v r =
      let same = turned_entries nodes x n m at k v in
      record {
        deep = r.deep;
        tree = same_tree (length heads) (key_at nodes) (key_at (slice_set nodes x m)) (out_at nodes heads) (out_at (slice_set nodes x m) heads) r.deep x 0 (omega arith)
            (λ v h. keys_same nodes (slice_set nodes x m) v same) (set_out nodes heads x n m at) r.tree;
        above = know_same (length heads) (key_at nodes) (out_at nodes heads) (out_at (slice_set nodes x m) heads) (above_at nodes) (above_at (slice_set nodes x m)) r.deep x 0 r.tree
            (λ v h. above_other nodes x n m at v (λ e. omega arith)) (set_out nodes heads x n m at) r.above;
        wide = λ h. r.wide (let l = length-set nodes x m in omega arith);
        short = λ v. (let e = keys_same nodes (slice_set nodes x m) v same in let s = r.short v in omega arith);
      }

  pushed_out : (nodes : List (Node V)) (heads : List ℕ) (n : Node V) (u i : ℕ) → u ≤ length nodes → out_at (nodes ++ n ∷ []) heads u i ≡ out_at nodes heads u i
  pushed_out nodes heads n zero i h = refl
  pushed_out nodes heads n (suc x) i h = ap (λ (o : Option (Node V)). link_in i o) (got_before nodes (n ∷ []) x (omega arith))

  pushed_key : (nodes : List (Node V)) (n : Node V) (v : ℕ) → v ≤ length nodes → key_at (nodes ++ n ∷ []) v ≡ key_at nodes v
  pushed_key nodes n zero h = refl
  pushed_key nodes n (suc x) h = ap (λ (o : Option (Node V)). key_in o) (got_before nodes (n ∷ []) x (omega arith))

  pushed_above : (nodes : List (Node V)) (n : Node V) (v : ℕ) → v ≤ length nodes → above_at (nodes ++ n ∷ []) v ≡ above_at nodes v
  pushed_above nodes n zero h = refl
  pushed_above nodes n (suc x) h = ap (λ (o : Option (Node V)). above_in o) (got_before nodes (n ∷ []) x (omega arith))

  past_key : (nodes : List (Node V)) (x : ℕ) → length nodes ≤ x → key_at nodes (suc x) ≡ 0
  past_key [] x h = refl
  past_key (n ∷ nodes) zero h = absurd (omega arith)
  past_key (n ∷ nodes) (suc x) h = past_key nodes x (let less : suc (length nodes) ≤ suc x = h in omega arith)

  pushed_short : (nodes : List (Node V)) (n : Node V) → n.key < 2 ^ 64 → ((v : ℕ) → key_at nodes v < 2 ^ 64) → (v : ℕ) → key_at (nodes ++ n ∷ []) v < 2 ^ 64
  pushed_short nodes n s short zero = short 0
  pushed_short nodes n s short (suc x) = elim (equal_or_not x (length nodes)) [
    | inl e ↦ let k = key_of_some (nodes ++ n ∷ []) x n (ap (slice_get (nodes ++ n ∷ [])) e ∙ got_last nodes n) in omega arith
    | inr d ↦ elim (lower x (length nodes)) [
      | inl h ↦ let k = pushed_key nodes n (suc x) (omega arith) in let f = short (suc x) in omega arith
      | inr h ↦ let z = past_key (nodes ++ n ∷ []) x (let l = length_pushed nodes n in omega arith) in let f : 0 < 2 ^ 64 = omega arith in rw z f
    ]
  ]

  pub planted_pushed : (nodes : List (Node V)) (heads : List ℕ) (n : Node V) → n.key < 2 ^ 64 → 0 < length heads → IsIndexed nodes heads → IsPlanted (nodes ++ n ∷ []) heads (length nodes) 0
  planted_pushed nodes heads n s some r = record {
    deep = r.deep;
    tree = same_tree (length heads) (key_at nodes) (key_at (nodes ++ n ∷ [])) (out_at nodes heads) (out_at (nodes ++ n ∷ []) heads) r.deep (length nodes) 0 (omega arith)
        (pushed_key nodes n) (pushed_out nodes heads n) r.tree;
    above = know_same (length heads) (key_at nodes) (out_at nodes heads) (out_at (nodes ++ n ∷ []) heads) (above_at nodes) (above_at (nodes ++ n ∷ [])) r.deep (length nodes) 0 r.tree
        (pushed_above nodes n) (pushed_out nodes heads n) r.above;
    wide = λ h. some;
    short = pushed_short nodes n s r.short;
  }

  module _ (nodes nodes' : List (Node V)) (heads heads' : List ℕ) (x key link : ℕ) (r : IsPlanted nodes heads x 0) (n : Node V) (at : slice_get nodes x ≡ Some n) (bare : (i : ℕ) → slice_index_or n.links i 0 ≡ 0)
      (key_is : key ≡ n.key) (link_is : link ≡ suc x) (led : IsLed (length heads) (out_at nodes heads) (out_at nodes' heads') (above_at nodes) (above_at nodes') key link) (same : SameEntries nodes nodes') (len : length heads' ≡ length heads)
      (unique : IsUnique (entries_of nodes)) where
    own : key ≡ key_at nodes (suc x)
    own = key_is ∙ sym (key_of_some nodes x n at)

    absent : (v : ℕ) → v ≢ 0 → v ≤ x → key_at nodes v ≢ key_at nodes (suc x)
    absent zero some h e = absurd (some refl)
    absent (suc y) some h e =
        let i = slice_get_within nodes x n at in
        let z = apart nodes unique y x (omega arith) i e in omega arith

    led' : IsLed (length heads) (out_at nodes heads) (out_at nodes' heads') (above_at nodes) (above_at nodes') (key_at nodes (suc x)) (suc x)
    led' = rw (own, link_is) at led

    bare' : (i : ℕ) → out_at nodes heads (suc x) i ≡ 0
    bare' i = link_of_some nodes x i n at ∙ bare i

    pub planted_joined : IsPlanted nodes' heads' (suc x) 0
    planted_joined = record {
      deep = deeps (length heads) (key_at nodes) (out_at nodes heads) (out_at nodes' heads') (above_at nodes) (above_at nodes') r.deep x r.tree bare' led' r.short absent;
      tree = rw len (same_tree (length heads) (key_at nodes) (key_at nodes') (out_at nodes' heads') (out_at nodes' heads') _ (suc x) 0 (omega arith)
          (λ v h. keys_same nodes nodes' v same) (λ u i h. refl)
          (joined (length heads) (key_at nodes) (out_at nodes heads) (out_at nodes' heads') (above_at nodes) (above_at nodes') r.deep x r.tree bare' led' r.short absent));
      above = joined_above (length heads) (key_at nodes) (out_at nodes heads) (out_at nodes' heads') (above_at nodes) (above_at nodes') r.deep x r.tree bare' led' r.short absent r.above;
      wide = λ h. (let l = same_len nodes nodes' same in let w = r.wide (omega arith) in omega arith);
      short = λ v. (let e = keys_same nodes nodes' v same in let s = r.short v in omega arith);
    }

  pub pushed_joined : (nodes nodes' : List (Node V)) (heads heads' : List ℕ) (key link : ℕ) (n : Node V) → IsIndexed nodes heads → n.key < 2 ^ 64 → 0 < length heads → ((i : ℕ) → slice_index_or n.links i 0 ≡ 0)
      → key ≡ n.key → link ≡ suc (length nodes) → IsLed (length heads) (out_at (nodes ++ n ∷ []) heads) (out_at nodes' heads') (above_at (nodes ++ n ∷ [])) (above_at nodes') key link → SameEntries (nodes ++ n ∷ []) nodes' → length heads' ≡ length heads
      → IsUnique (entries_of (nodes ++ n ∷ [])) → IsIndexed nodes' heads'
  pushed_joined nodes nodes' heads heads' key link n r s some bare key_is link_is led same len unique =
      let l : suc (length nodes) ≡ length nodes' = sym (same_len (nodes ++ n ∷ []) nodes' same ∙ length_pushed nodes n) in
      indexed_of nodes' heads' (suc (length nodes)) l
      (planted_joined (nodes ++ n ∷ []) nodes' heads heads' (length nodes) key link (planted_pushed nodes heads n s some r) n (got_last nodes n) bare key_is link_is led same len unique)

  -- each node in its tree, one after the other
  module _ (nodes : List (Node V)) (heads : List ℕ) (x : ℕ) (n : Node V) (at : slice_get nodes x ≡ Some n) (r : IsPlanted nodes heads x 0) where
    abbrev pub blank : Node V
    blank = record { key = n.key; value = n.value; links = no_links; above = 0 }

    within : x < length nodes
    within = slice_get_within nodes x n at

    pub blank_way : (key : ℕ) → IsWay (slice_set nodes x blank) (head_at heads key) key
    blank_way key = way_out (slice_set nodes x blank) heads x 0 (planted_blank nodes heads x n blank at refl refl r) key (let l = length-set nodes x blank in let w = within in omega arith)

    pub blank_above : (link : ℕ) → link ≡ suc x → above_at (slice_set nodes x blank) link ≡ 0
    blank_above link is = ap (above_at (slice_set nodes x blank)) is ∙ above_here nodes x n blank at

    module _ (nodes' : List (Node V)) (heads' : List ℕ) (key link : ℕ) (key_is : key ≡ n.key) (link_is : link ≡ suc x)
        (led : IsLed (length heads) (out_at (slice_set nodes x blank) heads) (out_at nodes' heads') (above_at (slice_set nodes x blank)) (above_at nodes') key link) (same : SameEntries (slice_set nodes x blank) nodes') (len : length heads' ≡ length heads)
        (unique : IsUnique (entries_of nodes)) where
      pub blank_same : SameEntries nodes nodes'
      blank_same = same ∙ turned_entries nodes x n blank at refl refl

      pub blank_joined : IsPlanted nodes' heads' (suc x) 0
      blank_joined =
          let got = got_set nodes x blank within in
          planted_joined (slice_set nodes x blank) nodes' heads heads' x key link (planted_blank nodes heads x n blank at refl refl r) blank got bare_pair
          key_is link_is led same len (rw (turned_entries nodes x n blank at refl refl) unique)

  -- ---- a value is changed

  valued_out : (nodes : List (Node V)) (heads : List ℕ) (x : ℕ) (n m : Node V) → slice_get nodes x ≡ Some n → m.links ≡ n.links → (u i : ℕ) → out_at (slice_set nodes x m) heads u i ≡ out_at nodes heads u i
  valued_out nodes heads x n m at e zero i = refl
  valued_out nodes heads x n m at e (suc y) i = links_same nodes x n m at e y i

  valued_key : (nodes : List (Node V)) (x : ℕ) (n m : Node V) → slice_get nodes x ≡ Some n → m.key ≡ n.key → (v : ℕ) → key_at (slice_set nodes x m) v ≡ key_at nodes v
  valued_key nodes x n m at e zero = refl
  valued_key nodes x n m at e (suc y) = elim (equal_or_not y x) [
    | inl s ↦
        ap (λ z. key_at (slice_set nodes x m) (suc z)) s ∙ key_of_some (slice_set nodes x m) x m (got_set nodes x m (slice_get_within nodes x n at)) ∙ e
        ∙ sym (key_of_some nodes x n at) ∙ ap (λ z. key_at nodes (suc z)) (sym s)
    | inr d ↦ ap (λ (o : Option (Node V)). key_in o) (got_other nodes x y m d)
  ]

  pub indexed_valued : (nodes : List (Node V)) (heads : List ℕ) (x : ℕ) (n m : Node V) → slice_get nodes x ≡ Some n → m.key ≡ n.key → m.links ≡ n.links → m.above ≡ n.above → IsIndexed nodes heads → IsIndexed (slice_set nodes x m) heads
  indexed_valued nodes heads x n m at k e a r = record {
    deep = r.deep;
    tree = rw (length-set nodes x m) (same_tree (length heads) (key_at nodes) (key_at (slice_set nodes x m)) (out_at nodes heads) (out_at (slice_set nodes x m) heads) r.deep (length nodes) 0 (omega arith)
        (λ v h. valued_key nodes x n m at k v) (λ u i h. valued_out nodes heads x n m at e u i) r.tree);
    above = rw (length-set nodes x m) (know_same (length heads) (key_at nodes) (out_at nodes heads) (out_at (slice_set nodes x m) heads) (above_at nodes) (above_at (slice_set nodes x m)) r.deep (length nodes) 0 r.tree
        (λ v h. above_same nodes x n m at a v) (λ u i h. valued_out nodes heads x n m at e u i) r.above);
    wide = λ h. r.wide (let l = length-set nodes x m in omega arith);
    short = λ v. (let f = valued_key nodes x n m at k v in let s = r.short v in omega arith);
  }

  -- ---- a leaf is cut off

  module _ (nodes nodes' : List (Node V)) (heads heads' : List ℕ) (x : ℕ) (r : IsIndexed nodes heads) (bare : (i : ℕ) → link_at nodes x i ≡ 0) (cut : IsCut nodes nodes' heads heads' x 0) where
    same_cut : SameEntries nodes nodes'
    same_cut = cut.entries

    pub cut_tree : IsTree (length heads') (key_at nodes') (out_at nodes' heads') r.deep (length nodes') (suc x)
    cut_tree =
        let tree = cut_off (length heads) (key_at nodes) (out_at nodes heads) (out_at nodes' heads') r.deep (length nodes) r.tree (above_at nodes (suc x)) cut.side (suc x) (omega arith) cut.inside bare cut.turned in
        rw (cut.len, same_len nodes nodes' same_cut) (keys_changed (length heads) (key_at nodes) (key_at nodes') (out_at nodes' heads') r.deep (length nodes) (suc x) (λ v e h. ap (turn (length heads) e) (sym (keys_same nodes nodes' v same_cut))) tree)

    pub planted_cut : IsPlanted nodes' heads' (length nodes') (suc x)
    planted_cut =
        let l = same_len nodes nodes' same_cut in
        let len = cut.len in
        record {
          deep = r.deep;
          tree = cut_tree;
          above = rw l (cut_above (length heads) (key_at nodes) (out_at nodes heads) (out_at nodes' heads') r.deep (length nodes) r.tree (above_at nodes (suc x)) cut.side (suc x) (omega arith) cut.inside bare cut.turned
              (above_at nodes) (above_at nodes') cut.above r.above);
          wide = λ h. (let w = r.wide (omega arith) in omega arith);
          short = λ v. (let e = keys_same nodes nodes' v same_cut in let s = r.short v in omega arith);
        }

    pub raised_itself : x < length nodes → IsRaised nodes nodes' x x
    raised_itself h = record {
      len = same_len nodes nodes' same_cut;
      inside = h;
      came = ap (λ (es : List (ℕ × V)). slice_get es x) same_cut;
      others = λ y d. ap (λ (es : List (ℕ × V)). slice_get es y) same_cut;
    }

  -- the links lead to nodes of the row, also once one is turned
  pub cut_inside : (nodes nodes' : List (Node V)) (heads heads' : List ℕ) (place to hole : ℕ) → IsPlanted nodes heads (length nodes) hole → IsCut nodes nodes' heads heads' place to → to ≤ length nodes → (x i : ℕ) → x < length nodes → link_at nodes' x i ≤ length nodes'
  cut_inside nodes nodes' heads heads' place to hole r cut low x i h =
      let l = same_len nodes nodes' cut.entries in
      elim (both (suc x) i (above_at nodes (suc place)) cut.side) [
        | inl s ↦
            let e : link_at nodes' x i ≡ to = ap (λ w. out_at nodes' heads' w i) s.0 ∙ ap (out_at nodes' heads' (above_at nodes (suc place))) s.1 ∙ cut.turned.is in omega arith
        | inr n ↦
            let e : link_at nodes' x i ≡ link_at nodes x i = cut.turned.others (suc x) i n in
            elim (equal_or_not (link_at nodes x i) 0) [
              | inl z ↦ omega arith
              | inr some ↦ let b = (r.tree.down (suc x) i (link_at nodes x i) h refl some).inside in omega arith
            ]
      ]

  -- ---- the last node goes, and comes into the hole

  less_key : (rest : List (Node V)) (l : Node V) (v : ℕ) → v ≤ length rest → key_at rest v ≡ key_at (rest ++ l ∷ []) v
  less_key rest l v h = sym (pushed_key rest l v h)

  short_left : (rest : List (Node V)) (l : Node V) → ((v : ℕ) → key_at (rest ++ l ∷ []) v < 2 ^ 64) → (v : ℕ) → key_at rest v < 2 ^ 64
  short_left rest l short zero = short 0
  short_left rest l short (suc x) = elim (lower x (length rest)) [
    | inl h ↦ let k = pushed_key rest l (suc x) h in let s = short (suc x) in omega arith
    | inr h ↦ let z = past_key rest x h in let f : 0 < 2 ^ 64 = omega arith in rw z f
  ]

  module _ (rest : List (Node V)) (l : Node V) (heads : List ℕ) (hole : ℕ) (r : IsPlanted (rest ++ l ∷ []) heads (length (rest ++ l ∷ [])) (suc hole)) (past : length rest ≤ hole) (within : hole < length (rest ++ l ∷ [])) where
    pub indexed_last : IsIndexed rest heads
    indexed_last =
        let len = length_pushed rest l in
        let at : suc hole ≡ suc (length rest) = omega arith in
        record {
          deep = r.deep;
          tree = last_gone (length heads) (key_at (rest ++ l ∷ [])) (key_at rest) (out_at (rest ++ l ∷ []) heads) (out_at rest heads) r.deep (length rest) (suc hole) (rw (← len) r.tree) at
              (less_key rest l) (λ u i h. sym (pushed_out rest heads l u i h));
          above = last_above (length heads) (key_at (rest ++ l ∷ [])) (key_at rest) (out_at (rest ++ l ∷ []) heads) (out_at rest heads) r.deep (length rest) (suc hole) (rw (← len) r.tree)
              (above_at (rest ++ l ∷ [])) (above_at rest) at (λ v h. sym (pushed_above rest l v h)) (λ u i h. sym (pushed_out rest heads l u i h)) (rw (← len) r.above);
          wide = λ h. r.wide (omega arith);
          short = short_left rest l r.short;
        }

    pub moved_last : IsMoved (rest ++ l ∷ []) rest hole
    moved_last = record {
      len = let e = length_pushed rest l in omega arith;
      came = λ h. absurd (omega arith);
      others = λ x h d. slice_get-map entry_of rest x ∙ ap (λ (o : Option (Node V)). option_map entry_of o) (sym (got_before rest (l ∷ []) x h)) ∙ sym (slice_get-map entry_of (rest ++ l ∷ []) x);
    }

  module _ (nodes nodes1 nodes2 rest : List (Node V)) (l moving : Node V) (heads heads1 : List ℕ) (hole : ℕ) (r : IsPlanted nodes heads (length nodes) (suc hole))
      (cut : IsCut nodes nodes1 heads heads1 (length rest) (suc hole)) (hung : AreHung nodes1 nodes2 (length rest) (suc hole))
      (at : slice_get nodes2 (length rest) ≡ Some moving) (low : hole < length rest) (popped : slice_set nodes2 hole moving ≡ rest ++ l ∷ []) where
    same_moved : SameEntries nodes nodes2
    same_moved = hung.entries ∙ cut.entries

    out2 : (u i : ℕ) → out_at nodes2 heads1 u i ≡ out_at nodes1 heads1 u i
    out2 zero i = refl
    out2 (suc x) i = hung.links x i

    turned : IsTurned (out_at nodes heads) (out_at nodes2 heads1) (above_at nodes (suc (length rest))) cut.side (suc (length rest)) (suc hole)
    turned = record { was = cut.turned.was; is = out2 _ _ ∙ cut.turned.is; others = λ w j d. out2 w j ∙ cut.turned.others w j d }

    nodes_len : length nodes ≡ suc (length rest)
    nodes_len = sym (same_len nodes nodes2 same_moved) ∙ sym (length-set nodes2 hole moving) ∙ ap (λ (ns : List (Node V)). length ns) popped ∙ length_pushed rest l

    got_hole : slice_get rest hole ≡ Some moving
    got_hole =
        sym (got_before rest (l ∷ []) hole low) ∙ ap (λ (ns : List (Node V)). slice_get ns hole) (sym popped)
        ∙ got_set nodes2 hole moving (let a = same_len nodes nodes2 same_moved in let b = nodes_len in omega arith)

    got_rest : (x : ℕ) → x < length rest → x ≢ hole → slice_get rest x ≡ slice_get nodes2 x
    got_rest x h d = sym (got_before rest (l ∷ []) x h) ∙ ap (λ (ns : List (Node V)). slice_get ns x) (sym popped) ∙ got_other nodes2 hole x moving d

    key_hole : key_at rest (suc hole) ≡ key_at nodes (suc (length rest))
    key_hole = key_of_some rest hole moving got_hole ∙ sym (key_of_some nodes2 (length rest) moving at) ∙ keys_same nodes nodes2 (suc (length rest)) same_moved

    key_other : (v : ℕ) → v ≤ length rest → v ≢ suc hole → key_at rest v ≡ key_at nodes v
    key_other zero h d = refl
    key_other (suc x) h d = ap (λ (o : Option (Node V)). key_in o) (got_rest x (omega arith) (λ e. d (ap (λ n. suc n) e))) ∙ keys_same nodes nodes2 (suc x) same_moved

    out_hole : (i : ℕ) → out_at rest heads1 (suc hole) i ≡ out_at nodes2 heads1 (suc (length rest)) i
    out_hole i = link_of_some rest hole i moving got_hole ∙ sym (link_of_some nodes2 (length rest) i moving at)

    out_other : (u i : ℕ) → u ≤ length rest → u ≢ suc hole → out_at rest heads1 u i ≡ out_at nodes2 heads1 u i
    out_other zero i h d = refl
    out_other (suc x) i h d = ap (λ (o : Option (Node V)). link_in i o) (got_rest x (omega arith) (λ e. d (ap (λ n. suc n) e)))

    tree : IsTree (length heads) (key_at nodes) (out_at nodes heads) r.deep (suc (length rest)) (suc hole)
    tree = rw (← nodes_len) r.tree

    above_other_rest : (v : ℕ) → v ≤ length rest → v ≢ suc hole → above_at rest v ≡ above_at nodes2 v
    above_other_rest zero h d = refl
    above_other_rest (suc x) h d = ap (λ (o : Option (Node V)). above_in o) (got_rest x (omega arith) (λ e. d (ap (λ n. suc n) e)))

    above_hole : above_at rest (suc hole) ≡ above_at nodes2 (suc (length rest))
    above_hole = ap (λ (o : Option (Node V)). above_in o) (got_hole ∙ sym at)

    above_kept : (v : ℕ) → ((i : ℕ) → i < 2 → out_at nodes2 heads1 (suc (length rest)) i ≢ v) → above_at nodes2 v ≡ above_at nodes v
    above_kept v d = hung.others v (λ i few e. d i few (hung.links (length rest) i ∙ e)) ∙ cut.above v

    short_moved : (v : ℕ) → key_at rest v < 2 ^ 64
    short_moved zero = r.short 0
    short_moved (suc x) = elim (lower x (length rest)) [
      | inl h ↦ elim (equal_or_not x hole) [
        | inl e ↦ let k : key_at rest (suc x) ≡ key_at nodes (suc (length rest)) = ap (λ y. key_at rest (suc y)) e ∙ key_hole in let s = r.short (suc (length rest)) in omega arith
        | inr d ↦ let k = key_other (suc x) h (λ e. omega arith) in let s = r.short (suc x) in omega arith
      ]
      | inr h ↦ let z = past_key rest x h in let f : 0 < 2 ^ 64 = omega arith in rw z f
    ]

    pub indexed_moved : IsIndexed rest heads1
    indexed_moved =
        let inside : above_at nodes (suc (length rest)) ≤ suc (length rest) = (let n = nodes_len in let i = cut.inside in omega arith) in
        let know : KnowAbove (out_at nodes heads) (above_at nodes) (suc (length rest)) = rw (← nodes_len) r.above in
        record {
          deep = deeps_moved (length heads) (key_at nodes) (key_at rest) (out_at nodes heads) (out_at rest heads1) r.deep (length rest) (suc hole) tree (omega arith) low (above_at nodes (suc (length rest))) cut.side inside (out_at nodes2 heads1) turned
              key_hole key_other out_hole out_other;
          tree = rw cut.len (moved (length heads) (key_at nodes) (key_at rest) (out_at nodes heads) (out_at rest heads1) r.deep (length rest) (suc hole) tree (omega arith) low (above_at nodes (suc (length rest))) cut.side inside (out_at nodes2 heads1) turned
              key_hole key_other out_hole out_other);
          above = moved_above (length heads) (key_at nodes) (key_at rest) (out_at nodes heads) (out_at rest heads1) r.deep (length rest) (suc hole) tree (omega arith) low (above_at nodes (suc (length rest))) cut.side inside (out_at nodes2 heads1) turned
              key_hole key_other out_hole out_other (above_at nodes) (above_at rest) know
              (λ none. above_hole ∙ above_kept (suc (length rest)) none)
              (λ v i some h d few e. above_other_rest v h d ∙ hung.here v i some few (sym (hung.links (length rest) i) ∙ e))
              (λ v h d none. above_other_rest v h d ∙ above_kept v none);
          wide = λ h. (let n = nodes_len in let w = r.wide (omega arith) in let c = cut.len in omega arith);
          short = short_moved;
        }

    entry_rest : (x : ℕ) → x < length rest → x ≢ hole → slice_get (entries_of rest) x ≡ slice_get (entries_of nodes) x
    entry_rest x h d =
        slice_get-map entry_of rest x ∙ ap (λ (o : Option (Node V)). option_map entry_of o) (got_rest x h d) ∙ sym (slice_get-map entry_of nodes2 x) ∙ ap (λ (es : List (ℕ × V)). slice_get es x) same_moved

    pub moved_there : IsMoved nodes rest hole
    moved_there = record {
      len = let n = nodes_len in omega arith;
      came = λ h. entry_here rest hole moving got_hole ∙ sym (entry_here nodes2 (length rest) moving at) ∙ ap (λ (es : List (ℕ × V)). slice_get es (length rest)) same_moved;
      others = λ x h d. entry_rest x h d;
    }

  -- ---- the entry of a leaf comes to a node above it

  module _ (nodes nodes1 : List (Node V)) (heads heads1 : List ℕ) (place leaf : ℕ) (r : IsIndexed nodes heads) (low : IsLeafBelow nodes place leaf) (cut : IsCut nodes nodes1 heads heads1 leaf 0) (n p m : Node V)
      (within : place < length nodes) (at_leaf : slice_get nodes leaf ≡ Some n) (at_place : slice_get nodes1 place ≡ Some p)
      (key_is : m.key ≡ n.key) (value_is : m.value ≡ n.value) (links_are : m.links ≡ p.links) (above_is : m.above ≡ p.above) where
    same_raised : SameEntries nodes nodes1
    same_raised = cut.entries

    abbrev nodes2 : List (Node V)
    nodes2 = slice_set nodes1 place m

    at_new : slice_get nodes2 place ≡ Some m
    at_new = got_set nodes1 place m (let l = same_len nodes nodes1 same_raised in omega arith)

    same_out : (u i : ℕ) → out_at nodes2 heads1 u i ≡ out_at nodes1 heads1 u i
    same_out = valued_out nodes1 heads1 place p m at_place links_are

    key_place : key_at nodes2 (suc place) ≡ key_at nodes1 (suc leaf)
    key_place = key_of_some nodes2 place m at_new ∙ key_is ∙ sym (key_of_some nodes leaf n at_leaf) ∙ sym (keys_same nodes nodes1 (suc leaf) same_raised)

    key_else : (v : ℕ) → v ≢ suc place → key_at nodes2 v ≡ key_at nodes1 v
    key_else zero d = refl
    key_else (suc x) d = ap (λ (o : Option (Node V)). key_in o) (got_other nodes1 place x m (λ e. d (ap (λ n. suc n) e)))

    len2 : length nodes2 ≡ length nodes1
    len2 = length-set nodes1 place m

    alike1 : AreAlike (length heads1) (r.deep (suc place)) (key_at nodes1 (suc place)) (key_at nodes1 (suc leaf))
    alike1 = rw (cut.len, keys_same nodes nodes1 (suc place) same_raised, keys_same nodes nodes1 (suc leaf) same_raised) (low.alike heads r)

    alike2 : (v : ℕ) → AreAlike (length heads1) (r.deep v) (key_at nodes1 v) (key_at nodes2 v)
    alike2 v = elim (equal_or_not v (suc place)) [
      | inl e ↦ rw (e, key_place) alike1
      | inr d ↦ λ e h. ap (turn (length heads1) e) (sym (key_else v d))
    ]

    pub planted_raised : IsPlanted nodes2 heads1 (length nodes2) (suc leaf)
    planted_raised =
        let q = planted_cut nodes nodes1 heads heads1 leaf r low.bare cut in
        let off = cut_tree nodes nodes1 heads heads1 leaf r low.bare cut in
        let hole : suc leaf ≤ length nodes1 = (let l = low.low in let s = same_len nodes nodes1 same_raised in omega arith) in
        record {
          deep = r.deep;
          tree = rw len2 (same_tree (length heads1) (key_at nodes2) (key_at nodes2) (out_at nodes1 heads1) (out_at nodes2 heads1) r.deep (length nodes1) (suc leaf) hole (λ v h. refl) (λ u i h. same_out u i)
              (keys_changed (length heads1) (key_at nodes1) (key_at nodes2) (out_at nodes1 heads1) r.deep (length nodes1) (suc leaf) alike2 off));
          above = rw len2 (know_same (length heads1) (key_at nodes1) (out_at nodes1 heads1) (out_at nodes2 heads1) (above_at nodes1) (above_at nodes2) r.deep (length nodes1) (suc leaf) off
              (λ v h. above_same nodes1 place p m at_place above_is v) (λ u i h. same_out u i) q.above);
          wide = λ h. q.wide (let l = len2 in omega arith);
          short = λ v. elim (equal_or_not v (suc place)) [
            | inl e ↦ let k : key_at nodes2 v ≡ key_at nodes1 (suc leaf) = ap (key_at nodes2) e ∙ key_place in let s = q.short (suc leaf) in omega arith
            | inr d ↦ let k = key_else v d in let s = q.short v in omega arith
          ];
        }

    entry_same : m.key ≡ n.key → entry_of m ≡ entry_of n
    entry_same k = ap (λ (a : ℕ). (a, m.value)) k ∙ ap (λ (b : V). (n.key, b)) value_is

    pub raised : IsRaised nodes nodes2 place leaf
    raised = record {
      len = len2 ∙ same_len nodes nodes1 same_raised;
      inside = let l = low.low in omega arith;
      came = entry_here nodes2 place m at_new ∙ ap (λ (e : ℕ × V). Some e) (entry_same key_is) ∙ sym (entry_here nodes leaf n at_leaf);
      others = λ x d. slice_get-map entry_of nodes2 x ∙ ap (λ (o : Option (Node V)). option_map entry_of o) (got_other nodes1 place x m d) ∙ sym (slice_get-map entry_of nodes1 x) ∙ ap (λ (es : List (ℕ × V)). slice_get es x) same_raised;
    }

  -- ---- down to a leaf

  pub below_inside : (nodes : List (Node V)) (heads : List ℕ) → IsIndexed nodes heads → (x i : ℕ) → x < length nodes → link_at nodes x i ≢ 0 → link_at nodes x i ≤ length nodes
  below_inside nodes heads r x i h some = (r.tree.down (suc x) i (link_at nodes x i) h refl some).inside

  abbrev pub below_in : Option (Node V) → ℕ
  below_in o = option_map_or (λ (n : Node V). below n.links) o 0

  -- the link that is followed from a place down to a leaf
  abbrev pub below_at : List (Node V) → ℕ → ℕ
  below_at nodes x = below_in (slice_get nodes x)

  pub below_of_some : (nodes : List (Node V)) (x : ℕ) (n : Node V) → slice_get nodes x ≡ Some n → below_at nodes x ≡ below n.links
  below_of_some nodes x n e = ap (λ (o : Option (Node V)). below_in o) e

  -- the node so many below the first on the way down to a leaf
  abbrev pub fall : (nodes : List (Node V)) (first d : ℕ) → ℕ
  fall nodes first d = walk (λ x i. below_at nodes x) first 0 d

  below_side : (o : Option (Node V)) → (i : ℕ) × (link_in i o ≡ below_in o)
  below_side None = (0, refl)
  below_side (Some n) = elim (eqb_tells (slice_index_or n.links 1 0) 0) [
    | inl h ↦ (0, sym (ap (λ b. cond b (slice_index_or n.links 0 0) (slice_index_or n.links 1 0)) h.0))
    | inr h ↦ (1, sym (ap (λ b. cond b (slice_index_or n.links 0 0) (slice_index_or n.links 1 0)) h.0))
  ]

  module _ (nodes : List (Node V)) (heads : List ℕ) (r : IsIndexed nodes heads) (place : ℕ) (within : place < length nodes) where
    abbrev IsFallen : ℕ → ℕ → Type 0
    IsFallen d v = (v ≤ length nodes) × (r.deep v ≡ r.deep (suc place) + d) × AreAlike (length heads) (r.deep (suc place)) (key_at nodes (suc place)) (key_at nodes v)

    fallen_next : (d u v : ℕ) → (u ≢ 0 → IsFallen d u) → follow (λ x i. below_at nodes x) u (bit_at 0 d) ≡ v → v ≢ 0 → IsFallen (suc d) v
    fallen_next d zero v p f some = absurd (some (sym f))
    fallen_next d (suc x) v p f some =
        let q = p (λ e. omega arith) in
        let s = below_side (slice_get nodes x) in
        let b = r.tree.down (suc x) s.0 v q.0 (s.1 ∙ f) some in
        let deeper = b.deeper in
        let e = q.1 in
        (b.inside, omega arith, λ g h. q.2 g h ∙ b.alike g (omega arith))

    pub fallen : (d v : ℕ) → fall nodes (suc place) d ≡ v → v ≢ 0 → IsFallen d v
    fallen zero v e some = rw (← e) (omega arith, omega arith, λ g h. refl)
    fallen (suc d) v e some = fallen_next d (fall nodes (suc place) d) v (fallen d (fall nodes (suc place) d) refl) e some

    pub fall_ends : fall nodes (suc place) 65 ≡ 0
    fall_ends = elim (equal_or_not (fall nodes (suc place) 65) 0) [
      | inl z ↦ z
      | inr o ↦
          let f = fallen 65 (fall nodes (suc place) 65) refl o in
          let s = r.tree.shallow (fall nodes (suc place) 65) f.0 in
          let n : r.deep (suc place) ≢ 0 = (λ e. let z = r.tree.root (suc place) e in omega arith) in
          let e = f.1 in absurd (omega arith)
    ]

    module _ (leaf link d : ℕ) (on : suc leaf ≡ fall nodes (suc place) d) (link_is : link ≡ below_at nodes leaf) where
      pub fall_on : link ≡ fall nodes (suc place) (suc d)
      fall_on = link_is ∙ ap (λ u. follow (λ x i. below_at nodes x) u (bit_at 0 d)) on

      pub fall_less : 0 < link → (next : ℕ) → next ≡ below_at nodes (link - 1) → left (λ x i. below_at nodes x) 66 next 0 < left (λ x i. below_at nodes x) 66 link 0
      fall_less some next is =
          let up : suc (link - 1) ≡ link = omega arith in
          let l = left_less (λ x i. below_at nodes x) (suc place) 0 (suc d) (link - 1) 0 next (zero_bits (suc d)) (up ∙ fall_on) fall_ends is in
          rw up at l

  -- ---- an entry is taken out

  module _ (nodes nodes1 rest : List (Node V)) (place hole : ℕ) (h : place < length nodes) (r : IsRaised nodes nodes1 place hole) (m : IsMoved nodes1 rest hole) where
    -- where an entry was before the leaf's entry was raised, and before the last one moved
    abbrev was1 : ℕ → ℕ
    was1 x = cond (eqb x place) hole x

    abbrev was2 : ℕ → ℕ
    was2 x = cond (eqb x hole) (length rest) x

    was1_at : (x : ℕ) → x ≡ place → was1 x ≡ hole
    was1_at x e = elim (eqb_tells x place) [ inl t ↦ ap (λ b. cond b hole x) t.0 | inr t ↦ absurd (t.1 e) ]

    was1_off : (x : ℕ) → x ≢ place → was1 x ≡ x
    was1_off x d = elim (eqb_tells x place) [ inl t ↦ absurd (d t.1) | inr t ↦ ap (λ b. cond b hole x) t.0 ]

    was2_at : (x : ℕ) → x ≡ hole → was2 x ≡ length rest
    was2_at x e = elim (eqb_tells x hole) [ inl t ↦ ap (λ b. cond b (length rest) x) t.0 | inr t ↦ absurd (t.1 e) ]

    was2_off : (x : ℕ) → x ≢ hole → was2 x ≡ x
    was2_off x d = elim (eqb_tells x hole) [ inl t ↦ absurd (d t.1) | inr t ↦ ap (λ b. cond b (length rest) x) t.0 ]

    came1 : (x : ℕ) → slice_get (entries_of nodes1) x ≡ slice_get (entries_of nodes) (was1 x)
    came1 x = elim (equal_or_not x place) [
      | inl e ↦ ap (slice_get (entries_of nodes1)) e ∙ r.came ∙ ap (slice_get (entries_of nodes)) (sym (was1_at x e))
      | inr d ↦ r.others x d ∙ ap (slice_get (entries_of nodes)) (sym (was1_off x d))
    ]

    came2 : (x : ℕ) → x < length rest → slice_get (entries_of rest) x ≡ slice_get (entries_of nodes1) (was2 x)
    came2 x l = elim (equal_or_not x hole) [
      | inl e ↦ ap (slice_get (entries_of rest)) e ∙ m.came (omega arith) ∙ ap (slice_get (entries_of nodes1)) (sym (was2_at x e))
      | inr d ↦ m.others x l d ∙ ap (slice_get (entries_of nodes1)) (sym (was2_off x d))
    ]

    off_hole : (x : ℕ) → x < length rest → was2 x ≢ hole
    off_hole x l z = elim (equal_or_not x hole) [
      | inl e ↦ let w = was2_at x e in omega arith
      | inr d ↦ d (sym (was2_off x d) ∙ z)
    ]

    off_place : (x : ℕ) → x ≢ hole → was1 x ≢ place
    off_place x o z = elim (equal_or_not x place) [
      | inl e ↦ let w = was1_at x e in omega arith
      | inr d ↦ d (sym (was1_off x d) ∙ z)
    ]

    once1 : (x y : ℕ) → x ≢ hole → y ≢ hole → was1 x ≡ was1 y → x ≡ y
    once1 x y ox oy z = elim (equal_or_not x place) [
      | inl e ↦ elim (equal_or_not y place) [
        | inl f ↦ e ∙ sym f
        | inr f ↦ absurd (oy (sym (was1_off y f) ∙ sym z ∙ was1_at x e))
      ]
      | inr e ↦ elim (equal_or_not y place) [
        | inl f ↦ absurd (ox (sym (was1_off x e) ∙ z ∙ was1_at y f))
        | inr f ↦ sym (was1_off x e) ∙ z ∙ was1_off y f
      ]
    ]

    once2 : (x y : ℕ) → x < length rest → y < length rest → was2 x ≡ was2 y → x ≡ y
    once2 x y lx ly z = elim (equal_or_not x hole) [
      | inl e ↦ elim (equal_or_not y hole) [
        | inl f ↦ e ∙ sym f
        | inr f ↦ absurd (let a = was2_at x e in let b = was2_off y f in omega arith)
      ]
      | inr e ↦ elim (equal_or_not y hole) [
        | inl f ↦ absurd (let a = was2_off x e in let b = was2_at y f in omega arith)
        | inr f ↦ sym (was2_off x e) ∙ z ∙ was2_off y f
      ]
    ]

    all1 : (z : ℕ) → z < length nodes → z ≢ place → (y : ℕ) × (y < length nodes) × (y ≢ hole) × (was1 y ≡ z)
    all1 z l d = elim (equal_or_not z hole) [
      | inl e ↦ (place, h, (λ f. d (e ∙ sym f)), was1_at place refl ∙ sym e)
      | inr o ↦ (z, l, o, was1_off z d)
    ]

    all2 : (y : ℕ) → y < length nodes → y ≢ hole → (x : ℕ) × (x < length rest) × (was2 x ≡ y)
    all2 y l o =
        let a = m.len in
        let b = r.len in
        let i = r.inside in
        elim (equal_or_not y (length rest)) [
          | inl e ↦ (hole, omega arith, was2_at hole refl ∙ sym e)
          | inr d ↦ (y, omega arith, was2_off y o)
        ]

    pub taken_out : IsTakenOut nodes rest place
    taken_out = record {
      len = let a = m.len in let b = r.len in omega arith;
      was = λ x. was1 (was2 x);
      came = λ x l. came2 x l ∙ came1 (was2 x);
      others = λ x l. off_place (was2 x) (off_hole x l);
      once = λ x y lx ly z. once2 x y lx ly (once1 (was2 x) (was2 y) (off_hole x lx) (off_hole y ly) z);
      all = λ z l d. let p = all1 z l d in let q = all2 p.0 p.1 p.2 in (q.0, q.1, ap was1 q.2 ∙ p.3);
    }

  -- ---- no keys

  short_none : (nodes : List (Node V)) → length nodes ≡ 0 → (v : ℕ) → key_at nodes v < 2 ^ 64
  short_none nodes e zero = omega arith
  short_none nodes e (suc x) = let z = past_key nodes x (omega arith) in let f : 0 < 2 ^ 64 = omega arith in rw z f

  pub kept_none : (nodes : List (Node V)) (heads : List ℕ) (capacity : ℕ) → nodes ≡ [] → heads ≡ [] → IsKept nodes heads capacity 0
  kept_none nodes heads capacity e f = rw (e, f) (record {
    unique = λ x y a b p q s. absurd (none_some a p);
    indexed = planted_none [] [] (λ c. refl) (λ h. absurd (omega arith)) (short_none [] refl);
    fits = omega arith;
    few = omega arith;
    ready = λ h. absurd (omega arith);
  })
