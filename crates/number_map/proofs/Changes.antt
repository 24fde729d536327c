-- Trees of keys, and what each step leaves of them.
use Rattle.std.proofs.Common.{◌≡◌, ◌≢◌, ◌⊎◌, inl, inr, ℕ, zero, suc, ◌^◌, ◌<◌, ◌≤◌, cond, eqb, refl, sym, ◌∙◌, ap, arith}
use Rattle.std.proofs.lemmas.Bool.Decides.{eqb_tells}
use Rattle.number_map.specs.Kept.{turn, AreAlike, IsBelow, IsTree, IsTurned, IsLed, KnowAbove}
use Rattle.number_map.proofs.Trees.{equal_or_not, lower, same_keys, source, on_way}

-- the same link, by other names
below_moved : (slots : ℕ) (key deep key' deep' : ℕ → ℕ) (places hole places' hole' u i v u' v' : ℕ) → key' u' ≡ key u → key' v' ≡ key v → deep' u' ≡ deep u → deep' v' ≡ deep v → v' ≤ places' → v' ≢ hole'
    → IsBelow slots key deep places hole u i v → IsBelow slots key' deep' places' hole' u' i v'
below_moved slots key deep key' deep' places hole places' hole' u i v u' v' ku kv du dv within present b = record {
  inside = within;
  present = present;
  deeper = dv ∙ b.deeper ∙ ap (λ n. suc n) (sym du);
  turned = rw (du, kv) b.turned;
  alike = rw (du, ku, kv) b.alike;
}

-- the same nodes and links
pub same_tree : (slots : ℕ) (key key' : ℕ → ℕ) (out out' : ℕ → ℕ → ℕ) (deep : ℕ → ℕ) (places hole : ℕ) → hole ≤ places → ((v : ℕ) → v ≤ places → key' v ≡ key v) → ((u i : ℕ) → u ≤ places → out' u i ≡ out u i)
    → IsTree slots key out deep places hole → IsTree slots key' out' deep places hole
same_tree slots key key' out out' deep places hole low ks os so = record {
  root = so.root;
  top = so.top;
  shallow = so.shallow;
  down = λ u i v h e some.
      let b = so.down u i v h (sym (os u i h) ∙ e) some in
      below_moved slots key deep key' deep places hole places hole u i v u v (ks u h) (ks v b.inside) refl refl b.inside b.present b;
  up = λ v some within present.
      let p = so.up v some within present in
      (p.0, p.1, os p.0 _ p.1 ∙ ap (λ k. out p.0 (turn slots (deep p.0) k)) (ks v within) ∙ p.2);
  empty = λ i h. os hole i low ∙ so.empty i h;
}

-- the same nodes, links and nodes above
pub know_same : (slots : ℕ) (key : ℕ → ℕ) (out out' : ℕ → ℕ → ℕ) (above above' deep : ℕ → ℕ) (places hole : ℕ) → IsTree slots key out deep places hole → ((v : ℕ) → v ≤ places → above' v ≡ above v) → ((u i : ℕ) → u ≤ places → out' u i ≡ out u i)
    → KnowAbove out above places → KnowAbove out' above' places
know_same slots key out out' above above' deep places hole so ms os know u i v h e some =
    let same : out u i ≡ v = sym (os u i h) ∙ e in
    ms v (so.down u i v h same some).inside ∙ know u i v h same some

-- other keys, each of which turns as the one before down to its node
pub keys_changed : (slots : ℕ) (key key' : ℕ → ℕ) (out : ℕ → ℕ → ℕ) (deep : ℕ → ℕ) (places hole : ℕ) → ((v : ℕ) → AreAlike slots (deep v) (key v) (key' v)) → IsTree slots key out deep places hole → IsTree slots key' out deep places hole
keys_changed slots key key' out deep places hole same so = record {
  root = so.root;
  top = so.top;
  shallow = so.shallow;
  down = λ u i v h e some.
      let b = so.down u i v h e some in
      let d : deep u < deep v = (let n = b.deeper in omega arith) in
      record {
        inside = b.inside;
        present = b.present;
        deeper = b.deeper;
        turned = sym (same v (deep u) d) ∙ b.turned;
        alike = λ e h. sym (same u e h) ∙ b.alike e h ∙ same v e (omega arith);
      };
  up = λ v some within present.
      let p = so.up v some within present in
      let b = so.down p.0 (turn slots (deep p.0) (key v)) v p.1 p.2 some in
      (p.0, p.1, ap (λ i. out p.0 i) (sym (same v (deep p.0) (let n = b.deeper in omega arith))) ∙ p.2);
  empty = so.empty;
}

turn_few : (slots d k : ℕ) → d ≢ 0 → turn slots d k < 2
turn_few slots zero k some = absurd (some refl)
turn_few slots (suc d) k some = omega arith

pub both : (u i w j : ℕ) → ((u ≡ w) × (i ≡ j)) ⊎ (u ≡ w → i ≡ j → ⊥)
both u i w j = elim (equal_or_not u w) [
  | inl e ↦ elim (equal_or_not i j) [ inl f ↦ inl (e, f) | inr n ↦ inr (λ _ f. n f) ]
  | inr n ↦ inr (λ e _. n e)
]

-- ---- a leaf joins

module _ (slots : ℕ) (key : ℕ → ℕ) (out out' : ℕ → ℕ → ℕ) (above above' deep : ℕ → ℕ) (places : ℕ) (so : IsTree slots key out deep places 0)
    (bare : (i : ℕ) → out (suc places) i ≡ 0) (led : IsLed slots out out' above above' (key (suc places)) (suc places))
    (short : (v : ℕ) → key v < 2 ^ 64) (absent : (v : ℕ) → v ≢ 0 → v ≤ places → key v ≢ key (suc places)) where
  way : (led.u ≤ places) × (deep led.u ≡ led.depth) × AreAlike slots led.depth (key led.u) (key (suc places))
  way = on_way slots key out deep places 0 so (key (suc places)) led.depth led.u led.on

  abbrev pub deeps : ℕ → ℕ
  deeps v = cond (eqb v (suc places)) (suc led.depth) (deep v)

  deep_new : (v : ℕ) → v ≡ suc places → deeps v ≡ suc led.depth
  deep_new v e = elim (eqb_tells v (suc places)) [ inl h ↦ ap (λ b. cond b (suc led.depth) (deep v)) h.0 | inr h ↦ absurd (h.1 e) ]

  deep_old : (v : ℕ) → v ≤ places → deeps v ≡ deep v
  deep_old v low = elim (eqb_tells v (suc places)) [ inl h ↦ absurd (let e : v ≡ suc places = h.1 in omega arith) | inr h ↦ ap (λ b. cond b (suc led.depth) (deep v)) h.0 ]

  -- the way ends above the last bit, as the key is not there
  low_enough : led.depth ≤ 64
  low_enough = elim (lower 64 led.depth) [
    | inl h ↦
        let w = way in
        let s = so.shallow led.u w.0 in
        let d = w.1 in
        let some : led.u ≢ 0 = (λ z. let t = so.top in let e : deep led.u ≡ deep 0 = ap deep z in omega arith) in
        absurd (absent led.u some w.0 (same_keys slots led.depth (key led.u) (key (suc places)) (short led.u) (short (suc places)) (omega arith) w.2))
    | inr h ↦ h
  ]

  joined_down : (u i v : ℕ) → u ≤ suc places → out' u i ≡ v → v ≢ 0 → IsBelow slots key deeps (suc places) 0 u i v
  joined_down u i v h e some =
      let w = way in
      elim (both u i led.u (turn slots led.depth (key (suc places)))) [
        | inl s ↦
            let is : v ≡ suc places = sym e ∙ ap (λ n. out' n i) s.0 ∙ ap (λ n. out' led.u n) s.1 ∙ led.turned.is in
            let d : deeps u ≡ led.depth = ap deeps s.0 ∙ deep_old led.u w.0 ∙ w.1 in
            record {
              inside = omega arith;
              present = some;
              deeper = deep_new v is ∙ ap (λ n. suc n) (sym d);
              turned = rw (d, is) (sym s.1);
              alike = rw (d, is, s.0) w.2;
            }
        | inr n ↦
            let same : out u i ≡ v = sym (led.turned.others u i n) ∙ e in
            let low : u ≤ places = elim (equal_or_not u (suc places)) [
              | inl z ↦ absurd (some (sym same ∙ ap (λ m. out m i) z ∙ bare i))
              | inr o ↦ omega arith
            ] in
            let b = so.down u i v low same some in
            let inside = b.inside in
            below_moved slots key deep key deeps places 0 (suc places) 0 u i v u v refl refl (deep_old u low) (deep_old v inside) (omega arith) some b
      ]

  pub joined : IsTree slots key out' deeps (suc places) 0
  joined = record {
    root = λ u e. elim (equal_or_not u (suc places)) [
      | inl s ↦ let d = deep_new u s in absurd (omega arith)
      | inr n ↦ so.root u (elim (eqb_tells u (suc places)) [ inl h ↦ absurd (n h.1) | inr h ↦ sym (ap (λ b. cond b (suc led.depth) (deep u)) h.0) ∙ e ])
    ];
    top = deep_old 0 (omega arith) ∙ so.top;
    shallow = λ u h. elim (equal_or_not u (suc places)) [
      | inl s ↦ let d = deep_new u s in let l = low_enough in omega arith
      | inr n ↦ let low : u ≤ places = omega arith in let d = deep_old u low in let s = so.shallow u low in omega arith
    ];
    down = joined_down;
    up = λ v some within present. elim (equal_or_not v (suc places)) [
      | inl s ↦
          let w = way in
          let d : deeps led.u ≡ led.depth = deep_old led.u w.0 ∙ w.1 in
          (led.u, omega (arith, w.0), rw (d, s) led.turned.is)
      | inr n ↦
          let p = so.up v some (omega arith) present in
          let d : deeps p.0 ≡ deep p.0 = deep_old p.0 p.1 in
          let i : ℕ = turn slots (deep p.0) (key v) in
          let kept : out' p.0 i ≡ out p.0 i = led.turned.others p.0 i (λ a b. some (sym p.2 ∙ ap (λ m. out m i) a ∙ ap (out led.u) b ∙ led.turned.was)) in
          (p.0, omega (arith, p.1), rw d (kept ∙ p.2))
    ];
    empty = λ i h. absurd (h refl);
  }

  pub joined_above : KnowAbove out above places → KnowAbove out' above' (suc places)
  joined_above know u i v h e some = elim (both u i led.u (turn slots led.depth (key (suc places)))) [
    | inl s ↦
        let is : v ≡ suc places = sym e ∙ ap (λ n. out' n i) s.0 ∙ ap (λ n. out' led.u n) s.1 ∙ led.turned.is in
        ap above' is ∙ led.here ∙ sym s.0
    | inr n ↦
        let same : out u i ≡ v = sym (led.turned.others u i n) ∙ e in
        let low : u ≤ places = elim (equal_or_not u (suc places)) [
          | inl z ↦ absurd (some (sym same ∙ ap (λ m. out m i) z ∙ bare i))
          | inr o ↦ omega arith
        ] in
        let inside = (so.down u i v low same some).inside in
        led.others v (λ z. omega arith) ∙ know u i v low same some
  ]

-- ---- a leaf is cut off, and is then the hole

module _ (slots : ℕ) (key : ℕ → ℕ) (out out' : ℕ → ℕ → ℕ) (deep : ℕ → ℕ) (places : ℕ) (so : IsTree slots key out deep places 0)
    (u0 i0 leaf : ℕ) (some_leaf : leaf ≢ 0) (inside : u0 ≤ places) (bare : (i : ℕ) → out leaf i ≡ 0) (cut : IsTurned out out' u0 i0 leaf 0) where
  cut_down : (u i v : ℕ) → u ≤ places → out' u i ≡ v → v ≢ 0 → IsBelow slots key deep places leaf u i v
  cut_down u i v h e some = elim (both u i u0 i0) [
    | inl s ↦ absurd (some (sym e ∙ ap (λ m. out' m i) s.0 ∙ ap (out' u0) s.1 ∙ cut.is))
    | inr n ↦
        let same : out u i ≡ v = sym (cut.others u i n) ∙ e in
        let b = so.down u i v h same some in
        below_moved slots key deep key deep places 0 places leaf u i v u v refl refl refl refl b.inside
        (λ z. let o = source slots key out deep places 0 so u i u0 i0 v h inside same (cut.was ∙ sym z) some in n o.0 o.1) b
  ]

  pub cut_off : IsTree slots key out' deep places leaf
  cut_off = record {
    root = so.root;
    top = so.top;
    shallow = so.shallow;
    down = cut_down;
    up = λ v some within present.
        let p = so.up v some within some in
        let i : ℕ = turn slots (deep p.0) (key v) in
        (p.0, p.1, cut.others p.0 i (λ a b. present (sym p.2 ∙ ap (λ m. out m i) a ∙ ap (out u0) b ∙ cut.was)) ∙ p.2);
    empty = λ i h. elim (both leaf i u0 i0) [
      | inl s ↦ ap (λ m. out' m i) s.0 ∙ ap (out' u0) s.1 ∙ cut.is
      | inr n ↦ cut.others leaf i n ∙ bare i
    ];
  }

  pub cut_above : (above above' : ℕ → ℕ) → ((v : ℕ) → above' v ≡ above v) → KnowAbove out above places → KnowAbove out' above' places
  cut_above above above' ms know u i v h e some = elim (both u i u0 i0) [
    | inl s ↦ absurd (some (sym e ∙ ap (λ m. out' m i) s.0 ∙ ap (out' u0) s.1 ∙ cut.is))
    | inr n ↦ ms v ∙ know u i v h (sym (cut.others u i n) ∙ e) some
  ]

-- ---- the last node moves into the hole, or is it

module _ (slots : ℕ) (key key' : ℕ → ℕ) (out out' : ℕ → ℕ → ℕ) (deep : ℕ → ℕ) (m hole : ℕ) (so : IsTree slots key out deep (suc m) hole) where
  pub last_gone : hole ≡ suc m → ((v : ℕ) → v ≤ m → key' v ≡ key v) → ((u i : ℕ) → u ≤ m → out' u i ≡ out u i) → IsTree slots key' out' deep m 0
  last_gone is ks os = record {
    root = so.root;
    top = so.top;
    shallow = λ u h. so.shallow u (omega arith);
    down = λ u i v h e some.
        let b = so.down u i v (omega arith) (sym (os u i h) ∙ e) some in
        let low : v ≤ m = (let a = b.inside in let n = b.present in omega arith) in
        below_moved slots key deep key' deep (suc m) hole m 0 u i v u v (ks u h) (ks v low) refl refl low some b;
    up = λ v some within present.
        let p = so.up v some (omega arith) (omega arith) in
        let low : p.0 ≤ m = elim (equal_or_not p.0 (suc m)) [
          | inl e ↦ absurd (some (sym p.2 ∙ ap (λ u. out u (turn slots (deep p.0) (key v))) (e ∙ sym is) ∙ so.empty _ (omega arith)))
          | inr n ↦ (let a = p.1 in omega arith)
        ] in
        (p.0, low, os p.0 _ low ∙ ap (λ k. out p.0 (turn slots (deep p.0) k)) (ks v within) ∙ p.2);
    empty = λ i h. absurd (h refl);
  }

  pub last_above : (above above' : ℕ → ℕ) → hole ≡ suc m → ((v : ℕ) → v ≤ m → above' v ≡ above v) → ((u i : ℕ) → u ≤ m → out' u i ≡ out u i) → KnowAbove out above (suc m) → KnowAbove out' above' m
  last_above above above' is ms os know u i v h e some =
      let same : out u i ≡ v = sym (os u i h) ∙ e in
      let b = so.down u i v (omega arith) same some in
      let low : v ≤ m = (let a = b.inside in let n = b.present in omega arith) in
      ms v low ∙ know u i v (omega arith) same some

  module _ (some_hole : hole ≢ 0) (low_hole : hole ≤ m) (u0 i0 : ℕ) (inside : u0 ≤ suc m) (out1 : ℕ → ℕ → ℕ) (led : IsTurned out out1 u0 i0 (suc m) hole)
      (key_hole : key' hole ≡ key (suc m)) (key_other : (v : ℕ) → v ≤ m → v ≢ hole → key' v ≡ key v)
      (out_hole : (i : ℕ) → out' hole i ≡ out1 (suc m) i) (out_other : (u i : ℕ) → u ≤ m → u ≢ hole → out' u i ≡ out1 u i) where
    -- where each node was
    abbrev was : ℕ → ℕ
    was v = cond (eqb v hole) (suc m) v

    was_hole : (v : ℕ) → v ≡ hole → was v ≡ suc m
    was_hole v e = elim (eqb_tells v hole) [ inl h ↦ ap (λ b. cond b (suc m) v) h.0 | inr h ↦ absurd (h.1 e) ]

    was_other : (v : ℕ) → v ≢ hole → was v ≡ v
    was_other v d = elim (eqb_tells v hole) [ inl h ↦ absurd (d h.1) | inr h ↦ ap (λ b. cond b (suc m) v) h.0 ]

    abbrev pub deeps_moved : ℕ → ℕ
    deeps_moved v = deep (was v)

    key_was : (v : ℕ) → v ≤ m → key' v ≡ key (was v)
    key_was v h = elim (equal_or_not v hole) [
      | inl e ↦ ap key' e ∙ key_hole ∙ ap key (sym (was_hole v e))
      | inr n ↦ key_other v h n ∙ ap key (sym (was_other v n))
    ]

    out_was : (u i : ℕ) → u ≤ m → out' u i ≡ out1 (was u) i
    out_was u i h = elim (equal_or_not u hole) [
      | inl e ↦ ap (λ n. out' n i) e ∙ out_hole i ∙ ap (λ n. out1 n i) (sym (was_hole u e))
      | inr n ↦ out_other u i h n ∙ ap (λ w. out1 w i) (sym (was_other u n))
    ]

    was_inside : (v : ℕ) → v ≤ m → was v ≤ suc m
    was_inside v h = elim (equal_or_not v hole) [
      | inl e ↦ let w = was_hole v e in omega arith
      | inr n ↦ let w = was_other v n in omega arith
    ]

    was_present : (v : ℕ) → was v ≢ hole
    was_present v z = elim (equal_or_not v hole) [
      | inl e ↦ let w = was_hole v e in omega arith
      | inr n ↦ n (sym (was_other v n) ∙ z)
    ]

    -- where a link of now led before
    led_before : (u i v : ℕ) → u ≤ suc m → out1 u i ≡ v → v ≢ 0 → (out u i ≡ was v) × (v ≤ m)
    led_before u i v h e some = elim (both u i u0 i0) [
      | inl s ↦
          let is : v ≡ hole = sym e ∙ ap (λ n. out1 n i) s.0 ∙ ap (out1 u0) s.1 ∙ led.is in
          (ap (λ n. out n i) s.0 ∙ ap (out u0) s.1 ∙ led.was ∙ sym (was_hole v is), omega arith)
      | inr n ↦
          let same : out u i ≡ v = sym (led.others u i n) ∙ e in
          let b = so.down u i v h same some in
          let away : v ≢ suc m = (λ z. let o = source slots key out deep (suc m) hole so u i u0 i0 v h inside same (led.was ∙ sym z) some in n o.0 o.1) in
          (same ∙ sym (was_other v b.present), (let a = b.inside in omega arith))
    ]

    pub moved : IsTree slots key' out' deeps_moved m 0
    moved = record {
      root = λ u e. elim (equal_or_not u hole) [
        | inl s ↦ let w = was_hole u s in let z = so.root (was u) e in absurd (omega arith)
        | inr n ↦ sym (was_other u n) ∙ so.root (was u) e
      ];
      top = ap deep (was_other 0 (λ e. some_hole (sym e))) ∙ so.top;
      shallow = λ u h. so.shallow (was u) (was_inside u h);
      down = λ u i v h e some.
          let l = led_before (was u) i v (was_inside u h) (sym (out_was u i h) ∙ e) some in
          let there : was v ≢ 0 = (elim (equal_or_not v hole) [ inl s ↦ (let w = was_hole v s in omega arith) | inr n ↦ (let w = was_other v n in omega arith) ]) in
          let b = so.down (was u) i (was v) (was_inside u h) l.0 there in
          below_moved slots key deep key' deeps_moved (suc m) hole m 0 (was u) i (was v) u v (key_was u h) (key_was v l.1) refl refl l.1 some b;
      up = λ v some within present.
          let there : was v ≢ 0 = (elim (equal_or_not v hole) [ inl s ↦ (let w = was_hole v s in omega arith) | inr n ↦ (let w = was_other v n in omega arith) ]) in
          let p = so.up (was v) there (was_inside v within) (was_present v) in
          let i : ℕ = turn slots (deep p.0) (key (was v)) in
          -- the node with the link, where it is now
          let now : (u : ℕ) × (u ≤ m) × (was u ≡ p.0) = elim (equal_or_not p.0 (suc m)) [
            | inl e ↦ (hole, low_hole, was_hole hole refl ∙ sym e)
            | inr n ↦
                let off : p.0 ≢ hole = (λ z. there (sym p.2 ∙ ap (λ w. out w i) z ∙ so.empty i some_hole)) in
                (p.0, (let a = p.1 in omega arith), was_other p.0 off)
          ] in
          let leads : out1 p.0 i ≡ v = elim (both p.0 i u0 i0) [
            | inl s ↦
                let to : was v ≡ suc m = sym p.2 ∙ ap (λ w. out w i) s.0 ∙ ap (out u0) s.1 ∙ led.was in
                ap (λ w. out1 w i) s.0 ∙ ap (out1 u0) s.1 ∙ led.is ∙ elim (equal_or_not v hole) [
                  | inl e ↦ sym e
                  | inr n ↦ absurd (let w = was_other v n in omega arith)
                ]
            | inr n ↦ led.others p.0 i n ∙ p.2 ∙ elim (equal_or_not v hole) [
              | inl e ↦ absurd (let o = source slots key out deep (suc m) hole so p.0 i u0 i0 (suc m) p.1 inside (p.2 ∙ was_hole v e) led.was (omega arith) in n o.0 o.1)
              | inr n ↦ was_other v n
            ]
          ] in (
            now.0,
            now.1,
            out_was now.0 _ now.1 ∙ ap (λ w. out1 w (turn slots (deeps_moved now.0) (key' v))) now.2
                ∙ ap (λ d. out1 p.0 (turn slots d (key' v))) (ap deep now.2) ∙ ap (λ k. out1 p.0 (turn slots (deep p.0) k)) (key_was v within) ∙ leads,
          );
      empty = λ i h. absurd (h refl);
    }

    module _ (above above' : ℕ → ℕ) (know : KnowAbove out above (suc m)) (come : ((i : ℕ) → i < 2 → out1 (suc m) i ≢ suc m) → above' hole ≡ above (suc m))
        (hung : (v i : ℕ) → v ≢ 0 → v ≤ m → v ≢ hole → i < 2 → out1 (suc m) i ≡ v → above' v ≡ hole)
        (kept : (v : ℕ) → v ≤ m → v ≢ hole → ((i : ℕ) → i < 2 → out1 (suc m) i ≢ v) → above' v ≡ above v) where
      -- no link leads to the last node's place
      not_last : (i : ℕ) → i < 2 → out1 (suc m) i ≢ suc m
      not_last i few e = let l = led_before (suc m) i (suc m) (omega arith) e (omega arith) in let z = l.1 in omega arith

      pub moved_above : KnowAbove out' above' m
      moved_above u i v h e some =
          let l = led_before (was u) i v (was_inside u h) (sym (out_was u i h) ∙ e) some in
          let there : was v ≢ 0 = (elim (equal_or_not v hole) [ inl s ↦ (let w = was_hole v s in omega arith) | inr n ↦ (let w = was_other v n in omega arith) ]) in
          let k : above (was v) ≡ was u = know (was u) i (was v) (was_inside u h) l.0 there in
          elim (equal_or_not v hole) [
            | inl ev ↦
                let off : u ≢ hole = (λ z.
                let b = so.down (was u) i (was v) (was_inside u h) l.0 there in
                let d : deep (was v) ≡ suc (deep (was v)) = b.deeper ∙ ap (λ w. suc (deep w)) (was_hole u z ∙ sym (was_hole v ev)) in omega arith) in
                ap above' ev ∙ come not_last ∙ ap above (sym (was_hole v ev)) ∙ k ∙ was_other u off
            | inr dv ↦ elim (equal_or_not u hole) [
              | inl eu ↦
                  let w = was_hole u eu in
                  let b = so.down (was u) i (was v) (was_inside u h) l.0 there in
                  let t = b.turned in
                  let f = turn_few slots (deep (was u)) (key (was v)) (λ z. let y = so.root (was u) z in omega arith) in
                  hung v i some l.1 dv (omega arith) (ap (λ w. out1 w i) (sym (was_hole u eu)) ∙ sym (out_was u i h) ∙ e) ∙ sym eu
              | inr du ↦ kept v l.1 dv (λ j few f.
                  let p = led_before (suc m) j v (omega arith) f some in
                  let z : above (was v) ≡ suc m = know (suc m) j (was v) (omega arith) p.0 there in
                  let y : was u ≡ u = was_other u du in omega arith) ∙ ap above (sym (was_other v dv)) ∙ k ∙ was_other u du
            ]
          ]
