-- Trees of keys: what is found on the way to a key.
use Rattle.std.proofs.Common.{◌≡◌, ◌≢◌, ◌⊎◌, inl, inr, ℕ, zero, suc, ◌+◌, ◌-◌, ◌/◌, ◌%◌, ◌^◌, ◌<◌, ◌≤◌, refl, sym, ◌∙◌, ap, arith}
use Rattle.std.specs.Int.{bit_at}
use Rattle.std.proofs.lemmas.Bool.Decides.{eqb_tells}
use Rattle.std.proofs.lemmas.Nat.{shr-shr}
use Rattle.std.proofs.lemmas.Nat.Bits.{same_from_bits_below}
use Rattle.number_map.specs.Kept.{turn, AreAlike, IsTree, follow, walk, IsOn}

pub equal_or_not : (q k : ℕ) → (q ≡ k) ⊎ (q ≢ k)
equal_or_not q k = elim (eqb_tells q k) [ inl h ↦ inl h.1 | inr h ↦ inr h.1 ]

pub lower : (a b : ℕ) → (a < b) ⊎ (b ≤ a)
lower a zero = inr (omega arith)
lower zero (suc b) = inl (omega arith)
lower (suc a) (suc b) = elim (lower a b) [ inl h ↦ inl (omega arith) | inr h ↦ inr (omega arith) ]

alike_suc : (slots d k k' : ℕ) → AreAlike slots d k k' → turn slots d k ≡ turn slots d k' → AreAlike slots (suc d) k k'
alike_suc slots d k k' a t e h = elim (equal_or_not e d) [ inl s ↦ rw s t | inr o ↦ a e (omega arith) ]

follow_some : (link : ℕ → ℕ → ℕ) (out : ℕ → ℕ → ℕ) (u i : ℕ) → u ≢ 0 → ((x j : ℕ) → out (suc x) j ≡ link x j) → follow link u i ≡ out u i
follow_some link out zero i some same = absurd (some refl)
follow_some link out (suc x) i some same = sym (same x i)

-- where there is no node, there is none below
pub ended : (link : ℕ → ℕ → ℕ) (first k d e : ℕ) → walk link first k d ≡ 0 → d ≤ e → walk link first k e ≡ 0
ended link first k d zero none low = let z : d ≡ 0 = omega arith in rw z at none
ended link first k d (suc e) none low = elim (equal_or_not d (suc e)) [
  | inl s ↦ rw s at none
  | inr o ↦ ap (λ u. follow link u (bit_at k e)) (ended link first k d e none (omega arith))
]

-- keys of 64 bits that are alike in each
pub same_keys : (slots d k k' : ℕ) → k < 2 ^ 64 → k' < 2 ^ 64 → 65 ≤ d → AreAlike slots d k k' → k ≡ k'
same_keys slots d k k' s s' deep a = same_from_bits_below 64 k k' s s' (λ i h. a (suc i) (omega arith))

-- What is on the way to a key turns as the key does.
pub record IsOnWay (slots : ℕ) (key deep : ℕ → ℕ) (places hole k d v : ℕ) : Type 0 where
  pub inside : v ≤ places
  pub present : v ≢ hole
  pub deeper : deep v ≡ suc d
  pub alike : AreAlike slots (suc d) (key v) k

module _ (slots : ℕ) (key : ℕ → ℕ) (out : ℕ → ℕ → ℕ) (deep : ℕ → ℕ) (places hole : ℕ) (so : IsTree slots key out deep places hole) where
  abbrev link : ℕ → ℕ → ℕ
  link x i = out (suc x) i

  abbrev walk_to : ℕ → ℕ → ℕ
  walk_to k d = walk link (out 0 (turn slots 0 k)) k d

  next_on : (k d v u : ℕ) → (u ≢ 0 → IsOnWay slots key deep places hole k d u) → follow link u (bit_at k d) ≡ v → v ≢ 0 → IsOnWay slots key deep places hole k (suc d) v
  next_on k d v zero p f some = absurd (some (sym f))
  next_on k d v (suc x) p f some =
      let q = p (λ e. omega arith) in
      let b = so.down (suc x) (bit_at k d) v q.inside f some in
      let same : deep (suc x) ≡ suc d = q.deeper in
      record {
        inside = b.inside;
        present = b.present;
        deeper = b.deeper ∙ ap (λ n. suc n) same;
        alike = alike_suc slots (suc d) (key v) k (λ e h. sym (b.alike e (omega arith)) ∙ q.alike e h) (rw same at b.turned);
      }

  pub shares : (k d v : ℕ) → walk_to k d ≡ v → v ≢ 0 → IsOnWay slots key deep places hole k d v
  shares k zero v e some =
      let b = so.down 0 (turn slots 0 k) v (omega arith) e some in
      let t : deep 0 ≡ 0 = so.top in
      record {
        inside = b.inside;
        present = b.present;
        deeper = b.deeper ∙ ap (λ n. suc n) t;
        alike = alike_suc slots 0 (key v) k (λ e h. absurd (omega arith)) (rw t at b.turned);
      }
  shares k (suc d) v e some = next_on k d v (walk_to k d) (shares k d (walk_to k d) refl) e some

  walk_alike : (k k' d : ℕ) → AreAlike slots (suc d) k k' → walk_to k d ≡ walk_to k' d
  walk_alike k k' zero a = ap (out 0) (a 0 (omega arith))
  walk_alike k k' (suc d) a =
      ap (λ u. follow link u (bit_at k d)) (walk_alike k k' d (λ e h. a e (omega arith)))
      ∙ ap (λ i. follow link (walk_to k' d) i) (a (suc d) (omega arith))

  -- each node is found on the way to its key
  pub reach : (d v : ℕ) → v ≢ 0 → v ≤ places → v ≢ hole → deep v ≡ suc d → walk_to (key v) d ≡ v
  reach zero v some within present is =
      let p = so.up v some within present in
      let b = so.down p.0 (turn slots (deep p.0) (key v)) v p.1 p.2 some in
      let e : deep p.0 ≡ 0 = (let d = b.deeper in omega arith) in
      let at = p.2 in
      rw (e, so.root p.0 e) at at
  reach (suc d) v some within present is =
      let p = so.up v some within present in
      let b = so.down p.0 (turn slots (deep p.0) (key v)) v p.1 p.2 some in
      let e : deep p.0 ≡ suc d = (let d = b.deeper in omega arith) in
      let low : p.0 ≢ 0 = (λ z. let t = so.top in let f : deep p.0 ≡ deep 0 = ap deep z in omega arith) in
      let there : p.0 ≢ hole = (λ z. some (sym p.2 ∙ ap (λ u. out u (turn slots (deep p.0) (key v))) z ∙ so.empty _ (λ n. low (z ∙ n)))) in
      let up : walk_to (key p.0) d ≡ p.0 = reach d p.0 low p.1 there e in
      let same : walk_to (key v) d ≡ p.0 = walk_alike (key v) (key p.0) d (λ f h. sym (b.alike f (omega arith))) ∙ up in
      ap (λ u. follow link u (bit_at (key v) d)) same ∙ follow_some link out p.0 (bit_at (key v) d) low (λ x j. refl)
      ∙ ap (λ n. out p.0 (turn slots n (key v))) (sym e) ∙ p.2

  deep_some : (v : ℕ) → v ≢ 0 → deep v ≡ suc (deep v - 1)
  deep_some v some = let n : deep v ≢ 0 = (λ e. some (so.root v e)) in omega arith

  pub found : (v : ℕ) → v ≢ 0 → v ≤ places → v ≢ hole → walk_to (key v) (deep v - 1) ≡ v
  found v some within present = reach (deep v - 1) v some within present (deep_some v some)

  single : (u w : ℕ) → u ≢ 0 → w ≢ 0 → u ≤ places → w ≤ places → u ≢ hole → w ≢ hole → deep u ≡ deep w → AreAlike slots (deep u) (key u) (key w) → u ≡ w
  single u w su sw iu iw pu pw same a =
      let d = deep_some u su in
      sym (found u su iu pu) ∙ walk_alike (key u) (key w) (deep u - 1) (λ e h. a e (omega arith)) ∙ ap (walk_to (key w)) (ap (λ n. n - 1) same) ∙ found w sw iw pw

  pub not_hole : (u i v : ℕ) → out u i ≡ v → v ≢ 0 → u ≢ 0 → u ≢ hole
  not_hole u i v e some low z = some (sym e ∙ ap (λ w. out w i) z ∙ so.empty i (λ n. low (z ∙ n)))

  -- one link leads to a node
  pub source : (u i w j v : ℕ) → u ≤ places → w ≤ places → out u i ≡ v → out w j ≡ v → v ≢ 0 → (u ≡ w) × (i ≡ j)
  source u i w j v hu hw eu ew some =
      let bu = so.down u i v hu eu some in
      let bw = so.down w j v hw ew some in
      let same : deep u ≡ deep w = (let a = bu.deeper in let b = bw.deeper in omega arith) in
      let turns : i ≡ j = sym bu.turned ∙ ap (λ d. turn slots d (key v)) same ∙ bw.turned in
      elim (equal_or_not u 0) [
        | inl z ↦ (z ∙ sym (so.root w (sym same ∙ ap deep z ∙ so.top)), turns)
        | inr n ↦
            let m : w ≢ 0 = (λ z. n (so.root u (same ∙ ap deep z ∙ so.top))) in
            (single u w n m hu hw (not_hole u i v eu some n) (not_hole w j v ew some m) same (λ e h. bu.alike e h ∙ sym (bw.alike e (omega arith))), turns)
      ]

  -- what is on the way, from the root
  pub on_way : (k d u : ℕ) → IsOn link (out 0 (turn slots 0 k)) k d u → (u ≤ places) × (deep u ≡ d) × AreAlike slots d (key u) k
  on_way k zero u on = (omega arith, ap deep on ∙ so.top, λ e h. absurd (omega arith))
  on_way k (suc d) u on = let s = shares k d u on.0 on.1 in (s.inside, s.deeper, s.alike)

  -- each way ends
  pub stops : (k : ℕ) → walk_to k 65 ≡ 0
  stops k = elim (equal_or_not (walk_to k 65) 0) [
    | inl z ↦ z
    | inr n ↦ let s = shares k 65 (walk_to k 65) refl n in let d = s.deeper in let l = so.shallow (walk_to k 65) s.inside in absurd (omega arith)
  ]

-- ---- the way by what is left of the key's bits

-- how many nodes there are, at most so many, on the way by these bits
pub left : (link : ℕ → ℕ → ℕ) (most u bits : ℕ) → ℕ
left link zero u bits = 0
left link (suc f) zero bits = 0
left link (suc f) (suc x) bits = suc (left link f (link x (bits % 2)) (bits / 2))

pub next_bits : (key d bits : ℕ) → bits ≡ key / 2 ^ d → bits / 2 ≡ key / 2 ^ suc d
next_bits key d bits e = rw e (shr-shr key d 1 ∙ ap (λ n. key / 2 ^ n) (let s : d + 1 ≡ suc d = omega arith in s))

left_none : (link : ℕ → ℕ → ℕ) (f bits : ℕ) → left link f 0 bits ≡ 0
unfolding left
left_none link zero bits = refl
left_none link (suc f) bits = refl

-- a way that ends is no longer for a greater number
left_same : (link : ℕ → ℕ → ℕ) (first key d n u bits : ℕ) → bits ≡ key / 2 ^ d → u ≡ walk link first key d → walk link first key (d + n) ≡ 0 → left link (suc n) u bits ≡ left link n u bits
unfolding left
left_same link first key d n zero bits b w e = left_none link (suc n) bits ∙ sym (left_none link n bits)
left_same link first key d zero (suc x) bits b w e =
    let s : d + 0 ≡ d = omega arith in
    let z : suc x ≡ 0 = w ∙ ap (walk link first key) (sym s) ∙ e in absurd (omega arith)
left_same link first key d (suc n) (suc x) bits b w e =
    let turn : bits % 2 ≡ bit_at key d = ap (λ m. m % 2) b in
    let next : link x (bits % 2) ≡ walk link first key (suc d) = ap (link x) turn ∙ ap (λ u. follow link u (bit_at key d)) w in
    let s : suc d + n ≡ d + suc n = omega arith in
    ap (λ m. suc m) (left_same link first key (suc d) n (link x (bits % 2)) (bits / 2) (next_bits key d bits b) next (ap (walk link first key) s ∙ e))

-- each step leaves less
pub left_less : (link : ℕ → ℕ → ℕ) (first key d x bits next : ℕ) → bits ≡ key / 2 ^ d → suc x ≡ walk link first key d → walk link first key 65 ≡ 0 → next ≡ link x (bits % 2)
    → left link 66 next (bits / 2) < left link 66 (suc x) bits
unfolding left
left_less link first key d x bits next b w e is =
    let turn : bits % 2 ≡ bit_at key d = ap (λ m. m % 2) b in
    let on : link x (bits % 2) ≡ walk link first key (suc d) = ap (link x) turn ∙ ap (λ u. follow link u (bit_at key d)) w in
    let over : walk link first key (suc d + 65) ≡ 0 = ended link first key 65 (suc d + 65) e (omega arith) in
    let same = left_same link first key (suc d) 65 (link x (bits % 2)) (bits / 2) (next_bits key d bits b) on over in
    rw is (omega (arith, same))
