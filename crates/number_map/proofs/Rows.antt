-- Rows of nodes: what is found, and what each step leaves.
use Rattle.std.proofs.Common.{◌≡◌, ◌≢◌, ◌⊎◌, inl, inr, ℕ, zero, suc, ◌-◌, ◌%◌, ◌/◌, ◌^◌, ◌<◌, ◌≤◌, List, [], ◌∷◌, ◌++◌, length, Option, Some, None, slice_get, slice_set, slice_index_or, get_or, take, drop, refl, sym, ◌∙◌, ap, arith}
use Rattle.std.specs.Option.{option_map, option_map_or}
use Rattle.std.specs.Int.{bit_at}
use Rattle.std.proofs.lemmas.List.{get_or-set_same, get_or-set_other, length-set}
use Rattle.std.proofs.lemmas.Option.{slice_get_within, slice_get-map, slice_get_read}
use Rattle.number_map.specs.declared.Node.{Node}
use Rattle.number_map.specs.Kept.{slot, turn, head_at, key_in, link_in, key_at, link_at, above_in, above_at, out_at, entry_of, entries_of, follow, walk, IsPlanted, IsIndexed, IsWay, IsTurnedBelow, IsLed, IsLedBelow, IsCut, IsHung, AreHung, HasKey, SameEntries, SameAbove}
use Rattle.number_map.proofs.Trees.{equal_or_not, shares, found, stops, next_bits, left, left_less, ended}

bit_few : (key d : ℕ) → bit_at key d < 2
bit_few key d = omega arith

pub few_cases : (i : ℕ) → i < 2 → (i ≡ 0) ⊎ (i ≡ 1)
few_cases zero h = inl refl
few_cases (suc zero) h = inr refl
few_cases (suc (suc i)) h = absurd (omega arith)

pub same_some : {A : Type 0} (x y : A) → Some x ≡ Some y → x ≡ y
same_some x y e = cc

pub none_some : {A : Type 0} (x : A) → None ≡ Some x → ⊥
none_some x e = cc

pub got_set : {X : Type 0} (xs : List X) (i : ℕ) (x : X) → i < length xs → slice_get (slice_set xs i x) i ≡ Some x
got_set [] i x h = absurd (omega arith)
got_set (y ∷ xs) zero x h = refl
got_set (y ∷ xs) (suc i) x h = got_set xs i x (let less : suc i < suc (length xs) = h in omega arith)

pub got_other : {X : Type 0} (xs : List X) (i j : ℕ) (x : X) → j ≢ i → slice_get (slice_set xs i x) j ≡ slice_get xs j
got_other [] i j x d = refl
got_other (y ∷ xs) zero zero x d = absurd (d refl)
got_other (y ∷ xs) zero (suc j) x d = refl
got_other (y ∷ xs) (suc i) zero x d = refl
got_other (y ∷ xs) (suc i) (suc j) x d = got_other xs i j x (λ e. d (ap (λ n. suc n) e))

pub got_before : {X : Type 0} (xs ys : List X) (x : ℕ) → x < length xs → slice_get (xs ++ ys) x ≡ slice_get xs x
got_before [] ys x h = absurd (omega arith)
got_before (k ∷ xs) ys zero h = refl
got_before (k ∷ xs) ys (suc x) h = got_before xs ys x (let less : suc x < suc (length xs) = h in omega arith)

pub length_pushed : {X : Type 0} (xs : List X) (y : X) → length (xs ++ y ∷ []) ≡ suc (length xs)
length_pushed [] y = refl
length_pushed (x ∷ xs) y = ap (λ n. suc n) (length_pushed xs y)

pub got_last : {X : Type 0} (xs : List X) (y : X) → slice_get (xs ++ y ∷ []) (length xs) ≡ Some y
got_last [] y = refl
got_last (x ∷ xs) y = got_last xs y

pub there : {X : Type 0} (xs : List X) (i : ℕ) → i < length xs → (x : X) × (slice_get xs i ≡ Some x)
there [] i h = absurd (omega arith)
there (x ∷ xs) zero h = (x, refl)
there (x ∷ xs) (suc i) h = there xs i (let less : suc i < suc (length xs) = h in omega arith)

-- lists that are the same at each place
pub same_list : {X : Type 0} (xs ys : List X) → ((i : ℕ) → slice_get xs i ≡ slice_get ys i) → xs ≡ ys
same_list [] [] is = refl
same_list [] (y ∷ ys) is = absurd (none_some y (is 0))
same_list (x ∷ xs) [] is = absurd (none_some x (sym (is 0)))
same_list (x ∷ xs) (y ∷ ys) is = ap (λ a. a ∷ xs) (same_some x y (is 0)) ∙ ap (λ zs. y ∷ zs) (same_list xs ys (λ i. is (suc i)))

pub popped_len : {X : Type 0} (xs ys : List X) (y : X) → xs ≡ ys ++ y ∷ [] → length xs ≡ suc (length ys)
popped_len xs ys y e = ap (λ (zs : List _). length zs) e ∙ length_pushed ys y

-- what a list is once a slice over the whole of it is written
pub wrote : {X : Type 0} (xs ys : List X) (n : ℕ) → length xs ≡ length ys → n ≡ length ys → take n (xs ++ drop (length xs) ys) ≡ xs
wrote [] [] n e f = rw f refl
wrote [] (y ∷ ys) n e f = absurd (omega arith)
wrote (x ∷ xs) [] n e f = absurd (omega arith)
wrote (x ∷ xs) (y ∷ ys) n e f =
    let s : suc (length xs) ≡ suc (length ys) = e in
    let g : n ≡ suc (length ys) = f in
    rw g (ap (λ zs. x ∷ zs) (wrote xs ys (length ys) (omega arith) refl))

module _ {V : Type 0} where
  -- ---- one node

  pub key_of_some : (nodes : List (Node V)) (x : ℕ) (n : Node V) → slice_get nodes x ≡ Some n → key_at nodes (suc x) ≡ n.key
  key_of_some nodes x n e = ap (λ (o : Option (Node V)). key_in o) e

  pub link_of_some : (nodes : List (Node V)) (x i : ℕ) (n : Node V) → slice_get nodes x ≡ Some n → link_at nodes x i ≡ slice_index_or n.links i 0
  link_of_some nodes x i n e = ap (λ (o : Option (Node V)). link_in i o) e

  pub above_of_some : (nodes : List (Node V)) (x : ℕ) (n : Node V) → slice_get nodes x ≡ Some n → above_at nodes (suc x) ≡ n.above
  above_of_some nodes x n e = ap (λ (o : Option (Node V)). above_in o) e

  pub entry_here : (nodes : List (Node V)) (x : ℕ) (n : Node V) → slice_get nodes x ≡ Some n → slice_get (entries_of nodes) x ≡ Some (entry_of n)
  entry_here nodes x n e = slice_get-map entry_of nodes x ∙ ap (λ (o : Option (Node V)). option_map entry_of o) e

  key_of_entry : (o : Option (Node V)) → key_in o ≡ option_map_or (λ (e : ℕ × V). e.0) (option_map entry_of o) 0
  key_of_entry None = refl
  key_of_entry (Some n) = refl

  -- the same entry has the same key
  pub same_key : (old new : List (Node V)) (x y : ℕ) → slice_get (entries_of new) x ≡ slice_get (entries_of old) y → key_at new (suc x) ≡ key_at old (suc y)
  same_key old new x y e =
      key_of_entry (slice_get new x)
      ∙ ap (λ (o : Option (ℕ × V)). option_map_or (λ (e : ℕ × V). e.0) o 0) (sym (slice_get-map entry_of new x) ∙ e ∙ slice_get-map entry_of old y)
      ∙ sym (key_of_entry (slice_get old y))

  pub keys_same : (old new : List (Node V)) (v : ℕ) → SameEntries old new → key_at new v ≡ key_at old v
  keys_same old new zero e = refl
  keys_same old new (suc x) e = same_key old new x x (ap (λ (es : List (ℕ × V)). slice_get es x) e)

  pub entries_len : (nodes : List (Node V)) → length (entries_of nodes) ≡ length nodes
  entries_len [] = refl
  entries_len (n ∷ nodes) = ap (λ k. suc k) (entries_len nodes)

  pub same_len : (old new : List (Node V)) → SameEntries old new → length new ≡ length old
  same_len old new e = sym (entries_len new) ∙ ap (λ (es : List (ℕ × V)). length es) e ∙ entries_len old

  pub node_read : (nodes : List (Node V)) (x : ℕ) (n : Node V) → x < length nodes → n ≡ get_or nodes x n → slice_get nodes x ≡ Some n
  node_read nodes x n h e = slice_get_read nodes (length nodes) x n refl h e

  pub node_got : (nodes : List (Node V)) (x : ℕ) (n : Node V) → x < length nodes → n ≡ get_or nodes x n → slice_get nodes x ≡ Some (get_or nodes x n)
  node_got nodes x n h e = node_read nodes x n h e ∙ ap (λ (k : Node V). Some k) e

  -- ---- on the way to a key

  module _ (nodes : List (Node V)) (heads : List ℕ) (places hole : ℕ) (r : IsPlanted nodes heads places hole) where
    pub way_inside : (key d x : ℕ) → walk (link_at nodes) (head_at heads key) key d ≡ suc x → x < places
    way_inside key d x e = let s = (shares (length heads) (key_at nodes) (out_at nodes heads) r.deep places hole r.tree key d (suc x) e (omega arith)).inside in omega arith

    pub way_ends : (key : ℕ) → walk (link_at nodes) (head_at heads key) key 65 ≡ 0
    way_ends key = stops (length heads) (key_at nodes) (out_at nodes heads) r.deep places hole r.tree key

    pub way_leads : (x key : ℕ) → x < places → suc x ≢ hole → key_at nodes (suc x) ≡ key → (e : ℕ) × (walk (link_at nodes) (head_at heads key) key e ≡ suc x)
    way_leads x key h present own =
        let f = found (length heads) (key_at nodes) (out_at nodes heads) r.deep places hole r.tree (suc x) (omega arith) (omega arith) present in
        (r.deep (suc x) - 1, rw own at f)

    pub way_out : (key : ℕ) → places ≤ length nodes → IsWay nodes (head_at heads key) key
    way_out key low = record { inside = λ d y e. (let w = way_inside key d y e in omega arith); ends = way_ends key }

  module _ (nodes : List (Node V)) (first key d bits x : ℕ) (bits_is : bits ≡ key / 2 ^ d) (on : suc x ≡ walk (link_at nodes) first key d) (n : Node V) (at : slice_get nodes x ≡ Some n) where
    pub next_link : slice_index_or n.links (bits % 2) 0 ≡ walk (link_at nodes) first key (suc d)
    next_link =
        let turn : bits % 2 ≡ bit_at key d = ap (λ m. m % 2) bits_is in
        sym (link_of_some nodes x (bits % 2) n at) ∙ ap (λ i. link_at nodes x i) turn ∙ ap (λ u. follow (link_at nodes) u (bit_at key d)) on

    pub next_less : walk (link_at nodes) first key 65 ≡ 0 → (next : ℕ) → next ≡ slice_index_or n.links (bits % 2) 0 → left (link_at nodes) 66 next (bits / 2) < left (link_at nodes) 66 (suc x) bits
    next_less ends next is = left_less (link_at nodes) first key d x bits next bits_is on ends (is ∙ sym (link_of_some nodes x (bits % 2) n at))

  -- ---- finding

  module _ (nodes : List (Node V)) (heads : List ℕ) (key : ℕ) where
    -- where the key is, it is found at this depth or below
    abbrev pub IsLater : ℕ → Type 0
    IsLater d = (x : ℕ) → HasKey nodes key x → (e : ℕ) × (d ≤ e) × (walk (link_at nodes) (head_at heads key) key e ≡ suc x)

    pub later_first : IsIndexed nodes heads → IsLater 0
    later_first r x has =
        let f = way_leads nodes heads (length nodes) 0 r x key (slice_get_within nodes x has.0 has.1) (omega arith) (key_of_some nodes x has.0 has.1 ∙ has.2) in
        (f.0, omega arith, f.1)

    pub later_next : (d x : ℕ) → IsLater d → suc x ≡ walk (link_at nodes) (head_at heads key) key d → (n : Node V) → slice_get nodes x ≡ Some n → n.key ≢ key → IsLater (suc d)
    later_next d x later on n at other y has =
        let l = later y has in (
          l.0,
          elim (equal_or_not l.0 d) [
            | inl e ↦
                let same : suc x ≡ suc y = on ∙ ap (walk (link_at nodes) (head_at heads key) key) (sym e) ∙ l.2 in
                let here : x ≡ y = omega arith in
                absurd (other (ap (λ (k : Node V). k.key) (same_some n has.0 (sym at ∙ ap (slice_get nodes) here ∙ has.1)) ∙ has.2))
            | inr o ↦ (let a = l.1 in omega arith)
          ],
          l.2,
        )

    pub none_later : (d : ℕ) → IsLater d → 0 ≡ walk (link_at nodes) (head_at heads key) key d → (x : ℕ) → HasKey nodes key x → ⊥
    none_later d later on x has =
        let l = later x has in
        let z : walk (link_at nodes) (head_at heads key) key l.0 ≡ 0 = ended (link_at nodes) (head_at heads key) key d l.0 (sym on) l.1 in
        let f = l.2 in omega arith

    -- where the key is there, the way to it goes on
    pub some_on : (d : ℕ) → IsLater d → (x : ℕ) → HasKey nodes key x → 1 ≤ walk (link_at nodes) (head_at heads key) key d
    some_on d later x has = elim (equal_or_not (walk (link_at nodes) (head_at heads key) key d) 0) [
      | inl z ↦ absurd (none_later d later (sym z) x has)
      | inr n ↦ omega arith
    ]

    pub none_kept : IsIndexed nodes heads → length heads ≡ 0 → (x : ℕ) → HasKey nodes key x → ⊥
    none_kept r none x m = let i = slice_get_within nodes x m.0 m.1 in let w = r.wide (omega arith) in omega arith

  -- ---- on the way to a link

  -- The node at this place is on the way to the key, and so is what its link leads to.
  pub record IsLeading (nodes : List (Node V)) (first key above bits link : ℕ) : Type 0 where
    pub inside : above < length nodes
    pub low : link ≤ length nodes
    pub depth : ℕ
    pub bits_is : bits ≡ key / 2 ^ depth
    pub on : suc above ≡ walk (link_at nodes) first key depth
    pub next : link ≡ walk (link_at nodes) first key (suc depth)

  module _ (nodes : List (Node V)) (first key : ℕ) (way : IsWay nodes first key) where
    leading_at : (d above bits : ℕ) → bits ≡ key / 2 ^ d → suc above ≡ walk (link_at nodes) first key d
        → (n : Node V) → slice_get nodes above ≡ Some n → IsLeading nodes first key above bits (slice_index_or n.links (bits % 2) 0)
    leading_at d above bits b on n at =
        let next = next_link nodes first key d bits above b on n at in
        let link : ℕ = slice_index_or n.links (bits % 2) 0 in
        record {
          inside = way.inside d above (sym on);
          low = elim (equal_or_not link 0) [
            | inl z ↦ omega arith
            | inr o ↦
                let up : link ≡ suc (link - 1) = omega arith in
                let i = way.inside (suc d) (link - 1) (sym next ∙ up) in omega arith
          ];
          depth = d;
          bits_is = b;
          on = on;
          next = next;
        }

    pub leading_first : 0 < first → (n : Node V) → slice_get nodes (first - 1) ≡ Some n → IsLeading nodes first key (first - 1) key (slice_index_or n.links (key % 2) 0)
    leading_first some n at =
        let one : key ≡ key / 2 ^ 0 = grind arith in
        let up : suc (first - 1) ≡ first = omega arith in
        leading_at 0 (first - 1) key one up n at

    module _ (above bits link : ℕ) (so : IsLeading nodes first key above bits link) (some : 0 < link) where
      pub leading_next : (n : Node V) → slice_get nodes (link - 1) ≡ Some n → IsLeading nodes first key (link - 1) (bits / 2) (slice_index_or n.links (bits / 2 % 2) 0)
      leading_next n at =
          let up : suc (link - 1) ≡ link = omega arith in
          leading_at (suc so.depth) (link - 1) (bits / 2) (next_bits key so.depth bits so.bits_is) (up ∙ so.next) n at

      pub leading_less : left (link_at nodes) 66 link (bits / 2) < left (link_at nodes) 66 (suc above) bits
      leading_less =
          let turn : bits % 2 ≡ bit_at key so.depth = ap (λ m. m % 2) so.bits_is in
          left_less (link_at nodes) first key so.depth above bits link so.bits_is so.on way.ends
          (so.next ∙ ap (λ u. follow (link_at nodes) u (bit_at key so.depth)) (sym so.on) ∙ ap (λ i. link_at nodes above i) (sym turn))

  -- ---- a link is turned

  module _ (nodes : List (Node V)) (x : ℕ) (n m : Node V) (at : slice_get nodes x ≡ Some n) where
    inside_turned : x < length nodes
    inside_turned = slice_get_within nodes x n at

    pub turned_here : (j : ℕ) → link_at (slice_set nodes x m) x j ≡ slice_index_or m.links j 0
    turned_here j = link_of_some (slice_set nodes x m) x j m (got_set nodes x m inside_turned)

    pub turned_other : (w j : ℕ) → w ≢ x → link_at (slice_set nodes x m) w j ≡ link_at nodes w j
    turned_other w j d = ap (λ (o : Option (Node V)). link_in j o) (got_other nodes x w m d)

    pub turned_entries : m.key ≡ n.key → m.value ≡ n.value → SameEntries nodes (slice_set nodes x m)
    turned_entries k v = same_list (entries_of (slice_set nodes x m)) (entries_of nodes) (λ i. elim (equal_or_not i x) [
      | inl e ↦
          ap (slice_get (entries_of (slice_set nodes x m))) e ∙ entry_here (slice_set nodes x m) x m (got_set nodes x m inside_turned)
          ∙ ap (λ (a : ℕ). Some (a, m.value)) k ∙ ap (λ (b : V). Some (n.key, b)) v ∙ sym (entry_here nodes x n at) ∙ ap (slice_get (entries_of nodes)) (sym e)
      | inr d ↦ slice_get-map entry_of (slice_set nodes x m) i ∙ ap (λ (o : Option (Node V)). option_map entry_of o) (got_other nodes x i m d) ∙ sym (slice_get-map entry_of nodes i)
    ])

    pub above_here : above_at (slice_set nodes x m) (suc x) ≡ m.above
    above_here = ap (λ (o : Option (Node V)). above_in o) (got_set nodes x m inside_turned)

    pub above_other : (v : ℕ) → v ≢ suc x → above_at (slice_set nodes x m) v ≡ above_at nodes v
    above_other zero d = refl
    above_other (suc y) d = ap (λ (o : Option (Node V)). above_in o) (got_other nodes x y m (λ e. d (ap (λ n. suc n) e)))

    pub above_same : m.above ≡ n.above → SameAbove nodes (slice_set nodes x m)
    above_same k v = elim (equal_or_not v (suc x)) [
      | inl e ↦ ap (above_at (slice_set nodes x m)) e ∙ above_here ∙ k ∙ sym (ap (λ (o : Option (Node V)). above_in o) at) ∙ ap (above_at nodes) (sym e)
      | inr d ↦ above_other v d
    ]

    pub links_same : m.links ≡ n.links → (w j : ℕ) → link_at (slice_set nodes x m) w j ≡ link_at nodes w j
    links_same k w j = elim (equal_or_not w x) [
      | inl e ↦
          ap (λ y. link_at (slice_set nodes x m) y j) e ∙ turned_here j ∙ ap (λ (ls : List ℕ). slice_index_or ls j 0) k
          ∙ sym (link_of_some nodes x j n at) ∙ ap (λ y. link_at nodes y j) (sym e)
      | inr o ↦ turned_other w j o
    ]

    pub turned_below : (side from to : ℕ) → slice_index_or n.links side 0 ≡ from → slice_index_or m.links side 0 ≡ to → ((i : ℕ) → i ≢ side → slice_index_or m.links i 0 ≡ slice_index_or n.links i 0)
        → m.key ≡ n.key → m.value ≡ n.value → m.above ≡ n.above → IsTurnedBelow nodes (slice_set nodes x m) x from to
    turned_below side from to was here others k v a = record {
      side = side;
      was = link_of_some nodes x side n at ∙ was;
      is = turned_here side ∙ here;
      others = λ w j d. elim (equal_or_not w x) [
        | inl e ↦
            ap (λ y. link_at (slice_set nodes x m) y j) e ∙ turned_here j ∙ others j (λ f. d e f)
            ∙ sym (link_of_some nodes x j n at) ∙ ap (λ y. link_at nodes y j) (sym e)
        | inr o ↦ turned_other w j o
      ];
      entries = turned_entries k v;
      above = above_same a;
    }

    module _ (nodes' : List (Node V)) (first key to bits link : ℕ) (so : IsLeading nodes first key x bits link) (is : link ≡ 0) (here : slice_index_or m.links (bits % 2) 0 ≡ to)
        (others : (i : ℕ) → i ≢ bits % 2 → slice_index_or m.links i 0 ≡ slice_index_or n.links i 0) (above : m.above ≡ n.above) (a : ℕ) (a_is : a ≡ suc x) (hung : IsHung (slice_set nodes x m) nodes' to a) (some : 0 < to) where
      pub led_below : IsLedBelow nodes nodes' first key to
      led_below =
          let turn : bits % 2 ≡ bit_at key so.depth = ap (λ m. m % 2) so.bits_is in
          record {
            depth = so.depth;
            x = x;
            on = sym so.on;
            was = ap (λ u. follow (link_at nodes) u (bit_at key so.depth)) so.on ∙ sym so.next ∙ is;
            is = hung.links x (bit_at key so.depth) ∙ turned_here (bit_at key so.depth) ∙ ap (λ i. slice_index_or m.links i 0) (sym turn) ∙ here;
            links = λ w j d. hung.links w j ∙ elim (equal_or_not w x) [
              | inl e ↦
                  ap (λ y. link_at (slice_set nodes x m) y j) e ∙ turned_here j ∙ others j (λ f. d e (f ∙ turn))
                  ∙ sym (link_of_some nodes x j n at) ∙ ap (λ y. link_at nodes y j) (sym e)
              | inr o ↦ turned_other w j o
            ];
            here = hung.here (omega arith) ∙ a_is;
            others = λ v d. hung.others v d ∙ above_same above v;
          }

  -- what a link leads to hangs on another node
  pub hung_here : (nodes : List (Node V)) (link above : ℕ) (n m : Node V) → 0 < link → slice_get nodes (link - 1) ≡ Some n → m.links ≡ n.links → m.key ≡ n.key → m.value ≡ n.value → m.above ≡ above → IsHung nodes (slice_set nodes (link - 1) m) link above
  hung_here nodes link above n m some at ls k v a =
      let up : link ≡ suc (link - 1) = omega arith in
      record {
        here = λ h. ap (above_at (slice_set nodes (link - 1) m)) up ∙ above_here nodes (link - 1) n m at ∙ a;
        others = λ w d. above_other nodes (link - 1) n m at w (λ e. d (e ∙ sym up));
        links = links_same nodes (link - 1) n m at ls;
        entries = turned_entries nodes (link - 1) n m at k v;
      }

  -- what both links of a node lead to hangs on another node
  pub both_hung : (nodes nodes1 nodes2 : List (Node V)) (place above : ℕ) (n : Node V) → slice_get nodes place ≡ Some n → IsHung nodes nodes1 (slice_index_or n.links 0 0) above → IsHung nodes1 nodes2 (slice_index_or n.links 1 0) above → AreHung nodes nodes2 place above
  both_hung nodes nodes1 nodes2 place above n at one two = record {
    here = λ v i some few e. elim (few_cases i few) [
      | inl z ↦
          let is : v ≡ slice_index_or n.links 0 0 = sym e ∙ ap (link_at nodes place) z ∙ link_of_some nodes place 0 n at in
          elim (equal_or_not v (slice_index_or n.links 1 0)) [
            | inl f ↦ ap (above_at nodes2) f ∙ two.here (λ y. some (f ∙ y))
            | inr d ↦ two.others v d ∙ ap (above_at nodes1) is ∙ one.here (λ y. some (is ∙ y))
          ]
      | inr z ↦
          let is : v ≡ slice_index_or n.links 1 0 = sym e ∙ ap (link_at nodes place) z ∙ link_of_some nodes place 1 n at in
          ap (above_at nodes2) is ∙ two.here (λ y. some (is ∙ y))
    ];
    others = λ v none.
        two.others v (λ e. none 1 (omega arith) (link_of_some nodes place 1 n at ∙ sym e))
        ∙ one.others v (λ e. none 0 (omega arith) (link_of_some nodes place 0 n at ∙ sym e));
    links = λ x i. two.links x i ∙ one.links x i;
    entries = two.entries ∙ one.entries;
  }

  -- ---- a link is led elsewhere, from the head on

  pub head_low : (nodes : List (Node V)) (heads : List ℕ) (key : ℕ) → IsWay nodes (head_at heads key) key → head_at heads key ≤ length nodes
  head_low nodes heads key way = elim (equal_or_not (head_at heads key) 0) [
    | inl z ↦ omega arith
    | inr n ↦
        let up : head_at heads key ≡ suc (head_at heads key - 1) = omega arith in
        let i = way.inside 0 (head_at heads key - 1) up in omega arith
  ]

  others_head : (nodes : List (Node V)) (heads : List ℕ) (s to w j : ℕ) → (w ≡ 0 → j ≡ s → ⊥) → out_at nodes (slice_set heads s to) w j ≡ out_at nodes heads w j
  others_head nodes heads s to zero j d = get_or-set_other heads s j to 0 (λ e. d refl e)
  others_head nodes heads s to (suc x) j d = refl

  pub led_head : (nodes : List (Node V)) (heads : List ℕ) (key to s : ℕ) → s ≡ slot key (length heads) → s < length heads → slice_index_or heads s 0 ≡ 0 → above_at nodes to ≡ 0
      → IsLed (length heads) (out_at nodes heads) (out_at nodes (slice_set heads s to)) (above_at nodes) (above_at nodes) key to
  led_head nodes heads key to s is few was none = record {
    depth = 0;
    u = 0;
    on = refl;
    turned = record {
      was = ap (λ i. slice_index_or heads i 0) (sym is) ∙ was;
      is = ap (λ i. slice_index_or (slice_set heads s to) i 0) (sym is) ∙ get_or-set_same heads s to 0 few;
      others = λ w j d. others_head nodes heads s to w j (λ e f. d e (f ∙ is));
    };
    here = none;
    others = λ v d. refl;
  }

  others_on : (old new : List (Node V)) (heads : List ℕ) (first key to : ℕ) (b : IsLedBelow old new first key to) (w j : ℕ) → (w ≡ suc b.x → j ≡ bit_at key b.depth → ⊥) → out_at new heads w j ≡ out_at old heads w j
  others_on old new heads first key to b zero j d = refl
  others_on old new heads first key to b (suc y) j d = b.links y j (λ e f. d (ap (λ n. suc n) e) f)

  pub led_on : (old new : List (Node V)) (heads : List ℕ) (key to s : ℕ) → s ≡ slot key (length heads) → IsLedBelow old new (slice_index_or heads s 0) key to
      → IsLed (length heads) (out_at old heads) (out_at new heads) (above_at old) (above_at new) key to
  led_on old new heads key to s is b' =
      let b : IsLedBelow old new (head_at heads key) key to = rw is at b' in
      record {
        depth = suc b.depth;
        u = suc b.x;
        on = (b.on, omega arith);
        turned = record { was = b.was; is = b.is; others = λ w j d. others_on old new heads (head_at heads key) key to b w j d };
        here = b.here;
        others = b.others;
      }

  -- ---- the link that leads to a place

  module _ (nodes : List (Node V)) (heads : List ℕ) (place hole : ℕ) (within : place < length nodes) (present : suc place ≢ hole) (r : IsPlanted nodes heads (length nodes) hole) where
    up_of : (u : ℕ) × (u ≤ length nodes) × (out_at nodes heads u (turn (length heads) (r.deep u) (key_at nodes (suc place))) ≡ suc place)
    up_of = r.tree.up (suc place) (omega arith) within present

    is_above : above_at nodes (suc place) ≡ up_of.0
    is_above = r.above up_of.0 _ (suc place) up_of.1 up_of.2 (omega arith)

    pub above_low : above_at nodes (suc place) ≤ length nodes
    above_low = let e = is_above in let l = up_of.1 in omega arith

    -- from a head
    pub from_head : (key s : ℕ) → key_at nodes (suc place) ≡ key → s ≡ slot key (length heads) → above_at nodes (suc place) ≡ 0 → slice_index_or heads s 0 ≡ suc place
    from_head key s own is top =
        let z : up_of.0 ≡ 0 = sym is_above ∙ top in
        let p = up_of.2 in
        let q = rw (z, r.tree.top, own) at p in
        ap (λ i. slice_index_or heads i 0) is ∙ q

    -- from a node
    pub from_node : (above : ℕ) → above_at nodes (suc place) ≡ above → 0 < above → (i : ℕ) × (i < 2) × (link_at nodes (above - 1) i ≡ suc place)
    from_node above own some =
        let up : up_of.0 ≡ suc (above - 1) = (let e = is_above in omega arith) in
        let d : r.deep up_of.0 ≡ suc (r.deep up_of.0 - 1) = (let o : r.deep up_of.0 ≢ 0 = (λ e. let z = r.tree.root up_of.0 e in omega arith) in omega arith) in
        let p = up_of.2 in
        let q = rw (d, up) at p in
        (bit_at (key_at nodes (suc place)) (r.deep (suc (above - 1)) - 1), bit_few (key_at nodes (suc place)) (r.deep (suc (above - 1)) - 1), q)

    others_below : (nodes' : List (Node V)) (x from to : ℕ) (t : IsTurnedBelow nodes nodes' x from to) (w j : ℕ) → (w ≡ suc x → j ≡ t.side → ⊥) → out_at nodes' heads w j ≡ out_at nodes heads w j
    others_below nodes' x from to t zero j d = refl
    others_below nodes' x from to t (suc y) j d = t.others y j (λ e f. d (ap (λ n. suc n) e) f)

    pub cut_head : (s to : ℕ) → s < length heads → slice_index_or heads s 0 ≡ suc place → above_at nodes (suc place) ≡ 0 → IsCut nodes nodes heads (slice_set heads s to) place to
    cut_head s to few was top = record {
      side = s;
      inside = above_low;
      turned = record {
        was = ap (λ u. out_at nodes heads u s) top ∙ was;
        is = ap (λ u. out_at nodes (slice_set heads s to) u s) top ∙ get_or-set_same heads s to 0 few;
        others = λ w j d. others_head nodes heads s to w j (λ e f. d (e ∙ sym top) f);
      };
      entries = refl;
      above = λ v. refl;
      len = length-set heads s to;
    }

    pub cut_node : (nodes' : List (Node V)) (above to : ℕ) → above_at nodes (suc place) ≡ above → 0 < above → IsTurnedBelow nodes nodes' (above - 1) (suc place) to → IsCut nodes nodes' heads heads place to
    cut_node nodes' above to own some t =
        let up : above_at nodes (suc place) ≡ suc (above - 1) = omega arith in
        record {
          side = t.side;
          inside = above_low;
          turned = record {
            was = ap (λ u. out_at nodes heads u t.side) up ∙ t.was;
            is = ap (λ u. out_at nodes' heads u t.side) up ∙ t.is;
            others = λ w j d. others_below nodes' (above - 1) (suc place) to t w j (λ e f. d (e ∙ sym up) f);
          };
          entries = t.entries;
          above = t.above;
          len = refl;
        }
