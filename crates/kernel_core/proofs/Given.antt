-- What is covered once a message was received: the queue of its port, and the ports whose receive rights came with it.
use Rattle.std.proofs.Common.{◌≡◌, ℕ, zero, suc, length, drop, List, [], ◌∷◌, ◌++◌, Option, Some, None, is_some, refl, sym, ap, subst, ◌∙◌, arith, true, false, Bool, inl, inr, ◌⊎◌, All, length-append}
use Rattle.std.specs.Prelude.{◌≢◌, ◌^◌, ◌%◌, ◌<◌, ◌==◌, ◌||◌, if◌then◌else◌, Contains, flat_map, not, nat_lt}
use Rattle.std.specs.Option.{option_map}
use Rattle.std.proofs.lemmas.Bool.{and_parts, ltb-true}
use Rattle.std.proofs.lemmas.Bool.Decides.{eqb_tells}
use Rattle.std.proofs.lemmas.List.Elements.{All-nil, All-cons, All-head, All-tail, All-append}
use Rattle.mach_types.specs.declared.calls.Waited.{Waited}
use Rattle.mach_types.specs.declared.touched.Touched.{Touched}
use Rattle.mach_types.specs.declared.touched.Touched.TheVariants.{Few, All as Any}
use Rattle.mach_types.specs.Touching.{Covers}
use Rattle.mach_types.specs.Bodies.{wire_words, reply_words}
use Rattle.mach_types.specs.Bodies.{body_words as machine_words}
use Rattle.mach_types.specs.Grammar.{Header, Wire, data_item, port_item, WireBody, IsWire, wires_text, text, Spells}
use Rattle.mach_types.specs.Messages.{short, long}
use Rattle.mach_types.specs.TextGuards.{word_at}
use Rattle.mach_model.specs.State.{State}
use Rattle.mach_model.specs.Lawful.{IsLawful}
use Rattle.mach_model.specs.Midway.{MidLawful}
use Rattle.mach_model.specs.Notices.{Owed}
use Rattle.mach_model.specs.Receive.{Receives}
use Rattle.mach_model.specs.ReceivedMeans.{received_words}
use Rattle.mach_model.proofs.MessagesLawful.{first_byte}
use Rattle.mach_laws.proofs.Giving.{ComesUnder, received_sets, receives_touch}
use Rattle.copyin_base.specs.Shows.{Agrees}
use Rattle.copyin_base.specs.Worlds.{WorldView, sets_at}
use Rattle.kernel_change.specs.declared.change.Change.TheVariants as change
use Rattle.kernel_change.specs.Changing.{port_under, lone, unless_several, with_sets, named_received, named_three, touched_by, gives_none, gives_one, by_received, by_body, by_items, by_message}
use Rattle.kernel_change.specs.Received.{body_names, received_by}
use Rattle.kernel_core.proofs.Covered.{OwnTouches, set_is, under, covers_named, covers_its, unless_covers, unless_set}
use Rattle.kernel_core.proofs.Walked.{few_words, words_named}

-- ---- the words of a text

-- Where it is of a receive right, its number is that of the body's first word, and it is the second.
abbrev StandsIn : List ℕ → ℕ × ℕ → Type 0
StandsIn bytes w = w.0 ≡ 16 → (word_at bytes 24 % 2 ^ 8 ≡ 16) × (w.1 ≡ word_at bytes 28)

none_in : (bytes : List ℕ) (xs : List Wire) → length (wires_text xs) < 8 → All (StandsIn bytes) (flat_map wire_words xs)
none_in bytes xs few = subst (All (StandsIn bytes)) (sym (few_words xs few)) (All-nil (StandsIn bytes))

-- items of eight bytes have one, if any
one_word : (h : Header) (xs : List Wire) → All IsWire xs → length (wires_text xs) ≡ 8 → All (StandsIn (text h (WireBody.items xs))) (flat_map wire_words xs)
one_word h [] are eight = All-nil (StandsIn (text h (WireBody.items [])))
one_word h (data_item short name size number bytes padding ∷ xs) are eight = none_in (text h (WireBody.items (data_item short name size number bytes padding ∷ xs))) xs (let e = length-append (bytes ++ padding) (wires_text xs) in omega (arith, eight, e))
one_word h (data_item long name size number bytes padding ∷ xs) are eight = none_in (text h (WireBody.items (data_item long name size number bytes padding ∷ xs))) xs (let e = length-append (bytes ++ padding) (wires_text xs) in omega (arith, eight, e))
one_word h (port_item short number [] ∷ xs) are eight = none_in (text h (WireBody.items (port_item short number [] ∷ xs))) xs (omega (arith, eight))
one_word h (port_item long number [] ∷ xs) are eight = none_in (text h (WireBody.items (port_item long number [] ∷ xs))) xs (omega (arith, eight))
one_word h (port_item long number (v ∷ vs) ∷ xs) are eight = absurd (omega (arith, eight))
one_word h (port_item short number (v ∷ u ∷ us) ∷ xs) are eight = absurd (omega (arith, eight))
one_word h (port_item short number (v ∷ []) ∷ xs) are eight =
    let is = All-head IsWire (port_item short number (v ∷ [])) xs are in
    let fits : v < 2 ^ 32 = All-head (λ (x : ℕ). x < 2 ^ 32) v [] is.2 in
    All-cons (StandsIn (text h (WireBody.items (port_item short number (v ∷ []) ∷ xs)))) (number, v) (flat_map wire_words xs) (λ e. (omega (arith, e), omega (arith, fits))) (none_in (text h (WireBody.items (port_item short number (v ∷ []) ∷ xs))) xs (omega (arith, eight)))

eight_bytes : (bytes : List ℕ) (h : Header) (v : WireBody) → Spells bytes h v → length bytes ≡ 32 → All (StandsIn bytes) (machine_words v)
eight_bytes bytes h (WireBody.raw others) spells len = All-nil (StandsIn bytes)
eight_bytes bytes h (WireBody.items xs) spells len =
    let e : length (text h (WireBody.items xs)) ≡ 32 = subst (λ (bs : List ℕ). length bs ≡ 32) spells.is_text len in
    subst (λ (bs : List ℕ). All (StandsIn bs) (flat_map wire_words xs)) (sym spells.is_text) (one_word h xs spells.body_fits (omega (arith, e)))

-- ---- the names that they are

all_under : (names : List ℕ) (P : ℕ × ℕ → Type 0) → ((w : ℕ × ℕ) → P w → ComesUnder names w) → (ws : List (ℕ × ℕ)) → All P ws → All (ComesUnder names) ws
all_under names P to [] all = All-nil (ComesUnder names)
all_under names P to (w ∷ ws) all = All-cons (ComesUnder names) w ws (to w (All-head P w ws all)) (all_under names P to ws (All-tail P w ws all))

reply_under : (names : List ℕ) (number word : ℕ) → number ≢ 16 → All (ComesUnder names) (reply_words number word)
reply_under names number word other = go (number == 0)
  where
    go : (b : Bool) → All (ComesUnder names) (if b then [] else (number, word) ∷ [])
    go true = All-nil (ComesUnder names)
    go false = All-cons (ComesUnder names) (number, word) [] (λ is. absurd (other is)) (All-nil (ComesUnder names))

all_words : (names : List ℕ) (h : Header) (v : WireBody) → h.remote_kind ≢ 16 → All (ComesUnder names) (machine_words v) → All (ComesUnder names) (received_words h v)
all_words names h v other all = All-append (ComesUnder names) (reply_words h.remote_kind h.remote) (machine_words v) (reply_under names h.remote_kind h.remote other) all

bits_of : (h : Header) (v : WireBody) → h.remote_kind < 2 ^ 8 → h.local_kind < 2 ^ 8 → word_at (text h v) 0 < 2 ^ 31 → (bytes : List ℕ) × (v ≡ WireBody.raw bytes)
bits_of h (WireBody.raw bytes) x y few = (bytes, refl)
bits_of h (WireBody.items xs) x y few = absurd (omega (arith, few))

local_of : (h : Header) (v : WireBody) → h.local < 2 ^ 32 → word_at (text h v) 12 ≡ h.local
local_of h (WireBody.raw bytes) fits = omega arith
local_of h (WireBody.items xs) fits = omega arith

differs : (n : ℕ) → n ≡ 16 → not (n == 16) ≡ true → ⊥
differs n e f = grind arith

-- the words of a body of items are under the names that are found in it
body_named : (bytes : List ℕ) (h : Header) (v : WireBody) → Spells bytes h v → All (ComesUnder (body_names (drop 24 bytes))) (machine_words v)
body_named bytes h (WireBody.raw others) spells = All-nil (ComesUnder (body_names (drop 24 bytes)))
body_named bytes h (WireBody.items xs) spells =
    subst (λ (bs : List ℕ). All (ComesUnder (body_names (drop 24 bs))) (flat_map wire_words xs)) (sym spells.is_text) (words_named xs spells.body_fits (length (wires_text xs)) (omega arith))

-- the names of a list of two, and of three
of_two : (a b n : ℕ) → Contains (a ∷ b ∷ []) n → (a ≡ n) ⊎ (b ≡ n)
of_two a b n (zero, below, is) = inl is
of_two a b n (suc zero, below, is) = inr is
of_two a b n (suc (suc i), below, is) = absurd (omega (arith, below))

of_three : (a b c n : ℕ) → Contains (a ∷ b ∷ c ∷ []) n → (a ≡ n) ⊎ (b ≡ n) ⊎ (c ≡ n)
of_three a b c n (zero, below, is) = inl is
of_three a b c n (suc zero, below, is) = inr (inl is)
of_three a b c n (suc (suc zero), below, is) = inr (inr is)
of_three a b c n (suc (suc (suc i)), below, is) = absurd (omega (arith, below))

neither : (a b : Bool) → (a || b) ≡ false → not b ≡ true
neither true b e = absurd (cc)
neither false b e = rw e refl

is_not : (n : ℕ) → (n == 16) ≡ false → n ≢ 16
is_not n is e = let f : (n == 16) ≡ true = rw e refl in let g : true ≡ false = sym f ∙ is in cc

-- ---- what is covered

module _ (w : WorldView) (mid : State) (a : Agrees w mid) (s : State) (owed : Owed) (task port room : ℕ) (bytes : List ℕ) (l : IsLawful s) (m : MidLawful mid []) (r : Receives task port room bytes s mid) (none : owed ≡ []) where
  other_reply : not (word_at bytes 0 % 2 ^ 8 == 16) ≡ true → r.header.remote_kind ≢ 16
  other_reply is e =
      let first : word_at bytes 0 % 2 ^ 8 ≡ r.header.remote_kind = ap (λ (bs : List ℕ). word_at bs 0 % 2 ^ 8) r.spells.is_text ∙ first_byte r.header r.written r.spells.header_fits.remote_kind r.spells.header_fits.local_kind in
      differs (word_at bytes 0 % 2 ^ 8) (first ∙ e) is

  found : port_under w task (word_at bytes 12) ≡ Some port
  found =
      let local : word_at bytes 12 ≡ r.header.local = ap (λ (bs : List ℕ). word_at bs 12) r.spells.is_text ∙ local_of r.header r.written r.spells.header_fits.local in
      ap (port_under w task) local ∙ under w mid a task r.header.local port r.local

  was_in : (names : List ℕ) → All (ComesUnder names) (received_words r.header r.written) → (set : ℕ) → Contains (s.sets_of port) set → Contains (mid.sets_of port) set
  was_in names all set in_it = subst (λ (xs : List ℕ). Contains xs set) (sym (received_sets task port room bytes s mid r names all port)) in_it

  -- What covers the port with its sets, and the ports under these names, covers all that changes.
  comes : (names : List ℕ) → All (ComesUnder names) (received_words r.header r.written) → (touched : Touched) → Covers touched (Waited.Port port) → ((set : ℕ) → Contains (sets_at w port) set → Covers touched (Waited.Set set)) →
      ((n q : ℕ) → Contains names n → port_under w task n ≡ Some q → Covers touched (Waited.Port q)) → OwnTouches s mid owed touched
  comes names all touched from in_set out = inr (inl (
    none,
    λ t k.
        receives_touch task port room bytes s mid r names all l t k touched from (λ set in_it. in_set set (set_is w mid a port (m.no_sets port) set (was_in names all set in_it)))
        (λ n q in_it found. out n q in_it (under w mid a task n q found)),
  ))

  -- no receive right comes
  none_comes : All (ComesUnder []) (received_words r.header r.written) → OwnTouches s mid owed (with_sets w (Some port))
  none_comes all =
      comes [] all (with_sets w (Some port)) (covers_named port (sets_at w port)) (covers_its port (sets_at w port))
      (λ n q (i, below, is) found. absurd (omega (arith, below)))

  -- where the port is in several sets, all may be meant
  unless_comes : (names : List ℕ) → All (ComesUnder names) (received_words r.header r.written) → (touched : Touched) → Covers touched (Waited.Port port) → ((set : ℕ) → lone (sets_at w port) ≡ Some (Waited.Set set) → Covers touched (Waited.Set set)) →
      ((n q : ℕ) → Contains names n → port_under w task n ≡ Some q → Covers touched (Waited.Port q)) → OwnTouches s mid owed (unless_several (sets_at w port) touched)
  unless_comes names all touched from in_set out =
      comes names all (unless_several (sets_at w port) touched) (unless_covers (sets_at w port) touched (Waited.Port port) from) (λ set in_it. unless_set (sets_at w port) touched set in_it (in_set set))
      (λ n q in_it found. unless_covers (sets_at w port) touched (Waited.Port q) (out n q in_it found))

  abbrev with_two : (a b : Option ℕ) → Touched
  with_two a b = Few (Some (Waited.Port port) ∷ lone (sets_at w port) ∷ option_map Waited.Port a ∷ option_map Waited.Port b ∷ [])

  -- one comes under this name, if any
  one_comes : (x : ℕ) → All (ComesUnder (x ∷ [])) (received_words r.header r.written) → OwnTouches s mid owed (named_received w (Some port) (port_under w task x) None)
  one_comes x all =
      unless_comes (x ∷ []) all (with_two (port_under w task x) None) (0, omega arith, refl) (λ set one. (1, omega arith, one))
      (λ n q in_it found. let e = ap (port_under w task) (named n in_it) ∙ found in (2, omega arith, ap (option_map Waited.Port) e))
    where
      named : (n : ℕ) → Contains (x ∷ []) n → x ≡ n
      named n (zero, below, is) = is
      named n (suc i, below, is) = absurd (omega (arith, below))

  -- two come under these
  two_come : (x y : ℕ) → All (ComesUnder (x ∷ y ∷ [])) (received_words r.header r.written) → OwnTouches s mid owed (named_received w (Some port) (port_under w task x) (port_under w task y))
  two_come x y all =
      unless_comes (x ∷ y ∷ []) all (with_two (port_under w task x) (port_under w task y)) (0, omega arith, refl) (λ set one. (1, omega arith, one))
      (λ n q in_it found. elim (of_two x y n in_it) [
        | inl h ↦ (2, omega arith, ap (option_map Waited.Port) (ap (port_under w task) h ∙ found))
        | inr h ↦ (3, omega arith, ap (option_map Waited.Port) (ap (port_under w task) h ∙ found))
      ])

  -- three come under these
  three_come : (x y z : ℕ) → All (ComesUnder (x ∷ y ∷ z ∷ [])) (received_words r.header r.written) → OwnTouches s mid owed (named_three w (Some port) (port_under w task x) (port_under w task y) (port_under w task z))
  three_come x y z all = go (sets_at w port) refl
    where
      four : Touched
      four = Few (Some (Waited.Port port) ∷ option_map Waited.Port (port_under w task x) ∷ option_map Waited.Port (port_under w task y) ∷ option_map Waited.Port (port_under w task z) ∷ [])

      no_set : (set : ℕ) → Contains [] set → ⊥
      no_set set (i, below, is) = omega (arith, below)

      go : (sets : List ℕ) → sets_at w port ≡ sets → OwnTouches s mid owed (if is_some (lone sets) then Any else four)
      go (set ∷ sets) is = inl refl
      go [] is =
          comes (x ∷ y ∷ z ∷ []) all four (0, omega arith, refl) (λ set in_it. absurd (no_set set (subst (λ (ys : List ℕ). Contains ys set) is in_it)))
          (λ n q in_it found. elim (of_three x y z n in_it) [
            | inl h ↦ let e = ap (port_under w task) h ∙ found in rw e (1, omega arith, refl)
            | inr h ↦ elim h [
              | inl g ↦ let e = ap (port_under w task) g ∙ found in rw e (2, omega arith, refl)
              | inr g ↦ let e = ap (port_under w task) g ∙ found in rw e (3, omega arith, refl)
            ]
          ])

  -- all come under these
  names_own : (names : List ℕ) → All (ComesUnder names) (received_words r.header r.written) → OwnTouches s mid owed (touched_by w (by_received task (word_at bytes 12) (received_by names)))
  names_own [] all = rw found (none_comes all)
  names_own (x ∷ []) all = rw found (one_comes x all)
  names_own (x ∷ y ∷ []) all = rw found (two_come x y all)
  names_own (x ∷ y ∷ z ∷ []) all = rw found (three_come x y z all)
  names_own (x ∷ y ∷ z ∷ v ∷ names) all = inl refl

  plain : gives_none bytes ≡ true → All (ComesUnder []) (received_words r.header r.written)
  plain is =
      let both = and_parts (nat_lt 23 (length bytes)) _ is in
      let parts = and_parts (nat_lt (word_at bytes 0) (2 ^ 31)) (not (word_at bytes 0 % 2 ^ 8 == 16)) both.1 in
      let small : word_at bytes 0 < 2 ^ 31 = ltb-true (word_at bytes 0) (2 ^ 31) parts.0 in
      let raw = bits_of r.header r.written r.spells.header_fits.remote_kind r.spells.header_fits.local_kind (subst (λ (bs : List ℕ). word_at bs 0 < 2 ^ 31) r.spells.is_text small) in
      all_words [] r.header r.written (other_reply parts.1) (subst (λ (v : WireBody). All (ComesUnder []) (machine_words v)) (sym raw.1) (All-nil (ComesUnder [])))

  module _ (one : gives_one bytes ≡ true) where
    parts : ((length bytes == 32) ≡ true) × (not (word_at bytes 0 % 2 ^ 8 == 16) ≡ true)
    parts = and_parts (length bytes == 32) (not (word_at bytes 0 % 2 ^ 8 == 16)) one

    stands : All (StandsIn bytes) (machine_words r.written)
    stands = eight_bytes bytes r.header r.written r.spells (elim (eqb_tells (length bytes) 32) [
      | inl h ↦ h.1
      | inr h ↦ absurd (let e : true ≡ false = sym parts.0 ∙ h.0 in cc)
    ])

    other : word_at bytes 24 % 2 ^ 8 ≢ 16 → All (ComesUnder []) (received_words r.header r.written)
    other not = all_words [] r.header r.written (other_reply parts.1) (all_under [] (StandsIn bytes) (λ x at is. absurd (not (at is).0)) (machine_words r.written) stands)

    own : All (ComesUnder (word_at bytes 28 ∷ [])) (received_words r.header r.written)
    own =
        all_words (word_at bytes 28 ∷ []) r.header r.written (other_reply parts.1)
        (all_under (word_at bytes 28 ∷ []) (StandsIn bytes) (λ x at is. (0, omega arith, sym (at is).1)) (machine_words r.written) stands)

    one_own : (b : Bool) → (word_at bytes 24 % 2 ^ 8 == 16) ≡ b → OwnTouches s mid owed (touched_by w (if b then change.ReceivedOne task (word_at bytes 12) (word_at bytes 28) else change.QueueNamed task (word_at bytes 12)))
    one_own true is = rw found (one_comes (word_at bytes 28) own)
    one_own false is = rw found (none_comes (other (is_not (word_at bytes 24 % 2 ^ 8) is)))

  body_own : (b : Bool) → (nat_lt (length bytes) 24 || word_at bytes 0 % 2 ^ 8 == 16) ≡ b →
      OwnTouches s mid owed (touched_by w (if b then change.Any else by_received task (word_at bytes 12) (received_by (body_names (drop 24 bytes)))))
  body_own true is = inl refl
  body_own false is =
      let other : r.header.remote_kind ≢ 16 = other_reply (neither (nat_lt (length bytes) 24) (word_at bytes 0 % 2 ^ 8 == 16) is) in
      names_own (body_names (drop 24 bytes)) (all_words (body_names (drop 24 bytes)) r.header r.written other (body_named bytes r.header r.written r.spells))

  items_own : (b : Bool) → gives_one bytes ≡ b →
      OwnTouches s mid owed (touched_by w (if b then (if word_at bytes 24 % 2 ^ 8 == 16 then change.ReceivedOne task (word_at bytes 12) (word_at bytes 28) else change.QueueNamed task (word_at bytes 12)) else by_body task bytes))
  items_own true is = one_own is (word_at bytes 24 % 2 ^ 8 == 16) refl
  items_own false is = body_own (nat_lt (length bytes) 24 || word_at bytes 0 % 2 ^ 8 == 16) refl

  any_own : (b : Bool) → gives_none bytes ≡ b → OwnTouches s mid owed (touched_by w (if b then change.QueueNamed task (word_at bytes 12) else by_items task bytes))
  any_own true is = rw found (none_comes (plain is))
  any_own false is = items_own (gives_one bytes) refl

  pub message_own : OwnTouches s mid owed (touched_by w (by_message task bytes))
  message_own = any_own (gives_none bytes) refl
