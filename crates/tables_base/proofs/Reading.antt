-- Names as they are read: at a name, in a space, and after a change of what is kept or of the ports.
use Rattle.std.proofs.Common.{◌≡◌, ℕ, suc, ◌/◌, Bool, true, false, cond, List, [], ◌∷◌, ◌&&◌, length, T, refl, ap, sym, subst, ◌∙◌, Option, Some, None, map as map_list, inl, inr}
use Rattle.std.specs.Prelude.{◌⊎◌, is_some, if◌then◌else◌}
use Rattle.std.specs.Option.{option_map, option_and_then}
use Rattle.std.specs.Ordering.{nat_cmp, eq_by_cmp, is_lt}
use Rattle.std.specs.FinMap as map
use Rattle.std.specs.FinMap.Entries.{find, is_sorted, below_all}
use Rattle.name_space_base.specs.High.{KeepsUsed}
use Rattle.name_space.specs.declared.Entry.{Entry}
use Rattle.name_space.specs.declared.Entry.TheVariants.{Receive, Send, ReceiveAndSend, SendOnce, DeadName, Set}
use Rattle.name_space.specs.Entry.{port_of, port_named}
use Rattle.tagged_names.specs.Names.{Given, IsTaken, IsFreshIndex}
use Rattle.name_space.specs.Names.{Names, SpaceView, IsFreshIn, HasRoomIn, HasPlace, HasNoOther, CanCountIn, MayWantIn, MayWantPlace}
use Rattle.name_space.specs.Names.{port_at as named_at}
use Rattle.tables_base.specs.Reading.{reading, read_names, read_space}

-- ---- one entry

-- for a port that is there, and for none, an entry is read as it is
pub reads_same : (live : ℕ → Bool) (e : Entry) → ((p : ℕ) → port_of e ≡ Some p → live p ≡ true) → reading live e ≡ e
reads_same live (Receive p) lives = rw (lives p refl) refl
reads_same live (Send p n) lives = rw (lives p refl) refl
reads_same live (ReceiveAndSend p n) lives = rw (lives p refl) refl
reads_same live (SendOnce p) lives = rw (lives p refl) refl
reads_same live (DeadName n) lives = refl
reads_same live (Set s) lives = refl

dead_port : (n p : ℕ) → port_of (DeadName n) ≡ Some p → ⊥
dead_port n p e = let f : None ≡ Some p = e in cc

-- what is read is for the port that it was for, and that port is there
pub read_lives : (live : ℕ → Bool) (e : Entry) (p : ℕ) → port_of (reading live e) ≡ Some p → (port_of e ≡ Some p) × (live p ≡ true)
read_lives live e p is = go e is
  where
    both : (q : ℕ) (x y : Entry) (b : Bool) → live q ≡ b → port_of x ≡ Some q → (port_of y ≡ None) → port_of (if b then x else y) ≡ Some p → (port_of x ≡ Some p) × (live p ≡ true)
    both q x y true lives at none is = let g : Some q ≡ Some p = sym at ∙ is in (is, (let h : q ≡ p = cc in subst (λ (k : ℕ). live k ≡ true) h lives))
    both q x y false lives at none is = absurd (let g : None ≡ Some p = sym none ∙ is in cc)

    go : (x : Entry) → port_of (reading live x) ≡ Some p → (port_of x ≡ Some p) × (live p ≡ true)
    go (Receive q) is = both q (Receive q) (DeadName 1) (live q) refl refl refl is
    go (Send q n) is = both q (Send q n) (DeadName n) (live q) refl refl refl is
    go (ReceiveAndSend q n) is = both q (ReceiveAndSend q n) (DeadName n) (live q) refl refl refl is
    go (SendOnce q) is = both q (SendOnce q) (DeadName 1) (live q) refl refl refl is
    go (DeadName n) is = absurd (dead_port n p is)
    go (Set s) is = absurd (let f : None ≡ Some p = is in cc)

-- what is read is read as it is
pub read_again : (live : ℕ → Bool) (e : Entry) → reading live (reading live e) ≡ reading live e
read_again live e = reads_same live (reading live e) (λ p is. (read_lives live e p is).1)

-- of a port that is there, or of none, the record is what is read
pub reads_as : (live : ℕ → Bool) (e : Entry) (p : ℕ) → port_of e ≡ Some p → live p ≡ true → reading live e ≡ e
reads_as live e p is lives = reads_same live e (λ q at. let g : Some p ≡ Some q = sym is ∙ at in (let h : p ≡ q = cc in subst (λ (k : ℕ). live k ≡ true) h lives))

-- a port that is named has the entry's right
pub named_port : (e : Entry) (p : ℕ) → port_named e ≡ Some p → port_of e ≡ Some p
named_port (Receive q) p is = is
named_port (Send q n) p is = is
named_port (ReceiveAndSend q n) p is = is
named_port (SendOnce q) p is = absurd (let f : None ≡ Some p = is in cc)
named_port (DeadName n) p is = absurd (let f : None ≡ Some p = is in cc)
named_port (Set s) p is = absurd (let f : None ≡ Some p = is in cc)

-- the same for the port that is named
pub read_named : (live : ℕ → Bool) (e : Entry) (p : ℕ) → port_named (reading live e) ≡ Some p → port_named e ≡ Some p
read_named live e p is = go e is
  where
    both : (x y : Entry) (b : Bool) → port_named y ≡ None → port_named (if b then x else y) ≡ Some p → port_named x ≡ Some p
    both x y true none is = is
    both x y false none is = absurd (let g : None ≡ Some p = sym none ∙ is in cc)

    go : (x : Entry) → port_named (reading live x) ≡ Some p → port_named x ≡ Some p
    go (Receive q) is = both (Receive q) (DeadName 1) (live q) refl is
    go (Send q n) is = both (Send q n) (DeadName n) (live q) refl is
    go (ReceiveAndSend q n) is = both (ReceiveAndSend q n) (DeadName n) (live q) refl is
    go (SendOnce q) is = absurd (once (live q) is)
      where
        once : (b : Bool) → port_named (if b then SendOnce q else DeadName 1) ≡ Some p → ⊥
        once true is = let g : None ≡ Some p = is in cc
        once false is = let g : None ≡ Some p = is in cc
    go (DeadName n) is = is
    go (Set s) is = is

-- what is read of two sets of ports is the same where they have the same of those that the entry is for
pub reads_alike : (live live2 : ℕ → Bool) (e : Entry) → ((p : ℕ) → port_of e ≡ Some p → live2 p ≡ live p) → reading live2 e ≡ reading live e
reads_alike live live2 (Receive p) same = rw (same p refl) refl
reads_alike live live2 (Send p n) same = rw (same p refl) refl
reads_alike live live2 (ReceiveAndSend p n) same = rw (same p refl) refl
reads_alike live live2 (SendOnce p) same = rw (same p refl) refl
reads_alike live live2 (DeadName n) same = refl
reads_alike live live2 (Set s) same = refl

-- ---- the names of a task

module _ (live : ℕ → Bool) where
  abbrev valued : List (ℕ × Entry) → List (ℕ × Entry)
  valued l = map_list (λ e. (e.0, reading live e.1)) l

  below_all-valued : (k : ℕ) (l : List (ℕ × Entry)) → below_all nat_cmp k (valued l) ≡ below_all nat_cmp k l
  below_all-valued k [] = refl
  below_all-valued k (x ∷ l) = ap (λ b. is_lt (nat_cmp k x.0) && b) (below_all-valued k l)

  is_sorted-valued : (l : List (ℕ × Entry)) → is_sorted nat_cmp (valued l) ≡ is_sorted nat_cmp l
  is_sorted-valued [] = refl
  is_sorted-valued (x ∷ l) = ap (λ b. b && is_sorted nat_cmp (valued l)) (below_all-valued x.0 l) ∙ ap (λ b. below_all nat_cmp x.0 l && b) (is_sorted-valued l)

  mapped : (b : Bool) (v : Entry) (o : Option Entry) → cond b (Some (reading live v)) (option_map (reading live) o) ≡ option_map (reading live) (cond b (Some v) o)
  mapped true v o = refl
  mapped false v o = refl

  find-valued : (q : ℕ) (l : List (ℕ × Entry)) → find nat_cmp q (valued l) ≡ option_map (reading live) (find nat_cmp q l)
  find-valued q [] = refl
  find-valued q (x ∷ l) = ap (cond (eq_by_cmp nat_cmp q x.0) (Some (reading live x.1))) (find-valued q l) ∙ mapped (eq_by_cmp nat_cmp q x.0) x.1 (find nat_cmp q l)

  length-valued : (l : List (ℕ × Entry)) → length (valued l) ≡ length l
  length-valued [] = refl
  length-valued (x ∷ l) = ap (λ n. suc n) (length-valued l)

  is_sorted-entries : (m : Names) → T (is_sorted nat_cmp (valued (map.entries m)))
  is_sorted-entries m = subst T (sym (is_sorted-valued (map.entries m))) (map.entries_sorted m)

  -- what stands under each name is what is kept there, read
  pub get_read : (m : Names) (n : ℕ) → map.get (read_names live m) n ≡ option_map (reading live) (map.get m n)
  get_read m n = map.get-from_sorted nat_cmp _ n (is_sorted-entries m) ∙ find-valued n (map.entries m) ∙ ap (option_map (reading live)) (sym (map.get-entries m n))

  -- there are as many names
  pub len_read : (m : Names) → map.len (read_names live m) ≡ map.len m
  len_read m = map.len-entries _ ∙ ap length (map.entries-from_sorted nat_cmp _ (is_sorted-entries m)) ∙ length-valued (map.entries m) ∙ sym (map.len-entries m)

  keys-valued : (l : List (ℕ × Entry)) → map_list (λ e. e.0) (valued l) ≡ map_list (λ e. e.0) l
  keys-valued [] = refl
  keys-valued (x ∷ l) = ap (λ ks. x.0 ∷ ks) (keys-valued l)

  -- they are the same names
  pub keys_read : (m : Names) → map.keys (read_names live m) ≡ map.keys m
  keys_read m = ap (map_list (λ e. e.0)) (map.entries-from_sorted nat_cmp _ (is_sorted-entries m)) ∙ keys-valued (map.entries m)

  some_read : (o : Option Entry) → is_some (option_map (reading live) o) ≡ is_some o
  some_read (Some e) = refl
  some_read None = refl

  -- the same names are in use
  pub used_read : (m : Names) (n : ℕ) → map.contains_key (read_names live m) n ≡ map.contains_key m n
  used_read m n = ap is_some (get_read m n) ∙ some_read (map.get m n)

  pub unused_read : (m : Names) (n : ℕ) → map.get (read_names live m) n ≡ None → map.get m n ≡ None
  unused_read m n none = go (map.get m n) (sym (get_read m n) ∙ none)
    where
      go : (o : Option Entry) → option_map (reading live) o ≡ None → o ≡ None
      go None e = refl
      go (Some e) f = absurd (let g : Some (reading live e) ≡ None = f in cc)

  -- A port that is there is found under the names that it was kept under; under no other.
  pub named_kept : (m : Names) (n p : ℕ) → named_at (read_names live m) n ≡ Some p → named_at m n ≡ Some p
  named_kept m n p is = go (map.get m n) (ap (option_and_then port_named) (sym (get_read m n)) ∙ is)
    where
      go : (o : Option Entry) → option_and_then port_named (option_map (reading live) o) ≡ Some p → option_and_then port_named o ≡ Some p
      go (Some e) e-is = read_named live e p e-is
      go None e-is = e-is

  pub named_there : (m : Names) (n p : ℕ) → live p ≡ true → named_at m n ≡ Some p → named_at (read_names live m) n ≡ Some p
  named_there m n p lives is = ap (option_and_then port_named) (get_read m n) ∙ go (map.get m n) is
    where
      go : (o : Option Entry) → option_and_then port_named o ≡ Some p → option_and_then port_named (option_map (reading live) o) ≡ Some p
      go (Some e) is = ap port_named (reads_as live e p (named_port e p is) lives) ∙ is
      go None is = is

  pub named_lives : (m : Names) (n p : ℕ) → named_at (read_names live m) n ≡ Some p → live p ≡ true
  named_lives m n p is = go (map.get m n) (ap (option_and_then port_named) (sym (get_read m n)) ∙ is)
    where
      go : (o : Option Entry) → option_and_then port_named (option_map (reading live) o) ≡ Some p → live p ≡ true
      go (Some e) e-is = (read_lives live e p (named_port (reading live e) p e-is)).1
      go None e-is = absurd (let f : None ≡ Some p = e-is in cc)

  -- The same names are in use.
  module _ (space : SpaceView) where
    taken_read : (i : ℕ) → IsTaken space.names i → IsTaken (read_names live space.names) i
    taken_read i t = record { name = t.name; at = t.at; used = used_read space.names t.name ∙ t.used }

    taken_kept : (i : ℕ) → IsTaken (read_names live space.names) i → IsTaken space.names i
    taken_kept i t = record { name = t.name; at = t.at; used = sym (used_read space.names t.name) ∙ t.used }

    unread : (n : ℕ) → map.get space.names n ≡ None → map.get (read_names live space.names) n ≡ None
    unread n none = get_read space.names n ∙ ap (option_map (reading live)) none

    index_kept : (i : ℕ) → IsFreshIndex (read_names live space.names) i → IsFreshIndex space.names i
    index_kept i f = record { free = λ n at. unused_read space.names n (f.free n at); positive = f.positive; least = λ j some less. taken_kept j (f.least j some less) }

    pub fresh_read : (counts : Option Given) (n : ℕ) → IsFreshIn counts space n → IsFreshIn counts (read_space live space) n
    fresh_read None n f = record { unused = unread n f.unused; not_null = f.not_null; least = λ k some less. used_read space.names k ∙ f.least k some less }
    fresh_read (Some c) n f = record {
      index = record { free = λ k at. unread k (f.index.free k at); positive = f.index.positive; least = λ j some less. taken_read j (f.index.least j some less) };
      low = f.low;
    }

    pub room_kept : (counts : Option Given) (n : ℕ) → HasRoomIn counts (read_space live space) n → HasRoomIn counts space n
    room_kept None n h = (record { unused = unused_read space.names n h.0.unused; not_null = h.0.not_null; least = λ k some less. sym (used_read space.names k) ∙ h.0.least k some less }, h.1)
    room_kept (Some c) n h = (index_kept (n / 256) h.0, h.1)

    pub place_read : (n : ℕ) → HasPlace (read_space live space) n → HasPlace space n
    place_read n (inl h) = inl (room_kept space.given n h)
    place_read n (inr h) = inr h

    pub count_kept : (counts : Option Given) (n : ℕ) → CanCountIn counts (read_space live space) n → CanCountIn counts space n
    count_kept None n c = tt
    count_kept (Some counts) n c = record {
      positive = c.positive;
      small = c.small;
      least = λ j some less. taken_kept j (c.least j some less);
      here = elim c.here [ inl room ↦ inl room | inr taken ↦ inr (taken_kept (n / 256) taken) ];
    }

  -- Where a place for a name may want memory, it may as names are read.
  module _ (space : SpaceView) where
    holder_used : (n p : ℕ) (o : Option Entry) → option_and_then port_named o ≡ Some p → is_some o ≡ true
    holder_used n p (Some e) at = refl
    holder_used n p None at = absurd (let f : None ≡ Some p = at in cc)

    used_kept : (n : ℕ) → map.contains_key (read_names live space.names) n ≡ true → map.contains_key space.names n ≡ true
    used_kept n used = sym (used_read space.names n) ∙ used

    keeps_used : KeepsUsed space.names space.kept → KeepsUsed (read_names live space.names) space.kept
    keeps_used (n, is, used) = (n, is, used_read space.names n ∙ used)

    wanted_in : (counts : Option Given) (n : ℕ) → MayWantIn counts space n → MayWantIn counts (read_space live space) n
    wanted_in None n (inl high) = inl high
    wanted_in None n (inr h) = inr (record { alone = λ k used. h.alone k (used_kept k used); apart = h.apart })
    wanted_in (Some c) n (inl room) = inl room
    wanted_in (Some c) n (inr (inl used)) = inr (inl (keeps_used used))
    wanted_in (Some c) n (inr (inr h)) =
        inr (inr (record { positive = h.positive; small = h.small; alone = λ k used. h.alone k (used_kept k used); apart = h.apart }))

    pub place_wanted : (n : ℕ) → MayWantPlace space n → KeepsUsed (read_names live space.names) space.kept ⊎ MayWantIn space.given (read_space live space) n
    place_wanted n (inl (kept, port, is, at)) = inl (keeps_used (kept, is, holder_used kept port (map.get space.names kept) at))
    place_wanted n (inr h) = inr (wanted_in space.given n h)

  -- no other name is for the entry's port, which is there
  pub no_other_kept : (m : Names) (e : Entry) → ((p : ℕ) → port_of e ≡ Some p → live p ≡ true) → HasNoOther (read_names live m) e → HasNoOther m e
  no_other_kept m e lives none p n named at = none p n named (named_there m n p (lives p (named_port e p named)) at)
