-- Which sets ports are in, and which are ready there, once one of them changed, came or went.
use Rattle.std.proofs.Common.{◌≡◌, ◌≢◌, ◌↔◌, inl, inr, ℕ, ◌<◌, ◌≤◌, Bool, true, false, cond, Option, Some, None, List, [], ◌∷◌, ◌++◌, refl, ap, sym, subst, ◌∙◌, arith, Contains}
use Rattle.std.specs.Prelude.{unwrap_or}
use Rattle.std.specs.Option.{option_to_list}
use Rattle.std.specs.Ordering.{nat_cmp}
use Rattle.std.specs.FinMap as map
use Rattle.std.proofs.lemmas.List.Elements.{Contains-append_left, Contains-push_cases}
use Rattle.member_lists.specs.Lists.{ListsView, list_of, without, IsApart}
use Rattle.shared_lists.specs.Shared.{SharedView, more_of, IsFirst, IsReady, joined, parted as parted_in, joined_each, parted_each, entered, with_more, with_further, OthersKeep}
use Rattle.shared_lists.proofs.Standing.{joined_old, joined_new, without_from}
use Rattle.port_base.specs.declared.Membership.{Membership}
use Rattle.port_base.specs.declared.Membership.TheVariants.{Nowhere, Alone, Several}
use Rattle.port_base.specs.declared.Record.{Record}
use Rattle.port_base.specs.Memberships.{IsHome, IsOut, IsParted, IsSettled, first_of, membership_in, sets_of, readied, unreadied, emptied}
use Rattle.port_base.specs.Records.{readied_if, left_if}
use Rattle.port_base.specs.Turns.{has_some, ready_if, sets_without}
use Rattle.port.specs.Records.{IsMembered, sets_at}
use Rattle.port.proofs.Keys.{same_some, some_or_none, equal_or_not, put_here, put_other, out_here, out_other}
use Rattle.port.proofs.Records.{Turns}
use Rattle.port.proofs.Each.{nothing_in, head_in, only_in, contains_or_not, joined_each_from, joined_each_old, joined_each_new, joined_each_items, parted_each_from, parted_each_old, parted_each_own, parted_each_items, parted_copies, sets_within, sets_apart, sets_but_from, sets_but_in, sets_but_same, sets_but_none, sets_but_one, sets_but_joined, only_left, is_left}

-- ---- a port's sets, as they are told of its record

pub sets_are : (v : SharedView) (key : ℕ) (m : Membership) → IsHome v key m → sets_of v key m ≡ option_to_list (first_of m) ++ more_of v key
sets_are v key Nowhere h = sym h.1
sets_are v key (Alone set) h = ap (λ ys. set ∷ ys) (sym h.1)
sets_are v key (Several set) h = refl

several_in : (set : ℕ) (more : List ℕ) → more ≢ [] → membership_in (set ∷ more) ≡ Several set
several_in set [] some = absurd (some refl)
several_in set (x ∷ more) some = refl

pub membership_is : (v : SharedView) (key : ℕ) (m : Membership) → IsHome v key m → membership_in (option_to_list (first_of m) ++ more_of v key) ≡ m
membership_is v key Nowhere h = ap membership_in h.1
membership_is v key (Alone set) h = ap (λ ys. membership_in (set ∷ ys)) h.1
membership_is v key (Several set) h = several_in set (more_of v key) h.1

pub none_more : (v : SharedView) (key : ℕ) (m : Membership) → IsHome v key m → first_of m ≡ None → more_of v key ≡ []
none_more v key Nowhere home e = home.1
none_more v key (Alone set) home e = home.1
none_more v key (Several set) home e = absurd (cc)

pub apart_there : (v : SharedView) (key : ℕ) (m : Membership) → IsHome v key m → first_of m ≡ None → IsApart v.all key
apart_there v key Nowhere home e = home.0
apart_there v key (Alone set) home e = absurd (cc)
apart_there v key (Several set) home e = absurd (cc)

-- the first set of a port that is in one
pub first_there : (v : SharedView) (key : ℕ) (m : Membership) (own : ℕ) → first_of m ≡ Some own → IsHome v key m → IsFirst v own key
first_there v key Nowhere own e h = absurd (cc)
first_there v key (Alone set) own e h = subst (λ n. IsFirst v n key) (same_some set own e) h.0
first_there v key (Several set) own e h = subst (λ n. IsFirst v n key) (same_some set own e) h.0

twice : (b : Bool) (x y : ListsView) (f : ListsView → ListsView) → cond b (f (cond b x y)) (cond b x y) ≡ cond b (f x) y
twice true x y f = refl
twice false x y f = refl

not_pushed : (xs : List ℕ) (x : ℕ) → xs ++ x ∷ [] ≡ [] → ⊥
not_pushed [] x e = cc
not_pushed (y ∷ xs) x e = cc

pub further_is : (more : map.FinMap nat_cmp (List ℕ)) (key : ℕ) (ys : List ℕ) → unwrap_or (map.get (with_more more key ys) key) [] ≡ ys
further_is more key [] = ap (λ o. unwrap_or o []) (out_here more key)
further_is more key (y ∷ ys) = ap (λ o. unwrap_or o []) (put_here more key (y ∷ ys))

further_other : (more : map.FinMap nat_cmp (List ℕ)) (key : ℕ) (ys : List ℕ) (k : ℕ) → k ≢ key → map.get (with_more more key ys) k ≡ map.get more k
further_other more key [] k d = out_other more key k d
further_other more key (y ∷ ys) k d = put_other more key (y ∷ ys) k d

-- a port that is no more ready without its first message
pub emptied_is : {M : Type 0} (v : SharedView) (key : ℕ) (m : Membership) (message : M) (queue rest : List M) → queue ≡ message ∷ rest → unreadied v key (left_if queue m) ≡ emptied v key m rest
emptied_is {M} v key m message queue [] is = ap (λ (q : List M). unreadied v key (left_if q m)) is
emptied_is {M} v key m message queue (n ∷ rest) is = ap (λ (q : List M). unreadied v key (left_if q m)) is

-- ---- a port that stands where it stood

module _ (sets then : SharedView) (key : ℕ) (all : (l : ℕ) → Contains (list_of then.all l) key ↔ Contains (list_of sets.all l) key) where
  first_stays : more_of then key ≡ more_of sets key → (l : ℕ) → IsFirst sets l key → IsFirst then l key
  first_stays more l f = record { inside = (all l).1 f.inside; not_further = λ c. f.not_further (subst (λ ys. Contains ys l) more c) }

  home_stays : more_of then key ≡ more_of sets key → (m : Membership) → IsHome sets key m → IsHome then key m
  home_stays more Nowhere h = (λ l c. h.0 l ((all l).0 c), more ∙ h.1)
  home_stays more (Alone set) h = (first_stays more set h.0, more ∙ h.1)
  home_stays more (Several set) h = (first_stays more set h.0, λ e. h.1 (sym more ∙ e))

  ready_stays : ((l : ℕ) → Contains (list_of then.ready l) key ↔ Contains (list_of sets.ready l) key) → (b : Bool) → IsReady sets key b → IsReady then key b
  ready_stays same true h = λ l c. (same l).1 (h l ((all l).0 c))
  ready_stays same false h = λ l c. h l ((same l).0 c)

-- ---- a port's key moves between lists

-- One port is in other sets, or ready elsewhere. `set` is the first of its sets, and `was` and `now` are those that it was and is ready in.
pub record Moves (sets then : SharedView) (key : ℕ) (set : Option ℕ) (m : Membership) (is_ready : Bool) (was now : List ℕ) : Type 0 where
  pub home : IsHome then key m
  pub stands : (l : ℕ) → Contains (list_of then.all l) key ↔ Contains (option_to_list set ++ more_of then key) l
  pub ready : IsReady then key is_ready
  pub others : (x l : ℕ) → x ≢ key → Contains (list_of then.all l) x ↔ Contains (list_of sets.all l) x
  pub others_ready : (x l : ℕ) → x ≢ key → Contains (list_of then.ready l) x ↔ Contains (list_of sets.ready l) x
  pub readied : (l : ℕ) → Contains (list_of then.ready l) key → Contains (list_of then.all l) key
  pub more : OthersKeep sets then key
  pub turns : then.ready.lists ≡ (joined_each (parted_each sets.ready (sets_without was now) key) (sets_without now was) key).lists
  pub room : then.all.items ≡ sets.all.items
  pub several : then.several ≡ sets.several

pub more_keeps : (sets then : SharedView) (key : ℕ) → OthersKeep sets then key → (k : ℕ) → k ≢ key → more_of then k ≡ more_of sets k
more_keeps sets then key keep k d = ap (λ o. unwrap_or o []) (keep k d)

module _ {M : Type 0} (at new : ℕ → Option (Record M)) (sets then : SharedView) (key : ℕ) (membered : IsMembered at sets) {set : Option ℕ} {m : Membership} {is_ready : Bool} {was now : List ℕ} (moves : Moves sets then key set m is_ready was now) where
  keep : (k : ℕ) → k ≢ key → more_of then k ≡ more_of sets k
  keep = more_keeps sets then key moves.more

  stands_other : (k l : ℕ) (b : Record M) → k ≢ key → at k ≡ Some b → Contains (list_of then.all l) k ↔ Contains (sets_at then k b) l
  stands_other k l b d h =
      let old = membered.stands k l b h in
      let sub : List ℕ → Type 0 = λ ys. Contains (option_to_list b.kept.attributes.set ++ ys) l in
      (λ c. subst sub (sym (keep k d)) (old.0 ((moves.others k l d).0 c)), λ c. (moves.others k l d).1 (old.1 (subst sub (keep k d) c)))

  module _ (a : Record M) (turns : Turns at new key (Some a)) where
    at_key : (k : ℕ) (b : Record M) → k ≡ key → new k ≡ Some b → (P : ℕ → Record M → Type 0) → P key a → P k b
    at_key k b e h P p = subst (λ n. P n b) (sym e) (subst (P key) (same_some a b (sym turns.changed ∙ ap new (sym e) ∙ h)) p)

    before : (k : ℕ) (b : Record M) → k ≢ key → new k ≡ Some b → at k ≡ Some b
    before k b d h = sym (turns.others k d) ∙ h

    pub membered-moved : a.kept.attributes.set ≡ set → a.kept.membership ≡ m → has_some a.queue ≡ is_ready → set ≡ first_of m → key < sets.all.items → IsMembered new then
    membered-moved set_is m_is ready_is first_is fits = record {
      first = λ k b h. elim (equal_or_not k key) [
        | inl e ↦ at_key k b e h (λ n c. c.kept.attributes.set ≡ first_of c.kept.membership) (set_is ∙ first_is ∙ ap first_of (sym m_is))
        | inr d ↦ membered.first k b (before k b d h)
      ];
      stands = λ k l b h. elim (equal_or_not k key) [
        | inl e ↦ at_key k b e h (λ n c. Contains (list_of then.all l) n ↔ Contains (sets_at then n c) l) (subst (λ o. Contains (list_of then.all l) key ↔ Contains (option_to_list o ++ more_of then key) l) (sym set_is) (moves.stands l))
        | inr d ↦ stands_other k l b d (before k b d h)
      ];
      home = λ k b h. elim (equal_or_not k key) [
        | inl e ↦ at_key k b e h (λ n c. IsHome then n c.kept.membership) (subst (IsHome then key) (sym m_is) moves.home)
        | inr d ↦ home_stays sets then k (λ l. moves.others k l d) (keep k d) b.kept.membership (membered.home k b (before k b d h))
      ];
      ready = λ k b h. elim (equal_or_not k key) [
        | inl e ↦ at_key k b e h (λ n c. IsReady then n (has_some c.queue)) (subst (IsReady then key) (sym ready_is) moves.ready)
        | inr d ↦ ready_stays sets then k (λ l. moves.others k l d) (λ l. moves.others_ready k l d) (has_some b.queue) (membered.ready k b (before k b d h))
      ];
      held = λ k l c. elim (equal_or_not k key) [
        | inl e ↦ (a, ap new e ∙ turns.changed)
        | inr d ↦ (let w = membered.held k l ((moves.others k l d).0 c) in (w.0, turns.others k d ∙ w.1))
      ];
      readied = λ k l c. elim (equal_or_not k key) [
        | inl e ↦ subst (λ n. Contains (list_of then.all l) n) (sym e) (moves.readied l (subst (λ n. Contains (list_of then.ready l) n) e c))
        | inr d ↦ (moves.others k l d).1 (membered.readied k l ((moves.others_ready k l d).0 c))
      ];
      more = λ k none. elim (equal_or_not k key) [
        | inl e ↦ absurd (some_or_none a (new key) turns.changed (ap new (sym e) ∙ none))
        | inr d ↦ keep k d ∙ membered.more k (sym (turns.others k d) ∙ none)
      ];
      room = λ k b h. elim (equal_or_not k key) [
        | inl e ↦ (let same = moves.room in omega arith)
        | inr d ↦ (let was = membered.room k b (before k b d h) in let same = moves.room in omega arith)
      ];
    }

  -- the port went, out of all sets
  pub membered-went : Turns at new key None → m ≡ Nowhere → IsMembered new then
  membered-went turns m_is =
      let home : IsHome then key Nowhere = subst (IsHome then key) m_is moves.home in
      let before : (k : ℕ) (b : Record M) → new k ≡ Some b → (k ≢ key) × (at k ≡ Some b) = λ k b h. elim (equal_or_not k key) [
        | inl e ↦ absurd (some_or_none b (new key) (ap new (sym e) ∙ h) turns.changed)
        | inr d ↦ (d, sym (turns.others k d) ∙ h)
      ] in
      record {
        first = λ k b h. membered.first k b (before k b h).1;
        stands = λ k l b h. stands_other k l b (before k b h).0 (before k b h).1;
        home = λ k b h. (let d = (before k b h).0 in home_stays sets then k (λ l. moves.others k l d) (keep k d) b.kept.membership (membered.home k b (before k b h).1));
        ready = λ k b h. (let d = (before k b h).0 in ready_stays sets then k (λ l. moves.others k l d) (λ l. moves.others_ready k l d) (has_some b.queue) (membered.ready k b (before k b h).1));
        held = λ k l c. elim (equal_or_not k key) [
          | inl e ↦ absurd (home.0 l (subst (λ n. Contains (list_of then.all l) n) e c))
          | inr d ↦ (let w = membered.held k l ((moves.others k l d).0 c) in (w.0, turns.others k d ∙ w.1))
        ];
        readied = λ k l c. elim (equal_or_not k key) [
          | inl e ↦ subst (λ n. Contains (list_of then.all l) n) (sym e) (moves.readied l (subst (λ n. Contains (list_of then.ready l) n) e c))
          | inr d ↦ (moves.others k l d).1 (membered.readied k l ((moves.others_ready k l d).0 c))
        ];
        more = λ k none. elim (equal_or_not k key) [
          | inl e ↦ ap (more_of then) e ∙ home.1
          | inr d ↦ keep k d ∙ membered.more k (sym (turns.others k d) ∙ none)
        ];
        room = λ k b h. (let was = membered.room k b (before k b h).1 in let same = moves.room in omega arith);
      }

-- only room was made
abbrev pub wider : SharedView → (all ready room : ℕ) → SharedView
wider sets all ready room = record sets { all = record sets.all { items = all }; ready = record sets.ready { items = ready }; room = room }

pub membered-wider : {M : Type 0} (at new : ℕ → Option (Record M)) (sets : SharedView) (all ready room : ℕ) → ((k : ℕ) → new k ≡ at k) → sets.all.items ≤ all → IsMembered at sets → IsMembered new (wider sets all ready room)
membered-wider at new sets all ready room same more membered = record {
  first = λ k b h. membered.first k b (sym (same k) ∙ h);
  stands = λ k l b h. membered.stands k l b (sym (same k) ∙ h);
  home = λ k b h. home_stays sets (wider sets all ready room) k (λ l. (λ c. c, λ c. c)) refl b.kept.membership (membered.home k b (sym (same k) ∙ h));
  ready = λ k b h. ready_stays sets (wider sets all ready room) k (λ l. (λ c. c, λ c. c)) (λ l. (λ c. c, λ c. c)) (has_some b.queue) (membered.ready k b (sym (same k) ∙ h));
  held = λ k l c. (let w = membered.held k l c in (w.0, same k ∙ w.1));
  readied = λ k l c. membered.readied k l c;
  more = λ k none. membered.more k (sym (same k) ∙ none);
  room = λ k b h. (let was = membered.room k b (sym (same k) ∙ h) in omega arith);
}

-- the ready ones stand in another order
pub membered-turned : {M : Type 0} (at : ℕ → Option (Record M)) (sets : SharedView) (ready : ListsView) → ((x l : ℕ) → Contains (list_of ready l) x ↔ Contains (list_of sets.ready l) x) → IsMembered at sets → IsMembered at (record sets { ready = ready })
membered-turned at sets ready same membered = record {
  first = λ k b h. membered.first k b h;
  stands = λ k l b h. membered.stands k l b h;
  home = λ k b h. home_stays sets (record sets { ready = ready }) k (λ l. (λ c. c, λ c. c)) refl b.kept.membership (membered.home k b h);
  ready = λ k b h. ready_stays sets (record sets { ready = ready }) k (λ l. (λ c. c, λ c. c)) (λ l. same k l) (has_some b.queue) (membered.ready k b h);
  held = λ k l c. membered.held k l c;
  readied = λ k l c. membered.readied k l ((same k l).0 c);
  more = λ k none. membered.more k none;
  room = λ k b h. membered.room k b h;
}

-- ---- a port that is in other sets

module _ (x : ℕ) (was now : List ℕ) where
  abbrev pub changed : ListsView → ListsView
  changed v = joined_each (parted_each v (sets_without was now) x) (sets_without now was) x

  changed_other : (v : ListsView) (y l : ℕ) → y ≢ x → Contains (list_of (changed v) l) y ↔ Contains (list_of v l) y
  changed_other v y l d = (
    (λ c. elim (joined_each_from x (parted_each v (sets_without was now) x) (sets_without now was) l y c) [ inl a ↦ (parted_each_from x v (sets_without was now) l y a).0 | inr a ↦ absurd (d a.1) ]),
    (λ c. joined_each_old x (parted_each v (sets_without was now) x) (sets_without now was) l y (parted_each_old x v (sets_without was now) l y d c)),
  )

  changed_from : (v : ListsView) (l : ℕ) → (Contains (list_of v l) x → Contains was l) → Contains (list_of (changed v) l) x → Contains now l
  changed_from v l old c = elim (joined_each_from x (parted_each v (sets_without was now) x) (sets_without now was) l x c) [
    | inl a ↦ (let b = parted_each_from x v (sets_without was now) l x a in elim (contains_or_not now l) [
      | inl in_ ↦ in_.0
      | inr out ↦ absurd (b.1 (sets_but_in now was l (old b.0) out.0) refl)
    ])
    | inr a ↦ (sets_but_from was now l a.0).0
  ]

  changed_in : (v : ListsView) (l : ℕ) → (Contains was l → Contains (list_of v l) x) → Contains now l → Contains (list_of (changed v) l) x
  changed_in v l old c = elim (contains_or_not was l) [
    | inl in_ ↦ joined_each_old x (parted_each v (sets_without was now) x) (sets_without now was) l x (parted_each_own x v (sets_without was now) l (λ a. (sets_but_from now was l a).1 c) (old in_.0))
    | inr out ↦ joined_each_new x (parted_each v (sets_without was now) x) (sets_without now was) l (sets_but_in was now l c out.0)
  ]

  changed_items : (v : ListsView) → (changed v).items ≡ v.items
  changed_items v = joined_each_items x (parted_each v (sets_without was now) x) (sets_without now was) ∙ parted_each_items x v (sets_without was now)

  pub changed_same : was ≡ now → (v : ListsView) → changed v ≡ v
  changed_same e v =
      ap (λ ys. joined_each (parted_each v ys x) (sets_without now was) x) (ap (λ ys. sets_without ys now) e ∙ sets_but_same now)
      ∙ ap (λ ys. joined_each v ys x) (ap (sets_without now) e ∙ sets_but_same now)

module _ (sets then : SharedView) (key : ℕ) (was : List ℕ)
    (old : (l : ℕ) → Contains (list_of sets.all l) key ↔ Contains was l) (old_readied : (l : ℕ) → Contains (list_of sets.ready l) key → Contains (list_of sets.all l) key) where
  module _ (set : Option ℕ) (m : Membership) (now : List ℕ) (now_is : option_to_list set ++ more_of then key ≡ now) (home : IsHome then key m) (more : OthersKeep sets then key) (several : then.several ≡ sets.several) where
    all_from : then.all ≡ changed key was now sets.all → (l : ℕ) → Contains (list_of then.all l) key → Contains now l
    all_from all_is l c = changed_from key was now sets.all l (old l).0 (subst (λ (v : ListsView). Contains (list_of v l) key) all_is c)

    all_in : then.all ≡ changed key was now sets.all → (l : ℕ) → Contains now l → Contains (list_of then.all l) key
    all_in all_is l c = subst (λ (v : ListsView). Contains (list_of v l) key) (sym all_is) (changed_in key was now sets.all l (old l).1 c)

    all_other : then.all ≡ changed key was now sets.all → (y l : ℕ) → y ≢ key → Contains (list_of then.all l) y ↔ Contains (list_of sets.all l) y
    all_other all_is y l d = subst (λ (v : ListsView). Contains (list_of v l) y ↔ Contains (list_of sets.all l) y) (sym all_is) (changed_other key was now sets.all y l d)

    moves-to : then.all ≡ changed key was now sets.all → {M : Type 0} (queue : List M) → IsReady sets key (has_some queue) → then.ready ≡ cond (has_some queue) (changed key was now sets.ready) sets.ready →
        Moves sets then key set m (has_some queue) (ready_if queue was) (ready_if queue now)
    moves-to all_is [] old_ready is = record {
      home = home;
      stands = λ l. (λ c. subst (λ ys. Contains ys l) (sym now_is) (all_from all_is l c), λ c. all_in all_is l (subst (λ ys. Contains ys l) now_is c));
      ready = λ l c. old_ready l (subst (λ (v : ListsView). Contains (list_of v l) key) is c);
      others = all_other all_is;
      others_ready = λ y l d. subst (λ (v : ListsView). Contains (list_of v l) y ↔ Contains (list_of sets.ready l) y) (sym is) (λ c. c, λ c. c);
      readied = λ l c. absurd (old_ready l (subst (λ (v : ListsView). Contains (list_of v l) key) is c));
      more = more;
      turns = ap (λ (v : ListsView). v.lists) is;
      room = ap (λ (v : ListsView). v.items) all_is ∙ changed_items key was now sets.all;
      several = several;
    }
    moves-to all_is (q ∷ queue) old_ready is =
        let ready_in : (l : ℕ) → Contains now l → Contains (list_of then.ready l) key = λ l c. subst (λ (v : ListsView). Contains (list_of v l) key) (sym is) (changed_in key was now sets.ready l (λ a. old_ready l ((old l).1 a)) c) in
        let ready_from : (l : ℕ) → Contains (list_of then.ready l) key → Contains now l = λ l c. changed_from key was now sets.ready l (λ a. (old l).0 (old_readied l a)) (subst (λ (v : ListsView). Contains (list_of v l) key) is c) in
        record {
          home = home;
          stands = λ l. (λ c. subst (λ ys. Contains ys l) (sym now_is) (all_from all_is l c), λ c. all_in all_is l (subst (λ ys. Contains ys l) now_is c));
          ready = λ l c. ready_in l (all_from all_is l c);
          others = all_other all_is;
          others_ready = λ y l d. subst (λ (v : ListsView). Contains (list_of v l) y ↔ Contains (list_of sets.ready l) y) (sym is) (changed_other key was now sets.ready y l d);
          readied = λ l c. all_in all_is l (ready_from l c);
          more = more;
          turns = ap (λ (v : ListsView). v.lists) is;
          room = ap (λ (v : ListsView). v.items) all_is ∙ changed_items key was now sets.all;
          several = several;
        }

    -- the same by the lists that it leaves and joins
    pub moves-by : {M : Type 0} (queue : List M) (out in_ : List ℕ) → sets_without was now ≡ out → sets_without now was ≡ in_ → IsReady sets key (has_some queue) →
        then.all ≡ joined_each (parted_each sets.all out key) in_ key → then.ready ≡ cond (has_some queue) (joined_each (parted_each sets.ready out key) in_ key) sets.ready →
        Moves sets then key set m (has_some queue) (ready_if queue was) (ready_if queue (option_to_list set ++ more_of then key))
    moves-by queue out in_ out_is in_is ready all_is ready_is =
        let these : (v : ListsView) → changed key was now v ≡ joined_each (parted_each v out key) in_ key = λ v. ap (λ ys. joined_each (parted_each v ys key) (sets_without now was) key) out_is ∙ ap (λ ys. joined_each (parted_each v out key) ys key) in_is in
        subst (λ ys. Moves sets then key set m (has_some queue) (ready_if queue was) (ready_if queue ys)) (sym now_is)
        (moves-to (all_is ∙ sym (these sets.all)) queue ready (ready_is ∙ ap (λ (v : ListsView). cond (has_some queue) v sets.ready) (sym (these sets.ready))))

  -- ---- a port that is ready, or not, in the sets that it is in

  module _ (set : Option ℕ) (m : Membership) (first_is : set ≡ first_of m) (was_is : option_to_list set ++ more_of sets key ≡ was) (home : IsHome sets key m) where
    pub all_sets : sets_of sets key m ≡ was
    all_sets = sets_are sets key m home ∙ ap (λ o. option_to_list o ++ more_of sets key) (sym first_is) ∙ was_is

    module _ (lists : ListsView) (is_ready : Bool) (r s : List ℕ) (then_is : then ≡ record sets { ready = lists }) (ready : IsReady (record sets { ready = lists }) key is_ready)
        (others : (y l : ℕ) → y ≢ key → Contains (list_of lists l) y ↔ Contains (list_of sets.ready l) y) (within : (l : ℕ) → Contains (list_of lists l) key → Contains (list_of sets.all l) key)
        (turns : lists.lists ≡ (joined_each (parted_each sets.ready (sets_without r s) key) (sets_without s r) key).lists) where
      moves-ready : Moves sets then key set m is_ready r s
      moves-ready = subst (λ u. Moves sets u key set m is_ready r s) (sym then_is) (record {
        home = home_stays sets (record sets { ready = lists }) key (λ l. (λ c. c, λ c. c)) refl m home;
        stands = λ l. subst (λ ys. Contains (list_of sets.all l) key ↔ Contains ys l) (sym was_is) (old l);
        ready = ready;
        others = λ y l d. (λ c. c, λ c. c);
        others_ready = others;
        readied = within;
        more = λ other d. refl;
        turns = turns;
        room = refl;
        several = refl;
      })

    finish : {M : Type 0} (queue : List M) {is_ready : Bool} {r : List ℕ} → more_of then key ≡ more_of sets key → Moves sets then key set m is_ready r (ready_if queue was) → Moves sets then key set m is_ready r (ready_if queue (option_to_list set ++ more_of then key))
    finish queue {is_ready} {r} more moves = subst (λ ys. Moves sets then key set m is_ready r (ready_if queue ys)) (sym (ap (λ ys. option_to_list set ++ ys) more ∙ was_is)) moves

    moves-same : (is_ready : Bool) (r s : List ℕ) → then ≡ sets → r ≡ s → IsReady sets key is_ready → Moves sets then key set m is_ready r s
    moves-same is_ready r s is e ready = moves-ready sets.ready is_ready r s is ready (λ y l d. (λ c. c, λ c. c)) old_readied (sym (ap (λ (v : ListsView). v.lists) (changed_same key r s e sets.ready)))

    -- nothing changed in its sets
    pub moves-still : {M : Type 0} (queue : List M) → then ≡ sets → IsReady sets key (has_some queue) → Moves sets then key set m (has_some queue) (ready_if queue was) (ready_if queue (option_to_list set ++ more_of then key))
    moves-still queue is ready = finish queue (ap (λ (u : SharedView). more_of u key) is) (moves-same (has_some queue) (ready_if queue was) (ready_if queue was) is refl ready)

    -- a message came
    queued : {M : Type 0} (queue : List M) (message : M) → then ≡ readied sets key (readied_if queue m) → IsReady sets key (has_some queue) →
        Moves sets then key set m (has_some (queue ++ message ∷ [])) (ready_if queue was) (ready_if (queue ++ message ∷ []) was)
    queued {M} [] message is apart =
        moves-ready (joined_each sets.ready was key) true [] was (is ∙ ap (λ ys. let u : SharedView = record sets { ready = joined_each sets.ready ys key } in u) all_sets)
        (λ l c. joined_each_new key sets.ready was l ((old l).0 c))
        (λ y l d. (λ c. elim (joined_each_from key sets.ready was l y c) [ inl a ↦ a | inr a ↦ absurd (d a.1) ], joined_each_old key sets.ready was l y))
        (λ l c. elim (joined_each_from key sets.ready was l key c) [ inl a ↦ old_readied l a | inr a ↦ (old l).1 a.0 ])
        (ap (λ ys. (joined_each sets.ready ys key).lists) (sym (sets_but_none was)))
    queued {M} (q ∷ queue) message is ready = moves-same true was was is refl ready

    pub moves-queued : {M : Type 0} (queue : List M) (message : M) → then ≡ readied sets key (readied_if queue m) → IsReady sets key (has_some queue) →
        Moves sets then key set m (has_some (queue ++ message ∷ [])) (ready_if queue was) (ready_if (queue ++ message ∷ []) (option_to_list set ++ more_of then key))
    moves-queued queue message is ready = finish (queue ++ message ∷ []) (ap (λ (u : SharedView). more_of u key) is) (queued queue message is ready)

    -- the first message is gone
    taken : {M : Type 0} (queue : List M) (message : M) (rest : List M) → queue ≡ message ∷ rest → then ≡ emptied sets key m rest → IsReady sets key (has_some queue) →
        Moves sets then key set m (has_some rest) (ready_if queue was) (ready_if rest was)
    taken {M} queue message [] some is ready =
        subst (λ (r : List ℕ). Moves sets then key set m false r []) (sym (ap (λ (q : List M). ready_if q was) some))
        (moves-ready (parted_each sets.ready was key) false was [] (is ∙ ap (λ ys. let u : SharedView = record sets { ready = parted_each sets.ready ys key } in u) all_sets)
        (λ l c. (let b = parted_each_from key sets.ready was l key c in b.1 ((old l).0 (old_readied l b.0)) refl))
        (λ y l d. (λ c. (parted_each_from key sets.ready was l y c).0, parted_each_old key sets.ready was l y d))
        (λ l c. old_readied l (parted_each_from key sets.ready was l key c).0)
        (ap (λ ys. (parted_each sets.ready ys key).lists) (sym (sets_but_none was))))
    taken {M} queue message (n ∷ rest) some is ready =
        subst (λ (r : List ℕ). Moves sets then key set m true r was) (sym (ap (λ (q : List M). ready_if q was) some))
        (moves-same true was was is refl (subst (λ (q : List M). IsReady sets key (has_some q)) some ready))

    pub emptied_more : {M : Type 0} (rest : List M) → then ≡ emptied sets key m rest → more_of then key ≡ more_of sets key
    emptied_more [] is = ap (λ (u : SharedView). more_of u key) is
    emptied_more (n ∷ rest) is = ap (λ (u : SharedView). more_of u key) is

    pub moves-taken : {M : Type 0} (queue : List M) (message : M) (rest : List M) → queue ≡ message ∷ rest → then ≡ emptied sets key m rest → IsReady sets key (has_some queue) →
        Moves sets then key set m (has_some rest) (ready_if queue was) (ready_if rest (option_to_list set ++ more_of then key))
    moves-taken queue message rest some is ready = finish rest (emptied_more rest is) (taken queue message rest some is ready)

    -- the port left all its sets
    pub moves-out : {M : Type 0} (queue : List M) → IsReady sets key (has_some queue) → IsOut sets key m (has_some queue) then → Moves sets then key None Nowhere (has_some queue) (ready_if queue was) (ready_if queue (more_of then key))
    moves-out queue ready out =
        moves-by None Nowhere [] out.none (out.apart, out.none) out.others (ap (λ (u : SharedView). u.several) out.lists) queue was [] (sets_but_none was) refl ready
        (ap (λ (u : SharedView). u.all) out.lists ∙ ap (λ ys. parted_each sets.all ys key) all_sets)
        (ap (λ (u : SharedView). u.ready) out.lists ∙ ap (λ ys. cond (has_some queue) (parted_each sets.ready ys key) sets.ready) all_sets)

    -- the port is in one set alone
    pub moves-settled : {M : Type 0} (queue : List M) (one : ℕ) → IsReady sets key (has_some queue) → IsSettled sets key m one (has_some queue) then →
        Moves sets then key (Some one) (Alone one) (has_some queue) (ready_if queue was) (ready_if queue (one ∷ more_of then key))
    moves-settled queue one ready settled =
        let now_is : one ∷ more_of then key ≡ one ∷ [] = ap (λ ys. one ∷ ys) settled.none in
        elim (contains_or_not was one) [
          | inl in_ ↦
              let is = settled.stays (subst (λ ys. Contains ys one) (sym all_sets) in_.0) in
              moves-by (Some one) (Alone one) (one ∷ []) now_is (settled.first, settled.none) settled.others (ap (λ (u : SharedView). u.several) is) queue (without one was) [] (sets_but_one was one) (sets_within was (one ∷ []) (λ y c. subst (λ n. Contains was n) (sym (only_in one y c)) in_.0)) ready
              (ap (λ (u : SharedView). u.all) is ∙ ap (λ ys. parted_each sets.all (without one ys) key) all_sets)
              (ap (λ (u : SharedView). u.ready) is ∙ ap (λ ys. cond (has_some queue) (parted_each sets.ready (without one ys) key) sets.ready) all_sets)
          | inr out ↦
              let is = settled.comes (λ c. out.0 (subst (λ ys. Contains ys one) all_sets c)) in
              moves-by (Some one) (Alone one) (one ∷ []) now_is (settled.first, settled.none) settled.others (ap (λ (u : SharedView). u.several) is) queue was (one ∷ [])
              (sets_apart (one ∷ []) was (λ y c d. out.0 (subst (λ n. Contains was n) (only_in one y d) c))) (sets_apart was (one ∷ []) (λ y c d. out.0 (subst (λ n. Contains was n) (only_in one y c) d))) ready
              (ap (λ (u : SharedView). u.all) is ∙ ap (λ ys. joined (parted_each sets.all ys key) one key) all_sets)
              (ap (λ (u : SharedView). u.ready) is ∙ twice (has_some queue) (parted_each sets.ready (sets_of sets key m) key) sets.ready (λ v. joined v one key) ∙ ap (λ ys. cond (has_some queue) (joined (parted_each sets.ready ys key) one key) sets.ready) all_sets)
        ]

    -- the port that is in no set entered one
    pub moves-entered : {M : Type 0} (queue : List M) (one : ℕ) → was ≡ [] → more_of sets key ≡ [] → IsReady sets key (has_some queue) → then ≡ entered sets one key (has_some queue) →
        Moves sets then key (Some one) (Alone one) (has_some queue) (ready_if queue was) (ready_if queue (one ∷ more_of then key))
    moves-entered queue one none alone ready is =
        let more_is : more_of then key ≡ [] = ap (λ (u : SharedView). more_of u key) is ∙ alone in
        let here : Contains (list_of then.all one) key = subst (λ (u : SharedView). Contains (list_of u.all one) key) (sym is) (joined_new sets.all one key) in
        moves-by (Some one) (Alone one) (one ∷ []) (ap (λ ys. one ∷ ys) more_is) (record { inside = here; not_further = λ c. nothing_in one (subst (λ ys. Contains ys one) more_is c) }, more_is)
        (λ other d. ap (λ (u : SharedView). map.get u.more other) is) (ap (λ (u : SharedView). u.several) is) queue [] (one ∷ [])
        (ap (λ ys. sets_without ys (one ∷ [])) none) (ap (sets_without (one ∷ [])) none ∙ sets_but_none (one ∷ [])) ready
        (ap (λ (u : SharedView). u.all) is) (ap (λ (u : SharedView). u.ready) is)

    -- the port entered a further set
    pub moves-further : {M : Type 0} (queue : List M) (own one : ℕ) → first_of m ≡ Some own → (Contains was one → ⊥) → IsReady sets key (has_some queue) → then ≡ with_further (entered sets one key (has_some queue)) one key →
        Moves sets then key (Some own) (Several own) (has_some queue) (ready_if queue was) (ready_if queue (own ∷ more_of then key))
    moves-further queue own one own_is apart ready is =
        let more_is : more_of then key ≡ more_of sets key ++ one ∷ [] = ap (λ (u : SharedView). more_of u key) is ∙ further_is sets.more key (more_of sets key ++ one ∷ []) in
        let was_now : own ∷ more_of sets key ≡ was = ap (λ o. option_to_list o ++ more_of sets key) (sym (first_is ∙ own_is)) ∙ was_is in
        let first = first_there sets key m own own_is home in
        let here : Contains (list_of then.all own) key = subst (λ (u : SharedView). Contains (list_of u.all own) key) (sym is) (joined_old sets.all one key own key first.inside) in
        let further : Contains (more_of then key) own → ⊥ = λ c. elim (Contains-push_cases (more_of sets key) one own (subst (λ ys. Contains ys own) more_is c)) [
          | inl a ↦ first.not_further a
          | inr e ↦ apart (subst (λ n. Contains was n) (sym e) (subst (λ ys. Contains ys own) was_now (head_in own (more_of sets key))))
        ] in
        moves-by (Some own) (Several own) (was ++ one ∷ []) (ap (λ ys. own ∷ ys) more_is ∙ ap (λ ys. ys ++ one ∷ []) was_now) (record { inside = here; not_further = further }, λ e. not_pushed (more_of sets key) one (sym more_is ∙ e))
        (λ other d. ap (λ (u : SharedView). map.get u.more other) is ∙ further_other sets.more key (more_of sets key ++ one ∷ []) other d) (ap (λ (u : SharedView). u.several) is) queue [] (one ∷ [])
        (sets_within (was ++ one ∷ []) was (λ y c. Contains-append_left was (one ∷ []) y c)) (sets_but_joined was was one (λ y c. c) apart) ready
        (ap (λ (u : SharedView). u.all) is) (ap (λ (u : SharedView). u.ready) is)

    -- the port left one of its sets
    pub moves-parted : {M : Type 0} (queue : List M) (one : ℕ) (n : Membership) → Contains was one → IsReady sets key (has_some queue) → IsParted sets key m one (has_some queue) n then →
        Moves sets then key (first_of n) n (has_some queue) (ready_if queue was) (ready_if queue (option_to_list (first_of n) ++ more_of then key))
    moves-parted queue one n there ready parted =
        let out : List ℕ = sets_without was (without one was) in
        let part : (v : ListsView) → parted_in v one key ≡ parted_each v out key = λ v. sym (parted_copies key v out one (only_left was one) (is_left was one there)) in
        moves-by (first_of n) n (without one was) (sym (sets_are then key n parted.home) ∙ parted.sets ∙ ap (without one) all_sets) parted.home parted.others (ap (λ (u : SharedView). u.several) parted.lists) queue out [] refl (sets_within was (without one was) (λ y c. (without_from one y was c).0)) ready
        (ap (λ (u : SharedView). u.all) parted.lists ∙ part sets.all) (ap (λ (u : SharedView). u.ready) parted.lists ∙ ap (λ (v : ListsView). cond (has_some queue) v sets.ready) (part sets.ready))
