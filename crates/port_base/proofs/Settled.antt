-- A port that leaves its sets, one after the other, and one that is in another set alone then.
use Rattle.std.proofs.Common.{◌≡◌, ◌≢◌, ℕ, ◌<◌, ◌++◌, ◌∷◌, [], append_assoc, Bool, true, false, not, eqb, cond, List, Option, None, length, slice_get, refl, sym, ap, subst, ◌∙◌, arith, Contains}
use Rattle.std.proofs.lemmas.List.{append-nil}
use Rattle.std.specs.FinMap as map
use Rattle.member_lists.specs.Lists.{ListsView, list_of, without, IsApart}
use Rattle.member_lists.specs.Chains.{times}
use Rattle.member_lists.proofs.Times.{eqb_same, filter-append, times_here, times_other, times-append, times_from_Contains, Contains_from_times, without_none}
use Rattle.member_lists.proofs.Listed.{items_same, in_pushed}
use Rattle.shared_lists.specs.Shared.{SharedView, IsFirst, IsReady, OthersKeep, more_of, parted, parted_each, left, left_each, entered, without_further}
use Rattle.shared_lists.proofs.Leaving.{not_there, without_first, in_tail, ready_still, further_rest, further_more, further_others, further_first, nothing_first}
use Rattle.shared_lists.proofs.Marking.{head_in}
use Rattle.port_base.specs.declared.Membership.{Membership}
use Rattle.port_base.specs.declared.Membership.TheVariants.{Nowhere, Alone, Several}
use Rattle.port_base.specs.Memberships.{IsHome, IsOut, IsPartlyOut, IsSettled, sets_of, unreadied, emptied}
use Rattle.port_base.specs.Records.{left_if}

-- ---- lists that an item left

parted_append : (xs ys : List ℕ) (item : ℕ) (v : ListsView) → parted_each v (xs ++ ys) item ≡ parted_each (parted_each v xs item) ys item
parted_append [] ys item v = refl
parted_append (x ∷ xs) ys item v = parted_append xs ys item (parted v x item)

left_append : (v : SharedView) (xs ys : List ℕ) (item : ℕ) (r : Bool) (m : map.FinMap _ (List ℕ)) (n : ℕ)
    → left_each (record (left_each v xs item r) { more = m; room = n }) ys item r ≡ record (left_each v (xs ++ ys) item r) { more = m; room = n }
left_append v xs ys item true m n =
    ap (λ a. let u : SharedView = record v { all = a; ready = parted_each (parted_each v.ready xs item) ys item; more = m; room = n } in u) (sym (parted_append xs ys item v.all))
    ∙ ap (λ a. let u : SharedView = record v { all = parted_each v.all (xs ++ ys) item; ready = a; more = m; room = n } in u) (sym (parted_append xs ys item v.ready))
left_append v xs ys item false m n =
    ap (λ a. let u : SharedView = record v { all = a; more = m; room = n } in u) (sym (parted_append xs ys item v.all))

left_none : (v : SharedView) (item : ℕ) (r : Bool) → left_each v [] item r ≡ v
left_none v item true = refl
left_none v item false = refl

-- from no list an item leaves nothing changes
pub out_none : (v : SharedView) (item : ℕ) (r : Bool) → v ≡ record (left_each v [] item r) { more = v.more; room = v.room }
out_none v item true = refl
out_none v item false = refl

-- out of the first lists, and then of the others
pub out_steps : (old mid new : SharedView) (xs ys : List ℕ) (item : ℕ) (r : Bool)
    → mid ≡ record (left_each old xs item r) { more = mid.more; room = mid.room }
    → new ≡ record (left_each mid ys item r) { more = new.more; room = new.room }
    → new ≡ record (left_each old (xs ++ ys) item r) { more = new.more; room = new.room }
out_steps old mid new xs ys item r a b =
    b
    ∙ ap (λ (u : SharedView). let z : SharedView = record (left_each u ys item r) { more = new.more; room = new.room } in z) a
    ∙ ap (λ (u : SharedView). let z : SharedView = record u { more = new.more; room = new.room } in z) (left_append old xs ys item r mid.more mid.room)

items_out : (xs : List ℕ) (item : ℕ) (v : ListsView) → (parted_each v xs item).items ≡ v.items
items_out [] item v = refl
items_out (x ∷ xs) item v = items_out xs item (parted v x item) ∙ items_same v x (without item (list_of v x))

pub room_out : (old new : SharedView) (xs : List ℕ) (item : ℕ) (r : Bool) → new ≡ record (left_each old xs item r) { more = new.more; room = new.room } → item < old.all.items → item < new.all.items
room_out old new xs item r e low = let a : new.all.items ≡ (parted_each old.all xs item).items = ap (λ (u : SharedView). u.all.items) e in let b = items_out xs item old.all in omega arith

-- ---- which lists are left

not_in : (x : ℕ) (xs : List ℕ) → xs ≡ [] → ¬ (Contains xs x)
not_in x xs none c = let gone : Contains [] x = subst (λ ys. Contains ys x) none c in (let less : gone.0 < 0 = gone.1 in omega arith)

-- a list is out of those that it stands once in
pub without_between : (gone rest : List ℕ) (set : ℕ) → ¬ (Contains gone set) → ¬ (Contains rest set) → without set (gone ++ set ∷ rest) ≡ gone ++ rest
without_between gone rest set a b =
    filter-append (λ x. not (eqb x set)) gone (set ∷ rest)
    ∙ ap (λ xs. xs ++ without set (set ∷ rest)) (without_none set gone (not_there set gone a))
    ∙ ap (λ xs. gone ++ xs) (without_first set rest b)

-- ---- the first of its sets is the wanted one in the end

module _ (old now : SharedView) (key first own set : ℕ) (r : Bool) (gone : List ℕ) (p : IsPartlyOut old key first r gone own now) (other : own ≢ set) (inside : Contains (own ∷ more_of now key) set) where
  further : Contains (more_of now key) set
  further = in_tail own set (more_of now key) inside (λ e. other (sym e))

  -- it has others
  pub has_next : (o : Option ℕ) → o ≡ slice_get (more_of now key) 0 → o ≢ None
  has_next o is none = not_in set (more_of now key) (nothing_first (more_of now key) (sym none ∙ is)) further

  module _ (new : SharedView) (next : ℕ) (rest : new ≡ record (left now own key r) { more = new.more; room = new.room }) (others : OthersKeep now new key) (is_first : IsFirst new next key) (lists : next ∷ more_of new key ≡ more_of now key) where
    pub next_out : IsPartlyOut old key first r (gone ++ own ∷ []) next new
    next_out = record {
      lists = out_steps old now new gone (own ∷ []) key r p.lists rest;
      sets = append_assoc gone (own ∷ []) (next ∷ more_of new key) ∙ ap (λ xs. gone ++ own ∷ xs) lists ∙ p.sets;
      first = is_first;
      ready = ready_still now new own key r rest p.ready;
      others = λ o d. others o d ∙ p.others o d;
    }

    pub next_inside : Contains (next ∷ more_of new key) set
    next_inside = subst (λ xs. Contains xs set) (sym lists) further

    pub next_apart : ¬ (Contains gone set) → ¬ (Contains (gone ++ own ∷ []) set)
    next_apart apart c =
        let a = times_from_Contains set (gone ++ own ∷ []) c in
        let b = times-append set gone (own ∷ []) in
        let n = times_other set own [] (λ e. other (sym e)) in
        let z = not_there set gone apart in
        let t : times set (own ∷ []) ≡ 0 = n in
        omega arith

    pub next_fewer : length (more_of new key) < length (more_of now key)
    next_fewer = let e : length (next ∷ more_of new key) ≡ length (more_of now key) = ap (λ (xs : List ℕ). length xs) lists in omega arith

pub none_out_yet : (old : SharedView) (key first : ℕ) (r : Bool) → IsFirst old first key → IsReady old key r → IsPartlyOut old key first r [] first old
none_out_yet old key first r is_first ready = record { lists = out_none old key r; sets = refl; first = is_first; ready = ready; others = λ o d. refl }

pub nothing_in : (x : ℕ) → ¬ (Contains [] x)
nothing_in x c = not_in x [] refl c

-- ---- its further sets go

pub record IsLeaving (old : SharedView) (key : ℕ) (r : Bool) (gone : List ℕ) (now : SharedView) : Type 0 where
  pub lists : now ≡ record (left_each old gone key r) { more = now.more; room = now.room }
  pub sets : gone ++ more_of now key ≡ more_of old key
  pub first : (own : ℕ) → IsFirst old own key → IsFirst now own key
  pub ready : IsReady now key r
  pub others : OthersKeep old now key

pub leaving_none : (old : SharedView) (key : ℕ) (r : Bool) → IsReady old key r → IsLeaving old key r [] old
leaving_none old key r ready = record { lists = out_none old key r; sets = refl; first = λ own f. f; ready = ready; others = λ o d. refl }

pub once_further : (now : SharedView) (key set : ℕ) → set ∷ without set (more_of now key) ≡ more_of now key → Contains (more_of now key) set
once_further now key set once = subst (λ xs. Contains xs set) once (head_in set (without set (more_of now key)))

module _ (old now new : SharedView) (key set : ℕ) (r : Bool) (gone : List ℕ) (l : IsLeaving old key r gone now) (once : set ∷ without set (more_of now key) ≡ more_of now key)
    (after : new ≡ without_further (left now set key r) set key new.room) where
  still_more : set ∷ more_of new key ≡ more_of now key
  still_more = ap (λ xs. set ∷ xs) (further_more now new set key r after) ∙ once

  pub leaving_next : IsLeaving old key r (gone ++ set ∷ []) new
  leaving_next =
      let rest = further_rest now new set key r after in
      record {
        lists = out_steps old now new gone (set ∷ []) key r l.lists rest;
        sets = append_assoc gone (set ∷ []) (more_of new key) ∙ ap (λ xs. gone ++ xs) still_more ∙ l.sets;
        first = λ own f.
            let g = l.first own f in
            further_first now new set key r own (λ e. g.not_further (subst (λ x. Contains (more_of now key) x) (sym e) (once_further now key set once))) g after;
        ready = ready_still now new set key r rest l.ready;
        others = λ o d. further_others now new set key r after o d ∙ l.others o d;
      }

  pub leaving_fewer : length (more_of new key) < length (more_of now key)
  leaving_fewer = let e : length (set ∷ more_of new key) ≡ length (more_of now key) = ap (λ (xs : List ℕ). length xs) still_more in omega arith

module _ (old now : SharedView) (key : ℕ) (r : Bool) (gone : List ℕ) (l : IsLeaving old key r gone now) (none : None ≡ slice_get (more_of now key) 0) where
  pub left_all_more : more_of now key ≡ []
  left_all_more = nothing_first (more_of now key) none

  pub left_all_lists : now ≡ record (left_each old (more_of old key) key r) { more = now.more; room = now.room }
  left_all_lists =
      let all : gone ≡ more_of old key = sym (append-nil gone) ∙ ap (λ xs. gone ++ xs) (sym left_all_more) ∙ l.sets in
      l.lists ∙ ap (λ xs. let u : SharedView = record (left_each old xs key r) { more = now.more; room = now.room } in u) all

-- ---- in one set alone

module _ (old new : SharedView) (key set : ℕ) (r : Bool) where
  -- a port that is in no set enters one
  pub first_entered : (mid : SharedView) → more_of mid key ≡ [] → new ≡ entered mid set key r → IsFirst new set key
  first_entered mid none e = record {
    inside = subst (λ (u : SharedView). Contains (list_of u.all set) key) (sym e) (in_pushed mid.all set key);
    not_further = λ c. not_in set (more_of new key) (ap (λ (u : SharedView). more_of u key) e ∙ none) c;
  }

  pub settled_new : (mid : SharedView) (m : Membership) → mid ≡ record (left_each old (sets_of old key m) key r) { more = mid.more; room = mid.room } → more_of mid key ≡ [] → OthersKeep old mid key
      → ¬ (Contains (sets_of old key m) set) → new ≡ entered mid set key r → IsSettled old key m set r new
  settled_new mid m lists none others apart e = record {
    first = first_entered mid none e;
    none = ap (λ (u : SharedView). more_of u key) e ∙ none;
    stays = λ c. absurd (apart c);
    comes = λ no.
        let more : new.more ≡ mid.more = ap (λ (u : SharedView). u.more) e in
        let room : new.room ≡ mid.room = ap (λ (u : SharedView). u.room) e in
        e
        ∙ ap (λ (u : SharedView). entered u set key r) lists
        ∙ ap (λ n. let u : SharedView = record (entered (left_each old (sets_of old key m) key r) set key r) { more = n; room = mid.room } in u) (sym more)
        ∙ ap (λ n. let u : SharedView = record (entered (left_each old (sets_of old key m) key r) set key r) { more = new.more; room = n } in u) (sym room);
    others = λ o d. ap (λ (u : SharedView). map.get u.more o) e ∙ others o d;
  }

  pub settled_there : (first : ℕ) (gone : List ℕ) (mid : SharedView) → IsPartlyOut old key first r gone set mid → ¬ (Contains gone set)
      → new ≡ record (left_each mid (more_of mid key) key r) { more = new.more; room = new.room } → more_of new key ≡ [] → IsFirst new set key → OthersKeep mid new key → IsSettled old key (Several first) set r new
  settled_there first gone mid p apart lists none is_first others =
      let all : without set (first ∷ more_of old key) ≡ gone ++ more_of mid key = ap (without set) (sym p.sets) ∙ without_between gone (more_of mid key) set apart p.first.not_further in
      let there : Contains (first ∷ more_of old key) set = subst (λ xs. Contains xs set) p.sets (Contains_from_times set (gone ++ set ∷ more_of mid key)
      (let a = times-append set gone (set ∷ more_of mid key) in let b = times_here set set (more_of mid key) refl in omega arith)) in
      record {
        first = is_first;
        none = none;
        stays = λ c. out_steps old mid new gone (more_of mid key) key r p.lists lists
            ∙ ap (λ xs. let u : SharedView = record (left_each old xs key r) { more = new.more; room = new.room } in u) (sym all);
        comes = λ no. absurd (no there);
        others = λ o d. others o d ∙ p.others o d;
      }

-- a port stays in the only set that it is in
pub settled_same : (old : SharedView) (key only set : ℕ) (r : Bool) → only ≡ set → IsHome old key (Alone only) → IsSettled old key (Alone only) set r old
settled_same old key only set r same home =
    let all : without set (only ∷ []) ≡ [] = ap (λ x. without x (only ∷ [])) (sym same) ∙ ap (λ b. cond (not b) (only ∷ []) []) (eqb_same only only refl) in
    record {
      first = subst (λ x. IsFirst old x key) same home.0;
      none = home.1;
      stays = λ c. out_none old key r ∙ ap (λ xs. let u : SharedView = record (left_each old xs key r) { more = old.more; room = old.room } in u) (sym all);
      comes = λ no. absurd (no (subst (λ x. Contains (only ∷ []) x) same (head_in only [])));
      others = λ o d. refl;
    }

pub not_only : (only set : ℕ) → only ≢ set → ¬ (Contains (only ∷ []) set)
not_only only set d c =
    let a = times_from_Contains set (only ∷ []) c in
    let n = times_other set only [] (λ e. d (sym e)) in
    omega arith

-- ---- the sets that are told

alone_some : (set : ℕ) → Alone set ≡ Nowhere → ⊥
alone_some set e = cc

several_some : (first : ℕ) → Several first ≡ Nowhere → ⊥
several_some first e = cc

module _ (m : Membership) where
  pub some_alone : (set : ℕ) → m ≡ Alone set → m ≢ Nowhere
  some_alone set is none = alone_some set (sym is ∙ none)

  pub some_several : (first : ℕ) → m ≡ Several first → m ≢ Nowhere
  some_several first is none = several_some first (sym is ∙ none)

  module _ (v : SharedView) (key : ℕ) (home : m ≢ Nowhere → IsHome v key m) where
    pub home_alone : (set : ℕ) → m ≡ Alone set → IsHome v key (Alone set)
    home_alone set is = subst (λ q. IsHome v key q) is (home (some_alone set is))

    pub home_several : (first : ℕ) → m ≡ Several first → IsHome v key (Several first)
    home_several first is = subst (λ q. IsHome v key q) is (home (some_several first is))

-- ---- without its first message

module _ {M : Type 0} (v : SharedView) (key : ℕ) (m : Membership) where
  pub left_home : (queue : List M) (o : Membership) → o ≡ left_if queue m → IsHome v key m → o ≢ Nowhere → IsHome v key o
  left_home [] o is home some = subst (λ q. IsHome v key q) (sym is) home
  left_home (x ∷ []) o is home some = subst (λ q. IsHome v key q) (sym is) home
  left_home (x ∷ y ∷ rest) o is home some = absurd (some is)

  pub left_emptied : (queue rest : List M) (x : M) → queue ≡ x ∷ rest → unreadied v key (left_if queue m) ≡ emptied v key m rest
  left_emptied queue rest x is = ap (λ q. unreadied v key (left_if q m)) is ∙ by rest
    where
      by : (rest : List M) → unreadied v key (left_if (x ∷ rest) m) ≡ emptied v key m rest
      by [] = refl
      by (y ∷ rest) = refl

-- ---- in none

pub out_nowhere : (old : SharedView) (key : ℕ) (r : Bool) → IsHome old key Nowhere → IsOut old key Nowhere r old
out_nowhere old key r home = record { lists = out_none old key r; none = home.1; apart = home.0; others = λ o d. refl }

module _ (old new : SharedView) (key set : ℕ) (r : Bool) (home : IsHome old key (Alone set)) (after : new ≡ left old set key r) where
  pub alone_lists : new ≡ record (left_each old (set ∷ []) key r) { more = new.more; room = new.room }
  alone_lists = subst (λ (u : SharedView). u ≡ record (left_each old (set ∷ []) key r) { more = u.more; room = u.room }) (sym after) refl

  pub alone_none : more_of new key ≡ []
  alone_none = ap (λ (u : SharedView). more_of u key) after ∙ home.1

  pub alone_others : OthersKeep old new key
  alone_others o d = ap (λ (u : SharedView). map.get u.more o) after

  pub out_alone : IsApart new.all key → IsOut old key (Alone set) r new
  out_alone apart = record { lists = alone_lists; none = alone_none; apart = apart; others = alone_others }
