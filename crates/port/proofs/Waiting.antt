-- The ports that nobody holds, and those that are noted, from the lists of their keys.
use Rattle.std.proofs.Common.{◌≡◌, ◌≢◌, ◌↔◌, inl, inr, ℕ, ◌<◌, eqb, IsTrue, Bool, false, cond, not, Option, Some, None, is_some, true, List, [], ◌∷◌, ◌++◌, length, slice_get, refl, ap, sym, subst, ◌∙◌, arith, Contains}
use Rattle.std.proofs.lemmas.List.{length-append}
use Rattle.std.proofs.Math.Seq.{get_or-append_seam}
use Rattle.std.specs.FinMap as map
use Rattle.std.specs.Ordering.{nat_cmp}
use Rattle.std.specs.Option.{option_map}
use Rattle.member_lists.specs.Lists.{ListsView, list_of, with_list, without}
use Rattle.member_lists.proofs.Times.{Contains_from_times}
use Rattle.member_lists.proofs.Listed.{list_same, list_other}
use Rattle.shared_lists.specs.Shared.{SharedView, more_of}
use Rattle.slab.specs.Slab.{Slab, get, with_value}
use Rattle.port_base.specs.declared.Holder.{Holder}
use Rattle.port_base.specs.declared.Holder.TheVariants.{Task, QueueOf, Nobody, Doomed}
use Rattle.port_base.specs.declared.Record.{Record}
use Rattle.port_base.specs.Ready.{StandsIn, IsMoved, out_of, at_end}
use Rattle.port.specs.Ports.{PortView, PortsView}
use Rattle.port.specs.Holding.{CanHold, IsHeldBy, NoneHeldBy}
use Rattle.port_base.specs.Records.{id_in, ids_at, lost_list, doomed_list, noted_list, waits_in, waiting_list, noting_list}
use Rattle.port.specs.Records.{ids_in, made_of, lost_with, doomed_with, IsIndexed, IsListed}
use Rattle.port.proofs.Keys.{same_some, some_or_none, equal_or_not, put_here, put_other, same_gets}
use Rattle.port.proofs.Records.{Keyed, port_of}
use Rattle.port.proofs.Sound.{no_true, AreSame, IsOpen, view_of, live_port, live_at, record_at}
use Rattle.port.proofs.Each.{without-none}
use Rattle.port.proofs.Membered.{wider}
use Rattle.port.proofs.Readied.{ids_hold, ids_held}
use Rattle.port.proofs.Turned.{ids-without, ids-pushed, ids-first, ids-same, ids-set, own, apart-vacant, its_id}

no_some : (l : ℕ) → None ≡ Some l → ⊥
no_some l e = cc

-- what stands last is there
pub holds_last : (xs front : List ℕ) (x : ℕ) → xs ≡ front ++ x ∷ [] → Contains xs x
holds_last xs front x is = subst (λ l. Contains l x) (sym is) (length front, (let n = length-append front (x ∷ []) in omega (arith, n)), get_or-append_seam front x [] x)

not_one : lost_list ≡ doomed_list → ⊥
not_one e = omega arith

-- ---- lists of keys

-- each list without an item that left the one where it stood
list_out : (w : ListsView) (key : ℕ) (o : Option ℕ) (l : ℕ) → StandsIn w key o → list_of (out_of w key o) l ≡ without key (list_of w l)
list_out w key None l st = sym (without-none key (list_of w l) (λ y more e. no_some l (st.only l (subst (λ n. Contains (list_of w l) n) e (Contains_from_times y (list_of w l) more)))))
list_out w key (Some m) l st = elim (equal_or_not l m) [
  | inl e ↦ ap (list_of (with_list w m (without key (list_of w m)))) e ∙ list_same w m (without key (list_of w m)) ∙ ap (λ n. without key (list_of w n)) (sym e)
  | inr d ↦ list_other w m (without key (list_of w m)) l d
      ∙ sym (without-none key (list_of w l) (λ y more e. d (sym (same_some m l (st.only l (subst (λ n. Contains (list_of w l) n) e (Contains_from_times y (list_of w l) more)))))))
]

module _ {M : Type 0} (at : ℕ → Option (Record M)) where
  -- ---- a port that joins where its holder tells

  module _ (w : ListsView) (key id : ℕ) (is : id_in (at key) ≡ id) where
    pub ids-joined : (l : ℕ) → ids_in at (at_end w key (Some l)) l ≡ ids_in at w l ++ id ∷ []
    ids-joined l = ap (ids_at at) (list_same w l (list_of w l ++ key ∷ [])) ∙ ids-pushed at (list_of w l) key ∙ ap (λ n. ids_at at (list_of w l) ++ n ∷ []) is

    lost-joined : (h : Holder) → ids_in at (at_end w key (waits_in h)) lost_list ≡ lost_with h id (ids_in at w lost_list)
    lost-joined (Task task) = refl
    lost-joined (QueueOf q) = refl
    lost-joined Nobody = ids-joined lost_list
    lost-joined Doomed = ap (ids_at at) (list_other w doomed_list (list_of w doomed_list ++ key ∷ []) lost_list not_one)

    doomed-joined : (h : Holder) → ids_in at (at_end w key (waits_in h)) doomed_list ≡ doomed_with h id (ids_in at w doomed_list)
    doomed-joined (Task task) = refl
    doomed-joined (QueueOf q) = refl
    doomed-joined Nobody = ap (ids_at at) (list_other w lost_list (list_of w lost_list ++ key ∷ []) doomed_list (λ e. not_one (sym e)))
    doomed-joined Doomed = ids-joined doomed_list

  module _ (home : Record M → Option ℕ) (w : ListsView) (so : IsListed home at w) where
    -- ---- a port that comes

    pub ids-came : (new : ℕ → Option (Record M)) (key : ℕ) → at key ≡ None → ((other : ℕ) → other ≢ key → new other ≡ at other) → (l : ℕ) → ids_in new w l ≡ ids_in at w l
    ids-came new key vacant others l = ids-same at new (list_of w l) (λ k more. ap id_in (others k (λ e.
        apart-vacant at home w so key vacant l (subst (λ n. Contains (list_of w l) n) e (Contains_from_times k (list_of w l) more)))))

    module _ (keys : Keyed) (made : ℕ) (x : IsIndexed at keys made) (id : ℕ) where
      -- one that is gone stands nowhere
      pub ids-gone : map.get keys id ≡ None → (l : ℕ) → without id (ids_in at w l) ≡ ids_in at w l
      ids-gone none l = without-none id (ids_in at w l) (λ y more e.
          let k = ids_held at (list_of w l) id (subst (λ n. Contains (ids_in at w l) n) e (Contains_from_times y (ids_in at w l) more)) in
          let was = so.held k.0 l k.1 in
          some_or_none k.0 _ (x.held k.0 was.0 was.1) (ap (map.get keys) (sym (ap id_in was.1) ∙ k.2) ∙ none))

      module _ (key : ℕ) (r : Record M) (found : map.get keys id ≡ Some key) (here : at key ≡ Some r) where
        out-own : (l : ℕ) → ids_at at (without key (list_of w l)) ≡ without id (ids_in at w l)
        out-own l = ids-without at key id (list_of w l) (λ k more. own at home keys made x w so id key found k l (Contains_from_times k (list_of w l) more))

        -- ---- a port that leaves

        pub ids-out : (l : ℕ) → ids_in at (out_of w key (home r)) l ≡ without id (ids_in at w l)
        ids-out l = ap (ids_at at) (list_out w key (home r) l (so.stands key r here)) ∙ out-own l

        pub ids-apart : (l : ℕ) → home r ≢ Some l → without id (ids_in at w l) ≡ ids_in at w l
        ids-apart l d = sym (out-own l) ∙ ap (ids_at at) (without-none key (list_of w l) (λ y more e.
            d ((so.stands key r here).only l (subst (λ n. Contains (list_of w l) n) e (Contains_from_times y (list_of w l) more)))))

        pub ids-went : (new : ℕ → Option (Record M)) → ((other : ℕ) → other ≢ key → new other ≡ at other) → (u : ListsView) → IsMoved w u key None → u ≡ out_of w key (home r) →
            (l : ℕ) → ids_in new u l ≡ without id (ids_in at w l)
        ids-went new others u moved is l =
            ids-same at new (list_of u l) (λ k more. ap id_in (others k (λ e. no_some l (moved.stands.only l (subst (λ n. Contains (list_of u l) n) e (Contains_from_times k (list_of u l) more))))))
            ∙ ap (λ z. ids_in at z l) is ∙ ids-out l

        -- ---- which port stands in a list

        pub listed-in : (l : ℕ) → home r ≡ Some l → Contains (ids_in at w l) id
        listed-in l e =
            let there = x.found id key found in
            subst (λ n. Contains (ids_in at w l) n) (ap id_in there.1 ∙ there.2) (ids_hold at (list_of w l) key ((so.stands key r here).there l e))

        pub in-listed : (l : ℕ) → Contains (ids_in at w l) id → home r ≡ Some l
        in-listed l c =
            let k = ids_held at (list_of w l) id c in
            let was = so.held k.0 l k.1 in
            let same : k.0 ≡ key = same_some k.0 key (sym (x.held k.0 was.0 was.1) ∙ ap (map.get keys) (sym (ap id_in was.1) ∙ k.2) ∙ found) in
            (so.stands key r here).only l (subst (λ n. Contains (list_of w l) n) same k.1)

pub insert-same : {X : Type 0} (m : map.FinMap nat_cmp X) (k : ℕ) (x : X) → map.get m k ≡ Some x → map.insert m k x ≡ m
insert-same m k x is = grind (arith, same_gets, equal_or_not, put_here, put_other)

-- ---- all three lists

module _ {M : Type 0} {s : Slab (Record M)} {keys : Keyed} {next : Option ℕ} {spare destroyed : List M} {slots : ℕ} {sets : SharedView} {waiting noting : ListsView} {v : PortsView M} (o : IsOpen s keys next spare destroyed slots sets waiting noting v) where
  pub lost_now : ids_in (get s) waiting lost_list ≡ v.lost
  lost_now = ap (λ (b : PortsView M). b.lost) o.view_is

  pub doomed_now : ids_in (get s) waiting doomed_list ≡ v.doomed
  doomed_now = ap (λ (b : PortsView M). b.doomed) o.view_is

  pub noted_now : ids_in (get s) noting noted_list ≡ v.noted
  noted_now = ap (λ (b : PortsView M). b.noted) o.view_is

  module _ (key : ℕ) (r a : Record M) (here : get s key ≡ Some r) (same : a.id ≡ r.id) where
    pub ids-stay : (w : ListsView) (l : ℕ) → ids_in (get (with_value s key a)) w l ≡ ids_in (get s) w l
    ids-stay w l = ids-same (get s) (get (with_value s key a)) (list_of w l) (λ k more. ids-set s key r a here same k)

    -- a port that changes and keeps its holder, noted or not as before
    pub stay-same : AreSame (ids_in (get (with_value s key a)) waiting lost_list) (ids_in (get (with_value s key a)) waiting doomed_list) (ids_in (get (with_value s key a)) noting noted_list) v.lost v.doomed v.noted
    stay-same = grind (arith, ids-stay, lost_now, doomed_now, noted_now)

    module _ (id : ℕ) (found : map.get keys id ≡ Some key) where
      -- a port with another holder
      pub held-same : (h : Holder) (then : ListsView) → then ≡ at_end (out_of waiting key (waiting_list r)) key (waits_in h) →
          AreSame (ids_in (get (with_value s key a)) then lost_list) (ids_in (get (with_value s key a)) then doomed_list) (ids_in (get (with_value s key a)) noting noted_list)
          (lost_with h id (without id v.lost)) (doomed_with h id (without id v.doomed)) v.noted
      held-same h then is = record {
        lost_is = ids-stay then lost_list ∙ ap (λ w. ids_in (get s) w lost_list) is ∙ lost-joined (get s) (out_of waiting key (waiting_list r)) key id (its_id o id key found) h
            ∙ ap (lost_with h id) (ids-out (get s) waiting_list waiting o.kept.awaited keys (made_of next) o.kept.sound.indexed id key r found here lost_list ∙ ap (without id) lost_now);
        doomed_is = ids-stay then doomed_list ∙ ap (λ w. ids_in (get s) w doomed_list) is ∙ doomed-joined (get s) (out_of waiting key (waiting_list r)) key id (its_id o id key found) h
            ∙ ap (doomed_with h id) (ids-out (get s) waiting_list waiting o.kept.awaited keys (made_of next) o.kept.sound.indexed id key r found here doomed_list ∙ ap (without id) doomed_now);
        noted_is = ids-stay noting noted_list ∙ noted_now;
      }

  -- ---- a port that comes, is not there, or goes

  pub came-same : (t : Slab (Record M)) (key : ℕ) → get s key ≡ None → ((other : ℕ) → other ≢ key → get t other ≡ get s other) →
      (then later : ListsView) (n m : ℕ) → then ≡ record waiting { items = n } → later ≡ record noting { items = m } →
      AreSame (ids_in (get t) then lost_list) (ids_in (get t) then doomed_list) (ids_in (get t) later noted_list) (ids_in (get s) waiting lost_list) (ids_in (get s) waiting doomed_list) (ids_in (get s) noting noted_list)
  came-same t key vacant others then later n m is also = record {
    lost_is = ap (λ w. ids_in (get t) w lost_list) is ∙ ids-came (get s) waiting_list waiting o.kept.awaited (get t) key vacant others lost_list;
    doomed_is = ap (λ w. ids_in (get t) w doomed_list) is ∙ ids-came (get s) waiting_list waiting o.kept.awaited (get t) key vacant others doomed_list;
    noted_is = ap (λ w. ids_in (get t) w noted_list) also ∙ ids-came (get s) noting_list noting o.kept.are_noted (get t) key vacant others noted_list;
  }

  pub gone-same : (id : ℕ) → map.get keys id ≡ None → AreSame v.lost v.doomed v.noted (without id v.lost) (without id v.doomed) (without id v.noted)
  gone-same id none = record {
    lost_is = sym lost_now ∙ sym (ids-gone (get s) waiting_list waiting o.kept.awaited keys (made_of next) o.kept.sound.indexed id none lost_list) ∙ ap (without id) lost_now;
    doomed_is = sym doomed_now ∙ sym (ids-gone (get s) waiting_list waiting o.kept.awaited keys (made_of next) o.kept.sound.indexed id none doomed_list) ∙ ap (without id) doomed_now;
    noted_is = sym noted_now ∙ sym (ids-gone (get s) noting_list noting o.kept.are_noted keys (made_of next) o.kept.sound.indexed id none noted_list) ∙ ap (without id) noted_now;
  }

  pub went-same : (id key : ℕ) (r : Record M) → map.get keys id ≡ Some key → get s key ≡ Some r → (t : Slab (Record M)) → ((other : ℕ) → other ≢ key → get t other ≡ get s other) →
      (then later : ListsView) → IsMoved waiting then key None → then ≡ out_of waiting key (waiting_list r) → IsMoved noting later key None → later ≡ out_of noting key (noting_list r) →
      AreSame (ids_in (get t) then lost_list) (ids_in (get t) then doomed_list) (ids_in (get t) later noted_list) (without id v.lost) (without id v.doomed) (without id v.noted)
  went-same id key r found here t others then later moved is moved2 is2 = record {
    lost_is = ids-went (get s) waiting_list waiting o.kept.awaited keys (made_of next) o.kept.sound.indexed id key r found here (get t) others then moved is lost_list ∙ ap (without id) lost_now;
    doomed_is = ids-went (get s) waiting_list waiting o.kept.awaited keys (made_of next) o.kept.sound.indexed id key r found here (get t) others then moved is doomed_list ∙ ap (without id) doomed_now;
    noted_is = ids-went (get s) noting_list noting o.kept.are_noted keys (made_of next) o.kept.sound.indexed id key r found here (get t) others later moved2 is2 noted_list ∙ ap (without id) noted_now;
  }

  -- ---- the noted ports

  pub noted_first : slice_get v.noted 0 ≡ option_map (λ k. id_in (get s k)) (slice_get (list_of noting noted_list) 0)
  noted_first = ap (λ l. slice_get l 0) (sym noted_now) ∙ ids-first (get s) (list_of noting noted_list)

  pub noted_live : (port : ℕ) → Contains v.noted port → map.contains_key v.ports port ≡ true
  noted_live port c =
      let k = ids_held (get s) (list_of noting noted_list) port (subst (λ l. Contains l port) (sym noted_now) c) in
      let was = o.kept.are_noted.held k.0 noted_list k.1 in
      let found : map.get keys port ≡ Some k.0 = subst (λ n. map.get keys n ≡ Some k.0) (sym (ap id_in was.1) ∙ k.2) (o.kept.sound.indexed.held k.0 was.0 was.1) in
      ap is_some (live_port o port k.0 was.0 found was.1)

  -- ---- which ports nobody holds

  module _ (holder : Holder) (list : ℕ) (back : waits_in holder ≡ Some list) (tells : (h : Holder) → waits_in h ≡ Some list → h ≡ holder) where
    listed-held : (port : ℕ) → Contains (ids_in (get s) waiting list) port → IsHeldBy v port holder
    listed-held port c =
        let k = ids_held (get s) (list_of waiting list) port c in
        let was = o.kept.awaited.held k.0 list k.1 in
        let id : was.0.id ≡ port = sym (ap id_in was.1) ∙ k.2 in
        let found : map.get keys port ≡ Some k.0 = subst (λ n. map.get keys n ≡ Some k.0) id (o.kept.sound.indexed.held k.0 was.0 was.1) in
        record {
          view = port_of was.0 (more_of sets k.0);
          there = live_port o port k.0 was.0 found was.1;
          holder_is = tells was.0.kept.attributes.holder ((o.kept.awaited.stands k.0 was.0 was.1).only list k.1);
        }

    held-listed : (port : ℕ) → IsHeldBy v port holder → Contains (ids_in (get s) waiting list) port
    held-listed port h =
        let key = live_at o port (ap is_some h.there) in
        let r = record_at o port key.0 key.1 in
        let same : h.view ≡ port_of r.0 (more_of sets key.0) = same_some h.view (port_of r.0 (more_of sets key.0)) (sym h.there ∙ live_port o port key.0 r.0 key.1 r.1) in
        let is : r.0.kept.attributes.holder ≡ holder = sym (ap (λ (q : PortView M). q.attributes.holder) same) ∙ h.holder_is in
        listed-in (get s) waiting_list waiting o.kept.awaited keys (made_of next) o.kept.sound.indexed port key.0 r.0 key.1 r.1 list (ap waits_in is ∙ back)

    module _ (told : List ℕ) (told_is : ids_in (get s) waiting list ≡ told) where
      pub held_told : (port : ℕ) → (Contains told port → IsHeldBy v port holder) × (IsHeldBy v port holder → Contains told port)
      held_told port = (
        (λ c. listed-held port (subst (λ l. Contains l port) (sym told_is) c)),
        (λ h. subst (λ l. Contains l port) told_is (held-listed port h)),
      )

      pub first_told : slice_get told 0 ≡ option_map (λ k. id_in (get s k)) (slice_get (list_of waiting list) 0)
      first_told = ap (λ l. slice_get l 0) (sym told_is) ∙ ids-first (get s) (list_of waiting list)

      none_in : (xs : List ℕ) (port : ℕ) → slice_get xs 0 ≡ None → Contains xs port → ⊥
      none_in [] port e c = let less : c.0 < 0 = c.1 in omega arith
      none_in (x ∷ xs) port e c = cc

      pub last_told : (front : List ℕ) (key : ℕ) (r : Record M) → list_of waiting list ≡ front ++ key ∷ [] → get s key ≡ Some r → told ≡ ids_at (get s) front ++ r.id ∷ []
      last_told front key r is here = grind (arith, ids-pushed)

      pub empty_told : list_of waiting list ≡ [] → NoneHeldBy v holder
      empty_told is port p there holds = grind (arith, (held_told port).1 (record { view = p; there = there; holder_is = holds }))

      pub none_told : slice_get told 0 ≡ None → NoneHeldBy v holder
      none_told none port p there is = none_in told port none ((held_told port).1 (record { view = p; there = there; holder_is = is }))

-- ---- only room was made

pub view-then : {M : Type 0} (s t : Slab (Record M)) (keys keys2 : Keyed) (next : Option ℕ) (spare destroyed : List M) (sets sets2 : SharedView) (a b room : ℕ) → sets2 ≡ wider sets a b room → (waiting waiting2 : ListsView) (c : ℕ) → waiting2 ≡ record waiting { items = c } → (noting noting2 : ListsView) (d : ℕ) → noting2 ≡ record noting { items = d } →
    t ≡ record s { capacity = t.capacity } → keys2 ≡ keys → view_of t keys2 next spare destroyed sets2 waiting2 noting2 ≡ view_of s keys next spare destroyed sets waiting noting
view-then {M} s t keys keys2 next spare destroyed sets sets2 a b room ea waiting waiting2 c ec noting noting2 d ed e ek =
    ap (λ (u : Slab (Record M)). view_of u keys2 next spare destroyed sets2 waiting2 noting2) e ∙ ap (λ n. view_of s n next spare destroyed sets2 waiting2 noting2) ek
    ∙ ap (λ u. view_of s keys next spare destroyed u waiting2 noting2) ea ∙ ap (λ w. view_of s keys next spare destroyed sets w noting2) ec ∙ ap (view_of s keys next spare destroyed sets waiting) ed

some_told : (n : ℕ) → IsTrue (not (eqb n 0)) ↔ (0 < n)
some_told n = grind (arith, no_true, not)

-- a queue has messages just where it is not empty
pub some_queued : {A : Type 0} (xs ys : List A) → xs ≡ ys → (none : Bool) → none ≡ eqb (length xs) 0 → IsTrue (not none) ↔ (0 < length ys)
some_queued xs ys same none is = subst (λ b. IsTrue (not b) ↔ (0 < length ys)) (sym (is ∙ ap (λ zs. eqb (length zs) 0) same)) (some_told (length ys))

-- a port that nobody holds waits in one of two lists, and a noted one stands in the first
pub waits_in_two : (h : Holder) (l : ℕ) → waits_in h ≡ Some l → l < 2
waits_in_two (Task task) l e = absurd (no_some l e)
waits_in_two (QueueOf q) l e = absurd (no_some l e)
waits_in_two Nobody l e = let same = same_some lost_list l e in omega arith
waits_in_two Doomed l e = let same = same_some doomed_list l e in omega arith

pub noted_in_two : (b : Bool) (l : ℕ) → cond b (Some noted_list) None ≡ Some l → l < 2
noted_in_two true l e = let same = same_some noted_list l e in omega arith
noted_in_two false l e = absurd (no_some l e)

pub waits_lost : (h : Holder) → waits_in h ≡ Some lost_list → h ≡ Nobody
waits_lost (Task task) e = absurd (no_some lost_list e)
waits_lost (QueueOf q) e = absurd (no_some lost_list e)
waits_lost Nobody e = refl
waits_lost Doomed e = absurd (not_one (sym (same_some doomed_list lost_list e)))

pub waits_doomed : (h : Holder) → waits_in h ≡ Some doomed_list → h ≡ Doomed
waits_doomed (Task task) e = absurd (no_some doomed_list e)
waits_doomed (QueueOf q) e = absurd (no_some doomed_list e)
waits_doomed Nobody e = absurd (not_one (same_some lost_list doomed_list e))
waits_doomed Doomed e = refl

-- ---- what a holder is not

pub can_hold : (h n : Holder) → (CanHold n → ⊥) → CanHold h → h ≢ n
can_hold h n cannot can e = cannot (subst CanHold e can)

pub lost_held : (h : Holder) (port : ℕ) (xs : List ℕ) → CanHold h → lost_with h port xs ≡ xs
lost_held (Task task) port xs can = refl
lost_held (QueueOf q) port xs can = refl
lost_held Nobody port xs can = absurd can
lost_held Doomed port xs can = refl

pub doomed_held : (h : Holder) (port : ℕ) (xs : List ℕ) → CanHold h → doomed_with h port xs ≡ xs
doomed_held (Task task) port xs can = refl
doomed_held (QueueOf q) port xs can = refl
doomed_held Nobody port xs can = refl
doomed_held Doomed port xs can = absurd can

pub not_doomed : Nobody ≡ Doomed → ⊥
not_doomed e = cc

-- ---- whether a port is noted

pub none_told_by : (o : Option ℕ) → is_some o ≡ false → o ≡ None
none_told_by None e = refl
none_told_by (Some x) e = absurd (no_true (sym e))

pub some_told_by : (noted : Bool) → is_some (cond noted (Some noted_list) None) ≡ true → cond noted (Some noted_list) None ≡ Some noted_list
some_told_by true e = refl
some_told_by false e = absurd (no_true e)
