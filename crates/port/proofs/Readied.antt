-- Which ports stand in lists once one changed, came or went, and which are in a set.
use Rattle.std.proofs.Common.{◌≡◌, inl, inr, ℕ, ◌<◌, ◌≤◌, Option, Some, None, Result, Ok, Err, IfOk, OnErr, List, [], ◌∷◌, length, get_or, slice_get, refl, ap, sym, subst, ◌∙◌, arith, Contains}
use Rattle.std.specs.FinMap as map
use Rattle.std.proofs.lemmas.Option.{slice_get_within, get_or_from_slice_get}
use Rattle.std.proofs.lemmas.List.{length-map, get_or-map}
use Rattle.std.proofs.lemmas.List.Elements.{Contains-get_or}
use Rattle.member_lists.specs.Lists.{ListsView, list_of}
use Rattle.member_lists.proofs.Listed.{apart_if_none}
use Rattle.slab.specs.Slab.{Slab, get, with_value}
use Rattle.port_base.specs.declared.Record.{Record}
use Rattle.shared_lists.specs.Shared.{SharedView, more_of, IsReady}
use Rattle.port_base.specs.Turns.{turns_of, has_some}
use Rattle.port.specs.Ports.{PortView, PortsView, sets_in, IsReadyIn, NoneReadyIn, IsIn, NoneIn}
use Rattle.port_base.specs.Ready.{StandsIn, IsMoved}
use Rattle.port_base.proofs.Moved.{moved_none}
use Rattle.port_base.specs.Records.{id_in, ids_at, waiting_list, noting_list}
use Rattle.port.specs.Records.{IsListed, IsSound, IsKept}
use Rattle.port.proofs.Keys.{same_some, some_or_none, equal_or_not}
use Rattle.port.proofs.Records.{Keyed, port_of, Turns}
use Rattle.port.proofs.Sound.{IsOpen, turns-set, live_port, port_there}
use Rattle.port.proofs.Membered.{wider, membered-wider, none_more}

no_some : (l : ℕ) → None ≡ Some l → ⊥
no_some l e = cc

pub if_ok : {X E : Type 0} (P Q : X → Type 0) (r : Result X E) → ((x : X) → P x → Q x) → IfOk r P → IfOk r Q
if_ok P Q (Ok x) f h = f x h
if_ok P Q (Err e) f h = tt

pub on_err : {X E : Type 0} (r : Result X E) (P : Type 0) → P → OnErr r P
on_err (Ok x) P p = tt
on_err (Err e) P p = p

nothing_held : (key : ℕ) (l : List ℕ) → slice_get l 0 ≡ None → Contains l key → ⊥
nothing_held key [] e c = let less : c.0 < 0 = c.1 in omega arith
nothing_held key (x ∷ l) e c = cc

pub held_first : (xs : List ℕ) (key : ℕ) → slice_get xs 0 ≡ Some key → Contains xs key
held_first xs key e = (0, slice_get_within xs 0 key e, get_or_from_slice_get xs 0 key key e)

module _ {M : Type 0} where
  module _ (home : Record M → Option ℕ) (at new : ℕ → Option (Record M)) (lists : ListsView) (so : IsListed home at lists) (key : ℕ) where
    pub listed-changed : (r a : Record M) (then : ListsView) → at key ≡ Some r → Turns at new key (Some a) → IsMoved lists then key (home a) → IsListed home new then
    listed-changed r a then here turns moved = record {
      stands = λ k b h. elim (equal_or_not k key) [
        | inl e ↦ (let same : a ≡ b = same_some a b (sym turns.changed ∙ ap new (sym e) ∙ h) in rw (e, ← same) moved.stands)
        | inr d ↦ (let was = so.stands k b (sym (turns.others k d) ∙ h) in
            record { only = λ l c. was.only l (moved.was k l d c); there = λ l e. moved.stays k l d (was.there l e) })
      ];
      held = λ k l c. elim (equal_or_not k key) [
        | inl e ↦ (a, ap new e ∙ turns.changed)
        | inr d ↦ (let was = so.held k l (moved.was k l d c) in (was.0, turns.others k d ∙ was.1))
      ];
      room = λ k b h. elim (equal_or_not k key) [
        | inl e ↦ (let fits = so.room key r here in let same = moved.items in omega arith)
        | inr d ↦ (let fits = so.room k b (sym (turns.others k d) ∙ h) in let same = moved.items in omega arith)
      ];
    }

    pub listed-came : (a : Record M) (items : ℕ) → at key ≡ None → Turns at new key (Some a) → home a ≡ None → key < items → lists.items ≤ items → IsListed home new (record lists { items = items })
    listed-came a items vacant turns apart fits more = record {
      stands = λ k b h. elim (equal_or_not k key) [
        | inl e ↦ (
            let same : a ≡ b = same_some a b (sym turns.changed ∙ ap new (sym e) ∙ h) in
            let none : home b ≡ None = ap (λ (c : Record M). home c) (sym same) ∙ apart in
            record {
              only = λ l c. absurd (let was = so.held k l c in some_or_none was.0 _ was.1 (ap at e ∙ vacant));
              there = λ l s. absurd (no_some l (sym none ∙ s));
            })
        | inr d ↦ (let was = so.stands k b (sym (turns.others k d) ∙ h) in record { only = was.only; there = was.there })
      ];
      held = λ k l c. elim (equal_or_not k key) [
        | inl e ↦ (a, ap new e ∙ turns.changed)
        | inr d ↦ (let was = so.held k l c in (was.0, turns.others k d ∙ was.1))
      ];
      room = λ k b h. elim (equal_or_not k key) [
        | inl e ↦ omega arith
        | inr d ↦ (let was = so.room k b (sym (turns.others k d) ∙ h) in omega arith)
      ];
    }

    pub listed-went : (then : ListsView) → Turns at new key None → IsMoved lists then key None → IsListed home new then
    listed-went then turns moved = record {
      stands = λ k b h. elim (equal_or_not k key) [
        | inl e ↦ absurd (some_or_none b _ h (ap new e ∙ turns.changed))
        | inr d ↦ (let was = so.stands k b (sym (turns.others k d) ∙ h) in
            record { only = λ l c. was.only l (moved.was k l d c); there = λ l e. moved.stays k l d (was.there l e) })
      ];
      held = λ k l c. elim (equal_or_not k key) [
        | inl e ↦ absurd (no_some l (moved.stands.only l (rw e at c)))
        | inr d ↦ (let was = so.held k l (moved.was k l d c) in (was.0, turns.others k d ∙ was.1))
      ];
      room = λ k b h. elim (equal_or_not k key) [
        | inl e ↦ absurd (some_or_none b _ h (ap new e ∙ turns.changed))
        | inr d ↦ (let fits = so.room k b (sym (turns.others k d) ∙ h) in let same = moved.items in omega arith)
      ];
    }

    -- one that belongs where it did stays
    pub listed-kept : (r a : Record M) → at key ≡ Some r → Turns at new key (Some a) → home a ≡ home r → IsListed home new lists
    listed-kept r a here turns same = listed-changed r a lists here turns (moved_none lists key (home a) (subst (λ o. StandsIn lists key o) (sym same) (so.stands key r here)))

  -- only room was made
  pub listed-same : (home : Record M → Option ℕ) (at new : ℕ → Option (Record M)) (lists : ListsView) (items : ℕ) → IsListed home at lists → ((k : ℕ) → new k ≡ at k) → lists.items ≤ items → IsListed home new (record lists { items = items })
  listed-same home at new lists items so same more = record {
    stands = λ k b h. (let was = so.stands k b (sym (same k) ∙ h) in record { only = was.only; there = was.there });
    held = λ k l c. (let was = so.held k l c in (was.0, same k ∙ was.1));
    room = λ k b h. (let was = so.room k b (sym (same k) ∙ h) in omega arith);
  }

  pub listed-none : (home : Record M → Option ℕ) (at : ℕ → Option (Record M)) (lists : ListsView) → ((k : ℕ) → at k ≡ None) → lists.lists ≡ map.empty → IsListed home at lists
  listed-none home at lists none empty = record {
    stands = λ k b h. absurd (some_or_none b _ h (none k));
    held = λ k l c. absurd (apart_if_none lists k empty l c);
    room = λ k b h. absurd (some_or_none b _ h (none k));
  }

  pub listed-set : (home : Record M → Option ℕ) (s : Slab (Record M)) (lists then : ListsView) (key : ℕ) (r a : Record M) → IsListed home (get s) lists → get s key ≡ Some r → IsMoved lists then key (home a) → IsListed home (get (with_value s key a)) then
  listed-set home s lists then key r a so here moved = listed-changed home (get s) (get (with_value s key a)) lists so key r a then here (turns-set s key r a here) moved

  -- a port that belongs where it did
  pub listed-stays : (home : Record M → Option ℕ) (s : Slab (Record M)) (lists : ListsView) (key : ℕ) (r a : Record M) → IsListed home (get s) lists → get s key ≡ Some r → home a ≡ home r → IsListed home (get (with_value s key a)) lists
  listed-stays home s lists key r a so here same = listed-kept home (get s) (get (with_value s key a)) lists so key r a here (turns-set s key r a here) same

  -- ---- the identities under keys

  pub ids_hold : (at : ℕ → Option (Record M)) (keys : List ℕ) (key : ℕ) → Contains keys key → Contains (ids_at at keys) (id_in (at key))
  ids_hold at keys key c = grind (arith, length-map, get_or-map)

  pub ids_held : (at : ℕ → Option (Record M)) (keys : List ℕ) (id : ℕ) → Contains (ids_at at keys) id → (key : ℕ) × Contains keys key × (id_in (at key) ≡ id)
  ids_held at keys id c =
      let long = length-map keys (λ k. id_in (at k)) in
      let less = c.1 in
      let inside : c.0 < length keys = omega arith in
      (get_or keys c.0 0, Contains-get_or keys c.0 0 inside, sym (get_or-map (λ k. id_in (at k)) keys c.0 0 id inside) ∙ c.2)

  -- ---- the first one

  some_if : (sets : SharedView) (key set : ℕ) (ms : List M) → IsReady sets key (has_some ms) → Contains (list_of sets.ready set) key → 0 < length ms
  some_if sets key set [] apart c = absurd (apart set c)
  some_if sets key set (m ∷ ms) all c = omega arith

  quiet_if : (sets : SharedView) (key set : ℕ) (ms : List M) → IsReady sets key (has_some ms) → Contains (list_of sets.all set) key → slice_get (list_of sets.ready set) 0 ≡ None → length ms ≡ 0
  quiet_if sets key set [] apart c e = refl
  quiet_if sets key set (m ∷ ms) all c e = absurd (nothing_held key (list_of sets.ready set) e (all set c))

  module _ {s : Slab (Record M)} {keys : Keyed} {next : Option ℕ} {spare destroyed : List M} {slots : ℕ} {sets : SharedView} {waiting noting : ListsView} {v : PortsView M} (o : IsOpen s keys next spare destroyed slots sets waiting noting v) (set : ℕ) where
    pub ready_first : (key : ℕ) (r : Record M) → slice_get (list_of sets.ready set) 0 ≡ Some key → get s key ≡ Some r → IsReadyIn v set r.id
    ready_first key r e here =
        let c : Contains (list_of sets.ready set) key = held_first (list_of sets.ready set) key e in
        record {
          view = port_of r (more_of sets key);
          there = live_port o r.id key r (o.kept.sound.indexed.held key r here) here;
          member = (o.kept.membered.stands key set r here).0 (o.kept.membered.readied key set c);
          some = some_if sets key set r.queue (o.kept.membered.ready key r here) c;
        }

    -- a member, by its key
    pub member_in : (key : ℕ) (r : Record M) → Contains (list_of sets.all set) key → get s key ≡ Some r → IsIn v set r.id
    member_in key r inside here =
        let found : map.get keys r.id ≡ Some key = o.kept.sound.indexed.held key r here in
        record {
          given = subst (λ n. r.id < n) (ap (λ (b : PortsView M). b.made) o.view_is) (o.kept.sound.indexed.given r.id key found);
          view = port_of r (more_of sets key);
          there = live_port o r.id key r found here;
          member = (o.kept.membered.stands key set r here).0 inside;
        }

    pub member_first : (key : ℕ) (r : Record M) → slice_get (list_of sets.all set) 0 ≡ Some key → get s key ≡ Some r → IsIn v set r.id
    member_first key r e here = member_in key r (held_first (list_of sets.all set) key e) here

    pub first_member : (key : ℕ) → slice_get (list_of sets.all set) 0 ≡ Some key → (r : Record M) × (get s key ≡ Some r)
    first_member key e = o.kept.membered.held key set (held_first (list_of sets.all set) key e)

    pub first_ready : (key : ℕ) → slice_get (list_of sets.ready set) 0 ≡ Some key → (r : Record M) × (get s key ≡ Some r)
    first_ready key e = o.kept.membered.held key set (o.kept.membered.readied key set (held_first (list_of sets.ready set) key e))

    -- the key of a member
    member_key : (id : ℕ) (p : PortView M) → map.get v.ports id ≡ Some p → Contains (sets_in p) set → (key : ℕ) × (r : Record M) × (get s key ≡ Some r) × Contains (list_of sets.all set) key × (id_in (get s key) ≡ id) × (p ≡ port_of r (more_of sets key))
    member_key id p h member =
        let at = port_there o id p h in
        (at.0, at.2, at.3, (o.kept.membered.stands at.0 set at.2 at.3).1 (subst (λ q. Contains (sets_in q) set) at.4 member), (let there = o.kept.sound.indexed.found id at.0 at.1 in ap id_in there.1 ∙ there.2), at.4)

    pub none_ready : slice_get (list_of sets.ready set) 0 ≡ None → NoneReadyIn v set
    none_ready e = record {
      empty = λ id p h member. (let at = member_key id p h member in ap (λ (q : PortView M). length q.queue) at.5 ∙ quiet_if sets at.0 set at.1.queue (o.kept.membered.ready at.0 at.1 at.2) at.3 e);
    }

    none_apart : slice_get (list_of sets.all set) 0 ≡ None → (id : ℕ) (p : PortView M) → map.get v.ports id ≡ Some p → Contains (sets_in p) set → ⊥
    none_apart e id p h member = let at = member_key id p h member in nothing_held at.0 (list_of sets.all set) e at.3

    -- ---- all members

    pub members_only : (port : ℕ) → Contains (ids_at (get s) (list_of sets.all set)) port → IsIn v set port
    members_only port inside =
        let key = ids_held (get s) (list_of sets.all set) port inside in
        let r = o.kept.membered.held key.0 set key.1 in
        subst (IsIn v set) (sym (ap id_in r.1) ∙ key.2) (member_in key.0 r.0 key.1 r.1)

    pub members_all : (id : ℕ) (p : PortView M) → map.get v.ports id ≡ Some p → Contains (sets_in p) set → Contains (ids_at (get s) (list_of sets.all set)) id
    members_all id p h member =
        let at = member_key id p h member in
        subst (λ n. Contains (ids_at (get s) (list_of sets.all set)) n) at.4 (ids_hold (get s) (list_of sets.all set) at.0 at.3)

    -- what is ready in a set is in it
    none_turns : slice_get (list_of sets.all set) 0 ≡ None → (l : List ℕ) → list_of sets.ready set ≡ l → l ≡ []
    none_turns e [] is = refl
    none_turns e (x ∷ l) is =
        let inside : Contains (list_of sets.ready set) x = subst (λ m. Contains m x) (sym is) (0, omega arith, refl) in
        absurd (nothing_held x (list_of sets.all set) e (o.kept.membered.readied x set inside))

    pub none_in : slice_get (list_of sets.all set) 0 ≡ None → turns_of v.ready set ≡ ids_at (get s) (list_of sets.ready set) → NoneIn v set
    none_in e turns = record { apart = none_apart e; turns = turns ∙ ap (ids_at (get s)) (none_turns e (list_of sets.ready set) refl) }

  -- a port without a first set is in none
  pub none_further : {s : Slab (Record M)} {keys : Keyed} {next : Option ℕ} {spare destroyed : List M} {slots : ℕ} {sets : SharedView} {waiting noting : ListsView} {v : PortsView M} → IsOpen s keys next spare destroyed slots sets waiting noting v →
      (id : ℕ) (p : PortView M) → map.get v.ports id ≡ Some p → p.attributes.set ≡ None → p.more ≡ []
  none_further {sets = sets} o id p h e =
      let at = port_there o id p h in
      ap (λ (q : PortView M). q.more) at.4 ∙ none_more sets at.0 at.2.kept.membership (o.kept.membered.home at.0 at.2 at.3) (sym (o.kept.membered.first at.0 at.2 at.3) ∙ sym (ap (λ (q : PortView M). q.attributes.set) at.4) ∙ e)

  -- ---- the same ports, with more places

  pub listed-capacity : (home : Record M → Option ℕ) (s t : Slab (Record M)) (lists : ListsView) (items : ℕ) → t ≡ record s { capacity = t.capacity } → lists.items ≤ items → IsListed home (get s) lists → IsListed home (get t) (record lists { items = items })
  listed-capacity home s t lists items e more so = listed-same home (get s) (get t) lists items so (λ k. ap (λ (u : Slab (Record M)). get u k) e) more

  pub sound-capacity : (s t : Slab (Record M)) (keys : Keyed) (next : Option ℕ) (spare destroyed : List M) (slots : ℕ) → t ≡ record s { capacity = t.capacity } → IsSound s keys next spare destroyed slots → IsSound t keys next spare destroyed slots
  sound-capacity s t keys next spare destroyed slots e so = grind arith

  -- only room was made, or some of it was refused, which left all as it was
  pub kept-then : (s t : Slab (Record M)) (keys keys2 : Keyed) (next : Option ℕ) (spare destroyed : List M) (slots : ℕ) (sets sets2 : SharedView) (waiting waiting2 noted noted2 : ListsView) (a b room c d : ℕ) → t ≡ record s { capacity = t.capacity } → keys2 ≡ keys →
      sets2 ≡ wider sets a b room → waiting2 ≡ record waiting { items = c } → noted2 ≡ record noted { items = d } →
      sets.all.items ≤ a → waiting.items ≤ c → noted.items ≤ d → IsKept s keys next spare destroyed slots sets waiting noted → IsKept t keys2 next spare destroyed slots sets2 waiting2 noted2
  kept-then s t keys keys2 next spare destroyed slots sets sets2 waiting waiting2 noted noted2 a b room c d e ek ea ec ed ma mc md k =
      rw (ek, ea, ec, ed) (record {
        sound = sound-capacity s t keys next spare destroyed slots e k.sound;
        membered = membered-wider (get s) (get t) sets a b room (λ x. ap (λ (u : Slab (Record M)). get u x) e) ma k.membered;
        awaited = listed-capacity waiting_list s t waiting c e mc k.awaited;
        are_noted = listed-capacity noting_list s t noted d e md k.are_noted;
      })
