-- Ports once one of them is in other sets, and once a turn was passed.
use Rattle.std.proofs.Common.{◌≡◌, ◌↔◌, inl, inr, ℕ, Bool, true, false, IsTrue, Option, Some, None, List, [], ◌∷◌, ◌++◌, length, slice_get, refl, ap, sym, subst, ◌∙◌, Contains}
use Rattle.std.specs.Option.{option_to_list, option_map}
use Rattle.std.specs.FinMap as map
use Rattle.slab.specs.Slab.{Slab, get, with_value}
use Rattle.member_lists.specs.Lists.{ListsView, list_of, without}
use Rattle.member_lists.proofs.Listed.{list_other}
use Rattle.member_lists.proofs.Times.{equal_or_not}
use Rattle.shared_lists.specs.Shared.{SharedView, more_of, IsReady, joined as joined_in, parted as parted_in, entered, with_further}
use Rattle.shared_lists.proofs.Standing.{joined_from, joined_old, joined_new, parted_from, parted_old}
use Rattle.port_base.specs.declared.Membership.{Membership}
use Rattle.port_base.specs.declared.Membership.TheVariants.{Nowhere, Alone, Several}
use Rattle.port_base.specs.declared.Record.{Record}
use Rattle.port_base.specs.Attributes.{restarted as restarted_counts}
use Rattle.port_base.specs.Memberships.{IsHome, IsOut, IsParted, IsSettled, first_of, membership_in, sets_of}
use Rattle.port_base.specs.Records.{id_in}
use Rattle.port_base.specs.Turns.{has_some, ready_if, passed, turns_of}
use Rattle.port.specs.Ports.{PortView, PortsView, sets_in, with_sets, restarted, ready_in, with_port, IsIn}
use Rattle.port.specs.Records.{sets_at, IsKept}
use Rattle.port.proofs.Changed.{Change, change, kept-changed, view-changed}
use Rattle.port.proofs.Each.{nothing_in, head_in, tail_in, in_cases, only_in}
use Rattle.port.proofs.Keys.{same_some}
use Rattle.port.proofs.Membered.{Moves, none_more, further_is, sets_are, membership_is, membered-turned, moves-out, moves-settled, moves-entered, moves-further, moves-parted}
use Rattle.port.proofs.Records.{Keyed, port_of}
use Rattle.port.proofs.Sound.{IsOpen, view_of, is_port}
use Rattle.port.proofs.Readied.{held_first, member_in}
use Rattle.port.proofs.Turned.{turns-moved, first_turn}

-- ---- a port with other sets

-- the record of the port in these sets
abbrev pub placed_as : {M : Type 0} → Record M → Membership → Record M
placed_as r n = record r { kept = record r.kept { attributes = record r.kept.attributes { set = first_of n }; membership = n } }

split : {M : Type 0} (p : PortView M) (set : Option ℕ) (more : List ℕ) → (set ≡ None → more ≡ []) → ◌≡◌ {A = PortView M} (record p { attributes = record p.attributes { set = set }; more = more }) (with_sets p (option_to_list set ++ more))
split {M} p None more none = ap (λ ys. let q : PortView M = record p { attributes = record p.attributes { set = None }; more = ys } in q) (none refl) ∙ ap (with_sets p) (sym (none refl))
split {M} p (Some set) more none = refl

module _ {M : Type 0} {s : Slab (Record M)} {keys : Keyed} {next : Option ℕ} {spare destroyed : List M} {slots : ℕ} {sets : SharedView} {waiting noting : ListsView} {v : PortsView M} (o : IsOpen s keys next spare destroyed slots sets waiting noting v)
    (id key : ℕ) (r : Record M) (found : map.get keys id ≡ Some key) (here : get s key ≡ Some r) where
  spare_is : length spare ≡ v.spare
  spare_is = ap (λ (b : PortsView M). b.spare) o.view_is

  destroyed_is : destroyed ≡ v.destroyed
  destroyed_is = ap (λ (b : PortsView M). b.destroyed) o.view_is

  old : (l : ℕ) → Contains (list_of sets.all l) key ↔ Contains (sets_at sets key r) l
  old l = o.kept.membered.stands key l r here

  old_readied : (l : ℕ) → Contains (list_of sets.ready l) key → Contains (list_of sets.all l) key
  old_readied l c = o.kept.membered.readied key l c

  first_is : r.kept.attributes.set ≡ first_of r.kept.membership
  first_is = o.kept.membered.first key r here

  home : IsHome sets key r.kept.membership
  home = o.kept.membered.home key r here

  ready : IsReady sets key (has_some r.queue)
  ready = o.kept.membered.ready key r here

  pub its_sets : sets_of sets key r.kept.membership ≡ sets_at sets key r
  its_sets = sets_are sets key r.kept.membership home ∙ ap (λ x. option_to_list x ++ more_of sets key) (sym first_is)

  pub its_stand : (l : ℕ) → Contains (sets_of sets key r.kept.membership) l → Contains (list_of sets.all l) key
  its_stand l c = (old l).1 (subst (λ ys. Contains ys l) its_sets c)

  pub its_membership : membership_in (sets_at sets key r) ≡ r.kept.membership
  its_membership = ap (λ x. membership_in (option_to_list x ++ more_of sets key)) first_is ∙ membership_is sets key r.kept.membership home

  -- a port that is in the set
  pub in_its : (set : ℕ) → IsIn v set id → Contains (sets_at sets key r) set
  in_its set is = subst (λ (p : PortView M). Contains (sets_in p) set) (is_port o id key r found here is.view is.there) is.member

  -- a port that stands in the list of a set is in the set
  pub stands_in : (set : ℕ) → Contains (list_of sets.all set) key → IsIn v set id
  stands_in set c = subst (IsIn v set) (let there = o.kept.sound.indexed.found id key found in ap (λ (b : Record M). b.id) (same_some r there.0 (sym here ∙ there.1)) ∙ there.2) (member_in o set key r c here)

  pub apart_from : (set : ℕ) → (IsIn v set id → ⊥) → Contains (sets_at sets key r) set → ⊥
  apart_from set absent c = absent (stands_in set ((old set).1 c))

  module _ (then : SharedView) (n : Membership) (t : Slab (Record M)) (set_is : t ≡ with_value s key (placed_as r n))
      (moves : Moves sets then key (first_of n) n (has_some r.queue) (ready_in (port_of r (more_of sets key))) (ready_if r.queue (option_to_list (first_of n) ++ more_of then key))) where
    placed_change : Change s keys next spare destroyed slots sets waiting noting v id key r (placed_as r n) t
    placed_change = change o id key r (placed_as r n) found here refl set_is

    pub kept-placed : IsKept t keys next spare destroyed slots then waiting noting
    kept-placed = kept-changed placed_change then moves refl spare destroyed refl refl refl

    pub view-placed : (p : PortView M) → map.get v.ports id ≡ Some p → (now : List ℕ) → option_to_list (first_of n) ++ more_of then key ≡ now → view_of t keys next spare destroyed then waiting noting ≡ with_port v id (with_sets p now)
    view-placed p is now now_is =
        view-changed placed_change then moves refl spare destroyed refl refl refl (with_sets p now)
        (split (port_of r (more_of sets key)) (first_of n) (more_of then key) (none_more then key n moves.home) ∙ ap (with_sets (port_of r (more_of sets key))) now_is ∙ ap (λ (q : PortView M). with_sets q now) (sym (is_port o id key r found here p is)))
        v.spare spare_is v.destroyed destroyed_is

  pub settled-moves : (then : SharedView) (one : ℕ) → IsSettled sets key r.kept.membership one (has_some r.queue) then → Moves sets then key (Some one) (Alone one) (has_some r.queue) (ready_in (port_of r (more_of sets key))) (ready_if r.queue (one ∷ more_of then key))
  settled-moves then one settled = moves-settled sets then key (sets_at sets key r) old old_readied r.kept.attributes.set r.kept.membership first_is refl home r.queue one ready settled

  pub out-moves : (then : SharedView) → IsOut sets key r.kept.membership (has_some r.queue) then → Moves sets then key None Nowhere (has_some r.queue) (ready_in (port_of r (more_of sets key))) (ready_if r.queue (more_of then key))
  out-moves then out = moves-out sets then key (sets_at sets key r) old old_readied r.kept.attributes.set r.kept.membership first_is refl home r.queue ready out

  pub parted-moves : (then : SharedView) (one : ℕ) (n : Membership) → Contains (sets_at sets key r) one → IsParted sets key r.kept.membership one (has_some r.queue) n then →
      Moves sets then key (first_of n) n (has_some r.queue) (ready_in (port_of r (more_of sets key))) (ready_if r.queue (option_to_list (first_of n) ++ more_of then key))
  parted-moves then one n there parted = moves-parted sets then key (sets_at sets key r) old old_readied r.kept.attributes.set r.kept.membership first_is refl home r.queue one n there ready parted

  pub parted-sets : (then : SharedView) (one : ℕ) (n : Membership) → IsParted sets key r.kept.membership one (has_some r.queue) n then → (p : PortView M) → map.get v.ports id ≡ Some p → option_to_list (first_of n) ++ more_of then key ≡ without one (sets_in p)
  parted-sets then one n parted p is = sym (sets_are then key n parted.home) ∙ parted.sets ∙ ap (without one) (its_sets ∙ ap (λ (q : PortView M). sets_in q) (sym (is_port o id key r found here p is)))

  pub entered-moves : (then : SharedView) (one : ℕ) → first_of r.kept.membership ≡ None → then ≡ entered sets one key (has_some r.queue) → Moves sets then key (Some one) (Alone one) (has_some r.queue) (ready_in (port_of r (more_of sets key))) (ready_if r.queue (one ∷ more_of then key))
  entered-moves then one none is =
      let more : more_of sets key ≡ [] = none_more sets key r.kept.membership home none in
      moves-entered sets then key (sets_at sets key r) old old_readied r.kept.attributes.set r.kept.membership first_is refl home r.queue one (ap (λ x. option_to_list x ++ more_of sets key) (first_is ∙ none) ∙ more) more ready is

  pub entered-sets : (then : SharedView) (one : ℕ) → first_of r.kept.membership ≡ None → then ≡ entered sets one key (has_some r.queue) → (p : PortView M) → map.get v.ports id ≡ Some p → one ∷ more_of then key ≡ sets_in p ++ one ∷ []
  entered-sets then one none is p there =
      let more : more_of sets key ≡ [] = none_more sets key r.kept.membership home none in
      ap (λ (u : SharedView). one ∷ more_of u key) is ∙ ap (λ ys. one ∷ ys) more
      ∙ sym (ap (λ (q : PortView M). sets_in q ++ one ∷ []) (is_port o id key r found here p there) ∙ ap (λ x. (option_to_list x ++ more_of sets key) ++ one ∷ []) (first_is ∙ none) ∙ ap (λ ys. ys ++ one ∷ []) more)

  pub further-moves : (then : SharedView) (own one : ℕ) → first_of r.kept.membership ≡ Some own → (Contains (sets_at sets key r) one → ⊥) → then ≡ with_further (entered sets one key (has_some r.queue)) one key →
      Moves sets then key (Some own) (Several own) (has_some r.queue) (ready_in (port_of r (more_of sets key))) (ready_if r.queue (own ∷ more_of then key))
  further-moves then own one own_is apart is = moves-further sets then key (sets_at sets key r) old old_readied r.kept.attributes.set r.kept.membership first_is refl home r.queue own one own_is apart ready is

  pub further-sets : (then : SharedView) (own one : ℕ) → first_of r.kept.membership ≡ Some own → then ≡ with_further (entered sets one key (has_some r.queue)) one key → (p : PortView M) → map.get v.ports id ≡ Some p → own ∷ more_of then key ≡ sets_in p ++ one ∷ []
  further-sets then own one own_is is p there =
      ap (λ ys. own ∷ ys) (ap (λ (u : SharedView). more_of u key) is ∙ further_is sets.more key (more_of sets key ++ one ∷ []))
      ∙ sym (ap (λ (q : PortView M). sets_in q ++ one ∷ []) (is_port o id key r found here p there) ∙ ap (λ x. (option_to_list x ++ more_of sets key) ++ one ∷ []) (first_is ∙ own_is))

  -- a port with a first set is in some
  pub some_sets : (own : ℕ) → first_of r.kept.membership ≡ Some own → (p : PortView M) → map.get v.ports id ≡ Some p → sets_in p ≡ [] → ⊥
  some_sets own own_is p there none = (let e : own ∷ more_of sets key ≡ [] = ap (λ x. option_to_list x ++ more_of sets key) (sym (first_is ∙ own_is)) ∙ sym (ap (λ (q : PortView M). sets_in q) (is_port o id key r found here p there)) ∙ none in cc)

  -- ---- whether the port is in a set

  pub told_in : (m : Membership) → r.kept.membership ≡ m → (set : ℕ) → IsIn v set id ↔ Contains (sets_of sets key m) set
  told_in m e set = (
    (λ is. subst (λ n. Contains (sets_of sets key n) set) e (subst (λ ys. Contains ys set) (sym its_sets) (in_its set is))),
    (λ c. stands_in set (its_stand set (subst (λ n. Contains (sets_of sets key n) set) (sym e) c))),
  )

  pub alone_told : (only : ℕ) → r.kept.membership ≡ Alone only → (set n : ℕ) → n ≡ set → (b : Bool) → (IsTrue b → only ≡ n) → (only ≡ n → IsTrue b) → IsTrue b ↔ IsIn v set id
  alone_told only e set n is b same back = (
    (λ t. (told_in (Alone only) e set).1 (subst (λ k. Contains (only ∷ []) k) (same t ∙ is) (head_in only []))),
    (λ i. back (sym (is ∙ only_in only set ((told_in (Alone only) e set).0 i)))),
  )

  is_yes : (b : Bool) (P : Type 0) → (b ≡ false → P → ⊥) → P → IsTrue b
  is_yes true P none p = refl
  is_yes false P none p = absurd (none refl p)

  pub several_told : (own : ℕ) → r.kept.membership ≡ Several own → (set n : ℕ) → n ≡ set → (own ≡ n → ⊥) → (b : Bool) → (b ≡ true → Contains (more_of sets key) n) → (b ≡ false → Contains (more_of sets key) n → ⊥) → IsTrue b ↔ IsIn v set id
  several_told own e set n is other b further none = (
    (λ t. (told_in (Several own) e set).1 (subst (λ k. Contains (own ∷ more_of sets key) k) is (tail_in own n (more_of sets key) (further t)))),
    (λ i. elim (in_cases own set (more_of sets key) ((told_in (Several own) e set).0 i)) [
      | inl same ↦ absurd (other (same ∙ sym is))
      | inr c ↦ is_yes b (Contains (more_of sets key) n) none (subst (λ k. Contains (more_of sets key) k) (sym is) c)
    ]),
  )

  -- ---- a port whose receive right goes

  module _ (then : SharedView) (out : IsOut sets key r.kept.membership (has_some r.queue) then) (t : Slab (Record M)) (set_is : t ≡ with_value s key (record r { kept = record r.kept { attributes = record (restarted_counts r.kept.attributes) { set = None }; membership = Nowhere } })) where
    abbrev gone : Record M
    gone = record r { kept = record r.kept { attributes = record (restarted_counts r.kept.attributes) { set = None }; membership = Nowhere } }

    gone_change : Change s keys next spare destroyed slots sets waiting noting v id key r gone t
    gone_change = change o id key r gone found here refl set_is

    pub kept-restarted : IsKept t keys next spare destroyed slots then waiting noting
    kept-restarted = kept-changed gone_change then (out-moves then out) refl spare destroyed refl refl refl

    pub view-restarted : (p : PortView M) → map.get v.ports id ≡ Some p → view_of t keys next spare destroyed then waiting noting ≡ with_port v id (restarted p)
    view-restarted p is =
        view-changed gone_change then (out-moves then out) refl spare destroyed refl refl refl (restarted p)
        (ap (port_of gone) out.none ∙ ap (λ (q : PortView M). restarted q) (sym (is_port o id key r found here p is))) v.spare spare_is v.destroyed destroyed_is

-- ---- a turn is passed

mapped : (f : ℕ → ℕ) (x : Option ℕ) (y : ℕ) → option_map f x ≡ Some y → (k : ℕ) × (x ≡ Some k)
mapped f None y e = absurd (cc)
mapped f (Some k) y e = (k, refl)

-- the key of the port whose turn it is
pub turn_key : {M : Type 0} {s : Slab (Record M)} {keys : Keyed} {next : Option ℕ} {spare destroyed : List M} {slots : ℕ} {sets : SharedView} {waiting noting : ListsView} {v : PortsView M} → IsOpen s keys next spare destroyed slots sets waiting noting v →
    (set port : ℕ) → slice_get (turns_of v.ready set) 0 ≡ Some port → (key : ℕ) × (slice_get (list_of sets.ready set) 0 ≡ Some key)
turn_key {s = s} {sets = sets} o set port e = mapped (λ k. id_in (get s k)) (slice_get (list_of sets.ready set) 0) port (sym (first_turn o set) ∙ e)

module _ {M : Type 0} {s : Slab (Record M)} {keys : Keyed} {next : Option ℕ} {spare destroyed : List M} {slots : ℕ} {sets : SharedView} {waiting noting : ListsView} {v : PortsView M} (o : IsOpen s keys next spare destroyed slots sets waiting noting v)
    (set : ℕ) (key : ℕ) (first : slice_get (list_of sets.ready set) 0 ≡ Some key) where
  abbrev turned_lists : ListsView
  turned_lists = joined_in (parted_in sets.ready set key) set key

  same_ready : (x l : ℕ) → Contains (list_of turned_lists l) x ↔ Contains (list_of sets.ready l) x
  same_ready x l = (
    (λ c. elim (joined_from (parted_in sets.ready set key) set key l x c) [
      | inl a ↦ (parted_from sets.ready set key l x a).0
      | inr a ↦ subst (λ n. Contains (list_of sets.ready n) x) (sym a.0) (subst (λ n. Contains (list_of sets.ready set) n) (sym a.1) (held_first (list_of sets.ready set) key first))
    ]),
    (λ c. elim (equal_or_not x key) [
      | inl e ↦ elim (equal_or_not l set) [
        | inl f ↦ subst (λ n. Contains (list_of turned_lists n) x) (sym f) (subst (λ n. Contains (list_of turned_lists set) n) (sym e) (joined_new (parted_in sets.ready set key) set key))
        | inr d ↦ joined_old (parted_in sets.ready set key) set key l x (elsewhere l x d c)
      ]
      | inr d ↦ joined_old (parted_in sets.ready set key) set key l x (parted_old sets.ready set key l x d c)
    ]),
  )
    where
      elsewhere : (l x : ℕ) → (l ≡ set → ⊥) → Contains (list_of sets.ready l) x → Contains (list_of (parted_in sets.ready set key) l) x
      elsewhere l x d c = subst (λ ys. Contains ys x) (sym (list_other sets.ready set (without key (list_of sets.ready set)) l d)) c

  pub members_there : list_of sets.all set ≡ [] → ⊥
  members_there e = nothing_in key (subst (λ ys. Contains ys key) e (o.kept.membered.readied key set (held_first (list_of sets.ready set) key first)))

  pub first_port : (port : ℕ) → slice_get (turns_of v.ready set) 0 ≡ Some port → map.get keys port ≡ Some key
  first_port port e =
      let was = o.kept.membered.held key set (o.kept.membered.readied key set (held_first (list_of sets.ready set) key first)) in
      let its : was.0.id ≡ port = same_some was.0.id port (sym (first_turn o set ∙ ap (option_map (λ k. id_in (get s k))) first ∙ ap (λ (x : Option (Record M)). Some (id_in x)) was.1) ∙ e) in
      ap (map.get keys) (sym its) ∙ o.kept.sound.indexed.held key was.0 was.1

  module _ (then : SharedView) (is : then ≡ record sets { ready = turned_lists }) where
    pub kept-passed : IsKept s keys next spare destroyed slots then waiting noting
    kept-passed = subst (λ u. IsKept s keys next spare destroyed slots u waiting noting) (sym is) (record {
      sound = o.kept.sound;
      membered = membered-turned (get s) sets turned_lists same_ready o.kept.membered;
      awaited = o.kept.awaited;
      are_noted = o.kept.are_noted;
    })

    pub view-passed : (port : ℕ) → slice_get (turns_of v.ready set) 0 ≡ Some port → view_of s keys next spare destroyed then waiting noting ≡ record v { ready = passed v.ready port set }
    view-passed port e =
        ap (λ u. view_of s keys next spare destroyed u waiting noting) is
        ∙ ap (λ t. let w : PortsView M = record (view_of s keys next spare destroyed sets waiting noting) { ready = t } in w) (turns-moved o port key (first_port port e) (set ∷ []) (set ∷ []))
        ∙ ap (λ (b : PortsView M). let w : PortsView M = record b { ready = passed v.ready port set } in w) o.view_is
