-- Ports once a message came to one of them, or its first one is gone, and once its attributes are others.
use Rattle.std.proofs.Common.{◌≡◌, ◌≢◌, ℕ, ◌+◌, ◌-◌, ◌<◌, Option, Some, List, [], ◌∷◌, ◌++◌, length, refl, ap, sym, subst, ◌∙◌, arith, true, false, eqb, is_some, slice_get}
use Rattle.std.proofs.lemmas.List.{length_push}
use Rattle.std.specs.Option.{option_to_list}
use Rattle.std.specs.FinMap as map
use Rattle.slab.specs.Slab.{Slab, get, with_value}
use Rattle.member_lists.specs.Lists.{ListsView}
use Rattle.shared_lists.specs.Shared.{SharedView, more_of, IsReady}
use Rattle.rights.specs.declared.Counts.{Counts}
use Rattle.port_base.specs.declared.Attributes.{Attributes}
use Rattle.port_base.specs.declared.Membership.{Membership}
use Rattle.port_base.specs.declared.Membership.TheVariants.{Nowhere}
use Rattle.port_base.specs.declared.Record.{Record}
use Rattle.port_base.specs.Memberships.{IsHome, readied, emptied}
use Rattle.port_base.specs.Records.{waits_in, readied_if, left_if}
use Rattle.port_base.specs.Turns.{has_some, ready_if}
use Rattle.port.specs.Ports.{PortView, PortsView, ready_in, with_port}
use Rattle.port.specs.Records.{sets_at, IsKept}
use Rattle.port.proofs.Changed.{Change, change, still, kept-changed, view-changed}
use Rattle.port.proofs.Membered.{Moves, moves-queued, moves-taken, emptied_more}
use Rattle.port.proofs.Records.{Keyed, port_of}
use Rattle.port.proofs.Sound.{IsOpen, view_of, is_port}

-- ---- where the port gets ready, or isn't ready any more

-- a queue that isn't empty has a message
pub some_length : {M : Type 0} (ms queue : List M) → ms ≡ queue → false ≡ eqb (length ms) 0 → 0 < length queue
some_length {M} ms [] same e = absurd (let f : false ≡ true = e ∙ ap (λ (l : List M). eqb (length l) 0) same in cc)
some_length {M} ms (m ∷ queue) same e = omega arith

-- a queue that has a front has a message
pub front_some : {M : Type 0} (queue : List M) → is_some (slice_get queue 0) ≡ true → 0 < length queue
front_some [] e = absurd (let f : false ≡ true = e in cc)
front_some (m ∷ queue) e = omega arith

module _ {M : Type 0} (sets : SharedView) (key : ℕ) (m : Membership) where
  pub readied_home : (queue : List M) → IsHome sets key m → readied_if queue m ≢ Nowhere → IsHome sets key (readied_if queue m)
  readied_home [] home some = home
  readied_home (q ∷ queue) home some = absurd (some refl)

  pub readied_unready : (queue : List M) → IsReady sets key (has_some queue) → readied_if queue m ≢ Nowhere → IsReady sets key false
  readied_unready [] ready some = ready
  readied_unready (q ∷ queue) ready some = absurd (some refl)

  pub left_home : (queue : List M) → IsHome sets key m → left_if queue m ≢ Nowhere → IsHome sets key (left_if queue m)
  left_home [] home some = home
  left_home (q ∷ []) home some = home
  left_home (q ∷ n ∷ queue) home some = absurd (some refl)

  pub left_ready : (queue : List M) → 0 < length queue → IsReady sets key (has_some queue) → IsReady sets key true
  left_ready [] some ready = absurd (omega arith)
  left_ready (q ∷ queue) some ready = ready

module _ {M : Type 0} {s : Slab (Record M)} {keys : Keyed} {next : Option ℕ} {spare destroyed : List M} {slots : ℕ} {sets : SharedView} {waiting noting : ListsView} {v : PortsView M} (o : IsOpen s keys next spare destroyed slots sets waiting noting v)
    (id key : ℕ) (r : Record M) (found : map.get keys id ≡ Some key) (here : get s key ≡ Some r) where
  spare_is : length spare ≡ v.spare
  spare_is = ap (λ (b : PortsView M). b.spare) o.view_is

  destroyed_is : destroyed ≡ v.destroyed
  destroyed_is = ap (λ (b : PortsView M). b.destroyed) o.view_is

  -- ---- a message came

  module _ (message : M) (k : Counts) (then : SharedView) (then_is : then ≡ readied sets key (readied_if r.queue r.kept.membership)) (t : Slab (Record M)) (set_is : t ≡ with_value s key (record r { queue = r.queue ++ message ∷ []; counts = k })) (left : List M) (less : length left + 1 ≡ length spare) where
    abbrev queued : Record M
    queued = record r { queue = r.queue ++ message ∷ []; counts = k }

    queued_change : Change s keys next spare destroyed slots sets waiting noting v id key r queued t
    queued_change = change o id key r queued found here refl set_is

    queued_moves : Moves sets then key r.kept.attributes.set r.kept.membership (has_some (r.queue ++ message ∷ [])) (ready_in (port_of r (more_of sets key))) (ready_in (port_of queued (more_of then key)))
    queued_moves = moves-queued sets then key (sets_at sets key r) (λ l. o.kept.membered.stands key l r here) (λ l c. o.kept.membered.readied key l c) r.kept.attributes.set r.kept.membership (o.kept.membered.first key r here) refl (o.kept.membered.home key r here) r.queue message then_is (o.kept.membered.ready key r here)

    queued_balance : length (r.queue ++ message ∷ []) + length left + length destroyed ≡ length r.queue + length spare + length destroyed
    queued_balance = let e = length_push r.queue message in omega arith

    pub kept-queued : IsKept t keys next left destroyed slots then waiting noting
    kept-queued = kept-changed queued_change then queued_moves (o.kept.membered.first key r here) left destroyed queued_balance refl refl

    pub view-queued : (p : PortView M) → map.get v.ports id ≡ Some p → view_of t keys next left destroyed then waiting noting ≡ record (with_port v id (record p { queue = p.queue ++ message ∷ [] })) { spare = v.spare - 1 }
    view-queued p is =
        let free : length left ≡ v.spare - 1 = (let e = spare_is in omega arith) in
        view-changed queued_change then queued_moves (o.kept.membered.first key r here) left destroyed queued_balance refl refl (record p { queue = p.queue ++ message ∷ [] })
        (ap (port_of queued) (ap (λ (u : SharedView). more_of u key) then_is) ∙ ap (λ (q : PortView M). let b : PortView M = record q { queue = q.queue ++ message ∷ [] } in b) (sym (is_port o id key r found here p is)))
        (v.spare - 1) free v.destroyed destroyed_is

  -- ---- the first message is gone

  module _ (b : Attributes) (set_same : b.set ≡ r.kept.attributes.set) (holder_same : b.holder ≡ r.kept.attributes.holder) (message : M) (rest : List M) (some : r.queue ≡ message ∷ rest) (k : Counts) (then : SharedView) (then_is : then ≡ emptied sets key r.kept.membership rest)
      (t : Slab (Record M)) (set_is : t ≡ with_value s key (record r { queue = rest; kept = record r.kept { attributes = b }; counts = k })) (left more : List M) (balance : length left + length more ≡ length spare + length destroyed + 1) where
    abbrev taken : Record M
    taken = record r { queue = rest; kept = record r.kept { attributes = b }; counts = k }

    taken_change : Change s keys next spare destroyed slots sets waiting noting v id key r taken t
    taken_change = change o id key r taken found here refl set_is

    taken_moves : Moves sets then key b.set r.kept.membership (has_some rest) (ready_in (port_of r (more_of sets key))) (ready_in (port_of taken (more_of then key)))
    taken_moves = subst (λ x. Moves sets then key x r.kept.membership (has_some rest) (ready_in (port_of r (more_of sets key))) (ready_if rest (option_to_list x ++ more_of then key))) (sym set_same)
        (moves-taken sets then key (sets_at sets key r) (λ l. o.kept.membered.stands key l r here) (λ l c. o.kept.membered.readied key l c) r.kept.attributes.set r.kept.membership (o.kept.membered.first key r here) refl (o.kept.membered.home key r here) r.queue message rest some then_is (o.kept.membered.ready key r here))

    taken_balance : length rest + length left + length more ≡ length r.queue + length spare + length destroyed
    taken_balance = let e : length r.queue ≡ length (message ∷ rest) = ap length some in omega arith

    pub kept-taken : IsKept t keys next left more slots then waiting noting
    kept-taken = kept-changed taken_change then taken_moves (set_same ∙ o.kept.membered.first key r here) left more taken_balance (ap waits_in holder_same) refl

    pub view-taken : (q : PortView M) → port_of taken (more_of sets key) ≡ q → (free : ℕ) → length left ≡ free → (gone : List M) → more ≡ gone → view_of t keys next left more then waiting noting ≡ record (with_port v id q) { spare = free; destroyed = gone }
    view-taken q is free free_is gone gone_is =
        view-changed taken_change then taken_moves (set_same ∙ o.kept.membered.first key r here) left more taken_balance (ap waits_in holder_same) refl q
        (ap (port_of taken) (emptied_more sets then key (sets_at sets key r) (λ l. o.kept.membered.stands key l r here) (λ l c. o.kept.membered.readied key l c) r.kept.attributes.set r.kept.membership (o.kept.membered.first key r here) refl (o.kept.membered.home key r here) rest then_is) ∙ is)
        free free_is gone gone_is

  -- ---- other attributes

  module _ (b : Attributes) (set_same : b.set ≡ r.kept.attributes.set) (holder_same : b.holder ≡ r.kept.attributes.holder) (k : Counts) (t : Slab (Record M)) (set_is : t ≡ with_value s key (record r { kept = record r.kept { attributes = b }; counts = k })) where
    abbrev counted : Record M
    counted = record r { kept = record r.kept { attributes = b }; counts = k }

    counted_change : Change s keys next spare destroyed slots sets waiting noting v id key r counted t
    counted_change = change o id key r counted found here refl set_is

    pub kept-counted : IsKept t keys next spare destroyed slots sets waiting noting
    kept-counted = kept-changed counted_change sets (still counted_change set_same refl refl) (set_same ∙ o.kept.membered.first key r here) spare destroyed refl (ap waits_in holder_same) refl

    pub view-counted : (p : PortView M) → map.get v.ports id ≡ Some p → (c : Attributes) → b ≡ c → view_of t keys next spare destroyed sets waiting noting ≡ with_port v id (record p { attributes = c })
    view-counted p is c same =
        view-changed counted_change sets (still counted_change set_same refl refl) (set_same ∙ o.kept.membered.first key r here) spare destroyed refl (ap waits_in holder_same) refl (record p { attributes = c })
        (ap (λ (q : PortView M). let d : PortView M = record q { attributes = b } in d) (sym (is_port o id key r found here p is)) ∙ ap (λ x. let d : PortView M = record p { attributes = x } in d) same) v.spare spare_is v.destroyed destroyed_is

-- attributes with the same set and holder, and the counts of the first
pub counted_same : (b r : Attributes) → b.set ≡ r.set → b.holder ≡ r.holder → ◌≡◌ {A = Attributes} (record r { limit = b.limit; make_send = b.make_send; sequence = b.sequence }) b
counted_same b r set holder =
    ap (λ x. let d : Attributes = record b { set = x; holder = r.holder } in d) (sym set) ∙ ap (λ h. let d : Attributes = record b { holder = h } in d) (sym holder)
