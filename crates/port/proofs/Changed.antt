-- Ports once one of them changed: how they are kept then, and how they are seen.
use Rattle.std.proofs.Common.{◌≡◌, ◌≢◌, ℕ, ◌+◌, Option, Some, List, ◌++◌, length, refl, ap, sym, subst, ◌∙◌, arith}
use Rattle.std.specs.List.{sum_by}
use Rattle.std.specs.Option.{option_to_list}
use Rattle.std.specs.FinMap as map
use Rattle.slab.specs.Slab.{Slab, get, with_value}
use Rattle.member_lists.specs.Lists.{ListsView, without}
use Rattle.shared_lists.specs.Shared.{SharedView, more_of}
use Rattle.port_base.specs.declared.Holder.{Holder}
use Rattle.port_base.specs.declared.Record.{Record}
use Rattle.port_base.specs.Memberships.{first_of}
use Rattle.port_base.specs.Ready.{IsMoved, out_of, at_end}
use Rattle.port_base.specs.Records.{lost_list, doomed_list, noted_list, waits_in, waiting_list, noting_list}
use Rattle.port_base.specs.Turns.{has_some, ready_if}
use Rattle.port.specs.Ports.{PortView, PortsView, ready_in, turned, with_port}
use Rattle.port.specs.Holding.{held}
use Rattle.port.specs.Records.{ports_of, turns_at, ids_in, made_of, queued_in, lost_with, doomed_with, with_holder, sets_at, IsListed, IsAwaited, IsNoted, IsSound, IsKept}
use Rattle.port.proofs.Membered.{Moves, more_keeps, membered-moved, moves-still}
use Rattle.port.proofs.Readied.{listed-set, listed-stays}
use Rattle.port.proofs.Records.{Keyed, port_of, port_at, Turns, ports-changed, indexed-changed}
use Rattle.port.proofs.Sound.{AreSame, IsOpen, view_of, turns-set, sum-set}
use Rattle.port.proofs.Turned.{turned-moved, turns-same, ids-set}
use Rattle.port.proofs.Waiting.{stay-same, held-same, ids-stay, insert-same, lost_now, doomed_now}

pub same_view : {M : Type 0} (v w : PortsView M) → v.ports ≡ w.ports → v.ready ≡ w.ready → v.made ≡ w.made → v.spare ≡ w.spare → v.destroyed ≡ w.destroyed → v.lost ≡ w.lost → v.doomed ≡ w.doomed → v.noted ≡ w.noted → v.several ≡ w.several → v ≡ w
same_view {M} v w ports ready made spare destroyed lost doomed noted several =
    ap (λ x. let u : PortsView M = record v { ports = x } in u) ports
    ∙ ap (λ x. let u : PortsView M = record v { ports = w.ports; ready = x } in u) ready
    ∙ ap (λ x. let u : PortsView M = record v { ports = w.ports; ready = w.ready; made = x } in u) made
    ∙ ap (λ x. let u : PortsView M = record v { ports = w.ports; ready = w.ready; made = w.made; spare = x } in u) spare
    ∙ ap (λ x. let u : PortsView M = record v { ports = w.ports; ready = w.ready; made = w.made; spare = w.spare; destroyed = x } in u) destroyed
    ∙ ap (λ x. let u : PortsView M = record w { lost = x; doomed = v.doomed; noted = v.noted; several = v.several } in u) lost
    ∙ ap (λ x. let u : PortsView M = record w { doomed = x; noted = v.noted; several = v.several } in u) doomed
    ∙ ap (λ x. let u : PortsView M = record w { noted = x; several = v.several } in u) noted
    ∙ ap (λ x. let u : PortsView M = record w { several = x } in u) several

-- The port with this identity and key had this record, and has another now.
pub record Change {M : Type 0} (s : Slab (Record M)) (keys : Keyed) (next : Option ℕ) (spare destroyed : List M) (slots : ℕ) (sets : SharedView) (waiting noting : ListsView) (v : PortsView M) (id key : ℕ) (r a : Record M) (t : Slab (Record M)) : Type 0 where
  pub before : IsOpen s keys next spare destroyed slots sets waiting noting v
  pub found : map.get keys id ≡ Some key
  pub here : get s key ≡ Some r
  pub same : a.id ≡ r.id
  pub set_is : t ≡ with_value s key a

pub change : {M : Type 0} {s : Slab (Record M)} {keys : Keyed} {next : Option ℕ} {spare destroyed : List M} {slots : ℕ} {sets : SharedView} {waiting noting : ListsView} {v : PortsView M} → IsOpen s keys next spare destroyed slots sets waiting noting v →
    (id key : ℕ) (r a : Record M) → map.get keys id ≡ Some key → get s key ≡ Some r → a.id ≡ r.id → {t : Slab (Record M)} → t ≡ with_value s key a → Change s keys next spare destroyed slots sets waiting noting v id key r a t
change o id key r a found here same is = record { before = o; found = found; here = here; same = same; set_is = is }

module _ {M : Type 0} {s : Slab (Record M)} {keys : Keyed} {next : Option ℕ} {spare destroyed : List M} {slots : ℕ} {sets : SharedView} {waiting noting : ListsView} {v : PortsView M} {id key : ℕ} {r a : Record M} {t : Slab (Record M)} (ch : Change s keys next spare destroyed slots sets waiting noting v id key r a t) where
  now_turns : Turns (get s) (get t) key (Some a)
  now_turns = subst (λ (u : Slab (Record M)). Turns (get s) (get u) key (Some a)) (sym ch.set_is) (turns-set s key r a ch.here)

  pub now_there : get t key ≡ Some a
  now_there = now_turns.changed

  listed-still : (home : Record M → Option ℕ) (lists : ListsView) → IsListed home (get s) lists → home a ≡ home r → IsListed home (get t) lists
  listed-still home lists listed e = subst (λ (u : Slab (Record M)). IsListed home (get u) lists) (sym ch.set_is) (listed-stays home s lists key r a listed ch.here e)

  listed-now : (home : Record M → Option ℕ) (lists then : ListsView) → IsListed home (get s) lists → IsMoved lists then key (home a) → IsListed home (get t) then
  listed-now home lists then listed moved = subst (λ (u : Slab (Record M)). IsListed home (get u) then) (sym ch.set_is) (listed-set home s lists then key r a listed ch.here moved)

  -- what its record says of its sets stays
  pub still : a.kept.attributes.set ≡ r.kept.attributes.set → a.kept.membership ≡ r.kept.membership → a.queue ≡ r.queue →
      Moves sets sets key a.kept.attributes.set a.kept.membership (has_some a.queue) (ready_in (port_of r (more_of sets key))) (ready_in (port_of a (more_of sets key)))
  still set_same member_same queue_same =
      let was : List ℕ = ready_in (port_of r (more_of sets key)) in
      let base : Moves sets sets key r.kept.attributes.set r.kept.membership (has_some r.queue) was (ready_if r.queue (option_to_list r.kept.attributes.set ++ more_of sets key)) =
      moves-still sets sets key (sets_at sets key r) (λ l. ch.before.kept.membered.stands key l r ch.here) (λ l c. ch.before.kept.membered.readied key l c) r.kept.attributes.set r.kept.membership (ch.before.kept.membered.first key r ch.here) refl (ch.before.kept.membered.home key r ch.here) r.queue refl (ch.before.kept.membered.ready key r ch.here) in
      subst (λ x. Moves sets sets key x a.kept.membership (has_some a.queue) was (ready_if a.queue (option_to_list x ++ more_of sets key))) (sym set_same)
      (subst (λ m. Moves sets sets key r.kept.attributes.set m (has_some a.queue) was (ready_if a.queue (option_to_list r.kept.attributes.set ++ more_of sets key))) (sym member_same)
      (subst (λ (q : List M). Moves sets sets key r.kept.attributes.set r.kept.membership (has_some q) was (ready_if q (option_to_list r.kept.attributes.set ++ more_of sets key))) (sym queue_same) base))

  module _ (then : SharedView) (moves : Moves sets then key a.kept.attributes.set a.kept.membership (has_some a.queue) (ready_in (port_of r (more_of sets key))) (ready_in (port_of a (more_of then key)))) (first_is : a.kept.attributes.set ≡ first_of a.kept.membership)
      (left more : List M) (balance : length a.queue + length left + length more ≡ length r.queue + length spare + length destroyed) where
    keep : (k : ℕ) → k ≢ key → more_of then k ≡ more_of sets k
    keep = more_keeps sets then key moves.more

    sound-now : IsSound t keys next left more slots
    sound-now = record {
      indexed = indexed-changed (get s) (get t) sets then keys (made_of next) ch.before.kept.sound.indexed id key keep r a ch.found ch.here now_turns ch.same;
      counted = (let e = ch.before.kept.sound.counted in let f : sum_by queued_in t.slots + length r.queue ≡ sum_by queued_in s.slots + length a.queue = ap (λ (u : Slab (Record M)). sum_by queued_in u.slots + length r.queue) ch.set_is ∙ sum-set s key r a ch.here in omega arith);
      few = ch.before.kept.sound.few;
      next_fits = ch.before.kept.sound.next_fits;
    }

    pub kept-moved : (w n : ListsView) → IsAwaited (get t) w → IsNoted (get t) n → IsKept t keys next left more slots then w n
    kept-moved w n awaited noted = record {
      sound = sound-now;
      membered = membered-moved (get s) (get t) sets then key ch.before.kept.membered moves a now_turns refl refl refl first_is (ch.before.kept.membered.room key r ch.here);
      awaited = awaited;
      are_noted = noted;
    }

    pub view-moved : (w n : ListsView) (q : PortView M) → port_of a (more_of then key) ≡ q → (free : ℕ) → length left ≡ free → (gone : List M) → more ≡ gone →
        (lost doomed noted : List ℕ) → AreSame (ids_in (get t) w lost_list) (ids_in (get t) w doomed_list) (ids_in (get t) n noted_list) lost doomed noted →
        view_of t keys next left more then w n ≡ record (with_port v id q) { spare = free; destroyed = gone; lost = lost; doomed = doomed; noted = noted }
    view-moved w n q is free free_is gone gone_is lost doomed noted lists = same_view (view_of t keys next left more then w n) (record (with_port v id q) { spare = free; destroyed = gone; lost = lost; doomed = doomed; noted = noted })
        (ports-changed (get s) (get t) sets then keys (made_of next) ch.before.kept.sound.indexed id key keep r a ch.found ch.here now_turns ch.same ∙ ap (map.insert (ports_of (get s) sets keys) id) is ∙ ap (λ (b : PortsView M). map.insert b.ports id q) ch.before.view_is)
        (ap (λ (u : Slab (Record M)). turns_at (get u) then.ready.lists) ch.set_is ∙ turned-moved ch.before id key ch.found r a ch.here ch.same then (port_of a (more_of then key)) moves.turns ∙ ap (turned v.ready id (map.get v.ports id)) is)
        (ap (λ (b : PortsView M). b.made) ch.before.view_is) free_is gone_is lists.lost_is lists.doomed_is lists.noted_is (moves.several ∙ ap (λ (b : PortsView M). b.several) ch.before.view_is)

    -- it waits where it did, and is noted if it was
    module _ (waits : waiting_list a ≡ waiting_list r) (notes : noting_list a ≡ noting_list r) where
      pub kept-changed : IsKept t keys next left more slots then waiting noting
      kept-changed = kept-moved waiting noting (listed-still waiting_list waiting ch.before.kept.awaited waits) (listed-still noting_list noting ch.before.kept.are_noted notes)

      pub view-changed : (q : PortView M) → port_of a (more_of then key) ≡ q → (free : ℕ) → length left ≡ free → (gone : List M) → more ≡ gone →
          view_of t keys next left more then waiting noting ≡ record (with_port v id q) { spare = free; destroyed = gone }
      view-changed q is free free_is gone gone_is = view-moved waiting noting q is free free_is gone gone_is v.lost v.doomed v.noted
          (subst (λ (u : Slab (Record M)). AreSame (ids_in (get u) waiting lost_list) (ids_in (get u) waiting doomed_list) (ids_in (get u) noting noted_list) v.lost v.doomed v.noted) (sym ch.set_is) (stay-same ch.before key r a ch.here ch.same))

  -- ---- a port with another holder

  module _ (first_is : a.kept.attributes.set ≡ first_of a.kept.membership) (moves : Moves sets sets key a.kept.attributes.set a.kept.membership (has_some a.queue) (ready_in (port_of r (more_of sets key))) (ready_in (port_of a (more_of sets key)))) (queue_same : length a.queue ≡ length r.queue)
      (notes : noting_list a ≡ noting_list r) (h : Holder) (waits : waiting_list a ≡ waits_in h) (then : ListsView) (moved : IsMoved waiting then key (waits_in h)) where
    pub kept-held : IsKept t keys next spare destroyed slots sets then noting
    kept-held = kept-moved sets moves first_is spare destroyed (omega arith) then noting (listed-now waiting_list waiting then ch.before.kept.awaited (subst (λ w. IsMoved waiting then key w) (sym waits) moved)) (listed-still noting_list noting ch.before.kept.are_noted notes)

    pub view-held : (p : PortView M) → port_of a (more_of sets key) ≡ held p h → then ≡ at_end (out_of waiting key (waiting_list r)) key (waits_in h) → view_of t keys next spare destroyed sets then noting ≡ with_holder v id p h
    view-held p is joined = view-moved sets moves first_is spare destroyed (omega arith) then noting (held p h) is v.spare (ap (λ (b : PortsView M). b.spare) ch.before.view_is) v.destroyed (ap (λ (b : PortsView M). b.destroyed) ch.before.view_is)
        (lost_with h id (without id v.lost)) (doomed_with h id (without id v.doomed)) v.noted
        (subst (λ (u : Slab (Record M)). AreSame (ids_in (get u) then lost_list) (ids_in (get u) then doomed_list) (ids_in (get u) noting noted_list) (lost_with h id (without id v.lost)) (doomed_with h id (without id v.doomed)) v.noted) (sym ch.set_is)
        (held-same ch.before key r a ch.here ch.same id ch.found h then joined))

  -- ---- a port that is noted, or no longer: nothing else of it changes

  module _ (first_is : a.kept.attributes.set ≡ first_of a.kept.membership) (moves : Moves sets sets key a.kept.attributes.set a.kept.membership (has_some a.queue) (ready_in (port_of r (more_of sets key))) (ready_in (port_of a (more_of sets key)))) (queue_same : length a.queue ≡ length r.queue)
      (waits : waiting_list a ≡ waiting_list r) (then : ListsView) (moved : IsMoved noting then key (noting_list a)) where
    pub kept-noted : IsKept t keys next spare destroyed slots sets waiting then
    kept-noted = kept-moved sets moves first_is spare destroyed (omega arith) waiting then (listed-still waiting_list waiting ch.before.kept.awaited waits) (listed-now noting_list noting then ch.before.kept.are_noted moved)

    pub view-noted : port_of a (more_of sets key) ≡ port_of r (more_of sets key) → (noted : List ℕ) → ids_in (get s) then noted_list ≡ noted → view_of t keys next spare destroyed sets waiting then ≡ record v { noted = noted }
    view-noted alike noted is =
        let old = port_at (get s) sets keys id key r ch.found ch.here in
        let stay : (w : ListsView) (l : ℕ) → ids_in (get t) w l ≡ ids_in (get s) w l = λ w l. ap (λ (u : Slab (Record M)). ids_in (get u) w l) ch.set_is ∙ ids-stay ch.before key r a ch.here ch.same w l in
        same_view (view_of t keys next spare destroyed sets waiting then) (record v { noted = noted })
        (ports-changed (get s) (get t) sets sets keys (made_of next) ch.before.kept.sound.indexed id key (λ k d. refl) r a ch.found ch.here now_turns ch.same ∙ ap (map.insert (ports_of (get s) sets keys) id) alike ∙ insert-same (ports_of (get s) sets keys) id (port_of r (more_of sets key)) old
        ∙ ap (λ (b : PortsView M). b.ports) ch.before.view_is)
        (ap (λ (u : Slab (Record M)). turns_at (get u) sets.ready.lists) ch.set_is ∙ turns-same (get s) (get (with_value s key a)) sets.ready (λ k l c. ids-set s key r a ch.here ch.same k) ∙ ap (λ (b : PortsView M). b.ready) ch.before.view_is)
        (ap (λ (b : PortsView M). b.made) ch.before.view_is) (ap (λ (b : PortsView M). b.spare) ch.before.view_is) (ap (λ (b : PortsView M). b.destroyed) ch.before.view_is)
        (stay waiting lost_list ∙ lost_now ch.before) (stay waiting doomed_list ∙ doomed_now ch.before) (stay then noted_list ∙ is) (ap (λ (b : PortsView M). b.several) ch.before.view_is)
