use Rattle.std.proofs.Common.{◌∙◌, ap, length, refl, ℕ, [], List, Option, Some, None, get_or}
use Rattle.std.specs.FinMap as map
use Rattle.slab.specs.Slab.{get}
use Rattle.number_map.specs.Maps.{MapView}
use Rattle.member_lists.specs.Lists.{ListsView}
use Rattle.member_lists.proofs.Listed.{list_none}
use Rattle.shared_lists.specs.Shared.{SharedView}
use Rattle.port_base.specs.declared.Record.{Record}
use Rattle.port_base.specs.Records.{ids_at, lost_list, doomed_list, noted_list, waiting_list, noting_list}
use Rattle.port.specs.Records.{ids_in}
use Rattle.port.proofs.Changed.{same_view}
use Rattle.port.proofs.Grown.{sound-empty, membered-empty, ports-empty, rights-empty}
use Rattle.port.proofs.Readied.{listed-none}
use Rattle.port.proofs.Sound.{view_of}
use Rattle.port.proofs.Turned.{turns-none}
use Rattle.port.proofs.Ports.new.Goals as goal

pub invariant_of-result : goal.invariant_of-result
invariant_of-result g c =
    record {
      sound = sound-empty c.new.result c.new-2.result.map c.new-6.result c.new-7.result c.new.ensures.empty (ap (λ (w : MapView ℕ). w.map) c.new-2.ensures) c.new-6.ensures c.new-7.ensures;
      membered = membered-empty c.new.result c.args.several c.new-3.result c.new.ensures.empty c.new-3.ensures;
      awaited = listed-none waiting_list (get c.new.result) c.new-4.result (λ k. ap (λ (l : List (Option (Record g.row.M.Denot))). get_or l k None) c.new.ensures.empty) (ap (λ (w : ListsView). w.lists) c.new-4.ensures);
      are_noted = listed-none noting_list (get c.new.result) c.new-5.result (λ k. ap (λ (l : List (Option (Record g.row.M.Denot))). get_or l k None) c.new.ensures.empty) (ap (λ (w : ListsView). w.lists) c.new-5.ensures);
    }

pub returns-clause-after : goal.returns-clause-after
returns-clause-after g c =
    same_view (view_of c.new.result c.new-2.result.map (Some 0) c.new-6.result c.new-7.result c.new-3.result c.new-4.result c.new-5.result) (record { ports = map.empty; ready = map.empty; made = 0; spare = 0; destroyed = []; lost = []; doomed = []; noted = []; several = c.args.several })
    (ports-empty (get c.new.result) c.new-3.result c.new-2.result.map (ap (λ (w : MapView ℕ). w.map) c.new-2.ensures)) (turns-none (get c.new.result) c.new-3.result.ready.lists (ap (λ (u : SharedView). u.ready.lists) c.new-3.ensures))
    refl (ap (λ (l : List g.row.M.Denot). length l) c.new-6.ensures) c.new-7.ensures
    (ap (λ v. ids_in (get c.new.result) v lost_list) c.new-4.ensures ∙ ap (ids_at (get c.new.result)) (list_none 0 lost_list))
    (ap (λ v. ids_in (get c.new.result) v doomed_list) c.new-4.ensures ∙ ap (ids_at (get c.new.result)) (list_none 0 doomed_list))
    (ap (λ v. ids_in (get c.new.result) v noted_list) c.new-5.ensures ∙ ap (ids_at (get c.new.result)) (list_none 0 noted_list))
    (ap (λ (u : SharedView). u.several) c.new-3.ensures)

pub returns-clause-counts : goal.returns-clause-counts
returns-clause-counts g c = rights-empty (get c.new.result) c.new-2.result.map (ap (λ (w : MapView ℕ). w.map) c.new-2.ensures)
