-- The port that was lost first, and ports that aren't among the lost or the doomed.
use Rattle.std.proofs.Common.{◌≡◌, ◌≢◌, ℕ, ap, sym, ◌∙◌, Option, Some, List, slice_get}
use Rattle.std.specs.FinMap as map
use Rattle.member_lists.specs.Lists.{ListsView, list_of, without}
use Rattle.shared_lists.specs.Shared.{SharedView}
use Rattle.slab.specs.Slab.{Slab, get}
use Rattle.port_base.specs.declared.Holder.TheVariants as holder
use Rattle.port_base.specs.declared.Record.{Record}
use Rattle.port_base.specs.Records.{lost_list, doomed_list, waiting_list}
use Rattle.port.specs.Ports.{PortsView}
use Rattle.port.specs.Records.{made_of, IsAwaited}
use Rattle.port.proofs.Readied.{held_first}
use Rattle.port.proofs.Records.{Keyed}
use Rattle.port.proofs.Sound.{IsOpen}
use Rattle.port.proofs.Waiting.{ids-apart, lost_now, doomed_now, waits_lost, waits_doomed}

-- the port that was lost first
module _ {M : Type 0} (s : Slab (Record M)) (waiting : ListsView) (awaited : IsAwaited (get s) waiting) (key : ℕ) (first : slice_get (list_of waiting lost_list) 0 ≡ Some key) where
  pub first_record : (r : Record M) × (get s key ≡ Some r)
  first_record = awaited.held key lost_list (held_first (list_of waiting lost_list) key first)

  pub first_home : waiting_list first_record.0 ≡ Some lost_list
  first_home = (awaited.stands key first_record.0 first_record.1).only lost_list (held_first (list_of waiting lost_list) key first)

module _ {M : Type 0} {s : Slab (Record M)} {keys : Keyed} {next : Option ℕ} {spare destroyed : List M} {slots : ℕ} {sets : SharedView} {waiting noting : ListsView} {v : PortsView M} (o : IsOpen s keys next spare destroyed slots sets waiting noting v)
    (id key : ℕ) (r : Record M) (found : map.get keys id ≡ Some key) (here : get s key ≡ Some r) where
  -- one that was not lost stands not among the lost
  pub lost-apart : r.kept.attributes.holder ≢ holder.Nobody → without id v.lost ≡ v.lost
  lost-apart not_lost =
      ap (without id) (sym (lost_now o))
      ∙ ids-apart (get s) waiting_list waiting o.kept.awaited keys (made_of next) o.kept.sound.indexed id key r found here lost_list (λ e. not_lost (waits_lost r.kept.attributes.holder e))
      ∙ lost_now o

  pub doomed-apart : r.kept.attributes.holder ≢ holder.Doomed → without id v.doomed ≡ v.doomed
  doomed-apart not_doomed =
      ap (without id) (sym (doomed_now o))
      ∙ ids-apart (get s) waiting_list waiting o.kept.awaited keys (made_of next) o.kept.sound.indexed id key r found here doomed_list (λ e. not_doomed (waits_doomed r.kept.attributes.holder e))
      ∙ doomed_now o
