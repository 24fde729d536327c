use Rattle.std.proofs.Common.{◌/◌, ap, ◌∙◌}
use Rattle.std.specs.FinSet as set
use Rattle.name_space_base.specs.Pages.{PagesView}
use Rattle.name_space_base.proofs.Tables.{in_here}
use Rattle.tagged_names.specs.declared.places.Slot.{Slot}
use Rattle.tagged_names.proofs.Joined.{page_stays}
use Rattle.tagged_names.proofs.places.make_place.Goals as goal

pub returns-clause-more : goal.returns-clause-more
returns-clause-more g c = λ i has.
    ap (λ (w : PagesView (Slot g.row.V.Denot)). set.contains w.made (i / 256)) c.in_ok-make_page.ensures.ok ∙ page_stays c.args.slots.now.made (c.args.index / 256) (i / 256) has

pub returns-clause-ok : goal.returns-clause-ok
returns-clause-ok g c = λ a b.
    ap (λ (w : PagesView (Slot g.row.V.Denot)). set.contains w.made (c.args.index / 256)) c.in_ok-make_page.ensures.ok ∙ in_here c.args.slots.now.made (c.args.index / 256)
