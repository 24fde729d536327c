use Rattle.std.proofs.Common.{◌≡◌, ◌||◌, ◌/◌, ℕ, true, inr, ap, ◌∙◌}
use Rattle.std.specs.FinSet as set
use Rattle.std.specs.Ordering.{nat_cmp}
use Rattle.std.specs.Cmp.{nat_cmp_total, unsigned_tied}
use Rattle.name_space_base.specs.Pages.{PagesView}
use Rattle.name_space.proofs.Keys.{eqb-same}
use Rattle.library_tests.proofs.pages.put.Goals as goal

page_put : (made : set.FinSet nat_cmp) (k : ℕ) → set.contains (set.insert made k) k ≡ true
page_put made k = set.contains-insert nat_cmp_total made k k ∙ ap (λ b. b || set.contains made k) (unsigned_tied k k ∙ eqb-same k)

pub insert-requires-clause-place : goal.insert-requires-clause-place
insert-requires-clause-place c = inr (ap (λ (v : PagesView ℕ). set.contains v.made (c.args.number / 256)) c.in-Ok.ensures.ok ∙ page_put c.args.pages.now.made (c.args.number / 256))
