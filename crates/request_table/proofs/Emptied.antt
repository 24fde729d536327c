-- Where no request stands, none ends as a name goes, and none goes along.
use Rattle.std.proofs.Common.{◌≡◌, ℕ, Option, sym, ap, ◌∙◌}
use Rattle.std.specs.FinMap as map
use Rattle.std.specs.Ordering.{nat_cmp}
use Rattle.request_table.specs.declared.Request.{Request}
use Rattle.request_table.specs.Requests.{name_key}
use Rattle.request_table.specs.Tables.{RequestTablesView, left_by, request_left, renamed_by, request_moved}

pub empty_left : (v : RequestTablesView) → v.names.requests ≡ map.empty → (task name : ℕ) → v ≡ request_left v task name
empty_left v none task name = ap (λ (o : Option Request). record v { names = left_by v.names o }) (sym (ap (λ m. map.get m (name_key task name)) none ∙ map.get-empty nat_cmp (name_key task name)))

pub none_moves : (v : RequestTablesView) → v.names.requests ≡ map.empty → (task from_moved to_moved : ℕ) → v ≡ request_moved v task from_moved to_moved
none_moves v none task from_moved to_moved = ap (λ (o : Option Request). record v { names = renamed_by v.names to_moved o }) (sym (ap (λ m. map.get m (name_key task from_moved)) none ∙ map.get-empty nat_cmp (name_key task from_moved)))
