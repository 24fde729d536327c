use Rattle.std.proofs.Common.{◌≡◌, List, ℕ, [], ◌∷◌, refl, sym, ap, ◌∙◌, length, map as list_map, arith}
use Rattle.std.specs.FinMap as map
use Rattle.name_space.specs.declared.Entry.{Entry}
use Rattle.name_space.specs.Names.{Names}
use Rattle.request_table.specs.Tables.{RequestTablesView}
use Rattle.kernel_core_base.specs.Names.{type_found, types_of}
use Rattle.kernel_core_base.proofs.names.names_with_types.Goals as goal

none_there : {A : Type 0} (xs : List A) → length xs ≡ 0 → xs ≡ []
none_there [] is = refl
none_there (x ∷ xs) is = absurd (omega (arith, is))

none_listed : (requests : RequestTablesView) (task : ℕ) (names : Names) → map.len names ≡ 0 → types_of requests task names ≡ []
none_listed requests task names none =
    ap (λ (es : List (ℕ × Entry)). list_map (λ n. (n, type_found requests task n (map.get names n))) (list_map (λ e. e.0) es)) (none_there (map.entries names) (sym (map.len-entries names) ∙ none))

pub returns-then-is_empty-clause-ok : goal.returns-then-is_empty-clause-ok
returns-then-is_empty-clause-ok c = c.new-entries.ensures.items ∙ sym (none_listed c.args.world.now.requests c.args.task c.args.space.now.names (c.is_empty.ensures.0 c.if-is_empty.true))
