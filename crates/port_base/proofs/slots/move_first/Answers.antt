use Rattle.std.proofs.Common.{◌≡◌, ◌++◌, ◌∷◌, [], List, length, ap, sym, ◌∙◌, is_ok, true, arith}
use Rattle.port_base.proofs.slots.move_first.Goals as goal

-- a list of one, and all of it behind another
all_of_one : {X : Type 0} (from rest to new : List X) → length from ≡ 1 → rest ≡ [] → new ≡ to ++ from → (x : X) × (from ≡ x ∷ rest) × (new ≡ to ++ x ∷ [])
all_of_one [] rest to new one none is = absurd (omega arith)
all_of_one (x ∷ []) rest to new one none is = (x, ap (λ l. x ∷ l) (sym none), is)
all_of_one (x ∷ y ∷ l) rest to new one none is = absurd (omega arith)

pub returns-then-len-eq1 : goal.returns-then-len-eq1
returns-then-len-eq1 g c =
    let fits = c.requires.fit in
    let ok : is_ok c.append.result ≡ true = c.append.ensures.succeeds (omega arith) in
    let one : length c.args.from.now ≡ 1 = sym c.len.ensures.value ∙ c.if-len-eq1.true in
    all_of_one c.args.from.now c.append.new.other c.args.to.now c.append.new.self one (rw ok at c.append.ensures.other_items) (rw ok at c.append.ensures.items)
