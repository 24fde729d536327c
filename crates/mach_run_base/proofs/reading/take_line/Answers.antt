-- What the reader shows up to its first line feed is the line, and is consumed.
use Rattle.std.proofs.Common.{◌≡◌, ℕ, List, [], ◌∷◌, ◌++◌, IfSome, refl, sym, ap, subst, ◌∙◌}
use Rattle.std.specs.Io.BufRead.{FillKeeps, take_through}
use Rattle.std.specs.Io.KnownBytes.{Consumes}
use Rattle.mach_run_base.proofs.LineLemmas.{line-consumed, line-shown}
use Rattle.mach_run_base.proofs.reading.take_line.Goals as goal

pub returns-clause-taken : goal.returns-clause-taken
returns-clause-taken g c =
    λ _.
    let rested = c.fill_buf.follows.lender-at-none in
    let filled = subst (FillKeeps _ (g.B.Read.remaining rested) (g.B.BufRead.consumable_len rested)) c.in-Ok.is c.fill_buf.follows.holds-at-none in
    let text = c.in-Some.text.now in
    let moved = line-shown _ _ _ _ c.in-Ok.available.now text c.in-Some.field-0-1.now _ c.in-Some.ensures.some refl c.in-Ok.ensures.front c.in-Ok.ensures.end filled.0 filled.1 c.consume.ensures.bytes in
    let items : c.push.new.self.items ≡ text ++ 10 ∷ [] = c.in_ok-push.ensures.items ∙ ap (λ l. l ++ 10 ∷ []) (c.in_ok-extend_from_slice.ensures.items ∙ ap (λ l. l ++ text) c.clear.ensures.items) in
    subst (λ (l : List ℕ). IfSome (g.B.Read.remaining c.args.reader.now) (λ left. l ≡ take_through 10 left)) (sym items) (line-consumed _ _ text c.in-Some.ensures.first moved)

pub returns-clause-left : goal.returns-clause-left
returns-clause-left g c =
    λ _.
    let rested = c.fill_buf.follows.lender-at-none in
    let filled = subst (FillKeeps _ (g.B.Read.remaining rested) (g.B.BufRead.consumable_len rested)) c.in-Ok.is c.fill_buf.follows.holds-at-none in
    let text = c.in-Some.text.now in
    let moved = line-shown _ _ _ _ c.in-Ok.available.now text c.in-Some.field-0-1.now _ c.in-Some.ensures.some refl c.in-Ok.ensures.front c.in-Ok.ensures.end filled.0 filled.1 c.consume.ensures.bytes in
    let items : c.push.new.self.items ≡ text ++ 10 ∷ [] = c.in_ok-push.ensures.items ∙ ap (λ l. l ++ 10 ∷ []) (c.in_ok-extend_from_slice.ensures.items ∙ ap (λ l. l ++ text) c.clear.ensures.items) in
    subst (Consumes (g.B.Read.remaining c.args.reader.now) (g.B.Read.remaining c.consume.new.self)) (sym items) moved
