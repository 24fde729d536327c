use Rattle.std.proofs.Common.{◌≡◌, ◌<◌, ◌≤◌, List, length, get_or, ℕ, ap, ◌∙◌, arith}
use Rattle.std.proofs.lemmas.Bool.Decides.{nat_tests}
use Rattle.tagged_names.proofs.Bytes.{count_read, count_past}
use Rattle.tagged_names.proofs.counts.Counts.get.Goals as goal

pub returns-in-Some : goal.returns-in-Some
returns-in-Some c =
    let found = c.in-Some.ensures.lookup in
    let long : length c.deref.result.now ≡ length c.self.inside.bytes.items = ap length c.deref.ensures.value in
    let within : c.args.index < length c.deref.result.now = grind (arith, nat_tests) in
    count_read c.self.inside.bytes.items c.args.self.now c.self.view_is c.args.index c.in-Some.count.now (omega arith) (found.1 ∙ ap (λ (l : List ℕ). get_or l c.args.index c.in-Some.count.now) c.deref.ensures.value)

pub returns-in-None : goal.returns-in-None
returns-in-None c =
    let missing = c.in-None.ensures.lookup in
    let long : length c.deref.result.now ≡ length c.self.inside.bytes.items = ap length c.deref.ensures.value in
    let past : length c.deref.result.now ≤ c.args.index = grind (arith, nat_tests) in
    count_past c.self.inside.bytes.items c.args.self.now c.self.view_is c.args.index (omega arith)
