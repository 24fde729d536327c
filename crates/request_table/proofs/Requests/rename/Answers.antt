use Rattle.std.proofs.Common.{ap, ◌∙◌}
use Rattle.std.specs.FinMap as map
use Rattle.request_table.specs.Requests.{RequestsView, key_of, name_key}
use Rattle.request_table.proofs.Moved.{absent-out}
use Rattle.request_table.proofs.Requests.rename.Goals as goal

pub insert-requires-clause-absent : goal.insert-requires-clause-absent
insert-requires-clause-absent c =
    ap (λ (w : RequestsView). map.get w.requests (name_key c.in-Some.request.task c.args.to)) c.in-Some.ensures.some
    ∙ absent-out c.args.self.now.requests (key_of c.in-Some.request) (name_key c.in-Some.request.task c.args.to) (ap (λ t. map.get c.args.self.now.requests (name_key t c.args.to)) c.in-Some.ensures.own.0 ∙ c.requires)
