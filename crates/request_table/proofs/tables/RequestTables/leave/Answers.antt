use Rattle.std.proofs.Common.{ap, sym, ◌∙◌, refl}
use Rattle.request_table.specs.Tables.{RequestTablesView}
use Rattle.request_table.proofs.Emptied.{empty_left}
use Rattle.request_table.proofs.tables.RequestTables.leave.Goals as goal

pub returns-else-not-is_empty : goal.returns-else-not-is_empty
returns-else-not-is_empty c = empty_left c.args.self.now (ap (λ (v : RequestTablesView). v.names.requests) (sym c.self.view_is) ∙ (c.if-not-is_empty.ensures.0 refl).0) c.args.task c.args.name
