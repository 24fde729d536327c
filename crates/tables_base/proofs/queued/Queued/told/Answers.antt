use Rattle.tables_base.proofs.Notices.{keeps_notice}
use Rattle.tables_base.proofs.queued.Queued.told.Goals as goal

pub returns-clause-keeps : goal.returns-clause-keeps
returns-clause-keeps c = λ port. keeps_notice port c.args.notice
