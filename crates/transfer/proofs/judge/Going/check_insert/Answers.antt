use Rattle.transfer.proofs.Judged.{no_room}
use Rattle.transfer.proofs.judge.Going.check_insert.Goals as goal

pub returns-then-lacks_space-clause-err : goal.returns-then-lacks_space-clause-err
returns-then-lacks_space-clause-err c =
    no_room
    _ _ _ c.args.name c.args.self.now.port _ c.entry_left-entry.result c.is_none-is_new.result c.entry_left-entry.ensures c.is_none-is_new.ensures c.if-is_elsewhere.ensures c.if-is_taken.ensures c.if-overflows.ensures c.if-lacks_space.ensures
