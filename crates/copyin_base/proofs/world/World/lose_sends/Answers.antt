use Rattle.std.proofs.Common.{subst}
use Rattle.copyin_base.specs.Changes.{NotesSenderless}
use Rattle.copyin_base.specs.Worlds.{WorldView}
use Rattle.copyin_base.proofs.world.World.lose_sends.Goals as goal

pub returns : goal.returns
returns c = subst (λ (w : WorldView). NotesSenderless w c.args.port c.note_senderless.new.self) c.take_rights.ensures c.note_senderless.ensures
