use Rattle.std.proofs.Common.{List, refl, inl, subst}
use Rattle.message_codec.specs.declared.words.PortWord.{PortWord}
use Rattle.message_send.specs.Send.{MovesNoReceive}
use Rattle.message_send.proofs.tell_sent.Goals as goal

pub returns-else-any_moves_receive : goal.returns-else-any_moves_receive
returns-else-any_moves_receive c = inl (subst (λ (ws : List PortWord). MovesNoReceive ws) c.as_slice.ensures (rw c.if-any_moves_receive.false at c.any_moves_receive.ensures), refl)
