use Rattle.std.proofs.Common.{◌≡◌, Bool, sym, ap, subst, ◌∙◌}
use Rattle.std.specs.Prelude.{MatchBool}
use Rattle.copyin_base.specs.Changes.{NotesSenderless}
use Rattle.copyin_base.specs.Kept.{Kept, IsMessageOf, Makes}
use Rattle.copyout.specs.Ready.{CanGive, carried_by}
use Rattle.copyout.proofs.Rooms.{can_deliver}
use Rattle.copyout.proofs.Delivered.{takes_message}
use Rattle.copyout.proofs.receipt.take_message.Goals as goal

pub into_message-requires : goal.into_message-requires
into_message-requires c =
    let t = c.take_front-queued.ensures in
    subst (λ (m : Kept). Makes m c.args.prepared.made) (sym t.1) (c.requires.made t.0.front (record { v = t.0.v; there = t.0.there; behind = t.0.behind; queue = t.0.queue }))

pub deliver-bytes-requires-clause-can : goal.deliver-bytes-requires-clause-can
deliver-bytes-requires-clause-can c =
    let t = c.take_front-queued.ensures in
    let is : IsMessageOf t.0.front c.into_message.result = subst (λ (k : Kept). IsMessageOf k c.into_message.result) t.1 c.into_message.ensures in
    subst (λ (m : Kept). CanGive c.take_front-queued.new.world c.args.task (carried_by m)) (sym is)
    (can_deliver c.args.world.now c.take_front-queued.new.world c.args.task c.args.found.port (c.args.prepared.names.capacity) c.requires.ready t.0)

pub returns : goal.returns
returns c =
    let t = c.take_front-queued.ensures in
    let is : IsMessageOf t.0.front c.into_message.result = subst (λ (k : Kept). IsMessageOf k c.into_message.result) t.1 c.into_message.ensures in
    let once = c.by_once-by_once.ensures ∙ ap (λ (k : Kept). k.by_once) t.1 in
    takes_message c.args.world.now c.take_front-queued.new.world c.deliver-bytes.new.world c.note_front.new.world c.args.task c.args.found.port c.args.local c.args.prepared.sequence
    c.into_message.result c.deliver-bytes.result t.0 is (sym (c.requires.numbered t.0.v t.0.there)) c.deliver-bytes.ensures
    (subst (λ (b : Bool). MatchBool b (c.note_front.new.world ≡ c.deliver-bytes.new.world) (NotesSenderless c.deliver-bytes.new.world c.args.found.port c.note_front.new.world)) once c.note_front.ensures)
