use Rattle.std.proofs.Common.{◌≡◌, ◌∙◌, Bool, List, ap, refl, sym, subst}
use Rattle.std.specs.Prelude.{MatchBool}
use Rattle.copyin_base.specs.declared.Carried.{Carried}
use Rattle.copyin_base.specs.Changes.{NotesSenderless}
use Rattle.copyin_base.specs.Kept.{Kept, IsMessageOf}
use Rattle.copyout.specs.Short.{IsShort}
use Rattle.copyout.specs.Ready.{CanGive}
use Rattle.copyout.proofs.Delivered.{carries_right, taken_own, takes_message}
use Rattle.copyout.proofs.Rooms.{can_deliver}
use Rattle.copyout.proofs.short.take_short.Goals as goal

pub into_sent-message-requires : goal.into_sent-message-requires
into_sent-message-requires c =
    let t = c.take_front.ensures in
    let b = c.requires.short t.0.front (record { v = t.0.v; there = t.0.there; behind = t.0.behind; queue = t.0.queue }) in
    let same : IsShort c.take_front.result c.args.short.now = subst (λ (k : Kept). IsShort k c.args.short.now) (sym t.1) b in
    same.sent

pub give_only-name-requires-clause-can : goal.give_only-name-requires-clause-can
give_only-name-requires-clause-can c =
    let t = c.take_front.ensures in
    let b = c.requires.short t.0.front (record { v = t.0.v; there = t.0.there; behind = t.0.behind; queue = t.0.queue }) in
    let mid = c.take_front.new.world in
    let ready = c.requires.ready in
    subst (λ (cs : List Carried). CanGive mid c.args.task cs) (carries_right t.0.front c.args.short.now b) (can_deliver c.args.world.now mid c.args.task c.args.found.port ready.0 ready.1 t.0)

pub give_only-name-requires-clause-own : goal.give_only-name-requires-clause-own
give_only-name-requires-clause-own c = let t = c.take_front.ensures in taken_own c.args.world.now c.take_front.new.world c.args.task c.args.found.port c.args.short.now.right c.args.own t.0 c.requires.own

pub spell_short-requires-clause-short : goal.spell_short-requires-clause-short
spell_short-requires-clause-short c =
    let t = c.take_front.ensures in
    let b = c.requires.short t.0.front (record { v = t.0.v; there = t.0.there; behind = t.0.behind; queue = t.0.queue }) in
    subst (λ (k : Kept). IsShort k c.args.short.now) (sym (c.into_sent-message.ensures ∙ t.1)) b

pub returns : goal.returns
returns c =
    let t = c.take_front.ensures in
    let m = c.into_sent-message.result in
    let mid = c.take_front.new.world in
    let taken = c.give_only-name.new.world in
    let new = c.note_front.new.world in
    let is : m ≡ t.0.front = c.into_sent-message.ensures ∙ t.1 in
    let g = c.give_only-name.ensures in
    takes_message c.args.world.now mid taken new c.args.task c.args.found.port c.args.local c.args.short.now.sequence m c.spell_short.result t.0
    (subst (λ (k : Kept). IsMessageOf k m) is refl)
    (sym (c.requires.numbered t.0.v t.0.there))
    (c.spell_short.ensures mid taken c.args.task g.0 g.1 g.2)
    (subst (λ (b : Bool). MatchBool b (new ≡ taken) (NotesSenderless taken c.args.found.port new)) (c.by_once.ensures ∙ ap (λ (k : Kept). k.by_once) is) c.note_front.ensures)
