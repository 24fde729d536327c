use Rattle.std.proofs.Common.{◌≡◌, refl, true, false}
use Rattle.copyin_base.proofs.Noting.{notes_none, noted_given, noted_written}
use Rattle.copyin_base.proofs.Recounted.{ledger_of, still_counted, bare_same}
use Rattle.copyin_base.proofs.world.World.note_senderless.Goals as goal

pub invariant_of-self : goal.invariant_of-self
invariant_of-self c =
    let i = c.self.inside in (
      noted_given c.args.self.now i.spaces.items i.ports.bare (ledger_of i.ports.counts i.ledger) i.sets i.requests c.self.view_is c.args.port (c.if-is_senderless.ensures.0 refl) c.note.new.self.bare c.note.ensures.fresh (λ h. bare_same (c.note.ensures.again h)) c.self.invariant.0,
      still_counted c.note.ensures.counts c.self.invariant.1,
    )

pub returns-then-is_senderless : goal.returns-then-is_senderless
returns-then-is_senderless c = rw c.note.ensures.counts (noted_written c.args.self.now c.self.inside.spaces.items c.self.inside.ports.bare (ledger_of c.self.inside.ports.counts c.self.inside.ledger) c.self.inside.sets c.self.inside.requests c.self.view_is c.args.port
    (c.if-is_senderless.ensures.0 refl) c.note.new.self.bare c.note.ensures.fresh (λ h. bare_same (c.note.ensures.again h)))

pub returns-else-is_senderless : goal.returns-else-is_senderless
returns-else-is_senderless c = notes_none c.args.self.now c.args.port (λ s. let e : false ≡ true = c.if-is_senderless.ensures.1 s in cc)
