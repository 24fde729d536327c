use Rattle.std.proofs.Common.{arith, inl, inr, length-append}
use Rattle.std.specs.Option.{option_to_list}
use Rattle.copyout.proofs.Rooms.{names_lack}
use Rattle.copyout.proofs.receipt.judge_names.Goals as goal

pub returns-then-rights-free-clause-ok : goal.returns-then-rights-free-clause-ok
returns-then-rights-free-clause-ok c =
    let size = c.len-free.ensures.value in
    let below = c.if-rights-free.true in
    let count = c.count_carried-rights.ensures in
    record {
      fits = c.if-is_too_large.ensures;
      has = record {
        space = c.space-space.result;
        there = c.space-space.ensures;
        suffice = inr (omega (arith, count, length-append (option_to_list c.args.queued.now.reply) c.args.queued.now.rights));
        names = omega (arith, size, below);
      };
    }

pub returns-then-needed-free-clause-err : goal.returns-then-needed-free-clause-err
returns-then-needed-free-clause-err c =
    let size = c.len-free.ensures.value in
    let few = c.len-free.ensures.few in
    let above = c.if-needed-free.true in (
      (
        c.if-is_too_large.ensures,
        names_lack c.args.world.now c.args.task c.args.queued.now c.space-space.result c.room_needed-needed.result
            c.space-space.ensures c.room_needed-needed.ensures (omega (arith, size, few)) (omega (arith, size, above)),
      ),
      (λ e. cc),
    )

pub returns-clause-ok : goal.returns-clause-ok
returns-clause-ok c =
    let size = c.len-free.ensures.value in
    let below = c.if-needed-free.false in
    record {
      fits = c.if-is_too_large.ensures;
      has = record {
        space = c.space-space.result;
        there = c.space-space.ensures;
        suffice = inl c.room_needed-needed.ensures;
        names = omega (arith, size, below);
      };
    }
