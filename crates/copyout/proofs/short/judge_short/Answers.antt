use Rattle.std.proofs.Common.{arith}
use Rattle.copyout.specs.Short.{own_names}
use Rattle.copyout.proofs.Delivered.{short_needs, tells_own}
use Rattle.copyout.proofs.Rooms.{names_lack}
use Rattle.copyout.proofs.short.judge_short.Goals as goal

pub returns-then-short-room-clause-err : goal.returns-then-short-room-clause-err
returns-then-short-room-clause-err c =
    let above = c.if-short-room.true in
    let most = c.requires.few in (
      (λ m is. let long = is.size in (long, omega (arith, long, above))),
      (λ e. cc),
    )

pub returns-then-count_own-len-clause-err : goal.returns-then-count_own-len-clause-err
returns-then-count_own-len-clause-err c =
    let w = c.args.world.now in
    let names = c.space-space.result.names in
    let b = c.args.short.now in
    let size = c.len.ensures.value in
    let few = c.len.ensures.few in
    let count = c.count_own.ensures in
    let above = c.if-count_own-len.true in
    let fits = c.if-short-room.false in
    let most = c.requires.few in (
      (
          λ m is.
          let long = is.size in (
            omega (arith, long, fits, most),
            names_lack w c.args.task m c.space-space.result (own_names c.own_of-own.result)
                c.space-space.ensures (short_needs w.ports names m b (own_names c.own_of-own.result) is c.own_of-own.ensures.needs) (omega (arith, size, few)) (omega (arith, size, above, count)),
          )
          ),
      (λ e. cc),
    )

pub returns-clause-ok : goal.returns-clause-ok
returns-clause-ok c =
    let w = c.args.world.now in
    let names = c.space-space.result.names in
    let b = c.args.short.now in
    let own = c.own_of-own.result in
    let size = c.len.ensures.value in
    let count = c.count_own.ensures in
    let below = c.if-count_own-len.false in
    let fits = c.if-short-room.false in
    let most = c.requires.few in (
      tells_own w c.args.task c.space-space.result c.space-space.ensures b.right own c.own_of-own.ensures.own,
      λ m is.
          let long = is.size in
          record {
            fits = omega (arith, long, fits, most);
            space = c.space-space.result;
            there = c.space-space.ensures;
            needs = short_needs w.ports names m b (own_names own) is c.own_of-own.ensures.needs;
            names = omega (arith, size, below, count);
          },
    )
