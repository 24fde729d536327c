use Rattle.std.proofs.Common.{refl, sym, subst}
use Rattle.port_base.specs.declared.Membership.TheVariants.{Nowhere, Alone}
use Rattle.port_base.specs.Memberships.{IsHome, IsSettled}
use Rattle.port_base.proofs.Settled.{out_none, nothing_in, not_only, settled_new, settled_same, alone_lists, alone_none, alone_others}
use Rattle.port_base.proofs.moves.settle.Goals as goal

pub returns-in-Nowhere : goal.returns-in-Nowhere
returns-in-Nowhere c =
    subst (λ q. IsSettled c.args.sets.now c.args.key q c.args.set c.args.is_ready c.enter.new.self) (sym c.in-Nowhere.is)
    (settled_new c.args.sets.now c.enter.new.self c.args.key c.args.set c.args.is_ready c.args.sets.now Nowhere (out_none c.args.sets.now c.args.key c.args.is_ready) (subst (λ q. IsHome c.args.sets.now c.args.key q) c.in-Nowhere.is c.requires.home).1 (λ o d. refl) (nothing_in c.args.set) c.enter.ensures)

pub returns-then-only-set : goal.returns-then-only-set
returns-then-only-set c =
    subst (λ q. IsSettled c.args.sets.now c.args.key q c.args.set c.args.is_ready c.enter-then-only-set.new.self) (sym c.in-Alone.is)
    (settled_new c.args.sets.now c.enter-then-only-set.new.self c.args.key c.args.set c.args.is_ready c.leave_alone.new.self (Alone c.in-Alone.only) (alone_lists c.args.sets.now c.leave_alone.new.self c.args.key c.in-Alone.only c.args.is_ready (subst (λ q. IsHome c.args.sets.now c.args.key q) c.in-Alone.is c.requires.home) c.leave_alone.ensures.after) (alone_none c.args.sets.now c.leave_alone.new.self c.args.key c.in-Alone.only c.args.is_ready (subst (λ q. IsHome c.args.sets.now c.args.key q) c.in-Alone.is c.requires.home) c.leave_alone.ensures.after) (alone_others c.args.sets.now c.leave_alone.new.self c.args.key c.in-Alone.only c.args.is_ready (subst (λ q. IsHome c.args.sets.now c.args.key q) c.in-Alone.is c.requires.home) c.leave_alone.ensures.after)
    (not_only c.in-Alone.only c.args.set c.if-only-set.true) c.enter-then-only-set.ensures)

pub returns-else-only-set : goal.returns-else-only-set
returns-else-only-set c =
    subst (λ q. IsSettled c.args.sets.now c.args.key q c.args.set c.args.is_ready c.args.sets.now) (sym c.in-Alone.is)
    (settled_same c.args.sets.now c.args.key c.in-Alone.only c.args.set c.args.is_ready c.if-only-set.false (subst (λ q. IsHome c.args.sets.now c.args.key q) c.in-Alone.is c.requires.home))
