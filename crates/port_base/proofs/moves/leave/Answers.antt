use Rattle.std.proofs.Common.{sym, subst}
use Rattle.port_base.specs.Memberships.{IsHome, IsOut}
use Rattle.port_base.proofs.Settled.{out_nowhere, out_alone}
use Rattle.port_base.proofs.moves.leave.Goals as goal

pub leave_alone-requires-clause-first : goal.leave_alone-requires-clause-first
leave_alone-requires-clause-first c = (subst (λ q. IsHome c.args.sets.now c.args.key q) c.in-Alone.is c.requires.home).0

pub leave_alone-requires-clause-alone : goal.leave_alone-requires-clause-alone
leave_alone-requires-clause-alone c = (subst (λ q. IsHome c.args.sets.now c.args.key q) c.in-Alone.is c.requires.home).1

pub leave_all-requires-clause-first : goal.leave_all-requires-clause-first
leave_all-requires-clause-first c = (subst (λ q. IsHome c.args.sets.now c.args.key q) c.in-Several.is c.requires.home).0

pub returns-in-Nowhere : goal.returns-in-Nowhere
returns-in-Nowhere c = subst (λ q. IsOut c.args.sets.now c.args.key q c.args.is_ready c.args.sets.now) (sym c.in-Nowhere.is) (out_nowhere c.args.sets.now c.args.key c.args.is_ready (subst (λ q. IsHome c.args.sets.now c.args.key q) c.in-Nowhere.is c.requires.home))

pub returns-in-Alone : goal.returns-in-Alone
returns-in-Alone c = subst (λ q. IsOut c.args.sets.now c.args.key q c.args.is_ready c.leave_alone.new.self) (sym c.in-Alone.is) (out_alone c.args.sets.now c.leave_alone.new.self c.args.key c.in-Alone.set c.args.is_ready (subst (λ q. IsHome c.args.sets.now c.args.key q) c.in-Alone.is c.requires.home) c.leave_alone.ensures.after c.leave_alone.ensures.apart)

pub returns-in-Several : goal.returns-in-Several
returns-in-Several c = subst (λ q. IsOut c.args.sets.now c.args.key q c.args.is_ready c.leave_all.new.self) (sym c.in-Several.is) (record { lists = c.leave_all.ensures.after; none = c.leave_all.ensures.none; apart = c.leave_all.ensures.apart; others = c.leave_all.ensures.others })
