use Rattle.std.proofs.Common.{subst}
use Rattle.mach_types.specs.Numbers.{kind_sent}
use Rattle.name_space.specs.declared.Entry.{Entry}
use Rattle.copyin_base.specs.Changes.{InsertsEntry}
use Rattle.copyin_base.specs.Worlds.{WorldView}
use Rattle.copyout.specs.Giving.{alone, ports_given}
use Rattle.copyout.proofs.PortsGiven.{can_insert_held, given_live}
use Rattle.copyout.proofs.give.put_alone.Goals as goal

pub insert_entry-requires : goal.insert_entry-requires
insert_entry-requires c =
    can_insert_held c.args.world.now c.hold.new.world c.args.task c.args.name (ports_given (kind_sent c.args.given) c.args.task c.args.port c.args.world.now.ports)
    (alone (kind_sent c.args.given) c.args.port) c.alone.result c.hold.ensures c.alone.ensures
    (given_live c.args.task c.args.port c.args.world.now.ports (kind_sent c.args.given)) c.requires.can

pub returns : goal.returns
returns c =
    subst (λ (x : WorldView). InsertsEntry x c.args.task c.args.name (alone (kind_sent c.args.given) c.args.port) c.insert_entry.new.self) c.hold.ensures
    (subst (λ (e : Entry). InsertsEntry c.hold.new.world c.args.task c.args.name e c.insert_entry.new.self) c.alone.ensures c.insert_entry.ensures)
