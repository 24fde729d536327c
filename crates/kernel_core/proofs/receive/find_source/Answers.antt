use Rattle.std.proofs.Common.{sym}
use Rattle.transfer.proofs.Results.{if_ok, if_err}
use Rattle.kernel_core.proofs.InTurn.{port_first}
use Rattle.kernel_core.proofs.Ready.{source_is, source_found, source_ready}
use Rattle.kernel_core.proofs.Receiving.{source_there, port_sources, in_set_refused}
use Rattle.kernel_core.proofs.receive.find_source.Goals as goal

pub port_source-requires : goal.port_source-requires
port_source-requires c = source_there c.args.world.now c.args.task c.args.name c.in-Some.field-0.entry c.in-Some.ensures.some c.in-Some-receive_port.port (sym c.in-Some-receive_port.ensures) c.requires

pub returns-clause-ok : goal.returns-clause-ok
returns-clause-ok c = if_ok c.port_source.result _ _ c.port_source.ensures.ok (λ s h. source_is c.args.world.now c.args.task c.args.name c.in-Some-receive_port.port s.waited h.0
    (port_sources c.args.world.now c.args.task c.args.name c.in-Some.field-0.entry c.in-Some.ensures.some c.in-Some-receive_port.port (sym c.in-Some-receive_port.ensures) h.1))

pub returns-clause-found : goal.returns-clause-found
returns-clause-found c = if_ok c.port_source.result _ _ c.port_source.ensures.ok (λ s h. source_found c.args.world.now c.args.task c.args.name c.in-Some.field-0.entry c.in-Some.ensures.some c.in-Some-receive_port.port (sym c.in-Some-receive_port.ensures) s.waited h.0)

pub returns-clause-ready : goal.returns-clause-ready
returns-clause-ready c = if_ok c.port_source.result _ _ c.port_source.ensures.ok (λ s h. source_ready c.args.world.now c.in-Some-receive_port.port s.ready s.waited h.0 h.2)

pub returns-clause-err : goal.returns-clause-err
returns-clause-err c = if_err c.port_source.result _ _ c.port_source.ensures.err (λ code h. rw h.0 (in_set_refused c.args.world.now c.args.task c.args.name c.in-Some.field-0.entry c.in-Some.ensures.some c.in-Some-receive_port.port (sym c.in-Some-receive_port.ensures) h.1))

pub returns-clause-first : goal.returns-clause-first
returns-clause-first c = if_ok c.port_source.result _ _ c.port_source.ensures.ok (λ s h. port_first c.args.world.now c.in-Some-receive_port.port s.ready s.waited h.0)
