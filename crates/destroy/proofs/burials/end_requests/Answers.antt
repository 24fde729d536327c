use Rattle.std.proofs.Common.{◌≡◌, ◌⊎◌}
use Rattle.mach_types.specs.Tokens.{no_senders, port_destroyed}
use Rattle.destroy.specs.Burying.{IsOnName}
use Rattle.destroy.proofs.BuryNames.{still_next, joined, all_kinds}
use Rattle.destroy.proofs.burials.end_requests.Goals as goal

pub end_port_destroyed-requires : goal.end_port_destroyed-requires
end_port_destroyed-requires c = still_next c.args.port (λ r. r ≡ no_senders c.args.port) c.args.world.now c.end_no_senders.result c.end_no_senders.new.world c.requires c.end_no_senders.ensures

pub end_names-requires : goal.end_names-requires
end_names-requires c = still_next c.args.port (λ r. r ≡ port_destroyed c.args.port) c.end_no_senders.new.world c.end_port_destroyed.result c.end_port_destroyed.new.world
    (still_next c.args.port (λ r. r ≡ no_senders c.args.port) c.args.world.now c.end_no_senders.result c.end_no_senders.new.world c.requires c.end_no_senders.ensures) c.end_port_destroyed.ensures

pub returns : goal.returns
returns c = all_kinds c.args.port c.args.world.now _ c.end_names.new.world
    (joined c.args.port (λ r. (r ≡ no_senders c.args.port) ⊎ (r ≡ port_destroyed c.args.port)) IsOnName c.args.world.now _ c.end_port_destroyed.new.world c.end_names.result c.end_names.new.world
    (joined c.args.port (λ r. r ≡ no_senders c.args.port) (λ r. r ≡ port_destroyed c.args.port) c.args.world.now c.end_no_senders.result c.end_no_senders.new.world c.end_port_destroyed.result c.end_port_destroyed.new.world
    c.end_no_senders.ensures c.end_port_destroyed.ensures _ c.saturating_add.ensures) c.end_names.ensures _ c.saturating_add-2.ensures)
