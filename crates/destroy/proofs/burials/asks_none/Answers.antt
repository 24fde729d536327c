use Rattle.std.specs.FinMap as map
use Rattle.destroy.proofs.burials.asks_none.Goals as goal

pub returns : goal.returns
returns c e =
    let none = c.has_no_requests.ensures.0 e in
    record {
      names = none.0.0;
      no_senders = map.empty_of_len c.args.world.now.requests.no_senders.map none.1;
      port_destroyed = map.empty_of_len c.args.world.now.requests.port_destroyed.map none.2;
    }
