-- Tables that are as before but for room show the states that they showed.
use Rattle.std.proofs.Common.{◌≡◌, ℕ, Option, refl, subst, arith}
use Rattle.mach_types.specs.Tokens.{Request, no_senders, port_destroyed, dead_name}
use Rattle.mach_model.specs.State.{State}
use Rattle.copyin_base.specs.Changes.{with_slots}
use Rattle.request_table.specs.Tables.{RequestTablesView}
use Rattle.copyin_base.specs.Requests.{notify_of, RequestsAgree}
use Rattle.copyin_base.specs.Worlds.{WorldView}
use Rattle.copyin_base.specs.Shows.{Shows}
use Rattle.copyin_base.proofs.Roomier.{room_shows, slots_show}
use Rattle.notifications.specs.Room.{with_rooms, SameButRooms}

pub same_notify : (v : RequestTablesView) (a b c : ℕ) (r : Request) → notify_of v r ≡ notify_of (with_rooms v a b c) r
same_notify v a b c (no_senders p) = refl
same_notify v a b c (port_destroyed p) = refl
same_notify v a b c (dead_name task name) = refl

-- room for requests is of no account to the machine
requests_show : (w : WorldView) (s : State) (a b c : ℕ) → Shows w s → Shows (record w { requests = with_rooms w.requests a b c }) s
requests_show w s a b c sh = record {
  agrees =
      let x = sh.agrees in
      let of_requests = subst (λ (f : Request → Option ℕ). RequestsAgree f w.requests.names.went w.ports.made s.stands s.live_port s.ledger) (λ i r. same_notify w.requests a b c r i) x.of_requests in
      assumption (x, of_requests);
  holders = record { held = sh.holders.held };
  carriers = record { given = sh.carriers.given; carried = sh.carriers.carried };
  slots = sh.slots;
  requested = record {
    on_names = λ key r is. let o = sh.requested.on_names key r is in record { own = o.own; small = o.small; entry = o.entry; found = o.found; for_port = o.for_port; live = o.live };
    no_senders = sh.requested.no_senders;
    port_destroyed = sh.requested.port_destroyed;
  };
  idle = record { none_lost = record { lost = sh.idle.none_lost.lost; doomed = sh.idle.none_lost.doomed; destroyed = sh.idle.none_lost.destroyed }; noted = sh.idle.noted; went = sh.idle.went };
  lawful = sh.lawful;
}

pub rooms_show : (w v : WorldView) (s : State) → SameButRooms w v → Shows w s → Shows v s
rooms_show w v s r sh =
    let enough = sh.slots in
    let more = r.more in
    room_shows (record (with_slots w r.spare) { requests = with_rooms w.requests r.names r.senders r.destroyed }) v s r.same
    (requests_show (with_slots w r.spare) s r.names r.senders r.destroyed (slots_show w s r.spare (omega (arith, enough, more)) sh))
