use Rattle.std.proofs.Common.{rules, sym}
use Rattle.gelvonds_c.proofs.sets.gelvonds_port_get_set_status.Goals as goal
use Rattle.gelvonds_c.proofs.sets.gelvonds_port_get_set_status.Goals.{in_default-via-in-Some+in_default, in_default-via-in_default}

pub returns-in-Some-Members : goal.returns-in-Some-Members
returns-in-Some-Members c = record {
  reply = c.call-reply.result;
  calls = rw (sym c.new.ensures, sym c.new-2.ensures) c.call-reply.ensures;
  code_is = search rules;
  members_are = search rules;
  count_is = search rules;
}

pub returns : goal.returns
returns c = record {
  reply = c.call-reply.result;
  calls = rw (sym c.new.ensures, sym c.new-2.ensures) c.call-reply.ensures;
  code_is = elim c.in_default.branch [ in_default-via-in-Some+in_default w ↦ search rules | in_default-via-in_default w ↦ search rules ];
  members_are = elim c.in_default.branch [ in_default-via-in-Some+in_default w ↦ search rules | in_default-via-in_default w ↦ search rules ];
  count_is = elim c.in_default.branch [ in_default-via-in-Some+in_default w ↦ search rules | in_default-via-in_default w ↦ search rules ];
}
