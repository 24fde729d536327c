use Rattle.std.proofs.Common.{rules, sym}
use Rattle.gelvonds_c.proofs.names.gelvonds_port_names.Goals as goal
use Rattle.gelvonds_c.proofs.names.gelvonds_port_names.Goals.{in_default-via-in-Some+in_default, in_default-via-in_default}

pub returns-in-Some-Names : goal.returns-in-Some-Names
returns-in-Some-Names c = record {
  reply = c.call-reply.result;
  calls = rw (sym c.new.ensures) c.call-reply.ensures;
  code_is = search rules;
  names_are = search rules;
  types_are = search rules;
  count_is = search rules;
}

pub returns : goal.returns
returns c = record {
  reply = c.call-reply.result;
  calls = rw (sym c.new.ensures) c.call-reply.ensures;
  code_is = elim c.in_default.branch [ in_default-via-in-Some+in_default w ↦ search rules | in_default-via-in_default w ↦ search rules ];
  names_are = elim c.in_default.branch [ in_default-via-in-Some+in_default w ↦ search rules | in_default-via-in_default w ↦ search rules ];
  types_are = elim c.in_default.branch [ in_default-via-in-Some+in_default w ↦ search rules | in_default-via-in_default w ↦ search rules ];
  count_is = elim c.in_default.branch [ in_default-via-in-Some+in_default w ↦ search rules | in_default-via-in_default w ↦ search rules ];
}
