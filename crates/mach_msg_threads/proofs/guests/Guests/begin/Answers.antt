use Rattle.std.proofs.Common.{rules}
use Rattle.std.proofs.lemmas.List.{set-set}
use Rattle.mach_msg_threads.proofs.guests.Guests.begin.Goals as goal

pub returns-clause-begins : goal.returns-clause-begins
returns-clause-begins c =
    let again = set-set c.args.self.now.all.items c.args.place (Rattle.mach_msg_threads.specs.declared.guests.Standing.TheVariants.Waits c.args.on) Rattle.mach_msg_threads.specs.declared.guests.Standing.TheVariants.Runs in search rules
