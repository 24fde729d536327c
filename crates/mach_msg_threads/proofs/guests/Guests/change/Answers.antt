use Rattle.std.proofs.Common.{rules, ◌<◌, length, get_or}
use Rattle.mach_msg_threads.specs.Waiting.{Hears}
use Rattle.mach_msg_threads.proofs.Heard.{zip_step}
use Rattle.mach_msg_threads.proofs.guests.Guests.change.Goals as goal

pub loop-guest-preserved : goal.loop-guest-preserved
loop-guest-preserved c =
    let l = c.loop-guest in
    let before = c.guest-item.result in
    let after = c.hear.new.self in
    let lt : l.guest-index < length l.guest-items = search rules in
    let heard : Hears c.args.touched.now (get_or l.guest-items l.guest-index before) after = search rules in
    zip_step (Hears c.args.touched.now) c.deref_mut-guest-items.result.now l.guest-items l.guest-index before after lt l.invariant.0 l.invariant.1 heard
