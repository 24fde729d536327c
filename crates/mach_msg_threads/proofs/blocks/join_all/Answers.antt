use Rattle.std.proofs.Common.{rules, ◌≡◌, [], ◌∷◌, ◌++◌}
use Rattle.mach_msg_threads.specs.Blocks.{Ran}
use Rattle.mach_msg_threads.proofs.Rows.{zip_push}
use Rattle.mach_msg_threads.proofs.blocks.join_all.Goals as goal

pub loop-handle-preserved : goal.loop-handle-preserved
loop-handle-preserved g c =
    let l = c.loop-handle in
    let ran = c.in_ok-join.field-0 in
    let h = c.in-Some.handle in
    let pushed : c.push.new.self.items ≡ l.all.items ++ ran ∷ [] = search rules in
    let kept : (ran.0.table ≡ h.promise.pass.value.table) × Ran h.promise.pass.value h.promise.calls.value.items ran.1.items ran.0 = search rules in
    zip_push _ l.yielded l.all.items c.push.new.self.items h ran pushed l.invariant kept
