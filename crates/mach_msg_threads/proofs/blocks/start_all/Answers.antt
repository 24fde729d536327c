use Rattle.std.proofs.Common.{rules, ◌≡◌, [], ◌∷◌, ◌++◌}
use Rattle.mach_msg_threads.proofs.Rows.{zip_push}
use Rattle.mach_msg_threads.proofs.blocks.start_all.Goals as goal

pub loop-block-preserved : goal.loop-block-preserved
loop-block-preserved g c =
    let l = c.loop-block in
    let h = c.in-Ok.handle in
    let pushed : c.push.new.self.items ≡ l.handles.items ++ h ∷ [] = search rules in
    let pass_is : h.promise.pass.value ≡ c.in-Some.block.pass = search rules in
    let calls_are : h.promise.calls.value ≡ c.in-Some.block.calls = search rules in
    zip_push _ l.yielded l.handles.items c.push.new.self.items c.in-Some.block h pushed l.invariant (pass_is, calls_are)
