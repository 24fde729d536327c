use Rattle.std.proofs.Common.{List, subst, ap}
use Rattle.kernel_lock.specs.History.{Known}
use Rattle.mach_msg_threads.specs.declared.block.Call.{Call}
use Rattle.mach_msg_threads.specs.Blocks.{Ran}
use Rattle.mach_msg_threads.proofs.Rows.{zip_through, zip_tied, if_ok_map}
use Rattle.mach_msg_threads.proofs.blocks.fn.run_blocks.scope.Goals as goal

pub returns : goal.returns
returns g c = record {
  tied = if_ok_map _ _ c.join_all.result
      (λ all done. zip_tied _ (λ h. h.promise.pass.value.table) (λ ran. ran.0.table) _ (λ h ran kept. kept.0) _ _ done
      (zip_tied _ (λ block. block.pass.table) (λ h. h.promise.pass.value.table) _ (λ block h same. ap (λ (k : Known). k.table) same.0) _ _ c.in_ok-handles.ensures c.requires)) c.join_all.ensures;
  ran = if_ok_map _ _ c.join_all.result
      (λ all done. zip_through _ _ _
      (λ block h ran same kept. subst (λ (x : Known × List Call). Ran x.0 x.1 ran.1.items ran.0) (λ i. (same.0 i, (same.1 i).items)) kept.1) _ _ _ c.in_ok-handles.ensures done) c.join_all.ensures;
}
