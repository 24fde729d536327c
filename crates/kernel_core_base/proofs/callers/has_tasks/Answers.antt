use Rattle.std.proofs.Common.{inl, inr}
use Rattle.kernel_core_base.proofs.callers.has_tasks.Goals as goal

-- each call that names one task
pub returns-in-TaskTerminate : goal.returns-in-TaskTerminate
returns-in-TaskTerminate c =
    elim c.in-TaskTerminate.is [ inl e ↦ rw e c.lives.ensures | inr r0 ↦ elim r0 [ inl e ↦ rw e.1 c.lives.ensures | inr r1 ↦ elim r1 [ inl e ↦ rw e.2 c.lives.ensures | inr r2 ↦ elim r2 [ inl e ↦ rw e.1 c.lives.ensures | inr r3 ↦ elim r3 [ inl e ↦ rw e.1 c.lives.ensures | inr r4 ↦ elim r4 [ inl e ↦ rw e.3 c.lives.ensures | inr r5 ↦ elim r5 [ inl e ↦ rw e.2 c.lives.ensures | inr r6 ↦ elim r6 [ inl e ↦ rw e.1 c.lives.ensures | inr r7 ↦ elim r7 [ inl e ↦ rw e c.lives.ensures | inr r8 ↦ elim r8 [ inl e ↦ rw e.2 c.lives.ensures | inr r9 ↦ elim r9 [ inl e ↦ rw e.1 c.lives.ensures | inr r10 ↦ elim r10 [ inl e ↦ rw e.2 c.lives.ensures | inr r11 ↦ elim r11 [ inl e ↦ rw e.2 c.lives.ensures | inr r12 ↦ elim r12 [ inl e ↦ rw e.2 c.lives.ensures | inr r13 ↦ elim r13 [ inl e ↦ rw e.1 c.lives.ensures | inr r14 ↦ elim r14 [ inl e ↦ rw e.2 c.lives.ensures | inr r15 ↦ elim r15 [ inl e ↦ rw e.2 c.lives.ensures | inr r16 ↦ elim r16 [ inl e ↦ rw e.2 c.lives.ensures | inr r17 ↦ elim r17 [ inl e ↦ rw e.5 c.lives.ensures | inr r18 ↦ elim r18 [ inl e ↦ rw e.1 c.lives.ensures | inr r19 ↦ elim r19 [ inl e ↦ rw e.3 c.lives.ensures | inr r20 ↦ rw r20.3 c.lives.ensures ] ] ] ] ] ] ] ] ] ] ] ] ] ] ] ] ] ] ] ] ]
