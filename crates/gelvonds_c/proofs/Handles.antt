-- A handle by value, taken apart and put together. Assumes `Logic`.
use mathlib.Core.Path.{◌≡◌, refl, subst}
use Prim.Native.Nat.{ℕ}
use mathlib.Core.List.{List, [], ◌∷◌, ◌++◌}
use seplogic.Ra.Ura.{Ura}
use mir.Syntax.{impl, tnil}
use mir.Raw.{raw as bare}
use mir.Val.{Val, vstruct, of_list}
use base.Fraction.{full_share}
use base.Logic.{ent, guard, via, snd∗, guard_i, never_e}
use base.Fml.{ftrue}
use types.Logic.{Logic, sem}
use types.Kit.{Item, Goal, Seq, Step, step, ‵, given, ◌$◌, move, drop, fsplit, fjoin, fpick, fpack, feq_i, feq_l, learn, use1}
use contract.Monad.{fact_use}
use denote.RattleType.{Valss}
use denote.Memory.{lone}
use denote.RawPtr.{Ptr, block_ptr, null_ptr, ptr_val, lies_at, Testable}
use denote.Signature.{Slot, plain}
use denote.Struct.Owning.{shape, fields, to}
use denote.Struct.Struct.{within}
use denote.Steps.{nothing}
use Rattle.core.proofs.alloc.Calls.{Fits, handle_tells}
use Rattle.std.specs.declared.option.Option.{Option}
use Rattle.std.specs.declared.option.Option.TheVariants.{None, Some}
use Rattle.std_alloc.proofs.BoxSteps.Form.{Bx, handle}
use Rattle.std_heap.proofs.GlobalToken.{dealloc_token-Testable}
use Rattle.std_heap.specs.contracts.Global as Heap
use Rattle.std_heap.specs.contracts.GlobalAllocator.TheImpl.{ghosts, dict}
use Rattle.std_heap.proofs.Global.TheLaws as heap
use Rattle.kernel_record.specs.contracts.recorded.RecordedKernel as Kernel
use Rattle.kernel_record.proofs.recorded.RecordedKernel.TheLaws as kernel
use Rattle.gelvonds_c.specs.Held.{held, boxed}
use Rattle.gelvonds_c.specs.contracts.parts.Parts as Parts
use Rattle.gelvonds_c.specs.contracts.handle.Handle as Handle

abbrev pub E : Bx
E = record { row = Kernel.the_row; laws = kernel.the_row_laws; al = record { row = Heap.the_row; laws = heap.the_row_laws; g = ghosts; d = dict; drops = impl [] tnil mir.Syntax.dnil } }

abbrev pub FromParts : Slot 0
FromParts = plain (λ _. Parts.the_row Kernel.the_row Heap.the_row ghosts)

abbrev pub FromHandle : Slot 0
FromHandle = plain (λ _. Handle.the_row)

abbrev pub word : Ptr → Val → Val
word p h = vstruct (of_list (ptr_val p ∷ h ∷ []))

module _ {M : Type 1} {𝓤 : Ura M} (𝓛 : Logic 𝓤) where
  pub tested : (a : Heap.the_row.Denot) (p : Ptr) (x : Kernel.the_row.Denot) → ent 𝓤 (sem 𝓛 (boxed a p x)) (guard 𝓤 (Testable p) (sem 𝓛 (boxed a p x)))
  tested a p x = fact_use 𝓤 (Testable p) (via 𝓤 _ (snd∗ 𝓤 (sem 𝓛 (lies_at Kernel.the_row full_share p x)) (sem 𝓛 (ghosts.dealloc_token a (bare (lone Kernel.the_row.mir)) p)))
      (dealloc_token-Testable 𝓛 a (bare (lone Kernel.the_row.mir)) p)) (guard_i 𝓤 (Testable p) (sem 𝓛 (boxed a p x)))

module _ {M : Type 1} {𝓤 : Ura M} {𝓛 : Logic 𝓤} {K : Type 0} {Γ : List (Item 𝓤)} {G : Goal 𝓤 𝓛.H} where
  pub handle_out : K → (d : Handle.the_row.Denot) (vs : List Val)
      → ((h : Val) → vs ≡ word d.ptr h ∷ [] → Fits E.al h → Seq K 𝓛 (‵ (held d.alloc d.ptr d.kernel) ∷ ‵ (handle E d.alloc h) ∷ Γ) G)
      → Seq K 𝓛 (‵ (Handle.the_row.own_val d vs) ∷ Γ) G
  handle_out t d vs k =
      fsplit t $ fpick t (λ vss. fsplit t $ feq_l t (λ ev. fsplit t $ feq_l t (λ ep. fsplit t $ handle_tells E.al t d.alloc vss.1.0 (λ h ea fits. move t (1 ∷ []) $ drop t $ move t (1 ∷ []) $ k h
      (subst (λ (ws : List Val). vs ≡ vstruct (of_list (ptr_val d.ptr ∷ (ws ++ []))) ∷ []) ea (subst (λ (ps : List Val). vs ≡ vstruct (of_list (ps ++ (vss.1.0 ++ []))) ∷ []) ep ev)) fits))))

  pub either_held : K → (a : Heap.the_row.Denot) (p : Ptr) (x : Option Kernel.the_row.Denot) → (p ≡ null_ptr → x ≡ None → Seq K 𝓛 Γ G)
      → ((b o : ℕ) (k : Kernel.the_row.Denot) → p ≡ block_ptr b o → x ≡ Some k → Testable (block_ptr b o) → Seq K 𝓛 (‵ (boxed a (block_ptr b o) k) ∷ Γ) G) → Seq K 𝓛 (‵ (held a p x) ∷ Γ) G
  either_held t a null_ptr None none one = drop t $ none refl refl
  either_held t a null_ptr (Some k) none one = use1 𝓛 (given ⊥ (‵ ftrue)) (never_e 𝓤 _) $ learn t (λ w. absurd w)
  either_held t a (block_ptr b o) None none one = use1 𝓛 (given ⊥ (‵ ftrue)) (never_e 𝓤 _) $ learn t (λ w. absurd w)
  either_held t a (block_ptr b o) (Some k) none one =
      use1 𝓛 (given (Testable (block_ptr b o)) (‵ (boxed a (block_ptr b o) k))) (tested 𝓛 a (block_ptr b o) k) $ learn t (λ e. one b o k refl refl e)

  -- what is owned at a pointer and at null, put into a handle
  pub handle_in : K → (a : Heap.the_row.Denot) (p : Ptr) (x : Option Kernel.the_row.Denot) (h : Val)
      → Step K 𝓛 (‵ (Handle.the_row.own_val (record { ptr = p; alloc = a; kernel = x }) (word p h ∷ [])) ∷ Γ) G (‵ (held a p x) ∷ ‵ (handle E a h) ∷ Γ) G
  handle_in t a p x h = step (λ s. let v : Val = word p h in
      nothing t $ move t (2 ∷ 0 ∷ []) $ fjoin t $ feq_i t (List Val) (ptr_val p ∷ []) (ptr_val p ∷ []) refl $ fjoin t $ feq_i t (List Val) (v ∷ []) (v ∷ []) refl $ fjoin t $
      fpack t (Valss (fields Handle.the_type)) (within (shape Handle.the_type) (to Handle.the_type (record { ptr = p; alloc = a; kernel = x })) (v ∷ [])) (ptr_val p ∷ [], (h ∷ [], tt)) $ fjoin t $ s)
