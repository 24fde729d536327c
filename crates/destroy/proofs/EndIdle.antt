-- Where nothing is left to do, the step has ended: each part comes to nothing.
use Rattle.std.proofs.Common.{◌≡◌, ℕ, ◌&&◌, Bool, true, false, IsTrue, List, [], ◌∷◌, Option, slice_get, refl, ap, sym, ◌∙◌, arith}
use Rattle.std.specs.Prelude.{◌↔◌, Contains, is_some, not}
use Rattle.std.proofs.lemmas.Bool.{and_from, and_parts}
use Rattle.port.specs.declared.Holder.TheVariants as holder
use Rattle.port.specs.Holding.{NoneHeldBy}
use Rattle.port.specs.Idle.{IsIdle as AreIdle}
use Rattle.request_table.specs.declared.Request.{Request as NameRequest}
use Rattle.copyin_base.specs.Worlds.{WorldView, IsIdle}
use Rattle.destroy.specs.Stages.{IsJudged, AreLost, AreTold, AreBuried, IsStarted, Continues, Starts, SettlesIn, TellsDoomed, TellsLost}
use Rattle.destroy.proofs.EndSteps.{settles}
use Rattle.destroy.proofs.Counting.{count_none}
use Rattle.destroy.proofs.JudgeDoomed.{judges_all}
use Rattle.destroy.proofs.PayTurns.{pays_all, pays_first}

-- ---- what is told of ports and of requests is told of the tables

is_true : (b : Bool) → not b ≡ false → b ≡ true
is_true true e = refl
is_true false e = cc

none_first : (rs : List NameRequest) → is_some (slice_get rs 0) ≡ false → rs ≡ []
none_first [] e = refl
none_first (r ∷ rs) e = cc

module _ (w : WorldView) where
  idle_world : AreIdle w.ports → w.requests.names.went ≡ [] → IsIdle w
  idle_world i went = record { none_lost = record { lost = i.lost; doomed = i.doomed; destroyed = i.destroyed }; noted = i.noted; went = went }

  idle_ports : IsIdle w → AreIdle w.ports
  idle_ports i = record { lost = i.none_lost.lost; doomed = i.none_lost.doomed; noted = i.noted; destroyed = i.none_lost.destroyed }

  pub idle_told : (ports : Bool) → (IsTrue ports ↔ AreIdle w.ports) → (first : Option NameRequest) → first ≡ slice_get w.requests.names.went 0 → (none : Bool) → is_some first ≡ not none → IsTrue (ports && none) ↔ IsIdle w
  idle_told ports tells first is none told = (
    λ h.
        let both = and_parts ports none h in
        idle_world (tells.0 both.0) (none_first w.requests.names.went (ap is_some (sym is) ∙ told ∙ ap not both.1)),
    λ i. and_from ports none (tells.1 (idle_ports i)) (is_true none (sym told ∙ ap is_some (is ∙ ap (λ rs. slice_get rs 0) i.went))),
  )

-- ---- the step's end

module _ (w : WorldView) (idle : IsIdle w) (lost : TellsLost w) (doomed : TellsDoomed w) where
  none_lost : NoneHeldBy w.ports holder.Nobody
  none_lost port v there is = nothing w.ports.lost idle.none_lost.lost ((lost port).1 (record { view = v; there = there; holder_is = is }))
    where
      nothing : (ps : List ℕ) → ps ≡ [] → Contains ps port → ⊥
      nothing [] e (i, below, at) = omega (arith, below)
      nothing (p ∷ ps) e one = cc

  starts : Starts w w
  starts = pays_all w w (pays_first w doomed lost) idle.went

  judges : Continues IsStarted IsJudged w 0 w
  judges = judges_all w w 0 (λ now tables old mid owed e b s. (e, b, count_none e.turns, refl, s)) none_lost idle.none_lost.lost

  loses : Continues IsJudged AreLost w 0 w
  loses now tables old mid owed e b s = (e, b, count_none e.turns, refl, record { judged = s; none_destroyed = idle.none_lost.destroyed })

  tells : Continues AreLost AreTold w 0 w
  tells now tables old mid owed e b s = (e, b, count_none e.turns, refl, record { lost = s; none_noted = idle.noted })

  buries : Continues AreTold AreBuried w 0 w
  buries now tables old mid owed e b s = (e, b, count_none e.turns, refl, record { told = s; none_doomed = idle.none_lost.doomed })

  pub settles_idle : SettlesIn w 0 w
  settles_idle = settles w w w w w w 0 0 0 0 0 starts judges loses tells buries doomed (omega arith)
