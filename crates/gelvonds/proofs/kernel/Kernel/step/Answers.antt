use Rattle.std.proofs.Common.{subst}
use Rattle.kernel_core.specs.Kernels.{KernelView}
use Rattle.gelvonds.specs.Steps.{IsStep}
use Rattle.gelvonds.proofs.Fitting.{answer_fits, answer_stands}
use Rattle.gelvonds.proofs.kernel.Kernel.step.Goals as goal

pub invariant_of-self : goal.invariant_of-self
invariant_of-self c = answer_stands c.self.inside.kernel.tables c.args.event.now c.step.result c.step.new.self.tables c.self.invariant c.step.ensures.answers

pub returns-clause-step : goal.returns-clause-step
returns-clause-step c =
    subst (λ (old : KernelView). IsStep old c.args.event.now c.step.result c.step.new.self) c.self.view_is (record {
      answers = c.step.ensures.answers;
      turns = c.step.ensures.turns;
      wanted = c.step.ensures.wanted;
      spares = c.step.ensures.spares;
      touches = c.step.ensures.touches;
      unused_are = c.step.ensures.unused;
    })

pub returns-clause-fits : goal.returns-clause-fits
returns-clause-fits c = answer_fits c.self.inside.kernel.tables c.args.event.now c.step.result c.step.new.self.tables c.self.invariant c.step.ensures.answers
