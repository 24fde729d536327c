use Rattle.std.proofs.Common.{◌<◌, sym, ap, subst, ◌∙◌}
use Rattle.copyin_base.specs.Worlds.{WorldView}
use Rattle.destroy.specs.Judging.{remaining}
use Rattle.destroy.proofs.JudgeDoomed.{dooms_fewer, dooms_continues}
use Rattle.destroy.proofs.judging.judge.Goals as goal

pub returns-in-None-clause-continues : goal.returns-in-None-clause-continues
returns-in-None-clause-continues c = dooms_continues c.args.world.now c.args.port c.requires.lost c.in-None.ensures.none c.doom-has_messages.new.world c.doom-has_messages.ensures.doomed c.destroy_any.result c.destroy_any.new.world
    c.destroy_any.ensures.empties c.destroy_any.ensures.emptied _ c.saturating_add.ensures

pub returns-in-None-clause-fewer : goal.returns-in-None-clause-fewer
returns-in-None-clause-fewer c = subst (λ n. n < remaining c.args.world.now) (sym c.destroy_any.ensures.remains) (dooms_fewer c.args.world.now c.args.port c.requires.lost c.in-None.ensures.none c.doom-has_messages.new.world c.doom-has_messages.ensures.doomed c.requires.at)

pub returns-in-None-clause-spaces : goal.returns-in-None-clause-spaces
returns-in-None-clause-spaces c = c.destroy_any.ensures.spaces ∙ ap (λ (w : WorldView). w.spaces) c.doom-has_messages.ensures.doomed.rest
