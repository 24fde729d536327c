use Rattle.std.proofs.Common.{◌≡◌, [], refl, subst, ◌∙◌, ap, sym}
use Rattle.tracer_base.specs.declared.blocks.ScriptLine.{ScriptLine}
use Rattle.tracer_base.specs.Blocks.{FitsSaid, said_text}
use Rattle.mach_run_base.specs.Scripts.{begun, said_call, said_script}
use Rattle.mach_run_base.proofs.ScriptLemmas.{call-added, block-added, block-refused, script_begun}
use Rattle.mach_run_base.proofs.script.Script.read_text.Goals as goal

pub returns-in-Call-clause-good : goal.returns-in-Call-clause-good
returns-in-Call-clause-good c =
    let fits : FitsSaid (ScriptLine.Call c.in-Call.event) = subst FitsSaid c.in-Call.is c.in_ok-event.ensures.fits in
    call-added c.add_event.result (said_script c.args.self.now) _ (ScriptLine.Call c.in-Call.event) refl c.requires fits c.add_event.ensures.ok

pub returns-in-Message-clause-good : goal.returns-in-Message-clause-good
returns-in-Message-clause-good c =
    let said = c.as_call.ensures in
    let fits : FitsSaid (said_call c.as_call.result) = subst FitsSaid (c.in-Message.is ∙ sym said) c.in_ok-event.ensures.fits in
    let bare : begun (said_call c.as_call.result) ≡ [] = ap begun said in
    call-added c.add_call.result (said_script c.args.self.now) _ (said_call c.as_call.result) bare c.requires fits c.add_call.ensures.ok

pub returns-in-Thread-clause-good : goal.returns-in-Thread-clause-good
returns-in-Thread-clause-good c =
    let fits : FitsSaid (ScriptLine.Thread c.in-Thread.number) = subst FitsSaid c.in-Thread.is c.in_ok-event.ensures.fits in
    let script = c.args.self.now in
    block-added c.begin_block.result (said_script script) _ script.blocks.items c.in-Thread.number (script_begun script.opening.items script.main.items script.blocks.items) c.requires fits c.begin_block.ensures.new c.begin_block.ensures.ok

pub returns-in-Thread-clause-bad : goal.returns-in-Thread-clause-bad
returns-in-Thread-clause-bad c =
    λ told said good same.
    let fits : FitsSaid (ScriptLine.Thread c.in-Thread.number) = subst FitsSaid c.in-Thread.is c.in_ok-event.ensures.fits in
    let spelled : said_text (ScriptLine.Thread c.in-Thread.number) ≡ c.args.text.now = subst (λ s. said_text s ≡ c.args.text.now) c.in-Thread.is c.in_ok-event.ensures.ok in
    let script = c.args.self.now in
    block-refused (said_script script) script.blocks.items c.in-Thread.number said c.args.text.now (script_begun script.opening.items script.main.items script.blocks.items) (c.begin_block.ensures.bad told) fits spelled good same
