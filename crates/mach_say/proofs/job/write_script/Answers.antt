use Rattle.std.proofs.Common.{rules, ◌≡◌, ◌<◌, length, get_or, sym, subst, take}
use Rattle.std.specs.Prelude.{flat_map}
use Rattle.std.proofs.lemmas.List.{take_all}
use Rattle.std.specs.Io.KnownBytes.{Appends}
use Rattle.tracer_base.proofs.ReplyLemmas.{appends-more}
use Rattle.mach_say.specs.Jobs.{script_line}
use Rattle.mach_say.proofs.Scripts.{script_more}
use Rattle.mach_say.proofs.job.write_script.Goals as goal

pub loop-entry-preserved : goal.loop-entry-preserved
loop-entry-preserved g c =
    let i = c.loop-entry.entry-index in
    let e = c.entry-item.result in
    let low : i < length c.args.entries.now = search rules in
    let here : get_or c.args.entries.now i e ≡ e = search rules in
    let written : Appends (g.W.Write.contents c.loop-entry.out) (g.W.Write.contents c.write_line.new.out) (script_line e) = search rules in
    subst (Appends (g.W.Write.contents c.args.out.now) (g.W.Write.contents c.write_line.new.out)) (sym (script_more c.args.entries.now i e low here))
    (appends-more _ _ _ (flat_map script_line (take i c.args.entries.now)) (script_line e) c.loop-entry.invariant written)

pub returns : goal.returns
returns g c =
    let all : take c.loop-entry.entry-index c.args.entries.now ≡ c.args.entries.now = search (rules, take_all) in
    subst (λ entries. Appends (g.W.Write.contents c.args.out.now) (g.W.Write.contents c.loop-entry.out) (flat_map script_line entries)) all c.loop-entry.invariant
