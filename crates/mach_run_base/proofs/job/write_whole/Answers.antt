use Rattle.std.proofs.Common.{◌≡◌, List, All, map, ap, ◌∙◌, subst, arith}
use Rattle.std.proofs.lemmas.List.{length-map}
use Rattle.std.proofs.lemmas.List.Elements.{All-map}
use Rattle.std.specs.Io.KnownBytes.{Appends}
use Rattle.mach_types.specs.declared.profiles.Profile.{Profile}
use Rattle.kernel_lock.specs.declared.entry.Entry.{Entry}
use Rattle.kernel_lock.specs.History.{Known}
use Rattle.kernel_lock.specs.Replays.{Stored, Replays, kept_of}
use Rattle.kernel_lock.proofs.Replaying.{legal_of}
use Rattle.mach_run_base.specs.Callers.{SeesAll}
use Rattle.mach_run_base.specs.Enrolling.{AreWhole, pass_of}
use Rattle.mach_run_base.specs.Jobs.{history_shown}
use Rattle.mach_run_base.proofs.job.write_whole.Goals as goal

pub returns : goal.returns
returns g c keeps =
    let held = c.with_passes-held in
    let kernel = held.result.kernel in
    let blocks = c.args.callers.blocks.items in
    let same : c.show_all.new.held.kernel ≡ kernel = c.show_all.ensures.same ∙ c.show.ensures.same in
    let stored : c.entries.result.now ≡ kernel.log =
    c.entries.ensures.stored ∙ (λ i. kept_of (same i).keeps (same i).log) ∙ ap (λ b. kept_of b kernel.log) (held.ensures.keeps ∙ keeps) in
    let profile = c.args.shared.now.profile in
    let replays : Replays profile kernel.log kernel.kernel =
    subst (λ (p : Profile). Replays p kernel.log kernel.kernel) held.ensures.profile (subst (λ (k : Stored). Replays k.profile k.log k.kernel) same c.entries.ensures.replays) in
    let all : All (λ one. SeesAll (pass_of one) kernel.log) blocks = subst (λ k. All (λ one. SeesAll (pass_of one) k.log) blocks) c.show.ensures.same c.show_all.ensures.all in
    let whole : AreWhole kernel.log c.args.callers.main (map pass_of blocks) = record {
      first = record { begins = c.show.ensures.begins; own = c.show.ensures.own };
      all = All-map (λ (w : Known). SeesAll w kernel.log) pass_of blocks all;
      others = λ d above. held.ensures.others d (let many = length-map blocks pass_of in let len = c.len.ensures in omega (arith, above, many, len));
    } in (
      kernel.log,
      legal_of profile kernel.log kernel.kernel replays,
      whole,
      subst (λ (entries : List Entry). Appends (g.W.Write.contents c.args.out.now) (g.W.Write.contents c.write_history.new.out) (history_shown c.args.layout.profile c.args.layout.warn entries)) stored c.in_ok-write_history.ensures,
    )
