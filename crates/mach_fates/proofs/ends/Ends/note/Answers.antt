use Rattle.std.proofs.Common.{List, ℕ, subst}
use Rattle.mach_fates.specs.Noting.{Notes, SettlesAll}
use Rattle.mach_fates.proofs.Telling.{tells_on}
use Rattle.mach_fates.proofs.Visiting.{on_ok}
use Rattle.mach_fates.proofs.ends.Ends.note.Goals as goal

pub returns : goal.returns
returns c =
    let e = c.args.entry.now in
    let f = c.args.fates.now in
    on_ok c.settle_all.result _ _ c.settle_all.ensures
    (λ settles profile path s w before is number keeps j tells.
    let notes : Notes e.reply c.args.number f c.args.self.now c.settle_all.new.self = record {
      end = c.end_of_taken-end.result;
      ends_as = c.end_of_taken-end.ensures;
      mid = c.note_taken.new.self;
      counts = c.in_ok-note_taken.ensures;
      settles = subst (λ (xs : List ℕ). SettlesAll c.args.number f xs c.note_taken.new.self c.settle_all.new.self) c.visited.ensures settles;
    } in
    tells_on c.args.number profile path s e.event e.reply j.t before f c.args.self.now c.settle_all.new.self number (c.next_step.ensures profile path s e.event e.reply j.t is j.step) keeps j.keeps j.taken j.quiet notes tells)
