use Rattle.std.proofs.Common.{◌≡◌, ◌∙◌, ℕ, Option, length, subst}
use Rattle.std.specs.Option.{option_or}
use Rattle.mach_types.specs.declared.touched.Touched.{Touched}
use Rattle.mach_laws.specs.Touching.{TouchesOnly}
use Rattle.copyin_base.specs.Worlds.{WorldView}
use Rattle.mach_fates.specs.Keeping.{TakesFrom, HasIdentities, Follows}
use Rattle.mach_fates.specs.Places.{Keeps}
use Rattle.mach_fates.specs.Sources.{source_before, IsSourceAfter}
use Rattle.mach_fates.proofs.Finding.{IsSource, find_source}
use Rattle.mach_fates.proofs.Joining.{keeps_on, taken_told, kept_same, keeps_same, refusal_joins}
use Rattle.mach_fates.proofs.Visiting.{sees_followed, sees_source}
use Rattle.mach_fates.proofs.fates.Fates.replay.Goals as goal

pub returns-then-is_refusal : goal.returns-then-is_refusal
returns-then-is_refusal c = record {
  follows = λ said few profile path s is number shown keeps.
      let e = c.args.entry.now in
      let r = c.in_ok-answered.ensures.said said (length path) s shown in
      let g = c.next_step.ensures profile path s e.event e.reply r.0 is r.1 in
      refusal_joins profile path s e.event e.reply r.0 c.replay.new.self.kernel.tables c.args.self.now c.begin.new.self r.1 g r.2 (keeps_same path s c.args.self.now c.begin.new.self c.begin.ensures.ports c.begin.ensures.made keeps) c.begin.ensures.taken c.begin.ensures.ports (c.is_refusal.ensures.yes c.if-is_refusal.true);
}

pub returns : goal.returns
returns c = record {
  follows = λ said few profile path s is number shown keeps.
      let e = c.args.entry.now in
      let old = c.args.follower.now.kernel.tables in
      let w = c.replay.new.self.kernel.tables in
      let r = c.in_ok-answered.ensures.said said (length path) s shown in
      let t = r.0 in
      let g = c.next_step.ensures profile path s e.event e.reply t is r.1 in
      let touched = c.replay.new.self.kernel.touched in
      let only : TouchesOnly s t touched = r.3 (c.is_refusal.ensures.no c.if-is_refusal.false) in
      let source : Option ℕ = option_or c.source_before-before.result c.source_after.result in
      let found : IsSource s t source =
      find_source old w s t e.event e.reply g.lawful shown r.2 r.4 g.takes c.source_before-before.result c.source_after.result
      (subst (λ (x : WorldView). c.source_before-before.result ≡ source_before x e.event e.reply) c.tables.ensures c.source_before-before.ensures)
      (subst (λ (x : WorldView). IsSourceAfter x e.event e.reply c.source_after.result) c.tables-2.ensures c.source_after.ensures) in
      let takes = subst (λ (o : Option ℕ). TakesFrom c.args.number w o c.begin.new.self c.take_from.new.self) c.or-source.ensures
      (subst (λ (x : WorldView). TakesFrom c.args.number x c.or-source.result c.begin.new.self c.take_from.new.self) c.tables-3.ensures c.in_ok-take_from.ensures) in
      let follows =
      subst (λ (x : Touched). Follows c.args.number w x c.take_from.new.self c.follow.new.self) c.touched.ensures
      (subst (λ (x : WorldView). HasIdentities x → Follows c.args.number x c.touched.result c.take_from.new.self c.follow.new.self) c.tables-4.ensures c.in_ok-follow.ensures few) in
      let before : Keeps c.begin.new.self path s = keeps_same path s c.args.self.now c.begin.new.self c.begin.ensures.ports c.begin.ensures.made keeps in
      record {
        t = t;
        step = r.1;
        goes_on = g.path_then;
        shown = r.2;
        keeps = keeps_on c.args.number w profile path s e.event e.reply t c.begin.new.self c.take_from.new.self c.follow.new.self source touched number g r.2 only before c.begin.ensures.taken found takes follows;
        taken = taken_told c.args.number w profile path s e.event e.reply t c.begin.new.self c.take_from.new.self c.follow.new.self source touched number g r.2 only before c.begin.ensures.taken found takes follows;
        quiet = λ p apart. (
          (sees_followed c.args.number w source touched c.begin.new.self c.take_from.new.self c.follow.new.self takes follows).quiet p apart ∙ kept_same c.args.self.now c.begin.new.self c.begin.ensures.ports p,
          found.others p (λ is. sees_source c.args.number w source c.begin.new.self c.take_from.new.self takes p is (follows.sees.more p apart)),
        );
      };
}
