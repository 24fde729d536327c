use Rattle.std.proofs.Common.{◌≡◌, sym, ap, subst, ◌∙◌, ℕ}
use Rattle.name_space.specs.declared.Entry.TheVariants.{DeadName}
use Rattle.name_space.specs.Entry.{send_references}
use Rattle.copyin_base.specs.Worlds.{WorldView}
use Rattle.copyin_base.specs.Losing.{CanPost}
use Rattle.destroy.specs.Burying.{dead_count}
use Rattle.destroy.specs.Paying.{LivesIn, Pays, PaysMany}
use Rattle.copyin_base.specs.declared.Notice.TheVariants as notice
use Rattle.destroy.proofs.BuryNames.{name_taken, entry_there, can_put, named_post, named_ends, named_fewer}
use Rattle.destroy.proofs.burials.end_name.Goals as goal
use Rattle.destroy.proofs.burials.end_name.Goals.{in-Some, in_default}

pub put_left-requires : goal.put_left-requires
put_left-requires c =
    let t = c.take_on_name in
    let taken = name_taken c.args.world.now c.args.request t.result t.new.self t.ensures.request c.requires.is_on.there t.ensures.some in
    let dead : c.dead_name.result ≡ DeadName (dead_count (send_references c.in-Some.entry)) = c.dead_name.ensures ∙ ap (λ (n : ℕ). DeadName (dead_count n)) c.send_references.ensures.value in
    can_put c.args.port c.args.request c.args.world.now c.requires _ taken c.in-Some.entry (sym c.lookup-entry.ensures.value ∙ c.in-Some.is) c.dead_name.result dead

pub pay-requires : goal.pay-requires
pay-requires c =
    let t = c.take_on_name in
    let taken = name_taken c.args.world.now c.args.request t.result t.new.self t.ensures.request c.requires.is_on.there t.ensures.some in
    let some = entry_there c.args.port c.args.request c.args.world.now c.requires _ taken in
    elim c.match-entry.branch [
      | in-Some w ↦
          let dead : w.dead_name.result ≡ DeadName (dead_count (send_references w.in-Some.entry)) = w.dead_name.ensures ∙ ap (λ (n : ℕ). DeadName (dead_count n)) w.send_references.ensures.value in
          subst (λ (z : WorldView). LivesIn z c.args.request.notify → CanPost z c.args.request.notify) (sym w.world-is)
          (named_post c.args.port c.args.request c.args.world.now c.requires _ taken w.in-Some.entry (sym c.lookup-entry.ensures.value ∙ w.in-Some.is) w.dead_name.result dead w.put_left.new.self w.put_left.ensures)
      | in_default w ↦ absurd (w.in_default.not-Some some.0 (c.lookup-entry.ensures.value ∙ some.1))
    ]

pub returns-clause-ends : goal.returns-clause-ends
returns-clause-ends c =
    let t = c.take_on_name in
    let taken = name_taken c.args.world.now c.args.request t.result t.new.self t.ensures.request c.requires.is_on.there t.ensures.some in
    let some = entry_there c.args.port c.args.request c.args.world.now c.requires _ taken in
    elim c.match-entry.branch [
      | in-Some w ↦
          let dead : w.dead_name.result ≡ DeadName (dead_count (send_references w.in-Some.entry)) = w.dead_name.ensures ∙ ap (λ (n : ℕ). DeadName (dead_count n)) w.send_references.ensures.value in
          named_ends c.args.port c.args.request c.args.world.now c.requires _ taken w.in-Some.entry (sym c.lookup-entry.ensures.value ∙ w.in-Some.is) w.dead_name.result dead w.put_left.new.self w.put_left.ensures
          c.pay.new.world (subst (λ (z : WorldView). Pays z c.args.request.notify (notice.DeadName c.args.request.name) c.pay.new.world) w.world-is c.pay.ensures.pays) c.pay.result
          (subst (λ (z : WorldView). PaysMany z c.args.request.notify c.pay.result) w.world-is c.pay.ensures.many)
      | in_default w ↦ absurd (w.in_default.not-Some some.0 (c.lookup-entry.ensures.value ∙ some.1))
    ]

pub returns-clause-fewer : goal.returns-clause-fewer
returns-clause-fewer c =
    let t = c.take_on_name in
    let taken = name_taken c.args.world.now c.args.request t.result t.new.self t.ensures.request c.requires.is_on.there t.ensures.some in
    let some = entry_there c.args.port c.args.request c.args.world.now c.requires _ taken in
    elim c.match-entry.branch [
      | in-Some w ↦
          let dead : w.dead_name.result ≡ DeadName (dead_count (send_references w.in-Some.entry)) = w.dead_name.ensures ∙ ap (λ (n : ℕ). DeadName (dead_count n)) w.send_references.ensures.value in
          named_fewer c.args.port c.args.request c.args.world.now c.requires _ taken w.in-Some.entry (sym c.lookup-entry.ensures.value ∙ w.in-Some.is) w.dead_name.result dead w.put_left.new.self w.put_left.ensures
          c.pay.new.world (subst (λ (z : WorldView). Pays z c.args.request.notify (notice.DeadName c.args.request.name) c.pay.new.world) w.world-is c.pay.ensures.pays)
      | in_default w ↦ absurd (w.in_default.not-Some some.0 (c.lookup-entry.ensures.value ∙ some.1))
    ]
