use Rattle.std.proofs.Common.{Option, IfSome, sym, ap, subst, ◌∙◌}
use Rattle.std.specs.Prelude.{is_some}
use Rattle.name_space.specs.declared.Entry.{Entry}
use Rattle.dispositions.specs.declared.Copied.{Copied}
use Rattle.copyin_base.specs.Changes.{IsForLive, PutsLeft}
use Rattle.copyin.proofs.Going.{same_left, same_port}
use Rattle.copyin.proofs.HoldersKept.{stays_put}
use Rattle.copyin.proofs.Copying.{left_lives}
use Rattle.copyin.proofs.carry_out.leave_name.Goals as goal

pub put_left-requires : goal.put_left-requires
put_left-requires c =
    let can = c.requires in
    let kk = same_left c.args.world.now c.args.task c.args.name c.args.carried can c.lookup.result c.unwrap-entry.result c.copy_right.result c.unwrap-copied.result
    c.lookup.ensures.value c.unwrap-entry.ensures c.copy_right.ensures c.unwrap-copied.ensures in
    let lives : IsForLive c.args.world.now c.unwrap-entry.result = subst (λ (o : Option Entry). IfSome o (λ e. IsForLive c.args.world.now e)) c.unwrap-entry.ensures c.lookup.ensures.lives in
    record {
      space = can.space;
      there = can.there;
      used = ap is_some can.found;
      same = same_port can.space.names c.args.name c.args.carried can.entry can.copied c.unwrap-copied.result can.found can.is kk;
      lives = left_lives c.args.world.now c.args.carried.given c.unwrap-entry.result c.unwrap-copied.result (sym c.copy_right.ensures ∙ c.unwrap-copied.ensures) lives;
    }

pub returns-then-makes_right-clause-left : goal.returns-then-makes_right-clause-left
returns-then-makes_right-clause-left c can = stays_put c.args.world.now c.args.task c.args.name c.args.carried can (sym c.makes_right.ensures ∙ c.if-makes_right.true)

pub returns-clause-left : goal.returns-clause-left
returns-clause-left c can =
    let kk = same_left c.args.world.now c.args.task c.args.name c.args.carried can c.lookup.result c.unwrap-entry.result c.copy_right.result c.unwrap-copied.result
    c.lookup.ensures.value c.unwrap-entry.ensures c.copy_right.ensures c.unwrap-copied.ensures in
    subst (λ (left : Option Entry). PutsLeft c.args.world.now c.args.task c.args.name left c.put_left.new.self) (ap (λ (k : Copied). k.left) kk) c.put_left.ensures

pub returns-clause-mark : goal.returns-clause-mark
returns-clause-mark c =
    let can = c.requires in
    let kk = same_left c.args.world.now c.args.task c.args.name c.args.carried can c.lookup.result c.unwrap-entry.result c.copy_right.result c.unwrap-copied.result
    c.lookup.ensures.value c.unwrap-entry.ensures c.copy_right.ensures c.unwrap-copied.ensures in
    ap (λ (k : Copied). k.mark) kk ∙ sym can.mark_is
