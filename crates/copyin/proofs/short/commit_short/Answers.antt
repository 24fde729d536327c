use Rattle.std.proofs.Common.{ℕ, ◌<◌, ◌++◌, [], ◌∷◌, List, Option, sym, subst, arith, refl}
use Rattle.std.specs.Option.{option_to_list}
use Rattle.rights.specs.Ledger.{LedgerView, counts_of}
use Rattle.copyin_base.specs.declared.Carried.{Carried}
use Rattle.copyin.specs.Loops.{HoldsRights}
use Rattle.copyin.specs.Planned.{CanGo, PlanView}
use Rattle.copyin.specs.Short.{body_right, short_view}
use Rattle.copyin.proofs.Going.{go_on, first_goes}
use Rattle.copyin.proofs.Committing.{Carries, own_task, plan_goes, plan_lives, plan_unused, carries_live, carries_spare, commits, carries_short}
use Rattle.copyin.proofs.Copying.{words_none_lost}
use Rattle.copyin.proofs.Holding.{held_lives, held_spare, held_ledger}
use Rattle.copyin.proofs.short.commit_short.Goals as goal

pub copy_going-requires : goal.copy_going-requires
copy_going-requires c =
    let q = c.requires.planned in
    let plan : PlanView = short_view c.args.plan in
    let own = own_task c.args.world.now q.0 q.1 q.2 q.3 plan q.4.is_plan in
    first_goes c.args.world.now plan.task plan.words.destination (option_to_list plan.words.reply ++ plan.words.body) plan.destination (option_to_list plan.message.reply ++ plan.message.rights)
    (plan_goes c.args.world.now plan.task q.1 q.2 q.3 plan own c.requires.tied)

pub copy_beside-requires-clause-goes : goal.copy_beside-requires-clause-goes
copy_beside-requires-clause-goes c =
    let q = c.requires.planned in
    let plan : PlanView = short_view c.args.plan in
    let own = own_task c.args.world.now q.0 q.1 q.2 q.3 plan q.4.is_plan in
    let words : List _ = option_to_list plan.words.reply ++ plan.words.body in
    let go = go_on c.args.world.now c.copy_going.new.world plan.task plan.words.destination words plan.destination (option_to_list plan.message.reply ++ plan.message.rights)
    (plan_goes c.args.world.now plan.task q.1 q.2 q.3 plan own c.requires.tied) c.copy_going.ensures in
    subst (λ (o : Option Carried). CanGo c.copy_going.new.world plan.task words (option_to_list o ++ body_right c.args.plan.beside)) q.4.reply
    (subst (λ (cs : List Carried). CanGo c.copy_going.new.world plan.task words (option_to_list plan.message.reply ++ cs)) q.4.rights go)

pub copy_beside-requires-clause-none_lost : goal.copy_beside-requires-clause-none_lost
copy_beside-requires-clause-none_lost c =
    let plan : PlanView = short_view c.args.plan in
    words_none_lost (plan.words.destination ∷ []) (plan.destination ∷ []) c.args.world.now c.copy_going.new.world plan.task (c.copy_going.new.world, c.copy_going.ensures, refl) c.requires.none_lost

pub queue_message-requires-clause-live : goal.queue_message-requires-clause-live
queue_message-requires-clause-live c =
    let q = c.requires.planned in
    let plan : PlanView = short_view c.args.plan in
    let own = own_task c.args.world.now q.0 q.1 q.2 q.3 plan q.4.is_plan in
    let b = c.copy_beside.ensures in
    let ca = carries_short c.args.world.now c.copy_going.new.world c.copy_beside.new.world q.0 q.1 q.2 q.3 c.args.plan q.4 c.copy_going.ensures b in
    held_lives plan.port (body_right c.args.plan.beside) b.mid c.copy_beside.new.world b.holds plan.port
    (carries_live c.args.world.now b.mid plan.task plan plan.port ca (plan_lives c.args.world.now plan.task q.1 q.2 q.3 plan own c.requires.tied))

pub queue_message-requires-clause-spare : goal.queue_message-requires-clause-spare
queue_message-requires-clause-spare c =
    let q = c.requires.planned in
    let plan : PlanView = short_view c.args.plan in
    let b = c.copy_beside.ensures in
    let ca = carries_short c.args.world.now c.copy_going.new.world c.copy_beside.new.world q.0 q.1 q.2 q.3 c.args.plan q.4 c.copy_going.ensures b in
    let same = held_spare plan.port (body_right c.args.plan.beside) b.mid c.copy_beside.new.world b.holds in
    let same_spare = carries_spare c.args.world.now b.mid plan.task plan ca in
    let some = c.requires.spare in
    omega (arith, same, same_spare, some)

pub queue_message-requires-clause-unused : goal.queue_message-requires-clause-unused
queue_message-requires-clause-unused c once =
    let q = c.requires.planned in
    let plan : PlanView = short_view c.args.plan in
    let own = own_task c.args.world.now q.0 q.1 q.2 q.3 plan q.4.is_plan in
    let b = c.copy_beside.ensures in
    let ca = carries_short c.args.world.now c.copy_going.new.world c.copy_beside.new.world q.0 q.1 q.2 q.3 c.args.plan q.4 c.copy_going.ensures b in
    subst (λ (l : LedgerView). 0 < (counts_of l plan.port).send_once) (sym (held_ledger plan.port (body_right c.args.plan.beside) b.mid c.copy_beside.new.world b.holds))
    (plan_unused c.args.world.now plan.task q.1 q.2 q.3 plan own c.requires.tied ca.one ca.two b.mid ca.destination ca.reply ca.body once)

pub returns : goal.returns
returns c =
    let q = c.requires.planned in
    let plan : PlanView = short_view c.args.plan in
    let own = own_task c.args.world.now q.0 q.1 q.2 q.3 plan q.4.is_plan in
    let b = c.copy_beside.ensures in
    let held = c.copy_beside.new.world in
    let ca = carries_short c.args.world.now c.copy_going.new.world held q.0 q.1 q.2 q.3 c.args.plan q.4 c.copy_going.ensures b in
    let holds : HoldsRights b.mid plan.port plan.message.rights held = subst (λ (cs : List Carried). HoldsRights b.mid plan.port cs held) (sym q.4.rights) b.holds in
    let old_live = plan_lives c.args.world.now plan.task q.1 q.2 q.3 plan own c.requires.tied in
    let live = held_lives plan.port plan.message.rights b.mid held holds plan.port (carries_live c.args.world.now b.mid plan.task plan plan.port ca old_live) in
    λ task parsed written bytes p. commits c.args.world.now b.mid held task parsed written bytes plan p.is_plan c.queue_message.new.world
    (subst (λ (t : ℕ). Carries c.args.world.now t plan b.mid) p.is_plan.task_is ca) holds live
    c.queue_message.ensures
