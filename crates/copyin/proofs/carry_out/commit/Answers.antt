use Rattle.std.proofs.Common.{◌≡◌, ℕ, ◌<◌, ◌++◌, List, Option, sym, subst, arith, ◌∙◌}
use Rattle.std.specs.Option.{option_to_list}
use Rattle.message_codec.specs.declared.words.PortWord.{PortWord}
use Rattle.rights.specs.Ledger.{LedgerView, counts_of}
use Rattle.copyin_base.specs.declared.Carried.{Carried}
use Rattle.copyin.specs.Loops.{HoldsRights}
use Rattle.copyin.specs.Planned.{CanGo, CanHoldAll, PlanView, plan_view}
use Rattle.copyin.specs.Plans.{ChangesWords}
use Rattle.copyin.proofs.Going.{go_on, first_goes}
use Rattle.copyin.proofs.Committing.{Carries, own_task, plan_goes, plan_pairs, plan_lives, plan_unused, front_goes, rest_goes, carries_by, carries_live, carries_can_hold, carries_none_lost, carries_spare, commits}
use Rattle.copyin.proofs.Holding.{held_lives, held_spare, held_ledger}
use Rattle.copyin.proofs.carry_out.commit.Goals as goal

pub copy_word-requires : goal.copy_word-requires
copy_word-requires c =
    let q = c.requires.planned in
    let own = own_task c.args.world.now q.0 q.1 q.2 q.3 (plan_view c.args.plan) q.4 in
    let plan : PlanView = plan_view c.args.plan in
    first_goes c.args.world.now plan.task plan.words.destination (option_to_list plan.words.reply ++ plan.words.body) plan.destination (option_to_list plan.message.reply ++ plan.message.rights)
    (plan_goes c.args.world.now plan.task q.1 q.2 q.3 plan own c.requires.tied)

pub copy_reply-requires : goal.copy_reply-requires
copy_reply-requires c =
    let q = c.requires.planned in
    let own = own_task c.args.world.now q.0 q.1 q.2 q.3 (plan_view c.args.plan) q.4 in
    let plan : PlanView = plan_view c.args.plan in
    let one = c.copy_word.new.world in
    let words = option_to_list plan.words.reply in
    let rights = option_to_list plan.message.reply in
    let go = go_on c.args.world.now one plan.task plan.words.destination (words ++ plan.words.body) plan.destination (rights ++ plan.message.rights)
    (plan_goes c.args.world.now plan.task q.1 q.2 q.3 plan own c.requires.tied) c.copy_word.ensures in
    let same : plan.message.reply ≡ c.reply.result = sym c.reply.ensures in
    subst (λ (o : Option Carried). CanGo one plan.task words (option_to_list o)) same
    (front_goes one plan.task words plan.words.body rights plan.message.rights (plan_pairs c.args.world.now plan.task q.1 q.2 q.3 plan own c.requires.tied) go)

pub copy_words-requires : goal.copy_words-requires
copy_words-requires c =
    let q = c.requires.planned in
    let own = own_task c.args.world.now q.0 q.1 q.2 q.3 (plan_view c.args.plan) q.4 in
    let plan : PlanView = plan_view c.args.plan in
    let one = c.copy_word.new.world in
    let two = c.copy_reply.new.world in
    let words = option_to_list plan.words.reply in
    let rights = option_to_list plan.message.reply in
    let go = go_on c.args.world.now one plan.task plan.words.destination (words ++ plan.words.body) plan.destination (rights ++ plan.message.rights)
    (plan_goes c.args.world.now plan.task q.1 q.2 q.3 plan own c.requires.tied) c.copy_word.ensures in
    let same : c.reply.result ≡ plan.message.reply = c.reply.ensures in
    let went : ChangesWords one plan.task words rights two = subst (λ (o : Option Carried). ChangesWords one plan.task words (option_to_list o) two) same c.copy_reply.ensures in
    let last = rest_goes one two plan.task words plan.words.body rights plan.message.rights go went in
    let words_are : plan.words.body ≡ c.as_slice.result.now = sym c.as_slice.ensures in
    let rights_are : plan.message.rights ≡ c.as_slice-2.result.now = sym (c.as_slice-2.ensures ∙ c.rights-rights.ensures) in
    subst (λ (ws : List PortWord). CanGo two plan.task ws c.as_slice-2.result.now) words_are (subst (λ (cs : List Carried). CanGo two plan.task plan.words.body cs) rights_are last)

pub hold_rights-requires-clause-live : goal.hold_rights-requires-clause-live
hold_rights-requires-clause-live c =
    let q = c.requires.planned in
    let own = own_task c.args.world.now q.0 q.1 q.2 q.3 (plan_view c.args.plan) q.4 in
    let plan : PlanView = plan_view c.args.plan in
    let one = c.copy_word.new.world in
    let two = c.copy_reply.new.world in
    let words = option_to_list plan.words.reply in
    let rights = option_to_list plan.message.reply in
    let go = go_on c.args.world.now one plan.task plan.words.destination (words ++ plan.words.body) plan.destination (rights ++ plan.message.rights)
    (plan_goes c.args.world.now plan.task q.1 q.2 q.3 plan own c.requires.tied) c.copy_word.ensures in
    let ca = carries_by c.args.world.now one two c.copy_words.new.world plan c.reply.result c.as_slice.result.now c.as_slice-2.result.now c.reply.ensures c.as_slice.ensures (c.as_slice-2.ensures ∙ c.rights-rights.ensures)
    c.copy_word.ensures c.copy_reply.ensures c.copy_words.ensures in
    let last = rest_goes one two plan.task words plan.words.body rights plan.message.rights go ca.reply in
    subst (CanHoldAll c.copy_words.new.world) (sym (c.as_slice-3.ensures ∙ c.rights-rights.ensures)) (carries_can_hold c.args.world.now c.copy_words.new.world plan.task plan ca last)

pub hold_rights-requires-clause-none_lost : goal.hold_rights-requires-clause-none_lost
hold_rights-requires-clause-none_lost c =
    let plan : PlanView = plan_view c.args.plan in
    let ca = carries_by c.args.world.now c.copy_word.new.world c.copy_reply.new.world c.copy_words.new.world plan c.reply.result c.as_slice.result.now c.as_slice-2.result.now c.reply.ensures c.as_slice.ensures
    (c.as_slice-2.ensures ∙ c.rights-rights.ensures) c.copy_word.ensures c.copy_reply.ensures c.copy_words.ensures in
    carries_none_lost c.args.world.now c.copy_words.new.world plan.task plan ca c.requires.none_lost

pub queue_message-requires-clause-live : goal.queue_message-requires-clause-live
queue_message-requires-clause-live c =
    let q = c.requires.planned in
    let own = own_task c.args.world.now q.0 q.1 q.2 q.3 (plan_view c.args.plan) q.4 in
    let plan : PlanView = plan_view c.args.plan in
    let mid = c.copy_words.new.world in
    let ca = carries_by c.args.world.now c.copy_word.new.world c.copy_reply.new.world mid plan c.reply.result c.as_slice.result.now c.as_slice-2.result.now c.reply.ensures c.as_slice.ensures (c.as_slice-2.ensures ∙ c.rights-rights.ensures)
    c.copy_word.ensures c.copy_reply.ensures c.copy_words.ensures in
    held_lives plan.port c.as_slice-3.result.now mid c.hold_rights.new.world c.hold_rights.ensures plan.port
    (carries_live c.args.world.now mid plan.task plan plan.port ca (plan_lives c.args.world.now plan.task q.1 q.2 q.3 plan own c.requires.tied))

pub queue_message-requires-clause-spare : goal.queue_message-requires-clause-spare
queue_message-requires-clause-spare c =
    let plan : PlanView = plan_view c.args.plan in
    let mid = c.copy_words.new.world in
    let ca = carries_by c.args.world.now c.copy_word.new.world c.copy_reply.new.world mid plan c.reply.result c.as_slice.result.now c.as_slice-2.result.now c.reply.ensures c.as_slice.ensures (c.as_slice-2.ensures ∙ c.rights-rights.ensures)
    c.copy_word.ensures c.copy_reply.ensures c.copy_words.ensures in
    let same = held_spare plan.port c.as_slice-3.result.now mid c.hold_rights.new.world c.hold_rights.ensures in
    let same_spare = carries_spare c.args.world.now mid plan.task plan ca in
    let some = c.requires.spare in
    omega (arith, same, same_spare, some)

pub queue_message-requires-clause-unused : goal.queue_message-requires-clause-unused
queue_message-requires-clause-unused c once =
    let q = c.requires.planned in
    let own = own_task c.args.world.now q.0 q.1 q.2 q.3 (plan_view c.args.plan) q.4 in
    let plan : PlanView = plan_view c.args.plan in
    let mid = c.copy_words.new.world in
    let ca = carries_by c.args.world.now c.copy_word.new.world c.copy_reply.new.world mid plan c.reply.result c.as_slice.result.now c.as_slice-2.result.now c.reply.ensures c.as_slice.ensures (c.as_slice-2.ensures ∙ c.rights-rights.ensures)
    c.copy_word.ensures c.copy_reply.ensures c.copy_words.ensures in
    subst (λ (l : LedgerView). 0 < (counts_of l plan.port).send_once) (sym (held_ledger plan.port c.as_slice-3.result.now mid c.hold_rights.new.world c.hold_rights.ensures))
    (plan_unused c.args.world.now plan.task q.1 q.2 q.3 plan own c.requires.tied ca.one ca.two mid ca.destination ca.reply ca.body once)

pub returns : goal.returns
returns c =
    let q = c.requires.planned in
    let own = own_task c.args.world.now q.0 q.1 q.2 q.3 (plan_view c.args.plan) q.4 in
    let plan : PlanView = plan_view c.args.plan in
    let mid = c.copy_words.new.world in
    let held = c.hold_rights.new.world in
    let ca = carries_by c.args.world.now c.copy_word.new.world c.copy_reply.new.world mid plan c.reply.result c.as_slice.result.now c.as_slice-2.result.now c.reply.ensures c.as_slice.ensures (c.as_slice-2.ensures ∙ c.rights-rights.ensures)
    c.copy_word.ensures c.copy_reply.ensures c.copy_words.ensures in
    let holds : HoldsRights mid plan.port plan.message.rights held = subst (λ (cs : List Carried). HoldsRights mid plan.port cs held) (c.as_slice-3.ensures ∙ c.rights-rights.ensures) c.hold_rights.ensures in
    let old_live = plan_lives c.args.world.now plan.task q.1 q.2 q.3 plan own c.requires.tied in
    let live = held_lives plan.port plan.message.rights mid held holds plan.port (carries_live c.args.world.now mid plan.task plan plan.port ca old_live) in
    λ task parsed written bytes p. commits c.args.world.now mid held task parsed written bytes plan p c.queue_message.new.world (subst (λ (t : ℕ). Carries c.args.world.now t plan mid) p.task_is ca) holds live
    c.queue_message.ensures
