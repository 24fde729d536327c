use Rattle.std.proofs.Common.{◌≡◌, [], ◌∷◌, ◌++◌, length, ℕ, ◌+◌, ◌<◌, List, refl, sym, ap, ◌∙◌, subst, arith, length-set, length-append, slice_index_or, slice_set}
use Rattle.mach_types.specs.declared.touched.Touched.{Touched}
use Rattle.copyin_base.specs.Worlds.{WorldView}
use Rattle.kernel_core.specs.Touching.{Touches}
use Rattle.mach_types.specs.declared.profiles.Profile.{Profile}
use Rattle.mach_types.specs.declared.calls.Reply.{Reply}
use Rattle.kernel_lock.specs.declared.entry.Entry.{Entry}
use Rattle.kernel_lock.specs.History.{calls_by, entry, CountsFit, Known, Legal, Recorded, Stepped}
use Rattle.kernel_lock.specs.Replays.{Replays, kept_of}
use Rattle.kernel_lock.specs.Views.{desk_view, pass_view}
use Rattle.kernel_lock.proofs.Lists.{calls_few, calls_own, one_more_call, stepped_of, extends}
use Rattle.kernel_lock.proofs.Replaying.{replays_push, legal_of, kept_push, is_within, is_answered}
use Rattle.kernel_lock.proofs.lock.LockedKernel.step_locked.Goals as goal

pub publish-requires-clause-legal : goal.publish-requires-clause-legal
publish-requires-clause-legal c =
    let k = c.self.inside in
    let e : Entry = entry c.pass.inside.caller c.args.event c.step-reply.result in
    legal_of _ _ _ (replays_push k.seat.me.0.profile k.seat.me.0.seen k.kernel c.step-reply.new.self e c.self.invariant.0 c.step-reply.ensures.answers)

pub overflow_add-pass : goal.overflow_add-pass
overflow_add-pass c =
    let k = c.self.inside in
    let p = c.pass.inside in
    let log = k.seat.me.0.seen in
    let told = c.publish.ensures in
    let mine : calls_by p.caller log ≡ calls_by p.caller p.seat.me.0.seen = told.mine ∙ ap (λ m. m.0.mine) c.pass.invariant.0 in
    let few = calls_few p.caller log in
    omega (arith, few, ap length mine, c.pass.invariant.1, told.room)

pub count_one-requires-clause-small : goal.count_one-requires-clause-small
count_one-requires-clause-small c =
    let k = c.self.inside in
    let p = c.pass.inside in
    let log = k.seat.me.0.seen in
    let told = c.publish.ensures in
    let few = calls_few p.caller log in
    omega (arith, few, c.self.invariant.1 p.caller, told.room)

pub add-requires-clause-place : goal.add-requires-clause-place
add-requires-clause-place c = λ keeps. c.in-Ok.ensures.place (sym c.in-Ok.ensures.same.0 ∙ keeps)

pub add-requires-clause-room : goal.add-requires-clause-room
add-requires-clause-room c =
    let k = c.self.inside in
    λ keeps. c.in-Ok.ensures.room (sym c.in-Ok.ensures.same.0 ∙ keeps) _ (is_within k.seat.me.0.profile k.seat.me.0.seen k.kernel c.step-reply.new.self _ _ _ c.self.invariant.0 c.step-reply.ensures.answers c.reply_bound-most.ensures.within)

pub invariant_of-self-2 : goal.invariant_of-self-2
invariant_of-self-2 c =
    let k = c.self.inside in
    let p = c.pass.inside in
    let log = k.seat.me.0.seen in
    let e : Entry = entry p.caller c.args.event c.step-reply.result in
    let made : k.seat.me.0.made ≡ length k.counts.items = ap (λ m. m.0.made) c.self.invariant.2 in
    let told = c.publish.ensures in
    let counts = k.counts.items in
    let inside : p.caller < length counts = omega (arith, told.made, made) in
    let n : ℕ = slice_index_or counts p.caller 0 + 1 in
    let fit : CountsFit (slice_set counts p.caller n) (log ++ e ∷ []) = one_more_call counts log e n inside refl c.self.invariant.1 in
    let now : c.publish.new.desk.me.0.seen ≡ log ++ e ∷ [] = ap (λ m. m.0.seen) told.desk.1 in
    let lens : k.seat.me.0.made ≡ length c.count_one.new.counts.items = made ∙ sym (ap length c.count_one.ensures ∙ length-set counts p.caller n) in
    let replays : Replays k.seat.me.0.profile (log ++ e ∷ []) c.step-reply.new.self = replays_push k.seat.me.0.profile log k.kernel c.step-reply.new.self e c.self.invariant.0 c.step-reply.ensures.answers in
    let of : c.publish.new.desk.me.0.profile ≡ k.seat.me.0.profile = ap (λ m. m.0.profile) told.desk.1 in
    let keeps = c.in-Ok.ensures.same.0 in
    let list = c.in-Ok.ensures.same.1 ∙ c.self.invariant.4 in (
      subst (λ (x : Profile × List Entry). Replays x.0 x.1 c.step-reply.new.self) (λ i. (sym of i, sym now i)) replays,
      subst (λ (x : List ℕ × List Entry). CountsFit x.0 x.1) (λ i. (sym c.count_one.ensures i, sym now i)) fit,
      told.desk.1 ∙ (λ i. (desk_view (sym of i) (sym now i) (lens i), [])),
      omega (arith, c.self.invariant.3, ap length now, length-append log (e ∷ [])),
      c.add.ensures.added ∙ (λ i. list i ++ kept_of (keeps i) (e ∷ [])) ∙ sym (kept_push k.entries.keeps log e) ∙ sym (λ i. kept_of ((c.add.ensures.same ∙ keeps) i) (now i)),
    )

pub invariant_of-pass : goal.invariant_of-pass
invariant_of-pass c =
    let k = c.self.inside in
    let p = c.pass.inside in
    let log = k.seat.me.0.seen in
    let e : Entry = entry p.caller c.args.event c.step-reply.result in
    let told = c.publish.ensures in
    let mine : calls_by p.caller log ≡ calls_by p.caller p.seat.me.0.seen = told.mine ∙ ap (λ m. m.0.mine) c.pass.invariant.0 in
    let now : c.publish.new.pass.me.0.seen ≡ log ++ e ∷ [] = ap (λ m. m.0.seen) told.pass.1 in
    let own : calls_by p.caller c.publish.new.pass.me.0.seen ≡ calls_by p.caller log ++ e ∷ [] = ap (calls_by p.caller) now ∙ calls_own p.caller log e refl in
    let of : c.publish.new.pass.me.0.profile ≡ p.seat.me.0.profile = ap (λ m. m.0.profile) told.pass.1 in
    let kept : p.seat.me.0.mine ++ e ∷ [] ≡ calls_by p.caller c.publish.new.pass.me.0.seen = ap (λ l. l ++ e ∷ []) (sym told.mine) ∙ sym own in (
      told.pass.1 ∙ (λ i. (pass_view (sym of i) p.caller (kept i) (sym now i), [])),
      omega (arith, c.pass.invariant.1, ap length mine, ap length own, length-append (calls_by p.caller log) (e ∷ [])),
    )

pub returns-clause-step : goal.returns-clause-step
returns-clause-step c =
    let k = c.self.inside in
    let p = c.pass.inside in
    let log = k.seat.me.0.seen in
    let event = c.args.event in
    let reply = c.step-reply.result in
    let e : Entry = entry p.caller event reply in
    let told = c.publish.ensures in
    let mine : calls_by p.caller log ≡ calls_by p.caller p.seat.me.0.seen = told.mine ∙ ap (λ m. m.0.mine) c.pass.invariant.0 in
    let after = c.publish.new.desk.me.0.seen in
    let pushed : after ≡ log ++ e ∷ [] = ap (λ m. m.0.seen) told.desk.1 in
    let now : c.publish.new.pass.me.0.seen ≡ log ++ e ∷ [] = ap (λ m. m.0.seen) told.pass.1 in
    let table = c.args.board.now in
    let own = p.seat.me.0.profile in
    let of : c.publish.new.pass.me.0.profile ≡ own = ap (λ m. m.0.profile) told.pass.1 in
    let v : Known = record { table = table; profile = own; caller = p.caller; seen = p.seat.me.0.seen; touched = p.touched } in
    let w : Known = record { table = table; profile = own; caller = p.caller; seen = c.publish.new.pass.me.0.seen; touched = c.touched-pass-inside.result } in
    let legal = legal_of k.seat.me.0.profile (log ++ e ∷ []) c.step-reply.new.self (replays_push k.seat.me.0.profile log k.kernel c.step-reply.new.self e c.self.invariant.0 c.step-reply.ensures.answers) in
    let grown = extends table log p.seat.me.0.seen c.publish.new.pass.me.0.seen own p.caller p.touched c.touched-pass-inside.result e refl told.seen mine now (subst (λ (x : Profile × List Entry). Legal x.0 x.1) (λ i. (sym told.profile i, sym now i)) legal) in
    let made : Recorded log after v w e = record { appended = pushed; extends = grown; whole = now ∙ sym pushed } in
    let all : Stepped log after v w event reply =
    stepped_of log after v w event reply (is_answered k.seat.me.0.profile log k.kernel c.step-reply.new.self event reply c.self.invariant.0 c.step-reply.ensures.answers) made in
    let old : v ≡ c.args.pass.now = (λ i. record { table = sym (ap (λ x. x.table) c.pass.view_is ∙ c.requires.1) i; profile = own; caller = p.caller; seen = p.seat.me.0.seen; touched = p.touched }) ∙ c.pass.view_is in
    let new : w ≡ record { table = c.publish.new.pass.table_id; profile = c.publish.new.pass.me.0.profile; caller = p.caller; seen = c.publish.new.pass.me.0.seen; touched = c.touched-pass-inside.result } = λ i. record { table = sym told.pass.0 i; profile = sym of i; caller = p.caller; seen = c.publish.new.pass.me.0.seen; touched = c.touched-pass-inside.result } in
    subst (λ (x : List Entry × Known × Known × Reply). Stepped x.0 after x.1 x.2 event x.3) (λ i. (ap (λ x. x.log) c.self.view_is i, old i, new i, sym c.add.ensures.reply i)) all

pub returns-clause-unmade : goal.returns-clause-unmade
returns-clause-unmade c =
    let k = c.self.inside in
    λ e. absurd (is_answered k.seat.me.0.profile k.seat.me.0.seen k.kernel c.step-reply.new.self c.args.event c.step-reply.result c.self.invariant.0 c.step-reply.ensures.answers (sym c.add.ensures.reply ∙ e))

pub returns-clause-recorded : goal.returns-clause-recorded
returns-clause-recorded c =
    let k = c.self.inside in
    λ keeps few e. absurd (is_answered k.seat.me.0.profile k.seat.me.0.seen k.kernel c.step-reply.new.self c.args.event c.step-reply.result c.self.invariant.0 c.step-reply.ensures.answers (sym c.add.ensures.reply ∙ e))

pub returns-clause-passes : goal.returns-clause-passes
returns-clause-passes c =
    let k = c.self.inside in
    let counts = k.counts.items in
    let caller = c.pass.inside.caller in
    ap length c.count_one.ensures ∙ length-set counts caller (slice_index_or counts caller 0 + 1) ∙ ap (λ x. x.passes) c.self.view_is

pub returns-clause-touches : goal.returns-clause-touches
returns-clause-touches c = λ made.
    subst (λ (x : WorldView × Reply × Touched). Touches x.0 c.args.event x.1 c.step-reply.new.self.tables x.2)
    (λ i. (ap (λ x. x.kernel.tables) c.self.view_is i, sym c.add.ensures.reply i, sym c.touched-pass-inside.ensures i)) c.step-reply.ensures.touches

pub returns-clause-left : goal.returns-clause-left
returns-clause-left c = λ made. c.touched-pass-inside.ensures
