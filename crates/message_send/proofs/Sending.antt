-- A send: refused in each state that the tables show, or done.
use Rattle.std.proofs.Common.{◌≡◌, ℕ, ◌+◌, ◌<◌, List, [], refl, sym, ap, subst, ◌∙◌, ◌⊎◌, inl, inr, arith}
use Rattle.std.specs.Prelude.{max}
use Rattle.mach_types.specs.declared.calls.Event.{Event}
use Rattle.mach_types.specs.declared.calls.Reply.{Reply}
use Rattle.mach_types.specs.declared.codes.MsgReturn.{MsgReturn}
use Rattle.mach_types.specs.declared.codes.MsgReturn.TheVariants.{SendNoBuffer}
use Rattle.mach_types.specs.Grammar.{WireBody}
use Rattle.mach_types.specs.Guards.{NoneHolds}
use Rattle.mach_types.specs.TextGuards.{header_guards, TextRefuses}
use Rattle.mach_types.specs.Codes.{msg_number}
use Rattle.mach_model.specs.State.{State}
use Rattle.mach_model.specs.SendRefusals.{SendRefuses}
use Rattle.message_codec.specs.declared.text.Parsed.{Parsed}
use Rattle.message_codec.specs.Parses.{Parses, IsCrowded}
use Rattle.copyin_base.specs.Serving.{Completes, Declines}
use Rattle.copyin_base.specs.Changes.{with_slots}
use Rattle.copyin_base.specs.Shows.{SlotsSuffice, Shows}
use Rattle.copyin_base.specs.Stands.{Stands, AreTied, IsTied}
use Rattle.copyin_base.specs.Worlds.{WorldView, HasTask, NoneLost}
use Rattle.copyin_base.proofs.Acting.{refused, refused_later, done}
use Rattle.copyin_base.proofs.Roomier.{slots_show}
use Rattle.copyin_base.proofs.Tied.{stands_tied, stands_is_tied}
use Rattle.copyin.specs.Planned.{IsPlan, PlanView}
use Rattle.copyin.specs.Short.{IsShortPlan, body_right, reply_right, short_view}
use Rattle.copyin.specs.declared.short.ShortPlan.{ShortPlan}
use Rattle.copyin.specs.Plans.{Judged, CannotPlan, Commits}
use Rattle.copyin.proofs.Planning.{good_header, none_first}
use Rattle.copyin.proofs.Refused.{cannot}
use Rattle.copyin.proofs.Planning.{message, third, copied}
use Rattle.copyin.proofs.Sent.{sent_state, unrefused, sent_agrees, sent_holders, sent_carriers}
use Rattle.copyin.proofs.LoopFound.{loop_on}
use Rattle.copyin.proofs.Committing.{commits_rooms, slot_there, commits_unused, commits_spare}
use Rattle.copyin.proofs.Copying.{commits_requested, commits_senders, commits_none_lost}
use Rattle.copyin.specs.Slots.{slots_for}
use Rattle.rights.specs.Unused.{IsUnusedOfAll}
use Rattle.transfer.specs.Room.{slotted}
use Rattle.transfer.proofs.Transferring.{notes_slots}
use Rattle.message_send.specs.Send.{SendsText, UsesSlot}

-- ---- spare slots are of no account to a plan

module _ (w : WorldView) (n : ℕ) (task : ℕ) (parsed : Parsed) (written : WireBody) where
  abbrev judged_at : Judged w task parsed written → Judged (with_slots w n) task parsed written
  judged_at j = record {
    space = j.space;
    there = j.there;
    destination = j.destination;
    port = j.port;
    to_port = j.to_port;
    first = j.first;
    copies_destination = j.copies_destination;
    reply = j.reply;
    second = j.second;
    copies_reply = j.copies_reply;
    rights = j.rights;
    last = j.last;
    copies_body = j.copies_body;
  }

  abbrev plan_at : (bytes : List ℕ) (plan : PlanView) → IsPlan w task parsed written bytes plan → IsPlan (with_slots w n) task parsed written bytes plan
  plan_at bytes plan p = record {
    plans = record {
      judged = judged_at p.plans.judged;
      no_loop = λ l. p.plans.no_loop (loop_on (with_slots w n).ports w.ports refl p.plans.judged.port p.plans.judged.rights l);
      slot = p.plans.slot;
      few = p.plans.few;
    };
    task_is = p.task_is;
    words = p.words;
    destination = p.destination;
    port = p.port;
    message = p.message;
  }

pub still_plan : (w w2 : WorldView) (n task : ℕ) (parsed : Parsed) (written : WireBody) (bytes : List ℕ) (plan : PlanView) → w2 ≡ with_slots w n → IsPlan w task parsed written bytes plan →
    IsPlan w2 task parsed written bytes plan
still_plan w w2 n task parsed written bytes plan e p = subst (λ (x : WorldView). IsPlan x task parsed written bytes plan) (sym e) (plan_at w n task parsed written bytes plan p)

pub still_short : (w w2 : WorldView) (n task : ℕ) (parsed : Parsed) (written : WireBody) (bytes : List ℕ) (plan : ShortPlan) → w2 ≡ with_slots w n → IsShortPlan w task parsed written bytes plan →
    IsShortPlan w2 task parsed written bytes plan
still_short w w2 n task parsed written bytes plan e p = record { is_plan = still_plan w w2 n task parsed written bytes (short_view plan) e p.is_plan; reply = p.reply; rights = p.rights }

pub still_tied : (w w2 : WorldView) (n task : ℕ) → w2 ≡ with_slots w n → IsTied w task → IsTied w2 task
still_tied w w2 n task e t = subst (λ (x : WorldView). IsTied x task) (sym e) record {
  tied = λ space there. let a = t.tied space there in record { live = a.live; entered = a.entered; not_null = a.not_null; not_dead = a.not_dead };
  unused = t.unused;
}

pub still_none_lost : (w w2 : WorldView) (n : ℕ) → w2 ≡ with_slots w n → NoneLost w → NoneLost w2
still_none_lost w w2 n e none = subst NoneLost (sym e) record { lost = none.lost; doomed = none.doomed; destroyed = none.destroyed }

-- what the plan wants
wants_slots : (w : WorldView) (task : ℕ) (parsed : Parsed) (written : WireBody) (bytes : List ℕ) (plan : PlanView) (p : IsPlan w task parsed written bytes plan) →
    slots_for plan.destination plan.message.reply plan.message.rights ≡ slots_for p.plans.judged.destination p.plans.judged.reply p.plans.judged.rights
wants_slots w task parsed written bytes plan p = λ i. slots_for (p.destination i) (p.message i).reply (p.message i).rights

pub short_slots : (w : WorldView) (task : ℕ) (parsed : Parsed) (written : WireBody) (bytes : List ℕ) (plan : ShortPlan) → IsShortPlan w task parsed written bytes plan → (more : ℕ)
    → more ≡ slots_for plan.destination.carried (reply_right plan.beside) (body_right plan.beside) → more ≡ slots_for plan.destination.carried plan.message.reply plan.message.rights
short_slots w task parsed written bytes plan p more many = many ∙ (λ i. slots_for plan.destination.carried (sym p.reply i) (sym p.rights i))

pub sends_text : (w w2 new : WorldView) (task : ℕ) (bytes : List ℕ) (parsed : Parsed) (text : Parses bytes parsed) (plan : PlanView) (more : ℕ) → w2 ≡ slotted w more →
    more ≡ slots_for plan.destination plan.message.reply plan.message.rights → IsPlan w task parsed text.written bytes plan →
    ((p : IsPlan w2 task parsed text.written bytes plan) → Commits w2 task parsed text.written p.plans.judged bytes new) → SendsText w task bytes new
sends_text w w2 new task bytes parsed text plan more e many p =
    subst (λ (x : WorldView). ((q : IsPlan x task parsed text.written bytes plan) → Commits x task parsed text.written q.plans.judged bytes new) → SendsText w task bytes new) (sym e)
    (λ commits.
    let q = plan_at w (max w.ports.spare (w.ledger.unused + more)) task parsed text.written bytes plan p in
    record { parsed = parsed; text = text; more = more; plans = q.plans; wants = many ∙ wants_slots w task parsed text.written bytes plan p; commits = commits q })

-- The message has a slot: one that was made, or that of the send-once right that it goes by.
pub has_slot : (w w2 : WorldView) (task : ℕ) (parsed : Parsed) (written : WireBody) (bytes : List ℕ) (plan : PlanView) (more : ℕ) → w2 ≡ slotted w more →
    more ≡ slots_for plan.destination plan.message.reply plan.message.rights → IsUnusedOfAll w.ledger → Stands w → IsPlan w task parsed written bytes plan → 0 < w2.ports.spare
has_slot w w2 task parsed written bytes plan more e many all stands p =
    let some = slot_there w all stands.shown.slots task parsed written p.plans.judged (stands_is_tied w task stands) in
    let spare : w2.ports.spare ≡ max w.ports.spare (w.ledger.unused + more) = ap (λ (x : WorldView). x.ports.spare) e in
    let wants = wants_slots w task parsed written bytes plan p in
    omega (arith, some, spare, many, wants)

-- ---- refused

module _ (w : WorldView) (task : ℕ) (below : HasTask w task) (bytes : List ℕ) where
  -- a text whose header is good goes on to what is judged later
  later : (code : ℕ) → NoneHolds (header_guards bytes) → ((s : State) → Shows w s → SendRefuses s task bytes code) → Declines w (Event.Send task bytes) code w
  later code good why = refused_later w (Event.Send task bytes) below code record { allowed = λ s sh. good } why

  pub text_declined : (code : MsgReturn) → (TextRefuses bytes (msg_number code) ⊎ (code ≡ SendNoBuffer) × IsCrowded bytes) → Declines w (Event.Send task bytes) (msg_number code) w
  text_declined code (inl (inl first)) = refused w (Event.Send task bytes) below (msg_number code) record { refused = λ s sh. first }
  text_declined code (inl (inr (good, bit, items))) = later (msg_number code) good (λ s sh. inl (bit, items))
  text_declined code (inr (is, text)) =
      later (msg_number code) (none_first (header_guards bytes) (λ c first. text.message.unrefused c (inl first))) (λ s sh. inr (text.header, text.written, text.message.spells, inl (ap msg_number is)))

  module _ (parsed : Parsed) (text : Parses bytes parsed) where
    pub no_memory : Declines w (Event.Send task bytes) (msg_number SendNoBuffer) w
    no_memory = later (msg_number SendNoBuffer) (good_header bytes parsed text) (λ s sh. inr (text.header, text.written, text.message.spells, inl refl))

    pub plan_declined : (code : ℕ) → CannotPlan w task parsed text.written code → Declines w (Event.Send task bytes) code w
    plan_declined code h = later code (good_header bytes parsed text) (λ s sh. inr (text.header, text.written, text.message.spells, elim (cannot w s sh task bytes parsed text code h) [ inl may ↦ inl may.1 | inr why ↦ inr why ]))

  -- ---- done

  -- the sender's rights are tied to the tables in which the slots were made
  start_tied : (s : State) → Shows w s → (new : WorldView) (d : SendsText w task bytes new) → AreTied d.plans.judged.space.names (slotted w d.more).ports (slotted w d.more).ledger
  start_tied s sh new d =
      stands_tied (slotted w d.more) task d.plans.judged.space record { state = s; shown = slots_show w s (max w.ports.spare (w.ledger.unused + d.more)) (omega arith) sh } d.plans.judged.there

  -- the slots suffice: as many more are wanted as send-once rights are unused then, and one for the message
  sent_slots : (s : State) → Shows w s → (new : WorldView) → SendsText w task bytes new → SlotsSuffice new
  sent_slots s sh new d =
      let tied = start_tied s sh new d in
      let unused = commits_unused (slotted w d.more) task d.parsed d.text.written d.plans.judged tied bytes new d.commits in
      let spare = commits_spare (slotted w d.more) task d.parsed d.text.written d.plans.judged tied bytes new d.commits in
      let wants = d.wants in
      omega (arith, unused, spare, wants)

  pub send_done : (new : WorldView) → SendsText w task bytes new → Completes w (Event.Send task bytes) (Reply.Code 0) new
  send_done new d = done w (Event.Send task bytes) (Reply.Code 0) new below record { allowed = λ s sh. good_header bytes d.parsed d.text } (λ now s sh.
      let start = slotted w d.more in
      let sh2 = slots_show w s (max w.ports.spare (w.ledger.unused + d.more)) (omega arith) sh in
      let j = d.plans.judged in
      record {
        mid = sent_state start s sh2 now task bytes d.parsed d.text j;
        owed = [];
        does = (
          refl,
          record {
            header = d.text.header;
            written = d.text.written;
            spells = d.text.message.spells;
            m = message start s sh2 task bytes d.parsed d.text j;
            copied_state = (third start s sh2 task bytes d.parsed d.text j).t;
            copied = copied start s sh2 task bytes d.parsed d.text j;
            rest = refl;
          },
          refl,
        );
        judged = unrefused start s sh2 now task bytes d.parsed d.text j d.plans.no_loop d.plans.slot d.plans.few;
        loses_none = tt;
        none_owed = refl;
        agrees = sent_agrees start s sh2 now task bytes d.parsed d.text j new d.commits;
        holders = sent_holders start s sh2 now task bytes d.parsed d.text j new d.commits;
        carriers = sent_carriers start s sh2 now task bytes d.parsed d.text j new d.commits d.plans.few;
        slots = sent_slots s sh new d;
        requested = commits_requested start task d.parsed d.text.written j bytes new d.commits sh2.requested;
        notes = notes_slots w (max w.ports.spare (w.ledger.unused + d.more)) new (commits_senders start task d.parsed d.text.written j bytes new d.commits sh2.requested sh2.idle.noted);
        none_lost = commits_none_lost start task d.parsed d.text.written j bytes new d.commits sh2.idle.none_lost;
      })

  pub uses_slot : (new : WorldView) → Stands w → SendsText w task bytes new → UsesSlot w new
  uses_slot new stands d =
      let j = d.plans.judged in
      let tied = start_tied stands.state stands.shown new d in record {
        slots =
            let unused = commits_unused (slotted w d.more) task d.parsed d.text.written j tied bytes new d.commits in
            let spare = commits_spare (slotted w d.more) task d.parsed d.text.written j tied bytes new d.commits in
            let wants = d.wants in
            omega (arith, unused, spare, wants);
        rooms = λ u. commits_rooms (slotted w d.more) task d.parsed d.text.written j bytes new d.commits u;
      }
