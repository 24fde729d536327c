-- A plan is carried out: the send is done, or is refused for want of memory, which it may want.
use Rattle.std.proofs.Common.{◌≡◌, ℕ, List, Result, Ok, Err, IfOk, IfErr, OnOk, OnErr, refl, sym, subst}
use Rattle.mach_types.specs.declared.calls.Event.{Event}
use Rattle.mach_types.specs.declared.codes.MsgReturn.{MsgReturn}
use Rattle.mach_types.specs.declared.codes.MsgReturn.TheVariants.{SendNoBuffer}
use Rattle.mach_types.specs.Codes.{msg_number}
use Rattle.message_codec.specs.declared.text.Parsed.{Parsed}
use Rattle.message_codec.specs.Parses.{Parses}
use Rattle.copyin_base.specs.Serving.{Declines}
use Rattle.copyin_base.specs.Worlds.{WorldView, HasTask}
use Rattle.copyin_base.specs.Changes.{with_slots}
use Rattle.copyin.specs.Planned.{PlanView}
use Rattle.copyin.specs.Plans.{CannotPlan}
use Rattle.copyin.specs.Short.{IsShortPlan, short_view}
use Rattle.message_codec.specs.declared.text.Short.{Short}
use Rattle.message_codec.specs.Short.{ReadsShort, parsed_short}
use Rattle.copyin.specs.declared.short.ShortPlan.{ShortPlan}
use Rattle.copyin.specs.Wanted.{WantsToSend}
use Rattle.kernel_change.specs.declared.change.Change.{Change}
use Rattle.message_send.specs.Send.{PlansShort, PlansText, SendsText}
use Rattle.message_send.specs.Sends.{Sends}
use Rattle.message_send.specs.Telling.{TellsPlan, TellsSend}
use Rattle.message_send.proofs.Sending.{no_memory, plan_declined}
use Rattle.message_send.proofs.Wanting.{check_wants, plans_wants}

module _ {A : Type 0} (w new : WorldView) (task : ℕ) (bytes : List ℕ) (plan : PlanView) (p : PlansText w task bytes plan) where
  pub carried : (r : Result A MsgReturn) → IfOk r (λ _. (t : ℕ) (b : List ℕ) → PlansText w t b plan → SendsText w t b new) → IfOk r (λ _. SendsText w task bytes new)
  carried (Ok v) sends = sends task bytes p
  carried (Err code) sends = tt

  pub short_declined : HasTask w task → (r : Result A MsgReturn) → IfErr r (λ code. code ≡ SendNoBuffer) → IfErr r (λ code. Declines w (Event.Send task bytes) (msg_number code) w)
  short_declined there (Ok v) is = tt
  short_declined there (Err code) is = subst (λ (c : MsgReturn). Declines w (Event.Send task bytes) (msg_number c) w) (sym is) (no_memory w task there bytes p.parsed p.text)

  pub short_wants : (r : Result A MsgReturn) → IfErr r (λ code. msg_number code ≡ msg_number SendNoBuffer → WantsToSend w task bytes)
  short_wants (Ok v) = tt
  short_wants (Err code) = λ same. plans_wants w task bytes p.parsed p.text p.is_plan.plans

-- Where it went is told of the bytes.
pub goes : {A : Type 0} (w : WorldView) (task : ℕ) (bytes : List ℕ) (plan : PlanView) → PlansText w task bytes plan → (told : Change) (r : Result A MsgReturn) → OnOk r (TellsPlan w plan told) → OnOk r (TellsSend w task bytes told)
goes w task bytes plan p told (Ok v) tells = record { plan = plan; planned = p; tells = tells }
goes w task bytes plan p told (Err code) tells = tt

-- More slots tell nothing else.
pub still_tells : (w x : WorldView) (n : ℕ) (plan : PlanView) (told : Change) → x ≡ with_slots w n → TellsPlan x plan told → TellsPlan w plan told
still_tells w x n plan told is tells = subst (λ (y : WorldView). TellsPlan y plan told) is tells

-- So a plan that is carried out sends its bytes, or is refused for want of memory.
pub sends : (w new : WorldView) (task : ℕ) (bytes : List ℕ) (plan : PlanView) → PlansText w task bytes plan → HasTask w task → (told : Change) (r : Result (Unit {0}) MsgReturn)
    → IfOk r (λ _. SendsText w task bytes new) → OnOk r (TellsPlan w plan told) → IfErr r (λ code. code ≡ SendNoBuffer) → OnErr r (new ≡ w) → Sends w task bytes r new told
sends w new task bytes plan p there told r ok tells err refused = record {
  ok = ok;
  tells = goes w task bytes plan p told r tells;
  err = short_declined w new task bytes plan p there r err;
  refused = refused;
  wanted = short_wants w new task bytes plan p r;
}

-- A text that can't be sent by a plan is refused.
pub plan_refused : (w : WorldView) (task : ℕ) (bytes : List ℕ) → HasTask w task → (parsed : Parsed) (text : Parses bytes parsed) (code : MsgReturn) (told : Change)
    → CannotPlan w task parsed text.written (msg_number code) → Sends w task bytes (Err code) w told
plan_refused w task bytes there parsed text code told cannot = record {
  ok = tt;
  tells = tt;
  err = plan_declined w task there bytes parsed text (msg_number code) cannot;
  refused = refl;
  wanted = check_wants w task bytes parsed text (msg_number code) cannot;
}

-- ---- of a short message

module _ (w : WorldView) (task : ℕ) (bytes : List ℕ) (short : Short) (reads : ReadsShort bytes short) (plan : ShortPlan)
    (is : (p : Parses bytes (parsed_short short)) → IsShortPlan w task (parsed_short short) p.written bytes plan) where
  abbrev pub short_planned : PlansShort w task bytes plan
  short_planned = record { parsed = parsed_short short; text = reads.parses; is_plan = is reads.parses }

  carried_short : (new : WorldView) (r : Result (Unit {0}) MsgReturn) → IfOk r (λ _. (t : ℕ) (b : List ℕ) → PlansShort w t b plan → SendsText w t b new) → IfOk r (λ _. SendsText w task bytes new)
  carried_short new (Ok v) sent = sent task bytes short_planned
  carried_short new (Err code) sent = tt

  pub short_sends : (new : WorldView) → HasTask w task → (told : Change) (r : Result (Unit {0}) MsgReturn) → IfOk r (λ _. (t : ℕ) (b : List ℕ) → PlansShort w t b plan → SendsText w t b new)
      → OnOk r (TellsPlan w (short_view plan) told) → IfErr r (λ code. code ≡ SendNoBuffer) → OnErr r (new ≡ w) → Sends w task bytes r new told
  short_sends new there told r ok tells err refused =
      sends w new task bytes (short_view plan) (record { parsed = parsed_short short; text = reads.parses; is_plan = (is reads.parses).is_plan }) there told r (carried_short new r ok) tells err refused
