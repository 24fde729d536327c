-- A request is renewed.
use Rattle.std.proofs.Common.{ℕ, Option, Some, subst, ◌∙◌, inr, ◌≡◌, zero, suc, ◌+◌, ◌<◌, ◌≤◌, [], ◌∷◌, refl, sym, ap, arith, false, inl, length}
use Rattle.std.specs.Prelude.{if◌then◌else◌, ◌&&◌}
use Rattle.std.proofs.lemmas.Bool.{eq-eqb}
use Rattle.mach_types.specs.Guards.{NoneHolds}
use Rattle.mach_types.specs.Messages.{to_port}
use Rattle.mach_types.specs.Tokens.{Request, in_request, receive, send, send_once, no_senders, in_message, Token, token, weigh, is_of}
use Rattle.mach_types.specs.declared.calls.Reply.{Reply}
use Rattle.mach_model.specs.State.{State, senders}
use Rattle.mach_model.specs.CopyIn.{CopyRight}
use Rattle.mach_model.specs.Notices.{Owed, no_more_senders}
use Rattle.mach_model.specs.Requests.{Requests, RequestOn, Keeps}
use Rattle.mach_model.specs.RequestRefusals.{noted_guards}
use Rattle.mach_model.specs.Death.{same_place}
use Rattle.mach_model.specs.Carried.{lying}
use Rattle.rights.specs.Ledger.{counts_of}
use Rattle.name_space.specs.declared.Entry.{Entry}
use Rattle.copyin_base.specs.Shows.{Shows, Agrees, SlotsSuffice}
use Rattle.copyin_base.specs.Worlds.{WorldView, HasTask}
use Rattle.copyin_base.specs.declared.Notice.TheVariants as notice
use Rattle.copyin_base.specs.Posted.{with_notice}
use Rattle.copyin_base.proofs.Acting.{Leaves-so}
use Rattle.copyin_base.proofs.SendersNoted.{sends_shifted}
use Rattle.copyin_base.proofs.Taking.{Without, take_lying}
use Rattle.notifications.specs.declared.request.Asked.{Asked}
use Rattle.notifications.specs.declared.request.Paying.{Paying}
use Rattle.notifications.specs.declared.request.Subject.{Subject}
use Rattle.notifications.specs.Requesting.{request_of, IsSubject, MayRequest}
use Rattle.notifications.specs.Room.{Readies}
use Rattle.notifications.specs.Putting.{Ends, Goes, IsTold, without}
use Rattle.notifications.proofs.RequestBegun.{Begun, ready_shows, pays_ready, copied_at, is_paid}
use Rattle.notifications.proofs.RequestJudged.{good_noted, subject_on, e_ready as e, begun_ready as begun, bk, can_post, leaves, event_of}
use Rattle.notifications.specs.declared.request.Subject.TheVariants.{Senders}
use Rattle.copyin_base.specs.Losing.{Posts}
use Rattle.notifications.proofs.RightBack.{Back}
use Rattle.notifications.proofs.NoticePosted.{told_agrees}
use Rattle.notifications.proofs.Told.{told_sound}

-- ---- A request is renewed: what the machine does with the right that pays, in each state that the tables show.

module _ (w : WorldView) (task name : ℕ) (asked : Asked) (g : Paying) (subject : Subject) (previous : Option ℕ) (below : HasTask w task) (may : MayRequest w task name asked (Some g) subject previous)
    (ready : WorldView) (rdy : Readies w task subject (Some g) previous ready) (s : State) (sh : Shows w s) (mid : WorldView) (c : Goes ready task g mid) (word : ℕ) (out : WorldView)
    (ends : Ends mid task name subject previous word out) where
  abbrev r : Request
  r = request_of task name subject

  abbrev b : Begun w s task name subject previous (Some g) mid
  b = begun w task name asked g subject previous below may ready rdy s sh mid c

  abbrev back : State
  back = (bk w task name asked g subject previous below may ready rdy s sh mid c word out ends).back

  copied_in : CopyRight task (in_request r) asked.disposition asked.notify s (to_port g.port) (record b.t { ledger = b.C })
  copied_in = subst (λ (n : ℕ). CopyRight task (in_request r) asked.disposition n s (to_port g.port) (record b.t { ledger = b.C })) may.pays.1
      (copied_at ready s task asked.disposition g may.pays.3 mid
      (is_paid ready s (ready_shows w s sh task name subject previous may.stood ready below rdy.same) task asked.disposition g may.pays.2
      (pays_ready w s sh task name subject previous may.stood ready below g asked.disposition may.pays.2 may.pays.3 may.pays.4 rdy (e w task name asked g subject previous below may ready rdy).0 (e w task name asked g subject previous below may ready rdy).1) mid c)
      (in_request r))

  -- What the machine does, where the new right is kept or used so; nothing refuses it then.
  pub requests : (after : State) (owed : Owed) → Keeps task name asked.sync r g.port back after owed →
      (d : Requests task name asked.variant asked.sync asked.notify asked.disposition word s after owed)
      × NoneHolds (noted_guards s d.copied task name asked.variant asked.sync asked.notify)
  requests after owed keeps =
      let x = e w task name asked g subject previous below may ready rdy in
      let is = subst (λ (o : Option Entry). IsSubject o may.variant asked.sync asked.notify subject) x.1 may.is_on in (
        record {
          request = r;
          copied = record b.t { ledger = b.C };
          back = back;
          copy = inr (may.pays.0, (g.port, copied_in, keeps));
          on = subst (λ (n : ℕ). RequestOn (record b.t { ledger = b.C }) task name n r) may.number
              (subject_on w s sh task name subject previous may.stood mid b.t b.agrees b.C (Some x.0) (b.left name ∙ x.1) may.variant asked.sync asked.notify is);
          given_back = (bk w task name asked g subject previous below may ready rdy s sh mid c word out ends).gives;
        },
        subst (λ (n : ℕ). NoneHolds (noted_guards s (record b.t { ledger = b.C }) task name n asked.sync asked.notify)) may.number
            (good_noted w s sh task name subject previous may.stood below (Some g) mid b x.0 x.1 may.space may.variant asked.sync asked.notify is),
      )

-- ---- A request that is told at once, or kept: the tables agree with the state midway.

module _ (w : WorldView) (task name : ℕ) (asked : Asked) (g : Paying) (p : ℕ) (previous : Option ℕ) (below : HasTask w task) (may : MayRequest w task name asked (Some g) (Senders p) previous)
    (ready : WorldView) (rdy : Readies w task (Senders p) (Some g) previous ready) (s : State) (sh : Shows w s) (mid : WorldView) (c : Goes ready task g mid) (word : ℕ) (out : WorldView)
    (ends : Ends mid task name (Senders p) previous word out) where
  abbrev b_finished : Begun w s task name (Senders p) previous (Some g) mid
  b_finished = begun w task name asked g (Senders p) previous below may ready rdy s sh mid c

  abbrev k : ℕ
  k = length (s.log 0)

  abbrev it : Back s b_finished.t b_finished.C b_finished.X b_finished.Y k task (no_senders p) (without mid task name (Senders p)) word out
  it = bk w task name asked g (Senders p) previous below may ready rdy s sh mid c word out ends

  abbrev t3 : State
  t3 = it.t3

  abbrev x : Token
  x = token send_once g.port (in_message 0 k)

  abbrev y : Token
  y = token send_once g.port (in_request (no_senders p))

  rights : (h : Token → ℕ) → weigh h it.back.ledger + h x ≡ weigh h t3.ledger + h y
  rights h = it.rights h

  lie : 0 < lying t3 send_once g.port (in_message 0 k)
  lie =
      let m = rights (λ z. if is_of send_once g.port z && same_place (in_message 0 k) z.place then 1 else 0) in
      let own : (if is_of send_once g.port x && same_place (in_message 0 k) x.place then suc zero else zero) ≡ suc zero = rw (eq-eqb g.port g.port refl, eq-eqb k k refl) refl in
      let far : (if is_of send_once g.port y && false then suc zero else zero) ≡ zero = rw (eq-eqb g.port g.port refl) refl in
      omega (arith, m, own, far)

  spent : Without x t3.ledger
  spent = take_lying 0 k send_once g.port t3.ledger lie

  module _ (number : ℕ) (told : IsTold out p asked.sync number) (new : WorldView) (posts : Posts out g.port (notice.NoSenders number) new) (slots : SlotsSuffice new) where
    abbrev owed : Owed
    owed = (y, no_more_senders number) ∷ []

    abbrev after : State
    after = record it.back { ledger = spent.others }

    same_number : it.back.make_send p ≡ number
    same_number = ap (λ (z : State). z.make_send p) it.rest ∙ sym ((it.agrees.ports p told.v told.there).make_send) ∙ told.made

    none : senders it.back p ≡ 0
    none =
        let m = rights (λ z. if is_of send p z then 1 else 0) in
        let a = (it.agrees.counts p).senders in
        let z = told.none in omega (arith, m, a, z)

    few : asked.sync ≤ it.back.make_send p
    few = let a = told.enough in let b_finished = same_number in omega (arith, a, b_finished)

    spends : (h : Token → ℕ) → weigh h spent.others + (h y + 0) ≡ weigh h it.back.ledger + 0
    spends h = let a = spent.parts h in let m = rights h in omega (arith, a, m)

    within : t3.taken g.port ≤ length (t3.log g.port)
    within = it.keeps.within g.port

    pub told_so : (now : ℕ) → Leaves-so w (event_of task name asked) (Reply.Previous word) new now s
    told_so now =
        let paid = (can_post w task name asked g (Senders p) previous below may ready rdy s sh mid c word out ends).paid in
        let j = length (t3.log g.port) in
        let a : Agrees new (with_notice now (record t3 { ledger = spent.others }) (y, no_more_senders number)) =
        told_agrees out t3 it.agrees g.port (notice.NoSenders number) new posts now within paid (in_message 0 k) (λ r. refl) j (token send_once g.port (in_message g.port j) ∷ spent.others) (λ h. let z = spent.parts h in omega (arith, z)) in
        leaves w s task name (Senders p) previous (Some g) mid b_finished word out it (event_of task name asked) (Reply.Previous word) now new after owed
        (requests w task name asked g (Senders p) previous below may ready rdy s sh mid c word out ends after owed
        (inl (p, refl, (none, few), spends, refl, ap (λ (n : ℕ). (y, no_more_senders n) ∷ []) (sym same_number))))
        (subst (λ (z : State). Agrees new (with_notice now (record z { ledger = spent.others }) (y, no_more_senders number))) (sym it.rest) a)
        (told_sound out g.port (notice.NoSenders number) new posts refl it.sound)
        slots (λ q zero_sends. sends_shifted out.ledger g.port q (ap (λ (z : WorldView). (counts_of z.ledger q).send) (sym posts.rest) ∙ zero_sends))
        (ap (λ (z : WorldView). z.ports.noted) posts.rest)
        (λ q. ap (λ (z : State). z.live_port q) it.rest)
        (λ q. let z = spent.parts (λ v. if is_of receive q v then 1 else 0) in omega (arith, z))
