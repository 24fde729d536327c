-- A message whose rights can't be copied in: the machine refuses it too.
use Rattle.std.proofs.Common.{◌≡◌, ℕ, Option, Some, None, refl, sym, ap, subst, ◌∙◌, arith, List, [], ◌∷◌, Bool, true, false, ◌⊎◌, inl, inr, length}
use Rattle.std.specs.Option.{option_map}
use Rattle.std.specs.FinMap as map
use Rattle.std.specs.Prelude.{◌≢◌, ◌==◌, if◌then◌else◌}
use Rattle.mach_types.specs.declared.rights.Disposition.{Disposition}
use Rattle.mach_types.specs.declared.rights.Disposition.TheVariants.{MoveReceive, MoveSend, MoveSendOnce, CopySend, MakeSend, MakeSendOnce}
use Rattle.mach_types.specs.Tokens.{receive, send, in_message}
use Rattle.mach_types.specs.declared.codes.MsgReturn.TheVariants.{SendNoBuffer}
use Rattle.mach_types.specs.Codes.{msg_number}
use Rattle.mach_types.specs.Messages.{to_port, dead, Mark as MachineMark}
use Rattle.mach_types.specs.Bodies.{OneFails}
use Rattle.mach_types.specs.Guards.{FirstIs}
use Rattle.mach_model.specs.State.{State, Target, lookup, held}
use Rattle.mach_model.specs.Telling.{one_if}
use Rattle.mach_model.specs.SentMeans.{target_mark}
use Rattle.mach_model.specs.CopyIn.{IsLegal, CopyRight, CopyWord, CopyReply}
use Rattle.mach_model.specs.Send.{place_at}
use Rattle.mach_model.specs.SendRefusals.{RightsRefuse, WholeRefuses, BodyRefuses, ReplyRefuses, DestinationRefuses, IsRefused, IsBadWord, sent_guards}
use Rattle.mach_model.specs.NameGuards.{IsDeadName, IsLegalName}
use Rattle.mach_model.proofs.Moving.{moving}
use Rattle.message_codec.specs.declared.text.Parsed.{Parsed}
use Rattle.message_codec.specs.declared.words.PortWord.{PortWord}
use Rattle.message_codec.specs.Parses.{Parses}
use Rattle.message_codec.specs.Words.{body_words}
use Rattle.name_space.specs.declared.Entry.{Entry}
use Rattle.name_space.specs.declared.Entry.TheVariants.{Receive, Send, ReceiveAndSend, SendOnce, DeadName}
use Rattle.name_space.specs.Entry.{port_named, has_receive, send_references}
use Rattle.name_space.specs.Names.{Names, SpaceView}
use Rattle.copyin_base.specs.declared.Carried.{Carried}
use Rattle.copyin_base.specs.declared.Mark.TheVariants as mark
use Rattle.copyin_base.specs.Kept.{mark_of, reply_of}
use Rattle.copyin_base.specs.Worlds.{WorldView, entry_in, put, space_at}
use Rattle.copyin_base.specs.Shows.{target_of, Shows}
use Rattle.copyin_base.specs.declared.Mark.{Mark}
use Rattle.dispositions.specs.declared.Copied.{Copied}
use Rattle.dispositions.specs.Copies.{copied_from}
use Rattle.copyin.specs.Judging.{CopiesName, CopiesReply, IsBad, BodyIsBad}
use Rattle.copyin.proofs.CopiedIn.{own_held}
use Rattle.copyin.proofs.Copying.{Along, Went, went, stepped, pairs, body_pairs}
use Rattle.copyin.specs.Plans.{MayWantMemory, destination_word, reply_words, Judged, CannotPlan}
use Rattle.copyin.proofs.Planning.{no_answer, Replied, replied, third, copied, message as planned_message}
use Rattle.copyin.proofs.Sent.{refused_loop, refused_full, refused_many}

-- ---- A message whose rights can't be copied in: the machine refuses it with the same code.

-- ---- what the machine lets go, the tables do

module _ (w : WorldView) (s : State) (o k task : ℕ) (names : Names) (at : Along w s o k task names) (name : ℕ) where
  -- what stands under the name, in the machine
  pub looked_up : lookup s task name ≡ option_map target_of (map.get names name)
  looked_up = at.agrees.naming task name ∙ ap (λ (x : Option SpaceView). option_map target_of (entry_in x name)) at.there
      ∙ ap (λ (m : Names). option_map target_of (map.get m name)) at.names_are

  module _ (entry : Entry) (found : map.get names name ≡ Some entry) where
    here : map.get at.space.names name ≡ Some entry
    here = ap (λ (m : Names). map.get m name) at.names_are ∙ found

    has : (p : ℕ) → port_named entry ≡ Some p → (held s task receive p ≡ one_if (has_receive entry)) × (held s task send p ≡ send_references entry)
    has p = own_held w s at.agrees o k at.moving task name at.space at.there entry here p

  abbrev Lets : Disposition → Entry → Type 0
  Lets d e = (c : Copied) × (copied_from d e ≡ Some c) × (target_mark d (target_of e) ≡ Some (mark_of c.mark))

  lets : (d : Disposition) (entry : Entry) → map.get names name ≡ Some entry → IsLegal s task d (target_of entry) → Lets d entry
  lets MoveReceive (Receive p) found legal = (record { left = None; mark = mark.Port p }, refl, refl)
  lets MoveReceive (ReceiveAndSend p n) found legal = (record { left = Some (Send p n); mark = mark.Port p }, refl, refl)
  lets MoveReceive (Send p n) found legal = absurd (let h = has (Send p n) found p refl in omega (arith, legal, h.0))
  lets MoveSend (Send p n) found legal = (_, refl, refl)
  lets MoveSend (ReceiveAndSend p n) found legal = (_, refl, refl)
  lets MoveSend (Receive p) found legal = absurd (let h = has (Receive p) found p refl in omega (arith, legal, h.1))
  lets MoveSend (DeadName n) found legal = (_, refl, refl)
  lets MoveSendOnce (SendOnce p) found legal = (record { left = None; mark = mark.Port p }, refl, refl)
  lets MoveSendOnce (DeadName n) found legal = (_, refl, refl)
  lets CopySend (Send p n) found legal = (_, refl, refl)
  lets CopySend (ReceiveAndSend p n) found legal = (_, refl, refl)
  lets CopySend (Receive p) found legal = absurd (let h = has (Receive p) found p refl in omega (arith, legal, h.1))
  lets CopySend (DeadName n) found legal = (_, refl, refl)
  lets MakeSend (Receive p) found legal = (_, refl, refl)
  lets MakeSend (ReceiveAndSend p n) found legal = (_, refl, refl)
  lets MakeSend (Send p n) found legal = absurd (let h = has (Send p n) found p refl in omega (arith, legal, h.0))
  lets MakeSendOnce (Receive p) found legal = (_, refl, refl)
  lets MakeSendOnce (ReceiveAndSend p n) found legal = (_, refl, refl)
  lets MakeSendOnce (Send p n) found legal = absurd (let h = has (Send p n) found p refl in omega (arith, legal, h.0))
  lets d entry found legal = absurd legal

  -- a target in the machine is an entry in the tables
  entry_of : (x : Option Entry) (t : Target) → option_map target_of x ≡ Some t → (e : Entry) × (x ≡ Some e) × (target_of e ≡ t)
  entry_of (Some e) t is = (e, refl, let f : Some (target_of e) ≡ Some t = is in cc)
  entry_of None t is = absurd (let f : None ≡ Some t = is in cc)

  -- A name by which the machine copies a right in, the tables do.
  pub legal_copies : (number : ℕ) → (l : IsLegalName s task name number) → (c : Carried) × (left : Names) × CopiesName names (record { disposition = number; name = name }) c left × (target_mark l.0 l.1 ≡ Some (mark_of c.mark))
  legal_copies number (d, t, is_d, found, legal) =
      let e = entry_of (map.get names name) t (sym looked_up ∙ found) in
      let l = lets d e.0 e.1 (subst (IsLegal s task d) (sym e.2) legal) in (
        record { given = d; mark = l.0.mark },
        put names name l.0.left,
        record { is_given = is_d; entry = e.0; found = e.1; copied = l.0; is = l.1; mark = refl; left = refl },
        ap (target_mark d) (sym e.2) ∙ l.2,
      )

-- ---- Words that can't be copied in, one after the other: the machine refuses them too.

module _ (w : WorldView) (s : State) (o k task : ℕ) (names : Names) (at : Along w s o k task names) where
  pub bad_word : (word : PortWord) → IsBad names word → IsBadWord s task word.disposition word.name
  bad_word word bad = (bad.0, bad.1, λ legal. let x = legal_copies w s o k task names at word.name word.disposition legal in bad.2 x.0 x.1 x.2)

-- ---- a body

pub bad_words : (w : WorldView) (s : State) (o k task : ℕ) (names : Names) (ws : List PortWord) → Along w s o k task names → BodyIsBad names ws →
    OneFails (IsRefused task) (λ old v new. (m : MachineMark) × CopyWord task (in_message o k) v.0 v.1 old m new) s (pairs ws)
bad_words w s o k task names [] at bad = bad
bad_words w s o k task names (v ∷ ws) at (inl bad) = inl (bad_word w s o k task names at v bad)
bad_words w s o k task names (v ∷ ws) at (inr (mid, (c, word), rest)) =
    let x = stepped w s o k task names v c mid at word in
    inr (x.t, (mark_of c.mark, x.copy), bad_words x.w2 x.t o k task mid ws x.along rest)

-- ---- the whole message

module _ (w : WorldView) (s : State) (sh : Shows w s) (task : ℕ) (bytes : List ℕ) (parsed : Parsed) (text : Parses bytes parsed) where
  start_at : (p : ℕ) (space : SpaceView) → space_at w task ≡ Some space → Along w s p (length (s.log p)) task space.names
  start_at p space there = record { agrees = sh.agrees; moving = moving s p (length (s.log p)) sh.lawful; space = space; there = there; names_are = refl; requested = sh.requested }

  -- ---- the destination

  dead_mark : (d : Disposition) (t : Target) → target_mark d t ≡ Some dead → (n : ℕ) × (t ≡ Target.dead n)
  dead_mark d (Target.dead n) e = (n, refl)
  dead_mark d (Target.port p) e = absurd (let f : Some (to_port p) ≡ Some dead = e in cc)
  dead_mark d (Target.once p) e = absurd (let f : Some (to_port p) ≡ Some dead = e in cc)
  dead_mark d (Target.set n) e = absurd (let f : None ≡ Some dead = e in cc)

  no_null : (d : Disposition) (t : Target) → target_mark d t ≡ Some MachineMark.null → ⊥
  no_null MoveReceive (Target.dead n) e = let f : None ≡ Some MachineMark.null = e in cc
  no_null d (Target.dead n) e = cc
  no_null d (Target.port p) e = cc
  no_null d (Target.once p) e = cc
  no_null d (Target.set n) e = let f : None ≡ Some MachineMark.null = e in cc

  module _ (space : SpaceView) (there : space_at w task ≡ Some space)
      (bad : (p : ℕ) (c : Carried) (after : Names) → c.mark ≡ mark.Port p → ¬ (CopiesName space.names (destination_word parsed) c after)) where
    module _ (l : IsLegalName s task parsed.remote parsed.remote_kind) where
      -- a destination that could be copied in is dead
      would_be : (c : Carried) (after : Names) → CopiesName space.names (destination_word parsed) c after → (m : Mark) → c.mark ≡ m → target_mark l.0 l.1 ≡ Some (mark_of m) → IsDeadName s task parsed.remote
      would_be c after n (mark.Port p) e is = absurd (bad p c after e n)
      would_be c after n mark.Null e is = absurd (no_null l.0 l.1 is)
      would_be c after n mark.Dead e is = let d = dead_mark l.0 l.1 is in (d.0, l.3 ∙ ap Some d.1)

      would_be_dead : IsDeadName s task parsed.remote
      would_be_dead =
          let x = legal_copies w s 0 (length (s.log 0)) task space.names (start_at 0 space there) parsed.remote parsed.remote_kind l in
          would_be x.0 x.1 x.2 x.0.mark refl x.3

    abbrev BadAs : (number name : ℕ) → Type 0
    BadAs number name = ¬ (IsLegalName s task name number) ⊎ IsDeadName s task name

    decided : (o : Option Target) → lookup s task parsed.remote ≡ o → BadAs parsed.remote_kind parsed.remote
    decided (Some (Target.dead n)) e = inr (n, e)
    decided None e = inl (λ l. let d = would_be_dead l in let f : None ≡ Some (Target.dead d.0) = sym e ∙ d.1 in cc)
    decided (Some (Target.port p)) e = inl (λ l. let d = would_be_dead l in let f : Some (Target.port p) ≡ Some (Target.dead d.0) = sym e ∙ d.1 in cc)
    decided (Some (Target.once p)) e = inl (λ l. let d = would_be_dead l in let f : Some (Target.once p) ≡ Some (Target.dead d.0) = sym e ∙ d.1 in cc)
    decided (Some (Target.set n)) e = inl (λ l. let d = would_be_dead l in let f : Some (Target.set n) ≡ Some (Target.dead d.0) = sym e ∙ d.1 in cc)

    bad_destination : DestinationRefuses s task text.header
    bad_destination =
        subst (λ (n : ℕ). BadAs n text.header.remote) text.remote_kind
        (subst (λ (n : ℕ). BadAs parsed.remote_kind n) text.remote (decided (lookup s task parsed.remote) refl))

  -- ---- what comes after the destination

  module _ (space : SpaceView) (there : space_at w task ≡ Some space) (p : ℕ) (c : Carried) (to : c.mark ≡ mark.Port p) (first : Names)
      (n : CopiesName space.names (destination_word parsed) c first) where
    abbrev end : ℕ
    end = length (s.log p)

    x1 : Went w s p (length (s.log p)) task (destination_word parsed) c first
    x1 = went w s p (length (s.log p)) task space.names (destination_word parsed) c first (start_at p space there) n

    to_header : CopyRight task (in_message p (length (s.log p))) text.header.remote_kind text.header.remote s (to_port p) x1.t
    to_header = grind (arith, x1)

    not_none : (b : Bool) → parsed.local_kind == 0 ≡ b → (r : PortWord) → (if b then [] else record { disposition = parsed.local_kind; name = parsed.local } ∷ []) ≡ r ∷ [] →
        (parsed.local_kind ≢ 0) × (r ≡ record { disposition = parsed.local_kind; name = parsed.local })
    not_none true e r is = absurd (let f : [] ≡ r ∷ [] = is in cc)
    not_none false e r is = grind arith

    bad_reply : (r : PortWord) → reply_words parsed ≡ r ∷ [] → IsBad first r → ReplyRefuses s task text.header
    bad_reply r is bad =
        let y = not_none (parsed.local_kind == 0) refl r is in
        let z = bad_word x1.w2 x1.t p (length (s.log p)) task first x1.along (record { disposition = parsed.local_kind; name = parsed.local }) (subst (IsBad first) y.1 bad) in
        record {
          port = p;
          first = x1.t;
          destination = to_header;
          some = λ e. y.0 (text.local_kind ∙ e);
          bad = subst (λ (m : ℕ). IsBadWord x1.t task text.header.local_kind m) text.local (subst (λ (m : ℕ). IsBadWord x1.t task m parsed.local) text.local_kind z);
        }

    module _ (reply : Option Carried) (second : Names) (r : CopiesReply first (reply_words parsed) reply second) where
      x2 : Replied x1.w2 x1.t p (length (s.log p)) task parsed.local_kind parsed.local (reply_words parsed) reply second
      x2 = replied x1.w2 x1.t p (length (s.log p)) task first x1.along parsed (λ e. text.local ∙ no_answer bytes parsed text (sym text.local_kind ∙ e)) reply second r

      reply_header : CopyReply task (in_message p (length (s.log p))) text.header.local_kind text.header.local x1.t (reply_of reply) x2.t
      reply_header = grind (arith, x1, x2)

      bad_rights : BodyIsBad second (body_words text.written) → BodyRefuses s task text.header text.written
      bad_rights bad = record {
        port = p;
        first = x1.t;
        destination = to_header;
        answer = reply_of reply;
        second = x2.t;
        reply = reply_header;
        refused = subst (OneFails (IsRefused task) (λ old v new. (m : MachineMark) × CopyWord task (in_message p (length (s.log p))) v.0 v.1 old m new) x2.t) (body_pairs text.written)
            (bad_words x2.w2 x2.t p (length (s.log p)) task second (body_words text.written) x2.along bad);
      }

  -- ---- the message as a whole

  whole_refused : (j : Judged w task parsed text.written) (code : ℕ) →
      FirstIs (sent_guards (planned_message w s sh task bytes parsed text j) (place_at s j.port) (third w s sh task bytes parsed text j).t) code → WholeRefuses s task text.header text.written code
  whole_refused j code first = record {
    m = planned_message w s sh task bytes parsed text j;
    copied_state = (third w s sh task bytes parsed text j).t;
    copied = copied w s sh task bytes parsed text j;
    refused = first;
  }

  -- What the tables refuse, the machine does, or memory may be wanted.
  pub cannot : (code : ℕ) → CannotPlan w task parsed text.written code → MayWantMemory w task parsed text.written × (code ≡ msg_number SendNoBuffer) ⊎ RightsRefuse s task text.header text.written code
  cannot code (inl (h, is)) = inr (inl (bad_destination h.space h.there h.nowhere, is))
  cannot code (inr (inl (h, is))) = let b = h.begins in inr (inr (inl (bad_reply b.space b.there b.port b.destination b.to_port h.first b.copies h.word h.is h.bad, is)))
  cannot code (inr (inr (inl (h, is)))) =
      let b = h.begins in inr (inr (inr (inl (bad_rights b.space b.there b.port b.destination b.to_port h.first b.copies h.reply h.second h.copies h.bad, is))))
  cannot code (inr (inr (inr (inl (j, inl h))))) = inr (inr (inr (inr (subst (WholeRefuses s task text.header text.written) (sym h.1) (whole_refused j _ (refused_loop w s sh 0 task bytes parsed text j h.0))))))
  cannot code (inr (inr (inr (inl (j, inr (inl h)))))) =
      inr (inr (inr (inr (subst (WholeRefuses s task text.header text.written) (sym h.2) (whole_refused j _ (refused_full w s sh 0 task bytes parsed text j h.0 h.1))))))
  cannot code (inr (inr (inr (inl (j, inr (inr h)))))) =
      inr (inr (inr (inr (subst (WholeRefuses s task text.header text.written) (sym h.3) (whole_refused j _ (refused_many w s sh 0 task bytes parsed text j h.0 h.1 h.2))))))
  cannot code (inr (inr (inr (inr h)))) = inl h
