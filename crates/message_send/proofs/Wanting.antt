-- A send that is refused for want of memory wanted it.
use Rattle.std.proofs.Common.{◌≡◌, ℕ, List, ap, subst, inl, inr, ◌⊎◌, arith, length}
use Rattle.mach_types.specs.declared.codes.MsgReturn.{MsgReturn}
use Rattle.mach_types.specs.declared.codes.MsgReturn.TheVariants.{SendNoBuffer}
use Rattle.mach_types.specs.Grammar.{Header, WireBody, Spells}
use Rattle.mach_types.specs.Codes.{msg_number}
use Rattle.mach_types.specs.TextGuards.{TextRefuses}
use Rattle.mach_model.specs.State.{State}
use Rattle.mach_model.specs.SendRefusals.{RightsRefuse}
use Rattle.mach_laws.proofs.Refusals.{rights_taken, rights_alike, one_text as one_message}
use Rattle.message_codec.specs.declared.text.Parsed.{Parsed}
use Rattle.message_codec.specs.Parses.{Parses, IsCrowded}
use Rattle.message_codec.specs.Spans.{body_spans}
use Rattle.message_codec.specs.Words.{body_words}
use Rattle.message_codec.proofs.Messages.{message_not_refused}
use Rattle.copyin_base.specs.Shows.{Shows}
use Rattle.copyin_base.specs.Worlds.{WorldView}
use Rattle.copyin.specs.Plans.{Plans, CannotPlan}
use Rattle.copyin.specs.Wanted.{WantsToSend}
use Rattle.copyin.proofs.Planning.{message, third, copied}
use Rattle.copyin.proofs.Refused.{cannot}
use Rattle.copyin.proofs.Sent.{unrefused}

-- ---- the text

no_text : (bytes : List ℕ) (header : Header) (written : WireBody) → Spells bytes header written → TextRefuses bytes (msg_number SendNoBuffer) → ⊥
no_text bytes header written spells (inl (inl h)) = omega (arith, h.1)
no_text bytes header written spells (inl (inr (small, inl h))) = omega (arith, h.1)
no_text bytes header written spells (inl (inr (small, inr (long, inl h)))) = omega (arith, h.1)
no_text bytes header written spells (inl (inr (small, inr (long, inr (bad, h))))) = h
no_text bytes header written spells (inr (good, bit, items)) = message_not_refused bytes header written (msg_number SendNoBuffer) spells good (inr (good, bit, items))

module _ (w : WorldView) (task : ℕ) (bytes : List ℕ) where
  text_wants : TextRefuses bytes (msg_number SendNoBuffer) → WantsToSend w task bytes
  text_wants h = record { unrefused = λ s sh header written spells words items code r. absurd (no_text bytes header written spells h) }

  crowded_wants : IsCrowded bytes → WantsToSend w task bytes
  crowded_wants h = record {
    unrefused = λ s sh header written spells words items code r.
        let same = one_message bytes header h.header written h.written spells h.message.spells in
        let long : length (body_spans written) ≡ length (body_spans h.written) = ap (λ (b : WireBody). length (body_spans b)) same.1 in
        absurd (omega (arith, items, long, h.many));
  }

  pub parse_wants : (code : MsgReturn) → (TextRefuses bytes (msg_number code) ⊎ (code ≡ SendNoBuffer) × IsCrowded bytes) → msg_number code ≡ msg_number SendNoBuffer → WantsToSend w task bytes
  parse_wants code (inl h) is = text_wants (subst (TextRefuses bytes) is h)
  parse_wants code (inr h) is = crowded_wants h.1

  -- ---- the rights

  module _ (parsed : Parsed) (text : Parses bytes parsed) where
    -- a refusal of what the bytes spell is one of the text
    of_text : (s : State) (header : Header) (written : WireBody) (code : ℕ) → Spells bytes header written → RightsRefuse s task header written code → RightsRefuse s task text.header text.written code
    of_text s header written code spells r =
        let same = one_message bytes header text.header written text.written spells text.message.spells in
        subst (λ (b : WireBody). RightsRefuse s task text.header b code) same.1 (subst (λ (h : Header). RightsRefuse s task h written code) same.0 r)

    taken : Plans w task parsed text.written → (s : State) → Shows w s → (code : ℕ) → RightsRefuse s task text.header text.written code → ⊥
    taken plans s sh code r =
        let j = plans.judged in
        rights_taken task text.header text.written s (message w s sh task bytes parsed text j) (third w s sh task bytes parsed text j).t code
        (copied w s sh task bytes parsed text j) (unrefused w s sh 0 task bytes parsed text j plans.no_loop plans.slot plans.few) r

    pub plans_wants : Plans w task parsed text.written → WantsToSend w task bytes
    plans_wants plans = record { unrefused = λ s sh header written spells words items code r. absurd (taken plans s sh code (of_text s header written code spells r)) }

    plan_wants : CannotPlan w task parsed text.written (msg_number SendNoBuffer) → WantsToSend w task bytes
    plan_wants h = record {
      unrefused = λ s sh header written spells words items code r.
          let mine = of_text s header written code spells r in
          elim (cannot w s sh task bytes parsed text (msg_number SendNoBuffer) h) [
            | inl may ↦ elim may.0 [
              | inl plans ↦ absurd (taken plans s sh code mine)
              | inr many ↦
                  let same = one_message bytes header text.header written text.written spells text.message.spells in
                  let long : length (body_words written) ≡ length (body_words text.written) = ap (λ (b : WireBody). length (body_words b)) same.1 in
                  absurd (omega (arith, words, long, many))
            ]
            | inr why ↦ rights_alike task text.header text.written s code (msg_number SendNoBuffer) mine why
          ];
    }

    pub check_wants : (code : ℕ) → CannotPlan w task parsed text.written code → code ≡ msg_number SendNoBuffer → WantsToSend w task bytes
    check_wants code h is = plan_wants (subst (CannotPlan w task parsed text.written) is h)
