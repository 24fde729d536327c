use Rattle.std.proofs.Common.{rules, ◌≡◌, ℕ, Bool, true, ◌==◌, ◌&&◌, refl, sym, ◌∙◌, subst, length}
use Rattle.std.specs.Prelude.{MatchBool, min}
use Rattle.mach_types.specs.Bits.{rcv_msg_option}
use Rattle.mach_types.specs.Numbers.{most_bytes}
use Rattle.mach_msg_threads.specs.Tries.{has}
use Rattle.mach_msg_threads.proofs.message.mach_msg.Goals as goal

-- What was sent is to be followed by a receipt, which is asked for.
receipt : (sent : ℕ) (wanted : Bool) (P Q : Type 0) → sent ≡ 0 → wanted ≡ true → P → MatchBool ((sent == 0) && wanted) P Q
receipt sent wanted P Q none asked p = subst (λ (n : ℕ). MatchBool ((n == 0) && wanted) P Q) (sym none) (subst (λ (b : Bool). MatchBool b P Q) (sym asked) p)

pub returns-in_default-clause-call : goal.returns-in_default-clause-call
returns-in_default-clause-call g c = record {
  lawful = λ l. absurd (c.in_default.ensures.none l);
  unlawful = λ u. record { same = refl; kept = refl; code_is = search rules; length_is = c.refused.ensures.1 };
}

pub returns-clause-call : goal.returns-clause-call
returns-clause-call g c =
    let asks = c.in-Some.ensures.some in
    record {
      lawful = λ l. record {
        between = c.send-code.new.pass;
        sent = c.send-code.result;
        sends = rw (sym asks.send, sym asks.send_once) c.send-code.ensures.sends;
        receives = receipt c.send-code.result (has c.args.options rcv_msg_option) _ _ sent wanted record {
          reply = c.receive-reply.result;
          receives = rw (sym asks.large, sym asks.receive_once, sym room) c.receive-reply.ensures.receives;
          code_is = c.hand_over.ensures.code;
          length_is = c.hand_over.ensures.length;
          buffer_is = c.hand_over.ensures.buffer;
        };
      };
      unlawful = λ u. absurd (u asks.lawful);
    }
  where
    sent : c.send-code.result ≡ 0
    sent = search rules

    wanted : has c.args.options rcv_msg_option ≡ true
    wanted = sym c.in-Some.ensures.some.receive ∙ search rules

    room : c.min.result ≡ min (length c.args.buf.now) most_bytes
    room = search rules

pub returns-in_default-clause-by_gate : goal.returns-in_default-clause-by_gate
returns-in_default-clause-by_gate g c = record {
  lawful = λ l. absurd (c.in_default.ensures.none l);
  unlawful = λ u. refl;
}

pub returns-clause-by_gate : goal.returns-clause-by_gate
returns-clause-by_gate g c =
    let asks = c.in-Some.ensures.some in
    record {
      lawful = λ l. record {
        between = c.send-code.new.pass;
        midway = c.send-code.new.gate;
        sent = c.send-code.result;
        sends = rw (sym asks.send, sym asks.send_once) c.send-code.ensures.by_gate;
        receives = receipt c.send-code.result (has c.args.options rcv_msg_option) _ _ sent wanted (
          c.receive-reply.result,
          c.hand_over.ensures.code,
          rw (sym asks.large, sym asks.receive_once, sym room) c.receive-reply.ensures.by_gate,
        );
      };
      unlawful = λ u. absurd (u asks.lawful);
    }
  where
    sent : c.send-code.result ≡ 0
    sent = search rules

    wanted : has c.args.options rcv_msg_option ≡ true
    wanted = search rules

    room : c.min.result ≡ min (length c.args.buf.now) most_bytes
    room = search rules
