use Rattle.std.proofs.Common.{rules, ◌≡◌, ℕ, ◌∷◌, [], refl, sym, ap, ◌∙◌, codes, bit_and}
use Rattle.bitflags.specs.Sets.{known_bits}
use Rattle.bitflags.proofs.OnLiterals.{bitflags_on_literals}
use Rattle.mach_types.specs.Bits.{send_msg_option, rcv_msg_option, send_timeout_option, rcv_timeout_option, rcv_large_option}
use Rattle.mach_msg_threads.specs.Tries.{AreOptions, has}
use Rattle.mach_msg_threads.proofs.message.read_options.Goals as goal

-- the bits of the five together
all_five : known_bits ((codes "SEND_MSG", send_msg_option) ∷ (codes "RCV_MSG", rcv_msg_option) ∷ (codes "SEND_TIMEOUT", send_timeout_option)
    ∷ (codes "RCV_TIMEOUT", rcv_timeout_option) ∷ (codes "RCV_LARGE", rcv_large_option) ∷ []) ≡ 0x913
unfolding bitflags_on_literals
all_five = refl

pub returns-in_default-clause-none : goal.returns-in_default-clause-none
returns-in_default-clause-none c = λ (are : AreOptions c.args.options). absurd (let a = (c.from_bits.ensures.known tt).1 (ap (bit_and c.args.options) all_five ∙ are) in search rules)

pub returns-clause-some : goal.returns-clause-some
returns-clause-some c =
    let is : c.in-Some.options.0 ≡ c.args.options = c.in-Some.ensures.value tt in record {
      lawful = let a = (c.from_bits.ensures.known tt).0 (search rules) in ap (bit_and c.args.options) (sym all_five) ∙ a;
      send = c.contains.ensures tt ∙ ap (λ (n : ℕ). has n send_msg_option) is;
      receive = c.contains-2.ensures tt ∙ ap (λ (n : ℕ). has n rcv_msg_option) is;
      send_once = c.contains-3.ensures tt ∙ ap (λ (n : ℕ). has n send_timeout_option) is;
      receive_once = c.contains-4.ensures tt ∙ ap (λ (n : ℕ). has n rcv_timeout_option) is;
      large = c.contains-5.ensures tt ∙ ap (λ (n : ℕ). has n rcv_large_option) is;
    }
