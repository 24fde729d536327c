-- Whatever a pass calls, it stays its caller's, and that of a history of its profile.
use Rattle.std.proofs.Common.{◌≡◌, ℕ, Bool, true, false, List, [], ◌∷◌, refl, ap, ◌∙◌, ◌==◌, ◌&&◌, inl, inr}
use Rattle.std.specs.Prelude.{MatchBool, length, min}
use Rattle.std.proofs.lemmas.Bool.Decides.{eqb_tells}
use Rattle.std.specs.Int.RustNames.{bit_and}
use Rattle.mach_types.specs.Bits.{send_msg_option, rcv_msg_option, send_timeout_option, rcv_timeout_option, rcv_large_option}
use Rattle.mach_types.specs.Numbers.{most_bytes}
use Rattle.mach_types.specs.declared.calls.Event.{Event}
use Rattle.mach_types.specs.declared.calls.Reply.{Reply}
use Rattle.mach_types.specs.declared.calls.Waited.{Waited}
use Rattle.kernel_lock.specs.declared.entry.Entry.{Entry}
use Rattle.kernel_lock.specs.History.{Known, Called, Extends}
use Rattle.mach_msg_threads.specs.declared.block.Answer.{Answer}
use Rattle.mach_msg_threads.specs.declared.block.Call.{Call}
use Rattle.mach_msg_threads.specs.Blocks.{Answered, Ran}
use Rattle.mach_msg_threads.specs.Tries.{Retries, none, more, IsFull, IsEmpty, EndsSending, Sends, TriesAgain, Receives, has, Received, NothingReceived, Lawfully, MessageCall}

record Stays (v w : Known) : Type 0 where
  caller : w.caller ≡ v.caller
  profile : w.profile ≡ v.profile

stays : (v w : Known) → w ≡ v → Stays v w
stays v w same = record { caller = ap (λ (k : Known). k.caller) same; profile = ap (λ (k : Known). k.profile) same }

through : (v m w : Known) → Stays v m → Stays m w → Stays v w
through v m w first last = record { caller = last.caller ∙ first.caller; profile = last.profile ∙ first.profile }

extended : (v w : Known) (e : Entry) → Extends v e w → Stays v w
extended v w e made = record { caller = made.caller; profile = made.profile }

called : (v w : Known) (event : Event) (reply : Reply) → Called v w event reply → Stays v w
called v w event (Reply.Code a) made = extended v w _ made
called v w event (Reply.Task a) made = extended v w _ made
called v w event (Reply.Name a) made = extended v w _ made
called v w event (Reply.Refs a) made = extended v w _ made
called v w event (Reply.NameType a) made = extended v w _ made
called v w event (Reply.Names a) made = extended v w _ made
called v w event (Reply.Status a) made = extended v w _ made
called v w event (Reply.Members a) made = extended v w _ made
called v w event (Reply.Right a b) made = extended v w _ made
called v w event (Reply.Previous a) made = extended v w _ made
called v w event (Reply.Message a) made = extended v w _ made
called v w event (Reply.Empty a) made = extended v w _ made
called v w event (Reply.TooLarge a) made = extended v w _ made
called v w event Reply.NoRecord made = stays v w made

retried : (event : Event) (Again : Reply → Type 0) (v w : Known) → Retries event Again v w → Stays v w
retried event Again v w' (none w) = stays w w refl
retried event Again v' w' (more v m w reply before again last) = through v m w (retried event Again v m before) (called m w event reply last)

by_test : (b : Bool) (P Q R : Type 0) → (P → R) → (Q → R) → MatchBool b P Q → R
by_test true P Q R f g h = f h
by_test false P Q R f g h = g h

sent : (task : ℕ) (bytes : List ℕ) (once : Bool) (v : Known) (code : ℕ) (w : Known) → Sends task bytes once v code w → Stays v w
sent task bytes once v code w s = through v s.before w (retried (Event.Send task bytes) IsFull v s.before s.full) (last s.last)
  where
    last : EndsSending task bytes s.before code w → Stays s.before w
    last (inl h) = stays s.before w h.0
    last (inr h) = called s.before w (Event.Send task bytes) h.0 h.1

tried : (task : ℕ) (waited : Waited) (room : ℕ) (large : Bool) (v : Known) (reply : Reply) (w : Known) → TriesAgain task waited room large v reply w → Stays v w
tried task waited room large v reply w t =
    let again = Event.ReceiveAgain task waited room large in
    through v t.before w (retried again IsEmpty v t.before t.empty) (called t.before w again reply t.last)

received : (task name room : ℕ) (large once : Bool) (v : Known) (reply : Reply) (w : Known) → Receives task name room large once v reply w → Stays v w
received task name room large once v reply w (inl h) = called v w (Event.Receive task name room large) reply h
received task name room large once v reply w (inr h) =
    let first = h.1.first in
    through v first w (called v first (Event.Receive task name room large) h.1.told h.1.tried) (tried task h.1.waited room large first reply w h.1.again)

lawfully : (task options : ℕ) (bytes : List ℕ) (name : ℕ) (v w : Known) (old new : List ℕ) (code len : ℕ) → Lawfully task options bytes name v w old new code len → Stays v w
lawfully task options bytes name v w old new code len l = through v l.between w there back
  where
    there : Stays v l.between
    there = by_test (has options send_msg_option) (Sends task bytes (has options send_timeout_option) v l.sent l.between) ((l.between ≡ v) × (l.sent ≡ 0)) (Stays v l.between)
        (sent task bytes (has options send_timeout_option) v l.sent l.between) (λ h. stays v l.between h.0) l.sends

    back : Stays l.between w
    back = by_test ((l.sent == 0) && has options rcv_msg_option) (Received task options name l.between w old new code len) (NothingReceived l.between w old new code l.sent len) (Stays l.between w)
        (λ h. received task name (min (length old) most_bytes) (has options rcv_large_option) (has options rcv_timeout_option) l.between h.reply w h.receives)
        (λ h. stays l.between w h.same) l.receives

message : (task options : ℕ) (bytes : List ℕ) (name : ℕ) (v w : Known) (old new : List ℕ) (code len : ℕ) → MessageCall task options bytes name v w old new code len → Stays v w
message task options bytes name v w old new code len m = elim (eqb_tells (bit_and options 0x913) options) [
  | inl h ↦ lawfully task options bytes name v w old new code len (m.lawful h.1)
  | inr h ↦ stays v w (m.unlawful h.1).same
]

answered : (call : Call) (v : Known) (answer : Answer) (w : Known) → Answered call v answer w → Stays v w
answered (Call.Event event) v (Answer.Reply reply) w a = called v w event reply a
answered (Call.Msg task options name room send) v (Answer.Msg outcome bytes) w a = message task options send name v w a.old a.new outcome.code outcome.len a.call
answered (Call.Event event) v (Answer.Msg outcome bytes) w a = absurd a
answered (Call.Msg task options name room send) v (Answer.Reply reply) w a = absurd a

ran_stays : (v : Known) (calls : List Call) (answers : List Answer) (w : Known) → Ran v calls answers w → Stays v w
ran_stays v [] [] w ran = stays v w ran
ran_stays v [] (y ∷ ys) w ran = absurd ran
ran_stays v (x ∷ xs) [] w ran = absurd ran
ran_stays v (x ∷ xs) (y ∷ ys) w ran = through v ran.0 w (answered x v y ran.0 ran.1) (ran_stays ran.0 xs ys w ran.2)

pub ran_caller : (v : Known) (calls : List Call) (answers : List Answer) (w : Known) → Ran v calls answers w → w.caller ≡ v.caller
ran_caller v calls answers w ran = (ran_stays v calls answers w ran).caller

pub ran_profile : (v : Known) (calls : List Call) (answers : List Answer) (w : Known) → Ran v calls answers w → w.profile ≡ v.profile
ran_profile v calls answers w ran = (ran_stays v calls answers w ran).profile
