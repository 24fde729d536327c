-- A reply of a call that a pass made is no longer than its event lets it be.
use Rattle.std.proofs.Common.{◌≡◌, ℕ, ◌+◌, ◌≤◌, List, [], ◌∷◌, ◌++◌, length, inl, inr, refl, sym, subst, arith}
use Rattle.mach_types.specs.declared.calls.Event.{Event}
use Rattle.mach_types.specs.declared.calls.Reply.{Reply}
use Rattle.mach_model.specs.State.{State, opening_in}
use Rattle.mach_model.specs.Machine.{Step, RunFrom}
use Rattle.mach_model.specs.Acts.{Does}
use Rattle.mach_model.specs.Notices.{Owed}
use Rattle.kernel_lock.specs.declared.entry.Entry.{Entry}
use Rattle.kernel_lock.specs.History.{Known, Called, Extends, Legal, entry, events_of, replies_of}
use Rattle.kernel_core.specs.Bounds.{reply_bytes}
use Rattle.mach_msg_threads.specs.Tries.{most_received}

-- the last step of a run
record Last (now : ℕ) (old : State) (log : List Entry) (e : Entry) (new : State) : Type 0 where
  before : State
  leads : RunFrom now old (events_of log) (replies_of log) before
  number : ℕ
  step : Step number before e.event e.reply new

last_of : (now : ℕ) (old : State) (log : List Entry) (e : Entry) (new : State) → RunFrom now old (events_of (log ++ e ∷ [])) (replies_of (log ++ e ∷ [])) new → Last now old log e new
last_of now old [] e new run = record { before = old; leads = refl; number = now; step = subst (λ (s : State). Step now old e.event e.reply s) (sym run.2) run.1 }
last_of now old (x ∷ log) e new run =
    let l = last_of (now + 1) run.0 log e new run.2 in record { before = l.before; leads = (run.0, run.1, l.leads); number = l.number; step = l.step }

-- Only receipts answer bytes, and no more than there is room for.
bytes_few : (now : ℕ) (s : State) (event : Event) (bytes : List ℕ) (mid : State) (owed : Owed) → Does now s event (Reply.Message bytes) mid owed → length bytes ≤ most_received event
bytes_few now s Event.TaskCreate bytes mid owed d = absurd d
bytes_few now s (Event.TaskTerminate a) bytes mid owed d = absurd d
bytes_few now s (Event.Allocate a b) bytes mid owed d = absurd d
bytes_few now s (Event.AllocateName a b x) bytes mid owed d = absurd d
bytes_few now s (Event.Deallocate a b) bytes mid owed d = absurd d
bytes_few now s (Event.Destroy a b) bytes mid owed d = absurd d
bytes_few now s (Event.ModRefs a b x y) bytes mid owed d = absurd d
bytes_few now s (Event.GetRefs a b x) bytes mid owed d = absurd d
bytes_few now s (Event.NameType a b) bytes mid owed d = absurd d
bytes_few now s (Event.Names a) bytes mid owed d = absurd d
bytes_few now s (Event.Rename a b x) bytes mid owed d = absurd d
bytes_few now s (Event.ReceiveStatus a b) bytes mid owed d = absurd d
bytes_few now s (Event.SetQlimit a b x) bytes mid owed d = absurd d
bytes_few now s (Event.SetMscount a b x) bytes mid owed d = absurd d
bytes_few now s (Event.SetSeqno a b x) bytes mid owed d = absurd d
bytes_few now s (Event.SetStatus a b) bytes mid owed d = absurd d
bytes_few now s (Event.MoveMember a b x) bytes mid owed d = absurd d
bytes_few now s (Event.InsertMember a b x) bytes mid owed d = absurd d
bytes_few now s (Event.ExtractMember a b x) bytes mid owed d = absurd d
bytes_few now s (Event.InsertRight a b x y z) bytes mid owed d = absurd d
bytes_few now s (Event.ExtractRight a b x y) bytes mid owed d = absurd d
bytes_few now s (Event.RequestNotification a b x y z v) bytes mid owed d = absurd d
bytes_few now s (Event.Send a b) bytes mid owed d = absurd d
bytes_few now s (Event.Receive a b x y) bytes mid owed d = d.2.2.fits
bytes_few now s (Event.ReceiveAgain a b x y) bytes mid owed d = d.2.fits

message_told : (bytes : List ℕ) (code : ℕ) → Reply.Message bytes ≡ Reply.Code code → ⊥
message_told bytes code e = cc

message_few : (now : ℕ) (s : State) (event : Event) (bytes : List ℕ) (t : State) → Step now s event (Reply.Message bytes) t → length bytes ≤ most_received event
message_few now s event bytes t (inl r) = absurd (message_told bytes r.code r.told)
message_few now s event bytes t (inr d) = bytes_few now s event bytes d.mid d.owed d.does

extends_bounded : (v w : Known) (caller : ℕ) (event : Event) (bytes : List ℕ) → Extends v (entry caller event (Reply.Message bytes)) w → length bytes ≤ most_received event
extends_bounded v w caller event bytes x =
    let log = v.seen ++ x.between in
    let legal : Legal v.profile (log ++ entry caller event (Reply.Message bytes) ∷ []) = subst (Legal v.profile) x.seen x.legal in
    let l = last_of 0 (opening_in v.profile) log (entry caller event (Reply.Message bytes)) legal.state legal.leads in
    message_few l.number l.before event bytes legal.state l.step

pub called_bounded : (v w : Known) (event : Event) (reply : Reply) → Called v w event reply → reply_bytes reply ≤ most_received event
called_bounded v w event (Reply.Message bytes) called = extends_bounded v w v.caller event bytes called
called_bounded v w event (Reply.Code a) called = omega arith
called_bounded v w event (Reply.Task a) called = omega arith
called_bounded v w event (Reply.Name a) called = omega arith
called_bounded v w event (Reply.Refs a) called = omega arith
called_bounded v w event (Reply.NameType a) called = omega arith
called_bounded v w event (Reply.Names a) called = omega arith
called_bounded v w event (Reply.Status a) called = omega arith
called_bounded v w event (Reply.Members a) called = omega arith
called_bounded v w event (Reply.Right a b) called = omega arith
called_bounded v w event (Reply.Previous a) called = omega arith
called_bounded v w event (Reply.Empty a) called = omega arith
called_bounded v w event (Reply.TooLarge a) called = omega arith
called_bounded v w event Reply.NoRecord called = omega arith
