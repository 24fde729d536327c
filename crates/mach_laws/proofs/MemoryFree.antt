-- An event that takes no memory is refused by a guard of the state before alone, and never for want of memory.
use Rattle.std.proofs.Common.{◌≡◌, ℕ, ◌∷◌, [], subst, arith, inl, inr, None, Some}
use Rattle.mach_types.specs.Codes.{kern_number}
use Rattle.mach_types.specs.declared.codes.KernReturn.TheVariants.{InvalidName, InvalidTask, InvalidRight, InvalidValue, UrefsOverflow, NoSpace, NotInSet, InvalidArgument}
use Rattle.mach_types.specs.Guards.{Guards, FirstIs, NoneHolds}
use Rattle.mach_types.specs.declared.calls.Event.{Event}
use Rattle.mach_types.specs.declared.calls.Reply.{Reply}
use Rattle.mach_model.specs.State.{State}
use Rattle.mach_model.specs.Notices.{Owed}
use Rattle.mach_model.specs.Refusals.{guards, Refuses}
use Rattle.mach_model.specs.Machine.{Done, Step}
use Rattle.mach_model.specs.Acts.{Does}
use Rattle.mach_laws.specs.Judging.{IsMemoryCode, LacksMemory}
use Rattle.mach_laws.specs.MemoryFree.{TakesNoMemory}
use Rattle.mach_laws.proofs.Refusals.{itself, none_is_first}

-- ---- codes

-- no guard's code is one for want of memory
abbrev AreOther : Guards → Type 0
AreOther [] = Unit {0}
AreOther (g ∷ gs) = ¬ (IsMemoryCode g.1) × AreOther gs

first_other : (gs : Guards) (code : ℕ) → AreOther gs → FirstIs gs code → ¬ (IsMemoryCode code)
first_other [] code other first is = first
first_other (g ∷ gs) code other (inl h) is = other.0 (subst IsMemoryCode h.1 is)
first_other (g ∷ gs) code other (inr h) is = first_other gs code other.1 h.1 is

no_task : ¬ (IsMemoryCode (kern_number InvalidTask))
no_task h = omega (arith, h)

no_name : ¬ (IsMemoryCode (kern_number InvalidName))
no_name h = omega (arith, h)

no_right : ¬ (IsMemoryCode (kern_number InvalidRight))
no_right h = omega (arith, h)

no_value : ¬ (IsMemoryCode (kern_number InvalidValue))
no_value h = omega (arith, h)

no_overflow : ¬ (IsMemoryCode (kern_number UrefsOverflow))
no_overflow h = omega (arith, h)

no_space : ¬ (IsMemoryCode (kern_number NoSpace))
no_space h = omega (arith, h)

no_member : ¬ (IsMemoryCode (kern_number NotInSet))
no_member h = omega (arith, h)

no_argument : ¬ (IsMemoryCode (kern_number InvalidArgument))
no_argument h = omega (arith, h)

no_success : ¬ (IsMemoryCode 0)
no_success h = omega (arith, h)

guards_other : (s : State) (event : Event) → TakesNoMemory event → AreOther (guards s event)
guards_other s (Event.TaskTerminate task) free = (no_task, tt)
guards_other s (Event.Deallocate task name) free = (no_task, (no_name, (no_right, tt)))
guards_other s (Event.Destroy task name) free = (no_task, (no_name, tt))
guards_other s (Event.ModRefs task name right delta) free = (no_task, (no_value, (no_name, (no_right, (no_value, (no_overflow, (no_space, tt)))))))
guards_other s (Event.GetRefs task name right) free = (no_task, (no_value, (no_name, tt)))
guards_other s (Event.NameType task name) free = (no_task, (no_name, tt))
guards_other s (Event.ReceiveStatus task name) free = (no_task, (no_name, (no_right, tt)))
guards_other s (Event.SetQlimit task name n) free = (no_task, (no_value, (no_name, (no_right, tt))))
guards_other s (Event.SetMscount task name n) free = (no_task, (no_name, (no_right, tt)))
guards_other s (Event.SetSeqno task name n) free = (no_task, (no_name, (no_right, tt)))
guards_other s (Event.MoveMember task member after) free = (no_task, (no_name, (no_right, (no_member, tt))))
guards_other s (Event.ExtractMember task member set) free = (no_task, (no_argument, (no_name, (no_right, (no_member, tt)))))
guards_other s event free = absurd free

-- ---- refusals

no_later : (code : ℕ) → None ≡ Some code → ⊥
no_later code e = cc

guarded : (s : State) (event : Event) (code : ℕ) → TakesNoMemory event → Refuses s event code → FirstIs (guards s event) code
guarded s event code free (inl first) = first
guarded s (Event.TaskTerminate task) code free (inr h) = absurd (no_later code h.1)
guarded s (Event.Deallocate task name) code free (inr h) = absurd (no_later code h.1)
guarded s (Event.Destroy task name) code free (inr h) = absurd (no_later code h.1)
guarded s (Event.ModRefs task name right delta) code free (inr h) = absurd (no_later code h.1)
guarded s (Event.GetRefs task name right) code free (inr h) = absurd (no_later code h.1)
guarded s (Event.NameType task name) code free (inr h) = absurd (no_later code h.1)
guarded s (Event.ReceiveStatus task name) code free (inr h) = absurd (no_later code h.1)
guarded s (Event.SetQlimit task name n) code free (inr h) = absurd (no_later code h.1)
guarded s (Event.SetMscount task name n) code free (inr h) = absurd (no_later code h.1)
guarded s (Event.SetSeqno task name n) code free (inr h) = absurd (no_later code h.1)
guarded s (Event.MoveMember task member after) code free (inr h) = absurd (no_later code h.1)
guarded s (Event.ExtractMember task member set) code free (inr h) = absurd (no_later code h.1)
guarded s event code free (inr h) = absurd free

pub free_refused : (s : State) (event : Event) (code : ℕ) → TakesNoMemory event → Refuses s event code → FirstIs (guards s event) code × ¬ (IsMemoryCode code)
free_refused s event code free r = let first = guarded s event code free r in (first, first_other (guards s event) code (guards_other s event free) first)

-- ---- steps

code_other : (code : ℕ) → code ≡ 0 → ¬ (IsMemoryCode code)
code_other code e is = no_success (subst IsMemoryCode e is)

done_other : (now : ℕ) (s : State) (event : Event) (reply : Reply) (mid : State) (owed : Owed) → TakesNoMemory event → Does now s event reply mid owed → ¬ (LacksMemory reply)
done_other now s (Event.TaskTerminate task) (Reply.Code code) mid owed free d = code_other code d.0
done_other now s (Event.Deallocate task name) (Reply.Code code) mid owed free d = code_other code d.0
done_other now s (Event.Destroy task name) (Reply.Code code) mid owed free d = code_other code d.0
done_other now s (Event.ModRefs task name right delta) (Reply.Code code) mid owed free d = code_other code d.0
done_other now s (Event.GetRefs task name right) (Reply.Refs n) mid owed free d = λ h. h
done_other now s (Event.NameType task name) (Reply.NameType n) mid owed free d = λ h. h
done_other now s (Event.ReceiveStatus task name) (Reply.Status status) mid owed free d = λ h. h
done_other now s (Event.SetQlimit task name n) (Reply.Code code) mid owed free d = code_other code d.0
done_other now s (Event.SetMscount task name n) (Reply.Code code) mid owed free d = code_other code d.0
done_other now s (Event.SetSeqno task name n) (Reply.Code code) mid owed free d = code_other code d.0
done_other now s (Event.MoveMember task member after) (Reply.Code code) mid owed free d = code_other code d.0
done_other now s (Event.ExtractMember task member set) (Reply.Code code) mid owed free d = code_other code d.0
done_other now s (Event.InsertMember task member set) reply mid owed free d = absurd free
done_other now s Event.TaskCreate reply mid owed free d = absurd free
done_other now s (Event.Allocate task right) reply mid owed free d = absurd free
done_other now s (Event.AllocateName task right name) reply mid owed free d = absurd free
done_other now s (Event.Names task) reply mid owed free d = absurd free
done_other now s (Event.Rename task o n) reply mid owed free d = absurd free
done_other now s (Event.SetStatus task name) reply mid owed free d = absurd free
done_other now s (Event.InsertRight task name from poly number) reply mid owed free d = absurd free
done_other now s (Event.ExtractRight task name number to) reply mid owed free d = absurd free
done_other now s (Event.RequestNotification task name variant sync notify number) reply mid owed free d = absurd free
done_other now s (Event.Send task bytes) reply mid owed free d = absurd free
done_other now s (Event.Receive task name room large) reply mid owed free d = absurd free
done_other now s (Event.ReceiveAgain task waited room large) reply mid owed free d = absurd free
done_other now s event reply mid owed free d = absurd d

pub free_replies : (now : ℕ) (s : State) (event : Event) (reply : Reply) (new : State) → TakesNoMemory event → Step now s event reply new → ¬ (LacksMemory reply)
free_replies now s event reply new free (inl r) is = (free_refused s event r.code free r.refuses).1 (subst LacksMemory r.told is)
free_replies now s event reply new free (inr d) is = done_other now s event reply d.mid d.owed free d.does is

pub free_done : (now : ℕ) (s : State) (event : Event) (reply : Reply) (new : State) → TakesNoMemory event → NoneHolds (guards s event) → Step now s event reply new → Done now s event reply new
free_done now s event reply new free good (inl r) = absurd (none_is_first (guards s event) (guards s event) r.code (itself (guards s event)) (guarded s event r.code free r.refuses) good)
free_done now s event reply new free good (inr d) = d
