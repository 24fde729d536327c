-- A step answers each call by a reply that fits it: from the machine's own clauses.
use Rattle.std.proofs.Common.{◌≡◌, ◌≢◌, ◌==◌, false, ℕ, ◌⊎◌, inl, inr, List, [], ◌∷◌, refl, sym, ap, subst, Option, Some, None}
use Rattle.mach_types.specs.declared.calls.Event.{Event}
use Rattle.mach_types.specs.declared.calls.Reply.{Reply}
use Rattle.mach_types.specs.declared.calls.Waited.{Waited}
use Rattle.mach_types.specs.declared.codes.KernReturn.{KernReturn}
use Rattle.mach_types.specs.declared.codes.MsgReturn.{MsgReturn}
use Rattle.mach_types.specs.declared.codes.KernReturn.TheVariants as kern
use Rattle.mach_types.specs.declared.codes.MsgReturn.TheVariants as msg
use Rattle.mach_types.specs.declared.profiles.Profile.{Profile}
use Rattle.mach_types.specs.Numbers.{kind_sent}
use Rattle.mach_types.specs.Codes.{kern_number, msg_number}
use Rattle.mach_types.specs.Guards.{Guards, FirstIs}
use Rattle.mach_types.specs.Tokens.{Kind, Place, in_task}
use Rattle.mach_types.specs.Grammar.{Header, WireBody}
use Rattle.mach_types.specs.TextGuards.{ItemRefuses, item_guards}
use Rattle.mach_model.specs.State.{State, opening_in}
use Rattle.mach_model.specs.Machine.{Step}
use Rattle.mach_model.specs.Send.{place_at}
use Rattle.mach_model.specs.SendRefusals.{SendRefuses, RightsRefuse, WholeRefuses, sent_guards}
use Rattle.mach_model.specs.Notices.{Owed}
use Rattle.mach_model.specs.Receive.{Receipt}
use Rattle.mach_model.specs.ReceiptRefusals.{ReceiptRefuses}
use Rattle.mach_model.specs.RequestRefusals.{RequestRefuses, noted_guards}
use Rattle.mach_model.specs.TransferRefusals.{CopyRefuses, extracted_guards, inserted_guards}
use Rattle.mach_model.specs.Refusals.{Refuses, guards}
use Rattle.mach_model.specs.Acts.{Does}
use Rattle.mach_types.specs.declared.codes.Code.TheVariants as code
use Rattle.copyin_base.specs.Worlds.{WorldView}
use Rattle.copyin_base.specs.Shows.{Shows}
use Rattle.copyin_base.specs.Stands.{Stands}
use Rattle.kernel_core.specs.Answers.{Answers}
use Rattle.gelvonds.specs.Fits.{IsKern, IsCode, IsDone, IsReceived, Fits}

-- ---- what is done

receipt_fits : (s : State) (task : ℕ) (waited : Waited) (room : ℕ) (large : _) (reply : Reply) (mid : State) (owed : Owed) → Receipt s task waited room large reply mid owed → IsReceived reply
receipt_fits s task waited room large (Reply.Message bytes) mid owed d = tt
receipt_fits s task waited room large (Reply.Empty found) mid owed d = tt
receipt_fits s task waited room large (Reply.TooLarge n) mid owed d = tt
receipt_fits s task waited room large reply mid owed d = absurd d

done_fits : (now : ℕ) (s : State) (event : Event) (reply : Reply) (mid : State) (owed : Owed) → Does now s event reply mid owed → Fits event reply
done_fits now s Event.TaskCreate (Reply.Task told) mid owed d = tt
done_fits now s (Event.TaskTerminate task) (Reply.Code code) mid owed d = inl d.0
done_fits now s (Event.Allocate task right) (Reply.Name told) mid owed d = tt
done_fits now s (Event.AllocateName task right name) (Reply.Name told) mid owed d = tt
done_fits now s (Event.Deallocate task name) (Reply.Code code) mid owed d = inl d.0
done_fits now s (Event.Destroy task name) (Reply.Code code) mid owed d = inl d.0
done_fits now s (Event.ModRefs task name right delta) (Reply.Code code) mid owed d = inl d.0
done_fits now s (Event.GetRefs task name right) (Reply.Refs told) mid owed d = tt
done_fits now s (Event.NameType task name) (Reply.NameType told) mid owed d = tt
done_fits now s (Event.Names task) (Reply.Names entries) mid owed d = tt
done_fits now s (Event.Rename task o n) (Reply.Code code) mid owed d = inl d.0
done_fits now s (Event.ReceiveStatus task name) (Reply.Status status) mid owed d = tt
done_fits now s (Event.SetQlimit task name n) (Reply.Code code) mid owed d = inl d.0
done_fits now s (Event.SetMscount task name n) (Reply.Code code) mid owed d = inl d.0
done_fits now s (Event.SetSeqno task name n) (Reply.Code code) mid owed d = inl d.0
done_fits now s (Event.SetStatus task name) (Reply.Members members) mid owed d = tt
done_fits now s (Event.MoveMember task member after) (Reply.Code code) mid owed d = inl d.0
done_fits now s (Event.InsertMember task member set) (Reply.Code code) mid owed d = inl d.0
done_fits now s (Event.ExtractMember task member set) (Reply.Code code) mid owed d = inl d.0
done_fits now s (Event.InsertRight task name from poly number) (Reply.Code code) mid owed d = inl d.0
done_fits now s (Event.ExtractRight task name number to) (Reply.Right told kind) mid owed d = tt
done_fits now s (Event.RequestNotification task name variant sync notify number) (Reply.Previous previous) mid owed d = tt
done_fits now s (Event.Send task bytes) (Reply.Code code) mid owed d = inl d.0
done_fits now s (Event.Receive task name room large) reply mid owed d = receipt_fits s task d.0 room large reply mid owed d.2
done_fits now s (Event.ReceiveAgain task waited room large) reply mid owed d = receipt_fits s task waited room large reply mid owed d
done_fits now s event reply mid owed d = absurd d

-- ---- what is refused

no_zero : (n : ℕ) → (n == 0) ≡ false → n ≢ 0
no_zero n e h = cc

kern_of : (c : KernReturn) → (kern_number c == 0) ≡ false → IsKern (kern_number c)
kern_of c e = record { code = c; is = refl; fails = no_zero (kern_number c) e }

message_of : (c : MsgReturn) → (msg_number c == 0) ≡ false → IsCode (msg_number c)
message_of c e = record { code = code.Message c; is = refl; fails = no_zero (msg_number c) e }

no_task_there : IsCode (kern_number kern.InvalidTask)
no_task_there = record { code = code.Kern kern.InvalidTask; is = refl; fails = no_zero (kern_number kern.InvalidTask) refl }

-- each guard's code is so
abbrev Codes : (ℕ → Type 0) → Guards → Type 0
Codes P [] = Unit {0}
Codes P (g ∷ gs) = P g.1 × Codes P gs

first_code : (P : ℕ → Type 0) (gs : Guards) (number : ℕ) → Codes P gs → FirstIs gs number → P number
first_code P [] number all f = absurd f
first_code P (g ∷ gs) number all (inl f) = subst P (sym f.1) all.0
first_code P (g ∷ gs) number all (inr f) = first_code P gs number all.1 f.1

abbrev or_else : ℕ → Option ℕ → ℕ
or_else n None = n
or_else n (Some x) = x

no_memory : IsKern (kern_number kern.ResourceShortage)
no_memory = kern_of kern.ResourceShortage refl

shortage : (number : ℕ) → Some (kern_number kern.ResourceShortage) ≡ Some number → IsKern number
shortage number e = subst IsKern (ap (or_else 0) e) no_memory

never : {P : Type 0} → (number : ℕ) → None ≡ Some number → P
never number e = absurd (cc)

copy_code : (task : ℕ) (place : Place) (number name : ℕ) (s : State) (of : ℕ → Kind → State → Guards) (told : ℕ) → ((p : ℕ) (kind : Kind) (copied : State) → Codes IsKern (of p kind copied)) →
    CopyRefuses task place number name s of told → IsKern told
copy_code task place number name s of told all (p, copied, d, is, copy, inl f) = first_code IsKern (of p (kind_sent d) copied) told (all p (kind_sent d) copied) f
copy_code task place number name s of told all (p, copied, d, is, copy, inr f) = subst IsKern (sym f.1) no_memory

request_code : (s : State) (task name variant sync notify number told : ℕ) → RequestRefuses s task name variant sync notify number told → IsKern told
request_code s task name variant sync notify number told (copied, copy, inl f) =
    first_code IsKern (noted_guards s copied task name variant sync notify) told
    (kern_of kern.InvalidName refl, (kern_of kern.InvalidRight refl, (kern_of kern.InvalidArgument refl, (kern_of kern.UrefsOverflow refl, (kern_of kern.NoSpace refl, tt))))) f
request_code s task name variant sync notify number told (copied, copy, inr f) = subst IsKern (sym f.1) no_memory

item_code : (bytes : List ℕ) (number : ℕ) → ItemRefuses bytes number → IsCode number
item_code bytes number h = first_code IsCode (item_guards bytes h.name h.size h.number h.before) number (message_of msg.SendMsgTooSmall refl, (message_of msg.SendInvalidType refl, (message_of msg.SendMsgTooSmall refl, tt))) h.refused

whole_code : (s : State) (task : ℕ) (header : Header) (written : WireBody) (number : ℕ) → WholeRefuses s task header written number → IsCode number
whole_code s task header written number h = first_code IsCode (sent_guards h.m (place_at s h.m.destination) h.copied_state) number (message_of msg.SendInvalidRight refl, (message_of msg.SendTimedOut refl, (message_of msg.SendNoBuffer refl, tt))) h.refused

rights_code : (s : State) (task : ℕ) (header : Header) (written : WireBody) (number : ℕ) → RightsRefuse s task header written number → IsCode number
rights_code s task header written number (inl h) = subst IsCode (sym h.1) (message_of msg.SendInvalidDest refl)
rights_code s task header written number (inr (inl h)) = subst IsCode (sym h.1) (message_of msg.SendInvalidReply refl)
rights_code s task header written number (inr (inr (inl h))) = subst IsCode (sym h.1) (message_of msg.SendInvalidRight refl)
rights_code s task header written number (inr (inr (inr h))) = whole_code s task header written number h

send_code : (s : State) (task : ℕ) (bytes : List ℕ) (number : ℕ) → SendRefuses s task bytes number → IsCode number
send_code s task bytes number (inl h) = item_code _ number h.1.refused
send_code s task bytes number (inr (header, written, spells, inl e)) = subst IsCode (sym e) (message_of msg.SendNoBuffer refl)
send_code s task bytes number (inr (header, written, spells, inr h)) = rights_code s task header written number h

receipt_code : (s : State) (task : ℕ) (waited : Waited) (room number : ℕ) → ReceiptRefuses s task waited room number → IsCode number
receipt_code s task waited room number h = elim h.refused [
  | inl g ↦ subst IsCode (sym g.1) (message_of msg.ReceiveBodyErrorNames refl)
  | inr g ↦ subst IsCode (sym g.1) (message_of msg.ReceiveBodyErrorMemory refl)
]

-- Each call's codes: of its guards from the front, and of what refuses it later.

no_task : IsKern (kern_number kern.InvalidTask)
no_task = kern_of kern.InvalidTask refl

bad_value : IsKern (kern_number kern.InvalidValue)
bad_value = kern_of kern.InvalidValue refl

no_name : IsKern (kern_number kern.InvalidName)
no_name = kern_of kern.InvalidName refl

no_right : IsKern (kern_number kern.InvalidRight)
no_right = kern_of kern.InvalidRight refl

in_use : IsKern (kern_number kern.NameExists)
in_use = kern_of kern.NameExists refl

no_space : IsKern (kern_number kern.NoSpace)
no_space = kern_of kern.NoSpace refl

no_capability : IsKern (kern_number kern.InvalidCapability)
no_capability = kern_of kern.InvalidCapability refl

too_many : IsKern (kern_number kern.UrefsOverflow)
too_many = kern_of kern.UrefsOverflow refl

refused_fits : (s : State) (event : Event) (number : ℕ) → Refuses s event number → Fits event (Reply.Code number)
refused_fits s Event.TaskCreate number (inl f) = first_code IsKern (guards s Event.TaskCreate) number (no_task, (no_space, tt)) f
refused_fits s Event.TaskCreate number (inr later) = shortage number later.1
refused_fits s (Event.TaskTerminate task) number (inl f) = inr (first_code IsKern (guards s (Event.TaskTerminate task)) number (no_task, tt) f)
refused_fits s (Event.TaskTerminate task) number (inr later) = never number later.1
refused_fits s (Event.Allocate task right) number (inl f) = first_code IsKern (guards s (Event.Allocate task right)) number (no_task, (bad_value, (no_space, tt))) f
refused_fits s (Event.Allocate task right) number (inr later) = shortage number later.1
refused_fits s (Event.AllocateName task right name) number (inl f) = first_code IsKern (guards s (Event.AllocateName task right name)) number (no_task, (bad_value, (in_use, (no_space, tt)))) f
refused_fits s (Event.AllocateName task right name) number (inr later) = shortage number later.1
refused_fits s (Event.Deallocate task name) number (inl f) = inr (first_code IsKern (guards s (Event.Deallocate task name)) number (no_task, (no_name, (no_right, tt))) f)
refused_fits s (Event.Deallocate task name) number (inr later) = never number later.1
refused_fits s (Event.Destroy task name) number (inl f) = inr (first_code IsKern (guards s (Event.Destroy task name)) number (no_task, (no_name, tt)) f)
refused_fits s (Event.Destroy task name) number (inr later) = never number later.1
refused_fits s (Event.ModRefs task name right delta) number (inl f) = inr (first_code IsKern (guards s (Event.ModRefs task name right delta)) number (no_task, (bad_value, (no_name, (no_right, (bad_value, (too_many, (no_space, tt))))))) f)
refused_fits s (Event.ModRefs task name right delta) number (inr later) = never number later.1
refused_fits s (Event.GetRefs task name right) number (inl f) = first_code IsKern (guards s (Event.GetRefs task name right)) number (no_task, (bad_value, (no_name, tt))) f
refused_fits s (Event.GetRefs task name right) number (inr later) = never number later.1
refused_fits s (Event.NameType task name) number (inl f) = first_code IsKern (guards s (Event.NameType task name)) number (no_task, (no_name, tt)) f
refused_fits s (Event.NameType task name) number (inr later) = never number later.1
refused_fits s (Event.Names task) number (inl f) = first_code IsKern (guards s (Event.Names task)) number (no_task, tt) f
refused_fits s (Event.Names task) number (inr later) = shortage number later.1
refused_fits s (Event.Rename task old new) number (inl f) = inr (first_code IsKern (guards s (Event.Rename task old new)) number (no_task, (bad_value, (no_name, (in_use, tt)))) f)
refused_fits s (Event.Rename task old new) number (inr later) = inr (shortage number later.1)
refused_fits s (Event.ReceiveStatus task name) number (inl f) = first_code IsKern (guards s (Event.ReceiveStatus task name)) number (no_task, (no_name, (no_right, tt))) f
refused_fits s (Event.ReceiveStatus task name) number (inr later) = never number later.1
refused_fits s (Event.SetQlimit task name limit) number (inl f) = inr (first_code IsKern (guards s (Event.SetQlimit task name limit)) number (no_task, (bad_value, (no_name, (no_right, tt)))) f)
refused_fits s (Event.SetQlimit task name limit) number (inr later) = never number later.1
refused_fits s (Event.SetMscount task name count) number (inl f) = inr (first_code IsKern (guards s (Event.SetMscount task name count)) number (no_task, (no_name, (no_right, tt))) f)
refused_fits s (Event.SetMscount task name count) number (inr later) = never number later.1
refused_fits s (Event.SetSeqno task name sequence) number (inl f) = inr (first_code IsKern (guards s (Event.SetSeqno task name sequence)) number (no_task, (no_name, (no_right, tt))) f)
refused_fits s (Event.SetSeqno task name sequence) number (inr later) = never number later.1
refused_fits s (Event.SetStatus task name) number (inl f) = first_code IsKern (guards s (Event.SetStatus task name)) number (no_task, (no_name, (no_right, tt))) f
refused_fits s (Event.SetStatus task name) number (inr later) = shortage number later.1
refused_fits s (Event.MoveMember task member after) number (inl f) = inr (first_code IsKern (guards s (Event.MoveMember task member after)) number (no_task, (no_name, (no_right, (kern_of kern.NotInSet refl, tt)))) f)
refused_fits s (Event.MoveMember task member after) number (inr later) = never number later.1
refused_fits s (Event.InsertMember task member set) number (inl f) = inr (first_code IsKern (guards s (Event.InsertMember task member set)) number (no_task, (kern_of kern.InvalidArgument refl, (no_name, (no_right, (kern_of kern.AlreadyInSet refl, tt))))) f)
refused_fits s (Event.InsertMember task member set) number (inr later) = inr (shortage number later.1)
refused_fits s (Event.ExtractMember task member set) number (inl f) = inr (first_code IsKern (guards s (Event.ExtractMember task member set)) number (no_task, (kern_of kern.InvalidArgument refl, (no_name, (no_right, (kern_of kern.NotInSet refl, tt))))) f)
refused_fits s (Event.ExtractMember task member set) number (inr later) = never number later.1
refused_fits s (Event.InsertRight task name from poly d) number (inl f) = inr (first_code IsKern (guards s (Event.InsertRight task name from poly d)) number (no_task, (bad_value, (no_capability, (no_name, (no_right, tt))))) f)
refused_fits s (Event.InsertRight task name from poly d) number (inr later) = inr (copy_code from (in_task task) d poly s (λ p kind copied. inserted_guards copied task name p kind) number (λ p kind copied. (kern_of kern.RightExists refl, (in_use, (too_many, (no_space, tt))))) later.1)
refused_fits s (Event.ExtractRight task name d to) number (inl f) = first_code IsKern (guards s (Event.ExtractRight task name d to)) number (no_task, (bad_value, (no_name, (no_right, tt)))) f
refused_fits s (Event.ExtractRight task name d to) number (inr later) = copy_code task (in_task to) d name s (λ p kind copied. extracted_guards copied to p kind) number (λ p kind copied. (no_space, tt)) later.1
refused_fits s (Event.RequestNotification task name variant sync notify d) number (inl f) = first_code IsKern (guards s (Event.RequestNotification task name variant sync notify d)) number (no_task, (bad_value, (no_capability, tt))) f
refused_fits s (Event.RequestNotification task name variant sync notify d) number (inr later) = request_code s task name variant sync notify d number later.1
refused_fits s (Event.Send task bytes) number (inl f) = inr (first_code IsCode (guards s (Event.Send task bytes)) number (no_task_there, (message_of msg.SendMsgTooSmall refl, (message_of msg.SendInvalidData refl, (message_of msg.SendInvalidHeader refl, tt)))) f)
refused_fits s (Event.Send task bytes) number (inr later) = inr (send_code s task bytes number later.1)
refused_fits s (Event.Receive task name room large) number (inl f) = first_code IsCode (guards s (Event.Receive task name room large)) number (no_task_there, (message_of msg.ReceiveInvalidName refl, (message_of msg.ReceiveInSet refl, tt))) f
refused_fits s (Event.Receive task name room large) number (inr later) = receipt_code s task later.1.0 room number later.1.2
refused_fits s (Event.ReceiveAgain task (Waited.Port p) room large) number (inl f) = first_code IsCode (guards s (Event.ReceiveAgain task (Waited.Port p) room large)) number (no_task_there, (message_of msg.ReceivePortDied refl, (message_of msg.ReceivePortChanged refl, tt))) f
refused_fits s (Event.ReceiveAgain task (Waited.Port p) room large) number (inr later) = receipt_code s task (Waited.Port p) room number later.1
refused_fits s (Event.ReceiveAgain task (Waited.Set set) room large) number (inl f) = first_code IsCode (guards s (Event.ReceiveAgain task (Waited.Set set) room large)) number (no_task_there, (message_of msg.ReceivePortDied refl, (message_of msg.ReceivePortChanged refl, tt))) f
refused_fits s (Event.ReceiveAgain task (Waited.Set set) room large) number (inr later) = receipt_code s task (Waited.Set set) room number later.1

-- ---- a step

step_fits : (now : ℕ) (s : State) (event : Event) (reply : Reply) (new : State) → Step now s event reply new → Fits event reply
step_fits now s event reply new (inl h) = subst (Fits event) (sym h.told) (refused_fits s event h.code h.refuses)
step_fits now s event reply new (inr h) = done_fits now s event reply h.mid h.owed h.does

-- What a step promises suffices, from tables that show a state.
pub answer_fits : (old : WorldView) (event : Event) (reply : Reply) (new : WorldView) → Stands old → Answers old event reply new → Fits event reply
answer_fits old event reply new stands answers = let a = answers 0 stands.state stands.shown in step_fits 0 stands.state event reply a.0 a.1

-- and the tables after it show one
pub answer_stands : (old : WorldView) (event : Event) (reply : Reply) (new : WorldView) → Stands old → Answers old event reply new → Stands new
answer_stands old event reply new stands answers = let a = answers 0 stands.state stands.shown in record { state = a.0; shown = a.2 }

pub opening_stands : (profile : Profile) (w : WorldView) → Shows w (opening_in profile) → Stands w
opening_stands profile w shown = record { state = opening_in profile; shown = shown }
