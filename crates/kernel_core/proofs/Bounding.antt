-- No reply is longer than the event and the tables let it be.
use Rattle.std.proofs.Common.{◌≡◌, ℕ, ◌≤◌, List, length, inl, inr, arith}
use Rattle.mach_types.specs.declared.calls.Event.{Event}
use Rattle.mach_types.specs.declared.calls.Reply.{Reply}
use Rattle.mach_types.specs.Guards.{NoneHolds}
use Rattle.mach_model.specs.State.{State}
use Rattle.mach_model.specs.Notices.{Owed}
use Rattle.mach_model.specs.Refusals.{guards}
use Rattle.mach_model.specs.Machine.{Step, Judged}
use Rattle.mach_model.specs.Acts.{Does}
use Rattle.copyin_base.specs.Shows.{Shows}
use Rattle.copyin_base.specs.Worlds.{WorldView}
use Rattle.kernel_core.specs.Bounds.{reply_bytes, reply_names, reply_members, most_told, as_bytes, as_names, as_members, IsWithin}
use Rattle.kernel_core.proofs.Listed.{names_few, members_few}

-- ---- each reply that has any

bytes_few : (w : WorldView) (now : ℕ) (s : State) (event : Event) (bytes : List ℕ) (mid : State) (owed : Owed) → Does now s event (Reply.Message bytes) mid owed → length bytes ≤ as_bytes event (most_told w event)
bytes_few w now s Event.TaskCreate bytes mid owed d = absurd d
bytes_few w now s (Event.TaskTerminate a) bytes mid owed d = absurd d
bytes_few w now s (Event.Allocate a b) bytes mid owed d = absurd d
bytes_few w now s (Event.AllocateName a b x) bytes mid owed d = absurd d
bytes_few w now s (Event.Deallocate a b) bytes mid owed d = absurd d
bytes_few w now s (Event.Destroy a b) bytes mid owed d = absurd d
bytes_few w now s (Event.ModRefs a b x y) bytes mid owed d = absurd d
bytes_few w now s (Event.GetRefs a b x) bytes mid owed d = absurd d
bytes_few w now s (Event.NameType a b) bytes mid owed d = absurd d
bytes_few w now s (Event.Names a) bytes mid owed d = absurd d
bytes_few w now s (Event.Rename a b x) bytes mid owed d = absurd d
bytes_few w now s (Event.ReceiveStatus a b) bytes mid owed d = absurd d
bytes_few w now s (Event.SetQlimit a b x) bytes mid owed d = absurd d
bytes_few w now s (Event.SetMscount a b x) bytes mid owed d = absurd d
bytes_few w now s (Event.SetSeqno a b x) bytes mid owed d = absurd d
bytes_few w now s (Event.SetStatus a b) bytes mid owed d = absurd d
bytes_few w now s (Event.MoveMember a b x) bytes mid owed d = absurd d
bytes_few w now s (Event.InsertMember a b x) bytes mid owed d = absurd d
bytes_few w now s (Event.ExtractMember a b x) bytes mid owed d = absurd d
bytes_few w now s (Event.InsertRight a b x y z) bytes mid owed d = absurd d
bytes_few w now s (Event.ExtractRight a b x y) bytes mid owed d = absurd d
bytes_few w now s (Event.RequestNotification a b x y z v) bytes mid owed d = absurd d
bytes_few w now s (Event.Send a b) bytes mid owed d = absurd d
bytes_few w now s (Event.Receive a b x y) bytes mid owed d = d.2.2.fits
bytes_few w now s (Event.ReceiveAgain a b x y) bytes mid owed d = d.2.fits

names_within : (w : WorldView) (now : ℕ) (s : State) (event : Event) (names : List (ℕ × ℕ)) (mid : State) (owed : Owed) → Shows w s → NoneHolds (guards s event) →
    (does : Does now s event (Reply.Names names) mid owed) → Judged now s event (Reply.Names names) mid owed does → length names ≤ as_names event (most_told w event)
names_within w now s Event.TaskCreate names mid owed sh none d j = absurd d
names_within w now s (Event.TaskTerminate a) names mid owed sh none d j = absurd d
names_within w now s (Event.Allocate a b) names mid owed sh none d j = absurd d
names_within w now s (Event.AllocateName a b x) names mid owed sh none d j = absurd d
names_within w now s (Event.Deallocate a b) names mid owed sh none d j = absurd d
names_within w now s (Event.Destroy a b) names mid owed sh none d j = absurd d
names_within w now s (Event.ModRefs a b x y) names mid owed sh none d j = absurd d
names_within w now s (Event.GetRefs a b x) names mid owed sh none d j = absurd d
names_within w now s (Event.NameType a b) names mid owed sh none d j = absurd d
names_within w now s (Event.Names a) names mid owed sh none d j = names_few w s a names sh none.0 j
names_within w now s (Event.Rename a b x) names mid owed sh none d j = absurd d
names_within w now s (Event.ReceiveStatus a b) names mid owed sh none d j = absurd d
names_within w now s (Event.SetQlimit a b x) names mid owed sh none d j = absurd d
names_within w now s (Event.SetMscount a b x) names mid owed sh none d j = absurd d
names_within w now s (Event.SetSeqno a b x) names mid owed sh none d j = absurd d
names_within w now s (Event.SetStatus a b) names mid owed sh none d j = absurd d
names_within w now s (Event.MoveMember a b x) names mid owed sh none d j = absurd d
names_within w now s (Event.InsertMember a b x) names mid owed sh none d j = absurd d
names_within w now s (Event.ExtractMember a b x) names mid owed sh none d j = absurd d
names_within w now s (Event.InsertRight a b x y z) names mid owed sh none d j = absurd d
names_within w now s (Event.ExtractRight a b x y) names mid owed sh none d j = absurd d
names_within w now s (Event.RequestNotification a b x y z v) names mid owed sh none d j = absurd d
names_within w now s (Event.Send a b) names mid owed sh none d j = absurd d
names_within w now s (Event.Receive a b x y) names mid owed sh none d j = absurd d.2
names_within w now s (Event.ReceiveAgain a b x y) names mid owed sh none d j = absurd d

members_within : (w : WorldView) (now : ℕ) (s : State) (event : Event) (members : List ℕ) (mid : State) (owed : Owed) → Shows w s → NoneHolds (guards s event) →
    (does : Does now s event (Reply.Members members) mid owed) → Judged now s event (Reply.Members members) mid owed does → length members ≤ as_members event (most_told w event)
members_within w now s Event.TaskCreate members mid owed sh none d j = absurd d
members_within w now s (Event.TaskTerminate a) members mid owed sh none d j = absurd d
members_within w now s (Event.Allocate a b) members mid owed sh none d j = absurd d
members_within w now s (Event.AllocateName a b x) members mid owed sh none d j = absurd d
members_within w now s (Event.Deallocate a b) members mid owed sh none d j = absurd d
members_within w now s (Event.Destroy a b) members mid owed sh none d j = absurd d
members_within w now s (Event.ModRefs a b x y) members mid owed sh none d j = absurd d
members_within w now s (Event.GetRefs a b x) members mid owed sh none d j = absurd d
members_within w now s (Event.NameType a b) members mid owed sh none d j = absurd d
members_within w now s (Event.Names a) members mid owed sh none d j = absurd d
members_within w now s (Event.Rename a b x) members mid owed sh none d j = absurd d
members_within w now s (Event.ReceiveStatus a b) members mid owed sh none d j = absurd d
members_within w now s (Event.SetQlimit a b x) members mid owed sh none d j = absurd d
members_within w now s (Event.SetMscount a b x) members mid owed sh none d j = absurd d
members_within w now s (Event.SetSeqno a b x) members mid owed sh none d j = absurd d
members_within w now s (Event.SetStatus a b) members mid owed sh none d j = members_few w s a b members sh none.0 j
members_within w now s (Event.MoveMember a b x) members mid owed sh none d j = absurd d
members_within w now s (Event.InsertMember a b x) members mid owed sh none d j = absurd d
members_within w now s (Event.ExtractMember a b x) members mid owed sh none d j = absurd d
members_within w now s (Event.InsertRight a b x y z) members mid owed sh none d j = absurd d
members_within w now s (Event.ExtractRight a b x y) members mid owed sh none d j = absurd d
members_within w now s (Event.RequestNotification a b x y z v) members mid owed sh none d j = absurd d
members_within w now s (Event.Send a b) members mid owed sh none d j = absurd d
members_within w now s (Event.Receive a b x y) members mid owed sh none d j = absurd d.2
members_within w now s (Event.ReceiveAgain a b x y) members mid owed sh none d j = absurd d

-- ---- every reply

-- a refusal answers a code
message_told : (bytes : List ℕ) (code : ℕ) → Reply.Message bytes ≡ Reply.Code code → ⊥
message_told bytes code e = cc

names_told : (names : List (ℕ × ℕ)) (code : ℕ) → Reply.Names names ≡ Reply.Code code → ⊥
names_told names code e = cc

members_told : (members : List ℕ) (code : ℕ) → Reply.Members members ≡ Reply.Code code → ⊥
members_told members code e = cc

short : (event : Event) (most : ℕ) (reply : Reply) → reply_bytes reply ≤ as_bytes event most → reply_names reply ≤ as_names event most → reply_members reply ≤ as_members event most → IsWithin event most reply
short event most reply b n m = record { bytes = b; names = n; members = m }

least : (n : ℕ) → 0 ≤ n
least n = omega arith

pub bounded : (w : WorldView) (now : ℕ) (s : State) (event : Event) (reply : Reply) (t : State) → Shows w s → Step now s event reply t → IsWithin event (most_told w event) reply
bounded w now s event (Reply.Message bytes) t sh (inl r) = absurd (message_told bytes r.code r.told)
bounded w now s event (Reply.Message bytes) t sh (inr d) = short event _ (Reply.Message bytes) (bytes_few w now s event bytes d.mid d.owed d.does) (least _) (least _)
bounded w now s event (Reply.Names names) t sh (inl r) = absurd (names_told names r.code r.told)
bounded w now s event (Reply.Names names) t sh (inr d) = short event _ (Reply.Names names) (least _) (names_within w now s event names d.mid d.owed sh d.unrefused d.does d.judged) (least _)
bounded w now s event (Reply.Members members) t sh (inl r) = absurd (members_told members r.code r.told)
bounded w now s event (Reply.Members members) t sh (inr d) = short event _ (Reply.Members members) (least _) (least _) (members_within w now s event members d.mid d.owed sh d.unrefused d.does d.judged)
bounded w now s event (Reply.Code a) t sh step = short event _ (Reply.Code a) (least _) (least _) (least _)
bounded w now s event (Reply.Task a) t sh step = short event _ (Reply.Task a) (least _) (least _) (least _)
bounded w now s event (Reply.Name a) t sh step = short event _ (Reply.Name a) (least _) (least _) (least _)
bounded w now s event (Reply.Refs a) t sh step = short event _ (Reply.Refs a) (least _) (least _) (least _)
bounded w now s event (Reply.NameType a) t sh step = short event _ (Reply.NameType a) (least _) (least _) (least _)
bounded w now s event (Reply.Status a) t sh step = short event _ (Reply.Status a) (least _) (least _) (least _)
bounded w now s event (Reply.Right a b) t sh step = short event _ (Reply.Right a b) (least _) (least _) (least _)
bounded w now s event (Reply.Previous a) t sh step = short event _ (Reply.Previous a) (least _) (least _) (least _)
bounded w now s event (Reply.Empty a) t sh step = short event _ (Reply.Empty a) (least _) (least _) (least _)
bounded w now s event (Reply.TooLarge a) t sh step = short event _ (Reply.TooLarge a) (least _) (least _) (least _)
bounded w now s event Reply.NoRecord t sh step = short event _ Reply.NoRecord (least _) (least _) (least _)
