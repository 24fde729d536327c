-- What holds of each call of a keyword holds of an event that has it, and so of replies.
use Rattle.std.proofs.Common.{codes, ◌≡◌, ℕ, ℤ, Bool, List, ap, true, false}
use Rattle.std.specs.Str.{bytes_eq}
use Rattle.mach_types.specs.declared.calls.Event.{Event}
use Rattle.mach_types.specs.declared.calls.Event.TheVariants.{TaskTerminate, Names as NamesCall, Send, Receive, InsertRight, ExtractRight, ReceiveAgain, ModRefs, RequestNotification}
use Rattle.mach_types.specs.declared.calls.Waited.{Waited}
use Rattle.mach_types.specs.declared.calls.Reply.{Reply}
use Rattle.mach_types.specs.declared.calls.Reply.TheVariants.{Names, Status, Members, Right, Empty}
use Rattle.mach_types.specs.declared.calls.Status.{Status as PortStatus}
use Rattle.tracer_base.specs.Calls.{call_word}
use Rattle.tracer_base.specs.Replies.{reply_word}

pub of_end : (P : Event → Type 0) (event : Event) → call_word event ≡ codes "end" → ((task : ℕ) → P (TaskTerminate task)) → P event
of_end P (TaskTerminate task) word each = each task
of_end P event word each = absurd (let f : false ≡ true = ap (λ w. bytes_eq w (codes "end")) word in cc)

pub of_names_call : (P : Event → Type 0) (event : Event) → call_word event ≡ codes "names" → ((task : ℕ) → P (NamesCall task)) → P event
of_names_call P (NamesCall task) word each = each task
of_names_call P event word each = absurd (let f : false ≡ true = ap (λ w. bytes_eq w (codes "names")) word in cc)

pub of_send : (P : Event → Type 0) (event : Event) → call_word event ≡ codes "send" → ((task : ℕ) (bytes : List ℕ) → P (Send task bytes)) → P event
of_send P (Send task bytes) word each = each task bytes
of_send P event word each = absurd (let f : false ≡ true = ap (λ w. bytes_eq w (codes "send")) word in cc)

pub of_recv : (P : Event → Type 0) (event : Event) → call_word event ≡ codes "recv" → ((task name room : ℕ) (large : Bool) → P (Receive task name room large)) → P event
of_recv P (Receive task name room large) word each = each task name room large
of_recv P event word each = absurd (let f : false ≡ true = ap (λ w. bytes_eq w (codes "recv")) word in cc)

pub of_insert : (P : Event → Type 0) (event : Event) → call_word event ≡ codes "insert" → ((task name from poly disposition : ℕ) → P (InsertRight task name from poly disposition)) → P event
of_insert P (InsertRight task name from poly disposition) word each = each task name from poly disposition
of_insert P event word each = absurd (let f : false ≡ true = ap (λ w. bytes_eq w (codes "insert")) word in cc)

pub of_extract : (P : Event → Type 0) (event : Event) → call_word event ≡ codes "extract" → ((task name disposition to : ℕ) → P (ExtractRight task name disposition to)) → P event
of_extract P (ExtractRight task name disposition to) word each = each task name disposition to
of_extract P event word each = absurd (let f : false ≡ true = ap (λ w. bytes_eq w (codes "extract")) word in cc)

pub of_again : (P : Event → Type 0) (event : Event) → call_word event ≡ codes "again" → ((task : ℕ) (waited : Waited) (room : ℕ) (large : Bool) → P (ReceiveAgain task waited room large)) → P event
of_again P (ReceiveAgain task waited room large) word each = each task waited room large
of_again P event word each = absurd (let f : false ≡ true = ap (λ w. bytes_eq w (codes "again")) word in cc)

pub of_modrefs : (P : Event → Type 0) (event : Event) → call_word event ≡ codes "modrefs" → ((task name right : ℕ) (delta : ℤ) → P (ModRefs task name right delta)) → P event
of_modrefs P (ModRefs task name right delta) word each = each task name right delta
of_modrefs P event word each = absurd (let f : false ≡ true = ap (λ w. bytes_eq w (codes "modrefs")) word in cc)

pub of_notify : (P : Event → Type 0) (event : Event) → call_word event ≡ codes "notify" → ((task name variant sync notify disposition : ℕ) → P (RequestNotification task name variant sync notify disposition)) → P event
of_notify P (RequestNotification task name variant sync notify disposition) word each = each task name variant sync notify disposition
of_notify P event word each = absurd (let f : false ≡ true = ap (λ w. bytes_eq w (codes "notify")) word in cc)

pub of_names : (P : Reply → Type 0) (reply : Reply) → reply_word reply ≡ codes "names" → ((names : List (ℕ × ℕ)) → P (Names names)) → P reply
of_names P (Names names) word each = each names
of_names P reply word each = absurd (let f : false ≡ true = ap (λ w. bytes_eq w (codes "names")) word in cc)

pub of_status : (P : Reply → Type 0) (reply : Reply) → reply_word reply ≡ codes "status" → ((status : PortStatus) → P (Status status)) → P reply
of_status P (Status status) word each = each status
of_status P reply word each = absurd (let f : false ≡ true = ap (λ w. bytes_eq w (codes "status")) word in cc)

pub of_members : (P : Reply → Type 0) (reply : Reply) → reply_word reply ≡ codes "members" → ((members : List ℕ) → P (Members members)) → P reply
of_members P (Members members) word each = each members
of_members P reply word each = absurd (let f : false ≡ true = ap (λ w. bytes_eq w (codes "members")) word in cc)

pub of_right : (P : Reply → Type 0) (reply : Reply) → reply_word reply ≡ codes "right" → ((name kind : ℕ) → P (Right name kind)) → P reply
of_right P (Right name kind) word each = each name kind
of_right P reply word each = absurd (let f : false ≡ true = ap (λ w. bytes_eq w (codes "right")) word in cc)

pub of_empty : (P : Reply → Type 0) (reply : Reply) → reply_word reply ≡ codes "empty" → ((waited : Waited) → P (Empty waited)) → P reply
of_empty P (Empty waited) word each = each waited
of_empty P reply word each = absurd (let f : false ≡ true = ap (λ w. bytes_eq w (codes "empty")) word in cc)
