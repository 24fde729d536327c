-- What a receipt frees: the slot of the message that it takes, but for those in which the notices of lost rights lie.
use Rattle.std.proofs.Common.{◌≡◌, ℕ, ◌+◌, ◌-◌, ◌≤◌, Bool, true, false, List, [], ◌∷◌, ◌++◌, Option, Some, refl, sym, ap, subst, ◌∙◌, arith}
use Rattle.std.specs.Prelude.{is_some, if◌then◌else◌, MatchBool, filter}
use Rattle.std.specs.Option.{option_to_list}
use Rattle.std.specs.FinMap as map
use Rattle.mach_types.specs.Numbers.{kind_sent}
use Rattle.mach_types.specs.Tokens.{Kind, receive, send, send_once, same_kind, Token, count, is_of}
use Rattle.mach_types.specs.Messages.{Entry}
use Rattle.mach_model.specs.State.{State}
use Rattle.mach_model.specs.Notices.{Owed}
use Rattle.mach_model.specs.Receive.{IsFront}
use Rattle.rights.specs.declared.RightKind.TheVariants as right
use Rattle.rights.specs.Ledger.{LedgerView, counts_of, taken}
use Rattle.name_space.specs.Names.{SpaceView}
use Rattle.copyin_base.specs.declared.Carried.{Carried}
use Rattle.copyin_base.specs.declared.Mark.{Mark}
use Rattle.copyin_base.specs.declared.Mark.TheVariants as mark
use Rattle.copyin_base.specs.Changes.{MakesRoom}
use Rattle.copyin_base.specs.Kept.{Kept}
use Rattle.copyin_base.specs.Posted.{with_posted}
use Rattle.copyin_base.specs.Shows.{Shows, SlotsSuffice}
use Rattle.copyin_base.specs.Wanted.{room_of, room_in}
use Rattle.copyin_base.specs.Worlds.{WorldView, space_in}
use Rattle.copyin_base.proofs.Roomier.{room_made}
use Rattle.copyout.specs.Giving.{GivesAll}
use Rattle.copyout.specs.Takes.{TakesFront, TakesMessage, NotesFront}
use Rattle.copyout.proofs.Fronts.{by_note}
use Rattle.copyout.proofs.Delivered.{mark_unused, front_slots}
use Rattle.notifications.specs.Destroying.{LosesRight, LosesMark, LosesAll, DestroysMessage}
use Rattle.notifications.proofs.MessageDestroyed.{MessageDestroyed}
use Rattle.kernel_core_base.proofs.Refused.{posted_sends}

-- ---- a message that is received

all_unused : (cs : List Carried) (words : List ℕ) (w new : WorldView) (task : ℕ) → GivesAll w task cs words new → new.ledger.unused ≡ w.ledger.unused
all_unused [] [] w new task g = ap (λ (x : WorldView). x.ledger.unused) g
all_unused (c ∷ cs) (word ∷ words) w new task g = all_unused cs words g.0 new task g.2 ∙ mark_unused w g.0 task (kind_sent c.given) c.mark word g.1
all_unused [] (word ∷ words) w new task g = absurd g
all_unused (c ∷ cs) [] w new task g = absurd g

front_unused : (w : WorldView) (port : ℕ) (new : WorldView) → TakesFront w port new → new.ledger.unused ≡ w.ledger.unused
front_unused w port new f = ap (λ (x : WorldView). x.ledger.unused) f.rest ∙ by_right f.front.by_once
  where
    by_right : (b : Bool) → (taken w.ledger port (if b then right.Destination else right.Send) 1).unused ≡ w.ledger.unused
    by_right true = omega arith
    by_right false = omega arith

note_unused : (taken new : WorldView) (port : ℕ) (front : Kept) → NotesFront taken port front new → new.ledger.unused ≡ taken.ledger.unused
note_unused taken new port front n = by_note (λ (x : WorldView). x.ledger.unused ≡ taken.ledger.unused) front.by_once taken new port (λ h. ap (λ (x : WorldView). x.ledger.unused) h.rest) refl n

pub message_unused : (w start taken new : WorldView) (task port number local : ℕ) (bytes : List ℕ) → MakesRoom w task number start → (t : TakesMessage start task port local bytes taken) →
    NotesFront taken port t.takes.front new → new.ledger.unused ≡ w.ledger.unused
message_unused w start taken new task port number local bytes made t notes =
    note_unused taken new port t.takes.front notes ∙ all_unused (option_to_list t.takes.front.reply ++ t.takes.front.rights) t.words t.mid taken task t.gives
    ∙ front_unused start port t.mid t.takes ∙ ap (λ (l : LedgerView). l.unused) (room_made w start task number made).ledger

-- ---- a message that is destroyed

-- Names stay, and a spare slot goes with each send-once right that was unused and is no more.
record Frees (old new : WorldView) : Type 0 where
  spaces : new.spaces ≡ old.spaces
  enough : SlotsSuffice new
  fewer : new.ports.spare ≤ old.ports.spare
  slots : new.ports.spare + old.ledger.unused ≤ old.ports.spare + new.ledger.unused

frees_same : (old new : WorldView) → SlotsSuffice old → new ≡ old → Frees old new
frees_same old new enough e = record {
  spaces = ap (λ (x : WorldView). x.spaces) e;
  enough = subst SlotsSuffice (sym e) enough;
  fewer = let s : new.ports.spare ≡ old.ports.spare = ap (λ (x : WorldView). x.ports.spare) e in omega (arith, s);
  slots = let s : new.ports.spare ≡ old.ports.spare = ap (λ (x : WorldView). x.ports.spare) e in let u : new.ledger.unused ≡ old.ledger.unused = ap (λ (x : WorldView). x.ledger.unused) e in omega (arith, s, u);
}

frees_then : (a b c : WorldView) → Frees a b → Frees b c → Frees a c
frees_then a b c x y = record { spaces = y.spaces ∙ x.spaces; enough = y.enough; fewer = let g = x.fewer in let h = y.fewer in omega (arith, g, h); slots = let g = x.slots in let h = y.slots in omega (arith, g, h) }

right_frees : (old new : WorldView) (kind : Kind) (port : ℕ) → SlotsSuffice old → LosesRight old kind port new → Frees old new
right_frees old new receive port enough l =
    let s : new.ports.spare ≡ old.ports.spare = ap (λ (x : WorldView). x.ports.spare) l.rest in
    let u : new.ledger.unused ≡ old.ledger.unused - 0 = ap (λ (x : WorldView). x.ledger.unused) l.rest in
    record { spaces = ap (λ (x : WorldView). x.spaces) l.rest; enough = omega (arith, enough, s, u); fewer = omega (arith, s); slots = omega (arith, s, u) }
right_frees old new send port enough l =
    let s : new.ports.spare ≡ old.ports.spare = ap (λ (x : WorldView). x.ports.spare) l.rest in
    let u : new.ledger.unused ≡ old.ledger.unused - 0 = ap (λ (x : WorldView). x.ledger.unused) l.rest in
    record { spaces = ap (λ (x : WorldView). x.spaces) l.rest; enough = omega (arith, enough, s, u); fewer = omega (arith, s); slots = omega (arith, s, u) }
right_frees old new send_once port enough l =
    let s : new.ports.spare ≡ old.ports.spare - 1 = ap (λ (x : WorldView). x.ports.spare) l.rest in
    let u : new.ledger.unused ≡ old.ledger.unused - 1 = ap (λ (x : WorldView). x.ledger.unused) l.rest in
    record { spaces = ap (λ (x : WorldView). x.spaces) l.rest; enough = omega (arith, enough, s, u); fewer = omega (arith, s); slots = omega (arith, enough, s, u) }

mark_frees : (old new : WorldView) (kind : Kind) (one : Mark) → SlotsSuffice old → LosesMark old kind one new → Frees old new
mark_frees old new kind (mark.Port p) enough l = go (is_some (map.get old.ports.ports p)) l
  where
    go : (b : Bool) → MatchBool b (LosesRight old kind p new) (new ≡ old) → Frees old new
    go true h = right_frees old new kind p enough h
    go false h = frees_same old new enough h
mark_frees old new kind mark.Null enough l = frees_same old new enough l
mark_frees old new kind mark.Dead enough l = frees_same old new enough l

all_free : (cs : List Carried) (old new : WorldView) → SlotsSuffice old → LosesAll old cs new → Frees old new
all_free [] old new enough l = frees_same old new enough l
all_free (c ∷ cs) old new enough l =
    let one = mark_frees old l.0 (kind_sent c.given) c.mark enough l.1 in
    frees_then old l.0 new one (all_free cs l.0 new one.enough l.2)

-- Room for names stays, and the message's slot is spare but for notices.
pub record FreesFront (old new : WorldView) : Type 0 where
  pub rooms : (task : ℕ) → room_of new task ≡ room_of old task
  pub slots : new.ports.spare ≤ old.ports.spare + 1
  pub uses : new.ports.spare + old.ledger.unused ≤ old.ports.spare + new.ledger.unused + 1

pub destroyed_frees : (old new : WorldView) (port : ℕ) → SlotsSuffice old → DestroysMessage old port new → FreesFront old new
destroyed_frees old new port enough d =
    let front = front_slots old port d.taken d.takes enough in
    let noted : Frees d.taken d.noted = by_note (Frees d.taken) d.takes.front.by_once d.taken d.noted port (λ n.
    let u : d.noted.ledger.unused ≡ d.taken.ledger.unused = ap (λ (x : WorldView). x.ledger.unused) n.rest in
    let s : d.noted.ports.spare ≡ d.taken.ports.spare = ap (λ (x : WorldView). x.ports.spare) n.rest in
    record { spaces = ap (λ (x : WorldView). x.spaces) n.rest; enough = omega (arith, front, u, s); fewer = omega (arith, s); slots = omega (arith, u, s) }) (frees_same d.taken d.taken front refl) d.notes in
    let rights = all_free (option_to_list d.takes.front.reply ++ d.takes.front.rights) d.noted new noted.enough d.loses in
    let all = frees_then d.taken d.noted new noted rights in
    let spare : d.taken.ports.spare ≡ old.ports.spare + 1 = ap (λ (x : WorldView). x.ports.spare) d.takes.rest in
    let unused = front_unused old port d.taken d.takes in
    let spaces : new.spaces ≡ old.spaces = all.spaces ∙ ap (λ (x : WorldView). x.spaces) d.takes.rest in
    record {
      rooms = λ task. ap (λ (xs : List (Option SpaceView)). room_in (space_in xs task)) spaces;
      slots = let s = all.fewer in omega (arith, s, spare);
      uses = let s = all.slots in omega (arith, s, spare, unused);
    }

-- ---- a destroyed message leaves no more send rights

pub destroyed_sends : (now : ℕ) (w : WorldView) (s : State) → Shows w s → (port : ℕ) (new : WorldView) → MessageDestroyed now w s port new →
    (q : ℕ) → (counts_of new.ledger q).send ≤ (counts_of w.ledger q).send
destroyed_sends now w s sh port new x q =
    let d = x.destroys in
    let owed : count (is_of send q) (with_posted now x.mid x.owed).ledger ≡ count (is_of send q) x.mid.ledger =
    subst (λ (o : Owed). count (is_of send q) (with_posted now x.mid o).ledger ≡ count (is_of send q) x.mid.ledger) (sym d.owed_are) (posted_sends now x.mid (filter (λ (y : Token). same_kind send_once y.kind) d.loses.gone) q) in
    let after = (x.agrees.counts q).senders in
    let before = (sh.agrees.counts q).senders in
    let lost = d.loses.moves (λ y. if is_of send q y then 1 else 0) in
    let front = d.takes.tokens (λ y. if is_of send q y then 1 else 0) in
    omega (arith, owed, after, before, lost, front)

-- ---- the message that is destroyed is the one that was looked at

pub front_same : (s : State) (port : ℕ) (a b : Entry) → IsFront s port a → IsFront s port b → a ≡ b
front_same s port a b is other = one a b (sym is ∙ other)
  where
    one : (x y : Entry) → Some x ≡ Some y → x ≡ y
    one x y e = cc
