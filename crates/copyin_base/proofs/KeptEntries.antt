-- A message that is kept at a port is an entry of its log, and the rights that it carries lie there.
use Rattle.std.proofs.Common.{◌≡◌, ℕ, zero, suc, ◌+◌, ◌<◌, List, [], ◌∷◌, ◌++◌, Option, Some, None, refl, sym, ap, subst, ◌∙◌, arith, true, inl, inr, length, take, drop}
use Rattle.std.specs.Prelude.{Contains, slice_get, replicate, map, if◌then◌else◌}
use Rattle.std.specs.Option.{option_to_list}
use Rattle.std.proofs.lemmas.Bool.{eq-eqb}
use Rattle.std.proofs.lemmas.Bool.Decides.{eqb_tells}
use Rattle.mach_types.specs.declared.rights.Disposition.{Disposition}
use Rattle.mach_types.specs.declared.rights.Disposition.TheVariants.{MoveReceive, MoveSend, MoveSendOnce, CopySend, MakeSend, MakeSendOnce}
use Rattle.mach_types.specs.Numbers.{kind_sent}
use Rattle.mach_types.specs.Rights.{disposition_number}
use Rattle.mach_types.specs.Tokens.{Kind, receive, send, send_once, in_message}
use Rattle.mach_types.specs.Messages.{Entry, to_port, Message}
use Rattle.mach_types.specs.Messages.{Mark as MachineMark}
use Rattle.mach_types.specs.Grammar.{Wire, data_item, port_item, WireBody}
use Rattle.mach_types.specs.Bodies.{body_rights, reply_rights, message_rights}
use Rattle.mach_model.specs.State.{State, queue}
use Rattle.mach_model.specs.Carried.{lying, mark_count, rights_count, message_count}
use Rattle.mach_model.specs.Lawful.{IsLawful}
use Rattle.tables_base.specs.declared.message.Carried.{Carried}
use Rattle.tables_base.specs.declared.message.Mark.{Mark}
use Rattle.tables_base.specs.declared.message.Mark.TheVariants as mark
use Rattle.tables_base.specs.Kept.{Kept, Keeps, receive_moved, mark_of, marks_of, kind_of, body_of, reply_of, items_given, body_given}
use Rattle.copyin_base.specs.Shows.{AllKept}
use Rattle.copyin_base.proofs.Gets.{same_found}

-- The message is kept of this entry, at this place among them.
pub record KeptOf (p : ℕ) (es : List Entry) (m : Kept) : Type 0 where
  pub index : ℕ
  pub entry : Entry
  pub at : slice_get es index ≡ Some entry
  pub keeps : Keeps p m entry.message

pub kept_of : (p : ℕ) (ms : List Kept) (es : List Entry) → AllKept p ms es → (m : Kept) → Contains ms m → KeptOf p es m
kept_of p [] [] h m (i, below, is) = absurd (omega (arith, below))
kept_of p [] (e ∷ es) h m c = absurd h
kept_of p (x ∷ ms) [] h m c = absurd h
kept_of p (x ∷ ms) (e ∷ es) h m (zero, below, is) = record { index = zero; entry = e; at = refl; keeps = subst (λ (y : Kept). Keeps p y e.message) is h.0 }
kept_of p (x ∷ ms) (e ∷ es) h m (suc k, below, is) =
    let r = kept_of p ms es h.1 m (k, omega (arith, below), is) in
    record { index = suc r.index; entry = r.entry; at = r.at; keeps = r.keeps }

-- the message that is kept of an entry
pub kept_at : (p : ℕ) (ms : List Kept) (es : List Entry) (i : ℕ) (e : Entry) → AllKept p ms es → slice_get es i ≡ Some e → (m : Kept) × (Contains ms m) × Keeps p m e.message
kept_at p [] [] i e all at = absurd (let f : None ≡ Some e = at in cc)
kept_at p (m ∷ ms) [] i e all at = absurd all
kept_at p [] (x ∷ es) i e all at = absurd all
kept_at p (m ∷ ms) (x ∷ es) zero e all at = (m, (zero, omega arith, refl), subst (λ (y : Entry). Keeps p m y.message) (same_found (Some x) x e refl at) all.0)
kept_at p (m ∷ ms) (x ∷ es) (suc i) e all at = let r = kept_at p ms es i e all.1 at in (r.0, (let c = r.1 in let below = c.1 in (suc c.0, omega (arith, below), c.2)), r.2)

pub some_at : {A : Type 0} (xs : List A) (k : ℕ) → k < length xs → (x : A) × (slice_get xs k ≡ Some x)
some_at [] k below = absurd (omega (arith, below))
some_at (x ∷ xs) zero below = (x, refl)
some_at (x ∷ xs) (suc k) below = some_at xs k (omega (arith, below))

-- What a queued message carries for a live port lies at its place.
pub carried_lies : (s : State) → IsLawful s → (p i : ℕ) (e : Entry) → s.live_port p ≡ true → slice_get (queue s p) i ≡ Some e → (kind : Kind) (q : ℕ) → s.live_port q ≡ true →
    lying s kind q (in_message p (s.taken p + i)) ≡ message_count kind q e.message
carried_lies s l p i e lives at kind q live = l.carried p i e lives at kind q live

-- ---- the rights of a message are those that are kept of it

abbrev pub numbers : List Carried → List ℕ
numbers cs = map (λ c. disposition_number c.given) cs

-- the right with its kind, as the machine has it
abbrev pub right_of : Carried → Kind × MachineMark
right_of c = (kind_sent c.given, mark_of c.mark)

abbrev pub rights_of : List Carried → List (Kind × MachineMark)
rights_of cs = map right_of cs

kind_is : (d : Disposition) → kind_sent d ≡ kind_of (disposition_number d)
kind_is MoveReceive = refl
kind_is MoveSend = refl
kind_is MoveSendOnce = refl
kind_is CopySend = refl
kind_is MakeSend = refl
kind_is MakeSendOnce = refl

same_head : (a b : ℕ) (xs ys : List ℕ) → a ∷ xs ≡ b ∷ ys → a ≡ b
same_head a b xs ys e = cc

same_tail : (a b : ℕ) (xs ys : List ℕ) → a ∷ xs ≡ b ∷ ys → xs ≡ ys
same_tail a b xs ys e = cc

-- The first of the rights are an item's.
pub record ItemKept (number n : ℕ) (cs : List Carried) (rest : List ℕ) : Type 0 where
  pub rights : map (λ m. (kind_of number, m)) (marks_of (take n cs)) ++ rights_of (drop n cs) ≡ rights_of cs
  pub left : numbers (drop n cs) ≡ rest
  pub many : length (marks_of (take n cs)) ≡ n
  pub long : length cs ≡ n + length (drop n cs)

pub item_kept : (number n : ℕ) (cs : List Carried) (rest : List ℕ) → numbers cs ≡ replicate n number ++ rest → ItemKept number n cs rest
item_kept number zero cs rest e = record { rights = refl; left = e; many = refl; long = omega arith }
item_kept number (suc n) [] rest e = absurd (let e' : [] ≡ number ∷ (replicate n number ++ rest) = e in cc)
item_kept number (suc n) (c ∷ cs) rest e =
    let e' : disposition_number c.given ∷ numbers cs ≡ number ∷ (replicate n number ++ rest) = e in
    let x = item_kept number n cs rest (same_tail (disposition_number c.given) number (numbers cs) (replicate n number ++ rest) e') in
    let kind : kind_of number ≡ kind_sent c.given = ap kind_of (sym (same_head (disposition_number c.given) number (numbers cs) (replicate n number ++ rest) e')) ∙ sym (kind_is c.given) in
    let many = x.many in
    let long = x.long in
    record {
      rights = ap (λ (k : Kind). (k, mark_of c.mark) ∷ (map (λ m. (kind_of number, m)) (marks_of (take n cs)) ++ rights_of (drop n cs))) kind ∙ ap (λ (rs : List (Kind × MachineMark)). right_of c ∷ rs) x.rights;
      left = x.left;
      many = omega (arith, many);
      long = omega (arith, long);
    }

pub none_kept : (cs : List Carried) → numbers cs ≡ [] → cs ≡ []
none_kept [] e = refl
none_kept (c ∷ cs) e = absurd (let e' : disposition_number c.given ∷ numbers cs ≡ [] = e in cc)

items_kept : (xs : List Wire) (cs : List Carried) → numbers cs ≡ items_given xs → body_rights (body_of (WireBody.items xs) cs) ≡ rights_of cs
items_kept [] cs e = ap rights_of (sym (none_kept cs e))
items_kept (data_item form name size number bytes padding ∷ xs) cs e = items_kept xs cs e
items_kept (port_item form number sent ∷ xs) cs e =
    let x = item_kept number (length sent) cs (items_given xs) e in
    ap (λ (rs : List (Kind × MachineMark)). map (λ m. (kind_of number, m)) (marks_of (take (length sent) cs)) ++ rs) (items_kept xs (drop (length sent) cs) x.left) ∙ x.rights

pub body_kept : (written : WireBody) (cs : List Carried) → numbers cs ≡ body_given written → body_rights (body_of written cs) ≡ rights_of cs
body_kept (WireBody.raw bytes) cs e = ap rights_of (sym (none_kept cs e))
body_kept (WireBody.items xs) cs e = items_kept xs cs e

-- The rights of a message are those that are kept of it, the reply's first.
pub message_kept : (port : ℕ) (m : Kept) (message : Message) → Keeps port m message → message_rights message ≡ rights_of (option_to_list m.reply ++ m.rights)
message_kept port m message k = ap message_rights k.message_is ∙ with_reply m.reply
  where
    with_reply : (reply : Option Carried) → reply_rights (reply_of reply) ++ body_rights (body_of k.written m.rights) ≡ rights_of (option_to_list reply ++ m.rights)
    with_reply None = body_kept k.written m.rights k.given
    with_reply (Some c) = ap (λ (rs : List (Kind × MachineMark)). right_of c ∷ rs) (body_kept k.written m.rights k.given)

-- What a message carries is counted by them.
pub message_counted : (port : ℕ) (m : Kept) (message : Message) → Keeps port m message → (kind : Kind) (q : ℕ) →
    message_count kind q message ≡ mark_count kind q (if m.by_once then send_once else send) (to_port port) + rights_count kind q (rights_of (option_to_list m.reply ++ m.rights))
message_counted port m message k kind q =
    let a : mark_count kind q message.kind (to_port message.destination) ≡ mark_count kind q (if m.by_once then send_once else send) (to_port port) =
    ap (λ (y : Message). mark_count kind q y.kind (to_port y.destination)) k.message_is in
    let b : rights_count kind q (message_rights message) ≡ rights_count kind q (rights_of (option_to_list m.reply ++ m.rights)) = ap (rights_count kind q) (message_kept port m message k) in
    omega (arith, a, b)

-- ---- receive rights

abbrev pub receive_right : (port : ℕ) → Carried
receive_right p = record { given = MoveReceive; mark = mark.Port p }

pub moved_is : (given : Disposition) (m : Mark) (p : ℕ) → receive_moved given m ≡ Some p → record { given = given; mark = m } ≡ receive_right p
moved_is MoveReceive (mark.Port q) p e = let f : q ≡ p = cc in ap receive_right f
moved_is MoveReceive mark.Null p e = absurd (cc)
moved_is MoveReceive mark.Dead p e = absurd (cc)
moved_is MoveSend m p e = absurd (cc)
moved_is MoveSendOnce m p e = absurd (cc)
moved_is CopySend m p e = absurd (cc)
moved_is MakeSend m p e = absurd (cc)
moved_is MakeSendOnce m p e = absurd (cc)

pub one_counted : (given : Disposition) (m : Mark) (q : ℕ) → 0 < mark_count receive q (kind_sent given) (mark_of m) → record { given = given; mark = m } ≡ receive_right q
one_counted MoveReceive (mark.Port p) q some = elim (eqb_tells p q) [
  | inl h ↦ ap receive_right h.1
  | inr h ↦ absurd (let z : mark_count receive q receive (to_port p) ≡ 0 = rw h.0 refl in omega (arith, some, z))
]
one_counted MoveReceive mark.Null q some = absurd (omega (arith, some))
one_counted MoveReceive mark.Dead q some = absurd (omega (arith, some))
one_counted MoveSend (mark.Port p) q some = absurd (omega (arith, some))
one_counted MoveSend mark.Null q some = absurd (omega (arith, some))
one_counted MoveSend mark.Dead q some = absurd (omega (arith, some))
one_counted MoveSendOnce (mark.Port p) q some = absurd (omega (arith, some))
one_counted MoveSendOnce mark.Null q some = absurd (omega (arith, some))
one_counted MoveSendOnce mark.Dead q some = absurd (omega (arith, some))
one_counted CopySend (mark.Port p) q some = absurd (omega (arith, some))
one_counted CopySend mark.Null q some = absurd (omega (arith, some))
one_counted CopySend mark.Dead q some = absurd (omega (arith, some))
one_counted MakeSend (mark.Port p) q some = absurd (omega (arith, some))
one_counted MakeSend mark.Null q some = absurd (omega (arith, some))
one_counted MakeSend mark.Dead q some = absurd (omega (arith, some))
one_counted MakeSendOnce (mark.Port p) q some = absurd (omega (arith, some))
one_counted MakeSendOnce mark.Null q some = absurd (omega (arith, some))
one_counted MakeSendOnce mark.Dead q some = absurd (omega (arith, some))

pub own_counted : (c : Carried) (q : ℕ) → c ≡ receive_right q → 0 < mark_count receive q (kind_sent c.given) (mark_of c.mark)
own_counted c q is = subst (λ (x : Carried). 0 < mark_count receive q (kind_sent x.given) (mark_of x.mark)) (sym is) (rw (eq-eqb q q refl) (omega arith))
