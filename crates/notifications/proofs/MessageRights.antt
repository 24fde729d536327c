-- The rights that a message carries are lost one after the other.
use Rattle.std.proofs.Common.{◌≡◌, ℕ, zero, suc, ◌+◌, ◌-◌, ◌<◌, ◌≤◌, List, [], ◌∷◌, ◌++◌, Option, Some, None, refl, sym, ap, subst, ◌∙◌, arith, true, false, Bool, inl, inr, take, drop, length, map}
use Rattle.std.specs.Prelude.{◌⊎◌, is_some, MatchBool, slice_get, Contains, filter, if◌then◌else◌, replicate}
use Rattle.std.specs.Option.{unwrap_or, option_to_list}
use Rattle.std.specs.FinMap as map
use Rattle.std.proofs.lemmas.Bool.{eq-eqb, ne_eqb}
use Rattle.std.proofs.lemmas.Bool.Decides.{eqb_tells}
use Rattle.std.specs.Ordering.{nat_cmp}
use Rattle.std.proofs.lemmas.List.Elements.{Contains-append_cases}
use Rattle.std.proofs.lemmas.List.{length-append}
use Rattle.mach_types.specs.Numbers.{kind_sent}
use Rattle.mach_types.specs.Tokens.{Kind, receive, send, send_once, same_kind, in_message, Token, token, weigh, count, is_of}
use Rattle.mach_types.specs.Messages.{Entry}
use Rattle.mach_model.specs.State.{State, at, queue}
use Rattle.mach_model.specs.Notices.{Notice, right_unused, Owed, notice_message, posted_tokens}
use Rattle.mach_model.specs.References.{unused_among}
use Rattle.mach_model.proofs.Names.{at_own, at_other, weigh-append, slice_get_drop, elsewhere}
use Rattle.mach_model.specs.Carried.{lying}
use Rattle.mach_model.specs.Unused.{onces_queued}
use Rattle.mach_model.proofs.Moving.{IsMoving}
use Rattle.mach_model.proofs.SettledOnce.{by_its_kind, placed_apart}
use Rattle.rights.specs.declared.Counts.{Counts}
use Rattle.rights.specs.declared.RightKind.TheVariants as right
use Rattle.rights.specs.Counts.{with_fewer, one_shifted}
use Rattle.rights.specs.Ledger.{LedgerView, IsEntered, counts_of, taken, shifted}
use Rattle.port.specs.Holding.{held}
use Rattle.port.specs.Ports.{PortView, with_port}
use Rattle.port.specs.declared.Holder.TheVariants.{Nobody}
use Rattle.copyin_base.specs.declared.Carried.{Carried}
use Rattle.copyin_base.specs.declared.Mark.{Mark}
use Rattle.copyin_base.specs.declared.Mark.TheVariants as mark
use Rattle.copyin_base.specs.declared.Notice.TheVariants as notice
use Rattle.copyin_base.specs.Changes.{NotesSenderless, NotesSenders, SetsHolder}
use Rattle.copyin_base.specs.Kept.{Kept}
use Rattle.copyin_base.specs.Shows.{SlotsSuffice, HoldersAgree, CarriersAgree, CarriesReceive, RequestsStand}
use Rattle.copyin_base.specs.Worlds.{WorldView, port_at}
use Rattle.copyin_base.proofs.Putting.{each_put, put_own, put_other}
use Rattle.copyin_base.proofs.SendersNoted.{counts_own, counts_other, noted_holders, noted_carriers, noted_requested, KeepsSends, sends_taken, sends_shifted, sends_elsewhere, keeps_senders, senders_kept, senders_fallen}
use Rattle.copyin_base.specs.declared.Notice.TheVariants.{SendOnce}
use Rattle.copyin_base.specs.Queued.{notice_kept}
use Rattle.copyin_base.proofs.Carriers.{IsCarried, put_queue, carriers_held, carriers_queued}
use Rattle.copyin_base.proofs.Gets.{of_some}
use Rattle.copyin_base.proofs.Holders.{ReceivesAt, KeepHolders, put_holders, holder_set, holders_ports}
use Rattle.copyin_base.proofs.Listed.{listed_one}
use Rattle.copyin_base.proofs.Requested.{requested_put, requested_ports}
use Rattle.copyin_base.specs.Posted.{with_notice, with_posted}
use Rattle.copyout.specs.Takes.{TakesFront, NotesFront}
use Rattle.notifications.specs.Destroying.{LosesRight, LosesMark, LosesAll, CanLoseRight, CanLoseMark, one_for, rights_for, CanLoseAll, CanDestroy, DestroysMessage}
use Rattle.notifications.proofs.NoticePosted.{slots_posted}

-- ---- What a message carries is lost right by right: each can be lost, and then those behind it.

kind_refl : (kind : Kind) → same_kind kind kind ≡ true
kind_refl receive = refl
kind_refl send = refl
kind_refl send_once = refl

pub own_one : (kind : Kind) (p : ℕ) → one_for kind p kind (mark.Port p) ≡ 1
own_one kind p = rw (kind_refl kind, eq-eqb p p refl) refl

-- ---- the first can be lost

module _ (w : WorldView) (c : Carried) (cs : List Carried) (a : CanLoseAll w (c ∷ cs)) where
  some_port : (p : ℕ) (o : Option (PortView Kept)) → map.get w.ports.ports p ≡ o → is_some o ≡ true → (v : PortView Kept) × (port_at w p ≡ Some v)
  some_port p (Some v) e live = (v, e)
  some_port p None e live = absurd (cc)

  pub can_kind : (kind : Kind) (p : ℕ) → kind_sent c.given ≡ kind → c.mark ≡ mark.Port p → is_some (map.get w.ports.ports p) ≡ true → CanLoseRight w kind p
  can_kind receive p k is live = grind (arith, some_port, own_one)
  can_kind send p k is live = grind (arith, own_one)
  can_kind send_once p k is live = grind (arith, own_one)

  pub can_first : CanLoseMark w (kind_sent c.given) c.mark
  can_first = grind (arith, can_kind)

  -- ---- and then those behind it

  -- What a right of this kind and with this mark that was lost leaves of the tables.
  record Leaves (kind : Kind) (m : Mark) (u : WorldView) : Type 0 where
    pub live : (q : ℕ) → is_some (port_at u q) ≡ is_some (port_at w q)
    pub entered : (q : ℕ) → IsEntered w.ledger q → IsEntered u.ledger q
    pub slots : SlotsSuffice u
    pub receivers : (q : ℕ) → is_some (port_at w q) ≡ true → (counts_of u.ledger q).receive + one_for receive q kind m ≡ (counts_of w.ledger q).receive
    pub one_each : (q : ℕ) → (counts_of u.ledger q).receive ≤ 1
    pub senders : (q : ℕ) → is_some (port_at w q) ≡ true → (counts_of u.ledger q).send + one_for send q kind m ≡ (counts_of w.ledger q).send
    pub onces : (q : ℕ) → is_some (port_at w q) ≡ true → (counts_of u.ledger q).send_once + one_for send_once q kind m ≡ (counts_of w.ledger q).send_once
    pub holders : (q : ℕ) (v : PortView Kept) → port_at u q ≡ Some v → (0 < one_for receive q kind m) ⊎ ((x : PortView Kept) × (port_at w q ≡ Some x) × (x.attributes.holder ≡ v.attributes.holder))

  behind : (u : WorldView) → Leaves (kind_sent c.given) c.mark u → CanLoseAll u cs
  behind u l = grind arith

-- what stays as it was leaves no fewer
stays : (w : WorldView) (c : Carried) (cs : List Carried) → CanLoseAll w (c ∷ cs) → CanLoseAll w cs
stays w c cs a = grind arith

-- ---- counts of one port

module _ (l : LedgerView) (p : ℕ) (v : Counts) (l2 : LedgerView) (is : l2.counts ≡ map.insert l.counts p v) where
  pub entered_put : (q : ℕ) → IsEntered l q → IsEntered l2 q
  entered_put q e = ap (λ m. map.contains_key m q) is ∙ each_put l.counts p (Some v) (λ n o. map.contains_key l.counts n ≡ true → is_some o ≡ true) (λ _. refl) (λ n not e. e) q e

  -- a number of each port that is one less for this port, where it is of that kind
  pub fewer : (of kind : Kind) (f : Counts → ℕ) → f v + one_for of p kind (mark.Port p) ≡ f (counts_of l p) → (q : ℕ) → f (counts_of l2 q) + one_for of q kind (mark.Port p) ≡ f (counts_of l q)
  fewer of kind f own q = grind (arith, counts_own, counts_other, ne_eqb)

-- ---- each kind

module _ (w : WorldView) (c : Carried) (cs : List Carried) (a : CanLoseAll w (c ∷ cs)) (p : ℕ) (u : WorldView) where
  least : (f : Counts → ℕ) (n : ℕ) → n ≤ f (counts_of w.ledger p) → f (counts_of w.ledger p) - n + n ≡ f (counts_of w.ledger p)
  least f n le = omega (arith, le)

  send_leaves : 1 ≤ (counts_of w.ledger p).send → LosesRight w send p u → Leaves w c cs a send (mark.Port p) u
  send_leaves some x =
      let l2 : LedgerView = taken w.ledger p right.Send 1 in
      let v : Counts = with_fewer right.Send 1 (counts_of w.ledger p) in
      let ledger : u.ledger ≡ l2 = ap (λ (y : WorldView). y.ledger) x.rest in
      let is : u.ledger.counts ≡ map.insert w.ledger.counts p v = ap (λ (y : LedgerView). y.counts) ledger in
      let ports : u.ports.ports ≡ w.ports.ports = ap (λ (y : WorldView). y.ports.ports) x.rest in
      let spare : u.ports.spare ≡ w.ports.spare = ap (λ (y : WorldView). y.ports.spare) x.rest in
      let unused : u.ledger.unused ≡ w.ledger.unused - 0 = ap (λ (y : LedgerView). y.unused) ledger in
      record {
        live = λ q. ap (λ m. is_some (map.get m q)) ports;
        entered = entered_put w.ledger p v u.ledger is;
        slots = let s = a.slots in omega (arith, s, spare, unused);
        receivers = λ q live. fewer w.ledger p v u.ledger is receive send (λ (y : Counts). y.receive) (omega arith) q;
        one_each = λ q. let f = fewer w.ledger p v u.ledger is receive send (λ (y : Counts). y.receive) (omega arith) q in let one = a.one_each q in omega (arith, f, one);
        senders = λ q live. fewer w.ledger p v u.ledger is send send (λ (y : Counts). y.send) (let own = own_one send p in omega (arith, own, some)) q;
        onces = λ q live. fewer w.ledger p v u.ledger is send_once send (λ (y : Counts). y.send_once) (omega arith) q;
        holders = λ q y at. inr (y, sym (ap (λ m. map.get m q) ports) ∙ at, refl);
      }

  receive_leaves : 0 < (counts_of w.ledger p).receive → LosesRight w receive p u → Leaves w c cs a receive (mark.Port p) u
  receive_leaves some x =
      let v : Counts = with_fewer right.Receive 1 (counts_of w.ledger p) in
      let ledger : u.ledger ≡ taken w.ledger p right.Receive 1 = ap (λ (y : WorldView). y.ledger) x.rest in
      let is : u.ledger.counts ≡ map.insert w.ledger.counts p v = ap (λ (y : LedgerView). y.counts) ledger in
      let ports : u.ports.ports ≡ map.insert w.ports.ports p (held x.v _) = ap (λ (y : WorldView). y.ports.ports) x.rest in
      let spare : u.ports.spare ≡ w.ports.spare = ap (λ (y : WorldView). y.ports.spare) x.rest in
      let unused : u.ledger.unused ≡ w.ledger.unused - 0 = ap (λ (y : LedgerView). y.unused) ledger in
      record {
        live = λ q. ap (λ m. is_some (map.get m q)) ports ∙ each_put w.ports.ports p (Some (held x.v _)) (λ n o. is_some o ≡ is_some (port_at w n)) (sym (ap is_some x.there)) (λ n not. refl) q;
        entered = entered_put w.ledger p v u.ledger is;
        slots = let s = a.slots in omega (arith, s, spare, unused);
        receivers = λ q live. fewer w.ledger p v u.ledger is receive receive (λ (y : Counts). y.receive) (let own = own_one receive p in omega (arith, own, some)) q;
        one_each = λ q. let f = fewer w.ledger p v u.ledger is receive receive (λ (y : Counts). y.receive) (let own = own_one receive p in omega (arith, own, some)) q in let one = a.one_each q in omega (arith, f, one);
        senders = λ q live. fewer w.ledger p v u.ledger is send receive (λ (y : Counts). y.send) (omega arith) q;
        onces = λ q live. fewer w.ledger p v u.ledger is send_once receive (λ (y : Counts). y.send_once) (omega arith) q;
        holders = λ q y at. elim (eqb_tells q p) [
          | inl h ↦ inl (let own = own_one receive p in let e : one_for receive q receive (mark.Port p) ≡ one_for receive p receive (mark.Port p) = ap (λ (n : ℕ). one_for receive n receive (mark.Port p)) h.1 in omega (arith, own, e))
          | inr h ↦ inr (y, sym (ap (λ m. map.get m q) ports ∙ put_other w.ports.ports p (Some (held x.v _)) q h.1) ∙ at, refl)
        ];
      }

  once_leaves : 0 < (counts_of w.ledger p).send_once → LosesRight w send_once p u → Leaves w c cs a send_once (mark.Port p) u
  once_leaves some x =
      let v : Counts = one_shifted (counts_of w.ledger p) in
      let ledger : u.ledger ≡ shifted w.ledger p = ap (λ (y : WorldView). y.ledger) x.rest in
      let is : u.ledger.counts ≡ map.insert w.ledger.counts p v = ap (λ (y : LedgerView). y.counts) ledger in
      let ports : u.ports.ports ≡ map.insert w.ports.ports p _ = ap (λ (y : WorldView). y.ports.ports) x.rest in
      record {
        live = λ q. ap (λ m. is_some (map.get m q)) ports ∙ each_put w.ports.ports p (Some _) (λ n o. is_some o ≡ is_some (port_at w n)) (sym (ap is_some x.there)) (λ n not. refl) q;
        entered = entered_put w.ledger p v u.ledger is;
        slots = slots_posted w p notice.SendOnce u a.slots x;
        receivers = λ q live. fewer w.ledger p v u.ledger is receive send_once (λ (y : Counts). y.receive) (omega arith) q;
        one_each = λ q. let f = fewer w.ledger p v u.ledger is receive send_once (λ (y : Counts). y.receive) (omega arith) q in let one = a.one_each q in omega (arith, f, one);
        senders = λ q live. fewer w.ledger p v u.ledger is send send_once (λ (y : Counts). y.send) (omega arith) q;
        onces = λ q live. fewer w.ledger p v u.ledger is send_once send_once (λ (y : Counts). y.send_once) (let own = own_one send_once p in omega (arith, own, some)) q;
        holders = λ q y at. elim (eqb_tells q p) [
          | inl h ↦ inr (x.v, ap (port_at w) h.1 ∙ x.there, holder_of y q _ h.1 at ports)
          | inr h ↦ inr (y, sym (ap (λ m. map.get m q) ports ∙ put_other w.ports.ports p (Some _) q h.1) ∙ at, refl)
        ];
      }
    where
      holder_of : (y : PortView Kept) (q : ℕ) (z : PortView Kept) → q ≡ p → port_at u q ≡ Some y → u.ports.ports ≡ map.insert w.ports.ports p z → z.attributes.holder ≡ y.attributes.holder
      holder_of y q z is at ports =
          let e : Some z ≡ Some y = sym (ap (λ m. map.get m p) ports ∙ put_own w.ports.ports p (Some z)) ∙ sym (ap (port_at u) is) ∙ at in
          of_some z y e
        where
          of_some : (z y : PortView Kept) → Some z ≡ Some y → z.attributes.holder ≡ y.attributes.holder
          of_some z y e = ap (λ (o : Option (PortView Kept)). (unwrap_or o z).attributes.holder) e

  leaves_kind : (kind : Kind) → CanLoseRight w kind p → LosesRight w kind p u → Leaves w c cs a kind (mark.Port p) u
  leaves_kind receive can x = receive_leaves can.counted x
  leaves_kind send can x = send_leaves can.1 x
  leaves_kind send_once can x = once_leaves can.paid x

pub can_later : (w : WorldView) (c : Carried) (cs : List Carried) → CanLoseAll w (c ∷ cs) → (u : WorldView) → LosesMark w (kind_sent c.given) c.mark u → CanLoseAll u cs
can_later w c cs a u x = go c.mark refl x
  where
    by : (m : Mark) (p : ℕ) (b : Bool) → c.mark ≡ mark.Port p → is_some (map.get w.ports.ports p) ≡ b → MatchBool b (LosesRight w (kind_sent c.given) p u) (u ≡ w) → CanLoseAll u cs
    by m p true is live lost =
        let can = can_kind w c cs a (kind_sent c.given) p refl is live in
        behind w c cs a u (subst (λ (y : Mark). Leaves w c cs a (kind_sent c.given) y u) (sym is) (leaves_kind w c cs a p u (kind_sent c.given) can lost))
    by m p false is live same = subst (λ (y : WorldView). CanLoseAll y cs) (sym same) (stays w c cs a)

    go : (m : Mark) → c.mark ≡ m → LosesMark w (kind_sent c.given) m u → CanLoseAll u cs
    go (mark.Port p) is lost = by (mark.Port p) p (is_some (map.get w.ports.ports p)) is refl lost
    go mark.Null is same = subst (λ (y : WorldView). CanLoseAll y cs) (sym same) (stays w c cs a)
    go mark.Dead is same = subst (λ (y : WorldView). CanLoseAll y cs) (sym same) (stays w c cs a)

-- one more, behind those that were lost
pub loses_push : (w : WorldView) (cs : List Carried) (u : WorldView) (c : Carried) (v : WorldView) → LosesAll w cs u → LosesMark u (kind_sent c.given) c.mark v → LosesAll w (cs ++ c ∷ []) v
loses_push w [] u c v all one = (v, subst (λ (y : WorldView). LosesMark y (kind_sent c.given) c.mark v) all one, refl)
loses_push w (x ∷ xs) u c v all one = (all.0, all.1, loses_push all.0 xs u c v all.2 one)

pub loses_join : (w : WorldView) (cs ds : List Carried) (u v : WorldView) → LosesAll w cs u → LosesAll u ds v → LosesAll w (cs ++ ds) v
loses_join w [] ds u v all rest = subst (λ (y : WorldView). LosesAll y ds v) all rest
loses_join w (x ∷ xs) ds u v all rest = (all.0, all.1, loses_join all.0 xs ds u v all.2 rest)

-- once the first ones were lost, the others can be
pub can_rest : (w : WorldView) (cs ds : List Carried) (u : WorldView) → CanLoseAll w (cs ++ ds) → LosesAll w cs u → CanLoseAll u ds
can_rest w [] ds u a all = subst (λ (y : WorldView). CanLoseAll y ds) (sym all) a
can_rest w (x ∷ xs) ds u a all = can_rest all.0 xs ds u (can_later w x (xs ++ ds) a all.0 all.1) all.2

-- the first ones of those that can be lost
pub can_some : (w : WorldView) (cs ds : List Carried) → CanLoseAll w (cs ++ ds) → CanLoseAll w cs
can_some w cs ds a = record {
  entered = a.entered;
  slots = a.slots;
  receivers = λ p live. let n = a.receivers p live in let s = sum receive p cs in omega (arith, n, s);
  one_each = a.one_each;
  senders = λ p live. let n = a.senders p live in let s = sum send p cs in omega (arith, n, s);
  onces = λ p live. let n = a.onces p live in let s = sum send_once p cs in omega (arith, n, s);
  held = λ p v is some. a.held p v is (let s = sum receive p cs in omega (arith, some, s));
}
  where
    sum : (of : Kind) (p : ℕ) (xs : List Carried) → rights_for of p xs ≤ rights_for of p (xs ++ ds)
    sum of p [] = omega arith
    sum of p (x ∷ xs) = let s = sum of p xs in omega (arith, s)

-- the right at this place, with those before it and behind it
pub at_place : (xs : List Carried) (k : ℕ) (c : Carried) → slice_get xs k ≡ Some c → (xs ≡ take k xs ++ c ∷ drop (suc k) xs) × (take (suc k) xs ≡ take k xs ++ c ∷ [])
at_place [] k c e = absurd (let f : None ≡ Some c = e in cc)
at_place (x ∷ xs) zero c e = let same : x ≡ c = ap (λ (o : Option Carried). unwrap_or o x) e in (ap (λ (y : Carried). y ∷ xs) same, ap (λ (y : Carried). y ∷ []) same)
at_place (x ∷ xs) (suc k) c e = let r = at_place xs k c e in (ap (λ (ys : List Carried). x ∷ ys) r.0, ap (λ (ys : List Carried). x ∷ ys) r.1)

-- ---- the loop over the rights of a body

module _ (w : WorldView) (rights : List Carried) (a : CanLoseAll w rights) (k : ℕ) (u : WorldView) (so_far : LosesAll w (take k rights) u) (c : Carried) (at : slice_get rights k ≡ Some c) where
  pub can_next : CanLoseMark u (kind_sent c.given) c.mark
  can_next = can_first u c (drop (suc k) rights) (can_rest w (take k rights) (c ∷ drop (suc k) rights) u (subst (CanLoseAll w) (at_place rights k c at).0 a) so_far)

  pub lost_next : (v : WorldView) → LosesMark u (kind_sent c.given) c.mark v → LosesAll w (take (k + 1) rights) v
  lost_next v one =
      let more : k + 1 ≡ suc k = omega arith in
      subst (λ (cs : List Carried). LosesAll w cs v) (sym (ap (λ (n : ℕ). take n rights) more ∙ (at_place rights k c at).1)) (loses_push w (take k rights) u c v so_far one)

pub none_past : (xs : List Carried) (k : ℕ) → k < length xs → slice_get xs k ≡ None → ⊥
none_past [] k below e = omega (arith, below)
none_past (x ∷ xs) zero below e = let f : Some x ≡ None = e in cc
none_past (x ∷ xs) (suc k) below e = none_past xs k (omega (arith, below)) e

-- ---- the whole message

module _ (w : WorldView) (p : ℕ) (can : CanDestroy w p) (t : WorldView) (takes : TakesFront w p t) (v : WorldView) (notes : NotesFront t p takes.front v) where
  pub can_reply : CanLoseAll v (option_to_list takes.front.reply)
  can_reply = can_some v (option_to_list takes.front.reply) takes.front.rights (can.later t v takes notes)

  module _ (u : WorldView) (reply : LosesAll v (option_to_list takes.front.reply) u) where
    pub can_body : CanLoseAll u takes.front.rights
    can_body = can_rest v (option_to_list takes.front.reply) takes.front.rights u (can.later t v takes notes) reply

    pub destroys : (x : WorldView) → LosesAll u takes.front.rights x → DestroysMessage w p x
    destroys x body = record { taken = t; takes = takes; noted = v; notes = notes; loses = loses_join v (option_to_list takes.front.reply) takes.front.rights u x reply body }

  -- what was taken is this message, with this reply right
  module _ (m : Kept) (is : m ≡ takes.front) (o : Option Carried) (reply_is : o ≡ m.reply) (u : WorldView) (lost : LosesAll v (option_to_list o) u) where
    reply : LosesAll v (option_to_list takes.front.reply) u
    reply = subst (λ (x : Option Carried). LosesAll v (option_to_list x) u) (reply_is ∙ ap (λ (x : Kept). x.reply) is) lost

    pub body_can : CanLoseAll u m.rights
    body_can = subst (λ (x : Kept). CanLoseAll u x.rights) (sym is) (can_body u reply)

    pub message_lost : (x : WorldView) → LosesAll u m.rights x → DestroysMessage w p x
    message_lost x body = destroys u reply x (subst (λ (y : Kept). LosesAll u y.rights x) is body)

-- the port is noted by the message that was taken
pub front_notes : (w : WorldView) (p : ℕ) (t : WorldView) (takes : TakesFront w p t) (m : Kept) → m ≡ takes.front → (b : Bool) → b ≡ m.by_once → (v : WorldView) →
    MatchBool b (v ≡ t) (NotesSenderless t p v) → NotesFront t p takes.front v
front_notes w p t takes m is b b_is v notes = subst (λ (x : Bool). MatchBool x (v ≡ t) (NotesSenderless t p v)) (b_is ∙ ap (λ (x : Kept). x.by_once) is) notes

-- ---- What is true of the tables alone while a message's rights are lost.

-- w are the tables before the call, and these rights are still to be lost.
pub record Sound (w : WorldView) (cs : List Carried) (u : WorldView) : Type 0 where
  pub holders : HoldersAgree u
  pub carriers : CarriersAgree u
  pub requested : RequestsStand u
  pub notes : NotesSenders w u
  pub had : (p : ℕ) → is_some (port_at u p) ≡ true → 0 < rights_for send p cs → 0 < (counts_of w.ledger p).send
  pub uncarried : (p : ℕ) → is_some (port_at u p) ≡ true → 0 < rights_for receive p cs → (q : ℕ) → IsCarried u q p → ⊥
  pub unheld : (p : ℕ) → is_some (port_at u p) ≡ true → 0 < rights_for receive p cs → (task : ℕ) → ReceivesAt u task p → ⊥
  pub doomed : u.ports.doomed ≡ []
  pub destroyed : u.ports.destroyed ≡ []

-- where nothing is lost
fewer_sound : (w : WorldView) (c : Carried) (cs : List Carried) (u : WorldView) → Sound w (c ∷ cs) u → Sound w cs u
fewer_sound w c cs u s = record {
  holders = s.holders;
  carriers = s.carriers;
  requested = s.requested;
  notes = s.notes;
  had = λ p live some. s.had p live (omega (arith, some));
  uncarried = λ p live some. s.uncarried p live (omega (arith, some));
  unheld = λ p live some. s.unheld p live (omega (arith, some));
  doomed = s.doomed;
  destroyed = s.destroyed;
}

-- a notice that a right was lost carries none
told_none : (q : ℕ) → CarriesReceive (notice_kept SendOnce) q → ⊥
told_none q (i, below, is) = omega (arith, below)

module _ (w : WorldView) (c : Carried) (cs : List Carried) (u : WorldView) (s : Sound w (c ∷ cs) u) (p : ℕ) (is : c.mark ≡ mark.Port p) (live : is_some (port_at u p) ≡ true) (v : WorldView) where
  own : (kind : Kind) → kind_sent c.given ≡ kind → 0 < rights_for kind p (c ∷ cs)
  own kind e = grind (arith, own_one)

  -- what holds of the tables whose ports are there as before, and whose queues carry and names have no more
  sound : HoldersAgree v → CarriersAgree v → RequestsStand v → NotesSenders w v → ((q : ℕ) → is_some (port_at v q) ≡ is_some (port_at u q)) →
      ((q r : ℕ) → IsCarried v q r → IsCarried u q r) → v.spaces ≡ u.spaces → v.ports.doomed ≡ u.ports.doomed → v.ports.destroyed ≡ u.ports.destroyed → Sound w cs v
  sound holders carriers requested notes same carried spaces doomed destroyed = record {
    holders = holders;
    carriers = carriers;
    requested = requested;
    notes = notes;
    had = λ q l some. s.had q (sym (same q) ∙ l) (omega (arith, some));
    uncarried = λ q l some r x. s.uncarried q (sym (same q) ∙ l) (omega (arith, some)) r (carried r q x);
    unheld = λ q l some task x. s.unheld q (sym (same q) ∙ l) (omega (arith, some)) task (subst (λ (xs : _). ReceivesAt (record u { spaces = xs }) task q) spaces (record { name = x.name; entry = x.entry; found = x.found; named = x.named; receives = x.receives }));
    doomed = doomed ∙ s.doomed;
    destroyed = destroyed ∙ s.destroyed;
  }

  send_sound : kind_sent c.given ≡ send → LosesRight u send p v → Sound w cs v
  send_sound e x =
      let fallen : WorldView = record u { ledger = taken u.ledger p right.Send 1 } in
      let ports : v.ports.ports ≡ u.ports.ports = ap (λ (z : WorldView). z.ports.ports) x.rest in
      sound (noted_holders fallen v p x (record { held = s.holders.held })) (noted_carriers fallen v p x (record { given = s.carriers.given; carried = s.carriers.carried }))
      (noted_requested fallen v p x (requested_ports u fallen s.requested (λ q l. l) refl refl))
      (senders_fallen w u v s.notes p fallen refl refl s.requested (λ q not. sends_elsewhere u.ledger p right.Send 1 q not) (λ z. s.had p live (own send e)) x)
      (λ q. ap (λ m. is_some (map.get m q)) ports)
      (λ q r y. (let z = subst (λ (z : WorldView). IsCarried z q r) x.rest y in record { u = z.u; there = z.there; message = z.message; queued = z.queued; carries = z.carries }))
      (ap (λ (z : WorldView). z.spaces) x.rest) (ap (λ (z : WorldView). z.ports.doomed) x.rest) (ap (λ (z : WorldView). z.ports.destroyed) x.rest)

  receive_sound : kind_sent c.given ≡ receive → LosesRight u receive p v → Sound w cs v
  receive_sound e x =
      let put : PortView Kept = held x.v Nobody in
      let mid : WorldView = record u { ports = with_port u.ports p put } in
      let set : SetsHolder u p Nobody mid = record { v = x.v; there = x.there; rest = refl } in
      let h = holder_set u mid s.holders p Nobody set (λ task r. absurd (s.unheld p live (own receive e) task r)) in
      let k = carriers_held u mid s.carriers p Nobody set (λ q y. absurd (s.uncarried p live (own receive e) q y)) in
      let ports : v.ports.ports ≡ map.insert u.ports.ports p put = ap (λ (z : WorldView). z.ports.ports) x.rest in
      sound (subst HoldersAgree (sym x.rest) (record { held = h.held })) (subst CarriersAgree (sym x.rest) (record { given = k.given; carried = k.carried }))
      (requested_put u v s.requested p put ports (ap (λ (z : WorldView). z.requests) x.rest) (ap (λ (z : WorldView). z.spaces) x.rest))
      (senders_kept w u v s.notes (keeps_senders u v s.requested (ap (λ (z : WorldView). z.requests.no_senders) x.rest)
      (subst (KeepsSends u.ledger) (sym (ap (λ (z : WorldView). z.ledger) x.rest)) (sends_taken u.ledger p right.Receive 1 (λ f. (cc)))) (ap (λ (z : WorldView). z.ports.noted) x.rest)))
      (λ q. ap (λ m. is_some (map.get m q)) ports ∙ each_put u.ports.ports p (Some put) (λ n o. is_some o ≡ is_some (port_at u n)) (sym (ap is_some x.there)) (λ n not. refl) q)
      (λ q r y. (let i = put_queue u.ports.ports p x.v put x.there (λ m a. a) q y.u y.message (sym (ap (λ m. map.get m q) ports) ∙ y.there) y.queued in record { u = i.v; there = i.there; message = y.message; queued = i.queued; carries = y.carries }))
      (ap (λ (z : WorldView). z.spaces) x.rest) (ap (λ (z : WorldView). z.ports.doomed) x.rest) (ap (λ (z : WorldView). z.ports.destroyed) x.rest)

  once_sound : LosesRight u send_once p v → Sound w cs v
  once_sound x =
      let put : PortView Kept = record x.v { queue = x.v.queue ++ notice_kept SendOnce ∷ [] } in
      let ports : v.ports.ports ≡ map.insert u.ports.ports p put = ap (λ (z : WorldView). z.ports.ports) x.rest in
      sound (holders_ports u v s.holders (ap (λ (z : WorldView). z.spaces) x.rest)
      (subst (λ (m : map.FinMap nat_cmp (PortView Kept)). KeepHolders u.ports.ports m) (sym ports) (put_holders u.ports.ports p x.v put x.there refl)))
      (carriers_queued u v s.carriers p x.v put (notice_kept SendOnce) x.there (ap (λ (z : WorldView). z.ports.made) x.rest) ports refl refl (λ q carries. absurd (told_none q carries)))
      (requested_put u v s.requested p put ports (ap (λ (z : WorldView). z.requests) x.rest) (ap (λ (z : WorldView). z.spaces) x.rest))
      (senders_kept w u v s.notes (keeps_senders u v s.requested (ap (λ (z : WorldView). z.requests.no_senders) x.rest)
      (subst (KeepsSends u.ledger) (sym (ap (λ (z : WorldView). z.ledger) x.rest)) (sends_shifted u.ledger p)) (ap (λ (z : WorldView). z.ports.noted) x.rest)))
      (λ q. ap (λ m. is_some (map.get m q)) ports ∙ each_put u.ports.ports p (Some put) (λ n o. is_some o ≡ is_some (port_at u n)) (sym (ap is_some x.there)) (λ n not. refl) q)
      (λ q r y. queued_before x.v x.there q r y ports)
      (ap (λ (z : WorldView). z.spaces) x.rest) (ap (λ (z : WorldView). z.ports.doomed) x.rest) (ap (λ (z : WorldView). z.ports.destroyed) x.rest)
    where
      queued_before : (y : PortView Kept) → port_at u p ≡ Some y → (q r : ℕ) → IsCarried v q r → v.ports.ports ≡ map.insert u.ports.ports p (record y { queue = y.queue ++ notice_kept SendOnce ∷ [] }) → IsCarried u q r
      queued_before y there q r x ports = each_put u.ports.ports p (Some (record y { queue = y.queue ++ notice_kept SendOnce ∷ [] }))
          (λ n o. (z : PortView Kept) → o ≡ Some z → Contains z.queue x.message → IsCarried u n r)
          (of_some (record y { queue = y.queue ++ notice_kept SendOnce ∷ [] }) (λ z. Contains z.queue x.message → IsCarried u p r) (λ a. elim (Contains-append_cases y.queue (notice_kept SendOnce ∷ []) x.message a) [
            | inl b ↦ record { u = y; there = there; message = x.message; queued = b; carries = x.carries }
            | inr b ↦ absurd (told_none r (subst (λ (m : Kept). CarriesReceive m r) (listed_one (notice_kept SendOnce) x.message b) x.carries))
          ]))
          (λ n not z at a. record { u = z; there = at; message = x.message; queued = a; carries = x.carries })
          q x.u (sym (ap (λ m. map.get m q) ports) ∙ x.there) x.queued

  right_sound : (kind : Kind) → kind_sent c.given ≡ kind → LosesRight u kind p v → Sound w cs v
  right_sound send e x = send_sound e x
  right_sound receive e x = receive_sound e x
  right_sound send_once e x = once_sound x

pub one_sound : (w : WorldView) (c : Carried) (cs : List Carried) (u : WorldView) → Sound w (c ∷ cs) u → (v : WorldView) → LosesMark u (kind_sent c.given) c.mark v → Sound w cs v
one_sound w c cs u s v loses = go c.mark refl loses
  where
    by : (p : ℕ) (b : Bool) → c.mark ≡ mark.Port p → is_some (port_at u p) ≡ b → MatchBool b (LosesRight u (kind_sent c.given) p v) (v ≡ u) → Sound w cs v
    by p true is live x = right_sound w c cs u s p is live v (kind_sent c.given) refl x
    by p false is live same = subst (Sound w cs) (sym same) (fewer_sound w c cs u s)

    go : (m : Mark) → c.mark ≡ m → LosesMark u (kind_sent c.given) m v → Sound w cs v
    go (mark.Port p) is x = by p (is_some (port_at u p)) is refl x
    go mark.Null is same = subst (Sound w cs) (sym same) (fewer_sound w c cs u s)
    go mark.Dead is same = subst (Sound w cs) (sym same) (fewer_sound w c cs u s)

-- ---- The state in which all that is owed was posted, as one equation; and what the rights weigh that notices of lost rights brought.

abbrev pub entry_with : (now p : ℕ) → Notice → Entry
entry_with now p notice = record { origin = now; message = notice_message p notice }

abbrev pub log_with : (now : ℕ) → (ℕ → List Entry) → Token × Notice → ℕ → List Entry
log_with now log x = at log x.0.port (log x.0.port ++ entry_with now x.0.port x.1 ∷ [])

abbrev pub brought : (ℕ → List Entry) → Token × Notice → List Token
brought log x = posted_tokens (record { port = x.0.port; entry = length (log x.0.port); notice = x.1 })

abbrev pub logs_with : (now : ℕ) → (ℕ → List Entry) → Owed → ℕ → List Entry
logs_with now log [] = log
logs_with now log (x ∷ owed) = logs_with now (log_with now log x) owed

abbrev pub rights_with : (now : ℕ) → (ℕ → List Entry) → Owed → List Token → List Token
rights_with now log [] tokens = tokens
rights_with now log (x ∷ owed) tokens = rights_with now (log_with now log x) owed (brought log x ++ tokens)

pub posted_is : (now : ℕ) (mid : State) (owed : Owed) → with_posted now mid owed ≡ record mid { log = logs_with now mid.log owed; ledger = rights_with now mid.log owed mid.ledger }
posted_is now mid [] = refl
posted_is now mid (x ∷ owed) = posted_is now (with_notice now mid x) owed

-- one more notice, after the others
pub logs_more : (now : ℕ) (log : ℕ → List Entry) (owed : Owed) (x : Token × Notice) → logs_with now log (owed ++ x ∷ []) ≡ log_with now (logs_with now log owed) x
logs_more now log [] x = refl
logs_more now log (y ∷ owed) x = logs_more now (log_with now log y) owed x

pub rights_more : (now : ℕ) (log : ℕ → List Entry) (owed : Owed) (x : Token × Notice) (tokens : List Token) →
    rights_with now log (owed ++ x ∷ []) tokens ≡ brought (logs_with now log owed) x ++ rights_with now log owed tokens
rights_more now log [] x tokens = refl
rights_more now log (y ∷ owed) x tokens = rights_more now (log_with now log y) owed x (brought log y ++ tokens)

-- logs only grow
pub logs_longer : (now : ℕ) (log : ℕ → List Entry) (owed : Owed) (p : ℕ) → length (log p) ≤ length (logs_with now log owed p)
logs_longer now log [] p = omega arith
logs_longer now log (x ∷ owed) p =
    let rest = logs_longer now (log_with now log x) owed p in
    elim (eqb_tells p x.0.port) [
      | inl h ↦
          let own : log_with now log x p ≡ log x.0.port ++ entry_with now x.0.port x.1 ∷ [] = ap (log_with now log x) h.1 ∙ at_own log x.0.port (log x.0.port ++ entry_with now x.0.port x.1 ∷ []) in
          let long = ap length own ∙ length-append (log x.0.port) (entry_with now x.0.port x.1 ∷ []) in
          let same = ap (λ (k : ℕ). length (log k)) h.1 in omega (arith, rest, long, same)
      | inr h ↦ let other = ap length (at_other log x.0.port (log x.0.port ++ entry_with now x.0.port x.1 ∷ []) p h.1) in omega (arith, rest, other)
    ]

-- ---- what they weigh

pub rights_weigh : (h : Token → ℕ) (now : ℕ) (log : ℕ → List Entry) (owed : Owed) (tokens : List Token) → weigh h (rights_with now log owed tokens) ≡ weigh h (rights_with now log owed []) + weigh h tokens
rights_weigh h now log [] tokens = omega arith
rights_weigh h now log (x ∷ owed) tokens =
    let a = rights_weigh h now (log_with now log x) owed (brought log x ++ tokens) in
    let b = rights_weigh h now (log_with now log x) owed (brought log x ++ []) in
    let c = weigh-append h (brought log x) tokens in
    let d = weigh-append h (brought log x) [] in
    omega (arith, a, b, c, d)

-- a weight that send-once rights in messages have not
abbrev pub Spares : (Token → ℕ) → Type 0
Spares h = (p q k : ℕ) → h (token send_once p (in_message q k)) ≡ 0

none_brought : (h : Token → ℕ) → Spares h → (now : ℕ) (log : ℕ → List Entry) (xs : List Token) → weigh h (rights_with now log (map (λ x. (x, right_unused)) xs) []) ≡ 0
none_brought h none now log [] = refl
none_brought h none now log (x ∷ xs) =
    let y : Token × Notice = (x, right_unused) in
    let a = rights_weigh h now (log_with now log y) (map (λ x. (x, right_unused)) xs) (brought log y ++ []) in
    let b = none_brought h none now (log_with now log y) xs in
    let c = none x.port x.port (length (log x.port)) in
    omega (arith, a, b, c)

pub spared : (h : Token → ℕ) → Spares h → (now : ℕ) (log : ℕ → List Entry) (gone tokens : List Token) → weigh h (rights_with now log (unused_among gone) tokens) ≡ weigh h tokens
spared h none now log gone tokens =
    let a = rights_weigh h now log (unused_among gone) tokens in
    let b = none_brought h none now log (filter (λ x. same_kind send_once x.kind) gone) in
    omega (arith, a, b)

-- ---- more rights that are gone

pub unused_append : (xs ys : List Token) → unused_among (xs ++ ys) ≡ unused_among xs ++ unused_among ys
unused_append [] ys = refl
unused_append (x ∷ xs) ys = go (same_kind send_once x.kind) (unused_append xs ys)
  where
    mark : List Token → Owed
    mark zs = map (λ x. (x, right_unused)) zs

    go : (b : Bool) → unused_among (xs ++ ys) ≡ unused_among xs ++ unused_among ys →
        mark (if b then x ∷ filter (λ x. same_kind send_once x.kind) (xs ++ ys) else filter (λ x. same_kind send_once x.kind) (xs ++ ys)) ≡
        mark (if b then x ∷ filter (λ x. same_kind send_once x.kind) xs else filter (λ x. same_kind send_once x.kind) xs) ++ unused_among ys
    go true e = ap (λ (zs : Owed). (x, right_unused) ∷ zs) e
    go false e = e

filtered_none : (x : Token) → same_kind send_once x.kind ≡ false → (n : ℕ) → filter (λ x. same_kind send_once x.kind) (replicate n x) ≡ []
filtered_none x not zero = refl
filtered_none x not (suc n) = let rest = filtered_none x not n in rw not rest

pub unused_none : (x : Token) → same_kind send_once x.kind ≡ false → (n : ℕ) → unused_among (replicate n x) ≡ []
unused_none x not n = ap (λ (ys : List Token). map (λ x. (x, right_unused)) ys) (filtered_none x not n)

-- ---- The send-once rights at an entry that was taken aren't those by which queued messages go.

-- So many rights lie at the entry that was taken, and others go with queued messages.
pub lying_and_queued : (s : State) (o k : ℕ) → IsMoving s o k → k < s.taken o → (q : ℕ) → s.live_port q ≡ true → lying s send_once q (in_message o k) + onces_queued s q ≤ count (is_of send_once q) s.ledger
lying_and_queued s o k l past q live = placed_apart q (in_message o k) (s.taken q) (queue s q) s.ledger (λ i. elsewhere o q k (s.taken q + i) (λ same at. before i (sym same) (sym at))) (λ i e is once.
    let c = l.carried q i e (before i) live is send_once q live in
    let to = (l.sent_here q (s.taken q + i) e (sym (slice_get_drop (s.taken q) (s.log q) i) ∙ is)).0 in
    let some = by_its_kind q e.message to once in
    omega (arith, c, some))
  where
    before : (i : ℕ) → q ≡ o → s.taken q + i ≡ k → ⊥
    before i same at = let t : s.taken q ≡ s.taken o = ap s.taken same in omega (arith, t, at, past)
