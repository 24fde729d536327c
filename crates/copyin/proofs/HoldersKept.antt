-- Copying in keeps who holds each receive right, and which queue.
use Rattle.std.proofs.Common.{arith, ◌≡◌, ℕ, ◌-◌, ◌++◌, Bool, true, false, List, [], ◌∷◌, Option, Some, None, IfSome, refl, sym, ap, subst, ◌∙◌, ◌+◌, ◌<◌, ◌≤◌, inl, inr, zero, suc}
use Rattle.std.specs.Prelude.{nat_lt, MatchBool, if◌then◌else◌, Contains, slice_set}
use Rattle.std.specs.FinMap as map
use Rattle.std.proofs.lemmas.Bool.Decides.{eqb_tells}
use Rattle.std.proofs.lemmas.List.Elements.{Contains-append_cases, Contains-append_right}
use Rattle.std.specs.Cmp.{nat_cmp_total}
use Rattle.mach_types.specs.Numbers.{null_word, dead_word, most_rights}
use Rattle.mach_types.specs.Grammar.{WireBody}
use Rattle.mach_types.specs.declared.rights.Disposition.{Disposition}
use Rattle.mach_types.specs.declared.rights.Disposition.TheVariants.{MoveReceive, MoveSend, MoveSendOnce, CopySend, MakeSend, MakeSendOnce}
use Rattle.mach_types.specs.Rights.{makes_right}
use Rattle.message_codec.specs.declared.text.Parsed.{Parsed}
use Rattle.message_codec.specs.declared.words.PortWord.{PortWord}
use Rattle.message_codec.specs.Words.{body_words}
use Rattle.name_space.specs.declared.Entry.{Entry}
use Rattle.name_space.specs.declared.Entry.TheVariants as entry
use Rattle.name_space.specs.Entry.{port_named, has_receive}
use Rattle.name_space.specs.Names.{SpaceView, Names}
use Rattle.port.specs.Ports.{PortView, PortsView, IsLive}
use Rattle.port.specs.declared.Holder.TheVariants as by
use Rattle.copyin_base.specs.declared.Carried.{Carried}
use Rattle.copyin_base.specs.declared.Mark.{Mark}
use Rattle.copyin_base.specs.declared.Mark.TheVariants as mark
use Rattle.copyin_base.specs.Kept.{Kept}
use Rattle.copyin_base.specs.Worlds.{WorldView, put, entry_in, entry_at, port_at, space_in}
use Rattle.copyin_base.specs.Shows.{HoldersAgree, CarriersAgree}
use Rattle.copyin_base.proofs.Gets.{same_found}
use Rattle.copyin_base.proofs.Holders.{IsReceive, ReceivesAt, receives_at, none_receives, left_receives, KeepHolders, same_holders, put_holders, holders_left, holders_ports}
use Rattle.copyin_base.proofs.KeptEntries.{receive_right}
use Rattle.copyin_base.specs.Stands.{AreTied}
use Rattle.copyin_base.proofs.Carriers.{KeepQueues, IsCarried, same_queues, put_queue, carriers_stay, carriers_queued}
use Rattle.copyin_base.proofs.Listed.{none_listed, listed_one, listed_later}
use Rattle.copyin_base.proofs.Told.{port_got}
use Rattle.copyin_base.specs.Changes.{PutsLeft}
use Rattle.copyin_base.specs.Requests.{requests_after}
use Rattle.dispositions.specs.declared.Copied.{Copied}
use Rattle.dispositions.specs.Copies.{copied_from}
use Rattle.copyin.specs.Copies.{view_copied, ports_copied, port_copied, CopiesRight}
use Rattle.copyin.specs.Plans.{destination_word, reply_words, option_list, Judged, ChangesWord, ChangesWords, Commits, message_for, made_in}
use Rattle.copyin.proofs.Holding.{held_holders, held_made, held_carriers, all_held}
use Rattle.copyin.proofs.Keeping.{keeps, if_either, else_copied}
use Rattle.copyin.specs.Planned.{CanGo, CanCopy}
use Rattle.copyin.proofs.Committing.{judged_go, mark_lives, words_live, null_no_port, dead_no_port, same_options}
use Rattle.copyin.proofs.Going.{go_on}
use Rattle.copyin.proofs.Copying.{IsKept, over_word, over_words}
use Rattle.copyin.proofs.Judging.{get_put, get_put_other}

-- ---- Copying in leaves each port's holder as it was, and no name gets a receive right by it. Of the receive rights that a message carries its
-- queue is the holder.

-- ---- what is left

-- It has the receive right only if the entry had it.
abbrev HasNoMore : Entry → Option Entry → Type 0
HasNoMore e o = IfSome o (λ left. has_receive left ≡ true → has_receive e ≡ true)

abbrev HasNoMoreIfAny : Entry → Option Copied → Type 0
HasNoMoreIfAny e None = Unit {0}
HasNoMoreIfAny e (Some k) = HasNoMore e k.left

less : (e : Entry) (with_references : ℕ → Entry) (o : Option Entry) (n : ℕ) → (has_receive (with_references (n - 1)) ≡ true → has_receive e ≡ true) → HasNoMore e o →
    HasNoMore e (if nat_lt 1 n then Some (with_references (n - 1)) else o)
less e with_references o n one other = if_either (nat_lt 1 n) (with_references (n - 1)) o (λ left. has_receive left ≡ true → has_receive e ≡ true) one other

left_has : (d : Disposition) (e : Entry) → HasNoMoreIfAny e (copied_from d e)
left_has MoveReceive (entry.Receive p) = tt
left_has MoveReceive (entry.Send p n) = tt
left_has MoveReceive (entry.ReceiveAndSend p n) = λ h. refl
left_has MoveReceive (entry.SendOnce p) = tt
left_has MoveReceive (entry.DeadName n) = tt
left_has MoveReceive (entry.Set s) = tt
left_has MoveSend (entry.Receive p) = tt
left_has MoveSend (entry.Send p n) = less (entry.Send p n) (entry.Send p) None n (λ h. h) tt
left_has MoveSend (entry.ReceiveAndSend p n) = less (entry.ReceiveAndSend p n) (entry.ReceiveAndSend p) (Some (entry.Receive p)) n (λ h. h) (λ h. h)
left_has MoveSend (entry.SendOnce p) = tt
left_has MoveSend (entry.DeadName n) = less (entry.DeadName n) entry.DeadName None n (λ h. h) tt
left_has MoveSend (entry.Set s) = tt
left_has MoveSendOnce (entry.Receive p) = tt
left_has MoveSendOnce (entry.Send p n) = tt
left_has MoveSendOnce (entry.ReceiveAndSend p n) = tt
left_has MoveSendOnce (entry.SendOnce p) = tt
left_has MoveSendOnce (entry.DeadName n) = less (entry.DeadName n) entry.DeadName None n (λ h. h) tt
left_has MoveSendOnce (entry.Set s) = tt
left_has CopySend (entry.Receive p) = tt
left_has CopySend (entry.Send p n) = λ h. h
left_has CopySend (entry.ReceiveAndSend p n) = λ h. h
left_has CopySend (entry.SendOnce p) = tt
left_has CopySend (entry.DeadName n) = λ h. h
left_has CopySend (entry.Set s) = tt
left_has MakeSend (entry.Receive p) = λ h. h
left_has MakeSend (entry.Send p n) = tt
left_has MakeSend (entry.ReceiveAndSend p n) = λ h. h
left_has MakeSend (entry.SendOnce p) = tt
left_has MakeSend (entry.DeadName n) = tt
left_has MakeSend (entry.Set s) = tt
left_has MakeSendOnce (entry.Receive p) = λ h. h
left_has MakeSendOnce (entry.Send p n) = tt
left_has MakeSendOnce (entry.ReceiveAndSend p n) = λ h. h
left_has MakeSendOnce (entry.SendOnce p) = tt
left_has MakeSendOnce (entry.DeadName n) = tt
left_has MakeSendOnce (entry.Set s) = tt

had_receive : (e : Entry) (o : Option Entry) → IfSome o (λ left. (p : ℕ) → port_named left ≡ Some p → port_named e ≡ Some p) → HasNoMore e o → (p : ℕ) → IsReceive o p → IsReceive (Some e) p
had_receive e None named has p i = absurd (none_receives p i)
had_receive e (Some x) named has p i = grind (arith, same_found)

left_receive : (d : Disposition) (e : Entry) (k : Copied) → copied_from d e ≡ Some k → (p : ℕ) → IsReceive k.left p → IsReceive (Some e) p
left_receive d e k is = had_receive e k.left (keeps d e k is).named (subst (HasNoMoreIfAny e) is (left_has d e))

-- ---- ports

holder_copied : (d : Disposition) (v : PortView Kept) → (view_copied d v).attributes.holder ≡ v.attributes.holder
holder_copied MoveReceive v = refl
holder_copied MoveSend v = refl
holder_copied MoveSendOnce v = refl
holder_copied CopySend v = refl
holder_copied MakeSend v = refl
holder_copied MakeSendOnce v = refl

port_holders : (d : Disposition) (p : ℕ) (ports : PortsView Kept) (o : Option (PortView Kept)) → map.get ports.ports p ≡ o → KeepHolders ports.ports (port_copied d p ports o).ports
port_holders d p ports None is = same_holders ports.ports
port_holders d p ports (Some v) is = put_holders ports.ports p v (view_copied d v) is (holder_copied d v)

pub copied_ports : (d : Disposition) (m : Mark) (ports : PortsView Kept) → KeepHolders ports.ports (ports_copied d m ports).ports
copied_ports MakeSend (mark.Port p) ports = port_holders MakeSend p ports (map.get ports.ports p) refl
copied_ports MoveReceive (mark.Port p) ports = port_holders MoveReceive p ports (map.get ports.ports p) refl
copied_ports MoveSend (mark.Port p) ports = same_holders ports.ports
copied_ports MoveSendOnce (mark.Port p) ports = same_holders ports.ports
copied_ports CopySend (mark.Port p) ports = same_holders ports.ports
copied_ports MakeSendOnce (mark.Port p) ports = same_holders ports.ports
copied_ports MakeSend mark.Null ports = same_holders ports.ports
copied_ports MoveReceive mark.Null ports = same_holders ports.ports
copied_ports MoveSend mark.Null ports = same_holders ports.ports
copied_ports MoveSendOnce mark.Null ports = same_holders ports.ports
copied_ports CopySend mark.Null ports = same_holders ports.ports
copied_ports MakeSendOnce mark.Null ports = same_holders ports.ports
copied_ports MakeSend mark.Dead ports = same_holders ports.ports
copied_ports MoveReceive mark.Dead ports = same_holders ports.ports
copied_ports MoveSend mark.Dead ports = same_holders ports.ports
copied_ports MoveSendOnce mark.Dead ports = same_holders ports.ports
copied_ports CopySend mark.Dead ports = same_holders ports.ports
copied_ports MakeSendOnce mark.Dead ports = same_holders ports.ports

-- ---- in the tables

pub copied_holders : (old new : WorldView) (task : ℕ) (d : Disposition) (name : ℕ) (one : Mark) → CopiesRight old task d name one new → HoldersAgree old → HoldersAgree new
copied_holders old new task d name one c a = holders_left old new a task c.space (record c.space { names = put c.space.names name c.copied.left }) c.there (ap (λ (w : WorldView). w.spaces) c.rest)
    (left_receives c.space.names name c.copied.left (λ p i. receives_at (λ n. map.get c.space.names n) name p
    (subst (λ (o : Option Entry). IsReceive o p) (sym c.found) (left_receive d c.entry c.copied c.is p i))))
    (subst (λ (x : PortsView Kept). KeepHolders old.ports.ports x.ports) (sym (ap (λ (w : WorldView). w.ports) c.rest)) (copied_ports d c.copied.mark old.ports))

either : (b : Bool) (X Y P : Type 0) → MatchBool b X Y → (X → P) → (Y → P) → P
either true X Y P m f g = f m
either false X Y P m f g = g m

pub word_holders : (old new : WorldView) (task : ℕ) (w : PortWord) (c : Carried) → ChangesWord old task w c new → HoldersAgree old → HoldersAgree new
word_holders old new task w c changes a = grind (arith, either, copied_holders)

pub words_holders : (ws : List PortWord) (cs : List Carried) (old new : WorldView) (task : ℕ) → ChangesWords old task ws cs new → HoldersAgree old → HoldersAgree new
words_holders [] [] old new task same a = subst HoldersAgree (sym same) a
words_holders (w ∷ ws) (c ∷ cs) old new task h a = words_holders ws cs h.0 new task h.2 (word_holders old h.0 task w c h.1 a)
words_holders [] (c ∷ cs) old new task h a = absurd h
words_holders (w ∷ ws) [] old new task h a = absurd h

-- a message that was sent, where no name has the receive rights any more that it carries
pub commits_holders : (old : WorldView) (task : ℕ) (parsed : Parsed) (written : WireBody) (j : Judged old task parsed written) (bytes : List ℕ) (new : WorldView) →
    (c : Commits old task parsed written j bytes new) → ((p : ℕ) → Contains j.rights (receive_right p) → (u : ℕ) → ReceivesAt c.mid u p → ⊥) → HoldersAgree old → HoldersAgree new
commits_holders old task parsed written j bytes new c gone a =
    let before = words_holders (destination_word parsed ∷ reply_words parsed ++ body_words written) (j.destination ∷ option_list j.reply ++ j.rights) old c.mid task c.changes a in
    holders_ports c.held new (held_holders j.port j.rights c.mid c.held c.holds gone before) (ap (λ (w : WorldView). w.spaces) c.rest)
    (subst (λ (w : WorldView). KeepHolders c.held.ports.ports w.ports.ports) (sym c.rest) (put_holders c.held.ports.ports j.port c.v _ c.there refl))

-- ---- Copying in queues no receive right, so queues hold those that they held. A message that is sent brings those that it carries.

-- ---- ports

queue_copied : (d : Disposition) (v : PortView Kept) (m : Kept) → Contains (view_copied d v).queue m → Contains v.queue m
queue_copied MoveReceive v m c = c
queue_copied MakeSend v m c = c
queue_copied d v m c = c

port_queues : (d : Disposition) (p : ℕ) (ports : PortsView Kept) (o : Option (PortView Kept)) → map.get ports.ports p ≡ o → KeepQueues ports.ports (port_copied d p ports o).ports
port_queues d p ports None is = same_queues ports.ports
port_queues d p ports (Some v) is = put_queue ports.ports p v (view_copied d v) is (queue_copied d v)

copied_queues : (d : Disposition) (m : Mark) (ports : PortsView Kept) → KeepQueues ports.ports (ports_copied d m ports).ports
copied_queues MakeSend (mark.Port p) ports = port_queues MakeSend p ports (map.get ports.ports p) refl
copied_queues MakeSend mark.Null ports = same_queues ports.ports
copied_queues MakeSend mark.Dead ports = same_queues ports.ports
copied_queues MoveReceive (mark.Port p) ports = port_queues MoveReceive p ports (map.get ports.ports p) refl
copied_queues MoveReceive mark.Null ports = same_queues ports.ports
copied_queues MoveReceive mark.Dead ports = same_queues ports.ports
copied_queues MoveSend m ports = same_queues ports.ports
copied_queues MoveSendOnce m ports = same_queues ports.ports
copied_queues CopySend m ports = same_queues ports.ports
copied_queues MakeSendOnce m ports = same_queues ports.ports

-- ---- in the tables

pub copied_carriers : (old new : WorldView) (task : ℕ) (d : Disposition) (name : ℕ) (one : Mark) → CopiesRight old task d name one new → CarriersAgree old → CarriersAgree new
copied_carriers old new task d name one c a =
    let ports : new.ports ≡ ports_copied d c.copied.mark old.ports = ap (λ (w : WorldView). w.ports) c.rest in
    let made : new.ports.made ≡ old.ports.made = ap (λ (x : PortsView Kept). x.made) (ports ∙ else_copied d c.copied.mark old.ports) in
    carriers_stay old new a (omega (arith, made))
    (subst (λ (x : PortsView Kept). KeepQueues old.ports.ports x.ports) (sym ports) (copied_queues d c.copied.mark old.ports))
    (subst (λ (x : PortsView Kept). KeepHolders old.ports.ports x.ports) (sym ports) (copied_ports d c.copied.mark old.ports))

abbrev CarryStill : WorldView → WorldView → Type 0
CarryStill old new = CarriersAgree old → CarriersAgree new

carriers_kept : IsKept CarryStill
carriers_kept = record {
  same = λ w a. a;
  right = copied_carriers;
  both = λ old mid new a b x. b (a x);
}

-- ---- a receive right that leaves its name

no_copied : (k : Copied) → None ≡ Some k → ⊥
no_copied k e = cc

-- It stood there.
port_is : (x k : Copied) (q p : ℕ) → Some x ≡ Some k → x.mark ≡ mark.Port q → k.mark ≡ mark.Port p → Some q ≡ Some p
port_is x k q p is from to = grind (arith, same_found)

stood : (e : Entry) (k : Copied) (p : ℕ) → copied_from MoveReceive e ≡ Some k → k.mark ≡ mark.Port p → (port_named e ≡ Some p) × (has_receive e ≡ true)
stood (entry.Receive q) k p is to = (port_is (record { left = None; mark = mark.Port q }) k q p is refl to, refl)
stood (entry.ReceiveAndSend q n) k p is to = (port_is (record { left = Some (entry.Send q n); mark = mark.Port q }) k q p is refl to, refl)
stood (entry.Send q n) k p is to = absurd (no_copied k is)
stood (entry.SendOnce q) k p is to = absurd (no_copied k is)
stood (entry.DeadName n) k p is to = absurd (no_copied k is)
stood (entry.Set s) k p is to = absurd (no_copied k is)

-- No queue has the receive right of a port that is there, where that stands under a name ...
pub named_uncarried : (w : WorldView) → HoldersAgree w → CarriersAgree w → (task name : ℕ) (e : Entry) (p : ℕ) → entry_at w task name ≡ Some e → port_named e ≡ Some p → has_receive e ≡ true →
    IsLive w.ports p → (q : ℕ) → IsCarried w q p → ⊥
named_uncarried w held a task name e p found named has lives q c =
    let v = port_got (port_at w p) lives in
    apart (sym (held.held task name e p found named has v.0 v.1) ∙ a.carried q c.u c.message p c.there c.queued c.carries v.0 v.1)
  where
    apart : by.Task task ≡ by.QueueOf q → ⊥
    apart same = cc

-- ... nor once it was copied in, until it is given.
pub copied_uncarried : (old new : WorldView) (task name p : ℕ) → CopiesRight old task MoveReceive name (mark.Port p) new → HoldersAgree old → CarriersAgree old → IsLive old.ports p →
    (q : ℕ) → IsCarried new q p → ⊥
copied_uncarried old new task name p c held a lives q carried =
    let found : entry_at old task name ≡ Some c.entry = ap (λ (o : Option SpaceView). entry_in o name) c.there ∙ c.found in
    let was = stood c.entry c.copied p c.is (sym c.mark_is) in
    let queued = subst (λ (x : WorldView). KeepQueues old.ports.ports x.ports.ports) (sym c.rest) (copied_queues MoveReceive c.copied.mark old.ports) q carried.u carried.message carried.there carried.queued in
    named_uncarried old held a task name c.entry p found was.0 was.1 lives q (record { u = queued.v; there = queued.there; message = carried.message; queued = queued.queued; carries = carried.carries })

-- ---- what a message carries

word_uncarried : (old new : WorldView) (task : ℕ) (w : PortWord) (ws : List PortWord) (c : Carried) (cs : List Carried) → CanGo old task (w ∷ ws) (c ∷ cs) → ChangesWord old task w c new →
    HoldersAgree old → CarriersAgree old → (p : ℕ) → c ≡ receive_right p → (q : ℕ) → IsCarried new q p → ⊥
word_uncarried old new task w ws c cs go changes held a p is q carried = elim (eqb_tells w.name null_word) [
  | inl n ↦ null_no_port p (sym (rw n.0 at go.copies.1).1 ∙ to)
  | inr n ↦ elim (eqb_tells w.name dead_word) [
    | inl d ↦ dead_no_port p (sym (rw (n.0, d.0) at go.copies.1).1 ∙ to)
    | inr d ↦
        let r : CopiesRight old task c.given w.name c.mark new = rw (n.0, d.0) at changes in
        copied_uncarried old new task w.name p (subst (λ (x : Carried). CopiesRight old task x.given w.name x.mark new) is r) held a (mark_lives old task w ws c cs go p to) q carried
  ]
]
  where
    to : c.mark ≡ mark.Port p
    to = ap (λ (x : Carried). x.mark) is

abbrev QueuesStill : WorldView → WorldView → Type 0
QueuesStill old new = KeepQueues old.ports.ports new.ports.ports

queues_kept : IsKept QueuesStill
queues_kept = record {
  same = λ w. same_queues w.ports.ports;
  right = λ old new task d name one c. subst (λ (x : WorldView). KeepQueues old.ports.ports x.ports.ports) (sym c.rest) (copied_queues d c.copied.mark old.ports);
  both = λ old mid new a b q v m there queued. let i = b q v m there queued in a q i.v m i.there i.queued;
}

carried_before : (old new : WorldView) (q p : ℕ) → QueuesStill old new → IsCarried new q p → IsCarried old q p
carried_before old new q p kept c = grind (arith, kept q c.u c.message c.there c.queued)

-- Once the rights went, no queue has one of them that is a receive right.
words_uncarried : (ws : List PortWord) (cs : List Carried) (old new : WorldView) (task : ℕ) → CanGo old task ws cs → ChangesWords old task ws cs new →
    HoldersAgree old → CarriersAgree old → (p : ℕ) → Contains cs (receive_right p) → (q : ℕ) → IsCarried new q p → ⊥
words_uncarried [] [] old new task go changes held a p among q carried = absurd (none_listed [] refl (receive_right p) among)
words_uncarried [] (c ∷ cs) old new task go changes held a p among q carried = absurd changes
words_uncarried (w ∷ ws) [] old new task go changes held a p among q carried = absurd changes
words_uncarried (w ∷ ws) (c ∷ cs) old new task go changes held a p among q carried =
    let mid = changes.0 in
    elim (Contains-append_cases (c ∷ []) cs (receive_right p) among) [
      | inl own ↦ word_uncarried old mid task w ws c cs go changes.1 held a p (sym (listed_one c (receive_right p) own)) q
          (carried_before mid new q p (over_words QueuesStill queues_kept ws cs mid new task changes.2) carried)
      | inr later ↦ words_uncarried ws cs mid new task (go_on old mid task w ws c cs go changes.1) changes.2 (word_holders old mid task w c changes.1 held)
          (over_word CarryStill carriers_kept old mid task w c changes.1 a) p later q carried
    ]

module _ (old : WorldView) (task : ℕ) (parsed : Parsed) (written : WireBody) (j : Judged old task parsed written) (bytes : List ℕ) (new : WorldView)
    (c : Commits old task parsed written j bytes new) (tied : AreTied j.space.names old.ports old.ledger) (few : old.ledger.total + made_in j ≤ most_rights)
    (held : HoldersAgree old) (a : CarriersAgree old) (made : (p : ℕ) → IsLive c.mid.ports p → p < c.mid.ports.made) where
  abbrev words : List PortWord
  words = destination_word parsed ∷ reply_words parsed ++ body_words written

  abbrev rights : List Carried
  rights = j.destination ∷ option_list j.reply ++ j.rights

  goes : CanGo old task words rights
  goes = subst (λ (cs : List Carried). CanGo old task words (j.destination ∷ cs ++ j.rights)) (same_options j.reply) (judged_go old task parsed written j tied few)

  among_all : (x : Carried) → Contains j.rights x → Contains rights x
  among_all x among = listed_later j.destination (option_list j.reply ++ j.rights) x (Contains-append_right (option_list j.reply) j.rights x among)

  free : (p : ℕ) → Contains j.rights (receive_right p) → (q : ℕ) → IsCarried c.mid q p → ⊥
  free p among = words_uncarried words rights old c.mid task goes c.changes held a p (among_all (receive_right p) among)

  before : CarriersAgree c.held
  before = held_carriers j.port j.rights c.mid c.held c.holds free (over_words CarryStill carriers_kept words rights old c.mid task c.changes a)

  made_before : (p : ℕ) → Contains j.rights (receive_right p) → p < c.held.ports.made
  made_before p among = grind (
    arith,
    made p (words_live old c.mid task words rights goes c.changes (receive_right p) (among_all (receive_right p) among) p refl),
    held_made j.port j.rights c.mid c.held c.holds,
  )

  -- a message that was sent
  pub commits_carriers : CarriersAgree new
  commits_carriers = carriers_queued c.held new before j.port c.v (record c.v { queue = c.v.queue ++ message_for bytes j ∷ [] }) (message_for bytes j) c.there
      (ap (λ (w : WorldView). w.ports.made) c.rest) (ap (λ (w : WorldView). w.ports.ports) c.rest) refl refl
      (λ p carries. (made_before p carries, all_held j.port j.rights c.mid c.held c.holds p carries))

-- ---- A right that is made from one that stays leaves the tables' names as they were.

abbrev LeavesIfAny : Entry → Option Copied → Type 0
LeavesIfAny e None = Unit {0}
LeavesIfAny e (Some k) = k.left ≡ Some e

leaves_if_any : (d : Disposition) (e : Entry) → makes_right d ≡ true → LeavesIfAny e (copied_from d e)
leaves_if_any MoveReceive e makes = absurd (cc)
leaves_if_any MoveSend e makes = absurd (cc)
leaves_if_any MoveSendOnce e makes = absurd (cc)
leaves_if_any CopySend (entry.Receive p) makes = tt
leaves_if_any CopySend (entry.Send p n) makes = refl
leaves_if_any CopySend (entry.ReceiveAndSend p n) makes = refl
leaves_if_any CopySend (entry.SendOnce p) makes = tt
leaves_if_any CopySend (entry.DeadName n) makes = refl
leaves_if_any CopySend (entry.Set s) makes = tt
leaves_if_any MakeSend (entry.Receive p) makes = refl
leaves_if_any MakeSend (entry.Send p n) makes = tt
leaves_if_any MakeSend (entry.ReceiveAndSend p n) makes = refl
leaves_if_any MakeSend (entry.SendOnce p) makes = tt
leaves_if_any MakeSend (entry.DeadName n) makes = tt
leaves_if_any MakeSend (entry.Set s) makes = tt
leaves_if_any MakeSendOnce (entry.Receive p) makes = refl
leaves_if_any MakeSendOnce (entry.Send p n) makes = tt
leaves_if_any MakeSendOnce (entry.ReceiveAndSend p n) makes = refl
leaves_if_any MakeSendOnce (entry.SendOnce p) makes = tt
leaves_if_any MakeSendOnce (entry.DeadName n) makes = tt
leaves_if_any MakeSendOnce (entry.Set s) makes = tt

pub leaves : (d : Disposition) (e : Entry) (k : Copied) → makes_right d ≡ true → copied_from d e ≡ Some k → k.left ≡ Some e
leaves d e k makes is = subst (LeavesIfAny e) is (leaves_if_any d e makes)

-- what stands there, put there again
put_same : (names : Names) (name : ℕ) (e : Entry) → map.get names name ≡ Some e → put names name (Some e) ≡ names
put_same names name e found = map.same_map nat_cmp_total map.nat_cmp-IsAntisymmetric _ _ (λ q. elim (eqb_tells q name) [
  | inl h ↦ ap (map.get (put names name (Some e))) h.1 ∙ get_put names name (Some e) ∙ sym found ∙ ap (map.get names) (sym h.1)
  | inr h ↦ get_put_other names name (Some e) q h.1
])

set_same : (xs : List (Option SpaceView)) (i : ℕ) (x : SpaceView) → space_in xs i ≡ Some x → slice_set xs i (Some x) ≡ xs
set_same [] i x is = refl
set_same (o ∷ ys) zero x is = let e : Some x ≡ o = sym is in ap (λ z. z ∷ ys) e
set_same (o ∷ ys) (suc i) x is = ap (λ zs. o ∷ zs) (set_same ys i x is)

pub stays_put : (w : WorldView) (task name : ℕ) (c : Carried) (can : CanCopy w task name c) → makes_right c.given ≡ true → PutsLeft w task name can.copied.left w
stays_put w task name c can makes =
    let all : can.copied.left ≡ Some can.entry = leaves c.given can.entry can.copied makes can.is in
    let names_are : put can.space.names name can.copied.left ≡ can.space.names = ap (put can.space.names name) all ∙ put_same can.space.names name can.entry can.found in
    let space_is : ◌≡◌ {A = SpaceView} (record can.space { names = put can.space.names name can.copied.left }) can.space = ap (λ (m : Names). record can.space { names = m }) names_are in
    let spaces_are : slice_set w.spaces task (Some (record can.space { names = put can.space.names name can.copied.left })) ≡ w.spaces =
    ap (λ (x : SpaceView). slice_set w.spaces task (Some x)) space_is ∙ set_same w.spaces task can.space can.there in
    record {
      space = can.space;
      there = can.there;
      -- where something is left, no request ends
      rest = λ i. record w { spaces = sym spaces_are i; requests = requests_after w.requests task name (sym all i) };
    }
