-- A plan is carried out.
use Rattle.std.proofs.Common.{◌≡◌, ℕ, ◌<◌, ◌≤◌, true, Option, Some, None, List, [], ◌∷◌, refl, sym, ap, subst, ◌∙◌, inl, inr, arith, zero, ◌+◌, ◌-◌, false, suc, length, get_or, Bool, ◌⊎◌}
use Rattle.std.specs.Prelude.{is_some, ◌≢◌, ◌++◌, Contains, max, if◌then◌else◌, ◌==◌}
use Rattle.std.specs.Option.{unwrap_or, option_to_list}
use Rattle.std.specs.FinMap as map
use Rattle.std.proofs.lemmas.Bool.Decides.{eqb_tells}
use Rattle.std.proofs.lemmas.List.Elements.{Contains-append_cases, All-contains_itself}
use Rattle.std.proofs.lemmas.List.{nil_from_length}
use Rattle.mach_types.specs.declared.rights.Disposition.{Disposition}
use Rattle.mach_types.specs.declared.rights.Disposition.TheVariants.{MoveReceive, MoveSend, MoveSendOnce, CopySend, MakeSend, MakeSendOnce}
use Rattle.mach_types.specs.Numbers.{kind_sent, null_word, dead_word, most_rights}
use Rattle.mach_types.specs.Tokens.{send_once, same_kind, receive}
use Rattle.mach_types.specs.Messages.{Message}
use Rattle.mach_types.specs.Grammar.{WireBody, Wire, data_item, port_item, raw, items}
use Rattle.mach_model.proofs.Names.{get_own, pos_or_zero}
use Rattle.mach_model.specs.Carried.{mark_count, rights_count, message_count}
use Rattle.mach_model.proofs.Walks.{Through-append}
use Rattle.message_codec.specs.declared.words.PortWord.{PortWord}
use Rattle.message_codec.specs.declared.text.Parsed.{Parsed}
use Rattle.message_codec.specs.Words.{body_words, items_words}
use Rattle.message_codec.specs.declared.spans.Span.{Span}
use Rattle.message_codec.specs.Short.{one_word_span}
use Rattle.message_codec.specs.Spans.{spans_at, body_spans}
use Rattle.rights.specs.declared.RightKind.{RightKind}
use Rattle.rights.specs.declared.RightKind.TheVariants.{Send, SendOnce}
use Rattle.rights.specs.Counts.{no_rights, with_more}
use Rattle.rights.specs.Ledger.{LedgerView, IsEntered, counts_of, made}
use Rattle.rights.specs.Unused.{IsUnusedOfAll}
use Rattle.name_space.specs.declared.Entry.{Entry}
use Rattle.name_space.specs.declared.Entry.TheVariants as entry
use Rattle.name_space.specs.Names.{SpaceView, Names}
use Rattle.port.specs.Ports.{PortView, PortsView, IsLive, with_port}
use Rattle.copyin_base.specs.declared.Carried.{Carried}
use Rattle.copyin_base.specs.declared.Mark.{Mark}
use Rattle.copyin_base.specs.declared.Mark.TheVariants as mark
use Rattle.copyin_base.specs.Stands.{IsTied, AreTied}
use Rattle.copyin_base.specs.Worlds.{WorldView, space_at, NoneLost, space_in, port_at, put}
use Rattle.copyin_base.proofs.Putting.{each_put}
use Rattle.copyin_base.specs.Kept.{Kept, Keeps, mark_of}
use Rattle.copyin_base.specs.Shows.{CarriesReceive, SlotsSuffice}
use Rattle.copyin_base.proofs.Listed.{none_listed, listed_one, listed_later}
use Rattle.copyin_base.proofs.KeptEntries.{rights_of, message_counted, receive_right, one_counted, own_counted}
use Rattle.copyin_base.specs.Wanted.{room_in, room_of}
use Rattle.copyin_base.proofs.Spaces.{each-space-set}
use Rattle.copyin_base.proofs.Slots.{slot_for_once}
use Rattle.copyin_base.specs.Carrying.{spans_for}
use Rattle.dispositions.specs.declared.Copied.{Copied}
use Rattle.dispositions.specs.Copies.{copied_from}
use Rattle.copyin.specs.Copies.{ledger_copied, CopiesRight, ports_copied, ledger_queued}
use Rattle.copyin.specs.Plans.{ChangesWord, ChangesWords, destination_word, reply_words, Judged, Commits, option_list, made_in}
use Rattle.copyin.specs.Judging.{CopiesWord, CopiesReply, made_by_reply, made_by_all}
use Rattle.copyin.specs.Loops.{HoldsRights}
use Rattle.copyin.specs.Planned.{CanGo, CopiesAll, CanHoldAll, IsPlan, PlanView}
use Rattle.copyin.specs.Short.{CopiesBeside, IsShortPlan, body_word, reply_word, short_view}
use Rattle.copyin.specs.declared.short.ShortPlan.{ShortPlan}
use Rattle.copyin.proofs.Going.{go_on}
use Rattle.copyin.proofs.Judging.{by_name, goes_by_name, word_given, number_of}
use Rattle.copyin.proofs.Holding.{receive_is, held_spaces, held_spare, held_ledger}
use Rattle.copyin.proofs.Keeping.{keeps, live_copied, spare_copied}
use Rattle.copyin.proofs.Copying.{words_none_lost}
use Rattle.copyin.specs.Slots.{once_made_by_mark, once_made_by, once_made_by_reply, once_made_by_all, own_slot, slots_for}
use Rattle.copyin.specs.declared.judge.Head.{Head}
use Rattle.copyin.specs.declared.judge.Rights.{Rights}
use Rattle.copyin.specs.Goes.{IsHead, message_with}

-- ---- A message that goes by a send-once right: once all its rights went, its port has one that no queued message goes by.

-- a port with a right has its counts
pub some_entered : (l : LedgerView) (p : ℕ) → 0 < (counts_of l p).send_once → IsEntered l p
some_entered l p = grind arith

-- ---- none goes as rights are copied in

more_made : (l : LedgerView) (q : ℕ) (kind : RightKind) (p : ℕ) → (counts_of l q).send_once ≤ (with_more kind 1 (counts_of l q)).send_once →
    (counts_of l p).send_once ≤ (counts_of (made l q kind 1) p).send_once
more_made l q kind p own =
    each_put l.counts q (Some (with_more kind 1 (counts_of l q))) (λ n o. (counts_of l n).send_once ≤ (unwrap_or o no_rights).send_once) own (λ n not. omega arith) p

more_copied : (d : Disposition) (m : Mark) (l : LedgerView) (p : ℕ) → (counts_of l p).send_once ≤ (counts_of (ledger_copied d m l) p).send_once
more_copied MoveReceive m l p = omega arith
more_copied MoveSend m l p = omega arith
more_copied MoveSendOnce m l p = omega arith
more_copied CopySend (mark.Port q) l p = more_made l q Send p (omega arith)
more_copied CopySend mark.Null l p = omega arith
more_copied CopySend mark.Dead l p = omega arith
more_copied MakeSend (mark.Port q) l p = more_made l q Send p (omega arith)
more_copied MakeSend mark.Null l p = omega arith
more_copied MakeSend mark.Dead l p = omega arith
more_copied MakeSendOnce (mark.Port q) l p = more_made l q SendOnce p (omega arith)
more_copied MakeSendOnce mark.Null l p = omega arith
more_copied MakeSendOnce mark.Dead l p = omega arith

as_many : (old new : WorldView) (p : ℕ) → new ≡ old → (counts_of old.ledger p).send_once ≤ (counts_of new.ledger p).send_once
as_many old new p e = subst (λ (x : WorldView). (counts_of old.ledger p).send_once ≤ (counts_of x.ledger p).send_once) (sym e) (omega arith)

more_word : (old new : WorldView) (task : ℕ) (w : PortWord) (c : Carried) → ChangesWord old task w c new → (p : ℕ) → (counts_of old.ledger p).send_once ≤ (counts_of new.ledger p).send_once
more_word old new task w c ch p = grind (arith, as_many, more_copied)

pub more_words : (old new : WorldView) (task : ℕ) (ws : List PortWord) (cs : List Carried) → ChangesWords old task ws cs new → (p : ℕ) →
    (counts_of old.ledger p).send_once ≤ (counts_of new.ledger p).send_once
more_words old new task [] [] ch p = as_many old new p ch
more_words old new task [] (c ∷ cs) ch p = absurd ch
more_words old new task (w ∷ ws) [] ch p = absurd ch
more_words old new task (w ∷ ws) (c ∷ cs) ch p = grind (arith, more_words ch.0 new task ws cs ch.2 p, more_word)

-- ---- the destination's right is one

the_port : (p q : ℕ) (m : Mark) → m ≡ mark.Port p → m ≡ mark.Port q → p ≡ q
the_port p q m a b = let e : mark.Port p ≡ mark.Port q = sym a ∙ b in cc

no_copied : (k : Copied) → None ≡ Some k → ⊥
no_copied k e = cc

the_copied : (a b : Copied) → Some a ≡ Some b → a ≡ b
the_copied a b e = cc

once_copied : (d : Disposition) (e : Entry) (k : Copied) (p : ℕ) (l : LedgerView) → copied_from d e ≡ Some k → same_kind (kind_sent d) send_once ≡ true → k.mark ≡ mark.Port p →
    ((q : ℕ) → e ≡ entry.SendOnce q → 0 < (counts_of l q).send_once) → 0 < (counts_of (ledger_copied d k.mark l) p).send_once
once_copied MoveReceive e k p l is once to own = absurd (cc)
once_copied MoveSend e k p l is once to own = absurd (cc)
once_copied CopySend e k p l is once to own = absurd (cc)
once_copied MakeSend e k p l is once to own = absurd (cc)
once_copied MakeSendOnce e k p l is once to own = grind (arith, get_own)
once_copied MoveSendOnce (entry.SendOnce q) k p l is once to own = grind (arith, the_copied, the_port)
once_copied MoveSendOnce (entry.DeadName n) k p l is once to own = grind (arith, the_copied)
once_copied MoveSendOnce (entry.Receive q) k p l is once to own = absurd (no_copied k is)
once_copied MoveSendOnce (entry.Send q n) k p l is once to own = absurd (no_copied k is)
once_copied MoveSendOnce (entry.ReceiveAndSend q n) k p l is once to own = absurd (no_copied k is)
once_copied MoveSendOnce (entry.Set s) k p l is once to own = absurd (no_copied k is)

-- once the word's right went, and others after it
module _ (old : WorldView) (task : ℕ) (tied : IsTied old task) (space : SpaceView) (there : space_at old task ≡ Some space) (w : PortWord) (c : Carried) (e : Entry)
    (found : map.get space.names w.name ≡ Some e) (once : same_kind (kind_sent c.given) send_once ≡ true) (p : ℕ) (to : c.mark ≡ mark.Port p) where
  nothing : (n : ℕ) → map.get space.names n ≡ None → w.name ≡ n → ⊥
  nothing n none is = let f : None ≡ Some e = sym none ∙ ap (λ (m : ℕ). map.get space.names m) (sym is) ∙ found in cc

  pub once_went : (new : WorldView) → ChangesWord old task w c new → 0 < (counts_of new.ledger p).send_once
  once_went new ch = elim (eqb_tells w.name null_word) [
    | inl n ↦ absurd (nothing null_word (tied.tied space there).not_null n.1)
    | inr n ↦ elim (eqb_tells w.name dead_word) [
      | inl d ↦ absurd (nothing dead_word (tied.tied space there).not_dead d.1)
      | inr d ↦ right (rw (n.0, d.0) at ch)
    ]
  ]
    where
      right : CopiesRight old task c.given w.name c.mark new → 0 < (counts_of new.ledger p).send_once
      right r = subst (λ (x : WorldView). 0 < (counts_of x.ledger p).send_once) (sym r.rest)
          (once_copied c.given r.entry r.copied p old.ledger r.is once (sym r.mark_is ∙ to) (λ q is. tied.unused r.space r.there w.name q (r.found ∙ ap Some is)))

  pub once_stays : (one new : WorldView) → ChangesWord old task w c one → (ws : List PortWord) (cs : List Carried) → ChangesWords one task ws cs new → 0 < (counts_of new.ledger p).send_once
  once_stays one new ch ws cs others = let a = once_went one ch in let b = more_words one new task ws cs others p in omega (arith, a, b)

-- ---- Receive rights among those that a message carries, as the tables and as the machine have them.

some_carried : (cs : List Carried) (p : ℕ) → 0 < rights_count receive p (rights_of cs) → Contains cs (receive_right p)
some_carried [] p some = absurd (omega (arith, some))
some_carried (c ∷ cs) p some = elim (pos_or_zero (mark_count receive p (kind_sent c.given) (mark_of c.mark))) [
  | inl none ↦ listed_later c cs (receive_right p) (some_carried cs p (omega (arith, some, none)))
  | inr own ↦ (zero, omega arith, one_counted c.given c.mark p own)
]

carried_some : (cs : List Carried) (p : ℕ) → Contains cs (receive_right p) → 0 < rights_count receive p (rights_of cs)
carried_some [] p among = absurd (none_listed [] refl (receive_right p) among)
carried_some (c ∷ cs) p among = elim (Contains-append_cases (c ∷ []) cs (receive_right p) among) [
  | inl own ↦ let one = own_counted c p (sym (listed_one c (receive_right p) own)) in omega (arith, one)
  | inr later ↦ let some = carried_some cs p later in omega (arith, some)
]

no_reply : (o : Option Carried) (cs : List Carried) (p : ℕ) → ((c : Carried) → o ≡ Some c → c.given ≢ MoveReceive) → rights_count receive p (rights_of (option_to_list o ++ cs)) ≡ rights_count receive p (rights_of cs)
no_reply None cs p sent = refl
no_reply (Some c) cs p sent = elim (pos_or_zero (mark_count receive p (kind_sent c.given) (mark_of c.mark))) [
  | inl none ↦ omega (arith, none)
  | inr own ↦ absurd (sent c refl (ap (λ (x : Carried). x.given) (one_counted c.given c.mark p own)))
]

module _ (q : ℕ) (m : Kept) (x : Message) (keeps : Keeps q m x) (p : ℕ) where
  -- its receive rights for the port are among its body's
  counted : message_count receive p x ≡ rights_count receive p (rights_of m.rights)
  counted = grind (arith, message_counted q m x keeps receive p, no_reply m.reply m.rights p keeps.reply_sent)

  pub kept_carries : 0 < message_count receive p x → CarriesReceive m p
  kept_carries some = let n = counted in some_carried m.rights p (omega (arith, some, n))

  pub carries_counted : CarriesReceive m p → 0 < message_count receive p x
  carries_counted among = let n = counted in let some = carried_some m.rights p among in omega (arith, n, some)

-- ---- A plan that is carried out.

-- ---- the rights of a plan, in one list

reply_all : (names : Names) (ws : List PortWord) (reply : Option Carried) (after : Names) → CopiesReply names ws reply after → CopiesAll names ws (option_to_list reply) after
reply_all names [] None after so = so
reply_all names [] (Some c) after so = absurd so
reply_all names (w ∷ []) None after so = absurd so
reply_all names (w ∷ []) (Some c) after so = (after, so, refl)
reply_all names (w ∷ v ∷ ws) None after so = absurd so
reply_all names (w ∷ v ∷ ws) (Some c) after so = absurd so

pub all_length : (a b : Names) (ws : List PortWord) (cs : List Carried) → CopiesAll a ws cs b → length ws ≡ length cs
all_length a b [] [] x = refl
all_length a b [] (c ∷ cs) x = absurd x
all_length a b (w ∷ ws) [] x = absurd x
all_length a b (w ∷ ws) (c ∷ cs) x = ap suc (all_length x.0 b ws cs x.2)

made_append : (cs ds : List Carried) → made_by_all (cs ++ ds) ≡ made_by_all cs + made_by_all ds
made_append [] ds = omega arith
made_append (c ∷ cs) ds = let e = made_append cs ds in omega arith

made_option : (reply : Option Carried) → made_by_all (option_to_list reply) ≡ made_by_reply reply
made_option None = refl
made_option (Some c) = omega arith

not_none : {X : Type 0} (o : Option X) (x : X) → o ≡ None → o ≡ Some x → ⊥
not_none o x a b = let e : None ≡ Some x = sym a ∙ b in cc

-- The rights that were judged go, one after the other.
module _ (w : WorldView) (task : ℕ) (parsed : Parsed) (written : WireBody) (j : Judged w task parsed written) (tied : AreTied j.space.names w.ports w.ledger) where
  first_word : CopiesWord j.space.names (destination_word parsed) j.destination j.first
  first_word = grind (arith, goes_by_name, not_none)

  pub judged_all : CopiesAll j.space.names (destination_word parsed ∷ (reply_words parsed ++ body_words written)) (j.destination ∷ (option_to_list j.reply ++ j.rights)) j.last
  judged_all = (
    j.first,
    first_word,
    Through-append CopiesWord j.first j.second j.last (reply_words parsed) (body_words written) (option_to_list j.reply) j.rights
        (reply_all j.first (reply_words parsed) j.reply j.second j.copies_reply)
        j.copies_body,
  )

  pub judged_go : w.ledger.total + made_in j ≤ most_rights → CanGo w task (destination_word parsed ∷ (reply_words parsed ++ body_words written)) (j.destination ∷ (option_to_list j.reply ++ j.rights))
  judged_go few = record {
    space = j.space;
    there = j.there;
    last = j.last;
    copies = judged_all;
    few =
        let a = made_append (option_to_list j.reply) j.rights in
        let b = made_option j.reply in
        omega (arith, few, a, b);
    tied = tied;
  }

module _ (w : WorldView) (task : ℕ) (parsed : Parsed) (written : WireBody) (bytes : List ℕ) (plan : PlanView) (p : IsPlan w task parsed written bytes plan) (is_tied : IsTied w task) where
  tied : AreTied p.plans.judged.space.names w.ports w.ledger
  tied = is_tied.tied p.plans.judged.space p.plans.judged.there

  reply_is : plan.message.reply ≡ p.plans.judged.reply
  reply_is = ap (λ (m : Kept). m.reply) p.message

  rights_are : plan.message.rights ≡ p.plans.judged.rights
  rights_are = ap (λ (m : Kept). m.rights) p.message

  pub plan_goes : CanGo w task (plan.words.destination ∷ (option_to_list plan.words.reply ++ plan.words.body)) (plan.destination ∷ (option_to_list plan.message.reply ++ plan.message.rights))
  plan_goes = rw (p.words.destination, p.words.reply, p.words.body, p.destination, reply_is, rights_are) (judged_go w task parsed written p.plans.judged tied p.plans.few)

  pub plan_pairs : length (option_to_list plan.words.reply) ≡ length (option_to_list plan.message.reply)
  plan_pairs = grind (arith, reply_is, all_length, reply_all)

  pub plan_lives : IsLive w.ports plan.port
  plan_lives = grind (arith, tied, keeps)

  -- once its rights went, where it goes by a send-once right: its port has one that no queued message goes by
  pub plan_unused : (one two mid : WorldView) → ChangesWord w task plan.words.destination plan.destination one →
      ChangesWords one task (option_to_list plan.words.reply) (option_to_list plan.message.reply) two → ChangesWords two task plan.words.body plan.message.rights mid →
      plan.message.by_once ≡ true → 0 < (counts_of mid.ledger plan.port).send_once
  plan_unused one two mid a b d once =
      let j = p.plans.judged in
      let others = Through-append (λ old w c new. ChangesWord old task w c new) one two mid (option_to_list plan.words.reply) plan.words.body (option_to_list plan.message.reply) plan.message.rights b d in
      subst (λ (q : ℕ). 0 < (counts_of mid.ledger q).send_once) (sym p.port)
      (once_stays w task is_tied j.space j.there (destination_word parsed) j.destination j.copies_destination.entry j.copies_destination.found
      (ap (λ (m : Kept). m.by_once) (sym p.message) ∙ once) j.port j.to_port one mid (rw (p.words.destination, p.destination) at a)
      (option_to_list plan.words.reply ++ plan.words.body) (option_to_list plan.message.reply ++ plan.message.rights) others)

-- A plan is of its own task.
pub own_task : (w : WorldView) (task : ℕ) (parsed : Parsed) (written : WireBody) (bytes : List ℕ) (plan : PlanView) → IsPlan w task parsed written bytes plan
    → IsPlan w plan.task parsed written bytes plan
own_task w task parsed written bytes plan p = subst (λ (t : ℕ). IsPlan w t parsed written bytes plan) (sym p.task_is) p

-- ---- a part of the words

front_all : (a d : Names) (ws vs : List PortWord) (cs ds : List Carried) → length ws ≡ length cs → CopiesAll a (ws ++ vs) (cs ++ ds) d → (b : Names) × CopiesAll a ws cs b
front_all a d [] vs [] ds e x = (a, refl)
front_all a d [] vs (c ∷ cs) ds e x = absurd (omega arith)
front_all a d (w ∷ ws) vs [] ds e x = absurd (omega arith)
front_all a d (w ∷ ws) vs (c ∷ cs) ds e x = let f = front_all x.0 d ws vs cs ds (omega arith) x.2 in (f.0, (x.0, x.1, f.1))

pub front_goes : (w : WorldView) (task : ℕ) (ws vs : List PortWord) (cs ds : List Carried) → length ws ≡ length cs → CanGo w task (ws ++ vs) (cs ++ ds) → CanGo w task ws cs
front_goes w task ws vs cs ds e go =
    let f = front_all go.space.names go.last ws vs cs ds e go.copies in
    record {
      space = go.space;
      there = go.there;
      last = f.0;
      copies = f.1;
      few = let few = go.few in let a = made_append cs ds in omega arith;
      tied = go.tied;
    }

pub rest_goes : (old new : WorldView) (task : ℕ) (ws vs : List PortWord) (cs ds : List Carried) → CanGo old task (ws ++ vs) (cs ++ ds) → ChangesWords old task ws cs new → CanGo new task vs ds
rest_goes old new task [] vs [] ds go ch = subst (λ (x : WorldView). CanGo x task vs ds) (sym ch) go
rest_goes old new task [] vs (c ∷ cs) ds go ch = absurd ch
rest_goes old new task (w ∷ ws) vs [] ds go ch = absurd ch
rest_goes old new task (w ∷ ws) vs (c ∷ cs) ds go ch = rest_goes ch.0 new task ws vs cs ds (go_on old ch.0 task w (ws ++ vs) c (cs ++ ds) go ch.1) ch.2

-- ---- ports stay, and so do spare slots and room for names

record PortsStay (old new : WorldView) : Type 0 where
  live : (p : ℕ) → IsLive old.ports p → IsLive new.ports p
  spare : new.ports.spare ≡ old.ports.spare
  rooms : (u : ℕ) → room_of new u ≡ room_of old u

stay_same : (old new : WorldView) → new ≡ old → PortsStay old new
stay_same old new e = grind arith

stay_word : (old new : WorldView) (task : ℕ) (w : PortWord) (c : Carried) → ChangesWord old task w c new → PortsStay old new
stay_word old new task w c ch = elim (eqb_tells w.name null_word) [
  | inl n ↦ stay_same old new (rw n.0 at ch)
  | inr n ↦ elim (eqb_tells w.name dead_word) [ inl d ↦ stay_same old new (rw (n.0, d.0) at ch) | inr d ↦ right (rw (n.0, d.0) at ch) ]
]
  where
    right : CopiesRight old task c.given w.name c.mark new → PortsStay old new
    right r =
        let is : new.ports ≡ ports_copied c.given r.copied.mark old.ports = ap (λ (x : WorldView). x.ports) r.rest in
        record {
          live = λ p h. subst (λ (ports : PortsView Kept). IsLive ports p) (sym is) (live_copied c.given r.copied.mark old.ports p h);
          spare = ap (λ (ports : PortsView Kept). ports.spare) is ∙ spare_copied c.given r.copied.mark old.ports;
          rooms = λ u. ap (λ (x : WorldView). room_of x u) r.rest
              ∙ each-space-set old.spaces task (record r.space { names = put r.space.names w.name r.copied.left }) r.space r.there (λ i o. room_in o ≡ room_of old i)
              (sym (ap room_in r.there)) (λ i not. refl) u;
        }

stay_words : (old new : WorldView) (task : ℕ) (ws : List PortWord) (cs : List Carried) → ChangesWords old task ws cs new → PortsStay old new
stay_words old new task [] [] ch = stay_same old new ch
stay_words old new task [] (c ∷ cs) ch = absurd ch
stay_words old new task (w ∷ ws) [] ch = absurd ch
stay_words old new task (w ∷ ws) (c ∷ cs) ch = grind (arith, stay_words ch.0 new task ws cs ch.2, stay_word)

-- ---- ports of rights that went

pub null_no_port : (p : ℕ) → mark.Null ≡ mark.Port p → ⊥
null_no_port p e = cc

pub dead_no_port : (p : ℕ) → mark.Dead ≡ mark.Port p → ⊥
dead_no_port p e = cc

-- Each is there.
pub mark_lives : (w : WorldView) (task : ℕ) (word : PortWord) (words : List PortWord) (c : Carried) (cs : List Carried) → CanGo w task (word ∷ words) (c ∷ cs) → (p : ℕ) → c.mark ≡ mark.Port p →
    IsLive w.ports p
mark_lives w task word words c cs go p to = grind (arith, null_no_port, dead_no_port, by_name, keeps)

pub words_live : (old new : WorldView) (task : ℕ) (ws : List PortWord) (cs : List Carried) → CanGo old task ws cs → ChangesWords old task ws cs new → (c : Carried) → Contains cs c → (p : ℕ) → c.mark ≡ mark.Port p →
    IsLive new.ports p
words_live old new task [] [] go ch c among p to = absurd (none_listed [] refl c among)
words_live old new task [] (d ∷ cs) go ch c among p to = absurd ch
words_live old new task (w ∷ ws) [] go ch c among p to = absurd ch
words_live old new task (w ∷ ws) (d ∷ cs) go ch c among p to = elim (Contains-append_cases (d ∷ []) cs c among) [
  | inl own ↦
      let same = listed_one d c own in
      (stay_words old new task (w ∷ ws) (d ∷ cs) ch).live p (mark_lives old task w ws d cs go p (ap (λ (x : Carried). x.mark) (sym same) ∙ to))
  | inr later ↦ words_live ch.0 new task ws cs (go_on old ch.0 task w ws d cs go ch.1) ch.2 c later p to
]

-- ---- the whole

-- The destination's right went, then the reply's, then the body's.
pub record Carries (old : WorldView) (task : ℕ) (plan : PlanView) (mid : WorldView) : Type 0 where
  pub one : WorldView
  pub destination : ChangesWord old task plan.words.destination plan.destination one
  pub two : WorldView
  pub reply : ChangesWords one task (option_to_list plan.words.reply) (option_to_list plan.message.reply) two
  pub body : ChangesWords two task plan.words.body plan.message.rights mid

abbrev pub carries_by : (old one two mid : WorldView) (plan : PlanView) (reply : Option Carried) (words : List PortWord) (rights : List Carried) →
    reply ≡ plan.message.reply → words ≡ plan.words.body → rights ≡ plan.message.rights → ChangesWord old plan.task plan.words.destination plan.destination one →
    ChangesWords one plan.task (option_to_list plan.words.reply) (option_to_list reply) two → ChangesWords two plan.task words rights mid → Carries old plan.task plan mid
carries_by old one two mid plan reply words rights same words_are rights_are a b d = record {
  one = one;
  destination = a;
  two = two;
  reply = subst (λ (o : Option Carried). ChangesWords one plan.task (option_to_list plan.words.reply) (option_to_list o) two) same b;
  body = subst (λ (ws : List PortWord). ChangesWords two plan.task ws plan.message.rights mid) words_are (subst (λ (cs : List Carried). ChangesWords two plan.task words cs mid) rights_are d);
}

-- so it is with a short message
abbrev pub carries_short : (old one new : WorldView) (task : ℕ) (parsed : Parsed) (written : WireBody) (bytes : List ℕ) (plan : ShortPlan) → IsShortPlan old task parsed written bytes plan
    → ChangesWord old plan.task plan.destination.word plan.destination.carried one → (b : CopiesBeside one plan.task plan.port plan.beside new) → Carries old plan.task (short_view plan) b.mid
carries_short old one new task parsed written bytes plan p a b = record {
  one = one;
  destination = a;
  two = b.two;
  reply = subst (λ (o : Option Carried). ChangesWords one plan.task (option_to_list (reply_word plan.beside)) (option_to_list o) b.two) (sym p.reply) b.reply;
  body = subst (λ (cs : List Carried). ChangesWords b.two plan.task (body_word plan.beside) cs b.mid) (sym p.rights) b.body;
}

stay_all : (old mid : WorldView) (task : ℕ) (plan : PlanView) → Carries old task plan mid → PortsStay old mid
stay_all old mid task plan ca = grind (arith, stay_word, stay_words)

pub carries_live : (old mid : WorldView) (task : ℕ) (plan : PlanView) (p : ℕ) → Carries old task plan mid → IsLive old.ports p → IsLive mid.ports p
carries_live old mid task plan p ca h = (stay_all old mid task plan ca).live p h

pub carries_none_lost : (old mid : WorldView) (task : ℕ) (plan : PlanView) → Carries old task plan mid → NoneLost old → NoneLost mid
carries_none_lost old mid task plan ca none =
    words_none_lost plan.words.body plan.message.rights ca.two mid task ca.body
    (words_none_lost (option_to_list plan.words.reply) (option_to_list plan.message.reply) ca.one ca.two task ca.reply
    (words_none_lost (plan.words.destination ∷ []) (plan.destination ∷ []) old ca.one task (ca.one, ca.destination, refl) none))

-- each port is there whose receive right is among the body's
pub carries_can_hold : (old mid : WorldView) (task : ℕ) (plan : PlanView) (ca : Carries old task plan mid) → CanGo ca.two task plan.words.body plan.message.rights → CanHoldAll mid plan.message.rights
carries_can_hold old mid task plan ca go = λ k d below p is.
    let c = get_or plan.message.rights k d in
    words_live ca.two mid task plan.words.body plan.message.rights go ca.body c (All-contains_itself plan.message.rights k d below) p (ap (λ (x : Carried). x.mark) (receive_is c p is))

pub carries_spare : (old mid : WorldView) (task : ℕ) (plan : PlanView) → Carries old task plan mid → mid.ports.spare ≡ old.ports.spare
carries_spare old mid task plan ca = (stay_all old mid task plan ca).spare

pub same_options : (o : Option Carried) → option_to_list o ≡ option_list o
same_options None = refl
same_options (Some c) = refl

some_of : {X : Type 0} (o : Option X) → is_some o ≡ true → (x : X) × (o ≡ Some x)
some_of None h = absurd (let e : false ≡ true = h in cc)
some_of (Some x) h = (x, refl)

abbrev with_queued : PortsView Kept → ℕ → PortView Kept → Kept → (spare : ℕ) → PortsView Kept
with_queued ports p v m spare = record (with_port ports p (record v { queue = v.queue ++ m ∷ [] })) { spare = spare }

pub commits : (old mid held : WorldView) (task : ℕ) (parsed : Parsed) (written : WireBody) (bytes : List ℕ) (plan : PlanView) (p : IsPlan old task parsed written bytes plan) (new : WorldView) → Carries old task plan mid
    → HoldsRights mid plan.port plan.message.rights held → IsLive held.ports plan.port
    → ((v : PortView Kept) → port_at held plan.port ≡ Some v → new ≡ record held { ports = with_queued held.ports plan.port v plan.message (held.ports.spare - 1); ledger = ledger_queued plan.message.by_once plan.port held.ledger })
    → Commits old task parsed written p.plans.judged bytes new
commits old mid held task parsed written bytes plan p new ca holds live queued =
    let found = some_of (port_at held plan.port) live in
    let v : PortView Kept = found.0 in
    let all = Through-append (λ old w c new. ChangesWord old task w c new) ca.one ca.two mid (option_to_list plan.words.reply) plan.words.body (option_to_list plan.message.reply) plan.message.rights ca.reply ca.body in
    let whole : ChangesWords old task (plan.words.destination ∷ (option_to_list plan.words.reply ++ plan.words.body)) (plan.destination ∷ (option_to_list plan.message.reply ++ plan.message.rights)) mid =
    (ca.one, ca.destination, all) in
    let less : held.ports.spare - 1 ≡ old.ports.spare - 1 =
    ap (λ (n : ℕ). n - 1) (held_spare plan.port plan.message.rights mid held holds ∙ carries_spare old mid task plan ca) in
    let reply : option_to_list plan.message.reply ≡ option_list p.plans.judged.reply = ap (λ (m : Kept). option_to_list m.reply) p.message ∙ same_options p.plans.judged.reply in
    let rights : plan.message.rights ≡ p.plans.judged.rights = ap (λ (m : Kept). m.rights) p.message in
    record {
      mid = mid;
      changes = rw (p.words.destination, p.words.reply, p.words.body, p.destination, reply, rights) at whole;
      held = held;
      holds = rw (p.port, rights) at holds;
      v = v;
      there = ap (λ (q : ℕ). port_at held q) (sym p.port) ∙ found.1;
      rest = queued v found.1 ∙ (λ i. record held {
        ports = with_queued held.ports (p.port i) v (p.message i) (less i);
        ledger = ledger_queued (p.message i).by_once (p.port i) held.ledger;
      });
    }

-- A message that is sent leaves as much room for names.
pub commits_rooms : (old : WorldView) (task : ℕ) (parsed : Parsed) (written : WireBody) (j : Judged old task parsed written) (bytes : List ℕ) (new : WorldView) →
    Commits old task parsed written j bytes new → (u : ℕ) → room_of new u ≡ room_of old u
commits_rooms old task parsed written j bytes new c u =
    ap (λ (x : WorldView). room_of x u) c.rest
    ∙ ap (λ (xs : List (Option SpaceView)). room_in (space_in xs u)) (held_spaces j.port j.rights c.mid c.held c.holds)
    ∙ (stay_words old c.mid task (destination_word parsed ∷ reply_words parsed ++ body_words written) (j.destination ∷ option_list j.reply ++ j.rights) c.changes).rooms u

-- ---- How many spare slots and unused send-once rights there are once rights were copied in, and once a message was sent.

-- As many slots are spare as before, and so many send-once rights more are unused.
pub record MakesOnce (old new : WorldView) (made : ℕ) : Type 0 where
  pub unused : new.ledger.unused ≡ old.ledger.unused + made
  pub spare : new.ports.spare ≡ old.ports.spare

none_made : (old new : WorldView) → new ≡ old → MakesOnce old new 0
none_made old new same = grind arith

-- ---- a right

unused_copied : (d : Disposition) (m : Mark) (l : LedgerView) → (ledger_copied d m l).unused ≡ l.unused + once_made_by_mark d m
unused_copied MoveReceive (mark.Port p) l = omega arith
unused_copied MoveReceive mark.Null l = omega arith
unused_copied MoveReceive mark.Dead l = omega arith
unused_copied MoveSend (mark.Port p) l = omega arith
unused_copied MoveSend mark.Null l = omega arith
unused_copied MoveSend mark.Dead l = omega arith
unused_copied MoveSendOnce (mark.Port p) l = omega arith
unused_copied MoveSendOnce mark.Null l = omega arith
unused_copied MoveSendOnce mark.Dead l = omega arith
unused_copied CopySend (mark.Port p) l = omega arith
unused_copied CopySend mark.Null l = omega arith
unused_copied CopySend mark.Dead l = omega arith
unused_copied MakeSend (mark.Port p) l = omega arith
unused_copied MakeSend mark.Null l = omega arith
unused_copied MakeSend mark.Dead l = omega arith
unused_copied MakeSendOnce (mark.Port p) l = omega arith
unused_copied MakeSendOnce mark.Null l = omega arith
unused_copied MakeSendOnce mark.Dead l = omega arith

pub copied_once : (old new : WorldView) (task : ℕ) (d : Disposition) (name : ℕ) (one : Mark) → CopiesRight old task d name one new → MakesOnce old new (once_made_by_mark d one)
copied_once old new task d name one c = grind (arith, unused_copied, spare_copied)

-- ---- words

none_by : (d : Disposition) (m : Mark) → (m ≡ mark.Null) → once_made_by_mark d m ≡ 0
none_by d m is = grind arith

none_dead : (d : Disposition) (m : Mark) → (m ≡ mark.Dead) → once_made_by_mark d m ≡ 0
none_dead d m is = grind arith

word_once : (names after : Names) (old new : WorldView) (task : ℕ) (w : PortWord) (c : Carried) → CopiesWord names w c after → ChangesWord old task w c new → MakesOnce old new (once_made_by c)
word_once names after old new task w c copies changes = grind (arith, none_by, none_made, none_dead, copied_once)

words_once : (names after : Names) (old new : WorldView) (task : ℕ) (ws : List PortWord) (cs : List Carried) → CopiesAll names ws cs after → ChangesWords old task ws cs new →
    MakesOnce old new (once_made_by_all cs)
words_once names after old new task [] [] copies same = none_made old new same
words_once names after old new task [] (c ∷ cs) copies changes = absurd changes
words_once names after old new task (w ∷ ws) [] copies changes = absurd changes
words_once names after old new task (w ∷ ws) (c ∷ cs) copies changes = grind (arith, words_once copies.0 after changes.0 new task ws cs copies.2 changes.2, word_once)

-- ---- a message

once_append : (cs ds : List Carried) → once_made_by_all (cs ++ ds) ≡ once_made_by_all cs + once_made_by_all ds
once_append [] ds = omega arith
once_append (c ∷ cs) ds = let e = once_append cs ds in omega arith

once_option : (reply : Option Carried) → once_made_by_all (option_list reply) ≡ once_made_by_reply reply
once_option None = refl
once_option (Some c) = omega arith

-- the right by which it goes, once it is queued, is unused no more
queued_less : (b : Bool) (p : ℕ) (l : LedgerView) → (ledger_queued b p l).unused ≡ l.unused - (if b then 1 else 0)
queued_less true p l = refl
queued_less false p l = omega arith

-- what it makes and uses at its destination leaves what it wants for itself, but for the slot that it takes
own_balance : (d : Disposition) (m : Mark) (p : ℕ) → m ≡ mark.Port p → once_made_by_mark d m + 1 ≡ own_slot d + (if same_kind (kind_sent d) send_once then 1 else 0)
own_balance d m p is = grind arith

module _ (old : WorldView) (task : ℕ) (parsed : Parsed) (written : WireBody) (j : Judged old task parsed written) (tied : AreTied j.space.names old.ports old.ledger) (bytes : List ℕ) (new : WorldView)
    (c : Commits old task parsed written j bytes new) where
  -- There are as many unused send-once rights as there were, and as the slots that it wants less the one that it takes.
  pub commits_unused : new.ledger.unused ≡ old.ledger.unused + slots_for j.destination j.reply j.rights - 1
  commits_unused =
      let made = words_once j.space.names j.last old c.mid task (destination_word parsed ∷ reply_words parsed ++ body_words written) (j.destination ∷ option_list j.reply ++ j.rights)
      (subst (λ (cs : List Carried). CopiesAll j.space.names (destination_word parsed ∷ reply_words parsed ++ body_words written) (j.destination ∷ cs ++ j.rights) j.last)
      (same_options j.reply) (judged_all old task parsed written j tied)) c.changes in
      let all = made.unused in
      let less : new.ledger.unused ≡ c.mid.ledger.unused - (if same_kind (kind_sent j.destination.given) send_once then 1 else 0) =
      ap (λ (w : WorldView). w.ledger.unused) c.rest
      ∙ ap (λ (l : LedgerView). (ledger_queued (same_kind (kind_sent j.destination.given) send_once) j.port l).unused) (held_ledger j.port j.rights c.mid c.held c.holds)
      ∙ queued_less (same_kind (kind_sent j.destination.given) send_once) j.port c.mid.ledger in
      let parts = once_append (option_list j.reply) j.rights in
      let reply = once_option j.reply in
      let balance = own_balance j.destination.given j.destination.mark j.port j.to_port in
      omega (arith, all, less, parts, reply, balance)

  pub commits_spare : new.ports.spare ≡ old.ports.spare - 1
  commits_spare = ap (λ (w : WorldView). w.ports.spare) c.rest

-- ---- a slot for the message

-- a right that goes by the disposition that takes no slot of its own is a send-once right that was there
own_or_there : (d : Disposition) (e : Entry) (k : Copied) (p : ℕ) → copied_from d e ≡ Some k → k.mark ≡ mark.Port p → (own_slot d ≡ 1) ⊎ ((q : ℕ) × (e ≡ entry.SendOnce q))
own_or_there MoveSendOnce (entry.SendOnce q) k p is to = inr (q, refl)
own_or_there MoveSendOnce (entry.DeadName n) k p is to = grind arith
own_or_there MoveSendOnce (entry.Receive q) k p is to = absurd (let e : None ≡ Some k = is in cc)
own_or_there MoveSendOnce (entry.Send q n) k p is to = absurd (let e : None ≡ Some k = is in cc)
own_or_there MoveSendOnce (entry.ReceiveAndSend q n) k p is to = absurd (let e : None ≡ Some k = is in cc)
own_or_there MoveSendOnce (entry.Set q) k p is to = absurd (let e : None ≡ Some k = is in cc)
own_or_there MoveReceive e k p is to = inl refl
own_or_there MoveSend e k p is to = inl refl
own_or_there CopySend e k p is to = inl refl
own_or_there MakeSend e k p is to = inl refl
own_or_there MakeSendOnce e k p is to = inl refl

-- Once the slots are made that it wants, the message has one: its own, or that of the right that it goes by.
pub slot_there : (w : WorldView) → IsUnusedOfAll w.ledger → SlotsSuffice w → (task : ℕ) (parsed : Parsed) (written : WireBody) (j : Judged w task parsed written) → IsTied w task →
    0 < max w.ports.spare (w.ledger.unused + slots_for j.destination j.reply j.rights)
slot_there w all enough task parsed written j tied =
    let d = j.copies_destination in
    elim (own_or_there j.destination.given d.entry d.copied j.port d.is (sym d.mark ∙ j.to_port)) [
      | inl own ↦ omega (arith, own)
      | inr there ↦
          let some = slot_for_once w all enough there.0 (tied.unused j.space j.there (destination_word parsed).name there.0 (d.found ∙ ap Some there.1)) in
          omega (arith, some)
    ]

-- ---- The text of a message in whose body no port words stand, and what is queued of it.

pub none_in : {X : Type 0} (xs : List X) → true ≡ (length xs == 0) → xs ≡ []
none_in xs empty = elim (eqb_tells (length xs) 0) [ inl h ↦ nil_from_length xs h.1 | inr h ↦ absurd (let no : true ≡ false = empty ∙ h.0 in cc) ]

no_items : (xs : List Wire) (at : ℕ) → spans_at at xs ≡ [] → items_words xs ≡ []
no_items [] at none = refl
no_items (data_item form name size number bytes padding ∷ xs) at none = no_items xs _ none
no_items (port_item form disposition words ∷ xs) at none = absurd (cc)

no_words : (written : WireBody) → body_spans written ≡ [] → body_words written ≡ []
no_words (raw bytes) none = refl
no_words (items xs) none = no_items xs 24 none

-- what is queued of a text, by what was read of it
abbrev pub queued_of : Parsed → (bytes : List ℕ) → Disposition → Option Carried → List Carried → Kept
queued_of parsed bytes given reply carried = record {
  bytes = bytes;
  id = parsed.id;
  is_complex = parsed.is_complex;
  spans = parsed.spans;
  by_once = same_kind (kind_sent given) send_once;
  reply = reply;
  rights = carried;
  told = false;
}

pub queues : (parsed : Parsed) (head : Head) → IsHead parsed head → (bytes : List ℕ) (rights : Rights) (spans : List Span) (carried kept : List Carried)
    → spans ≡ parsed.spans → kept ≡ carried → message_with head bytes rights spans kept ≡ queued_of parsed bytes rights.destination.given rights.reply carried
queues parsed head is bytes rights spans carried kept stand go = λ i. record {
  bytes = bytes;
  id = is.id i;
  is_complex = is.is_complex i;
  spans = stand i;
  by_once = same_kind (kind_sent rights.destination.given) send_once;
  reply = rights.reply;
  rights = go i;
  told = false;
}

-- ---- a body of one word

-- where its word stands, by what was judged of it
pub one_span : (names : Names) (w : PortWord) (c : Carried) (after : Names) → CopiesWord names w c after → spans_for (Some c) ≡ one_word_span w.disposition ∷ []
one_span names w c after goes = ap (λ (n : ℕ). one_word_span n ∷ []) (number_of w.disposition c.given (word_given names w c after goes))
