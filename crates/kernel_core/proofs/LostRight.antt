-- A call of whose change it is told that a receive right was destroyed loses that right, and owes nothing.
use Rattle.std.proofs.Common.{◌≡◌, ℕ, List, [], ◌∷◌, ◌++◌, Option, Some, None, refl, sym, ap, subst, ◌∙◌, true, false, Bool, inl, inr, length, drop}
use Rattle.std.specs.Prelude.{◌≢◌, ◌^◌, ◌%◌, ◌==◌, ◌||◌, ℤ, nat_lt, not, if◌then◌else◌, MatchBool, slice_get}
use Rattle.std.specs.List.{filter_map}
use Rattle.std.specs.Option.{option_map, option_and_then, option_to_list}
use Rattle.mach_types.specs.declared.calls.Event.{Event}
use Rattle.mach_types.specs.declared.calls.Reply.{Reply}
use Rattle.mach_types.specs.TextGuards.{word_at}
use Rattle.mach_model.specs.State.{State, Target, lookup}
use Rattle.mach_model.specs.Acts.{Does}
use Rattle.mach_model.specs.Notices.{Owed}
use Rattle.mach_model.specs.References.{Destroys, Modifies, RemovesRight}
use Rattle.mach_laws.proofs.LoneDeath.{LosesRight, none_lost, all_lose, receive_lost}
use Rattle.mach_laws.proofs.Losing.{modifies_removes}
use Rattle.name_space.specs.declared.Entry.{Entry as Named}
use Rattle.name_space.specs.declared.Entry.TheVariants as named
use Rattle.copyin_base.specs.Kept.{Kept}
use Rattle.copyin_base.specs.Shows.{Shows, target_of}
use Rattle.copyin_base.specs.Worlds.{WorldView, entry_at, sets_at}
use Rattle.name_space.specs.Entry.{set_named}
use Rattle.port_base.specs.declared.Membership.{Membership}
use Rattle.port_base.specs.declared.Membership.TheVariants.{Nowhere, Alone, Several}
use Rattle.port_base.specs.Memberships.{membership_in}
use Rattle.copyin.specs.Planned.{PlanView}
use Rattle.kernel_change.specs.declared.change.Change.TheVariants as change
use Rattle.kernel_change.specs.declared.change.Change.{Change}
use Rattle.kernel_change.specs.Changing.{ByLosingAll, ByReferences, by_body, by_front, by_handing, by_items, by_losing_all, by_losing_one, by_losing_with, by_making, by_message, by_moving, by_paying, by_receipt, by_received, by_request, by_taking, by_taking_two, by_taking_three, by_taking_along, by_too_long, disbanded, front_at, gives_none, gives_one, left_by, moved_from, noticed_of, port_under, receives_of, any_if_several, by_pairing, has_more, paired}
use Rattle.kernel_change.specs.Received.{body_names, received_by}
use Rattle.kernel_core.specs.InTurn.{source}
use Rattle.message_send.specs.Telling.{TellsPlan}
use Rattle.kernel_core.specs.Telling.{TellsChange}

abbrev NotLost : Change → Type 0
NotLost (change.Lost p) = ⊥
NotLost told = Unit {0}

not_either : (b : Bool) (x y : Change) → NotLost x → NotLost y → NotLost (if b then x else y)
not_either true x y f g = f
not_either false x y f g = g

not_making : (right : ℕ) → NotLost (by_making right)
not_making right = not_either (right == 1) change.Made change.Nothing tt tt

not_losing : (port : ℕ) (receives notices : List ℕ) → NotLost (by_losing_with port receives notices)
not_losing port [] [] = tt
not_losing port [] (q ∷ []) = tt
not_losing port [] (q ∷ r ∷ qs) = tt
not_losing port (p ∷ ps) notices = tt

not_front : (port : ℕ) (o : Option Kept) → NotLost (by_front port o)
not_front port None = tt
not_front port (Some m) = let rights = option_to_list m.reply ++ m.rights in not_losing port (receives_of rights) (filter_map noticed_of rights)

not_too_long : (w : WorldView) (from : Option ℕ) → NotLost (by_too_long w from)
not_too_long w None = tt
not_too_long w (Some port) = not_front port (front_at w port)

not_received : (task name : ℕ) (names : List ℕ) → NotLost (by_received task name (received_by names))
not_received task name [] = tt
not_received task name (a ∷ []) = tt
not_received task name (a ∷ b ∷ []) = tt
not_received task name (a ∷ b ∷ c ∷ []) = tt
not_received task name (a ∷ b ∷ c ∷ d ∷ names) = tt

not_body : (task : ℕ) (bytes : List ℕ) → NotLost (by_body task bytes)
not_body task bytes =
    not_either (nat_lt (length bytes) 24 || word_at bytes 0 % 2 ^ 8 == 16) change.Any (by_received task (word_at bytes 12) (received_by (body_names (drop 24 bytes)))) tt
    (not_received task (word_at bytes 12) (body_names (drop 24 bytes)))

not_message : (task : ℕ) (bytes : List ℕ) → NotLost (by_message task bytes)
not_message task bytes =
    not_either (gives_none bytes) (change.QueueNamed task (word_at bytes 12)) (by_items task bytes) tt
    (not_either (gives_one bytes) (if word_at bytes 24 % 2 ^ 8 == 16 then change.ReceivedOne task (word_at bytes 12) (word_at bytes 28) else change.QueueNamed task (word_at bytes 12)) (by_body task bytes)
    (not_either (word_at bytes 24 % 2 ^ 8 == 16) (change.ReceivedOne task (word_at bytes 12) (word_at bytes 28)) (change.QueueNamed task (word_at bytes 12)) tt tt) (not_body task bytes))

not_receipt : (w : WorldView) (task : ℕ) (large : Bool) (from : Option ℕ) (reply : Reply) → NotLost (by_receipt w task large from reply)
not_receipt w task large from (Reply.Message bytes) = not_message task bytes
not_receipt w task large from (Reply.Empty waited) = tt
not_receipt w task large from (Reply.TooLarge n) = not_either large change.Nothing (by_too_long w from) tt (not_too_long w from)
not_receipt w task large from reply = tt

not_along : (to port : ℕ) (o : Option ℕ) → NotLost (by_taking_along to port o)
not_along to port (Some set) = tt
not_along to port None = tt

not_two : (to a b : ℕ) (left other : Option ℕ) → NotLost (by_taking_two to a b left other)
not_two to a b None None = tt
not_two to a b None (Some set) = tt
not_two to a b (Some set) None = tt
not_two to a b (Some set) (Some other) = not_either (set == other) (change.AlongTwoFrom to a b set) change.Any tt tt

not_three : (to a b c : ℕ) (left second third : Option ℕ) → NotLost (by_taking_three to a b c left second third)
not_three to a b c None None None = tt
not_three to a b c None None (Some set) = tt
not_three to a b c None (Some set) third = tt
not_three to a b c (Some set) second third = tt

not_if_several : (sets : List ℕ) (c : Change) → NotLost c → NotLost (any_if_several sets c)
not_if_several sets c not = not_either (has_more sets) change.Any c tt not

not_taking : (w : WorldView) (to : ℕ) (ports : List ℕ) → NotLost (by_taking w to ports)
not_taking w to [] = tt
not_taking w to (p ∷ []) = not_if_several (sets_at w p) (by_taking_along to p (slice_get (sets_at w p) 0)) (not_along to p (slice_get (sets_at w p) 0))
not_taking w to (a ∷ b ∷ []) =
    let two : Change = by_taking_two to a b (slice_get (sets_at w a) 0) (slice_get (sets_at w b) 0) in
    not_if_several (sets_at w a) (any_if_several (sets_at w b) two) (not_if_several (sets_at w b) two (not_two to a b (slice_get (sets_at w a) 0) (slice_get (sets_at w b) 0)))
not_taking w to (a ∷ b ∷ c ∷ []) = not_three to a b c (slice_get (sets_at w a) 0) (slice_get (sets_at w b) 0) (slice_get (sets_at w c) 0)
not_taking w to (a ∷ b ∷ c ∷ d ∷ ports) = tt

not_losing_one : (o : Option Named) → NotLost (by_losing_one o)
not_losing_one None = tt
not_losing_one (Some (named.Receive p)) = tt
not_losing_one (Some (named.Send p n)) = tt
not_losing_one (Some (named.ReceiveAndSend p n)) = tt
not_losing_one (Some (named.SendOnce p)) = tt
not_losing_one (Some (named.DeadName n)) = tt
not_losing_one (Some (named.Set set)) = tt

not_paying : (o : Option Named) → NotLost (by_paying o)
not_paying None = tt
not_paying (Some (named.Receive p)) = tt
not_paying (Some (named.Send p n)) = tt
not_paying (Some (named.ReceiveAndSend p n)) = tt
not_paying (Some (named.SendOnce p)) = tt
not_paying (Some (named.DeadName n)) = tt
not_paying (Some (named.Set set)) = tt

not_left : (p : ℕ) (m : Membership) → NotLost (left_by p m)
not_left p Nowhere = tt
not_left p (Alone set) = tt
not_left p (Several set) = tt

not_paired : (a b : Option ℕ) → NotLost (paired a b)
not_paired (Some p) (Some set) = tt
not_paired (Some p) None = tt
not_paired None b = tt

not_pairing : (w : WorldView) (task member set : ℕ) → NotLost (by_pairing w task member set)
not_pairing w task member set = not_paired (port_under w task member) (option_and_then set_named (entry_at w task set))

not_moved : (w : WorldView) (o : Option ℕ) → NotLost (moved_from w o)
not_moved w (Some p) = not_left p (membership_in (sets_at w p))
not_moved w None = tt

not_handing : (w : WorldView) (task name number : ℕ) → NotLost (by_handing w task name number)
not_handing w task name number = not_either (number == 16) (by_moving w task name) change.Nothing (not_moved w (port_under w task name)) tt

not_request : (w : WorldView) (task name number : ℕ) → NotLost (by_request w task name number)
not_request w task name number =
    not_either (name == 0) change.Nothing (if number == 16 then change.Any else by_paying (entry_at w task name)) tt (not_either (number == 16) change.Any (by_paying (entry_at w task name)) tt (not_paying (entry_at w task name)))

not_disbanded : (set : ℕ) (ports : List ℕ) → NotLost (disbanded set ports)
not_disbanded set [] = tt
not_disbanded set (a ∷ []) = tt
not_disbanded set (a ∷ b ∷ []) = tt
not_disbanded set (a ∷ b ∷ c ∷ []) = tt
not_disbanded set (a ∷ b ∷ c ∷ d ∷ xs) = tt

-- of no set that went a lost receive right is told
lost_loss : (v : WorldView) (o : Option Named) (told : Change) (p : ℕ) → ByLosingAll v o told → told ≡ change.Lost p → by_losing_all o ≡ change.Lost p
lost_loss v None told p is lost = sym is ∙ lost
lost_loss v (Some (named.Receive q)) told p is lost = sym is ∙ lost
lost_loss v (Some (named.Send q n)) told p is lost = sym is ∙ lost
lost_loss v (Some (named.ReceiveAndSend q n)) told p is lost = sym is ∙ lost
lost_loss v (Some (named.SendOnce q)) told p is lost = sym is ∙ lost
lost_loss v (Some (named.DeadName n)) told p is lost = sym is ∙ lost
lost_loss v (Some (named.Set set)) told p (inl (ports, are, is)) lost = absurd (subst NotLost (sym is ∙ lost) (not_disbanded set ports))
lost_loss v (Some (named.Set set)) told p (inr any) lost = absurd (subst NotLost (sym any ∙ lost) tt)

-- what stands under a name of which this is told
lost_target : (o : Option Named) (target : Target) (p : ℕ) → Some target ≡ option_map target_of o → by_losing_all o ≡ change.Lost p → target ≡ Target.port p
lost_target None target p e is = absurd (cc)
lost_target (Some (named.Receive q)) target p e is = let f : q ≡ p = (let g = is in cc) in let h : target ≡ Target.port q = (let g = e in cc) in h ∙ ap Target.port f
lost_target (Some (named.ReceiveAndSend q n)) target p e is = let f : q ≡ p = (let g = is in cc) in let h : target ≡ Target.port q = (let g = e in cc) in h ∙ ap Target.port f
lost_target (Some (named.Send q n)) target p e is = absurd (cc)
lost_target (Some (named.SendOnce q)) target p e is = absurd (cc)
lost_target (Some (named.DeadName n)) target p e is = absurd (cc)
lost_target (Some (named.Set set)) target p e is = absurd (cc)

module _ (now : ℕ) (old : WorldView) (s mid : State) (owed : Owed) (sh : Shows old s) (p : ℕ) (told : Change) (lost : told ≡ change.Lost p) where
  -- its right goes, and nothing is owed
  abbrev Loses : Type 0
  Loses = LosesRight p s mid × (owed ≡ [])

  never : (c : Change) → told ≡ c → NotLost c → ⊥
  never c is not = subst NotLost (sym is ∙ lost) not

  target_is : (task name : ℕ) (target : Target) → lookup s task name ≡ Some target → ByLosingAll old (entry_at old task name) told → target ≡ Target.port p
  target_is task name target found tells = lost_target (entry_at old task name) target p (sym found ∙ sh.agrees.naming task name) (lost_loss old (entry_at old task name) told p tells lost)

  same_port : (q : ℕ) → Target.port q ≡ Target.port p → q ≡ p
  same_port q e = cc

  destroyed_lost : (task name : ℕ) → Destroys task name s mid owed → ByLosingAll old (entry_at old task name) told → Loses
  destroyed_lost task name (Target.port q, found, d) tells = (subst (λ (x : ℕ). LosesRight x s mid) (same_port q (target_is task name (Target.port q) found tells)) (all_lose task name q s mid d.0 d.1), d.2)
  destroyed_lost task name (Target.once q, found, d) tells = absurd (let e = target_is task name (Target.once q) found tells in cc)
  destroyed_lost task name (Target.dead n, found, d) tells = absurd (let e = target_is task name (Target.dead n) found tells in cc)
  destroyed_lost task name (Target.set set, found, d) tells = absurd (let e = target_is task name (Target.set set) found tells in cc)

  removed_lost : (task name right : ℕ) (target : Target) → lookup s task name ≡ Some target → RemovesRight right task name target s mid owed → ByLosingAll old (entry_at old task name) told → Loses
  removed_lost task name right (Target.port q) found r tells = (subst (λ (x : ℕ). LosesRight x s mid) (same_port q (target_is task name (Target.port q) found tells)) (receive_lost task name q s mid r.1), r.2)
  removed_lost task name right (Target.once q) found r tells = absurd (let e = target_is task name (Target.once q) found tells in cc)
  removed_lost task name right (Target.set set) found r tells = absurd (let e = target_is task name (Target.set set) found tells in cc)
  removed_lost task name right (Target.dead n) found r tells = absurd r

  modified_lost : (task name right : ℕ) (delta : ℤ) → Modifies task name right delta s mid owed → ByReferences old task name right told → Loses
  modified_lost task name right delta m tells = go (right == 0 || right == 4) refl tells
    where
      not : (right == 0 || right == 4) ≡ false → (right ≢ 0) × (right ≢ 4)
      not is = ((λ e. (let f : (right == 0 || right == 4) ≡ true = rw e refl in cc)), (λ e. (let f : (right == 0 || right == 4) ≡ true = rw e refl in cc)))

      go : (b : Bool) → (right == 0 || right == 4) ≡ b → MatchBool b (told ≡ change.Nothing) (ByLosingAll old (entry_at old task name) told) → Loses
      go true is tells = absurd (never change.Nothing tells tt)
      go false is tells = elim (modifies_removes task name right delta s mid owed (not is).0 (not is).1 m) [
        | inl same ↦ (none_lost p s mid same.0, same.1)
        | inr (target, found, r) ↦ removed_lost task name right target found r tells
      ]

  sent_lost : (plan : PlanView) → TellsPlan old plan told → Loses
  sent_lost plan (inl (goes, is)) = absurd (never (change.Queue plan.port) is tt)
  sent_lost plan (inr is) = let ports = receives_of plan.message.rights in absurd (never (by_taking old plan.port ports) is (not_taking old plan.port ports))

  pub own_lost : (event : Event) (reply : Reply) → Does now s event reply mid owed → TellsChange old event reply told → Loses
  own_lost (Event.Destroy task name) (Reply.Code code) d tells = destroyed_lost task name d.1 tells
  own_lost (Event.ModRefs task name right delta) (Reply.Code code) d tells = modified_lost task name right delta d.1 tells
  own_lost Event.TaskCreate reply d tells = absurd (never change.Nothing tells tt)
  own_lost (Event.TaskTerminate task) reply d (inl sends) = absurd (never change.Nothing sends.1 tt)
  own_lost (Event.TaskTerminate task) reply d (inr any) = absurd (never change.Any any.1 tt)
  own_lost (Event.Allocate task right) reply d tells = absurd (never (by_making right) tells (not_making right))
  own_lost (Event.AllocateName task right name) reply d tells = absurd (never (by_making right) tells (not_making right))
  own_lost (Event.Deallocate task name) reply d tells = absurd (never (by_losing_one (entry_at old task name)) tells (not_losing_one (entry_at old task name)))
  own_lost (Event.GetRefs task name right) reply d tells = absurd (never change.Nothing tells tt)
  own_lost (Event.NameType task name) reply d tells = absurd (never change.Nothing tells tt)
  own_lost (Event.Names task) reply d tells = absurd (never change.Nothing tells tt)
  own_lost (Event.Rename task from to) reply d tells = absurd (never change.Nothing tells tt)
  own_lost (Event.ReceiveStatus task name) reply d tells = absurd (never change.Nothing tells tt)
  own_lost (Event.SetStatus task name) reply d tells = absurd (never change.Nothing tells tt)
  own_lost (Event.MoveMember task member after) reply d tells = absurd (never (by_moving old task member) tells (not_moved old (port_under old task member)))
  own_lost (Event.InsertMember task member set) reply d tells = absurd (never (by_pairing old task member set) tells (not_pairing old task member set))
  own_lost (Event.ExtractMember task member set) reply d tells = absurd (never (by_pairing old task member set) tells (not_pairing old task member set))
  own_lost (Event.SetQlimit task name n) reply d tells = absurd (never (change.PortNamed task name) tells tt)
  own_lost (Event.SetMscount task name n) reply d tells = absurd (never change.Nothing tells tt)
  own_lost (Event.SetSeqno task name n) reply d tells = absurd (never change.Nothing tells tt)
  own_lost (Event.InsertRight task name from poly number) reply d tells = absurd (never (by_handing old from poly number) tells (not_handing old from poly number))
  own_lost (Event.ExtractRight task name number to) reply d tells = absurd (never (by_handing old task name number) tells (not_handing old task name number))
  own_lost (Event.RequestNotification task name variant sync notify number) reply d tells = absurd (never (by_request old task notify number) tells (not_request old task notify number))
  own_lost (Event.Send task bytes) reply d tells = sent_lost tells.plan tells.tells
  own_lost (Event.Receive task name room large) reply d tells =
      let from = source old (Event.Receive task name room large) in absurd (never (by_receipt old task large from reply) tells (not_receipt old task large from reply))
  own_lost (Event.ReceiveAgain task waited room large) reply d tells =
      let from = source old (Event.ReceiveAgain task waited room large) in absurd (never (by_receipt old task large from reply) tells (not_receipt old task large from reply))
  own_lost event reply d tells = absurd d
