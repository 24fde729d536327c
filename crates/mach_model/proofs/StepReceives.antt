-- By an answer by which no right is lost a step's own part leaves no live port without its receive right.
use Rattle.std.proofs.Common.{◌≡◌, ℕ, ◌-◌, List, [], Some, refl, sym, ap, ◌∙◌, arith, true, false, Bool, inl, inr, length}
use Rattle.std.specs.Prelude.{ℤ, if◌then◌else◌, nat_lt, All, MatchBool}
use Rattle.std.proofs.lemmas.Bool.{or_cases, eq-eqb, ne_eqb, false_from_ne_true}
use Rattle.mach_types.specs.declared.calls.Event.{Event}
use Rattle.mach_types.specs.declared.calls.Reply.{Reply}
use Rattle.mach_types.specs.Guards.{NoneHolds}
use Rattle.mach_types.specs.Tokens.{Kind, receive, Token, count, is_of, is_held, Moves}
use Rattle.mach_model.specs.State.{State, Target, lookup, without_name, with_name, gives}
use Rattle.mach_model.specs.CopyIn.{name_kept}
use Rattle.mach_model.specs.Death.{IsOrphan}
use Rattle.mach_model.specs.Names.{AllocatesPort, Makes, Renames, JoinsSet}
use Rattle.mach_model.specs.NameGuards.{NamesReceive}
use Rattle.mach_model.specs.References.{is_either, LosesAll, Deallocates, Destroys, Modifies}
use Rattle.mach_model.specs.Send.{Sends}
use Rattle.mach_model.specs.Receive.{Receives, DestroysFront}
use Rattle.mach_model.specs.Refusals.{guards}
use Rattle.mach_model.specs.Notices.{Owed}
use Rattle.mach_model.specs.Acts.{Does}
use Rattle.mach_model.specs.Lawful.{IsLawful}
use Rattle.mach_model.proofs.Midway.{NamesOnce, LosesWhole, Removes, LosesNone}
use Rattle.mach_model.proofs.Names.{count_none, count_some, pos_or_zero, at_other}
use Rattle.mach_model.proofs.MessagesLawful.{is_it, Hands, Sends-adds, Receives-removes}
use Rattle.mach_model.proofs.LosingLawful.{AreSends, no_sends, same_sends}
use Rattle.mach_model.proofs.StepLawful.{not_false, TakesFrom-live}
use Rattle.mach_model.proofs.NamesLawful.{gives-lawful}

-- Each port that lives has its receive right.
abbrev HaveReceive : State → Type 0
HaveReceive s = (p : ℕ) → s.live_port p ≡ true → count (is_of receive p) s.ledger ≡ 1

module _ (old : State) (l : IsLawful old) where
  -- as many of each port, and the same ports
  alike : (mid : State) → mid.live_port ≡ old.live_port → ((p : ℕ) → count (is_of receive p) mid.ledger ≡ count (is_of receive p) old.ledger) → HaveReceive mid
  alike mid live same p e = same p ∙ l.one_receive p (sym (ap (λ (f : ℕ → Bool). f p) live) ∙ e)

  same_rights : (mid : State) → Moves old.ledger mid.ledger [] [] → mid.live_port ≡ old.live_port → HaveReceive mid
  same_rights mid moves live = alike mid live (λ p. (let m = moves (λ x. if is_of receive p x then 1 else 0) in omega (arith, m)))

  as_it_was : (mid c : State) → mid ≡ c → c.ledger ≡ old.ledger → c.live_port ≡ old.live_port → HaveReceive mid
  as_it_was mid c rest ledger live = grind (arith, same_rights)

  -- send rights of one task come and go
  sends_change : (task p : ℕ) (mid : State) (gone come : List Token) → Moves old.ledger mid.ledger gone come → AreSends task p gone → AreSends task p come →
      mid.live_port ≡ old.live_port → HaveReceive mid
  sends_change task p mid gone come moves are_gone are_come live = grind (arith, alike)

  -- ---- a port is made

  port_made : (task name : ℕ) (mid : State) → AllocatesPort task name old mid → HaveReceive mid
  port_made task name mid made p live = grind (arith, false_from_ne_true, eq-eqb, at_other, ne_eqb)

  -- ---- rights under a name

  kept_live : (b : Bool) (task name : ℕ) → (name_kept b task name old).live_port ≡ old.live_port
  kept_live true task name = refl
  kept_live false task name = refl

  name_changes : (task name p : ℕ) (b : Bool) (mid : State) (gone come : List Token) → Moves old.ledger mid.ledger gone come → AreSends task p gone → AreSends task p come →
      mid ≡ record (name_kept b task name old) { ledger = mid.ledger } → HaveReceive mid
  name_changes task name p b mid gone come moves are_gone are_come rest = grind (arith, sends_change, kept_live)

  dead_changes : (task name n : ℕ) (b : Bool) (mid : State) → Moves old.ledger mid.ledger [] [] →
      mid ≡ record (if b then with_name task name (Target.dead n) old else without_name task name old) { ledger = mid.ledger } → HaveReceive mid
  dead_changes task name n true mid moves rest = same_rights mid moves (ap (λ (x : State). x.live_port) rest)
  dead_changes task name n false mid moves rest = same_rights mid moves (ap (λ (x : State). x.live_port) rest)

  deallocates : (task name : ℕ) (mid : State) (owed : Owed) → ¬ (NamesOnce old task name) → Deallocates task name old mid owed → HaveReceive mid
  deallocates task name mid owed not_once (inl (p, d, none)) = grind (arith, name_changes, same_sends, no_sends)
  deallocates task name mid owed not_once (inr (inl (p, d, owes))) = absurd (not_once (p, d.found))
  deallocates task name mid owed not_once (inr (inr (n, d, none))) = dead_changes task name (n - 1) (nat_lt 1 n) mid d.tokens d.rest

  -- tokens of which each is a receive or send right that the task has for the port, and none is a receive right, are its send rights
  sends_of_either : (task p : ℕ) (xs : List Token) → All (λ x. is_either task p x ≡ true) xs → count (is_held task receive p) xs ≡ 0 → AreSends task p xs
  sends_of_either task p xs all none test e = grind (arith, count_none, or_cases, count_some, is_it)

  port_destroyed : (task name p : ℕ) (mid : State) → lookup old task name ≡ Some (Target.port p) → ¬ (NamesReceive old task name) →
      LosesAll (is_either task p) old.ledger mid.ledger → mid ≡ record (without_name task name old) { ledger = mid.ledger } → HaveReceive mid
  port_destroyed task name p mid is not all rest = grind (arith, name_changes, sends_of_either, no_sends, pos_or_zero)

  destroys : (task name : ℕ) (mid : State) (owed : Owed) → ¬ (LosesWhole old task name) → Destroys task name old mid owed → HaveReceive mid
  destroys task name mid owed not (Target.port p, is, d) = port_destroyed task name p mid is (λ e. not (inl e)) d.0 d.1
  destroys task name mid owed not (Target.once p, is, d) = absurd (not (inr (p, is)))
  destroys task name mid owed not (Target.dead n, is, d) = as_it_was mid _ d.0 refl refl
  destroys task name mid owed not (Target.set set, is, d) = as_it_was mid _ d.0 refl refl

  modifies : (task name right : ℕ) (delta : ℤ) (mid : State) (owed : Owed) → ¬ (Removes right delta) → Modifies task name right delta old mid owed → HaveReceive mid
  modifies task name right delta mid owed not (inl (p, m, is_send, is, adds, d, none)) = grind (arith, name_changes, same_sends)
  modifies task name right delta mid owed not (inr (inl (n, m, is_dead, is, adds, rest, none))) = grind (arith, as_it_was)
  modifies task name right delta mid owed not (inr (inr (inl (uncounted, none, rest, owes)))) = as_it_was mid old rest refl refl
  modifies task name right delta mid owed not (inr (inr (inr (target, one, is, d)))) = grind (arith, as_it_was)

  -- ---- names

  renames : (task o n : ℕ) (mid : State) → Renames task o n old mid → HaveReceive mid
  renames task o n mid r = alike mid (ap (λ (x : State). x.live_port) r.rest) (λ p. (let a = r.tokens (λ x. if is_of receive p x then 1 else 0) in omega (arith, a)))

  -- ---- rights on their way

  hands : (mid : State) (kind : Kind) (p : ℕ) → Hands old mid 0 (length (old.log 0)) kind p → HaveReceive mid
  hands mid kind p h = h.removes.keeps.one_receive

  sends : (now task : ℕ) (bytes : List ℕ) (mid : State) → Sends now task bytes old mid → HaveReceive mid
  sends now task bytes mid s p e = grind (arith, Sends-adds now task bytes old mid l s)

  receives : (task port room : ℕ) (bytes : List ℕ) (mid : State) → old.live_port port ≡ true → old.live_task task ≡ true → Receives task port room bytes old mid → HaveReceive mid
  receives task port room bytes mid live is_task r = (Receives-removes task port room bytes old mid l live is_task r).keeps.one_receive

-- What an event that isn't refused, and loses no right, leaves has no orphan.
pub Does-receives : (now : ℕ) (old : State) (event : Event) (reply : Reply) (mid : State) (owed : Owed) → LosesNone old event reply → NoneHolds (guards old event) → Does now old event reply mid owed →
    IsLawful old → (p : ℕ) → ¬ (IsOrphan mid p)
Does-receives now old event reply mid owed none g d l p orphan = let one = go event reply none g d p orphan.0 in let zero = orphan.1 in omega (arith, one, zero)
  where
    same : mid ≡ old → HaveReceive mid
    same e = as_it_was old l mid old e refl refl

    kept_large : (Q : Type 0) (large : Bool) → large ≡ true → MatchBool large ((mid ≡ old) × (owed ≡ [])) Q → (mid ≡ old) × (owed ≡ [])
    kept_large Q true e h = h
    kept_large Q false e h = absurd (cc)

    makes : (task right name : ℕ) → Makes task right name old mid → HaveReceive mid
    makes task right name (inl (is, a)) = port_made old l task name mid a
    makes task right name (inr (inl (is, e))) = as_it_was old l mid _ e refl refl
    makes task right name (inr (inr (is, e))) = as_it_was old l mid _ e refl refl

    makes_fresh : (task right name : ℕ) → Makes task right name (gives task name old) mid → HaveReceive mid
    makes_fresh task right name (inl (is, a)) = port_made (gives task name old) (gives-lawful task name old l) task name mid a
    makes_fresh task right name (inr (inl (is, e))) = as_it_was old l mid _ e refl refl
    makes_fresh task right name (inr (inr (is, e))) = as_it_was old l mid _ e refl refl

    joins : (task member after : ℕ) → JoinsSet task member after old mid → HaveReceive mid
    joins task member after (p, is, inl h) = as_it_was old l mid _ h.1 refl refl
    joins task member after (p, is, inr h) = as_it_was old l mid _ h.2 refl refl

    go : (event : Event) (reply : Reply) → LosesNone old event reply → NoneHolds (guards old event) → Does now old event reply mid owed → HaveReceive mid
    go Event.TaskCreate (Reply.Task task) n g d = as_it_was old l mid _ d.0.rest refl refl
    go (Event.TaskTerminate task) reply n g d = absurd n
    go (Event.Allocate task right) (Reply.Name name) n g d = makes_fresh task right name d.1
    go (Event.AllocateName task right name) (Reply.Name told) n g d = makes task right name d.1
    go (Event.Deallocate task name) (Reply.Code code) n g d = deallocates old l task name mid owed n d.1
    go (Event.Destroy task name) (Reply.Code code) n g d = destroys old l task name mid owed n d.1
    go (Event.ModRefs task name right delta) (Reply.Code code) n g d = modifies old l task name right delta mid owed n d.1
    go (Event.GetRefs task name right) (Reply.Refs k) n g d = same d.0
    go (Event.NameType task name) (Reply.NameType k) n g d = same d.0
    go (Event.Names task) (Reply.Names entries) n g d = same d.0
    go (Event.Rename task o k) (Reply.Code code) n g d = renames old l task o k mid d.1
    go (Event.ReceiveStatus task name) (Reply.Status status) n g d = same d.0
    go (Event.SetQlimit task name k) (Reply.Code code) n g d = as_it_was old l mid _ d.1.3 refl refl
    go (Event.SetMscount task name k) (Reply.Code code) n g d = as_it_was old l mid _ d.2.3 refl refl
    go (Event.SetSeqno task name k) (Reply.Code code) n g d = as_it_was old l mid _ d.2.3 refl refl
    go (Event.SetStatus task name) (Reply.Members members) n g d = same d.0
    go (Event.MoveMember task member after) (Reply.Code code) n g d = joins task member after d.1
    go (Event.InsertMember task member set) (Reply.Code code) n g d = as_it_was old l mid _ d.1.rest refl refl
    go (Event.ExtractMember task member set) (Reply.Code code) n g d = as_it_was old l mid _ d.1.rest refl refl
    go (Event.InsertRight task name from poly number) (Reply.Code code) n g d = grind (arith, hands, not_false)
    go (Event.ExtractRight task name number to) (Reply.Right new_name kind) n g d = grind (arith, hands, not_false)
    go (Event.RequestNotification task name variant sync notify number) reply n g d = absurd n
    go (Event.Send task bytes) (Reply.Code code) n g d = sends old l now task bytes mid d.1
    go (Event.Receive task name room large) (Reply.Message bytes) n g d =
        receives old l task d.2.0 room bytes mid (TakesFrom-live old l task d.0 d.2.0 d.2.1) (not_false (old.live_task task) g.0) d.2.2
    go (Event.Receive task name room large) (Reply.Empty told) n g d = same d.2.2
    go (Event.Receive task name room large) (Reply.TooLarge k) n g d = same (kept_large (DestroysFront d.2.0 d.2.1 old mid owed) large n d.2.6).0
    go (Event.Receive task name room large) reply n g d = absurd d.2
    go (Event.ReceiveAgain task waited room large) (Reply.Message bytes) n g d =
        receives old l task d.0 room bytes mid (TakesFrom-live old l task waited d.0 d.1) (not_false (old.live_task task) g.0) d.2
    go (Event.ReceiveAgain task waited room large) (Reply.Empty told) n g d = same d.2
    go (Event.ReceiveAgain task waited room large) (Reply.TooLarge k) n g d = same (kept_large (DestroysFront d.0 d.1 old mid owed) large n d.6).0
    go event reply n g d = absurd d
