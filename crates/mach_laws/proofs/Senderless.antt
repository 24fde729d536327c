-- A port that dies with the last send right of another in its queue is a run.
use Rattle.std.proofs.Common.{◌≡◌, ℕ, [], ◌∷◌, ◌++◌, Some, refl, ap, subst, ◌∙◌, inl, inr, arith, false, true, rules}
use Rattle.std.specs.Prelude.{option_map}
use Rattle.std.specs.FinMap.{gets}
use Rattle.mach_types.specs.declared.calls.Event.{Event}
use Rattle.mach_types.specs.declared.calls.Reply.{Reply}
use Rattle.mach_types.specs.declared.calls.Waited.{Waited}
use Rattle.mach_types.specs.declared.rights.Disposition.TheVariants.{CopySend, MakeSend, MakeSendOnce}
use Rattle.mach_types.specs.Guards.{NoneHolds}
use Rattle.mach_types.specs.Tokens.{receive, send, send_once, Request, no_senders, dead_name, in_task, in_message, in_request, token}
use Rattle.mach_types.specs.Messages.{to_port, present, Body, Message}
use Rattle.mach_types.specs.Grammar.{WireBody, Header, word}
use Rattle.mach_model.specs.State.{State, Target, lookup, without_name, request_at}
use Rattle.mach_model.specs.Notices.{no_more_senders}
use Rattle.mach_model.specs.Settles.{settled_target}
use Rattle.mach_model.specs.Send.{Copied}
use Rattle.mach_model.specs.Requests.{Requests}
use Rattle.mach_model.specs.References.{is_either, Destroys}
use Rattle.mach_model.specs.Refusals.{guards}
use Rattle.mach_model.specs.Machine.{Step, Run}
use Rattle.mach_model.specs.Turns.{Ending, listed, IsRequestOf, IsReached, begins, IsDone, AreJudged}
use Rattle.mach_model.specs.Lawful.{IsLawful}
use Rattle.mach_model.specs.Midway.{MidLawful}
use Rattle.mach_model.proofs.Midway.{NoneCarried}
use Rattle.mach_model.proofs.StepLawful.{Does-mid}
use Rattle.mach_model.proofs.TurnsMade.{start, start_is, doom, lose, bury, tell}
use Rattle.mach_model.proofs.TurnsSettle.{end_of}
use Rattle.mach_model.proofs.TurnsCounted.{one_all}
use Rattle.mach_laws.specs.Senderless.{lending_text, last_sender_text, senderless_events, senderless_replies}
use Rattle.mach_laws.proofs.Playing.{Plays, with_receive, with_made, with_entry, without_front, good_text, spelled, makes, port_allocated, sent, receives, received, used, s1, first}
use Rattle.mach_laws.proofs.Dying.{notice_entry, x5, fifth, other_named, three_fresh, asks_well, none_there, port_noted, requested, made_alone, not_made, stood_before, none_stand_after, Leads, ends, loses_one, then_doomed, then_lost, then_buried, then_told, one_judged, not_carried}
use Rattle.mach_laws.proofs.Gathering.{b2, b3, b4, second, third, fourth}

-- ---- a port's only send right goes into another's queue

abbrev w6 : State
w6 = with_receive 0 3 x5

sixth : Plays 5 x5 (Event.Allocate 0 1) (Reply.Name 3) w6
sixth = port_allocated fifth.1 refl three_fresh (grind (gets, rules)) (omega arith)

sender_found : lookup w6 0 2 ≡ Some (Target.port 1)
sender_found = grind (gets, rules)

lent_found : lookup w6 0 3 ≡ Some (Target.port 2)
lent_found = grind (gets, rules)

abbrev lending : Message
lending = record { destination = 1; kind = send; reply = present send (to_port 2); id = 7; body = Body.raw [] }

abbrev lending_header : Header
lending_header = record { remote_kind = 19; local_kind = 20; size = 24; remote = 2; local = 3; sequence = 0; id = 7 }

abbrev lending_first : State
lending_first = with_made CopySend 1 0 2 (in_message 1 0) w6

abbrev lending_copied : State
lending_copied = with_made MakeSend 2 0 3 (in_message 1 0) lending_first

lends : Copied 0 lending_header (WireBody.raw []) w6 lending lending_copied
lends = record {
  first = lending_first;
  second = lending_copied;
  destination = makes 1 CopySend refl sender_found (omega arith) refl refl;
  kind = refl;
  reply = ((MakeSend, refl, refl), makes 2 MakeSend refl lent_found (omega arith) refl refl);
  id = refl;
  body = (refl, refl);
}

abbrev w7 : State
w7 = with_entry 6 lending lending_copied

seventh : Plays 6 w6 (Event.Send 0 lending_text) (Reply.Code 0) w7
seventh =
    sent sixth.1 refl lending_header (WireBody.raw []) lending lending_copied (good_text lending_text (omega arith) refl (omega arith) (grind arith))
    (spelled refl (omega arith) (omega arith) refl) lends (λ p. omega arith) (omega arith) (omega arith)

-- ---- asking to be told when it has none

own_found : lookup w7 0 1 ≡ Some (Target.port 0)
own_found = grind (gets, rules)

abbrev asked : Request
asked = no_senders 2

abbrev w8_copied : State
w8_copied = with_made MakeSendOnce 0 0 1 (in_request asked) w7

abbrev w8 : State
w8 = record w8_copied { stands = request_at w7.stands asked true }

eighth_guards : NoneHolds (guards w7 (Event.RequestNotification 0 3 70 0 1 21))
eighth_guards = asks_well w7 0 3 70 0 1 21 MakeSendOnce (Target.port 0) refl (inr (inl refl)) (λ h. omega (arith, h)) (inr refl) refl own_found (omega arith) tt

eighth_requests : Requests 0 3 70 0 1 21 0 w7 w8 []
eighth_requests = record {
  request = asked;
  copied = w8_copied;
  back = w8_copied;
  copy = inr ((λ e. cc), (0, makes 0 MakeSendOnce refl own_found (omega arith) refl refl, inr (inr ((λ h. omega (arith, h.0)), (λ n is at. cc), refl, refl))));
  on = inr (inl (refl, (2, lent_found, refl)));
  given_back = inl (seventh.1.quiet.none_stands asked, refl, refl);
}

eighth : Step 7 w7 (Event.RequestNotification 0 3 70 0 1 21) (Reply.Previous 0) w8 × IsLawful w8
unfolding eighth_requests
eighth = requested asked 0 [] seventh.1 eighth_guards eighth_requests (port_noted w7 w8_copied 0 3 70 0 1 2 (inr refl) lent_found (omega arith) (omega arith) (grind (gets, rules))) (λ h. omega arith) refl (λ p. omega arith) (λ p. omega arith) (not_made w7.stands asked)

own_asked : lookup w8 0 1 ≡ Some (Target.port 0)
own_asked = grind (gets, rules)

ninth : Step 8 w8 (Event.Receive 0 1 32 false) (Reply.Empty (Waited.Port 0)) w8
ninth = none_there 0 eighth.1 refl own_asked (omega arith) refl refl

-- ---- the port with the queue dies

abbrev w10_mid : State
w10_mid = record (without_name 1 1 w8) {
  ledger = token send_once 0 (in_request asked) ∷ token send 2 (in_message 1 0) ∷ token send 1 (in_message 1 0) ∷ token receive 2 (in_task 0) ∷ token send 1 (in_task 0)
      ∷ token receive 0 (in_task 0) ∷ [];
}

destroys : Destroys 1 1 w8 w10_mid []
destroys = (Target.port 1, other_named, (loses_one (is_either 1 1) (token receive 1 (in_task 1)) refl refl (λ h. omega arith), refl, refl))

good : NoneHolds (guards w8 (Event.Destroy 1 1))
good = ((λ h. cc), (used other_named, tt))

mid : MidLawful w10_mid []
mid = Does-mid 9 w8 (Event.Destroy 1 1) (Reply.Code 0) w10_mid [] good (refl, destroys) tt eighth.1

abbrev begun : Ending
begun = start [] w10_mid.ledger

abbrev doomed : Ending
doomed = doom 1 begun

abbrev right_lost : Ending
right_lost = lose (token send 2 (in_message 1 0)) doomed

abbrev buried : Ending
buried = bury 1 right_lost

abbrev told : Ending
told = tell 1 2 buried

alone : (r : Request) → w10_mid.stands r ≡ true → r ≡ asked
alone r is = made_alone w7.stands asked seventh.1.quiet.none_stands r (stood_before w8.stands (dead_name 1 1) r is)

none_carried : NoneCarried w8.ledger
none_carried p k q = let z = seventh.1.quiet.none_carried p k q in omega (arith, z)

judged : (e : Ending) → listed e.doomed 1 ≡ true → AreJudged w10_mid e
judged = one_judged w8 w10_mid 1 1 eighth.1 none_carried refl (λ h. omega arith)

reached : IsReached w8 w10_mid [] told
reached =
    let a : IsReached w8 w10_mid [] begun = begins begun (start_is w10_mid [] [] refl (λ k d below. absurd (omega (arith, below))) (λ h. omega arith)) in
    let b : IsReached w8 w10_mid [] doomed = then_doomed mid a 1 (inl (refl, refl)) refl (λ s. let f = s.stands in cc) in
    let c : IsReached w8 w10_mid [] right_lost = then_lost mid b (token send 2 (in_message 1 0)) (judged doomed refl) refl refl (omega arith) in
    let d : IsReached w8 w10_mid [] buried = then_buried mid c 1 (judged right_lost refl) refl refl (λ r stands of. let e = subst (IsRequestOf w10_mid 1) (alone r stands) of in omega (arith, e)) in
    then_told mid d 2 (judged buried refl) refl refl (omega arith) refl refl

port_of : (a b : ℕ) → no_senders a ≡ no_senders b → a ≡ b
port_of a b e = cc

done : IsDone w8 w10_mid told
done = grind (arith, judged, one_all, port_of, alone)

abbrev w10 : State
w10 = end_of 9 w10_mid told

dies : Leads 9 w8 w10_mid (Event.Destroy 1 1) (Reply.Code 0) w10
dies = ends eighth.1 good (refl, destroys) tt told reached done

tenth : Plays 9 w8 (Event.Destroy 1 1) (Reply.Code 0) w10
tenth = grind (arith, dies, none_carried, not_carried, none_stand_after, alone)

-- ---- and whoever asked is told

own_mid : lookup w10_mid 0 1 ≡ Some (Target.port 0)
own_mid = grind (gets, rules)

own_still : lookup w10 0 1 ≡ Some (Target.port 0)
own_still = dies.names 0 1 ∙ ap (option_map (settled_target w10_mid w10 0 1)) own_mid

abbrev w11 : State
w11 = without_front 0 (token receive 2 (in_task 0) ∷ token receive 0 (in_task 0) ∷ []) w10

eleventh : Plays 10 w10 (Event.Receive 0 1 32 false) (Reply.Message last_sender_text) w11
eleventh =
    received tenth.1 refl own_still (omega arith) refl
    (receives 0 0 1 (notice_entry 9 0 (no_more_senders 1)) (WireBody.raw (word 0x10012002 ++ word 1)) (token receive 2 (in_task 0) ∷ token receive 0 (in_task 0) ∷ []) refl (λ h. omega arith) (refl, refl) refl refl own_still
    (spelled refl (omega arith) (omega arith) refl) (omega arith))

pub senderless_run : (s : State) × Run senderless_events senderless_replies s
senderless_run =
    (w11, (s1, first.0, (b2, second.0, (b3, third.0, (b4, fourth.0, (x5, fifth.0, (w6, sixth.0, (w7, seventh.0, (w8, eighth.0, (w8, ninth, (w10, tenth.0, (w11, eleventh.0, refl))))))))))))
