-- A port that dies with a right to answer by in its queue is a run: whoever waits is told.
use Rattle.std.proofs.Common.{◌≡◌, [], ◌∷◌, Some, refl, ap, ◌∙◌, inl, arith, false, true, rules}
use Rattle.std.specs.Prelude.{option_map}
use Rattle.std.specs.FinMap.{gets}
use Rattle.mach_types.specs.declared.calls.Event.{Event}
use Rattle.mach_types.specs.declared.calls.Reply.{Reply}
use Rattle.mach_types.specs.declared.rights.Disposition.TheVariants.{CopySend, MakeSendOnce}
use Rattle.mach_types.specs.Guards.{NoneHolds}
use Rattle.mach_types.specs.Tokens.{receive, send, send_once, port_destroyed, in_task, in_message, token}
use Rattle.mach_types.specs.Messages.{to_port, present, Body, Message}
use Rattle.mach_types.specs.Grammar.{WireBody, Header}
use Rattle.mach_model.specs.State.{State, Target, lookup, without_name}
use Rattle.mach_model.specs.Notices.{right_unused}
use Rattle.mach_model.specs.Settles.{settled_target}
use Rattle.mach_model.specs.Send.{Copied}
use Rattle.mach_model.specs.References.{is_either, Destroys}
use Rattle.mach_model.specs.Refusals.{guards}
use Rattle.mach_model.specs.Machine.{Run}
use Rattle.mach_model.specs.Turns.{Ending, IsReached, begins, IsDone, AreJudged, listed}
use Rattle.mach_model.specs.Midway.{MidLawful}
use Rattle.mach_model.proofs.Midway.{NoRequests}
use Rattle.mach_model.proofs.StepLawful.{Does-mid, without_stands}
use Rattle.mach_model.proofs.TurnsMade.{start, start_is, doom, lose, bury}
use Rattle.mach_model.proofs.TurnsSettle.{end_of}
use Rattle.mach_model.proofs.TurnsCounted.{one_all}
use Rattle.mach_laws.specs.Unanswered.{waiting_text, unanswered_events, unanswered_replies}
use Rattle.mach_laws.specs.Telling.{unused_text}
use Rattle.mach_laws.proofs.Playing.{Plays, with_made, with_entry, without_front, good_text, spelled, makes, sent, receives, received, type_told, used, s1, first}
use Rattle.mach_laws.proofs.Dying.{notice_entry, x5, fifth, own_named, sender_named, other_named, Leads, ends, loses_one, then_doomed, then_lost, then_buried, one_judged, not_carried}
use Rattle.mach_laws.proofs.Gathering.{b2, b3, b4, second, third, fourth}

-- ---- asking

abbrev waiting : Message
waiting = record { destination = 1; kind = send; reply = present send_once (to_port 0); id = 7; body = Body.raw [] }

abbrev waiting_header : Header
waiting_header = record { remote_kind = 19; local_kind = 21; size = 24; remote = 2; local = 1; sequence = 0; id = 7 }

abbrev waiting_first : State
waiting_first = with_made CopySend 1 0 2 (in_message 1 0) x5

abbrev waiting_copied : State
waiting_copied = with_made MakeSendOnce 0 0 1 (in_message 1 0) waiting_first

asks : Copied 0 waiting_header (WireBody.raw []) x5 waiting waiting_copied
asks = record {
  first = waiting_first;
  second = waiting_copied;
  destination = makes 1 CopySend refl sender_named (omega arith) refl refl;
  kind = refl;
  reply = ((MakeSendOnce, refl, refl), makes 0 MakeSendOnce refl own_named (omega arith) refl refl);
  id = refl;
  body = (refl, refl);
}

abbrev u6 : State
u6 = with_entry 5 waiting waiting_copied

sixth : Plays 5 x5 (Event.Send 0 waiting_text) (Reply.Code 0) u6
sixth =
    sent fifth.1 refl waiting_header (WireBody.raw []) waiting waiting_copied (good_text waiting_text (omega arith) refl (omega arith) (grind arith))
    (spelled refl (omega arith) (omega arith) refl) asks (λ p. omega arith) (omega arith) (omega arith)

-- ---- the port dies

abbrev u7_mid : State
u7_mid = record (without_name 1 1 u6) { ledger = token send_once 0 (in_message 1 0) ∷ token send 1 (in_message 1 0) ∷ token send 1 (in_task 0) ∷ token receive 0 (in_task 0) ∷ [] }

destroys : Destroys 1 1 u6 u7_mid []
destroys = (Target.port 1, other_named, (loses_one (is_either 1 1) (token receive 1 (in_task 1)) refl refl (λ h. omega arith), refl, refl))

good : NoneHolds (guards u6 (Event.Destroy 1 1))
good = ((λ h. cc), (used other_named, tt))

mid : MidLawful u7_mid []
mid = Does-mid 6 u6 (Event.Destroy 1 1) (Reply.Code 0) u7_mid [] good (refl, destroys) tt sixth.1.lawful

abbrev begun : Ending
begun = start [] u7_mid.ledger

abbrev doomed : Ending
doomed = doom 1 begun

abbrev answer_lost : Ending
answer_lost = lose (token send_once 0 (in_message 1 0)) doomed

abbrev buried : Ending
buried = bury 1 answer_lost

none_stands : NoRequests u7_mid.stands
none_stands = without_stands 1 1 u6.stands sixth.1.quiet.none_stands

judged : (e : Ending) → listed e.doomed 1 ≡ true → AreJudged u7_mid e
judged = one_judged u6 u7_mid 1 1 sixth.1.lawful sixth.1.quiet.none_carried refl (λ h. omega arith)

reached : IsReached u6 u7_mid [] buried
reached =
    let a : IsReached u6 u7_mid [] begun = begins begun (start_is u7_mid [] [] refl (λ k d below. absurd (omega (arith, below))) (λ h. omega arith)) in
    let b : IsReached u6 u7_mid [] doomed = then_doomed mid a 1 (inl (refl, refl)) refl (λ s. let e = none_stands (port_destroyed 1) in let f = s.stands in cc) in
    let c : IsReached u6 u7_mid [] answer_lost = then_lost mid b (token send_once 0 (in_message 1 0)) (judged doomed refl) refl refl (omega arith) in
    then_buried mid c 1 (judged answer_lost refl) refl refl (λ r stands of. let e = none_stands r in cc)

done : IsDone u6 u7_mid buried
done = grind (arith, judged, one_all, none_stands)

abbrev u7 : State
u7 = end_of 6 u7_mid buried

dies : Leads 6 u6 u7_mid (Event.Destroy 1 1) (Reply.Code 0) u7
dies = ends sixth.1.lawful good (refl, destroys) tt buried reached done

seventh : Plays 6 u6 (Event.Destroy 1 1) (Reply.Code 0) u7
seventh = grind (arith, dies, not_carried, none_stands)

-- ---- and whoever waits is told

own_mid : lookup u7_mid 0 1 ≡ Some (Target.port 0)
own_mid = grind (gets, rules)

sender_mid : lookup u7_mid 0 2 ≡ Some (Target.port 1)
sender_mid = grind (gets, rules)

own_still : lookup u7 0 1 ≡ Some (Target.port 0)
own_still = dies.names 0 1 ∙ ap (option_map (settled_target u7_mid u7 0 1)) own_mid

sender_dead : lookup u7 0 2 ≡ Some (Target.dead 1)
sender_dead = dies.names 0 2 ∙ ap (option_map (settled_target u7_mid u7 0 2)) sender_mid

abbrev u8 : State
u8 = without_front 0 (token receive 0 (in_task 0) ∷ []) u7

eighth : Plays 7 u7 (Event.Receive 0 1 24 false) (Reply.Message unused_text) u8
eighth =
    received seventh.1 refl own_still (omega arith) refl
    (receives 0 0 1 (notice_entry 6 0 right_unused) (WireBody.raw []) (token receive 0 (in_task 0) ∷ []) refl (λ h. omega arith) (refl, refl) refl refl own_still
    (spelled refl (omega arith) (omega arith) refl) (omega arith))

ninth : Plays 8 u8 (Event.NameType 0 2) (Reply.NameType 0x00100000) u8
ninth = type_told eighth.1 refl (Target.dead 1) sender_dead

pub unanswered_run : (s : State) × Run unanswered_events unanswered_replies s
unanswered_run =
    (u8, (s1, first.0, (b2, second.0, (b3, third.0, (b4, fourth.0, (x5, fifth.0, (u6, sixth.0, (u7, seventh.0, (u8, eighth.0, (u8, ninth.0, refl))))))))))
