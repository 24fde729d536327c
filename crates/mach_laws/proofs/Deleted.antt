-- A task that ends while a request stands on its name is a run: whoever asked is told that the name is deleted.
use Rattle.std.proofs.Common.{◌≡◌, [], ◌∷◌, ◌++◌, Some, refl, ap, ◌∙◌, inl, inr, arith, false, true, rules}
use Rattle.std.specs.Prelude.{option_map}
use Rattle.std.specs.FinMap.{gets}
use Rattle.mach_types.specs.declared.calls.Event.{Event}
use Rattle.mach_types.specs.declared.calls.Reply.{Reply}
use Rattle.mach_types.specs.declared.calls.Waited.{Waited}
use Rattle.mach_types.specs.declared.rights.Disposition.TheVariants.{MoveSendOnce}
use Rattle.mach_types.specs.Guards.{NoneHolds}
use Rattle.mach_types.specs.Tokens.{receive, send_once, Request, dead_name, in_task, in_request, is_in_task, token}
use Rattle.mach_types.specs.Messages.{to_port}
use Rattle.mach_types.specs.Grammar.{WireBody, word}
use Rattle.mach_model.specs.State.{State, Target, lookup, without_name, request_at}
use Rattle.mach_model.specs.Tasks.{EndsTask}
use Rattle.mach_model.specs.Notices.{port_deleted}
use Rattle.mach_model.specs.Settles.{settled_target}
use Rattle.mach_model.specs.CopyIn.{CopyRight}
use Rattle.mach_model.specs.Requests.{Requests}
use Rattle.mach_model.specs.Refusals.{guards}
use Rattle.mach_model.specs.Machine.{Step, Run}
use Rattle.mach_model.specs.Turns.{Begun, Ending, PaidForName, IsReached, begins, IsDone, AreJudged, listed}
use Rattle.mach_model.specs.Lawful.{IsLawful}
use Rattle.mach_model.specs.Midway.{MidLawful}
use Rattle.mach_model.proofs.Midway.{NoRequests, NoneCarried}
use Rattle.mach_model.proofs.StepLawful.{Does-mid}
use Rattle.mach_model.proofs.TurnsMade.{start, start_is, doom, bury}
use Rattle.mach_model.proofs.TurnsSettle.{end_of}
use Rattle.mach_model.proofs.TurnsCounted.{one_all}
use Rattle.mach_laws.specs.Deleting.{name_deleted_text, deleting_events, deleting_replies}
use Rattle.mach_laws.proofs.Playing.{Plays, with_extracted, without_front, spelled, fresh_one, fresh_next, once_extracted, receives, received, s1, first}
use Rattle.mach_laws.proofs.Dying.{notice_entry, asks_well, none_there, name_noted, requested, made_alone, not_made, not_either, Leads, ends, loses_one, then_doomed, then_buried, without_task, one_judged, not_carried}
use Rattle.mach_laws.proofs.Gathering.{b2, b3, b4, second, third, fourth}

-- ---- the task gets a right to be told by, and asks about its name

abbrev e5 : State
e5 = with_extracted 0 1 1 2 0 b4

own_named : lookup b4 0 1 ≡ Some (Target.port 0)
own_named = grind (gets, rules)

fifth : Plays 4 b4 (Event.ExtractRight 0 1 21 1) (Reply.Right 2 18) e5
fifth = once_extracted fourth.1 refl 0 refl own_named (omega arith) (fresh_next (Target.port 1) fresh_one (grind (gets, rules))) (grind (gets, rules)) (omega arith) refl

once_named : lookup e5 1 2 ≡ Some (Target.once 0)
once_named = grind (gets, rules)

abbrev asked : Request
asked = dead_name 1 1

abbrev e6_copied : State
e6_copied = record (without_name 1 2 e5) { ledger = token send_once 0 (in_request asked) ∷ b4.ledger }

abbrev e6 : State
e6 = record e6_copied { stands = request_at e6_copied.stands asked true }

copies : CopyRight 1 (in_request asked) 18 2 e5 (to_port 0) e6_copied
copies = record { given = MoveSendOnce; is_given = refl; target = Target.once 0; found = once_named; legal = tt; mark_is = refl; rest = refl; tokens = λ h. omega arith }

name_found : lookup e6_copied 1 1 ≡ Some (Target.port 1)
name_found = grind (gets, rules)

sixth_guards : NoneHolds (guards e5 (Event.RequestNotification 1 1 72 0 2 18))
sixth_guards = asks_well e5 1 1 72 0 2 18 MoveSendOnce (Target.once 0) refl (inr (inr refl)) (λ h. omega (arith, h)) (inl refl) refl once_named tt tt

sixth_requests : Requests 1 1 72 0 2 18 0 e5 e6 []
sixth_requests = record {
  request = asked;
  copied = e6_copied;
  back = e6_copied;
  copy = inr ((λ e. cc), (0, copies, inr (inr ((λ h. h), (λ n is at. let f = name_found in cc), refl, refl))));
  on = inr (inr (refl, refl));
  given_back = inl (fifth.1.quiet.none_stands asked, refl, refl);
}

sixth : Step 5 e5 (Event.RequestNotification 1 1 72 0 2 18) (Reply.Previous 0) e6 × IsLawful e6
unfolding sixth_requests
sixth = requested asked 0 (token send_once 0 (in_task 1) ∷ []) fifth.1 sixth_guards sixth_requests (name_noted e5 e6_copied 1 1 0 2 1 name_found (omega arith) (grind (gets, rules))) (λ h. omega arith) refl (λ p. omega arith) (λ p. omega arith) (not_made e6_copied.stands asked)

-- ---- the task ends

abbrev e7_mid : State
e7_mid = without_task 1 (token send_once 0 (in_request asked) ∷ token receive 0 (in_task 0) ∷ []) e6

ends_task : EndsTask 1 e6 e7_mid []
ends_task = record {
  loses = loses_one (λ x. is_in_task 1 x.place) (token receive 1 (in_task 1)) refl refl (λ h. omega arith);
  rest = refl;
  owed_are = refl;
}

good : NoneHolds (guards e6 (Event.TaskTerminate 1))
good = ((λ h. cc), tt)

mid : MidLawful e7_mid []
mid = Does-mid 6 e6 (Event.TaskTerminate 1) (Reply.Code 0) e7_mid [] good (refl, ends_task) tt sixth.1

abbrev told : Begun
told = (false, (token send_once 0 (in_request asked), port_deleted 1)) ∷ []

abbrev begun : Ending
begun = start told (token receive 0 (in_task 0) ∷ [])

abbrev doomed : Ending
doomed = doom 1 begun

abbrev buried : Ending
buried = bury 1 doomed

none_carried : NoneCarried e6.ledger
none_carried p k q = let z = fourth.1.quiet.none_carried p k q in omega (arith, z)

none_stands : NoRequests e7_mid.stands
none_stands r = grind (arith, made_alone, not_either)

judged : (e : Ending) → listed e.doomed 1 ≡ true → AreJudged e7_mid e
judged = one_judged e6 e7_mid 1 1 sixth.1 none_carried refl (λ h. omega arith)

paid : PaidForName e7_mid (token send_once 0 (in_request asked), port_deleted 1)
paid = record { task = 1; name = 1; once = refl; kept = refl; went = refl; tells = refl }

reached : IsReached e6 e7_mid [] buried
reached =
    let a : IsReached e6 e7_mid [] begun =
    begins begun (start_is e7_mid [] told refl (one_all (PaidForName e7_mid) (token send_once 0 (in_request asked), port_deleted 1) paid) (λ h. omega arith)) in
    let b : IsReached e6 e7_mid [] doomed = then_doomed mid a 1 (inl (refl, refl)) refl (λ s. let f = s.stands in cc) in
    then_buried mid b 1 (judged doomed refl) refl refl (λ r stands of. let f = none_stands r in cc)

done : IsDone e6 e7_mid buried
done = grind (arith, judged, one_all, none_stands)

abbrev e7 : State
e7 = end_of 6 e7_mid buried

dies : Leads 6 e6 e7_mid (Event.TaskTerminate 1) (Reply.Code 0) e7
dies = ends sixth.1 good (refl, ends_task) tt buried reached done

seventh : Plays 6 e6 (Event.TaskTerminate 1) (Reply.Code 0) e7
seventh = grind (arith, dies, none_carried, not_carried, none_stands)

-- ---- and the other is told, once

own_mid : lookup e7_mid 0 1 ≡ Some (Target.port 0)
own_mid = grind (gets, rules)

own_still : lookup e7 0 1 ≡ Some (Target.port 0)
own_still = dies.names 0 1 ∙ ap (option_map (settled_target e7_mid e7 0 1)) own_mid

abbrev e8 : State
e8 = without_front 0 (token receive 0 (in_task 0) ∷ []) e7

eighth : Plays 7 e7 (Event.Receive 0 1 32 false) (Reply.Message name_deleted_text) e8
eighth =
    received seventh.1 refl own_still (omega arith) refl
    (receives 0 0 1 (notice_entry 6 0 (port_deleted 1)) (WireBody.raw (word 0x1001200f ++ word 1)) (token receive 0 (in_task 0) ∷ []) refl (λ h. omega arith) (refl, refl) refl refl own_still
    (spelled refl (omega arith) (omega arith) refl) (omega arith))

ninth : Step 8 e8 (Event.Receive 0 1 32 false) (Reply.Empty (Waited.Port 0)) e8
ninth = none_there 0 eighth.1.lawful refl own_still (omega arith) refl refl

pub deleting_run : (s : State) × Run deleting_events deleting_replies s
deleting_run =
    (e8, (s1, first.0, (b2, second.0, (b3, third.0, (b4, fourth.0, (e5, fifth.0, (e6, sixth.0, (e7, seventh.0, (e8, eighth.0, (e8, ninth, refl))))))))))
