-- A port that dies is a run: whoever asked about its name is told.
use Rattle.std.proofs.Common.{◌≡◌, [], ◌∷◌, ◌++◌, Some, refl, sym, ap, subst, ◌∙◌, inl, inr, arith, false, true, Bool, ◌+◌, rules}
use Rattle.std.specs.Prelude.{option_map, if◌then◌else◌}
use Rattle.std.specs.FinMap.{gets}
use Rattle.mach_types.specs.declared.calls.Event.{Event}
use Rattle.mach_types.specs.declared.calls.Reply.{Reply}
use Rattle.mach_types.specs.declared.rights.Disposition.TheVariants.{MakeSendOnce}
use Rattle.mach_types.specs.Rights.{request_bit}
use Rattle.mach_types.specs.Guards.{NoneHolds}
use Rattle.mach_types.specs.Tokens.{receive, send, send_once, Request, dead_name, in_task, in_request, token}
use Rattle.mach_types.specs.Grammar.{WireBody, word}
use Rattle.mach_model.specs.State.{State, Target, lookup, without_name, request_at}
use Rattle.mach_model.specs.Notices.{name_died}
use Rattle.mach_model.specs.Settles.{settled_target}
use Rattle.mach_model.specs.Requests.{Requests}
use Rattle.mach_model.specs.References.{is_either, Destroys}
use Rattle.mach_model.specs.Refusals.{guards}
use Rattle.mach_model.specs.Machine.{Step, Run}
use Rattle.mach_model.specs.Turns.{Ending, IsNameOf, IsReached, begins, IsDone, AreJudged, listed}
use Rattle.mach_model.specs.Lawful.{IsLawful}
use Rattle.mach_model.specs.Midway.{MidLawful}
use Rattle.mach_model.proofs.Midway.{NoneCarried}
use Rattle.mach_model.proofs.StepLawful.{Does-mid}
use Rattle.mach_model.proofs.TurnsMade.{start, start_is, doom, end_request, bury}
use Rattle.mach_model.proofs.TurnsSettle.{end_of}
use Rattle.mach_model.proofs.TurnsCounted.{one_all}
use Rattle.mach_laws.specs.Dying.{port_died_text, dying_events, dying_replies}
use Rattle.mach_laws.proofs.Playing.{Plays, with_made, without_front, spelled, makes, receives, received, references_told, type_told, used, s1, first}
use Rattle.mach_laws.proofs.Dying.{notice_entry, x5, fifth, own_named, sender_named, other_named, asks_well, name_noted, requested, looked, made_alone, not_made, stood_before, none_stand_after, Leads, ends, loses_one, then_doomed, then_buried_one, one_judged, not_carried}
use Rattle.mach_laws.proofs.Gathering.{b2, b3, b4, second, third, fourth}

-- ---- asking to be told

abbrev asked : Request
asked = dead_name 0 2

abbrev t6_copied : State
t6_copied = with_made MakeSendOnce 0 0 1 (in_request asked) x5

abbrev t6 : State
t6 = record t6_copied { stands = request_at x5.stands asked true }

sixth_guards : NoneHolds (guards x5 (Event.RequestNotification 0 2 72 0 1 21))
sixth_guards = asks_well x5 0 2 72 0 1 21 MakeSendOnce (Target.port 0) refl (inr (inr refl)) (λ h. omega (arith, h)) (inr refl) refl own_named (omega arith) tt

sixth_requests : Requests 0 2 72 0 1 21 0 x5 t6 []
sixth_requests = record {
  request = asked;
  copied = t6_copied;
  back = t6_copied;
  copy = inr ((λ e. cc), (0, makes 0 MakeSendOnce refl own_named (omega arith) refl refl, inr (inr ((λ h. h), (λ n is at. let f = sender_named in cc), refl, refl))));
  on = inr (inr (refl, refl));
  given_back = inl (fifth.1.quiet.none_stands asked, refl, refl);
}

sixth : Step 5 x5 (Event.RequestNotification 0 2 72 0 1 21) (Reply.Previous 0) t6 × IsLawful t6
unfolding sixth_requests
sixth = requested asked 0 [] fifth.1 sixth_guards sixth_requests (name_noted x5 t6_copied 0 2 0 1 1 sender_named (omega arith) (grind (gets, rules))) (λ h. omega arith) refl (λ p. omega arith) (λ p. omega arith) (not_made x5.stands asked)

seventh : Step 6 t6 (Event.NameType 0 2) (Reply.NameType 0x80010000) t6
seventh = looked sixth.1 ((λ h. cc), (used sender_named, tt)) (refl, refl) (Target.port 1, sender_named, refl)

-- ---- the port dies

abbrev t8_mid : State
t8_mid = record (without_name 1 1 t6) { ledger = token send_once 0 (in_request asked) ∷ token send 1 (in_task 0) ∷ token receive 0 (in_task 0) ∷ [] }

destroys : Destroys 1 1 t6 t8_mid []
destroys = (Target.port 1, other_named, (loses_one (is_either 1 1) (token receive 1 (in_task 1)) refl refl (λ h. omega arith), refl, refl))

good : NoneHolds (guards t6 (Event.Destroy 1 1))
good = ((λ h. cc), (used other_named, tt))

mid : MidLawful t8_mid []
mid = Does-mid 7 t6 (Event.Destroy 1 1) (Reply.Code 0) t8_mid [] good (refl, destroys) tt sixth.1

own_mid : lookup t8_mid 0 1 ≡ Some (Target.port 0)
own_mid = grind (gets, rules)

sender_mid : lookup t8_mid 0 2 ≡ Some (Target.port 1)
sender_mid = grind (gets, rules)

abbrev begun : Ending
begun = start [] t8_mid.ledger

abbrev doomed : Ending
doomed = doom 1 begun

abbrev buried : Ending
buried = bury 1 (end_request asked doomed)

alone : (r : Request) → t8_mid.stands r ≡ true → r ≡ asked
alone r is = made_alone x5.stands asked fifth.1.quiet.none_stands r (stood_before t6.stands (dead_name 1 1) r is)

none_carried : NoneCarried t6.ledger
none_carried p k q = let z = fifth.1.quiet.none_carried p k q in omega (arith, z)

judged : (e : Ending) → listed e.doomed 1 ≡ true → AreJudged t8_mid e
judged = one_judged t6 t8_mid 1 1 sixth.1 none_carried refl (λ h. omega arith)

reached : IsReached t6 t8_mid [] buried
reached =
    let a : IsReached t6 t8_mid [] begun = begins begun (start_is t8_mid [] [] refl (λ k d below. absurd (omega (arith, below))) (λ h. omega arith)) in
    let b : IsReached t6 t8_mid [] doomed = then_doomed mid a 1 (inl (refl, refl)) refl (λ s. let f = s.stands in cc) in
    then_buried_one mid b 1 asked (judged doomed refl) refl refl refl refl (subst (IsNameOf 1) (sym sender_mid) refl) alone

done : IsDone t6 t8_mid buried
done = grind (arith, judged, one_all)

abbrev t8 : State
t8 = end_of 7 t8_mid buried

dies : Leads 7 t6 t8_mid (Event.Destroy 1 1) (Reply.Code 0) t8
dies = ends sixth.1 good (refl, destroys) tt buried reached done

eighth : Plays 7 t6 (Event.Destroy 1 1) (Reply.Code 0) t8
eighth = grind (arith, dies, none_carried, not_carried, none_stand_after, alone, sender_mid)

-- ---- and whoever asked is told

own_still : lookup t8 0 1 ≡ Some (Target.port 0)
own_still = dies.names 0 1 ∙ ap (option_map (settled_target t8_mid t8 0 1)) own_mid

sender_dead : lookup t8 0 2 ≡ Some (Target.dead 2)
sender_dead = dies.names 0 2 ∙ ap (option_map (settled_target t8_mid t8 0 2)) sender_mid

ninth : Plays 8 t8 (Event.GetRefs 0 2 4) (Reply.Refs 2) t8
ninth = references_told eighth.1 refl (Target.dead 2) sender_dead (omega arith)

abbrev t10 : State
t10 = without_front 0 (token receive 0 (in_task 0) ∷ []) t8

tenth : Plays 9 t8 (Event.Receive 0 1 32 false) (Reply.Message port_died_text) t10
tenth =
    received ninth.1 refl own_still (omega arith) refl
    (receives 0 0 1 (notice_entry 7 0 (name_died 2)) (WireBody.raw (word 0x1001200f ++ word 2)) (token receive 0 (in_task 0) ∷ []) refl (λ h. omega arith) (refl, refl) refl refl own_still
    (spelled refl (omega arith) (omega arith) refl) (omega arith))

eleventh : Plays 10 t10 (Event.NameType 0 2) (Reply.NameType 0x00100000) t10
eleventh =
    subst (λ (b : Bool). Plays 10 t10 (Event.NameType 0 2) (Reply.NameType (0x00100000 + (if b then request_bit else 0))) t10) (tenth.1.quiet.none_stands asked)
    (type_told tenth.1 refl (Target.dead 2) sender_dead)

pub dying_run : (s : State) × Run dying_events dying_replies s
dying_run =
    (t10, (s1, first.0, (b2, second.0, (b3, third.0, (b4, fourth.0, (x5, fifth.0, (t6, sixth.0, (t6, seventh, (t8, eighth.0, (t8, ninth.0, (t10, tenth.0, (t10, eleventh.0, refl))))))))))))
