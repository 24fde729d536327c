-- Notices that are told at once are a run.
use Rattle.std.proofs.Common.{◌≡◌, ℕ, ◌<◌, [], ◌∷◌, Option, Some, refl, sym, ap, subst, ◌∙◌, arith, inl, inr, false, rules, ◌++◌}
use Rattle.std.specs.Prelude.{is_some}
use Rattle.std.specs.FinMap as map
use Rattle.std.specs.FinMap.{gets}
use Rattle.mach_types.specs.declared.calls.Event.{Event}
use Rattle.mach_types.specs.declared.calls.Reply.{Reply}
use Rattle.mach_types.specs.declared.rights.Disposition.TheVariants.{MakeSendOnce}
use Rattle.mach_types.specs.Guards.{NoneHolds}
use Rattle.mach_types.specs.Tokens.{send_once, no_senders, dead_name, in_task, in_request, token}
use Rattle.mach_types.specs.Grammar.{WireBody, word}
use Rattle.mach_model.specs.State.{State, Target, lookup, with_name, without_name, IsFresh}
use Rattle.mach_model.specs.NameGuards.{HasReference, IsSet}
use Rattle.mach_model.specs.Requests.{Requests}
use Rattle.mach_model.specs.Notices.{right_unused, no_more_senders, name_died}
use Rattle.mach_model.specs.Refusals.{guards}
use Rattle.mach_model.specs.Machine.{Run}
use Rattle.mach_model.proofs.Midway.{NoRequests}
use Rattle.mach_model.proofs.StepLawful.{without_stands}
use Rattle.mach_laws.specs.Telling.{unused_text, no_senders_text, name_died_text, telling_events, telling_replies}
use Rattle.mach_laws.proofs.Playing.{Plays, with_made, with_extracted, without_front, spelled, makes, allocated, once_extracted, received, receives, references_told, used, s1, s2, first, second, port_named, fresh_two}
use Rattle.mach_laws.proofs.Dying.{notice_entry, with_notice, loses_once, keeps_rights, tells, asks_well, port_noted}

-- ---- a send-once right is made, and lost

abbrev t3 : State
t3 = with_extracted 0 1 0 2 0 s2

once_named : lookup t3 0 2 ≡ Some (Target.once 0)
once_named = grind (gets, rules)

third : Plays 2 s2 (Event.ExtractRight 0 1 21 0) (Reply.Right 2 18) t3
third = once_extracted second.1 refl 0 refl port_named (omega arith) fresh_two (grind (gets, rules)) (omega arith) refl

abbrev t4_mid : State
t4_mid = record (without_name 0 2 t3) { ledger = s2.ledger }

abbrev t4 : State
t4 = with_notice 3 0 right_unused t4_mid

none_stands : NoRequests t4_mid.stands
none_stands = without_stands 0 2 t3.stands third.1.quiet.none_stands

fourth : Plays 3 t3 (Event.Deallocate 0 2) (Reply.Code 0) t4
fourth =
    tells send_once 0 (in_task 0) right_unused third.1 ((λ h. cc), (used once_named, ((λ h. h (subst (HasReference t3 0) (sym once_named) tt)), tt)))
    (refl, inr (inl (0, record { found = once_named; rest = refl; tokens = λ h. omega arith }, refl))) tt
    (loses_once third.1 0 0 (λ h. omega arith) refl none_stands) refl (λ place. refl)

four_named : lookup t4 0 1 ≡ Some (Target.port 0)
four_named = grind (gets, rules)

abbrev t5 : State
t5 = without_front 0 s2.ledger t4

fifth : Plays 4 t4 (Event.Receive 0 1 24 false) (Reply.Message unused_text) t5
fifth =
    received fourth.1 refl four_named (omega arith) refl
    (receives 0 0 1 (notice_entry 3 0 right_unused) (WireBody.raw []) s2.ledger refl (λ h. omega arith) (refl, refl) refl refl four_named
    (spelled refl (omega arith) (omega arith) refl) (omega arith))

-- ---- a port that has no senders already

abbrev t6_copied : State
t6_copied = with_made MakeSendOnce 0 0 1 (in_request (no_senders 0)) t5

abbrev t6_mid : State
t6_mid = record t6_copied { ledger = s2.ledger }

abbrev t6 : State
t6 = with_notice 5 0 (no_more_senders 0) t6_mid

five_named : lookup t5 0 1 ≡ Some (Target.port 0)
five_named = grind (gets, rules)

sixth_guards : NoneHolds (guards t5 (Event.RequestNotification 0 1 70 0 1 21))
sixth_guards = asks_well t5 0 1 70 0 1 21 MakeSendOnce (Target.port 0) refl (inr (inl refl)) (λ h. omega (arith, h)) (inr refl) refl five_named (omega arith) tt

sixth_requests : Requests 0 1 70 0 1 21 0 t5 t6_mid ((token send_once 0 (in_request (no_senders 0)), no_more_senders 0) ∷ [])
sixth_requests = record {
  request = no_senders 0;
  copied = t6_copied;
  back = t6_copied;
  copy = inr ((λ e. cc), (0, makes 0 MakeSendOnce refl five_named (omega arith) refl refl, inl (0, refl, (omega arith, omega arith), (λ h. omega arith), refl, refl)));
  on = inr (inl (refl, (0, five_named, refl)));
  given_back = inl (third.1.quiet.none_stands (no_senders 0), refl, refl);
}

sixth : Plays 5 t5 (Event.RequestNotification 0 1 70 0 1 21) (Reply.Previous 0) t6
unfolding sixth_requests
sixth = tells send_once 0 (in_request (no_senders 0)) (no_more_senders 0) fifth.1 sixth_guards sixth_requests (port_noted t5 t6_copied 0 1 70 0 1 0 (inr refl) five_named (omega arith) (omega arith) (grind (gets, rules))) (keeps_rights fifth.1 (λ h. omega arith) refl none_stands) refl (λ place. refl)

abbrev t7 : State
t7 = without_front 0 s2.ledger t6

six_named : lookup t6 0 1 ≡ Some (Target.port 0)
six_named = grind (gets, rules)

seventh : Plays 6 t6 (Event.Receive 0 1 32 false) (Reply.Message no_senders_text) t7
seventh =
    received sixth.1 refl six_named (omega arith) refl
    (receives 0 0 1 (notice_entry 5 0 (no_more_senders 0)) (WireBody.raw (word 0x10012002 ++ word 0)) s2.ledger refl (λ h. omega arith) (refl, refl) refl refl six_named
    (spelled refl (omega arith) (omega arith) refl) (omega arith))

-- ---- a name that is dead already

seven_named : lookup t7 0 1 ≡ Some (Target.port 0)
seven_named = grind (gets, rules)

two_fresh : IsFresh (t7.naming 0) 2
two_fresh = record {
  unused = grind (gets, rules);
  not_null = omega arith;
  least = λ n above below. (let one : n ≡ 1 = omega (arith, above, below) in ap is_some (ap (map.get (t7.naming 0)) one ∙ seven_named));
}

abbrev t8 : State
t8 = with_name 0 2 (Target.dead 1) t7

eighth : Plays 7 t7 (Event.Allocate 0 4) (Reply.Name 2) t8
eighth = allocated seventh.1 refl two_fresh (grind (gets, rules)) (omega arith) (inr (inr (refl, refl)))

eight_named : lookup t8 0 1 ≡ Some (Target.port 0)
eight_named = grind (gets, rules)

one_dead : lookup t8 0 2 ≡ Some (Target.dead 1)
one_dead = grind (gets, rules)

abbrev t9_copied : State
t9_copied = with_made MakeSendOnce 0 0 1 (in_request (dead_name 0 2)) t8

abbrev t9_mid : State
t9_mid = record (with_name 0 2 (Target.dead 2) t9_copied) { ledger = s2.ledger }

abbrev t9 : State
t9 = with_notice 8 0 (name_died 2) t9_mid

ninth_guards : NoneHolds (guards t8 (Event.RequestNotification 0 2 72 1 1 21))
ninth_guards = asks_well t8 0 2 72 1 1 21 MakeSendOnce (Target.port 0) refl (inr (inr refl)) (λ h. omega (arith, h)) (inr refl) refl eight_named (omega arith) tt

as_many : (o : Option Target) (a b : ℕ) → o ≡ Some (Target.dead a) → o ≡ Some (Target.dead b) → a ≡ b
as_many o a b e f = cc

ninth_requests : Requests 0 2 72 1 1 21 0 t8 t9_mid ((token send_once 0 (in_request (dead_name 0 2)), name_died 2) ∷ [])
ninth_requests = record {
  request = dead_name 0 2;
  copied = t9_copied;
  back = t9_copied;
  copy = inr ((λ e. cc), (0, makes 0 MakeSendOnce refl eight_named (omega arith) refl refl, inr (inl (1, refl, one_dead, (λ h. omega arith), refl, refl))));
  on = inr (inr (refl, refl));
  given_back = inl (seventh.1.quiet.none_stands (dead_name 0 2), refl, refl);
}

few : map.len (t8.naming 0) < 65535
few = grind (gets, rules)

ninth : Plays 8 t8 (Event.RequestNotification 0 2 72 1 1 21) (Reply.Previous 0) t9
unfolding ninth_requests
ninth = tells send_once 0 (in_request (dead_name 0 2)) (name_died 2) eighth.1 ninth_guards ninth_requests (used one_dead, ((λ h. elim h [ inl e ↦ elim e.0 [ inl f ↦ omega (arith, f) | inr f ↦ omega (arith, f) ] | inr e ↦ subst IsSet one_dead e.1 ]), ((λ h. elim h.2 [ inl e ↦ omega (arith, e) | inr e ↦ omega (arith, e) ]), ((λ h. let e = as_many (lookup t8 0 2) 1 65535 one_dead h.1 in omega (arith, e)), ((λ h. elim h [ inl e ↦ omega (arith, e) | inr e ↦ omega (arith, e.0, few) ]), tt))))) (keeps_rights eighth.1 (λ h. omega arith) refl none_stands) refl (λ place. refl)

nine_named : lookup t9 0 1 ≡ Some (Target.port 0)
nine_named = grind (gets, rules)

abbrev t10 : State
t10 = without_front 0 s2.ledger t9

tenth : Plays 9 t9 (Event.Receive 0 1 32 false) (Reply.Message name_died_text) t10
tenth =
    received ninth.1 refl nine_named (omega arith) refl
    (receives 0 0 1 (notice_entry 8 0 (name_died 2)) (WireBody.raw (word 0x1001200f ++ word 2)) s2.ledger refl (λ h. omega arith) (refl, refl) refl refl nine_named
    (spelled refl (omega arith) (omega arith) refl) (omega arith))

two_dead : lookup t10 0 2 ≡ Some (Target.dead 2)
two_dead = grind (gets, rules)

eleventh : Plays 10 t10 (Event.GetRefs 0 2 4) (Reply.Refs 2) t10
eleventh = references_told tenth.1 refl (Target.dead 2) two_dead (omega arith)

pub telling_run : (s : State) × Run telling_events telling_replies s
telling_run = (t10, (s1, first.0, (s2, second.0, (t3, third.0, (t4, fourth.0, (t5, fifth.0, (t6, sixth.0, (t7, seventh.0, (t8, eighth.0, (t9, ninth.0, (t10, tenth.0, (t10, eleventh.0, refl))))))))))))
