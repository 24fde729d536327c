-- A receive right that is handed on is a run.
use Rattle.std.proofs.Common.{◌≡◌, [], ◌∷◌, Some, refl, inl, inr, arith, rules}
use Rattle.std.specs.FinMap.{gets}
use Rattle.mach_types.specs.declared.calls.Event.{Event}
use Rattle.mach_types.specs.declared.calls.Reply.{Reply}
use Rattle.mach_types.specs.declared.rights.Disposition.TheVariants.{MoveReceive}
use Rattle.mach_types.specs.Guards.{NoneHolds}
use Rattle.mach_types.specs.Tokens.{receive, send, in_task, token}
use Rattle.mach_model.specs.State.{State, Target, at, lookup, without_name}
use Rattle.mach_model.specs.Transfer.{Extracts}
use Rattle.mach_model.specs.Refusals.{guards}
use Rattle.mach_model.specs.Machine.{Run}
use Rattle.mach_laws.specs.Handed.{handed_status, handing_events, handing_replies}
use Rattle.mach_laws.proofs.Playing.{Plays, plays, with_inserted, used, send_inserted, type_told, no_type, status_told, s1, first}
use Rattle.mach_laws.proofs.Gathering.{b2, b3, second, third}

abbrev h4 : State
h4 = with_inserted 1 1 0 1 0 b3

fourth : Plays 3 b3 (Event.InsertRight 1 1 0 1 20) (Reply.Code 0) h4
fourth = send_inserted third.1 refl 0 refl (grind (gets, rules)) (omega arith) (grind (gets, rules)) (omega arith) (omega arith) refl (grind (gets, rules)) (omega arith) (omega arith)

-- the receive right goes to the other task, which has a name for the port
abbrev h5 : State
h5 = record (without_name 0 1 h4) {
  sets_of = at h4.sets_of 0 [];
  make_send = at h4.make_send 0 0;
  sequence = at h4.sequence 0 0;
  ledger = token receive 0 (in_task 1) ∷ token send 0 (in_task 1) ∷ [];
}

from_found : lookup h4 0 1 ≡ Some (Target.port 0)
from_found = grind (gets, rules)

to_found : lookup h5 1 1 ≡ Some (Target.port 0)
to_found = grind (gets, rules)

fifth_guards : NoneHolds (guards h4 (Event.ExtractRight 0 1 16 1))
fifth_guards = grind (arith, used, from_found)

fifth_extracts : Extracts 0 1 16 1 1 16 h4 h5
fifth_extracts = record {
  p = 0;
  copied = h5;
  copy = record { given = MoveReceive; is_given = refl; target = Target.port 0; found = from_found; legal = omega arith; mark_is = refl; rest = refl; tokens = λ h. omega arith };
  kind_is = refl;
  named_state = h5;
  named = inl (to_found, refl);
  rest = refl;
  tokens = λ h. omega arith;
}

fifth : Plays 4 h4 (Event.ExtractRight 0 1 16 1) (Reply.Right 1 16) h5
unfolding fifth_extracts
fifth = plays fourth.1 tt tt fifth_guards (fifth_extracts, refl) ((λ h. elim h [ inl e ↦ e.1 1 to_found | inr e ↦ omega (arith, e) ]), tt)

sixth : Plays 5 h5 (Event.NameType 1 1) (Reply.NameType 0x00030000) h5
sixth = type_told fifth.1 refl (Target.port 0) to_found

seventh : Plays 6 h5 (Event.NameType 0 1) (Reply.Code 15) h5
seventh = no_type sixth.1 refl (grind (gets, rules))

eighth : Plays 7 h5 (Event.ReceiveStatus 1 1) (Reply.Status handed_status) h5
eighth = status_told seventh.1 refl 0 to_found (omega arith) refl

pub handed_run : (s : State) × Run handing_events handing_replies s
handed_run = (h5, (s1, first.0, (b2, second.0, (b3, third.0, (h4, fourth.0, (h5, fifth.0, (h5, sixth.0, (h5, seventh.0, (h5, eighth.0, refl)))))))))
