-- A message that is destroyed as too long is a run.
use Rattle.std.proofs.Common.{◌≡◌, ℕ, [], Some, refl, ap, arith, inl, inr, true, false, Bool}
use Rattle.std.proofs.lemmas.Bool.Decides.{eqb_tells}
use Rattle.mach_types.specs.declared.calls.Event.{Event}
use Rattle.mach_types.specs.declared.calls.Reply.{Reply}
use Rattle.mach_types.specs.declared.calls.Waited.{Waited}
use Rattle.mach_types.specs.Guards.{NoneHolds}
use Rattle.mach_types.specs.Tokens.{in_message}
use Rattle.mach_model.specs.State.{State, Target, lookup, queue}
use Rattle.mach_model.specs.Send.{entry}
use Rattle.mach_model.specs.Receive.{TakesFrom, DestroysFront}
use Rattle.mach_model.specs.Refusals.{guards}
use Rattle.mach_model.specs.Machine.{Run}
use Rattle.mach_laws.specs.Destroying.{destroying_events, destroying_replies}
use Rattle.mach_laws.proofs.Playing.{one_port, Plays, without_front, plays, s1, s2, s3, first, second, third, greeting, port_named}
use Rattle.mach_laws.proofs.Dying.{loses_send, passes}

named : lookup s3 0 1 ≡ Some (Target.port 0)
named = port_named

asked : (large : Bool) → NoneHolds (guards s3 (Event.Receive 0 1 8 large))
asked large = ((λ h. cc), ((λ h. h (inl (0, named, omega arith))), ((λ h. h.2 (ap s3.sets_of (one_port (lookup s3 0 1) h.0 0 h.1 named))), tt)))

fourth : Plays 3 s3 (Event.Receive 0 1 8 true) (Reply.TooLarge 24) s3
fourth = plays third.1 tt refl (asked true) (Waited.Port 0, (named, omega arith), (0, entry 2 greeting, (refl, omega arith, refl), refl, refl, omega arith, (refl, refl))) tt

abbrev d5 : State
d5 = without_front 0 s2.ledger s3

destroys : DestroysFront 0 (entry 2 greeting) s3 d5 []
destroys = record {
  taken = d5;
  takes = record { front = refl; rest = refl; tokens = λ h. omega arith };
  loses = record { gone = []; moves = λ h. refl; passed = λ k d below. absurd (omega arith); none_left = refl };
  rest = refl;
  owed_are = refl;
}

fifth : Plays 4 s3 (Event.Receive 0 1 8 false) (Reply.TooLarge 24) d5
fifth =
    passes fourth.1 (asked false) (Waited.Port 0, (named, omega arith), (0, entry 2 greeting, (refl, omega arith, refl), refl, refl, omega arith, destroys)) tt
    (loses_send fourth.1 0 (in_message 0 0) (λ h. omega arith) refl fourth.1.quiet.none_stands)

named_still : lookup d5 0 1 ≡ Some (Target.port 0)
named_still = port_named

none_left : (p : ℕ) → TakesFrom d5 0 (Waited.Port 0) p → queue d5 p ≡ []
none_left p t = elim (eqb_tells p 0) [ inl h ↦ rw h.0 refl | inr h ↦ rw h.0 refl ]

sixth : Plays 5 d5 (Event.Receive 0 1 24 false) (Reply.Empty (Waited.Port 0)) d5
sixth =
    plays fifth.1 tt tt ((λ h. cc), ((λ h. h (inl (0, named_still, omega arith))), ((λ h. h.2 (ap d5.sets_of (one_port (lookup d5 0 1) h.0 0 h.1 named_still))), tt)))
    (Waited.Port 0, (named_still, omega arith), (refl, none_left, refl, refl)) tt

pub destroying_run : (s : State) × Run destroying_events destroying_replies s
destroying_run = (d5, (s1, first.0, (s2, second.0, (s3, third.0, (s3, fourth.0, (d5, fifth.0, (d5, sixth.0, refl)))))))
