-- The life of a dead name is a run.
use Rattle.std.proofs.Common.{◌≡◌, ℕ, [], ◌∷◌, Some, refl, sym, ap, subst, ◌∙◌, inl, inr, arith, rules}
use Rattle.std.specs.Prelude.{pos, map as list_map}
use Rattle.std.specs.FinMap as map
use Rattle.std.specs.FinMap.{gets, len-empty, entries-insert}
use Rattle.std.specs.FinMap.Entries.{put}
use Rattle.std.specs.Ordering.{nat_cmp}
use Rattle.std.specs.Cmp.{nat_cmp_total}
use Rattle.std.proofs.lemmas.Bool.Decides.{eqb_tells}
use Rattle.std.proofs.lemmas.List.{nil_from_length}
use Rattle.mach_types.specs.declared.calls.Event.{Event}
use Rattle.mach_types.specs.declared.calls.Reply.{Reply}
use Rattle.mach_types.specs.Guards.{NoneHolds}
use Rattle.mach_model.specs.State.{State, Target, at, lookup, with_name, without_name}
use Rattle.mach_model.specs.Names.{renamed_requests}
use Rattle.mach_model.specs.Telling.{names_of, type_of}
use Rattle.mach_model.specs.NameGuards.{HasReference}
use Rattle.mach_model.specs.Refusals.{guards}
use Rattle.mach_model.specs.Machine.{Run}
use Rattle.mach_model.proofs.Names.{alike}
use Rattle.mach_laws.specs.Naming.{naming_events, naming_replies}
use Rattle.mach_laws.proofs.Playing.{Plays, plays, fresh_one, used, refused, allocated, references_told, no_type, s1, first}

-- ---- a dead name, and two more references

abbrev n2 : State
n2 = with_name 0 1 (Target.dead 1) s1

abbrev n3 : State
n3 = with_name 0 1 (Target.dead 3) n2

second : Plays 1 s1 (Event.Allocate 0 4) (Reply.Name 1) n2
second = allocated first.1 refl fresh_one (grind (gets, rules)) (omega arith) (inr (inr (refl, refl)))

one_at_one : lookup n2 0 1 ≡ Some (Target.dead 1)
one_at_one = grind (gets, rules)

third_guards : NoneHolds (guards n2 (Event.ModRefs 0 1 4 (pos 2)))
third_guards = grind (arith, one_at_one, used)

third : Plays 2 n2 (Event.ModRefs 0 1 4 (pos 2)) (Reply.Code 0) n3
third = plays second.1 tt (λ h. elim h.0 [ inl e ↦ omega (arith, e) | inr e ↦ omega (arith, e) ]) third_guards (refl, inr (inl (1, 3, refl, one_at_one, refl, refl, refl))) tt

-- ---- another name, and a reference less

abbrev n4 : State
n4 = record n3 {
  naming = at n3.naming 0 (map.insert (map.remove (n3.naming 0) 1) 7 (Target.dead 3));
  stands = renamed_requests 0 1 7 n3.stands;
}

abbrev n5 : State
n5 = with_name 0 7 (Target.dead 2) n4

three_at_one : lookup n3 0 1 ≡ Some (Target.dead 3)
three_at_one = grind (gets, rules)

three_at_seven : lookup n4 0 7 ≡ Some (Target.dead 3)
three_at_seven = grind (gets, rules)

two_at_seven : lookup n5 0 7 ≡ Some (Target.dead 2)
two_at_seven = grind (gets, rules)

fourth : Plays 3 n3 (Event.Rename 0 1 7) (Reply.Code 0) n4
fourth =
    plays third.1 tt tt
    ((λ h. cc), ((λ h. elim h [ inl e ↦ omega (arith, e) | inr e ↦ omega (arith, e) ]), (used three_at_one, ((λ h. h (grind (gets, rules))), tt))))
    (refl, record { target = Target.dead 3; found = three_at_one; rest = refl; tokens = λ h. refl }, refl) tt

fifth : Plays 4 n4 (Event.Deallocate 0 7) (Reply.Code 0) n5
fifth =
    plays fourth.1 tt (λ h. let e = three_at_seven in let f = h.1 in cc)
    ((λ h. cc), (used three_at_seven, ((λ h. h (subst (HasReference n4 0) (sym three_at_seven) tt)), tt)))
    (refl, inr (inr (3, record { found = three_at_seven; rest = refl; tokens = λ h. refl }, refl))) tt

-- ---- it is the one name

only_seven : n5.naming 0 ≡ map.insert map.empty 7 (Target.dead 2)
only_seven = alike _ _ (λ q. elim (eqb_tells q 7) [ inl h ↦ rw h.1 (grind (gets, rules)) | inr h ↦ elim (eqb_tells q 1) [ inl g ↦ rw g.1 (grind (gets, rules)) | inr g ↦ grind (gets, rules) ] ])

no_entries : map.entries (map.empty {K = ℕ} {X = Target} {R = nat_cmp}) ≡ []
no_entries = nil_from_length (map.entries map.empty) (sym (map.len-entries map.empty) ∙ len-empty nat_cmp Target)

listed : (7, 0x00100000) ∷ [] ≡ names_of n5 0
listed = sym (ap (list_map (λ e. (e.0, type_of n5 0 e.0 e.1))) (ap map.entries only_seven ∙ entries-insert nat_cmp_total map.empty 7 (Target.dead 2) ∙ ap (put nat_cmp 7 (Target.dead 2)) no_entries))

sixth : Plays 5 n5 (Event.Names 0) (Reply.Names ((7, 0x00100000) ∷ [])) n5
sixth = plays fifth.1 tt tt ((λ h. cc), tt) (refl, refl) listed

seventh : Plays 6 n5 (Event.GetRefs 0 7 4) (Reply.Refs 2) n5
seventh = references_told sixth.1 refl (Target.dead 2) two_at_seven (omega arith)

eighth : Plays 7 n5 (Event.AllocateName 0 1 7) (Reply.Code 13) n5
eighth = grind (arith, refused, seventh, used, two_at_seven)

-- ---- it goes

abbrev n6 : State
n6 = without_name 0 7 n5

ninth_guards : NoneHolds (guards n5 (Event.Destroy 0 7))
ninth_guards = grind (arith, used, two_at_seven)

ninth : Plays 8 n5 (Event.Destroy 0 7) (Reply.Code 0) n6
ninth = plays eighth.1 tt (λ h. elim h [ inl e ↦ (let f = two_at_seven in let g = e.1 in cc) | inr e ↦ (let f = two_at_seven in let g = e.1 in cc) ]) ninth_guards (refl, (Target.dead 2, two_at_seven, (refl, refl))) tt

tenth : Plays 9 n6 (Event.NameType 0 7) (Reply.Code 15) n6
tenth = no_type ninth.1 refl (grind (gets, rules))

pub naming_run : (s : State) × Run naming_events naming_replies s
naming_run = (n6, (s1, first.0, (n2, second.0, (n3, third.0, (n4, fourth.0, (n5, fifth.0, (n5, sixth.0, (n5, seventh.0, (n5, eighth.0, (n6, ninth.0, (n6, tenth.0, refl)))))))))))
