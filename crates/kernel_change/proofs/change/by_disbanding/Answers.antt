use Rattle.std.proofs.Common.{◌≡◌, ◌∙◌, Option, Some, None, ap, false, true, inl, refl, []}
use Rattle.std.specs.Prelude.{IfNone, is_some, not}
use Rattle.port.specs.Ports.{NoneIn}
use Rattle.kernel_change.specs.Changing.{disbanded}
use Rattle.kernel_change.proofs.SetMembers.{members_are, none_are}
use Rattle.kernel_change.proofs.change.by_disbanding.Goals as goal

-- what is said of no member, where there is none
of_none : {A : Type 0} (o : Option A) (P : Type 0) → IfNone o P → is_some o ≡ false → P
of_none None P p is = p
of_none (Some x) P p is = absurd (let e : true ≡ false = is in cc)

pub returns-then-is_none : goal.returns-then-is_none
returns-then-is_none c =
    let w = c.args.world.now in
    inl ([], none_are w c.args.set (of_none c.first_member.result (NoneIn w.ports c.args.set) c.first_member.ensures.none (c.is_none.ensures ∙ ap not c.if-is_none.true)), refl)

pub returns-in-Ok : goal.returns-in-Ok
returns-in-Ok c =
    inl (
      c.in-Ok.members.items,
      members_are c.args.world.now c.args.set c.in-Ok.members.items c.in-Ok.ensures.only c.in-Ok.ensures.all,
      c.with_members.ensures ∙ ap (disbanded c.args.set) c.as_slice.ensures.value,
    )
