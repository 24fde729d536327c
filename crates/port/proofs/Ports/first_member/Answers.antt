use Rattle.std.proofs.Common.{◌≡◌, Some, None, is_some, ap, sym, ◌∙◌, slice_get}
use Rattle.member_lists.specs.Lists.{list_of}
use Rattle.port.proofs.Readied.{first_member, member_first, none_in}
use Rattle.port.proofs.Sound.{bare_is, opened}
use Rattle.port.proofs.Turned.{turns_are}
use Rattle.port.proofs.Ports.first_member.Goals as goal

pub returns-in_err-key-clause-none : goal.returns-in_err-key-clause-none
returns-in_err-key-clause-none g c =
    let o = opened c.self.invariant (bare_is c.self.view_is) in
    let e : slice_get (list_of c.self.inside.sets.all c.args.set) 0 ≡ None = sym (c.in_err-key.ensures ∙ ap (λ n. slice_get (list_of c.self.inside.sets.all n) 0) c.number.ensures) in
    rw c.from_residual.ensures (none_in o c.args.set e (turns_are o c.args.set))

pub index-requires : goal.index-requires
index-requires g c =
    let o = opened c.self.invariant (bare_is c.self.view_is) in
    let e : slice_get (list_of c.self.inside.sets.all c.args.set) 0 ≡ Some c.in_ok-key.key = sym (c.in_ok-key.ensures ∙ ap (λ n. slice_get (list_of c.self.inside.sets.all n) 0) c.number.ensures) in
    ap is_some (first_member o c.args.set c.in_ok-key.key e).1

pub returns-clause-some : goal.returns-clause-some
returns-clause-some g c =
    let o = opened c.self.invariant (bare_is c.self.view_is) in
    let e : slice_get (list_of c.self.inside.sets.all c.args.set) 0 ≡ Some c.in_ok-key.key = sym (c.in_ok-key.ensures ∙ ap (λ n. slice_get (list_of c.self.inside.sets.all n) 0) c.number.ensures) in
    member_first o c.args.set c.in_ok-key.key c.index.result.now e c.index.ensures
