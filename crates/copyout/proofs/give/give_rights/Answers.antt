use Rattle.std.proofs.Common.{◌≡◌, ℕ, ◌+◌, ◌++◌, [], ◌∷◌, List, length, drop, refl, sym, ap, subst, ◌∙◌, arith, append_assoc, length-append}
use Rattle.std.proofs.lemmas.List.{append-nil}
use Rattle.copyin_base.specs.declared.Carried.{Carried}
use Rattle.copyout.specs.Giving.{GivesAll}
use Rattle.copyout.specs.Ready.{CanGive}
use Rattle.copyout.proofs.PortsGiven.{can_give_one, can_give_rest, next_item, no_item}
use Rattle.copyout.proofs.give.give_rights.Goals as goal

pub give_right-name-requires : goal.give_right-name-requires
give_right-name-requires c =
    let i = c.loop-carried.carried-index in
    let e : drop i c.args.rights.now ≡ c.carried-item.result ∷ drop (i + 1) c.args.rights.now = next_item c.args.rights.now i c.carried-item.result c.loop-carried-test.true c.carried-item.is in
    can_give_one c.loop-carried.world c.args.task c.carried-item.result (drop (i + 1) c.args.rights.now)
    (subst (λ (xs : List Carried). CanGive c.loop-carried.world c.args.task xs) e c.loop-carried.invariant.can)

pub loop-carried-preserved : goal.loop-carried-preserved
loop-carried-preserved c =
    let i = c.loop-carried.carried-index in
    let e : drop i c.args.rights.now ≡ c.carried-item.result ∷ drop (i + 1) c.args.rights.now = next_item c.args.rights.now i c.carried-item.result c.loop-carried-test.true c.carried-item.is in
    let names : c.push_reserved.new.self.items ≡ c.loop-carried.names.items ++ c.give_right-name.result ∷ [] = c.push_reserved.ensures.items in
    record {
      can = can_give_rest c.loop-carried.world c.give_right-name.new.world c.args.task c.carried-item.result (drop (i + 1) c.args.rights.now) c.give_right-name.result
          (subst (λ (xs : List Carried). CanGive c.loop-carried.world c.args.task xs) e c.loop-carried.invariant.can) c.give_right-name.ensures;
      room = let h = c.loop-carried.invariant.room in let k = c.push_reserved.ensures.capacity in let a = ap length e in let b = ap length names in
          omega (arith, length-append c.loop-carried.names.items (c.give_right-name.result ∷ []));
      gives = λ more new h.
          subst (λ (ws : List ℕ). GivesAll c.args.world.now c.args.task c.args.rights.now ws new) (sym (append_assoc c.loop-carried.names.items (c.give_right-name.result ∷ []) more) ∙ ap (λ (ws : List ℕ). ws ++ more) (sym names))
          (c.loop-carried.invariant.gives (c.give_right-name.result ∷ more) new
          (subst (λ (xs : List Carried). GivesAll c.loop-carried.world c.args.task xs (c.give_right-name.result ∷ more) new) (sym e)
          (c.give_right-name.new.world, c.give_right-name.ensures, h)));
    }

pub returns : goal.returns
returns c =
    let i = c.loop-carried.carried-index in
    let e : drop i c.args.rights.now ≡ [] = no_item c.args.rights.now i c.loop-carried-test.false in
    subst (λ (ws : List ℕ). GivesAll c.args.world.now c.args.task c.args.rights.now ws c.loop-carried.world) (append-nil c.loop-carried.names.items)
    (c.loop-carried.invariant.gives [] c.loop-carried.world
    (subst (λ (xs : List Carried). GivesAll c.loop-carried.world c.args.task xs [] c.loop-carried.world) (sym e) refl))
