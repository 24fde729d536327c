use Rattle.std.proofs.Common.{◌≡◌, ◌∷◌, ◌+◌, ◌<◌, ℕ, List, [], ◌++◌, take, drop, arith, sym, ap, subst, ◌∙◌, refl, add-zero, append_assoc}
use Rattle.std.proofs.lemmas.List.{take_more}
use Rattle.copyin_base.specs.declared.Carried.{Carried}
use Rattle.std.specs.Option.{option_to_list}
use Rattle.copyout.specs.Room.{Needs, Marks}
use Rattle.copyout.proofs.PortsGiven.{next_item, no_item}
use Rattle.copyout.proofs.Counting.{counts_on}
use Rattle.copyout.proofs.room.count_names.Goals as goal

pub loop-i-preserved : goal.loop-i-preserved
loop-i-preserved c =
    let i = c.loop-i.i in
    let rights = c.args.rights.now in
    let x = c.index-rights-i.result in
    let more : take (i + 1) rights ≡ take i rights ++ x ∷ [] = take_more rights i x c.loop-i-test.true ∙ ap (λ (y : Carried). take i rights ++ y ∷ []) (sym c.index-rights-i.is) in
    record {
      few = let h = c.own_names-count.ensures.few in let k = c.loop-i.invariant.few in omega arith;
      some = subst (λ (n : ℕ). 0 < n) (sym c.own_names-count.ensures.some) c.loop-i.invariant.some;
      marked = subst (λ (xs : List Carried). Marks c.own_names-count.new.marks c.args.space.now.names xs)
          (append_assoc (option_to_list c.args.reply.now) (take i rights) (x ∷ []) ∙ ap (λ (xs : List Carried). option_to_list c.args.reply.now ++ xs) (sym more)) c.own_names-count.ensures.marked;
      needs = counts_on c.args.world.now.ports c.args.space.now.names (option_to_list c.args.reply.now) rights i c.loop-i.count c.own_names-count.result x
          (next_item rights i x c.loop-i-test.true c.index-rights-i.is) more c.own_names-count.ensures.needs c.loop-i.invariant.needs;
    }

pub returns : goal.returns
returns c =
    let i = c.loop-i.i in
    let rights = c.args.rights.now in
    let e : drop i rights ≡ [] = no_item rights i c.loop-i-test.false in
    let h : Needs c.args.world.now.ports c.args.space.now.names [] (option_to_list c.args.reply.now ++ rights) (c.loop-i.count + 0) =
    c.loop-i.invariant.needs 0 (subst (λ (xs : List Carried). Needs c.args.world.now.ports c.args.space.now.names (option_to_list c.args.reply.now ++ take i rights) xs 0) (sym e) refl) in
    subst (λ (n : ℕ). Needs c.args.world.now.ports c.args.space.now.names [] (option_to_list c.args.reply.now ++ rights) n) (add-zero c.loop-i.count) h
