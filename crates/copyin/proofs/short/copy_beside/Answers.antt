use Rattle.std.proofs.Common.{ap, refl, [], ◌∷◌, zero, arith}
use Rattle.copyin_base.specs.declared.Carried.{Carried}
use Rattle.copyin.proofs.Committing.{words_live}
use Rattle.copyin.proofs.Holding.{receive_is}
use Rattle.copyin.proofs.short.copy_beside.Goals as goal

pub hold_right-requires-clause-live : goal.hold_right-requires-clause-live
hold_right-requires-clause-live c = λ port is.
    let going = c.in-Body.going in
    words_live c.args.world.now c.copy_going-in-Body.new.world c.args.task (going.word ∷ []) (going.carried ∷ []) (rw c.in-Body.is at c.requires.goes) (c.copy_going-in-Body.new.world, c.copy_going-in-Body.ensures, refl)
    going.carried (zero, omega arith, refl) port (ap (λ (x : Carried). x.mark) (receive_is going.carried port is))

pub returns-in-Nothing : goal.returns-in-Nothing
returns-in-Nothing c = rw c.in-Nothing.is (record { two = c.args.world.now; reply = refl; mid = c.args.world.now; body = refl; holds = refl })

pub returns-in-Reply : goal.returns-in-Reply
returns-in-Reply c = rw c.in-Reply.is (record { two = c.copy_going.new.world; reply = (c.copy_going.new.world, c.copy_going.ensures, refl); mid = c.copy_going.new.world; body = refl; holds = refl })

pub returns-in-Body : goal.returns-in-Body
returns-in-Body c = rw c.in-Body.is (record {
  two = c.args.world.now;
  reply = refl;
  mid = c.copy_going-in-Body.new.world;
  body = (c.copy_going-in-Body.new.world, c.copy_going-in-Body.ensures, refl);
  holds = (c.hold_right.new.world, c.hold_right.ensures, refl);
})
