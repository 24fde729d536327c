use Rattle.std.proofs.Common.{◌≡◌, [], refl, sym, ap, ◌∙◌, subst, arith}
use Rattle.atomic_table.specs.Table.{Me}
use Rattle.kernel_lock.specs.declared.entry.Entry.{Entry}
use Rattle.kernel_lock.specs.declared.board.View.{View}
use Rattle.kernel_lock.specs.Views.{desk_view, pass_view, taken_in, desk_of, pass_of}
use Rattle.kernel_lock.specs.Table.{PublishesThis}
use Rattle.kernel_lock.proofs.Moves.{leaves_as, takes_in_as, publishes_as, gives_back}
use Rattle.kernel_lock.proofs.board.Board.publish.Goals as goal

pub split_seat-before-requires : goal.split_seat-before-requires
split_seat-before-requires c =
    (c.requires.pass.0 ∙ sym c.self.view_is, omega (arith, c.self.invariant), leaves_as _ _ _ _ _ _ _ (ap (λ m. m.0) c.requires.pass.1))

pub join_seat-requires : goal.join_seat-requires
join_seat-requires c =
    let s = c.split_seat-before.ensures in (
      c.requires.desk.0 ∙ sym c.self.view_is,
      s.3 ∙ c.requires.pass.0 ∙ sym c.self.view_is,
      ap (λ m. m.1) s.4,
      omega (arith, c.self.invariant),
      takes_in_as _ _ _ _ _ _ _ _ _ _ _ _ (ap (λ m. m.0) c.requires.desk.1) (ap (λ m. m.0) s.4 ∙ ap (λ m. m.0) c.requires.pass.1),
    )

pub compare_exchange_with-requires : goal.compare_exchange_with-requires
compare_exchange_with-requires c =
    let d = c.args.desk.now.me.0 in
    let p = c.args.pass.now.me.0 in
    let D : View = desk_view d.profile d.seen d.made in
    let P : View = pass_view p.profile c.args.entry.now.caller p.mine p.seen in
    let s = c.split_seat-before.ensures in
    let j = c.join_seat.ensures in
    let desk_is : d ≡ D = ap (λ m. m.0) c.requires.desk.1 in
    let pass_is : c.split_seat-before.result.me.0 ≡ P = ap (λ m. m.0) s.4 ∙ ap (λ m. m.0) c.requires.pass.1 in
    let none : c.args.desk.now.me.1 ≡ [] = ap (λ m. m.1) c.requires.desk.1 in
    let is : c.join_seat.new.seat.me ≡ (taken_in D P, []) = j.2 ∙ (λ i. (taken_in (desk_is i) (pass_is i), none i)) in (
      j.0 ∙ c.requires.desk.0 ∙ sym c.self.view_is,
      omega (arith, c.self.invariant),
      publishes_as _ _ _ _ (taken_in D P) _ _ is refl refl refl c.requires.count refl c.requires.legal,
    )

pub split_seat-requires : goal.split_seat-requires
split_seat-requires c =
    let d = c.args.desk.now.me.0 in
    let p = c.args.pass.now.me.0 in
    let D : View = desk_view d.profile d.seen d.made in
    let P : View = pass_view p.profile c.args.entry.now.caller p.mine p.seen in
    let s = c.split_seat-before.ensures in
    let j = c.join_seat.ensures in
    let desk_is : d ≡ D = ap (λ m. m.0) c.requires.desk.1 in
    let pass_is : c.split_seat-before.result.me.0 ≡ P = ap (λ m. m.0) s.4 ∙ ap (λ m. m.0) c.requires.pass.1 in
    let none : c.args.desk.now.me.1 ≡ [] = ap (λ m. m.1) c.requires.desk.1 in
    let is : c.join_seat.new.seat.me ≡ (taken_in D P, []) = j.2 ∙ (λ i. (taken_in (desk_is i) (pass_is i), none i)) in
    let x = c.compare_exchange_with.ensures in
    let told = subst (λ (m : Me Entry View). PublishesThis m c.compare_exchange_with.new.seat.me c.args.entry.now) is x.2 in
    (x.0 ∙ j.0 ∙ c.requires.desk.0 ∙ sym c.self.view_is, omega (arith, c.self.invariant), gives_back _ _ _ (ap (λ m. m.0.desk) told.0) (ap (λ m. m.0.calls) told.0))

pub returns : goal.returns
returns c =
    let d = c.args.desk.now.me.0 in
    let p = c.args.pass.now.me.0 in
    let D : View = desk_view d.profile d.seen d.made in
    let P : View = pass_view p.profile c.args.entry.now.caller p.mine p.seen in
    let s = c.split_seat-before.ensures in
    let j = c.join_seat.ensures in
    let desk_is : d ≡ D = ap (λ m. m.0) c.requires.desk.1 in
    let pass_is : c.split_seat-before.result.me.0 ≡ P = ap (λ m. m.0) s.4 ∙ ap (λ m. m.0) c.requires.pass.1 in
    let none : c.args.desk.now.me.1 ≡ [] = ap (λ m. m.1) c.requires.desk.1 in
    let is : c.join_seat.new.seat.me ≡ (taken_in D P, []) = j.2 ∙ (λ i. (taken_in (desk_is i) (pass_is i), none i)) in
    let x = c.compare_exchange_with.ensures in
    let told = subst (λ (m : Me Entry View). PublishesThis m c.compare_exchange_with.new.seat.me c.args.entry.now) is x.2 in
    let l = c.split_seat.ensures in
    let table = x.0 ∙ j.0 ∙ c.requires.desk.0 in record {
      desk = (l.0 ∙ table, l.2 ∙ (λ i. (desk_of ((told.0 i).0), (told.0 i).1)));
      pass = (l.3 ∙ table, l.4 ∙ (λ i. (pass_of ((told.0 i).0), [])));
      seen = told.1;
      mine = told.2;
      made = told.3;
      profile = told.4;
      room = omega (arith, c.requires.room, c.requires.count);
    }
