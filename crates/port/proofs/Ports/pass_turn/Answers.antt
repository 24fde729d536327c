use Rattle.std.proofs.Common.{◌≡◌, ℕ, Some, ap, sym, subst, ◌∙◌, slice_get, arith}
use Rattle.member_lists.specs.Lists.{list_of}
use Rattle.shared_lists.specs.Shared.{joined, parted}
use Rattle.port_base.specs.Turns.{turns_of}
use Rattle.port.proofs.Placed.{turn_key, members_there, kept-passed, view-passed}
use Rattle.port.proofs.Sound.{bare_is, opened}
use Rattle.port.proofs.Ports.pass_turn.Goals as goal

pub pass_turn-requires : goal.pass_turn-requires
pass_turn-requires g c =
    let o = opened c.self.invariant (bare_is c.self.view_is) in
    let at : c.number-list.result ≡ c.args.set = c.number-list.ensures in
    let same : c.in-Some.first ≡ c.args.port = omega arith in
    let turn : slice_get (turns_of c.args.self.now.bare.ready c.args.set) 0 ≡ Some c.args.port = sym c.in-Some.ensures.first ∙ ap (λ n. Some n) same in
    let key = turn_key o c.args.set c.args.port turn in
    record { some = λ e. members_there o c.args.set key.0 key.1 (ap (list_of c.self.inside.sets.all) (sym at) ∙ e) }

pub invariant_of-self : goal.invariant_of-self
invariant_of-self g c =
    let o = opened c.self.invariant (bare_is c.self.view_is) in
    let at : c.number-list.result ≡ c.args.set = c.number-list.ensures in
    let same : c.in-Some.first ≡ c.args.port = omega arith in
    let turn : slice_get (turns_of c.args.self.now.bare.ready c.args.set) 0 ≡ Some c.args.port = sym c.in-Some.ensures.first ∙ ap (λ n. Some n) same in
    let key = turn_key o c.args.set c.args.port turn in
    let moved : c.pass_turn.new.self ≡ record c.self.inside.sets { ready = joined (parted c.self.inside.sets.ready c.args.set key.0) c.args.set key.0 } =
    subst (λ n. (item : ℕ) → slice_get (list_of c.self.inside.sets.ready n) 0 ≡ Some item → c.pass_turn.new.self ≡ record c.self.inside.sets { ready = joined (parted c.self.inside.sets.ready n item) n item }) at c.pass_turn.ensures.some key.0 key.1 in
    kept-passed o c.args.set key.0 key.1 c.pass_turn.new.self moved

pub returns-then-number-clause-after : goal.returns-then-number-clause-after
returns-then-number-clause-after g c =
    let o = opened c.self.invariant (bare_is c.self.view_is) in
    let at : c.number-list.result ≡ c.args.set = c.number-list.ensures in
    let same : c.in-Some.first ≡ c.args.port = omega arith in
    let turn : slice_get (turns_of c.args.self.now.bare.ready c.args.set) 0 ≡ Some c.args.port = sym c.in-Some.ensures.first ∙ ap (λ n. Some n) same in
    let key = turn_key o c.args.set c.args.port turn in
    let moved : c.pass_turn.new.self ≡ record c.self.inside.sets { ready = joined (parted c.self.inside.sets.ready c.args.set key.0) c.args.set key.0 } =
    subst (λ n. (item : ℕ) → slice_get (list_of c.self.inside.sets.ready n) 0 ≡ Some item → c.pass_turn.new.self ≡ record c.self.inside.sets { ready = joined (parted c.self.inside.sets.ready n item) n item }) at c.pass_turn.ensures.some key.0 key.1 in
    record { its = λ e. view-passed o c.args.set key.0 key.1 c.pass_turn.new.self moved c.args.port turn; other = λ d. absurd (d turn) }
