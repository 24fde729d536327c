-- Tables that show a state: each right that a task has is for a port that is there.
use Rattle.std.proofs.Common.{◌≡◌, ℕ, true, Option, Some, None, refl, sym, ap, ◌∙◌}
use Rattle.std.specs.Option.{option_map}
use Rattle.std.specs.FinMap as map
use Rattle.mach_types.specs.Numbers.{null_word, dead_word}
use Rattle.mach_model.specs.State.{State, Target}
use Rattle.mach_model.proofs.Settling.{named_lives, once_lives}
use Rattle.name_space.specs.declared.Entry.{Entry}
use Rattle.name_space.specs.declared.Entry.TheVariants as entry
use Rattle.name_space.specs.Names.{SpaceView}
use Rattle.copyin_base.specs.Shows.{Shows, target_of}
use Rattle.copyin_base.specs.Stands.{Stands, AreTied, IsTied}
use Rattle.name_space.specs.Entry.{port_of}
use Rattle.copyin_base.specs.Worlds.{WorldView, space_at, entry_in, entry_at}
use Rattle.copyin_base.proofs.Unused.{once_unused}

lives : (w : WorldView) (s : State) → Shows w s → (task name : ℕ) (e : Entry) (p : ℕ) → entry_at w task name ≡ Some e → port_of e ≡ Some p → s.live_port p ≡ true
lives w s sh task name (entry.Receive q) p at held = named_lives s sh.lawful task name p (sh.agrees.naming task name ∙ ap (option_map target_of) at ∙ ap (option_map Target.port) held)
lives w s sh task name (entry.Send q n) p at held = named_lives s sh.lawful task name p (sh.agrees.naming task name ∙ ap (option_map target_of) at ∙ ap (option_map Target.port) held)
lives w s sh task name (entry.ReceiveAndSend q n) p at held = named_lives s sh.lawful task name p (sh.agrees.naming task name ∙ ap (option_map target_of) at ∙ ap (option_map Target.port) held)
lives w s sh task name (entry.SendOnce q) p at held = once_lives s sh.lawful task name p (sh.agrees.naming task name ∙ ap (option_map target_of) at ∙ ap (option_map Target.once) held)
lives w s sh task name (entry.DeadName n) p at held = absurd (let e : None ≡ Some p = held in cc)
lives w s sh task name (entry.Set q) p at held = absurd (let e : None ≡ Some p = held in cc)

none_of : {X Y : Type 0} (f : X → Y) (o : Option X) → option_map f o ≡ None → o ≡ None
none_of f None e = refl
none_of f (Some x) e = absurd (let e' : Some (f x) ≡ None = e in cc)

pub stands_tied : (w : WorldView) (task : ℕ) (space : SpaceView) → Stands w → space_at w task ≡ Some space → AreTied space.names w.ports w.ledger
stands_tied w task space stands there =
    let s = stands.state in
    let sh : Shows w s = stands.shown in
    let at : (name : ℕ) → entry_at w task name ≡ map.get space.names name = λ (name : ℕ). ap (λ (o : Option SpaceView). entry_in o name) there in
    record {
      live = λ name e p is held. sh.agrees.live_port p ∙ lives w s sh task name e p (at name ∙ is) held;
      entered = λ name e p is held. (sh.agrees.counts p).entered ∙ lives w s sh task name e p (at name ∙ is) held;
      not_null = sym (at null_word) ∙ none_of target_of (entry_at w task null_word) (sym (sh.agrees.naming task null_word) ∙ (sh.lawful.naming task).not_null);
      not_dead = sym (at dead_word) ∙ none_of target_of (entry_at w task dead_word) (sym (sh.agrees.naming task dead_word) ∙ (sh.lawful.naming task).not_dead);
    }

-- What `check` and `commit` require is true of tables that show a state.
pub stands_is_tied : (w : WorldView) (task : ℕ) → Stands w → IsTied w task
stands_is_tied w task stands = record {
  tied = λ space there. stands_tied w task space stands there;
  unused = λ space there name p is.
      let s = stands.state in
      let a = stands.shown.agrees in
      once_unused s stands.shown.lawful w.ledger task name p (a.counts p)
      (a.naming task name ∙ ap (λ (o : Option SpaceView). option_map target_of (entry_in o name)) there ∙ ap (option_map target_of) is);
}
