use Rattle.std.proofs.Common.{List, ℕ, ap, ◌∙◌, refl, ◌∷◌, ◌++◌, []}
use Rattle.member_lists.specs.Lists.{without}
use Rattle.port_base.specs.declared.Holder.TheVariants as Holder
use Rattle.port.specs.Holding.{held}
use Rattle.port.specs.Ports.{with_port}
use Rattle.port.proofs.Sound.{relisted}
use Rattle.port.proofs.Waiting.{can_hold}
use Rattle.port.proofs.Ports.lose.Goals as goal

pub returns-clause-after : goal.returns-clause-after
returns-clause-after g c p h =
    c.set_holder.ensures.held p h
    ∙ relisted (with_port c.args.self.now.bare c.args.port (held p Holder.Nobody)) (without c.args.port c.args.self.now.bare.lost ++ c.args.port ∷ []) (without c.args.port c.args.self.now.bare.doomed) c.args.self.now.bare.noted
    (c.args.self.now.bare.lost ++ c.args.port ∷ []) c.args.self.now.bare.doomed c.args.self.now.bare.noted (record {
      lost_is = ap (λ (l : List ℕ). l ++ c.args.port ∷ []) (c.set_holder.ensures.lost p h (can_hold p.attributes.holder Holder.Nobody (λ e. e) (c.requires.held p h)));
      doomed_is = c.set_holder.ensures.doomed p h (λ is _. can_hold p.attributes.holder Holder.Doomed (λ e. e) (c.requires.held p h) is);
      noted_is = refl;
    })
