-- What is true of the tables alone still is when a notice that carries no right is posted.
use Rattle.std.proofs.Common.{◌≡◌, ℕ, List, [], ◌∷◌, ◌++◌, refl, sym, ap, subst, arith}
use Rattle.std.specs.Prelude.{Contains}
use Rattle.std.specs.FinMap as map
use Rattle.std.specs.Ordering.{nat_cmp}
use Rattle.mach_types.specs.declared.rights.Disposition.TheVariants.{MoveReceive}
use Rattle.copyin_base.specs.declared.Carried.{Carried}
use Rattle.copyin_base.specs.declared.Mark.TheVariants as mark
use Rattle.port.specs.Ports.{PortView}
use Rattle.copyin_base.specs.declared.Notice.{Notice}
use Rattle.copyin_base.specs.Kept.{Kept}
use Rattle.copyin_base.specs.Queued.{notice_kept}
use Rattle.copyin_base.specs.Worlds.{WorldView}
use Rattle.copyin_base.proofs.Carriers.{carriers_queued}
use Rattle.copyin_base.proofs.Holders.{KeepHolders, holders_ports, put_holders}
use Rattle.copyin_base.proofs.Idle.{none_lost_by}
use Rattle.copyin_base.proofs.Requested.{requested_put}
use Rattle.copyout.proofs.GivenAll.{AreSound}
use Rattle.copyin_base.specs.Losing.{Posts}

-- a notice that carries no right
abbrev pub CarriesNone : Notice → Type 0
CarriesNone notice = (notice_kept notice).rights ≡ []

module _ (w : WorldView) (p : ℕ) (notice : Notice) (new : WorldView) (posts : Posts w p notice new) where
  abbrev v : PortView Kept
  v = posts.v

  abbrev longer : PortView Kept
  longer = record v { queue = v.queue ++ notice_kept notice ∷ [] }

  pub told_sound : CarriesNone notice → AreSound w → AreSound new
  told_sound none h =
      let ports = ap (λ (x : WorldView). x.ports.ports) posts.rest in
      record {
        holders = holders_ports w new h.holders (ap (λ (x : WorldView). x.spaces) posts.rest)
            (subst (λ (x : map.FinMap nat_cmp (PortView Kept)). KeepHolders w.ports.ports x) (sym ports) (put_holders w.ports.ports p v longer posts.there refl));
        carriers = carriers_queued w new h.carriers p v longer (notice_kept notice) posts.there (ap (λ (x : WorldView). x.ports.made) posts.rest) ports refl refl
            (λ q carries. absurd (not_listed q (subst (λ (xs : List Carried). Contains xs (record { given = MoveReceive; mark = mark.Port q })) none carries)));
        requested = requested_put w new h.requested p longer ports (ap (λ (x : WorldView). x.requests) posts.rest) (ap (λ (x : WorldView). x.spaces) posts.rest);
        none_lost = none_lost_by w new h.none_lost (ap (λ (x : WorldView). x.ports.lost) posts.rest) (ap (λ (x : WorldView). x.ports.doomed) posts.rest) (ap (λ (x : WorldView). x.ports.destroyed) posts.rest);
      }
    where
      not_listed : (q : ℕ) → Contains {X = Carried} [] (record { given = MoveReceive; mark = mark.Port q }) → ⊥
      not_listed q (i, below, is) = omega (arith, below)
