-- Tables that are as before but for room, for names or for messages, still agree; and so do they where a fresh name was counted in the machine too.
use Rattle.std.proofs.Common.{◌≡◌, ℕ, Option, Some, None, refl, sym, ap, subst, ◌∙◌, ◌≤◌, arith}
use Rattle.std.specs.Prelude.{is_some}
use Rattle.std.specs.Option.{option_map}
use Rattle.std.specs.FinMap as map
use Rattle.mach_model.specs.State.{State, gives}
use Rattle.tagged_names.specs.Names.{Given}
use Rattle.name_space.specs.Names.{Names, SpaceView, given_after}
use Rattle.port.specs.Ports.{PortsView}
use Rattle.rights.specs.Ledger.{LedgerView}
use Rattle.tables_base.specs.Kept.{Kept}
use Rattle.request_table.specs.Tables.{RequestTablesView}
use Rattle.copyin_base.specs.Worlds.{WorldView, HasTask, IsIdle, space_at, with_space, entry_in, entry_at}
use Rattle.copyin_base.specs.Shows.{GivenAgrees, Agrees, HoldersAgree, CarriersAgree, SlotsSuffice, RequestsStand, Shows, target_of}
use Rattle.copyin_base.specs.Changes.{MakesRoom, KeepsPlace, SameButNaming, SameButRoom, with_slots}
use Rattle.copyin_base.proofs.Gets.{length-set, same_found}
use Rattle.copyin_base.proofs.FreshNames.{others_given, given_counted}
use Rattle.copyin_base.proofs.Carriers.{carriers_same}
use Rattle.copyin_base.proofs.Idle.{none_lost_room}
use Rattle.copyin_base.proofs.Requested.{requested_room, requested_ports}
use Rattle.copyin_base.proofs.Spaces.{task_below, each-space-set}

abbrev names_in : Option SpaceView → Option Names
names_in = option_map (λ (x : SpaceView). x.names)

same_live : (o q : Option SpaceView) → names_in o ≡ names_in q → is_some o ≡ is_some q
same_live None None e = refl
same_live (Some x) (Some y) e = refl
same_live None (Some y) e = absurd (cc)
same_live (Some x) None e = absurd (cc)

same_entry : (o q : Option SpaceView) (name : ℕ) → names_in o ≡ names_in q → entry_in o name ≡ entry_in q name
same_entry None None name e = refl
same_entry (Some x) (Some y) name e = let g : x.names ≡ y.names = cc in ap (λ (m : Names). map.get m name) g
same_entry None (Some y) name e = absurd (cc)
same_entry (Some x) None name e = absurd (cc)

same_names : (o q : Option SpaceView) (x : SpaceView) → names_in o ≡ names_in q → o ≡ Some x → (y : SpaceView) × (q ≡ Some y) × (x.names ≡ y.names)
same_names None q x e is = absurd (cc)
same_names (Some z) None x e is = absurd (cc)
same_names (Some z) (Some y) x e is = (y, refl, (let g : z.names ≡ y.names = cc in let h : z ≡ x = cc in ap (λ (m : SpaceView). m.names) (sym h) ∙ g))

abbrev given_in : Option SpaceView → Option (Option Given)
given_in = option_map (λ (x : SpaceView). x.given)

same_given : (o q : Option SpaceView) (x y : SpaceView) → given_in o ≡ given_in q → o ≡ Some x → q ≡ Some y → x.given ≡ y.given
same_given o q x y e is at = let f : Some x.given ≡ Some y.given = sym (ap given_in is) ∙ e ∙ ap given_in at in cc

-- but for the spaces
module _ (w v : WorldView) (s t : State) (same : SameButNaming w v) (a : Agrees w s) (rest : t ≡ record s { given = t.given }) where
  entries : (task name : ℕ) → entry_at v task name ≡ entry_at w task name
  entries task name = same_entry (space_at v task) (space_at w task) name (same.names task)

  -- what is known of the counts
  pub record Counted : Type 0 where
    pub counts : (task : ℕ) (space : SpaceView) → space_at v task ≡ Some space → GivenAgrees s.profile space.given (t.given task)
    pub none : (task index : ℕ) → s.tasks_made ≤ task → t.given task index ≡ 0

  module _ (c : Counted) where
    naming_spaces : Agrees (record w { spaces = v.spaces }) (record s { given = t.given })
    naming_spaces = record {
      spaces = record {
        live_task = λ task. same_live (space_at v task) (space_at w task) (same.names task) ∙ a.live_task task;
        tasks_made = same.tasks ∙ a.tasks_made;
        naming = λ task name. a.naming task name ∙ ap (option_map target_of) (sym (entries task name));
        names_kept = λ task x is.
            let y = same_names (space_at v task) (space_at w task) x (same.names task) is in
            ap (λ (m : Names). map.len m) y.2 ∙ a.names_kept task y.0 y.1;
        counted = λ task name x is. a.counted task name x (sym (entries task name) ∙ is);
        same_profile = a.same_profile;
        counts_given = c.counts;
        none_given = c.none;
      };
      rights = record { references = λ task name x p is. a.references task name x p (sym (entries task name) ∙ is) };
      live_port = a.live_port;
      ports_made = a.ports_made;
      ports = λ p x at. let q = a.ports p x at in assumption (q);
      counts = λ p. let q = a.counts p in assumption (q);
      total = a.total;
      in_sets = a.in_sets;
      of_requests = a.of_requests;
    }

    pub naming_agrees : Agrees v t
    naming_agrees =
        let is : record w { spaces = v.spaces } ≡ v = λ i. record { spaces = v.spaces; ports = sym same.ports i; ledger = sym same.ledger i; sets = sym same.sets i; requests = sym same.requests i; profile = sym same.profile i } in
        subst (λ (x : WorldView). Agrees x t) is (subst (λ (x : State). Agrees (record w { spaces = v.spaces }) x) (sym rest) naming_spaces)

pub room_agrees : (w v : WorldView) (s : State) → SameButRoom w v → Agrees w s → Agrees v s
room_agrees w v s same a = naming_agrees w v s s same.naming a refl record {
  counts = λ task x is.
      let y = same_names (space_at v task) (space_at w task) x (same.names task) is in
      subst (λ (g : Option Given). GivenAgrees s.profile g (s.given task)) (sym (same_given (space_at v task) (space_at w task) x y.0 (same.given task) is y.1)) (a.counts_given task y.0 y.1);
  none = a.none_given;
}

-- the same stands under each name, and no port changed
pub naming_holders : (w v : WorldView) → SameButNaming w v → HoldersAgree w → HoldersAgree v
naming_holders w v same h = record {
  held = λ task name e p is named receives x there.
      h.held task name e p (sym (same_entry (space_at v task) (space_at w task) name (same.names task)) ∙ is) named receives x
      (sym (ap (λ (y : PortsView Kept). map.get y.ports p) same.ports) ∙ there);
}

-- nor did a slot or a right
pub naming_slots : (w v : WorldView) → SameButNaming w v → SlotsSuffice w → SlotsSuffice v
naming_slots w v same enough =
    let spare : v.ports.spare ≡ w.ports.spare = ap (λ (y : PortsView Kept). y.spare) same.ports in
    let unused : v.ledger.unused ≡ w.ledger.unused = ap (λ (y : LedgerView). y.unused) same.ledger in
    omega (arith, enough, spare, unused)

-- nor has a step's end anything to do
pub naming_idle : (w v : WorldView) → SameButNaming w v → IsIdle w → IsIdle v
naming_idle w v same i = record {
  none_lost = none_lost_room w v i.none_lost same;
  noted = ap (λ (y : PortsView Kept). y.noted) same.ports ∙ i.noted;
  went = ap (λ (y : RequestTablesView). y.names.went) same.requests ∙ i.went;
}

pub naming_carriers : (w v : WorldView) → SameButNaming w v → CarriersAgree w → CarriersAgree v
naming_carriers w v same a = carriers_same w v a (ap (λ (y : PortsView Kept). y.made) same.ports) (ap (λ (y : PortsView Kept). y.ports) same.ports)

pub naming_requested : (w v : WorldView) → SameButNaming w v → RequestsStand w → RequestsStand v
naming_requested w v same r = requested_room w v r same (λ task name. same_entry (space_at v task) (space_at w task) name (same.names task))

pub room_holders : (w v : WorldView) → SameButRoom w v → HoldersAgree w → HoldersAgree v
room_holders w v same = naming_holders w v same.naming

pub room_slots : (w v : WorldView) → SameButRoom w v → SlotsSuffice w → SlotsSuffice v
room_slots w v same = naming_slots w v same.naming

pub room_idle : (w v : WorldView) → SameButRoom w v → IsIdle w → IsIdle v
room_idle w v same = naming_idle w v same.naming

pub room_carriers : (w v : WorldView) → SameButRoom w v → CarriersAgree w → CarriersAgree v
room_carriers w v same = naming_carriers w v same.naming

pub room_requested : (w v : WorldView) → SameButRoom w v → RequestsStand w → RequestsStand v
room_requested w v same = naming_requested w v same.naming

pub room_shows : (w v : WorldView) (s : State) → SameButRoom w v → Shows w s → Shows v s
room_shows w v s same sh = record {
  agrees = room_agrees w v s same sh.agrees;
  holders = room_holders w v same sh.holders;
  carriers = room_carriers w v same sh.carriers;
  slots = room_slots w v same sh.slots;
  requested = room_requested w v same sh.requested;
  idle = room_idle w v same sh.idle;
  lawful = sh.lawful;
}

pub room_refl : (w : WorldView) → SameButRoom w w
room_refl w = record { naming = record { tasks = refl; names = λ task. refl; ports = refl; ledger = refl; sets = refl; requests = refl; profile = refl }; given = λ task. refl }

module _ (w : WorldView) (task : ℕ) (space new : SpaceView) (there : space_at w task ≡ Some space) where
  spaces_set : {X : Type 0} (f : SpaceView → X) → f new ≡ f space → (u : ℕ) → option_map f (space_at (with_space w task new) u) ≡ option_map f (space_at w u)
  spaces_set f is = each-space-set w.spaces task new space there (λ u x. option_map f x ≡ option_map f (space_at w u)) (ap Some is ∙ sym (ap (option_map f) there)) (λ u not. refl)

  pub same_but_naming : new.names ≡ space.names → SameButNaming w (with_space w task new)
  same_but_naming names = record {
    tasks = length-set w.spaces task (Some new);
    names = spaces_set (λ x. x.names) names;
    ports = refl;
    ledger = refl;
    sets = refl;
    requests = refl;
    profile = refl;
  }

  pub same_but_room : new.names ≡ space.names → new.given ≡ space.given → SameButRoom w (with_space w task new)
  same_but_room names given = record { naming = same_but_naming names; given = spaces_set (λ x. x.given) given }

pub roomier : (w : WorldView) (task : ℕ) (space : SpaceView) (room : ℕ) (kept : Option ℕ) → space_at w task ≡ Some space → SameButRoom w (with_space w task (record space { room = room; kept = kept }))
roomier w task space room kept there = same_but_room w task space (record space { room = room; kept = kept }) there refl refl

pub room_made : (w v : WorldView) (task number : ℕ) → MakesRoom w task number v → SameButRoom w v
room_made w v task number m = subst (SameButRoom w) (sym m.rest) (roomier w task m.space _ m.space.kept m.there)

pub place_kept : (w v : WorldView) (task name : ℕ) → KeepsPlace w task name v → SameButRoom w v
place_kept w v task name m = subst (SameButRoom w) (sym m.rest) (roomier w task m.space m.space.room (Some name) m.there)

-- ---- a fresh name was counted

-- The name was counted as a fresh one of the task, and nothing else changed.
pub record CountsName (old : WorldView) (task name : ℕ) (new : WorldView) : Type 0 where
  pub space : SpaceView
  pub there : space_at old task ≡ Some space
  pub rest : new ≡ with_space old task (record space { given = given_after space.given name })

module _ (w v : WorldView) (task name : ℕ) (c : CountsName w task name v) where
  pub counted_naming : SameButNaming w v
  counted_naming = subst (SameButNaming w) (sym c.rest) (same_but_naming w task c.space (record c.space { given = given_after c.space.given name }) c.there refl)

  module _ (s : State) (a : Agrees w s) where
    unmade_other : (u : ℕ) → s.tasks_made ≤ u → u ≡ task → ⊥
    unmade_other u unmade same = let below = task_below w.spaces task c.space c.there in let made = a.tasks_made in absurd (omega (arith, unmade, made, same, below))

    pub counted_agrees : Agrees v (gives task name s)
    counted_agrees = naming_agrees w v s (gives task name s) counted_naming a refl record {
      counts = subst (λ (x : WorldView). (u : ℕ) (space : SpaceView) → space_at x u ≡ Some space → GivenAgrees s.profile space.given ((gives task name s).given u)) (sym c.rest)
          (each-space-set w.spaces task (record c.space { given = given_after c.space.given name }) c.space c.there
          (λ u x. (space : SpaceView) → x ≡ Some space → GivenAgrees s.profile space.given ((gives task name s).given u))
          (λ space is. subst (λ (x : SpaceView). GivenAgrees s.profile x.given ((gives task name s).given task)) (same_found _ _ space refl is) (given_counted s.profile c.space.given s.given task name (a.counts_given task c.space c.there)))
          (λ u not space is. subst (λ f. GivenAgrees s.profile space.given f) (sym (others_given s.profile task name s.given u not)) (a.counts_given u space is)));
      none = λ u index unmade. ap (λ f. f index) (others_given s.profile task name s.given u (unmade_other u unmade)) ∙ a.none_given u index unmade;
    }

-- the same tasks live
pub room_has_task : (w v : WorldView) → SameButRoom w v → (task : ℕ) → HasTask w task → HasTask v task
room_has_task w v same task lives = same_live (space_at v task) (space_at w task) (same.names task) ∙ lives

-- the same stands under each name
pub room_entry : (w v : WorldView) → SameButRoom w v → (task name : ℕ) → entry_at v task name ≡ entry_at w task name
room_entry w v same task name = same_entry (space_at v task) (space_at w task) name (same.names task)

-- ---- room for messages

-- spare slots are of no account to the machine
pub slots_agree : (w : WorldView) (s : State) (n : ℕ) → Agrees w s → Agrees (with_slots w n) s
slots_agree w s n a = assumption (a)

pub slots_requested : (w : WorldView) (n : ℕ) → RequestsStand w → RequestsStand (with_slots w n)
slots_requested w n r = requested_ports w (with_slots w n) r (λ p lives. lives) refl refl

-- ... as long as they are enough
pub slots_show : (w : WorldView) (s : State) (n : ℕ) → w.ledger.unused ≤ n → Shows w s → Shows (with_slots w n) s
slots_show w s n enough sh = record {
  agrees = slots_agree w s n sh.agrees;
  holders = record { held = sh.holders.held };
  carriers = record { given = sh.carriers.given; carried = sh.carriers.carried };
  slots = enough;
  requested = slots_requested w n sh.requested;
  idle = record { none_lost = record { lost = sh.idle.none_lost.lost; doomed = sh.idle.none_lost.doomed; destroyed = sh.idle.none_lost.destroyed }; noted = sh.idle.noted; went = sh.idle.went };
  lawful = sh.lawful;
}
