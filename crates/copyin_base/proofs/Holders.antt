-- Who holds each port's receive right, after names and ports have changed: the task whose name has it, if one does.
use Rattle.std.proofs.Common.{◌≡◌, ℕ, ◌<◌, ◌≤◌, List, [], ◌∷◌, ◌++◌, Option, Some, None, refl, sym, ap, subst, ◌∙◌, arith, ◌⊎◌, inl, inr, true, false, length}
use Rattle.std.specs.Prelude.{◌≢◌, ◌-◌, Contains, slice_set, if◌then◌else◌}
use Rattle.std.specs.FinMap as map
use Rattle.std.specs.Ordering.{nat_cmp}
use Rattle.std.proofs.lemmas.Bool.Decides.{eqb_tells}
use Rattle.mach_types.specs.declared.profiles.Profile.{Profile}
use Rattle.member_lists.specs.Lists.{without}
use Rattle.mach_types.specs.Tokens.{receive, in_message, token, count, is_of, is_held}
use Rattle.mach_model.specs.State.{State, held}
use Rattle.mach_model.specs.Telling.{one_if}
use Rattle.mach_model.specs.Carried.{lying}
use Rattle.mach_model.proofs.Names.{both_test, held_le_of}
use Rattle.name_space.specs.declared.Entry.{Entry}
use Rattle.name_space.specs.declared.Entry.TheVariants as entry
use Rattle.name_space.specs.Entry.{port_named, has_receive}
use Rattle.name_space.specs.Names.{SpaceView}
use Rattle.name_space.specs.Names.{Names as TableNames}
use Rattle.port.specs.declared.Attributes.{Attributes}
use Rattle.port.specs.declared.Holder.{Holder}
use Rattle.port.specs.declared.Holder.TheVariants as by
use Rattle.port.specs.Ports.{PortView, PortsView, sets_in, with_port, with_sets}
use Rattle.port_set.specs.Sets.{IsDisbanded}
use Rattle.tables_base.specs.Kept.{Kept}
use Rattle.copyin_base.specs.Changes.{PutsLeft, InsertsEntry, HasAttributes, SetsAttributes, SetsHolder}
use Rattle.copyin_base.specs.Worlds.{WorldView, no_world, space_in, space_at, entry_in, entry_at, port_at, put}
use Rattle.copyin_base.specs.Shows.{Agrees, HoldersAgree}
use Rattle.copyin_base.proofs.Counting.{one_of}
use Rattle.copyin_base.proofs.Gets.{of_some, same_found}
use Rattle.copyin_base.proofs.Listed.{is_listed}
use Rattle.copyin_base.proofs.Putting.{each_put, put_own, put_other}
use Rattle.copyin_base.proofs.Spaces.{each-space-set, space-push_same, space-push_other}
use Rattle.copyin_base.proofs.Taking.{take_lying}

-- ---- receive rights under names

-- The port's receive right stands under one of these names.
pub record Receives (get : (name : ℕ) → Option Entry) (p : ℕ) : Type 0 where
  pub name : ℕ
  pub entry : Entry
  pub found : get name ≡ Some entry
  pub named : port_named entry ≡ Some p
  pub receives : has_receive entry ≡ true

-- ... of a map
abbrev pub ReceivesIn : TableNames → (p : ℕ) → Type 0
ReceivesIn names p = Receives (λ name. map.get names name) p

-- ... of a task
abbrev pub ReceivesAt : WorldView → (task p : ℕ) → Type 0
ReceivesAt w task p = Receives (λ name. entry_at w task name) p

-- the same stands under each name
pub same_receives : (get get2 : (name : ℕ) → Option Entry) → ((name : ℕ) → get2 name ≡ get name) → (p : ℕ) → Receives get2 p → Receives get p
same_receives get get2 same p r = record { name = r.name; entry = r.entry; found = sym (same r.name) ∙ r.found; named = r.named; receives = r.receives }

-- the entry has the port's receive right
pub record IsReceive (o : Option Entry) (p : ℕ) : Type 0 where
  pub entry : Entry
  pub is : o ≡ Some entry
  pub named : port_named entry ≡ Some p
  pub receives : has_receive entry ≡ true

pub receives_at : (get : (name : ℕ) → Option Entry) (name p : ℕ) → IsReceive (get name) p → Receives get p
receives_at get name p i = record { name = name; entry = i.entry; found = i.is; named = i.named; receives = i.receives }

pub no_receive : (e : Entry) → has_receive e ≡ false → (p : ℕ) → IsReceive (Some e) p → ⊥
no_receive e none p i =
    let same : i.entry ≡ e = same_found (Some e) i.entry e i.is refl in
    let b : has_receive e ≡ true = sym (ap has_receive same) ∙ i.receives in cc

pub none_receives : (p : ℕ) → IsReceive None p → ⊥
none_receives p i = let e : None ≡ Some i.entry = i.is in cc

module _ (names : TableNames) (name : ℕ) where
  -- a receive right that stands under a name after this was put there is of it, or was there
  pub put_receives : (o : Option Entry) (p : ℕ) (P : Type 0) → (IsReceive o p → P) → (ReceivesIn names p → P) → ReceivesIn (put names name o) p → P
  put_receives o p P own other r =
      each_put names name o (λ n x. IsReceive x p → P) own (λ n not i. other (receives_at (λ k. map.get names k) n p i)) r.name
      record { entry = r.entry; is = r.found; named = r.named; receives = r.receives }

  -- an entry without a receive right comes or takes the place of another, or a name goes
  pub left_receives : (o : Option Entry) → ((p : ℕ) → IsReceive o p → ReceivesIn names p) → (p : ℕ) → ReceivesIn (put names name o) p → ReceivesIn names p
  left_receives o own p = put_receives o p (ReceivesIn names p) (own p) (λ r. r)

  pub added_receives : (e : Entry) → has_receive e ≡ false → (p : ℕ) → ReceivesIn (map.insert names name e) p → ReceivesIn names p
  added_receives e none = left_receives (Some e) (λ p i. absurd (no_receive e none p i))

  pub removed_receives : (p : ℕ) → ReceivesIn (map.remove names name) p → ReceivesIn names p
  removed_receives = left_receives None (λ p i. absurd (none_receives p i))

-- what stood under a name is put under another
pub moved_receives : (names : TableNames) (from to : ℕ) (e : Entry) → map.get names from ≡ Some e → (p : ℕ) → ReceivesIn (map.insert (map.remove names from) to e) p → ReceivesIn names p
moved_receives names from to e found p = put_receives (map.remove names from) to (Some e) p (ReceivesIn names p)
    (λ i. receives_at (λ n. map.get names n) from p (record { entry = i.entry; is = found ∙ i.is; named = i.named; receives = i.receives }))
    (removed_receives names from p)

-- ---- the holders of ports

-- The port is there, and this holds its receive right.
pub record IsHeldBy (ports : map.FinMap nat_cmp (PortView Kept)) (p : ℕ) (holder : Holder) : Type 0 where
  pub v : PortView Kept
  pub there : map.get ports p ≡ Some v
  pub is : v.attributes.holder ≡ holder

-- Each port that is there was there, with the same holder.
abbrev pub KeepHolders : (old new : map.FinMap nat_cmp (PortView Kept)) → Type 0
KeepHolders old new = (p : ℕ) (v : PortView Kept) → map.get new p ≡ Some v → IsHeldBy old p v.attributes.holder

-- This is one port's holder now, where the port is there; each other port that is there was there, with the same holder.
pub record ChangesHolder (old new : map.FinMap nat_cmp (PortView Kept)) (p : ℕ) (holder : Holder) : Type 0 where
  pub own : (v : PortView Kept) → map.get new p ≡ Some v → v.attributes.holder ≡ holder
  pub others : (q : ℕ) (v : PortView Kept) → q ≢ p → map.get new q ≡ Some v → IsHeldBy old q v.attributes.holder

module _ (ports : map.FinMap nat_cmp (PortView Kept)) where
  pub same_holders : KeepHolders ports ports
  same_holders p v there = record { v = v; there = there; is = refl }

  -- one port was put, with the holder that it had
  pub put_holders : (p : ℕ) (v v2 : PortView Kept) → map.get ports p ≡ Some v → v2.attributes.holder ≡ v.attributes.holder → KeepHolders ports (map.insert ports p v2)
  put_holders p v v2 there same = each_put ports p (Some v2) (λ q o. (x : PortView Kept) → o ≡ Some x → IsHeldBy ports q x.attributes.holder)
      (of_some v2 (λ x. IsHeldBy ports p x.attributes.holder) (record { v = v; there = there; is = sym same }))
      (λ q not x is. record { v = x; there = is; is = refl })

  -- ... or with another, or is new
  pub put_holder : (p : ℕ) (v2 : PortView Kept) → ChangesHolder ports (map.insert ports p v2) p v2.attributes.holder
  put_holder p v2 = record {
    own = λ v is. ap (λ (x : PortView Kept). x.attributes.holder) (same_found (Some v2) v v2 (sym (put_own ports p (Some v2)) ∙ is) refl);
    others = λ q v not is. record { v = v; there = sym (put_other ports p (Some v2) q not) ∙ is; is = refl };
  }

-- the members of a set have left it
pub disbanded_holders : (old new : PortsView Kept) (set : ℕ) → IsDisbanded old new set → KeepHolders old.ports new.ports
disbanded_holders old new set d p v is = go (map.get old.ports p) refl
  where
    member : (x : PortView Kept) → map.get old.ports p ≡ Some x → Contains (sets_in x) set ⊎ (Contains (sets_in x) set → ⊥) → IsHeldBy old.ports p v.attributes.holder
    member x at (inl e) = record { v = x; there = at; is = ap (λ (y : PortView Kept). y.attributes.holder) (same_found (map.get new.ports p) (with_sets x (without set (sets_in x))) v (d.members p x at e) is) }
    member x at (inr not) = record { v = x; there = at; is = ap (λ (y : PortView Kept). y.attributes.holder) (same_found (map.get new.ports p) x v (d.others p x at not) is) }

    go : (o : Option (PortView Kept)) → map.get old.ports p ≡ o → IsHeldBy old.ports p v.attributes.holder
    go None at = absurd (let e : None ≡ Some v = sym (d.gone p at) ∙ is in cc)
    go (Some x) at = member x at (is_listed (sets_in x) set)

-- ---- in the tables

same_task : (t u : ℕ) → ◌≡◌ {A = Holder} (by.Task t) (by.Task u) → t ≡ u
same_task t u e = cc

pub holders_none : (profile : Profile) → HoldersAgree (no_world profile)
holders_none profile = record { held = λ task name e p is. absurd (let none : None ≡ Some e = is in cc) }

-- where the machine's task has no receive right, no name of it does
pub unheld : (w : WorldView) (s : State) → Agrees w s → (task p : ℕ) → held s task receive p ≡ 0 → ReceivesAt w task p → ⊥
unheld w s a task p none r =
    let h = (a.references task r.name r.entry p r.found r.named).0 in
    let one : one_if (has_receive r.entry) ≡ 1 = ap one_if r.receives in
    omega (arith, h, one, none)

-- ... such as that of a port of which a message has it
pub unheld_lying : (s : State) (task p o k : ℕ) → count (is_of receive p) s.ledger ≤ 1 → 0 < lying s receive p (in_message o k) → held s task receive p ≡ 0
unheld_lying s task p o k few some =
    let t = take_lying o k receive p s.ledger some in
    let all = t.parts (λ y. if is_of receive p y then 1 else 0) in
    let own = t.parts (λ y. if is_held task receive p y then 1 else 0) in
    let none = both_test (is_of receive p (token receive p (in_message o k))) false (inr refl) in
    let one = one_of receive p (in_message o k) refl in
    let le = held_le_of task receive p t.others in
    omega (arith, few, all, own, none, one, le)

module _ (w : WorldView) (a : HoldersAgree w) where
  pub holder_is : (task p : ℕ) (holder : Holder) → ReceivesAt w task p → IsHeldBy w.ports.ports p holder → holder ≡ by.Task task
  holder_is task p holder r h = sym h.is ∙ a.held task r.name r.entry p r.found r.named r.receives h.v h.there

  -- one task has it at most
  pub one_holder : (t u p : ℕ) (v : PortView Kept) → port_at w p ≡ Some v → ReceivesAt w t p → ReceivesAt w u p → t ≡ u
  one_holder t u p v there x y =
      same_task t u (sym (a.held t x.name x.entry p x.found x.named x.receives v there) ∙ a.held u y.name y.entry p y.found y.named y.receives v there)

-- The port knows that the task holds its receive right, where the port is there.
abbrev pub KnowsHolder : WorldView → (task p : ℕ) → Type 0
KnowsHolder w task p = (v : PortView Kept) → port_at w p ≡ Some v → v.attributes.holder ≡ by.Task task

pub known : (w : WorldView) → HoldersAgree w → (task p : ℕ) → ReceivesAt w task p → KnowsHolder w task p
known w a task p r = a.held task r.name r.entry p r.found r.named r.receives

-- A port's holder is this now, and this is each task that has its receive right; no name has a receive right for another port that it hadn't.
pub record Rehold (w w2 : WorldView) (p : ℕ) (holder : Holder) : Type 0 where
  pub ports : ChangesHolder w.ports.ports w2.ports.ports p holder
  pub own : (task : ℕ) → ReceivesAt w2 task p → holder ≡ by.Task task
  pub others : (task q : ℕ) → q ≢ p → ReceivesAt w2 task q → ReceivesAt w task q

module _ (w w2 : WorldView) (a : HoldersAgree w) where
  -- No name has a receive right that it hadn't, and no port's holder changed.
  pub holders_stay : ((task p : ℕ) → ReceivesAt w2 task p → ReceivesAt w task p) → KeepHolders w.ports.ports w2.ports.ports → HoldersAgree w2
  holders_stay fewer ports = record {
    held = λ task name e p found named receives v there.
        holder_is w a task p v.attributes.holder (fewer task p record { name = name; entry = e; found = found; named = named; receives = receives }) (ports p v there);
  }

  -- Only ports changed, and no holder.
  pub holders_ports : w2.spaces ≡ w.spaces → KeepHolders w.ports.ports w2.ports.ports → HoldersAgree w2
  holders_ports spaces ports = holders_stay
      (λ task. same_receives (λ n. entry_at w task n) (λ n. entry_at w2 task n) (λ n. ap (λ (xs : List (Option SpaceView)). entry_in (space_in xs task) n) spaces)) ports

  -- One port's holder did.
  pub holders_changed : (p : ℕ) (holder : Holder) → Rehold w w2 p holder → HoldersAgree w2
  holders_changed p holder h = record {
    held = λ task name e q found named receives v there.
        let r : ReceivesAt w2 task q = record { name = name; entry = e; found = found; named = named; receives = receives } in
        elim (eqb_tells q p) [
          | inl k ↦ h.ports.own v (subst (λ (x : ℕ). port_at w2 x ≡ Some v) k.1 there) ∙ h.own task (subst (λ (x : ℕ). ReceivesAt w2 task x) k.1 r)
          | inr k ↦ holder_is w a task q v.attributes.holder (h.others task q k.1 r) (h.ports.others q v k.1 there)
        ];
  }

  -- A receive right went from a task to another or the same, of which the port knows.
  pub holders_moved : (from to p : ℕ) (v : PortView Kept) → port_at w p ≡ Some v → ReceivesAt w from p → ChangesHolder w.ports.ports w2.ports.ports p (by.Task to) →
      ((u : ℕ) → u ≢ to → ReceivesAt w2 u p → ReceivesAt w u p × (u ≢ from)) → ((u q : ℕ) → q ≢ p → ReceivesAt w2 u q → ReceivesAt w u q) → HoldersAgree w2
  holders_moved from to p v there had ports gone others = holders_changed p (by.Task to) record {
    ports = ports;
    own = λ u r. elim (eqb_tells u to) [
      | inl h ↦ ap by.Task (sym h.1)
      | inr h ↦ let g = gone u h.1 r in absurd (g.1 (one_holder w a u from p v there g.0 had))
    ];
    others = others;
  }

  -- A task was made, and has no names.
  pub holders_pushed : (space : SpaceView) → w2.spaces ≡ w.spaces ++ Some space ∷ [] → ((name : ℕ) → map.get space.names name ≡ None) → KeepHolders w.ports.ports w2.ports.ports → HoldersAgree w2
  holders_pushed space spaces none ports = holders_stay (λ task p r. there_before task p (at_end task p r)) ports
    where
      at_end : (task p : ℕ) → ReceivesAt w2 task p → Receives (λ n. entry_in (space_in (w.spaces ++ Some space ∷ []) task) n) p
      at_end task p = same_receives _ (λ n. entry_at w2 task n) (λ n. ap (λ (xs : List (Option SpaceView)). entry_in (space_in xs task) n) spaces) p

      there_before : (task p : ℕ) → Receives (λ n. entry_in (space_in (w.spaces ++ Some space ∷ []) task) n) p → ReceivesAt w task p
      there_before task p r = elim (eqb_tells task (length w.spaces)) [
        | inl h ↦
            let at : space_in (w.spaces ++ Some space ∷ []) task ≡ Some space = ap (λ (i : ℕ). space_in (w.spaces ++ Some space ∷ []) i) h.1 ∙ space-push_same w.spaces space in
            let e : None ≡ Some r.entry = sym (none r.name) ∙ sym (ap (λ (o : Option SpaceView). entry_in o r.name) at) ∙ r.found in absurd (cc)
        | inr h ↦ same_receives (λ n. entry_at w task n) _ (λ n. ap (λ (o : Option SpaceView). entry_in o n) (space-push_other w.spaces space task h.1)) p r
      ]

  -- ---- one task's names changed

  module _ (task : ℕ) (space space2 : SpaceView) (there : space_at w task ≡ Some space) (spaces : w2.spaces ≡ slice_set w.spaces task (Some space2)) where
    -- who has a receive right now
    pub set_receives : (P : ℕ → ℕ → Type 0) → ((p : ℕ) → ReceivesIn space2.names p → P task p) → ((u p : ℕ) → u ≢ task → ReceivesAt w u p → P u p) → (u p : ℕ) → ReceivesAt w2 u p → P u p
    set_receives P own others u p r =
        each-space-set w.spaces task space2 space there (λ k o. Receives (λ n. entry_in o n) p → P k p) (own p) (λ k not. others k p not) u
        (same_receives (λ n. entry_in (space_in (slice_set w.spaces task (Some space2)) u) n) (λ n. entry_at w2 u n) (λ n. ap (λ (xs : List (Option SpaceView)). entry_in (space_in xs u) n) spaces) p r)

    pub had : (p : ℕ) → ReceivesIn space.names p → ReceivesAt w task p
    had = same_receives (λ n. entry_at w task n) (λ n. map.get space.names n) (λ n. sym (ap (λ (o : Option SpaceView). entry_in o n) there))

    -- Each receive right that they have is of a port that knows it.
    pub holders_known : ((p : ℕ) → ReceivesIn space2.names p → KnowsHolder w task p) → KeepHolders w.ports.ports w2.ports.ports → HoldersAgree w2
    holders_known knows ports = record {
      held = λ u name e q found named receives.
          set_receives (λ k x. KnowsHolder w2 k x) (λ x r v at. let h = ports x v at in sym h.is ∙ knows x r h.v h.there) (λ k x not r v at. holder_is w a k x v.attributes.holder r (ports x v at)) u q
          record { name = name; entry = e; found = found; named = named; receives = receives };
    }

    -- They have no receive right that they hadn't.
    pub holders_left : ((p : ℕ) → ReceivesIn space2.names p → ReceivesIn space.names p) → KeepHolders w.ports.ports w2.ports.ports → HoldersAgree w2
    holders_left fewer ports = holders_stay (set_receives (ReceivesAt w) (λ p r. had p (fewer p r)) (λ u p not r. r)) ports

    -- An entry came that has none.
    pub holders_added : (name : ℕ) (e : Entry) → space2.names ≡ map.insert space.names name e → has_receive e ≡ false → KeepHolders w.ports.ports w2.ports.ports → HoldersAgree w2
    holders_added name e names none ports = holders_left
        (λ p r. added_receives space.names name e none p (subst (λ (m : TableNames). ReceivesIn m p) names r)) ports

    -- A port's receive right came, of which the port knows; no other task has it.
    pub holders_given : (p : ℕ) → ((q : ℕ) → q ≢ p → ReceivesIn space2.names q → ReceivesIn space.names q) → ((u : ℕ) → u ≢ task → ReceivesAt w u p → ⊥) →
        ChangesHolder w.ports.ports w2.ports.ports p (by.Task task) → HoldersAgree w2
    holders_given p others alone ports = holders_changed p (by.Task task) record {
      ports = ports;
      own = λ u r. ap by.Task (set_receives (λ k q. q ≡ p → task ≡ k) (λ q x same. refl) (λ k q not x same. absurd (alone k not (subst (ReceivesAt w k) same x))) u p r refl);
      others = λ u q not r. set_receives (λ k n. n ≢ p → ReceivesAt w k n) (λ n x differs. had n (others n differs x)) (λ k n differs x also. x) u q r not;
    }

    -- A port was made for the task, under this name.
    pub holders_made : (p name : ℕ) (v : PortView Kept) → space2.names ≡ map.insert space.names name (entry.Receive p) → w2.ports.ports ≡ map.insert w.ports.ports p v →
        v.attributes.holder ≡ by.Task task → ((u : ℕ) → ReceivesAt w u p → ⊥) → HoldersAgree w2
    holders_made p name v names ports holder none = holders_given p
        (λ q not r. put_receives space.names name (Some (entry.Receive p)) q (ReceivesIn space.names q) (λ i. absurd (not (receive_of p q i))) (λ x. x) (subst (λ (m : TableNames). ReceivesIn m q) names r))
        (λ u not. none u)
        (subst (λ (m : map.FinMap nat_cmp (PortView Kept)). ChangesHolder w.ports.ports m p (by.Task task)) (sym ports) (subst (ChangesHolder w.ports.ports (map.insert w.ports.ports p v) p) holder (put_holder w.ports.ports p v)))
      where
        receive_of : (p q : ℕ) → IsReceive (Some (entry.Receive p)) q → q ≡ p
        receive_of p q i =
            let same : i.entry ≡ entry.Receive p = same_found (Some (entry.Receive p)) i.entry (entry.Receive p) i.is refl in
            let e : Some p ≡ Some q = sym (ap port_named same) ∙ i.named in cc

-- ---- attributes

module _ (w w2 : WorldView) (a : HoldersAgree w) (p : ℕ) where
  -- they were set, but for the holder
  pub holders_kept : (x y : Attributes) → HasAttributes w p x → SetsAttributes w p y w2 → y.holder ≡ x.holder → HoldersAgree w2
  holders_kept x y has set same = holders_ports w w2 a (ap (λ (z : WorldView). z.spaces) set.rest)
      (subst (λ (z : WorldView). KeepHolders w.ports.ports z.ports.ports) (sym set.rest)
      (put_holders w.ports.ports p set.v (record set.v { attributes = y }) set.there (same ∙ sym (ap (λ (z : Attributes). z.holder) has.are) ∙ ap (λ (v : PortView Kept). v.attributes.holder) (same_found (port_at w p) has.v set.v has.there set.there))))

  -- the holder was, and it is each task that has the port's receive right
  pub holder_set : (holder : Holder) → SetsHolder w p holder w2 → ((task : ℕ) → ReceivesAt w task p → holder ≡ by.Task task) → HoldersAgree w2
  holder_set holder set own = subst HoldersAgree (sym set.rest) (holders_changed w
      (record w { ports = with_port w.ports p (record set.v { attributes = record set.v.attributes { holder = holder } }) }) a p holder record {
        ports = put_holder w.ports.ports p (record set.v { attributes = record set.v.attributes { holder = holder } });
        own = own;
        others = λ task q not r. r;
      })

-- ---- what stands under a name

module _ (w w2 : WorldView) (a : HoldersAgree w) (task name : ℕ) where
  ports_same : (x y : WorldView) → y.ports ≡ x.ports → KeepHolders x.ports.ports y.ports.ports
  ports_same x y e = subst (λ (p : PortsView Kept). KeepHolders x.ports.ports p.ports) (sym e) (same_holders x.ports.ports)

  -- It was left there, with a receive right only where the port knows that the task holds it ...
  pub put_holders_known : (left : Option Entry) → PutsLeft w task name left w2 → ((p : ℕ) → IsReceive left p → KnowsHolder w task p) → HoldersAgree w2
  put_holders_known left puts knows = holders_known w w2 a task puts.space (record puts.space { names = put puts.space.names name left }) puts.there (ap (λ (x : WorldView). x.spaces) puts.rest)
      (λ p. put_receives puts.space.names name left p (KnowsHolder w task p) (knows p) (λ r. known w a task p (had_by puts.space puts.there p r)))
      (ports_same w w2 (ap (λ (x : WorldView). x.ports) puts.rest))
    where
      had_by : (space : SpaceView) → space_at w task ≡ Some space → (p : ℕ) → ReceivesIn space.names p → ReceivesAt w task p
      had_by space there = same_receives (λ n. entry_at w task n) (λ n. map.get space.names n) (λ n. sym (ap (λ (o : Option SpaceView). entry_in o n) there))

  -- ... as where it was there
  pub put_holders_left : (left : Option Entry) → PutsLeft w task name left w2 → ((p : ℕ) → IsReceive left p → IsReceive (entry_at w task name) p) → HoldersAgree w2
  put_holders_left left puts fewer = put_holders_known left puts (λ p i. known w a task p (receives_at (λ n. entry_at w task n) name p (fewer p i)))

  -- It came there.
  pub inserted_holders : (e : Entry) → InsertsEntry w task name e w2 → ((p : ℕ) → IsReceive (Some e) p → KnowsHolder w task p) → HoldersAgree w2
  inserted_holders e puts knows = holders_known w w2 a task puts.space (record puts.space { names = map.insert puts.space.names name e; room = puts.space.room - 1 }) puts.there (ap (λ (x : WorldView). x.spaces) puts.rest)
      (λ p. put_receives puts.space.names name (Some e) p (KnowsHolder w task p) (knows p)
      (λ r. known w a task p (same_receives (λ n. entry_at w task n) (λ n. map.get puts.space.names n) (λ n. sym (ap (λ (o : Option SpaceView). entry_in o n) puts.there)) p r)))
      (ports_same w w2 (ap (λ (x : WorldView). x.ports) puts.rest))

-- the holder that was set is known
pub set_known : (w w2 : WorldView) (p task : ℕ) → SetsHolder w p (by.Task task) w2 → KnowsHolder w2 task p
set_known w w2 p task set = subst (λ (x : WorldView). KnowsHolder x task p) (sym set.rest)
    (put_holder w.ports.ports p (record set.v { attributes = record set.v.attributes { holder = by.Task task } })).own
