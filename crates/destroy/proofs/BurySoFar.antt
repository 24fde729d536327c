-- As a port is buried its names are read as dead names, and rights of tasks stay until then.
use Rattle.std.proofs.Common.{◌≡◌, ℕ, Bool, true, false, List, [], ◌∷◌, Option, Some, None, refl, sym, ap, subst, ◌∙◌, cond, zero, suc, arith, ◌⊎◌, inl, inr, ◌+◌, length}
use Rattle.std.specs.Prelude.{is_some, if◌then◌else◌, option_map, All, ◌&&◌, ◌≢◌, ◌==◌, ◌||◌, not, filter}
use Rattle.std.specs.FinMap as map
use Rattle.std.specs.FinMap.{get-insert, get-empty}
use Rattle.std.specs.FinMap.Entries.{find}
use Rattle.std.specs.declared.cmp.Ordering.{Ordering}
use Rattle.std.specs.declared.cmp.Ordering.TheVariants.{Less, Equal, Greater}
use Rattle.std.specs.Ordering.{nat_cmp, is_eq}
use Rattle.std.specs.Cmp.{nat_cmp_total}
use Rattle.std.proofs.lemmas.Bool.{ne_eqb, false_from_ne_true}
use Rattle.std.proofs.lemmas.List.Elements.{All-head, All-tail, All-cons}
use Rattle.std.proofs.lemmas.Bool.Decides.{eqb_tells}
use Rattle.mach_types.specs.Tokens.{Kind, receive, send, Token, count, is_held, token, send_once, no_senders, port_destroyed, dead_name, Place, in_task, in_message, in_request, is_of, is_in_task, Request, weigh}
use Rattle.mach_model.specs.State.{Target, Names, State, held, lookup}
use Rattle.mach_model.proofs.SettledEnd.{mapped_length}
use Rattle.mach_model.specs.Midway.{MidLawful}
use Rattle.mach_model.specs.Notices.{right_unused, no_more_senders, port_sent, Owed, Posted, all_posted_tokens}
use Rattle.mach_model.specs.Settles.{tokens_of, settled_target, dead_references}
use Rattle.mach_model.specs.Turns.{Ending, outcome, went_in, listed, IsAtDoomed, SpendsRights, PaidForName, Begins, PaysAtEnd, is_among, Turn, IsReached, begins, turns, IsNameOf, IsRequestOf}
use Rattle.mach_model.proofs.TurnsCounted.{listed_later, listed_first}
use Rattle.mach_model.proofs.SettledReceives.{and_false, none_tasked}
use Rattle.mach_model.proofs.TurnsMade.{bury}
use Rattle.name_space.specs.declared.Entry.{Entry}
use Rattle.name_space.specs.declared.Entry.TheVariants.{Receive, Send, ReceiveAndSend, SendOnce, DeadName, Set}
use Rattle.name_space.specs.Entry.{port_of, port_named, has_receive, send_references}
use Rattle.name_space.specs.Names.{SpaceView}
use Rattle.port_set.specs.Sets.{SetsView}
use Rattle.copyin_base.specs.Reading.{reading, read_space, read_spaces}
use Rattle.copyin_base.specs.Shows.{target_of, HasCount, GivenAgrees, SpacesAgree, ReferencesAgree, SetsAgree}
use Rattle.copyin_base.specs.Worlds.{space_in, entry_in}
use Rattle.tables_base.proofs.Reading.{read_lives, reads_as, named_port, len_read}
use Rattle.copyin_base.proofs.Reading.{space_read_in, entry_read_in, length_read, kept_there}
use Rattle.notifications.proofs.NoticePosted.{filter_weigh}
use Rattle.notifications.specs.SoFar.{buried_alone, seen_for, IsSoFar, posted_so_far, due_so_far}
use Rattle.mach_model.proofs.SettledDetermined.{weigh-same}
use Rattle.destroy.proofs.BuryState.{elsewhere, left_posted, all_fine, is_off, lives_else_after, of_port, own_ended, other_ended, none_stands}
use Rattle.mach_types.specs.declared.profiles.Profile.{Profile}

-- ---- As a port is buried its names are read as dead names.

-- ---- a map of which each value was changed

abbrev mapped_entries : (Target → Target) → List (ℕ × Target) → Names
mapped_entries f [] = map.empty
mapped_entries f (e ∷ es) = map.insert (mapped_entries f es) e.0 (f e.1)

mapped_at : (f : Target → Target) (es : List (ℕ × Target)) (n : ℕ) → map.get (mapped_entries f es) n ≡ option_map f (find nat_cmp n es)
mapped_at f [] n = get-empty nat_cmp n
mapped_at f (e ∷ es) n = get-insert nat_cmp_total (mapped_entries f es) e.0 (f e.1) n ∙ go (nat_cmp n e.0) (mapped_at f es n)
  where
    go : (r : Ordering) → map.get (mapped_entries f es) n ≡ option_map f (find nat_cmp n es) →
        cond (is_eq r) (Some (f e.1)) (map.get (mapped_entries f es) n) ≡ option_map f (cond (is_eq r) (Some e.1) (find nat_cmp n es))
    go Less ih = ih
    go Greater ih = ih
    go Equal ih = refl

abbrev pub mapped : (Target → Target) → Names → Names
mapped f m = mapped_entries f (map.entries m)

pub mapped_get : (f : Target → Target) (m : Names) (n : ℕ) → map.get (mapped f m) n ≡ option_map f (map.get m n)
mapped_get f m n = mapped_at f (map.entries m) n ∙ ap (option_map f) (sym (map.get-entries m n))

mapped_len : (f : Target → Target) (m : Names) → map.len (mapped f m) ≡ map.len m
mapped_len f m = mapped_length (map.len m) (λ n. f) m (mapped f m) refl (record { get = mapped_get f m })

-- ---- what a name stands for once ports have gone

abbrev pub left_target : (live : ℕ → Bool) → (references : ℕ → ℕ) → Target → Target
left_target live references (Target.port q) = if live q then Target.port q else Target.dead (references q)
left_target live references (Target.once q) = if live q then Target.once q else Target.dead 1
left_target live references (Target.dead n) = Target.dead n
left_target live references (Target.set x) = Target.set x

-- the entry is read as that, where it is of send rights alone and counts them
pub left_as_read : (live : ℕ → Bool) (references : ℕ → ℕ) (e : Entry) →
    ((p : ℕ) → port_named e ≡ Some p → live p ≡ false → (has_receive e ≡ false) × (references p ≡ send_references e)) → left_target live references (target_of e) ≡ target_of (reading live e)
left_as_read live references (Receive p) ok = go (live p) refl
  where
    go : (b : Bool) → live p ≡ b → (if b then Target.port p else Target.dead (references p)) ≡ target_of (if b then Receive p else DeadName 1)
    go true is = refl
    go false is = absurd (let f : true ≡ false = (ok p refl is).0 in cc)
left_as_read live references (Send p n) ok = go (live p) refl
  where
    go : (b : Bool) → live p ≡ b → (if b then Target.port p else Target.dead (references p)) ≡ target_of (if b then Send p n else DeadName n)
    go true is = refl
    go false is = ap (λ (k : ℕ). Target.dead k) (ok p refl is).1
left_as_read live references (ReceiveAndSend p n) ok = go (live p) refl
  where
    go : (b : Bool) → live p ≡ b → (if b then Target.port p else Target.dead (references p)) ≡ target_of (if b then ReceiveAndSend p n else DeadName n)
    go true is = refl
    go false is = absurd (let f : true ≡ false = (ok p refl is).0 in cc)
left_as_read live references (SendOnce p) ok = go (live p)
  where
    go : (b : Bool) → (if b then Target.once p else Target.dead 1) ≡ target_of (if b then SendOnce p else DeadName 1)
    go true = refl
    go false = refl
left_as_read live references (DeadName n) ok = refl
left_as_read live references (Set x) ok = refl

-- ---- the tasks' names

counted_read : (live : ℕ → Bool) (e : Entry) → HasCount e → HasCount (reading live e)
counted_read live (Receive p) h = go (live p)
  where
    go : (b : Bool) → HasCount (if b then Receive p else DeadName 1)
    go true = tt
    go false = tt
counted_read live (Send p n) h = go (live p)
  where
    go : (b : Bool) → HasCount (if b then Send p n else DeadName n)
    go true = h
    go false = tt
counted_read live (ReceiveAndSend p n) h = go (live p)
  where
    go : (b : Bool) → HasCount (if b then ReceiveAndSend p n else DeadName n)
    go true = h
    go false = tt
counted_read live (SendOnce p) h = go (live p)
  where
    go : (b : Bool) → HasCount (if b then SendOnce p else DeadName 1)
    go true = tt
    go false = tt
counted_read live (DeadName n) h = tt
counted_read live (Set x) h = tt

module _ (live : ℕ → Bool) (spaces : List (Option SpaceView)) where
  -- what stands under a name is what stood there, read
  pub read_at : (task n : ℕ) → entry_in (space_in (read_spaces live spaces) task) n ≡ option_map (reading live) (entry_in (space_in spaces task) n)
  read_at task n = ap (λ (o : Option SpaceView). entry_in o n) (space_read_in live spaces task) ∙ entry_read_in live (space_in spaces task) n

  pub read_from : (task n : ℕ) (e : Entry) → entry_in (space_in (read_spaces live spaces) task) n ≡ Some e → (kept : Entry) × (entry_in (space_in spaces task) n ≡ Some kept) × (e ≡ reading live kept)
  read_from task n e is = go (entry_in (space_in spaces task) n) refl (sym (read_at task n) ∙ is)
    where
      some_is : (a b : Entry) → Some a ≡ Some b → b ≡ a
      some_is a b h = cc

      go : (o : Option Entry) → entry_in (space_in spaces task) n ≡ o → option_map (reading live) o ≡ Some e → (kept : Entry) × (entry_in (space_in spaces task) n ≡ Some kept) × (e ≡ reading live kept)
      go None at h = absurd (let f : None ≡ Some e = h in cc)
      go (Some k) at h = (k, at, some_is (reading live k) e h)

  -- an entry for a port that is there is as it was
  pub read_port : (task n : ℕ) (e : Entry) (p : ℕ) → entry_in (space_in (read_spaces live spaces) task) n ≡ Some e → port_of e ≡ Some p → (entry_in (space_in spaces task) n ≡ Some e) × (live p ≡ true)
  read_port task n e p is for =
      let k = read_from task n e is in
      let r = read_lives live k.0 p (ap port_of (sym k.2) ∙ for) in
      (k.1 ∙ ap Some (sym (k.2 ∙ reads_as live k.0 p r.0 r.1)), r.1)

  some_same : (f : SpaceView → SpaceView) (o : Option SpaceView) → is_some (option_map f o) ≡ is_some o
  some_same f (Some x) = refl
  some_same f None = refl

  module _ (live_task : ℕ → Bool) (number : ℕ) (names : ℕ → Names) (own profile : Profile) (given : ℕ → ℕ → ℕ) (references : ℕ → ℕ → ℕ) (a : SpacesAgree own spaces live_task number names profile given)
      (as_read : (task n : ℕ) (e : Entry) → entry_in (space_in spaces task) n ≡ Some e → left_target live (references task) (target_of e) ≡ target_of (reading live e)) where
    naming : (task n : ℕ) → map.get (mapped (left_target live (references task)) (names task)) n ≡ option_map target_of (entry_in (space_in (read_spaces live spaces) task) n)
    naming task n =
        mapped_get (left_target live (references task)) (names task) n
        ∙ ap (option_map (left_target live (references task))) (a.naming task n)
        ∙ go (entry_in (space_in spaces task) n) refl
        ∙ sym (ap (option_map target_of) (read_at task n))
      where
        go : (o : Option Entry) → entry_in (space_in spaces task) n ≡ o → option_map (left_target live (references task)) (option_map target_of o) ≡ option_map target_of (option_map (reading live) o)
        go None at = refl
        go (Some e) at = ap Some (as_read task n e at)

    pub spaces_left : SpacesAgree own (read_spaces live spaces) live_task number (λ task. mapped (left_target live (references task)) (names task)) profile given
    spaces_left = record {
      live_task = λ task. ap is_some (space_read_in live spaces task) ∙ some_same (read_space live) (space_in spaces task) ∙ a.live_task task;
      tasks_made = length_read live spaces ∙ a.tasks_made;
      naming = naming;
      names_kept = λ task space is.
          let k = kept_there live spaces task space is in
          ap (λ (x : SpaceView). map.len x.names) k.2 ∙ len_read live k.0.names ∙ a.names_kept task k.0 k.1 ∙ sym (mapped_len (left_target live (references task)) (names task));
      counted = λ task n e is. let k = read_from task n e is in subst HasCount (sym k.2) (counted_read live k.0 (a.counted task n k.0 k.1));
      same_profile = a.same_profile;
      counts_given = λ task space is.
          let k = kept_there live spaces task space is in
          subst (λ (x : SpaceView). GivenAgrees profile x.given (given task)) (sym k.2) (a.counts_given task k.0 k.1);
      none_given = a.none_given;
    }

  -- the tasks' rights for ports that are there are as many as before
  pub rights_left : (tokens tokens2 : List Token) → ReferencesAgree spaces tokens → ((task : ℕ) (kind : Kind) (p : ℕ) → live p ≡ true → count (is_held task kind p) tokens2 ≡ count (is_held task kind p) tokens) →
      ReferencesAgree (read_spaces live spaces) tokens2
  rights_left tokens tokens2 a same = record {
    references = λ task n e p is named.
        let r = read_port task n e p is (named_port e p named) in
        let b = a.references task n e p r.0 named in
        (same task receive p r.1 ∙ b.0, same task send p r.1 ∙ b.1);
  }

-- names of sets stand for them still
pub sets_left : (sets : SetsView) (owner : ℕ → Option ℕ) (number : ℕ) (names : ℕ → Names) (live : ℕ → Bool) (references : ℕ → ℕ → ℕ) → SetsAgree sets owner number names →
    SetsAgree sets owner number (λ task. mapped (left_target live (references task)) (names task))
sets_left sets owner number names live references a = record {
  set_owner = a.set_owner;
  sets_made = a.sets_made;
  set_named = λ set r is. mapped_get (left_target live (references r.owner)) (names r.owner) r.name ∙ ap (option_map (left_target live (references r.owner))) (a.set_named set r is);
}

-- ---- Rights of tasks stay until their port is buried.

pub none_passes : (test : Token → Bool) (xs : List Token) → All (λ x. test x ≡ false) xs → count test xs ≡ 0
none_passes test [] all = refl
none_passes test (x ∷ xs) all =
    let z : (if test x then suc zero else zero) ≡ zero = rw (All-head (λ x. test x ≡ false) x xs all) refl in
    omega (arith, z, none_passes test xs (All-tail (λ x. test x ≡ false) x xs all))

pub none_paid : (test : Token → Bool) (xs : Owed) → All (λ x. test x.0 ≡ false) xs → count test (tokens_of xs) ≡ 0
none_paid test [] all = refl
none_paid test (x ∷ xs) all =
    let z : (if test x.0 then suc zero else zero) ≡ zero = rw (All-head (λ x. test x.0 ≡ false) x xs all) refl in
    omega (arith, z, none_paid test xs (All-tail (λ x. test x.0 ≡ false) x xs all))

all_as : {A : Type 0} (P Q : A → Type 0) → ((x : A) → P x → Q x) → (xs : List A) → All P xs → All Q xs
all_as P Q so xs all = λ k d below. so _ (all k d below)

and_no : (a : Bool) → (a && false) ≡ false
and_no true = refl
and_no false = refl

module _ (task : ℕ) (kind : Kind) (p : ℕ) where
  abbrev held_test : Token → Bool
  held_test x = is_held task kind p x

  off_task : (x : Token) → is_in_task task x.place ≡ false → held_test x ≡ false
  off_task x e = rw e (and_no (is_of kind p x))

  kept_by : (x : Token) (place : Place) → x.place ≡ place → is_in_task task place ≡ false → held_test x ≡ false
  kept_by x place at none = off_task x (ap (is_in_task task) at ∙ none)

  at_doomed : (e : Ending) (x : Token) → IsAtDoomed e x.place → held_test x ≡ false
  at_doomed e x h = off_task x (go x.place h)
    where
      go : (place : Place) → IsAtDoomed e place → is_in_task task place ≡ false
      go (in_task t) h = absurd h
      go (in_message q k) h = refl
      go (in_request r) h = refl

  other_port : (x : Token) (port : ℕ) → x.port ≡ port → (p ≡ port → ⊥) → held_test x ≡ false
  other_port x port is not = rw (ne_eqb x.port p (λ h. not (sym h ∙ is))) (ap (λ (b : Bool). b && is_in_task task x.place) (and_no _))

  same_left : (e f : Ending) (paying : Owed) (going : List Token) → SpendsRights e f paying going → All (λ x. held_test x.0 ≡ false) paying → All (λ x. held_test x ≡ false) going →
      count held_test f.left ≡ count held_test e.left
  same_left e f paying going t pays goes =
      let a = t.left (λ x. if held_test x then 1 else 0) in
      let b = none_paid held_test paying pays in
      let c = none_passes held_test going goes in
      omega (arith, a, b, c)

  none_all : {A : Type 0} (P : A → Type 0) → All P []
  none_all P = λ k d below. absurd (omega arith)

  one_all : {A : Type 0} (P : A → Type 0) (x : A) → P x → All P (x ∷ [])
  one_all P x h = All-cons P x [] h (none_all P)

  module _ (old mid : State) (owed : Owed) where
    begins_kept : (e : Ending) → Begins mid owed e → count held_test e.left ≡ held mid task kind p
    begins_kept e b =
        let a = b.rights (λ x. if held_test x then 1 else 0) in
        let z = none_paid held_test (went_in e.begun) (all_as (PaidForName mid) (λ x. held_test x.0 ≡ false) (λ x h. kept_by x.0 (in_request (dead_name h.task h.name)) h.kept refl) (went_in e.begun) b.went) in
        omega (arith, a, z)

    turn_kept : (e f : Ending) → Turn old mid e f → listed f.buried p ≡ false → (listed e.buried p ≡ false) × (count held_test f.left ≡ count held_test e.left)
    turn_kept e f (inl t) none = (ap (λ (x : Ending). listed x.buried p) (sym t.rest) ∙ none, ap (λ (x : Ending). count held_test x.left) t.rest)
    turn_kept e f (inr (inl t)) none = (
      ap (λ (x : Ending). listed x.buried p) (sym t.rest) ∙ none,
      same_left e f _ t.going t.takes (one_all (λ x. held_test x.0 ≡ false) (token send_once t.saved.notify (in_request (port_destroyed t.port)), port_sent t.port) (kept_by (token send_once t.saved.notify (in_request (port_destroyed t.port))) (in_request (port_destroyed t.port)) refl refl)) (all_as (λ x. (x.kind ≡ receive) × (x.port ≡ t.port) × IsAtDoomed e x.place) (λ x. held_test x ≡ false) (λ x h. at_doomed e x h.2) t.going t.carried),
    )
    turn_kept e f (inr (inr (inl t))) none = (ap (λ (x : Ending). listed x.buried p) (sym t.rest) ∙ none, ap (λ (x : Ending). count held_test x.left) t.rest)
    turn_kept e f (inr (inr (inr (inl t)))) none = (ap (λ (x : Ending). listed x.buried p) (sym t.rest) ∙ none, go t.takes)
      where
        go : (t.right.kind ≡ send_once) × SpendsRights e f ((t.right, right_unused) ∷ []) [] ⊎ (t.right.kind ≢ send_once) × SpendsRights e f [] (t.right ∷ []) → count held_test f.left ≡ count held_test e.left
        go (inl h) = same_left e f _ _ h.1 (one_all (λ x. held_test x.0 ≡ false) _ (at_doomed e t.right t.destroyed)) (none_all _)
        go (inr h) = same_left e f _ _ h.1 (none_all _) (one_all (λ x. held_test x ≡ false) _ (at_doomed e t.right t.destroyed))
    turn_kept e f (inr (inr (inr (inr (inl t))))) none = (
      ap (λ (x : Ending). listed x.buried p) (sym t.rest) ∙ none,
      same_left e f t.paying [] t.takes (all_as (PaysAtEnd e t.request) (λ x. held_test x.0 ≡ false) (λ x h. kept_by x.0 (in_request t.request) h.kept refl) t.paying t.pays) (none_all _),
    )
    turn_kept e f (inr (inr (inr (inr (inr (inl t)))))) none = (
      was,
      same_left e f [] t.going t.takes (none_all _) (all_as (λ x. x.port ≡ t.port) (λ x. held_test x ≡ false) (λ x h. other_port x t.port h not_it) t.going t.goes),
    )
      where
        list : listed f.buried p ≡ listed (t.port ∷ e.buried) p
        list = ap (λ (x : Ending). listed x.buried p) t.rest

        was : listed e.buried p ≡ false
        was = go (listed e.buried p) refl
          where
            go : (b : Bool) → listed e.buried p ≡ b → b ≡ false
            go true is = absurd (let a = listed_later t.port e.buried p is in let c : true ≡ false = sym a ∙ sym list ∙ none in cc)
            go false is = refl

        not_it : p ≡ t.port → ⊥
        not_it is = let a : listed (t.port ∷ e.buried) p ≡ true = subst (λ (k : ℕ). listed (t.port ∷ e.buried) k ≡ true) (sym is) (listed_first t.port e.buried) in let c : true ≡ false = sym a ∙ sym list ∙ none in cc
    turn_kept e f (inr (inr (inr (inr (inr (inr t)))))) none = (
      ap (λ (x : Ending). listed x.buried p) (sym t.rest) ∙ none,
      same_left e f t.paying [] t.takes (all_as (λ x. (x.0.kind ≡ send_once) × (x.0.place ≡ in_request (no_senders t.port)) × (x.1 ≡ no_more_senders ((outcome mid e).make_send t.port))) (λ x. held_test x.0 ≡ false) (λ x h. kept_by x.0 (in_request (no_senders t.port)) h.1 refl) t.paying t.pays) (none_all _),
    )

    -- Of a port that isn't buried a task has as many rights left as it had.
    pub held_left : (e : Ending) → IsReached old mid owed e → listed e.buried p ≡ false → count (is_held task kind p) e.left ≡ held mid task kind p
    held_left e' (begins e b) none = begins_kept e b
    held_left f' (turns e f before t) none = let h = turn_kept e f t none in h.1 ∙ held_left e before h.0

-- ---- The state after a burial is the machine's state after that turn.

-- the port is dead in it, with all rights for it, and its names are dead names; of other ports these live
abbrev pub after_burial : (live : ℕ → Bool) → (port : ℕ) → State → State
after_burial live port s = record s {
  live_port = λ q. s.live_port q && not (q == port);
  sets_of = λ q. if q == port then [] else s.sets_of q;
  naming = λ task. mapped (left_target live (λ q. held s task send q)) (s.naming task);
  ledger = filter (is_off port) s.ledger;
}

module _ (now : ℕ) (old mid : State) (owed : Owed) (e : Ending) (port : ℕ) (s : State) (lawful : MidLawful mid owed) (reached : IsReached old mid owed e) (doomed : listed e.doomed port ≡ true) (unburied : listed e.buried port ≡ false)
    (f : IsSoFar now mid e s) where
  -- the rights of tasks for the port are those that they had
  pub held_same : (task : ℕ) (kind : Kind) → held s task kind port ≡ held mid task kind port
  held_same task kind =
      let a = f.ledger (λ x. if is_held task kind port x then 1 else 0) in
      let b = none_tasked (is_held task kind port) (λ k p q n. and_false (is_of kind port (token k p (in_message q n)))) (filter (λ (x : Posted). s.live_port x.port) (posted_so_far mid e)) in
      let d = held_left task kind port old mid owed e reached unburied in
      omega (arith, a, b, d)

  module _ (every : (r : Request) → mid.stands r ≡ true → IsRequestOf mid port r → is_among e.ended r ≡ true) (live : ℕ → Bool) (lives : (q : ℕ) → live q ≡ (s.live_port q && not (q == port))) where
    abbrev pub next : State
    next = after_burial live port s

    abbrev done : Ending
    done = bury port e

    stands : (r : Request) → s.stands r ≡ (if is_among e.ended r then false else (outcome mid (buried_alone done)).stands r)
    stands r = elim (of_port mid e port r) [
      | inl of ↦ none_stands now mid e port s f every r of
          ∙ sym (ap (λ (b : Bool). if is_among e.ended r then false else mid.stands r && not b) (own_ended mid e port r of) ∙ ap (λ (b : Bool). if is_among e.ended r then false else b) (and_false (mid.stands r)) ∙ both (is_among e.ended r))
      | inr not_of ↦ f.stands r ∙ sym (ap (λ (b : Bool). if is_among e.ended r then false else mid.stands r && not b) (other_ended mid e port r not_of))
    ]
      where
        both : (c : Bool) → (if c then false else false) ≡ false
        both true = refl
        both false = refl

    sets_of : (p : ℕ) → next.sets_of p ≡ (outcome mid (buried_alone done)).sets_of p
    sets_of p = elim (eqb_tells p port) [
      | inl h ↦ ap (λ (b : Bool). if b then [] else s.sets_of p) h.0 ∙ sym (ap (λ (b : Bool). if listed e.saved p then [] else if mid.live_port p && not (b || listed e.buried p) then mid.sets_of p else []) h.0 ∙ gone (mid.live_port p) (listed e.saved p))
      | inr h ↦ ap (λ (b : Bool). if b then [] else s.sets_of p) h.0 ∙ f.sets_of p ∙ sym (ap (λ (b : Bool). if listed e.saved p then [] else if mid.live_port p && not (b || listed e.buried p) then mid.sets_of p else []) h.0)
    ]
      where
        gone : (a b : Bool) → (if b then [] else if a && false then mid.sets_of p else []) ≡ []
        gone true true = refl
        gone true false = refl
        gone false true = refl
        gone false false = refl

    -- ---- names

    -- a name of the port on which no request ended had none
    unasked : (task name : ℕ) → IsNameOf port (lookup mid task name) → is_among e.ended (dead_name task name) ≡ false → mid.stands (dead_name task name) ≡ false
    unasked task name of none = false_from_ne_true (mid.stands (dead_name task name)) (λ is. let g : true ≡ false = sym (every (dead_name task name) is of) ∙ none in cc)

    names : (task name : ℕ) → lookup next task name ≡ option_map (settled_target mid (seen_for mid e.ended next.live_port task name) task name) (lookup mid task name)
    names task name =
        mapped_get (left_target live (λ q. held s task send q)) (s.naming task) name
        ∙ ap (option_map (left_target live (λ q. held s task send q))) (f.names task name)
        ∙ go (lookup mid task name) refl
      where
        asked : Bool
        asked = is_among e.ended (dead_name task name)

        -- a name of a port: it has so many references once the port is gone
        turned : (q k n : ℕ) (t : Target) → left_target live (λ q. held s task send q) t ≡ (if live q then t else Target.dead k) → (asked ≡ false → q ≡ port → k ≡ n) →
            left_target live (λ q. held s task send q) (if (if asked then false else s.live_port q) then t else Target.dead n) ≡ (if (if asked then false else (s.live_port q && not (q == port))) then t else Target.dead n)
        turned q k n t read same = cases (s.live_port q) asked refl refl
          where
            cases : (a b : Bool) → s.live_port q ≡ a → asked ≡ b →
                left_target live (λ q. held s task send q) (if (if b then false else a) then t else Target.dead n) ≡ (if (if b then false else (a && not (q == port))) then t else Target.dead n)
            cases a true at h = refl
            cases false false at h = refl
            cases true false at h = elim (eqb_tells q port) [
              | inl own ↦ read ∙ ap (λ (c : Bool). if c then t else Target.dead k) (lives q ∙ (λ i. at i && not (own.0 i))) ∙ ap (λ (m : ℕ). Target.dead m) (same h own.1) ∙ sym (ap (λ (c : Bool). if not c then t else Target.dead n) own.0)
              | inr other ↦ read ∙ ap (λ (c : Bool). if c then t else Target.dead k) (lives q ∙ (λ i. at i && not (other.0 i))) ∙ sym (ap (λ (c : Bool). if not c then t else Target.dead n) other.0)
            ]

        go : (o : Option Target) → lookup mid task name ≡ o →
            option_map (left_target live (λ q. held s task send q)) (option_map (settled_target mid (seen_for mid e.ended s.live_port task name) task name) o) ≡ option_map (settled_target mid (seen_for mid e.ended next.live_port task name) task name) o
        go None is = refl
        go (Some (Target.dead n)) is = refl
        go (Some (Target.set n)) is = refl
        go (Some (Target.port q)) is = ap Some (turned q (held s task send q) (dead_references (mid.stands (dead_name task name)) (held mid task send q)) (Target.port q) refl (λ none is_port.
            subst (λ (k : ℕ). held s task send k ≡ held mid task send k) (sym is_port) (held_same task send)
            ∙ ap (λ (b : Bool). dead_references b (held mid task send q)) (sym (unasked task name (subst (IsNameOf port) (sym is) is_port) none))))
        go (Some (Target.once q)) is = ap Some (turned q 1 (dead_references (mid.stands (dead_name task name)) 1) (Target.once q) refl (λ none is_port.
            ap (λ (b : Bool). dead_references b 1) (sym (unasked task name (subst (IsNameOf port) (sym is) is_port) none))))

    -- ---- rights

    ledger : (h : Token → ℕ) → weigh h next.ledger ≡ weigh h done.left + weigh h (all_posted_tokens (filter (λ (x : Posted). next.live_port x.port) (posted_so_far mid done)))
    ledger h =
        let a : weigh h next.ledger ≡ weigh (elsewhere port h s.live_port) s.ledger = off s.ledger in
        let b = f.ledger (elsewhere port h s.live_port) in
        let c : weigh h done.left ≡ weigh (elsewhere port h s.live_port) e.left = off e.left in
        let d = left_posted port h s.live_port (due_so_far e) (λ p. length (mid.log p)) (all_fine old mid owed e lawful reached port doomed) in
        omega (arith, a, b, c, d)
      where
        off : (xs : List Token) → weigh h (filter (is_off port) xs) ≡ weigh (elsewhere port h s.live_port) xs
        off xs = filter_weigh h (is_off port) xs ∙ weigh-same (λ x. if is_off port x then h x else 0) (elsewhere port h s.live_port) (λ x. swap (x.port == port) (h x)) xs
          where
            swap : (b : Bool) (n : ℕ) → (if not b then n else 0) ≡ (if b then 0 else n)
            swap true n = refl
            swap false n = refl

    pub next_so_far : IsSoFar now mid done next
    next_so_far = record {
      live_port = λ p. ap (λ (b : Bool). b && not (p == port)) (f.live_port p) ∙ lives_else_after mid e port p;
      stands = stands;
      sets_of = sets_of;
      make_send = f.make_send;
      sequence = f.sequence;
      names = names;
      log = f.log;
      taken = f.taken;
      destroyed = f.destroyed;
      ledger = ledger;
      rest = ap (λ (x : State). record x { live_port = next.live_port; sets_of = next.sets_of; naming = next.naming; ledger = next.ledger }) f.rest;
    }
