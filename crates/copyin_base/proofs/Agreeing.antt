-- The tables still agree with a state when one task's names, and attributes and counts of ports, have changed. Each group of what they
-- tell has a frame of its own.
use Rattle.std.proofs.Common.{◌≡◌, ◌≤◌, ℕ, Bool, true, List, Option, Some, None, refl, sym, ap, subst, ◌∙◌, inl, inr, length, arith}
use Rattle.std.specs.Prelude.{slice_set, is_some}
use Rattle.std.specs.Option.{option_map}
use Rattle.std.specs.FinMap as map
use Rattle.std.specs.Ordering.{nat_cmp}
use Rattle.std.proofs.lemmas.Bool.Decides.{eqb_tells}
use Rattle.mach_types.specs.Tokens.{Kind, receive, send, Request, in_request, Token, count, is_held}
use Rattle.mach_model.specs.State.{State, Target, Names, lookup, held}
use Rattle.mach_model.specs.Telling.{one_if}
use Rattle.mach_model.specs.Carried.{lying}
use Rattle.mach_model.proofs.Moving.{shape}
use Rattle.name_space.specs.declared.Entry.{Entry}
use Rattle.name_space.specs.Entry.{port_named, has_receive, send_references}
use Rattle.name_space.specs.Names.{SpaceView}
use Rattle.name_space.specs.Names.{Names as TableNames}
use Rattle.port.specs.Ports.{PortView}
use Rattle.port_set.specs.Sets.{SetsView}
use Rattle.tables_base.specs.Kept.{Kept}
use Rattle.copyin_base.specs.Worlds.{WorldView, space_in, space_at, entry_in, port_at, put}
use Rattle.request_table.specs.Tables.{RequestTablesView}
use Rattle.copyin_base.specs.Requests.{notify_of, RequestsAgree}
use Rattle.copyin_base.specs.Shows.{target_of, HasCount, GivenAgrees, ShowsPort, ShowsCounts, SpacesAgree, ReferencesAgree, SetsAgree, Agrees}
use Rattle.copyin_base.proofs.Requesting.{requests_stay}
use Rattle.copyin_base.proofs.Gets.{length-set, of_some, same_found}
use Rattle.copyin_base.proofs.Putting.{each_put, put_own, put_other, same_len}
use Rattle.copyin_base.proofs.Spaces.{task_below, each-space-set}
use Rattle.mach_types.specs.declared.profiles.Profile.{Profile}

-- ---- the names of one task

-- What stands under them is what the machine has there.
pub record NamesAgree (m : TableNames) (names : Names) : Type 0 where
  pub naming : (n : ℕ) → map.get names n ≡ option_map target_of (map.get m n)
  pub kept : map.len m ≡ map.len names
  pub counted : (n : ℕ) (e : Entry) → map.get m n ≡ Some e → HasCount e

-- They count these rights of the task.
abbrev pub CountRights : TableNames → (task : ℕ) → List Token → Type 0
CountRights m task tokens = (n : ℕ) (e : Entry) (p : ℕ) → map.get m n ≡ Some e → port_named e ≡ Some p →
    (count (is_held task receive p) tokens ≡ one_if (has_receive e)) × (count (is_held task send p) tokens ≡ send_references e)

pub own_names : (w : WorldView) (s : State) → Agrees w s → (task : ℕ) (space : SpaceView) → space_at w task ≡ Some space → NamesAgree space.names (s.naming task)
own_names w s a task space there =
    let at : (n : ℕ) → entry_in (space_at w task) n ≡ map.get space.names n = λ n. ap (λ (o : Option SpaceView). entry_in o n) there in
    record {
      naming = λ n. a.naming task n ∙ ap (option_map target_of) (at n);
      kept = a.names_kept task space there;
      counted = λ n e is. a.counted task n e (at n ∙ is);
    }

pub own_rights : (w : WorldView) (s : State) → Agrees w s → (task : ℕ) (space : SpaceView) → space_at w task ≡ Some space → CountRights space.names task s.ledger
own_rights w s a task space there n e p is named = a.references task n e p (ap (λ (o : Option SpaceView). entry_in o n) there ∙ is) named

-- the same is put under a name, or taken away
pub put_names : (m : TableNames) (names : Names) → NamesAgree m names → (name : ℕ) (o : Option Entry) → ((e : Entry) → o ≡ Some e → HasCount e) →
    NamesAgree (put m name o) (put names name (option_map target_of o))
put_names m names a name o count = record {
  naming = each_put m name o (λ n x. map.get (put names name (option_map target_of o)) n ≡ option_map target_of x) (put_own names name (option_map target_of o))
      (λ n not. put_other names name (option_map target_of o) n not ∙ a.naming n);
  kept = same_len m names name target_of o (sym (both (map.get m name)) ∙ ap is_some (sym (a.naming name))) a.kept;
  counted = each_put m name o (λ n x. (e : Entry) → x ≡ Some e → HasCount e) count (λ n not. a.counted n);
}
  where
    both : (x : Option Entry) → is_some (option_map target_of x) ≡ is_some x
    both (Some e) = refl
    both None = refl

pub put_rights : (m : TableNames) (task : ℕ) (tokens : List Token) → CountRights m task tokens → (name : ℕ) (o : Option Entry) →
    ((e : Entry) (p : ℕ) → o ≡ Some e → port_named e ≡ Some p → (count (is_held task receive p) tokens ≡ one_if (has_receive e)) × (count (is_held task send p) tokens ≡ send_references e)) →
    CountRights (put m name o) task tokens
put_rights m task tokens c name o own n e p is named =
    each_put m name o (λ k x. (e : Entry) (p : ℕ) → x ≡ Some e → port_named e ≡ Some p → (count (is_held task receive p) tokens ≡ one_if (has_receive e)) × (count (is_held task send p) tokens ≡ send_references e))
    own (λ k not. c k) n e p is named

-- ---- the groups

module _ (spaces : List (Option SpaceView)) (task : ℕ) (space space2 : SpaceView) (there : space_in spaces task ≡ Some space) where
  pub spaces_agree : {own profile : Profile} (live : ℕ → Bool) (number : ℕ) (names names2 : ℕ → Names) (given given2 : ℕ → ℕ → ℕ) → SpacesAgree own spaces live number names profile given →
      NamesAgree space2.names (names2 task) → GivenAgrees profile space2.given (given2 task) → ((u : ℕ) → (u ≡ task → ⊥) → names2 u ≡ names u) → ((u : ℕ) → (u ≡ task → ⊥) → given2 u ≡ given u) →
      SpacesAgree own (slice_set spaces task (Some space2)) live number names2 profile given2
  spaces_agree {own} {profile} live number names names2 given given2 a now counts others given_others =
      let each = each-space-set spaces task space2 space there in
      record {
        live_task = each (λ u x. is_some x ≡ live u) (sym (ap is_some there) ∙ a.live_task task) (λ u not. a.live_task u);
        tasks_made = length-set spaces task (Some space2) ∙ a.tasks_made;
        naming = each (λ u x. (n : ℕ) → map.get (names2 u) n ≡ option_map target_of (entry_in x n)) now.naming (λ u not n. ap (λ (y : Names). map.get y n) (others u not) ∙ a.naming u n);
        names_kept = each (λ u x. (y : SpaceView) → x ≡ Some y → map.len y.names ≡ map.len (names2 u))
            (λ y is. ap (λ (z : SpaceView). map.len z.names) (same_found (Some space2) y space2 is refl) ∙ now.kept)
            (λ u not y is. a.names_kept u y is ∙ ap (λ (z : Names). map.len z) (sym (others u not)));
        counted = each (λ u x. (n : ℕ) (e : Entry) → entry_in x n ≡ Some e → HasCount e) now.counted (λ u not. a.counted u);
        same_profile = a.same_profile;
        counts_given = each (λ u x. (y : SpaceView) → x ≡ Some y → GivenAgrees profile y.given (given2 u))
            (λ y is. subst (λ (z : SpaceView). GivenAgrees profile z.given (given2 task)) (same_found (Some space2) space2 y refl is) counts)
            (λ u not y is. subst (GivenAgrees profile y.given) (sym (given_others u not)) (a.counts_given u y is));
        none_given = λ u index unmade. ap (λ f. f index) (given_others u (unmade_other u unmade a.tasks_made)) ∙ a.none_given u index unmade;
      }
    where
      unmade_other : (u : ℕ) → number ≤ u → length spaces ≡ number → u ≡ task → ⊥
      unmade_other u unmade made same = let below = task_below spaces task space there in absurd (omega (arith, unmade, made, same, below))

  pub references_agree : (tokens tokens2 : List Token) → ReferencesAgree spaces tokens → CountRights space2.names task tokens2 →
      ((u : ℕ) → (u ≡ task → ⊥) → (kind : Kind) (q : ℕ) → count (is_held u kind q) tokens2 ≡ count (is_held u kind q) tokens) → ReferencesAgree (slice_set spaces task (Some space2)) tokens2
  references_agree tokens tokens2 a own others = record {
    references = each-space-set spaces task space2 space there
        (λ u x. (n : ℕ) (e : Entry) (p : ℕ) → entry_in x n ≡ Some e → port_named e ≡ Some p →
        (count (is_held u receive p) tokens2 ≡ one_if (has_receive e)) × (count (is_held u send p) tokens2 ≡ send_references e))
        own (λ u not n e p is named. let r = a.references u n e p is named in (others u not receive p ∙ r.0, others u not send p ∙ r.1));
  }

-- the sets are as they were, where what named one still does
pub sets_stay : (sets : SetsView) (owner : ℕ → Option ℕ) (number : ℕ) (names names2 : ℕ → Names) → SetsAgree sets owner number names → (task : ℕ) →
    ((u : ℕ) → (u ≡ task → ⊥) → names2 u ≡ names u) → ((n set : ℕ) → map.get (names task) n ≡ Some (Target.set set) → map.get (names2 task) n ≡ Some (Target.set set)) →
    SetsAgree sets owner number names2
sets_stay sets owner number names names2 a task others stays = record { set_owner = a.set_owner; sets_made = a.sets_made; set_named = λ set r is. still r.owner r.name set (a.set_named set r is) }
  where
    still : (u n set : ℕ) → map.get (names u) n ≡ Some (Target.set set) → map.get (names2 u) n ≡ Some (Target.set set)
    still u n set is = elim (eqb_tells u task) [
      | inl h ↦ subst (λ (x : ℕ). map.get (names2 x) n ≡ Some (Target.set set)) (sym h.1) (stays n set (subst (λ (x : ℕ). map.get (names x) n ≡ Some (Target.set set)) h.1 is))
      | inr h ↦ ap (λ (m : Names). map.get m n) (others u h.1) ∙ is
    ]

-- ---- ports

-- no port changed
pub ports_kept : (w : WorldView) (s t : State) → Agrees w s → t ≡ record s { naming = t.naming; stands = t.stands; ledger = t.ledger } → (p : ℕ) (v : PortView Kept) → port_at w p ≡ Some v → ShowsPort v t p
ports_kept w s t a same p v is = subst (λ (x : State). ShowsPort v x p) (sym same) (a.ports p v is)

-- one did
module _ (ports : map.FinMap nat_cmp (PortView Kept)) (p : ℕ) (v2 : PortView Kept) where
  pub ports_put : (t : State) → ShowsPort v2 t p → ((q : ℕ) (v : PortView Kept) → (q ≡ p → ⊥) → map.get ports q ≡ Some v → ShowsPort v t q) →
      (q : ℕ) (v : PortView Kept) → map.get (map.insert ports p v2) q ≡ Some v → ShowsPort v t q
  ports_put t own others = each_put ports p (Some v2) (λ q o. (v : PortView Kept) → o ≡ Some v → ShowsPort v t q) (of_some v2 (λ v. ShowsPort v t p) own) (λ q not v. others q v not)

  pub live_put : (live : ℕ → Bool) → live p ≡ true → ((q : ℕ) → is_some (map.get ports q) ≡ live q) → (q : ℕ) → is_some (map.get (map.insert ports p v2) q) ≡ live q
  live_put live lives was = each_put ports p (Some v2) (λ q o. is_some o ≡ live q) (sym lives) (λ q not. was q)

-- ---- all together

-- What is to be known of the change, but for the requests.
pub record NearBy (w w2 : WorldView) (s t : State) (task : ℕ) (space2 : SpaceView) : Type 0 where
  pub spaces : w2.spaces ≡ slice_set w.spaces task (Some space2)
  pub profile : w2.profile ≡ w.profile
  pub rest : t ≡ shape s t
  pub naming_others : (u : ℕ) → (u ≡ task → ⊥) → t.naming u ≡ s.naming u
  pub names : NamesAgree space2.names (t.naming task)
  pub given : GivenAgrees s.profile space2.given (t.given task)
  pub given_others : (u : ℕ) → (u ≡ task → ⊥) → t.given u ≡ s.given u
  pub held_others : (u : ℕ) → (u ≡ task → ⊥) → (kind : Kind) (q : ℕ) → held t u kind q ≡ held s u kind q
  pub references : CountRights space2.names task t.ledger
  pub made : w2.ports.made ≡ w.ports.made
  pub live : (p : ℕ) → is_some (port_at w2 p) ≡ is_some (port_at w p)
  pub ports : (p : ℕ) (v : PortView Kept) → port_at w2 p ≡ Some v → ShowsPort v t p
  pub counts : (p : ℕ) → ShowsCounts w2 t p
  pub total : w2.ledger.total ≡ length t.ledger
  -- the sets are as they were, and what named one still does
  pub sets : w2.sets ≡ w.sets
  pub set_names : (n set : ℕ) → lookup s task n ≡ Some (Target.set set) → map.get (t.naming task) n ≡ Some (Target.set set)

-- ... where requests and their rights are as they were
pub record Near (w w2 : WorldView) (s t : State) (task : ℕ) (space2 : SpaceView) : Type 0 where
  pub spaces : w2.spaces ≡ slice_set w.spaces task (Some space2)
  pub profile : w2.profile ≡ w.profile
  pub rest : t ≡ shape s t
  pub naming_others : (u : ℕ) → (u ≡ task → ⊥) → t.naming u ≡ s.naming u
  pub names : NamesAgree space2.names (t.naming task)
  pub given : GivenAgrees s.profile space2.given (t.given task)
  pub given_others : (u : ℕ) → (u ≡ task → ⊥) → t.given u ≡ s.given u
  pub held_others : (u : ℕ) → (u ≡ task → ⊥) → (kind : Kind) (q : ℕ) → held t u kind q ≡ held s u kind q
  pub references : CountRights space2.names task t.ledger
  pub made : w2.ports.made ≡ w.ports.made
  pub live : (p : ℕ) → is_some (port_at w2 p) ≡ is_some (port_at w p)
  pub ports : (p : ℕ) (v : PortView Kept) → port_at w2 p ≡ Some v → ShowsPort v t p
  pub counts : (p : ℕ) → ShowsCounts w2 t p
  pub total : w2.ledger.total ≡ length t.ledger
  -- so are the requests and their rights
  pub kept_requests : w2.requests ≡ w.requests
  pub stands : (r : Request) → t.stands r ≡ s.stands r
  pub requests : (r : Request) (kind : Kind) (q : ℕ) → lying t kind q (in_request r) ≡ lying s kind q (in_request r)
  -- the sets are as they were, and what named one still does
  pub sets : w2.sets ≡ w.sets
  pub set_names : (n set : ℕ) → lookup s task n ≡ Some (Target.set set) → map.get (t.naming task) n ≡ Some (Target.set set)

module _ (w w2 : WorldView) (s t : State) (a : Agrees w s) (task : ℕ) (space space2 : SpaceView) (there : space_at w task ≡ Some space)
    (near : NearBy w w2 s t task space2) where
  -- the groups, before what they stand over is that of the tables and of the state now
  tasks_agree : SpacesAgree w.profile (slice_set w.spaces task (Some space2)) s.live_task s.tasks_made t.naming s.profile t.given
  tasks_agree = spaces_agree w.spaces task space space2 there s.live_task s.tasks_made s.naming t.naming s.given t.given a.spaces near.names near.given near.naming_others near.given_others

  rights_agree : ReferencesAgree (slice_set w.spaces task (Some space2)) t.ledger
  rights_agree = references_agree w.spaces task space space2 there s.ledger t.ledger a.rights near.references near.held_others

  in_sets_agree : SetsAgree w.sets s.set_owner s.sets_made t.naming
  in_sets_agree = sets_stay w.sets s.set_owner s.sets_made s.naming t.naming a.in_sets task near.naming_others near.set_names

  pub near_by_agrees : RequestsAgree (notify_of w2.requests) w2.requests.names.went w2.ports.made t.stands t.live_port t.ledger → Agrees w2 t
  near_by_agrees of_requests = record {
    spaces = subst (λ (x : List (Option SpaceView)). SpacesAgree w2.profile x t.live_task t.tasks_made t.naming t.profile t.given) (sym near.spaces)
        (subst (λ (x : Profile). SpacesAgree x (slice_set w.spaces task (Some space2)) t.live_task t.tasks_made t.naming t.profile t.given) (sym near.profile)
        (subst (λ (x : State). SpacesAgree w.profile (slice_set w.spaces task (Some space2)) x.live_task x.tasks_made t.naming x.profile t.given) (sym near.rest) tasks_agree));
    rights = subst (λ (x : List (Option SpaceView)). ReferencesAgree x t.ledger) (sym near.spaces) rights_agree;
    live_port = λ p. near.live p ∙ a.live_port p ∙ sym (ap (λ (x : State). x.live_port p) near.rest);
    ports_made = near.made ∙ a.ports_made ∙ sym (ap (λ (x : State). x.ports_made) near.rest);
    ports = near.ports;
    counts = near.counts;
    total = near.total;
    in_sets = subst (λ (x : SetsView). SetsAgree x t.set_owner t.sets_made t.naming) (sym near.sets)
        (subst (λ (x : State). SetsAgree w.sets x.set_owner x.sets_made t.naming) (sym near.rest) in_sets_agree);
    of_requests = of_requests;
  }

module _ (w w2 : WorldView) (s t : State) (a : Agrees w s) (task : ℕ) (space space2 : SpaceView) (there : space_at w task ≡ Some space)
    (near : Near w w2 s t task space2) where
  made : w2.ports.made ≡ w.ports.made
  made = near.made

  pub near_agrees : Agrees w2 t
  near_agrees = near_by_agrees w w2 s t a task space space2 there (assumption (near))
      (subst (λ (x : RequestTablesView). RequestsAgree (notify_of x) x.names.went w2.ports.made t.stands t.live_port t.ledger) (sym near.kept_requests)
      (requests_stay (notify_of w.requests) w.requests.names.went w.ports.made w2.ports.made s.stands t.stands s.live_port t.live_port s.ledger t.ledger a.of_requests
      (omega (arith, made)) near.stands (λ q less. ap (λ (x : State). x.live_port q) near.rest) near.requests))
