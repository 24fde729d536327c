-- A step: a call's own part, and what settles after it; or a refusal. And the opening.
use Rattle.std.proofs.Common.{◌≡◌, ℕ, ◌≤◌, ◌-◌, ◌^◌, Bool, true, false, Option, Some, None, refl, sym, ap, ◌∙◌, arith, inl, inr}
use Rattle.std.specs.Prelude.{is_some, if◌then◌else◌, nat_lt, min}
use Rattle.std.specs.FinMap as map
use Rattle.std.specs.Option.{option_map}
use Rattle.std.specs.Ordering.{nat_cmp}
use Rattle.mach_types.specs.declared.calls.Event.{Event}
use Rattle.mach_types.specs.declared.calls.Reply.{Reply}
use Rattle.mach_types.specs.Tokens.{Request, no_senders, port_destroyed, dead_name}
use Rattle.mach_model.specs.State.{State, opening_in}
use Rattle.mach_model.specs.Machine.{Done}
use Rattle.mach_model.specs.Lawful.{IsLawful}
use Rattle.mach_model.specs.Work.{deaths, IsBounded}
use Rattle.mach_model.proofs.StepLawful.{opening-lawful}
use Rattle.mach_model.proofs.Failing.{refusal_fails}
use Rattle.port.specs.Ports.{PortView}
use Rattle.port_set.specs.declared.SetRecord.{SetRecord}
use Rattle.request_table.specs.declared.Request.{Request as NameRequest}
use Rattle.request_table.specs.Requests.{name_key}
use Rattle.rights.specs.declared.Counts.{Counts}
use Rattle.copyin_base.specs.Serving.{Completes, Declines}
use Rattle.copyin_base.specs.Kept.{Kept}
use Rattle.request_table.specs.Tables.{none_requested}
use Rattle.copyin_base.specs.Requests.{notify_of, rights_kept}
use Rattle.copyin_base.specs.Shows.{Agrees, Shows}
use Rattle.copyin_base.specs.Stands.{Stands}
use Rattle.copyin_base.specs.Worlds.{WorldView, no_world}
use Rattle.copyin_base.proofs.Carriers.{carriers_none}
use Rattle.copyin_base.proofs.Holders.{holders_none}
use Rattle.copyin_base.proofs.Idle.{idle_none}
use Rattle.copyin_base.proofs.Requested.{requested_none}
use Rattle.copyin_base.proofs.Slots.{slots_none}
use Rattle.destroy.specs.Stages.{SettlesIn}
use Rattle.kernel_core.specs.Answers.{Answers}
use Rattle.kernel_core.specs.Kernels.{EndsInTurns, TakesTurns}
use Rattle.mach_laws.proofs.Working.{few_turns, same_deaths, few_deaths}
use Rattle.mach_types.specs.declared.profiles.Profile.{Profile}

-- What was done is settled: a step that is done.
pub acted : (old mid new : WorldView) (event : Event) (reply : Reply) (turns : ℕ) → Completes old event reply mid → SettlesIn mid turns new → Answers old event reply new
acted old mid new event reply turns a settles = λ now s sh.
    let d = a.acts now s sh in
    let e = settles now old s d.mid d.owed sh d.shows in
    (e.0, inr (record { performed = record { mid = d.mid; owed = d.owed; does = d.does; settles = e.1 }; unrefused = d.unrefused; judged = d.judged }), e.2)

-- What is told of the turns of a step's end is no more than they are, and no fewer than ports died: there are not so many rights.
in_turns : (now : ℕ) (s : State) (event : Event) (reply : Reply) (t : State) → IsLawful s → (d : Done now s event reply t) → (many turns : ℕ) → turns ≡ min many (2 ^ 64 - 1) →
    IsBounded d.mid d.owed t many → deaths d.mid t ≤ many → EndsInTurns s d.mid d.owed t turns
in_turns now s event reply t l d many turns told b least = record {
  most = let a = few_turns now s event reply t l d many b in omega (arith, told, a);
  least = let a = same_deaths now s event reply t l d in let c = few_deaths s t l in let e = l.few_rights in omega (arith, told, least, a, c, e);
  bounded = record { is_sent = b.is_sent; sent = b.sent; most = let a = b.most in omega (arith, told, a) };
}

-- It ends in the turns that settling took.
pub acted_turns : (old mid new : WorldView) (event : Event) (reply : Reply) (turns : ℕ) → Completes old event reply mid → SettlesIn mid turns new → TakesTurns old event reply new turns
acted_turns old mid new event reply turns a settles = λ now s sh.
    let d = a.acts now s sh in
    let e = settles now old s d.mid d.owed sh d.shows in
    let x : Done now s event reply e.0 = record { performed = record { mid = d.mid; owed = d.owed; does = d.does; settles = e.1 }; unrefused = d.unrefused; judged = d.judged } in
    (e.0, e.2, inr (x, in_turns now s event reply e.0 sh.lawful x e.3.ending.turns turns e.3.number e.3.bounded e.3.deaths_are))

pub declined_turns : (old new : WorldView) (event : Event) (code turns : ℕ) → turns ≡ 0 → Declines old event code new → TakesTurns old event (Reply.Code code) new turns
declined_turns old new event code turns none d = λ now s sh. (s, d.shows s sh, inl (record { declined = record { code = code; failed = refusal_fails s event code (d.refuses s sh); told = refl; same = refl }; refuses = d.refuses s sh }, none))

-- A refusal is a step that is refused.
pub declined : (old new : WorldView) (event : Event) (code : ℕ) → Declines old event code new → Answers old event (Reply.Code code) new
declined old new event code d = λ now s sh. (s, inl (record { declined = record { code = code; failed = refusal_fails s event code (d.refuses s sh); told = refl; same = refl }; refuses = d.refuses s sh }), d.shows s sh)

-- After a step the tables show a state again.
pub still_stands : (old new : WorldView) (event : Event) (reply : Reply) → Stands old → Answers old event reply new → Stands new
still_stands old new event reply stands answers = let x = answers 0 stands.state stands.shown in record { state = x.0; shown = x.2 }

-- ---- nothing was made yet

pub opening_agrees : (profile : Profile) → Agrees (no_world profile) (opening_in profile)
opening_agrees profile = record {
  spaces = record {
    same_profile = refl;
    counts_given = λ task space e. absurd (let e' : None ≡ Some space = e in cc);
    none_given = λ task index unmade. refl;
    live_task = λ task. refl;
    tasks_made = refl;
    naming = λ task name. map.get-empty nat_cmp name;
    names_kept = λ task space e. absurd (let e' : None ≡ Some space = e in cc);
    counted = λ task name x e. absurd (let e' : None ≡ Some x = e in cc);
  };
  rights = record { references = λ task name x p e is. absurd (let e' : None ≡ Some x = e in cc) };
  live_port = λ p. rw (map.get-empty {X = PortView Kept} nat_cmp p) refl;
  ports_made = refl;
  ports = λ p v e. absurd (no_port p v e);
  counts = λ p. record {
    entered = rw (map.get-empty {X = Counts} nat_cmp p) refl;
    receivers = rw (map.get-empty {X = Counts} nat_cmp p) refl;
    senders = rw (map.get-empty {X = Counts} nat_cmp p) refl;
    once_rights = rw (map.get-empty {X = Counts} nat_cmp p) refl;
    destinations = λ live. rw (map.get-empty {X = Counts} nat_cmp p) refl;
  };
  total = refl;
  in_sets = record {
    set_owner = λ set. sym (ap (option_map (λ (r : SetRecord). r.owner)) (map.get-empty {X = SetRecord} nat_cmp set));
    sets_made = refl;
    set_named = λ set r e. absurd (let n : map.get (no_world profile).sets.sets set ≡ None = map.get-empty {X = SetRecord} nat_cmp set in cc);
  };
  of_requests = record {
    standing = λ r. sym (ap is_some (nothing r));
    kept = λ r kind q. let none = ap (λ (o : Option ℕ). rights_kept (opening_in profile).live_port o kind q) (nothing r) in omega (arith, none);
    given = λ r q is. absurd (let e : None ≡ Some q = sym (nothing r) ∙ is in cc);
    given_went = tt;
    ended_went = tt;
  };
}
  where
    nothing : (r : Request) → notify_of none_requested r ≡ None
    nothing (no_senders p) = map.get-empty nat_cmp p
    nothing (port_destroyed p) = map.get-empty nat_cmp p
    nothing (dead_name task name) = named (nat_lt name (2 ^ 32))
      where
        named : (b : Bool) → (if b then option_map (λ (r : NameRequest). r.notify) (map.get none_requested.names.requests (name_key task name)) else None) ≡ None
        named true = ap (option_map (λ (r : NameRequest). r.notify)) (map.get-empty nat_cmp (name_key task name))
        named false = refl

    no_port : (p : ℕ) (v : PortView Kept) → map.get (no_world profile).ports.ports p ≡ Some v → ⊥
    no_port p v e = let n : map.get (no_world profile).ports.ports p ≡ None = map.get-empty {X = PortView Kept} nat_cmp p in cc

pub opening_shows : (profile : Profile) → Shows (no_world profile) (opening_in profile)
opening_shows profile = record {
  agrees = opening_agrees profile;
  holders = holders_none profile;
  carriers = carriers_none profile;
  slots = slots_none profile;
  requested = requested_none profile;
  idle = idle_none profile;
  lawful = opening-lawful profile;
}

pub opening_stands : (profile : Profile) → Stands (no_world profile)
opening_stands profile = record { state = opening_in profile; shown = opening_shows profile }
