-- One name of a task has changed, in the tables and in the machine alike.
use Rattle.std.proofs.Common.{◌≡◌, ℕ, ◌<◌, ◌^◌, arith, Option, Some, None, refl, sym, ap, subst, ◌∙◌, ◌⊎◌, inl, inr, length}
use Rattle.std.specs.Prelude.{is_some}
use Rattle.std.specs.Option.{option_map}
use Rattle.std.specs.FinMap as map
use Rattle.std.proofs.lemmas.Bool.Decides.{eqb_tells}
use Rattle.mach_types.specs.Tokens.{Kind, receive, send, Request, in_request}
use Rattle.mach_model.specs.State.{State, Target, Names, lookup, held}
use Rattle.mach_model.specs.Telling.{one_if}
use Rattle.mach_model.specs.Carried.{lying}
use Rattle.mach_model.proofs.Moving.{shape, TaskNaming}
use Rattle.name_space.specs.declared.Entry.{Entry}
use Rattle.name_space.specs.declared.Entry.TheVariants as entry_of
use Rattle.name_space.specs.Entry.{port_named, has_receive, send_references}
use Rattle.name_space.specs.Names.{SpaceView}
use Rattle.port.specs.Ports.{PortView, PortsView}
use Rattle.rights.specs.Ledger.{LedgerView}
use Rattle.tables_base.specs.Kept.{Kept}
use Rattle.copyin_base.specs.Worlds.{WorldView, space_at, with_space, entry_in, entry_at, port_at, put}
use Rattle.request_table.specs.declared.Request.{Request as NameRequest}
use Rattle.request_table.specs.Requests.{name_key}
use Rattle.copyin_base.specs.Requests.{notify_of, RequestsAgree, requests_after}
use Rattle.copyin_base.specs.Shows.{GivenAgrees, target_of, HasCount, ShowsPort, ShowsCounts, Agrees, RequestsStand}
use Rattle.copyin_base.proofs.Agreeing.{NamesAgree, CountRights, own_names, put_names, near_by_agrees}
use Rattle.copyin_base.proofs.Requesting.{same_key, stands_after, requests_stay, requests_left}
use Rattle.copyin_base.proofs.Putting.{each_put, put_other}

-- an entry by receive or send rights stands for its port
pub target_named : (e : Entry) (p : ℕ) → port_named e ≡ Some p → target_of e ≡ Target.port p
target_named (entry_of.Receive q) p is = cc
target_named (entry_of.Send q n) p is = cc
target_named (entry_of.ReceiveAndSend q n) p is = cc
target_named (entry_of.SendOnce q) p is = absurd (cc)
target_named (entry_of.DeadName n) p is = absurd (cc)
target_named (entry_of.Set n) p is = absurd (cc)

-- ... and so it is no set
pub named_no_set : (e : Entry) (p : ℕ) → port_named e ≡ Some p → (set : ℕ) → target_of e ≡ Target.set set → ⊥
named_no_set e p is set f = apart p set (sym (target_named e p is) ∙ f)
  where
    apart : (q n : ℕ) → Target.port q ≡ Target.set n → ⊥
    apart q n g = cc

pub same_port : (o : Option ℕ) (p : ℕ) → (o ≡ Some p) ⊎ (o ≡ Some p → ⊥)
same_port None p = inr (λ e. cc)
same_port (Some q) p = elim (eqb_tells q p) [
  | inl h ↦ inl (ap Some h.1)
  | inr h ↦ inr (λ e. h.1 (let f : Some q ≡ Some p = e in cc))
]

-- The rest of what is to be known of a change: the ports, the counts, and the rights that the task has now.
pub record Rest (w w2 : WorldView) (s t : State) (task name : ℕ) (entry : Entry) (left : Option Entry) : Type 0 where
  pub rest : t ≡ shape s t
  pub naming_others : (u : ℕ) → (u ≡ task → ⊥) → t.naming u ≡ s.naming u
  pub held_others : (u : ℕ) → (u ≡ task → ⊥) → (kind : Kind) (q : ℕ) → held t u kind q ≡ held s u kind q
  pub own_references : (e : Entry) (q : ℕ) → left ≡ Some e → port_named e ≡ Some q → (held t task receive q ≡ one_if (has_receive e)) × (held t task send q ≡ send_references e)
  pub other_references : (q : ℕ) → (port_named entry ≡ Some q → ⊥) → (held t task receive q ≡ held s task receive q) × (held t task send q ≡ held s task send q)
  pub own_count : (e : Entry) → left ≡ Some e → HasCount e
  pub made : w2.ports.made ≡ w.ports.made
  pub live : (p : ℕ) → is_some (port_at w2 p) ≡ is_some (port_at w p)
  pub ports : (p : ℕ) (v : PortView Kept) → port_at w2 p ≡ Some v → ShowsPort v t p
  pub counts : (p : ℕ) → ShowsCounts w2 t p
  pub total : w2.ledger.total ≡ length t.ledger
  -- where the name goes the request on it ends
  pub stands : (r : Request) → t.stands r ≡ stands_after s.stands task name left r
  pub requests : (r : Request) (kind : Kind) (q : ℕ) → lying t kind q (in_request r) ≡ lying s kind q (in_request r)
  pub no_set : (set : ℕ) → target_of entry ≡ Target.set set → ⊥
  pub given : t.given ≡ s.given

module _ (w : WorldView) (s : State) (a : Agrees w s) (task name : ℕ) (naming : TaskNaming s task) (space : SpaceView) (there : space_at w task ≡ Some space)
    (entry : Entry) (found : map.get space.names name ≡ Some entry) where
  pub entry_found : (n : ℕ) → entry_at w task n ≡ map.get space.names n
  entry_found n = ap (λ (o : Option SpaceView). entry_in o n) there

  pub target_found : lookup s task name ≡ Some (target_of entry)
  target_found = a.naming task name ∙ ap (option_map target_of) (entry_found name ∙ found)

  -- what the task has by this entry
  pub held_by : (p : ℕ) → port_named entry ≡ Some p → (held s task receive p ≡ one_if (has_receive entry)) × (held s task send p ≡ send_references entry)
  held_by p is = a.references task name entry p (entry_found name ∙ found) is

  pub has_count : HasCount entry
  has_count = a.counted task name entry (entry_found name ∙ found)

  module _ (left : Option Entry) (room : ℕ) (ports : PortsView Kept) (ledger : LedgerView) (t : State)
      (own : t.naming task ≡ put (s.naming task) name (option_map target_of left)) where
    abbrev space2 : SpaceView
    space2 = record space { names = put space.names name left; room = room }

    abbrev w2 : WorldView
    w2 = record (with_space w task space2) { ports = ports; ledger = ledger; requests = requests_after w.requests task name left }

    -- another name isn't of the same port
    not_same : (n : ℕ) (e : Entry) (p : ℕ) → (n ≡ name → ⊥) → map.get space.names n ≡ Some e → port_named e ≡ Some p → port_named entry ≡ Some p → ⊥
    not_same n e p not is en own_named =
        let x : lookup s task n ≡ Some (Target.port p) = a.naming task n ∙ ap (option_map target_of) (entry_found n ∙ is) ∙ ap Some (target_named e p en) in
        let y : lookup s task name ≡ Some (Target.port p) = target_found ∙ ap Some (target_named entry p own_named) in
        not (naming.one_name n name p x y)

    references : Rest w w2 s t task name entry left → CountRights (put space.names name left) task t.ledger
    references r = each_put space.names name left (λ n x. (e : Entry) (p : ℕ) → x ≡ Some e → port_named e ≡ Some p →
        (held t task receive p ≡ one_if (has_receive e)) × (held t task send p ≡ send_references e))
        r.own_references (λ n not e p is en.
        let o = r.other_references p (λ same. not_same n e p not is en same) in
        let b = a.references task n e p (entry_found n ∙ is) en in
        (o.0 ∙ b.0, o.1 ∙ b.1))

    -- the name isn't that of a set, so each that is stays
    set_names : ((set : ℕ) → target_of entry ≡ Target.set set → ⊥) → (n set : ℕ) → lookup s task n ≡ Some (Target.set set) → map.get (t.naming task) n ≡ Some (Target.set set)
    set_names none n set is = elim (eqb_tells n name) [
      | inl h ↦ absurd (none set (the_target (target_of entry) (Target.set set) (sym target_found ∙ subst (λ (x : ℕ). lookup s task x ≡ Some (Target.set set)) h.1 is)))
      | inr h ↦ ap (λ (m : Names). map.get m n) own ∙ put_other (s.naming task) name (option_map target_of left) n h.1 ∙ is
    ]
      where
        the_target : (x y : Target) → Some x ≡ Some y → x ≡ y
        the_target x y e = cc

    small : name < 2 ^ 32
    small = naming.space.name_fits name (target_of entry) target_found

    -- the request on the name is kept by it
    own_request : RequestsStand w → (r : NameRequest) → map.get w.requests.names.requests (name_key task name) ≡ Some r → (r.task ≡ task) × (r.name ≡ name)
    own_request requested r is =
        let on = requested.on_names (name_key task name) r is in
        same_key r.task r.name task name on.small small on.own

    requests_agree : RequestsStand w → Rest w w2 s t task name entry left →
        RequestsAgree (notify_of w2.requests) w2.requests.names.went w2.ports.made t.stands t.live_port t.ledger
    requests_agree requested r =
        let made = r.made in
        requests_stay (notify_of w2.requests) w2.requests.names.went w.ports.made ports.made (stands_after s.stands task name left) t.stands s.live_port t.live_port s.ledger t.ledger
        (requests_left w.requests task name small (own_request requested) w.ports.made s.stands s.live_port s.ledger a.of_requests left)
        (omega (arith, made)) r.stands (λ q less. ap (λ (x : State). x.live_port q) r.rest) r.requests

    pub changed_agrees : RequestsStand w → Rest w w2 s t task name entry left → Agrees w2 t
    changed_agrees requested r = near_by_agrees w w2 s t a task space space2 there
        record {
          spaces = refl;
          profile = refl;
          rest = r.rest;
          naming_others = r.naming_others;
          given = subst (λ (g : ℕ → ℕ → ℕ). GivenAgrees s.profile space.given (g task)) (sym r.given) (a.counts_given task space there);
          given_others = λ u not. ap (λ (g : ℕ → ℕ → ℕ). g u) r.given;
          names = subst (NamesAgree (put space.names name left)) (sym own) (put_names space.names (s.naming task) (own_names w s a task space there) name left r.own_count);
          held_others = r.held_others;
          references = references r;
          made = r.made;
          live = r.live;
          ports = r.ports;
          counts = r.counts;
          total = r.total;
          sets = refl;
          set_names = set_names r.no_set;
        }
        (requests_agree requested r)
