-- A request ends, and a name dies: the tables still agree.
use Rattle.std.proofs.Common.{◌⊎◌, inl, inr, ◌≡◌, ℕ, ◌+◌, ◌<◌, List, [], ◌∷◌, Option, Some, None, refl, sym, ap, subst, ◌∙◌, arith, true, false, Bool, length}
use Rattle.std.specs.Prelude.{if◌then◌else◌, ◌&&◌, filter, is_some}
use Rattle.std.specs.Option.{option_map}
use Rattle.std.specs.FinMap as map
use Rattle.std.proofs.lemmas.Bool.{eq-eqb}
use Rattle.mach_types.specs.Tokens.{Kind, receive, send, send_once, Request, no_senders, port_destroyed, dead_name, in_message, in_request, Token, token, Moves, weigh, count, is_of, is_held}
use Rattle.mach_model.specs.State.{State, Target, at, same_request, request_at}
use Rattle.mach_model.specs.Death.{same_place}
use Rattle.mach_model.specs.Carried.{lying_among}
use Rattle.mach_model.proofs.Names.{at_own, at_other, get_other, length-weigh, both_test}
use Rattle.mach_model.proofs.SettledReceives.{and_false}
use Rattle.name_space.specs.declared.Entry.{Entry}
use Rattle.name_space.specs.declared.Entry.TheVariants as named
use Rattle.name_space.specs.declared.Entry.TheVariants.{DeadName}
use Rattle.name_space.specs.Entry.{port_of, port_named}
use Rattle.name_space.specs.Names.{SpaceView}
use Rattle.rights.specs.Ledger.{counts_of}
use Rattle.mach_model.specs.Unused.{onces_queued}
use Rattle.request_table.specs.Tables.{RequestTablesView}
use Rattle.copyin_base.specs.Requests.{notify_of, rights_kept, rights_went, AreMade, AreEnded}
use Rattle.copyin_base.specs.Shows.{target_of, HasCount}
use Rattle.copyin_base.specs.Worlds.{WorldView, space_at, with_space, entry_in, put}
use Rattle.copyin_base.proofs.Agreeing.{NamesAgree, CountRights, put_names, put_rights, spaces_agree, references_agree, sets_stay}
use Rattle.copyin_base.proofs.Counting.{counts_same}
use Rattle.notifications.proofs.NoticePosted.{filter_weigh}
use Rattle.notifications.specs.SoFar.{AgreesOf}

-- ---- what a name that stands for a port means

pub named_once : (x : Entry) (p : ℕ) → port_of x ≡ Some p → (target_of x ≡ Target.port p) ⊎ (target_of x ≡ Target.once p)
named_once (named.Receive q) p is = inl (cc)
named_once (named.Send q n) p is = inl (cc)
named_once (named.ReceiveAndSend q n) p is = inl (cc)
named_once (named.SendOnce q) p is = inr (cc)
named_once (named.DeadName n) p is = absurd (cc)
named_once (named.Set n) p is = absurd (cc)

-- ---- a request ends

-- The right that the request kept goes, where its port lives, to come with a message; that of another port stays.
pub record GoesOn (lives : ℕ → Bool) (notify : ℕ) (r : Request) (old new : List Token) : Type 0 where
  pub k : ℕ
  pub goes : lives notify ≡ true → Moves old new (token send_once notify (in_request r) ∷ []) (token send_once notify (in_message notify k) ∷ [])
  pub stays : lives notify ≡ false → new ≡ old

abbrev pub unrequested : WorldView → RequestTablesView → WorldView
unrequested w rq = record w { requests = rq }

abbrev pub without_request : State → Request → List Token → State
without_request s r tokens = record s { stands = request_at s.stands r false; ledger = tokens }

pub request_refl : (r : Request) → same_request r r ≡ true
request_refl (no_senders p) = eq-eqb p p refl
request_refl (port_destroyed p) = eq-eqb p p refl
request_refl (dead_name t n) = rw (eq-eqb t t refl, eq-eqb n n refl) refl

module _ (lives : ℕ → Bool) (w : WorldView) (s : State) (a : AgreesOf lives w s) (rq : RequestTablesView) (r : Request) (n : ℕ) (tokens : List Token)
    (gone : notify_of rq r ≡ None) (was : notify_of w.requests r ≡ Some n) (others : (q : Request) → same_request q r ≡ false → notify_of rq q ≡ notify_of w.requests q)
    (went : w.requests.names.went ≡ []) (went_same : rq.names.went ≡ []) (g : GoesOn lives n r s.ledger tokens)
    (is_this : (q : Request) → same_request q r ≡ true → q ≡ r) where
  -- what is so of both
  by_lives : (P : Type 0) → (lives n ≡ true → P) → (lives n ≡ false → P) → P
  by_lives P alive dead = grind arith

  same_weight : (h : Token → ℕ) → h (token send_once n (in_request r)) ≡ h (token send_once n (in_message n g.k)) → weigh h tokens ≡ weigh h s.ledger
  same_weight h same = by_lives (weigh h tokens ≡ weigh h s.ledger) (λ alive. let m = g.goes alive h in omega (arith, m, same)) (λ dead. ap (weigh h) (g.stays dead))

  counts : (kind : Kind) (q : ℕ) → count (is_of kind q) tokens ≡ count (is_of kind q) s.ledger
  counts kind q = same_weight (λ x. if is_of kind q x then 1 else 0) refl

  held : (task : ℕ) (kind : Kind) (q : ℕ) → count (is_held task kind q) tokens ≡ count (is_held task kind q) s.ledger
  held task kind q = same_weight (λ x. if is_held task kind q x then 1 else 0) refl

  total : length s.ledger ≡ length tokens
  total = let m = same_weight (λ x. 1) refl in let b = length-weigh s.ledger in let c = length-weigh tokens in omega (arith, m, b, c)

  -- ---- the requests

  abbrev kept_test : Kind → ℕ → Request → Token → ℕ
  kept_test kind p q x = if is_of kind p x && same_place (in_request q) x.place then 1 else 0

  lying_is : (kind : Kind) (p : ℕ) (q : Request) (xs : List Token) → lying_among (filter (λ x. lives x.port) xs) kind p (in_request q) ≡ weigh (λ x. if lives x.port then kept_test kind p q x else 0) xs
  lying_is kind p q xs = filter_weigh (kept_test kind p q) (λ x. lives x.port) xs

  none_went : (q : Request) (kind : Kind) (p : ℕ) → rights_went lives rq.names.went q kind p ≡ 0
  none_went q kind p = ap (λ xs. rights_went lives xs q kind p) went_same

  was_kept : (q : Request) (kind : Kind) (p : ℕ) → weigh (λ x. if lives x.port then kept_test kind p q x else 0) s.ledger ≡ rights_kept lives (notify_of w.requests q) kind p
  was_kept q kind p = grind (arith, lying_is)

  -- the request's own right is gone
  own_kept : (kind : Kind) (p : ℕ) → weigh (λ x. if lives x.port then kept_test kind p r x else 0) tokens ≡ 0
  own_kept kind p = grind (arith, by_lives, was_kept, and_false, request_refl, both_test)

  -- another request keeps what it kept
  other_kept : (q : Request) (kind : Kind) (p : ℕ) → same_request q r ≡ false → weigh (λ x. if lives x.port then kept_test kind p q x else 0) tokens ≡ weigh (λ x. if lives x.port then kept_test kind p q x else 0) s.ledger
  other_kept q kind p other = grind (arith, same_weight)

  standing : (q : Request) → (if same_request q r then false else s.stands q) ≡ is_some (notify_of rq q)
  standing q = grind arith

  kept : (q : Request) (kind : Kind) (p : ℕ) → lying_among (filter (λ x. lives x.port) tokens) kind p (in_request q) ≡ rights_kept lives (notify_of rq q) kind p + rights_went lives rq.names.went q kind p
  kept q kind p = grind (arith, lying_is, own_kept, none_went, other_kept, was_kept)

  given : (q : Request) (p : ℕ) → notify_of rq q ≡ Some p → p < w.ports.made
  given q p is = grind arith

  pub request_ended : AgreesOf lives (unrequested w rq) (without_request s r tokens)
  request_ended = record {
    spaces = a.spaces;
    rights = record { references = λ task name x q is named. let b = a.rights.references task name x q is named in (held task receive q ∙ b.0, held task send q ∙ b.1) };
    live_port = a.live_port;
    ports_made = a.ports_made;
    ports = λ p v there. let b = a.ports p v there in record { waiting = b.waiting; limit = b.limit; make_send = b.make_send; sequence = b.sequence; sets = b.sets };
    counts = counts_same w.ledger s.live_port s.ledger (λ q. if lives q then onces_queued s q else (counts_of w.ledger q).destination) a.counts tokens counts;
    total = a.total ∙ total;
    in_sets = a.in_sets;
    of_requests = record { standing = standing; kept = kept; given = given; given_went = subst (λ xs. AreMade w.ports.made xs) (sym went_same) tt; ended_went = subst (λ xs. AreEnded (request_at s.stands r false) xs) (sym went_same) tt };
  }

-- ---- a name dies

module _ (lives : ℕ → Bool) (w : WorldView) (s : State) (a : AgreesOf lives w s) (task name : ℕ) (space : SpaceView) (there : space_at w task ≡ Some space)
    (x : Entry) (found : map.get space.names name ≡ Some x) (port : ℕ) (for_port : port_of x ≡ Some port) (references : ℕ) where
  abbrev dead_space : SpaceView
  dead_space = record space { names = put space.names name (Some (DeadName references)) }

  abbrev pub with_dead : WorldView
  with_dead = with_space w task dead_space

  abbrev pub state_dead : State
  state_dead = record s { naming = at s.naming task (map.insert (s.naming task) name (Target.dead references)) }

  entry_found : (n : ℕ) → entry_in (space_at w task) n ≡ map.get space.names n
  entry_found n = ap (λ (o : Option SpaceView). entry_in o n) there

  own_names : NamesAgree space.names (s.naming task)
  own_names = record {
    naming = λ n. a.spaces.naming task n ∙ ap (option_map target_of) (entry_found n);
    kept = a.spaces.names_kept task space there;
    counted = λ n y is. a.spaces.counted task n y (entry_found n ∙ is);
  }

  own_rights : CountRights space.names task s.ledger
  own_rights n y p is named = a.rights.references task n y p (entry_found n ∙ is) named

  the_target : (y z : Target) → Some y ≡ Some z → y ≡ z
  the_target y z e = cc

  set_names : (n set : ℕ) → map.get (s.naming task) n ≡ Some (Target.set set) → map.get (state_dead.naming task) n ≡ Some (Target.set set)
  set_names n set is = grind (arith, the_target, own_names, at_own, get_other, named_once)

  pub name_died_agrees : AgreesOf lives with_dead state_dead
  name_died_agrees = record {
    spaces = spaces_agree w.spaces task space dead_space there s.live_task s.tasks_made s.naming state_dead.naming s.given s.given a.spaces
        (subst (NamesAgree dead_space.names) (sym (at_own s.naming task (map.insert (s.naming task) name (Target.dead references)))) (put_names space.names (s.naming task) own_names name (Some (DeadName references)) (λ y is. dead_count y is)))
        (a.spaces.counts_given task space there) (λ u other. at_other s.naming task (map.insert (s.naming task) name (Target.dead references)) u other) (λ u other. refl);
    rights = references_agree w.spaces task space dead_space there s.ledger s.ledger a.rights
        (put_rights space.names task s.ledger own_rights name (Some (DeadName references)) (λ y p is named. absurd (unnamed y p is named))) (λ u other kind q. refl);
    live_port = a.live_port;
    ports_made = a.ports_made;
    ports = λ p v is. let b = a.ports p v is in record { waiting = b.waiting; limit = b.limit; make_send = b.make_send; sequence = b.sequence; sets = b.sets };
    counts = a.counts;
    total = a.total;
    in_sets = sets_stay w.sets s.set_owner s.sets_made s.naming state_dead.naming a.in_sets task (λ u other. at_other s.naming task (map.insert (s.naming task) name (Target.dead references)) u other) set_names;
    of_requests = a.of_requests;
  }
    where
      is_dead : (y : Entry) → Some (DeadName references) ≡ Some y → DeadName references ≡ y
      is_dead y e = cc

      dead_count : (y : Entry) → Some (DeadName references) ≡ Some y → HasCount y
      dead_count y e = subst HasCount (is_dead y e) tt

      unnamed : (y : Entry) (p : ℕ) → Some (DeadName references) ≡ Some y → port_named y ≡ Some p → ⊥
      unnamed y p e named = let f : None ≡ Some p = ap port_named (is_dead y e) ∙ named in cc
