-- What the tables have of a port is so in each state that they show.
use Rattle.std.proofs.Common.{◌≡◌, ℕ, ◌+◌, Option, Some, None, List, [], ◌∷◌, ◌++◌, length, refl, sym, ap, ◌∙◌, arith}
use Rattle.std.specs.Prelude.{drop, IfNone, IfSome, is_some, slice_get}
use Rattle.std.specs.Option.{option_to_list, unwrap_or}
use Rattle.std.specs.FinMap as map
use Rattle.mach_types.specs.Messages.{Entry}
use Rattle.mach_types.specs.Tokens.{Request}
use Rattle.mach_model.specs.State.{State, queue}
use Rattle.port.specs.Ports.{PortView, sets_in}
use Rattle.port.specs.declared.Attributes.{Attributes}
use Rattle.rights.specs.Counts.{no_rights}
use Rattle.rights.specs.declared.Counts.{Counts}
use Rattle.copyin_base.specs.Kept.{Kept}
use Rattle.copyin_base.specs.Shows.{Shows, AllKept}
use Rattle.copyin_base.specs.Worlds.{WorldView, port_at}
use Rattle.mach_state.specs.Said.{SaysPort, number_of}
use Rattle.mach_state.specs.declared.states.PortState.{PortState}

kept_length : (p : ℕ) (ms : List Kept) (es : List Entry) → AllKept p ms es → length ms ≡ length es
kept_length p [] [] h = refl
kept_length p (m ∷ ms) (e ∷ es) h = let n = kept_length p ms es h.1 in omega (arith, n)
kept_length p [] (e ∷ es) h = absurd h
kept_length p (m ∷ ms) [] h = absurd h

-- What is said is what the tables have.
pub record IsRead (w : WorldView) (p : ℕ) (v : PortView Kept) (a : Attributes) (c : Counts) (said : PortState) : Type 0 where
  pub there : port_at w p ≡ Some v
  pub own : v.attributes ≡ a
  pub counted : map.get w.ledger.counts p ≡ Some c
  pub waiting : said.queued ≡ length v.queue
  pub limit : said.limit ≡ a.limit
  pub make_send : said.make_send ≡ a.make_send
  pub sequence : said.sequence ≡ a.sequence
  pub set : said.set ≡ a.set
  pub none : v.attributes.set ≡ None → v.more ≡ []
  pub more_sets : said.more_sets ≡ number_of (drop 1 (sets_in v))
  pub send_rights : said.send_rights ≡ c.send
  pub once_rights : said.once_rights ≡ c.send_once + c.destination
  pub for_no_senders : said.no_senders ≡ map.get w.requests.no_senders.map p
  pub for_its_end : said.port_destroyed ≡ map.get w.requests.port_destroyed.map p

first_set : (set : Option ℕ) (more : List ℕ) → (set ≡ None → more ≡ []) → slice_get (option_to_list set ++ more) 0 ≡ set
first_set (Some set) more none = refl
first_set None more none = ap (λ (xs : List ℕ). slice_get xs 0) (none refl)

pub read_says : (w : WorldView) (s : State) → Shows w s → (p : ℕ) (v : PortView Kept) (a : Attributes) (c : Counts) (said : PortState) → IsRead w p v a c said → SaysPort s p said
read_says w s sh p v a c said r =
    let agree = sh.agrees.ports p v r.there in
    let counts = sh.agrees.counts p in
    let own = ap (λ o. unwrap_or o no_rights) r.counted in
    record {
      live = sym (sh.agrees.live_port p) ∙ ap is_some r.there;
      waiting = sym (kept_length p v.queue (queue s p) agree.waiting) ∙ sym r.waiting;
      limit = sym agree.limit ∙ ap (λ (a : Attributes). a.limit) r.own ∙ sym r.limit;
      make_send = sym agree.make_send ∙ ap (λ (a : Attributes). a.make_send) r.own ∙ sym r.make_send;
      sequence = sym agree.sequence ∙ ap (λ (a : Attributes). a.sequence) r.own ∙ sym r.sequence;
      set = ap (λ (xs : List ℕ). slice_get xs 0) (sym agree.sets) ∙ first_set v.attributes.set v.more r.none ∙ ap (λ (a : Attributes). a.set) r.own ∙ sym r.set;
      more_sets = ap (λ (xs : List ℕ). number_of (drop 1 xs)) (sym agree.sets) ∙ sym r.more_sets;
      send_rights = sym counts.senders ∙ ap (λ (c : Counts). c.send) own ∙ sym r.send_rights;
      once_rights = sym counts.once_rights ∙ ap (λ (c : Counts). c.send_once + c.destination) own ∙ sym r.once_rights;
      for_no_senders = sh.agrees.of_requests.standing (Request.no_senders p) ∙ ap is_some (sym r.for_no_senders);
      for_its_end = sh.agrees.of_requests.standing (Request.port_destroyed p) ∙ ap is_some (sym r.for_its_end);
    }

-- Where the first of them is told, the others are left.
pub others_left : (told : Option ℕ) (old new : List ℕ) → IfSome told (λ x. old ≡ x ∷ new) → IfNone told ((old ≡ []) × (new ≡ [])) → new ≡ drop 1 old
others_left None old new some none = none.1 ∙ sym (ap (drop 1) none.0)
others_left (Some x) old new some none = sym (ap (drop 1) some)
