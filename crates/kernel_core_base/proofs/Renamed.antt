-- What is under a name moves to another.
use Rattle.std.proofs.Common.{◌≡◌, ℕ, ◌+◌, List, [], ◌∷◌, refl, sym, ap, subst, ◌∙◌, arith, true, false, Bool, length, map as list_map, ◌-◌, ◌<◌, ◌^◌, Option, Some, None, inl, inr}
use Rattle.std.specs.Prelude.{if◌then◌else◌, ◌&&◌, is_some, slice_set}
use Rattle.std.proofs.lemmas.Bool.{eq-eqb, ne_eqb, lt-ltb, ltb-true}
use Rattle.std.specs.Option.{option_map}
use Rattle.std.specs.FinMap as map
use Rattle.std.proofs.lemmas.Bool.Decides.{eqb_tells}
use Rattle.mach_types.specs.Tokens.{Kind, Request, no_senders, port_destroyed, dead_name, Place, in_task, in_message, in_request, Token, weigh, count, is_of, is_held, is_in_task}
use Rattle.mach_types.specs.declared.calls.Event.{Event}
use Rattle.mach_types.specs.declared.calls.Reply.{Reply}
use Rattle.mach_model.specs.State.{same_request, State, Target, lookup, at}
use Rattle.mach_model.specs.Carried.{lying_among}
use Rattle.mach_model.specs.Death.{same_place}
use Rattle.mach_model.specs.Names.{renamed_place, renamed_token, renamed_requests, Renames}
use Rattle.mach_model.proofs.Lost.{same_request_is}
use Rattle.mach_model.proofs.Names.{length-weigh, get_own, removed_own}
use Rattle.mach_model.specs.Refusals.{call_guards}
use Rattle.mach_model.specs.Lawful.{IsLawful}
use Rattle.name_space.specs.declared.Entry.{Entry}
use Rattle.name_space.specs.Entry.{port_of}
use Rattle.name_space.specs.Names.{SpaceView}
use Rattle.name_space.specs.declared.Entry.TheVariants as entry
use Rattle.port.specs.Ports.{PortsView, IsLive}
use Rattle.port_set.specs.Sets.{SetsView, IsThere}
use Rattle.port_set.specs.declared.SetRecord.{SetRecord}
use Rattle.request_table.specs.declared.Request.{Request as NameRequest}
use Rattle.request_table.specs.Requests.{name_key, key_of}
use Rattle.copyin_base.specs.Kept.{Kept}
use Rattle.request_table.specs.Tables.{RequestTablesView, renamed_by, request_moved}
use Rattle.copyin_base.specs.Requests.{notify_of, rights_kept, rights_went, AreMade, AreEnded, RequestsAgree}
use Rattle.copyin_base.specs.Shows.{IsOnName, RequestsStand, Agrees, HoldersAgree, Shows, SetsAgree, target_of}
use Rattle.copyin_base.specs.Worlds.{WorldView, space_in, space_at, entry_in, entry_at, HasTask}
use Rattle.copyin_base.proofs.Gets.{same_found}
use Rattle.copyin_base.proofs.Putting.{get_removed, put_other}
use Rattle.copyin_base.proofs.Requesting.{same_key}
use Rattle.copyin_base.proofs.Spaces.{each-space-set, space-set_same}
use Rattle.copyin_base.specs.Serving.{Completes, IsAllowed}
use Rattle.copyin_base.specs.Changes.{KeepsPlace, MayRename, MovesEntry, SameButRoom}
use Rattle.copyin_base.specs.Wanted.{kept_in, kept_of}
use Rattle.copyin_base.specs.Stands.{Stands}
use Rattle.copyin_base.proofs.Acting.{done}
use Rattle.copyin_base.proofs.Holders.{same_holders, moved_receives, holders_left}
use Rattle.copyin_base.proofs.Slots.{slots_stay}
use Rattle.copyin_base.proofs.Roomier.{place_kept, room_shows}
use Rattle.copyin_base.proofs.NamesChanged.{kept_sets, sets_go, moved_agrees, target_found}
use Rattle.copyin_base.proofs.Carriers.{carriers_same}
use Rattle.copyin_base.proofs.Idle.{none_lost_same}
use Rattle.copyin_base.proofs.SendersNoted.{senders_same, senders_kept, keeps_senders_same}
use Rattle.copyin_base.proofs.Told.{found}
use Rattle.kernel_core_base.specs.Names.{renamed_in, sets_named}
use Rattle.kernel_core_base.proofs.MadeKept.{room_senders}

-- ---- What requests keep goes along with the request on a name that moves: how many rights lie where then.

weigh_alike : (f g : Token → ℕ) (xs : List Token) → ((x : Token) → f x ≡ g x) → weigh f xs ≡ weigh g xs
weigh_alike f g [] same = refl
weigh_alike f g (x ∷ xs) same = let a = same x in let b = weigh_alike f g xs same in omega (arith, a, b)

pub same_itself : (r : Request) → same_request r r ≡ true
same_itself (no_senders p) = eq-eqb p p refl
same_itself (port_destroyed p) = eq-eqb p p refl
same_itself (dead_name t n) = rw (eq-eqb t t refl, eq-eqb n n refl) refl

-- the test of two requests is the same either way
turned : (a b : Request) → same_request a b ≡ false → same_request b a ≡ false
turned a b not = grind (arith, same_itself, same_request_is)

module _ (task o n : ℕ) where
  abbrev from : Request
  from = dead_name task o

  abbrev to : Request
  to = dead_name task n

  abbrev pub moved_tokens : List Token → List Token
  moved_tokens xs = list_map (renamed_token task o n) xs

  pub moved_weigh : (h : Token → ℕ) (xs : List Token) → weigh h (moved_tokens xs) ≡ weigh (λ x. h (renamed_token task o n x)) xs
  moved_weigh h [] = refl
  moved_weigh h (x ∷ xs) = let rest = moved_weigh h xs in omega (arith, rest)

  -- a test that sees no request
  blind : (test : Token → Bool) → ((x : Token) → test (renamed_token task o n x) ≡ test x) → (xs : List Token) → count test (moved_tokens xs) ≡ count test xs
  blind test same xs = grind (arith, moved_weigh, weigh_alike)

  pub moved_length : (xs : List Token) → length xs ≡ length (moved_tokens xs)
  moved_length xs = length-weigh xs ∙ sym (moved_weigh (λ x. 1) xs) ∙ sym (length-weigh (moved_tokens xs))

  pub moved_of : (kind : Kind) (q : ℕ) (xs : List Token) → count (is_of kind q) (moved_tokens xs) ≡ count (is_of kind q) xs
  moved_of kind q xs = blind (is_of kind q) (λ x. refl) xs

  in_place : (t : ℕ) (place : Place) → is_in_task t (renamed_place task o n place) ≡ is_in_task t place
  in_place t (in_task u) = refl
  in_place t (in_message p k) = refl
  in_place t (in_request r) = grind arith

  pub moved_held : (u : ℕ) (kind : Kind) (q : ℕ) (xs : List Token) → count (is_held u kind q) (moved_tokens xs) ≡ count (is_held u kind q) xs
  moved_held u kind q xs = blind (is_held u kind q) (λ x. ap (λ (b : Bool). is_of kind q x && b) (in_place u x.place)) xs

  -- ---- at requests, where the names differ

  module _ (differs : o ≡ n → ⊥) where
    apart : same_request from to ≡ false
    apart = grind (arith, ne_eqb)

    at_from : (y : Request) → same_place (in_request from) (renamed_place task o n (in_request y)) ≡ false
    at_from y = grind (arith, apart, turned)

    at_to : (y : Request) → (if same_place (in_request to) (renamed_place task o n (in_request y)) then 1 else 0) ≡ (if same_request from y then 1 else 0) + (if same_request to y then 1 else 0)
    at_to y = grind (arith, same_request_is, same_itself, turned, apart)

    at_other : (r : Request) → same_request r from ≡ false → same_request r to ≡ false → (y : Request) → same_place (in_request r) (renamed_place task o n (in_request y)) ≡ same_request r y
    at_other r a b y = grind (arith, same_request_is)

    token_from : (b : Bool) (place : Place) → (b && same_place (in_request from) (renamed_place task o n place)) ≡ false
    token_from false place = refl
    token_from true (in_task t) = refl
    token_from true (in_message p k) = refl
    token_from true (in_request y) = at_from y

    token_to : (b : Bool) (place : Place) → (if b && same_place (in_request to) (renamed_place task o n place) then 1 else 0) ≡
        (if b && same_place (in_request from) place then 1 else 0) + (if b && same_place (in_request to) place then 1 else 0)
    token_to false place = refl
    token_to true (in_task t) = refl
    token_to true (in_message p k) = refl
    token_to true (in_request y) = at_to y

    token_other : (r : Request) → same_request r from ≡ false → same_request r to ≡ false → (b : Bool) (place : Place) →
        (b && same_place (in_request r) (renamed_place task o n place)) ≡ (b && same_place (in_request r) place)
    token_other r f g false place = refl
    token_other r f g true (in_task t) = refl
    token_other r f g true (in_message p k) = refl
    token_other r f g true (in_request y) = at_other r f g y

    -- none is kept by the request on the old name
    pub none_from : (kind : Kind) (q : ℕ) (xs : List Token) → lying_among (moved_tokens xs) kind q (in_request from) ≡ 0
    none_from kind q [] = refl
    none_from kind q (x ∷ xs) = grind (arith, none_from kind q xs, token_from)

    -- the request on the new name keeps what that on the old one kept
    pub all_to : (kind : Kind) (q : ℕ) (xs : List Token) → lying_among (moved_tokens xs) kind q (in_request to) ≡ lying_among xs kind q (in_request from) + lying_among xs kind q (in_request to)
    all_to kind q [] = refl
    all_to kind q (x ∷ xs) = let rest = all_to kind q xs in let one = token_to (is_of kind q x) x.place in omega (arith, rest, one)

    -- each other keeps what it kept
    pub others_stay : (r : Request) → same_request r from ≡ false → same_request r to ≡ false → (kind : Kind) (q : ℕ) (xs : List Token) →
        lying_among (moved_tokens xs) kind q (in_request r) ≡ lying_among xs kind q (in_request r)
    others_stay r f g kind q [] = refl
    others_stay r f g kind q (x ∷ xs) = grind (arith, others_stay r f g kind q xs, token_other)

-- ---- The request on a name goes along with it, in the tables and in the machine alike.

no_request : {A : Type 0} (x : A) → None ≡ Some x → ⊥
no_request x e = cc

-- No request is on a name that isn't in use.
pub none_on : (w : WorldView) → RequestsStand w → (task name : ℕ) → name < 2 ^ 32 → entry_at w task name ≡ None → map.get w.requests.names.requests (name_key task name) ≡ None
none_on w requested task name small unused = go (map.get w.requests.names.requests (name_key task name)) refl
  where
    go : (o : Option NameRequest) → map.get w.requests.names.requests (name_key task name) ≡ o → o ≡ None
    go None is = refl
    go (Some r) is =
        let on = requested.on_names (name_key task name) r is in
        let same = same_key r.task r.name task name on.small small on.own in
        absurd (no_request on.entry (sym unused ∙ (λ i. entry_at w (sym same.0 i) (sym same.1 i)) ∙ on.found))

-- The request on a name is that name's.
pub own_on : (w : WorldView) → RequestsStand w → (task name : ℕ) → name < 2 ^ 32 → (r : NameRequest) → map.get w.requests.names.requests (name_key task name) ≡ Some r → (r.task ≡ task) × (r.name ≡ name)
own_on w requested task name small r is = grind (arith, requested.on_names (name_key task name) r is)

-- a name that is in use isn't one that isn't
pub names_differ : (w : WorldView) (task from_moved to_moved : ℕ) (e : Entry) → entry_at w task from_moved ≡ Some e → entry_at w task to_moved ≡ None → from_moved ≡ to_moved → ⊥
names_differ w task from_moved to_moved e found unused same = no_request e (sym unused ∙ ap (entry_at w task) (sym same) ∙ found)

-- the notify port of the request on a name, which is less than 2^32
pub notify_small : (v : RequestTablesView) (t m : ℕ) → m < 2 ^ 32 → notify_of v (dead_name t m) ≡ option_map (λ (r : NameRequest). r.notify) (map.get v.names.requests (name_key t m))
notify_small v t m small = grind (arith, lt-ltb)

module _ (v : RequestTablesView) (task o n : ℕ) (small_from : o < 2 ^ 32) (small_to : n < 2 ^ 32) (differs : o ≡ n → ⊥)
    (own : (r : NameRequest) → map.get v.names.requests (name_key task o) ≡ Some r → (r.task ≡ task) × (r.name ≡ o))
    (none : map.get v.names.requests (name_key task n) ≡ None) where
  abbrev key_from : ℕ
  key_from = name_key task o

  abbrev key_to : ℕ
  key_to = name_key task n

  keys_differ : key_from ≡ key_to → ⊥
  keys_differ e = differs (same_key task o task n small_from small_to e).1

  abbrev with_name : NameRequest → NameRequest
  with_name r = record r { name = n }

  -- ---- what is kept under each number

  from_in : (x : Option NameRequest) → map.get v.names.requests key_from ≡ x → map.get (renamed_by v.names n x).requests key_from ≡ None
  from_in None is = is
  from_in (Some g) is =
      let at = own g is in
      let key : key_of g ≡ key_from = λ i. name_key (at.0 i) (at.1 i) in
      let new : key_of (with_name g) ≡ key_to = λ i. name_key (at.0 i) n in
      put_other (map.remove v.names.requests (key_of g)) (key_of (with_name g)) (Some (with_name g)) key_from (λ e. keys_differ (e ∙ new))
      ∙ subst (λ (k : ℕ). map.get (map.remove v.names.requests (key_of g)) k ≡ None) key (removed_own v.names.requests (key_of g))

  to_in : (x : Option NameRequest) → map.get v.names.requests key_from ≡ x → map.get (renamed_by v.names n x).requests key_to ≡ option_map with_name x
  to_in None is = none
  to_in (Some g) is = grind (arith, get_own)

  other_in : (x : Option NameRequest) → map.get v.names.requests key_from ≡ x → (k : ℕ) → (k ≡ key_from → ⊥) → (k ≡ key_to → ⊥) → map.get (renamed_by v.names n x).requests k ≡ map.get v.names.requests k
  other_in None is k a b = refl
  other_in (Some g) is k a b =
      let at = own g is in
      let key : key_of g ≡ key_from = λ i. name_key (at.0 i) (at.1 i) in
      let new : key_of (with_name g) ≡ key_to = λ i. name_key (at.0 i) n in
      put_other (map.remove v.names.requests (key_of g)) (key_of (with_name g)) (Some (with_name g)) k (λ e. b (e ∙ new))
      ∙ get_removed v.names.requests (key_of g) k (λ e. a (e ∙ key))

  went_in : (x : Option NameRequest) → (renamed_by v.names n x).went ≡ v.names.went
  went_in None = refl
  went_in (Some g) = refl

  abbrev v2 : RequestTablesView
  v2 = request_moved v task o n

  pub gone_from : map.get v2.names.requests key_from ≡ None
  gone_from = from_in (map.get v.names.requests key_from) refl

  pub come_to : map.get v2.names.requests key_to ≡ option_map with_name (map.get v.names.requests key_from)
  come_to = to_in (map.get v.names.requests key_from) refl

  pub others_kept : (k : ℕ) → (k ≡ key_from → ⊥) → (k ≡ key_to → ⊥) → map.get v2.names.requests k ≡ map.get v.names.requests k
  others_kept = other_in (map.get v.names.requests key_from) refl

  -- ---- the notify ports

  abbrev from_moved : Request
  from_moved = dead_name task o

  abbrev to_moved : Request
  to_moved = dead_name task n

  same_notify : (x : Option NameRequest) → option_map (λ (r : NameRequest). r.notify) (option_map with_name x) ≡ option_map (λ (r : NameRequest). r.notify) x
  same_notify None = refl
  same_notify (Some g) = refl

  notify_from : notify_of v2 from_moved ≡ None
  notify_from = notify_small v2 task o small_from ∙ ap (option_map (λ (r : NameRequest). r.notify)) gone_from

  notify_to : notify_of v2 to_moved ≡ notify_of v from_moved
  notify_to = grind (arith, notify_small, come_to, same_notify)

  none_to : notify_of v to_moved ≡ None
  none_to = notify_small v task n small_to ∙ ap (option_map (λ (r : NameRequest). r.notify)) none

  notify_other : (r : Request) → same_request r from_moved ≡ false → same_request r to_moved ≡ false → notify_of v2 r ≡ notify_of v r
  notify_other (no_senders p) a b = refl
  notify_other (port_destroyed p) a b = refl
  notify_other (dead_name t m) a b = grind (arith, same_key, eq-eqb, others_kept, ltb-true)

  -- ---- the tables and the machine

  module _ (made : ℕ) (stands : Request → Bool) (live : ℕ → Bool) (tokens : List Token) (a : RequestsAgree (notify_of v) v.names.went made stands live tokens) (waits : v.names.went ≡ []) where
    abbrev stands2 : Request → Bool
    stands2 = renamed_requests task o n stands

    abbrev tokens2 : List Token
    tokens2 = moved_tokens task o n tokens

    none_went : (r : Request) (kind : Kind) (q : ℕ) → rights_went live v.names.went r kind q ≡ 0
    none_went r kind q = ap (λ (xs : List NameRequest). rights_went live xs r kind q) waits

    none_went2 : (r : Request) (kind : Kind) (q : ℕ) → rights_went live v2.names.went r kind q ≡ 0
    none_went2 r kind q = ap (λ (xs : List NameRequest). rights_went live xs r kind q) (went_in (map.get v.names.requests key_from) ∙ waits)

    standing : (r : Request) (b c : Bool) → same_request r from_moved ≡ b → same_request r to_moved ≡ c → (if b then false else (if c then stands from_moved else stands r)) ≡ is_some (notify_of v2 r)
    standing r true c e f = subst (λ (x : Request). false ≡ is_some (notify_of v2 x)) (same_request_is r from_moved e) (sym (ap is_some notify_from))
    standing r false true e f = subst (λ (x : Request). stands from_moved ≡ is_some (notify_of v2 x)) (same_request_is r to_moved f) (a.standing from_moved ∙ sym (ap is_some notify_to))
    standing r false false e f = a.standing r ∙ sym (ap is_some (notify_other r e f))

    abbrev KeptAt : Request → Kind → ℕ → Type 0
    KeptAt r kind q = lying_among tokens2 kind q (in_request r) ≡ rights_kept live (notify_of v2 r) kind q + rights_went live v2.names.went r kind q

    kept : (r : Request) (kind : Kind) (q : ℕ) (b c : Bool) → same_request r from_moved ≡ b → same_request r to_moved ≡ c → KeptAt r kind q
    kept r kind q true c e f = grind (arith, same_request_is, none_from, notify_from, none_went2)
    kept r kind q false true e f = grind (arith, same_request_is, all_to, none_went, none_to, notify_to, none_went2)
    kept r kind q false false e f = grind (arith, others_stay, none_went, notify_other, none_went2)

    given : (r : Request) (q : ℕ) (b c : Bool) → same_request r from_moved ≡ b → same_request r to_moved ≡ c → notify_of v2 r ≡ Some q → q < made
    given r q true c e f is = absurd (no_request q (sym (subst (λ (x : Request). notify_of v2 x ≡ None) (same_request_is r from_moved e) notify_from) ∙ is))
    given r q false true e f is = a.given from_moved q (sym notify_to ∙ subst (λ (x : Request). notify_of v2 x ≡ Some q) (sym (same_request_is r to_moved f)) is)
    given r q false false e f is = a.given r q (sym (notify_other r e f) ∙ is)

    pub requests_moved : RequestsAgree (notify_of v2) v2.names.went made stands2 live tokens2
    requests_moved = record {
      standing = λ r. standing r (same_request r from_moved) (same_request r to_moved) refl refl;
      kept = λ r kind q. kept r kind q (same_request r from_moved) (same_request r to_moved) refl refl;
      given = λ r q. given r q (same_request r from_moved) (same_request r to_moved) refl refl;
      given_went = subst (λ (xs : List NameRequest). AreMade made xs) (sym (went_in (map.get v.names.requests key_from))) a.given_went;
      ended_went = subst (λ (xs : List NameRequest). AreEnded stands2 xs) (sym (went_in (map.get v.names.requests key_from) ∙ waits)) tt;
    }

-- ---- requests stand on their names

module _ (w w1 x : WorldView) (requested : RequestsStand w) (task from_moved to_moved : ℕ) (small_from : from_moved < 2 ^ 32) (small_to : to_moved < 2 ^ 32) (e : Entry) (found : entry_at w task from_moved ≡ Some e) (unused : entry_at w task to_moved ≡ None)
    (moves : MovesEntry w task from_moved to_moved e w1) (spaces : x.spaces ≡ w1.spaces) (ports : x.ports ≡ w1.ports) (requests : x.requests ≡ request_moved w1.requests task from_moved to_moved) where
  differs : from_moved ≡ to_moved → ⊥
  differs = names_differ w task from_moved to_moved e found unused

  now_spaces : x.spaces ≡ slice_set w.spaces task (Some (record moves.space { names = map.insert (map.remove moves.space.names from_moved) to_moved e; room = moves.space.room - 1 }))
  now_spaces = spaces ∙ ap (λ (y : WorldView). y.spaces) moves.rest

  now_requests : x.requests ≡ request_moved w.requests task from_moved to_moved
  now_requests = requests ∙ ap (λ (y : WorldView). request_moved y.requests task from_moved to_moved) moves.rest

  now_to : entry_at x task to_moved ≡ Some e
  now_to = ap (λ (xs : List (Option SpaceView)). entry_in (space_in xs task) to_moved) now_spaces
      ∙ each-space-set w.spaces task (record moves.space { names = map.insert (map.remove moves.space.names from_moved) to_moved e; room = moves.space.room - 1 }) moves.space moves.there
      (λ k o. k ≡ task → entry_in o to_moved ≡ Some e) (λ same. get_own (map.remove moves.space.names from_moved) to_moved e) (λ k not same. absurd (not same)) task refl

  now_other : (u n : ℕ) → (u ≡ task → n ≡ from_moved → ⊥) → (u ≡ task → n ≡ to_moved → ⊥) → entry_at x u n ≡ entry_at w u n
  now_other u n a b = ap (λ (xs : List (Option SpaceView)). entry_in (space_in xs u) n) now_spaces
      ∙ each-space-set w.spaces task (record moves.space { names = map.insert (map.remove moves.space.names from_moved) to_moved e; room = moves.space.room - 1 }) moves.space moves.there
      (λ k o. (k ≡ task → n ≡ from_moved → ⊥) → (k ≡ task → n ≡ to_moved → ⊥) → entry_in o n ≡ entry_in (space_at w k) n)
      (λ f g. put_other (map.remove moves.space.names from_moved) to_moved (Some e) n (g refl) ∙ get_removed moves.space.names from_moved n (f refl) ∙ ap (λ (o : Option SpaceView). entry_in o n) (sym moves.there))
      (λ k not f g. refl) u a b

  none : map.get w.requests.names.requests (name_key task to_moved) ≡ None
  none = none_on w requested task to_moved small_to unused

  own : (r : NameRequest) → map.get w.requests.names.requests (name_key task from_moved) ≡ Some r → (r.task ≡ task) × (r.name ≡ from_moved)
  own = own_on w requested task from_moved small_from

  live : (p : ℕ) → IsLive w.ports p → IsLive x.ports p
  live p lives = subst (λ (y : PortsView Kept). IsLive y p) (sym (ports ∙ ap (λ (y : WorldView). y.ports) moves.rest)) lives

  -- a request that stays
  stays : (key : ℕ) (r : NameRequest) → map.get w.requests.names.requests key ≡ Some r → (key ≡ name_key task from_moved → ⊥) → IsOnName x key r
  stays key r is not =
      let on = requested.on_names key r is in record {
        own = on.own;
        small = on.small;
        entry = on.entry;
        found = now_other r.task r.name (λ a b. not (sym on.own ∙ (λ i. name_key (a i) (b i))))
            (λ a b. no_request on.entry (sym unused ∙ (λ i. entry_at w (sym a i) (sym b i)) ∙ on.found)) ∙ on.found;
        for_port = on.for_port;
        live = live r.port on.live;
      }

  -- the one that goes along
  goes : (g r : NameRequest) → map.get w.requests.names.requests (name_key task from_moved) ≡ Some g → record g { name = to_moved } ≡ r → (key : ℕ) → key ≡ name_key task to_moved → IsOnName x key r
  goes g r is same key at =
      let on = requested.on_names (name_key task from_moved) g is in
      let mine = own g is in
      let entry : on.entry ≡ e = same_found (entry_at w task from_moved) on.entry e ((λ i. entry_at w (sym mine.0 i) (sym mine.1 i)) ∙ on.found) found in
      subst (IsOnName x key) same record {
        own = (λ i. name_key (mine.0 i) to_moved) ∙ sym at;
        small = small_to;
        entry = e;
        found = (λ i. entry_at x (mine.0 i) to_moved) ∙ now_to;
        for_port = ap port_of (sym entry) ∙ on.for_port;
        live = live g.port on.live;
      }

  on_names : (key : ℕ) (r : NameRequest) → map.get (request_moved w.requests task from_moved to_moved).names.requests key ≡ Some r → IsOnName x key r
  on_names key r is = elim (eqb_tells key (name_key task from_moved)) [
    | inl h ↦ absurd (no_request r (sym (gone_from w.requests task from_moved to_moved small_from small_to differs own none) ∙ ap (map.get (request_moved w.requests task from_moved to_moved).names.requests) (sym h.1) ∙ is))
    | inr h ↦ elim (eqb_tells key (name_key task to_moved)) [
      | inl k ↦ came (map.get w.requests.names.requests (name_key task from_moved)) refl
          (sym (come_to w.requests task from_moved to_moved small_from small_to differs own none) ∙ ap (map.get (request_moved w.requests task from_moved to_moved).names.requests) (sym k.1) ∙ is) k.1
      | inr k ↦ stays key r (sym (others_kept w.requests task from_moved to_moved small_from small_to differs own none key h.1 k.1) ∙ is) h.1
    ]
  ]
    where
      came : (o : Option NameRequest) → map.get w.requests.names.requests (name_key task from_moved) ≡ o → option_map (λ (g : NameRequest). record g { name = to_moved }) o ≡ Some r → key ≡ name_key task to_moved → IsOnName x key r
      came None was now at = absurd (no_request r now)
      came (Some g) was now at = goes g r was (same_found (Some (record g { name = to_moved })) (record g { name = to_moved }) r refl now) key at

  pub requested_moved : RequestsStand x
  requested_moved = record {
    on_names = λ key r is. on_names key r (ap (λ (y : RequestTablesView). map.get y.names.requests key) (sym now_requests) ∙ is);
    no_senders = λ p is. live p (requested.no_senders p (subst (λ (y : RequestTablesView). map.contains_key y.no_senders.map p ≡ true) now_requests is));
    port_destroyed = λ p is. live p (requested.port_destroyed p (subst (λ (y : RequestTablesView). map.contains_key y.port_destroyed.map p ≡ true) now_requests is));
  }

-- ---- What is under a name moves to another, in the tables and in the machine alike; what is kept of a set goes along.

-- ---- once a place is kept for the name

module _ (w w1 : WorldView) (task to : ℕ) (m : KeepsPlace w task to w1) where
  pub may_still : (from : ℕ) (e : Entry) → MayRename w task from to e → MayRename w1 task from to e
  may_still from e may = grind (arith, place_kept w w1 task to m)

  pub is_kept : kept_of w1 task ≡ Some to
  is_kept = ap (λ (x : WorldView). kept_of x task) m.rest ∙ ap kept_in (space-set_same w.spaces task (record m.space { kept = Some to }) m.space m.there)

  pub stand_still : Stands w → Stands w1
  stand_still stands = record { state = stands.state; shown = room_shows w w1 stands.state (place_kept w w1 task to m) stands.shown }

-- what is known of a set that a task has
set_of : (o : Option SetRecord) (task : ℕ) → Some task ≡ option_map (λ (r : SetRecord). r.owner) o → (r : SetRecord) × (o ≡ Some r) × (r.owner ≡ task)
set_of (Some r) task e = (r, refl, (cc))
set_of None task e = absurd (cc)

set_kept : (w : WorldView) (s : State) → Agrees w s → IsLawful s → (task name set : ℕ) → lookup s task name ≡ Some (Target.set set) → (r : SetRecord) × (map.get w.sets.sets set ≡ Some r) × (r.owner ≡ task)
set_kept w s a l task name set named = set_of (map.get w.sets.sets set) task (sym (l.set_owned task name set named) ∙ a.set_owner set)

module _ (w w1 : WorldView) (task from to : ℕ) (small : to < 2 ^ 32) (e : Entry) (may : MayRename w task from to e) (moves : MovesEntry w task from to e w1) where
  -- no request is on the new name
  pub no_request_to : Stands w → map.get w1.requests.names.requests (name_key task to) ≡ None
  no_request_to stands = grind (arith, none_on)

  names_set : (s : State) → Agrees w s → (set : ℕ) → e ≡ entry.Set set → lookup s task from ≡ Some (Target.set set)
  names_set s a set kind = found w s a task from e may.found ∙ ap (λ (x : Entry). Some (target_of x)) kind

  -- a set that stands under the name is there, after the names changed too
  pub set_there : Stands w → (set : ℕ) → e ≡ entry.Set set → IsThere w1.sets set
  set_there stands set kind = grind (arith, set_kept, names_set)

  here_renamed : map.get moves.space.names from ≡ Some e
  here_renamed = sym (ap (λ (o : Option SpaceView). entry_in o from) moves.there) ∙ may.found

  free : map.get moves.space.names to ≡ None
  free = sym (ap (λ (o : Option SpaceView). entry_in o to) moves.there) ∙ may.unused

  -- the tables once the request on the name and what is kept of a set went along
  abbrev pub named_so : WorldView
  named_so = record w1 { sets = sets_named e to w1.sets; requests = request_moved w1.requests task from to }

  -- what was done one after the other
  pub named_from : (x : WorldView) → x ≡ record w1 { requests = request_moved w1.requests task from to } → (v : WorldView) → v ≡ record x { sets = sets_named e to x.sets } → v ≡ named_so
  named_from x moved v named = named ∙ ap (λ (y : WorldView). record y { sets = sets_named e to y.sets }) moved

  abbrev after : State → State
  after s = record s {
    naming = at s.naming task (map.insert (map.remove (s.naming task) from) to (target_of e));
    stands = renamed_requests task from to s.stands;
    ledger = moved_tokens task from to s.ledger;
  }

  module _ (s : State) (sh : Shows w s) where
    abbrev stands : Request → Bool
    stands = renamed_requests task from to s.stands

    renames : Renames task from to s (after s)
    renames = grind (arith, found, target_found, here_renamed, free, moved_weigh)

    small_from : from < 2 ^ 32
    small_from = (sh.lawful.naming task).space.name_fits from (target_of e) (found w s sh.agrees task from e may.found)

    of_requests : RequestsAgree (notify_of (request_moved w.requests task from to)) (request_moved w.requests task from to).names.went w.ports.made stands s.live_port (moved_tokens task from to s.ledger)
    of_requests = requests_moved w.requests task from to small_from small (names_differ w task from to e may.found may.unused) (own_on w sh.requested task from small_from)
        (none_on w sh.requested task to small may.unused) w.ports.made s.stands s.live_port s.ledger sh.agrees.of_requests sh.idle.went

    abbrev Go : SetsView → Type 0
    Go sets = SetsAgree sets s.set_owner s.sets_made (after s).naming

    other : ((t : ℕ) → target_of e ≡ Target.set t → ⊥) → Go w.sets
    other not = kept_sets w s sh.agrees task moves.space moves.there from to e (moves.space.room - 1) stands here_renamed free not

    own_renamed : (set : ℕ) → e ≡ entry.Set set → Go (renamed_in (map.get w.sets.sets set) w.sets set to)
    own_renamed set kind = grind (arith, set_kept, names_set, sets_go, here_renamed, free)

    in_sets : (x : Entry) → e ≡ x → Go (sets_named x to w.sets)
    in_sets (entry.Set set) kind = own_renamed set kind
    in_sets (entry.Receive p) kind = other (λ t g. let f = sym (ap target_of kind) ∙ g in cc)
    in_sets (entry.Send p n) kind = other (λ t g. let f = sym (ap target_of kind) ∙ g in cc)
    in_sets (entry.ReceiveAndSend p n) kind = other (λ t g. let f = sym (ap target_of kind) ∙ g in cc)
    in_sets (entry.SendOnce p) kind = other (λ t g. let f = sym (ap target_of kind) ∙ g in cc)
    in_sets (entry.DeadName n) kind = other (λ t g. let f = sym (ap target_of kind) ∙ g in cc)

    agrees : (v : WorldView) → v ≡ named_so → Agrees v (after s)
    agrees v named = subst (λ (x : WorldView). Agrees x (after s)) (sym (named ∙ (λ i. record (moves.rest i) { sets = sets_named e to (moves.rest i).sets; requests = request_moved (moves.rest i).requests task from to })))
        (moved_agrees w s sh.agrees task moves.space moves.there from to e (moves.space.room - 1) stands here_renamed free (request_moved w.requests task from to) (moved_tokens task from to s.ledger)
        (λ kind q. moved_of task from to kind q s.ledger) (λ u kind q. moved_held task from to u kind q s.ledger) (moved_length task from to s.ledger) of_requests (sets_named e to w.sets) (in_sets e refl))

  -- a receive right goes along with its name
  holders : (v : WorldView) → v ≡ named_so → HoldersAgree w → HoldersAgree v
  holders v named h = grind (arith, holders_left, moved_receives, here_renamed, same_holders)

  -- from the tables before a place was kept
  pub rename_done : (old : WorldView) → SameButRoom old w → HasTask old task → IsAllowed old (λ s. call_guards s (Event.Rename task from to)) → (v : WorldView) → v ≡ named_so → Completes old (Event.Rename task from to) (Reply.Code 0) v
  rename_done old same below good v named = done old (Event.Rename task from to) (Reply.Code 0) v below good
      (λ now s sh.
      let here_renamed = room_shows old w s same sh in
      let ports : v.ports ≡ w.ports = ap (λ (x : WorldView). x.ports) named ∙ ap (λ (x : WorldView). x.ports) moves.rest in
      let ledger : v.ledger ≡ w.ledger = ap (λ (x : WorldView). x.ledger) named ∙ ap (λ (x : WorldView). x.ledger) moves.rest in
      let none : v.requests.no_senders ≡ w.requests.no_senders = ap (λ (x : WorldView). x.requests.no_senders) named ∙ ap (λ (x : WorldView). x.requests.no_senders) moves.rest in record {
        mid = after s;
        owed = [];
        does = (refl, renames s here_renamed, refl);
        judged = tt;
        loses_none = tt;
        none_owed = refl;
        agrees = agrees s here_renamed v named;
        holders = holders v named here_renamed.holders;
        carriers = carriers_same w v here_renamed.carriers (ap (λ (p : PortsView Kept). p.made) ports) (ap (λ (p : PortsView Kept). p.ports) ports);
        slots = slots_stay w v here_renamed.slots ledger ports;
        requested = requested_moved w w1 v here_renamed.requested task from to (small_from s here_renamed) small e may.found may.unused moves (ap (λ (x : WorldView). x.spaces) named) (ap (λ (x : WorldView). x.ports) named)
            (ap (λ (x : WorldView). x.requests) named);
        notes = senders_kept old w v (senders_kept old old w (senders_same old sh.idle.noted) (room_senders old w same sh.requested))
            (keeps_senders_same w v here_renamed.requested none ledger (ap (λ (p : PortsView Kept). p.noted) ports));
        none_lost = none_lost_same w v here_renamed.idle.none_lost ports;
      })
