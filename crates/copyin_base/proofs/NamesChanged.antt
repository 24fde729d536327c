-- Only names of one task have changed, and no right was made or lost: the tables still agree.
use Rattle.std.proofs.Common.{◌≡◌, ℕ, ◌<◌, ◌^◌, true, List, length, Option, Some, None, refl, sym, ap, subst, ◌∙◌, Bool, inl, inr}
use Rattle.std.specs.Option.{option_map}
use Rattle.std.specs.FinMap as map
use Rattle.std.proofs.lemmas.Bool.Decides.{eqb_tells}
use Rattle.mach_types.specs.Tokens.{Kind, receive, send, Request, Token, count, is_of, is_held}
use Rattle.mach_model.specs.Lawful.{IsLawful}
use Rattle.mach_model.specs.Unused.{onces_queued}
use Rattle.request_table.specs.Requests.{name_key}
use Rattle.mach_model.specs.State.{State, Target, Names, lookup, at}
use Rattle.mach_model.proofs.Names.{at_own, at_other, get_own}
use Rattle.name_space.specs.declared.Entry.{Entry}
use Rattle.name_space.specs.Entry.{port_named}
use Rattle.name_space.specs.Names.{SpaceView}
use Rattle.name_space.specs.Names.{Names as TableNames}
use Rattle.port_set.specs.declared.SetRecord.{SetRecord}
use Rattle.port_set.specs.Sets.{SetsView, renamed}
use Rattle.copyin_base.specs.Worlds.{WorldView, space_at, with_space}
use Rattle.request_table.specs.Tables.{RequestTablesView}
use Rattle.copyin_base.specs.Requests.{notify_of, RequestsAgree, requests_after}
use Rattle.copyin_base.specs.Shows.{target_of, HasCount, SetsAgree, Agrees, RequestsStand}
use Rattle.copyin_base.proofs.Counting.{counts_same}
use Rattle.copyin_base.proofs.Requesting.{same_key, stands_after, requests_left}
use Rattle.copyin_base.proofs.Told.{is_there}
use Rattle.copyin_base.proofs.Agreeing.{NamesAgree, CountRights, own_names, own_rights, put_names, put_rights, spaces_agree, references_agree, sets_stay}
use Rattle.copyin_base.proofs.Gets.{of_some, same_found}
use Rattle.copyin_base.proofs.Putting.{each_put, put_other, get_removed}

same_set : (t u : ℕ) → Target.set t ≡ Target.set u → u ≡ t
same_set t u e = cc

no_some : {A : Type 0} (x : A) → None ≡ Some x → ⊥
no_some x e = cc

module _ (w : WorldView) (s : State) (a : Agrees w s) (task : ℕ) (space : SpaceView) (there : space_at w task ≡ Some space) where
  was_named : (n : ℕ) → map.get (s.naming task) n ≡ option_map target_of (map.get space.names n)
  was_named = (own_names w s a task space there).naming

  others : (own : Names) (u : ℕ) → (u ≡ task → ⊥) → at s.naming task own u ≡ s.naming u
  others own u not = at_other s.naming task own u not

  -- the sets as they were, where what named one still does
  kept_by : (own : Names) → ((n set : ℕ) → map.get (s.naming task) n ≡ Some (Target.set set) → map.get own n ≡ Some (Target.set set)) →
      SetsAgree w.sets s.set_owner s.sets_made (at s.naming task own)
  kept_by own stays = sets_stay w.sets s.set_owner s.sets_made s.naming (at s.naming task own) a.in_sets task (others own)
      (λ n set is. ap (λ (m : Names). map.get m n) (at_own s.naming task own) ∙ stays n set is)

  -- Names, sets and requests are these now, and as many rights are there, and with each task, though they may lie at other requests.
  pub names_agree_with : (names : TableNames) (room : ℕ) (own : Names) (stands : Request → Bool) (sets : SetsView) (owner : ℕ → Option ℕ) (made : ℕ) (requests : RequestTablesView) (tokens : List Token) →
      ((kind : Kind) (q : ℕ) → count (is_of kind q) tokens ≡ count (is_of kind q) s.ledger) → ((u : ℕ) (kind : Kind) (q : ℕ) → count (is_held u kind q) tokens ≡ count (is_held u kind q) s.ledger) →
      length s.ledger ≡ length tokens → RequestsAgree (notify_of requests) requests.names.went w.ports.made stands s.live_port tokens → NamesAgree names own → CountRights names task tokens →
      SetsAgree sets owner made (at s.naming task own) →
      Agrees (record (with_space w task (record space { names = names; room = room })) { sets = sets; requests = requests })
      (record s { naming = at s.naming task own; stands = stands; set_owner = owner; sets_made = made; ledger = tokens })
  names_agree_with names room own stands sets owner made requests tokens same held total of_requests named counted in_sets = record {
    spaces = spaces_agree w.spaces task space (record space { names = names; room = room }) there s.live_task s.tasks_made s.naming (at s.naming task own) s.given s.given a.spaces
        (subst (NamesAgree names) (sym (at_own s.naming task own)) named) (a.counts_given task space there) (others own) (λ u not. refl);
    rights = references_agree w.spaces task space (record space { names = names; room = room }) there s.ledger tokens a.rights counted (λ u not kind q. held u kind q);
    live_port = a.live_port;
    ports_made = a.ports_made;
    ports = a.ports;
    counts = counts_same w.ledger s.live_port s.ledger (onces_queued s) a.counts tokens same;
    total = a.total ∙ total;
    in_sets = in_sets;
    of_requests = of_requests;
  }

  pub names_agree : (names : TableNames) (room : ℕ) (own : Names) (stands : Request → Bool) (sets : SetsView) (owner : ℕ → Option ℕ) (made : ℕ) (requests : RequestTablesView) →
      RequestsAgree (notify_of requests) requests.names.went w.ports.made stands s.live_port s.ledger → NamesAgree names own → CountRights names task s.ledger → SetsAgree sets owner made (at s.naming task own) →
      Agrees (record (with_space w task (record space { names = names; room = room })) { sets = sets; requests = requests })
      (record s { naming = at s.naming task own; stands = stands; set_owner = owner; sets_made = made })
  names_agree names room own stands sets owner made requests of_requests named counted in_sets =
      names_agree_with names room own stands sets owner made requests s.ledger (λ kind q. refl) (λ u kind q. refl) refl of_requests named counted in_sets

  -- This was left under a name: the requests after it agree with those that stand after it.
  pub left_requests : IsLawful s → RequestsStand w → (name : ℕ) → map.contains_key space.names name ≡ true → {A : Type 0} (left : Option A) →
      RequestsAgree (notify_of (requests_after w.requests task name left)) (requests_after w.requests task name left).names.went w.ports.made (stands_after s.stands task name left) s.live_port s.ledger
  left_requests l requested name used left =
      let e = is_there (map.get space.names name) used in
      let small : name < 2 ^ 32 = (l.naming task).space.name_fits name (target_of e.0) (was_named name ∙ ap (option_map target_of) e.1) in
      requests_left w.requests task name small
      (λ r is. let on = requested.on_names (name_key task name) r is in same_key r.task r.name task name on.small small on.own)
      w.ports.made s.stands s.live_port s.ledger a.of_requests left

  -- ---- one more name, of no port

  module _ (name : ℕ) (e : Entry) (room : ℕ) (unused : map.get space.names name ≡ None) (no_port : port_named e ≡ None) (count : HasCount e) where
    abbrev more : TableNames
    more = map.insert space.names name e

    abbrev more_own : Names
    more_own = map.insert (s.naming task) name (target_of e)

    pub not_named : map.get (s.naming task) name ≡ None
    not_named = was_named name ∙ ap (option_map target_of) unused

    -- a name that stood for something does so still
    pub stands_still : (n : ℕ) (x : Target) → map.get (s.naming task) n ≡ Some x → map.get more_own n ≡ Some x
    stands_still n x is = put_other (s.naming task) name (Some (target_of e)) n (λ same. no_some x (sym not_named ∙ ap (map.get (s.naming task)) (sym same) ∙ is)) ∙ is

    pub with_sets : (sets : SetsView) (owner : ℕ → Option ℕ) (made : ℕ) → SetsAgree sets owner made (at s.naming task more_own) →
        Agrees (record (with_space w task (record space { names = more; room = room })) { sets = sets })
        (record s { naming = at s.naming task more_own; set_owner = owner; sets_made = made })
    with_sets sets owner made in_sets = names_agree more room more_own s.stands sets owner made w.requests a.of_requests
        (put_names space.names (s.naming task) (own_names w s a task space there) name (Some e) (of_some e HasCount count))
        (put_rights space.names task s.ledger (own_rights w s a task space there) name (Some e) (λ x p is named. absurd (no_some p (sym no_port ∙ ap port_named (same_found (Some x) e x (sym is) refl) ∙ named))))
        in_sets

    pub added_agrees : Agrees (with_space w task (record space { names = more; room = room })) (record s { naming = at s.naming task more_own })
    added_agrees = with_sets w.sets s.set_owner s.sets_made (kept_by more_own (λ n set is. stands_still n (Target.set set) is))

  -- ---- a name that moves

  module _ (from to : ℕ) (e : Entry) (room : ℕ) (stands : Request → Bool) (found : map.get space.names from ≡ Some e) (unused : map.get space.names to ≡ None) where
    abbrev moved : TableNames
    moved = map.insert (map.remove space.names from) to e

    abbrev less_own : Names
    less_own = map.remove (s.naming task) from

    abbrev moved_own : Names
    moved_own = map.insert less_own to (target_of e)

    pub target_found : map.get (s.naming task) from ≡ Some (target_of e)
    target_found = was_named from ∙ ap (option_map target_of) found

    -- what stood under another name than the one that goes does so still
    stays : (n : ℕ) (x : Target) → (n ≡ from → ⊥) → map.get (s.naming task) n ≡ Some x → map.get moved_own n ≡ Some x
    stays n x not is = put_other less_own to (Some (target_of e)) n
        (λ same. no_some x (sym (was_named to ∙ ap (option_map target_of) unused) ∙ ap (map.get (s.naming task)) (sym same) ∙ is)) ∙ get_removed (s.naming task) from n not ∙ is

    -- the name that goes stood for this
    stood : (n : ℕ) (x : Target) → n ≡ from → map.get (s.naming task) n ≡ Some x → target_of e ≡ x
    stood n x same is = same_found (map.get (s.naming task) from) (target_of e) x target_found (ap (map.get (s.naming task)) (sym same) ∙ is)

    -- The request on it goes along, and so does its right.
    pub moved_agrees : (requests : RequestTablesView) (tokens : List Token) →
        ((kind : Kind) (q : ℕ) → count (is_of kind q) tokens ≡ count (is_of kind q) s.ledger) → ((u : ℕ) (kind : Kind) (q : ℕ) → count (is_held u kind q) tokens ≡ count (is_held u kind q) s.ledger) →
        length s.ledger ≡ length tokens → RequestsAgree (notify_of requests) requests.names.went w.ports.made stands s.live_port tokens →
        (sets : SetsView) → SetsAgree sets s.set_owner s.sets_made (at s.naming task moved_own) →
        Agrees (record (with_space w task (record space { names = moved; room = room })) { sets = sets; requests = requests }) (record s { naming = at s.naming task moved_own; stands = stands; ledger = tokens })
    moved_agrees requests tokens same held total of_requests sets in_sets = names_agree_with moved room moved_own stands sets s.set_owner s.sets_made requests tokens same held total of_requests
        (put_names _ _ (put_names space.names (s.naming task) (own_names w s a task space there) from None (λ x is. absurd (no_some x is))) to (Some e)
        (of_some e HasCount ((own_names w s a task space there).counted from e found)))
        (put_rights _ task tokens (put_rights space.names task tokens own from None (λ x p is. absurd (no_some x is))) to (Some e)
        (λ x p is named. own from x p (found ∙ is) named))
        in_sets
      where
        own : CountRights space.names task tokens
        own n x p is named = let o = own_rights w s a task space there n x p is named in (held task receive p ∙ o.0, held task send p ∙ o.1)

    -- the sets, where the name of one goes along
    pub kept_sets : ((t : ℕ) → target_of e ≡ Target.set t → ⊥) → SetsAgree w.sets s.set_owner s.sets_made (at s.naming task moved_own)
    kept_sets no_set = kept_by moved_own (λ n set is. stays n (Target.set set) (λ same. no_set set (stood n (Target.set set) same is)) is)

    module _ (t : ℕ) (r : SetRecord) (kind : target_of e ≡ Target.set t) (set_there : map.get w.sets.sets t ≡ Some r) (owned : r.owner ≡ task) where
      abbrev owner_of : Option SetRecord → Option ℕ
      owner_of = option_map (λ (x : SetRecord). x.owner)

      own_named : map.get (at s.naming task moved_own r.owner) to ≡ Some (Target.set t)
      own_named =
          ap (λ (u : ℕ). map.get (at s.naming task moved_own u) to) owned ∙ ap (λ (m : Names). map.get m to) (at_own s.naming task moved_own)
          ∙ get_own less_own to (target_of e) ∙ ap (λ (x : Target). Some x) kind

      other_named : (set : ℕ) (x : SetRecord) → (set ≡ t → ⊥) → map.get w.sets.sets set ≡ Some x → map.get (at s.naming task moved_own x.owner) x.name ≡ Some (Target.set set)
      other_named set x not is = let was = a.set_named set x is in elim (eqb_tells x.owner task) [
        | inl h ↦
            let mine : map.get (s.naming task) x.name ≡ Some (Target.set set) = subst (λ (k : ℕ). lookup s k x.name ≡ Some (Target.set set)) h.1 was in
            ap (λ (u : ℕ). map.get (at s.naming task moved_own u) x.name) h.1 ∙ ap (λ (m : Names). map.get m x.name) (at_own s.naming task moved_own)
            ∙ stays x.name (Target.set set) (λ same. not (same_set t set (sym kind ∙ stood x.name (Target.set set) same mine))) mine
        | inr h ↦ ap (λ (m : Names). map.get m x.name) (others moved_own x.owner h.1) ∙ was
      ]

      pub sets_go : SetsAgree (renamed w.sets t r to) s.set_owner s.sets_made (at s.naming task moved_own)
      sets_go = record {
        set_owner = each_put w.sets.sets t (Some (record r { name = to })) (λ set o. s.set_owner set ≡ owner_of o) (a.set_owner t ∙ ap owner_of set_there) (λ set not. a.set_owner set);
        sets_made = a.sets_made;
        set_named = each_put w.sets.sets t (Some (record r { name = to })) (λ set o. (x : SetRecord) → o ≡ Some x → map.get (at s.naming task moved_own x.owner) x.name ≡ Some (Target.set set))
            (of_some (record r { name = to }) (λ x. map.get (at s.naming task moved_own x.owner) x.name ≡ Some (Target.set t)) own_named) (λ set not x. other_named set x not);
      }
