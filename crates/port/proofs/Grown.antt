-- Whole ports once a port came or went, and before any.
use Rattle.std.proofs.Common.{◌≡◌, ◌≢◌, inl, inr, ℕ, ◌+◌, ◌<◌, ◌≤◌, ◌^◌, refl, ap, sym, subst, ◌∙◌, Option, Some, None, List, [], ◌∷◌, length, get_or, IsTrue, Bool, true, false, not, is_some, arith, Contains}
use Rattle.std.specs.Prelude.{unwrap_or}
use Rattle.std.specs.Option.{SomeIff}
use Rattle.std.specs.Ordering.{nat_cmp}
use Rattle.std.specs.FinMap as map
use Rattle.slab.specs.Slab.{Slab, get}
use Rattle.member_lists.specs.Lists.{ListsView, list_of, without}
use Rattle.member_lists.proofs.Listed.{list_none}
use Rattle.member_lists.proofs.Values.{len-with_values}
use Rattle.shared_lists.specs.Shared.{SharedView, more_of, empty, IsReady}
use Rattle.port_base.specs.declared.Membership.TheVariants.{Nowhere}
use Rattle.port_base.specs.declared.Record.{Record}
use Rattle.port_base.specs.Memberships.{IsOut}
use Rattle.port_base.specs.Ready.{IsMoved, out_of}
use Rattle.port_base.specs.Records.{waiting_list, noting_list}
use Rattle.port_base.specs.Turns.{has_some, ready_if}
use Rattle.port.specs.Ports.{PortView, PortsView}
use Rattle.port.specs.Records.{ports_of, turns_at, port_in, queued_in, rights_in, rights_of, sets_at, IsIndexed, IsMembered, IsSound, IsKept, made_of}
use Rattle.port.proofs.Changed.{same_view}
use Rattle.port.proofs.Each.{nothing_in as nothing_there}
use Rattle.port.proofs.Keys.{same_some, some_or_none, equal_or_not, out_here, out_other, same_gets}
use Rattle.port.proofs.Membered.{Moves, more_keeps, membered-moved, membered-went, moves-still, moves-out, wider}
use Rattle.port.proofs.Readied.{listed-came, listed-went, kept-then}
use Rattle.port.proofs.Records.{Keyed, port_of, Turns, ports-came, indexed-came, ports-went, indexed-went}
use Rattle.port.proofs.Sound.{no_true, IsOpen, view_of, sum_same}
use Rattle.port.proofs.Turned.{turns-apart, ready_is}
use Rattle.port.proofs.Waiting.{came-same, went-same, view-then, lost_now, doomed_now, noted_now}

nothing_in : (n : Keyed) → n ≡ map.empty → (k x : ℕ) → map.get n k ≡ Some x → ⊥
nothing_in n e k x h = some_or_none x _ h (ap (λ (m : Keyed). map.get m k) e ∙ map.get-empty nat_cmp k)

module _ {M : Type 0} where
  -- ---- before any port

  nothing_at : (s : Slab (Record M)) → s.slots ≡ [] → (k : ℕ) (r : Record M) → get s k ≡ Some r → ⊥
  nothing_at s e k r h = some_or_none r _ h (ap (λ (l : List (Option (Record M))). get_or l k None) e)

  pub sound-empty : (s : Slab (Record M)) (keys : Keyed) (spare destroyed : List M) → s.slots ≡ [] → keys ≡ map.empty → spare ≡ [] → destroyed ≡ [] → IsSound s keys (Some 0) spare destroyed 0
  sound-empty s keys spare destroyed e none g d = grind (arith, nothing_in, nothing_at, same_some)

  pub membered-empty : (s : Slab (Record M)) (several : Bool) (sets : SharedView) → s.slots ≡ [] → sets ≡ empty several → IsMembered (get s) sets
  membered-empty s several sets e is =
      let no : (k : ℕ) (r : Record M) → get s k ≡ Some r → ⊥ = nothing_at s e in
      let out : (lists : ListsView) → lists ≡ record { lists = map.empty; items = 0 } → (k l : ℕ) → Contains (list_of lists l) k → ⊥ = λ lists same k l c. nothing_there k (subst (λ ys. Contains ys k) (ap (λ (v : ListsView). list_of v l) same ∙ list_none 0 l) c) in
      record {
        first = λ k r h. absurd (no k r h);
        stands = λ k l r h. absurd (no k r h);
        home = λ k r h. absurd (no k r h);
        ready = λ k r h. absurd (no k r h);
        held = λ k l c. absurd (out sets.all (ap (λ (u : SharedView). u.all) is) k l c);
        readied = λ k l c. absurd (out sets.ready (ap (λ (u : SharedView). u.ready) is) k l c);
        more = λ k none. ap (λ (u : SharedView). more_of u k) is ∙ ap (λ o. unwrap_or o []) (map.get-empty nat_cmp k);
        room = λ k r h. absurd (no k r h);
      }

  pub ports-empty : (at : ℕ → Option (Record M)) (sets : SharedView) (n : Keyed) → n ≡ map.empty → ports_of at sets n ≡ map.empty
  ports-empty at sets n e = map.empty_of_len _ (len-with_values (λ k. port_in (at k) (more_of sets k)) n ∙ ap (λ (m : Keyed). map.len m) e ∙ map.len-empty nat_cmp ℕ)

  pub rights-empty : (at : ℕ → Option (Record M)) (n : Keyed) → n ≡ map.empty → rights_of at n ≡ map.empty
  rights-empty at n e = map.empty_of_len _ (len-with_values (λ k. rights_in (at k)) n ∙ ap (λ (m : Keyed). map.len m) e ∙ map.len-empty nat_cmp ℕ)

  -- ---- room for more

  pub rights-widened : (s : Slab (Record M)) {t : Slab (Record M)} {keys keys2 : Keyed} → t ≡ record s { capacity = t.capacity } → keys2 ≡ keys → rights_of (get t) keys2 ≡ rights_of (get s) keys
  rights-widened s {t} {keys} {keys2} e ek = ap (λ (u : Slab (Record M)). rights_of (get u) keys2) e ∙ ap (rights_of (get s)) ek

  pub widened : {s t : Slab (Record M)} {keys keys2 : Keyed} {next : Option ℕ} {spare destroyed : List M} {slots : ℕ} {sets sets2 : SharedView} {waiting waiting2 noting noting2 : ListsView} {v : PortsView M} → IsOpen s keys next spare destroyed slots sets waiting noting v →
      t ≡ record s { capacity = t.capacity } → keys2 ≡ keys → (a b room : ℕ) → sets2 ≡ wider sets a b room → sets.all.items ≤ a → (c : ℕ) → waiting2 ≡ record waiting { items = c } → waiting.items ≤ c → (d : ℕ) → noting2 ≡ record noting { items = d } → noting.items ≤ d →
      IsOpen t keys2 next spare destroyed slots sets2 waiting2 noting2 v
  widened {s} {t} {keys} {keys2} {next} {spare} {destroyed} {slots} {sets} {sets2} {waiting} {waiting2} {noting} {noting2} {v} o e ek a b room ea ma c ec mc d ed md = record {
    kept = kept-then s t keys keys2 next spare destroyed slots sets sets2 waiting waiting2 noting noting2 a b room c d e ek ea ec ed ma mc md o.kept;
    view_is = view-then s t keys keys2 next spare destroyed sets sets2 a b room ea waiting waiting2 c ec noting noting2 d ed e ek ∙ o.view_is;
  }

  -- ---- with one port more

  module _ {s : Slab (Record M)} {keys : Keyed} {next : Option ℕ} {spare destroyed : List M} {slots : ℕ} {sets : SharedView} {waiting noting : ListsView} {v : PortsView M} (o : IsOpen s keys next spare destroyed slots sets waiting noting v)
      (t : Slab (Record M)) (new_keys : Keyed) (then : Option ℕ) (key : ℕ) (a : Record M) (vacant : get s key ≡ None) (changed : get t key ≡ Some a) (others : (other : ℕ) → other ≢ key → get t other ≡ get s other)
      (id : a.id ≡ made_of next) (quiet : a.queue ≡ []) (in_none : a.kept.attributes.set ≡ None) (nowhere : a.kept.membership ≡ Nowhere) (fits : key < sets.all.items) (waits_fit : key < waiting.items) (notes_fit : key < noting.items) (waits : waiting_list a ≡ None) (notes : noting_list a ≡ None)
      (put : new_keys ≡ map.insert keys (made_of next) key) (one_more : made_of then ≡ made_of next + 1) (next_fits : (n : ℕ) → then ≡ Some n → n < 2 ^ 64) where
    turns-came : Turns (get s) (get t) key (Some a)
    turns-came = record { changed = changed; others = others }

    sound-came : IsSound t new_keys then spare destroyed slots
    sound-came = record {
      indexed = subst (λ n. IsIndexed (get t) new_keys n) (sym one_more) (subst (λ (m : Keyed). IsIndexed (get t) m (made_of next + 1)) (sym put)
          (indexed-came (get s) (get t) sets sets keys (made_of next) o.kept.sound.indexed key (λ k d. refl) a vacant turns-came id));
      counted = ap (λ n. n + length spare + length destroyed) (sum_same t.slots s.slots (λ k. elim (equal_or_not k key) [
        | inl e ↦ ap (λ b. queued_in (get t b)) e ∙ ap queued_in changed ∙ ap (λ (q : List M). length q) quiet ∙ sym (ap (λ b. queued_in (get s b)) e ∙ ap queued_in vacant)
        | inr d ↦ ap queued_in (others k d)
      ])) ∙ o.kept.sound.counted;
      few = o.kept.sound.few;
      next_fits = next_fits;
    }

    out_of_all : (l : ℕ) → Contains (list_of sets.all l) key → ⊥
    out_of_all l c = let was = o.kept.membered.held key l c in some_or_none was.0 _ was.1 vacant

    moves-came : Moves sets sets key None Nowhere false [] []
    moves-came = moves-still sets sets key [] (λ l. (λ c. absurd (out_of_all l c), λ c. absurd (nothing_there l c))) (λ l c. o.kept.membered.readied key l c) None Nowhere refl (o.kept.membered.more key vacant)
        (out_of_all, o.kept.membered.more key vacant) (let none : List M = [] in none) refl (λ l c. out_of_all l (o.kept.membered.readied key l c))

    pub kept-came : IsKept t new_keys then spare destroyed slots sets waiting noting
    kept-came = record {
      sound = sound-came;
      membered = membered-moved (get s) (get t) sets sets key o.kept.membered moves-came a turns-came in_none nowhere (ap (λ (q : List M). has_some q) quiet) refl fits;
      awaited = listed-came waiting_list (get s) (get t) waiting o.kept.awaited key a waiting.items vacant turns-came waits waits_fit (omega arith);
      are_noted = listed-came noting_list (get s) (get t) noting o.kept.are_noted key a noting.items vacant turns-came notes notes_fit (omega arith);
    }

    pub view-came : (q : PortView M) → port_of a [] ≡ q → view_of t new_keys then spare destroyed sets waiting noting ≡ record v { ports = map.insert v.ports v.made q; made = v.made + 1 }
    view-came q is =
        let lists = came-same o t key vacant others waiting noting waiting.items noting.items refl refl in
        same_view (view_of t new_keys then spare destroyed sets waiting noting) (record v { ports = map.insert v.ports v.made q; made = v.made + 1 })
        (ap (ports_of (get t) sets) put ∙ ports-came (get s) (get t) sets sets keys (made_of next) o.kept.sound.indexed key (λ k d. refl) a vacant turns-came id
        ∙ ap (map.insert (ports_of (get s) sets keys) (made_of next)) (ap (port_of a) (o.kept.membered.more key vacant) ∙ is) ∙ ap (λ (b : PortsView M). map.insert b.ports b.made q) o.view_is)
        (turns-apart (get s) (get t) sets.ready key (λ l c. out_of_all l (o.kept.membered.readied key l c)) others ∙ ready_is o)
        (one_more ∙ ap (λ (b : PortsView M). b.made + 1) o.view_is) (ap (λ (b : PortsView M). b.spare) o.view_is) (ap (λ (b : PortsView M). b.destroyed) o.view_is)
        (lists.lost_is ∙ lost_now o) (lists.doomed_is ∙ doomed_now o) (lists.noted_is ∙ noted_now o) (ap (λ (b : PortsView M). b.several) o.view_is)

  -- ---- with one port less

  no_queue : (q : List M) → length q ≡ 0 → q ≡ []
  no_queue [] e = refl
  no_queue (m ∷ q) e = absurd (omega arith)

  pub unready_queue : (sets : SharedView) (key : ℕ) (q : List M) → length q ≡ 0 → IsReady sets key (has_some q) → IsReady sets key false
  unready_queue sets key q none ready = subst (λ (p : List M). IsReady sets key (has_some p)) (no_queue q none) ready

  module _ {s : Slab (Record M)} {keys : Keyed} {next : Option ℕ} {spare destroyed : List M} {slots : ℕ} {sets : SharedView} {waiting noting : ListsView} {v : PortsView M} (o : IsOpen s keys next spare destroyed slots sets waiting noting v)
      (t : Slab (Record M)) (new_keys : Keyed) (id key : ℕ) (r : Record M) (found : map.get keys id ≡ Some key) (here : get s key ≡ Some r) (quiet : length r.queue ≡ 0)
      (changed : get t key ≡ None) (others : (other : ℕ) → other ≢ key → get t other ≡ get s other) (out : new_keys ≡ map.remove keys id)
      (then : SharedView) (left : IsOut sets key r.kept.membership false then) (w n : ListsView) (waits : IsMoved waiting w key None) (waits_out : w ≡ out_of waiting key (waiting_list r)) (notes : IsMoved noting n key None) (notes_out : n ≡ out_of noting key (noting_list r)) where
    turns-went : Turns (get s) (get t) key None
    turns-went = record { changed = changed; others = others }

    unready-went : IsReady sets key false
    unready-went = unready_queue sets key r.queue quiet (o.kept.membered.ready key r here)

    moves-went : Moves sets then key None Nowhere false [] (ready_if (let none : List M = [] in none) (more_of then key))
    moves-went = moves-out sets then key (sets_at sets key r) (λ l. o.kept.membered.stands key l r here) (λ l c. o.kept.membered.readied key l c) r.kept.attributes.set r.kept.membership (o.kept.membered.first key r here) refl (o.kept.membered.home key r here)
        (let none : List M = [] in none) unready-went left

    pub kept-went : IsKept t new_keys next spare destroyed slots then w n
    kept-went = record {
      sound = record {
        indexed = subst (λ (m : Keyed). IsIndexed (get t) m (made_of next)) (sym out)
            (indexed-went (get s) (get t) sets sets keys (made_of next) o.kept.sound.indexed id key (λ k d. refl) found turns-went);
        counted = ap (λ n. n + length spare + length destroyed) (sum_same t.slots s.slots (λ k. elim (equal_or_not k key) [
          | inl e ↦ ap (λ b. queued_in (get t b)) e ∙ ap queued_in changed ∙ sym (ap (λ b. queued_in (get s b)) e ∙ ap queued_in here ∙ quiet)
          | inr d ↦ ap queued_in (others k d)
        ])) ∙ o.kept.sound.counted;
        few = o.kept.sound.few;
        next_fits = o.kept.sound.next_fits;
      };
      membered = membered-went (get s) (get t) sets then key o.kept.membered moves-went turns-went refl;
      awaited = listed-went waiting_list (get s) (get t) waiting o.kept.awaited key w turns-went waits;
      are_noted = listed-went noting_list (get s) (get t) noting o.kept.are_noted key n turns-went notes;
    }

    pub view-went : view_of t new_keys next spare destroyed then w n ≡ record v { ports = map.remove v.ports id; lost = without id v.lost; doomed = without id v.doomed; noted = without id v.noted }
    view-went =
        let lists = went-same o id key r found here t others w n waits waits_out notes notes_out in
        same_view (view_of t new_keys next spare destroyed then w n) (record v { ports = map.remove v.ports id; lost = without id v.lost; doomed = without id v.doomed; noted = without id v.noted })
        (ap (ports_of (get t) then) out ∙ ports-went (get s) (get t) sets then keys (made_of next) o.kept.sound.indexed id key (more_keeps sets then key left.others) found turns-went ∙ ap (λ (b : PortsView M). map.remove b.ports id) o.view_is)
        (ap (turns_at (get t)) moves-went.turns ∙ turns-apart (get s) (get t) sets.ready key unready-went others ∙ ready_is o)
        (ap (λ (b : PortsView M). b.made) o.view_is) (ap (λ (b : PortsView M). b.spare) o.view_is) (ap (λ (b : PortsView M). b.destroyed) o.view_is)
        lists.lost_is lists.doomed_is lists.noted_is (moves-went.several ∙ ap (λ (b : PortsView M). b.several) o.view_is)

-- the count of identities once one more was given
pub made_more : (o : Option ℕ) (n : ℕ) → SomeIff o (n + 1 < 2 ^ 64) (n + 1) → n < 2 ^ 64 → made_of o ≡ n + 1
made_more None n h few = omega (arith, h)
made_more (Some m) n h few = h.1

pub next_in_range : (o : Option ℕ) (n : ℕ) → SomeIff o (n + 1 < 2 ^ 64) (n + 1) → (m : ℕ) → o ≡ Some m → m < 2 ^ 64
next_in_range None n h m e = absurd (some_or_none m None e refl)
next_in_range (Some k) n h m e = let same : k ≡ m = same_some k m e in let is : k ≡ n + 1 = h.1 in let few : n + 1 < 2 ^ 64 = h.0 in omega arith

pub exhausted : (o : Option ℕ) (b : Bool) → is_some o ≡ not b → ((n : ℕ) → o ≡ Some n → n < 2 ^ 64) → (IsTrue b → 2 ^ 64 ≤ made_of o) × (2 ^ 64 ≤ made_of o → IsTrue b)
exhausted None true e h = (λ t. omega arith, λ t. refl)
exhausted None false e h = absurd (no_true e)
exhausted (Some n) true e h = absurd (no_true (sym e))
exhausted (Some n) false e h = (λ t. absurd (no_true t), λ t. absurd (let few : n < 2 ^ 64 = h n refl in omega arith))

-- taking out what is not there
pub remove-absent : {X : Type 0} (m : map.FinMap nat_cmp X) (k : ℕ) → map.get m k ≡ None → map.remove m k ≡ m
remove-absent m k none = grind (arith, same_gets, equal_or_not, out_here, out_other)
