-- How many names a message's rights need.
use Rattle.std.proofs.Common.{◌≡◌, ◌≢◌, ℕ, zero, suc, ◌+◌, ◌-◌, ◌<◌, ◌≤◌, List, [], ◌∷◌, ◌++◌, Option, Some, None, refl, sym, ap, subst, ◌∙◌, arith, true, false, Bool, inl, inr, ◌⊎◌, cond, take, drop, append_assoc, add_assoc, ◌%◌, length, get_or}
use Rattle.std.specs.Prelude.{is_some, ◌||◌, MatchBool, slice_get, slice_set, IfSome, IfNone}
use Rattle.std.specs.Option.{option_and_then}
use Rattle.std.proofs.lemmas.Bool.{cases_lt, eqb-true}
use Rattle.std.proofs.lemmas.Bool.Decides.{eqb_tells}
use Rattle.std.specs.Cmp.{nat_cmp_total}
use Rattle.std.specs.FinMap as map
use Rattle.std.proofs.Math.Bool.{or-false as or_false}
use Rattle.std.proofs.lemmas.Option.{slice_get-get_or}
use Rattle.std.proofs.lemmas.Nat.{mod_below}
use Rattle.mach_types.specs.Numbers.{kind_sent, most_names, null_word, dead_word}
use Rattle.mach_types.specs.Tokens.{Kind, receive, send, send_once}
use Rattle.mach_model.proofs.Names.{many_names}
use Rattle.name_space.specs.declared.Entry.{Entry}
use Rattle.name_space.specs.Entry.{port_named}
use Rattle.tagged_names.specs.Names.{Given}
use Rattle.tagged_names.proofs.Found.{has_fresh_name}
use Rattle.name_space.specs.Names.{Names, SpaceView, IsFreshName, IsFreshIn, tagged_of, given_after, port_at}
use Rattle.name_space.proofs.Keys.{put_here, put_other, equal_or_not}
use Rattle.port.specs.Ports.{PortsView}
use Rattle.copyin_base.specs.declared.Carried.{Carried}
use Rattle.copyin_base.specs.declared.Mark.{Mark}
use Rattle.copyin_base.specs.declared.Mark.TheVariants as mark
use Rattle.copyin_base.specs.Worlds.{WorldView, space_at, with_space}
use Rattle.copyin_base.specs.Kept.{Kept}
use Rattle.copyin_base.proofs.FreshNames.{fresh_unused}
use Rattle.copyin_base.proofs.Gets.{same_found, get-set_same, get-set_other, length-set}
use Rattle.copyin_base.proofs.Spaces.{space-set_same}
use Rattle.copyout.specs.Giving.{free_names, free_room, joined, alone, JoinsName, TakesName, GivesPort, ledger_joined, ports_given, GivesMark, MarkLacks, Lack}
use Rattle.copyout.specs.Room.{names_port, named_by, IsThere, IsNamed, HasNone, Owns, Shares, Needs, IsMarked, Marks, OwnsAlone}
use Rattle.copyout.proofs.Gives.{joined_port, alone_port}
use Rattle.copyout.proofs.PortsGiven.{given_live, kind_cases}

-- ---- The names that rights need, counted from what the task has now: they are too many exactly where names don't suffice.

-- ---- a fresh name is there

abbrev HasAll : Names → ℕ → Type 0
HasAll names k = (n : ℕ) → 0 < n → n ≤ k → map.contains_key names n ≡ true

not_there : (o : Option Entry) → is_some o ≡ false → o ≡ None
not_there None e = refl
not_there (Some x) e = absurd (cc)

fresh_step : (names : Names) (k : ℕ) (b : Bool) → map.contains_key names (suc k) ≡ b → HasAll names k → HasAll names (suc k) ⊎ ((word : ℕ) × IsFreshName names word)
fresh_step names k true e all = grind (arith, cases_lt)
fresh_step names k false e all = grind (arith, not_there)

fresh_to : (names : Names) (k : ℕ) → HasAll names k ⊎ ((word : ℕ) × IsFreshName names word)
fresh_to names zero = inl (λ n above below. absurd (omega arith))
fresh_to names (suc k) = elim (fresh_to names k) [
  | inl all ↦ fresh_step names k (map.contains_key names (suc k)) refl all
  | inr f ↦ inr f
]

pub has_fresh : (names : Names) → (word : ℕ) × IsFreshName names word
has_fresh names = elim (fresh_to names (map.len names + 1)) [
  | inl all ↦ absurd (let h = many_names (map.len names + 1) names all in omega arith)
  | inr f ↦ f
]

-- with a generation or without
pub has_fresh_in : (counts : Option Given) (space : SpaceView) → (word : ℕ) × IsFreshIn counts space word
has_fresh_in None space = has_fresh space.names
has_fresh_in (Some given) space = has_fresh_name (tagged_of given space)

-- ---- names of ports

pub named_there : (o : Option Entry) (p : ℕ) → option_and_then port_named o ≡ Some p → (e : Entry) × (o ≡ Some e) × (port_named e ≡ Some p)
named_there None p h = absurd (let h' : None ≡ Some p = h in cc)
named_there (Some e) p h = (e, refl, h)

or_assoc : (a b c : Bool) → (a || b) || c ≡ a || (b || c)
or_assoc true b c = refl
or_assoc false b c = refl

pub named_by-push : (xs : List Carried) (c : Carried) (p : ℕ) → named_by (xs ++ c ∷ []) p ≡ named_by xs p || names_port (kind_sent c.given) c.mark p
named_by-push [] c p = or_false (names_port (kind_sent c.given) c.mark p)
named_by-push (x ∷ xs) c p = grind (arith, named_by-push xs c p, or_assoc)

pub or_true : (a b : Bool) → a || b ≡ true → (a ≡ true) ⊎ (b ≡ true)
or_true true b h = inl refl
or_true false b h = inr h

or_none : (a b : Bool) → a || b ≡ false → (a ≡ false) × (b ≡ false)
or_none true b h = absurd (cc)
or_none false b h = (refl, h)

-- what names the port, and the port itself
pub names_own : (kind : Kind) (one : Mark) (q : ℕ) → names_port kind one q ≡ true → (kind ≢ send_once) × (one ≡ mark.Port q)
names_own send (mark.Port p) q h = (λ e. cc, ap mark.Port (eqb-true p q h))
names_own receive (mark.Port p) q h = (λ e. cc, ap mark.Port (eqb-true p q h))
names_own send_once (mark.Port p) q h = absurd (let h' : false ≡ true = h in cc)
names_own send mark.Null q h = absurd (let h' : false ≡ true = h in cc)
names_own send mark.Dead q h = absurd (let h' : false ≡ true = h in cc)
names_own receive mark.Null q h = absurd (let h' : false ≡ true = h in cc)
names_own receive mark.Dead q h = absurd (let h' : false ≡ true = h in cc)
names_own send_once mark.Null q h = absurd (let h' : false ≡ true = h in cc)
names_own send_once mark.Dead q h = absurd (let h' : false ≡ true = h in cc)

names_itself : (kind : Kind) (p : ℕ) → kind ≢ send_once → names_port kind (mark.Port p) p ≡ true
names_itself send p n = elim (eqb_tells p p) [ inl h ↦ h.0 | inr h ↦ absurd (h.1 refl) ]
names_itself receive p n = elim (eqb_tells p p) [ inl h ↦ h.0 | inr h ↦ absurd (h.1 refl) ]
names_itself send_once p n = absurd (n refl)

pub same_port : (a b : ℕ) → mark.Port a ≡ mark.Port b → a ≡ b
same_port a b e = cc

-- ---- the tables once the earlier rights were given

-- What is left of names, or of room for them, hangs on how many there are: it is one less with a name more.
pub record IsLeft (left : SpaceView → ℕ) : Type 0 where
  pub lower : (a b : SpaceView) → map.len b.names ≡ map.len a.names + 1 → b.room ≡ a.room - 1 → left b ≡ left a - 1
  pub same : (a b : SpaceView) → map.len b.names ≡ map.len a.names → b.room ≡ a.room → left b ≡ left a

pub names_are_free : IsLeft free_names
names_are_free = record { lower = λ a b names room. omega (arith, names); same = λ a b names room. omega (arith, names) }

pub room_is_free : IsLeft free_room
room_is_free = record { lower = λ a b names room. room; same = λ a b names room. room }

-- So many names the task has then, and so many are left.
pub record Follows (left : SpaceView → ℕ) (ports0 : PortsView Kept) (names0 : Names) (task : ℕ) (earlier : List Carried) (w : WorldView) (n l : ℕ) : Type 0 where
  pub space : SpaceView
  pub there : space_at w task ≡ Some space
  pub size : map.len space.names ≡ n
  pub left_is : left space ≡ l
  pub live : (p : ℕ) → is_some (map.get w.ports.ports p) ≡ is_some (map.get ports0.ports p)
  pub named : (p : ℕ) → IsThere ports0 p → (IsNamed names0 p) ⊎ (named_by earlier p ≡ true) → IsNamed space.names p
  pub none : (p : ℕ) → HasNone names0 p → named_by earlier p ≡ false → HasNone space.names p

module _ (left : SpaceView → ℕ) (is_left : IsLeft left) (ports0 : PortsView Kept) (names0 : Names) (task : ℕ) (earlier : List Carried) (c : Carried) (w : WorldView) (n l : ℕ) (f : Follows left ports0 names0 task earlier w n l) where
  -- nothing changes, and the right names no port that is there
  pub follows_same : (mid : WorldView) → mid ≡ w → ((q : ℕ) → IsThere ports0 q → names_port (kind_sent c.given) c.mark q ≡ true → ⊥) → Follows left ports0 names0 task (earlier ++ c ∷ []) mid n l
  follows_same mid e not = subst (λ (x : WorldView). Follows left ports0 names0 task (earlier ++ c ∷ []) x n l) (sym e) (record {
    space = f.space;
    there = f.there;
    size = f.size;
    left_is = f.left_is;
    live = f.live;
    named = λ p there h. f.named p there (elim h [
      | inl a ↦ inl a
      | inr b ↦ elim (or_true (named_by earlier p) (names_port (kind_sent c.given) c.mark p) (sym (named_by-push earlier c p) ∙ b)) [ inl x ↦ inr x | inr y ↦ absurd (not p there y) ]
    ]);
    none = λ p h k. f.none p h (or_none (named_by earlier p) (names_port (kind_sent c.given) c.mark p) (sym (named_by-push earlier c p) ∙ k)).0;
  })

  module _ (mid : WorldView) (port word : ℕ) (is : c.mark ≡ mark.Port port) (g : GivesPort w task (kind_sent c.given) port word mid) where
    same_space : g.space ≡ f.space
    same_space = same_found (space_at w task) g.space f.space g.there f.there

    there_after : space_at mid task ≡ Some (record g.space { names = g.after; room = g.room; given = g.counts })
    there_after = ap (λ (x : WorldView). space_at x task) g.rest ∙ space-set_same w.spaces task (record g.space { names = g.after; room = g.room; given = g.counts }) g.space g.there

    live_after : (p : ℕ) → is_some (map.get mid.ports.ports p) ≡ is_some (map.get ports0.ports p)
    live_after p = ap (λ (x : WorldView). is_some (map.get x.ports.ports p)) g.rest ∙ given_live task port w.ports (kind_sent c.given) p ∙ f.live p

    -- under a name of its own
    pub follows_taken : (t : TakesName f.space (kind_sent c.given) port word g.after) → g.room ≡ f.space.room - 1 → Follows left ports0 names0 task (earlier ++ c ∷ []) mid (n + 1) (l - 1)
    follows_taken t room = record {
      space = record g.space { names = g.after; room = g.room; given = g.counts };
      there = there_after;
      size = more ∙ ap (λ (k : ℕ). k + 1) f.size;
      left_is = is_left.lower f.space (record g.space { names = g.after; room = g.room; given = g.counts }) more room ∙ ap (λ (k : ℕ). k - 1) f.left_is;
      live = live_after;
      named = λ p there h. elim (before p h) [
        | inl a ↦ let at = f.named p there a in (at.0, other p at.0 at.1)
        | inr b ↦ (word, own_name p b)
      ];
      none = λ p h k name at.
          let parts = or_none (named_by earlier p) (names_port (kind_sent c.given) c.mark p) (sym (named_by-push earlier c p) ∙ k) in
          elim (equal_or_not name word) [
            | inl e ↦ let x : port_named (alone (kind_sent c.given) port) ≡ Some p = sym (own_at e) ∙ at in
                let y = alone_port (kind_sent c.given) port p x in
                absurd (let a : names_port (kind_sent c.given) c.mark p ≡ true = subst (λ (q : ℕ). names_port (kind_sent c.given) c.mark q ≡ true) y.1 (subst (λ (m : Mark). names_port (kind_sent c.given) m port ≡ true) (sym is) (names_itself (kind_sent c.given) port y.0)) in let b = parts.1 in cc)
            | inr m ↦ f.none p h parts.0 name (sym (ap (option_and_then port_named) (ap (λ (x : Names). map.get x name) t.rest ∙ put_other f.space.names word (alone (kind_sent c.given) port) name m)) ∙ at)
          ];
    }
      where
        more : map.len g.after ≡ map.len f.space.names + 1
        more = ap map.len t.rest ∙ map.len-insert nat_cmp_total f.space.names word (alone (kind_sent c.given) port) ∙ ap (λ b. cond b (map.len f.space.names) (map.len f.space.names + 1)) (ap is_some t.unused)

        before : (p : ℕ) → (IsNamed names0 p) ⊎ (named_by (earlier ++ c ∷ []) p ≡ true) → ((IsNamed names0 p) ⊎ (named_by earlier p ≡ true)) ⊎ (names_port (kind_sent c.given) c.mark p ≡ true)
        before p h = elim h [
          | inl a ↦ inl (inl a)
          | inr b ↦ elim (or_true (named_by earlier p) (names_port (kind_sent c.given) c.mark p) (sym (named_by-push earlier c p) ∙ b)) [ inl x ↦ inl (inr x) | inr y ↦ inr y ]
        ]

        own_at : {name : ℕ} → name ≡ word → port_at g.after name ≡ port_named (alone (kind_sent c.given) port)
        own_at {name} e = ap (λ (k : ℕ). port_at g.after k) e ∙ ap (option_and_then port_named) (ap (λ (x : Names). map.get x word) t.rest ∙ put_here f.space.names word (alone (kind_sent c.given) port))

        alone_own : (kind : Kind) → kind ≢ send_once → port_named (alone kind port) ≡ Some port
        alone_own send not = refl
        alone_own receive not = refl
        alone_own send_once not = absurd (not refl)

        own_name : (p : ℕ) → names_port (kind_sent c.given) c.mark p ≡ true → port_at g.after word ≡ Some p
        own_name p b = let y = names_own (kind_sent c.given) c.mark p b in own_at refl ∙ alone_own (kind_sent c.given) y.0 ∙ ap (λ (q : ℕ). Some q) (same_port port p (sym is ∙ y.1))

        other : (p name : ℕ) → port_at f.space.names name ≡ Some p → port_at g.after name ≡ Some p
        other p name at = ap (option_and_then port_named) (ap (λ (x : Names). map.get x name) t.rest ∙ put_other f.space.names word (alone (kind_sent c.given) port) name
            (λ e. let free : port_at f.space.names name ≡ None = ap (option_and_then port_named) (ap (map.get f.space.names) e ∙ t.unused) in cc)) ∙ at

    -- under the name that the port has
    pub follows_joined : (j : JoinsName f.space.names (kind_sent c.given) port word g.after) → g.room ≡ f.space.room → IsNamed f.space.names port → Follows left ports0 names0 task (earlier ++ c ∷ []) mid n l
    follows_joined j room has = record {
      space = record g.space { names = g.after; room = g.room; given = g.counts };
      there = there_after;
      size = as_many ∙ f.size;
      left_is = is_left.same f.space (record g.space { names = g.after; room = g.room; given = g.counts }) as_many room ∙ f.left_is;
      live = live_after;
      named = λ p there h. elim h [
        | inl a ↦ let at = f.named p there (inl a) in (at.0, unchanged at.0 ∙ at.1)
        | inr b ↦ elim (or_true (named_by earlier p) (names_port (kind_sent c.given) c.mark p) (sym (named_by-push earlier c p) ∙ b)) [
          | inl x ↦ let at = f.named p there (inr x) in (at.0, unchanged at.0 ∙ at.1)
          | inr y ↦ (has.0, unchanged has.0 ∙ has.1 ∙ ap (λ (q : ℕ). Some q) (same_port port p (sym is ∙ (names_own (kind_sent c.given) c.mark p y).1)))
        ]
      ];
      none = λ p h k name at.
          let parts = or_none (named_by earlier p) (names_port (kind_sent c.given) c.mark p) (sym (named_by-push earlier c p) ∙ k) in
          f.none p h parts.0 name (sym (unchanged name) ∙ at);
    }
      where
        as_many : map.len g.after ≡ map.len f.space.names
        as_many = ap map.len j.rest ∙ map.len-insert nat_cmp_total f.space.names word (joined (kind_sent c.given) j.entry) ∙ ap (λ b. cond b (map.len f.space.names) (map.len f.space.names + 1)) (ap is_some j.found)

        unchanged : (name : ℕ) → port_at g.after name ≡ port_at f.space.names name
        unchanged name = elim (equal_or_not name word) [
          | inl e ↦ ap (λ (k : ℕ). port_at g.after k) e
              ∙ ap (option_and_then port_named) (ap (λ (x : Names). map.get x word) j.rest ∙ put_here f.space.names word (joined (kind_sent c.given) j.entry))
              ∙ joined_port (kind_sent c.given) j.entry ∙ sym (ap (option_and_then port_named) j.found) ∙ sym (ap (λ (k : ℕ). port_at f.space.names k) e)
          | inr m ↦ ap (option_and_then port_named) (ap (λ (x : Names). map.get x name) j.rest ∙ put_other f.space.names word (joined (kind_sent c.given) j.entry) name m)
        ]

-- ---- Names, or room for them, don't suffice exactly where the rights need more than are left.

-- ---- a mark for a port that is there, and one that isn't

gives_there : (w mid : WorldView) (task : ℕ) (kind : Kind) (one : Mark) (p word : ℕ) → one ≡ mark.Port p → is_some (map.get w.ports.ports p) ≡ true → GivesMark w task kind one word mid → GivesPort w task kind p word mid
gives_there w mid task kind one p word is live h = grind arith

there_gives : (w mid : WorldView) (task : ℕ) (kind : Kind) (one : Mark) (p word : ℕ) → one ≡ mark.Port p → is_some (map.get w.ports.ports p) ≡ true → GivesPort w task kind p word mid → GivesMark w task kind one word mid
there_gives w mid task kind one p word is live h = grind arith

abbrev IsGone : WorldView → Mark → Type 0
IsGone w one = (p : ℕ) → one ≡ mark.Port p → is_some (map.get w.ports.ports p) ≡ false

gone_gives : (w : WorldView) (task : ℕ) (kind : Kind) (one : Mark) → IsGone w one → (word : ℕ) × GivesMark w task kind one word w
gone_gives w task kind (mark.Port p) gone =
    (dead_word, subst (λ (t : Bool). MatchBool t (GivesPort w task kind p dead_word w) ((dead_word ≡ dead_word) × (w ≡ w))) (sym (gone p refl)) (refl, refl))
gone_gives w task kind mark.Null gone = (null_word, (refl, refl))
gone_gives w task kind mark.Dead gone = (dead_word, (refl, refl))

gone_same : (w mid : WorldView) (task : ℕ) (kind : Kind) (one : Mark) (word : ℕ) → IsGone w one → GivesMark w task kind one word mid → mid ≡ w
gone_same w mid task kind (mark.Port p) word gone h = grind arith
gone_same w mid task kind mark.Null word gone h = h.1
gone_same w mid task kind mark.Dead word gone h = h.1

gone_lacks : (left : SpaceView → ℕ) (w : WorldView) (task : ℕ) (kind : Kind) (one : Mark) → IsGone w one → MarkLacks left w task kind one → ⊥
gone_lacks left w task kind (mark.Port p) gone h = let a = gone p refl in let b = h.0 in let e : false ≡ true = sym a ∙ b in cc
gone_lacks left w task kind mark.Null gone h = h
gone_lacks left w task kind mark.Dead gone h = h

-- ---- one right

module _ (left : SpaceView → ℕ) (is_left : IsLeft left) (ports0 : PortsView Kept) (names0 : Names) (task : ℕ) (earlier : List Carried) (c : Carried) (w : WorldView) (n l : ℕ) (f : Follows left ports0 names0 task earlier w n l) where
  -- what comes of a right that needs a name of its own
  after_own : (mid : WorldView) (word : ℕ) → Owns ports0 names0 earlier c → GivesMark w task (kind_sent c.given) c.mark word mid → Follows left ports0 names0 task (earlier ++ c ∷ []) mid (n + 1) (l - 1)
  after_own mid word o h =
      let g = gives_there w mid task (kind_sent c.given) c.mark o.port word o.for_port (f.live o.port ∙ o.there) h in
      let same : g.space ≡ f.space = same_found (space_at w task) g.space f.space g.there f.there in
      elim g.given [
        | inl j ↦ absurd (let named : port_at f.space.names word ≡ Some o.port = subst (λ (s : SpaceView). port_at s.names word ≡ Some o.port) same (ap (option_and_then port_named) j.0.found ∙ j.0.named) in
            elim o.own [ inl once ↦ j.0.not_once once | inr own ↦ f.none o.port own.0 own.1 word named ])
        | inr t ↦ follows_taken left is_left ports0 names0 task earlier c w n l f mid o.port word o.for_port g (subst (λ (s : SpaceView). TakesName s (kind_sent c.given) o.port word g.after) same t.0) (t.2 ∙ ap (λ (s : SpaceView). s.room - 1) same)
      ]

  give_own : Owns ports0 names0 earlier c → n < most_names → (word : ℕ) × (mid : WorldView) × GivesMark w task (kind_sent c.given) c.mark word mid
  give_own o few =
      let fresh = has_fresh_in f.space.given f.space in
      let live : is_some (map.get w.ports.ports o.port) ≡ true = f.live o.port ∙ o.there in
      let mid : WorldView = record (with_space w task (record f.space { names = map.insert f.space.names fresh.0 (alone (kind_sent c.given) o.port); room = f.space.room - 1; given = given_after f.space.given fresh.0 })) {
        ports = ports_given (kind_sent c.given) task o.port w.ports;
      } in (
        fresh.0,
        mid,
        there_gives w mid task (kind_sent c.given) c.mark o.port fresh.0 o.for_port live (record {
          space = f.space;
          there = f.there;
          after = map.insert f.space.names fresh.0 (alone (kind_sent c.given) o.port);
          room = f.space.room - 1;
          counts = given_after f.space.given fresh.0;
          ledger = w.ledger;
          given = inr (
            record {
              fresh = fresh.1;
              unused = fresh_unused f.space.given f.space fresh.0 fresh.1;
              room = let s = f.size in omega arith;
              lone = λ not. elim o.own [ inl once ↦ absurd (not once) | inr own ↦ f.none o.port own.0 own.1 ];
              rest = refl;
            },
            refl,
            refl,
            refl,
          );
          rest = refl;
        }),
      )

  lacks_own : Owns ports0 names0 earlier c → l ≡ 0 → MarkLacks left w task (kind_sent c.given) c.mark
  lacks_own o none = subst (λ (m : Mark). MarkLacks left w task (kind_sent c.given) m) (sym o.for_port) (
    f.live o.port ∙ o.there,
    (f.space, f.there, f.left_is ∙ none),
    elim o.own [ inl once ↦ inl once | inr own ↦ inr (f.space, f.there, f.none o.port own.0 own.1) ],
  )

  own_suffices : Owns ports0 names0 earlier c → 0 < l → MarkLacks left w task (kind_sent c.given) c.mark → ⊥
  own_suffices o some h = grind (arith, same_found)

  -- a right that needs none
  gone_now : ((p : ℕ) → c.mark ≡ mark.Port p → is_some (map.get ports0.ports p) ≡ false) → IsGone w c.mark
  gone_now gone p is = f.live p ∙ gone p is

  after_shared : (mid : WorldView) (word : ℕ) → Shares ports0 names0 earlier c → GivesMark w task (kind_sent c.given) c.mark word mid → Follows left ports0 names0 task (earlier ++ c ∷ []) mid n l
  after_shared mid word s h = elim s [
    | inl gone ↦ follows_same left is_left ports0 names0 task earlier c w n l f mid (gone_same w mid task (kind_sent c.given) c.mark word (gone_now gone) h)
        (λ q there names. let a = gone q (names_own (kind_sent c.given) c.mark q names).1 in let e : false ≡ true = sym a ∙ there in cc)
    | inr has ↦
        let g = gives_there w mid task (kind_sent c.given) c.mark has.0 word has.1 (f.live has.0 ∙ has.2) h in
        let same : g.space ≡ f.space = same_found (space_at w task) g.space f.space g.there f.there in
        let named : IsNamed f.space.names has.0 = f.named has.0 has.2 has.4 in
        elim g.given [
          | inl j ↦ follows_joined left is_left ports0 names0 task earlier c w n l f mid has.0 word has.1 g (subst (λ (x : SpaceView). JoinsName x.names (kind_sent c.given) has.0 word g.after) same j.0) (j.2 ∙ ap (λ (x : SpaceView). x.room) same) named
          | inr t ↦ absurd ((subst (λ (x : SpaceView). TakesName x (kind_sent c.given) has.0 word g.after) same t.0).lone has.3 named.0 named.1)
        ]
  ]

  give_shared : Shares ports0 names0 earlier c → (word : ℕ) × (mid : WorldView) × GivesMark w task (kind_sent c.given) c.mark word mid
  give_shared s = elim s [
    | inl gone ↦ let x = gone_gives w task (kind_sent c.given) c.mark (gone_now gone) in (x.0, w, x.1)
    | inr has ↦
        let named : IsNamed f.space.names has.0 = f.named has.0 has.2 has.4 in
        let entry = named_there (map.get f.space.names named.0) has.0 named.1 in
        let mid : WorldView = record (with_space w task (record f.space { names = map.insert f.space.names named.0 (joined (kind_sent c.given) entry.0); room = f.space.room })) {
          ports = ports_given (kind_sent c.given) task has.0 w.ports;
          ledger = ledger_joined (kind_sent c.given) has.0 entry.0 w.ledger;
        } in (
          named.0,
          mid,
          there_gives w mid task (kind_sent c.given) c.mark has.0 named.0 has.1 (f.live has.0 ∙ has.2) (record {
            space = f.space;
            there = f.there;
            after = map.insert f.space.names named.0 (joined (kind_sent c.given) entry.0);
            room = f.space.room;
            counts = f.space.given;
            ledger = ledger_joined (kind_sent c.given) has.0 entry.0 w.ledger;
            given = inl (record { not_once = has.3; entry = entry.0; found = entry.1; named = entry.2; rest = refl }, refl, refl, refl);
            rest = refl;
          }),
        )
  ]

  shared_suffices : Shares ports0 names0 earlier c → MarkLacks left w task (kind_sent c.given) c.mark → ⊥
  shared_suffices s h = grind (arith, gone_lacks, gone_now, same_found)

-- ---- all rights

module _ (left : SpaceView → ℕ) (is_left : IsLeft left) (ports0 : PortsView Kept) (names0 : Names) (task : ℕ) where
  -- Fewer are left than the rights need.
  pub too_few : (earlier carried : List Carried) (w : WorldView) (n l k : ℕ) → Follows left ports0 names0 task earlier w n l → Needs ports0 names0 earlier carried k →
      n + l ≤ most_names → l < k → Lack left w task carried
  too_few earlier [] w n l k f needs most less = absurd (let e : k ≡ 0 = needs in omega arith)
  too_few earlier (c ∷ cs) w n l k f needs most less = elim needs [
    | inl o ↦ elim (cases_lt 0 l) [
      | inl some ↦
          let g = give_own left is_left ports0 names0 task earlier c w n l f o.0 (omega arith) in
          inr (g.1, (g.0, g.2), too_few (earlier ++ c ∷ []) cs g.1 (n + 1) (l - 1) o.1.0 (after_own left is_left ports0 names0 task earlier c w n l f g.1 g.0 o.0 g.2) o.1.2 (omega arith) (let e = o.1.1 in omega arith))
      | inr none ↦ inl (lacks_own left is_left ports0 names0 task earlier c w n l f o.0 (omega arith))
    ]
    | inr s ↦
        let g = give_shared left is_left ports0 names0 task earlier c w n l f s.0 in
        inr (g.1, (g.0, g.2), too_few (earlier ++ c ∷ []) cs g.1 n l k (after_shared left is_left ports0 names0 task earlier c w n l f g.1 g.0 s.0 g.2) s.1 most less)
  ]

  -- As many are left as they need.
  pub enough : (earlier carried : List Carried) (w : WorldView) (n l k : ℕ) → Follows left ports0 names0 task earlier w n l → Needs ports0 names0 earlier carried k → k ≤ l → Lack left w task carried → ⊥
  enough earlier [] w n l k f needs few h = h
  enough earlier (c ∷ cs) w n l k f needs few h = elim needs [
    | inl o ↦ elim h [
      | inl lack ↦ own_suffices left is_left ports0 names0 task earlier c w n l f o.0 (let e = o.1.1 in omega arith) lack
      | inr r ↦ enough (earlier ++ c ∷ []) cs r.0 (n + 1) (l - 1) o.1.0 (after_own left is_left ports0 names0 task earlier c w n l f r.0 r.1.0 o.0 r.1.1) o.1.2 (let e = o.1.1 in omega arith) r.2
    ]
    | inr s ↦ elim h [
      | inl lack ↦ shared_suffices left is_left ports0 names0 task earlier c w n l f s.0 lack
      | inr r ↦ enough (earlier ++ c ∷ []) cs r.0 n l k (after_shared left is_left ports0 names0 task earlier c w n l f r.0 r.1.0 s.0 r.1.1) s.1 few r.2
    ]
  ]

pub starts : (left : SpaceView → ℕ) (ports0 : PortsView Kept) (w : WorldView) (task : ℕ) (space : SpaceView) → space_at w task ≡ Some space → ((p : ℕ) → is_some (map.get w.ports.ports p) ≡ is_some (map.get ports0.ports p)) →
    Follows left ports0 space.names task [] w (map.len space.names) (left space)
starts left ports0 w task space there live = record {
  space = space;
  there = there;
  size = refl;
  left_is = refl;
  live = live;
  named = λ p is h. elim h [ inl a ↦ a | inr b ↦ absurd (let b' : false ≡ true = b in cc) ];
  none = λ p h k. h;
}

-- ---- the loop that counts

pub counts_on : (ports : PortsView Kept) (names : Names) (reply rights : List Carried) (i count r : ℕ) (x : Carried) → drop i rights ≡ x ∷ drop (i + 1) rights → take (i + 1) rights ≡ take i rights ++ x ∷ [] →
    ((rest : List Carried) (m : ℕ) → Needs ports names ((reply ++ take i rights) ++ x ∷ []) rest m → Needs ports names (reply ++ take i rights) (x ∷ rest) (r + m)) →
    ((m : ℕ) → Needs ports names (reply ++ take i rights) (drop i rights) m → Needs ports names [] (reply ++ rights) (count + m)) →
    (m : ℕ) → Needs ports names (reply ++ take (i + 1) rights) (drop (i + 1) rights) m → Needs ports names [] (reply ++ rights) (count + r + m)
counts_on ports names reply rights i count r x front back own inv m h =
    let h1 : Needs ports names ((reply ++ take i rights) ++ x ∷ []) (drop (i + 1) rights) m =
    subst (λ (xs : List Carried). Needs ports names xs (drop (i + 1) rights) m) (ap (λ (xs : List Carried). reply ++ xs) back ∙ sym (append_assoc reply (take i rights) (x ∷ []))) h in
    let h2 : Needs ports names (reply ++ take i rights) (drop i rights) (r + m) =
    subst (λ (xs : List Carried). Needs ports names (reply ++ take i rights) xs (r + m)) (sym front) (own (drop (i + 1) rights) m h1) in
    subst (λ (k : ℕ). Needs ports names [] (reply ++ rights) k) (sym (add_assoc count r m)) (inv (r + m) h2)

-- ---- The ports that rights name, marked.

module _ (marks : List Bool) (names : Names) (earlier : List Carried) (c : Carried) where
  -- the right's port is marked, if the right gives it a name and the task has none
  more : Marks marks names earlier → ((p : ℕ) → HasNone names p → names_port (kind_sent c.given) c.mark p ≡ true → IsMarked marks p) → Marks marks names (earlier ++ c ∷ [])
  more m own p none h = grind (arith, or_true, named_by-push)

  -- it is for no port
  pub marks_none : Marks marks names earlier → ((p : ℕ) → c.mark ≢ mark.Port p) → Marks marks names (earlier ++ c ∷ [])
  marks_none m not = more m (λ p none y. absurd (not p (names_own (kind_sent c.given) c.mark p y).1))

  -- it never gives a name
  pub marks_once : Marks marks names earlier → kind_sent c.given ≡ send_once → Marks marks names (earlier ++ c ∷ [])
  marks_once m once = more m (λ p none y. absurd ((names_own (kind_sent c.given) c.mark p y).0 once))

  module _ (port : ℕ) (is : c.mark ≡ mark.Port port) where
    own_port : (p : ℕ) → names_port (kind_sent c.given) c.mark p ≡ true → port ≡ p
    own_port p y = same_port port p (sym is ∙ (names_own (kind_sent c.given) c.mark p y).1)

    -- the task has a name for its port
    pub marks_named : Marks marks names earlier → (name : ℕ) → port_at names name ≡ Some port → Marks marks names (earlier ++ c ∷ [])
    marks_named m name at = more m (λ p none y. absurd (none name (at ∙ ap (λ (q : ℕ). Some q) (own_port p y))))

    -- an earlier one gives the same
    pub marks_before : Marks marks names earlier → named_by earlier port ≡ true → Marks marks names (earlier ++ c ∷ [])
    marks_before m before = more m (λ p none y. m p none (subst (λ (q : ℕ). named_by earlier q ≡ true) (own_port p y) before))

-- A mark more.
module _ (marks : List Bool) (port : ℕ) (old : Bool) (there : slice_get marks (port % length marks) ≡ Some old) where
  still : (place : ℕ) → slice_get marks place ≡ Some true → slice_get (slice_set marks (port % length marks) true) place ≡ Some true
  still place h = grind (arith, equal_or_not, get-set_same, get-set_other)

  at_length : (p : ℕ) → slice_get (slice_set marks (port % length marks) true) (p % length marks) ≡ Some true → IsMarked (slice_set marks (port % length marks) true) p
  at_length p h = subst (λ (l : ℕ). slice_get (slice_set marks (port % length marks) true) (p % l) ≡ Some true) (sym (length-set marks (port % length marks) true)) h

  pub marks_own : (names : Names) (earlier : List Carried) (c : Carried) → c.mark ≡ mark.Port port → Marks marks names earlier → Marks (slice_set marks (port % length marks) true) names (earlier ++ c ∷ [])
  marks_own names earlier c is m = more (slice_set marks (port % length marks) true) names earlier c
      (λ p none h. at_length p (still (p % length marks) (m p none h)))
      (λ p none y. subst (λ (q : ℕ). IsMarked (slice_set marks (port % length marks) true) q) (own_port marks names earlier c port is p y) (at_length port (get-set_same marks (port % length marks) true old there)))

-- A right whose port the task names, or an earlier right gives a name for, needs none of its own.
module _ (ports : PortsView Kept) (names : Names) (earlier : List Carried) (c : Carried) (port : ℕ) (is : c.mark ≡ mark.Port port) (not : kind_sent c.given ≢ send_once) where
  shares : (b : Bool) → is_some (map.get ports.ports port) ≡ b → (IsNamed names port) ⊎ (named_by earlier port ≡ true) → Shares ports names earlier c
  shares true there has = inr (port, is, there, not, has)
  shares false gone has = inl (λ p e. subst (λ (q : ℕ). is_some (map.get ports.ports q) ≡ false) (same_port port p (sym is ∙ e)) gone)

  pub shares_name : (IsNamed names port) ⊎ (named_by earlier port ≡ true) → Shares ports names earlier c
  shares_name has = shares (is_some (map.get ports.ports port)) refl has

pub found_name : (names : Names) (port : ℕ) (found : Option ℕ) → is_some found ≡ true → IfSome found (λ name. port_at names name ≡ Some port) → IsNamed names port
found_name names port (Some name) is h = (name, h)
found_name names port None is h = absurd (let e : false ≡ true = is in cc)

-- A right that comes under the task's name for its port, or under none that the task has.
pub shared_found : (kind : Kind) (names : Names) (port : ℕ) (found : Option ℕ) → is_some found ≡ true → IfSome found (λ name. (kind ≢ send_once) × (port_at names name ≡ Some port)) → (kind ≢ send_once) × IsNamed names port
shared_found kind names port (Some name) is h = (h.0, (name, h.1))
shared_found kind names port None is h = absurd (let e : false ≡ true = is in cc)

pub shared_none : (found : Option ℕ) (P : Type 0) → is_some found ≡ false → IfNone found P → P
shared_none (Some name) P is h = absurd (let e : true ≡ false = is in cc)
shared_none None P is h = h

-- With none before it, a right needs a name of its own where its port is there and it shares no name.
module _ (ports : PortsView Kept) (names : Names) (c : Carried) (port : ℕ) where
  pub owns_alone : c.mark ≡ mark.Port port → (kind_sent c.given ≢ send_once → HasNone names port) → is_some (map.get ports.ports port) ≡ true → OwnsAlone ports names c port
  owns_alone is none there = grind (arith, kind_cases)

  pub shares_gone : c.mark ≡ mark.Port port → is_some (map.get ports.ports port) ≡ false → Shares ports names [] c
  shares_gone is gone = inl (λ p e. subst (λ (q : ℕ). is_some (map.get ports.ports q) ≡ false) (same_port port p (sym is ∙ e)) gone)

  pub needs_alone : OwnsAlone ports names c port → Needs ports names [] (c ∷ []) 1
  needs_alone o = grind arith

pub place_there : (marks : List Bool) (port : ℕ) → 0 < length marks → (old : Bool) × (slice_get marks (port % length marks) ≡ Some old)
place_there marks port some = (get_or marks (port % length marks) false, slice_get-get_or marks (port % length marks) false (mod_below port (length marks) some))
