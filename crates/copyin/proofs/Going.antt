-- Words carried out one after the other.
use Rattle.std.proofs.Common.{◌≡◌, ℕ, ◌+◌, ◌<◌, Option, Some, None, IfSome, List, [], ◌∷◌, Bor, get_or, drop, length, refl, sym, ap, subst, ◌∙◌, inl, inr, arith}
use Rattle.std.specs.Prelude.{◌≢◌, slice_set, MatchOption}
use Rattle.std.specs.List.{IsFirstAndRest}
use Rattle.std.proofs.lemmas.Bool.Decides.{eqb_tells}
use Rattle.std.proofs.lemmas.List.{drop_more}
use Rattle.std.specs.FinMap as map
use Rattle.mach_types.specs.declared.profiles.Profile.{Profile}
use Rattle.mach_types.specs.Numbers.{null_word, dead_word}
use Rattle.message_codec.specs.declared.words.PortWord.{PortWord}
use Rattle.name_space.specs.declared.Entry.{Entry}
use Rattle.name_space.specs.Entry.{port_named, port_of}
use Rattle.name_space.specs.Names.{Names, SpaceView, port_at}
use Rattle.port.specs.Ports.{PortsView}
use Rattle.port_set.specs.Sets.{SetsView}
use Rattle.rights.specs.Ledger.{LedgerView}
use Rattle.dispositions.specs.declared.Copied.{Copied}
use Rattle.copyin_base.specs.declared.Carried.{Carried}
use Rattle.copyin_base.specs.declared.Mark.{Mark}
use Rattle.dispositions.specs.Copies.{copied_from}
use Rattle.copyin.specs.Copies.{ports_copied, ledger_copied, CopiesRight}
use Rattle.copyin.specs.Judging.{made_by, made_by_mark}
use Rattle.copyin_base.specs.Kept.{Kept}
use Rattle.request_table.specs.Tables.{RequestTablesView}
use Rattle.copyin_base.specs.Requests.{requests_after}
use Rattle.copyin.specs.Planned.{CanGo, CanCopy, CopiesAll}
use Rattle.copyin.specs.Plans.{ChangesWord, ChangesWords}
use Rattle.copyin_base.specs.Stands.{AreTied}
use Rattle.copyin_base.specs.Worlds.{WorldView, entry_at, put, space_at}
use Rattle.copyin_base.specs.Changes.{PutsLeft}
use Rattle.copyin_base.proofs.Gets.{same_found}
use Rattle.copyin_base.proofs.Spaces.{same_world, space-set_same}
use Rattle.copyin.proofs.Judging.{by_name, get_put, get_put_other}
use Rattle.copyin.proofs.Keeping.{keeps, total_copied, entered_copied, live_copied}

no_some : {X : Type 0} (x : X) → None ≡ Some x → ⊥
no_some x e = cc

-- ---- one right

pub can_copy : (w : WorldView) (task : ℕ) (word : PortWord) (c : Carried) → CanGo w task (word ∷ []) (c ∷ []) → word.name ≢ null_word → word.name ≢ dead_word
    → CanCopy w task word.name c
can_copy w task word c go null dead =
    let goes = go.copies in
    let n = by_name go.space.names word c goes.0 null dead goes.1 in
    record {
      space = go.space;
      there = go.there;
      entry = n.entry;
      found = n.found;
      copied = n.copied;
      is = n.is;
      mark_is = n.mark;
      entered = λ p h. go.tied.entered word.name n.entry p n.found ((keeps c.given n.entry n.copied n.is).mark p (sym n.mark ∙ h));
      few = let f = go.few in omega arith;
    }

-- the name keeps its port
pub same_port : (names : Names) (name : ℕ) (c : Carried) (e : Entry) (k k' : Copied) → map.get names name ≡ Some e → copied_from c.given e ≡ Some k → k' ≡ k
    → IfSome k'.left (λ left. (p : ℕ) → port_named left ≡ Some p → port_at names name ≡ Some p)
same_port names name c e k k' found is same = rw (same, found) ((keeps c.given e k is).named)

pub same_left : (w : WorldView) (task name : ℕ) (c : Carried) (can : CanCopy w task name c) (found : Option Entry) (e : Entry) (copied : Option Copied) (k : Copied)
    → found ≡ entry_at w task name → found ≡ Some e → copied ≡ copied_from c.given e → copied ≡ Some k → k ≡ can.copied
same_left w task name c can found e copied k a b x y = grind (arith, same_found)

pub copies_right : (old mid : WorldView) (task name : ℕ) (c : Carried) (can : CanCopy old task name c) (k : Copied) → k ≡ can.copied → PutsLeft old task name k.left mid →
    (profile : Profile) (spaces : List (Option SpaceView)) (ports : PortsView Kept) (ledger : LedgerView) (sets : SetsView) (requests : RequestTablesView) →
    ◌≡◌ {A = WorldView} (record { spaces = spaces; ports = ports; ledger = ledger; sets = sets; requests = requests; profile = profile }) mid →
    (new_ports : PortsView Kept) (new_ledger : LedgerView) → new_ports ≡ ports_copied c.given k.mark ports → new_ledger ≡ ledger_copied c.given k.mark ledger →
    CopiesRight old task c.given name c.mark (record { spaces = spaces; ports = new_ports; ledger = new_ledger; sets = sets; requests = requests; profile = profile })
copies_right old mid task name c can k kk puts profile spaces ports ledger sets requests view new_ports new_ledger p l =
    let is = view ∙ puts.rest in
    let here : puts.space ≡ can.space = same_found (space_at old task) puts.space can.space puts.there can.there in
    record {
      space = can.space;
      there = can.there;
      entry = can.entry;
      found = can.found;
      copied = can.copied;
      is = can.is;
      mark_is = can.mark_is;
      rest = same_world _ _ _ _ _ _ _ _ _ _ _ _ (ap (λ (w : WorldView). w.spaces) is ∙ rw (here, kk) refl)
          (p ∙ rw kk refl ∙ ap (λ (w : WorldView). ports_copied c.given can.copied.mark w.ports) is) (l ∙ rw kk refl ∙ ap (λ (w : WorldView). ledger_copied c.given can.copied.mark w.ledger) is)
          (ap (λ (w : WorldView). w.sets) is) (ap (λ (w : WorldView). w.requests) is ∙ rw kk refl) (ap (λ (w : WorldView). w.profile) is);
    }

-- ---- and what is left to do

tied_after : (names : Names) (ports : PortsView Kept) (ledger : LedgerView) (name : ℕ) (c : Carried) (e : Entry) (k : Copied) (m : Mark) → AreTied names ports ledger
    → name ≢ null_word → name ≢ dead_word → map.get names name ≡ Some e → copied_from c.given e ≡ Some k
    → AreTied (put names name k.left) (ports_copied c.given m ports) (ledger_copied c.given m ledger)
tied_after names ports ledger name c e k m tied null dead found is = record {
  live = λ n e' p at held. let was = before n e' p at held in live_copied c.given m ports p (tied.live n was.0 p was.1 was.2);
  entered = λ n e' p at held. let was = before n e' p at held in entered_copied c.given m ledger p (tied.entered n was.0 p was.1 was.2);
  not_null = get_put_other names name k.left null_word (λ h. null (sym h)) ∙ tied.not_null;
  not_dead = get_put_other names name k.left dead_word (λ h. dead (sym h)) ∙ tied.not_dead;
}
  where
    some_of : {X : Type 0} (o : Option X) (x : X) (P : X → Type 0) → o ≡ Some x → IfSome o P → P x
    some_of o x P e h = rw e at h

    before : (n : ℕ) (e' : Entry) (p : ℕ) → map.get (put names name k.left) n ≡ Some e' → port_of e' ≡ Some p → (was : Entry) × (map.get names n ≡ Some was) × (port_of was ≡ Some p)
    before n e' p at held = elim (eqb_tells n name) [
      | inl h ↦ (
        e,
        ap (λ (q : ℕ). map.get names q) h.1 ∙ found,
        some_of k.left e' (λ left. (p : ℕ) → port_of left ≡ Some p → port_of e ≡ Some p) (sym (get_put names name k.left) ∙ ap (λ (q : ℕ). map.get (put names name k.left) q) (sym h.1) ∙ at) (keeps c.given e k is).held p held,
      )
      | inr h ↦ (e', sym (get_put_other names name k.left n h.1) ∙ at, held)
    ]

-- The first word went; the others can go.
pub go_on : (old new : WorldView) (task : ℕ) (w : PortWord) (ws : List PortWord) (c : Carried) (cs : List Carried) → CanGo old task (w ∷ ws) (c ∷ cs) → ChangesWord old task w c new
    → CanGo new task ws cs
go_on old new task w ws c cs go ch = elim (eqb_tells w.name null_word) [
  | inl n ↦ stays (rw n.0 at ch) ((rw n.0 at go.copies.1).2)
  | inr n ↦ elim (eqb_tells w.name dead_word) [
    | inl d ↦ stays (rw (n.0, d.0) at ch) ((rw (n.0, d.0) at go.copies.1).2)
    | inr d ↦ goes n.1 d.1 (rw (n.0, d.0) at ch)
  ]
]
  where
    stays : new ≡ old → go.copies.0 ≡ go.space.names → CanGo new task ws cs
    stays same names = subst (λ (x : WorldView). CanGo x task ws cs) (sym same) (record {
      space = go.space;
      there = go.there;
      last = go.last;
      copies = subst (λ (ns : Names). CopiesAll ns ws cs go.last) names go.copies.2;
      few = let f = go.few in omega arith;
      tied = go.tied;
    })

    goes : w.name ≢ null_word → w.name ≢ dead_word → CopiesRight old task c.given w.name c.mark new → CanGo new task ws cs
    goes null dead r =
        let n = by_name go.space.names w c go.copies.0 null dead go.copies.1 in
        let here : r.space ≡ go.space = same_found _ _ _ r.there go.there in
        let ee : r.entry ≡ n.entry = same_found _ _ _ r.found (ap (λ (s : SpaceView). map.get s.names w.name) here ∙ n.found) in
        let kk : r.copied ≡ n.copied = same_found _ _ _ r.is (ap (λ (e : Entry). copied_from c.given e) ee ∙ n.is) in
        let after : SpaceView = record go.space { names = put go.space.names w.name n.copied.left } in
        let m = n.copied.mark in
        let is : new ≡ record old {
          spaces = slice_set old.spaces task (Some after);
          ports = ports_copied c.given m old.ports;
          ledger = ledger_copied c.given m old.ledger;
          requests = requests_after old.requests task w.name n.copied.left;
        } =
        r.rest ∙ same_world _ _ _ _ _ _ _ _ _ _ _ _ (rw (here, kk) refl) (rw kk refl) (rw kk refl) refl (rw kk refl) refl in
        let total = total_copied c.given m old.ledger in
        let one : made_by c ≡ made_by_mark c.given m = ap (λ (x : Mark). made_by_mark c.given x) n.mark in
        subst (λ (x : WorldView). CanGo x task ws cs) (sym is) (record {
          space = after;
          there = space-set_same old.spaces task after go.space go.there;
          last = go.last;
          copies = subst (λ (ns : Names). CopiesAll ns ws cs go.last) n.left go.copies.2;
          few = let f = go.few in omega (arith, f, total, one);
          tied = tied_after go.space.names old.ports old.ledger w.name c n.entry n.copied m go.tied null dead n.found n.is;
        })

-- The words that are left can go, and what they lead to is what all words lead to.
pub record IsGoing (old now : WorldView) (task : ℕ) (ws : List PortWord) (cs : List Carried) (words : List PortWord) (left : List Carried) : Type 0 where
  pub go : CanGo now task words left
  pub whole : (final : WorldView) → ChangesWords now task words left final → ChangesWords old task ws cs final

pub going_none : (old : WorldView) (task : ℕ) (ws : List PortWord) (cs : List Carried) → CanGo old task ws cs → IsGoing old old task ws cs ws cs
going_none old task ws cs go = record { go = go; whole = λ final ch. ch }

pub going_more : (old now new : WorldView) (task : ℕ) (ws : List PortWord) (cs : List Carried) (w : PortWord) (words : List PortWord) (c : Carried) (left : List Carried)
    → IsGoing old now task ws cs (w ∷ words) (c ∷ left) → ChangesWord now task w c new → IsGoing old new task ws cs words left
going_more old now new task ws cs w words c left is ch = record {
  go = go_on now new task w words c left is.go ch;
  whole = λ final more. is.whole final (new, ch, more);
}

-- nothing is left to do
pub going_all : (old now : WorldView) (task : ℕ) (ws : List PortWord) (cs left : List Carried) → IsGoing old now task ws cs [] left → ChangesWords old task ws cs now
going_all old now task ws cs [] is = is.whole now refl
going_all old now task ws cs (c ∷ left) is = absurd is.go.copies

-- each word that is left has its right
pub going_one : (old now : WorldView) (task : ℕ) (ws : List PortWord) (cs : List Carried) (w : PortWord) (words : List PortWord) (left : List Carried)
    → IsGoing old now task ws cs (w ∷ words) left → (c : Carried) × (rest : List Carried) × (left ≡ c ∷ rest)
going_one old now task ws cs w words [] is = absurd is.go.copies
going_one old now task ws cs w words (c ∷ rest) is = (c, rest, refl)

pub first_goes : (w : WorldView) (task : ℕ) (word : PortWord) (words : List PortWord) (c : Carried) (cs : List Carried) → CanGo w task (word ∷ words) (c ∷ cs)
    → CanGo w task (word ∷ []) (c ∷ [])
first_goes w task word words c cs go = record {
  space = go.space;
  there = go.there;
  last = go.copies.0;
  copies = (go.copies.0, go.copies.1, refl);
  few = let f = go.few in omega arith;
  tied = go.tied;
}

-- the same for the words of a list from a place on
pub going_at : (old now new : WorldView) (task : ℕ) (ws : List PortWord) (cs : List Carried) (i : ℕ) (w : PortWord) (left : List Carried) (c : Carried) (rest : List Carried) → i < length ws
    → w ≡ get_or ws i w → left ≡ c ∷ rest → IsGoing old now task ws cs (drop i ws) left → CanGo now task (w ∷ []) (c ∷ []) × (ChangesWord now task w c new → IsGoing old new task ws cs (drop (i + 1) ws) rest)
going_at old now new task ws cs i w left c rest h is parts going =
    let words : drop i ws ≡ w ∷ drop (i + 1) ws = drop_more ws i w h ∙ ap (λ (x : PortWord). x ∷ drop (i + 1) ws) (sym is) in
    let g : IsGoing old now task ws cs (w ∷ drop (i + 1) ws) (c ∷ rest) = rw (words, parts) at going in
    (first_goes now task w (drop (i + 1) ws) c rest g.go, λ ch. going_more old now new task ws cs w (drop (i + 1) ws) c rest g ch)

-- the first of a list and the others
pub first_of : {X : Type 0} (r : Option (Bor X × Bor (List X))) (xs : List X) (p : Bor X × Bor (List X)) → MatchOption r (length xs ≡ 0) (λ p. IsFirstAndRest xs p.0.now p.1.now) → r ≡ Some p
    → xs ≡ p.0.now ∷ p.1.now
first_of r xs p cases is = let so : IsFirstAndRest xs p.0.now p.1.now = rw is at cases in so.0
