-- Words are copied in one by one: what that changes, and what it keeps.
use Rattle.std.proofs.Common.{◌≡◌, ℕ, Bool, true, false, List, [], ◌∷◌, sym, subst, ◌++◌, Option, Some, IfSome, refl, ap, ◌∙◌, ◌+◌, arith, length, drop, All, None}
use Rattle.std.specs.Prelude.{◌==◌, MatchBool, map as list_map, replicate, flat_map}
use Rattle.std.specs.FinMap as map
use Rattle.std.proofs.lemmas.List.{map-append}
use Rattle.mach_types.specs.Numbers.{null_word, dead_word, disposition, kind_sent}
use Rattle.mach_types.specs.declared.rights.Disposition.{Disposition}
use Rattle.mach_types.specs.Grammar.{WireBody, Wire, data_item, port_item, IsWire, IsWireBody}
use Rattle.mach_types.specs.declared.rights.Disposition.TheVariants.{MoveReceive, MoveSend, MoveSendOnce, CopySend, MakeSend, MakeSendOnce}
use Rattle.mach_types.specs.Tokens.{in_message, Kind, send_once, same_kind}
use Rattle.mach_types.specs.Messages.{null, dead, Mark as MachineMark}
use Rattle.mach_types.specs.Bodies.{wire_words, AllZip, SameItem, Through, body_words as machine_words}
use Rattle.mach_model.specs.State.{State}
use Rattle.mach_model.specs.CopyIn.{CopyRight, CopyWord, CopyCarried, CopyBody}
use Rattle.mach_model.proofs.Moving.{IsMoving, shape, shape-trans, shape-same}
use Rattle.mach_model.proofs.Copying.{CopyRight-copies}
use Rattle.mach_model.specs.SentMeans.{IsSent}
use Rattle.message_codec.specs.declared.words.PortWord.{PortWord}
use Rattle.message_codec.specs.declared.text.Parsed.{Parsed}
use Rattle.message_codec.specs.Words.{body_words, named, items_words}
use Rattle.message_codec.proofs.Shapes.{All-head, All-tail}
use Rattle.rights.specs.Ledger.{LedgerView}
use Rattle.rights.specs.declared.RightKind.TheVariants as right
use Rattle.name_space.specs.declared.Entry.{Entry}
use Rattle.name_space.specs.Entry.{port_of}
use Rattle.name_space.specs.Names.{SpaceView, Names}
use Rattle.port.specs.Ports.{IsLive, PortsView}
use Rattle.copyin_base.specs.declared.Carried.{Carried}
use Rattle.copyin_base.specs.declared.Mark.{Mark}
use Rattle.copyin_base.specs.Worlds.{WorldView, with_space, entry_in, entry_at, put, space_at, NoneLost}
use Rattle.request_table.specs.Tables.{RequestTablesView}
use Rattle.copyin_base.specs.Requests.{requests_after}
use Rattle.copyin_base.specs.Shows.{RequestsStand, Agrees}
use Rattle.copyin_base.proofs.Gets.{same_found}
use Rattle.copyin_base.proofs.Requested.{requested_left, requested_ports}
use Rattle.copyin_base.specs.declared.Mark.TheVariants as mark
use Rattle.copyin_base.specs.Kept.{mark_of, items_of, body_of, items_given, body_given, Kept}
use Rattle.copyin_base.proofs.Spaces.{space-set_same}
use Rattle.copyin_base.proofs.KeptEntries.{numbers, rights_of, item_kept, body_kept}
use Rattle.copyin_base.specs.Changes.{NotesSenders, IsForLive}
use Rattle.copyin_base.proofs.Idle.{none_lost_by}
use Rattle.copyin_base.proofs.SendersNoted.{KeepsSends, sends_made, sends_shifted, KeepsSenders, keeps_senders, keeps_senders_refl, keeps_senders_trans, senders_same, senders_kept}
use Rattle.dispositions.specs.Copies.{copied_from}
use Rattle.copyin.specs.Copies.{CopiesRight, ledger_copied, ports_copied, ledger_queued}
use Rattle.copyin.specs.Plans.{ChangesWord, ChangesWords, destination_word, reply_words, option_list, Judged, Commits}
use Rattle.copyin.proofs.Holding.{held_requested, held_ledger, held_requests, held_noted, held_none_lost}
use Rattle.copyin.proofs.Keeping.{keeps, live_copied, still, else_copied}
use Rattle.dispositions.specs.declared.Copied.{Copied}
use Rattle.copyin.specs.Judging.{CopiesName, CopiesWord, PassesAs, made_by, made_by_mark, CopiesBody, made_by_all}
use Rattle.copyin.proofs.CopiedIn.{after, goes}
use Rattle.copyin.proofs.Judging.{number_of, kind_given, given_ports}

-- ---- What is true of each right that goes is true of words whose rights go one after the other.

-- It is true where nothing changed, of a right that goes, and of two changes one after the other.
pub record IsKept (P : WorldView → WorldView → Type 0) : Type 0 where
  pub same : (w : WorldView) → P w w
  pub right : (old new : WorldView) (task : ℕ) (d : Disposition) (name : ℕ) (one : Mark) → CopiesRight old task d name one new → P old new
  pub both : (old mid new : WorldView) → P old mid → P mid new → P old new

module _ (P : WorldView → WorldView → Type 0) (k : IsKept P) where
  stays : (old new : WorldView) → new ≡ old → P old new
  stays old new same = subst (P old) (sym same) (k.same old)

  pub over_word : (old new : WorldView) (task : ℕ) (w : PortWord) (c : Carried) → ChangesWord old task w c new → P old new
  over_word old new task w c changes = go (w.name == null_word) (w.name == dead_word) changes
    where
      go : (a b : Bool) → MatchBool a (new ≡ old) (MatchBool b (new ≡ old) (CopiesRight old task c.given w.name c.mark new)) → P old new
      go true b same = stays old new same
      go false true same = stays old new same
      go false false copies = k.right old new task c.given w.name c.mark copies

  pub over_words : (ws : List PortWord) (cs : List Carried) (old new : WorldView) (task : ℕ) → ChangesWords old task ws cs new → P old new
  over_words [] [] old new task same = stays old new same
  over_words (w ∷ ws) (c ∷ cs) old new task h = k.both old h.0 new (over_word old h.0 task w c h.1) (over_words ws cs h.0 new task h.2)
  over_words [] (c ∷ cs) old new task h = absurd h
  over_words (w ∷ ws) [] old new task h = absurd h

-- ---- Requests stand on names and ports that are there, as rights are copied in and a message is sent.

-- the tables once this was left under the name, before ports and counts change
abbrev left_in : WorldView → (task name : ℕ) → SpaceView → Option Entry → WorldView
left_in w task name space left = record (with_space w task (record space { names = put space.names name left })) { requests = requests_after w.requests task name left }

for_port : (o : Option Entry) (e : Entry) → IfSome o (λ left. (p : ℕ) → port_of e ≡ Some p → port_of left ≡ Some p) → (left : Entry) → o ≡ Some left → (p : ℕ) → port_of e ≡ Some p → port_of left ≡ Some p
for_port o e stays left is = subst (λ (x : Option Entry). IfSome x (λ left. (p : ℕ) → port_of e ≡ Some p → port_of left ≡ Some p)) is stays

-- A name whose last right goes takes its request along; another is for the port for which it was.
pub copied_requested : (old new : WorldView) (task : ℕ) (d : Disposition) (name : ℕ) (one : Mark) → CopiesRight old task d name one new → RequestsStand old → RequestsStand new
copied_requested old new task d name one c r =
    let mid = left_in old task name c.space c.copied.left in
    let there : entry_at old task name ≡ Some c.entry = ap (λ (o : Option SpaceView). entry_in o name) c.there ∙ c.found in
    requested_ports mid new
    (requested_left old mid r task name c.copied.left (record { space = c.space; there = c.there; rest = refl })
    (λ e x p left is for. for_port c.copied.left c.entry (keeps d c.entry c.copied c.is).stays e left p
    (subst (λ (y : Entry). port_of y ≡ Some p) (same_found (entry_at old task name) x c.entry is there) for)))
    (λ p lives. subst (λ (x : WorldView). IsLive x.ports p) (sym c.rest) (live_copied d c.copied.mark old.ports p lives))
    (ap (λ (x : WorldView). x.requests) c.rest)
    (ap (λ (x : WorldView). x.spaces) c.rest)

abbrev StandStill : WorldView → WorldView → Type 0
StandStill old new = RequestsStand old → RequestsStand new

requested_kept : IsKept StandStill
requested_kept = record {
  same = λ w r. r;
  right = copied_requested;
  both = λ old mid new a b r. b (a r);
}

module _ (old : WorldView) (task : ℕ) (parsed : Parsed) (written : WireBody) (j : Judged old task parsed written) (bytes : List ℕ) (new : WorldView)
    (c : Commits old task parsed written j bytes new) where
  -- once the rights went, before the message is queued
  pub went_requested : RequestsStand old → RequestsStand c.mid
  went_requested = over_words StandStill requested_kept (destination_word parsed ∷ reply_words parsed ++ body_words written) (j.destination ∷ option_list j.reply ++ j.rights) old c.mid task c.changes

  -- a message that was sent
  pub commits_requested : RequestsStand old → RequestsStand new
  commits_requested r = requested_ports c.held new (held_requested j.port j.rights c.mid c.held c.holds (went_requested r))
      (λ p lives. subst (λ (x : WorldView). IsLive x.ports p) (sym c.rest) (still c.held.ports.ports j.port p _ lives))
      (ap (λ (x : WorldView). x.requests) c.rest)
      (ap (λ (x : WorldView). x.spaces) c.rest)

-- ---- The words of a message copied in one by one: from the names that each leaves to the machine's states.

-- Tables and a state that agree while rights are on their way; the task has these names.
pub record Along (w : WorldView) (s : State) (o k task : ℕ) (names : Names) : Type 0 where
  pub agrees : Agrees w s
  pub moving : IsMoving s o k
  pub space : SpaceView
  pub there : space_at w task ≡ Some space
  pub names_are : space.names ≡ names
  pub requested : RequestsStand w

-- ---- how many rights are made

ledger_total : (d : Disposition) (m : Mark) (l : LedgerView) → (ledger_copied d m l).total ≡ l.total + made_by_mark d m
ledger_total CopySend (mark.Port p) l = refl
ledger_total MakeSend (mark.Port p) l = refl
ledger_total MakeSendOnce (mark.Port p) l = refl
ledger_total MoveReceive m l = omega arith
ledger_total MoveSend m l = omega arith
ledger_total MoveSendOnce m l = omega arith
ledger_total CopySend mark.Null l = omega arith
ledger_total CopySend mark.Dead l = omega arith
ledger_total MakeSend mark.Null l = omega arith
ledger_total MakeSend mark.Dead l = omega arith
ledger_total MakeSendOnce mark.Null l = omega arith
ledger_total MakeSendOnce mark.Dead l = omega arith

none_by_null : (d : Disposition) → made_by_mark d mark.Null ≡ 0
none_by_null MoveReceive = refl
none_by_null MoveSend = refl
none_by_null MoveSendOnce = refl
none_by_null CopySend = refl
none_by_null MakeSend = refl
none_by_null MakeSendOnce = refl

none_by_dead : (d : Disposition) → made_by_mark d mark.Dead ≡ 0
none_by_dead MoveReceive = refl
none_by_dead MoveSend = refl
none_by_dead MoveSendOnce = refl
none_by_dead CopySend = refl
none_by_dead MakeSend = refl
none_by_dead MakeSendOnce = refl

-- ---- one name

-- A right goes from a name, in the tables and in the machine.
pub record Went (w : WorldView) (s : State) (o k task : ℕ) (word : PortWord) (c : Carried) (left : Names) : Type 0 where
  pub w2 : WorldView
  pub t : State
  pub along : Along w2 t o k task left
  pub copy : CopyRight task (in_message o k) word.disposition word.name s (mark_of c.mark) t
  pub changes : CopiesRight w task c.given word.name c.mark w2
  pub rest : t ≡ shape s t
  pub total : w2.ledger.total ≡ w.ledger.total + made_by c

pub went : (w : WorldView) (s : State) (o k task : ℕ) (names : Names) (word : PortWord) (c : Carried) (left : Names) → Along w s o k task names → CopiesName names word c left →
    Went w s o k task word c left
went w s o k task names word c left at n =
    let found : map.get at.space.names word.name ≡ Some n.entry = ap (λ (m : Names). map.get m word.name) at.names_are ∙ n.found in
    let g = goes w s at.agrees o k at.moving task word.name at.space at.there at.requested c.given n.entry n.copied found n.is in
    let copy : CopyRight task (in_message o k) word.disposition word.name s (mark_of c.mark) g.t =
    subst (λ (x : _). CopyRight task (in_message o k) word.disposition word.name s (mark_of x) g.t) (sym n.mark) (g.copy word.disposition n.is_given) in
    let copies = CopyRight-copies task o k word.disposition word.name s (mark_of c.mark) g.t at.moving copy in
    let w2 = after w task word.name at.space c.given n.copied in
    let changes : CopiesRight w task c.given word.name c.mark w2 = record { space = at.space; there = at.there; entry = n.entry; found = found; copied = n.copied; is = n.is; mark_is = n.mark; rest = refl } in
    record {
      w2 = w2;
      t = g.t;
      along = record {
        agrees = g.agrees;
        moving = copies.keeps;
        space = record at.space { names = put at.space.names word.name n.copied.left };
        there = space-set_same w.spaces task (record at.space { names = put at.space.names word.name n.copied.left }) at.space at.there;
        names_are = ap (λ (m : Names). put m word.name n.copied.left) at.names_are ∙ sym n.left;
        requested = copied_requested w w2 task c.given word.name c.mark changes at.requested;
      };
      copy = copy;
      changes = changes;
      rest = copies.rest;
      total = ledger_total c.given n.copied.mark w.ledger ∙ ap (λ (m : Mark). w.ledger.total + made_by_mark c.given m) (sym n.mark);
    }

-- ---- one word

pub record Stepped (w : WorldView) (s : State) (o k task : ℕ) (word : PortWord) (c : Carried) (left : Names) : Type 0 where
  pub w2 : WorldView
  pub t : State
  pub along : Along w2 t o k task left
  pub given : disposition word.disposition ≡ Some c.given
  pub copy : CopyWord task (in_message o k) word.disposition word.name s (mark_of c.mark) t
  pub changes : ChangesWord w task word c w2
  pub rest : t ≡ shape s t
  pub total : w2.ledger.total ≡ w.ledger.total + made_by c

module _ (w : WorldView) (s : State) (o k task : ℕ) (names : Names) (word : PortWord) (c : Carried) (left : Names) (at : Along w s o k task names) where
  record Go (b1 b2 : Bool) : Type 0 where
    pub w2 : WorldView
    pub t : State
    pub along : Along w2 t o k task left
    pub given : disposition word.disposition ≡ Some c.given
    pub copy : MatchBool b1 ((mark_of c.mark ≡ null) × (t ≡ s)) (MatchBool b2 ((mark_of c.mark ≡ dead) × (t ≡ s)) (CopyRight task (in_message o k) word.disposition word.name s (mark_of c.mark) t))
    pub changes : MatchBool b1 (w2 ≡ w) (MatchBool b2 (w2 ≡ w) (CopiesRight w task c.given word.name c.mark w2))
    pub rest : t ≡ shape s t
    pub total : w2.ledger.total ≡ w.ledger.total + made_by c

  stays_stepping : left ≡ names → Along w s o k task left
  stays_stepping e = record { agrees = at.agrees; moving = at.moving; space = at.space; there = at.there; names_are = at.names_are ∙ sym e; requested = at.requested }

  nothing : made_by c ≡ 0 → w.ledger.total ≡ w.ledger.total + made_by c
  nothing e = omega (arith, e)

  go : (b1 b2 : Bool) → MatchBool b1 (PassesAs word mark.Null names c left) (MatchBool b2 (PassesAs word mark.Dead names c left) (CopiesName names word c left)) → Go b1 b2
  go true b2 h = record { w2 = w; t = s; along = stays_stepping h.2; given = h.0; copy = (ap mark_of h.1, refl); changes = refl; rest = refl; total = nothing (ap (made_by_mark c.given) h.1 ∙ none_by_null c.given) }
  go false true h = record { w2 = w; t = s; along = stays_stepping h.2; given = h.0; copy = (ap mark_of h.1, refl); changes = refl; rest = refl; total = nothing (ap (made_by_mark c.given) h.1 ∙ none_by_dead c.given) }
  go false false h = let x = went w s o k task names word c left at h in record { w2 = x.w2; t = x.t; along = x.along; given = h.is_given; copy = x.copy; changes = x.changes; rest = x.rest; total = x.total }

  pub stepped : CopiesWord names word c left → Stepped w s o k task word c left
  stepped h = let x = go (word.name == null_word) (word.name == dead_word) h in
      record { w2 = x.w2; t = x.t; along = x.along; given = x.given; copy = x.copy; changes = x.changes; rest = x.rest; total = x.total }

-- ---- what the tables do is determined

right_once : (w : WorldView) (task : ℕ) (d : Disposition) (name : ℕ) (m : _) (a b : WorldView) → CopiesRight w task d name m a → CopiesRight w task d name m b → a ≡ b
right_once w task d name m a b x y = grind (arith, after)

word_once : (w : WorldView) (task : ℕ) (word : PortWord) (c : Carried) (a b : WorldView) → ChangesWord w task word c a → ChangesWord w task word c b → a ≡ b
word_once w task word c a b = grind (arith, right_once)

pub words_once : (w : WorldView) (task : ℕ) (ws : List PortWord) (cs : List Carried) (a b : WorldView) → ChangesWords w task ws cs a → ChangesWords w task ws cs b → a ≡ b
words_once w task [] [] a b x y = x ∙ sym y
words_once w task (v ∷ ws) (c ∷ cs) a b x y =
    let same = word_once w task v c x.0 y.0 x.1 y.1 in
    words_once y.0 task ws cs a b (subst (λ (m : WorldView). ChangesWords m task ws cs a) same x.2) y.2
words_once w task [] (c ∷ cs) a b x y = absurd x
words_once w task (v ∷ ws) [] a b x y = absurd x

-- ---- The words of a body copied in, one after the other, and the body that their rights make.

-- words and rights as the machine has them
abbrev pub pairs : List PortWord → List (ℕ × ℕ)
pairs ws = list_map (λ w. (w.disposition, w.name)) ws

abbrev pub dispositions : List PortWord → List ℕ
dispositions ws = list_map (λ w. w.disposition) ws

-- ---- word by word

pub record Part (w : WorldView) (s : State) (o k task : ℕ) (ws : List PortWord) (cs : List Carried) (left : Names) : Type 0 where
  pub w2 : WorldView
  pub t : State
  pub along : Along w2 t o k task left
  pub copy : Through (CopyCarried task (in_message o k)) s (pairs ws) (rights_of cs) t
  pub changes : ChangesWords w task ws cs w2
  pub rest : t ≡ shape s t
  pub given : numbers cs ≡ dispositions ws
  pub total : w2.ledger.total ≡ w.ledger.total + made_by_all cs

pub part : (w : WorldView) (s : State) (o k task : ℕ) (names : Names) (ws : List PortWord) (cs : List Carried) (left : Names) → Along w s o k task names → CopiesBody names ws cs left →
    Part w s o k task ws cs left
part w s o k task names [] [] left at b =
    record { w2 = w; t = s; along = record { agrees = at.agrees; moving = at.moving; space = at.space; there = at.there; names_are = at.names_are ∙ sym b; requested = at.requested }; copy = refl; changes = refl; rest = shape-same s s refl; given = refl; total = omega arith }
part w s o k task names [] (c ∷ cs) left at b = absurd b
part w s o k task names (v ∷ ws) [] left at b = absurd b
part w s o k task names (v ∷ ws) (c ∷ cs) left at b =
    let x = stepped w s o k task names v c b.0 at b.1 in
    let y = part x.w2 x.t o k task b.0 ws cs left x.along b.2 in
    record {
      w2 = y.w2;
      t = y.t;
      along = y.along;
      copy = (x.t, x.copy, y.copy);
      changes = (x.w2, x.changes, y.changes);
      rest = shape-trans s x.t y.t x.rest y.rest;
      given = ap (λ (n : ℕ). n ∷ numbers cs) (number_of v.disposition c.given x.given) ∙ ap (λ (ns : List ℕ). v.disposition ∷ ns) y.given;
      total = omega (arith, x.total, y.total);
    }

-- ---- the words are those of the machine

named_pairs : (n : ℕ) (words : List ℕ) → pairs (named n words) ≡ list_map (λ (w : ℕ). (n, w)) words
named_pairs n [] = refl
named_pairs n (w ∷ ws) = ap (λ (ps : List (ℕ × ℕ)). (n, w) ∷ ps) (named_pairs n ws)

items_pairs : (xs : List Wire) → pairs (items_words xs) ≡ flat_map wire_words xs
items_pairs [] = refl
items_pairs (data_item f n z c bytes padding ∷ xs) = items_pairs xs
items_pairs (port_item f n words ∷ xs) = grind (arith, items_pairs xs, map-append, named_pairs)

pub body_pairs : (written : WireBody) → pairs (body_words written) ≡ machine_words written
body_pairs (WireBody.raw bytes) = refl
body_pairs (WireBody.items xs) = items_pairs xs

named_numbers : (n : ℕ) (words : List ℕ) → dispositions (named n words) ≡ replicate (length words) n
named_numbers n [] = refl
named_numbers n (w ∷ ws) = ap (λ (ns : List ℕ). n ∷ ns) (named_numbers n ws)

items_numbers : (xs : List Wire) → dispositions (items_words xs) ≡ items_given xs
items_numbers [] = refl
items_numbers (data_item f n z c bytes padding ∷ xs) = items_numbers xs
items_numbers (port_item f n words ∷ xs) = grind (arith, items_numbers xs, map-append, named_numbers)

-- ---- and so are the rights

same_items : (xs : List Wire) (cs : List Carried) → All IsWire xs → numbers cs ≡ items_given xs → AllZip (SameItem IsSent) xs (items_of xs cs)
same_items [] cs are e = tt
same_items (data_item f n z c bytes padding ∷ xs) cs are e = (refl, same_items xs cs (All-tail IsWire (data_item f n z c bytes padding) xs are) e)
same_items (port_item f n words ∷ xs) cs are e =
    let x = item_kept n (length words) cs (items_given xs) e in
    let d = given_ports n (All-head IsWire (port_item f n words) xs are).1 in
    ((refl, (d.0, d.1, kind_given n d.0 d.1), x.many), same_items xs (drop (length words) cs) (All-tail IsWire (port_item f n words) xs are) x.left)

-- ---- the whole body

pub record WholeBody (w : WorldView) (s : State) (o k task : ℕ) (written : WireBody) (cs : List Carried) (left : Names) : Type 0 where
  pub w2 : WorldView
  pub t : State
  pub along : Along w2 t o k task left
  pub copy : CopyBody task (in_message o k) written s (body_of written cs) t
  pub changes : ChangesWords w task (body_words written) cs w2
  pub rest : t ≡ shape s t
  pub given : numbers cs ≡ body_given written
  pub total : w2.ledger.total ≡ w.ledger.total + made_by_all cs

pub whole_body : (w : WorldView) (s : State) (o k task : ℕ) (names : Names) (written : WireBody) (cs : List Carried) (left : Names) → Along w s o k task names → IsWireBody written →
    CopiesBody names (body_words written) cs left → WholeBody w s o k task written cs left
whole_body w s o k task names (WireBody.raw bytes) [] left at fits b =
    let x = part w s o k task names [] [] left at b in
    record { w2 = x.w2; t = x.t; along = x.along; copy = (refl, x.copy); changes = x.changes; rest = x.rest; given = refl; total = x.total }
whole_body w s o k task names (WireBody.raw bytes) (c ∷ cs) left at fits b = absurd b
whole_body w s o k task names (WireBody.items xs) cs left at fits b =
    let x = part w s o k task names (items_words xs) cs left at b in
    let given : numbers cs ≡ items_given xs = x.given ∙ items_numbers xs in
    let words : Through (CopyCarried task (in_message o k)) s (flat_map wire_words xs) (rights_of cs) x.t =
    subst (λ (ps : List (ℕ × ℕ)). Through (CopyCarried task (in_message o k)) s ps (rights_of cs) x.t) (items_pairs xs) x.copy in
    record {
      w2 = x.w2;
      t = x.t;
      along = x.along;
      copy = (same_items xs cs fits given, subst (λ (rs : List (Kind × MachineMark)). Through (CopyCarried task (in_message o k)) s (flat_map wire_words xs) rs x.t) (sym (body_kept (WireBody.items xs) cs given)) words);
      changes = x.changes;
      rest = x.rest;
      given = given;
      total = x.total;
    }

-- ---- Copying in takes no send right from a port: one that moves lies in the message. So no port loses its last one, and what is noted stays.

-- ---- counts

sends_copied : (d : Disposition) (m : Mark) (l : LedgerView) → KeepsSends l (ledger_copied d m l)
sends_copied MoveReceive m l = λ q none. none
sends_copied MoveSend m l = λ q none. none
sends_copied MoveSendOnce m l = λ q none. none
sends_copied CopySend (mark.Port p) l = sends_made l p right.Send 1
sends_copied CopySend mark.Null l = λ q none. none
sends_copied CopySend mark.Dead l = λ q none. none
sends_copied MakeSend (mark.Port p) l = sends_made l p right.Send 1
sends_copied MakeSend mark.Null l = λ q none. none
sends_copied MakeSend mark.Dead l = λ q none. none
sends_copied MakeSendOnce (mark.Port p) l = sends_made l p right.SendOnce 1
sends_copied MakeSendOnce mark.Null l = λ q none. none
sends_copied MakeSendOnce mark.Dead l = λ q none. none

sends_queued : (by_once : Bool) (p : ℕ) (l : LedgerView) → KeepsSends l (ledger_queued by_once p l)
sends_queued true p l = sends_shifted l p
sends_queued false p l = λ q none. none

-- ---- in the tables

same_asked : (v : RequestTablesView) (task name : ℕ) (left : Option Entry) → (requests_after v task name left).no_senders ≡ v.no_senders
same_asked v task name (Some e) = refl
same_asked v task name None = refl

module _ (old new : WorldView) (task : ℕ) (d : Disposition) (name : ℕ) (one : Mark) (c : CopiesRight old task d name one new) where
  ports_are : new.ports ≡ ports_copied d c.copied.mark old.ports
  ports_are = ap (λ (w : WorldView). w.ports) c.rest

  else_stays : ports_copied d c.copied.mark old.ports ≡ record old.ports { ports = (ports_copied d c.copied.mark old.ports).ports; ready = (ports_copied d c.copied.mark old.ports).ready }
  else_stays = else_copied d c.copied.mark old.ports

  pub copied_senders : RequestsStand old → KeepsSenders old new
  copied_senders requested = keeps_senders old new requested
      (ap (λ (w : WorldView). w.requests.no_senders) c.rest ∙ same_asked old.requests task name c.copied.left)
      (subst (λ (w : WorldView). KeepsSends old.ledger w.ledger) (sym c.rest) (sends_copied d c.copied.mark old.ledger))
      (ap (λ (x : PortsView Kept). x.noted) (ports_are ∙ else_stays))

  pub copied_none_lost : NoneLost old → NoneLost new
  copied_none_lost none = none_lost_by old new none
      (ap (λ (x : PortsView Kept). x.lost) (ports_are ∙ else_stays))
      (ap (λ (x : PortsView Kept). x.doomed) (ports_are ∙ else_stays))
      (ap (λ (x : PortsView Kept). x.destroyed) (ports_are ∙ else_stays))

-- Requests stand, so that a port with one that is senderless now was so before.
record Sends (old new : WorldView) : Type 0 where
  requested : RequestsStand new
  keeps : KeepsSenders old new

abbrev SendStill : WorldView → WorldView → Type 0
SendStill old new = RequestsStand old → Sends old new

senders_stay : IsKept SendStill
senders_stay = record {
  same = λ w requested. record { requested = requested; keeps = keeps_senders_refl w };
  right = λ old new task d name one c requested. record { requested = copied_requested old new task d name one c requested; keeps = copied_senders old new task d name one c requested };
  both = λ old mid new a b requested.
      let x = a requested in
      let y = b x.requested in
      record { requested = y.requested; keeps = keeps_senders_trans old mid new x.keeps y.keeps };
}

abbrev LoseStill : WorldView → WorldView → Type 0
LoseStill old new = NoneLost old → NoneLost new

none_lost_stays : IsKept LoseStill
none_lost_stays = record {
  same = λ w none. none;
  right = copied_none_lost;
  both = λ old mid new a b none. b (a none);
}

pub words_none_lost : (ws : List PortWord) (cs : List Carried) (old new : WorldView) (task : ℕ) → ChangesWords old task ws cs new → NoneLost old → NoneLost new
words_none_lost = over_words LoseStill none_lost_stays

-- ---- a message that was sent

module _ (old : WorldView) (task : ℕ) (parsed : Parsed) (written : WireBody) (j : Judged old task parsed written) (bytes : List ℕ) (new : WorldView)
    (c : Commits old task parsed written j bytes new) where
  pub commits_keep_senders : RequestsStand old → KeepsSenders old new
  commits_keep_senders requested =
      let went = over_words SendStill senders_stay (destination_word parsed ∷ reply_words parsed ++ body_words written) (j.destination ∷ option_list j.reply ++ j.rights) old c.mid task c.changes requested in
      let ledger = held_ledger j.port j.rights c.mid c.held c.holds in
      keeps_senders_trans old c.mid new went.keeps
      (keeps_senders c.mid new went.requested
      (ap (λ (w : WorldView). w.requests.no_senders) c.rest ∙ ap (λ (x : RequestTablesView). x.no_senders) (held_requests j.port j.rights c.mid c.held c.holds))
      (subst (λ (w : WorldView). KeepsSends c.mid.ledger w.ledger) (sym c.rest)
      (subst (λ (l : LedgerView). KeepsSends c.mid.ledger (ledger_queued (same_kind (kind_sent j.destination.given) send_once) j.port l)) (sym ledger)
      (sends_queued (same_kind (kind_sent j.destination.given) send_once) j.port c.mid.ledger)))
      (ap (λ (w : WorldView). w.ports.noted) c.rest ∙ held_noted j.port j.rights c.mid c.held c.holds))

  -- where nothing was noted, nothing is to be
  pub commits_senders : RequestsStand old → old.ports.noted ≡ [] → NotesSenders old new
  commits_senders requested none = senders_kept old old new (senders_same old none) (commits_keep_senders requested)

  pub commits_none_lost : NoneLost old → NoneLost new
  commits_none_lost none =
      let went = words_none_lost (destination_word parsed ∷ reply_words parsed ++ body_words written) (j.destination ∷ option_list j.reply ++ j.rights) old c.mid task c.changes none in
      none_lost_by c.held new (held_none_lost j.port j.rights c.mid c.held c.holds went) (ap (λ (w : WorldView). w.ports.lost) c.rest) (ap (λ (w : WorldView). w.ports.doomed) c.rest) (ap (λ (w : WorldView). w.ports.destroyed) c.rest)

-- ---- what is left of a right

-- what is left is for the port of what stood there
pub left_lives : (w : WorldView) (d : Disposition) (e : Entry) (k : Copied) → copied_from d e ≡ Some k → IsForLive w e → IfSome k.left (λ left. IsForLive w left)
left_lives w d e k is lives = go k.left (keeps d e k is).held
  where
    go : (o : Option Entry) → IfSome o (λ left. (p : ℕ) → port_of left ≡ Some p → port_of e ≡ Some p) → IfSome o (λ left. IsForLive w left)
    go (Some left) held = λ p for. lives p (held p for)
    go None held = tt
