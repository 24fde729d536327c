-- What refuses a send, whatever the order of the tokens.
use Rattle.std.proofs.Common.{◌≡◌, ℕ, List, [], ◌∷◌, Option, Some, None, refl, sym, ap, subst, ◌∙◌, arith, true, false, Bool, ◌≢◌, ◌<◌, ◌⊎◌, inl, inr, length, suc, ◌/◌, ◌%◌, ◌^◌, ◌++◌, drop, append_assoc, All}
use Rattle.std.specs.Prelude.{if◌then◌else◌, ◌==◌, nat_lt, MatchBool, ◌&&◌}
use Rattle.std.proofs.lemmas.Bool.Decides.{eqb_tells}
use Rattle.mach_types.specs.declared.rights.Disposition.{Disposition}
use Rattle.mach_types.specs.declared.rights.Disposition.TheVariants.{MoveReceive, MoveSend, MoveSendOnce, CopySend, MakeSend, MakeSendOnce}
use Rattle.mach_types.specs.Numbers.{disposition, kind_sent}
use Rattle.mach_types.specs.Codes.{kern_number, msg_number}
use Rattle.mach_types.specs.Tokens.{Kind, receive, send, Place, Token, count, is_held, Moves, in_message, is_of, send_once}
use Rattle.mach_types.specs.Messages.{Mark, ReplyRight, absent, present, Body, to_port, Message, Form, short, long}
use Rattle.mach_types.specs.Grammar.{WireBody, Header, word, words_text, descriptor_text, Wire, data_item, port_item, wire_text, wires_text, body_text, bits, FitsForm, NamesPorts, IsWire, IsWireBody, IsHeader, Spells}
use Rattle.mach_types.specs.Bodies.{body_words, body_rights, AllZip, Through, OneFails}
use Rattle.mach_types.specs.declared.codes.KernReturn.TheVariants.{ResourceShortage}
use Rattle.mach_types.specs.declared.codes.MsgReturn.TheVariants.{SendInvalidReply, SendInvalidRight}
use Rattle.mach_types.specs.Guards.{Guards, FirstIs, NoneHolds}
use Rattle.mach_types.specs.TextGuards.{word_at, DescriptorFields, IsDescriptorLength, ItemRefuses, ItemsRefuse}
use Rattle.mach_types.specs.declared.calls.Event.{Event}
use Rattle.mach_types.specs.declared.calls.Reply.{Reply}
use Rattle.mach_model.specs.State.{State, Target, lookup, at, with_name, without_name}
use Rattle.mach_model.specs.SentMeans.{IsSent, target_mark}
use Rattle.mach_model.specs.CopyIn.{IsLegal, taken_by, put_by, name_kept, changed_by, CopyRight, CopyWord, CopyReply, CopyCarried, CopyBody}
use Rattle.mach_model.proofs.Settling.{IsReordered}
use Rattle.mach_model.proofs.Walks.{SameBody-each}
use Rattle.mach_model.specs.Death.{same_place}
use Rattle.mach_model.specs.SendRefusals.{there, here, Reaches, ClosesLoop, sent_guards, IsBadWord, IsRefused, DestinationRefuses, ReplyRefuses, BodyRefuses, WholeRefuses, RightsRefuse}
use Rattle.mach_model.specs.TransferRefusals.{CopyRefuses, extracted_guards, inserted_guards}
use Rattle.mach_model.specs.Send.{place_at, Copied}
use Rattle.mach_model.specs.NameGuards.{IsLegalName}
use Rattle.mach_model.proofs.Names.{length-weigh}
use Rattle.mach_model.specs.Refusals.{Refuses}
use Rattle.mach_model.specs.Machine.{Step}
use Rattle.mach_laws.proofs.Bodies.{one_body, append_split}
use Rattle.mach_laws.proofs.Meanings.{either}
use Rattle.type_descriptor.specs.Describes.{form_length}
use Rattle.type_descriptor.proofs.ByteWords.{word_at-word}
use Rattle.message_codec.proofs.Fronts.{front_of, length-descriptor_text}
use Rattle.message_codec.proofs.Shapes.{All-head, All-tail, not_refused, rest_same}

-- ---- Copying in from states that differ only in the order of their tokens: the same marks, and states that again differ only so.

-- ---- states that differ only in the order of their tokens

pub same_state : (s : State) → IsReordered s s
same_state s = record { rest = refl; tokens = λ h. refl }

pub same_after : (s t new other : State) → IsReordered s t → new ≡ s → other ≡ t → IsReordered new other
same_after s t new other r e f = rw (e, f) r

pub same_count : (s t : State) → IsReordered s t → (test : Token → Bool) → count test t.ledger ≡ count test s.ledger
same_count s t r test = let m = r.tokens (λ x. if test x then 1 else 0) in omega (arith, m)

pub same_lookup : (s t : State) → IsReordered s t → (task name : ℕ) → lookup t task name ≡ lookup s task name
same_lookup s t r task name = ap (λ (x : State). lookup x task name) r.rest

-- no disposition is numbered 0
no_disposition : (number : ℕ) (d : Disposition) → number ≡ 0 → disposition number ≡ Some d → ⊥
no_disposition number d zero is = let e : None ≡ Some d = sym (ap disposition zero) ∙ is in cc

-- ---- one right

kept_alike : (b : Bool) (task name : ℕ) (s : State) (first second : List Token) →
    ◌≡◌ {A = State} (record (name_kept b task name (record s { ledger = first })) { ledger = second }) (record (name_kept b task name s) { ledger = second })
kept_alike true task name s first second = refl
kept_alike false task name s first second = refl

fewer_alike : (b : Bool) (task name n : ℕ) (s : State) (first second : List Token) →
    ◌≡◌ {A = State} (record (if b then with_name task name (Target.dead n) (record s { ledger = first }) else without_name task name (record s { ledger = first })) { ledger = second })
    (record (if b then with_name task name (Target.dead n) s else without_name task name s) { ledger = second })
fewer_alike true task name n s first second = refl
fewer_alike false task name n s first second = refl

receive_alike : (b : Bool) (task name p : ℕ) (s : State) (first second : List Token) →
    ◌≡◌ {A = State}
    (record (name_kept b task name (record s { ledger = first })) { sets_of = at s.sets_of p []; make_send = at s.make_send p 0; sequence = at s.sequence p 0; ledger = second })
    (record (name_kept b task name s) { sets_of = at s.sets_of p []; make_send = at s.make_send p 0; sequence = at s.sequence p 0; ledger = second })
receive_alike true task name p s first second = refl
receive_alike false task name p s first second = refl

changed_alike : (d : Disposition) (target : Target) (task name : ℕ) (s : State) (first second : List Token) → ((test : Token → Bool) → count test first ≡ count test s.ledger) →
    ◌≡◌ {A = State} (record (changed_by d target task name (record s { ledger = first })) { ledger = second }) (record (changed_by d target task name s) { ledger = second })
changed_alike MoveReceive (Target.port p) task name s first second same = grind (arith, receive_alike)
changed_alike MoveSend (Target.port p) task name s first second same = grind (arith, kept_alike)
changed_alike MoveSend (Target.dead n) task name s first second same = fewer_alike (nat_lt 1 n) task name _ s first second
changed_alike MoveSendOnce (Target.dead n) task name s first second same = fewer_alike (nat_lt 1 n) task name _ s first second
changed_alike MakeSend (Target.port p) task name s first second same = refl
changed_alike MoveSendOnce (Target.once p) task name s first second same = refl
changed_alike d target task name s first second same = refl

-- what the task may hand on is the same
pub legal_alike : (s t : State) → IsReordered s t → (task : ℕ) (d : Disposition) (target : Target) → IsLegal s task d target → IsLegal t task d target
legal_alike s t r task MoveReceive (Target.port p) h = omega (arith, h, same_count s t r (is_held task receive p))
legal_alike s t r task MoveSend (Target.port p) h = omega (arith, h, same_count s t r (is_held task send p))
legal_alike s t r task CopySend (Target.port p) h = omega (arith, h, same_count s t r (is_held task send p))
legal_alike s t r task MakeSend (Target.port p) h = omega (arith, h, same_count s t r (is_held task receive p))
legal_alike s t r task MakeSendOnce (Target.port p) h = omega (arith, h, same_count s t r (is_held task receive p))
legal_alike s t r task MoveSendOnce (Target.once p) h = h
legal_alike s t r task MoveSend (Target.dead n) h = h
legal_alike s t r task MoveSendOnce (Target.dead n) h = h
legal_alike s t r task CopySend (Target.dead n) h = h
legal_alike s t r task d target h = absurd h

-- What one right does is determined, but for the order of the tokens.
after_alike : (d : Disposition) (target : Target) (task name : ℕ) (place : Place) (s s' t t' : State) → IsReordered s t →
    s' ≡ record (changed_by d target task name s) { ledger = s'.ledger } → Moves s.ledger s'.ledger (taken_by d target task) (put_by d target place) →
    t' ≡ record (changed_by d target task name t) { ledger = t'.ledger } → Moves t.ledger t'.ledger (taken_by d target task) (put_by d target place) → IsReordered s' t'
after_alike d target task name place s s' t t' r e m f n = grind (arith, changed_alike, same_count)

pub one_target : (o p : Option Target) (a b : Target) → o ≡ Some a → p ≡ Some b → p ≡ o → b ≡ a
one_target o p a b e f g = cc

pub one_disposition : (number : ℕ) (a b : Disposition) → disposition number ≡ Some a → disposition number ≡ Some b → b ≡ a
one_disposition number a b e f = cc

one_mark : (o p : Option Mark) (a b : Mark) → o ≡ Some a → p ≡ Some b → p ≡ o → b ≡ a
one_mark o p a b e f g = cc

-- Two readings of a right from such states, wherever it goes.
pub record SameRight {task number name : ℕ} {place elsewhere : Place} {s t s' t' : State} {mark other : Mark}
    (a : CopyRight task place number name s mark s') (b : CopyRight task elsewhere number name t other t') : Type 0 where
  pub given : b.given ≡ a.given
  pub target : b.target ≡ a.target
  pub mark_is : other ≡ mark

pub right_same : (task number name : ℕ) (place elsewhere : Place) (s t s' t' : State) (mark other : Mark) → IsReordered s t →
    (a : CopyRight task place number name s mark s') (b : CopyRight task elsewhere number name t other t') → SameRight a b
right_same task number name place elsewhere s t s' t' mark other r a b = grind (arith, one_disposition, one_target, same_lookup, one_mark)

pub right_alike : (task number name : ℕ) (place : Place) (s t s' t' : State) (mark other : Mark) → IsReordered s t →
    CopyRight task place number name s mark s' → CopyRight task place number name t other t' → (other ≡ mark) × IsReordered s' t'
right_alike task number name place s t s' t' mark other r a b = grind (arith, right_same, after_alike)

-- ---- words

-- one of two cases, told by a test, on both sides
pub both : (b : Bool) (P Q P' Q' Z : Type 0) → (P → P' → Z) → (Q → Q' → Z) → MatchBool b P Q → MatchBool b P' Q' → Z
both true P Q P' Q' Z f g x y = f x y
both false P Q P' Q' Z f g x y = g x y

pub word_alike : (task number word : ℕ) (place : Place) (s t s' t' : State) (mark other : Mark) → IsReordered s t →
    CopyWord task place number word s mark s' → CopyWord task place number word t other t' → (other ≡ mark) × IsReordered s' t'
word_alike task number word place s t s' t' mark other r a b = grind (arith, both, same_after, right_alike)

same_sent : (number : ℕ) (k l : Kind) → IsSent number k → IsSent number l → k ≡ l
same_sent number k l a b = a.2 ∙ ap kind_sent (one_disposition number b.0 a.0 b.1 a.1) ∙ sym b.2

pub reply_alike : (task number word : ℕ) (place : Place) (s t s' t' : State) (reply other : ReplyRight) → IsReordered s t →
    CopyReply task place number word s reply s' → CopyReply task place number word t other t' → (other ≡ reply) × IsReordered s' t'
reply_alike task number word place s t s' t' absent absent r a b = (refl, same_after s t s' t' r a.2 b.2)
reply_alike task number word place s t s' t' (present k m) (present l n) r a b = grind (arith, word_alike, same_sent)
reply_alike task number word place s t s' t' absent (present k m) r a b = absurd (no_disposition number b.0.0 a.0 b.0.1)
reply_alike task number word place s t s' t' (present k m) absent r a b = absurd (no_disposition number a.0.0 b.0 a.0.1)

abbrev pair : Kind → Mark → Kind × Mark
pair kind mark = (kind, mark)

carried_alike : (task : ℕ) (place : Place) (ws : List (ℕ × ℕ)) (s t s' t' : State) (rs qs : List (Kind × Mark)) → IsReordered s t →
    AllZip (λ (w : ℕ × ℕ) (r : Kind × Mark). IsSent w.0 r.0) ws rs → AllZip (λ (w : ℕ × ℕ) (r : Kind × Mark). IsSent w.0 r.0) ws qs →
    Through (CopyCarried task place) s ws rs s' → Through (CopyCarried task place) t ws qs t' → (qs ≡ rs) × IsReordered s' t'
carried_alike task place [] s t s' t' [] [] r x y a b = (refl, same_after s t s' t' r a b)
carried_alike task place (w ∷ ws) s t s' t' (m ∷ ms) (n ∷ ns) r x y a b =
    let is_here = word_alike task w.0 w.1 place s t a.0 b.0 m.1 n.1 r a.1 b.1 in
    let rest = carried_alike task place ws a.0 b.0 s' t' ms ns is_here.1 x.1 y.1 a.2 b.2 in
    let kind : n.0 ≡ m.0 = same_sent w.0 n.0 m.0 y.0 x.0 in
    (ap (λ (z : Kind). pair z n.1 ∷ ns) kind ∙ ap (λ (z : Mark). pair m.0 z ∷ ns) is_here.0 ∙ ap (λ (zs : List (Kind × Mark)). m ∷ zs) rest.0, rest.1)
carried_alike task place [] s t s' t' (m ∷ ms) ns r x y a b = absurd a
carried_alike task place [] s t s' t' [] (n ∷ ns) r x y a b = absurd b
carried_alike task place (w ∷ ws) s t s' t' [] ns r x y a b = absurd a
carried_alike task place (w ∷ ws) s t s' t' (m ∷ ms) [] r x y a b = absurd b

pub body_alike : (task : ℕ) (place : Place) (w : WireBody) (s t s' t' : State) (body other : Body) → IsReordered s t →
    CopyBody task place w s body s' → CopyBody task place w t other t' → (other ≡ body) × IsReordered s' t'
body_alike task place w s t s' t' body other r a b =
    let x = carried_alike task place (body_words w) s t s' t' (body_rights body) (body_rights other) r (SameBody-each IsSent w body a.0) (SameBody-each IsSent w other b.0) a.1 b.1 in
    (one_body IsSent same_sent w other body b.0 a.0 x.0, x.1)

-- ---- What refuses rights that are copied in doesn't let them be copied in, whatever the order of the tokens.

-- ---- guards

-- The guards hold alike, one by one, and have the same codes.
abbrev pub SameGuards : Guards → Guards → Type 0
SameGuards [] [] = Unit {0}
SameGuards (g ∷ gs) (h ∷ hs) = (g.0 → h.0) × (h.0 → g.0) × (h.1 ≡ g.1) × SameGuards gs hs
SameGuards [] (h ∷ hs) = ⊥
SameGuards (g ∷ gs) [] = ⊥

pub itself : (gs : Guards) → SameGuards gs gs
itself [] = tt
itself (g ∷ gs) = ((λ x. x), (λ x. x), refl, itself gs)

pub none_is_first : (gs hs : Guards) (code : ℕ) → SameGuards gs hs → FirstIs gs code → NoneHolds hs → ⊥
none_is_first [] [] code same first none = first
none_is_first (g ∷ gs) (h ∷ hs) code same (inl x) none = none.0 (same.0 x.0)
none_is_first (g ∷ gs) (h ∷ hs) code same (inr x) none = none_is_first gs hs code same.3 x.1 none.1
none_is_first [] (h ∷ hs) code same first none = same
none_is_first (g ∷ gs) [] code same first none = same

pub one_first : (gs hs : Guards) (code other : ℕ) → SameGuards gs hs → FirstIs gs code → FirstIs hs other → code ≡ other
one_first [] [] code other same first second = absurd first
one_first (g ∷ gs) (h ∷ hs) code other same (inl x) (inl y) = x.1 ∙ sym same.2 ∙ sym y.1
one_first (g ∷ gs) (h ∷ hs) code other same (inl x) (inr y) = absurd (y.0 (same.0 x.0))
one_first (g ∷ gs) (h ∷ hs) code other same (inr x) (inl y) = absurd (x.0 (same.1 y.0))
one_first (g ∷ gs) (h ∷ hs) code other same (inr x) (inr y) = one_first gs hs code other same.3 x.1 y.1
one_first [] (h ∷ hs) code other same first second = absurd same
one_first (g ∷ gs) [] code other same first second = absurd same

-- ---- guards on states that differ only in the order of their tokens

length_same : (s t : State) → IsReordered s t → length t.ledger ≡ length s.ledger
length_same s t r = let m = r.tokens (λ x. 1) in omega (arith, m, length-weigh s.ledger, length-weigh t.ledger)

full_same : (s t : State) (X : Type 0) (n : ℕ) → IsReordered s t → X ⊎ (n < length s.ledger) → X ⊎ (n < length t.ledger)
full_same s t X n r (inl x) = inl x
full_same s t X n r (inr x) = inr (omega (arith, x, length_same s t r))

full_back : (s t : State) (X : Type 0) (n : ℕ) → IsReordered s t → X ⊎ (n < length t.ledger) → X ⊎ (n < length s.ledger)
full_back s t X n r (inl x) = inl x
full_back s t X n r (inr x) = inr (omega (arith, x, length_same s t r))

-- the state with its tokens as they are in the other
abbrev as_in : State → State → State
as_in s t = record s { ledger = t.ledger }

as_it_is : (s t : State) → IsReordered s t → IsReordered s (as_in s t)
as_it_is s t r = record { rest = refl; tokens = r.tokens }

pub inserted_same : (s t : State) → IsReordered s t → (task name p : ℕ) (kind : Kind) → SameGuards (inserted_guards s task name p kind) (inserted_guards t task name p kind)
inserted_same s t r task name p kind =
    let held = same_count s t r (is_held task send p) in
    let o = as_it_is s t r in
    subst (λ (x : State). SameGuards (inserted_guards s task name p kind) (inserted_guards x task name p kind)) (sym r.rest) (
      (λ g. g),
      (λ g. g),
      refl,
      ((λ g. g), (λ g. g), refl, ((λ g. omega (arith, g, held)), (λ g. omega (arith, g, held)), refl, (full_same s (as_in s t) _ _ o, full_back s (as_in s t) _ _ o, refl, tt))),
    )

pub extracted_same : (s t : State) → IsReordered s t → (task p : ℕ) (kind : Kind) → SameGuards (extracted_guards s task p kind) (extracted_guards t task p kind)
extracted_same s t r task p kind =
    let o = as_it_is s t r in
    subst (λ (x : State). SameGuards (extracted_guards s task p kind) (extracted_guards x task p kind)) (sym r.rest) (full_same s (as_in s t) _ _ o, full_back s (as_in s t) _ _ o, refl, tt)

reaches_same : (s t : State) → IsReordered s t → (p q : ℕ) → Reaches s p q → Reaches t p q
reaches_same s t r a b (here p) = here p
reaches_same s t r a b (there p q c at rest) =
    there p q c (at.0, (let h = at.1 in omega (arith, h, same_count s t r (λ x. is_of receive p x && same_place (in_message q at.0) x.place)))) (reaches_same s t r q c rest)

closes_same : (s t : State) → IsReordered s t → (destination : ℕ) (place : Place) → ClosesLoop s destination place → ClosesLoop t destination place
closes_same s t r destination place c = grind (arith, same_count, reaches_same)

reordered_back : (s t : State) → IsReordered s t → IsReordered t s
reordered_back s t r = record { rest = sym (ap (λ (x : State). record x { ledger = s.ledger }) r.rest); tokens = λ h. let m = r.tokens h in omega (arith, m) }

sent_same : (s t : State) → IsReordered s t → (m : Message) (place : Place) → SameGuards (sent_guards m place s) (sent_guards m place t)
sent_same s t r m place =
    let o = as_it_is s t r in
    let len = length_same s (as_in s t) o in
    subst (λ (x : State). SameGuards (sent_guards m place s) (sent_guards m place x)) (sym r.rest) (
      closes_same s (as_in s t) o m.destination place,
      closes_same (as_in s t) s (reordered_back s (as_in s t) o) m.destination place,
      refl,
      ((λ g. g), (λ g. g), refl, ((λ g. omega (arith, g, len)), (λ g. omega (arith, g, len)), refl, tt)),
    )

-- ---- words

is_same : (a b : ℕ) → (a == b) ≡ true → a ≡ b
is_same a b e = elim (eqb_tells a b) [ inl h ↦ h.1 | inr h ↦ absurd (let f : false ≡ true = sym h.0 ∙ e in cc) ]

copied_name : (task number name : ℕ) (place : Place) (s t t' : State) (mark : Mark) → IsReordered s t → CopyRight task place number name t mark t' → IsLegalName s task name number
copied_name task number name place s t t' mark r c = grind (arith, same_lookup, legal_alike, reordered_back)

word_taken : (task number word : ℕ) (place : Place) (s t t' : State) (mark : Mark) → IsReordered s t → IsBadWord s task number word → CopyWord task place number word t mark t' → ⊥
word_taken task number word place s t t' mark r bad c = grind (arith, either, is_same, copied_name)

words_taken : (task : ℕ) (place : Place) (ws : List (ℕ × ℕ)) (s t t' : State) (rs : List (Kind × Mark)) → IsReordered s t →
    OneFails (IsRefused task) (λ old w new. (mark : Mark) × CopyWord task place w.0 w.1 old mark new) s ws → Through (CopyCarried task place) t ws rs t' → ⊥
words_taken task place [] s t t' rs r h c = h
words_taken task place (w ∷ ws) s t t' [] r h c = c
words_taken task place (w ∷ ws) s t t' (m ∷ ms) r (inl bad) c = word_taken task w.0 w.1 place s t c.0 m.1 r bad c.1
words_taken task place (w ∷ ws) s t t' (m ∷ ms) r (inr (mid, (mark, copies), refuse)) c = grind (
  arith,
  words_taken task place ws mid c.0 t' ms (word_alike task w.0 w.1 place s t mid c.0 mark m.1 r copies c.1).1 refuse c.2,
  word_alike,
)

reply_taken : (task number word : ℕ) (place : Place) (s t t' : State) (reply : ReplyRight) → IsReordered s t → number ≢ 0 → IsBadWord s task number word → CopyReply task place number word t reply t' → ⊥
reply_taken task number word place s t t' absent r some bad c = some c.0
reply_taken task number word place s t t' (present k m) r some bad c = word_taken task number word place s t t' m r bad c.1

dead_no_port : (d : Disposition) (n p : ℕ) → target_mark d (Target.dead n) ≡ Some (to_port p) → ⊥
dead_no_port MoveReceive n p e = cc
dead_no_port MoveSend n p e = cc
dead_no_port MoveSendOnce n p e = cc
dead_no_port CopySend n p e = cc
dead_no_port MakeSend n p e = cc
dead_no_port MakeSendOnce n p e = cc

destination_taken : (task : ℕ) (header : Header) (p : ℕ) (place : Place) (s t' : State) → DestinationRefuses s task header → CopyRight task place header.remote_kind header.remote s (to_port p) t' → ⊥
destination_taken task header p place s t' (inl bad) c = bad (copied_name task header.remote_kind header.remote place s s t' (to_port p) (same_state s) c)
destination_taken task header p place s t' (inr (n, is)) c = grind (arith, one_target, dead_no_port)

-- ---- messages

pub same_port : (p q : ℕ) → to_port p ≡ to_port q → p ≡ q
same_port p q e = cc

one_message : (m n : Message) → n.destination ≡ m.destination → n.kind ≡ m.kind → n.reply ≡ m.reply → n.id ≡ m.id → n.body ≡ m.body → n ≡ m
one_message m n d k r i b = grind arith

module _ (task : ℕ) (header : Header) (written : WireBody) (s : State) where
  -- the destination's right, copied in for a message to this port
  abbrev ToPort : (port : ℕ) → State → Type 0
  ToPort p first = CopyRight task (place_at s p) header.remote_kind header.remote s (to_port p) first

  -- and the reply's
  abbrev Answers : (port : ℕ) → (first : State) → ReplyRight → (second : State) → Type 0
  Answers p first answer second = CopyReply task (place_at s p) header.local_kind header.local first answer second

  -- one destination is copied in, whatever the order of the tokens
  to_one : (p q : ℕ) (first other : State) → ToPort p first → ToPort q other → (q ≡ p) × IsReordered first other
  to_one p q first other a b = grind (arith, same_port, right_same, same_state, right_alike)

  -- and so is one message
  pub copied_alike : (m n : Message) (mid other : State) → Copied task header written s m mid → Copied task header written s n other → (n ≡ m) × IsReordered mid other
  copied_alike m n mid other a b = grind (arith, right_same, same_state, to_one, reply_alike, body_alike, one_message)

  -- a refused reply isn't copied in
  reply_refused : (p : ℕ) (first : State) (answer : ReplyRight) (second : State) → ToPort p first → Answers p first answer second → ReplyRefuses s task header → ⊥
  reply_refused p first answer second a b h =
      reply_taken task header.local_kind header.local (place_at s p) h.first first second answer (to_one h.port p h.first first h.destination a).1 h.some h.bad b

  -- nor a refused body
  body_refused : (m : Message) (mid : State) → Copied task header written s m mid → BodyRefuses s task header written → ⊥
  body_refused m mid c h =
      let first = to_one h.port m.destination h.first c.first h.destination c.destination in
      let reply = subst (λ (x : ℕ). Answers x c.first m.reply c.second) first.0 c.reply in
      let body = subst (λ (x : ℕ). CopyBody task (place_at s x) written c.second m.body mid) first.0 c.body in
      let second = (reply_alike task header.local_kind header.local (place_at s h.port) h.first c.first h.second c.second h.answer m.reply first.1 h.reply reply).1 in
      words_taken task (place_at s h.port) (body_words written) h.second c.second mid (body_rights m.body) second h.refused body.1

  -- a message that is refused for its rights isn't sent
  pub rights_taken : (m : Message) (mid : State) (code : ℕ) → Copied task header written s m mid → NoneHolds (sent_guards m (place_at s m.destination) mid) → RightsRefuse s task header written code → ⊥
  rights_taken m mid code c good (inl h) = destination_taken task header m.destination (place_at s m.destination) s c.first h.0 c.destination
  rights_taken m mid code c good (inr (inl h)) = reply_refused m.destination c.first m.reply c.second c.destination c.reply h.0
  rights_taken m mid code c good (inr (inr (inl h))) = body_refused m mid c h.0
  rights_taken m mid code c good (inr (inr (inr h))) =
      let w = copied_alike h.m m h.copied_state mid h.copied c in
      let place = place_at s h.m.destination in
      none_is_first (sent_guards h.m place h.copied_state) (sent_guards h.m place mid) code (sent_same h.copied_state mid w.1 h.m place) h.refused
      (subst (λ (x : Message). NoneHolds (sent_guards x (place_at s x.destination) mid)) w.0 good)

  -- what is refused later has its destination copied in
  has_destination : (code : ℕ) → DestinationRefuses s task header →
      ReplyRefuses s task header × (code ≡ msg_number SendInvalidReply) ⊎ BodyRefuses s task header written × (code ≡ msg_number SendInvalidRight) ⊎ WholeRefuses s task header written code → ⊥
  has_destination code bad (inl h) = destination_taken task header h.0.port (place_at s h.0.port) s h.0.first bad h.0.destination
  has_destination code bad (inr (inl h)) = destination_taken task header h.0.port (place_at s h.0.port) s h.0.first bad h.0.destination
  has_destination code bad (inr (inr h)) = destination_taken task header h.m.destination (place_at s h.m.destination) s h.copied.first bad h.copied.destination

  -- and its reply
  has_reply : (code : ℕ) → ReplyRefuses s task header → BodyRefuses s task header written × (code ≡ msg_number SendInvalidRight) ⊎ WholeRefuses s task header written code → ⊥
  has_reply code bad (inl h) = reply_refused h.0.port h.0.first h.0.answer h.0.second h.0.destination h.0.reply bad
  has_reply code bad (inr h) = reply_refused h.m.destination h.copied.first h.m.reply h.copied.second h.copied.destination h.copied.reply bad

  -- the rights of one message are refused with one code
  pub rights_alike : (code other : ℕ) → RightsRefuse s task header written code → RightsRefuse s task header written other → code ≡ other
  rights_alike code other (inl a) (inl b) = a.1 ∙ sym b.1
  rights_alike code other (inl a) (inr b) = absurd (has_destination other a.0 b)
  rights_alike code other (inr a) (inl b) = absurd (has_destination code b.0 a)
  rights_alike code other (inr (inl a)) (inr (inl b)) = a.1 ∙ sym b.1
  rights_alike code other (inr (inl a)) (inr (inr b)) = absurd (has_reply other a.0 b)
  rights_alike code other (inr (inr a)) (inr (inl b)) = absurd (has_reply code b.0 a)
  rights_alike code other (inr (inr (inl a))) (inr (inr (inl b))) = a.1 ∙ sym b.1
  rights_alike code other (inr (inr (inl a))) (inr (inr (inr b))) = absurd (body_refused b.m b.copied_state b.copied a.0)
  rights_alike code other (inr (inr (inr a))) (inr (inr (inl b))) = absurd (body_refused a.m a.copied_state a.copied b.0)
  rights_alike code other (inr (inr (inr a))) (inr (inr (inr b))) =
      let w = copied_alike a.m b.m a.copied_state b.copied_state a.copied b.copied in
      let place = place_at s a.m.destination in
      one_first (sent_guards a.m place a.copied_state) (sent_guards a.m place b.copied_state) code other (sent_same a.copied_state b.copied_state w.1 a.m place) a.refused
      (subst (λ (x : Message). FirstIs (sent_guards x (place_at s x.destination) b.copied_state) other) w.0 b.refused)

-- ---- handing a right over

-- A right that can be copied in is judged by guards that the order of the tokens doesn't change.
module _ (task : ℕ) (place : Place) (number name : ℕ) (s : State) (judge : (port : ℕ) → Kind → State → Guards)
    (same : (x y : State) → IsReordered x y → (p : ℕ) (kind : Kind) → SameGuards (judge p kind x) (judge p kind y)) where
  -- the guards after copying in and after another
  judged_same : (p q : ℕ) (mid other : State) (d : Disposition) → disposition number ≡ Some d →
      (c : CopyRight task place number name s (to_port p) mid) → CopyRight task place number name s (to_port q) other → SameGuards (judge q (kind_sent d) other) (judge p (kind_sent c.given) mid)
  judged_same p q mid other d is c e = grind (arith, right_alike, same_state, same_port, one_disposition, reordered_back)

  -- a right that is refused, not for want of memory, isn't handed over
  pub hand_taken : (p : ℕ) (mid : State) (code : ℕ) → (c : CopyRight task place number name s (to_port p) mid) → NoneHolds (judge p (kind_sent c.given) mid) →
      CopyRefuses task place number name s judge code → code ≢ kern_number ResourceShortage → ⊥
  hand_taken p mid code c good (q, other, d, is, e, inl first) not = none_is_first _ _ code (judged_same p q mid other d is c e) first good
  hand_taken p mid code c good (q, other, d, is, e, inr is_short) not = not is_short.1

  pub hand_alike : (code another : ℕ) → CopyRefuses task place number name s judge code → CopyRefuses task place number name s judge another →
      code ≢ kern_number ResourceShortage → another ≢ kern_number ResourceShortage → code ≡ another
  hand_alike code another (p, mid, d, is, c, inr is_short) h not other = absurd (not is_short.1)
  hand_alike code another (p, mid, d, is, c, inl first) (q, end, f, is_f, e, inr is_short) not other = absurd (other is_short.1)
  hand_alike code another (p, mid, d, is, c, inl first) (q, end, f, is_f, e, inl second) not other =
      sym (one_first _ _ another code (judged_same p q mid end f is_f c e) second (subst (λ (x : Disposition). FirstIs (judge p (kind_sent x) mid) code) (one_disposition number c.given d c.is_given is) first))

  -- a right that is refused, not for want of memory, isn't refused for want of memory
  pub hand_short : (code : ℕ) → CopyRefuses task place number name s judge code → code ≢ kern_number ResourceShortage → CopyRefuses task place number name s judge (kern_number ResourceShortage) → ⊥
  hand_short code (p, mid, d, is, c, inr is_short) not b = not is_short.1
  hand_short code (p, mid, d, is, c, inl first) not (q, end, f, is_f, e, inl second) =
      not (sym (one_first _ _ (kern_number ResourceShortage) code (judged_same p q mid end f is_f c e) second (subst (λ (x : Disposition). FirstIs (judge p (kind_sent x) mid) code) (one_disposition number c.given d c.is_given is) first)))
  hand_short code (p, mid, d, is, c, inl first) not (q, end, f, is_f, e, inr is_short) =
      hand_taken q end code e (subst (λ (x : Disposition). NoneHolds (judge q (kind_sent x) end)) (one_disposition number e.given f e.is_given is_f) is_short.0) (p, mid, d, is, c, inl first) not

-- ---- A text spells one message, or is refused with one code.

-- ---- lists

one_word : (n m : ℕ) (u v : List ℕ) → n < 2 ^ 32 → m < 2 ^ 32 → word n ++ u ≡ word m ++ v → (n ≡ m) × (u ≡ v)
one_word n m u v small less e = (sym (word_at-word n u small) ∙ ap (λ (xs : List ℕ). word_at xs 0) e ∙ word_at-word m v less, ap (drop 4) e)

one_words : (ns ms u v : List ℕ) → All (λ w. w < 2 ^ 32) ns → All (λ w. w < 2 ^ 32) ms → length ns ≡ length ms → words_text ns ++ u ≡ words_text ms ++ v → (ns ≡ ms) × (u ≡ v)
one_words [] [] u v a b l e = (refl, e)
one_words (n ∷ ns) (m ∷ ms) u v a b l e =
    let w = one_word n m (words_text ns ++ u) (words_text ms ++ v) (a 0 n (omega arith)) (b 0 m (omega arith)) e in
    let rest = one_words ns ms u v (λ k d h. a (suc k) d (omega (arith, h))) (λ k d h. b (suc k) d (omega (arith, h))) (omega (arith, l)) w.1 in
    (ap (λ z. z ∷ ns) w.0 ∙ ap (λ zs. m ∷ zs) rest.0, rest.1)
one_words [] (m ∷ ms) u v a b l e = absurd (omega (arith, l))
one_words (n ∷ ns) [] u v a b l e = absurd (omega (arith, l))

-- ---- items

-- what a descriptor's text tells
record SameFront (f g : Form) (n m s t c d : ℕ) (u v : List ℕ) : Type 0 where
  form : f ≡ g
  name : n ≡ m
  size : s ≡ t
  number : c ≡ d
  after : u ≡ v

one_form : (f g : Form) → form_length f ≡ form_length g → f ≡ g
one_form short short e = refl
one_form long long e = refl
one_form short long e = absurd (omega (arith, e))
one_form long short e = absurd (omega (arith, e))

same_front : (f g : Form) (n m s t c d : ℕ) (u v : List ℕ) → FitsForm f n s c → FitsForm g m t d → (NamesPorts n → s ≡ 32) → (NamesPorts m → t ≡ 32) →
    descriptor_text f n s c ++ u ≡ descriptor_text g m t d ++ v → SameFront f g n m s t c d u v
same_front f g n m s t c d u v fits fits' right right' e = grind (arith, front_of, one_form, append_split, length-descriptor_text)

data_text : (f : Form) (n s c : ℕ) (bytes padding u : List ℕ) → wire_text (data_item f n s c bytes padding) ++ u ≡ descriptor_text f n s c ++ (bytes ++ (padding ++ u))
data_text f n s c bytes padding u = append_assoc (descriptor_text f n s c ++ bytes) padding u ∙ append_assoc (descriptor_text f n s c) bytes (padding ++ u)

one_wire : (x y : Wire) → IsWire x → IsWire y → (u v : List ℕ) → wire_text x ++ u ≡ wire_text y ++ v → (x ≡ y) × (u ≡ v)
one_wire (data_item f n s c bytes padding) (data_item g m t d others more) is are u v e = grind (arith, same_front, data_text, append_split)
one_wire (port_item f n words) (port_item g m others) is are u v e = grind (arith, same_front, append_assoc, one_words)
one_wire (data_item f n s c bytes padding) (port_item g m others) is are u v e = grind (arith, same_front, data_text, append_assoc)
one_wire (port_item f n words) (data_item g m t d others more) is are u v e = grind (arith, same_front, append_assoc, data_text)

some_text : (x : Wire) (u : List ℕ) → [] ≡ wire_text x ++ u → ⊥
some_text (data_item short n s c bytes padding) u e = cc
some_text (data_item long n s c bytes padding) u e = cc
some_text (port_item short n words) u e = cc
some_text (port_item long n words) u e = cc

one_wires : (xs ys : List Wire) → All IsWire xs → All IsWire ys → wires_text xs ≡ wires_text ys → xs ≡ ys
one_wires [] [] are were e = refl
one_wires (x ∷ xs) (y ∷ ys) are were e =
    let w = one_wire x y (All-head IsWire x xs are) (All-head IsWire y ys were) (wires_text xs) (wires_text ys) e in
    ap (λ z. z ∷ xs) w.0 ∙ ap (λ zs. y ∷ zs) (one_wires xs ys (All-tail IsWire x xs are) (All-tail IsWire y ys were) w.1)
one_wires [] (y ∷ ys) are were e = absurd (some_text y (wires_text ys) e)
one_wires (x ∷ xs) [] are were e = absurd (some_text x (wires_text xs) (sym e))

-- ---- messages

pub one_header : (g h : Header) → g.remote_kind ≡ h.remote_kind → g.local_kind ≡ h.local_kind → g.size ≡ h.size → g.remote ≡ h.remote → g.local ≡ h.local → g.sequence ≡ h.sequence → g.id ≡ h.id → g ≡ h
one_header g h a b c d e f i = grind arith

-- the two kinds, and whether there are items
record SameBits (g h : Header) (v w : WireBody) : Type 0 where
  remote : g.remote_kind ≡ h.remote_kind
  local : g.local_kind ≡ h.local_kind
  whole : IsWireBody v → IsWireBody w → body_text v ≡ body_text w → v ≡ w

same_bits : (g h : Header) (v w : WireBody) → IsHeader g → IsHeader h → bits g v ≡ bits h w → SameBits g h v w
same_bits g h (WireBody.raw xs) (WireBody.raw ys) a b e = grind arith
same_bits g h (WireBody.items xs) (WireBody.items ys) a b e =
    let i = a.remote_kind in let j = b.remote_kind in
    record { remote = omega (arith, e, i, j); local = omega (arith, e, i, j); whole = λ is are same. ap WireBody.items (one_wires xs ys is are same) }
same_bits g h (WireBody.raw xs) (WireBody.items ys) a b e = let i = a.remote_kind in let j = a.local_kind in absurd (omega (arith, e, i, j))
same_bits g h (WireBody.items xs) (WireBody.raw ys) a b e = let i = b.remote_kind in let j = b.local_kind in absurd (omega (arith, e, i, j))

bits_fit : (h : Header) (v : WireBody) → IsHeader h → bits h v < 2 ^ 32
bits_fit h (WireBody.raw xs) a = let i = a.remote_kind in let j = a.local_kind in omega (arith, i, j)
bits_fit h (WireBody.items xs) a = let i = a.remote_kind in let j = a.local_kind in omega (arith, i, j)

-- The bytes spell one header and one body.
pub one_text : (bytes : List ℕ) (g h : Header) (v w : WireBody) → Spells bytes g v → Spells bytes h w → (g ≡ h) × (v ≡ w)
one_text bytes g h v w a b =
    let p = a.header_fits in
    let q = b.header_fits in
    let first = one_word (bits g v) (bits h w) _ _ (bits_fit g v p) (bits_fit h w q) (sym a.is_text ∙ b.is_text) in
    let size = one_word g.size h.size _ _ p.size q.size first.1 in
    let remote = one_word g.remote h.remote _ _ p.remote q.remote size.1 in
    let local = one_word g.local h.local _ _ p.local q.local remote.1 in
    let sequence = one_word g.sequence h.sequence _ _ p.sequence q.sequence local.1 in
    let id = one_word g.id h.id _ _ p.id q.id sequence.1 in
    let s = same_bits g h v w p q first.0 in
    (one_header g h s.remote s.local size.0 remote.0 local.0 sequence.0 id.0, s.whole a.body_fits b.body_fits id.1)

-- ---- refusals

one_fields : (bytes : List ℕ) (n m s t c d : ℕ) → DescriptorFields bytes n s c → DescriptorFields bytes m t d → (n ≡ m) × (s ≡ t) × (c ≡ d)
one_fields bytes n m s t c d (inl a) (inl b) = (a.1 ∙ sym b.1, a.2 ∙ sym b.2, a.3 ∙ sym b.3)
one_fields bytes n m s t c d (inr a) (inr b) = (a.1 ∙ sym b.1, a.2 ∙ sym b.2, a.3 ∙ sym b.3)
one_fields bytes n m s t c d (inl a) (inr b) = absurd (a.0 b.0)
one_fields bytes n m s t c d (inr a) (inl b) = absurd (b.0 a.0)

one_length : (bytes : List ℕ) (n m : ℕ) → IsDescriptorLength bytes n → IsDescriptorLength bytes m → n ≡ m
one_length bytes n m a b = elim (eqb_tells (word_at bytes 0 / 2 ^ 29 % 2) 1) [ inl h ↦ a.0 h.1 ∙ sym (b.0 h.1) | inr h ↦ a.1 h.1 ∙ sym (b.1 h.1) ]

item_alike : (bytes : List ℕ) (code other : ℕ) → ItemRefuses bytes code → ItemRefuses bytes other → code ≡ other
item_alike bytes code other a b = grind (arith, one_fields, one_length, one_first, itself)

items_alike : (xs ys : List Wire) (u v : List ℕ) (code other : ℕ) → All IsWire xs → All IsWire ys → wires_text xs ++ u ≡ wires_text ys ++ v → ItemRefuses u code → ItemRefuses v other → code ≡ other
items_alike [] [] u v code other are were e a b = item_alike v code other (subst (λ t. ItemRefuses t code) e a) b
items_alike (x ∷ xs) (y ∷ ys) u v code other are were e a b =
    items_alike xs ys u v code other (All-tail IsWire x xs are) (All-tail IsWire y ys were)
    (rest_same x y (All-head IsWire x xs are) (All-head IsWire y ys were) (wires_text xs ++ u) (wires_text ys ++ v)
    (sym (append_assoc (wire_text x) (wires_text xs) u) ∙ e ∙ append_assoc (wire_text y) (wires_text ys) v)) a b
items_alike [] (y ∷ ys) u v code other are were e a b =
    absurd (not_refused y (All-head IsWire y ys were) (wires_text ys ++ v) code (subst (λ t. ItemRefuses t code) (e ∙ append_assoc (wire_text y) (wires_text ys) v) a))
items_alike (x ∷ xs) [] u v code other are were e a b =
    absurd (not_refused x (All-head IsWire x xs are) (wires_text xs ++ u) other (subst (λ t. ItemRefuses t other) (sym e ∙ append_assoc (wire_text x) (wires_text xs) u) b))

-- The items of a text are refused with one code.
pub one_refusal : (bytes : List ℕ) (code other : ℕ) → ItemsRefuse bytes code → ItemsRefuse bytes other → code ≡ other
one_refusal bytes code other a b = items_alike a.front b.front a.rest b.rest code other a.front_fits b.front_fits (sym a.parts ∙ b.parts) a.refused b.refused

-- ---- Which codes refuse a send: never 0, and that the queue is full never for a message to a send-once right.

-- what each guard's code has, where the guard holds
abbrev EachCode : (ℕ → Type 0) → Guards → Type 0
EachCode P [] = Unit {0}
EachCode P (g ∷ gs) = (g.0 → P g.1) × EachCode P gs

FirstIs-code : (P : ℕ → Type 0) (gs : Guards) (code : ℕ) → EachCode P gs → FirstIs gs code → P code
FirstIs-code P [] code each h = absurd h
FirstIs-code P (g ∷ gs) code each (inl h) = subst P (sym h.1) (each.0 h.0)
FirstIs-code P (g ∷ gs) code each (inr h) = FirstIs-code P gs code each.1 h.1

-- a message by a send right
record IsBySend (s : State) (task : ℕ) (bytes : List ℕ) : Type 0 where
  header : Header
  written : WireBody
  spells : Spells bytes header written
  m : Message
  copied_state : State
  copied : Copied task header written s m copied_state
  kind : m.kind ≡ send

-- What refuses a send: no code is 0, and that of a full queue is only for a message by a send right.
pub record SendCode (s : State) (task : ℕ) (bytes : List ℕ) (code : ℕ) : Type 0 where
  pub some : 0 < code
  full : code ≡ 0x10000004 → IsBySend s task bytes

module _ (s : State) (task : ℕ) (bytes : List ℕ) where
  other : {code : ℕ} → 0 < code → code ≢ 0x10000004 → SendCode s task bytes code
  other some not = record { some = some; full = λ e. absurd (not e) }

  rights_code : (header : Header) (written : WireBody) (code : ℕ) → Spells bytes header written → RightsRefuse s task header written code → SendCode s task bytes code
  rights_code header written code spells (inl h) = other (omega (arith, h.1)) (λ e. omega (arith, e, h.1))
  rights_code header written code spells (inr (inl h)) = other (omega (arith, h.1)) (λ e. omega (arith, e, h.1))
  rights_code header written code spells (inr (inr (inl h))) = other (omega (arith, h.1)) (λ e. omega (arith, e, h.1))
  rights_code header written code spells (inr (inr (inr h))) = FirstIs-code (SendCode s task bytes) (sent_guards h.m (place_at s h.m.destination) h.copied_state) code
      ((λ g. other (omega arith) (λ e. omega (arith, e))), ((λ g. full g.0), ((λ g. other (omega arith) (λ e. omega (arith, e))), tt))) h.refused
    where
      full : h.m.kind ≡ send → SendCode s task bytes 0x10000004
      full kind = record { some = omega arith; full = λ e. record { header = header; written = written; spells = spells; m = h.m; copied_state = h.copied_state; copied = h.copied; kind = kind } }

  pub send_code : (code : ℕ) → Refuses s (Event.Send task bytes) code → SendCode s task bytes code
  send_code code (inl h) = grind (arith, other)
  send_code code (inr (good, inl h)) = grind (arith, other)
  send_code code (inr (good, inr h)) = elim h.3 [
    | inl g ↦ other (omega (arith, g)) (λ e. omega (arith, e, g))
    | inr g ↦ rights_code h.0 h.1 code h.2 g
  ]

pub same_code : (a b : ℕ) → Reply.Code a ≡ Reply.Code b → a ≡ b
same_code a b e = cc

same_disposition : (a b : Disposition) → Some a ≡ Some b → a ≡ b
same_disposition a b e = cc

by_once : (a b : Disposition) → Some a ≡ Some b → kind_sent a ≡ send_once → kind_sent b ≡ send → ⊥
by_once a b same once kind = let e : send_once ≡ send = sym once ∙ ap kind_sent (same_disposition a b same) ∙ kind in cc

not_once : (n : ℕ) (given : Disposition) → disposition n ≡ Some given → kind_sent given ≡ send → (n ≢ 18) × (n ≢ 21)
not_once n given is kind = grind (arith, by_once)

-- A send that is told so has a destination by a send right.
pub never_full : (now : ℕ) (old new : State) (task : ℕ) (bytes : List ℕ) → Step now old (Event.Send task bytes) (Reply.Code 0x10000004) new →
    (header : Header) (written : WireBody) → Spells bytes header written → (header.remote_kind ≢ 18) × (header.remote_kind ≢ 21)
never_full now old new task bytes (inl r) header written spells =
    let f = (send_code old task bytes r.code r.refuses).full (sym (same_code 0x10000004 r.code r.told)) in
    let n = not_once f.header.remote_kind f.copied.destination.given f.copied.destination.is_given (sym f.copied.kind ∙ f.kind) in
    let same = ap (λ (h : Header). h.remote_kind) (one_text bytes header f.header written f.written spells f.spells).0 in
    ((λ e. n.0 (sym same ∙ e)), (λ e. n.1 (sym same ∙ e)))
never_full now old new task bytes (inr d) header written spells = absurd (let e = d.does.0 in omega (arith, e))
