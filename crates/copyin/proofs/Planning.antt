-- What judging a text says of its plan, and what a plan is to the machine.
use Rattle.std.proofs.Common.{◌≡◌, ℕ, ◌/◌, ◌%◌, ◌^◌, ◌<◌, ◌≤◌, List, [], ◌∷◌, refl, sym, ap, ◌∙◌, arith, inl, inr, length, ◌+◌, ◌++◌, Option, Some, None, subst, Bool, true, false, IsSome, IfSome, ◌⊎◌, All}
use Rattle.std.proofs.lemmas.Bool.Decides.{eqb_tells}
use Rattle.std.specs.Prelude.{◌≢◌, ◌==◌, if◌then◌else◌}
use Rattle.std.specs.Option.{option_map, option_to_list, unwrap_or}
use Rattle.std.specs.FinMap as map
use Rattle.std.proofs.lemmas.Bool.{eqb-true, ne_eqb}
use Rattle.std.proofs.lemmas.List.Elements.{All-append, All-map}
use Rattle.mach_types.specs.Numbers.{null_word, most_bytes, disposition, kind_sent, dead_word}
use Rattle.mach_types.specs.Codes.{msg_number}
use Rattle.mach_types.specs.Grammar.{text, WireBody, Header, Wire, data_item, port_item, raw, items, IsWire, IsWireBody, NamesPorts}
use Rattle.mach_types.specs.Guards.{Guards, FirstIs, NoneHolds}
use Rattle.mach_types.specs.TextGuards.{header_guards, word_at, BadHeader, TextRefuses, IsSendable}
use Rattle.mach_types.specs.declared.rights.Disposition.{Disposition}
use Rattle.mach_types.specs.Tokens.{receive, send, send_once, same_kind, in_message}
use Rattle.mach_types.specs.Messages.{Message, to_port}
use Rattle.mach_types.specs.declared.codes.MsgReturn.{MsgReturn}
use Rattle.mach_types.specs.declared.codes.MsgReturn.TheVariants.{SendMsgTooSmall, SendInvalidData, SendInvalidHeader, SendNoBuffer}
use Rattle.mach_types.specs.declared.rights.Disposition.TheVariants.{MoveReceive}
use Rattle.mach_model.specs.State.{State, Target, lookup}
use Rattle.mach_model.specs.CopyIn.{CopyRight, CopyReply}
use Rattle.mach_model.specs.Send.{Copied}
use Rattle.mach_model.proofs.Moving.{moving, shape, shape-trans}
use Rattle.mach_model.proofs.MessagesLawful.{NoneMoved, none_moved}
use Rattle.mach_model.proofs.Walks.{Through-append}
use Rattle.message_codec.specs.declared.text.Parsed.{Parsed}
use Rattle.message_codec.specs.Parses.{Parses}
use Rattle.message_codec.specs.declared.words.PortWord.{PortWord}
use Rattle.message_codec.specs.Words.{body_words, items_words, inline_words}
use Rattle.message_codec.proofs.PutWords.{six}
use Rattle.message_codec.proofs.Shapes.{All-head, All-tail}
use Rattle.name_space.specs.declared.Entry.{Entry}
use Rattle.name_space.specs.Names.{Names, SpaceView}
use Rattle.port.specs.Ports.{IsLive}
use Rattle.copyin_base.specs.declared.Carried.{Carried}
use Rattle.copyin_base.specs.Kept.{reply_of, message_of}
use Rattle.copyin_base.specs.Worlds.{WorldView, entry_in, space_at}
use Rattle.copyin_base.specs.Shows.{target_of, Shows}
use Rattle.copyin_base.specs.Stands.{AreTied}
use Rattle.copyin.specs.Copies.{CopiesRight}
use Rattle.copyin.specs.Judging.{CopiesReply, made_by_reply, CopiesName, CopiesWord, CopiesBody, BodyIsBad}
use Rattle.copyin.specs.Plans.{destination_word, reply_words, Judged, made_in, message_for, ChangesWord, ChangesWords, option_list, Plans, Begins, CannotPlan}
use Rattle.copyin.proofs.Copying.{Along, Went, went, stepped, WholeBody, whole_body}
use Rattle.copyin.proofs.Judging.{number_of}
use Rattle.copyin.specs.declared.judge.Rights.{Rights}
use Rattle.copyin.specs.PortWords.{PortWords}
use Rattle.copyin.specs.Goes.{AreGiven, LeadsNowhere, Starts, GoAll, CannotGo, MayGo, MayNotGo}
use Rattle.copyin.specs.Planned.{AreWords}
use Rattle.copyin.proofs.Committing.{all_length}
use Rattle.copyin.proofs.Keeping.{keeps}

-- ---- What the header of a text that is a message says.

-- No guard holds where none is the first that holds.
pub none_first : (gs : Guards) → ((code : ℕ) → ¬ (FirstIs gs code)) → NoneHolds gs
none_first [] none = tt
none_first (g ∷ gs) none =
    let head : ¬ g.0 = λ h. none g.1 (inl (h, refl)) in
    (head, none_first gs (λ code first. none code (inr (head, first))))

module _ (bytes : List ℕ) (parsed : Parsed) (t : Parses bytes parsed) where
  pub good_header : NoneHolds (header_guards bytes)
  good_header = none_first (header_guards bytes) (λ code first. t.message.unrefused code (inl first))

  pub few_bytes : length bytes ≤ most_bytes
  few_bytes = let g = good_header.1.0 in below (length bytes) g
    where
      below : (n : ℕ) → ¬ (most_bytes < n) → n ≤ most_bytes
      below n not = omega (arith, not)

  -- A text with no kind for an answer has no name for it.
  pub no_answer : t.header.local_kind ≡ 0 → t.header.local ≡ null_word
  no_answer zero_kind =
      let h = t.header in
      let spells = t.message.spells in
      let local : word_at bytes 12 ≡ h.local = ap (λ (bs : List ℕ). word_at bs 12) spells.is_text ∙ local_of_text h t.written spells.header_fits.local in
      let kind : word_at bytes 0 / 2 ^ 8 % 2 ^ 8 ≡ h.local_kind =
      ap (λ (bs : List ℕ). word_at bs 0 / 2 ^ 8 % 2 ^ 8) spells.is_text ∙ kind_of_text h t.written spells.header_fits.remote_kind spells.header_fits.local_kind in
      let good : ¬ (BadHeader (word_at bytes 0) (word_at bytes 12)) = good_header.1.1.0 in
      elim (eqb_tells h.local null_word) [
        | inl e ↦ e.1
        | inr e ↦ absurd (good (inr (inr (inr (kind ∙ zero_kind, λ is. e.1 (sym local ∙ is))))))
      ]
    where
      local_of_text : (h : Header) (w : WireBody) → h.local < 2 ^ 32 → word_at (text h w) 12 ≡ h.local
      local_of_text h (WireBody.raw bytes) fits = omega arith
      local_of_text h (WireBody.items xs) fits = omega arith

      kind_of_text : (h : Header) (w : WireBody) → h.remote_kind < 2 ^ 8 → h.local_kind < 2 ^ 8 → word_at (text h w) 0 / 2 ^ 8 % 2 ^ 8 ≡ h.local_kind
      kind_of_text h (WireBody.raw bytes) fits small = omega arith
      kind_of_text h (WireBody.items xs) fits small = omega arith

-- ---- A message whose rights were judged: the machine copies them in, and the tables that do so agree.

-- a name under which something stands is one
pub usable : (w : WorldView) (s : State) (o k task : ℕ) (names : Names) → Along w s o k task names → (name : ℕ) (e : Entry) → map.get names name ≡ Some e → (name ≢ null_word) × (name ≢ dead_word)
usable w s o k task names at name e is =
    let found : lookup s task name ≡ Some (target_of e) =
    at.agrees.naming task name ∙ ap (λ (x : Option SpaceView). option_map target_of (entry_in x name)) at.there
    ∙ ap (λ (m : Names). option_map target_of (map.get m name)) at.names_are ∙ ap (option_map target_of) is in (
      (λ same. nothing (lookup s task null_word) (target_of e) (at.moving.naming task).not_null (subst (λ (n : ℕ). lookup s task n ≡ Some (target_of e)) same found)),
      (λ same. nothing (lookup s task dead_word) (target_of e) (at.moving.naming task).not_dead (subst (λ (n : ℕ). lookup s task n ≡ Some (target_of e)) same found)),
    )
  where
    nothing : (x : Option Target) (t : Target) → x ≡ None → x ≡ Some t → ⊥
    nothing x t a b = cc

-- a name's word changes the tables as its right goes
pub name_changes : (w new : WorldView) (task : ℕ) (word : PortWord) (c : Carried) → word.name ≢ null_word → word.name ≢ dead_word → CopiesRight w task c.given word.name c.mark new → ChangesWord w task word c new
name_changes w new task word c a b r = grind (arith, ne_eqb)

-- ---- the reply

pub record Replied (w : WorldView) (s : State) (o k task number word : ℕ) (ws : List PortWord) (reply : Option Carried) (left : Names) : Type 0 where
  pub w2 : WorldView
  pub t : State
  pub along : Along w2 t o k task left
  pub copy : CopyReply task (in_message o k) number word s (reply_of reply) t
  pub changes : ChangesWords w task ws (option_list reply) w2
  pub rest : t ≡ shape s t
  pub total : w2.ledger.total ≡ w.ledger.total + made_by_reply reply

module _ (w : WorldView) (s : State) (o k task : ℕ) (names : Names) (at : Along w s o k task names) (parsed : Parsed) (null_if : parsed.local_kind ≡ 0 → parsed.local ≡ null_word)
    (reply : Option Carried) (left : Names) where
  answer : PortWord
  answer = record { disposition = parsed.local_kind; name = parsed.local }

  go : (b : Bool) → parsed.local_kind == 0 ≡ b → (r : Option Carried) → CopiesReply names (if b then [] else record { disposition = parsed.local_kind; name = parsed.local } ∷ []) r left →
      Replied w s o k task parsed.local_kind parsed.local (if b then [] else record { disposition = parsed.local_kind; name = parsed.local } ∷ []) r left
  go true e None h =
      let zero_kind = eqb-true parsed.local_kind 0 e in
      record {
        w2 = w;
        t = s;
        along = record { agrees = at.agrees; moving = at.moving; space = at.space; there = at.there; names_are = at.names_are ∙ sym h; requested = at.requested };
        copy = (zero_kind, null_if zero_kind, refl);
        changes = refl;
        rest = refl;
        total = omega arith;
      }
  go true e (Some c) h = absurd h
  go false e None h = absurd h
  go false e (Some c) h =
      let x = stepped w s o k task names (record { disposition = parsed.local_kind; name = parsed.local }) c left at h in
      record { w2 = x.w2; t = x.t; along = x.along; copy = ((c.given, x.given, refl), x.copy); changes = (x.w2, x.changes, refl); rest = x.rest; total = x.total }

  pub replied : CopiesReply names (reply_words parsed) reply left → Replied w s o k task parsed.local_kind parsed.local (reply_words parsed) reply left
  replied h = go (parsed.local_kind == 0) refl reply h

-- ---- the whole message

module _ (w : WorldView) (s : State) (sh : Shows w s) (task : ℕ) (bytes : List ℕ) (parsed : Parsed) (text : Parses bytes parsed) (j : Judged w task parsed text.written) where
  abbrev pub p : ℕ
  p = j.port

  abbrev pub k : ℕ
  k = length (s.log j.port)

  abbrev pub message : Message
  message = message_of j.port (message_for bytes j) text.written

  pub start : Along w s j.port (length (s.log j.port)) task j.space.names
  start = record { agrees = sh.agrees; moving = moving s j.port (length (s.log j.port)) sh.lawful; space = j.space; there = j.there; names_are = refl; requested = sh.requested }

  pub first : Went w s j.port (length (s.log j.port)) task (destination_word parsed) j.destination j.first
  first = went w s j.port (length (s.log j.port)) task j.space.names (destination_word parsed) j.destination j.first start j.copies_destination

  null_if : parsed.local_kind ≡ 0 → parsed.local ≡ null_word
  null_if e = text.local ∙ no_answer bytes parsed text (sym text.local_kind ∙ e)

  pub second : Replied first.w2 first.t j.port (length (s.log j.port)) task parsed.local_kind parsed.local (reply_words parsed) j.reply j.second
  second = replied first.w2 first.t j.port (length (s.log j.port)) task j.first first.along parsed null_if j.reply j.second j.copies_reply

  pub third : WholeBody second.w2 second.t j.port (length (s.log j.port)) task text.written j.rights j.last
  third = whole_body second.w2 second.t j.port (length (s.log j.port)) task j.second text.written j.rights j.last second.along text.message.spells.body_fits j.copies_body

  pub none_receives : NoneMoved text.header
  none_receives = none_moved bytes text.header text.written (good_header bytes parsed text) text.message.spells

  is_sent : (d : Disposition) → kind_sent d ≢ receive → (if same_kind (kind_sent d) send_once then send_once else send) ≡ kind_sent d
  is_sent d not = grind arith

  same_given : (a b : Disposition) → Some a ≡ Some b → a ≡ b
  same_given a b e = cc

  not_sixteen : (n : ℕ) (d : Disposition) → disposition n ≡ Some d → n ≢ 16 → kind_sent d ≢ receive
  not_sixteen n Disposition.MoveReceive is not e = not (sym (number_of n Disposition.MoveReceive is))
  not_sixteen n Disposition.MoveSend is not e = cc
  not_sixteen n Disposition.MoveSendOnce is not e = cc
  not_sixteen n Disposition.CopySend is not e = cc
  not_sixteen n Disposition.MakeSend is not e = cc
  not_sixteen n Disposition.MakeSendOnce is not e = cc

  pub destination_given : disposition parsed.remote_kind ≡ Some j.destination.given
  destination_given = j.copies_destination.is_given

  pub kind_is : message.kind ≡ kind_sent j.destination.given
  kind_is = is_sent j.destination.given (not_sixteen parsed.remote_kind j.destination.given destination_given (λ e. none_receives.remote (sym text.remote_kind ∙ e)))

  to_header : CopyRight task (in_message j.port (length (s.log j.port))) text.header.remote_kind text.header.remote s (to_port j.port) first.t
  to_header = grind (arith, first)

  reply_header : CopyReply task (in_message j.port (length (s.log j.port))) text.header.local_kind text.header.local first.t (reply_of j.reply) second.t
  reply_header = grind (arith, first, second)

  pub copied : Copied task text.header text.written s message third.t
  copied = record {
    first = first.t;
    second = second.t;
    destination = to_header;
    kind = kind_is ∙ ap kind_sent (same_given j.destination.given to_header.given (sym destination_given ∙ ap disposition text.remote_kind ∙ to_header.is_given));
    reply = reply_header;
    id = text.id;
    body = third.copy;
  }

  pub shape_is : third.t ≡ shape s third.t
  shape_is = shape-trans s second.t third.t (shape-trans s first.t second.t first.rest second.rest) third.rest

  pub total_is : third.w2.ledger.total ≡ w.ledger.total + made_in j
  total_is = omega (arith, first.total, second.total, third.total)

  -- what changes the tables so
  pub all_changes : ChangesWords w task (destination_word parsed ∷ reply_words parsed ++ body_words text.written) (j.destination ∷ option_list j.reply ++ j.rights) third.w2
  all_changes =
      let ok = usable w s j.port (length (s.log j.port)) task j.space.names start parsed.remote j.copies_destination.entry j.copies_destination.found in (
        first.w2,
        name_changes w first.w2 task (destination_word parsed) j.destination ok.0 ok.1 first.changes,
        Through-append (λ old w c new. ChangesWord old task w c new) first.w2 second.w2 third.w2 (reply_words parsed) (body_words text.written) (option_list j.reply) j.rights second.changes third.changes,
      )

-- ---- What judging the words of a text says of the plan.

-- ---- the words of a text have dispositions

ports_given : (n : ℕ) → NamesPorts n → IsSome (disposition n)
ports_given n ports = grind (arith, six)

-- no receive right goes by such a disposition
sends : (n : ℕ) (given d : Disposition) → disposition n ≡ Some given → kind_sent given ≢ receive → disposition n ≡ Some d → kind_sent d ≢ receive
sends n given d e not e' is = let same : Some given ≡ Some d = sym e ∙ e' in not (let g : given ≡ d = cc in ap kind_sent g ∙ is)

not_send : send ≢ receive
not_send e = cc

not_once : send_once ≢ receive
not_once e = cc

pub sendable_sends : (n : ℕ) (d : Disposition) → IsSendable n → disposition n ≡ Some d → kind_sent d ≢ receive
sendable_sends n d able e = grind (arith, six, sends, not_send, not_once)

header_good : (bytes : List ℕ) → ((code : ℕ) → ¬ (TextRefuses bytes code)) → ¬ (BadHeader (word_at bytes 0) (word_at bytes 12))
header_good bytes un bad =
    un (msg_number SendInvalidHeader) (inl (inr (
      λ h. un (msg_number SendMsgTooSmall) (inl (inl (h, refl))),
      inr (λ h. un (msg_number SendInvalidData) (inl (inr (λ g. un (msg_number SendMsgTooSmall) (inl (inl (g, refl))), inl (h, refl)))), inl (bad, refl)),
    )))

sendable : (n : ℕ) → ¬ (¬ (IsSendable n)) → IsSendable n
sendable n not = grind arith

remote_of_text : (h : Header) (w : WireBody) → h.remote_kind < 2 ^ 8 → h.local_kind < 2 ^ 8 → word_at (text h w) 0 % 2 ^ 8 ≡ h.remote_kind
remote_of_text h (raw bytes) fits small = omega arith
remote_of_text h (items xs) fits small = omega arith

local_of_text : (h : Header) (w : WireBody) → h.remote_kind < 2 ^ 8 → h.local_kind < 2 ^ 8 → word_at (text h w) 0 / 2 ^ 8 % 2 ^ 8 ≡ h.local_kind
local_of_text h (raw bytes) fits small = omega arith
local_of_text h (items xs) fits small = omega arith

module _ (bytes : List ℕ) (parsed : Parsed) (p : Parses bytes parsed) where
  good : ¬ (BadHeader (word_at bytes 0) (word_at bytes 12))
  good = header_good bytes p.message.unrefused

  remote_is : word_at bytes 0 % 2 ^ 8 ≡ parsed.remote_kind
  remote_is = grind (arith, remote_of_text)

  local_is : word_at bytes 0 / 2 ^ 8 % 2 ^ 8 ≡ parsed.local_kind
  local_is = grind (arith, local_of_text)

  pub remote_sendable : IsSendable parsed.remote_kind
  remote_sendable = subst IsSendable remote_is (sendable _ (λ n. good (inr (inl n))))

  pub local_sendable : parsed.local_kind ≢ 0 → IsSendable parsed.local_kind
  local_sendable some = subst IsSendable local_is (sendable _ (λ n. good (inr (inr (inl ((λ e. some (sym local_is ∙ e)), n))))))

-- a word that is copied in gives its disposition
word_given : (names : Names) (w : PortWord) (c : Carried) (after : Names) → CopiesWord names w c after → disposition w.disposition ≡ Some c.given
word_given names w c after = grind arith

-- the right to answer with is no receive right
pub reply_sends : (bytes : List ℕ) (parsed : Parsed) → Parses bytes parsed → (first second : Names) (reply : Option Carried) → CopiesReply first (reply_words parsed) reply second →
    (c : Carried) → reply ≡ Some c → c.given ≢ MoveReceive
reply_sends bytes parsed p first second None copies c is moves = absurd (let e : None ≡ Some c = is in cc)
reply_sends bytes parsed p first second (Some d) copies c is moves = by (parsed.local_kind == 0) refl copies
  where
    same : d ≡ c
    same = ap (λ (o : Option Carried). unwrap_or o d) is

    by : (b : Bool) → parsed.local_kind == 0 ≡ b → CopiesReply first (if b then [] else record { disposition = parsed.local_kind; name = parsed.local } ∷ []) (Some d) second → ⊥
    by true e x = x
    by false e x =
        let given = word_given first (record { disposition = parsed.local_kind; name = parsed.local }) d second x in
        let some : parsed.local_kind ≢ 0 = λ z. (let f : parsed.local_kind == 0 ≡ true = ap (λ (m : ℕ). m == 0) z in cc) in
        sendable_sends parsed.local_kind d.given (local_sendable bytes parsed p some) given (ap kind_sent (ap (λ (x : Carried). x.given) same ∙ moves))

abbrev IsGiven : PortWord → Type 0
IsGiven w = IsSome (disposition w.disposition)

sendable_given : (n : ℕ) → IsSendable n → IsSome (disposition n)
sendable_given n able = ports_given n (omega (arith, able.0), able.1)

items_given : (xs : List Wire) → All IsWire xs → All IsGiven (items_words xs)
items_given [] are = λ k d h. absurd (omega arith)
items_given (data_item f n s c bytes padding ∷ xs) are = items_given xs (All-tail IsWire (data_item f n s c bytes padding) xs are)
items_given (port_item f d words ∷ xs) are =
    let is : IsWire (port_item f d words) = All-head IsWire (port_item f d words) xs are in
    All-append IsGiven _ (items_words xs) (All-map IsGiven (λ w. record { disposition = d; name = w }) words (λ k e h. ports_given d is.1))
    (items_given xs (All-tail IsWire (port_item f d words) xs are))

body_given : (written : WireBody) → IsWireBody written → All IsGiven (body_words written)
body_given (raw bytes) is = λ k d h. absurd (omega arith)
body_given (items xs) is = items_given xs is

reply_given : (o : Option PortWord) (parsed : Parsed) → option_to_list o ≡ reply_words parsed → (parsed.local_kind ≢ 0 → IsSome (disposition parsed.local_kind)) → IfSome o IsGiven
reply_given None parsed e able = tt
reply_given (Some w) parsed e able = grind arith

pub words_given : (bytes : List ℕ) (parsed : Parsed) (p : Parses bytes parsed) (words : PortWords) → AreWords parsed p.written words → AreGiven words
words_given bytes parsed p words a = record {
  destination = subst IsGiven (sym a.destination) (sendable_given parsed.remote_kind (remote_sendable bytes parsed p));
  reply = reply_given words.reply parsed a.reply (λ some. sendable_given parsed.local_kind (local_sendable bytes parsed p some));
  body = subst (λ (ws : List PortWord). All IsGiven ws) (sym a.body) (body_given p.written p.message.spells.body_fits);
}

-- ---- the rights that go

module _ (w : WorldView) (task : ℕ) (parsed : Parsed) (written : WireBody) (space : SpaceView) (words : PortWords) (there : space_at w task ≡ Some space)
    (a : AreWords parsed written words) where
  begins : (first : Names) → Starts space.names words first → Begins w task parsed first
  begins first st = record {
    space = space;
    there = there;
    port = st.port;
    destination = st.destination;
    to_port = st.to_port;
    copies = subst (λ (x : PortWord). CopiesName space.names x st.destination first) a.destination st.copies;
  }

  pub cannot_judge : (code : MsgReturn) → (code ≡ SendNoBuffer) × (inline_words < length words.body) ⊎ CannotGo space.names words code → CannotPlan w task parsed written (msg_number code)
  cannot_judge code (inl h) = inr (inr (inr (inr (inr (subst (λ (ws : List PortWord). inline_words < length ws) a.body h.1), ap msg_number h.0))))
  cannot_judge code (inr (inl h)) =
      inl (record { space = space; there = there; nowhere = subst (λ (x : PortWord). LeadsNowhere space.names x) a.destination h.1 }, ap msg_number h.0)
  cannot_judge code (inr (inr (inl h))) =
      let bad = h.1.2 in
      inr (inl (record { first = h.1.0; begins = begins h.1.0 h.1.1; word = bad.0; is = sym a.reply ∙ bad.1; bad = bad.2 }, ap msg_number h.0))
  cannot_judge code (inr (inr (inr h))) =
      inr (inr (inl (
        record {
          first = h.1.0;
          begins = begins h.1.0 h.1.1;
          reply = h.1.2;
          second = h.1.3;
          copies = subst (λ (ws : List PortWord). CopiesReply h.1.0 ws h.1.2 h.1.3) a.reply h.1.4;
          bad = subst (λ (ws : List PortWord). BodyIsBad h.1.3 ws) a.body h.1.5;
        },
        ap msg_number h.0,
      )))

  module _ (rights : Rights) (carried : List Carried) (g : GoAll space.names words rights carried) where
    abbrev pub judged_of : Judged w task parsed written
    judged_of = record {
      space = space;
      there = there;
      destination = rights.destination;
      port = rights.port;
      to_port = g.to_port;
      first = g.first;
      copies_destination = subst (λ (x : PortWord). CopiesName space.names x rights.destination g.first) a.destination g.destination;
      reply = rights.reply;
      second = g.others.second;
      copies_reply = subst (λ (ws : List PortWord). CopiesReply g.first ws rights.reply g.others.second) a.reply g.others.reply;
      rights = carried;
      last = g.others.last;
      copies_body = subst (λ (ws : List PortWord). CopiesBody g.others.second ws carried g.others.last) a.body g.others.body;
    }

    pub cannot_admit : (cs : List Carried) → cs ≡ carried → (code : MsgReturn) → MayNotGo w rights cs code → CannotPlan w task parsed written (msg_number code)
    cannot_admit cs same code h = refused (subst (λ (xs : List Carried). MayNotGo w rights xs code) same h)
      where
        as_many : length (body_words written) ≡ length carried
        as_many = sym (ap length a.body) ∙ all_length g.others.second g.others.last words.body carried g.others.body

        refused : MayNotGo w rights carried code → CannotPlan w task parsed written (msg_number code)
        refused (inl l) = inr (inr (inr (inl (judged_of, inl (l.0, ap msg_number l.1)))))
        refused (inr (inl l)) = inr (inr (inr (inr (inr (let n = as_many in let many = l.0 in omega (arith, many, n)), ap msg_number l.1))))
        refused (inr (inr (inl l))) = inr (inr (inr (inl (judged_of, inr (inl (l.0, l.1, ap msg_number l.2))))))
        refused (inr (inr (inr l))) = inr (inr (inr (inl (judged_of, inr (inr (l.0, l.1, l.2, ap msg_number l.3))))))

    abbrev pub admitted : (cs : List Carried) → cs ≡ carried → MayGo w rights cs → Plans w task parsed written
    admitted cs same h =
        let may : MayGo w rights carried = subst (MayGo w rights) same h in
        record { judged = judged_of; no_loop = may.0; slot = may.1; few = may.2 }

    pub port_lives : AreTied space.names w.ports w.ledger → IsLive w.ports rights.port
    port_lives tied = grind (arith, keeps)

    pub destination_sends : IsSendable parsed.remote_kind → kind_sent rights.destination.given ≢ receive
    destination_sends able = grind (arith, sendable_sends)
