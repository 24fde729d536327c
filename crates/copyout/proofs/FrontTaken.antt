-- The front message of a port is taken, and its rights are given.
use Rattle.std.proofs.Common.{◌≡◌, ℕ, ◌+◌, ◌%◌, ◌^◌, ◌<◌, List, [], ◌∷◌, refl, sym, ap, subst, ◌∙◌, arith, add-one, true, false, Bool, inl, inr, drop, ◌*◌, ◌≤◌, ◌++◌, Option, Some, None, length, All, length-append}
use Rattle.std.specs.Prelude.{◌≢◌, if◌then◌else◌, ◌&&◌, slice_get, is_some, min}
use Rattle.std.proofs.lemmas.Bool.{eq-eqb}
use Rattle.std.proofs.lemmas.Bool.Decides.{eqb_tells}
use Rattle.std.specs.Option.{option_map, option_to_list}
use Rattle.std.proofs.lemmas.List.{length-drop}
use Rattle.std.proofs.lemmas.List.Elements.{All-drop}
use Rattle.mach_types.specs.Tokens.{Kind, receive, send, send_once, same_kind, Place, in_message, in_request, Token, token, weigh, count, is_of, is_held, Moves}
use Rattle.mach_types.specs.Messages.{to_port, Entry, Mark, Message}
use Rattle.mach_types.specs.Numbers.{kind_number, most_bytes}
use Rattle.mach_types.specs.Grammar.{WireBody, Spells, IsHeader, body_text}
use Rattle.mach_types.specs.Grammar as wire
use Rattle.mach_types.specs.Bodies.{reply_words, body_words, message_rights, SameReply, SameBody, Through}
use Rattle.mach_model.specs.State.{State, held, queue, Target, lookup}
use Rattle.mach_model.specs.Death.{same_place}
use Rattle.mach_model.specs.Carried.{lying, mark_count, message_count, rights_count}
use Rattle.mach_model.specs.Receive.{with_taken, Receives}
use Rattle.mach_model.specs.Lawful.{IsLawful, tally}
use Rattle.mach_model.proofs.Names.{both_test, length-weigh, at_own, at_other}
use Rattle.mach_model.specs.CopyOut.{GiveWord}
use Rattle.mach_model.specs.ReceivedMeans.{IsReceived}
use Rattle.mach_model.proofs.Moving.{IsMoving, IsOutside}
use Rattle.mach_model.proofs.MessagesLawful.{taken_moving, lies, Receives-removes}
use Rattle.message_codec.specs.declared.header.Header.{Header}
use Rattle.message_codec.specs.Parses.{is_items}
use Rattle.message_codec.specs.Received.{header_text, received_body}
use Rattle.message_codec.specs.Spans.{word_count, body_spans}
use Rattle.message_codec.proofs.Spelling.{received-spells}
use Rattle.rights.specs.declared.RightKind.{RightKind}
use Rattle.rights.specs.declared.RightKind.TheVariants as right
use Rattle.rights.specs.Ledger.{taken}
use Rattle.name_space.specs.declared.Entry.{Entry as Named}
use Rattle.name_space.specs.Entry.{port_named}
use Rattle.name_space.specs.Names.{SpaceView}
use Rattle.port.specs.Ports.{PortView, with_port}
use Rattle.copyin_base.specs.Kept.{Kept, message_of, body_given}
use Rattle.copyin_base.specs.Worlds.{WorldView, NoneLost, entry_in, entry_at, space_at}
use Rattle.copyin_base.specs.Requests.{notify_of}
use Rattle.copyin_base.specs.Shows.{came_by_once, onces_queued, ShowsPort, CountsAgree, Agrees, HoldersAgree, CarriersAgree, RequestsStand, target_of, SlotsSuffice, Shows}
use Rattle.copyin_base.proofs.Agreeing.{live_put, ports_put}
use Rattle.copyin_base.proofs.Carriers.{carriers_taken}
use Rattle.copyin_base.proofs.Counting.{right_taken, once_taken, queues_same}
use Rattle.copyin_base.proofs.Requested.{requested_put}
use Rattle.copyin_base.proofs.Requesting.{requests_stay}
use Rattle.copyin_base.proofs.Holders.{put_holders, holders_ports}
use Rattle.copyin_base.proofs.Taking.{Without, take_lying}
use Rattle.copyin_base.specs.declared.Carried.{Carried}
use Rattle.copyin_base.specs.Changes.{NotesSenderless, NotesSenders}
use Rattle.copyin_base.specs.Posted.{IsLeft}
use Rattle.copyin_base.proofs.Listed.{none_listed}
use Rattle.copyin_base.proofs.SendersNoted.{noted_agrees, noted_holders, noted_carriers, noted_slots, noted_requested, noted_none_lost}
use Rattle.copyin_base.proofs.Changing.{target_named}
use Rattle.copyin_base.proofs.KeptEntries.{rights_of, message_kept}
use Rattle.copyout.specs.Takes.{TakesFront, TakesMessage, NotesFront, reversed, reply_number, reply_word, body_names}
use Rattle.copyout.proofs.Fronts.{HasFront_fronts as HasFront, behind_of, shown_front, shown_lives, shown_is_front, by_note, front_notes}
use Rattle.copyout.proofs.GivenAll.{AreLying, AllGiven, all_given, AreSound, each_keeps, IsWord, each_fits, body_words_count, rights_length, length-body}
use Rattle.copyout.specs.Giving.{GivesAll}
use Rattle.copyout.proofs.Delivered.{gives_length, all_slots, front_slots}
use Rattle.copyout.proofs.Rights.{seconds, BodyReceived, body_received, reply_received, words_received}
use Rattle.copyout.proofs.Rooms.{front_none_lost}

-- ---- The front message of a port is taken: the machine's state, with which the tables agree.

-- ---- counts of the right by which it goes

abbrev pub kind_by : Bool → Kind
kind_by b = if b then send_once else send

abbrev pub right_by : Bool → RightKind
right_by b = if b then right.Destination else right.Send

-- ---- the state

module _ (w : WorldView) (s : State) (a : Agrees w s) (l : IsLawful s) (p : ℕ) (w' : WorldView) (f : TakesFront w p w') where
  shows : ShowsPort f.v s p
  shows = a.ports p f.v f.there

  abbrev pub front : HasFront p f.front f.behind (queue s p)
  front = shown_front w s a p f.v f.there f.front f.behind f.queue

  abbrev pub entry : Entry
  entry = front.first

  abbrev pub port_lives : s.live_port p ≡ true
  port_lives = shown_lives w s a p f.v f.there f.front f.behind f.queue

  -- it goes to the port by this kind of right
  pub kind_of_front : entry.message.kind ≡ kind_by f.front.by_once
  kind_of_front = ap (λ x. x.kind) front.keeps.message_is

  abbrev pub place : Place
  place = in_message p (s.taken p)

  lies_taken : 0 < lying s (kind_by f.front.by_once) p place
  lies_taken =
      let c = l.carried p 0 entry port_lives (ap (λ (es : List Entry). slice_get es 0) front.parts) (kind_by f.front.by_once) p port_lives in
      let n : message_count (kind_by f.front.by_once) p entry.message ≡ message_count (kind_by f.front.by_once) p (message_of p f.front front.keeps.written) = ap (message_count (kind_by f.front.by_once) p) front.keeps.message_is in
      let own = own_count f.front.by_once in
      let same : lying s (kind_by f.front.by_once) p (in_message p (s.taken p + 0)) ≡ lying s (kind_by f.front.by_once) p place = ap (λ (i : ℕ). lying s (kind_by f.front.by_once) p (in_message p i)) (omega arith) in
      omega (arith, c, n, own, same)
    where
      own_count : (b : Bool) → mark_count (kind_by b) p (kind_by b) (to_port p) ≡ 1
      own_count true = rw (eq-eqb p p refl) refl
      own_count false = rw (eq-eqb p p refl) refl

  pub left : Without (token (kind_by f.front.by_once) p place) s.ledger
  left = take_lying p (s.taken p) (kind_by f.front.by_once) p s.ledger lies_taken

  -- the state once it was taken
  abbrev pub taken_state : State
  taken_state = record (with_taken p s) { ledger = left.others }

  pub taken_moves : Moves s.ledger taken_state.ledger (token entry.message.kind p place ∷ []) []
  taken_moves h = grind (arith, left, kind_of_front)

  -- ---- the tables

  abbrev going : Token
  going = token (kind_by f.front.by_once) p place

  tokens_for : (test : Token → Bool) → count test taken_state.ledger + (if test going then 1 else 0) ≡ count test s.ledger
  tokens_for test = left.parts (λ x. if test x then 1 else 0)

  held_same : (task : ℕ) (kind : Kind) (q : ℕ) → held taken_state task kind q ≡ held s task kind q
  held_same task kind q = let m = tokens_for (is_held task kind q) in let z = both_test (is_of kind q going) false (inr refl) in omega (arith, m, z)

  abbrev shorter : PortView Kept
  shorter = record f.v { queue = f.behind; attributes = record f.v.attributes { sequence = (f.v.attributes.sequence + 1) % 2 ^ 32 } }

  abbrev after : WorldView
  after = record w {
    ports = record (with_port w.ports p shorter) { spare = w.ports.spare + 1 };
    ledger = taken w.ledger p (right_by f.front.by_once) 1;
  }

  queue_is : queue taken_state p ≡ front.others
  queue_is = ap (λ (n : ℕ). drop n (s.log p)) (at_own s.taken p (s.taken p + 1) ∙ add-one (s.taken p)) ∙ behind_of (s.taken p) (s.log p) front.first front.others front.parts

  here : ShowsPort shorter taken_state p
  here = grind (arith, queue_is, shows, at_own)

  there : (q : ℕ) (v : PortView Kept) → q ≢ p → ShowsPort v s q → ShowsPort v taken_state q
  there q v not x = grind (arith, at_other)

  -- those that go by send-once rights
  behind_is : onces_queued taken_state p ≡ tally came_by_once front.others
  behind_is = ap (tally came_by_once) queue_is

  came : (b : Bool) → f.front.by_once ≡ b → came_by_once entry ≡ b
  came true is = ap (λ (c : Kind). same_kind send_once c) (kind_of_front ∙ ap kind_by is)
  came false is = ap (λ (c : Kind). same_kind send_once c) (kind_of_front ∙ ap kind_by is)

  onces_here : (b : Bool) → f.front.by_once ≡ b → onces_queued taken_state p + (if b then 1 else 0) ≡ onces_queued s p
  onces_here b is = grind (arith, came, behind_is)

  onces_there : (q : ℕ) → (q ≡ p → ⊥) → onces_queued s q ≡ onces_queued taken_state q
  onces_there q not = ap (λ (n : ℕ). tally came_by_once (drop n (s.log q))) (sym (at_other s.taken p (s.taken p + 1) q not))

  counted : (b : Bool) → f.front.by_once ≡ b → ((h : Token → ℕ) → weigh h left.others + h (token (kind_by b) p place) ≡ weigh h s.ledger) →
      (q : ℕ) → CountsAgree (taken w.ledger p (right_by b) 1) s.live_port left.others (onces_queued taken_state) q
  counted true is parts = once_taken w.ledger s.live_port s.ledger (onces_queued s) a.counts (onces_queued taken_state) p port_lives onces_there place left.others parts (onces_here true is)
  counted false is parts =
      queues_same (taken w.ledger p right.Send 1) s.live_port left.others (onces_queued s)
      (right_taken w.ledger s.live_port s.ledger (onces_queued s) a.counts send p place port_lives (λ e. (cc)) left.others parts)
      (onces_queued taken_state) (λ q. elim (eqb_tells q p) [
        | inl h ↦ subst (λ (n : ℕ). onces_queued s n ≡ onces_queued taken_state n) (sym h.1) (let o = onces_here false is in omega (arith, o))
        | inr h ↦ onces_there q h.1
      ])

  after_agrees : Agrees after taken_state
  after_agrees = record {
    spaces = a.spaces;
    rights = record { references = λ task name x q is named. let r = a.references task name x q is named in (held_same task receive q ∙ r.0, held_same task send q ∙ r.1) };
    live_port = live_put w.ports.ports p shorter s.live_port port_lives a.live_port;
    ports_made = a.ports_made;
    ports = ports_put w.ports.ports p shorter taken_state here (λ q v not is. there q v not (a.ports q v is));
    counts = counted f.front.by_once refl left.parts;
    total = let m = left.parts (λ x. 1) in omega (arith, m, a.total, length-weigh s.ledger, length-weigh taken_state.ledger);
    in_sets = a.in_sets;
    of_requests = requests_stay (notify_of w.requests) w.requests.names.went w.ports.made w.ports.made s.stands s.stands s.live_port s.live_port s.ledger left.others a.of_requests (omega arith) (λ r. refl) (λ q less. refl) (λ r kind q.
        let m = tokens_for (λ x. is_of kind q x && same_place (in_request r) x.place) in
        let z = both_test (is_of kind q going) false (inr refl) in omega (arith, m, z));
  }

  -- The tables agree with it.
  pub front_agrees : Agrees w' taken_state
  front_agrees = subst (λ (x : WorldView). Agrees x taken_state) (sym f.rest) after_agrees

-- Each port still knows who holds its receive right.
pub front_holders : (w : WorldView) (p : ℕ) (w' : WorldView) → TakesFront w p w' → HoldersAgree w → HoldersAgree w'
front_holders w p w' f h = grind (arith, holders_ports, put_holders)

-- ... and so does each whose receive right a message carries that is queued behind it
pub front_carriers : (w : WorldView) (p : ℕ) (w' : WorldView) → TakesFront w p w' → CarriersAgree w → CarriersAgree w'
front_carriers w p w' f c = carriers_taken w w' c p f.v
    (record f.v { queue = f.behind; attributes = record f.v.attributes { sequence = (f.v.attributes.sequence + 1) % 2 ^ 32 } }) f.front f.there
    (ap (λ (x : WorldView). x.ports.made) f.rest) (ap (λ (x : WorldView). x.ports.ports) f.rest) f.queue refl

-- Requests stand where they stood.
pub front_requested : (w : WorldView) (p : ℕ) (w' : WorldView) → TakesFront w p w' → RequestsStand w → RequestsStand w'
front_requested w p w' f r = grind (arith, requested_put)

-- ---- A message that is received in the tables is received by the machine.

-- ---- words of a reply

names_fit : (reply : Option Carried) (words : List ℕ) → All IsWord words → All IsWord (body_names reply words)
names_fit None words fit = fit
names_fit (Some c) words fit = All-drop IsWord 1 words fit

reply_fits : (reply : Option Carried) (words : List ℕ) → All IsWord words → reply_word reply words < 2 ^ 32
reply_fits None words fit = omega arith
reply_fits (Some c) [] fit = omega arith
reply_fits (Some c) (w ∷ ws) fit = fit 0 w (omega arith)

number_fits : (reply : Option Carried) → reply_number reply < 2 ^ 8
number_fits None = omega arith
number_fits (Some c) = grind arith

abbrev local_number : Bool → ℕ
local_number b = if b then 18 else 17

local_is : (b : Bool) → local_number b ≡ kind_number (kind_by b)
local_is true = refl
local_is false = refl

local_fits : (b : Bool) → local_number b < 2 ^ 8
local_fits true = omega arith
local_fits false = omega arith

complex_is : (written : WireBody) (names : List ℕ) (b : Bool) → b ≡ is_items written → (if b then 2 ^ 31 else 0) ≡ wire.complex_bit (received_body written names)
complex_is (WireBody.raw bytes) names b e = rw e refl
complex_is (WireBody.items xs) names b e = rw e refl

length-header : (h : Header) → length (header_text h) ≡ 24
length-header h = refl

some_space : (o : Option SpaceView) (name : ℕ) (x : Named) → entry_in o name ≡ Some x → is_some o ≡ true
some_space (Some space) name x e = refl
some_space None name x e = absurd (let e' : None ≡ Some x = e in cc)

-- The machine's receipt, which the tables w were before, and that they agree with what it leaves, and tell what the step's end has to do.
pub record Received (w : WorldView) (s : State) (task port room : ℕ) (bytes : List ℕ) (new : WorldView) : Type 0 where
  pub t : State
  pub receives : Receives task port room bytes s t
  pub agrees : Agrees new t
  pub holders : HoldersAgree new
  pub carriers : CarriersAgree new
  pub slots : SlotsSuffice new
  pub requested : RequestsStand new
  pub notes : NotesSenders w new
  pub none_lost : NoneLost new
  pub left : IsLeft new t

module _ (w : WorldView) (s : State) (sh : Shows w s) (task port local : ℕ) (bytes : List ℕ) (w' : WorldView) (m : TakesMessage w task port local bytes w')
    (x : Named) (found : entry_at w task local ≡ Some x) (named : port_named x ≡ Some port) where
  abbrev kept : Kept
  kept = m.takes.front

  abbrev carried : List Carried
  carried = option_to_list kept.reply ++ kept.rights

  abbrev a : Agrees w s
  a = sh.agrees

  abbrev l : IsLawful s
  l = sh.lawful

  is_task : s.live_task task ≡ true
  is_task = sym (a.live_task task) ∙ some_space (space_at w task) local x found

  local_name : lookup s task local ≡ Some (Target.port port)
  local_name = a.naming task local ∙ ap (option_map target_of) found ∙ ap Some (target_named x port named)

  lives : s.live_port port ≡ true
  lives = port_lives w s a l port m.mid m.takes

  abbrev is : HasFront port kept m.takes.behind (queue s port)
  is = front w s a l port m.mid m.takes

  abbrev t0 : State
  t0 = taken_state w s a l port m.mid m.takes

  abbrev written : WireBody
  written = is.keeps.written

  on_way : IsMoving t0 port (s.taken port)
  on_way = taken_moving s port is.first t0.ledger l lives (shown_is_front w s a port m.takes.v m.takes.there kept m.takes.behind m.takes.queue) (taken_moves w s a l port m.mid m.takes)

  are_lying : AreLying t0 port (s.taken port) carried
  are_lying kind q live =
      let c = lies s port is.first t0.ledger l lives (shown_is_front w s a port m.takes.v m.takes.there kept m.takes.behind m.takes.queue) (taken_moves w s a l port m.mid m.takes) kind q live in
      let n : rights_count kind q (message_rights is.first.message) ≡ rights_count kind q (rights_of carried) = ap (rights_count kind q) (message_kept port kept is.first.message is.keeps) in
      omega (arith, c, n)

  abbrev names : List ℕ
  names = body_names kept.reply m.words

  words_length : length m.words ≡ length carried
  words_length = gives_length m.mid w' task carried m.words m.gives

  long : length (option_to_list kept.reply) ≤ length m.words
  long = let e = words_length in omega (arith, e, length-append (option_to_list kept.reply) kept.rights)

  names_long : length names ≡ length kept.rights
  names_long = grind (arith, words_length, length-drop)

  body_first : BodyReceived written kept.rights names
  body_first = body_received written is.keeps.laid_out.fits kept.rights names is.keeps.given names_long

  -- the words that the text has, each with its number
  abbrev ws : List (ℕ × ℕ)
  ws = reply_words (reply_number kept.reply) (reply_word kept.reply m.words) ++ body_words (received_body written names)

  words_are : seconds ws ≡ m.words
  words_are = words_received kept.reply m.words (body_words (received_body written names)) long body_first.are

  -- the entry was taken
  outside : IsOutside t0 port (s.taken port)
  outside = inl (let own : t0.taken port ≡ s.taken port + 1 = at_own s.taken port (s.taken port + 1) in omega (arith, own))

  sound : AreSound m.mid
  sound = record {
    holders = front_holders w port m.mid m.takes sh.holders;
    carriers = front_carriers w port m.mid m.takes sh.carriers;
    requested = front_requested w port m.mid m.takes sh.requested;
    none_lost = front_none_lost w m.mid port m.takes sh.idle.none_lost;
  }

  all : AllGiven task port (s.taken port) carried m.mid t0 ws w'
  all = all_given carried ws m.mid t0 (front_agrees w s a l port m.mid m.takes) sound port (s.taken port) task
      record { moving = on_way; outside = outside; is_task = is_task; lie = are_lying } w'
      (subst (λ (xs : List ℕ). GivesAll m.mid task carried xs w') (sym words_are) m.gives)

  -- ---- the bytes

  words_fit : All IsWord m.words
  words_fit = subst (All IsWord) words_are (each_fits task port (s.taken port) t0 ws (rights_of carried) all.t on_way is_task all.gives)

  names_count : length names ≡ word_count (body_spans written)
  names_count = names_long ∙ rights_length kept.rights (body_given written) is.keeps.given ∙ body_words_count written

  abbrev head : Header
  head = reversed kept local m.takes.v.attributes.sequence m.words

  abbrev header : wire.Header
  header = record {
    remote_kind = reply_number kept.reply;
    local_kind = local_number kept.by_once;
    size = length kept.bytes;
    remote = reply_word kept.reply m.words;
    local = local;
    sequence = m.takes.v.attributes.sequence;
    id = kept.id;
  }

  text_is : bytes ≡ header_text head ++ body_text (received_body written names)
  text_is = m.text written is.keeps.laid_out

  -- A message is as long as it was when it was sent.
  pub length_is : length bytes ≡ length kept.bytes
  length_is = grind (
    arith,
    length-append (header_text head) (body_text (received_body written names)),
    length-header head,
    length-body written names names_count,
    length-drop 24 kept.bytes,
    is.keeps.laid_out.room,
  )

  sequence_is : m.takes.v.attributes.sequence ≡ s.sequence port
  sequence_is = (a.ports port m.takes.v m.takes.there).sequence

  header_fits : IsHeader header
  header_fits = record {
    remote_kind = number_fits kept.reply;
    local_kind = local_fits kept.by_once;
    size = let f = is.keeps.few in omega (arith, f);
    remote = reply_fits kept.reply m.words words_fit;
    local = (l.naming task).name_fits local (Target.port port) local_name;
    sequence = let f = l.sequence_fits port in let e = sequence_is in omega (arith, f, e);
    id = is.keeps.id_fits;
  }

  spells : Spells bytes header (received_body written names)
  spells = subst (λ (t : List ℕ). Spells t header (received_body written names)) (sym text_is)
      (received-spells head header kept.bytes kept.spans written names is.keeps.laid_out
      (names_count ∙ sym (ap word_count is.keeps.laid_out.spans_are)) (names_fit kept.reply m.words words_fit)
      (ap (λ (n : ℕ). reply_number kept.reply + local_number kept.by_once * 2 ^ 8 + n) (complex_is written names kept.is_complex is.keeps.is_complex))
      refl refl refl refl refl header_fits)

  -- ---- the receipt

  module _ (room : ℕ) (fits : length kept.bytes ≤ min room most_bytes) where
    receives : Receives task port room bytes s all.t
    receives = record {
      e = is.first;
      taken = t0;
      takes = record { front = shown_is_front w s a port m.takes.v m.takes.there kept m.takes.behind m.takes.queue; rest = refl; tokens = taken_moves w s a l port m.mid m.takes };
      header = header;
      written = received_body written names;
      reply = subst (λ (y : Message). SameReply IsReceived (reply_number kept.reply) (reply_word kept.reply m.words) y.reply) (sym is.keeps.message_is) (reply_received kept.reply m.words long);
      body = subst (λ (y : Message). SameBody IsReceived (received_body written names) y.body) (sym is.keeps.message_is) body_first.same;
      rights = subst (λ (rs : List (Kind × Mark)). Through (GiveWord task (in_message port (s.taken port))) t0 ws rs all.t) (sym (message_kept port kept is.first.message is.keeps)) all.gives;
      kind = local_is kept.by_once ∙ sym (ap kind_number (kind_of_front w s a l port m.mid m.takes));
      local = each_keeps task (in_message port (s.taken port)) t0 ws (rights_of carried) all.t all.gives local (Target.port port) local_name;
      size = sym length_is;
      sequence = sequence_is;
      id = sym (ap (λ (y : Message). y.id) is.keeps.message_is);
      spells = spells;
      fits = let e = length_is in omega (arith, e, fits);
    }

    slots : SlotsSuffice w'
    slots = all_slots carried m.words m.mid w' task m.gives (front_slots w port m.mid m.takes sh.slots)

    -- The message is received, the port is noted where it came by its last send right, and the tables agree with the state that this leaves.
    pub message_received : (new : WorldView) → NotesFront w' port kept new → Received w s task port room bytes new
    message_received new notes = record {
      t = all.t;
      receives = receives;
      agrees = noted (λ x. Agrees x all.t) (λ n. noted_agrees w' new port n all.t all.agrees) all.agrees;
      holders = noted HoldersAgree (λ n. noted_holders w' new port n all.stay.sound.holders) all.stay.sound.holders;
      carriers = noted CarriersAgree (λ n. noted_carriers w' new port n all.stay.sound.carriers) all.stay.sound.carriers;
      slots = noted SlotsSuffice (λ n. noted_slots w' new port n slots) slots;
      requested = noted RequestsStand (λ n. noted_requested w' new port n all.stay.sound.requested) all.stay.sound.requested;
      notes = front_notes w s sh port m.mid m.takes w' all.stay.senders new notes;
      none_lost = no_port_lost;
      left = record {
        doomed = no_port_lost.doomed;
        destroyed = no_port_lost.destroyed;
        lost = λ p c. absurd (none_listed new.ports.lost no_port_lost.lost p c);
        orphans = λ p o. let one = on_way_still.one_receive p o.0 in let zero = o.1 in absurd (omega (arith, one, zero));
      };
    }
      where
        noted : (P : WorldView → Type 0) → (NotesSenderless w' port new → P new) → P w' → P new
        noted P kept_by before = by_note P kept.by_once w' new port kept_by before notes

        no_port_lost : NoneLost new
        no_port_lost = noted NoneLost (λ n. noted_none_lost w' new port n all.stay.sound.none_lost) all.stay.sound.none_lost

        -- each port that lives has its receive right
        on_way_still : IsMoving all.t port (s.taken port)
        on_way_still = (Receives-removes task port room bytes s all.t l lives is_task receives).keeps
