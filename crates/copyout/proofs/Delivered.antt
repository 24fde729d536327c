-- A message that was taken: its rights are given.
use Rattle.std.proofs.Common.{◌≡◌, ℕ, ◌+◌, ◌*◌, ◌^◌, List, [], ◌∷◌, ◌++◌, Option, Some, None, refl, sym, ap, subst, ◌∙◌, arith, length, ◌≢◌, Bool, true, false, inl, inr}
use Rattle.std.specs.Prelude.{if◌then◌else◌, MatchBool, MatchOption, max, is_some}
use Rattle.std.specs.Option.{option_to_list}
use Rattle.std.specs.FinMap as map
use Rattle.mach_types.specs.Numbers.{kind_sent, dead_word, null_word}
use Rattle.mach_types.specs.Rights.{disposition_number}
use Rattle.mach_types.specs.Grammar.{WireBody, body_text}
use Rattle.mach_types.specs.Tokens.{Kind, receive, send, send_once}
use Rattle.message_codec.specs.declared.header.Header.{Header}
use Rattle.message_codec.specs.Received.{header_text, received_body, IsLaidOut}
use Rattle.message_codec.specs.declared.spans.Span.{Span}
use Rattle.message_codec.specs.Short.{one_word_span}
use Rattle.rights.specs.Ledger.{LedgerView, taken}
use Rattle.name_space.specs.Names.{Names, SpaceView, port_at}
use Rattle.name_space.proofs.Keys.{some_or_none}
use Rattle.name_space.specs.declared.Entry.{Entry}
use Rattle.port.specs.Ports.{PortsView}
use Rattle.copyin_base.specs.declared.Carried.{Carried}
use Rattle.copyin_base.specs.Kept.{Kept, IsMessageOf}
use Rattle.copyin_base.specs.Worlds.{WorldView, space_at, port_at as table_at}
use Rattle.copyin_base.specs.Changes.{MakesRoom}
use Rattle.copyin_base.specs.declared.Mark.{Mark}
use Rattle.copyin_base.specs.declared.Mark.TheVariants as mark
use Rattle.copyin_base.proofs.Gets.{same_found}
use Rattle.copyin_base.proofs.Spaces.{space-set_same}
use Rattle.copyin_base.specs.Shows.{SlotsSuffice}
use Rattle.copyin_base.proofs.Slots.{slots_kept, slots_same}
use Rattle.copyout.specs.Giving.{GivesMark, GivesAll, GivesPort, ledger_joined}
use Rattle.copyout.specs.Takes.{TakesFront, TakesMessage, NotesFront, reply_number, reply_word, body_names}
use Rattle.copyout.specs.Ready.{CanGive, Delivers, carried_by, CanTakeName, IsNumbered}
use Rattle.copyout.proofs.PortsGiven.{can_give_one, can_give_rest, can_give_port, can_take}
use Rattle.copyout.specs.Room.{Needs, OwnsAlone, Shares}
use Rattle.copyout.proofs.Rooms.{front_live, front_there}
use Rattle.copyout.specs.declared.short.Short.{Short}
use Rattle.copyout.specs.Short.{IsShort, OwnsFor, TellsOwn, body_right, own_names}
use Rattle.copyout.proofs.Counting.{needs_alone}
use Rattle.copyout.specs.Putting.{PutsPort}
use Rattle.copyout.proofs.Counted.{put_world, gives_puts}
use Rattle.copyout.proofs.Given.{put_keeps, given_keeps}

-- ---- A message that was taken: the right to answer with is given first, then those of the body.

pub can_reply : (w : WorldView) (task : ℕ) (reply : Option Carried) (rights : List Carried) → CanGive w task (option_to_list reply ++ rights) → CanGive w task (option_to_list reply)
can_reply w task None rights g = record {
  space = g.space;
  there = g.there;
  enough = λ h. absurd h;
  room = λ h. absurd h;
  entered = g.entered;
  counted = λ p live. omega arith;
  none_lost = g.none_lost;
}
can_reply w task (Some c) rights g = can_give_one w task c rights g

pub can_rights : (w mid : WorldView) (task : ℕ) (reply : Option Carried) (rights : List Carried) (words : List ℕ) → CanGive w task (option_to_list reply ++ rights) →
    GivesAll w task (option_to_list reply) words mid → CanGive mid task rights
can_rights w mid task None rights [] g h = subst (λ (x : WorldView). CanGive x task rights) (sym h) g
can_rights w mid task None rights (word ∷ words) g h = absurd h
can_rights w mid task (Some c) rights [] g h = absurd h
can_rights w mid task (Some c) rights (word ∷ []) g h =
    can_give_rest w mid task c rights word g (subst (λ (x : WorldView). GivesMark w task (kind_sent c.given) c.mark word x) (sym h.2) h.1)
can_rights w mid task (Some c) rights (word ∷ other ∷ words) g h = absurd h.2

pub gives_length : (w new : WorldView) (task : ℕ) (carried : List Carried) (words : List ℕ) → GivesAll w task carried words new → length words ≡ length carried
gives_length w new task [] [] h = refl
gives_length w new task [] (word ∷ words) h = absurd h
gives_length w new task (c ∷ cs) [] h = absurd h
gives_length w new task (c ∷ cs) (word ∷ words) h = let e = gives_length h.0 new task cs words h.2 in omega arith

record Both (w new : WorldView) (task : ℕ) (reply : Option Carried) (rights : List Carried) (first names : List ℕ) : Type 0 where
  words : List ℕ
  gives : GivesAll w task (option_to_list reply ++ rights) words new
  remote : reply_word reply words ≡ reply_word reply first
  body : body_names reply words ≡ names

both : (w mid new : WorldView) (task : ℕ) (reply : Option Carried) (rights : List Carried) (first names : List ℕ) → GivesAll w task (option_to_list reply) first mid →
    GivesAll mid task rights names new → Both w new task reply rights first names
both w mid new task None rights [] names h k = grind arith
both w mid new task None rights (word ∷ words) names h k = absurd h
both w mid new task (Some c) rights [] names h k = absurd h
both w mid new task (Some c) rights (word ∷ []) names h k = record {
  words = word ∷ names;
  gives = (h.0, h.1, subst (λ (x : WorldView). GivesAll x task rights names new) h.2 k);
  remote = refl;
  body = refl;
}
both w mid new task (Some c) rights (word ∷ other ∷ words) names h k = absurd h.2

same_header : (h : Header) (bits size remote local sequence id : ℕ) → h.bits ≡ bits → h.size ≡ size → h.remote ≡ remote → h.local ≡ local → h.sequence ≡ sequence → h.id ≡ id →
    ◌≡◌ {A = Header} h (record { bits = bits; size = size; remote = remote; local = local; sequence = sequence; id = id })
same_header h bits size remote local sequence id a b c d e f = λ i. record { bits = a i; size = b i; remote = c i; local = d i; sequence = e i; id = f i }

pub delivers : (old mid new : WorldView) (task : ℕ) (m : Kept) (local sequence : ℕ) (first names bytes : List ℕ) (h : Header) →
    GivesAll old task (option_to_list m.reply) first mid → GivesAll mid task m.rights names new →
    h.bits ≡ reply_number m.reply + (if m.by_once then 18 else 17) * 2 ^ 8 + (if m.is_complex then 2 ^ 31 else 0) →
    h.size ≡ length m.bytes → h.remote ≡ reply_word m.reply first → h.local ≡ local → h.sequence ≡ sequence → h.id ≡ m.id →
    ((written : WireBody) → IsLaidOut m.bytes m.spans written → bytes ≡ header_text h ++ body_text (received_body written names)) →
    Delivers old task m local sequence bytes new
delivers old mid new task m local sequence first names bytes h one rest bits size remote local_is sequence_is id put = grind (arith, both old mid new task m.reply m.rights first names one rest)

-- ... and its port is noted where it came by the last send right
pub takes_message : (w mid taken new : WorldView) (task port local sequence : ℕ) (m : Kept) (bytes : List ℕ) (t : TakesFront w port mid) → IsMessageOf t.front m → sequence ≡ t.v.attributes.sequence →
    Delivers mid task m local sequence bytes taken → NotesFront taken port t.front new → (x : WorldView) × (y : TakesMessage w task port local bytes x) × NotesFront x port y.takes.front new
takes_message w mid taken new task port local sequence m bytes t is number d notes =
    let e : Delivers mid task (record t.front { told = m.told }) local t.v.attributes.sequence bytes taken =
    subst (λ (n : ℕ). Delivers mid task (record t.front { told = m.told }) local n bytes taken) number (subst (λ (x : Kept). Delivers mid task x local sequence bytes taken) is d) in
    (taken, record { mid = mid; takes = t; words = e.words; gives = e.gives; text = e.text }, notes)

-- ---- A message whose body carries no rights.

-- A message whose body carries no rights is delivered where its right to answer with, if it has one, is given, and its header is reversed.
pub delivers_raw : (w new : WorldView) (task : ℕ) (m : Kept) (local sequence : ℕ) (words bytes : List ℕ) (h : Header) → m.spans ≡ [] → m.rights ≡ [] →
    GivesAll w task (option_to_list m.reply) words new →
    h.bits ≡ reply_number m.reply + (if m.by_once then 18 else 17) * 2 ^ 8 + (if m.is_complex then 2 ^ 31 else 0) →
    h.size ≡ length m.bytes → h.remote ≡ reply_word m.reply words → h.local ≡ local → h.sequence ≡ sequence → h.id ≡ m.id →
    ((written : WireBody) → IsLaidOut m.bytes [] written → bytes ≡ header_text h ++ body_text (received_body written [])) →
    Delivers w task m local sequence bytes new
delivers_raw w new task m local sequence words bytes h no_spans no_rights gives bits size remote local_is sequence_is id put =
    delivers w new new task m local sequence words [] bytes h gives
    (subst (λ (xs : List Carried). GivesAll new task xs [] new) (sym no_rights) refl)
    bits size remote local_is sequence_is id
    (λ written laid. put written (subst (λ (ss : List Span). IsLaidOut m.bytes ss written) no_spans laid))

-- ---- A message that carries one right at most beside that of its destination: the name that the right comes under.

-- what is carried is the right, if there is one
pub carries_right : (m : Kept) (b : Short) → IsShort m b → carried_by m ≡ option_to_list b.right
carries_right m b is = grind arith

pub short_needs : (ports : PortsView Kept) (names : Names) (m : Kept) (b : Short) (n : ℕ) → IsShort m b → Needs ports names [] (option_to_list b.right) n → Needs ports names [] (carried_by m) n
short_needs ports names m b n is = subst (λ (cs : List Carried). Needs ports names [] cs n) (sym (carries_right m b is))

-- With a right to answer with, or with none, the body has none.
pub answers_only : (m : Kept) (b : Short) → IsShort m b → body_right b ≡ None → (b.right ≡ m.reply) × (m.spans ≡ []) × (m.rights ≡ [])
answers_only m b is none = grind (arith, some_or_none)

-- The right is the body's only one.
pub body_only : (m : Kept) (b : Short) (c : Carried) → IsShort m b → body_right b ≡ Some c →
    (b.right ≡ Some c) × (m.reply ≡ None) × (m.spans ≡ one_word_span (disposition_number c.given) ∷ []) × (m.rights ≡ c ∷ [])
body_only m b c is one = grind (arith, some_or_none)

-- A right that is given alone has one word, which is its name.
pub gives_one : (w new : WorldView) (task : ℕ) (right : Option Carried) (c : Carried) → right ≡ Some c → (words : List ℕ) (name : ℕ) →
    GivesAll w task (option_to_list right) words new → name ≡ reply_word right words → GivesAll w task (c ∷ []) (name ∷ []) new
gives_one w new task right c is words name gives named =
    only words (subst (λ (o : Option Carried). GivesAll w task (option_to_list o) words new) is gives) (named ∙ ap (λ (o : Option Carried). reply_word o words) is)
  where
    only : (ws : List ℕ) → GivesAll w task (c ∷ []) ws new → name ≡ reply_word (Some c) ws → GivesAll w task (c ∷ []) (name ∷ []) new
    only [] g e = absurd g
    only (word ∷ []) g e = subst (λ (n : ℕ). GivesAll w task (c ∷ []) (n ∷ []) new) (sym e) g
    only (word ∷ other ∷ ws) g e = absurd g.2

-- A message whose body is one word is delivered where its right is given, and its header is reversed: there is no right to answer with.
pub delivers_one : (w new : WorldView) (task : ℕ) (m : Kept) (c : Carried) (local sequence name : ℕ) (bytes : List ℕ) (h : Header) → m.reply ≡ None →
    m.spans ≡ one_word_span (disposition_number c.given) ∷ [] → m.rights ≡ c ∷ [] → GivesAll w task (c ∷ []) (name ∷ []) new →
    h.bits ≡ 0 + (if m.by_once then 18 else 17) * 2 ^ 8 + (if m.is_complex then 2 ^ 31 else 0) →
    h.size ≡ length m.bytes → h.remote ≡ null_word → h.local ≡ local → h.sequence ≡ sequence → h.id ≡ m.id →
    ((written : WireBody) → IsLaidOut m.bytes (one_word_span (disposition_number c.given) ∷ []) written → bytes ≡ header_text h ++ body_text (received_body written (name ∷ []))) →
    Delivers w task m local sequence bytes new
delivers_one w new task m c local sequence name bytes h no_reply spans rights gives bits size remote local_is sequence_is id put =
    delivers w w new task m local sequence [] (name ∷ []) bytes h
    (subst (λ (o : Option Carried). GivesAll w task (option_to_list o) [] w) (sym no_reply) refl)
    (subst (λ (xs : List Carried). GivesAll w task xs (name ∷ []) new) (sym rights) gives)
    (bits ∙ ap (λ (o : Option Carried). reply_number o + (if m.by_once then 18 else 17) * 2 ^ 8 + (if m.is_complex then 2 ^ 31 else 0)) (sym no_reply))
    size (remote ∙ ap (λ (o : Option Carried). reply_word o []) (sym no_reply)) local_is sequence_is id
    (λ written laid. put written (subst (λ (ss : List Span). IsLaidOut m.bytes ss written) spans laid))

-- ---- what is judged

module _ (ports : PortsView Kept) (names : Names) (c : Carried) where
  pub one_needs : (own : Option ℕ) → MatchOption own (Shares ports names [] c) (λ port. OwnsAlone ports names c port) → Needs ports names [] (c ∷ []) (own_names own)
  one_needs None shares = inr (shares, refl)
  one_needs (Some port) o = needs_alone ports names c port o

  pub own_of : (reply : Option Carried) → reply ≡ Some c → (own : Option ℕ) → MatchOption own (Shares ports names [] c) (λ port. OwnsAlone ports names c port) →
      MatchOption own (Unit {0}) (λ port. (x : Carried) × (reply ≡ Some x) × OwnsAlone ports names x port)
  own_of reply is None shares = tt
  own_of reply is (Some port) o = (c, is, o)

pub tells_own : (w : WorldView) (task : ℕ) (space : SpaceView) → space_at w task ≡ Some space → (reply : Option Carried) (own : Option ℕ) →
    MatchOption own (Unit {0}) (λ port. (x : Carried) × (reply ≡ Some x) × OwnsAlone w.ports space.names x port) → TellsOwn w task reply own
tells_own w task space there reply None h = tt
tells_own w task space there reply (Some port) h =
    let o = h.2 in
    record { carried = h.0; is = h.1; for_port = o.for_port; there = o.there; own = elim o.own [ inl once ↦ inl once | inr none ↦ inr (space, there, none) ] }

-- ---- what stays until the right is given

module _ (w new : WorldView) (task : ℕ) (live : (p : ℕ) → is_some (table_at new p) ≡ is_some (table_at w p))
    (names : (s : SpaceView) → space_at w task ≡ Some s → (t : SpaceView) × (space_at new task ≡ Some t) × (t.names ≡ s.names)) where
  stays_own : (reply : Option Carried) (own : Option ℕ) → TellsOwn w task reply own → TellsOwn new task reply own
  stays_own reply None h = tt
  stays_own reply (Some port) o = record {
    carried = o.carried;
    is = o.is;
    for_port = o.for_port;
    there = live port ∙ o.there;
    own = elim o.own [
      | inl once ↦ inl once
      | inr h ↦ let t = names h.0 h.1 in inr (t.0, t.1, λ name. subst (λ (ns : Names). port_at ns name ≢ Some port) (sym t.2) (h.2 name))
    ];
  }

-- room was made
pub roomier_own : (w new : WorldView) (task needed : ℕ) (reply : Option Carried) (own : Option ℕ) → MakesRoom w task needed new → TellsOwn w task reply own → TellsOwn new task reply own
roomier_own w new task needed reply own r =
    let after : SpaceView = record r.space { room = max r.space.room needed } in
    stays_own w new task (λ p. ap (λ (y : WorldView). is_some (table_at y p)) r.rest)
    (λ s is. (
      after,
      ap (λ (y : WorldView). space_at y task) r.rest ∙ space-set_same w.spaces task after r.space r.there,
      ap (λ (x : SpaceView). x.names) (same_found (space_at w task) r.space s r.there is),
    )) reply own

pub roomier_number : (w new : WorldView) (task needed port sequence : ℕ) → MakesRoom w task needed new → IsNumbered w port sequence → IsNumbered new port sequence
roomier_number w new task needed port sequence r is = λ v there. is v (ap (λ (y : WorldView). table_at y port) (sym r.rest) ∙ there)

-- the message was taken
pub taken_own : (w mid : WorldView) (task port : ℕ) (reply : Option Carried) (own : Option ℕ) → TakesFront w port mid → TellsOwn w task reply own → TellsOwn mid task reply own
taken_own w mid task port reply own t = stays_own w mid task (front_live w mid port t) (λ s is. (s, front_there w mid task port t s is, refl)) reply own

-- ---- a name of its own

pub own_told : (w : WorldView) (task : ℕ) (reply : Option Carried) (own : Option ℕ) (port : ℕ) → own ≡ Some port → TellsOwn w task reply own → OwnsFor w task reply port
own_told w task reply own port is = subst (λ (o : Option ℕ). TellsOwn w task reply o) is

module _ (w : WorldView) (task : ℕ) (reply : Option Carried) (c : Carried) (is : reply ≡ Some c) (port : ℕ) (o : OwnsFor w task reply port) where
  own_is : o.carried ≡ c
  own_is = same_found reply o.carried c o.is is

  for_port : c.mark ≡ mark.Port port
  for_port = ap (λ (x : Carried). x.mark) (sym own_is) ∙ o.for_port

  pub can_name : CanGive w task (option_to_list reply) → CanTakeName w task (kind_sent c.given) port
  can_name can =
      let h = can_give_port w task c port for_port o.there (subst (λ (r : Option Carried). CanGive w task (option_to_list r)) is can) in
      can_take w task (kind_sent c.given) port h (λ not name. elim o.own [
        | inl once ↦ absurd (not (ap (λ (x : Carried). kind_sent x.given) (sym own_is) ∙ once))
        | inr x ↦ subst (λ (s : SpaceView). port_at s.names name ≢ Some port) (same_found (space_at w task) x.0 h.space x.1 h.there) (x.2 name)
      ])

  pub named_own : (word : ℕ) (new : WorldView) → GivesPort w task (kind_sent c.given) port word new →
      (words : List ℕ) × GivesAll w task (option_to_list reply) words new × (word ≡ reply_word reply words)
  named_own word new g =
      let gives : GivesMark w task (kind_sent c.given) c.mark word new = subst (λ (m : Mark). GivesMark w task (kind_sent c.given) m word new) (sym for_port)
      (subst (λ (b : Bool). MatchBool b (GivesPort w task (kind_sent c.given) port word new) ((word ≡ dead_word) × (new ≡ w))) (sym o.there) g) in
      subst (λ (r : Option Carried). (words : List ℕ) × GivesAll w task (option_to_list r) words new × (word ≡ reply_word r words)) (sym is) (word ∷ [], (new, gives, refl), refl)

-- ---- Taking a message and giving its rights uses no slot, and makes no send-once right that no queued message goes by.

-- ---- one right

unused_joined : (kind : Kind) (p : ℕ) (x : Entry) (l : LedgerView) → (ledger_joined kind p x l).unused ≡ l.unused
unused_joined receive p x l = refl
unused_joined send_once p x l = refl
unused_joined send p x l = grind arith

pub put_unused : (w new : WorldView) (task : ℕ) (kind : Kind) (port word : ℕ) → PutsPort w task kind port word new → new.ledger.unused ≡ w.ledger.unused
put_unused w new task kind port word g = grind (arith, unused_joined)

pub mark_unused : (w new : WorldView) (task : ℕ) (kind : Kind) (one : Mark) (word : ℕ) → GivesMark w task kind one word new → new.ledger.unused ≡ w.ledger.unused
mark_unused w new task kind (mark.Port p) word h = go (is_some (map.get w.ports.ports p)) _ h
  where
    go : (b : Bool) (dead : ℕ) → MatchBool b (GivesPort w task kind p word new) ((word ≡ dead) × (new ≡ w)) → new.ledger.unused ≡ w.ledger.unused
    go true dead g = ap (λ (x : WorldView). x.ledger.unused) g.rest ∙ put_unused w (put_world w task kind p word new g) task kind p word (gives_puts w task kind p word new g)
    go false dead g = ap (λ (x : WorldView). x.ledger.unused) g.1
mark_unused w new task kind mark.Null word h = ap (λ (x : WorldView). x.ledger.unused) h.1
mark_unused w new task kind mark.Dead word h = ap (λ (x : WorldView). x.ledger.unused) h.1

pub put_slots : (w new : WorldView) (task : ℕ) (kind : Kind) (port word : ℕ) → PutsPort w task kind port word new → SlotsSuffice w → SlotsSuffice new
put_slots w new task kind port word g enough = slots_kept w new enough (put_unused w new task kind port word g) (put_keeps w new task kind port word g).slots

pub mark_slots : (w new : WorldView) (task : ℕ) (kind : Kind) (one : Mark) (word : ℕ) → GivesMark w task kind one word new → SlotsSuffice w → SlotsSuffice new
mark_slots w new task kind one word g enough = slots_kept w new enough (mark_unused w new task kind one word g) (given_keeps w new task kind one word g).slots

-- ---- a message

pub all_slots : (cs : List Carried) (words : List ℕ) (w new : WorldView) (task : ℕ) → GivesAll w task cs words new → SlotsSuffice w → SlotsSuffice new
all_slots [] [] w new task g enough = slots_same w new enough g
all_slots (c ∷ cs) (word ∷ words) w new task g enough = all_slots cs words g.0 new task g.2 (mark_slots w g.0 task (kind_sent c.given) c.mark word g.1 enough)
all_slots [] (word ∷ words) w new task g enough = absurd g
all_slots (c ∷ cs) [] w new task g enough = absurd g

-- the slot of the front message is spare again
pub front_slots : (w : WorldView) (port : ℕ) (new : WorldView) → TakesFront w port new → SlotsSuffice w → SlotsSuffice new
front_slots w port new f enough = grind arith
