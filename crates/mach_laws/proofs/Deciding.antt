-- From one state an event has one answer, but for want of memory and the member of a set.
use Rattle.std.proofs.Common.{◌≡◌, ◌≢◌, ℕ, ◌<◌, List, [], ◌∷◌, Some, refl, sym, ap, subst, ◌∙◌, arith, Bool, inl, inr, ◌⊎◌, None, length, Option, ◌+◌, length-append}
use Rattle.std.specs.Prelude.{MatchBool, slice_get, Contains, nat_lt, min, ◌/◌, ◌%◌}
use Rattle.std.specs.FinMap as map
use Rattle.mach_types.specs.Numbers.{dead_word, disposition, kind_sent, null_word, most_references, most_rights, kind_number, most_bytes}
use Rattle.mach_types.specs.Codes.{kern_number, msg_number}
use Rattle.mach_types.specs.Tokens.{Kind, receive, send, send_once, Place, Request, no_senders, port_destroyed, in_task, in_request, token, weigh, count, is_of, is_held, in_message}
use Rattle.mach_types.specs.Messages.{Mark, to_port, null, dead, Entry, Form, short, long, Item, plain, rights, Body}
use Rattle.mach_types.specs.Bodies.{AllZip, Through, OneFails, message_rights, SameItem, SameBody, SameReply}
use Rattle.mach_types.specs.declared.rights.Disposition.{Disposition}
use Rattle.mach_types.specs.declared.codes.KernReturn.TheVariants.{ResourceShortage}
use Rattle.mach_types.specs.Guards.{NoneHolds}
use Rattle.mach_types.specs.declared.calls.Event.{Event}
use Rattle.mach_types.specs.declared.calls.Reply.{Reply}
use Rattle.mach_types.specs.declared.calls.Waited.{Waited}
use Rattle.mach_types.specs.declared.codes.MsgReturn.TheVariants.{ReceiveBodyErrorNames}
use Rattle.mach_types.specs.Grammar.{WireBody, Header, Spells, descriptor_text, Wire, data_item, port_item, wire_text, wires_text, body_text, text}
use Rattle.mach_types.specs.TextGuards.{header_guards}
use Rattle.mach_types.specs.declared.calls.Status.{Status}
use Rattle.mach_model.specs.State.{State, Target, Names, lookup, IsFresh, held, queue, senders, IsFreshIndex, IsFreshFor, IsFreshIn, given_with}
use Rattle.mach_model.specs.CopyOut.{Named, NamedOnce, NamedFor, GiveRight, GiveMark, GiveWord}
use Rattle.mach_model.specs.Room.{MarkLacks, NeedsName, HasNoRoom}
use Rattle.mach_model.specs.ReceivedMeans.{IsReceived, message_length, received_words, form_length, item_length, items_length, body_length}
use Rattle.mach_model.proofs.Names.{at_same, inserted, length-weigh, count_le, right_of, slice_get_drop}
use Rattle.mach_model.specs.Death.{same_place, LiesAt}
use Rattle.mach_model.specs.CopyIn.{put_by, CopyRight}
use Rattle.mach_model.specs.Telling.{TellsStatus, NamesSetOf, one_if, TellsMembers}
use Rattle.mach_model.specs.NameGuards.{NamesReceive, IsSet, IsDeadName}
use Rattle.mach_model.specs.Send.{Sends, place_at}
use Rattle.mach_model.specs.SendRefusals.{SendRefuses, RightsRefuse, sent_guards}
use Rattle.mach_model.specs.Notices.{Owed}
use Rattle.mach_model.specs.Requests.{RequestOn, GivesBack, Requests}
use Rattle.mach_model.specs.RequestRefusals.{RequestRefuses, notify_guards, noted_guards, GivesRight}
use Rattle.mach_model.specs.Transfer.{Extracts}
use Rattle.mach_model.specs.TransferRefusals.{extracted_guards, inserted_guards}
use Rattle.mach_model.specs.Receive.{waits_for, IsFront, Receives, Receipt}
use Rattle.mach_model.specs.ReceiptRefusals.{ReceiptRefuses}
use Rattle.mach_model.specs.Refusals.{guards, memory_refusal, RefusesLater, Refuses}
use Rattle.mach_model.specs.Machine.{Done, Step, Judged}
use Rattle.mach_model.specs.Acts.{Does}
use Rattle.mach_model.specs.Lawful.{IsLawful}
use Rattle.mach_model.proofs.Moving.{moving}
use Rattle.mach_model.proofs.MessagesLawful.{halfway}
use Rattle.mach_laws.proofs.Meanings.{either}
use Rattle.mach_laws.proofs.Refusals.{both, same_state, right_same, one_target, right_alike, SameGuards, none_is_first, one_first, itself, inserted_same, extracted_same, rights_taken, hand_taken, rights_alike, hand_alike, same_port, one_text as one_message, one_header, one_refusal}
use Rattle.mach_laws.proofs.Playing.{one_port, one_waited, one_set}
use Rattle.mach_laws.specs.Judging.{IsMemoryCode, IsBySet, LacksMemory}
use Rattle.mach_laws.proofs.Bodies.{received_each, one_received}
use Rattle.mach_laws.proofs.Rising.{one_rising}
use Rattle.message_codec.proofs.Messages.{message_not_refused}
use Rattle.message_codec.proofs.Shapes.{length-words_text}
use Rattle.mach_types.specs.declared.profiles.Profile.{Profile}
use Rattle.mach_types.specs.declared.profiles.Profile.TheVariants.{One, Two, Three}
use Rattle.std.proofs.Math.Nat.{div-add-mod}

-- ---- Copying out gives words, and names, that are determined by the names that the receiver has and by which ports live.

-- ---- names

-- the task has one name for a port
abbrev pub HasOneName : Names → Type 0
HasOneName names = (n m p : ℕ) → map.get names n ≡ Some (Target.port p) → map.get names m ≡ Some (Target.port p) → n ≡ m

-- Fresh names are made in the same way in both states.
pub record GivesAlike (s t : State) : Type 0 where
  pub profile : t.profile ≡ s.profile
  pub given : t.given ≡ s.given

-- where each is what another is, but for the ledger and the names
pub gives_after : (s t new other : State) → GivesAlike s t → new.profile ≡ s.profile → new.given ≡ s.given → other.profile ≡ t.profile → other.given ≡ t.given → GivesAlike new other
gives_after s t new other r a b c d = record { profile = c ∙ r.profile ∙ sym a; given = d ∙ r.given ∙ sym b }

-- The task has the same names in both states, one for each port, and the same ports live.
pub record SameNames (task : ℕ) (s t : State) : Type 0 where
  pub naming : t.naming task ≡ s.naming task
  pub live : t.live_port ≡ s.live_port
  pub fresh : GivesAlike s t
  pub one : HasOneName (s.naming task)

names_after : (task : ℕ) (s t new other : State) → SameNames task s t → new.naming ≡ s.naming → new.live_port ≡ s.live_port → other.naming ≡ t.naming → other.live_port ≡ t.live_port →
    new.profile ≡ s.profile → new.given ≡ s.given → other.profile ≡ t.profile → other.given ≡ t.given → SameNames task new other
names_after task s t new other r naming live others lives pa ga pb gb = record {
  fresh = gives_after s t new other r.fresh pa ga pb gb;
  naming = ap (λ (f : ℕ → Names). f task) others ∙ r.naming ∙ sym (ap (λ (f : ℕ → Names). f task) naming);
  live = lives ∙ r.live ∙ sym live;
  one = subst HasOneName (sym (ap (λ (f : ℕ → Names). f task) naming)) r.one;
}

names_stay : (task : ℕ) (s t new other : State) → SameNames task s t → new ≡ s → other ≡ t → SameNames task new other
names_stay task s t new other r e f = rw (e, f) r

lower_fresh : (names : Names) (a b : ℕ) → IsFresh names a → IsFresh names b → a < b → ⊥
lower_fresh names a b f g less = let is = g.least a f.not_null less in let none = f.unused in cc

one_least : (names : Names) (a b : ℕ) → IsFresh names a → IsFresh names b → a ≡ b
one_least names a b f g = grind (arith, lower_fresh)

lower_index : (names : Names) (given : ℕ → ℕ) (a b : ℕ) → IsFreshIndex names given a → IsFreshIndex names given b → a / 256 < b / 256 → ⊥
lower_index names given a b f g less = let is = g.least (a / 256) f.not_null less in let none = f.unused is.0 is.1 in let some = is.2 in cc

one_index : (names : Names) (given : ℕ → ℕ) (a b : ℕ) → IsFreshIndex names given a → IsFreshIndex names given b → a ≡ b
one_index names given a b f g =
    let low : ¬ (a / 256 < b / 256) = lower_index names given a b f g in
    let high : ¬ (b / 256 < a / 256) = lower_index names given b a g f in
    let same : a / 256 ≡ b / 256 = omega (arith, low, high) in
    let tag : a % 256 ≡ b % 256 = f.generation ∙ ap (λ (i : ℕ). given i % 256) same ∙ sym g.generation in
    let whole = div-add-mod a 256 in
    let other = div-add-mod b 256 in
    omega (arith, same, tag, whole, other)

-- a fresh name is one, however fresh names are made
pub one_fresh : (profile : Profile) (names : Names) (given : ℕ → ℕ) (a b : ℕ) → IsFreshIn profile names given a → IsFreshIn profile names given b → a ≡ b
one_fresh One names given a b f g = one_least names a b f g
one_fresh Two names given a b f g = one_index names given a b f g
one_fresh Three names given a b f g = one_index names given a b f g

-- what is fresh in the one state is so in the other
pub fresh_alike : (task name : ℕ) (s t : State) → t.naming task ≡ s.naming task → GivesAlike s t → IsFreshFor t task name → IsFreshFor s task name
fresh_alike task name s t naming alike fresh =
    subst (λ (p : Profile). IsFreshIn p (s.naming task) (s.given task) name) alike.profile
    (subst (λ (g : ℕ → ℕ → ℕ). IsFreshIn t.profile (s.naming task) (g task) name) alike.given
    (subst (λ (m : Names). IsFreshIn t.profile m (t.given task) name) naming fresh))

-- a fresh name for what has none
still_one : (names : Names) (name : ℕ) (target : Target) → HasOneName names → ((n p : ℕ) → target ≡ Target.port p → map.get names n ≢ Some (Target.port p)) → HasOneName (map.insert names name target)
still_one names name target one none n m p e f = grind (arith, inserted)

named_same : (task v w : ℕ) (target : Target) (s t new other : State) → SameNames task s t → ((n p : ℕ) → target ≡ Target.port p → lookup s task n ≢ Some (Target.port p)) →
    Named task v target s new → Named task w target t other → (w ≡ v) × SameNames task new other
named_same task v w target s t new other r none a b =
    let same : w ≡ v = one_fresh s.profile (s.naming task) (s.given task) w v (fresh_alike task w s t r.naming r.fresh b.fresh) a.fresh in
    let mine : new.naming task ≡ map.insert (s.naming task) v target = ap (λ (x : State). x.naming task) a.rest ∙ at_same s.naming task (map.insert (s.naming task) v target) task refl in
    let theirs : other.naming task ≡ map.insert (t.naming task) w target = ap (λ (x : State). x.naming task) b.rest ∙ at_same t.naming task (map.insert (t.naming task) w target) task refl in (
      same,
      record {
        naming = theirs ∙ ap (λ (x : Names). map.insert x w target) r.naming ∙ ap (λ (x : ℕ). map.insert (s.naming task) x target) same ∙ sym mine;
        live = ap (λ (x : State). x.live_port) b.rest ∙ r.live ∙ sym (ap (λ (x : State). x.live_port) a.rest);
        fresh = record {
          profile = ap (λ (x : State). x.profile) b.rest ∙ r.fresh.profile ∙ sym (ap (λ (x : State). x.profile) a.rest);
          given = ap (λ (x : State). x.given) b.rest ∙ ap (λ (p : Profile). given_with p task w t.given) r.fresh.profile ∙ ap (λ (g : ℕ → ℕ → ℕ). given_with s.profile task w g) r.fresh.given
              ∙ ap (λ (n : ℕ). given_with s.profile task n s.given) same ∙ sym (ap (λ (x : State). x.given) a.rest);
        };
        one = subst HasOneName (sym mine) (still_one (s.naming task) v target r.one none);
      },
    )

-- ---- words

named_once : (task v w p : ℕ) (s t new other : State) → SameNames task s t → NamedOnce task v p s new → NamedOnce task w p t other → (w ≡ v) × SameNames task new other
named_once task v w p s t new other r (inl a) (inl b) = grind (arith, names_stay)
named_once task v w p s t new other r (inl a) (inr b) = absurd (b.0 v (ap (λ (x : Names). map.get x v) r.naming ∙ a.0))
named_once task v w p s t new other r (inr a) (inl b) = absurd (a.0 w (sym (ap (λ (x : Names). map.get x w) r.naming) ∙ b.0))
named_once task v w p s t new other r (inr a) (inr b) =
    named_same task v w (Target.port p) s t new other r (λ n q e. subst (λ (x : Target). lookup s task n ≢ Some x) e (a.0 n)) a.1 b.1

pub named_for : (kind : Kind) (task v w p : ℕ) (s t new other : State) → SameNames task s t → NamedFor kind task v p s new → NamedFor kind task w p t other → (w ≡ v) × SameNames task new other
named_for receive task v w p s t new other r a b = named_once task v w p s t new other r a b
named_for send task v w p s t new other r a b = named_once task v w p s t new other r a b
named_for send_once task v w p s t new other r a b = named_same task v w (Target.once p) s t new other r (λ n q e. absurd (cc)) a b

mark_given : (task : ℕ) (place elsewhere : Place) (kind : Kind) (mark : Mark) (v w : ℕ) (s t new other : State) → SameNames task s t →
    GiveMark task place kind mark s v new → GiveMark task elsewhere kind mark t w other → (w ≡ v) × SameNames task new other
mark_given task place elsewhere kind null v w s t new other r a b = (b.0 ∙ sym a.0, names_stay task s t new other r a.1 b.1)
mark_given task place elsewhere kind dead v w s t new other r a b = (b.0 ∙ sym a.0, names_stay task s t new other r a.1 b.1)
mark_given task place elsewhere kind (to_port p) v w s t new other r a b =
    both (s.live_port p) _ _ _ _ _ (λ x y.
    let n = named_for kind task v w p s t x.named_state y.named_state r x.named y.named in (
      n.0,
      names_after task x.named_state y.named_state new other n.1 (ap (λ (z : State). z.naming) x.rest) (ap (λ (z : State). z.live_port) x.rest) (ap (λ (z : State). z.naming) y.rest) (ap (λ (z : State). z.live_port) y.rest)
          (ap (λ (z : State). z.profile) x.rest) (ap (λ (z : State). z.given) x.rest) (ap (λ (z : State). z.profile) y.rest) (ap (λ (z : State). z.given) y.rest),
    ))
    (λ x y. (y.0 ∙ sym x.0, names_stay task s t new other r x.1 y.1)) a
    (subst (λ (f : ℕ → Bool). MatchBool (f p) (GiveRight task elsewhere kind p t w other) ((w ≡ dead_word) × (other ≡ t))) r.live b)

abbrev pair : (number word : ℕ) → ℕ × ℕ
pair number word = (number, word)

pub words_given : (task : ℕ) (place elsewhere : Place) (vs ws : List (ℕ × ℕ)) (rs : List (Kind × Mark)) (s t new other : State) → SameNames task s t →
    AllZip (λ (v : ℕ × ℕ) (r : Kind × Mark). IsReceived v.0 r.0) vs rs → AllZip (λ (w : ℕ × ℕ) (r : Kind × Mark). IsReceived w.0 r.0) ws rs →
    Through (GiveWord task place) s vs rs new → Through (GiveWord task elsewhere) t ws rs other → (ws ≡ vs) × SameNames task new other
words_given task place elsewhere [] [] [] s t new other r x y a b = (refl, names_stay task s t new other r a b)
words_given task place elsewhere (v ∷ vs) (w ∷ ws) (m ∷ ms) s t new other r x y a b =
    let here = mark_given task place elsewhere m.0 m.1 v.1 w.1 s t a.0 b.0 r a.1 b.1 in
    let rest = words_given task place elsewhere vs ws ms a.0 b.0 new other here.1 x.1 y.1 a.2 b.2 in
    (ap (λ (z : ℕ). pair z w.1 ∷ ws) (y.0 ∙ sym x.0) ∙ ap (λ (z : ℕ). pair v.0 z ∷ ws) here.0 ∙ ap (λ (zs : List (ℕ × ℕ)). v ∷ zs) rest.0, rest.1)
words_given task place elsewhere [] ws (m ∷ ms) s t new other r x y a b = absurd a
words_given task place elsewhere [] (w ∷ ws) [] s t new other r x y a b = absurd b
words_given task place elsewhere (v ∷ vs) ws [] s t new other r x y a b = absurd a
words_given task place elsewhere (v ∷ vs) [] (m ∷ ms) s t new other r x y a b = absurd b

-- ---- want of names

no_room : (task name : ℕ) (target : Target) (s t new : State) → SameNames task s t → HasNoRoom s task → Named task name target t new → ⊥
no_room task name target s t new r full n = let a = n.room in let e = ap map.len r.naming in omega (arith, a, full, e)

once_lacks : (task name p : ℕ) (s t new : State) → SameNames task s t → HasNoRoom s task → ((n : ℕ) → lookup s task n ≢ Some (Target.port p)) → NamedOnce task name p t new → ⊥
once_lacks task name p s t new r full needs (inl h) = needs name (sym (ap (λ (x : Names). map.get x name) r.naming) ∙ h.0)
once_lacks task name p s t new r full needs (inr h) = no_room task name (Target.port p) s t new r full h.1

right_lacks : (kind : Kind) (task name p : ℕ) (s t new : State) → SameNames task s t → HasNoRoom s task → NeedsName s task kind p → NamedFor kind task name p t new → ⊥
right_lacks receive task name p s t new r full needs n = once_lacks task name p s t new r full needs n
right_lacks send task name p s t new r full needs n = once_lacks task name p s t new r full needs n
right_lacks send_once task name p s t new r full needs n = no_room task name (Target.once p) s t new r full n

mark_lacks : (task : ℕ) (place : Place) (kind : Kind) (mark : Mark) (w : ℕ) (s t new : State) → SameNames task s t → MarkLacks task kind mark s → GiveMark task place kind mark t w new → ⊥
mark_lacks task place kind null w s t new r h g = h
mark_lacks task place kind dead w s t new r h g = h
mark_lacks task place kind (to_port p) w s t new r h g = grind (arith, either, right_lacks)

-- A message whose rights lack names isn't received.
pub rights_lack : (task : ℕ) (place elsewhere : Place) (ws : List (ℕ × ℕ)) (rs : List (Kind × Mark)) (s t new : State) → SameNames task s t →
    OneFails (λ old r. MarkLacks task r.0 r.1 old) (λ old r new. (word : ℕ) × GiveMark task place r.0 r.1 old word new) s rs → Through (GiveWord task elsewhere) t ws rs new → ⊥
rights_lack task place elsewhere ws [] s t new r h g = h
rights_lack task place elsewhere [] (m ∷ ms) s t new r h g = g
rights_lack task place elsewhere (w ∷ ws) (m ∷ ms) s t new r (inl h) g = mark_lacks task elsewhere m.0 m.1 w.1 s t g.0 r h g.1
rights_lack task place elsewhere (w ∷ ws) (m ∷ ms) s t new r (inr (mid, (word, gives), h)) g = grind (
  arith,
  rights_lack task place elsewhere ws ms mid g.0 new (mark_given task place elsewhere m.0 m.1 word w.1 s t mid g.0 r gives g.1).1 h g.2,
  mark_given,
)

-- ---- A request for a notice has one answer: what refuses it leaves it no success, and what it gives back has one name.

-- ---- states that a request is judged alike in

-- The same names, as many rights, and the same receive rights of the task.
pub record IsAlike (task : ℕ) (s t : State) : Type 0 where
  pub naming : t.naming ≡ s.naming
  pub fresh : GivesAlike s t
  pub rights : length t.ledger ≡ length s.ledger
  pub receives : (p : ℕ) → held t task receive p ≡ held s task receive p

alike_back : (task : ℕ) (s t : State) → IsAlike task s t → IsAlike task t s
alike_back task s t a = record { naming = sym a.naming; fresh = record { profile = sym a.fresh.profile; given = sym a.fresh.given }; rights = sym a.rights; receives = λ p. sym (a.receives p) }

alike_same : (task : ℕ) (s t : State) → t ≡ s → IsAlike task s t
alike_same task s t e = grind arith

same_name : (task : ℕ) (s t : State) → IsAlike task s t → (name : ℕ) → lookup t task name ≡ lookup s task name
same_name task s t a name = ap (λ (f : ℕ → Names). map.get (f task) name) a.naming

requested : (task name variant : ℕ) (s t : State) → IsAlike task s t → (request : Request) → RequestOn s task name variant request → RequestOn t task name variant request
requested task name variant s t a request (inl (v, (p, is, r))) = inl (v, (p, same_name task s t a name ∙ is, r))
requested task name variant s t a request (inr (inl (v, (p, is, r)))) = inr (inl (v, (p, same_name task s t a name ∙ is, r)))
requested task name variant s t a request (inr (inr h)) = inr (inr h)

-- each guard that holds in the one holds in the other
module _ (before : State) (task name variant sync notify : ℕ) (s t : State) (a : IsAlike task s t) where
  unused : lookup s task name ≡ None → lookup t task name ≡ None
  unused e = same_name task s t a name ∙ e

  receives_back : NamesReceive t task name → NamesReceive s task name
  receives_back (p, is, holds) = (p, sym (same_name task s t a name) ∙ is, (let e = a.receives p in omega (arith, e, holds)))

  wrong : ((variant ≡ 69) ⊎ (variant ≡ 70)) × ¬ (NamesReceive s task name) ⊎ (variant ≡ 72) × IsSet (lookup s task name) →
      ((variant ≡ 69) ⊎ (variant ≡ 70)) × ¬ (NamesReceive t task name) ⊎ (variant ≡ 72) × IsSet (lookup t task name)
  wrong (inl h) = inl (h.0, λ n. h.1 (receives_back n))
  wrong (inr h) = inr (h.0, subst IsSet (sym (same_name task s t a name)) h.1)

  unasked : (variant ≡ 72) × IsDeadName s task name × ((sync ≡ 0) ⊎ (notify ≡ null_word)) → (variant ≡ 72) × IsDeadName t task name × ((sync ≡ 0) ⊎ (notify ≡ null_word))
  unasked (v, (n, is), h) = (v, (n, same_name task s t a name ∙ is), h)

  most : (variant ≡ 72) × (lookup s task name ≡ Some (Target.dead most_references)) → (variant ≡ 72) × (lookup t task name ≡ Some (Target.dead most_references))
  most (v, is) = (v, same_name task s t a name ∙ is)

  full : (most_rights < length s.ledger) ⊎ HasNoRoom s task × GivesRight before s task name variant → (most_rights < length t.ledger) ⊎ HasNoRoom t task × GivesRight before t task name variant
  full (inl h) = inl (let e = a.rights in omega (arith, e, h))
  full (inr (room, (request, on, some))) = grind (arith, requested)

noted_same : (before : State) (task name variant sync notify : ℕ) (s t : State) → IsAlike task s t → SameGuards (noted_guards before s task name variant sync notify) (noted_guards before t task name variant sync notify)
noted_same before task name variant sync notify s t a = grind (arith, alike_back)

-- ---- the notify right, copied in to two places

-- the send-once right that a request keeps is made or moved
once_sent : (number : ℕ) (d : Disposition) → (number ≡ 18) ⊎ (number ≡ 21) → disposition number ≡ Some d → kind_sent d ≡ send_once
once_sent number d (inl e) is = grind arith
once_sent number d (inr e) is = grind arith

by_once : (number : ℕ) → ¬ ((number ≢ 18) × (number ≢ 21)) → (number ≡ 18) ⊎ (number ≡ 21)
by_once number not = grind arith

as_many : (d : Disposition) (target : Target) (a b : Place) → weigh (λ x. 1) (put_by d target a) ≡ weigh (λ x. 1) (put_by d target b)
as_many d (Target.port p) a b = refl
as_many d (Target.once p) a b = refl
as_many d (Target.dead n) a b = refl
as_many d (Target.set set) a b = refl

no_receive : (d : Disposition) (target : Target) (task p : ℕ) (place : Place) → kind_sent d ≡ send_once → count (is_held task receive p) (put_by d target place) ≡ 0
no_receive d (Target.port q) task p place e = ap (λ (k : Kind). count (is_held task receive p) (token k q place ∷ [])) e
no_receive d (Target.once q) task p place e = ap (λ (k : Kind). count (is_held task receive p) (token k q place ∷ [])) e
no_receive d (Target.dead n) task p place e = refl
no_receive d (Target.set set) task p place e = refl

copied_alike : (task number notify p q : ℕ) (place elsewhere : Place) (s x y : State) → (number ≡ 18) ⊎ (number ≡ 21) →
    CopyRight task place number notify s (to_port p) x → CopyRight task elsewhere number notify s (to_port q) y → IsAlike task x y
copied_alike task number notify p q place elsewhere s x y once a b = grind (arith, right_same, same_state, once_sent, as_many, length-weigh, no_receive)

-- ---- one answer

-- the state after the notify right was copied in to some place, if there is one
abbrev Copies : (task notify number : ℕ) → State → State → Type 0
Copies task notify number s copied = (notify ≡ null_word) × (copied ≡ s) ⊎ (notify ≢ null_word) × ((q : ℕ) × (place : Place) × CopyRight task place number notify s (to_port q) copied)

all_alike : (task notify number : ℕ) (s x y : State) → ((notify ≢ null_word) → (number ≡ 18) ⊎ (number ≡ 21)) → Copies task notify number s x → Copies task notify number s y → IsAlike task x y
all_alike task notify number s x y once (inl a) (inl b) = alike_same task x y (b.1 ∙ sym a.1)
all_alike task notify number s x y once (inr (some, (q, place, a))) (inr (also, (r, elsewhere, b))) = copied_alike task number notify q r place elsewhere s x y (once some) a b
all_alike task notify number s x y once (inl a) (inr b) = absurd (b.0 a.0)
all_alike task notify number s x y once (inr a) (inl b) = absurd (a.0 b.0)

module _ (s : State) (task name variant sync notify number : ℕ) (good : NoneHolds (notify_guards s task name variant sync notify number)) where
  by_those : notify ≢ null_word → (number ≡ 18) ⊎ (number ≡ 21)
  by_those some = by_once number (λ h. good.0 (inr (inl (some, h.0, h.1))))

  done_copies : (previous : ℕ) (mid : State) (owed : Owed) → (x : Requests task name variant sync notify number previous s mid owed) → Copies task notify number s x.copied
  done_copies previous mid owed x = grind arith

  refused_copies : (copied : State) → (notify ≡ null_word) × (copied ≡ s) ⊎ (notify ≢ null_word) × ((q : ℕ) × CopyRight task (in_task task) number notify s (to_port q) copied) → Copies task notify number s copied
  refused_copies copied (inl h) = inl h
  refused_copies copied (inr (some, (q, c))) = inr (some, (q, in_task task, c))

  -- what is refused isn't done
  pub request_taken : (code previous : ℕ) (mid : State) (owed : Owed) → code ≢ kern_number ResourceShortage → RequestRefuses s task name variant sync notify number code →
      (x : Requests task name variant sync notify number previous s mid owed) → NoneHolds (noted_guards s x.copied task name variant sync notify) → ⊥
  request_taken code previous mid owed not (copied, how, inr is_short) x unrefused = not is_short.1
  request_taken code previous mid owed not (copied, how, inl first) x unrefused =
      none_is_first (noted_guards s copied task name variant sync notify) (noted_guards s x.copied task name variant sync notify) code
      (noted_same s task name variant sync notify copied x.copied (all_alike task notify number s copied x.copied by_those (refused_copies copied how) (done_copies previous mid owed x))) first unrefused

  -- two refusals have one code
  pub request_alike : (code other : ℕ) → code ≢ kern_number ResourceShortage → other ≢ kern_number ResourceShortage → RequestRefuses s task name variant sync notify number code →
      RequestRefuses s task name variant sync notify number other → code ≡ other
  request_alike code other not nor (x, how, inr is_short) b = absurd (not is_short.1)
  request_alike code other not nor (x, how, inl first) (y, way, inr is_short) = absurd (nor is_short.1)
  request_alike code other not nor (x, how, inl first) (y, way, inl second) =
      one_first (noted_guards s x task name variant sync notify) (noted_guards s y task name variant sync notify) code other
      (noted_same s task name variant sync notify x y (all_alike task notify number s x y by_those (refused_copies x how) (refused_copies y way))) first second

  -- what is refused, not for want of memory, isn't refused for want of memory
  pub request_short : (code : ℕ) → RequestRefuses s task name variant sync notify number code → code ≢ kern_number ResourceShortage →
      RequestRefuses s task name variant sync notify number (kern_number ResourceShortage) → ⊥
  request_short code (x, how, inr is_short) not b = not is_short.1
  request_short code (x, how, inl first) not (y, way, h) =
      let same = noted_same s task name variant sync notify x y (all_alike task notify number s x y by_those (refused_copies x how) (refused_copies y way)) in
      elim h [
        | inl second ↦ not (one_first (noted_guards s x task name variant sync notify) (noted_guards s y task name variant sync notify) code (kern_number ResourceShortage) same first second)
        | inr is_short ↦ none_is_first (noted_guards s x task name variant sync notify) (noted_guards s y task name variant sync notify) code same first is_short.0
      ]

  -- ---- what comes back

  one_request : (copied : State) (a b : Request) → RequestOn copied task name variant a → RequestOn copied task name variant b → a ≡ b
  one_request copied a b (inl (v, (p, is, e))) (inl (w, (q, at, f))) = e ∙ ap port_destroyed (one_port (lookup copied task name) p q is at) ∙ sym f
  one_request copied a b (inr (inl (v, (p, is, e)))) (inr (inl (w, (q, at, f)))) = e ∙ ap no_senders (one_port (lookup copied task name) p q is at) ∙ sym f
  one_request copied a b (inr (inr (v, e))) (inr (inr (w, f))) = e ∙ sym f
  one_request copied a b (inl h) (inr (inl g)) = absurd (let v = h.0 in let w = g.0 in omega (arith, v, w))
  one_request copied a b (inl h) (inr (inr g)) = absurd (let v = h.0 in let w = g.0 in omega (arith, v, w))
  one_request copied a b (inr (inl h)) (inl g) = absurd (let v = h.0 in let w = g.0 in omega (arith, v, w))
  one_request copied a b (inr (inl h)) (inr (inr g)) = absurd (let v = h.0 in let w = g.0 in omega (arith, v, w))
  one_request copied a b (inr (inr h)) (inl g) = absurd (let v = h.0 in let w = g.0 in omega (arith, v, w))
  one_request copied a b (inr (inr h)) (inr (inl g)) = absurd (let v = h.0 in let w = g.0 in omega (arith, v, w))

  kept_some : (request : Request) (q : ℕ) → LiesAt s send_once q (in_request request) → count (λ x. same_place (in_request request) x.place) s.ledger ≡ 0 → ⊥
  kept_some request q lies none = grind (arith, count_le, right_of)

  back_alike : (request : Request) (x y : State) (n m : ℕ) (new other : State) → IsAlike task x y → GivesBack task request s x n new → GivesBack task request s y m other → n ≡ m
  back_alike request x y n m new other a (inl g) (inl h) = g.1 ∙ sym h.1
  back_alike request x y n m new other a (inl g) (inr (inl h)) = absurd (let e = g.0 in let f = h.0 in cc)
  back_alike request x y n m new other a (inl g) (inr (inr (q, named, stands, lies, fresh, moves, rest))) = absurd (let e = g.0 in cc)
  back_alike request x y n m new other a (inr (inl g)) (inl h) = absurd (let e = g.0 in let f = h.0 in cc)
  back_alike request x y n m new other a (inr (inl g)) (inr (inl h)) = g.2 ∙ sym h.2
  back_alike request x y n m new other a (inr (inl g)) (inr (inr (q, named, stands, lies, fresh, moves, rest))) = absurd (kept_some request q lies g.1)
  back_alike request x y n m new other a (inr (inr (q, named, stands, lies, fresh, moves, rest))) (inl h) = absurd (let e = h.0 in cc)
  back_alike request x y n m new other a (inr (inr (q, named, stands, lies, fresh, moves, rest))) (inr (inl h)) = absurd (kept_some request q lies h.1)
  back_alike request x y n m new other a (inr (inr (q, named, stands, lies, g, moves, rest))) (inr (inr (r, also, stood, lie, h, move, more))) =
      one_fresh x.profile (x.naming task) (x.given task) n m g.fresh (fresh_alike task m x y (ap (λ (f : ℕ → Names). f task) a.naming) a.fresh h.fresh)

  pub previous_alike : (n m : ℕ) (mid other : State) (owed owes : Owed) → Requests task name variant sync notify number n s mid owed → Requests task name variant sync notify number m s other owes → n ≡ m
  previous_alike n m mid other owed owes a b =
      let alike = all_alike task notify number s a.copied b.copied by_those (done_copies n mid owed a) (done_copies m other owes b) in
      let same : b.request ≡ a.request = one_request b.copied b.request a.request b.on (requested task name variant a.copied b.copied alike a.request a.on) in
      back_alike a.request a.copied b.copied n m a.back b.back alike a.given_back (subst (λ (r : Request). GivesBack task r s b.copied m b.back) same b.given_back)

-- ---- A refusal and a success exclude each other.

-- ---- sends

pub text_taken : (s : State) (task : ℕ) (bytes : List ℕ) (header : Header) (written : WireBody) (code : ℕ) → NoneHolds (header_guards bytes) → Spells bytes header written → ¬ (IsMemoryCode code) →
    SendRefuses s task bytes code → RightsRefuse s task header written code
text_taken s task bytes header written code good spells not (inl h) = absurd (message_not_refused bytes header written code spells good (inr (good, h.0, h.1)))
text_taken s task bytes header written code good spells not (inr (g, w, also, inl e)) = absurd (not (inr (inl e)))
text_taken s task bytes header written code good spells not (inr (g, w, also, inr h)) = grind (arith, one_message bytes g header w written also spells)

send_taken : (now : ℕ) (s : State) (task : ℕ) (bytes : List ℕ) (code : ℕ) (mid : State) → NoneHolds (header_guards bytes) → ¬ (IsMemoryCode code) → SendRefuses s task bytes code →
    (d : Sends now task bytes s mid) → NoneHolds (sent_guards d.m (place_at s d.m.destination) d.copied_state) → ⊥
send_taken now s task bytes code mid good not h d unrefused =
    rights_taken task d.header d.written s d.m d.copied_state code d.copied unrefused (text_taken s task bytes d.header d.written code good d.spells not h)

-- ---- receipts

pub one_entry : (o : Option Entry) (e f : Entry) → o ≡ Some e → o ≡ Some f → e ≡ f
one_entry o e f a b = cc

pub no_front : (s : State) (p : ℕ) (e : Entry) → queue s p ≡ [] → IsFront s p e → ⊥
no_front s p e none front = go (ap (λ (xs : List Entry). slice_get xs 0) (sym none) ∙ slice_get_drop (s.taken p) (s.log p) 0 ∙ ap (slice_get (s.log p)) (omega arith) ∙ front)
  where
    go : slice_get [] 0 ≡ Some e → ⊥
    go f = cc

-- what a receipt gives from is the names that the task had
pub names_taken : (task p room : ℕ) (bytes : List ℕ) (s mid : State) → IsLawful s → (r : Receives task p room bytes s mid) → SameNames task s r.taken
names_taken task p room bytes s mid l r = grind arith

-- a message that lacks names isn't received
lacking : (s : State) (task p room code : ℕ) (bytes : List ℕ) (mid : State) → IsLawful s → ¬ (IsMemoryCode code) → (h : ReceiptRefuses s task (Waited.Port p) room code) →
    (q : ℕ) → h.port ≡ q → Receives task q room bytes s mid → ⊥
lacking s task p room code bytes mid l not h q is r = grind (arith, one_entry, rights_lack, names_taken)

receipt_taken : (s : State) (task : ℕ) (waited : Waited) (room : ℕ) (large : Bool) (code : ℕ) (reply : Reply) (mid : State) (owed : Owed) → IsLawful s → ¬ (IsMemoryCode code) →
    (IsBySet s (Event.ReceiveAgain task waited room large) → code ≢ msg_number ReceiveBodyErrorNames) → ReceiptRefuses s task waited room code → Receipt s task waited room large reply mid owed → ⊥
receipt_taken s task (Waited.Set set) room large code reply mid owed l not other h d = elim h.refused [ inl g ↦ other tt g.1 | inr g ↦ not (inr (inr g.1)) ]
receipt_taken s task (Waited.Port p) room large code (Reply.Message bytes) mid owed l not other h (q, from, r, owes) = lacking s task p room code bytes mid l not h q (h.from.0 ∙ sym from.0) r
receipt_taken s task (Waited.Port p) room large code (Reply.Empty told) mid owed l not other h d = no_front s h.port h.e (d.1 h.port h.from) h.front
receipt_taken s task (Waited.Port p) room large code (Reply.TooLarge n) mid owed l not other h (q, e, from, front, is, less, leaves) = grind (arith, one_entry)
receipt_taken s task (Waited.Port p) room large code reply mid owed l not other h d = d

-- ---- what a name stands for

-- what is waited for by a set's name
pub by_set : (s : State) (task name room : ℕ) (large : Bool) (waited : Waited) → waits_for task name s waited →
    IsBySet s (Event.ReceiveAgain task waited room large) → IsBySet s (Event.Receive task name room large)
by_set s task name room large (Waited.Port p) w h = absurd h
by_set s task name room large (Waited.Set set) w h = subst IsSet (sym w) tt

-- ---- all events

pub memory_only : (event : Event) (code : ℕ) → memory_refusal event ≡ Some code → IsMemoryCode code
memory_only Event.TaskCreate code e = inl (cc)
memory_only (Event.Allocate task right) code e = inl (cc)
memory_only (Event.AllocateName task right name) code e = inl (cc)
memory_only (Event.Names task) code e = inl (cc)
memory_only (Event.Rename task o n) code e = inl (cc)
memory_only (Event.InsertMember task member set) code e = inl (cc)
memory_only (Event.SetStatus task name) code e = inl (cc)
memory_only event code e = absurd (cc)

later_taken : (now : ℕ) (s : State) (event : Event) (code : ℕ) (reply : Reply) (mid : State) (owed : Owed) → IsLawful s → ¬ (IsMemoryCode code) →
    (IsBySet s event → code ≢ msg_number ReceiveBodyErrorNames) → NoneHolds (guards s event) → RefusesLater s event code →
    (does : Does now s event reply mid owed) → Judged now s event reply mid owed does → ⊥
later_taken now s (Event.InsertRight task name from poly number) code (Reply.Code is_zero) mid owed l not other good h d j =
    hand_taken from (in_task task) number poly s (λ p kind copied. inserted_guards copied task name p kind) (λ x y r p kind. inserted_same x y r task name p kind)
    d.1.p d.1.copied code d.1.copy j h (λ e. not (inl e))
later_taken now s (Event.InsertRight task name from poly number) code reply mid owed l not other good h d j = d
later_taken now s (Event.ExtractRight task name number to) code (Reply.Right new_name kind) mid owed l not other good h d j =
    hand_taken task (in_task to) number name s (λ p kind copied. extracted_guards copied to p kind) (λ x y r p kind. extracted_same x y r to p kind)
    d.0.p d.0.copied code d.0.copy j h (λ e. not (inl e))
later_taken now s (Event.ExtractRight task name number to) code reply mid owed l not other good h d j = d
later_taken now s (Event.RequestNotification task name variant sync notify number) code (Reply.Previous previous) mid owed l not other good h d j =
    request_taken s task name variant sync notify number good.1 code previous mid owed (λ e. not (inl e)) h d j
later_taken now s (Event.RequestNotification task name variant sync notify number) code reply mid owed l not other good h d j = d
later_taken now s (Event.Send task bytes) code (Reply.Code is_zero) mid owed l not other good h d j = send_taken now s task bytes code mid good.1 not h d.1 j
later_taken now s (Event.Send task bytes) code reply mid owed l not other good h d j = d
later_taken now s (Event.Receive task name room large) code reply mid owed l not other good h d j =
    receipt_taken s task h.0 room large code reply mid owed l not (λ set. other (by_set s task name room large h.0 h.1 set)) h.2
    (subst (λ (x : Waited). Receipt s task x room large reply mid owed) (one_waited s task name h.0 d.0 h.1 d.1) d.2)
later_taken now s (Event.ReceiveAgain task waited room large) code reply mid owed l not other good h d j = receipt_taken s task waited room large code reply mid owed l not other h d
later_taken now s event code reply mid owed l not other good h d j = not (memory_only event code h)

-- An event that is refused, not for want of memory, is not done.
pub refused_not_done : (now : ℕ) (s : State) (event : Event) (code : ℕ) (reply : Reply) (new : State) → IsLawful s → Refuses s event code → ¬ (IsMemoryCode code) →
    (IsBySet s event → code ≢ msg_number ReceiveBodyErrorNames) → ¬ (Done now s event reply new)
refused_not_done now s event code reply new l (inl first) not other d = none_is_first (guards s event) (guards s event) code (itself (guards s event)) first d.unrefused
refused_not_done now s event code reply new l (inr (good, h)) not other d = later_taken now s event code reply d.mid d.owed l not other good h d.does d.judged

-- ---- The bytes of a received message are as many as its length.

descriptor_long : (f : Form) (n s c : ℕ) → length (descriptor_text f n s c) ≡ form_length f
descriptor_long short n s c = refl
descriptor_long long n s c = refl

item_long : (w : Wire) (x : Item) → SameItem IsReceived w x → length (wire_text w) ≡ item_length x
item_long (data_item f n size c bytes padding) x h = grind (arith, length-append, descriptor_long)
item_long (port_item g number words) (rights f kind marks) h = grind (arith, length-append, descriptor_long, length-words_text)
item_long (port_item g number words) (plain f n size c bytes padding) h = absurd h

items_long : (ws : List Wire) (xs : List Item) → AllZip (SameItem IsReceived) ws xs → length (wires_text ws) ≡ items_length xs
items_long [] [] h = refl
items_long (w ∷ ws) (x ∷ xs) h = grind (arith, items_long ws xs h.1, length-append, item_long)
items_long [] (x ∷ xs) h = absurd h
items_long (w ∷ ws) [] h = absurd h

body_long : (w : WireBody) (body : Body) → SameBody IsReceived w body → length (body_text w) ≡ body_length body
body_long (WireBody.raw others) (Body.raw bytes) h = sym (ap length h)
body_long (WireBody.items ws) (Body.items xs) h = items_long ws xs h
body_long (WireBody.items ws) (Body.raw bytes) h = absurd h
body_long (WireBody.raw others) (Body.items xs) h = absurd h

pub text_long : (h : Header) (w : WireBody) → length (text h w) ≡ 24 + length (body_text w)
text_long h w = omega arith

pub received_long : (h : Header) (w : WireBody) (body : Body) → SameBody IsReceived w body → length (text h w) ≡ 24 + body_length body
received_long h w body same = let a = text_long h w in let b = body_long w body same in omega (arith, a, b)

-- ---- From one state an event has one answer, but for want of memory and the member of a set.

-- ---- two refusals

send_alike : (s : State) (task : ℕ) (bytes : List ℕ) (code other : ℕ) → NoneHolds (header_guards bytes) → ¬ (IsMemoryCode code) → ¬ (IsMemoryCode other) →
    SendRefuses s task bytes code → SendRefuses s task bytes other → code ≡ other
send_alike s task bytes code other good not nor (inl a) (inl b) = one_refusal _ code other a.1 b.1
send_alike s task bytes code other good not nor (inl a) (inr (h, w, spells, b)) = absurd (message_not_refused bytes h w code spells good (inr (good, a.0, a.1)))
send_alike s task bytes code other good not nor (inr (h, w, spells, a)) (inl b) = absurd (message_not_refused bytes h w other spells good (inr (good, b.0, b.1)))
send_alike s task bytes code other good not nor (inr (h, w, spells, inl e)) (inr b) = absurd (not (inr (inl e)))
send_alike s task bytes code other good not nor (inr (h, w, spells, inr a)) (inr b) = rights_alike task h w s code other a (text_taken s task bytes h w other good spells nor (inr b))

receipt_alike : (s : State) (task : ℕ) (waited : Waited) (room code : ℕ) → ¬ (IsMemoryCode code) → ReceiptRefuses s task waited room code → code ≡ msg_number ReceiveBodyErrorNames
receipt_alike s task waited room code not h = elim h.refused [ inl g ↦ g.1 | inr g ↦ absurd (not (inr (inr g.1))) ]

later_alike : (s : State) (event : Event) (code other : ℕ) → NoneHolds (guards s event) → ¬ (IsMemoryCode code) → ¬ (IsMemoryCode other) → RefusesLater s event code → RefusesLater s event other → code ≡ other
later_alike s (Event.InsertRight task name from poly number) code other good not nor a b = grind (arith, hand_alike, inserted_same)
later_alike s (Event.ExtractRight task name number to) code other good not nor a b = grind (arith, hand_alike, extracted_same)
later_alike s (Event.RequestNotification task name variant sync notify number) code other good not nor a b = grind (arith, request_alike)
later_alike s (Event.Send task bytes) code other good not nor a b = send_alike s task bytes code other good.1 not nor a b
later_alike s (Event.Receive task name room large) code other good not nor a b = grind (arith, receipt_alike)
later_alike s (Event.ReceiveAgain task waited room large) code other good not nor a b = grind (arith, receipt_alike)
later_alike s event code other good not nor a b = absurd (not (memory_only event code a))

refused_alike : (s : State) (event : Event) (code other : ℕ) → ¬ (IsMemoryCode code) → ¬ (IsMemoryCode other) → Refuses s event code → Refuses s event other → code ≡ other
refused_alike s event code other not nor (inl a) (inl b) = one_first (guards s event) (guards s event) code other (itself (guards s event)) a b
refused_alike s event code other not nor (inl a) (inr b) = absurd (none_is_first (guards s event) (guards s event) code (itself (guards s event)) a b.0)
refused_alike s event code other not nor (inr a) (inl b) = absurd (none_is_first (guards s event) (guards s event) other (itself (guards s event)) b a.0)
refused_alike s event code other not nor (inr a) (inr b) = later_alike s event code other a.0 not nor a.1 b.1

-- ---- what a call tells

-- the only member of a list
no_member : (xs : List ℕ) (a : ℕ) → xs ≡ [] → Contains xs a → ⊥
no_member xs a none (k, within, is) = let e = ap length none in omega (arith, within, e)

set_alike : (s : State) (task p n m : ℕ) → IsLawful s → NamesSetOf s task p n → NamesSetOf s task p m → n ≡ m
set_alike s task p n m l (inl a) (inl b) = a.1 ∙ sym b.1
set_alike s task p n m l (inl a) (inr (t, b, is, least)) = absurd (no_member (s.sets_of p) t a.0 b)
set_alike s task p n m l (inr (t, a, is, least)) (inl b) = absurd (no_member (s.sets_of p) t b.0 a)
set_alike s task p n m l (inr (t, a, is, least)) (inr (u, b, at, lesser)) = let x = least u m b at in let y = lesser t n a is in omega (arith, x, y)

one_status : (a b : Status) → a.set ≡ b.set → a.sequence ≡ b.sequence → a.make_send ≡ b.make_send → a.limit ≡ b.limit → a.queued ≡ b.queued → a.send_once ≡ b.send_once →
    a.has_send ≡ b.has_send → a.port_destroyed ≡ b.port_destroyed → a.no_senders ≡ b.no_senders → a ≡ b
one_status a b c d e f g h i j k = grind arith

status_alike : (s : State) (task name : ℕ) (a b : Status) → IsLawful s → TellsStatus s task name a → TellsStatus s task name b → a ≡ b
status_alike s task name a b l t u =
    let p : u.p ≡ t.p = one_port _ u.p t.p u.found t.found in
    one_status a b (set_alike s task t.p a.set b.set l t.set (subst (λ (x : ℕ). NamesSetOf s task x b.set) p u.set)) (t.sequence ∙ sym (u.sequence ∙ ap s.sequence p))
    (t.make_send ∙ sym (u.make_send ∙ ap s.make_send p)) (t.limit ∙ sym (u.limit ∙ ap s.limit p)) (t.queued ∙ sym (u.queued ∙ ap (λ (x : ℕ). length (queue s x)) p))
    (t.send_once ∙ sym (u.send_once ∙ ap (λ (x : ℕ). count (is_of send_once x) s.ledger) p)) (t.has_send ∙ sym (u.has_send ∙ ap (λ (x : ℕ). one_if (nat_lt 0 (senders s x))) p))
    (t.port_destroyed ∙ sym (u.port_destroyed ∙ ap (λ (x : ℕ). one_if (s.stands (port_destroyed x))) p)) (t.no_senders ∙ sym (u.no_senders ∙ ap (λ (x : ℕ). one_if (s.stands (no_senders x))) p))

members_alike : (s : State) (task name : ℕ) (a b : List ℕ) → TellsMembers s task name a → TellsMembers s task name b → a ≡ b
members_alike s task name a b t u =
    let set : u.set ≡ t.set = one_set _ u.set t.set u.found t.found in
    one_rising a b t.rising u.rising
    (λ n h. let m = (t.each n).0 h in (u.each n).1 (m.0, m.1, subst (Contains (s.sets_of m.0)) (sym set) m.2))
    (λ n h. let m = (u.each n).0 h in (t.each n).1 (m.0, m.1, subst (Contains (s.sets_of m.0)) set m.2))

-- ---- what a right that is taken out is told as

extracts_alike : (s : State) (task name number to n m k j : ℕ) (mid other : State) → IsLawful s → Extracts task name number to n k s mid → Extracts task name number to m j s other → (n ≡ m) × (k ≡ j)
extracts_alike s task name number to n m k j mid other l a b =
    let w = right_same task number name (in_task to) (in_task to) s s a.copied b.copied (to_port a.p) (to_port b.p) (same_state s) a.copy b.copy in
    let r = (right_alike task number name (in_task to) s s a.copied b.copied (to_port a.p) (to_port b.p) (same_state s) a.copy b.copy).1 in
    let half = halfway task to number name a.p 0 (length (s.log 0)) s a.copied (moving s 0 (length (s.log 0)) l) a.copy in
    let p : b.p ≡ a.p = same_port b.p a.p w.mark_is in
    let same : SameNames to a.copied b.copied = record {
      naming = ap (λ (x : State). x.naming to) r.rest;
      live = ap (λ (x : State). x.live_port) r.rest;
      fresh = record { profile = ap (λ (x : State). x.profile) r.rest; given = ap (λ (x : State). x.given) r.rest };
      one = (half.copies.keeps.naming to).one_name;
    } in
    let named = subst (λ (d : _). NamedFor (kind_sent d) to m b.p b.copied b.named_state) w.given b.named in
    let there = subst (λ (x : ℕ). NamedFor (kind_sent a.copy.given) to m x b.copied b.named_state) p named in (
      sym (named_for (kind_sent a.copy.given) to n m a.p a.copied b.copied a.named_state b.named_state same a.named there).0,
      a.kind_is ∙ sym (b.kind_is ∙ ap (λ d. kind_number (kind_sent d)) w.given),
    )

-- ---- what a receipt is told as

bytes_alike : (s : State) (task p room : ℕ) (bytes others : List ℕ) (mid other : State) → IsLawful s → Receives task p room bytes s mid → Receives task p room others s other → bytes ≡ others
bytes_alike s task p room bytes others mid other l a b =
    let e : b.e ≡ a.e = one_entry _ b.e a.e b.takes.front a.takes.front in
    let x = names_taken task p room bytes s mid l a in
    let y = names_taken task p room others s other l b in
    let start : SameNames task a.taken b.taken = record {
      naming = y.naming ∙ sym x.naming;
      live = y.live ∙ sym x.live;
      fresh = record { profile = y.fresh.profile ∙ sym x.fresh.profile; given = y.fresh.given ∙ sym x.fresh.given };
      one = subst HasOneName (sym x.naming) x.one;
    } in
    let place = in_message p (s.taken p) in
    let reply = subst (λ (z : Entry). SameReply IsReceived b.header.remote_kind b.header.remote z.message.reply) e b.reply in
    let body = subst (λ (z : Entry). SameBody IsReceived b.written z.message.body) e b.body in
    let given = words_given task place place (received_words a.header a.written) (received_words b.header b.written) (message_rights a.e.message) a.taken b.taken mid other start
    (received_each a.header a.written a.e.message a.reply a.body) (received_each b.header b.written a.e.message reply body) a.rights
    (subst (λ (z : Entry). Through (GiveWord task place) b.taken (received_words b.header b.written) (message_rights z.message) other) e b.rights) in
    let same = one_received b.header a.header b.written a.written a.e.message reply a.reply body a.body given.0 in
    let local : b.header.local ≡ a.header.local =
    given.1.one b.header.local a.header.local p (sym (ap (λ (z : Names). map.get z b.header.local) given.1.naming) ∙ b.local) a.local in
    let size : b.header.size ≡ a.header.size =
    b.size ∙ ap length b.spells.is_text ∙ text_long b.header b.written ∙ ap (λ (z : WireBody). 24 + length (body_text z)) same.text ∙ sym (text_long a.header a.written) ∙ sym (ap length a.spells.is_text) ∙ sym a.size in
    let header = one_header b.header a.header same.number (b.kind ∙ ap (λ (z : Entry). kind_number z.message.kind) e ∙ sym a.kind) size same.word local (b.sequence ∙ sym a.sequence)
    (b.id ∙ ap (λ (z : Entry). z.message.id) e ∙ sym a.id) in
    a.spells.is_text ∙ sym (b.spells.is_text ∙ ap (λ (z : Header). text z b.written) header ∙ ap (text a.header) same.text)

-- a message that fits isn't too long
fits_not : (s : State) (task p q room n : ℕ) (bytes : List ℕ) (mid : State) (e : Entry) → q ≡ p → Receives task p room bytes s mid → IsFront s q e → n ≡ message_length e.message → min room most_bytes < n → ⊥
fits_not s task p q room n bytes mid e is r front len less = grind (arith, received_long r.header r.written r.e.message.body r.body, ap length r.spells.is_text, r.fits)

receipts_alike : (s : State) (task p room : ℕ) (large : Bool) (a b : Reply) (mid other : State) (owed owes : Owed) → IsLawful s → Receipt s task (Waited.Port p) room large a mid owed →
    Receipt s task (Waited.Port p) room large b other owes → a ≡ b
receipts_alike s task p room large (Reply.Message xs) (Reply.Message ys) mid other owed owes l (q, from, r, x) (t, whence, u, y) =
    let same : t ≡ q = whence.0 ∙ sym from.0 in
    ap Reply.Message (bytes_alike s task q room xs ys mid other l r (subst (λ (z : ℕ). Receives task z room ys s other) same u))
receipts_alike s task p room large (Reply.Message xs) (Reply.Empty told) mid other owed owes l (q, from, r, x) d = absurd (no_front s q r.e (d.1 q from) r.takes.front)
receipts_alike s task p room large (Reply.Message xs) (Reply.TooLarge n) mid other owed owes l (q, from, r, x) (t, e, whence, front, is, less, leaves) =
    absurd (fits_not s task q t room n xs mid e (whence.0 ∙ sym from.0) r front is less)
receipts_alike s task p room large (Reply.Message xs) b mid other owed owes l a d = absurd d
receipts_alike s task p room large (Reply.Empty told) (Reply.Empty heard) mid other owed owes l a d = ap Reply.Empty (a.0 ∙ sym d.0)
receipts_alike s task p room large (Reply.Empty told) (Reply.Message xs) mid other owed owes l a (q, from, r, x) = absurd (no_front s q r.e (a.1 q from) r.takes.front)
receipts_alike s task p room large (Reply.Empty told) (Reply.TooLarge n) mid other owed owes l a (q, e, from, front, is, less, leaves) = grind (arith, no_front)
receipts_alike s task p room large (Reply.Empty told) b mid other owed owes l a d = absurd d
receipts_alike s task p room large (Reply.TooLarge n) (Reply.TooLarge m) mid other owed owes l (q, e, from, front, is, less, leaves) (t, f, whence, ahead, at, more, stays) = grind (arith, one_entry)
receipts_alike s task p room large (Reply.TooLarge n) (Reply.Message xs) mid other owed owes l (t, e, whence, front, is, less, leaves) (q, from, r, x) =
    absurd (fits_not s task q t room n xs other e (whence.0 ∙ sym from.0) r front is less)
receipts_alike s task p room large (Reply.TooLarge n) (Reply.Empty told) mid other owed owes l (q, e, from, front, is, less, leaves) d = grind (arith, no_front)
receipts_alike s task p room large (Reply.TooLarge n) b mid other owed owes l a d = absurd d
receipts_alike s task p room large a b mid other owed owes l x d = absurd x

-- ---- two successes

code_alike : (a b : ℕ) → a ≡ 0 → b ≡ 0 → Reply.Code a ≡ Reply.Code b
code_alike a b e f = ap Reply.Code (e ∙ sym f)

name_alike : (s : State) (task n m : ℕ) → IsFreshFor s task n → IsFreshFor s task m → Reply.Name n ≡ Reply.Name m
name_alike s task n m a b = ap Reply.Name (one_fresh s.profile (s.naming task) (s.given task) n m a b)

done_alike : (now : ℕ) (s : State) (event : Event) (a b : Reply) (mid other : State) (owed owes : Owed) → IsLawful s → ¬ (IsBySet s event) → NoneHolds (guards s event) →
    (d : Does now s event a mid owed) (e : Does now s event b other owes) → Judged now s event a mid owed d → Judged now s event b other owes e → a ≡ b
done_alike now s Event.TaskCreate (Reply.Task t) (Reply.Task u) mid other owed owes l one g d e v w = ap Reply.Task (d.0.task_is ∙ sym e.0.task_is)
done_alike now s Event.TaskCreate (Reply.Task t) b mid other owed owes l one g d e v w = absurd e
done_alike now s (Event.TaskTerminate task) (Reply.Code c) (Reply.Code k) mid other owed owes l one g d e v w = code_alike c k d.0 e.0
done_alike now s (Event.TaskTerminate task) (Reply.Code c) b mid other owed owes l one g d e v w = absurd e
done_alike now s (Event.Allocate task right) (Reply.Name n) (Reply.Name m) mid other owed owes l one g d e v w = name_alike s task n m d.0 e.0
done_alike now s (Event.Allocate task right) (Reply.Name n) b mid other owed owes l one g d e v w = absurd e
done_alike now s (Event.AllocateName task right name) (Reply.Name n) (Reply.Name m) mid other owed owes l one g d e v w = ap Reply.Name (d.0 ∙ sym e.0)
done_alike now s (Event.AllocateName task right name) (Reply.Name n) b mid other owed owes l one g d e v w = absurd e
done_alike now s (Event.Deallocate task name) (Reply.Code c) (Reply.Code k) mid other owed owes l one g d e v w = code_alike c k d.0 e.0
done_alike now s (Event.Deallocate task name) (Reply.Code c) b mid other owed owes l one g d e v w = absurd e
done_alike now s (Event.Destroy task name) (Reply.Code c) (Reply.Code k) mid other owed owes l one g d e v w = code_alike c k d.0 e.0
done_alike now s (Event.Destroy task name) (Reply.Code c) b mid other owed owes l one g d e v w = absurd e
done_alike now s (Event.ModRefs task name right delta) (Reply.Code c) (Reply.Code k) mid other owed owes l one g d e v w = code_alike c k d.0 e.0
done_alike now s (Event.ModRefs task name right delta) (Reply.Code c) b mid other owed owes l one g d e v w = absurd e
done_alike now s (Event.GetRefs task name right) (Reply.Refs n) (Reply.Refs m) mid other owed owes l one g d e (t, is, tells) (u, at, told) = grind (arith, one_target)
done_alike now s (Event.GetRefs task name right) (Reply.Refs n) b mid other owed owes l one g d e v w = absurd e
done_alike now s (Event.NameType task name) (Reply.NameType n) (Reply.NameType m) mid other owed owes l one g d e (t, is, tells) (u, at, told) = grind (arith, one_target)
done_alike now s (Event.NameType task name) (Reply.NameType n) b mid other owed owes l one g d e v w = absurd e
done_alike now s (Event.Names task) (Reply.Names xs) (Reply.Names ys) mid other owed owes l one g d e v w = ap Reply.Names (v ∙ sym w)
done_alike now s (Event.Names task) (Reply.Names xs) b mid other owed owes l one g d e v w = absurd e
done_alike now s (Event.Rename task o n) (Reply.Code c) (Reply.Code k) mid other owed owes l one g d e v w = code_alike c k d.0 e.0
done_alike now s (Event.Rename task o n) (Reply.Code c) b mid other owed owes l one g d e v w = absurd e
done_alike now s (Event.ReceiveStatus task name) (Reply.Status a) (Reply.Status b) mid other owed owes l one g d e v w = ap Reply.Status (status_alike s task name a b l v w)
done_alike now s (Event.ReceiveStatus task name) (Reply.Status a) b mid other owed owes l one g d e v w = absurd e
done_alike now s (Event.SetQlimit task name n) (Reply.Code c) (Reply.Code k) mid other owed owes l one g d e v w = code_alike c k d.0 e.0
done_alike now s (Event.SetQlimit task name n) (Reply.Code c) b mid other owed owes l one g d e v w = absurd e
done_alike now s (Event.SetMscount task name n) (Reply.Code c) (Reply.Code k) mid other owed owes l one g d e v w = code_alike c k d.0 e.0
done_alike now s (Event.SetMscount task name n) (Reply.Code c) b mid other owed owes l one g d e v w = absurd e
done_alike now s (Event.SetSeqno task name n) (Reply.Code c) (Reply.Code k) mid other owed owes l one g d e v w = code_alike c k d.0 e.0
done_alike now s (Event.SetSeqno task name n) (Reply.Code c) b mid other owed owes l one g d e v w = absurd e
done_alike now s (Event.SetStatus task name) (Reply.Members xs) (Reply.Members ys) mid other owed owes l one g d e v w = ap Reply.Members (members_alike s task name xs ys v w)
done_alike now s (Event.SetStatus task name) (Reply.Members xs) b mid other owed owes l one g d e v w = absurd e
done_alike now s (Event.MoveMember task member after) (Reply.Code c) (Reply.Code k) mid other owed owes l one g d e v w = code_alike c k d.0 e.0
done_alike now s (Event.MoveMember task member after) (Reply.Code c) b mid other owed owes l one g d e v w = absurd e
done_alike now s (Event.InsertMember task member set) (Reply.Code c) (Reply.Code k) mid other owed owes l one g d e v w = code_alike c k d.0 e.0
done_alike now s (Event.InsertMember task member set) (Reply.Code c) b mid other owed owes l one g d e v w = absurd e
done_alike now s (Event.ExtractMember task member set) (Reply.Code c) (Reply.Code k) mid other owed owes l one g d e v w = code_alike c k d.0 e.0
done_alike now s (Event.ExtractMember task member set) (Reply.Code c) b mid other owed owes l one g d e v w = absurd e
done_alike now s (Event.InsertRight task name from poly number) (Reply.Code c) (Reply.Code k) mid other owed owes l one g d e v w = code_alike c k d.0 e.0
done_alike now s (Event.InsertRight task name from poly number) (Reply.Code c) b mid other owed owes l one g d e v w = absurd e
done_alike now s (Event.ExtractRight task name number to) (Reply.Right n k) (Reply.Right m j) mid other owed owes l one g d e v w = grind (
  arith,
  extracts_alike s task name number to n m k j mid other l d.0 e.0,
)
done_alike now s (Event.ExtractRight task name number to) (Reply.Right n k) b mid other owed owes l one g d e v w = absurd e
done_alike now s (Event.RequestNotification task name variant sync notify number) (Reply.Previous n) (Reply.Previous m) mid other owed owes l one g d e v w =
    ap Reply.Previous (previous_alike s task name variant sync notify number g.1 n m mid other owed owes d e)
done_alike now s (Event.RequestNotification task name variant sync notify number) (Reply.Previous n) b mid other owed owes l one g d e v w = absurd e
done_alike now s (Event.Send task bytes) (Reply.Code c) (Reply.Code k) mid other owed owes l one g d e v w = code_alike c k d.0 e.0
done_alike now s (Event.Send task bytes) (Reply.Code c) b mid other owed owes l one g d e v w = absurd e
done_alike now s (Event.Receive task name room large) a b mid other owed owes l one g (Waited.Port p, waits, d) (waited, is, e) v w =
    receipts_alike s task p room large a b mid other owed owes l d (subst (λ (x : Waited). Receipt s task x room large b other owes) (one_waited s task name (Waited.Port p) waited waits is) e)
done_alike now s (Event.Receive task name room large) a b mid other owed owes l one g (Waited.Set set, waits, d) e v w = grind (arith, by_set)
done_alike now s (Event.ReceiveAgain task (Waited.Port p) room large) a b mid other owed owes l one g d e v w = grind (arith, receipts_alike)
done_alike now s (Event.ReceiveAgain task (Waited.Set set) room large) a b mid other owed owes l one g d e v w = absurd (one tt)
done_alike now s event a b mid other owed owes l one g d e v w = absurd d

-- ---- steps

told_code : (reply : Reply) (code : ℕ) → reply ≡ Reply.Code code → ¬ (LacksMemory reply) → ¬ (IsMemoryCode code)
told_code reply code told not is = not (subst LacksMemory (sym told) is)

-- From a lawful state the event has one answer.
pub one_reply : (now : ℕ) (s : State) (event : Event) (a b : Reply) (new other : State) → IsLawful s → Step now s event a new → Step now s event b other →
    ¬ (LacksMemory a) → ¬ (LacksMemory b) → ¬ (IsBySet s event) → a ≡ b
one_reply now s event a b new other l (inl x) (inl y) not nor one =
    x.told ∙ ap Reply.Code (refused_alike s event x.code y.code (told_code a x.code x.told not) (told_code b y.code y.told nor) x.refuses y.refuses) ∙ sym y.told
one_reply now s event a b new other l (inl x) (inr y) not nor one =
    absurd (refused_not_done now s event x.code b other l x.refuses (told_code a x.code x.told not) (λ h. absurd (one h)) y)
one_reply now s event a b new other l (inr x) (inl y) not nor one =
    absurd (refused_not_done now s event y.code a new l y.refuses (told_code b y.code y.told nor) (λ h. absurd (one h)) x)
one_reply now s event a b new other l (inr x) (inr y) not nor one = done_alike now s event a b x.mid y.mid x.owed y.owed l one x.unrefused x.does y.does x.judged y.judged
