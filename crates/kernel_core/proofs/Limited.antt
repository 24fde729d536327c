-- A message makes no more rights than it has port words.
use Rattle.std.proofs.Common.{◌≡◌, ℕ, ◌+◌, ◌-◌, ◌*◌, ◌/◌, ◌<◌, ◌≤◌, Bool, true, false, List, [], ◌∷◌, length, length-append, map, ap, arith}
use Rattle.std.specs.Prelude.{◌==◌, MatchBool, flat_map}
use Rattle.std.proofs.lemmas.List.{length-map}
use Rattle.mach_types.specs.declared.calls.Event.{Event}
use Rattle.mach_types.specs.declared.rights.Disposition.{Disposition}
use Rattle.mach_types.specs.Bodies.{wire_words, body_words, body_rights, Through}
use Rattle.mach_types.specs.Grammar.{Wire, data_item, port_item, WireBody, Header, Spells, descriptor_text, words_text, wire_text, wires_text, body_text}
use Rattle.mach_types.specs.Messages.{Mark, ReplyRight, absent, present}
use Rattle.mach_types.specs.Numbers.{most_rights, null_word, dead_word}
use Rattle.mach_types.specs.Tokens.{Kind, Place, weigh}
use Rattle.mach_model.specs.CopyIn.{CopyRight, CopyWord, CopyReply, CopyCarried, put_by}
use Rattle.mach_model.specs.Send.{place_at}
use Rattle.mach_model.specs.State.{State, Target}
use Rattle.mach_laws.specs.Judging.{IsBySet}
use Rattle.mach_model.proofs.Names.{length-weigh}
use Rattle.message_codec.proofs.Shapes.{length-words_text}
use Rattle.copyin_base.specs.Worlds.{WorldView}
use Rattle.kernel_core.specs.Limits.{ExceedsRights, PassesLimit, HasRoomFor, IsNearLimit, sent_length}

-- ---- rights that are copied in

put_few : (d : Disposition) (target : Target) (place : Place) → weigh (λ x. 1) (put_by d target place) ≤ 1
put_few d (Target.port p) place = omega arith
put_few d (Target.once p) place = omega arith
put_few d (Target.dead n) place = omega arith
put_few d (Target.set n) place = omega arith

right_more : (task : ℕ) (place : Place) (number name : ℕ) (old : State) (mark : Mark) (new : State) → CopyRight task place number name old mark new → length new.ledger ≤ length old.ledger + 1
right_more task place number name old mark new r =
    let moved = r.tokens (λ x. 1) in
    let few = put_few r.given r.target place in
    let was = length-weigh old.ledger in
    let is = length-weigh new.ledger in
    omega (arith, moved, few, was, is)

stays : (old new : State) → new ≡ old → length new.ledger ≤ length old.ledger + 1
stays old new same = let e : length new.ledger ≡ length old.ledger = ap (λ (s : State). length s.ledger) same in omega (arith, e)

word_more : (task : ℕ) (place : Place) (number word : ℕ) (old : State) (mark : Mark) (new : State) → CopyWord task place number word old mark new → length new.ledger ≤ length old.ledger + 1
word_more task place number word old mark new c = go (word == null_word) (word == dead_word) c
  where
    go : (a b : Bool) → MatchBool a ((mark ≡ Mark.null) × (new ≡ old)) (MatchBool b ((mark ≡ Mark.dead) × (new ≡ old)) (CopyRight task place number word old mark new)) → length new.ledger ≤ length old.ledger + 1
    go true b h = stays old new h.1
    go false true h = stays old new h.1
    go false false h = right_more task place number word old mark new h

reply_more : (task : ℕ) (place : Place) (number word : ℕ) (old : State) (right : ReplyRight) (new : State) → CopyReply task place number word old right new → length new.ledger ≤ length old.ledger + 1
reply_more task place number word old absent new c = stays old new c.2
reply_more task place number word old (present kind mark) new c = word_more task place number word old mark new c.1

through_more : (task : ℕ) (place : Place) (ws : List (ℕ × ℕ)) (rs : List (Kind × Mark)) (old new : State) → Through (CopyCarried task place) old ws rs new → length new.ledger ≤ length old.ledger + length ws
through_more task place [] [] old new same = let e : length new.ledger ≡ length old.ledger = ap (λ (s : State). length s.ledger) same in omega (arith, e)
through_more task place (w ∷ ws) (r ∷ rs) old new t =
    let one = word_more task place w.0 w.1 old r.1 t.0 t.1 in
    let more = through_more task place ws rs t.0 new t.2 in
    omega (arith, one, more)
through_more task place [] (r ∷ rs) old new t = absurd t
through_more task place (w ∷ ws) [] old new t = absurd t

-- ---- the words of a text

wire_long : (x : Wire) → 4 * length (wire_words x) ≤ length (wire_text x)
wire_long (data_item form name size number bytes padding) = omega arith
wire_long (port_item form disposition words) =
    let whole = length-append (descriptor_text form disposition 32 (length words)) (words_text words) in
    let text = length-words_text words in
    let pair : ℕ → ℕ × ℕ = λ w. (disposition, w) in
    let each : length (map pair words) ≡ length words = length-map words pair in
    omega (arith, whole, text, each)

wires_long : (xs : List Wire) → 4 * length (flat_map wire_words xs) ≤ length (wires_text xs)
wires_long [] = omega arith
wires_long (x ∷ xs) =
    let words = length-append (wire_words x) (flat_map wire_words xs) in
    let text = length-append (wire_text x) (wires_text xs) in
    let one = wire_long x in
    let more = wires_long xs in
    omega (arith, words, text, one, more)

body_long : (written : WireBody) → 4 * length (body_words written) ≤ length (body_text written)
body_long (WireBody.raw bytes) = omega arith
body_long (WireBody.items xs) = wires_long xs

text_long : (bytes : List ℕ) (header : Header) (written : WireBody) → Spells bytes header written → 24 + 4 * length (body_words written) ≤ length bytes
text_long bytes header written spells =
    let long = ap length spells.is_text in
    let body = body_long written in
    omega (arith, long, body)

-- ---- a message

module _ (s : State) (task : ℕ) (bytes : List ℕ) (x : ExceedsRights s task bytes) where
  copied_more : length x.copied_state.ledger ≤ length s.ledger + (length bytes - 16) / 4
  copied_more =
      let c = x.copied in
      let place = place_at s x.message.destination in
      let first = right_more task place x.header.remote_kind x.header.remote s _ c.first c.destination in
      let second = reply_more task place x.header.local_kind x.header.local c.first _ c.second c.reply in
      let body = through_more task place (body_words x.written) (body_rights x.message.body) c.second x.copied_state c.body.1 in
      let long = text_long bytes x.header x.written x.spells in
      omega (arith, first, second, body, long)

send_has_room : (w : WorldView) (task : ℕ) (bytes : List ℕ) → w.ledger.total + (length bytes - 16) / 4 ≤ most_rights → HasRoomFor w (Event.Send task bytes)
send_has_room w task bytes few = record {
  room = λ s sh x.
      let more = copied_more s task bytes x in
      let many = x.many in
      let total = sh.agrees.total in
      omega (arith, more, many, total, few);
}

room_for : (w : WorldView) (event : Event) → w.ledger.total + (sent_length event - 16) / 4 ≤ most_rights → HasRoomFor w event
room_for w (Event.Send task bytes) few = send_has_room w task bytes few
room_for w event few = record { room = λ s sh x. x }

pub limit_tells : (w : WorldView) (event : Event) (b : Bool) →
    MatchBool b (w.ledger.total + (sent_length event - 16) / 4 ≤ most_rights) (most_rights < w.ledger.total + (sent_length event - 16) / 4) → MatchBool b (HasRoomFor w event) (IsNearLimit w event)
limit_tells w event true few = room_for w event few
limit_tells w event false many = many

-- a receipt by a set sends nothing
pub set_in_limit : (s : State) (event : Event) → IsBySet s event → PassesLimit s event → ⊥
set_in_limit s (Event.Send task bytes) by_set x = by_set
set_in_limit s event by_set x = x
