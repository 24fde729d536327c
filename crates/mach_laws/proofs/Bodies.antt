-- A body is determined by its text and its rights; and so is a text by its body and its words. A message read once some ports are dead
-- has the same form.
use Rattle.std.proofs.Common.{◌≡◌, ℕ, List, [], ◌∷◌, ◌++◌, refl, sym, ap, subst, ◌∙◌, arith, Bool, length, drop}
use Rattle.std.specs.Prelude.{map as list_map}
use Rattle.std.proofs.lemmas.List.{length-map, map-append}
use Rattle.mach_types.specs.Tokens.{Kind}
use Rattle.mach_types.specs.Messages.{Form, Mark, ReplyRight, absent, present, Item, plain, rights, Body, Message, mark_asof, reply_asof, item_asof, body_asof, asof}
use Rattle.mach_types.specs.Grammar.{Wire, data_item, port_item, WireBody, Header}
use Rattle.mach_types.specs.Bodies.{reply_words, wire_words, body_words, item_rights, body_rights, reply_rights, message_rights, AllZip, SameReply, SameItem, SameBody}
use Rattle.mach_model.specs.ReceivedMeans.{IsReceived, received_words}
use Rattle.mach_model.proofs.Walks.{AllZip-append, SameItem-each, SameBody-each, no_reply, one_reply}

-- ---- lists

pub append_split : {A : Type 0} (xs ys u v : List A) → length xs ≡ length ys → xs ++ u ≡ ys ++ v → (xs ≡ ys) × (u ≡ v)
append_split [] [] u v l e = (refl, e)
append_split (x ∷ xs) (y ∷ ys) u v l e = grind (arith, append_split xs ys u v (omega (arith, l)) (ap (drop 1) e))
append_split [] (y ∷ ys) u v l e = absurd (omega (arith, l))
append_split (x ∷ xs) [] u v l e = absurd (omega (arith, l))

-- each with the same
abbrev with_each : {A B : Type 0} → A → List B → List (A × B)
with_each {A} {B} a bs = list_map {B = A × B} (λ (b : B). (a, b)) bs

same_each : {A B : Type 0} (a b : A) (xs ys : List B) → with_each a xs ≡ with_each b ys → xs ≡ ys
same_each a b [] [] e = refl
same_each {A} {B} a b (x ∷ xs) (y ∷ ys) e =
    let first : ◌≡◌ {A = A × B} (a, x) (b, y) = cc in
    ap (λ (r : A × B). r.1 ∷ xs) first ∙ ap (λ zs. y ∷ zs) (same_each a b xs ys (ap (drop 1) e))
same_each a b [] (y ∷ ys) e = absurd (cc)
same_each a b (x ∷ xs) [] e = absurd (cc)

AllZip-long : {A B : Type 0} (R : A → B → Type 0) (xs : List A) (ys : List B) → AllZip R xs ys → length xs ≡ length ys
AllZip-long R [] [] h = refl
AllZip-long R (x ∷ xs) (y ∷ ys) h = let e = AllZip-long R xs ys h.1 in omega (arith, e)
AllZip-long R [] (y ∷ ys) h = absurd h
AllZip-long R (x ∷ xs) [] h = absurd h

-- ---- one item

-- the number of a word allows the kind of its right
abbrev Agrees : (ℕ → Kind → Type 0) → ℕ × ℕ → Kind × Mark → Type 0
Agrees R w r = R w.0 r.0

-- the words of an item are as many as its rights
item_long : (R : ℕ → Kind → Type 0) (w : Wire) (x : Item) → SameItem R w x → length (wire_words w) ≡ length (item_rights x)
item_long R w x h = AllZip-long (Agrees R) (wire_words w) (item_rights x) (SameItem-each R w x h)

not_plain : (f g : Form) (k : Kind) (ms : List Mark) (n s c : ℕ) (bytes padding : List ℕ) → rights g k ms ≡ plain f n s c bytes padding → ⊥
not_plain f g k ms n s c bytes padding e = cc

-- the text of a plain item
abbrev as_written : Item → Wire
as_written (plain f n s c bytes padding) = data_item f n s c bytes padding
as_written (rights f k ms) = port_item f 0 []

-- ---- the number of a word says of which kind its right is

module _ (R : ℕ → Kind → Type 0) (one : (number : ℕ) (k l : Kind) → R number k → R number l → k ≡ l) where
  one_item : (w : Wire) (x y : Item) → SameItem R w x → SameItem R w y → item_rights x ≡ item_rights y → x ≡ y
  one_item (data_item f n s c bytes padding) x y a b e = a ∙ sym b
  one_item (port_item f number words) (rights g k ms) (rights h l ns) a b e =
      ap (λ (f : Form). rights f k ms) (a.0 ∙ sym b.0) ∙ ap (λ (j : Kind). rights h j ms) (one number k l a.1 b.1) ∙ ap (rights h l) (same_each k l ms ns e)
  one_item (port_item f number words) (plain g n s c bytes padding) y a b e = absurd a
  one_item (port_item f number words) (rights g k ms) (plain h n s c bytes padding) a b e = absurd b

  one_items : (ws : List Wire) (xs ys : List Item) → AllZip (SameItem R) ws xs → AllZip (SameItem R) ws ys → body_rights (Body.items xs) ≡ body_rights (Body.items ys) → xs ≡ ys
  one_items [] [] [] a b e = refl
  one_items (w ∷ ws) (x ∷ xs) (y ∷ ys) a b e =
      let parts = append_split (item_rights x) (item_rights y) (body_rights (Body.items xs)) (body_rights (Body.items ys)) (sym (item_long R w x a.0) ∙ item_long R w y b.0) e in
      ap (λ (z : Item). z ∷ xs) (one_item w x y a.0 b.0 parts.0) ∙ ap (λ (zs : List Item). y ∷ zs) (one_items ws xs ys a.1 b.1 parts.1)
  one_items [] (x ∷ xs) ys a b e = absurd a
  one_items [] [] (y ∷ ys) a b e = absurd b
  one_items (w ∷ ws) [] ys a b e = absurd a
  one_items (w ∷ ws) (x ∷ xs) [] a b e = absurd b

  pub one_body : (w : WireBody) (x y : Body) → SameBody R w x → SameBody R w y → body_rights x ≡ body_rights y → x ≡ y
  one_body (WireBody.raw bytes) (Body.raw xs) (Body.raw ys) a b e = ap Body.raw (a ∙ sym b)
  one_body (WireBody.items ws) (Body.items xs) (Body.items ys) a b e = ap Body.items (one_items ws xs ys a b e)
  one_body (WireBody.raw bytes) (Body.items xs) y a b e = absurd a
  one_body (WireBody.raw bytes) (Body.raw xs) (Body.items ys) a b e = absurd b
  one_body (WireBody.items ws) (Body.raw xs) y a b e = absurd a
  one_body (WireBody.items ws) (Body.items xs) (Body.raw ys) a b e = absurd b

-- ---- the kind of a right says under which number it is received

one_wire : (v w : Wire) (x : Item) → SameItem IsReceived v x → SameItem IsReceived w x → wire_words v ≡ wire_words w → v ≡ w
one_wire (data_item f n s c bytes padding) (data_item g m t d others more) x a b e = ap as_written (sym a ∙ b)
one_wire (port_item f n vs) (port_item h m ws) (rights g k ms) a b e =
    ap (λ (z : Form). port_item z n vs) (sym a.0 ∙ b.0) ∙ ap (λ (z : ℕ). port_item h z vs) (a.1 ∙ sym b.1) ∙ ap (port_item h m) (same_each n m vs ws e)
one_wire (data_item f n s c bytes padding) (port_item h m ws) (rights g k ms) a b e = absurd (not_plain f g k ms n s c bytes padding a)
one_wire (port_item f n vs) (data_item g m t d others more) (rights h k ms) a b e = absurd (not_plain g h k ms m t d others more b)
one_wire (data_item f n s c bytes padding) (port_item h m ws) (plain g i t d others more) a b e = absurd b
one_wire (port_item f n vs) w (plain g i t d others more) a b e = absurd a

one_wires : (vs ws : List Wire) (xs : List Item) → AllZip (SameItem IsReceived) vs xs → AllZip (SameItem IsReceived) ws xs → body_words (WireBody.items vs) ≡ body_words (WireBody.items ws) → vs ≡ ws
one_wires [] [] [] a b e = refl
one_wires (v ∷ vs) (w ∷ ws) (x ∷ xs) a b e =
    let parts = append_split (wire_words v) (wire_words w) (body_words (WireBody.items vs)) (body_words (WireBody.items ws)) (item_long IsReceived v x a.0 ∙ sym (item_long IsReceived w x b.0)) e in
    ap (λ (z : Wire). z ∷ vs) (one_wire v w x a.0 b.0 parts.0) ∙ ap (λ (zs : List Wire). w ∷ zs) (one_wires vs ws xs a.1 b.1 parts.1)
one_wires [] ws (x ∷ xs) a b e = absurd a
one_wires [] (w ∷ ws) [] a b e = absurd b
one_wires (v ∷ vs) ws [] a b e = absurd a
one_wires (v ∷ vs) [] (x ∷ xs) a b e = absurd b

one_text : (v w : WireBody) (x : Body) → SameBody IsReceived v x → SameBody IsReceived w x → body_words v ≡ body_words w → v ≡ w
one_text (WireBody.raw bytes) (WireBody.raw others) (Body.raw xs) a b e = ap WireBody.raw (sym a ∙ b)
one_text (WireBody.items vs) (WireBody.items ws) (Body.items xs) a b e = ap WireBody.items (one_wires vs ws xs a b e)
one_text (WireBody.raw bytes) w (Body.items xs) a b e = absurd a
one_text (WireBody.raw bytes) (WireBody.items ws) (Body.raw xs) a b e = absurd b
one_text (WireBody.items vs) w (Body.raw xs) a b e = absurd a
one_text (WireBody.items vs) (WireBody.raw others) (Body.items xs) a b e = absurd b

-- ---- a received message

reply_each : (number word : ℕ) (reply : ReplyRight) → SameReply IsReceived number word reply → AllZip (Agrees IsReceived) (reply_words number word) (reply_rights reply)
reply_each number word absent h = subst (λ (xs : List (ℕ × ℕ)). AllZip (Agrees IsReceived) xs []) (sym (no_reply number word h.0)) tt
reply_each number word (present kind mark) h = grind (arith, one_reply)

-- Each word of a received text has the number of its right's kind.
pub received_each : (header : Header) (written : WireBody) (m : Message) → SameReply IsReceived header.remote_kind header.remote m.reply → SameBody IsReceived written m.body →
    AllZip (Agrees IsReceived) (received_words header written) (message_rights m)
received_each header written m reply body =
    AllZip-append (Agrees IsReceived) (reply_words header.remote_kind header.remote) (body_words written) (reply_rights m.reply) (body_rights m.body)
    (reply_each header.remote_kind header.remote m.reply reply) (SameBody-each IsReceived written m.body body)

-- the reply's number and word, and the text
pub record SameText (g h : Header) (v w : WireBody) : Type 0 where
  pub number : g.remote_kind ≡ h.remote_kind
  pub word : g.remote ≡ h.remote
  pub text : v ≡ w

-- Two texts of one message with the same words are the same.
pub one_received : (g h : Header) (v w : WireBody) (m : Message) → SameReply IsReceived g.remote_kind g.remote m.reply → SameReply IsReceived h.remote_kind h.remote m.reply →
    SameBody IsReceived v m.body → SameBody IsReceived w m.body → received_words g v ≡ received_words h w → SameText g h v w
one_received g h v w m a b c d e = record { number = reply.0; word = reply.1; text = one_text v w m.body c d parts.1 }
  where
    long : length (reply_words g.remote_kind g.remote) ≡ length (reply_words h.remote_kind h.remote)
    long = AllZip-long (Agrees IsReceived) _ (reply_rights m.reply) (reply_each g.remote_kind g.remote m.reply a)
        ∙ sym (AllZip-long (Agrees IsReceived) _ (reply_rights m.reply) (reply_each h.remote_kind h.remote m.reply b))

    parts : (reply_words g.remote_kind g.remote ≡ reply_words h.remote_kind h.remote) × (body_words v ≡ body_words w)
    parts = append_split (reply_words g.remote_kind g.remote) (reply_words h.remote_kind h.remote) (body_words v) (body_words w) long e

    by : (right : ReplyRight) → SameReply IsReceived g.remote_kind g.remote right → SameReply IsReceived h.remote_kind h.remote right → (g.remote_kind ≡ h.remote_kind) × (g.remote ≡ h.remote)
    by absent x y = (x.0 ∙ sym y.0, x.1 ∙ sym y.1)
    by (present kind mark) x y =
        let words : ◌≡◌ {A = List (ℕ × ℕ)} ((g.remote_kind, g.remote) ∷ []) ((h.remote_kind, h.remote) ∷ []) =
        sym (one_reply g.remote_kind g.remote kind x) ∙ parts.0 ∙ one_reply h.remote_kind h.remote kind y in
        (x ∙ sym y, one_word words)
      where
        one_word : ◌≡◌ {A = List (ℕ × ℕ)} ((g.remote_kind, g.remote) ∷ []) ((h.remote_kind, h.remote) ∷ []) → g.remote ≡ h.remote
        one_word e = let first : ◌≡◌ {A = ℕ × ℕ} (g.remote_kind, g.remote) (h.remote_kind, h.remote) = cc in ap (λ (x : ℕ × ℕ). x.1) first

    reply : (g.remote_kind ≡ h.remote_kind) × (g.remote ≡ h.remote)
    reply = by m.reply a b

-- ---- a message once some ports are dead

abbrev pub right_asof : (ℕ → Bool) → Kind × Mark → Kind × Mark
right_asof live r = (r.0, mark_asof live r.1)

module _ (live : ℕ → Bool) where
  marks_asof : (kind : Kind) (ms : List Mark) → with_each kind (list_map (mark_asof live) ms) ≡ list_map (right_asof live) (with_each kind ms)
  marks_asof kind [] = refl
  marks_asof kind (m ∷ ms) = ap (λ (rs : List (Kind × Mark)). (kind, mark_asof live m) ∷ rs) (marks_asof kind ms)

  item_rights_asof : (x : Item) → item_rights (item_asof live x) ≡ list_map (right_asof live) (item_rights x)
  item_rights_asof (plain f n s c bytes padding) = refl
  item_rights_asof (rights f kind ms) = marks_asof kind ms

  items_rights_asof : (xs : List Item) → body_rights (Body.items (list_map (item_asof live) xs)) ≡ list_map (right_asof live) (body_rights (Body.items xs))
  items_rights_asof [] = refl
  items_rights_asof (x ∷ xs) = grind (arith, items_rights_asof xs, item_rights_asof, map-append)

  body_rights_asof : (body : Body) → body_rights (body_asof live body) ≡ list_map (right_asof live) (body_rights body)
  body_rights_asof (Body.raw bytes) = refl
  body_rights_asof (Body.items xs) = items_rights_asof xs

  -- its rights are the same, but those for dead ports are dead
  pub rights_asof : (m : Message) → message_rights (asof live m) ≡ list_map (right_asof live) (message_rights m)
  rights_asof m = grind (arith, body_rights_asof)

  pub reply_same : (number word : ℕ) (reply : ReplyRight) → SameReply IsReceived number word reply → SameReply IsReceived number word (reply_asof live reply)
  reply_same number word absent h = h
  reply_same number word (present kind mark) h = h

  item_same : (w : Wire) (x : Item) → SameItem IsReceived w x → SameItem IsReceived w (item_asof live x)
  item_same (data_item f n s c bytes padding) x h = ap (item_asof live) h
  item_same (port_item f number words) (rights g kind ms) h = (h.0, h.1, length-map ms (mark_asof live) ∙ h.2)
  item_same (port_item f number words) (plain g n s c bytes padding) h = h

  items_same : (ws : List Wire) (xs : List Item) → AllZip (SameItem IsReceived) ws xs → AllZip (SameItem IsReceived) ws (list_map (item_asof live) xs)
  items_same [] [] h = tt
  items_same (w ∷ ws) (x ∷ xs) h = (item_same w x h.0, items_same ws xs h.1)
  items_same [] (x ∷ xs) h = h
  items_same (w ∷ ws) [] h = h

  pub body_same : (written : WireBody) (body : Body) → SameBody IsReceived written body → SameBody IsReceived written (body_asof live body)
  body_same (WireBody.raw bytes) (Body.raw others) h = h
  body_same (WireBody.items ws) (Body.items xs) h = items_same ws xs h
  body_same (WireBody.raw bytes) (Body.items xs) h = h
  body_same (WireBody.items ws) (Body.raw others) h = h
