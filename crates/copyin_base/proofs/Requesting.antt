-- The requests that the tables keep still agree where they, the rights that they keep and what stands are as they were.
use Rattle.std.proofs.Common.{◌≡◌, ℕ, ◌+◌, ◌<◌, ◌≤◌, ◌^◌, Bool, true, false, List, [], ◌∷◌, ◌++◌, Option, Some, None, refl, sym, ap, subst, ◌∙◌, arith}
use Rattle.std.specs.Prelude.{is_some, if◌then◌else◌, ◌==◌, ◌&&◌}
use Rattle.std.specs.Option.{option_map}
use Rattle.std.specs.FinMap as map
use Rattle.std.proofs.lemmas.Bool.{eq-eqb, lt-ltb, ltb-true}
use Rattle.mach_types.specs.Tokens.{Kind, receive, send, send_once, Request, no_senders, port_destroyed, dead_name, in_request, Token}
use Rattle.mach_model.specs.State.{same_request, request_at}
use Rattle.mach_model.specs.Carried.{lying_among}
use Rattle.mach_model.proofs.Names.{removed_own}
use Rattle.mach_model.proofs.Settling.{request_refl}
use Rattle.request_table.specs.declared.Request.{Request as NameRequest}
use Rattle.request_table.specs.Requests.{name_key}
use Rattle.request_table.specs.Tables.{RequestTablesView, left_by, request_left}
use Rattle.copyin_base.specs.Requests.{notify_of, rights_kept, was_on, rights_went, AreMade, AreEnded, RequestsAgree, requests_after}
use Rattle.copyin_base.proofs.Gets.{of_some}
use Rattle.copyin_base.proofs.Putting.{get_removed}

kept_alike : (live live2 : ℕ → Bool) (o : Option ℕ) → ((n : ℕ) → o ≡ Some n → live2 n ≡ live n) → (kind : Kind) (q : ℕ) → rights_kept live2 o kind q ≡ rights_kept live o kind q
kept_alike live live2 None same kind q = refl
kept_alike live live2 (Some n) same receive q = refl
kept_alike live live2 (Some n) same send q = refl
kept_alike live live2 (Some n) same send_once q = grind arith

went_alike : (live live2 : ℕ → Bool) (made : ℕ) (went : List NameRequest) → AreMade made went → ((q : ℕ) → q < made → live2 q ≡ live q) → (r : Request) (kind : Kind) (q : ℕ) →
    rights_went live2 went r kind q ≡ rights_went live went r kind q
went_alike live live2 made [] a same r kind q = refl
went_alike live live2 made (x ∷ went) a same r kind q = grind (arith, went_alike live live2 made went a.1 same r kind q, kept_alike, of_some)

made_more : (made made2 : ℕ) (went : List NameRequest) → made ≤ made2 → AreMade made went → AreMade made2 went
made_more made made2 [] more a = tt
made_more made made2 (x ∷ went) more a = ((let less = a.0 in omega (arith, less, more)), made_more made made2 went more a.1)

-- requests that stood no more stand no more
pub ended_same : (stands stands2 : Request → Bool) → ((r : Request) → stands2 r ≡ stands r) → (went : List NameRequest) → AreEnded stands went → AreEnded stands2 went
ended_same stands stands2 same [] a = tt
ended_same stands stands2 same (x ∷ went) a = (same (dead_name x.task x.name) ∙ a.0, ended_same stands stands2 same went a.1)

-- ... and nor do they where one more ends
pub ended_more : (stands : Request → Bool) (this : Request) (went : List NameRequest) → AreEnded stands went → AreEnded (request_at stands this false) went
ended_more stands this [] a = tt
ended_more stands this (x ∷ went) a = grind (arith, ended_more stands this went a.1)

ended_append : (stands : Request → Bool) (went : List NameRequest) (g : NameRequest) → AreEnded stands went → stands (dead_name g.task g.name) ≡ false → AreEnded stands (went ++ g ∷ [])
ended_append stands [] g a e = (e, tt)
ended_append stands (x ∷ went) g a e = (a.0, ended_append stands went g a.1 e)

-- Ports may have been made, and others than those of the requests have gone.
pub requests_stay : (notify : Request → Option ℕ) (went : List NameRequest) (made made2 : ℕ) (stands stands2 : Request → Bool) (live live2 : ℕ → Bool) (tokens tokens2 : List Token) →
    RequestsAgree notify went made stands live tokens → made ≤ made2 → ((r : Request) → stands2 r ≡ stands r) → ((q : ℕ) → q < made → live2 q ≡ live q) →
    ((r : Request) (kind : Kind) (q : ℕ) → lying_among tokens2 kind q (in_request r) ≡ lying_among tokens kind q (in_request r)) → RequestsAgree notify went made2 stands2 live2 tokens2
requests_stay notify went made made2 stands stands2 live live2 tokens tokens2 a more same lives lying = grind (arith, kept_alike, went_alike, made_more, ended_same)

-- ---- a name goes

-- no two names have the same number
pub same_key : (t n u m : ℕ) → n < 2 ^ 32 → m < 2 ^ 32 → name_key t n ≡ name_key u m → (t ≡ u) × (n ≡ m)
same_key t n u m few small e = (omega (arith, few, small, e), omega (arith, few, small, e))

-- the requests that stand after this was left under a name
abbrev pub stands_after : {A : Type 0} → (Request → Bool) → (task name : ℕ) → (left : Option A) → Request → Bool
stands_after stands task name (Some e) = stands
stands_after stands task name None = request_at stands (dead_name task name) false

went_append : (live : ℕ → Bool) (went : List NameRequest) (g : NameRequest) (r : Request) (kind : Kind) (q : ℕ) →
    rights_went live (went ++ g ∷ []) r kind q ≡ rights_went live went r kind q + (if was_on r g then rights_kept live (Some g.notify) kind q else 0)
went_append live [] g r kind q = omega arith
went_append live (x ∷ went) g r kind q = let rest = went_append live went g r kind q in omega (arith, rest)

made_append : (made : ℕ) (went : List NameRequest) (g : NameRequest) → AreMade made went → g.notify < made → AreMade made (went ++ g ∷ [])
made_append made [] g a less = (less, tt)
made_append made (x ∷ went) g a less = (a.0, made_append made went g a.1 less)

module _ (v : RequestTablesView) (task name : ℕ) (small : name < 2 ^ 32)
    (own : (r : NameRequest) → map.get v.names.requests (name_key task name) ≡ Some r → (r.task ≡ task) × (r.name ≡ name)) where
  abbrev this : Request
  this = dead_name task name

  notify_this : (o : Option NameRequest) → map.get v.names.requests (name_key task name) ≡ o → notify_of v this ≡ option_map (λ (r : NameRequest). r.notify) o
  notify_this o is = grind (arith, lt-ltb)

  is_this : (r : Request) → same_request r this ≡ true → r ≡ this
  is_this (no_senders p) e = absurd (cc)
  is_this (port_destroyed p) e = absurd (cc)
  is_this (dead_name t n) e = grind arith

  abbrev gone : Option NameRequest → RequestTablesView
  gone o = record v { names = left_by v.names o }

  -- another request is kept as it was
  other_notify : (g : NameRequest) → (g.task ≡ task) × (g.name ≡ name) → (r : Request) → same_request r this ≡ false → notify_of (gone (Some g)) r ≡ notify_of v r
  other_notify g at (no_senders p) other = refl
  other_notify g at (port_destroyed p) other = refl
  other_notify g at (dead_name t n) other = grind (arith, same_key, eq-eqb, get_removed, ltb-true)

  this_gone : (g : NameRequest) → (g.task ≡ task) × (g.name ≡ name) → notify_of (gone (Some g)) this ≡ None
  this_gone g at = grind (arith, removed_own)

  own_ended : (stands : Request → Bool) (g : NameRequest) → (g.task ≡ task) × (g.name ≡ name) → request_at stands this false (dead_name g.task g.name) ≡ false
  own_ended stands g at = subst (λ (r : Request). request_at stands this false r ≡ false) (λ i. dead_name (sym at.0 i) (sym at.1 i)) (rw (request_refl this) refl)

  was_this : (g : NameRequest) → (g.task ≡ task) × (g.name ≡ name) → (r : Request) → was_on r g ≡ same_request r this
  was_this g at (no_senders p) = refl
  was_this g at (port_destroyed p) = refl
  was_this g at (dead_name t n) = λ i. t == at.0 i && n == at.1 i

  module _ (made : ℕ) (stands : Request → Bool) (live : ℕ → Bool) (tokens : List Token) (a : RequestsAgree (notify_of v) v.names.went made stands live tokens) where
    ended : (o : Option NameRequest) → map.get v.names.requests (name_key task name) ≡ o →
        RequestsAgree (notify_of (gone o)) (left_by v.names o).went made (request_at stands this false) live tokens
    ended None is = grind (arith, ended_more, is_this, notify_this)
    ended (Some g) is = record {
      standing = λ r. standing r (same_request r this) refl;
      kept = λ r kind q. a.kept r kind q ∙ kept r kind q (same_request r this) refl;
      given = λ r q. given r q (same_request r this) refl;
      given_went = made_append made v.names.went g a.given_went (a.given this g.notify (notify_this (Some g) is));
      ended_went = ended_append (request_at stands this false) v.names.went g (ended_more stands this v.names.went a.ended_went) (own_ended stands g (own g is));
    }
      where
        at : (g.task ≡ task) × (g.name ≡ name)
        at = own g is

        now_this : (r : Request) → same_request r this ≡ true → notify_of (gone (Some g)) r ≡ None
        now_this r e = ap (notify_of (gone (Some g))) (is_this r e) ∙ this_gone g at

        was : (r : Request) → same_request r this ≡ true → notify_of v r ≡ Some g.notify
        was r e = ap (notify_of v) (is_this r e) ∙ notify_this (Some g) is

        standing : (r : Request) (b : Bool) → same_request r this ≡ b → (if b then false else stands r) ≡ is_some (notify_of (gone (Some g)) r)
        standing r true e = sym (ap is_some (now_this r e))
        standing r false e = a.standing r ∙ sym (ap is_some (other_notify g at r e))

        given : (r : Request) (q : ℕ) (b : Bool) → same_request r this ≡ b → notify_of (gone (Some g)) r ≡ Some q → q < made
        given r q true e to = absurd (let f : None ≡ Some q = sym (now_this r e) ∙ to in cc)
        given r q false e to = a.given r q (sym (other_notify g at r e) ∙ to)

        kept : (r : Request) (kind : Kind) (q : ℕ) (b : Bool) → same_request r this ≡ b →
            rights_kept live (notify_of v r) kind q + rights_went live v.names.went r kind q ≡ rights_kept live (notify_of (gone (Some g)) r) kind q + rights_went live (v.names.went ++ g ∷ []) r kind q
        kept r kind q true e =
            let before = ap (λ (o : Option ℕ). rights_kept live o kind q) (was r e) in
            let after : rights_kept live (notify_of (gone (Some g)) r) kind q ≡ 0 = ap (λ (o : Option ℕ). rights_kept live o kind q) (now_this r e) in
            let one : (if was_on r g then rights_kept live (Some g.notify) kind q else 0) ≡ rights_kept live (Some g.notify) kind q =
            ap (λ (b : Bool). if b then rights_kept live (Some g.notify) kind q else 0) (was_this g at r ∙ e) in
            let all = went_append live v.names.went g r kind q in
            omega (arith, before, after, one, all)
        kept r kind q false e =
            let same = ap (λ (o : Option ℕ). rights_kept live o kind q) (other_notify g at r e) in
            let one : (if was_on r g then rights_kept live (Some g.notify) kind q else 0) ≡ 0 = ap (λ (b : Bool). if b then rights_kept live (Some g.notify) kind q else 0) (was_this g at r ∙ e) in
            let all = went_append live v.names.went g r kind q in
            omega (arith, same, one, all)

    -- The request on a name ends as the name goes; its right is kept as one of those whose names went.
    pub requests_end : RequestsAgree (notify_of (request_left v task name)) (request_left v task name).names.went made (request_at stands this false) live tokens
    requests_end = ended (map.get v.names.requests (name_key task name)) refl

    pub requests_left : {A : Type 0} (left : Option A) →
        RequestsAgree (notify_of (requests_after v task name left)) (requests_after v task name left).names.went made (stands_after stands task name left) live tokens
    requests_left (Some e) = a
    requests_left None = requests_end
