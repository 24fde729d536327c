-- The next step of a run.
use Rattle.std.proofs.Common.{◌≡◌, ◌≢◌, ◌⊎◌, ℕ, zero, suc, ◌+◌, ◌<◌, ◌≤◌, List, [], ◌∷◌, ◌++◌, take, length, Bool, true, false, inl, inr, refl, sym, ap, subst, ◌∙◌, arith, append_assoc}
use Rattle.std.specs.Prelude.{if◌then◌else◌, ◌==◌, ◌&&◌, map}
use Rattle.std.proofs.lemmas.Bool.Decides.{eqb_tells}
use Rattle.std.proofs.lemmas.List.{length-map, length-append}
use Rattle.mach_types.specs.declared.calls.Event.{Event}
use Rattle.mach_types.specs.declared.calls.Reply.{Reply}
use Rattle.mach_types.specs.declared.profiles.Profile.{Profile}
use Rattle.mach_types.specs.declared.rights.Right.TheVariants.{Send, Receive}
use Rattle.mach_types.specs.Bodies.{body_words}
use Rattle.mach_types.specs.Messages.{Entry}
use Rattle.mach_types.specs.Numbers.{right_number}
use Rattle.mach_types.specs.Tokens.{Kind, receive, count, is_of, same_kind}
use Rattle.mach_model.specs.State.{State, Names, lookup, opening_in}
use Rattle.mach_model.specs.Refusals.{added_rights}
use Rattle.mach_model.specs.Lawful.{IsLawful}
use Rattle.mach_model.specs.Machine.{Step, Done, RunIn}
use Rattle.mach_model.proofs.Settling.{alive}
use Rattle.mach_laws.specs.Paths.{Stage, PathBy}
use Rattle.mach_laws.specs.JudgedPaths.{JudgedPath}
use Rattle.mach_laws.specs.Order.{InOrder, came, went, new_entries, front_entry, if_taken, unless_large}
use Rattle.mach_laws.specs.Making.{is_port, made_by_words, MakesRights}
use Rattle.mach_laws.specs.Received.{Delivers}
use Rattle.mach_laws.specs.Delivered.{DestroysTooLong}
use Rattle.mach_laws.specs.Looks.{IsLook}
use Rattle.mach_fates.specs.Stepping.{with_stage, TakesNone, TakesBy, GoesOn}

-- ---- the path

push : (now : ℕ) (old : State) (path : List Stage) (s : State) (event : Event) (reply : Reply) (t : State) →
    PathBy Step now old path s → Step (now + length path) s event reply t → PathBy Step now old (with_stage path s event reply t) t
push now old [] s event reply t path step = (path, subst (λ (n : ℕ). Step n s event reply t) (omega arith) step, refl)
push now old (x ∷ xs) s event reply t path step =
    (path.0, path.1, push (now + 1) x.after xs s event reply t path.2 (subst (λ (n : ℕ). Step n s event reply t) (omega arith) step))

came_more : (p : ℕ) (path : List Stage) (x : Stage) → came p (path ++ x ∷ []) ≡ came p path ++ (new_entries p x ++ [])
came_more p [] x = refl
came_more p (y ∷ ys) x = ap (λ (es : List Entry). new_entries p y ++ es) (came_more p ys x) ∙ sym (append_assoc (new_entries p y) (came p ys) (new_entries p x ++ []))

went_more : (p : ℕ) (path : List Stage) (x : Stage) → went p (path ++ x ∷ []) ≡ went p path ++ (if_taken x.event x.reply (front_entry p x) ++ [])
went_more p [] x = refl
went_more p (y ∷ ys) x =
    ap (λ (es : List Entry). if_taken y.event y.reply (front_entry p y) ++ es) (went_more p ys x)
    ∙ sym (append_assoc (if_taken y.event y.reply (front_entry p y)) (went p ys) (if_taken x.event x.reply (front_entry p x) ++ []))

-- ---- logs

longer : {A : Type 0} (xs ys zs : List A) → ys ≡ xs ++ zs → length xs ≤ length ys
longer xs ys zs e = let a = ap length e in let b = length-append xs zs in omega (arith, a, b)

logs_grow : (p : ℕ) (path : List Stage) (s t : State) (event : Event) (reply : Reply) → InOrder p path s → InOrder p (with_stage path s event reply t) t → length (s.log p) ≤ length (t.log p)
logs_grow p path s t event reply a b =
    let x : Stage = record { before = s; event = event; reply = reply; after = t } in
    longer (s.log p) (t.log p) (new_entries p x ++ []) (sym b.log ∙ came_more p path x ∙ ap (λ (es : List Entry). es ++ (new_entries p x ++ [])) a.log)

-- ---- what is taken

taken_length : {A : Type 0} (n : ℕ) (xs : List A) → n ≤ length xs → length (take n xs) ≡ n
taken_length zero xs h = refl
taken_length (suc n) [] h = absurd (omega (arith, h))
taken_length (suc n) (x ∷ xs) h = ap suc (taken_length n xs (omega (arith, h)))

takes_none : (p : ℕ) (path : List Stage) (s t : State) (event : Event) (reply : Reply) → IsLawful s → IsLawful t → InOrder p path s → InOrder p (with_stage path s event reply t) t →
    ((es : List Entry) → if_taken event reply es ≡ []) → t.taken p ≡ s.taken p
takes_none p path s t event reply l m a b none =
    let x : Stage = record { before = s; event = event; reply = reply; after = t } in
    let same : take (t.taken p) (t.log p) ≡ take (s.taken p) (s.log p) ++ [] =
    sym b.taken ∙ went_more p path x ∙ ap (λ (es : List Entry). went p path ++ (es ++ [])) (none (front_entry p x)) ∙ ap (λ (es : List Entry). es ++ []) a.taken in
    let more = ap length same in
    let all = length-append (take (s.taken p) (s.log p)) [] in
    let before = taken_length (s.taken p) (s.log p) (l.within p) in
    let after = taken_length (t.taken p) (t.log p) (m.within p) in
    omega (arith, more, all, before, after)

-- the reply is that no message is taken
abbrev IsNoTake : Reply → Type 0
IsNoTake (Reply.Message bytes) = ⊥
IsNoTake (Reply.TooLarge n) = ⊥
IsNoTake reply = Unit {0}

none_taken : (event : Event) (reply : Reply) (es : List Entry) → IsNoTake reply → if_taken event reply es ≡ []
none_taken (Event.Receive task name room large) (Reply.Message bytes) es not = absurd not
none_taken (Event.Receive task name room large) (Reply.TooLarge n) es not = absurd not
none_taken (Event.Receive task name room large) reply es not = refl
none_taken (Event.ReceiveAgain task waited room large) (Reply.Message bytes) es not = absurd not
none_taken (Event.ReceiveAgain task waited room large) (Reply.TooLarge n) es not = absurd not
none_taken (Event.ReceiveAgain task waited room large) reply es not = refl
none_taken event reply es not = refl

look_taken : (event : Event) (n : ℕ) (es : List Entry) → IsLook event (Reply.TooLarge n) → if_taken event (Reply.TooLarge n) es ≡ []
look_taken (Event.Receive task name room large) n es look = ap (λ (b : Bool). unless_large b es) look
look_taken (Event.ReceiveAgain task waited room large) n es look = ap (λ (b : Bool). unless_large b es) look
look_taken event n es look = absurd look

-- ---- dead ports

no_words : (names : Names) (p : ℕ) (ws : List (ℕ × ℕ)) → made_by_words names receive p ws ≡ 0
no_words names p [] = refl
no_words names p (w ∷ ws) = let rest = no_words names p ws in omega (arith, rest)

none_behind : (a b c : Bool) → c ≡ false → ◌≡◌ {A = ℕ} (if a && b && c then 1 else 0) 0
none_behind true true c e = ap (λ (x : Bool). if x then suc zero else zero) e
none_behind true false c e = refl
none_behind false true c e = refl
none_behind false false c e = refl

none_between : (a b : Bool) (x : ℕ) → ◌≡◌ {A = ℕ} (if a && false && b then x else 0) 0
none_between true b x = refl
none_between false b x = refl

older : (p made : ℕ) → p < made → (p == made) ≡ false
older p made h = elim (eqb_tells p made) [
  | inl e ↦ absurd (let same = e.1 in omega (arith, h, same))
  | inr e ↦ e.0
]

-- no event makes a receive right for a port that was made before
makes_none : (s : State) (event : Event) (p n : ℕ) → p < s.ports_made → MakesRights s event receive p n → n ≡ 0
makes_none s (Event.Allocate task right) p n old h = h ∙ none_behind (right == right_number Receive) (same_kind receive receive) (p == s.ports_made) (older p s.ports_made old)
makes_none s (Event.AllocateName task right name) p n old h = h ∙ none_behind (right == right_number Receive) (same_kind receive receive) (p == s.ports_made) (older p s.ports_made old)
makes_none s (Event.ModRefs task name right delta) p n old h = h ∙ none_between (right == right_number Send) (is_port p (lookup s task name)) (added_rights delta)
makes_none s (Event.InsertRight task name from poly number) p n old h = h
makes_none s (Event.ExtractRight task name number to) p n old h = h
makes_none s (Event.RequestNotification task name variant sync notify number) p n old h = h
makes_none s (Event.Send task bytes) p n old (header, written, spells, is) = is ∙ no_words (s.naming task) p ((header.remote_kind, header.remote) ∷ (header.local_kind, header.local) ∷ body_words written)
makes_none s event p n old h = h

true_or_false : (b : Bool) → (b ≡ true) ⊎ (b ≡ false)
true_or_false true = inl refl
true_or_false false = inr refl

not_both : (b : Bool) → b ≡ true → b ≡ false → ⊥
not_both b one other = let e : true ≡ false = sym one ∙ other in cc

none_or_some : (n : ℕ) → (n ≡ 0) ⊎ (0 < n)
none_or_some zero = inl refl
none_or_some (suc n) = inr (omega arith)

-- ---- the laws that this stands on

module _
    (lawfuls : (profile : Profile) (events : List Event) (replies : List Reply) (s : State) → RunIn profile events replies s → IsLawful s)
    (runs : (profile : Profile) (path : List Stage) (s : State) → JudgedPath profile path s → RunIn profile (map (λ (x : Stage). x.event) path) (map (λ (x : Stage). x.reply) path) s)
    (orders : (profile : Profile) (path : List Stage) (s : State) → JudgedPath profile path s → (p : ℕ) → InOrder p path s)
    (receives : (profile : Profile) (events : List Event) (replies : List Reply) (s : State) → RunIn profile events replies s →
    (event : Event) (bytes : List ℕ) (new : State) → Step (length events) s event (Reply.Message bytes) new → Delivers event bytes s new)
    (destroys : (now : ℕ) (old : State) (event : Event) (n : ℕ) (new : State) → Step now old event (Reply.TooLarge n) new → ¬ (IsLook event (Reply.TooLarge n)) → DestroysTooLong event n old new)
    (refuses : (now : ℕ) (old new : State) (event : Event) (code : ℕ) → Step now old event (Reply.Code code) new → code ≢ 0 → new ≡ old)
    (makes : (profile : Profile) (events : List Event) (replies : List Reply) (s : State) → RunIn profile events replies s →
    (event : Event) (reply : Reply) (new : State) → Done (length events) s event reply new → (kind : Kind) (p : ℕ) →
    (n : ℕ) × MakesRights s event kind p n × (count (is_of kind p) new.ledger ≤ count (is_of kind p) s.ledger + n))
    (ones : (profile : Profile) (events : List Event) (replies : List Reply) (s : State) → RunIn profile events replies s → (p : ℕ) → s.live_port p ≡ true → count (is_of receive p) s.ledger ≡ 1) where
  path_after : (profile : Profile) (path : List Stage) (s : State) (event : Event) (reply : Reply) (t : State) → JudgedPath profile path s → Step (length path) s event reply t →
      JudgedPath profile (with_stage path s event reply t) t
  path_after profile path s event reply t is step = push 0 (opening_in profile) path s event reply t is (subst (λ (n : ℕ). Step n s event reply t) (omega arith) step)

  lawful_at : (profile : Profile) (path : List Stage) (s : State) → JudgedPath profile path s → IsLawful s
  lawful_at profile path s is = lawfuls profile (map (λ (x : Stage). x.event) path) (map (λ (x : Stage). x.reply) path) s (runs profile path s is)

  none_at : (profile : Profile) (path : List Stage) (s : State) (event : Event) (reply : Reply) (t : State) → JudgedPath profile path s → Step (length path) s event reply t →
      ((es : List Entry) → if_taken event reply es ≡ []) → TakesNone s t
  none_at profile path s event reply t is step none = λ p.
      let next = path_after profile path s event reply t is step in
      takes_none p path s t event reply (lawful_at profile path s is) (lawful_at profile (with_stage path s event reply t) t next) (orders profile path s is p) (orders profile (with_stage path s event reply t) t next p) none

  takes_at : (profile : Profile) (path : List Stage) (s : State) (event : Event) (reply : Reply) (t : State) → JudgedPath profile path s → Step (length path) s event reply t → TakesBy s event reply t
  takes_at profile path s event (Reply.Message bytes) t is step =
      receives profile (map (λ (x : Stage). x.event) path) (map (λ (x : Stage). x.reply) path) s (runs profile path s is) event bytes t
      (subst (λ (n : ℕ). Step n s event (Reply.Message bytes) t) (sym (length-map path (λ (x : Stage). x.event))) step)
  takes_at profile path s event (Reply.TooLarge n) t is step =
      (destroys (length path) s event n t step, λ look. none_at profile path s event (Reply.TooLarge n) t is step (λ es. look_taken event n es look))
  takes_at profile path s event (Reply.Code code) t is step =
      (refuses (length path) s t event code step, none_at profile path s event (Reply.Code code) t is step (λ es. none_taken event (Reply.Code code) es tt))
  takes_at profile path s event reply t is step = none_at profile path s event reply t is step (λ es. none_taken event reply es tt)

  dead_at : (profile : Profile) (path : List Stage) (s : State) (event : Event) (reply : Reply) (t : State) → JudgedPath profile path s → Step (length path) s event reply t →
      (p : ℕ) → p < s.ports_made → s.live_port p ≡ false → t.live_port p ≡ false
  dead_at profile path s event reply t is (inl r) p old dead = ap (λ (x : State). x.live_port p) r.same ∙ dead
  dead_at profile path s event reply t is (inr d) p old dead =
      let events : List Event = map (λ (x : Stage). x.event) path in
      let replies : List Reply = map (λ (x : Stage). x.reply) path in
      let next = path_after profile path s event reply t is (inr d) in
      let m = makes profile events replies s (runs profile path s is) event reply t (subst (λ (n : ℕ). Done n s event reply t) (sym (length-map path (λ (x : Stage). x.event))) d) receive p in
      let made : m.0 ≡ 0 = makes_none s event p m.0 old m.1 in
      let most : count (is_of receive p) t.ledger ≤ count (is_of receive p) s.ledger + m.0 = m.2 in
      elim (true_or_false (t.live_port p)) [
        | inr gone ↦ gone
        | inl lives ↦ (let one = ones profile (map (λ (x : Stage). x.event) (with_stage path s event reply t)) (map (λ (x : Stage). x.reply) (with_stage path s event reply t)) t
            (runs profile (with_stage path s event reply t) t next) p lives in
            elim (none_or_some (count (is_of receive p) s.ledger)) [
              | inl none ↦ absurd (omega (arith, one, most, made, none))
              | inr some ↦ absurd (not_both (s.live_port p) (alive s (lawful_at profile path s is) receive p some) dead)
            ])
      ]

  pub goes_on : (profile : Profile) (path : List Stage) (s : State) (event : Event) (reply : Reply) (t : State) → JudgedPath profile path s → Step (length path) s event reply t → GoesOn profile path s event reply t
  goes_on profile path s event reply t is step =
      let next = path_after profile path s event reply t is step in
      record {
        path_then = next;
        lawful = lawful_at profile path s is;
        lawful_then = lawful_at profile (with_stage path s event reply t) t next;
        logs = λ p. logs_grow p path s t event reply (orders profile path s is p) (orders profile (with_stage path s event reply t) t next p);
        takes = takes_at profile path s event reply t is step;
        dead = dead_at profile path s event reply t is step;
      }
