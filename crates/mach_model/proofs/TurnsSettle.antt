-- What the turns of a step's end come to is an end as Settles says.
use Rattle.std.proofs.Common.{arith, ◌≡◌, ℕ, ◌+◌, ◌<◌, List, refl, true, false, Bool, ◌⊎◌, inl, inr, zero, suc, [], ◌∷◌, ◌++◌, sym, ap, subst, length, None, ◌∙◌, cond}
use Rattle.std.specs.Prelude.{◌≢◌, ◌&&◌, not, All, Option, Some, if◌then◌else◌, Any, ◌==◌, map as list_map, filter, ◌||◌, option_map}
use Rattle.std.proofs.lemmas.List.Elements.{All-cons, All-head, All-tail, All-map, All-append}
use Rattle.std.specs.FinMap as map
use Rattle.std.specs.FinMap.{get-insert, get-empty, nat_cmp-IsAntisymmetric}
use Rattle.std.specs.FinMap.Entries.{find}
use Rattle.std.specs.declared.cmp.Ordering.{Ordering}
use Rattle.std.specs.declared.cmp.Ordering.TheVariants.{Less, Equal, Greater}
use Rattle.std.specs.Ordering.{nat_cmp, is_eq}
use Rattle.std.specs.Cmp.{nat_cmp_total}
use Rattle.std.proofs.lemmas.Bool.{and_from, false_from_ne_true}
use Rattle.std.proofs.lemmas.List.{append-nil, append_assoc}
use Rattle.mach_types.specs.Tokens.{send, send_once, no_senders, port_destroyed, dead_name, Place, in_task, in_message, in_request, Token, weigh, count, is_of, Kind, Request, token}
use Rattle.mach_types.specs.Messages.{Entry}
use Rattle.mach_model.specs.State.{State, Target, lookup, senders, Names, at}
use Rattle.mach_model.specs.Death.{CarriedAt, IsOrphan, IsSaved, Dies, orphan, carried_at, IsSentAway}
use Rattle.mach_model.specs.Notices.{Notice, port_sent, no_more_senders, right_unused, name_died, Owed, Posted, all_posted_tokens, notice_message}
use Rattle.mach_model.specs.Settles.{tokens_of, DeathsSettle, PortsSettle, due_notices, PlaceStays, StaysWith, TellsAt, PaysFor, GoesFrom, settled_target, Ends, RightsSettle, NoticesSettle, NamesSettle, RequestsSettle, Settles}
use Rattle.mach_model.specs.Turns.{Ending, owed_in, went_in, listed, lives_after, outcome, IsFound, AreJudged, PaidForName, Begun, became_dead, has_ended}
use Rattle.mach_model.proofs.Settling.{Dies-least, lives}
use Rattle.mach_model.proofs.SettledReceives.{or_cases, and_false, or_right, or_left, none_posted, none_tasked}
use Rattle.mach_model.proofs.Names.{weigh-append, lying_le_of, at_same, at_other}
use Rattle.mach_model.specs.Midway.{MidLawful}
use Rattle.mach_model.proofs.SettledEnd.{StandsBehind, logs_after, post_all, posts_due, posts_append, posts_stand, posts_cover}

-- ---- What is true between the turns of the end of a step; and when all are judged, exactly the ports of the least set are doomed.

-- ---- what is true between turns

-- The name's port dies.
abbrev pub DiesUnder : State → Option Target → Type 0
DiesUnder mid (Some (Target.port p)) = Dies mid p
DiesUnder mid (Some (Target.once p)) = Dies mid p
DiesUnder mid target = ⊥

-- what is told of a port that lives, with its count at the step's end
abbrev pub IsToldOf : State → ℕ → Notice → Type 0
IsToldOf mid p n = IsSentAway mid p × (n ≡ no_more_senders 0) ⊎ ¬ (IsSentAway mid p) × (n ≡ no_more_senders (mid.make_send p))

-- what a right that lay there has paid for
abbrev pub IsPaidAt : State → (told : List ℕ) → Place → Notice → Type 0
IsPaidAt mid told (in_task task) n = ⊥
IsPaidAt mid told (in_message q k) n = Dies mid q × (n ≡ right_unused)
IsPaidAt mid told (in_request (no_senders p)) n = Dies mid p × (n ≡ right_unused) ⊎ (listed told p ≡ true) × IsToldOf mid p n
IsPaidAt mid told (in_request (port_destroyed p)) n = Dies mid p × (n ≡ right_unused) ⊎ IsSentAway mid p × (n ≡ port_sent p)
IsPaidAt mid told (in_request (dead_name task name)) n = DiesUnder mid (lookup mid task name) × (mid.stands (dead_name task name) ≡ true) × (n ≡ name_died name)

abbrev pub HasPaid : State → (told : List ℕ) → Token × Notice → Type 0
HasPaid mid told x = (x.0.kind ≡ send_once) × IsPaidAt mid told x.0.place x.1

abbrev pub DiesAround : State → Place → Type 0
DiesAround mid (in_message q k) = Dies mid q
DiesAround mid place = ⊥

abbrev pub HasGone : State → Token → Type 0
HasGone mid x = Dies mid x.port ⊎ (x.kind ≢ send_once) × DiesAround mid x.place

pub record WasTold (old mid : State) (left : List Token) (p : ℕ) : Type 0 where
  pub live : mid.live_port p ≡ true
  pub survives : ¬ (Dies mid p)
  pub had : 0 < senders old p
  pub none : count (is_of send p) left ≡ 0

pub record IsSound (old mid : State) (owed : Owed) (e : Ending) : Type 0 where
  pub owes : owed_in e.begun ≡ owed
  pub went : All (PaidForName mid) (went_in e.begun)
  pub parts : (h : Token → ℕ) → weigh h mid.ledger ≡ weigh h e.left + weigh h (tokens_of (went_in e.begun)) + weigh h (tokens_of e.paid) + weigh h e.gone
  pub doomed : (p : ℕ) → listed e.doomed p ≡ true → Dies mid p
  pub saved : (p : ℕ) → listed e.saved p ≡ true → IsSentAway mid p
  pub told : (p : ℕ) → listed e.told p ≡ true → WasTold old mid e.left p
  pub paid : All (HasPaid mid e.told) e.paid
  pub gone : All (HasGone mid) e.gone

-- ---- deaths

pub dies_unsaved : (mid : State) (p : ℕ) → Dies mid p → ¬ (IsSaved mid p)
dies_unsaved mid r (orphan p o unsaved) = unsaved
dies_unsaved mid r (carried_at p q d c unsaved) = unsaved

module _ (old mid : State) (owed : Owed) (e : Ending) (s : IsSound old mid owed e) where
  -- why a port that is found may die or be sent away
  pub found_is : (p : ℕ) → IsFound mid e p → IsOrphan mid p ⊎ ((q : ℕ) × Dies mid q × CarriedAt mid p q)
  found_is p (inl o) = inl o
  found_is p (inr (q, doomed, at)) = inr (q, s.doomed q doomed, at)

  pub found_dies : (p : ℕ) → IsFound mid e p → ¬ (IsSaved mid p) → Dies mid p
  found_dies p f unsaved = go (found_is p f)
    where
      go : IsOrphan mid p ⊎ ((q : ℕ) × Dies mid q × CarriedAt mid p q) → Dies mid p
      go (inl o) = orphan p o unsaved
      go (inr (q, d, at)) = carried_at p q d at unsaved

  module _ (judged : AreJudged mid e) where
    unsaved_doomed : (p : ℕ) → IsFound mid e p → ¬ (IsSaved mid p) → listed e.doomed p ≡ true
    unsaved_doomed p f unsaved = grind (arith, or_cases)

    pub all_doomed : (p : ℕ) → Dies mid p → listed e.doomed p ≡ true
    all_doomed p d = Dies-least mid (λ q. listed e.doomed q ≡ true) (record {
      orphans = λ q o unsaved. unsaved_doomed q (inl o) unsaved;
      carried = λ q r doomed at unsaved. unsaved_doomed q (inr (r, doomed, at)) unsaved;
    }) p d

    pub all_saved : (p : ℕ) → IsSentAway mid p → listed e.saved p ≡ true
    all_saved p (saved, why) = grind (arith, or_cases, dies_unsaved, all_doomed)

    pub survives : (p : ℕ) → listed e.doomed p ≡ false → ¬ (Dies mid p)
    survives p e' d = let h = all_doomed p d in cc

    dead_after : (a b : Bool) → b ≡ true → (a && not b) ≡ false
    dead_after a true e = and_false a
    dead_after a false e = absurd (cc)

    died : (a b : Bool) → a ≡ true → (a && not b) ≡ false → b ≡ true
    died true true e f = refl
    died true false e f = absurd (cc)
    died false b e f = absurd (cc)

    pub dies_after : (p : ℕ) → Dies mid p → lives_after mid e p ≡ false
    dies_after p d = dead_after (mid.live_port p) (listed e.doomed p) (all_doomed p d)

    pub turns_deaths : DeathsSettle mid (outcome mid e)
    turns_deaths = grind (arith, dies_after, died)

    pub turns_ports : PortsSettle mid (outcome mid e)
    turns_ports = record {
      is_sent = listed e.saved;
      sent = all_saved;
      sent_only = s.saved;
      sets_of = λ p. refl;
      make_send = λ p. refl;
      sequence = λ p. refl;
    }

-- ---- Notices that were posted in one order, told in another: first those that are no part of what is owed, then those that are.

-- what is due to which port, in order
abbrev pub due_in : Begun → List (ℕ × Notice)
due_in [] = []
due_in (y ∷ ys) = (y.1.0.port, y.1.1) ∷ due_in ys

abbrev pub told_of : List Posted → List (ℕ × Notice)
told_of xs = list_map (λ x. (x.port, x.notice)) xs

-- those that stand where the mark is true, and the others
abbrev pub marked : Begun → List Posted → List Posted
marked [] xs = []
marked (y ∷ ys) [] = []
marked (y ∷ ys) (x ∷ xs) = if y.0 then x ∷ marked ys xs else marked ys xs

abbrev pub unmarked : Begun → List Posted → List Posted
unmarked [] xs = []
unmarked (y ∷ ys) [] = []
unmarked (y ∷ ys) (x ∷ xs) = if y.0 then unmarked ys xs else x ∷ unmarked ys xs

-- the others first
abbrev pub sorted : Begun → List Posted → List Posted
sorted ys xs = unmarked ys xs ++ marked ys xs

first_same : {A : Type 0} (x y : A) (xs ys : List A) → x ∷ xs ≡ y ∷ ys → x ≡ y
first_same x y xs ys e = cc

rest_same : {A : Type 0} (x y : A) (xs ys : List A) → x ∷ xs ≡ y ∷ ys → xs ≡ ys
rest_same x y xs ys e = cc

marked_due : (ys : Begun) (xs : List Posted) → told_of xs ≡ due_in ys → told_of (marked ys xs) ≡ due_notices (owed_in ys)
marked_due [] xs e = refl
marked_due (y ∷ ys) [] e = absurd (cc)
marked_due (y ∷ ys) (x ∷ xs) e = grind (arith, marked_due ys xs (rest_same _ _ _ _ e), first_same, rest_same)

unmarked_due : (ys : Begun) (xs : List Posted) → told_of xs ≡ due_in ys → told_of (unmarked ys xs) ≡ due_notices (went_in ys)
unmarked_due [] xs e = refl
unmarked_due (y ∷ ys) [] e = absurd (cc)
unmarked_due (y ∷ ys) (x ∷ xs) e = grind (arith, unmarked_due ys xs (rest_same _ _ _ _ e), first_same, rest_same)

map_joined : {A B : Type 0} (f : A → B) (xs ys : List A) → list_map f (xs ++ ys) ≡ list_map f xs ++ list_map f ys
map_joined f [] ys = refl
map_joined f (x ∷ xs) ys = ap (λ zs. f x ∷ zs) (map_joined f xs ys)

pub sorted_due : (ys : Begun) (xs : List Posted) → told_of xs ≡ due_in ys → told_of (sorted ys xs) ≡ due_notices (went_in ys ++ owed_in ys)
sorted_due ys xs e = grind (arith, map_joined, unmarked_due, marked_due)

-- ---- all stand in the other order too

sorted_weigh_of : (h : Token → ℕ) (ys : Begun) (xs : List Posted) → told_of xs ≡ due_in ys →
    weigh h (all_posted_tokens xs) ≡ weigh h (all_posted_tokens (unmarked ys xs)) + weigh h (all_posted_tokens (marked ys xs))
sorted_weigh_of h [] [] e = omega arith
sorted_weigh_of h [] (x ∷ xs) e = absurd (cc)
sorted_weigh_of h (y ∷ ys) [] e = absurd (cc)
sorted_weigh_of h (y ∷ ys) (x ∷ xs) e = grind (arith, sorted_weigh_of h ys xs (rest_same _ _ _ _ e), rest_same, weigh-append)

tokens_joined : (h : Token → ℕ) (xs ys : List Posted) → weigh h (all_posted_tokens (xs ++ ys)) ≡ weigh h (all_posted_tokens xs) + weigh h (all_posted_tokens ys)
tokens_joined h [] ys = omega arith
tokens_joined h (x ∷ xs) ys = grind (arith, tokens_joined h xs ys, weigh-append)

pub sorted_weigh : (h : Token → ℕ) (ys : Begun) (xs : List Posted) → told_of xs ≡ due_in ys → weigh h (all_posted_tokens (sorted ys xs)) ≡ weigh h (all_posted_tokens xs)
sorted_weigh h ys xs e = let a = sorted_weigh_of h ys xs e in let b = tokens_joined h (unmarked ys xs) (marked ys xs) in omega (arith, a, b)

-- how many stand at a port
abbrev at_port : ℕ → List Posted → ℕ
at_port p xs = length (filter (λ (x : Posted). x.port == p) xs)

at_joined : (p : ℕ) (xs ys : List Posted) → at_port p (xs ++ ys) ≡ at_port p xs + at_port p ys
at_joined p [] ys = omega arith
at_joined p (x ∷ xs) ys = grind (arith, at_joined p xs ys)

at_one : (p : ℕ) (x : Posted) (xs : List Posted) → at_port p (x ∷ xs) ≡ at_port p (x ∷ []) + at_port p xs
at_one p x xs = at_joined p (x ∷ []) xs

sorted_at_of : (p : ℕ) (ys : Begun) (xs : List Posted) → told_of xs ≡ due_in ys → at_port p xs ≡ at_port p (unmarked ys xs) + at_port p (marked ys xs)
sorted_at_of p [] [] e = omega arith
sorted_at_of p [] (x ∷ xs) e = absurd (cc)
sorted_at_of p (y ∷ ys) [] e = absurd (cc)
sorted_at_of p (y ∷ ys) (x ∷ xs) e = grind (arith, sorted_at_of p ys xs (rest_same _ _ _ _ e), rest_same, at_one)

pub sorted_at : (p : ℕ) (ys : Begun) (xs : List Posted) → told_of xs ≡ due_in ys → length (filter (λ (x : Posted). x.port == p) (sorted ys xs)) ≡ length (filter (λ (x : Posted). x.port == p) xs)
sorted_at p ys xs e = let a = sorted_at_of p ys xs e in let b = at_joined p (unmarked ys xs) (marked ys xs) in omega (arith, a, b)

-- ---- what is so of all, and of some

all_joined : {A : Type 0} (P : A → Type 0) (xs ys : List A) → All P xs → All P ys → All P (xs ++ ys)
all_joined P [] ys f g = g
all_joined P (x ∷ xs) ys f g = All-cons P x (xs ++ ys) (All-head P x xs f) (all_joined P xs ys (All-tail P x xs f) g)

none_all : {A : Type 0} (P : A → Type 0) → All P []
none_all P = λ k d below. absurd (omega arith)

unmarked_all : (P : Posted → Type 0) (ys : Begun) (xs : List Posted) → All P xs → All P (unmarked ys xs)
unmarked_all P [] xs all = none_all P
unmarked_all P (y ∷ ys) [] all = none_all P
unmarked_all P (y ∷ ys) (x ∷ xs) all = go y.0 (All-head P x xs all) (unmarked_all P ys xs (All-tail P x xs all))
  where
    go : (b : Bool) → P x → All P (unmarked ys xs) → All P (if b then unmarked ys xs else x ∷ unmarked ys xs)
    go true h ih = ih
    go false h ih = All-cons P x (unmarked ys xs) h ih

marked_all : (P : Posted → Type 0) (ys : Begun) (xs : List Posted) → All P xs → All P (marked ys xs)
marked_all P [] xs all = none_all P
marked_all P (y ∷ ys) [] all = none_all P
marked_all P (y ∷ ys) (x ∷ xs) all = go y.0 (All-head P x xs all) (marked_all P ys xs (All-tail P x xs all))
  where
    go : (b : Bool) → P x → All P (marked ys xs) → All P (if b then x ∷ marked ys xs else marked ys xs)
    go true h ih = All-cons P x (marked ys xs) h ih
    go false h ih = ih

pub sorted_all : (P : Posted → Type 0) (ys : Begun) (xs : List Posted) → All P xs → All P (sorted ys xs)
sorted_all P ys xs all = all_joined P (unmarked ys xs) (marked ys xs) (unmarked_all P ys xs all) (marked_all P ys xs all)

-- one of them is so
abbrev SomeIs : (Posted → Type 0) → List Posted → Type 0
SomeIs P [] = ⊥
SomeIs P (x ∷ xs) = P x ⊎ SomeIs P xs

some_left : (P : Posted → Type 0) (xs ys : List Posted) → SomeIs P xs → SomeIs P (xs ++ ys)
some_left P [] ys h = absurd h
some_left P (x ∷ xs) ys (inl h) = inl h
some_left P (x ∷ xs) ys (inr h) = inr (some_left P xs ys h)

some_right : (P : Posted → Type 0) (xs ys : List Posted) → SomeIs P ys → SomeIs P (xs ++ ys)
some_right P [] ys h = h
some_right P (x ∷ xs) ys h = inr (some_right P xs ys h)

some_parted : (P : Posted → Type 0) (ys : Begun) (xs : List Posted) → told_of xs ≡ due_in ys → SomeIs P xs → SomeIs P (unmarked ys xs) ⊎ SomeIs P (marked ys xs)
some_parted P [] [] e h = absurd h
some_parted P [] (x ∷ xs) e h = absurd (cc)
some_parted P (y ∷ ys) [] e h = absurd h
some_parted P (y ∷ ys) (x ∷ xs) e h = go y.0 h (λ g. some_parted P ys xs (rest_same _ _ _ _ e) g)
  where
    later : (b : Bool) → SomeIs P (unmarked ys xs) ⊎ SomeIs P (marked ys xs) → SomeIs P (if b then unmarked ys xs else x ∷ unmarked ys xs) ⊎ SomeIs P (if b then x ∷ marked ys xs else marked ys xs)
    later true (inl h) = inl h
    later true (inr h) = inr (inr h)
    later false (inl h) = inl (inr h)
    later false (inr h) = inr h

    go : (b : Bool) → P x ⊎ SomeIs P xs → (SomeIs P xs → SomeIs P (unmarked ys xs) ⊎ SomeIs P (marked ys xs)) →
        SomeIs P (if b then unmarked ys xs else x ∷ unmarked ys xs) ⊎ SomeIs P (if b then x ∷ marked ys xs else marked ys xs)
    go true (inl h) ih = inr (inl h)
    go false (inl h) ih = inl (inl h)
    go b (inr h) ih = later b (ih h)

any_some : (P : Posted → Type 0) (xs : List Posted) → Any P xs → SomeIs P xs
any_some P [] (k, y, below, is, holds) = absurd (omega (arith, below))
any_some P (x ∷ xs) (zero, y, below, is, holds) = inl (subst P (sym is) holds)
any_some P (x ∷ xs) (suc k, y, below, is, holds) = inr (any_some P xs (k, y, omega (arith, below), is, holds))

some_any : (P : Posted → Type 0) (xs : List Posted) → SomeIs P xs → Any P xs
some_any P [] h = absurd h
some_any P (x ∷ xs) (inl h) = (zero, x, omega arith, refl, h)
some_any P (x ∷ xs) (inr h) = let r = some_any P xs h in let below = r.2 in (suc r.0, r.1, omega (arith, below), r.3, r.4)

pub sorted_any : (P : Posted → Type 0) (ys : Begun) (xs : List Posted) → told_of xs ≡ due_in ys → Any P xs → Any P (sorted ys xs)
sorted_any P ys xs e any = some_any P (sorted ys xs) (elim (some_parted P ys xs e (any_some P xs any)) [
  | inl h ↦ some_left P (unmarked ys xs) (marked ys xs) h
  | inr h ↦ some_right P (unmarked ys xs) (marked ys xs) h
])

-- ---- What the turns of the end of a step come to, once nothing is left to do, is an end as `Settles` says.

-- ---- names of which each stands for another thing

abbrev turned_entries : (ℕ → Target → Target) → List (ℕ × Target) → Names
turned_entries f [] = map.empty
turned_entries f (e ∷ es) = map.insert (turned_entries f es) e.0 (f e.0 e.1)

turned_at : (f : ℕ → Target → Target) (es : List (ℕ × Target)) (n : ℕ) → map.get (turned_entries f es) n ≡ option_map (f n) (find nat_cmp n es)
turned_at f [] n = get-empty nat_cmp n
turned_at f (e ∷ es) n = get-insert nat_cmp_total (turned_entries f es) e.0 (f e.0 e.1) n ∙ go (nat_cmp n e.0) refl (turned_at f es n)
  where
    go : (r : Ordering) → nat_cmp n e.0 ≡ r → map.get (turned_entries f es) n ≡ option_map (f n) (find nat_cmp n es) →
        cond (is_eq r) (Some (f e.0 e.1)) (map.get (turned_entries f es) n) ≡ option_map (f n) (cond (is_eq r) (Some e.1) (find nat_cmp n es))
    go Less is ih = ih
    go Greater is ih = ih
    go Equal is ih = ap (λ (k : ℕ). Some (f k e.1)) (sym (nat_cmp-IsAntisymmetric n e.0 is))

abbrev pub turned : (ℕ → Target → Target) → Names → Names
turned f m = turned_entries f (map.entries m)

turned_get : (f : ℕ → Target → Target) (m : Names) (n : ℕ) → map.get (turned f m) n ≡ option_map (f n) (map.get m n)
turned_get f m n = turned_at f (map.entries m) n ∙ ap (option_map (f n)) (sym (map.get-entries m n))

-- ---- lists in parts

owed_kept : (t : Token × Notice → Bool) (ys : Begun) → owed_in (filter (λ y. t y.1) ys) ≡ filter t (owed_in ys)
owed_kept t [] = refl
owed_kept t (y ∷ ys) = grind (arith, owed_kept t ys)

went_kept : (t : Token × Notice → Bool) (ys : Begun) → went_in (filter (λ y. t y.1) ys) ≡ filter t (went_in ys)
went_kept t [] = refl
went_kept t (y ∷ ys) = grind (arith, went_kept t ys)

abbrev pub with_paid : Begun → Owed → Begun
with_paid ys xs = ys ++ list_map (λ x. (false, x)) xs

owed_alone : (xs : Owed) → owed_in (list_map (λ x. (false, x)) xs) ≡ []
owed_alone [] = refl
owed_alone (x ∷ xs) = owed_alone xs

went_alone : (xs : Owed) → went_in (list_map (λ x. (false, x)) xs) ≡ xs
went_alone [] = refl
went_alone (x ∷ xs) = ap (λ zs. x ∷ zs) (went_alone xs)

owed_with : (ys : Begun) (xs : Owed) → owed_in (with_paid ys xs) ≡ owed_in ys
owed_with [] xs = owed_alone xs
owed_with (y ∷ ys) xs = grind (arith, owed_with ys xs)

went_with : (ys : Begun) (xs : Owed) → went_in (with_paid ys xs) ≡ went_in ys ++ xs
went_with [] xs = went_alone xs
went_with (y ∷ ys) xs = grind (arith, went_with ys xs)

filtered : {A : Type 0} (P Q : A → Type 0) (t : A → Bool) → ((x : A) → P x → t x ≡ true → Q x) → (xs : List A) → All P xs → All Q (filter t xs)
filtered P Q t so [] all = λ k d below. absurd (omega arith)
filtered {A} P Q t so (x ∷ xs) all = go (t x) refl (All-head P x xs all) (filtered P Q t so xs (All-tail P x xs all))
  where
    go : (b : Bool) → t x ≡ b → P x → All Q (filter t xs) → All Q (if b then x ∷ filter t xs else filter t xs)
    go true e h rest = All-cons Q x (filter t xs) (so x h e) rest
    go false e h rest = rest

pub weaker : {A : Type 0} (P Q : A → Type 0) → ((x : A) → P x → Q x) → (xs : List A) → All P xs → All Q xs
weaker P Q so [] all = λ k d below. absurd (omega arith)
weaker {A} P Q so (x ∷ xs) all = All-cons Q x xs (so x (All-head P x xs all)) (weaker P Q so xs (All-tail P x xs all))

two_parts : (h : Token → ℕ) (t : Token × Notice → Bool) (xs : Owed) → weigh h (tokens_of xs) ≡ weigh h (tokens_of (filter t xs)) + weigh h (tokens_of (filter (λ x. not (t x)) xs))
two_parts h t [] = omega arith
two_parts h t (x ∷ xs) = grind (arith, two_parts h t xs)

pub tokens_joined_settle : (h : Token → ℕ) (xs ys : Owed) → weigh h (tokens_of (xs ++ ys)) ≡ weigh h (tokens_of xs) + weigh h (tokens_of ys)
tokens_joined_settle h [] ys = omega arith
tokens_joined_settle h (x ∷ xs) ys = omega (arith, tokens_joined_settle h xs ys)

of_false : (b : Bool) → b ≡ false → not b ≡ true
of_false b e = rw e refl

is_false : (b : Bool) → not b ≡ true → b ≡ false
is_false true e = absurd (cc)
is_false false e = refl

ended_not : (a b : Bool) → b ≡ true → (a && not b) ≡ false
ended_not a true e = and_false a
ended_not a false e = absurd (cc)

ended_is : (a b : Bool) → a ≡ true → (a && not b) ≡ false → b ≡ true
ended_is true true e f = refl
ended_is true false e f = absurd (cc)
ended_is false b e f = absurd (cc)

-- ---- the state that is left

-- the notices at ports that live, in the order in which they were posted
abbrev pub all_sent : State → Ending → Begun
all_sent mid e = filter (λ y. lives_after mid e y.1.0.port) (with_paid e.begun e.paid)

abbrev pub all_posted : (now : ℕ) → State → Ending → List Posted
all_posted now mid e = post_all now mid.log (due_in (all_sent mid e))

abbrev pub end_of : (now : ℕ) → State → Ending → State
end_of now mid e = record (outcome mid e) {
  naming = λ task. turned (settled_target mid (outcome mid e) task) (mid.naming task);
  log = logs_after now mid.log (due_in (all_sent mid e));
  ledger = e.left ++ all_posted_tokens (all_posted now mid e);
}

-- The send rights are those that are left, and so are the rights with tasks and requests.
pub end_sends : (now : ℕ) (mid : State) (e : Ending) (p : ℕ) → senders (end_of now mid e) p ≡ count (is_of send p) e.left
end_sends now mid e p =
    let a = weigh-append (λ x. if is_of send p x then 1 else 0) e.left (all_posted_tokens (all_posted now mid e)) in
    let b = none_posted (λ x. Unit {0}) (is_of send p) (λ x u e. cc) (λ x q u sent e. cc) (all_posted now mid e) (λ k d below. tt) in
    omega (arith, a, b)

pub end_outside : (now : ℕ) (mid : State) (e : Ending) (test : Token → Bool) → ((kind : Kind) (p q k : ℕ) → test (token kind p (in_message q k)) ≡ false) → count test (end_of now mid e).ledger ≡ count test e.left
end_outside now mid e test none = grind (arith, weigh-append, none_tasked)

module _ (now : ℕ) (old mid : State) (owed : Owed) (e : Ending) (l : MidLawful mid owed) (s : IsSound old mid owed e) (judged : AreJudged mid e) where
  abbrev new : State
  new = end_of now mid e

  -- ---- what becomes of ports

  dead : (p : ℕ) → Dies mid p → lives_after mid e p ≡ false
  dead = dies_after old mid owed e s judged

  -- a port that lived and doesn't die
  alive : (p : ℕ) → mid.live_port p ≡ true → ¬ (Dies mid p) → lives_after mid e p ≡ true
  alive p live not_dead = grind (arith, and_from, of_false, false_from_ne_true)

  sent_lives : (p : ℕ) → IsSentAway mid p → lives_after mid e p ≡ true
  sent_lives p (saved, why) = grind (arith, alive, dies_unsaved, lives, lying_le_of)

  saved_is : (p : ℕ) → IsSentAway mid p → listed e.saved p ≡ true
  saved_is = all_saved old mid owed e s judged

  dead_ended : (p : ℕ) (b : Bool) → Dies mid p → (not (lives_after mid e p) || b) ≡ true
  dead_ended p b d = or_left (not (lives_after mid e p)) b (of_false (lives_after mid e p) (dead p d))

  -- ---- names

  pub turns_names : NamesSettle mid new
  turns_names task name = grind (arith, turned_get)

  -- ---- requests

  senders_left : (p : ℕ) → senders new p ≡ count (is_of send p) e.left
  senders_left p = end_sends now mid e p

  module _ (told : (p : ℕ) → mid.stands (no_senders p) ≡ true → lives_after mid e p ≡ true → 0 < senders old p → count (is_of send p) e.left ≡ 0 → listed e.told p ≡ true) where
    ended_so : (r : Request) → mid.stands r ≡ true → Ends old mid new r → has_ended mid e r ≡ true
    ended_so (no_senders p) stands (inl gone) = or_left (not (lives_after mid e p)) (listed e.told p) (of_false (lives_after mid e p) gone)
    ended_so (no_senders p) stands (inr last) = grind (arith, senders_left)
    ended_so (port_destroyed p) stands (inl gone) = or_left (not (lives_after mid e p)) (listed e.saved p) (of_false (lives_after mid e p) gone)
    ended_so (port_destroyed p) stands (inr sent) = or_right (not (lives_after mid e p)) (listed e.saved p) (saved_is p sent)
    ended_so (dead_name task name) stands became = grind (arith, of_false)

    so_ended : (r : Request) → has_ended mid e r ≡ true → Ends old mid new r
    so_ended (no_senders p) h = grind (arith, or_cases, is_false, senders_left)
    so_ended (port_destroyed p) h = grind (arith, or_cases, is_false)
    so_ended (dead_name task name) h = grind (arith, is_false)

    pub turns_requests : RequestsSettle old mid new
    turns_requests = record {
      ended = λ r stands ends. ended_not (mid.stands r) (has_ended mid e r) (ended_so r stands ends);
      only = λ r stands gone. so_ended r (ended_is (mid.stands r) (has_ended mid e r) stands gone);
      unmade = λ r h. rw h refl;
    }

  -- ---- rights

  not_standing : (r : Request) → has_ended mid e r ≡ true → ¬ (PlaceStays new (in_request r))
  not_standing r h stands = let f = ended_not (mid.stands r) (has_ended mid e r) h in cc

  became : (o : Option Target) → DiesUnder mid o → became_dead mid e o ≡ true
  became None h = absurd h
  became (Some (Target.port p)) h = of_false (lives_after mid e p) (dead p h)
  became (Some (Target.once p)) h = of_false (lives_after mid e p) (dead p h)
  became (Some (Target.dead n)) h = absurd h
  became (Some (Target.set n)) h = absurd h

  pub paid_leaves : (place : Place) (n : Notice) → IsPaidAt mid e.told place n → ¬ (PlaceStays new place)
  paid_leaves (in_task task) n h = absurd h
  paid_leaves (in_message q k) n h = λ live. let f = dead q h.0 in cc
  paid_leaves (in_request (no_senders p)) n (inl h) = not_standing (no_senders p) (dead_ended p (listed e.told p) h.0)
  paid_leaves (in_request (no_senders p)) n (inr h) = not_standing (no_senders p) (or_right (not (lives_after mid e p)) (listed e.told p) h.0)
  paid_leaves (in_request (port_destroyed p)) n (inl h) = not_standing (port_destroyed p) (dead_ended p (listed e.saved p) h.0)
  paid_leaves (in_request (port_destroyed p)) n (inr h) = not_standing (port_destroyed p) (or_right (not (lives_after mid e p)) (listed e.saved p) (saved_is p h.0))
  paid_leaves (in_request (dead_name task name)) n h = not_standing (dead_name task name) (became (lookup mid task name) h.0)

  paid_tells : (place : Place) (n : Notice) → IsPaidAt mid e.told place n → TellsAt mid new place n
  paid_tells (in_task task) n h = h
  paid_tells (in_message q k) n h = h.1
  paid_tells (in_request (no_senders p)) n (inl h) = rw (dead p h.0) h.1
  paid_tells (in_request (no_senders p)) n (inr (was, inl h)) = let w = s.told p was in rw (alive p w.live w.survives, saved_is p h.0) h.1
  paid_tells (in_request (no_senders p)) n (inr (was, inr h)) = grind (arith, alive, false_from_ne_true)
  paid_tells (in_request (port_destroyed p)) n (inl h) = rw (dead p h.0) h.1
  paid_tells (in_request (port_destroyed p)) n (inr h) = rw (sent_lives p h.0) h.1
  paid_tells (in_request (dead_name task name)) n h = rw h.1 h.2

  abbrev at_live : Token × Notice → Bool
  at_live x = lives_after mid e x.0.port

  -- what paid, up to now and in the step's own part
  abbrev all_paid : Owed
  all_paid = went_in e.begun ++ e.paid

  abbrev Paid : Token × Notice → Type 0
  Paid x = PaidForName mid x ⊎ HasPaid mid e.told x

  each_paid : All Paid all_paid
  each_paid = All-append Paid (went_in e.begun) e.paid (weaker (PaidForName mid) Paid (λ x h. inl h) (went_in e.begun) s.went) (weaker (HasPaid mid e.told) Paid (λ x h. inr h) e.paid s.paid)

  pays_so : (x : Token × Notice) → Paid x → at_live x ≡ true → PaysFor mid new x.0 x.1
  pays_so x (inr h) live = (h.0, live, paid_leaves x.0.place x.1 h.1, paid_tells x.0.place x.1 h.1)
  pays_so x (inl h) live = grind arith

  goes_so : (x : Token) → HasGone mid x → GoesFrom new x
  goes_so x (inl d) = inl (dead x.port d)
  goes_so x (inr h) = grind (arith, dead)

  abbrev spoilt : Owed
  spoilt = filter (λ x. not (at_live x)) all_paid

  pub turns_rights : All (StaysWith (outcome mid e)) e.left → RightsSettle mid new
  turns_rights stay = record {
    staying = e.left;
    paying = filter at_live all_paid;
    going = tokens_of spoilt ++ e.gone;
    parts = λ h.
        let a = s.parts h in
        let b = two_parts h at_live all_paid in
        let c = tokens_joined_settle h (went_in e.begun) e.paid in
        let d = weigh-append h (tokens_of spoilt) e.gone in
        omega (arith, a, b, c, d);
    stay = stay;
    pay = filtered Paid (λ x. PaysFor mid new x.0 x.1) at_live pays_so all_paid each_paid;
    go = All-append (GoesFrom new) (tokens_of spoilt) e.gone
        (All-map (GoesFrom new) (λ (x : Token × Notice). x.0) spoilt
        (filtered Paid (λ x. GoesFrom new x.0) (λ x. not (at_live x)) (λ x h gone. inl (is_false (at_live x) gone)) all_paid each_paid))
        (weaker (HasGone mid) (GoesFrom new) goes_so e.gone s.gone);
  }

  -- ---- notices

  sent_due : due_notices (went_in (all_sent mid e) ++ owed_in (all_sent mid e)) ≡ due_notices (filter at_live all_paid ++ filter (λ x. new.live_port x.0.port) owed)
  sent_due =
      let a : went_in (all_sent mid e) ≡ filter at_live all_paid = went_kept at_live (with_paid e.begun e.paid) ∙ ap (filter at_live) (went_with e.begun e.paid) in
      let b : owed_in (all_sent mid e) ≡ filter at_live owed = owed_kept at_live (with_paid e.begun e.paid) ∙ ap (filter at_live) (owed_with e.begun e.paid ∙ s.owes) in
      λ i. due_notices (a i ++ b i)

  pub turns_notices : NoticesSettle now mid owed new e.left (filter at_live all_paid)
  turns_notices =
      let due = posts_due now mid.log (due_in (all_sent mid e)) in
      record {
        posted = sorted (all_sent mid e) (all_posted now mid e);
        due = sorted_due (all_sent mid e) (all_posted now mid e) due ∙ sent_due;
        ledger = λ h.
            let a = weigh-append h e.left (all_posted_tokens (all_posted now mid e)) in
            let b = sorted_weigh h (all_sent mid e) (all_posted now mid e) due in
            omega (arith, a, b);
        logs = λ p. let a = posts_append now mid.log (due_in (all_sent mid e)) p in (a.added, a.is, a.many ∙ sym (sorted_at p (all_sent mid e) (all_posted now mid e) due));
        stand = sorted_all (StandsBehind now mid.log new.log) (all_sent mid e) (all_posted now mid e) (posts_stand now mid.log mid.log (due_in (all_sent mid e)) (λ p. omega arith));
        cover = λ p k above below. sorted_any (λ (x : Posted). (x.port ≡ p) × (x.entry ≡ k)) (all_sent mid e) (all_posted now mid e) due (posts_cover now mid.log (due_in (all_sent mid e)) p k above below);
      }

  -- ---- the whole

  -- What stays is left, and each port is told that has no senders any more: the step ends so.
  pub turns_settle : All (StaysWith (outcome mid e)) e.left →
      ((p : ℕ) → mid.stands (no_senders p) ≡ true → lives_after mid e p ≡ true → 0 < senders old p → count (is_of send p) e.left ≡ 0 → listed e.told p ≡ true) → Settles now old mid owed new
  unfolding turns_rights
  turns_settle stay told = record {
    deaths = (let d = turns_deaths old mid owed e s judged in record { dies = d.dies; only = d.only; gone_before = d.gone_before });
    rights = turns_rights stay;
    notices = turns_notices;
    names = turns_names;
    requests = turns_requests told;
    ports = (let d = turns_ports old mid owed e s judged in record { is_sent = d.is_sent; sent = d.sent; sent_only = d.sent_only; sets_of = d.sets_of; make_send = d.make_send; sequence = d.sequence });
    rest = refl;
  }

-- ---- What the logs are when a step has ended turn by turn: at a port that lives the notices stand in the order in which they were posted.

-- the notices at a port, as entries of its log
abbrev pub entries_at : (now p : ℕ) → List (ℕ × Notice) → List Entry
entries_at now p [] = []
entries_at now p (y ∷ ys) = if y.0 == p then record { origin = now; message = notice_message p y.1 } ∷ entries_at now p ys else entries_at now p ys

abbrev told_entry : (now : ℕ) → ℕ × Notice → Entry
told_entry now y = record { origin = now; message = notice_message y.0 y.1 }

abbrev one_told : (now : ℕ) → (ℕ → List Entry) → ℕ × Notice → ℕ → List Entry
one_told now front y = at front y.0 (front y.0 ++ told_entry now y ∷ [])

logs_told : (now : ℕ) (front : ℕ → List Entry) (ys : List (ℕ × Notice)) (p : ℕ) → logs_after now front ys p ≡ front p ++ entries_at now p ys
logs_told now front [] p = sym (append-nil (front p))
logs_told now front (y ∷ ys) p = grind (arith, logs_told now (one_told now front y) ys p, logs_after, at_same, append_assoc, at_other)

-- ---- of an ending

abbrev pub entries_of : (now p : ℕ) → Begun → List Entry
entries_of now p ys = entries_at now p (due_in ys)

-- all that were posted up to now
abbrev pub posted_at : (now p : ℕ) → Ending → List Entry
posted_at now p e = entries_of now p (with_paid e.begun e.paid)

kept_entries : (now p : ℕ) (lives : ℕ → Bool) (ys : Begun) → lives p ≡ true → entries_of now p (filter (λ y. lives y.1.0.port) ys) ≡ entries_of now p ys
kept_entries now p lives [] e = refl
kept_entries now p lives (y ∷ ys) e = grind (arith, kept_entries now p lives ys e)

no_entries : (now p : ℕ) (lives : ℕ → Bool) (ys : Begun) → lives p ≡ false → entries_of now p (filter (λ y. lives y.1.0.port) ys) ≡ []
no_entries now p lives [] e = refl
no_entries now p lives (y ∷ ys) e = grind (arith, no_entries now p lives ys e)

-- At a port that lives all stand that were posted; the log of another is as it was.
pub end_log : (now : ℕ) (mid : State) (e : Ending) (p : ℕ) → lives_after mid e p ≡ true → (end_of now mid e).log p ≡ mid.log p ++ posted_at now p e
end_log now mid e p lives = logs_told now mid.log (due_in (all_sent mid e)) p ∙ ap (λ (xs : List Entry). mid.log p ++ xs) (kept_entries now p (lives_after mid e) (with_paid e.begun e.paid) lives)

pub end_log_dead : (now : ℕ) (mid : State) (e : Ending) (p : ℕ) → lives_after mid e p ≡ false → (end_of now mid e).log p ≡ mid.log p
end_log_dead now mid e p dead =
    logs_told now mid.log (due_in (all_sent mid e)) p
    ∙ ap (λ (xs : List Entry). mid.log p ++ xs) (no_entries now p (lives_after mid e) (with_paid e.begun e.paid) dead)
    ∙ append-nil (mid.log p)

-- A turn's notices come behind those of before.
entries_joined : (now p : ℕ) (xs ys : Begun) → entries_of now p (xs ++ ys) ≡ entries_of now p xs ++ entries_of now p ys
entries_joined now p [] ys = refl
entries_joined now p (x ∷ xs) ys = grind (arith, entries_joined now p xs ys)

paid_joined : (ys : Begun) (xs zs : Owed) → with_paid ys (xs ++ zs) ≡ with_paid ys xs ++ with_paid [] zs
paid_joined [] [] zs = refl
paid_joined [] (x ∷ xs) zs = ap (λ (us : Begun). (false, x) ∷ us) (paid_joined [] xs zs)
paid_joined (y ∷ ys) xs zs = ap (λ (us : Begun). y ∷ us) (paid_joined ys xs zs)

pub posted_more : (now p : ℕ) (e f : Ending) (paying : Owed) → f.begun ≡ e.begun → f.paid ≡ e.paid ++ paying → posted_at now p f ≡ posted_at now p e ++ entries_of now p (with_paid [] paying)
posted_more now p e f paying begun paid = grind (arith, with_paid, paid_joined, entries_joined)
