-- The turns in a set that a port leaves, joins or has nothing to do with.
use Rattle.std.proofs.Common.{◌≡◌, ◌≢◌, ℕ, Some, List, [], ◌∷◌, ◌++◌, refl, ap, sym, subst, ◌∙◌, Contains}
use Rattle.std.specs.Prelude.{unwrap_or}
use Rattle.member_lists.specs.Lists.{without}
use Rattle.port_base.specs.Turns.{ReadyLists, turns_of, with_turns, left, joined, ready_if, sets_without}
use Rattle.port.specs.Ports.{PortView, ready_in, turned}
use Rattle.port.proofs.Each.{nothing_in, head_in, tail_in, sets_but_from}
use Rattle.port.proofs.Keys.{put_here, put_other, out_here, out_other}

pub turns_here : (t : ReadyLists) (set : ℕ) (ys : List ℕ) → turns_of (with_turns t set ys) set ≡ ys
turns_here t set [] = ap (λ o. unwrap_or o []) (out_here t set)
turns_here t set (y ∷ ys) = ap (λ o. unwrap_or o []) (put_here t set (y ∷ ys))

pub turns_other : (t : ReadyLists) (set : ℕ) (ys : List ℕ) (s : ℕ) → s ≢ set → turns_of (with_turns t set ys) s ≡ turns_of t s
turns_other t set [] s d = ap (λ o. unwrap_or o []) (out_other t set s d)
turns_other t set (y ∷ ys) s d = ap (λ o. unwrap_or o []) (put_other t set (y ∷ ys) s d)

left_other : (t : ReadyLists) (port : ℕ) (sets : List ℕ) (s : ℕ) → (Contains sets s → ⊥) → turns_of (left t port sets) s ≡ turns_of t s
left_other t port [] s d = refl
left_other t port (set ∷ sets) s d =
    left_other (with_turns t set (without port (turns_of t set))) port sets s (λ c. d (tail_in set s sets c))
    ∙ turns_other t set (without port (turns_of t set)) s (λ e. d (subst (λ n. Contains (set ∷ sets) n) (sym e) (head_in set sets)))

joined_other : (t : ReadyLists) (port : ℕ) (sets : List ℕ) (s : ℕ) → (Contains sets s → ⊥) → turns_of (joined t port sets) s ≡ turns_of t s
joined_other t port [] s d = refl
joined_other t port (set ∷ sets) s d =
    joined_other (with_turns t set (turns_of t set ++ port ∷ [])) port sets s (λ c. d (tail_in set s sets c))
    ∙ turns_other t set (turns_of t set ++ port ∷ []) s (λ e. d (subst (λ n. Contains (set ∷ sets) n) (sym e) (head_in set sets)))

-- a port that is ready in a set is in it
pub ready_if_in : {M : Type 0} (ms : List M) (sets : List ℕ) (s : ℕ) → Contains (ready_if ms sets) s → Contains sets s
ready_if_in [] sets s c = absurd (nothing_in s c)
ready_if_in (m ∷ ms) sets s c = c

-- the turns in a set in which a port is ready before and now, or neither
pub turned_other : {M : Type 0} (t : ReadyLists) (port : ℕ) (was now : PortView M) (s : ℕ) → (Contains (ready_in was) s → Contains (ready_in now) s) → (Contains (ready_in now) s → Contains (ready_in was) s) →
    turns_of (turned t port (Some was) now) s ≡ turns_of t s
turned_other t port was now s stays comes =
    joined_other (left t port (sets_without (ready_in was) (ready_in now))) port (sets_without (ready_in now) (ready_in was)) s (λ c. (let a = sets_but_from (ready_in was) (ready_in now) s c in a.1 (comes a.0)))
    ∙ left_other t port (sets_without (ready_in was) (ready_in now)) s (λ c. (let a = sets_but_from (ready_in now) (ready_in was) s c in a.1 (stays a.0)))
