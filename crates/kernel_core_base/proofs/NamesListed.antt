-- A task's names with their types.
use Rattle.std.proofs.Common.{◌≡◌, ℕ, Bool, true, false, cond, List, [], ◌∷◌, ◌&&◌, T, refl, ap, sym, subst, ◌∙◌, Option, Some, map as list_map, ◌<◌, arith}
use Rattle.std.specs.Option.{option_map}
use Rattle.std.specs.declared.cmp.Ordering.TheVariants.{Less, Equal, Greater}
use Rattle.std.specs.declared.cmp.Ordering.{Ordering}
use Rattle.std.specs.Ordering.{nat_cmp, eq_by_cmp, is_lt, is_eq}
use Rattle.std.specs.Cmp.{nat_cmp_total, eq_by_cmp_equiv}
use Rattle.std.specs.FinMap as map
use Rattle.std.specs.FinMap.{nat_cmp-IsAntisymmetric}
use Rattle.std.specs.FinMap.Entries.{find, is_sorted, below_all, same_entries}
use Rattle.std.specs.Prelude.{nat_lt, if◌then◌else◌}
use Rattle.std.proofs.lemmas.Bool.Decides.{nat_tests}
use Rattle.mach_types.specs.declared.calls.Event.{Event}
use Rattle.mach_types.specs.declared.calls.Reply.{Reply}
use Rattle.mach_types.specs.declared.rights.Right.TheVariants as right
use Rattle.mach_types.specs.Rights.{right_bit, request_bit}
use Rattle.mach_types.specs.Tokens.{receive, send, dead_name}
use Rattle.mach_model.specs.State.{Target, Names, State, held}
use Rattle.mach_model.specs.Telling.{names_of, type_of, target_bits}
use Rattle.name_space.specs.declared.Entry.{Entry}
use Rattle.name_space.specs.Names.{Names as TableNames, SpaceView}
use Rattle.name_space.specs.declared.Entry.TheVariants as entry
use Rattle.name_space.specs.Entry.{type_in}
use Rattle.request_table.specs.Requests.{name_key}
use Rattle.request_table.specs.Tables.{RequestTablesView}
use Rattle.copyin_base.specs.Shows.{target_of, Agrees, Shows}
use Rattle.copyin_base.specs.Serving.{Completes}
use Rattle.copyin_base.specs.Worlds.{WorldView, entry_in, entry_at, space_at, HasTask}
use Rattle.copyin_base.proofs.Acting.{done, looked}
use Rattle.copyin_base.proofs.Agreeing.{own_names}
use Rattle.copyin_base.proofs.Told.{used, found}
use Rattle.kernel_core_base.proofs.Members.{first, second}
use Rattle.kernel_core_base.specs.Names.{type_of_entry, type_found, types_of, bit_requested}
use Rattle.kernel_core_base.proofs.Renamed.{notify_small}

-- ---- A task's names with their types, in the tables and in the machine alike.

-- ---- each entry of a sorted list is found by its key

abbrev Each : {X : Type 0} → (ℕ → X → Type 0) → List (ℕ × X) → Type 0
Each P [] = Unit {0}
Each P (e ∷ es) = P e.0 e.1 × Each P es

each_by : {X : Type 0} (P Q : ℕ → X → Type 0) (es : List (ℕ × X)) → ((k : ℕ) (v : X) → P k v → Q k v) → Each P es → Each Q es
each_by P Q [] f h = tt
each_by P Q (e ∷ es) f h = (f e.0 e.1 h.0, each_by P Q es f h.1)

both_each : {X : Type 0} (P Q : ℕ → X → Type 0) (es : List (ℕ × X)) → Each P es → Each Q es → Each (λ k v. P k v × Q k v) es
both_each P Q [] h g = tt
both_each P Q (e ∷ es) h g = ((h.0, g.0), both_each P Q es h.1 g.1)

less : (o : Ordering) → T (is_lt o) → is_eq o ≡ false
less Less p = refl
less Equal p = absurd p
less Greater p = absurd p

each_below : {X : Type 0} (k : ℕ) (es : List (ℕ × X)) → T (below_all nat_cmp k es) → Each (λ q v. eq_by_cmp nat_cmp q k ≡ false) es
each_below k [] h = tt
each_below k (e ∷ es) h = ((eq_by_cmp_equiv nat_cmp_total).symm e.0 k ∙ less (nat_cmp k e.0) (first _ _ h), each_below k es (second _ _ h))

past : {X : Type 0} (b : Bool) (v w : X) (o : Option X) → b ≡ false → o ≡ Some w → cond b (Some v) o ≡ Some w
past b v w o e f = rw e f

each_found : {X : Type 0} (es : List (ℕ × X)) → T (is_sorted nat_cmp es) → Each (λ k v. find nat_cmp k es ≡ Some v) es
each_found [] h = tt
each_found {X} (e ∷ es) h = (
  rw ((eq_by_cmp_equiv nat_cmp_total).refl e.0) refl,
  each_by (λ k v. (find nat_cmp k es ≡ Some v) × (eq_by_cmp nat_cmp k e.0 ≡ false)) (λ k v. find nat_cmp k (e ∷ es) ≡ Some v) es
      (λ k v g. past (eq_by_cmp nat_cmp k e.0) e.1 v (find nat_cmp k es) g.1 g.0)
      (both_each (λ k v. find nat_cmp k es ≡ Some v) (λ k v. eq_by_cmp nat_cmp k e.0 ≡ false) es (each_found es (second _ _ h)) (each_below e.0 es (first _ _ h))),
)

each_entry : {X : Type 0} (m : map.FinMap nat_cmp X) → Each (λ k v. map.get m k ≡ Some v) (map.entries m)
each_entry m = each_by (λ k v. find nat_cmp k (map.entries m) ≡ Some v) (λ k v. map.get m k ≡ Some v) (map.entries m) (λ k v h. map.get-entries m k ∙ h) (each_found (map.entries m) (map.entries_sorted m))

map_each : {X B : Type 0} (f g : ℕ × X → B) (es : List (ℕ × X)) → Each (λ k v. f (k, v) ≡ g (k, v)) es → list_map f es ≡ list_map g es
map_each f g [] h = refl
map_each {X} {B} f g (e ∷ es) h = ap (λ (b : B). b ∷ list_map f es) h.0 ∙ ap (λ (bs : List B). g e ∷ bs) (map_each f g es h.1)

-- ---- maps of which one has the values of the other, changed

module _ {X Y : Type 0} (f : X → Y) where
  abbrev valued : List (ℕ × X) → List (ℕ × Y)
  valued l = list_map (λ e. (e.0, f e.1)) l

  below_all-valued : (k : ℕ) (l : List (ℕ × X)) → below_all nat_cmp k (valued l) ≡ below_all nat_cmp k l
  below_all-valued k [] = refl
  below_all-valued k (x ∷ l) = ap (λ b. is_lt (nat_cmp k x.0) && b) (below_all-valued k l)

  is_sorted-valued : (l : List (ℕ × X)) → is_sorted nat_cmp (valued l) ≡ is_sorted nat_cmp l
  is_sorted-valued [] = refl
  is_sorted-valued (x ∷ l) = ap (λ b. b && is_sorted nat_cmp (valued l)) (below_all-valued x.0 l) ∙ ap (λ b. below_all nat_cmp x.0 l && b) (is_sorted-valued l)

  mapped : (b : Bool) (v : X) (o : Option X) → cond b (Some (f v)) (option_map f o) ≡ option_map f (cond b (Some v) o)
  mapped true v o = refl
  mapped false v o = refl

  find-valued : (q : ℕ) (l : List (ℕ × X)) → find nat_cmp q (valued l) ≡ option_map f (find nat_cmp q l)
  find-valued q [] = refl
  find-valued q (x ∷ l) = ap (cond (eq_by_cmp nat_cmp q x.0) (Some (f x.1))) (find-valued q l) ∙ mapped (eq_by_cmp nat_cmp q x.0) x.1 (find nat_cmp q l)

  entries_alike : (m : map.FinMap nat_cmp X) (n : map.FinMap nat_cmp Y) → ((q : ℕ) → map.get n q ≡ option_map f (map.get m q)) → map.entries n ≡ valued (map.entries m)
  entries_alike m n is = same_entries nat_cmp nat_cmp_total nat_cmp-IsAntisymmetric (map.entries n) (valued (map.entries m)) (map.entries_sorted n)
      (subst T (sym (is_sorted-valued (map.entries m))) (map.entries_sorted m))
      (λ q. sym (map.get-entries n q) ∙ is q ∙ ap (option_map f) (map.get-entries m q) ∙ sym (find-valued q (map.entries m)))

map-map : {X Y B : Type 0} (f : X → Y) (g : Y → B) (es : List X) → list_map g (list_map f es) ≡ list_map (λ x. g (f x)) es
map-map f g [] = refl
map-map {X} {Y} {B} f g (e ∷ es) = ap (λ (bs : List B). g (f e) ∷ bs) (map-map f g es)

-- ---- the types

-- Looking at each name gives what the machine lists, where each name has its type.
pub types_listed : (requests : RequestTablesView) (task : ℕ) (m : TableNames) (own : Names) (type : ℕ → Target → ℕ) → ((q : ℕ) → map.get own q ≡ option_map target_of (map.get m q)) →
    ((q : ℕ) (e : Entry) → map.get m q ≡ Some e → type_of_entry requests task q e ≡ type q (target_of e)) → types_of requests task m ≡ list_map (λ e. (e.0, type e.0 e.1)) (map.entries own)
types_listed requests task m own type named typed =
    map-map (λ (e : ℕ × Entry). e.0) (λ n. (n, type_found requests task n (map.get m n))) (map.entries m)
    ∙ map_each (λ (e : ℕ × Entry). (e.0, type_found requests task e.0 (map.get m e.0))) (λ (e : ℕ × Entry). (e.0, type e.0 (target_of e.1))) (map.entries m)
    (each_by (λ k v. map.get m k ≡ Some v) (λ k v. ◌≡◌ {A = ℕ × ℕ} (k, type_found requests task k (map.get m k)) (k, type k (target_of v))) (map.entries m)
    (λ k v h. ap (λ (n : ℕ). (k, n)) (ap (type_found requests task k) h ∙ typed k v h)) (each_entry m))
    ∙ sym (ap (λ (es : List (ℕ × Target)). list_map (λ e. (e.0, type e.0 e.1)) es) (entries_alike target_of m own named)
    ∙ map-map (λ (e : ℕ × Entry). (e.0, target_of e.1)) (λ (e : ℕ × Target). (e.0, type e.0 e.1)) (map.entries m))

-- ---- What NameType and Names tell is true of each state that the tables show.

some_bit : (n bit : ℕ) → 0 < n → (if nat_lt 0 n then bit else 0) ≡ bit
some_bit n bit some = grind (arith, nat_tests)

-- the bits of what is held
bits : (w : WorldView) (s : State) → Agrees w s → (task name : ℕ) (e : Entry) → entry_at w task name ≡ Some e → type_in e ≡ target_bits s task (target_of e)
bits w s a task name (entry.Receive p) is = grind arith
bits w s a task name (entry.Send p n) is =
    let r = a.references task name (entry.Send p n) p is refl in
    let some : 0 < n = a.counted task name (entry.Send p n) is in
    let h : held s task receive p ≡ 0 = r.0 in let g : held s task send p ≡ n = r.1 in rw (h, g, some_bit n (right_bit right.Send) some) refl
bits w s a task name (entry.ReceiveAndSend p n) is =
    let r = a.references task name (entry.ReceiveAndSend p n) p is refl in
    let some : 0 < n = a.counted task name (entry.ReceiveAndSend p n) is in
    let h : held s task receive p ≡ 1 = r.0 in let g : held s task send p ≡ n = r.1 in rw (h, g, some_bit n (right_bit right.Send) some) refl
bits w s a task name (entry.SendOnce p) is = refl
bits w s a task name (entry.DeadName n) is = refl
bits w s a task name (entry.Set set) is = refl

-- the bit for a request on a name that is in use
request_whole : (w : WorldView) (s : State) → Shows w s → (task name : ℕ) (e : Entry) → entry_at w task name ≡ Some e →
    bit_requested (map.get w.requests.names.requests (name_key task name)) ≡ (if s.stands (dead_name task name) then request_bit else 0)
request_whole w s sh task name e is = grind (arith, notify_small, found)

-- the type in the tables is the machine's
type_whole : (w : WorldView) (s : State) → Shows w s → (task name : ℕ) (e : Entry) → entry_at w task name ≡ Some e → type_of_entry w.requests task name e ≡ type_of s task name (target_of e)
type_whole w s sh task name e is = grind (arith, bits, request_whole)

pub type_told : (w : WorldView) (task name : ℕ) (e : Entry) → HasTask w task → entry_at w task name ≡ Some e → Completes w (Event.NameType task name) (Reply.NameType (type_of_entry w.requests task name e)) w
type_told w task name e below is = done w (Event.NameType task name) (Reply.NameType (type_of_entry w.requests task name e)) w below record { allowed = λ s sh. (used w s sh.agrees task name e is, tt) }
    (λ now s sh. looked w (Event.NameType task name) (Reply.NameType (type_of_entry w.requests task name e)) now s sh tt (refl, refl) (target_of e, found w s sh.agrees task name e is, type_whole w s sh task name e is))

-- the tables list what the machine does
listed : (w : WorldView) (s : State) → Shows w s → (task : ℕ) (space : SpaceView) → space_at w task ≡ Some space → types_of w.requests task space.names ≡ names_of s task
listed w s sh task space there = types_listed w.requests task space.names (s.naming task) (type_of s task) (own_names w s sh.agrees task space there).naming
    (λ n e is. type_whole w s sh task n e (ap (λ (o : Option SpaceView). entry_in o n) there ∙ is))

pub names_listed : (w : WorldView) (task : ℕ) (space : SpaceView) → HasTask w task → space_at w task ≡ Some space → Completes w (Event.Names task) (Reply.Names (types_of w.requests task space.names)) w
names_listed w task space below there = done w (Event.Names task) (Reply.Names (types_of w.requests task space.names)) w below record { allowed = λ s sh. tt }
    (λ now s sh. looked w (Event.Names task) (Reply.Names (types_of w.requests task space.names)) now s sh tt (refl, refl) (listed w s sh task space there))
