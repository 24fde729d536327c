-- The attributes of one port were set, in the tables and in the machine alike.
use Rattle.std.proofs.Common.{◌≡◌, ℕ, List, ◌++◌, Option, Some, refl, sym, ap, subst, ◌∙◌}
use Rattle.std.specs.Prelude.{◌≢◌, is_some}
use Rattle.std.specs.Option.{option_to_list}
use Rattle.std.specs.FinMap as map
use Rattle.mach_model.specs.State.{State, at, queue}
use Rattle.mach_model.proofs.Names.{at_own, at_other}
use Rattle.port.specs.declared.Attributes.{Attributes}
use Rattle.port.specs.declared.Holder.{Holder}
use Rattle.port.specs.Ports.{PortView, sets_in, with_port}
use Rattle.tables_base.specs.Kept.{Kept}
use Rattle.copyin_base.specs.Changes.{HasAttributes, SetsAttributes, SetsHolder}
use Rattle.copyin_base.specs.Worlds.{WorldView, port_at}
use Rattle.copyin_base.specs.Shows.{AllKept, ShowsPort, Agrees}
use Rattle.copyin_base.proofs.Agreeing.{ports_put, live_put}
use Rattle.copyin_base.proofs.Gets.{same_found}

-- The function has this value at p, and is elsewhere as it was.
pub record IsAt {A : Type 0} (f g : ℕ → A) (p : ℕ) (x : A) : Type 0 where
  pub own : x ≡ g p
  pub other : (q : ℕ) → q ≢ p → g q ≡ f q

pub is_at : {A : Type 0} (f : ℕ → A) (p : ℕ) (x : A) → IsAt f (at f p x) p x
is_at f p x = record { own = sym (at_own f p x); other = at_other f p x }

pub is_same : {A : Type 0} (f : ℕ → A) (p : ℕ) (x : A) → x ≡ f p → IsAt f f p x
is_same f p x e = record { own = e; other = λ q not. refl }

-- What the tables tell of ports, where one is this now, with the same queue.
pub view_put : (w : WorldView) (s t : State) → Agrees w s → (p : ℕ) (v v2 : PortView Kept) → port_at w p ≡ Some v → v2.queue ≡ v.queue → ((q : ℕ) → queue t q ≡ queue s q) →
    IsAt s.limit t.limit p v2.attributes.limit → IsAt s.make_send t.make_send p v2.attributes.make_send → IsAt s.sequence t.sequence p v2.attributes.sequence → IsAt s.sets_of t.sets_of p (sets_in v2) →
    (q : ℕ) (y : PortView Kept) → map.get (map.insert w.ports.ports p v2) q ≡ Some y → ShowsPort y t q
view_put w s t a p v v2 there same queues l m n o = ports_put w.ports.ports p v2 t
    record {
      waiting = subst (λ (ms : List Kept). AllKept p ms (queue t p)) (sym same) (subst (AllKept p v.queue) (sym (queues p)) (a.ports p v there).waiting);
      limit = l.own;
      make_send = m.own;
      sequence = n.own;
      sets = o.own;
    }
    (λ q y not is. let b = a.ports q y is in record {
      waiting = subst (AllKept q y.queue) (sym (queues q)) b.waiting;
      limit = b.limit ∙ sym (l.other q not);
      make_send = b.make_send ∙ sym (m.other q not);
      sequence = b.sequence ∙ sym (n.other q not);
      sets = b.sets ∙ sym (o.other q not);
    })

-- The machine has these numbers of the port now, which stays in its sets.
pub attributes_agree : (w w2 : WorldView) (s : State) → Agrees w s → (p : ℕ) (x : Attributes) (set : SetsAttributes w p x w2) → x.set ≡ set.v.attributes.set → (limit make_send sequence : ℕ → ℕ) →
    IsAt s.limit limit p x.limit → IsAt s.make_send make_send p x.make_send → IsAt s.sequence sequence p x.sequence →
    Agrees w2 (record s { limit = limit; make_send = make_send; sequence = sequence })
attributes_agree w w2 s a p x set stays limit make_send sequence l m n = subst (λ (y : WorldView). Agrees y t) (sym set.rest) record {
  spaces = a.spaces;
  rights = a.rights;
  live_port = live_put w.ports.ports p (record set.v { attributes = x }) s.live_port (sym (a.live_port p) ∙ ap is_some set.there) a.live_port;
  ports_made = a.ports_made;
  ports = view_put w s t a p set.v (record set.v { attributes = x }) set.there refl (λ q. refl) l m n
      (is_same s.sets_of p _ (ap (λ (o : Option ℕ). option_to_list o ++ set.v.more) stays ∙ (a.ports p set.v set.there).sets));
  counts = a.counts;
  total = a.total;
  in_sets = a.in_sets;
  of_requests = a.of_requests;
}
  where
    t : State
    t = record s { limit = limit; make_send = make_send; sequence = sequence }

-- ---- one of them

module _ (w : WorldView) (s : State) (a : Agrees w s) (p : ℕ) (x : Attributes) (has : HasAttributes w p x) where
  shown : ShowsPort (record has.v { attributes = x }) s p
  shown = subst (λ (y : Attributes). ShowsPort (record has.v { attributes = y }) s p) has.are (a.ports p has.v has.there)

  stays : (y : Attributes) (w2 : WorldView) (set : SetsAttributes w p y w2) → x.set ≡ set.v.attributes.set
  stays y w2 set = ap (λ (z : Attributes). z.set) (sym has.are) ∙ ap (λ (v : PortView Kept). v.attributes.set) (same_found (port_at w p) has.v set.v has.there set.there)

  pub limit_agrees : (n : ℕ) (w2 : WorldView) → SetsAttributes w p (record x { limit = n }) w2 → Agrees w2 (record s { limit = at s.limit p n })
  limit_agrees n w2 set = attributes_agree w w2 s a p _ set (stays _ w2 set) _ _ _ (is_at s.limit p n) (is_same s.make_send p _ shown.make_send) (is_same s.sequence p _ shown.sequence)

  pub make_send_agrees : (n : ℕ) (w2 : WorldView) → SetsAttributes w p (record x { make_send = n }) w2 → Agrees w2 (record s { make_send = at s.make_send p n })
  make_send_agrees n w2 set = attributes_agree w w2 s a p _ set (stays _ w2 set) _ _ _ (is_same s.limit p _ shown.limit) (is_at s.make_send p n) (is_same s.sequence p _ shown.sequence)

  pub sequence_agrees : (n : ℕ) (w2 : WorldView) → SetsAttributes w p (record x { sequence = n }) w2 → Agrees w2 (record s { sequence = at s.sequence p n })
  sequence_agrees n w2 set = attributes_agree w w2 s a p _ set (stays _ w2 set) _ _ _ (is_same s.limit p _ shown.limit) (is_same s.make_send p _ shown.make_send) (is_at s.sequence p n)

-- ---- who holds the receive right

pub sets_holder : (old new : WorldView) (port : ℕ) (x : Attributes) (holder : Holder) → HasAttributes old port x → SetsAttributes old port (record x { holder = holder }) new → SetsHolder old port holder new
sets_holder old new port x holder has set = record {
  v = set.v;
  there = set.there;
  rest = set.rest ∙ ap (λ (y : Attributes). record old { ports = with_port old.ports port (record set.v { attributes = record y { holder = holder } }) })
      (sym has.are ∙ ap (λ (v : PortView Kept). v.attributes) (same_found (port_at old port) has.v set.v has.there set.there));
}

-- it is of no account to the machine
pub holder_agrees : (w w2 : WorldView) (s : State) → Agrees w s → (p : ℕ) (holder : Holder) → SetsHolder w p holder w2 → Agrees w2 s
holder_agrees w w2 s a p holder set =
    let b = a.ports p set.v set.there in
    attributes_agree w w2 s a p (record set.v.attributes { holder = holder }) (record { v = set.v; there = set.there; rest = set.rest }) refl _ _ _
    (is_same s.limit p _ b.limit) (is_same s.make_send p _ b.make_send) (is_same s.sequence p _ b.sequence)
