-- A space, as names come and go.
use Rattle.std.proofs.Common.{◌≡◌, ◌≢◌, inl, inr, ℕ, ◌+◌, ◌-◌, ◌<◌, ◌≤◌, true, refl, ap, sym, subst, ◌∙◌, Option, Some, None, is_some, arith}
use Rattle.std.specs.Option.{option_and_then}
use Rattle.std.specs.FinMap as map
use Rattle.std.specs.Ordering.{nat_cmp}
use Rattle.mach_types.specs.Numbers.{null_word, dead_word, most_names}
use Rattle.tagged_names.specs.Names.{Given}
use Rattle.name_space.specs.declared.Entry.{Entry}
use Rattle.name_space.specs.declared.Entry.TheVariants.{Receive, Send, ReceiveAndSend, SendOnce, DeadName, Set}
use Rattle.name_space.specs.Entry.{port_named, with_send}
use Rattle.name_space.specs.Names.{Names, SpaceView, IsUsable, HasNoOther, port_at}
use Rattle.name_space.specs.Ports.{PortNames, PortsView, HasNoneKept}
use Rattle.name_space.specs.Sound.{IsSound, lost}
use Rattle.name_space.proofs.Keys.{some_or_none, equal_or_not, put_other, out_here, out_other, same_gets}
use Rattle.name_space.proofs.Gathered.{out_none}
use Rattle.name_space.proofs.Linked.{AreLinked, same_ports, ports_put, ports_out, ports_lost, linked-put, linked-out, no_port, no_name_of, one_name, len-new, len-over, len-gone}

over : (a b : Names) (p q : PortNames) → b ≡ a → q ≡ p → AreLinked a p → AreLinked b q
over a b p q e f x = subst (λ n. AreLinked n q) (sym e) (subst (AreLinked a) (sym f) x)

-- a word that is no name stays so
pub put_none : (names : Names) (name k : ℕ) (e : Entry) → name ≢ k → map.get names k ≡ None → map.get (map.insert names name e) k ≡ None
put_none names name k e d none = put_other names name e k (λ a. d (sym a)) ∙ none

-- a port goes where it stood and the entry that comes is of none
pub lost_of : (from o : Option ℕ) (port : ℕ) → lost from o ≡ Some port → (o ≡ None) × (from ≡ Some port)
lost_of from None port h = (refl, h)
lost_of from (Some other) port h = absurd (some_or_none port None h refl)

module _ (t : SpaceView) (p : PortsView) (len : ℕ) (x : IsSound t p len) where
  pub links : AreLinked t.names p.names
  links = record { named = x.named; found = x.found }

  -- the port of an entry is among those that have a name
  pub port_there : (name port : ℕ) → port_at t.names name ≡ Some port → map.contains_key p.names port ≡ true
  port_there name port is = ap is_some (x.found port name is)

  pub port_absent : (e : Entry) (port : ℕ) → HasNoOther t.names e → port_named e ≡ Some port → map.get p.names port ≡ None
  port_absent e port apart is = no_port t.names p.names links e port apart is

  pub port_free : (name : ℕ) → map.get t.names name ≡ None → (port : ℕ) → map.get p.names port ≢ Some name
  port_free name unused port = no_name_of t.names p.names links name unused port

  module _ (u : SpaceView) (name : ℕ) (e : Entry) where
    -- a name comes
    module _ {given : Option Given} (is : u ≡ record { names = map.insert t.names name e; room = t.room - 1; kept = t.kept; given = given }) (usable : IsUsable name) (unused : map.get t.names name ≡ None) (not_full : map.len t.names < most_names) where
      came : (q : PortsView) → AreLinked (map.insert t.names name e) q.names → q.kept ≡ p.kept → p.room ≤ q.room + 1 → IsSound u q (len + 1)
      came q both kept room = grind (arith, over, len-new, put_none)

      pub sound-put : (q : PortsView) (port : ℕ) → port_named e ≡ Some port → HasNoOther t.names e → q.names ≡ map.insert p.names port name → q.kept ≡ p.kept → p.room ≤ q.room + 1 → IsSound u q (len + 1)
      sound-put q port named apart ports kept room = came q (over _ _ _ _ refl ports (linked-put t.names p.names links name e port named unused apart)) kept room

      pub sound-put_none : port_named e ≡ None → IsSound u p (len + 1)
      sound-put_none none = came p (same_ports t.names _ p.names links (ports_put t.names name e (none ∙ sym (ap (option_and_then port_named) unused)))) refl (omega arith)

    -- an entry comes in place of another
    module _ (is : u ≡ record { names = map.insert t.names name e; room = t.room; kept = t.kept; given = t.given }) (used : map.contains_key t.names name ≡ true) where
      kept_out : (k : ℕ) → map.get t.names k ≡ None → name ≢ k
      kept_out k none a = let e : true ≡ is_some (let o : Option Entry = None in o) = sym used ∙ ap (λ n. map.contains_key t.names n) a ∙ ap is_some none in cc

      renewed : (q : PortsView) → AreLinked (map.insert t.names name e) q.names → q.kept ≡ p.kept → p.room ≡ q.room → IsSound u q len
      renewed q both kept room = grind (arith, over, len-over, put_none, kept_out)

      pub sound-renewed : lost (port_at t.names name) (port_named e) ≡ None → ((port : ℕ) → port_named e ≡ Some port → port_at t.names name ≡ Some port) → IsSound u p len
      sound-renewed none same = renewed p (same_ports t.names _ p.names links (ports_put t.names name e (stays (port_named e) none same))) refl refl
        where
          stays : (o : Option ℕ) → lost (port_at t.names name) o ≡ None → ((port : ℕ) → o ≡ Some port → port_at t.names name ≡ Some port) → o ≡ port_at t.names name
          stays None none same = sym none
          stays (Some port) none same = sym (same port refl)

      pub sound-joined : port_named e ≡ port_at t.names name → IsSound u p len
      sound-joined same = renewed p (same_ports t.names _ p.names links (ports_put t.names name e same)) refl refl

      pub sound-lost : (q : PortsView) (port : ℕ) → lost (port_at t.names name) (port_named e) ≡ Some port → q ≡ record { names = map.remove p.names port; room = p.room; kept = p.kept } → IsSound u q len
      sound-lost q port goes out =
          let both = lost_of (port_at t.names name) (port_named e) port goes in
          renewed q
          (over _ _ _ _ refl (ap (λ (a : PortsView). a.names) out) (same_ports _ _ _ (linked-out t.names p.names links name port both.1) (ports_lost t.names name e both.0)))
          (ap (λ (a : PortsView). a.kept) out) (sym (ap (λ (a : PortsView). a.room) out))

    -- a name goes
    module _ (is : u ≡ record { names = map.remove t.names name; room = t.room; kept = t.kept; given = t.given }) (there : map.get t.names name ≡ Some e) where
      pub some_name : 1 ≤ len
      some_name = let less : map.len (map.remove t.names name) + 1 ≡ map.len t.names = len-gone t.names name e there in let counted = x.counted in omega arith

      went : (q : PortsView) → AreLinked (map.remove t.names name) q.names → q.kept ≡ p.kept → p.room ≡ q.room → IsSound u q (len - 1)
      went q both kept room = grind (arith, over, len-gone, out_none)

      pub sound-out : (q : PortsView) (port : ℕ) → port_named e ≡ Some port → q ≡ record { names = map.remove p.names port; room = p.room; kept = p.kept } → IsSound u q (len - 1)
      sound-out q port named out =
          went q
          (over _ _ _ _ refl (ap (λ (a : PortsView). a.names) out) (linked-out t.names p.names links name port (ap (option_and_then port_named) there ∙ named)))
          (ap (λ (a : PortsView). a.kept) out) (sym (ap (λ (a : PortsView). a.room) out))

      pub sound-out_none : port_named e ≡ None → IsSound u p (len - 1)
      sound-out_none none = went p (same_ports t.names _ p.names links (ports_out t.names name (ap (option_and_then port_named) there ∙ none))) refl refl

  -- a name that isn't in use is taken out
  pub nothing_out : (u : SpaceView) (name : ℕ) → u ≡ record { names = map.remove t.names name; room = t.room; kept = t.kept; given = t.given } → map.get t.names name ≡ None → IsSound u p len
  nothing_out u name is none = grind (arith, same_gets, equal_or_not, out_here, out_other)

  -- what is taken out of use may be put back under another name
  pub no_other_left : (name : ℕ) (e : Entry) → map.get t.names name ≡ Some e → HasNoOther (map.remove t.names name) e
  no_other_left name e there port other is h = elim (equal_or_not other name) [
    | inl a ↦ some_or_none port _ h (ap (option_and_then port_named) (ap (map.get (map.remove t.names name)) a ∙ out_here t.names name))
    | inr d ↦ d (one_name t.names p.names links other name port (ap (option_and_then port_named) (sym (out_other t.names name other d)) ∙ h) (ap (option_and_then port_named) there ∙ is))
  ]

-- there comes more room for ports
pub sound-roomier : (t : SpaceView) (p q : PortsView) (len : ℕ) → IsSound t p len → q ≡ record { names = p.names; room = q.room; kept = p.kept } → p.room ≤ q.room → IsSound t q len
sound-roomier t p q len x is more = grind arith

-- the place goes to another name
pub sound-kept : (t u : SpaceView) (p q : PortsView) (len name : ℕ) → IsSound t p len → u ≡ record { names = t.names; room = t.room; kept = Some name; given = t.given } → q.names ≡ p.names → q.kept ≡ Some name → t.room ≤ q.room → IsSound u q len
sound-kept t u p q len name x is names kept fits = grind (arith, over)

-- where no port has the place of the table, none has that of the ports
pub none_kept : (t : SpaceView) (p : PortsView) (len : ℕ) → IsSound t p len → ((kept : ℕ) → t.kept ≡ Some kept → port_at t.names kept ≡ None) → HasNoneKept p
none_kept t p len x none port name is h = some_or_none port _ (x.named port name h) (none name (sym x.same_kept ∙ is))

-- the name that a port leads to is in use
pub leads_to : (t : SpaceView) (p : PortsView) (len : ℕ) → IsSound t p len → (port name : ℕ) → map.get p.names port ≡ Some name → map.contains_key t.names name ≡ true
leads_to t p len x port name is = grind (arith, is_some, some_or_none)

-- no name has the port
pub leads_nowhere : (t : SpaceView) (p : PortsView) (len : ℕ) → IsSound t p len → (port : ℕ) → map.get p.names port ≡ None → (name : ℕ) → port_at t.names name ≢ Some port
leads_nowhere t p len x port none name h = some_or_none name _ (x.found port name h) none

-- a send reference is for the same port
pub port_with_send : (e : Entry) → port_named (with_send e) ≡ port_named e
port_with_send (Receive port) = refl
port_with_send (Send port references) = refl
port_with_send (ReceiveAndSend port references) = refl
port_with_send (SendOnce port) = refl
port_with_send (DeadName references) = refl
port_with_send (Set set) = refl

pub sound_empty : (t : SpaceView) (p : PortsView) (given : Option Given) → t ≡ record { names = map.empty; room = 0; kept = None; given = given } → p ≡ record { names = map.empty; room = 0; kept = None } → IsSound t p 0
sound_empty t p given e f = record {
  named = λ port name h. absurd (some_or_none name _ h (ap (λ (a : PortsView). map.get a.names port) f ∙ map.get-empty nat_cmp port));
  found = λ port name h. absurd (some_or_none port _ h (ap (option_and_then port_named) (nothing name)));
  same_kept = ap (λ (a : PortsView). a.kept) f ∙ sym (ap (λ (a : SpaceView). a.kept) e);
  has_room = (let none : t.room ≡ 0 = ap (λ (a : SpaceView). a.room) e in omega arith);
  counted = sym (ap (λ (a : SpaceView). map.len a.names) e ∙ map.len-empty nat_cmp Entry);
  few = omega arith;
  not_null = nothing null_word;
  not_dead = nothing dead_word;
}
  where
    nothing : (q : ℕ) → map.get t.names q ≡ None
    nothing q = ap (λ (a : SpaceView). map.get a.names q) e ∙ map.get-empty nat_cmp q

-- ---- a name goes and its entry comes again under another

module _ (t : SpaceView) (p : PortsView) (len : ℕ) (x : IsSound t p len) (u : SpaceView) (name to : ℕ) (e : Entry)
    (is : u ≡ record { names = map.remove t.names name; room = t.room; kept = t.kept; given = t.given }) (there : map.get t.names name ≡ Some e) (unused : map.get t.names to ≡ None) where
  pub unused_after : map.get u.names to ≡ None
  unused_after = ap (λ (a : SpaceView). map.get a.names to) is ∙ out_none t.names name to unused

  pub not_full_after : map.len u.names < most_names
  not_full_after = grind (arith, len-gone)

  apart_after : HasNoOther u.names e
  apart_after = subst (λ (a : SpaceView). HasNoOther a.names e) (sym is) (no_other_left t p len x name e there)

  one_more : len - 1 + 1 ≡ len
  one_more = let some : 1 ≤ len = some_name t p len x u name e is there in omega arith

  module _ (w : SpaceView) (put : w ≡ record { names = map.insert u.names to e; room = u.room - 1; kept = u.kept; given = u.given }) (usable : IsUsable to) where
    pub moved_none : port_named e ≡ None → IsSound w p len
    moved_none none =
        subst (IsSound w p) one_more
        (sound-put_none u p (len - 1) (sound-out_none t p len x u name e is there none) w to e put usable unused_after not_full_after none)

    module _ (q : PortsView) (port : ℕ) (named : port_named e ≡ Some port) (out : q ≡ record { names = map.remove p.names port; room = p.room; kept = p.kept }) where
      without : IsSound u q (len - 1)
      without = sound-out t p len x u name e is there q port named out

      pub moved : (r : PortsView) → r.names ≡ map.insert q.names port to → r.kept ≡ q.kept → q.room ≤ r.room + 1 → IsSound w r len
      moved r ports kept room =
          subst (IsSound w r) one_more
          (sound-put u q (len - 1) without w to e put usable unused_after not_full_after r port named apart_after ports kept room)

      pub free_after : (k : ℕ) → map.get q.names k ≢ Some to
      free_after k = port_free u q (len - 1) without to unused_after k

      pub absent_after : map.get q.names port ≡ None
      absent_after = ap (λ (a : PortsView). map.get a.names port) out ∙ out_here p.names port

-- what a view says of a space, of what lies in it
pub inside : (P : SpaceView → Type 0) (t v : SpaceView) → t ≡ v → P v → P t
inside P t v e h = subst P (sym e) h

-- the counts change, and nothing that a space has to keep
pub sound-counted : (t u : SpaceView) (p : PortsView) (len : ℕ) → IsSound t p len → u ≡ record { names = t.names; room = t.room; kept = t.kept; given = u.given } → IsSound u p len
sound-counted t u p len x is = grind arith
