-- A port leads to its name, as names come and go.
use Rattle.std.proofs.Common.{◌≡◌, ◌≢◌, inl, inr, ℕ, ◌+◌, ◌-◌, ◌<◌, true, refl, ap, sym, ◌∙◌, Option, Some, None, is_some, cond, arith}
use Rattle.std.specs.Option.{option_and_then}
use Rattle.std.specs.Cmp.{nat_cmp_total}
use Rattle.std.specs.FinMap as map
use Rattle.name_space.specs.declared.Entry.{Entry}
use Rattle.name_space.specs.Entry.{port_named}
use Rattle.name_space.specs.Names.{Names, port_at, HasNoOther}
use Rattle.name_space.specs.Ports.{PortNames}
use Rattle.name_space.proofs.Keys.{same_some, some_or_none, equal_or_not, put_here, put_other, out_here, out_other, fewer}

pub record AreLinked (names : Names) (ports : PortNames) : Type 0 where
  pub named : (port name : ℕ) → map.get ports port ≡ Some name → port_at names name ≡ Some port
  pub found : (port name : ℕ) → port_at names name ≡ Some port → map.get ports port ≡ Some name

-- only the ports of names matter
pub same_ports : (names new : Names) (ports : PortNames) → AreLinked names ports → ((n : ℕ) → port_at new n ≡ port_at names n) → AreLinked new ports
same_ports names new ports x same = grind arith

module _ (names : Names) (name : ℕ) where
  pub port_put : (e : Entry) → port_at (map.insert names name e) name ≡ port_named e
  port_put e = ap (option_and_then port_named) (put_here names name e)

  pub port_put_other : (e : Entry) (q : ℕ) → q ≢ name → port_at (map.insert names name e) q ≡ port_at names q
  port_put_other e q d = ap (option_and_then port_named) (put_other names name e q d)

  pub port_out : port_at (map.remove names name) name ≡ None
  port_out = ap (option_and_then port_named) (out_here names name)

  pub port_out_other : (q : ℕ) → q ≢ name → port_at (map.remove names name) q ≡ port_at names q
  port_out_other q d = ap (option_and_then port_named) (out_other names name q d)

  -- an entry of the same port, or of none where there was none
  pub ports_put : (e : Entry) → port_named e ≡ port_at names name → (q : ℕ) → port_at (map.insert names name e) q ≡ port_at names q
  ports_put e same q = grind (arith, equal_or_not, port_put, port_put_other)

  pub ports_out : port_at names name ≡ None → (q : ℕ) → port_at (map.remove names name) q ≡ port_at names q
  ports_out none q = grind (arith, equal_or_not, port_out, port_out_other)

  -- an entry of no port is as good as none
  pub ports_lost : (e : Entry) → port_named e ≡ None → (q : ℕ) → port_at (map.insert names name e) q ≡ port_at (map.remove names name) q
  ports_lost e none q = elim (equal_or_not q name) [
    | inl a ↦ ap (port_at (map.insert names name e)) a ∙ port_put e ∙ none ∙ sym port_out ∙ ap (port_at (map.remove names name)) (sym a)
    | inr d ↦ port_put_other e q d ∙ sym (port_out_other q d)
  ]

module _ (names : Names) (ports : PortNames) (x : AreLinked names ports) where
  pub one_name : (a b port : ℕ) → port_at names a ≡ Some port → port_at names b ≡ Some port → a ≡ b
  one_name a b port e f = same_some a b (sym (x.found port a e) ∙ x.found port b f)

  -- a port that no name is for isn't there
  pub no_port : (e : Entry) (port : ℕ) → HasNoOther names e → port_named e ≡ Some port → map.get ports port ≡ None
  no_port e port apart is = from (map.get ports port) refl
    where
      from : (o : Option ℕ) → map.get ports port ≡ o → map.get ports port ≡ None
      from None h = h
      from (Some n) h = absurd (apart port n is (x.named port n h))

  -- a name that isn't in use has no port
  pub no_name_of : (name : ℕ) → map.get names name ≡ None → (port : ℕ) → map.get ports port ≢ Some name
  no_name_of name unused port e = some_or_none port _ (x.named port name e) (ap (option_and_then port_named) unused)

  -- an entry of a port comes
  pub linked-put : (name : ℕ) (e : Entry) (p : ℕ) → port_named e ≡ Some p → map.get names name ≡ None → HasNoOther names e → AreLinked (map.insert names name e) (map.insert ports p name)
  linked-put name e p is unused apart = grind (arith, equal_or_not, same_some, put_here, port_put, put_other, port_put_other, no_name_of)

  -- the name of a port goes
  pub linked-out : (name p : ℕ) → port_at names name ≡ Some p → AreLinked (map.remove names name) (map.remove ports p)
  linked-out name p is = grind (arith, equal_or_not, some_or_none, out_here, out_other, port_out_other, same_some, port_out, one_name)

-- ---- how many names there are

pub len-new : (m : Names) (k : ℕ) (v : Entry) → map.get m k ≡ None → map.len (map.insert m k v) ≡ map.len m + 1
len-new m k v none = map.len-insert nat_cmp_total m k v ∙ ap (λ o. cond (is_some o) (map.len m) (map.len m + 1)) none

pub len-over : (m : Names) (k : ℕ) (v : Entry) → map.contains_key m k ≡ true → map.len (map.insert m k v) ≡ map.len m
len-over m k v there = map.len-insert nat_cmp_total m k v ∙ ap (λ b. cond b (map.len m) (map.len m + 1)) there

pub len-gone : (m : Names) (k : ℕ) (v : Entry) → map.get m k ≡ Some v → map.len (map.remove m k) + 1 ≡ map.len m
len-gone m k v there =
    let out : map.len (map.remove m k) ≡ map.len m - 1 = map.len-remove nat_cmp_total m k ∙ ap (λ o. cond (is_some o) (map.len m - 1) (map.len m)) there in
    let less : map.len (map.remove m k) < map.len m = fewer m k v there (omega arith) in
    omega arith
